-- Statements in order.
use Rattle.std.proofs.Common.{◌≡◌, ℕ, zero, suc, ◌+◌, ◌<◌, ◌≤◌, List, [], ◌∷◌, ◌++◌, refl, sym, ap, ◌∙◌, arith}
use Rattle.std.proofs.Common.{append-nil, drop, length, subst, true}
use Rattle.std.specs.Prelude.{Bool, get_or}
use Rattle.c_tree.specs.Erased.{statement_of, statements_of}
use Rattle.c_tree.specs.declared.statement.Statement.{Statement}
use Rattle.lower_builder.specs.Built.{Built, Adds}
use Rattle.lower.specs.Walks.{AddsIf}
use Rattle.lower.proofs.Resting.{Rests}
use Rattle.lower_lines.specs.Lines.{Line}
use Rattle.lower_lines.specs.Statements.{After, Exits, Labelled, Run, run_of, runs_of, sequence_blocks, sequence_lines}
use Rattle.lower_lines.specs.Statements.{started, towards}
use Rattle.lower_lines.specs.Variables.{Context}
use Rattle.lower_builder.proofs.Joined.{counted, lined, nothing, two}
use Rattle.lower_expressions.proofs.Chained.{next-to}

-- ---- the statements from a place on, behind others

abbrev pub rest_lines : Context → Labelled → ℕ → List Run → Exits → After → ℕ → List Line
rest_lines c labelled place [] exits after block = []
rest_lines c labelled place (r ∷ rs) exits after block = sequence_lines c labelled place (r ∷ rs) exits block after

abbrev pub rest_blocks : Labelled → ℕ → List Run → After → ℕ
rest_blocks labelled place [] after = 0
rest_blocks labelled place (r ∷ rs) after = sequence_blocks labelled place (r ∷ rs) after

-- where control goes behind a statement
abbrev pub next_for : List Run → After → After → After
next_for [] inside last = last
next_for (r ∷ rs) inside last = inside

first-lines : (c : Context) (labelled : Labelled) (place : ℕ) (r : Run) (rs : List Run) (exits : Exits) (after : After)
    (block : ℕ) → let next = next_for rs (towards (labelled (suc place))) after in
    started (labelled place) ++ (r.lines exits block next
    ++ rest_lines c labelled (suc place) rs exits after (block + r.blocks next))
    ≡ rest_lines c labelled place (r ∷ rs) exits after block
first-lines c labelled place r [] exits after block =
    ap (λ ls. started (labelled place) ++ ls) (append-nil (r.lines exits block after))
first-lines c labelled place r (q ∷ rs) exits after block = refl

first-blocks : (labelled : Labelled) (place : ℕ) (r : Run) (rs : List Run) (after : After)
    → r.blocks (next_for rs (towards (labelled (suc place))) after) + rest_blocks labelled (suc place) rs after
    ≡ rest_blocks labelled place (r ∷ rs) after
first-blocks labelled place r [] after = omega arith
first-blocks labelled place r (q ∷ rs) after = refl

-- one statement more
one-more : (c : Context) (labelled : Labelled) (place : ℕ) (r : Run) (rs : List Run) (exits : Exits) (after next :
    After)
    {s t u v : Built} → next ≡ next_for rs (towards (labelled (suc place))) after
    → Adds s t 0 (started (labelled place)) → Adds t u (r.blocks next) (r.lines exits t.next next)
    → Adds u v (rest_blocks labelled (suc place) rs after) (rest_lines c labelled (suc place) rs exits after u.next)
    → Adds s v (rest_blocks labelled place (r ∷ rs) after)
    (rest_lines c labelled place (r ∷ rs) exits after s.next)
one-more c labelled place r rs exits after next {s} {t} {u} {v} is start one rest =
    let to = next_for rs (towards (labelled (suc place))) after in
    let one' : Adds t u (r.blocks to) (r.lines exits t.next to) =
    subst (λ (k : After). Adds t u (r.blocks k) (r.lines exits t.next k)) is one in
    let Z : ℕ → List Line = λ k. rest_lines c labelled (suc place) rs exits after k in
    counted (first-blocks labelled place r rs after) (lined (first-lines c labelled place r rs exits after s.next)
    (next-to (λ k. r.lines exits k to ++ Z (k + r.blocks to)) start (two Z one' rest)))

-- ---- in memory

-- the runs of statements in memory
abbrev pub runs : Context → List Statement → List Run
runs c xs = runs_of c (statements_of xs)

next-in : (c : Context) (xs : List Statement) (i : ℕ) (next inside last : After)
    → (suc i < length xs → next ≡ inside) → (length xs ≤ suc i → next ≡ last) → i < length xs
    → next ≡ next_for (runs c (drop (suc i) xs)) inside last
next-in c [] i next inside last a b there = absurd (omega (arith, there))
next-in c (x ∷ []) zero next inside last a b there = b (omega arith)
next-in c (x ∷ y ∷ ys) zero next inside last a b there = a (omega arith)
next-in c (x ∷ xs) (suc i) next inside last a b there =
    next-in c xs i next inside last (λ h. a (omega (arith, h))) (λ h. b (omega (arith, h))) (omega (arith, there))

next-is : (c : Context) (xs : List Statement) (i : ℕ) (next inside last : After)
    → (i + 1 < length xs → next ≡ inside) → (length xs ≤ i + 1 → next ≡ last) → i < length xs
    → next ≡ next_for (runs c (drop (i + 1) xs)) inside last
next-is c xs i next inside last a b there =
    let plus : suc i ≡ i + 1 = omega arith in
    next-in c xs i next inside last (λ h. a (omega (arith, h))) (λ h. b (omega (arith, h))) there
    ∙ ap (λ n. next_for (runs c (drop n xs)) inside last) plus

one-in : (xs : List Statement) (i : ℕ) (d : Statement) → i < length xs → drop i xs ≡ get_or xs i d ∷ drop (suc i) xs
one-in [] i d there = absurd (omega (arith, there))
one-in (y ∷ ys) zero d there = refl
one-in (y ∷ ys) (suc i) d there = one-in ys i d (omega (arith, there))

one-of : (xs : List Statement) (i : ℕ) (d x : Statement) → i < length xs → x ≡ get_or xs i d
    → drop i xs ≡ x ∷ drop (i + 1) xs
one-of xs i d x there e =
    let plus : suc i ≡ i + 1 = omega arith in
    one-in xs i d there ∙ ap (λ n. get_or xs i d ∷ drop n xs) plus ∙ ap (λ y. y ∷ drop (i + 1) xs) (sym e)

-- what is left to add makes the whole, where the blocks named ahead are right so far
abbrev pub RestsIf : Bool → Bool → Built → ℕ → (ℕ → List Line) → Built → ℕ → List Line → Type 0
RestsIf old now s blocks lines initial all whole = now ≡ true → (old ≡ true) × Rests s blocks lines initial all whole

pub row-more : (c : Context) (labelled : Labelled) (xs : List Statement) (i : ℕ) (d x : Statement)
    (exits : Exits) (after next : After) {old now new : Bool} {s t u initial : Built} {all : ℕ} {whole : List Line} → i
    < length xs
    → x ≡ get_or xs i d → (i + 1 < length xs → next ≡ towards (labelled (i + 1)))
    → (length xs ≤ i + 1 → next ≡ after)
    → RestsIf old now s (rest_blocks labelled i (runs c (drop i xs)) after)
    (rest_lines c labelled i (runs c (drop i xs)) exits after) initial all whole
    → Adds s t 0 (started (labelled i))
    → AddsIf now new t u ((run_of c (statement_of x)).blocks next)
    ((run_of c (statement_of x)).lines exits t.next next)
    → RestsIf old new u (rest_blocks labelled (i + 1) (runs c (drop (i + 1) xs)) after)
    (rest_lines c labelled (i + 1) (runs c (drop (i + 1) xs)) exits after) initial all whole
row-more c labelled xs i d x exits after next {old} {now} {new} {s} {t} {u} {initial} {all} {whole} there e inside last
    h
    start one right =
    let said = one right in
    let before = h said.0 in
    let rs = runs c (drop (i + 1) xs) in
    let r = run_of c (statement_of x) in
    let plus : i + 1 ≡ suc i = omega arith in
    let to : next ≡ next_for rs (towards (labelled (suc i))) after =
    next-is c xs i next (towards (labelled (i + 1))) after inside last there
    ∙ ap (λ k. next_for rs (towards (labelled k)) after) plus in
    let rests : Rests s (rest_blocks labelled i (r ∷ rs) after) (rest_lines c labelled i (r ∷ rs) exits after) initial
    all whole = subst (λ (ys : List Statement). Rests s (rest_blocks labelled i (runs c ys) after)
    (rest_lines c labelled i (runs c ys) exits after) initial all whole) (one-of xs i d x there e) before.1 in (
      before.0,
      subst (λ (k : ℕ). Rests u (rest_blocks labelled k rs after) (rest_lines c labelled k rs exits after)
          initial all whole) (sym plus) (λ v b. rests v (one-more c labelled i r rs exits after next to start said.1
          b)),
    )

pub row-first : (c : Context) (labelled : Labelled) (xs : List Statement) (exits : Exits) (after : After) (flag : Bool)
    (s : Built) → 0 < length xs → RestsIf flag flag s (rest_blocks labelled 0 (runs c xs) after)
    (rest_lines c labelled 0 (runs c xs) exits after) s (sequence_blocks labelled 0 (runs c xs) after)
    (sequence_lines c labelled 0 (runs c xs) exits s.next after)
row-first c labelled [] exits after flag s there right = absurd (omega (arith, there))
row-first c labelled (x ∷ xs) exits after flag s there right = (right, λ v b. b)

pub row-none : (c : Context) (labelled : Labelled) (xs : List Statement) (i : ℕ) (exits : Exits) (after : After)
    {old now : Bool} {s initial : Built} {all : ℕ} {whole : List Line} → length xs ≤ i
    → RestsIf old now s (rest_blocks labelled i (runs c (drop i xs)) after)
    (rest_lines c labelled i (runs c (drop i xs)) exits after) initial all whole → AddsIf old now initial s all whole
row-none c labelled xs i exits after {old} {now} {s} {initial} {all} {whole} w h right =
    let before = h right in (
      before.0,
      subst (λ (ys : List Statement). Rests s (rest_blocks labelled i (runs c ys) after)
          (rest_lines c labelled i (runs c ys) exits after) initial all whole) (none-of xs i w) before.1 s (nothing s),
    )
  where
    none-of : (xs : List Statement) (i : ℕ) → length xs ≤ i → drop i xs ≡ []
    none-of [] zero w = refl
    none-of [] (suc i) w = refl
    none-of (x ∷ xs) zero w = absurd (omega (arith, w))
    none-of (x ∷ xs) (suc i) w = none-of xs i (omega (arith, w))
