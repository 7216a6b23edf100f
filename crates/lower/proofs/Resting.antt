-- A loop that adds lines: what is left to add makes the whole.
use Rattle.std.proofs.Common.{◌≡◌, ℕ, zero, suc, ◌+◌, ◌<◌, ◌≤◌, List, [], ◌∷◌, ◌++◌, refl, sym, ap, ◌∙◌, arith}
use Rattle.std.proofs.Common.{append_assoc, map, drop, length, subst, pos, true}
use Rattle.std.specs.Prelude.{get_or}
use Rattle.std.proofs.lemmas.List.{drop-map, drop_all}
use Rattle.c_tree.specs.declared.types.IntegerType.{IntegerType}
use Rattle.c_tree.specs.Program.{Expression, Initialiser, Item, Text}
use Rattle.flow_graph.specs.declared.op.Op.TheVariants as op
use Rattle.lower_builder.specs.Built.{Built, Adds}
use Rattle.lower_lines.specs.Expressions.{part_of}
use Rattle.lower_lines.specs.Lines.{Line, Emit}
use Rattle.lower_lines.specs.Parts.{bits_of, operand}
use Rattle.lower_lines.specs.Statements.{array_blocks, array_lines, elements_blocks, elements_lines}
use Rattle.lower_lines.specs.Statements.{item_blocks, item_lines, items_blocks}
use Rattle.lower_lines.specs.Statements.{items_lines}
use Rattle.lower_lines.specs.Variables.{Context, own}
use Rattle.lower_expressions.proofs.Chained.{next-to}
use Rattle.lower_expressions.specs.Copies.{text_lines}
use Rattle.lower_builder.proofs.Joined.{lined, nothing, two}

abbrev pub Rests : Built → ℕ → (ℕ → List Line) → Built → ℕ → List Line → Type 0
Rests now blocks lines initial all whole =
    (new : Built) → Adds now new blocks (lines now.next) → Adds initial new all whole

pub rests_first : (s : Built) (blocks : ℕ) (lines : ℕ → List Line) → Rests s blocks lines s blocks (lines s.next)
rests_first s blocks lines new a = a

pub rests_more : {now next initial : Built} {m n all : ℕ} {whole : List Line} (xs ys : ℕ → List Line)
    → Rests now (m + n) (λ k. xs k ++ ys (k + m)) initial all whole → Adds now next m (xs now.next)
    → Rests next n ys initial all whole
rests_more xs ys h a new b = h new (two ys a b)

pub rests_none : {now initial : Built} {all : ℕ} {whole : List Line}
    → Rests now 0 (λ k. []) initial all whole → Adds initial now all whole
rests_none {now} h = h now (nothing now)

-- ---- what is left of a list

one_in : {A B : Type 0} (f : A → B) (xs : List A) (i : ℕ) (d : A) → i < length xs
    → drop i (map f xs) ≡ f (get_or xs i d) ∷ drop (suc i) (map f xs)
one_in f [] i d there = absurd (omega (arith, there))
one_in f (y ∷ ys) zero d there = refl
one_in f (y ∷ ys) (suc i) d there = one_in f ys i d (omega (arith, there))

pub one_more : {A B : Type 0} (f : A → B) (xs : List A) (i : ℕ) (d : A) → i < length xs
    → drop i (map f xs) ≡ f (get_or xs i d) ∷ drop (i + 1) (map f xs)
one_more f xs i d there =
    let plus : suc i ≡ i + 1 = omega arith in
    one_in f xs i d there ∙ ap (λ n. f (get_or xs i d) ∷ drop n (map f xs)) plus

pub no_more : {A B : Type 0} (f : A → B) (xs : List A) (i : ℕ) → length xs ≤ i → drop i (map f xs) ≡ []
no_more f xs i w = drop-map f i xs ∙ ap (map f) (drop_all i xs w)

-- ---- elements

abbrev pub element_lines : Context → IntegerType → ℕ → Expression → ℕ → List Line
element_lines c t place e block =
    let x = operand c true (part_of c e) in
    x.lines block 1 ++ (Emit (op.Const (own c 0).number (pos place))
    ∷ Emit (op.Store (bits_of t) (own c 0).array (own c 0).number (x.spot 1).number) ∷ [])

pub elements_more : {A : Type 0} (f : A → Expression) (c : Context) (t : IntegerType) (xs : List A) (i : ℕ) (d x : A)
    {now next initial : Built} {all : ℕ} {whole : List Line} → i < length xs → x ≡ get_or xs i d
    → Rests now (elements_blocks c (drop i (map f xs))) (elements_lines c t i (drop i (map f xs))) initial all whole
    → Adds now next (operand c true (part_of c (f x))).blocks (element_lines c t i (f x) now.next)
    → Rests next (elements_blocks c (drop (i + 1) (map f xs))) (elements_lines c t (i + 1) (drop (i + 1) (map f xs)))
    initial all whole
elements_more {A} f c t xs i d x {now} {next} {initial} {all} {whole} there e h a new b =
    let es = drop (i + 1) (map f xs) in
    let o = operand c true (part_of c (f x)) in
    let one : i + 1 ≡ suc i = omega arith in
    let h' : Rests now (elements_blocks c (f x ∷ es)) (elements_lines c t i (f x ∷ es)) initial all whole =
    subst (λ (us : List Expression). Rests now (elements_blocks c us) (elements_lines c t i us) initial all whole)
    (one_more f xs i d there ∙ ap (λ (y : A). f y ∷ drop (i + 1) (map f xs)) (sym e)) h in
    let store = Emit (op.Const (own c 0).number (pos i))
    ∷ Emit (op.Store (bits_of t) (own c 0).array (own c 0).number (o.spot 1).number) ∷ [] in
    h' new (lined (append_assoc (o.lines now.next 1) store (elements_lines c t (i + 1) es (now.next + o.blocks))
    ∙ ap (λ (n : ℕ). o.lines now.next 1 ++ (store ++ elements_lines c t n es (now.next + o.blocks))) one)
    (two (elements_lines c t (i + 1) es) a b))

pub elements_none : {A : Type 0} (f : A → Expression) (c : Context) (t : IntegerType) (xs : List A) (i : ℕ)
    {now initial : Built} {all : ℕ} {whole : List Line} → length xs ≤ i
    → Rests now (elements_blocks c (drop i (map f xs))) (elements_lines c t i (drop i (map f xs))) initial all whole
    → Adds initial now all whole
elements_none f c t xs i {now} {initial} {all} {whole} w h =
    rests_none (subst (λ (us : List Expression). Rests now (elements_blocks c us) (elements_lines c t i us) initial all
    whole) (no_more f xs i w) h)

-- ---- items

pub items_more : {A : Type 0} (f : A → Item) (c : Context) (xs : List A) (i : ℕ) (d x : A) {now next initial : Built}
    {all : ℕ} {whole : List Line} → i < length xs → x ≡ get_or xs i d
    → Rests now (items_blocks c (drop i (map f xs))) (items_lines c (drop i (map f xs))) initial all whole
    → Adds now next (item_blocks c (f x)) (item_lines c (f x) now.next)
    → Rests next (items_blocks c (drop (i + 1) (map f xs))) (items_lines c (drop (i + 1) (map f xs))) initial all whole
items_more {A} f c xs i d x {now} {next} {initial} {all} {whole} there e h a new b =
    let is = drop (i + 1) (map f xs) in
    let h' : Rests now (items_blocks c (f x ∷ is)) (items_lines c (f x ∷ is)) initial all whole =
    subst (λ (us : List Item). Rests now (items_blocks c us) (items_lines c us) initial all whole)
    (one_more f xs i d there ∙ ap (λ (y : A). f y ∷ drop (i + 1) (map f xs)) (sym e)) h in
    h' new (two (items_lines c is) a b)

pub items_none : {A : Type 0} (f : A → Item) (c : Context) (xs : List A) (i : ℕ) {now initial : Built} {all : ℕ}
    {whole : List Line} → length xs ≤ i
    → Rests now (items_blocks c (drop i (map f xs))) (items_lines c (drop i (map f xs))) initial all whole
    → Adds initial now all whole
items_none f c xs i {now} {initial} {all} {whole} w h =
    rests_none (subst (λ (us : List Item). Rests now (items_blocks c us) (items_lines c us) initial all whole)
    (no_more f xs i w) h)

-- ---- strings

pub text-array : (c : Context) (k : ℕ) (t : IntegerType) (object : ℕ) {i : Initialiser} {s u v : Built}
    → i ≡ Text object → Adds s u 0 (Emit (op.Clear k) ∷ Emit (op.Frame (own c 0).array k) ∷ [])
    → Adds u v 2 (text_lines c k t object u.next)
    → Adds s v (array_blocks c i) (array_lines c k t i s.next)
text-array c k t object {i} {s} {u} {v} e clear text =
    subst (λ (j : Initialiser). Adds s v (array_blocks c j) (array_lines c k t j s.next)) (sym e)
    (next-to (λ (n : ℕ). text_lines c k t object n) clear text)
