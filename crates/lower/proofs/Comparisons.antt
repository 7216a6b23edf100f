-- Comparisons of a value with cases.
use Rattle.std.proofs.Common.{◌≡◌, ℕ, zero, suc, ◌+◌, ◌-◌, ◌<◌, ◌≤◌, List, [], ◌∷◌, ◌++◌, refl, sym, ap, ◌∙◌, arith}
use Rattle.std.proofs.Common.{subst}
use Rattle.std.proofs.Common.{drop, length, Option, Some, None}
use Rattle.std.specs.Prelude.{ℤ, get_or}
use Rattle.c_tree.specs.declared.statement.Label.{Label}
use Rattle.flow_graph.specs.declared.op.Comparison.TheVariants.{Eq}
use Rattle.flow_graph.specs.declared.op.Op.TheVariants as op
use Rattle.lower_builder.specs.Built.{Built, Adds}
use Rattle.lower.proofs.Resting.{Rests}
use Rattle.lower_lines.specs.Lines.{Line, Emit, Start}
use Rattle.lower_lines.specs.Statements.{Case, case_of, cases_of, comparing, comparing_blocks, labelled_before}
use Rattle.lower_lines.specs.Variables.{Context, ForScratch, temporary}
use Rattle.lower_expressions.proofs.Chained.{behind}

-- one block for each case but the last
pub behind-count : (cases : List Case) → length cases - 1 ≡ comparing_blocks cases
behind-count [] = refl
behind-count (one ∷ []) = refl
behind-count (one ∷ other ∷ cases) =
    let e : length (one ∷ other ∷ cases) - 1 ≡ suc (length (other ∷ cases) - 1) = omega arith in
    e ∙ ap suc (behind-count (other ∷ cases))

-- ---- the blocks that comparisons take don't depend on the first block

case-same : (value : Option ℤ) (j k : ℕ) (xs ys : List Case) → length xs ≡ length ys
    → length (case_of value j ++ xs) ≡ length (case_of value k ++ ys)
case-same None j k xs ys e = e
case-same (Some value) j k xs ys e = ap suc e

cases-same : (a b : ℕ) (all labels : List Label) → length (cases_of a all labels) ≡ length (cases_of b all labels)
cases-same a b all [] = refl
cases-same a b all (label ∷ labels) = case-same label.value (a + labelled_before all label.before)
    (b + labelled_before all label.before) (cases_of a all labels) (cases_of b all labels) (cases-same a b all labels)

pub blocks-same : (a b : ℕ) (all labels : List Label)
    → comparing_blocks (cases_of a all labels) ≡ comparing_blocks (cases_of b all labels)
blocks-same a b all labels = sym (behind-count (cases_of a all labels))
    ∙ ap (λ (n : ℕ). n - 1) (cases-same a b all labels) ∙ behind-count (cases_of b all labels)

-- ---- one comparison more

-- a comparison with a case
abbrev pub comparison : Context → ℕ → Case → ℕ → List Line
comparison c x one fails = Emit (op.Const (temporary c 0 ForScratch) one.0)
    ∷ Emit (op.Branch Eq x (temporary c 0 ForScratch) one.1 fails) ∷ []

one-of : (cases : List Case) (i : ℕ) (d : Case) → i < length cases → drop i cases ≡ get_or cases i d ∷ drop (suc i)
    cases
one-of [] i d there = absurd (omega (arith, there))
one-of (y ∷ ys) zero d there = refl
one-of (y ∷ ys) (suc i) d there = one-of ys i d (omega (arith, there))

none-of : (cases : List Case) (i : ℕ) → length cases ≤ i → drop i cases ≡ []
none-of [] zero w = refl
none-of [] (suc i) w = refl
none-of (x ∷ xs) zero w = absurd (omega (arith, w))
none-of (x ∷ xs) (suc i) w = none-of xs i (omega (arith, w))

-- a comparison with another behind it
front-more : (c : Context) (x otherwise block : ℕ) (one : Case) (rest : List Case) (i : ℕ) (cases : List Case)
    → i < length cases → rest ≡ drop i cases
    → comparison c x one block ++ (Start block ∷ comparing c x otherwise rest (suc block))
    ≡ comparing c x otherwise (one ∷ rest) block
front-more c x otherwise block one [] i cases there e =
    absurd (empty-not cases i there e)
  where
    empty-not : (cases : List Case) (i : ℕ) → i < length cases → [] ≡ drop i cases → ⊥
    empty-not [] i there e = omega (arith, there)
    empty-not (y ∷ ys) zero there e = cc
    empty-not (y ∷ ys) (suc i) there e = empty-not ys i (omega (arith, there)) e
front-more c x otherwise block one (other ∷ rest) i cases there e = refl

pub compare-more : (c : Context) (x otherwise : ℕ) (cases : List Case) (i block next : ℕ) (d : Case)
    {now between new initial : Built} {all : ℕ} {whole : List Line} → i < length cases - 1 → next ≡ block + 1
    → Rests now 0 (λ k. comparing c x otherwise (drop i cases) block) initial all whole
    → Adds now between 0 (comparison c x (get_or cases i d) block) → Adds between new 0 (Start block ∷ [])
    → Rests new 0 (λ k. comparing c x otherwise (drop (i + 1) cases) next) initial all whole
compare-more c x otherwise cases i block next d {now} {between} {new} {initial} {all} {whole} there e h one start v b =
    let at : next ≡ suc block = omega (arith, e) in
    let plus : suc i ≡ i + 1 = omega arith in
    let within : i < length cases = omega (arith, there) in
    let within' : i + 1 < length cases = omega (arith, there) in
    let one' = get_or cases i d in
    let rest = drop (i + 1) cases in
    let C : ℕ → List Line = λ k. comparing c x otherwise rest k in
    let b' : Adds new v 0 (C (suc block)) = subst (λ (k : ℕ). Adds new v 0 (C k)) at b in
    let both : Adds now v 0 (comparison c x one' block ++ (Start block ∷ C (suc block))) =
    behind (Start block ∷ C (suc block)) one (behind (C (suc block)) start b') in
    let is : drop i cases ≡ one' ∷ rest = one-of cases i d within ∙ ap (λ (n : ℕ). one' ∷ drop n cases) plus in
    h v (subst (λ (ls : List Line). Adds now v 0 ls) (front-more c x otherwise block one' rest (i + 1) cases within'
    refl
    ∙ ap (λ (cs : List Case). comparing c x otherwise cs block) (sym is)) both)

pub compare-last : (c : Context) (x otherwise : ℕ) (cases : List Case) (i block : ℕ) (d : Case)
    {now new initial : Built} {all : ℕ} {whole : List Line} → i < length cases → length cases - 1 ≤ i
    → Rests now 0 (λ k. comparing c x otherwise (drop i cases) block) initial all whole
    → Adds now new 0 (comparison c x (get_or cases i d) otherwise) → Adds initial new all whole
compare-last c x otherwise cases i block d {now} {new} {initial} {all} {whole} there last h one =
    let none : length cases ≤ suc i = omega (arith, last) in
    let is : drop i cases ≡ get_or cases i d ∷ [] = one-of cases i d there
    ∙ ap (λ (cs : List Case). get_or cases i d ∷ cs) (none-of cases (suc i) none) in
    h new (subst (λ (cs : List Case). Adds now new 0 (comparing c x otherwise cs block)) (sym is) one)
