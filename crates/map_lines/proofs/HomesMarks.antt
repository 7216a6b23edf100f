-- What holds of the marks of a map, of the marks of its functions' points.
use Rattle.std.proofs.Common.{◌≡◌, ℕ, suc, ◌+◌, Bool, true, false, List, [], ◌∷◌, eqb, Option, Some, None, refl}
use Rattle.std.proofs.Common.{ap, subst, arith}
use Rattle.std.specs.Prelude.{filter_map, if◌then◌else◌, option_map, slice_get}
use Rattle.std.specs.List.{AllByRecursion, cons_option}
use Rattle.std.proofs.lemmas.Bool.{eqb-true}
use Rattle.std.proofs.lemmas.Option.{none-some, same_Some}
use Rattle.pcc_base.specs.Outcome.{Part}
use Rattle.pcc_base.proofs.Lists.{all-append}
use Rattle.flow_graph.specs.declared.op.Op.{Op}
use Rattle.flow_graph.specs.declared.op.Op.TheVariants as op
use Rattle.flow_graph.specs.Kinds.{marked}
use Rattle.map_text.specs.Maps.{Map, MapFunction, MapPoint, points_of}
use Rattle.map_text.specs.Marks.{MarkAt, listed_by, mark_at, marks_from, part_of, variables_in}

-- ---- lists

filter-one : {Y : Type 0} (P : Y → Type 0) (o : Option Y) (rest : List Y) → ((y : Y) → o ≡ Some y → P y)
    → AllByRecursion P rest → AllByRecursion P (cons_option o rest)
filter-one P None rest each all = all
filter-one P (Some y) rest each all = (each y refl, all)

-- what holds of everything that a function gives of the elements
pub filter-all : {X Y : Type 0} (P : Y → Type 0) (g : X → Option Y) (xs : List X)
    → ((x : X) (y : Y) → g x ≡ Some y → P y)
    → AllByRecursion P (filter_map g xs)
filter-all P g [] each = tt
filter-all P g (x ∷ xs) each = filter-one P (g x) (filter_map g xs) (λ y e. each x y e) (filter-all P g xs each)

either-all : (P : Part → Type 0) (b : Bool) (xs ys : List Part) → (b ≡ true → AllByRecursion P xs)
    → AllByRecursion P ys → AllByRecursion P (if b then xs else ys)
either-all P true xs ys one other = one refl
either-all P false xs ys one other = other

-- ---- marks

marked-is : (o : Op) (n : ℕ) → marked o ≡ Some n → o ≡ op.Mark n
marked-is (op.Mark m) n e = ap op.Mark (same_Some m n e)
marked-is _ n e = absurd (none-some n e)

-- the mark of a statement at a point of function k
abbrev pub mark_made : ℕ → MapPoint → ℕ → MarkAt
mark_made k p n = record { address = p.address; statement = n; function = k; standings = p.before }

mapped-is : (k : ℕ) (p : MapPoint) (o : Option ℕ) (mark : MarkAt) → option_map (mark_made k p) o ≡ Some mark
    → (n : ℕ) × (o ≡ Some n) × (mark_made k p n ≡ mark)
mapped-is k p None mark e = absurd (none-some mark e)
mapped-is k p (Some n) mark e = (n, refl, same_Some (mark_made k p n) mark e)

-- what holds of the marks among points
pub points-all : (P : MarkAt → Type 0) (k : ℕ) (ps : List MapPoint)
    → AllByRecursion (λ p. (n : ℕ) → p.op ≡ op.Mark n → P (mark_made k p n)) ps
    → AllByRecursion P (filter_map (mark_at k) ps)
points-all P k [] all = tt
points-all P k (p ∷ ps) all =
    filter-one P (mark_at k p) (filter_map (mark_at k) ps)
    (λ mark e.
    let (n, has, same) = mapped-is k p (marked p.op) mark e in
    subst P same (all.0 n (marked-is p.op n has)))
    (points-all P k ps all.1)

-- and of those of all functions
pub functions-all : (P : MarkAt → Type 0) (k : ℕ) (xs : List MapFunction)
    → ((j : ℕ) (x : MapFunction) → slice_get xs j ≡ Some x
    → AllByRecursion P (filter_map (mark_at (k + j)) (points_of x)))
    → AllByRecursion P (marks_from k xs)
functions-all P k [] each = tt
functions-all P k (x ∷ xs) each =
    let from : k + 0 ≡ k = omega arith in
    all-append P (filter_map (mark_at k) (points_of x)) (marks_from (suc k) xs)
    (subst (λ (n : ℕ). AllByRecursion P (filter_map (mark_at n) (points_of x))) from (each 0 x refl))
    (functions-all P (suc k) xs
    (λ j y at. (let next : k + suc j ≡ suc k + j = omega arith in
    subst (λ (n : ℕ). AllByRecursion P (filter_map (mark_at n) (points_of y))) next (each (suc j) y at))))

-- ---- parts

-- the parts that a mark shows, where they are of its statement
abbrev pub ShowsParts : (Part → Type 0) → Map → ℕ → MarkAt → Type 0
ShowsParts P m statement mark =
    mark.statement ≡ statement
    → AllByRecursion P (filter_map (part_of (variables_in m mark.function)) mark.standings)

pub listed-all : (P : Part → Type 0) (m : Map) (marks : List MarkAt) (statement : ℕ)
    → AllByRecursion (ShowsParts P m statement) marks → AllByRecursion P (listed_by m marks statement)
listed-all P m [] statement all = tt
listed-all P m (mark ∷ marks) statement all =
    either-all P (eqb mark.statement statement) (filter_map (part_of (variables_in m mark.function)) mark.standings)
    (listed_by m marks statement) (λ same. all.0 (eqb-true mark.statement statement same))
    (listed-all P m marks statement all.1)
