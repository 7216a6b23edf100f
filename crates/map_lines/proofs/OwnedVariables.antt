-- The variables of a function of a map: their widths, and the parts of locals that they are.
use Rattle.std.proofs.Common.{◌≡◌, ◌<◌, ◌≤◌, ℕ, zero, suc, ◌+◌, ◌-◌, List, [], ◌∷◌, ◌++◌, cond, drop, length, map, take}
use Rattle.std.proofs.Common.{Option, Some, None, refl, sym, ap, ◌∙◌, subst, arith, length-append}
use Rattle.std.specs.Prelude.{flat_map, option_map, slice_get}
use Rattle.std.specs.List.{AllByRecursion, count_by}
use Rattle.std.proofs.lemmas.List.{map-append}
use Rattle.std.proofs.lemmas.List.Sums.{sum_by-cons}
use Rattle.std.proofs.lemmas.Option.{none-some, same_Some}
use Rattle.std.proofs.Math.Seq.{drop-append_seam}
use Rattle.pcc_base.specs.declared.run.Width.{Width}
use Rattle.pcc_base.specs.declared.run.Width.TheVariants.{One, Two}
use Rattle.pcc_base.specs.Outcome.{Part, Scalar, ArrayOf, IndexOf}
use Rattle.c_tree.specs.declared.types.IntegerType.{IntegerType}
use Rattle.c_tree.specs.declared.types.IntegerType.TheVariants.{Char, Short, Int, UnsignedInt}
use Rattle.c_tree.specs.declared.types.ValueType.{ValueType}
use Rattle.c_tree.specs.declared.types.ValueType.TheVariants.{Void, Integer, Pointer}
use Rattle.c_tree.specs.Program.{Function, Local}
use Rattle.c_tree.specs.WellTyped.{IsScalar}
use Rattle.flow_graph.specs.Graphs.{Flow}
use Rattle.lower_lines.specs.Shown.{HasLocal, IsInteger, IsPartOf, IsPointer, local_widths, type_widths}
use Rattle.map_text.specs.Maps.{MapVariable, Named, NamesScalar, NamesArray, NamesIndex, Temporary}
use Rattle.map_text.specs.Marks.{begins_local, locals_before, name_in, part_named}
use Rattle.map_lines.specs.Parts.{local_variables, temporary, typed_variables}
use Rattle.map_lines.specs.MapOf.{variables_over}

abbrev pub width_of : MapVariable → Width
width_of v = v.width

-- ---- widths

typed-widths : (name : List ℕ) (t : ValueType) → map width_of (typed_variables name t) ≡ type_widths t
typed-widths name Void = refl
typed-widths name (Integer Char) = refl
typed-widths name (Integer Short) = refl
typed-widths name (Integer Int) = refl
typed-widths name (Integer UnsignedInt) = refl
typed-widths name (Pointer element) = refl

pub locals-widths : (locals : List Local) → map width_of (flat_map local_variables locals) ≡ local_widths locals
locals-widths [] = refl
locals-widths (l ∷ locals) =
    map-append width_of (local_variables l) (flat_map local_variables locals)
    ∙ ap (λ (ws : List Width). ws ++ map width_of (flat_map local_variables locals)) (typed-widths l.name l.of)
    ∙ ap (λ (ws : List Width). type_widths l.of ++ ws) (locals-widths locals)

temporary-widths : (widths : List Width) → map width_of (map temporary widths) ≡ widths
temporary-widths [] = refl
temporary-widths (width ∷ widths) = ap (λ (ws : List Width). width ∷ ws) (temporary-widths widths)

-- a function's variables have the widths of its graph
pub widths-over : (f : Function) (flow : Flow) (temporaries : List Width)
    → flow.widths ≡ local_widths f.locals ++ temporaries → map width_of (variables_over f flow) ≡ flow.widths
widths-over f flow temporaries are =
    let n = length (local_widths f.locals) in
    let rest : drop n flow.widths ≡ temporaries = ap (drop n) are
    ∙ drop-append_seam (local_widths f.locals) temporaries in
    map-append width_of (flat_map local_variables f.locals) (map temporary (drop n flow.widths))
    ∙ ap (λ (ws : List Width). ws ++ map width_of (map temporary (drop n flow.widths))) (locals-widths f.locals)
    ∙ ap (λ (ws : List Width). local_widths f.locals ++ ws) (temporary-widths (drop n flow.widths) ∙ rest)
    ∙ sym are

-- the first locals have no more variables than all
pub take-widths : (n : ℕ) (locals : List Local) → length (local_widths (take n locals)) ≤ length (local_widths locals)
take-widths zero [] = omega arith
take-widths zero (l ∷ locals) = omega arith
take-widths (suc n) [] = omega arith
take-widths (suc n) (l ∷ locals) =
    let first = length-append (type_widths l.of) (local_widths (take n locals)) in
    let all = length-append (type_widths l.of) (local_widths locals) in
    let rest = take-widths n locals in
    omega (arith, first, all, rest)

-- ---- parts

-- the part is of a local of the list, before which so many locals stand
abbrev IsPartFrom : ℕ → List Local → Part → Type 0
IsPartFrom b locals (Scalar k) = (i : ℕ) × (k ≡ b + i) × HasLocal locals i IsInteger
IsPartFrom b locals (ArrayOf k) = (i : ℕ) × (k ≡ b + i) × HasLocal locals i IsPointer
IsPartFrom b locals (IndexOf k) = (i : ℕ) × (k ≡ b + i) × HasLocal locals i IsPointer

one-later : (b i k : ℕ) → k ≡ b + 1 + i → k ≡ b + suc i
one-later b i k e = omega (arith, e)

later : (b : ℕ) (l : Local) (locals : List Local) (part : Part) → IsPartFrom (b + 1) locals part
    → IsPartFrom b (l ∷ locals) part
later b l locals (Scalar k) (i, at, has) = (suc i, one-later b i k at, has)
later b l locals (ArrayOf k) (i, at, has) = (suc i, one-later b i k at, has)
later b l locals (IndexOf k) (i, at, has) = (suc i, one-later b i k at, has)

-- how many locals begin before a variable, where one more stands before the variables
before-more : (x : MapVariable) (rest : List MapVariable) (v : ℕ)
    → locals_before (x ∷ rest) (suc v) ≡ cond (begins_local x.named) 1 0 + locals_before rest v
before-more x rest v = sum_by-cons (λ (y : MapVariable). cond (begins_local y.named) 1 0) x (take v rest)

abbrev part_at : ℕ → List MapVariable → ℕ → Option Part
part_at b variables v = part_named (b + locals_before variables v) (name_in variables v)

-- a temporary is no part
no-part : (b c : ℕ) (widths : List Width) (v : ℕ) (part : Part)
    → part_named c (name_in (map temporary widths) v) ≡ Some part → ⊥
no-part b c [] v part e = none-some part e
no-part b c (width ∷ widths) zero part e = none-some part e
no-part b c (width ∷ widths) (suc v) part e = no-part b c widths v part e

scalar-part : (b k : ℕ) (l : Local) (locals : List Local) (part : Part) → IsInteger l.of → k ≡ b
    → Some (Scalar k) ≡ Some part → IsPartFrom b (l ∷ locals) part
scalar-part b k l locals part is same e =
    subst (λ (p : Part). IsPartFrom b (l ∷ locals) p) (same_Some (Scalar k) part e)
    (0, omega (arith, same), (l, refl, is))

array-part : (b k : ℕ) (l : Local) (locals : List Local) (part : Part) → IsPointer l.of → k ≡ b
    → Some (ArrayOf k) ≡ Some part → IsPartFrom b (l ∷ locals) part
array-part b k l locals part is same e =
    subst (λ (p : Part). IsPartFrom b (l ∷ locals) p) (same_Some (ArrayOf k) part e)
    (0, omega (arith, same), (l, refl, is))

index-part : (b k : ℕ) (l : Local) (locals : List Local) (part : Part) → IsPointer l.of → k ≡ b
    → Some (IndexOf k) ≡ Some part → IsPartFrom b (l ∷ locals) part
index-part b k l locals part is same e =
    subst (λ (p : Part). IsPartFrom b (l ∷ locals) p) (same_Some (IndexOf k) part e)
    (0, omega (arith, same), (l, refl, is))

-- the parts of the variables behind those of an integer local
integer-case : (b : ℕ) (l : Local) (locals : List Local) (x : MapVariable) (name : List ℕ) (rest : List MapVariable)
    (v : ℕ) (part : Part)
    → IsInteger l.of → x.named ≡ NamesScalar name
    → ((c w : ℕ) → part_at c rest w ≡ Some part → IsPartFrom c locals part)
    → part_at b (x ∷ rest) v ≡ Some part → IsPartFrom b (l ∷ locals) part
integer-case b l locals x name rest zero part is named more e =
    scalar-part b (b + 0) l locals part is (omega arith)
    (sym (ap (λ (n : Named). part_named (b + 0) (Some n)) named) ∙ e)
integer-case b l locals x name rest (suc v) part is named more e =
    let count = before-more x rest v ∙ ap (λ (n : Named). cond (begins_local n) 1 0 + locals_before rest v) named in
    let sum : b + locals_before (x ∷ rest) (suc v) ≡ b + 1 + locals_before rest v = omega (arith, count) in
    later b l locals part
    (more (b + 1) v (sym (ap (λ (k : ℕ). part_named k (name_in rest v)) sum) ∙ e))

-- and behind those of a pointer
pointer-case : (b : ℕ) (l : Local) (locals : List Local) (rest : List MapVariable) (v : ℕ) (part : Part)
    → IsPointer l.of → ((c w : ℕ) → part_at c rest w ≡ Some part → IsPartFrom c locals part)
    → part_at b (record { width = Two; named = NamesArray l.name }
    ∷ record { width = Two; named = NamesIndex l.name } ∷ rest) v ≡ Some part
    → IsPartFrom b (l ∷ locals) part
pointer-case b l locals rest zero part is more e = array-part b (b + 0) l locals part is (omega arith) e
pointer-case b l locals rest (suc zero) part is more e =
    let x : MapVariable = record { width = Two; named = NamesArray l.name } in
    let y : MapVariable = record { width = Two; named = NamesIndex l.name } in
    let count = before-more x (y ∷ rest) 0 in
    index-part b (b + locals_before (x ∷ y ∷ rest) 1 - 1) l locals part is (omega (arith, count)) e
pointer-case b l locals rest (suc (suc v)) part is more e =
    let x : MapVariable = record { width = Two; named = NamesArray l.name } in
    let y : MapVariable = record { width = Two; named = NamesIndex l.name } in
    let one = before-more x (y ∷ rest) (suc v) in
    let two = before-more y rest v in
    let sum : b + locals_before (x ∷ y ∷ rest) (suc (suc v)) ≡ b + 1 + locals_before rest v = omega (arith, one, two) in
    later b l locals part
    (more (b + 1) v (sym (ap (λ (k : ℕ). part_named k (name_in rest v)) sum) ∙ e))

-- what a variable of a function is, is a part of a local
local-part : (b : ℕ) (locals : List Local) (widths : List Width) (v : ℕ) (part : Part)
    → AllByRecursion (λ l. IsScalar l.of) locals
    → part_at b (flat_map local_variables locals ++ map temporary widths) v ≡ Some part → IsPartFrom b locals part
local-part b [] widths v part scalar e =
    absurd (no-part b (b + locals_before (map temporary widths) v) widths v part e)
local-part b (l ∷ locals) widths v part scalar e =
    typed l.of refl scalar.0 (λ c w. local-part c locals widths w part scalar.1) e
  where
    number : (t : IntegerType) (width : Width) → l.of ≡ Integer t
        → ((c w : ℕ) → part_at c (flat_map local_variables locals ++ map temporary widths) w ≡ Some part
        → IsPartFrom c locals part)
        → part_at b (record { width = width; named = NamesScalar l.name }
        ∷ (flat_map local_variables locals ++ map temporary widths)) v ≡ Some part → IsPartFrom b (l ∷ locals) part
    number t width same more f =
        integer-case b l locals (record { width = width; named = NamesScalar l.name }) l.name
        (flat_map local_variables locals ++ map temporary widths) v part
        (subst (λ (t : ValueType). IsInteger t) (sym same) tt) refl more f

    typed : (t : ValueType) → l.of ≡ t → IsScalar t
        → ((c w : ℕ) → part_at c (flat_map local_variables locals ++ map temporary widths) w ≡ Some part
        → IsPartFrom c locals part)
        → part_at b ((typed_variables l.name t ++ flat_map local_variables locals) ++ map temporary widths) v
        ≡ Some part → IsPartFrom b (l ∷ locals) part
    typed Void same is more f = absurd is
    typed (Integer Char) same is more f = number Char One same more f
    typed (Integer Short) same is more f = number Short Two same more f
    typed (Integer Int) same is more f = number Int Two same more f
    typed (Integer UnsignedInt) same is more f = number UnsignedInt Two same more f
    typed (Pointer element) same is more f =
        pointer-case b l locals (flat_map local_variables locals ++ map temporary widths) v part
        (subst (λ (t : ValueType). IsPointer t) (sym same) tt) more f

part-from : (locals : List Local) (part : Part) → IsPartFrom 0 locals part → IsPartOf locals part
part-from locals (Scalar k) (i, at, has) = let e : i ≡ k = omega (arith, at) in
    subst (λ (j : ℕ). HasLocal locals j IsInteger) e has
part-from locals (ArrayOf k) (i, at, has) = let e : i ≡ k = omega (arith, at) in
    subst (λ (j : ℕ). HasLocal locals j IsPointer) e has
part-from locals (IndexOf k) (i, at, has) = let e : i ≡ k = omega (arith, at) in
    subst (λ (j : ℕ). HasLocal locals j IsPointer) e has

pub variable-part : (locals : List Local) (widths : List Width) (v : ℕ) (part : Part)
    → AllByRecursion (λ l. IsScalar l.of) locals
    → part_named (locals_before (flat_map local_variables locals ++ map temporary widths) v)
    (name_in (flat_map local_variables locals ++ map temporary widths) v) ≡ Some part → IsPartOf locals part
variable-part locals widths v part scalar e =
    let vs : List MapVariable = flat_map local_variables locals ++ map temporary widths in
    let from : 0 + locals_before vs v ≡ locals_before vs v = omega arith in
    part-from locals part (local-part 0 locals widths v part scalar
    (ap (λ (k : ℕ). part_named k (name_in vs v)) from ∙ e))
