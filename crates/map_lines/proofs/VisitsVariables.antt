-- Which variable of a map is which part of a local.
use Rattle.std.proofs.Common.{◌≡◌, ◌⊎◌, ℕ, zero, suc, ◌+◌, ◌-◌, List, [], ◌∷◌, ◌++◌, length, map, take, cond}
use Rattle.std.proofs.Common.{Some, None, inl, inr, refl, sym, ap, subst, ◌∙◌, arith, append_assoc}
use Rattle.std.specs.Prelude.{flat_map, option_map, slice_get}
use Rattle.std.specs.List.{AllByRecursion, count_by}
use Rattle.std.proofs.lemmas.List.Sums.{sum_by-cons}
use Rattle.pcc_base.specs.declared.run.Width.{Width}
use Rattle.pcc_base.specs.declared.run.Width.TheVariants.{One, Two}
use Rattle.pcc_base.specs.Outcome.{Part, Scalar, ArrayOf, IndexOf}
use Rattle.c_tree.specs.declared.types.IntegerType.TheVariants.{Char, Short, Int, UnsignedInt}
use Rattle.c_tree.specs.declared.types.ValueType.{ValueType}
use Rattle.c_tree.specs.declared.types.ValueType.TheVariants.{Void, Integer, Pointer}
use Rattle.c_tree.specs.Program.{Local}
use Rattle.c_tree.specs.WellTyped.{IsScalar}
use Rattle.lower_lines.specs.Shown.{first_variable, type_widths, variable_part}
use Rattle.map_text.specs.Maps.{MapVariable, Named, NamesScalar, NamesArray, NamesIndex, Standing, Temporary}
use Rattle.map_text.specs.Marks.{begins_local, locals_before, name_in, part_named, part_of}
use Rattle.map_lines.specs.Parts.{local_variables, temporary, typed_variables}

-- ---- roles

-- a variable of a local: its number, or of a pointer the array or the index
pub data Role : Type 0 where
  OfNumber : Role
  OfArray : Role
  OfIndex : Role

abbrev pub role_name : Role → List ℕ → Named
role_name OfNumber name = NamesScalar name
role_name OfArray name = NamesArray name
role_name OfIndex name = NamesIndex name

-- the widths of arrays are of words
abbrev pub HasRoleWidth : Role → Width → Type 0
HasRoleWidth OfNumber width = Unit {0}
HasRoleWidth OfArray width = width ≡ Two
HasRoleWidth OfIndex width = Unit {0}

-- the variable, by the first of its local
abbrev pub role_variable : Role → ℕ → ℕ
role_variable OfNumber first = first
role_variable OfArray first = first
role_variable OfIndex first = suc first

-- how many locals begin before it, by its local's number
abbrev pub role_before : Role → ℕ → ℕ
role_before OfNumber number = number
role_before OfArray number = number
role_before OfIndex number = suc number

-- a part of a local, or of a variable
abbrev pub role_part : Role → ℕ → Part
role_part OfNumber number = Scalar number
role_part OfArray number = ArrayOf number
role_part OfIndex number = IndexOf number

variable-moved : (role : Role) (n first : ℕ) → role_variable role (n + first) ≡ n + role_variable role first
variable-moved OfNumber n first = refl
variable-moved OfArray n first = refl
variable-moved OfIndex n first = omega arith

before-moved : (role : Role) (number : ℕ) → role_before role (suc number) ≡ suc (role_before role number)
before-moved OfNumber number = refl
before-moved OfArray number = refl
before-moved OfIndex number = refl

-- ---- variables

-- variable v is one of a local
pub record IsOfLocal (locals : List Local) (variables : List MapVariable) (v : ℕ) : Type 0 where
  pub number : ℕ
  pub local : Local
  pub has : slice_get locals number ≡ Some local
  pub variable : MapVariable
  pub at : slice_get variables v ≡ Some variable
  pub role : Role
  pub is_named : variable.named ≡ role_name role local.name
  pub is_wide : HasRoleWidth role variable.width
  pub is_variable : v ≡ role_variable role (first_variable locals number)
  pub is_before : locals_before variables v ≡ role_before role number

-- variable v is of no local
abbrev pub IsOfNone : List MapVariable → ℕ → Type 0
IsOfNone variables v = (name_in variables v ≡ None) ⊎ (name_in variables v ≡ Some Temporary)

abbrev pub IsKnownVariable : List Local → List MapVariable → ℕ → Type 0
IsKnownVariable locals variables v = IsOfLocal locals variables v ⊎ IsOfNone variables v

abbrev begins : MapVariable → ℕ
begins x = cond (begins_local x.named) 1 0

get-behind : (front tail : List MapVariable) (u : ℕ) → slice_get (front ++ tail) (length front + u) ≡ slice_get tail u
get-behind [] tail u = let same : 0 + u ≡ u = omega arith in ap (slice_get tail) same
get-behind (x ∷ front) tail u =
    let same : suc (length front) + u ≡ suc (length front + u) = omega arith in
    ap (slice_get (x ∷ front ++ tail)) same ∙ get-behind front tail u

before-behind : (front tail : List MapVariable) (u : ℕ)
    → locals_before (front ++ tail) (length front + u)
    ≡ count_by (λ x. begins_local x.named) front + locals_before tail u
before-behind [] tail u =
    let same : 0 + u ≡ u = omega arith in
    let none : locals_before tail u ≡ 0 + locals_before tail u = omega arith in
    ap (locals_before tail) same ∙ none
before-behind (x ∷ front) tail u =
    let same : suc (length front) + u ≡ suc (length front + u) = omega arith in
    let rest = before-behind front tail u in
    let one = sum_by-cons begins x (take (length front + u) (front ++ tail)) in
    let other = sum_by-cons begins x front in
    ap (locals_before (x ∷ front ++ tail)) same ∙ one
    ∙ added (begins x) (locals_before (front ++ tail) (length front + u))
    (count_by (λ y. begins_local y.named) front) (count_by (λ y. begins_local y.named) (x ∷ front))
    (locals_before tail u) rest other
  where
    added : (b l c d t : ℕ) → l ≡ c + t → d ≡ b + c → b + l ≡ d + t
    added b l c d t e f = omega arith

-- the variables behind those of a local
moved : (l : Local) (ls : List Local) (front tail : List MapVariable) (u v : ℕ)
    → length front ≡ length (type_widths l.of) → count_by (λ x. begins_local x.named) front ≡ 1
    → v ≡ length front + u → IsKnownVariable ls tail u → IsKnownVariable (l ∷ ls) (front ++ tail) v
moved l ls front tail u v long one at (inl h) =
    let is_variable = h.is_variable in
    let is_before = h.is_before in
    let first = first_variable ls h.number in
    inl (record {
      number = suc h.number;
      local = h.local;
      has = h.has;
      variable = h.variable;
      at = ap (slice_get (front ++ tail)) at ∙ get-behind front tail u ∙ h.at;
      role = h.role;
      is_named = h.is_named;
      is_wide = h.is_wide;
      is_variable = at ∙ ap (λ (n : ℕ). length front + n) is_variable
          ∙ sym (variable-moved h.role (length front) first)
          ∙ ap (λ (n : ℕ). role_variable h.role (n + first)) long;
      is_before = ap (locals_before (front ++ tail)) at ∙ before-behind front tail u
          ∙ added (count_by (λ x. begins_local x.named) front) (locals_before tail u) (role_before h.role h.number)
          one is_before
          ∙ sym (before-moved h.role h.number);
    })
  where
    added : (c b r : ℕ) → c ≡ 1 → b ≡ r → c + b ≡ suc r
    added c b r e f = omega arith
moved l ls front tail u v long one at (inr (inl none)) =
    inr (inl (ap (λ (n : ℕ). name_in (front ++ tail) n) at
    ∙ ap (option_map (λ x. x.named)) (get-behind front tail u) ∙ none))
moved l ls front tail u v long one at (inr (inr none)) =
    inr (inr (ap (λ (n : ℕ). name_in (front ++ tail) n) at
    ∙ ap (option_map (λ x. x.named)) (get-behind front tail u) ∙ none))

-- the variables of one local, and those behind them
with-number : (name : List ℕ) (of : ValueType) (width : Width) (ls : List Local) (tail : List MapVariable)
    → length (type_widths of) ≡ 1 → ((u : ℕ) → IsKnownVariable ls tail u) → (v : ℕ)
    → IsKnownVariable ((let l : Local = record { name = name; of = of } in l) ∷ ls)
    ((let x : MapVariable = record { width = width; named = NamesScalar name } in x) ∷ tail) v
with-number name of width ls tail one rest zero =
    inl (record {
      number = 0;
      local = record { name = name; of = of };
      has = refl;
      variable = record { width = width; named = NamesScalar name };
      at = refl;
      role = OfNumber;
      is_named = refl;
      is_wide = tt;
      is_variable = refl;
      is_before = refl;
    })
with-number name of width ls tail one rest (suc u) =
    let x : MapVariable = record { width = width; named = NamesScalar name } in
    let l : Local = record { name = name; of = of } in
    let next : suc u ≡ 1 + u = omega arith in
    moved l ls (x ∷ []) tail u (suc u) (sym one) refl next (rest u)

with-pointer : (name : List ℕ) (of : ValueType) (ls : List Local) (tail : List MapVariable)
    → length (type_widths of) ≡ 2 → ((u : ℕ) → IsKnownVariable ls tail u) → (v : ℕ)
    → IsKnownVariable ((let l : Local = record { name = name; of = of } in l) ∷ ls)
    ((let x : MapVariable = record { width = Two; named = NamesArray name } in x)
    ∷ (let y : MapVariable = record { width = Two; named = NamesIndex name } in y) ∷ tail) v
with-pointer name of ls tail two rest zero =
    inl (record {
      number = 0;
      local = record { name = name; of = of };
      has = refl;
      variable = record { width = Two; named = NamesArray name };
      at = refl;
      role = OfArray;
      is_named = refl;
      is_wide = refl;
      is_variable = refl;
      is_before = refl;
    })
with-pointer name of ls tail two rest (suc zero) =
    inl (record {
      number = 0;
      local = record { name = name; of = of };
      has = refl;
      variable = record { width = Two; named = NamesIndex name };
      at = refl;
      role = OfIndex;
      is_named = refl;
      is_wide = tt;
      is_variable = refl;
      is_before = refl;
    })
with-pointer name of ls tail two rest (suc (suc u)) =
    let x : MapVariable = record { width = Two; named = NamesArray name } in
    let y : MapVariable = record { width = Two; named = NamesIndex name } in
    let l : Local = record { name = name; of = of } in
    let next : suc (suc u) ≡ 2 + u = omega arith in
    moved l ls (x ∷ y ∷ []) tail u (suc (suc u)) (sym two) refl next (rest u)

one-local : (name : List ℕ) (of : ValueType) (ls : List Local) (tail : List MapVariable) → IsScalar of
    → ((u : ℕ) → IsKnownVariable ls tail u) → (v : ℕ)
    → IsKnownVariable ((let l : Local = record { name = name; of = of } in l) ∷ ls) (typed_variables name of ++ tail) v
one-local name Void ls tail is rest v = absurd is
one-local name (Integer Char) ls tail is rest v = with-number name (Integer Char) One ls tail refl rest v
one-local name (Integer Short) ls tail is rest v = with-number name (Integer Short) Two ls tail refl rest v
one-local name (Integer Int) ls tail is rest v = with-number name (Integer Int) Two ls tail refl rest v
one-local name (Integer UnsignedInt) ls tail is rest v =
    with-number name (Integer UnsignedInt) Two ls tail refl rest v
one-local name (Pointer t) ls tail is rest v = with-pointer name (Pointer t) ls tail refl rest v

-- a temporary, or none
temporaries-known : (widths : List Width) (v : ℕ) → IsOfNone (map temporary widths) v
temporaries-known [] v = inl refl
temporaries-known (width ∷ widths) zero = inr refl
temporaries-known (width ∷ widths) (suc v) = temporaries-known widths v

-- each variable of a function is one of a local, or of none
pub variable-known : (locals : List Local) (widths : List Width) (v : ℕ) → AllByRecursion (λ l. IsScalar l.of) locals
    → IsKnownVariable locals (flat_map local_variables locals ++ map temporary widths) v
variable-known [] widths v scalars = inr (temporaries-known widths v)
variable-known (l ∷ ls) widths v scalars =
    let tail : List MapVariable = flat_map local_variables ls ++ map temporary widths in
    let one : IsKnownVariable (l ∷ ls) (local_variables l ++ tail) v =
    one-local l.name l.of ls tail scalars.0 (λ u. variable-known ls widths u scalars.1) v in
    subst (λ (variables : List MapVariable). IsKnownVariable (l ∷ ls) variables v)
    (sym (append_assoc (local_variables l) (flat_map local_variables ls) (map temporary widths))) one

-- ---- parts

part-named-by : (role : Role) (number : ℕ) (name : List ℕ)
    → part_named (role_before role number) (Some (role_name role name)) ≡ Some (role_part role number)
part-named-by OfNumber number name = refl
part-named-by OfArray number name = refl
part-named-by OfIndex number name =
    let same : suc number - 1 ≡ number = omega arith in ap (λ (n : ℕ). Some (IndexOf n)) same

part-in-graph : (role : Role) (locals : List Local) (number v : ℕ)
    → v ≡ role_variable role (first_variable locals number)
    → variable_part locals (role_part role number) ≡ role_part role v
part-in-graph OfNumber locals number v e = ap Scalar (sym e)
part-in-graph OfArray locals number v e = ap ArrayOf (sym e)
part-in-graph OfIndex locals number v e = ap IndexOf (sym e)

-- the part that a map says of a variable of a local
pub part-is : (locals : List Local) (variables : List MapVariable) (standing : Standing)
    → (h : IsOfLocal locals variables standing.variable)
    → part_of variables standing ≡ Some (role_part h.role h.number)
part-is locals variables standing h =
    let name : name_in variables standing.variable ≡ Some (role_name h.role h.local.name) =
    ap (option_map (λ x. x.named)) h.at ∙ ap Some h.is_named in
    ap (λ (n : ℕ). part_named n (name_in variables standing.variable)) h.is_before
    ∙ ap (part_named (role_before h.role h.number)) name ∙ part-named-by h.role h.number h.local.name

-- in the graph it is the variable's
pub part-shown : (locals : List Local) (variables : List MapVariable) (v : ℕ) → (h : IsOfLocal locals variables v)
    → variable_part locals (role_part h.role h.number) ≡ role_part h.role v
part-shown locals variables v h = part-in-graph h.role locals h.number v h.is_variable

-- of another variable it says none
pub part-none : (variables : List MapVariable) (standing : Standing) → IsOfNone variables standing.variable
    → part_of variables standing ≡ None
part-none variables standing (inl none) = ap (part_named (locals_before variables standing.variable)) none
part-none variables standing (inr none) = ap (part_named (locals_before variables standing.variable)) none
