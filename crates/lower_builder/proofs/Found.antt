-- The variables of a local are at its place in the list of all of them.
use Rattle.std.proofs.Common.{◌≡◌, ℕ, zero, suc, ◌+◌, List, [], ◌∷◌, length, map, Some, None, refl, sym, ap}
use Rattle.std.proofs.Common.{◌∙◌, arith, length-append}
use Rattle.std.specs.Prelude.{slice_get, option_map}
use Rattle.std.proofs.lemmas.Option.{slice_get-map}
use Rattle.c_tree.specs.Evaluation.{type_of}
use Rattle.c_tree.specs.Program.{Local}
use Rattle.lower_lines.specs.Shown.{first_variable, local_widths, type_widths}
use Rattle.lower_lines.specs.Variables.{Spot, typed_spot}
use Rattle.lower_builder.specs.Spots.{spot_of, spots_from}
use Rattle.lower_builder.specs.declared.spot.Spot as memory

get-found : (ls : List Local) (from k : ℕ) (s : Spot) → slice_get (spots_from from ls) k ≡ Some s
    → s ≡ typed_spot (type_of (slice_get ls k)) (from + first_variable ls k)
get-found [] from k s e = absurd (cc)
get-found (l ∷ ls) from zero s e =
    let plain : from ≡ from + 0 = omega arith in sym (same (typed_spot l.of from) s e) ∙ ap (typed_spot l.of) plain
  where
    same : (x y : Spot) → Some x ≡ Some y → x ≡ y
    same x y e = cc
get-found (l ∷ ls) from (suc k) s e =
    let more : from + length (type_widths l.of) + first_variable ls k
    ≡ from + (length (type_widths l.of) + first_variable ls k) = omega arith in
    get-found ls (from + length (type_widths l.of)) k s e ∙ ap (typed_spot (type_of (slice_get ls k))) more

pub none-type : (ls : List Local) (from k : ℕ) → slice_get (spots_from from ls) k ≡ None
    → type_of (slice_get ls k) ≡ type_of None
none-type [] from k e = refl
none-type (l ∷ ls) from zero e = absurd (cc)
none-type (l ∷ ls) from (suc k) e = none-type ls (from + length (type_widths l.of)) k e

pub none-variable : (ls : List Local) (from k : ℕ) → slice_get (spots_from from ls) k ≡ None
    → first_variable ls k ≡ length (local_widths ls)
none-variable [] from k e = refl
none-variable (l ∷ ls) from zero e = absurd (cc)
none-variable (l ∷ ls) from (suc k) e =
    ap (λ (n : ℕ). length (type_widths l.of) + n)
    (none-variable ls (from + length (type_widths l.of)) k e)
    ∙ sym (length-append (type_widths l.of) (local_widths ls))

pub listed-there : (ls : List Local) (k : ℕ) (spots : List memory.Spot) (s : memory.Spot)
    → map spot_of spots ≡ spots_from 0 ls → slice_get spots k ≡ Some s
    → spot_of s ≡ typed_spot (type_of (slice_get ls k)) (first_variable ls k)
listed-there ls k spots s listed e =
    let plain : 0 + first_variable ls k ≡ first_variable ls k = omega arith in
    get-found ls 0 k (spot_of s) (ap (λ (ss : List Spot). slice_get ss k) (sym listed) ∙ slice_get-map spot_of spots k
    ∙ ap (option_map spot_of) e)
    ∙ ap (typed_spot (type_of (slice_get ls k))) plain

pub listed-none : (ls : List Local) (k first : ℕ) (spots : List memory.Spot)
    → map spot_of spots ≡ spots_from 0 ls → first ≡ length (local_widths ls) → slice_get spots k ≡ None
    → spot_of (record { array = first; number = first })
    ≡ typed_spot (type_of (slice_get ls k)) (first_variable ls k)
listed-none ls k first spots listed counted e =
    let none : slice_get (spots_from 0 ls) k ≡ None =
    ap (λ (ss : List Spot). slice_get ss k) (sym listed) ∙ slice_get-map spot_of spots k ∙ ap (option_map spot_of) e in
    ap (typed_spot (type_of None)) (counted ∙ sym (none-variable ls 0 k none))
    ∙ ap (λ t. typed_spot t (first_variable ls k)) (sym (none-type ls 0 k none))
