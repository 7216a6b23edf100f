-- Why texts have no program: the function whose frame is too large.
use Rattle.std.proofs.Common.{◌≡◌, refl, sym, ap, ◌∙◌, arith, ℕ, suc, ◌+◌, List, [], ◌∷◌, Some}
use Rattle.std.proofs.Common.{if◌then◌else◌, Bool, true, false}
use Rattle.std.specs.Prelude.{nat_lt, Option, slice_get, option_map}
use Rattle.std.proofs.lemmas.Option.{same_Some, slice_get-map}
use Rattle.pcc_base.specs.declared.refusal.Limit.{Limit}
use Rattle.pcc_base.specs.declared.refusal.Limit.TheVariants as limits
use Rattle.c_syntax.specs.Statements.{ExternalTree}
use Rattle.c_tree.specs.Program.{Function, Program}
use Rattle.c_tree.specs.Sizes.{frame_bound}
use Rattle.c_typing.specs.Typed.{IsAbove, arrays_bytes, large_frame, limit_of, most_arrays, most_frame}
use Rattle.c_check_laws.specs.DeclaresLaws.{FunctionsAreNamed}
use Rattle.c_check_laws.specs.Names.{defined_names}
use Rattle.c_front.specs.Answers.{HaveLargeFrame}

-- this function, at this place of the list from so many on, has a frame of so many bytes
record IsLarge (from number bytes : ℕ) (fs : List Function) : Type 0 where
  place : ℕ
  placed : number ≡ from + place
  function : Function
  there : slice_get fs place ≡ Some function
  large : frame_bound function ≡ bytes

abbrev number_in : Option Limit → ℕ
number_in (Some (limits.Frame k n)) = k
number_in _ = 0

abbrev bytes_in : Option Limit → ℕ
bytes_in (Some (limits.Frame k n)) = n
bytes_in _ = 0

is_large : (from k n : ℕ) (fs : List Function) → large_frame from fs ≡ Some (limits.Frame k n) → IsLarge from k n fs
is_large from k n [] e = absurd (cc)
is_large from k n (f ∷ fs) e = first (nat_lt most_frame (frame_bound f)) (is_large (suc from) k n fs) e
  where
    first : (b : Bool) → (large_frame (suc from) fs ≡ Some (limits.Frame k n) → IsLarge (suc from) k n fs)
        → (if b then Some (limits.Frame from (frame_bound f)) else large_frame (suc from) fs) ≡ Some (limits.Frame k n)
        → IsLarge from k n (f ∷ fs)
    first true rest e =
        let here = ap number_in e in
        record { place = 0; placed = omega (arith, here); function = f; there = refl; large = ap bytes_in e }
    first false rest e =
        let h = rest e in
        let placed = h.placed in
        record {
          place = suc h.place;
          placed = omega (arith, placed);
          function = h.function;
          there = h.there;
          large = h.large;
        }

-- the limit on frames is that of a function
of_frame : (k n : ℕ) (p : Program) → limit_of p ≡ Some (limits.Frame k n) → IsLarge 0 k n p.functions
of_frame k n p e = small (nat_lt most_arrays (arrays_bytes p)) e
  where
    small : (b : Bool) → (if b then Some (limits.Arrays (arrays_bytes p)) else large_frame 0 p.functions)
        ≡ Some (limits.Frame k n) → IsLarge 0 k n p.functions
    small true e = absurd (cc)
    small false e = is_large 0 k n p.functions e

-- the name at its number is its name
pub large_by_name : FunctionsAreNamed → (units : List (List ExternalTree)) (k n : ℕ) (name : List ℕ)
    → slice_get (defined_names units) k ≡ Some name → IsAbove units (limits.Frame k n) → HaveLargeFrame units name n
large_by_name law units k n name found h =
    let large = of_frame k n h.program h.above in
    let placed = large.placed in
    let at : k ≡ large.place = omega (arith, placed) in
    let there : slice_get h.program.functions k ≡ Some large.function =
    ap (λ (i : ℕ). slice_get h.program.functions i) at ∙ large.there in
    record {
      program = h.program;
      typed = h.typed;
      number = k;
      above = h.above;
      function = large.function;
      there = there;
      named = same_Some large.function.name name
          (ap (option_map (λ (f : Function). f.name)) (sym there)
          ∙ sym (slice_get-map (λ (f : Function). f.name) h.program.functions k)
          ∙ ap (λ (ns : List (List ℕ)). slice_get ns k) (law units h.program h.typed) ∙ found);
      large = large.large;
    }
