-- The words of two variables compare as the values in them do.
use Rattle.std.proofs.Common.{◌≡◌, ℕ, zero, suc, ◌^◌, ◌<◌, ◌==◌, Bool, ℤ, pos, negsuc, List, ◌∷◌}
use Rattle.std.proofs.Common.{Option, Some, None, refl, sym, ap, subst, ◌∙◌, arith}
use Rattle.std.specs.Prelude.{map, not}
use Rattle.std.specs.Int.{w32, cast_unsigned}
use Rattle.std.specs.Ordering.{int_eq}
use Rattle.std.proofs.lemmas.Bool.Decides.{nat_tests}
use Rattle.std.proofs.lemmas.Int.{ints, to_z-of_z}
use Rattle.std.proofs.lemmas.Option.{none-some, same_Some}
use Rattle.pcc_base.specs.Outcome.{ArrayName, Null, Value, Number, Array}
use Rattle.pcc_base.specs.declared.run.Width.{Width}
use Rattle.pcc_base.specs.declared.run.Width.TheVariants.{Two}
use Rattle.ia32_insn.specs.declared.register_names.Reg32.TheVariants.{Ebp}
use Rattle.ia32_insn.specs.Places.{Place, InWord, InByte, InSlot}
use Rattle.ia32_insn.specs.State as machine
use Rattle.ia32_insn.specs.Arithmetic.{signed}
use Rattle.ia32_insn.specs.Meaning.{word_of}
use Rattle.flow_graph.specs.declared.op.Comparison.{Comparison}
use Rattle.flow_graph.specs.declared.op.Comparison.TheVariants.{Eq, Ne, Lt, Le, Gt, Ge}
use Rattle.flow_graph.specs.declared.op.Op.{Op}
use Rattle.flow_graph.specs.Graphs.{HasWidth, IsIn}
use Rattle.flow_graph.specs.Liveness.{uses}
use Rattle.flow_graph.specs.Meaning.{arrays_compared, both, compared, comparison, first_of, same_array}
use Rattle.flow_graph.specs.States as graph
use Rattle.flow_graph.specs.States.{Activation, active_of, array_from, flow_at, number_of, op_at, value_at}
use Rattle.flow_graph.specs.WellFormed.{FitsWidth, IsState, functions_of}
use Rattle.flow_graph.proofs.Lists.{zip-second}
use Rattle.ia32_rows.specs.Placements.{Code, placement_of}
use Rattle.ia32_rows.specs.Shows.{IsArrayAt, IsWord, Shows, StandsIn}
use Rattle.ia32_rows.specs.Contains.{Contains, HoldsWord, IsPlaceIn}
use Rattle.ia32_laws.specs.Supports.{HoldsWidth, IsSupported}
use Rattle.ia32_laws.proofs.Small.{word-small}
use Rattle.ia32_laws.proofs.Shown.{point-supported}
use Rattle.ia32_laws.proofs.Addresses.{addresses-tell}

-- ---- words

-- signed words are equal where the words are
signed-equal : (m n : ℕ) → m < 2 ^ 32 → n < 2 ^ 32 → int_eq (signed m) (signed n) ≡ (m == n)
signed-equal m n h k = grind (arith, ints, nat_tests, h, k)

-- ---- a variable

-- A variable of width Two has a value, whose word is in its place.
pub record HasWord (code : Code) (g : graph.State) (frames : List ℕ) (s : machine.State) (v : ℕ) : Type 0 where
  pub value : Value
  pub held : value_at g v ≡ Some value
  pub place : Place
  pub at : (placement_of code g.current.function).before g.point v ≡ Some place
  pub inside : IsPlaceIn (placement_of code g.current.function).frame place
  pub holds : HoldsWord place
  pub word : ℕ
  pub contains : Contains s Two place word
  pub small : word < 2 ^ 32
  pub is : IsWord code (active_of g) frames value word

pub word-in : (code : Code) (active : List Activation) (frames : List ℕ) (s : machine.State) (value : Value)
    (place : Place) → HoldsWidth (Some Two) place
    → StandsIn code active frames s (word_of Ebp s) (Some Two) value place
    → (w : ℕ) × HoldsWord place × Contains s Two place w × IsWord code active frames value w
word-in code active frames s value (InWord r) holds h = (word_of r s, tt, refl, h)
word-in code active frames s value (InByte r) holds h = absurd holds
word-in code active frames s value (InSlot slot) holds h = (h.0, tt, h.1, h.2)

pub has-word : (code : Code) (input : List ℕ) (g : graph.State) (s : machine.State) (o : Op) (v : ℕ)
    → IsSupported code → IsState code.program g → (shown : Shows code input g s) → op_at code.program g ≡ Some o
    → IsIn v (uses o) → HasWidth (flow_at code.program g.current.function) v Two → HasWord code g shown.frames s v
has-word code input g s o v h state shown has used wide =
    let active : List ℕ = g.current.function ∷ functions_of (map (λ w. w.activation) g.waiting) in
    let found = zip-second (FitsWidth code.program active) (flow_at code.program g.current.function).widths
    g.current.variables v Two (state.active.0).variables wide in
    let here = point-supported code g o h state has in
    let (place, at) = here.read v used in
    let for = here.before v place at in
    let stands = subst (λ (w : Option Width).
    StandsIn code (active_of g) shown.frames s (word_of Ebp s) w found.0 place)
    wide (shown.variables v found.0 place found.1 at) in
    let word = word-in code (active_of g) shown.frames s found.0 place
    (subst (λ (w : Option Width). HoldsWidth w place) wide for.holds) stands in
    record {
      value = found.0;
      held = found.1;
      place = place;
      at = at;
      inside = for.inside;
      holds = word.1;
      word = word.0;
      contains = word.2;
      small = word-small code input g s found.0 word.0 h state shown word.3;
      is = word.3;
    }

-- ---- two

module _ (code : Code) (input : List ℕ) (g : graph.State) (s : machine.State) (h : IsSupported code)
    (state : IsState code.program g) (shown : Shows code input g s) where
  arrays-decide : (how : Comparison) (one two : ArrayName) (m n : ℕ) (t : Bool) → m < 2 ^ 32 → n < 2 ^ 32
      → IsArrayAt code (active_of g) shown.frames one m → IsArrayAt code (active_of g) shown.frames two n
      → arrays_compared how (Some one) (Some two) ≡ Some t → compared how (signed m) (signed n) ≡ t
  arrays-decide Eq one two m n t a b at to e =
      signed-equal m n a b ∙ sym (addresses-tell code input g s one two m n h state shown at to)
      ∙ same_Some (same_array one two) t e
  arrays-decide Ne one two m n t a b at to e =
      ap not (signed-equal m n a b ∙ sym (addresses-tell code input g s one two m n h state shown at to))
      ∙ same_Some (not (same_array one two)) t e
  arrays-decide Lt one two m n t a b at to e = absurd (none-some t e)
  arrays-decide Le one two m n t a b at to e = absurd (none-some t e)
  arrays-decide Gt one two m n t a b at to e = absurd (none-some t e)
  arrays-decide Ge one two m n t a b at to e = absurd (none-some t e)

  -- no array is compared with a number but 0
  none-first : (how : Comparison) (o : Option ArrayName) (t : Bool) → arrays_compared how None o ≡ Some t → ⊥
  none-first Eq o t e = none-some t e
  none-first Ne o t e = none-some t e
  none-first Lt o t e = none-some t e
  none-first Le o t e = none-some t e
  none-first Gt o t e = none-some t e
  none-first Ge o t e = none-some t e

  none-second : (how : Comparison) (a : ArrayName) (t : Bool) → arrays_compared how (Some a) None ≡ Some t → ⊥
  none-second Eq a t e = none-some t e
  none-second Ne a t e = none-some t e
  none-second Lt a t e = none-some t e
  none-second Le a t e = none-some t e
  none-second Gt a t e = none-some t e
  none-second Ge a t e = none-some t e

  decide : (how : Comparison) (v w : Value) (m n : ℕ) (t : Bool) → m < 2 ^ 32 → n < 2 ^ 32
      → IsWord code (active_of g) shown.frames v m → IsWord code (active_of g) shown.frames w n
      → first_of (both (number_of (Some v)) (number_of (Some w)) (compared how))
      (arrays_compared how (array_from (Some v)) (array_from (Some w))) ≡ Some t
      → compared how (signed m) (signed n) ≡ t
  decide how (Number x) (Number y) m n t a b at to e =
      ap (λ (k : ℕ). compared how (signed k) (signed n)) at.1
      ∙ ap (λ (k : ℕ). compared how (signed (cast_unsigned w32 x)) (signed k)) to.1
      ∙ ap (λ (z : ℤ). compared how z (signed (cast_unsigned w32 y))) (to_z-of_z w32 x at.0)
      ∙ ap (compared how x) (to_z-of_z w32 y to.0) ∙ same_Some (compared how x y) t e
  decide how (Number (pos zero)) (Array q) m n t a b at to e = arrays-decide how Null q m n t a b at.1 to e
  decide how (Number (pos (suc k))) (Array q) m n t a b at to e = absurd (none-first how (Some q) t e)
  decide how (Number (negsuc k)) (Array q) m n t a b at to e = absurd (none-first how (Some q) t e)
  decide how (Array p) (Number (pos zero)) m n t a b at to e = arrays-decide how p Null m n t a b at to.1 e
  decide how (Array p) (Number (pos (suc k))) m n t a b at to e = absurd (none-second how p t e)
  decide how (Array p) (Number (negsuc k)) m n t a b at to e = absurd (none-second how p t e)
  decide how (Array p) (Array q) m n t a b at to e = arrays-decide how p q m n t a b at to e

  -- the words compare as the variables do
  pub words-decide : (how : Comparison) (a b : ℕ) (t : Bool) → (one : HasWord code g shown.frames s a)
      → (two : HasWord code g shown.frames s b) → comparison how g a b ≡ Some t
      → compared how (signed one.word) (signed two.word) ≡ t
  words-decide how a b t one two e =
      let P : Option Value → Option Value → Type 0 = λ v w.
      first_of (both (number_of v) (number_of w) (compared how)) (arrays_compared how (array_from v) (array_from w))
      ≡ Some t in
      let first : P (Some one.value) (value_at g b) =
      subst (λ (v : Option Value). P v (value_at g b)) one.held e in
      decide how one.value two.value one.word two.word t one.small two.small one.is two.is
      (subst (λ (w : Option Value). P (Some one.value) w) two.held first)
