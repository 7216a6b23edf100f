-- An element of an array that a pointer in variables names: what the op that loads it, or stores in it, comes to.
use Rattle.std.proofs.Common.{◌≡◌, ◌≢◌, ◌⊎◌, ℕ, ℤ, pos, negsuc, List, [], ◌∷◌, ◌++◌, length, Some, None}
use Rattle.std.proofs.Common.{inl, inr, refl, sym, ap, ◌∙◌, subst}
use Rattle.pcc_base.specs.declared.run.Trap.TheVariants.{Check}
use Rattle.pcc_base.specs.Outcome.{ArrayName, Null, Static, InFrame, Unknown, Outcome, Trapped}
use Rattle.pcc_base.specs.Outcome.{Number}
use Rattle.c_tree.specs.declared.types.IntegerType.{IntegerType}
use Rattle.c_tree.specs.declared.types.IntegerType.TheVariants.{Char, Short, Int, UnsignedInt}
use Rattle.c_tree.specs.declared.types.ValueType.TheVariants.{Pointer}
use Rattle.c_tree.specs.Program.{Function}
use Rattle.c_tree.specs.Store as source
use Rattle.c_tree.specs.Store.{HoldsPointer, array_named, converted}
use Rattle.flow_graph.specs.declared.op.Op.TheVariants as op
use Rattle.flow_graph.specs.Meaning.{Moved, accessed, stored}
use Rattle.flow_graph.specs.Running.{outcome_at}
use Rattle.flow_graph.specs.States as graph
use Rattle.flow_graph.specs.States.{array_at, array_from, number_at, number_of, with_value}
use Rattle.lower_lines.specs.Following.{Comes, IsSite, Site, Stand, behind, graphs_of}
use Rattle.lower_lines.specs.Lines.{Line, Emit, open_after, ops_in}
use Rattle.lower_lines.specs.Parts.{bits_of}
use Rattle.lower_lines.specs.Relation.{HoldsAt, IsArrayOf, Shows, array_value}
use Rattle.lower_lines.specs.Variables.{Spot}
use Rattle.lower_lines.proofs.Arrays.{arrays-fit, arrays-reached, arrays-set, element-fits}
use Rattle.lower_lines.proofs.Changes.{turns-free}
use Rattle.lower_lines.proofs.Locals.{length-slice_set}
use Rattle.lower_lines.proofs.Steps.{load-null, load-step, load-traps, store-null, store-step, store-traps}

-- ---- arrays and elements

pub null-or-not : (array : ArrayName) → (array ≡ Null) ⊎ (array ≢ Null)
null-or-not Null = inl refl
null-or-not (Static k) = inr (λ e. cc)
null-or-not (InFrame k depth) = inr (λ e. cc)
null-or-not Unknown = inr (λ e. cc)

array-held : (array : ArrayName) → array_from (Some (array_value array)) ≡ Some array
array-held Null = refl
array-held (Static k) = refl
array-held (InFrame k depth) = refl
array-held Unknown = refl

pub same-element : (elements : List ℤ) (index : ℤ) → graph.element_at elements index ≡ source.element_at elements index
same-element elements (pos i) = refl
same-element elements (negsuc i) = refl

pub same-with : (elements : List ℤ) (index n : ℤ)
    → graph.with_element elements index n ≡ source.with_element elements index n
same-with elements (pos i) n = refl
same-with elements (negsuc i) n = refl

length-with : (elements : List ℤ) (index n : ℤ) → length (source.with_element elements index n) ≡ length elements
length-with elements (pos i) n = length-slice_set elements i n
length-with elements (negsuc i) n = refl

none-there : (index : ℤ) → source.element_at [] index ≡ None
none-there (pos i) = refl
none-there (negsuc i) = refl

-- what an element holds of a number is the number in its type
pub stored-is : (t : IntegerType) (n : ℤ) → stored (bits_of t) n ≡ converted t n
stored-is Char n = refl
stored-is Short n = refl
stored-is Int n = refl
stored-is UnsignedInt n = refl

-- an element of null isn't there
null-none : (u : source.State) (array : ArrayName) (index n : ℤ) → array ≡ Null
    → source.element_at (array_named u array) index ≡ Some n → ⊥
null-none u array index n null e =
    none-some n (sym (none-there index)
    ∙ ap (λ (a : ArrayName). source.element_at (array_named u a) index) (sym null) ∙ e)
  where
    none-some : (m : ℤ) → None ≡ Some m → ⊥
    none-some m e = cc

-- ---- accesses

module _ (S : Site) (site : IsSite S) (older : List Function) (t : IntegerType) (before : List Line)
    (u : source.State) (h : graph.State) (fits : h.current.function ≡ S.number)
    (shows : Shows S.program (S.function ∷ older) u h) (array : ArrayName) (index : ℤ) (spot : Spot)
    (holds : HoldsAt h.current.variables (Pointer t) spot (HoldsPointer array index))
    (is : IsArrayOf S.program (S.function ∷ older) t array) where
  abbrev elements : List ℤ
  elements = array_named u array

  at-array : array_at h spot.array ≡ Some array
  at-array = ap array_from holds.0 ∙ array-held array

  at-index : number_at h spot.number ≡ Some index
  at-index = ap number_of holds.1

  reaches : array ≢ Null → (go : List ℤ → Moved)
      → accessed (graphs_of S) (behind before h) (bits_of t) array go ≡ go elements
  reaches some go = arrays-reached S.program (S.function ∷ older) u (behind before h) t array
      (turns-free S.program (S.function ∷ older) u h u.turns u.visits (open_after 0 before) (length (ops_in before))
      shows) is some go

  pub element-loads : (n : ℤ) (d : ℕ) (o : Outcome) → source.element_at elements index ≡ Some n
      → Stand S before (Emit (op.Load (bits_of t) d spot.array spot.number) ∷ [])
      → Comes S u.turns (behind (before ++ Emit (op.Load (bits_of t) d spot.array spot.number) ∷ [])
      (with_value d (Number n) h)) o → Comes S u.turns (behind before h) o
  element-loads n d o there stands r =
      elim (null-or-not array) [
        | inl null ↦ absurd (null-none u array index n null there)
        | inr some ↦ load-step S site before h fits (bits_of t) d spot.array spot.number u.turns array index n
            elements o
            stands at-array at-index (reaches some) (same-element elements index ∙ there) r
      ]

  pub load-trapped : (d : ℕ) → source.element_at elements index ≡ None
      → Stand S before (Emit (op.Load (bits_of t) d spot.array spot.number) ∷ [])
      → Comes S u.turns (behind before h) (outcome_at h (Trapped Check))
  load-trapped d there stands =
      elim (null-or-not array) [
        | inl null ↦ load-null S site before h fits (bits_of t) d spot.array spot.number u.turns index stands
            (at-array ∙ ap Some null) at-index
        | inr some ↦ load-traps S site before h fits (bits_of t) d spot.array spot.number u.turns array index elements
            stands at-array at-index (reaches some) (same-element elements index ∙ there)
      ]

  -- the state where the element has a number's low bits
  abbrev pub with_stored : ℤ → graph.State
  with_stored n = graph.with_array array (graph.with_element elements index (stored (bits_of t) n)) h

  pub element-stores : (n old : ℤ) (a : ℕ) (o : Outcome) → source.element_at elements index ≡ Some old
      → number_at h a ≡ Some n → Stand S before (Emit (op.Store (bits_of t) spot.array spot.number a) ∷ [])
      → Comes S u.turns (behind (before ++ Emit (op.Store (bits_of t) spot.array spot.number a) ∷ []) (with_stored n)) o
      → Comes S u.turns (behind before h) o
  element-stores n old a o there at_a stands r =
      elim (null-or-not array) [
        | inl null ↦ absurd (null-none u array index old null there)
        | inr some ↦ store-step S site before h fits (bits_of t) spot.array spot.number a u.turns array index n old
            elements o stands at-array at-index at_a (reaches some) (same-element elements index ∙ there) r
      ]

  pub store-trapped : (n : ℤ) (a : ℕ) → source.element_at elements index ≡ None → number_at h a ≡ Some n
      → Stand S before (Emit (op.Store (bits_of t) spot.array spot.number a) ∷ [])
      → Comes S u.turns (behind before h) (outcome_at h (Trapped Check))
  store-trapped n a there at_a stands =
      elim (null-or-not array) [
        | inl null ↦ store-null S site before h fits (bits_of t) spot.array spot.number a u.turns index n stands
            (at-array ∙ ap Some null) at-index at_a
        | inr some ↦ store-traps S site before h fits (bits_of t) spot.array spot.number a u.turns array index n
            elements
            stands at-array at-index at_a (reaches some) (same-element elements index ∙ there)
      ]

  -- the states then belong together
  pub stored-shows : (n : ℤ) → Shows S.program (S.function ∷ older)
      (source.with_array array (source.with_element elements index (converted t n)) u) (with_stored n)
  stored-shows n =
      subst (λ (es : List ℤ). Shows S.program (S.function ∷ older)
      (source.with_array array (source.with_element elements index (converted t n)) u) (graph.with_array array es h))
      (sym (same-with elements index (stored (bits_of t) n)
      ∙ ap (source.with_element elements index) (stored-is t n)))
      (arrays-set S.program (S.function ∷ older) u h t array (source.with_element elements index (converted t n)) shows
      is (length-with elements index (converted t n))
      (element-fits t elements index n (arrays-fit S.program (S.function ∷ older) u h t array shows is)))
