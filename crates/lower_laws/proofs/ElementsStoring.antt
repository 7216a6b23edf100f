-- A new value that is computed and stored, and what comes behind the store.
use Rattle.std.proofs.Common.{◌≡◌, ◌≢◌, ℕ, suc, ◌+◌, ◌*◌, ◌<◌, ℤ, List, [], ◌∷◌, ◌++◌, Option, Some}
use Rattle.std.proofs.Common.{None, inl, inr, refl, sym, ap, ◌∙◌, subst, arith, append-nil}
use Rattle.pcc_base.specs.Outcome.{ArrayName, Trapped}
use Rattle.c_tree.specs.declared.expression.BinaryOp.{BinaryOp}
use Rattle.c_tree.specs.declared.types.IntegerType.{IntegerType}
use Rattle.c_tree.specs.declared.types.ValueType.TheVariants.{Integer, Pointer}
use Rattle.c_tree.specs.Evaluation.{AtIndex, computed, element_written, store}
use Rattle.c_tree.specs.Operators.{Computed, Computes, Traps, numbers_value}
use Rattle.c_tree.specs.Program.{Function}
use Rattle.c_tree.specs.Store as source
use Rattle.c_tree.specs.Store.{Evaluated, Gives, Held, HoldsNumber, HoldsPointer, and_then, array_named, converted}
use Rattle.flow_graph.specs.declared.op.Op.TheVariants as op
use Rattle.flow_graph.specs.States as graph
use Rattle.flow_graph.specs.States.{number_at, number_of}
use Rattle.lower_lines.specs.Expressions.{new_value, old_value}
use Rattle.lower_lines.specs.Following.{Comes, IsSite, Site, Stand, behind, context_of}
use Rattle.lower_lines.specs.Lines.{Line, Emit}
use Rattle.lower_lines.specs.Operators.{computing}
use Rattle.lower_lines.specs.Parts.{Wanted, bits_of}
use Rattle.lower_lines.specs.Relation.{HoldsAt, IsArrayOf, Keeps, Shows}
use Rattle.lower_lines.specs.Variables.{ForByte, ForScratch, Spot, levels_of, local_variables, temporary}
use Rattle.lower_lines.proofs.Arrays.{kept-by-arrays}
use Rattle.lower_laws.proofs.Binary.{Fits, trap-ends}
use Rattle.lower_laws.proofs.Going.{stand-back, stand-front}
use Rattle.lower_laws.proofs.Unary.{follows-behind}
use Rattle.lower_laws.proofs.Accesses.{element-stores, store-trapped, stored-shows, with_stored}
use Rattle.lower_laws.proofs.PlacesReading.{trap-ends as access-ends}
use Rattle.lower_laws.proofs.Writing.{turns-same, value-same, visits-same}
use Rattle.lower_laws.proofs.Computing.{Gets, IsOther, computing-gets}
use Rattle.lower_laws.specs.ElementsLaws.{IsPlain}

-- ---- which variables are others

pub plain-other : (S : Site) (level v : ℕ) → IsPlain S level v → IsOther S level v
plain-other S level v plain = record {
  scratch = λ e. by-scratch plain e;
  byte = λ e. by-byte plain e;
  new = λ e. by-new plain e;
}
  where
    below : (a l v k : ℕ) → v < a → v ≡ a + l * 5 + k → ⊥
    below a l v k low e = omega (arith, low, e)

    apart : (a v j k : ℕ) → v ≡ a + j → v ≡ a + k → j < k → ⊥
    apart a v j k d e less = omega (arith, d, e, less)

    next : (a l v j : ℕ) → v ≡ a + l * 5 + j → j < 5 → v ≡ a + suc l * 5 + 2 → ⊥
    next a l v j d less e = omega (arith, d, e, less)

    by-scratch : IsPlain S level v → v ≡ temporary (context_of S) level ForScratch → ⊥
    by-scratch (inl low) e = below (local_variables S.function) level v 3 low e
    by-scratch (inr (inl d)) e = apart (local_variables S.function + level * 5) v 0 3 d e (omega arith)
    by-scratch (inr (inr d)) e = apart (local_variables S.function + level * 5) v 1 3 d e (omega arith)

    by-byte : IsPlain S level v → v ≡ temporary (context_of S) level ForByte → ⊥
    by-byte (inl low) e = below (local_variables S.function) level v 4 low e
    by-byte (inr (inl d)) e = apart (local_variables S.function + level * 5) v 0 4 d e (omega arith)
    by-byte (inr (inr d)) e = apart (local_variables S.function + level * 5) v 1 4 d e (omega arith)

    by-new : IsPlain S level v → v ≡ new_value (context_of S) level → ⊥
    by-new (inl low) e = below (local_variables S.function) (suc level) v 2 low e
    by-new (inr (inl d)) e = next (local_variables S.function) level v 0 d (omega arith) e
    by-new (inr (inr d)) e = next (local_variables S.function) level v 1 d (omega arith) e

-- the old value stays where it is
pub old-other : (S : Site) (level : ℕ) → IsOther S level (old_value (context_of S) level)
old-other S level = record {
  scratch = λ e. apart (local_variables S.function + level * 5) 2 3 e (omega arith);
  byte = λ e. apart (local_variables S.function + level * 5) 2 4 e (omega arith);
  new = λ e. next (local_variables S.function) level e;
}
  where
    apart : (a j k : ℕ) → a + j ≡ a + k → j < k → ⊥
    apart a j k e less = omega (arith, e, less)

    next : (a l : ℕ) → a + l * 5 + 2 ≡ a + suc l * 5 + 2 → ⊥
    next a l e = omega (arith, e)

pub old-apart : (S : Site) (level v : ℕ) → IsPlain S level v → v ≢ old_value (context_of S) level
old-apart S level v (inl low) e = below (local_variables S.function) level v low e
  where
    below : (a l v : ℕ) → v < a → v ≡ a + l * 5 + 2 → ⊥
    below a l v low e = omega (arith, low, e)
old-apart S level v (inr (inl d)) e = apart (local_variables S.function + level * 5) v d e
  where
    apart : (a v : ℕ) → v ≡ a + 0 → v ≡ a + 2 → ⊥
    apart a v d e = omega (arith, d, e)
old-apart S level v (inr (inr d)) e = apart (local_variables S.function + level * 5) v d e
  where
    apart : (a v : ℕ) → v ≡ a + 1 → v ≡ a + 2 → ⊥
    apart a v d e = omega (arith, d, e)

-- the variables of a spot are plain
abbrev pub IsPlainSpot : Site → ℕ → Spot → Type 0
IsPlainSpot S level spot = IsPlain S level spot.array × IsPlain S level spot.number

-- ---- what comes behind the store

-- Lines that give what is picked of the old and the new value.
abbrev pub Finishes : Site → List Function → ℕ → Wanted → IntegerType → List Line → (Held → Held → Held) → Type 0
Finishes S active level wanted t final pick =
    (before : List Line) (z : source.State) (i : graph.State) (m r : ℤ) → i.current.function ≡ S.number
    → Shows S.program active z i → number_at i (old_value (context_of S) level) ≡ Some m
    → number_at i (new_value (context_of S) level) ≡ Some r → Stand S before final
    → Fits S active before final level wanted (Integer t) z i
    (Gives (pick (HoldsNumber m) (HoldsNumber (converted t r))) z)

module _ (S : Site) (site : IsSite S) (older : List Function) (t : IntegerType) (array : ArrayName) (index : ℤ)
    (spot : Spot) (is : IsArrayOf S.program (S.function ∷ older) t array) (level : ℕ) (m : ℤ) (wanted : Wanted)
    (final : List Line) (pick : Held → Held → Held)
    (finishes : Finishes S (S.function ∷ older) level wanted t final pick) where
  abbrev saving : Line
  saving = Emit (op.Store (bits_of t) spot.array spot.number (new_value (context_of S) level))

  -- what is left, behind the new value
  abbrev picked : Held → source.State → Evaluated Held
  picked new z = Gives (pick (HoldsNumber m) new) z

  module _ (before : List Line) (u : source.State) (h : graph.State) (fits : h.current.function ≡ S.number)
      (shows : Shows S.program (S.function ∷ older) u h)
      (holds : HoldsAt h.current.variables (Pointer t) spot (HoldsPointer array index)) (n : ℤ)
      (at_old : number_at h (old_value (context_of S) level) ≡ Some m)
      (at_new : number_at h (new_value (context_of S) level) ≡ Some n) where
    abbrev others : List ℤ
    others = source.with_element (array_named u array) index (converted t n)

    abbrev after : source.State
    after = source.with_array array others u

    abbrev later : graph.State
    later = with_stored S site older t before u h fits shows array index spot holds is n

    later-keeps : Keeps (local_variables S.function) level h later
    later-keeps = kept-by-arrays (local_variables S.function) level h array _

    later-at : (v : ℕ) (k : ℤ) → number_at h v ≡ Some k → number_at later v ≡ Some k
    later-at v k at = ap number_of (value-same array _ h v) ∙ at

    pub saved-fits : (element : Option ℤ) → source.element_at (array_named u array) index ≡ element
        → Stand S before (saving ∷ final)
        → Fits S (S.function ∷ older) before (saving ∷ final) level wanted (Integer t) u h
        (and_then (element_written array index (HoldsNumber (converted t n)) u element) picked)
    saved-fits None there stands = (
      access-ends S (S.function ∷ older) u h before shows
          (store-trapped S site older t before u h fits shows array index spot holds is n
          (new_value (context_of S) level) there at_new (stand-front S before (saving ∷ []) final stands)),
      tt,
    )
    saved-fits (Some old) there stands =
        let rest = finishes (before ++ saving ∷ []) after later m n (later-keeps.function ∙ fits)
        (stored-shows S site older t before u h fits shows array index spot holds is n)
        (later-at (old_value (context_of S) level) m at_old) (later-at (new_value (context_of S) level) n at_new)
        (stand-back S before (saving ∷ []) final stands) in (
          follows-behind S (S.function ∷ older) before (saving ∷ []) final level wanted (Integer t) u after h later []
              (picked (HoldsNumber (converted t n)) after) later-keeps
              (visits-same array others u ∙ sym (append-nil u.visits))
              (λ o r. element-stores S site older t before u h fits shows array index spot holds is n old
              (new_value (context_of S) level) o there at_new (stand-front S before (saving ∷ []) final stands)
              (subst (λ (k : ℕ). Comes S k (behind (before ++ saving ∷ []) later) o) (turns-same array others u) r))
              rest.0,
          rest.1,
        )

  -- ---- the new value is computed

  module _ (plain : IsPlainSpot S level spot) (before : List Line) (y : source.State) (i : graph.State)
      (fits : i.current.function ≡ S.number) (shows : Shows S.program (S.function ∷ older) y i)
      (holds : HoldsAt i.current.variables (Pointer t) spot (HoldsPointer array index))
      (at_old : number_at i (old_value (context_of S) level) ≡ Some m) where
    -- behind the ops of the operator
    worked-fits : (ops : List Line) (c : Computed) → Gets S (S.function ∷ older) level before ops y i c
        → Stand S before (ops ++ (saving ∷ final))
        → Fits S (S.function ∷ older) before (ops ++ (saving ∷ final)) level wanted (Integer t) y i
        (and_then (and_then (computed c y) (λ new z. store (AtIndex array index) (source.in_type (Integer t) new) z))
        picked)
    worked-fits ops (Traps trap) comes stands =
        (trap-ends S (S.function ∷ older) before y i (Trapped trap) shows comes, tt)
    worked-fits ops (Computes (HoldsPointer other place)) works stands = absurd works
    worked-fits ops (Computes (HoldsNumber r)) (h, after, at, goes) stands =
        let old = ap number_of (after.leaves (old_value (context_of S) level) (old-other S level)) ∙ at_old in
        let rest = saved-fits (before ++ ops) y h (after.keeps.function ∙ fits) after.shows (
          after.leaves spot.array (plain-other S level spot.array plain.0) ∙ holds.0,
          after.leaves spot.number (plain-other S level spot.number plain.1) ∙ holds.1,
        ) r old at (source.element_at (array_named y array) index) refl
        (stand-back S before ops (saving ∷ final) stands) in (
          follows-behind S (S.function ∷ older) before ops (saving ∷ final) level wanted (Integer t) y y i h []
              (and_then (store (AtIndex array index) (HoldsNumber (converted t r)) y) picked) after.keeps
              (sym (append-nil y.visits)) goes rest.0,
          rest.1,
        )

    old-not-byte : (a : ℕ) → a + 2 ≡ a + 4 → ⊥
    old-not-byte a e = omega (arith, e)

    pub computed-fits : (within : IntegerType) (operator : BinaryOp) (x : ℕ) (n : ℤ)
        → suc level < levels_of S.function → number_at i x ≡ Some n → x ≢ temporary (context_of S) level ForScratch
        → Stand S before (computing (context_of S) level within operator (new_value (context_of S) level)
        (old_value (context_of S) level) x ++ (saving ∷ final))
        → Fits S (S.function ∷ older) before (computing (context_of S) level within operator (new_value (context_of S) level)
        (old_value (context_of S) level) x ++ (saving ∷ final)) level wanted (Integer t) y i
        (and_then (and_then (computed (numbers_value within operator m n) y)
        (λ new z. store (AtIndex array index) (source.in_type (Integer t) new) z)) picked)
    computed-fits within operator x n room at_x apart stands =
        worked-fits (computing (context_of S) level within operator (new_value (context_of S) level)
        (old_value (context_of S) level) x) (numbers_value within operator m n)
        (computing-gets S site older level (old_value (context_of S) level) x m n before y i fits shows room at_old at_x
        (λ e. old-not-byte (local_variables S.function + level * 5) e) apart within operator
        (stand-front S before (computing (context_of S) level within operator (new_value (context_of S) level)
        (old_value (context_of S) level) x) (saving ∷ final) stands)) stands
