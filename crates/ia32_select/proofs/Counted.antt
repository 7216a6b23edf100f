-- The numbers of the elements of frame arrays, one array at a time.
use Rattle.std.proofs.Common.{◌≡◌, ℕ, zero, suc, ◌<◌, ◌≤◌, ◌+◌, ◌-◌, ◌*◌, ◌/◌, ◌^◌, List, [], ◌∷◌, ◌++◌, length, drop}
use Rattle.std.proofs.Common.{Some, refl, sym, ap, subst, ◌∙◌, append_assoc, arith, inl, inr}
use Rattle.std.specs.Prelude.{◌⊎◌, pos, slice_get, slice_index_or}
use Rattle.std.specs.List.{AllByRecursion}
use Rattle.pcc_base.proofs.Lists.{all-at}
use Rattle.ia32_insn.specs.declared.operand.Rm32.TheVariants as rm
use Rattle.ia32_insn.specs.declared.insn.Insn.TheVariants as insn
use Rattle.ia32_insn.specs.declared.item.Item.{Item}
use Rattle.ia32_insn.specs.Items.{plain}
use Rattle.flow_graph.specs.Graphs.{Flow, IsArray}
use Rattle.ia32_rows.specs.Placements.{below}
use Rattle.ia32_rows.specs.Rows.{headers}
use Rattle.ia32_laws.specs.Supports.{AreArraysIn, IsArrayIn}

-- the numbers of the arrays from a place on are that of the array there, and the rest
here : (arrays : List (ℕ × ℕ)) (belows : List ℕ) (i : ℕ) → i < length arrays → i < length belows
    → headers (drop i arrays) (drop i belows)
    ≡ plain (insn.MovImm (rm.Mem (below (slice_index_or belows i 0 + 4))) (pos (slice_index_or arrays i (0, 0)).1))
    ∷ headers (drop (suc i) arrays) (drop (suc i) belows)
here [] belows i h k = absurd (omega arith)
here (a ∷ arrays) [] i h k = absurd (omega arith)
here (a ∷ arrays) (b ∷ belows) zero h k = refl
here (a ∷ arrays) (b ∷ belows) (suc i) h k = here arrays belows i (omega arith) (omega arith)

-- so one more array's number is behind those before it
pub one-header : (arrays : List (ℕ × ℕ)) (belows : List ℕ) (i d n : ℕ) (items new whole : List Item)
    → i < length arrays → length belows ≡ length arrays → d ≡ slice_index_or belows i 0
    → n ≡ (slice_index_or arrays i (0, 0)).1
    → items ++ headers (drop i arrays) (drop i belows) ≡ whole
    → new ≡ items ++ plain (insn.MovImm (rm.Mem (below (d + 4))) (pos n)) ∷ []
    → new ++ headers (drop (suc i) arrays) (drop (suc i) belows) ≡ whole
one-header arrays belows i d n items new whole h many is counts so one =
    let rest : List Item = headers (drop (suc i) arrays) (drop (suc i) belows) in
    ap (λ (l : List Item). l ++ rest) one
    ∙ ap (λ (k : ℕ). (items ++ plain (insn.MovImm (rm.Mem (below (k + 4))) (pos n)) ∷ []) ++ rest) is
    ∙ ap (λ (k : ℕ). (items ++ plain (insn.MovImm (rm.Mem (below (slice_index_or belows i 0 + 4))) (pos k)) ∷ [])
    ++ rest) counts
    ∙ append_assoc items
    (plain (insn.MovImm (rm.Mem (below (slice_index_or belows i 0 + 4))) (pos (slice_index_or arrays i (0, 0)).1)) ∷ [])
    rest
    ∙ ap (λ (l : List Item). items ++ l) (sym (here arrays belows i h (omega arith)))
    ∙ so

none-left : (xs : List (ℕ × ℕ)) (i : ℕ) → length xs ≤ i → drop i xs ≡ []
none-left [] zero h = refl
none-left [] (suc i) h = refl
none-left (x ∷ xs) zero h = absurd (omega arith)
none-left (x ∷ xs) (suc i) h = none-left xs i (omega arith)

no-arrays : (belows : List ℕ) → headers [] belows ≡ []
no-arrays [] = refl
no-arrays (b ∷ belows) = refl

-- and behind the last there is none
pub no-header : (arrays : List (ℕ × ℕ)) (belows : List ℕ) (i : ℕ) → length arrays ≤ i
    → headers (drop i arrays) (drop i belows) ≡ []
no-header arrays belows i h =
    ap (λ (xs : List (ℕ × ℕ)). headers xs (drop i belows)) (none-left arrays i h) ∙ no-arrays (drop i belows)

at-place : {X : Type 0} (xs : List X) (i : ℕ) (d : X) → i < length xs → slice_get xs i ≡ Some (slice_index_or xs i d)
at-place [] i d h = absurd (omega arith)
at-place (x ∷ xs) zero d h = refl
at-place (x ∷ xs) (suc i) d h = at-place xs i d (omega arith)

-- an array of a frame is near EBP, and has few elements
pub near-array : (flow : Flow) (frame : ℕ) (belows : List ℕ) (i : ℕ) → AreArraysIn flow.arrays frame belows
    → frame ≤ 0x4000 → i < length flow.arrays → slice_index_or belows i 0 < 2 ^ 31 - 4
near-array flow frame belows i inside small h =
    let many = inside.as_many in
    let array : IsArrayIn frame (slice_index_or flow.arrays i (0, 0)) (slice_index_or belows i 0) =
    inside.inside i (slice_index_or belows i 0) (slice_index_or flow.arrays i (0, 0))
    (at-place flow.arrays i (0, 0) h) (at-place belows i 0 (omega arith)) in
    let high = array.high in
    omega arith

elements-fit : (width count : ℕ) → (width ≡ 1) ⊎ (width ≡ 2) ⊎ (width ≡ 4) → count ≤ (width * count + 3) / 4 * 4
elements-fit width count (inl e) = subst (λ (w : ℕ). count ≤ (w * count + 3) / 4 * 4) (sym e) (omega arith)
elements-fit width count (inr (inl e)) = subst (λ (w : ℕ). count ≤ (w * count + 3) / 4 * 4) (sym e) (omega arith)
elements-fit width count (inr (inr e)) = subst (λ (w : ℕ). count ≤ (w * count + 3) / 4 * 4) (sym e) (omega arith)

pub few-elements : (flow : Flow) (frame : ℕ) (belows : List ℕ) (i : ℕ) → AreArraysIn flow.arrays frame belows
    → AllByRecursion IsArray flow.arrays → frame ≤ 0x4000 → i < length flow.arrays
    → (slice_index_or flow.arrays i (0, 0)).1 < 2 ^ 31
few-elements flow frame belows i inside arrays small h =
    let many = inside.as_many in
    let mine : ℕ × ℕ = slice_index_or flow.arrays i (0, 0) in
    let there = at-place flow.arrays i (0, 0) h in
    let array : IsArrayIn frame mine (slice_index_or belows i 0) =
    inside.inside i (slice_index_or belows i 0) mine there (at-place belows i 0 (omega arith)) in
    let is : IsArray mine = all-at IsArray flow.arrays i mine arrays there in
    let fit = elements-fit mine.0 mine.1 is.0 in
    let low = array.low in
    let high = array.high in
    omega arith
