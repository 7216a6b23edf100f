-- Items behind others, one point at a time.
use Rattle.std.proofs.Common.{◌≡◌, ℕ, zero, suc, ◌<◌, ◌^◌, List, [], ◌∷◌, ◌++◌, length}
use Rattle.std.proofs.Common.{Some, refl, sym, ap, ◌∙◌, append_assoc, arith, get_or, inl, inr}
use Rattle.std.specs.Prelude.{slice_get, slice_index_or}
use Rattle.std.proofs.lemmas.Option.{get_or_from_slice_get, slice_get_within}
use Rattle.ia32_insn.specs.declared.item.Item.{Item}
use Rattle.ia32_insn.specs.declared.item.Item.TheVariants as item
use Rattle.flow_graph.specs.declared.op.Op.{Op}
use Rattle.flow_graph.specs.declared.op.Op.TheVariants as op
use Rattle.flow_graph.specs.Graphs.{Flow, IsIn}
use Rattle.flow_graph.specs.Sizes.{words_of}
use Rattle.ia32_rows.specs.Placements.{Placement}
use Rattle.ia32_rows.specs.Rows.{loop_label, point_row, row}
use Rattle.ia32_laws.proofs.Zones.{words-most}
use Rattle.ia32_select.specs.Room.{HasRoom}

-- a point and the items of its op behind others
pub point-emitted : (old pushed new : List Item) (flow : Flow) (placement : Placement) (p : ℕ) (o : Op)
    → pushed ≡ old ++ item.Point p ∷ [] → slice_get flow.ops p ≡ Some o → new ≡ pushed ++ row flow placement p o
    → new ≡ old ++ point_row flow placement p
point-emitted old pushed new flow placement p o one has e =
    let mine : List Item = row flow placement p o in
    let is : o ≡ slice_index_or flow.ops p op.Turn = sym (get_or_from_slice_get flow.ops p o op.Turn has) in
    e ∙ ap (λ (l : List Item). l ++ mine) one ∙ append_assoc old (item.Point p ∷ []) mine
    ∙ ap (λ (i : Op). old ++ item.Point p ∷ row flow placement p i) is

pub few-words : (flow : Flow) (p : ℕ) (o : Op) → HasRoom flow → slice_get flow.ops p ≡ Some o → words_of o < 2 ^ 29
few-words flow p o room has =
    let most = words-most flow.ops p o has in
    let few = room.words in
    omega arith

pub few-labels : (flow : Flow) (p : ℕ) (o : Op) → HasRoom flow → slice_get flow.ops p ≡ Some o
    → loop_label flow p < 2 ^ 32
few-labels flow p o room has =
    let inside = slice_get_within flow.ops p o has in
    let few = room.labels in
    omega arith

-- a point at a place is among the points
pub in-at : (ps : List ℕ) (i : ℕ) → i < length ps → IsIn (get_or ps i 0) ps
in-at [] i h = absurd (omega arith)
in-at (p ∷ ps) zero h = inl refl
in-at (p ∷ ps) (suc i) h = inr (in-at ps i (omega arith))
