-- One point after another is done, and what is done is an allocation.
use Rattle.std.proofs.Common.{ℕ, ℤ, zero, suc, ◌≡◌, ◌≢◌, ◌<◌, ◌+◌, ◌*◌, ◌⊎◌, inl, inr}
use Rattle.std.proofs.Common.{List, [], ◌∷◌, ◌++◌, length, replicate, get_or, Option, Some, None, refl, sym, ap, subst}
use Rattle.std.proofs.Common.{arith, map, ◌∙◌}
use Rattle.std.specs.Prelude.{slice_get}
use Rattle.std.proofs.lemmas.Bool.{cases_eq}
use Rattle.std.proofs.lemmas.List.{length-replicate}
use Rattle.std.proofs.lemmas.Option.{none-some, slice_get_within}
use Rattle.flow_graph.specs.declared.op.Op.{Op}
use Rattle.flow_graph.specs.Graphs.{Flow, IsIn, IsPlaced}
use Rattle.flow_graph.specs.Lives.{Lives}
use Rattle.puzzle_board.specs.declared.piece.Kind.{Kind}
use Rattle.puzzle_board.specs.declared.piece.Kind.TheVariants.{X, Y, Z}
use Rattle.puzzle_board.specs.declared.piece.Piece.{Piece}
use Rattle.puzzle_board.specs.declared.piece.Spot.{Spot}
use Rattle.puzzle_board.specs.Placements.{IsLegalPlacement, Standing}
use Rattle.puzzle_board.specs.Places.{Entry, PlaceMap, entries_at, no_places, place_in, spilled_at, with_frame}
use Rattle.allocator.specs.PointBoards.{areas_of, point_pieces}
use Rattle.allocator.specs.PointMaps.{FrameUse, InSlot, IsLegalMap, IsLegalPoint, bytes_of_arrays, cells_of}
use Rattle.allocator.specs.PointMaps.{both_cells, spot_on, standing_at, standings_of, unspilled}
use Rattle.allocator.specs.SplitForms.{Form, IsForm}
use Rattle.allocator.specs.Allocations.{IsAllocation, NothingFirst}
use Rattle.allocator.specs.Progress.{IsDoneTo, IsEmptyAt}
use Rattle.allocator.specs.Sides.{ChangesPoint}
use Rattle.allocator.specs.Slots.{AreGiven, AreSlots, AreSpilled, HasSlot, slot_in, slots_given}
use Rattle.allocator.specs.Spills.{IsSpilledAt}

-- ---- what a point has stays while others change

module _
    (flow : Flow) (lives : Lives) (old new : PlaceMap) (point : ℕ)
    (before : entries_at new.before point ≡ entries_at old.before point)
    (after : entries_at new.after point ≡ entries_at old.after point)
    (spilled : spilled_at new point ≡ spilled_at old point)
    (kept : (v : ℕ) (offset : ℤ) → slot_in old.slots v ≡ Some offset → slot_in new.slots v ≡ Some offset) where
  spot-kept : (kind : Kind) (v : ℕ) → spot_on new point kind v ≡ spot_on old point kind v
  spot-kept X v = ap (λ (es : List Entry). cells_of (place_in es v)) before
  spot-kept Y v =
      ap (λ (es : List Entry). both_cells (cells_of (place_in es v))
      (cells_of (place_in (entries_at new.after point) v))) before
      ∙ ap (λ (es : List Entry). both_cells (cells_of (place_in (entries_at old.before point) v))
      (cells_of (place_in es v))) after
  spot-kept Z v = ap (λ (es : List Entry). cells_of (place_in es v)) after

  standings-kept : (ps : List Piece) → standings_of new point ps ≡ standings_of old point ps
  standings-kept [] = refl
  standings-kept (p ∷ ps) =
      ap (λ (o : Option Spot). standing_at p o ++ standings_of new point ps) (spot-kept p.kind p.var)
      ∙ ap (λ (ss : List Standing). standing_at p (spot_on old point p.kind p.var) ++ ss) (standings-kept ps)

  slot-kept :
      (kind : Kind) (offset : ℤ) (v : ℕ) → InSlot old point offset kind v → InSlot new point offset kind v
  slot-kept X offset v h = ap (λ (es : List Entry). place_in es v) before ∙ h
  slot-kept Y offset v h =
      (ap (λ (es : List Entry). place_in es v) before ∙ h.0, ap (λ (es : List Entry). place_in es v) after ∙ h.1)
  slot-kept Z offset v h = ap (λ (es : List Entry). place_in es v) after ∙ h

  pub legal-kept : (op : Op) → IsLegalPoint flow lives old point op → IsLegalPoint flow lives new point op
  legal-kept op legal = record {
    lists_before = ap (λ (es : List Entry). map (λ (e : Entry). e.0) es) before ∙ legal.lists_before;
    lists_after = ap (λ (es : List Entry). map (λ (e : Entry). e.0) es) after ∙ legal.lists_after;
    operand = λ f is. ap (λ (es : List Entry). place_in es f.variable) before ∙ legal.operand f is;
    result = λ f is. ap (λ (es : List Entry). place_in es f.variable) after ∙ legal.result f is;
    spilled = λ k p at i. in-slot k p at i;
    placed =
        subst
        (λ (vs : List ℕ). IsLegalPlacement (areas_of op) (unspilled vs (point_pieces flow lives point op))
        (standings_of new point (unspilled vs (point_pieces flow lives point op)))) (sym spilled)
        (subst
        (λ (ss : List Standing). IsLegalPlacement (areas_of op)
        (unspilled (spilled_at old point) (point_pieces flow lives point op)) ss)
        (sym (standings-kept (unspilled (spilled_at old point) (point_pieces flow lives point op)))) legal.placed);
  } where
    in-slot :
        (k : ℕ) (p : Piece) → slice_get (point_pieces flow lives point op) k ≡ Some p
        → IsIn p.var (spilled_at new point)
        → (offset : ℤ) × (slot_in new.slots p.var ≡ Some offset) × InSlot new point offset p.kind p.var
    in-slot k p at i =
        let (offset, slot, stands) = legal.spilled k p at (subst (λ (vs : List ℕ). IsIn p.var vs) spilled i) in
        (offset, kept p.var offset slot, slot-kept p.kind offset p.var stands)

  pub empty-kept : IsEmptyAt old point → IsEmptyAt new point
  empty-kept h = record {
    before = before ∙ h.before;
    after = after ∙ h.after;
    spilled = spilled ∙ h.spilled;
  }

-- ---- a point more

less-next : (q n : ℕ) → q < n + 1 → q ≢ n → q < n
less-next q n lt other = grind arith

-- a point of no block has nothing to be done
pub done-past : (form : Form) (n : ℕ) (places : PlaceMap) → (IsPlaced form.graph n → ⊥) → IsDoneTo form n places
    → IsDoneTo form (n + 1) places
done-past form n places none done = record {
  points = done.points;
  afters = done.afters;
  spills = done.spills;
  variables = done.variables;
  legal = λ q op lt placed has. done.legal q op (less-next q n lt (other q placed)) placed has;
  shortest = λ q op lt placed has. done.shortest q op (less-next q n lt (other q placed)) placed has;
  removed = done.removed;
  fresh = λ q le. done.fresh q (omega (arith, le));
  slots = done.slots;
  slotted = done.slotted;
} where
  other : (q : ℕ) → IsPlaced form.graph q → q ≢ n
  other q placed e = none (subst (λ (p : ℕ). IsPlaced form.graph p) e placed)

-- a point of a block is done
module _
    (form : Form) (n : ℕ) (m0 m1 m2 m3 : PlaceMap) (sp : List ℕ) (done : IsDoneTo form n m0)
    (placed : IsPlaced form.graph n) (spills : AreSpilled n sp m0 m1) (given : AreGiven sp m0.slots m1.slots)
    (first : ChangesPoint n m1 m2) (second : ChangesPoint n m2 m3) where
  pub nothing-before : entries_at m1.before n ≡ []
  nothing-before =
      ap (λ (l : List (List Entry)). entries_at l n) spills.before ∙ (done.fresh n (omega arith)).before

  pub nothing-after : entries_at m1.after n ≡ []
  nothing-after = ap (λ (l : List (List Entry)). entries_at l n) spills.after ∙ (done.fresh n (omega arith)).after

  pub spilled-here : spilled_at m3 n ≡ sp
  spilled-here =
      ap (λ (l : List (List ℕ)). get_or l n []) (second.spilled ∙ first.spilled)
      ∙ (spills.here ∙ ap (λ (vs : List ℕ). vs ++ sp) (done.fresh n (omega arith)).spilled)

  pub slots-here : m3.slots ≡ m1.slots
  slots-here = second.slots ∙ first.slots

  before-other : (q : ℕ) → q ≢ n → entries_at m3.before q ≡ entries_at m0.before q
  before-other q other =
      second.before q other
      ∙ (first.before q other ∙ ap (λ (l : List (List Entry)). entries_at l q) spills.before)

  after-other : (q : ℕ) → q ≢ n → entries_at m3.after q ≡ entries_at m0.after q
  after-other q other =
      second.after q other ∙ (first.after q other ∙ ap (λ (l : List (List Entry)). entries_at l q) spills.after)

  spilled-other : (q : ℕ) → q ≢ n → spilled_at m3 q ≡ spilled_at m0 q
  spilled-other q other =
      ap (λ (l : List (List ℕ)). get_or l q []) (second.spilled ∙ first.spilled) ∙ spills.others q other

  slots-kept : (v : ℕ) (offset : ℤ) → slot_in m0.slots v ≡ Some offset → slot_in m3.slots v ≡ Some offset
  slots-kept v offset e =
      ap (λ (ss : List (Option ℤ)). slot_in ss v) slots-here ∙ given.kept v offset e

  legal-next :
      (q : ℕ) (op : Op) → (q ≡ n) ⊎ (q ≢ n) → q < n + 1 → IsPlaced form.graph q
      → slice_get form.graph.ops q ≡ Some op
      → ((o : Op) → slice_get form.graph.ops n ≡ Some o → IsLegalPoint form.graph form.lives m3 n o)
      → IsLegalPoint form.graph form.lives m3 q op
  legal-next q op (inl same) lt at has here =
      subst (λ (p : ℕ). IsLegalPoint form.graph form.lives m3 p op) (sym same)
      (here op (ap (λ (p : ℕ). slice_get form.graph.ops p) (sym same) ∙ has))
  legal-next q op (inr other) lt at has here =
      legal-kept form.graph form.lives m0 m3 q (before-other q other) (after-other q other) (spilled-other q other)
      slots-kept op (done.legal q op (less-next q n lt other) at has)

  shortest-next :
      (q : ℕ) (op : Op) → (q ≡ n) ⊎ (q ≢ n) → q < n + 1 → IsPlaced form.graph q
      → slice_get form.graph.ops q ≡ Some op
      → ((o : Op) → slice_get form.graph.ops n ≡ Some o → IsSpilledAt form.graph form.lives n o sp)
      → IsSpilledAt form.graph form.lives q op (spilled_at m3 q)
  shortest-next q op (inl same) lt at has here =
      subst (λ (p : ℕ). IsSpilledAt form.graph form.lives p op (spilled_at m3 p)) (sym same)
      (subst (λ (vs : List ℕ). IsSpilledAt form.graph form.lives n op vs) (sym spilled-here)
      (here op (ap (λ (p : ℕ). slice_get form.graph.ops p) (sym same) ∙ has)))
  shortest-next q op (inr other) lt at has here =
      subst (λ (vs : List ℕ). IsSpilledAt form.graph form.lives q op vs) (sym (spilled-other q other))
      (done.shortest q op (less-next q n lt other) at has)

  empty-next : (q : ℕ) → q ≢ n → IsEmptyAt m0 q → IsEmptyAt m3 q
  empty-next q other h =
      empty-kept form.graph form.lives m0 m3 q (before-other q other) (after-other q other) (spilled-other q other)
      slots-kept h

  abbrev Spilled : PlaceMap → ℕ → Type 0
  Spilled m v = (q : ℕ) × IsPlaced form.graph q × IsIn v (spilled_at m q)

  slotted-to : (v : ℕ) → HasSlot m3.slots v → Spilled m3 v
  slotted-to v h = by (given.only v (subst (λ (ss : List (Option ℤ)). HasSlot ss v) slots-here h))
    where
      at : (q : ℕ) → (q ≡ n) ⊎ (q ≢ n) → IsPlaced form.graph q → IsIn v (spilled_at m0 q) → Spilled m3 v
      at q (inl same) on i =
          absurd (subst (λ (vs : List ℕ). IsIn v vs)
          (ap (λ (p : ℕ). spilled_at m0 p) same ∙ (done.fresh n (omega arith)).spilled) i)
      at q (inr other) on i = (q, on, subst (λ (vs : List ℕ). IsIn v vs) (sym (spilled-other q other)) i)

      by : HasSlot m0.slots v ⊎ IsIn v sp → Spilled m3 v
      by (inl old) = let (q, on, i) = (done.slotted v).0 old in at q (cases_eq q n) on i
      by (inr i) = (n, placed, subst (λ (vs : List ℕ). IsIn v vs) (sym spilled-here) i)

  slotted-from : (v q : ℕ) → (q ≡ n) ⊎ (q ≢ n) → IsPlaced form.graph q → IsIn v (spilled_at m3 q) → HasSlot m3.slots v
  slotted-from v q (inl same) on i =
      subst (λ (ss : List (Option ℤ)). HasSlot ss v) (sym slots-here)
      (given.given v (subst (λ (vs : List ℕ). IsIn v vs) (ap (λ (p : ℕ). spilled_at m3 p) same ∙ spilled-here) i))
  slotted-from v q (inr other) on i =
      let (offset, e) = (done.slotted v).1 (q, on, subst (λ (vs : List ℕ). IsIn v vs) (spilled-other q other) i) in
      (offset, slots-kept v offset e)

  pub done-more :
      ((o : Op) → slice_get form.graph.ops n ≡ Some o → IsLegalPoint form.graph form.lives m3 n o)
      → ((o : Op) → slice_get form.graph.ops n ≡ Some o → IsSpilledAt form.graph form.lives n o sp)
      → IsDoneTo form (n + 1) m3
  done-more legal shortest = record {
    points = second.befores ∙ (first.befores ∙ (ap (λ (l : List (List Entry)). length l) spills.before ∙ done.points));
    afters = second.afters ∙ (first.afters ∙ (ap (λ (l : List (List Entry)). length l) spills.after ∙ done.afters));
    spills = ap (λ (l : List (List ℕ)). length l) (second.spilled ∙ first.spilled) ∙ (spills.many ∙ done.spills);
    variables = ap (λ (l : List (Option ℤ)). length l) slots-here ∙ (given.many ∙ done.variables);
    legal = λ q op lt at has. legal-next q op (cases_eq q n) lt at has legal;
    shortest = λ q op lt at has. shortest-next q op (cases_eq q n) lt at has shortest;
    removed = λ q none.
        empty-next q (λ e. none (subst (λ (p : ℕ). IsPlaced form.graph p) (sym e) placed)) (done.removed q none);
    fresh = λ q le. empty-next q (λ e. absurd (omega (arith, le, e))) (done.fresh q (omega (arith, le)));
    slots = subst AreSlots (sym slots-here) given.slots;
    slotted = λ v. (slotted-to v, (λ h. let (q, on, i) = h in slotted-from v q (cases_eq q n) on i));
  }

-- ---- at first

none-at : {A : Type 0} (n q : ℕ) (x : A) → get_or (replicate n x) q x ≡ x
none-at zero q x = refl
none-at (suc n) zero x = refl
none-at (suc n) (suc q) x = none-at n q x

none-given : (n : ℕ) → slots_given (replicate n None) ≡ 0
none-given zero = refl
none-given (suc n) = none-given n

pub none-count : (n : ℕ) (m : PlaceMap) (points frame : ℕ) → m ≡ no_places points n frame → 0 ≡ slots_given m.slots
none-count n m points frame is = sym (ap (λ (x : PlaceMap). slots_given x.slots) is ∙ none-given n)

none-slot : (n v : ℕ) → HasSlot (replicate n None) v → ⊥
none-slot n v (offset, e) = none-some offset (sym (none-at n v None) ∙ e)

empty-first : (points vars frame q : ℕ) → IsEmptyAt (no_places points vars frame) q
empty-first points vars frame q = record {
  before = none-at points q [];
  after = none-at points q [];
  spilled = none-at points q [];
}

done-none : (form : Form) (vars points : ℕ) → points ≡ length form.graph.ops → vars ≡ length form.graph.widths
    → IsDoneTo form 0 (no_places points vars 0)
done-none form vars points ops widths = record {
  points = length-replicate points [] ∙ ops;
  afters = length-replicate points [] ∙ ops;
  spills = length-replicate points [] ∙ ops;
  variables = length-replicate vars None ∙ widths;
  legal = λ q op lt. absurd (omega (arith, lt));
  shortest = λ q op lt. absurd (omega (arith, lt));
  removed = λ q none. empty-first points vars 0 q;
  fresh = λ q le. empty-first points vars 0 q;
  slots = record {
    within = λ v offset e. absurd (none-slot vars v (offset, e));
    apart = λ v w offset e f. absurd (none-slot vars v (offset, e));
  };
  slotted = λ v. (
    (λ h. absurd (none-slot vars v h)),
    (λ h. let (q, on, i) = h in absurd (subst (λ (vs : List ℕ). IsIn v vs) (none-at points q []) i)),
  );
}

pub done-first : (form : Form) (vars points : ℕ) (m : PlaceMap) → m ≡ no_places points vars 0
    → points ≡ length form.graph.ops → vars ≡ length form.graph.widths → IsDoneTo form 0 m
done-first form vars points m is ops widths =
    subst (λ (x : PlaceMap). IsDoneTo form 0 x) (sym is) (done-none form vars points ops widths)

-- ---- in the end

module _
    (form : Form) (m new : PlaceMap) (given frame : ℕ) (done : IsDoneTo form (length form.graph.ops) m)
    (is : new ≡ with_frame m frame) (count : given ≡ slots_given m.slots)
    (bytes : frame ≡ 16 + 4 * given + bytes_of_arrays form.graph.arrays) where
  abbrev last : PlaceMap
  last = with_frame m frame

  frame-use : FrameUse form.graph last
  frame-use = record {
    slotted = done.slotted;
    frame = bytes ∙ ap (λ (n : ℕ). 16 + 4 * n + bytes_of_arrays form.graph.arrays) count;
    within = done.slots.within;
    apart = done.slots.apart;
  }

  legal-last : (q : ℕ) (op : Op) → IsPlaced form.graph q → slice_get form.graph.ops q ≡ Some op
      → IsLegalPoint form.graph form.lives last q op
  legal-last q op on has =
      legal-kept form.graph form.lives m last q refl refl refl (λ v offset e. e) op
      (done.legal q op (slice_get_within form.graph.ops q op has) on has)

  last-allocation : IsAllocation form last
  last-allocation = record {
    points = done.points;
    variables = done.variables;
    legal = legal-last;
    shortest = λ q op on has. done.shortest q op (slice_get_within form.graph.ops q op has) on has;
    removed = λ q none. let h = done.removed q none in (h.before, h.after, h.spilled);
    frame = frame-use;
  }

  pub is-allocation : IsAllocation form new
  is-allocation = subst (λ (x : PlaceMap). IsAllocation form x) (sym is) last-allocation

  pub is-legal : IsForm form → NothingFirst form.graph → IsLegalMap form.graph new
  is-legal kept nothing =
      subst (λ (x : PlaceMap). IsLegalMap form.graph x) (sym is) (record {
        lives = form.lives;
        live = kept.live;
        dies = kept.dies;
        nothing_first = nothing;
        points = legal-last;
        frame = frame-use;
      })
