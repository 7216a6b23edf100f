-- A point is done: what its calls have made, put together.
use Rattle.std.proofs.Common.{ℕ, ◌≡◌, ◌<◌, ◌+◌, List, [], ◌∷◌, length, Option, Some, sym, ap, subst, ◌∙◌}
use Rattle.std.proofs.Common.{arith, Result, Ok, Err, OnOk}
use Rattle.std.specs.List.{AllByRecursion}
use Rattle.std.specs.Prelude.{option_map, slice_get}
use Rattle.std.proofs.lemmas.Option.{same_Some, slice_get_within}
use Rattle.pcc_base.proofs.Lists.{all-at}
use Rattle.flow_graph.specs.declared.op.Op.{Op}
use Rattle.flow_graph.specs.Graphs.{Flow, IsFlow, IsPlaced}
use Rattle.flow_graph.specs.Lives.{IsLives, Lives, at_point}
use Rattle.flow_graph.specs.Liveness.{defined}
use Rattle.flow_graph.proofs.Ascending.{ascending-at}
use Rattle.flow_graph.proofs.LivePaths.{live_step}
use Rattle.puzzle_board.specs.declared.piece.Piece.{Piece}
use Rattle.puzzle_board.specs.declared.piece.Spot.{Spot}
use Rattle.puzzle_board.specs.declared.place.Place.{Place}
use Rattle.puzzle_board.specs.Places.{Entry, PlaceMap, entries_at}
use Rattle.allocator.specs.PointBoards.{areas_of, fixed_result, fixed_use, point_pieces, with_result}
use Rattle.allocator.specs.PointMaps.{IsLegalPoint}
use Rattle.allocator.specs.SplitForms.{Form, IsForm}
use Rattle.allocator.specs.PointPuzzles.{pair_of, pieces_at}
use Rattle.allocator.specs.Progress.{IsDoneTo}
use Rattle.allocator.specs.Sides.{ArePut, ChangesPoint, is_lower, is_upper, with_fixed}
use Rattle.allocator.specs.Slots.{AreGiven, AreSpilled}
use Rattle.allocator.specs.Solutions.{ArePlaces, AreSpots}
use Rattle.allocator.specs.Spills.{HasPiece, IsSpilledAt}
use Rattle.allocator.proofs.Ordered.{all-of, vars-within}
use Rattle.allocator.proofs.Doing.{done-more, slots-here, spilled-here}
use Rattle.allocator.proofs.Points.{point-legal}

-- the pieces that are read are those of the point
pub pieces-are :
    (flow : Flow) (lives : Lives) (n : ℕ) (op : Op) (ps : List Piece) → slice_get flow.ops n ≡ Some op
    → pieces_at flow lives n ≡ Some ps → ps ≡ point_pieces flow lives n op
pieces-are flow lives n op ps has value =
    sym (same_Some (point_pieces flow lives n op) ps
    (sym (ap (λ (o : Option Op). option_map (point_pieces flow lives n) o) has) ∙ value))

plain :
    (form : Form) (homes : List ℕ) (n : ℕ) (op : Op) (m0 m1 m2 m3 : PlaceMap) (sp : List ℕ)
    (spots : List (Option Spot)) (standing : List Place)
    → IsFlow form.graph homes → IsForm form → IsLives form.lives → IsPlaced form.graph n
    → slice_get form.graph.ops n ≡ Some op → IsDoneTo form n m0 → IsSpilledAt form.graph form.lives n op sp
    → AreSpots (areas_of op) (point_pieces form.graph form.lives n op) sp spots → AreSpilled n sp m0 m1
    → AreGiven sp m0.slots m1.slots
    → ArePlaces m1.slots (point_pieces form.graph form.lives n op) spots standing → ChangesPoint n m1 m2
    → ArePut is_upper (point_pieces form.graph form.lives n op) standing
    (length (point_pieces form.graph form.lives n op)) (entries_at m2.before n)
    → ArePut is_lower (point_pieces form.graph form.lives n op) standing
    (length (point_pieces form.graph form.lives n op)) (entries_at m2.after n)
    → ChangesPoint n m2 m3
    → entries_at m3.before n ≡ with_fixed (option_map pair_of (fixed_use op)) (entries_at m2.before n)
    → entries_at m3.after n ≡ with_fixed (option_map pair_of (fixed_result op)) (entries_at m2.after n)
    → IsDoneTo form (n + 1) m3
plain form homes n op m0 m1 m2 m3 sp spots standing flows kept lives placed has done spilled solved spills given are
    first uppers lowers second befores afters =
    done-more form n m0 m1 m2 m3 sp done placed spills given first second
    (λ o e. subst (λ (x : Op). IsLegalPoint form.graph form.lives m3 n x) (same_Some op o (sym has ∙ e)) legal)
    (λ o e. subst (λ (x : Op). IsSpilledAt form.graph form.lives n x sp) (same_Some op o (sym has ∙ e)) spilled)
  where
    legal : IsLegalPoint form.graph form.lives m3 n op
    legal =
        point-legal form.graph homes form.lives n op flows kept.live live_step (kept.dies n op placed has) placed has
        (ascending-at form.lives.before n lives.before) (ascending-at form.lives.after n lives.after) sp spots
        standing m1.slots solved are (entries_at m2.before n) (entries_at m2.after n) uppers lowers m3 befores
        afters (spilled-here form n m0 m1 m2 m3 sp done placed spills given first second)
        (slots-here form n m0 m1 m2 m3 sp done placed spills given first second)

-- the same, where lists are read more than once
pub point-done :
    (form : Form) (homes : List ℕ) (n : ℕ) (op : Op) (m0 m1 m2 m3 : PlaceMap) (ps ps1 ps2 ps3 : List Piece)
    (sp sp1 : List ℕ) (spots spots1 : List (Option Spot)) (standing standing1 : List Place)
    (fu fr : Option (ℕ × Spot))
    → IsFlow form.graph homes → IsForm form → IsLives form.lives → IsPlaced form.graph n
    → slice_get form.graph.ops n ≡ Some op → pieces_at form.graph form.lives n ≡ Some ps → ps1 ≡ ps → sp1 ≡ sp
    → ps2 ≡ ps → spots1 ≡ spots → ps3 ≡ ps → standing1 ≡ standing
    → fu ≡ option_map pair_of (fixed_use op) → fr ≡ option_map pair_of (fixed_result op)
    → IsDoneTo form n m0 → IsSpilledAt form.graph form.lives n op sp → AreSpots (areas_of op) ps1 sp spots
    → AreSpilled n sp1 m0 m1 → AreGiven sp1 m0.slots m1.slots → ArePlaces m1.slots ps2 spots1 standing
    → ChangesPoint n m1 m2 → ArePut is_upper ps3 standing1 (length ps3) (entries_at m2.before n)
    → ArePut is_lower ps3 standing1 (length ps3) (entries_at m2.after n) → ChangesPoint n m2 m3
    → entries_at m3.before n ≡ with_fixed fu (entries_at m2.before n)
    → entries_at m3.after n ≡ with_fixed fr (entries_at m2.after n) → IsDoneTo form (n + 1) m3
point-done form homes n op m0 m1 m2 m3 ps ps1 ps2 ps3 sp sp1 spots spots1 standing standing1 fu fr flows kept lives
    placed has value e1 es e2 et e3 ed efu efr done spilled solved spills given are first uppers lowers second
    befores afters =
    let all : List Piece = point_pieces form.graph form.lives n op in
    let is : ps ≡ all = pieces-are form.graph form.lives n op ps has value in
    plain form homes n op m0 m1 m2 m3 sp spots standing flows kept lives placed has done spilled
    (subst (λ (x : List Piece). AreSpots (areas_of op) x sp spots) (e1 ∙ is) solved)
    (subst (λ (x : List ℕ). AreSpilled n x m0 m1) es spills)
    (subst (λ (x : List ℕ). AreGiven x m0.slots m1.slots) es given)
    (subst (λ (x : List Piece). ArePlaces m1.slots x spots standing) (e2 ∙ is)
    (subst (λ (x : List (Option Spot)). ArePlaces m1.slots ps2 x standing) et are))
    first
    (subst (λ (x : List Piece). ArePut is_upper x standing (length x) (entries_at m2.before n)) (e3 ∙ is)
    (subst (λ (x : List Place). ArePut is_upper ps3 x (length ps3) (entries_at m2.before n)) ed uppers))
    (subst (λ (x : List Piece). ArePut is_lower x standing (length x) (entries_at m2.after n)) (e3 ∙ is)
    (subst (λ (x : List Place). ArePut is_lower ps3 x (length ps3) (entries_at m2.after n)) ed lowers))
    second
    (befores ∙ ap (λ (x : Option (ℕ × Spot)). with_fixed x (entries_at m2.before n)) efu)
    (afters ∙ ap (λ (x : Option (ℕ × Spot)). with_fixed x (entries_at m2.after n)) efr)

-- ---- what the calls ask for

-- the variables of a point's pieces are there
pub vars-there :
    (form : Form) (homes : List ℕ) (n : ℕ) (op : Op) (ps : List Piece) → IsFlow form.graph homes → IsForm form
    → IsPlaced form.graph n → slice_get form.graph.ops n ≡ Some op → pieces_at form.graph form.lives n ≡ Some ps
    → AllByRecursion (λ p. p.var < length form.graph.widths) ps
vars-there form homes n op ps flows kept placed has value =
    subst (λ (x : List Piece). AllByRecursion (λ p. p.var < length form.graph.widths) x)
    (sym (pieces-are form.graph form.lives n op ps has value))
    (all-of form.graph form.lives n op (λ (v : ℕ). v < length form.graph.widths)
    (with_result (defined op) (at_point form.lives.before n))
    (vars-within form.graph homes form.lives n op flows kept.live placed has))

-- so are those that are spilled, and have slots or none
spilled-room :
    (ps : List Piece) (most : ℕ) (vs : List ℕ) → AllByRecursion (λ p. p.var < most) ps
    → AllByRecursion (HasPiece ps) vs → AllByRecursion (λ v. v < most) vs
spilled-room ps most [] within all = tt
spilled-room ps most (v ∷ vs) within all =
    let (k, p, at, named) = all.0 in
    let less = all-at (λ q. q.var < most) ps k p within at in
    (omega (arith, less, named), spilled-room ps most vs within all.1)

pub spilled-there :
    (form : Form) (homes : List ℕ) (n : ℕ) (op : Op) (m0 : PlaceMap) (ps ps1 : List Piece) (sp sp1 : List ℕ)
    → IsFlow form.graph homes → IsForm form → IsPlaced form.graph n → slice_get form.graph.ops n ≡ Some op
    → pieces_at form.graph form.lives n ≡ Some ps → ps1 ≡ ps → sp1 ≡ sp → IsDoneTo form n m0
    → AllByRecursion (HasPiece ps1) sp → AllByRecursion (λ v. v < length m0.slots) sp1
spilled-there form homes n op m0 ps ps1 sp sp1 flows kept placed has value e1 es done all =
    subst (λ (x : List ℕ). AllByRecursion (λ v. v < length m0.slots) x) (sym es)
    (subst (λ (x : ℕ). AllByRecursion (λ v. v < x) sp) (sym done.variables)
    (spilled-room ps (length form.graph.widths) sp (vars-there form homes n op ps flows kept placed has value)
    (subst (λ (x : List Piece). AllByRecursion (HasPiece x) sp) e1 all)))

pub pieces-there :
    (form : Form) (homes : List ℕ) (n : ℕ) (op : Op) (m0 m1 : PlaceMap) (ps ps2 : List Piece) (sp1 : List ℕ)
    → IsFlow form.graph homes → IsForm form → IsPlaced form.graph n → slice_get form.graph.ops n ≡ Some op
    → pieces_at form.graph form.lives n ≡ Some ps → ps2 ≡ ps → IsDoneTo form n m0 → AreGiven sp1 m0.slots m1.slots
    → (k : ℕ) (p : Piece) → slice_get ps2 k ≡ Some p → p.var < length m1.slots
pieces-there form homes n op m0 m1 ps ps2 sp1 flows kept placed has value e2 done given k p at =
    let less = all-at (λ q. q.var < length form.graph.widths) ps k p
    (vars-there form homes n op ps flows kept placed has value)
    (subst (λ (x : List Piece). slice_get x k ≡ Some p) e2 at) in
    let many = given.many in
    let were = done.variables in
    omega (arith, less, many, were)

pub befores-there :
    (form : Form) (n : ℕ) (op : Op) (m0 m1 : PlaceMap) (sp1 : List ℕ) → slice_get form.graph.ops n ≡ Some op
    → IsDoneTo form n m0 → AreSpilled n sp1 m0 m1 → n < length m1.before
befores-there form n op m0 m1 sp1 has done spills =
    subst (λ (l : List (List Entry)). n < length l) (sym spills.before)
    (subst (λ (x : ℕ). n < x) (sym done.points) (slice_get_within form.graph.ops n op has))

pub afters-there :
    (form : Form) (n : ℕ) (op : Op) (m0 m1 : PlaceMap) (sp1 : List ℕ) → slice_get form.graph.ops n ≡ Some op
    → IsDoneTo form n m0 → AreSpilled n sp1 m0 m1 → n < length m1.after
afters-there form n op m0 m1 sp1 has done spills =
    subst (λ (l : List (List Entry)). n < length l) (sym spills.after)
    (subst (λ (x : ℕ). n < x) (sym done.afters) (slice_get_within form.graph.ops n op has))

pub on-ok-three :
    {A E : Type 0} (r : Result A E) (P Q R S : Type 0) → (P → Q → R → S) → OnOk r P → OnOk r Q → OnOk r R → OnOk r S
on-ok-three (Ok a) P Q R S f p q s = f p q s
on-ok-three (Err e) P Q R S f p q s = tt
