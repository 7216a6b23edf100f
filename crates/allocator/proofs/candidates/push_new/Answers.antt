use Rattle.std.proofs.Common.{List, ◌+◌, refl, subst, sym, take}
use Rattle.puzzle_solver.specs.declared.order.Candidate.{Candidate}
use Rattle.allocator.specs.Spills.{AreListed, IsNewAt}
use Rattle.allocator.proofs.Listing.{listed-new-at, listed-same-at}
use Rattle.allocator.proofs.candidates.push_new.Goals as goal

pub returns-in_ok-push : goal.returns-in_ok-push
returns-in_ok-push c =
    subst (λ (cs : List Candidate). AreListed c.args.distances.now c.args.point
    (take (c.args.place + 1) c.args.pieces.now) cs) (sym c.in_ok-push.ensures.items)
    (listed-new-at c.args.distances.now c.args.point c.args.pieces.now c.args.place _ c.args.candidates.now.items _
    c.requires.order (subst (IsNewAt c.args.pieces.now c.args.place) c.if-is_new.true c.is_new.ensures)
    c.requires.within c.requires.listed refl c.at-distance.ensures)

pub returns-else-is_new : goal.returns-else-is_new
returns-else-is_new c =
    listed-same-at c.args.distances.now c.args.point c.args.pieces.now c.args.place c.args.candidates.now.items
    (subst (IsNewAt c.args.pieces.now c.args.place) c.if-is_new.false c.is_new.ensures) c.requires.within
    c.requires.listed
