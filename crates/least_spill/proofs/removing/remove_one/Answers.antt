use Rattle.std.proofs.Common.{◌∙◌, List, ℕ, sym, subst}
use Rattle.least_spill.specs.Removing.{IsTaken}
use Rattle.least_spill.proofs.Taking.{taken-one}
use Rattle.least_spill.proofs.removing.remove_one.Goals as goal

pub returns-in-Some-clause-taken : goal.returns-in-Some-clause-taken
returns-in-Some-clause-taken g c =
    subst
    (λ (named : List ℕ).
    IsTaken c.args.kind c.args.width 1 c.args.board.now c.remove_var.new.self c.args.removed.now.items named)
    (sym c.push_reserved.ensures.items)
    (taken-one c.args.kind c.args.width c.in-Some.number c.args.board.now c.remove_var.new.self c.piece-piece.result
    c.args.removed.now.items c.requires.stands c.requires.apart c.in-Some.ensures.found c.piece-piece.ensures.value
    c.remove_var.ensures.removed (c.remove_var.ensures.stands ∙ c.requires.stands))
