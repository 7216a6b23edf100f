use Rattle.std.proofs.Common.{◌∙◌, sym, true≢false}
use Rattle.allocator.proofs.Doing.{done-past}
use Rattle.allocator.proofs.allocation.allocate_next.Goals as goal

pub returns-clause-done : goal.returns-clause-done
returns-clause-done c =
    done-past c.args.form.now c.args.point c.args.map.now
    (λ placed. true≢false (sym (c.is_placed.ensures.1 placed) ∙ c.if-is_placed.false)) c.requires.done
