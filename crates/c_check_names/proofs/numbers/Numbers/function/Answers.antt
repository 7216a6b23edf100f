use Rattle.std.proofs.Common.{sym, ap}
use Rattle.c_check_names.specs.Views.{entity_of}
use Rattle.c_check_names.proofs.numbers.Numbers.function.Goals as goal
use Rattle.c_check_names.proofs.Entities.{turned}
use Rattle.c_check_names.proofs.Numbering.{found_at, found_nowhere}

pub returns-in-Some : goal.returns-in-Some
returns-in-Some c = found_at _ entity_of _ (entity_of c.args.entity.now) _ _ _ _ c.get_index_of.ensures.index
    c.in-Some.is (ap (λ n. n.functions) (sym c.self.view_is)) c.number.ensures (λ k. turned c.args.entity.now k)

pub returns-in-None : goal.returns-in-None
returns-in-None c = found_nowhere _ entity_of _ (entity_of c.args.entity.now) _ _ _ _ c.get_index_of.ensures.index
    c.in-None.is c.len.ensures.len (ap (λ n. n.functions) (sym c.self.view_is)) c.number-in-None.ensures
    (λ k. turned c.args.entity.now k)
