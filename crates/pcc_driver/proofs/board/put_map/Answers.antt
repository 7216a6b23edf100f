-- The map of the products, as it was put.
use Rattle.std.proofs.Common.{◌≡◌, List, ℕ, subst}
use Rattle.c_tree.specs.Erased.{program_of}
use Rattle.pcc_driver.specs.Answers.{AnswerPut}
use Rattle.pcc_driver.specs.Outside.{output_of}
use Rattle.pcc_driver.proofs.Mapping.{program_put}
use Rattle.pcc_driver.proofs.Ready.{compilable}
use Rattle.pcc_driver.proofs.board.put_map.Goals as goal

pub returns-in-Ok-clause-put : goal.returns-in-Ok-clause-put
returns-in-Ok-clause-put g c =
    program_put (program_of c.args.program.now) c.in-Ok.products.map.items c.in-Ok.products.image.items
    (output_of g.O.Sink c.args.out.now) (output_of g.O.Sink c.put_answer.new.out) c.put_answer.result c.in-Ok.ensures
    (subst (λ (answer : List ℕ). AnswerPut answer (output_of g.O.Sink c.args.out.now)
    (output_of g.O.Sink c.put_answer.new.out) c.put_answer.result) c.as_slice.ensures.value c.put_answer.ensures.put)

pub compile_program-requires : goal.compile_program-requires
compile_program-requires g c =
    compilable (program_of c.args.program.now)
    (c.programs_are_ready.ensures c.requires.0 (program_of c.args.program.now) c.requires.1)
