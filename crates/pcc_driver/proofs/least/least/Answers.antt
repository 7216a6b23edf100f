-- The removal on the board of the file, as it was put.
use Rattle.std.proofs.Common.{◌≤◌, List, ℕ, arith, length, subst}
use Rattle.pcc_driver.specs.Answers.{AnswerPut}
use Rattle.pcc_driver.specs.Outside.{output_of}
use Rattle.pcc_driver.specs.Removals.{IsRemovalOf}
use Rattle.pcc_driver.specs.Sources.{file_limit}
use Rattle.pcc_driver.proofs.Removing.{removal_told}
use Rattle.pcc_driver.proofs.least.least.Goals as goal

pub returns-in-Ok-removal_of-clause-told : goal.returns-in-Ok-removal_of-clause-told
returns-in-Ok-removal_of-clause-told g c = λ f.
    let small : length c.in-Ok.text.items ≤ file_limit = omega (arith, c.in-Ok.ensures.size) in
    removal_told (g.F.FileStore.content c.args.files.now c.args.file.now) c.in-Ok.text.items
    c.in-Ok-removal_of.answer.items (output_of g.O.Sink c.args.out.now) (output_of g.O.Sink c.put_answer.new.out)
    c.put_answer.result (c.in-Ok.ensures.told f) small
    (subst (λ (text : List ℕ). IsRemovalOf text c.in-Ok-removal_of.answer.items) c.as_slice.ensures.value
    c.in-Ok-removal_of.ensures)
    (subst (λ (answer : List ℕ). AnswerPut answer (output_of g.O.Sink c.args.out.now)
    (output_of g.O.Sink c.put_answer.new.out) c.put_answer.result) c.as_slice-in-Ok-removal_of.ensures.value
    c.put_answer.ensures.put)
