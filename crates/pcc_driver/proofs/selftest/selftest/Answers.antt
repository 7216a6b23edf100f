-- Both lines, or the report before the first one.
use Rattle.std.proofs.Common.{List, ℕ, [], ◌∷◌, inl, inr, refl, subst}
use Rattle.c_tree.specs.Erased.{program_of}
use Rattle.pcc_gen.specs.Generated.{generated}
use Rattle.pcc_driver.specs.Answers.{AnswerPut}
use Rattle.pcc_driver.specs.Outside.{output_of, store_of}
use Rattle.pcc_driver.specs.Selftests.{IsEvalLine}
use Rattle.pcc_driver.proofs.Selftesting.{behind_line, unput_line}
use Rattle.pcc_driver.proofs.selftest.selftest.Goals as goal

pub returns-in-Answered-clause-told : goal.returns-in-Answered-clause-told
returns-in-Answered-clause-told g c =
    let texts : List (List ℕ) = generated c.args.number ∷ [] in
    let first : List ℕ = c.in-Ok-line_of_evaluation.line.items in
    let is : IsEvalLine c.args.turns texts first =
    (program_of c.in-Ok.program, c.in-Ok.ensures, c.in-Ok-line_of_evaluation.ensures) in
    let put : AnswerPut first (output_of g.O.Sink c.args.out.now) (output_of g.O.Sink c.put_answer.new.out)
    c.put_answer.result =
    subst (λ (line : List ℕ). AnswerPut line (output_of g.O.Sink c.args.out.now)
    (output_of g.O.Sink c.put_answer.new.out) c.put_answer.result) c.as_slice.ensures.value c.put_answer.ensures.put in
    inr (
      first,
      is,
      behind_line c.args.steps c.args.name.now texts first (store_of g.F.FileStore c.args.files.now)
          (store_of g.F.FileStore c.test_image.new.files) (output_of g.O.Sink c.args.out.now)
          (output_of g.O.Sink c.put_answer.new.out) (output_of g.O.Sink c.test_image.new.out) c.test_image.result
          (rw c.in-Answered.is at put) c.put_answer.ensures.telling (c.test_image.ensures.told texts c.in-Ok.ensures),
    )

pub returns : goal.returns
returns g c =
    let texts : List (List ℕ) = generated c.args.number ∷ [] in
    let first : List ℕ = c.in-Ok-line_of_evaluation.line.items in
    let put : AnswerPut first (output_of g.O.Sink c.args.out.now) (output_of g.O.Sink c.put_answer.new.out)
    c.put_answer.result =
    subst (λ (line : List ℕ). AnswerPut line (output_of g.O.Sink c.args.out.now)
    (output_of g.O.Sink c.put_answer.new.out) c.put_answer.result) c.as_slice.ensures.value c.put_answer.ensures.put in
    record {
      files_cause = c.put_answer.ensures.files (g.F.FileStore.counts c.args.files.now);
      streams_cause = c.put_answer.ensures.streams;
      told = inl (
        unput_line c.args.turns texts first (output_of g.O.Sink c.args.out.now)
            (output_of g.O.Sink c.put_answer.new.out) c.put_answer.result c.in_default.not-Answered
            (program_of c.in-Ok.program, c.in-Ok.ensures, c.in-Ok-line_of_evaluation.ensures) put,
        λ t other. refl,
      );
    }
