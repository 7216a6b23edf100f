-- What stands in the files, and the run of the bytes that were written.
use Rattle.std.proofs.Common.{◌≡◌, ◌∙◌, List, ℕ, [], subst}
use Rattle.c_tree.specs.Erased.{program_of}
use Rattle.pcc_words.specs.Asked.{map_name}
use Rattle.pcc_driver.specs.Answers.{WritesTold}
use Rattle.pcc_driver.specs.Outside.{output_of, store_of}
use Rattle.pcc_driver.specs.Products.{AreProducts}
use Rattle.pcc_driver.specs.Programs.{HaveTypedProgram}
use Rattle.pcc_driver.specs.declared.report.Report.TheVariants as reports
use Rattle.pcc_driver.proofs.Ready.{compilable}
use Rattle.pcc_driver.proofs.Selftesting.{image_tested, write_refused, writes_streams}
use Rattle.pcc_driver.proofs.Written.{stands_of}
use Rattle.pcc_driver.proofs.selftest.test_image.Goals as goal

pub compile_program-requires : goal.compile_program-requires
compile_program-requires g c =
    compilable (program_of c.args.program.now)
    (c.programs_are_ready.ensures c.requires.typed.0 (program_of c.args.program.now) c.requires.typed.1)

pub returns-in-Compiled-clause-told : goal.returns-in-Compiled-clause-told
returns-in-Compiled-clause-told g c = λ texts typed.
    let ready = c.programs_are_ready.ensures texts (program_of c.args.program.now) typed in
    let named : c.as_str.result.now ≡ map_name c.args.name.now = c.as_str.ensures.value ∙ c.in-Ok-format.ensures.ok in
    let products : AreProducts texts c.in-Ok.products.map.items c.in-Ok.products.image.items =
    (program_of c.args.program.now, (typed, ready.declared), c.in-Ok.ensures) in
    image_tested c.args.steps c.args.name.now texts (program_of c.args.program.now) c.in-Ok.ensures.0
    c.in-Ok.products.image.items (store_of g.F.FileStore c.args.files.now)
    (store_of g.F.FileStore c.write_products.new.files) (output_of g.O.Sink c.args.out.now)
    (output_of g.O.Sink c.put_run.new.out) c.put_run.result c.in-Ok.ensures.2 ready.typed c.map_lists_locals.ensures
    c.requires.ends
    (λ t.
    let told = subst (λ (n : List ℕ). WritesTold n c.args.name.now c.in-Ok.products.map.items
    c.in-Ok.products.image.items (g.F.FileStore.content c.args.files.now)
    (g.F.FileStore.content c.write_products.new.files) reports.Compiled) named (c.in-Compiled.ensures.told t) in
    stands_of c.args.name.now texts c.in-Ok.products.map.items c.in-Ok.products.image.items
    (g.F.FileStore.content c.args.files.now) (g.F.FileStore.content c.write_products.new.files) products told.0 told.1
    told.2)
    c.put_run.ensures.put

pub returns-in_default-write_products : goal.returns-in_default-write_products
returns-in_default-write_products g c =
    let named : c.as_str.result.now ≡ map_name c.args.name.now = c.as_str.ensures.value ∙ c.in-Ok-format.ensures.ok in
    record {
      files_cause = c.write_products.ensures.cause;
      streams_cause = λ input. writes_streams c.write_products.result input (g.O.Sink.counts c.args.out.now)
          c.write_products.ensures.own;
      told = λ texts typed.
          let ready = c.programs_are_ready.ensures texts (program_of c.args.program.now) typed in
          write_refused c.args.steps c.args.name.now texts c.in-Ok.products.map.items c.in-Ok.products.image.items
          (store_of g.F.FileStore c.args.files.now) (store_of g.F.FileStore c.write_products.new.files)
          (output_of g.O.Sink c.args.out.now) c.write_products.result c.in_default-write_products.not-Compiled
          c.write_products.ensures.own
          (program_of c.args.program.now, (typed, ready.declared), c.in-Ok.ensures)
          (λ t. subst (λ (n : List ℕ). WritesTold n c.args.name.now c.in-Ok.products.map.items
          c.in-Ok.products.image.items (g.F.FileStore.content c.args.files.now)
          (g.F.FileStore.content c.write_products.new.files) c.write_products.result) named
          (c.write_products.ensures.told t));
    }
