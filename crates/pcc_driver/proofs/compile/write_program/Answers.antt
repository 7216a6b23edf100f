-- What the two writes leave is what is told.
use Rattle.std.proofs.Common.{◌≡◌, List, ℕ, subst, ◌∙◌}
use Rattle.c_tree.specs.Erased.{program_of}
use Rattle.pcc_words.specs.Asked.{map_name}
use Rattle.pcc_driver.specs.Answers.{WritesTold}
use Rattle.pcc_driver.proofs.Ready.{compilable}
use Rattle.pcc_driver.proofs.Written.{written_told}
use Rattle.pcc_driver.proofs.compile.write_program.Goals as goal

pub returns-in-Ok-format-clause-told : goal.returns-in-Ok-format-clause-told
returns-in-Ok-format-clause-told g c = λ f before sources texts same read typed.
    let named : c.as_str.result.now ≡ map_name c.args.name.now = c.as_str.ensures.value ∙ c.in-Ok-format.ensures.ok in
    written_told c.write_products.result c.args.name.now sources texts c.in-Ok.products.map.items
    c.in-Ok.products.image.items before (g.F.FileStore.content c.args.files.now)
    (g.F.FileStore.content c.write_products.new.files) same read (
      program_of c.args.program.now,
      (typed, (c.programs_are_ready.ensures texts (program_of c.args.program.now) typed).declared),
      c.in-Ok.ensures,
    )
    (subst (λ (n : List ℕ). WritesTold n c.args.name.now c.in-Ok.products.map.items c.in-Ok.products.image.items
    (g.F.FileStore.content c.args.files.now) (g.F.FileStore.content c.write_products.new.files)
    c.write_products.result) named (c.write_products.ensures.told f))

pub compile_program-requires : goal.compile_program-requires
compile_program-requires g c =
    compilable (program_of c.args.program.now)
    (c.programs_are_ready.ensures c.requires.0 (program_of c.args.program.now) c.requires.1)
