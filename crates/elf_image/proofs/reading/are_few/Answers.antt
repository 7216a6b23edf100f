-- The segments so far and the next one have too much.
use Rattle.std.proofs.Common.{◌≡◌, ℕ, List, ap, arith, sum_by, sym, take, take_all, refl, true≢false}
use Rattle.std.proofs.lemmas.List.Sums.{sum_by_more_le}
use Rattle.elf_image.specs.declared.program_header.ProgramHeader.{ProgramHeader}
use Rattle.elf_image.specs.Headers.{header_of}
use Rattle.elf_image.proofs.Apart.{sizes}
use Rattle.elf_image.proofs.reading.are_few.Goals as goal

pub returns-in-None : goal.returns-in-None
returns-in-None c =
    let headers = c.args.headers.now in
    let size : ProgramHeader → ℕ = λ header. header.memory_size in
    let more = sum_by_more_le size headers c.loop-header.header-index
    (record { offset = 0; address = 0; file_size = 0; memory_size = 0; flags = 0 }) c.loop-header-test.true in
    let same = sizes (λ header. header.memory_size) header_of headers in (
      λ e. absurd (true≢false (sym e)),
      λ few.
          absurd (c.in-None.ensures (omega (arith, more, same, few, c.loop-header.invariant))),
    )

pub returns : goal.returns
returns c =
    let headers = c.args.headers.now in
    let whole : take c.loop-header.header-index headers ≡ headers =
    take_all c.loop-header.header-index headers c.loop-header-test.false in
    let sum = ap (λ (xs : List ProgramHeader). sum_by (λ header. header.memory_size) xs) whole in
    let same = sizes (λ header. header.memory_size) header_of headers in
    (λ e. omega (arith, sum, same, c.loop-header.invariant), λ few. refl)
