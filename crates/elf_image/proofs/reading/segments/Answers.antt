-- Each header's bytes lie in the file.
use Rattle.std.proofs.Common.{ℕ, ◌<◌, length, map, sym, subst}
use Rattle.std.proofs.lemmas.List.{length-map, get_or-map}
use Rattle.elf_image.specs.Fields.{Header}
use Rattle.elf_image.specs.Headers.{header_of}
use Rattle.elf_image.specs.Segments.{IsInFile}
use Rattle.elf_image.specs.declared.program_header.ProgramHeader.{ProgramHeader}
use Rattle.elf_image.proofs.reading.segments.Goals as goal

pub segment-requires : goal.segment-requires
segment-requires c =
    let headers = c.args.headers.now in
    let i = c.loop-header.header-index in
    let d : ProgramHeader = record { offset = 0; address = 0; file_size = 0; memory_size = 0; flags = 0 } in
    let there : i < length (map header_of headers) =
    subst (λ (n : ℕ). i < n) (sym (length-map headers header_of)) c.loop-header-test.true in
    subst (λ (h : Header). IsInFile c.args.bytes.now h)
    (get_or-map header_of headers i d (header_of d) c.loop-header-test.true)
    (c.requires i (header_of d) there)
