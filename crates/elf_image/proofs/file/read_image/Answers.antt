-- A file that loads segments passes each test, and one that passes them loads what was read.
use Rattle.std.proofs.Common.{◌≡◌, ◌≤◌, List, map, All, sum_by, ap, sym, ◌∙◌, subst, true≢false}
use Rattle.elf_image.specs.Fields.{Header, header_count, loads_in}
use Rattle.elf_image.specs.Headers.{header_of}
use Rattle.elf_image.specs.Segments.{IsInFile, IsPiece, piece_at}
use Rattle.elf_image.proofs.Loading.{loads-few, loads-sound}
use Rattle.elf_image.proofs.file.read_image.Goals as goal
use Rattle.elf_image.proofs.file.read_image.Goals.{then-not-are_sound-via-then-not-are_sound}
use Rattle.elf_image.proofs.file.read_image.Goals.{then-not-are_sound-via-else-not-are_sound+then-not-are_few}

pub returns-then-not-are_sound-clause-not_image : goal.returns-then-not-are_sound-clause-not_image
returns-then-not-are_sound-clause-not_image c = λ _ segments loads.
    let bytes = c.args.bytes.now in
    let Sound : List Header → Type 0 = λ hs. All (λ h. IsInFile bytes h × IsPiece (piece_at bytes h)) hs in
    let Few : List Header → Type 0 = λ hs. sum_by (λ h. h.memory_size) hs ≤ 0x50000000 in
    let read : map header_of c.in_ok-headers.headers.items ≡ loads_in (header_count bytes) bytes =
    c.in_ok-headers.ensures in
    elim c.then-not-are_sound.branch [
      | then-not-are_sound-via-then-not-are_sound w ↦
          let same : map header_of c.deref.result.now ≡ loads_in (header_count bytes) bytes =
          ap (map header_of) c.deref.ensures.value ∙ read in
          true≢false (sym (c.are_sound.ensures.1 (subst Sound (sym same) (loads-sound bytes segments loads)))
          ∙ w.if-not-are_sound.true)
      | then-not-are_sound-via-else-not-are_sound+then-not-are_few w ↦
          let same : map header_of w.deref-else-not-are_sound.result.now ≡ loads_in (header_count bytes) bytes =
          ap (map header_of) w.deref-else-not-are_sound.ensures.value ∙ read in
          true≢false (sym (w.are_few.ensures.1 (subst Few (sym same) (loads-few bytes segments loads)))
          ∙ w.if-not-are_few.true)
    ]
