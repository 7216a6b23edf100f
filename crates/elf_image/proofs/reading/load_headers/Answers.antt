-- One more header, if it loads a segment.
use Rattle.std.proofs.Common.{◌≡◌, ◌+◌, ◌*◌, ℕ, List, [], ◌∷◌, ◌++◌, Option, Some, option_map, map, ap, sym, ◌∙◌}
use Rattle.std.proofs.lemmas.List.{map-append}
use Rattle.elf_image.specs.Fields.{Header, headers_offset, loads_in}
use Rattle.elf_image.specs.Headers.{header_of, load_header_at}
use Rattle.elf_image.specs.declared.program_header.ProgramHeader.{ProgramHeader}
use Rattle.elf_image.proofs.Loading.{one-more, one-not}
use Rattle.elf_image.proofs.reading.load_headers.Goals as goal
use Rattle.elf_image.proofs.reading.load_headers.Goals.{in-Some+in_ok-push, in_default}

-- what was read at the start plus k headers stands there
read-at : (bytes : List ℕ) (start k : ℕ) (read : Option ProgramHeader) → start ≡ headers_offset bytes
    → option_map header_of read ≡ load_header_at (start + 0x20 * k) bytes
    → load_header_at (headers_offset bytes + 0x20 * k) bytes ≡ option_map header_of read
read-at bytes start k read begins is =
    sym (is ∙ ap (λ (n : ℕ). load_header_at (n + 0x20 * k) bytes) begins)

-- one more
pushed : (bytes : List ℕ) (k : ℕ) (headers more : List ProgramHeader) (header : ProgramHeader)
    → map header_of headers ≡ loads_in k bytes → more ≡ headers ++ header ∷ []
    → load_header_at (headers_offset bytes + 0x20 * k) bytes ≡ Some (header_of header)
    → map header_of more ≡ loads_in (k + 1) bytes
pushed bytes k headers more header are push found =
    ap (map header_of) push ∙ map-append header_of headers (header ∷ [])
    ∙ ap (λ (hs : List Header). hs ++ header_of header ∷ []) are ∙ sym (one-more k bytes (header_of header) found)

pub loop-k-preserved : goal.loop-k-preserved
loop-k-preserved c =
    let bytes = c.args.bytes.now in
    let k = c.loop-k.k in
    let found = read-at bytes c.read_word-start.result k c.read.result c.loop-k.invariant.1 c.read.ensures in
    let rest = c.loop-k.invariant.2 in
    elim c.match-read.branch [
      | in-Some+in_ok-push w ↦ (
        pushed bytes k c.loop-k.headers.items c.match-read.headers.items w.in-Some.header
            c.loop-k.invariant.0 (ap (λ v. v.items) w.headers-is ∙ w.in_ok-push.ensures.items)
            (found ∙ ap (option_map header_of) w.in-Some.is),
        c.loop-k.invariant.1,
        rest,
      )
      | in_default w ↦ (
        ap (λ v. map header_of v.items) w.headers-is ∙ c.loop-k.invariant.0 ∙ sym (one-not k bytes
            (found ∙ ap (option_map header_of) w.in_default.is)),
        c.loop-k.invariant.1,
        rest,
      )
    ]
