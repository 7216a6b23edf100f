-- Where one isn't sound, `all` ends.
use Rattle.std.proofs.Common.{rules, tests}
use Rattle.std.proofs.lemmas.Iterator.{cases_from_all, YieldsList-from_slice}
use Rattle.elf_image.specs.Fields.{Header}
use Rattle.elf_image.specs.Headers.{header_of}
use Rattle.elf_image.specs.Segments.{IsInFile, IsPiece, piece_at}
use Rattle.elf_image.proofs.Apart.{decided}
use Rattle.elf_image.proofs.reading.are_sound.Goals as goal

pub returns : goal.returns
returns c =
    let bytes = c.args.bytes.now in
    let Sound : Header → Type 0 = λ h. IsInFile bytes h × IsPiece (piece_at bytes h) in
    decided Sound header_of c.args.headers.now c.all.result
    (cases_from_all _ _ _ (λ h. Sound (header_of h)) (λ h. Sound (header_of h) → ⊥) c.all.ensures.ran
    (YieldsList-from_slice c.args.headers.now cc) (λ x q k. search (rules, tests)) (λ x q k. search (rules, tests)))
