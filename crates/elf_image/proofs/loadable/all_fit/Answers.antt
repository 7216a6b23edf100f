-- Where one doesn't fit, `all` ends.
use Rattle.std.proofs.Common.{rules, tests}
use Rattle.std.proofs.lemmas.Iterator.{cases_from_all, YieldsList-from_slice}
use Rattle.elf_image.specs.Segments.{IsPiece, piece_of}
use Rattle.elf_image.proofs.Apart.{decided}
use Rattle.elf_image.proofs.loadable.all_fit.Goals as goal

pub returns : goal.returns
returns c =
    decided IsPiece piece_of c.args.segments.now c.all.result
    (cases_from_all _ _ _ (λ s. IsPiece (piece_of s)) (λ s. IsPiece (piece_of s) → ⊥) c.all.ensures.ran
    (YieldsList-from_slice c.args.segments.now cc) (λ x q k. search (rules, tests)) (λ x q k. search (rules, tests)))
