-- What holds of the files that are left is what holds of all.
use Rattle.std.proofs.Common.{drop, map}
use Rattle.c_syntax.specs.Statements.{unit_of}
use Rattle.c_front.specs.SoFar.{ParsedSoFar}
use Rattle.c_front.proofs.parsed.parse_files.Given as goal

abbrev pub invariant-loop-file : goal.invariant-loop-file
invariant-loop-file l =
    ParsedSoFar (map (λ f. f.tokens.items) l.files) (map (λ f. f.end) l.files) (map unit_of l.units.items)
    (map (λ f. f.tokens.items) (drop l.file-index l.files)) (map (λ f. f.end) (drop l.file-index l.files))
