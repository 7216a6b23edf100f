-- What holds of the files that are left is what holds of all.
use Rattle.std.specs.List.{AllByRecursion}
use Rattle.std.proofs.Common.{◌≤◌, ◌<◌, ◌+◌, ◌^◌, length, map}
use Rattle.c_front.specs.SoFar.{LexedSoFar}
use Rattle.c_front.proofs.lexed.lex_files.Given as goal

abbrev pub invariant-texts : goal.invariant-texts
invariant-texts l = record {
  so : LexedSoFar (map (λ t. t.items) l.fn.texts) (map (λ f. f.tokens.items) l.files.items)
      (map (λ f. f.end) l.files.items) l.file l.left (map (λ t. t.items) l.rest);
  bound : l.file + length l.rest ≤ 16;
  small : AllByRecursion (λ t. length t.items + 1 < 2 ^ 32) l.rest;
}

abbrev pub decreases-texts : goal.decreases-texts
decreases-texts l = length l.rest
