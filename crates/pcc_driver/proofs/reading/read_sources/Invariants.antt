-- What is read before the rest, which changed nothing.
use Rattle.std.specs.List.{AllByRecursion}
use Rattle.std.proofs.Common.{◌≡◌, ◌<◌, ◌+◌, ◌^◌, length, map, drop}
use Rattle.pcc_driver.specs.Outside.{SameFiles}
use Rattle.pcc_driver.proofs.SoFar.{ReadSoFar}
use Rattle.pcc_driver.proofs.reading.read_sources.Given as goal

abbrev pub invariant-loop-source : goal.invariant-loop-source
invariant-loop-source g l = record {
  counts : g.F.FileStore.counts l.files ≡ g.F.FileStore.counts l.fn.files;
  telling : g.F.FileStore.tells l.fn.files → g.F.FileStore.tells l.files;
  kept : g.F.FileStore.tells l.fn.files
      → SameFiles (g.F.FileStore.content l.fn.files) (g.F.FileStore.content l.files);
  so : g.F.FileStore.tells l.fn.files → ReadSoFar (g.F.FileStore.content l.fn.files) (map (λ s. s.now) l.fn.sources)
      (map (λ t. t.items) l.texts.items) (map (λ s. s.now) (drop l.source-index l.fn.sources)) l.position;
  place : l.position ≡ l.source-index;
  many : length l.texts.items ≡ l.position;
  small : AllByRecursion (λ t. length t.items + 1 < 2 ^ 32) l.texts.items;
}
