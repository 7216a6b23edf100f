use Rattle.std.proofs.Common.{◌≡◌, drop}
use Rattle.map_text.specs.Fields.{all_in, piece_in}
use Rattle.map_reader.specs.Views.{texts}
use Rattle.map_reader.proofs.AllRead.{behind}
use Rattle.map_reader.proofs.lists.pieces.Given as goal

-- those so far, and what the other words are read as, are what all are read as
abbrev pub invariant-loop-word : goal.invariant-loop-word
invariant-loop-word l =
    behind l.list.items (all_in piece_in (texts (drop l.word-index l.words))) ≡ all_in piece_in (texts l.words)
