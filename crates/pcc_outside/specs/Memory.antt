-- What contracts see of the objects in memory.
use Rattle.std.specs.Prelude.{ℕ, List}
use Rattle.pcc_outside.specs.Calls.{Calls}
use Rattle.pcc_outside.specs.Files.{StoreCounts}
use Rattle.pcc_outside.specs.Streams.{SinkCounts}

-- a source: the bytes left, its calls and its faults
pub record SourceView : Type 0 where
  pub left : List ℕ
  pub calls : Calls
  pub faults : ℕ

-- a sink: the bytes taken, its calls and its counts
pub record SinkView : Type 0 where
  pub taken : List ℕ
  pub calls : Calls
  pub counts : SinkCounts

-- no answer that has a count was given yet
abbrev pub no_puts : SinkCounts
no_puts = record { faults = 0; wants = 0 }

-- no answer that has a count was given yet
abbrev pub no_answers : StoreCounts
no_answers = record { read_faults = 0; write_faults = 0; missing = 0; too_long = 0 }
