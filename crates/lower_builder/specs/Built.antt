-- What a builder of lines has, and what it means that lines were added to it.
use Rattle.std.specs.Prelude.{ℕ, ◌≡◌, ◌+◌, List, ◌++◌}
use Rattle.lower_builder.specs.declared.line.Line as memory
use Rattle.lower_builder.specs.declared.line.Line.TheVariants as built
use Rattle.lower_lines.specs.Lines.{Line, Start, Emit}

-- the line that one in memory is
abbrev pub line_of : memory.Line → Line
line_of (built.Start block) = Start block
line_of (built.Emit op) = Emit op

-- the lines so far, and the first block that is not taken yet
pub record Built : Type 0 where
  pub lines : List Line
  pub next : ℕ

-- so many blocks were taken, and these lines added
pub record Adds (old new : Built) (blocks : ℕ) (more : List Line) : Type 0 where
  pub lines : new.lines ≡ old.lines ++ more
  pub next : new.next ≡ old.next + blocks
