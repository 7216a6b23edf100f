-- Where control goes in `&&` and `||`.
use Rattle.std.specs.Prelude.{ℕ, suc, ◌+◌, List, [], ◌∷◌}
use Rattle.flow_graph.specs.declared.op.Op.TheVariants as op
use Rattle.lower_lines.specs.Lines.{Line, Start, Emit}
use Rattle.lower_lines.specs.Parts.{Wanted, Dropped, Own, ToLocal, Tests}
use Rattle.lower_lines.specs.Variables.{Context}
use Rattle.lower_builder.specs.MoveViews.{wanted_of}
use Rattle.lower_builder.specs.Views.{truth_end}
use Rattle.lower_expressions.specs.declared.ways.Ways as memory

-- the block of the second operand, those of a value that is true and of one that is false, and what is wanted of it
pub record WaysAt : Type 0 where
  pub first : ℕ
  pub second : ℕ
  pub holds : ℕ
  pub fails : ℕ
  pub last : Wanted

abbrev pub ways_of : memory.Ways → WaysAt
ways_of w = record {
  first = w.first;
  second = w.second;
  holds = w.holds;
  fails = w.fails;
  last = wanted_of w.last;
}

-- how many blocks they take
abbrev pub way_blocks : Wanted → ℕ
way_blocks Dropped = 2
way_blocks Own = 4
way_blocks (ToLocal local) = 4
way_blocks (Tests holds fails) = 1

abbrev pub truth_ways : ℕ → WaysAt
truth_ways block = record {
  first = block;
  second = block + 3;
  holds = block;
  fails = suc block;
  last = Tests block (suc block);
}

abbrev pub ways_at : ℕ → Wanted → WaysAt
ways_at block Dropped = record {
  first = block;
  second = block;
  holds = suc block;
  fails = suc block;
  last = Dropped;
}
ways_at block Own = truth_ways block
ways_at block (ToLocal local) = truth_ways block
ways_at block (Tests holds fails) = record {
  first = block;
  second = block;
  holds = holds;
  fails = fails;
  last = Tests holds fails;
}

-- what stands behind both operands
abbrev pub ways_end : Context → ℕ → ℕ → Wanted → List Line
ways_end c block level Dropped = Emit (op.Jump (suc block)) ∷ Start (suc block) ∷ []
ways_end c block level Own = truth_end c block level Own
ways_end c block level (ToLocal local) = truth_end c block level (ToLocal local)
ways_end c block level (Tests holds fails) = []
