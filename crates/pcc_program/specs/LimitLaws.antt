-- What the limits on typed programs bound.
use Rattle.std.specs.Prelude.{◌≡◌, ◌≤◌, length, None}
use Rattle.std.specs.List.{All}
use Rattle.c_tree.specs.Program.{Function, Program}
use Rattle.c_tree.specs.Sizes.{function_size, size_of}
use Rattle.c_typing.specs.Typed.{limit_of}
use Rattle.lower_lines.specs.Words.{IsInMemory, StatementsHaveWords}

-- the constants of a function are of 32 bits, and an item of its own declares each of its arrays
pub record KeepsWords (f : Function) : Type 0 where
  pub body : StatementsHaveWords f.body
  pub declared : length f.arrays ≤ function_size f

-- A program that is above no limit is one in memory as lowering asks for it, where its constants are of 32 bits, items
-- declare its arrays, and its tokens are no more than a program may have.
abbrev pub LimitsBound : Type 0
LimitsBound = (p : Program) → limit_of p ≡ None → All KeepsWords p.functions → size_of p ≤ 0x10000 → IsInMemory p
