-- What may be done with an area, and what lending its bytes leaves of it.
use Rattle.std.specs.Prelude.{◌≡◌, ℕ, Bool, ◌&&◌}
use Rattle.std.specs.Borrow.{MutBor, Fml}
use Rattle.std.specs.Io.BufRead.{Rests}
use Rattle.ia32_insn.specs.State.{Area, has_bytes}
use Rattle.ia32_memory.specs.declared.area.Access.{Access}
use Rattle.ia32_memory.specs.declared.area.Access.TheVariants.{Read, Write, Run}
use Rattle.ia32_memory.specs.contracts.area.Area.{the_row}

-- what may be done with the bytes of an area
abbrev pub permits : Access → Area → Bool
permits Read area = area.readable
permits Write area = area.writable
permits Run area = area.runnable

-- the area has these n bytes, and permits the access
abbrev pub allows : Access → ℕ → ℕ → Area → Bool
allows access address n area = permits access area && has_bytes area address n

-- the area is as it was once the loan of its bytes ends
abbrev pub AreaRests : MutBor Area → Fml
AreaRests area = Rests the_row area (λ new. new ≡ area.now)
