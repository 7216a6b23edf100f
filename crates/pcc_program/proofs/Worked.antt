-- A small program is in memory.
use Rattle.std.proofs.Common.{refl, arith}
use Rattle.std.proofs.lemmas.List.Elements.{All-from_recursion}
use Rattle.lower_lines.specs.Words.{IsInMemory}
use Rattle.lower_lines.specs.Worked.{walks}
use Rattle.pcc_program.specs.LimitLaws.{KeepsWords}
use Rattle.pcc_program.proofs.Bounds.{limits-bound}

pub in-memory : IsInMemory walks
in-memory = limits-bound walks refl
    (All-from_recursion KeepsWords walks.functions (
      record {
        body = (tt, (tt, ((tt, tt), ((tt, tt), tt))));
        declared = omega arith;
      },
      tt,
    )) (omega arith)
