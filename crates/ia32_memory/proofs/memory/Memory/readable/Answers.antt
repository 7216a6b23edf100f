use Rattle.std.specs.Prelude.{Some, None}
use Rattle.ia32_memory.specs.declared.area.Access.TheVariants.{Read}
use Rattle.ia32_memory.proofs.Finding.{told-of, bytes_at-Some, bytes_at-None}
use Rattle.ia32_memory.proofs.memory.Memory.readable.Goals as goal

pub returns-in_err-find-clause-none : goal.returns-in_err-find-clause-none
returns-in_err-find-clause-none c =
    let areas = c.self.inside.areas.items in
    let none = told-of Read c.args.address c.args.count areas c.deref.result.now c.find.result None
    c.deref.ensures.value c.find.ensures c.in_err-find.was in
    rw c.from_residual.ensures (bytes_at-None c.args.count c.args.address areas c.args.self.now none c.self.view_is)

pub returns-clause-found : goal.returns-clause-found
returns-clause-found c =
    let areas = c.self.inside.areas.items in
    let place = told-of Read c.args.address c.args.count areas c.deref.result.now c.find.result
    (Some c.in_ok-find.field-0) c.deref.ensures.value c.find.ensures c.in_ok-find.was in
    bytes_at-Some c.args.count c.args.address c.in_ok-find.field-0 areas c.args.self.now c.index.result.now place
    c.index.ensures c.self.view_is
