use Rattle.std.specs.Prelude.{◌≡◌, ◌-◌, Some, None, drop}
use Rattle.std.proofs.Common.{sym, ◌∙◌, ap}
use Rattle.ia32_memory.specs.declared.area.Access.TheVariants.{Run}
use Rattle.ia32_memory.proofs.Finding.{told-of, code_at-Some, code_at-None}
use Rattle.ia32_memory.proofs.memory.Memory.code_at.Goals as goal

pub returns-in_err-find-clause-none : goal.returns-in_err-find-clause-none
returns-in_err-find-clause-none c =
    let areas = c.self.inside.areas.items in
    let none = told-of Run c.args.address 1 areas c.deref.result.now c.find.result None c.deref.ensures.value
    c.find.ensures c.in_err-find.was in
    rw c.from_residual.ensures (code_at-None c.args.address areas c.args.self.now none c.self.view_is)

pub code-requires-clause-run : goal.code-requires-clause-run
code-requires-clause-run c =
    let areas = c.self.inside.areas.items in
    let place = told-of Run c.args.address 1 areas c.deref.result.now c.find.result (Some c.in_ok-find.field-0)
    c.deref.ensures.value c.find.ensures c.in_ok-find.was in
    (code_at-Some c.args.address c.in_ok-find.field-0 areas c.args.self.now c.index-area.result.now place
    c.index-area.ensures c.self.view_is).0

pub code-requires-clause-there : goal.code-requires-clause-there
code-requires-clause-there c =
    let areas = c.self.inside.areas.items in
    let place = told-of Run c.args.address 1 areas c.deref.result.now c.find.result (Some c.in_ok-find.field-0)
    c.deref.ensures.value c.find.ensures c.in_ok-find.was in
    (code_at-Some c.args.address c.in_ok-find.field-0 areas c.args.self.now c.index-area.result.now place
    c.index-area.ensures c.self.view_is).1

pub returns-clause-found : goal.returns-clause-found
returns-clause-found c =
    let areas = c.self.inside.areas.items in
    let place = told-of Run c.args.address 1 areas c.deref.result.now c.find.result (Some c.in_ok-find.field-0)
    c.deref.ensures.value c.find.ensures c.in_ok-find.was in
    rw c.code.ensures (code_at-Some c.args.address c.in_ok-find.field-0 areas c.args.self.now c.index-area.result.now
    place c.index-area.ensures c.self.view_is).2
