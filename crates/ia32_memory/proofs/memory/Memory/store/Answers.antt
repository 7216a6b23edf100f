use Rattle.std.specs.Prelude.{Some, None, length}
use Rattle.std.proofs.Common.{refl}
use Rattle.ia32_memory.specs.declared.area.Access.TheVariants.{Write}
use Rattle.ia32_memory.proofs.Finding.{told-of, has-place, stored-None, stored-Some}
use Rattle.ia32_memory.proofs.memory.Memory.store.Goals as goal

pub put-requires : goal.put-requires
put-requires c =
    let areas = c.self.inside.areas.items in
    let place = told-of Write c.args.address (length c.args.bytes.now) areas c.deref.result.now c.find.result
    (Some c.in-Some.index) c.deref.ensures.value c.find.ensures c.in-Some.is in
    has-place Write c.args.address (length c.args.bytes.now) c.in-Some.index areas c.index_mut.result.now place
    c.index_mut.ensures.value

pub returns-in-None : goal.returns-in-None
returns-in-None c =
    let areas = c.self.inside.areas.items in
    let none = told-of Write c.args.address (length c.args.bytes.now) areas c.deref.result.now c.find.result None
    c.deref.ensures.value c.find.ensures c.in-None.is in
    (stored-None c.args.address c.args.bytes.now areas c.args.self.now none c.self.view_is, refl)

pub returns-in-Some : goal.returns-in-Some
returns-in-Some c =
    let areas = c.self.inside.areas.items in
    let place = told-of Write c.args.address (length c.args.bytes.now) areas c.deref.result.now c.find.result
    (Some c.in-Some.index) c.deref.ensures.value c.find.ensures c.in-Some.is in
    stored-Some c.args.address c.in-Some.index c.args.bytes.now areas c.args.self.now c.index_mut.result.now
    c.put.new.self place c.index_mut.ensures.value c.self.view_is c.put.ensures
