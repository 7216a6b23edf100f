use Rattle.std.proofs.Common.{ap, sym, ◌∙◌, arith}
use Rattle.std.specs.Prelude.{option_copied, option_map}
use Rattle.c_typing.specs.Names.{binding_of}
use Rattle.c_check_names.specs.Bindings.{of_binding}
use Rattle.c_check_names.proofs.Tables.{found_entry, found_within, found_none}
use Rattle.c_check_names.proofs.names.Names.find.Goals as goal

pub index-requires : goal.index-requires
index-requires c = omega (
  arith,
  c.self.inside.entries.ok,
  found_within c.self.inside.entries.items c.args.name.now
      c.in-Some.place.now (sym (c.self.invariant.1 c.args.name.now) ∙ sym c.get.ensures.value
      ∙ ap option_copied c.in-Some.is),
)

pub returns-in-Some : goal.returns-in-Some
returns-in-Some c = found_entry c.self.inside.entries.items c.args.name.now c.in-Some.place.now c.index.result.now
    (sym (c.self.invariant.1 c.args.name.now) ∙ sym c.get.ensures.value ∙ ap option_copied c.in-Some.is) c.index.ensures
    ∙ ap (λ bs. option_map of_binding (binding_of bs c.args.name.now)) c.self.view_is

pub returns-in-None : goal.returns-in-None
returns-in-None c = found_none c.self.inside.entries.items c.args.name.now
    (sym (c.self.invariant.1 c.args.name.now) ∙ sym c.get.ensures.value ∙ ap option_copied c.in-None.is)
    ∙ ap (λ bs. option_map of_binding (binding_of bs c.args.name.now)) c.self.view_is
