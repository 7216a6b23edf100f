use Rattle.std.proofs.Common.{ap, sym, ◌∙◌, map}
use Rattle.std.specs.List.{list_any}
use Rattle.c_typing.specs.Names.{clashes}
use Rattle.c_check_names.specs.Views.{outer_of}
use Rattle.c_check_names.proofs.Declarations.{any_reversed}
use Rattle.c_check_names.proofs.outers.Outers.clashes.Goals as goal

pub returns : goal.returns
returns c = c.clashes_with.ensures
    ∙ ap (λ xs. list_any (clashes (outer_of c.args.outer.now)) (map outer_of xs)) c.deref.ensures.value
    ∙ sym (any_reversed (clashes (outer_of c.args.outer.now)) outer_of c.self.inside.list.items)
    ∙ ap (list_any (clashes (outer_of c.args.outer.now))) c.self.view_is
