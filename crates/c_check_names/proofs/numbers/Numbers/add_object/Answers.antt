use Rattle.std.proofs.Common.{List, ap, map, ◌∙◌}
use Rattle.c_typing.specs.Library.{Entity}
use Rattle.c_typing.specs.Names.{Numbers}
use Rattle.c_check_names.specs.Views.{entity_of, with_entity}
use Rattle.c_check_names.proofs.Numbering.{with_one}
use Rattle.c_check_names.proofs.numbers.Numbers.add_object.Goals as goal

pub returns : goal.returns
returns c =
    let but : List Entity → Numbers =
    λ es. record { objects = es; functions = map entity_of c.self.inside.functions.keys } in
    let more : Numbers → Numbers =
    λ n. record n { objects = with_entity n.objects (entity_of c.args.entity) } in
    ap but (with_one c.self.inside.objects.keys c.insert.new.self.keys c.args.entity c.in_ok-insert.ensures.keys)
    ∙ ap more c.self.view_is
