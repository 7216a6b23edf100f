use Rattle.std.proofs.Common.{ap, sym, subst, ◌∙◌, ◌++◌, ◌∷◌, [], Some, map}
use Rattle.std.proofs.lemmas.List.{map_push}
use Rattle.c_check_names.specs.Outers.{IsSummed, SumsUp}
use Rattle.c_check_names.specs.Views.{outer_of}
use Rattle.c_check_names.proofs.Declarations.{put}
use Rattle.c_check_names.proofs.outers.Outers.push.Goals as goal

pub invariant_of-self-in-Ok : goal.invariant_of-self-in-Ok
invariant_of-self-in-Ok c =
    subst (λ os. SumsUp os c.insert.new.self.entries)
    (sym (ap (map outer_of) c.in_ok-push.ensures.items ∙ map_push outer_of c.self.inside.list.items c.args.outer))
    (put (map outer_of c.self.inside.list.items) (outer_of c.args.outer) c.self.inside.seen.entries
    c.insert.new.self.entries c.in_ok-key.key c.summed-seen.result c.in_ok-key.ensures c.self.invariant
    (subst (λ xs. IsSummed (map outer_of xs ++ outer_of c.args.outer ∷ []) (outer_of c.args.outer).entity
    (Some c.summed-seen.result)) c.deref.ensures.value c.summed-seen.ensures)
    c.in-Ok.ensures.updates.1 c.in-Ok.ensures.updates.3)
