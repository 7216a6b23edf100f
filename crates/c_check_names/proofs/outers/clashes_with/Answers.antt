use Rattle.std.proofs.Common.{Some, ap, sym, subst, ◌∙◌, ◌||◌, ◌&&◌, map}
use Rattle.std.specs.Prelude.{option_copied}
use Rattle.c_check_names.specs.declared.sums.Seen.{Seen}
use Rattle.c_check_names.specs.Outers.{IsSummed}
use Rattle.c_check_names.specs.Views.{outer_of}
use Rattle.c_check_names.proofs.Declarations.{by_eq, no_clash, clash}
use Rattle.c_check_names.proofs.outers.clashes_with.Goals as goal

pub returns-in-None : goal.returns-in-None
returns-in-None c = let os = map outer_of c.args.list.now in let o = outer_of c.args.outer.now in
    no_clash os o (subst (IsSummed os o.entity) (sym (by_eq c.args.outer.now.entity c.args.seen.now.entries)
    ∙ sym c.get.ensures.value ∙ ap option_copied c.in-None.is) c.requires)

pub returns-in-Some : goal.returns-in-Some
returns-in-Some c = let os = map outer_of c.args.list.now in let o = outer_of c.args.outer.now in
    let s : Seen = c.in-Some.seen.now in
    let known : IsSummed os o.entity (Some s) =
    subst (IsSummed os o.entity) (sym (by_eq c.args.outer.now.entity c.args.seen.now.entries)
    ∙ sym c.get.ensures.value ∙ ap option_copied c.in-Some.is) c.requires in
    c.is_against.ensures ∙ ap (λ b. (s.mixed || b) || (o.whole && s.whole)) (c.differs.ensures known.0 known.1)
    ∙ clash os o s known
