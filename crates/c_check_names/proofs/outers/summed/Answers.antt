use Rattle.std.proofs.Common.{Bool, Some, ap, sym, subst, ◌∙◌, ◌||◌, ◌++◌, ◌∷◌, [], map}
use Rattle.std.specs.Prelude.{option_copied}
use Rattle.c_check_names.specs.declared.sums.Seen.{Seen}
use Rattle.c_check_names.specs.Outers.{IsSummed}
use Rattle.c_check_names.specs.Views.{outer_of}
use Rattle.std.proofs.lemmas.List.{length-map}
use Rattle.c_check_names.proofs.Declarations.{by_eq, first_one, one_more_of}
use Rattle.c_check_names.proofs.outers.summed.Goals as goal

pub returns-in-None : goal.returns-in-None
returns-in-None c = let os = map outer_of c.args.list.now in let o = outer_of c.args.outer.now in
    first_one os o _ (sym (length-map c.args.list.now outer_of))
    (subst (IsSummed os o.entity) (sym (by_eq c.args.outer.now.entity c.args.seen.now.entries)
    ∙ sym c.get.ensures.value ∙ ap option_copied c.in-None.is) c.requires)

pub returns-in-Some : goal.returns-in-Some
returns-in-Some c = let os = map outer_of c.args.list.now in let o = outer_of c.args.outer.now in
    let s : Seen = c.in-Some.seen.now in
    let known : IsSummed os o.entity (Some s) =
    subst (IsSummed os o.entity) (sym (by_eq c.args.outer.now.entity c.args.seen.now.entries)
    ∙ sym c.get.ensures.value ∙ ap option_copied c.in-Some.is) c.requires in
    let more : Bool → Seen = λ b. record { first = s.first; mixed = s.mixed || b; whole = s.whole || o.whole } in
    subst (λ d. IsSummed (os ++ o ∷ []) o.entity (Some d))
    (sym (c.with_one_more.ensures ∙ ap more (c.differs.ensures known.0 known.1))) (one_more_of os o s known)
