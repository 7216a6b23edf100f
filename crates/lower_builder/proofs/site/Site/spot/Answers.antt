use Rattle.std.proofs.Common.{sym, ap, ◌∙◌, List}
use Rattle.std.specs.Prelude.{slice_get}
use Rattle.c_tree.specs.Erased.{function_of}
use Rattle.lower_builder.proofs.Found.{listed-none, listed-there}
use Rattle.lower_builder.specs.declared.spot.Spot as memory
use Rattle.lower_builder.proofs.site.Site.spot.Goals as goal

pub returns-in-Some : goal.returns-in-Some
returns-in-Some c =
    let s = c.args.self.now in
    listed-there (function_of s.function.now).locals c.args.local s.spots.items c.in-Some.spot s.listed
    (ap (λ (xs : List memory.Spot). slice_get xs c.args.local) (sym c.as_slice.ensures.value)
    ∙ (sym c.spot_at.ensures ∙ c.in-Some.is))

pub returns-in-None : goal.returns-in-None
returns-in-None c =
    let s = c.args.self.now in
    listed-none (function_of s.function.now).locals c.args.local s.first s.spots.items s.listed s.counted
    (ap (λ (xs : List memory.Spot). slice_get xs c.args.local) (sym c.as_slice.ensures.value)
    ∙ (sym c.spot_at.ensures ∙ c.in-None.is))
