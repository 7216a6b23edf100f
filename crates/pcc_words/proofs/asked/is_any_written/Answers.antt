use Rattle.std.proofs.Common.{◌∙◌, ◌||◌, List, ℕ, bytes_eq, rules, tests}
use Rattle.std.proofs.lemmas.Iterator.{YieldsList-from_slice}
use Rattle.std.proofs.lemmas.Iterator.Search.{any_from_yields_List}
use Rattle.std.specs.Borrow.{Bor}
use Rattle.clap.proofs.WalkLemmas.{list_any-map}
use Rattle.pcc_words.specs.Asked.{map_name}
use Rattle.pcc_words.proofs.asked.is_any_written.Goals as goal

pub returns : goal.returns
returns c =
    any_from_yields_List (λ s. bytes_eq c.args.name.now s.now || bytes_eq (map_name c.args.name.now) s.now) _ _ _
    c.any.ensures.ran (YieldsList-from_slice c.args.sources.now cc) (λ x b q k. search (rules, tests))
    ∙ list_any-map _ (λ (s : Bor (List ℕ)). s.now) c.args.sources.now
