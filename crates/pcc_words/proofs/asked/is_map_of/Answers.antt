use Rattle.std.proofs.Common.{bytes_eq, codes, Some, None, ap, sym, ◌∙◌, ◌≡◌, ◌++◌, List, ℕ}
use Rattle.std.proofs.lemmas.Bool.Decides.{Decides-eqb}
use Rattle.std.proofs.lemmas.Slice.Eq.{strip_suffix_is}
use Rattle.pcc_words.proofs.Texts.{bytes_eq-with_end, bytes_eq-without_end}
use Rattle.pcc_words.proofs.asked.is_map_of.Goals as goal

pub returns-in-Some : goal.returns-in-Some
returns-in-Some c =
    let split : c.as_bytes.result.now ≡ c.in-Some.front.now ++ codes ".map" =
    strip_suffix_is Decides-eqb c.as_bytes.result.now (codes ".map") (Some c.in-Some.front) c.in-Some.ensures.cases
    in let source : c.args.source.now ≡ c.in-Some.front.now ++ codes ".map" = sym c.as_bytes.ensures.value ∙ split
    in bytes_eq-with_end c.in-Some.front.now c.args.name.now (codes ".map") c.args.source.now c.eq.result source
    (c.eq.ensures ∙ ap (λ (x : List ℕ). bytes_eq c.in-Some.front.now x) c.as_bytes-in-Some.ensures.value)

pub returns-in-None : goal.returns-in-None
returns-in-None c =
    bytes_eq-without_end c.args.name.now (codes ".map") c.args.source.now
    (λ front e. strip_suffix_is Decides-eqb c.as_bytes.result.now (codes ".map") None c.in-None.ensures.cases front
    (c.as_bytes.ensures.value ∙ e))
