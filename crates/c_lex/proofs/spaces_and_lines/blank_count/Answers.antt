use Rattle.std.proofs.Common.{◌==◌, ◌∙◌, not, rules, tests}
use Rattle.std.proofs.lemmas.Iterator.{YieldsList-from_slice}
use Rattle.std.proofs.lemmas.Iterator.Search.{position_from_yields_List}
use Rattle.std.specs.Prelude.{◌&&◌}
use Rattle.pcc_base.specs.Ascii.{space, tab}
use Rattle.c_lex.proofs.FrontLengths.{front_length}
use Rattle.c_lex.proofs.spaces_and_lines.blank_count.Goals as goal

pub returns-clause-count : goal.returns-clause-count
returns-clause-count c =
    c.unwrap_or.ensures
    ∙ front_length _ (λ b. not (b == space) && not (b == tab)) (λ b. search (rules, tests)) c.args.bytes.now
    c.position.result
    (position_from_yields_List _ _ _ _ c.position.ensures.ran (YieldsList-from_slice c.args.bytes.now cc)
    (λ x b q k. search (rules, tests)))
