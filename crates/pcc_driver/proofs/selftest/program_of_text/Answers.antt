-- Why the text has no program.
use Rattle.std.proofs.Common.{◌≡◌, List, ℕ, [], ◌∷◌, map, rules, subst}
use Rattle.c_front.specs.Answers.{AreRefused}
use Rattle.pcc_driver.proofs.Refused.{texts_refused}
use Rattle.pcc_driver.proofs.selftest.program_of_text.Goals as goal
use Rattle.pcc_driver.proofs.selftest.program_of_text.Goals.{in-Err-1, in-Ok-1}

pub returns : goal.returns
returns c =
    let e : map (λ t. t.items) c.as_slice.result.now ≡ c.args.text.items ∷ [] =
    elim c.match-push.branch [ in-Err-1 w ↦ search (rules) | in-Ok-1 w ↦ rw c.as_slice.ensures.value (search (rules, c.push.ensures.items, c.new-texts.ensures.items)) ] in
    texts_refused (c.args.text.items ∷ []) c.in-Err.refused c.refused_report.result c.refused_report.ensures
    (subst (λ (ts : List (List ℕ)). AreRefused ts c.in-Err.refused) e c.in-Err.ensures.refused)
