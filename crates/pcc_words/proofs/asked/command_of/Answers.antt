use Rattle.std.proofs.Common.{◌∙◌, map, string_bytes}
use Rattle.std.proofs.lemmas.Result.{IfOk-weaker}
use Rattle.pcc_words.proofs.Told.{told-ok, told-err}
use Rattle.pcc_words.proofs.Refused.{usage-told}
use Rattle.pcc_words.proofs.asked.command_of.Goals as goal

pub returns-in-Ok-try_get_matches_from : goal.returns-in-Ok-try_get_matches_from
returns-in-Ok-try_get_matches_from c =
    IfOk-weaker c.asked_in.result _ _ (λ k e. e
    ∙ told-ok _ (map string_bytes c.args.words.now) c.in-Ok-try_get_matches_from.matches c.in-Ok.ensures
    c.in-Ok-try_get_matches_from.ensures.matches c.in-Ok-try_get_matches_from.ensures.kinds)
    c.asked_in.ensures

pub returns-in-Err : goal.returns-in-Err
returns-in-Err c =
    usage-told c.refused.result _ c.refused.ensures (λ other.
    told-err _ (map string_bytes c.args.words.now) c.in-Err.error c.in-Ok.ensures other c.in-Err.ensures.kinds)
