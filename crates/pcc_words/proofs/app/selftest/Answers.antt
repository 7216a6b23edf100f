use Rattle.std.proofs.Common.{codes}
use Rattle.std.proofs.lemmas.Result.{IfOk-weaker}
use Rattle.clap.specs.Simple.{new_app}
use Rattle.pcc_words.specs.App as apps
use Rattle.pcc_words.proofs.Grown.{second_added}
use Rattle.pcc_words.proofs.app.selftest.Goals as goal

pub returns-in-Ok : goal.returns-in-Ok
returns-in-Ok c =
    IfOk-weaker c.arg.result _ _ (λ k adds.
    second_added (new_app (codes "selftest")) apps.name apps.seed c.in-Ok.command k c.name.result
    c.seed.result c.in-Ok.ensures c.name.ensures.0 c.seed.ensures.0 c.seed.ensures.1 adds)
    c.arg.ensures
