use Rattle.std.proofs.Common.{rules, ◌≡◌, ◌∙◌, ap, refl}
use Rattle.std.proofs.lemmas.Result.{IfOk-weaker}
use Rattle.clap.specs.Simple.{app_of, app_of_fields, new_app}
use Rattle.pcc_words.proofs.Grown.{argument_added}
use Rattle.pcc_words.proofs.app.begun.Goals as goal

pub returns : goal.returns
returns c =
    let named : app_of c.about.result ≡ new_app c.args.name.now =
    ap app_of_fields c.about.ensures ∙ c.new.ensures.app in
    IfOk-weaker c.arg.result _ _ (λ k adds.
    argument_added (new_app c.args.name.now) _ c.about.result k c.args.first (named, search rules) refl c.requires.local
    adds)
    c.arg.ensures
