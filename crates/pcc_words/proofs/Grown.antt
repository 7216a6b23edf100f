-- Commands with arguments.
use Rattle.std.proofs.Common.{◌≡◌, ◌∙◌, ◌||◌, Bool, false, ap, ap₂}
use Rattle.clap.specs.Simple.{App, app_of, with_rule}
use Rattle.clap.specs.Walk.{Rule, rule_of}
use Rattle.clap.specs.Words.{AddsArg}
use Rattle.clap.specs.declared.builder.arg.Arg.{Arg}
use Rattle.clap.specs.declared.builder.command.Command.{Command}
use Rattle.clap.specs.declared.builder.command.Command.TheViews.{out-Command}

-- the command is this one, and none of its arguments is for all commands
abbrev pub Is : App → Command → Type 0
Is app c = (app_of c ≡ app) × ((out-Command c).has_globals ≡ false)

-- an argument was added
pub argument_added : (app : App) (rule : Rule) (c r : Command) (argument : Arg) → Is app c → rule_of argument ≡ rule
    → argument.global ≡ false → AddsArg c argument r → Is (with_rule app rule) r
argument_added app rule c r argument is ruled local adds = (
  adds.shape local ∙ ap₂ with_rule is.0 ruled,
  adds.globals ∙ ap₂ (λ (a b : Bool). a || b) is.1 local,
)

-- and one behind the first
pub second_added : (named : App) (one two : Rule) (c r : Command) (first second : Arg)
    → Is (with_rule named (rule_of first)) c → rule_of first ≡ one → rule_of second ≡ two → second.global ≡ false
    → AddsArg c second r → Is (with_rule (with_rule named one) two) r
second_added named one two c r first second is ruled_first ruled_second local adds =
    argument_added (with_rule named one) two c r second (is.0 ∙ ap (with_rule named) ruled_first, is.1) ruled_second
    local adds
