-- What is told of words that are refused, handed on.
use Rattle.std.proofs.Common.{◌≡◌, ◌∙◌, Result, Ok, Err}
use Rattle.std.specs.Prelude.{⊤, IfOk, MatchResult}
use Rattle.pcc_base.specs.declared.memory.NoMemory.{NoMemory}
use Rattle.pcc_words.specs.declared.command.Command.{Command}
use Rattle.pcc_words.specs.Asked as asked
use Rattle.pcc_words.specs.Words.{meaning}

pub usage-told : {Other : Type 0} (r : Result Command NoMemory) (means : asked.Command)
    → MatchResult r (λ c. (meaning c ≡ asked.Usage) × Other) (λ e. ⊤) → (Other → asked.Usage ≡ means)
    → IfOk r (λ c. meaning c ≡ means)
usage-told (Ok c) means (e, other) told = e ∙ told other
usage-told (Err e) means h told = tt
