-- The command of words, from what a parse of them tells.
use Rattle.std.proofs.Common.{◌≡◌, ◌≢◌, ◌∙◌, ap, refl, subst, inl, inr, true, List, [], ◌∷◌}
use Rattle.std.proofs.Common.{Option}
use Rattle.clap.specs.Values.{kind_of}
use Rattle.clap.specs.Kinds.{HasKind, IsAmong, Kinds}
use Rattle.clap.specs.Faults.{fault_of, is_simple_and_free}
use Rattle.clap.specs.Simple.{App, HasMatchesOf, is_simple, subcommand_of, subcommand_rows_of}
use Rattle.clap.specs.Walk.{Row, Text}
use Rattle.clap.specs.declared.error.Error.{Error}
use Rattle.clap.specs.declared.error.kind.ErrorKind.TheVariants.{OutOfMemory}
use Rattle.clap.specs.declared.error.kind.ErrorKind.{ErrorKind}
use Rattle.clap.specs.declared.parser.matches.ArgMatches.{ArgMatches}
use Rattle.clap.proofs.OnLiterals.{clap_on_literals}
use Rattle.pcc_words.specs.App.{app}
use Rattle.pcc_words.specs.Asked.{Usage, asked_in, asked_unless, command_of}

is-simple : is_simple app ≡ true
unfolding clap_on_literals
is-simple = refl

is-free : is_simple_and_free app ≡ true
unfolding clap_on_literals
is-free = refl

taken : (kinds : Kinds) (found : Option (Text × List Row)) → kinds ≡ [] → asked_in found ≡ asked_unless kinds found
taken [] found e = refl
taken (k ∷ ks) found e = cc

refused : (kind : ErrorKind) (kinds : Kinds) (found : Option (Text × List Row)) → IsAmong kind kinds
    → Usage ≡ asked_unless kinds found
refused kind [] found h = absurd h
refused kind (k ∷ ks) found h = refl

-- the words are taken: their command is what the matches ask for
pub told-ok : (a : App) (words : List Text) (m : ArgMatches) → a ≡ app → HasMatchesOf a words m
    → (is_simple_and_free a ≡ true → fault_of a words ≡ []) → asked_in (subcommand_rows_of m) ≡ command_of words
told-ok a words m is has none =
    let has-app = subst (λ (b : App). HasMatchesOf b words m) is has in
    let none-app = subst (λ (b : App). is_simple_and_free b ≡ true → fault_of b words ≡ []) is none in
    ap asked_in (has-app is-simple).1 ∙ taken (fault_of app words) (subcommand_of app words) (none-app is-free)

-- they are refused for another cause than memory: they mean no command
pub told-err : (a : App) (words : List Text) (e : Error) → a ≡ app → kind_of e ≢ OutOfMemory
    → (is_simple_and_free a ≡ true → HasKind (fault_of a words) e) → Usage ≡ command_of words
told-err a words e is other has =
    let has-app = subst (λ (b : App). is_simple_and_free b ≡ true → HasKind (fault_of b words) e) is has in
    among (has-app is-free)
  where
    among : HasKind (fault_of app words) e → Usage ≡ command_of words
    among (inl memory) = absurd (other memory)
    among (inr one) = refused (kind_of e) (fault_of app words) (subcommand_of app words) one
