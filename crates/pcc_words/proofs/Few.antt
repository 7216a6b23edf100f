-- The commands that words mean have few sources.
use Rattle.std.proofs.Common.{◌≡◌, ◌≤◌, ℕ, Bool, true, false, List, [], ◌∷◌, Option, Some, None, length, codes, refl}
use Rattle.std.proofs.Common.{bytes_eq, nat_lt, if◌then◌else◌, arith}
use Rattle.std.proofs.lemmas.Bool.Decides.{nat_tests}
use Rattle.clap.specs.Words.{Kinds, Row, Text, all_of, fault_of, first_of, subcommand_of}
use Rattle.pcc_words.specs.App.{app, u32_max, u64_max}
use Rattle.pcc_words.specs.Asked.{Command, Compile, ManyFiles, Usage, HasFewSources, asked_by}
use Rattle.pcc_words.specs.Asked.{asked_in, asked_unless, clashes, command_of, compile_asked}
use Rattle.pcc_words.specs.Asked.{eval_asked, eval_command, file_count_limit, number_of, run_asked, run_command}
use Rattle.pcc_words.specs.Asked.{board_asked, board_command, gen_asked, gen_command, least_asked, selftest_asked}
use Rattle.pcc_words.specs.Asked.{selftest_command, solve_asked}

-- either command
few_if : (b : Bool) (x y : Command) → HasFewSources x → HasFewSources y → HasFewSources (if b then x else y)
few_if true x y hx hy = hx
few_if false x y hx hy = hy

-- a command of so many sources, where they aren't too many
few_below : (sources : List (List ℕ)) (b : Bool) (x : Command) → nat_lt file_count_limit (length sources) ≡ b
    → (length sources ≤ file_count_limit → HasFewSources x)
    → HasFewSources (if b then ManyFiles (length sources) else x)
few_below sources true x e h = tt
few_below sources false x e h = h (grind (arith, nat_tests))

few_compile : (name : Option Text) (sources : Option (List Text)) → HasFewSources (compile_asked name sources)
few_compile (Some name) (Some sources) =
    few_below sources (nat_lt file_count_limit (length sources)) _ refl
    (λ few. few_if (clashes name sources) Usage (Compile name sources) tt few)
few_compile (Some name) None = tt
few_compile None sources = tt

few_eval_of : (turns : Option ℕ) (sources : List Text) → HasFewSources (eval_command turns sources)
few_eval_of (Some n) sources = few_below sources (nat_lt file_count_limit (length sources)) _ refl (λ few. few)
few_eval_of None sources = tt

few_eval : (turns : Option Text) (sources : Option (List Text)) → HasFewSources (eval_asked turns sources)
few_eval (Some turns) (Some sources) = few_eval_of (number_of u64_max turns) sources
few_eval (Some turns) None = tt
few_eval None sources = tt

few_run_of : (steps : Option ℕ) (image : List ℕ) → HasFewSources (run_command steps image)
few_run_of (Some n) image = tt
few_run_of None image = tt

few_run : (steps image : Option Text) → HasFewSources (run_asked steps image)
few_run (Some steps) (Some image) = few_run_of (number_of u64_max steps) image
few_run (Some steps) None = tt
few_run None image = tt

few_solve : (file : Option Text) → HasFewSources (solve_asked file)
few_solve (Some file) = tt
few_solve None = tt

few_gen_of : (number : Option ℕ) → HasFewSources (gen_command number)
few_gen_of (Some n) = tt
few_gen_of None = tt

few_gen : (number : Option Text) → HasFewSources (gen_asked number)
few_gen (Some number) = few_gen_of (number_of u32_max number)
few_gen None = tt

few_selftest_of : (name : List ℕ) (number : Option ℕ) → HasFewSources (selftest_command name number)
few_selftest_of name (Some n) = tt
few_selftest_of name None = tt

few_selftest : (name number : Option Text) → HasFewSources (selftest_asked name number)
few_selftest (Some name) (Some number) = few_selftest_of name (number_of u32_max number)
few_selftest (Some name) None = tt
few_selftest None number = tt

few_least : (file : Option Text) → HasFewSources (least_asked file)
few_least (Some file) = tt
few_least None = tt

few_board_of : (sources : List Text) → HasFewSources (board_command sources)
few_board_of sources = few_below sources (nat_lt file_count_limit (length sources)) _ refl (λ few. few)

few_board : (sources : Option (List Text)) → HasFewSources (board_asked sources)
few_board (Some sources) = few_board_of sources
few_board None = tt

few_by : (command : Text) (rows : List Row) → HasFewSources (asked_by command rows)
few_by command rows =
    few_if (bytes_eq command (codes "compile")) _ _ (few_compile (first_of (codes "NAME") rows)
    (all_of (codes "SRC") rows))
    (few_if (bytes_eq command (codes "run")) _ _ (few_run (first_of (codes "N") rows) (first_of (codes "IMAGE") rows))
    (few_if (bytes_eq command (codes "eval")) _ _ (few_eval (first_of (codes "N") rows) (all_of (codes "SRC") rows))
    (few_if (bytes_eq command (codes "solve")) _ _ (few_solve (first_of (codes "FILE") rows))
    (few_if (bytes_eq command (codes "gen")) _ _ (few_gen (first_of (codes "N") rows))
    (few_if (bytes_eq command (codes "selftest")) _ _ (few_selftest (first_of (codes "NAME") rows)
    (first_of (codes "N") rows))
    (few_if (bytes_eq command (codes "least")) _ _ (few_least (first_of (codes "FILE") rows))
    (few_if (bytes_eq command (codes "board")) _ _ (few_board (all_of (codes "SRC") rows)) tt)))))))

few_in : (found : Option (Text × List Row)) → HasFewSources (asked_in found)
few_in (Some matched) = few_by matched.0 matched.1
few_in None = tt

few_unless : (kinds : Kinds) (found : Option (Text × List Row)) → HasFewSources (asked_unless kinds found)
few_unless [] found = few_in found
few_unless (kind ∷ kinds) found = tt

pub few : (words : List (List ℕ)) → HasFewSources (command_of words)
few words = few_unless (fault_of app words) (subcommand_of app words)
