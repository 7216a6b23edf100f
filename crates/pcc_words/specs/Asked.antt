-- What the words of the command line ask for: the matches of the command, and two rules on the names of files.
use Rattle.std.specs.Prelude.{ℕ, ⊤, ◌≤◌, ◌||◌, List, [], ◌∷◌, ◌++◌, length, codes, bytes_eq, nat_lt, Bool, Option, Some}
use Rattle.std.specs.Prelude.{None}
use Rattle.std.specs.Prelude.{if◌then◌else◌}
use Rattle.std.specs.List.{list_any}
use Rattle.std.specs.Str.Parse.{digits_value, without_leading_plus}
use Rattle.clap.specs.ValueTests.{is_unsigned_in}
use Rattle.clap.specs.Words.{Kinds, Row, Text, all_of, fault_of, first_of, subcommand_of}
use Rattle.pcc_words.specs.App.{app, u32_max, u64_max}

pub data Command : Type 0 where
  -- compile the sources, and write NAME.map and NAME
  Compile : (name : List ℕ) (sources : List (List ℕ)) → Command
  -- run the image for so many steps at most
  Run : (steps : ℕ) (image : List ℕ) → Command
  -- evaluate the sources for so many turns at most
  Eval : (turns : ℕ) (sources : List (List ℕ)) → Command
  -- solve the board of the file
  Solve : (file : List ℕ) → Command
  -- put the generated program of this number on the output
  Gen : (number : ℕ) → Command
  -- evaluate the generated program of this number, compile it, write NAME.map and NAME, and run what was written
  Selftest : (name : List ℕ) (number : ℕ) → Command
  -- remove the fewest pieces of the board of the file, so that the others have a legal placement
  Least : (file : List ℕ) → Command
  -- compile the sources, and put their map on the output
  Board : (sources : List (List ℕ)) → Command
  -- there are so many sources, more than are read
  ManyFiles : (count : ℕ) → Command
  -- no command
  Usage : Command

-- the most sources of one command
abbrev pub file_count_limit : ℕ
file_count_limit = 16

abbrev pub map_name : List ℕ → List ℕ
map_name name = name ++ codes ".map"

-- what is written has another name than each source
abbrev pub clashes : List ℕ → List (List ℕ) → Bool
clashes name sources = list_any (λ s. bytes_eq name s || bytes_eq (map_name name) s) sources

abbrev pub compile_command : List ℕ → List (List ℕ) → Command
compile_command name sources =
    if nat_lt file_count_limit (length sources) then ManyFiles (length sources)
    else if clashes name sources then Usage else Compile name sources

abbrev pub compile_asked : Option Text → Option (List Text) → Command
compile_asked (Some name) (Some sources) = compile_command name sources
compile_asked _ _ = Usage

-- a number up to this one in decimal digits, behind a `+` or not
abbrev pub number_of : ℕ → Text → Option ℕ
number_of most text =
    if is_unsigned_in 0 most text then Some (digits_value 10 (without_leading_plus text)) else None

abbrev pub run_command : Option ℕ → List ℕ → Command
run_command None image = Usage
run_command (Some n) image = Run n image

abbrev pub run_asked : Option Text → Option Text → Command
run_asked (Some steps) (Some image) = run_command (number_of u64_max steps) image
run_asked _ _ = Usage

abbrev pub eval_command : Option ℕ → List (List ℕ) → Command
eval_command None sources = Usage
eval_command (Some n) sources =
    if nat_lt file_count_limit (length sources) then ManyFiles (length sources) else Eval n sources

abbrev pub eval_asked : Option Text → Option (List Text) → Command
eval_asked (Some turns) (Some sources) = eval_command (number_of u64_max turns) sources
eval_asked _ _ = Usage

abbrev pub solve_asked : Option Text → Command
solve_asked None = Usage
solve_asked (Some file) = Solve file

abbrev pub gen_command : Option ℕ → Command
gen_command None = Usage
gen_command (Some n) = Gen n

abbrev pub gen_asked : Option Text → Command
gen_asked None = Usage
gen_asked (Some number) = gen_command (number_of u32_max number)

abbrev pub selftest_command : List ℕ → Option ℕ → Command
selftest_command name None = Usage
selftest_command name (Some n) = Selftest name n

abbrev pub selftest_asked : Option Text → Option Text → Command
selftest_asked (Some name) (Some number) = selftest_command name (number_of u32_max number)
selftest_asked _ _ = Usage

abbrev pub least_asked : Option Text → Command
least_asked None = Usage
least_asked (Some file) = Least file

abbrev pub board_command : List (List ℕ) → Command
board_command sources =
    if nat_lt file_count_limit (length sources) then ManyFiles (length sources) else Board sources

abbrev pub board_asked : Option (List Text) → Command
board_asked None = Usage
board_asked (Some sources) = board_command sources

-- the command of this name, by the matches of its arguments
abbrev pub asked_by : Text → List Row → Command
asked_by command rows =
    if bytes_eq command (codes "compile") then compile_asked (first_of (codes "NAME") rows) (all_of (codes "SRC") rows)
    else if bytes_eq command (codes "run") then run_asked (first_of (codes "N") rows) (first_of (codes "IMAGE") rows)
    else if bytes_eq command (codes "eval") then eval_asked (first_of (codes "N") rows) (all_of (codes "SRC") rows)
    else if bytes_eq command (codes "solve") then solve_asked (first_of (codes "FILE") rows)
    else if bytes_eq command (codes "gen") then gen_asked (first_of (codes "N") rows)
    else if bytes_eq command (codes "selftest") then
    selftest_asked (first_of (codes "NAME") rows) (first_of (codes "N") rows)
    else if bytes_eq command (codes "least") then least_asked (first_of (codes "FILE") rows)
    else if bytes_eq command (codes "board") then board_asked (all_of (codes "SRC") rows) else Usage

abbrev pub asked_in : Option (Text × List Row) → Command
asked_in None = Usage
asked_in (Some matched) = asked_by matched.0 matched.1

-- words that are refused for any kind of fault, a request for help among them, mean no command
abbrev pub asked_unless : Kinds → Option (Text × List Row) → Command
asked_unless [] found = asked_in found
asked_unless (kind ∷ kinds) found = Usage

-- a command has so many sources at most
abbrev pub HasFewSources : Command → Type 0
HasFewSources (Compile name sources) = length sources ≤ file_count_limit
HasFewSources (Eval turns sources) = length sources ≤ file_count_limit
HasFewSources (Board sources) = length sources ≤ file_count_limit
HasFewSources _ = ⊤

-- the words are those behind the program's name
abbrev pub command_of : List (List ℕ) → Command
command_of words = asked_unless (fault_of app words) (subcommand_of app words)
