-- The command line as `clap` reads it: the commands, and the arguments of each.
use Rattle.std.specs.Prelude.{ℕ, [], ◌∷◌, Some, true, codes}
use Rattle.clap.specs.Lexer.{usize_max}
use Rattle.clap.specs.Words.{App, Rule, Text, new_app, new_rule, with_rule, with_subcommand}
use Rattle.clap.specs.declared.builder.action.ArgAction.TheVariants.{Set, Append}
use Rattle.clap.specs.declared.builder.value_parser.ValueParser.TheVariants.{Unsigned}
use Rattle.pcc_base.specs.Ascii.{letter_o}

-- an argument that has one value, and has to be there
abbrev pub wanted : Text → Rule
wanted id = record (new_rule id) { action = Some Set; required = true }

-- `-o NAME`
abbrev pub name : Rule
name = record (wanted (codes "NAME")) { short = Some letter_o }

-- `SRC..`
abbrev pub sources : Rule
sources = record (new_rule (codes "SRC")) {
  action = Some Append;
  range = Some (record { start_inclusive = 1; end_inclusive = usize_max });
  required = true;
}

-- the greatest numbers of 32 and of 64 bits
abbrev pub u32_max : ℕ
u32_max = 0xffff_ffff

abbrev pub u64_max : ℕ
u64_max = 0xffff_ffff_ffff_ffff

-- an option that has a number of 64 bits, and one where it isn't there
abbrev pub number : Text → Text → Rule
number option standard = record (new_rule (codes "N")) {
  long = Some option;
  action = Some Set;
  defaults = standard ∷ [];
  parser = Some (Unsigned 0 u64_max);
}

-- `--steps N`
abbrev pub steps : Rule
steps = number (codes "steps") (codes "1000000000")

-- `--turns N`
abbrev pub turns : Rule
turns = number (codes "turns") (codes "100000000")

-- `N`, a number of 32 bits that has to be there
abbrev pub seed : Rule
seed = record (wanted (codes "N")) { parser = Some (Unsigned 0 u32_max) }

abbrev pub compile : App
compile = with_rule (with_rule (new_app (codes "compile")) name) sources

abbrev pub run : App
run = with_rule (with_rule (new_app (codes "run")) steps) (wanted (codes "IMAGE"))

abbrev pub eval : App
eval = with_rule (with_rule (new_app (codes "eval")) turns) sources

abbrev pub solve : App
solve = with_rule (new_app (codes "solve")) (wanted (codes "FILE"))

abbrev pub generate : App
generate = with_rule (new_app (codes "gen")) seed

abbrev pub selftest : App
selftest = with_rule (with_rule (new_app (codes "selftest")) name) seed

abbrev pub least : App
least = with_rule (new_app (codes "least")) (wanted (codes "FILE"))

abbrev pub board : App
board = with_rule (new_app (codes "board")) sources

-- one of the commands is required, and there is a version; the words don't begin with the program's name
abbrev pub top : App
top = record (new_app (codes "pcc")) {
  top = record (new_app (codes "pcc")).top { no_binary_name = true; has_version = true; subcommand_required = true };
}

-- behind it the commands, in the order of the help
abbrev pub with_compile : App
with_compile = with_subcommand top compile.top

abbrev pub with_run : App
with_run = with_subcommand with_compile run.top

abbrev pub with_eval : App
with_eval = with_subcommand with_run eval.top

abbrev pub with_solve : App
with_solve = with_subcommand with_eval solve.top

abbrev pub with_generate : App
with_generate = with_subcommand with_solve generate.top

abbrev pub with_selftest : App
with_selftest = with_subcommand with_generate selftest.top

abbrev pub with_least : App
with_least = with_subcommand with_selftest least.top

abbrev pub app : App
app = with_subcommand with_least board.top
