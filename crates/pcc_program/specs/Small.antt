-- How large graphs are beside the tokens of files.
use Rattle.std.specs.Prelude.{◌≤◌, ℕ, ◌*◌, List, sum_by}
use Rattle.c_lex.specs.declared.token.Token.{Token}
use Rattle.c_front.specs.Accepted.{HaveTokens, total}
use Rattle.flow_graph.specs.States.{GraphProgram}
use Rattle.lower_lines.specs.Lowering.{arrays_in, points_in, words_in}

-- at most 20 points, 2 argument words and one frame array for each of so many tokens
pub record AreSmallFor (tokens : ℕ) (graphs : GraphProgram) : Type 0 where
  pub points : sum_by points_in graphs.functions ≤ 20 * tokens
  pub words : sum_by words_in graphs.functions ≤ 2 * tokens
  pub arrays : sum_by arrays_in graphs.functions ≤ tokens

-- so for the tokens of texts, of which the first has the number 0
abbrev pub AreSmallBeside : List (List ℕ) → GraphProgram → Type 0
AreSmallBeside texts graphs = (files : List (List Token)) → HaveTokens 0 texts files → AreSmallFor (total files) graphs
