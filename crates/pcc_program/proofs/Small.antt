-- Graphs that are small for a typed program are so for the tokens of its files.
use Rattle.std.proofs.Common.{arith, ◌≡◌, ap, refl, subst, List, [], ◌∷◌, length, length-append}
use Rattle.std.specs.Prelude.{flat_map}
use Rattle.c_lex.specs.declared.token.Token.{Token}
use Rattle.c_syntax.specs.Grammar.{unit_tokens}
use Rattle.c_syntax.specs.Statements.{ExternalTree}
use Rattle.c_front.specs.Accepted.{HaveTrees, total}
use Rattle.c_front.proofs.OneReading.{tokens_once}
use Rattle.c_front.proofs.Units.{units_are_sources, total_is as tokens_of_units}
use Rattle.pcc_program.proofs.Files.{parts_have_tokens}
use Rattle.pcc_program.specs.TokensLaws.{FilesBoundGraphs, TextsBoundGraphs}

pub files_bound_graphs : FilesBoundGraphs
files_bound_graphs units p graphs sources typed small =
    let few = parts_have_tokens units p sources typed in
    record {
      points = omega (arith, few, small.points);
      words = omega (arith, few, small.words);
      arrays = omega (arith, few, small.arrays);
    }

pub texts_bound_graphs : TextsBoundGraphs
texts_bound_graphs texts p graphs (units, have, accepted) small files lexed =
    let few = files_bound_graphs units p graphs (units_are_sources texts units have) accepted.typed small in
    let same = tokens_of_units have.files units have.trees in
    let once = ap total (tokens_once 0 texts have.files files have.tokens lexed) in
    record {
      points = omega (arith, same, once, few.points);
      words = omega (arith, same, once, few.words);
      arrays = omega (arith, same, once, few.arrays);
    }
