-- What the getters of matches read, by the rows of the definition.
use Rattle.std.proofs.Common.{◌≡◌, option_map}
use Rattle.clap.specs.Words.{all_of, first_of, first_value, matched_of, raw_values, rows_of, Text}
use Rattle.clap.specs.declared.parser.matches.Found.{Found}
use Rattle.clap.proofs.WalkLemmas.{first_value-rows, raw_values-rows}

pub str_row : (f : Found) (id : Text) → first_value f id ≡ first_of id (rows_of f)
str_row f id = first_value-rows f id

pub strs_row : (f : Found) (id : Text) → option_map raw_values (matched_of f id) ≡ all_of id (rows_of f)
strs_row f id = raw_values-rows f id
