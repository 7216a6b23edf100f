-- What keeps the rules of a map has parts few enough to have numbers.
use Rattle.std.proofs.lemmas.List.Elements.{All-weaker}
use Rattle.map_text.specs.Maps.{Map, MapFunction}
use Rattle.map_text.specs.Rules.{IsMap, IsMapFunction}
use Rattle.map_file.specs.Numbered.{HasNumberedParts, IsNumbered}

parts-number : (m : Map) (f : MapFunction) → IsMapFunction m f → HasNumberedParts f
parts-number m f is = record { arrays = is.few_arrays; variables = is.few_variables; blocks = is.few_blocks }

pub rules_number : (m : Map) → IsMap m → IsNumbered m
rules_number m is =
    record {
      objects = is.few_objects;
      functions = is.few_functions;
      parts = All-weaker (IsMapFunction m) HasNumberedParts (parts-number m) m.functions is.functions;
    }
