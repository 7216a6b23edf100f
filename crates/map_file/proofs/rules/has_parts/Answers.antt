use Rattle.std.proofs.Common.{List, map, subst}
use Rattle.std.specs.List.{All}
use Rattle.pcc_base.specs.Names.{IsName}
use Rattle.map_text.specs.Maps.{IsMapArray, IsMapVariable}
use Rattle.map_text.specs.Rules.{IsMapBlock}
use Rattle.map_file.specs.Views.{array_of, block_of, variable_of}
use Rattle.map_file.specs.declared.file.MapArray.{MapArray}
use Rattle.map_file.specs.declared.file.MapBlock.{MapBlock}
use Rattle.map_file.specs.declared.file.MapVar.{MapVar}
use Rattle.map_file.proofs.rules.has_parts.Goals as goal

pub returns-clause-right : goal.returns-clause-right
returns-clause-right c = λ e m points distinct.
    let few = c.has_numbered_parts.ensures.0 c.if-not-has_numbered_parts.false in
    record {
      name = subst IsName c.as_bytes.ensures (c.is_name.ensures.0 c.if-not-is_name.false);
      frame = c.is_word.ensures;
      arrays = subst (λ (xs : List MapArray). All IsMapArray (map array_of xs)) c.as_slice.ensures.value
          (c.are_arrays.ensures.0 c.if-not-are_arrays.false);
      few_arrays = few.arrays;
      variables = subst (λ (xs : List MapVar). All IsMapVariable (map variable_of xs)) c.as_slice-2.ensures.value
          (c.are_variables.ensures.0 c.if-not-are_variables.false);
      few_variables = few.variables;
      blocks = subst (λ (xs : List MapBlock). All IsMapBlock (map block_of xs)) c.as_slice-3.ensures.value
          (c.are_blocks.ensures.0 e);
      few_blocks = few.blocks;
      points = points;
      distinct = distinct;
    }
