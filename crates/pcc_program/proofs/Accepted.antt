-- The accepted program of texts is ready.
use Rattle.pcc_program.proofs.DeclaredFirstFiles.{locals_declared_first}
use Rattle.c_check_laws.proofs.Sound.{typed_is_well_typed}
use Rattle.c_typing.specs.Typed.{arrays_bytes, large_frame, most_arrays}
use Rattle.c_check_laws.proofs.IdentifiersFiles.{programs_have_names}
use Rattle.c_front.proofs.Units.{units_are_few, units_are_sources, units_have_names}
use Rattle.pcc_program.proofs.Bounds.{below-limit, frames-below}
use Rattle.pcc_program.proofs.Files.{sources_are_in_memory}
use Rattle.pcc_program.specs.Ready.{ProgramsAreReady}

pub programs_are_ready : ProgramsAreReady
programs_are_ready texts p (units, have, accepted) =
    let sources = units_are_sources texts units have in
    let memory = sources_are_in_memory units p sources (units_are_few texts units have) accepted in
    let within = below-limit most_arrays (arrays_bytes p) _ (large_frame 0 p.functions) accepted.small in
    record {
      typed = typed_is_well_typed units p sources accepted.typed;
      declared = locals_declared_first units p sources.trees accepted.typed;
      memory = memory;
      names = programs_have_names units p sources.trees (units_have_names texts units have) accepted.typed;
      frames = frames-below 0 p.functions within.1;
      objects = within.0;
      small = memory.small;
    }
