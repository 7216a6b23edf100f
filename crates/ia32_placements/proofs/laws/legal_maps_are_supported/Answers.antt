use Rattle.ia32_placements.proofs.Edges.{none-first, stood-behind}
use Rattle.ia32_placements.proofs.Frames.{are-arrays-in, four-words, frame-words}
use Rattle.ia32_placements.proofs.Supported.{supports-point}
use Rattle.ia32_placements.proofs.Whole.{legal-maps-support}
use Rattle.ia32_placements.proofs.laws.legal_maps_are_supported.Goals as goal

pub returns : goal.returns
returns c = record {
  points = λ flow homes places between point o is legal placed has.
      supports-point flow homes places between point o is legal placed has;
  edges = λ flow homes places point next v place is legal leads e.
      stood-behind flow homes places is legal point next v place leads e;
  first = λ flow homes places point v place is legal begins e.
      none-first flow homes places is legal point v place begins e;
  frames = λ flow places legal. (
    four-words flow places legal.frame,
    frame-words flow places legal.frame,
    are-arrays-in flow places legal.frame,
  );
  supports = legal-maps-support;
}
