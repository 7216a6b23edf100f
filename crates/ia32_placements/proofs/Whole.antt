-- A legal map is a placement that supports its graph, where instructions move variables between points.
use Rattle.std.proofs.Common.{arith}
use Rattle.ia32_placements.specs.Laws.{LegalMapsSupport}
use Rattle.ia32_placements.proofs.Edges.{none-first, stood-behind}
use Rattle.ia32_placements.proofs.Frames.{are-arrays-in, array-below, four-words, frame-words}
use Rattle.ia32_placements.proofs.Supported.{supports-point}

pub legal-maps-support : LegalMapsSupport
legal-maps-support flow homes places between is legal moves = record {
  four_words = four-words flow places legal.frame;
  words = frame-words flow places legal.frame;
  below_registers = omega arith;
  zeroed_words = omega arith;
  arrays = are-arrays-in flow places legal.frame;
  cleared = λ k below array e f. (array-below flow places legal.frame k below array e f).0;
  points = λ point o placed has. supports-point flow homes places between point o is legal placed has;
  begins = λ point v place first e. absurd (none-first flow homes places is legal point v place first e);
  moves = moves;
  stood = λ point next v place leads e. stood-behind flow homes places is legal point next v place leads e;
}
