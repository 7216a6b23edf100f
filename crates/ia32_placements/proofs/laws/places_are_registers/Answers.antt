use Rattle.ia32_placements.proofs.Spots.{holds-width, is-at, number_of, spots-apart}
use Rattle.ia32_placements.proofs.laws.places_are_registers.Goals as goal

pub returns : goal.returns
returns c = record {
  apart = λ s t one two others e f. spots-apart s.area t.area s.columns t.columns one two others e f;
  widths = λ s width place wide e.
      holds-width (number_of s.area) width s.columns place wide (is-at s.area s.columns place e);
}
