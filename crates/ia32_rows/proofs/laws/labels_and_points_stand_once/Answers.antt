use Rattle.ia32_rows.proofs.Numbered.{labels-once, points-once, points-placed}
use Rattle.ia32_rows.proofs.laws.labels_and_points_stand_once.Goals as goal

pub returns : goal.returns
returns c = record { labels = labels-once; points = points-once; placed = points-placed }
