use Rattle.pcc_program.proofs.Frames.{graphs-have-frames}
use Rattle.pcc_program.proofs.code.graphs_have_frames.Goals as goal

pub returns : goal.returns
returns c = graphs-have-frames c.blocks_are_few.ensures
