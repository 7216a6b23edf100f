use Rattle.map_file.specs.Views.{function_of}
use Rattle.map_file.proofs.Variables.{piece_of_width}
use Rattle.map_file.proofs.pieces.is_piece.Goals as goal

pub returns : goal.returns
returns c =
    piece_of_width (function_of c.args.function.now).variables c.args.piece c.has_width.result c.has_width.ensures
