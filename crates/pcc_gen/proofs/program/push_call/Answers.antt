use Rattle.std.specs.Prelude.{codes, decimal}
use Rattle.pcc_gen.proofs.Putting.{put_three}
use Rattle.pcc_gen.proofs.program.push_call.Goals as goal

pub returns : goal.returns
returns c =
    put_three (codes "    s = s * 31 + f") (decimal c.args.number) (codes "(i, s);\n") _ _ _ _
    c.in_ok-extend_from_slice.ensures.items c.in_ok-push_number.ensures c.in_ok-extend_from_slice-2.ensures.items
