use Rattle.std.proofs.Common.{◌+◌, ℕ}
use Rattle.std.specs.Prelude.{codes, decimal}
use Rattle.pcc_gen.specs.Generated.{draw}
use Rattle.pcc_gen.proofs.Putting.{put_five, put_same}
use Rattle.pcc_gen.proofs.functions.push_closing.Goals as goal

pub returns-clause-text : goal.returns-clause-text
returns-clause-text c =
    put_five (codes "  for (e = 0; e < ") (decimal (1 + draw 8 c.args.draws.now.x))
    (codes "; e++) t[(a + e) & 63] += b ^ d;\n") (codes "  return a + b + c + d + e;\n") (codes "}\n") _ _ _ _ _ _
    c.in_ok-extend_from_slice.ensures.items
    (put_same (λ (k : ℕ). decimal (1 + k)) _ _ _ _ c.in_ok-push_number.ensures c.below.ensures.drawn)
    c.in_ok-extend_from_slice-2.ensures.items c.in_ok-extend_from_slice-3.ensures.items
    c.in_ok-extend_from_slice-4.ensures.items
