use Rattle.std.proofs.Common.{Some, ap}
use Rattle.clap.specs.Walk.{Rule}
use Rattle.pcc_base.specs.Ascii.{letter_o}
use Rattle.pcc_words.proofs.app.name.Goals as goal

pub returns : goal.returns
returns c =
    rw c.short.ensures (ap (λ (r : Rule). record r { short = Some letter_o }) c.wanted.ensures.0, c.wanted.ensures.1)
