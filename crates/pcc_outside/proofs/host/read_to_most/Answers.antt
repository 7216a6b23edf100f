-- Fewer bytes than the limit are all bytes.
use Rattle.std.proofs.lemmas.Grind.{common_steps}
use Rattle.std.proofs.Common.{arith, length, ◌<◌}
use Rattle.pcc_outside.proofs.KnownMore.{whole_read}
use Rattle.pcc_outside.proofs.host.read_to_most.Goals as goal

pub returns-else-len-most-clause-told : goal.returns-else-len-most-clause-told
returns-else-len-most-clause-told g c =
    let short : length c.read_to_end.new.buf.items < c.take-limited.result.limit =
    omega (
      arith,
      c.read_to_end.new.buf.ok,
      c.read_to_end.new.buf.small,
      c.saturating_add.ensures,
      c.take-limited.ensures.limit,
    ) in
    whole_read g.R.Read.remaining c.args.reader c.take-limited.result.inner c.take-limited.result.limit
    c.new-bytes.result.items c.read_to_end.new.buf.items c.take-limited.ensures.inner c.new-bytes.ensures.items
    c.in-Ok.ensures.bytes short

pub returns-then-len-most-clause-told : goal.returns-then-len-most-clause-told
returns-then-len-most-clause-told g c = grind (arith, common_steps)

pub returns-in-Err-clause-told : goal.returns-in-Err-clause-told
returns-in-Err-clause-told g c = grind arith
