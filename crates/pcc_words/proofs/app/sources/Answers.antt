use Rattle.std.proofs.Common.{rules, ◌≡◌, ap}
use Rattle.std.specs.Prelude.{Option, Some, None, IsSomeAnd}
use Rattle.clap.specs.declared.builder.range.ValueRange.{ValueRange}
use Rattle.pcc_words.proofs.app.sources.Goals as goal

some_is : (o : Option ValueRange) (v : ValueRange) → IsSomeAnd o (λ r. r ≡ v) → o ≡ Some v
some_is (Some r) v e = ap Some e
some_is None v e = absurd e

pub returns : goal.returns
returns c =
    let counted = some_is _ _ c.num_args.ensures.1 in
    search rules
