use Rattle.std.proofs.lemmas.Result.{on_ok_weaker}
use Rattle.lower_builder.specs.Sites.{context_of}
use Rattle.lower_builder.specs.Spots.{spot_of}
use Rattle.lower_builder.specs.MoveViews.{wanted_of}
use Rattle.lower_builder.proofs.Joined.{end-whole}
use Rattle.lower_builder.proofs.operators.end_truth.Goals as goal

pub returns : goal.returns
returns c =
    on_ok_weaker c.start.result (λ added. end-whole (context_of c.args.site.now) c.args.level
    (wanted_of c.args.wanted) c.args.block c.in_ok-second.second
    c.in_ok-behind.behind (spot_of c.in_ok-to.to) c.in_ok-second.ensures c.in_ok-behind.ensures c.in_ok-to.ensures
    c.in_ok-truth_way.ensures c.in_ok-truth_way-2.ensures added) c.start.ensures
