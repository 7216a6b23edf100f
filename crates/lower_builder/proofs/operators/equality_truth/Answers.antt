use Rattle.std.specs.Prelude.{if◌then◌else◌}
use Rattle.std.proofs.lemmas.Result.{on_ok_weaker}
use Rattle.lower_lines.specs.Operators.{equality_test}
use Rattle.lower_builder.specs.Sites.{context_of}
use Rattle.lower_builder.specs.Spots.{spot_of}
use Rattle.lower_builder.specs.MoveViews.{wanted_of}
use Rattle.lower_builder.proofs.Joined.{truth-whole}
use Rattle.lower_builder.proofs.operators.equality_truth.Goals as goal

pub returns : goal.returns
returns c =
    let x = spot_of c.args.x in
    let y = spot_of c.args.y in
    on_ok_weaker c.end_truth.result (λ added. truth-whole (context_of c.args.site.now) c.args.level
    (wanted_of c.args.wanted)
    (λ b holds fails. if c.args.equal then equality_test b x y holds fails else equality_test b x y fails holds) 1
    c.in_ok-first.first c.in_ok-second.second c.in_ok-first.ensures.first c.in_ok-second.ensures
    c.in_ok-first.ensures.lines c.in_ok-first.ensures.next c.in_ok-equality_branch.ensures added) c.end_truth.ensures
