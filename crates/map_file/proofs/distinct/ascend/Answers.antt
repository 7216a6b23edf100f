use Rattle.std.proofs.Common.{drop, get_or, ◌+◌}
use Rattle.std.proofs.lemmas.List.{drop_all, drop_more}
use Rattle.map_file.proofs.Ascending.{all_follow, all_left, none_follows, one_follows}
use Rattle.map_file.proofs.distinct.ascend.Goals as goal

pub loop-number-init : goal.loop-number-init
loop-number-init c = all_left c.args.numbers.now

pub returns-then-number-least : goal.returns-then-number-least
returns-then-number-least c =
    let xs = c.args.numbers.now in
    let i = c.loop-number.number-index in
    none_follows xs c.loop-number.least (get_or xs i 0) (drop i xs) (drop (i + 1) xs)
    (drop_more xs i 0 c.loop-number-test.true) c.if-number-least.true c.loop-number.invariant

pub loop-number-preserved : goal.loop-number-preserved
loop-number-preserved c =
    let xs = c.args.numbers.now in
    let i = c.loop-number.number-index in
    one_follows xs c.loop-number.least (get_or xs i 0) (drop i xs) (drop (i + 1) xs)
    (drop_more xs i 0 c.loop-number-test.true) c.if-number-least.false c.loop-number.invariant

pub returns : goal.returns
returns c =
    let xs = c.args.numbers.now in
    let i = c.loop-number.number-index in
    all_follow xs c.loop-number.least (drop i xs) (drop_all i xs c.loop-number-test.false) c.loop-number.invariant
