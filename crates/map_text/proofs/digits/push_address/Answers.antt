use Rattle.std.proofs.Common.{◌≡◌, ◌<◌, ◌++◌, ap, ◌∙◌, arith}
use Rattle.std.proofs.lemmas.Grind.{common_steps}
use Rattle.map_text.proofs.Hexadecimal.{hexadecimal-next, hexadecimal-all}
use Rattle.map_text.proofs.digits.push_address.Goals as goal

pub loop-place-preserved : goal.loop-place-preserved
loop-place-preserved c =
    let lt : c.loop-place.place < 8 = omega arith in
    let next = hexadecimal-next c.args.address c.loop-place.place lt in
    grind (arith, common_steps)

pub returns : goal.returns
returns c =
    let last : c.loop-place.place ≡ 8 = omega arith in
    c.loop-place.invariant ∙ ap (λ ds. c.args.out.now.items ++ ds)
    (hexadecimal-all c.args.address c.loop-place.place last)
