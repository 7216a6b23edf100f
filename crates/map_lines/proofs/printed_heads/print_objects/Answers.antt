use Rattle.std.proofs.Common.{◌≡◌, ◌++◌, ℕ, get_or, length, ap, ◌∙◌, arith}
use Rattle.c_tree.specs.declared.program.StaticObject.{StaticObject}
use Rattle.c_tree.specs.Sizes.{bytes_of}
use Rattle.map_text.specs.Words.{ObjectLine, line_text}
use Rattle.map_lines.proofs.HeadTexts.{objects-put}
use Rattle.map_lines.proofs.printed_heads.print_objects.Goals as goal

pub loop-number-preserved : goal.loop-number-preserved
loop-number-preserved c =
    let i = c.loop-number.number in
    let x = c.index-objects-number.result in
    let old = c.loop-number.out.items in
    let address = get_or c.args.addresses.now i 0 in
    let many : c.len.result ≡ length x.elements.items = omega (arith, c.len.ensures, x.elements.ok.0) in
    objects-put line_text _ old _ c.args.objects.now c.args.addresses.now i x 0 c.loop-number-test.true
    (omega (arith, c.loop-number-test.true, c.requires.as_many)) c.loop-number.invariant
    (c.in_ok-push_object.ensures
    ∙ ap (λ (n : ℕ). old ++ line_text (ObjectLine i address n c.bytes_of.result)) many
    ∙ ap (λ (n : ℕ). old ++ line_text (ObjectLine i address (length x.elements.items) n)) c.bytes_of.ensures
    ∙ ap (λ (o : StaticObject). old ++ line_text (ObjectLine i address (length o.elements.items) (bytes_of o.element)))
    c.index-objects-number.is)
