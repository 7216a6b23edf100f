use Rattle.std.proofs.Common.{sym, subst}
use Rattle.std.proofs.lemmas.Result.{on_ok_weaker}
use Rattle.lower_lines.specs.Expressions.{Located, AtLocal, AtObject, step_part}
use Rattle.lower_builder.specs.Sites.{context_of}
use Rattle.lower_builder.specs.Spots.{spot_of}
use Rattle.lower_builder.specs.MoveViews.{wanted_of}
use Rattle.lower_builder.specs.Views.{AddsPart}
use Rattle.std.proofs.Common.{true}
use Rattle.lower_expressions.proofs.Placing.{after-nothing, found-element, found-local, found-object, step-element}
use Rattle.lower_expressions.proofs.places.step_found.Goals as goal

pub returns-in-Local : goal.returns-in-Local
returns-in-Local c = on_ok_weaker c.step_local.result (λ added. λ located s h.
    let context = context_of c.args.site.now in
    let w = wanted_of c.args.wanted in
    let level = c.args.level in
    let o = c.args.operator in
    let v = c.in-Local.v in
    let f = found-local located true level v (rw c.in-Local.is at h) in
    subst (λ (l : Located). AddsPart (step_part context c.args.of o l) level w s c.step_local.new.lines) (sym f.0)
    (after-nothing (λ n. (step_part context c.args.of o (AtLocal v)).lines n level w) f.1
    added)) c.step_local.ensures

pub returns-in-Object : goal.returns-in-Object
returns-in-Object c = on_ok_weaker c.step_object.result (λ added. λ located s h.
    let context = context_of c.args.site.now in
    let w = wanted_of c.args.wanted in
    let level = c.args.level in
    let o = c.args.operator in
    let k = c.in-Object.k in
    let f = found-object located true level k (rw c.in-Object.is at h) in
    subst (λ (l : Located). AddsPart (step_part context c.args.of o l) level w s c.step_object.new.lines) (sym f.0)
    (after-nothing (λ n. (step_part context c.args.of o (AtObject k)).lines n level w) f.1
    added)) c.step_object.ensures

pub returns-in-Element : goal.returns-in-Element
returns-in-Element c = on_ok_weaker c.step_element.result (λ added. λ located s h.
    let context = context_of c.args.site.now in
    let w = wanted_of c.args.wanted in
    let level = c.args.level in
    let t = c.in-Element.t in
    let f = found-element located true level t c.in-Element.at (rw c.in-Element.is at h) in
    subst (λ (l : Located). AddsPart (step_part context c.args.of c.args.operator l) level w s c.step_element.new.lines)
    (sym f.1)
    (step-element context c.args.of c.args.operator t f.0 level w (spot_of c.in-Element.at) f.2 f.3
    added)) c.step_element.ensures
