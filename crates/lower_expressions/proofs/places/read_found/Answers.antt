use Rattle.std.proofs.Common.{sym, subst}
use Rattle.std.proofs.lemmas.Result.{on_ok_weaker}
use Rattle.lower_lines.specs.Expressions.{Located, AtLocal, AtObject, read_part}
use Rattle.lower_builder.specs.Sites.{context_of}
use Rattle.lower_builder.specs.Spots.{spot_of}
use Rattle.lower_builder.specs.MoveViews.{wanted_of}
use Rattle.lower_builder.specs.Views.{AddsPart}
use Rattle.std.proofs.Common.{true}
use Rattle.lower_expressions.proofs.Naming.{object-read-adds}
use Rattle.lower_expressions.proofs.Placing.{after-nothing, found-element, found-local, found-object, read-element}
use Rattle.lower_expressions.proofs.places.read_found.Goals as goal

pub returns-in-Local : goal.returns-in-Local
returns-in-Local c = on_ok_weaker c.local.result (λ added. λ located s h.
    let context = context_of c.args.site.now in
    let w = wanted_of c.args.wanted in
    let level = c.args.level in
    let v = c.in-Local.v in
    let f = found-local located true level v (rw c.in-Local.is at h) in
    subst (λ (l : Located). AddsPart (read_part context c.args.of l) level w s c.local.new.lines) (sym f.0)
    (after-nothing (λ n. (read_part context c.args.of (AtLocal v)).lines n level w) f.1 added)) c.local.ensures

pub returns-in-Object : goal.returns-in-Object
returns-in-Object c = on_ok_weaker c.object.result (λ added. λ located s h.
    let context = context_of c.args.site.now in
    let w = wanted_of c.args.wanted in
    let level = c.args.level in
    let k = c.in-Object.k in
    let f = found-object located true level k (rw c.in-Object.is at h) in
    subst (λ (l : Located). AddsPart (read_part context c.args.of l) level w s c.object.new.lines) (sym f.0)
    (after-nothing (λ n. (read_part context c.args.of (AtObject k)).lines n level w) f.1
    (object-read-adds context c.args.of k level w c.number_type.result c.number_type.ensures
    added))) c.object.ensures

pub returns-in-Element : goal.returns-in-Element
returns-in-Element c = on_ok_weaker c.loaded.result (λ added. λ located s h.
    let context = context_of c.args.site.now in
    let w = wanted_of c.args.wanted in
    let level = c.args.level in
    let t = c.in-Element.t in
    let f = found-element located true level t c.in-Element.at (rw c.in-Element.is at h) in
    subst (λ (l : Located). AddsPart (read_part context c.args.of l) level w s c.loaded.new.lines) (sym f.1)
    (read-element context c.args.of t f.0 level w (spot_of c.in-Element.at) f.2 f.3 added)) c.loaded.ensures
