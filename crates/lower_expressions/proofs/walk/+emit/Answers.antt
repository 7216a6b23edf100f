-- Constructs whose lines want a lemma.
use Rattle.std.proofs.Common.{rules, ◌≡◌, ◌∙◌, ◌+◌, ◌++◌, ◌∷◌, sym, ap, subst, suc, arith, ℕ, List, drop}
use Rattle.std.specs.Prelude.{◌&&◌, option_map, slice_get}
use Rattle.std.proofs.lemmas.List.{drop_all, drop_more}
use Rattle.std.proofs.lemmas.Result.{on_ok_weaker}
use Rattle.c_tree.specs.declared.expression.Expression.TheViews.{the_lemmas}
use Rattle.c_tree.specs.Erased.{expression_of, place_of}
use Rattle.c_tree.specs.Program as typed
use Rattle.lower_builder.specs.Built.{Adds}
use Rattle.lower_lines.specs.Expressions as parts
use Rattle.lower_lines.specs.Expressions.{Located, AtLocal, AtObject, AtAddress, assign_part, element_of, own_blocks}
use Rattle.lower_lines.specs.Expressions.{parameters_of, part_of, result_lines, target_of, update_part, words_of}
use Rattle.lower_lines.specs.Parts.{Part, if_stays}
use Rattle.lower_builder.proofs.Rows.{row_is}
use Rattle.lower_builder.specs.Sites.{context_of}
use Rattle.lower_builder.specs.Spots.{spot_of}
use Rattle.lower_builder.specs.MoveViews.{wanted_of}
use Rattle.lower_builder.specs.Views.{AddsPart}
use Rattle.lower_expressions.specs.Finding.{AtElement, found_at, located_blocks, located_lines}
use Rattle.lower_expressions.proofs.Naming.{local-assigned, object-updated}
use Rattle.lower_expressions.proofs.Placing.{after-nothing, element-found, element-spot, found-local, found-object}
use Rattle.lower_expressions.proofs.Placing.{target-found}
use Rattle.lower_expressions.proofs.Alike.{alike, owned, typed-alike}
use Rattle.lower_builder.specs.Arguments.{passed_type}
use Rattle.lower_expressions.specs.Rows.{passed_as}
use Rattle.lower_expressions.specs.Passing.{passed_from}
use Rattle.lower_expressions.proofs.Calling.{IsPassing, passed-past, passing-all, passing-more, passing-none}
use Rattle.lower_expressions.proofs.Joining.{assign-object, conditional-whole, passed-is, passed-there, stays-both}
use Rattle.lower_expressions.proofs.walk.+emit.Goals as goal

pub emit-returns-in_ok-start_joined-in-Conditional : goal.emit-returns-in_ok-start_joined-in-Conditional
emit-returns-in_ok-start_joined-in-Conditional t c =
    let s = context_of c.args.site.now in
    let w = wanted_of c.args.wanted in
    let T = expression_of c.deref-in-Conditional.result.now in
    let A = expression_of c.deref-in-Conditional-2.result.now in
    let B = expression_of c.deref-in-Conditional-3.result.now in
    let of = c.in-Conditional.of in
    let same : expression_of c.args.e.now ≡ typed.Conditional of T A B = search (rules, the_lemmas) in
    subst (λ e. AddsPart (part_of s e) c.args.level w c.args.lines.now c.start_joined.new.lines) (sym same)
    (conditional-whole s of (part_of s T) (part_of s A) (part_of s B) c.args.level w c.own_blocks.result
    c.in_ok-first-in-Conditional.first c.in_ok-second-in-Conditional.second c.in_ok-behind-in-Conditional.behind
    (typed-alike s of (part_of s A) (alike s A)) c.own_blocks.ensures (owned w)
    c.in_ok-first-in-Conditional.ensures.first c.in_ok-second-in-Conditional.ensures
    c.in_ok-behind-in-Conditional.ensures c.in_ok-first-in-Conditional.ensures.lines
    c.in_ok-first-in-Conditional.ensures.next c.in_ok-emit-in-Conditional.ensures
    c.in_ok-choice-in-Conditional.ensures c.in_ok-choice-in-Conditional-2.ensures
    c.in_ok-start_joined-in-Conditional.ensures)

pub assign-returns-in_ok-x-in-Object : goal.assign-returns-in_ok-x-in-Object
assign-returns-in_ok-x-in-Object t c = on_ok_weaker c.put.result (λ added. λ located s h.
    let context = context_of c.args.site.now in
    let w = wanted_of c.args.wanted in
    let level = c.args.level in
    let k = c.in-Object.k in
    let a = part_of context (expression_of c.args.e.now) in
    let f = found-object located a.simple level k (rw c.in-Object.is at h) in
    subst (λ (l : Located). AddsPart (assign_part context c.args.of l a) level w s c.put.new.lines) (sym f.0)
    (after-nothing (λ n. (assign_part context c.args.of (AtObject k) a).lines n level w) f.1
    (assign-object context c.args.of c.number_type.result k a level w (spot_of c.in_ok-x-in-Object.x)
    c.number_type.ensures c.in_ok-x-in-Object.ensures.adds c.in_ok-x-in-Object.ensures.spot
    added))) c.put.ensures

pub find-returns-in_ok-at-in-Target : goal.find-returns-in_ok-at-in-Target
find-returns-in_ok-at-in-Target t c =
    let s = context_of c.args.site.now in
    let E = expression_of c.deref.result.now in
    let same : place_of c.args.place.now ≡ typed.Target c.in-Target.t E = search (rules, the_lemmas) in
    subst (λ p. Adds c.args.lines.now c.stood.new.lines (located_blocks (parts.place_of s p))
    (located_lines (parts.place_of s p) c.args.stays c.args.lines.now.next c.args.level)
    × (AtElement c.in-Target.t (spot_of c.in_ok-at-in-Target.at)
    ≡ found_at (parts.place_of s p) c.args.stays c.args.level))
    (sym same) (
      target-found s c.args.stays c.args.level E c.in_ok-at-in-Target.ensures.adds,
      ap (AtElement c.in-Target.t) c.in_ok-at-in-Target.ensures.spot,
    )

pub find-returns-in_ok-at-in-Element : goal.find-returns-in_ok-at-in-Element
find-returns-in_ok-at-in-Element t c =
    let s = context_of c.args.site.now in
    let level = c.args.level in
    let i = c.in-Element.t in
    let A = expression_of c.deref-a.result.now in
    let B = expression_of c.deref-i.result.now in
    let a = part_of s A in
    let b = part_of s B in
    let simple = c.is_simple-simple.result in
    let x = spot_of c.in_ok-x-in-Element.x in
    let y = spot_of c.in_ok-y-in-Element.y in
    let at = spot_of c.in_ok-at-in-Element.at in
    let kept = option_map spot_of c.if_stays-kept.result in
    let stays = c.args.stays in
    let of : c.part_type.result ≡ a.of = c.part_type.ensures s in
    let same : place_of c.args.place.now ≡ typed.Element i A B = search (rules, the_lemmas) in
    let kept-is : kept ≡ if_stays (stays && simple) a.stands =
    c.if_stays-kept.ensures ∙ ap (if_stays stays) (c.if_stays.ensures ∙ ap (if_stays simple) c.stands.ensures)
    ∙ stays-both stays simple a.stands in
    let lines = rw of at c.in_ok-at-in-Element.ensures.adds in
    let spot = rw of at c.in_ok-at-in-Element.ensures.spot in
    subst (λ p. Adds c.args.lines.now c.element_at.new.lines (located_blocks (parts.place_of s p))
    (located_lines (parts.place_of s p) stays c.args.lines.now.next level)
    × (AtElement i at ≡ found_at (parts.place_of s p) stays level))
    (sym same) (
      element-found s i a.of a b stays simple level c.in_ok-above-in-Element.above kept x y
          c.in_ok-above-in-Element.ensures (c.is_simple-simple.ensures s) kept-is c.in_ok-x-in-Element.ensures.adds
          c.in_ok-x-in-Element.ensures.spot c.in_ok-y-in-Element.ensures.adds c.in_ok-y-in-Element.ensures.spot lines,
      ap (AtElement i) (element-spot s i a.of a b stays simple level kept x at (c.is_simple-simple.ensures s) kept-is
          c.in_ok-x-in-Element.ensures.spot spot),
    )

pub update-returns-in_ok-y-in-Local : goal.update-returns-in_ok-y-in-Local
update-returns-in_ok-y-in-Local t c = on_ok_weaker c.set_local.result (λ added. λ located s h.
    let context = context_of c.args.site.now in
    let w = wanted_of c.args.wanted in
    let level = c.args.level in
    let o = c.args.operator in
    let v = c.in-Local.v in
    let a = part_of context (expression_of c.args.e.now) in
    let f = found-local located a.simple level v (rw c.in-Local.is at h) in
    let up : c.in_ok-above.above ≡ suc level = omega (arith, c.in_ok-above.ensures) in
    subst (λ (l : Located). AddsPart (update_part context c.args.of o l a) level w s c.set_local.new.lines) (sym f.0)
    (after-nothing (λ n. (update_part context c.args.of o (AtLocal v) a).lines n level w) f.1
    (local-assigned context c.args.of v o level c.in_ok-above.above w a c.is_simple.result c.part_type.result
    (spot_of c.in_ok-x-in-Local.x) (spot_of c.in_ok-y-in-Local.y) up (c.is_simple.ensures context)
    (c.part_type.ensures context) c.in_ok-x-in-Local.ensures.adds c.in_ok-x-in-Local.ensures.spot
    c.in_ok-y-in-Local.ensures.adds c.in_ok-y-in-Local.ensures.spot added))) c.set_local.ensures

pub update-returns-in_ok-y-in-Object : goal.update-returns-in_ok-y-in-Object
update-returns-in_ok-y-in-Object t c = on_ok_weaker c.set_object.result (λ added. λ located s h.
    let context = context_of c.args.site.now in
    let w = wanted_of c.args.wanted in
    let level = c.args.level in
    let o = c.args.operator in
    let k = c.in-Object.k in
    let a = part_of context (expression_of c.args.e.now) in
    let f = found-object located a.simple level k (rw c.in-Object.is at h) in
    let up : c.in_ok-above.above ≡ suc level = omega (arith, c.in_ok-above.ensures) in
    subst (λ (l : Located). AddsPart (update_part context c.args.of o l a) level w s c.set_object.new.lines) (sym f.0)
    (after-nothing (λ n. (update_part context c.args.of o (AtObject k) a).lines n level w) f.1
    (object-updated context c.args.of k o level c.in_ok-above.above w a c.number_type-t.result
    c.part_type-in-Object.result (spot_of c.in_ok-x-in-Object.x) (spot_of c.in_ok-y-in-Object.y)
    c.number_type-t.ensures up (c.part_type-in-Object.ensures context) c.in_ok-object-in-Object.ensures
    c.in_ok-x-in-Object.ensures c.in_ok-y-in-Object.ensures.adds c.in_ok-y-in-Object.ensures.spot
    added))) c.set_object.ensures

pub emit-returns-in-Call : goal.emit-returns-in-Call
emit-returns-in-Call t c = search (rules, the_lemmas, row_is)

pub call-arguments-init : goal.call-arguments-init
call-arguments-init t c =
    let s = context_of c.args.site.now in
    let all = passed_from s (parameters_of (slice_get s.program.functions c.args.f)) c.args.arguments.now 0 in
    subst (λ (ws : List ℕ). IsPassing s all all c.args.level c.args.lines.now c.args.level c.args.lines.now ws)
    (sym c.new-words.ensures.items) (passing-none s all c.args.level c.args.lines.now)

pub call-arguments-preserved : goal.call-arguments-preserved
call-arguments-preserved t c =
    let s = context_of c.args.site.now in
    let ps = parameters_of (slice_get s.program.functions c.args.f) in
    let es = c.args.arguments.now in
    let i = c.arguments.place in
    let e = c.index-arguments-place.result in
    let p = c.parameter_type-parameter.result in
    let part = part_of s (expression_of e) in
    let a = passed_as s p part in
    let there : drop i es ≡ e ∷ drop (i + 1) es =
    drop_more es i e c.arguments-test.true
    ∙ ap (λ x. x ∷ drop (i + 1) es) (sym c.index-arguments-place.is) in
    let rest : passed_from s ps es i ≡ a ∷ passed_from s ps es (i + 1) =
    passed-there s ps es i e there
    ∙ ap (λ q. passed_as s q part ∷ passed_from s ps es (i + 1)) (sym c.parameter_type-parameter.ensures) in
    let words = c.in_ok-push_words.ensures ∙ ap (λ q. c.arguments.words.items ++ words_of q (spot_of c.in_ok-spot.spot))
    (c.passed_type.ensures ∙ ap (passed_type p) (c.part_type.ensures s) ∙ sym (passed-is s p part)) in
    passing-more s (passed_from s ps es 0) (passed_from s ps es (i + 1)) a c.all_simple-stays.result c.args.level
    c.arguments.own_level c.in_ok-own_level.own_level (spot_of c.in_ok-spot.spot) c.arguments.words.items
    c.push_words.new.words.items c.args.lines.now c.arguments.lines c.argument.new.lines
    (subst (λ (r : List Part). IsPassing s (passed_from s ps es 0) r c.args.level c.args.lines.now c.arguments.own_level
    c.arguments.lines c.arguments.words.items) rest c.arguments.invariant)
    c.all_simple-stays.ensures c.in_ok-spot.ensures.adds c.in_ok-spot.ensures.spot words c.in_ok-own_level.ensures

pub call-returns : goal.call-returns
call-returns t c =
    let s = context_of c.args.site.now in
    let ps = parameters_of (slice_get s.program.functions c.args.f) in
    let es = c.args.arguments.now in
    let past = passed-past s ps es c.arguments.place (drop_all c.arguments.place es c.arguments-test.false) in
    on_ok_weaker c.call_made.result (λ added. passing-all s c.args.of c.args.f (passed_from s ps es 0) c.args.level
    c.arguments.own_level (wanted_of c.args.wanted) c.arguments.words.items c.args.lines.now c.arguments.lines
    c.call_made.new.lines
    (subst (λ (r : List Part). IsPassing s (passed_from s ps es 0) r c.args.level c.args.lines.now c.arguments.own_level
    c.arguments.lines c.arguments.words.items) past c.arguments.invariant)
    (subst (λ (ws : List ℕ). Adds c.arguments.lines c.call_made.new.lines 0 (result_lines s c.arguments.lines.next
    c.args.level (wanted_of c.args.wanted) c.args.of c.args.f ws)) c.new-passed.ensures added)) c.call_made.ensures
