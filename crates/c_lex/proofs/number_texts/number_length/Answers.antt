use Rattle.std.proofs.Common.{◌≡◌, ◌∙◌, false, refl, sym, subst, get_or, length, ℕ, arith}
use Rattle.c_lex.proofs.NumberPieces.{goes, IsNumberStart, start_at_dot, start_at_digit, start_fits, count_stops}
use Rattle.c_lex.proofs.NumberPieces.{count_ends, number_text, number_longest}
use Rattle.c_lex.proofs.number_texts.number_length.Goals as goal
use Rattle.c_lex.proofs.number_texts.number_length.Goals.{then-rest-eq46, else-rest-eq46}

pub loop-i-init : goal.loop-i-init
loop-i-init c =
    let rest = c.args.rest.now in
    record {
      begun = elim c.if-rest-eq46.branch [
        | then-rest-eq46 w ↦
            subst (λ (n : ℕ). IsNumberStart rest n) (sym w.start-is) (start_at_dot rest c.requires w.if-rest-eq46.true)
        | else-rest-eq46 w ↦
            subst (λ (n : ℕ). IsNumberStart rest n) (sym w.start-is)
            (start_at_digit rest c.requires w.if-rest-eq46.false)
      ];
      count = refl;
    }

pub returns-then-not-goes_on-clause-text : goal.returns-then-not-goes_on-clause-text
returns-then-not-goes_on-clause-text c =
    let rest = c.args.rest.now in
    let known = c.loop-i.invariant in
    let stops : goes c.loop-i.before (get_or rest c.loop-i.i 0) ≡ false =
    sym c.goes_on.ensures ∙ c.if-not-goes_on.true in
    number_text rest c.if-rest-eq46.start c.loop-i.i known.begun
    (count_stops c.loop-i.before rest c.loop-i.i c.if-rest-eq46.start c.loop-i-test.true stops known.count)

pub returns-then-not-goes_on-clause-longest : goal.returns-then-not-goes_on-clause-longest
returns-then-not-goes_on-clause-longest c =
    let rest = c.args.rest.now in
    let known = c.loop-i.invariant in
    let stops : goes c.loop-i.before (get_or rest c.loop-i.i 0) ≡ false =
    sym c.goes_on.ensures ∙ c.if-not-goes_on.true in
    number_longest rest c.if-rest-eq46.start c.loop-i.i known.begun
    (count_stops c.loop-i.before rest c.loop-i.i c.if-rest-eq46.start c.loop-i-test.true stops known.count)

pub returns-clause-text : goal.returns-clause-text
returns-clause-text c =
    let rest = c.args.rest.now in
    let known = c.loop-i.invariant in
    let end : c.loop-i.i ≡ length rest =
    omega (arith, c.loop-i.auto.i-end (start_fits rest c.if-rest-eq46.start known.begun)) in
    number_text rest c.if-rest-eq46.start (length rest) known.begun
    (count_ends c.loop-i.before rest c.loop-i.i c.if-rest-eq46.start end known.count)
