-- Each turn adds one piece at the end of those that stand.
use Rattle.std.proofs.lemmas.Grind.{common_steps}
use Rattle.std.proofs.Common.{◌≡◌, ◌++◌, arith, refl, length, inl, inr}
use Rattle.std.proofs.lemmas.Bool.Decides.{nat_tests}
use Rattle.std.proofs.lemmas.List.{nil_from_length}
use Rattle.std.proofs.lemmas.Result.{err_from_is_err_and}
use Rattle.c_lex.specs.Tokens.{place_after, tokens_of}
use Rattle.c_lex.specs.Scans.{piece_of}
use Rattle.c_lex.proofs.Leading.{Stands, stands_more, counted_more}
use Rattle.c_lex.proofs.lexer.lex.Goals as goal

pub returns-in_err-keep-clause-refused : goal.returns-in_err-keep-clause-refused
returns-in_err-keep-clause-refused c =
    let b = rw c.in-Some.is at c.in_ok-length.ensures in
    let p = err_from_is_err_and c.from_residual-in_err-keep.result c.from_residual-in_err-keep.ensures.1 in
    let s : Stands c.args.file c.args.text.now (c.loop-rest.tokens.items
    ++ tokens_of (piece_of c.in-Some.scanned) c.loop-rest.at) c.split_at.result.1.now
    (place_after c.loop-rest.at c.split_at.result.0.now) c.fresh_behind-fresh.result =
    stands_more _ _ _ _ _ _ _ _ _ _ _ _ _ c.loop-rest.invariant.stands b c.split_at.ensures.front
    c.split_at.ensures.back refl refl c.fresh_behind-fresh.ensures in
    rw (p.1, p.2) (elim c.in_err-keep.ensures.refused [
      | inl e ↦ rw e tt
      | inr l ↦ rw l.0 (refl, (_, (s.0, _, s.1), l.1))
    ])

pub returns-then-is_empty-clause-tokens : goal.returns-then-is_empty-clause-tokens
returns-then-is_empty-clause-tokens c =
    let b = rw c.in-Some.is at c.in_ok-length.ensures in
    let s : Stands c.args.file c.args.text.now c.keep.new.tokens.items c.split_at.result.1.now
    (place_after c.loop-rest.at c.split_at.result.0.now) c.fresh_behind-fresh.result =
    stands_more _ _ _ _ _ _ _ _ _ _ _ _ _ c.loop-rest.invariant.stands b c.split_at.ensures.front
    c.split_at.ensures.back c.in_ok-keep.ensures.kept refl c.fresh_behind-fresh.ensures in
    let e : length c.split_at.result.1.now ≡ 0 =
    grind (arith, nat_tests, c.is_empty-in-loop-rest.ensures, c.if-is_empty.true) in
    (s.0, _, s.1, nil_from_length _ e)

pub loop-rest-preserved : goal.loop-rest-preserved
loop-rest-preserved c =
    let b = rw c.in-Some.is at c.in_ok-length.ensures in
    record {
      stands = stands_more _ _ _ _ _ _ _ _ _ _ _ _ _ c.loop-rest.invariant.stands b c.split_at.ensures.front
          c.split_at.ensures.back c.in_ok-keep.ensures.kept c.advance-at.ensures.place c.fresh_behind-fresh.ensures;
      few = c.in_ok-keep.ensures.few;
      counted =
          counted_more _ _ _ _ _ _ _ _ c.in_ok-keep.ensures.kept c.split_at.ensures.back_len b.nonempty
          c.loop-rest.invariant.counted;
      line = omega arith;
      col = omega arith;
    }

pub returns-in_err-keep-clause-tokens : goal.returns-in_err-keep-clause-tokens
returns-in_err-keep-clause-tokens c = grind arith

pub returns-in_err-keep-clause-few : goal.returns-in_err-keep-clause-few
returns-in_err-keep-clause-few c = grind arith

pub returns-clause-tokens : goal.returns-clause-tokens
returns-clause-tokens c = grind (arith, common_steps)
