-- Trees, loops and calls over a bound above the turns come to what they do over the lowest such bound.
use Rattle.std.proofs.Common.{◌≡◌, ℕ, suc, ◌≤◌, ◌<◌, Option, Some, None, refl, ap, arith}
use Rattle.std.proofs.Common.{◌∙◌}
use Rattle.pcc_base.specs.Outcome.{Listing}
use Rattle.c_tree.specs.Evaluation.{Left, Falls, Breaks, Continues, Returns, Runs, after_body, call_within}
use Rattle.c_tree.specs.Evaluation.{do_loop, evaluated_if_any, execute, execute_from, loop, none_or_from, tested}
use Rattle.c_tree.specs.Evaluation.{tested_if_any, type_at}
use Rattle.c_tree.specs.Program.{Expression, Function, Program, Statement, Statements}
use Rattle.c_tree.specs.Store.{State, Evaluated, and_then}
use Rattle.c_eval_laws.specs.Bounds.{CallsKeep, Extending}
use Rattle.c_eval_laws.specs.Laws.{from_body, from_test, LoopKeeps, TreesAgree, TreesKeep, within}
use Rattle.c_eval_laws.proofs.Agreeing.{agree-both, both-agree, same-agree, trees_agree, trees_keep}
use Rattle.c_eval_laws.proofs.Calls.{call_bounds_agree, calls_keep}
use Rattle.c_eval_laws.proofs.Extending.{do-both, loop-both}
use Rattle.c_eval_laws.proofs.Keeping.{lower-keeps}
use Rattle.c_eval_laws.specs.Tasks.{calls_of, do_looped, do_looped_again, executed, executed_from, looped}
use Rattle.c_eval_laws.specs.Tasks.{looped_again, looped_if, setting_of}
use Rattle.c_eval_laws.proofs.Finishing.{either-same, then-under}

module _ (p : Program) (l : Listing) where
  -- calls keep what evaluations keep, whatever the bound
  pub calls-keep : (k : ℕ) → CallsKeep k (calls_of p l)
  calls-keep k f arguments s =
      let h = calls_keep p l (suc s.turns) f arguments s in
      record { after = h.after; gives = h.gives; goes = λ t e lt. h.goes t e (omega arith) }

  -- and so do trees
  pub trees-keep : (k : ℕ) → TreesKeep k (calls_of p l)
  trees-keep k = trees_keep k (calls_of p l) (calls-keep k)

  -- trees over two bounds
  trees-settle : (k : ℕ) → TreesAgree k (calls_of p l) (calls_of p l)
  trees-settle k = trees_agree k (calls_of p l) (calls_of p l) (calls-keep k) (calls-keep k) (λ f arguments s lt. refl)

  module _ (f : Function) where
    -- a statement
    pub statement-settles : (bound : ℕ) (x : Statement) (s : State) → s.turns < bound
        → execute (setting_of p l f bound) x s ≡ executed p l f x s
    statement-settles bound x s lt =
        (trees-settle (suc s.turns)).statements bound (suc s.turns) l (type_at f) f.result x s
        (omega (arith, lt)) (omega arith) (omega arith)

    -- statements
    pub statements-settle : (bound : ℕ) (xs : Statements) (place : ℕ) (s : State) → s.turns < bound
        → execute_from (setting_of p l f bound) xs place s ≡ executed_from p l f xs place s
    statements-settle bound xs place s lt =
        (trees-settle (suc s.turns)).bodies bound (suc s.turns) l (type_at f) f.result xs place s
        (omega (arith, lt)) (omega arith) (omega arith)

    -- statements from a place on, where there is one
    pub from-settles : (bound : ℕ) (place : Option ℕ) (xs : Statements) (s : State) → s.turns < bound
        → none_or_from place (execute_from (setting_of p l f bound) xs) s
        ≡ none_or_from place (executed_from p l f xs) s
    from-settles bound None xs s lt = refl
    from-settles bound (Some place) xs s lt = statements-settle bound xs place s lt

    -- the body of a function that is called
    pub body-settles : (bound : ℕ) (s : State) → s.turns < bound
        → execute_from (within (call_within bound p l) bound l (type_at f) f.result) f.body 0 s
        ≡ executed_from p l f f.body 0 s
    body-settles bound s lt =
        let trees : TreesAgree (suc s.turns) (call_within bound p l) (calls_of p l) =
        trees_agree (suc s.turns) (call_within bound p l) (calls_of p l)
        (λ g arguments t. lower-keeps (suc s.turns) bound (omega (arith, lt)) (calls_keep p l bound g arguments t))
        (calls-keep (suc s.turns))
        (λ g arguments t lt'.
        call_bounds_agree p l bound (suc t.turns) g arguments t (omega (arith, lt, lt')) (omega arith)) in
        trees.bodies bound (suc s.turns) l (type_at f) f.result f.body 0 s
        (omega (arith, lt)) (omega arith) (omega arith)

    -- ---- loops

    module _ (body : Statement) where
      -- the body of a loop over two bounds
      bodies-both : (k bound other : ℕ) → k ≤ bound → k ≤ other
          → Extending k 0 (execute (setting_of p l f bound) body) (execute (setting_of p l f other) body)
      bodies-both k bound other le le' = agree-both k (execute (setting_of p l f bound) body)
          (execute (setting_of p l f other) body)
          (λ s. (trees-keep k).statements bound l (type_at f) f.result body s le)
          (λ s. (trees-keep k).statements other l (type_at f) f.result body s le')
          (λ s lt. (trees-settle k).statements bound other l (type_at f) f.result body s le le' lt)

      -- a `while` or `for`
      pub loop-settles : (test after : Option Expression) (bound : ℕ) (s : State) → s.turns < bound
          → loop bound (tested_if_any (calls_of p l) test) (execute (setting_of p l f bound) body)
          (evaluated_if_any (calls_of p l) after) s ≡ looped p l f test after body s
      loop-settles test after bound s lt =
          let k : ℕ = suc s.turns in
          both-agree k (loop-both bound (suc s.turns) k 0 _ _ _ _ _ _ (omega (arith, lt)) (omega arith)
          (same-agree k ((trees-keep k).tests test))
          (bodies-both k bound (suc s.turns) (omega (arith, lt)) (omega arith))
          (same-agree k ((trees-keep k).steps after))) s (omega arith)

      -- a `do`
      pub do-settles : (test : Expression) (bound : ℕ) (s : State) → s.turns < bound
          → do_loop bound (tested (calls_of p l) test) (execute (setting_of p l f bound) body) s
          ≡ do_looped p l f body test s
      do-settles test bound s lt =
          let k : ℕ = suc s.turns in
          both-agree k (do-both bound (suc s.turns) k 0 _ _ _ _ (omega (arith, lt)) (omega arith)
          (same-agree k ((trees-keep k).tests (Some test)))
          (bodies-both k bound (suc s.turns) (omega (arith, lt)) (omega arith))) s (omega arith)

      -- what a loop needs to unfold
      pub loop-parts : (test after : Option Expression) (k : ℕ) → LoopKeeps k (tested_if_any (calls_of p l) test)
          (execute (setting_of p l f k) body) (evaluated_if_any (calls_of p l) after)
      loop-parts test after k = record {
        tests = (trees-keep k).tests test;
        bodies = λ s. (trees-keep k).statements k l (type_at f) f.result body s (omega arith);
        afters = (trees-keep k).steps after;
      }

      -- a loop from behind its body on
      again-settles : (test after : Option Expression) (bound : ℕ) (s : State) → s.turns < bound
          → and_then (evaluated_if_any (calls_of p l) after s) (λ left t.
          loop bound (tested_if_any (calls_of p l) test) (execute (setting_of p l f bound) body)
          (evaluated_if_any (calls_of p l) after) t) ≡ looped_again p l f test after body s
      again-settles test after bound s lt = then-under 0 s (evaluated_if_any (calls_of p l) after s) _ _
          ((trees-keep 0).steps after s) (λ left t le. loop-settles test after bound t (omega (arith, le, lt)))

      -- what comes behind a loop's body, where it goes on the same
      body-same : (next next' : Runs) (left : Left) (s : State) → next s ≡ next' s
          → after_body next left s ≡ after_body next' left s
      body-same next next' Falls s e = e
      body-same next next' Breaks s e = refl
      body-same next next' Continues s e = e
      body-same next next' (Returns value) s e = refl

      -- a statement of the body, and what comes behind it
      behind-body : (next next' : Runs) (bound : ℕ) (s : State) → s.turns < bound
          → ((t : State) → t.turns ≤ s.turns → next t ≡ next' t)
          → and_then (execute (setting_of p l f bound) body s) (after_body next)
          ≡ and_then (executed p l f body s) (after_body next')
      behind-body next next' bound s lt same =
          ap (λ (r : Evaluated Left). and_then r (after_body next)) (statement-settles bound body s lt)
          ∙ then-under 0 s (executed p l f body s) (after_body next) (after_body next')
          ((trees-keep 0).statements (suc s.turns) l (type_at f) f.result body s (omega arith))
          (λ left t le. body-same next next' left t (same t le))

      -- a loop from its test on
      pub test-settles : (test after : Option Expression) (bound : ℕ) (s : State) → s.turns < bound
          → from_test (tested_if_any (calls_of p l) test) (execute (setting_of p l f bound) body)
          (evaluated_if_any (calls_of p l) after) (loop bound (tested_if_any (calls_of p l) test)
          (execute (setting_of p l f bound) body) (evaluated_if_any (calls_of p l) after)) s
          ≡ and_then (tested_if_any (calls_of p l) test s) (looped_if p l f test after body)
      test-settles test after bound s lt = then-under 0 s (tested_if_any (calls_of p l) test s) _ _
          ((trees-keep 0).tests test s) (λ holds t le. either-same holds _ _ _ _
          (behind-body _ (looped_again p l f test after body) bound t (omega (arith, le, lt))
          (λ u le'. again-settles test after bound u (omega (arith, le, le', lt)))) refl)

      -- a `do` from its body on
      pub do-body-settles : (test : Expression) (bound : ℕ) (s : State) → s.turns < bound
          → from_body (tested (calls_of p l) test) (execute (setting_of p l f bound) body)
          (do_loop bound (tested (calls_of p l) test) (execute (setting_of p l f bound) body)) s
          ≡ and_then (executed p l f body s) (after_body (do_looped_again p l f body test))
      do-body-settles test bound s lt = behind-body _ (do_looped_again p l f body test) bound s lt
          (λ t le. then-under 0 t (tested (calls_of p l) test t) _ _ ((trees-keep 0).tests (Some test) t)
          (λ holds u le'. either-same holds _ _ _ _ (do-settles test bound u (omega (arith, le, le', lt))) refl))
