-- The lines of loops.
use Rattle.std.proofs.Common.{◌≡◌, ℕ, suc, ◌≤◌, ◌+◌, Bool, true, false, List, [], ◌∷◌, ◌++◌, sym}
use Rattle.std.proofs.Common.{◌∙◌, subst, arith, append_assoc, append-nil, Option, Some, None}
use Rattle.std.specs.Prelude.{max, IfSome}
use Rattle.std.specs.List.{Contains}
use Rattle.pcc_base.specs.Outcome.{Outcome}
use Rattle.c_eval_laws.proofs.Keeping.{do-keeps, loop-keeps, same-keeps}
use Rattle.c_tree.specs.Evaluation.{Left, Falls, Runs, do_loop, evaluate}
use Rattle.c_tree.specs.Evaluation.{evaluated_if_any, loop, tested, tested_if_any}
use Rattle.c_tree.specs.Operators.{is_true}
use Rattle.c_tree.specs.Program.{Expression, Function}
use Rattle.c_tree.specs.Store as source
use Rattle.c_tree.specs.Store.{Evaluated, Gives, Ends, Held, and_then, visited}
use Rattle.flow_graph.specs.declared.op.Op.TheVariants as op
use Rattle.flow_graph.specs.States as graph
use Rattle.lower_lines.specs.Expressions.{part_of}
use Rattle.lower_lines.specs.Following.{Begins, Comes, IsSite, LowersRun, MayGo, Site, Stand, at_start}
use Rattle.lower_lines.specs.Following.{behind, context_of, site_lines}
use Rattle.lower_lines.specs.Lines.{Line, Emit, Start, starts_in}
use Rattle.lower_lines.specs.Parts.{Dropped, Tests}
use Rattle.lower_lines.specs.Statements.{After, To, Exits, Run, after_lines, continue_block, dropped_lines, exit_blocks}
use Rattle.lower_lines.specs.Statements.{exit_lines, exit_of, first_blocks, first_levels, first_lines, levels_if_any}
use Rattle.lower_lines.specs.Statements.{loop_levels, loop_lines, test_blocks_if_any, test_if_any}
use Rattle.lower_lines.specs.Variables.{levels_of}
use Rattle.lower_laws.proofs.Going.{stand-back, stand-front}
use Rattle.lower_laws.proofs.Loops.{Tested, do-goes, loop-goes}
use Rattle.lower_laws.proofs.Onward.{exit-there, exits-from, jump-goes, line-there, start-goes}
use Rattle.lower_laws.proofs.Straight.{behind-mark, left-same}
use Rattle.lower_laws.proofs.Visits.{visited-begins}
use Rattle.lower_laws.proofs.Ways.{Chosen, from-aim, from-both, from-goes, from-here, from-made}
use Rattle.lower_laws.proofs.Ways.{of-dropped, of-run, of-tested, to-run}
use Rattle.lower_laws.specs.Laws.{AfterLowers, DosLower, ForsLower, TestLowers, WhilesLower}
use Rattle.lower_laws.specs.Ways.{Behind, From, Keeping, LeftBy}

-- ---- tests, and what comes after the body

test-goes : (S : Site) → IsSite S → (active : List Function) (before rest : List Line) (block body exit : ℕ)
    (test : Option Expression) → IfSome test (TestLowers S)
    → Stand S before (test_if_any (context_of S) test block body exit ++ rest)
    → levels_if_any (context_of S) test ≤ levels_of S.function → Contains (starts_in (site_lines S)) exit
    → (s : source.State) (g : graph.State) → Begins S active s g
    → From S active 0 (behind before g) s g
    (Tested S (before ++ test_if_any (context_of S) test block body exit) exit) (tested_if_any S.calls test s)
test-goes S site active before rest block body exit None lowers stands room there s g b =
    from-here S active 0 (behind before g) s g (Tested S (before ++ []) exit) true b.shows
    (λ o r. subst (λ (ls : List Line). Comes S s.turns (behind ls g) o) (append-nil before) r)
test-goes S site active before rest block body exit (Some e) lowers stands room there s g b =
    let tests = (part_of (context_of S) e).lines block 0 (Tests body exit) in
    let start = Start body ∷ [] in
    let split = subst (λ (ls : List Line). Stand S before ls) (append_assoc tests start rest) stands in
    let back = stand-back S before tests (start ++ rest) split in
    from-aim S active 0 (behind before g) s g (Chosen S body exit) (Tested S (before ++ (tests ++ start)) exit)
    (tested S.calls e s) b
    (λ holds t h o own k. lead holds t h o own tests back k)
    (of-tested S active before tests 0 body exit (part_of (context_of S) e).of s g (evaluate S.calls e s)
    (lowers.1.follows active block 0 (Tests body exit) before s g (stand-front S before tests (start ++ rest) split)
    (plain (part_of (context_of S) e).levels (levels_of S.function) room)
    (lowers.0, line-there S (before ++ tests) rest body back, there) b))
  where
    plain : (a b : ℕ) → a ≤ b → 0 + a ≤ b
    plain a b h = omega (arith, h)

    lead : (holds : Bool) (t : source.State) (h : graph.State) (o : Outcome) → h.current.function ≡ S.number
        → (tests : List Line) → Stand S (before ++ tests) (Start body ∷ rest)
        → Tested S (before ++ (tests ++ Start body ∷ [])) exit holds t h o → Chosen S body exit holds t h o
    lead false t h o own tests back k = k
    lead true t h o own tests back k =
        start-goes S site (before ++ tests) rest body h t.turns o own back
        (subst (λ (ls : List Line). Comes S t.turns (behind ls h) o) (sym (append_assoc before tests (Start body ∷
        []))) k)

again-there : (S : Site) (before rest : List Line) (start block : ℕ) (after : Option Expression)
    → Stand S before (after_lines (context_of S) after start block ++ rest) → Contains (starts_in (site_lines S)) start
    → Contains (starts_in (site_lines S)) (continue_block after start block)
again-there S before rest start block None stands there = there
again-there S before rest start block (Some e) stands there = line-there S before _ block stands

after-goes : (S : Site) → IsSite S → (active : List Function) (before rest : List Line) (start block : ℕ)
    (after : Option Expression) → IfSome after (AfterLowers S)
    → Stand S before (after_lines (context_of S) after start block ++ rest)
    → levels_if_any (context_of S) after ≤ levels_of S.function → Contains (starts_in (site_lines S)) start
    → Keeping S (evaluated_if_any S.calls after)
    → (s : source.State) (g : graph.State) → Begins S active s g
    → From S active 0 (at_start S (continue_block after start block) g) s g
    (λ (left : Left) (t : source.State) (h : graph.State) (o : Outcome). Comes S t.turns (at_start S start h) o)
    (evaluated_if_any S.calls after s)
after-goes S site active before rest start block None lowers stands room there keeping s g b =
    from-here S active 0 (at_start S start g) s g
    (λ (left : Left) (t : source.State) (h : graph.State) (o : Outcome). Comes S t.turns (at_start S start h) o) Falls
    b.shows (λ o r. r)
after-goes S site active before rest start block (Some e) lowers stands room there keeping s g b =
    let dropped = dropped_lines (context_of S) e (suc block) in
    let jump = Emit (op.Jump start) in
    let front = before ++ Start block ∷ [] in
    let split = subst (λ (ls : List Line). Stand S before (Start block ∷ ls)) (append_assoc dropped (jump ∷ []) rest)
    stands in
    let inside = stand-back S before (Start block ∷ []) (dropped ++ (jump ∷ rest)) split in
    from-goes S active 0 (at_start S block g) (behind front g) s g
    (λ (left : Left) (t : source.State) (h : graph.State) (o : Outcome). Comes S t.turns (at_start S start h) o)
    (evaluated_if_any S.calls (Some e) s)
    (λ o r. start-goes S site before (dropped ++ (jump ∷ rest)) block g s.turns o b.function split r)
    (from-made S active 0 (behind front g) s g
    (λ (v : Held) (t : source.State) (h : graph.State) (o : Outcome). Comes S t.turns (at_start S start h) o)
    (λ (left : Left) (t : source.State) (h : graph.State) (o : Outcome). Comes S t.turns (at_start S start h) o)
    (λ v. Falls) (evaluate S.calls e s) (λ v t h o k. k)
    (from-aim S active 0 (behind front g) s g (Behind S (front ++ dropped))
    (λ (v : Held) (t : source.State) (h : graph.State) (o : Outcome). Comes S t.turns (at_start S start h) o)
    (evaluate S.calls e s) b
    (λ v t h o own k. jump-goes S site (front ++ dropped) rest start h t.turns o own
    (stand-back S front dropped (jump ∷ rest) inside) there k)
    (of-dropped S active front dropped 0 (part_of (context_of S) e).of s g (evaluate S.calls e s)
    (lowers.follows active (suc block) 0 Dropped front s g (stand-front S front dropped (jump ∷ rest) inside)
    (plain (part_of (context_of S) e).levels (levels_of S.function) room) tt b))))
  where
    plain : (a b : ℕ) → a ≤ b → 0 + a ≤ b
    plain a b h = omega (arith, h)

-- ---- a `while` or `for`, behind what comes first

pub loop-lines-go : (S : Site) → IsSite S → (bound : ℕ) (test after : Option Expression) (body : Run) (run : Runs)
    → S.bound ≤ bound → IfSome test (TestLowers S) → Keeping S (tested_if_any S.calls test)
    → IfSome after (AfterLowers S) → Keeping S (evaluated_if_any S.calls after) → LowersRun S true true body run
    → Keeping S run → (active : List Function) (exits : Exits) (block : ℕ) (leave : After) (before : List Line)
    (s : source.State) (g : graph.State)
    → Stand S before (loop_lines (context_of S) test after body block leave)
    → loop_levels (context_of S) test after body ≤ levels_of S.function → MayGo S leave → Begins S active s g
    → From S active 0 (behind before g) s g
    (LeftBy S (before ++ loop_lines (context_of S) test after body block leave) exits leave)
    (loop bound (tested_if_any S.calls test) run (evaluated_if_any S.calls after) s)
loop-lines-go S site bound test after body run high lowers_test keeps_test lowers_after keeps_after lowers keeps active
    exits block leave before s g stands room may b =
    let c = context_of S in
    let exit = exit_of block leave in
    let start = block + exit_blocks leave in
    let inside = suc start + test_blocks_if_any c test in
    let end = inside + body.blocks (To 0) in
    let again = continue_block after start end in
    let jump = Emit (op.Jump start) ∷ [] in
    let turn = Emit op.Turn ∷ [] in
    let tests = test_if_any c test (start + 2) (suc start) exit in
    let lines = body.lines (record { breaks = exit; continues = again }) inside (To again) in
    let afters = after_lines c after start end in
    let last = exit_lines c block leave in
    let r3 = afters ++ last in
    let r2 = lines ++ r3 in
    let r1 = tests ++ r2 in
    let p0 = before ++ jump in
    let pS = p0 ++ Start start ∷ [] in
    let pT = pS ++ turn in
    let pB = pT ++ tests in
    let pA = pB ++ lines in
    let pX = pA ++ afters in
    let s0 = stand-back S before jump (Start start ∷ (Emit op.Turn ∷ r1)) stands in
    let sS = stand-back S p0 (Start start ∷ []) (Emit op.Turn ∷ r1) s0 in
    let sT = stand-back S pS turn r1 sS in
    let sB = stand-back S pT tests r2 sT in
    let sA = stand-back S pB lines r3 sB in
    let sX = stand-back S pA afters last sA in
    let whole : pX ++ last ≡ before ++ (Emit (op.Jump start) ∷ (Start start ∷ (Emit op.Turn ∷ r1))) =
    append_assoc pA afters last ∙ append_assoc pB lines r3 ∙ append_assoc pT tests r2 ∙ append_assoc pS turn r1
    ∙ append_assoc p0 (Start start ∷ []) (Emit op.Turn ∷ r1)
    ∙ append_assoc before jump (Start start ∷ (Emit op.Turn ∷ r1)) in
    let there_exit = exit-there S block leave pX sX may in
    let there_start = line-there S p0 (Emit op.Turn ∷ r1) start s0 in
    let there_again = again-there S pA last start end after sA there_start in
    let r = loop bound (tested_if_any S.calls test) run (evaluated_if_any S.calls after) s in
    left-same S active (pX ++ last) (before ++ (Emit (op.Jump start) ∷ (Start start ∷ (Emit op.Turn ∷ r1)))) exits leave
    (behind before g) s g r whole
    (from-goes S active 0 (behind before g) (at_start S start g) s g (LeftBy S (pX ++ last) exits leave) r
    (λ o k. jump-goes S site before (Start start ∷ (Emit op.Turn ∷ r1)) start g s.turns o b.function stands
    there_start k)
    (exits-from S site block leave active pX pX exits (at_start S start g) s g r b
    (loop-keeps bound S.bound (tested_if_any S.calls test) run (evaluated_if_any S.calls after) high keeps_test keeps
    keeps_after s).after.turns sX may
    (loop-goes S site active start again exit bound p0 r1 pB pA pX exits (tested_if_any S.calls test) run
    (evaluated_if_any S.calls after) s0 high keeps_test keeps keeps_after
    (λ t h bt. test-goes S site active pT r2 (start + 2) (suc start) exit test lowers_test sT
    (most_test body.levels (levels_if_any c test) (levels_if_any c after) (levels_of S.function) room) there_exit t h
    bt)
    (λ t h bt. of-run S active pB lines (record { breaks = exit; continues = again }) (To again) t h (run t)
    (lowers.follows active (record { breaks = exit; continues = again }) inside (To again) pB t h
    (stand-front S pB lines r3 sB)
    (most_body body.levels (levels_if_any c test) (levels_if_any c after) (levels_of S.function) room)
    (record { break_goes = λ e. there_exit; continue_goes = λ e. there_again }) there_again bt))
    (λ t h bt. after-goes S site active pA last start end after lowers_after sA
    (most_after body.levels (levels_if_any c test) (levels_if_any c after) (levels_of S.function) room) there_start
    keeps_after t h bt) s g b)))
  where
    most_body : (x y z n : ℕ) → max x (max y z) ≤ n → x ≤ n
    most_body x y z n h = omega (arith, h)

    most_test : (x y z n : ℕ) → max x (max y z) ≤ n → y ≤ n
    most_test x y z n h = omega (arith, h)

    most_after : (x y z n : ℕ) → max x (max y z) ≤ n → z ≤ n
    most_after x y z n h = omega (arith, h)

falls-keeping : (S : Site) → Keeping S (λ (t : source.State). Gives Falls t)
falls-keeping S t = same-keeps S.bound t Falls

pub whiles-lower : WhilesLower
whiles-lower S site breaks continues n bound e body run own high lowers_test keeps_test lowers keeps = record {
  follows = λ active exits block leave before s g stands room exit may b.
      let lines = loop_lines (context_of S) (Some e) None body block leave in
      let mark = Emit (op.Mark n) in
      let v = visited S.listing n s in
      let r = loop bound (tested S.calls e) run (λ t. Gives Falls t) v in
      to-run S active before (mark ∷ lines) exits leave s g r
      (behind-mark S site n own active before lines s g (LeftBy S (before ++ (mark ∷ lines)) exits leave) r b stands
      (left-same S active ((before ++ mark ∷ []) ++ lines) (before ++ (mark ∷ lines)) exits leave
      (behind (before ++ mark ∷ []) g) v g r (append_assoc before (mark ∷ []) lines)
      (loop-lines-go S site bound (Some e) None body run high lowers_test keeps_test tt (falls-keeping S) lowers keeps
      active exits block leave (before ++ mark ∷ []) v g (stand-back S before (mark ∷ []) lines stands) room may
      (visited-begins S n active s g b))));
}

pub fors-lower : ForsLower
fors-lower S site breaks continues n bound first test after body begin run own high lowers_first keeps_first
    lowers_test keeps_test lowers_after keeps_after lowers keeps = record {
      follows = λ active exits block leave before s g stands room exit may b.
          let c = context_of S in
          let firsts = first_lines c first block in
          let lines = loop_lines c test after body (block + first_blocks c first) leave in
          let mark = Emit (op.Mark n) in
          let v = visited S.listing n s in
          let front = before ++ mark ∷ [] in
          let again : Left → Runs = λ done t. loop bound (tested_if_any S.calls test) run (evaluated_if_any S.calls
          after) t in
          let r = and_then (begin v) again in
          let inside = stand-back S before (mark ∷ []) (firsts ++ lines) stands in
          to-run S active before (mark ∷ (firsts ++ lines)) exits leave s g r
          (behind-mark S site n own active before (firsts ++ lines) s g
          (LeftBy S (before ++ (mark ∷ (firsts ++ lines))) exits leave) r b stands
          (left-same S active ((front ++ firsts) ++ lines) (before ++ (mark ∷ (firsts ++ lines))) exits leave
          (behind front g) v g r
          (append_assoc front firsts lines ∙ append_assoc before (mark ∷ []) (firsts ++ lines))
          (from-both S active 0 (behind front g) v g (Behind S (front ++ firsts))
          (LeftBy S ((front ++ firsts) ++ lines) exits leave) (begin v) again (visited-begins S n active s g b)
          (keeps_first v).after.turns
          (lowers_first.follows active block front v g (stand-front S front firsts lines inside)
          (most_first (first_levels c first) (loop_levels c test after body) (levels_of S.function) room)
          (visited-begins S n active s g b))
          (λ done t h bt kept. (
            behind (front ++ firsts) h,
            λ o k. k,
            loop-lines-go S site bound test after body run high lowers_test keeps_test lowers_after keeps_after lowers
                keeps
                active exits (block + first_blocks c first) leave (front ++ firsts) t h
                (stand-back S front firsts lines inside)
                (most_loop (first_levels c first) (loop_levels c test after body) (levels_of S.function) room) may bt,
          )))));
    }
  where
    most_first : (a b n : ℕ) → max a b ≤ n → a ≤ n
    most_first a b n h = omega (arith, h)

    most_loop : (a b n : ℕ) → max a b ≤ n → b ≤ n
    most_loop a b n h = omega (arith, h)

pub dos-lower : DosLower
dos-lower S site breaks continues n bound e body test run own high value lowers_test keeps_test lowers keeps = record {
  follows = λ active exits block leave before s g stands room may_exit may b.
      let c = context_of S in
      let exit = exit_of block leave in
      let start = block + exit_blocks leave in
      let inside = start + 2 in
      let mark = Emit (op.Mark n) ∷ [] in
      let jump = Emit (op.Jump start) ∷ [] in
      let turn = Emit op.Turn ∷ [] in
      let lines = body.lines (record { breaks = exit; continues = suc start }) inside (To (suc start)) in
      let tests = e.lines (inside + body.blocks (To 0)) 0 (Tests start exit) in
      let last = exit_lines c block leave in
      let r2 = Start (suc start) ∷ (tests ++ last) in
      let r1 = lines ++ r2 in
      let r0 = Start start ∷ (Emit op.Turn ∷ r1) in
      let pM = before ++ mark in
      let p0 = pM ++ jump in
      let pS = p0 ++ Start start ∷ [] in
      let pT = pS ++ turn in
      let pB = pT ++ lines in
      let pA = pB ++ Start (suc start) ∷ [] in
      let pX = pA ++ tests in
      let sM = stand-back S before mark (jump ++ r0) stands in
      let s0 = stand-back S pM jump r0 sM in
      let sS = stand-back S p0 (Start start ∷ []) (Emit op.Turn ∷ r1) s0 in
      let sT = stand-back S pS turn r1 sS in
      let sB = stand-back S pT lines r2 sT in
      let sA = stand-back S pB (Start (suc start) ∷ []) (tests ++ last) sB in
      let sX = stand-back S pA tests last sA in
      let whole : pX ++ last ≡ before ++ (mark ++ (jump ++ r0)) =
      append_assoc pA tests last ∙ append_assoc pB (Start (suc start) ∷ []) (tests ++ last) ∙ append_assoc pT lines r2
      ∙ append_assoc pS turn r1 ∙ append_assoc p0 (Start start ∷ []) (Emit op.Turn ∷ r1) ∙ append_assoc pM jump r0
      ∙ append_assoc before mark (jump ++ r0) in
      let there_exit = exit-there S block leave pX sX may in
      let there_start = line-there S p0 (Emit op.Turn ∷ r1) start s0 in
      let there_again = line-there S pB (tests ++ last) (suc start) sB in
      let tested : source.State → Evaluated Bool = λ t. and_then (test t) (λ v u. Gives (is_true v) u) in
      let v = visited S.listing n s in
      let r = do_loop bound tested run v in
      let bv = visited-begins S n active s g b in
      to-run S active before (mark ++ (jump ++ r0)) exits leave s g r
      (behind-mark S site n own active before (jump ++ r0) s g (LeftBy S (before ++ (mark ++ (jump ++ r0))) exits
      leave) r b
      stands
      (left-same S active (pX ++ last) (before ++ (mark ++ (jump ++ r0))) exits leave (behind pM g) v g r whole
      (from-goes S active 0 (behind pM g) (at_start S start g) v g (LeftBy S (pX ++ last) exits leave) r
      (λ o k. jump-goes S site pM r0 start g v.turns o bv.function sM there_start k)
      (exits-from S site block leave active pX pX exits (at_start S start g) v g r bv
      (do-keeps bound S.bound tested run high keeps_test keeps v).after.turns sX may
      (do-goes S site active start (suc start) exit bound p0 r1 pB pX exits tested run s0 high keeps_test keeps
      (falls-keeping S)
      (λ t h bt. of-run S active pT lines (record { breaks = exit; continues = suc start }) (To (suc start)) t h (run t)
      (lowers.follows active (record { breaks = exit; continues = suc start }) inside (To (suc start)) pT t h
      (stand-front S pT lines r2 sT) (most_body body.levels e.levels (levels_of S.function) room)
      (record { break_goes = λ q. there_exit; continue_goes = λ q. there_again }) there_again bt))
      (λ t h bt. from-goes S active 0 (at_start S (suc start) h) (behind pA h) t h (Chosen S start exit) (tested t)
      (λ o k. start-goes S site pB (tests ++ last) (suc start) h t.turns o bt.function sB k)
      (of-tested S active pA tests 0 start exit e.of t h (test t)
      (lowers_test.follows active (inside + body.blocks (To 0)) 0 (Tests start exit) pA t h
      (stand-front S pA tests last sA) (most_test body.levels e.levels (levels_of S.function) room)
      (value, there_start, there_exit) bt))) v g bv)))));
}
  where
    most_body : (a b n : ℕ) → max a b ≤ n → a ≤ n
    most_body a b n h = omega (arith, h)

    most_test : (a b n : ℕ) → max a b ≤ n → 0 + b ≤ n
    most_test a b n h = omega (arith, h)
