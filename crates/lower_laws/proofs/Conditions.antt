-- `if`: the test leads to the block of one way or the other, and both to the block behind the statement.
use Rattle.std.proofs.Common.{◌≡◌, ℕ, suc, ◌≤◌, ◌+◌, Bool, true, false, List, [], ◌∷◌, ◌++◌, refl, sym, ◌∙◌}
use Rattle.std.proofs.Common.{subst, arith, append_assoc}
use Rattle.std.specs.Prelude.{max, if◌then◌else◌}
use Rattle.std.specs.List.{Contains}
use Rattle.c_eval_laws.specs.Bounds.{state_of}
use Rattle.c_tree.specs.Evaluation.{Left, Falls, Runs}
use Rattle.c_tree.specs.Operators.{is_true}
use Rattle.c_tree.specs.Program.{Function}
use Rattle.c_tree.specs.Store as source
use Rattle.c_tree.specs.Store.{Evaluated, Gives, Ends, Held, and_then, visited}
use Rattle.flow_graph.specs.declared.op.Op.TheVariants as op
use Rattle.flow_graph.specs.States as graph
use Rattle.lower_lines.specs.Expressions.{test_blocks_of}
use Rattle.lower_lines.specs.Following.{Begins, IsSite, LowersRun, MayExit, MayGo, Site, Stand, at_start}
use Rattle.lower_lines.specs.Following.{behind, context_of, site_lines}
use Rattle.lower_lines.specs.Lines.{Line, Emit, Start, starts_in}
use Rattle.lower_lines.specs.Parts.{Tests}
use Rattle.lower_lines.specs.Statements.{After, To, Exits, Run, exit_blocks, exit_lines, exit_of, second_block}
use Rattle.lower_lines.specs.Statements.{second_lines}
use Rattle.lower_lines.specs.Variables.{levels_of}
use Rattle.lower_laws.proofs.Going.{stand-back, stand-front}
use Rattle.lower_laws.proofs.Onward.{exit-goes, exit-there, exits-from, line-there, start-goes}
use Rattle.lower_laws.proofs.Straight.{behind-mark, left-same}
use Rattle.lower_laws.proofs.Visits.{visited-begins}
use Rattle.lower_laws.proofs.Ways.{Chosen, from-both, from-goes, of-run, of-tested, to-run}
use Rattle.lower_laws.specs.Laws.{ConditionsLower}
use Rattle.lower_laws.specs.Ways.{From, Keeping, LeftBy}

-- what an expression that is tested comes to
pub test-keeps : (r : Evaluated Held) (n : ℕ) → (state_of r).turns ≤ n
    → (state_of (and_then r (λ v t. Gives (is_true v) t))).turns ≤ n
test-keeps (Gives v t) n le = le
test-keeps (Ends end t) n le = le

-- a statement that has a block of its own, and goes to the one behind
pub way-goes : (S : Site) → IsSite S → (breaks continues : Bool) (active : List Function) (r : Run) (run : Runs)
    → LowersRun S breaks continues r run → Keeping S run → (start inside block : ℕ) (after : After)
    (before rest last : List Line) (exits : Exits) (s : source.State) (g : graph.State)
    → Stand S before (Start start ∷ (r.lines exits inside (To (exit_of block after)) ++ rest))
    → Stand S last (exit_lines (context_of S) block after) → r.levels ≤ levels_of S.function
    → MayExit S breaks continues exits → MayGo S after → Begins S active s g
    → From S active 0 (at_start S start g) s g (LeftBy S (last ++ exit_lines (context_of S) block after) exits after)
    (run s)
way-goes S site breaks continues active r run lowers keeping start inside block after before rest last exits s g stands
    stands_exit room exit may b =
    let lines = r.lines exits inside (To (exit_of block after)) in
    let front = before ++ Start start ∷ [] in
    from-goes S active 0 (at_start S start g) (behind front g) s g
    (LeftBy S (last ++ exit_lines (context_of S) block after) exits after) (run s)
    (λ o k. start-goes S site before (lines ++ rest) start g s.turns o b.function stands k)
    (exits-from S site block after active last (front ++ lines) exits (behind front g) s g (run s) b
    (keeping s).after.turns stands_exit may
    (of-run S active front lines exits (To (exit_of block after)) s g (run s)
    (lowers.follows active exits inside (To (exit_of block after)) front s g
    (stand-front S front lines rest (stand-back S before (Start start ∷ []) (lines ++ rest) stands)) room exit
    (exit-there S block after last stands_exit may) b)))

-- the second way, which may have nothing
second-there : (S : Site) (nothing : Bool) (exit second : ℕ) (before lines rest : List Line)
    → Contains (starts_in (site_lines S)) exit → Stand S before (second_lines nothing second lines ++ rest)
    → Contains (starts_in (site_lines S)) (second_block nothing exit second)
second-there S true exit second before lines rest there stands = there
second-there S false exit second before lines rest there stands = line-there S before (lines ++ rest) second stands

second-goes : (S : Site) → IsSite S → (breaks continues : Bool) (active : List Function) (r : Run) (run : Runs)
    → LowersRun S breaks continues r run → Keeping S run → (nothing : Bool)
    → (nothing ≡ true → (s : source.State) → run s ≡ Gives Falls s) → (start inside block : ℕ) (after : After)
    (before last : List Line) (exits : Exits) (s : source.State) (g : graph.State)
    → Stand S before (second_lines nothing start (r.lines exits inside (To (exit_of block after)))
    ++ exit_lines (context_of S) block after)
    → Stand S last (exit_lines (context_of S) block after) → r.levels ≤ levels_of S.function
    → MayExit S breaks continues exits → MayGo S after → Begins S active s g
    → From S active 0 (at_start S (second_block nothing (exit_of block after) start) g) s g
    (LeftBy S (last ++ exit_lines (context_of S) block after) exits after) (run s)
second-goes S site breaks continues active r run lowers keeping true none start inside block after before last exits s g
    stands stands_exit room exit may b =
    subst (λ (q : Evaluated Left). From S active 0 (at_start S (exit_of block after) g) s g
    (LeftBy S (last ++ exit_lines (context_of S) block after) exits after) q) (sym (none refl s))
    (exit-goes S site block after active last exits s g b stands_exit may)
second-goes S site breaks continues active r run lowers keeping false none start inside block after before last exits s
    g stands stands_exit room exit may b =
    way-goes S site breaks continues active r run lowers keeping start inside block after before
    (exit_lines (context_of S) block after) last exits s g stands stands_exit room exit may b

-- one of two
either-way : (S : Site) (active : List Function) (holds fails : ℕ) (whole : List Line) (exits : Exits) (after : After)
    (t : source.State) (h : graph.State) (first second : Evaluated Left) (b : Bool)
    → From S active 0 (at_start S holds h) t h (LeftBy S whole exits after) first
    → From S active 0 (at_start S fails h) t h (LeftBy S whole exits after) second
    → From S active 0 (at_start S (if b then holds else fails) h) t h (LeftBy S whole exits after)
    (if b then first else second)
either-way S active holds fails whole exits after t h first second true one other = one
either-way S active holds fails whole exits after t h first second false one other = other

pub conditions-lower : ConditionsLower
conditions-lower S site breaks continues n e a b test first second own value lowers keeping lowers_a keeping_a lowers_b
    keeping_b none = record {
      follows = λ active exits block after before s g stands room exit may begins.
          let c = context_of S in
          let out = exit_of block after in
          let one = block + exit_blocks after in
          let two = suc one + test_blocks_of e + a.blocks (To 0) in
          let other = second_block b.nothing out two in
          let mark = Emit (op.Mark n) in
          let tests = e.lines (suc one) 0 (Tests one other) in
          let lines_a = a.lines exits (suc one + test_blocks_of e) (To out) in
          let lines_b = second_lines b.nothing two (b.lines exits (suc two) (To out)) in
          let exit_ls = exit_lines c block after in
          let rest_b = lines_b ++ exit_ls in
          let rest_a = Start one ∷ (lines_a ++ rest_b) in
          let p1 = before ++ mark ∷ [] in
          let p2 = p1 ++ tests in
          let p3 = p2 ++ Start one ∷ [] in
          let p4 = p3 ++ lines_a in
          let p5 = p4 ++ lines_b in
          let s1 = stand-back S before (mark ∷ []) (tests ++ rest_a) stands in
          let s2 = stand-back S p1 tests rest_a s1 in
          let s3 = stand-back S p2 (Start one ∷ []) (lines_a ++ rest_b) s2 in
          let s4 = stand-back S p3 lines_a rest_b s3 in
          let s5 = stand-back S p4 lines_b exit_ls s4 in
          let whole : p5 ++ exit_ls ≡ before ++ (mark ∷ (tests ++ rest_a)) =
          append_assoc p4 lines_b exit_ls ∙ append_assoc p3 lines_a rest_b
          ∙ append_assoc p2 (Start one ∷ []) (lines_a ++ rest_b) ∙ append_assoc p1 tests rest_a
          ∙ append_assoc before (mark ∷ []) (tests ++ rest_a) in
          let there = exit-there S block after p5 s5 may in
          let v = visited S.listing n s in
          let r = and_then (test v) (λ x t. Gives (is_true x) t) in
          let go : Bool → Runs = λ holds t. if holds then first t else second t in
          let bv = visited-begins S n active s g begins in
          to-run S active before (mark ∷ (tests ++ rest_a)) exits after s g (and_then r go)
          (behind-mark S site n own active before (tests ++ rest_a) s g
          (LeftBy S (before ++ (mark ∷ (tests ++ rest_a))) exits after) (and_then r go) begins stands
          (left-same S active (p5 ++ exit_ls) (before ++ (mark ∷ (tests ++ rest_a))) exits after (behind p1 g) v g
          (and_then r go) whole
          (from-both S active 0 (behind p1 g) v g (Chosen S one other) (LeftBy S (p5 ++ exit_ls) exits after) r go bv
          (test-keeps (test v) v.turns (keeping v).after.turns)
          (of-tested S active p1 tests 0 one other e.of v g (test v)
          (lowers.follows active (suc one) 0 (Tests one other) p1 v g (stand-front S p1 tests rest_a s1)
          (most e.levels a.levels b.levels (levels_of S.function) room) (
            value,
            line-there S p2 (lines_a ++ rest_b) one s2,
            second-there S b.nothing out two p4 (b.lines exits (suc two) (To out)) exit_ls there s4,
          ) bv))
          (λ holds t h bt keeps. (
            at_start S (if holds then one else other) h,
            λ o k. k,
            either-way S active one other (p5 ++ exit_ls) exits after t h (first t) (second t) holds
                (way-goes S site breaks continues active a first lowers_a keeping_a one (suc one + test_blocks_of e)
                block
                after p2 rest_b p5 exits t h s2 s5 (most_a e.levels a.levels b.levels (levels_of S.function) room)
                exit may
                bt)
                (second-goes S site breaks continues active b second lowers_b keeping_b b.nothing none two (suc two)
                block
                after p4 p5 exits t h s4 s5 (most_b e.levels a.levels b.levels (levels_of S.function) room) exit may
                bt),
          )))));
    }
  where
    most : (e a b n : ℕ) → max e (max a b) ≤ n → 0 + e ≤ n
    most e a b n h = omega (arith, h)

    most_a : (e a b n : ℕ) → max e (max a b) ≤ n → a ≤ n
    most_a e a b n h = omega (arith, h)

    most_b : (e a b n : ℕ) → max e (max a b) ≤ n → b ≤ n
    most_b e a b n h = omega (arith, h)
