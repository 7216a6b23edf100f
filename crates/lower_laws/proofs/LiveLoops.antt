-- Sets of the lines of loops.
use Rattle.std.proofs.Common.{◌≡◌, ◌<◌, ℕ, suc, ◌+◌, List, [], ◌∷◌, ◌++◌, Option, Some, None, refl, ap, arith}
use Rattle.std.proofs.Common.{length, length-append}
use Rattle.c_tree.specs.Program.{Expression, First}
use Rattle.flow_graph.specs.declared.op.Op.TheVariants as op
use Rattle.flow_graph.specs.Graphs.{IsIn}
use Rattle.lower_lines.specs.Expressions.{part_of}
use Rattle.lower_lines.specs.Lines.{Start, Emit}
use Rattle.lower_lines.specs.Parts.{Dropped, Tests, Part}
use Rattle.lower_lines.specs.Statements.{After, To, Exits, Run, after_blocks, after_lines, continue_block, do_run}
use Rattle.lower_lines.specs.Statements.{dropped_lines, exit_blocks, exit_lines, exit_of, first_blocks, first_lines}
use Rattle.lower_lines.specs.Statements.{for_run, loop_blocks, loop_lines, test_blocks_if_any, test_if_any, while_run}
use Rattle.lower_lines.specs.Variables.{Context, local_variables}
use Rattle.lower_laws.specs.Flows.{Within}
use Rattle.lower_laws.specs.Settled.{Agrees, Settled}
use Rattle.lower_laws.proofs.Compound.{test-settled}
use Rattle.lower_laws.proofs.Parts.{LivePart}
use Rattle.lower_laws.proofs.Sets.{F, agrees-at, block-is, ends, flows-then, keeps, last-less, marks, starts, way}
use Rattle.lower_laws.proofs.LiveConditions.{ready, run-to}
use Rattle.lower_laws.proofs.Runs.{LinesLive, LiveRun, agrees-split, exit-flows, exit-size, exit-within, exit_sets}
use Rattle.lower_laws.proofs.Runs.{exits-more, onward-more}

module _ (c : Context) (D : List ℕ) (low-known : (v : ℕ) → IsIn v D → v < local_variables c.function) where
  abbrev pub LiveAny : Option Expression → Type 0
  LiveAny None = Unit {0}
  LiveAny (Some e) = LivePart c D low-known (part_of c e)

  record TestLines (test : Option Expression) (start exit : ℕ) : Type 0 where
    pub sets : List (List ℕ)
    pub size : length sets ≡ test_blocks_if_any c test
    pub flows : (B : ℕ → List ℕ) → Agrees B (suc start) sets → Within (B exit) D
        → F c B D (test_if_any c test (start + 2) (suc start) exit) D

  test-lines : (test : Option Expression) → LiveAny test → (start exit : ℕ) → TestLines test start exit
  test-lines None h start exit = record { sets = []; size = refl; flows = λ B a out v is. is }
  test-lines (Some e) h start exit =
      let s = test-settled c D low-known (part_of c e) h (start + 2) 0 (suc start) exit D (ready c D low-known) in
      record {
        sets = D ∷ s.sets;
        size = ap suc s.size;
        flows = λ B a out.
            let lines = (part_of c e).lines (start + 2) 0 (Tests (suc start) exit) in
            flows-then c B D lines (Start (suc start) ∷ []) D D
            (s.flows B (agrees-at B s.sets (suc (suc start)) (start + 2) (omega arith) a.1)
            (block-is c B (suc start) D a.0, out)) (starts c B (suc start) D D D [] a.0 (λ v is. is));
      }

  record AfterLines (after : Option Expression) (start behind : ℕ) : Type 0 where
    pub sets : List (List ℕ)
    pub size : length sets ≡ after_blocks c after
    pub next : (B : ℕ → List ℕ) → Agrees B behind sets → Within (B start) D
        → Within (B (continue_block after start behind)) D
    pub flows : (B : ℕ → List ℕ) → Agrees B behind sets → Within (B start) D
        → F c B D (after_lines c after start behind) D

  then-jumps : (B : ℕ → List ℕ) (start : ℕ) → Within (B start) D → F c B D (Emit (op.Jump start) ∷ []) D
  then-jumps B start begin =
      ends c B (op.Jump start) D D D [] refl refl refl (λ v is. absurd is) (way c B start D begin) (λ v is. is)

  after-lines : (after : Option Expression) → LiveAny after → (start behind : ℕ) → AfterLines after start behind
  after-lines None h start behind = record {
    sets = [];
    size = refl;
    next = λ B a begin. begin;
    flows = λ B a begin v is. is;
  }
  after-lines (Some e) h start behind =
      let s = h.settles (suc behind) 0 Dropped D (ready c D low-known) tt in
      record {
        sets = D ∷ s.sets;
        size = ap suc s.size;
        next = λ B a begin. block-is c B behind D a.0;
        flows = λ B a begin.
            let lines = dropped_lines c e (suc behind) in
            starts c B behind D D D (lines ++ (Emit (op.Jump start) ∷ [])) a.0
            (flows-then c B D lines (Emit (op.Jump start) ∷ []) D D (s.flows B a.1 tt) (then-jumps B start begin));
      }

  pub loop-live : (test after : Option Expression) (body : Run) → LiveAny test → LiveAny after → LiveRun c D D body
      → (exits : Exits) (block : ℕ) (leave : After)
      → LinesLive c exits block (loop_blocks c test after body leave) leave D
      (loop_lines c test after body block leave) D
  loop-live test after body ht ha hb exits block leave =
      let exit = exit_of block leave in
      let m = exit_blocks leave in
      let start = block + m in
      let n = test_blocks_if_any c test in
      let inside = suc start + n in
      let behind = inside + body.blocks (To 0) in
      let again = continue_block after start behind in
      let inner : Exits = record { breaks = exit; continues = again } in
      let xs = exit_sets c leave D in
      let t = test-lines test ht start exit in
      let s = run-to c D low-known body hb inner inside again in
      let u = after-lines after ha start behind in
      let tests = test_if_any c test (start + 2) (suc start) exit in
      let one = body.lines inner inside (To again) in
      let two = after_lines c after start behind in
      let last = exit_lines c block leave in
      let rest = tests ++ (one ++ (two ++ last)) in
      record {
        sets = xs ++ (D ∷ (t.sets ++ (s.sets ++ u.sets)));
        size =
            let i0 = length-append xs (D ∷ (t.sets ++ (s.sets ++ u.sets))) in
            let i1 = length-append t.sets (s.sets ++ u.sets) in
            let i2 = length-append s.sets u.sets in
            let e0 = exit-size c leave D in
            let e1 = t.size in
            let e2 = s.size in
            let e3 = u.size in
            omega (arith, i0, i1, i2, e0, e1, e2, e3);
        flows = λ B all into go.
            let (f0, g0) = agrees-split B block m xs (D ∷ (t.sets ++ (s.sets ++ u.sets))) (exit-size c leave D) all in
            let (f1, g1) = agrees-split B (suc start) n t.sets (s.sets ++ u.sets) t.size g0.1 in
            let (f2, g2) = agrees-split B inside (body.blocks (To 0)) s.sets u.sets s.size g1 in
            let out = exit-within c B block leave D f0 go in
            let begin = block-is c B start D g0.0 in
            let next = u.next B g2 begin in
            ends c B (op.Jump start) D D D (Start start ∷ Emit op.Turn ∷ rest) refl refl refl (λ v is. absurd is)
            (way c B start D begin)
            (starts c B start D D D (Emit op.Turn ∷ rest) g0.0
            (keeps c B op.Turn D D rest (refl, refl, refl) (λ v is. absurd is)
            (flows-then c B D tests (one ++ (two ++ last)) D D (t.flows B f1 out)
            (flows-then c B D one (two ++ last) D D (s.flows B f2 (out, next) next)
            (flows-then c B D two last D D (u.flows B g2 begin) (exit-flows c B block leave D f0))))));
      }

  pub while-live : (n : ℕ) (e : Expression) (body : Run) → LivePart c D low-known (part_of c e) → LiveRun c D D body
      → LiveRun c D D (while_run c n e body)
  while-live n e body h hb = record {
    settles = λ exits block after.
        let k = loop-live (Some e) None body h tt hb exits block after in
        record {
          sets = k.sets;
          size = k.size;
          flows = λ B all into go. marks c B n D D D (loop_lines c (Some e) None body block after) (λ v is. is)
              low-known (k.flows B all into go);
        };
    alike = λ other. refl;
    within = λ v is. is;
  }

  pub do-live : (n : ℕ) (body : Run) (e : Part) → LiveRun c D D body → LivePart c D low-known e
      → LiveRun c D D (do_run c n body e)
  do-live n body e hb h = record {
    settles = λ exits block after.
        let exit = exit_of block after in
        let m = exit_blocks after in
        let start = block + m in
        let inside = start + 2 in
        let k = body.blocks (To 0) in
        let inner : Exits = record { breaks = exit; continues = suc start } in
        let xs = exit_sets c after D in
        let s = run-to c D low-known body hb inner inside (suc start) in
        let t = test-settled c D low-known e h (inside + k) 0 start exit D (ready c D low-known) in
        let one = body.lines inner inside (To (suc start)) in
        let tests = e.lines (inside + k) 0 (Tests start exit) in
        let last = exit_lines c block after in
        let rest = one ++ (Start (suc start) ∷ (tests ++ last)) in
        record {
          sets = xs ++ (D ∷ D ∷ (s.sets ++ t.sets));
          size =
              let i0 = length-append xs (D ∷ D ∷ (s.sets ++ t.sets)) in
              let i1 = length-append s.sets t.sets in
              let e0 = exit-size c after D in
              let e1 = s.size in
              let e2 = t.size in
              omega (arith, i0, i1, e0, e1, e2);
          flows = λ B all into go.
              let (f0, g0) = agrees-split B block m xs (D ∷ D ∷ (s.sets ++ t.sets)) (exit-size c after D) all in
              let (f1, g1) = agrees-split B inside k s.sets t.sets s.size
              (agrees-at B (s.sets ++ t.sets) (suc (suc start)) inside (omega arith) g0.1.1) in
              let out = exit-within c B block after D f0 go in
              let begin = block-is c B start D g0.0 in
              let next = block-is c B (suc start) D g0.1.0 in
              marks c B n D D D (Emit (op.Jump start) ∷ Start start ∷ Emit op.Turn ∷ rest) (λ v is. is) low-known
              (ends c B (op.Jump start) D D D (Start start ∷ Emit op.Turn ∷ rest) refl refl refl (λ v is. absurd is)
              (way c B start D begin)
              (starts c B start D D D (Emit op.Turn ∷ rest) g0.0
              (keeps c B op.Turn D D rest (refl, refl, refl) (λ v is. absurd is)
              (flows-then c B D one (Start (suc start) ∷ (tests ++ last)) D D (s.flows B f1 (out, next) next)
              (starts c B (suc start) D D D (tests ++ last) g0.1.0
              (flows-then c B D tests last D D (t.flows B g1 (begin, out)) (exit-flows c B block after D f0)))))));
        };
    alike = λ other. refl;
    within = λ v is. is;
  }

-- What is declared first in a `for` is gone behind it.
pub for-live : (c : Context) (D E : List ℕ) (low : (v : ℕ) → IsIn v D → v < local_variables c.function)
    (low' : (v : ℕ) → IsIn v E → v < local_variables c.function) → Within D E → (n : ℕ) (first : First)
    (test after : Option Expression) (body : Run)
    → ((block : ℕ) → Settled c block (first_blocks c first) Dropped D (first_lines c first block) E)
    → LiveAny c E low' test → LiveAny c E low' after → LiveRun c E E body
    → LiveRun c D D (for_run c n first test after body)
for-live c D E low low' w n first test after body hf ht ha hb = record {
  settles = λ exits block leave.
      let m = first_blocks c first in
      let s = hf block in
      let t = loop-live c E low' test after body ht ha hb exits (block + m) leave in
      let one = first_lines c first block in
      let loop' = loop_lines c test after body (block + m) leave in
      record {
        sets = s.sets ++ t.sets;
        size = let e = length-append s.sets t.sets in let e' = s.size in let f = t.size in omega (arith, e, e', f);
        flows = λ B all into go.
            let (front, back) = agrees-split B block m s.sets t.sets s.size all in
            marks c B n D D D (one ++ loop') (λ v is. is) low
            (flows-then c B D one loop' E D (s.flows B front tt)
            (last-less c B E loop' E D w
            (t.flows B back (exits-more c B exits D E w into) (onward-more c B leave D E w go))));
      };
  alike = λ other. refl;
  within = λ v is. is;
}
