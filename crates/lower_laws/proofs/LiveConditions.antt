-- Sets of the lines of `if`.
use Rattle.std.proofs.Common.{◌≡◌, ◌<◌, ℕ, suc, ◌+◌, Bool, true, false, List, [], ◌∷◌, ◌++◌, refl, ap, ◌∙◌, arith}
use Rattle.std.proofs.Common.{length, length-append}
use Rattle.std.specs.Prelude.{if◌then◌else◌}
use Rattle.flow_graph.specs.Graphs.{IsIn}
use Rattle.lower_lines.specs.Expressions.{test_blocks_of}
use Rattle.lower_lines.specs.Lines.{Line, Start}
use Rattle.lower_lines.specs.Parts.{Tests, Part}
use Rattle.lower_lines.specs.Statements.{To, Exits, Run, exit_blocks, exit_lines, exit_of, if_run, second_block}
use Rattle.lower_lines.specs.Statements.{second_blocks, second_lines}
use Rattle.lower_lines.specs.Variables.{Context, local_variables}
use Rattle.lower_laws.specs.Flows.{Within}
use Rattle.lower_laws.specs.Settled.{Agrees}
use Rattle.lower_laws.proofs.Compound.{test-settled}
use Rattle.lower_laws.proofs.Parts.{LivePart, Ready}
use Rattle.lower_laws.proofs.Sets.{F, block-is, flows-then, marks, starts}
use Rattle.lower_laws.proofs.Runs.{LinesLive, LiveRun, agrees-split, exit-flows, exit-size, exit-within, exit_sets}

module _ (c : Context) (D : List ℕ) (low-known : (v : ℕ) → IsIn v D → v < local_variables c.function) where
  pub ready : Ready c D low-known 0 D
  ready = record {
    known = λ v is. is;
    under = λ v is. let k = low-known v is in omega (arith, k);
  }

  pub run-to : (r : Run) → LiveRun c D D r → (exits : Exits) (block other : ℕ)
      → LinesLive c exits block (r.blocks (To 0)) (To other) D (r.lines exits block (To other)) D
  run-to r h exits block other =
      let s = h.settles exits block (To other) in
      record { sets = s.sets; size = s.size ∙ h.alike other; flows = s.flows }

  abbrev second_sets : Bool → List (List ℕ) → List (List ℕ)
  second_sets true sets = []
  second_sets false sets = D ∷ sets

  second-size : (t : Bool) (sets : List (List ℕ)) (n : ℕ) → length sets ≡ n
      → length (second_sets t sets) ≡ (if t then 0 else suc n)
  second-size true sets n e = refl
  second-size false sets n e = ap suc e

  second-within : (B : ℕ → List ℕ) (t : Bool) (exit second : ℕ) (sets : List (List ℕ))
      → Agrees B second (second_sets t sets) → Within (B exit) D → Within (B (second_block t exit second)) D
  second-within B true exit second sets a out = out
  second-within B false exit second sets a out = block-is c B second D a.0

  second-flows : (B : ℕ → List ℕ) (t : Bool) (second : ℕ) (sets : List (List ℕ)) (lines : List Line)
      → Agrees B second (second_sets t sets) → (Agrees B (suc second) sets → F c B D lines D)
      → F c B D (second_lines t second lines) D
  second-flows B true second sets lines a h = λ v is. is
  second-flows B false second sets lines a h = starts c B second D D D lines a.0 (h a.1)

  pub if-live : (n : ℕ) (e : Part) (a b : Run) → LivePart c D low-known e → LiveRun c D D a → LiveRun c D D b
      → LiveRun c D D (if_run c n e a b)
  if-live n e a b h ha hb = record {
    settles = λ exits block after.
        let exit = exit_of block after in
        let m = exit_blocks after in
        let first = block + m in
        let k = test_blocks_of e in
        let inside = suc first + k in
        let second = inside + a.blocks (To 0) in
        let other = second_block b.nothing exit second in
        let xs = exit_sets c after D in
        let s = test-settled c D low-known e h (suc first) 0 first other D ready in
        let t = run-to a ha exits inside exit in
        let u = run-to b hb exits (suc second) exit in
        let zs = second_sets b.nothing u.sets in
        let tests = e.lines (suc first) 0 (Tests first other) in
        let one = a.lines exits inside (To exit) in
        let two = second_lines b.nothing second (b.lines exits (suc second) (To exit)) in
        let last = exit_lines c block after in
        record {
          sets = xs ++ (D ∷ (s.sets ++ (t.sets ++ zs)));
          size =
              let i0 = length-append xs (D ∷ (s.sets ++ (t.sets ++ zs))) in
              let i1 = length-append s.sets (t.sets ++ zs) in
              let i2 = length-append t.sets zs in
              let e0 = exit-size c after D in
              let e1 = s.size in
              let e2 = t.size in
              let e3 : length zs ≡ second_blocks b = second-size b.nothing u.sets (b.blocks (To 0)) u.size in
              omega (arith, i0, i1, i2, e0, e1, e2, e3);
          flows = λ B all into go.
              let (f0, g0) = agrees-split B block m xs (D ∷ (s.sets ++ (t.sets ++ zs))) (exit-size c after D) all in
              let (f1, g1) = agrees-split B (suc first) k s.sets (t.sets ++ zs) s.size g0.1 in
              let (f2, g2) = agrees-split B inside (a.blocks (To 0)) t.sets zs t.size g1 in
              let out = exit-within c B block after D f0 go in
              marks c B n D D D (tests ++ (Start first ∷ (one ++ (two ++ last)))) (λ v is. is) low-known
              (flows-then c B D tests (Start first ∷ (one ++ (two ++ last))) D D
              (s.flows B f1 (block-is c B first D g0.0, second-within B b.nothing exit second u.sets g2 out))
              (starts c B first D D D (one ++ (two ++ last)) g0.0
              (flows-then c B D one (two ++ last) D D (t.flows B f2 into out)
              (flows-then c B D two last D D
              (second-flows B b.nothing second u.sets (b.lines exits (suc second) (To exit)) g2
              (λ agrees. u.flows B agrees into out)) (exit-flows c B block after D f0)))));
        };
    alike = λ other. refl;
    within = λ v is. is;
  }
