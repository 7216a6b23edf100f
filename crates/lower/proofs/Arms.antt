-- What each arm of the walk over statements adds, from what the calls in it add.
use Rattle.std.proofs.Common.{◌≡◌, ℕ, suc, ◌+◌, List, [], ◌∷◌, ◌++◌, refl, sym, ◌∙◌, arith, subst}
use Rattle.std.proofs.Common.{append_assoc}
use Rattle.std.proofs.Common.{true, false, Option, Some, None}
use Rattle.std.specs.Prelude.{Bool}
use Rattle.c_tree.specs.Program.{Expression, First, Statement, If, While, Do, For}
use Rattle.flow_graph.specs.declared.op.Op.TheVariants as op
use Rattle.lower_builder.specs.Built.{Built, Adds}
use Rattle.lower.specs.StatementFronts.{for_front, if_front, tested_front, while_front}
use Rattle.lower.specs.LoopFronts.{do_end, do_front}
use Rattle.lower.specs.Walks.{AddsIf}
use Rattle.lower.proofs.Alike.{alike}
use Rattle.lower.proofs.Whole.{do-whole, if-none, if-some, loop-whole}
use Rattle.lower_lines.specs.Expressions.{part_of, test_blocks_of}
use Rattle.lower_lines.specs.Lines.{Line, Start, Emit}
use Rattle.lower_lines.specs.Statements.{After, To, Exits, after_blocks, after_lines, continue_block}
use Rattle.lower_lines.specs.Statements.{exit_blocks, exit_lines, exit_of, first_blocks}
use Rattle.lower_lines.specs.Statements.{first_lines}
use Rattle.lower_lines.specs.Statements.{loop_blocks, loop_lines, run_of}
use Rattle.lower_lines.specs.Statements.{test_blocks_if_any}
use Rattle.lower_lines.specs.Variables.{Context}
use Rattle.lower_builder.proofs.Joined.{nothing, two}
use Rattle.lower_expressions.proofs.Chained.{next-to}

-- the flag of before, by another name
pub since : {old first new : Bool} {s t : Built} {n : ℕ} {ls : List Line} → first ≡ old → AddsIf first new s t n ls
    → AddsIf old new s t n ls
since e h = λ right. let said = h right in (sym e ∙ said.0, said.1)

pub while-arm : (c : Context) (n : ℕ) (e : Expression) (body : Statement) (exits : Exits) (after : After)
    (exit start : ℕ) {st : Statement} {old new : Bool} {s t u v : Built} → st ≡ While n e body
    → exit ≡ exit_of s.next after → start ≡ s.next + exit_blocks after
    → Adds s t (exit_blocks after + suc (test_blocks_if_any c (Some e))) (while_front c n (Some e) s.next after)
    → AddsIf old new t u ((run_of c body).blocks (To start))
    ((run_of c body).lines (record { breaks = exit; continues = start }) t.next (To start))
    → Adds u v 0 (exit_lines c exit after)
    → AddsIf old new s v ((run_of c st).blocks after) ((run_of c st).lines exits s.next after)
while-arm c n e body exits after exit start {st} {old} {new} {s} {t} {u} {v} is out begins front one end = λ right.
    let said = one right in
    let m : Built = record { lines = s.lines ++ Emit (op.Mark n) ∷ []; next = s.next } in
    let none : s.next ≡ s.next + 0 = omega arith in
    let mark : Adds s m 0 (Emit (op.Mark n) ∷ []) = record { lines = refl; next = none } in
    let front' : Adds m t (exit_blocks after + suc (test_blocks_if_any c (Some e)))
    (tested_front c (Some e) s.next after) = record {
      lines = front.lines ∙ sym (append_assoc s.lines (Emit (op.Mark n) ∷ []) (tested_front c (Some e) s.next after));
      next = front.next;
    } in
    let whole = loop-whole c (Some e) None (run_of c body) after exit start start
    (alike c body) out begins refl front' said.1 (nothing u) end in (
      said.0,
      subst (λ (x : Statement). Adds s v ((run_of c x).blocks after) ((run_of c x).lines exits s.next after))
          (sym is) (next-to (λ k. loop_lines c (Some e) None (run_of c body) k after) mark whole),
    )

pub do-arm : (c : Context) (n : ℕ) (e : Expression) (body : Statement) (exits : Exits) (after : After)
    (exit start test : ℕ) {st : Statement} {old new : Bool} {s t u v w : Built} → st ≡ Do n body e
    → exit ≡ exit_of s.next after → start ≡ s.next + exit_blocks after → test ≡ start + 1
    → Adds s t (exit_blocks after + 2) (do_front n (s.next + exit_blocks after))
    → AddsIf old new t u ((run_of c body).blocks (To test))
    ((run_of c body).lines (record { breaks = exit; continues = test }) t.next (To test))
    → Adds u v (test_blocks_of (part_of c e)) (do_end (part_of c e) test start exit u.next)
    → Adds v w 0 (exit_lines c exit after)
    → AddsIf old new s w ((run_of c st).blocks after) ((run_of c st).lines exits s.next after)
do-arm c n e body exits after exit start test {st} {old} {new} {s} {t} {u} {v} {w} is out begins tests front one last
    end = λ right.
    let said = one right in (
      said.0,
      subst (λ (x : Statement). Adds s w ((run_of c x).blocks after) ((run_of c x).lines exits s.next after))
          (sym is) (do-whole c n (run_of c body) (part_of c e) exits after exit start test (alike c body) out begins
          tests
          front said.1 last end),
    )

pub if-none-arm : (c : Context) (n : ℕ) (e : Expression) (a b : Statement) (exits : Exits) (after : After)
    (nothing : Bool) (second exit : ℕ) {st : Statement} {old new : Bool} {s t u v : Built} → st ≡ If n e a b
    → nothing ≡ (run_of c b).nothing → nothing ≡ true → exit ≡ exit_of s.next after
    → Adds s t (exit_blocks after + suc (test_blocks_of (part_of c e)))
    (if_front n (part_of c e) nothing second s.next after)
    → AddsIf old new t u ((run_of c a).blocks (To exit)) ((run_of c a).lines exits t.next (To exit))
    → Adds u v 0 (exit_lines c exit after)
    → AddsIf old new s v ((run_of c st).blocks after) ((run_of c st).lines exits s.next after)
if-none-arm c n e a b exits after nothing second exit {st} {old} {new} {s} {t} {u} {v} is same none out front one end =
    λ right.
    let said = one right in
    let F = exit_blocks after + suc (test_blocks_of (part_of c e)) in (
      said.0,
      subst (λ (x : Statement). Adds s v ((run_of c x).blocks after) ((run_of c x).lines exits s.next after))
          (sym is) (if-none c n (part_of c e) (run_of c a) (run_of c b) exits after second exit (sym same ∙ none)
          (alike c a) out (subst (λ (q : Bool). Adds s t F (if_front n (part_of c e) q second s.next after)) none front)
          said.1 end),
    )

pub if-some-arm : (c : Context) (n : ℕ) (e : Expression) (a b : Statement) (exits : Exits) (after : After)
    (nothing : Bool) (second exit : ℕ) {st : Statement} {old now next new : Bool} {s t u v w x : Built}
    → st ≡ If n e a b → nothing ≡ (run_of c b).nothing → nothing ≡ false → exit ≡ exit_of s.next after
    → Adds s t (exit_blocks after + suc (test_blocks_of (part_of c e)))
    (if_front n (part_of c e) nothing second s.next after)
    → AddsIf old now t u ((run_of c a).blocks (To exit)) ((run_of c a).lines exits t.next (To exit))
    → (next ≡ true → (now ≡ true) × (second ≡ u.next)) → Adds u v 1 (Start u.next ∷ [])
    → AddsIf next new v w ((run_of c b).blocks (To exit)) ((run_of c b).lines exits v.next (To exit))
    → Adds w x 0 (exit_lines c exit after)
    → AddsIf old new s x ((run_of c st).blocks after) ((run_of c st).lines exits s.next after)
if-some-arm c n e a b exits after nothing second exit {st} {old} {now} {next} {new} {s} {t} {u} {v} {w} {x} is same
    some out front one settled start other end = λ right.
    let behind-it = other right in
    let between = settled behind-it.0 in
    let before = one between.0 in
    let F = exit_blocks after + suc (test_blocks_of (part_of c e)) in (
      before.0,
      subst (λ (y : Statement). Adds s x ((run_of c y).blocks after) ((run_of c y).lines exits s.next after))
          (sym is) (if-some c n (part_of c e) (run_of c a) (run_of c b) exits after second exit (sym same ∙ some)
          (alike c a) (alike c b) out between.1
          (subst (λ (q : Bool). Adds s t F (if_front n (part_of c e) q second s.next after)) some front)
          before.1 start behind-it.1 end),
    )

pub for-arm : (c : Context) (n : ℕ) (first : First) (test step : Option Expression) (body : Statement) (exits : Exits)
    (after : After) (exit start named again : ℕ) {st : Statement} {old now new : Bool} {s t u v w : Built}
    → st ≡ For n first test step body → exit ≡ exit_of (s.next + first_blocks c first) after
    → start ≡ s.next + first_blocks c first + exit_blocks after → again ≡ continue_block step start named
    → Adds s t (first_blocks c first + (exit_blocks after + suc (test_blocks_if_any c test)))
    (for_front c n first test s.next after)
    → AddsIf old now t u ((run_of c body).blocks (To again))
    ((run_of c body).lines (record { breaks = exit; continues = again }) t.next (To again))
    → (new ≡ true → (now ≡ true) × (continue_block step start named ≡ continue_block step start u.next))
    → Adds u v (after_blocks c step) (after_lines c step start u.next) → Adds v w 0 (exit_lines c exit after)
    → AddsIf old new s w ((run_of c st).blocks after) ((run_of c st).lines exits s.next after)
for-arm c n first test step body exits after exit start named again {st} {old} {now} {new} {s} {t} {u} {v} {w} is out
    begins goes front one settled more end = λ right.
    let between = settled right in
    let before = one between.0 in
    let F = first_blocks c first in
    let P = Emit (op.Mark n) ∷ first_lines c first s.next in
    let L : ℕ → List Line = λ k. loop_lines c test step (run_of c body) k after in
    let m : Built = record { lines = s.lines ++ P; next = s.next + F } in
    let opened : Adds s m F P = record { lines = refl; next = refl } in
    let sum : s.next + (F + (exit_blocks after + suc (test_blocks_if_any c test)))
    ≡ s.next + F + (exit_blocks after + suc (test_blocks_if_any c test)) = omega arith in
    let front' : Adds m t (exit_blocks after + suc (test_blocks_if_any c test)) (tested_front c test m.next after) =
    record {
      lines = front.lines ∙ sym (append_assoc s.lines P (tested_front c test m.next after));
      next = front.next ∙ sum;
    } in
    let whole : Adds m w (loop_blocks c test step (run_of c body) after) (L m.next) =
    loop-whole c test step (run_of c body) after exit start again (alike c body) out begins
    (goes ∙ between.1) front' before.1 more end in (
      before.0,
      subst (λ (x : Statement). Adds s w ((run_of c x).blocks after) ((run_of c x).lines exits s.next after))
          (sym is) (two L opened whole),
    )
