-- The lines of each statement, from those of its parts, which are added one after another.
use Rattle.std.proofs.Common.{◌≡◌, ℕ, suc, ◌+◌, List, [], ◌∷◌, ◌++◌, refl, sym, ap, ◌∙◌, arith, append_assoc}
use Rattle.std.proofs.Common.{true, false, Option, subst}
use Rattle.std.specs.Prelude.{Bool, if◌then◌else◌}
use Rattle.c_tree.specs.Program.{Expression}
use Rattle.flow_graph.specs.declared.op.Op.TheVariants as op
use Rattle.lower_builder.specs.Built.{Built, Adds}
use Rattle.lower.specs.StatementFronts.{if_front, tested_front}
use Rattle.lower.specs.LoopFronts.{do_end, do_front}
use Rattle.lower_lines.specs.Expressions.{test_blocks_of}
use Rattle.lower_lines.specs.Lines.{Line, Start, Emit}
use Rattle.lower_lines.specs.Parts.{Part, Tests}
use Rattle.lower_lines.specs.Statements.{After, Here, To, Leaves, Exits, Run, after_blocks, after_lines, continue_block}
use Rattle.lower_lines.specs.Statements.{do_run, exit_blocks, exit_lines, exit_of}
use Rattle.lower_lines.specs.Statements.{if_run, loop_lines, second_block, second_lines}
use Rattle.lower_lines.specs.Statements.{test_blocks_if_any, test_if_any}
use Rattle.lower_lines.specs.Variables.{Context}
use Rattle.lower_builder.proofs.Joined.{counted, lined, two}
use Rattle.lower_expressions.proofs.Chained.{behind}

-- the start of the block behind a statement, by its number
pub exit-same : (c : Context) (block : ℕ) (after : After) → exit_lines c (exit_of block after) after
    ≡ exit_lines c block after
exit-same c block Here = refl
exit-same c block (To other) = refl
exit-same c block Leaves = refl

-- ---- `if`

-- where nothing is on the second way
pub if-none : (c : Context) (n : ℕ) (e : Part) (a b : Run) (exits : Exits) (after : After) (second exit : ℕ)
    {s t u v : Built} → b.nothing ≡ true → ((k : ℕ) → a.blocks (To k) ≡ a.blocks (To 0)) → exit ≡ exit_of s.next after
    → Adds s t (exit_blocks after + suc (test_blocks_of e)) (if_front n e true second s.next after)
    → Adds t u (a.blocks (To exit)) (a.lines exits t.next (To exit)) → Adds u v 0 (exit_lines c exit after)
    → Adds s v ((if_run c n e a b).blocks after) ((if_run c n e a b).lines exits s.next after)
if-none c n e a b exits after second exit {s} {t} {u} {v} none alike is front one end =
    let block = s.next in
    let first = block + exit_blocks after in
    let T = test_blocks_of e in
    let out = exit_of block after in
    let E = exit_lines c block after in
    let end' : Adds u v 0 E = lined (ap (λ k. exit_lines c k after) is ∙ exit-same c block after) end in
    let one' : Adds t u (a.blocks (To 0)) (a.lines exits t.next (To out)) =
    counted (alike exit) (lined (ap (λ k. a.lines exits t.next (To k)) is) one) in
    let A : ℕ → List Line = λ k. a.lines exits k (To out) ++ E in
    let inner : Adds t v (a.blocks (To 0)) (A t.next) = behind E one' end' in
    let at : block + (exit_blocks after + suc T) ≡ suc first + T = omega arith in
    let tests = e.lines (suc first) 0 (Tests first out) in
    let whole : Adds s v (exit_blocks after + suc T + a.blocks (To 0))
    (Emit (op.Mark n) ∷ (tests ++ (Start first ∷ A (suc first + T)))) =
    lined (ap (λ ls. Emit (op.Mark n) ∷ ls) (append_assoc tests (Start first ∷ []) (A (block + (exit_blocks after
    + suc T))) ∙ ap (λ k. tests ++ (Start first ∷ A k)) at)) (two A front inner) in
    let count : exit_blocks after + suc T + a.blocks (To 0) ≡ exit_blocks after + suc (T + a.blocks (To 0) + 0) =
    omega arith in
    let lines : Bool → List Line = λ q. Emit (op.Mark n) ∷ (e.lines (suc first) 0 (Tests first (second_block q out
    (suc first + T + a.blocks (To 0)))) ++ (Start first ∷ (a.lines exits (suc first + T) (To out)
    ++ (second_lines q (suc first + T + a.blocks (To 0)) (b.lines exits (suc (suc first + T + a.blocks (To 0)))
    (To out)) ++ E)))) in
    let blocks : Bool → ℕ = λ q. exit_blocks after + suc (T + a.blocks (To 0) + (if q then 0 else
    suc (b.blocks (To 0)))) in
    subst (λ (q : Bool). Adds s v (blocks q) (lines q)) (sym none) (counted count whole)

-- where something is
pub if-some : (c : Context) (n : ℕ) (e : Part) (a b : Run) (exits : Exits) (after : After) (second exit : ℕ)
    {s t u v w x : Built} → b.nothing ≡ false → ((k : ℕ) → a.blocks (To k) ≡ a.blocks (To 0))
    → ((k : ℕ) → b.blocks (To k) ≡ b.blocks (To 0)) → exit ≡ exit_of s.next after → second ≡ u.next
    → Adds s t (exit_blocks after + suc (test_blocks_of e)) (if_front n e false second s.next after)
    → Adds t u (a.blocks (To exit)) (a.lines exits t.next (To exit)) → Adds u v 1 (Start u.next ∷ [])
    → Adds v w (b.blocks (To exit)) (b.lines exits v.next (To exit)) → Adds w x 0 (exit_lines c exit after)
    → Adds s x ((if_run c n e a b).blocks after) ((if_run c n e a b).lines exits s.next after)
if-some c n e a b exits after second exit {s} {t} {u} {v} {w} {x} some alike alike_b is named front one start other
    end =
    let block = s.next in
    let first = block + exit_blocks after in
    let T = test_blocks_of e in
    let out = exit_of block after in
    let E = exit_lines c block after in
    let end' : Adds w x 0 E = lined (ap (λ k. exit_lines c k after) is ∙ exit-same c block after) end in
    let other' : Adds v w (b.blocks (To 0)) (b.lines exits v.next (To out)) =
    counted (alike_b exit) (lined (ap (λ k. b.lines exits v.next (To k)) is) other) in
    let one' : Adds t u (a.blocks (To 0)) (a.lines exits t.next (To out)) =
    counted (alike exit) (lined (ap (λ k. a.lines exits t.next (To k)) is) one) in
    let B : ℕ → List Line = λ k. b.lines exits k (To out) ++ E in
    let plus : u.next + 1 ≡ suc u.next = omega arith in
    let B' : ℕ → List Line = λ k. Start k ∷ B (suc k) in
    let h : Adds u x (1 + b.blocks (To 0)) (B' u.next) =
    lined (ap (λ k. Start u.next ∷ B k) plus) (two B start (behind E other' end')) in
    let A : ℕ → List Line = λ k. a.lines exits k (To out) ++ B' (k + a.blocks (To 0)) in
    let inner : Adds t x (a.blocks (To 0) + (1 + b.blocks (To 0))) (A t.next) = two B' one' h in
    let F = exit_blocks after + suc T in
    let at : block + F ≡ suc first + T = omega arith in
    let at-second : second ≡ suc first + T + a.blocks (To 0) =
    named ∙ one'.next ∙ ap (λ k. k + a.blocks (To 0)) front.next ∙ ap (λ k. k + a.blocks (To 0)) at in
    let tests : ℕ → List Line = λ k. e.lines (suc first) 0 (Tests first k) in
    let whole : Adds s x (F + (a.blocks (To 0) + (1 + b.blocks (To 0))))
    (Emit (op.Mark n) ∷ (tests (suc first + T + a.blocks (To 0)) ++ (Start first ∷ A (suc first + T)))) =
    lined (ap (λ ls. Emit (op.Mark n) ∷ ls) (append_assoc (tests second) (Start first ∷ []) (A (block + F))
    ∙ ap (λ k. tests second ++ (Start first ∷ A k)) at ∙ ap (λ k. tests k ++ (Start first ∷ A (suc first + T)))
    at-second)) (two A front inner) in
    let count : F + (a.blocks (To 0) + (1 + b.blocks (To 0)))
    ≡ exit_blocks after + suc (T + a.blocks (To 0) + suc (b.blocks (To 0))) = omega arith in
    let lines : Bool → List Line = λ q. Emit (op.Mark n) ∷ (e.lines (suc first) 0 (Tests first (second_block q out
    (suc first + T + a.blocks (To 0)))) ++ (Start first ∷ (a.lines exits (suc first + T) (To out)
    ++ (second_lines q (suc first + T + a.blocks (To 0)) (b.lines exits (suc (suc first + T + a.blocks (To 0)))
    (To out)) ++ E)))) in
    let blocks : Bool → ℕ = λ q. exit_blocks after + suc (T + a.blocks (To 0) + (if q then 0 else
    suc (b.blocks (To 0)))) in
    subst (λ (q : Bool). Adds s x (blocks q) (lines q)) (sym some) (counted count whole)

-- ---- `while` and `for`

-- a loop behind its mark; `again` is where `continue` goes
pub loop-whole : (c : Context) (test step : Option Expression) (body : Run) (after : After) (exit start again : ℕ)
    {s t u v w : Built} → ((k : ℕ) → body.blocks (To k) ≡ body.blocks (To 0)) → exit ≡ exit_of s.next after
    → start ≡ s.next + exit_blocks after → again ≡ continue_block step start u.next
    → Adds s t (exit_blocks after + suc (test_blocks_if_any c test)) (tested_front c test s.next after)
    → Adds t u (body.blocks (To again))
    (body.lines (record { breaks = exit; continues = again }) t.next (To again))
    → Adds u v (after_blocks c step) (after_lines c step start u.next) → Adds v w 0 (exit_lines c exit after)
    → Adds s w (exit_blocks after + suc (test_blocks_if_any c test + body.blocks (To 0) + after_blocks c step))
    (loop_lines c test step body s.next after)
loop-whole c test step body after exit start again {s} {t} {u} {v} {w} alike is begins goes front one more end =
    let block = s.next in
    let out = exit_of block after in
    let st = block + exit_blocks after in
    let T = test_blocks_if_any c test in
    let N = body.blocks (To 0) in
    let E = exit_lines c block after in
    let end' : Adds v w 0 E = lined (ap (λ k. exit_lines c k after) is ∙ exit-same c block after) end in
    let more' : Adds u v (after_blocks c step) (after_lines c step st u.next) =
    lined (ap (λ k. after_lines c step k u.next) begins) more in
    let Z : ℕ → List Line = λ k. after_lines c step st k ++ E in
    let z : Adds u w (after_blocks c step) (Z u.next) = behind E more' end' in
    let F = exit_blocks after + suc T in
    let at : block + F ≡ suc st + T = omega arith in
    let at-t : t.next ≡ suc st + T = front.next ∙ at in
    let at-u : u.next ≡ suc st + T + N = one.next ∙ ap (λ k. t.next + k) (alike again) ∙ ap (λ k. k + N) at-t in
    let again' : again ≡ continue_block step st (suc st + T + N) =
    goes ∙ ap (λ k. continue_block step k u.next) begins ∙ ap (λ k. continue_block step st k) at-u in
    let to = continue_block step st (suc st + T + N) in
    let L : ℕ → ℕ → ℕ → List Line = λ b g k. body.lines (record { breaks = b; continues = g }) k (To g) in
    let one' : Adds t u N (L out to t.next) =
    counted (alike again) (lined (ap (λ b. L b again t.next) is ∙ ap (λ g. L out g t.next) again') one) in
    let inner : Adds t w (N + after_blocks c step) (L out to t.next ++ Z (t.next + N)) = two Z one' z in
    let B : ℕ → List Line = λ k. L out to k ++ Z (k + N) in
    let G = test_if_any c test (st + 2) (suc st) out in
    let whole : Adds s w (F + (N + after_blocks c step))
    (Emit (op.Jump st) ∷ Start st ∷ Emit op.Turn ∷ (G ++ B (suc st + T))) =
    lined (ap (λ ls. Emit (op.Jump st) ∷ Start st ∷ Emit op.Turn ∷ ls) (append_assoc [] G (B (block + F))
    ∙ ap (λ k. G ++ B k) at)) (two B front inner) in
    let count : F + (N + after_blocks c step) ≡ exit_blocks after + suc (T + N + after_blocks c step) = omega arith in
    counted count whole

-- ---- `do`

pub do-whole : (c : Context) (n : ℕ) (body : Run) (e : Part) (exits : Exits) (after : After) (exit start test : ℕ)
    {s t u v w : Built} → ((k : ℕ) → body.blocks (To k) ≡ body.blocks (To 0)) → exit ≡ exit_of s.next after
    → start ≡ s.next + exit_blocks after → test ≡ start + 1
    → Adds s t (exit_blocks after + 2) (do_front n (s.next + exit_blocks after))
    → Adds t u (body.blocks (To test)) (body.lines (record { breaks = exit; continues = test }) t.next (To test))
    → Adds u v (test_blocks_of e) (do_end e test start exit u.next) → Adds v w 0 (exit_lines c exit after)
    → Adds s w ((do_run c n body e).blocks after) ((do_run c n body e).lines exits s.next after)
do-whole c n body e exits after exit start test {s} {t} {u} {v} {w} alike is begins tests front one last end =
    let block = s.next in
    let out = exit_of block after in
    let st = block + exit_blocks after in
    let N = body.blocks (To 0) in
    let T = test_blocks_of e in
    let E = exit_lines c block after in
    let test' : test ≡ suc st = omega (arith, tests, begins) in
    let end' : Adds v w 0 E = lined (ap (λ k. exit_lines c k after) is ∙ exit-same c block after) end in
    let last' : Adds u v T (do_end e (suc st) st out u.next) =
    lined (ap (λ k. do_end e k start exit u.next) test' ∙ ap (λ k. do_end e (suc st) k exit u.next) begins
    ∙ ap (λ k. do_end e (suc st) st k u.next) is) last in
    let Z : ℕ → List Line = λ k. do_end e (suc st) st out k ++ E in
    let z : Adds u w T (Z u.next) = behind E last' end' in
    let L : ℕ → ℕ → ℕ → List Line = λ b g k. body.lines (record { breaks = b; continues = g }) k (To g) in
    let one' : Adds t u N (L out (suc st) t.next) =
    counted (alike test) (lined (ap (λ b. L b test t.next) is ∙ ap (λ g. L out g t.next) test') one) in
    let inner : Adds t w (N + T) (L out (suc st) t.next ++ Z (t.next + N)) = two Z one' z in
    let B : ℕ → List Line = λ k. L out (suc st) k ++ Z (k + N) in
    let F = exit_blocks after + 2 in
    let at : block + F ≡ st + 2 = omega arith in
    let whole : Adds s w (F + (N + T)) (do_front n st ++ B (st + 2)) =
    lined (ap (λ k. do_front n st ++ B k) at) (two B front inner) in
    let count : F + (N + T) ≡ exit_blocks after + (2 + N + T) = omega arith in
    counted count whole
