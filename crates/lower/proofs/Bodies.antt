-- The lines of a function.
use Rattle.std.proofs.Common.{◌≡◌, ℕ, suc, ◌+◌, List, [], ◌∷◌, ◌++◌, ap, ◌∙◌, arith, subst, true}
use Rattle.std.specs.Prelude.{Bool, take}
use Rattle.c_tree.specs.Program.{Statements}
use Rattle.flow_graph.specs.declared.op.Op.TheVariants as op
use Rattle.lower_builder.specs.Built.{Built, Adds}
use Rattle.lower.specs.Walks.{AddsIf}
use Rattle.lower_lines.specs.Lines.{Line, Emit, Start}
use Rattle.lower_lines.specs.Programs.{blocks_of_function, body_run, lines_of_function, no_exits, parameters_lines}
use Rattle.lower_lines.specs.Statements.{Leaves, none_labelled, runs_of, sequence_blocks, sequence_lines}
use Rattle.lower_lines.specs.Variables.{Context}
use Rattle.lower_expressions.proofs.Chained.{next-to}

-- the lines of a function whose body begins with this block
abbrev pub from_block : Context → ℕ → List Line
from_block c block = Start 0 ∷ Emit op.Turn ∷ (parameters_lines c (take c.function.parameters c.function.locals) 0 0
    ++ (body_run c).lines no_exits block Leaves)

pub function-whole : (c : Context) (body : Statements) {old new : Bool} {s a b d u : Built} → body ≡ c.function.body
    → Adds s a 0 (Start 0 ∷ []) → Adds a b 0 (Emit op.Turn ∷ [])
    → Adds b d 0 (parameters_lines c (take c.function.parameters c.function.locals) 0 0)
    → AddsIf old new d u (sequence_blocks none_labelled 0 (runs_of c body) Leaves)
    (sequence_lines c none_labelled 0 (runs_of c body) no_exits d.next Leaves)
    → AddsIf old new s u ((body_run c).blocks Leaves) (from_block c s.next)
function-whole c body {old} {new} {s} {a} {b} {d} {u} is start turn parameters rows = λ right.
    let said = rows right in
    let P = parameters_lines c (take c.function.parameters c.function.locals) 0 0 in
    let L : ℕ → List Line = λ k. (body_run c).lines no_exits k Leaves in
    let N = (body_run c).blocks Leaves in
    let whole : Adds d u N (L d.next) = subst (λ (ss : Statements). Adds d u
    (sequence_blocks none_labelled 0 (runs_of c ss) Leaves)
    (sequence_lines c none_labelled 0 (runs_of c ss) no_exits d.next Leaves)) is said.1 in (
      said.0,
      next-to (λ k. Emit op.Turn ∷ (P ++ L k)) start (next-to (λ k. P ++ L k) turn (next-to L parameters whole)),
    )

pub function_lines : (c : Context) {old new : Bool} {s t : Built} → s.lines ≡ [] → s.next ≡ 1 → new ≡ true
    → AddsIf old new s t ((body_run c).blocks Leaves) (from_block c s.next) → t.lines ≡ lines_of_function c
function_lines c {old} {new} {s} {t} none first right h =
    (h right).1.lines ∙ ap (λ (ls : List Line). ls ++ from_block c s.next) none
    ∙ ap (λ (k : ℕ). from_block c k) first

pub function_blocks : (c : Context) {old new : Bool} {s t : Built} → s.next ≡ 1 → new ≡ true
    → AddsIf old new s t ((body_run c).blocks Leaves) (from_block c s.next) → t.next ≡ blocks_of_function c
function_blocks c {old} {new} {s} {t} first right h =
    let N = (body_run c).blocks Leaves in
    let one : 1 + N ≡ suc N = omega arith in
    (h right).1.next ∙ ap (λ (k : ℕ). k + N) first ∙ one
