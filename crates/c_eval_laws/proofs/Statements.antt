-- Declared items and statements are taken apart.
use Rattle.std.proofs.Common.{◌≡◌, ℕ, suc, ◌≤◌, List, ◌∷◌, Option, Some, None, refl, sym, ap, ℤ}
use Rattle.std.proofs.Common.{arith, ◌∙◌}
use Rattle.pcc_base.specs.Outcome.{ArrayName, Listing, Outcome, Static}
use Rattle.c_tree.specs.Evaluation.{Found, Left, after_switch, declare}
use Rattle.c_tree.specs.Evaluation.{declare_all, fill, own_array, text_then_zeros}
use Rattle.c_tree.specs.Evaluation.{zeroed, evaluate, evaluated_if_any, execute}
use Rattle.c_tree.specs.Evaluation.{loop, run_first, switched, tested, tested_if_any, type_at}
use Rattle.c_tree.specs.Operators.{is_true}
use Rattle.c_tree.specs.Program.{Expression, Elements, Text, Scalar, Array, First, Nothing}
use Rattle.c_tree.specs.Program.{Evaluated as EvaluatedFirst, Declared, Statement, Declare, Empty, Evaluate, Block, If}
use Rattle.c_tree.specs.Program.{While, Do, For, Switch, Break, Continue, Return, Function}
use Rattle.c_tree.specs.Program.{Program}
use Rattle.c_tree.specs.Store.{Held, State, array_named, visited, with_array, with_local, zero_of, Evaluated, and_then}
use Rattle.c_eval_laws.proofs.After.{Follows, array-follows, follows-then, length-zeroed, visit-follows}
use Rattle.c_eval_laws.proofs.Keeping.{gives-keeps, same-depth}
use Rattle.c_eval_laws.specs.Tasks.{Task, Declares, Executes, Loops, Ahead, behind, calls_of}
use Rattle.c_eval_laws.specs.Tasks.{finish, rest, setting_of}
use Rattle.c_eval_laws.specs.Steps.{before_loop, go_on, item_step, rest_of, statement_step}
use Rattle.c_eval_laws.specs.TasksLaws.{ItemsStep, Keeps, StatementsStep}
use Rattle.c_eval_laws.proofs.Finishing.{either-same, finish-then, finish-under}
use Rattle.c_eval_laws.proofs.Finishing.{same-array}
use Rattle.c_eval_laws.proofs.Settling.{from-settles, loop-settles, statement-settles, trees-keep}

-- a local has its first value
local-kept : (p : Program) (l : Listing) (f : Function) (number local : ℕ) (value : Option Expression) (ts : List Task)
    (vs : List Held) (fs : List Found) (s : State)
    → Keeps p l f Ahead (Declares (Scalar number local value) ∷ ts) vs fs s
    (item_step l f (Scalar number local value) ts vs fs s)
unfolding rest
local-kept p l f number local None ts vs fs s = refl
local-kept p l f number local (Some e) ts vs fs s = finish-then (evaluate (calls_of p l) e
    (with_local local (zero_of (type_at f local)) (visited l number s))) _ _

-- an array that is made zero keeps its name
zeroed-same : (l : Listing) (number k : ℕ) (s : State) → own_array
    (with_array (own_array s k) (zeroed (array_named s (own_array s k))) (visited l number s)) k ≡ own_array s k
zeroed-same l number k s =
    let elements : List ℤ = array_named s (own_array s k) in
    let t : State = with_array (own_array s k) (zeroed elements) (visited l number s) in
    let follows : Follows s t = follows-then s (visited l number s) t (visit-follows l number s)
    (array-follows (own_array s k) (zeroed elements) (visited l number s) (length-zeroed elements)) in
    same-array k t s (same-depth 0 s t k (gives-keeps 0 s t k follows) refl)

-- an item is declared
pub items_step : ItemsStep
unfolding rest
items_step p l f (Scalar number local value) ts vs fs s = local-kept p l f number local value ts vs fs s
items_step p l f (Array number k element (Elements es)) ts vs fs s =
    let t : State = with_array (own_array s k) (zeroed (array_named s (own_array s k))) (visited l number s) in
    ap (λ (a : ArrayName). finish (fill (calls_of p l) a element 0 es t) (λ done u. rest p l f Ahead ts vs fs u))
    (sym (zeroed-same l number k s))
items_step p l f (Array number k element (Text object)) ts vs fs s =
    let t : State = with_array (own_array s k) (zeroed (array_named s (own_array s k))) (visited l number s) in
    ap (λ (a : ArrayName). rest p l f Ahead ts vs fs
    (with_array a (text_then_zeros (array_named t a) (array_named t (Static object))) t))
    (sym (zeroed-same l number k s))

-- how a statement is left, behind the tasks that stand behind it
abbrev pub left_to : Program → Listing → Function → List Task → List Held → List Found → Left → State → Outcome
left_to p l f ts vs fs = behind (λ way ws t. rest p l f way ts ws fs t) vs

-- a `for` comes to its loop
for-kept : (p : Program) (l : Listing) (f : Function) (first : First) (test after : Option Expression)
    (body : Statement) (bound : ℕ) (ts : List Task) (vs : List Held) (fs : List Found) (s : State) → suc s.turns ≤ bound
    → finish (and_then (run_first (calls_of p l) l (type_at f) first s) (λ done t.
    loop bound (tested_if_any (calls_of p l) test) (execute (setting_of p l f bound) body)
    (evaluated_if_any (calls_of p l) after) t)) (left_to p l f ts vs fs)
    ≡ rest_of p l (go_on f (before_loop first (Loops test after body ∷ ts)) vs fs) s
unfolding rest
for-kept p l f Nothing test after body bound ts vs fs s le =
    ap (λ (r : Evaluated Left). finish r (left_to p l f ts vs fs))
    (loop-settles p l f body test after bound s (omega (arith, le)))
for-kept p l f (EvaluatedFirst e) test after body bound ts vs fs s le =
    finish-then (run_first (calls_of p l) l (type_at f) (EvaluatedFirst e) s) _ _
    ∙ finish-then (evaluate (calls_of p l) e s) _ _
    ∙ finish-under 0 s (evaluate (calls_of p l) e s) _ _ ((trees-keep p l 0).expressions e s) (λ v t lower.
    ap (λ (r : Evaluated Left). finish r (left_to p l f ts vs fs))
    (loop-settles p l f body test after bound t (omega (arith, le, lower))))
for-kept p l f (Declared items) test after body bound ts vs fs s le =
    finish-then (run_first (calls_of p l) l (type_at f) (Declared items) s) _ _
    ∙ finish-then (declare_all (calls_of p l) l (type_at f) items s) _ _
    ∙ finish-under 0 s (declare_all (calls_of p l) l (type_at f) items s) _ _
    ((trees-keep p l 0).item_lists l (type_at f) items s) (λ done t lower.
    ap (λ (r : Evaluated Left). finish r (left_to p l f ts vs fs))
    (loop-settles p l f body test after bound t (omega (arith, le, lower))))

-- a `return`, with a value or none
return-kept : (p : Program) (l : Listing) (f : Function) (n : ℕ) (value : Option Expression) (ts : List Task)
    (vs : List Held) (fs : List Found) (s : State)
    → Keeps p l f Ahead (Executes (Return n value) ∷ ts) vs fs s (statement_step l f (Return n value) ts vs fs s)
unfolding rest
return-kept p l f n None ts vs fs s = refl
return-kept p l f n (Some e) ts vs fs s = finish-then (evaluate (calls_of p l) e (visited l n s)) _ _

-- a statement is taken apart
pub statements_step : StatementsStep
unfolding rest
statements_step p l f (Declare item) ts vs fs s = finish-then (declare (calls_of p l) l (type_at f) item s) _ _
statements_step p l f (Empty n) ts vs fs s = refl
statements_step p l f (Evaluate n e) ts vs fs s = finish-then (evaluate (calls_of p l) e (visited l n s)) _ _
statements_step p l f (Block body) ts vs fs s = refl
statements_step p l f (If n e a b) ts vs fs s =
    finish-then (tested (calls_of p l) e (visited l n s)) _ _
    ∙ finish-then (evaluate (calls_of p l) e (visited l n s)) _ _
    ∙ finish-under 0 (visited l n s) (evaluate (calls_of p l) e (visited l n s)) _ _
    ((trees-keep p l 0).expressions e (visited l n s)) (λ v t lower.
    ap (λ (r : Evaluated Left). finish r (left_to p l f ts vs fs)) (either-same (is_true v) _ _ _ _
    (statement-settles p l f (suc s.turns) a t (omega (arith, lower)))
    (statement-settles p l f (suc s.turns) b t (omega (arith, lower)))))
statements_step p l f (While n e body) ts vs fs s = refl
statements_step p l f (Do n body e) ts vs fs s = refl
statements_step p l f (For n first test after body) ts vs fs s =
    for-kept p l f first test after body (suc s.turns) ts vs fs (visited l n s) (omega arith)
statements_step p l f (Switch n e labels body) ts vs fs s =
    finish-then (evaluate (calls_of p l) e (visited l n s)) _ _
    ∙ finish-under 0 (visited l n s) (evaluate (calls_of p l) e (visited l n s)) _ _
    ((trees-keep p l 0).expressions e (visited l n s)) (λ v t lower.
    ap (λ (r : Evaluated Left). finish (and_then r after_switch) (left_to p l f ts vs fs))
    (from-settles p l f (suc s.turns) (switched labels v) body t (omega (arith, lower))))
statements_step p l f (Break n) ts vs fs s = refl
statements_step p l f (Continue n) ts vs fs s = refl
statements_step p l f (Return n value) ts vs fs s = return-kept p l f n value ts vs fs s
