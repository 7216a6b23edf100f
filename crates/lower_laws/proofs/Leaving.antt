-- How bodies are left: by `break` and `continue` only where they may stand, and with values in the type of the result.
use Rattle.std.proofs.Common.{ℕ, zero, suc, Bool, true, false, Option, Some, None, refl}
use Rattle.std.specs.Prelude.{if◌then◌else◌}
use Rattle.c_tree.specs.declared.types.ValueType.{ValueType}
use Rattle.c_tree.specs.Evaluation.{Calls, Left, Falls, Breaks, Continues, Returns, Runs, Setting, after_body}
use Rattle.c_tree.specs.Evaluation.{after_statement, after_switch, declare, do_loop, evaluated_if_any, execute}
use Rattle.c_tree.specs.Evaluation.{execute_from, loop, none_or_from, returned, run_first, switched, tested}
use Rattle.c_tree.specs.Evaluation.{evaluate, tested_if_any}
use Rattle.c_tree.specs.Program.{Expression, Function, Program}
use Rattle.c_tree.specs.Program.{Declare, Empty, Evaluate, Block, If, While, Do, For, Switch, Break, Continue, Return}
use Rattle.c_tree.specs.Program.{Statement, Statements, Done, Next}
use Rattle.c_tree.specs.Store.{Evaluated, Gives, Ends, State, and_then, turn_with, visited}
use Rattle.c_tree.specs.WellTyped.{AreStatements, IsStatement}
use Rattle.lower_laws.specs.CallsLaws.{BodiesLeaveSo, IsLeft, LeavesSo}

-- ---- evaluations that are made of others

then-leaves : {A : Type 0} (result : ValueType) (b c : Bool) (r : Evaluated A) (go : A → State → Evaluated Left)
    → ((v : A) (t : State) → LeavesSo result b c (go v t)) → LeavesSo result b c (and_then r go)
then-leaves result b c (Gives v t) go each = each v t
then-leaves result b c (Ends end t) go each = tt

then-left : (result : ValueType) (b c b' c' : Bool) (r : Evaluated Left) (go : Left → State → Evaluated Left)
    → LeavesSo result b' c' r
    → ((left : Left) (t : State) → IsLeft result b' c' left → LeavesSo result b c (go left t))
    → LeavesSo result b c (and_then r go)
then-left result b c b' c' (Gives left t) go is each = each left t is
then-left result b c b' c' (Ends end t) go is each = tt

turn-leaves : (result : ValueType) (b c : Bool) (n : ℕ) (s : State) (go : State → Evaluated Left)
    → ((t : State) → LeavesSo result b c (go t)) → LeavesSo result b c (turn_with n s go)
turn-leaves result b c zero s go each = tt
turn-leaves result b c (suc n) s go each = each (record s { turns = n })

either-leaves : (result : ValueType) (b c : Bool) (x y : Evaluated Left) (holds : Bool) → LeavesSo result b c x
    → LeavesSo result b c y → LeavesSo result b c (if holds then x else y)
either-leaves result b c x y true h k = h
either-leaves result b c x y false h k = k

-- ---- what comes after a statement, and after a body

statement-left : (result : ValueType) (b c : Bool) (next : Runs) → ((t : State) → LeavesSo result b c (next t))
    → (left : Left) (t : State) → IsLeft result b c left → LeavesSo result b c (after_statement next left t)
statement-left result b c next each Falls t is = each t
statement-left result b c next each Breaks t is = is
statement-left result b c next each Continues t is = is
statement-left result b c next each (Returns value) t is = is

body-left : (result : ValueType) (b c : Bool) (next : Runs) → ((t : State) → LeavesSo result b c (next t))
    → (left : Left) (t : State) → IsLeft result true true left → LeavesSo result b c (after_body next left t)
body-left result b c next each Falls t is = each t
body-left result b c next each Breaks t is = tt
body-left result b c next each Continues t is = each t
body-left result b c next each (Returns None) t is = tt
body-left result b c next each (Returns (Some value)) t is = is

switch-left : (result : ValueType) (b c : Bool) (left : Left) (t : State) → IsLeft result true c left
    → LeavesSo result b c (after_switch left t)
switch-left result b c Falls t is = tt
switch-left result b c Breaks t is = tt
switch-left result b c Continues t is = is
switch-left result b c (Returns None) t is = tt
switch-left result b c (Returns (Some value)) t is = is

-- ---- loops

loop-leaves : (result : ValueType) (b c : Bool) (bound : ℕ) (test : State → Evaluated Bool) (body after : Runs)
    (s : State) → ((t : State) → LeavesSo result true true (body t))
    → LeavesSo result b c (loop bound test body after s)
loop-leaves result b c zero test body after s each = tt
loop-leaves result b c (suc bound) test body after s each =
    turn-leaves result b c s.turns s _ (λ t.
    then-leaves result b c (test t) _ (λ holds u.
    either-leaves result b c _ _ holds
    (then-left result b c true true (body u) _ (each u)
    (body-left result b c _ (λ v. then-leaves result b c (after v) _ (λ left w.
    loop-leaves result b c bound test body after w each))))
    tt))

do-leaves : (result : ValueType) (b c : Bool) (bound : ℕ) (test : State → Evaluated Bool) (body : Runs) (s : State)
    → ((t : State) → LeavesSo result true true (body t)) → LeavesSo result b c (do_loop bound test body s)
do-leaves result b c zero test body s each = tt
do-leaves result b c (suc bound) test body s each =
    turn-leaves result b c s.turns s _ (λ t.
    then-left result b c true true (body t) _ (each t)
    (body-left result b c _ (λ u. then-leaves result b c (test u) _ (λ holds v.
    either-leaves result b c _ _ holds (do-leaves result b c bound test body v each) tt))))

-- ---- statements

from-leaves : (result : ValueType) (b c : Bool) (place : Option ℕ) (from : ℕ → Runs) (s : State)
    → ((n : ℕ) (t : State) → LeavesSo result b c (from n t)) → LeavesSo result b c (none_or_from place from s)
from-leaves result b c None from s each = tt
from-leaves result b c (Some n) from s each = each n s

returns-leaves : (result : ValueType) (b c : Bool) (calls : Calls) (value : Option Expression) (s : State)
    → LeavesSo result b c (returned result calls value s)
returns-leaves result b c calls None s = tt
returns-leaves result b c calls (Some e) s = then-leaves result b c (evaluate calls e s) _ (λ v t. (v, refl))

module _ (p : Program) (f : Function) (w : Setting) where
  mutual
    pub statement-leaves : (b c : Bool) (x : Statement) (s : State) → IsStatement p f b c x
        → LeavesSo w.result b c (execute w x s)
    statement-leaves b c (Declare item) s is = then-leaves w.result b c (declare w.calls w.listing w.types item s) _
        (λ done t. tt)
    statement-leaves b c (Empty n) s is = tt
    statement-leaves b c (Evaluate n e) s is = then-leaves w.result b c (evaluate w.calls e (visited w.listing n s)) _
        (λ v t. tt)
    statement-leaves b c (Block body) s is = statements-leave b c body 0 s is
    statement-leaves b c (If n e x y) s is = then-leaves w.result b c (tested w.calls e (visited w.listing n s)) _
        (λ holds t. either-leaves w.result b c _ _ holds (statement-leaves b c x t is.1)
        (statement-leaves b c y t is.2))
    statement-leaves b c (While n e body) s is =
        loop-leaves w.result b c w.bound (tested w.calls e) (execute w body) _ (visited w.listing n s)
        (λ t. statement-leaves true true body t is.1)
    statement-leaves b c (Do n body e) s is =
        do-leaves w.result b c w.bound (tested w.calls e) (execute w body) (visited w.listing n s)
        (λ t. statement-leaves true true body t is.0)
    statement-leaves b c (For n first test after body) s is =
        then-leaves w.result b c (run_first w.calls w.listing w.types first (visited w.listing n s)) _ (λ done t.
        loop-leaves w.result b c w.bound (tested_if_any w.calls test) (execute w body)
        (evaluated_if_any w.calls after) t (λ u. statement-leaves true true body u is.3))
    statement-leaves b c (Switch n e labels body) s is =
        then-leaves w.result b c (evaluate w.calls e (visited w.listing n s)) _ (λ v t.
        then-left w.result b c true c (none_or_from (switched labels v) (execute_from w body) t) _
        (from-leaves w.result true c (switched labels v) (execute_from w body) t
        (λ k u. statements-leave true c body k u is.3)) (switch-left w.result b c))
    statement-leaves b c (Break n) s is = is
    statement-leaves b c (Continue n) s is = is
    statement-leaves b c (Return n value) s is =
        returns-leaves w.result b c w.calls value (visited w.listing n s)

    pub statements-leave : (b c : Bool) (xs : Statements) (place : ℕ) (s : State) → AreStatements p f b c xs
        → LeavesSo w.result b c (execute_from w xs place s)
    statements-leave b c Done place s is = tt
    statements-leave b c (Next x rest) zero s is =
        then-left w.result b c b c (execute w x s) _ (statement-leaves b c x s is.0)
        (statement-left w.result b c (execute_from w rest 0) (λ t. statements-leave b c rest 0 t is.1))
    statements-leave b c (Next x rest) (suc place) s is = statements-leave b c rest place s is.1

pub bodies-leave : BodiesLeaveSo
bodies-leave p f within b c xs place s is = statements-leave p f within b c xs place s is
