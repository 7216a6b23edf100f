-- Expressions and places are taken apart.
use Rattle.std.proofs.Common.{refl, sym, ◌∙◌}
use Rattle.std.specs.Prelude.{if◌then◌else◌}
use Rattle.c_tree.specs.declared.expression.BinaryOp.TheVariants.{Add}
use Rattle.c_tree.specs.declared.types.IntegerType.TheVariants.{Int}
use Rattle.c_tree.specs.Evaluation.{evaluate, evaluate_all, locate, load, updated, computed, get_from}
use Rattle.c_tree.specs.Operators.{binary_value, is_true, step_op, step_type}
use Rattle.c_tree.specs.Program.{Constant, Start, Read, Address, Unary, Binary, And, Or, Conditional, Cast}
use Rattle.c_tree.specs.Program.{Assign, Update, Step, Comma, Call, Putchar, Getchar, Exit, LocalPlace}
use Rattle.c_tree.specs.Program.{StaticPlace, Target, Element}
use Rattle.c_eval_laws.specs.Tasks.{calls_of, rest}
use Rattle.c_eval_laws.specs.TasksLaws.{ExpressionsStep, PlacesStep}
use Rattle.c_eval_laws.proofs.Finishing.{finish-then, finish-same}

-- an expression is taken apart
pub expressions_step : ExpressionsStep
unfolding rest
expressions_step p l f (Constant of n) ts vs fs s = refl
expressions_step p l f (Start element array) ts vs fs s = refl
expressions_step p l f (Read of place) ts vs fs s = finish-then (locate (calls_of p l) place s) _ _
expressions_step p l f (Address element place) ts vs fs s = finish-then (locate (calls_of p l) place s) _ _
expressions_step p l f (Unary of op e) ts vs fs s = finish-then (evaluate (calls_of p l) e s) _ _
expressions_step p l f (Binary of op a b) ts vs fs s = finish-then (evaluate (calls_of p l) a s) _ _
    ∙ finish-same (evaluate (calls_of p l) a s) _ _ (λ x t. finish-then (evaluate (calls_of p l) b t) _ _)
expressions_step p l f (And a b) ts vs fs s = finish-then (evaluate (calls_of p l) a s) _ _
expressions_step p l f (Or a b) ts vs fs s = finish-then (evaluate (calls_of p l) a s) _ _
expressions_step p l f (Conditional of t a b) ts vs fs s = finish-then (evaluate (calls_of p l) t s) _ _
    ∙ finish-same (evaluate (calls_of p l) t s) _ _ (λ x t.
    finish-then (if is_true x then evaluate (calls_of p l) a t else evaluate (calls_of p l) b t) _ _)
expressions_step p l f (Cast to e) ts vs fs s = finish-then (evaluate (calls_of p l) e s) _ _
expressions_step p l f (Assign of place e) ts vs fs s = finish-then (locate (calls_of p l) place s) _ _
    ∙ finish-same (locate (calls_of p l) place s) _ _ (λ found t. finish-then (evaluate (calls_of p l) e t) _ _)
expressions_step p l f (Update of op place e) ts vs fs s = finish-then (locate (calls_of p l) place s) _ _
    ∙ finish-same (locate (calls_of p l) place s) _ _ (λ found t. finish-then (load found t) _ _
    ∙ finish-same (load found t) _ _ (λ old u. finish-then (evaluate (calls_of p l) e u) _ _))
expressions_step p l f (Step of op place) ts vs fs s = finish-then (locate (calls_of p l) place s) _ _
    ∙ finish-same (locate (calls_of p l) place s) _ _ (λ found t. finish-then (load found t) _ _
    ∙ finish-same (load found t) _ _ (λ old u.
    finish-then (updated of (step_type op of) (step_op op) found old _ u) _ _))
expressions_step p l f (Comma a b) ts vs fs s = finish-then (evaluate (calls_of p l) a s) _ _
expressions_step p l f (Call of k arguments) ts vs fs s = finish-then (evaluate_all (calls_of p l) arguments s) _ _
expressions_step p l f (Putchar e) ts vs fs s = finish-then (evaluate (calls_of p l) e s) _ _
expressions_step p l f Getchar ts vs fs s = sym (finish-then (get_from s.left s) _ _)
expressions_step p l f (Exit e) ts vs fs s = finish-then (evaluate (calls_of p l) e s) _ _

-- a place is taken apart
pub places_step : PlacesStep
unfolding rest
places_step p l f (LocalPlace v) ts vs fs s = refl
places_step p l f (StaticPlace k) ts vs fs s = refl
places_step p l f (Target element e) ts vs fs s = finish-then (evaluate (calls_of p l) e s) _ _
places_step p l f (Element element a i) ts vs fs s = finish-then (evaluate (calls_of p l) a s) _ _
    ∙ finish-same (evaluate (calls_of p l) a s) _ _ (λ x t. finish-then (evaluate (calls_of p l) i t) _ _
    ∙ finish-same (evaluate (calls_of p l) i t) _ _ (λ y u. finish-then (computed (binary_value Int Add x y) u) _ _))
