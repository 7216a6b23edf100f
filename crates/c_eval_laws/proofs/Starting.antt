-- The start and the end of the machine of tasks, several steps, and the arguments of a call in a vector.
use Rattle.std.proofs.Common.{◌≡◌, ◌-◌, ℕ, zero, suc, List, [], ◌∷◌, ◌++◌, length, refl, sym, ap, arith, ◌∙◌}
use Rattle.std.proofs.Common.{subst}
use Rattle.std.proofs.lemmas.Grind.{reverse_onto}
use Rattle.std.proofs.lemmas.List.{append_assoc, append-nil, length-drop, length-reverse, reverse-append}
use Rattle.std.proofs.lemmas.List.{reverse-reverse, take-append-drop}
use Rattle.std.specs.Prelude.{reverse, take, drop}
use Rattle.pcc_base.specs.Outcome.{Listing}
use Rattle.c_tree.specs.Evaluation.{call_within, first_state, outcome_of}
use Rattle.c_tree.specs.Program.{Function, Program}
use Rattle.c_tree.specs.Store.{Held, Evaluated, Gives, Ends}
use Rattle.c_eval_laws.specs.Tasks.{Ahead, below_by, finish, put_before, rest}
use Rattle.c_eval_laws.specs.Steps.{step}
use Rattle.c_eval_laws.specs.TasksLaws.{ArgumentsAreLast, IsEnd, ManyStepsKeep, Starts}
use Rattle.c_eval_laws.proofs.Finishing.{finish-same, finish-then}
use Rattle.c_eval_laws.proofs.Machine.{steps_keep}

-- what `main` gives is the outcome
main-gives : (p : Program) (l : Listing) (f : Function) (r : Evaluated Held)
    → finish r (λ v t. rest p l f Ahead [] (v ∷ []) [] t) ≡ outcome_of r
unfolding rest
main-gives p l f (Gives v t) = refl
main-gives p l f (Ends end t) = refl

-- the call of `main`
pub starts : Starts
unfolding rest
starts p l input n f = main-gives p l f (call_within (suc n) p l p.main [] (first_state p input n))

-- the end
pub is_end : IsEnd
unfolding rest
is_end p l f way vs fs s = refl

-- several steps
pub many_steps_keep : ManyStepsKeep
many_steps_keep p l zero c s = refl
many_steps_keep p l (suc count) c s =
    steps_keep p l c.function c.way c.tasks c.values c.places s
    ∙ finish-same (step p l c.function c.way c.tasks c.values c.places s) _ _
    (λ c' t. many_steps_keep p l count c' t)
    ∙ sym (finish-then (step p l c.function c.way c.tasks c.values c.places s) _ _)

-- ---- the arguments of a call

-- the values in front of the stack come in the order in which they came
front-put : (front others ws : List Held) → put_before (length front) (front ++ others) ws ≡ reverse front ++ ws
front-put [] others ws = refl
front-put (v ∷ front) others ws =
    front-put front others (v ∷ ws)
    ∙ sym (ap (λ (xs : List Held). xs ++ ws) (reverse_onto front v []) ∙ append_assoc (reverse front) (v ∷ []) ws)

-- and the others are below them
front-below : (front others : List Held) → below_by (length front) (front ++ others) ≡ others
front-below [] others = refl
front-below (v ∷ front) others = front-below front others

-- the last values of a vector are the front of the stack
last-front : (before last : List Held) (count : ℕ) → length last ≡ count
    → (put_before count (reverse (before ++ last)) [] ≡ last)
    × (below_by count (reverse (before ++ last)) ≡ reverse before)
last-front before last count e =
    let front : length (reverse last) ≡ count = length-reverse last ∙ e in
    rw (reverse-append before last, sym front) (
      front-put (reverse last) (reverse before) [] ∙ append-nil (reverse (reverse last)) ∙ reverse-reverse last,
      front-below (reverse last) (reverse before),
    )

-- the arguments of a call among the values of a vector
pub arguments_are_last : ArgumentsAreLast
arguments_are_last values count le =
    let n : ℕ = length values - count in
    let whole : take n values ++ drop n values ≡ values = take-append-drop n values in
    subst (λ (xs : List Held). (put_before count (reverse xs) [] ≡ drop n values)
    × (below_by count (reverse xs) ≡ reverse (take n values))) whole
    (last-front (take n values) (drop n values) count (omega (arith, le, length-drop n values)))
