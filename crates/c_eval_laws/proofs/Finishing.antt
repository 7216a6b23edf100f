-- What comes after evaluations that are made of others.
use Rattle.std.proofs.Common.{◌≡◌, ℕ, zero, suc, ◌≤◌, Bool, true, false, refl, ap}
use Rattle.std.specs.Prelude.{length, if◌then◌else◌}
use Rattle.pcc_base.specs.Outcome.{InFrame, Outcome}
use Rattle.c_tree.specs.Evaluation.{own_array}
use Rattle.c_tree.specs.Store.{State, Evaluated, Gives, Ends, and_then, turn_with, take_turn}
use Rattle.c_eval_laws.specs.Bounds.{Keeps}
use Rattle.c_eval_laws.proofs.Keeping.{same-depth}
use Rattle.c_eval_laws.specs.Tasks.{finish}

-- one evaluation after another
pub finish-then : {A B : Type 0} (r : Evaluated A) (go : A → State → Evaluated B) (last : B → State → Outcome)
    → finish (and_then r go) last ≡ finish r (λ v t. finish (go v t) last)
finish-then (Gives v t) go last = refl
finish-then (Ends end t) go last = refl

-- what comes after is the same
pub finish-same : {A : Type 0} (r : Evaluated A) (go go' : A → State → Outcome)
    → ((v : A) (t : State) → go v t ≡ go' v t) → finish r go ≡ finish r go'
finish-same (Gives v t) go go' same = same v t
finish-same (Ends end t) go go' same = refl

-- what comes after is the same from every state with no more turns, as an evaluation comes to
pub finish-under : {A : Type 0} (k : ℕ) (s : State) (r : Evaluated A) (go go' : A → State → Outcome) → Keeps k s r
    → ((v : A) (t : State) → t.turns ≤ s.turns → go v t ≡ go' v t) → finish r go ≡ finish r go'
finish-under k s (Gives v t) go go' keeps same = same v t keeps.after.turns
finish-under k s (Ends end t) go go' keeps same = refl

pub then-under : {A B : Type 0} (k : ℕ) (s : State) (r : Evaluated A) (go go' : A → State → Evaluated B) → Keeps k s r
    → ((v : A) (t : State) → t.turns ≤ s.turns → go v t ≡ go' v t) → and_then r go ≡ and_then r go'
then-under k s (Gives v t) go go' keeps same = same v t keeps.after.turns
then-under k s (Ends end t) go go' keeps same = refl

-- one of two
pub either-same : {A : Type 0} (holds : Bool) (x y x' y' : A) → x ≡ x' → y ≡ y'
    → (if holds then x else y) ≡ (if holds then x' else y')
either-same true x y x' y' e e' = e
either-same false x y x' y' e e' = e'

-- a turn is taken on both sides
pub finish-turn : {A B : Type 0} (s : State) (go : State → Evaluated A) (go' : State → Evaluated B)
    (last : A → State → Outcome) (last' : B → State → Outcome)
    → ((n : ℕ) → s.turns ≡ suc n
    → finish (go (record s { turns = n })) last ≡ finish (go' (record s { turns = n })) last')
    → finish (take_turn s go) last ≡ finish (take_turn s go') last'
finish-turn {A} {B} s go go' last last' same = by_turns s.turns refl
  where
    by_turns : (n : ℕ) → s.turns ≡ n → finish (turn_with n s go) last ≡ finish (turn_with n s go') last'
    by_turns zero e = refl
    by_turns (suc n) e = same n e

-- ---- arrays of the youngest call

-- where as many calls are active, an array of the youngest one has the same name
pub same-array : (k : ℕ) (t s : State) → length t.active ≡ length s.active → own_array t k ≡ own_array s k
same-array k t s e = ap (λ (depth : ℕ). InFrame k depth) e

-- what comes after is the same from every state with as many active calls, as an evaluation comes to
pub finish-depth : {A : Type 0} (s : State) (r : Evaluated A) (go go' : A → State → Outcome) → Keeps 0 s r
    → ((v : A) (t : State) → length t.active ≡ length s.active → go v t ≡ go' v t) → finish r go ≡ finish r go'
finish-depth s (Gives v t) go go' keeps same = same v t (same-depth 0 s t v keeps refl)
finish-depth s (Ends end t) go go' keeps same = refl
