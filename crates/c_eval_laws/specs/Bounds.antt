-- What every evaluation of a source program keeps, and that it doesn't depend on the bounds of calls and loops
-- (`specs/Evaluation.antt` of `c_tree`).
use Rattle.std.specs.Prelude.{◌≡◌, ℕ, ◌+◌, ◌≤◌, ◌<◌, List, ◌++◌, length, map, ℤ}
use Rattle.pcc_base.specs.Outcome.{End, Goes, Visit}
use Rattle.c_tree.specs.Evaluation.{Calls}
use Rattle.c_tree.specs.Store.{Activation, Held, State, Evaluated, Gives, Ends}

-- ---- what is kept

-- the lengths of arrays
abbrev pub lengths : List (List ℤ) → List ℕ
lengths arrays = map (λ elements. length elements) arrays

-- how much an active call holds: the number of its locals, and the lengths of its arrays
abbrev pub sizes_of : Activation → ℕ × List ℕ
sizes_of a = (length a.values, lengths a.arrays)

-- how much each active call holds
abbrev pub sizes : List Activation → List (ℕ × List ℕ)
sizes active = map sizes_of active

-- A state comes after another: no turn comes back, visits and bytes written stand behind those that were there, the
-- bytes taken were the next of the input, and each static object has as many elements as before.
pub record ComesAfter (s t : State) : Type 0 where
  pub turns : t.turns ≤ s.turns
  pub visits : (more : List Visit) × (t.visits ≡ s.visits ++ more)
  pub written : (more : List ℕ) × (t.written ≡ s.written ++ more)
  pub input : (bytes : List ℕ) × (s.left ≡ bytes ++ t.left) × (t.taken ≡ s.taken + length bytes)
  pub objects : lengths t.objects ≡ lengths s.objects

-- the state that an evaluation comes to
abbrev pub state_of : {A : Type 0} → Evaluated A → State
state_of (Gives value t) = t
state_of (Ends end t) = t

-- What an evaluation from a state keeps. Where it gives something, as many calls are active as before, and each holds
-- as much. Where it ends and the program still goes, there is no turn left, if there were fewer than the bound.
pub record Keeps {A : Type 0} (bound : ℕ) (s : State) (r : Evaluated A) : Type 0 where
  pub after : ComesAfter s (state_of r)
  pub gives : (value : A) (t : State) → r ≡ Gives value t → sizes t.active ≡ sizes s.active
  pub goes : (t : State) → r ≡ Ends Goes t → s.turns < bound → t.turns ≡ 0

-- calls that keep it, whatever they are given
abbrev pub CallsKeep : ℕ → Calls → Type 0
CallsKeep bound calls = (f : ℕ) (arguments : List Held) (s : State) → Keeps bound s (calls f arguments s)

-- ---- more turns

-- the state with so many more turns
abbrev pub with_more : ℕ → State → State
with_more more s = record s { turns = s.turns + more }

-- What an evaluation comes to with more turns: what it gives, and how it ends, is the same, and so many more turns are
-- left. Where it still goes, it goes on from there with the turns that are more.
pub record Extends {A : Type 0} (more : ℕ) (r other : Evaluated A) : Type 0 where
  pub gives : (value : A) (t : State) → r ≡ Gives value t → other ≡ Gives value (with_more more t)
  pub ends : (end : End) (t : State) → r ≡ Ends end t → (end ≡ Goes → more ≡ 0) → other ≡ Ends end (with_more more t)
  pub goes : (t : State) → r ≡ Ends Goes t → ComesAfter (with_more more t) (state_of other)

-- Two evaluations, the second with more turns: each keeps what evaluations keep, and from a state with fewer turns than
-- the bound the second comes to what the first does.
pub record Extending {A : Type 0} (bound more : ℕ) (first second : State → Evaluated A) : Type 0 where
  pub keeps : (s : State) → Keeps bound s (first s)
  pub keeps_too : (s : State) → Keeps 0 s (second s)
  pub extends : (s : State) → s.turns < bound → Extends more (first s) (second (with_more more s))

-- calls of which the second ones do so, whatever they are given
abbrev pub CallsExtend : ℕ → ℕ → Calls → Calls → Type 0
CallsExtend bound more calls others = (f : ℕ) (arguments : List Held) → Extending bound more (calls f arguments)
    (others f arguments)

-- ---- the same evaluation

-- calls that are the same from states with fewer turns than the bound
abbrev pub CallsAgree : ℕ → Calls → Calls → Type 0
CallsAgree bound calls others = (f : ℕ) (arguments : List Held) (s : State) → s.turns < bound
    → calls f arguments s ≡ others f arguments s
