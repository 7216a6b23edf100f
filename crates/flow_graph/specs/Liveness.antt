-- Which variables are live, by paths through a graph.
use Rattle.std.specs.Prelude.{◌≡◌, ◌≢◌, ◌≤◌, ◌⊎◌, ◌↔◌, ℕ, zero, suc, List, slice_get, Option, Some}
use Rattle.flow_graph.specs.declared.op.Op.{Op}
use Rattle.flow_graph.specs.Graphs.{Flow, IsIn, IsPlaced, points_of, following}
use Rattle.flow_graph.specs.Shapes.{Leads, Onward, IntoCall, ToBlock, ToEither, OutOfCall, OutOfProgram}
use Rattle.flow_graph.specs.Shapes.{Takes, NoRegister, Count, Division, AcrossCall, shape}

-- the variables that an op reads
abbrev pub uses : Op → List ℕ
uses op = (shape op).reads

-- the variable that an op writes, if it writes one
abbrev pub defined : Op → Option ℕ
defined op = (shape op).writes

-- ---- paths

-- the block begins with this point
abbrev pub BeginsWith : Flow → ℕ → ℕ → Type 0
BeginsWith flow block point = slice_get (points_of flow block) 0 ≡ Some point

-- the point `next` comes right behind the point, in some block
abbrev pub IsBehind : Flow → ℕ → ℕ → Type 0
IsBehind flow point next = (block : ℕ) × (following point (points_of flow block) ≡ Some next)

-- where control goes from a point: from an end to the blocks that it names, and else to the next point
abbrev pub GoesTo : Flow → ℕ → ℕ → Leads → Type 0
GoesTo flow point next Onward = IsBehind flow point next
GoesTo flow point next (IntoCall result words) = IsBehind flow point next
GoesTo flow point next (ToBlock x) = BeginsWith flow x next
GoesTo flow point next (ToEither x y) = BeginsWith flow x next ⊎ BeginsWith flow y next
GoesTo flow point next OutOfCall = ⊥
GoesTo flow point next OutOfProgram = ⊥

-- where the op of a point leads
abbrev pub LeadsTo : Flow → ℕ → ℕ → Op → Type 0
LeadsTo flow point next op = GoesTo flow point next (shape op).leads

-- no path goes from a point that was removed
abbrev pub IsSuccessor : Flow → ℕ → ℕ → Type 0
IsSuccessor flow point next =
    IsPlaced flow point × (op : Op) × (slice_get flow.ops point ≡ Some op) × LeadsTo flow point next op

-- and none uses anything
abbrev pub IsUsedAt : Flow → ℕ → ℕ → Type 0
IsUsedAt flow v point =
    IsPlaced flow point × (op : Op) × (slice_get flow.ops point ≡ Some op) × IsIn v (uses op)

abbrev pub IsDefinedAt : Flow → ℕ → ℕ → Type 0
IsDefinedAt flow v point = (op : Op) × (slice_get flow.ops point ≡ Some op) × (defined op ≡ Some v)

-- a path of n steps from the point reaches a use, with no definition before it
abbrev pub ReachesUse : Flow → ℕ → ℕ → ℕ → Type 0
ReachesUse flow v zero point = IsUsedAt flow v point
ReachesUse flow v (suc n) point = (IsDefinedAt flow v point → ⊥) × (next : ℕ) × IsSuccessor flow point next
    × ReachesUse flow v n next

-- the variable is live before the point: some path from it reaches a use with no definition before that use
abbrev pub IsLiveBefore : Flow → ℕ → ℕ → Type 0
IsLiveBefore flow v point = (n : ℕ) × ReachesUse flow v n point

-- the variable is live after the point: it is live before some successor
abbrev pub IsLiveAfter : Flow → ℕ → ℕ → Type 0
IsLiveAfter flow v point = (next : ℕ) × IsSuccessor flow point next × IsLiveBefore flow v next

-- ---- distances

-- some path of so many steps from the point, at least one, reaches a use, with no definition after the point and before
-- that use
abbrev pub AfterUse : Flow → ℕ → ℕ → ℕ → Type 0
AfterUse flow v zero point = ⊥
AfterUse flow v (suc n) point = (next : ℕ) × IsSuccessor flow point next × ReachesUse flow v n next

-- the distance of a variable at a point: 0 where the point uses it, else the least length of such a path
abbrev pub IsDistance : Flow → ℕ → ℕ → ℕ → Type 0
IsDistance flow v point zero = IsUsedAt flow v point
IsDistance flow v point (suc n) =
    (IsUsedAt flow v point → ⊥) × AfterUse flow v (suc n) point
    × ((fewer : ℕ) → fewer ≤ n → AfterUse flow v fewer point → ⊥)

-- ---- operands that die

-- the dividend of a division and the count of a shift are not live after their op, and no other operand
abbrev pub TakenDies : Flow → ℕ → Takes → Type 0
TakenDies flow point NoRegister = Unit {0}
TakenDies flow point (Count count shifted) = (IsLiveAfter flow count point → ⊥) × (count ≢ shifted)
TakenDies flow point (Division dividend divisor gives) =
    (IsLiveAfter flow dividend point → ⊥) × (dividend ≢ divisor)
TakenDies flow point AcrossCall = Unit {0}

abbrev pub FixedDies : Flow → ℕ → Op → Type 0
FixedDies flow point op = TakenDies flow point (shape op).takes

-- ---- laws

-- What is live before a point is used there, or is not defined there and live after it.
abbrev pub LiveStep : Type 0
LiveStep =
    (flow : Flow) (v point : ℕ)
    → IsLiveBefore flow v point ↔ (IsUsedAt flow v point ⊎ ((IsDefinedAt flow v point → ⊥) × IsLiveAfter flow v point))

-- Sets of variables, one for each point, that contain the uses, and of each successor's set all but the variable
-- defined, contain all that is live.
abbrev pub LiveWithin : Type 0
LiveWithin =
    (flow : Flow) (sets : ℕ → List ℕ)
    → ((point v : ℕ) → IsUsedAt flow v point → IsIn v (sets point))
    → ((point next v : ℕ) → IsSuccessor flow point next → IsIn v (sets next) → (IsDefinedAt flow v point → ⊥)
    → IsIn v (sets point))
    → (point v : ℕ) → IsLiveBefore flow v point → IsIn v (sets point)
