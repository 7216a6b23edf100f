-- The stacks hold what the tasks take from them.
use Rattle.std.specs.Prelude.{◌≡◌, ℕ, zero, suc, List, [], ◌∷◌, length}
use Rattle.c_tree.specs.Store.{Gives, Ends}
use Rattle.c_eval_laws.specs.Tasks.{Task, Evaluates, Locates, Points, Loads, LoadsOld, Addresses, AppliesUnary}
use Rattle.c_eval_laws.specs.Tasks.{AppliesBinary, AndThen, OrElse, Truth, Chooses, Converts, Stores, Updates, Steps}
use Rattle.c_eval_laws.specs.Tasks.{Drops, Passes, Puts, Exits, Declares, DeclaresAll, Initialises, Fills, FillsElement}
use Rattle.c_eval_laws.specs.Tasks.{Executes, Follows, Branches, Loops, LoopTest, LoopBody, DoLoops, DoBody, DoTest}
use Rattle.c_eval_laws.specs.Tasks.{Switches, SwitchBody, ReturnsValue, ReturnsTo, Way, Ahead, Breaking, Continuing}
use Rattle.c_eval_laws.specs.Tasks.{Returning}
use Rattle.c_eval_laws.specs.Steps.{Stepped}

-- so many are there, and of what is left after them this is so
abbrev pub With : ℕ → ℕ → (ℕ → Type 0) → Type 0
With zero there Left = Left there
With (suc count) zero Left = ⊥
With (suc count) (suc there) Left = With count there Left

-- however a statement is left: a value that is returned is one more
abbrev pub EachWay : (Way → ℕ → Type 0) → ℕ → Type 0
EachWay Left values = Left Ahead values × Left Breaking values × Left Continuing values × Left Returning (suc values)

-- Each task finds on the stacks what it takes, if there are so many values and places now. At the end there is the one
-- value of `main`, and no place.
unfoldable pub StacksFit : Way → List Task → ℕ → ℕ → Type 0
StacksFit way [] n m = (n ≡ 1) × (m ≡ 0)
StacksFit Ahead (Evaluates e ∷ ts) n m = StacksFit Ahead ts (suc n) m
StacksFit Ahead (Locates place ∷ ts) n m = StacksFit Ahead ts n (suc m)
StacksFit Ahead (Points ∷ ts) n m = With 1 n (λ k. StacksFit Ahead ts k (suc m))
StacksFit Ahead (Loads ∷ ts) n m = With 1 m (λ k. StacksFit Ahead ts (suc n) k)
StacksFit Ahead (LoadsOld ∷ ts) n m = With 1 m (λ k. StacksFit Ahead ts (suc n) (suc k))
StacksFit Ahead (Addresses ∷ ts) n m = With 1 m (λ k. StacksFit Ahead ts (suc n) k)
StacksFit Ahead (AppliesUnary of op ∷ ts) n m = With 1 n (λ k. StacksFit Ahead ts (suc k) m)
StacksFit Ahead (AppliesBinary within op ∷ ts) n m = With 2 n (λ k. StacksFit Ahead ts (suc k) m)
StacksFit Ahead (AndThen b ∷ ts) n m = With 1 n (λ k. StacksFit Ahead ts (suc k) m)
StacksFit Ahead (OrElse b ∷ ts) n m = With 1 n (λ k. StacksFit Ahead ts (suc k) m)
StacksFit Ahead (Truth ∷ ts) n m = With 1 n (λ k. StacksFit Ahead ts (suc k) m)
StacksFit Ahead (Chooses of a b ∷ ts) n m = With 1 n (λ k. StacksFit Ahead ts (suc k) m)
StacksFit Ahead (Converts to ∷ ts) n m = With 1 n (λ k. StacksFit Ahead ts (suc k) m)
StacksFit Ahead (Stores of ∷ ts) n m = With 1 n (λ k. With 1 m (λ j. StacksFit Ahead ts (suc k) j))
StacksFit Ahead (Updates of within op ∷ ts) n m = With 2 n (λ k. With 1 m (λ j. StacksFit Ahead ts (suc k) j))
StacksFit Ahead (Steps of op ∷ ts) n m = With 1 n (λ k. With 1 m (λ j. StacksFit Ahead ts (suc k) j))
StacksFit Ahead (Drops ∷ ts) n m = With 1 n (λ k. StacksFit Ahead ts k m)
StacksFit Ahead (Passes function arguments count ∷ ts) n m = With count n (λ k. StacksFit Ahead ts (suc k) m)
StacksFit Ahead (Puts ∷ ts) n m = With 1 n (λ k. StacksFit Ahead ts (suc k) m)
StacksFit Ahead (Exits ∷ ts) n m = With 1 n (λ k. StacksFit Ahead ts (suc k) m)
StacksFit Ahead (Declares item ∷ ts) n m = StacksFit Ahead ts n m
StacksFit Ahead (DeclaresAll items ∷ ts) n m = StacksFit Ahead ts n m
StacksFit Ahead (Initialises local of ∷ ts) n m = With 1 n (λ k. StacksFit Ahead ts k m)
StacksFit Ahead (Fills array element i es ∷ ts) n m = StacksFit Ahead ts n m
StacksFit Ahead (FillsElement array element i es ∷ ts) n m = With 1 n (λ k. StacksFit Ahead ts k m)
StacksFit Ahead (Executes x ∷ ts) n m = EachWay (λ way k. StacksFit way ts k m) n
StacksFit Ahead (Follows xs ∷ ts) n m = EachWay (λ way k. StacksFit way ts k m) n
StacksFit Ahead (Branches a b ∷ ts) n m = With 1 n (λ j. EachWay (λ way k. StacksFit way ts k m) j)
StacksFit Ahead (Loops test after body ∷ ts) n m = EachWay (λ way k. StacksFit way ts k m) n
StacksFit Ahead (LoopTest test after body ∷ ts) n m = With 1 n (λ j. EachWay (λ way k. StacksFit way ts k m) j)
StacksFit Ahead (LoopBody test after body ∷ ts) n m = EachWay (λ way k. StacksFit way ts k m) n
StacksFit Breaking (LoopBody test after body ∷ ts) n m = StacksFit Ahead ts n m
StacksFit Continuing (LoopBody test after body ∷ ts) n m = EachWay (λ way k. StacksFit way ts k m) n
StacksFit Ahead (DoLoops body test ∷ ts) n m = EachWay (λ way k. StacksFit way ts k m) n
StacksFit Ahead (DoBody body test ∷ ts) n m = EachWay (λ way k. StacksFit way ts k m) n
StacksFit Breaking (DoBody body test ∷ ts) n m = StacksFit Ahead ts n m
StacksFit Continuing (DoBody body test ∷ ts) n m = EachWay (λ way k. StacksFit way ts k m) n
StacksFit Ahead (DoTest body test ∷ ts) n m = With 1 n (λ j. EachWay (λ way k. StacksFit way ts k m) j)
StacksFit Ahead (Switches labels body ∷ ts) n m = With 1 n (λ j. EachWay (λ way k. StacksFit way ts k m) j)
StacksFit Ahead (SwitchBody ∷ ts) n m = StacksFit Ahead ts n m
StacksFit Breaking (SwitchBody ∷ ts) n m = StacksFit Ahead ts n m
StacksFit Ahead (ReturnsValue result ∷ ts) n m = With 1 n (λ k. StacksFit Returning ts (suc k) m)
StacksFit Returning (ReturnsTo caller ∷ ts) n m = With 1 n (λ k. StacksFit Ahead ts (suc k) m)
StacksFit way (ReturnsTo caller ∷ ts) n m = StacksFit Ahead ts (suc n) m
StacksFit way (task ∷ ts) n m = StacksFit way ts n m

-- after a step, where it goes on
abbrev pub StacksFitAfter : Stepped → Type 0
StacksFitAfter (Gives c t) = StacksFit c.way c.tasks (length c.values) (length c.places)
StacksFitAfter (Ends end t) = Unit {0}

-- how many values and places a task takes from the stacks, or looks at there
abbrev pub values_taken : Task → ℕ
values_taken Points = 1
values_taken (AppliesUnary of op) = 1
values_taken (AppliesBinary within op) = 2
values_taken (AndThen b) = 1
values_taken (OrElse b) = 1
values_taken Truth = 1
values_taken (Chooses of a b) = 1
values_taken (Converts to) = 1
values_taken (Stores of) = 1
values_taken (Updates of within op) = 2
values_taken (Steps of op) = 1
values_taken Drops = 1
values_taken (Passes function arguments count) = count
values_taken Puts = 1
values_taken Exits = 1
values_taken (Initialises local of) = 1
values_taken (FillsElement array element i es) = 1
values_taken (Branches a b) = 1
values_taken (LoopTest test after body) = 1
values_taken (DoTest body test) = 1
values_taken (Switches labels body) = 1
values_taken (ReturnsValue result) = 1
values_taken _ = 0

abbrev pub places_taken : Task → ℕ
places_taken Loads = 1
places_taken LoadsOld = 1
places_taken Addresses = 1
places_taken (Stores of) = 1
places_taken (Updates of within op) = 1
places_taken (Steps of op) = 1
places_taken _ = 0
