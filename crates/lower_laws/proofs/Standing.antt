-- Operands of any type: a value stands in variables for the next op, and stays there through what is evaluated behind
-- it.
use Rattle.std.proofs.Common.{◌≡◌, ◌≢◌, ℕ, suc, ◌+◌, ◌≤◌, Bool, true, false, List, [], ◌∷◌, ◌++◌}
use Rattle.std.proofs.Common.{Option, Some, None, refl, sym, subst, append-nil}
use Rattle.std.specs.Prelude.{slice_get}
use Rattle.pcc_base.specs.Outcome.{Visit}
use Rattle.c_tree.specs.declared.types.ValueType.{ValueType}
use Rattle.c_tree.specs.declared.types.ValueType.TheVariants.{Void}
use Rattle.c_tree.specs.Program.{Function, Local}
use Rattle.c_tree.specs.Store as source
use Rattle.c_tree.specs.Store.{Evaluated, Gives, Ends, Held, HoldsNumber, HoldsPointer, held}
use Rattle.flow_graph.specs.States as graph
use Rattle.lower_lines.specs.Following.{Begins, Comes, EndsSo, Follows, GivesOf, GoesInto, Lowers, Site, Stand}
use Rattle.lower_lines.specs.Following.{behind, context_of}
use Rattle.lower_lines.specs.Lines.{Line}
use Rattle.lower_lines.specs.Parts.{Own, Part, if_stays, operand, standing}
use Rattle.lower_lines.specs.Relation.{HoldsAt, IsOf, Keeps, Shows}
use Rattle.lower_lines.specs.Variables.{Spot, levels_of, local_spot, local_variables, own}
use Rattle.lower_lines.proofs.Changes.{kept-none}
use Rattle.lower_laws.proofs.Going.{Goes}
use Rattle.lower_laws.proofs.Made.{some-and}
use Rattle.lower_laws.proofs.Both.{local-holds, own-again}

-- Wherever lines of the next level lead, the value is in the spot; one that stays where a local stands does so as long
-- as nothing is stored.
abbrev pub Remains : Site → List Function → Bool → ℕ → ValueType → Spot → source.State → graph.State → Held → Type 0
Remains S active stays level of spot t h value =
    (w : source.State) (i : graph.State) → (stays ≡ true → w ≡ t) → Shows S.program active w i
    → Keeps (local_variables S.function) (suc level) h i → HoldsAt i.current.variables of spot value

-- what the lines of an operand come to
abbrev pub Stays : Site → List Function → Bool → List Line → List Line → ℕ → ValueType → Spot → source.State
    → graph.State → Evaluated Held → Type 0
Stays S active stays before lines level of spot s g (Gives value t) =
    (h : graph.State) × (visits : List Visit) × Shows S.program active t h
    × Keeps (local_variables S.function) level g h × (t.visits ≡ s.visits ++ visits)
    × Remains S active stays level of spot t h value × IsOf S.program active of value
    × Goes S s.turns (behind before g) t.turns (behind (before ++ lines) h) visits
Stays S active stays before lines level of spot s g (Ends end t) = EndsSo S end s t (behind before g)

-- ---- in its own temporaries

own-stays : (S : Site) (active : List Function) (stays : Bool) (before lines : List Line) (level : ℕ) (of : ValueType)
    (s : source.State) (g : graph.State) (r : Evaluated Held) → Follows S active before lines level Own of s g r
    → GivesOf S.program active of r → Stays S active stays before lines level of (own (context_of S) level) s g r
own-stays S active stays before lines level of s g (Ends end t) follows typed = follows
own-stays S active stays before lines level of s g (Gives value t) (h, us, shows, keeps, holds, seen, goes) typed = (
  h,
  us,
  shows,
  keeps,
  seen,
  λ w i same again kept. own-again S level h i of value kept holds,
  typed,
  goes,
)

-- ---- where a local stands

local-stays : (S : Site) (older : List Function) (before : List Line) (level k : ℕ) (l : Local) (of : ValueType)
    (s : source.State) (g : graph.State) → slice_get S.function.locals k ≡ Some l → l.of ≡ of
    → Shows S.program (S.function ∷ older) s g
    → Stays S (S.function ∷ older) true before [] level of (local_spot (context_of S) k) s g (Gives (held s k) s)
local-stays S older before level k l of s g e is shows = (
  g,
  [],
  shows,
  kept-none (local_variables S.function) level g,
  sym (append-nil s.visits),
  λ w i same again kept. subst (λ (u : source.State). HoldsAt i.current.variables of (local_spot (context_of S) k)
      (held u k)) (same refl) (local-holds S older k l of e is w i again).0,
  (local-holds S older k l of e is s g shows).1,
  λ o c. subst (λ (ls : List Line). Comes S s.turns (behind ls g) o) (append-nil before) c,
)

-- ---- an operand, whatever is evaluated after it

standing-stays : (S : Site) (older : List Function) (a : Part) (run : source.State → Evaluated Held) → Lowers S a run
    → a.of ≢ Void → (stays : Bool) (spot : Option Spot) → a.stands ≡ spot → (block level : ℕ) (before : List Line)
    (s : source.State) (g : graph.State)
    → Stand S before ((standing (context_of S) a (if_stays stays spot)).lines block level)
    → level + a.levels ≤ levels_of S.function → Begins S (S.function ∷ older) s g
    → Stays S (S.function ∷ older) stays before ((standing (context_of S) a (if_stays stays spot)).lines block level)
    level a.of ((standing (context_of S) a (if_stays stays spot)).spot level) s g (run s)
standing-stays S older a run lowers scalar false spot at block level before s g stands room b =
    own-stays S (S.function ∷ older) false before (a.lines block level Own) level a.of s g (run s)
    (lowers.follows (S.function ∷ older) block level Own before s g stands room scalar b)
    (lowers.typed (S.function ∷ older) block level Own before s g stands room scalar b)
standing-stays S older a run lowers scalar true None at block level before s g stands room b =
    own-stays S (S.function ∷ older) true before (a.lines block level Own) level a.of s g (run s)
    (lowers.follows (S.function ∷ older) block level Own before s g stands room scalar b)
    (lowers.typed (S.function ∷ older) block level Own before s g stands room scalar b)
standing-stays S older a run lowers scalar true (Some p) at block level before s g stands room b =
    let (k, is, there, gives) = lowers.stands p at in
    let (l, e, same) = some-and (slice_get S.function.locals k) (λ m. (m.of ≡ a.of) × GoesInto a.of m.of) there in
    subst (λ (r : Evaluated Held). Stays S (S.function ∷ older) true before [] level a.of p s g r) (sym (gives s))
    (subst (λ (q : Spot). Stays S (S.function ∷ older) true before [] level a.of q s g (Gives (held s k) s)) (sym is)
    (local-stays S older before level k l a.of s g e same.0 b.shows))

pub operand-stays : (S : Site) (older : List Function) (a : Part) (run : source.State → Evaluated Held)
    → Lowers S a run → a.of ≢ Void → (stays : Bool) (block level : ℕ) (before : List Line) (s : source.State)
    (g : graph.State) → Stand S before ((operand (context_of S) stays a).lines block level)
    → level + a.levels ≤ levels_of S.function → Begins S (S.function ∷ older) s g
    → Stays S (S.function ∷ older) stays before ((operand (context_of S) stays a).lines block level) level a.of
    ((operand (context_of S) stays a).spot level) s g (run s)
operand-stays S older a run lowers scalar stays block level before s g stands room b =
    standing-stays S older a run lowers scalar stays a.stands refl block level before s g stands room b
