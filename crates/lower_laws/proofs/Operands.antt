-- Operands: a number that stands in a variable for the next op, which has lines or is a local where it stands.
use Rattle.std.proofs.Common.{◌≡◌, ◌≢◌, ℕ, ◌+◌, ◌≤◌, true, ℤ, List, [], ◌∷◌, ◌++◌, Option}
use Rattle.std.proofs.Common.{Some, None, refl, sym, ap, ◌∙◌, subst, append-nil}
use Rattle.std.specs.Prelude.{slice_get}
use Rattle.pcc_base.specs.Outcome.{Visit}
use Rattle.c_tree.specs.declared.types.IntegerType.{IntegerType}
use Rattle.c_tree.specs.declared.types.ValueType.{ValueType}
use Rattle.c_tree.specs.declared.types.ValueType.TheVariants.{Void, Integer}
use Rattle.c_tree.specs.Evaluation.{type_of}
use Rattle.c_tree.specs.Program.{Local, Function}
use Rattle.c_tree.specs.Store as source
use Rattle.c_tree.specs.Store.{Evaluated, Gives, Ends, Held, HoldsNumber, held}
use Rattle.flow_graph.specs.States as graph
use Rattle.flow_graph.specs.States.{number_at, number_of}
use Rattle.lower_lines.specs.Following.{Begins, Comes, EndsSo, Follows, GoesInto, Lowers, Site, Stand, behind}
use Rattle.lower_lines.specs.Following.{context_of}
use Rattle.lower_lines.specs.Lines.{Line}
use Rattle.lower_lines.specs.Parts.{Own, Part, operand, standing}
use Rattle.lower_lines.specs.Relation.{HoldsAt, Keeps, Shows}
use Rattle.lower_lines.specs.Shown.{first_variable}
use Rattle.lower_lines.specs.Variables.{Spot, levels_of, local_spot, local_variables, own, typed_spot}
use Rattle.lower_lines.proofs.Changes.{kept-none, locals-held}
use Rattle.lower_laws.proofs.Atoms.{held-number}
use Rattle.lower_laws.proofs.Going.{Goes}
use Rattle.lower_laws.proofs.Made.{some-and}

-- what the lines of an operand that is a number come to
abbrev pub NumberStands : Site → List Function → List Line → List Line → ℕ → Spot → source.State → graph.State
    → Evaluated Held → Type 0
NumberStands S active before lines level spot s g (Gives value t) =
    (h : graph.State) × (visits : List Visit) × (n : ℤ) × (value ≡ HoldsNumber n) × Shows S.program active t h
    × Keeps (local_variables S.function) level g h × (t.visits ≡ s.visits ++ visits)
    × (number_at h spot.number ≡ Some n)
    × Goes S s.turns (behind before g) t.turns (behind (before ++ lines) h) visits
NumberStands S active before lines level spot s g (Ends end t) = EndsSo S end s t (behind before g)

-- with lines: its own temporaries have it
own-stands : (S : Site) (active : List Function) (before lines : List Line) (level : ℕ) (u : IntegerType)
    (s : source.State) (g : graph.State) (run : Evaluated Held)
    → Follows S active before lines level Own (Integer u) s g run
    → NumberStands S active before lines level (own (context_of S) level) s g run
own-stands S active before lines level u s g (Ends end t) h = h
own-stands S active before lines level u s g (Gives value t) (h, visits, shows, keeps, holds, seen, goes) =
    let (n, is, there) = held-number h.current.variables u (own (context_of S) level) value holds in
    (h, visits, n, is, shows, keeps, seen, ap number_of there, goes)

-- where it stands: the variable of a local has it
pub local-stands : (S : Site) (older : List Function) (before : List Line) (level k : ℕ) (l : Local) (u : IntegerType)
    (s : source.State) (g : graph.State) → slice_get S.function.locals k ≡ Some l → l.of ≡ Integer u
    → Shows S.program (S.function ∷ older) s g
    → NumberStands S (S.function ∷ older) before [] level (local_spot (context_of S) k) s g (Gives (held s k) s)
local-stands S older before level k l u s g e of shows =
    let v = first_variable S.function.locals k in
    let at = (locals-held S.program S.function older s g k l shows e).0 in
    let (n, is, there) = held-number g.current.variables u (typed_spot (Integer u) v) (held s k)
    (subst (λ (m : ValueType). HoldsAt g.current.variables m (typed_spot m v) (held s k)) of at) in
    let spot : (local_spot (context_of S) k).number ≡ v =
    ap (λ (o : Option Local). (typed_spot (type_of o) v).number) e
    ∙ ap (λ (m : ValueType). (typed_spot m v).number) of in (
      g,
      [],
      n,
      is,
      shows,
      kept-none (local_variables S.function) level g,
      sym (append-nil s.visits),
      ap (number_at g) spot ∙ ap number_of there,
      λ o r. subst (λ (ls : List Line). Comes S s.turns (behind ls g) o) (append-nil before) r,
    )

pub integer-not-void : (u : IntegerType) → Integer u ≢ Void
integer-not-void u e = cc

-- either way
pub standing-number : (S : Site) (older : List Function) (a : Part) (run : source.State → Evaluated Held)
    (u : IntegerType) (spot : Option Spot) → ((p : Spot) → spot ≡ Some p → a.stands ≡ Some p) → Lowers S a run
    → a.of ≡ Integer u → (block level : ℕ) (before : List Line) (s : source.State) (g : graph.State)
    → Stand S before ((standing (context_of S) a spot).lines block level) → level + a.levels ≤ levels_of S.function
    → Begins S (S.function ∷ older) s g
    → NumberStands S (S.function ∷ older) before ((standing (context_of S) a spot).lines block level) level
    ((standing (context_of S) a spot).spot level) s g (run s)
standing-number S older a run u None from lowers of block level before s g stands room b =
    own-stands S (S.function ∷ older) before (a.lines block level Own) level u s g (run s)
    (subst (λ (m : ValueType). Follows S (S.function ∷ older) before (a.lines block level Own) level Own m s g (run s))
    of
    (lowers.follows (S.function ∷ older) block level Own before s g stands room
    (subst (λ (m : ValueType). m ≢ Void) (sym of) (integer-not-void u)) b))
standing-number S older a run u (Some p) from lowers of block level before s g stands room b =
    let (k, is, there, gives) = lowers.stands p (from p refl) in
    let (l, e, same) = some-and (slice_get S.function.locals k) (λ m. (m.of ≡ a.of) × GoesInto a.of m.of) there in
    subst (λ (r : Evaluated Held). NumberStands S (S.function ∷ older) before [] level p s g r) (sym (gives s))
    (subst (λ (q : Spot). NumberStands S (S.function ∷ older) before [] level q s g (Gives (held s k) s)) (sym is)
    (local-stands S older before level k l u s g e (same.0 ∙ of) b.shows))

-- an operand after which nothing is evaluated
pub number-operand : (S : Site) (older : List Function) (a : Part) (run : source.State → Evaluated Held)
    (u : IntegerType) → Lowers S a run → a.of ≡ Integer u → (block level : ℕ) (before : List Line) (s : source.State)
    (g : graph.State) → Stand S before ((operand (context_of S) true a).lines block level)
    → level + a.levels ≤ levels_of S.function → Begins S (S.function ∷ older) s g
    → NumberStands S (S.function ∷ older) before ((operand (context_of S) true a).lines block level) level
    ((operand (context_of S) true a).spot level) s g (run s)
number-operand S older a run u lowers of block level before s g stands room b =
    standing-number S older a run u a.stands (λ p e. e) lowers of block level before s g stands room b
