-- Two operands that are numbers: where nothing that is evaluated after the first one stores anything, it may stand in
-- the variable of a local.
use Rattle.std.proofs.Common.{◌≡◌, ◌⊎◌, ℕ, suc, ◌+◌, ◌*◌, ◌<◌, ◌≤◌, Bool, true, false, ℤ, List, ◌∷◌, ◌++◌, max}
use Rattle.std.proofs.Common.{Option, Some, None, refl, sym, ap, ◌∙◌, subst, arith, append_assoc, inl, inr, length}
use Rattle.std.proofs.Math.Nat.{le-max_left, le-max_right}
use Rattle.std.specs.Prelude.{slice_get}
use Rattle.pcc_base.specs.Outcome.{Visit}
use Rattle.c_eval_laws.specs.Bounds.{state_of}
use Rattle.c_tree.specs.declared.types.IntegerType.{IntegerType}
use Rattle.c_tree.specs.declared.types.ValueType.{ValueType}
use Rattle.c_tree.specs.declared.types.ValueType.TheVariants.{Integer}
use Rattle.c_tree.specs.Evaluation.{type_of}
use Rattle.c_tree.specs.Program.{Local, Function}
use Rattle.c_tree.specs.Store as source
use Rattle.c_tree.specs.Store.{Evaluated, Gives, Ends, Held, HoldsNumber, held}
use Rattle.flow_graph.specs.States as graph
use Rattle.flow_graph.specs.States.{number_at, number_of}
use Rattle.lower_lines.specs.Following.{Begins, EndsSo, GivesAlone, GoesInto, Lowers, Site, Stand}
use Rattle.lower_lines.specs.Following.{behind, context_of}
use Rattle.lower_lines.specs.Lines.{Line}
use Rattle.lower_lines.specs.Parts.{Part, if_stays, operand, standing}
use Rattle.lower_lines.specs.Relation.{HoldsAt, Keeps, Shows}
use Rattle.lower_lines.specs.Shown.{first_variable, type_widths}
use Rattle.lower_lines.specs.Variables.{Spot, levels_of, local_spot, local_variables, own, typed_spot}
use Rattle.lower_lines.proofs.Changes.{kept-below, kept-twice, locals-held, one-variable as some-width}
use Rattle.lower_lines.proofs.Locals.{local-within}
use Rattle.lower_laws.proofs.Atoms.{held-number}
use Rattle.lower_laws.proofs.Going.{Goes, goes-end, goes-then, stand-back, stand-front}
use Rattle.lower_laws.proofs.Made.{some-and}
use Rattle.lower_laws.proofs.Operands.{NumberStands, number-operand, standing-number}

-- an evaluation after which there are no more turns than before
abbrev pub Falls : (source.State → Evaluated Held) → Type 0
Falls run = (s : source.State) → (state_of (run s)).turns ≤ s.turns

-- lines one after another
pub goes-both : (S : Site) (turns left last : ℕ) (g h i : graph.State) (before xs ys : List Line) (us vs : List Visit)
    → Goes S turns (behind before g) left (behind (before ++ xs) h) us
    → Goes S left (behind (before ++ xs) h) last (behind ((before ++ xs) ++ ys) i) vs
    → Goes S turns (behind before g) last (behind (before ++ (xs ++ ys)) i) (us ++ vs)
goes-both S turns left last g h i before xs ys us vs first second =
    subst (λ (ls : List Line). Goes S turns (behind before g) last (behind ls i) (us ++ vs)) (append_assoc before xs ys)
    (goes-then S turns left last (behind before g) (behind (before ++ xs) h) (behind ((before ++ xs) ++ ys) i) us vs
    first second)

-- ---- where operands stand

-- a variable where an operand stands: that of the level's own temporaries, or a local's
abbrev pub IsPlaced : Site → ℕ → ℕ → Type 0
IsPlaced S level v = (v ≡ (own (context_of S) level).number) ⊎ (v < local_variables S.function)

pub local-below : (S : Site) (k : ℕ) (l : Local) (u : IntegerType) → slice_get S.function.locals k ≡ Some l
    → l.of ≡ Integer u → (local_spot (context_of S) k).number < local_variables S.function
local-below S k l u e of =
    let v = first_variable S.function.locals k in
    let spot : (local_spot (context_of S) k).number ≡ v =
    ap (λ (o : Option Local). (typed_spot (type_of o) v).number) e
    ∙ ap (λ (m : ValueType). (typed_spot m v).number) of in
    let within = local-within S.function.locals k l e in
    let long : length (type_widths l.of) ≡ 1 = ap (λ (m : ValueType). length (type_widths m)) of ∙ some-width u in
    omega (arith, spot, within, long)

standing-placed : (S : Site) (a : Part) (run : source.State → Evaluated Held) (u : IntegerType) (spot : Option Spot)
    → ((p : Spot) → spot ≡ Some p → a.stands ≡ Some p) → Lowers S a run → a.of ≡ Integer u → (level : ℕ)
    → IsPlaced S level ((standing (context_of S) a spot).spot level).number
standing-placed S a run u None from lowers of level = inl refl
standing-placed S a run u (Some p) from lowers of level =
    let (k, is, there, gives) = lowers.stands p (from p refl) in
    let (l, e, same) = some-and (slice_get S.function.locals k) (λ m. (m.of ≡ a.of) × GoesInto a.of m.of) there in
    inr (subst (λ (q : Spot). q.number < local_variables S.function) (sym is) (local-below S k l u e (same.0 ∙ of)))

-- what stands there, where nothing is stored after it or anything is
pub from-stays : (stays : Bool) (spot : Option Spot) (p : Spot) → if_stays stays spot ≡ Some p → spot ≡ Some p
from-stays true spot p e = e
from-stays false spot p e = absurd (cc)

pub operand-placed : (S : Site) (a : Part) (run : source.State → Evaluated Held) (u : IntegerType) (stays : Bool)
    → Lowers S a run → a.of ≡ Integer u → (level : ℕ)
    → IsPlaced S level ((operand (context_of S) stays a).spot level).number
operand-placed S a run u stays lowers of level =
    standing-placed S a run u (if_stays stays a.stands) (from-stays stays a.stands) lowers of level

-- an operand, whatever is evaluated after it
pub any-operand : (S : Site) (older : List Function) (a : Part) (run : source.State → Evaluated Held)
    (u : IntegerType) (stays : Bool) → Lowers S a run → a.of ≡ Integer u → (block level : ℕ) (before : List Line)
    (s : source.State) (g : graph.State) → Stand S before ((operand (context_of S) stays a).lines block level)
    → level + a.levels ≤ levels_of S.function → Begins S (S.function ∷ older) s g
    → NumberStands S (S.function ∷ older) before ((operand (context_of S) stays a).lines block level) level
    ((operand (context_of S) stays a).spot level) s g (run s)
any-operand S older a run u stays lowers of block level before s g stands room b =
    standing-number S older a run u (if_stays stays a.stands) (from-stays stays a.stands) lowers of block level before s
    g stands room b

-- ---- the first of two stays

-- its own temporaries are below the second one's level
pub own-stays : (S : Site) (level : ℕ) (h i : graph.State) (m : ℤ) → Keeps (local_variables S.function) (suc level) h i
    → number_at h (own (context_of S) level).number ≡ Some m
    → number_at i (own (context_of S) level).number ≡ Some m
own-stays S level h i m keeps at =
    ap number_of (keeps.temporaries (own (context_of S) level).number (low (local_variables S.function) (level * 5))
    (high (local_variables S.function) level)) ∙ at
  where
    low : (a b : ℕ) → a ≤ a + b + 1
    low a b = omega arith

    high : (a b : ℕ) → a + b * 5 + 1 < a + suc b * 5
    high a b = omega arith

-- a local's variable has the number that the source has
pub local-number : (S : Site) (older : List Function) (k : ℕ) (l : Local) (u : IntegerType) (v : source.State)
    (i : graph.State) → slice_get S.function.locals k ≡ Some l → l.of ≡ Integer u
    → Shows S.program (S.function ∷ older) v i
    → (n : ℤ) × (held v k ≡ HoldsNumber n) × (number_at i (local_spot (context_of S) k).number ≡ Some n)
local-number S older k l u v i e of shows =
    let w = first_variable S.function.locals k in
    let at = (locals-held S.program S.function older v i k l shows e).0 in
    let (n, is, there) = held-number i.current.variables u (typed_spot (Integer u) w) (held v k)
    (subst (λ (m : ValueType). HoldsAt i.current.variables m (typed_spot m w) (held v k)) of at) in
    let spot : (local_spot (context_of S) k).number ≡ w =
    ap (λ (o : Option Local). (typed_spot (type_of o) w).number) e
    ∙ ap (λ (m : ValueType). (typed_spot m w).number) of in
    (n, is, ap (number_at i) spot ∙ ap number_of there)

-- a local is what it was where nothing was stored
alone-same : (s : source.State) (r : Evaluated Held) (value : Held) (t : source.State) → GivesAlone s r
    → r ≡ Gives value t → t ≡ s
alone-same s (Gives value t) other u alone e = sym (cc) ∙ alone
alone-same s (Ends end t) other u alone e = absurd alone

pub same-gives : (x y : Held) (s t : source.State) → Gives x s ≡ Gives y t → (x ≡ y) × (s ≡ t)
same-gives x y s t e = (cc, cc)

pub same-number : (m n : ℤ) → HoldsNumber m ≡ HoldsNumber n → m ≡ n
same-number m n e = cc

pub stays-by : (S : Site) (older : List Function) (a b : Part) (run run' : source.State → Evaluated Held)
    (u : IntegerType) → Lowers S a run → a.of ≡ Integer u → Lowers S b run' → (simple : Bool) → b.simple ≡ simple
    → (spot : Option Spot) → a.stands ≡ spot → (level : ℕ) (s t v : source.State) (h i : graph.State)
    (first second : Held) (m : ℤ) → run s ≡ Gives first t → run' t ≡ Gives second v
    → Begins S (S.function ∷ older) t h → Shows S.program (S.function ∷ older) v i
    → Keeps (local_variables S.function) (suc level) h i → first ≡ HoldsNumber m
    → number_at h ((standing (context_of S) a (if_stays simple spot)).spot level).number ≡ Some m
    → number_at i ((standing (context_of S) a (if_stays simple spot)).spot level).number ≡ Some m
stays-by S older a b run run' u la of lb false same spot stands level s t v h i first second m ea eb begins shows keeps
    is at = own-stays S level h i m keeps at
stays-by S older a b run run' u la of lb true same None stands level s t v h i first second m ea eb begins shows keeps
    is at = own-stays S level h i m keeps at
stays-by S older a b run run' u la of lb true same (Some p) stands level s t v h i first second m ea eb begins shows
    keeps is at =
    let (k, spot, there, gives) = la.stands p stands in
    let (l, e, types) = some-and (slice_get S.function.locals k) (λ m. (m.of ≡ a.of) × GoesInto a.of m.of) there in
    let parts = same-gives (held s k) first s t (sym (gives s) ∙ ea) in
    let alone = alone-same t (run' t) second v (lb.simple same (S.function ∷ older) t h begins) eb in
    let value : held v k ≡ HoldsNumber m =
    ap (λ (w : source.State). held w k) (alone ∙ sym parts.1) ∙ parts.0 ∙ is in
    stays-at S older k l u v i p m e (types.0 ∙ of) shows spot value
  where
    stays-at : (S : Site) (older : List Function) (k : ℕ) (l : Local) (u : IntegerType) (v : source.State)
        (i : graph.State) (p : Spot) (m : ℤ) → slice_get S.function.locals k ≡ Some l → l.of ≡ Integer u
        → Shows S.program (S.function ∷ older) v i → p ≡ local_spot (context_of S) k → held v k ≡ HoldsNumber m
        → number_at i p.number ≡ Some m
    stays-at S older k l u v i p m e of shows spot value =
        let (n, is, at) = local-number S older k l u v i e of shows in
        ap (λ (q : Spot). number_at i q.number) spot ∙ at ∙ ap (λ (n : ℤ). Some n) (same-number n m (sym is ∙ value))

-- ---- both

-- what the lines of two operands come to
abbrev pub SecondStands : Site → List Function → List Line → List Line → ℕ → ℕ → ℕ → Held → source.State
    → graph.State → Evaluated Held → Type 0
SecondStands S active before lines level x y first s g (Gives value u) =
    (h : graph.State) × (visits : List Visit) × (m : ℤ) × (n : ℤ) × (first ≡ HoldsNumber m)
    × (value ≡ HoldsNumber n) × Shows S.program active u h × Keeps (local_variables S.function) level g h
    × (u.visits ≡ s.visits ++ visits) × (number_at h x ≡ Some m) × (number_at h y ≡ Some n)
    × Goes S s.turns (behind before g) u.turns (behind (before ++ lines) h) visits
SecondStands S active before lines level x y first s g (Ends end t) = EndsSo S end s t (behind before g)

abbrev pub BothStand : Site → List Function → List Line → List Line → ℕ → ℕ → ℕ → source.State → graph.State
    → Evaluated Held → (source.State → Evaluated Held) → Type 0
BothStand S active before lines level x y s g (Gives first t) run =
    SecondStands S active before lines level x y first s g (run t)
BothStand S active before lines level x y s g (Ends end t) run = EndsSo S end s t (behind before g)

-- the lines of the first operand, and of the second one
abbrev pub first_lines : Site → Part → Part → ℕ → ℕ → List Line
first_lines S a b block level = (operand (context_of S) b.simple a).lines block level

abbrev pub second_lines : Site → Part → Part → ℕ → ℕ → List Line
second_lines S a b block level =
    (operand (context_of S) true b).lines (block + (operand (context_of S) b.simple a).blocks) (suc level)

second-stands : (S : Site) (older : List Function) (a b : Part) (run run' : source.State → Evaluated Held)
    (t u : IntegerType) (la : Lowers S a run) (of : a.of ≡ Integer t) (lb : Lowers S b run') (of' : b.of ≡ Integer u)
    (block level : ℕ) (before : List Line) (s : source.State) (g : graph.State) (first : Held) (v : source.State)
    → run s ≡ Gives first v → v.turns ≤ s.turns
    → Stand S before (first_lines S a b block level ++ second_lines S a b block level)
    → level + max a.levels (suc b.levels) ≤ levels_of S.function → Begins S (S.function ∷ older) s g
    → NumberStands S (S.function ∷ older) before (first_lines S a b block level) level
    ((operand (context_of S) b.simple a).spot level) s g (Gives first v)
    → SecondStands S (S.function ∷ older) before (first_lines S a b block level ++ second_lines S a b block level) level
    ((operand (context_of S) b.simple a).spot level).number ((operand (context_of S) true b).spot (suc level)).number
    first s g (run' v)
second-stands S older a b run run' t u la of lb of' block level before s g first v ea falls stands room begins
    (h, us, m, is, shows, keeps, seen, at, goes) =
    by (run' v) refl
    (number-operand S older b run' u lb of' (block + (operand (context_of S) b.simple a).blocks) (suc level)
    (before ++ first_lines S a b block level) v h
    (stand-back S before (first_lines S a b block level) (second_lines S a b block level) stands) deeper again)
  where
    deeper : suc level + b.levels ≤ levels_of S.function
    deeper = let m = le-max_right a.levels (suc b.levels) in omega (arith, room, m)

    again : Begins S (S.function ∷ older) v h
    again = record {
      shows = shows;
      function = keeps.function ∙ begins.function;
      youngest = refl;
      turns = fewer v.turns s.turns S.bound falls begins.turns;
    }
      where
        fewer : (i j k : ℕ) → i ≤ j → j < k → i < k
        fewer i j k p q = omega (arith, p, q)

    by : (r : Evaluated Held) → run' v ≡ r
        → NumberStands S (S.function ∷ older) (before ++ first_lines S a b block level)
        (second_lines S a b block level) (suc level) ((operand (context_of S) true b).spot (suc level))
        v h r
        → SecondStands S (S.function ∷ older) before
        (first_lines S a b block level ++ second_lines S a b block level) level
        ((operand (context_of S) b.simple a).spot level).number
        ((operand (context_of S) true b).spot (suc level)).number first s g r
    by (Ends end w) eb ends =
        goes-end S end s v w (behind before g) (behind (before ++ first_lines S a b block level) h) us seen goes ends
    by (Gives second w) eb (i, vs, n, is', shows', keeps', seen', at', goes') = (
      i,
      us ++ vs,
      m,
      n,
      is,
      is',
      shows',
      kept-twice (local_variables S.function) level g h i keeps
          (kept-below (local_variables S.function) level (suc level) h i (omega arith) keeps'),
      seen' ∙ ap (λ (ws : List Visit). ws ++ vs) seen ∙ append_assoc s.visits us vs,
      stays-by S older a b run run' t la of lb b.simple refl a.stands refl level s v w h i first second m ea eb again
          shows' keeps' is at,
      at',
      goes-both S s.turns v.turns w.turns g h i before (first_lines S a b block level) (second_lines S a b block level)
          us vs goes goes',
    )

-- two operands, the second one after the first
pub both-operands : (S : Site) (older : List Function) (a b : Part) (run run' : source.State → Evaluated Held)
    (t u : IntegerType) → Lowers S a run → a.of ≡ Integer t → Lowers S b run' → b.of ≡ Integer u → Falls run
    → (block level : ℕ) (before : List Line) (s : source.State) (g : graph.State)
    → Stand S before (first_lines S a b block level ++ second_lines S a b block level)
    → level + max a.levels (suc b.levels) ≤ levels_of S.function → Begins S (S.function ∷ older) s g
    → BothStand S (S.function ∷ older) before (first_lines S a b block level ++ second_lines S a b block level) level
    ((operand (context_of S) b.simple a).spot level).number ((operand (context_of S) true b).spot (suc level)).number
    s g (run s) run'
both-operands S older a b run run' t u la of lb of' falls block level before s g stands room begins =
    by (run s) refl (falls s)
    (any-operand S older a run t b.simple la of block level before s g (stand-front S before _ _ stands) higher begins)
  where
    higher : level + a.levels ≤ levels_of S.function
    higher = let m = le-max_left a.levels (suc b.levels) in omega (arith, room, m)

    by : (r : Evaluated Held) → run s ≡ r → (state_of r).turns ≤ s.turns
        → NumberStands S (S.function ∷ older) before (first_lines S a b block level) level
        ((operand (context_of S) b.simple a).spot level) s g r
        → BothStand S (S.function ∷ older) before (first_lines S a b block level ++ second_lines S a b block level)
        level
        ((operand (context_of S) b.simple a).spot level).number
        ((operand (context_of S) true b).spot (suc level)).number s g r run'
    by (Ends end w) ea fall ends = ends
    by (Gives first v) ea fall stood =
        second-stands S older a b run run' t u la of lb of' block level before s g first v ea fall stands room begins
        stood
