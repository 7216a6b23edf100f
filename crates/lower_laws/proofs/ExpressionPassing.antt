-- Arguments that are numbers: each stays in its variable through those behind it.
use Rattle.std.proofs.Common.{◌≡◌, ℕ, suc, ◌+◌, ◌≤◌, Bool, true, false, ℤ, List, [], ◌∷◌, ◌++◌, map, max}
use Rattle.std.proofs.Common.{Option, Some, None, refl, sym, ap, ◌∙◌, subst, arith, append-nil, append_assoc}
use Rattle.std.proofs.Math.Nat.{le-max_left, le-max_right}
use Rattle.std.specs.List.{All, AllZip}
use Rattle.std.specs.Prelude.{slice_get}
use Rattle.std.proofs.lemmas.Bool.{and_parts}
use Rattle.pcc_base.specs.Outcome.{Value, Visit}
use Rattle.c_eval_laws.specs.Bounds.{state_of}
use Rattle.c_tree.specs.declared.types.IntegerType.{IntegerType}
use Rattle.c_tree.specs.declared.types.ValueType.{ValueType}
use Rattle.c_tree.specs.declared.types.ValueType.TheVariants.{Void, Integer, Pointer}
use Rattle.c_tree.specs.Evaluation.{evaluate, evaluate_all}
use Rattle.c_tree.specs.Program.{Argument, Arguments, Function, Local, NoMore}
use Rattle.c_tree.specs.Store as source
use Rattle.c_tree.specs.Store.{Evaluated, Gives, Ends, Held, HoldsNumber, HoldsPointer, and_then, held}
use Rattle.c_tree.specs.WellTyped.{IsInteger}
use Rattle.flow_graph.specs.States as graph
use Rattle.flow_graph.specs.States.{number_at, number_of, value_at}
use Rattle.lower_lines.specs.Expressions.{all_passed, all_simple, arguments_levels, arguments_lines, arguments_words}
use Rattle.lower_lines.specs.Expressions.{part_of, parts_of, passed}
use Rattle.lower_lines.specs.Following.{Begins, Comes, EndsSo, FollowsAll, GivesAlone, GoesInto, IsSite, Lowers}
use Rattle.lower_lines.specs.Following.{LowersAll, Site}
use Rattle.lower_lines.specs.Following.{Stand, WordsHold, all_as_passed, as_passed, behind, context_of}
use Rattle.lower_lines.specs.Lines.{Line}
use Rattle.lower_lines.specs.Parts.{Part, if_stays, operand, standing}
use Rattle.lower_lines.specs.Relation.{HoldsAt, IsOf, Keeps, Shows}
use Rattle.lower_lines.specs.Variables.{Context, Spot, levels_of, local_variables}
use Rattle.lower_lines.proofs.Changes.{kept-below, kept-none, kept-twice}
use Rattle.lower_laws.proofs.Atoms.{with-older}
use Rattle.lower_laws.proofs.Binary.{turns-fall}
use Rattle.lower_laws.proofs.Converting.{begins-again}
use Rattle.lower_laws.proofs.Going.{Goes, goes-end, stand-back, stand-front}
use Rattle.lower_laws.proofs.Made.{some-and}
use Rattle.lower_laws.proofs.Operands.{NumberStands}
use Rattle.lower_laws.proofs.Pairs.{Falls, any-operand, goes-both, local-number, own-stays, same-gives}
use Rattle.lower_laws.proofs.Pairs.{same-number}
use Rattle.lower_laws.proofs.Working.{value-number}
use Rattle.lower_laws.specs.ExpressionsLaws.{AreNumbers, NumbersPass}
use Rattle.lower_laws.proofs.Types.{integer-of}

-- ---- an operand stays where nothing is stored

stays-alone : (S : Site) (older : List Function) (a : Part) (run : source.State → Evaluated Held) (u : IntegerType)
    → Lowers S a run → a.of ≡ Integer u → (simple : Bool) → (spot : Option Spot) → a.stands ≡ spot → (level : ℕ)
    (s t v : source.State) (h i : graph.State) (first : Held) (m : ℤ) → run s ≡ Gives first t
    → (simple ≡ true → v ≡ t) → Shows S.program (S.function ∷ older) v i
    → Keeps (local_variables S.function) (suc level) h i → first ≡ HoldsNumber m
    → number_at h ((standing (context_of S) a (if_stays simple spot)).spot level).number ≡ Some m
    → number_at i ((standing (context_of S) a (if_stays simple spot)).spot level).number ≡ Some m
stays-alone S older a run u la of false spot stands level s t v h i first m ea alone shows keeps is at =
    own-stays S level h i m keeps at
stays-alone S older a run u la of true None stands level s t v h i first m ea alone shows keeps is at =
    own-stays S level h i m keeps at
stays-alone S older a run u la of true (Some p) stands level s t v h i first m ea alone shows keeps is at =
    let (k, spot, there, gives) = la.stands p stands in
    let (l, e, types) = some-and (slice_get S.function.locals k) (λ m. (m.of ≡ a.of) × GoesInto a.of m.of) there in
    let parts = same-gives (held s k) first s t (sym (gives s) ∙ ea) in
    let value : held v k ≡ HoldsNumber m =
    ap (λ (w : source.State). held w k) (alone refl ∙ sym parts.1) ∙ parts.0 ∙ is in
    let (n, number, found) = local-number S older k l u v i e (types.0 ∙ of) shows in
    ap (λ (q : Spot). number_at i q.number) spot ∙ found
    ∙ ap (λ (n : ℤ). Some n) (same-number n m (sym number ∙ value))

-- ---- arguments as they are

-- the values of arguments, where nothing is done to them for their parameters
abbrev AllGiven : Site → List Function → List Line → List Line → ℕ → List ValueType → List ℕ → source.State
    → graph.State → Evaluated (List Held) → Type 0
AllGiven S active before lines level ofs words s g (Gives values t) =
    (h : graph.State) × (visits : List Visit) × Shows S.program active t h
    × Keeps (local_variables S.function) level g h × (t.visits ≡ s.visits ++ visits)
    × WordsHold h.current.variables ofs words values × AllZip (IsOf S.program active) ofs values
    × Goes S s.turns (behind before g) t.turns (behind (before ++ lines) h) visits
AllGiven S active before lines level ofs words s g (Ends end t) = EndsSo S end s t (behind before g)

abbrev AllAlone : source.State → Evaluated (List Held) → Type 0
AllAlone s (Gives values t) = t ≡ s
AllAlone s (Ends end t) = ⊥

record Passes (S : Site) (parts : List Part) (run : source.State → Evaluated (List Held)) : Type 0 where
  follows : (older : List Function) (block level : ℕ) (before : List Line) (s : source.State) (g : graph.State)
      → Stand S before (arguments_lines (context_of S) parts block level)
      → level + arguments_levels parts ≤ levels_of S.function → Begins S (S.function ∷ older) s g
      → AllGiven S (S.function ∷ older) before (arguments_lines (context_of S) parts block level) level
      (map (λ a. a.of) parts) (arguments_words (context_of S) parts level) s g (run s)
  simple : all_simple parts ≡ true → (older : List Function) (s : source.State) (g : graph.State)
      → Begins S (S.function ∷ older) s g → AllAlone s (run s)

none-pass : (S : Site) → Passes S [] (λ s. Gives [] s)
none-pass S = record {
  follows = λ older block level before s g stands room b. (
    g,
    [],
    b.shows,
    kept-none (local_variables S.function) level g,
    sym (append-nil s.visits),
    refl,
    tt,
    λ o c. subst (λ (ls : List Line). Comes S s.turns (behind ls g) o) (append-nil before) c,
  );
  simple = λ e older s g b. refl;
}

pub alone-state : (s t : source.State) (values : List Held) (r : Evaluated (List Held)) → AllAlone s r
    → r ≡ Gives values t → t ≡ s
alone-state s t values (Gives others u) alone e = sym (cc) ∙ alone
alone-state s t values (Ends end u) alone e = absurd alone

module _ (S : Site) (a : Part) (run : source.State → Evaluated Held) (u : IntegerType) (la : Lowers S a run)
    (of : a.of ≡ Integer u) (falls : Falls run) (parts : List Part) (others : source.State → Evaluated (List Held))
    (rest : Passes S parts others) where
  abbrev both : source.State → Evaluated (List Held)
  both s = and_then (run s) (λ v t. and_then (others t) (λ vs w. Gives (v ∷ vs) w))

  abbrev spot : ℕ → Spot
  spot level = (operand (context_of S) (all_simple parts) a).spot level

  abbrev first : ℕ → ℕ → List Line
  first block level = (operand (context_of S) (all_simple parts) a).lines block level

  abbrev behind_first : ℕ → ℕ → List Line
  behind_first block level =
      arguments_lines (context_of S) parts (block + (operand (context_of S) (all_simple parts) a).blocks) (suc level)

  -- the words of the first one and of the others
  words-both : (vs : List Value) (level : ℕ) (m : ℤ) (values : List Held) → number_of (slice_get vs (spot
      level).number) ≡ Some m
      → WordsHold vs (map (λ p. p.of) parts) (arguments_words (context_of S) parts (suc level)) values
      → WordsHold vs (a.of ∷ map (λ p. p.of) parts) (arguments_words (context_of S) (a ∷ parts) level)
      (HoldsNumber m ∷ values)
  words-both vs level m values at more = (
    spot level,
    arguments_words (context_of S) parts (suc level),
    refl,
    subst (λ (p : ValueType). HoldsAt vs p (spot level) (HoldsNumber m)) (sym of)
        (value-number (slice_get vs (spot level).number) m at),
    more,
  )

  deeper : (level i j top : ℕ) → level + max i (suc j) ≤ top → suc level + j ≤ top
  deeper level i j top h = let m = le-max_right i (suc j) in omega (arith, h, m)

  higher : (level i j top : ℕ) → level + max i (suc j) ≤ top → level + i ≤ top
  higher level i j top h = let m = le-max_left i (suc j) in omega (arith, h, m)

  number-of-type : (active : List Function) (v : Held) (m : ℤ) → v ≡ HoldsNumber m → IsOf S.program active a.of v
  number-of-type active v m is =
      subst (λ (x : Held). IsOf S.program active a.of x) (sym is)
      (subst (λ (p : ValueType). IsOf S.program active p (HoldsNumber m)) (sym of) tt)

  others-follow : (older : List Function) (block level : ℕ) (before : List Line) (s : source.State) (g : graph.State)
      (v : Held) (t : source.State) → run s ≡ Gives v t → t.turns ≤ s.turns
      → Stand S before (first block level ++ behind_first block level)
      → level + max a.levels (suc (arguments_levels parts)) ≤ levels_of S.function → Begins S (S.function ∷ older) s g
      → NumberStands S (S.function ∷ older) before (first block level) level (spot level) s g (Gives v t)
      → AllGiven S (S.function ∷ older) before (first block level ++ behind_first block level) level
      (a.of ∷ map (λ p. p.of) parts) (arguments_words (context_of S) (a ∷ parts) level) s g
      (and_then (others t) (λ vs w. Gives (v ∷ vs) w))
  others-follow older block level before s g v t ea fall stands room b (h, us, m, is, shows, keeps, seen, at, goes) =
      by (others t) refl
      (rest.follows older (block + (operand (context_of S) (all_simple parts) a).blocks) (suc level)
      (before ++ first block level) t h (stand-back S before (first block level) (behind_first block level) stands)
      (deeper level a.levels (arguments_levels parts) (levels_of S.function) room)
      (begins-again S older s t g h level b shows keeps fall))
    where
      by : (r : Evaluated (List Held)) → others t ≡ r
          → AllGiven S (S.function ∷ older) (before ++ first block level) (behind_first block level) (suc level)
          (map (λ p. p.of) parts) (arguments_words (context_of S) parts (suc level)) t h r
          → AllGiven S (S.function ∷ older) before (first block level ++ behind_first block level) level
          (a.of ∷ map (λ p. p.of) parts) (arguments_words (context_of S) (a ∷ parts) level) s g
          (and_then r (λ vs w. Gives (v ∷ vs) w))
      by (Ends end w) er ends =
          goes-end S end s t w (behind before g) (behind (before ++ first block level) h) us seen goes ends
      by (Gives vs w) er (i, more, shows', keeps', seen', hold, are, goes') = (
        i,
        us ++ more,
        shows',
        kept-twice (local_variables S.function) level g h i keeps
            (kept-below (local_variables S.function) level (suc level) h i (omega arith) keeps'),
        seen' ∙ ap (λ (ws : List Visit). ws ++ more) seen ∙ append_assoc s.visits us more,
        subst (λ (x : Held). WordsHold i.current.variables (a.of ∷ map (λ p. p.of) parts)
            (arguments_words (context_of S) (a ∷ parts) level) (x ∷ vs)) (sym is)
            (words-both i.current.variables level m vs
            (stays-alone S older a run u la of (all_simple parts) a.stands refl level s t w h i v m ea
            (λ simple. alone-state t w vs (others t)
            (rest.simple simple older t h (begins-again S older s t g h level b shows keeps fall)) er) shows' keeps' is
            at) hold),
        (number-of-type (S.function ∷ older) v m is, are),
        goes-both S s.turns t.turns w.turns g h i before (first block level) (behind_first block level) us more goes
            goes',
      )

  both-follow : (older : List Function) (block level : ℕ) (before : List Line) (s : source.State) (g : graph.State)
      → Stand S before (first block level ++ behind_first block level)
      → level + max a.levels (suc (arguments_levels parts)) ≤ levels_of S.function → Begins S (S.function ∷ older) s g
      → AllGiven S (S.function ∷ older) before (first block level ++ behind_first block level) level
      (a.of ∷ map (λ p. p.of) parts) (arguments_words (context_of S) (a ∷ parts) level) s g (both s)
  both-follow older block level before s g stands room b =
      by (run s) refl (falls s)
      (any-operand S older a run u (all_simple parts) la of block level before s g
      (stand-front S before (first block level) (behind_first block level) stands)
      (higher level a.levels (arguments_levels parts) (levels_of S.function) room) b)
    where
      by : (r : Evaluated Held) → run s ≡ r → (state_of r).turns ≤ s.turns
          → NumberStands S (S.function ∷ older) before (first block level) level (spot level) s g r
          → AllGiven S (S.function ∷ older) before (first block level ++ behind_first block level) level
          (a.of ∷ map (λ p. p.of) parts) (arguments_words (context_of S) (a ∷ parts) level) s g
          (and_then r (λ v t. and_then (others t) (λ vs w. Gives (v ∷ vs) w)))
      by (Ends end w) ea fall ends = ends
      by (Gives v t) ea fall stood = others-follow older block level before s g v t ea fall stands room b stood

  more-alone : (s : source.State) (v : Held) (r : Evaluated (List Held)) → AllAlone s r
      → AllAlone s (and_then r (λ vs w. Gives (v ∷ vs) w))
  more-alone s v (Gives vs w) alone = alone
  more-alone s v (Ends end w) alone = absurd alone

  both-alone : (s : source.State) (r : Evaluated Held) → GivesAlone s r
      → AllAlone s (others s) → AllAlone s (and_then r (λ v t. and_then (others t) (λ vs w. Gives (v ∷ vs) w)))
  both-alone s (Ends end t) alone more = absurd alone
  both-alone s (Gives v t) alone more =
      subst (λ (q : source.State). AllAlone s (and_then (others q) (λ vs w. Gives (v ∷ vs) w))) (sym alone)
      (more-alone s v (others s) more)

  both-pass : Passes S (a ∷ parts) both
  both-pass = record {
    follows = both-follow;
    simple = λ e older s g b. both-alone s (run s)
        (la.simple (and_parts a.simple (all_simple parts) e).0 (S.function ∷ older) s g b)
        (rest.simple (and_parts a.simple (all_simple parts) e).1 older s g b);
  }

pass-all : (S : Site) (site : IsSite S) (arguments : Arguments) → AreNumbers S arguments
    → Passes S (parts_of (context_of S) arguments) (evaluate_all S.calls arguments)
pass-all S site NoMore are = none-pass S
pass-all S site (Argument e es) are =
    let (u, same) = integer-of (part_of (context_of S) e).of are.1 in
    both-pass S (part_of (context_of S) e) (evaluate S.calls e) u are.0 same (turns-fall S site e)
    (parts_of (context_of S) es) (evaluate_all S.calls es) (pass-all S site es are.2)

-- ---- parameters that are numbers

passed-int : (c : Context) (of : ValueType) (a : Part) → IsInteger of → passed c of a ≡ a
passed-int c Void a h = absurd h
passed-int c (Integer t) a h = refl
passed-int c (Pointer t) a h = absurd h

as-passed_int : (of : ValueType) (x : Held) → IsInteger of → as_passed of x ≡ x
as-passed_int Void x h = absurd h
as-passed_int (Integer t) x h = refl
as-passed_int (Pointer t) x h = absurd h

pub all-passed_int : (c : Context) (ls : List Local) (parts : List Part) → All (λ l. IsInteger l.of) ls
    → all_passed c ls parts ≡ parts
all-passed_int c [] parts h = refl
all-passed_int c (l ∷ ls) [] h = refl
all-passed_int c (l ∷ ls) (a ∷ parts) h =
    ap (λ (p : Part). p ∷ all_passed c ls parts) (passed-int c l.of a (h 0 l (omega arith)))
    ∙ ap (λ (ps : List Part). a ∷ ps) (all-passed_int c ls parts (λ j d low. h (suc j) d (omega (arith, low))))

all-as_passed_int : (ls : List Local) (xs : List Held) → All (λ l. IsInteger l.of) ls → all_as_passed ls xs ≡ xs
all-as_passed_int [] xs h = refl
all-as_passed_int (l ∷ ls) [] h = refl
all-as_passed_int (l ∷ ls) (x ∷ xs) h =
    ap (λ (y : Held). y ∷ all_as_passed ls xs) (as-passed_int l.of x (h 0 l (omega arith)))
    ∙ ap (λ (ys : List Held). x ∷ ys) (all-as_passed_int ls xs (λ j d low. h (suc j) d (omega (arith, low))))

given-all : (S : Site) (ls : List Local) → All (λ l. IsInteger l.of) ls → (active : List Function)
    (before lines : List Line) (level : ℕ) (ofs : List ValueType) (words : List ℕ) (s : source.State) (g : graph.State)
    (r : Evaluated (List Held)) → AllGiven S active before lines level ofs words s g r
    → FollowsAll S ls active before lines level ofs words s g r
given-all S ls ints active before lines level ofs words s g (Ends end t) h = h
given-all S ls ints active before lines level ofs words s g (Gives values t)
    (h, us, shows, keeps, seen, hold, are, goes) = (
      h,
      us,
      shows,
      keeps,
      seen,
      subst (λ (xs : List Held). WordsHold h.current.variables ofs words xs)
          (sym (all-as_passed_int ls values ints)) hold,
      subst (λ (xs : List Held). AllZip (IsOf S.program active) ofs xs) (sym (all-as_passed_int ls values ints)) are,
      goes,
    )

pub numbers-pass : NumbersPass
numbers-pass S site ls ints arguments are =
    subst (λ (ps : List Part). LowersAll S ls ps (evaluate_all S.calls arguments))
    (sym (all-passed_int (context_of S) ls (parts_of (context_of S) arguments) ints))
    (record {
      follows = λ active block level before s g stands room begins.
          with-older S.function active (λ calls. Begins S calls s g
          → FollowsAll S ls calls before (arguments_lines (context_of S) (parts_of (context_of S) arguments) block
          level)
          level (map (λ a. a.of) (parts_of (context_of S) arguments))
          (arguments_words (context_of S) (parts_of (context_of S) arguments) level) s g (evaluate_all S.calls
          arguments s))
          begins.youngest
          (λ older b. given-all S ls ints (S.function ∷ older) before
          (arguments_lines (context_of S) (parts_of (context_of S) arguments) block level) level
          (map (λ a. a.of) (parts_of (context_of S) arguments))
          (arguments_words (context_of S) (parts_of (context_of S) arguments) level) s g (evaluate_all S.calls
          arguments s)
          ((pass-all S site arguments are).follows older block level before s g stands room b)) begins;
    })
