-- Arguments of any type, as their parameters take them: each stays in its variables through those behind it.
use Rattle.std.proofs.Common.{◌≡◌, ◌≢◌, ℕ, suc, ◌+◌, ◌≤◌, Bool, true, false, List, [], ◌∷◌, ◌++◌, map, max}
use Rattle.std.proofs.Common.{inr, refl, sym, ap, ◌∙◌, subst, arith, append-nil, append_assoc}
use Rattle.std.proofs.lemmas.Bool.{and_parts}
use Rattle.c_eval_laws.specs.Bounds.{state_of}
use Rattle.c_tree.specs.declared.types.IntegerType.{IntegerType}
use Rattle.c_tree.specs.declared.types.ValueType.{ValueType}
use Rattle.c_tree.specs.declared.types.ValueType.TheVariants.{Void, Integer, Pointer}
use Rattle.c_tree.specs.Evaluation.{evaluate, evaluate_all}
use Rattle.c_tree.specs.Program.{Argument, Arguments, Cast, Expression, Function, Local, NoMore}
use Rattle.c_tree.specs.Store as source
use Rattle.c_tree.specs.Store.{Evaluated, Gives, Ends, Held, HoldsNumber, HoldsPointer, and_then}
use Rattle.c_tree.specs.WellTyped.{CanAssign}
use Rattle.flow_graph.specs.States as graph
use Rattle.lower_lines.specs.Expressions.{all_passed, all_simple, arguments_levels, arguments_lines, arguments_words}
use Rattle.lower_lines.specs.Expressions.{part_of, parts_of, passed}
use Rattle.lower_lines.specs.Following.{Begins, Comes, FollowsAll, GivesAlone, IsSite, Lowers, LowersAll, Site, Stand}
use Rattle.lower_lines.specs.Following.{as_passed, behind, context_of}
use Rattle.lower_lines.specs.Lines.{Line}
use Rattle.lower_lines.specs.Parts.{Part, as_pointer, compound, operand}
use Rattle.lower_lines.specs.Relation.{IsOf}
use Rattle.lower_lines.specs.Variables.{Spot, levels_of, local_variables}
use Rattle.lower_lines.proofs.Changes.{kept-below, kept-none, kept-twice}
use Rattle.lower_laws.proofs.Atoms.{with-older}
use Rattle.lower_laws.proofs.Binary.{turns-fall}
use Rattle.lower_laws.proofs.Converting.{begins-again}
use Rattle.lower_laws.proofs.Going.{goes-end, stand-back, stand-front}
use Rattle.lower_laws.proofs.Pairs.{Falls, goes-both}
use Rattle.lower_laws.proofs.Storing.{pointers-convert}
use Rattle.lower_laws.proofs.Standing.{Stays, operand-stays}
use Rattle.lower_laws.specs.WholeLaws.{AllArgumentsPass, ArePassed, Does}
use Rattle.lower_laws.proofs.Levels.{first-room, second-room}
use Rattle.lower_laws.proofs.Types.{not-void_number}
use Rattle.lower_laws.proofs.ExpressionPassing.{alone-state}

-- ---- one argument

-- what is passed for a parameter of the type
abbrev pub passing : ValueType → Held → source.State → Evaluated Held
passing to v t = Gives (as_passed to v) t

-- a part whose value is what an evaluation gives, as it is passed for a parameter of the type
pub record PassesOne (S : Site) (to : ValueType) (a : Part) (run : source.State → Evaluated Held) : Type 0 where
  pub stays : (older : List Function) (stays : Bool) (block level : ℕ) (before : List Line) (s : source.State)
      (g : graph.State) → Stand S before ((operand (context_of S) stays a).lines block level)
      → level + a.levels ≤ levels_of S.function → Begins S (S.function ∷ older) s g
      → Stays S (S.function ∷ older) stays before ((operand (context_of S) stays a).lines block level) level a.of
      ((operand (context_of S) stays a).spot level) s g (and_then (run s) (passing to))
  pub simple : a.simple ≡ true → (older : List Function) (s : source.State) (g : graph.State)
      → Begins S (S.function ∷ older) s g → GivesAlone s (run s)

-- it is passed as it is
same-stays : (S : Site) (active : List Function) (to : ValueType) (stays : Bool) (before lines : List Line) (level : ℕ)
    (of : ValueType) (spot : Spot) (s : source.State) (g : graph.State) (r : Evaluated Held)
    → ((v : Held) → IsOf S.program active of v → as_passed to v ≡ v)
    → Stays S active stays before lines level of spot s g r
    → Stays S active stays before lines level of spot s g (and_then r (passing to))
same-stays S active to stays before lines level of spot s g (Ends end t) same ends = ends
same-stays S active to stays before lines level of spot s g (Gives v t) same
    (h, us, shows, keeps, seen, remains, is, goes) =
    subst (λ (x : Held). Stays S active stays before lines level of spot s g (Gives x t)) (sym (same v is))
    (h, us, shows, keeps, seen, remains, is, goes)

pub passes-same : (S : Site) (to : ValueType) (a : Part) (run : source.State → Evaluated Held) → Lowers S a run
    → a.of ≢ Void → ((active : List Function) (v : Held) → IsOf S.program active a.of v → as_passed to v ≡ v)
    → PassesOne S to a run
passes-same S to a run lowers scalar same = record {
  stays = λ older stays block level before s g stands room b.
      same-stays S (S.function ∷ older) to stays before ((operand (context_of S) stays a).lines block level) level a.of
      ((operand (context_of S) stays a).spot level) s g (run s) (same (S.function ∷ older))
      (operand-stays S older a run lowers scalar stays block level before s g stands room b);
  simple = λ e older s g b. lowers.simple e (S.function ∷ older) s g b;
}

-- it is made for the parameter
pub passes-made : (S : Site) (to : ValueType) (a : Part) (run : source.State → Evaluated Held)
    → Lowers S a (λ s. and_then (run s) (passing to)) → a.of ≢ Void → a.simple ≡ false → PassesOne S to a run
passes-made S to a run lowers scalar made = record {
  stays = λ older stays block level before s g stands room b.
      operand-stays S older a (λ t. and_then (run t) (passing to)) lowers scalar stays block level before s g stands
      room b;
  simple = λ e older s g b. absurd (both-ways a.simple made e);
}
  where
    both-ways : (b : Bool) → b ≡ false → b ≡ true → ⊥
    both-ways b e f = cc

not-void-pointer : (p : ValueType) (u : IntegerType) → p ≡ Pointer u → p ≢ Void
not-void-pointer p u e f = cc

pointer-same : (S : Site) (active : List Function) (t : IntegerType) (v : Held) → IsOf S.program active (Pointer t) v
    → as_passed (Pointer t) v ≡ v
pointer-same S active t (HoldsPointer array index) is = refl
pointer-same S active t (HoldsNumber n) is = absurd is

-- a cast to a pointer, of a part of a type
abbrev null_cast : Site → IntegerType → Part → ValueType → Part
null_cast S t a p = compound (Pointer t) (as_pointer (context_of S) t p a).levels
    (as_pointer (context_of S) t p a).blocks (as_pointer (context_of S) t p a).lines

-- a typed argument
argument-passes : (S : Site) (site : IsSite S) (to : ValueType) (e : Expression) → Does S e → (of : ValueType)
    → (part_of (context_of S) e).of ≡ of → CanAssign to of
    → PassesOne S to (passed (context_of S) to (part_of (context_of S) e)) (evaluate S.calls e)
argument-passes S site (Integer t) e does (Integer u) is can =
    passes-same S (Integer t) (part_of (context_of S) e) (evaluate S.calls e) does
    (not-void_number (part_of (context_of S) e).of u is) (λ active v h. refl)
argument-passes S site (Pointer t) e does (Pointer u) is can =
    subst (λ (p : ValueType). PassesOne S (Pointer t) (as_pointer (context_of S) t p (part_of (context_of S) e))
    (evaluate S.calls e)) (sym is)
    (passes-same S (Pointer t) (part_of (context_of S) e) (evaluate S.calls e) does
    (not-void-pointer (part_of (context_of S) e).of u is)
    (λ active v h. pointer-same S active u v (subst (λ (p : ValueType). IsOf S.program active p v) is h)))
argument-passes S site (Pointer t) e does (Integer u) is can =
    subst (λ (p : ValueType). PassesOne S (Pointer t) (as_pointer (context_of S) t p (part_of (context_of S) e))
    (evaluate S.calls e)) (sym is)
    (passes-made S (Pointer t) (as_pointer (context_of S) t (Integer u) (part_of (context_of S) e))
    (evaluate S.calls e)
    (subst (λ (p : ValueType). Lowers S (null_cast S t (part_of (context_of S) e) p)
    (evaluate S.calls (Cast (Pointer t) e))) is (pointers-convert S site t e does (inr (u, is))))
    (not-void-pointer (Pointer t) t refl) refl)
argument-passes S site Void e does of is can = absurd can
argument-passes S site (Integer t) e does Void is can = absurd can
argument-passes S site (Integer t) e does (Pointer u) is can = absurd can
argument-passes S site (Pointer t) e does Void is can = absurd can

-- ---- all arguments

abbrev AllAlone : source.State → Evaluated (List Held) → Type 0
AllAlone s (Gives values t) = t ≡ s
AllAlone s (Ends end t) = ⊥

pub record Passes (S : Site) (ls : List Local) (parts : List Part) (run : source.State → Evaluated (List Held))
    : Type 0 where
  pub follows : (older : List Function) (block level : ℕ) (before : List Line) (s : source.State) (g : graph.State)
      → Stand S before (arguments_lines (context_of S) parts block level)
      → level + arguments_levels parts ≤ levels_of S.function → Begins S (S.function ∷ older) s g
      → FollowsAll S ls (S.function ∷ older) before (arguments_lines (context_of S) parts block level) level
      (map (λ a. a.of) parts) (arguments_words (context_of S) parts level) s g (run s)
  pub simple : all_simple parts ≡ true → (older : List Function) (s : source.State) (g : graph.State)
      → Begins S (S.function ∷ older) s g → AllAlone s (run s)

none-pass : (S : Site) → Passes S [] [] (λ s. Gives [] s)
none-pass S = record {
  follows = λ older block level before s g stands room b. (
    g,
    [],
    b.shows,
    kept-none (local_variables S.function) level g,
    sym (append-nil s.visits),
    refl,
    tt,
    λ o c. subst (λ (ls : List Line). Comes S s.turns (behind ls g) o) (append-nil before) c,
  );
  simple = λ e older s g b. refl;
}

module _ (S : Site) (l : Local) (a : Part) (run : source.State → Evaluated Held) (one : PassesOne S l.of a run)
    (falls : Falls run) (ls : List Local) (parts : List Part) (others : source.State → Evaluated (List Held))
    (rest : Passes S ls parts others) where
  abbrev both : source.State → Evaluated (List Held)
  both s = and_then (run s) (λ v t. and_then (others t) (λ vs w. Gives (v ∷ vs) w))

  abbrev spot : ℕ → Spot
  spot level = (operand (context_of S) (all_simple parts) a).spot level

  abbrev first : ℕ → ℕ → List Line
  first block level = (operand (context_of S) (all_simple parts) a).lines block level

  abbrev behind_first : ℕ → ℕ → List Line
  behind_first block level =
      arguments_lines (context_of S) parts (block + (operand (context_of S) (all_simple parts) a).blocks) (suc level)

  others-follow : (older : List Function) (block level : ℕ) (before : List Line) (s : source.State) (g : graph.State)
      (v : Held) (t : source.State) → t.turns ≤ s.turns
      → Stand S before (first block level ++ behind_first block level)
      → level + max a.levels (suc (arguments_levels parts)) ≤ levels_of S.function → Begins S (S.function ∷ older) s g
      → Stays S (S.function ∷ older) (all_simple parts) before (first block level) level a.of (spot level) s g
      (Gives (as_passed l.of v) t)
      → FollowsAll S (l ∷ ls) (S.function ∷ older) before (first block level ++ behind_first block level) level
      (a.of ∷ map (λ p. p.of) parts) (arguments_words (context_of S) (a ∷ parts) level) s g
      (and_then (others t) (λ vs w. Gives (v ∷ vs) w))
  others-follow older block level before s g v t fall stands room b (h, us, shows, keeps, seen, remains, is, goes) =
      by (others t) refl
      (rest.follows older (block + (operand (context_of S) (all_simple parts) a).blocks) (suc level)
      (before ++ first block level) t h (stand-back S before (first block level) (behind_first block level) stands)
      (second-room level a.levels (arguments_levels parts) (levels_of S.function) room)
      (begins-again S older s t g h level b shows keeps fall))
    where
      by : (r : Evaluated (List Held)) → others t ≡ r
          → FollowsAll S ls (S.function ∷ older) (before ++ first block level) (behind_first block level) (suc level)
          (map (λ p. p.of) parts) (arguments_words (context_of S) parts (suc level)) t h r
          → FollowsAll S (l ∷ ls) (S.function ∷ older) before (first block level ++ behind_first block level) level
          (a.of ∷ map (λ p. p.of) parts) (arguments_words (context_of S) (a ∷ parts) level) s g
          (and_then r (λ vs w. Gives (v ∷ vs) w))
      by (Ends end w) er ends =
          goes-end S end s t w (behind before g) (behind (before ++ first block level) h) us seen goes ends
      by (Gives vs w) er (i, more, shows', keeps', seen', hold, are, goes') = (
        i,
        us ++ more,
        shows',
        kept-twice (local_variables S.function) level g h i keeps
            (kept-below (local_variables S.function) level (suc level) h i (omega arith) keeps'),
        seen' ∙ ap (λ (ws : List _). ws ++ more) seen ∙ append_assoc s.visits us more,
        (
          spot level,
          arguments_words (context_of S) parts (suc level),
          refl,
          remains w i
              (λ simple. alone-state t w vs (others t)
              (rest.simple simple older t h (begins-again S older s t g h level b shows keeps fall)) er) shows' keeps',
          hold,
        ),
        (is, are),
        goes-both S s.turns t.turns w.turns g h i before (first block level) (behind_first block level) us more goes
            goes',
      )

  both-follow : (older : List Function) (block level : ℕ) (before : List Line) (s : source.State) (g : graph.State)
      → Stand S before (first block level ++ behind_first block level)
      → level + max a.levels (suc (arguments_levels parts)) ≤ levels_of S.function → Begins S (S.function ∷ older) s g
      → FollowsAll S (l ∷ ls) (S.function ∷ older) before (first block level ++ behind_first block level) level
      (a.of ∷ map (λ p. p.of) parts) (arguments_words (context_of S) (a ∷ parts) level) s g (both s)
  both-follow older block level before s g stands room b =
      by (run s) (falls s)
      (one.stays older (all_simple parts) block level before s g
      (stand-front S before (first block level) (behind_first block level) stands)
      (first-room level a.levels (arguments_levels parts) (levels_of S.function) room) b)
    where
      by : (r : Evaluated Held) → (state_of r).turns ≤ s.turns
          → Stays S (S.function ∷ older) (all_simple parts) before (first block level) level a.of (spot level) s g
          (and_then r (passing l.of))
          → FollowsAll S (l ∷ ls) (S.function ∷ older) before (first block level ++ behind_first block level) level
          (a.of ∷ map (λ p. p.of) parts) (arguments_words (context_of S) (a ∷ parts) level) s g
          (and_then r (λ v t. and_then (others t) (λ vs w. Gives (v ∷ vs) w)))
      by (Ends end t) fall ends = ends
      by (Gives v t) fall stood = others-follow older block level before s g v t fall stands room b stood

  more-alone : (s : source.State) (v : Held) (r : Evaluated (List Held)) → AllAlone s r
      → AllAlone s (and_then r (λ vs w. Gives (v ∷ vs) w))
  more-alone s v (Gives vs w) alone = alone
  more-alone s v (Ends end w) alone = absurd alone

  both-alone : (s : source.State) (r : Evaluated Held) → GivesAlone s r → AllAlone s (others s)
      → AllAlone s (and_then r (λ v t. and_then (others t) (λ vs w. Gives (v ∷ vs) w)))
  both-alone s (Ends end t) alone more = absurd alone
  both-alone s (Gives v t) alone more =
      subst (λ (q : source.State). AllAlone s (and_then (others q) (λ vs w. Gives (v ∷ vs) w))) (sym alone)
      (more-alone s v (others s) more)

  both-pass : Passes S (l ∷ ls) (a ∷ parts) both
  both-pass = record {
    follows = both-follow;
    simple = λ e older s g b. both-alone s (run s)
        (one.simple (and_parts a.simple (all_simple parts) e).0 older s g b)
        (rest.simple (and_parts a.simple (all_simple parts) e).1 older s g b);
  }

pass-all : (S : Site) (site : IsSite S) (ls : List Local) (arguments : Arguments) → ArePassed S ls arguments
    → Passes S ls (all_passed (context_of S) ls (parts_of (context_of S) arguments)) (evaluate_all S.calls arguments)
pass-all S site [] NoMore are = none-pass S
pass-all S site [] (Argument e es) are = absurd are
pass-all S site (l ∷ ls) NoMore are = absurd are
pass-all S site (l ∷ ls) (Argument e es) are =
    both-pass S l (passed (context_of S) l.of (part_of (context_of S) e)) (evaluate S.calls e)
    (argument-passes S site l.of e are.0 (part_of (context_of S) e).of refl are.1) (turns-fall S site e) ls
    (all_passed (context_of S) ls (parts_of (context_of S) es)) (evaluate_all S.calls es) (pass-all S site ls es are.2)

-- in any youngest call
passes-lower : (S : Site) (ls : List Local) (parts : List Part) (run : source.State → Evaluated (List Held))
    → Passes S ls parts run → LowersAll S ls parts run
passes-lower S ls parts run passes = record {
  follows = λ active block level before s g stands room begins.
      with-older S.function active (λ calls. Begins S calls s g
      → FollowsAll S ls calls before (arguments_lines (context_of S) parts block level) level (map (λ a. a.of) parts)
      (arguments_words (context_of S) parts level) s g (run s)) begins.youngest
      (λ older b. passes.follows older block level before s g stands room b) begins;
}

pub arguments-pass : AllArgumentsPass
arguments-pass S site ls arguments are =
    passes-lower S ls (all_passed (context_of S) ls (parts_of (context_of S) arguments))
    (evaluate_all S.calls arguments)
    (pass-all S site ls arguments are)
