-- Calls of functions of void and of integer types, with arguments of any type, where calls follow.
use Rattle.std.proofs.Common.{◌≡◌, ℕ, ◌+◌, ◌<◌, ◌≤◌, List, [], ◌∷◌, ◌++◌, map, max}
use Rattle.std.proofs.Common.{Option, Some, None, refl, sym, ap, ◌∙◌, subst, arith}
use Rattle.std.proofs.Math.Nat.{le-max_left, le-max_right}
use Rattle.std.specs.List.{AllZip}
use Rattle.std.specs.Prelude.{slice_get}
use Rattle.pcc_base.specs.Outcome.{Value}
use Rattle.c_eval_laws.specs.Bounds.{state_of}
use Rattle.c_eval_laws.proofs.Agreeing.{trees_keep}
use Rattle.c_tree.specs.declared.types.IntegerType.TheVariants.{Char, Short, Int, UnsignedInt}
use Rattle.c_tree.specs.declared.types.ValueType.{ValueType}
use Rattle.c_tree.specs.declared.types.ValueType.TheVariants.{Void, Integer, Pointer}
use Rattle.c_tree.specs.Evaluation.{evaluate, evaluate_all}
use Rattle.c_tree.specs.Program.{Argument, Arguments, Call, Function, Local, NoMore}
use Rattle.c_tree.specs.Store as source
use Rattle.c_tree.specs.Store.{Evaluated, Gives, Ends, Held, HoldsNumber, HoldsPointer, and_then}
use Rattle.c_tree.specs.WellTyped.{CanAssign, IsResult}
use Rattle.flow_graph.specs.declared.op.Op.TheVariants as op
use Rattle.flow_graph.specs.Meaning.{result_to}
use Rattle.flow_graph.specs.States as graph
use Rattle.lower_lines.specs.Expressions.{all_passed, arguments_blocks, arguments_levels, arguments_lines}
use Rattle.lower_lines.specs.Expressions.{arguments_words, call_part, parameters_of, part_of, parts_of, passed}
use Rattle.lower_lines.specs.Expressions.{result_lines}
use Rattle.lower_lines.specs.Following.{Begins, CallsFollow, ComesOf, FollowsAll, FollowsCall, GoesInto}
use Rattle.lower_lines.specs.Following.{IsSite, Lowers, LowersAll, MayWant, Site, Stand, WordsHold}
use Rattle.lower_lines.specs.Following.{all_as_passed, behind, context_of, graphs_of, parameters_in}
use Rattle.lower_lines.specs.Lines.{Line, Emit}
use Rattle.lower_lines.specs.Parts.{Wanted, Dropped, Own, ToLocal, Tests, Part, as_pointer}
use Rattle.lower_lines.specs.Relation.{IsOf}
use Rattle.lower_lines.specs.Variables.{levels_of, local_variables}
use Rattle.lower_lines.proofs.Points.{ops-stand}
use Rattle.lower_lines.proofs.Steps.{no-result-step}
use Rattle.lower_laws.proofs.Binary.{Fits, compound-lowers}
use Rattle.lower_laws.proofs.Calling.{back-is, back-keeps, begins-behind, result-fits}
use Rattle.lower_laws.proofs.Converting.{begins-again}
use Rattle.lower_laws.proofs.Going.{stand-back, stand-front}
use Rattle.lower_laws.proofs.Made.{some-and}
use Rattle.lower_laws.proofs.Stepping.{lowers-same}
use Rattle.lower_laws.proofs.Unary.{follows-behind}
use Rattle.lower_laws.proofs.WholePassing.{arguments-pass}
use Rattle.lower_laws.specs.WholeLaws.{AllCallsLower, ArePassed}

-- ---- the types of arguments as they are passed, and of their parameters

-- both are integer types, or pointers to one type
abbrev AreAlike : ValueType → ValueType → Type 0
AreAlike (Integer t) (Integer u) = Unit {0}
AreAlike (Pointer t) (Pointer u) = t ≡ u
AreAlike _ _ = ⊥

abbrev AllAlike : List ValueType → List ValueType → Type 0
AllAlike [] [] = Unit {0}
AllAlike (p ∷ ps) (q ∷ qs) = AreAlike p q × AllAlike ps qs
AllAlike _ _ = ⊥

alike-words : (vs : List Value) (p q : ValueType) (ps qs : List ValueType) (words : List ℕ) (x : Held) (xs : List Held)
    → AreAlike p q → ((others : List ℕ) → WordsHold vs ps others xs → WordsHold vs qs others xs)
    → WordsHold vs (p ∷ ps) words (x ∷ xs) → WordsHold vs (q ∷ qs) words (x ∷ xs)
alike-words vs Void q ps qs words x xs alike rest h = absurd alike
alike-words vs (Integer t) Void ps qs words x xs alike rest h = absurd alike
alike-words vs (Integer t) (Pointer u) ps qs words x xs alike rest h = absurd alike
alike-words vs (Pointer t) Void ps qs words x xs alike rest h = absurd alike
alike-words vs (Pointer t) (Integer u) ps qs words x xs alike rest h = absurd alike
alike-words vs (Integer t) (Integer u) ps qs words (HoldsNumber n) xs alike rest (spot, others, is, holds, more) =
    (spot, others, is, holds, rest others more)
alike-words vs (Integer t) (Integer u) ps qs words (HoldsPointer array index) xs alike rest
    (spot, others, is, holds, more) = absurd holds
alike-words vs (Pointer t) (Pointer u) ps qs words (HoldsPointer array index) xs alike rest
    (spot, others, is, holds, more) = (spot, others, is, holds, rest others more)
alike-words vs (Pointer t) (Pointer u) ps qs words (HoldsNumber n) xs alike rest (spot, others, is, holds, more) =
    absurd holds

words-alike : (vs : List Value) (ps qs : List ValueType) (words : List ℕ) (xs : List Held) → AllAlike ps qs
    → WordsHold vs ps words xs → WordsHold vs qs words xs
words-alike vs [] [] words xs alike h = h
words-alike vs [] (q ∷ qs) words xs alike h = absurd alike
words-alike vs (p ∷ ps) [] words xs alike h = absurd alike
words-alike vs (p ∷ ps) (q ∷ qs) words [] alike h = absurd h
words-alike vs (p ∷ ps) (q ∷ qs) words (x ∷ xs) alike h =
    alike-words vs p q ps qs words x xs alike.0 (λ others more. words-alike vs ps qs others xs alike.1 more) h

alike-is : (S : Site) (active : List Function) (p q : ValueType) (x : Held) → AreAlike p q → IsOf S.program active p x
    → IsOf S.program active q x
alike-is S active Void q x alike is = absurd alike
alike-is S active (Integer t) Void x alike is = absurd alike
alike-is S active (Integer t) (Pointer u) x alike is = absurd alike
alike-is S active (Pointer t) Void x alike is = absurd alike
alike-is S active (Pointer t) (Integer u) x alike is = absurd alike
alike-is S active (Integer t) (Integer u) (HoldsNumber n) alike is = tt
alike-is S active (Integer t) (Integer u) (HoldsPointer array index) alike is = absurd is
alike-is S active (Pointer t) (Pointer u) x alike is =
    subst (λ (v : ValueType). IsOf S.program active v x) (ap (λ (w : _). Pointer w) alike) is

are-alike : (S : Site) (active : List Function) (ps qs : List ValueType) (xs : List Held) → AllAlike ps qs
    → AllZip (IsOf S.program active) ps xs → AllZip (IsOf S.program active) qs xs
are-alike S active [] [] xs alike h = h
are-alike S active [] (q ∷ qs) xs alike h = absurd alike
are-alike S active (p ∷ ps) [] xs alike h = absurd alike
are-alike S active (p ∷ ps) (q ∷ qs) [] alike h = absurd h
are-alike S active (p ∷ ps) (q ∷ qs) (x ∷ xs) alike h =
    (alike-is S active p q x alike.0 h.0, are-alike S active ps qs xs alike.1 h.1)

-- what is passed is of the parameter's type
passed-alike : (S : Site) (to : ValueType) (a : Part) (of : ValueType) → a.of ≡ of → CanAssign to of
    → AreAlike (passed (context_of S) to a).of to
passed-alike S (Integer t) a (Integer u) is can = subst (λ (p : ValueType). AreAlike p (Integer t)) (sym is) tt
passed-alike S (Pointer t) a (Pointer u) is can =
    subst (λ (p : ValueType). AreAlike (as_pointer (context_of S) t p a).of (Pointer t)) (sym is)
    (subst (λ (p : ValueType). AreAlike p (Pointer t)) (sym is) can)
passed-alike S (Pointer t) a (Integer u) is can =
    subst (λ (p : ValueType). AreAlike (as_pointer (context_of S) t p a).of (Pointer t)) (sym is) refl
passed-alike S Void a of is can = absurd can
passed-alike S (Integer t) a Void is can = absurd can
passed-alike S (Integer t) a (Pointer u) is can = absurd can
passed-alike S (Pointer t) a Void is can = absurd can

all-alike : (S : Site) (ls : List Local) (arguments : Arguments) → ArePassed S ls arguments
    → AllAlike (map (λ a. a.of) (all_passed (context_of S) ls (parts_of (context_of S) arguments)))
    (map (λ l. l.of) ls)
all-alike S [] NoMore are = tt
all-alike S [] (Argument e es) are = absurd are
all-alike S (l ∷ ls) NoMore are = absurd are
all-alike S (l ∷ ls) (Argument e es) are = (
  passed-alike S l.of (part_of (context_of S) e) (part_of (context_of S) e).of refl are.1,
  all-alike S ls es are.2,
)

-- ---- a call of void

into-void : (of : ValueType) → GoesInto Void of → ⊥
into-void Void h = h
into-void (Integer Char) h = h
into-void (Integer Short) h = h
into-void (Integer Int) h = h
into-void (Integer UnsignedInt) h = h
into-void (Pointer t) h = h

module _ (S : Site) (site : IsSite S) (follow : CallsFollow S) (older : List Function) (k : ℕ) (f : Function)
    (there : slice_get S.program.functions k ≡ Some f) (words : List ℕ) (arguments : List Held) (before : List Line)
    (s : source.State) (g : graph.State) (b : Begins S (S.function ∷ older) s g)
    (holds : WordsHold g.current.variables (map (λ l. l.of) (parameters_in f)) words
    (all_as_passed (parameters_in f) arguments))
    (are : AllZip (IsOf S.program (S.function ∷ older)) (map (λ l. l.of) (parameters_in f))
    (all_as_passed (parameters_in f) arguments)) where
  -- no result is taken
  none-taken : (level : ℕ) (r : Evaluated Held) → Stand S before (Emit (op.Call None k words) ∷ [])
      → FollowsCall S (S.function ∷ older) (op.Call None k words) Void s (behind before g) r
      → Fits S (S.function ∷ older) before (Emit (op.Call None k words) ∷ []) level Dropped Void s g r
  none-taken level (Ends end t) stands ends = (ends, tt)
  none-taken level (Gives v t) stands (h, us, shows, back, is, seen, goes) = (
    (
      h,
      us,
      shows,
      back-keeps (local_variables S.function) level before g h back,
      tt,
      seen,
      λ o c. goes o
          (subst (λ (q : graph.State). ComesOf S t.turns q
          (result_to (graphs_of S) q None (Some (op.Call None k words))) o)
          (back-is (behind before g).block (behind before g).point h back.block back.point)
          (no-result-step S site before h (back.function ∙ b.function) k t.turns words None o stands c)),
    ),
    tt,
  )

  void-fits : (block level : ℕ) (wanted : Wanted) → f.result ≡ Void → MayWant S wanted Void
      → Stand S before (result_lines (context_of S) block level wanted Void k words)
      → Fits S (S.function ∷ older) before (result_lines (context_of S) block level wanted Void k words) level wanted
      Void s g (S.calls k arguments s)
  void-fits block level Dropped result may stands =
      none-taken level (S.calls k arguments s) stands
      (subst (λ (p : ValueType). FollowsCall S (S.function ∷ older) (op.Call None k words) p s (behind before g)
      (S.calls k arguments s)) result
      (follow (S.function ∷ older) None k f words arguments s (behind before g) there
      (ops-stand S site before (op.Call None k words) g stands b.function) holds are
      (begins-behind S (S.function ∷ older) before s g b)))
  void-fits block level Own result may stands = absurd (may refl)
  void-fits block level (Tests yes' no') result may stands = absurd (may.0 refl)
  void-fits block level (ToLocal j) result may stands =
      let (l, e, into) = some-and (slice_get S.function.locals j) (λ m. GoesInto Void m.of) may in
      absurd (into-void l.of into)

  -- ---- a call of any result

  call-fits : (of : ValueType) → f.result ≡ of → IsResult of → (block level : ℕ) (wanted : Wanted)
      → level < levels_of S.function → MayWant S wanted of
      → Stand S before (result_lines (context_of S) block level wanted of k words)
      → Fits S (S.function ∷ older) before (result_lines (context_of S) block level wanted of k words) level wanted of s
      g (S.calls k arguments s)
  call-fits Void result is block level wanted room may stands = void-fits block level wanted result may stands
  call-fits (Pointer t) result is block level wanted room may stands = absurd is
  call-fits (Integer w) result is block level wanted room may stands =
      result-fits S site follow older k f w there result words arguments before s g b holds are block level wanted room
      may stands

-- ---- arguments, and then the call

module _ (S : Site) (site : IsSite S) (follow : CallsFollow S) (k : ℕ) (f : Function) (of : ValueType)
    (there : slice_get S.program.functions k ≡ Some f) (result : f.result ≡ of) (kind : IsResult of) (parts : List Part)
    (run : source.State → Evaluated (List Held)) (lowers : LowersAll S (parameters_in f) parts run)
    (alike : AllAlike (map (λ a. a.of) parts) (map (λ l. l.of) (parameters_in f)))
    (falls : (s : source.State) → (state_of (run s)).turns ≤ s.turns) where
  abbrev front : ℕ → ℕ → List Line
  front block level = arguments_lines (context_of S) parts block level

  abbrev last : ℕ → ℕ → Wanted → List Line
  last block level wanted =
      result_lines (context_of S) (block + arguments_blocks (context_of S) parts) level wanted of k
      (arguments_words (context_of S) parts level)

  behind-arguments : (older : List Function) (block level : ℕ) (wanted : Wanted) (before : List Line)
      (s : source.State) (g : graph.State) (r : Evaluated (List Held)) → (state_of r).turns ≤ s.turns
      → level < levels_of S.function → MayWant S wanted of → Begins S (S.function ∷ older) s g
      → Stand S before (front block level ++ last block level wanted)
      → FollowsAll S (parameters_in f) (S.function ∷ older) before (front block level) level (map (λ a. a.of) parts)
      (arguments_words (context_of S) parts level) s g r
      → Fits S (S.function ∷ older) before (front block level ++ last block level wanted) level wanted of s g
      (and_then r (S.calls k))
  behind-arguments older block level wanted before s g (Ends end t) fall room may b stands ends = (ends, tt)
  behind-arguments older block level wanted before s g (Gives values t) fall room may b stands
      (h, us, shows, keeps, seen, holds, are, goes) =
      let rest = call-fits S site follow older k f there (arguments_words (context_of S) parts level) values
      (before ++ front block level) t h (begins-again S older s t g h level b shows keeps fall)
      (words-alike h.current.variables (map (λ a. a.of) parts) (map (λ l. l.of) (parameters_in f))
      (arguments_words (context_of S) parts level) (all_as_passed (parameters_in f) values) alike holds)
      (are-alike S (S.function ∷ older) (map (λ a. a.of) parts) (map (λ l. l.of) (parameters_in f))
      (all_as_passed (parameters_in f) values) alike are) of result kind
      (block + arguments_blocks (context_of S) parts) level wanted room may
      (stand-back S before (front block level) (last block level wanted) stands) in (
        follows-behind S (S.function ∷ older) before (front block level) (last block level wanted) level wanted of s t g
            h us (S.calls k values t) keeps seen goes rest.0,
        rest.1,
      )

  below : (level levels top : ℕ) → level + max 1 levels ≤ top → level < top
  below level levels top h = let m = le-max_left 1 levels in omega (arith, h, m)

  within : (level levels top : ℕ) → level + max 1 levels ≤ top → level + levels ≤ top
  within level levels top h = let m = le-max_right 1 levels in omega (arith, h, m)

  any-call_lowers : Lowers S (call_part (context_of S) of k parts) (λ s. and_then (run s) (S.calls k))
  any-call_lowers = compound-lowers S (call_part (context_of S) of k parts) _ refl refl
      (λ older block level wanted before s g stands room may b.
      behind-arguments older block level wanted before s g (run s) (falls s)
      (below level (arguments_levels parts) (levels_of S.function) room) may b stands
      (lowers.follows (S.function ∷ older) block level before s g
      (stand-front S before (front block level) (last block level wanted) stands)
      (within level (arguments_levels parts) (levels_of S.function) room) b))

pub calls-lower : AllCallsLower
calls-lower S site follow k f there kind arguments are =
    let parts = all_passed (context_of S) (parameters_in f) (parts_of (context_of S) arguments) in
    subst (λ (o : Option Function). Lowers S (call_part (context_of S) f.result k
    (all_passed (context_of S) (parameters_of o) (parts_of (context_of S) arguments)))
    (evaluate S.calls (Call f.result k arguments))) (sym there)
    (lowers-same S (call_part (context_of S) f.result k parts) _ _ (λ s. refl)
    (any-call_lowers S site follow k f f.result there refl kind parts (evaluate_all S.calls arguments)
    (arguments-pass S site (parameters_in f) arguments are) (all-alike S (parameters_in f) arguments are)
    (λ s. ((trees_keep S.bound S.calls site.keeps).arguments arguments s).after.turns)))
