-- Calls of functions whose result is a number, given that calls follow and that the arguments lower.
use Rattle.std.proofs.Common.{◌≡◌, ℕ, ◌+◌, ◌<◌, ◌≤◌, List, [], ◌∷◌, ◌++◌, map, max}
use Rattle.std.proofs.Common.{Option, Some, None, refl, sym, ap, ◌∙◌, subst, arith}
use Rattle.std.proofs.Math.Nat.{le-max_left, le-max_right}
use Rattle.std.specs.List.{AllZip}
use Rattle.std.specs.Prelude.{slice_get}
use Rattle.pcc_base.specs.Outcome.{Value, Number}
use Rattle.c_eval_laws.specs.Bounds.{state_of}
use Rattle.c_eval_laws.proofs.Agreeing.{trees_keep}
use Rattle.c_tree.specs.declared.types.IntegerType.{IntegerType}
use Rattle.c_tree.specs.declared.types.ValueType.{ValueType}
use Rattle.c_tree.specs.declared.types.ValueType.TheVariants.{Void, Integer, Pointer}
use Rattle.c_tree.specs.Evaluation.{evaluate, evaluate_all}
use Rattle.c_tree.specs.Program.{Call, Function}
use Rattle.c_tree.specs.Store as source
use Rattle.c_tree.specs.Store.{Evaluated, Gives, Ends, Held, HoldsNumber, HoldsPointer, and_then}
use Rattle.flow_graph.specs.declared.op.Op.TheVariants as op
use Rattle.flow_graph.specs.Meaning.{result_to}
use Rattle.flow_graph.specs.States as graph
use Rattle.flow_graph.specs.States.{number_of, value_at, with_value}
use Rattle.lower_lines.specs.Expressions.{all_passed, arguments_blocks, arguments_levels, arguments_lines}
use Rattle.lower_lines.specs.Expressions.{arguments_words, call_part, parameters_of, parts_of, result_lines}
use Rattle.lower_lines.specs.Following.{Begins, CallsFollow, ComesOf, FollowsAll, FollowsCall}
use Rattle.lower_lines.specs.Following.{IsBack, IsSite, Lowers, LowersAll, MayWant, Site, Stand, WordsHold}
use Rattle.lower_lines.specs.Following.{all_as_passed, behind, context_of, graphs_of, number_returned, parameters_in}
use Rattle.lower_lines.specs.Lines.{Line, Emit}
use Rattle.lower_lines.specs.Parts.{Wanted, Dropped, Own, ToLocal, Tests, Part, made, target, tested}
use Rattle.lower_lines.specs.Relation.{IsOf, Keeps}
use Rattle.lower_lines.specs.Variables.{levels_of, local_variables}
use Rattle.lower_lines.proofs.Points.{ops-stand}
use Rattle.lower_lines.proofs.Steps.{no-result-step, result-step}
use Rattle.lower_laws.proofs.Binary.{Fits, compound-lowers}
use Rattle.lower_laws.proofs.Converting.{begins-again}
use Rattle.lower_laws.proofs.Going.{Goes, stand-back, stand-front}
use Rattle.lower_laws.proofs.Made.{number-made}
use Rattle.lower_laws.proofs.Stepping.{lowers-same}
use Rattle.lower_laws.proofs.Unary.{follows-behind}
use Rattle.lower_laws.specs.ExpressionsLaws.{AreKinds, IsKind, NumberCallsLower}

-- ---- words of other integer types

kind-words : (vs : List Value) (p q : ValueType) (ps qs : List ValueType) (words : List ℕ) (x : Held) (xs : List Held)
    → IsKind p q → (AreKinds ps qs → (others : List ℕ) → WordsHold vs ps others xs → WordsHold vs qs others xs)
    → AreKinds ps qs → WordsHold vs (p ∷ ps) words (x ∷ xs) → WordsHold vs (q ∷ qs) words (x ∷ xs)
kind-words vs Void q ps qs words x xs kind rest kinds h = absurd kind
kind-words vs (Pointer t) q ps qs words x xs kind rest kinds h = absurd kind
kind-words vs (Integer t) Void ps qs words x xs kind rest kinds h = absurd kind
kind-words vs (Integer t) (Pointer u) ps qs words x xs kind rest kinds h = absurd kind
kind-words vs (Integer t) (Integer u) ps qs words (HoldsNumber n) xs kind rest kinds (spot, others, is, holds, more) =
    (spot, others, is, holds, rest kinds others more)
kind-words vs (Integer t) (Integer u) ps qs words (HoldsPointer array index) xs kind rest kinds
    (spot, others, is, holds, more) = absurd holds

words-kinds : (vs : List Value) (ps qs : List ValueType) (words : List ℕ) (xs : List Held) → AreKinds ps qs
    → WordsHold vs ps words xs → WordsHold vs qs words xs
words-kinds vs [] [] words xs kinds h = h
words-kinds vs [] (q ∷ qs) words xs kinds h = absurd kinds
words-kinds vs (p ∷ ps) [] words xs kinds h = absurd kinds
words-kinds vs (p ∷ ps) (q ∷ qs) words [] kinds h = absurd h
words-kinds vs (p ∷ ps) (q ∷ qs) words (x ∷ xs) kinds h =
    kind-words vs p q ps qs words x xs kinds.0 (λ rest others more. words-kinds vs ps qs others xs rest more) kinds.1 h

kind-is : (S : Site) (active : List Function) (p q : ValueType) (x : Held) → IsKind p q → IsOf S.program active p x
    → IsOf S.program active q x
kind-is S active Void q x kind is = absurd kind
kind-is S active (Pointer t) q x kind is = absurd kind
kind-is S active (Integer t) Void x kind is = absurd kind
kind-is S active (Integer t) (Pointer u) x kind is = absurd kind
kind-is S active (Integer t) (Integer u) (HoldsNumber n) kind is = tt
kind-is S active (Integer t) (Integer u) (HoldsPointer array index) kind is = absurd is

kinds-are : (S : Site) (active : List Function) (ps qs : List ValueType) (xs : List Held) → AreKinds ps qs
    → AllZip (IsOf S.program active) ps xs → AllZip (IsOf S.program active) qs xs
kinds-are S active [] [] xs kinds h = h
kinds-are S active [] (q ∷ qs) xs kinds h = absurd kinds
kinds-are S active (p ∷ ps) [] xs kinds h = absurd kinds
kinds-are S active (p ∷ ps) (q ∷ qs) [] kinds h = absurd h
kinds-are S active (p ∷ ps) (q ∷ qs) (x ∷ xs) kinds h =
    (kind-is S active p q x kinds.0 h.0, kinds-are S active ps qs xs kinds.1 h.1)

-- ---- the caller goes on

-- a state at a point is the state behind the lines of that point
pub back-is : (b p : ℕ) (h : graph.State) → h.block ≡ b → h.point ≡ p → record h { block = b; point = p } ≡ h
back-is b p h eb ep =
    subst (λ (i : ℕ). record h { block = i; point = p } ≡ h) eb
    (subst (λ (j : ℕ). record h { block = h.block; point = j } ≡ h) ep refl)

pub back-keeps : (first level : ℕ) (before : List Line) (g h : graph.State) → IsBack (behind before g) h
    → Keeps first level g h
back-keeps first level before g h back = record {
  function = back.function;
  arguments = back.arguments;
  temporaries = λ v low below. ap (λ (vs : List Value). slice_get vs v) back.variables;
  waiting = back.waiting;
}

pub begins-behind : (S : Site) (active : List Function) (before : List Line) (s : source.State) (g : graph.State)
    → Begins S active s g → Begins S active s (behind before g)
begins-behind S active before s g b = record {
  shows = record {
    calls = b.shows.calls;
    objects = b.shows.objects;
    counts = b.shows.counts;
    fits = b.shows.fits;
    left = b.shows.left;
    taken = b.shows.taken;
    written = b.shows.written;
  };
  function = b.function;
  youngest = b.youngest;
  turns = b.turns;
}

-- the line at a place is one
same-line : (before : List Line) (x y : Line) (xs ys : List Line) → before ++ (x ∷ xs) ≡ before ++ (y ∷ ys) → x ≡ y
same-line [] x y xs ys e = cc
same-line (b ∷ before) x y xs ys e = same-line before x y xs ys (tails b before x y xs ys e)
  where
    tails : (b : Line) (before : List Line) (x y : Line) (xs ys : List Line)
        → b ∷ (before ++ (x ∷ xs)) ≡ b ∷ (before ++ (y ∷ ys)) → before ++ (x ∷ xs) ≡ before ++ (y ∷ ys)
    tails b before x y xs ys e = cc

same-target : (S : Site) (before : List Line) (d e k : ℕ) (words : List ℕ)
    → Stand S before (Emit (op.Call (Some d) k words) ∷ []) → Stand S before (Emit (op.Call (Some e) k words) ∷ [])
    → d ≡ e
same-target S before d e k words (xs, one) (ys, other) =
    same-op d e k words (same-line before (Emit (op.Call (Some d) k words)) (Emit (op.Call (Some e) k words)) xs ys
    (sym one ∙ other))
  where
    same-op : (d e k : ℕ) (words : List ℕ) → Emit (op.Call (Some d) k words) ≡ Emit (op.Call (Some e) k words) → d ≡ e
    same-op d e k words same = cc

module _ (S : Site) (site : IsSite S) (follow : CallsFollow S) (older : List Function) (k : ℕ) (f : Function)
    (w : IntegerType) (there : slice_get S.program.functions k ≡ Some f) (result : f.result ≡ Integer w)
    (words : List ℕ) (arguments : List Held) (before : List Line) (s : source.State) (g : graph.State)
    (b : Begins S (S.function ∷ older) s g)
    (holds : WordsHold g.current.variables (map (λ l. l.of) (parameters_in f)) words
    (all_as_passed (parameters_in f) arguments))
    (are : AllZip (IsOf S.program (S.function ∷ older)) (map (λ l. l.of) (parameters_in f))
    (all_as_passed (parameters_in f) arguments)) where
  call-at : (d : Option ℕ) → Stand S before (Emit (op.Call d k words) ∷ [])
      → FollowsCall S (S.function ∷ older) (op.Call d k words) (Integer w) s (behind before g) (S.calls k arguments s)
  call-at d stands =
      subst (λ (p : ValueType). FollowsCall S (S.function ∷ older) (op.Call d k words) p s (behind before g)
      (S.calls k arguments s)) result
      (follow (S.function ∷ older) d k f words arguments s (behind before g) there
      (ops-stand S site before (op.Call d k words) g stands b.function) holds are
      (begins-behind S (S.function ∷ older) before s g b))

  -- no result is taken
  dropped-fits : (level : ℕ) (r : Evaluated Held) → Stand S before (Emit (op.Call None k words) ∷ [])
      → FollowsCall S (S.function ∷ older) (op.Call None k words) (Integer w) s (behind before g) r
      → Fits S (S.function ∷ older) before (Emit (op.Call None k words) ∷ []) level Dropped (Integer w) s g r
  dropped-fits level (Ends end t) stands ends = (ends, tt)
  dropped-fits level (Gives v t) stands (h, us, shows, back, is, seen, goes) = (
    (
      h,
      us,
      shows,
      back-keeps (local_variables S.function) level before g h back,
      tt,
      seen,
      λ o c. goes o
          (subst (λ (q : graph.State). ComesOf S t.turns q
          (result_to (graphs_of S) q (number_returned (Integer w) (Some v)) (Some (op.Call None k words))) o)
          (back-is (behind before g).block (behind before g).point h back.block back.point)
          (no-result-step S site before h (back.function ∙ b.function) k t.turns words
          (number_returned (Integer w) (Some v)) o stands c)),
    ),
    is,
  )

  -- the result is taken where it is wanted
  taken-fits : (block level : ℕ) (wanted : Wanted) (r : Evaluated Held) → level < levels_of S.function
      → MayWant S wanted (Integer w)
      → Stand S before (made (context_of S) block level wanted (Integer w)
      (λ to. Emit (op.Call (Some to.number) k words) ∷ []))
      → FollowsCall S (S.function ∷ older) (op.Call (Some (target (context_of S) level wanted).number) k words)
      (Integer w) s (behind before g) r
      → Fits S (S.function ∷ older) before (made (context_of S) block level wanted (Integer w)
      (λ to. Emit (op.Call (Some to.number) k words) ∷ [])) level wanted (Integer w) s g r
  taken-fits block level wanted (Ends end t) room may stands ends = (ends, tt)
  taken-fits block level wanted (Gives (HoldsPointer array index) t) room may stands
      (h, us, shows, back, is, seen, goes) = absurd is
  taken-fits block level wanted (Gives (HoldsNumber n) t) room may stands (h, us, shows, back, is, seen, goes) =
      let d = (target (context_of S) level wanted).number in
      let line = Emit (op.Call (Some d) k words) in
      let one = stand-front S before (line ∷ []) (tested (context_of S) block level wanted (Integer w)) stands in
      let at_target : Goes S s.turns (behind before g) t.turns
      (behind (before ++ line ∷ []) (with_value d (Number n) h)) us =
      λ o c. goes o
      (subst (λ (q : graph.State). ComesOf S t.turns q
      (result_to (graphs_of S) q (Some n) (Some (op.Call (Some d) k words))) o)
      (back-is (behind before g).block (behind before g).point h back.block back.point)
      (result-step S site before h (back.function ∙ b.function) d k t.turns words n o one c)) in (
        number-made S site older level before s t g h n us (λ to. Emit (op.Call (Some to.number) k words) ∷ []) room
            shows (back.function ∙ b.function) (back-keeps (local_variables S.function) level before g h back) seen
            (λ to takes here. subst (λ (i : ℕ). Goes S s.turns (behind before g) t.turns
            (behind (before ++ Emit (op.Call (Some i) k words) ∷ []) (with_value i (Number n) h)) us)
            (same-target S before d to.number k words one here) at_target) block wanted w stands may,
        tt,
      )

  pub result-fits : (block level : ℕ) (wanted : Wanted) → level < levels_of S.function
      → MayWant S wanted (Integer w)
      → Stand S before (result_lines (context_of S) block level wanted (Integer w) k words)
      → Fits S (S.function ∷ older) before (result_lines (context_of S) block level wanted (Integer w) k words) level
      wanted (Integer w) s g (S.calls k arguments s)
  result-fits block level Dropped room may stands =
      dropped-fits level (S.calls k arguments s) stands (call-at None stands)
  result-fits block level Own room may stands =
      taken-fits block level Own (S.calls k arguments s) room may stands
      (call-at (Some (target (context_of S) level Own).number)
      (stand-front S before (Emit (op.Call (Some (target (context_of S) level Own).number) k words) ∷ [])
      (tested (context_of S) block level Own (Integer w)) stands))
  result-fits block level (ToLocal j) room may stands =
      taken-fits block level (ToLocal j) (S.calls k arguments s) room may stands
      (call-at (Some (target (context_of S) level (ToLocal j)).number)
      (stand-front S before (Emit (op.Call (Some (target (context_of S) level (ToLocal j)).number) k words) ∷ [])
      (tested (context_of S) block level (ToLocal j) (Integer w)) stands))
  result-fits block level (Tests yes' no') room may stands =
      taken-fits block level (Tests yes' no') (S.calls k arguments s) room may stands
      (call-at (Some (target (context_of S) level (Tests yes' no')).number)
      (stand-front S before (Emit (op.Call (Some (target (context_of S) level (Tests yes' no')).number) k words) ∷ [])
      (tested (context_of S) block level (Tests yes' no') (Integer w)) stands))

-- ---- arguments, and then the call

module _ (S : Site) (site : IsSite S) (follow : CallsFollow S) (k : ℕ) (f : Function) (w : IntegerType)
    (there : slice_get S.program.functions k ≡ Some f) (result : f.result ≡ Integer w) (parts : List Part)
    (run : source.State → Evaluated (List Held)) (lowers : LowersAll S (parameters_in f) parts run)
    (kinds : AreKinds (map (λ a. a.of) parts) (map (λ l. l.of) (parameters_in f)))
    (falls : (s : source.State) → (state_of (run s)).turns ≤ s.turns) where
  behind-arguments : (older : List Function) (block level : ℕ) (wanted : Wanted) (before : List Line) (s : source.State)
      (g : graph.State) (r : Evaluated (List Held)) → (state_of r).turns ≤ s.turns → level < levels_of S.function
      → MayWant S wanted (Integer w) → Begins S (S.function ∷ older) s g
      → Stand S before (arguments_lines (context_of S) parts block level
      ++ result_lines (context_of S) (block + arguments_blocks (context_of S) parts) level wanted (Integer w) k
      (arguments_words (context_of S) parts level))
      → FollowsAll S (parameters_in f) (S.function ∷ older) before (arguments_lines (context_of S) parts block level)
      level
      (map (λ a. a.of) parts) (arguments_words (context_of S) parts level) s g r
      → Fits S (S.function ∷ older) before (arguments_lines (context_of S) parts block level
      ++ result_lines (context_of S) (block + arguments_blocks (context_of S) parts) level wanted (Integer w) k
      (arguments_words (context_of S) parts level)) level wanted (Integer w) s g (and_then r (S.calls k))
  behind-arguments older block level wanted before s g (Ends end t) fall room may b stands ends = (ends, tt)
  behind-arguments older block level wanted before s g (Gives values t) fall room may b stands
      (h, us, shows, keeps, seen, holds, are, goes) =
      let xs = arguments_lines (context_of S) parts block level in
      let words = arguments_words (context_of S) parts level in
      let last = result_lines (context_of S) (block + arguments_blocks (context_of S) parts) level wanted (Integer w) k
      words in
      let rest = result-fits S site follow older k f w there result words values (before ++ xs) t h
      (begins-again S older s t g h level b shows keeps fall)
      (words-kinds h.current.variables (map (λ a. a.of) parts) (map (λ l. l.of) (parameters_in f)) words
      (all_as_passed (parameters_in f) values) kinds holds)
      (kinds-are S (S.function ∷ older) (map (λ a. a.of) parts) (map (λ l. l.of) (parameters_in f))
      (all_as_passed (parameters_in f) values) kinds are)
      (block + arguments_blocks (context_of S) parts) level wanted room may (stand-back S before xs last stands) in (
        follows-behind S (S.function ∷ older) before xs last level wanted (Integer w) s t g h us (S.calls k values t)
            keeps seen goes rest.0,
        rest.1,
      )

  pub call-lowers : Lowers S (call_part (context_of S) (Integer w) k parts) (λ s. and_then (run s) (S.calls k))
  call-lowers = compound-lowers S (call_part (context_of S) (Integer w) k parts) _ refl refl
      (λ older block level wanted before s g stands room may b.
      behind-arguments older block level wanted before s g (run s) (falls s)
      (below level (arguments_levels parts) (levels_of S.function) room) may b stands
      (lowers.follows (S.function ∷ older) block level before s g
      (stand-front S before (arguments_lines (context_of S) parts block level)
      (result_lines (context_of S) (block + arguments_blocks (context_of S) parts) level wanted (Integer w) k
      (arguments_words (context_of S) parts level)) stands)
      (within level (arguments_levels parts) (levels_of S.function) room) b))
    where
      below : (level levels top : ℕ) → level + max 1 levels ≤ top → level < top
      below level levels top h = let m = le-max_left 1 levels in omega (arith, h, m)

      within : (level levels top : ℕ) → level + max 1 levels ≤ top → level + levels ≤ top
      within level levels top h = let m = le-max_right 1 levels in omega (arith, h, m)

pub number-calls_lower : NumberCallsLower
number-calls_lower S site follow k f w there result arguments lowers kinds =
    subst (λ (o : Option Function). Lowers S (call_part (context_of S) (Integer w) k
    (all_passed (context_of S) (parameters_of o) (parts_of (context_of S) arguments)))
    (evaluate S.calls (Call (Integer w) k arguments))) (sym there)
    (lowers-same S (call_part (context_of S) (Integer w) k
    (all_passed (context_of S) (parameters_in f) (parts_of (context_of S) arguments))) _ _ (λ s. refl)
    (call-lowers S site follow k f w there result
    (all_passed (context_of S) (parameters_in f) (parts_of (context_of S) arguments)) (evaluate_all S.calls arguments)
    lowers kinds (λ s. ((trees_keep S.bound S.calls site.keeps).arguments arguments s).after.turns)))
