-- Calls over every bound do what the op of a call does.
use Rattle.std.proofs.Common.{◌≡◌, ℕ, zero, suc, ◌+◌, ◌<◌, ◌≤◌, Bool, true, false, ℤ, pos, List, [], ◌∷◌, ◌++◌, length}
use Rattle.std.proofs.Common.{map, Option, Some, None, refl, sym, ap, ◌∙◌, subst, arith, append-nil}
use Rattle.std.specs.Prelude.{if◌then◌else◌, nat_le, slice_get}
use Rattle.std.specs.List.{AllZip}
use Rattle.std.proofs.lemmas.List.{length-map}
use Rattle.std.proofs.lemmas.List.Elements.{All-from_recursion, recursion_from_All}
use Rattle.std.proofs.lemmas.Bool.{false≢true}
use Rattle.pcc_base.specs.declared.run.Trap.TheVariants.{Check}
use Rattle.pcc_base.specs.Outcome.{End, Goes, Listing, Outcome, Trapped, Value, Visit, after_visits}
use Rattle.pcc_base.proofs.Lists.{all-at}
use Rattle.c_eval_laws.proofs.Calls.{calls_keep}
use Rattle.c_eval_laws.specs.Laws.{within}
use Rattle.c_tree.specs.declared.types.ValueType.{ValueType}
use Rattle.c_tree.specs.declared.types.ValueType.TheVariants.{Void, Integer, Pointer}
use Rattle.c_tree.specs.Evaluation.{Left, Falls, Breaks, Continues, Returns, call_over, call_within}
use Rattle.c_tree.specs.Evaluation.{execute_from, first_activation, most_active, run_function, type_at, value_left}
use Rattle.c_tree.specs.Program.{Function, Local, Program}
use Rattle.c_tree.specs.Store as source
use Rattle.c_tree.specs.Store.{Evaluated, Gives, Ends, Held, HoldsNumber, HoldsPointer, and_then, in_type, turn_with}
use Rattle.c_tree.specs.WellTyped.{IsResult, IsScalar, IsTypedFunction, WellTyped}
use Rattle.flow_graph.specs.declared.op.Op.{Op}
use Rattle.flow_graph.specs.declared.op.Op.TheVariants as op
use Rattle.flow_graph.specs.Meaning.{Moved, Moves, Halts, Stuck, act, back_to, enters, given, result_to}
use Rattle.flow_graph.specs.Meaning.{returns_to}
use Rattle.flow_graph.specs.Running.{outcome_at}
use Rattle.flow_graph.specs.States as graph
use Rattle.flow_graph.specs.States.{GraphProgram, active_of, depth_of, op_at, op_of}
use Rattle.lower_lines.specs.Following.{Begins, CallsFollow, Comes, ComesBack, ComesOf, EndsSo, FollowsCall, FollowsRun}
use Rattle.lower_lines.specs.Following.{IsBack, IsSite, Site, all_as_passed, behind, context_of}
use Rattle.lower_lines.specs.Following.{WordsHold, number_returned, parameters_in}
use Rattle.lower_lines.specs.Laws.{BodiesLower, CallsLower, ExpressionsLower, LinesClose, site_within}
use Rattle.lower_lines.specs.Lines.{Line, Start, Emit}
use Rattle.lower_lines.specs.Programs.{body_run, lowered, no_exits, parameters_lines}
use Rattle.lower_lines.specs.Relation.{IsOf, SameWaiting, ShowCalls, Shows}
use Rattle.lower_lines.specs.Shown.{ListsLocals}
use Rattle.lower_lines.specs.Statements.{Leaves}
use Rattle.lower_lines.specs.Words.{IsInMemory}
use Rattle.lower_lines.proofs.Points.{starts-stand}
use Rattle.lower_lines.proofs.Steps.{comes-end, comes-plain, turn-spent, turn-step}
use Rattle.lower_laws.specs.CallsLaws.{IsLeft, LeavesSo, Takes, all_words_passed, waiting_at}
use Rattle.lower_laws.proofs.Beginning.{calls-back, calls-fresh}
use Rattle.lower_laws.proofs.Leaving.{bodies-leave}
use Rattle.lower_laws.proofs.Numbering.{statements-own}
use Rattle.lower_laws.proofs.Parameters.{parameters-taken, words-read}
use Rattle.lower_laws.proofs.Passing.{all-take, all-younger, get-take, parameters-first}

-- ---- what comes of a call that has begun

-- what a body that is left returns, if anything
abbrev pub returned_by : Left → Option Held
returned_by Falls = None
returned_by Breaks = None
returned_by Continues = None
returned_by (Returns value) = value

-- What comes of a call from its first point: it goes back with what the body returns, or ends.
abbrev pub FollowsBegun : Site → List Function → source.State → graph.State → Evaluated Left → Type 0
FollowsBegun S active s g (Gives left t) =
    (h : graph.State) × (visits : List Visit) × Shows S.program (S.function ∷ active) t h
    × AllZip SameWaiting g.waiting h.waiting × IsLeft S.function.result false false left
    × (t.visits ≡ s.visits ++ visits)
    × ((outcome : Outcome) → ComesBack S t.turns h (returned_by left) outcome
    → Comes S s.turns (behind (Start 0 ∷ []) g) (after_visits visits outcome))
FollowsBegun S active s g (Ends end t) = EndsSo S end s t (behind (Start 0 ∷ []) g)

-- a turn before a call that goes back is one before all of it
pub turn-over : (n : ℕ) (s : source.State) (go : source.State → Evaluated Left)
    → and_then (turn_with n s go) call_over ≡ turn_with n s (λ t. and_then (go t) call_over)
turn-over zero s go = refl
turn-over (suc n) s go = refl

-- the streams of an outcome are those of either side
pub ends-here : (S : Site) (active : List Function) (s : source.State) (g h : graph.State) (turns : ℕ)
    (end : End) → Shows S.program active s g → Comes S turns h (outcome_at g end)
    → Comes S turns h (record { visits = []; taken = s.taken; written = s.written; end = end })
ends-here S active s g h turns end shows r =
    subst (λ (w : List ℕ). Comes S turns h (record { visits = []; taken = s.taken; written = w; end = end }))
    shows.written (subst (λ (n : ℕ). Comes S turns h (record {
      visits = [];
      taken = n;
      written = g.written;
      end = end;
    })) shows.taken r)

module _ (p : Program) (listing : Listing) (typed : WellTyped p) (memory : IsInMemory p)
    (lists : ListsLocals p listing) (close : LinesClose p) (bodies : BodiesLower) (expressions : ExpressionsLower) where
  pub site-there : (bound k : ℕ) (f : Function) → slice_get p.functions k ≡ Some f
      → IsSite (site_within bound p listing k f)
  site-there bound k f at = record {
    there = at;
    lines = (close k f at).0;
    lists = lists;
    keeps = calls_keep p listing bound;
  }

  pub function-typed : (k : ℕ) (f : Function) → slice_get p.functions k ≡ Some f → IsTypedFunction p f
  function-typed k f at = all-at (IsTypedFunction p) p.functions k f
      (recursion_from_All (IsTypedFunction p) p.functions typed.functions) at

  -- a function's body, over bounds of calls and of loops
  abbrev pub body_of : ℕ → ℕ → Function → source.State → Evaluated Left
  body_of bound loops f s =
      execute_from (within (call_within bound p listing) loops listing (type_at f) f.result) f.body 0 s

  -- ---- from the start of a call to its end

  module _ (bound loops k : ℕ) (f : Function) (at : slice_get p.functions k ≡ Some f) (le : bound ≤ loops)
      (calls : CallsFollow (site_within bound p listing k f)) where
    abbrev site : Site
    site = site_within bound p listing k f

    -- its lines: before the parameters, of them, and of the body
    abbrev entry : List Line
    entry = Start 0 ∷ Emit op.Turn ∷ []

    abbrev taking : List Line
    taking = parameters_lines (context_of site) (parameters_in f) 0 0

    abbrev running : List Line
    running = (body_run (context_of site)).lines no_exits 1 Leaves

    -- what comes of the body is what comes of the call
    after-body : (active : List Function) (s t : source.State) (g h : graph.State) (r : Evaluated Left)
        → h.waiting ≡ g.waiting → t.visits ≡ s.visits
        → ((o : Outcome) → Comes site t.turns (behind (entry ++ taking) h) o
        → Comes site s.turns (behind (Start 0 ∷ []) g) o)
        → LeavesSo f.result false false r
        → FollowsRun site (f ∷ active) (entry ++ taking) running no_exits Leaves t h r
        → FollowsBegun site active s g r
    after-body active s t g h (Gives Falls u) same seen first is (i, visits, shows, keeps, more, comes) = (
      i,
      visits,
      shows,
      subst (λ (ws : List graph.Waiting). AllZip SameWaiting ws i.waiting) same keeps.waiting,
      is,
      more ∙ ap (λ (vs : List Visit). vs ++ visits) seen,
      λ o r. first (after_visits visits o) (comes o r),
    )
    after-body active s t g h (Gives Breaks u) same seen first is follows = absurd (false≢true is)
    after-body active s t g h (Gives Continues u) same seen first is follows = absurd (false≢true is)
    after-body active s t g h (Gives (Returns value) u) same seen first is (i, visits, shows, keeps, more, comes) = (
      i,
      visits,
      shows,
      subst (λ (ws : List graph.Waiting). AllZip SameWaiting ws i.waiting) same keeps.waiting,
      is,
      more ∙ ap (λ (vs : List Visit). vs ++ visits) seen,
      λ o r. first (after_visits visits o) (comes o r),
    )
    after-body active s t g h (Ends end u) same seen first is (visits, more, comes) = (
      visits,
      more ∙ ap (λ (vs : List Visit). vs ++ visits) seen,
      first (record { visits = visits; taken = u.taken; written = u.written; end = end }) comes,
    )

    pub begun : (active : List Function) (arguments : List Held) (s : source.State) (g : graph.State) (n : ℕ)
        → s.turns ≡ n → n < suc bound → g.current.function ≡ k
        → g.current.arguments ≡ all_words_passed (map (λ l. l.of) (parameters_in f))
        (all_as_passed (parameters_in f) arguments)
        → AllZip (IsOf p active) (map (λ l. l.of) (parameters_in f)) (all_as_passed (parameters_in f) arguments)
        → Shows p (f ∷ active) (record s { active = first_activation f [] ∷ s.active }) g
        → FollowsBegun site active s g (turn_with n s
        (λ t. body_of bound loops f (record t { active = first_activation f arguments ∷ t.active })))
    begun active arguments s g zero e lt own words are shows = (
      [],
      sym (append-nil s.visits),
      subst (λ (m : ℕ). Comes site m (behind (Start 0 ∷ []) g) (record {
        visits = [];
        taken = s.taken;
        written = s.written;
        end = Goes;
      })) (sym e)
          (ends-here site (f ∷ active) (record s { active = first_activation f [] ∷ s.active }) g
          (behind (Start 0 ∷ []) g) 0 Goes shows
          (turn-spent site (site-there bound k f at) (Start 0 ∷ []) g own (taking ++ running, refl))),
    )
    begun active arguments s g (suc m) e lt own words are shows =
        let there = site-there bound k f at in
        let is = function-typed k f at in
        let s0 : source.State = record s { turns = m; active = first_activation f [] ∷ s.active } in
        let s1 : source.State = record s { turns = m; active = first_activation f arguments ∷ s.active } in
        let fresh : Shows p (f ∷ active) s0 g = record {
          calls = shows.calls;
          objects = shows.objects;
          counts = shows.counts;
          fits = shows.fits;
          left = shows.left;
          taken = shows.taken;
          written = shows.written;
        } in
        let takes : Takes site (f ∷ active) entry taking s1 g =
        subst (λ (t : source.State). Takes site (f ∷ active) entry taking t g)
        (parameters-first (IsOf p active) f arguments (record s { turns = m }) are)
        (parameters-taken site there active (parameters_in f) 0 [] (all_as_passed (parameters_in f) arguments) entry s0
        g
        (running, refl) inside
        (All-from_recursion (λ l. IsScalar l.of) (parameters_in f) (all-take (λ l. IsScalar l.of) f.parameters f.locals
        (recursion_from_All (λ l. IsScalar l.of) f.locals is.locals)))
        (all-younger p f active (map (λ l. l.of) (parameters_in f)) (all_as_passed (parameters_in f) arguments) are)
        own words fresh) in
        let body = bodies site there typed memory (expressions site there typed calls) loops le false false f.body
        is.body (statements-own p typed.numbered k f at) in
        after-body active s s1 g takes.0 (body_of bound loops f s1) takes.4 refl
        (λ o r. subst (λ (n : ℕ). Comes site n (behind (Start 0 ∷ []) g) o) (sym e)
        (turn-step site there (Start 0 ∷ []) g own m o (taking ++ running, refl) (takes.5 m o r)))
        (bodies-leave p f (within (call_within bound p listing) loops listing (type_at f) f.result) false false f.body 0
        s1 is.body)
        (body.follows (f ∷ active) no_exits 1 Leaves (entry ++ taking) s1 takes.0
        ([], ap (λ (ls : List Line). entry ++ (taking ++ ls)) (sym (append-nil running))) (close k f at).1
        (record { break_goes = λ no. absurd (false≢true no); continue_goes = λ no. absurd (false≢true no) }) tt
        (record { shows = takes.1; function = takes.2 ∙ own; youngest = refl; turns = omega (arith, lt) }))
      where
        inside : (j : ℕ) (l : Local) → slice_get (parameters_in f) j ≡ Some l → slice_get f.locals (0 + j) ≡ Some l
        inside j l e = let plain : j ≡ 0 + j = omega arith in
            subst (λ (i : ℕ). slice_get f.locals i ≡ Some l) plain (get-take f.parameters f.locals j l e)

  -- ---- back to the caller

  calls-long : (active : List Function) (xs : List source.Activation) (bs : List graph.Activation)
      → ShowCalls p active xs bs → length xs ≡ length bs
  calls-long [] [] [] h = refl
  calls-long [] [] (b ∷ bs) h = absurd h
  calls-long [] (a ∷ xs) bs h = absurd h
  calls-long (f ∷ fs) [] bs h = absurd h
  calls-long (f ∷ fs) (a ∷ xs) [] h = absurd h
  calls-long (f ∷ fs) (a ∷ xs) (b ∷ bs) h = ap suc (calls-long fs xs bs h.1)

  -- as many calls are active on both sides
  depth-same : (active : List Function) (s : source.State) (g : graph.State) → Shows p active s g
      → depth_of g ≡ length s.active
  depth-same active s g shows =
      sym (calls-long active s.active (active_of g) shows.calls ∙ ap suc (length-map g.waiting (λ w. w.activation)))

  nothing-returned : (of : ValueType) → number_returned of None ≡ number_returned of (Some (HoldsNumber (pos 0)))
  nothing-returned Void = refl
  nothing-returned (Integer t) = refl
  nothing-returned (Pointer t) = refl

  -- what the graphs return is what the source's value is
  number-same : (of : ValueType) (left : Left) → IsLeft of false false left
      → number_returned of (returned_by left) ≡ number_returned of (Some (value_left left))
  number-same of Falls is = nothing-returned of
  number-same of Breaks is = absurd (false≢true is)
  number-same of Continues is = absurd (false≢true is)
  number-same of (Returns None) is = nothing-returned of
  number-same of (Returns (Some value)) is = refl

  integer-of : (active : List Function) (of : ValueType) (x : Held) → IsResult of → IsOf p active of (in_type of x)
  integer-of active Void x is = tt
  integer-of active (Integer t) (HoldsNumber n) is = tt
  integer-of active (Integer t) (HoldsPointer array index) is = tt
  integer-of active (Pointer t) x is = absurd is

  zero-result : (active : List Function) (of : ValueType) → IsResult of → IsOf p active of (HoldsNumber (pos 0))
  zero-result active Void is = tt
  zero-result active (Integer t) is = tt
  zero-result active (Pointer t) is = absurd is

  value-of : (active : List Function) (of : ValueType) (left : Left) → IsResult of → IsLeft of false false left
      → IsOf p active of (value_left left)
  value-of active of Falls result is = zero-result active of result
  value-of active of Breaks result is = absurd (false≢true is)
  value-of active of Continues result is = absurd (false≢true is)
  value-of active of (Returns None) result is = zero-result active of result
  value-of active of (Returns (Some value)) result (x, e) =
      subst (λ (y : Held). IsOf p active of y) (sym e) (integer-of active of x result)

  -- a caller that goes on has the streams of its call
  of-back : (S : Site) (h : graph.State) (w : graph.Waiting) (ws : List graph.Waiting) (turns : ℕ) (o : Outcome)
      (m : Moved) → ComesOf S turns (back_to h w ws) m o → ComesOf S turns h m o
  of-back S h w ws turns o (Moves i) r = r
  of-back S h w ws turns o (Halts end) r = r
  of-back S h w ws turns o Stuck r = r

  module _ (bound low k j : ℕ) (f callee : Function) (active : List Function) (call : Op) (s : source.State)
      (g c : graph.State) (here : op_at (lowered p) g ≡ Some call) (result : IsResult callee.result)
      (waits : c.waiting ≡ waiting_at g ∷ g.waiting)
      (first : (o : Outcome) → Comes (site_within low p listing j callee) s.turns (behind (Start 0 ∷ []) c) o
      → Comes (site_within bound p listing k f) s.turns g o) where
    -- the caller goes on at its call
    goes-on : (h : graph.State) (w : graph.Waiting) (ws : List graph.Waiting) (left : Left) (turns : ℕ) (o : Outcome)
        → h.waiting ≡ w ∷ ws → IsBack g (back_to h w ws) → IsLeft callee.result false false left
        → ComesOf (site_within bound p listing k f) turns (back_to h w ws) (result_to (lowered p) (back_to h w ws)
        (number_returned callee.result (Some (value_left left))) (Some call)) o
        → ComesBack (site_within low p listing j callee) turns h (returned_by left) o
    goes-on h w ws left turns o e back is r =
        let S = site_within bound p listing k f in
        let G = lowered p in
        let n = number_returned callee.result (returned_by left) in
        let op-same : op_of G w.activation.function w.point ≡ Some call =
        ap (λ (q : ℕ). op_of G q w.point) back.function ∙ ap (λ (q : ℕ). op_of G g.current.function q) back.point
        ∙ here in
        subst (λ (v : List graph.Waiting). ComesOf S turns h (returns_to G h v n) o) (sym e)
        (subst (λ (x : Option Op). ComesOf S turns h (result_to G (back_to h w ws) n x) o) (sym op-same)
        (subst (λ (m : Option ℤ). ComesOf S turns h (result_to G (back_to h w ws) m (Some call)) o)
        (sym (number-same callee.result left is))
        (of-back S h w ws turns o (result_to G (back_to h w ws)
        (number_returned callee.result (Some (value_left left))) (Some call)) r)))

    -- what comes of the call from its start is what comes of its op
    over : (r : Evaluated Left) → FollowsBegun (site_within low p listing j callee) active s c r
        → FollowsCall (site_within bound p listing k f) active call callee.result s g (and_then r call_over)
    over (Gives left t) (h, visits, shows, waiting, is, more, comes) =
        let b = calls-back p callee active t g h shows
        (subst (λ (ws : List graph.Waiting). AllZip SameWaiting ws h.waiting) waits waiting) in (
          back_to h b.0 b.1,
          visits,
          b.4,
          b.3,
          value-of active callee.result left result is,
          more,
          λ o r. first (after_visits visits o) (comes o (goes-on h b.0 b.1 left t.turns o b.2 b.3 is r)),
        )
    over (Ends end t) (visits, more, comes) = (
      visits,
      more,
      first (record { visits = visits; taken = t.taken; written = t.written; end = end }) comes,
    )

  -- ---- calls over every bound

  module _ (b k j : ℕ) (f callee : Function) (there : slice_get p.functions j ≡ Some callee)
      (following : CallsFollow (site_within b p listing j callee)) (active : List Function) (result : Option ℕ)
      (words : List ℕ) (arguments : List Held) (s : source.State) (g : graph.State)
      (here : op_at (lowered p) g ≡ Some (op.Call result j words))
      (hold : WordsHold g.current.variables (map (λ l. l.of) (parameters_in callee)) words
      (all_as_passed (parameters_in callee) arguments))
      (are : AllZip (IsOf p active) (map (λ l. l.of) (parameters_in callee))
      (all_as_passed (parameters_in callee) arguments))
      (begins : Begins (site_within (suc b) p listing k f) active s g) where
    abbrev values : List Value
    values = all_words_passed (map (λ l. l.of) (parameters_in callee)) (all_as_passed (parameters_in callee) arguments)

    -- the call's own state
    abbrev start : graph.State
    start = record g {
      current = graph.first_activation (lowered p) j values;
      waiting = waiting_at g ∷ g.waiting;
    }

    -- what the op does, by the test of the depth
    does : (full : Bool) → nat_le most_active (length s.active) ≡ full → act (lowered p) g (op.Call result j words)
        ≡ (if full then Halts (Trapped Check) else enters (lowered p) g j values)
    does full e =
        ap (λ (v : Option (List Value)). given v (λ vs. if nat_le most_active (depth_of g) then Halts (Trapped Check)
        else enters (lowered p) g j vs)) (words-read g (map (λ l. l.of) (parameters_in callee)) words
        (all_as_passed (parameters_in callee) arguments) hold)
        ∙ ap (λ (t : Bool). if t then Halts (Trapped Check) else enters (lowered p) g j values)
        (ap (nat_le most_active) (depth-same active s g begins.shows) ∙ e)

    fresh : Shows p (callee ∷ active) (record s { active = first_activation callee [] ∷ s.active }) start
    fresh = record {
      calls = (calls-fresh p j callee (callee ∷ active) values there, begins.shows.calls);
      objects = begins.shows.objects;
      counts = begins.shows.counts;
      fits = begins.shows.fits;
      left = begins.shows.left;
      taken = begins.shows.taken;
      written = begins.shows.written;
    }

    chosen : (full : Bool) → nat_le most_active (length s.active) ≡ full
        → FollowsCall (site_within (suc b) p listing k f) active (op.Call result j words) callee.result s g
        (if full then Ends (Trapped Check) s else turn_with s.turns s (λ t. and_then
        (body_of b (suc b) callee (record t { active = first_activation callee arguments ∷ t.active })) call_over))
    chosen true e = (
      [],
      sym (append-nil s.visits),
      ends-here (site_within (suc b) p listing k f) active s g g s.turns (Trapped Check) begins.shows
          (comes-end (site_within (suc b) p listing k f) g (op.Call result j words) s.turns (Trapped Check) here refl
          refl (does true e)),
    )
    chosen false e =
        let T = site_within b p listing j callee in
        let site' = site-there b j callee there in
        let starts = starts-stand T site' [] 0 start (
          Emit op.Turn ∷ (parameters_lines (context_of T)
              (parameters_in callee) 0 0 ++ (body_run (context_of T)).lines no_exits 1 Leaves),
          refl,
        ) refl in
        subst (λ (r : Evaluated Held). FollowsCall (site_within (suc b) p listing k f) active
        (op.Call result j words) callee.result s g r) (turn-over s.turns s (λ t. body_of b (suc b) callee
        (record t { active = first_activation callee arguments ∷ t.active })))
        (over (suc b) b k j f callee active (op.Call result j words) s g start here
        (function-typed j callee there).result refl
        (λ o r. comes-plain (site_within (suc b) p listing k f) g (behind (Start 0 ∷ []) start)
        (op.Call result j words) s.turns o here refl refl (does false e ∙ starts.0 ∙ ap Moves starts.1) r)
        (turn_with s.turns s (λ t. body_of b (suc b) callee
        (record t { active = first_activation callee arguments ∷ t.active })))
        (begun b (suc b) j callee there (omega arith) following active arguments s start s.turns
        refl begins.turns refl refl are fresh))

  pub calls-follow : (bound k : ℕ) (f : Function) → slice_get p.functions k ≡ Some f
      → CallsFollow (site_within bound p listing k f)
  calls-follow zero k f at active result j callee words arguments s g there here hold are begins =
      absurd (omega (arith, begins.turns))
  calls-follow (suc b) k f at active result j callee words arguments s g there here hold are begins =
      subst (λ (o : Option Function). FollowsCall (site_within (suc b) p listing k f) active (op.Call result j words)
      callee.result s g (run_function (call_within b p listing) (suc b) listing o arguments s)) (sym there)
      (chosen b k j f callee there (calls-follow b j callee there) active result words arguments s g here hold are
      begins (nat_le most_active (length s.active)) refl)

pub calls-lower : CallsLower
calls-lower p listing typed memory lists close bodies expressions bound k f at =
    calls-follow p listing typed memory lists close bodies expressions bound k f at
