-- Loops: each turn leads back to the block where the turn is, or out.
use Rattle.std.proofs.Common.{◌≡◌, ℕ, zero, suc, ◌≤◌, ◌<◌, Bool, true, false, List, [], ◌∷◌, ◌++◌, refl, sym}
use Rattle.std.proofs.Common.{subst, arith, append-nil}
use Rattle.std.specs.Prelude.{if◌then◌else◌}
use Rattle.pcc_base.specs.Outcome.{Goes as StillGoes, Outcome}
use Rattle.c_eval_laws.specs.Bounds.{state_of}
use Rattle.c_eval_laws.specs.Laws.{LoopKeeps, from_body, from_test}
use Rattle.c_eval_laws.proofs.Agreeing.{loops_unfold}
use Rattle.c_eval_laws.proofs.Keeping.{lower-keeps}
use Rattle.c_tree.specs.Evaluation.{Left, Falls, Breaks, Continues, Returns, Runs, after_body, do_loop}
use Rattle.c_tree.specs.Evaluation.{loop}
use Rattle.c_tree.specs.Program.{Function}
use Rattle.c_tree.specs.Store as source
use Rattle.c_tree.specs.Store.{Evaluated, Gives, Ends, Held, and_then, take_turn, turn_with, visited}
use Rattle.flow_graph.specs.declared.op.Op.TheVariants as op
use Rattle.flow_graph.specs.States as graph
use Rattle.lower_lines.specs.Following.{Begins, Comes, IsSite, Site, Stand, at_start}
use Rattle.lower_lines.specs.Following.{behind}
use Rattle.lower_lines.specs.Lines.{Line, Emit, Start}
use Rattle.lower_lines.specs.Statements.{To, Exits}
use Rattle.lower_lines.specs.Variables.{local_variables}
use Rattle.lower_lines.proofs.Changes.{kept-none}
use Rattle.lower_lines.proofs.Steps.{turn-spent, turn-step}
use Rattle.lower_laws.proofs.Going.{stand-back, stand-front}
use Rattle.lower_laws.proofs.Onward.{start-goes}
use Rattle.lower_laws.proofs.Ways.{Chosen, from-goes, from-here, from-then}
use Rattle.lower_laws.proofs.Ways.{from-turns, next-begins}
use Rattle.lower_laws.specs.Ways.{From, Keeping, LeftBy}

-- the source with so many turns left
pub with-turns : (S : Site) (active : List Function) (s : source.State) (g : graph.State) (n : ℕ) → Begins S active s g
    → n ≤ s.turns → Begins S active (record s { turns = n }) g
with-turns S active s g n b le = record {
  shows = record {
    calls = b.shows.calls;
    objects = b.shows.objects;
    counts = b.shows.counts;
    fits = b.shows.fits;
    left = b.shows.left;
    taken = b.shows.taken;
    written = b.shows.written;
  };
  function = b.function;
  youngest = b.youngest;
  turns = lower s.turns n S.bound le b.turns;
}
  where
    lower : (a b n : ℕ) → b ≤ a → a < n → b < n
    lower a b n le lt = omega (arith, le, lt)

-- a turn is taken, or there is none
pub turn-from : (S : Site) → IsSite S → (active : List Function) (before rest : List Line) (n : ℕ) (s : source.State)
    (g : graph.State) (last : Left → source.State → graph.State → Outcome → Type 0) (go : Runs) → s.turns ≡ n
    → Begins S active s g → Stand S before (Emit op.Turn ∷ rest)
    → ((m : ℕ) → n ≡ suc m → From S active 0 (behind (before ++ Emit op.Turn ∷ []) g) (record s { turns = m }) g last
    (go (record s { turns = m })))
    → From S active 0 (behind before g) s g last (turn_with n s go)
turn-from S site active before rest zero s g last go e b stands next = (
  [],
  sym (append-nil s.visits),
  subst (λ (k : ℕ). Comes S k (behind before g) (record {
    visits = [];
    taken = s.taken;
    written = s.written;
    end = StillGoes;
  })) (sym e)
      (subst (λ (w : List ℕ). Comes S 0 (behind before g) (record {
        visits = [];
        taken = s.taken;
        written = w;
        end = StillGoes;
      })) b.shows.written
      (subst (λ (k : ℕ). Comes S 0 (behind before g) (record {
        visits = [];
        taken = k;
        written = g.written;
        end = StillGoes;
      })) b.shows.taken
      (turn-spent S site before g b.function (stand-front S before (Emit op.Turn ∷ []) rest stands)))),
)
turn-from S site active before rest (suc m) s g last go e b stands next =
    from-then S active 0 (behind before g) (behind (before ++ Emit op.Turn ∷ []) g) s (record s { turns = m }) g g []
    last (go (record s { turns = m })) (kept-none (local_variables S.function) 0 g) (sym (append-nil s.visits))
    (λ o k. subst (λ (n : ℕ). Comes S n (behind before g) o) (sym e)
    (turn-step S site before g b.function m o (stand-front S before (Emit op.Turn ∷ []) rest stands) k))
    (next m refl)

-- What takes a turn each time, by induction on how many there may be: one time is shown for whatever comes of the next.
pub repeats : (S : Site) → IsSite S → (active : List Function) (start : ℕ) (before rest : List Line)
    (last : Left → source.State → graph.State → Outcome → Type 0) (again turn : Runs)
    → Stand S before (Start start ∷ (Emit op.Turn ∷ rest))
    → ((s : source.State) → s.turns < S.bound → again s ≡ take_turn s turn)
    → ((s : source.State) (g : graph.State) → Begins S active s g
    → ((t : source.State) (h : graph.State) → Begins S active t h → t.turns ≤ s.turns
    → From S active 0 (at_start S start h) t h last (again t))
    → From S active 0 (behind ((before ++ Start start ∷ []) ++ Emit op.Turn ∷ []) g) s g last (turn s))
    → (k : ℕ) (s : source.State) (g : graph.State) → s.turns < k → Begins S active s g
    → From S active 0 (at_start S start g) s g last (again s)
repeats S site active start before rest last again turn stands unfolds one zero s g lt b = absurd (omega (arith, lt))
repeats S site active start before rest last again turn stands unfolds one (suc k) s g lt b =
    subst (λ (r : Evaluated Left). From S active 0 (at_start S start g) s g last r) (sym (unfolds s b.turns))
    (from-goes S active 0 (at_start S start g) (behind (before ++ Start start ∷ []) g) s g last (take_turn s turn)
    (λ o r. start-goes S site before (Emit op.Turn ∷ rest) start g s.turns o b.function stands r)
    (turn-from S site active (before ++ Start start ∷ []) rest s.turns s g last turn refl b
    (stand-back S before (Start start ∷ []) (Emit op.Turn ∷ rest) stands)
    (λ m e. one (record s { turns = m }) g (with-turns S active s g m b (fewer s.turns m e))
    (λ t h bt le. repeats S site active start before rest last again turn stands unfolds one k t h
    (lower s.turns m t.turns k e le lt) bt))))
  where
    fewer : (a m : ℕ) → a ≡ suc m → m ≤ a
    fewer a m e = omega (arith, e)

    lower : (a m n k : ℕ) → a ≡ suc m → n ≤ m → a < suc k → n < k
    lower a m n k e le lt = omega (arith, e, le, lt)

-- what comes after the body of a loop
pub body-then : (S : Site) (active : List Function) (lines whole : List Line) (exit again : ℕ) (exits : Exits)
    (from : graph.State) (s : source.State) (g : graph.State) (r : Evaluated Left) (next : Runs) → Begins S active s g
    → (state_of r).turns ≤ s.turns
    → From S active 0 from s g (LeftBy S lines (record { breaks = exit; continues = again }) (To again)) r
    → ((t : source.State) (h : graph.State) → Begins S active t h → t.turns ≤ s.turns
    → From S active 0 (at_start S again h) t h (LeftBy S whole exits (To exit)) (next t))
    → From S active 0 from s g (LeftBy S whole exits (To exit)) (and_then r (after_body next))
body-then S active lines whole exit again exits from s g (Ends end t) next b le ends go = ends
body-then S active lines whole exit again exits from s g (Gives Breaks t) next b le gives go = gives
body-then S active lines whole exit again exits from s g (Gives (Returns value) t) next b le gives go = gives
body-then S active lines whole exit again exits from s g (Gives Falls t) next b le (h, us, shows, keeps, seen, on) go =
    from-then S active 0 from (at_start S again h) s t g h us (LeftBy S whole exits (To exit)) (next t) keeps seen on
    (go t h (next-begins S active 0 s t g h b le shows keeps) le)
body-then S active lines whole exit again exits from s g (Gives Continues t) next b le
    (h, us, shows, keeps, seen, on) go =
    from-then S active 0 from (at_start S again h) s t g h us (LeftBy S whole exits (To exit)) (next t) keeps seen on
    (go t h (next-begins S active 0 s t g h b le shows keeps) le)

-- the parts of a loop keep what they do with the bound of the site
loop-parts : (S : Site) (test : source.State → Evaluated Bool) (body after : Runs) (n : ℕ) → suc n ≤ S.bound
    → Keeping S test → Keeping S body → Keeping S after → LoopKeeps (suc n) test body after
loop-parts S test body after n le tests bodies afters = record {
  tests = λ s. lower-keeps (suc n) S.bound le (tests s);
  bodies = λ s. lower-keeps (suc n) S.bound le (bodies s);
  afters = λ s. lower-keeps (suc n) S.bound le (afters s);
}

-- where a test leads: behind its lines, or out
abbrev pub Tested : Site → List Line → ℕ → Bool → source.State → graph.State → Outcome → Type 0
Tested S lines exit holds t h o = Comes S t.turns (if holds then behind lines h else at_start S exit h) o

-- one turn of a `while` or `for`
module _ (S : Site) (site : IsSite S) (active : List Function) (start again exit bound : ℕ)
    (before rest inside bodies whole : List Line) (exits : Exits) (test : source.State → Evaluated Bool)
    (body after : Runs) (stands : Stand S before (Start start ∷ (Emit op.Turn ∷ rest))) (high : S.bound ≤ bound)
    (keeps_test : Keeping S test) (keeps_body : Keeping S body) (keeps_after : Keeping S after)
    (tests_go : (s : source.State) (g : graph.State) → Begins S active s g
    → From S active 0 (behind ((before ++ Start start ∷ []) ++ Emit op.Turn ∷ []) g) s g (Tested S inside exit) (test
    s))
    (body_goes : (s : source.State) (g : graph.State) → Begins S active s g
    → From S active 0 (behind inside g) s g
    (LeftBy S bodies (record { breaks = exit; continues = again }) (To again)) (body s))
    (after_goes : (s : source.State) (g : graph.State) → Begins S active s g
    → From S active 0 (at_start S again g) s g (λ (left : Left) (t : source.State) (h : graph.State) (o : Outcome).
    Comes S t.turns (at_start S start h) o) (after s))
  where
    -- where the test holds, the body runs, and what comes after it
    tested-turn : (s : source.State) (g : graph.State) → Begins S active s g
        → ((t : source.State) (h : graph.State) → Begins S active t h → t.turns ≤ s.turns
        → From S active 0 (at_start S start h) t h (LeftBy S whole exits (To exit)) (loop bound test body after t))
        → (holds : Bool) (t : source.State) (h : graph.State) → Begins S active t h → t.turns ≤ s.turns
        → From S active 0 (if holds then behind inside h else at_start S exit h) t h (LeftBy S whole exits (To exit))
        (if holds then and_then (body t) (after_body (λ u. and_then (after u) (λ left v. loop bound test body after v)))
        else Gives Falls t)
    tested-turn s g b next false t h bt le =
        from-here S active 0 (at_start S exit h) t h (LeftBy S whole exits (To exit)) Falls bt.shows (λ o r. r)
    tested-turn s g b next true t h bt le =
        body-then S active bodies whole exit again exits (behind inside h) t h (body t)
        (λ u. and_then (after u) (λ left v. loop bound test body after v)) bt (keeps_body t).after.turns
        (body_goes t h bt)
        (λ u i bu less.
        from-turns S active 0 (at_start S again i) u i
        (λ (left : Left) (t : source.State) (h : graph.State) (o : Outcome). Comes S t.turns (at_start S start h) o)
        (LeftBy S whole exits (To exit)) (after u) (λ left v. loop bound test body after v) bu (keeps_after
        u).after.turns
        (after_goes u i bu)
        (λ left v j bv kept fewer. (
          at_start S start j,
          λ o k. k,
          next v j bv (lower s.turns t.turns u.turns v.turns le less fewer),
        )))
      where
        lower : (a b c d : ℕ) → b ≤ a → c ≤ b → d ≤ c → d ≤ a
        lower a b c d x y z = omega (arith, x, y, z)

    pub loop-goes : (s : source.State) (g : graph.State) → Begins S active s g
        → From S active 0 (at_start S start g) s g (LeftBy S whole exits (To exit)) (loop bound test body after s)
    loop-goes s g b =
        repeats S site active start before rest (LeftBy S whole exits (To exit)) (loop bound test body after)
        (from_test test body after (loop bound test body after)) stands
        (λ t lt. (loops_unfold bound test body after t (lower t.turns S.bound bound lt high)
        (loop-parts S test body after t.turns lt keeps_test keeps_body keeps_after)).0)
        (λ t h bt next.
        from-turns S active 0 (behind ((before ++ Start start ∷ []) ++ Emit op.Turn ∷ []) h) t h (Tested S inside exit)
        (LeftBy S whole exits (To exit)) (test t)
        (λ holds u. if holds then and_then (body u)
        (after_body (λ v. and_then (after v) (λ left w. loop bound test body after w))) else Gives Falls u) bt
        (keeps_test t).after.turns (tests_go t h bt)
        (λ holds u i bu kept le. (
          if holds then behind inside i else at_start S exit i,
          λ o k. k,
          tested-turn t h bt next holds u i bu le,
        )))
        S.bound s g b.turns b
      where
        lower : (a b c : ℕ) → a < b → b ≤ c → a < c
        lower a b c x y = omega (arith, x, y)

-- one turn of a `do`
module _ (S : Site) (site : IsSite S) (active : List Function) (start again exit bound : ℕ)
    (before rest bodies whole : List Line) (exits : Exits) (test : source.State → Evaluated Bool)
    (body : Runs) (stands : Stand S before (Start start ∷ (Emit op.Turn ∷ rest))) (high : S.bound ≤ bound)
    (keeps_test : Keeping S test) (keeps_body : Keeping S body)
    (keeps_none : Keeping S (λ (t : source.State). Gives Falls t))
    (body_goes : (s : source.State) (g : graph.State) → Begins S active s g
    → From S active 0 (behind ((before ++ Start start ∷ []) ++ Emit op.Turn ∷ []) g) s g
    (LeftBy S bodies (record { breaks = exit; continues = again }) (To again)) (body s))
    (tests_go : (s : source.State) (g : graph.State) → Begins S active s g
    → From S active 0 (at_start S again g) s g (Chosen S start exit) (test s))
  where
    tested-again : (s : source.State) (g : graph.State) → Begins S active s g
        → ((t : source.State) (h : graph.State) → Begins S active t h → t.turns ≤ s.turns
        → From S active 0 (at_start S start h) t h (LeftBy S whole exits (To exit)) (do_loop bound test body t))
        → (holds : Bool) (t : source.State) (h : graph.State) → Begins S active t h → t.turns ≤ s.turns
        → From S active 0 (at_start S (if holds then start else exit) h) t h (LeftBy S whole exits (To exit))
        (if holds then do_loop bound test body t else Gives Falls t)
    tested-again s g b next false t h bt le =
        from-here S active 0 (at_start S exit h) t h (LeftBy S whole exits (To exit)) Falls bt.shows (λ o r. r)
    tested-again s g b next true t h bt le = next t h bt le

    pub do-goes : (s : source.State) (g : graph.State) → Begins S active s g
        → From S active 0 (at_start S start g) s g (LeftBy S whole exits (To exit)) (do_loop bound test body s)
    do-goes s g b =
        repeats S site active start before rest (LeftBy S whole exits (To exit)) (do_loop bound test body)
        (from_body test body (do_loop bound test body)) stands
        (λ t lt. (loops_unfold bound test body (λ u. Gives Falls u) t (lower t.turns S.bound bound lt high)
        (loop-parts S test body (λ u. Gives Falls u) t.turns lt keeps_test keeps_body keeps_none)).1)
        (λ t h bt next.
        body-then S active bodies whole exit again exits (behind ((before ++ Start start ∷ []) ++ Emit op.Turn ∷ [])
        h) t h
        (body t) (λ u. and_then (test u) (λ holds v. if holds then do_loop bound test body v else Gives Falls v)) bt
        (keeps_body t).after.turns (body_goes t h bt)
        (λ u i bu le.
        from-turns S active 0 (at_start S again i) u i (Chosen S start exit) (LeftBy S whole exits (To exit)) (test u)
        (λ holds v. if holds then do_loop bound test body v else Gives Falls v) bu (keeps_test u).after.turns
        (tests_go u i bu)
        (λ holds v j bv kept less. (
          at_start S (if holds then start else exit) j,
          λ o k. k,
          tested-again t h bt next holds v j bv (twice t.turns u.turns v.turns le less),
        ))))
        S.bound s g b.turns b
      where
        lower : (a b c : ℕ) → a < b → b ≤ c → a < c
        lower a b c x y = omega (arith, x, y)

        twice : (a b c : ℕ) → b ≤ a → c ≤ b → c ≤ a
        twice a b c x y = omega (arith, x, y)
