-- Statements without parts, and those of an expression or a declared item.
use Rattle.std.proofs.Common.{◌≡◌, ℕ, ◌≤◌, ◌+◌, Bool, true, ℤ, List, [], ◌∷◌, ◌++◌, refl, ap, ◌∙◌, subst, arith}
use Rattle.std.proofs.Common.{append_assoc, Option, Some, None}
use Rattle.pcc_base.specs.Outcome.{Outcome}
use Rattle.c_eval_laws.specs.Bounds as bounds
use Rattle.c_tree.specs.declared.types.IntegerType.{IntegerType}
use Rattle.c_tree.specs.declared.types.ValueType.{ValueType}
use Rattle.c_tree.specs.declared.types.ValueType.TheVariants.{Integer}
use Rattle.c_tree.specs.Evaluation.{Left, Falls, Breaks, Continues, Returns}
use Rattle.c_tree.specs.Program.{Function}
use Rattle.c_tree.specs.Store as source
use Rattle.c_tree.specs.Store.{Evaluated, Gives, Ends, Held, HoldsNumber, and_then, number_held, visited}
use Rattle.flow_graph.specs.declared.op.Op.TheVariants as op
use Rattle.flow_graph.specs.Meaning.{returns_to}
use Rattle.flow_graph.specs.States as graph
use Rattle.lower_lines.specs.Following.{Begins, ComesOf, IsSite, Lowers, LowersRun, Site, Stand}
use Rattle.lower_lines.specs.Following.{behind, context_of, graphs_of, number_returned}
use Rattle.lower_lines.specs.Laws.{IsOwn}
use Rattle.lower_lines.specs.Lines.{Line, Emit}
use Rattle.lower_lines.specs.Parts.{Dropped, Part, operand}
use Rattle.lower_lines.specs.Statements.{After, Exits, dead, dead_blocks, onward, straight}
use Rattle.lower_lines.specs.Variables.{Spot, levels_of, local_variables}
use Rattle.lower_lines.proofs.Changes.{kept-none}
use Rattle.lower_lines.proofs.Steps.{return-none, return-step}
use Rattle.lower_laws.proofs.Atoms.{with-older}
use Rattle.lower_laws.proofs.Going.{stand-back, stand-front}
use Rattle.lower_laws.proofs.Operands.{NumberStands, number-operand}
use Rattle.lower_laws.proofs.Onward.{jump-goes, onward-goes}
use Rattle.lower_laws.proofs.Visits.{mark-goes, visit_of, visited-begins}
use Rattle.lower_laws.proofs.Ways.{from-both, from-here, from-then, of-dropped, of-run, to-run}
use Rattle.lower_laws.specs.Laws.{BreaksLower, ContinuesLower, DeclarationsLower, EmptiesLower}
use Rattle.lower_laws.specs.Laws.{EvaluationsLower, PlainReturnsLower, ReturnsLower}
use Rattle.lower_laws.specs.Ways.{Behind, From, Keeping, LeftBy, LowersLines}

-- what stands behind a mark goes on from its visit
pub behind-mark : {A : Type 0} (S : Site) → IsSite S → (n : ℕ) → IsOwn S n → (active : List Function)
    (before rest : List Line) (s : source.State) (g : graph.State)
    (aim : A → source.State → graph.State → Outcome → Type 0)
    (r : Evaluated A) → Begins S active s g → Stand S before (Emit (op.Mark n) ∷ rest)
    → From S active 0 (behind (before ++ Emit (op.Mark n) ∷ []) g) (visited S.listing n s) g aim r
    → From S active 0 (behind before g) s g aim r
behind-mark S site n own active before rest s g aim r b stands next =
    from-then S active 0 (behind before g) (behind (before ++ Emit (op.Mark n) ∷ []) g) s (visited S.listing n s) g g
    (visit_of S s n ∷ []) aim r (kept-none (local_variables S.function) 0 g) refl
    (mark-goes S site n own active before s g b (stand-front S before (Emit (op.Mark n) ∷ []) rest stands)) next

-- lines regrouped
pub left-same : (S : Site) (active : List Function) (xs ys : List Line) (exits : Exits) (after : After)
    (from : graph.State) (s : source.State) (g : graph.State) (r : Evaluated Left) → xs ≡ ys
    → From S active 0 from s g (LeftBy S xs exits after) r → From S active 0 from s g (LeftBy S ys exits after) r
left-same S active xs ys exits after from s g r e h =
    subst (λ (ls : List Line). From S active 0 from s g (LeftBy S ls exits after) r) e h

pub behind-same : {A : Type 0} (S : Site) (active : List Function) (xs ys : List Line)
    (from : graph.State) (s : source.State) (g : graph.State) (r : Evaluated A) → xs ≡ ys
    → From S active 0 from s g (Behind S xs) r → From S active 0 from s g (Behind S ys) r
behind-same S active xs ys from s g r e h =
    subst (λ (ls : List Line). From S active 0 from s g (Behind S ls) r) e h

pub empties-lower : EmptiesLower
empties-lower S site breaks continues n own = record {
  follows = λ active exits block after before s g stands room exit may b.
      to-run S active before (Emit (op.Mark n) ∷ onward (context_of S) after) exits after s g
      (Gives Falls (visited S.listing n s))
      (behind-mark S site n own active before (onward (context_of S) after) s g
      (LeftBy S (before ++ (Emit (op.Mark n) ∷ onward (context_of S) after)) exits after)
      (Gives Falls (visited S.listing n s)) b stands
      (left-same S active ((before ++ Emit (op.Mark n) ∷ []) ++ onward (context_of S) after)
      (before ++ (Emit (op.Mark n) ∷ onward (context_of S) after)) exits after
      (behind (before ++ Emit (op.Mark n) ∷ []) g) (visited S.listing n s) g (Gives Falls (visited S.listing n s))
      (append_assoc before (Emit (op.Mark n) ∷ []) (onward (context_of S) after))
      (onward-goes S site after active (before ++ Emit (op.Mark n) ∷ []) exits (visited S.listing n s) g
      (visited-begins S n active s g b)
      (stand-back S before (Emit (op.Mark n) ∷ []) (onward (context_of S) after) stands) may)));
}

-- ---- lines after which control stays

-- lines behind a mark
pub marked-lowers : {A : Type 0} (S : Site) → IsSite S → (n levels : ℕ) (lines : ℕ → List Line)
    (run : source.State → Evaluated A) → IsOwn S n → LowersLines S levels lines run
    → LowersLines S levels (λ block. Emit (op.Mark n) ∷ lines block) (λ s. run (visited S.listing n s))
marked-lowers S site n levels lines run own lowers = record {
  follows = λ active block before s g stands room b.
      behind-mark S site n own active before (lines block) s g
      (Behind S (before ++ (Emit (op.Mark n) ∷ lines block))) (run (visited S.listing n s)) b stands
      (behind-same S active ((before ++ Emit (op.Mark n) ∷ []) ++ lines block)
      (before ++ (Emit (op.Mark n) ∷ lines block)) (behind (before ++ Emit (op.Mark n) ∷ []) g) (visited S.listing n
      s) g
      (run (visited S.listing n s)) (append_assoc before (Emit (op.Mark n) ∷ []) (lines block))
      (lowers.follows active block (before ++ Emit (op.Mark n) ∷ []) (visited S.listing n s) g
      (stand-back S before (Emit (op.Mark n) ∷ []) (lines block) stands) room (visited-begins S n active s g b)));
}

-- an expression whose value is dropped
pub dropped-lowers : (S : Site) (e : Part) (run : source.State → Evaluated Held) → Lowers S e run
    → LowersLines S e.levels (λ block. e.lines block 0 Dropped) run
dropped-lowers S e run lowers = record {
  follows = λ active block before s g stands room b.
      of-dropped S active before (e.lines block 0 Dropped) 0 e.of s g (run s)
      (lowers.follows active block 0 Dropped before s g stands (plain e.levels (levels_of S.function) room) tt b);
}
  where
    plain : (a b : ℕ) → a ≤ b → 0 + a ≤ b
    plain a b h = omega (arith, h)

-- a statement that is such lines
pub straight-lowers : {A : Type 0} (S : Site) → IsSite S → (breaks continues : Bool) (levels blocks : ℕ)
    (lines : ℕ → List Line) (run : source.State → Evaluated A) → LowersLines S levels lines run → Keeping S run
    → LowersRun S breaks continues (straight (context_of S) levels blocks lines)
    (λ s. and_then (run s) (λ v t. Gives Falls t))
straight-lowers S site breaks continues levels blocks lines run lowers keeping = record {
  follows = λ active exits block after before s g stands room exit may b.
      to-run S active before (lines block ++ onward (context_of S) after) exits after s g
      (and_then (run s) (λ v t. Gives Falls t))
      (from-both S active 0 (behind before g) s g (Behind S (before ++ lines block))
      (LeftBy S (before ++ (lines block ++ onward (context_of S) after)) exits after) (run s) (λ v t. Gives Falls t) b
      (keeping s).after.turns
      (lowers.follows active block before s g
      (stand-front S before (lines block) (onward (context_of S) after) stands) room b)
      (λ v t h bt keeps. (
        behind (before ++ lines block) h,
        λ o r. r,
        left-same S active ((before ++ lines block) ++ onward (context_of S) after)
            (before ++ (lines block ++ onward (context_of S) after)) exits after (behind (before ++ lines block) h) t h
            (Gives Falls t) (append_assoc before (lines block) (onward (context_of S) after))
            (onward-goes S site after active (before ++ lines block) exits t h bt
            (stand-back S before (lines block) (onward (context_of S) after) stands) may),
      )));
}

pub declarations-lower : DeclarationsLower
declarations-lower S site breaks continues levels blocks lines run lowers keeping =
    straight-lowers S site breaks continues levels blocks lines run lowers keeping

-- what an evaluation keeps from a visit on
visited-keeping : {A : Type 0} (S : Site) (n : ℕ) (run : source.State → Evaluated A) → Keeping S run
    → (s : source.State) → (bounds.state_of (run (visited S.listing n s))).turns ≤ s.turns
visited-keeping S n run keeping s = (keeping (visited S.listing n s)).after.turns

pub evaluations-lower : EvaluationsLower
evaluations-lower S site breaks continues n e run own lowers keeping = record {
  follows = λ active exits block after before s g stands room exit may b.
      let rest = e.lines block 0 Dropped ++ onward (context_of S) after in
      let mark = Emit (op.Mark n) in
      let r = and_then (run (visited S.listing n s)) (λ v t. Gives Falls t) in
      to-run S active before (mark ∷ rest) exits after s g r
      (behind-mark S site n own active before rest s g (LeftBy S (before ++ (mark ∷ rest)) exits after) r b stands
      (left-same S active ((before ++ mark ∷ []) ++ rest) (before ++ (mark ∷ rest)) exits after
      (behind (before ++ mark ∷ []) g) (visited S.listing n s) g r (append_assoc before (mark ∷ []) rest)
      (of-run S active (before ++ mark ∷ []) rest exits after (visited S.listing n s) g r
      ((straight-lowers S site breaks continues e.levels (e.blocks Dropped) (λ k. e.lines k 0 Dropped) run
      (dropped-lowers S e run lowers) keeping).follows active exits block after (before ++ mark ∷ [])
      (visited S.listing n s) g (stand-back S before (mark ∷ []) rest stands) room exit may
      (visited-begins S n active s g b)))));
}

-- ---- ends of a block

pub breaks-lower : BreaksLower
breaks-lower S site continues n own = record {
  follows = λ active exits block after before s g stands room exit may b.
      let mark = Emit (op.Mark n) in
      let rest = Emit (op.Jump exits.breaks) ∷ dead block after in
      to-run S active before (mark ∷ rest) exits after s g (Gives Breaks (visited S.listing n s))
      (behind-mark S site n own active before rest s g (LeftBy S (before ++ (mark ∷ rest)) exits after)
      (Gives Breaks (visited S.listing n s)) b stands
      (from-here S active 0 (behind (before ++ mark ∷ []) g) (visited S.listing n s) g
      (LeftBy S (before ++ (mark ∷ rest)) exits after) Breaks (visited-begins S n active s g b).shows
      (λ o r. jump-goes S site (before ++ mark ∷ []) (dead block after) exits.breaks g s.turns o b.function
      (stand-back S before (mark ∷ []) rest stands) (exit.break_goes refl) r)));
}

pub continues-lower : ContinuesLower
continues-lower S site breaks n own = record {
  follows = λ active exits block after before s g stands room exit may b.
      let mark = Emit (op.Mark n) in
      let rest = Emit (op.Jump exits.continues) ∷ dead block after in
      to-run S active before (mark ∷ rest) exits after s g (Gives Continues (visited S.listing n s))
      (behind-mark S site n own active before rest s g (LeftBy S (before ++ (mark ∷ rest)) exits after)
      (Gives Continues (visited S.listing n s)) b stands
      (from-here S active 0 (behind (before ++ mark ∷ []) g) (visited S.listing n s) g
      (LeftBy S (before ++ (mark ∷ rest)) exits after) Continues (visited-begins S n active s g b).shows
      (λ o r. jump-goes S site (before ++ mark ∷ []) (dead block after) exits.continues g s.turns o b.function
      (stand-back S before (mark ∷ []) rest stands) (exit.continue_goes refl) r)));
}

pub plain-returns-lower : PlainReturnsLower
plain-returns-lower S site breaks continues n own is = record {
  follows = λ active exits block after before s g stands room exit may b.
      let mark = Emit (op.Mark n) in
      let rest = Emit (op.Return None) ∷ dead block after in
      to-run S active before (mark ∷ rest) exits after s g (Gives (Returns None) (visited S.listing n s))
      (behind-mark S site n own active before rest s g (LeftBy S (before ++ (mark ∷ rest)) exits after)
      (Gives (Returns None) (visited S.listing n s)) b stands
      (from-here S active 0 (behind (before ++ mark ∷ []) g) (visited S.listing n s) g
      (LeftBy S (before ++ (mark ∷ rest)) exits after) (Returns None) (visited-begins S n active s g b).shows
      (λ o r. return-none S site (before ++ mark ∷ []) g b.function s.turns o
      (stand-front S (before ++ mark ∷ []) (Emit (op.Return None) ∷ []) (dead block after)
      (stand-back S before (mark ∷ []) rest stands))
      (subst (λ (m : ValueType). ComesOf S s.turns g (returns_to (graphs_of S) g g.waiting (number_returned m None)) o)
      is r))));
}

-- a number that stands somewhere is returned
number-returns : (S : Site) → IsSite S → (t : IntegerType) → S.function.result ≡ Integer t → (active : List Function)
    (before lines rest whole : List Line) (spot : Spot) (exits : Exits) (after : After) (s : source.State)
    (g : graph.State) (r : Evaluated Held) (f : Held → Held)
    → ((m : ℤ) → number_held (Some (f (HoldsNumber m))) ≡ m) → Begins S active s g
    → Stand S (before ++ lines) (Emit (op.Return (Some spot.number)) ∷ rest)
    → NumberStands S active before lines 0 spot s g r
    → From S active 0 (behind before g) s g (LeftBy S whole exits after)
    (and_then r (λ v u. Gives (Returns (Some (f v))) u))
number-returns S site t is active before lines rest whole spot exits after s g (Ends end u) f same b stands ends = ends
number-returns S site t is active before lines rest whole spot exits after s g (Gives v u) f same b stands
    (h, us, n, value, shows, keeps, seen, there, goes) = (
      h,
      us,
      shows,
      keeps,
      seen,
      λ o r. goes o (return-step S site (before ++ lines) h (keeps.function ∙ b.function) spot.number u.turns n o
          (stand-front S (before ++ lines) (Emit (op.Return (Some spot.number)) ∷ []) rest stands) there
          (subst (λ (m : Option ℤ). ComesOf S u.turns h (returns_to (graphs_of S) h h.waiting m) o)
          (ap (λ (m : ValueType). number_returned m (Some (f v))) is
          ∙ ap (λ (w : Held). number_returned (Integer t) (Some (f w))) value ∙ ap Some (same n)) r)),
    )

pub returns-lower : ReturnsLower
returns-lower S site breaks continues n levels blocks t u a run f own is of low same lowers keeping = record {
  follows = λ active exits block after before s g stands room exit may b.
      let mark = Emit (op.Mark n) in
      let x = operand (context_of S) true a in
      let at = block + dead_blocks after in
      let leave = Emit (op.Return (Some (x.spot 0).number)) in
      let rest = dead block after in
      let v = visited S.listing n s in
      let whole = mark ∷ ((x.lines at 0 ++ leave ∷ []) ++ rest) in
      let behind_mark = stand-back S before (mark ∷ []) ((x.lines at 0 ++ leave ∷ []) ++ rest) stands in
      let back = stand-back S (before ++ mark ∷ []) (x.lines at 0) (leave ∷ rest)
      (subst (λ (ls : List Line). Stand S (before ++ mark ∷ []) ls) (append_assoc (x.lines at 0) (leave ∷ []) rest)
      behind_mark) in
      let front = stand-front S (before ++ mark ∷ []) (x.lines at 0) (leave ∷ [])
      (stand-front S (before ++ mark ∷ []) (x.lines at 0 ++ leave ∷ []) rest behind_mark) in
      to-run S active before whole exits after s g (and_then (run v) (λ w q. Gives (Returns (Some (f w))) q))
      (behind-mark S site n own active before ((x.lines at 0 ++ leave ∷ []) ++ rest) s g
      (LeftBy S (before ++ whole) exits after) (and_then (run v) (λ w q. Gives (Returns (Some (f w))) q)) b stands
      (number-returns S site t is active (before ++ mark ∷ []) (x.lines at 0) rest (before ++ whole) (x.spot 0) exits
      after v g (run v) f same (visited-begins S n active s g b) back
      (with-older S.function active (λ calls. Begins S calls v g → NumberStands S calls (before ++ mark ∷ [])
      (x.lines at 0) 0 (x.spot 0) v g (run v)) b.youngest
      (λ older bv. number-operand S older a run u lowers of at 0 (before ++ mark ∷ []) v g front
      (plain a.levels levels (levels_of S.function) low room) bv) (visited-begins S n active s g b))));
}
  where
    plain : (a b n : ℕ) → a ≤ b → b ≤ n → 0 + a ≤ n
    plain a b n h k = omega (arith, h, k)
