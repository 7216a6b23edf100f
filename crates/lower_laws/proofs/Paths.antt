-- What is live at a point is in the set of its op.
use Rattle.std.proofs.Common.{◌≡◌, ◌≢◌, ◌<◌, ◌≤◌, ◌⊎◌, ℕ, zero, suc, ◌+◌, Bool, true, false, List, [], ◌∷◌}
use Rattle.std.proofs.Common.{Some, inl, inr, refl, sym, ap, ◌∙◌, subst, arith, length, map}
use Rattle.std.specs.Prelude.{if◌then◌else◌, ◌==◌, slice_get, slice_index_or, cond}
use Rattle.std.specs.List.{range_with_len}
use Rattle.std.proofs.lemmas.Bool.{cases_lt}
use Rattle.std.proofs.lemmas.Bool.Decides.{eqb_tells}
use Rattle.std.proofs.lemmas.Option.{none-some, same_Some}
use Rattle.std.proofs.lemmas.List.{length-map}
use Rattle.pcc_base.specs.declared.run.Width.{Width}
use Rattle.flow_graph.specs.declared.op.Op.{Op}
use Rattle.flow_graph.specs.declared.op.Op.TheVariants as op
use Rattle.flow_graph.specs.Graphs.{Flow, IsIn, ends_block, following, is_end, points_of}
use Rattle.flow_graph.specs.Liveness.{BeginsWith, FixedDies, GoesTo, IsBehind, IsDefinedAt, IsLiveAfter, IsLiveBefore}
use Rattle.flow_graph.specs.Liveness.{IsSuccessor, IsUsedAt, TakenDies}
use Rattle.flow_graph.specs.Shapes.{Leads, Onward, IntoCall, ToBlock, ToEither, OutOfCall, OutOfProgram, shape}
use Rattle.flow_graph.specs.Shapes.{Takes, NoRegister, Count, Division, AcrossCall}
use Rattle.flow_graph.proofs.LivePaths.{along-path}
use Rattle.lower_lines.specs.Following.{Closes}
use Rattle.lower_lines.specs.Lines.{Line, Start, Emit, graph_of_lines, ops_in, points_from, points_in}
use Rattle.lower_lines.specs.Programs.{blocks_of_function, graph_of_function, lines_of_function}
use Rattle.lower_lines.specs.Variables.{Context, local_variables}
use Rattle.lower_lines.proofs.Shapes.{get-range, index-map, length-range}
use Rattle.lower_laws.specs.Flows.{Flows, Passes, Within, blocks_led, fixed, fixed_by, targets}
use Rattle.lower_laws.specs.LiveLaws.{FlowsSuffice}

-- where an op leads: one that is no end to what is behind it, and an end to a block that it goes to
leads-split : (flow : Flow) (p q : ℕ) (leads : Leads) → GoesTo flow p q leads
    → ((ends_block leads ≡ false) × IsBehind flow p q)
    ⊎ ((x : ℕ) × IsIn x (blocks_led leads) × BeginsWith flow x q)
leads-split flow point next Onward h = inl (refl, h)
leads-split flow point next (IntoCall result words) h = inl (refl, h)
leads-split flow point next (ToBlock x) h = inr (x, inl refl, h)
leads-split flow point next (ToEither x y) (inl h) = inr (x, inl refl, h)
leads-split flow point next (ToEither x y) (inr h) = inr (y, inr (inl refl), h)
leads-split flow point next OutOfCall h = absurd h
leads-split flow point next OutOfProgram h = absurd h

dies-at : (flow : Flow) (p : ℕ) (takes : Takes)
    → ((c a : ℕ) → fixed_by takes ≡ Some (c, a) → (IsLiveAfter flow c p → ⊥) × (c ≢ a)) → TakenDies flow p takes
dies-at flow point NoRegister h = tt
dies-at flow point (Count count shifted) h = h count shifted refl
dies-at flow point (Division dividend divisor gives) h = h dividend divisor refl
dies-at flow point AcrossCall h = tt

-- ---- points in order

-- a point that another is behind is not before the first of them
behind-above : (b q p n : ℕ) (here : Bool) (lines : List Line) → following p (points_from b q here lines) ≡ Some n
    → q ≤ p
behind-above b q p n here [] e = absurd (none-some n e)
behind-above b q p n here (Start x ∷ lines) e = behind-above b q p n (x == b) lines e
behind-above b q p n false (Emit i ∷ lines) e =
    let h = behind-above b (suc q) p n false lines e in omega (arith, h)
behind-above b q p n true (Emit i ∷ lines) e =
    elim (eqb_tells q p) [
      | inl same ↦ (let s = same.1 in omega (arith, s))
      | inr other ↦ (
          let rest = points_from b (suc q) true lines in
          let h = behind-above b (suc q) p n true lines
          (sym (ap (λ (t : Bool). cond t (slice_get rest 0) (following p rest)) other.0) ∙ e) in
          omega (arith, h)
          )
    ]

module _ (L : ℕ) (B : ℕ → List ℕ) where
  -- the set before the op of a place
  abbrev set_at : (S : List ℕ) (lines : List Line) (T : List ℕ) → Flows L B S lines T → ℕ → List ℕ
  set_at S [] T h k = []
  set_at S (Start b ∷ lines) T h k = set_at (B b) lines T h k
  set_at S (Emit i ∷ lines) T h zero = h.0
  set_at S (Emit i ∷ lines) T h (suc k) = set_at h.1 lines T h.4 k

  -- the set behind it
  abbrev set_after : (S : List ℕ) (lines : List Line) (T : List ℕ) → Flows L B S lines T → ℕ → List ℕ
  set_after S [] T h k = []
  set_after S (Start b ∷ lines) T h k = set_after (B b) lines T h k
  set_after S (Emit i ∷ lines) T h zero = h.1
  set_after S (Emit i ∷ lines) T h (suc k) = set_after h.1 lines T h.4 k

  passes-at : (S : List ℕ) (lines : List Line) (T : List ℕ) (h : Flows L B S lines T) (k : ℕ) (i : Op)
      → slice_get (ops_in lines) k ≡ Some i → Passes L B (set_at S lines T h k) (set_after S lines T h k) i
  passes-at S [] T h k i e = absurd (none-some i e)
  passes-at S (Start b ∷ lines) T h k i e = passes-at (B b) lines T h k i e
  passes-at S (Emit j ∷ lines) T h zero i e =
      subst (λ (x : Op). Passes L B h.0 h.1 x) (same_Some j i e) h.3
  passes-at S (Emit j ∷ lines) T h (suc k) i e = passes-at h.1 lines T h.4 k i e

  -- the op that comes next has no more than the lines come with
  first-within : (S : List ℕ) (i : Op) (lines : List Line) (T : List ℕ) (h : Flows L B S (Emit i ∷ lines) T)
      → Within (set_at S (Emit i ∷ lines) T h 0) S
  first-within S i lines T h = h.2

  true-false : true ≡ false → ⊥
  true-false e = cc

  -- the point right behind one whose op is no end
  next-is : (S : List ℕ) (lines : List Line) (T : List ℕ) (h : Flows L B S lines T)
      (b q n : ℕ) → Closes true lines false
      → slice_get (points_from b q true lines) 0 ≡ Some n → (n ≡ q) × Within (set_at S lines T h 0) S
  next-is S [] T h b q n c e = absurd (true-false c)
  next-is S (Start x ∷ lines) T h b q n c e = absurd (true-false c.0)
  next-is S (Emit i ∷ lines) T h b q n c e = (sym (same_Some q n e), h.2)

  -- what stands behind a point has no more than is behind the point's op
  behind-within : (S : List ℕ) (lines : List Line) (T : List ℕ) (h : Flows L B S lines T) (b q k n : ℕ) (o here : Bool)
      (i : Op) → Closes o lines false → slice_get (ops_in lines) k ≡ Some i → is_end i ≡ false
      → following (q + k) (points_from b q here lines) ≡ Some n
      → (n ≡ q + suc k) × Within (set_at S lines T h (suc k)) (set_after S lines T h k)
  behind-within S [] T h b q k n o here i c at plain e = absurd (none-some i at)
  behind-within S (Start x ∷ lines) T h b q k n o here i c at plain e =
      behind-within (B x) lines T h b q k n true (x == b) i c.1 at plain e
  behind-within S (Emit j ∷ lines) T h b q zero n o false i c at plain e =
      let low = behind-above b (suc q) (q + 0) n false lines e in absurd (omega (arith, low))
  behind-within S (Emit j ∷ lines) T h b q (suc k) n o false i c at plain e =
      let same : q + suc k ≡ suc q + k = omega arith in
      let r = behind-within h.1 lines T h.4 b (suc q) k n _ false i c.1 at plain
      (subst (λ (m : ℕ). following m (points_from b (suc q) false lines) ≡ Some n) same e) in
      let s = r.0 in
      (omega (arith, s), r.1)
  behind-within S (Emit j ∷ lines) T h b q zero n o true i c at plain e =
      elim (eqb_tells q (q + 0)) [
        | inl same ↦ (
            let rest = points_from b (suc q) true lines in
            let still : Closes true lines false = subst (λ (t : Bool). Closes (if t then false else true) lines false)
            (ap is_end (same_Some j i at) ∙ plain) c.1 in
            let r = next-is h.1 lines T h.4 b (suc q) n still
            (sym (ap (λ (t : Bool). cond t (slice_get rest 0) (following (q + 0) rest)) same.0) ∙ e) in
            let s = r.0 in
            (omega (arith, s), r.1)
            )
        | inr other ↦ absurd (other.1 (omega arith))
      ]
  behind-within S (Emit j ∷ lines) T h b q (suc k) n o true i c at plain e =
      elim (eqb_tells q (q + suc k)) [
        | inl same ↦ (let s = same.1 in absurd (omega (arith, s)))
        | inr other ↦ (
            let rest = points_from b (suc q) true lines in
            let same : q + suc k ≡ suc q + k = omega arith in
            let r = behind-within h.1 lines T h.4 b (suc q) k n _ true i c.1 at plain
            (subst (λ (m : ℕ). following m rest ≡ Some n) same
            (sym (ap (λ (t : Bool). cond t (slice_get rest 0) (following (q + suc k) rest)) other.0) ∙ e)) in
            let s = r.0 in
            (omega (arith, s), r.1)
            )
      ]

  -- the first point of a block has no more than the block
  begins-within : (S : List ℕ) (lines : List Line) (T : List ℕ) (h : Flows L B S lines T) (b q n : ℕ) (o : Bool)
      → Closes o lines false → slice_get (points_from b q false lines) 0 ≡ Some n
      → (k : ℕ) × (n ≡ q + k) × Within (set_at S lines T h k) (B b)
  begins-within S [] T h b q n o c e = absurd (none-some n e)
  begins-within S (Emit j ∷ lines) T h b q n o c e =
      let (k, s, w) = begins-within h.1 lines T h.4 b (suc q) n _ c.1 e in (suc k, omega (arith, s), w)
  begins-within S (Start x ∷ lines) T h b q n o c e =
      elim (eqb_tells x b) [
        | inl same ↦ (
            let r = next-is (B x) lines T h b q n c.1
            (sym (ap (λ (t : Bool). slice_get (points_from b q t lines) 0) same.0) ∙ e) in
            let s = r.0 in
            (0, omega (arith, s), subst (λ (y : ℕ). Within (set_at (B x) lines T h 0) (B y)) same.1 r.1)
            )
        | inr other ↦ begins-within (B x) lines T h b q n true c.1
            (sym (ap (λ (t : Bool). slice_get (points_from b q t lines) 0) other.0) ∙ e)
      ]

-- ---- the graph of lines

module _ (widths : List Width) (arrays : List (ℕ × ℕ)) (count : ℕ) (lines : List Line)
    (closed : Closes false lines false)
    (L : ℕ) (B : ℕ → List ℕ) (h : Flows L B [] lines []) where
  abbrev flow : Flow
  flow = graph_of_lines widths arrays count lines

  abbrev before : ℕ → List ℕ
  before p = set_at L B [] lines [] h p

  abbrev after : ℕ → List ℕ
  after p = set_after L B [] lines [] h p

  -- a block that is there has the points of the lines, and any other has none
  points-either : (block : ℕ) → (points_of flow block ≡ points_in block lines) ⊎ (points_of flow block ≡ [])
  points-either block =
      elim (cases_lt block count) [
        | inl less ↦ inl (index-map (λ b. points_in b lines) (range_with_len 0 count) block block []
            (get-range 0 count block less ∙ ap Some (plain block)))
        | inr more ↦ inr (beyond (map (λ b. points_in b lines) (range_with_len 0 count)) block
            (let e = length-map (range_with_len 0 count) (λ b. points_in b lines) in
            let k = length-range 0 count in omega (arith, e, k, more)))
      ]
    where
      plain : (n : ℕ) → 0 + n ≡ n
      plain n = omega arith

      beyond : (xs : List (List ℕ)) (k : ℕ) → length xs ≤ k → slice_index_or xs k [] ≡ []
      beyond [] k low = refl
      beyond (x ∷ xs) zero low = absurd (omega (arith, low))
      beyond (x ∷ xs) (suc k) low = beyond xs k (omega (arith, low))

  behind-has : (p q : ℕ) (i : Op) → slice_get flow.ops p ≡ Some i → is_end i ≡ false → IsBehind flow p q
      → Within (before q) (after p)
  behind-has p q i at plain (block, e) =
      elim (points-either block) [
        | inl is ↦ (
            let z : 0 + p ≡ p = omega arith in
            let r = behind-within L B [] lines [] h block 0 p q false false i closed at plain
            (subst (λ (m : ℕ). following m (points_in block lines) ≡ Some q) (sym z)
            (subst (λ (ps : List ℕ). following p ps ≡ Some q) is e)) in
            let s : q ≡ suc p = (let t = r.0 in omega (arith, t)) in
            subst (λ (n : ℕ). Within (before n) (after p)) (sym s) r.1
            )
        | inr none ↦ absurd (none-some q (subst (λ (ps : List ℕ). following p ps ≡ Some q) none e))
      ]

  begins-has : (x q : ℕ) → BeginsWith flow x q → Within (before q) (B x)
  begins-has x q e =
      elim (points-either x) [
        | inl is ↦ (
            let (k, s, w) = begins-within L B [] lines [] h x 0 q false closed
            (subst (λ (ps : List ℕ). slice_get ps 0 ≡ Some q) is e) in
            let t : q ≡ k = omega (arith, s) in
            subst (λ (n : ℕ). Within (before n) (B x)) (sym t) w
            )
        | inr none ↦ absurd (none-some q (subst (λ (ps : List ℕ). slice_get ps 0 ≡ Some q) none e))
      ]

  at-point : (p : ℕ) (i : Op) → slice_get flow.ops p ≡ Some i → Passes L B (before p) (after p) i
  at-point p i at = passes-at L B [] lines [] h p i at

  -- what is live before a point is in its set
  pub live-within : (v p : ℕ) → IsLiveBefore flow v p → IsIn v (before p)
  live-within v p (n, reaches) = along-path flow (λ q w. IsIn w (before q)) used steps n p v reaches
    where
      used : (q w : ℕ) → IsUsedAt flow w q → IsIn w (before q)
      used q w (placed, i, at, is) = (at-point q i at).uses w is

      steps : (q next w : ℕ) → IsSuccessor flow q next → IsIn w (before next) → (IsDefinedAt flow w q → ⊥)
          → IsIn w (before q)
      steps q next w (placed, i, at, leads) is free =
          elim (leads-split flow q next (shape i).leads leads) [
            | inl on ↦ (
                elim ((at-point q i at).onward on.0 w (behind-has q next i at on.0 on.1 w is)) [
                  | inl written ↦ absurd (free (i, at, written))
                  | inr stays ↦ stays
                ]
                )
            | inr goes ↦ (at-point q i at).goes goes.0 goes.1 w (begins-has goes.0 next goes.2 w is)
          ]

  -- a fixed operand is in no set behind its op
  pub fixed-dies : (p : ℕ) (i : Op) → slice_get flow.ops p ≡ Some i → FixedDies flow p i
  fixed-dies p i at = dies-at flow p (shape i).takes both
    where
      no_target : (j : Op) (c a x : ℕ) → fixed j ≡ Some (c, a) → IsIn x (targets j) → ⊥
      no_target (op.Jump y) c a x e is = none-some (c, a) e
      no_target (op.Branch how u v y z) c a x e is = none-some (c, a) e
      no_target (op.Branchu how u v y z) c a x e is = none-some (c, a) e
      no_target _ c a x e is = is

      both : (c a : ℕ) → fixed i ≡ Some (c, a) → (IsLiveAfter flow c p → ⊥) × (c ≢ a)
      both c a e =
          let (other, gone) = (at-point p i at).dies c a e in
          (λ live. after-not c a e gone live, other)
        where
          after-not : (c a : ℕ) → fixed i ≡ Some (c, a) → (IsIn c (after p) → ⊥) → IsLiveAfter flow c p → ⊥
          after-not c a e gone (next, (placed, j, at', leads), live) =
              let same : j ≡ i = same_Some j i (sym at' ∙ at) in
              elim (leads-split flow p next (shape j).leads leads) [
                | inl on ↦ gone (behind-has p next j at' on.0 on.1 c (live-within c next live))
                | inr goes ↦ no_target i c a goes.0 e (subst (λ (k : Op). IsIn goes.0 (targets k)) same goes.1)
              ]

pub flows-suffice : FlowsSuffice
flows-suffice p f B closed h =
    let c : Context = record { program = p; function = f } in
    let lines = lines_of_function c in
    let n = blocks_of_function c in
    let L = local_variables f in
    let g = graph_of_function p f in (
      λ point v begins live. begins-has g.widths g.arrays n lines closed L B h 0 point begins v
          (live-within g.widths g.arrays n lines closed L B h v point live),
      λ point s v at high live.
          let low : v < L = (at-point g.widths g.arrays n lines closed L B h point (op.Mark s) at).mark s refl v
          (live-within g.widths g.arrays n lines closed L B h v point live) in
          absurd (omega (arith, low, high)),
      λ point i at. fixed-dies g.widths g.arrays n lines closed L B h point i at,
    )
