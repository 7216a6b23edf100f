-- Locals of the types `short` and `int`, whose variables have width Two.
use Rattle.std.proofs.Common.{◌≡◌, ℕ, zero, suc, ◌+◌, ◌*◌, ◌<◌, ◌≤◌, Bool, true, false, not, ℤ, pos, List, [], ◌∷◌}
use Rattle.std.proofs.Common.{◌++◌, Option, Some, refl, sym, ap, ◌∙◌, subst, arith, append-nil, inl, inr, length}
use Rattle.std.specs.Prelude.{slice_get, slice_set, if◌then◌else◌, IsSomeAnd, ◌==◌}
use Rattle.std.specs.Ordering.{int_eq}
use Rattle.std.proofs.lemmas.Bool.Decides.{eqb_tells}
use Rattle.std.proofs.lemmas.Option.{same_Some}
use Rattle.pcc_base.specs.Outcome.{Value, Number}
use Rattle.pcc_base.specs.declared.run.Width.TheVariants.{Two}
use Rattle.c_tree.specs.declared.types.IntegerType.{IntegerType}
use Rattle.c_tree.specs.declared.types.IntegerType.TheVariants.{Char, Short, Int, UnsignedInt}
use Rattle.c_tree.specs.declared.types.ValueType.{ValueType}
use Rattle.c_tree.specs.declared.types.ValueType.TheVariants.{Integer}
use Rattle.c_tree.specs.Evaluation.{type_of}
use Rattle.c_tree.specs.Program.{Local, Function}
use Rattle.c_tree.specs.Store as source
use Rattle.c_tree.specs.Store.{Gives, Held, HoldsNumber, held}
use Rattle.flow_graph.specs.declared.op.Comparison.TheVariants.{Ne}
use Rattle.flow_graph.specs.declared.op.Op.TheVariants as op
use Rattle.flow_graph.specs.Meaning.{arrays_compared, both, comparison, compared, first_of}
use Rattle.flow_graph.specs.States as graph
use Rattle.flow_graph.specs.States.{array_at, number_at, number_of, value_at, with_value, with_variables}
use Rattle.lower_lines.specs.Expressions.{reading}
use Rattle.lower_lines.specs.Following.{Begins, Comes, Follows, GivesOf, GoesInto, IsSite, MayWant, Site, Stand}
use Rattle.lower_lines.specs.Following.{behind, context_of}
use Rattle.lower_lines.specs.Lines.{Line, Start, Emit}
use Rattle.lower_lines.specs.Parts.{Wanted, Dropped, Own, ToLocal, Tests, made}
use Rattle.lower_lines.specs.Relation.{HoldsAt, IsOf}
use Rattle.lower_lines.specs.Shown.{first_variable, type_widths}
use Rattle.lower_lines.specs.Variables.{ForScratch, copied, levels_of, local_spot, local_variables, temporary}
use Rattle.lower_lines.specs.Variables.{typed_spot}
use Rattle.lower_lines.proofs.Changes.{kept-by-change, kept-none, locals-held, temporaries-free}
use Rattle.lower_lines.proofs.Locals.{get-set_other, get-set_same, local-within}
use Rattle.lower_lines.proofs.Steps.{branch-step, const-step, copy-step}
use Rattle.lower_laws.proofs.Atoms.{held-number, with-older}
use Rattle.lower_laws.proofs.Going.{Goes, stand-back, stand-front}
use Rattle.lower_laws.proofs.Made.{number-made, start-stands, variable-there}
use Rattle.lower_laws.proofs.Widths.{temporary-width}
use Rattle.lower_laws.specs.ExpressionsLaws.{LocalsLower}
use Rattle.lower_laws.proofs.Levels.{level-below}

-- what is there already changes nothing
set-same : {X : Type 0} (xs : List X) (i : ℕ) (x : X) → slice_get xs i ≡ Some x → slice_set xs i x ≡ xs
set-same [] i x e = refl
set-same (y ∷ xs) zero x e = ap (λ (z : _). z ∷ xs) (sym (same_Some y x e))
set-same (y ∷ xs) (suc i) x e = ap (λ (zs : List _). y ∷ zs) (set-same xs i x e)

abbrev if_same : Bool → ℕ → ℕ → List Line
if_same same to from = if same then [] else Emit (op.Copy to from) ∷ []

-- a copy, which takes no op where both are one variable
pub copied-goes : (S : Site) (site : IsSite S) (before : List Line) (g : graph.State) (to from turns : ℕ) (n : ℤ)
    → g.current.function ≡ S.number → value_at g from ≡ Some (Number n) → Stand S before (copied to from)
    → Goes S turns (behind before g) turns (behind (before ++ copied to from) (with_value to (Number n) g)) []
copied-goes S site before g to from turns n fits there stands o r =
    elim (eqb_tells to from) [
      | inl same ↦ by true same.0 same.1
      | inr other ↦ copies false other.0
    ]
  where
    by : (same : Bool) → (to == from) ≡ true → to ≡ from → Comes S turns (behind before g) o
    by same e is =
        let read : slice_get g.current.variables to ≡ Some (Number n) =
        ap (λ (k : ℕ). slice_get g.current.variables k) is ∙ there in
        let kept : with_value to (Number n) g ≡ g =
        ap (λ (vs : List Value). with_variables vs g) (set-same g.current.variables to (Number n) read) in
        let nothing : before ++ copied to from ≡ before =
        ap (λ (b : Bool). before ++ if_same b to from) e ∙ append-nil before in
        subst (λ (ls : List Line). Comes S turns (behind ls g) o) nothing
        (subst (λ (h : graph.State). Comes S turns (behind (before ++ copied to from) h) o) kept r)

    copies : (same : Bool) → (to == from) ≡ false → Comes S turns (behind before g) o
    copies same e =
        copy-step S site before g fits to from (Number n) turns o
        (subst (λ (b : Bool). Stand S before (if_same b to from)) e stands) there
        (subst (λ (b : Bool). Comes S turns (behind (before ++ if_same b to from) (with_value to (Number n) g)) o) e r)

module _ (S : Site) (site : IsSite S) (older : List Function) (k : ℕ) (l : Local) (u : IntegerType)
    (e : slice_get S.function.locals k ≡ Some l) (of : l.of ≡ Integer u) where
  abbrev v : ℕ
  v = (local_spot (context_of S) k).number

  spot-is : v ≡ first_variable S.function.locals k
  spot-is = ap (λ (o : Option Local). (typed_spot (type_of o) (first_variable S.function.locals k)).number) e
      ∙ ap (λ (m : ValueType). (typed_spot m (first_variable S.function.locals k)).number) of

  -- the number that the local holds
  reads : (s : source.State) (g : graph.State) → Begins S (S.function ∷ older) s g
      → (n : ℤ) × (held s k ≡ HoldsNumber n) × (value_at g v ≡ Some (Number n))
  reads s g b =
      let w = first_variable S.function.locals k in
      let at = (locals-held S.program S.function older s g k l b.shows e).0 in
      let (n, is, there) = held-number g.current.variables u (typed_spot (Integer u) w) (held s k)
      (subst (λ (m : ValueType). HoldsAt g.current.variables m (typed_spot m w) (held s k)) of at) in
      (n, is, ap (value_at g) spot-is ∙ there)

  -- copied, where control isn't wanted
  put-follows : (block level : ℕ) (wanted : Wanted) (lines before : List Line) (s : source.State) (g : graph.State)
      → made (context_of S) block level wanted (Integer u) (λ to. copied to.number v) ≡ lines
      → Stand S before lines → level < levels_of S.function → MayWant S wanted (Integer u)
      → Begins S (S.function ∷ older) s g
      → Follows S (S.function ∷ older) before lines level wanted (Integer u) s g (Gives (held s k) s)
  put-follows block level wanted lines before s g same stands room may b =
      let (n, is, there) = reads s g b in
      subst (λ (ls : List Line). Follows S (S.function ∷ older) before ls level wanted (Integer u) s g
      (Gives (held s k) s)) same
      (subst (λ (x : Held). Follows S (S.function ∷ older) before
      (made (context_of S) block level wanted (Integer u) (λ to. copied to.number v)) level wanted (Integer u) s g
      (Gives x s)) (sym is)
      (number-made S site older level before s s g g n [] (λ to. copied to.number v) room b.shows b.function
      (kept-none (local_variables S.function) level g) (sym (append-nil s.visits))
      (λ to takes here. copied-goes S site before g to.number v s.turns n b.function there here) block wanted u
      (subst (λ (ls : List Line). Stand S before ls) (sym same) stands) may))

  -- tested where it stands
  test-follows : (level yes' no' : ℕ) (before : List Line) (s : source.State) (g : graph.State)
      → Stand S before (Emit (op.Const (temporary (context_of S) level ForScratch) (pos 0))
      ∷ Emit (op.Branch Ne v (temporary (context_of S) level ForScratch) yes' no') ∷ [])
      → level < levels_of S.function → MayWant S (Tests yes' no') (Integer u) → Begins S (S.function ∷ older) s g
      → Follows S (S.function ∷ older) before (Emit (op.Const (temporary (context_of S) level ForScratch) (pos 0))
      ∷ Emit (op.Branch Ne v (temporary (context_of S) level ForScratch) yes' no') ∷ []) level (Tests yes' no')
      (Integer u) s g (Gives (held s k) s)
  test-follows level yes' no' before s g stands room may b =
      let (n, is, there) = reads s g b in
      let z = temporary (context_of S) level ForScratch in
      let set = op.Const z (pos 0) in
      let branch = op.Branch Ne v z yes' no' in
      let last = with_value z (Number (pos 0)) g in
      let width = temporary-width (context_of S) level ForScratch room in
      let within = local-within S.function.locals k l e in
      let one = some-width u in
      let long : length (type_widths l.of) ≡ length (type_widths (Integer u)) =
      ap (λ (m : ValueType). length (type_widths m)) of in
      let below : v < local_variables S.function = omega (arith, spot-is, within, one, long) in
      let at_v : number_at last v ≡ Some n =
      ap number_of (get-set_other g.current.variables z v (Number (pos 0)) (λ same. omega (arith, below, same)) ∙ there)
      in
      let at_z : number_at last z ≡ Some (pos 0) =
      ap number_of (get-set_same g.current.variables z (Number (pos 0))
      (variable-there S.program S.function older s g z Two b.shows width)) in
      let compares : comparison Ne last v z ≡ Some (not (int_eq n (pos 0))) =
      ap (λ (a : Option ℤ). first_of (both a (number_at last z) (compared Ne))
      (arrays_compared Ne (array_at last v) (array_at last z))) at_v
      ∙ ap (λ (c : Option ℤ). first_of (both (Some n) c (compared Ne))
      (arrays_compared Ne (array_at last v) (array_at last z))) at_z in
      let (other, starts) = chosen-start (not (int_eq n (pos 0))) yes' no' may in
      subst (λ (x : Held). Follows S (S.function ∷ older) before (Emit set ∷ Emit branch ∷ []) level (Tests yes' no')
      (Integer u) s g (Gives x s)) (sym is) (
        last,
        [],
        temporaries-free S.program S.function older s g z (Number (pos 0)) b.shows
            (low (local_variables S.function) (level * 5)),
        (kept-by-change (local_variables S.function) level z (Number (pos 0)) g).1
            (high (local_variables S.function) (level * 5)),
        tt,
        sym (append-nil s.visits),
        λ o r. const-step S site before g b.function z (pos 0) s.turns o
            (stand-front S before (Emit set ∷ []) (Emit branch ∷ []) stands) width
            (branch-step S site (before ++ Emit set ∷ []) last b.function Ne v z yes' no' (not (int_eq n (pos 0)))
            s.turns o other (stand-back S before (Emit set ∷ []) (Emit branch ∷ []) stands) compares starts r),
      )
    where
      low : (a b : ℕ) → a ≤ a + b + 3
      low a b = omega arith

      high : (a b : ℕ) → a + b ≤ a + b + 3
      high a b = omega arith

      some-width : (t : IntegerType) → 1 ≤ length (type_widths (Integer t))
      some-width Char = omega arith
      some-width Short = omega arith
      some-width Int = omega arith
      some-width UnsignedInt = omega arith

      chosen-start : (holds : Bool) (yes' no' : ℕ) → MayWant S (Tests yes' no') (Integer u)
          → (other : List Line) × Stand S other (Start (if holds then yes' else no') ∷ [])
      chosen-start true yes' no' may = start-stands S yes' may.1
      chosen-start false yes' no' may = start-stands S no' may.2

  reading-follows : (block level : ℕ) (wanted : Wanted) (before : List Line) (s : source.State) (g : graph.State)
      → Stand S before (reading (context_of S) block level wanted (Integer u) (local_spot (context_of S) k))
      → level < levels_of S.function → MayWant S wanted (Integer u) → Begins S (S.function ∷ older) s g
      → Follows S (S.function ∷ older) before
      (reading (context_of S) block level wanted (Integer u) (local_spot (context_of S) k)) level wanted (Integer u) s g
      (Gives (held s k) s)
  reading-follows block level Dropped before s g stands room may b =
      put-follows block level Dropped _ before s g (append-nil _) stands room may b
  reading-follows block level Own before s g stands room may b =
      put-follows block level Own _ before s g (append-nil _) stands room may b
  reading-follows block level (ToLocal j) before s g stands room may b =
      put-follows block level (ToLocal j) _ before s g (append-nil _) stands room may b
  reading-follows block level (Tests yes' no') before s g stands room may b =
      test-follows level yes' no' before s g stands room may b

-- a part that stands in its local
stands-there : (S : Site) (k : ℕ) (l : Local) (t : IntegerType) → slice_get S.function.locals k ≡ Some l
    → l.of ≡ Integer t → GoesInto (Integer t) (Integer t)
    → IsSomeAnd (slice_get S.function.locals k) (λ m. (m.of ≡ Integer t) × GoesInto (Integer t) m.of)
stands-there S k l t e of into =
    subst (λ (o : Option Local). IsSomeAnd o (λ m. (m.of ≡ Integer t) × GoesInto (Integer t) m.of)) (sym e)
    (of, subst (λ (m : ValueType). GoesInto (Integer t) m) (sym of) into)

typed-local : (S : Site) (k : ℕ) (l : Local) (t : IntegerType) → slice_get S.function.locals k ≡ Some l
    → l.of ≡ Integer t → (active : List Function) (s : source.State) (g : graph.State) → Begins S active s g
    → GivesOf S.program active (Integer t) (Gives (held s k) s)
typed-local S k l t e of active s g begins =
    with-older S.function active (λ calls. Begins S calls s g → GivesOf S.program calls (Integer t)
    (Gives (held s k) s)) begins.youngest
    (λ older b. subst (λ (m : ValueType). IsOf S.program (S.function ∷ older) m (held s k)) of
    (locals-held S.program S.function older s g k l b.shows e).1) begins

read-local : (S : Site) (site : IsSite S) (k : ℕ) (l : Local) (t : IntegerType)
    → slice_get S.function.locals k ≡ Some l → l.of ≡ Integer t → (active : List Function) (block level : ℕ)
    (wanted : Wanted) (before : List Line) (s : source.State) (g : graph.State)
    → Stand S before (reading (context_of S) block level wanted (Integer t) (local_spot (context_of S) k))
    → level + 1 ≤ levels_of S.function → MayWant S wanted (Integer t) → Begins S active s g
    → Follows S active before
    (reading (context_of S) block level wanted (Integer t) (local_spot (context_of S) k)) level wanted (Integer t) s g
    (Gives (held s k) s)
read-local S site k l t e of active block level wanted before s g stands room may begins =
    with-older S.function active (λ calls. Begins S calls s g → Follows S calls before
    (reading (context_of S) block level wanted (Integer t) (local_spot (context_of S) k)) level wanted (Integer t) s g
    (Gives (held s k) s)) begins.youngest
    (λ older b. reading-follows S site older k l t e of block level wanted before s g stands
    (level-below level (levels_of S.function) room) may b) begins

pub locals-lower : LocalsLower
locals-lower S site k l Char e of wide = absurd (wide refl)
locals-lower S site k l Short e of wide = record {
  follows = read-local S site k l Short e of;
  typed = λ active block level wanted before s g stands room may. typed-local S k l Short e of active s g;
  simple = λ same active s g begins. refl;
  stands = λ spot same.
      (k, sym (same_Some (local_spot (context_of S) k) spot same), stands-there S k l Short e of tt, λ s. refl);
}
locals-lower S site k l Int e of wide = record {
  follows = read-local S site k l Int e of;
  typed = λ active block level wanted before s g stands room may. typed-local S k l Int e of active s g;
  simple = λ same active s g begins. refl;
  stands = λ spot same.
      (k, sym (same_Some (local_spot (context_of S) k) spot same), stands-there S k l Int e of tt, λ s. refl);
}
locals-lower S site k l UnsignedInt e of wide = record {
  follows = read-local S site k l UnsignedInt e of;
  typed = λ active block level wanted before s g stands room may. typed-local S k l UnsignedInt e of active s g;
  simple = λ same active s g begins. refl;
  stands = λ spot same.
      (k, sym (same_Some (local_spot (context_of S) k) spot same), stands-there S k l UnsignedInt e of tt, λ s. refl);
}
