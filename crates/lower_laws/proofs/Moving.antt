-- A pointer that goes from one place to another, and a local that is a pointer, read whatever is wanted of it.
use Rattle.std.proofs.Common.{◌≡◌, ◌≢◌, ◌⊎◌, ℕ, zero, suc, ◌+◌, ◌*◌, ◌<◌, ℤ, List, [], ◌∷◌, ◌++◌, length}
use Rattle.std.proofs.Common.{Option, Some, refl, sym, ap, ◌∙◌, subst, arith, append-nil, inl, inr}
use Rattle.std.specs.Prelude.{slice_get, IsSomeAnd}
use Rattle.std.proofs.lemmas.Option.{same_Some}
use Rattle.pcc_base.specs.Outcome.{ArrayName, Value, Number}
use Rattle.c_tree.specs.declared.types.IntegerType.{IntegerType}
use Rattle.c_tree.specs.declared.types.ValueType.{ValueType}
use Rattle.c_tree.specs.declared.types.ValueType.TheVariants.{Pointer}
use Rattle.c_tree.specs.Evaluation.{type_of}
use Rattle.c_tree.specs.Program.{Local, Function}
use Rattle.c_tree.specs.Store as source
use Rattle.c_tree.specs.Store.{Gives, Held, HoldsNumber, HoldsPointer, held}
use Rattle.flow_graph.specs.States as graph
use Rattle.flow_graph.specs.States.{with_value}
use Rattle.lower_lines.specs.Expressions.{reading}
use Rattle.lower_lines.specs.Following.{Begins, Follows, GivesOf, GoesInto, IsSite, MayWant, Site, Stand, behind}
use Rattle.lower_lines.specs.Following.{context_of}
use Rattle.lower_lines.specs.Lines.{Line}
use Rattle.lower_lines.specs.Parts.{Wanted, Dropped, Own, ToLocal, Tests, made, pointer_test}
use Rattle.lower_lines.specs.Relation.{HoldsAt, IsArrayOf, IsOf, array_value}
use Rattle.lower_lines.specs.Shown.{first_variable, type_widths}
use Rattle.lower_lines.specs.Variables.{Spot, copied, levels_of, local_spot, local_variables, moved, own, typed_spot}
use Rattle.lower_lines.proofs.Changes.{kept-none, locals-held}
use Rattle.lower_lines.proofs.Locals.{get-set_other, local-within}
use Rattle.lower_laws.proofs.Atoms.{with-older}
use Rattle.lower_laws.proofs.Going.{Goes, stand-back, stand-front}
use Rattle.lower_laws.proofs.Pairs.{goes-both}
use Rattle.lower_laws.proofs.Indexing.{copy-goes}
use Rattle.lower_laws.proofs.Making.{IsPointerLocal, MayHold, pointer-made, put}
use Rattle.lower_laws.proofs.Testing.{pointer-tested}
use Rattle.lower_laws.specs.PointersLaws.{PointersAreRead}
use Rattle.lower_laws.proofs.Levels.{level-below}

-- no pointer's variables begin within those of another
pub starts-apart : (ls : List Local) (k j : ℕ) (l m : Local) → slice_get ls k ≡ Some l → slice_get ls j ≡ Some m
    → length (type_widths l.of) ≡ 2 → length (type_widths m.of) ≡ 2 → first_variable ls k ≢ suc (first_variable ls j)
starts-apart [] k j l m e f two two' same = absurd (cc)
starts-apart (x ∷ ls) zero zero l m e f two two' same = absurd (omega (arith, same))
starts-apart (x ∷ ls) zero (suc j) l m e f two two' same = absurd (omega (arith, same))
starts-apart (x ∷ ls) (suc k) zero l m e f two two' same =
    let wide : length (type_widths x.of) ≡ length (type_widths m.of) =
    ap (λ (n : Local). length (type_widths n.of)) (same_Some x m f) in
    absurd (omega (arith, same, wide, two'))
starts-apart (x ∷ ls) (suc k) (suc j) l m e f two two' same =
    starts-apart ls k j l m e f two two' (omega (arith, same))

-- from where nothing that is moved first is changed
pub pointer-moved : (S : Site) (site : IsSite S) (before : List Line) (g : graph.State) (t : IntegerType) (to x : Spot)
    (turns : ℕ) (array : ArrayName) (index : ℤ) → g.current.function ≡ S.number
    → slice_get g.current.variables x.array ≡ Some (array_value array)
    → slice_get g.current.variables x.number ≡ Some (Number index) → to.array ≢ x.number
    → Stand S before (moved (Pointer t) to x)
    → Goes S turns (behind before g) turns (behind (before ++ moved (Pointer t) to x) (put to array index g)) []
pointer-moved S site before g t to x turns array index fits at_array at_number apart stands =
    let half = with_value to.array (array_value array) g in
    goes-both S turns turns turns g half (put to array index g) before (copied to.array x.array)
    (copied to.number x.number) [] []
    (copy-goes S site before g to.array x.array turns (array_value array) fits at_array
    (stand-front S before (copied to.array x.array) (copied to.number x.number) stands))
    (copy-goes S site (before ++ copied to.array x.array) half to.number x.number turns (Number index) fits
    (get-set_other g.current.variables to.array x.number (array_value array) (λ e. apart (sym e)) ∙ at_number)
    (stand-back S before (copied to.array x.array) (copied to.number x.number) stands))

-- a value of a pointer type is a pointer
pub held-pointer : (vs : List Value) (t : IntegerType) (spot : Spot) (x : Held) → HoldsAt vs (Pointer t) spot x
    → (array : ArrayName) × (index : ℤ) × (x ≡ HoldsPointer array index)
    × (slice_get vs spot.array ≡ Some (array_value array)) × (slice_get vs spot.number ≡ Some (Number index))
held-pointer vs t spot (HoldsNumber n) h = absurd h
held-pointer vs t spot (HoldsPointer array index) h = (array, index, refl, h.0, h.1)

module _ (S : Site) (site : IsSite S) (older : List Function) (k : ℕ) (l : Local) (u : IntegerType)
    (e : slice_get S.function.locals k ≡ Some l) (of : l.of ≡ Pointer u) where
  abbrev x : Spot
  x = typed_spot (Pointer u) (first_variable S.function.locals k)

  pub spot-is : local_spot (context_of S) k ≡ x
  spot-is = ap (λ (o : Option Local). typed_spot (type_of o) (first_variable S.function.locals k)) e
      ∙ ap (λ (m : ValueType). typed_spot m (first_variable S.function.locals k)) of

  two-wide : length (type_widths l.of) ≡ 2
  two-wide = ap (λ (m : ValueType). length (type_widths m)) of

  below : suc (first_variable S.function.locals k) < local_variables S.function
  below = let within = local-within S.function.locals k l e in
      let two = two-wide in
      omega (arith, within, two)

  -- the pointer that the local holds
  reads : (s : source.State) (g : graph.State) → Begins S (S.function ∷ older) s g
      → (array : ArrayName) × (index : ℤ) × (held s k ≡ HoldsPointer array index)
      × (slice_get g.current.variables x.array ≡ Some (array_value array))
      × (slice_get g.current.variables x.number ≡ Some (Number index))
      × IsArrayOf S.program (S.function ∷ older) u array
  reads s g b =
      let (at, is) = locals-held S.program S.function older s g k l b.shows e in
      let (array, index, same, at_array, at_number) = held-pointer g.current.variables u x (held s k)
      (subst (λ (m : ValueType). HoldsAt g.current.variables m (typed_spot m (first_variable S.function.locals k))
      (held s k)) of at) in (
        array,
        index,
        same,
        at_array,
        at_number,
        subst (λ (v : Held). IsOf S.program (S.function ∷ older) (Pointer u) v) same
            (subst (λ (m : ValueType). IsOf S.program (S.function ∷ older) m (held s k)) of is),
      )

  low-apart : (a b v : ℕ) → suc v < a → a + b + 0 ≢ suc v
  low-apart a b v low same = omega (arith, low, same)

  to-apart : (level : ℕ) (to : Spot) → MayHold S level to → to.array ≢ x.number
  to-apart level to takes = by to takes.place
    where
      by : (p : Spot) → ((p ≡ own (context_of S) level) ⊎ IsPointerLocal S p) → p.array ≢ x.number
      by p (inl same) eq = low-apart (local_variables S.function) (level * 5) (first_variable S.function.locals k) below
          (sym (ap (λ (q : Spot). q.array) same) ∙ eq)
      by p (inr (j, m, w, f, of', same)) eq =
          starts-apart S.function.locals j k m l f e (ap (λ (n : ValueType). length (type_widths n)) of') two-wide
          (sym (ap (λ (q : Spot). q.array) same) ∙ eq)

  -- moved, where control isn't wanted
  put-follows : (block level : ℕ) (wanted : Wanted) (lines before : List Line) (s : source.State) (g : graph.State)
      → made (context_of S) block level wanted (Pointer u) (λ to. moved (Pointer u) to x) ≡ lines
      → Stand S before lines → level < levels_of S.function → MayWant S wanted (Pointer u)
      → Begins S (S.function ∷ older) s g
      → Follows S (S.function ∷ older) before lines level wanted (Pointer u) s g (Gives (held s k) s)
  put-follows block level wanted lines before s g same stands room may b =
      let (array, index, is, at_array, at_number, of_array) = reads s g b in
      subst (λ (ls : List Line). Follows S (S.function ∷ older) before ls level wanted (Pointer u) s g
      (Gives (held s k) s)) same
      (subst (λ (v : Held). Follows S (S.function ∷ older) before
      (made (context_of S) block level wanted (Pointer u) (λ to. moved (Pointer u) to x)) level wanted (Pointer u) s g
      (Gives v s)) (sym is)
      (pointer-made S site older level before s s g g u array index [] (λ to. moved (Pointer u) to x) room b.shows
      b.function (kept-none (local_variables S.function) level g) (sym (append-nil s.visits)) of_array
      (λ to takes here. pointer-moved S site before g u to x s.turns array index b.function at_array at_number
      (to-apart level to takes) here) block wanted
      (subst (λ (ls : List Line). Stand S before ls) (sym same) stands) may))

  high-apart : (a b v : ℕ) → v < a → v ≢ a + b + 3
  high-apart a b v low same = omega (arith, low, same)

  array-below : first_variable S.function.locals k < local_variables S.function
  array-below = let h = below in omega (arith, h)

  -- tested where it stands
  test-follows : (block level yes' no' : ℕ) (before : List Line) (s : source.State) (g : graph.State)
      → Stand S before (pointer_test (context_of S) block level x yes' no') → level < levels_of S.function
      → MayWant S (Tests yes' no') (Pointer u) → Begins S (S.function ∷ older) s g
      → Follows S (S.function ∷ older) before (pointer_test (context_of S) block level x yes' no') level
      (Tests yes' no') (Pointer u) s g (Gives (held s k) s)
  test-follows block level yes' no' before s g stands room may b =
      let (array, index, is, at_array, at_number, of_array) = reads s g b in
      subst (λ (v : Held). Follows S (S.function ∷ older) before
      (pointer_test (context_of S) block level x yes' no') level (Tests yes' no') (Pointer u) s g (Gives v s)) (sym is)
      (pointer-tested S site older level before s g b.function b.shows room array index x at_array at_number
      (high-apart (local_variables S.function) (level * 5) (first_variable S.function.locals k) array-below)
      (high-apart (local_variables S.function) (level * 5) (suc (first_variable S.function.locals k)) below) block yes'
      no' stands may.1 may.2 u)

  at-spot : (block level : ℕ) (wanted : Wanted) (before : List Line) (s : source.State) (g : graph.State)
      → Stand S before (reading (context_of S) block level wanted (Pointer u) x)
      → level < levels_of S.function → MayWant S wanted (Pointer u) → Begins S (S.function ∷ older) s g
      → Follows S (S.function ∷ older) before (reading (context_of S) block level wanted (Pointer u) x) level wanted
      (Pointer u) s g (Gives (held s k) s)
  at-spot block level Dropped before s g stands room may b =
      put-follows block level Dropped _ before s g (append-nil _) stands room may b
  at-spot block level Own before s g stands room may b =
      put-follows block level Own _ before s g (append-nil _) stands room may b
  at-spot block level (ToLocal j) before s g stands room may b =
      put-follows block level (ToLocal j) _ before s g (append-nil _) stands room may b
  at-spot block level (Tests yes' no') before s g stands room may b =
      test-follows block level yes' no' before s g stands room may b

  pub reading-follows : (block level : ℕ) (wanted : Wanted) (before : List Line) (s : source.State) (g : graph.State)
      → Stand S before (reading (context_of S) block level wanted (Pointer u) (local_spot (context_of S) k))
      → level < levels_of S.function → MayWant S wanted (Pointer u) → Begins S (S.function ∷ older) s g
      → Follows S (S.function ∷ older) before
      (reading (context_of S) block level wanted (Pointer u) (local_spot (context_of S) k)) level wanted (Pointer u) s g
      (Gives (held s k) s)
  reading-follows block level wanted before s g stands room may b =
      subst (λ (p : Spot). Stand S before (reading (context_of S) block level wanted (Pointer u) p)
      → Follows S (S.function ∷ older) before (reading (context_of S) block level wanted (Pointer u) p) level wanted
      (Pointer u) s g (Gives (held s k) s)) (sym spot-is)
      (λ here. at-spot block level wanted before s g here room may b) stands

stands-there : (S : Site) (k : ℕ) (l : Local) (t : IntegerType) → slice_get S.function.locals k ≡ Some l
    → l.of ≡ Pointer t
    → IsSomeAnd (slice_get S.function.locals k) (λ m. (m.of ≡ Pointer t) × GoesInto (Pointer t) m.of)
stands-there S k l t e of =
    subst (λ (o : Option Local). IsSomeAnd o (λ m. (m.of ≡ Pointer t) × GoesInto (Pointer t) m.of)) (sym e)
    (of, subst (λ (m : ValueType). GoesInto (Pointer t) m) (sym of) refl)

pub pointers-read : PointersAreRead
pointers-read S site k l t e of = record {
  follows = λ active block level wanted before s g stands room may begins.
      with-older S.function active (λ calls. Begins S calls s g → Follows S calls before
      (reading (context_of S) block level wanted (Pointer t) (local_spot (context_of S) k)) level wanted (Pointer t) s g
      (Gives (held s k) s)) begins.youngest
      (λ older b. reading-follows S site older k l t e of block level wanted before s g stands
      (level-below level (levels_of S.function) room) may b) begins;
  typed = λ active block level wanted before s g stands room may begins.
      with-older S.function active (λ calls. Begins S calls s g → GivesOf S.program calls (Pointer t)
      (Gives (held s k) s)) begins.youngest
      (λ older b. subst (λ (m : ValueType). IsOf S.program (S.function ∷ older) m (held s k)) of
      (locals-held S.program S.function older s g k l b.shows e).1) begins;
  simple = λ same active s g begins. refl;
  stands = λ spot same.
      (k, sym (same_Some (local_spot (context_of S) k) spot same), stands-there S k l t e of, λ s. refl);
}
