-- A number that ops make: whatever is wanted of it, the lines follow.
use Rattle.std.proofs.Common.{◌≡◌, ◌≢◌, ◌⊎◌, ℕ, zero, suc, ◌+◌, ◌*◌, ◌<◌, ◌≤◌, Bool, true, false, not, ℤ, pos, List, []}
use Rattle.std.proofs.Common.{◌∷◌, ◌++◌, length, map, Option, Some, None, refl, sym, ap, ◌∙◌, subst, arith}
use Rattle.std.proofs.Common.{append-nil, inl, inr}
use Rattle.std.specs.Prelude.{slice_get, slice_index_or, IsSomeAnd, if◌then◌else◌}
use Rattle.std.specs.Ordering.{int_eq}
use Rattle.std.specs.List.{Contains}
use Rattle.std.proofs.lemmas.Option.{slice_get_within}
use Rattle.pcc_base.specs.Outcome.{Number, Visit}
use Rattle.pcc_base.specs.declared.run.Width.{Width}
use Rattle.pcc_base.specs.declared.run.Width.TheVariants.{Two}
use Rattle.c_tree.specs.declared.types.IntegerType.{IntegerType}
use Rattle.c_tree.specs.declared.types.IntegerType.TheVariants.{Char, Short, Int, UnsignedInt}
use Rattle.c_tree.specs.declared.types.ValueType.{ValueType}
use Rattle.c_tree.specs.declared.types.ValueType.TheVariants.{Void, Integer, Pointer}
use Rattle.c_tree.specs.Evaluation.{type_of}
use Rattle.c_tree.specs.Program.{Local, Function, Program}
use Rattle.c_tree.specs.Store as source
use Rattle.c_tree.specs.Store.{Gives, HoldsNumber, with_local}
use Rattle.flow_graph.specs.declared.op.Comparison.TheVariants.{Ne}
use Rattle.flow_graph.specs.declared.op.Op.TheVariants as op
use Rattle.flow_graph.specs.Meaning.{arrays_compared, both, comparison, compared, first_of}
use Rattle.flow_graph.specs.States as graph
use Rattle.flow_graph.specs.States.{array_at, number_at, number_of, with_value}
use Rattle.lower_lines.specs.Following.{Follows, GoesInto, IsSite, MayWant, Site, Stand, behind}
use Rattle.lower_lines.specs.Following.{context_of, site_lines}
use Rattle.lower_lines.specs.Lines.{Line, Start, Emit, starts_in}
use Rattle.lower_lines.specs.Parts.{Wanted, Dropped, Own, ToLocal, Tests, made}
use Rattle.lower_lines.specs.Relation.{Keeps, ShowCalls, Shows}
use Rattle.lower_lines.specs.Shown.{first_variable, local_widths, type_widths}
use Rattle.lower_lines.specs.Variables.{Context, ForNumber, ForScratch, Spot, levels_of, levels_widths, local_spot}
use Rattle.lower_lines.specs.Variables.{local_variables, own, temporary, typed_spot, variable_widths}
use Rattle.lower_lines.proofs.Changes.{kept-by-change, kept-twice, numbers-set, temporaries-free}
use Rattle.lower_lines.proofs.Locals.{get-set_other, get-set_same, local-within}
use Rattle.lower_lines.proofs.Steps.{branch-step, const-step}
use Rattle.lower_laws.proofs.Going.{Goes, stand-back, stand-front}
use Rattle.lower_laws.proofs.Widths.{get-before, local-width, temporary-width}

-- ---- variables that are there

-- the youngest call of the graphs has all variables of its function
pub calls-length : (p : Program) (f : Function) (older : List Function) (calls : List source.Activation)
    (b : graph.Activation) (bs : List graph.Activation) → ShowCalls p (f ∷ older) calls (b ∷ bs)
    → length b.variables ≡ length (variable_widths f)
calls-length p f older [] b bs h = absurd h
calls-length p f older (a ∷ calls) b bs h = h.0.as_many

pub variable-there : (p : Program) (f : Function) (older : List Function) (s : source.State) (g : graph.State) (v : ℕ)
    (w : Width) → Shows p (f ∷ older) s g → slice_get (variable_widths f) v ≡ Some w → v < length g.current.variables
variable-there p f older s g v w shows e =
    let many = calls-length p f older s.active g.current (map (λ x. x.activation) g.waiting) shows.calls in
    let inside = slice_get_within (variable_widths f) v w e in
    omega (arith, many, inside)

-- a variable that a number may be put in: that of the level's own temporaries, or a local's
abbrev pub MayTake : Site → ℕ → ℕ → Type 0
MayTake S level v = (slice_get (variable_widths S.function) v ≡ Some Two)
    × ((v ≡ (own (context_of S) level).number) ⊎ (v < local_variables S.function))

pub some-and : {A : Type 0} (o : Option A) (P : A → Type 0) → IsSomeAnd o P → (x : A) × (o ≡ Some x) × P x
some-and None P h = absurd h
some-and (Some x) P h = (x, refl, h)

-- a number goes into a local of these types alone
wide-local : (t : IntegerType) (of : ValueType) → GoesInto (Integer t) of
    → (u : IntegerType) × (of ≡ Integer u) × (type_widths of ≡ Two ∷ [])
wide-local t Void h = absurd h
wide-local t (Integer Char) h = absurd h
wide-local t (Integer Short) h = (Short, refl, refl)
wide-local t (Integer Int) h = (Int, refl, refl)
wide-local t (Integer UnsignedInt) h = (UnsignedInt, refl, refl)
wide-local t (Pointer u) h = absurd h

-- a block that is started has a line that starts it
pub start-line : (lines : List Line) (block k : ℕ) (d : ℕ) → k < length (starts_in lines)
    → slice_index_or (starts_in lines) k d ≡ block
    → (before : List Line) × (rest : List Line) × (lines ≡ before ++ (Start block ∷ rest))
start-line [] block k d h e = absurd (omega (arith, h))
start-line (Start other ∷ lines) block zero d h e = ([], lines, ap (λ (b : ℕ). Start b ∷ lines) e)
start-line (Start other ∷ lines) block (suc k) d h e =
    let r = start-line lines block k d (omega (arith, h)) e in
    (Start other ∷ r.0, r.1, ap (λ (ls : List Line). Start other ∷ ls) r.2)
start-line (Emit i ∷ lines) block k d h e =
    let r = start-line lines block k d h e in
    (Emit i ∷ r.0, r.1, ap (λ (ls : List Line). Emit i ∷ ls) r.2)

pub start-stands : (S : Site) (block : ℕ) → Contains (starts_in (site_lines S)) block
    → (other : List Line) × Stand S other (Start block ∷ [])
start-stands S block h =
    let r = start-line (site_lines S) block h.0 block h.1 h.2 in
    (r.0, (r.1, r.2))

-- ---- a number in its own temporaries

module _ (S : Site) (site : IsSite S) (older : List Function) (level : ℕ) (before : List Line) (s t : source.State)
    (g h : graph.State) (n : ℤ) (visits : List Visit) (ops : Spot → List Line)
    (room : level < levels_of S.function) (shows : Shows S.program (S.function ∷ older) t h)
    (fits : h.current.function ≡ S.number) (keeps : Keeps (local_variables S.function) level g h)
    (seen : t.visits ≡ s.visits ++ visits)
    (puts : (to : Spot) → MayTake S level to.number → Stand S before (ops to)
    → Goes S s.turns (behind before g) t.turns (behind (before ++ ops to) (with_value to.number (Number n) h))
    visits) where
  abbrev c : Context
  c = context_of S

  abbrev x : ℕ
  x = (own (context_of S) level).number

  own-takes : MayTake S level x
  own-takes = (temporary-width (context_of S) level ForNumber room, inl refl)

  own-high : local_variables S.function + level * 5 ≤ x
  own-high = omega arith

  own-shows : Shows S.program (S.function ∷ older) t (with_value x (Number n) h)
  own-shows = temporaries-free S.program S.function older t h x (Number n) shows
      (low (local_variables S.function) (level * 5))
    where
      low : (a b : ℕ) → a ≤ a + b + 1
      low a b = omega arith

  own-keeps : Keeps (local_variables S.function) level g (with_value x (Number n) h)
  own-keeps = kept-twice (local_variables S.function) level g h (with_value x (Number n) h) keeps
      ((kept-by-change (local_variables S.function) level x (Number n) h).1 own-high)

  own-holds : slice_get (with_value x (Number n) h).current.variables x ≡ Some (Number n)
  own-holds = get-set_same h.current.variables x (Number n)
      (variable-there S.program S.function older t h x Two shows own-takes.0)

  -- to the state behind the ops, where nothing comes after them
  own-goes : Stand S before (ops (own c level) ++ [])
      → Goes S s.turns (behind before g) t.turns
      (behind (before ++ (ops (own c level) ++ [])) (with_value x (Number n) h)) visits
  own-goes stands =
      subst (λ (ls : List Line). Goes S s.turns (behind before g) t.turns
      (behind (before ++ ls) (with_value x (Number n) h)) visits) (sym (append-nil (ops (own c level))))
      (puts (own c level) own-takes (stand-front S before (ops (own c level)) [] stands))

  pub made-dropped : (block : ℕ) (u : IntegerType) → Stand S before (made c block level Dropped (Integer u) ops)
      → Follows S (S.function ∷ older) before (made c block level Dropped (Integer u) ops) level Dropped (Integer u) s g
      (Gives (HoldsNumber n) t)
  made-dropped block u stands =
      (with_value x (Number n) h, visits, own-shows, own-keeps, tt, seen, own-goes stands)

  pub made-own : (block : ℕ) (u : IntegerType) → Stand S before (made c block level Own (Integer u) ops)
      → Follows S (S.function ∷ older) before (made c block level Own (Integer u) ops) level Own (Integer u) s g
      (Gives (HoldsNumber n) t)
  made-own block u stands =
      (with_value x (Number n) h, visits, own-shows, own-keeps, own-holds, seen, own-goes stands)

  -- ---- in a local

  pub made-local : (block k : ℕ) (u : IntegerType) → Stand S before (made c block level (ToLocal k) (Integer u) ops)
      → MayWant S (ToLocal k) (Integer u)
      → Follows S (S.function ∷ older) before (made c block level (ToLocal k) (Integer u) ops) level (ToLocal k)
      (Integer u) s g (Gives (HoldsNumber n) t)
  made-local block k u stands may =
      let (l, e, into) = some-and (slice_get S.function.locals k) (λ m. GoesInto (Integer u) m.of) may in
      let (w, of, widths) = wide-local u l.of into in
      let v = first_variable S.function.locals k in
      let to = local_spot (context_of S) k in
      let number : to.number ≡ v =
      ap (λ (o : Option Local). (typed_spot (type_of o) v).number) e
      ∙ ap (λ (m : ValueType). (typed_spot m v).number) of in
      let within = local-within S.function.locals k l e in
      let long : length (type_widths l.of) ≡ 1 = ap (λ (ws : List Width). length ws) widths in
      let below : v < local_variables S.function = omega (arith, within, long) in
      let plain : v ≡ v + 0 = omega arith in
      let width : slice_get (variable_widths S.function) v ≡ Some Two =
      get-before (local_widths S.function.locals) (levels_widths (levels_of S.function)) v below
      ∙ ap (slice_get (local_widths S.function.locals)) plain
      ∙ local-width S.function.locals k 0 l e (omega (arith, long))
      ∙ ap (λ (ws : List Width). slice_get ws 0) widths in
      let takes : MayTake S level to.number = subst (λ (i : ℕ). MayTake S level i) (sym number) (width, inr below) in (
        with_value to.number (Number n) h,
        visits,
        subst (λ (i : ℕ). Shows S.program (S.function ∷ older) (with_local k (HoldsNumber n) t)
            (with_value i (Number n) h)) (sym number)
            (numbers-set S.program S.function older t h k l w n shows e of),
        kept-twice (local_variables S.function) level g h (with_value to.number (Number n) h) keeps
            ((kept-by-change (local_variables S.function) level to.number (Number n) h).0
            (subst (λ (i : ℕ). i < local_variables S.function) (sym number) below)),
        tt,
        seen,
        subst (λ (ls : List Line). Goes S s.turns (behind before g) t.turns
            (behind (before ++ ls) (with_value to.number (Number n) h)) visits) (sym (append-nil (ops to)))
            (puts to takes (stand-front S before (ops to) [] stands)),
      )

  -- ---- and tested

  abbrev z : ℕ
  z = temporary (context_of S) level ForScratch

  apart : x ≢ z
  apart = omega arith

  abbrev last : graph.State
  last = with_value z (Number (pos 0)) (with_value x (Number n) h)

  zero-width : slice_get (variable_widths S.function) z ≡ Some Two
  zero-width = temporary-width (context_of S) level ForScratch room

  compares : comparison Ne last x z ≡ Some (not (int_eq n (pos 0)))
  compares =
      let at_x : number_at last x ≡ Some n =
      ap number_of (get-set_other (with_value x (Number n) h).current.variables z x (Number (pos 0)) apart
      ∙ own-holds) in
      let at_z : number_at last z ≡ Some (pos 0) =
      ap number_of (get-set_same (with_value x (Number n) h).current.variables z (Number (pos 0))
      (variable-there S.program S.function older t (with_value x (Number n) h) z Two own-shows zero-width)) in
      ap (λ (a : Option ℤ). first_of (both a (number_at last z) (compared Ne))
      (arrays_compared Ne (array_at last x) (array_at last z))) at_x
      ∙ ap (λ (b : Option ℤ). first_of (both (Some n) b (compared Ne))
      (arrays_compared Ne (array_at last x) (array_at last z))) at_z

  start-chosen : (holds : Bool) (yes' no' : ℕ) → Contains (starts_in (site_lines S)) yes'
      → Contains (starts_in (site_lines S)) no'
      → (other : List Line) × Stand S other (Start (if holds then yes' else no') ∷ [])
  start-chosen true yes' no' a b = start-stands S yes' a
  start-chosen false yes' no' a b = start-stands S no' b

  pub made-tests : (block yes' no' : ℕ) (u : IntegerType)
      → Stand S before (made c block level (Tests yes' no') (Integer u) ops) → MayWant S (Tests yes' no') (Integer u)
      → Follows S (S.function ∷ older) before (made c block level (Tests yes' no') (Integer u) ops) level
      (Tests yes' no') (Integer u) s g (Gives (HoldsNumber n) t)
  made-tests block yes' no' u stands may =
      let set = op.Const z (pos 0) in
      let branch = op.Branch Ne x z yes' no' in
      let front = ops (own (context_of S) level) in
      let behind_ops : Stand S (before ++ front) (Emit set ∷ Emit branch ∷ []) =
      stand-back S before front (Emit set ∷ Emit branch ∷ []) stands in
      let set_stands : Stand S (before ++ front) (Emit set ∷ []) =
      stand-front S (before ++ front) (Emit set ∷ []) (Emit branch ∷ []) behind_ops in
      let branch_stands : Stand S ((before ++ front) ++ Emit set ∷ []) (Emit branch ∷ []) =
      stand-back S (before ++ front) (Emit set ∷ []) (Emit branch ∷ []) behind_ops in
      let (other, starts) = start-chosen (not (int_eq n (pos 0))) yes' no' may.1 may.2 in (
        last,
        visits,
        temporaries-free S.program S.function older t (with_value x (Number n) h) z (Number (pos 0)) own-shows
            (low (local_variables S.function) (level * 5)),
        kept-twice (local_variables S.function) level g (with_value x (Number n) h) last own-keeps
            ((kept-by-change (local_variables S.function) level z (Number (pos 0)) (with_value x (Number n) h)).1
            (high (local_variables S.function) (level * 5))),
        tt,
        seen,
        λ o r. puts (own (context_of S) level) own-takes
            (stand-front S before front (Emit set ∷ Emit branch ∷ []) stands) o
            (const-step S site (before ++ front) (with_value x (Number n) h) fits z (pos 0) t.turns o set_stands
            zero-width
            (branch-step S site ((before ++ front) ++ Emit set ∷ []) last fits Ne x z yes' no' (not (int_eq n (pos 0)))
            t.turns o other branch_stands compares starts r)),
      )
    where
      low : (a b : ℕ) → a ≤ a + b + 3
      low a b = omega arith

      high : (a b : ℕ) → a + b ≤ a + b + 3
      high a b = omega arith

  -- whatever is wanted
  pub number-made : (block : ℕ) (wanted : Wanted) (u : IntegerType)
      → Stand S before (made c block level wanted (Integer u) ops) → MayWant S wanted (Integer u)
      → Follows S (S.function ∷ older) before (made c block level wanted (Integer u) ops) level wanted (Integer u) s g
      (Gives (HoldsNumber n) t)
  number-made block Dropped u stands may = made-dropped block u stands
  number-made block Own u stands may = made-own block u stands
  number-made block (ToLocal k) u stands may = made-local block k u stands may
  number-made block (Tests yes' no') u stands may = made-tests block yes' no' u stands may
