-- A pointer that ops make: whatever is wanted of it, the lines follow.
use Rattle.std.proofs.Common.{◌≡◌, ◌≢◌, ◌⊎◌, ℕ, suc, ◌+◌, ◌*◌, ◌<◌, ◌≤◌, ℤ, List, [], ◌∷◌, ◌++◌, length, Option}
use Rattle.std.proofs.Common.{Some, refl, sym, ap, ◌∙◌, subst, arith, append-nil, inl, inr}
use Rattle.std.specs.Prelude.{slice_get}
use Rattle.pcc_base.specs.Outcome.{ArrayName, Number, Visit}
use Rattle.pcc_base.specs.declared.run.Width.TheVariants.{Two}
use Rattle.c_tree.specs.declared.types.IntegerType.{IntegerType}
use Rattle.c_tree.specs.declared.types.ValueType.{ValueType}
use Rattle.c_tree.specs.declared.types.ValueType.TheVariants.{Void, Integer, Pointer}
use Rattle.c_tree.specs.Evaluation.{type_of}
use Rattle.c_tree.specs.Program.{Local, Function}
use Rattle.c_tree.specs.Store as source
use Rattle.c_tree.specs.Store.{Gives, HoldsPointer, with_local}
use Rattle.flow_graph.specs.States as graph
use Rattle.flow_graph.specs.States.{with_value}
use Rattle.lower_lines.specs.Following.{Follows, GoesInto, IsSite, MayWant, Site, Stand, behind, context_of}
use Rattle.lower_lines.specs.Lines.{Line}
use Rattle.lower_lines.specs.Parts.{Wanted, Dropped, Own, ToLocal, Tests, made, pointer_test}
use Rattle.lower_lines.specs.Relation.{IsArrayOf, Keeps, Shows, array_value}
use Rattle.lower_lines.specs.Shown.{first_variable, local_widths, type_widths}
use Rattle.lower_lines.specs.Variables.{Context, ForArray, ForNumber, Spot, levels_of, levels_widths}
use Rattle.lower_lines.specs.Variables.{local_spot, local_variables, own, typed_spot, variable_widths}
use Rattle.lower_lines.proofs.Changes.{kept-by-change, kept-twice, pointers-set, temporaries-free}
use Rattle.lower_lines.proofs.Locals.{get-set_other, get-set_same, local-within}
use Rattle.lower_laws.proofs.Going.{Goes, stand-back, stand-front}
use Rattle.lower_laws.proofs.Made.{some-and, variable-there}
use Rattle.lower_laws.proofs.Unary.{follows-behind}
use Rattle.lower_laws.proofs.Widths.{get-before, local-width, temporary-width}
use Rattle.lower_laws.proofs.Testing.{pointer-tested}

-- variables that a pointer is put in
abbrev pub put : Spot → ArrayName → ℤ → graph.State → graph.State
put to array index h = with_value to.number (Number index) (with_value to.array (array_value array) h)

-- those of a local that is a pointer
abbrev pub IsPointerLocal : Site → Spot → Type 0
IsPointerLocal S to = (k : ℕ) × (l : Local) × (u : IntegerType) × (slice_get S.function.locals k ≡ Some l)
    × (l.of ≡ Pointer u) × (to ≡ typed_spot (Pointer u) (first_variable S.function.locals k))

-- variables that a pointer may be put in: the level's own temporaries, or a local's
pub record MayHold (S : Site) (level : ℕ) (to : Spot) : Type 0 where
  pub array : slice_get (variable_widths S.function) to.array ≡ Some Two
  pub number : slice_get (variable_widths S.function) to.number ≡ Some Two
  pub place : (to ≡ own (context_of S) level) ⊎ IsPointerLocal S to

-- a pointer goes into a local of its type alone
pointer-local : (t : IntegerType) (of : ValueType) → GoesInto (Pointer t) of → of ≡ Pointer t
pointer-local t Void h = absurd h
pointer-local t (Integer u) h = absurd h
pointer-local t (Pointer u) h = ap Pointer (sym h)

module _ (S : Site) (site : IsSite S) (older : List Function) (level : ℕ) (before : List Line) (s t : source.State)
    (g h : graph.State) (element : IntegerType) (array : ArrayName) (index : ℤ) (visits : List Visit)
    (ops : Spot → List Line) (room : level < levels_of S.function) (shows : Shows S.program (S.function ∷ older) t h)
    (fits : h.current.function ≡ S.number) (keeps : Keeps (local_variables S.function) level g h)
    (seen : t.visits ≡ s.visits ++ visits) (is : IsArrayOf S.program (S.function ∷ older) element array)
    (puts : (to : Spot) → MayHold S level to → Stand S before (ops to)
    → Goes S s.turns (behind before g) t.turns (behind (before ++ ops to) (put to array index h)) visits) where
  abbrev c : Context
  c = context_of S

  abbrev mine : Spot
  mine = own (context_of S) level

  abbrev half : graph.State
  half = with_value mine.array (array_value array) h

  own-takes : MayHold S level mine
  own-takes = record {
    array = temporary-width (context_of S) level ForArray room;
    number = temporary-width (context_of S) level ForNumber room;
    place = inl refl;
  }

  low0 : (a b : ℕ) → a ≤ a + b + 0
  low0 a b = omega arith

  high0 : (a b : ℕ) → a + b ≤ a + b + 0
  high0 a b = omega arith

  low1 : (a b : ℕ) → a ≤ a + b + 1
  low1 a b = omega arith

  high1 : (a b : ℕ) → a + b ≤ a + b + 1
  high1 a b = omega arith

  apart : (a b : ℕ) → a + b + 0 ≢ a + b + 1
  apart a b e = omega (arith, e)

  apart3 : (a b : ℕ) → a + b + 0 ≢ a + b + 3
  apart3 a b e = omega (arith, e)

  apart13 : (a b : ℕ) → a + b + 1 ≢ a + b + 3
  apart13 a b e = omega (arith, e)

  half-shows : Shows S.program (S.function ∷ older) t half
  half-shows = temporaries-free S.program S.function older t h mine.array (array_value array) shows
      (low0 (local_variables S.function) (level * 5))

  own-shows : Shows S.program (S.function ∷ older) t (put mine array index h)
  own-shows = temporaries-free S.program S.function older t half mine.number (Number index) half-shows
      (low1 (local_variables S.function) (level * 5))

  own-keeps : Keeps (local_variables S.function) level g (put mine array index h)
  own-keeps = kept-twice (local_variables S.function) level g half (put mine array index h)
      (kept-twice (local_variables S.function) level g h half keeps
      ((kept-by-change (local_variables S.function) level mine.array (array_value array) h).1
      (high0 (local_variables S.function) (level * 5))))
      ((kept-by-change (local_variables S.function) level mine.number (Number index) half).1
      (high1 (local_variables S.function) (level * 5)))

  own-array : slice_get (put mine array index h).current.variables mine.array ≡ Some (array_value array)
  own-array = get-set_other half.current.variables mine.number mine.array (Number index)
      (apart (local_variables S.function) (level * 5))
      ∙ get-set_same h.current.variables mine.array (array_value array)
      (variable-there S.program S.function older t h mine.array Two shows own-takes.array)

  own-number : slice_get (put mine array index h).current.variables mine.number ≡ Some (Number index)
  own-number = get-set_same half.current.variables mine.number (Number index)
      (variable-there S.program S.function older t half mine.number Two half-shows own-takes.number)

  -- to the state behind the ops, where nothing comes after them
  bare-goes : (to : Spot) → MayHold S level to → Stand S before (ops to ++ [])
      → Goes S s.turns (behind before g) t.turns (behind (before ++ (ops to ++ [])) (put to array index h)) visits
  bare-goes to takes stands =
      subst (λ (ls : List Line). Goes S s.turns (behind before g) t.turns
      (behind (before ++ ls) (put to array index h)) visits) (sym (append-nil (ops to)))
      (puts to takes (stand-front S before (ops to) [] stands))

  pub pointer-dropped : (block : ℕ) → Stand S before (made c block level Dropped (Pointer element) ops)
      → Follows S (S.function ∷ older) before (made c block level Dropped (Pointer element) ops) level Dropped
      (Pointer element) s g (Gives (HoldsPointer array index) t)
  pointer-dropped block stands =
      (put mine array index h, visits, own-shows, own-keeps, tt, seen, bare-goes mine own-takes stands)

  pub pointer-own : (block : ℕ) → Stand S before (made c block level Own (Pointer element) ops)
      → Follows S (S.function ∷ older) before (made c block level Own (Pointer element) ops) level Own
      (Pointer element) s g (Gives (HoldsPointer array index) t)
  pointer-own block stands = (
    put mine array index h,
    visits,
    own-shows,
    own-keeps,
    (own-array, own-number),
    seen,
    bare-goes mine own-takes stands,
  )

  pub pointer-into : (block k : ℕ) → Stand S before (made c block level (ToLocal k) (Pointer element) ops)
      → MayWant S (ToLocal k) (Pointer element)
      → Follows S (S.function ∷ older) before (made c block level (ToLocal k) (Pointer element) ops) level (ToLocal k)
      (Pointer element) s g (Gives (HoldsPointer array index) t)
  pointer-into block k stands may =
      let (l, e, into) = some-and (slice_get S.function.locals k) (λ m. GoesInto (Pointer element) m.of) may in
      let of = pointer-local element l.of into in
      let v = first_variable S.function.locals k in
      let there : local_spot (context_of S) k ≡ typed_spot (Pointer element) v =
      ap (λ (o : Option Local). typed_spot (type_of o) v) e ∙ ap (λ (m : ValueType). typed_spot m v) of in
      let within = local-within S.function.locals k l e in
      let long : length (type_widths l.of) ≡ 2 = ap (λ (m : ValueType). length (type_widths m)) of in
      let takes : MayHold S level (typed_spot (Pointer element) v) = record {
        array = local-there k 0 l e (omega (arith, long)) v (omega arith) (omega (arith, within, long))
            ∙ ap (λ (m : ValueType). slice_get (type_widths m) 0) of;
        number = local-there k 1 l e (omega (arith, long)) (suc v) (omega arith) (omega (arith, within, long))
            ∙ ap (λ (m : ValueType). slice_get (type_widths m) 1) of;
        place = inr (k, l, element, e, of, refl);
      } in
      let first = with_value v (array_value array) h in
      subst (λ (to : Spot). Stand S before (ops to ++ []) → Follows S (S.function ∷ older) before (ops to ++ []) level
      (ToLocal k) (Pointer element) s g (Gives (HoldsPointer array index) t)) (sym there)
      (λ here. (
        put (typed_spot (Pointer element) v) array index h,
        visits,
        pointers-set S.program S.function older t h k l element array index shows e of is,
        kept-twice (local_variables S.function) level g first (put (typed_spot (Pointer element) v) array index h)
            (kept-twice (local_variables S.function) level g h first keeps
            ((kept-by-change (local_variables S.function) level v (array_value array) h).0
            (omega (arith, within, long))))
            ((kept-by-change (local_variables S.function) level (suc v) (Number index) first).0
            (omega (arith, within, long))),
        tt,
        seen,
        bare-goes (typed_spot (Pointer element) v) takes here,
      )) stands
    where
      local-there : (k j : ℕ) (l : Local) → slice_get S.function.locals k ≡ Some l → j < length (type_widths l.of)
          → (v : ℕ) → v ≡ first_variable S.function.locals k + j → v < local_variables S.function
          → slice_get (variable_widths S.function) v ≡ slice_get (type_widths l.of) j
      local-there k j l e inside v plain below =
          get-before (local_widths S.function.locals) (levels_widths (levels_of S.function)) v below
          ∙ ap (slice_get (local_widths S.function.locals)) plain ∙ local-width S.function.locals k j l e inside

  pub pointer-tests : (block yes' no' : ℕ)
      → Stand S before (made c block level (Tests yes' no') (Pointer element) ops)
      → MayWant S (Tests yes' no') (Pointer element)
      → Follows S (S.function ∷ older) before (made c block level (Tests yes' no') (Pointer element) ops) level
      (Tests yes' no') (Pointer element) s g (Gives (HoldsPointer array index) t)
  pointer-tests block yes' no' stands may =
      follows-behind S (S.function ∷ older) before (ops mine) (pointer_test c block level mine yes' no') level
      (Tests yes' no') (Pointer element) s t g (put mine array index h) visits
      (Gives (HoldsPointer array index) t) own-keeps seen
      (puts mine own-takes (stand-front S before (ops mine) (pointer_test c block level mine yes' no') stands))
      (pointer-tested S site older level (before ++ ops mine) t (put mine array index h) fits own-shows room array index
      mine own-array own-number (apart3 (local_variables S.function) (level * 5))
      (apart13 (local_variables S.function) (level * 5)) block yes' no'
      (stand-back S before (ops mine) (pointer_test c block level mine yes' no') stands) may.1 may.2 element)

  -- whatever is wanted
  pub pointer-made : (block : ℕ) (wanted : Wanted)
      → Stand S before (made c block level wanted (Pointer element) ops) → MayWant S wanted (Pointer element)
      → Follows S (S.function ∷ older) before (made c block level wanted (Pointer element) ops) level wanted
      (Pointer element) s g (Gives (HoldsPointer array index) t)
  pointer-made block Dropped stands may = pointer-dropped block stands
  pointer-made block Own stands may = pointer-own block stands
  pointer-made block (ToLocal k) stands may = pointer-into block k stands may
  pointer-made block (Tests yes' no') stands may = pointer-tests block yes' no' stands may
