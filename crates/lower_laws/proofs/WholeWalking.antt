-- Every typed expression, by induction on the tree.
use Rattle.std.proofs.Common.{◌≡◌, ◌≢◌, ℕ, List, [], ◌∷◌, Some, inl, inr, refl, sym, ap, ◌∙◌, subst, length}
use Rattle.std.specs.Prelude.{slice_get}
use Rattle.c_tree.specs.declared.expression.BinaryOp.{BinaryOp}
use Rattle.c_tree.specs.declared.expression.BinaryOp.TheVariants.{Multiply, Divide, Remainder, Add, Subtract, ShiftLeft}
use Rattle.c_tree.specs.declared.expression.BinaryOp.TheVariants.{ShiftRight, Less, Greater, LessOrEqual}
use Rattle.c_tree.specs.declared.expression.BinaryOp.TheVariants.{GreaterOrEqual, Equal, NotEqual, BitAnd, BitXor}
use Rattle.c_tree.specs.declared.expression.BinaryOp.TheVariants.{BitOr}
use Rattle.c_tree.specs.declared.expression.StepOp.{StepOp}
use Rattle.c_tree.specs.declared.expression.UnaryOp.{UnaryOp}
use Rattle.c_tree.specs.declared.expression.UnaryOp.TheVariants.{Plus, Minus, Complement, Not}
use Rattle.c_tree.specs.declared.types.IntegerType.{IntegerType}
use Rattle.c_tree.specs.declared.types.IntegerType.TheVariants.{Int}
use Rattle.c_tree.specs.Operators.{numbers_result, numbers_type, unary_type}
use Rattle.c_tree.specs.declared.types.ValueType.{ValueType}
use Rattle.c_tree.specs.declared.types.ValueType.TheVariants.{Void, Integer, Pointer}
use Rattle.c_tree.specs.Evaluation.{locate}
use Rattle.c_tree.specs.Program.{value_type, Expression, Constant, Start, Read, Address, Unary, Binary, And, Or}
use Rattle.c_tree.specs.Program.{Conditional, Cast, Assign, Update, Step, Comma, Call, Putchar, Getchar, Exit, Place}
use Rattle.c_tree.specs.Program.{LocalPlace, StaticPlace, Target, Element, Argument, Arguments, NoMore, Local}
use Rattle.c_tree.specs.Store.{Gives, held}
use Rattle.c_tree.specs.WellTyped.{AreArguments, BinaryGives, CanAssign, CanCast, CanUpdate, ConditionalGives}
use Rattle.c_tree.specs.WellTyped.{IsElement, IsInteger, IsPlace, IsScalar, IsTyped, NumberPointerGives}
use Rattle.c_tree.specs.WellTyped.{PointerNumberGives, UnaryGives, WellTyped, parameters_of}
use Rattle.lower_lines.specs.Expressions.{local_part, place_of}
use Rattle.lower_lines.specs.Following.{CallsFollow, IsSite, LowersPlace, Site, context_of}
use Rattle.lower_lines.specs.Laws.{ArgumentsLower, ExpressionsLower, PlacesLower}
use Rattle.lower_laws.proofs.Assigning.{assigns-lower, local-lowers}
use Rattle.lower_laws.proofs.Atoms.{constants-lower, getchar-lowers}
use Rattle.lower_laws.proofs.Binary.{binaries-lower}
use Rattle.lower_laws.proofs.Conditional.{conditionals-lower, pluses-lower, voids-lower}
use Rattle.lower_laws.proofs.ExpressionConditions.{nots-lower}
use Rattle.lower_laws.proofs.Converting.{casts-lower}
use Rattle.lower_laws.proofs.Logical.{ands-lower, ors-lower}
use Rattle.lower_laws.proofs.Made.{some-and}
use Rattle.lower_laws.proofs.Outside.{commas-lower, exits-lower, putchars-lower}
use Rattle.lower_laws.proofs.Stepping.{lowers-same, steps-lower, updates-lower}
use Rattle.lower_laws.proofs.Unary.{complements-lower, minuses-lower}
use Rattle.lower_laws.proofs.ExpressionAddresses.{targets-addressed, targets-lower}
use Rattle.lower_laws.proofs.PlacesAssigning.{targets-assigned}
use Rattle.lower_laws.proofs.Indexing.{indexes-assigned, indexes-read}
use Rattle.lower_laws.proofs.PlacesReading.{objects-read, targets-read}
use Rattle.lower_laws.proofs.Turned.{turned-assigned, turned-read}
use Rattle.lower_laws.proofs.Updating.{objects-stepped, objects-updated}
use Rattle.lower_laws.proofs.Writing.{objects-assigned}
use Rattle.lower_laws.proofs.Addressing.{indexes-addressed, turned-addressed}
use Rattle.lower_laws.proofs.Moving.{pointers-read}
use Rattle.lower_laws.proofs.Starting.{starts-lower}
use Rattle.lower_laws.proofs.Storing.{pointers-assigned, pointers-convert}
use Rattle.lower_laws.proofs.PointersStepping.{pointers-stepped}
use Rattle.lower_laws.proofs.Summing.{sums-lower, turned-sums}
use Rattle.lower_laws.proofs.PointersUpdating.{pointers-moved}
use Rattle.lower_laws.specs.PointersLaws.{GoesToPointer}
use Rattle.lower_laws.proofs.Nulls.{nulls-compared, turned-compared}
use Rattle.lower_laws.proofs.Ordering.{pointers-compared}
use Rattle.lower_laws.proofs.Locating.{indexes-lower, turned-lower}
use Rattle.lower_laws.proofs.ElementsNaming.{indexes-stepped, indexes-updated, targets-stepped, targets-updated}
use Rattle.lower_laws.proofs.ElementsNaming.{turned-stepped, turned-updated}
use Rattle.lower_laws.proofs.WholeCalling.{calls-lower}
use Rattle.lower_laws.proofs.WholeChoosing.{pointers-chosen, voids-chosen}
use Rattle.lower_laws.proofs.WholePassing.{arguments-pass}
use Rattle.lower_laws.proofs.Types.{ArePair, integer-of, local-scalar, not-void_number, pair-of, part-type}
use Rattle.lower_laws.proofs.Types.{result-kind, scalar-not_void, type_in}
use Rattle.lower_laws.specs.WholeLaws.{ArePassed, Does}

-- ---- types

same-element : (t u : IntegerType) → Integer t ≡ Integer u → t ≡ u
same-element t u e = cc

-- what is assigned to an integer type
assigned-integer : (w : IntegerType) (v : ValueType) → CanAssign (Integer w) v → (u : IntegerType) × (v ≡ Integer u)
assigned-integer w Void can = absurd can
assigned-integer w (Integer u) can = (u, refl)
assigned-integer w (Pointer u) can = absurd can

goes-to : (t : IntegerType) (p v : ValueType) → p ≡ v → CanAssign (Pointer t) v → GoesToPointer t p
goes-to t p Void is can = absurd can
goes-to t p (Integer u) is can = inr (u, is)
goes-to t p (Pointer u) is can = inl (is ∙ ap (λ (w : IntegerType). Pointer w) can)

-- what an assignment with an operator takes
updating-integer : (op : BinaryOp) (of v : ValueType) → CanUpdate op of v → (u : IntegerType) × (v ≡ Integer u)
updating-integer op Void v can = absurd can
updating-integer op (Integer t) Void can = absurd can
updating-integer op (Integer t) (Integer u) can = (u, refl)
updating-integer op (Integer t) (Pointer u) can = absurd can
updating-integer op (Pointer t) Void can = absurd can
updating-integer op (Pointer t) (Integer u) can = (u, refl)
updating-integer op (Pointer t) (Pointer u) can = absurd can

-- what a place is found by does what the source does
abbrev pub PlaceDoes : Site → Place → Type 0
PlaceDoes S (Target element e) = Does S e × (type_in S e ≡ Pointer element)
PlaceDoes S (Element element a i) = Does S a × Does S i × ArePair element (type_in S a) (type_in S i)
PlaceDoes S _ = Unit {0}

module _ (S : Site) (site : IsSite S) (whole : WellTyped S.program) (follow : CallsFollow S) where
  -- ---- operators

  unary-number : (op : UnaryOp) (e : Expression) (t : IntegerType) → type_in S e ≡ Integer t → Does S e
      → Does S (Unary (unary_type op t) op e)
  unary-number Plus e t is does = pluses-lower S site e t does is
  unary-number Minus e t is does = minuses-lower S site e t does is
  unary-number Complement e t is does = complements-lower S site e t does is
  unary-number Not e t is does = nots-lower S site e does (not-void_number (type_in S e) t is)

  unary-does : (of : IntegerType) (op : UnaryOp) (e : Expression) (v : ValueType) → type_in S e ≡ v
      → UnaryGives op v of → Does S e → Does S (Unary of op e)
  unary-does of op e Void is gives does = absurd gives
  unary-does of op e (Integer t) is gives does =
      subst (λ (u : IntegerType). Does S (Unary u op e)) (sym gives) (unary-number op e t is does)
  unary-does of op e (Pointer t) is gives does =
      subst (λ (u : IntegerType). Does S (Unary u op e)) (sym gives.1)
      (subst (λ (o : UnaryOp). Does S (Unary Int o e)) (sym gives.0)
      (nots-lower S site e does (scalar-not_void (type_in S e) (Pointer t) is tt)))

  pointer-number : (op : BinaryOp) (a b : Expression) (t u : IntegerType) (of : ValueType) → type_in S a ≡ Pointer t
      → type_in S b ≡ Integer u → PointerNumberGives op t of → Does S a → Does S b → Does S (Binary of op a b)
  pointer-number Add a b t u of is is' gives da db =
      subst (λ (p : ValueType). Does S (Binary p Add a b)) (sym gives) (sums-lower S site Add tt a b t da is u db is')
  pointer-number Subtract a b t u of is is' gives da db =
      subst (λ (p : ValueType). Does S (Binary p Subtract a b)) (sym gives)
      (sums-lower S site Subtract tt a b t da is u db is')
  pointer-number Equal a b t u of is is' gives da db =
      subst (λ (p : ValueType). Does S (Binary p Equal a b)) (sym gives)
      (nulls-compared S site Equal tt a b t u da is db is')
  pointer-number NotEqual a b t u of is is' gives da db =
      subst (λ (p : ValueType). Does S (Binary p NotEqual a b)) (sym gives)
      (nulls-compared S site NotEqual tt a b t u da is db is')
  pointer-number Multiply a b t u of is is' gives da db = absurd gives
  pointer-number Divide a b t u of is is' gives da db = absurd gives
  pointer-number Remainder a b t u of is is' gives da db = absurd gives
  pointer-number ShiftLeft a b t u of is is' gives da db = absurd gives
  pointer-number ShiftRight a b t u of is is' gives da db = absurd gives
  pointer-number Less a b t u of is is' gives da db = absurd gives
  pointer-number Greater a b t u of is is' gives da db = absurd gives
  pointer-number LessOrEqual a b t u of is is' gives da db = absurd gives
  pointer-number GreaterOrEqual a b t u of is is' gives da db = absurd gives
  pointer-number BitAnd a b t u of is is' gives da db = absurd gives
  pointer-number BitXor a b t u of is is' gives da db = absurd gives
  pointer-number BitOr a b t u of is is' gives da db = absurd gives

  number-pointer : (op : BinaryOp) (a b : Expression) (t u : IntegerType) (of : ValueType) → type_in S a ≡ Integer t
      → type_in S b ≡ Pointer u → NumberPointerGives op u of → Does S a → Does S b → Does S (Binary of op a b)
  number-pointer Add a b t u of is is' gives da db =
      subst (λ (p : ValueType). Does S (Binary p Add a b)) (sym gives) (turned-sums S site a b u t da is db is')
  number-pointer Equal a b t u of is is' gives da db =
      subst (λ (p : ValueType). Does S (Binary p Equal a b)) (sym gives)
      (turned-compared S site Equal tt a b u t da is db is')
  number-pointer NotEqual a b t u of is is' gives da db =
      subst (λ (p : ValueType). Does S (Binary p NotEqual a b)) (sym gives)
      (turned-compared S site NotEqual tt a b u t da is db is')
  number-pointer Subtract a b t u of is is' gives da db = absurd gives
  number-pointer Multiply a b t u of is is' gives da db = absurd gives
  number-pointer Divide a b t u of is is' gives da db = absurd gives
  number-pointer Remainder a b t u of is is' gives da db = absurd gives
  number-pointer ShiftLeft a b t u of is is' gives da db = absurd gives
  number-pointer ShiftRight a b t u of is is' gives da db = absurd gives
  number-pointer Less a b t u of is is' gives da db = absurd gives
  number-pointer Greater a b t u of is is' gives da db = absurd gives
  number-pointer LessOrEqual a b t u of is is' gives da db = absurd gives
  number-pointer GreaterOrEqual a b t u of is is' gives da db = absurd gives
  number-pointer BitAnd a b t u of is is' gives da db = absurd gives
  number-pointer BitXor a b t u of is is' gives da db = absurd gives
  number-pointer BitOr a b t u of is is' gives da db = absurd gives

  binary-does : (op : BinaryOp) (a b : Expression) (p q of : ValueType) → value_type a ≡ p → value_type b ≡ q
      → type_in S a ≡ p → type_in S b ≡ q → BinaryGives op p q of → Does S a → Does S b → Does S (Binary of op a b)
  binary-does op a b (Integer t) (Integer u) of kind kind' is is' gives da db =
      subst (λ (p : ValueType). Does S (Binary p op a b)) (sym gives)
      (binaries-lower S site (numbers_result op (numbers_type op t u)) op a b t u kind kind' da is db is')
  binary-does op a b (Pointer t) (Integer u) of kind kind' is is' gives da db =
      pointer-number op a b t u of is is' gives da db
  binary-does op a b (Integer t) (Pointer u) of kind kind' is is' gives da db =
      number-pointer op a b t u of is is' gives da db
  binary-does op a b (Pointer t) (Pointer u) of kind kind' is is' gives da db =
      subst (λ (p : ValueType). Does S (Binary p op a b)) (sym gives.2)
      (pointers-compared S site op gives.1 a b t u da is db is')
  binary-does op a b Void q of kind kind' is is' gives da db = absurd gives
  binary-does op a b (Integer t) Void of kind kind' is is' gives da db = absurd gives
  binary-does op a b (Pointer t) Void of kind kind' is is' gives da db = absurd gives

  conditional-does : (c a b : Expression) (p q of : ValueType) → type_in S a ≡ p → type_in S b ≡ q
      → ConditionalGives p q of → Does S c → type_in S c ≢ Void → Does S a → Does S b
      → Does S (Conditional of c a b)
  conditional-does c a b Void Void of is is' gives dc scalar da db =
      subst (λ (p : ValueType). Does S (Conditional p c a b)) (sym gives) (voids-chosen S site c a b dc scalar da db)
  conditional-does c a b (Integer t) (Integer u) of is is' gives dc scalar da db =
      subst (λ (p : ValueType). Does S (Conditional p c a b)) (sym gives)
      (conditionals-lower S site c a b t u dc scalar da is db is')
  conditional-does c a b (Pointer t) (Pointer u) of is is' gives dc scalar da db =
      subst (λ (p : ValueType). Does S (Conditional p c a b)) (sym gives.1)
      (pointers-chosen S site t c a b dc scalar da (inl is) db
      (inl (is' ∙ ap (λ (w : IntegerType). Pointer w) gives.0)))
  conditional-does c a b (Pointer t) (Integer u) of is is' gives dc scalar da db =
      subst (λ (p : ValueType). Does S (Conditional p c a b)) (sym gives)
      (pointers-chosen S site t c a b dc scalar da (inl is) db (inr (u, is')))
  conditional-does c a b (Integer t) (Pointer u) of is is' gives dc scalar da db =
      subst (λ (p : ValueType). Does S (Conditional p c a b)) (sym gives)
      (pointers-chosen S site u c a b dc scalar da (inr (t, is)) db (inl is'))
  conditional-does c a b Void (Integer u) of is is' gives dc scalar da db = absurd gives
  conditional-does c a b Void (Pointer u) of is is' gives dc scalar da db = absurd gives
  conditional-does c a b (Integer t) Void of is is' gives dc scalar da db = absurd gives
  conditional-does c a b (Pointer t) Void of is is' gives dc scalar da db = absurd gives

  cast-does : (to : ValueType) (e : Expression) (v : ValueType) → type_in S e ≡ v → CanCast to v → Does S e
      → Does S (Cast to e)
  cast-does Void e v is can does = voids-lower S site e does
  cast-does (Integer w) e v is can does =
      let (u, same) = assigned-integer w v can in casts-lower S site w e u does (is ∙ same)
  cast-does (Pointer t) e v is can does = pointers-convert S site t e does (goes-to t (type_in S e) v is can)

  -- ---- places

  read-local : (of : ValueType) (k : ℕ) (l : Local) → slice_get S.function.locals k ≡ Some l → l.of ≡ of
      → Does S (Read of (LocalPlace k))
  read-local Void k l there is = absurd (subst IsScalar is (local-scalar S site whole k l there))
  read-local (Integer w) k l there is =
      lowers-same S (local_part (context_of S) (Integer w) k) (λ s. Gives (held s k) s) _ (λ s. refl)
      (local-lowers S site k l w there is)
  read-local (Pointer t) k l there is = pointers-read S site k l t there is

  read-element : (a i : Expression) (t : IntegerType) → Does S a → Does S i → ArePair t (type_in S a) (type_in S i)
      → Does S (Read (Integer t) (Element t a i))
  read-element a i t da di (inl (is, u, is')) = indexes-read S site a i t da is u di is'
  read-element a i t da di (inr (u, is, is')) = turned-read S site a i t u da is di is'

  read-does : (of : ValueType) (place : Place) → IsPlace S.program S.function place of → PlaceDoes S place
      → Does S (Read of place)
  read-does of (LocalPlace k) typed does =
      let (l, there, is) = some-and (slice_get S.function.locals k) (λ m. m.of ≡ of) typed in
      read-local of k l there is
  read-does of (StaticPlace k) typed does =
      let (o, there, is) = some-and (slice_get S.program.objects k)
      (λ x. (length x.elements ≡ 1) × (Integer x.element ≡ of)) typed in
      subst (λ (p : ValueType). Does S (Read p (StaticPlace k))) is.1 (objects-read S site k o there is.0)
  read-does of (Target t e) typed does =
      subst (λ (p : ValueType). Does S (Read p (Target t e))) typed.2 (targets-read S site e t does.0 does.1)
  read-does of (Element t a i) typed does =
      subst (λ (p : ValueType). Does S (Read p (Element t a i))) typed.3 (read-element a i t does.0 does.1 does.2)

  address-element : (a i : Expression) (t : IntegerType) → Does S a → Does S i → ArePair t (type_in S a) (type_in S i)
      → Does S (Address t (Element t a i))
  address-element a i t da di (inl (is, u, is')) = indexes-addressed S site a i t da is u di is'
  address-element a i t da di (inr (u, is, is')) = turned-addressed S site a i t u da is di is'

  address-does : (t : IntegerType) (place : Place) → IsElement place → IsPlace S.program S.function place (Integer t)
      → PlaceDoes S place → Does S (Address t place)
  address-does t (LocalPlace k) is typed does = absurd is
  address-does t (StaticPlace k) is typed does = absurd is
  address-does t (Target u e) is typed does =
      subst (λ (w : IntegerType). Does S (Address w (Target u e))) (same-element u t typed.2)
      (targets-addressed S site e u does.0 does.1)
  address-does t (Element u a i) is typed does =
      subst (λ (w : IntegerType). Does S (Address w (Element u a i))) (same-element u t typed.3)
      (address-element a i u does.0 does.1 does.2)

  assign-local : (of : ValueType) (k : ℕ) (l : Local) → slice_get S.function.locals k ≡ Some l → l.of ≡ of
      → (e : Expression) (v : ValueType) → type_in S e ≡ v → CanAssign of v → Does S e
      → Does S (Assign of (LocalPlace k) e)
  assign-local Void k l there of e v is can does = absurd can
  assign-local (Integer w) k l there of e v is can does =
      let (u, same) = assigned-integer w v can in assigns-lower S site k l w there of e u does (is ∙ same)
  assign-local (Pointer t) k l there of e v is can does =
      pointers-assigned S site k l t there of e does (goes-to t (type_in S e) v is can)

  assign-element : (a i : Expression) (t : IntegerType) → Does S a → Does S i → ArePair t (type_in S a) (type_in S i)
      → (e : Expression) (u : IntegerType) → Does S e → type_in S e ≡ Integer u
      → Does S (Assign (Integer t) (Element t a i) e)
  assign-element a i t da di (inl (is, w, is')) e u does same =
      indexes-assigned S site a i t da is w di is' e u does same
  assign-element a i t da di (inr (w, is, is')) e u does same =
      turned-assigned S site a i t w da is di is' e u does same

  assign-does : (of : ValueType) (place : Place) (e : Expression) → IsPlace S.program S.function place of
      → PlaceDoes S place → (v : ValueType) → type_in S e ≡ v → CanAssign of v → Does S e → Does S (Assign of place e)
  assign-does of (LocalPlace k) e typed found v is can does =
      let (l, there, same) = some-and (slice_get S.function.locals k) (λ m. m.of ≡ of) typed in
      assign-local of k l there same e v is can does
  assign-does of (StaticPlace k) e typed found v is can does =
      let (o, there, one) = some-and (slice_get S.program.objects k)
      (λ x. (length x.elements ≡ 1) × (Integer x.element ≡ of)) typed in
      let (u, same) = assigned-integer o.element v (subst (λ (p : ValueType). CanAssign p v) (sym one.1) can) in
      subst (λ (p : ValueType). Does S (Assign p (StaticPlace k) e)) one.1
      (objects-assigned S site k o there one.0 e u does (is ∙ same))
  assign-does of (Target t p) e typed found v is can does =
      let (u, same) = assigned-integer t v (subst (λ (q : ValueType). CanAssign q v) (sym typed.2) can) in
      subst (λ (q : ValueType). Does S (Assign q (Target t p) e)) typed.2
      (targets-assigned S site p t found.0 found.1 e u does (is ∙ same))
  assign-does of (Element t a i) e typed found v is can does =
      let (u, same) = assigned-integer t v (subst (λ (q : ValueType). CanAssign q v) (sym typed.3) can) in
      subst (λ (q : ValueType). Does S (Assign q (Element t a i) e)) typed.3
      (assign-element a i t found.0 found.1 found.2 e u does (is ∙ same))

  -- ---- assignments with an operator, and steps

  update-local : (of : ValueType) (op : BinaryOp) (k : ℕ) (l : Local) → slice_get S.function.locals k ≡ Some l
      → l.of ≡ of → (e : Expression) (u : IntegerType) → CanUpdate op of (Integer u) → value_type e ≡ Integer u
      → Does S e → type_in S e ≡ Integer u → Does S (Update of op (LocalPlace k) e)
  update-local Void op k l there of e u can kind does is = absurd can
  update-local (Integer w) op k l there of e u can kind does is =
      updates-lower S site op k l w there of e u kind does is
  update-local (Pointer t) op k l there of e u can kind does is =
      pointers-moved S site op can k l t there of e u does is

  update-element : (op : BinaryOp) (a i : Expression) (t : IntegerType) → Does S a → Does S i
      → ArePair t (type_in S a) (type_in S i) → (e : Expression) (u : IntegerType) → value_type e ≡ Integer u → Does S e
      → type_in S e ≡ Integer u → Does S (Update (Integer t) op (Element t a i) e)
  update-element op a i t da di (inl (is, w, is')) e u kind does same =
      indexes-updated S site op a i t da is w di is' e u kind does same
  update-element op a i t da di (inr (w, is, is')) e u kind does same =
      turned-updated S site op a i t w da is di is' e u kind does same

  update-does : (of : ValueType) (op : BinaryOp) (place : Place) (e : Expression)
      → IsPlace S.program S.function place of → PlaceDoes S place → (v : ValueType) → value_type e ≡ v
      → type_in S e ≡ v → CanUpdate op of v → Does S e → Does S (Update of op place e)
  update-does of op (LocalPlace k) e typed found v same is can does =
      let (l, there, at) = some-and (slice_get S.function.locals k) (λ m. m.of ≡ of) typed in
      let (u, kind) = updating-integer op of v can in
      update-local of op k l there at e u (subst (λ (p : ValueType). CanUpdate op of p) kind can) (same ∙ kind) does
      (is ∙ kind)
  update-does of op (StaticPlace k) e typed found v same is can does =
      let (o, there, one) = some-and (slice_get S.program.objects k)
      (λ x. (length x.elements ≡ 1) × (Integer x.element ≡ of)) typed in
      let (u, kind) = updating-integer op of v can in
      subst (λ (p : ValueType). Does S (Update p op (StaticPlace k) e)) one.1
      (objects-updated S site op k o there one.0 e u (same ∙ kind) does (is ∙ kind))
  update-does of op (Target t p) e typed found v same is can does =
      let (u, kind) = updating-integer op of v can in
      subst (λ (q : ValueType). Does S (Update q op (Target t p) e)) typed.2
      (targets-updated S site op p t found.0 found.1 e u (same ∙ kind) does (is ∙ kind))
  update-does of op (Element t a i) e typed found v same is can does =
      let (u, kind) = updating-integer op of v can in
      subst (λ (q : ValueType). Does S (Update q op (Element t a i) e)) typed.3
      (update-element op a i t found.0 found.1 found.2 e u (same ∙ kind) does (is ∙ kind))

  step-local : (of : ValueType) (op : StepOp) (k : ℕ) (l : Local) → slice_get S.function.locals k ≡ Some l
      → l.of ≡ of → Does S (Step of op (LocalPlace k))
  step-local Void op k l there is = absurd (subst IsScalar is (local-scalar S site whole k l there))
  step-local (Integer w) op k l there is = steps-lower S site op k l w there is
  step-local (Pointer t) op k l there is = pointers-stepped S site op k l t there is

  step-element : (op : StepOp) (a i : Expression) (t : IntegerType) → Does S a → Does S i
      → ArePair t (type_in S a) (type_in S i) → Does S (Step (Integer t) op (Element t a i))
  step-element op a i t da di (inl (is, w, is')) = indexes-stepped S site op a i t da is w di is'
  step-element op a i t da di (inr (w, is, is')) = turned-stepped S site op a i t w da is di is'

  step-does : (of : ValueType) (op : StepOp) (place : Place) → IsPlace S.program S.function place of
      → PlaceDoes S place → Does S (Step of op place)
  step-does of op (LocalPlace k) typed found =
      let (l, there, is) = some-and (slice_get S.function.locals k) (λ m. m.of ≡ of) typed in
      step-local of op k l there is
  step-does of op (StaticPlace k) typed found =
      let (o, there, one) = some-and (slice_get S.program.objects k)
      (λ x. (length x.elements ≡ 1) × (Integer x.element ≡ of)) typed in
      subst (λ (p : ValueType). Does S (Step p op (StaticPlace k))) one.1 (objects-stepped S site op k o there one.0)
  step-does of op (Target t p) typed found =
      subst (λ (q : ValueType). Does S (Step q op (Target t p))) typed.2
      (targets-stepped S site op p t found.0 found.1)
  step-does of op (Element t a i) typed found =
      subst (λ (q : ValueType). Does S (Step q op (Element t a i))) typed.3
      (step-element op a i t found.0 found.1 found.2)

  -- ---- the walk

  call-does : (of : ValueType) (k : ℕ) (es : Arguments) → IsTyped S.program S.function (Call of k es)
      → ((ls : List Local) → AreArguments S.program S.function ls es → ArePassed S ls es) → Does S (Call of k es)
  call-does of k es typed are =
      let (f, there, parts) = some-and (slice_get S.program.functions k) (λ g. (g.result ≡ of)
      × AreArguments S.program S.function (parameters_of g) es) typed in
      subst (λ (p : ValueType). Does S (Call p k es)) parts.0
      (calls-lower S site follow k f there (result-kind S whole k f there) es (are (parameters_of f) parts.1))

  not-void : (e : Expression) → IsTyped S.program S.function e → IsScalar (value_type e) → type_in S e ≢ Void
  not-void e typed scalar = scalar-not_void (type_in S e) (value_type e) (part-type S e typed) scalar

  number-in : (e : Expression) → IsTyped S.program S.function e → IsInteger (value_type e)
      → (t : IntegerType) × (type_in S e ≡ Integer t)
  number-in e typed integer = let (t, same) = integer-of (value_type e) integer in (t, part-type S e typed ∙ same)

  mutual
    pub expression-does : (e : Expression) → IsTyped S.program S.function e → Does S e
    expression-does (Constant of n) typed = constants-lower S site of n
    expression-does (Start element array) typed = starts-lower S site element array typed
    expression-does (Read of place) typed = read-does of place typed (place-does place of typed)
    expression-does (Address t place) typed =
        address-does t place typed.0 typed.1 (place-does place (Integer t) typed.1)
    expression-does (Unary of op e) typed =
        unary-does of op e (value_type e) (part-type S e typed.0) typed.1 (expression-does e typed.0)
    expression-does (Binary of op a b) typed =
        binary-does op a b (value_type a) (value_type b) of refl refl (part-type S a typed.0) (part-type S b typed.1)
        typed.2 (expression-does a typed.0) (expression-does b typed.1)
    expression-does (And a b) typed =
        ands-lower S site a b (expression-does a typed.0) (expression-does b typed.2) (not-void a typed.0 typed.1)
        (not-void b typed.2 typed.3)
    expression-does (Or a b) typed =
        ors-lower S site a b (expression-does a typed.0) (expression-does b typed.2) (not-void a typed.0 typed.1)
        (not-void b typed.2 typed.3)
    expression-does (Conditional of c a b) typed =
        conditional-does c a b (value_type a) (value_type b) of (part-type S a typed.2) (part-type S b typed.3) typed.4
        (expression-does c typed.0) (not-void c typed.0 typed.1) (expression-does a typed.2) (expression-does b typed.3)
    expression-does (Cast to e) typed =
        cast-does to e (value_type e) (part-type S e typed.0) typed.1 (expression-does e typed.0)
    expression-does (Assign of place e) typed =
        assign-does of place e typed.0 (place-does place of typed.0) (value_type e) (part-type S e typed.1) typed.2
        (expression-does e typed.1)
    expression-does (Update of op place e) typed =
        update-does of op place e typed.0 (place-does place of typed.0) (value_type e) refl (part-type S e typed.1)
        typed.2 (expression-does e typed.1)
    expression-does (Step of op place) typed = step-does of op place typed (place-does place of typed)
    expression-does (Comma a b) typed =
        commas-lower S site a b (expression-does a typed.0) (expression-does b typed.1)
    expression-does (Call of k es) typed = call-does of k es typed (λ ls are. arguments-do ls es are)
    expression-does (Putchar e) typed =
        let (t, same) = number-in e typed.0 typed.1 in
        putchars-lower S site e t (expression-does e typed.0) same
    expression-does Getchar typed = getchar-lowers S site
    expression-does (Exit e) typed =
        let (t, same) = number-in e typed.0 typed.1 in exits-lower S site e t (expression-does e typed.0) same

    pub place-does : (place : Place) (of : ValueType) → IsPlace S.program S.function place of → PlaceDoes S place
    place-does (LocalPlace k) of typed = tt
    place-does (StaticPlace k) of typed = tt
    place-does (Target t e) of typed = (expression-does e typed.0, part-type S e typed.0 ∙ typed.1)
    place-does (Element t a i) of typed = (
      expression-does a typed.0,
      expression-does i typed.1,
      subst (λ (p : ValueType). ArePair t p (type_in S i)) (sym (part-type S a typed.0))
          (subst (λ (q : ValueType). ArePair t (value_type a) q) (sym (part-type S i typed.1))
          (pair-of (value_type a) (value_type i) t typed.2)),
    )

    pub arguments-do : (ls : List Local) (es : Arguments) → AreArguments S.program S.function ls es
        → ArePassed S ls es
    arguments-do [] NoMore typed = tt
    arguments-do [] (Argument e es) typed = absurd typed
    arguments-do (l ∷ ls) NoMore typed = absurd typed
    arguments-do (l ∷ ls) (Argument e es) typed = (
      expression-does e typed.0,
      subst (λ (p : ValueType). CanAssign l.of p) (sym (part-type S e typed.0)) typed.1,
      arguments-do ls es typed.2,
    )

pub expressions-lower : ExpressionsLower
expressions-lower S site whole follow e typed = expression-does S site whole follow e typed

pub arguments-lower : ArgumentsLower
arguments-lower S site whole follow ls es typed =
    arguments-pass S site ls es (arguments-do S site whole follow ls es typed)

-- ---- every place

element-lowers : (S : Site) (site : IsSite S) (a i : Expression) (t : IntegerType) → Does S a → Does S i
    → ArePair t (type_in S a) (type_in S i)
    → LowersPlace S (Integer t) (place_of (context_of S) (Element t a i)) (locate S.calls (Element t a i))
element-lowers S site a i t da di (inl (is, u, is')) = indexes-lower S site a i t da is u di is'
element-lowers S site a i t da di (inr (u, is, is')) = turned-lower S site a i t u da is di is'

place-lowers : (S : Site) (site : IsSite S) (place : Place) (of : ValueType)
    → IsPlace S.program S.function place of → PlaceDoes S place
    → LowersPlace S of (place_of (context_of S) place) (locate S.calls place)
place-lowers S site (LocalPlace k) of typed found = (λ s. refl, typed)
place-lowers S site (StaticPlace k) of typed found = (λ s. refl, typed)
place-lowers S site (Target t e) of typed found =
    subst (λ (p : ValueType). LowersPlace S p (place_of (context_of S) (Target t e)) (locate S.calls (Target t e)))
    typed.2 (targets-lower S site e t found.0 found.1)
place-lowers S site (Element t a i) of typed found =
    subst (λ (p : ValueType). LowersPlace S p (place_of (context_of S) (Element t a i))
    (locate S.calls (Element t a i))) typed.3 (element-lowers S site a i t found.0 found.1 found.2)

pub places-lower : PlacesLower
places-lower S site whole follow place of typed =
    place-lowers S site place of typed (place-does S site whole follow place of typed)
