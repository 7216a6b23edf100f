-- What the lines of an operator do, whose operands are two numbers in variables.
use Rattle.std.proofs.Common.{◌≡◌, ◌≢◌, ℕ, suc, ◌+◌, ◌*◌, ◌<◌, ◌≤◌, ◌^◌, Bool, true, false, not, ℤ, pos, List}
use Rattle.std.proofs.Common.{◌⊎◌, [], ◌∷◌, ◌++◌, Option, Some, None, refl, sym, ap, ◌∙◌, subst, arith, inl, inr}
use Rattle.std.specs.Prelude.{◌*ℤ◌, ◌+ℤ◌, ◌-ℤ◌, int_div, int_lt, int_rem, nat_le, nat_lt, if◌then◌else◌}
use Rattle.std.proofs.lemmas.Bool.Decides.{leb_tells}
use Rattle.std.proofs.lemmas.Option.{same_Some}
use Rattle.std.specs.Int.{w8, w32, int_wrap, int_bit_and, int_bit_or, int_bit_xor}
use Rattle.pcc_base.specs.Outcome.{Trapped, Value, Number}
use Rattle.pcc_base.specs.declared.run.Trap.TheVariants.{Divide as DivideTrap}
use Rattle.pcc_base.specs.declared.run.Width.TheVariants.{One, Two}
use Rattle.c_tree.specs.declared.expression.BinaryOp.{BinaryOp}
use Rattle.c_tree.specs.declared.expression.BinaryOp.TheVariants.{Multiply, Divide, Remainder, Add, Subtract, ShiftLeft}
use Rattle.c_tree.specs.declared.expression.BinaryOp.TheVariants.{ShiftRight, Less, Greater, LessOrEqual}
use Rattle.c_tree.specs.declared.expression.BinaryOp.TheVariants.{GreaterOrEqual, Equal, NotEqual, BitAnd, BitXor}
use Rattle.c_tree.specs.declared.expression.BinaryOp.TheVariants.{BitOr}
use Rattle.c_tree.specs.declared.types.IntegerType.{IntegerType}
use Rattle.c_tree.specs.Operators.{Computed, Computes, Traps, is_signed, no_quotient, no_unsigned_quotient, number}
use Rattle.c_tree.specs.Operators.{numbers_value, quotient_from_0, remainder_from_0, shift_count, shifted_right}
use Rattle.c_tree.specs.Operators.{shifted_unsigned, signed_quotient, signed_remainder, unsigned_quotient}
use Rattle.c_tree.specs.Operators.{unsigned_remainder}
use Rattle.c_tree.specs.Program.{Function}
use Rattle.c_tree.specs.Store as source
use Rattle.c_tree.specs.Store.{Held, HoldsNumber, HoldsPointer}
use Rattle.flow_graph.specs.declared.op.Comparison.{Comparison}
use Rattle.flow_graph.specs.declared.op.Comparison.TheVariants.{Eq, Ne, Lt, Le, Gt, Ge}
use Rattle.flow_graph.specs.declared.op.Op.{Op}
use Rattle.flow_graph.specs.declared.op.Op.TheVariants as op
use Rattle.flow_graph.specs.declared.op.Order.{Order}
use Rattle.flow_graph.specs.declared.op.Order.TheVariants as order
use Rattle.flow_graph.specs.Graphs.{is_end}
use Rattle.flow_graph.specs.Kinds.{is_turn, marked}
use Rattle.flow_graph.specs.Meaning.{act, arrays_compared, both, comparison, compared, divided_unless, first_of}
use Rattle.flow_graph.specs.Meaning.{ordered, two_numbers, unsigned}
use Rattle.flow_graph.specs.Running.{outcome_at}
use Rattle.flow_graph.specs.States as graph
use Rattle.flow_graph.specs.States.{GraphProgram, array_at, number_at, number_of, value_at, with_value}
use Rattle.lower_lines.specs.Following.{Comes, IsSite, Site, Stand, behind, context_of, graphs_of}
use Rattle.lower_lines.specs.Lines.{Line, Emit}
use Rattle.lower_lines.specs.Operators.{NumberTest, WithSigns, WithoutSigns, computing, order_in, test_of, test_set}
use Rattle.lower_lines.specs.Relation.{Keeps, Shows}
use Rattle.lower_lines.specs.Variables.{ForByte, ForScratch, Spot, levels_of, local_variables}
use Rattle.lower_lines.specs.Variables.{temporary}
use Rattle.lower_lines.proofs.Changes.{kept-by-change, kept-none, temporaries-free}
use Rattle.lower_lines.proofs.Locals.{get-set_other, get-set_same}
use Rattle.lower_lines.proofs.Steps.{answer_at, copy-step, divide-step, divide-traps, one-step, set-step, two-step}
use Rattle.lower_laws.proofs.Going.{Goes, stand-back, stand-front}
use Rattle.lower_laws.proofs.Made.{MayTake, variable-there}
use Rattle.lower_laws.proofs.Pairs.{IsPlaced, goes-both}
use Rattle.lower_laws.proofs.Counting.{bytes-count}
use Rattle.lower_laws.proofs.Widths.{temporary-width}

-- ---- what variables hold

pub value-number : (o : Option Value) (m : ℤ) → number_of o ≡ Some m → o ≡ Some (Number m)
value-number None m e = absurd (cc)
value-number (Some (Number n)) m e = ap (λ (k : ℤ). Some (Number k)) (some-same n m e)
  where
    some-same : (a b : ℤ) → Some a ≡ Some b → a ≡ b
    some-same a b e = cc
value-number (Some (Value.Array a)) m e = absurd (cc)

-- two numbers are compared
pub comparison-is : (how : Comparison) (g : graph.State) (x y : ℕ) (m n : ℤ) → number_at g x ≡ Some m
    → number_at g y ≡ Some n → comparison how g x y ≡ Some (compared how m n)
comparison-is how g x y m n at_x at_y =
    ap (λ (a : Option ℤ). first_of (both a (number_at g y) (compared how))
    (arrays_compared how (array_at g x) (array_at g y))) at_x
    ∙ ap (λ (b : Option ℤ). first_of (both (Some m) b (compared how))
    (arrays_compared how (array_at g x) (array_at g y))) at_y

-- ---- what tests answer

-- of two numbers
abbrev pub answer : NumberTest → ℤ → ℤ → Bool
answer (WithSigns how) m n = compared how m n
answer (WithoutSigns how) m n = ordered how m n

-- of two variables that hold them
pub answer-is : (test : NumberTest) (g : graph.State) (x y : ℕ) (m n : ℤ) → number_at g x ≡ Some m
    → number_at g y ≡ Some n → answer_at test g x y ≡ Some (answer test m n)
answer-is (WithSigns how) g x y m n at_x at_y = comparison-is how g x y m n at_x at_y
answer-is (WithoutSigns how) g x y m n at_x at_y =
    ap (λ (a : Option ℤ). both a (number_at g y) (ordered how)) at_x
    ∙ ap (λ (b : Option ℤ). both (Some m) b (ordered how)) at_y

-- what the operator that a test stands for gives of them
answer-of-order : (b : Bool) (signed : Comparison) (unsigned : Order) (m n : ℤ)
    → answer (if b then WithSigns signed else WithoutSigns unsigned) m n
    ≡ (if b then compared signed m n else ordered unsigned m n)
answer-of-order true signed unsigned m n = refl
answer-of-order false signed unsigned m n = refl

least-turned : (i j : ℕ) → nat_le i j ≡ not (nat_lt j i)
least-turned i j = by (nat_le i j) (nat_lt j i) (leb_tells i j) (leb_tells (suc j) i)
  where
    by : (b c : Bool) → ((b ≡ true) × (i ≤ j)) ⊎ ((b ≡ false) × (j < i))
        → ((c ≡ true) × (suc j ≤ i)) ⊎ ((c ≡ false) × (i < suc j)) → b ≡ not c
    by b c (inl (e, within)) (inr (f, below)) = e ∙ sym (ap not f)
    by b c (inr (e, below)) (inl (f, above)) = e ∙ sym (ap not f)
    by b c (inl (e, within)) (inl (f, above)) = absurd (omega (arith, within, above))
    by b c (inr (e, below)) (inr (f, within)) = absurd (omega (arith, below, within))

either-turned : (b u v w : Bool) → w ≡ not v → (if b then not u else w) ≡ not (if b then u else v)
either-turned true u v w e = refl
either-turned false u v w e = e

abbrev asked : Bool → Computed
asked holds = number (if holds then pos 1 else pos 0)

pub answer-value : (within : IntegerType) (operator : BinaryOp) (test : NumberTest) (m n : ℤ)
    → test_of within operator ≡ Some test
    → number (if answer test m n then pos 1 else pos 0) ≡ numbers_value within operator m n
answer-value within Less test m n e =
    ap asked (ap (λ (t : NumberTest). answer t m n) (sym (same_Some (order_in within Lt order.Lt) test e))
    ∙ answer-of-order (is_signed within) Lt order.Lt m n)
answer-value within Greater test m n e =
    ap asked (ap (λ (t : NumberTest). answer t m n) (sym (same_Some (order_in within Gt order.Gt) test e))
    ∙ answer-of-order (is_signed within) Gt order.Gt m n)
answer-value within LessOrEqual test m n e =
    ap asked (ap (λ (t : NumberTest). answer t m n) (sym (same_Some (order_in within Le order.Le) test e))
    ∙ answer-of-order (is_signed within) Le order.Le m n
    ∙ either-turned (is_signed within) (int_lt n m) _ _ (least-turned (unsigned m) (unsigned n)))
answer-value within GreaterOrEqual test m n e =
    ap asked (ap (λ (t : NumberTest). answer t m n) (sym (same_Some (order_in within Ge order.Ge) test e))
    ∙ answer-of-order (is_signed within) Ge order.Ge m n
    ∙ either-turned (is_signed within) (int_lt m n) _ _ (least-turned (unsigned n) (unsigned m)))
answer-value within Equal test m n e =
    ap (λ (t : NumberTest). asked (answer t m n)) (sym (same_Some (WithSigns Eq) test e))
answer-value within NotEqual test m n e =
    ap (λ (t : NumberTest). asked (answer t m n)) (sym (same_Some (WithSigns Ne) test e))
answer-value within Multiply test m n e = absurd (cc)
answer-value within Divide test m n e = absurd (cc)
answer-value within Remainder test m n e = absurd (cc)
answer-value within Add test m n e = absurd (cc)
answer-value within Subtract test m n e = absurd (cc)
answer-value within ShiftLeft test m n e = absurd (cc)
answer-value within ShiftRight test m n e = absurd (cc)
answer-value within BitAnd test m n e = absurd (cc)
answer-value within BitXor test m n e = absurd (cc)
answer-value within BitOr test m n e = absurd (cc)

-- a temporary of another role isn't where an operand stands, at its level or the next one
pub apart-scratch : (S : Site) (level other y : ℕ) → IsPlaced S other y → level ≤ other
    → y ≢ temporary (context_of S) level ForScratch
apart-scratch S level other y (inl e) le same = apart (local_variables S.function) level other y e le same
  where
    apart : (a i j y : ℕ) → y ≡ a + j * 5 + 1 → i ≤ j → y ≡ a + i * 5 + 3 → ⊥
    apart a i j y e le same = omega (arith, e, le, same)
apart-scratch S level other y (inr low) le same = apart (local_variables S.function) level y low same
  where
    apart : (a i y : ℕ) → y < a → y ≡ a + i * 5 + 3 → ⊥
    apart a i y low same = omega (arith, low, same)

pub apart-byte : (S : Site) (level other y : ℕ) → IsPlaced S other y → level ≤ other
    → y ≢ temporary (context_of S) level ForByte
apart-byte S level other y (inl e) le same = apart (local_variables S.function) level other y e le same
  where
    apart : (a i j y : ℕ) → y ≡ a + j * 5 + 1 → i ≤ j → y ≡ a + i * 5 + 4 → ⊥
    apart a i j y e le same = omega (arith, e, le, same)
apart-byte S level other y (inr low) le same = apart (local_variables S.function) level y low same
  where
    apart : (a i y : ℕ) → y < a → y ≡ a + i * 5 + 4 → ⊥
    apart a i y low same = omega (arith, low, same)

-- ---- what ops come to

-- Ops whose operands stand in variables, behind lines: where a number is computed, a state behind which it is in its
-- target; where the operator traps, the trap.
abbrev pub Works : Site → List Function → ℕ → (ℕ → List Line) → List Line → source.State → graph.State → Computed
    → Type 0
Works S active level ops before t g (Computes (HoldsNumber r)) =
    (h : graph.State) × Shows S.program active t h × Keeps (local_variables S.function) level g h
    × ((to : Spot) → MayTake S level to.number → Stand S before (ops to.number)
    → Goes S t.turns (behind before g) t.turns (behind (before ++ ops to.number) (with_value to.number (Number r) h))
    [])
Works S active level ops before t g (Computes (HoldsPointer array index)) = ⊥
Works S active level ops before t g (Traps trap) =
    (to : Spot) → Stand S before (ops to.number) → Comes S t.turns (behind before g) (outcome_at g (Trapped trap))

module _ (S : Site) (site : IsSite S) (older : List Function) (level x y : ℕ) (m n : ℤ) (before : List Line)
    (t : source.State) (g : graph.State) (fits : g.current.function ≡ S.number)
    (shows : Shows S.program (S.function ∷ older) t g) (room : level < levels_of S.function)
    (at_x : number_at g x ≡ Some m) (at_y : number_at g y ≡ Some n) (px : IsPlaced S level x)
    (py : IsPlaced S (suc level) y) where
  -- one op on both
  plain-works : (made_by : ℕ → Op) (f : ℤ → ℤ → ℤ)
      → ((d : ℕ) → (is_turn (made_by d) ≡ false) × (marked (made_by d) ≡ None) × (is_end (made_by d) ≡ false))
      → ((program : GraphProgram) (u : graph.State) (d : ℕ) → act program u (made_by d) ≡ two_numbers program u d x y f)
      → Works S (S.function ∷ older) level (λ to. Emit (made_by to) ∷ []) before t g (Computes (HoldsNumber (f m n)))
  plain-works made_by f kind does = (
    g,
    shows,
    kept-none (local_variables S.function) level g,
    λ to takes here o r. two-step S site before g fits (made_by to.number) to.number x y f m n t.turns o here
        (kind to.number).0 (kind to.number).1 (kind to.number).2 (does (graphs_of S) (behind before g) to.number) at_x
        at_y r,
  )

  -- a comparison
  set-works : (within : IntegerType) (operator : BinaryOp) (test : NumberTest) → test_of within operator ≡ Some test
      → Works S (S.function ∷ older) level (λ to. Emit (test_set test to x y) ∷ []) before t g
      (numbers_value within operator m n)
  set-works within operator test is =
      subst (λ (c : Computed). Works S (S.function ∷ older) level (λ to. Emit (test_set test to x y) ∷ []) before t g c)
      (answer-value within operator test m n is) (
        g,
        shows,
        kept-none (local_variables S.function) level g,
        λ to takes here o r. set-step S site before g fits test to.number x y (answer test m n) t.turns o here
            (answer-is test g x y m n at_x at_y) r,
      )

  -- ---- a quotient: the dividend is a copy

  abbrev z : ℕ
  z = temporary (context_of S) level ForScratch

  abbrev copied_in : graph.State
  copied_in = with_value z (Number m) g

  scratch-high : (a b : ℕ) → a ≤ a + b + 3
  scratch-high a b = omega arith

  scratch-above : (a b : ℕ) → a + b ≤ a + b + 3
  scratch-above a b = omega arith

  copied-shows : Shows S.program (S.function ∷ older) t copied_in
  copied-shows = temporaries-free S.program S.function older t g z (Number m) shows
      (scratch-high (local_variables S.function) (level * 5))

  copied-keeps : Keeps (local_variables S.function) level g copied_in
  copied-keeps = (kept-by-change (local_variables S.function) level z (Number m) g).1
      (scratch-above (local_variables S.function) (level * 5))

  copied-at : number_at copied_in z ≡ Some m
  copied-at = ap number_of (get-set_same g.current.variables z (Number m)
      (variable-there S.program S.function older t g z Two shows
      (temporary-width (context_of S) level ForScratch room)))

  divisor-at : number_at copied_in y ≡ Some n
  divisor-at = ap number_of (get-set_other g.current.variables z y (Number m)
      (apart-scratch S level (suc level) y py (omega arith))) ∙ at_y

  abbrev copy : Op
  copy = op.Copy z x

  divided-works : (fails : ℤ → ℤ → Bool) (made_by : ℕ → Op) (f : ℤ → ℤ → ℤ) (traps : Bool) → fails m n ≡ traps
      → ((d : ℕ) → (is_turn (made_by d) ≡ false) × (marked (made_by d) ≡ None) × (is_end (made_by d) ≡ false))
      → ((program : GraphProgram) (u : graph.State) (d : ℕ) → act program u (made_by d)
      ≡ divided_unless fails program u d z y f)
      → Works S (S.function ∷ older) level (λ to. Emit copy ∷ Emit (made_by to) ∷ []) before t g
      (if traps then Traps DivideTrap else number (f m n))
  divided-works fails made_by f true quotient kind does =
      λ to here. copy-step S site before g fits z x (Number m) t.turns (outcome_at g (Trapped DivideTrap))
      (stand-front S before (Emit copy ∷ []) (Emit (made_by to.number) ∷ []) here)
      (value-number (value_at g x) m at_x)
      (divide-traps S site (before ++ Emit copy ∷ []) copied_in fits fails (made_by to.number) to.number z y f m n
      t.turns
      (stand-back S before (Emit copy ∷ []) (Emit (made_by to.number) ∷ []) here) (kind to.number).0 (kind to.number).1
      (does (graphs_of S) (behind (before ++ Emit copy ∷ []) copied_in) to.number) copied-at divisor-at quotient)
  divided-works fails made_by f false quotient kind does = (
    copied_in,
    copied-shows,
    copied-keeps,
    λ to takes here. goes-both S t.turns t.turns t.turns g copied_in (with_value to.number (Number (f m n)) copied_in)
        before (Emit copy ∷ []) (Emit (made_by to.number) ∷ []) [] []
        (λ o r. copy-step S site before g fits z x (Number m) t.turns o
        (stand-front S before (Emit copy ∷ []) (Emit (made_by to.number) ∷ []) here)
        (value-number (value_at g x) m at_x) r)
        (λ o r. divide-step S site (before ++ Emit copy ∷ []) copied_in fits fails (made_by to.number) to.number z y f
        m n t.turns o (stand-back S before (Emit copy ∷ []) (Emit (made_by to.number) ∷ []) here) (kind to.number).0
        (kind to.number).1 (kind to.number).2
        (does (graphs_of S) (behind (before ++ Emit copy ∷ []) copied_in) to.number) copied-at divisor-at quotient r),
  )

  quotient-works : (signed : Bool) → Works S (S.function ∷ older) level
      (λ to. Emit copy ∷ Emit (if signed then op.Div to z y else op.Udiv to z y) ∷ []) before t g
      (if signed then signed_quotient m n else quotient_from_0 m n)
  quotient-works true = divided-works no_quotient (λ d. op.Div d z y) int_div (no_quotient m n) refl
      (λ d. (refl, refl, refl)) (λ program u d. refl)
  quotient-works false = divided-works no_unsigned_quotient (λ d. op.Udiv d z y) unsigned_quotient
      (no_unsigned_quotient m n) refl (λ d. (refl, refl, refl)) (λ program u d. refl)

  remainder-works : (signed : Bool) → Works S (S.function ∷ older) level
      (λ to. Emit copy ∷ Emit (if signed then op.Rem to z y else op.Urem to z y) ∷ []) before t g
      (if signed then signed_remainder m n else remainder_from_0 m n)
  remainder-works true = divided-works no_quotient (λ d. op.Rem d z y) int_rem (no_quotient m n) refl
      (λ d. (refl, refl, refl)) (λ program u d. refl)
  remainder-works false = divided-works no_unsigned_quotient (λ d. op.Urem d z y) unsigned_remainder
      (no_unsigned_quotient m n) refl (λ d. (refl, refl, refl)) (λ program u d. refl)

  -- ---- a shift: the count is a byte

  abbrev count : ℕ
  count = temporary (context_of S) level ForByte

  abbrev counted : graph.State
  counted = with_value count (Number (int_wrap w8 n)) g

  byte-high : (a b : ℕ) → a ≤ a + b + 4
  byte-high a b = omega arith

  byte-above : (a b : ℕ) → a + b ≤ a + b + 4
  byte-above a b = omega arith

  counted-shows : Shows S.program (S.function ∷ older) t counted
  counted-shows = temporaries-free S.program S.function older t g count (Number (int_wrap w8 n)) shows
      (byte-high (local_variables S.function) (level * 5))

  counted-keeps : Keeps (local_variables S.function) level g counted
  counted-keeps = (kept-by-change (local_variables S.function) level count (Number (int_wrap w8 n)) g).1
      (byte-above (local_variables S.function) (level * 5))

  count-at : number_at counted count ≡ Some (int_wrap w8 n)
  count-at = ap number_of (get-set_same g.current.variables count (Number (int_wrap w8 n))
      (variable-there S.program S.function older t g count One shows
      (temporary-width (context_of S) level ForByte room)))

  shifted-at : number_at counted x ≡ Some m
  shifted-at = ap number_of (get-set_other g.current.variables count x (Number (int_wrap w8 n))
      (apart-byte S level level x px (omega arith))) ∙ at_x

  abbrev low : Op
  low = op.Low count y

  shifted-works : (made_by : ℕ → Op) (f : ℤ → ℤ → ℤ) → f m (int_wrap w8 n) ≡ f m n
      → ((d : ℕ) → (is_turn (made_by d) ≡ false) × (marked (made_by d) ≡ None) × (is_end (made_by d) ≡ false))
      → ((program : GraphProgram) (u : graph.State) (d : ℕ) → act program u (made_by d)
      ≡ two_numbers program u d x count f)
      → Works S (S.function ∷ older) level (λ to. Emit low ∷ Emit (made_by to) ∷ []) before t g
      (Computes (HoldsNumber (f m n)))
  shifted-works made_by f same kind does =
      subst (λ (k : ℤ). Works S (S.function ∷ older) level (λ to. Emit low ∷ Emit (made_by to) ∷ []) before t g
      (Computes (HoldsNumber k))) same (
        counted,
        counted-shows,
        counted-keeps,
        λ to takes here. goes-both S t.turns t.turns t.turns g counted
            (with_value to.number (Number (f m (int_wrap w8 n))) counted)
            before (Emit low ∷ []) (Emit (made_by to.number) ∷ []) [] []
            (λ o r. one-step S site before g fits low count y (int_wrap w8) n t.turns o
            (stand-front S before (Emit low ∷ []) (Emit (made_by to.number) ∷ []) here) refl refl refl refl at_y r)
            (λ o r. two-step S site (before ++ Emit low ∷ []) counted fits (made_by to.number) to.number x count f m
            (int_wrap w8 n) t.turns o (stand-back S before (Emit low ∷ []) (Emit (made_by to.number) ∷ []) here)
            (kind to.number).0 (kind to.number).1 (kind to.number).2
            (does (graphs_of S) (behind (before ++ Emit low ∷ []) counted) to.number) shifted-at count-at r),
      )

  right-shift-works : (signed : Bool) → Works S (S.function ∷ older) level
      (λ to. Emit low ∷ Emit (if signed then op.Sar to x count else op.Shr to x count) ∷ []) before t g
      (number (if signed then shifted_right m (shift_count n) else shifted_unsigned m (shift_count n)))
  right-shift-works true = shifted-works (λ d. op.Sar d x count) (λ a b. shifted_right a (shift_count b))
      (ap (λ (k : ℕ). shifted_right m k) (bytes-count n)) (λ d. (refl, refl, refl)) (λ program u d. refl)
  right-shift-works false = shifted-works (λ d. op.Shr d x count) (λ a b. shifted_unsigned a (shift_count b))
      (ap (λ (k : ℕ). shifted_unsigned m k) (bytes-count n)) (λ d. (refl, refl, refl)) (λ program u d. refl)

  -- ---- every operator

  pub computing-works : (within : IntegerType) (operator : BinaryOp)
      → Works S (S.function ∷ older) level (λ to. computing (context_of S) level within operator to x y) before t g
      (numbers_value within operator m n)
  computing-works within Multiply = plain-works (λ d. op.Mul d x y) (λ a b. int_wrap w32 (a *ℤ b))
      (λ d. (refl, refl, refl)) (λ program u d. refl)
  computing-works within Divide = quotient-works (is_signed within)
  computing-works within Remainder = remainder-works (is_signed within)
  computing-works within Add = plain-works (λ d. op.Add d x y) (λ a b. int_wrap w32 (a +ℤ b))
      (λ d. (refl, refl, refl)) (λ program u d. refl)
  computing-works within Subtract = plain-works (λ d. op.Sub d x y) (λ a b. int_wrap w32 (a -ℤ b))
      (λ d. (refl, refl, refl)) (λ program u d. refl)
  computing-works within ShiftLeft = shifted-works (λ d. op.Shl d x count)
      (λ a b. int_wrap w32 (a *ℤ pos (2 ^ shift_count b)))
      (ap (λ (k : ℕ). int_wrap w32 (m *ℤ pos (2 ^ k))) (bytes-count n)) (λ d. (refl, refl, refl)) (λ program u d. refl)
  computing-works within ShiftRight = right-shift-works (is_signed within)
  computing-works within Less = set-works within Less (order_in within Lt order.Lt) refl
  computing-works within Greater = set-works within Greater (order_in within Gt order.Gt) refl
  computing-works within LessOrEqual = set-works within LessOrEqual (order_in within Le order.Le) refl
  computing-works within GreaterOrEqual = set-works within GreaterOrEqual (order_in within Ge order.Ge) refl
  computing-works within Equal = set-works within Equal (WithSigns Eq) refl
  computing-works within NotEqual = set-works within NotEqual (WithSigns Ne) refl
  computing-works within BitAnd = plain-works (λ d. op.And d x y) (int_bit_and w32) (λ d. (refl, refl, refl))
      (λ program u d. refl)
  computing-works within BitXor = plain-works (λ d. op.Xor d x y) (int_bit_xor w32) (λ d. (refl, refl, refl))
      (λ program u d. refl)
  computing-works within BitOr = plain-works (λ d. op.Or d x y) (int_bit_or w32) (λ d. (refl, refl, refl))
      (λ program u d. refl)
