-- What every state keeps stays after each op.
use Rattle.std.proofs.Common.{◌≡◌, ℕ, ◌+◌, ◌<◌, Bool, true, false, ℤ, pos, negsuc, List, [], ◌∷◌, ◌++◌, length, map}
use Rattle.std.proofs.Common.{replicate, Option, Some, None, refl, sym, ap, subst, arith, rules}
use Rattle.std.specs.Prelude.{◌==◌, FitsSigned, if◌then◌else◌, int_div, int_rem, slice_get}
use Rattle.std.specs.Int.{w8, w16, w32, int_wrap}
use Rattle.std.specs.List.{All}
use Rattle.std.proofs.Math.ListN.{length-replicate, length-set}
use Rattle.std.proofs.lemmas.Int.{SFits-int_wrap}
use Rattle.std.proofs.lemmas.List.Elements.{All-head, All-push, All-replicate, All-set, All-tail}
use Rattle.std.proofs.lemmas.Option.{none-some}
use Rattle.pcc_base.specs.Bytes.{AreBytes}
use Rattle.pcc_base.specs.Objects.{FitsBytes}
use Rattle.pcc_base.specs.Outcome.{ArrayName, Null, Static, InFrame, Unknown, Value, Number, Array, Trapped}
use Rattle.pcc_base.specs.declared.run.Trap.TheVariants.{Check, Divide}
use Rattle.pcc_base.specs.declared.run.Width.{Width}
use Rattle.pcc_base.specs.declared.run.Width.TheVariants.{One, Two}
use Rattle.flow_graph.specs.declared.op.Bits.{Bits}
use Rattle.flow_graph.specs.declared.op.Comparison.TheVariants.{Eq}
use Rattle.flow_graph.specs.declared.op.Op.{Op}
use Rattle.flow_graph.specs.declared.op.Op.TheVariants as op
use Rattle.flow_graph.specs.Graphs.{FitsOp, HasWidth, NumbersFit}
use Rattle.flow_graph.specs.Meaning.{Moved, Halts, Stuck, accessed, act, bytes_of, checked, clears, comparison}
use Rattle.flow_graph.specs.Meaning.{divided_unless, given, gets, gets_scalar, into_block, loads, low_byte, no_quotient}
use Rattle.flow_graph.specs.Meaning.{no_unsigned_quotient, of_width, one_number, onward, ordering, puts, puts_scalar}
use Rattle.flow_graph.specs.Meaning.{sets, shift_count, step, stored, stores, two_numbers, unsigned_quotient}
use Rattle.flow_graph.specs.Meaning.{unsigned_remainder}
use Rattle.flow_graph.specs.States.{Elements, GraphProgram, State, Waiting, active_of, depth_of, element_at}
use Rattle.flow_graph.specs.States.{elements_of, fitted, flow_at, array_at, number_at, op_at, value_at, width_of}
use Rattle.flow_graph.specs.States.{with_array, with_element}
use Rattle.flow_graph.specs.WellFormed.{AreElements, FitsWidth, IsGraphProgram, IsState, NamesWithin}
use Rattle.flow_graph.specs.WellFormed.{functions_of}
use Rattle.flow_graph.proofs.Lists.{All-at}
use Rattle.flow_graph.proofs.Numbers.{and-fits, byte-fits, byte-word, element-fits, extended-fits, half-word}
use Rattle.flow_graph.proofs.Numbers.{low_byte-below, not-fits, or-fits, quotient-fits, remainder-fits, shift-fits}
use Rattle.flow_graph.proofs.Numbers.{signed-fits, stored-fits, xor-fits, zero-element, zero-word}
use Rattle.flow_graph.proofs.Values.{number-is, op-at, value-fits}
use Rattle.flow_graph.proofs.Arrays.{elements-fit, frame-there, own-elements}
use Rattle.flow_graph.proofs.Calls.{calls-kept, returns-kept}
use Rattle.flow_graph.proofs.Changes.{Kept, array-kept, given-kept, into-kept, onward-kept, sets-kept, store}

-- the functions of the active calls
abbrev functions : State → List ℕ
functions s = functions_of (active_of s)

-- the width of a variable of the function that runs
abbrev Has : GraphProgram → State → ℕ → Width → Type 0
Has program s v width = HasWidth (flow_at program s.current.function) v width

-- a value in a variable fits
in-variable : (program : GraphProgram) (s : State) (v : ℕ) (width : Width) (value : Value) → IsState program s
    → Has program s v width → value_at s v ≡ Some value → FitsWidth program (functions s) width value
in-variable program s v width value i w e =
    value-fits program (functions_of (map (λ (u : Waiting). u.activation) s.waiting)) s.current v width value
    i.active.0 w e

-- and a number that is read of it
a-number : (program : GraphProgram) (s : State) (v : ℕ) (width : Width) (n : ℤ) → IsState program s
    → Has program s v width → number_at s v ≡ Some n → FitsWidth program (functions s) width (Number n)
a-number program s v width n i w e = in-variable program s v width (Number n) i w (number-is (value_at s v) n e)

-- onward with a value in a variable
a-value : (program : GraphProgram) (s : State) (d : ℕ) (width : Width) (value : Value) → IsState program s
    → Has program s d width → FitsWidth program (functions s) width value → Kept program (sets program s d value)
a-value program s d width value i w fits = sets-kept program s d width value (store program s i) w fits

-- ---- numbers

-- one operand
one-kept : (program : GraphProgram) (s : State) (d a : ℕ) (to from : Width) (f : ℤ → ℤ) → IsState program s
    → Has program s d to → Has program s a from
    → ((x : ℤ) → FitsWidth program (functions s) from (Number x) → FitsWidth program (functions s) to (Number (f x)))
    → Kept program (one_number program s d a f)
one-kept program s d a to from f i wd wa fits =
    given-kept program (number_at s a) _
    (λ x e. a-value program s d to (Number (f x)) i wd (fits x (a-number program s a from x i wa e)))

-- two operands, and a result of width Two
two-kept : (program : GraphProgram) (s : State) (d a b : ℕ) (from : Width) (f : ℤ → ℤ → ℤ) → IsState program s
    → Has program s d Two → Has program s a Two → Has program s b from
    → ((x y : ℤ) → FitsSigned w32 x → FitsSigned w32 (f x y)) → Kept program (two_numbers program s d a b f)
two-kept program s d a b from f i wd wa wb fits =
    given-kept program (number_at s a) _ (λ x e. given-kept program (number_at s b) _
    (λ y g. a-value program s d Two (Number (f x y)) i wd (fits x y (a-number program s a Two x i wa e))))

-- a division traps, or its result fits
divides-kept : (program : GraphProgram) (s : State) (d : ℕ) (n : ℤ) (refused : Bool) → IsState program s
    → Has program s d Two → (refused ≡ false → FitsSigned w32 n)
    → Kept program (if refused then Halts (Trapped Divide) else sets program s d (Number n))
divides-kept program s d n true i wd fits = tt
divides-kept program s d n false i wd fits = a-value program s d Two (Number n) i wd (fits refl)

divided-kept : (program : GraphProgram) (s : State) (traps : ℤ → ℤ → Bool) (d a b : ℕ) (f : ℤ → ℤ → ℤ)
    → IsState program s → Has program s d Two → Has program s a Two
    → ((x y : ℤ) → FitsSigned w32 x → traps x y ≡ false → FitsSigned w32 (f x y))
    → Kept program (divided_unless traps program s d a b f)
divided-kept program s traps d a b f i wd wa fits =
    given-kept program (number_at s a) _ (λ x e. given-kept program (number_at s b) _
    (λ y g. divides-kept program s d (f x y) (traps x y) i wd
    (fits x y (a-number program s a Two x i wa e))))

-- 1 or 0
truth-kept : (program : GraphProgram) (s : State) (d : ℕ) (holds : Bool) → IsState program s → Has program s d Two
    → Kept program (sets program s d (Number (if holds then pos 1 else pos 0)))
truth-kept program s d true i wd = a-value program s d Two (Number (pos 1)) i wd (byte-fits 1 (omega arith))
truth-kept program s d false i wd = a-value program s d Two (Number (pos 0)) i wd zero-word

-- a number as a variable of a width holds it
fitted-fits : (program : GraphProgram) (active : List ℕ) (width : Width) (n : ℤ) → FitsSigned w32 n
    → FitsWidth program active width (Number (fitted (Some width) n))
fitted-fits program active One n h = SFits-int_wrap w8 n
fitted-fits program active Two n h = h

const-kept : (program : GraphProgram) (s : State) (d : ℕ) (n : ℤ) (width : Width) → IsState program s
    → FitsSigned w32 n → Has program s d width
    → Kept program (sets program s d (Number (fitted (width_of program s d) n)))
const-kept program s d n width i h w =
    subst (λ (o : Option Width). Kept program (sets program s d (Number (fitted o n)))) (sym w)
    (a-value program s d width (Number (fitted (Some width) n)) i w (fitted-fits program (functions s) width n h))

-- ---- arrays

-- a number of an array that is read has 32 bits
checked-kept : (program : GraphProgram) (o : Option ℤ) (go : ℤ → Moved) → ((n : ℤ) → o ≡ Some n → Kept program (go n))
    → Kept program (checked o go)
checked-kept program None go h = tt
checked-kept program (Some n) go h = h n refl

width-kept : (program : GraphProgram) (same : Bool) (m : Moved) → (same ≡ true → Kept program m)
    → Kept program (if same then m else Stuck)
width-kept program true m h = h refl
width-kept program false m h = tt

-- the elements of an array have as many bytes as the op says
there-kept : (program : GraphProgram) (bits : Bits) (o : Option Elements) (go : List ℤ → Moved)
    → ((elements : List ℤ) → o ≡ Some (bytes_of bits, elements) → Kept program (go elements))
    → Kept program (given o (λ elements. of_width bits elements go))
there-kept program bits None go h = tt
there-kept program bits (Some array) go h =
    width-kept program (array.0 == bytes_of bits) (go array.1)
    (λ same. let e : array.0 ≡ bytes_of bits = search (rules, same) in
    h array.1 (ap (λ (n : ℕ). Some (n, array.1)) e))

accessed-kept : (program : GraphProgram) (s : State) (bits : Bits) (array : ArrayName) (go : List ℤ → Moved)
    → ((elements : List ℤ) → elements_of program s array ≡ Some (bytes_of bits, elements) → Kept program (go elements))
    → Kept program (accessed program s bits array go)
accessed-kept program s bits Null go h = tt
accessed-kept program s bits (Static k) go h = there-kept program bits (elements_of program s (Static k)) go h
accessed-kept program s bits (InFrame k depth) go h =
    there-kept program bits (elements_of program s (InFrame k depth)) go h
accessed-kept program s bits Unknown go h = there-kept program bits (elements_of program s Unknown) go h

-- an element of a list whose elements all fit
element-in : (P : ℤ → Type 0) (elements : List ℤ) (i n : ℤ) → All P elements → element_at elements i ≡ Some n → P n
element-in P elements (pos i) n h e = All-at P elements i n h e
element-in P elements (negsuc i) n h e = absurd (none-some n e)

-- with another element that fits, as many are there, and all fit
element-set : (width : ℕ) (elements : List ℤ) (i n : ℤ) → All (FitsBytes width) elements → FitsBytes width n
    → AreElements width (length elements) (with_element elements i n)
element-set width elements (pos i) n h fits =
    record { many = length-set elements i n; fit = All-set (FitsBytes width) elements i n fits h }
element-set width elements (negsuc i) n h fits = record { many = refl; fit = h }

loads-kept : (program : GraphProgram) (s : State) (bits : Bits) (d : ℕ) (array : ArrayName) (i : ℤ) → IsState program s
    → Has program s d Two → Kept program (loads program s bits d array i)
loads-kept program s bits d array i h wd =
    accessed-kept program s bits array _ (λ elements e. checked-kept program (element_at elements i) _
    (λ n at. a-value program s d Two (Number n) h wd
    (element-fits bits n (element-in (FitsBytes (bytes_of bits)) elements i n
    (elements-fit program s array (bytes_of bits) elements (store program s h) e) at))))

stores-kept : (program : GraphProgram) (s : State) (bits : Bits) (array : ArrayName) (i n : ℤ) → IsState program s
    → FitsSigned w32 n → Kept program (stores program s bits array i n)
stores-kept program s bits array i n h fits =
    accessed-kept program s bits array _ (λ elements e. checked-kept program (element_at elements i) _
    (λ old at. onward-kept program (with_array array (with_element elements i (stored bits n)) s)
    (array-kept program s array (bytes_of bits) elements (with_element elements i (stored bits n)) (store program s h) e
    (element-set (bytes_of bits) elements i (stored bits n)
    (elements-fit program s array (bytes_of bits) elements (store program s h) e) (stored-fits bits n fits)))))

gets_scalar-kept : (program : GraphProgram) (s : State) (bits : Bits) (d k : ℕ) → IsState program s
    → Has program s d Two → Kept program (gets_scalar program s bits d k)
gets_scalar-kept program s bits d k h wd =
    there-kept program bits (elements_of program s (Static k)) _
    (λ elements e. given-kept program (slice_get elements 0) _
    (λ n at. a-value program s d Two (Number n) h wd
    (element-fits bits n (All-at (FitsBytes (bytes_of bits)) elements 0 n
    (elements-fit program s (Static k) (bytes_of bits) elements (store program s h) e) at))))

puts_scalar-kept : (program : GraphProgram) (s : State) (bits : Bits) (k : ℕ) (n : ℤ) → IsState program s
    → FitsSigned w32 n → Kept program (puts_scalar program s bits k n)
puts_scalar-kept program s bits k n h fits =
    there-kept program bits (elements_of program s (Static k)) _
    (λ elements e. given-kept program (slice_get elements 0) _
    (λ old at. onward-kept program (with_array (Static k) (with_element elements (pos 0) (stored bits n)) s)
    (array-kept program s (Static k) (bytes_of bits) elements (with_element elements (pos 0) (stored bits n))
    (store program s h) e
    (element-set (bytes_of bits) elements (pos 0) (stored bits n)
    (elements-fit program s (Static k) (bytes_of bits) elements (store program s h) e) (stored-fits bits n fits)))))

-- a frame array of the youngest call becomes zero
clears-kept : (program : GraphProgram) (s : State) (k : ℕ) → IsState program s → Kept program (clears program s k)
clears-kept program s k i =
    given-kept program (slice_get s.current.arrays k) _
    (λ elements e. let (width, there) = own-elements program s k elements (store program s i) e in
    let zeros = replicate (length elements) (pos 0) in
    onward-kept program (with_array (InFrame k (depth_of s)) zeros s)
    (array-kept program s (InFrame k (depth_of s)) width elements zeros (store program s i) there (record {
      many = length-replicate (length elements) (pos 0);
      fit = All-replicate (FitsBytes width) (length elements) (pos 0) (zero-element width);
    })))

-- ---- the outside

puts-kept : (program : GraphProgram) (s : State) (d : ℕ) (n : ℤ) → IsState program s → Has program s d Two
    → Kept program (puts program s d n)
puts-kept program s d n i wd =
    sets-kept program (record s { written = s.written ++ low_byte n ∷ [] }) d Two (Number (pos (low_byte n))) (record {
      active = i.active;
      waiting = i.waiting;
      few = i.few;
      objects = i.objects;
      left = i.left;
      written = All-push (λ byte. byte < 256) s.written (low_byte n) i.written (low_byte-below n);
    }) wd (byte-fits (low_byte n) (low_byte-below n))

gets-kept : (program : GraphProgram) (s : State) (d : ℕ) (bytes : List ℕ) → IsState program s → Has program s d Two
    → AreBytes bytes → Kept program (gets program s d bytes)
gets-kept program s d [] i wd h = a-value program s d Two (Number (negsuc 0)) i wd (record { sfits = omega arith })
gets-kept program s d (byte ∷ bytes) i wd h =
    let below : byte < 256 = All-head (λ b. b < 256) byte bytes h in
    sets-kept program (record s { left = bytes; taken = s.taken + 1 }) d Two (Number (pos byte)) (record {
      active = i.active;
      waiting = i.waiting;
      few = i.few;
      objects = i.objects;
      left = All-tail (λ b. b < 256) byte bytes h;
      written = i.written;
    }) wd (byte-fits byte below)

-- ---- the ops

both-ways : (program : GraphProgram) (s : State) (holds : Bool) (x y : ℕ) → IsState program s
    → Kept program (into_block program (if holds then x else y) s)
both-ways program s holds x y i = into-kept program s (if holds then x else y) (store program s i)

same-kept : (program : GraphProgram) (s : State) (holds : Bool) → IsState program s
    → Kept program (if holds then onward program s else Halts (Trapped Check))
same-kept program s true i = onward-kept program s (store program s i)
same-kept program s false i = tt

act-kept : (program : GraphProgram) (s : State) (o : Op) → IsGraphProgram program → IsState program s
    → op_at program s ≡ Some o → FitsOp (flow_at program s.current.function) o
    → NamesWithin (length program.functions) (length program.objects) o → NumbersFit o → Kept program (act program s o)
act-kept program s (op.Const d n) h i at met names word = const-kept program s d n met.0.0 i word met.0.1
act-kept program s (op.Copy d a) h i at met names word =
    given-kept program (value_at s a) _
    (λ value e. a-value program s d met.0.0 value i met.0.1 (in-variable program s a met.0.0 value i met.0.2 e))
act-kept program s (op.Wide d a) h i at met names word =
    one-kept program s d a Two One (λ n. n) i met.0 met.1.0 byte-word
act-kept program s (op.Zero d a) h i at met names word =
    one-kept program s d a Two One _ i met.0 met.1.0 (λ x fits. extended-fits x)
act-kept program s (op.Low d a) h i at met names word =
    one-kept program s d a One Two _ i met.0 met.1.0 (λ x fits. SFits-int_wrap w8 x)
act-kept program s (op.Low16 d a) h i at met names word =
    one-kept program s d a Two Two _ i met.0 met.1.0 (λ x fits. half-word (int_wrap w16 x) (SFits-int_wrap w16 x))
act-kept program s (op.Neg d a) h i at met names word =
    one-kept program s d a Two Two _ i met.0 met.1.0 (λ x fits. SFits-int_wrap w32 _)
act-kept program s (op.Not d a) h i at met names word =
    one-kept program s d a Two Two _ i met.0 met.1.0 (λ x fits. not-fits x)
act-kept program s (op.Add d a b) h i at met names word =
    two-kept program s d a b Two _ i met.0 met.1.0 met.1.1.0 (λ x y fits. SFits-int_wrap w32 _)
act-kept program s (op.Sub d a b) h i at met names word =
    two-kept program s d a b Two _ i met.0 met.1.0 met.1.1.0 (λ x y fits. SFits-int_wrap w32 _)
act-kept program s (op.Mul d a b) h i at met names word =
    two-kept program s d a b Two _ i met.0 met.1.0 met.1.1.0 (λ x y fits. SFits-int_wrap w32 _)
act-kept program s (op.And d a b) h i at met names word =
    two-kept program s d a b Two _ i met.0 met.1.0 met.1.1.0 (λ x y fits. and-fits x y)
act-kept program s (op.Or d a b) h i at met names word =
    two-kept program s d a b Two _ i met.0 met.1.0 met.1.1.0 (λ x y fits. or-fits x y)
act-kept program s (op.Xor d a b) h i at met names word =
    two-kept program s d a b Two _ i met.0 met.1.0 met.1.1.0 (λ x y fits. xor-fits x y)
act-kept program s (op.Shl d a c) h i at met names word =
    two-kept program s d a c One _ i met.0 met.1.0 met.1.1.0 (λ x y fits. SFits-int_wrap w32 _)
act-kept program s (op.Sar d a c) h i at met names word =
    two-kept program s d a c One _ i met.0 met.1.0 met.1.1.0 (λ x y fits. shift-fits x (shift_count y) fits)
act-kept program s (op.Shr d a c) h i at met names word =
    two-kept program s d a c One _ i met.0 met.1.0 met.1.1.0 (λ x y fits. signed-fits _)
act-kept program s (op.Div d a b) h i at met names word =
    divided-kept program s no_quotient d a b int_div i met.0 met.1.0
    (λ x y fits there. quotient-fits x y fits there)
act-kept program s (op.Rem d a b) h i at met names word =
    divided-kept program s no_quotient d a b int_rem i met.0 met.1.0 (λ x y fits there. remainder-fits x y fits)
act-kept program s (op.Udiv d a b) h i at met names word =
    divided-kept program s no_unsigned_quotient d a b unsigned_quotient i met.0 met.1.0
    (λ x y fits there. signed-fits _)
act-kept program s (op.Urem d a b) h i at met names word =
    divided-kept program s no_unsigned_quotient d a b unsigned_remainder i met.0 met.1.0
    (λ x y fits there. signed-fits _)
act-kept program s (op.Set how d a b) h i at met names word =
    given-kept program (comparison how s a b) _ (λ holds e. truth-kept program s d holds i met.0)
act-kept program s (op.Setu how d a b) h i at met names word =
    given-kept program (ordering how s a b) _ (λ holds e. truth-kept program s d holds i met.0)
act-kept program s (op.Frame d k) h i at met names word =
    a-value program s d Two (Array (InFrame k (depth_of s))) i met.0 (frame-there program s k met.1.0)
act-kept program s (op.Static d k) h i at met names word = a-value program s d Two (Array (Static k)) i met.0 names
act-kept program s (op.Load bits d p j) h i at met names word =
    given-kept program (array_at s p) _ (λ array e. given-kept program (number_at s j) _
    (λ index g. loads-kept program s bits d array index i met.0))
act-kept program s (op.Store bits p j a) h i at met names word =
    given-kept program (array_at s p) _ (λ array e. given-kept program (number_at s j) _
    (λ index g. given-kept program (number_at s a) _
    (λ n f. stores-kept program s bits array index n i (a-number program s a Two n i met.1.1.0 f))))
act-kept program s (op.Get bits d k) h i at met names word = gets_scalar-kept program s bits d k i met.0
act-kept program s (op.Put bits k a) h i at met names word =
    given-kept program (number_at s a) _
    (λ n e. puts_scalar-kept program s bits k n i (a-number program s a Two n i met.0 e))
act-kept program s (op.Clear k) h i at met names word = clears-kept program s k i
act-kept program s (op.Param d k) h i at met names word =
    given-kept program (slice_get s.current.arguments k) _
    (λ value e. a-value program s d Two value i met.0
    (All-at (FitsWidth program (functions s) Two) s.current.arguments k value i.active.0.arguments e))
act-kept program s (op.Call d f words) h i at met names word = calls-kept program s d f words i names at met
act-kept program s (op.Putchar d a) h i at met names word =
    given-kept program (number_at s a) _ (λ n e. puts-kept program s d n i met.0)
act-kept program s (op.Getchar d) h i at met names word = gets-kept program s d s.left i met.0 i.left
act-kept program s (op.Exit a) h i at met names word = given-kept program (number_at s a) _ (λ n e. tt)
act-kept program s (op.Same a b) h i at met names word =
    given-kept program (comparison Eq s a b) _ (λ holds e. same-kept program s holds i)
act-kept program s (op.Mark statement) h i at met names word = onward-kept program s (store program s i)
act-kept program s op.Turn h i at met names word = onward-kept program s (store program s i)
act-kept program s (op.Jump x) h i at met names word = into-kept program s x (store program s i)
act-kept program s (op.Branch how a b x y) h i at met names word =
    given-kept program (comparison how s a b) _ (λ holds e. both-ways program s holds x y i)
act-kept program s (op.Branchu how a b x y) h i at met names word =
    given-kept program (ordering how s a b) _ (λ holds e. both-ways program s holds x y i)
act-kept program s (op.Return (Some a)) h i at met names word =
    given-kept program (number_at s a) _
    (λ n e. returns-kept program s (Some n) h i (a-number program s a Two n i met.0 e))
act-kept program s (op.Return None) h i at met names word = returns-kept program s None h i tt

-- one step
pub step-kept : (program : GraphProgram) (s : State) → IsGraphProgram program → IsState program s
    → Kept program (step program s)
step-kept program s h i =
    let at = op-at program s.current.function s.point s.block h i.active.0.function i.placed in
    subst (λ (o : Option Op). Kept program (given o (act program s))) (sym at.there)
    (act-kept program s at.op h i at.there at.fits at.names at.word)
