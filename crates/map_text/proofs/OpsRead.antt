-- The words of an op are plain, and read as the op.
use Rattle.std.proofs.Common.{◌≡◌, ℕ, ℤ, false, List, [], ◌∷◌, codes, decimal}
use Rattle.std.proofs.Common.{bytes_eq, Option, Some, option_map, refl, ap, w32, FitsSigned}
use Rattle.std.specs.List.{AllByRecursion}
use Rattle.flow_graph.specs.declared.op.Bits.{Bits}
use Rattle.flow_graph.specs.declared.op.Comparison.{Comparison}
use Rattle.flow_graph.specs.declared.op.Order.{Order}
use Rattle.flow_graph.specs.declared.op.Op.{Op}
use Rattle.flow_graph.specs.declared.op.Op.TheVariants as op
use Rattle.map_text.specs.Fields.{number_in}
use Rattle.map_text.specs.Words.{op_words}
use Rattle.map_text.specs.Maps.{IsNumber}
use Rattle.map_text.specs.Reading.{call_in, op_by, op_in, op_of_one, op_of_two, op_of_three, op_with_one, op_with_two}
use Rattle.map_text.specs.Reading.{op_with_three, op_with_four, op_with_five}
use Rattle.map_text.proofs.FieldsRead.{all-read, bits-read, comparison-read, if-any-read, order-read}
use Rattle.map_text.proofs.LineRules.{IsAnyNumber}
use Rattle.map_text.proofs.Numbers.{number-read, signed-read}

-- the numbers of an op are of 32 bits
abbrev pub IsOpText : Op → Type 0
IsOpText (op.Const d n) = IsNumber d × FitsSigned w32 n
IsOpText (op.Copy a b) = IsNumber a × IsNumber b
IsOpText (op.Wide a b) = IsNumber a × IsNumber b
IsOpText (op.Zero a b) = IsNumber a × IsNumber b
IsOpText (op.Low a b) = IsNumber a × IsNumber b
IsOpText (op.Low16 a b) = IsNumber a × IsNumber b
IsOpText (op.Neg a b) = IsNumber a × IsNumber b
IsOpText (op.Not a b) = IsNumber a × IsNumber b
IsOpText (op.Add d a b) = IsNumber d × IsNumber a × IsNumber b
IsOpText (op.Sub d a b) = IsNumber d × IsNumber a × IsNumber b
IsOpText (op.Mul d a b) = IsNumber d × IsNumber a × IsNumber b
IsOpText (op.And d a b) = IsNumber d × IsNumber a × IsNumber b
IsOpText (op.Or d a b) = IsNumber d × IsNumber a × IsNumber b
IsOpText (op.Xor d a b) = IsNumber d × IsNumber a × IsNumber b
IsOpText (op.Shl d a b) = IsNumber d × IsNumber a × IsNumber b
IsOpText (op.Sar d a b) = IsNumber d × IsNumber a × IsNumber b
IsOpText (op.Shr d a b) = IsNumber d × IsNumber a × IsNumber b
IsOpText (op.Div d a b) = IsNumber d × IsNumber a × IsNumber b
IsOpText (op.Rem d a b) = IsNumber d × IsNumber a × IsNumber b
IsOpText (op.Udiv d a b) = IsNumber d × IsNumber a × IsNumber b
IsOpText (op.Urem d a b) = IsNumber d × IsNumber a × IsNumber b
IsOpText (op.Set how d a b) = IsNumber d × IsNumber a × IsNumber b
IsOpText (op.Setu how d a b) = IsNumber d × IsNumber a × IsNumber b
IsOpText (op.Frame d k) = IsNumber d × IsNumber k
IsOpText (op.Static d k) = IsNumber d × IsNumber k
IsOpText (op.Load bits d p i) = IsNumber d × IsNumber p × IsNumber i
IsOpText (op.Store bits p i s) = IsNumber p × IsNumber i × IsNumber s
IsOpText (op.Get bits d k) = IsNumber d × IsNumber k
IsOpText (op.Put bits k s) = IsNumber k × IsNumber s
IsOpText (op.Clear k) = IsNumber k
IsOpText (op.Param d k) = IsNumber d × IsNumber k
IsOpText (op.Call d f arguments) = IsAnyNumber d × IsNumber f × AllByRecursion IsNumber arguments
IsOpText (op.Putchar d s) = IsNumber d × IsNumber s
IsOpText (op.Getchar d) = IsNumber d
IsOpText (op.Exit s) = IsNumber s
IsOpText (op.Same a b) = IsNumber a × IsNumber b
IsOpText (op.Mark s) = IsNumber s
IsOpText op.Turn = Unit {0}
IsOpText (op.Jump x) = IsNumber x
IsOpText (op.Branch how a b x y) = IsNumber a × IsNumber b × IsNumber x × IsNumber y
IsOpText (op.Branchu how a b x y) = IsNumber a × IsNumber b × IsNumber x × IsNumber y
IsOpText (op.Return a) = IsAnyNumber a

-- ---- ops by their parts

one-read : (w : List ℕ) → bytes_eq w (codes "call") ≡ false → bytes_eq w (codes "return") ≡ false → (a : ℕ)
    → IsNumber a → op_in (w ∷ decimal a ∷ []) ≡ op_of_one w a
unfolding op_in op_by op_with_one
one-read w no-call no-return a na = rw (no-call, no-return, number-read a na) refl

two-read : (w : List ℕ) → bytes_eq w (codes "call") ≡ false → bytes_eq w (codes "const") ≡ false → (a b : ℕ)
    → IsNumber a × IsNumber b → op_in (w ∷ decimal a ∷ decimal b ∷ []) ≡ op_of_two w a b
unfolding op_in op_by op_with_two
two-read w no-call no-const a b ok = rw (no-call, no-const, number-read a ok.0, number-read b ok.1) refl

three-read : (w : List ℕ) → bytes_eq w (codes "call") ≡ false → bytes_eq w (codes "get") ≡ false
    → bytes_eq w (codes "put") ≡ false → (a b c : ℕ) → IsNumber a × IsNumber b × IsNumber c
    → op_in (w ∷ decimal a ∷ decimal b ∷ decimal c ∷ []) ≡ op_of_three w a b c
unfolding op_in op_by op_with_three
three-read w no-call no-get no-put a b c ok =
    rw (no-call, no-get, no-put, number-read a ok.0, number-read b ok.1, number-read c ok.2) refl

const-read : (d : ℕ) (n : ℤ) → IsOpText (op.Const d n) → op_in (op_words (op.Const d n)) ≡ Some (op.Const d n)
unfolding op_in op_by op_with_two
const-read d n ok = rw (number-read d ok.0, signed-read n ok.1) refl

get-read : (bits : Bits) (d k : ℕ) → IsOpText (op.Get bits d k) → op_in (op_words (op.Get bits d k))
    ≡ Some (op.Get bits d k)
unfolding op_in op_by op_with_three
get-read bits d k ok = rw (bits-read bits, number-read d ok.0, number-read k ok.1) refl

put-read : (bits : Bits) (k s : ℕ) → IsOpText (op.Put bits k s) → op_in (op_words (op.Put bits k s))
    ≡ Some (op.Put bits k s)
unfolding op_in op_by op_with_three
put-read bits k s ok = rw (bits-read bits, number-read k ok.0, number-read s ok.1) refl

set-read : (how : Comparison) (d a b : ℕ) → IsOpText (op.Set how d a b) → op_in (op_words (op.Set how d a b))
    ≡ Some (op.Set how d a b)
unfolding op_in op_by op_with_four
set-read how d a b ok =
    rw (comparison-read how, number-read d ok.0, number-read a ok.1, number-read b ok.2) refl

setu-read : (how : Order) (d a b : ℕ) → IsOpText (op.Setu how d a b) → op_in (op_words (op.Setu how d a b))
    ≡ Some (op.Setu how d a b)
unfolding op_in op_by op_with_four
setu-read how d a b ok =
    rw (order-read how, number-read d ok.0, number-read a ok.1, number-read b ok.2) refl

load-read : (bits : Bits) (d p i : ℕ) → IsOpText (op.Load bits d p i) → op_in (op_words (op.Load bits d p i))
    ≡ Some (op.Load bits d p i)
unfolding op_in op_by op_with_four
load-read bits d p i ok = rw (bits-read bits, number-read d ok.0, number-read p ok.1, number-read i ok.2) refl

store-read : (bits : Bits) (p i s : ℕ) → IsOpText (op.Store bits p i s) → op_in (op_words (op.Store bits p i s))
    ≡ Some (op.Store bits p i s)
unfolding op_in op_by op_with_four
store-read bits p i s ok = rw (bits-read bits, number-read p ok.0, number-read i ok.1, number-read s ok.2) refl

branch-read : (how : Comparison) (a b x y : ℕ) → IsOpText (op.Branch how a b x y)
    → op_in (op_words (op.Branch how a b x y)) ≡ Some (op.Branch how a b x y)
unfolding op_in op_by op_with_five
branch-read how a b x y ok =
    rw (
      comparison-read how,
      number-read a ok.0,
      number-read b ok.1,
      number-read x ok.2,
      number-read y ok.3,
    ) refl

branchu-read : (how : Order) (a b x y : ℕ) → IsOpText (op.Branchu how a b x y)
    → op_in (op_words (op.Branchu how a b x y)) ≡ Some (op.Branchu how a b x y)
unfolding op_in op_by op_with_five
branchu-read how a b x y ok =
    rw (
      order-read how,
      number-read a ok.0,
      number-read b ok.1,
      number-read x ok.2,
      number-read y ok.3,
    ) refl

call-read : (d : Option ℕ) (f : ℕ) (words : List ℕ) → IsOpText (op.Call d f words)
    → op_in (op_words (op.Call d f words)) ≡ Some (op.Call d f words)
unfolding op_in call_in
call-read d f words ok =
    rw (
      if-any-read d ok.0,
      number-read f ok.1,
      all-read number_in decimal IsNumber number-read words ok.2,
    ) refl

return-read : (a : Option ℕ) → IsAnyNumber a → op_in (op_words (op.Return a)) ≡ Some (op.Return a)
unfolding op_in op_by op_with_one
return-read a ok = ap (option_map op.Return) (if-any-read a ok)

turn-read : op_in (op_words op.Turn) ≡ Some op.Turn
unfolding op_in op_by
turn-read = refl

-- ---- every op

pub op-read : (o : Op) → IsOpText o → op_in (op_words o) ≡ Some o
unfolding op_of_one op_of_two op_of_three
op-read (op.Const d n) ok = const-read d n ok
op-read (op.Copy a b) ok = two-read (codes "copy") refl refl a b ok
op-read (op.Wide a b) ok = two-read (codes "wide") refl refl a b ok
op-read (op.Zero a b) ok = two-read (codes "zero") refl refl a b ok
op-read (op.Low a b) ok = two-read (codes "low") refl refl a b ok
op-read (op.Low16 a b) ok = two-read (codes "low16") refl refl a b ok
op-read (op.Neg a b) ok = two-read (codes "neg") refl refl a b ok
op-read (op.Not a b) ok = two-read (codes "not") refl refl a b ok
op-read (op.Add d a b) ok = three-read (codes "add") refl refl refl d a b ok
op-read (op.Sub d a b) ok = three-read (codes "sub") refl refl refl d a b ok
op-read (op.Mul d a b) ok = three-read (codes "mul") refl refl refl d a b ok
op-read (op.And d a b) ok = three-read (codes "and") refl refl refl d a b ok
op-read (op.Or d a b) ok = three-read (codes "or") refl refl refl d a b ok
op-read (op.Xor d a b) ok = three-read (codes "xor") refl refl refl d a b ok
op-read (op.Shl d a b) ok = three-read (codes "shl") refl refl refl d a b ok
op-read (op.Sar d a b) ok = three-read (codes "sar") refl refl refl d a b ok
op-read (op.Shr d a b) ok = three-read (codes "shr") refl refl refl d a b ok
op-read (op.Div d a b) ok = three-read (codes "div") refl refl refl d a b ok
op-read (op.Rem d a b) ok = three-read (codes "rem") refl refl refl d a b ok
op-read (op.Udiv d a b) ok = three-read (codes "udiv") refl refl refl d a b ok
op-read (op.Urem d a b) ok = three-read (codes "urem") refl refl refl d a b ok
op-read (op.Set how d a b) ok = set-read how d a b ok
op-read (op.Setu how d a b) ok = setu-read how d a b ok
op-read (op.Frame d k) ok = two-read (codes "frame") refl refl d k ok
op-read (op.Static d k) ok = two-read (codes "static") refl refl d k ok
op-read (op.Load bits d p i) ok = load-read bits d p i ok
op-read (op.Store bits p i s) ok = store-read bits p i s ok
op-read (op.Get bits d k) ok = get-read bits d k ok
op-read (op.Put bits k s) ok = put-read bits k s ok
op-read (op.Clear k) ok = one-read (codes "clear") refl refl k ok
op-read (op.Param d k) ok = two-read (codes "param") refl refl d k ok
op-read (op.Call d f words) ok = call-read d f words ok
op-read (op.Putchar d s) ok = two-read (codes "putchar") refl refl d s ok
op-read (op.Getchar d) ok = one-read (codes "getchar") refl refl d ok
op-read (op.Exit s) ok = one-read (codes "exit") refl refl s ok
op-read (op.Same a b) ok = two-read (codes "same") refl refl a b ok
op-read (op.Mark s) ok = one-read (codes "mark") refl refl s ok
op-read op.Turn ok = turn-read
op-read (op.Jump x) ok = one-read (codes "jump") refl refl x ok
op-read (op.Branch how a b x y) ok = branch-read how a b x y ok
op-read (op.Branchu how a b x y) ok = branchu-read how a b x y ok
op-read (op.Return a) ok = return-read a ok
