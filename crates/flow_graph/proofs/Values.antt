-- What variables, arrays and programs have, read off what a state keeps.
use Rattle.std.proofs.Common.{◌≡◌, ℕ, suc, ◌-◌, ◌<◌, ℤ, List, [], ◌∷◌, length, map, Option, Some, None, inl, inr, refl}
use Rattle.std.proofs.Common.{ap, subst, ◌∙◌, arith}
use Rattle.std.specs.Prelude.{FitsSigned, slice_get}
use Rattle.std.specs.Int.{w8, w32}
use Rattle.std.specs.List.{All, AllByRecursion}
use Rattle.std.proofs.lemmas.List.Elements.{All-cons, All-nil}
use Rattle.std.proofs.lemmas.Option.{none-some, same_Some}
use Rattle.pcc_base.specs.Outcome.{Null, Static, InFrame, Unknown, Value, Number, Array}
use Rattle.pcc_base.specs.declared.run.Width.{Width}
use Rattle.pcc_base.specs.declared.run.Width.TheVariants.{One, Two}
use Rattle.pcc_base.proofs.Lists.{all-at}
use Rattle.flow_graph.specs.declared.op.Op.{Op}
use Rattle.flow_graph.specs.Graphs.{FitsOp, NumbersFit, empty_flow, HasFittingOp, HasWidth, IsIn, IsMet, Stands}
use Rattle.flow_graph.specs.Graphs.{points_of}
use Rattle.flow_graph.specs.Shapes.{two}
use Rattle.flow_graph.specs.Meaning.{one_more, values_at}
use Rattle.flow_graph.specs.States.{Activation, GraphProgram, State, flow_at, number_of, op_of, value_at}
use Rattle.flow_graph.specs.WellFormed.{FitsWidth, HasFrameArray, IsActivation, IsGraph, IsGraphProgram}
use Rattle.flow_graph.specs.WellFormed.{NamesWithin}
use Rattle.flow_graph.proofs.Lists.{All-at, zip-at}

-- ---- programs

-- what holds of each point of a list holds of one
every-point : (P : ℕ → Type 0) (p : ℕ) (ps : List ℕ) → AllByRecursion P ps → IsIn p ps → P p
every-point P p [] h i = absurd i
every-point P p (q ∷ ps) h i = elim i [ inl e ↦ subst P e h.0 | inr j ↦ every-point P p ps h.1 j ]

pub graph-of : (program : GraphProgram) (f : ℕ) → IsGraphProgram program → f < length program.functions
    → IsGraph (length program.functions) (length program.objects) (flow_at program f)
graph-of program f h lt = h.functions f empty_flow lt

-- what is known of the op of a point of a block
pub record IsOpAt (program : GraphProgram) (f point : ℕ) : Type 0 where
  pub op : Op
  pub there : op_of program f point ≡ Some op
  pub fits : FitsOp (flow_at program f) op
  pub names : NamesWithin (length program.functions) (length program.objects) op
  pub word : NumbersFit op

pub op-at : (program : GraphProgram) (f point block : ℕ) → IsGraphProgram program → f < length program.functions
    → Stands (flow_at program f) point block → IsOpAt program f point
op-at program f point block h lt stands =
    let g = graph-of program f h lt in
    let flow = flow_at program f in
    let m : HasFittingOp flow point =
    every-point (HasFittingOp flow) point (points_of flow block) (g.keeps.1.each_block block).fits stands in
    record {
      op = m.0;
      there = m.1;
      fits = m.2;
      names = All-at (NamesWithin (length program.functions) (length program.objects)) flow.ops point m.0 g.names m.1;
      word = all-at NumbersFit flow.ops point m.0 g.keeps.1.numbers m.1;
    }

-- ---- variables

-- a value in a variable fits the variable's width
pub value-fits : (program : GraphProgram) (older : List ℕ) (a : Activation) (v : ℕ) (width : Width) (value : Value)
    → IsActivation program older a → HasWidth (flow_at program a.function) v width
    → slice_get a.variables v ≡ Some value
    → FitsWidth program (a.function ∷ older) width value
value-fits program older a v width value h w e =
    zip-at (FitsWidth program (a.function ∷ older))
    (flow_at program a.function).widths a.variables v width value h.variables w e

-- where a number is read, it is the value
pub number-is : (o : Option Value) (n : ℤ) → number_of o ≡ Some n → o ≡ Some (Number n)
number-is None n e = absurd (none-some n e)
number-is (Some (Number m)) n e = ap (λ (k : ℤ). Some (Number k)) (same_Some m n e)
number-is (Some (Array a)) n e = absurd (none-some n e)

-- a number in a variable of width Two has 32 bits
pub word-fits : (program : GraphProgram) (older : List ℕ) (a : Activation) (v : ℕ) (n : ℤ)
    → IsActivation program older a
    → HasWidth (flow_at program a.function) v Two → number_of (slice_get a.variables v) ≡ Some n → FitsSigned w32 n
word-fits program older a v n h w e =
    value-fits program older a v Two (Number n) h w (number-is (slice_get a.variables v) n e)

-- one in a variable of width One has 8
pub byte-fits : (program : GraphProgram) (older : List ℕ) (a : Activation) (v : ℕ) (n : ℤ)
    → IsActivation program older a
    → HasWidth (flow_at program a.function) v One → number_of (slice_get a.variables v) ≡ Some n → FitsSigned w8 n
byte-fits program older a v n h w e =
    value-fits program older a v One (Number n) h w (number-is (slice_get a.variables v) n e)

-- ---- argument words

-- the values of words, one more in front
record IsMore (o : Option Value) (p : Option (List Value)) (values : List Value) : Type 0 where
  first : Value
  rest : List Value
  is_first : o ≡ Some first
  is_rest : p ≡ Some rest
  whole : first ∷ rest ≡ values

more : (o : Option Value) (p : Option (List Value)) (values : List Value) → one_more o p ≡ Some values
    → IsMore o p values
more None p values e = absurd (none-some values e)
more (Some x) None values e = absurd (none-some values e)
more (Some x) (Some xs) values e =
    record { first = x; rest = xs; is_first = refl; is_rest = refl; whole = same_Some (x ∷ xs) values e }

-- the values that are passed are those of the words
pub words-pass : (s : State) (words : List ℕ) (values : List Value) → values_at s words ≡ Some values
    → map (slice_get s.current.variables) words ≡ map Some values
words-pass s [] values e = ap (map Some) (same_Some [] values e)
words-pass s (v ∷ vs) values e =
    let m = more (value_at s v) (values_at s vs) values e in
    let tail = words-pass s vs m.rest m.is_rest in
    let head = m.is_first in
    ap (λ (o : Option Value). o ∷ map (slice_get s.current.variables) vs) head
    ∙ ap (λ (os : List (Option Value)). Some m.first ∷ os) tail ∙ ap (map Some) m.whole

-- ---- arrays that are there

-- a frame array of an active call is there for a younger call
frame-younger : (program : GraphProgram) (active : List ℕ) (f k depth : ℕ) → HasFrameArray program active k depth
    → HasFrameArray program (f ∷ active) k depth
frame-younger program active f k depth (one, old, g, at, has) =
    let place : suc (length active - depth) ≡ suc (length active) - depth = omega (arith, old) in
    (one, omega (arith, old), g, subst (λ (i : ℕ). slice_get (f ∷ active) i ≡ Some g) place at, has)

-- what fits an active call fits a younger one
pub younger : (program : GraphProgram) (active : List ℕ) (f : ℕ) (width : Width) (value : Value)
    → FitsWidth program active width value → FitsWidth program (f ∷ active) width value
younger program active f One (Number n) h = h
younger program active f One (Array a) h = absurd h
younger program active f Two (Number n) h = h
younger program active f Two (Array Null) h = absurd h
younger program active f Two (Array (Static k)) h = h
younger program active f Two (Array (InFrame k depth)) h = frame-younger program active f k depth h
younger program active f Two (Array Unknown) h = absurd h

-- a frame array of the youngest call is there
pub own-array : (program : GraphProgram) (older : List ℕ) (f k : ℕ) → k < length (flow_at program f).arrays
    → HasFrameArray program (f ∷ older) k (suc (length older))
own-array program older f k lt =
    let here : 0 ≡ suc (length older) - suc (length older) = omega arith in
    (omega arith, omega arith, f, subst (λ (i : ℕ). slice_get (f ∷ older) i ≡ Some f) here refl, lt)

-- argument words that are passed fit
pub words-fit : (program : GraphProgram) (older : List ℕ) (s : State) (words : List ℕ) (values : List Value)
    → IsActivation program older s.current → AllByRecursion (IsMet (flow_at program s.current.function)) (map two words)
    → values_at s words ≡ Some values → All (FitsWidth program (s.current.function ∷ older) Two) values
words-fit program older s [] values h met e =
    subst (All (FitsWidth program (s.current.function ∷ older) Two)) (same_Some [] values e) (All-nil _)
words-fit program older s (v ∷ vs) values h met e =
    let P = FitsWidth program (s.current.function ∷ older) Two in
    let m = more (value_at s v) (values_at s vs) values e in
    let first : P m.first = value-fits program older s.current v Two m.first h met.0 m.is_first in
    subst (All P) m.whole (All-cons P m.first m.rest first (words-fit program older s vs m.rest h met.1 m.is_rest))
