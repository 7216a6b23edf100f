-- What an op writes and reads it asks for: so these variables are there, where the op fits.
use Rattle.std.proofs.Common.{◌≡◌, ℕ, List, [], ◌∷◌, map, Some, None, subst}
use Rattle.std.specs.List.{AllByRecursion}
use Rattle.std.proofs.lemmas.Option.{none-some, same_Some}
use Rattle.pcc_base.specs.declared.run.Width.{Width}
use Rattle.pcc_base.specs.declared.run.Width.TheVariants.{One, Two}
use Rattle.flow_graph.specs.declared.op.Op.{Op}
use Rattle.flow_graph.specs.declared.op.Op.TheVariants as op
use Rattle.flow_graph.specs.Graphs.{FitsOp, Flow, HasWidth, IsMet}
use Rattle.flow_graph.specs.Shapes.{About, Gives, Shape, branches, divides, one_word, shape, shifts, two, two_words}
use Rattle.flow_graph.specs.Shapes.{word_about, word_of_byte}

-- the graph has the variable
abbrev pub HasVariable : Flow → ℕ → Type 0
HasVariable flow v = (width : Width) × HasWidth flow v width

-- what a shape writes and reads is there
pub record HasAll (flow : Flow) (s : Shape) : Type 0 where
  pub written : (v : ℕ) → s.writes ≡ Some v → HasVariable flow v
  pub read : AllByRecursion (HasVariable flow) s.reads

-- ---- shapes

there : (flow : Flow) (d : ℕ) (width : Width) → HasWidth flow d width → (v : ℕ) → Some d ≡ Some v → HasVariable flow v
there flow d width h v e = (width, subst (λ (n : ℕ). HasWidth flow n width) (same_Some d v e) h)

nowhere : (flow : Flow) (v : ℕ) → None ≡ Some v → HasVariable flow v
nowhere flow v e = absurd (none-some v e)

word-has : (flow : Flow) (d : ℕ) (about : About) → AllByRecursion (IsMet flow) (word_about d about).asks
    → HasAll flow (word_about d about)
word-has flow d about fits = record { written = there flow d Two fits.0; read = tt }

byte-has : (flow : Flow) (d s : ℕ) → AllByRecursion (IsMet flow) (word_of_byte d s).asks
    → HasAll flow (word_of_byte d s)
byte-has flow d s fits = record { written = there flow d Two fits.0; read = ((One, fits.1.0), tt) }

one-has : (flow : Flow) (d a : ℕ) → AllByRecursion (IsMet flow) (one_word d a).asks → HasAll flow (one_word d a)
one-has flow d a fits = record { written = there flow d Two fits.0; read = ((Two, fits.1.0), tt) }

two-have : (flow : Flow) (d a b : ℕ) → AllByRecursion (IsMet flow) (two_words d a b).asks
    → HasAll flow (two_words d a b)
two-have flow d a b fits = record {
  written = there flow d Two fits.0;
  read = ((Two, fits.1.0), ((Two, fits.1.1.0), tt));
}

shift-has : (flow : Flow) (d a c : ℕ) → AllByRecursion (IsMet flow) (shifts d a c).asks → HasAll flow (shifts d a c)
shift-has flow d a c fits = record {
  written = there flow d Two fits.0;
  read = ((Two, fits.1.0), ((One, fits.1.1.0), tt));
}

division-has : (flow : Flow) (gives : Gives) (d a b : ℕ) → AllByRecursion (IsMet flow) (divides gives d a b).asks
    → HasAll flow (divides gives d a b)
division-has flow gives d a b fits = record {
  written = there flow d Two fits.0;
  read = ((Two, fits.1.0), ((Two, fits.1.1.0), tt));
}

branch-has : (flow : Flow) (a b x y : ℕ) → AllByRecursion (IsMet flow) (branches a b x y).asks
    → HasAll flow (branches a b x y)
branch-has flow a b x y fits = record {
  written = nowhere flow;
  read = ((Two, fits.0), ((Two, fits.1.0), tt));
}

-- the words of a call
words-have : (flow : Flow) (words : List ℕ) → AllByRecursion (IsMet flow) (map two words)
    → AllByRecursion (HasVariable flow) words
words-have flow [] h = tt
words-have flow (v ∷ words) h = ((Two, h.0), words-have flow words h.1)

-- ---- ops

pub has-all : (flow : Flow) (o : Op) → FitsOp flow o → HasAll flow (shape o)
has-all flow (op.Const d n) fits = record { written = there flow d fits.0.0 fits.0.1; read = tt }
has-all flow (op.Copy d s) fits =
    record { written = there flow d fits.0.0 fits.0.1; read = ((fits.0.0, fits.0.2), tt) }
has-all flow (op.Wide d s) fits = byte-has flow d s fits
has-all flow (op.Zero d s) fits = byte-has flow d s fits
has-all flow (op.Low d s) fits = record { written = there flow d One fits.0; read = ((Two, fits.1.0), tt) }
has-all flow (op.Low16 d s) fits = one-has flow d s fits
has-all flow (op.Neg d a) fits = one-has flow d a fits
has-all flow (op.Not d a) fits = one-has flow d a fits
has-all flow (op.Add d a b) fits = two-have flow d a b fits
has-all flow (op.Sub d a b) fits = two-have flow d a b fits
has-all flow (op.Mul d a b) fits = two-have flow d a b fits
has-all flow (op.And d a b) fits = two-have flow d a b fits
has-all flow (op.Or d a b) fits = two-have flow d a b fits
has-all flow (op.Xor d a b) fits = two-have flow d a b fits
has-all flow (op.Shl d a c) fits = shift-has flow d a c fits
has-all flow (op.Sar d a c) fits = shift-has flow d a c fits
has-all flow (op.Shr d a c) fits = shift-has flow d a c fits
has-all flow (op.Div d a b) fits = division-has flow _ d a b fits
has-all flow (op.Rem d a b) fits = division-has flow _ d a b fits
has-all flow (op.Udiv d a b) fits = division-has flow _ d a b fits
has-all flow (op.Urem d a b) fits = division-has flow _ d a b fits
has-all flow (op.Set how d a b) fits = two-have flow d a b fits
has-all flow (op.Setu how d a b) fits = two-have flow d a b fits
has-all flow (op.Frame d k) fits = record { written = there flow d Two fits.0; read = tt }
has-all flow (op.Static d k) fits = word-has flow d _ fits
has-all flow (op.Load bits d p i) fits = two-have flow d p i fits
has-all flow (op.Store bits p i s) fits = record {
  written = nowhere flow;
  read = ((Two, fits.0), ((Two, fits.1.0), ((Two, fits.1.1.0), tt)));
}
has-all flow (op.Get bits d k) fits = word-has flow d _ fits
has-all flow (op.Put bits k s) fits = record { written = nowhere flow; read = ((Two, fits.0), tt) }
has-all flow (op.Clear k) fits = record { written = nowhere flow; read = tt }
has-all flow (op.Param d k) fits = word-has flow d _ fits
has-all flow (op.Call None f words) fits = record { written = nowhere flow; read = words-have flow words fits }
has-all flow (op.Call (Some d) f words) fits = record {
  written = there flow d Two fits.0;
  read = words-have flow words fits.1;
}
has-all flow (op.Putchar d s) fits = record { written = there flow d Two fits.0; read = ((Two, fits.1.0), tt) }
has-all flow (op.Getchar d) fits = record { written = there flow d Two fits.0; read = tt }
has-all flow (op.Exit s) fits = record { written = nowhere flow; read = ((Two, fits.0), tt) }
has-all flow (op.Same a b) fits = record {
  written = nowhere flow;
  read = ((Two, fits.0), ((Two, fits.1.0), tt));
}
has-all flow (op.Mark s) fits = record { written = nowhere flow; read = tt }
has-all flow op.Turn fits = record { written = nowhere flow; read = tt }
has-all flow (op.Jump x) fits = record { written = nowhere flow; read = tt }
has-all flow (op.Branch how a b x y) fits = branch-has flow a b x y fits
has-all flow (op.Branchu how a b x y) fits = branch-has flow a b x y fits
has-all flow (op.Return None) fits = record { written = nowhere flow; read = tt }
has-all flow (op.Return (Some a)) fits = record { written = nowhere flow; read = ((Two, fits.0), tt) }
