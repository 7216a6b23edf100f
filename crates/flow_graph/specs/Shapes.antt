-- What each op is to others, one row an op: what it writes, what it reads, what it asks of the graph that it stands in,
-- what else it is about, where control goes, and what its instructions take of the registers. What it does is in
-- Meaning.antt.
use Rattle.std.specs.Prelude.{ℕ, ℤ, List, [], ◌∷◌, ◌++◌, map, Option, Some, None}
use Rattle.pcc_base.specs.declared.run.Width.{Width}
use Rattle.pcc_base.specs.declared.run.Width.TheVariants.{One, Two}
use Rattle.flow_graph.specs.declared.op.Op.{Op}
use Rattle.flow_graph.specs.declared.op.Op.TheVariants.{Const, Copy, Wide, Zero, Low, Low16, Neg, Not, Add, Sub, Mul}
use Rattle.flow_graph.specs.declared.op.Op.TheVariants.{And, Or, Xor, Shl, Sar, Shr, Div, Rem, Udiv, Urem, Set, Setu}
use Rattle.flow_graph.specs.declared.op.Op.TheVariants.{Frame, Static, Load, Store, Get, Put, Clear, Param, Call, Putchar}
use Rattle.flow_graph.specs.declared.op.Op.TheVariants.{Getchar, Exit, Same, Mark, Turn, Jump, Branch, Branchu, Return}

-- ---- the parts of a shape

-- What an op asks of the graph that it stands in: a variable of a width, a variable of either width, two
-- variables of one width, a frame array, or a block.
pub data Need : Type 0 where
  Variable : (variable : ℕ) (width : Width) → Need
  AnyWidth : (variable : ℕ) → Need
  SameWidth : (first second : ℕ) → Need
  FrameArray : (array : ℕ) → Need
  Target : (block : ℕ) → Need

-- What an op is about besides variables, frame arrays and blocks: a number, an argument word, a static object or a
-- function of the program, a statement that is visited, or a turn that starts.
pub data About : Type 0 where
  NothingElse : About
  TheNumber : (number : ℤ) → About
  TheWord : (word : ℕ) → About
  TheObject : (object : ℕ) → About
  TheFunction : (function : ℕ) → About
  TheStatement : (statement : ℕ) → About
  TheTurn : About

-- Where control goes: to the next point; into a call with these argument words, and from there to the next point, with
-- the result in a variable where it is wanted; to a block; to one of two; out of the call; or out of the program.
pub data Leads : Type 0 where
  Onward : Leads
  IntoCall : (result : Option ℕ) (words : List ℕ) → Leads
  ToBlock : (block : ℕ) → Leads
  ToEither : (first second : ℕ) → Leads
  OutOfCall : Leads
  OutOfProgram : Leads

-- what a division gives
pub data Gives : Type 0 where
  Quotient : Gives
  Remainder : Gives

-- What the op's instructions take of the registers: nothing; CL, for the count of a shift; EAX and EDX, for a division;
-- or what a call takes.
pub data Takes : Type 0 where
  NoRegister : Takes
  Count : (count shifted : ℕ) → Takes
  Division : (dividend divisor : ℕ) (gives : Gives) → Takes
  AcrossCall : Takes

pub record Shape : Type 0 where
  pub writes : Option ℕ
  pub reads : List ℕ
  pub asks : List Need
  pub about : About
  pub leads : Leads
  pub takes : Takes

-- ---- shapes of several ops

-- a variable of width Two
abbrev pub two : ℕ → Need
two v = Variable v Two

-- a variable of width Two, where there is one
abbrev pub two_if_any : Option ℕ → List Need
two_if_any None = []
two_if_any (Some v) = two v ∷ []

abbrev pub if_any : Option ℕ → List ℕ
if_any None = []
if_any (Some v) = v ∷ []

-- onward, with nothing of the registers
abbrev pub plain : Option ℕ → List ℕ → List Need → About → Shape
plain writes reads asks about =
    record { writes = writes; reads = reads; asks = asks; about = about; leads = Onward; takes = NoRegister }

-- a word of nothing but what the op is about
abbrev pub word_about : ℕ → About → Shape
word_about d about = plain (Some d) [] (two d ∷ []) about

-- a word of one byte
abbrev pub word_of_byte : ℕ → ℕ → Shape
word_of_byte d s = plain (Some d) (s ∷ []) (two d ∷ Variable s One ∷ []) NothingElse

-- a word of one word
abbrev pub one_word : ℕ → ℕ → Shape
one_word d a = plain (Some d) (a ∷ []) (two d ∷ two a ∷ []) NothingElse

-- a word of two words
abbrev pub two_words : ℕ → ℕ → ℕ → Shape
two_words d a b = plain (Some d) (a ∷ b ∷ []) (two d ∷ two a ∷ two b ∷ []) NothingElse

-- a word shifted by a byte
abbrev pub shifts : ℕ → ℕ → ℕ → Shape
shifts d a c =
    record {
      writes = Some d;
      reads = a ∷ c ∷ [];
      asks = two d ∷ two a ∷ Variable c One ∷ [];
      about = NothingElse;
      leads = Onward;
      takes = Count c a;
    }

-- a word divided by a word
abbrev pub divides : Gives → ℕ → ℕ → ℕ → Shape
divides gives d a b =
    record {
      writes = Some d;
      reads = a ∷ b ∷ [];
      asks = two d ∷ two a ∷ two b ∷ [];
      about = NothingElse;
      leads = Onward;
      takes = Division a b gives;
    }

-- a call of the outside
abbrev pub calls_outside : Option ℕ → List ℕ → List Need → Leads → Shape
calls_outside writes reads asks leads =
    record { writes = writes; reads = reads; asks = asks; about = NothingElse; leads = leads; takes = AcrossCall }

-- an end of a block
abbrev pub ends : List ℕ → List Need → Leads → Shape
ends reads asks leads =
    record { writes = None; reads = reads; asks = asks; about = NothingElse; leads = leads; takes = NoRegister }

-- an end of a block after two words, that goes to one of two blocks
abbrev pub branches : ℕ → ℕ → ℕ → ℕ → Shape
branches a b x y = ends (a ∷ b ∷ []) (two a ∷ two b ∷ Target x ∷ Target y ∷ []) (ToEither x y)

-- ---- the table

abbrev pub shape : Op → Shape
shape (Const d n) = plain (Some d) [] (AnyWidth d ∷ []) (TheNumber n)
shape (Copy d s) = plain (Some d) (s ∷ []) (SameWidth d s ∷ []) NothingElse
shape (Wide d s) = word_of_byte d s
shape (Zero d s) = word_of_byte d s
shape (Low d s) = plain (Some d) (s ∷ []) (Variable d One ∷ two s ∷ []) NothingElse
shape (Low16 d s) = one_word d s
shape (Neg d a) = one_word d a
shape (Not d a) = one_word d a
shape (Add d a b) = two_words d a b
shape (Sub d a b) = two_words d a b
shape (Mul d a b) = two_words d a b
shape (And d a b) = two_words d a b
shape (Or d a b) = two_words d a b
shape (Xor d a b) = two_words d a b
shape (Shl d a c) = shifts d a c
shape (Sar d a c) = shifts d a c
shape (Shr d a c) = shifts d a c
shape (Div d a b) = divides Quotient d a b
shape (Rem d a b) = divides Remainder d a b
shape (Udiv d a b) = divides Quotient d a b
shape (Urem d a b) = divides Remainder d a b
shape (Set how d a b) = two_words d a b
shape (Setu how d a b) = two_words d a b
shape (Frame d k) = plain (Some d) [] (two d ∷ FrameArray k ∷ []) NothingElse
shape (Static d k) = word_about d (TheObject k)
shape (Load bits d p i) = two_words d p i
shape (Store bits p i s) = plain None (p ∷ i ∷ s ∷ []) (two p ∷ two i ∷ two s ∷ []) NothingElse
shape (Get bits d k) = word_about d (TheObject k)
shape (Put bits k s) = plain None (s ∷ []) (two s ∷ []) (TheObject k)
shape (Clear k) = plain None [] (FrameArray k ∷ []) NothingElse
shape (Param d k) = word_about d (TheWord k)
shape (Call d f words) =
    record {
      writes = d;
      reads = words;
      asks = two_if_any d ++ map two words;
      about = TheFunction f;
      leads = IntoCall d words;
      takes = AcrossCall;
    }
shape (Putchar d s) = calls_outside (Some d) (s ∷ []) (two d ∷ two s ∷ []) Onward
shape (Getchar d) = calls_outside (Some d) [] (two d ∷ []) Onward
shape (Exit s) = calls_outside None (s ∷ []) (two s ∷ []) OutOfProgram
shape (Same a b) = plain None (a ∷ b ∷ []) (two a ∷ two b ∷ []) NothingElse
shape (Mark s) = plain None [] [] (TheStatement s)
shape Turn = plain None [] [] TheTurn
shape (Jump x) = ends [] (Target x ∷ []) (ToBlock x)
shape (Branch how a b x y) = branches a b x y
shape (Branchu how a b x y) = branches a b x y
shape (Return a) = ends (if_any a) (two_if_any a) OutOfCall
