-- What comes of judging a part of a program: it fits, and has a typed tree, or it has faults.
--
-- A construct is judged only where its parts fit (`if_fits`, `both`, `three`, `four`); the faults of all parts are
-- kept, in no order.
use Rattle.std.specs.Prelude.{ℕ, ℤ, List, [], ◌∷◌, ◌++◌, Option, Some, None}
use Rattle.pcc_base.specs.declared.span.Span.{Span}
use Rattle.pcc_base.specs.declared.fault.Fault.{Fault}
use Rattle.pcc_base.specs.declared.fault.FaultKind.{FaultKind}
use Rattle.c_tree.specs.declared.types.IntegerType.{IntegerType}
use Rattle.c_typing.specs.Faults.{fault}
use Rattle.c_typing.specs.Library.{Entity}
use Rattle.c_typing.specs.Types.{Declared}

-- What a declaration of an object holds at first: it doesn't define the object, or it defines it as zero where no
-- other one gives values (C99 6.9.2p2), or it gives the first elements.
pub data Contents : Type 0 where
  Elsewhere : Contents
  Zeros : Contents
  Values : (values : List ℤ) → Contents

-- an object of static storage where it is declared or spelled
pub record Stored : Type 0 where
  pub entity : Entity
  pub element : IntegerType
  pub count : ℕ
  pub contents : Contents

-- what a part of a program says beside its tree, in the order of the text
pub data Note : Type 0 where
  -- a function is called, or an object is used, at its name
  Uses : (entity : Entity) (at : Span) → Note
  -- an object is declared, or a string literal spelled
  Stores : (stored : Stored) → Note
  -- a function is defined, with its type
  Defines : (entity : Entity) (type : Declared) → Note

pub data Checked (A : Type 0) : Type 0 where
  Fits : (value : A) (notes : List Note) → Checked A
  -- the faults, of which there is one at least
  Fails : (first : Fault) (others : List Fault) → Checked A

abbrev pub fits : {A : Type 0} → A → Checked A
fits value = Fits value []

abbrev pub fails : {A : Type 0} → FaultKind → Span → Checked A
fails kind at = Fails (fault kind at) []

abbrev pub faults_in : {A : Type 0} → Checked A → List Fault
faults_in (Fits value notes) = []
faults_in (Fails first others) = first ∷ others

abbrev pub notes_in : {A : Type 0} → Checked A → List Note
notes_in (Fits value notes) = notes
notes_in (Fails first others) = []

abbrev pub value_in : {A : Type 0} → Checked A → Option A
value_in (Fits value notes) = Some value
value_in (Fails first others) = None

-- notes before those of a part
abbrev pub noted : {A : Type 0} → List Note → Checked A → Checked A
noted before (Fits value notes) = Fits value (before ++ notes)
noted before (Fails first others) = Fails first others

-- these faults too
abbrev pub also : {A : Type 0} → List Fault → Checked A → Checked A
also [] part = part
also (f ∷ fs) part = Fails f (fs ++ faults_in part)

-- a construct of one part
abbrev pub if_fits : {A B : Type 0} → Checked A → (A → Checked B) → Checked B
if_fits (Fits value notes) row = noted notes (row value)
if_fits (Fails first others) row = Fails first others

abbrev pub pair : {A B : Type 0} → Checked A → Checked B → Checked (A × B)
pair (Fits a notes) (Fits b more) = Fits (a, b) (notes ++ more)
pair (Fits a notes) (Fails g gs) = Fails g gs
pair (Fails f fs) part = Fails f (fs ++ faults_in part)

-- a construct of two parts
abbrev pub both : {A B C : Type 0} → Checked A → Checked B → (A → B → Checked C) → Checked C
both first second row = if_fits (pair first second) (λ values. row values.0 values.1)

-- a construct of three parts
abbrev pub three : {A B C D : Type 0} → Checked A → Checked B → Checked C → (A → B → C → Checked D) → Checked D
three first second third row = both first (pair second third) (λ a others. row a others.0 others.1)

-- a construct of four parts
abbrev pub four : {A B C D E : Type 0} → Checked A → Checked B → Checked C → Checked D → (A → B → C → D → Checked E)
    → Checked E
four first second third fourth row =
    both (pair first second) (pair third fourth) (λ a b. row a.0 a.1 b.0 b.1)

-- a value, or this fault where there is none
abbrev pub or_fails : {A : Type 0} → Option A → FaultKind → Span → Checked A
or_fails None kind at = fails kind at
or_fails (Some value) kind at = fits value
