-- How a run comes out, of a source, a graph or an image: what was visited with which values, how much
-- of the input was taken, what was written, and how it ended.
use Rattle.std.specs.Prelude.{⊤, ℕ, ℤ, List, [], ◌++◌}
use Rattle.std.specs.List.{All}
use Rattle.pcc_base.specs.declared.run.Trap.{Trap}
use Rattle.pcc_base.specs.declared.run.Stop.{Stop}

-- Ended has the exit status, and Stopped the cause and the instruction's address. Goes says that the
-- turns or steps were used up before an end.
pub data End : Type 0 where
  Ended : (status : ℕ) → End
  Trapped : (trap : Trap) → End
  Stopped : (cause : Stop) (address : ℕ) → End
  Goes : End

-- an array: none, static object k, or frame array k of the activation of depth j, with main at depth 1.
-- Unknown is a machine word that is no array's address.
pub data ArrayName : Type 0 where
  Null : ArrayName
  Static : (object : ℕ) → ArrayName
  InFrame : (array depth : ℕ) → ArrayName
  Unknown : ArrayName

pub data Value : Type 0 where
  Number : (number : ℤ) → Value
  Array : (array : ArrayName) → Value

-- a statement or declared item that starts, with the values of the parts that a listing names for it
pub record Visit : Type 0 where
  pub statement : ℕ
  pub values : List Value

-- a part of a local, which goes by its number in its function: a scalar, or the array or the index of
-- a pointer
pub data Part : Type 0 where
  Scalar : (variable : ℕ) → Part
  ArrayOf : (variable : ℕ) → Part
  IndexOf : (variable : ℕ) → Part

-- the parts that a visit of each statement shows
abbrev pub Listing : Type 0
Listing = ℕ → List Part

-- the listing that shows nothing
abbrev pub nothing_listed : Listing
nothing_listed statement = []

pub record Outcome : Type 0 where
  pub visits : List Visit
  pub taken : ℕ
  pub written : List ℕ
  pub end : End

-- the value is known, as each of a source's visits is
abbrev pub IsKnown : Value → Type 0
IsKnown (Number n) = ⊤
IsKnown (Array Null) = ⊤
IsKnown (Array (Static k)) = ⊤
IsKnown (Array (InFrame k depth)) = ⊤
IsKnown (Array Unknown) = ⊥

abbrev pub AreKnown : List Visit → Type 0
AreKnown visits = All (λ visit. All IsKnown visit.values) visits

-- the outcome with these visits before its own
abbrev pub after_visits : List Visit → Outcome → Outcome
after_visits visits outcome = record {
  visits = visits ++ outcome.visits;
  taken = outcome.taken;
  written =
      outcome.written;
  end = outcome.end;
}
