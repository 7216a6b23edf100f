-- The typed program of texts, or why they have none.
use Rattle.std.specs.Prelude.{◌≡◌, ◌⊎◌, ⊤, ℕ, ◌-◌, List, length, Option, Some, None, slice_get}
use Rattle.pcc_base.specs.declared.span.Span.{Span}
use Rattle.pcc_base.specs.declared.fault.Fault.{Fault}
use Rattle.pcc_base.specs.declared.refusal.Limit.TheVariants.{Arrays, Frame}
use Rattle.c_syntax.specs.Statements.{ExternalTree}
use Rattle.c_tree.specs.Program.{Function, Program}
use Rattle.c_tree.specs.Sizes.{frame_bound}
use Rattle.c_front.specs.Refusals.{FirstFaulty, HaveLexicalFault, HaveManyTokens, WithTokens}
use Rattle.c_front.specs.Refusals.{first_place, text_end, ends_of}
use Rattle.c_typing.specs.Typed.{IsAbove, IsAccepted, IsLeastFault, Typed, limit_of}
use Rattle.c_front.specs.Units.{WithUnits}
use Rattle.c_front.specs.declared.refused.Refused.{Refused}
use Rattle.c_front.specs.declared.refused.Refused.TheVariants as refusals

-- ---- programs

-- the texts have this typed program, which is within the limits
abbrev pub HaveTypedProgram : List (List ℕ) → Program → Type 0
HaveTypedProgram texts program = WithUnits texts (λ units. IsAccepted units program)

-- ---- refusals

-- the place behind the text of the file at this position, and the first place where there is none
abbrev pub end_in : ℕ → Option (List ℕ) → Span
end_in file None = first_place 0
end_in file (Some text) = text_end file text

-- the place behind the last text
abbrev pub end_of : List (List ℕ) → Span
end_of texts = end_in (length texts - 1) (slice_get texts (length texts - 1))

-- The texts have this fault: the first lexical one; or that of the first file without a raw tree, where all have
-- tokens; or the least one of typing, where all have raw trees.
abbrev pub HaveFault : List (List ℕ) → Fault → Type 0
HaveFault texts fault =
    HaveLexicalFault texts fault
    ⊎ (WithTokens texts (λ files. FirstFaulty files (ends_of 0 texts) fault.kind fault.at)
    ⊎ WithUnits texts (λ units. IsLeastFault units (end_of texts) fault))

-- The files have a typed program that is above the limit on frames: its first function whose frame is too large has
-- this name, and its frame has so many bytes.
pub record HaveLargeFrame (units : List (List ExternalTree)) (name : List ℕ) (bytes : ℕ) : Type 0 where
  pub program : Program
  pub typed : Typed units program
  -- the number of the function, which the limit names
  pub number : ℕ
  pub above : limit_of program ≡ Some (Frame number bytes)
  pub function : Function
  pub there : slice_get program.functions number ≡ Some function
  pub named : function.name ≡ name
  pub large : frame_bound function ≡ bytes

-- a limit that texts are above, with what is told of it: so many bytes of static objects, or a function and the bytes
-- of its frame (the limits are ours)
pub data Excess : Type 0 where
  ManyTokens : Excess
  LargeArrays : (bytes : ℕ) → Excess
  LargeFrame : (name : List ℕ) (bytes : ℕ) → Excess

-- More than 65,536 tokens stand before any lexical fault; or the texts have a typed program that is above the limit on
-- static objects, or else above that on frames.
abbrev pub Exceed : List (List ℕ) → Excess → Type 0
Exceed texts ManyTokens = HaveManyTokens texts
Exceed texts (LargeArrays bytes) = WithUnits texts (λ units. IsAbove units (Arrays bytes))
Exceed texts (LargeFrame name bytes) = WithUnits texts (λ units. HaveLargeFrame units name bytes)

-- why texts have no program; no more than 65,537 tokens are counted
abbrev pub AreRefused : List (List ℕ) → Refused → Type 0
AreRefused texts (refusals.Fault fault) = HaveFault texts fault
AreRefused texts (refusals.Tokens n) = (n ≡ 0x10001) × Exceed texts ManyTokens
AreRefused texts (refusals.Arrays bytes) = Exceed texts (LargeArrays bytes)
AreRefused texts (refusals.Frame name bytes) = Exceed texts (LargeFrame name.items bytes)
AreRefused texts refusals.NoMemory = ⊤
