-- Which placements a graph can have code over: where variables, frame arrays and their headers stand, and how variables
-- come from a point to the next.
use Rattle.std.specs.Prelude.{◌≡◌, ◌≢◌, ◌<◌, ◌≤◌, ◌⊎◌, ◌+◌, ◌*◌, ◌%◌, ⊤, ℕ, List, length, slice_get}
use Rattle.std.specs.Prelude.{slice_index_or, Option, Some, None}
use Rattle.std.specs.List.{All, AllByRecursion}
use Rattle.pcc_base.specs.declared.run.Width.{Width}
use Rattle.pcc_base.specs.declared.run.Width.TheVariants.{One, Two}
use Rattle.ia32_insn.specs.declared.register_names.Reg32.TheVariants.{Eax, Ecx, Edx}
use Rattle.ia32_insn.specs.declared.register_names.Reg8.TheVariants.{Cl}
use Rattle.ia32_insn.specs.Places.{Place, InWord, InByte, InSlot}
use Rattle.ia32_insn.specs.Spelling.{HasSpelling}
use Rattle.ia32_insn.specs.Items.{Places, data_start, stack_end}
use Rattle.flow_graph.specs.declared.op.Op.{Op}
use Rattle.flow_graph.specs.Graphs.{Flow, IsIn, IsPlaced}
use Rattle.flow_graph.specs.Liveness.{BeginsWith, IsSuccessor, defined, uses}
use Rattle.flow_graph.specs.Shapes.{Takes, NoRegister, Count, Division, AcrossCall, shape}
use Rattle.flow_graph.specs.Sizes.{most_words}
use Rattle.flow_graph.specs.States.{flow_at}
use Rattle.flow_graph.specs.WellFormed.{IsGraphProgram}
use Rattle.ia32_rows.specs.Placements.{Code, IsCode, Placement, objects_of, placement_of}
use Rattle.ia32_rows.specs.Sites.{Site}
pub use Rattle.ia32_rows.specs.Rows.{size_of}
use Rattle.ia32_rows.specs.Contains.{IsPlaceIn}
use Rattle.ia32_rows.specs.Copying.{Copies}
use Rattle.ia32_rows.specs.Effects.{IsStraight}
use Rattle.ia32_rows.specs.Laws.{ArePlacesApart}

-- ---- frame arrays

-- Element 0 stands so far below EBP: the elements end below the four words of the caller's registers and of scratch,
-- and the four bytes of their number, before them, are in the frame.
pub record IsArrayIn (frame : ℕ) (array : ℕ × ℕ) (below : ℕ) : Type 0 where
  pub low : 16 + size_of array ≤ below
  pub high : below + 4 ≤ frame

-- two arrays so far below EBP have no byte in common, with the four bytes before each
abbrev pub AreArraysApart : ℕ × ℕ → ℕ → ℕ × ℕ → ℕ → Type 0
AreArraysApart one below two other =
    (below + 4 + size_of two ≤ other) ⊎ (other + 4 + size_of one ≤ below)

-- nor have an array and a slot of four bytes
abbrev pub IsSlotApart : ℕ → ℕ × ℕ → ℕ → Type 0
IsSlotApart slot array below = (below + 8 ≤ slot) ⊎ (slot + size_of array ≤ below)

-- the place is no slot that has a byte of the array
abbrev pub IsApartFromArray : Place → ℕ × ℕ → ℕ → Type 0
IsApartFromArray (InWord r) array below = ⊤
IsApartFromArray (InByte r) array below = ⊤
IsApartFromArray (InSlot slot) array below = IsSlotApart slot array below

-- The arrays of a graph stand in a frame of so many bytes, so far below EBP, apart from each other.
pub record AreArraysIn (arrays : List (ℕ × ℕ)) (frame : ℕ) (belows : List ℕ) : Type 0 where
  pub as_many : length belows ≡ length arrays
  pub inside : (k below : ℕ) (array : ℕ × ℕ) → slice_get arrays k ≡ Some array → slice_get belows k ≡ Some below
      → IsArrayIn frame array below
  pub apart : (k l below other : ℕ) (one two : ℕ × ℕ) → k ≢ l → slice_get arrays k ≡ Some one
      → slice_get belows k ≡ Some below → slice_get arrays l ≡ Some two → slice_get belows l ≡ Some other
      → AreArraysApart one below two other

-- ---- places

-- the place is one for a variable of the width
abbrev pub HoldsWidth : Option Width → Place → Type 0
HoldsWidth (Some Two) (InWord r) = ⊤
HoldsWidth (Some Two) (InByte r) = ⊥
HoldsWidth (Some Two) (InSlot slot) = ⊤
HoldsWidth (Some One) (InWord r) = ⊥
HoldsWidth (Some One) (InByte r) = ⊤
HoldsWidth (Some One) (InSlot slot) = ⊤
HoldsWidth None place = ⊥

-- The variable can stand in the place: it is one of its width, a register for variables or a slot in the frame, and
-- apart from the arrays.
pub record IsPlaceFor (flow : Flow) (placement : Placement) (v : ℕ) (place : Place) : Type 0 where
  pub inside : IsPlaceIn placement.frame place
  pub holds : HoldsWidth (slice_get flow.widths v) place
  pub apart : (k below : ℕ) (array : ℕ × ℕ) → slice_get flow.arrays k ≡ Some array
      → slice_get placement.arrays k ≡ Some below → IsApartFromArray place array below

-- apart from the registers that a call takes (System V ABI, Intel386 supplement, "Function Calling Sequence")
abbrev pub IsSparedByCall : Place → Type 0
IsSparedByCall place =
    ArePlacesApart (InWord Eax) place × ArePlacesApart (InWord Ecx) place × ArePlacesApart (InWord Edx) place

-- apart from what an op's instructions take: a shift takes CL, a division EAX and EDX (Intel manual, volume 2,
-- SAL/SAR/SHL/SHR and IDIV), and a call what calls take
abbrev pub IsSparedBy : Takes → Place → Type 0
IsSparedBy NoRegister place = ⊤
IsSparedBy (Count count shifted) place = ArePlacesApart (InByte Cl) place
IsSparedBy (Division dividend divisor gives) place =
    ArePlacesApart (InWord Eax) place × ArePlacesApart (InWord Edx) place
IsSparedBy AcrossCall place = IsSparedByCall place

-- the op leaves the place as it is, unless the place is that of the variable that it writes
abbrev pub IsSpared : Op → Place → Type 0
IsSpared op place = IsSparedBy (shape op).takes place

-- ---- a graph

-- no cell of a register and no byte of the frame is in the places of two variables
abbrev pub AreAllApart : (ℕ → Option Place) → Type 0
AreAllApart place_of =
    (v w : ℕ) (one two : Place) → v ≢ w → place_of v ≡ Some one → place_of w ≡ Some two → ArePlacesApart one two

-- What a point of a graph asks of a placement: variables stand apart before it and after it, each in a place for it;
-- what the op reads has a place before it, and what the op writes one after it; and any other variable that has a
-- place after it has the same one before it, which the op leaves as it is.
pub record SupportsPoint (flow : Flow) (placement : Placement) (point : ℕ) (o : Op) : Type 0 where
  pub before : (v : ℕ) (place : Place) → placement.before point v ≡ Some place → IsPlaceFor flow placement v place
  pub after : (v : ℕ) (place : Place) → placement.after point v ≡ Some place → IsPlaceFor flow placement v place
  pub before_apart : AreAllApart (placement.before point)
  pub after_apart : AreAllApart (placement.after point)
  pub read : (v : ℕ) → IsIn v (uses o) → (place : Place) × (placement.before point v ≡ Some place)
  pub written : (v : ℕ) → defined o ≡ Some v → (place : Place) × (placement.after point v ≡ Some place)
  pub stays : (v : ℕ) (place : Place) → defined o ≢ Some v → placement.after point v ≡ Some place
      → (placement.before point v ≡ Some place) × IsSpared o place

-- The instructions from a point to one that follows it: 24 at most, each of which goes on to the next and has a
-- spelling. They bring each variable from its place after the first point to its place before the second.
pub record AreMoves (flow : Flow) (placement : Placement) (point next : ℕ) : Type 0 where
  pub few : length (placement.between point next) ≤ 24
  pub straight : AllByRecursion IsStraight (placement.between point next)
  pub spelled : AllByRecursion HasSpelling (placement.between point next)
  pub copies : Copies flow placement point next

-- The graph can have code over the placement. The frame has four words for the caller's registers and for scratch. The
-- words that a function's first items make 0 are below those of the registers; the elements of the frame arrays are
-- among them, and what stands anywhere before the first point stands in a slot among them. From a point to the next
-- one, in a block and along each edge, variables are moved, and what has a place before the next one has one after the
-- point.
pub record Supports (flow : Flow) (placement : Placement) : Type 0 where
  pub four_words : 16 ≤ placement.frame
  pub words : placement.frame % 4 ≡ 0
  pub below_registers : 12 ≤ placement.zeroed
  pub zeroed_words : placement.zeroed % 4 ≡ 0
  pub arrays : AreArraysIn flow.arrays placement.frame placement.arrays
  pub cleared : (k below : ℕ) (array : ℕ × ℕ) → slice_get flow.arrays k ≡ Some array
      → slice_get placement.arrays k ≡ Some below → placement.zeroed + size_of array ≤ below
  pub points : (point : ℕ) (o : Op) → IsPlaced flow point → slice_get flow.ops point ≡ Some o
      → SupportsPoint flow placement point o
  pub begins : (point v : ℕ) (place : Place) → BeginsWith flow 0 point → placement.before point v ≡ Some place
      → (slot : ℕ) × (place ≡ InSlot slot) × (placement.zeroed + 4 ≤ slot)
  pub moves : (point next : ℕ) → IsSuccessor flow point next → AreMoves flow placement point next
  pub stood : (point next v : ℕ) (place : Place) → IsSuccessor flow point next → placement.before next v ≡ Some place
      → (old : Place) × (placement.after point v ≡ Some old)

-- ---- a program

-- The code of a program, laid out in a text, over placements that support its graphs. A call takes at most 0x4000 bytes
-- of the stack, with the argument words that it passes, and all addresses fit 32 bits. A static object has at most
-- 2 ^ 31 elements, so that a negative index, as a word without a sign, is none of theirs.
pub record IsSupported (code : Code) : Type 0 where
  pub is_code : IsCode code
  pub program : IsGraphProgram code.program
  pub supports : (f : ℕ) → f < length code.program.functions
      → Supports (flow_at code.program f) (placement_of code f)
  pub bytes : (f : ℕ) → f < length code.program.functions
      → 8 + (placement_of code f).frame + 4 * most_words (flow_at code.program f).ops ≤ 0x4000
  pub fits : stack_end code.text (objects_of code.program) < 0x1_0000_0000
  pub few : All (λ object. length object.elements ≤ 0x80000000) code.program.objects

-- where code and data of a function stand
abbrev pub no_places : Places
no_places = record { labels = λ label. 0; points = λ point. 0 }

abbrev pub site_of : Code → ℕ → Site
site_of code function =
    record {
      symbols = code.symbols;
      places = slice_index_or code.places function no_places;
      text = code.text;
      low = data_start code.text;
      high = stack_end code.text (objects_of code.program);
    }
