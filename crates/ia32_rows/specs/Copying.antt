-- What the instructions between two points do: each variable comes from where it stands after the first to where it
-- stands before the second.
use Rattle.std.specs.Prelude.{◌≡◌, ◌-◌, ◌<◌, ◌^◌, ℕ, Option, Some, map}
use Rattle.pcc_base.specs.declared.run.Width.{Width}
use Rattle.pcc_base.specs.declared.run.Width.TheVariants.{One, Two}
use Rattle.ia32_insn.specs.declared.register_names.Reg32.TheVariants.{Ebp, Esi, Edi}
use Rattle.ia32_insn.specs.Places.{Place}
use Rattle.ia32_insn.specs.declared.item.Item.TheVariants as item
use Rattle.ia32_insn.specs.State.{State}
use Rattle.ia32_insn.specs.Meaning.{word_of}
use Rattle.ia32_insn.specs.Keeps.{AreDisjoint}
use Rattle.flow_graph.specs.Graphs.{Flow, HasWidth}
use Rattle.ia32_rows.specs.Placements.{Placement}
use Rattle.ia32_rows.specs.Sites.{Site, Framed}
use Rattle.ia32_rows.specs.Rows.{scratch}
use Rattle.ia32_rows.specs.Effects.{Leads, Keeps, OutsideWord}
use Rattle.ia32_rows.specs.Contains.{ApartFromPlace, Contains, OutsidePlace}

-- what a place contains is a word for a variable of width Two, and a byte for one of width One
abbrev pub FitsWidth : Width → ℕ → Type 0
FitsWidth Two w = w < 2 ^ 32
FitsWidth One w = w < 256

-- the cells of registers that are in none of the places, and in no scratch register
abbrev pub OutsideAll : (ℕ → Option Place) → ℕ → Type 0
OutsideAll places k =
    ((v : ℕ) (place : Place) → places v ≡ Some place → OutsidePlace place k) × OutsideWord Esi k × OutsideWord Edi k

-- the places in memory (address and length) that have no byte of a slot among the places, and none of the frame's word
-- of scratch, where EBP is this
abbrev pub ApartFromAll : ℕ → (ℕ → Option Place) → ℕ → ℕ → Type 0
ApartFromAll base places a n =
    ((v : ℕ) (place : Place) → places v ≡ Some place → ApartFromPlace base place a n)
    × AreDisjoint (base - scratch) 4 a n

-- The new place of each variable that had an old one contains what that did. All is kept but the new places, ESI, EDI,
-- the word of scratch and the flags.
pub record Copied (flow : Flow) (from to : ℕ → Option Place) (s t : State) : Type 0 where
  pub moved : (v w : ℕ) (width : Width) (old new : Place) → HasWidth flow v width → from v ≡ Some old
      → to v ≡ Some new → FitsWidth width w → Contains s width old w → Contains t width new w
  pub keeps : Keeps (OutsideAll to) (ApartFromAll (word_of Ebp s) to) s t

-- each variable that is to be moved has a number of its width in its old place: a byte of memory isn't known to be
-- below 256 where nothing stands
abbrev pub AreHeld : Flow → (ℕ → Option Place) → (ℕ → Option Place) → State → Type 0
AreHeld flow from to s =
    (v : ℕ) (width : Width) (old new : Place) → HasWidth flow v width → from v ≡ Some old → to v ≡ Some new
    → (w : ℕ) × FitsWidth width w × Contains s width old w

-- The instructions from a point to the next are straight code that does so, from every state within the function in
-- which the variables have such numbers.
abbrev pub Copies : Flow → Placement → ℕ → ℕ → Type 0
Copies flow placement point next =
    (site : Site) (s : State) → Framed site placement.frame s
    → AreHeld flow (placement.after point) (placement.before next) s
    → (t : State) × Leads site (map item.Plain (placement.between point next)) s t × Framed site placement.frame t
    × Copied flow (placement.after point) (placement.before next) s t
