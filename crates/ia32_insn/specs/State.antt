-- A state of the machine, and its memory (Intel manual, volume 1, sections 3.3 and 3.4). Memory is flat, and
-- is a list of areas, each with what may be done there.
use Rattle.std.specs.Prelude.{ℕ, ⊤, ◌+◌, ◌-◌, ◌%◌, ◌^◌, Bool, true, false, IsTrue, ◌&&◌, List, [], ◌∷◌, ◌++◌, length}
use Rattle.std.specs.Prelude.{take, drop, Option, Some, None, option_map, nat_le, if◌then◌else◌}
use Rattle.std.specs.List.{AllByRecursion}
use Rattle.ia32_insn.specs.declared.flags.Flags.{Flags}

-- a piece of memory from an address on, and what may be done there
pub record Area : Type 0 where
  pub address : ℕ
  pub bytes : List ℕ
  pub readable : Bool
  pub writable : Bool
  pub runnable : Bool

-- The registers are 32 bytes. The four flags are known together or not at all. No two areas have an
-- address in common. Of the input there is what is left and how much was taken.
pub record State : Type 0 where
  pub registers : List ℕ
  pub flags : Option Flags
  pub eip : ℕ
  pub memory : List Area
  pub left : List ℕ
  pub taken : ℕ
  pub written : List ℕ

-- the area has these n bytes
abbrev pub has_bytes : Area → ℕ → ℕ → Bool
has_bytes area address n = nat_le area.address address && nat_le (address + n) (area.address + length area.bytes)

-- the bytes from an address to the end of its area, where instructions may be fetched there
abbrev pub code_at : ℕ → List Area → Option (List ℕ)
code_at address [] = None
code_at address (area ∷ areas) =
    if area.runnable && has_bytes area address 1 then Some (drop (address - area.address) area.bytes)
    else code_at address areas

-- the n bytes from an address on, where one area has them all and may be read
abbrev pub bytes_at : ℕ → ℕ → List Area → Option (List ℕ)
bytes_at n address [] = None
bytes_at n address (area ∷ areas) =
    if area.readable && has_bytes area address n then Some (take n (drop (address - area.address) area.bytes))
    else bytes_at n address areas

-- one area has all the n bytes from an address on, and may be written
abbrev pub may_store : ℕ → ℕ → List Area → Bool
may_store n address [] = false
may_store n address (area ∷ areas) = if area.writable && has_bytes area address n then true
    else may_store n address areas

-- the area with these bytes from an address of it on
abbrev pub with_bytes : ℕ → List ℕ → Area → Area
with_bytes address bytes area =
    let offset : ℕ = address - area.address in
    record area { bytes = take offset area.bytes ++ bytes ++ drop (offset + length bytes) area.bytes }

-- the memory with these bytes from an address on, where one area has that place and may be written
abbrev pub stored : ℕ → List ℕ → List Area → Option (List Area)
stored address bytes [] = None
stored address bytes (area ∷ areas) =
    if area.writable && has_bytes area address (length bytes) then Some (with_bytes address bytes area ∷ areas)
    else option_map (λ others. area ∷ others) (stored address bytes areas)

-- an area without its bytes
pub record Shape : Type 0 where
  pub address : ℕ
  pub size : ℕ
  pub readable : Bool
  pub writable : Bool
  pub runnable : Bool

abbrev pub shape_of : Area → Shape
shape_of area = record {
  address = area.address;
  size = length area.bytes;
  readable = area.readable;
  writable =
      area.writable;
  runnable = area.runnable;
}

-- two areas have no address in common; an area without bytes has none, wherever it lies
abbrev pub IsApart : Area → Area → Type 0
IsApart a b = (address : ℕ) → IsTrue (has_bytes a address 1) → IsTrue (has_bytes b address 1) → ⊥

-- nor have any two of these
abbrev pub AreApart : List Area → Type 0
AreApart [] = ⊤
AreApart (area ∷ areas) = AllByRecursion (IsApart area) areas × AreApart areas

-- the state with its next instruction at this address, which wraps at 32 bits
abbrev pub at_address : ℕ → State → State
at_address address s = record s { eip = address % 2 ^ 32 }
