-- Texts of items: how the code of a program stands in memory, function by function, with the routines that it
-- calls, and the state in which its image starts.
use Rattle.std.specs.Prelude.{◌≡◌, ◌⊎◌, ◌<◌, ℕ, ◌+◌, ◌-◌, ◌*◌, ◌/◌, ◌%◌, ◌^◌, ℤ, pos, true, false, List, [], ◌∷◌, ◌++◌}
use Rattle.std.specs.Prelude.{flat_map, length, slice_get, Option, Some, None}
use Rattle.std.specs.Int.{w32, cast_unsigned, cast_signed}
use Rattle.byteorder.specs.Endian.{little_bytes}
use Rattle.pcc_base.specs.Bytes.{zeros}
pub use Rattle.pcc_base.specs.Objects.{Object}
use Rattle.ia32_insn.specs.Registers.{zero_registers}
use Rattle.ia32_insn.specs.declared.register_names.Reg32.{Reg32}
use Rattle.ia32_insn.specs.declared.register_names.Reg32.TheVariants.{Eax, Ecx, Edx, Ebx, Esp}
use Rattle.ia32_insn.specs.declared.operand.Mem.{Mem}
use Rattle.ia32_insn.specs.declared.operand.Rm32.TheVariants as rm
use Rattle.ia32_insn.specs.declared.operand.Rm8.TheVariants as rm8
use Rattle.ia32_insn.specs.declared.insn.AluOp.TheVariants.{Sub, Or}
use Rattle.ia32_insn.specs.declared.insn.Cond.{Cond}
use Rattle.ia32_insn.specs.declared.insn.Insn.{Insn}
use Rattle.ia32_insn.specs.declared.insn.Insn.TheVariants as insn
use Rattle.ia32_insn.specs.declared.item.Item.{Item}
use Rattle.ia32_insn.specs.declared.item.Item.TheVariants as item
use Rattle.ia32_insn.specs.declared.item.Stub.{Stub}
use Rattle.ia32_insn.specs.declared.item.Stub.TheVariants as stub
use Rattle.ia32_insn.specs.Spelling.{Spells}
use Rattle.ia32_insn.specs.State.{State, Area}

-- ---- items at addresses

-- the addresses that items name: of the functions, of element 0 of each static object, of the depth word, of
-- the routines, and of the trap of a failed check
pub record Symbols : Type 0 where
  pub functions : List ℕ
  pub objects : List ℕ
  pub depth : ℕ
  pub putchar : ℕ
  pub getchar : ℕ
  pub exit : ℕ
  pub check : ℕ

-- where the labels and the points of one function stand
pub record Places : Type 0 where
  pub labels : ℕ → ℕ
  pub points : ℕ → ℕ

abbrev pub stub_address : Symbols → Stub → ℕ
stub_address symbols stub.Putchar = symbols.putchar
stub_address symbols stub.Getchar = symbols.getchar
stub_address symbols stub.Exit = symbols.exit

-- the address is that of a static object, or for this number that of the depth word
abbrev pub IsObject : Symbols → ℕ → ℕ → Type 0
IsObject symbols k address = ((k ≡ 0xffffffff) × (address ≡ symbols.depth))
    ⊎ (slice_get symbols.objects k ≡ Some address)

-- an instruction that these bytes spell at an address leads to the target, by its distance
abbrev pub LeadsTo : (ℤ → Insn) → ℕ → ℕ → List ℕ → Type 0
LeadsTo instruction address target bytes =
    (distance : ℤ) × Spells (instruction distance) bytes
    × ((address + length bytes + cast_unsigned w32 distance) % 2 ^ 32 ≡ target)

-- a jump, always or where a condition holds
abbrev pub jump_if : Option Cond → ℤ → Insn
jump_if None distance = insn.Jmp distance
jump_if (Some c) distance = insn.Jcc c distance

-- the item stands at the address with these bytes
abbrev pub ItemAt : Symbols → Places → ℕ → Item → List ℕ → Type 0
ItemAt symbols places address (item.Plain i) bytes = Spells i bytes
ItemAt symbols places address (item.Label l) bytes = (bytes ≡ []) × (places.labels l ≡ address)
ItemAt symbols places address (item.Point p) bytes = (bytes ≡ []) × (places.points p ≡ address)
ItemAt symbols places address (item.JumpTo l) bytes = LeadsTo insn.Jmp address (places.labels l) bytes
ItemAt symbols places address (item.JumpIf c l) bytes = LeadsTo (insn.Jcc c) address (places.labels l) bytes
ItemAt symbols places address (item.CallFunction f) bytes = (target : ℕ) × (slice_get symbols.functions f ≡ Some target)
    × LeadsTo insn.Call address target bytes
ItemAt symbols places address (item.CallStub s) bytes = LeadsTo insn.Call address (stub_address symbols s) bytes
ItemAt symbols places address (item.JumpTrap c) bytes = LeadsTo (jump_if c) address symbols.check bytes
ItemAt symbols places address (item.AddressOf r k) bytes =
    (target : ℕ) × (z : ℤ) × IsObject symbols k target × (cast_unsigned w32 z ≡ target)
    × Spells (insn.MovImm (rm.Reg r) z) bytes

-- the items stand one after the other from the address on, and have these bytes
abbrev pub ItemsAt : Symbols → Places → ℕ → List Item → List ℕ → Type 0
ItemsAt symbols places address [] bytes = bytes ≡ []
ItemsAt symbols places address (i ∷ items) bytes =
    (first : List ℕ) × (rest : List ℕ) × (bytes ≡ first ++ rest) × ItemAt symbols places address i first
    × ItemsAt symbols places (address + length first) items rest

-- the numbers below n in some order: each stands at one place
pub record IsOrder (n : ℕ) (order : List ℕ) : Type 0 where
  pub below : (i k : ℕ) → slice_get order i ≡ Some k → k < n
  pub each : (k : ℕ) → k < n → (i : ℕ) × (slice_get order i ≡ Some k)
  pub once : (i j k : ℕ) → slice_get order i ≡ Some k → slice_get order j ≡ Some k → i ≡ j

-- the function with this number stands at the address, with these bytes
pub record FunctionAt (symbols : Symbols) (functions : List (List Item)) (places : List Places) (f address : ℕ)
    (bytes : List ℕ) : Type 0 where
  pub items : List Item
  pub place : Places
  pub is : slice_get functions f ≡ Some items
  pub placed : slice_get places f ≡ Some place
  pub named : slice_get symbols.functions f ≡ Some address
  pub stands : ItemsAt symbols place address items bytes

-- the functions with these numbers stand one after the other from the address on, and have these bytes
abbrev pub FunctionsAt : Symbols → List (List Item) → List Places → List ℕ → ℕ → List ℕ → Type 0
FunctionsAt symbols functions places [] address bytes = bytes ≡ []
FunctionsAt symbols functions places (f ∷ order) address bytes =
    (first : List ℕ) × (rest : List ℕ) × (bytes ≡ first ++ rest) × FunctionAt symbols functions places f address first
    × FunctionsAt symbols functions places order (address + length first) rest

-- ---- the routines

abbrev pub plain : Insn → Item
plain i = item.Plain i

-- a place in memory so far from a register, and one at an address
abbrev pub near : Reg32 → ℕ → Mem
near r distance = record { base = Some r; index = None; disp = pos distance }

abbrev pub absolute : ℕ → Mem
absolute address = record { base = None; index = None; disp = cast_signed w32 address }

-- The start: ESP to the stack's end, 1 to the depth word, the call of `main`, and `exit` with its result (System V
-- ABI for i386; the system's own stack isn't used).
abbrev pub start_items : ℕ → ℕ → ℕ → List Item
start_items stack depth main =
    plain (insn.MovImm (rm.Reg Esp) (cast_signed w32 stack))
    ∷ plain (insn.MovImm (rm.Mem (absolute depth)) (pos 1))
    ∷ item.CallFunction main
    ∷ plain (insn.Mov (rm.Reg Ebx) Eax)
    ∷ plain (insn.MovImm (rm.Reg Eax) (pos 1))
    ∷ plain (insn.Int 0x80)
    ∷ []

-- `putchar`: `write` of one byte, the lowest of the argument word, which is also the result
abbrev pub putchar_items : List Item
putchar_items =
    plain (insn.Push (rm.Reg Ebx))
    ∷ plain (insn.MovImm (rm.Reg Eax) (pos 4))
    ∷ plain (insn.MovImm (rm.Reg Ebx) (pos 1))
    ∷ plain (insn.Lea Ecx (near Esp 8))
    ∷ plain (insn.MovImm (rm.Reg Edx) (pos 1))
    ∷ plain (insn.Int 0x80)
    ∷ plain (insn.MovZx8 Eax (rm8.Mem (near Esp 8)))
    ∷ plain (insn.Pop Ebx)
    ∷ plain insn.Ret
    ∷ []

-- `getchar`: `read` of one byte to a word of 0 on the stack. EAX is then 1, or 0 at the input's end, and the
-- result is the word, or -1: one less than EAX, with the word's bits.
abbrev pub getchar_items : List Item
getchar_items =
    plain (insn.Push (rm.Reg Ebx))
    ∷ plain (insn.PushImm (pos 0))
    ∷ plain (insn.MovImm (rm.Reg Eax) (pos 3))
    ∷ plain (insn.MovImm (rm.Reg Ebx) (pos 0))
    ∷ plain (insn.Mov (rm.Reg Ecx) Esp)
    ∷ plain (insn.MovImm (rm.Reg Edx) (pos 1))
    ∷ plain (insn.Int 0x80)
    ∷ plain (insn.AluImm Sub (rm.Reg Eax) (pos 1))
    ∷ plain (insn.Pop Ecx)
    ∷ plain (insn.Alu Or (rm.Reg Eax) Ecx)
    ∷ plain (insn.Pop Ebx)
    ∷ plain insn.Ret
    ∷ []

-- `exit` with the argument word, of which the system keeps the low byte
abbrev pub exit_items : List Item
exit_items =
    plain (insn.MovLoad Ebx (near Esp 4))
    ∷ plain (insn.MovImm (rm.Reg Eax) (pos 1))
    ∷ plain (insn.Int 0x80)
    ∷ []

-- the trap of a failed check
abbrev pub check_items : List Item
check_items = plain insn.Ud2 ∷ []

-- ---- a text, its data, and the first state

-- the number that is n or more and a multiple of k
abbrev pub round_up : ℕ → ℕ → ℕ
round_up k n = k * ((n + (k - 1)) / k)

-- where the text begins
abbrev pub text_start : ℕ
text_start = 0x08048000

-- the bytes of an object's elements, and how much memory they take
abbrev pub element_bytes : Object → List ℕ
element_bytes object = flat_map (λ (z : ℤ). little_bytes object.width (cast_unsigned w32 z)) object.elements

abbrev pub elements_size : Object → ℕ
elements_size object = round_up 4 (object.width * length object.elements)

-- the number of elements in four bytes, the elements, and zeros up to a multiple of 4
abbrev pub object_bytes : Object → List ℕ
object_bytes object =
    little_bytes 4 (length object.elements) ++ element_bytes object
    ++ zeros (elements_size object - object.width * length object.elements)

-- the depth word, and then the static objects
abbrev pub data_bytes : List Object → List ℕ
data_bytes objects = zeros 4 ++ flat_map object_bytes objects

-- where element 0 of each object is, where they begin at the address
abbrev pub object_addresses : ℕ → List Object → List ℕ
object_addresses address [] = []
object_addresses address (object ∷ objects) =
    (address + 4) ∷ object_addresses (address + 4 + elements_size object) objects

-- where the data of a text begins, and where their memory and the stack end
abbrev pub data_start : List ℕ → ℕ
data_start text = text_start + round_up 0x1000 (length text)

abbrev pub data_memory : List Object → ℕ
data_memory objects = round_up 4 (length (data_bytes objects)) + 0x04001000

abbrev pub stack_end : List ℕ → List Object → ℕ
stack_end text objects = data_start text + data_memory objects

-- The text: the start, the functions in this order of their numbers, and the other routines, one after the other. The
-- functions, their places and their addresses are listed by their numbers.
pub record IsText (functions : List (List Item)) (order : List ℕ) (objects : List Object) (main : ℕ)
    (places : List Places) (symbols : Symbols) (text : List ℕ) : Type 0 where
  pub start : List ℕ
  pub code : List ℕ
  pub putchar : List ℕ
  pub getchar : List ℕ
  pub exit : List ℕ
  pub check : List ℕ
  pub whole : text ≡ start ++ code ++ putchar ++ getchar ++ exit ++ check
  pub start_at : (none : Places) → ItemsAt symbols none text_start
      (start_items (stack_end text objects) symbols.depth main) start
  pub order_is : IsOrder (length functions) order
  pub places_are : length places ≡ length functions
  pub addresses_are : length symbols.functions ≡ length functions
  pub code_at : FunctionsAt symbols functions places order (text_start + length start) code
  pub putchar_is : symbols.putchar ≡ text_start + length (start ++ code)
  pub putchar_at : (none : Places) → ItemsAt symbols none symbols.putchar putchar_items putchar
  pub getchar_is : symbols.getchar ≡ symbols.putchar + length putchar
  pub getchar_at : (none : Places) → ItemsAt symbols none symbols.getchar getchar_items getchar
  pub exit_is : symbols.exit ≡ symbols.getchar + length getchar
  pub exit_at : (none : Places) → ItemsAt symbols none symbols.exit exit_items exit
  pub check_is : symbols.check ≡ symbols.exit + length exit
  pub check_at : (none : Places) → ItemsAt symbols none symbols.check check_items check
  pub depth_is : symbols.depth ≡ data_start text
  pub objects_are : symbols.objects ≡ object_addresses (data_start text + 4) objects

-- the memory of an image with this text and these static objects
abbrev pub text_area : List ℕ → Area
text_area text = record { address = text_start; bytes = text; readable = true; writable = false; runnable = true }

abbrev pub data_area : List ℕ → List Object → Area
data_area text objects =
    record {
      address = data_start text;
      bytes = data_bytes objects ++ zeros (data_memory objects - length (data_bytes objects));
      readable = true;
      writable = true;
      runnable = false;
    }

-- the first state of this image over an input: every register is 0, the flags are unknown, and nothing was read
-- or written
abbrev pub text_state : List ℕ → List Object → List ℕ → State
text_state text objects input =
    record {
      registers = zero_registers;
      flags = None;
      eip = text_start;
      memory =
          text_area text ∷ data_area text objects ∷ [];
      left = input;
      taken = 0;
      written = [];
    }
