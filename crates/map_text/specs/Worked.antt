-- A small map and a state of the machine, to read the definitions by: `main` has called another function,
-- whose mark is at EIP. The point of the call is the last one below the address that it returns to.
use Rattle.std.specs.Prelude.{ℕ, true, false, List, [], ◌∷◌, ◌++◌, replicate, None, codes, negsuc, pos}
use Rattle.byteorder.specs.Endian.{little_bytes}
use Rattle.pcc_base.specs.declared.run.Width.TheVariants.{One, Two}
use Rattle.pcc_base.specs.Outcome.{ArrayName, Number, Array, Visit}
use Rattle.ia32_insn.specs.declared.register_names.Reg32.TheVariants.{Eax, Edx, Ebx}
use Rattle.ia32_insn.specs.declared.register_names.Reg8.TheVariants.{Ch}
use Rattle.ia32_insn.specs.State.{State}
use Rattle.flow_graph.specs.declared.op.Op.TheVariants.{Call, Mark}
use Rattle.pcc_base.specs.declared.run.Width.{Width}
use Rattle.ia32_insn.specs.Places.{Place, InWord, InByte, InSlot}
use Rattle.map_text.specs.Maps.{Map, MapPoint, MapVariable, Standing, Named, NamesScalar, NamesArray, NamesIndex}
use Rattle.map_text.specs.Maps.{Temporary}

abbrev pub stands : ℕ → Place → Standing
stands variable place = record { variable = variable; place = place }

abbrev pub variable : Width → Named → MapVariable
variable width named = record { width = width; named = named }

-- a mark at an address
abbrev pub point : ℕ → ℕ → List Standing → MapPoint
point address statement before =
    record {
      number = 0;
      address = address;
      op = Mark statement;
      areas = [];
      pieces = [];
      before = before;
      after = [];
      spilled = [];
    }

-- a call of function 1 at an address
abbrev pub call_point : ℕ → MapPoint
call_point address =
    record {
      number = 1;
      address = address;
      op = Call None 1 [];
      areas = [];
      pieces = [];
      before = [];
      after = [];
      spilled = [];
    }

abbrev pub worked_standings : List Standing
worked_standings =
    stands 0 (InWord Eax)
    ∷ stands 1 (InWord Ebx)
    ∷ stands 2 (InSlot 20)
    ∷ stands 3 (InByte Ch)
    ∷ stands 4 (InWord Edx)
    ∷ []

-- one static object; `main` with an array 44 bytes below its frame, and `f` with one 60 below; before
-- statement 7 stand a scalar, a pointer's two variables, a byte and a temporary
abbrev pub worked_map : Map
worked_map =
    record {
      objects = record { address = 2008; count = 3; bytes = 4 } ∷ [];
      functions =
          record {
            name = codes "main";
            frame = 80;
            arrays = record { below = 44; count = 2; bytes = 4 } ∷ [];
            variables = [];
            blocks = (point 1005 3 [] ∷ call_point 1010 ∷ []) ∷ [];
          }
          ∷ record {
            name = codes "f";
            frame = 80;
            arrays = record { below = 60; count = 5; bytes = 1 } ∷ [];
            variables =
                variable Two (NamesScalar (codes "x"))
                ∷ variable Two (NamesArray (codes "p"))
                ∷ variable Two (NamesIndex (codes "p"))
                ∷ variable One (NamesScalar (codes "c"))
                ∷ variable Two Temporary
                ∷ [];
            blocks = (point 1007 4 [] ∷ point 1100 7 worked_standings ∷ []) ∷ [];
          }
          ∷ [];
    }

-- at 2000 the depth word 2; the slot [ebp-20] at 2180 holds 3; the frame at 2200 holds the address of
-- main's frame, 2400, and above it the return address 1020
abbrev pub worked_data : List ℕ
worked_data =
    little_bytes 4 2 ++ replicate 176 0 ++ little_bytes 4 3 ++ replicate 16 0 ++ little_bytes 4 2400
    ++ little_bytes 4 1020 ++ replicate 192 0 ++ replicate 100 0

-- EAX is -5, EBX this word, CH 255, EDX 9 and EBP 2200
abbrev pub worked_state : ℕ → State
worked_state word =
    record {
      registers =
          little_bytes 4 4294967291 ++ (0 ∷ 255 ∷ 0 ∷ 0 ∷ []) ++ little_bytes 4 9 ++ little_bytes 4 word
          ++ little_bytes 4 2100 ++ little_bytes 4 2200 ++ replicate 8 0;
      flags = None;
      eip = 1100;
      memory =
          record { address = 1000; bytes = replicate 200 0x90; readable = true; writable = false; runnable = true }
          ∷ record { address = 2000; bytes = worked_data; readable = true; writable = true; runnable = false }
          ∷ [];
      left = [];
      taken = 0;
      written = [];
    }

-- what the mark shows where EBX is the address of this array
abbrev pub worked_visit : ArrayName → List Visit
worked_visit array =
    record { statement = 7; values = Number (negsuc 4) ∷ Array array ∷ Number (pos 3) ∷ Number (negsuc 0) ∷ [] } ∷ []
