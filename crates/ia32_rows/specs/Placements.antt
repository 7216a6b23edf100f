-- Where variables, frame arrays and code stand.
use Rattle.std.specs.Prelude.{◌≡◌, ℕ, pos, neg_ℤ, List, [], length, map, slice_get, slice_index_or, Option, Some, None}
use Rattle.ia32_insn.specs.declared.register_names.Reg32.TheVariants.{Ebp}
use Rattle.ia32_insn.specs.Places.{Place}
use Rattle.ia32_insn.specs.declared.operand.Mem.{Mem}
use Rattle.ia32_insn.specs.declared.insn.Insn.{Insn}
use Rattle.ia32_insn.specs.declared.item.Item.{Item}
use Rattle.ia32_insn.specs.Items.{Object, Places, Symbols, IsText}
use Rattle.flow_graph.specs.States.{GraphProgram}

-- the memory so far below EBP
abbrev pub below : ℕ → Mem
below distance = record { base = Some Ebp; index = None; disp = neg_ℤ (pos distance) }

-- A function's frame: its bytes, and how far below EBP element 0 of each frame array is. What is further below EBP than
-- `zeroed` is 0 where the function begins. Each variable stands somewhere before and after each point, or nowhere; and
-- instructions move it from where it stands after a point to where it stands before one that follows.
pub record Placement : Type 0 where
  pub frame : ℕ
  pub zeroed : ℕ
  pub arrays : List ℕ
  pub before : ℕ → ℕ → Option Place
  pub after : ℕ → ℕ → Option Place
  pub between : ℕ → ℕ → List Insn

abbrev pub no_placement : Placement
no_placement =
    record {
      frame = 0;
      zeroed = 0;
      arrays = [];
      before = λ point variable. None;
      after = λ point variable. None;
      between = λ point next. [];
    }

-- The code of a program of graphs: for each function its placement, its items, and where these stand in the text, and
-- the functions' numbers in the order of the text.
pub record Code : Type 0 where
  pub program : GraphProgram
  pub placements : List Placement
  pub items : List (List Item)
  pub order : List ℕ
  pub places : List Places
  pub symbols : Symbols
  pub text : List ℕ

-- the static objects of the program, as its image holds them
abbrev pub objects_of : GraphProgram → List Object
objects_of program = map (λ object. record { width = object.width; elements = object.elements }) program.objects

abbrev pub placement_of : Code → ℕ → Placement
placement_of code function = slice_index_or code.placements function no_placement

-- the address of a point of a function
abbrev pub address_in : Option Places → ℕ → ℕ
address_in None point = 0
address_in (Some places) point = places.points point

abbrev pub point_address : Code → ℕ → ℕ → ℕ
point_address code function point = address_in (slice_get code.places function) point

-- the items are laid out in the text, function by function
pub record IsCode (code : Code) : Type 0 where
  pub text : IsText code.items code.order (objects_of code.program) code.program.main code.places code.symbols code.text
  pub functions : length code.items ≡ length code.program.functions
  pub placements : length code.placements ≡ length code.program.functions
