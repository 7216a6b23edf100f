-- The text of a map read from the front: cut into lines of words, each line read by its first word, and the map made of
-- the lines one after another.
use Rattle.std.specs.Prelude.{ℕ, List, [], ◌∷◌, ◌++◌, codes, bytes_eq, ◌==◌, Option, Some, None, option_map}
use Rattle.std.specs.Prelude.{if◌then◌else◌}
use Rattle.std.specs.List.{slice_split, join_with_byte}
use Rattle.pcc_base.specs.Ascii.{newline, space}
use Rattle.puzzle_board.specs.declared.area.Area.{Area}
use Rattle.puzzle_board.specs.declared.area.Column.TheVariants.{Both}
use Rattle.ia32_insn.specs.Reading.{◌>>=◌}
use Rattle.flow_graph.specs.declared.op.Op.{Op}
use Rattle.flow_graph.specs.declared.op.Op.TheVariants as op
use Rattle.map_text.specs.Fields.{number_in, address_in, signed_in, below_in, bytes_in, width_in, named_in, if_any_in}
use Rattle.map_text.specs.Fields.{bits_in, comparison_in, order_in, standing_in, area_in, piece_in, all_in}
use Rattle.map_text.specs.Maps.{Map, MapFunction, MapPoint}
use Rattle.map_text.specs.Words.{AfterLine, ArrayLine, BeforeLine, BlockLine, BoardLine, EndLine, FunctionLine, Line}
use Rattle.map_text.specs.Words.{ObjectLine, PointLine, SpilledLine, TitleLine, VariableLine}

-- ---- ops, by how many words follow the first

-- of one number
unfoldable pub op_of_one : List ℕ → ℕ → Option Op
op_of_one word a =
    if bytes_eq word (codes "clear") then Some (op.Clear a)
    else if bytes_eq word (codes "getchar") then Some (op.Getchar a)
    else if bytes_eq word (codes "exit") then Some (op.Exit a)
    else if bytes_eq word (codes "mark") then Some (op.Mark a)
    else if bytes_eq word (codes "jump") then Some (op.Jump a)
    else None

-- of two numbers
unfoldable pub op_of_two : List ℕ → ℕ → ℕ → Option Op
op_of_two word a b =
    if bytes_eq word (codes "copy") then Some (op.Copy a b)
    else if bytes_eq word (codes "wide") then Some (op.Wide a b)
    else if bytes_eq word (codes "zero") then Some (op.Zero a b)
    else if bytes_eq word (codes "low") then Some (op.Low a b)
    else if bytes_eq word (codes "low16") then Some (op.Low16 a b)
    else if bytes_eq word (codes "neg") then Some (op.Neg a b)
    else if bytes_eq word (codes "not") then Some (op.Not a b)
    else if bytes_eq word (codes "frame") then Some (op.Frame a b)
    else if bytes_eq word (codes "static") then Some (op.Static a b)
    else if bytes_eq word (codes "param") then Some (op.Param a b)
    else if bytes_eq word (codes "putchar") then Some (op.Putchar a b)
    else if bytes_eq word (codes "same") then Some (op.Same a b)
    else None

-- of three numbers
unfoldable pub op_of_three : List ℕ → ℕ → ℕ → ℕ → Option Op
op_of_three word a b c =
    if bytes_eq word (codes "add") then Some (op.Add a b c)
    else if bytes_eq word (codes "sub") then Some (op.Sub a b c)
    else if bytes_eq word (codes "mul") then Some (op.Mul a b c)
    else if bytes_eq word (codes "and") then Some (op.And a b c)
    else if bytes_eq word (codes "or") then Some (op.Or a b c)
    else if bytes_eq word (codes "xor") then Some (op.Xor a b c)
    else if bytes_eq word (codes "shl") then Some (op.Shl a b c)
    else if bytes_eq word (codes "sar") then Some (op.Sar a b c)
    else if bytes_eq word (codes "shr") then Some (op.Shr a b c)
    else if bytes_eq word (codes "div") then Some (op.Div a b c)
    else if bytes_eq word (codes "rem") then Some (op.Rem a b c)
    else if bytes_eq word (codes "udiv") then Some (op.Udiv a b c)
    else if bytes_eq word (codes "urem") then Some (op.Urem a b c)
    else None

unfoldable pub op_with_one : List ℕ → List ℕ → Option Op
op_with_one word a =
    if bytes_eq word (codes "return") then option_map op.Return (if_any_in a)
    else (number_in a >>= (λ a. op_of_one word a))

unfoldable pub op_with_two : List ℕ → List ℕ → List ℕ → Option Op
op_with_two word a b =
    if bytes_eq word (codes "const")
    then (do
      to ← number_in a
      number ← signed_in b
      Some (op.Const to number))
    else (do
      a ← number_in a
      b ← number_in b
      op_of_two word a b)

unfoldable pub op_with_three : List ℕ → List ℕ → List ℕ → List ℕ → Option Op
op_with_three word a b c =
    if bytes_eq word (codes "get")
    then (do
      bits ← bits_in a
      to ← number_in b
      object ← number_in c
      Some (op.Get bits to object))
    else if bytes_eq word (codes "put")
    then (do
      bits ← bits_in a
      object ← number_in b
      from ← number_in c
      Some (op.Put bits object from))
    else (do
      a ← number_in a
      b ← number_in b
      c ← number_in c
      op_of_three word a b c)

unfoldable pub op_with_four : List ℕ → List ℕ → List ℕ → List ℕ → List ℕ → Option Op
op_with_four word a b c d =
    if bytes_eq word (codes "set")
    then (do
      how ← comparison_in a
      to ← number_in b
      first ← number_in c
      second ← number_in d
      Some (op.Set how to first second))
    else if bytes_eq word (codes "setu")
    then (do
      how ← order_in a
      to ← number_in b
      first ← number_in c
      second ← number_in d
      Some (op.Setu how to first second))
    else if bytes_eq word (codes "load")
    then (do
      bits ← bits_in a
      to ← number_in b
      array ← number_in c
      index ← number_in d
      Some (op.Load bits to array index))
    else if bytes_eq word (codes "store")
    then (do
      bits ← bits_in a
      array ← number_in b
      index ← number_in c
      from ← number_in d
      Some (op.Store bits array index from))
    else None

unfoldable pub op_with_five : List ℕ → List ℕ → List ℕ → List ℕ → List ℕ → List ℕ → Option Op
op_with_five word a b c d e =
    if bytes_eq word (codes "branch")
    then (do
      how ← comparison_in a
      first ← number_in b
      second ← number_in c
      x ← number_in d
      y ← number_in e
      Some (op.Branch how first second x y))
    else if bytes_eq word (codes "branchu")
    then (do
      how ← order_in a
      first ← number_in b
      second ← number_in c
      x ← number_in d
      y ← number_in e
      Some (op.Branchu how first second x y))
    else None

-- a call, of any number of argument words
unfoldable pub call_in : List (List ℕ) → Option Op
call_in [] = None
call_in (to ∷ []) = None
call_in (to ∷ function ∷ arguments) = do
  to ← if_any_in to
  function ← number_in function
  arguments ← all_in number_in arguments
  Some (op.Call to function arguments)

-- any other op
unfoldable pub op_by : List ℕ → List (List ℕ) → Option Op
op_by word [] = if bytes_eq word (codes "turn") then Some op.Turn else None
op_by word (a ∷ []) = op_with_one word a
op_by word (a ∷ b ∷ []) = op_with_two word a b
op_by word (a ∷ b ∷ c ∷ []) = op_with_three word a b c
op_by word (a ∷ b ∷ c ∷ d ∷ []) = op_with_four word a b c d
op_by word (a ∷ b ∷ c ∷ d ∷ e ∷ []) = op_with_five word a b c d e
op_by word (a ∷ b ∷ c ∷ d ∷ e ∷ f ∷ more) = None

unfoldable pub op_in : List (List ℕ) → Option Op
op_in [] = None
op_in (word ∷ words) = if bytes_eq word (codes "call") then call_in words else op_by word words

-- ---- lines, by what follows the first word

unfoldable pub object_in : List (List ℕ) → Option Line
object_in (number ∷ address ∷ count ∷ bytes ∷ []) = do
  number ← number_in number
  address ← address_in address
  count ← number_in count
  bytes ← bytes_in bytes
  Some (ObjectLine number address count bytes)
object_in _ = None

unfoldable pub function_in : List (List ℕ) → Option Line
function_in (number ∷ name ∷ frame ∷ bytes ∷ []) = do
  number ← number_in number
  bytes ← number_in bytes
  if bytes_eq frame (codes "frame") then Some (FunctionLine number name bytes) else None
function_in _ = None

unfoldable pub array_in : List (List ℕ) → Option Line
array_in (number ∷ offset ∷ count ∷ bytes ∷ []) = do
  number ← number_in number
  below ← below_in offset
  count ← number_in count
  bytes ← bytes_in bytes
  Some (ArrayLine number below count bytes)
array_in _ = None

unfoldable pub variable_in : List (List ℕ) → Option Line
variable_in (number ∷ width ∷ name ∷ []) = do
  number ← number_in number
  width ← width_in width
  name ← named_in name
  Some (VariableLine number width name)
variable_in _ = None

unfoldable pub block_in : List (List ℕ) → Option Line
block_in (number ∷ []) = do
  number ← number_in number
  Some (BlockLine number)
block_in _ = None

unfoldable pub point_in : List (List ℕ) → Option Line
point_in (number ∷ address ∷ words) = do
  number ← number_in number
  address ← address_in address
  op ← op_in words
  Some (PointLine number address op)
point_in _ = None

unfoldable pub board_in : List (List ℕ) → Option Line
board_in (eax ∷ ebx ∷ ecx ∷ edx ∷ word ∷ words) = do
  eax ← area_in eax
  ebx ← area_in ebx
  ecx ← area_in ecx
  edx ← area_in edx
  pieces ← all_in piece_in words
  if bytes_eq word (codes "pieces") then Some (BoardLine (eax ∷ ebx ∷ ecx ∷ edx ∷ []) pieces) else None
board_in _ = None

-- a line, by its first word
unfoldable pub line_by : List ℕ → List (List ℕ) → Option Line
line_by word words =
    if bytes_eq word (codes "point") then point_in words
    else if bytes_eq word (codes "board") then board_in words
    else if bytes_eq word (codes "before") then option_map BeforeLine (all_in standing_in words)
    else if bytes_eq word (codes "after") then option_map AfterLine (all_in standing_in words)
    else if bytes_eq word (codes "spilled") then option_map SpilledLine (all_in number_in words)
    else if bytes_eq word (codes "block") then block_in words
    else if bytes_eq word (codes "var") then variable_in words
    else if bytes_eq word (codes "array") then array_in words
    else if bytes_eq word (codes "function") then function_in words
    else if bytes_eq word (codes "object") then object_in words
    else if bytes_eq word (codes "pcc") then Some TitleLine
    else if bytes_eq word (codes "end") then Some EndLine
    else None

unfoldable pub line_in : List (List ℕ) → Option Line
line_in [] = None
line_in (word ∷ words) = line_by word words

-- the words of a line
abbrev pub words_of : List ℕ → List (List ℕ)
words_of line = slice_split (λ b. b == space) line

-- ---- maps

-- the last element is changed
abbrev pub in_last : {X : Type 0} → (X → X) → List X → List X
in_last change [] = []
in_last change (x ∷ []) = change x ∷ []
in_last change (x ∷ y ∷ xs) = x ∷ in_last change (y ∷ xs)

-- the last function is changed
abbrev pub in_function : (MapFunction → MapFunction) → Map → Map
in_function change m = record { objects = m.objects; functions = in_last change m.functions }

-- the last block of the last function is changed
abbrev pub in_block : (List MapPoint → List MapPoint) → Map → Map
in_block change m = in_function (λ f. record f { blocks = in_last change f.blocks }) m

-- the last point of that block is changed
abbrev pub in_point : (MapPoint → MapPoint) → Map → Map
in_point change m = in_block (in_last change) m

-- four areas, all of whose cells are free
abbrev pub free_areas : List Area
free_areas =
    record { low = Both; high = Both } ∷ record { low = Both; high = Both } ∷ record { low = Both; high = Both }
    ∷ record { low = Both; high = Both } ∷ []

-- a function of which there is only the first line so far, and such a point
abbrev pub new_function : List ℕ → ℕ → MapFunction
new_function name frame = record { name = name; frame = frame; arrays = []; variables = []; blocks = [] }

abbrev pub new_point : ℕ → ℕ → Op → MapPoint
new_point number address op =
    record {
      number = number;
      address = address;
      op = op;
      areas = free_areas;
      pieces = [];
      before = [];
      after = [];
      spilled = [];
    }

-- the map with one line more, which is part of what stands last; no map's parts are kept under their numbers
abbrev pub with_line : Map → Line → Map
with_line m TitleLine = m
with_line m (ObjectLine number address count bytes) =
    record m { objects = m.objects ++ record { address = address; count = count; bytes = bytes } ∷ [] }
with_line m (FunctionLine number name frame) = record m { functions = m.functions ++ new_function name frame ∷ [] }
with_line m (ArrayLine number below count bytes) =
    in_function (λ f. record f { arrays = f.arrays ++ record { below = below; count = count; bytes = bytes } ∷ [] }) m
with_line m (VariableLine number width name) =
    in_function (λ f. record f { variables = f.variables ++ record { width = width; named = name } ∷ [] }) m
with_line m (BlockLine number) = in_function (λ f. record f { blocks = f.blocks ++ [] ∷ [] }) m
with_line m (PointLine number address op) = in_block (λ points. points ++ new_point number address op ∷ []) m
with_line m (BoardLine areas pieces) = in_point (λ p. record p { areas = areas; pieces = pieces }) m
with_line m (BeforeLine standings) = in_point (λ p. record p { before = standings }) m
with_line m (AfterLine standings) = in_point (λ p. record p { after = standings }) m
with_line m (SpilledLine variables) = in_point (λ p. record p { spilled = variables }) m
with_line m EndLine = m

-- the map with a line more and then those of the others, up to the last line of a map; and the text behind that
abbrev pub map_by : Map → Option Line → List (List ℕ) → (Map → Option (Map × List ℕ)) → Option (Map × List ℕ)
map_by m None lines others = None
map_by m (Some EndLine) lines others = Some (m, join_with_byte newline lines)
map_by m (Some line) lines others = others (with_line m line)

abbrev pub map_from : Map → List (List ℕ) → Option (Map × List ℕ)
map_from m [] = None
map_from m (line ∷ lines) = map_by m (line_in (words_of line)) lines (λ n. map_from n lines)

-- the map whose text a text begins with, and what stands behind that
abbrev pub map_in : List ℕ → Option (Map × List ℕ)
map_in text = map_from (record { objects = []; functions = [] }) (slice_split (λ b. b == newline) text)
