-- The text of a map: lines of words, with one space between two words and a newline behind each line. Numbers are
-- decimal, and addresses are eight lower-case hexadecimal digits.
use Rattle.std.specs.Prelude.{ℕ, zero, suc, ◌+◌, ◌-◌, ◌/◌, ◌%◌, List, [], ◌∷◌, ◌++◌, flat_map, map, codes, decimal}
use Rattle.std.specs.Prelude.{nat_lt, if◌then◌else◌, Option, Some, None}
use Rattle.std.specs.Fmt.{signed_decimal}
use Rattle.pcc_base.specs.Ascii.{newline, space, minus, colon, equals_sign, digit_zero, digit_one, digit_two}
use Rattle.pcc_base.specs.Ascii.{capital_x, capital_y, capital_z, letter_a, letter_b, letter_l, letter_n, letter_u}
use Rattle.pcc_base.specs.declared.run.Width.{Width}
use Rattle.pcc_base.specs.declared.run.Width.TheVariants.{One, Two}
use Rattle.puzzle_board.specs.declared.area.Area.{Area}
use Rattle.puzzle_board.specs.declared.area.Column.{Column}
use Rattle.puzzle_board.specs.declared.area.Column.TheVariants.{Both, Upper, Lower, Neither}
use Rattle.puzzle_board.specs.declared.piece.Kind.{Kind}
use Rattle.puzzle_board.specs.declared.piece.Kind.TheVariants.{X, Y, Z}
use Rattle.puzzle_board.specs.declared.piece.Piece.{Piece}
use Rattle.ia32_insn.specs.declared.register_names.Reg32.{Reg32}
use Rattle.ia32_insn.specs.declared.register_names.Reg32.TheVariants.{Eax, Ecx, Edx, Ebx, Esp, Ebp, Esi, Edi}
use Rattle.ia32_insn.specs.declared.register_names.Reg8.{Reg8}
use Rattle.ia32_insn.specs.declared.register_names.Reg8.TheVariants.{Al, Cl, Dl, Bl, Ah, Ch, Dh, Bh}
use Rattle.ia32_insn.specs.Places.{Place, InWord, InByte, InSlot}
use Rattle.flow_graph.specs.declared.op.Bits.{Bits}
use Rattle.flow_graph.specs.declared.op.Bits.TheVariants.{Eight, Sixteen, ThirtyTwo}
use Rattle.flow_graph.specs.declared.op.Comparison.{Comparison}
use Rattle.flow_graph.specs.declared.op.Comparison.TheVariants.{Eq, Ne, Lt, Le, Gt, Ge}
use Rattle.flow_graph.specs.declared.op.Order.{Order}
use Rattle.flow_graph.specs.declared.op.Order.TheVariants as order
use Rattle.flow_graph.specs.declared.op.Op.{Op}
use Rattle.flow_graph.specs.declared.op.Op.TheVariants as op
use Rattle.map_text.specs.Maps.{Map, MapObject, MapFunction, MapArray, MapVariable, MapPoint, Standing, Named}
use Rattle.map_text.specs.Maps.{NamesScalar, NamesArray, NamesIndex, Temporary}

pub data Line : Type 0 where
  -- the first line
  TitleLine : Line
  -- a static object: the address of its element 0, its elements, and the bytes of one
  ObjectLine : (number address count bytes : ℕ) → Line
  -- the lines up to the next function are this function's
  FunctionLine : (number : ℕ) (name : List ℕ) (frame : ℕ) → Line
  -- a frame array, so many bytes below the frame
  ArrayLine : (number below count bytes : ℕ) → Line
  VariableLine : (number : ℕ) (width : Width) (name : Named) → Line
  -- the points up to the next block are this block's
  BlockLine : (number : ℕ) → Line
  PointLine : (number address : ℕ) (op : Op) → Line
  -- the board of the point above
  BoardLine : (areas : List Area) (pieces : List Piece) → Line
  -- where variables stand before the point above, and after it
  BeforeLine : (standings : List Standing) → Line
  AfterLine : (standings : List Standing) → Line
  -- the variables that are spilled at the point above
  SpilledLine : (variables : List ℕ) → Line
  -- the last line
  EndLine : Line

-- ---- the lines of a map

-- the lines of elements that are numbered from k on in order
abbrev pub numbered : {X : Type 0} → (ℕ → X → List Line) → ℕ → List X → List Line
numbered lines k [] = []
numbered lines k (x ∷ xs) = lines k x ++ numbered lines (suc k) xs

abbrev pub object_lines : ℕ → MapObject → List Line
object_lines k o = ObjectLine k o.address o.count o.bytes ∷ []

abbrev pub array_lines : ℕ → MapArray → List Line
array_lines k a = ArrayLine k a.below a.count a.bytes ∷ []

abbrev pub variable_lines : ℕ → MapVariable → List Line
variable_lines k v = VariableLine k v.width v.named ∷ []

abbrev pub point_lines : MapPoint → List Line
point_lines p =
    PointLine p.number p.address p.op
    ∷ BoardLine p.areas p.pieces
    ∷ BeforeLine p.before
    ∷ AfterLine p.after
    ∷ SpilledLine p.spilled
    ∷ []

abbrev pub block_lines : ℕ → List MapPoint → List Line
block_lines k points = BlockLine k ∷ flat_map point_lines points

abbrev pub function_lines : ℕ → MapFunction → List Line
function_lines k f =
    FunctionLine k f.name f.frame
    ∷ numbered array_lines 0 f.arrays
    ++ numbered variable_lines 0 f.variables
    ++ numbered block_lines 0 f.blocks

abbrev pub lines_of : Map → List Line
lines_of m =
    TitleLine ∷ numbered object_lines 0 m.objects ++ numbered function_lines 0 m.functions ++ EndLine ∷ []

-- ---- fields

abbrev pub hexadecimal_digit : ℕ → ℕ
hexadecimal_digit d = if nat_lt d 10 then digit_zero + d else letter_a - 10 + d

-- the lowest k hexadecimal digits of n, the highest first
abbrev pub hexadecimal : ℕ → ℕ → List ℕ
hexadecimal zero n = []
hexadecimal (suc k) n = hexadecimal k (n / 16) ++ hexadecimal_digit (n % 16) ∷ []

abbrev pub address_text : ℕ → List ℕ
address_text n = hexadecimal 8 n

abbrev pub register_text : Reg32 → List ℕ
register_text Eax = codes "eax"
register_text Ecx = codes "ecx"
register_text Edx = codes "edx"
register_text Ebx = codes "ebx"
register_text Esp = codes "esp"
register_text Ebp = codes "ebp"
register_text Esi = codes "esi"
register_text Edi = codes "edi"

abbrev pub byte_text : Reg8 → List ℕ
byte_text Al = codes "al"
byte_text Cl = codes "cl"
byte_text Dl = codes "dl"
byte_text Bl = codes "bl"
byte_text Ah = codes "ah"
byte_text Ch = codes "ch"
byte_text Dh = codes "dh"
byte_text Bh = codes "bh"

abbrev pub place_text : Place → List ℕ
place_text (InWord r) = register_text r
place_text (InByte r) = byte_text r
place_text (InSlot below) = codes "[ebp-" ++ decimal below ++ codes "]"

abbrev pub named_text : Named → List ℕ
named_text (NamesScalar name) = name
named_text (NamesArray name) = name ++ codes ".base"
named_text (NamesIndex name) = name ++ codes ".index"
named_text Temporary = codes "-"

abbrev pub width_text : Width → List ℕ
width_text One = codes "1"
width_text Two = codes "2"

abbrev pub bits_text : Bits → List ℕ
bits_text Eight = codes "8"
bits_text Sixteen = codes "16"
bits_text ThirtyTwo = codes "32"

abbrev pub comparison_text : Comparison → List ℕ
comparison_text Eq = codes "eq"
comparison_text Ne = codes "ne"
comparison_text Lt = codes "lt"
comparison_text Le = codes "le"
comparison_text Gt = codes "gt"
comparison_text Ge = codes "ge"

-- how two numbers without sign are ordered
abbrev pub order_text : Order → List ℕ
order_text order.Lt = codes "lt"
order_text order.Le = codes "le"
order_text order.Gt = codes "gt"
order_text order.Ge = codes "ge"

-- a variable, or `-` where there is none
abbrev pub if_any_text : Option ℕ → List ℕ
if_any_text None = codes "-"
if_any_text (Some v) = decimal v

-- an argument word, with the space before it
abbrev pub argument_text : ℕ → List ℕ
argument_text v = codes " " ++ decimal v

-- the words of an op
abbrev pub op_words : Op → List (List ℕ)
op_words (op.Const d n) = codes "const" ∷ decimal d ∷ signed_decimal n ∷ []
op_words (op.Copy d s) = codes "copy" ∷ decimal d ∷ decimal s ∷ []
op_words (op.Wide d s) = codes "wide" ∷ decimal d ∷ decimal s ∷ []
op_words (op.Zero d s) = codes "zero" ∷ decimal d ∷ decimal s ∷ []
op_words (op.Low d s) = codes "low" ∷ decimal d ∷ decimal s ∷ []
op_words (op.Low16 d s) = codes "low16" ∷ decimal d ∷ decimal s ∷ []
op_words (op.Neg d a) = codes "neg" ∷ decimal d ∷ decimal a ∷ []
op_words (op.Not d a) = codes "not" ∷ decimal d ∷ decimal a ∷ []
op_words (op.Add d a b) = codes "add" ∷ decimal d ∷ decimal a ∷ decimal b ∷ []
op_words (op.Sub d a b) = codes "sub" ∷ decimal d ∷ decimal a ∷ decimal b ∷ []
op_words (op.Mul d a b) = codes "mul" ∷ decimal d ∷ decimal a ∷ decimal b ∷ []
op_words (op.And d a b) = codes "and" ∷ decimal d ∷ decimal a ∷ decimal b ∷ []
op_words (op.Or d a b) = codes "or" ∷ decimal d ∷ decimal a ∷ decimal b ∷ []
op_words (op.Xor d a b) = codes "xor" ∷ decimal d ∷ decimal a ∷ decimal b ∷ []
op_words (op.Shl d a c) = codes "shl" ∷ decimal d ∷ decimal a ∷ decimal c ∷ []
op_words (op.Sar d a c) = codes "sar" ∷ decimal d ∷ decimal a ∷ decimal c ∷ []
op_words (op.Shr d a c) = codes "shr" ∷ decimal d ∷ decimal a ∷ decimal c ∷ []
op_words (op.Div d a b) = codes "div" ∷ decimal d ∷ decimal a ∷ decimal b ∷ []
op_words (op.Rem d a b) = codes "rem" ∷ decimal d ∷ decimal a ∷ decimal b ∷ []
op_words (op.Udiv d a b) = codes "udiv" ∷ decimal d ∷ decimal a ∷ decimal b ∷ []
op_words (op.Urem d a b) = codes "urem" ∷ decimal d ∷ decimal a ∷ decimal b ∷ []
op_words (op.Set how d a b) = codes "set" ∷ comparison_text how ∷ decimal d ∷ decimal a ∷ decimal b ∷ []
op_words (op.Setu how d a b) = codes "setu" ∷ order_text how ∷ decimal d ∷ decimal a ∷ decimal b ∷ []
op_words (op.Frame d k) = codes "frame" ∷ decimal d ∷ decimal k ∷ []
op_words (op.Static d k) = codes "static" ∷ decimal d ∷ decimal k ∷ []
op_words (op.Load bits d p i) = codes "load" ∷ bits_text bits ∷ decimal d ∷ decimal p ∷ decimal i ∷ []
op_words (op.Store bits p i s) = codes "store" ∷ bits_text bits ∷ decimal p ∷ decimal i ∷ decimal s ∷ []
op_words (op.Get bits d k) = codes "get" ∷ bits_text bits ∷ decimal d ∷ decimal k ∷ []
op_words (op.Put bits k s) = codes "put" ∷ bits_text bits ∷ decimal k ∷ decimal s ∷ []
op_words (op.Clear k) = codes "clear" ∷ decimal k ∷ []
op_words (op.Param d k) = codes "param" ∷ decimal d ∷ decimal k ∷ []
op_words (op.Call d f arguments) = codes "call" ∷ if_any_text d ∷ decimal f ∷ map decimal arguments
op_words (op.Putchar d s) = codes "putchar" ∷ decimal d ∷ decimal s ∷ []
op_words (op.Getchar d) = codes "getchar" ∷ decimal d ∷ []
op_words (op.Exit s) = codes "exit" ∷ decimal s ∷ []
op_words (op.Same a b) = codes "same" ∷ decimal a ∷ decimal b ∷ []
op_words (op.Mark s) = codes "mark" ∷ decimal s ∷ []
op_words op.Turn = codes "turn" ∷ []
op_words (op.Jump x) = codes "jump" ∷ decimal x ∷ []
op_words (op.Branch how a b x y) = codes "branch" ∷ comparison_text how ∷ decimal a ∷ decimal b ∷ decimal x ∷ decimal y
    ∷ []
op_words (op.Branchu how a b x y) = codes "branchu" ∷ order_text how ∷ decimal a ∷ decimal b ∷ decimal x ∷ decimal y
    ∷ []
op_words (op.Return a) = codes "return" ∷ if_any_text a ∷ []

-- ---- words

-- which rows of a column are free: `b` both, `u` upper, `l` lower, `n` neither
abbrev pub column_letter : Column → ℕ
column_letter Both = letter_b
column_letter Upper = letter_u
column_letter Lower = letter_l
column_letter Neither = letter_n

-- an area, its low column first
abbrev pub area_word : Area → List ℕ
area_word a = column_letter a.low ∷ column_letter a.high ∷ []

abbrev pub kind_letter : Kind → ℕ
kind_letter X = capital_x
kind_letter Y = capital_y
kind_letter Z = capital_z

abbrev pub width_digit : Width → ℕ
width_digit One = digit_one
width_digit Two = digit_two

-- a piece: its kind, its width and its variable
abbrev pub piece_word : Piece → List ℕ
piece_word p = kind_letter p.kind ∷ width_digit p.width ∷ colon ∷ decimal p.var

-- a variable and its place
abbrev pub standing_word : Standing → List ℕ
standing_word s = decimal s.variable ++ equals_sign ∷ place_text s.place

abbrev pub line_words : Line → List (List ℕ)
line_words TitleLine = codes "pcc" ∷ codes "map" ∷ codes "1" ∷ []
line_words (ObjectLine number address count bytes) =
    codes "object" ∷ decimal number ∷ address_text address ∷ decimal count ∷ decimal bytes ∷ []
line_words (FunctionLine number name frame) =
    codes "function" ∷ decimal number ∷ name ∷ codes "frame" ∷ decimal frame ∷ []
line_words (ArrayLine number below count bytes) =
    codes "array" ∷ decimal number ∷ (minus ∷ decimal below) ∷ decimal count ∷ decimal bytes ∷ []
line_words (VariableLine number width name) =
    codes "var" ∷ decimal number ∷ width_text width ∷ named_text name ∷ []
line_words (BlockLine number) = codes "block" ∷ decimal number ∷ []
line_words (PointLine number address op) = codes "point" ∷ decimal number ∷ address_text address ∷ op_words op
line_words (BoardLine areas pieces) =
    codes "board" ∷ map area_word areas ++ codes "pieces" ∷ map piece_word pieces
line_words (BeforeLine standings) = codes "before" ∷ map standing_word standings
line_words (AfterLine standings) = codes "after" ∷ map standing_word standings
line_words (SpilledLine variables) = codes "spilled" ∷ map decimal variables
line_words EndLine = codes "end" ∷ []

-- ---- texts

-- words, each behind a space
abbrev pub each_spaced : List (List ℕ) → List ℕ
each_spaced [] = []
each_spaced (word ∷ words) = space ∷ (word ++ each_spaced words)

-- words with a space between them
abbrev pub spaced : List (List ℕ) → List ℕ
spaced [] = []
spaced (word ∷ words) = word ++ each_spaced words

abbrev pub line_text : Line → List ℕ
line_text line = spaced (line_words line) ++ newline ∷ []

abbrev pub map_text : Map → List ℕ
map_text m = flat_map line_text (lines_of m)
