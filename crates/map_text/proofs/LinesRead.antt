-- The words of a line are plain, and read as the line.
use Rattle.std.proofs.Common.{true, ◌≡◌, ◌≤◌, ◌⊎◌, ◌==◌, inl, inr, ℕ, suc, ℤ, pos, negsuc, w32, FitsSigned, ◌^◌, List}
use Rattle.std.proofs.Common.{[], ◌∷◌, ◌++◌, codes, decimal, map, Option}
use Rattle.std.proofs.Common.{Some, None, option_map, refl, ap, ◌∙◌, arith, length}
use Rattle.std.specs.Prelude.{⊤}
use Rattle.std.specs.Fmt.{signed_decimal}
use Rattle.std.specs.List.{AllByRecursion, slice_split}
use Rattle.pcc_base.specs.Ascii.{newline, space}
use Rattle.pcc_base.specs.Names.{IsName}
use Rattle.pcc_base.specs.declared.run.Width.{Width}
use Rattle.pcc_base.specs.declared.run.Width.TheVariants.{One, Two}
use Rattle.pcc_base.proofs.Lists.{all-append}
use Rattle.puzzle_board.specs.declared.area.Area.{Area}
use Rattle.puzzle_board.specs.declared.piece.Piece.{Piece}
use Rattle.flow_graph.specs.declared.op.Bits.{Bits}
use Rattle.flow_graph.specs.declared.op.Bits.TheVariants.{Eight, Sixteen, ThirtyTwo}
use Rattle.flow_graph.specs.declared.op.Comparison.{Comparison}
use Rattle.flow_graph.specs.declared.op.Comparison.TheVariants.{Eq, Ne, Lt, Le, Gt, Ge}
use Rattle.flow_graph.specs.declared.op.Order.{Order}
use Rattle.flow_graph.specs.declared.op.Order.TheVariants as order
use Rattle.flow_graph.specs.declared.op.Op.{Op}
use Rattle.flow_graph.specs.declared.op.Op.TheVariants as op
use Rattle.map_text.specs.Fields.{all_in, number_in, piece_in}
use Rattle.map_text.specs.Fields.{standing_in}
use Rattle.map_text.specs.Maps.{IsNamed, IsNumber, Named, Standing}
use Rattle.map_text.specs.Reading.{array_in, block_in, board_in, function_in, line_by, line_in, object_in}
use Rattle.map_text.specs.Reading.{point_in, variable_in, words_of}
use Rattle.map_text.specs.Words.{AfterLine, ArrayLine, BeforeLine, BlockLine, BoardLine, EndLine, FunctionLine, Line}
use Rattle.map_text.specs.Words.{ObjectLine, PointLine, SpilledLine, TitleLine, VariableLine, area_word, bits_text}
use Rattle.map_text.specs.Words.{comparison_text, if_any_text, line_text, line_words, op_words, order_text, piece_word}
use Rattle.map_text.specs.Words.{spaced, standing_word, width_text}
use Rattle.map_text.proofs.FieldsRead.{IsPieceText, all-plain, all-read, area-plain, area-read, bytes-read, named-plain}
use Rattle.map_text.proofs.FieldsRead.{named-read, piece-plain, piece-read, standing-plain, standing-read, width-read}
use Rattle.map_text.proofs.LineRules.{IsAnyNumber, IsStandingText}
use Rattle.map_text.proofs.Numbers.{address-read, below-read, number-read}
use Rattle.map_text.proofs.OpsRead.{IsOpText, op-read}
use Rattle.map_text.proofs.Plain.{IsPlain, avoids, decimal-plain, hexadecimal-plain, line-back, name-plain}
use Rattle.map_text.proofs.Plain.{plain-append, plain-tested, spaced-avoids, words-back}

-- what a line's words need to be read as the line
abbrev pub IsLine : Line → Type 0
IsLine TitleLine = ⊤
IsLine (ObjectLine number address count bytes) =
    IsNumber number × IsNumber address × IsNumber count × ((bytes ≡ 1) ⊎ ((bytes ≡ 2) ⊎ (bytes ≡ 4)))
IsLine (FunctionLine number name frame) = IsNumber number × IsName name × IsNumber frame
IsLine (ArrayLine number below count bytes) =
    IsNumber number × ((1 ≤ below) × (below ≤ 2 ^ 31)) × IsNumber count
    × ((bytes ≡ 1) ⊎ ((bytes ≡ 2) ⊎ (bytes ≡ 4)))
IsLine (VariableLine number width name) = IsNumber number × IsNamed name
IsLine (BlockLine number) = IsNumber number
IsLine (PointLine number address op) = IsNumber number × IsNumber address × IsOpText op
IsLine (BoardLine areas pieces) = (length areas ≡ 4) × AllByRecursion IsPieceText pieces
IsLine (BeforeLine standings) = AllByRecursion IsStandingText standings
IsLine (AfterLine standings) = AllByRecursion IsStandingText standings
IsLine (SpilledLine variables) = AllByRecursion IsNumber variables
IsLine EndLine = ⊤

-- ---- plain words

element-size : (n : ℕ) → (n ≡ 1) ⊎ ((n ≡ 2) ⊎ (n ≡ 4)) → IsNumber n
element-size n (inl e) = omega (arith, e)
element-size n (inr (inl e)) = omega (arith, e)
element-size n (inr (inr e)) = omega (arith, e)

abbrev ArePlain : List (List ℕ) → Type 0
ArePlain words = AllByRecursion IsPlain words

any-plain : (v : Option ℕ) → IsAnyNumber v → IsPlain (if_any_text v)
any-plain None ok = plain-tested (codes "-") refl refl
any-plain (Some n) ok = decimal-plain n ok

signed-plain : (z : ℤ) → FitsSigned w32 z → IsPlain (signed_decimal z)
signed-plain (pos n) fits = decimal-plain n (omega (arith, fits.sfits))
signed-plain (negsuc n) fits =
    plain-append (codes "-") (decimal (suc n)) (plain-tested (codes "-") refl refl)
    (decimal-plain (suc n) (omega (arith, fits.sfits)))

width-plain : (w : Width) → IsPlain (width_text w)
width-plain One = plain-tested (codes "1") refl refl
width-plain Two = plain-tested (codes "2") refl refl

bits-plain : (b : Bits) → IsPlain (bits_text b)
bits-plain Eight = plain-tested (codes "8") refl refl
bits-plain Sixteen = plain-tested (codes "16") refl refl
bits-plain ThirtyTwo = plain-tested (codes "32") refl refl

comparison-plain : (c : Comparison) → IsPlain (comparison_text c)
comparison-plain Eq = plain-tested (codes "eq") refl refl
comparison-plain Ne = plain-tested (codes "ne") refl refl
comparison-plain Lt = plain-tested (codes "lt") refl refl
comparison-plain Le = plain-tested (codes "le") refl refl
comparison-plain Gt = plain-tested (codes "gt") refl refl
comparison-plain Ge = plain-tested (codes "ge") refl refl

order-plain : (o : Order) → IsPlain (order_text o)
order-plain order.Lt = plain-tested (codes "lt") refl refl
order-plain order.Le = plain-tested (codes "le") refl refl
order-plain order.Gt = plain-tested (codes "gt") refl refl
order-plain order.Ge = plain-tested (codes "ge") refl refl

one-plain : (w : List ℕ) → avoids space w ≡ true → avoids newline w ≡ true → (a : ℕ) → IsNumber a → ArePlain (w ∷ decimal a ∷ [])
one-plain w e f a ok = (plain-tested w e f, (decimal-plain a ok, tt))

two-plain : (w : List ℕ) → avoids space w ≡ true → avoids newline w ≡ true → (a b : ℕ)
    → IsNumber a × IsNumber b → ArePlain (w ∷ decimal a ∷ decimal b ∷ [])
two-plain w e f a b ok = (plain-tested w e f, (decimal-plain a ok.0, (decimal-plain b ok.1, tt)))

three-plain : (w : List ℕ) → avoids space w ≡ true → avoids newline w ≡ true → (a b c : ℕ)
    → IsNumber a × IsNumber b × IsNumber c
    → ArePlain (w ∷ decimal a ∷ decimal b ∷ decimal c ∷ [])
three-plain w e f a b c ok = (plain-tested w e f, (decimal-plain a ok.0, (decimal-plain b ok.1, (decimal-plain c ok.2, tt))))

-- two words, and three numbers behind them
word-three-plain : (w how : List ℕ) → avoids space w ≡ true → avoids newline w ≡ true → IsPlain how → (a b c : ℕ)
    → IsNumber a × IsNumber b × IsNumber c → ArePlain (w ∷ how ∷ decimal a ∷ decimal b ∷ decimal c ∷ [])
word-three-plain w how e f h a b c ok =
    (plain-tested w e f, (h, (decimal-plain a ok.0, (decimal-plain b ok.1, (decimal-plain c ok.2, tt)))))

-- and four
word-four-plain : (w how : List ℕ) → avoids space w ≡ true → avoids newline w ≡ true → IsPlain how → (a b x y : ℕ)
    → IsNumber a × IsNumber b × IsNumber x × IsNumber y
    → ArePlain (w ∷ how ∷ decimal a ∷ decimal b ∷ decimal x ∷ decimal y ∷ [])
word-four-plain w how e f h a b x y ok = (
  plain-tested w e f,
  (
    h,
    (decimal-plain a ok.0, (decimal-plain b ok.1, (decimal-plain x ok.2, (decimal-plain y ok.3, tt)))),
  ),
)

op-plain : (o : Op) → IsOpText o → ArePlain (op_words o)
op-plain (op.Const d n) ok =
    (plain-tested (codes "const") refl refl, (decimal-plain d ok.0, (signed-plain n ok.1, tt)))
op-plain (op.Copy a b) ok = two-plain (codes "copy") refl refl a b ok
op-plain (op.Wide a b) ok = two-plain (codes "wide") refl refl a b ok
op-plain (op.Zero a b) ok = two-plain (codes "zero") refl refl a b ok
op-plain (op.Low a b) ok = two-plain (codes "low") refl refl a b ok
op-plain (op.Low16 a b) ok = two-plain (codes "low16") refl refl a b ok
op-plain (op.Neg a b) ok = two-plain (codes "neg") refl refl a b ok
op-plain (op.Not a b) ok = two-plain (codes "not") refl refl a b ok
op-plain (op.Add d a b) ok = three-plain (codes "add") refl refl d a b ok
op-plain (op.Sub d a b) ok = three-plain (codes "sub") refl refl d a b ok
op-plain (op.Mul d a b) ok = three-plain (codes "mul") refl refl d a b ok
op-plain (op.And d a b) ok = three-plain (codes "and") refl refl d a b ok
op-plain (op.Or d a b) ok = three-plain (codes "or") refl refl d a b ok
op-plain (op.Xor d a b) ok = three-plain (codes "xor") refl refl d a b ok
op-plain (op.Shl d a b) ok = three-plain (codes "shl") refl refl d a b ok
op-plain (op.Sar d a b) ok = three-plain (codes "sar") refl refl d a b ok
op-plain (op.Shr d a b) ok = three-plain (codes "shr") refl refl d a b ok
op-plain (op.Div d a b) ok = three-plain (codes "div") refl refl d a b ok
op-plain (op.Rem d a b) ok = three-plain (codes "rem") refl refl d a b ok
op-plain (op.Udiv d a b) ok = three-plain (codes "udiv") refl refl d a b ok
op-plain (op.Urem d a b) ok = three-plain (codes "urem") refl refl d a b ok
op-plain (op.Set how d a b) ok = word-three-plain (codes "set") _ refl refl (comparison-plain how) d a b ok
op-plain (op.Setu how d a b) ok = word-three-plain (codes "setu") _ refl refl (order-plain how) d a b ok
op-plain (op.Frame d k) ok = two-plain (codes "frame") refl refl d k ok
op-plain (op.Static d k) ok = two-plain (codes "static") refl refl d k ok
op-plain (op.Load bits d p i) ok = word-three-plain (codes "load") _ refl refl (bits-plain bits) d p i ok
op-plain (op.Store bits p i s) ok = word-three-plain (codes "store") _ refl refl (bits-plain bits) p i s ok
op-plain (op.Get bits d k) ok =
    (plain-tested (codes "get") refl refl, (bits-plain bits, (decimal-plain d ok.0, (decimal-plain k ok.1, tt))))
op-plain (op.Put bits k s) ok =
    (plain-tested (codes "put") refl refl, (bits-plain bits, (decimal-plain k ok.0, (decimal-plain s ok.1, tt))))
op-plain (op.Clear k) ok = one-plain (codes "clear") refl refl k ok
op-plain (op.Param d k) ok = two-plain (codes "param") refl refl d k ok
op-plain (op.Call d f words) ok = (
  plain-tested (codes "call") refl refl,
  (
    any-plain d ok.0,
    (
      decimal-plain f ok.1,
      all-plain decimal IsNumber decimal-plain words ok.2,
    ),
  ),
)
op-plain (op.Putchar d s) ok = two-plain (codes "putchar") refl refl d s ok
op-plain (op.Getchar d) ok = one-plain (codes "getchar") refl refl d ok
op-plain (op.Exit s) ok = one-plain (codes "exit") refl refl s ok
op-plain (op.Same a b) ok = two-plain (codes "same") refl refl a b ok
op-plain (op.Mark s) ok = one-plain (codes "mark") refl refl s ok
op-plain op.Turn ok = (plain-tested (codes "turn") refl refl, tt)
op-plain (op.Jump x) ok = one-plain (codes "jump") refl refl x ok
op-plain (op.Branch how a b x y) ok = word-four-plain (codes "branch") _ refl refl (comparison-plain how) a b x y ok
op-plain (op.Branchu how a b x y) ok = word-four-plain (codes "branchu") _ refl refl (order-plain how) a b x y ok
op-plain (op.Return a) ok = (plain-tested (codes "return") refl refl, (any-plain a ok, tt))

areas-plain : (areas : List Area) → ArePlain (map area_word areas)
areas-plain [] = tt
areas-plain (a ∷ areas) = (area-plain a, areas-plain areas)

line-plain : (line : Line) → IsLine line → ArePlain (line_words line)
line-plain TitleLine ok = (
  plain-tested (codes "pcc") refl refl,
  (
    plain-tested (codes "map") refl refl,
    (plain-tested (codes "1") refl refl, tt),
  ),
)
line-plain (ObjectLine number address count bytes) ok = (
  plain-tested (codes "object") refl refl,
  (
    decimal-plain number ok.0,
    (
      hexadecimal-plain 8 address,
      (decimal-plain count ok.2, (decimal-plain bytes (element-size bytes ok.3), tt)),
    ),
  ),
)
line-plain (FunctionLine number name frame) ok = (
  plain-tested (codes "function") refl refl,
  (
    decimal-plain number ok.0,
    (
      name-plain name ok.1,
      (plain-tested (codes "frame") refl refl, (decimal-plain frame ok.2, tt)),
    ),
  ),
)
line-plain (ArrayLine number below count bytes) ok = (
  plain-tested (codes "array") refl refl,
  (
    decimal-plain number ok.0,
    (
      plain-append (codes "-") (decimal below) (plain-tested (codes "-") refl refl)
          (decimal-plain below (omega (arith, ok.1.1))),
      (decimal-plain count ok.2, (decimal-plain bytes (element-size bytes ok.3), tt)),
    ),
  ),
)
line-plain (VariableLine number width name) ok = (
  plain-tested (codes "var") refl refl,
  (
    decimal-plain number ok.0,
    (
      width-plain width,
      (
        named-plain name ok.1,
        tt,
      ),
    ),
  ),
)
line-plain (BlockLine number) ok = one-plain (codes "block") refl refl number ok
line-plain (PointLine number address op) ok = (
  plain-tested (codes "point") refl refl,
  (
    decimal-plain number ok.0,
    (
      hexadecimal-plain 8 address,
      op-plain op ok.2,
    ),
  ),
)
line-plain (BoardLine areas pieces) ok =
    all-append IsPlain (codes "board" ∷ map area_word areas) (codes "pieces" ∷ map piece_word pieces)
    (plain-tested (codes "board") refl refl, areas-plain areas)
    (plain-tested (codes "pieces") refl refl, all-plain piece_word IsPieceText piece-plain pieces ok.1)
line-plain (BeforeLine standings) ok =
    (plain-tested (codes "before") refl refl, all-plain standing_word IsStandingText standing-plain standings ok)
line-plain (AfterLine standings) ok =
    (plain-tested (codes "after") refl refl, all-plain standing_word IsStandingText standing-plain standings ok)
line-plain (SpilledLine variables) ok =
    (plain-tested (codes "spilled") refl refl, all-plain decimal IsNumber decimal-plain variables ok)
line-plain EndLine ok = (plain-tested (codes "end") refl refl, tt)

-- ---- lines that are read

object-read : (n a c b : ℕ) → IsLine (ObjectLine n a c b) → line_in (line_words (ObjectLine n a c b))
    ≡ Some (ObjectLine n a c b)
unfolding line_in line_by object_in
object-read n a c b ok = rw (number-read n ok.0, address-read a ok.1, number-read c ok.2, bytes-read b ok.3) refl

function-read : (n : ℕ) (name : List ℕ) (f : ℕ) → IsLine (FunctionLine n name f) → line_in (line_words (FunctionLine n name f))
    ≡ Some (FunctionLine n name f)
unfolding line_in line_by function_in
function-read n name f ok = rw (number-read n ok.0, number-read f ok.2) refl

array-read : (n d c b : ℕ) → IsLine (ArrayLine n d c b) → line_in (line_words (ArrayLine n d c b))
    ≡ Some (ArrayLine n d c b)
unfolding line_in line_by array_in
array-read n d c b ok =
    rw (number-read n ok.0, below-read d ok.1.0 ok.1.1, number-read c ok.2, bytes-read b ok.3) refl

variable-read : (n : ℕ) (w : Width) (x : Named) → IsLine (VariableLine n w x) → line_in (line_words (VariableLine n w x))
    ≡ Some (VariableLine n w x)
unfolding line_in line_by variable_in
variable-read n w x ok = rw (number-read n ok.0, width-read w, named-read x ok.1) refl

block-read : (n : ℕ) → IsNumber n → line_in (line_words (BlockLine n)) ≡ Some (BlockLine n)
unfolding line_in line_by block_in
block-read n ok = rw (number-read n ok) refl

point-read : (n a : ℕ) (o : Op) → IsLine (PointLine n a o) → line_in (line_words (PointLine n a o))
    ≡ Some (PointLine n a o)
unfolding line_in line_by point_in
point-read n a o ok = rw (number-read n ok.0, address-read a ok.1, op-read o ok.2) refl

four-areas : (a b c d : Area) (pieces : List Piece) → AllByRecursion IsPieceText pieces
    → line_in (line_words (BoardLine (a ∷ b ∷ c ∷ d ∷ []) pieces)) ≡ Some (BoardLine (a ∷ b ∷ c ∷ d ∷ []) pieces)
unfolding line_in line_by board_in
four-areas a b c d pieces ok =
    rw (
      area-read a,
      area-read b,
      area-read c,
      area-read d,
      all-read piece_in piece_word IsPieceText piece-read pieces ok,
    ) refl

board-read : (areas : List Area) (pieces : List Piece) → IsLine (BoardLine areas pieces)
    → line_in (line_words (BoardLine areas pieces)) ≡ Some (BoardLine areas pieces)
board-read [] pieces ok = absurd (omega (arith, ok.0))
board-read (a ∷ []) pieces ok = absurd (omega (arith, ok.0))
board-read (a ∷ b ∷ []) pieces ok = absurd (omega (arith, ok.0))
board-read (a ∷ b ∷ c ∷ []) pieces ok = absurd (omega (arith, ok.0))
board-read (a ∷ b ∷ c ∷ d ∷ []) pieces ok = four-areas a b c d pieces ok.1
board-read (a ∷ b ∷ c ∷ d ∷ e ∷ areas) pieces ok = absurd (omega (arith, ok.0))

standings-read : (standings : List Standing) → AllByRecursion IsStandingText standings
    → all_in standing_in (map standing_word standings) ≡ Some standings
standings-read standings ok = all-read standing_in standing_word IsStandingText standing-read standings ok

before-read : (standings : List Standing) → AllByRecursion IsStandingText standings
    → line_in (line_words (BeforeLine standings)) ≡ Some (BeforeLine standings)
unfolding line_in line_by
before-read standings ok = ap (option_map BeforeLine) (standings-read standings ok)

after-read : (standings : List Standing) → AllByRecursion IsStandingText standings
    → line_in (line_words (AfterLine standings)) ≡ Some (AfterLine standings)
unfolding line_in line_by
after-read standings ok = ap (option_map AfterLine) (standings-read standings ok)

spilled-read : (variables : List ℕ) → AllByRecursion IsNumber variables
    → line_in (line_words (SpilledLine variables)) ≡ Some (SpilledLine variables)
unfolding line_in line_by
spilled-read variables ok = ap (option_map SpilledLine) (all-read number_in decimal IsNumber number-read variables ok)

title-read : line_in (line_words TitleLine) ≡ Some TitleLine
unfolding line_in line_by
title-read = refl

end-read : line_in (line_words EndLine) ≡ Some EndLine
unfolding line_in line_by
end-read = refl

pub line-read : (line : Line) → IsLine line → line_in (line_words line) ≡ Some line
line-read TitleLine ok = title-read
line-read (ObjectLine n a c b) ok = object-read n a c b ok
line-read (FunctionLine n name f) ok = function-read n name f ok
line-read (ArrayLine n d c b) ok = array-read n d c b ok
line-read (VariableLine n w x) ok = variable-read n w x ok
line-read (BlockLine n) ok = block-read n ok
line-read (PointLine n a o) ok = point-read n a o ok
line-read (BoardLine areas pieces) ok = board-read areas pieces ok
line-read (BeforeLine standings) ok = before-read standings ok
line-read (AfterLine standings) ok = after-read standings ok
line-read (SpilledLine variables) ok = spilled-read variables ok
line-read EndLine ok = end-read

-- ---- lines of a text

-- a line of a text is cut off, and its words are its line's
pub line-cut : (line : Line) (rest : List ℕ) → IsLine line
    → slice_split (λ b. b == newline) (line_text line ++ rest)
    ≡ spaced (line_words line) ∷ slice_split (λ b. b == newline) rest
line-cut line rest ok = line-back (spaced (line_words line)) rest (spaced-avoids (line_words line) (line-plain line ok))

abbrev HasWord : List (List ℕ) → Type 0
HasWord [] = ⊥
HasWord (word ∷ words) = ⊤

has-word : (line : Line) → HasWord (line_words line)
has-word TitleLine = tt
has-word (ObjectLine n a c b) = tt
has-word (FunctionLine n name f) = tt
has-word (ArrayLine n d c b) = tt
has-word (VariableLine n w x) = tt
has-word (BlockLine n) = tt
has-word (PointLine n a o) = tt
has-word (BoardLine areas pieces) = tt
has-word (BeforeLine standings) = tt
has-word (AfterLine standings) = tt
has-word (SpilledLine variables) = tt
has-word EndLine = tt

-- the words of a line that was cut off
line-words : (line : Line) → IsLine line → words_of (spaced (line_words line)) ≡ line_words line
line-words line ok = go (line_words line) (has-word line) (line-plain line ok)
  where
    go : (words : List (List ℕ)) → HasWord words → ArePlain words → words_of (spaced words) ≡ words
    go [] is plain = absurd is
    go (word ∷ words) is plain = words-back word words plain

-- so a line that was cut off is read back
pub line-given : (line : Line) → IsLine line → line_in (words_of (spaced (line_words line))) ≡ Some line
line-given line ok = ap line_in (line-words line ok) ∙ line-read line ok
