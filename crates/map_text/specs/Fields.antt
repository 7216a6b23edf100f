-- Words read as what they write: numbers, addresses, names, places and pieces. What writes a word in another way than a
-- map does may be read too, so who reads a text writes it again, and compares.
use Rattle.std.specs.Prelude.{ℕ, suc, ◌-◌, ◌^◌, ℤ, pos, negsuc, Bool, true, ◌&&◌, ◌==◌, nat_lt, if◌then◌else◌, List}
use Rattle.std.specs.Prelude.{[], ◌∷◌, length, take, drop, codes, bytes_eq, Option, Some, None, option_map}
use Rattle.std.specs.Str.Parse.{digits_value, signed_digits_value, without_leading_plus, without_leading_sign}
use Rattle.std.specs.Char.{is_digit}
use Rattle.pcc_base.specs.Ascii.{colon, dot, equals_sign, digit_one, digit_two, capital_x, capital_y, capital_z}
use Rattle.pcc_base.specs.Ascii.{letter_b, letter_l, letter_n, letter_u}
use Rattle.pcc_base.specs.declared.run.Width.{Width}
use Rattle.pcc_base.specs.declared.run.Width.TheVariants.{One, Two}
use Rattle.puzzle_board.specs.declared.area.Area.{Area}
use Rattle.puzzle_board.specs.declared.area.Column.{Column}
use Rattle.puzzle_board.specs.declared.area.Column.TheVariants.{Both, Upper, Lower, Neither}
use Rattle.puzzle_board.specs.declared.piece.Kind.{Kind}
use Rattle.puzzle_board.specs.declared.piece.Kind.TheVariants.{X, Y, Z}
use Rattle.puzzle_board.specs.declared.piece.Piece.{Piece}
use Rattle.ia32_insn.specs.declared.register_names.Reg32.TheVariants.{Eax, Ecx, Edx, Ebx}
use Rattle.ia32_insn.specs.declared.register_names.Reg8.TheVariants.{Al, Cl, Dl, Bl, Ah, Ch, Dh, Bh}
use Rattle.ia32_insn.specs.Places.{Place, InWord, InByte, InSlot}
use Rattle.ia32_insn.specs.Reading.{◌>>=◌}
use Rattle.flow_graph.specs.declared.op.Bits.{Bits}
use Rattle.flow_graph.specs.declared.op.Bits.TheVariants.{Eight, Sixteen, ThirtyTwo}
use Rattle.flow_graph.specs.declared.op.Comparison.{Comparison}
use Rattle.flow_graph.specs.declared.op.Comparison.TheVariants.{Eq, Ne, Lt, Le, Gt, Ge}
use Rattle.flow_graph.specs.declared.op.Order.{Order}
use Rattle.flow_graph.specs.declared.op.Order.TheVariants as order
use Rattle.map_text.specs.Maps.{Standing, Named, NamesScalar, NamesArray, NamesIndex, Temporary}

-- ---- parts of a word

-- what stands before the first such byte, and what stands behind it
abbrev pub cut_at : ℕ → List ℕ → Option (List ℕ × List ℕ)
cut_at byte [] = None
cut_at byte (b ∷ bs) =
    if b == byte then Some ([], bs) else option_map (λ parts. (b ∷ parts.0, parts.1)) (cut_at byte bs)

-- what stands behind these bytes, with which the word begins
abbrev pub behind : List ℕ → List ℕ → Option (List ℕ)
behind front word = if bytes_eq (take (length front) word) front then Some (drop (length front) word) else None

-- what stands before these bytes, with which the word ends
abbrev pub before : List ℕ → List ℕ → Option (List ℕ)
before back word =
    if bytes_eq (drop (length word - length back) word) back then Some (take (length word - length back) word) else None

-- ---- numbers

abbrev pub are_digits : ℕ → List ℕ → Bool
are_digits radix [] = true
are_digits radix (c ∷ cs) = is_digit c radix && are_digits radix cs

-- one digit or more, and nothing else
abbrev pub is_numeral : ℕ → List ℕ → Bool
is_numeral radix word = nat_lt 0 (length word) && are_digits radix word

-- a number of 32 bits
unfoldable pub unsigned_in : ℕ → List ℕ → Option ℕ
unsigned_in radix word =
    if is_numeral radix (without_leading_plus word) && nat_lt (digits_value radix (without_leading_plus word)) (2 ^ 32)
    then Some (digits_value radix (without_leading_plus word))
    else None

abbrev pub number_in : List ℕ → Option ℕ
number_in word = unsigned_in 10 word

abbrev pub address_in : List ℕ → Option ℕ
address_in word = unsigned_in 16 word

abbrev pub fits_word : ℤ → Bool
fits_word (pos n) = nat_lt n (2 ^ 31)
fits_word (negsuc n) = nat_lt n (2 ^ 31)

-- a signed number of 32 bits
unfoldable pub signed_in : List ℕ → Option ℤ
signed_in word =
    if is_numeral 10 (without_leading_sign word) && fits_word (signed_digits_value 10 word)
    then Some (signed_digits_value 10 word)
    else None

abbrev pub negative : ℤ → Option ℕ
negative (pos n) = None
negative (negsuc n) = Some (suc n)

-- how far below 0 a signed number of 32 bits is that is negative
abbrev pub below_in : List ℕ → Option ℕ
below_in word = signed_in word >>= negative

-- a variable, or `-` where there is none
unfoldable pub if_any_in : List ℕ → Option (Option ℕ)
if_any_in word = if bytes_eq word (codes "-") then Some None else option_map Some (number_in word)

-- ---- widths, names and comparisons

-- the bytes of an element
unfoldable pub bytes_in : List ℕ → Option ℕ
bytes_in word =
    if bytes_eq word (codes "1") then Some 1
    else if bytes_eq word (codes "2") then Some 2
    else if bytes_eq word (codes "4") then Some 4
    else None

unfoldable pub width_in : List ℕ → Option Width
width_in word =
    if bytes_eq word (codes "1") then Some One
    else if bytes_eq word (codes "2") then Some Two
    else None

unfoldable pub bits_in : List ℕ → Option Bits
bits_in word =
    if bytes_eq word (codes "8") then Some Eight
    else if bytes_eq word (codes "16") then Some Sixteen
    else if bytes_eq word (codes "32") then Some ThirtyTwo
    else None

unfoldable pub comparison_in : List ℕ → Option Comparison
comparison_in word =
    if bytes_eq word (codes "eq") then Some Eq
    else if bytes_eq word (codes "ne") then Some Ne
    else if bytes_eq word (codes "lt") then Some Lt
    else if bytes_eq word (codes "le") then Some Le
    else if bytes_eq word (codes "gt") then Some Gt
    else if bytes_eq word (codes "ge") then Some Ge
    else None

-- how two numbers without sign are ordered
unfoldable pub order_in : List ℕ → Option Order
order_in word =
    if bytes_eq word (codes "lt") then Some order.Lt
    else if bytes_eq word (codes "le") then Some order.Le
    else if bytes_eq word (codes "gt") then Some order.Gt
    else if bytes_eq word (codes "ge") then Some order.Ge
    else None

abbrev pub part_named : List ℕ → List ℕ → Option Named
part_named name part =
    if bytes_eq part (codes "base") then Some (NamesArray name)
    else if bytes_eq part (codes "index") then Some (NamesIndex name)
    else None

abbrev pub named_by : List ℕ → Option (List ℕ × List ℕ) → Option Named
named_by word None = Some (if bytes_eq word (codes "-") then Temporary else NamesScalar word)
named_by word (Some parts) = part_named parts.0 parts.1

-- what a variable is: a name, a name with `.base` or `.index` behind it, or `-`
unfoldable pub named_in : List ℕ → Option Named
named_in word = named_by word (cut_at dot word)

-- ---- places and pieces

-- a register that variables stand in, or a byte of one
unfoldable pub register_in : List ℕ → Option Place
register_in word =
    if bytes_eq word (codes "eax") then Some (InWord Eax)
    else if bytes_eq word (codes "ebx") then Some (InWord Ebx)
    else if bytes_eq word (codes "ecx") then Some (InWord Ecx)
    else if bytes_eq word (codes "edx") then Some (InWord Edx)
    else if bytes_eq word (codes "al") then Some (InByte Al)
    else if bytes_eq word (codes "bl") then Some (InByte Bl)
    else if bytes_eq word (codes "cl") then Some (InByte Cl)
    else if bytes_eq word (codes "dl") then Some (InByte Dl)
    else if bytes_eq word (codes "ah") then Some (InByte Ah)
    else if bytes_eq word (codes "bh") then Some (InByte Bh)
    else if bytes_eq word (codes "ch") then Some (InByte Ch)
    else if bytes_eq word (codes "dh") then Some (InByte Dh)
    else None

abbrev pub place_by : List ℕ → Option (List ℕ) → Option Place
place_by word None = register_in word
place_by word (Some rest) = option_map InSlot (before (codes "]") rest >>= below_in)

-- a register, or a slot: an offset from EBP
unfoldable pub place_in : List ℕ → Option Place
place_in word = place_by word (behind (codes "[ebp") word)

-- a variable and its place
unfoldable pub standing_in : List ℕ → Option Standing
standing_in word = do
  parts ← cut_at equals_sign word
  variable ← number_in parts.0
  place ← place_in parts.1
  Some (record { variable = variable; place = place })

unfoldable pub column_in : ℕ → Option Column
column_in letter =
    if letter == letter_b then Some Both
    else if letter == letter_u then Some Upper
    else if letter == letter_l then Some Lower
    else if letter == letter_n then Some Neither
    else None

-- two columns, the low one first
unfoldable pub area_in : List ℕ → Option Area
area_in [] = None
area_in (low ∷ []) = None
area_in (low ∷ high ∷ []) = do
  low ← column_in low
  high ← column_in high
  Some (record { low = low; high = high })
area_in (low ∷ high ∷ other ∷ rest) = None

unfoldable pub kind_in : ℕ → Option Kind
kind_in letter =
    if letter == capital_x then Some X
    else if letter == capital_y then Some Y
    else if letter == capital_z then Some Z
    else None

unfoldable pub width_of_digit : ℕ → Option Width
width_of_digit digit = if digit == digit_one then Some One else if digit == digit_two then Some Two else None

abbrev pub piece_by : ℕ → ℕ → ℕ → List ℕ → Option Piece
piece_by kind width sign var = do
  kind ← kind_in kind
  width ← width_of_digit width
  var ← number_in var
  if sign == colon then Some (record { kind = kind; width = width; var = var }) else None

-- a kind, a width and a variable
unfoldable pub piece_in : List ℕ → Option Piece
piece_in [] = None
piece_in (kind ∷ []) = None
piece_in (kind ∷ width ∷ []) = None
piece_in (kind ∷ width ∷ sign ∷ var) = piece_by kind width sign var

-- ---- lists

-- what each word is read as, where all are read
abbrev pub all_in : {X : Type 0} → (List ℕ → Option X) → List (List ℕ) → Option (List X)
all_in read [] = Some []
all_in read (word ∷ words) = do
  first ← read word
  others ← all_in read words
  Some (first ∷ others)
