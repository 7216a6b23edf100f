-- Characters by name (ASCII; C99 5.2.1): digits as `digit_zero`, letters as `letter_x` and `capital_x`.
use Rattle.std.specs.Prelude.{◌≤◌, ◌&&◌, ℕ, Bool, false, List, [], ◌∷◌, nat_le}

abbrev pub bell : ℕ
bell = 7

abbrev pub backspace : ℕ
backspace = 8

abbrev pub tab : ℕ
tab = 9

abbrev pub newline : ℕ
newline = 10

abbrev pub vertical_tab : ℕ
vertical_tab = 11

abbrev pub form_feed : ℕ
form_feed = 12

abbrev pub carriage_return : ℕ
carriage_return = 13

abbrev pub space : ℕ
space = 32

abbrev pub exclamation_mark : ℕ
exclamation_mark = 33

abbrev pub double_quote : ℕ
double_quote = 34

abbrev pub hash : ℕ
hash = 35

abbrev pub percent : ℕ
percent = 37

abbrev pub apostrophe : ℕ
apostrophe = 39

abbrev pub star : ℕ
star = 42

abbrev pub plus : ℕ
plus = 43

abbrev pub minus : ℕ
minus = 45

abbrev pub dot : ℕ
dot = 46

abbrev pub slash : ℕ
slash = 47

abbrev pub digit_zero : ℕ
digit_zero = 48

abbrev pub digit_one : ℕ
digit_one = 49

abbrev pub digit_two : ℕ
digit_two = 50

abbrev pub digit_nine : ℕ
digit_nine = 57

abbrev pub colon : ℕ
colon = 58

abbrev pub equals_sign : ℕ
equals_sign = 61

abbrev pub question_mark : ℕ
question_mark = 63

abbrev pub capital_a : ℕ
capital_a = 65

abbrev pub capital_e : ℕ
capital_e = 69

abbrev pub capital_f : ℕ
capital_f = 70

abbrev pub capital_l : ℕ
capital_l = 76

abbrev pub capital_p : ℕ
capital_p = 80

abbrev pub capital_x : ℕ
capital_x = 88

abbrev pub capital_y : ℕ
capital_y = 89

abbrev pub capital_z : ℕ
capital_z = 90

abbrev pub left_bracket : ℕ
left_bracket = 91

abbrev pub backslash : ℕ
backslash = 92

abbrev pub right_bracket : ℕ
right_bracket = 93

abbrev pub underscore : ℕ
underscore = 95

abbrev pub letter_a : ℕ
letter_a = 97

abbrev pub letter_b : ℕ
letter_b = 98

abbrev pub letter_d : ℕ
letter_d = 100

abbrev pub letter_e : ℕ
letter_e = 101

abbrev pub letter_f : ℕ
letter_f = 102

abbrev pub letter_l : ℕ
letter_l = 108

abbrev pub letter_n : ℕ
letter_n = 110

abbrev pub letter_o : ℕ
letter_o = 111

abbrev pub letter_p : ℕ
letter_p = 112

abbrev pub letter_r : ℕ
letter_r = 114

abbrev pub letter_t : ℕ
letter_t = 116

abbrev pub letter_u : ℕ
letter_u = 117

abbrev pub letter_v : ℕ
letter_v = 118

abbrev pub letter_x : ℕ
letter_x = 120

-- a byte from the first of two characters to the second, as in `codes "az"`
abbrev pub is_between : List ℕ → ℕ → Bool
is_between (low ∷ high ∷ []) b = nat_le low b && nat_le b high
is_between others b = false

abbrev pub IsBetween : List ℕ → ℕ → Type 0
IsBetween (low ∷ high ∷ []) b = (low ≤ b) × (b ≤ high)
IsBetween others b = ⊥
