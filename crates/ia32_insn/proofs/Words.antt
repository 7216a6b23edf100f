-- What the bytes of a list of words say of the words.
use Rattle.std.proofs.Common.{◌≡◌, ℕ, zero, suc, ◌+◌, ◌*◌, ◌^◌, ◌<◌, List, [], ◌∷◌, ◌++◌, length, take, drop, get_or}
use Rattle.std.proofs.Common.{refl, ap, arith}
use Rattle.std.proofs.Math.ListN.{set}
use Rattle.std.specs.Int.{byte_at}
use Rattle.byteorder.specs.Endian.{little_bytes, little_from}
use Rattle.byteorder.specs.Numbers.{little_number-reads_back}
use Rattle.ia32_insn.specs.Words.{bytes_of_words}

-- the number four further
four_more : (k : ℕ) → 4 * suc k ≡ suc (suc (suc (suc (4 * k))))
four_more k = omega arith

-- and with a place in the word
four_more_at : (k j : ℕ) → 4 * suc k + j ≡ suc (suc (suc (suc (4 * k + j))))
four_more_at k j = omega arith

-- four bytes for each word
pub length-bytes_of_words : (ws : List ℕ) → length (bytes_of_words ws) ≡ 4 * length ws
length-bytes_of_words [] = refl
length-bytes_of_words (w ∷ ws) = let rest = length-bytes_of_words ws in omega arith

-- a byte of a number is below 256
byte_at-lt : (j w : ℕ) → byte_at j w < 256
byte_at-lt zero w = omega arith
byte_at-lt (suc j) w = omega arith

-- each cell is a byte
pub bytes_of_words-lt : (ws : List ℕ) (i : ℕ) → get_or (bytes_of_words ws) i 0 < 256
bytes_of_words-lt [] i = omega arith
bytes_of_words-lt (w ∷ ws) zero = byte_at-lt 0 w
bytes_of_words-lt (w ∷ ws) (suc zero) = byte_at-lt 1 w
bytes_of_words-lt (w ∷ ws) (suc (suc zero)) = byte_at-lt 2 w
bytes_of_words-lt (w ∷ ws) (suc (suc (suc zero))) = byte_at-lt 3 w
bytes_of_words-lt (w ∷ ws) (suc (suc (suc (suc i)))) = bytes_of_words-lt ws i

-- the number in the bytes of a word is the word
pub little_from-word : (k : ℕ) (ws : List ℕ) → k < length ws → get_or ws k 0 < 2 ^ 32
    → little_from 0 4 (drop (4 * k) (bytes_of_words ws)) ≡ get_or ws k 0
little_from-word k [] h below = absurd (omega arith)
little_from-word zero (w ∷ ws) h below = little_number-reads_back 4 w (bytes_of_words ws) below
little_from-word (suc k) (w ∷ ws) h below = rw (four_more k) (little_from-word k ws (omega arith) below)

-- the bytes with another number in the place of a word are those of the words with it
pub bytes_of_words-set : (k v : ℕ) (ws : List ℕ) → k < length ws
    → bytes_of_words (set ws k v) ≡ take (4 * k) (bytes_of_words ws) ++ little_bytes 4 v
    ++ drop (4 * k + 4) (bytes_of_words ws)
bytes_of_words-set k v [] h = absurd (omega arith)
bytes_of_words-set zero v (w ∷ ws) h = refl
bytes_of_words-set (suc k) v (w ∷ ws) h =
    let rest = bytes_of_words-set k v ws (omega arith) in
    rw (four_more_at k 4, four_more k) (ap (λ (l : List ℕ). little_bytes 4 w ++ l) rest)

-- a cell is a byte of its word
pub get_or-word : (k j : ℕ) (ws : List ℕ) → k < length ws → j < 4
    → get_or (bytes_of_words ws) (4 * k + j) 0 ≡ byte_at j (get_or ws k 0)
get_or-word k j [] h low = absurd (omega arith)
get_or-word zero zero (w ∷ ws) h low = refl
get_or-word zero (suc zero) (w ∷ ws) h low = refl
get_or-word zero (suc (suc zero)) (w ∷ ws) h low = refl
get_or-word zero (suc (suc (suc zero))) (w ∷ ws) h low = refl
get_or-word zero (suc (suc (suc (suc j)))) (w ∷ ws) h low = absurd (omega arith)
get_or-word (suc k) j (w ∷ ws) h low = rw (four_more_at k j) (get_or-word k j ws (omega arith) low)

-- a cell with another byte in it: the bytes of the words, where the word has that byte
pub set-word : (k j v x : ℕ) (ws : List ℕ) → k < length ws → j < 4
    → little_bytes 4 x ≡ set (little_bytes 4 (get_or ws k 0)) j v
    → bytes_of_words (set ws k x) ≡ set (bytes_of_words ws) (4 * k + j) v
set-word k j v x [] h low same = absurd (omega arith)
set-word zero zero v x (w ∷ ws) h low same = ap (λ (l : List ℕ). l ++ bytes_of_words ws) same
set-word zero (suc zero) v x (w ∷ ws) h low same = ap (λ (l : List ℕ). l ++ bytes_of_words ws) same
set-word zero (suc (suc zero)) v x (w ∷ ws) h low same = ap (λ (l : List ℕ). l ++ bytes_of_words ws) same
set-word zero (suc (suc (suc zero))) v x (w ∷ ws) h low same = ap (λ (l : List ℕ). l ++ bytes_of_words ws) same
set-word zero (suc (suc (suc (suc j)))) v x (w ∷ ws) h low same = absurd (omega arith)
set-word (suc k) j v x (w ∷ ws) h low same =
    rw (four_more_at k j) (ap (λ (l : List ℕ). little_bytes 4 w ++ l) (set-word k j v x ws (omega arith) low same))
