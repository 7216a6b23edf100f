-- What the methods of `RegFile` do to its words, said of the bytes of the words.
use Rattle.std.proofs.Common.{◌≡◌, ◌⊎◌, ℕ, ◌+◌, ◌-◌, ◌*◌, ◌/◌, ◌%◌, ◌^◌, ◌<◌, List, [], ◌∷◌, length, drop, get_or}
use Rattle.std.proofs.Common.{bit_and, bit_or, sym, ap, ◌∙◌, inl, inr, arith}
use Rattle.std.proofs.Math.ListN.{set}
use Rattle.std.proofs.lemmas.Nat.{and_block, and_mask, or_block, or_comm, or_shifted}
use Rattle.std.proofs.lemmas.Nat.Bits.{and_high_mask}
use Rattle.std.specs.Int.Bits.{or_zero_r}
use Rattle.byteorder.specs.Endian.{little_bytes, little_from}
use Rattle.ia32_insn.specs.declared.register_names.Reg32.{Reg32}
use Rattle.ia32_insn.specs.Registers.{AreRegisters, number32, register, with_register}
use Rattle.ia32_insn.specs.Words.{bytes_of_words}
use Rattle.ia32_insn.proofs.Words.{bytes_of_words-lt, bytes_of_words-set, get_or-word, length-bytes_of_words}
use Rattle.ia32_insn.proofs.Words.{little_from-word, set-word}

-- eight words are the registers
pub AreRegisters-words : (ws bs : List ℕ) → length ws ≡ 8 → bytes_of_words ws ≡ bs → AreRegisters bs
AreRegisters-words ws bs e same =
    let whole : length (bytes_of_words ws) ≡ 32 = omega (arith, length-bytes_of_words ws) in
    record {
      cells = sym (ap (λ (l : List ℕ). length l) same) ∙ whole;
      below = λ k. rw (← same) (bytes_of_words-lt ws k);
    }

-- a word is the number in its register
pub register-words : (r : Reg32) (k : ℕ) (ws bs : List ℕ) → k ≡ number32 r → k < length ws → get_or ws k 0 < 2 ^ 32
    → bytes_of_words ws ≡ bs → get_or ws k 0 ≡ register r bs
register-words r k ws bs e h below same =
    sym (little_from-word k ws h below)
    ∙ ap (λ (m : ℕ). little_from 0 4 (drop (4 * m) (bytes_of_words ws))) e
    ∙ ap (λ (l : List ℕ). register r l) same

-- a word that is written is its register, set
pub with_register-words : (r : Reg32) (k v : ℕ) (ws bs : List ℕ) → k ≡ number32 r → k < length ws
    → bytes_of_words ws ≡ bs → bytes_of_words (set ws k v) ≡ with_register r v bs
with_register-words r k v ws bs e h same =
    rw (← same, ← e) (bytes_of_words-set k v ws h)

-- a word's lowest byte or its second, shifted down and masked, is the cell
pub get_or-shifted : (k s p : ℕ) (ws bs : List ℕ) → k < length ws → (s ≡ 0) ⊎ (s ≡ 8) → 4 * k + s / 8 ≡ p
    → bytes_of_words ws ≡ bs → bit_and (get_or ws k 0 / 2 ^ s) 0xff ≡ get_or bs p 0
get_or-shifted k s p ws bs h (inl e) at same =
    let place : 4 * k + 0 ≡ p = omega arith in
    let byte : get_or ws k 0 / 2 ^ 0 % 256 ≡ get_or ws k 0 % 256 = omega arith in
    and_mask (get_or ws k 0 / 2 ^ s) 8
    ∙ ap (λ (t : ℕ). get_or ws k 0 / 2 ^ t % 256) e
    ∙ byte
    ∙ sym (get_or-word k 0 ws h (omega arith))
    ∙ ap (λ (m : ℕ). get_or (bytes_of_words ws) m 0) place
    ∙ ap (λ (l : List ℕ). get_or l p 0) same
get_or-shifted k s p ws bs h (inr e) at same =
    let place : 4 * k + 1 ≡ p = omega arith in
    and_mask (get_or ws k 0 / 2 ^ s) 8
    ∙ ap (λ (t : ℕ). get_or ws k 0 / 2 ^ t % 256) e
    ∙ sym (get_or-word k 1 ws h (omega arith))
    ∙ ap (λ (m : ℕ). get_or (bytes_of_words ws) m 0) place
    ∙ ap (λ (l : List ℕ). get_or l p 0) same

-- what `set8` writes: the word with its lowest byte, or its second, masked out and v in its place
abbrev pub merged : ℕ → ℕ → ℕ → ℕ
merged w s v = bit_or (bit_and w (0xffffffff - 0xff * 2 ^ s % 0x1_0000_0000)) (v * 2 ^ s % 0x1_0000_0000)

-- the lowest byte
merged-low : (w v : ℕ) → w < 2 ^ 32 → v < 256 → merged w 0 v ≡ w / 256 * 256 + v
merged-low w v h b =
    let kept : bit_and w (0xffffffff - 0xff * 2 ^ 0 % 0x1_0000_0000) ≡ w / 256 * 256 =
    and_high_mask 32 8 (omega arith) w h in
    let moved : v * 2 ^ 0 % 0x1_0000_0000 ≡ v = omega arith in
    ap (λ (x : ℕ). bit_or x (v * 2 ^ 0 % 0x1_0000_0000)) kept
    ∙ ap (λ (x : ℕ). bit_or (w / 256 * 256) x) moved
    ∙ or_shifted (w / 256) 8 v b

-- the second byte
merged-second : (w v : ℕ) → w < 2 ^ 32 → v < 256 → merged w 8 v ≡ w / 0x10000 * 0x10000 + (v * 256 + w % 256)
merged-second w v h b =
    let split : w ≡ w / 0x10000 * 0x10000 + w % 0x10000 = omega arith in
    let high : bit_and (w / 0x10000) 0xffff ≡ w / 0x10000 = and_mask (w / 0x10000) 16 ∙ omega arith in
    let low : bit_and (w % 0x10000) 0xff ≡ w % 256 = and_mask (w % 0x10000) 8 ∙ omega arith in
    let block : bit_and (w / 0x10000 * 0x10000 + w % 0x10000) 0xffff00ff
    ≡ bit_and (w / 0x10000) 0xffff * 0x10000 + bit_and (w % 0x10000) 0xff =
    and_block 16 (w / 0x10000) 0xffff (w % 0x10000) 0xff (omega arith) (omega arith) in
    let kept : bit_and w 0xffff00ff ≡ w / 0x10000 * 0x10000 + w % 256 =
    ap (λ (x : ℕ). bit_and x 0xffff00ff) split ∙ block ∙ ap (λ (x : ℕ). x * 0x10000 + bit_and (w % 0x10000) 0xff) high
    ∙ ap (λ (x : ℕ). w / 0x10000 * 0x10000 + x) low in
    let moved : v * 2 ^ 8 % 0x1_0000_0000 ≡ v * 256 = omega arith in
    let lower : bit_or (w % 256) (v * 256) ≡ v * 256 + w % 256 =
    or_comm (w % 256) (v * 256) ∙ or_shifted v 8 (w % 256) (omega arith) in
    let none : bit_or (w / 0x10000) 0 ≡ w / 0x10000 = or_zero_r (w / 0x10000) in
    let joined : bit_or (w / 0x10000 * 0x10000 + w % 256) (0 * 0x10000 + v * 256)
    ≡ bit_or (w / 0x10000) 0 * 0x10000 + bit_or (w % 256) (v * 256) =
    or_block 16 (w / 0x10000) 0 (w % 256) (v * 256) (omega arith) (omega arith) in
    let plain : 0 * 0x10000 + v * 256 ≡ v * 256 = omega arith in
    ap (λ (x : ℕ). bit_or x (v * 2 ^ 8 % 0x1_0000_0000)) kept
    ∙ ap (λ (x : ℕ). bit_or (w / 0x10000 * 0x10000 + w % 256) x) (moved ∙ sym plain)
    ∙ joined
    ∙ ap (λ (x : ℕ). x * 0x10000 + bit_or (w % 256) (v * 256)) none
    ∙ ap (λ (x : ℕ). w / 0x10000 * 0x10000 + x) lower

-- lists of four that have the same items
same_four : (a b c d x y z t : ℕ) → a ≡ x → b ≡ y → c ≡ z → d ≡ t → a ∷ b ∷ c ∷ d ∷ [] ≡ x ∷ y ∷ z ∷ t ∷ []
same_four a b c d x y z t p q r s = cc

-- the bytes of a word with another lowest byte
bytes-low : (w v : ℕ) → v < 256 → little_bytes 4 (w / 256 * 256 + v) ≡ set (little_bytes 4 w) 0 v
bytes-low w v b = same_four _ _ _ _ _ _ _ _ (omega arith) (omega arith) (omega arith) (omega arith)

-- the bytes of a word with another second byte
bytes-second : (w v : ℕ) → v < 256 → little_bytes 4 (w / 0x10000 * 0x10000 + (v * 256 + w % 256))
    ≡ set (little_bytes 4 w) 1 v
bytes-second w v b = same_four _ _ _ _ _ _ _ _ (omega arith) (omega arith) (omega arith) (omega arith)

-- the word with a byte put in is the cell, set
pub set-merged : (k s p v : ℕ) (ws bs : List ℕ) → k < length ws → get_or ws k 0 < 2 ^ 32 → v < 256
    → (s ≡ 0) ⊎ (s ≡ 8) → 4 * k + s / 8 ≡ p → bytes_of_words ws ≡ bs
    → bytes_of_words (set ws k (merged (get_or ws k 0) s v)) ≡ set bs p v
set-merged k s p v ws bs h below b (inl e) at same =
    let place : 4 * k + 0 ≡ p = omega arith in
    let bytes : little_bytes 4 (merged (get_or ws k 0) 0 v) ≡ set (little_bytes 4 (get_or ws k 0)) 0 v =
    ap (λ (x : ℕ). little_bytes 4 x) (merged-low (get_or ws k 0) v below b) ∙ bytes-low (get_or ws k 0) v b in
    ap (λ (t : ℕ). bytes_of_words (set ws k (merged (get_or ws k 0) t v))) e
    ∙ set-word k 0 v (merged (get_or ws k 0) 0 v) ws h (omega arith) bytes
    ∙ ap (λ (m : ℕ). set (bytes_of_words ws) m v) place
    ∙ ap (λ (l : List ℕ). set l p v) same
set-merged k s p v ws bs h below b (inr e) at same =
    let place : 4 * k + 1 ≡ p = omega arith in
    let bytes : little_bytes 4 (merged (get_or ws k 0) 8 v) ≡ set (little_bytes 4 (get_or ws k 0)) 1 v =
    ap (λ (x : ℕ). little_bytes 4 x) (merged-second (get_or ws k 0) v below b) ∙ bytes-second (get_or ws k 0) v b in
    ap (λ (t : ℕ). bytes_of_words (set ws k (merged (get_or ws k 0) t v))) e
    ∙ set-word k 1 v (merged (get_or ws k 0) 8 v) ws h (omega arith) bytes
    ∙ ap (λ (m : ℕ). set (bytes_of_words ws) m v) place
    ∙ ap (λ (l : List ℕ). set l p v) same
