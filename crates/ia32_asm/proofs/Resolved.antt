-- Words in their places.
use Rattle.std.specs.Prelude.{◌≡◌, ℕ, suc, ◌+◌, ◌≤◌, List, [], ◌∷◌, ◌++◌, length, take, drop, slice_get, Some}
use Rattle.std.proofs.Common.{refl, sym, ap, ◌∙◌, arith}
use Rattle.std.proofs.lemmas.List.{append_assoc, length-append, length-take-le, length-drop, take_at, drop_at}
use Rattle.std.proofs.lemmas.List.{drop-drop, take-append-drop}
use Rattle.byteorder.specs.Endian.{little_bytes}
use Rattle.ia32_insn.specs.Items.{Symbols}
use Rattle.ia32_asm.specs.declared.section.Relocation.{Relocation}
use Rattle.ia32_asm.specs.Sections.{word_for, with_word, resolved}

-- the words of two lists of relocations, one list after the other
pub resolved-append : (symbols : Symbols) (base : ℕ) (rs qs : List Relocation) (bytes : List ℕ)
    → resolved symbols base (rs ++ qs) bytes ≡ resolved symbols base qs (resolved symbols base rs bytes)
resolved-append symbols base [] qs bytes = refl
resolved-append symbols base (r ∷ rs) qs bytes =
    resolved-append symbols base rs qs (with_word r.at (word_for symbols base r) bytes)

-- four bytes between others are replaced by a word
pub with_word-at : (front op four tail : List ℕ) (offset word : ℕ) → offset ≡ length front + length op → length four ≡ 4
    → with_word offset word (front ++ ((op ++ four) ++ tail)) ≡ front ++ ((op ++ little_bytes 4 word) ++ tail)
with_word-at front op four tail offset word o f =
    let shape : front ++ ((op ++ four) ++ tail) ≡ (front ++ op) ++ (four ++ tail) = simp append_assoc in
    let ahead : take offset (front ++ ((op ++ four) ++ tail)) ≡ front ++ op =
    ap (take offset) shape ∙ take_at (front ++ op) (four ++ tail) offset (omega (arith, length-append front op))
    in
    let longer : front ++ ((op ++ four) ++ tail) ≡ ((front ++ op) ++ four) ++ tail = simp append_assoc in
    let behind : drop (offset + 4) (front ++ ((op ++ four) ++ tail)) ≡ tail =
    ap (drop (offset + 4)) longer ∙ drop_at ((front ++ op)
    ++ four) tail (offset + 4) (omega (arith, length-append (front ++ op) four, length-append front op))
    in
    ap (λ (xs : List ℕ). xs ++ little_bytes 4 word ++ drop (offset + 4) (front ++ ((op ++ four) ++ tail))) ahead
    ∙ ap (λ (xs : List ℕ). (front ++ op) ++ little_bytes 4 word ++ xs) behind
    ∙ regroup front op (little_bytes 4 word) tail
  where
    regroup : (a b c d : List ℕ) → (a ++ b) ++ c ++ d ≡ a ++ ((b ++ c) ++ d)
    regroup a b c d = simp append_assoc

-- a word within bytes leaves their length
pub length-with_word : (offset word : ℕ) (bytes : List ℕ) → offset + 4 ≤ length bytes
    → length (with_word offset word bytes) ≡ length bytes
length-with_word offset word bytes h =
    length-append (take offset bytes ++ little_bytes 4 word) (drop (offset + 4) bytes)
    ∙ omega (
      arith,
      length-append (take offset bytes) (little_bytes 4 word),
      length-take-le offset bytes (omega arith),
      length-drop (offset + 4) bytes,
    )

pub length-resolved : (symbols : Symbols) (base : ℕ) (rs : List Relocation) (bytes : List ℕ)
    → ((j : ℕ) (r : Relocation) → slice_get rs j ≡ Some r → r.at + 4 ≤ length bytes)
    → length (resolved symbols base rs bytes) ≡ length bytes
length-resolved symbols base [] bytes inside = refl
length-resolved symbols base (r ∷ rs) bytes inside =
    let same = length-with_word r.at (word_for symbols base r) bytes (inside 0 r refl) in
    length-resolved symbols base rs (with_word r.at (word_for symbols base r) bytes) (λ j q e. omega (
      arith,
      inside (suc j) q e,
      same,
    )) ∙ same

-- a word behind other bytes
pub with_word-behind : (front bytes : List ℕ) (offset word : ℕ) → offset + 4 ≤ length bytes
    → with_word (length front + offset) word (front ++ bytes) ≡ front ++ with_word offset word bytes
with_word-behind front bytes offset word h =
    let ahead : take offset bytes ++ drop offset bytes ≡ bytes = take-append-drop offset bytes in
    let op : List ℕ = take offset bytes in
    let four : List ℕ = take 4 (drop offset bytes) in
    let tail : List ℕ = drop (offset + 4) bytes in
    let long : length op ≡ offset = length-take-le offset bytes (omega arith) in
    let wide : length four ≡ 4 = length-take-le 4 (drop offset bytes) (omega (arith, length-drop offset bytes)) in
    let parts : (op ++ four) ++ tail ≡ bytes =
    append_assoc op four tail
    ∙ ap (λ (xs : List ℕ). op ++ (four ++ xs)) (sym (drop-drop 4 offset bytes))
    ∙ ap (λ (xs : List ℕ). op ++ xs) (take-append-drop 4 (drop offset bytes)) ∙ ahead
    in
    ap (λ (xs : List ℕ). with_word (length front + offset) word (front ++ xs)) (sym parts)
    ∙ with_word-at front op four tail (length front + offset) word (omega (arith, long)) wide

-- one more relocation
pub resolved-push : (symbols : Symbols) (base : ℕ) (rs : List Relocation) (r : Relocation) (bytes : List ℕ)
    → resolved symbols base (rs ++ r ∷ []) bytes
    ≡ with_word r.at (word_for symbols base r) (resolved symbols base rs bytes)
resolved-push symbols base rs r bytes = resolved-append symbols base rs (r ∷ []) bytes
