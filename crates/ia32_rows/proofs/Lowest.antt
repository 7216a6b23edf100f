-- Loads of the lowest bytes of a word below EBP: each of its bytes is below 256, so that they are what is left of the
-- word.
use Rattle.std.proofs.Common.{◌≡◌, ℕ, ◌+◌, ◌-◌, ◌%◌, ◌^◌, ◌<◌, ◌≤◌, List, [], ◌∷◌, length, take, drop, Option}
use Rattle.std.proofs.Common.{Ok, sym, ap, ◌∙◌, arith, length-drop}
use Rattle.std.specs.Prelude.{Result}
use Rattle.std.proofs.lemmas.List.Elements.{All-drop, All-head, All-tail}
use Rattle.byteorder.specs.Endian.{little_from}
use Rattle.pcc_base.specs.Bytes.{AreBytes}
use Rattle.pcc_base.specs.Outcome.{End}
use Rattle.ia32_insn.specs.declared.register_names.Reg32.TheVariants.{Ebp}
use Rattle.ia32_insn.specs.Meaning.{and_then, or_end, denied, load, word_of}
use Rattle.ia32_insn.proofs.Access.{ok-once}
use Rattle.ia32_rows.specs.Unary.{LowestBytes}
use Rattle.ia32_rows.proofs.Sound.{bytes-in}

-- the number in the first bytes of a list
abbrev number : ℕ → List ℕ → ℕ
number n bytes = little_from 0 n (take n bytes)

-- four bytes are there: the number in one of them, and in two, is what is left of the number in all
lowest : (bytes : List ℕ) → 4 ≤ length bytes → AreBytes bytes
    → (number 1 bytes ≡ number 4 bytes % 256) × (number 2 bytes ≡ number 4 bytes % 2 ^ 16)
lowest (a ∷ b ∷ c ∷ d ∷ bytes) long small =
    let one : a < 256 = All-head (λ byte. byte < 256) a (b ∷ c ∷ d ∷ bytes) small in
    let others = All-tail (λ byte. byte < 256) a (b ∷ c ∷ d ∷ bytes) small in
    let two : b < 256 = All-head (λ byte. byte < 256) b (c ∷ d ∷ bytes) others in
    (omega (arith, one), omega (arith, one, two))
lowest [] long small = absurd (omega (arith, long))
lowest (a ∷ []) long small = absurd (omega (arith, long))
lowest (a ∷ b ∷ []) long small = absurd (omega (arith, long))
lowest (a ∷ b ∷ c ∷ []) long small = absurd (omega (arith, long))

pub lowest-bytes : LowestBytes
lowest-bytes site frame k w s framed some within held =
    let sound = framed.sound in
    let esp = framed.esp in
    let room = framed.room in
    let top = framed.top in
    let size = sound.size in
    let a : ℕ = word_of Ebp s - k in
    let from : site.low ≤ a = omega (arith, esp, room) in
    let to : a + 4 ≤ site.high = omega (arith, esp, room, top) in
    let bytes : List ℕ = drop (a - site.low) sound.bytes in
    let long : 4 ≤ length bytes = let l = length-drop (a - site.low) sound.bytes in omega (arith, l) in
    let small : AreBytes bytes = All-drop (λ byte. byte < 256) (a - site.low) sound.bytes sound.small in
    let loads : (n : ℕ) → 0 < n → n ≤ 4 → load n a s ≡ Ok (number n bytes) = λ n more less.
    ap (λ (o : Option (List ℕ)). and_then (or_end o (denied a s))
    (λ f. let r : Result ℕ End = Ok (little_from 0 n f) in r))
    (bytes-in site.text site.low site.high n a s sound from (omega arith) more) in
    let is : number 4 bytes ≡ w = ok-once (number 4 bytes) w (sym (loads 4 (omega arith) (omega arith)) ∙ held) in
    let parts = lowest bytes long small in (
      loads 1 (omega arith) (omega arith)
          ∙ ap (λ (n : ℕ). let r : Result ℕ End = Ok n in r) (parts.0 ∙ ap (λ (n : ℕ). n % 256) is),
      loads 2 (omega arith) (omega arith)
          ∙ ap (λ (n : ℕ). let r : Result ℕ End = Ok n in r) (parts.1 ∙ ap (λ (n : ℕ). n % 2 ^ 16) is),
    )
