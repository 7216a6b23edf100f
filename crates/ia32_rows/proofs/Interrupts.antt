-- The system calls of `putchar` and of the end.
use Rattle.std.proofs.Common.{◌≡◌, ℕ, ◌+◌, ◌%◌, ◌≤◌, ◌<◌, List, [], ◌∷◌, ◌++◌, length, Ok, Err, refl, ap, subst, ◌∙◌}
use Rattle.std.proofs.Common.{arith}
use Rattle.std.specs.Prelude.{Result}
use Rattle.pcc_base.specs.Outcome.{End, Ended}
use Rattle.ia32_insn.specs.declared.register_names.Reg32.TheVariants.{Eax, Ecx, Edx, Ebx}
use Rattle.ia32_insn.specs.declared.insn.Insn.TheVariants as insn
use Rattle.ia32_insn.specs.declared.item.Item.{Item}
use Rattle.ia32_insn.specs.declared.item.Item.TheVariants as item
use Rattle.ia32_insn.specs.State.{State, at_address}
use Rattle.ia32_insn.specs.Meaning.{Halts, and_then, load, load_bytes, call_of, make_call, write_call, system_call}
use Rattle.ia32_insn.specs.Meaning.{word_of}
use Rattle.ia32_insn.specs.Meaning.{with_word}
use Rattle.ia32_insn.specs.Runs.{Steps}
use Rattle.ia32_rows.proofs.Sound.{one-byte, sound-with_word, sound-at, word-same, word-other}
use Rattle.ia32_rows.proofs.Spelled.{common-begins}
use Rattle.ia32_rows.proofs.Steps.{IsAt, IsClear, Comes, at-front, clear-at, step-at, perform-halts, plain-goes}
use Rattle.ia32_rows.proofs.Sets.{Sets}
use Rattle.ia32_rows.specs.Sites.{Site, SoundAt, ReadyAt}

-- the state behind a `write` of a byte
abbrev written_state : ℕ → State → State
written_state y s = with_word Eax 1 (record s { written = s.written ++ y ∷ [] })

write-does : (y a : ℕ) (s : State) → word_of Eax s ≡ 4 → word_of Ebx s ≡ 1 → word_of Ecx s ≡ a → word_of Edx s ≡ 1
    → load_bytes 1 a s ≡ Ok (y ∷ []) → system_call s ≡ Ok (written_state y s)
write-does y a s eax ebx ecx edx held =
    ap (λ (k : ℕ). make_call (call_of k (word_of Ebx s)) s) eax
    ∙ ap (λ (k : ℕ). make_call (call_of 4 k) s) ebx
    ∙ ap (λ (k : ℕ). write_call (word_of Edx s) k s) ecx
    ∙ ap (λ (k : ℕ). write_call k a s) edx
    ∙ ap (λ (x : Result (List ℕ) End). and_then x
    (λ bytes. let r : Result State End = Ok (with_word Eax 1 (record s { written = s.written ++ bytes })) in r))
    held

exit-does : (s : State) → word_of Eax s ≡ 1 → system_call s ≡ Err (Ended (word_of Ebx s % 256))
exit-does s eax = ap (λ (k : ℕ). make_call (call_of k (word_of Ebx s)) s) eax

-- INT 0x80 that writes the byte at an address
pub write-goes : (site : Site) (items : List Item) (y a : ℕ) (s : State) → SoundAt site s
    → ReadyAt site (item.Plain (insn.Int 0x80) ∷ items) s
    → word_of Eax s ≡ 4 → word_of Ebx s ≡ 1 → word_of Ecx s ≡ a → word_of Edx s ≡ 1 → load 1 a s ≡ Ok y → site.low ≤ a
    → a + 1 ≤ site.high
    → (u : State) × Comes site.text s u × ReadyAt site items u × Sets site Eax 1 (s.written ++ y ∷ []) s u
write-goes site items y a s sound ready eax ebx ecx edx held from to =
    let m : State = record s { written = s.written ++ y ∷ [] } in
    let m_sound : SoundAt site m = record {
      bytes = sound.bytes;
      memory = sound.memory;
      size = sound.size;
      above = sound.above;
      below = sound.below;
      small = sound.small;
      registers = sound.registers;
    } in
    let does = write-does y a s eax ebx ecx edx (one-byte site.text site.low site.high a y s sound from to held) in
    let went = plain-goes site.symbols site.places site.text site.low site.high (insn.Int 0x80) items s
    (written_state y s) sound ready tt (λ after. does) (λ after. refl) in (
      at_address went.0 (written_state y s),
      went.1,
      went.2,
      record {
        sound = sound-at site.text site.low site.high went.0 (written_state y s)
            (sound-with_word site.text site.low site.high Eax 1 m m_sound);
        value = word-same site.text site.low site.high Eax 1 m m_sound (omega arith);
        others = λ q other. word-other site.text site.low site.high q Eax 1 m m_sound other;
        memory = refl;
        left = refl;
        taken = refl;
        written = refl;
      },
    )

-- INT 0x80 that ends the run
pub exit-halts : (site : Site) (items : List Item) (x : ℕ) (s : State) → SoundAt site s
    → ReadyAt site (item.Plain (insn.Int 0x80) ∷ items) s → word_of Eax s ≡ 1 → word_of Ebx s ≡ x
    → Steps s (Halts (Ended (x % 256))) × IsClear site.text s.eip
exit-halts site items x s sound ready eax ebx =
    let first : List ℕ = ready.stand.0 in
    let front = at-front site.text s.eip first ready.stand.1 (subst (IsAt site.text s.eip) ready.stand.2 ready.here) in
    let some : 0 < length first = let l = ap length ready.stand.3 in omega (arith, l) in
    let after : ℕ = s.eip + length first in
    let halts = perform-halts (insn.Int 0x80) after s (Ended (x % 256))
    (exit-does s eax ∙ ap (λ (k : ℕ). let r : Result State End = Err (Ended (k % 256)) in r) ebx) in (
      subst (Steps s) halts (step-at site.text site.low site.high (insn.Int 0x80) first s sound front some
          ready.stand.3),
      clear-at site.text s.eip first front (common-begins (insn.Int 0x80) first tt ready.stand.3),
    )
