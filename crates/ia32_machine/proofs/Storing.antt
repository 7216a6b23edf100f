-- Memory that may be stored to: a store of that many bytes is made, and so is one of fewer.
use Rattle.std.specs.Prelude.{◌≡◌, ℕ, ◌<◌, Bool, true, false, ◌&&◌, List, [], ◌∷◌, length, Option, Some, None}
use Rattle.std.specs.Prelude.{option_map, Result, Ok, Err, if◌then◌else◌, refl}
use Rattle.std.proofs.Common.{sym, ◌∙◌, ap, subst, arith}
use Rattle.std.proofs.lemmas.Bool.Decides.{nat_tests}
use Rattle.pcc_base.specs.Outcome.{End}
use Rattle.ia32_insn.specs.Meaning.{and_then, or_end, denied, store, store_bytes}
use Rattle.ia32_insn.specs.Meaning.{with_word}
use Rattle.ia32_insn.proofs.Access.{and_then-ok, ok-once}
use Rattle.ia32_insn.specs.declared.register_names.Reg32.TheVariants.{Eax}
use Rattle.ia32_machine.specs.Code.{KeepsCode}
use Rattle.ia32_machine.proofs.Kept.{store-keeps}
use Rattle.ia32_machine.specs.Answers.{Leaves, end_of}
use Rattle.ia32_machine.specs.declared.halt.Halt.{Halt}
use Rattle.ia32_insn.specs.State.{State, Area, has_bytes, may_store, stored, with_bytes}
use Rattle.ia32_memory.proofs.Storing.{little_bytes-byte}

-- a store after another area, by whether this one has the place
stores_after : (b m : Bool) (x : List Area) (f : List Area → List Area) (rest : Option (List Area))
    → (m ≡ true → rest ≡ None → ⊥) → (if b then true else m) ≡ true → (if b then Some x else option_map f rest) ≡ None
    → ⊥
stores_after true m x f rest h p q = cc
stores_after false m x f None h p q = h p refl
stores_after false m x f (Some y) h p q = cc

-- where so many bytes may be stored, they are
pub stores : (address : ℕ) (bytes : List ℕ) (memory : List Area) → may_store (length bytes) address memory ≡ true
    → stored address bytes memory ≡ None → ⊥
stores address bytes [] p q = cc
stores address bytes (area ∷ areas) p q =
    stores_after (area.writable && has_bytes area address (length bytes)) (may_store (length bytes) address areas)
    (with_bytes address bytes area ∷ areas) (λ others. area ∷ others) (stored address bytes areas)
    (stores address bytes areas) p q

-- an area that has n bytes at an address has one there
has_one : (w : Bool) (area : Area) (address n : ℕ) → 0 < n → (w && has_bytes area address n) ≡ true
    → (w && has_bytes area address 1) ≡ true
has_one w area address n more h = grind (arith, nat_tests)

-- a choice that is true is true where its first test may be true more often
choice_more : (b c m k : Bool) → (b ≡ true → c ≡ true) → (m ≡ true → k ≡ true) → (if b then true else m) ≡ true
    → (if c then true else k) ≡ true
choice_more true true m k h i p = refl
choice_more true false m k h i p = let no : false ≡ true = h refl in cc
choice_more false true m k h i p = refl
choice_more false false m k h i p = i p

-- where n bytes may be stored, so may one
pub one_byte : (address n : ℕ) (memory : List Area) → 0 < n → may_store n address memory ≡ true
    → may_store 1 address memory ≡ true
one_byte address n [] more p = p
one_byte address n (area ∷ areas) more p =
    choice_more (area.writable && has_bytes area address n) (area.writable && has_bytes area address 1)
    (may_store n address areas) (may_store 1 address areas)
    (has_one area.writable area address n more) (one_byte address n areas more) p

-- memory that is there, where an end was given, is none
none_there : (x : Option (List Area)) (end other : End) (s : State)
    → and_then (or_end x end) (λ m. Ok (record s { memory = m })) ≡ Err other → x ≡ None
none_there None end other s e = refl
none_there (Some m) end other s e = absurd (let no : Ok (record s { memory = m }) ≡ Err other = e in cc)

-- a byte that may be stored is stored, and the state after it is changed further
pub byte_stored : (f : State → State) (s t : State) (address byte : ℕ) (result : Result Unit Halt) → byte < 256
    → may_store 1 address s.memory ≡ true → Leaves (store 1 address byte s) s t result
    → and_then (store_bytes address (byte ∷ []) s) (λ u. Ok (f u)) ≡ Ok (f t)
byte_stored f s t address byte (Ok done) below allows h =
    let there : store_bytes address (byte ∷ []) s ≡ Ok t =
    ap (λ (l : List ℕ). store_bytes address l s) (sym (little_bytes-byte byte below)) ∙ h in
    ap (λ (r : Result State End). and_then r (λ u. Ok (f u))) there
byte_stored f s t address byte (Err halt) below allows h =
    let ended : store_bytes address (byte ∷ []) s ≡ Err (end_of halt s) =
    ap (λ (l : List ℕ). store_bytes address l s) (sym (little_bytes-byte byte below)) ∙ h.0 in
    absurd (stores address (byte ∷ []) s.memory allows
    (none_there (stored address (byte ∷ []) s.memory) (denied address s) (end_of halt s) s ended))

-- a byte that is stored keeps the code that may not be written
pub byte_keeps : (address byte : ℕ) (s t : State)
    → and_then (store_bytes address (byte ∷ []) s) (λ u. Ok (with_word Eax 1 u)) ≡ Ok t → KeepsCode s.memory t.memory
byte_keeps address byte s t e =
    let done = and_then-ok (store_bytes address (byte ∷ []) s) (λ u. Ok (with_word Eax 1 u)) t e in
    subst (λ (v : State). KeepsCode s.memory v.memory) (ok-once (with_word Eax 1 done.0) t done.2)
    (store-keeps address (byte ∷ []) s done.0 done.1)
