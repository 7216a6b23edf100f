-- Code that may not be written stays: over a store, and over each instruction.
use Rattle.std.specs.Prelude.{◌≡◌, ℕ, ◌+◌, ◌-◌, Bool, true, false, ◌&&◌, List, [], ◌∷◌, length, drop, refl}
use Rattle.std.specs.Prelude.{Option, Some, None, option_map, Result, Ok, Err, IfOk, nat_le, if◌then◌else◌}
use Rattle.std.proofs.Common.{sym, ◌∙◌, ap, subst, arith}
use Rattle.std.proofs.lemmas.Bool.{and_parts}
use Rattle.std.proofs.lemmas.Option.{none-some, same_Some}
use Rattle.pcc_base.specs.Outcome.{End}
use Rattle.ia32_insn.specs.declared.insn.Insn.{Insn}
use Rattle.ia32_insn.specs.State.{State, Area, has_bytes, code_at, may_store, stored, with_bytes, at_address}
use Rattle.ia32_insn.specs.Meaning.{Moved, Moves, Halts, moved_of, and_then, store_bytes, effect, target, perform}
use Rattle.ia32_insn.proofs.Splices.{length-replaced}
use Rattle.ia32_insn.proofs.Memory.{inside, mapped}
use Rattle.ia32_insn.proofs.Access.{store_bytes-ok}
use Rattle.ia32_insn.proofs.Kept.{IsKept, effect-kept, if-ok}
use Rattle.ia32_machine.specs.Code.{IsFixed, KeepsCode}

-- ---- tests

-- a test that fails, of which the first part holds
second : (a b : Bool) → a ≡ true → (a && b) ≡ false → b ≡ false
second true b h e = e
second false b h e = absurd (let no : false ≡ true = h in cc)

-- neither of two ways
neither : (t m : Bool) → (if t then true else m) ≡ false → (t ≡ false) × (m ≡ false)
neither true m e = absurd (let no : true ≡ false = e in cc)
neither false m e = (refl, e)

passes : {X : Type 0} (t : Bool) (x y : X) → t ≡ false → (if t then x else y) ≡ y
passes true x y e = absurd (let no : true ≡ false = e in cc)
passes false x y e = refl

-- a choice whose test has a part that fails
passes-part : {X : Type 0} (a b : Bool) (x y : X) → b ≡ false → (if a && b then x else y) ≡ y
passes-part true b x y e = passes b x y e
passes-part false b x y e = refl

-- ---- a store

-- what is kept at one address
abbrev Keeps : ℕ → List Area → List Area → Type 0
Keeps b old new = IsFixed b new × (code_at b new ≡ code_at b old)

-- a store to the first area, which may be written, and so doesn't have the address
here : (a b : ℕ) (bytes : List ℕ) (area : Area) (areas : List Area) → (area.writable && has_bytes area a (length bytes))
    ≡ true → (area.writable && has_bytes area b 1) ≡ false → IsFixed b areas
    → Keeps b (area ∷ areas) (with_bytes a bytes area ∷ areas)
here a b bytes area areas t free rest =
    let parts = and_parts area.writable (has_bytes area a (length bytes)) t in
    let h = inside area a (length bytes) parts.1 in
    let lacks : has_bytes area b 1 ≡ false = second area.writable (has_bytes area b 1) parts.0 free in
    let long : length (with_bytes a bytes area).bytes ≡ length area.bytes =
    length-replaced (a - area.address) bytes area.bytes (omega (arith, h.from, h.to)) in
    let still : has_bytes (with_bytes a bytes area) b 1 ≡ false =
    ap (λ (k : ℕ). nat_le area.address b && nat_le (b + 1) (area.address + k)) long ∙ lacks in (
      passes-part area.writable (has_bytes (with_bytes a bytes area) b 1) true (may_store 1 b areas) still ∙ rest,
      passes-part area.runnable (has_bytes (with_bytes a bytes area) b 1)
          (Some (drop (b - area.address) (with_bytes a bytes area).bytes)) (code_at b areas) still
          ∙ sym (passes-part area.runnable (has_bytes area b 1) (Some (drop (b - area.address) area.bytes))
          (code_at b areas) lacks),
    )

-- a store behind the first area
behind : (b : ℕ) (area : Area) (areas rest : List Area) → (area.writable && has_bytes area b 1) ≡ false
    → Keeps b areas rest → Keeps b (area ∷ areas) (area ∷ rest)
behind b area areas rest free k = (
  passes (area.writable && has_bytes area b 1) true (may_store 1 b rest) free ∙ k.0,
  ap (λ (o : Option (List ℕ)). if area.runnable && has_bytes area b 1 then Some (drop (b - area.address) area.bytes)
      else o) k.1,
)

stored-keeps : (a b : ℕ) (bytes : List ℕ) (areas new : List Area) → stored a bytes areas ≡ Some new → IsFixed b areas
    → Keeps b areas new
stored-keeps a b bytes [] new e free = absurd (none-some new e)
stored-keeps a b bytes (area ∷ areas) new e free =
    let t : Bool = area.writable && has_bytes area a (length bytes) in
    let f : List Area → List Area = λ others. area ∷ others in
    let out = neither (area.writable && has_bytes area b 1) (may_store 1 b areas) free in
    (elim t as (λ v. t ≡ v
    → (if v then Some (with_bytes a bytes area ∷ areas) else option_map f (stored a bytes areas)) ≡ Some new
    → Keeps b (area ∷ areas) new) [
      | true ↦ λ h s. subst (λ (m : List Area). Keeps b (area ∷ areas) m) (same_Some _ _ s)
          (here a b bytes area areas h out.0 out.1)
      | false ↦ λ h s.
          let m = mapped f (stored a bytes areas) new s in
          subst (λ (n : List Area). Keeps b (area ∷ areas) n) m.2
          (behind b area areas m.0 out.0 (stored-keeps a b bytes areas m.0 m.1 out.1))
    ]) refl e

pub store-keeps : (address : ℕ) (bytes : List ℕ) (s t : State) → store_bytes address bytes s ≡ Ok t
    → KeepsCode s.memory t.memory
store-keeps address bytes s t e =
    let done = store_bytes-ok address bytes s t e in
    subst (λ (u : State). KeepsCode s.memory u.memory) done.2
    (λ b free. stored-keeps address b bytes s.memory done.0 done.1 free)

-- ---- an instruction

-- one change after another
pub keeps-then : (old mid new : List Area) → KeepsCode old mid → KeepsCode mid new → KeepsCode old new
keeps-then old mid new p q =
    λ b free. let first = p b free in let later = q b first.0 in (later.0, later.1 ∙ first.1)

pub keeps-same : (memory : List Area) → KeepsCode memory memory
keeps-same memory = λ b free. (free, refl)

effect-keeps : (i : Insn) (after : ℕ) (s : State) → IfOk (effect i after s) (λ t. KeepsCode s.memory t.memory)
effect-keeps i after s =
    effect-kept (λ t. KeepsCode s.memory t.memory) i after s
    (record {
      registers = λ t registers h. h;
      flags = λ t flags h. h;
      stores = λ _ address bytes t h. if-ok (store_bytes address bytes t) _
          (λ u e. keeps-then s.memory t.memory u.memory h (store-keeps address bytes t u e));
      streams = λ _ t left taken written h. h;
    })
    (keeps-same s.memory)

-- of an effect, and then of the address that comes next
moved-keeps : (a : Result State End) (b : Result ℕ End) (s t : State) → IfOk a (λ u. KeepsCode s.memory u.memory)
    → moved_of (and_then a (λ u. and_then b (λ n. Ok (at_address n u)))) ≡ Moves t → KeepsCode s.memory t.memory
moved-keeps (Ok u) (Ok n) s t h e =
    let same : at_address n u ≡ t = (let got : Moves (at_address n u) ≡ Moves t = e in cc) in
    subst (λ (v : State). KeepsCode s.memory v.memory) same h
moved-keeps (Ok u) (Err end) s t h e = absurd (let no : Halts end ≡ Moves t = e in cc)
moved-keeps (Err end) b s t h e = absurd (let no : Halts end ≡ Moves t = e in cc)

pub instruction-keeps : (i : Insn) (after : ℕ) (s t : State) → perform i after s ≡ Moves t
    → KeepsCode s.memory t.memory
instruction-keeps i after s t e = moved-keeps (effect i after s) (target i after s) s t (effect-keeps i after s) e
