-- Steps of the machine through items that stand at EIP.
use Rattle.std.proofs.Common.{◌≡◌, ℕ, ◌+◌, ◌-◌, ◌%◌, ◌^◌, ◌<◌, true, List, [], ◌∷◌, ◌++◌, length, drop, Option, Some}
use Rattle.std.proofs.Common.{Ok, Err, nat_le, refl, sym, ap, subst, ◌∙◌, inl, arith, length-append, append_assoc}
use Rattle.std.specs.Prelude.{Result}
use Rattle.std.proofs.lemmas.Bool.{le-leb}
use Rattle.std.proofs.Math.Nat.{mod-eq_of_lt}
use Rattle.std.proofs.Math.Seq.{take-append_seam, drop-append_seam}
use Rattle.pcc_base.specs.Outcome.{End}
use Rattle.pcc_base.proofs.Lists.{all-append}
use Rattle.ia32_insn.specs.declared.insn.Insn.{Insn}
use Rattle.ia32_insn.specs.declared.insn.Insn.TheVariants as insn
use Rattle.ia32_insn.specs.declared.item.Item.{Item}
use Rattle.ia32_insn.specs.declared.item.Item.TheVariants as item
use Rattle.ia32_insn.specs.State.{State, code_at, at_address}
use Rattle.ia32_insn.specs.Spelling.{Spells, Begins}
use Rattle.ia32_insn.specs.Meaning.{Moves, Halts, and_then, moved_of, effect, target, perform}
use Rattle.ia32_insn.specs.Runs.{Steps, StepsAt}
use Rattle.ia32_insn.specs.Items.{Symbols, Places, ItemsAt, text_start}
pub use Rattle.ia32_rows.specs.Paths.{Path, IsAt, IsClear, Comes}
use Rattle.ia32_rows.proofs.Spelled.{BeginsOther, IsCommon, common-begins}
use Rattle.ia32_rows.specs.Sites.{IsSound, Ready}

pub at-front : (text : List ℕ) (address : ℕ) (xs ys : List ℕ) → IsAt text address (xs ++ ys) → IsAt text address xs
at-front text address xs ys h = record {
  done = h.done;
  rest = ys ++ h.rest;
  whole = h.whole
      ∙ ap (λ (l : List ℕ). h.done ++ l) (append_assoc xs ys h.rest);
  place = h.place;
}

pub at-back : (text : List ℕ) (address : ℕ) (xs ys : List ℕ) → IsAt text address (xs ++ ys)
    → IsAt text (address + length xs) ys
at-back text address xs ys h =
    let long = length-append h.done xs in
    let place = h.place in
    record {
      done = h.done ++ xs;
      rest = h.rest;
      whole = h.whole ∙ ap (λ (l : List ℕ). h.done ++ l) (append_assoc xs ys h.rest)
          ∙ sym (append_assoc h.done xs (ys ++ h.rest));
      place = omega arith;
    }

-- where bytes stand, the code begins with them
pub code-here : (text : List ℕ) (low high address : ℕ) (bytes : List ℕ) (s : State) → IsSound text low high s
    → (h : IsAt text address bytes) → 0 < length bytes → code_at address s.memory ≡ Some (bytes ++ h.rest)
code-here text low high address bytes s sound h some =
    let rest : List ℕ = bytes ++ h.rest in
    let place = h.place in
    let whole : length text ≡ length h.done + length rest = ap length h.whole ∙ length-append h.done rest in
    let more : length rest ≡ length bytes + length h.rest = length-append bytes h.rest in
    let one : nat_le text_start address ≡ true = le-leb text_start address (omega arith) in
    let two : nat_le (address + 1) (text_start + length text) ≡ true =
    le-leb (address + 1) (text_start + length text) (omega arith) in
    let offset : address - text_start ≡ length h.done = omega arith in
    let tail : drop (address - text_start) text ≡ rest = ap (λ (k : ℕ). drop k text) offset
    ∙ ap (drop (length h.done)) h.whole ∙ drop-append_seam h.done rest in
    ap (code_at address) sound.memory ∙ rw (one, two) (ap Some tail)

-- the step from a state at whose address an instruction is spelled
pub step-at : (text : List ℕ) (low high : ℕ) (i : Insn) (bytes : List ℕ) (s : State) → IsSound text low high s
    → IsAt text s.eip bytes → 0 < length bytes → Spells i bytes → Steps s (perform i (s.eip + length bytes) s)
step-at text low high i bytes s sound h some spelled =
    let At : Option (List ℕ) → Type 0 = λ code. StepsAt code s (perform i (s.eip + length bytes) s) in
    let Spelling : List ℕ → Type 0 = λ b. Spells i b in
    let long = length-append bytes h.rest in
    let begins : Begins i (length bytes) (bytes ++ h.rest) =
    (omega arith, subst Spelling (sym (take-append_seam bytes h.rest)) spelled) in
    subst At (sym (code-here text low high s.eip bytes s sound h some)) (inl (i, length bytes, begins, refl))

pub perform-moves : (i : Insn) (after address : ℕ) (s t : State) → effect i after s ≡ Ok t → target i after s
    ≡ Ok address → perform i after s ≡ Moves (at_address address t)
perform-moves i after address s t e k =
    ap (λ (r : Result State End). moved_of (and_then r (λ u. and_then (target i after s) (λ a. Ok (at_address a u))))) e
    ∙ ap (λ (r : Result ℕ End). moved_of (and_then r (λ a. let q : Result State End = Ok (at_address a t) in q))) k

pub perform-halts : (i : Insn) (after : ℕ) (s : State) (end : End) → effect i after s ≡ Err end → perform i after s
    ≡ Halts end
perform-halts i after s end e = ap (λ (r : Result State End).
    moved_of (and_then r (λ u. and_then (target i after s) (λ a. Ok (at_address a u))))) e

-- ---- runs through instructions that are no NOP

pub comes-not : (text : List ℕ) (s : State) → Comes text s s
comes-not text s = record { addresses = []; path = refl; clear = tt }

path-join : (xs ys : List ℕ) (s t u : State) → Path xs s t → Path ys t u → Path (xs ++ ys) s u
path-join [] ys s t u e q = subst (λ (v : State). Path ys v u) (sym e) q
path-join (x ∷ xs) ys s t u (next, at, step, p) q = (next, at, step, path-join xs ys next t u p q)

pub comes-then : (text : List ℕ) (s t u : State) → Comes text s t → Comes text t u → Comes text s u
comes-then text s t u a b = record {
  addresses = a.addresses ++ b.addresses;
  path =
      path-join a.addresses b.addresses s t u a.path b.path;
  clear =
      all-append (IsClear text) a.addresses b.addresses a.clear b.clear;
}

-- ---- items at EIP

-- two bytes at one place are the same
same-front : (done other x y : List ℕ) → length done ≡ length other → done ++ x ≡ other ++ y → x ≡ y
same-front done other x y long e =
    sym (drop-append_seam done x) ∙ ap (drop (length done)) e ∙ ap (λ (k : ℕ). drop k (other ++ y)) long
    ∙ drop-append_seam other y

-- where an instruction that is no NOP is spelled, no NOP is
pub clear-at : (text : List ℕ) (address : ℕ) (bytes : List ℕ) → IsAt text address bytes → BeginsOther bytes
    → IsClear text address
clear-at text address bytes h (first, rest, begins, other) nop =
    let one = h.place in
    let two = nop.place in
    let same : bytes ++ h.rest ≡ 0x90 ∷ nop.rest =
    same-front h.done nop.done (bytes ++ h.rest) (0x90 ∷ nop.rest) (omega arith) (sym h.whole ∙ nop.whole) in
    let heads : first ∷ (rest ++ h.rest) ≡ 0x90 ∷ nop.rest = ap (λ (l : List ℕ). l ++ h.rest) (sym begins) ∙ same in
    let e : first ≡ 0x90 = cc in
    other e

-- an address in the text is below 2 ^ 32
pub after-fits : (text : List ℕ) (low high address : ℕ) (bytes : List ℕ) (s : State) → IsSound text low high s
    → IsAt text address bytes → address + length bytes < 2 ^ 32
after-fits text low high address bytes s sound h =
    let rest : List ℕ = bytes ++ h.rest in
    let place = h.place in
    let whole : length text ≡ length h.done + length rest = ap length h.whole ∙ length-append h.done rest in
    let more : length rest ≡ length bytes + length h.rest = length-append bytes h.rest in
    let size = sound.size in
    let above = sound.above in
    let below = sound.below in
    omega arith

-- the step of an instruction that goes on to another address
pub step-goes : (text : List ℕ) (low high : ℕ) (i : Insn) (bytes : List ℕ) (s t : State) (address : ℕ)
    → IsSound text low high s → IsAt text s.eip bytes → Spells i bytes → IsCommon i
    → effect i (s.eip + length bytes) s ≡ Ok t → target i (s.eip + length bytes) s ≡ Ok address
    → Comes text s (at_address address t)
step-goes text low high i bytes s t address sound h spelled common e k =
    let other = common-begins i bytes common spelled in
    let long : 0 < length bytes = let l = ap length other.2 in omega (arith, l) in
    let step = step-at text low high i bytes s sound h long spelled in
    let moves = perform-moves i (s.eip + length bytes) address s t e k in
    record {
      addresses = s.eip ∷ [];
      path = (at_address address t, refl, subst (Steps s) moves step, refl);
      clear = (clear-at text s.eip bytes h other, tt);
    }

-- a plain instruction that goes on to the next one
pub plain-goes : (symbols : Symbols) (places : Places) (text : List ℕ) (low high : ℕ) (i : Insn) (items : List Item)
    (s t : State) → IsSound text low high s → Ready symbols places text (item.Plain i ∷ items) s → IsCommon i
    → ((after : ℕ) → effect i after s ≡ Ok t) → ((after : ℕ) → target i after s ≡ Ok after) → (address : ℕ)
    × Comes text s (at_address address t) × Ready symbols places text items (at_address address t)
plain-goes symbols places text low high i items s t sound ready common e k =
    let first : List ℕ = ready.stand.0 in
    let rest : List ℕ = ready.stand.1 in
    let whole : IsAt text s.eip (first ++ rest) = subst (IsAt text s.eip) ready.stand.2 ready.here in
    let address : ℕ = s.eip + length first in
    let back = at-back text s.eip first rest whole in
    let small : address % 2 ^ 32 ≡ address = mod-eq_of_lt
    (after-fits text low high s.eip first s sound (at-front text s.eip first rest whole)) in (
      address,
      step-goes text low high i first s t address sound (at-front text s.eip first rest whole) ready.stand.3 common
          (e address) (k address),
      record {
        bytes = rest;
        here = subst (λ (a : ℕ). IsAt text a rest) (sym small) back;
        stand = subst (λ (a : ℕ). ItemsAt symbols places a items rest) (sym small) ready.stand.4;
      },
    )

-- an item that takes no room is passed
empty-passed : (symbols : Symbols) (places : Places) (text : List ℕ) (items : List Item) (s : State)
    (bytes first rest : List ℕ) → IsAt text s.eip bytes → bytes ≡ first ++ rest → first ≡ []
    → ItemsAt symbols places (s.eip + length first) items rest
    → Ready symbols places text items s
empty-passed symbols places text items s bytes first rest h whole none stand =
    let same : bytes ≡ rest = whole ∙ ap (λ (l : List ℕ). l ++ rest) none in
    let at : s.eip + length first ≡ s.eip = let l = ap length none in omega (arith, l) in
    record {
      bytes = rest;
      here = subst (IsAt text s.eip) same h;
      stand =
          subst (λ (a : ℕ). ItemsAt symbols places a items rest) at stand;
    }

pub point-passed : (symbols : Symbols) (places : Places) (text : List ℕ) (p : ℕ) (items : List Item) (s : State)
    → Ready symbols places text (item.Point p ∷ items) s → (places.points p ≡ s.eip) × Ready symbols places text items s
point-passed symbols places text p items s ready = (
  ready.stand.3.1,
  empty-passed symbols places text items s ready.bytes ready.stand.0 ready.stand.1 ready.here
      ready.stand.2 ready.stand.3.0 ready.stand.4,
)

pub label-passed : (symbols : Symbols) (places : Places) (text : List ℕ) (l : ℕ) (items : List Item) (s : State)
    → Ready symbols places text (item.Label l ∷ items) s → Ready symbols places text items s
label-passed symbols places text l items s ready =
    empty-passed symbols places text items s ready.bytes ready.stand.0 ready.stand.1 ready.here ready.stand.2
    ready.stand.3.0 ready.stand.4

-- the NOP goes on to the next instruction
pub nop-goes : (symbols : Symbols) (places : Places) (text : List ℕ) (low high : ℕ) (items : List Item) (s : State)
    → IsSound text low high s → Ready symbols places text (item.Plain insn.Nop ∷ items) s
    → (address : ℕ) × Steps s (Moves (at_address address s)) × IsAt text s.eip (0x90 ∷ [])
    × Ready symbols places text items (at_address address s)
nop-goes symbols places text low high items s sound ready =
    let first : List ℕ = ready.stand.0 in
    let rest : List ℕ = ready.stand.1 in
    let whole : IsAt text s.eip (first ++ rest) = subst (IsAt text s.eip) ready.stand.2 ready.here in
    let front = at-front text s.eip first rest whole in
    let is : first ≡ 0x90 ∷ [] = ready.stand.3 in
    let address : ℕ = s.eip + length first in
    let some : 0 < length first = let l = ap length is in omega (arith, l) in
    let small : address % 2 ^ 32 ≡ address = mod-eq_of_lt (after-fits text low high s.eip first s sound front) in (
      address,
      step-at text low high insn.Nop first s sound front some is,
      subst (IsAt text s.eip) is front,
      record {
        bytes = rest;
        here = subst (λ (a : ℕ). IsAt text a rest) (sym small) (at-back text s.eip first rest whole);
        stand = subst (λ (a : ℕ). ItemsAt symbols places a items rest) (sym small) ready.stand.4;
      },
    )

-- items one after the other stand where the first ones do, and behind them
pub items-split : (symbols : Symbols) (places : Places) (address : ℕ) (xs ys : List Item) (bytes : List ℕ)
    → ItemsAt symbols places address (xs ++ ys) bytes
    → (first : List ℕ) × (rest : List ℕ) × (bytes ≡ first ++ rest) × ItemsAt symbols places address xs first
    × ItemsAt symbols places (address + length first) ys rest
items-split symbols places address [] ys bytes h =
    let at : address ≡ address + length {A = ℕ} [] = omega arith in
    ([], bytes, refl, refl, subst (λ (a : ℕ). ItemsAt symbols places a ys bytes) at h)
items-split symbols places address (x ∷ xs) ys bytes (first, rest, whole, one, more) =
    let m = items-split symbols places (address + length first) xs ys rest more in
    let long = length-append first m.0 in
    let at : address + length first + length m.0 ≡ address + length (first ++ m.0) = omega arith in (
      first ++ m.0,
      m.1,
      whole ∙ ap (λ (l : List ℕ). first ++ l) m.2 ∙ sym (append_assoc first m.0 m.1),
      (first, m.0, refl, one, m.3),
      subst (λ (a : ℕ). ItemsAt symbols places a ys m.1) at m.4,
    )

-- the same, with the bytes of the instruction that was passed
pub plain-measured : (symbols : Symbols) (places : Places) (text : List ℕ) (low high : ℕ) (i : Insn) (items : List Item)
    (s t : State) → IsSound text low high s → (ready : Ready symbols places text (item.Plain i ∷ items) s) → IsCommon i
    → ((after : ℕ) → effect i after s ≡ Ok t) → ((after : ℕ) → target i after s ≡ Ok after)
    → (address : ℕ) × Comes text s (at_address address t)
    × (next : Ready symbols places text items (at_address address t)) × (first : List ℕ) × Spells i first
    × ((at_address address t).eip ≡ s.eip + length first) × (ready.bytes ≡ first ++ next.bytes)
plain-measured symbols places text low high i items s t sound ready common e k =
    let first : List ℕ = ready.stand.0 in
    let rest : List ℕ = ready.stand.1 in
    let whole : IsAt text s.eip (first ++ rest) = subst (IsAt text s.eip) ready.stand.2 ready.here in
    let address : ℕ = s.eip + length first in
    let back = at-back text s.eip first rest whole in
    let small : address % 2 ^ 32 ≡ address = mod-eq_of_lt
    (after-fits text low high s.eip first s sound (at-front text s.eip first rest whole)) in (
      address,
      step-goes text low high i first s t address sound (at-front text s.eip first rest whole) ready.stand.3 common
          (e address) (k address),
      record {
        bytes = rest;
        here = subst (λ (a : ℕ). IsAt text a rest) (sym small) back;
        stand = subst (λ (a : ℕ). ItemsAt symbols places a items rest) (sym small) ready.stand.4;
      },
      first,
      ready.stand.3,
      small,
      ready.stand.2,
    )
