-- Loads and stores of numbers of n bytes: what a store leaves for loads, and what it keeps.
use Rattle.std.specs.Prelude.{◌≡◌, ℕ, ◌<◌, ◌^◌, List, [], length, Option, Some, None, Result, Ok, Err, refl}
use Rattle.std.proofs.Common.{sym, ◌∙◌, ap, subst, arith, append-nil}
use Rattle.byteorder.specs.Endian.{little_number, little_bytes}
use Rattle.byteorder.specs.Numbers.{length-bytes_low_first, little_number-reads_back}
use Rattle.pcc_base.specs.Outcome.{End}
use Rattle.ia32_insn.specs.State.{State, Area, AreApart, bytes_at, stored}
use Rattle.ia32_insn.specs.Meaning.{and_then, or_end, denied, load, load_bytes, store, store_bytes}
use Rattle.ia32_insn.specs.Keeps.{AreDisjoint, KeepsAreas, KeepsAllButMemory}
use Rattle.ia32_insn.proofs.Memory.{store-shapes, code-store, load-store_apart, load-store_same}

-- two results are one value
pub ok-once : {X : Type 0} (x y : X) → (let a : Result X End = Ok x in a) ≡ Ok y → x ≡ y
ok-once x y e = cc

-- an end is no value
pub end-ok : {X : Type 0} (end : End) (x : X) → (let a : Result X End = Err end in a) ≡ Ok x → ⊥
end-ok end x e = absurd (let no : (let a : Result _ End = Err end in a) ≡ Ok x = e in cc)

-- where a part and what follows it give something, each does
pub and_then-ok : {X Y : Type 0} (a : Result X End) (next : X → Result Y End) (y : Y) → and_then a next ≡ Ok y → (x : X)
    × (a ≡ Ok x) × (next x ≡ Ok y)
and_then-ok (Ok x) next y e = (x, refl, e)
and_then-ok (Err end) next y e = absurd (end-ok end y e)

-- what there is where no end came
pub or_end-ok : {X : Type 0} (o : Option X) (end : End) (x : X) → or_end o end ≡ Ok x → o ≡ Some x
or_end-ok None end x e = absurd (end-ok end x e)
or_end-ok (Some y) end x e = ap Some (ok-once y x e)

-- a store that is done changed memory alone, and so
pub store_bytes-ok : (address : ℕ) (bytes : List ℕ) (s t : State) → store_bytes address bytes s ≡ Ok t
    → (memory : List Area) × (stored address bytes s.memory ≡ Some memory) × (record s { memory = memory } ≡ t)
store_bytes-ok address bytes s t e =
    let step =
    and_then-ok (or_end (stored address bytes s.memory) (denied address s))
    (λ memory. Ok (record s { memory = memory })) t e in
    (step.0, or_end-ok (stored address bytes s.memory) (denied address s) step.0 step.1, ok-once _ t step.2)

pub store-keeps_areas : (address : ℕ) (bytes : List ℕ) (s t : State) → store_bytes address bytes s ≡ Ok t
    → KeepsAreas s.memory t.memory
store-keeps_areas address bytes s t e =
    let done = store_bytes-ok address bytes s t e in
    subst (λ (u : State). KeepsAreas s.memory u.memory) done.2
    (record {
      shapes = store-shapes address bytes s.memory done.0 done.1;
      code =
          λ each b. code-store address b bytes s.memory done.0 each done.1;
    })

pub store-keeps_rest : (address : ℕ) (bytes : List ℕ) (s t : State) → store_bytes address bytes s ≡ Ok t
    → KeepsAllButMemory s t
store-keeps_rest address bytes s t e =
    let done = store_bytes-ok address bytes s t e in
    subst (λ (u : State). KeepsAllButMemory s u) done.2 (record {
      registers = refl;
      flags = refl;
      eip = refl;
      left =
          refl;
      taken = refl;
      written = refl;
    })

-- a load elsewhere gives what it gave before
pub load-elsewhere : (a n b m value : ℕ) (s t : State) → store n a value s ≡ Ok t → AreDisjoint a n b m
    → load m b t ≡ load m b s
load-elsewhere a n b m value s t e apart =
    let bytes : List ℕ = little_bytes n value in
    let done = store_bytes-ok a bytes s t e in
    let places : AreDisjoint a (length bytes) b m =
    subst (λ (k : ℕ). AreDisjoint a k b m) (sym (length-bytes_low_first 0 n value)) apart in
    let same : bytes_at m b done.0 ≡ bytes_at m b s.memory =
    load-store_apart a b m bytes s.memory done.0 done.1 places in
    subst (λ (u : State). load m b u ≡ load m b s) done.2
    (ap (λ (o : Option (List ℕ)). and_then (or_end o (denied b s)) (λ found. let r : Result ℕ End =
    Ok (little_number m found) in r)) same)

-- a load of what was stored gives it, where that place could be loaded from before
pub load-stored : (n address value old : ℕ) (s t : State) → 0 < n → value < 256 ^ n → AreApart s.memory
    → load n address s ≡ Ok old → store n address value s ≡ Ok t → load n address t ≡ Ok value
load-stored n address value old s t some fits apart l e =
    let bytes : List ℕ = little_bytes n value in
    let size : length bytes ≡ n = length-bytes_low_first 0 n value in
    let done = store_bytes-ok address bytes s t e in
    let read =
    and_then-ok (load_bytes n address s) (λ found. let r : Result ℕ End = Ok (little_number n found) in r) old l in
    let before : bytes_at n address s.memory ≡ Some read.0 =
    or_end-ok (bytes_at n address s.memory) (denied address s) read.0 read.1 in
    let before_long : bytes_at (length bytes) address s.memory ≡ Some read.0 =
    subst (λ (k : ℕ). bytes_at k address s.memory ≡ Some read.0) (sym size) before in
    let found : bytes_at n address done.0 ≡ Some bytes =
    subst (λ (k : ℕ). bytes_at k address done.0 ≡ Some bytes) size
    (load-store_same address bytes read.0 s.memory done.0 (let h : 0 < length bytes = omega (arith, size, some) in
    h) apart before_long done.1) in
    let number : little_number n bytes ≡ value =
    ap (little_number n) (sym (append-nil bytes)) ∙ little_number-reads_back n value [] fits in
    subst (λ (u : State). load n address u ≡ Ok value) done.2
    (ap (λ (o : Option (List ℕ)). and_then (or_end o (denied address s)) (λ f. let r : Result ℕ End =
    Ok (little_number n f) in r)) found ∙ ap (λ (v : ℕ). let r : Result ℕ End = Ok v in r) number)
