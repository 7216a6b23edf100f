-- Memory after a store: what is loaded from it, and what it keeps.
use Rattle.std.specs.Prelude.{◌≡◌, ℕ, ◌+◌, ◌-◌, ◌≤◌, ◌<◌, Bool, true, false, IsTrue, ◌&&◌, List, [], ◌∷◌, length, take}
use Rattle.std.specs.Prelude.{drop}
use Rattle.std.specs.Prelude.{map, Option, Some, None, option_map, nat_le, if◌then◌else◌, refl}
use Rattle.std.specs.List.{AllByRecursion}
use Rattle.std.proofs.Common.{sym, ◌∙◌, ap, arith, inl, inr}
use Rattle.std.proofs.lemmas.Bool.{leb-true, le-leb, and_parts}
use Rattle.std.proofs.lemmas.Option.{none-some, same_Some}
use Rattle.ia32_insn.specs.State.{Area, has_bytes, bytes_at, code_at, stored, with_bytes, Shape, shape_of, AreApart}
use Rattle.ia32_insn.specs.State.{IsApart}
use Rattle.ia32_insn.specs.Keeps.{IsCodeOrData, AreDisjoint}
use Rattle.ia32_insn.proofs.Splices.{length-replaced, replaced-same, replaced-before, replaced-after}

-- where a place is in an area
pub record IsInside (area : Area) (address n : ℕ) : Type 0 where
  pub from : area.address ≤ address
  pub to : address + n ≤ area.address + length area.bytes

pub inside : (area : Area) (address n : ℕ) → has_bytes area address n ≡ true → IsInside area address n
inside area address n e =
    let parts = and_parts (nat_le area.address address) (nat_le (address + n) (area.address + length area.bytes)) e in
    record {
      from = leb-true area.address address parts.0;
      to =
          leb-true (address + n) (area.address + length area.bytes) parts.1;
    }

-- the same, where some test stands before
inside-when : (t : Bool) (area : Area) (address n : ℕ) → (t && has_bytes area address n) ≡ true
    → IsInside area address n
inside-when t area address n e = inside area address n (and_parts t (has_bytes area address n) e).1

-- an area with other bytes is as long
length-with_bytes : (address : ℕ) (bytes : List ℕ) (area : Area) → IsInside area address (length bytes)
    → length (with_bytes address bytes area).bytes ≡ length area.bytes
length-with_bytes address bytes area h =
    length-replaced (address - area.address) bytes area.bytes (omega (arith, h.from, h.to))

-- and has the same places
has-with_bytes : (address b n : ℕ) (bytes : List ℕ) (area : Area) → IsInside area address (length bytes)
    → has_bytes (with_bytes address bytes area) b n ≡ has_bytes area b n
has-with_bytes address b n bytes area h =
    ap (λ (k : ℕ). nat_le area.address b && nat_le (b + n) (area.address + k)) (length-with_bytes address bytes area h)

-- what a mapped option came from
pub mapped : {X Y : Type 0} (f : X → Y) (o : Option X) (y : Y) → option_map f o ≡ Some y → (x : X) × (o ≡ Some x)
    × (f x ≡ y)
mapped f None y e = absurd (none-some y e)
mapped f (Some x) y e = (x, refl, same_Some (f x) y e)

-- the two ways in which memory is stored to: in its first area, or behind it
data Store (address : ℕ) (bytes : List ℕ) (area : Area) (areas new : List Area) : Type 0 where
  Here : (area.writable && has_bytes area address (length bytes)) ≡ true → new ≡ with_bytes address bytes area ∷ areas
      → Store address bytes area areas new
  Behind : (area.writable && has_bytes area address (length bytes)) ≡ false → (rest : List Area)
      → stored address bytes areas ≡ Some rest → new ≡ area ∷ rest → Store address bytes area areas new

store-ways : (address : ℕ) (bytes : List ℕ) (area : Area) (areas new : List Area) → stored address bytes (area ∷ areas)
    ≡ Some new → Store address bytes area areas new
store-ways address bytes area areas new =
    let t : Bool = area.writable && has_bytes area address (length bytes) in
    let f : List Area → List Area = λ others. area ∷ others in
    (elim t as (λ v. t ≡ v
    → (if v then Some (with_bytes address bytes area ∷ areas) else option_map f (stored address bytes areas))
    ≡ Some new → Store address bytes area areas new) [
      | true ↦ λ e h. Here e (sym (same_Some _ _ h))
      | false ↦ λ e h. let m = mapped f (stored address bytes areas) new h in Behind e m.0 m.1 (sym m.2)
    ]) refl

-- ---- what a store keeps

-- addresses, lengths and permissions
pub store-shapes : (address : ℕ) (bytes : List ℕ) (areas new : List Area) → stored address bytes areas ≡ Some new
    → map shape_of new ≡ map shape_of areas
store-shapes address bytes [] new e = absurd (none-some new e)
store-shapes address bytes (area ∷ areas) new e =
    elim (store-ways address bytes area areas new e) [
      | Here t same ↦
          let size = length-with_bytes address bytes area (inside-when area.writable area address (length bytes) t) in
          ap (map shape_of) same ∙ ap (λ (k : ℕ). let s : Shape =
          record {
            address = area.address;
            size = k;
            readable = area.readable;
            writable = area.writable;
            runnable =
                area.runnable;
          } in s ∷ map shape_of areas) size
      | Behind t rest s same ↦
          ap (map shape_of) same ∙ ap (λ (l : List Shape). shape_of area ∷ l) (store-shapes address bytes areas rest s)
    ]

-- bytes of an area apart from those that were replaced
read-apart : (a b n : ℕ) (bytes : List ℕ) (area : Area) → IsInside area a (length bytes) → IsInside area b n
    → AreDisjoint a (length bytes) b n
    → take n (drop (b - area.address) (with_bytes a bytes area).bytes) ≡ take n (drop (b - area.address) area.bytes)
read-apart a b n bytes area h k apart =
    elim apart [
      | inl before ↦
          ap (take n)
          (replaced-after (a - area.address) (b - area.address) bytes area.bytes (omega (arith, h.from, h.to, k.from))
          (omega (arith, h.from, h.to)))
      | inr after ↦
          replaced-before (a - area.address) (b - area.address) n bytes area.bytes (omega (arith, h.from, h.to, k.from))
          (omega (arith, h.from, h.to))
    ]

-- the choice between equal results, where they are equal when the test holds
same-choice : {X : Type 0} (t u : Bool) (x y z : X) → t ≡ u → (u ≡ true → x ≡ y) → (if t then x else z)
    ≡ (if u then y else z)
same-choice true true x y z e h = h refl
same-choice false false x y z e h = refl
same-choice true false x y z e h = absurd (let no : true ≡ false = e in cc)
same-choice false true x y z e h = absurd (let no : false ≡ true = e in cc)

-- every other byte
pub load-store_apart : (a b n : ℕ) (bytes : List ℕ) (areas new : List Area) → stored a bytes areas ≡ Some new
    → AreDisjoint a (length bytes) b n → bytes_at n b new ≡ bytes_at n b areas
load-store_apart a b n bytes [] new e apart = absurd (none-some new e)
load-store_apart a b n bytes (area ∷ areas) new e apart =
    elim (store-ways a bytes area areas new e) [
      | Here t same ↦
          let h = inside-when area.writable area a (length bytes) t in
          ap (bytes_at n b) same
          ∙ same-choice (area.readable && has_bytes (with_bytes a bytes area) b n) (area.readable && has_bytes area b n)
          (Some (take n (drop (b - area.address) (with_bytes a bytes area).bytes)))
          (Some (take n (drop (b - area.address) area.bytes))) (bytes_at n b areas)
          (ap (λ (v : Bool). area.readable && v) (has-with_bytes a b n bytes area h))
          (λ u. ap Some (read-apart a b n bytes area h (inside-when area.readable area b n u) apart))
      | Behind t rest s same ↦
          ap (bytes_at n b) same
          ∙ ap (λ (o : Option (List ℕ)). if area.readable && has_bytes area b n
          then Some (take n (drop (b - area.address) area.bytes))
          else o) (load-store_apart a b n bytes areas rest s apart)
    ]

-- the code, where no area may be both written and run
pub code-store : (a b : ℕ) (bytes : List ℕ) (areas new : List Area) → AllByRecursion IsCodeOrData areas
    → stored a bytes areas ≡ Some new → code_at b new ≡ code_at b areas
code-store a b bytes [] new each e = absurd (none-some new e)
code-store a b bytes (area ∷ areas) new each e =
    elim (store-ways a bytes area areas new e) [
      | Here t same ↦
          let still : area.runnable ≡ false = each.0 (and_parts area.writable (has_bytes area a (length bytes)) t).0 in
          ap (code_at b) same ∙ rw still refl
      | Behind t rest s same ↦
          ap (code_at b) same
          ∙ ap (λ (o : Option (List ℕ)). if area.runnable && has_bytes area b 1
          then Some (drop (b - area.address) area.bytes) else o) (code-store a b bytes areas rest each.1 s)
    ]

-- ---- what was stored

-- an area that has bytes from an address on has that address
first-byte : (area : Area) (address n : ℕ) → 0 < n → IsInside area address n → IsTrue (has_bytes area address 1)
first-byte area address n some h =
    ap (λ (v : Bool). v && nat_le (address + 1) (area.address + length area.bytes)) (le-leb area.address address h.from)
    ∙ le-leb (address + 1) (area.address + length area.bytes) (omega (arith, some, h.to))

-- where an area has a place, none apart from it has
apart-none : (address n : ℕ) (area other : Area) → 0 < n → IsApart area other → IsInside area address n
    → IsInside other address n → ⊥
apart-none address n area other some apart h k =
    apart address (first-byte area address n some h) (first-byte other address n some k)

-- a load behind an area that has the place finds nothing
load-past : (address n : ℕ) (area : Area) (areas : List Area) → 0 < n → AllByRecursion (IsApart area) areas
    → IsInside area address n → bytes_at n address areas ≡ None
load-past address n area [] some each h = refl
load-past address n area (other ∷ others) some each h =
    let t : Bool = other.readable && has_bytes other address n in
    (elim t as (λ v. t ≡ v
    → (if v then Some (take n (drop (address - other.address) other.bytes)) else bytes_at n address others)
    ≡ None) [
      | true ↦ λ e. absurd
          (apart-none address n area other some each.0 h (inside-when other.readable other address n e))
      | false ↦ λ e. load-past address n area others some each.1 h
    ]) refl

-- nor does a store
store-past : (address : ℕ) (bytes : List ℕ) (area : Area) (areas : List Area) → 0 < length bytes
    → AllByRecursion (IsApart area) areas → IsInside area address (length bytes) → stored address bytes areas ≡ None
store-past address bytes area [] some each h = refl
store-past address bytes area (other ∷ others) some each h =
    let t : Bool = other.writable && has_bytes other address (length bytes) in
    (elim t as (λ v. t ≡ v
    → (if v then Some (with_bytes address bytes other ∷ others)
    else option_map (λ rest. other ∷ rest) (stored address bytes others)) ≡ None) [
      | true ↦ λ e. absurd
          (apart-none address (length bytes) area other some each.0 h
          (inside-when other.writable other address (length bytes) e))
      | false ↦
          λ e. ap (option_map (λ (rest : List Area). other ∷ rest)) (store-past address bytes area others some each.1 h)
    ]) refl

-- a load at the place of a store, where it could be loaded from before
pub load-store_same : (address : ℕ) (bytes old : List ℕ) (areas new : List Area) → 0 < length bytes → AreApart areas
    → bytes_at (length bytes) address areas ≡ Some old → stored address bytes areas ≡ Some new
    → bytes_at (length bytes) address new ≡ Some bytes
load-store_same address bytes old [] new some apart l e = absurd (none-some new e)
load-store_same address bytes old (area ∷ areas) new some apart l e =
    elim (store-ways address bytes area areas new e) [
      | Here t same ↦
          let n : ℕ = length bytes in
          let h = inside-when area.writable area address n t in
          let has : has_bytes area address n ≡ true = (and_parts area.writable (has_bytes area address n) t).1 in
          let there : has_bytes (with_bytes address bytes area) address n ≡ true =
          has-with_bytes address address n bytes area h ∙ has in
          let read : take n (drop (address - area.address) (with_bytes address bytes area).bytes) ≡ bytes =
          replaced-same (address - area.address) bytes area.bytes (omega (arith, h.from, h.to)) in
          (elim area.readable as (λ r. area.readable ≡ r
          → (if r && has_bytes area address n then Some (take n (drop (address - area.address) area.bytes))
          else bytes_at n address areas) ≡ Some old
          → bytes_at n address new ≡ Some bytes) [
            | true ↦ λ q k.
                let found : (area.readable && has_bytes (with_bytes address bytes area) address n) ≡ true =
                ap (λ (v : Bool). v && has_bytes (with_bytes address bytes area) address n) q ∙ there in
                ap (bytes_at n address) same
                ∙ ap (λ (v : Bool). if v
                then Some (take n (drop (address - area.address) (with_bytes address bytes area).bytes))
                else bytes_at n address areas) found
                ∙ ap Some read
            | false ↦ λ q k. absurd (none-some old (sym (load-past address n area areas some apart.0 h) ∙ k))
          ]) refl l
      | Behind t rest s same ↦
          let n : ℕ = length bytes in
          let u : Bool = area.readable && has_bytes area address n in
          ap (bytes_at n address) same
          ∙ (elim u as (λ v. u ≡ v
          → (if v then Some (take n (drop (address - area.address) area.bytes)) else bytes_at n address areas)
          ≡ Some old
          → (if v then Some (take n (drop (address - area.address) area.bytes)) else bytes_at n address rest)
          ≡ Some bytes) [
            | true ↦ λ q k.
                absurd (none-some rest
                (sym (store-past address bytes area areas some apart.0 (inside-when area.readable area address n q))
                ∙ s))
            | false ↦ λ q k. load-store_same address bytes old areas rest some apart.1 k s
          ]) refl l
    ]
