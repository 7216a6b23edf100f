-- What a map reads of memory is what the machine loads.
use Rattle.std.specs.List.{AllByRecursion}
use Rattle.std.proofs.Common.{◌≡◌, ℕ, ◌+◌, ◌-◌, ◌≤◌, Bool, true, false, List, [], ◌∷◌, length, take, drop, Option}
use Rattle.std.proofs.Common.{Some, None, Ok, refl, sym, ap, subst, ◌∙◌, arith}
use Rattle.std.specs.Prelude.{◌&&◌, option_map, if◌then◌else◌, nat_le}
use Rattle.std.proofs.lemmas.Bool.{true≢false}
use Rattle.std.proofs.lemmas.Bool.Decides.{nat_tests}
use Rattle.std.proofs.lemmas.Option.{none-some, same_Some}
use Rattle.byteorder.specs.Endian.{little_number}
use Rattle.byteorder.specs.Numbers.{little_from-take}
use Rattle.pcc_base.specs.Outcome.{End}
use Rattle.ia32_insn.specs.State.{State, Area, bytes_at, has_bytes}
use Rattle.ia32_insn.specs.Meaning.{and_then, load, or_end}
use Rattle.ia32_insn.specs.Items.{text_area, text_start}
use Rattle.ia32_rows.specs.Sites.{IsSound, data_from}
use Rattle.map_text.specs.Marks.{depth_of, number_at}

-- every area may be read
abbrev pub AreReadable : List Area → Type 0
AreReadable areas = AllByRecursion (λ area. area.readable ≡ true) areas

-- text and data may
pub sound-readable : (text : List ℕ) (low high : ℕ) (s : State) → IsSound text low high s → AreReadable s.memory
sound-readable text low high s h = subst AreReadable (sym h.memory) (refl, (refl, tt))

read-if : (b : Bool) (n : ℕ) (bytes : List ℕ) (number : Option ℕ) (rest : Option (List ℕ))
    → number ≡ option_map (little_number n) rest
    → (if b then Some (little_number n bytes) else number)
    ≡ option_map (little_number n) (if b then Some (take n bytes) else rest)
read-if true n bytes number rest e = ap Some (sym (little_from-take 0 n n bytes (omega arith)))
read-if false n bytes number rest e = e

-- where memory may be read, the number at an address is that of the bytes there
number-read : (n address : ℕ) (areas : List Area) → AreReadable areas
    → number_at n address areas ≡ option_map (little_number n) (bytes_at n address areas)
number-read n address [] all = refl
number-read n address (area ∷ areas) all =
    rw all.0
    (read-if (has_bytes area address n) n (drop (address - area.address) area.bytes) (number_at n address areas)
    (bytes_at n address areas) (number-read n address areas all.1))

loaded : (n : ℕ) (o : Option (List ℕ)) (end : End) (word : ℕ)
    → and_then (or_end o end) (λ bytes. Ok (little_number n bytes)) ≡ Ok word
    → option_map (little_number n) o ≡ Some word
loaded n None end word e = absurd (cc)
loaded n (Some bytes) end word e = let same : little_number n bytes ≡ word = cc in ap Some same

-- what is loaded is the number there
pub load-number : (n address word : ℕ) (s : State) → AreReadable s.memory → load n address s ≡ Ok word
    → number_at n address s.memory ≡ Some word
load-number n address word s all e =
    number-read n address s.memory all ∙ loaded n (bytes_at n address s.memory) _ word e

-- ---- the depth word

-- the second of two areas, where the first hasn't the bytes
second-number : (b c : Bool) (x y d : ℕ) → b ≡ false
    → (if b then Some x else (if c then Some y else None)) ≡ Some d → y ≡ d
second-number true c x y d h e = absurd (true≢false h)
second-number false true x y d h e = same_Some y d e
second-number false false x y d h e = absurd (none-some d e)

text-ends : (start size low : ℕ) → start + size ≤ low → (nat_le start low && nat_le (low + 4) (start + size)) ≡ false
text-ends start size low h = grind (arith, nat_tests)

-- The word with which the data begins is the depth.
pub depth-read : (text : List ℕ) (low high depth : ℕ) (s : State) → IsSound text low high s
    → load 4 low s ≡ Ok depth → depth_of s.memory ≡ depth
depth-read text low high depth s h e =
    let areas : List Area = text_area text ∷ data_from low h.bytes ∷ [] in
    let number : number_at 4 low areas ≡ Some depth =
    subst (λ (l : List Area). number_at 4 low l ≡ Some depth) h.memory
    (load-number 4 low depth s (sound-readable text low high s h) e) in
    let first : low - low ≡ 0 = omega arith in
    ap depth_of h.memory
    ∙ ap (λ (n : ℕ). little_number 4 (drop n h.bytes)) (sym first)
    ∙ second-number (has_bytes (text_area text) low 4) (has_bytes (data_from low h.bytes) low 4)
    (little_number 4 (drop (low - text_start) text)) (little_number 4 (drop (low - low) h.bytes)) depth
    (text-ends text_start (length text) low h.above) number
