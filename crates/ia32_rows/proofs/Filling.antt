-- A loop that fills words of memory, from an address down to another: with a register's word, or with a number.
use Rattle.std.proofs.Common.{◌≡◌, ◌≢◌, ℕ, zero, suc, ◌+◌, ◌-◌, ◌*◌, ◌/◌, ◌%◌, ◌^◌, ◌<◌, ◌≤◌, true, false, List, []}
use Rattle.std.proofs.Common.{◌∷◌}
use Rattle.std.proofs.Common.{Option, Some, Ok, drop, refl, sym, ap, subst, ◌∙◌, inl, inr, arith, pos}
use Rattle.std.proofs.Common.{get_or}
use Rattle.std.specs.Prelude.{◌==◌, not, Bool, ℤ, ⊤, Result}
use Rattle.std.specs.Int.{w32, cast_unsigned}
use Rattle.std.proofs.lemmas.Bool.Decides.{eqb_tells}
use Rattle.std.proofs.lemmas.Bool.Decides.{nat_tests}
use Rattle.std.proofs.lemmas.List.{get_or-drop}
use Rattle.byteorder.specs.Endian.{little_from}
use Rattle.byteorder.specs.Numbers.{little_from-take}
use Rattle.pcc_base.specs.Outcome.{End}
use Rattle.ia32_insn.specs.declared.register_names.Reg32.{Reg32}
use Rattle.ia32_insn.specs.Registers.{number32}
use Rattle.ia32_insn.specs.declared.operand.Rm32.TheVariants as rm
use Rattle.ia32_insn.specs.declared.insn.AluOp.TheVariants.{Sub, Cmp}
use Rattle.ia32_insn.specs.declared.insn.Cond.TheVariants.{Ne}
use Rattle.ia32_insn.specs.declared.insn.Insn.{Insn}
use Rattle.ia32_insn.specs.declared.insn.Insn.TheVariants as insn
use Rattle.ia32_insn.specs.declared.item.Item.{Item}
use Rattle.ia32_insn.specs.declared.item.Item.TheVariants as item
use Rattle.ia32_insn.specs.declared.flags.Flags.{Flags}
use Rattle.ia32_insn.specs.State.{State, at_address}
use Rattle.ia32_insn.specs.Arithmetic.{difference, alu_flags, holds}
use Rattle.ia32_insn.specs.Meaning.{and_then, or_end, denied, load, store, word_of, with_flags, effect}
use Rattle.ia32_insn.specs.Meaning.{target}
use Rattle.ia32_insn.specs.Keeps.{AreDisjoint}
use Rattle.ia32_insn.specs.Items.{plain, near}
use Rattle.ia32_rows.specs.Filling.{Filled, FillGoes, ZerosLoad}
use Rattle.ia32_rows.specs.Sites.{IsSound, Site, SoundAt, ReadyAt, StandsFrom}
use Rattle.ia32_rows.proofs.Sound.{bytes-in, load-same, sound-at, sound-with_flags, word-below}
use Rattle.ia32_rows.proofs.Spelled.{IsCommon}
use Rattle.ia32_rows.proofs.Steps.{Comes, comes-then, label-passed, plain-goes}
use Rattle.ia32_rows.proofs.Frames.{with_result}
use Rattle.ia32_rows.proofs.Sets.{disjoint-part, Sets, set-goes}
use Rattle.ia32_rows.proofs.Stores.{Stores, store-goes}
use Rattle.ia32_rows.proofs.Jumps.{branch-leads, branch-passes}

-- ---- numbers

four-less : (p a : ℕ) → p ≡ a + 4 → p < 2 ^ 32 → difference p 4 ≡ a
four-less p a e h = omega arith

lower-fits : (p a : ℕ) → p ≡ a + 4 → p < 2 ^ 32 → a < 2 ^ 32
lower-fits p a e h = omega arith

some-test : (n : ℕ) → 0 < n → (n == 0) ≡ false
some-test n h = grind (arith, nat_tests)

none-test : (n : ℕ) → n ≡ 0 → (n == 0) ≡ true
none-test n e = grind (arith, nat_tests)

equal-test : (a b : ℕ) → a ≡ b → b < 2 ^ 32 → (difference a b == 0) ≡ true
equal-test a b e h = none-test (difference a b) (omega arith)

higher-test : (a b : ℕ) → b < a → a < 2 ^ 32 → (difference a b == 0) ≡ false
higher-test a b h k = some-test (difference a b) (omega arith)

place-zero : (p a : ℕ) → p ≡ a → a < 2 ^ 32 → (p + 0 + 0) % 2 ^ 32 ≡ a
place-zero p a e h = omega arith

-- ---- once through the loop

-- the items of the loop behind its label, whose second instruction fills a word
abbrev pub turn : Reg32 → Insn → Reg32 → ℕ → List Item → List Item
turn pointer filler limit label back =
    plain (insn.AluImm Sub (rm.Reg pointer) (pos 4))
    ∷ plain filler
    ∷ plain (insn.Alu Cmp (rm.Reg pointer) limit)
    ∷ item.JumpIf Ne label
    ∷ back

-- The instruction stores the value at the pointer's address, wherever a test of the other registers holds.
pub record Fills (pointer : Reg32) (Holds : State → Type 0) (value : ℕ) (filler : Insn) : Type 0 where
  pub common : IsCommon filler
  pub fits : value < 2 ^ 32
  pub does : (a after : ℕ) (t : State) → Holds t → word_of pointer t ≡ a → a < 2 ^ 32
      → effect filler after t ≡ store 4 a value t
  pub goes : (after : ℕ) (t : State) → target filler after t ≡ Ok after
  pub stays : (s t : State) → ((q : Reg32) → number32 q ≢ number32 pointer → word_of q t ≡ word_of q s) → Holds s
      → Holds t

-- the word at an address was filled, and the address compared with the limit
record Turned (site : Site) (pointer : Reg32) (a value last : ℕ) (s u : State) : Type 0 where
  pub sound : SoundAt site u
  pub pointer_is : word_of pointer u ≡ a
  pub others : (q : Reg32) → number32 q ≢ number32 pointer → word_of q u ≡ word_of q s
  pub word : load 4 a u ≡ Ok value
  pub apart : (n b w : ℕ) → AreDisjoint a 4 b n → load n b s ≡ Ok w → load n b u ≡ Ok w
  pub flags : u.flags ≡ Some (alu_flags Cmp a last)
  pub left : u.left ≡ s.left
  pub taken : u.taken ≡ s.taken
  pub written : u.written ≡ s.written

-- a comparison of two registers
compare-goes : (site : Site) (items : List Item) (p q : Reg32) (a b : ℕ) (s : State) → SoundAt site s
    → ReadyAt site (plain (insn.Alu Cmp (rm.Reg p) q) ∷ items) s → word_of p s ≡ a → word_of q s ≡ b
    → (address : ℕ) × Comes site.text s (at_address address (with_flags (Some (alu_flags Cmp a b)) s))
    × ReadyAt site items (at_address address (with_flags (Some (alu_flags Cmp a b)) s))
compare-goes site items p q a b s sound ready first second =
    let does : (after : ℕ) → effect (insn.Alu Cmp (rm.Reg p) q) after s
    ≡ Ok (with_flags (Some (alu_flags Cmp a b)) s) = λ after.
    ap (λ (x : ℕ). let r : Result State End = Ok (with_flags (Some (alu_flags Cmp x (word_of q s))) s) in r) first
    ∙ ap (λ (x : ℕ). let r : Result State End = Ok (with_flags (Some (alu_flags Cmp a x)) s) in r) second in
    plain-goes site.symbols site.places site.text site.low site.high (insn.Alu Cmp (rm.Reg p) q) items s
    (with_flags (Some (alu_flags Cmp a b)) s) sound ready tt does (λ after. refl)

turned : (site : Site) (pointer : Reg32) (a value last address : ℕ) (s t u : State)
    → Sets site pointer a s.written s t → Stores site a value t u
    → Turned site pointer a value last s (at_address address (with_flags (Some (alu_flags Cmp a last)) u))
turned site pointer a value last address s t u one two =
    let flags : Option Flags = Some (alu_flags Cmp a last) in
    let now : State = with_flags flags u in
    let v : State = at_address address now in
    record {
      sound = sound-at site.text site.low site.high address now
          (sound-with_flags site.text site.low site.high flags u two.sound);
      pointer_is = two.words pointer ∙ one.value;
      others = λ q other. two.words q ∙ one.others q other;
      word = load-same 4 a value u v refl two.same;
      apart = λ n b w k e. load-same n b w u v refl (two.apart n b w k (load-same n b w s t one.memory e));
      flags = refl;
      left = two.left ∙ one.left;
      taken = two.taken ∙ one.taken;
      written = two.written ∙ one.written;
    }

turn-goes : (site : Site) (pointer limit : Reg32) (Holds : State → Type 0) (filler : Insn) (label a value last : ℕ)
    (back : List Item) (s : State) → Fills pointer Holds value filler → number32 limit ≢ number32 pointer
    → SoundAt site s → ReadyAt site (turn pointer filler limit label back) s → site.low ≤ a → a + 4 ≤ site.high
    → word_of pointer s ≡ a + 4 → Holds s → word_of limit s ≡ last
    → (u : State) × Comes site.text s u × ReadyAt site (item.JumpIf Ne label ∷ back) u
    × Turned site pointer a value last s u
turn-goes site pointer limit Holds filler label a value last back s fills other sound ready low high at held ends =
    let fits = word-below site.text site.low site.high pointer s sound in
    let v : ℕ = difference (word_of pointer s) 4 in
    let is : v ≡ a = four-less (word_of pointer s) a at fits in
    let a_fits : a < 2 ^ 32 = lower-fits (word_of pointer s) a at fits in
    let flags : Option Flags = Some (alu_flags Sub (word_of pointer s) 4) in
    let three : List Item = item.JumpIf Ne label ∷ back in
    let two : List Item = plain (insn.Alu Cmp (rm.Reg pointer) limit) ∷ three in
    let one : List Item = plain filler ∷ two in
    let p = set-goes site one (insn.AluImm Sub (rm.Reg pointer) (pos 4)) pointer a flags s sound ready tt a_fits
    (λ after. ap (λ (k : ℕ). let r : Result State End = Ok (with_result pointer k flags s) in r) is)
    (λ after. refl) in
    let t : State = p.0 in
    let q = store-goes site two filler a value t p.3.sound p.2 fills.common low high fills.fits
    (λ after. fills.does a after t (fills.stays s t p.3.others held) p.3.value a_fits) (λ after. fills.goes after t) in
    let u : State = q.0 in
    let r = compare-goes site three pointer limit a last u q.3.sound q.2 (q.3.words pointer ∙ p.3.value)
    (q.3.words limit ∙ p.3.others limit other ∙ ends) in
    let w : State = at_address r.0 (with_flags (Some (alu_flags Cmp a last)) u) in (
      w,
      comes-then site.text s t w p.1 (comes-then site.text t u w q.1 r.1),
      r.2,
      turned site pointer a value last r.0 s t u p.3 q.3,
    )

-- ---- the loop

-- the condition behind a comparison
ends-there : (a last : ℕ) (flags : Option Flags) → flags ≡ Some (alu_flags Cmp a last) → a ≡ last → last < 2 ^ 32
    → holds Ne flags ≡ Some false
ends-there a last flags is e h =
    ap (holds Ne) is ∙ ap (λ (b : Bool). Some (not b)) (equal-test a last e h)

goes-on : (a last : ℕ) (flags : Option Flags) → flags ≡ Some (alu_flags Cmp a last) → last < a → a < 2 ^ 32
    → holds Ne flags ≡ Some true
goes-on a last flags is e h =
    ap (holds Ne) is ∙ ap (λ (b : Bool). Some (not b)) (higher-test a last e h)

part-low : (first n b m : ℕ) → AreDisjoint first (4 * suc (suc n)) b m → AreDisjoint first (4 * suc n) b m
part-low first n b m k = disjoint-part first (4 * suc (suc n)) first (4 * suc n) b m (omega arith) (omega arith) k

part-high : (first n b m : ℕ) → AreDisjoint first (4 * suc n) b m → AreDisjoint (first + 4 * n) 4 b m
part-high first n b m k = disjoint-part first (4 * suc n) (first + 4 * n) 4 b m (omega arith) (omega arith) k

before-last : (k n : ℕ) → k < suc n → k ≢ n → k < n
before-last k n h other = omega arith

filled-once : (site : Site) (pointer : Reg32) (first value last address : ℕ) (s u : State)
    → Turned site pointer (first + 4 * 0) value last s u
    → Filled site pointer first 1 value s (at_address address u)
filled-once site pointer first value last address s u h =
    let v : State = at_address address u in
    let at : first + 4 * 0 ≡ first = omega arith in
    record {
      sound = sound-at site.text site.low site.high address u h.sound;
      pointer_is = h.pointer_is ∙ at;
      others = h.others;
      words = λ k less. let none : 0 ≡ k = omega arith in
          subst (λ (j : ℕ). load 4 (first + 4 * j) v ≡ Ok value) none
          (load-same 4 (first + 4 * 0) value u v refl h.word);
      kept = λ n b w k e. load-same n b w u v refl (h.apart n b w (part-high first 0 b n k) e);
      left = h.left;
      taken = h.taken;
      written = h.written;
    }

filled-more : (site : Site) (pointer : Reg32) (first n value last address : ℕ) (s u v : State)
    → Turned site pointer (first + 4 * suc n) value last s u
    → Filled site pointer first (suc n) value (at_address address u) v
    → Filled site pointer first (suc (suc n)) value s v
filled-more site pointer first n value last address s u v h r =
    let t : State = at_address address u in
    let last_word : load 4 (first + 4 * suc n) v ≡ Ok value =
    r.kept 4 (first + 4 * suc n) value (inl (omega arith)) (load-same 4 (first + 4 * suc n) value u t refl h.word) in
    record {
      sound = r.sound;
      pointer_is = r.pointer_is;
      others = λ q other. r.others q other ∙ h.others q other;
      words = λ k less. elim (eqb_tells k (suc n)) [
        | inl same ↦ subst (λ (j : ℕ). load 4 (first + 4 * j) v ≡ Ok value) (sym same.1) last_word
        | inr other ↦ r.words k (before-last k (suc n) less other.1)
      ];
      kept = λ m b w k e. r.kept m b w (part-low first n b m k)
          (load-same m b w u t refl (h.apart m b w (part-high first (suc n) b m k) e));
      left = r.left ∙ h.left;
      taken = r.taken ∙ h.taken;
      written = r.written ∙ h.written;
    }

-- the loop, from its first instruction on, with n words to be filled behind the one that is filled first
loop-goes : (site : Site) (pointer limit : Reg32) (Holds : State → Type 0) (filler : Insn)
    (label first value start n : ℕ) (back : List Item) (s : State) → Fills pointer Holds value filler
    → number32 limit ≢ number32 pointer → StandsFrom site (item.Label label ∷ turn pointer filler limit label back)
    start
    → SoundAt site s → ReadyAt site (turn pointer filler limit label back) s → site.low ≤ first
    → first + 4 * suc n ≤ site.high → word_of pointer s ≡ first + 4 * suc n → Holds s → word_of limit s ≡ first
    → (u : State) × Comes site.text s u × ReadyAt site back u × Filled site pointer first (suc n) value s u
loop-goes site pointer limit Holds filler label first value start zero back s fills other stands sound ready low high at
    held ends =
    let p = turn-goes site pointer limit Holds filler label (first + 4 * 0) value first back s fills other sound ready
    (omega arith) (omega arith) (omega arith) held ends in
    let u : State = p.0 in
    let fits : first < 2 ^ 32 = subst (λ (k : ℕ). k < 2 ^ 32) ends
    (word-below site.text site.low site.high limit s sound) in
    let q = branch-passes site Ne back label u p.3.sound p.2
    (ends-there (first + 4 * 0) first u.flags p.3.flags (omega arith) fits) in (
      at_address q.0 u,
      comes-then site.text s u (at_address q.0 u) p.1 q.1,
      q.2,
      filled-once site pointer first value first q.0 s u p.3,
    )
loop-goes site pointer limit Holds filler label first value start (suc n) back s fills other stands sound ready low
    high at held ends =
    let a : ℕ = first + 4 * suc n in
    let p = turn-goes site pointer limit Holds filler label a value first back s fills other sound ready
    (omega arith) (omega arith) (omega arith) held ends in
    let u : State = p.0 in
    let fits : a < 2 ^ 32 = subst (λ (k : ℕ). k < 2 ^ 32) p.3.pointer_is
    (word-below site.text site.low site.high pointer u p.3.sound) in
    let q = branch-leads site Ne [] (turn pointer filler limit label back) back start label u p.3.sound stands p.2
    (goes-on a first u.flags p.3.flags (omega arith) fits) in
    let t : State = at_address q.0 u in
    let r = loop-goes site pointer limit Holds filler label first value start n back t fills other stands
    (sound-at site.text site.low site.high q.0 u p.3.sound) q.2 low (omega arith) p.3.pointer_is
    (fills.stays s t p.3.others held) (p.3.others limit other ∙ ends) in (
      r.0,
      comes-then site.text s u r.0 p.1 (comes-then site.text u t r.0 q.1 r.1),
      r.2,
      filled-more site pointer first n value first q.0 s u r.0 p.3 r.3,
    )

-- the whole loop, with any instruction that fills
pub words-fill : (site : Site) (pointer limit : Reg32) (Holds : State → Type 0) (filler : Insn)
    (label first value count : ℕ) (back : List Item) (s : State) → Fills pointer Holds value filler
    → number32 limit ≢ number32 pointer → SoundAt site s
    → ReadyAt site (item.Label label ∷ turn pointer filler limit label back) s → 0 < count → site.low ≤ first
    → first + 4 * count ≤ site.high → word_of pointer s ≡ first + 4 * count → Holds s → word_of limit s ≡ first
    → (u : State) × Comes site.text s u × ReadyAt site back u × Filled site pointer first count value s u
words-fill site pointer limit Holds filler label first value zero back s fills other sound ready some low high at held
    ends = absurd (omega arith)
words-fill site pointer limit Holds filler label first value (suc n) back s fills other sound ready some low high at
    held ends =
    let stands : StandsFrom site (item.Label label ∷ turn pointer filler limit label back) s.eip =
    record { bytes = ready.bytes; here = ready.here; stand = ready.stand } in
    loop-goes site pointer limit Holds filler label first value s.eip n back s fills other stands sound
    (label-passed site.symbols site.places site.text label (turn pointer filler limit label back) s ready) low high at
    held ends

-- with a register's word
word-fills : (pointer word : Reg32) (value : ℕ) → number32 word ≢ number32 pointer → value < 2 ^ 32
    → Fills pointer (λ t. word_of word t ≡ value) value (insn.Mov (rm.Mem (near pointer 0)) word)
word-fills pointer word value apart fits =
    record {
      common = tt;
      fits = fits;
      does = λ a after t held at small.
          ap (λ (k : ℕ). store 4 k (word_of word t) t) (place-zero (word_of pointer t) a at small)
          ∙ ap (λ (k : ℕ). store 4 a k t) held;
      goes = λ after t. refl;
      stays = λ s t others held. others word apart ∙ held;
    }

pub fill-goes : FillGoes
fill-goes site pointer word limit label first count back s apart other sound ready some low high at ends =
    words-fill site pointer limit (λ t. word_of word t ≡ word_of word s) (insn.Mov (rm.Mem (near pointer 0)) word) label
    first (word_of word s) count back s
    (word-fills pointer word (word_of word s) apart (word-below site.text site.low site.high word s sound)) other sound
    ready some low high at refl ends

-- with a number
pub number-fills : (pointer : Reg32) (z : ℤ) → cast_unsigned w32 z < 2 ^ 32
    → Fills pointer (λ t. ⊤) (cast_unsigned w32 z) (insn.MovImm (rm.Mem (near pointer 0)) z)
number-fills pointer z fits =
    record {
      common = tt;
      fits = fits;
      does = λ a after t held at small. ap (λ (k : ℕ). store 4 k (cast_unsigned w32 z) t)
          (place-zero (word_of pointer t) a at small);
      goes = λ after t. refl;
      stays = λ s t others held. tt;
    }

-- ---- words of 0

-- a number is that of its bytes
loaded-number : (text : List ℕ) (low high n a : ℕ) (s : State) (h : IsSound text low high s) → low ≤ a → a + n ≤ high
    → 0 < n → load n a s ≡ Ok (little_from 0 n (drop (a - low) h.bytes))
loaded-number text low high n a s h from to some =
    ap (λ (o : Option (List ℕ)). and_then (or_end o (denied a s))
    (λ f. let r : Result ℕ End = Ok (little_from 0 n f) in r)) (bytes-in text low high n a s h from to some)
    ∙ ap (λ (x : ℕ). let r : Result ℕ End = Ok x in r)
    (little_from-take 0 n n (drop (a - low) h.bytes) (omega arith))

-- the bytes of a number that is 0 are 0, and the other way round
bytes-zero : (i n k : ℕ) (xs : List ℕ) → little_from i n xs ≡ 0 → i ≤ k → k < i + n → get_or xs k 0 ≡ 0
bytes-zero i zero k xs e from to = absurd (omega arith)
bytes-zero i (suc n) k xs e from to =
    elim (eqb_tells k i) [
      | inl same ↦ subst (λ (j : ℕ). get_or xs j 0 ≡ 0) (sym same.1) (omega arith)
      | inr other ↦ let differs = other.1 in bytes-zero (suc i) n k xs (omega arith) (omega arith) (omega arith)
    ]

number-zero : (i n : ℕ) (xs : List ℕ) → ((k : ℕ) → i ≤ k → k < i + n → get_or xs k 0 ≡ 0) → little_from i n xs ≡ 0
number-zero i zero xs h = refl
number-zero i (suc n) xs h =
    let one = h i (omega arith) (omega arith) in
    let rest = number-zero (suc i) n xs (λ k from to. h k (omega arith) (omega arith)) in
    omega arith

ok-number : (x y : ℕ) → (let a : Result ℕ End = Ok x in a) ≡ Ok y → x ≡ y
ok-number x y e = cc

pub zeros-load : ZerosLoad
zeros-load site first count n address s sound low high words from to some =
    let byte : (k : ℕ) → first - site.low ≤ k → k < first - site.low + 4 * count → get_or sound.bytes k 0 ≡ 0 =
    λ k least most.
    let j : ℕ = (k - (first - site.low)) / 4 in
    let i : ℕ = (k - (first - site.low)) % 4 in
    let base : ℕ = first + 4 * j - site.low in
    let within : j < count = omega arith in
    let loaded = loaded-number site.text site.low site.high 4 (first + 4 * j) s sound (omega arith) (omega arith)
    (omega arith) in
    let none : little_from 0 4 (drop base sound.bytes) ≡ 0 =
    ok-number (little_from 0 4 (drop base sound.bytes)) 0 (sym loaded ∙ words j within) in
    let zero_byte : get_or (drop base sound.bytes) i 0 ≡ 0 =
    bytes-zero 0 4 i (drop base sound.bytes) none (omega arith) (omega arith) in
    let at : base + i ≡ k = omega arith in
    subst (λ (m : ℕ). get_or sound.bytes m 0 ≡ 0) at (sym (get_or-drop base sound.bytes i 0) ∙ zero_byte)
    in
    let number : little_from 0 n (drop (address - site.low) sound.bytes) ≡ 0 =
    number-zero 0 n (drop (address - site.low) sound.bytes) (λ k least most.
    get_or-drop (address - site.low) sound.bytes k 0
    ∙ byte (address - site.low + k) (omega arith) (omega arith)) in
    loaded-number site.text site.low site.high n address s sound (omega arith) (omega arith) some
    ∙ ap (λ (x : ℕ). let r : Result ℕ End = Ok x in r) number
