-- What a call of a function does to the machine, in halves, over places of any kind: the row up to the callee's first
-- item, the return from its frame, and the row behind the call. Each law leads from a state to a later one, and passes
-- no NOP on the way.
use Rattle.std.specs.Prelude.{◌≡◌, ◌≢◌, ◌<◌, ◌≤◌, ◌+◌, ◌-◌, ◌*◌, ◌^◌, ⊤, ℕ, List, [], ◌∷◌, ◌++◌, length, slice_get}
use Rattle.std.specs.Prelude.{Some, Ok}
use Rattle.pcc_base.specs.Outcome.{Trapped}
use Rattle.pcc_base.specs.declared.run.Trap.TheVariants.{Check}
use Rattle.pcc_base.specs.declared.run.Width.TheVariants.{Two}
use Rattle.ia32_insn.specs.declared.register_names.Reg32.{Reg32}
use Rattle.ia32_insn.specs.declared.register_names.Reg32.TheVariants.{Eax, Esp, Ebp, Esi}
use Rattle.ia32_insn.specs.Registers.{number32}
use Rattle.ia32_insn.specs.Places.{Place}
use Rattle.ia32_insn.specs.declared.item.Item.{Item}
use Rattle.ia32_insn.specs.declared.item.Item.TheVariants as item
use Rattle.ia32_insn.specs.State.{State}
use Rattle.ia32_insn.specs.Keeps.{AreDisjoint}
use Rattle.ia32_insn.specs.Meaning.{Halts, load, word_of}
use Rattle.ia32_insn.specs.Runs.{Steps}
use Rattle.ia32_insn.specs.Items.{check_items}
use Rattle.flow_graph.specs.Meaning.{most_active}
use Rattle.ia32_rows.specs.Paths.{Comes, IsClear}
use Rattle.ia32_rows.specs.Sites.{Framed, ReadyAt, Site, SoundAt, StandsFrom}
use Rattle.ia32_rows.specs.CallsLaws.{Returned}
use Rattle.ia32_rows.specs.Rows.{before_call, deepen, drop_words, leave, pass_all, return_row, undeepen}
use Rattle.ia32_rows.specs.Effects.{Keeps, Leads, OutsideWord}
use Rattle.ia32_rows.specs.Contains.{Contains, HoldsWord, IsPlaceIn}

-- ---- the depth word

-- The depth word is in the data, its number names no static object, and the trap of a failed check stands in the text.
pub record HasDepth (site : Site) : Type 0 where
  pub low : site.low ≤ site.symbols.depth
  pub high : site.symbols.depth + 4 ≤ site.high
  pub few : length site.symbols.objects ≤ 0xffffffff
  pub check : StandsFrom site check_items site.symbols.check

-- The items are ready and the depth word is this; of registers only ESI changed, and of memory only the depth word.
pub record Counts (site : Site) (items : List Item) (d : ℕ) (s u : State) : Type 0 where
  pub comes : Comes site.text s u
  pub ready : ReadyAt site items u
  pub sound : SoundAt site u
  pub depth : load 4 site.symbols.depth u ≡ Ok d
  pub keeps : Keeps (OutsideWord Esi) (λ a n. AreDisjoint site.symbols.depth 4 a n) s u

-- the run ends with the trap of a failed check
pub record FailsCheck (site : Site) (s u : State) : Type 0 where
  pub comes : Comes site.text s u
  pub clear : IsClear site.text u.eip
  pub halts : Steps u (Halts (Trapped Check))
  pub taken : u.taken ≡ s.taken
  pub written : u.written ≡ s.written

-- one call more is active
abbrev pub DepthCounts : Type 0
DepthCounts =
    (site : Site) (items : List Item) (d : ℕ) (s : State) → SoundAt site s → HasDepth site
    → load 4 site.symbols.depth s ≡ Ok d → d < most_active → ReadyAt site (deepen ++ items) s
    → (u : State) × Counts site items (d + 1) s u

-- where 4,096 are, the check fails
abbrev pub DepthFails : Type 0
DepthFails =
    (site : Site) (items : List Item) (d : ℕ) (s : State) → SoundAt site s → HasDepth site
    → load 4 site.symbols.depth s ≡ Ok d → most_active ≤ d → d < 2 ^ 32 → ReadyAt site (deepen ++ items) s
    → (u : State) × FailsCheck site s u

-- one call less is active
abbrev pub DepthUncounts : Type 0
DepthUncounts =
    (site : Site) (items : List Item) (d : ℕ) (s : State) → SoundAt site s → HasDepth site
    → load 4 site.symbols.depth s ≡ Ok d → 0 < d → d ≤ most_active → ReadyAt site (undeepen ++ items) s
    → (u : State) × Counts site items (d - 1) s u

-- ---- argument words

-- the places hold these words, in a frame of so many bytes
abbrev pub AreHeld : ℕ → State → List Place → List ℕ → Type 0
AreHeld frame s [] [] = ⊤
AreHeld frame s (p ∷ places) (w ∷ words) =
    (HoldsWord p × IsPlaceIn frame p × Contains s Two p w × (w < 2 ^ 32)) × AreHeld frame s places words
AreHeld frame s [] (w ∷ words) = ⊥
AreHeld frame s (p ∷ places) [] = ⊥

-- Words were pushed, the last one first: they stand in order from ESP on. No register changed but ESP, and no memory
-- but theirs.
pub record PassesAll (site : Site) (items : List Item) (words : List ℕ) (s u : State) : Type 0 where
  pub leads : Leads site items s u
  pub sound : SoundAt site u
  pub esp : word_of Esp u + 4 * length words ≡ word_of Esp s
  pub stand : (k w : ℕ) → slice_get words k ≡ Some w → load 4 (word_of Esp u + 4 * k) u ≡ Ok w
  pub keeps : Keeps (OutsideWord Esp) (λ a n. AreDisjoint (word_of Esp u) (4 * length words) a n) s u

abbrev pub PlacesPass : Type 0
PlacesPass =
    (site : Site) (frame : ℕ) (places : List Place) (words : List ℕ) (s : State) → Framed site frame s
    → site.low + 4 * length words + 4 ≤ word_of Esp s → AreHeld frame s places words
    → (u : State) × PassesAll site (pass_all places) words s u

-- ---- the call

-- A function is called with these words: EIP is at its address, and above the return address, at ESP, stand the words
-- in order. At the return address stands what follows the call. One call more is active. Of registers ESI and ESP alone
-- changed, and of memory the depth word and what was pushed.
pub record CallMade (site : Site) (back : List Item) (f : ℕ) (words : List ℕ) (d : ℕ) (s u : State) : Type 0 where
  pub comes : Comes site.text s u
  pub sound : SoundAt site u
  pub eip : slice_get site.symbols.functions f ≡ Some u.eip
  pub return_address : ℕ
  pub returns : load 4 (word_of Esp u) u ≡ Ok return_address
  pub fits : return_address < 2 ^ 32
  pub returns_to : StandsFrom site back return_address
  pub esp : word_of Esp u + 4 + 4 * length words ≡ word_of Esp s
  pub stand : (k w : ℕ) → slice_get words k ≡ Some w → load 4 (word_of Esp u + 4 + 4 * k) u ≡ Ok w
  pub depth : load 4 site.symbols.depth u ≡ Ok (d + 1)
  pub others : (q : Reg32) → number32 q ≢ number32 Esi → number32 q ≢ number32 Esp → word_of q u ≡ word_of q s
  pub kept : (n a w : ℕ) → AreDisjoint site.symbols.depth 4 a n
      → AreDisjoint (word_of Esp u) (4 + 4 * length words) a n → load n a s ≡ Ok w → load n a u ≡ Ok w
  pub left : u.left ≡ s.left
  pub taken : u.taken ≡ s.taken
  pub written : u.written ≡ s.written

abbrev pub CallGoes : Type 0
CallGoes =
    (site : Site) (frame f : ℕ) (places : List Place) (words : List ℕ) (d : ℕ) (back : List Item) (s : State)
    → Framed site frame s → HasDepth site → site.symbols.depth + 4 * length words + 16 ≤ word_of Esp s
    → AreHeld frame s places words → load 4 site.symbols.depth s ≡ Ok d → d < most_active
    → ReadyAt site (before_call places ++ item.CallFunction f ∷ back) s
    → (u : State) × CallMade site back f words d s u

-- ---- behind the call

-- The words are off the stack again, and one call less is active. Of registers ESI and ESP alone changed, and of memory
-- the depth word.
pub record Resumed (site : Site) (frame : ℕ) (items : List Item) (words d : ℕ) (s u : State) : Type 0 where
  pub comes : Comes site.text s u
  pub ready : ReadyAt site items u
  pub framed : Framed site frame u
  pub esp : word_of Esp u ≡ word_of Esp s + 4 * words
  pub depth : load 4 site.symbols.depth u ≡ Ok (d - 1)
  pub keeps : Keeps (λ k. OutsideWord Esi k × OutsideWord Esp k) (λ a n. AreDisjoint site.symbols.depth 4 a n) s u

abbrev pub ResumeGoes : Type 0
ResumeGoes =
    (site : Site) (frame words d : ℕ) (items : List Item) (s : State) → SoundAt site s → HasDepth site
    → word_of Esp s + 4 * words + frame ≡ word_of Ebp s → site.low + 4 ≤ word_of Esp s → word_of Ebp s + 8 ≤ site.high
    → load 4 site.symbols.depth s ≡ Ok d → 0 < d → d ≤ most_active
    → ReadyAt site (drop_words words ++ undeepen ++ items) s
    → (u : State) × Resumed site frame items words d s u

-- ---- the return

-- the word of a place is returned, from a frame of any placement
abbrev pub ReturnComes : Type 0
ReturnComes =
    (site : Site) (frame : ℕ) (place : Place) (x address : ℕ) (back : List Item) (s : State) → Framed site frame s
    → 16 ≤ frame → HoldsWord place → IsPlaceIn frame place → Contains s Two place x → x < 2 ^ 32
    → load 4 (word_of Ebp s + 4) s ≡ Ok address → address < 2 ^ 32 → ReadyAt site (return_row place ++ back) s
    → (u : State) × Returned site x address s u

-- and nothing is, where no result is wanted: EAX is as it was
abbrev pub LeaveComes : Type 0
LeaveComes =
    (site : Site) (frame x address : ℕ) (back : List Item) (s : State) → Framed site frame s
    → 16 ≤ frame → word_of Eax s ≡ x → load 4 (word_of Ebp s + 4) s ≡ Ok address → address < 2 ^ 32
    → ReadyAt site (leave ++ back) s → (u : State) × Returned site x address s u
