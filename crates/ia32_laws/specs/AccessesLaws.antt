-- What the rows of ops on arrays and static objects do to the machine, over places of any kind.
use Rattle.std.specs.Prelude.{◌≡◌, ◌+◌, ◌-◌, ◌*◌, ◌%◌, ◌^◌, ◌<◌, ◌≤◌, ℕ, List, Ok}
use Rattle.pcc_base.specs.Outcome.{Trapped}
use Rattle.pcc_base.specs.declared.run.Trap.TheVariants.{Check}
use Rattle.pcc_base.specs.declared.run.Width.TheVariants.{Two}
use Rattle.flow_graph.specs.declared.op.Bits.{Bits}
use Rattle.flow_graph.specs.declared.op.Bits.TheVariants.{Eight, Sixteen, ThirtyTwo}
use Rattle.flow_graph.specs.Meaning.{bytes_of}
use Rattle.ia32_insn.specs.declared.register_names.Reg32.TheVariants.{Ebp, Esi, Edi}
use Rattle.ia32_insn.specs.Places.{Place}
use Rattle.ia32_insn.specs.declared.operand.Mem.{Mem}
use Rattle.ia32_insn.specs.declared.item.Item.{Item}
use Rattle.ia32_insn.specs.Keeps.{AreDisjoint}
use Rattle.ia32_insn.specs.State.{State}
use Rattle.ia32_insn.specs.Arithmetic.{extended8, extended16}
use Rattle.ia32_insn.specs.Meaning.{Halts, address_of, load, word_of}
use Rattle.ia32_insn.specs.Runs.{Steps}
use Rattle.ia32_rows.specs.Paths.{Comes, IsClear}
use Rattle.ia32_rows.specs.Sites.{Framed, Site}
use Rattle.ia32_rows.specs.Rows.{frame_row, load_from, store_at, store_to}
use Rattle.ia32_rows.specs.Effects.{Keeps, Leads, OutsideWord}
use Rattle.ia32_rows.specs.Contains.{Contains, HoldsWord, IsPlaceIn}
use Rattle.ia32_rows.specs.Laws.{Puts}

-- the cells of registers that are neither in ESI nor in EDI
abbrev pub OutsideScratch : ℕ → Type 0
OutsideScratch k = OutsideWord Esi k × OutsideWord Edi k

-- ---- addresses

-- the address of a place below EBP comes to a place
abbrev pub FramePuts : Type 0
FramePuts =
    (site : Site) (frame : ℕ) (p : Place) (k : ℕ) (s : State) → Framed site frame s → 16 ≤ frame
    → IsPlaceIn frame p → 0 < k → k ≤ frame
    → (u : State) × Puts site frame (frame_row p k) p (word_of Ebp s - k) s u

-- ---- elements

-- the word of an element of so many bits, with its sign
abbrev pub widened : Bits → ℕ → ℕ
widened Eight v = extended8 v
widened Sixteen v = extended16 v
widened ThirtyTwo v = v

-- an element in memory comes to a place, with its sign
abbrev pub LoadPuts : Type 0
LoadPuts =
    (site : Site) (frame : ℕ) (bits : Bits) (p : Place) (m : Mem) (address v : ℕ) (s : State) → Framed site frame s
    → 16 ≤ frame → IsPlaceIn frame p → address_of m s ≡ address → load (bytes_of bits) address s ≡ Ok v
    → v < 2 ^ (8 * bytes_of bits) → (u : State) × Puts site frame (load_from bits p m) p (widened bits v) s u

-- The items put a value into so many bytes at an address, and change no other memory, and of the registers ESI and EDI
-- alone.
pub record Stores (site : Site) (frame : ℕ) (items : List Item) (address n v : ℕ) (s u : State) : Type 0 where
  pub leads : Leads site items s u
  pub framed : Framed site frame u
  pub value : load n address u ≡ Ok v
  pub keeps : Keeps OutsideScratch (λ a m. AreDisjoint address n a m) s u

-- the low bits of the word of a place go to the address in EDI
abbrev pub ElementStores : Type 0
ElementStores =
    (site : Site) (frame : ℕ) (bits : Bits) (q : Place) (address x : ℕ) (s : State) → Framed site frame s
    → HoldsWord q → IsPlaceIn frame q → Contains s Two q x → x < 2 ^ 32 → word_of Edi s ≡ address
    → site.low ≤ address → address + bytes_of bits ≤ site.high
    → (u : State) × Stores site frame (store_to bits q) address (bytes_of bits) (x % 2 ^ (8 * bytes_of bits)) s u

-- and to the address of any memory: directly where the place is a register, else by EDI
abbrev pub PlaceStores : Type 0
PlaceStores =
    (site : Site) (frame : ℕ) (bits : Bits) (m : Mem) (q : Place) (address x : ℕ) (s : State) → Framed site frame s
    → HoldsWord q → IsPlaceIn frame q → Contains s Two q x → x < 2 ^ 32 → address_of m s ≡ address
    → site.low ≤ address → address + bytes_of bits ≤ site.high
    → (u : State) × Stores site frame (store_at bits m q) address (bytes_of bits) (x % 2 ^ (8 * bytes_of bits)) s u

-- the run ends with the trap of a failed check
pub record FailsAccess (site : Site) (s u : State) : Type 0 where
  pub comes : Comes site.text s u
  pub clear : IsClear site.text u.eip
  pub halts : Steps u (Halts (Trapped Check))
  pub taken : u.taken ≡ s.taken
  pub written : u.written ≡ s.written
