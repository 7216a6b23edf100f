-- The law of products.
use Rattle.std.specs.Prelude.{◌^◌, ◌<◌, ◌≤◌, ℕ}
use Rattle.pcc_base.specs.declared.run.Width.TheVariants.{Two}
use Rattle.ia32_insn.specs.Places.{Place}
use Rattle.ia32_insn.specs.State.{State}
use Rattle.ia32_insn.specs.Arithmetic.{product}
use Rattle.ia32_rows.specs.Sites.{Site, Framed}
use Rattle.ia32_rows.specs.Rows.{multiplying}
use Rattle.ia32_rows.specs.Contains.{Contains, IsPlaceIn, HoldsWord}
use Rattle.ia32_rows.specs.Laws.{Puts}

-- the product of the words of two places
abbrev pub ProductPuts : Type 0
ProductPuts =
    (site : Site) (frame : ℕ) (p q r : Place) (x y : ℕ) (s : State) → Framed site frame s → 16 ≤ frame
    → IsPlaceIn frame p → HoldsWord q → IsPlaceIn frame q → HoldsWord r → IsPlaceIn frame r
    → Contains s Two q x → Contains s Two r y → x < 2 ^ 32
    → (u : State) × Puts site frame (multiplying p q r) p (product x y) s u
