-- Fixed operands and results are as wide as the registers that they stand in.
use Rattle.std.proofs.Common.{◌≡◌, ◌<◌, ℕ, true, Some, refl, subst, arith}
use Rattle.std.proofs.lemmas.Option.{none-some, same_Some}
use Rattle.pcc_base.specs.declared.run.Width.{Width}
use Rattle.pcc_base.specs.declared.run.Width.TheVariants.{One, Two}
use Rattle.flow_graph.specs.declared.op.Op.{Op}
use Rattle.flow_graph.specs.declared.op.Op.TheVariants.{Call, Div, Getchar, Putchar, Rem, Sar, Shl, Shr, Udiv}
use Rattle.flow_graph.specs.declared.op.Op.TheVariants.{Urem}
use Rattle.flow_graph.specs.Graphs.{FitsOp, Flow, HasWidth}
use Rattle.puzzle_board.specs.Areas.{is_of_width}
use Rattle.puzzle_board.specs.declared.piece.Spot.{Spot}
use Rattle.allocator.specs.PointBoards.{Fixed, cl, eax, edx, fixed_at, fixed_result, fixed_use}

-- the variable is as wide as the columns, and they are of one of the four areas
pub record IsFixedAt (flow : Flow) (fixed : Fixed) : Type 0 where
  pub width : Width
  pub has : HasWidth flow fixed.variable width
  pub wide : is_of_width width fixed.spot.columns ≡ true
  pub within : fixed.spot.area < 4

fixed-word : (flow : Flow) (v : ℕ) (spot : Spot) (f : Fixed) → HasWidth flow v Two
    → is_of_width Two spot.columns ≡ true → spot.area < 4 → Some (fixed_at v spot) ≡ Some f → IsFixedAt flow f
fixed-word flow v spot f has wide within e =
    subst (IsFixedAt flow) (same_Some (fixed_at v spot) f e)
    (record { width = Two; has = has; wide = wide; within = within })

fixed-byte : (flow : Flow) (v : ℕ) (spot : Spot) (f : Fixed) → HasWidth flow v One
    → is_of_width One spot.columns ≡ true → spot.area < 4 → Some (fixed_at v spot) ≡ Some f → IsFixedAt flow f
fixed-byte flow v spot f has wide within e =
    subst (IsFixedAt flow) (same_Some (fixed_at v spot) f e)
    (record { width = One; has = has; wide = wide; within = within })

pub operand-at : (flow : Flow) (op : Op) (f : Fixed) → FitsOp flow op → fixed_use op ≡ Some f → IsFixedAt flow f
operand-at flow (Shl d a c) f fits e = fixed-byte flow c cl f fits.1.1.0 refl (omega arith) e
operand-at flow (Sar d a c) f fits e = fixed-byte flow c cl f fits.1.1.0 refl (omega arith) e
operand-at flow (Shr d a c) f fits e = fixed-byte flow c cl f fits.1.1.0 refl (omega arith) e
operand-at flow (Div d a b) f fits e = fixed-word flow a eax f fits.1.0 refl (omega arith) e
operand-at flow (Rem d a b) f fits e = fixed-word flow a eax f fits.1.0 refl (omega arith) e
operand-at flow (Udiv d a b) f fits e = fixed-word flow a eax f fits.1.0 refl (omega arith) e
operand-at flow (Urem d a b) f fits e = fixed-word flow a eax f fits.1.0 refl (omega arith) e
operand-at flow _ f fits e = absurd (none-some f e)

pub result-at : (flow : Flow) (op : Op) (f : Fixed) → FitsOp flow op → fixed_result op ≡ Some f → IsFixedAt flow f
result-at flow (Div d a b) f fits e = fixed-word flow d eax f fits.0 refl (omega arith) e
result-at flow (Rem d a b) f fits e = fixed-word flow d edx f fits.0 refl (omega arith) e
result-at flow (Udiv d a b) f fits e = fixed-word flow d eax f fits.0 refl (omega arith) e
result-at flow (Urem d a b) f fits e = fixed-word flow d edx f fits.0 refl (omega arith) e
result-at flow (Call (Some d) g words) f fits e = fixed-word flow d eax f fits.0 refl (omega arith) e
result-at flow (Putchar d s) f fits e = fixed-word flow d eax f fits.0 refl (omega arith) e
result-at flow (Getchar d) f fits e = fixed-word flow d eax f fits.0 refl (omega arith) e
result-at flow _ f fits e = absurd (none-some f e)
