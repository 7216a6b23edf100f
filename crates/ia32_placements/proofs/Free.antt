-- Which cells of a point's board are free: none of a fixed piece, and none that the op takes.
use Rattle.std.proofs.Common.{◌≡◌, ◌≢◌, ◌⊎◌, ℕ, zero, suc, true, false, true≢false}
use Rattle.std.proofs.Common.{Option, Some, None, inl, inr, refl, sym, ap, subst, arith, ◌∙◌}
use Rattle.std.proofs.lemmas.Option.{none-some, same_Some}
use Rattle.flow_graph.specs.declared.op.Op.{Op}
use Rattle.flow_graph.specs.Shapes.{Takes, NoRegister, Count, Division, AcrossCall, Quotient, Remainder, shape}
use Rattle.puzzle_board.specs.declared.piece.Columns.{Columns}
use Rattle.puzzle_board.specs.declared.piece.Columns.TheVariants.{Low, High, All}
use Rattle.puzzle_board.specs.declared.piece.Kind.{Kind}
use Rattle.puzzle_board.specs.declared.piece.Kind.TheVariants.{X, Y, Z}
use Rattle.puzzle_board.specs.declared.piece.Spot.{Spot}
use Rattle.puzzle_board.specs.Areas.{fits_area, share_column, share_row}
use Rattle.puzzle_board.specs.Placements.{fits_at}
use Rattle.ia32_insn.specs.declared.register_names.Reg32.TheVariants.{Eax, Ecx, Edx}
use Rattle.ia32_insn.specs.declared.register_names.Reg8.TheVariants.{Cl}
use Rattle.ia32_insn.specs.Places.{Place, InWord, InByte}
use Rattle.allocator.specs.PointBoards.{Fixed, area_before, areas_by, areas_of, callee_saved, cl, count_taken, eax, edx}
use Rattle.allocator.specs.PointBoards.{ends_taken, fixed_at, fixed_result, fixed_use, result_by}
use Rattle.allocator.specs.PointBoards.{taken_area, use_by}
use Rattle.allocator.specs.Sides.{is_lower, is_upper}
use Rattle.ia32_laws.specs.Supports.{IsSpared, IsSparedBy}
use Rattle.ia32_placements.specs.Standings.{register_at}
use Rattle.ia32_placements.proofs.Spots.{spots-apart}

-- ---- rows

-- two pieces that stand before the op share a row
pub upper-share : (k j : Kind) → is_upper k ≡ true → is_upper j ≡ true → share_row k j ≡ true
upper-share X X a b = refl
upper-share X Y a b = refl
upper-share X Z a b = absurd (true≢false (sym b))
upper-share Y X a b = refl
upper-share Y Y a b = refl
upper-share Y Z a b = absurd (true≢false (sym b))
upper-share Z j a b = absurd (true≢false (sym a))

-- and two that stand after it
pub lower-share : (k j : Kind) → is_lower k ≡ true → is_lower j ≡ true → share_row k j ≡ true
lower-share X j a b = absurd (true≢false (sym a))
lower-share Y X a b = absurd (true≢false (sym b))
lower-share Y Y a b = refl
lower-share Y Z a b = refl
lower-share Z X a b = absurd (true≢false (sym b))
lower-share Z Y a b = refl
lower-share Z Z a b = refl

-- ---- taken areas

-- nothing fits where no cell is free
none-fits : (kind : Kind) (columns : Columns) → fits_area taken_area kind columns ≡ false
none-fits X Low = refl
none-fits X High = refl
none-fits X All = refl
none-fits Y Low = refl
none-fits Y High = refl
none-fits Y All = refl
none-fits Z Low = refl
none-fits Z High = refl
none-fits Z All = refl

-- and nothing that stands after the op where only cells before it are
lower-none : (kind : Kind) (columns : Columns) → is_lower kind ≡ true → fits_area area_before kind columns ≡ false
lower-none X columns side = absurd (true≢false (sym side))
lower-none Y Low side = refl
lower-none Y High side = refl
lower-none Y All side = refl
lower-none Z Low side = refl
lower-none Z High side = refl
lower-none Z All side = refl

-- these columns of the area are free of what stands in the others
abbrev pub AreFree : Spot → ℕ → Columns → Type 0
AreFree spot area columns = (spot.area ≢ area) ⊎ (share_column spot.columns columns ≡ false)

-- beside a count in CL
pub beside-count : (area : ℕ) (kind : Kind) (columns : Columns) → is_upper kind ≡ true
    → fits_at count_taken area kind columns ≡ true → AreFree cl area columns
beside-count zero kind columns side fits = inl (λ e. omega (arith, e))
beside-count (suc zero) kind columns side fits = inl (λ e. omega (arith, e))
beside-count (suc (suc zero)) X Low side fits = absurd (true≢false (sym fits))
beside-count (suc (suc zero)) X High side fits = inr refl
beside-count (suc (suc zero)) X All side fits = absurd (true≢false (sym fits))
beside-count (suc (suc zero)) Y Low side fits = absurd (true≢false (sym fits))
beside-count (suc (suc zero)) Y High side fits = inr refl
beside-count (suc (suc zero)) Y All side fits = absurd (true≢false (sym fits))
beside-count (suc (suc zero)) Z columns side fits = absurd (true≢false (sym side))
beside-count (suc (suc (suc area))) kind columns side fits = inl (λ e. omega (arith, e))

-- beside a division
beside-eax : (area : ℕ) (kind : Kind) (columns : Columns) → fits_at ends_taken area kind columns ≡ true → 0 ≢ area
beside-eax zero kind columns fits e = true≢false (sym fits ∙ none-fits kind columns)
beside-eax (suc area) kind columns fits e = omega (arith, e)

beside-edx : (area : ℕ) (kind : Kind) (columns : Columns) → fits_at ends_taken area kind columns ≡ true → 3 ≢ area
beside-edx zero kind columns fits e = omega (arith, e)
beside-edx (suc zero) kind columns fits e = omega (arith, e)
beside-edx (suc (suc zero)) kind columns fits e = omega (arith, e)
beside-edx (suc (suc (suc zero))) kind columns fits e = true≢false (sym fits ∙ none-fits kind columns)
beside-edx (suc (suc (suc (suc area)))) kind columns fits e = omega (arith, e)

-- over a call
over-call : (area : ℕ) (kind : Kind) (columns : Columns) → is_lower kind ≡ true
    → fits_at callee_saved area kind columns ≡ true → 1 ≡ area
over-call zero kind columns side fits = absurd (true≢false (sym fits ∙ lower-none kind columns side))
over-call (suc zero) kind columns side fits = refl
over-call (suc (suc zero)) kind columns side fits = absurd (true≢false (sym fits ∙ lower-none kind columns side))
over-call (suc (suc (suc zero))) kind columns side fits = absurd (true≢false (sym fits ∙ lower-none kind columns side))
over-call (suc (suc (suc (suc area)))) kind columns side fits = absurd (true≢false (sym fits))

-- ---- fixed pieces

fixed-same : (v : ℕ) (spot : Spot) (f : Fixed) → Some (fixed_at v spot) ≡ Some f → spot ≡ f.spot
fixed-same v spot f e = ap (λ (g : Fixed). g.spot) (same_Some (fixed_at v spot) f e)

-- what stands before the op is beside the operand that is fixed
pub beside-operand : (o : Op) (f : Fixed) → fixed_use o ≡ Some f → (area : ℕ) (kind : Kind) (columns : Columns)
    → is_upper kind ≡ true → fits_at (areas_of o) area kind columns ≡ true → AreFree f.spot area columns
beside-operand o f e area kind columns side fits = by (shape o).takes e fits
  where
    by : (takes : Takes) → use_by takes ≡ Some f → fits_at (areas_by takes) area kind columns ≡ true
        → AreFree f.spot area columns
    by NoRegister e fits = absurd (none-some f e)
    by (Count count shifted) e fits =
        subst (λ (spot : Spot). AreFree spot area columns) (fixed-same count cl f e)
        (beside-count area kind columns side fits)
    by (Division dividend divisor gives) e fits =
        subst (λ (spot : Spot). AreFree spot area columns) (fixed-same dividend eax f e)
        (inl (beside-eax area kind columns fits))
    by AcrossCall e fits = absurd (none-some f e)

-- what stands after it is beside the result that is fixed
pub beside-result : (o : Op) (f : Fixed) → fixed_result o ≡ Some f → (area : ℕ) (kind : Kind) (columns : Columns)
    → is_lower kind ≡ true → fits_at (areas_of o) area kind columns ≡ true → AreFree f.spot area columns
beside-result o f e area kind columns side fits = by (shape o).takes (shape o).writes e fits
  where
    by : (takes : Takes) (written : Option ℕ) → result_by takes written ≡ Some f
        → fits_at (areas_by takes) area kind columns ≡ true → AreFree f.spot area columns
    by NoRegister written e fits = absurd (none-some f e)
    by (Count count shifted) written e fits = absurd (none-some f e)
    by (Division dividend divisor Quotient) None e fits = absurd (none-some f e)
    by (Division dividend divisor Quotient) (Some d) e fits =
        subst (λ (spot : Spot). AreFree spot area columns) (fixed-same d eax f e)
        (inl (beside-eax area kind columns fits))
    by (Division dividend divisor Remainder) None e fits = absurd (none-some f e)
    by (Division dividend divisor Remainder) (Some d) e fits =
        subst (λ (spot : Spot). AreFree spot area columns) (fixed-same d edx f e)
        (inl (beside-edx area kind columns fits))
    by AcrossCall None e fits = absurd (none-some f e)
    by AcrossCall (Some d) e fits =
        subst (λ (spot : Spot). AreFree spot area columns) (fixed-same d eax f e)
        (inl (λ zero-is. omega (arith, zero-is, over-call area kind columns side fits)))

-- ---- what lives through

-- the op leaves the registers of a piece that stands before it and after it
pub through-spared : (o : Op) (area : ℕ) (columns : Columns) (place : Place)
    → fits_at (areas_of o) area Y columns ≡ true → register_at area columns ≡ Some place → IsSpared o place
through-spared o area columns place fits e = by (shape o).takes fits
  where
    by : (takes : Takes) → fits_at (areas_by takes) area Y columns ≡ true → IsSparedBy takes place
    by NoRegister fits = tt
    by (Count count shifted) fits =
        spots-apart 2 area Low columns (InByte Cl) place (beside-count area Y columns refl fits) refl e
    by (Division dividend divisor gives) fits = (
      spots-apart 0 area All columns (InWord Eax) place (inl (beside-eax area Y columns fits)) refl e,
      spots-apart 3 area All columns (InWord Edx) place (inl (beside-edx area Y columns fits)) refl e,
    )
    by AcrossCall fits =
        let one = over-call area Y columns refl fits in (
          spots-apart 0 area All columns (InWord Eax) place (inl (λ same. omega (arith, same, one))) refl e,
          spots-apart 2 area All columns (InWord Ecx) place (inl (λ same. omega (arith, same, one))) refl e,
          spots-apart 3 area All columns (InWord Edx) place (inl (λ same. omega (arith, same, one))) refl e,
        )
