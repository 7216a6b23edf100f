-- Columns of areas as registers: which cells they have, and when two have none in common.
use Rattle.std.proofs.Common.{◌≡◌, ◌≢◌, ◌⊎◌, ◌<◌, ◌≤◌, ◌*◌, ◌+◌, ℕ, zero, suc, true, false, true≢false}
use Rattle.std.proofs.Common.{Some, inl, inr, refl, sym, subst, arith, ◌∙◌}
use Rattle.std.proofs.lemmas.Option.{none-some, same_Some}
use Rattle.pcc_base.specs.declared.run.Width.{Width}
use Rattle.pcc_base.specs.declared.run.Width.TheVariants.{One, Two}
use Rattle.ia32_insn.specs.declared.register_names.Reg32.{Reg32}
use Rattle.ia32_insn.specs.declared.register_names.Reg32.TheVariants.{Eax, Ecx, Edx, Ebx}
use Rattle.ia32_insn.specs.declared.register_names.Reg8.{Reg8}
use Rattle.ia32_insn.specs.declared.register_names.Reg8.TheVariants.{Al, Cl, Dl, Bl, Ah, Ch, Dh, Bh}
use Rattle.ia32_insn.specs.Registers.{byte_place, number32}
use Rattle.ia32_insn.specs.Places.{Place, InWord, InByte, IsGeneral}
use Rattle.puzzle_board.specs.declared.piece.Columns.{Columns}
use Rattle.puzzle_board.specs.declared.piece.Columns.TheVariants.{Low, High, All}
use Rattle.puzzle_board.specs.Areas.{is_of_width, share_column}
use Rattle.ia32_rows.specs.Contains.{IsPlaceIn}
use Rattle.ia32_rows.specs.Laws.{ArePlacesApart}
use Rattle.ia32_laws.specs.Supports.{HoldsWidth}
use Rattle.ia32_placements.specs.Standings.{register_at}

-- the number of an area's register
pub number_of : ℕ → ℕ
number_of zero = 0
number_of (suc zero) = 3
number_of (suc (suc zero)) = 1
number_of (suc (suc (suc area))) = 2

-- the place is these columns of the register with the number
abbrev pub IsAt : ℕ → Columns → Place → Type 0
IsAt n Low place = (r : Reg8) × (byte_place r ≡ 4 * n) × (InByte r ≡ place)
IsAt n High place = (r : Reg8) × (byte_place r ≡ 4 * n + 1) × (InByte r ≡ place)
IsAt n All place = (r : Reg32) × (number32 r ≡ n) × IsGeneral r × (InWord r ≡ place)

-- an area has a register, whose columns they are
pub is-at : (area : ℕ) (columns : Columns) (place : Place) → register_at area columns ≡ Some place
    → IsAt (number_of area) columns place
unfolding number_of
is-at zero Low place e = (Al, refl, same_Some (InByte Al) place e)
is-at zero High place e = (Ah, refl, same_Some (InByte Ah) place e)
is-at zero All place e = (Eax, refl, tt, same_Some (InWord Eax) place e)
is-at (suc zero) Low place e = (Bl, refl, same_Some (InByte Bl) place e)
is-at (suc zero) High place e = (Bh, refl, same_Some (InByte Bh) place e)
is-at (suc zero) All place e = (Ebx, refl, tt, same_Some (InWord Ebx) place e)
is-at (suc (suc zero)) Low place e = (Cl, refl, same_Some (InByte Cl) place e)
is-at (suc (suc zero)) High place e = (Ch, refl, same_Some (InByte Ch) place e)
is-at (suc (suc zero)) All place e = (Ecx, refl, tt, same_Some (InWord Ecx) place e)
is-at (suc (suc (suc zero))) Low place e = (Dl, refl, same_Some (InByte Dl) place e)
is-at (suc (suc (suc zero))) High place e = (Dh, refl, same_Some (InByte Dh) place e)
is-at (suc (suc (suc zero))) All place e = (Edx, refl, tt, same_Some (InWord Edx) place e)
is-at (suc (suc (suc (suc area)))) Low place e = absurd (none-some place e)
is-at (suc (suc (suc (suc area)))) High place e = absurd (none-some place e)
is-at (suc (suc (suc (suc area)))) All place e = absurd (none-some place e)

-- and it is one of four
pub area-within : (area : ℕ) (columns : Columns) (place : Place) → register_at area columns ≡ Some place → area < 4
area-within zero columns place e = omega arith
area-within (suc zero) columns place e = omega arith
area-within (suc (suc zero)) columns place e = omega arith
area-within (suc (suc (suc zero))) columns place e = omega arith
area-within (suc (suc (suc (suc area)))) Low place e = absurd (none-some place e)
area-within (suc (suc (suc (suc area)))) High place e = absurd (none-some place e)
area-within (suc (suc (suc (suc area)))) All place e = absurd (none-some place e)

-- columns of one of the four are a register
pub at-area : (area : ℕ) (columns : Columns) → area < 4 → (place : Place) × (register_at area columns ≡ Some place)
at-area zero Low below = (InByte Al, refl)
at-area zero High below = (InByte Ah, refl)
at-area zero All below = (InWord Eax, refl)
at-area (suc zero) Low below = (InByte Bl, refl)
at-area (suc zero) High below = (InByte Bh, refl)
at-area (suc zero) All below = (InWord Ebx, refl)
at-area (suc (suc zero)) Low below = (InByte Cl, refl)
at-area (suc (suc zero)) High below = (InByte Ch, refl)
at-area (suc (suc zero)) All below = (InWord Ecx, refl)
at-area (suc (suc (suc zero))) Low below = (InByte Dl, refl)
at-area (suc (suc (suc zero))) High below = (InByte Dh, refl)
at-area (suc (suc (suc zero))) All below = (InWord Edx, refl)
at-area (suc (suc (suc (suc area)))) columns below = absurd (omega (arith, below))

-- areas have registers of their own
pub other-number : (a b : ℕ) → a < 4 → b < 4 → a ≢ b → number_of a ≢ number_of b
unfolding number_of
other-number zero zero x y other e = other refl
other-number zero (suc zero) x y other e = omega (arith, e)
other-number zero (suc (suc zero)) x y other e = omega (arith, e)
other-number zero (suc (suc (suc b))) x y other e = omega (arith, e)
other-number (suc zero) zero x y other e = omega (arith, e)
other-number (suc zero) (suc zero) x y other e = other refl
other-number (suc zero) (suc (suc zero)) x y other e = omega (arith, e)
other-number (suc zero) (suc (suc (suc b))) x y other e = omega (arith, e)
other-number (suc (suc zero)) zero x y other e = omega (arith, e)
other-number (suc (suc zero)) (suc zero) x y other e = omega (arith, e)
other-number (suc (suc zero)) (suc (suc zero)) x y other e = other refl
other-number (suc (suc zero)) (suc (suc (suc b))) x y other e = omega (arith, e)
other-number (suc (suc (suc a))) zero x y other e = omega (arith, e)
other-number (suc (suc (suc a))) (suc zero) x y other e = omega (arith, e)
other-number (suc (suc (suc a))) (suc (suc zero)) x y other e = omega (arith, e)
other-number (suc (suc (suc a))) (suc (suc (suc b))) x y other e = other (omega (arith, x, y))

-- ---- apart

-- two registers, or two columns of one
abbrev pub AreOthers : ℕ → Columns → ℕ → Columns → Type 0
AreOthers m c n d = (m ≢ n) ⊎ (share_column c d ≡ false)

-- numbers that differ are in one of two orders
ordered : (m n : ℕ) → m ≢ n → (m < n) ⊎ (n < m)
ordered m n other = grind arith

-- a byte of another register is outside the word
outside-other : (m n k i : ℕ) → m ≢ n → k ≡ 4 * n + i → i < 2 → (k < 4 * m) ⊎ (4 * m + 4 ≤ k)
outside-other m n k i other e small =
    elim (ordered m n other) [
      | inl less ↦ inr (omega (arith, e, less))
      | inr more ↦ inl (omega (arith, e, more, small))
    ]

-- bytes at two places that differ
other-bytes : (m n i j k l : ℕ) → k ≡ 4 * m + i → l ≡ 4 * n + j → i < 2 → j < 2 → (m ≢ n) ⊎ (i ≢ j) → k ≢ l
other-bytes m n i j k l e f a b (inl other) same = other (omega (arith, e, f, a, b, same))
other-bytes m n i j k l e f a b (inr other) same = other (omega (arith, e, f, a, b, same))

-- where both have a column the registers differ
differ : (m n : ℕ) (c d : Columns) → share_column c d ≡ true → AreOthers m c n d → m ≢ n
differ m n c d shared (inl other) = other
differ m n c d shared (inr free) = absurd (true≢false (sym shared ∙ free))

pub apart : (m n : ℕ) (c d : Columns) (p q : Place) → AreOthers m c n d → IsAt m c p → IsAt n d q
    → ArePlacesApart p q
apart m n Low Low p q others (r, e, f) (t, g, h) =
    subst (λ (x : Place). ArePlacesApart x q) f (subst (λ (x : Place). ArePlacesApart (InByte r) x) h
    (other-bytes m n 0 0 (byte_place r) (byte_place t) (omega (arith, e)) (omega (arith, g)) (omega arith) (omega arith)
    (inl (differ m n Low Low refl others))))
apart m n Low High p q others (r, e, f) (t, g, h) =
    subst (λ (x : Place). ArePlacesApart x q) f (subst (λ (x : Place). ArePlacesApart (InByte r) x) h
    (other-bytes m n 0 1 (byte_place r) (byte_place t) (omega (arith, e)) g (omega arith) (omega arith)
    (inr (λ same. omega (arith, same)))))
apart m n Low All p q others (r, e, f) (t, g, general, h) =
    subst (λ (x : Place). ArePlacesApart x q) f (subst (λ (x : Place). ArePlacesApart (InByte r) x) h
    (subst (λ (k : ℕ). (byte_place r < 4 * k) ⊎ (4 * k + 4 ≤ byte_place r)) (sym g)
    (outside-other n m (byte_place r) 0 (λ same. differ m n Low All refl others (sym same)) (omega (arith, e))
    (omega arith))))
apart m n High Low p q others (r, e, f) (t, g, h) =
    subst (λ (x : Place). ArePlacesApart x q) f (subst (λ (x : Place). ArePlacesApart (InByte r) x) h
    (other-bytes m n 1 0 (byte_place r) (byte_place t) e (omega (arith, g)) (omega arith) (omega arith)
    (inr (λ same. omega (arith, same)))))
apart m n High High p q others (r, e, f) (t, g, h) =
    subst (λ (x : Place). ArePlacesApart x q) f (subst (λ (x : Place). ArePlacesApart (InByte r) x) h
    (other-bytes m n 1 1 (byte_place r) (byte_place t) e g (omega arith) (omega arith)
    (inl (differ m n High High refl others))))
apart m n High All p q others (r, e, f) (t, g, general, h) =
    subst (λ (x : Place). ArePlacesApart x q) f (subst (λ (x : Place). ArePlacesApart (InByte r) x) h
    (subst (λ (k : ℕ). (byte_place r < 4 * k) ⊎ (4 * k + 4 ≤ byte_place r)) (sym g)
    (outside-other n m (byte_place r) 1 (λ same. differ m n High All refl others (sym same)) e (omega arith))))
apart m n All Low p q others (r, e, general, f) (t, g, h) =
    subst (λ (x : Place). ArePlacesApart x q) f (subst (λ (x : Place). ArePlacesApart (InWord r) x) h
    (subst (λ (k : ℕ). (byte_place t < 4 * k) ⊎ (4 * k + 4 ≤ byte_place t)) (sym e)
    (outside-other m n (byte_place t) 0 (differ m n All Low refl others) (omega (arith, g)) (omega arith))))
apart m n All High p q others (r, e, general, f) (t, g, h) =
    subst (λ (x : Place). ArePlacesApart x q) f (subst (λ (x : Place). ArePlacesApart (InWord r) x) h
    (subst (λ (k : ℕ). (byte_place t < 4 * k) ⊎ (4 * k + 4 ≤ byte_place t)) (sym e)
    (outside-other m n (byte_place t) 1 (differ m n All High refl others) g (omega arith))))
apart m n All All p q others (r, e, general, f) (t, g, also, h) =
    subst (λ (x : Place). ArePlacesApart x q) f (subst (λ (x : Place). ArePlacesApart (InWord r) x) h
    (λ same. differ m n All All refl others (sym e ∙ (same ∙ g))))

-- columns of two areas, or two of one, are registers apart
pub spots-apart : (a b : ℕ) (c d : Columns) (p q : Place) → (a ≢ b) ⊎ (share_column c d ≡ false)
    → register_at a c ≡ Some p → register_at b d ≡ Some q → ArePlacesApart p q
spots-apart a b c d p q (inl other) e f =
    apart (number_of a) (number_of b) c d p q
    (inl (other-number a b (area-within a c p e) (area-within b d q f) other)) (is-at a c p e) (is-at b d q f)
spots-apart a b c d p q (inr free) e f =
    apart (number_of a) (number_of b) c d p q (inr free) (is-at a c p e) (is-at b d q f)

-- ---- what they hold

-- a register for variables
pub in-frame : (n frame : ℕ) (c : Columns) (p : Place) → IsAt n c p → IsPlaceIn frame p
in-frame n frame Low p (r, e, f) = subst (IsPlaceIn frame) f tt
in-frame n frame High p (r, e, f) = subst (IsPlaceIn frame) f tt
in-frame n frame All p (r, e, general, f) = subst (IsPlaceIn frame) f general

-- one for a variable that is as wide
pub holds-width : (n : ℕ) (width : Width) (c : Columns) (p : Place) → is_of_width width c ≡ true → IsAt n c p
    → HoldsWidth (Some width) p
holds-width n One Low p wide (r, e, f) = subst (HoldsWidth (Some One)) f tt
holds-width n One High p wide (r, e, f) = subst (HoldsWidth (Some One)) f tt
holds-width n One All p wide at = absurd (true≢false (sym wide))
holds-width n Two Low p wide at = absurd (true≢false (sym wide))
holds-width n Two High p wide at = absurd (true≢false (sym wide))
holds-width n Two All p wide (r, e, general, f) = subst (HoldsWidth (Some Two)) f tt
