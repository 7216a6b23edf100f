-- The offsets of labels and points stay right while items are laid one behind the other.
use Rattle.std.specs.Prelude.{◌≡◌, ◌<◌, ◌≤◌, ℕ, zero, suc, ◌+◌, List, [], ◌∷◌, ◌++◌, length, take, slice_get}
use Rattle.std.specs.Prelude.{slice_index, Some}
use Rattle.std.proofs.Common.{refl, sym, ap, ◌∙◌, subst, arith, inl, inr, get_or}
use Rattle.std.proofs.lemmas.List.{take-append-le, take_at, take_more}
use Rattle.std.proofs.lemmas.Option.{slice_get_within, slice_get-get_or}
use Rattle.std.proofs.lemmas.Bool.{cases_eq, eq-eqb, ne_eqb}
use Rattle.pcc_base.proofs.Lists.{get-last, get-append}
use Rattle.ia32_insn.specs.declared.item.Item.{Item}
use Rattle.ia32_insn.specs.declared.item.Item.TheVariants as item
use Rattle.ia32_asm.specs.declared.offsets.Offsets.{Offsets}
use Rattle.ia32_asm.specs.Sections.{Stands, StandOnce, item_size, items_size, CanAssemble}
use Rattle.ia32_asm.specs.Pieces.{IsPut, AreOffsets, AreLaid, Adds, IsLonger}
use Rattle.ia32_asm.proofs.Lists.{slice_get-push, slice_get-taken}

-- ---- sizes

pub items_size-append : (xs ys : List Item) → items_size (xs ++ ys) ≡ items_size xs + items_size ys
items_size-append [] ys = omega arith
items_size-append (x ∷ xs) ys = omega (arith, items_size-append xs ys)

pub items_size-push : (xs : List Item) (x : Item) → items_size (xs ++ x ∷ []) ≡ items_size xs + item_size x
items_size-push xs x = omega (arith, items_size-append xs (x ∷ []))

-- a part is no longer than the whole
pub items_size-take : (k : ℕ) (xs : List Item) → items_size (take k xs) ≤ items_size xs
items_size-take zero xs = omega arith
items_size-take (suc k) [] = omega arith
items_size-take (suc k) (x ∷ xs) = omega (arith, items_size-take k xs)

-- ---- one more item

-- an item that is no such mark leaves the offsets
pub offsets_more : (mark : ℕ → Item) (xs : List Item) (x : Item) (offsets : List ℕ) → ((n : ℕ) → x ≡ mark n → ⊥)
    → AreOffsets mark xs offsets
    → AreOffsets mark (xs ++ x ∷ []) offsets
offsets_more mark xs x offsets other h =
    let back : (n : ℕ) → Stands (mark n) (xs ++ x ∷ []) → Stands (mark n) xs =
    λ n s. elim (slice_get-push xs x (mark n) s.0 s.1) [ inl p ↦ (s.0, p) | inr p ↦ absurd (other n p.1) ]
    in
    record {
      offset = λ j n e. elim (slice_get-push xs x (mark n) j e) [
        | inl p ↦
            h.offset j n p ∙ ap items_size
            (sym (take-append-le j xs (x ∷ []) (omega (arith, slice_get_within xs j (mark n) p))))
        | inr p ↦ absurd (other n p.1)
      ];
      bound = λ n. omega (arith, h.bound n, items_size-push xs x);
      numbered = record {
        within = λ n s. h.numbered.within n (back n s);
        greatest = λ n e. let s = h.numbered.greatest n e in (s.0, get-append xs (x ∷ []) s.0 (mark n) s.1);
        others = λ n none. h.numbered.others n (λ s. none (s.0, get-append xs (x ∷ []) s.0 (mark n) s.1));
      };
    }

-- a mark that did not stand there gets its offset
pub offsets_put : (mark : ℕ → Item) (xs : List Item) (k size : ℕ) (old new : List ℕ)
    → ((m n : ℕ) → mark m ≡ mark n → m ≡ n)
    → (Stands (mark k) xs → ⊥) → size ≡ items_size xs → IsPut old k size new → AreOffsets mark xs old
    → AreOffsets mark (xs ++ mark k ∷ []) new
offsets_put mark xs k size old new one fresh sized put h =
    let at : (n : ℕ) → n ≡ k → slice_index new n ≡ size = λ n p. put.entries n ∙ rw (eq-eqb n k p) refl in
    let elsewhere : (n : ℕ) → (n ≡ k → ⊥) → slice_index new n ≡ slice_index old n =
    λ n p. put.entries n ∙ rw (ne_eqb n k p) refl in
    record {
      offset = λ j n e. elim (slice_get-push xs (mark k) (mark n) j e) [
        | inl p ↦
            elsewhere n (λ (same : n ≡ k). fresh (j, subst (λ (m : ℕ). slice_get xs j ≡ Some (mark m)) same p))
            ∙ h.offset j n p ∙ ap items_size
            (sym (take-append-le j xs (mark k ∷ []) (omega (arith, slice_get_within xs j (mark n) p))))
        | inr p ↦
            at n (sym (one k n p.1)) ∙ sized ∙ sym (ap items_size (take_at xs (mark k ∷ []) j (sym p.0)))
      ];
      bound = λ n. elim (cases_eq n k) [
        | inl p ↦ omega (arith, at n p, sized, items_size-push xs (mark k))
        | inr p ↦ omega (arith, elsewhere n p, h.bound n, items_size-push xs (mark k))
      ];
      numbered = record {
        within = λ n s. elim (slice_get-push xs (mark k) (mark n) s.0 s.1) [
          | inl p ↦ omega (arith, h.numbered.within n (s.0, p), put.longer)
          | inr p ↦ omega (arith, one k n p.1, put.within)
        ];
        greatest = λ n e. elim (put.greatest n e) [
          | inl p ↦ let s = h.numbered.greatest n p in (s.0, get-append xs (mark k ∷ []) s.0 (mark n) s.1)
          | inr p ↦ (length xs, get-last xs (mark k) ∙ ap (λ (m : ℕ). Some (mark m)) (sym p))
        ];
        others = λ n none. elim (cases_eq n k) [
          | inl p ↦ absurd (none (length xs, get-last xs (mark k) ∙ ap (λ (m : ℕ). Some (mark m)) (sym p)))
          | inr p ↦ elsewhere n p ∙ h.numbered.others n (λ s. none (s.0, get-append xs (mark k ∷ []) s.0 (mark n) s.1))
        ];
      };
    }

-- offsets in an equal list
pub offsets_same : (mark : ℕ → Item) (xs : List Item) (old new : List ℕ) → new ≡ old → AreOffsets mark xs old
    → AreOffsets mark xs new
offsets_same mark xs old new e h = subst (λ (os : List ℕ). AreOffsets mark xs os) (sym e) h

longer_laid : (xs : List Item) (x : Item) (old new : Offsets) → ((n : ℕ) → x ≡ item.Label n → ⊥)
    → ((n : ℕ) → x ≡ item.Point n → ⊥)
    → IsLonger x old new → AreLaid xs old → AreLaid (xs ++ x ∷ []) new
longer_laid xs x old new no_label no_point a h =
    record {
      labels = offsets_same item.Label (xs ++ x
          ∷ []) old.labels.items new.labels.items a.0 (offsets_more item.Label xs x old.labels.items no_label h.labels);
      points = offsets_same item.Point (xs ++ x
          ∷ []) old.points.items new.points.items a.1 (offsets_more item.Point xs x old.points.items no_point h.points);
      size = a.2 ∙ omega (arith, h.size, items_size-push xs x);
    }

-- one more item is laid
pub laid_more : (xs : List Item) (x : Item) (old new : Offsets) → ((n : ℕ) → x ≡ item.Label n → Stands x xs → ⊥)
    → ((n : ℕ) → x ≡ item.Point n → Stands x xs → ⊥)
    → Adds x old new → AreLaid xs old → AreLaid (xs ++ x ∷ []) new
laid_more xs (item.Label l) old new fresh_label fresh_point a h =
    record {
      labels = offsets_put item.Label xs l old.size old.labels.items new.labels.items (λ m n e. (cc))
          (fresh_label l refl) h.size a.0 h.labels;
      points = offsets_same item.Point (xs ++ item.Label l
          ∷ []) old.points.items new.points.items a.1
          (offsets_more item.Point xs (item.Label l) old.points.items (λ n e. (cc)) h.points);
      size = a.2 ∙ omega (arith, h.size, items_size-push xs (item.Label l));
    }
laid_more xs (item.Point p) old new fresh_label fresh_point a h =
    record {
      labels = offsets_same item.Label (xs ++ item.Point p
          ∷ []) old.labels.items new.labels.items a.1
          (offsets_more item.Label xs (item.Point p) old.labels.items (λ n e. (cc)) h.labels);
      points = offsets_put item.Point xs p old.size old.points.items new.points.items (λ m n e. (cc))
          (fresh_point p refl) h.size a.0 h.points;
      size = a.2 ∙ omega (arith, h.size, items_size-push xs (item.Point p));
    }
laid_more xs (item.Plain i) old new fresh_label fresh_point a h =
    longer_laid xs (item.Plain i) old new (λ n e. (cc)) (λ n e. (cc)) a h
laid_more xs (item.JumpTo l) old new fresh_label fresh_point a h =
    longer_laid xs (item.JumpTo l) old new (λ n e. (cc)) (λ n e. (cc)) a h
laid_more xs (item.JumpIf c l) old new fresh_label fresh_point a h =
    longer_laid xs (item.JumpIf c l) old new (λ n e. (cc)) (λ n e. (cc)) a h
laid_more xs (item.CallFunction f) old new fresh_label fresh_point a h =
    longer_laid xs (item.CallFunction f) old new (λ n e. (cc)) (λ n e. (cc)) a h
laid_more xs (item.CallStub s) old new fresh_label fresh_point a h =
    longer_laid xs (item.CallStub s) old new (λ n e. (cc)) (λ n e. (cc)) a h
laid_more xs (item.JumpTrap c) old new fresh_label fresh_point a h =
    longer_laid xs (item.JumpTrap c) old new (λ n e. (cc)) (λ n e. (cc)) a h
laid_more xs (item.AddressOf r k) old new fresh_label fresh_point a h =
    longer_laid xs (item.AddressOf r k) old new (λ n e. (cc)) (λ n e. (cc)) a h

-- a mark that stands once does not stand before its place
pub stands_later : (mark : ℕ → Item) (items : List Item) (k n : ℕ) (x : Item) → StandOnce mark items → slice_get items k
    ≡ Some x → x ≡ mark n
    → Stands x (take k items) → ⊥
stands_later mark items k n x once e same s =
    let before = slice_get-taken k items x s.0 s.1 in
    let i = once s.0 k n (before.0 ∙ ap (λ (y : Item). Some y) same) (e ∙ ap (λ (y : Item). Some y) same) in
    absurd (omega (arith, before.1, i))

-- so is the next of items that can be assembled
pub laid_step : (items same : List Item) (k : ℕ) (d : Item) (old new : Offsets) → same ≡ items → k < length items
    → CanAssemble items
    → Adds (get_or same k d) old new → AreLaid (take k items) old → AreLaid (take (k + 1) items) new
laid_step items same k d old new e h can a laid =
    let x : Item = get_or items k d in
    let there : slice_get items k ≡ Some x = slice_get-get_or items k d h in
    let adds : Adds x old new = subst (λ (ys : List Item). Adds (get_or ys k d) old new) e a in
    subst (λ (ys : List Item). AreLaid ys new) (sym (take_more items k d h))
    (laid_more (take k items) x old new (λ n. stands_later item.Label items k n x can.labels_once there)
    (λ n. stands_later item.Point items k n x can.points_once there) adds laid)
