-- Slots are given one after another, and variables are spilled at a point.
use Rattle.std.proofs.Common.{ℕ, ℤ, ◌≡◌, ◌≢◌, ◌<◌, ◌+◌, ◌⊎◌, inl, inr, Bool, true, false, cond}
use Rattle.std.proofs.Common.{List, [], ◌∷◌, ◌++◌, length, set, Option, Some, None, refl, sym, ap, subst}
use Rattle.std.proofs.Common.{arith, ◌∙◌, append_assoc, pos}
use Rattle.std.specs.Prelude.{is_some, not, slice_get}
use Rattle.std.proofs.lemmas.Bool.{cases_eq}
use Rattle.std.proofs.lemmas.Int.{ints}
use Rattle.std.proofs.lemmas.List.{append-nil, get_or-set_other, get_or-set_same, length-set}
use Rattle.std.proofs.lemmas.List.Sums.{sum_by-set, count_by-le-length}
use Rattle.std.proofs.lemmas.Option.{get_or_from_slice_get, none-some, same_Some}
use Rattle.flow_graph.specs.Graphs.{IsIn}
use Rattle.flow_liveness.proofs.Naming.{in-either, in-left, in-right}
use Rattle.puzzle_board.specs.Places.{PlaceMap, spilled_at, with_spilled}
use Rattle.allocator.specs.Slots.{AreGiven, AreSlots, AreSpilled, HasSlot, offset_of, slot_in, slots_given}

-- ---- one slot

abbrev flag : Option ℤ → ℕ
flag o = cond (is_some o) 1 0

-- one slot more
count-set :
    (slots : List (Option ℤ)) (v : ℕ) (offset : ℤ) → v < length slots → slot_in slots v ≡ None
    → slots_given (set slots v (Some offset)) ≡ slots_given slots + 1
count-set slots v offset lt none =
    let more = sum_by-set (λ (o : Option ℤ). flag o) slots v (Some offset) None lt in
    let was : flag (slot_in slots v) ≡ 0 = ap flag none in
    omega (arith, more, was)

-- there is room for it
pub count-room : (slots : List (Option ℤ)) (v : ℕ) → v < length slots → slot_in slots v ≡ None
    → slots_given slots < length slots
count-room slots v lt none =
    let more = count-set slots v (pos 0) lt none in
    let most = count_by-le-length is_some (set slots v (Some (pos 0))) in
    omega (arith, more, most, length-set slots v (Some (pos 0)))

same-offset : (j k : ℕ) → offset_of j ≡ offset_of k → j ≡ k
same-offset j k e = omega (arith, ints, e)

-- a variable without a slot is given the next one
module _
    (slots : List (Option ℤ)) (v : ℕ) (lt : v < length slots) (are : AreSlots slots)
    (none : slot_in slots v ≡ None) where
  abbrev next : ℤ
  next = offset_of (slots_given slots)

  abbrev now : List (Option ℤ)
  now = set slots v (Some next)

  here : slot_in now v ≡ Some next
  here = get_or-set_same slots v (Some next) None lt

  there : (w : ℕ) → w ≢ v → slot_in now w ≡ slot_in slots w
  there w other = get_or-set_other slots v w (Some next) None other

  same-here : (w : ℕ) (offset : ℤ) → w ≡ v → slot_in now w ≡ Some offset → offset ≡ next
  same-here w offset same e =
      same_Some offset next (sym e ∙ (ap (λ (x : ℕ). slot_in now x) same ∙ here))

  within-new :
      (w : ℕ) (offset : ℤ) → (w ≡ v) ⊎ (w ≢ v) → slot_in now w ≡ Some offset
      → (k : ℕ) × (k < slots_given now) × (offset ≡ offset_of k)
  within-new w offset (inl same) e = (
    slots_given slots,
    let more = count-set slots v next lt none in omega (arith, more),
    same-here w offset same e,
  )
  within-new w offset (inr other) e =
      let (k, less, is) = are.within w offset (sym (there w other) ∙ e) in
      (k, let more = count-set slots v next lt none in omega (arith, more, less), is)

  -- the next slot is no one's
  fresh : (w : ℕ) → slot_in slots w ≡ Some next → ⊥
  fresh w e =
      let (k, less, is) = are.within w next e in
      let same = same-offset (slots_given slots) k is in
      absurd (omega (arith, less, same))

  apart-new :
      (w x : ℕ) (offset : ℤ) → (w ≡ v) ⊎ (w ≢ v) → (x ≡ v) ⊎ (x ≢ v) → slot_in now w ≡ Some offset
      → slot_in now x ≡ Some offset → w ≡ x
  apart-new w x offset (inl same) (inl too) e f = same ∙ sym too
  apart-new w x offset (inl same) (inr other) e f =
      absurd (fresh x (sym (there x other) ∙ (f ∙ ap Some (same-here w offset same e))))
  apart-new w x offset (inr other) (inl same) e f =
      absurd (fresh w (sym (there w other) ∙ (e ∙ ap Some (same-here x offset same f))))
  apart-new w x offset (inr other) (inr too) e f =
      are.apart w x offset (sym (there w other) ∙ e) (sym (there x too) ∙ f)

  kept-new :
      (w : ℕ) (offset : ℤ) → (w ≡ v) ⊎ (w ≢ v) → slot_in slots w ≡ Some offset → slot_in now w ≡ Some offset
  kept-new w offset (inl same) e =
      absurd (none-some offset (sym none ∙ (sym (ap (λ (x : ℕ). slot_in slots x) same) ∙ e)))
  kept-new w offset (inr other) e = there w other ∙ e

  given-in : (w : ℕ) → IsIn w (v ∷ []) → HasSlot now w
  given-in w (inl same) = (next, ap (λ (x : ℕ). slot_in now x) (sym same) ∙ here)
  given-in w (inr none) = absurd none

  only-new : (w : ℕ) → (w ≡ v) ⊎ (w ≢ v) → HasSlot now w → HasSlot slots w ⊎ IsIn w (v ∷ [])
  only-new w (inl same) h = inr (inl (sym same))
  only-new w (inr other) h = inl (h.0, sym (there w other) ∙ h.1)

  pub given-new : AreGiven (v ∷ []) slots (set slots v (Some (offset_of (slots_given slots))))
  given-new = record {
    many = length-set slots v (Some next);
    slots = record {
      within = λ w offset e. within-new w offset (cases_eq w v) e;
      apart = λ w x offset e f. apart-new w x offset (cases_eq w v) (cases_eq x v) e f;
    };
    kept = λ w offset e. kept-new w offset (cases_eq w v) e;
    given = λ w i. given-in w i;
    only = λ w h. only-new w (cases_eq w v) h;
  }

-- so many there are then
pub given-count :
    (slots : List (Option ℤ)) (v : ℕ) (offset : ℤ) → v < length slots → slot_in slots v ≡ None
    → slots_given slots + 1 ≡ slots_given (set slots v (Some offset))
given-count slots v offset lt none = sym (count-set slots v offset lt none)

-- one that has its slot keeps it
pub given-there :
    (slots : List (Option ℤ)) (v : ℕ) → AreSlots slots → HasSlot slots v → AreGiven (v ∷ []) slots slots
given-there slots v are has = record {
  many = refl;
  slots = are;
  kept = λ w offset e. e;
  given = λ w i. there w i;
  only = λ w h. inl h;
} where
  there : (w : ℕ) → IsIn w (v ∷ []) → HasSlot slots w
  there w (inl same) = subst (λ (x : ℕ). HasSlot slots x) same has
  there w (inr none) = absurd none

-- ---- one after another

pub given-none : (slots : List (Option ℤ)) → AreSlots slots → AreGiven [] slots slots
given-none slots are = record {
  many = refl;
  slots = are;
  kept = λ w offset e. e;
  given = λ w i. absurd i;
  only = λ w h. inl h;
}

pub given-more :
    (vs : List ℕ) (v : ℕ) (old mid new : List (Option ℤ)) → AreGiven vs old mid → AreGiven (v ∷ []) mid new
    → AreGiven (vs ++ v ∷ []) old new
given-more vs v old mid new a b = record {
  many = b.many ∙ a.many;
  slots = b.slots;
  kept = λ w offset e. b.kept w offset (a.kept w offset e);
  given = λ w i. given-in w (in-either w vs (v ∷ []) i);
  only = λ w h. only-in w (b.only w h);
} where
  given-in : (w : ℕ) → IsIn w vs ⊎ IsIn w (v ∷ []) → HasSlot new w
  given-in w (inl i) = let (offset, e) = a.given w i in (offset, b.kept w offset e)
  given-in w (inr i) = b.given w i

  old-in : (w : ℕ) → HasSlot old w ⊎ IsIn w vs → HasSlot old w ⊎ IsIn w (vs ++ v ∷ [])
  old-in w (inl h) = inl h
  old-in w (inr i) = inr (in-left w vs (v ∷ []) i)

  only-in : (w : ℕ) → HasSlot mid w ⊎ IsIn w (v ∷ []) → HasSlot old w ⊎ IsIn w (vs ++ v ∷ [])
  only-in w (inl h) = old-in w (a.only w h)
  only-in w (inr i) = inr (in-right w vs (v ∷ []) i)

pub spilled-none : (point : ℕ) (old new : PlaceMap) → new ≡ old → AreSpilled point [] old new
spilled-none point old new is = record {
  before = ap (λ (m : PlaceMap). m.before) is;
  after = ap (λ (m : PlaceMap). m.after) is;
  many = ap (λ (m : PlaceMap). length m.spilled) is;
  here = ap (λ (m : PlaceMap). spilled_at m point) is ∙ sym (append-nil (spilled_at old point));
  others = λ q other. ap (λ (m : PlaceMap). spilled_at m q) is;
}

-- a variable more, once it has its slot
pub spilled-more :
    (point : ℕ) (vs : List ℕ) (v : ℕ) (old mid : PlaceMap) (slots : List (Option ℤ)) (new : PlaceMap)
    → point < length old.spilled → AreSpilled point vs old mid
    → new ≡ with_spilled (record mid { slots = slots }) point v → AreSpilled point (vs ++ v ∷ []) old new
spilled-more point vs v old mid slots new lt a is = record {
  before = ap (λ (m : PlaceMap). m.before) is ∙ a.before;
  after = ap (λ (m : PlaceMap). m.after) is ∙ a.after;
  many = ap (λ (m : PlaceMap). length m.spilled) is ∙ (length-set mid.spilled point (spilled_at mid point ++ v ∷ [])
      ∙ a.many);
  here =
      ap (λ (m : PlaceMap). spilled_at m point) is
      ∙ (get_or-set_same mid.spilled point (spilled_at mid point ++ v ∷ []) [] (let e = a.many in omega (arith, e, lt))
      ∙ (ap (λ (ws : List ℕ). ws ++ v ∷ []) a.here ∙ append_assoc (spilled_at old point) vs (v ∷ [])));
  others = λ q other.
      ap (λ (m : PlaceMap). spilled_at m q) is
      ∙ (get_or-set_other mid.spilled point q (spilled_at mid point ++ v ∷ []) [] other ∙ a.others q other);
}

-- ---- in the code's words

none-is : (o : Option ℤ) → is_some o ≡ false → o ≡ None
none-is None e = refl
none-is (Some x) e = absurd (cc)

some-is : (o : Option ℤ) → is_some o ≡ true → (x : ℤ) × (o ≡ Some x)
some-is None e = absurd (cc)
some-is (Some x) e = (x, refl)

pub without-slot :
    (slots : List (Option ℤ)) (v : ℕ) (o : Option ℤ) (r : Bool) → slice_get slots v ≡ Some o → is_some o ≡ not r
    → r ≡ true → slot_in slots v ≡ None
without-slot slots v o r e f t = get_or_from_slice_get slots v o None e ∙ none-is o (f ∙ ap not t)

pub with-slot :
    (slots : List (Option ℤ)) (v : ℕ) (o : Option ℤ) (r : Bool) → slice_get slots v ≡ Some o → is_some o ≡ not r
    → r ≡ false → HasSlot slots v
with-slot slots v o r e f t =
    let (x, is) = some-is o (f ∙ ap not t) in (x, get_or_from_slice_get slots v o None e ∙ is)
