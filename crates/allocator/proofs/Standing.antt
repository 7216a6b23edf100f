-- The places of pieces, one after another.
use Rattle.std.proofs.Common.{ℕ, ℤ, ◌≡◌, ◌<◌, ◌+◌, ◌⊎◌, inl, inr, List, [], ◌∷◌, ◌++◌, length, Option, Some}
use Rattle.std.proofs.Common.{get_or, refl, sym, ap, subst, arith, ◌∙◌}
use Rattle.std.specs.Prelude.{slice_get}
use Rattle.std.proofs.lemmas.List.{length-append}
use Rattle.std.proofs.lemmas.Option.{same_Some, slice_get-get_or, slice_get_within}
use Rattle.pcc_base.proofs.Lists.{get-append, get-last}
use Rattle.puzzle_board.specs.declared.piece.Piece.{Piece}
use Rattle.puzzle_board.specs.declared.piece.Spot.{Spot}
use Rattle.puzzle_board.specs.declared.place.Place.{Place}
use Rattle.allocator.specs.Slots.{slot_in}
use Rattle.allocator.specs.Solutions.{ArePlaces, StandsIn}

-- the places of the first n pieces
pub record ArePlacesTo
    (n : ℕ) (slots : List (Option ℤ)) (pieces : List Piece) (spots : List (Option Spot)) (places : List Place) : Type 0
  where
    pub many : length places ≡ n
    pub each : (k : ℕ) (piece : Piece) (spot : Option Spot) → k < n → slice_get pieces k ≡ Some piece
        → slice_get spots k ≡ Some spot
        → (place : Place) × (slice_get places k ≡ Some place) × StandsIn spot (slot_in slots piece.var) place

pub places-none : (slots : List (Option ℤ)) (pieces : List Piece) (spots : List (Option Spot))
    → ArePlacesTo 0 slots pieces spots []
places-none slots pieces spots = record {
  many = refl;
  each = λ k piece spot lt. absurd (omega (arith, lt));
}

pub less-one : (k n : ℕ) → k < n + 1 → (k < n) ⊎ (k ≡ n)
less-one k n lt = grind arith

pub places-more :
    (n : ℕ) (slots : List (Option ℤ)) (pieces : List Piece) (spots : List (Option Spot)) (places : List Place)
    (p : Piece) (s : Option Spot) (place : Place)
    → slice_get pieces n ≡ Some p → slice_get spots n ≡ Some s → StandsIn s (slot_in slots p.var) place
    → ArePlacesTo n slots pieces spots places → ArePlacesTo (n + 1) slots pieces spots (places ++ place ∷ [])
places-more n slots pieces spots places p s place at seen stands far = record {
  many = let e = far.many in omega (arith, e, length-append places (place ∷ []));
  each = λ k piece spot lt e f. each-more k piece spot (less-one k n lt) e f;
} where
  each-more :
      (k : ℕ) (piece : Piece) (spot : Option Spot) → (k < n) ⊎ (k ≡ n) → slice_get pieces k ≡ Some piece
      → slice_get spots k ≡ Some spot
      → (q : Place) × (slice_get (places ++ place ∷ []) k ≡ Some q) × StandsIn spot (slot_in slots piece.var) q
  each-more k piece spot (inl less) e f =
      let (q, is, in-it) = far.each k piece spot less e f in (q, get-append places (place ∷ []) k q is, in-it)
  each-more k piece spot (inr same) e f =
      let piece-is : p ≡ piece = same_Some p piece (sym at ∙ (ap (λ (j : ℕ). slice_get pieces j) (sym same) ∙ e)) in
      let spot-is : s ≡ spot = same_Some s spot (sym seen ∙ (ap (λ (j : ℕ). slice_get spots j) (sym same) ∙ f)) in (
        place,
        ap (λ (j : ℕ). slice_get (places ++ place ∷ []) j) (same ∙ sym far.many) ∙ get-last places place,
        subst (λ (x : Piece). StandsIn spot (slot_in slots x.var) place) piece-is
            (subst (λ (x : Option Spot). StandsIn x (slot_in slots p.var) place) spot-is stands),
      )

pub places-all :
    (slots : List (Option ℤ)) (pieces : List Piece) (spots : List (Option Spot)) (places : List Place)
    → ArePlacesTo (length pieces) slots pieces spots places → ArePlaces slots pieces spots places
places-all slots pieces spots places far = record {
  many = far.many;
  each = λ k piece spot e f. far.each k piece spot (slice_get_within pieces k piece e) e f;
}

pub places-more-at :
    (n : ℕ) (slots : List (Option ℤ)) (pieces : List Piece) (spots : List (Option Spot)) (places : List Place)
    (d : Piece) (e : Option Spot) (place : Place)
    → n < length pieces → n < length spots
    → StandsIn (get_or spots n e) (slot_in slots (get_or pieces n d).var) place
    → ArePlacesTo n slots pieces spots places → ArePlacesTo (n + 1) slots pieces spots (places ++ place ∷ [])
places-more-at n slots pieces spots places d e place lp ls stands far =
    places-more n slots pieces spots places (get_or pieces n d) (get_or spots n e) place
    (slice_get-get_or pieces n d lp) (slice_get-get_or spots n e ls) stands far
