-- Which pieces a point has, and which variables stand on its sides.
use Rattle.std.proofs.Common.{ℕ, zero, suc, ◌≡◌, ◌⊎◌, inl, inr, Bool, true, false, ◌&&◌, not, true≢false}
use Rattle.std.proofs.Common.{List, [], ◌∷◌, ◌++◌, Option, Some, None, refl, sym, ap, subst, ◌∙◌}
use Rattle.std.specs.Prelude.{slice_get}
use Rattle.std.proofs.lemmas.Option.{none-some, same_Some}
use Rattle.std.proofs.lemmas.Bool.{eqb-true}
use Rattle.flow_graph.specs.declared.op.Op.{Op}
use Rattle.flow_graph.specs.Graphs.{Flow, IsIn, has_point}
use Rattle.flow_graph.specs.Liveness.{defined}
use Rattle.flow_graph.specs.Lives.{Lives, at_point}
use Rattle.puzzle_board.specs.declared.piece.Kind.TheVariants.{Z}
use Rattle.puzzle_board.specs.declared.piece.Piece.{Piece}
use Rattle.flow_liveness.specs.Names.{is_named}
use Rattle.allocator.specs.PointBoards.{fixed_result, fixed_use, fixed_variable, if_so, piece_of, pieces_of_all}
use Rattle.allocator.specs.PointBoards.{pieces_of_variable, point_pieces, use_kind, with_result}
use Rattle.flow_liveness.proofs.Naming.{equal-test, in-test}
use Rattle.allocator.proofs.OneMore.{in-one, in-one-old, in-one-self}

-- ---- members by number

abbrev pub Has : List Piece → Piece → Type 0
Has pieces p = (k : ℕ) × (slice_get pieces k ≡ Some p)

has-front : (ps qs : List Piece) (p : Piece) → Has ps p → Has (ps ++ qs) p
has-front [] qs p (k, e) = absurd (none-some p e)
has-front (x ∷ ps) qs p (zero, e) = (0, e)
has-front (x ∷ ps) qs p (suc k, e) = let (j, f) = has-front ps qs p (k, e) in (suc j, f)

has-behind : (ps qs : List Piece) (p : Piece) → Has qs p → Has (ps ++ qs) p
has-behind [] qs p h = h
has-behind (x ∷ ps) qs p h = let (j, f) = has-behind ps qs p h in (suc j, f)

has-either : (ps qs : List Piece) (p : Piece) → Has (ps ++ qs) p → Has ps p ⊎ Has qs p
has-either [] qs p h = inr h
has-either (x ∷ ps) qs p (zero, e) = inl (0, e)
has-either (x ∷ ps) qs p (suc k, e) =
    elim (has-either ps qs p (k, e)) [
      | inl h ↦ inl (suc h.0, h.1)
      | inr h ↦ inr h
    ]

-- ---- one of two pieces

has-if : (b : Bool) (q p : Piece) → Has (if_so b q) p → (b ≡ true) × (q ≡ p)
has-if true q p (zero, e) = (refl, same_Some q p e)
has-if true q p (suc k, e) = absurd (none-some p e)
has-if false q p (k, e) = absurd (none-some p e)

if-has : (b : Bool) (q : Piece) → b ≡ true → Has (if_so b q) q
if-has true q e = (0, refl)
if-has false q e = absurd (true≢false (sym e))

both-true : (b c : Bool) → (b && not c) ≡ true → (b ≡ true) × (c ≡ false)
both-true true true e = absurd (true≢false (sym e))
both-true true false e = (refl, refl)
both-true false c e = absurd (true≢false (sym e))

true-both : (b c : Bool) → b ≡ true → c ≡ false → (b && not c) ≡ true
true-both b c e f = ap (λ (x : Bool). x && not c) e ∙ ap (λ (x : Bool). not x) f

-- ---- the pieces of a point

module _ (flow : Flow) (lives : Lives) (point : ℕ) (op : Op) where
  abbrev is_before : ℕ → Bool
  is_before v = has_point v (at_point lives.before point)

  abbrev is_after : ℕ → Bool
  is_after v = has_point v (at_point lives.after point)

  abbrev is_defined : ℕ → Bool
  is_defined v = is_named (defined op) v

  abbrev is_operand : ℕ → Bool
  is_operand v = is_named (fixed_variable (fixed_use op)) v

  abbrev is_result : ℕ → Bool
  is_result v = is_named (fixed_variable (fixed_result op)) v

  abbrev use_piece : ℕ → Piece
  use_piece v = piece_of flow (use_kind (is_after v) (is_defined v)) v

  -- the piece of what is live before, or that of the result
  abbrev pub IsUse : Piece → ℕ → Type 0
  IsUse p v = (is_before v ≡ true) × (is_operand v ≡ false) × (use_piece v ≡ p)

  abbrev pub IsMade : Piece → ℕ → Type 0
  IsMade p v = (is_defined v ≡ true) × (is_result v ≡ false) × (piece_of flow Z v ≡ p)

  own-has : (v : ℕ) (p : Piece) → Has (pieces_of_variable flow lives point op v) p → IsUse p v ⊎ IsMade p v
  own-has v p h =
      elim (has-either (if_so (is_before v && not (is_operand v)) (use_piece v))
      (if_so (is_defined v && not (is_result v)) (piece_of flow Z v)) p h) [
        | inl g ↦ inl (live v p g)
        | inr g ↦ inr (made v p g)
      ]
    where
      live : (v : ℕ) (p : Piece) → Has (if_so (is_before v && not (is_operand v)) (use_piece v)) p → IsUse p v
      live v p g =
          let (on, same) = has-if (is_before v && not (is_operand v)) (use_piece v) p g in
          let (b, c) = both-true (is_before v) (is_operand v) on in (b, c, same)

      made : (v : ℕ) (p : Piece) → Has (if_so (is_defined v && not (is_result v)) (piece_of flow Z v)) p → IsMade p v
      made v p g =
          let (on, same) = has-if (is_defined v && not (is_result v)) (piece_of flow Z v) p g in
          let (b, c) = both-true (is_defined v) (is_result v) on in (b, c, same)

  all-has :
      (vs : List ℕ) (p : Piece) → Has (pieces_of_all flow lives point op vs) p
      → (v : ℕ) × (IsUse p v ⊎ IsMade p v)
  all-has [] p (k, e) = absurd (none-some p e)
  all-has (v ∷ vs) p h =
      elim (has-either (pieces_of_variable flow lives point op v) (pieces_of_all flow lives point op vs) p h) [
        | inl g ↦ (v, own-has v p g)
        | inr g ↦ all-has vs p g
      ]

  -- what a piece of the point is
  pub piece-is : (p : Piece) → Has (point_pieces flow lives point op) p → (v : ℕ) × (IsUse p v ⊎ IsMade p v)
  piece-is p h = all-has (with_result (defined op) (at_point lives.before point)) p h

  in-all :
      (vs : List ℕ) (v : ℕ) (p : Piece) → IsIn v vs → Has (pieces_of_variable flow lives point op v) p
      → Has (pieces_of_all flow lives point op vs) p
  in-all [] v p i h = absurd i
  in-all (w ∷ vs) v p (inl e) h =
      has-front (pieces_of_variable flow lives point op w) (pieces_of_all flow lives point op vs) p
      (subst (λ (x : ℕ). Has (pieces_of_variable flow lives point op x) p) (sym e) h)
  in-all (w ∷ vs) v p (inr i) h =
      has-behind (pieces_of_variable flow lives point op w) (pieces_of_all flow lives point op vs) p (in-all vs v p i h)

  in-result : (d : Option ℕ) (vs : List ℕ) (v : ℕ) → IsIn v vs → IsIn v (with_result d vs)
  in-result None vs v i = i
  in-result (Some d) vs v i = in-one-old v d vs i

  named-result : (d : Option ℕ) (vs : List ℕ) (v : ℕ) → is_named d v ≡ true → IsIn v (with_result d vs)
  named-result None vs v e = absurd (true≢false (sym e))
  named-result (Some d) vs v e = subst (λ (w : ℕ). IsIn w (with_result (Some d) vs)) (eqb-true d v e) (in-one-self d vs)

  -- what is live before, and not fixed, has a piece
  pub use-there :
      (v : ℕ) → IsIn v (at_point lives.before point) → is_operand v ≡ false
      → Has (point_pieces flow lives point op) (use_piece v)
  use-there v i free =
      in-all (with_result (defined op) (at_point lives.before point)) v (use_piece v)
      (in-result (defined op) (at_point lives.before point) v i)
      (has-front (if_so (is_before v && not (is_operand v)) (use_piece v))
      (if_so (is_defined v && not (is_result v)) (piece_of flow Z v)) (use_piece v)
      (if-has (is_before v && not (is_operand v)) (use_piece v)
      (true-both (is_before v) (is_operand v) (in-test v (at_point lives.before point) i) free)))

  -- and so has what is defined
  pub made-there :
      (v : ℕ) → is_defined v ≡ true → is_result v ≡ false → Has (point_pieces flow lives point op) (piece_of flow Z v)
  made-there v d free =
      in-all (with_result (defined op) (at_point lives.before point)) v (piece_of flow Z v)
      (named-result (defined op) (at_point lives.before point) v d)
      (has-behind (if_so (is_before v && not (is_operand v)) (use_piece v))
      (if_so (is_defined v && not (is_result v)) (piece_of flow Z v)) (piece_of flow Z v)
      (if-has (is_defined v && not (is_result v)) (piece_of flow Z v)
      (true-both (is_defined v) (is_result v) d free)))

-- which variables are among those with the result
pub result-in : (d : Option ℕ) (vs : List ℕ) (v : ℕ) → IsIn v (with_result d vs) → (is_named d v ≡ true) ⊎ IsIn v vs
result-in None vs v i = inr i
result-in (Some d) vs v i = elim (in-one v d vs i) [ inl e ↦ inl (equal-test d v e) | inr h ↦ inr h ]

pub in-with-result : (d : Option ℕ) (vs : List ℕ) (v : ℕ) → (is_named d v ≡ true) ⊎ IsIn v vs
    → IsIn v (with_result d vs)
in-with-result None vs v (inl e) = absurd (true≢false (sym e))
in-with-result None vs v (inr i) = i
in-with-result (Some d) vs v (inl e) =
    subst (λ (w : ℕ). IsIn w (with_result (Some d) vs)) (eqb-true d v e) (in-one-self d vs)
in-with-result (Some d) vs v (inr i) = in-one-old v d vs i

pub named-some : (o : Option ℕ) (v : ℕ) → is_named o v ≡ true → o ≡ Some v
named-some None v e = absurd (true≢false (sym e))
named-some (Some w) v e = ap Some (eqb-true w v e)

pub some-named : (o : Option ℕ) (v : ℕ) → o ≡ Some v → is_named o v ≡ true
some-named o v e = ap (λ (x : Option ℕ). is_named x v) e ∙ equal-test v v refl
