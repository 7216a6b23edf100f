-- Variables that are there, and their widths.
use Rattle.std.proofs.Common.{◌≡◌, ◌<◌, ◌≤◌, ℕ, zero, suc, Bool, false, true≢false, List, [], ◌∷◌, length, map, get_or}
use Rattle.std.proofs.Common.{Some, None, refl, sym, ap, ◌∙◌, subst, arith}
use Rattle.std.specs.Bool.{Decides}
use Rattle.std.specs.Prelude.{slice_get}
use Rattle.pcc_base.specs.declared.run.Width.{Width}
use Rattle.puzzle_board.specs.declared.piece.Piece.{Piece}
use Rattle.ia32_insn.specs.Places.{IsPlace}
use Rattle.map_text.specs.Maps.{IsStanding, MapVariable, Standing, TakesWidth}
use Rattle.map_text.specs.Rules.{IsMapPiece}
use Rattle.map_file.specs.Views.{variable_of}
use Rattle.map_file.specs.declared.file.MapVar.{MapVar}

abbrev pub widths : List MapVariable → List Width
widths vs = map (λ v. v.width) vs

-- the width of the variable at a place
pub width_at : (vars : List MapVar) (i : ℕ) (x : MapVar) → i < length vars → x ≡ get_or vars i x
    → Some x.width ≡ slice_get (widths (map variable_of vars)) i
width_at [] i x lt is = absurd (omega (arith, lt))
width_at (v ∷ vars) zero x lt is = ap (λ (y : MapVar). Some y.width) is
width_at (v ∷ vars) (suc i) x lt is = width_at vars i x (omega (arith, lt)) is

-- there is no variable
pub width_past : (vars : List MapVar) (i : ℕ) → length vars ≤ i → None ≡ slice_get (widths (map variable_of vars)) i
width_past [] i past = refl
width_past (v ∷ vars) zero past = absurd (omega (arith, past))
width_past (v ∷ vars) (suc i) past = width_past vars i (omega (arith, past))

abbrev HasVariable : List MapVariable → ℕ → Width → Type 0
HasVariable vs i w = (v : MapVariable) × (slice_get vs i ≡ Some v) × (v.width ≡ w)

variable-there : (vs : List MapVariable) (i : ℕ) (w : Width) → slice_get (widths vs) i ≡ Some w → HasVariable vs i w
variable-there [] i w e = cc
variable-there (v ∷ vs) zero w e = (v, refl, cc)
variable-there (v ∷ vs) (suc i) w e = variable-there vs i w e

width-there : (vs : List MapVariable) (i : ℕ) (v : MapVariable) → slice_get vs i ≡ Some v
    → slice_get (widths vs) i ≡ Some v.width
width-there [] i v e = cc
width-there (u ∷ vs) zero v e = cc
width-there (u ∷ vs) (suc i) v e = width-there vs i v e

-- a piece of a variable that is there, as wide
pub piece_of_width : (vs : List MapVariable) (p : Piece) (r : Bool)
    → Decides r (slice_get (widths vs) p.var ≡ Some p.width) → Decides r (IsMapPiece vs p)
piece_of_width vs p r told = (
  λ e. (let there = variable-there vs p.var p.width (told.0 e) in (there.0, there.1, sym there.2)),
  λ is. told.1 (width-there vs p.var is.0 is.1 ∙ ap (λ (w : Width). Some w) (sym is.2)),
)

-- a variable that is there stands where its width does
pub stands_there : (vs : List MapVariable) (s : Standing) (w : Width) (r : Bool)
    → Some w ≡ slice_get (widths vs) s.variable → Decides r (TakesWidth w s.place × IsPlace s.place)
    → Decides r (IsStanding vs s)
stands_there vs s w r is told =
    let there = variable-there vs s.variable w (sym is) in (
      λ e. (let takes = told.0 e in
          (there.0, there.1, subst (λ (u : Width). TakesWidth u s.place) (sym there.2) takes.0, takes.1)),
      λ stands.
          (let same : Some stands.0.width ≡ Some w = sym (width-there vs s.variable stands.0 stands.1) ∙ sym is in
          let equal : stands.0.width ≡ w = cc in
          told.1 (subst (λ (u : Width). TakesWidth u s.place) equal stands.2, stands.3)),
    )

-- one that isn't there stands nowhere
pub stands_nowhere : (vs : List MapVariable) (s : Standing) → None ≡ slice_get (widths vs) s.variable
    → Decides false (IsStanding vs s)
stands_nowhere vs s none = (
  λ e. absurd (true≢false (sym e)),
  λ stands.
      (let same : Some stands.0.width ≡ None = sym (width-there vs s.variable stands.0 stands.1) ∙ sym none in
      absurd cc),
)
