-- The name of an array as a value.
use Rattle.std.proofs.Common.{◌≡◌, ℕ, pos, List, [], ◌∷◌, ◌++◌, refl, sym, subst}
use Rattle.std.proofs.Common.{append-nil, append_assoc}
use Rattle.pcc_base.specs.Outcome.{ArrayName, Number}
use Rattle.c_tree.specs.declared.expression.ArrayRef.{ArrayRef}
use Rattle.c_tree.specs.declared.expression.ArrayRef.TheVariants as refs
use Rattle.c_tree.specs.declared.types.ValueType.TheVariants.{Pointer}
use Rattle.c_tree.specs.Store.{Gives, HoldsPointer, array_of}
use Rattle.flow_graph.specs.declared.op.Op.TheVariants as op
use Rattle.flow_graph.specs.States as graph
use Rattle.flow_graph.specs.States.{with_value}
use Rattle.lower_lines.specs.Expressions.{array_line, start_part}
use Rattle.lower_lines.specs.Following.{Begins, Comes, Follows, GivesOf, IsSite, Site, Stand, behind}
use Rattle.lower_lines.specs.Following.{context_of}
use Rattle.lower_lines.specs.Lines.{Line, Emit}
use Rattle.lower_lines.specs.Relation.{IsArrayOf, array_value}
use Rattle.lower_lines.specs.Variables.{Spot, levels_of, local_variables}
use Rattle.lower_lines.proofs.Changes.{kept-none}
use Rattle.lower_lines.proofs.Steps.{const-step, frame-step, static-step}
use Rattle.lower_laws.proofs.Atoms.{with-older}
use Rattle.lower_laws.proofs.Going.{Goes, stand-back, stand-front}
use Rattle.lower_laws.proofs.Naming.{names-alike}
use Rattle.lower_laws.specs.PlacesLaws.{named}
use Rattle.lower_laws.proofs.Making.{MayHold, pointer-made, put}
use Rattle.lower_laws.specs.PointersLaws.{StartsLower}
use Rattle.lower_laws.proofs.Levels.{level-below}

abbrev start_lines : ArrayRef → Spot → List Line
start_lines array to = array_line array to.array ∷ Emit (op.Const to.number (pos 0)) ∷ []

index-goes : (S : Site) (site : IsSite S) (before : List Line) (line : Line) (h : graph.State) (v turns : ℕ) (o : _)
    (level : ℕ) (to : Spot) → h.current.function ≡ S.number → MayHold S level to
    → Stand S before (line ∷ Emit (op.Const to.number (pos 0)) ∷ [])
    → Comes S turns (behind (before ++ line ∷ Emit (op.Const to.number (pos 0)) ∷ [])
    (with_value to.number (Number (pos 0)) h)) o → Comes S turns (behind (before ++ line ∷ []) h) o
index-goes S site before line h v turns o level to fits takes stands r =
    const-step S site (before ++ line ∷ []) h fits to.number (pos 0) turns o
    (stand-back S before (line ∷ []) (Emit (op.Const to.number (pos 0)) ∷ []) stands) takes.number
    (subst (λ (ls : List Line). Comes S turns (behind ls (with_value to.number (Number (pos 0)) h)) o)
    (sym (append_assoc before (line ∷ []) (Emit (op.Const to.number (pos 0)) ∷ []))) r)

start-goes : (S : Site) (site : IsSite S) (before : List Line) (g : graph.State) (array : ArrayRef) (turns level : ℕ)
    (to : Spot) → g.current.function ≡ S.number → MayHold S level to → Stand S before (start_lines array to)
    → Goes S turns (behind before g) turns (behind (before ++ start_lines array to) (put to (named g array) (pos 0) g))
    []
start-goes S site before g (refs.Static k) turns level to fits takes stands o r =
    static-step S site before g fits to.array k turns o
    (stand-front S before (Emit (op.Static to.array k) ∷ []) (Emit (op.Const to.number (pos 0)) ∷ []) stands)
    (index-goes S site before (Emit (op.Static to.array k))
    (with_value to.array (array_value (named g (refs.Static k))) g) 0 turns o level to fits takes stands r)
start-goes S site before g (refs.Frame k) turns level to fits takes stands o r =
    frame-step S site before g fits to.array k turns o
    (stand-front S before (Emit (op.Frame to.array k) ∷ []) (Emit (op.Const to.number (pos 0)) ∷ []) stands)
    (index-goes S site before (Emit (op.Frame to.array k))
    (with_value to.array (array_value (named g (refs.Frame k))) g) 0 turns o level to fits takes stands r)

pub starts-lower : StartsLower
starts-lower S site t array of = record {
  follows = λ active block level wanted before s g stands room may begins.
      with-older S.function active (λ calls. Begins S calls s g → Follows S calls before
      ((start_part (context_of S) t array).lines block level wanted) level wanted (Pointer t) s g
      (Gives (HoldsPointer (array_of s array) (pos 0)) s)) begins.youngest
      (λ older b.
      let (is, same) = names-alike S.program S.function older s g t array b.shows of in
      subst (λ (a : ArrayName). Follows S (S.function ∷ older) before
      ((start_part (context_of S) t array).lines block level wanted) level wanted (Pointer t) s g
      (Gives (HoldsPointer a (pos 0)) s)) (sym same)
      (pointer-made S site older level before s s g g t (named g array) (pos 0) [] (start_lines array)
      (level-below level (levels_of S.function) room) b.shows b.function
      (kept-none (local_variables S.function) level g) (sym (append-nil s.visits))
      (subst (λ (a : ArrayName). IsArrayOf S.program (S.function ∷ older) t a) same is)
      (λ to takes here. start-goes S site before g array s.turns level to b.function takes here) block wanted stands
      may)) begins;
  typed = λ active block level wanted before s g stands room may begins.
      with-older S.function active (λ calls. Begins S calls s g → GivesOf S.program calls (Pointer t)
      (Gives (HoldsPointer (array_of s array) (pos 0)) s)) begins.youngest
      (λ older b. (names-alike S.program S.function older s g t array b.shows of).0) begins;
  simple = λ e active s g begins. refl;
  stands = λ spot e. absurd (cc);
}
