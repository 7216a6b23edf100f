-- Arrays that a function names: their names are the same on both sides, and they become zero on both.
use Rattle.std.proofs.Common.{◌≡◌, ◌≢◌, ℕ, suc, Bool, ℤ, pos, List, ◌∷◌, length, Option, Some, None}
use Rattle.std.proofs.Common.{refl, sym, ap, ◌∙◌, subst, eq-eqb}
use Rattle.std.proofs.lemmas.List.{length-replicate, length-map}
use Rattle.std.specs.Prelude.{slice_get, replicate, IsSomeAnd, if◌then◌else◌, option_map}
use Rattle.std.proofs.lemmas.Option.{same_Some}
use Rattle.pcc_base.specs.Outcome.{ArrayName, Null, InFrame}
use Rattle.c_tree.specs.declared.expression.ArrayRef.{ArrayRef}
use Rattle.c_tree.specs.declared.expression.ArrayRef.TheVariants as refs
use Rattle.c_tree.specs.declared.types.IntegerType.{IntegerType}
use Rattle.c_tree.specs.Evaluation.{own_array, zeroed}
use Rattle.c_tree.specs.Program.{Function, Program}
use Rattle.c_tree.specs.Sizes.{bytes_of}
use Rattle.c_tree.specs.Store as source
use Rattle.c_tree.specs.Store.{array_named, array_of}
use Rattle.c_tree.specs.WellTyped.{IsArray}
use Rattle.flow_graph.specs.States as graph
use Rattle.flow_graph.specs.States.{Elements, active_of, depth_of, elements_in, elements_of, elements_with, flow_at}
use Rattle.flow_graph.specs.States.{waiting_place}
use Rattle.lower_lines.specs.Programs.{lowered}
use Rattle.lower_lines.specs.Relation.{IsArrayOf, Shows, function_of_depth}
use Rattle.lower_lines.proofs.Arrays.{arrays-set, arrays-there, as-many, zeros-fit}
use Rattle.lower_laws.specs.PlacesLaws.{ArraysAreCleared, NamesAreAlike}

depths-same : (p : Program) (active : List Function) (s : source.State) (g : graph.State) → Shows p active s g
    → length s.active ≡ depth_of g
depths-same p active s g shows =
    sym (as-many p active s.active (active_of g) shows.calls).1
    ∙ ap suc (length-map g.waiting (λ (w : graph.Waiting). w.activation))

name-is : (p : Program) (f : Function) (older : List Function) (s : source.State) (g : graph.State)
    (t : IntegerType) (array : ArrayRef) → Shows p (f ∷ older) s g → IsArray p f array t
    → IsArrayOf p (f ∷ older) t (array_of s array)
name-is p f older s g t (refs.Static k) shows is = is
name-is p f older s g t (refs.Frame k) shows is =
    let many : suc (length older) ≡ length s.active = (as-many p (f ∷ older) s.active (active_of g) shows.calls).0 in
    subst (λ (b : Bool). IsSomeAnd (if b then Some f else function_of_depth older (length s.active))
    (λ h. IsSomeAnd (slice_get h.arrays k) (λ a. a.element ≡ t)))
    (sym (eq-eqb (length s.active) (suc (length older)) (sym many))) is

pub names-alike : NamesAreAlike
names-alike p f older s g t (refs.Static k) shows is = (name-is p f older s g t (refs.Static k) shows is, refl)
names-alike p f older s g t (refs.Frame k) shows is = (
  name-is p f older s g t (refs.Frame k) shows is,
  ap (InFrame k) (depths-same p (f ∷ older) s g shows),
)

-- the elements that are there
elements-are : (w : Option ℕ) (x : Option (List ℤ)) (n : ℕ) (xs : List ℤ) → elements_with w x ≡ Some (n, xs)
    → x ≡ Some xs
elements-are None x n xs e = absurd (cc)
elements-are (Some m) None n xs e = absurd (cc)
elements-are (Some m) (Some ys) n xs e = ap (λ (y : Elements). Some y.1) (same_Some (m, ys) (n, xs) e)

frame-not-null : (k depth : ℕ) → InFrame k depth ≢ Null
frame-not-null k depth e = cc

pub arrays-cleared : ArraysAreCleared
arrays-cleared p f older s g k t shows is =
    let depth = depths-same p (f ∷ older) s g shows in
    let array : own_array s k ≡ InFrame k (depth_of g) = ap (InFrame k) depth in
    let of = name-is p f older s g t (refs.Frame k) shows is in
    let there : elements_of (lowered p) g (InFrame k (depth_of g))
    ≡ Some (bytes_of t, array_named s (own_array s k)) =
    ap (elements_of (lowered p) g) (sym array)
    ∙ arrays-there p (f ∷ older) s g t (own_array s k) shows of (frame-not-null k (length s.active)) in
    let mine : elements_in (lowered p) k (Some g.current) ≡ Some (bytes_of t, array_named s (own_array s k)) =
    subst (λ (b : Bool). elements_in (lowered p) k (if b then Some g.current
    else option_map (λ (w : graph.Waiting). w.activation) (slice_get g.waiting (waiting_place g (depth_of g))))
    ≡ Some (bytes_of t, array_named s (own_array s k))) (eq-eqb (depth_of g) (depth_of g) refl) there in (
      elements-are (option_map (λ (x : ℕ × ℕ). x.0) (slice_get (flow_at (lowered p) g.current.function).arrays k))
          (slice_get g.current.arrays k) (bytes_of t) (array_named s (own_array s k)) mine,
      subst (λ (a : ArrayName). Shows p (f ∷ older)
          (source.with_array (own_array s k) (zeroed (array_named s (own_array s k))) s)
          (graph.with_array a (replicate (length (array_named s (own_array s k))) (pos 0)) g)) array
          (arrays-set p (f ∷ older) s g t (own_array s k) (zeroed (array_named s (own_array s k))) shows of
          (length-replicate (length (array_named s (own_array s k))) (pos 0))
          (zeros-fit t (length (array_named s (own_array s k))))),
    )
