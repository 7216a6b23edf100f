-- Elements of arrays and static objects that are read.
use Rattle.std.proofs.Common.{◌≡◌, ◌≢◌, ℕ, zero, suc, ◌+◌, ◌<◌, ◌≤◌, true, ℤ, List, [], ◌∷◌, ◌++◌}
use Rattle.std.proofs.Common.{length, map, Option, Some, None, refl, sym, ap, ◌∙◌, subst, arith, append-nil}
use Rattle.std.specs.Prelude.{slice_get, slice_index_or, IsSomeAnd}
use Rattle.std.proofs.lemmas.Option.{same_Some}
use Rattle.pcc_base.specs.declared.run.Trap.TheVariants.{Check}
use Rattle.pcc_base.specs.Outcome.{ArrayName, Null, Static, Trapped, Visit}
use Rattle.c_tree.specs.declared.types.IntegerType.{IntegerType}
use Rattle.c_tree.specs.declared.types.ValueType.{ValueType}
use Rattle.c_tree.specs.declared.types.ValueType.TheVariants.{Void, Integer, Pointer}
use Rattle.c_tree.specs.Evaluation as evaluation
use Rattle.c_tree.specs.Evaluation.{Found, InLocal, InObject, AtIndex, element_read, evaluate, load, locate}
use Rattle.c_tree.specs.Evaluation.{type_of}
use Rattle.c_tree.specs.Program.{Function, Local, StaticObject, Target}
use Rattle.c_tree.specs.Store as source
use Rattle.c_tree.specs.Store.{Evaluated, Gives, Ends, Held, HoldsNumber, HoldsPointer, and_then, array_named, held}
use Rattle.flow_graph.specs.declared.op.Op.TheVariants as op
use Rattle.flow_graph.specs.Running.{outcome_at}
use Rattle.flow_graph.specs.States as graph
use Rattle.lower_lines.specs.Expressions.{AtAddress, object_part, part_of, read_part, target_of}
use Rattle.lower_lines.specs.Following.{Begins, Comes, EndsSo, Follows, FollowsPlace, GivesAlone, GivesOf, GoesInto}
use Rattle.lower_lines.specs.Following.{IsSite, Lowers, MayWant, Site, Stand, behind, context_of}
use Rattle.lower_lines.specs.Lines.{Line, Emit, open_after, ops_in}
use Rattle.lower_lines.specs.Parts.{Wanted, Own, Part, bits_of, if_stays, made, operand, standing, target}
use Rattle.lower_lines.specs.Parts.{tested}
use Rattle.lower_lines.specs.Relation.{HoldsAt, IsOf, Keeps, Shows}
use Rattle.lower_lines.specs.Shown.{first_variable}
use Rattle.lower_lines.specs.Variables.{Spot, levels_of, local_variables, own, typed_spot}
use Rattle.lower_lines.proofs.Arrays.{arrays-reached}
use Rattle.lower_lines.proofs.Changes.{kept-none, locals-held, turns-free}
use Rattle.lower_lines.proofs.Steps.{get-step}
use Rattle.lower_laws.proofs.Atoms.{with-older}
use Rattle.lower_laws.proofs.Binary.{Fits, compound-lowers}
use Rattle.lower_laws.proofs.Going.{Goes, goes-end, stand-back, stand-front}
use Rattle.lower_laws.proofs.Levels.{levels-one, levels-below, level-below}
use Rattle.lower_laws.proofs.Made.{number-made, some-and}
use Rattle.lower_laws.proofs.Unary.{follows-behind}
use Rattle.lower_laws.proofs.Accesses.{element-loads, load-trapped}
use Rattle.lower_laws.specs.PlacesLaws.{ElementsAreRead, ObjectsAreRead, TargetsAreRead, TargetsFollow}
pub use Rattle.lower_laws.proofs.Pairs.{from-stays as some-if}

-- a trap of the graphs is one of the source
pub trap-ends : (S : Site) (active : List Function) (u : source.State) (h : graph.State) (before : List Line)
    → Shows S.program active u h → Comes S u.turns (behind before h) (outcome_at h (Trapped Check))
    → EndsSo S (Trapped Check) u u (behind before h)
trap-ends S active u h before shows comes = (
  [],
  sym (append-nil u.visits),
  subst (λ (n : ℕ). Comes S u.turns (behind before h) (record {
    visits = [];
    taken = n;
    written = u.written;
    end = Trapped Check;
  })) shows.taken
      (subst (λ (bytes : List ℕ). Comes S u.turns (behind before h) (record {
        visits = [];
        taken = h.taken;
        written = bytes;
        end = Trapped Check;
      })) shows.written comes),
)

-- ---- elements

-- the op behind an address
abbrev loading : Site → IntegerType → ℕ → ℕ → Wanted → Spot → List Line
loading S t block level wanted spot = made (context_of S) block level wanted (Integer t)
    (λ to. Emit (op.Load (bits_of t) to.number spot.array spot.number) ∷ [])

read-fits : (S : Site) (site : IsSite S) (older : List Function) (t : IntegerType) (before xs : List Line)
    (block level : ℕ) (wanted : Wanted) (spot : Spot) (s u : source.State) (g h : graph.State) (us : List Visit)
    (array : ArrayName) (index : ℤ) (element : Option ℤ) → source.element_at (array_named u array) index ≡ element
    → Stand S before (xs ++ loading S t block level wanted spot) → level < levels_of S.function
    → MayWant S wanted (Integer t) → Begins S (S.function ∷ older) s g
    → Shows S.program (S.function ∷ older) u h → Keeps (local_variables S.function) level g h
    → HoldsAt h.current.variables (Pointer t) spot (HoldsPointer array index)
    → IsOf S.program (S.function ∷ older) (Pointer t) (HoldsPointer array index) → u.visits ≡ s.visits ++ us
    → Goes S s.turns (behind before g) u.turns (behind (before ++ xs) h) us
    → Fits S (S.function ∷ older) before (xs ++ loading S t block level wanted spot) level wanted (Integer t) s g
    (element_read u element)
read-fits S site older t before xs block level wanted spot s u g h us array index None there stands room may b shows
    keeps holds is seen goes =
    let fits : h.current.function ≡ S.number = keeps.function ∙ b.function in
    let d = (target (context_of S) level wanted).number in (
      goes-end S (Trapped Check) s u u (behind before g) (behind (before ++ xs) h) us seen goes
          (trap-ends S (S.function ∷ older) u h (before ++ xs) shows
          (load-trapped S site older t (before ++ xs) u h fits shows array index spot holds is d there
          (stand-front S (before ++ xs) (Emit (op.Load (bits_of t) d spot.array spot.number) ∷ [])
          (tested (context_of S) block level wanted (Integer t)) (stand-back S before xs (loading S t block level
          wanted spot) stands)))),
      tt,
    )
read-fits S site older t before xs block level wanted spot s u g h us array index (Some n) there stands room may b shows
    keeps holds is seen goes =
    let fits : h.current.function ≡ S.number = keeps.function ∙ b.function in (
      follows-behind S (S.function ∷ older) before xs (loading S t block level wanted spot) level wanted (Integer t) s u
          g h us (Gives (HoldsNumber n) u) keeps seen goes
          (number-made S site older level (before ++ xs) u u h h n []
          (λ to. Emit (op.Load (bits_of t) to.number spot.array spot.number) ∷ []) room shows fits
          (kept-none (local_variables S.function) level h) (sym (append-nil u.visits))
          (λ to takes here o r. element-loads S site older t (before ++ xs) u h fits shows array index spot holds is n
          to.number o there here r) block wanted t
          (stand-back S before xs (loading S t block level wanted spot) stands) may),
      tt,
    )

place-fits : (S : Site) (site : IsSite S) (older : List Function) (t : IntegerType) (before xs : List Line)
    (block level : ℕ) (wanted : Wanted) (spot : Spot) (s : source.State) (g : graph.State) (r : Evaluated Found)
    → Stand S before (xs ++ loading S t block level wanted spot) → level < levels_of S.function
    → MayWant S wanted (Integer t) → Begins S (S.function ∷ older) s g
    → FollowsPlace S (S.function ∷ older) before xs level t spot s g r
    → Fits S (S.function ∷ older) before (xs ++ loading S t block level wanted spot) level wanted (Integer t) s g
    (and_then r load)
place-fits S site older t before xs block level wanted spot s g (Ends end u) stands room may b ends = (ends, tt)
place-fits S site older t before xs block level wanted spot s g (Gives (InLocal k) u) stands room may b h = absurd h
place-fits S site older t before xs block level wanted spot s g (Gives (InObject k) u) stands room may b h = absurd h
place-fits S site older t before xs block level wanted spot s g (Gives (AtIndex array index) u) stands room may b
    (h, us, shows, keeps, holds, is, seen, goes) =
    read-fits S site older t before xs block level wanted spot s u g h us array index
    (source.element_at (array_named u array) index) refl stands room may b shows keeps holds is seen goes

pub elements-read : ElementsAreRead
elements-read S site t a run follows one =
    compound-lowers S (read_part (context_of S) (Integer t) (AtAddress t a)) _ refl refl
    (λ older block level wanted before s g stands room may b.
    place-fits S site older t before (a.lines true block level) (block + a.blocks) level wanted (a.spot true level) s g
    (run s) stands (levels-below level a.levels (levels_of S.function) room one) may b
    (follows (S.function ∷ older) true block level before s g
    (stand-front S before (a.lines true block level) _ stands) room b))

-- ---- what a pointer goes to

-- a pointer in its own temporaries
own-pointer : (S : Site) (active : List Function) (before lines : List Line) (level : ℕ) (t : IntegerType)
    (s : source.State) (g : graph.State) (r : Evaluated Held) → Follows S active before lines level Own (Pointer t) s
    g r
    → GivesOf S.program active (Pointer t) r
    → FollowsPlace S active before lines level t (own (context_of S) level) s g
    (and_then r (λ v u. Gives (evaluation.target_of v) u))
own-pointer S active before lines level t s g (Ends end u) ends typed = ends
own-pointer S active before lines level t s g (Gives (HoldsNumber n) u) follows typed = absurd typed
own-pointer S active before lines level t s g (Gives (HoldsPointer array index) u)
    (h, us, shows, keeps, holds, seen, goes) typed =
    (h, us, shows, keeps, holds, typed, seen, goes)

-- a pointer where a local has it
local-pointer : (S : Site) (older : List Function) (before : List Line) (level : ℕ) (t : IntegerType) (spot : Spot)
    (s : source.State) (g : graph.State) (v : Held) → Shows S.program (S.function ∷ older) s g
    → HoldsAt g.current.variables (Pointer t) spot v → IsOf S.program (S.function ∷ older) (Pointer t) v
    → FollowsPlace S (S.function ∷ older) before [] level t spot s g (Gives (evaluation.target_of v) s)
local-pointer S older before level t spot s g (HoldsNumber n) shows holds is = absurd holds
local-pointer S older before level t spot s g (HoldsPointer array index) shows holds is = (
  g,
  [],
  shows,
  kept-none (local_variables S.function) level g,
  holds,
  is,
  sym (append-nil s.visits),
  λ o r. subst (λ (ls : List Line). Comes S s.turns (behind ls g) o) (append-nil before) r,
)

pointer-not-void : (t : IntegerType) → Pointer t ≢ Void
pointer-not-void t e = cc

-- either way
pub standing-pointer : (S : Site) (older : List Function) (a : Part) (run : source.State → Evaluated Held)
    (t : IntegerType) (where_it_is : Option Spot) → ((p : Spot) → where_it_is ≡ Some p → a.stands ≡ Some p)
    → Lowers S a run → a.of ≡ Pointer t → (block level : ℕ) (before : List Line) (s : source.State) (g : graph.State)
    → Stand S before ((standing (context_of S) a where_it_is).lines block level)
    → level + a.levels ≤ levels_of S.function → Begins S (S.function ∷ older) s g
    → FollowsPlace S (S.function ∷ older) before ((standing (context_of S) a where_it_is).lines block level) level t
    ((standing (context_of S) a where_it_is).spot level) s g
    (and_then (run s) (λ v u. Gives (evaluation.target_of v) u))
standing-pointer S older a run t None from lowers of block level before s g stands room b =
    let may : a.of ≢ Void = subst (λ (m : ValueType). m ≢ Void) (sym of) (pointer-not-void t) in
    own-pointer S (S.function ∷ older) before (a.lines block level Own) level t s g (run s)
    (subst (λ (m : ValueType). Follows S (S.function ∷ older) before (a.lines block level Own) level Own m s g (run s))
    of (lowers.follows (S.function ∷ older) block level Own before s g stands room may b))
    (subst (λ (m : ValueType). GivesOf S.program (S.function ∷ older) m (run s)) of
    (lowers.typed (S.function ∷ older) block level Own before s g stands room may b))
standing-pointer S older a run t (Some p) from lowers of block level before s g stands room b =
    let (k, is, there, gives) = lowers.stands p (from p refl) in
    let (l, e, same) = some-and (slice_get S.function.locals k) (λ m. (m.of ≡ a.of) × GoesInto a.of m.of) there in
    let v = first_variable S.function.locals k in
    let kind : l.of ≡ Pointer t = same.0 ∙ of in
    let at = locals-held S.program S.function older s g k l b.shows e in
    let spot : p ≡ typed_spot (Pointer t) v = is ∙ ap (λ (o : Option Local). typed_spot (type_of o) v) e
    ∙ ap (λ (m : ValueType). typed_spot m v) kind in
    subst (λ (r : Evaluated Held). FollowsPlace S (S.function ∷ older) before [] level t p s g
    (and_then r (λ x u. Gives (evaluation.target_of x) u))) (sym (gives s))
    (subst (λ (q : Spot). FollowsPlace S (S.function ∷ older) before [] level t q s g
    (Gives (evaluation.target_of (held s k)) s)) (sym spot)
    (local-pointer S older before level t (typed_spot (Pointer t) v) s g (held s k) b.shows
    (subst (λ (m : ValueType). HoldsAt g.current.variables m (typed_spot m v) (held s k)) kind at.0)
    (subst (λ (m : ValueType). IsOf S.program (S.function ∷ older) m (held s k)) kind at.1)))

pub targets-follow : TargetsFollow
targets-follow S site e t lowers of active stays block level before s g stands room begins =
    with-older S.function active (λ calls. Begins S calls s g → FollowsPlace S calls before
    ((operand (context_of S) stays (part_of (context_of S) e)).lines block level) level t
    ((operand (context_of S) stays (part_of (context_of S) e)).spot level) s g (locate S.calls (Target t e) s))
    begins.youngest
    (λ older b. standing-pointer S older (part_of (context_of S) e) (evaluate S.calls e) t
    (if_stays stays (part_of (context_of S) e).stands)
    (λ p is. some-if stays (part_of (context_of S) e).stands p is) lowers of block level before s g stands room b)
    begins

pub targets-read : TargetsAreRead
targets-read S site e t lowers of =
    elements-read S site t (target_of (context_of S) (part_of (context_of S) e)) (locate S.calls (Target t e))
    (targets-follow S site e t lowers of) (levels-one (context_of S) e)

-- ---- static objects

-- an object of one element has it
one-element : (xss : List (List ℤ)) (os : List StaticObject) (k : ℕ) (o : StaticObject)
    → map (λ (xs : List ℤ). length xs) xss ≡ map (λ (x : StaticObject). length x.elements) os
    → slice_get os k ≡ Some o → length o.elements ≡ 1
    → (n : ℤ) × (slice_get (slice_index_or xss k []) 0 ≡ Some n)
one-element xss [] k o e is one = absurd (cc)
one-element [] (x ∷ os) k o e is one = absurd (cc)
one-element ([] ∷ xss) (x ∷ os) zero o e is one =
    let same : length x.elements ≡ length o.elements = ap (λ (y : StaticObject). length y.elements) (same_Some x o is)
    in
    absurd (no-length (length x.elements) (map (λ (xs : List ℤ). length xs) xss)
    (map (λ (y : StaticObject). length y.elements) os) e (same ∙ one))
  where
    no-length : (n : ℕ) (ms ns : List ℕ) → 0 ∷ ms ≡ n ∷ ns → n ≡ 1 → ⊥
    no-length n ms ns e one = let z : 0 ≡ n = cc in omega (arith, z, one)
one-element ((n ∷ ns) ∷ xss) (x ∷ os) zero o e is one = (n, refl)
one-element (xs ∷ xss) (x ∷ os) (suc k) o e is one =
    one-element xss os k o (rest (length xs) (length x.elements) (map (λ (ys : List ℤ). length ys) xss)
    (map (λ (y : StaticObject). length y.elements) os) e) is one
  where
    rest : (m n : ℕ) (ms ns : List ℕ) → m ∷ ms ≡ n ∷ ns → ms ≡ ns
    rest m n ms ns e = cc

pub object-read : (S : Site) (older : List Function) (k : ℕ) (o : StaticObject) (s : source.State) (g : graph.State)
    → slice_get S.program.objects k ≡ Some o → length o.elements ≡ 1 → Shows S.program (S.function ∷ older) s g
    → (n : ℤ) × (slice_get (array_named s (Static k)) 0 ≡ Some n)
object-read S older k o s g e one shows = one-element s.objects S.program.objects k o shows.counts e one

object-fits : (S : Site) (site : IsSite S) (older : List Function) (k : ℕ) (o : StaticObject)
    → slice_get S.program.objects k ≡ Some o → length o.elements ≡ 1 → (block level : ℕ) (wanted : Wanted)
    (before : List Line) (s : source.State) (g : graph.State)
    → Stand S before ((object_part (context_of S) o.element k).lines block level wanted)
    → level < levels_of S.function → MayWant S wanted (Integer o.element) → Begins S (S.function ∷ older) s g
    → Fits S (S.function ∷ older) before ((object_part (context_of S) o.element k).lines block level wanted) level
    wanted (Integer o.element) s g (load (InObject k) s)
object-fits S site older k o e one block level wanted before s g stands room may b =
    let (n, there) = object-read S older k o s g e one b.shows in
    let is : IsSomeAnd (slice_get S.program.objects k) (λ x. x.element ≡ o.element) =
    subst (λ (x : Option StaticObject). IsSomeAnd x (λ y. y.element ≡ o.element)) (sym e) refl in
    subst (λ (m : Option ℤ). Fits S (S.function ∷ older) before
    ((object_part (context_of S) o.element k).lines block level wanted) level wanted (Integer o.element) s g
    (element_read s m)) (sym there) (
      number-made S site older level before s s g g n []
          (λ to. Emit (op.Get (bits_of o.element) to.number k) ∷ []) room b.shows b.function
          (kept-none (local_variables S.function) level g) (sym (append-nil s.visits))
          (λ to takes here outcome r. get-step S site before g b.function (bits_of o.element) to.number k s.turns n
          (array_named s (Static k)) outcome here
          (λ go. arrays-reached S.program (S.function ∷ older) s (behind before g) o.element (Static k)
          (turns-free S.program (S.function ∷ older) s g s.turns s.visits (open_after 0 before)
          (length (ops_in before)) b.shows) is (λ null. static-null k null) go) there r) block wanted o.element stands
          may,
      tt,
    )
  where
    static-null : (j : ℕ) → Static j ≢ Null
    static-null j e = cc

object-alone : (S : Site) (older : List Function) (k : ℕ) (o : StaticObject) (s : source.State) (g : graph.State)
    → slice_get S.program.objects k ≡ Some o → length o.elements ≡ 1 → Begins S (S.function ∷ older) s g
    → GivesAlone s (load (InObject k) s)
object-alone S older k o s g e one b =
    let (n, there) = object-read S older k o s g e one b.shows in
    subst (λ (m : Option ℤ). GivesAlone s (element_read s m)) (sym there) refl

pub objects-read : ObjectsAreRead
objects-read S site k o e one = record {
  follows = λ active block level wanted before s g stands room may begins.
      with-older S.function active (λ calls. Begins S calls s g → Follows S calls before
      ((object_part (context_of S) o.element k).lines block level wanted) level wanted (Integer o.element) s g
      (load (InObject k) s)) begins.youngest
      (λ older b. (object-fits S site older k o e one block level wanted before s g stands
      (level-below level (levels_of S.function) room) may b).0) begins;
  typed = λ active block level wanted before s g stands room may begins.
      with-older S.function active (λ calls. Begins S calls s g → GivesOf S.program calls (Integer o.element)
      (load (InObject k) s)) begins.youngest
      (λ older b. (object-fits S site older k o e one block level wanted before s g stands
      (level-below level (levels_of S.function) room) may b).1) begins;
  simple = λ same active s g begins.
      with-older S.function active (λ calls. Begins S calls s g → GivesAlone s (load (InObject k) s)) begins.youngest
      (λ older b. object-alone S older k o s g e one b) begins;
  stands = λ spot same. absurd (cc);
}
