-- Declared scalars, and items in order.
use Rattle.std.proofs.Common.{◌≡◌, ℕ, zero, suc, ◌≤◌, ◌<◌, ◌+◌, List, [], ◌∷◌, ◌++◌, length, refl, sym, ap, ◌∙◌}
use Rattle.std.proofs.Common.{subst, arith, append_assoc, append-nil, Option, Some, None, ℤ, pos}
use Rattle.std.specs.Prelude.{max, slice_get, slice_set}
use Rattle.std.specs.Int.{w8}
use Rattle.std.proofs.lemmas.Int.{int_wrap_fits}
use Rattle.pcc_base.specs.Outcome.{Number, Null, Outcome}
use Rattle.pcc_base.specs.declared.run.Width.{Width}
use Rattle.pcc_base.specs.declared.run.Width.TheVariants.{One, Two}
use Rattle.c_eval_laws.proofs.After.{local-follows}
use Rattle.c_eval_laws.proofs.Keeping.{gives-keeps}
use Rattle.c_tree.specs.declared.types.IntegerType.TheVariants.{Char, Short, Int, UnsignedInt}
use Rattle.c_tree.specs.declared.types.ValueType.{ValueType}
use Rattle.c_tree.specs.declared.types.ValueType.TheVariants.{Void, Integer, Pointer}
use Rattle.c_tree.specs.Evaluation.{type_at, type_of}
use Rattle.c_tree.specs.Program.{Function, Local}
use Rattle.c_tree.specs.Store as source
use Rattle.c_tree.specs.Store.{Evaluated, Gives, Ends, Held, and_then, in_type, visited, with_local, with_youngest}
use Rattle.c_tree.specs.Store.{youngest, zero_of}
use Rattle.c_tree.specs.WellTyped.{IsScalar}
use Rattle.flow_graph.specs.declared.op.Op.TheVariants as op
use Rattle.flow_graph.specs.Meaning.{sets}
use Rattle.flow_graph.specs.States as graph
use Rattle.flow_graph.specs.States.{fitted, width_of, with_value}
use Rattle.lower_lines.specs.Following.{Begins, Comes, IsSite, Lowers, Site, Stand, behind, context_of, graphs_of}
use Rattle.lower_lines.specs.Lines.{Line, Emit}
use Rattle.lower_lines.specs.Parts.{Dropped, Part}
use Rattle.lower_lines.specs.Relation.{Shows}
use Rattle.lower_lines.specs.Shown.{first_variable, type_widths}
use Rattle.lower_lines.specs.Statements.{zeroed_by, zeroing}
use Rattle.lower_lines.specs.Variables.{levels_of, local_variables, typed_spot}
use Rattle.lower_lines.proofs.Changes.{kept-by-change, kept-twice, numbers-set, pointers-set}
use Rattle.lower_lines.proofs.Locals.{local-within}
use Rattle.lower_lines.proofs.Steps.{sets-step}
use Rattle.lower_laws.proofs.Atoms.{with-older}
use Rattle.lower_laws.proofs.Going.{stand-back, stand-front}
use Rattle.lower_laws.proofs.Straight.{behind-same, dropped-lowers, marked-lowers}
use Rattle.lower_laws.proofs.Ways.{from-both, from-here}
use Rattle.lower_laws.specs.Laws.{ItemsLower, NoItemsLower, PlainScalarsLower, ScalarsLower, SteadyScalarsLower}
use Rattle.lower_laws.specs.Laws.{initialised}
use Rattle.lower_laws.specs.Ways.{Behind, From, Keeping, LowersLines}

-- a variable of any width takes 0
zero-fits : (w : Option Width) → fitted w (pos 0) ≡ pos 0
zero-fits None = refl
zero-fits (Some One) = int_wrap_fits w8 (pos 0) (record { sfits = omega arith })
zero-fits (Some Two) = refl

zero-step : (S : Site) → IsSite S → (before rest : List Line) (g : graph.State) (d turns : ℕ) (o : Outcome)
    → g.current.function ≡ S.number → Stand S before (Emit (op.Const d (pos 0)) ∷ rest)
    → Comes S turns (behind (before ++ Emit (op.Const d (pos 0)) ∷ []) (with_value d (Number (pos 0)) g)) o
    → Comes S turns (behind before g) o
zero-step S site before rest g d turns o own stands r =
    sets-step S site before g own (op.Const d (pos 0)) d (Number (pos 0)) turns o
    (stand-front S before (Emit (op.Const d (pos 0)) ∷ []) rest stands) refl refl refl
    (ap (λ (n : ℤ). sets (graphs_of S) (behind before g) d (Number n))
    (zero-fits (width_of (graphs_of S) (behind before g) d))) r

-- a local becomes 0 or null, by its type
zero-goes : (S : Site) → IsSite S → (local : ℕ) (l : Local) → slice_get S.function.locals local ≡ Some l
    → (of : ValueType) → l.of ≡ of → IsScalar of → (active : List Function) (before : List Line) (s : source.State)
    (g : graph.State) → Begins S active s g
    → Stand S before (zeroed_by of (typed_spot of (first_variable S.function.locals local)))
    → From S active 0 (behind before g) s g
    (Behind S (before ++ zeroed_by of (typed_spot of (first_variable S.function.locals local))))
    (Gives (tt {0}) (with_local local (zero_of of) s))
zero-goes S site local l e Void is scalar active before s g b stands = absurd scalar
zero-goes S site local l e (Integer t) is scalar active before s g b stands =
    let v = first_variable S.function.locals local in
    let within = local-within S.function.locals local l e in
    let wide : 1 ≤ length (type_widths l.of) = subst (λ (m : ValueType). 1 ≤ length (type_widths m)) (sym is)
    (one-wide t) in
    let below : v < local_variables S.function = omega (arith, within, wide) in (
      with_value v (Number (pos 0)) g,
      [],
      with-older S.function active (λ calls. Shows S.program calls s g
          → Shows S.program calls (with_local local (zero_of (Integer t)) s) (with_value v (Number (pos 0)) g))
          b.youngest
          (λ older shows. numbers-set S.program S.function older s g local l t (pos 0) shows e is) b.shows,
      (kept-by-change (local_variables S.function) 0 v (Number (pos 0)) g).0 below,
      sym (append-nil s.visits),
      λ o r. zero-step S site before [] g v s.turns o b.function stands r,
    )
  where
    one-wide : (t : _) → 1 ≤ length (type_widths (Integer t))
    one-wide Char = omega arith
    one-wide Short = omega arith
    one-wide Int = omega arith
    one-wide UnsignedInt = omega arith
zero-goes S site local l e (Pointer t) is scalar active before s g b stands =
    let v = first_variable S.function.locals local in
    let h = with_value v (Number (pos 0)) g in
    let set = Emit (op.Const v (pos 0)) in
    let more = Emit (op.Const (suc v) (pos 0)) in
    let within = local-within S.function.locals local l e in
    let wide : length (type_widths l.of) ≡ 2 = ap (λ (m : ValueType). length (type_widths m)) is in
    let below : suc v < local_variables S.function = omega (arith, within, wide) in
    let first : v < local_variables S.function = omega (arith, below) in (
      with_value (suc v) (Number (pos 0)) h,
      [],
      with-older S.function active (λ calls. Shows S.program calls s g
          → Shows S.program calls (with_local local (zero_of (Pointer t)) s) (with_value (suc v) (Number (pos 0)) h))
          b.youngest
          (λ older shows. pointers-set S.program S.function older s g local l t Null (pos 0) shows e is tt) b.shows,
      kept-twice (local_variables S.function) 0 g h (with_value (suc v) (Number (pos 0)) h)
          ((kept-by-change (local_variables S.function) 0 v (Number (pos 0)) g).0 first)
          ((kept-by-change (local_variables S.function) 0 (suc v) (Number (pos 0)) h).0 below),
      sym (append-nil s.visits),
      λ o r. zero-step S site before (more ∷ []) g v s.turns o b.function stands
          (zero-step S site (before ++ set ∷ []) [] h (suc v) s.turns o b.function
          (stand-back S before (set ∷ []) (more ∷ []) stands)
          (subst (λ (ls : List Line). Comes S s.turns (behind ls (with_value (suc v) (Number (pos 0)) h)) o)
          (sym (append_assoc before (set ∷ []) (more ∷ []))) r)),
    )

zeroing-lowers : (S : Site) → IsSite S → (local : ℕ) (l : Local) → slice_get S.function.locals local ≡ Some l
    → IsScalar l.of → LowersLines S 0 (λ block. zeroing (context_of S) local)
    (λ s. Gives (tt {0}) (with_local local (zero_of (type_at S.function local)) s))
zeroing-lowers S site local l e scalar = record {
  follows = λ active block before s g stands room b.
      let v = first_variable S.function.locals local in
      let of : type_at S.function local ≡ l.of = ap type_of e in
      subst (λ (m : ValueType). Stand S before (zeroed_by m (typed_spot m v))
      → From S active 0 (behind before g) s g (Behind S (before ++ zeroed_by m (typed_spot m v)))
      (Gives (tt {0}) (with_local local (zero_of m) s))) (sym of)
      (λ there. zero-goes S site local l e l.of refl scalar active before s g b there) stands;
}

pub plain-scalars-lower : PlainScalarsLower
plain-scalars-lower S site n local l own e scalar =
    marked-lowers S site n 0 (λ block. zeroing (context_of S) local)
    (λ s. Gives (tt {0}) (with_local local (zero_of (type_at S.function local)) s)) own
    (zeroing-lowers S site local l e scalar)

-- ---- one after another

pub items-lower : ItemsLower
items-lower S levels more blocks lines others run rest lowers keeping lowers_rest = record {
  follows = λ active block before s g stands room b.
      let xs = lines block in
      let ys = others (block + blocks) in
      behind-same S active ((before ++ xs) ++ ys) (before ++ (xs ++ ys)) (behind before g) s g
      (and_then (run s) (λ done t. rest t)) (append_assoc before xs ys)
      (from-both S active 0 (behind before g) s g (Behind S (before ++ xs)) (Behind S ((before ++ xs) ++ ys)) (run s)
      (λ done t. rest t) b (keeping s).after.turns
      (lowers.follows active block before s g (stand-front S before xs ys stands)
      (one levels more (levels_of S.function) room) b)
      (λ done t h bt kept. (
        behind (before ++ xs) h,
        λ o k. k,
        lowers_rest.follows active (block + blocks) (before ++ xs) t h (stand-back S before xs ys stands)
            (other levels more (levels_of S.function) room) bt,
      )));
}
  where
    one : (a b n : ℕ) → max a b ≤ n → a ≤ n
    one a b n h = omega (arith, h)

    other : (a b n : ℕ) → max a b ≤ n → b ≤ n
    other a b n h = omega (arith, h)

pub no-items-lower : NoItemsLower
no-items-lower S = record {
  follows = λ active block before s g stands room b.
      from-here S active 0 (behind before g) s g (Behind S (before ++ [])) (tt {0}) b.shows
      (λ o r. subst (λ (ls : List Line). Comes S s.turns (behind ls g) o) (append-nil before) r);
}

-- ---- initialisers

-- the assignment, whose value is dropped
assigned-lowers : (S : Site) (local levels : ℕ) (a : Part) (run : source.State → Evaluated Held) → a.levels ≤ levels
    → Lowers S a (initialised S local run) → LowersLines S levels (λ block. a.lines block 0 Dropped)
    (λ s. and_then (run s) (λ v t. Gives (tt {0}) (with_local local (in_type (type_at S.function local) v) t)))
assigned-lowers S local levels a run low lowers = record {
  follows = λ active block before s g stands room b.
      dropped-same S active (λ t h o. Comes S t.turns (behind (before ++ a.lines block 0 Dropped) h) o) (behind before
      g) s g local (run s)
      ((dropped-lowers S a (initialised S local run) lowers).follows active block before s g stands
      (below a.levels levels (levels_of S.function) low room) b);
}
  where
    below : (a b n : ℕ) → a ≤ b → b ≤ n → a ≤ n
    below a b n x y = omega (arith, x, y)

    dropped-same : (S : Site) (active : List Function) (aim : source.State → graph.State → Outcome → Type 0)
        (from : graph.State) (s : source.State) (g : graph.State) (local : ℕ) (r : Evaluated Held)
        → From S active 0 from s g (λ (v : Held) (t : source.State) (h : graph.State) (o : Outcome). aim t h o)
        (and_then r (λ v t. Gives (in_type (type_at S.function local) v)
        (with_local local (in_type (type_at S.function local) v) t)))
        → From S active 0 from s g (λ (v : Unit {0}) (t : source.State) (h : graph.State) (o : Outcome). aim t h o)
        (and_then r (λ v t. Gives (tt {0}) (with_local local (in_type (type_at S.function local) v) t)))
    dropped-same S active aim from s g local (Gives v t) h = h
    dropped-same S active aim from s g local (Ends end t) h = h

keeps-zero : (S : Site) (local : ℕ) → Keeping S (λ s. Gives (tt {0}) (with_local local (zero_of (type_at S.function
    local)) s))
keeps-zero S local s = gives-keeps S.bound s (with_local local (zero_of (type_at S.function local)) s) tt
    (local-follows local (zero_of (type_at S.function local)) s)

pub scalars-lower : ScalarsLower
scalars-lower S site n local levels l a run own e scalar low lowers keeping =
    marked-lowers S site n levels (λ block. zeroing (context_of S) local ++ a.lines block 0 Dropped)
    (λ s. and_then (run (with_local local (zero_of (type_at S.function local)) s))
    (λ v t. Gives (tt {0}) (with_local local (in_type (type_at S.function local) v) t))) own
    (record {
      follows = λ active block before s g stands room b.
          (items-lower S 0 levels 0 (λ k. zeroing (context_of S) local)
          (λ k. a.lines block 0 Dropped)
          (λ t. Gives (tt {0}) (with_local local (zero_of (type_at S.function local)) t))
          (λ t. and_then (run t) (λ v u. Gives (tt {0}) (with_local local (in_type (type_at S.function local) v) u)))
          (zeroing-lowers S site local l e scalar) (keeps-zero S local)
          (record {
            follows = λ calls k front t h there high bt.
                (assigned-lowers S local levels a run low lowers).follows calls block front t h there high bt;
          })).follows active block before s g stands (plain levels (levels_of S.function) room) b;
    })
  where
    plain : (a n : ℕ) → a ≤ n → max 0 a ≤ n
    plain a n h = omega (arith, h)

-- the last of two values in a local is there
pub set-twice : {X : Type 0} (xs : List X) (k : ℕ) (x y : X) → slice_set (slice_set xs k x) k y ≡ slice_set xs k y
set-twice [] k x y = refl
set-twice (z ∷ xs) zero x y = refl
set-twice (z ∷ xs) (suc k) x y = ap (λ (ys : List _). z ∷ ys) (set-twice xs k x y)

local-twice : (local : ℕ) (x y : Held) (s : source.State) → with_local local y (with_local local x s)
    ≡ with_local local y s
local-twice local x y s = by s.active
  where
    by : (calls : List source.Activation) → record s {
      active = with_youngest (record {
        values = slice_set (youngest (with_youngest (record {
          values = slice_set (youngest calls).values local x;
          arrays = (youngest calls).arrays;
        }) calls)).values local y;
        arrays = (youngest (with_youngest (record {
          values = slice_set (youngest calls).values local x;
          arrays = (youngest calls).arrays;
        }) calls)).arrays;
      }) (with_youngest (record {
        values = slice_set (youngest calls).values local x;
        arrays = (youngest calls).arrays;
      }) calls);
    } ≡ record s {
      active = with_youngest (record {
        values = slice_set (youngest calls).values local y;
        arrays = (youngest calls).arrays;
      }) calls;
    }
    by [] = refl
    by (a ∷ calls) = ap (λ (vs : List Held). record s {
      active = record { values = vs; arrays = a.arrays } ∷ calls;
    }) (set-twice a.values local x y)

pub steady-scalars-lower : SteadyScalarsLower
steady-scalars-lower S site n local levels a run own low lowers steady =
    marked-lowers S site n levels (λ block. a.lines block 0 Dropped)
    (λ s. and_then (run (with_local local (zero_of (type_at S.function local)) s))
    (λ v t. Gives (tt {0}) (with_local local (in_type (type_at S.function local) v) t))) own
    (record {
      follows = λ active block before s g stands room b.
          subst (λ (r : Evaluated (Unit {0})). From S active 0 (behind before g) s g
          (Behind S (before ++ a.lines block 0 Dropped)) r) (same s)
          ((assigned-lowers S local levels a run low lowers).follows active block before s g stands room b);
    })
  where
    same : (s : source.State)
        → and_then (run s) (λ v t. Gives (tt {0}) (with_local local (in_type (type_at S.function local) v) t))
        ≡ and_then (run (with_local local (zero_of (type_at S.function local)) s))
        (λ v t. Gives (tt {0}) (with_local local (in_type (type_at S.function local) v) t))
    same s =
        let zero' = zero_of (type_at S.function local) in
        let (v, is, too) = steady s zero' in
        let go : Held → source.State → Evaluated (Unit {0}) =
        λ w t. Gives (tt {0}) (with_local local (in_type (type_at S.function local) w) t) in
        ap (λ (r : Evaluated Held). and_then r go) is
        ∙ sym (ap (λ (t : source.State). Gives (tt {0}) t) (local-twice local zero' (in_type (type_at S.function
        local) v) s))
        ∙ sym (ap (λ (r : Evaluated Held). and_then r go) too)
