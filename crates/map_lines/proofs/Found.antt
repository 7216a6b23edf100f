-- The function that a map finds by a return address is that of the call that waits.
use Rattle.std.proofs.Common.{◌≡◌, ◌⊎◌, ℕ, ◌+◌, ◌<◌, ◌≤◌, Bool, true, false, List, [], ◌∷◌, length}
use Rattle.std.proofs.Common.{Option, Some, None, inl, inr, refl, sym, ap, subst, ◌∙◌, arith}
use Rattle.std.specs.Prelude.{◌&&◌, if◌then◌else◌, nat_le, nat_lt, option_map, slice_get}
use Rattle.std.proofs.lemmas.Bool.Decides.{nat_tests}
use Rattle.std.proofs.lemmas.Option.{get_or_from_slice_get, slice_get_within}
use Rattle.pcc_base.proofs.Lists.{element-at}
use Rattle.c_tree.specs.Program.{Function, Program}
use Rattle.flow_graph.specs.Graphs.{Flow, empty_flow}
use Rattle.flow_graph.specs.States.{Activation, Waiting, flow_at}
use Rattle.flow_graph.specs.WellFormed.{IsWaiting}
use Rattle.lower_lines.specs.Lowering.{first_statement}
use Rattle.ia32_rows.specs.Placements.{Code, placement_of, point_address}
use Rattle.ia32_rows.specs.Shows.{ReturnsTo}
use Rattle.ia32_laws.proofs.Apart.{points-apart}
use Rattle.map_text.specs.Maps.{Map, MapFunction, MapPoint}
use Rattle.map_text.specs.Marks.{caller_of, function_below, points_in}
use Rattle.map_lines.proofs.Among.{IsAmong, IsPointAt, point-from, point-to}
use Rattle.map_lines.proofs.Between.{none-between}
use Rattle.map_lines.proofs.Tells.{Tells, TellsFunction, TellsPoint}

-- ---- the greatest address below one

-- of points below an address none is above the one that is sought, and one that is there is of its function
abbrev IsNoNearer : ℕ → ℕ × ℕ → ℕ × ℕ → Type 0
IsNoNearer address sought point =
    point.0 < address → (point.0 ≤ sought.0) × (point.0 ≡ sought.0 → point.1 ≡ sought.1)

abbrev AllNoNearer : ℕ → ℕ × ℕ → List (ℕ × ℕ) → Type 0
AllNoNearer address sought points = (point : ℕ × ℕ) → IsAmong point points → IsNoNearer address sought point

both-tests : (a b c : ℕ) → (nat_lt a b && nat_le c a) ≡ true → (a < b) × (c ≤ a)
both-tests a b c e = (grind (arith, nat_tests), grind (arith, nat_tests))

not-both : (a b c d : ℕ) → (nat_lt a b && nat_le c a) ≡ false → a ≡ d → d < b → c ≤ d → ⊥
not-both a b c d e same lt le = grind (arith, nat_tests)

one-test : (a b : ℕ) → nat_lt a b ≡ true → a < b
one-test a b e = grind (arith, nat_tests)

not-one : (a b d : ℕ) → nat_lt a b ≡ false → a ≡ d → d < b → ⊥
not-one a b d e same lt = grind (arith, nat_tests)

-- the function of the point that is found
abbrev FoundAfter : ℕ → ℕ × ℕ → List (ℕ × ℕ) → Option (ℕ × ℕ) → Type 0
FoundAfter address sought points best =
    option_map (λ point. point.1) (function_below address points best) ≡ Some sought.1

-- one more point, behind a best one so far that is no nearer either
one-more : (address : ℕ) (sought best p : ℕ × ℕ) (points : List (ℕ × ℕ)) (test : Bool) → sought.0 < address
    → IsNoNearer address sought p → best.0 ≤ sought.0 → (best.0 ≡ sought.0 → best.1 ≡ sought.1)
    → (best.0 ≡ sought.0) ⊎ IsAmong sought (p ∷ points)
    → ((b : ℕ × ℕ) → b.0 ≤ sought.0 → (b.0 ≡ sought.0 → b.1 ≡ sought.1)
    → (b.0 ≡ sought.0) ⊎ IsAmong sought points → FoundAfter address sought points (Some b))
    → (nat_lt p.0 address && nat_le best.0 p.0) ≡ test
    → FoundAfter address sought points (if test then Some p else Some best)
one-more address sought best p points true below near low own there go e =
    let tests = both-tests p.0 address best.0 e in
    let n = near tests.0 in
    go p n.0 n.1 (elim there [
      | inl same ↦ inl (omega (arith, same, tests.1, n.0))
      | inr among ↦ elim among [ inl is ↦ inl (ap (λ (x : ℕ × ℕ). x.0) is) | inr more ↦ inr more ]
    ])
one-more address sought best p points false below near low own there go e =
    go best low own (elim there [
      | inl same ↦ inl same
      | inr among ↦ elim among [
        | inl is ↦ absurd (not-both p.0 address best.0 sought.0 e (ap (λ (x : ℕ × ℕ). x.0) is) below low)
        | inr more ↦ inr more
      ]
    ])

found-after : (address : ℕ) (sought best : ℕ × ℕ) (points : List (ℕ × ℕ)) → sought.0 < address
    → AllNoNearer address sought points → best.0 ≤ sought.0 → (best.0 ≡ sought.0 → best.1 ≡ sought.1)
    → (best.0 ≡ sought.0) ⊎ IsAmong sought points → FoundAfter address sought points (Some best)
found-after address sought best [] below near low own (inl e) = ap Some (own e)
found-after address sought best [] below near low own (inr among) = absurd among
found-after address sought best (p ∷ points) below near low own there =
    one-more address sought best p points (nat_lt p.0 address && nat_le best.0 p.0) below (near p (inl refl)) low own
    there
    (λ b. found-after address sought b points below (λ point among. near point (inr among))) refl

-- the first point below the address
first-one : (address : ℕ) (sought p : ℕ × ℕ) (points : List (ℕ × ℕ)) (test : Bool) → sought.0 < address
    → AllNoNearer address sought (p ∷ points) → IsAmong sought (p ∷ points)
    → (IsAmong sought points → FoundAfter address sought points None) → nat_lt p.0 address ≡ test
    → FoundAfter address sought points (if test then Some p else None)
first-one address sought p points true below near there go e =
    let n = near p (inl refl) (one-test p.0 address e) in
    found-after address sought p points below (λ point among. near point (inr among)) n.0 n.1
    (elim there [ inl is ↦ inl (ap (λ (x : ℕ × ℕ). x.0) is) | inr more ↦ inr more ])
first-one address sought p points false below near there go e =
    go (elim there [
      | inl is ↦ absurd (not-one p.0 address sought.0 e (ap (λ (x : ℕ × ℕ). x.0) is) below)
      | inr more ↦ more
    ])

found : (address : ℕ) (sought : ℕ × ℕ) (points : List (ℕ × ℕ)) → sought.0 < address
    → AllNoNearer address sought points → IsAmong sought points → FoundAfter address sought points None
found address sought [] below near there = absurd there
found address sought (p ∷ points) below near there =
    first-one address sought p points (nat_lt p.0 address) below near there
    (λ among. found address sought points below (λ point more. near point (inr more)) among) refl

-- ---- the functions of a map

-- function k of a map is that of the program's function k, over its graph
pub record IsNumbered (program : Program) (code : Code) (m : Map) (k : ℕ) (x : MapFunction) : Type 0 where
  pub below : k < length code.program.functions
  pub function : Function
  pub declared : slice_get program.functions k ≡ Some function
  pub is : TellsFunction (first_statement program.functions k) function (flow_at code.program k)
      (placement_of code k) (point_address code k) x

pub numbered : (program : Program) (code : Code) (m : Map) (k : ℕ) (x : MapFunction) → Tells program code m
    → slice_get m.functions k ≡ Some x → IsNumbered program code m k x
numbered program code m k x h has =
    let within = slice_get_within m.functions k x has in
    let many = h.as_many in
    let shapes = h.shapes.as_many in
    let f = element-at program.functions k (omega (arith, within, many)) in
    let below : k < length code.program.functions = omega (arith, within, many, shapes) in
    let flow = element-at code.program.functions k below in
    let same : flow.0 ≡ flow_at code.program k =
    sym (get_or_from_slice_get code.program.functions k flow.0 empty_flow flow.1) in
    record {
      below = below;
      function = f.0;
      declared = f.1;
      is = subst (λ (fl : Flow). TellsFunction (first_statement program.functions k) f.0 fl (placement_of code k)
          (point_address code k) x) same (h.functions k f.0 flow.0 x f.1 flow.1 has);
    }

-- each function of the graphs has one
pub has-function : (program : Program) (code : Code) (m : Map) (k : ℕ) → Tells program code m
    → k < length code.program.functions → (x : MapFunction) × (slice_get m.functions k ≡ Some x)
has-function program code m k h below =
    let many = h.as_many in
    let shapes = h.shapes.as_many in
    element-at m.functions k (omega (arith, below, many, shapes))

-- ---- points

-- a point that a map lists is one of the graph, and at its address
pub record IsListedAt (program : Program) (code : Code) (m : Map) (k : ℕ) (p : MapPoint) : Type 0 where
  pub function : MapFunction
  pub has : slice_get m.functions k ≡ Some function
  pub own : IsNumbered program code m k function
  pub is : TellsPoint (first_statement program.functions k) own.function (flow_at code.program k)
      (placement_of code k) (point_address code k) p

pub point-listed : (program : Program) (code : Code) (m : Map) (k : ℕ) (p : MapPoint) → Tells program code m
    → IsPointAt 0 m.functions k p → IsListedAt program code m k p
point-listed program code m k p h at =
    let same : at.place ≡ k = let numbered = at.numbered in omega (arith, numbered) in
    let has : slice_get m.functions k ≡ Some at.function =
    subst (λ (i : ℕ). slice_get m.functions i ≡ Some at.function) same at.has in
    let n = numbered program code m k at.function h has in
    record { function = at.function; has = has; own = n; is = n.is.points p at.among }

-- ---- the function of a return address

pub functions-told : (program : Program) (code : Code) (m : Map) (w : Waiting) (younger : Activation) (address : ℕ)
    → Tells program code m → w.activation.function < length code.program.functions → IsWaiting code.program w younger
    → ReturnsTo code w younger.function address → caller_of m (Some address) ≡ Some w.activation.function
functions-told program code m w younger address h below waits returns =
    let f : ℕ = w.activation.function in
    let x = has-function program code m f h below in
    let n = numbered program code m f x.0 h x.1 in
    let p = n.is.all_calls w.point waits.result younger.function waits.words (w.block, waits.placed) waits.calls in
    let at : p.0.address ≡ point_address code f w.point =
    (n.is.points p.0 p.1).address ∙ ap (point_address code f) p.2 in
    let own = none-between code w younger address f w.block w.point h.is_selected below waits returns below
    waits.placed in
    let among : IsAmong (p.0.address, f) (points_in m) =
    let zero-first : 0 + f ≡ f = omega arith in
    subst (λ (k : ℕ). IsAmong (p.0.address, k) (points_in m)) zero-first
    (point-to 0 f m.functions x.0 p.0 x.1 p.1) in
    found address (p.0.address, f) (points_in m) (subst (λ (a : ℕ). a < address) (sym at) own.0) (near p.0.address at)
    among
  where
    near : (a : ℕ) → a ≡ point_address code w.activation.function w.point
        → AllNoNearer address (a, w.activation.function) (points_in m)
    near a at point among lt =
        let r = point-from 0 m.functions point among in
        let listed = point-listed program code m point.1 r.0 h r.1 in
        let where_is : point.0 ≡ point_address code point.1 r.0.number = sym r.2 ∙ listed.is.address in
        let between = none-between code w younger address point.1 listed.is.placed.0 r.0.number h.is_selected below
        waits returns listed.own.below listed.is.placed.1 in (
          elim between.1 [
            | inl low ↦ omega (arith, low, at, where_is)
            | inr high ↦ absurd (omega (arith, high, lt, where_is))
          ],
          λ same.
              (points-apart code point.1 w.activation.function listed.is.placed.0 w.block r.0.number w.point
              h.is_selected listed.own.below below listed.is.placed.1 waits.placed (sym where_is ∙ same ∙ at)).0,
        )
