-- A graph has no more blocks than points.
use Rattle.std.proofs.Common.{◌≡◌, ◌≤◌, ◌<◌, ℕ, zero, suc, ◌+◌, ◌*◌, Bool, true, false, List, [], ◌∷◌, refl}
use Rattle.std.proofs.Common.{arith, length}
use Rattle.std.specs.Prelude.{if◌then◌else◌}
use Rattle.std.proofs.lemmas.Bool.Decides.{nat_tests}
use Rattle.std.proofs.lemmas.List.Elements.{recursion_from_All}
use Rattle.pcc_base.proofs.Lists.{all-at}
use Rattle.c_tree.specs.Sizes.{statements_height}
use Rattle.c_tree.specs.WellTyped.{IsTypedFunction}
use Rattle.flow_graph.specs.declared.op.Op.{Op}
use Rattle.flow_graph.specs.Graphs.{is_end}
use Rattle.lower_lines.specs.Following.{Closes}
use Rattle.lower_lines.specs.Lines.{Line, Start, Emit, ops_in, starts_in}
use Rattle.lower_lines.specs.Programs.{blocks_of_function, lines_of_function}
use Rattle.lower_lines.specs.Variables.{Context}
use Rattle.lower_lines.specs.BoundsLaws.{PointsAreFew}
use Rattle.lower_lines.proofs.Closing.{function-lays}
use Rattle.lower_lines.proofs.Filling.{same, starting, under, under-one}
use Rattle.lower_lines.proofs.Shapes.{blocks-are}
use Rattle.lower_lines.proofs.Weighings.{function-weighs}

-- how often lines start the blocks below a bound
started_below : ℕ → List Line → ℕ
started_below zero lines = 0
started_below (suc n) lines = started_below n lines + starting n lines

-- a number is one of those below a bound at most once
same-below : ℕ → ℕ → ℕ
same-below zero x = 0
same-below (suc n) x = same-below n x + same n x

same-under : (n x : ℕ) → same-below n x ≡ under x n
unfolding same-below
same-under zero x = grind (arith, nat_tests)
same-under (suc n) x = let h = same-under n x in grind (arith, nat_tests, h)

below-start : (n x : ℕ) (lines : List Line)
    → started_below n (Start x ∷ lines) ≡ same-below n x + started_below n lines
unfolding started_below same-below
below-start zero x lines = omega arith
below-start (suc n) x lines = let h = below-start n x lines in omega (arith, h)

below-op : (n : ℕ) (i : Op) (lines : List Line) → started_below n (Emit i ∷ lines) ≡ started_below n lines
unfolding started_below
below-op zero i lines = refl
below-op (suc n) i lines = let h = below-op n i lines in omega (arith, h)

below-none : (n : ℕ) → started_below n [] ≡ 0
unfolding started_below
below-none zero = refl
below-none (suc n) = let h = below-none n in omega (arith, h)

below-few : (n : ℕ) (lines : List Line) → started_below n lines ≤ length (starts_in lines)
below-few n [] = let h = below-none n in omega (arith, h)
below-few n (Start x ∷ lines) =
    let h = below-few n lines in
    let e = below-start n x lines in
    let u = same-under n x in
    let o = under-one x n in
    omega (arith, h, e, u, o)
below-few n (Emit i ∷ lines) = let h = below-few n lines in let e = below-op n i lines in omega (arith, h, e)

-- lines that start each block below a bound start as many
under-all : (b n : ℕ) → b < n → under b n ≡ 1
under-all b n h = grind (arith, nat_tests)

under-none : (b : ℕ) → under b 0 ≡ 0
under-none b = grind (arith, nat_tests)

below-all : (m n : ℕ) (lines : List Line) → m ≤ n → ((b : ℕ) → starting b lines + under b 0 ≡ under b n)
    → started_below m lines ≡ m
unfolding started_below
below-all zero n lines le h = refl
below-all (suc m) n lines le h =
    let k = below-all m n lines (omega (arith, le)) h in
    let f = h m in
    let u = under-all m n (omega (arith, le)) in
    let z = under-none m in
    omega (arith, k, f, u, z)

-- each block that is started has an op
starts-few : (o : Bool) (lines : List Line) → Closes o lines false
    → length (starts_in lines) + (if o then 1 else 0) ≤ length (ops_in lines)
starts-few true [] c = absurd (true-false c)
  where
    true-false : true ≡ false → ⊥
    true-false e = cc
starts-few false [] c = omega arith
starts-few true (Start b ∷ lines) c = absurd (true-false c.0)
  where
    true-false : true ≡ false → ⊥
    true-false e = cc
starts-few false (Start b ∷ lines) c = let h = starts-few true lines c.1 in omega (arith, h)
starts-few o (Emit i ∷ lines) c =
    let h = starts-few (if is_end i then false else true) lines c.1 in
    let e = few o in
    let k = least (is_end i) (length (starts_in lines)) (length (ops_in lines)) h in
    omega (arith, e, k)
  where
    few : (o : Bool) → (if o then 1 else 0) ≤ 1
    few true = omega arith
    few false = omega arith

    least : (t : Bool) (m n : ℕ) → m + (if (if t then false else true) then 1 else 0) ≤ n → m ≤ n
    least true m n h = omega (arith, h)
    least false m n h = omega (arith, h)

pub points-are-few : PointsAreFew
points-are-few p well k f at =
    let c : Context = record { program = p; function = f } in
    let typed = all-at (IsTypedFunction p) p.functions k f
    (recursion_from_All (IsTypedFunction p) p.functions well.functions) at in
    let h = function-lays p f well.functions typed in
    let n = blocks_of_function c in
    let lines = lines_of_function c in
    let blocks = blocks-are p f in
    let all = below-all n n lines (omega arith) h.fills in
    let few = below-few n lines in
    let ops = starts-few false lines h.closes in (
      (function-weighs (2 * statements_height f.body) c (omega arith)).points,
      omega (arith, blocks, all, few, ops),
    )
