-- The graphs have their shapes: every block is ended, and frames are within their bound.
use Rattle.std.proofs.Common.{◌≡◌, ◌≤◌, ◌<◌, ℕ, zero, suc, ◌+◌, ◌*◌, Bool, true, false, List, [], ◌∷◌, true≢false}
use Rattle.std.proofs.Common.{Some, inl, inr, refl, sym, ap, ◌∙◌, subst, arith, length, length-append, map}
use Rattle.std.specs.Prelude.{if◌then◌else◌, ◌==◌, ◌⊎◌, slice_get, sum_by}
use Rattle.std.specs.List.{range_with_len}
use Rattle.std.proofs.lemmas.Bool.Decides.{nat_tests}
use Rattle.std.proofs.lemmas.List.Elements.{recursion_from_All}
use Rattle.std.proofs.lemmas.List.Sums.{sum_by-cons}
use Rattle.std.proofs.lemmas.List.{length-map}
use Rattle.pcc_base.proofs.Lists.{all-at}
use Rattle.c_tree.specs.declared.types.IntegerType.TheVariants.{Char, Short, Int, UnsignedInt}
use Rattle.c_tree.specs.declared.types.ValueType.{ValueType}
use Rattle.c_tree.specs.declared.types.ValueType.TheVariants.{Void, Integer, Pointer}
use Rattle.c_tree.specs.Program.{Function, Local, LocalArray, Program}
use Rattle.c_tree.specs.Sizes.{array_bytes, statements_height}
use Rattle.c_tree.specs.WellTyped.{IsTypedFunction}
use Rattle.flow_graph.specs.declared.op.Op.{Op}
use Rattle.flow_graph.specs.Graphs.{Flow, IsEndAt, IsEnded, LastIsEnd, is_end, points_of}
use Rattle.flow_graph.specs.Sizes as graph
use Rattle.lower_lines.specs.Following.{Closes}
use Rattle.lower_lines.specs.Laws.{ShapesHold}
use Rattle.lower_lines.specs.Lines.{Line, Start, Emit, ops_in, points_from, points_in}
use Rattle.lower_lines.specs.Lowering.{HasShape, array_of}
use Rattle.lower_lines.specs.Programs.{blocks_of_function, graph_of_function, lines_of_function}
use Rattle.lower_lines.specs.Shown.{local_widths, type_widths}
use Rattle.lower_lines.specs.Variables.{Context, level_widths, levels_of, levels_widths}
use Rattle.lower_lines.proofs.Closing.{function-lays}
use Rattle.lower_lines.proofs.Filling.{Lays, same, starting, under}
use Rattle.lower_lines.proofs.Weighings.{function-weighs}
pub use Rattle.lower_lines.proofs.Points.{get-range}
pub use Rattle.lower_lines.proofs.Arrays.{index-of-map as index-map}

-- ---- the last op of a block

last-more : (ops : List Op) (p : ℕ) (ps : List ℕ) → LastIsEnd ops ps → LastIsEnd ops (p ∷ ps)
last-more ops p [] h = absurd h
last-more ops p (q ∷ ps) h = h

-- the ops of lines stand in the graph from a point on
abbrev pub StandFrom : List Op → ℕ → List Line → Type 0
StandFrom ops p lines = (j : ℕ) → slice_get ops (p + j) ≡ slice_get (ops_in lines) j

pub stand-behind : (ops : List Op) (p : ℕ) (i : Op) (lines : List Line) → StandFrom ops p (Emit i ∷ lines)
    → StandFrom ops (suc p) lines
stand-behind ops p i lines h j =
    let e : suc p + j ≡ p + suc j = omega arith in
    ap (λ (k : ℕ). slice_get ops k) e ∙ h (suc j)

end-here : (ops : List Op) (p : ℕ) (i : Op) (lines : List Line) → StandFrom ops p (Emit i ∷ lines) → is_end i ≡ true
    → IsEndAt ops p
end-here ops p i lines h e =
    let k : p ≡ p + 0 = omega arith in
    (i, ap (λ (n : ℕ). slice_get ops n) k ∙ h 0, e)

-- points of which the last has an end, or none, and then the block isn't started
abbrev EndsOrNone : List Op → ℕ → List Line → List ℕ → Type 0
EndsOrNone ops block lines ps = LastIsEnd ops ps ⊎ ((ps ≡ []) × (starting block lines ≡ 0))

last-here : (ops : List Op) (p : ℕ) (ps : List ℕ) (block : ℕ) (lines : List Line) → IsEndAt ops p
    → EndsOrNone ops block lines ps → LastIsEnd ops (p ∷ ps)
last-here ops p ps block lines h (inl last) = last-more ops p ps last
last-here ops p ps block lines h (inr none) = rw none.0 h

pub not-same : (b block : ℕ) → (b == block) ≡ false → same block b ≡ 0
not-same b block e = grind (arith, nat_tests)

either-bool : (b : Bool) → (b ≡ true) ⊎ (b ≡ false)
either-bool true = inl refl
either-bool false = inr refl

-- What is known of a block's points in lines: where it is open; where no block is; and where another one may be.
record BlockEnds (ops : List Op) (block p : ℕ) (lines : List Line) : Type 0 where
  opened : Closes true lines false → LastIsEnd ops (points_from block p true lines)
  shut : (here : Bool) → Closes false lines false → EndsOrNone ops block lines (points_from block p here lines)
  other : (o : Bool) → Closes o lines false → EndsOrNone ops block lines (points_from block p false lines)

op-ends : (ops : List Op) (block p : ℕ) (i : Op) (lines : List Line) → StandFrom ops p (Emit i ∷ lines)
    → BlockEnds ops block (suc p) lines → (t : Bool) → is_end i ≡ t → Closes (if t then false else true) lines false
    → LastIsEnd ops (p ∷ points_from block (suc p) true lines)
op-ends ops block p i lines at r true e c = last-here ops p (points_from block (suc p) true lines) block lines
    (end-here ops p i lines at e) (r.shut true c)
op-ends ops block p i lines at r false e c = last-more ops p (points_from block (suc p) true lines) (r.opened c)

more-none : (ops : List Op) (block b : ℕ) (lines : List Line) (ps : List ℕ) → same block b ≡ 0
    → EndsOrNone ops block lines ps → EndsOrNone ops block (Start b ∷ lines) ps
more-none ops block b lines ps e (inl last) = inl last
more-none ops block b lines ps e (inr none) = let z = none.1 in inr (none.0, omega (arith, e, z))

start-ends : (ops : List Op) (block p b : ℕ) (lines : List Line) → BlockEnds ops block p lines → Closes true lines false
    → (t : Bool) → (b == block) ≡ t → EndsOrNone ops block (Start b ∷ lines) (points_from block p t lines)
start-ends ops block p b lines r c true e = inl (r.opened c)
start-ends ops block p b lines r c false e =
    more-none ops block b lines (points_from block p false lines) (not-same b block e) (r.other true c)

block-ends : (ops : List Op) (block p : ℕ) (lines : List Line) → StandFrom ops p lines → BlockEnds ops block p lines
block-ends ops block p [] at = record {
  opened = λ c. absurd (true≢false c);
  shut = λ here c. inr (refl, refl);
  other = λ o c. inr (refl, refl);
}
block-ends ops block p (Start b ∷ lines) at =
    let r = block-ends ops block p lines at in
    record {
      opened = λ c. absurd (true≢false c.0);
      shut = λ here c. start-ends ops block p b lines r c.1 (b == block) refl;
      other = λ o c. start-ends ops block p b lines r c.1 (b == block) refl;
    }
block-ends ops block p (Emit i ∷ lines) at =
    let r = block-ends ops block (suc p) lines (stand-behind ops p i lines at) in
    record {
      opened = λ c. op-ends ops block p i lines at r (is_end i) refl c.1;
      shut = λ here c. absurd (true≢false (sym c.0));
      other = λ o c. r.other (if is_end i then false else true) c.1;
    }

-- ---- the blocks of a graph

pub length-range : (a n : ℕ) → length (range_with_len a n) ≡ n
length-range a zero = refl
length-range a (suc n) = let h = length-range (a + 1) n in omega (arith, h)

pub get-map : {A B : Type 0} (f : A → B) (xs : List A) (k : ℕ) (x : A) (y : B) → slice_get xs k ≡ Some x
    → slice_get (map f xs) k ≡ Some y → y ≡ f x
get-map f [] k x y e h = absurd (cc)
get-map f (z ∷ xs) zero x y e h = one-of (f z) y h ∙ ap f (other z x e)
  where
    one-of : {A : Type 0} (y x : A) → Some y ≡ Some x → x ≡ y
    one-of y x e = cc

    other : {A : Type 0} (y x : A) → Some y ≡ Some x → y ≡ x
    other y x e = cc
get-map f (z ∷ xs) (suc k) x y e h = get-map f xs k x y e h

-- the points of a block of a function's graph
pub points-are : (p : Program) (f : Function) (block : ℕ)
    → block < blocks_of_function (record { program = p; function = f })
    → points_of (graph_of_function p f) block ≡ points_in block (lines_of_function
    (record { program = p; function = f }))
points-are p f block h =
    let c : Context = record { program = p; function = f } in
    index-map (λ b. points_in b (lines_of_function c)) (range_with_len 0 (blocks_of_function c)) block block []
    (get-range 0 (blocks_of_function c) block h ∙ ap Some (plain block))
  where
    plain : (n : ℕ) → 0 + n ≡ n
    plain n = omega arith

pub blocks-are : (p : Program) (f : Function) → length (graph_of_function p f).blocks
    ≡ blocks_of_function (record { program = p; function = f })
blocks-are p f =
    let c : Context = record { program = p; function = f } in
    length-map (range_with_len 0 (blocks_of_function c)) (λ b. points_in b (lines_of_function c))
    ∙ length-range 0 (blocks_of_function c)

started-once : (b n s : ℕ) → b < n → s + under b 0 ≡ under b n → s ≡ 0 → ⊥
started-once b n s h e z = absurd (grind (arith, nat_tests))

ends : (ops : List Op) (block : ℕ) (lines : List Line) (ps : List ℕ) → (starting block lines ≡ 0 → ⊥)
    → EndsOrNone ops block lines ps → LastIsEnd ops ps
ends ops block lines ps not (inl last) = last
ends ops block lines ps not (inr none) = absurd (not none.1)

pub block-ended : (p : Program) (f : Function) → Lays 0 (blocks_of_function (record { program = p; function = f }))
    false false (lines_of_function (record { program = p; function = f })) → (block : ℕ)
    → block < blocks_of_function (record { program = p; function = f }) → IsEnded (graph_of_function p f) block
block-ended p f h block less =
    let c : Context = record { program = p; function = f } in
    let lines = lines_of_function c in
    let ops = ops_in lines in
    subst (λ (ps : List ℕ). LastIsEnd ops ps) (sym (points-are p f block less))
    (ends ops block lines (points_in block lines)
    (started-once block (blocks_of_function c) (starting block lines) less (h.fills block))
    ((block-ends ops block 0 lines (λ j. ap (λ (n : ℕ). slice_get ops n) (plain j))).shut false h.closes))
  where
    plain : (n : ℕ) → 0 + n ≡ n
    plain n = omega arith

-- ---- the frame

type-widths-few : (of : ValueType) → length (type_widths of) ≤ 2
type-widths-few Void = omega arith
type-widths-few (Integer Char) = omega arith
type-widths-few (Integer Short) = omega arith
type-widths-few (Integer Int) = omega arith
type-widths-few (Integer UnsignedInt) = omega arith
type-widths-few (Pointer t) = omega arith

local-widths-few : (ls : List Local) → length (local_widths ls) ≤ 2 * length ls
local-widths-few [] = omega arith
local-widths-few (l ∷ ls) =
    let e = length-append (type_widths l.of) (local_widths ls) in
    let h = type-widths-few l.of in
    let k = local-widths-few ls in
    omega (arith, e, h, k)

levels-length : (n : ℕ) → length (levels_widths n) ≡ 5 * n
levels-length zero = refl
levels-length (suc n) =
    let e = length-append level_widths (levels_widths n) in
    let h = levels-length n in
    omega (arith, e, h)

arrays-same : (arrays : List LocalArray) → sum_by graph.array_bytes (map array_of arrays) ≡ sum_by array_bytes arrays
arrays-same [] = refl
arrays-same (a ∷ arrays) = sum_by-cons graph.array_bytes (array_of a) (map array_of arrays)
    ∙ ap (λ (n : ℕ). array_bytes a + n) (arrays-same arrays) ∙ sym (sum_by-cons array_bytes a arrays)

pub function-shape : (p : Program) (f : Function)
    → Lays 0 (blocks_of_function (record { program = p; function = f })) false false
    (lines_of_function (record { program = p; function = f })) → HasShape f (graph_of_function p f)
function-shape p f h = record {
  first_variables = (levels_widths (levels_of f), refl);
  arrays = refl;
  ended = λ block less. block-ended p f h block (rw (← blocks-are p f) less);
  frame =
      let c : Context = record { program = p; function = f } in
      let w = (function-weighs (2 * statements_height f.body) c (omega arith)).most in
      let a = arrays-same f.arrays in
      let e = length-append (local_widths f.locals) (levels_widths (levels_of f)) in
      let l = levels-length (levels_of f) in
      let k = local-widths-few f.locals in
      omega (arith, w, a, e, l, k);
}

pub shapes-hold : ShapesHold
shapes-hold p well = record {
  as_many = length-map p.functions (graph_of_function p);
  each = λ k f flow at at'.
      let typed = all-at (IsTypedFunction p) p.functions k f
      (recursion_from_All (IsTypedFunction p) p.functions well.functions) at in
      subst (λ (g : Flow). HasShape f g) (sym (get-map (graph_of_function p) p.functions k f flow at at'))
      (function-shape p f (function-lays p f well.functions typed));
  main = refl;
}
