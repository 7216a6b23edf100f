-- The points of a graph are in order: each is at home in one block, and an end stands only last.
use Rattle.std.proofs.Common.{◌≡◌, ◌≢◌, ◌≤◌, ◌<◌, ◌⊎◌, ℕ, zero, suc, ◌+◌, Bool, true, false, List, [], ◌∷◌}
use Rattle.std.proofs.Common.{Some, inl, inr, refl, sym, ap, ◌∙◌, subst, arith, length, map}
use Rattle.std.specs.Prelude.{if◌then◌else◌, ◌==◌, nat_le, slice_get, slice_index_or}
use Rattle.std.specs.List.{All, AllByRecursion, range_with_len}
use Rattle.std.proofs.lemmas.Bool.Decides.{nat_tests}
use Rattle.std.proofs.lemmas.List.Elements.{All-from_recursion, All-map, recursion_from_All}
use Rattle.std.proofs.lemmas.Bool.{false≢true}
use Rattle.pcc_base.proofs.Lists.{all-at}
use Rattle.c_tree.specs.declared.types.IntegerType.{IntegerType}
use Rattle.c_tree.specs.declared.types.IntegerType.TheVariants.{Char, Short, Int, UnsignedInt}
use Rattle.c_tree.specs.Program.{Function, LocalArray, Program}
use Rattle.c_tree.specs.Sizes.{bytes_of}
use Rattle.c_tree.specs.WellTyped.{IsTypedFunction}
use Rattle.flow_graph.specs.declared.op.Op.{Op}
use Rattle.flow_graph.specs.Graphs.{EndsOnlyLast, IsArray, IsDistinct, IsPlainAt, LastIsEnd, is_end, points_of}
use Rattle.lower_lines.specs.Following.{Closes}
use Rattle.lower_lines.specs.Lines.{Line, Start, Emit, ops_in, points_from, points_in}
use Rattle.lower_lines.specs.Lowering.{array_of}
use Rattle.lower_lines.specs.Programs.{blocks_of_function, graph_of_function, lines_of_function}
use Rattle.lower_lines.specs.Variables.{Context}
use Rattle.lower_lines.specs.BoundsLaws.{GraphsAreLaidOut, IsOrdered}
use Rattle.lower_lines.proofs.Closing.{function-lays}
use Rattle.lower_lines.proofs.Filling.{Lays, same, starting, under-one}
use Rattle.lower_lines.proofs.Shapes.{StandFrom, block-ended, blocks-are}
use Rattle.lower_lines.proofs.Shapes.{points-are, stand-behind}
use Rattle.flow_graph.proofs.Points.{ends-cons as plain-more}

-- ---- homes

-- the blocks of the ops of lines, where a block is open before them
abbrev pub homes_from : ℕ → List Line → List ℕ
homes_from open' [] = []
homes_from open' (Start b ∷ lines) = homes_from b lines
homes_from open' (Emit i ∷ lines) = open' ∷ homes_from open' lines

homes-length : (open' : ℕ) (lines : List Line) → length (homes_from open' lines) ≡ length (ops_in lines)
homes-length open' [] = refl
homes-length open' (Start b ∷ lines) = homes-length b lines
homes-length open' (Emit i ∷ lines) = let h = homes-length open' lines in omega (arith, h)

equal-test : (m n : ℕ) → true ≡ (m == n) → m ≡ n
equal-test m n e = grind (arith, nat_tests)

at-home : (homes : List ℕ) (block open' p : ℕ) (here o : Bool) (lines : List Line) → Closes o lines false
    → (o ≡ true → here ≡ (open' == block))
    → ((j : ℕ) → slice_get homes (p + j) ≡ slice_get (homes_from open' lines) j)
    → AllByRecursion (λ q. slice_get homes q ≡ Some block) (points_from block p here lines)
at-home homes block open' p here o [] c h stand = tt
at-home homes block open' p here o (Start b ∷ lines) c h stand =
    at-home homes block b p (b == block) true lines c.1 (λ e. refl) stand
at-home homes block open' p true o (Emit i ∷ lines) c h stand =
    let plain : p ≡ p + 0 = omega arith in
    let same = equal-test open' block (h c.0) in (
      ap (λ (n : ℕ). slice_get homes n) plain ∙ stand 0 ∙ ap Some same,
      at-home homes block open' (suc p) true (if is_end i then false else true) lines c.1 (λ e. h c.0)
          (λ j. let e : suc p + j ≡ p + suc j = omega arith in ap (λ (n : ℕ). slice_get homes n) e ∙ stand (suc j)),
    )
at-home homes block open' p false o (Emit i ∷ lines) c h stand =
    at-home homes block open' (suc p) false (if is_end i then false else true) lines c.1 (λ e. h c.0)
    (λ j. let e : suc p + j ≡ p + suc j = omega arith in ap (λ (n : ℕ). slice_get homes n) e ∙ stand (suc j))

-- ---- each once

all-less : (p q : ℕ) (ps : List ℕ) → p ≤ q → AllByRecursion (λ r. q ≤ r) ps → AllByRecursion (λ r. p ≤ r) ps
all-less p q [] le h = tt
all-less p q (r ∷ ps) le h = let k = h.0 in (omega (arith, le, k), all-less p q ps le h.1)

points-above : (block p : ℕ) (here : Bool) (lines : List Line) → AllByRecursion (λ q. p ≤ q)
    (points_from block p here lines)
points-above block p here [] = tt
points-above block p here (Start b ∷ lines) = points-above block p (b == block) lines
points-above block p true (Emit i ∷ lines) = (
  omega arith,
  all-less p (suc p) (points_from block (suc p) true lines) (omega arith)
      (points-above block (suc p) true lines),
)
points-above block p false (Emit i ∷ lines) = all-less p (suc p) (points_from block (suc p) false lines) (omega arith)
    (points-above block (suc p) false lines)

all-other : (p : ℕ) (ps : List ℕ) → AllByRecursion (λ q. suc p ≤ q) ps → AllByRecursion (λ q. q ≢ p) ps
all-other p [] h = tt
all-other p (q ∷ ps) h = ((λ e. not p q h.0 e), all-other p ps h.1)
  where
    not : (p q : ℕ) → suc p ≤ q → q ≡ p → ⊥
    not p q h e = omega (arith, h, e)

points-once : (block p : ℕ) (here : Bool) (lines : List Line) → IsDistinct (points_from block p here lines)
points-once block p here [] = tt
points-once block p here (Start b ∷ lines) = points-once block p (b == block) lines
points-once block p true (Emit i ∷ lines) = (
  all-other p (points_from block (suc p) true lines) (points-above block (suc p) true lines),
  points-once block (suc p) true lines,
)
points-once block p false (Emit i ∷ lines) = points-once block (suc p) false lines

-- ---- ends only last

is-same : (b block : ℕ) → (b == block) ≡ true → same block b ≡ 1
is-same b block e = grind (arith, nat_tests)

-- the points of a block that is started once at most
record BlockOrder (ops : List Op) (block p : ℕ) (lines : List Line) : Type 0 where
  opened : Closes true lines false → starting block lines ≡ 0 → EndsOnlyLast ops (points_from block p true lines)
  shut : (here : Bool) → Closes false lines false → starting block lines ≤ 1
      → EndsOnlyLast ops (points_from block p here lines)
  other : (o : Bool) → Closes o lines false → starting block lines ≤ 1
      → EndsOnlyLast ops (points_from block p false lines)
  shut_none : (here : Bool) → Closes false lines false → starting block lines ≡ 0 → points_from block p here lines ≡ []
  other_none : (o : Bool) → Closes o lines false → starting block lines ≡ 0 → points_from block p false lines ≡ []

plain-here : (ops : List Op) (p : ℕ) (i : Op) (lines : List Line) → StandFrom ops p (Emit i ∷ lines)
    → is_end i ≡ false → IsPlainAt ops p
plain-here ops p i lines at e =
    let k : p ≡ p + 0 = omega arith in (i, ap (λ (n : ℕ). slice_get ops n) k ∙ at 0, e)

op-order : (ops : List Op) (block p : ℕ) (i : Op) (lines : List Line) → StandFrom ops p (Emit i ∷ lines)
    → BlockOrder ops block (suc p) lines → starting block lines ≡ 0 → (t : Bool) → is_end i ≡ t
    → Closes (if t then false else true) lines false → EndsOnlyLast ops (p ∷ points_from block (suc p) true lines)
op-order ops block p i lines at r s true e c = rw (r.shut_none true c s) tt
op-order ops block p i lines at r s false e c = plain-more ops p (points_from block (suc p) true lines)
    (plain-here ops p i lines at e) (r.opened c s)

start-order : (ops : List Op) (block p b : ℕ) (lines : List Line) → BlockOrder ops block p lines
    → Closes true lines false → same block b + starting block lines ≤ 1 → (t : Bool) → (b == block) ≡ t
    → EndsOnlyLast ops (points_from block p t lines)
start-order ops block p b lines r c s true e = let k = is-same b block e in r.opened c (omega (arith, s, k))
start-order ops block p b lines r c s false e = r.other true c (omega (arith, s))

start-none : (ops : List Op) (block p b : ℕ) (lines : List Line) → BlockOrder ops block p lines
    → Closes true lines false → same block b + starting block lines ≡ 0 → (t : Bool) → (b == block) ≡ t
    → points_from block p t lines ≡ []
start-none ops block p b lines r c s true e = let k = is-same b block e in absurd (omega (arith, s, k))
start-none ops block p b lines r c s false e = r.other_none true c (omega (arith, s))

block-order : (ops : List Op) (block p : ℕ) (lines : List Line) → StandFrom ops p lines → BlockOrder ops block p lines
block-order ops block p [] at = record {
  opened = λ c s. tt;
  shut = λ here c s. tt;
  other = λ o c s. tt;
  shut_none = λ here c s. refl;
  other_none = λ o c s. refl;
}
block-order ops block p (Start b ∷ lines) at =
    let r = block-order ops block p lines at in
    record {
      opened = λ c s. absurd (false≢true (sym c.0));
      shut = λ here c s. start-order ops block p b lines r c.1 s (b == block) refl;
      other = λ o c s. start-order ops block p b lines r c.1 s (b == block) refl;
      shut_none = λ here c s. start-none ops block p b lines r c.1 s (b == block) refl;
      other_none = λ o c s. start-none ops block p b lines r c.1 s (b == block) refl;
    }
block-order ops block p (Emit i ∷ lines) at =
    let r = block-order ops block (suc p) lines (stand-behind ops p i lines at) in
    record {
      opened = λ c s. op-order ops block p i lines at r s (is_end i) refl c.1;
      shut = λ here c s. absurd (false≢true c.0);
      other = λ o c s. r.other (if is_end i then false else true) c.1 s;
      shut_none = λ here c s. absurd (false≢true c.0);
      other_none = λ o c s. r.other_none (if is_end i then false else true) c.1 s;
    }

-- ---- the graph of a function

index-none : {X : Type 0} (xs : List X) (k : ℕ) (d : X) → length xs ≤ k → slice_index_or xs k d ≡ d
index-none [] k d h = refl
index-none (x ∷ xs) zero d h = absurd (omega (arith, h))
index-none (x ∷ xs) (suc k) d h = index-none xs k d (omega (arith, h))

less-or-not : (m n : ℕ) → (m < n) ⊎ (n ≤ m)
less-or-not m n = by_test (nat_le n m) refl
  where
    by_test : (t : Bool) → nat_le n m ≡ t → (m < n) ⊎ (n ≤ m)
    by_test true e = inr (grind (arith, nat_tests))
    by_test false e = inl (grind (arith, nat_tests))

plain : (n : ℕ) → 0 + n ≡ n
plain n = omega arith

ordered-by : (p : Program) (f : Function) → Lays 0 (blocks_of_function (record { program = p; function = f }))
    false false (lines_of_function (record { program = p; function = f })) → (block : ℕ)
    → (block < blocks_of_function (record { program = p; function = f }))
    ⊎ (blocks_of_function (record { program = p; function = f }) ≤ block)
    → IsOrdered (graph_of_function p f) (homes_from 0 (lines_of_function (record { program = p; function = f }))) block
ordered-by p f h block (inl less) =
    let c : Context = record { program = p; function = f } in
    let lines = lines_of_function c in
    let ops = ops_in lines in
    let e = sym (points-are p f block less) in
    let few = under-one block (blocks_of_function c) in
    let fill = h.fills block in
    record {
      at_home = subst (λ (ps : List ℕ). AllByRecursion (λ q. slice_get (homes_from 0 lines) q ≡ Some block) ps) e
          (at-home (homes_from 0 lines) block 0 0 false false lines h.closes (λ k. absurd (false≢true k))
          (λ j. ap (λ (n : ℕ). slice_get (homes_from 0 lines) n) (plain j)));
      once = subst (λ (ps : List ℕ). IsDistinct ps) e (points-once block 0 false lines);
      ends = subst (λ (ps : List ℕ). EndsOnlyLast ops ps) e
          ((block-order ops block 0 lines (λ j. ap (λ (n : ℕ). slice_get ops n) (plain j))).shut false h.closes
          (omega (arith, few, fill)));
    }
ordered-by p f h block (inr more) =
    let c : Context = record { program = p; function = f } in
    let lines = lines_of_function c in
    let ops = ops_in lines in
    let many = blocks-are p f in
    let e : points_of (graph_of_function p f) block ≡ [] =
    index-none (graph_of_function p f).blocks block [] (omega (arith, many, more)) in
    record {
      at_home = subst (λ (ps : List ℕ). AllByRecursion (λ q. slice_get (homes_from 0 lines) q ≡ Some block) ps) (sym e)
          tt;
      once = subst (λ (ps : List ℕ). IsDistinct ps) (sym e) tt;
      ends = subst (λ (ps : List ℕ). EndsOnlyLast ops ps) (sym e) tt;
    }

range-all : (P : ℕ → Type 0) (a n m : ℕ) → a + n ≡ m → ((b : ℕ) → b < m → P b)
    → AllByRecursion P (range_with_len a n)
range-all P a zero m e h = tt
range-all P a (suc n) m e h = (h a (omega (arith, e)), range-all P (a + 1) n m (omega (arith, e)) h)

blocks-ended : (p : Program) (f : Function) → Lays 0 (blocks_of_function (record { program = p; function = f }))
    false false (lines_of_function (record { program = p; function = f }))
    → All (LastIsEnd (graph_of_function p f).ops) (graph_of_function p f).blocks
blocks-ended p f h =
    let c : Context = record { program = p; function = f } in
    let lines = lines_of_function c in
    let n = blocks_of_function c in
    let P : ℕ → Type 0 = λ b. LastIsEnd (ops_in lines) (points_in b lines) in
    All-map (LastIsEnd (ops_in lines)) (λ b. points_in b lines) (range_with_len 0 n)
    (All-from_recursion P (range_with_len 0 n) (range-all P 0 n n (plain n)
    (λ b less. subst (λ (ps : List ℕ). LastIsEnd (ops_in lines) ps) (points-are p f b less)
    (block-ended p f h b less))))

width-fits : (t : IntegerType) → (bytes_of t ≡ 1) ⊎ (bytes_of t ≡ 2) ⊎ (bytes_of t ≡ 4)
width-fits Char = inl refl
width-fits Short = inr (inl refl)
width-fits Int = inr (inr refl)
width-fits UnsignedInt = inr (inr refl)

arrays-fit : (arrays : List LocalArray) → AllByRecursion (λ a. 1 ≤ a.count) arrays
    → AllByRecursion IsArray (map array_of arrays)
arrays-fit [] h = tt
arrays-fit (a ∷ arrays) h = ((width-fits a.element, h.0), arrays-fit arrays h.1)

pub graphs-are-laid-out : GraphsAreLaidOut
graphs-are-laid-out p well k f at =
    let c : Context = record { program = p; function = f } in
    let typed = all-at (IsTypedFunction p) p.functions k f
    (recursion_from_All (IsTypedFunction p) p.functions well.functions) at in
    let h = function-lays p f well.functions typed in
    let many = blocks-are p f in
    record {
      homes = homes_from 0 (lines_of_function c);
      one_home = homes-length 0 (lines_of_function c);
      each_block = λ block. ordered-by p f h block (less-or-not block (blocks_of_function c));
      begins = omega (arith, many);
      ended = blocks-ended p f h;
      arrays_fit = arrays-fit f.arrays (recursion_from_All (λ (a : LocalArray). 1 ≤ a.count) f.arrays typed.arrays);
    }
