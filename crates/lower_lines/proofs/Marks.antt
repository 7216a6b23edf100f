-- The marks of the graphs are the statements of the program, once each.
use Rattle.std.proofs.Common.{◌≡◌, ◌≢◌, ◌≤◌, ◌<◌, ℕ, zero, suc, ◌+◌, ◌-◌, ◌*◌, Bool, true, false, List, [], ◌∷◌, ◌++◌}
use Rattle.std.proofs.Common.{Option, Some, None, inl, inr, refl, sym, ap, ◌∙◌, subst, arith, length}
use Rattle.std.proofs.Common.{length-append, map}
use Rattle.std.proofs.Common.{eq-eqb, take}
use Rattle.std.specs.Prelude.{if◌then◌else◌, ◌==◌, slice_get}
use Rattle.std.specs.List.{AllByRecursion, range_with_len}
use Rattle.std.proofs.lemmas.List.Elements.{recursion_from_All}
use Rattle.std.proofs.lemmas.List.Sums.{sum_by-cons}
use Rattle.std.proofs.lemmas.Option.{slice_get_within}
use Rattle.std.proofs.lemmas.Bool.{false≢true}
use Rattle.std.proofs.lemmas.List.{length-map}
use Rattle.pcc_base.proofs.Lists.{all-at}
use Rattle.c_tree.specs.Program.{First, Nothing, Evaluated, Declared, Statement, Declare, Empty, Evaluate, Block, If}
use Rattle.c_tree.specs.Program.{While, Do, For, Switch, Break, Continue, Return, Statements, Done, Next}
use Rattle.c_tree.specs.Program.{Function, Program}
use Rattle.c_tree.specs.Sizes.{statements_height}
use Rattle.c_tree.specs.WellTyped.{IsTypedFunction, first_numbers, functions_numbers, item_number}
use Rattle.c_tree.specs.WellTyped.{statement_numbers, statements_numbers}
use Rattle.flow_graph.specs.declared.op.Op.{Op}
use Rattle.flow_graph.specs.declared.op.Op.TheVariants as op
use Rattle.flow_graph.specs.Graphs.{Flow, IsDistinct, IsIn, IsPlaced, is_end}
use Rattle.flow_graph.specs.Kinds.{marked}
use Rattle.flow_graph.specs.Shapes.{if_any}
use Rattle.lower_lines.specs.Following.{Closes}
use Rattle.lower_lines.specs.Laws.{MarksHold}
use Rattle.lower_lines.specs.Lines.{Line, Start, Emit, ops_in, points_from, points_in, starts_in}
use Rattle.lower_lines.specs.Lowering.{MarksStatements, first_statement, marks_in, marks_of}
use Rattle.lower_lines.specs.Programs.{blocks_of_function, graph_of_function, lines_of_function}
use Rattle.lower_lines.specs.Shown.{numbers_in, numbers_in_first, numbers_of}
use Rattle.lower_lines.specs.Variables.{Context}
use Rattle.lower_lines.proofs.Closing.{function-lays, lines-close}
use Rattle.lower_lines.proofs.Filling.{Lays}
use Rattle.lower_lines.proofs.Shapes.{get-map, get-range, points-are}
use Rattle.lower_lines.proofs.Weighings.{function-weighs}

-- ---- how many numbers there are

pub numbers-first : (first : First) → length (first_numbers first) ≡ numbers_in_first first
numbers-first Nothing = refl
numbers-first (Evaluated e) = refl
numbers-first (Declared items) = length-map items item_number

mutual
  numbers-in : (x : Statement) → length (statement_numbers x) ≡ numbers_in x
  numbers-in (Declare item) = refl
  numbers-in (Empty n) = refl
  numbers-in (Evaluate n e) = refl
  numbers-in (Block body) = numbers-of body
  numbers-in (If n e a b) =
      let l = length-append (statement_numbers a) (statement_numbers b) in
      let h = numbers-in a in
      let k = numbers-in b in
      omega (arith, l, h, k)
  numbers-in (While n e s) = let h = numbers-in s in omega (arith, h)
  numbers-in (Do n s e) = let h = numbers-in s in omega (arith, h)
  numbers-in (For n first test after s) =
      let l = length-append (first_numbers first) (statement_numbers s) in
      let h = numbers-first first in
      let k = numbers-in s in
      omega (arith, l, h, k)
  numbers-in (Switch n e labels body) = let h = numbers-of body in omega (arith, h)
  numbers-in (Break n) = refl
  numbers-in (Continue n) = refl
  numbers-in (Return n value) = refl

  pub numbers-of : (xs : Statements) → length (statements_numbers xs) ≡ numbers_of xs
  numbers-of Done = refl
  numbers-of (Next s others) =
      let l = length-append (statement_numbers s) (statements_numbers others) in
      let h = numbers-in s in
      let k = numbers-of others in
      omega (arith, l, h, k)

-- ---- numbers that count up

-- two lists that count up together
range-parts : (a : ℕ) (xs ys : List ℕ) → xs ++ ys ≡ range_with_len a (length (xs ++ ys))
    → (xs ≡ range_with_len a (length xs)) × (ys ≡ range_with_len (a + length xs) (length ys))
range-parts a [] ys e = let k : a ≡ a + 0 = omega arith in (refl, rw (← k) e)
range-parts a (x ∷ xs) ys e =
    let (first, rest) = range-parts (a + 1) xs ys (tails x a (xs ++ ys) (range_with_len (a + 1) (length (xs
    ++ ys))) e) in
    let k : a + 1 + length xs ≡ a + length (x ∷ xs) = omega arith in (
      ap (λ (l : List ℕ). x ∷ l) first
          ∙ ap (λ (n : ℕ). n ∷ range_with_len (a + 1) (length xs))
          (heads x a (xs ++ ys) (range_with_len (a + 1) (length (xs ++ ys))) e),
      rest ∙ ap (λ (n : ℕ). range_with_len n (length ys)) k,
    )
  where
    tails : (x y : ℕ) (xs ys : List ℕ) → x ∷ xs ≡ y ∷ ys → xs ≡ ys
    tails x y xs ys e = cc

    heads : (x y : ℕ) (xs ys : List ℕ) → x ∷ xs ≡ y ∷ ys → x ≡ y
    heads x y xs ys e = cc

-- a function's statements count up from its first
function-numbers : (a : ℕ) (fs : List Function) (k : ℕ) (f : Function)
    → functions_numbers fs ≡ range_with_len a (length (functions_numbers fs)) → slice_get fs k ≡ Some f
    → statements_numbers f.body ≡ range_with_len (a + first_statement fs k) (numbers_of f.body)
function-numbers a [] k f e at = absurd (cc)
function-numbers a (g ∷ gs) zero f e at =
    let (first, rest) = range-parts a (statements_numbers g.body) (functions_numbers gs) e in
    let same : g ≡ f = one-some g f at in
    let k : a ≡ a + first_statement (g ∷ gs) 0 = omega arith in
    subst (λ (h : Function). statements_numbers h.body
    ≡ range_with_len (a + first_statement (g ∷ gs) 0) (numbers_of h.body)) same
    (first ∙ ap (λ (n : ℕ). range_with_len a n) (numbers-of g.body)
    ∙ ap (λ (n : ℕ). range_with_len n (numbers_of g.body)) k)
  where
    one-some : (y x : Function) → Some y ≡ Some x → y ≡ x
    one-some y x e = cc
function-numbers a (g ∷ gs) (suc k) f e at =
    let (first, rest) = range-parts a (statements_numbers g.body) (functions_numbers gs) e in
    let n = numbers-of g.body in
    let s = sum_by-cons (λ (h : Function). numbers_of h.body) g (take k gs) in
    let sum : a + length (statements_numbers g.body) + first_statement gs k ≡ a + first_statement (g ∷ gs) (suc k)
    = omega (arith, n, s) in
    function-numbers (a + length (statements_numbers g.body)) gs k f rest at
    ∙ ap (λ (n : ℕ). range_with_len n (numbers_of f.body)) sum

range-above : (x a n : ℕ) → x < a → AllByRecursion (λ q. q ≢ x) (range_with_len a n)
range-above x a zero h = tt
range-above x a (suc n) h = ((λ e. not x a h e), range-above x (a + 1) n (omega (arith, h)))
  where
    not : (x a : ℕ) → x < a → a ≡ x → ⊥
    not x a h e = omega (arith, h, e)

range-distinct : (a n : ℕ) → IsDistinct (range_with_len a n)
range-distinct a zero = tt
range-distinct a (suc n) = (range-above a (a + 1) n (omega arith), range-distinct (a + 1) n)

-- what is in a range
range-at : (a n j x : ℕ) → slice_get (range_with_len a n) j ≡ Some x → (a ≤ x) × (x < a + n)
range-at a zero j x e = absurd (cc)
range-at a (suc n) zero x e = let h = one-some a x e in (omega (arith, h), omega (arith, h))
  where
    one-some : (y x : ℕ) → Some y ≡ Some x → y ≡ x
    one-some y x e = cc
range-at a (suc n) (suc j) x e = let (h, k) = range-at (a + 1) n j x e in (omega (arith, h), omega (arith, k))

-- ---- the marks of ops

marked-mark : (i : Op) (n : ℕ) → marked i ≡ Some n → i ≡ op.Mark n
marked-mark (op.Mark m) n e = ap op.Mark (one-some m n e)
  where
    one-some : (y x : ℕ) → Some y ≡ Some x → y ≡ x
    one-some y x e = cc
marked-mark _ n e = absurd (cc)

-- a mark among those of ops stands at a point
mark-point : (is : List Op) (j n : ℕ) → slice_get (marks_in is) j ≡ Some n
    → (point : ℕ) × (slice_get is point ≡ Some (op.Mark n))
mark-point [] j n e = absurd (cc)
mark-point (i ∷ is) j n e = by_mark (marked i) refl j e (λ k h. mark-point is k n h)
  where
    by_mark : (m : Option ℕ) → marked i ≡ m → (j : ℕ) → slice_get (if_any m ++ marks_in is) j ≡ Some n
        → ((k : ℕ) → slice_get (marks_in is) k ≡ Some n → (point : ℕ) × (slice_get is point ≡ Some (op.Mark n)))
        → (point : ℕ) × (slice_get (i ∷ is) point ≡ Some (op.Mark n))
    by_mark None h j e rest = let (point, at) = rest j e in (suc point, at)
    by_mark (Some m) h zero e rest = (0, ap Some (marked-mark i n (h ∙ e)))
    by_mark (Some m) h (suc j) e rest = let (point, at) = rest j e in (suc point, at)

-- a point's mark is among those of the ops
point-mark : (is : List Op) (point n : ℕ) → slice_get is point ≡ Some (op.Mark n)
    → (j : ℕ) × (slice_get (marks_in is) j ≡ Some n)
point-mark [] point n e = absurd (cc)
point-mark (i ∷ is) zero n e = (
  0,
  subst (λ (k : Op). slice_get (marks_in (k ∷ is)) 0 ≡ Some n) (sym
      (one-some i n e)) refl,
)
  where
    one-some : (i : Op) (n : ℕ) → Some i ≡ Some (op.Mark n) → i ≡ op.Mark n
    one-some i n e = cc
point-mark (i ∷ is) (suc point) n e = let (j, at) = point-mark is point n e in by_mark (marked i) j at
  where
    by_mark : (m : Option ℕ) (j : ℕ) → slice_get (marks_in is) j ≡ Some n
        → (k : ℕ) × (slice_get (if_any m ++ marks_in is) k ≡ Some n)
    by_mark None j at = (j, at)
    by_mark (Some m) j at = (suc j, at)

-- ---- every point is in a block

-- A point of lines is in the block that is open there, which has been started.
placed : (P : ℕ → Type 0) (open' p : ℕ) (o : Bool) (lines : List Line) → Closes o lines false → (o ≡ true → P open')
    → AllByRecursion P (starts_in lines) → (j : ℕ) → j < length (ops_in lines)
    → (block : ℕ) × P block × ((here : Bool) → (o ≡ true → here ≡ (open' == block))
    → IsIn (p + j) (points_from block p here lines))
placed P open' p o [] c h all j less = absurd (omega (arith, less))
placed P open' p o (Start b ∷ lines) c h all j less =
    let (block, is, at) = placed P b p true lines c.1 (λ e. all.0) all.1 j less in
    (block, is, (λ here k. at (b == block) (λ e. refl)))
placed P open' p o (Emit i ∷ lines) c h all zero less = (
  open',
  h c.0,
  (λ here k.
      let e : here ≡ true = k c.0 ∙ eq-eqb open' open' refl in
      let z : p ≡ p + 0 = omega arith in
      subst (λ (b : Bool). IsIn (p + 0) (points_from open' p b (Emit i ∷ lines))) (sym e) (inl z)),
)
placed P open' p o (Emit i ∷ lines) c h all (suc j) less =
    let (block, is, at) = placed P open' (suc p) (if is_end i then false else true) lines c.1 (λ e. h c.0) all j
    (omega (arith, less)) in
    (block, is, (λ here k. behind block here (at here (λ e. k c.0))))
  where
    behind : (block : ℕ) (here : Bool) → IsIn (suc p + j) (points_from block (suc p) here lines)
        → IsIn (p + suc j) (points_from block p here (Emit i ∷ lines))
    behind block true h =
        let e : suc p + j ≡ p + suc j = omega arith in
        inr (subst (λ (n : ℕ). IsIn n (points_from block (suc p) true lines)) e h)
    behind block false h =
        let e : suc p + j ≡ p + suc j = omega arith in
        subst (λ (n : ℕ). IsIn n (points_from block (suc p) false lines)) e h

pub point-placed : (p : Program) (f : Function)
    → Lays 0 (blocks_of_function (record { program = p; function = f })) false false
    (lines_of_function (record { program = p; function = f })) → (point : ℕ)
    → point < length (graph_of_function p f).ops → IsPlaced (graph_of_function p f) point
point-placed p f h point less =
    let c : Context = record { program = p; function = f } in
    let lines = lines_of_function c in
    let close = lines-close c h in
    let (block, is, at) = placed (λ b. b < blocks_of_function c) 0 0 false lines close.closed
    (λ e. absurd (false≢true e))
    (recursion_from_All (λ b. b < blocks_of_function c) (starts_in lines) close.inside) point less in
    let plain : 0 + point ≡ point = omega arith in (
      block,
      subst (λ (ps : List ℕ). IsIn point ps) (sym (points-are p f block is))
          (subst (λ (n : ℕ). IsIn n (points_in block lines)) plain (at false (λ e. absurd (false≢true e)))),
    )

-- ---- all marks

function-marks : (p : Program) (f : Function)
    → marks_in (graph_of_function p f).ops ≡ statements_numbers f.body
function-marks p f =
    (function-weighs (2 * statements_height f.body) (record { program = p; function = f }) (omega arith)).has

program-marks : (p : Program) (fs : List Function)
    → marks_of (map (graph_of_function p) fs) ≡ functions_numbers fs
program-marks p [] = refl
program-marks p (f ∷ fs) =
    ap (λ (l : List ℕ). l ++ marks_of (map (graph_of_function p) fs)) (function-marks p f)
    ∙ ap (λ (l : List ℕ). statements_numbers f.body ++ l) (program-marks p fs)

-- the marks of a function's graph, where its statements count up from one on
function-marked : (p : Program) (f : Function) (first : ℕ)
    → Lays 0 (blocks_of_function (record { program = p; function = f })) false false
    (lines_of_function (record { program = p; function = f }))
    → statements_numbers f.body ≡ range_with_len first (numbers_of f.body)
    → MarksStatements first f (graph_of_function p f)
function-marked p f first h e = record {
  marked = λ n le less.
      let j = n - first in
      let sum : first + j ≡ n = omega (arith, le) in
      let at : slice_get (marks_in (graph_of_function p f).ops) j ≡ Some n =
      ap (λ (l : List ℕ). slice_get l j) (function-marks p f ∙ e)
      ∙ get-range first (numbers_of f.body) j (omega (arith, le, less)) ∙ ap Some sum in
      let (point, is) = mark-point (graph_of_function p f).ops j n at in
      (point, point-placed p f h point (slice_get_within (graph_of_function p f).ops point (op.Mark n) is), is);
  only = λ point n is.
      let (j, at) = point-mark (graph_of_function p f).ops point n is in
      range-at first (numbers_of f.body) j n
      (ap (λ (l : List ℕ). slice_get l j) (sym (function-marks p f ∙ e)) ∙ at);
}

pub marks-hold : MarksHold
marks-hold p well = (
  subst (λ (l : List ℕ). IsDistinct l) (sym (program-marks p p.functions ∙ well.numbered))
      (range-distinct 0 (length (functions_numbers p.functions))),
  (λ k f flow at at'.
      let typed = all-at (IsTypedFunction p) p.functions k f
      (recursion_from_All (IsTypedFunction p) p.functions well.functions) at in
      let numbers = function-numbers 0 p.functions k f well.numbered at in
      let plain : 0 + first_statement p.functions k ≡ first_statement p.functions k = omega arith in
      subst (λ (g : Flow). MarksStatements (first_statement p.functions k) f g)
      (sym (get-map (graph_of_function p) p.functions k f flow at at'))
      (function-marked p f (first_statement p.functions k) (function-lays p f well.functions typed)
      (numbers ∙ ap (λ (n : ℕ). range_with_len n (numbers_of f.body)) plain))),
)
