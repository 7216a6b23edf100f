-- The labels and points among the items of a graph, over any placement: each stands once, and the points are those of
-- the blocks.
use Rattle.std.specs.List.{AllByRecursion}
use Rattle.std.proofs.Common.{◌≡◌, ◌≢◌, ℕ, zero, suc, ◌+◌, ◌<◌, ◌≤◌, Bool, List, [], ◌∷◌, ◌++◌, length, Option, Some}
use Rattle.std.proofs.Common.{None, refl, sym, ap, subst, ◌∙◌, inl, inr, arith, eqb, cond, length-append}
use Rattle.std.specs.Prelude.{◌⊎◌, map, nat_lt, pos, slice_get, slice_index_or}
use Rattle.std.proofs.lemmas.Bool.Decides.{eqb_tells}
use Rattle.std.proofs.lemmas.Option.{same_Some, slice_get_within}
use Rattle.pcc_base.proofs.Lists.{all-weaker}
use Rattle.ia32_insn.specs.declared.register_names.Reg32.TheVariants.{Esp, Esi, Edi}
use Rattle.ia32_insn.specs.declared.operand.Rm32.TheVariants as rm
use Rattle.ia32_insn.specs.declared.insn.Cond.{Cond}
use Rattle.ia32_insn.specs.declared.insn.Insn.{Insn}
use Rattle.ia32_insn.specs.declared.insn.Insn.TheVariants as insn
use Rattle.ia32_insn.specs.declared.item.Item.{Item}
use Rattle.ia32_insn.specs.declared.item.Item.TheVariants as item
use Rattle.ia32_insn.specs.Items.{plain}
use Rattle.flow_graph.specs.declared.op.Op.{Op}
use Rattle.flow_graph.specs.declared.op.Op.TheVariants as op
use Rattle.flow_graph.specs.Graphs.{Flow, IsIn, IsDistinct, IsEnded, IsFlow, LastIsEnd, points_of, without}
use Rattle.flow_graph.proofs.Points.{every-in, every-without, distinct-without, choose, every-from}
use Rattle.ia32_rows.specs.Placements.{Placement, below}
use Rattle.ia32_rows.specs.Once.{LabelsStandOnce, PointsArePlaced, PointsStandOnce}
use Rattle.ia32_rows.specs.Filling.{fill}
use Rattle.ia32_rows.specs.Rows.{block_rows, branching, choosing, comparing, cond_of, cond_of_order, entry_label}
use Rattle.ia32_rows.specs.Rows.{headers, jumping, loop_label, moves_into, moves_to, place_before, point_rows, prologue, row, selected}
use Rattle.ia32_rows.proofs.ItemKinds.{IsOther, IsRowItem, comparing-row, either-way, other-is, plain-others, row-is}

-- ---- numbers of items

-- the number of a label, and of a point
abbrev pub label_of : Item → Option ℕ
label_of (item.Label l) = Some l
label_of i = None

abbrev pub point_of : Item → Option ℕ
point_of (item.Point p) = Some p
point_of i = None

-- the number, if there is one, before others
abbrev pub before : Option ℕ → List ℕ → List ℕ
before None ns = ns
before (Some n) ns = n ∷ ns

-- the numbers of those items that have one
abbrev pub numbers : (Item → Option ℕ) → List Item → List ℕ
numbers f [] = []
numbers f (i ∷ items) = before (f i) (numbers f items)

before-append : (o : Option ℕ) (xs ys : List ℕ) → before o (xs ++ ys) ≡ before o xs ++ ys
before-append None xs ys = refl
before-append (Some n) xs ys = refl

numbers-append : (f : Item → Option ℕ) (xs ys : List Item) → numbers f (xs ++ ys) ≡ numbers f xs ++ numbers f ys
numbers-append f [] ys = refl
numbers-append f (x ∷ xs) ys = ap (before (f x)) (numbers-append f xs ys)
    ∙ before-append (f x) (numbers f xs) (numbers f ys)

in-before : (o : Option ℕ) (ns : List ℕ) (n : ℕ) → IsIn n ns → IsIn n (before o ns)
in-before None ns n h = h
in-before (Some m) ns n h = inr h

first-before : (o : Option ℕ) (ns : List ℕ) (n : ℕ) → o ≡ Some n → before o ns ≡ n ∷ ns
first-before o ns n e = ap (λ (x : Option ℕ). before x ns) e

-- the number of an item is among the numbers
numbers-in : (f : Item → Option ℕ) (items : List Item) (j n : ℕ) (i : Item) → slice_get items j ≡ Some i → f i ≡ Some n
    → IsIn n (numbers f items)
numbers-in f [] j n i e has = absurd (cc)
numbers-in f (x ∷ xs) zero n i e has =
    let mine : f x ≡ Some n = ap f (same_Some x i e) ∙ has in
    subst (IsIn n) (sym (first-before (f x) (numbers f xs) n mine)) (inl refl)
numbers-in f (x ∷ xs) (suc j) n i e has = in-before (f x) (numbers f xs) n (numbers-in f xs j n i e has)

-- and each of them is that of an item
numbers-from : (f : Item → Option ℕ) (items : List Item) (n : ℕ) → IsIn n (numbers f items) → (j : ℕ) × (i : Item)
    × (slice_get items j ≡ Some i) × (f i ≡ Some n)
numbers-from f [] n h = absurd h
numbers-from f (x ∷ xs) n h = at (f x) refl (λ k. let m = numbers-from f xs n k in (suc m.0, m.1, m.2, m.3)) h
  where
    at : (o : Option ℕ) → f x ≡ o → (IsIn n (numbers f xs) → (j : ℕ) × (i : Item) × (slice_get (x ∷ xs) j ≡ Some i)
        × (f i ≡ Some n)) → IsIn n (before o (numbers f xs)) → (j : ℕ) × (i : Item) × (slice_get (x ∷ xs) j ≡ Some i)
        × (f i ≡ Some n)
    at None e later k = later k
    at (Some m) e later (inl same) = (0, x, refl, e ∙ ap Some same)
    at (Some m) e later (inr k) = later k

distinct-rest : (o : Option ℕ) (ns : List ℕ) → IsDistinct (before o ns) → IsDistinct ns
distinct-rest None ns d = d
distinct-rest (Some n) ns d = d.1

distinct-first : (o : Option ℕ) (ns : List ℕ) (n : ℕ) → o ≡ Some n → IsDistinct (before o ns) → IsIn n ns → ⊥
distinct-first o ns n e d h =
    let whole : IsDistinct (n ∷ ns) = subst IsDistinct (first-before o ns n e) d in
    every-in (λ q. q ≢ n) n ns whole.0 h refl

-- where no number stands twice, an item with a number stands once
once : (f : Item → Option ℕ) (items : List Item) (i j n : ℕ) (x y : Item) → IsDistinct (numbers f items)
    → slice_get items i ≡ Some x → slice_get items j ≡ Some y → f x ≡ Some n → f y ≡ Some n → i ≡ j
once f [] i j n x y d a b one two = absurd (cc)
once f (z ∷ zs) zero zero n x y d a b one two = refl
once f (z ∷ zs) zero (suc j) n x y d a b one two =
    absurd (distinct-first (f z) (numbers f zs) n (ap f (same_Some z x a) ∙ one) d (numbers-in f zs j n y b two))
once f (z ∷ zs) (suc i) zero n x y d a b one two =
    absurd (distinct-first (f z) (numbers f zs) n (ap f (same_Some z y b) ∙ two) d (numbers-in f zs i n x a one))
once f (z ∷ zs) (suc i) (suc j) n x y d a b one two =
    let same : i ≡ j = once f zs i j n x y (distinct-rest (f z) (numbers f zs) d) a b one two in
    ap suc same

-- ---- the numbers of rows

-- the items of a row are no points
row-points : (items : List Item) → AllByRecursion IsRowItem items → numbers point_of items ≡ []
row-points [] h = refl
row-points (item.Plain i ∷ items) h = row-points items h.1
row-points (item.Label l ∷ items) h = row-points items h.1
row-points (item.Point p ∷ items) h = absurd h.0
row-points (item.JumpTo l ∷ items) h = row-points items h.1
row-points (item.JumpIf c l ∷ items) h = row-points items h.1
row-points (item.CallFunction f ∷ items) h = row-points items h.1
row-points (item.CallStub t ∷ items) h = row-points items h.1
row-points (item.JumpTrap c ∷ items) h = row-points items h.1
row-points (item.AddressOf r k ∷ items) h = row-points items h.1

-- and most are no labels
others-labels : (items : List Item) → AllByRecursion IsOther items → numbers label_of items ≡ []
others-labels [] h = refl
others-labels (item.Plain i ∷ items) h = others-labels items h.1
others-labels (item.Label l ∷ items) h = absurd h.0
others-labels (item.Point p ∷ items) h = absurd h.0
others-labels (item.JumpTo l ∷ items) h = others-labels items h.1
others-labels (item.JumpIf c l ∷ items) h = others-labels items h.1
others-labels (item.CallFunction f ∷ items) h = others-labels items h.1
others-labels (item.CallStub t ∷ items) h = others-labels items h.1
others-labels (item.JumpTrap c ∷ items) h = others-labels items h.1
others-labels (item.AddressOf r k ∷ items) h = others-labels items h.1

-- plain instructions have neither
plain-numbers : (f : Item → Option ℕ) → ((i : Insn) → f (item.Plain i) ≡ None) → (insns : List Insn)
    → numbers f (map item.Plain insns) ≡ []
plain-numbers f none [] = refl
plain-numbers f none (i ∷ insns) =
    ap (λ (o : Option ℕ). before o (numbers f (map item.Plain insns))) (none i) ∙ plain-numbers f none insns

moves-labels : (placement : Placement) (p : ℕ) (next : Option ℕ) → numbers label_of (moves_to placement p next) ≡ []
moves-labels placement p None = refl
moves-labels placement p (Some q) = plain-numbers label_of (λ i. refl) (placement.between p q)

moves-points : (placement : Placement) (p : ℕ) (next : Option ℕ) → numbers point_of (moves_to placement p next) ≡ []
moves-points placement p None = refl
moves-points placement p (Some q) = plain-numbers point_of (λ i. refl) (placement.between p q)

-- a jump behind moves has no label, and a choice of two has none or that of its detour
jumping-labels : (moves : List Item) (l : ℕ) → numbers label_of moves ≡ [] → numbers label_of (jumping moves l) ≡ []
jumping-labels moves l none =
    numbers-append label_of moves (item.JumpTo l ∷ []) ∙ ap (λ (ns : List ℕ). ns ++ []) none

choosing-labels : (c : Cond) (detour taken other : ℕ) (first moves : List Item) → numbers label_of first ≡ []
    → numbers label_of moves ≡ [] → (numbers label_of (choosing c detour first moves taken other) ≡ [])
    ⊎ (numbers label_of (choosing c detour first moves taken other) ≡ detour ∷ [])
choosing-labels c detour taken other [] moves a b = inl (jumping-labels moves other b)
choosing-labels c detour taken other (x ∷ xs) moves a b =
    inr (numbers-append label_of (jumping moves other) (item.Label detour ∷ jumping (x ∷ xs) taken)
    ∙ ap (λ (ns : List ℕ). ns ++ (detour ∷ numbers label_of (jumping (x ∷ xs) taken))) (jumping-labels moves other b)
    ∙ ap (λ (ns : List ℕ). detour ∷ ns) (jumping-labels (x ∷ xs) taken a))

branching-labels : (flow : Flow) (placement : Placement) (p : ℕ) (c : Cond) (a b x y : ℕ)
    → let items : List Item = branching c (loop_label flow p) (place_before placement p a) (place_before placement p b)
    (moves_into flow placement p x) (moves_into flow placement p y) x y in
    (numbers label_of items ≡ []) ⊎ (numbers label_of items ≡ loop_label flow p ∷ [])
branching-labels flow placement p c a b x y =
    let first : List Item = comparing (place_before placement p a) (place_before placement p b) in
    let rest : List Item = choosing c (loop_label flow p) (moves_into flow placement p x) (moves_into flow placement p y) x
    y in
    let none : numbers label_of (first ++ rest) ≡ numbers label_of rest =
    numbers-append label_of first rest ∙ ap (λ (ns : List ℕ). ns ++ numbers label_of rest)
    (others-labels first (plain-others first (comparing-row (place_before placement p a)
    (place_before placement p b)).0)) in
    subst (λ (ns : List ℕ). (ns ≡ []) ⊎ (ns ≡ loop_label flow p ∷ [])) (sym none)
    (choosing-labels c (loop_label flow p) x y (moves_into flow placement p x) (moves_into flow placement p y)
    (moves-labels placement p (slice_get (points_of flow x) 0))
    (moves-labels placement p (slice_get (points_of flow y) 0)))

-- a row has no label, or its loop's or detour's alone
row-labels : (flow : Flow) (placement : Placement) (p : ℕ) (o : Op)
    → (numbers label_of (row flow placement p o) ≡ [])
    ⊎ (numbers label_of (row flow placement p o) ≡ loop_label flow p ∷ [])
row-labels flow placement p (op.Mark s) = inl refl
row-labels flow placement p op.Turn = inl refl
row-labels flow placement p (op.Clear k) = inr refl
row-labels flow placement p (op.Jump x) =
    inl (jumping-labels (moves_into flow placement p x) x (moves-labels placement p (slice_get (points_of flow x) 0)))
row-labels flow placement p (op.Branch how a b x y) = branching-labels flow placement p (cond_of how) a b x y
row-labels flow placement p (op.Branchu how a b x y) = branching-labels flow placement p (cond_of_order how) a b x y
row-labels flow placement p o =
    inl (others-labels (row flow placement p o) (other-is flow placement p o refl refl).0)

point_rows-points : (flow : Flow) (placement : Placement) (points : List ℕ)
    → numbers point_of (point_rows flow placement points) ≡ points
point_rows-points flow placement [] = refl
point_rows-points flow placement (p ∷ ps) =
    let o : Op = slice_index_or flow.ops p op.Turn in
    let mine : List Item = row flow placement p o in
    let moves : List Item = moves_to placement p (slice_get ps 0) in
    let rest : List Item = point_rows flow placement ps in
    ap (λ (l : List ℕ). p ∷ l) (numbers-append point_of mine (moves ++ rest)
    ∙ ap (λ (l : List ℕ). l ++ numbers point_of (moves ++ rest)) (row-points mine (row-is flow placement p o).0)
    ∙ numbers-append point_of moves rest
    ∙ ap (λ (l : List ℕ). l ++ numbers point_of rest) (moves-points placement p (slice_get ps 0))
    ∙ point_rows-points flow placement ps)

-- the points of all blocks
abbrev pub all_points : List (List ℕ) → List ℕ
all_points [] = []
all_points (points ∷ blocks) = points ++ all_points blocks

block_rows-points : (flow : Flow) (placement : Placement) (k : ℕ) (blocks : List (List ℕ))
    → numbers point_of (block_rows flow placement k blocks) ≡ all_points blocks
block_rows-points flow placement k [] = refl
block_rows-points flow placement k (points ∷ blocks) =
    numbers-append point_of (item.Label k ∷ point_rows flow placement points) (block_rows flow placement (suc k) blocks)
    ∙ ap (λ (l : List ℕ). l ++ numbers point_of (block_rows flow placement (suc k) blocks))
    (point_rows-points flow placement points)
    ∙ ap (λ (l : List ℕ). points ++ l) (block_rows-points flow placement (suc k) blocks)

-- the numbers of elements have neither
headers-points : (arrays : List (ℕ × ℕ)) (belows : List ℕ) → numbers point_of (headers arrays belows) ≡ []
headers-points arrays [] = refl
headers-points [] (d ∷ belows) = refl
headers-points (array ∷ arrays) (d ∷ belows) = headers-points arrays belows

headers-labels : (arrays : List (ℕ × ℕ)) (belows : List ℕ) → numbers label_of (headers arrays belows) ≡ []
headers-labels arrays [] = refl
headers-labels [] (d ∷ belows) = refl
headers-labels (array ∷ arrays) (d ∷ belows) = headers-labels arrays belows

-- the first items have no point, and one label at most
abbrev first_loop : ℕ → ℕ → List Item
first_loop zeroed label =
    plain (insn.MovImm (rm.Reg Esi) (pos 0)) ∷ plain (insn.Lea Edi (below zeroed)) ∷ fill Edi Esi Esp label

prologue-points : (frame zeroed label : ℕ) → numbers point_of (prologue frame zeroed label) ≡ []
prologue-points frame zeroed label =
    either-way (λ (items : List Item). numbers point_of items ≡ []) (nat_lt zeroed frame) (first_loop zeroed label) []
    refl refl

prologue-labels : (frame zeroed label : ℕ) → (numbers label_of (prologue frame zeroed label) ≡ [])
    ⊎ (numbers label_of (prologue frame zeroed label) ≡ label ∷ [])
prologue-labels frame zeroed label =
    either-way (λ (items : List Item). (numbers label_of items ≡ []) ⊎ (numbers label_of items ≡ label ∷ []))
    (nat_lt zeroed frame) (first_loop zeroed label) [] (inr refl) (inl refl)

-- the numbers of a graph's items are those of its first items and of its blocks
selected-numbers : (f : Item → Option ℕ) (flow : Flow) (placement : Placement)
    → numbers f (headers flow.arrays placement.arrays) ≡ []
    → numbers f (selected flow placement)
    ≡ numbers f (prologue placement.frame placement.zeroed (entry_label flow))
    ++ numbers f (block_rows flow placement 0 flow.blocks)
selected-numbers f flow placement none =
    let first : List Item = prologue placement.frame placement.zeroed (entry_label flow) in
    let middle : List Item = headers flow.arrays placement.arrays in
    let blocks : List Item = block_rows flow placement 0 flow.blocks in
    numbers-append f first (middle ++ blocks)
    ∙ ap (λ (l : List ℕ). numbers f first ++ l) (numbers-append f middle blocks)
    ∙ ap (λ (l : List ℕ). numbers f first ++ (l ++ numbers f blocks)) none

pub selected-points : (flow : Flow) (placement : Placement)
    → numbers point_of (selected flow placement) ≡ all_points flow.blocks
selected-points flow placement =
    selected-numbers point_of flow placement (headers-points flow.arrays placement.arrays)
    ∙ ap (λ (l : List ℕ). l ++ numbers point_of (block_rows flow placement 0 flow.blocks))
    (prologue-points placement.frame placement.zeroed (entry_label flow))
    ∙ block_rows-points flow placement 0 flow.blocks

selected-labels : (flow : Flow) (placement : Placement) → numbers label_of (selected flow placement)
    ≡ numbers label_of (prologue placement.frame placement.zeroed (entry_label flow))
    ++ numbers label_of (block_rows flow placement 0 flow.blocks)
selected-labels flow placement =
    selected-numbers label_of flow placement (headers-labels flow.arrays placement.arrays)

-- ---- no point twice

in-front : (xs ys : List ℕ) (n : ℕ) → IsIn n xs → IsIn n (xs ++ ys)
in-front [] ys n h = absurd h
in-front (x ∷ xs) ys n (inl e) = inl e
in-front (x ∷ xs) ys n (inr h) = inr (in-front xs ys n h)

in-back : (xs ys : List ℕ) (n : ℕ) → IsIn n ys → IsIn n (xs ++ ys)
in-back [] ys n h = h
in-back (x ∷ xs) ys n h = inr (in-back xs ys n h)

in-either : (xs ys : List ℕ) (n : ℕ) → IsIn n (xs ++ ys) → IsIn n xs ⊎ IsIn n ys
in-either [] ys n h = inr h
in-either (x ∷ xs) ys n (inl e) = inl (inl e)
in-either (x ∷ xs) ys n (inr h) = elim (in-either xs ys n h) [ inl a ↦ inl (inr a) | inr b ↦ inr b ]

-- a point is among all points where it is in a block
in-block : (blocks : List (List ℕ)) (n b : ℕ) → IsIn n (slice_index_or blocks b []) → IsIn n (all_points blocks)
in-block [] n b h = absurd (nowhere b h)
  where
    nowhere : (k : ℕ) → IsIn n (slice_index_or [] k []) → ⊥
    nowhere zero none = none
    nowhere (suc k) none = none
in-block (points ∷ blocks) n zero h = in-front points (all_points blocks) n h
in-block (points ∷ blocks) n (suc b) h = in-back points (all_points blocks) n (in-block blocks n b h)

block-in : (blocks : List (List ℕ)) (n : ℕ) → IsIn n (all_points blocks) → (b : ℕ) × IsIn n (slice_index_or blocks b [])
block-in [] n h = absurd h
block-in (points ∷ blocks) n h =
    elim (in-either points (all_points blocks) n h) [
      | inl a ↦ (0, a)
      | inr k ↦ let m = block-in blocks n k in (suc m.0, m.1)
    ]

every-but : (xs ys : List ℕ) (x : ℕ) → AllByRecursion (λ q. q ≢ x) xs → (IsIn x ys → ⊥)
    → AllByRecursion (λ q. q ≢ x) (xs ++ ys)
every-but [] [] x a b = tt
every-but [] (y ∷ ys) x a b = (λ e. b (inl e), every-but [] ys x tt (λ h. b (inr h)))
every-but (z ∷ xs) ys x a b = (a.0, every-but xs ys x a.1 b)

distinct-join : (xs ys : List ℕ) → IsDistinct xs → IsDistinct ys → ((n : ℕ) → IsIn n xs → IsIn n ys → ⊥)
    → IsDistinct (xs ++ ys)
distinct-join [] ys a b apart = b
distinct-join (x ∷ xs) ys a b apart = (
  every-but xs ys x a.0 (apart x (inl refl)),
  distinct-join xs ys a.1 b (λ n i j. apart n (inr i) j),
)

-- blocks whose points are at home in them have no point twice
points-distinct : (homes : List ℕ) (k : ℕ) (blocks : List (List ℕ))
    → ((b : ℕ) → IsDistinct (slice_index_or blocks b []))
    → ((b : ℕ) → AllByRecursion (λ p. slice_get homes p ≡ Some (k + b)) (slice_index_or blocks b []))
    → IsDistinct (all_points blocks)
points-distinct homes k [] one home = tt
points-distinct homes k (points ∷ blocks) one home =
    let next : (b : ℕ) → AllByRecursion (λ p. slice_get homes p ≡ Some (suc k + b)) (slice_index_or blocks b []) =
    λ b. let e : k + suc b ≡ suc k + b = omega arith in
    subst (λ (h : ℕ). AllByRecursion (λ p. slice_get homes p ≡ Some h) (slice_index_or blocks b [])) e
    (home (suc b)) in
    distinct-join points (all_points blocks) (one 0) (points-distinct homes (suc k) blocks (λ b. one (suc b)) next)
    (λ n i j.
    let m = block-in blocks n j in
    let here : slice_get homes n ≡ Some (k + 0) =
    every-in (λ p. slice_get homes p ≡ Some (k + 0)) n points (home 0) i in
    let there : slice_get homes n ≡ Some (suc k + m.0) =
    every-in (λ p. slice_get homes p ≡ Some (suc k + m.0)) n (slice_index_or blocks m.0 []) (next m.0) m.1 in
    let same : k + 0 ≡ suc k + m.0 = same_Some (k + 0) (suc k + m.0) (sym here ∙ there) in
    omega arith)

pub flow-distinct : (flow : Flow) (homes : List ℕ) → IsFlow flow homes → IsDistinct (all_points flow.blocks)
flow-distinct flow homes f = points-distinct homes 0 flow.blocks (λ b. (f.each_block b).once)
    (λ b. let e : b ≡ 0 + b = omega arith in subst
    (λ (h : ℕ). AllByRecursion (λ p. slice_get homes p ≡ Some h) (points_of flow b)) e (f.each_block b).at_home)

-- no point of a graph's code stands twice
pub points-once : PointsStandOnce
points-once flow homes placement f i j n a b =
    once point_of (selected flow placement) i j n (item.Point n) (item.Point n)
    (subst IsDistinct (sym (selected-points flow placement)) (flow-distinct flow homes f)) a b refl refl

-- ---- a point stands among the items exactly where it stands in a block

point-is : (i : Item) (n : ℕ) → point_of i ≡ Some n → i ≡ item.Point n
point-is (item.Plain x) n e = absurd (cc)
point-is (item.Label l) n e = absurd (cc)
point-is (item.Point p) n e = ap item.Point (same_Some p n e)
point-is (item.JumpTo l) n e = absurd (cc)
point-is (item.JumpIf c l) n e = absurd (cc)
point-is (item.CallFunction f) n e = absurd (cc)
point-is (item.CallStub s) n e = absurd (cc)
point-is (item.JumpTrap c) n e = absurd (cc)
point-is (item.AddressOf r k) n e = absurd (cc)

pub points-placed : PointsArePlaced
points-placed flow placement p = (
  (λ (j, e). block-in flow.blocks p (subst (IsIn p) (selected-points flow placement)
      (numbers-in point_of (selected flow placement) j p (item.Point p) e refl))),
  (λ (b, h).
      let m = numbers-from point_of (selected flow placement) p
      (subst (IsIn p) (sym (selected-points flow placement)) (in-block flow.blocks p b h)) in
      (m.0, m.2 ∙ ap Some (point-is m.1 p m.3))),
)

-- ---- how many points there are

absent : (n : ℕ) (ps : List ℕ) → IsDistinct ps → AllByRecursion (λ q. q ≢ n) (without n ps)
absent n [] d = tt
absent n (p ∷ ps) d =
    choose-absent (absent n ps d.1)
  where
    choose-absent : AllByRecursion (λ q. q ≢ n) (without n ps)
        → AllByRecursion (λ q. q ≢ n) (cond (eqb p n) ps (p ∷ without n ps))
    choose-absent rest = elim (eqb_tells p n) [
      | inl (t, e) ↦ let P : Bool → Type 0 = λ b. AllByRecursion (λ q. q ≢ n) (cond b ps (p ∷ without n ps)) in
          subst P (sym t) (subst (λ (m : ℕ). AllByRecursion (λ q. q ≢ m) ps) e d.0)
      | inr (f, ne) ↦ let P : Bool → Type 0 = λ b. AllByRecursion (λ q. q ≢ n) (cond b ps (p ∷ without n ps)) in
          subst P (sym f) (ne, rest)
    ]

length-without : (n : ℕ) (ps : List ℕ) → length ps ≤ 1 + length (without n ps)
length-without n [] = omega arith
length-without n (p ∷ ps) =
    let rest = length-without n ps in
    choose p n (λ (l : List ℕ). suc (length ps) ≤ 1 + length l) ps (p ∷ without n ps) (λ e. omega arith) (omega arith)

both : (n : ℕ) (ps : List ℕ) → AllByRecursion (λ q. q < suc n) ps → AllByRecursion (λ q. q ≢ n) ps
    → AllByRecursion (λ q. q < n) ps
both n [] a b = tt
both n (p ∷ ps) a b = let less = a.0 in let other = b.0 in (omega arith, both n ps a.1 b.1)

-- numbers below n of which none stands twice are at most n
few : (n : ℕ) (ps : List ℕ) → IsDistinct ps → AllByRecursion (λ q. q < n) ps → length ps ≤ n
few n [] d h = omega arith
few zero (p ∷ ps) d h = let none = h.0 in absurd (omega arith)
few (suc n) (p ∷ ps) d h =
    let less = every-without (λ q. q < suc n) n (p ∷ ps) h in
    let rest = few n (without n (p ∷ ps)) (distinct-without n (p ∷ ps) d)
    (both n (without n (p ∷ ps)) less (absent n (p ∷ ps) d)) in
    let long = length-without n (p ∷ ps) in
    omega arith

-- the first block of a graph has a point, which is its end
some-in : (ops : List Op) (points : List ℕ) → LastIsEnd ops points → 0 < length points
some-in ops [] h = absurd h
some-in ops (p ∷ ps) h = omega arith

pub some-points : (flow : Flow) → 0 < length flow.blocks → IsEnded flow 0 → 0 < length (all_points flow.blocks)
some-points flow some ended = at flow.blocks some ended
  where
    at : (blocks : List (List ℕ)) → 0 < length blocks → LastIsEnd flow.ops (slice_index_or blocks 0 [])
        → 0 < length (all_points blocks)
    at [] k h = absurd (omega arith)
    at (points ∷ blocks) k h =
        let first = some-in flow.ops points h in
        let whole = length-append points (all_points blocks) in
        omega arith

-- the blocks have no more points than there are ops
pub few-points : (flow : Flow) (homes : List ℕ) → IsFlow flow homes → length (all_points flow.blocks) ≤ length flow.ops
few-points flow homes f =
    few (length flow.ops) (all_points flow.blocks) (flow-distinct flow homes f)
    (every-from (λ q. q < length flow.ops) (all_points flow.blocks) (λ n i.
    let m = block-in flow.blocks n i in
    every-in (λ q. q < length flow.ops) n (points_of flow m.0)
    (all-weaker _ (λ q. q < length flow.ops) (points_of flow m.0)
    (λ q fits. slice_get_within flow.ops q fits.0 fits.1) (f.each_block m.0).fits) m.1))

-- ---- no label twice

-- a number of a row's labels is its loop's
row-label : (flow : Flow) (placement : Placement) (p n : ℕ) (o : Op)
    → IsIn n (numbers label_of (row flow placement p o)) → n ≡ loop_label flow p
row-label flow placement p n o h =
    elim (row-labels flow placement p o) [
      | inl none ↦ absurd (subst (IsIn n) none h)
      | inr one ↦ only (subst (IsIn n) one h)
    ]
  where
    only : IsIn n (loop_label flow p ∷ []) → n ≡ loop_label flow p
    only (inl e) = sym e
    only (inr none) = absurd none

row-distinct : (flow : Flow) (placement : Placement) (p : ℕ) (o : Op)
    → IsDistinct (numbers label_of (row flow placement p o))
row-distinct flow placement p o =
    elim (row-labels flow placement p o) [
      | inl none ↦ subst IsDistinct (sym none) tt
      | inr one ↦ subst IsDistinct (sym one) (tt, tt)
    ]

-- the labels of points' rows are those of the first and those of the others
parted-labels : (flow : Flow) (placement : Placement) (p : ℕ) (ps : List ℕ)
    → numbers label_of (point_rows flow placement (p ∷ ps))
    ≡ numbers label_of (row flow placement p (slice_index_or flow.ops p op.Turn))
    ++ numbers label_of (point_rows flow placement ps)
parted-labels flow placement p ps =
    let mine : List Item = row flow placement p (slice_index_or flow.ops p op.Turn) in
    let moves : List Item = moves_to placement p (slice_get ps 0) in
    let rest : List Item = point_rows flow placement ps in
    numbers-append label_of mine (moves ++ rest)
    ∙ ap (λ (l : List ℕ). numbers label_of mine ++ l) (numbers-append label_of moves rest
    ∙ ap (λ (l : List ℕ). l ++ numbers label_of rest) (moves-labels placement p (slice_get ps 0)))

-- the labels of points' rows are those of their loops and detours
points-labels : (flow : Flow) (placement : Placement) (points : List ℕ) (n : ℕ)
    → IsIn n (numbers label_of (point_rows flow placement points)) → (p : ℕ) × IsIn p points × (n ≡ loop_label flow p)
points-labels flow placement [] n h = absurd h
points-labels flow placement (p ∷ ps) n h =
    let o : Op = slice_index_or flow.ops p op.Turn in
    let mine : List ℕ = numbers label_of (row flow placement p o) in
    let rest : List ℕ = numbers label_of (point_rows flow placement ps) in
    elim (in-either mine rest n (subst (IsIn n) (parted-labels flow placement p ps) h)) [
      | inl here ↦ (p, inl refl, row-label flow placement p n o here)
      | inr there ↦ let m = points-labels flow placement ps n there in (m.0, inr m.1, m.2)
    ]

points-labelled : (flow : Flow) (placement : Placement) (points : List ℕ) → IsDistinct points
    → IsDistinct (numbers label_of (point_rows flow placement points))
points-labelled flow placement [] d = tt
points-labelled flow placement (p ∷ ps) d =
    let o : Op = slice_index_or flow.ops p op.Turn in
    let mine : List ℕ = numbers label_of (row flow placement p o) in
    let rest : List ℕ = numbers label_of (point_rows flow placement ps) in
    subst IsDistinct (sym (parted-labels flow placement p ps))
    (distinct-join mine rest (row-distinct flow placement p o) (points-labelled flow placement ps d.1)
    (λ n here there.
    let m = points-labels flow placement ps n there in
    let one = row-label flow placement p n o here in
    let two = m.2 in
    every-in (λ q. q ≢ p) m.0 ps d.0 m.1 (omega (arith, one, two))))

-- A label of blocks' rows is that of one of these blocks, or of the loop of one of their points.
abbrev IsBlockLabel : Flow → ℕ → List (List ℕ) → ℕ → Type 0
IsBlockLabel flow k blocks n = ((k ≤ n) × (n < k + length blocks)) ⊎ ((p : ℕ) × IsIn p (all_points blocks)
    × (n ≡ loop_label flow p))

blocks-labels : (flow : Flow) (placement : Placement) (k : ℕ) (blocks : List (List ℕ)) (n : ℕ)
    → IsIn n (numbers label_of (block_rows flow placement k blocks)) → IsBlockLabel flow k blocks n
blocks-labels flow placement k [] n h = absurd h
blocks-labels flow placement k (points ∷ blocks) n h =
    let mine : List ℕ = numbers label_of (point_rows flow placement points) in
    let rest : List ℕ = numbers label_of (block_rows flow placement (suc k) blocks) in
    elim (in-either (k ∷ mine) rest n (subst (IsIn n)
    (numbers-append label_of (item.Label k ∷ point_rows flow placement points)
    (block_rows flow placement (suc k) blocks)) h)) [
      | inl i ↦ here i
      | inr i ↦ behind (blocks-labels flow placement (suc k) blocks n i)
    ]
  where
    here : IsIn n (k ∷ numbers label_of (point_rows flow placement points)) → IsBlockLabel flow k (points ∷ blocks) n
    here (inl e) = inl (omega (arith, e), omega (arith, e))
    here (inr i) =
        let m = points-labels flow placement points n i in
        inr (m.0, in-front points (all_points blocks) m.0 m.1, m.2)

    behind : IsBlockLabel flow (suc k) blocks n → IsBlockLabel flow k (points ∷ blocks) n
    behind (inl (low, high)) = inl (omega (arith, low), omega (arith, high))
    behind (inr (p, i, e)) = inr (p, in-back points (all_points blocks) p i, e)

-- of numbers of which none stands twice, those in front are none of those behind
distinct-parts : (xs ys : List ℕ) → IsDistinct (xs ++ ys) → IsDistinct xs × IsDistinct ys
    × ((n : ℕ) → IsIn n xs → IsIn n ys → ⊥)
distinct-parts [] ys d = (tt, d, (λ n i j. i))
distinct-parts (x ∷ xs) ys d =
    let rest = distinct-parts xs ys d.1 in
    ((front xs d.0, rest.0), rest.1, apart rest.2)
  where
    front : (zs : List ℕ) → AllByRecursion (λ q. q ≢ x) (zs ++ ys) → AllByRecursion (λ q. q ≢ x) zs
    front [] h = tt
    front (z ∷ zs) h = (h.0, front zs h.1)

    apart : ((n : ℕ) → IsIn n xs → IsIn n ys → ⊥) → (n : ℕ) → IsIn n (x ∷ xs) → IsIn n ys → ⊥
    apart later n (inl e) j = every-in (λ q. q ≢ x) n (xs ++ ys) d.0 (in-back xs ys n j) (sym e)
    apart later n (inr i) j = later n i j

blocks-distinct : (flow : Flow) (placement : Placement) (k : ℕ) (blocks : List (List ℕ))
    → k + length blocks ≤ length flow.blocks → IsDistinct (all_points blocks)
    → IsDistinct (numbers label_of (block_rows flow placement k blocks))
blocks-distinct flow placement k [] bound d = tt
blocks-distinct flow placement k (points ∷ blocks) bound d =
    let mine : List ℕ = numbers label_of (point_rows flow placement points) in
    let rest : List ℕ = numbers label_of (block_rows flow placement (suc k) blocks) in
    let parts = distinct-parts points (all_points blocks) d in
    let loops = points-labelled flow placement points parts.0 in
    subst IsDistinct (sym (numbers-append label_of (item.Label k ∷ point_rows flow placement points)
    (block_rows flow placement (suc k) blocks)))
    (distinct-join (k ∷ mine) rest (
      every-from (λ q. q ≢ k) mine (λ n i e.
          let m = points-labels flow placement points n i in
          let is = m.2 in
          omega (arith, bound, e, is)),
      loops,
    )
    (blocks-distinct flow placement (suc k) blocks (omega (arith, bound)) parts.1)
    (λ n i j. apart parts.2 n i (blocks-labels flow placement (suc k) blocks n j)))
  where
    apart : ((n : ℕ) → IsIn n points → IsIn n (all_points blocks) → ⊥) → (n : ℕ)
        → IsIn n (k ∷ numbers label_of (point_rows flow placement points)) → IsBlockLabel flow (suc k) blocks n → ⊥
    apart other n (inl e) (inl (low, high)) = omega (arith, e, low)
    apart other n (inl e) (inr (p, i, is)) = omega (arith, e, is, bound)
    apart other n (inr j) (inl (low, high)) =
        let m = points-labels flow placement points n j in
        let is = m.2 in
        omega (arith, is, high, bound)
    apart other n (inr j) (inr (p, i, is)) =
        let m = points-labels flow placement points n j in
        let one = m.2 in
        let same : m.0 ≡ p = omega (arith, one, is) in
        other p (subst (λ (q : ℕ). IsIn q points) same m.1) i

labels-distinct : (flow : Flow) (homes : List ℕ) (placement : Placement) → IsFlow flow homes
    → IsDistinct (entry_label flow ∷ numbers label_of (block_rows flow placement 0 flow.blocks))
labels-distinct flow homes placement f = (
  every-from (λ q. q ≢ entry_label flow) (numbers label_of (block_rows flow placement 0 flow.blocks))
      (λ n i e. behind n e (blocks-labels flow placement 0 flow.blocks n i)),
  blocks-distinct flow placement 0 flow.blocks (omega arith) (flow-distinct flow homes f),
)
  where
    behind : (n : ℕ) → n ≡ entry_label flow → IsBlockLabel flow 0 flow.blocks n → ⊥
    behind n e (inl (low, high)) = omega (arith, e, high)
    behind n e (inr (p, i, is)) = omega (arith, e, is)

all-distinct : (flow : Flow) (homes : List ℕ) (placement : Placement) → IsFlow flow homes
    → IsDistinct (numbers label_of (prologue placement.frame placement.zeroed (entry_label flow))
    ++ numbers label_of (block_rows flow placement 0 flow.blocks))
all-distinct flow homes placement f =
    let rest : List ℕ = numbers label_of (block_rows flow placement 0 flow.blocks) in
    let d = labels-distinct flow homes placement f in
    elim (prologue-labels placement.frame placement.zeroed (entry_label flow)) [
      | inl none ↦ subst (λ (ns : List ℕ). IsDistinct (ns ++ rest)) (sym none) d.1
      | inr one ↦ subst (λ (ns : List ℕ). IsDistinct (ns ++ rest)) (sym one) d
    ]

-- no label of a graph's code stands twice
pub labels-once : LabelsStandOnce
labels-once flow homes placement f i j n a b =
    once label_of (selected flow placement) i j n (item.Label n) (item.Label n)
    (subst IsDistinct (sym (selected-labels flow placement)) (all-distinct flow homes placement f)) a b refl refl
