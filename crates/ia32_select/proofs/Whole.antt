-- The items of a graph are code of it, over any placement that supports it.
use Rattle.std.specs.List.{AllByRecursion}
use Rattle.std.proofs.Common.{◌≡◌, ℕ, zero, suc, ◌+◌, ◌*◌, ◌/◌, ◌<◌, ◌≤◌, List, [], ◌∷◌, ◌++◌, length, Option, Some}
use Rattle.std.proofs.Common.{None, refl, sym, ap, subst, ◌∙◌, inl, inr, arith, cond, length-append}
use Rattle.std.specs.Prelude.{◌⊎◌, ◌==◌, ◌≢◌, Bool, true, false, if◌then◌else◌, map, nat_lt, pos, slice_get}
use Rattle.std.specs.Prelude.{slice_index_or, sum_by, unwrap_or}
use Rattle.std.proofs.lemmas.Bool.{eq-eqb}
use Rattle.std.proofs.lemmas.List.{length-map}
use Rattle.std.proofs.lemmas.Option.{none-some, same_Some, slice_get_within, get_or_from_slice_get}
use Rattle.ia32_insn.specs.Places.{Place, InWord, InByte, InSlot}
use Rattle.ia32_insn.specs.declared.register_names.Reg32.TheVariants.{Esp, Esi, Edi}
use Rattle.ia32_insn.specs.declared.operand.Rm32.TheVariants as rm
use Rattle.ia32_insn.specs.declared.insn.Cond.{Cond}
use Rattle.ia32_insn.specs.declared.insn.Insn.{Insn}
use Rattle.ia32_insn.specs.declared.insn.Insn.TheVariants as insn
use Rattle.ia32_insn.specs.declared.item.Item.{Item}
use Rattle.ia32_insn.specs.declared.item.Item.TheVariants as item
use Rattle.flow_graph.specs.declared.op.Op.{Op}
use Rattle.flow_graph.specs.declared.op.Op.TheVariants as op
use Rattle.flow_graph.specs.Graphs.{Flow, FitsOp, HasFittingOp, IsArray, IsFlow, IsIn, NumbersFit, Stands as InBlock}
use Rattle.flow_graph.specs.Graphs.{EndsOnlyLast, IsDistinct, IsPlainAt, LastIsEnd, ends_block, following, is_end}
use Rattle.flow_graph.specs.Graphs.{points_of}
use Rattle.flow_graph.specs.Liveness.{GoesTo, IsBehind, IsSuccessor}
use Rattle.flow_graph.specs.Shapes.{Leads, Onward, IntoCall, ToBlock, ToEither, OutOfCall, OutOfProgram, shape}
use Rattle.flow_graph.specs.Sizes.{most_words, words_of}
use Rattle.flow_graph.specs.WellFormed.{IsGraph, NamesWithin}
use Rattle.flow_graph.proofs.Points.{choose, every-in}
use Rattle.ia32_insn.specs.Items.{plain}
use Rattle.ia32_insn.specs.Spelling.{HasSpelling}
use Rattle.ia32_asm.proofs.SpelledOperands.{spelling-indexed}
use Rattle.ia32_asm.specs.declared.section.Target.{Target}
use Rattle.ia32_asm.specs.declared.section.Target.TheVariants as target
use Rattle.ia32_asm.specs.Sections.{HasLabel, IsSpelled, Stands, items_size, object_target, target_of}
use Rattle.ia32_asm.proofs.Laying.{items_size-append}
use Rattle.elf_link.specs.Parts.{IsThere}
use Rattle.ia32_rows.specs.Filling.{fill}
use Rattle.ia32_rows.specs.Placements.{Placement, below}
use Rattle.ia32_rows.specs.Sites.{IsInFrame}
use Rattle.ia32_rows.specs.Rows.{block_rows, entry_label, headers, loop_label, place_after, place_before, point_row}
use Rattle.ia32_rows.specs.Rows.{branching, choosing, comparing, cond_of, cond_of_order, jumping, moves_into, moves_to}
use Rattle.ia32_rows.specs.Rows.{point_rows, prologue, row, selected, zeroing}
use Rattle.ia32_rows.proofs.ItemKinds.{either-way, all-append, all-at, element-at}
use Rattle.ia32_rows.proofs.Laid.{row-in-graph}
use Rattle.ia32_rows.proofs.Numbered.{all_points, few-points, flow-distinct, labels-once, points-once, points-placed}
use Rattle.ia32_rows.proofs.Numbered.{some-points}
use Rattle.ia32_rows.specs.Contains.{IsPlaceIn}
use Rattle.ia32_laws.specs.Supports.{AreArraysIn, IsArrayIn, Supports}
use Rattle.ia32_laws.proofs.Zones.{words-most}
use Rattle.ia32_select.specs.Sizes.{BlocksAreFew, IsCodeIn, SelectedIsCode, most_bytes}
use Rattle.ia32_select.proofs.Fine.{IsNear, Within, fits-below, fits-near}
use Rattle.ia32_select.proofs.RowSizes.{IsFitRow, IsGood, LabelsStand, MovesFit, all-good, most_row, prologue-good}
use Rattle.ia32_select.proofs.RowSizes.{row-fits}
use Rattle.ia32_select.proofs.Short.{items-short}
use Rattle.ia32_select.proofs.Sums.{few, total, total-append, weight, weights}

-- ---- where items stand

stands-back : (i : Item) (xs ys : List Item) → Stands i ys → Stands i (xs ++ ys)
stands-back i [] ys s = s
stands-back i (x ∷ xs) ys s = let r = stands-back i xs ys s in (suc r.0, r.1)

stands-front : (i : Item) (xs ys : List Item) → Stands i xs → Stands i (xs ++ ys)
stands-front i [] ys (j, e) = absurd (cc)
stands-front i (x ∷ xs) ys (zero, e) = (0, e)
stands-front i (x ∷ xs) ys (suc j, e) = let r = stands-front i xs ys (j, e) in (suc r.0, r.1)

-- the label of each block does
block-label : (flow : Flow) (placement : Placement) (k n : ℕ) (blocks : List (List ℕ)) → n < length blocks
    → Stands (item.Label (k + n)) (block_rows flow placement k blocks)
block-label flow placement k n [] h = absurd (omega arith)
block-label flow placement k zero (points ∷ blocks) h =
    let e : k ≡ k + 0 = omega arith in
    (0, ap (λ (m : ℕ). Some (item.Label m)) e)
block-label flow placement k (suc n) (points ∷ blocks) h =
    let e : suc k + n ≡ k + suc n = omega arith in
    subst (λ (m : ℕ). Stands (item.Label m) (block_rows flow placement k (points ∷ blocks))) e
    (stands-back (item.Label (suc k + n)) (item.Label k ∷ point_rows flow placement points)
    (block_rows flow placement (suc k) blocks) (block-label flow placement (suc k) n blocks (omega arith)))

label-there : (flow : Flow) (placement : Placement) (n : ℕ) → n < length flow.blocks
    → Stands (item.Label n) (selected flow placement)
label-there flow placement n h =
    let e : 0 + n ≡ n = omega arith in
    let blocks : List Item = block_rows flow placement 0 flow.blocks in
    let numbers : List Item = headers flow.arrays placement.arrays in
    stands-back (item.Label n) (prologue placement.frame placement.zeroed (entry_label flow)) (numbers ++ blocks)
    (stands-back (item.Label n) numbers blocks
    (subst (λ (m : ℕ). Stands (item.Label m) blocks) e (block-label flow placement 0 n flow.blocks h)))

-- that of the first items' loop does, where they have one
entry-there : (flow : Flow) (placement : Placement) → nat_lt placement.zeroed placement.frame ≡ true
    → Stands (item.Label (entry_label flow)) (selected flow placement)
entry-there flow placement e =
    let label : ℕ = entry_label flow in
    let rest : List Item = headers flow.arrays placement.arrays ++ block_rows flow placement 0 flow.blocks in
    let here : Stands (item.Label label) (zeroing placement.frame placement.zeroed label) =
    chosen (nat_lt placement.zeroed placement.frame) e in
    let first : Stands (item.Label label) (prologue placement.frame placement.zeroed label) =
    (suc (suc (suc (suc (suc (suc here.0))))), here.1) in
    stands-front (item.Label label) (prologue placement.frame placement.zeroed label) rest first
  where
    loops : List Item
    loops =
        plain (insn.MovImm (rm.Reg Esi) (pos 0)) ∷ plain (insn.Lea Edi (below placement.zeroed))
        ∷ fill Edi Esi Esp (entry_label flow)

    chosen : (b : Bool) → b ≡ true → Stands (item.Label (entry_label flow)) (if b then loops else [])
    chosen true e = (2, refl)
    chosen false e = absurd (let k : false ≡ true = e in cc)

-- and that of a point's loop or detour where it is in its row
row-there : (flow : Flow) (placement : Placement) (p b : ℕ) (o : Op) → InBlock flow p b
    → slice_index_or flow.ops p op.Turn ≡ o
    → Stands (item.Label (loop_label flow p)) (row flow placement p o)
    → Stands (item.Label (loop_label flow p)) (selected flow placement)
row-there flow placement p b o placed e there =
    let label : Item = item.Label (loop_label flow p) in
    let h = row-in-graph flow placement p b placed in
    let front : List Item = h.front in
    let rest : List Item = h.rest in
    let here : Stands label (item.Point p ∷ row flow placement p o) = (suc there.0, there.1) in
    let mine : Stands label (point_row flow placement p) =
    subst (λ (o : Op). Stands label (item.Point p ∷ row flow placement p o)) (sym e) here in
    subst (Stands label) (sym h.is)
    (stands-back label front (point_row flow placement p ++ rest)
    (stands-front label (point_row flow placement p) rest mine))

-- as the label of a detour is in the row of a branch by a condition that has one
detour-there : (flow : Flow) (placement : Placement) (p : ℕ) (c : Cond) (y z x w : ℕ) (move : Item) (rest : List Item)
    → moves_into flow placement p x ≡ move ∷ rest
    → Stands (item.Label (loop_label flow p))
    (branching c (loop_label flow p) (place_before placement p y) (place_before placement p z)
    (moves_into flow placement p x) (moves_into flow placement p w) x w)
detour-there flow placement p c y z x w move rest e =
    let label : Item = item.Label (loop_label flow p) in
    let first : List Item = comparing (place_before placement p y) (place_before placement p z) in
    let moves : List Item = moves_into flow placement p w in
    stands-back label first (choosing c (loop_label flow p) (moves_into flow placement p x) moves x w)
    (subst (λ (items : List Item). Stands label (choosing c (loop_label flow p) items moves x w)) (sym e)
    (stands-back label (item.JumpIf c (loop_label flow p) ∷ jumping moves w)
    (label ∷ jumping (move ∷ rest) x) (0, refl)))

-- ---- a point and the next one

-- in a block without a point twice the next point is the one behind
following-at : (front : List ℕ) (p q : ℕ) (ps : List ℕ) → IsDistinct (front ++ (p ∷ q ∷ ps))
    → following p (front ++ (p ∷ q ∷ ps)) ≡ Some q
following-at [] p q ps d =
    let P : Bool → Type 0 = λ b. cond b (Some q) (following p (q ∷ ps)) ≡ Some q in
    subst P (sym (eq-eqb p p refl)) refl
following-at (x ∷ front) p q ps d =
    choose x p (λ (o : Option ℕ). o ≡ Some q) (slice_get (front ++ (p ∷ q ∷ ps)) 0)
    (following p (front ++ (p ∷ q ∷ ps)))
    (λ e. absurd (every-in (λ n. n ≢ x) p (front ++ (p ∷ q ∷ ps)) d.0 (among front) (sym e)))
    (following-at front p q ps d.1)
  where
    among : (xs : List ℕ) → IsIn p (xs ++ (p ∷ q ∷ ps))
    among [] = inl refl
    among (y ∷ xs) = inr (among xs)

-- what isn't last is no end
plain-before : (ops : List Op) (front : List ℕ) (p q : ℕ) (ps : List ℕ) → EndsOnlyLast ops (front ++ (p ∷ q ∷ ps))
    → IsPlainAt ops p
plain-before ops [] p q ps h = h.0
plain-before ops (x ∷ []) p q ps h = h.1.0
plain-before ops (x ∷ y ∷ front) p q ps h = plain-before ops (y ∷ front) p q ps h.1

goes-behind : (flow : Flow) (p q : ℕ) (leads : Leads) → ends_block leads ≡ false → IsBehind flow p q
    → GoesTo flow p q leads
goes-behind flow p q Onward e h = h
goes-behind flow p q (IntoCall result words) e h = h
goes-behind flow p q (ToBlock x) e h = absurd (let k : true ≡ false = e in cc)
goes-behind flow p q (ToEither x y) e h = absurd (let k : true ≡ false = e in cc)
goes-behind flow p q OutOfCall e h = absurd (let k : true ≡ false = e in cc)
goes-behind flow p q OutOfProgram e h = absurd (let k : true ≡ false = e in cc)

-- the row of an op that is no end has no moves
plain-most : (o : Op) → is_end o ≡ false → most_row o ≡ 200
plain-most (op.Jump x) e = absurd (let k : true ≡ false = e in cc)
plain-most (op.Branch how a b x y) e = absurd (let k : true ≡ false = e in cc)
plain-most (op.Branchu how a b x y) e = absurd (let k : true ≡ false = e in cc)
plain-most o e = refl

-- ---- what is near

near-of : (frame : ℕ) (place : Option Place) → ((x : Place) → place ≡ Some x → IsPlaceIn frame x) → frame ≤ 0x4000
    → IsNear (unwrap_or place (InSlot 0))
near-of frame None h small = omega arith
near-of frame (Some (InWord r)) h small = h (InWord r) refl
near-of frame (Some (InByte r)) h small = tt
near-of frame (Some (InSlot k)) h small =
    let inside : IsInFrame frame k = h (InSlot k) refl in
    let high = inside.high in
    omega arith

there-or-none : (xs : List ℕ) (k : ℕ) → (slice_get xs k ≡ Some (slice_index_or xs k 0)) ⊎ (slice_index_or xs k 0 ≡ 0)
there-or-none [] zero = inr refl
there-or-none [] (suc k) = inr refl
there-or-none (x ∷ xs) zero = inl refl
there-or-none (x ∷ xs) (suc k) = there-or-none xs k

-- frame arrays stand near EBP
near-distance : (arrays : List (ℕ × ℕ)) (frame : ℕ) (belows : List ℕ) (k : ℕ) → AreArraysIn arrays frame belows
    → frame ≤ 0x4000 → slice_index_or belows k 0 ≤ 0x4000
near-distance arrays frame belows k inside small =
    elim (there-or-none belows k) [
      | inl has ↦
          let within = slice_get_within belows k (slice_index_or belows k 0) has in
          let many = inside.as_many in
          let a = element-at arrays k (omega arith) in
          let array : IsArrayIn frame a.0 (slice_index_or belows k 0) =
          inside.inside k (slice_index_or belows k 0) a.0 a.1 has in
          let high = array.high in
          omega arith
      | inr none ↦ omega arith
    ]

-- ---- rows

module _ (functions objects : ℕ) (flow : Flow) (placement : Placement) (homes : List ℕ)
    (g : IsGraph functions objects flow) (f : IsFlow flow homes) (s : Supports flow placement)
    (small : 8 + placement.frame + 4 * most_words flow.ops ≤ 0x4000) where
  abbrev whole : List Item
  whole = selected flow placement

  abbrev op_at : ℕ → Op
  op_at p = slice_index_or flow.ops p op.Turn

  abbrev Fits : ℕ → Type 0
  Fits p =
      IsFitRow whole functions objects (most_row (op_at p)) (words_of (op_at p)) (row flow placement p (op_at p))

  frame-small : placement.frame ≤ 0x4000
  frame-small = omega arith

  -- the labels that a point's row jumps to stand there
  labels-of : (p b : ℕ) (o : Op) → InBlock flow p b → op_at p ≡ o → FitsOp flow o
      → LabelsStand whole (loop_label flow p) (moves_into flow placement p) o
  labels-of p b (op.Jump x) placed e fits = label-there flow placement x fits.0
  labels-of p b (op.Branch how y z x w) placed e fits = (
    label-there flow placement x fits.1.1.0,
    label-there flow placement w fits.1.1.1.0,
    (λ move rest is. row-there flow placement p b (op.Branch how y z x w) placed e
        (detour-there flow placement p (cond_of how) y z x w move rest is)),
  )
  labels-of p b (op.Branchu how y z x w) placed e fits = (
    label-there flow placement x fits.1.1.0,
    label-there flow placement w fits.1.1.1.0,
    (λ move rest is. row-there flow placement p b (op.Branchu how y z x w) placed e
        (detour-there flow placement p (cond_of_order how) y z x w move rest is)),
  )
  labels-of p b (op.Clear k) placed e fits = row-there flow placement p b (op.Clear k) placed e (2, refl)
  labels-of p b o placed e fits = tt

  -- moves to a point that follows can be assembled, and are few
  moves-good : (insns : List Insn) → AllByRecursion HasSpelling insns
      → AllByRecursion (IsGood whole functions objects) (map item.Plain insns)
  moves-good [] h = tt
  moves-good (i ∷ insns) h = (h.0, moves-good insns h.1)

  moves-within : (p : ℕ) (next : Option ℕ) → ((q : ℕ) → next ≡ Some q → IsSuccessor flow p q)
      → Within (IsGood whole functions objects) 24 (moves_to placement p next)
  moves-within p None follows = (tt, omega arith)
  moves-within p (Some q) follows =
      let m = s.moves p q (follows q refl) in (
        moves-good (placement.between p q) m.spelled,
        subst (λ (n : ℕ). n ≤ 24) (sym (length-map (placement.between p q) item.Plain)) m.few,
      )

  ways-fit : (p b : ℕ) (o : Op) → InBlock flow p b → slice_get flow.ops p ≡ Some o
      → MovesFit whole functions objects (moves_into flow placement p) o
  ways-fit p b (op.Jump x) placed has =
      moves-within p (slice_get (points_of flow x) 0) (λ q e. ((b, placed), op.Jump x, has, e))
  ways-fit p b (op.Branch how y z x w) placed has = (
    moves-within p (slice_get (points_of flow x) 0) (λ q e. ((b, placed), op.Branch how y z x w, has, inl e)),
    moves-within p (slice_get (points_of flow w) 0) (λ q e. ((b, placed), op.Branch how y z x w, has, inr e)),
  )
  ways-fit p b (op.Branchu how y z x w) placed has = (
    moves-within p (slice_get (points_of flow x) 0) (λ q e. ((b, placed), op.Branchu how y z x w, has, inl e)),
    moves-within p (slice_get (points_of flow w) 0) (λ q e. ((b, placed), op.Branchu how y z x w, has, inr e)),
  )
  ways-fit p b o placed has = tt

  fitting : (p b : ℕ) → InBlock flow p b → HasFittingOp flow p
  fitting p b placed = every-in (HasFittingOp flow) p (points_of flow b) (f.each_block b).fits placed

  point-within : (p b : ℕ) → InBlock flow p b → p < length flow.ops
  point-within p b placed =
      let fits = fitting p b placed in
      slice_get_within flow.ops p fits.0 fits.1

  point-fits : (p b : ℕ) → InBlock flow p b → Fits p
  point-fits p b placed =
      let fits = fitting p b placed in
      let o : Op = fits.0 in
      let is : op_at p ≡ o = get_or_from_slice_get flow.ops p o op.Turn fits.1 in
      let point = s.points p o (b, placed) fits.1 in
      let most = words-most flow.ops p o fits.1 in
      let few_words : words_of o ≤ 4096 = omega (arith, most, small) in
      let names : NamesWithin functions objects o =
      subst (NamesWithin functions objects) is (g.names p op.Turn (point-within p b placed)) in
      subst (λ (x : Op). IsFitRow whole functions objects (most_row x) (words_of x) (row flow placement p x)) (sym is)
      (row-fits whole functions objects (loop_label flow p) (moves_into flow placement p) flow.arrays placement.arrays
      (place_before placement p) (place_after placement p) o
      (λ v. near-of placement.frame (placement.before p v) (λ x e. (point.before v x e).inside) frame-small)
      (λ v. near-of placement.frame (placement.after p v) (λ x e. (point.after v x e).inside) frame-small)
      (λ k. near-distance flow.arrays placement.frame placement.arrays k s.arrays frame-small)
      (all-at NumbersFit flow.ops p o f.numbers fits.1) names (labels-of p b o placed is fits.2)
      (ways-fit p b o placed fits.1) few_words)

  -- ---- points and blocks

  abbrev Good : List Item → Type 0
  Good items = AllByRecursion (IsGood whole functions objects) items

  -- a point and the one behind it in a block
  abbrev Behind : List ℕ → Type 0
  Behind points = (front : List ℕ) (p q : ℕ) (ps : List ℕ) → points ≡ front ++ (p ∷ q ∷ ps)
      → IsSuccessor flow p q × (is_end (op_at p) ≡ false)

  block-behind : (b : ℕ) → Behind (points_of flow b)
  block-behind b front p q ps e =
      let block = f.each_block b in
      let (o, has, plainly) = plain-before flow.ops front p q ps
      (subst (EndsOnlyLast flow.ops) e block.ends) in
      let placed : InBlock flow p b = subst (IsIn p) (sym e) (among front) in
      let next : following p (points_of flow b) ≡ Some q =
      ap (following p) e ∙ following-at front p q ps (subst IsDistinct e block.once) in (
        ((b, placed), o, has, goes-behind flow p q (shape o).leads plainly (b, next)),
        ap is_end (get_or_from_slice_get flow.ops p o op.Turn has) ∙ plainly,
      )
    where
      among : (xs : List ℕ) → IsIn p (xs ++ (p ∷ q ∷ ps))
      among [] = inl refl
      among (y ∷ xs) = inr (among xs)

  behind-more : (p : ℕ) (ps : List ℕ) → Behind (p ∷ ps) → Behind ps
  behind-more p ps h front x y rest e = h (p ∷ front) x y rest (ap (λ (ns : List ℕ). p ∷ ns) e)

  -- the moves behind a point of a block
  next-within : (p : ℕ) (ps : List ℕ) → Behind (p ∷ ps)
      → Within (IsGood whole functions objects) 24 (moves_to placement p (slice_get ps 0))
  next-within p ps h = moves-within p (slice_get ps 0) (λ q e. at ps q e h)
    where
      at : (xs : List ℕ) (q : ℕ) → slice_get xs 0 ≡ Some q → Behind (p ∷ xs) → IsSuccessor flow p q
      at [] q e k = absurd (none-some q e)
      at (x ∷ xs) q e k = subst (IsSuccessor flow p) (same_Some x q e) (k [] p x xs refl).0

  points-good : (points : List ℕ) → ((p : ℕ) → IsIn p points → Fits p) → Behind points
      → Good (point_rows flow placement points)
  points-good [] h k = tt
  points-good (p ∷ points) h k =
      let moves : List Item = moves_to placement p (slice_get points 0) in
      all-append (IsGood whole functions objects) (point_row flow placement p)
      (moves ++ point_rows flow placement points) (tt, (h p (inl refl)).good)
      (all-append (IsGood whole functions objects) moves (point_rows flow placement points)
      (next-within p points k).0
      (points-good points (λ q i. h q (inr i)) (behind-more p points k)))

  -- the row of a point and the moves behind it
  point-small : (p : ℕ) (points : List ℕ) → Fits p → Behind (p ∷ points)
      → items_size (row flow placement p (op_at p)) + items_size (moves_to placement p (slice_get points 0))
      ≤ weight flow.ops p
  point-small p [] h k =
      last (items_size (row flow placement p (op_at p))) (most_row (op_at p)) (words_of (op_at p)) h.small
      (most (op_at p))
    where
      most : (o : Op) → most_row o ≤ 640
      most (op.Jump x) = omega arith
      most (op.Branch how a b x y) = omega arith
      most (op.Branchu how a b x y) = omega arith
      most o = omega arith

      last : (r m w : ℕ) → r ≤ m + 8 * w → m ≤ 640 → r + 0 ≤ 640 + 8 * w
      last r m w a b = omega arith
  point-small p (q ∷ points) h k =
      let few = next-within p (q ∷ points) k in
      more (items_size (row flow placement p (op_at p))) (most_row (op_at p)) (words_of (op_at p))
      (items_size (moves_to placement p (Some q))) (length (moves_to placement p (Some q))) h.small
      (plain-most (op_at p) (k [] p q points refl).1) (items-short (moves_to placement p (Some q))) few.1
    where
      more : (r m w y n : ℕ) → r ≤ m + 8 * w → m ≡ 200 → y ≤ 12 * n → n ≤ 24 → r + y ≤ 640 + 8 * w
      more r m w y n a b c d = omega arith

  points-small : (points : List ℕ) → ((p : ℕ) → IsIn p points → Fits p) → Behind points
      → items_size (point_rows flow placement points) ≤ total (weight flow.ops) points
  points-small [] h k = omega arith
  points-small (p ∷ points) h k =
      let moves : List Item = moves_to placement p (slice_get points 0) in
      counted (items_size (point_rows flow placement (p ∷ points))) (items_size (point_row flow placement p))
      (items_size (row flow placement p (op_at p))) (items_size moves)
      (items_size (moves ++ point_rows flow placement points)) (items_size (point_rows flow placement points))
      (weight flow.ops p) (total (weight flow.ops) points)
      (items_size-append (point_row flow placement p) (moves ++ point_rows flow placement points)) (omega arith)
      (items_size-append moves (point_rows flow placement points)) (point-small p points (h p (inl refl)) k)
      (points-small points (λ q i. h q (inr i)) (behind-more p points k))
    where
      counted : (w x y m v z a b : ℕ) → w ≡ x + v → x ≡ 0 + y → v ≡ m + z → y + m ≤ a → z ≤ b → w ≤ a + b
      counted w x y m v z a b e i j h k = omega arith

  -- all points of blocks fit, and stand one behind the other
  abbrev AllFit : List (List ℕ) → Type 0
  AllFit blocks =
      ((b p : ℕ) → IsIn p (slice_index_or blocks b []) → Fits p) × ((b : ℕ) → Behind (slice_index_or blocks b []))

  later-fit : (points : List ℕ) (blocks : List (List ℕ)) → AllFit (points ∷ blocks) → AllFit blocks
  later-fit points blocks h = ((λ b. h.0 (suc b)), (λ b. h.1 (suc b)))

  blocks-good : (k : ℕ) (blocks : List (List ℕ)) → AllFit blocks → Good (block_rows flow placement k blocks)
  blocks-good k [] h = tt
  blocks-good k (points ∷ blocks) h =
      all-append (IsGood whole functions objects) (item.Label k ∷ point_rows flow placement points)
      (block_rows flow placement (suc k) blocks) (tt, points-good points (h.0 0) (h.1 0))
      (blocks-good (suc k) blocks (later-fit points blocks h))

  blocks-small : (k : ℕ) (blocks : List (List ℕ)) → AllFit blocks
      → items_size (block_rows flow placement k blocks) ≤ total (weight flow.ops) (all_points blocks)
  blocks-small k [] h = omega arith
  blocks-small k (points ∷ blocks) h =
      counted (items_size (block_rows flow placement k (points ∷ blocks)))
      (items_size (item.Label k ∷ point_rows flow placement points))
      (items_size (point_rows flow placement points)) (items_size (block_rows flow placement (suc k) blocks))
      (total (weight flow.ops) (points ++ all_points blocks)) (total (weight flow.ops) points)
      (total (weight flow.ops) (all_points blocks))
      (items_size-append (item.Label k ∷ point_rows flow placement points) (block_rows flow placement (suc k) blocks))
      (omega arith) (total-append (weight flow.ops) points (all_points blocks)) (points-small points (h.0 0) (h.1 0))
      (blocks-small (suc k) blocks (later-fit points blocks h))
    where
      counted : (w x y z t a b : ℕ) → w ≡ x + z → x ≡ 0 + y → t ≡ a + b → y ≤ a → z ≤ b → w ≤ t
      counted w x y z t a b e i d h k = omega arith

  all-fit : AllFit flow.blocks
  all-fit = ((λ b p i. point-fits p b i), block-behind)

  every-point : (blocks : List (List ℕ)) → ((b p : ℕ) → IsIn p (slice_index_or blocks b []) → p < length flow.ops)
      → AllByRecursion (λ q. q < length flow.ops) (all_points blocks)
  every-point [] h = tt
  every-point (points ∷ blocks) h =
      all-append (λ q. q < length flow.ops) points (all_points blocks) (each points (h 0))
      (every-point blocks (λ b. h (suc b)))
    where
      each : (ps : List ℕ) → ((p : ℕ) → IsIn p ps → p < length flow.ops) → AllByRecursion (λ q. q < length flow.ops) ps
      each [] k = tt
      each (p ∷ ps) k = (k p (inl refl), each ps (λ q i. k q (inr i)))

  -- ---- the numbers of elements

  abbrev IsHeader : List (ℕ × ℕ) → List ℕ → Type 0
  IsHeader arrays belows = (k distance : ℕ) (array : ℕ × ℕ) → slice_get arrays k ≡ Some array
      → slice_get belows k ≡ Some distance → (distance + 4 ≤ 0x4000) × (array.1 ≤ 0x4000)

  headers-good : (arrays : List (ℕ × ℕ)) (belows : List ℕ) → IsHeader arrays belows → Good (headers arrays belows)
  headers-good arrays [] h = tt
  headers-good [] (d ∷ belows) h = tt
  headers-good (a ∷ arrays) (d ∷ belows) h =
      let here = h 0 d a refl refl in (
        spelling-indexed (insn.MovImm (rm.Mem (below (d + 4))) (pos a.1))
            (fits-below (d + 4) here.0, fits-near a.1 here.1) (tt, tt),
        headers-good arrays belows (λ k. h (suc k)),
      )

  headers-few : (arrays : List (ℕ × ℕ)) (belows : List ℕ) → length (headers arrays belows) ≤ length arrays
  headers-few arrays [] = omega arith
  headers-few [] (d ∷ belows) = omega arith
  headers-few (a ∷ arrays) (d ∷ belows) =
      more (length (headers arrays belows)) (length arrays) (headers-few arrays belows)
    where
      more : (x y : ℕ) → x ≤ y → suc x ≤ suc y
      more x y h = omega arith

  elements-few : (width count : ℕ) → (width ≡ 1) ⊎ (width ≡ 2) ⊎ (width ≡ 4) → count ≤ (width * count + 3) / 4 * 4
  elements-few width count (inl e) = subst (λ (w : ℕ). count ≤ (w * count + 3) / 4 * 4) (sym e) (omega arith)
  elements-few width count (inr (inl e)) = subst (λ (w : ℕ). count ≤ (w * count + 3) / 4 * 4) (sym e) (omega arith)
  elements-few width count (inr (inr e)) = subst (λ (w : ℕ). count ≤ (w * count + 3) / 4 * 4) (sym e) (omega arith)

  are-headers : IsHeader flow.arrays placement.arrays
  are-headers k distance array has at =
      let inside : IsArrayIn placement.frame array distance = s.arrays.inside k distance array has at in
      let is : IsArray array = all-at IsArray flow.arrays k array f.arrays_fit has in
      let many = elements-few array.0 array.1 is.0 in
      let low = inside.low in
      let high = inside.high in
      let frame = frame-small in
      (omega (arith, high, frame), omega (arith, many, low, high, frame))

  -- ---- the whole

  selected-good : Good whole
  selected-good =
      let P : Item → Type 0 = IsGood whole functions objects in
      let first : List Item = prologue placement.frame placement.zeroed (entry_label flow) in
      let numbers : List Item = headers flow.arrays placement.arrays in
      let blocks : List Item = block_rows flow placement 0 flow.blocks in
      all-append P first (numbers ++ blocks)
      (all-good whole functions objects first (prologue-good whole functions objects placement.frame placement.zeroed
      (entry_label flow) frame-small (entry-there flow placement)).0)
      (all-append P numbers blocks (headers-good flow.arrays placement.arrays are-headers)
      (blocks-good 0 flow.blocks all-fit))

  -- The first items and the numbers of elements have less than what is left of the first point's share.
  selected-small : items_size whole ≤ most_bytes flow
  selected-small =
      let first : List Item = prologue placement.frame placement.zeroed (entry_label flow) in
      let numbers : List Item = headers flow.arrays placement.arrays in
      let blocks : List Item = block_rows flow placement 0 flow.blocks in
      counted (items_size whole) (items_size first) (length first) (items_size (numbers ++ blocks)) (items_size numbers)
      (length numbers) (items_size blocks) (total (weight flow.ops) (all_points flow.blocks)) (length flow.arrays)
      (length flow.ops) (length (all_points flow.blocks)) (sum_by words_of flow.ops)
      (items_size-append first (numbers ++ blocks)) (items_size-append numbers blocks) (items-short first)
      (prologue-good whole functions objects placement.frame placement.zeroed (entry_label flow) frame-small
      (entry-there flow placement)).1
      (items-short numbers) (headers-few flow.arrays placement.arrays)
      (blocks-small 0 flow.blocks all-fit)
      (subst (λ (n : ℕ). total (weight flow.ops) (all_points flow.blocks) ≤ n) (weights flow.ops)
      (few (weight flow.ops) (length flow.ops) (all_points flow.blocks) (flow-distinct flow homes f)
      (every-point flow.blocks (λ b p i. point-within p b i))))
      (few-points flow homes f) (some-points flow g.begins (g.ended 0 [] g.begins))
    where
      counted : (w x m y n k b t a o p u : ℕ) → w ≡ x + y → y ≡ n + b → x ≤ 12 * m → m ≤ 13 → n ≤ 12 * k → k ≤ a
          → b ≤ t → t ≤ 640 * o + 8 * u → p ≤ o → 0 < p → w ≤ 800 * o + 8 * u + 16 * a
      counted w x m y n k b t a o p u e i h l q r z v c d = omega arith

  good-spelled : (i : Item) → IsGood whole functions objects i → IsSpelled i
  good-spelled (item.Plain i) h = h
  good-spelled (item.Label l) h = tt
  good-spelled (item.Point p) h = tt
  good-spelled (item.JumpTo l) h = tt
  good-spelled (item.JumpIf c l) h = tt
  good-spelled (item.CallFunction n) h = tt
  good-spelled (item.CallStub t) h = tt
  good-spelled (item.JumpTrap c) h = tt
  good-spelled (item.AddressOf r k) h = tt

  good-labelled : (i : Item) → IsGood whole functions objects i → HasLabel whole i
  good-labelled (item.Plain i) h = tt
  good-labelled (item.Label l) h = tt
  good-labelled (item.Point p) h = tt
  good-labelled (item.JumpTo l) h = h
  good-labelled (item.JumpIf c l) h = h
  good-labelled (item.CallFunction n) h = tt
  good-labelled (item.CallStub t) h = tt
  good-labelled (item.JumpTrap c) h = tt
  good-labelled (item.AddressOf r k) h = tt

  object-there : (k : ℕ) → (k < objects) ⊎ (k ≡ 0xffffffff) → IsThere functions objects (object_target k)
  object-there k (inl h) =
      either-way (IsThere functions objects) (k == 0xffffffff) target.Depth (target.Object k) tt h
  object-there k (inr e) = subst (λ (n : ℕ). IsThere functions objects (object_target n)) (sym e) tt

  good-there : (i : Item) (t : Target) → IsGood whole functions objects i → target_of i ≡ Some t
      → IsThere functions objects t
  good-there (item.Plain i) t h e = absurd (cc)
  good-there (item.Label l) t h e = absurd (cc)
  good-there (item.Point p) t h e = absurd (cc)
  good-there (item.JumpTo l) t h e = absurd (cc)
  good-there (item.JumpIf c l) t h e = absurd (cc)
  good-there (item.CallFunction n) t h e =
      subst (IsThere functions objects) (same_Some (target.Function n) t e) h
  good-there (item.CallStub n) t h e = subst (IsThere functions objects) (same_Some (target.Stub n) t e) tt
  good-there (item.JumpTrap c) t h e = subst (IsThere functions objects) (same_Some target.Check t e) tt
  good-there (item.AddressOf r k) t h e =
      subst (IsThere functions objects) (same_Some (object_target k) t e) (object-there k h)

  graph-code : IsCodeIn functions objects flow whole
  graph-code =
      let every : (j : ℕ) (i : Item) → slice_get whole j ≡ Some i → IsGood whole functions objects i =
      λ j i e. all-at (IsGood whole functions objects) whole j i selected-good e in
      record {
        size = selected-small;
        assembles = λ bound.
            record {
              spelled = λ j i e. good-spelled i (every j i e);
              labelled = λ j i e. good-labelled i (every j i e);
              labels_once = labels-once flow homes placement f;
              points_once = points-once flow homes placement f;
              size = bound;
            };
        points = points-placed flow placement;
        names = λ j i t e named. good-there i t (every j i e) named;
      }

pub selected-code : SelectedIsCode
selected-code functions objects flow placement g s small =
    graph-code functions objects flow placement g.keeps.0 g g.keeps.1 s small

-- ---- blocks

some-point : (ops : List Op) (points : List ℕ) → LastIsEnd ops points → 0 < length points
some-point ops [] h = absurd h
some-point ops (p ∷ points) h = omega arith

blocks-points : (ops : List Op) (blocks : List (List ℕ))
    → ((b : ℕ) (d : List ℕ) → b < length blocks → LastIsEnd ops (slice_index_or blocks b d))
    → length blocks ≤ length (all_points blocks)
blocks-points ops [] h = omega arith
blocks-points ops (points ∷ blocks) h =
    counted (length points) (length blocks) (length (all_points blocks)) (length (points ++ all_points blocks))
    (some-point ops points (h 0 [] (omega arith)))
    (blocks-points ops blocks (λ b d less. h (suc b) d (omega arith))) (length-append points (all_points blocks))
  where
    counted : (p b a w : ℕ) → 0 < p → b ≤ a → w ≡ p + a → suc b ≤ w
    counted p b a w h k e = omega arith

pub few-blocks : BlocksAreFew
few-blocks functions objects flow g =
    let each = blocks-points flow.ops flow.blocks g.ended in
    let few_points = few-points flow g.keeps.0 g.keeps.1 in
    omega (arith, each, few_points)
