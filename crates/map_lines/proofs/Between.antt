-- Between a call's point and its return address no point of the program stands.
use Rattle.std.specs.List.{AllByRecursion}
use Rattle.std.proofs.Common.{◌≡◌, ◌⊎◌, ℕ, zero, suc, ◌+◌, ◌<◌, ◌≤◌, Bool, true, false, List, [], ◌∷◌, ◌++◌, length}
use Rattle.std.proofs.Common.{Some, cond, inl, inr, refl, sym, ap, subst, ◌∙◌, arith, append_assoc, length-append}
use Rattle.std.proofs.Common.{Option}
use Rattle.std.specs.Prelude.{slice_get, slice_index_or}
use Rattle.std.proofs.lemmas.Bool.{cases_order, true≢false}
use Rattle.std.proofs.lemmas.Bool.Decides.{eqb_tells}
use Rattle.std.proofs.lemmas.Option.{same_Some}
use Rattle.pcc_base.proofs.Lists.{get-seam}
use Rattle.ia32_insn.specs.declared.item.Item.{Item}
use Rattle.ia32_insn.specs.declared.item.Item.TheVariants as item
use Rattle.ia32_insn.specs.Items.{ItemsAt, Places, Symbols}
use Rattle.flow_graph.specs.declared.op.Op.{Op}
use Rattle.flow_graph.specs.declared.op.Op.TheVariants as op
use Rattle.flow_graph.specs.Graphs.{Flow, IsIn, LastIsEnd, Stands, following, is_end, points_of}
use Rattle.flow_graph.specs.States.{Activation, Waiting, flow_at, point_after}
use Rattle.flow_graph.specs.WellFormed.{IsWaiting}
use Rattle.flow_graph.proofs.Values.{graph-of}
use Rattle.ia32_rows.specs.Placements.{Code, Placement, address_in, placement_of, point_address}
use Rattle.ia32_rows.specs.Shows.{IsInside, ReturnsTo}
use Rattle.ia32_rows.specs.Rows.{behind_call, selected, moves_to}
use Rattle.ia32_rows.proofs.ItemKinds.{item-room, later, point-address}
use Rattle.ia32_rows.proofs.Laid.{point-among}
use Rattle.ia32_laws.specs.Supports.{site_of}
use Rattle.ia32_laws.proofs.Memory.{address-at}
use Rattle.ia32_laws.specs.StandingLaws.{IsSelected, place_behind}
use Rattle.ia32_laws.proofs.Apart.{ordered}
use Rattle.ia32_laws.proofs.Returns.{calls-return}
use Rattle.map_lines.specs.VisitsLaws.{NoneBetween}

-- ---- among items

-- a point behind a call, with items between that are no points, is one of those behind the call
past-inside : (middle back : List Item) (f j q : ℕ) → AllByRecursion IsInside middle
    → slice_get (middle ++ (item.CallFunction f ∷ back)) j ≡ Some (item.Point q)
    → (k : ℕ) × (slice_get back k ≡ Some (item.Point q))
past-inside [] back f zero q h e = absurd (let no : Some (item.CallFunction f) ≡ Some (item.Point q) = e in cc)
past-inside [] back f (suc j) q h e = (j, e)
past-inside (x ∷ middle) back f zero q h e = absurd (subst IsInside (same_Some x (item.Point q) e) h.0)
past-inside (x ∷ middle) back f (suc j) q h e = past-inside middle back f j q h.1 e

-- a point among items stands no later than the point of a call, or not before the address behind the call
around : (symbols : Symbols) (places : Places) (address : ℕ) (front middle back : List Item) (p f j q : ℕ)
    (before after : List ℕ) → AllByRecursion IsInside middle
    → ItemsAt symbols places address (front ++ (item.Point p ∷ (middle ++ (item.CallFunction f ∷ [])))) before
    → ItemsAt symbols places (address + length before) back after
    → slice_get (front ++ (item.Point p ∷ (middle ++ (item.CallFunction f ∷ back)))) j ≡ Some (item.Point q)
    → (places.points q ≤ places.points p) ⊎ (address + length before ≤ places.points q)
around symbols places address [] middle back p f zero q before after inside (first, rest, whole, at, more) behind e =
    let one = point-address symbols places address (item.Point p) q first e at in
    let two = point-address symbols places address (item.Point p) p first refl at in
    inl (omega (arith, one.1, two.1))
around symbols places address [] middle back p f (suc j) q before after inside at behind e =
    let there = past-inside middle back f j q inside e in
    inr (later symbols places (address + length before) back after there.0 q behind there.1)
around symbols places address (x ∷ front) middle back p f zero q before after inside (first, rest, whole, at, more)
    behind e =
    let here = point-address symbols places address x q first e at in
    let tail : List Item = middle ++ (item.CallFunction f ∷ []) in
    let call = later symbols places (address + length first) (front ++ (item.Point p ∷ tail)) rest (length front) p more
    (get-seam front (item.Point p) tail) in
    inl (omega (arith, here.1, call))
around symbols places address (x ∷ front) middle back p f (suc j) q before after inside (first, rest, whole, at, more)
    behind e =
    let long = ap length whole ∙ length-append first rest in
    let end : address + length before ≡ address + length first + length rest = omega (arith, long) in
    subst (λ (n : ℕ). (places.points q ≤ places.points p) ⊎ (n ≤ places.points q)) (sym end)
    (around symbols places (address + length first) front middle back p f j q rest after inside more
    (subst (λ (n : ℕ). ItemsAt symbols places n back after) end behind) e)

-- items up to a call have bytes
call-room : (symbols : Symbols) (places : Places) (address : ℕ) (middle : List Item) (f : ℕ) (bytes : List ℕ)
    → ItemsAt symbols places address (middle ++ (item.CallFunction f ∷ [])) bytes → 0 < length bytes
call-room symbols places address [] f bytes (first, rest, whole, at, more) =
    let some = item-room symbols places address (item.CallFunction f) first tt at in
    let long = ap length whole ∙ length-append first rest in
    omega (arith, some, long)
call-room symbols places address (x ∷ middle) f bytes (first, rest, whole, at, more) =
    let some = call-room symbols places (address + length first) middle f rest more in
    let long = ap length whole ∙ length-append first rest in
    omega (arith, some, long)

-- so the point of a call stands before the address behind it
call-before : (symbols : Symbols) (places : Places) (address : ℕ) (front middle : List Item) (p f : ℕ)
    (before : List ℕ)
    → ItemsAt symbols places address (front ++ (item.Point p ∷ (middle ++ (item.CallFunction f ∷ [])))) before
    → places.points p < address + length before
call-before symbols places address [] middle p f before (first, rest, whole, at, more) =
    let here = point-address symbols places address (item.Point p) p first refl at in
    let some = call-room symbols places (address + length first) middle f rest more in
    let long = ap length whole ∙ length-append first rest in
    omega (arith, here.1, some, long)
call-before symbols places address (x ∷ front) middle p f before (first, rest, whole, at, more) =
    let rest-before = call-before symbols places (address + length first) front middle p f rest more in
    let long = ap length whole ∙ length-append first rest in
    omega (arith, rest-before, long)

-- ---- the point behind a call

-- the op of a point is that of no other
last-is-end : (ops : List Op) (p q : ℕ) (o : Op) → LastIsEnd ops (q ∷ []) → q ≡ p → slice_get ops p ≡ Some o
    → is_end o ≡ true
last-is-end ops p q o (last, has, ends) same at =
    let alike : last ≡ o = same_Some last o (sym has ∙ ap (slice_get ops) same ∙ at) in
    subst (λ (i : Op). is_end i ≡ true) alike ends

-- A point of a block that is ended, whose op is no end, has one behind it.
pub behind-is : (ops : List Op) (p : ℕ) (o : Op) (points : List ℕ) → LastIsEnd ops points → IsIn p points
    → slice_get ops p ≡ Some o → is_end o ≡ false → (q : ℕ) × (following p points ≡ Some q) × IsIn q points
behind-is ops p o [] ended within at plain = absurd within
behind-is ops p o (q ∷ []) ended (inl same) at plain =
    absurd (true≢false (sym (last-is-end ops p q o ended same at) ∙ plain))
behind-is ops p o (q ∷ []) ended (inr within) at plain = absurd within
behind-is ops p o (q ∷ r ∷ points) ended within at plain =
    elim (eqb_tells q p) [
      | inl same ↦ (r, ap (λ (b : Bool). cond b (Some r) (following p (r ∷ points))) same.0, inr (inl refl))
      | inr other ↦
          let later_one : IsIn p (r ∷ points) = elim within [ inl e ↦ absurd (other.1 e) | inr i ↦ i ] in
          let n = behind-is ops p o (r ∷ points) ended later_one at plain in
          (n.0, ap (λ (b : Bool). cond b (Some r) (following p (r ∷ points))) other.0 ∙ n.1, inr n.2)
    ]

-- a block that has a point is among the blocks
block-within : (blocks : List (List ℕ)) (block p : ℕ) → IsIn p (slice_index_or blocks block []) → block < length blocks
block-within [] block p within = absurd within
block-within (points ∷ blocks) zero p within = omega arith
block-within (points ∷ blocks) (suc block) p within =
    let less = block-within blocks block p within in omega (arith, less)

-- what follows a waiting call in its block
call-followed : (code : Code) (w : Waiting) (younger : Activation) → IsSelected code
    → w.activation.function < length code.program.functions → IsWaiting code.program w younger
    → (q : ℕ) × (point_after code.program w.activation.function w.block w.point ≡ Some q)
    × Stands (flow_at code.program w.activation.function) q w.block
call-followed code w younger is_selected below waits =
    let flow : Flow = flow_at code.program w.activation.function in
    let g = graph-of code.program w.activation.function is_selected.supported.program below in
    let ended = g.ended w.block [] (block-within flow.blocks w.block w.point waits.placed) in
    behind-is flow.ops w.point (op.Call waits.result younger.function waits.words) (points_of flow w.block) ended
    waits.placed waits.calls refl

-- a call returns to no later than that
returns-within : (code : Code) (w : Waiting) (younger : Activation) (address q : ℕ) → IsSelected code
    → w.activation.function < length code.program.functions → IsWaiting code.program w younger
    → ReturnsTo code w younger.function address
    → point_after code.program w.activation.function w.block w.point ≡ Some q
    → address ≤ point_address code w.activation.function q
returns-within code w younger address q is_selected below waits returns next =
    let f : ℕ = w.activation.function in
    let b = calls-return code w waits.result younger.function waits.words address is_selected below waits.placed
    waits.calls returns in
    let row : List Item = behind_call (place_behind code f w.point waits.result) (length waits.words) in
    let moves : List Item = moves_to (placement_of code f) w.point (Some q) in
    let behind : List Item = row ++ moves in
    let more = b.follows q next in
    let stand : ItemsAt (site_of code f).symbols (site_of code f).places address (behind ++ (item.Point q ∷ more.0))
    b.stands.bytes =
    subst (λ (items : List Item). ItemsAt (site_of code f).symbols (site_of code f).places address items b.stands.bytes)
    (ap (λ (rest : List Item). row ++ rest) more.1 ∙ sym (append_assoc row moves (item.Point q ∷ more.0)))
    b.stands.stand in
    subst (λ (n : ℕ). address ≤ n) (sym (address-at code.places f q))
    (later (site_of code f).symbols (site_of code f).places address (behind ++ (item.Point q ∷ more.0)) b.stands.bytes
    (length behind) q stand (get-seam behind (item.Point q) more.0))

-- ---- the law

-- a point of the function that calls
own-point : (code : Code) (w : Waiting) (younger : Activation) (address block q : ℕ) → IsSelected code
    → w.activation.function < length code.program.functions → IsWaiting code.program w younger
    → ReturnsTo code w younger.function address → Stands (flow_at code.program w.activation.function) q block
    → (point_address code w.activation.function w.point < address)
    × ((point_address code w.activation.function q ≤ point_address code w.activation.function w.point)
    ⊎ (address ≤ point_address code w.activation.function q))
own-point code w younger address block q is_selected below waits (
  items,
  places,
  start,
  of-f,
  placed,
  named,
  (front, middle, back, before, after, is, inside, upto, at, text, r-is),
) stands =
    let f : ℕ = w.activation.function in
    let flow : Flow = flow_at code.program f in
    let placement : Placement = placement_of code f in
    let callee : ℕ = younger.function in
    let own : (n : ℕ) → places.points n ≡ point_address code f n =
    λ n. sym (ap (λ (o : Option Places). address_in o n) placed) in
    let call-items : ItemsAt code.symbols places start
    (front ++ (item.Point w.point ∷ (middle ++ (item.CallFunction callee ∷ [])))) before =
    subst (λ (l : List Item). ItemsAt code.symbols places start l before)
    (regrouped front middle (item.Point w.point) (item.CallFunction callee)) upto in
    let parts : selected flow placement
    ≡ front ++ (item.Point w.point ∷ (middle ++ (item.CallFunction callee ∷ back))) =
    same_Some (selected flow placement) items (sym (is_selected.items f below) ∙ of-f) ∙ is
    ∙ grouped front middle back (item.Point w.point) (item.CallFunction callee) in
    let j = point-among flow placement q block stands in
    let less = call-before code.symbols places start front middle w.point callee before call-items in
    let either = around code.symbols places start front middle back w.point callee j.0 q before after inside call-items
    at (sym (ap (λ (l : List Item). slice_get l j.0) parts) ∙ j.1) in (
      subst (λ (n : ℕ). n < address) (own w.point) (subst (λ (n : ℕ). places.points w.point < n) (sym r-is) less),
      subst (λ (n : ℕ). (point_address code f q ≤ point_address code f w.point) ⊎ (n ≤ point_address code f q))
          (sym r-is)
          (subst (λ (n : ℕ). (n ≤ point_address code f w.point) ⊎ (start + length before ≤ n)) (own q)
          (subst (λ (n : ℕ). (places.points q ≤ n) ⊎ (start + length before ≤ places.points q)) (own w.point) either)),
    )
  where
    grouped : (a b c : List Item) (p f : Item) → (a ++ p ∷ b ++ f ∷ []) ++ c ≡ a ++ (p ∷ (b ++ (f ∷ c)))
    grouped a b c p f = simp append_assoc refl

    regrouped : (a b : List Item) (p f : Item) → a ++ p ∷ b ++ f ∷ [] ≡ a ++ (p ∷ (b ++ (f ∷ [])))
    regrouped a b p f = simp append_assoc refl

pub none-between : NoneBetween
none-between code w younger address h block q is_selected below waits returns under stands =
    let order = is_selected.supported.is_code.text.order_is in
    let functions = is_selected.supported.is_code.functions in
    let f : ℕ = w.activation.function in
    let i = order.each f (omega (arith, functions, below)) in
    let j = order.each h (omega (arith, functions, under)) in
    let own = own-point code w younger address w.block w.point is_selected below waits returns waits.placed in
    (own.0, by i.0 j.0 (cases_order i.0 j.0) i.1 j.1)
  where
    by : (a b : ℕ) → (a ≡ b) ⊎ ((a < b) ⊎ (b < a)) → slice_get code.order a ≡ Some w.activation.function
        → slice_get code.order b ≡ Some h
        → (point_address code h q ≤ point_address code w.activation.function w.point)
        ⊎ (address ≤ point_address code h q)
    by a b (inl same) at one-at =
        let alike : w.activation.function ≡ h = same_Some w.activation.function h
        (sym at ∙ ap (λ (n : ℕ). slice_get code.order n) same ∙ one-at) in
        subst (λ (n : ℕ). (point_address code n q ≤ point_address code w.activation.function w.point)
        ⊎ (address ≤ point_address code n q)) alike
        (own-point code w younger address block q is_selected below waits returns
        (subst (λ (n : ℕ). Stands (flow_at code.program n) q block) (sym alike) stands)).1
    by a b (inr (inl lt)) at one-at =
        let next = call-followed code w younger is_selected below waits in
        let end = returns-within code w younger address next.0 is_selected below waits returns next.1 in
        let less = ordered code a b w.activation.function h w.block block next.0 q is_selected below under lt at one-at
        next.2 stands in
        inr (omega (arith, end, less))
    by a b (inr (inr lt)) at one-at =
        let less = ordered code b a h w.activation.function block w.block q w.point is_selected under below lt one-at at
        stands waits.placed in
        inl (omega (arith, less))
