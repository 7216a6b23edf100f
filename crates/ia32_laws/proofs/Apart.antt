-- No two points of a program stand at one address, and a NOP stands at that of each mark and turn.
use Rattle.std.proofs.Common.{◌≡◌, ℕ, zero, suc, ◌+◌, ◌<◌, ◌≤◌, List, [], ◌∷◌, ◌++◌, length, Some, None, Option}
use Rattle.std.proofs.Common.{refl, sym, ap, subst, ◌∙◌, inl, inr, ◌⊎◌, arith, length-append, true, false, ℤ}
use Rattle.std.specs.Prelude.{slice_get}
use Rattle.std.proofs.lemmas.Bool.{cases_order}
use Rattle.std.proofs.lemmas.Option.{none-some, same_Some}
use Rattle.ia32_insn.specs.declared.operand.Rm32.TheVariants as rm
use Rattle.ia32_insn.specs.declared.insn.Cond.{Cond}
use Rattle.ia32_insn.specs.declared.insn.Insn.TheVariants as insn
use Rattle.ia32_insn.specs.declared.item.Item.{Item}
use Rattle.ia32_insn.specs.declared.item.Item.TheVariants as item
use Rattle.ia32_insn.specs.Items.{FunctionAt, ItemAt, ItemsAt, Places, Symbols, jump_if, plain}
use Rattle.ia32_insn.specs.Items.{text_start}
use Rattle.ia32_insn.specs.Spelling.{Spells}
use Rattle.flow_graph.specs.declared.op.Op.{Op}
use Rattle.flow_graph.specs.declared.op.Op.TheVariants as op
use Rattle.flow_graph.specs.Graphs.{Flow, Stands, points_of}
use Rattle.flow_graph.specs.States.{flow_at, op_of}
use Rattle.ia32_rows.specs.Paths.{IsAt, IsClear}
use Rattle.ia32_rows.specs.Placements.{Code, Placement, address_in, placement_of, point_address}
use Rattle.ia32_rows.specs.Sites.{Site, StandsFrom}
use Rattle.ia32_rows.proofs.Spelled.{BeginsOther, common-begins}
use Rattle.ia32_rows.proofs.Steps.{at-front, clear-at}
use Rattle.ia32_rows.specs.Rows.{moves_to, row, selected}
use Rattle.ia32_rows.proofs.ItemKinds.{BeginsWithRoom, PointsTakeRoom, behind-point, item-room, later, one-address}
use Rattle.ia32_rows.proofs.ItemKinds.{AreOthers, BeginsWithOther, IsOther, JumpsOverOthers, other-begins}
use Rattle.ia32_rows.proofs.ItemKinds.{point-address, selected-room, straight-others}
use Rattle.ia32_rows.proofs.Laid.{nop-there, point-among}
use Rattle.ia32_laws.specs.Supports.{site_of}
use Rattle.ia32_laws.specs.StandingLaws.{IsSelected, MarksAreNops, OthersAreClear, PointsApart}
use Rattle.ia32_laws.proofs.Functions.{TextOf, both-apart}
use Rattle.ia32_laws.proofs.Points.{laid, points-stand, there-of}

-- ---- points among items

-- behind every point of a function's items comes an instruction
pub all-room : (code : Code) (f : ℕ) → PointsTakeRoom (selected (flow_at code.program f) (placement_of code f))
all-room code f = selected-room (flow_at code.program f) (placement_of code f)

-- items that begin with an instruction have bytes
some-bytes : (symbols : Symbols) (places : Places) (address : ℕ) (items : List Item) (bytes : List ℕ)
    → BeginsWithRoom items → ItemsAt symbols places address items bytes → 0 < length bytes
some-bytes symbols places address [] bytes begins h = absurd begins
some-bytes symbols places address (x ∷ xs) bytes begins (first, rest, whole, at, more) =
    let some = item-room symbols places address x first begins at in
    let long = ap length whole ∙ length-append first rest in
    omega (arith, some, long)

-- a point among items stands before they end
before-end : (symbols : Symbols) (places : Places) (address : ℕ) (items : List Item) (bytes : List ℕ) (j p : ℕ)
    → PointsTakeRoom items → ItemsAt symbols places address items bytes → slice_get items j ≡ Some (item.Point p)
    → places.points p < address + length bytes
before-end symbols places address [] bytes j p room h e = absurd (none-some (item.Point p) e)
before-end symbols places address (x ∷ xs) bytes zero p room (first, rest, whole, at, more) e =
    let here = point-address symbols places address x p first e at in
    let is = here.1 in
    let some = some-bytes symbols places (address + length first) xs rest (behind-point x p xs e room.0) more in
    let long = ap length whole ∙ length-append first rest in
    omega (arith, is, some, long)
before-end symbols places address (x ∷ xs) bytes (suc j) p room (first, rest, whole, at, more) e =
    let after = before-end symbols places (address + length first) xs rest j p room.1 more e in
    let long = ap length whole ∙ length-append first rest in
    omega (arith, after, long)

-- ---- points of functions

-- A point of a function is within the function's bytes.
point-within : (code : Code) (f block p address : ℕ) (bytes : List ℕ) → IsSelected code
    → f < length code.program.functions → Stands (flow_at code.program f) p block
    → FunctionAt code.symbols code.items code.places f address bytes
    → (address ≤ point_address code f p) × (point_address code f p < address + length bytes)
point-within code f block p address bytes h below stands at =
    let flow : Flow = flow_at code.program f in
    let placement : Placement = placement_of code f in
    let is : at.items ≡ selected flow placement =
    same_Some at.items (selected flow placement) (sym at.is ∙ h.items f below) in
    let own : at.place.points p ≡ point_address code f p =
    sym (ap (λ (o : Option Places). address_in o p) at.placed) in
    let items : ItemsAt code.symbols at.place address (selected flow placement) bytes =
    subst (λ (items : List Item). ItemsAt code.symbols at.place address items bytes) is at.stands in
    let j = point-among flow placement p block stands in (
      subst (λ (n : ℕ). address ≤ n) own
          (later code.symbols at.place address (selected flow placement) bytes j.0 p items j.1),
      subst (λ (n : ℕ). n < address + length bytes) own
          (before-end code.symbols at.place address (selected flow placement) bytes j.0 p
          (all-room code f) items j.1),
    )

-- points of two functions, of which one stands before the other
pub ordered : (code : Code) (i j f h block other p q : ℕ) → IsSelected code → f < length code.program.functions
    → h < length code.program.functions → i < j → slice_get code.order i ≡ Some f → slice_get code.order j ≡ Some h
    → Stands (flow_at code.program f) p block → Stands (flow_at code.program h) q other
    → point_address code f p < point_address code h q
ordered code i j f h block other p q selected below under lt at one-at one two =
    let t : TextOf code = selected.supported.is_code.text in
    let a = both-apart code.symbols code.items code.places code.order i j f h (text_start + length t.start) t.code lt
    at one-at t.code_at in
    let end = (point-within code f block p a.first a.first_bytes selected below one a.first_at).1 in
    let apart = a.apart in
    let begin = (point-within code h other q a.second a.second_bytes selected under two a.second_at).0 in
    omega (arith, end, apart, begin)

-- points of one function
one-function : (code : Code) (f block other p q : ℕ) → IsSelected code → f < length code.program.functions
    → Stands (flow_at code.program f) p block → Stands (flow_at code.program f) q other
    → point_address code f p ≡ point_address code f q → p ≡ q
one-function code f block other p q h below one two e =
    let flow : Flow = flow_at code.program f in
    let placement : Placement = placement_of code f in
    let site : Site = site_of code f in
    let l = laid code f h below in
    let i = point-among flow placement p block one in
    let j = point-among flow placement q other two in
    let own : (n : ℕ) → point_address code f n ≡ site.places.points n =
    λ n. ap (λ (o : Option Places). address_in o n) l.placed in
    one-address site.symbols site.places l.address (selected flow placement) l.stands.bytes i.0 j.0 p q
    (all-room code f) l.stands.stand i.1 j.1 (sym (own p) ∙ e ∙ own q)

pub points-apart : PointsApart
points-apart code f h block other p q selected below under one two e =
    let order = selected.supported.is_code.text.order_is in
    let functions = selected.supported.is_code.functions in
    let i = order.each f (omega (arith, functions, below)) in
    let j = order.each h (omega (arith, functions, under)) in
    by i.0 j.0 (cases_order i.0 j.0) i.1 j.1
  where
    by : (a b : ℕ) → (a ≡ b) ⊎ ((a < b) ⊎ (b < a)) → slice_get code.order a ≡ Some f → slice_get code.order b ≡ Some h
        → (f ≡ h) × (p ≡ q)
    by a b (inl same) at one-at =
        let alike : f ≡ h = same_Some f h
        (sym at ∙ ap (λ (n : ℕ). slice_get code.order n) same ∙ one-at) in (
          alike,
          one-function code f block other p q selected below one
              (subst (λ (n : ℕ). Stands (flow_at code.program n) q other) (sym alike) two)
              (e ∙ ap (λ (n : ℕ). point_address code n q) (sym alike)),
        )
    by a b (inr (inl lt)) at one-at =
        let less = ordered code a b f h block other p q selected below under lt at one-at one two in
        absurd (omega (arith, less, e))
    by a b (inr (inr lt)) at one-at =
        let less = ordered code b a h f other block q p selected under below lt one-at at two one in
        absurd (omega (arith, less, e))

-- ---- marks and turns

nop-at : (code : Code) (f block p : ℕ) (o : Op) → IsSelected code → f < length code.program.functions
    → Stands (flow_at code.program f) p block → op_of code.program f p ≡ Some o
    → row (flow_at code.program f) (placement_of code f) p o ≡ plain insn.Nop ∷ []
    → IsAt code.text (point_address code f p) (0x90 ∷ [])
nop-at code f block p o h below stands has e =
    let site : Site = site_of code f in
    let address : ℕ = point_address code f p in
    let r = points-stand code f block p o h below stands has in
    nop-there site.symbols site.places site.text r.rest address
    (there-of site (plain insn.Nop ∷ r.rest) address
    (subst (λ (items : List Item). StandsFrom site (items ++ r.rest) address) e r.stands))

pub marks-are-nops : MarksAreNops
marks-are-nops code f block p (op.Mark n) h below stands has nop =
    nop-at code f block p (op.Mark n) h below stands has refl
marks-are-nops code f block p op.Turn h below stands has nop = nop-at code f block p op.Turn h below stands has refl
marks-are-nops code f block p o h below stands has nop = absurd (let e : false ≡ true = nop in cc)

-- ---- other ops

jump-other : (c : Option Cond) (distance : ℤ) (bytes : List ℕ) → Spells (jump_if c distance) bytes → BeginsOther bytes
jump-other None distance bytes h = common-begins (insn.Jmp distance) bytes tt h
jump-other (Some c) distance bytes h = common-begins (insn.Jcc c distance) bytes tt h

-- an item that is no NOP begins with another byte
item-other : (symbols : Symbols) (places : Places) (address : ℕ) (i : Item) (bytes : List ℕ) → IsOther i
    → ItemAt symbols places address i bytes → BeginsOther bytes
item-other symbols places address (item.Plain i) bytes other at = common-begins i bytes other at
item-other symbols places address (item.Label l) bytes other at = absurd other
item-other symbols places address (item.Point p) bytes other at = absurd other
item-other symbols places address (item.JumpTo l) bytes other (distance, spelled, leads) =
    common-begins (insn.Jmp distance) bytes tt spelled
item-other symbols places address (item.JumpIf c l) bytes other (distance, spelled, leads) =
    common-begins (insn.Jcc c distance) bytes tt spelled
item-other symbols places address (item.CallFunction f) bytes other (target, named, (distance, spelled, leads)) =
    common-begins (insn.Call distance) bytes tt spelled
item-other symbols places address (item.CallStub s) bytes other (distance, spelled, leads) =
    common-begins (insn.Call distance) bytes tt spelled
item-other symbols places address (item.JumpTrap c) bytes other (distance, spelled, leads) =
    jump-other c distance bytes spelled
item-other symbols places address (item.AddressOf r k) bytes other (target, z, is, fits, spelled) =
    common-begins (insn.MovImm (rm.Reg r) z) bytes tt spelled

-- items that begin with one are no NOP
clear-there : (site : Site) (items rest : List Item) (address : ℕ) → BeginsWithOther items
    → StandsFrom site (items ++ rest) address → IsClear site.text address
clear-there site [] rest address some h = absurd some
clear-there site (x ∷ items) rest address some h =
    let first : List ℕ = h.stand.0 in
    let here : IsAt site.text address first =
    at-front site.text address first h.stand.1 (subst (IsAt site.text address) h.stand.2 h.here) in
    clear-at site.text address first here
    (item-other site.symbols site.places address x first some h.stand.3)

-- the moves before a jump are no NOPs
jumps-over : (code : Code) (f block p : ℕ) (o : Op) → IsSelected code → f < length code.program.functions
    → Stands (flow_at code.program f) p block → op_of code.program f p ≡ Some o
    → JumpsOverOthers (flow_at code.program f) (placement_of code f) p o
jumps-over code f block p o h below stands has x is = at (slice_get (points_of (flow_at code.program f) x) 0) refl
  where
    at : (next : Option ℕ) → slice_get (points_of (flow_at code.program f) x) 0 ≡ next
        → AreOthers (moves_to (placement_of code f) p next)
    at None e = tt
    at (Some q) e =
        straight-others ((placement_of code f).between p q)
        ((h.supported.supports f below).moves p q ((block, stands), op.Jump x, has ∙ ap Some is, e)).straight

pub others-are-clear : OthersAreClear
others-are-clear code f block p o h below stands has nop =
    let r = points-stand code f block p o h below stands has in
    clear-there (site_of code f) (row (flow_at code.program f) (placement_of code f) p o) r.rest
    (point_address code f p)
    (other-begins (flow_at code.program f) (placement_of code f) p o nop
    (jumps-over code f block p o h below stands has)) r.stands
