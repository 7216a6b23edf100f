use Rattle.std.proofs.Common.{◌≡◌, ◌∙◌, List, ap, set, subst, sym, true, false}
use Rattle.std.specs.List.{slice_get}
use Rattle.puzzle_board.specs.Places.{Entry, IsPosition, IsRising, is_entry_of, with_place}
use Rattle.puzzle_board.proofs.Sides.{entry-named, entry-within, rising-with, with-here, with-new}
use Rattle.puzzle_board.proofs.side.Side.set.Goals as goal

pub invariant_of-self : goal.invariant_of-self
invariant_of-self c =
    let entries : List Entry = c.self.inside.entries.items in
    let v = c.args.var in
    let i = c.position-i.result in
    let e : Entry = (v, c.args.place) in
    let at : IsPosition entries v i =
    subst (λ (es : List Entry). IsPosition es v i) c.deref.ensures.value c.position-i.ensures in
    let is : is_entry_of (slice_get entries i) v ≡ true =
    subst (λ (es : List Entry). is_entry_of (slice_get es i) v ≡ true) c.deref-2.ensures.value
    (sym c.is_at.ensures ∙ c.if-is_at.true) in
    let same : set entries i e ≡ with_place entries v c.args.place =
    with-here entries v i e c.args.place at (entry-within entries v i is) (entry-named entries v i e is) in
    subst (λ (es : List Entry). IsRising es) (sym same) (rising-with entries v c.args.place c.self.invariant)

pub returns-then-is_at : goal.returns-then-is_at
returns-then-is_at c =
    let entries : List Entry = c.self.inside.entries.items in
    let v = c.args.var in
    let i = c.position-i.result in
    let e : Entry = (v, c.args.place) in
    let at : IsPosition entries v i =
    subst (λ (es : List Entry). IsPosition es v i) c.deref.ensures.value c.position-i.ensures in
    let is : is_entry_of (slice_get entries i) v ≡ true =
    subst (λ (es : List Entry). is_entry_of (slice_get es i) v ≡ true) c.deref-2.ensures.value
    (sym c.is_at.ensures ∙ c.if-is_at.true) in
    with-here entries v i e c.args.place at (entry-within entries v i is) (entry-named entries v i e is)
    ∙ ap (λ (es : List Entry). with_place es v c.args.place) c.self.view_is

pub invariant_of-self-2 : goal.invariant_of-self-2
invariant_of-self-2 c =
    let entries : List Entry = c.self.inside.entries.items in
    let v = c.args.var in
    let i = c.position-i.result in
    let e : Entry = (v, c.args.place) in
    let at : IsPosition entries v i =
    subst (λ (es : List Entry). IsPosition es v i) c.deref.ensures.value c.position-i.ensures in
    let other : is_entry_of (slice_get entries i) v ≡ false =
    subst (λ (es : List Entry). is_entry_of (slice_get es i) v ≡ false) c.deref-2.ensures.value
    (sym c.is_at.ensures ∙ c.if-is_at.false) in
    let same : c.insert.new.self.items ≡ with_place entries v c.args.place =
    c.in_ok-insert.ensures.items ∙ with-new entries v i c.args.place at other in
    subst (λ (es : List Entry). IsRising es) (sym same) (rising-with entries v c.args.place c.self.invariant)

pub returns : goal.returns
returns c =
    let entries : List Entry = c.self.inside.entries.items in
    let v = c.args.var in
    let i = c.position-i.result in
    let at : IsPosition entries v i =
    subst (λ (es : List Entry). IsPosition es v i) c.deref.ensures.value c.position-i.ensures in
    let other : is_entry_of (slice_get entries i) v ≡ false =
    subst (λ (es : List Entry). is_entry_of (slice_get es i) v ≡ false) c.deref-2.ensures.value
    (sym c.is_at.ensures ∙ c.if-is_at.false) in
    c.in_ok-insert.ensures.items
    ∙ (with-new entries v i c.args.place at other
    ∙ ap (λ (es : List Entry). with_place es v c.args.place) c.self.view_is)
