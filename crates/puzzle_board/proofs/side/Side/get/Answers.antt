use Rattle.std.proofs.Common.{◌≡◌, ◌∙◌, List, Option, Some, ap, subst, sym, true, false, get_or}
use Rattle.std.specs.List.{slice_get}
use Rattle.puzzle_board.specs.declared.place.Place.{Place}
use Rattle.puzzle_board.specs.Places.{Entry, IsPosition, is_entry_of, place_in}
use Rattle.puzzle_board.proofs.Sides.{entry-named, entry-within, place-here, place-nowhere}
use Rattle.puzzle_board.proofs.side.Side.get.Goals as goal

pub returns-then-is_at : goal.returns-then-is_at
returns-then-is_at c =
    let entries : List Entry = c.self.inside.entries.items in
    let v = c.args.var in
    let i = c.position-i.result in
    let e : Entry = c.index.result.now in
    let at : IsPosition entries v i =
    subst (λ (es : List Entry). IsPosition es v i) c.deref.ensures.value c.position-i.ensures in
    let is : is_entry_of (slice_get entries i) v ≡ true =
    subst (λ (es : List Entry). is_entry_of (slice_get es i) v ≡ true) c.deref-2.ensures.value
    (sym c.is_at.ensures ∙ c.if-is_at.true) in
    let here = place-here entries v i e at (entry-within entries v i is) (entry-named entries v i e is) in
    let read : e ≡ get_or entries i e = c.index.ensures in
    let some : Entry → Option Place = λ f. Some f.1 in
    ap some read ∙ (sym here ∙ ap (λ (es : List Entry). place_in es v) c.self.view_is)

pub returns : goal.returns
returns c =
    let entries : List Entry = c.self.inside.entries.items in
    let v = c.args.var in
    let i = c.position-i.result in
    let at : IsPosition entries v i =
    subst (λ (es : List Entry). IsPosition es v i) c.deref.ensures.value c.position-i.ensures in
    let other : is_entry_of (slice_get entries i) v ≡ false =
    subst (λ (es : List Entry). is_entry_of (slice_get es i) v ≡ false) c.deref-2.ensures.value
    (sym c.is_at.ensures ∙ c.if-is_at.false) in
    sym (place-nowhere entries v i c.self.invariant at other)
    ∙ ap (λ (es : List Entry). place_in es v) c.self.view_is
