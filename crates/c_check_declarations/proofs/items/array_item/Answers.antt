use Rattle.std.proofs.Common.{ap, ◌∙◌, length}
use Rattle.c_syntax.specs.Declarations.{value_of}
use Rattle.c_tree.specs.Program as tree
use Rattle.c_typing.specs.Initialisers.{array_initialiser}
use Rattle.c_typing.specs.Names.{Scope, numbered, with_array}
use Rattle.c_check_declarations.proofs.Initialised.{numbers_said}
use Rattle.c_check_declarations.proofs.items.array_item.Goals as goal

pub returns-clause-said : goal.returns-clause-said
returns-clause-said c =
    let s = c.args.scopes.now in
    let declared : Scope → Scope = with_array c.args.name.now.name c.args.element c.args.count in
    numbers_said (λ t. array_initialiser t c.args.element c.args.count (value_of c.args.value.now))
    (λ n m first. tree.Array n m c.args.element first) (declared (numbered s)) c.declare_array.new.self
    c.in_ok-number.number s.next c.in_ok-place.place (length s.arrays) c.in_ok-value.value c.array.result
    c.args.notes.now c.array_initialiser.new.notes
    (c.in_ok-place.ensures.1 ∙ ap declared c.in_ok-number.ensures.1) c.in_ok-number.ensures.0
    (c.in_ok-place.ensures.0 ∙ ap (λ (t : Scope). length t.arrays) c.in_ok-number.ensures.1)
    c.in_ok-value.ensures c.array.ensures
