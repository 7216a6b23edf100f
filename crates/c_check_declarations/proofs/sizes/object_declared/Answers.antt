use Rattle.std.proofs.Common.{ap}
use Rattle.c_syntax.specs.Declarations.{array_of, declarator_of, part_of, value_of}
use Rattle.c_check_declarations.specs.Views.{specified_of}
use Rattle.c_check_declarations.proofs.Sized.{array_said}
use Rattle.c_check_declarations.proofs.sizes.object_declared.Goals as goal

pub returns-in_ok-count-in-Array : goal.returns-in_ok-count-in-Array
returns-in_ok-count-in-Array c = array_said c.args.scopes.now (specified_of c.args.said)
    (declarator_of c.args.declarator.now) (array_of c.in-Array.part) (value_of c.args.value.now) c.pointed-of.result
    c.in_ok-given-in-Array.given c.in_ok-count-in-Array.count c.array_declared.result c.args.notes.now
    c.size_or.new.notes (ap part_of c.in-Array.is) c.pointed-of.ensures c.in_ok-given-in-Array.ensures
    c.in_ok-count-in-Array.ensures c.array_declared.ensures
