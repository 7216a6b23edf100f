use Rattle.std.proofs.Common.{ap, sym, ◌∙◌}
use Rattle.c_syntax.specs.Declarations.{initialiser_of}
use Rattle.c_check_declarations.proofs.Strings.{counted_list}
use Rattle.c_check_declarations.proofs.sizes.count_given.Goals as goal

pub returns-in_ok-number-in-List : goal.returns-in_ok-number-in-List
returns-in_ok-number-in-List c = counted_list c.args.of (initialiser_of c.args.value.now) c.in-List.opening
    c.in-List.values.items c.in-List.commas.items c.in-List.trailing c.in-List.close c.in_ok-number-in-List.field-0
    (ap initialiser_of c.in-List.is) (sym c.in_default.ensures)
    (c.in_ok-number-in-List.ensures ∙ c.len.ensures ∙ c.in-List.values.ok.0)
