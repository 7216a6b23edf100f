-- What the types of this crate in memory stand for.
use Rattle.lower_lines.specs.Statements.{After, Here, To, Leaves, Exits}
use Rattle.lower_expressions.specs.declared.after.After as ends
use Rattle.lower_expressions.specs.declared.after.After.TheVariants as ways
use Rattle.lower_expressions.specs.declared.after.Exits as exits

abbrev pub after_of : ends.After → After
after_of ways.Here = Here
after_of (ways.To block) = To block
after_of ways.Leaves = Leaves

abbrev pub exits_of : exits.Exits → Exits
exits_of e = record { breaks = e.breaks; continues = e.continues }
