use Rattle.std.proofs.Common.{◌≤◌, length}
use Rattle.c_lex.specs.Characters.{ReadsFront}
use Rattle.c_lex.proofs.quotes.inside_at.Given as goal

abbrev pub invariant-loop-value : goal.invariant-loop-value
invariant-loop-value l = ReadsFront l.quote l.text l.values.items l.left × (length l.left ≤ length l.text)

abbrev pub decreases-loop-value : goal.decreases-loop-value
decreases-loop-value l = length l.left
