use Rattle.std.proofs.Common.{sym, subst, map, drop, arith}
use Rattle.c_check_expressions.specs.Notes.{note_of}
use Rattle.c_check.specs.Tables.{known_of, IsKnownOf}
use Rattle.c_check.proofs.Walks.{dropped}
use Rattle.c_check.proofs.known.defined.Goals as goal

pub notes-preserved : goal.notes-preserved
notes-preserved c = record {
  within = omega (arith, c.notes.invariant.within);
  known = subst (λ ns. IsKnownOf ns (known_of c.add.new.self))
      (sym (dropped note_of c.args.notes.now c.notes.left c.index-notes-left.result c.notes-test.true
      c.notes.invariant.within c.index-notes-left.is))
      (c.in_ok-add.ensures (map note_of (drop c.notes.left c.args.notes.now)) c.notes.invariant.known);
}
