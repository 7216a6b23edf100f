use Rattle.std.proofs.Common.{◌≡◌, if◌then◌else◌, sym}
use Rattle.pcc_base.specs.declared.fault.FaultKind.TheVariants.{Syntax, TooDeep}
use Rattle.c_parse.proofs.Trees.{tree_is, fault_is}
use Rattle.c_parse.proofs.parser.parse.Goals as goal
use Rattle.c_parse.proofs.parser.parse.Goals.{then-deep, else-deep}

pub returns-in-Ok-clause-tree : goal.returns-in-Ok-clause-tree
returns-in-Ok-clause-tree c =
    rw (sym c.as_slice-tokens.ensures.value) (tree_is _ _ _ (rw c.whole.ensures at c.in-Ok.ensures.reads.0)
    c.in-Ok.ensures.whole)

pub returns-after-deep-clause-refused : goal.returns-after-deep-clause-refused
returns-after-deep-clause-refused c =
    let kind : c.if-deep.result ≡ (if c.in-Err-Fault.deep then TooDeep else Syntax) =
    elim c.if-deep.branch [
      | then-deep w ↦ rw w.if-deep.true w.result-is
      | else-deep w ↦ rw w.if-deep.false w.result-is
    ] in
    rw (sym c.as_slice-tokens.ensures.value, c.unwrap_or.ensures) (fault_is _ c.args.end c.in-Err-Fault.deep
    c.in-Err-Fault.at c.if-deep.result kind c.in_default.ensures.none
    (rw (c.in-Err-Fault.field-0-is, c.whole.ensures) at c.in-Err-Fault.ensures.reads))
