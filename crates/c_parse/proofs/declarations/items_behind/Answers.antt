use Rattle.std.proofs.Common.{arith}
use Rattle.std.proofs.lemmas.Result.{err_from_is_err_and}
use Rattle.c_syntax.specs.Declarations.{item_of}
use Rattle.c_parse.proofs.Listing.{list_more, list_refused, list_done}
use Rattle.c_parse.proofs.declarations.items_behind.Goals as goal

pub items-preserved : goal.items-preserved
items-preserved c =
    record {
      reads = list_more item_of _ _ _ _ _ _ _ _ _ _ _ c.items.invariant.reads c.in-Some.ensures.0
          c.in_ok-next.ensures.0 c.in_ok-push-2.ensures c.in_ok-push-3.ensures c.in-Some.ensures.1
          c.in_ok-next.ensures.1;
      shorter = omega (arith, c.in-Some.ensures.1, c.in_ok-next.ensures.1, c.items.invariant.shorter);
    }

pub returns-in_err-next : goal.returns-in_err-next
returns-in_err-next c =
    let p = err_from_is_err_and c.from_residual-in_err-next.result c.from_residual-in_err-next.ensures.1 in
    rw (p.1, p.2) (list_refused _ _ _ _ _ _ _ c.items.invariant.reads c.in-Some.ensures.0
    c.in_err-next.ensures)

pub returns : goal.returns
returns c = (
  list_done _ _ _ _ _ c.items.invariant.reads c.in_default.ensures.0 c.in_default.ensures.1,
  rw c.in_default.ensures.1 c.items.invariant.shorter,
)
