use Rattle.std.proofs.Common.{refl, sym, ap, ◌∙◌, map}
use Rattle.std.proofs.lemmas.Result.{IfOk-weaker}
use Rattle.std.specs.Prelude.{sum_by}
use Rattle.c_tree.specs.Erased.{function_of}
use Rattle.c_typing.specs.Typed.{object_bytes}
use Rattle.c_check.specs.Tables.{object_described}
use Rattle.c_check.specs.Outlines.{made}
use Rattle.c_check.proofs.programs.limit_above.Goals as goal

pub returns : goal.returns
returns c =
    let bytes = c.in_ok-bytes.ensures
    ∙ ap (λ os. sum_by object_bytes (map object_described os)) c.as_slice.ensures.value in
    IfOk-weaker c.limit.result _ _ (λ l h.
    h (made c.args.outline.now (map function_of c.args.functions.now)) (sym bytes) refl) c.limit.ensures
