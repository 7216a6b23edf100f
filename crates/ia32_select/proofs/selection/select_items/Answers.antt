use Rattle.std.proofs.Common.{ℕ, List, sym, subst}
use Rattle.ia32_laws.specs.Supports.{AreArraysIn}
use Rattle.ia32_placements.proofs.Frames.{are-arrays-in}
use Rattle.ia32_select.specs.Sites.{flow_of, places_of}
use Rattle.ia32_select.proofs.selection.select_items.Goals as goal

pub emit_headers-requires-clause-inside : goal.emit_headers-requires-clause-inside
emit_headers-requires-clause-inside c =
    let flow = flow_of c.args.site.now in
    let places = places_of c.args.site.now in
    subst (λ (l : List ℕ). AreArraysIn flow.arrays places.frame l) (sym c.requires.arrays)
    (are-arrays-in flow places c.requires.selects.legal.frame)
