use Rattle.std.proofs.Common.{ℕ, List, drop, sym, ap, ◌∙◌, arith, length-drop}
use Rattle.std.proofs.lemmas.List.{take_all}
use Rattle.ia32_memory.proofs.KeepingCells.{laid-whole}
use Rattle.ia32_memory.proofs.cells.Cells.rest.Goals as goal

pub returns : goal.returns
returns c =
    let cells = c.args.self.now in
    let offset = c.args.offset in
    take_all _ (drop offset c.deref.result.now) (omega (arith, length-drop offset c.deref.result.now))
    ∙ ap (λ (l : List ℕ). drop offset l) (c.deref.ensures.value
    ∙ sym (laid-whole cells.size cells.front.items cells.back.items c.requires.whole c.requires.within.0))
