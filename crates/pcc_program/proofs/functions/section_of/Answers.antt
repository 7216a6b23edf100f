-- The items of a graph can be assembled.
use Rattle.std.proofs.Common.{arith, subst, sym}
use Rattle.flow_graph.specs.Graphs.{Flow}
use Rattle.ia32_select.specs.Selections.{CanSelect, IsSelection}
use Rattle.pcc_program.proofs.Passed.{can-select}
use Rattle.pcc_program.proofs.functions.section_of.Goals as goal

pub select-requires : goal.select-requires
select-requires c =
    let (functions, objects, has) = c.requires.graph in
    subst (λ (g : Flow). CanSelect g c.args.home.now.places) (sym c.graph.ensures)
    (can-select functions objects c.args.home.now has c.requires.allocated)

pub assemble-requires : goal.assemble-requires
assemble-requires c =
    let (functions, objects, has) = c.requires.graph in
    let home = c.args.home.now in
    let selection : IsSelection home.form.graph home.places c.in_ok-items.items.items =
    subst (λ (g : Flow). IsSelection g home.places c.in_ok-items.items.items) c.graph.ensures c.in_ok-items.ensures in
    let code = selection.code functions objects has.graph in
    code.assembles (omega (arith, code.size, c.requires.small))

pub returns : goal.returns
returns c =
    let (functions, objects, has) = c.requires.graph in
    let home = c.args.home.now in
    let selection : IsSelection home.form.graph home.places c.in_ok-items.items.items =
    subst (λ (g : Flow). IsSelection g home.places c.in_ok-items.items.items) c.graph.ensures c.in_ok-items.ensures in
    let code = selection.code functions objects has.graph in
    record {
      items = c.in_ok-items.items.items;
      selection = selection;
      stands = c.in_ok-section.ensures.section;
      size = omega (
        arith,
        c.in_ok-section.ensures.size,
        code.size,
        c.in_ok-section.section.bytes.ok.0,
      );
    }
