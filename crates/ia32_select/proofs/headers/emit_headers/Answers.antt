use Rattle.std.proofs.Common.{◌≡◌, ◌<◌, ℕ, List, length, of_z, rules, sym, subst, to_z}
use Rattle.std.specs.Prelude.{slice_index_or}
use Rattle.std.specs.Int.{w32}
use Rattle.flow_graph.specs.Graphs.{Flow}
use Rattle.ia32_emit.specs.Locations.{distance, slots_of}
use Rattle.ia32_select.specs.Sites.{flow_of}
use Rattle.ia32_select.proofs.Counted.{few-elements, near-array}
use Rattle.ia32_select.proofs.headers.emit_headers.Goals as goal

pub emit_header-requires-clause-near : goal.emit_header-requires-clause-near
emit_header-requires-clause-near c =
    let flow : Flow = flow_of c.args.site.now in
    let belows : List ℕ = slots_of c.args.site.now.arrays.now in
    let i : ℕ = c.loop-array.array in
    let inside : i < length flow.arrays = search rules in
    let is : distance (to_z w32 (of_z w32 c.array_at.result)) ≡ slice_index_or belows i 0 = search rules in
    subst (λ (n : ℕ). n < 0x7ffffffc) (sym is)
    (near-array flow c.args.site.now.map.now.frame belows i c.requires.inside c.requires.small inside)

pub emit_header-requires-clause-few : goal.emit_header-requires-clause-few
emit_header-requires-clause-few c =
    let flow : Flow = flow_of c.args.site.now in
    let i : ℕ = c.loop-array.array in
    let inside : i < length flow.arrays = search rules in
    subst (λ (n : ℕ × ℕ). n.1 < 0x80000000) (sym c.array_of-count.ensures)
    (few-elements flow c.args.site.now.map.now.frame (slots_of c.args.site.now.arrays.now) i c.requires.inside
    c.is_flow.ensures.1.arrays_fit c.requires.small inside)
