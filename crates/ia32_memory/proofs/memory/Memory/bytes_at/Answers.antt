use Rattle.std.specs.Prelude.{List, Some, None, slice_set}
use Rattle.std.proofs.Common.{refl, sym, ◌∙◌, ap}
use Rattle.std.proofs.lemmas.List.{set-get_or}
use Rattle.ia32_insn.specs.State as state
use Rattle.ia32_memory.specs.declared.area.Access.TheVariants.{Read}
use Rattle.ia32_memory.proofs.Finding.{told-of, has-place, bytes_at-Some, bytes_at-None}
use Rattle.ia32_memory.proofs.memory.Memory.bytes_at.Goals as goal

pub returns-in_err-index : goal.returns-in_err-index
returns-in_err-index c =
    let areas = c.self.inside.areas.items in
    let none = told-of Read c.args.address c.args.count areas c.deref.result.now c.find.result None
    c.deref.ensures.value c.find.ensures c.in_err-index.was in
    rw c.from_residual.ensures (
      (refl, λ _. tt, c.self.view_is),
      record {
        rests = tt;
        found = tt;
        none = bytes_at-None c.args.count c.args.address areas c.args.self.now none c.self.view_is;
        count = tt;
      },
    )

pub bytes-requires : goal.bytes-requires
bytes-requires c =
    let areas = c.self.inside.areas.items in
    let place = told-of Read c.args.address c.args.count areas c.deref.result.now c.find.result
    (Some c.in_ok-index.index) c.deref.ensures.value c.find.ensures c.in_ok-index.was in
    has-place Read c.args.address c.args.count c.in_ok-index.index areas c.index_mut.result.now place
    c.index_mut.ensures.value

pub returns : goal.returns
returns c =
    let areas = c.self.inside.areas.items in
    let area = c.index_mut.result.now in
    let i = c.in_ok-index.index in
    let place = told-of Read c.args.address c.args.count areas c.deref.result.now c.find.result (Some i)
    c.deref.ensures.value c.find.ensures c.in_ok-index.was in
    let found = bytes_at-Some c.args.count c.args.address i areas c.args.self.now area place c.index_mut.ensures.value
    c.self.view_is in
    let same = ap (λ (a : state.Area). slice_set areas i a) (c.bytes.follows.holds-at-none ∙ c.index_mut.ensures.value)
    ∙ set-get_or areas i area ∙ c.self.view_is in (
      (refl, λ _. tt, same),
      record {
        rests = tt;
        found = found.1 ∙ ap Some (sym c.bytes.ensures.value);
        none = tt;
        count = c.bytes.ensures.count;
      },
    )
