use Rattle.std.specs.Prelude.{List, is_some}
use Rattle.std.proofs.Common.{sym, ◌∙◌, ap}
use Rattle.ia32_insn.specs.State.{may_store, Area}
use Rattle.ia32_memory.proofs.Finding.{may_store-found}
use Rattle.ia32_memory.proofs.memory.Memory.may_store.Goals as goal

pub returns : goal.returns
returns c =
    c.is_some.ensures ∙ ap is_some c.find.ensures ∙ sym (may_store-found c.args.count c.args.address c.deref.result.now)
    ∙ ap (λ (areas : List Area). may_store c.args.count c.args.address areas) (c.deref.ensures.value ∙ c.self.view_is)
