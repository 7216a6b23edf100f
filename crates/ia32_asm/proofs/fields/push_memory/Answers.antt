use Rattle.std.specs.Prelude.{◌≡◌, true, false}
use Rattle.std.proofs.Common.{sym, ◌∙◌, w32, rules}
use Rattle.std.proofs.lemmas.Int.{to_z-of_z}
use Rattle.ia32_insn.specs.Preferred.{needs_sib}
use Rattle.ia32_asm.proofs.Operands.{items-sib, items-base}
use Rattle.ia32_asm.proofs.fields.push_memory.Goals as goal

pub returns-then-needs_sib-clause-items : goal.returns-then-needs_sib-clause-items
returns-then-needs_sib-clause-items c =
    let m = c.args.m.now in
    let old = c.args.out.now.items in
    let need : needs_sib m.index m.base ≡ true = sym c.needs_sib.ensures ∙ c.if-needs_sib.true in
    items-sib old c.args.reg m _ c.fields_byte.result c.sib_for.result c.mod_for-mode.result _ _ _ need
    (to_z-of_z w32 m.disp (search rules)) c.mod_for-mode.ensures.mode c.fields_byte.ensures c.sib_for.ensures
    c.push.ensures.items c.push-then-needs_sib.ensures.items c.push_displacement.ensures.items

pub returns-else-needs_sib-clause-items : goal.returns-else-needs_sib-clause-items
returns-else-needs_sib-clause-items c =
    let m = c.args.m.now in
    let old = c.args.out.now.items in
    let need : needs_sib m.index m.base ≡ false = sym c.needs_sib.ensures ∙ c.if-needs_sib.false in
    items-base old c.args.reg m _ c.fields_byte-else-needs_sib.result c.base_number.result c.mod_for-mode.result _ _
    need (to_z-of_z w32 m.disp (search rules)) c.mod_for-mode.ensures.mode c.base_number.ensures.number
    c.fields_byte-else-needs_sib.ensures c.push-else-needs_sib.ensures.items
    c.push_displacement-else-needs_sib.ensures.items
