use Rattle.std.proofs.Common.{[], ◌∷◌, inl, refl}
use Rattle.ia32_insn.proofs.step_laws.worked_steps.Goals as goal

pub returns-clause-add_minus_one : goal.returns-clause-add_minus_one
returns-clause-add_minus_one c =
    inl (0xc0 ∷ [], 0xff ∷ [], refl, (0xc0, refl, refl, refl, refl), record { count = refl; reads = refl })
