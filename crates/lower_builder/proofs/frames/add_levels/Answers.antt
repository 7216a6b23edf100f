use Rattle.std.proofs.Common.{◌≡◌, ℕ, zero, suc, ◌+◌, ◌++◌, List, refl, ap, ◌∙◌, arith, append_assoc}
use Rattle.pcc_base.specs.declared.run.Width.{Width}
use Rattle.lower_lines.specs.Variables.{level_widths, levels_widths}
use Rattle.lower_builder.proofs.frames.add_levels.Goals as goal

levels-more : (k : ℕ) → levels_widths k ++ level_widths ≡ levels_widths (k + 1)
levels-more zero = refl
levels-more (suc k) =
    let e : suc (k + 1) ≡ suc k + 1 = omega arith in
    append_assoc level_widths (levels_widths k) level_widths
    ∙ ap (λ (ws : List Width). level_widths ++ ws) (levels-more k) ∙ ap levels_widths e

pub loop-level-preserved : goal.loop-level-preserved
loop-level-preserved c =
    c.in_ok-add_level.ensures ∙ ap (λ (ws : List Width). ws ++ level_widths) c.loop-level.invariant
    ∙ append_assoc c.args.widths.now.items (levels_widths c.loop-level._level) level_widths
    ∙ ap (λ (ws : List Width). c.args.widths.now.items ++ ws) (levels-more c.loop-level._level)
