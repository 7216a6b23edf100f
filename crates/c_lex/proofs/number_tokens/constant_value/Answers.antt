use Rattle.std.proofs.lemmas.Grind.{common_steps}
use Rattle.std.proofs.Common.{◌≡◌, ◌≤◌, ◌⊎◌, ℕ, ℤ, List, MatchOption, pos, get_or, inl, inr, subst, arith}
use Rattle.std.proofs.lemmas.List.{take_rest}
use Rattle.std.proofs.lemmas.Bool.Decides.{nat_tests}
use Rattle.pcc_base.specs.Ascii.{capital_x, letter_x}
use Rattle.c_lex.specs.Bytes.{is_hexadecimal_digit, number_in}
use Rattle.c_lex.specs.Literals.{AllPass}
use Rattle.c_lex.proofs.NumberPieces.{hexadecimal_result}
use Rattle.c_lex.proofs.number_tokens.constant_value.Goals as goal
use Rattle.c_lex.proofs.number_tokens.constant_value.Goals.{then-text-eq120, else-text-eq120}

pub returns-then-text-eq88 : goal.returns-then-text-eq88
returns-then-text-eq88 c =
    let text = c.args.text.now in
    let letter : (get_or text 1 0 ≡ letter_x) ⊎ (get_or text 1 0 ≡ capital_x) = elim c.if-text-eq120.branch [
      | then-text-eq120 w ↦ inl w.if-text-eq120.true
      | else-text-eq120 w ↦ let shows = w.value-is in inr (grind (arith, nat_tests))
    ] in
    let digits =
    subst (λ (ds : List ℕ). MatchOption c.value_in-then-text-eq88.result (AllPass is_hexadecimal_digit ds
    → number_in 16 ds ≤ 0x7fffffff → ⊥)
    (λ (z : ℤ). AllPass is_hexadecimal_digit ds × (number_in 16 ds ≤ 0x7fffffff) × (z ≡ pos (number_in 16 ds))))
    (take_rest text 2) c.value_in-then-text-eq88.ensures in
    hexadecimal_result c.value_in-then-text-eq88.result text c.if-text-gt2.true c.if-text-ne48.false letter digits

pub returns-then-text-ne48 : goal.returns-then-text-ne48
returns-then-text-ne48 c = grind (arith, common_steps)

pub returns : goal.returns
returns c = grind (arith, common_steps)
