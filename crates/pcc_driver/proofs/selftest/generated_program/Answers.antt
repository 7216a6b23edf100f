-- The program of the text that was generated.
use Rattle.std.proofs.Common.{List, ℕ, [], ◌∷◌, MatchResult, subst}
use Rattle.c_front.specs.Answers.{HaveTypedProgram}
use Rattle.c_tree.specs.Erased.{program_of}
use Rattle.pcc_driver.specs.Programs.{TextsRefused}
use Rattle.pcc_driver.proofs.selftest.generated_program.Goals as goal

pub returns-in-Ok : goal.returns-in-Ok
returns-in-Ok c =
    subst (λ (text : List ℕ). MatchResult c.program_of_text.result
    (λ program. HaveTypedProgram (text ∷ []) (program_of program)) (TextsRefused (text ∷ []))) c.in-Ok.ensures
    c.program_of_text.ensures
