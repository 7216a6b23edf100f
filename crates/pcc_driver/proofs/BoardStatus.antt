-- The status of a command on a board, from its report.
use Rattle.std.proofs.Common.{◌≡◌, ◌<◌, ◌≤◌, ℕ, List, Option, Some, None, length, sym, ap, ◌∙◌, subst, inl, inr}
use Rattle.std.proofs.Common.{refl, arith}
use Rattle.std.specs.Prelude.{◌⊎◌}
use Rattle.puzzle_board.specs.declared.area.Area.{Area}
use Rattle.puzzle_board.specs.declared.piece.Piece.{Piece}
use Rattle.puzzle_solver.specs.Reading.{IsNoBoard}
use Rattle.puzzle_solver.proofs.OneText.{one-board}
use Rattle.pcc_driver.specs.Answers.{BoardTold, LeastTold, SolveTold}
use Rattle.pcc_driver.specs.Causes.{HasCause}
use Rattle.pcc_driver.specs.Outside.{Outside}
use Rattle.pcc_driver.specs.Promises.{IsQuiet, LeastStatus, SolveStatus}
use Rattle.pcc_driver.specs.Removals.{AreMany, IsLargeBoard, IsRemovalOf}
use Rattle.pcc_driver.specs.Reports.{status_of}
use Rattle.pcc_driver.specs.Solutions.{IsBoardText, IsSolution, IsSomeBoard}
use Rattle.pcc_driver.specs.Sources.{Holds, IsTooLong}
use Rattle.pcc_driver.specs.declared.report.Named.TheVariants.{Source, Map, Image, Board}
use Rattle.pcc_driver.specs.declared.report.Report.{Report}
use Rattle.pcc_driver.specs.declared.report.Report.TheVariants as reports

-- some answer on a text
abbrev IsAnswered : (List ℕ → List ℕ → Type 0) → List ℕ → Type 0
IsAnswered Answers text = (answer : List ℕ) × Answers text answer

-- what decides the status of a command on a board, by what the file holds
record Decides (Answers : List ℕ → List ℕ → Type 0) (IsLarge : ℕ → ℕ → List ℕ → Type 0) (content : Option (List ℕ))
    (Status : ℕ → Type 0) : Type 0 where
  pub answered : Holds content (IsAnswered Answers) → Status 0
  pub none : Holds content IsNoBoard → Status 1
  pub large : (n m : ℕ) → Holds content (IsLarge n m) → Status 3
  pub long : IsTooLong content → Status 3
  pub absent : content ≡ None → Status 6

-- the report on a board has the status of the file
board_status : (Answers : List ℕ → List ℕ → Type 0) (IsLarge : ℕ → ℕ → List ℕ → Type 0) (content : Option (List ℕ))
    (Status : ℕ → Type 0) → Decides Answers IsLarge content Status → (report : Report) (old new : Outside)
    → HasCause report old.work new.work → BoardTold Answers IsLarge content old.work.out new.work.out report
    → IsQuiet old new → (status_of report ≡ 11) ⊎ Status (status_of report)
board_status Answers IsLarge content Status decided reports.Answered old new cause told quiet =
    inr (decided.answered (told.0, told.1, told.2, (told.3.0, told.3.1)))
board_status Answers IsLarge content Status decided reports.BadBoard old new cause told quiet = inr (decided.none told.0)
board_status Answers IsLarge content Status decided (reports.LargeBoard areas pieces) old new cause told quiet =
    inr (decided.large areas pieces told.0)
board_status Answers IsLarge content Status decided (reports.TooLong Board) old new cause told quiet =
    inr (decided.long told.0)
board_status Answers IsLarge content Status decided (reports.NoFile Board) old new cause told quiet =
    inr (decided.absent told.0)
board_status Answers IsLarge content Status decided (reports.ReadFault file) old new cause told quiet =
    absurd (quiet.reads cause.files.0)
board_status Answers IsLarge content Status decided reports.OutputFault old new cause told quiet =
    absurd (quiet.output cause.streams.1)
board_status Answers IsLarge content Status decided reports.NoMemory old new cause told quiet = inl refl
board_status Answers IsLarge content Status decided (reports.TooLong (Source i)) old new cause told quiet = absurd told
board_status Answers IsLarge content Status decided (reports.TooLong Map) old new cause told quiet = absurd told
board_status Answers IsLarge content Status decided (reports.TooLong Image) old new cause told quiet = absurd told
board_status Answers IsLarge content Status decided (reports.NoFile (Source i)) old new cause told quiet = absurd told
board_status Answers IsLarge content Status decided (reports.NoFile Map) old new cause told quiet = absurd told
board_status Answers IsLarge content Status decided (reports.NoFile Image) old new cause told quiet = absurd told
board_status Answers IsLarge content Status decided report old new cause told quiet = absurd told

-- ---- solve

absent_status : (content : Option (List ℕ)) → content ≡ None → SolveStatus content 6
absent_status content e = rw e refl

large_status : (content : Option (List ℕ)) → IsTooLong content → SolveStatus content 3
large_status content long =
    rw long.1 (
      λ h. refl,
      λ h board. absurd (omega (arith, long.2, h)),
      λ h none. absurd (omega (arith, long.2, h)),
    )

solved_status : (content : Option (List ℕ)) → Holds content (IsAnswered IsSolution) → SolveStatus content 0
solved_status content held =
    let board = held.3.1.2 in
    rw held.1 (
      λ h. absurd (omega (arith, held.2, h)),
      λ h other. refl,
      λ h none. absurd (none held.3.1.0 held.3.1.1 board.numbered board.text_is),
    )

no_board_status : (content : Option (List ℕ)) → Holds content IsNoBoard → SolveStatus content 1
no_board_status content held =
    rw held.1 (
      λ h. absurd (omega (arith, held.2, h)),
      λ h board. absurd (held.3 board.0 board.1 board.2.numbered board.2.text_is),
      λ h none. refl,
    )

-- the report of `solve` has the status of the file
pub solve_status : (content : Option (List ℕ)) (report : Report) (old new : Outside) → HasCause report old.work new.work
    → SolveTold content old.work.out new.work.out report → IsQuiet old new
    → (status_of report ≡ 11) ⊎ SolveStatus content (status_of report)
solve_status content report old new cause told quiet =
    board_status IsSolution (λ areas pieces text. ⊥) content (SolveStatus content) (record {
      answered = solved_status content;
      none = no_board_status content;
      large = λ n m held. absurd held.3;
      long = large_status content;
      absent = absent_status content;
    }) report old new cause told quiet

-- ---- least

-- a text that is of a board within the limits is of no large one
not_large : (text : List ℕ) (areas : List Area) (pieces : List Piece) → IsBoardText text areas pieces
    → (AreMany (length areas) (length pieces) → ⊥) → (n m : ℕ) → IsLargeBoard n m text → ⊥
not_large text areas pieces is few n m large =
    let (others, more, other, n_is, m_is, many) = large in
    let same = one-board areas others pieces more is.numbered other.numbered (sym is.text_is ∙ other.text_is) in
    few (subst (λ (k : ℕ). AreMany k (length pieces)) (sym (ap length same.0 ∙ n_is))
    (subst (λ (k : ℕ). AreMany n k) (sym (ap length same.1 ∙ m_is)) many))

none_least : (content : Option (List ℕ)) → content ≡ None → LeastStatus content 6
none_least content e = rw e refl

long_least : (content : Option (List ℕ)) → IsTooLong content → LeastStatus content 3
long_least content long =
    rw long.1 (
      λ h. refl,
      λ h n m large. refl,
      λ h board small. absurd (omega (arith, long.2, h)),
      λ h none. absurd (omega (arith, long.2, h)),
    )

removed_least : (content : Option (List ℕ)) → Holds content (IsAnswered IsRemovalOf) → LeastStatus content 0
removed_least content held =
    let (answer, (areas, pieces, is, few, removal)) = held.3 in
    rw held.1 (
      λ h. absurd (omega (arith, held.2, h)),
      λ h n m large. absurd (not_large held.0 areas pieces is few n m large),
      λ h board small. refl,
      λ h none. absurd (none areas pieces is.numbered is.text_is),
    )

large_least : (content : Option (List ℕ)) (n m : ℕ) → Holds content (IsLargeBoard n m) → LeastStatus content 3
large_least content n m held =
    let (areas, pieces, is, n_is, m_is, many) = held.3 in
    rw held.1 (
      λ h. refl,
      λ h k l large. refl,
      λ h board small. absurd (small n m held.3),
      λ h none. absurd (none areas pieces is.numbered is.text_is),
    )

no_board_least : (content : Option (List ℕ)) → Holds content IsNoBoard → LeastStatus content 1
no_board_least content held =
    rw held.1 (
      λ h. absurd (omega (arith, held.2, h)),
      λ h n m large. absurd (held.3 large.0 large.1 large.2.numbered large.2.text_is),
      λ h board small. absurd (held.3 board.0 board.1 board.2.numbered board.2.text_is),
      λ h none. refl,
    )

-- the report of `least` has the status of the file
pub least_status : (content : Option (List ℕ)) (report : Report) (old new : Outside) → HasCause report old.work new.work
    → LeastTold content old.work.out new.work.out report → IsQuiet old new
    → (status_of report ≡ 11) ⊎ LeastStatus content (status_of report)
least_status content report old new cause told quiet =
    board_status IsRemovalOf IsLargeBoard content (LeastStatus content) (record {
      answered = removed_least content;
      none = no_board_least content;
      large = large_least content;
      long = long_least content;
      absent = none_least content;
    }) report old new cause told quiet
