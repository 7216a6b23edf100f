-- What the steps of `selftest` leave is what its report tells.
use Rattle.std.proofs.lemmas.List.Elements.{All-nil}
use Rattle.std.proofs.Common.{◌≡◌, ◌≢◌, ◌<◌, ◌++◌, ℕ, List, [], Some, ap, sym, ◌∙◌, append-nil, append_assoc, inl, inr, refl, take}
use Rattle.std.proofs.Common.{subst}
use Rattle.pcc_base.specs.Outcome as outcome
use Rattle.pcc_base.specs.declared.run.Trap.{Trap}
use Rattle.pcc_outside.specs.Files.{StoreCounts}
use Rattle.pcc_outside.specs.Streams.{SinkCounts}
use Rattle.c_eval.specs.Runs.{EvalTold}
use Rattle.c_eval_state.specs.declared.end.EvalEnd.TheVariants as evaluation
use Rattle.c_tree.specs.Program.{Program}
use Rattle.c_tree.specs.WellTyped.{WellTyped}
use Rattle.map_lines.specs.MapLaws.{MapListsLocals}
use Rattle.map_text.specs.Maps as maps
use Rattle.pcc_program.specs.Products.{IsImageOf}
use Rattle.pcc_words.specs.Asked.{map_name}
use Rattle.pcc_driver.specs.Answers.{AnswerPut, IsOfWrites, WritesTold}
use Rattle.pcc_driver.specs.Causes.{FilesCause, StreamsCause}
use Rattle.pcc_driver.specs.Outside.{IsPut, Output, Store}
use Rattle.pcc_driver.specs.Products.{AreProducts}
use Rattle.pcc_driver.specs.Programs.{HaveTypedProgram, TextsRefused}
use Rattle.pcc_driver.specs.Selftests.{GivesNoLine, GivesNoRun, HasEnd, ImageTested, IsEvalLine, IsLineOf, IsRunLine}
use Rattle.pcc_driver.specs.Selftests.{LineTold, PutsNone, RunPut, StandsAs, eval_line}
use Rattle.pcc_driver.specs.declared.report.Named.TheVariants.{Map, Image}
use Rattle.pcc_driver.specs.declared.report.Report.{Report}
use Rattle.pcc_driver.specs.declared.report.Report.TheVariants as reports
use Rattle.pcc_driver.proofs.OneEnd.{ends-as}

-- nothing was put
none-put : (out : Output) → IsPut out out []
none-put out t = sym (append-nil out.taken)

-- ---- the evaluation

pub evaluated_line : (p : Program) (turns status : ℕ) (left left' taken bytes line : List ℕ) → left ≡ [] → taken ≡ []
    → EvalTold p turns left left' taken bytes (evaluation.Ended status) → line ≡ eval_line bytes status
    → IsLineOf turns p line
unfolding EvalTold
evaluated_line p turns status left left' taken bytes line none empty told is =
    let there : EvalTold p turns [] left' taken bytes (evaluation.Ended status) =
    subst (λ (l : List ℕ). EvalTold p turns l left' taken bytes (evaluation.Ended status)) none told in
    let gives : EvalTold p turns [] left' [] bytes (evaluation.Ended status) =
    subst (λ (t : List ℕ). EvalTold p turns [] left' t bytes (evaluation.Ended status)) empty there in
    (status, gives.0, is ∙ ap (λ (w : List ℕ). eval_line w status) gives.2)

pub evaluated_trap : (p : Program) (turns : ℕ) (left left' taken bytes : List ℕ) (trap : Trap) → left ≡ []
    → EvalTold p turns left left' taken bytes (evaluation.Trapped trap) → GivesNoLine turns p (reports.Trapped trap)
unfolding EvalTold
evaluated_trap p turns left left' taken bytes trap none told =
    (subst (λ (l : List ℕ). EvalTold p turns l left' taken bytes (evaluation.Trapped trap)) none told).0

pub evaluated_spent : (p : Program) (turns : ℕ) (left left' taken bytes : List ℕ) → left ≡ []
    → EvalTold p turns left left' taken bytes evaluation.TurnsSpent → GivesNoLine turns p (reports.BudgetSpent turns)
unfolding EvalTold
evaluated_spent p turns left left' taken bytes none told =
    (refl, (subst (λ (l : List ℕ). EvalTold p turns l left' taken bytes evaluation.TurnsSpent) none told).0)

-- ---- up to the first line

-- texts without a typed program
pub refused_line : (turns : ℕ) (texts : List (List ℕ)) (out : Output) (report : Report) → TextsRefused texts report
    → LineTold turns texts out out report
refused_line turns texts out (reports.Trapped trap) h = absurd h
refused_line turns texts out (reports.BudgetSpent spent) h = absurd h
refused_line turns texts out reports.OutputFault h = absurd h
refused_line turns texts out reports.NoMemory h = λ t. refl
refused_line turns texts out report h = (h, λ t. refl)

-- a program whose turns give no line
pub no_line : (turns : ℕ) (texts : List (List ℕ)) (p : Program) (out : Output) (report : Report)
    → HaveTypedProgram texts p → GivesNoLine turns p report → LineTold turns texts out out report
no_line turns texts p out (reports.Trapped trap) typed h = ((p, typed, h), λ t. refl)
no_line turns texts p out (reports.BudgetSpent spent) typed h = ((p, typed, h), λ t. refl)
no_line turns texts p out reports.NoMemory typed h = λ t. refl
no_line turns texts p out report typed h = absurd h

-- a line that was refused
pub unput_line : (turns : ℕ) (texts : List (List ℕ)) (line : List ℕ) (old new : Output) (report : Report)
    → report ≢ reports.Answered → IsEvalLine turns texts line → AnswerPut line old new report
    → LineTold turns texts old new report
unput_line turns texts line old new reports.Answered refused is put = absurd (refused refl)
unput_line turns texts line old new reports.OutputFault refused is put = (line, is, put)
unput_line turns texts line old new reports.NoMemory refused is put = put
unput_line turns texts line old new report refused is put = absurd put

-- such reports raise no count
pub refused_files : (texts : List (List ℕ)) (report : Report) (counts : StoreCounts) → TextsRefused texts report
    → FilesCause report counts counts
refused_files texts (reports.SourceFault fault) counts h = refl
refused_files texts (reports.TooManyTokens tokens) counts h = refl
refused_files texts (reports.LargeArrays bytes) counts h = refl
refused_files texts (reports.LargeFrame name bytes) counts h = refl
refused_files texts reports.NoMemory counts h = refl
refused_files texts report counts h = absurd h

pub refused_streams : (texts : List (List ℕ)) (report : Report) (input : ℕ) (out : SinkCounts)
    → TextsRefused texts report → StreamsCause report input input out out
refused_streams texts (reports.SourceFault fault) input out h = (refl, refl)
refused_streams texts (reports.TooManyTokens tokens) input out h = (refl, refl)
refused_streams texts (reports.LargeArrays bytes) input out h = (refl, refl)
refused_streams texts (reports.LargeFrame name bytes) input out h = (refl, refl)
refused_streams texts reports.NoMemory input out h = (refl, refl)
refused_streams texts report input out h = absurd h

pub no_line_files : (turns : ℕ) (p : Program) (report : Report) (counts : StoreCounts) → GivesNoLine turns p report
    → FilesCause report counts counts
no_line_files turns p (reports.Trapped trap) counts h = refl
no_line_files turns p (reports.BudgetSpent spent) counts h = refl
no_line_files turns p reports.NoMemory counts h = refl
no_line_files turns p report counts h = absurd h

pub no_line_streams : (turns : ℕ) (p : Program) (report : Report) (input : ℕ) (out : SinkCounts)
    → GivesNoLine turns p report → StreamsCause report input input out out
no_line_streams turns p (reports.Trapped trap) input out h = (refl, refl)
no_line_streams turns p (reports.BudgetSpent spent) input out h = (refl, refl)
no_line_streams turns p reports.NoMemory input out h = (refl, refl)
no_line_streams turns p report input out h = absurd h

pub no_run_files : (most : ℕ) (image : List ℕ) (report : Report) (counts : StoreCounts) → GivesNoRun most image report
    → FilesCause report counts counts
no_run_files most image reports.NotImage counts h = refl
no_run_files most image (reports.Trapped trap) counts h = refl
no_run_files most image (reports.Stopped cause address) counts h = refl
no_run_files most image (reports.BudgetSpent spent) counts h = refl
no_run_files most image reports.NoMemory counts h = refl
no_run_files most image report counts h = absurd h

pub no_run_streams : (most : ℕ) (image : List ℕ) (report : Report) (input : ℕ) (out : SinkCounts)
    → GivesNoRun most image report → StreamsCause report input input out out
no_run_streams most image reports.NotImage input out h = (refl, refl)
no_run_streams most image (reports.Trapped trap) input out h = (refl, refl)
no_run_streams most image (reports.Stopped cause address) input out h = (refl, refl)
no_run_streams most image (reports.BudgetSpent spent) input out h = (refl, refl)
no_run_streams most image reports.NoMemory input out h = (refl, refl)
no_run_streams most image report input out h = absurd h

pub writes_streams : (report : Report) (input : ℕ) (out : SinkCounts) → IsOfWrites report
    → StreamsCause report input input out out
writes_streams reports.Compiled input out h = (refl, refl)
writes_streams (reports.WriteFault Map) input out h = (refl, refl)
writes_streams (reports.WriteFault Image) input out h = (refl, refl)
writes_streams reports.NoMemory input out h = (refl, refl)
writes_streams report input out h = absurd h

-- ---- the second line

-- the line of a run, and what became of it
pub run_put : (most : ℕ) (image line bytes : List ℕ) (old new : Output) (report : Report) → IsRunLine most image line
    → bytes ≡ line → AnswerPut bytes old new report → RunPut most image old new report
run_put most image line bytes old new reports.Answered is e put =
    (line, is, λ t. put t ∙ ap (λ (z : List ℕ). old.taken ++ z) e)
run_put most image line bytes old new reports.OutputFault is e put = (
  line,
  is,
  λ t. let (n, took) = put t in (n, took ∙ ap (λ (z : List ℕ). old.taken ++ take n z) e),
)
run_put most image line bytes old new reports.NoMemory is e put = (tt, put)
run_put most image line bytes old new report is e put = absurd put

pub no_run_put : (most : ℕ) (image : List ℕ) (out : Output) (report : Report) → GivesNoRun most image report
    → RunPut most image out out report
no_run_put most image out reports.Answered h = absurd h
no_run_put most image out reports.OutputFault h = absurd h
no_run_put most image out report h = (h, λ t. refl)

-- The run of an image that does what a program does that ends, and whose file is written: it is an image, and neither
-- traps nor stops.
pub image_tested : (steps : ℕ) (name : List ℕ) (texts : List (List ℕ)) (p : Program) (map : maps.Map) (image : List ℕ)
    (old new : Store) (out out' : Output) (report : Report) → IsImageOf p map image → WellTyped p → MapListsLocals
    → HasEnd p → (old.tells → StandsAs old.content new.content name texts image) → RunPut steps image out out' report
    → ImageTested steps name texts [] old new out out' report
image_tested steps name texts p map image old new out out' reports.Answered is typed lists ends stands put =
    (put.0, image, put.1, put.2, stands)
image_tested steps name texts p map image old new out out' reports.OutputFault is typed lists ends stands put =
    (put.0, image, put.1, put.2, stands)
image_tested steps name texts p map image old new out out' (reports.BudgetSpent spent) is typed lists ends stands put =
    (put.0.0, image, put.0.1, λ t. put.1 t ∙ sym (append-nil out.taken), stands)
image_tested steps name texts p map image old new out out' reports.NoMemory is typed lists ends stands put =
    (λ t. put.1 t ∙ sym (append-nil out.taken), λ t. inr (inr (stands t).0))
image_tested steps name texts p map image old new out out' reports.NotImage is typed lists ends stands put =
    let first = (is.correct [] 0 (All-nil (λ (byte : ℕ). byte < 256))).2.1 in
    absurd (put.0 first.0 first.1)
image_tested steps name texts p map image old new out out' (reports.Trapped trap) is typed lists ends stands put =
    let (status, e) = ends-as p map image (outcome.Trapped trap) is typed lists ends
    (λ g. let no_end : outcome.Trapped trap ≡ outcome.Goes = g in cc) put.0 in
    absurd (let no_end : outcome.Trapped trap ≡ outcome.Ended status = e in cc)
image_tested steps name texts p map image old new out out' (reports.Stopped cause address) is typed lists ends stands put =
    let (status, e) = ends-as p map image (outcome.Stopped cause address) is typed lists ends
    (λ g. let no_end : outcome.Stopped cause address ≡ outcome.Goes = g in cc) put.0 in
    absurd (let no_end : outcome.Stopped cause address ≡ outcome.Ended status = e in cc)
image_tested steps name texts p map image old new out out' report is typed lists ends stands put = absurd put.0

-- ---- writing

-- nothing was written yet
pub unwritten : (steps : ℕ) (name : List ℕ) (texts : List (List ℕ)) (files : Store) (out : Output)
    → ImageTested steps name texts [] files files out out reports.NoMemory
unwritten steps name texts files out = (none-put out, λ t. inl (λ other. refl))

-- a write was refused
pub write_refused : (steps : ℕ) (name : List ℕ) (texts : List (List ℕ)) (map_bytes image : List ℕ) (old new : Store)
    (out : Output) (report : Report) → report ≢ reports.Compiled → IsOfWrites report → AreProducts texts map_bytes image
    → (old.tells → WritesTold (map_name name) name map_bytes image old.content new.content report)
    → ImageTested steps name texts [] old new out out report
write_refused steps name texts map_bytes image old new out reports.Compiled refused own products told =
    absurd (refused refl)
write_refused steps name texts map_bytes image old new out (reports.WriteFault Map) refused own products told =
    (none-put out, told)
write_refused steps name texts map_bytes image old new out (reports.WriteFault Image) refused own products told = (
  none-put out,
  λ t. (
    (products.0, products.2.0, image, products.1.0, products.2.2, (told t).0 ∙ ap Some products.2.1),
    (told t).1,
  ),
)
write_refused steps name texts map_bytes image old new out reports.NoMemory refused own products told = (
  none-put out,
  λ t. elim (told t) [
    | inl same ↦ inl same
    | inr half ↦ inr (inl (
      ((products.0, products.2.0, image, products.1.0, products.2.2, half.0 ∙ ap Some products.2.1), half.1),
      half.2,
    ))
  ],
)
write_refused steps name texts map_bytes image old new out report refused own products told = absurd own

-- ---- both lines

-- what comes behind a line that was put
pub behind_line : (steps : ℕ) (name : List ℕ) (texts : List (List ℕ)) (first : List ℕ) (old new : Store)
    (out mid out' : Output) (report : Report) → IsPut out mid first → (out.tells → mid.tells)
    → ImageTested steps name texts [] old new mid out' report → ImageTested steps name texts first old new out out' report
behind_line steps name texts first old new out mid out' reports.Answered put telling h = (
  h.0,
  h.1,
  h.2,
  λ t. h.3 (telling t) ∙ ap (λ (z : List ℕ). z ++ h.0) (put t) ∙ append_assoc out.taken first h.0,
  h.4,
)
behind_line steps name texts first old new out mid out' reports.OutputFault put telling h = (
  h.0,
  h.1,
  h.2,
  λ t. let (n, took) = h.3 (telling t) in
      (n, took ∙ ap (λ (z : List ℕ). z ++ take n h.0) (put t) ∙ append_assoc out.taken first (take n h.0)),
  h.4,
)
behind_line steps name texts first old new out mid out' (reports.BudgetSpent spent) put telling h =
    (h.0, h.1, h.2, λ t. h.3 (telling t) ∙ append-nil mid.taken ∙ put t, h.4)
behind_line steps name texts first old new out mid out' (reports.WriteFault Map) put telling h =
    (λ t. h.0 (telling t) ∙ append-nil mid.taken ∙ put t, h.1)
behind_line steps name texts first old new out mid out' (reports.WriteFault Image) put telling h =
    (λ t. h.0 (telling t) ∙ append-nil mid.taken ∙ put t, h.1)
behind_line steps name texts first old new out mid out' reports.NoMemory put telling h =
    (λ t. h.0 (telling t) ∙ append-nil mid.taken ∙ put t, h.1)
behind_line steps name texts first old new out mid out' report put telling h = absurd h
