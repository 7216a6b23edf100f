-- The status of a command on sources, from its report.
use Rattle.std.proofs.Common.{◌≡◌, ℕ, zero, suc, List, [], ◌∷◌, Option, Some, None, length, ap, ap₂, subst}
use Rattle.std.proofs.Common.{inl, inr, refl, arith}
use Rattle.std.specs.Prelude.{⊤, ◌⊎◌}
use Rattle.pcc_base.specs.Counts.{Rose}
use Rattle.pcc_base.specs.declared.fault.Fault.{Fault}
use Rattle.pcc_outside.specs.Files.{StoreCounts}
use Rattle.pcc_outside.specs.declared.file_store.ReadRefusal.TheVariants as read
use Rattle.c_tree.specs.Program.{Program}
use Rattle.c_front.specs.Answers.{Excess, ManyTokens, LargeArrays, LargeFrame, Exceed, HaveFault, HaveTypedProgram}
use Rattle.c_front.proofs.OneAnswer.{one_program, no_fault, within, fault_or_limit}
use Rattle.pcc_driver.specs.Causes.{FilesCause}
use Rattle.pcc_driver.specs.Outside.{Files}
use Rattle.pcc_driver.specs.Reports.{status_of}
use Rattle.pcc_driver.specs.declared.report.Named.TheVariants.{Source, Map, Image, Board}
use Rattle.pcc_driver.specs.declared.report.Report.{Report}
use Rattle.pcc_driver.specs.declared.report.Report.TheVariants as reports
use Rattle.pcc_driver.specs.Programs.{HaveNoProgram, SourcesStatus}
use Rattle.pcc_driver.specs.Sources.{AreRead, HoldAll, Holds, IsTooLong, StopsAt}

-- ---- what names hold

-- what is one thing and another is the same
some-one : {A : Type 0} (o : Option A) (x y : A) → o ≡ Some x → o ≡ Some y → x ≡ y
some-one o x y p q = cc

-- names hold one text each
pub read_once : (files : Files) (sources a b : List (List ℕ)) → AreRead files sources a → AreRead files sources b → a
    ≡ b
read_once files [] [] [] p q = refl
read_once files [] [] (y ∷ b) p q = absurd q
read_once files [] (x ∷ a) b p q = absurd p
read_once files (source ∷ sources) [] b p q = absurd p
read_once files (source ∷ sources) (x ∷ a) [] p q = absurd q
read_once files (source ∷ sources) (x ∷ a) (y ∷ b) p q =
    ap₂ (λ (t : List ℕ) (ts : List (List ℕ)). t ∷ ts) (some-one (files source) x y p.0 q.0)
    (read_once files sources a b p.2 q.2)

-- a file that isn't there, or is too long, is no text that may be read
missing_or_held : (content : Option (List ℕ)) → content ≡ None → Holds content (λ text. ⊤) → ⊥
missing_or_held content none held = let some = held.1 in absurd (cc)

long_or_held : (content : Option (List ℕ)) → IsTooLong content → Holds content (λ text. ⊤) → ⊥
long_or_held content long held =
    let same : long.0 ≡ held.0 = some-one content long.0 held.0 long.1 held.1 in
    omega (arith, ap length same, long.2, held.2)

missing_or_long : (content : Option (List ℕ)) → content ≡ None → IsTooLong content → ⊥
missing_or_long content none long = let some = long.1 in absurd (cc)

-- where one source isn't there or is too long not all are read
pub missing_or_read : (files : Files) (sources texts : List (List ℕ)) (i : ℕ) → StopsAt files read.Missing sources i
    → AreRead files sources texts → ⊥
missing_or_read files [] texts i stops are = stops
missing_or_read files (source ∷ sources) [] i stops are = are
missing_or_read files (source ∷ sources) (text ∷ texts) zero stops are =
    missing_or_held (files source) stops (text, are.0, are.1, tt)
missing_or_read files (source ∷ sources) (text ∷ texts) (suc i) stops are =
    missing_or_read files sources texts i stops.1 are.2

pub long_or_read : (files : Files) (sources texts : List (List ℕ)) (i : ℕ) → StopsAt files read.TooLong sources i
    → AreRead files sources texts → ⊥
long_or_read files [] texts i stops are = stops
long_or_read files (source ∷ sources) [] i stops are = are
long_or_read files (source ∷ sources) (text ∷ texts) zero stops are =
    long_or_held (files source) stops (text, are.0, are.1, tt)
long_or_read files (source ∷ sources) (text ∷ texts) (suc i) stops are =
    long_or_read files sources texts i stops.1 are.2

-- the first that isn't read is missing or too long
pub missing_or_too_long : (files : Files) (sources : List (List ℕ)) (i j : ℕ) → StopsAt files read.Missing sources i
    → StopsAt files read.TooLong sources j → ⊥
missing_or_too_long files [] i j stops other = stops
missing_or_too_long files (source ∷ sources) zero zero stops other = missing_or_long (files source) stops other
missing_or_too_long files (source ∷ sources) zero (suc j) stops other = missing_or_held (files source) stops other.0
missing_or_too_long files (source ∷ sources) (suc i) zero stops other = long_or_held (files source) other stops.0
missing_or_too_long files (source ∷ sources) (suc i) (suc j) stops other =
    missing_or_too_long files sources i j stops.1 other.1

-- ---- the first source that isn't read decides

missing_status : (files : Files) (sources : List (List ℕ)) (P : Program → Type 0) (i : ℕ)
    → StopsAt files read.Missing sources i → SourcesStatus files sources P 6
missing_status files sources P i stops = record {
  missing = λ j other. refl;
  too_long = λ j other. absurd (missing_or_too_long files sources i j stops other);
  program = λ texts p are is. absurd (missing_or_read files sources texts i stops are);
  limits = λ texts excess are is. absurd (missing_or_read files sources texts i stops are);
  refused = λ texts are none few. absurd (missing_or_read files sources texts i stops are);
}

long_status : (files : Files) (sources : List (List ℕ)) (P : Program → Type 0) (i : ℕ)
    → StopsAt files read.TooLong sources i → SourcesStatus files sources P 3
long_status files sources P i stops = record {
  missing = λ j other. absurd (missing_or_too_long files sources j i other stops);
  too_long = λ j other. refl;
  program = λ texts p are is. absurd (long_or_read files sources texts i stops are);
  limits = λ texts excess are is. absurd (long_or_read files sources texts i stops are);
  refused = λ texts are none few. absurd (long_or_read files sources texts i stops are);
}

-- ---- where all are read, their texts decide

texts_status : (files : Files) (sources texts : List (List ℕ)) (P : Program → Type 0) (status : ℕ)
    → AreRead files sources texts → ((p : Program) → HaveTypedProgram texts p → P p)
    → ((excess : Excess) → Exceed texts excess → status ≡ 3)
    → (((p : Program) → HaveTypedProgram texts p → ⊥) → ((excess : Excess) → Exceed texts excess → ⊥) → status ≡ 1)
    → SourcesStatus files sources P status
texts_status files sources texts P status are program limits refused = record {
  missing = λ i stops. absurd (missing_or_read files sources texts i stops are);
  too_long = λ i stops. absurd (long_or_read files sources texts i stops are);
  program = λ others p again is.
      program p (subst (λ (ts : List (List ℕ)). HaveTypedProgram ts p) (read_once files sources others texts again are)
      is);
  limits = λ others excess again is.
      limits excess (subst (λ (ts : List (List ℕ)). Exceed ts excess) (read_once files sources others texts again are)
      is);
  refused = λ others again none few.
      let same = read_once files sources others texts again are in
      refused (subst (λ (ts : List (List ℕ)). (p : Program) → HaveTypedProgram ts p → ⊥) same none)
      (subst (λ (ts : List (List ℕ)). (excess : Excess) → Exceed ts excess → ⊥) same few);
}

fault_status : (files : Files) (sources : List (List ℕ)) (P : Program → Type 0) (fault : Fault)
    → HoldAll files sources (λ texts. HaveFault texts fault) → SourcesStatus files sources P 1
fault_status files sources P fault (texts, are, faulty) =
    texts_status files sources texts P 1 are (λ p is. absurd (no_fault texts p fault is faulty))
    (λ excess is. absurd (fault_or_limit texts fault excess faulty is)) (λ none few. refl)

limit_status : (files : Files) (sources : List (List ℕ)) (P : Program → Type 0) (excess : Excess)
    → HoldAll files sources (λ texts. Exceed texts excess) → SourcesStatus files sources P 3
limit_status files sources P excess (texts, are, above) =
    texts_status files sources texts P 3 are (λ p is. absurd (within texts p excess is above)) (λ other is. refl)
    (λ none few. absurd (few excess above))

-- a typed program decides
pub typed_status : (files : Files) (sources texts : List (List ℕ)) (P : Program → Type 0) (p : Program) (status : ℕ)
    → AreRead files sources texts → HaveTypedProgram texts p → P p → SourcesStatus files sources P status
typed_status files sources texts P p status are is holds =
    texts_status files sources texts P status are
    (λ q other. subst P (one_program texts p q is other) holds)
    (λ excess above. absurd (within texts p excess is above)) (λ none few. absurd (none p is))

-- the report of sources without a typed program has the status of the files, where no read failed
pub refused_status : (files : Files) (sources : List (List ℕ)) (P : Program → Type 0) (report : Report)
    (old new : StoreCounts) → FilesCause report old new → (Rose old.read_faults new.read_faults → ⊥)
    → HaveNoProgram files sources report
    → (status_of report ≡ 11) ⊎ SourcesStatus files sources P (status_of report)
refused_status files sources P (reports.NoFile (Source i)) old new cause quiet told =
    inr (missing_status files sources P i told)
refused_status files sources P (reports.TooLong (Source i)) old new cause quiet told =
    inr (long_status files sources P i told)
refused_status files sources P (reports.SourceFault fault) old new cause quiet told =
    inr (fault_status files sources P fault told)
refused_status files sources P (reports.TooManyTokens tokens) old new cause quiet told =
    inr (limit_status files sources P ManyTokens told.1)
refused_status files sources P (reports.LargeArrays bytes) old new cause quiet told =
    inr (limit_status files sources P (LargeArrays bytes) told)
refused_status files sources P (reports.LargeFrame name bytes) old new cause quiet told =
    inr (limit_status files sources P (LargeFrame name.items bytes) told)
refused_status files sources P (reports.ReadFault file) old new cause quiet told = absurd (quiet cause.0)
refused_status files sources P reports.NoMemory old new cause quiet told = inl refl
refused_status files sources P (reports.NoFile Map) old new cause quiet told = absurd told
refused_status files sources P (reports.NoFile Image) old new cause quiet told = absurd told
refused_status files sources P (reports.NoFile Board) old new cause quiet told = absurd told
refused_status files sources P (reports.TooLong Map) old new cause quiet told = absurd told
refused_status files sources P (reports.TooLong Image) old new cause quiet told = absurd told
refused_status files sources P (reports.TooLong Board) old new cause quiet told = absurd told
refused_status files sources P (reports.TooManyFiles count) old new cause quiet told = absurd told
refused_status files sources P (reports.LargeBoard areas pieces) old new cause quiet told = absurd told
refused_status files sources P reports.Compiled old new cause quiet told = absurd told
refused_status files sources P (reports.Exited status) old new cause quiet told = absurd told
refused_status files sources P reports.Usage old new cause quiet told = absurd told
refused_status files sources P reports.InputFault old new cause quiet told = absurd told
refused_status files sources P (reports.WriteFault file) old new cause quiet told = absurd told
refused_status files sources P reports.OutputFault old new cause quiet told = absurd told
refused_status files sources P reports.NotImage old new cause quiet told = absurd told
refused_status files sources P (reports.Trapped trap) old new cause quiet told = absurd told
refused_status files sources P (reports.Stopped at address) old new cause quiet told = absurd told
refused_status files sources P (reports.BudgetSpent spent) old new cause quiet told = absurd told
refused_status files sources P reports.Answered old new cause quiet told = absurd told
refused_status files sources P reports.BadBoard old new cause quiet told = absurd told
