-- What the writes of a compilation leave is what its report tells.
use Rattle.std.proofs.Common.{◌≡◌, ◌≢◌, ℕ, List, Some, ap, ◌∙◌, inl, inr, refl}
use Rattle.pcc_program.proofs.Small.{texts_bound_graphs}
use Rattle.pcc_driver.specs.Answers.{CompileTold, WritesTold, MapStands}
use Rattle.pcc_words.specs.Asked.{map_name}
use Rattle.pcc_driver.specs.Outside.{Files, SameFiles}
use Rattle.pcc_driver.specs.Programs.{HaveNoProgram}
use Rattle.pcc_driver.specs.Sources.{AreRead}
use Rattle.pcc_driver.specs.Products.{AreProducts}
use Rattle.pcc_driver.specs.Selftests.{StandsAs}
use Rattle.pcc_driver.specs.declared.report.Named.TheVariants.{Source, Map, Image, Board}
use Rattle.pcc_driver.specs.declared.report.Report.{Report}
use Rattle.pcc_driver.specs.declared.report.Report.TheVariants as reports

-- the map's text stands, and what else changed is the image
map_stands : (name : List ℕ) (sources texts : List (List ℕ)) (map_bytes image : List ℕ) (old mid new : Files)
    → ((other : List ℕ) → mid other ≡ old other) → AreRead old sources texts
    → AreProducts texts map_bytes image → new (map_name name) ≡ Some map_bytes
    → ((other : List ℕ) → other ≢ name → other ≢ map_name name → new other ≡ mid other) → MapStands name sources old new
map_stands name sources texts map_bytes image old mid new kept read products written others = (
  (texts, products.0, products.2.0, image, read, products.1.0, products.2.2, written ∙ ap Some products.2.1),
  λ other n m. others other n m ∙ kept other,
)

-- what stands of texts, where both files are written
pub stands_of : (name : List ℕ) (texts : List (List ℕ)) (map_bytes image : List ℕ) (old new : Files)
    → AreProducts texts map_bytes image → new (map_name name) ≡ Some map_bytes → new name ≡ Some image
    → ((other : List ℕ) → other ≢ name → other ≢ map_name name → new other ≡ old other)
    → StandsAs old new name texts image
stands_of name texts map_bytes image old new products map_written image_written others = (
  record {
    program = products.0;
    map = products.2.0;
    image = image;
    accepted = products.1.0;
    map_written = map_written ∙ ap Some products.2.1;
    image_written = image_written;
    others = others;
    correct = products.2.2;
    nothing_first = products.2.2.belongs.lowered.first_points products.1.1;
    small = texts_bound_graphs texts products.0 products.2.2.belongs.code.program products.1.0
        products.2.2.belongs.lowered.small;
  },
  refl,
)

-- the report of the writes tells what the compilation did
pub written_told : (report : Report) (name : List ℕ) (sources texts : List (List ℕ)) (map_bytes image : List ℕ)
    (old mid new : Files) → ((other : List ℕ) → mid other ≡ old other) → AreRead old sources texts
    → AreProducts texts map_bytes image → WritesTold (map_name name) name map_bytes image mid new report
    → CompileTold name sources old new report
written_told reports.Compiled name sources texts map_bytes image old mid new kept read products told =
    record {
      texts = texts;
      sources_read = read;
      stands = (stands_of name texts map_bytes image old new products told.0 told.1
          (λ other n m. told.2 other n m ∙ kept other)).0;
    }
written_told (reports.WriteFault Map) name sources texts map_bytes image old mid new kept read products told =
    λ other n. told other n ∙ kept other
written_told (reports.WriteFault Image) name sources texts map_bytes image old mid new kept read products told =
    map_stands name sources texts map_bytes image old mid new kept read products told.0 told.1
written_told reports.NoMemory name sources texts map_bytes image old mid new kept read products told =
    elim told [
      | inl same ↦ inl (λ other. same other ∙ kept other)
      | inr half ↦ inr (
        map_stands name sources texts map_bytes image old mid new kept read products half.0 half.1,
        half.2 ∙ kept name,
      )
    ]
written_told (reports.WriteFault (Source i)) name sources texts map_bytes image old mid new kept read products told =
    absurd told
written_told (reports.WriteFault Board) name sources texts map_bytes image old mid new kept read products told =
    absurd told
written_told (reports.Exited status) name sources texts map_bytes image old mid new kept read products told =
    absurd told
written_told (reports.SourceFault fault) name sources texts map_bytes image old mid new kept read products told =
    absurd told
written_told (reports.LargeArrays bytes) name sources texts map_bytes image old mid new kept read products told =
    absurd told
written_told (reports.LargeFrame function bytes) name sources texts map_bytes image old mid new kept read products told
    =
    absurd told
written_told (reports.TooManyFiles count) name sources texts map_bytes image old mid new kept read products told =
    absurd told
written_told (reports.LargeBoard areas pieces) name sources texts map_bytes image old mid new kept read products told =
    absurd told
written_told reports.Usage name sources texts map_bytes image old mid new kept read products told = absurd told
written_told (reports.TooLong file) name sources texts map_bytes image old mid new kept read products told =
    absurd told
written_told (reports.TooManyTokens tokens) name sources texts map_bytes image old mid new kept read products told =
    absurd told
written_told (reports.ReadFault file) name sources texts map_bytes image old mid new kept read products told =
    absurd told
written_told reports.InputFault name sources texts map_bytes image old mid new kept read products told = absurd told
written_told reports.OutputFault name sources texts map_bytes image old mid new kept read products told =
    absurd told
written_told (reports.NoFile file) name sources texts map_bytes image old mid new kept read products told =
    absurd told
written_told reports.NotImage name sources texts map_bytes image old mid new kept read products told = absurd told
written_told (reports.Trapped trap) name sources texts map_bytes image old mid new kept read products told =
    absurd told
written_told (reports.Stopped cause address) name sources texts map_bytes image old mid new kept read products
    told = absurd told
written_told (reports.BudgetSpent steps) name sources texts map_bytes image old mid new kept read products told =
    absurd told
written_told reports.Answered name sources texts map_bytes image old mid new kept read products told = absurd told
written_told reports.BadBoard name sources texts map_bytes image old mid new kept read products told = absurd told

-- the report of sources without a typed program
pub refused_told : (report : Report) (name : List ℕ) (sources : List (List ℕ)) (old new : Files)
    → HaveNoProgram old sources report → SameFiles old new → CompileTold name sources old new report
refused_told reports.Compiled name sources old new none same = absurd none
refused_told (reports.WriteFault file) name sources old new none same = absurd none
refused_told reports.NoMemory name sources old new none same = inl same
refused_told (reports.NoFile file) name sources old new none same = (none, same)
refused_told (reports.TooLong file) name sources old new none same = (none, same)
refused_told (reports.SourceFault fault) name sources old new none same = (none, same)
refused_told (reports.TooManyTokens tokens) name sources old new none same = (none, same)
refused_told (reports.LargeArrays bytes) name sources old new none same = (none, same)
refused_told (reports.LargeFrame function bytes) name sources old new none same = (none, same)
refused_told (reports.ReadFault file) name sources old new none same = (none, same)
refused_told (reports.TooManyFiles count) name sources old new none same = (none, same)
refused_told (reports.LargeBoard areas pieces) name sources old new none same = (none, same)
refused_told (reports.Exited status) name sources old new none same = (none, same)
refused_told reports.Usage name sources old new none same = (none, same)
refused_told reports.InputFault name sources old new none same = (none, same)
refused_told reports.OutputFault name sources old new none same = (none, same)
refused_told reports.NotImage name sources old new none same = (none, same)
refused_told (reports.Trapped trap) name sources old new none same = (none, same)
refused_told (reports.Stopped at address) name sources old new none same = (none, same)
refused_told (reports.BudgetSpent steps) name sources old new none same = (none, same)
refused_told reports.Answered name sources old new none same = (none, same)
refused_told reports.BadBoard name sources old new none same = (none, same)
