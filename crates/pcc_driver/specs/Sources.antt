-- The texts that source files hold, and which file is the first that isn't read.
use Rattle.std.specs.Prelude.{◌≡◌, ◌<◌, ◌≤◌, ℕ, zero, suc, List, [], ◌∷◌, length, Option, Some, None, ⊤}
use Rattle.pcc_outside.specs.declared.file_store.ReadRefusal.{ReadRefusal}
use Rattle.pcc_outside.specs.declared.file_store.ReadRefusal.TheVariants as read
use Rattle.pcc_driver.specs.Outside.{Files}

-- the most bytes of one file that is read
abbrev pub file_limit : ℕ
file_limit = 0x5000_0000

-- the file holds a text that may be read, and of which this holds
abbrev pub Holds : Option (List ℕ) → (List ℕ → Type 0) → Type 0
Holds content P = (text : List ℕ) × (content ≡ Some text) × (length text ≤ file_limit) × P text

abbrev pub IsTooLong : Option (List ℕ) → Type 0
IsTooLong content = (text : List ℕ) × (content ≡ Some text) × (file_limit < length text)

-- each of these names holds the text at its place, which may be read
abbrev pub AreRead : Files → List (List ℕ) → List (List ℕ) → Type 0
AreRead files [] [] = ⊤
AreRead files [] (text ∷ texts) = ⊥
AreRead files (source ∷ sources) [] = ⊥
AreRead files (source ∷ sources) (text ∷ texts) =
    (files source ≡ Some text) × (length text ≤ file_limit) × AreRead files sources texts

-- the names hold texts that may be read, and of which this holds
abbrev pub HoldAll : Files → List (List ℕ) → (List (List ℕ) → Type 0) → Type 0
HoldAll files sources P = (texts : List (List ℕ)) × AreRead files sources texts × P texts

-- why a file of this content isn't read, where that says anything of it
abbrev pub IsUnreadable : ReadRefusal → Option (List ℕ) → Type 0
IsUnreadable read.Missing content = content ≡ None
IsUnreadable read.TooLong content = IsTooLong content
IsUnreadable read.Failed content = ⊤
IsUnreadable read.NoMemory content = ⊤

-- so many sources, from the first one on, hold texts that may be read, and the next one isn't read for this reason
abbrev pub StopsAt : Files → ReadRefusal → List (List ℕ) → ℕ → Type 0
StopsAt files refusal [] i = ⊥
StopsAt files refusal (source ∷ sources) zero = IsUnreadable refusal (files source)
StopsAt files refusal (source ∷ sources) (suc i) = Holds (files source) (λ text. ⊤) × StopsAt files refusal sources i
