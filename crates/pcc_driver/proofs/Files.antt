-- Lemmas on what is held under names.
use Rattle.std.proofs.Common.{◌≡◌, ◌≢◌, ◌++◌, length, length-append, arith, ℕ, Bool, true, false, List, Err, subst, sym}
use Rattle.std.proofs.Common.{refl, ap, ◌∙◌, inl, inr}
use Rattle.std.specs.Prelude.{codes, bytes_eq, ◌⊎◌}
use Rattle.std.proofs.lemmas.Slice.Eq.{bytes_eq-Decides}
use Rattle.pcc_outside.specs.Files.{WriteTold}
use Rattle.pcc_outside.specs.declared.sink.WriteRefusal.{WriteRefusal}
use Rattle.pcc_outside.specs.declared.sink.WriteRefusal.TheVariants as put
use Rattle.pcc_driver.specs.Answers.{OnlyFile, WritesTold, report_of_write}
use Rattle.pcc_words.specs.Asked.{map_name}
use Rattle.pcc_driver.specs.Outside.{Files, SameFiles}
use Rattle.pcc_driver.specs.declared.report.Named.TheVariants.{Map}

-- two names are the same or not
same_or_not : (a b : List ℕ) (r : Bool) → bytes_eq a b ≡ r → (a ≡ b) ⊎ (a ≢ b)
same_or_not a b true e = inl ((bytes_eq-Decides a b).0 e)
same_or_not a b false e = inr (λ s. let t : bytes_eq a b ≡ true = (bytes_eq-Decides a b).1 s in cc)

pub names_decide : (a b : List ℕ) → (a ≡ b) ⊎ (a ≢ b)
names_decide a b = same_or_not a b (bytes_eq a b) refl

-- where no name but one has changed, and that one hasn't either, nothing has
pub same_files : (name : List ℕ) (old new : Files) → OnlyFile name old new → new name ≡ old name → SameFiles old new
same_files name old new others same other =
    elim (names_decide other name) [
      | inl e ↦ subst (λ (n : List ℕ). new n ≡ old n) (sym e) same
      | inr n ↦ others other n
    ]

-- the first write was refused
pub first_refused : (refusal : WriteRefusal) (map_name name map_bytes image bytes : List ℕ) (old new : Files)
    → OnlyFile map_name old new → WriteTold (old map_name) (new map_name) bytes (Err refusal)
    → WritesTold map_name name map_bytes image old new (report_of_write refusal Map)
first_refused put.Failed map_name name map_bytes image bytes old new others told = others
first_refused put.NoMemory map_name name map_bytes image bytes old new others told =
    inl (same_files map_name old new others told)

-- the name of a map is another name than the image's
pub other_name : (name map : List ℕ) → map ≡ map_name name → map ≢ name
other_name name map is_map same =
    let e : name ++ codes ".map" ≡ name = sym is_map ∙ same in
    absurd (omega (arith, simp length-append at (ap length e)))
