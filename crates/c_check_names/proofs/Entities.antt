-- When two entities of the tables are the same.
use Rattle.std.proofs.Common.{◌≡◌, ℕ, List, Bool, true, false, ◌&&◌, refl, ap, sym, ◌∙◌, arith}
use Rattle.std.specs.Prelude.{nat_eq}
use Rattle.std.proofs.lemmas.Grind.{common_steps}
use Rattle.std.proofs.lemmas.Slice.Eq.{bytes_eq-Decides}
use Rattle.c_typing.specs.Library.{same_entity, same_name}
use Rattle.c_check_names.specs.declared.entity.LibraryFunction.TheVariants.{Putchar, Getchar, Exit}
use Rattle.c_check_names.specs.declared.entity.Entity.{Entity}
use Rattle.c_check_names.specs.declared.entity.Entity.TheVariants.{Library, Shared, OfFile, At}
use Rattle.c_check_names.specs.contracts.entity.EntityPartialEq.TheImpl.{ghosts}
use Rattle.c_check_names.specs.Views.{entity_of}

both_ways : (a b : Bool) → (a ≡ true → b ≡ true) → (b ≡ true → a ≡ true) → a ≡ b
both_ways true b f g = sym (f refl)
both_ways false true f g = g refl
both_ways false false f g = refl

name_turned : (a b : List ℕ) → same_name a b ≡ same_name b a
name_turned a b = both_ways (same_name a b) (same_name b a)
    (λ h. (bytes_eq-Decides b a).1 (sym ((bytes_eq-Decides a b).0 h)))
    (λ h. (bytes_eq-Decides a b).1 (sym ((bytes_eq-Decides b a).0 h)))

number_turned : (a b : ℕ) → nat_eq a b ≡ nat_eq b a
number_turned a b = grind (arith, common_steps)

-- what is stored is compared with what is looked for
pub turned : (a b : Entity) → ghosts.eq a b ≡ same_entity (entity_of b) (entity_of a)
turned (Library Putchar) (Library Putchar) = refl
turned (Library Putchar) (Library Getchar) = refl
turned (Library Putchar) (Library Exit) = refl
turned (Library Getchar) (Library Putchar) = refl
turned (Library Getchar) (Library Getchar) = refl
turned (Library Getchar) (Library Exit) = refl
turned (Library Exit) (Library Putchar) = refl
turned (Library Exit) (Library Getchar) = refl
turned (Library Exit) (Library Exit) = refl
turned (Library f) (Shared b) = refl
turned (Library f) (OfFile l b) = refl
turned (Library f) (At l m n) = refl
turned (Shared a) (Library f) = refl
turned (Shared a) (Shared b) = name_turned a.items b.items
turned (Shared a) (OfFile l b) = refl
turned (Shared a) (At l m n) = refl
turned (OfFile k a) (Library f) = refl
turned (OfFile k a) (Shared b) = refl
turned (OfFile k a) (OfFile l b) = ap (λ x. x && same_name a.items b.items) (number_turned k l)
    ∙ ap (λ x. nat_eq l k && x) (name_turned a.items b.items)
turned (OfFile k a) (At l m n) = refl
turned (At i j k) (Library f) = refl
turned (At i j k) (Shared b) = refl
turned (At i j k) (OfFile l b) = refl
turned (At i j k) (At l m n) = ap (λ x. x && (nat_eq j m && nat_eq k n)) (number_turned i l)
    ∙ ap (λ x. nat_eq l i && (x && nat_eq k n)) (number_turned j m)
    ∙ ap (λ x. nat_eq l i && (nat_eq m j && x)) (number_turned k n)
