-- What the table of declarations outside functions says of a thing.
use Rattle.std.proofs.Common.{◌≡◌, ℕ, zero, suc, List, [], ◌∷◌, ◌++◌, map, length, reverse, Bool, true, false}
use Rattle.std.proofs.Common.{not, ◌&&◌}
use Rattle.std.proofs.Common.{◌||◌, Option, Some, None, refl, ap, sym, subst, ◌∙◌, slice_get, true≢false}
use Rattle.std.specs.List.{list_any}
use Rattle.std.specs.Map.{lookup, KeepsOthers}
use Rattle.std.proofs.lemmas.List.{reverse-append}
use Rattle.std.proofs.lemmas.List.Folds.{list_any-append}
use Rattle.std.proofs.lemmas.Option.{none-some, same_Some}
use Rattle.std.proofs.lemmas.Bool.{false_from_ne_true}
use Rattle.pcc_base.proofs.Lists.{get-last, get-append}
use Rattle.c_typing.specs.Library as library
use Rattle.c_typing.specs.Library.{same_entity}
use Rattle.c_typing.specs.Names.{Outer, clashes}
use Rattle.c_typing.specs.Types.{same_type}
use Rattle.c_check_names.specs.declared.entity.Entity.{Entity}
use Rattle.c_check_names.specs.declared.sums.Seen.{Seen}
use Rattle.c_check_names.specs.contracts.entity.EntityPartialEq.TheImpl.{ghosts}
use Rattle.c_check_names.specs.Outers.{is_entity, IsSummed, SumsUp}
use Rattle.c_check_names.specs.Views.{entity_of}
use Rattle.c_check_names.proofs.Entities.{turned}
use Rattle.c_check_names.proofs.Sameness.{thing_is, thing_self, type_is, type_self}

-- the test of the table is that of the definition
pub by_eq : {X : Type 0} (a : Entity) (es : List (Entity × X))
    → lookup (λ k. ghosts.eq a k) es ≡ lookup (is_entity (entity_of a)) es
by_eq a es = λ i. lookup (λ k. turned a k i) es

-- ---- tests of lists

or_false : (b : Bool) → (b || false) ≡ b
or_false true = refl
or_false false = refl

or_true : (b : Bool) → (b || true) ≡ true
or_true true = refl
or_true false = refl

and_false : (b : Bool) → (b && false) ≡ false
and_false true = refl
and_false false = refl

-- one more element that passes no test
any_still : {X : Type 0} (p : X → Bool) (xs : List X) (x : X) → p x ≡ false → list_any p (xs ++ x ∷ []) ≡ list_any p xs
any_still p xs x h =
    list_any-append p xs (x ∷ []) ∙ ap (λ b. list_any p xs || (b || false)) h ∙ or_false (list_any p xs)

any_more : {X : Type 0} (p : X → Bool) (xs : List X) (x : X)
    → list_any p (xs ++ x ∷ []) ≡ (list_any p xs || p x)
any_more p xs x = list_any-append p xs (x ∷ []) ∙ ap (λ b. list_any p xs || b) (or_false (p x))

none_of_both : {X : Type 0} (p q : X → Bool) (xs : List X) → list_any p xs ≡ false
    → list_any (λ x. p x && q x) xs ≡ false
none_of_both p q [] h = refl
none_of_both p q (x ∷ xs) h = by (p x) refl (none_of_both p q xs)
  where
    by : (b : Bool) → p x ≡ b → (list_any p xs ≡ false → list_any (λ y. p y && q y) xs ≡ false)
        → ((p x && q x) || list_any (λ y. p y && q y) xs) ≡ false
    by true e below = absurd (true≢false (sym (ap (λ b. b || list_any p xs) e) ∙ h))
    by false e below = ap (λ b. (b && q x) || list_any (λ y. p y && q y) xs) e
        ∙ below (sym (ap (λ b. b || list_any p xs) e) ∙ h)

any_here : {X : Type 0} (p : X → Bool) (xs : List X) (i : ℕ) (x : X) → slice_get xs i ≡ Some x → p x ≡ true
    → list_any p xs ≡ true
any_here p [] i x at h = absurd (none-some x at)
any_here p (y ∷ ys) zero x at h = ap (λ b. b || list_any p ys) (ap p (same_Some y x at) ∙ h)
any_here p (y ∷ ys) (suc i) x at h = ap (λ b. p y || b) (any_here p ys i x at h) ∙ or_true (p y)

parts : (a p w q : Bool) → (a && (p || (w && q))) ≡ ((a && p) || (w && (a && q)))
parts true p w q = refl
parts false p true q = refl
parts false p false q = refl

between : (a b c d w : Bool) → ((a || (w && b)) || (c || (w && d))) ≡ ((a || c) || (w && (b || d)))
between true b c d w = refl
between false true c d true = sym (or_true c)
between false true c d false = refl
between false false c d true = refl
between false false c d false = refl

-- a test of two parts, of which one is asked for under a condition
any_parts : {X : Type 0} (e p q : X → Bool) (w : Bool) (xs : List X)
    → list_any (λ x. e x && (p x || (w && q x))) xs
    ≡ (list_any (λ x. e x && p x) xs || (w && list_any (λ x. e x && q x) xs))
any_parts e p q w [] = sym (and_false w)
any_parts e p q w (x ∷ xs) =
    ap (λ b. b || list_any (λ y. e y && (p y || (w && q y))) xs) (parts (e x) (p x) w (q x))
    ∙ ap (λ b. ((e x && p x) || (w && (e x && q x))) || b) (any_parts e p q w xs)
    ∙ between (e x && p x) (e x && q x) (list_any (λ y. e y && p y) xs) (list_any (λ y. e y && q y) xs) w

or_assoc : (a b c : Bool) → (a || (b || c)) ≡ ((a || b) || c)
or_assoc true b c = refl
or_assoc false b c = refl

or_turned : (a b : Bool) → (a || b) ≡ (b || a)
or_turned true b = sym (or_true b)
or_turned false b = sym (or_false b)

any_mapped : {X Y : Type 0} (p : Y → Bool) (f : X → Y) (xs : List X) (x : X)
    → list_any p (map f (xs ++ x ∷ [])) ≡ (list_any p (map f xs) || p (f x))
any_mapped p f [] x = or_false (p (f x))
any_mapped p f (y ∷ ys) x = ap (λ b. p (f y) || b) (any_mapped p f ys x)
    ∙ or_assoc (p (f y)) (list_any p (map f ys)) (p (f x))

pub any_reversed : {X Y : Type 0} (p : Y → Bool) (f : X → Y) (xs : List X)
    → list_any p (map f (reverse xs)) ≡ list_any p (map f xs)
any_reversed p f [] = refl
any_reversed p f (x ∷ xs) = ap (λ ys. list_any p (map f ys)) (reverse-append (x ∷ []) xs)
    ∙ any_mapped p f (reverse xs) x ∙ ap (λ b. b || p (f x)) (any_reversed p f xs)
    ∙ or_turned (list_any p (map f xs)) (p (f x))

-- ---- one thing

-- a declaration of another thing changes nothing
apart : (os : List Outer) (o : Outer) (e : library.Entity) (s : Option Seen) → same_entity e o.entity ≡ false
    → IsSummed os e s → IsSummed (os ++ o ∷ []) e s
apart os o e None h known = any_still (λ x. same_entity e x.entity) os o h ∙ known
apart os o e (Some s) h known = (
  known.0,
  get-append os (o ∷ []) s.first known.0 known.1,
  known.2,
  any_still (λ x. same_entity e x.entity && not (same_type known.0.type x.type)) os o
      (ap (λ b. b && not (same_type known.0.type o.type)) h) ∙ known.3,
  any_still (λ x. same_entity e x.entity && x.whole) os o (ap (λ b. b && o.whole) h) ∙ known.4,
)

-- the first declaration of a thing
pub first_one : (os : List Outer) (o : Outer) (n : ℕ) → n ≡ length os → IsSummed os o.entity None
    → IsSummed (os ++ o ∷ []) o.entity (Some (record { first = n; mixed = false; whole = o.whole }))
first_one os o n end known =
    let e = o.entity in (
      o,
      ap (λ i. slice_get (os ++ o ∷ []) i) end ∙ get-last os o,
      thing_self e,
      any_still (λ x. same_entity e x.entity && not (same_type o.type x.type)) os o
          (ap (λ b. same_entity e e && not b) (type_self o.type) ∙ and_false (same_entity e e))
          ∙ none_of_both (λ x. same_entity e x.entity) (λ x. not (same_type o.type x.type)) os known,
      any_more (λ x. same_entity e x.entity && x.whole) os o
          ∙ ap (λ b. b || (same_entity e e && o.whole))
          (none_of_both (λ x. same_entity e x.entity) (λ x. x.whole) os known)
          ∙ ap (λ b. b && o.whole) (thing_self e),
    )

-- one more declaration of a thing
pub one_more_of : (os : List Outer) (o : Outer) (s : Seen) (known : IsSummed os o.entity (Some s))
    → IsSummed (os ++ o ∷ []) o.entity (Some (record {
      first = s.first;
      mixed = s.mixed || not (same_type known.0.type o.type);
      whole = s.whole || o.whole;
    }))
one_more_of os o s known =
    let e = o.entity in (
      known.0,
      get-append os (o ∷ []) s.first known.0 known.1,
      known.2,
      any_more (λ x. same_entity e x.entity && not (same_type known.0.type x.type)) os o
          ∙ ap (λ b. b || (same_entity e e && not (same_type known.0.type o.type))) known.3
          ∙ ap (λ b. s.mixed || (b && not (same_type known.0.type o.type))) (thing_self e),
      any_more (λ x. same_entity e x.entity && x.whole) os o
          ∙ ap (λ b. b || (same_entity e e && o.whole)) known.4 ∙ ap (λ b. s.whole || (b && o.whole)) (thing_self e),
    )

-- ---- clashes

-- nothing clashes where the thing isn't declared
pub no_clash : (os : List Outer) (o : Outer) → IsSummed os o.entity None → false ≡ list_any (clashes o) os
no_clash os o known = sym (none_of_both (λ x. same_entity o.entity x.entity)
    (λ x. not (same_type o.type x.type) || (o.whole && x.whole)) os known)

pub clash : (os : List Outer) (o : Outer) (s : Seen) (known : IsSummed os o.entity (Some s))
    → ((s.mixed || not (same_type known.0.type o.type)) || (o.whole && s.whole)) ≡ list_any (clashes o) os
clash os o s known = by (same_type known.0.type o.type) refl
  where
    by : (b : Bool) → same_type known.0.type o.type ≡ b
        → ((s.mixed || not (same_type known.0.type o.type)) || (o.whole && s.whole)) ≡ list_any (clashes o) os
    by true h =
        ap (λ b. (s.mixed || not b) || (o.whole && s.whole)) h ∙ ap (λ b. b || (o.whole && s.whole)) (or_false s.mixed)
        ∙ ap (λ b. b || (o.whole && s.whole)) (sym known.3)
        ∙ ap (λ b. list_any (λ x. same_entity o.entity x.entity && not (same_type known.0.type x.type)) os
        || (o.whole && b))
        (sym known.4)
        ∙ ap (λ d. list_any (λ x. same_entity o.entity x.entity && not (same_type d x.type)) os
        || (o.whole && list_any (λ x. same_entity o.entity x.entity && x.whole) os)) (type_is known.0.type o.type h)
        ∙ sym (any_parts (λ x. same_entity o.entity x.entity) (λ x. not (same_type o.type x.type)) (λ x. x.whole)
        o.whole os)
    by false h =
        let differs : same_type o.type known.0.type ≡ false = false_from_ne_true (same_type o.type known.0.type) (λ g.
        true≢false (sym (ap (λ d. same_type d o.type) (sym (type_is o.type known.0.type g)) ∙ type_self o.type) ∙ h)) in
        let here : clashes o known.0 ≡ true =
        ap (λ b. b && (not (same_type o.type known.0.type) || (o.whole && known.0.whole))) known.2
        ∙ ap (λ b. not b || (o.whole && known.0.whole)) differs in
        ap (λ b. (s.mixed || not b) || (o.whole && s.whole)) h ∙ ap (λ b. b || (o.whole && s.whole)) (or_true s.mixed)
        ∙ sym (any_here (clashes o) os s.first known.0 known.1 here)

-- ---- the table

-- one more declaration, with what is known of its thing
pub put : (os : List Outer) (o : Outer) (old new : List (Entity × Seen)) (key : Entity) (s : Seen)
    → entity_of key ≡ o.entity → SumsUp os old → IsSummed (os ++ o ∷ []) o.entity (Some s)
    → lookup (λ k. ghosts.eq key k) new ≡ Some s → KeepsOthers ghosts.eq (λ k. ghosts.eq key k) old new
    → SumsUp (os ++ o ∷ []) new
unfolding KeepsOthers
put os o old new key s of sums known at others e = by (same_entity e o.entity) refl
  where
    by : (b : Bool) → same_entity e o.entity ≡ b → IsSummed (os ++ o ∷ []) e (lookup (is_entity e) new)
    by true h =
        let there : lookup (is_entity o.entity) new ≡ Some s =
        ap (λ d. lookup (is_entity d) new) (sym of) ∙ sym (by_eq key new) ∙ at in
        subst (λ d. IsSummed (os ++ o ∷ []) d (lookup (is_entity d) new)) (sym (thing_is e o.entity h))
        (subst (IsSummed (os ++ o ∷ []) o.entity) (sym there) known)
    by false h =
        let still : lookup (is_entity e) new ≡ lookup (is_entity e) old = others (is_entity e)
        (λ x y g. ap (same_entity (entity_of y)) (sym (thing_is (entity_of x) e g)) ∙ sym (turned x y))
        (λ k g. false_from_ne_true (is_entity e k) (λ j. true≢false (sym (ap (λ d. same_entity d o.entity)
        (sym (thing_is (entity_of k) e j))
        ∙ subst (λ d. same_entity (entity_of k) d ≡ true) of (sym (turned key k) ∙ g)) ∙ h))) in
        subst (IsSummed (os ++ o ∷ []) e) (sym still) (apart os o e (lookup (is_entity e) old) h (sums e))
