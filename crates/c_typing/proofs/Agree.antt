-- Two outcomes of judging that agree: they have the same faults, or the same notes and trees that are related.
use Rattle.std.proofs.Common.{◌≡◌, refl, ap, subst, ◌∙◌, List, [], ◌∷◌, ◌++◌}
use Rattle.std.specs.Prelude.{Some}
use Rattle.pcc_base.specs.declared.fault.Fault.{Fault}
use Rattle.c_typing.specs.Checked.{Checked, Fits, Fails, Note, faults_in, notes_in, value_in, noted, also, if_fits}
use Rattle.c_typing.specs.Checked.{pair}
use Rattle.c_typing.specs.Checked.{both, fits}

abbrev pub Agree : {A B : Type 0} → (A → B → Type 0) → Checked A → Checked B → Type 0
Agree R (Fits a ns) (Fits b ms) = R a b × (ns ≡ ms)
Agree R (Fits a ns) (Fails g gs) = ⊥
Agree R (Fails f fs) (Fits b ms) = ⊥
Agree R (Fails f fs) (Fails g gs) = (f ≡ g) × (fs ≡ gs)

pub faults_agree : {A B : Type 0} (R : A → B → Type 0) (c : Checked A) (d : Checked B) → Agree R c d
    → faults_in c ≡ faults_in d
faults_agree R (Fits a ns) (Fits b ms) h = refl
faults_agree R (Fits a ns) (Fails g gs) h = absurd h
faults_agree R (Fails f fs) (Fits b ms) h = absurd h
faults_agree R (Fails f fs) (Fails g gs) h = ap (λ x. x ∷ fs) h.0 ∙ ap (λ xs. g ∷ xs) h.1

pub notes_agree : {A B : Type 0} (R : A → B → Type 0) (c : Checked A) (d : Checked B) → Agree R c d
    → notes_in c ≡ notes_in d
notes_agree R (Fits a ns) (Fits b ms) h = h.1
notes_agree R (Fits a ns) (Fails g gs) h = absurd h
notes_agree R (Fails f fs) (Fits b ms) h = absurd h
notes_agree R (Fails f fs) (Fails g gs) h = refl

pub values_agree : {A : Type 0} (c d : Checked A) → Agree (λ a b. a ≡ b) c d → value_in c ≡ value_in d
values_agree (Fits a ns) (Fits b ms) h = ap Some h.0
values_agree (Fits a ns) (Fails g gs) h = absurd h
values_agree (Fails f fs) (Fits b ms) h = absurd h
values_agree (Fails f fs) (Fails g gs) h = refl

pub agree_itself : {A : Type 0} (R : A → A → Type 0) → ((a : A) → R a a) → (c : Checked A) → Agree R c c
agree_itself R r (Fits a ns) = (r a, refl)
agree_itself R r (Fails f fs) = (refl, refl)

agree_noted : {A B : Type 0} (R : A → B → Type 0) (ns ms : List Note) (c : Checked A) (d : Checked B) → ns ≡ ms
    → Agree R c d → Agree R (noted ns c) (noted ms d)
agree_noted R ns ms (Fits a xs) (Fits b ys) e h = (h.0, ap (λ x. x ++ xs) e ∙ ap (λ y. ms ++ y) h.1)
agree_noted R ns ms (Fits a xs) (Fails g gs) e h = absurd h
agree_noted R ns ms (Fails f fs) (Fits b ys) e h = absurd h
agree_noted R ns ms (Fails f fs) (Fails g gs) e h = h

pub agree_if_fits : {A B C D : Type 0} (R : A → B → Type 0) (S : C → D → Type 0) (c : Checked A) (d : Checked B)
    (f : A → Checked C) (g : B → Checked D) → Agree R c d → ((a : A) (b : B) → R a b → Agree S (f a) (g b))
    → Agree S (if_fits c f) (if_fits d g)
agree_if_fits R S (Fits a ns) (Fits b ms) f g h k = agree_noted S ns ms (f a) (g b) h.1 (k a b h.0)
agree_if_fits R S (Fits a ns) (Fails y ys) f g h k = absurd h
agree_if_fits R S (Fails x xs) (Fits b ms) f g h k = absurd h
agree_if_fits R S (Fails x xs) (Fails y ys) f g h k = h

abbrev pub Both : {A B C D : Type 0} → (A → B → Type 0) → (C → D → Type 0) → A × C → B × D → Type 0
Both R S p q = R p.0 q.0 × S p.1 q.1

pub agree_pair : {A B C D : Type 0} (R : A → B → Type 0) (S : C → D → Type 0) (c : Checked A) (d : Checked B)
    (x : Checked C) (y : Checked D) → Agree R c d → Agree S x y → Agree (Both R S) (pair c x) (pair d y)
agree_pair R S (Fits a ns) (Fits b ms) (Fits u us) (Fits v vs) h k =
    ((h.0, k.0), ap (λ z. z ++ us) h.1 ∙ ap (λ z. ms ++ z) k.1)
agree_pair R S (Fits a ns) (Fits b ms) (Fits u us) (Fails g gs) h k = absurd k
agree_pair R S (Fits a ns) (Fits b ms) (Fails f fs) (Fits v vs) h k = absurd k
agree_pair R S (Fits a ns) (Fits b ms) (Fails f fs) (Fails g gs) h k = k
agree_pair R S (Fits a ns) (Fails g gs) x y h k = absurd h
agree_pair R S (Fails f fs) (Fits b ms) x y h k = absurd h
agree_pair R S (Fails f fs) (Fails g gs) x y h k =
    (h.0, ap (λ z. z ++ faults_in x) h.1 ∙ ap (λ z. gs ++ z) (faults_agree S x y k))

pub agree_also : {A B : Type 0} (R : A → B → Type 0) (fs : List Fault) (c : Checked A) (d : Checked B)
    → Agree R c d → Agree R (also fs c) (also fs d)
agree_also R [] c d h = h
agree_also R (f ∷ fs) c d h = (refl, ap (λ z. fs ++ z) (faults_agree R c d h))

pub agree_both : {A B C D E F : Type 0} (R : A → B → Type 0) (S : C → D → Type 0) (T : E → F → Type 0) (c : Checked A)
    (d : Checked B) (x : Checked C) (y : Checked D) (f : A → C → Checked E) (g : B → D → Checked F)
    → Agree R c d → Agree S x y
    → ((a : A) (b : B) (u : C) (v : D) → R a b → S u v → Agree T (f a u) (g b v))
    → Agree T (both c x f) (both d y g)
agree_both R S T c d x y f g h k on =
    agree_if_fits (Both R S) T (pair c x) (pair d y) (λ p. f p.0 p.1) (λ q. g q.0 q.1) (agree_pair R S c d x y h k)
    (λ p q r. on p.0 q.0 p.1 q.1 r.0 r.1)

-- any two
abbrev pub Any : {A B : Type 0} → A → B → Type 0
Any a b = Unit {0}

-- the same
abbrev pub Same : {A : Type 0} → A → A → Type 0
Same a b = a ≡ b

pub same_itself : {A : Type 0} (c : Checked A) → Agree Same c c
same_itself c = agree_itself Same (λ a. refl) c

pub any_itself : {A : Type 0} (c : Checked A) → Agree Any c c
any_itself c = agree_itself Any (λ a. tt) c

-- one row, of equal values
pub agree_same : {A C : Type 0} (S : C → C → Type 0) (c d : Checked A) (f : A → Checked C)
    → ((x : Checked C) → Agree S x x) → Agree Same c d → Agree S (if_fits c f) (if_fits d f)
agree_same S c d f itself h =
    agree_if_fits Same S c d f f h (λ a b e. subst (λ z. Agree S (f a) (f z)) e (itself (f a)))

-- a tree that says nothing of its parts
pub agree_any : {A B C D : Type 0} (R : A → B → Type 0) (c : Checked A) (d : Checked B) (f : A → C) (g : B → D)
    → Agree R c d → Agree {A = C} {B = D} Any (if_fits c (λ a. fits (f a))) (if_fits d (λ b. fits (g b)))
agree_any R c d f g h = agree_if_fits R Any c d (λ a. fits (f a)) (λ b. fits (g b)) h (λ a b r. (tt, refl))
