-- What holds of a part of files where the program around it is such: its notes define no function, and where the
-- program has what they name, its tree is well typed.
use Rattle.std.proofs.Common.{arith, ◌≡◌, refl, ℕ, true, List, [], ◌∷◌, length, map}
use Rattle.std.specs.Prelude.{IsSomeAnd, slice_get}
use Rattle.std.specs.List.{AllByRecursion}
use Rattle.pcc_base.specs.declared.fault.Fault.{Fault}
use Rattle.pcc_base.proofs.Lists.{all-append, all-left, all-right}
use Rattle.c_tree.specs.declared.types.IntegerType.{IntegerType}
use Rattle.c_tree.specs.Program.{Program}
use Rattle.c_tree.specs.Program as tree
use Rattle.c_tree.specs.WellTyped.{parameters_of}
use Rattle.c_typing.specs.Library.{Entity, Library, Shared, OfFile, At, LibraryFunction, number_among}
use Rattle.c_typing.specs.Names.{Numbers, Signature, library_signature}
use Rattle.c_typing.specs.Checked.{Checked, Fits, Fails, Note, Uses, Stores, Defines, noted, also, if_fits, pair, both}
use Rattle.c_typing.specs.Numbering.{defines}
use Rattle.c_typing.specs.Expressions.{has_type}

-- A program, the numbers of its objects and functions, and what is known of them: the objects that are declared or
-- spelled, the functions that are declared, and what is there.
pub record Setting : Type 1 where
  pub program : Program
  pub numbers : Numbers
  pub stored : Entity → IntegerType → ℕ → Type 0
  pub called : Entity → Signature → Type 0
  pub present : Entity → Type 0

-- The program has the objects and functions that are there, under their numbers and of their types.
pub record Holds (w : Setting) : Type 0 where
  pub objects : (e : Entity) (t : IntegerType) (n : ℕ) → w.stored e t n → w.present e
      → IsSomeAnd (slice_get w.program.objects (number_among w.numbers.objects e))
      (λ o. (o.element ≡ t) × (length o.elements ≡ n))
  pub functions : (e : Entity) (g : Signature) → w.called e g → w.present e
      → IsSomeAnd (slice_get w.program.functions (number_among w.numbers.functions e))
      (λ f. (f.result ≡ g.result) × (map (λ (l : tree.Local). l.of) (parameters_of f) ≡ g.parameters))
  pub library : (f : LibraryFunction) (g : Signature) → w.called (Library f) g
      → g.parameters ≡ (library_signature f).parameters

-- an object of a block, or a string literal
abbrev pub IsAt : Entity → Type 0
IsAt (Library f) = ⊥
IsAt (Shared name) = ⊥
IsAt (OfFile file name) = ⊥
IsAt (At place) = Unit {0}

-- no function is defined, and no object outside functions
abbrev pub IsQuiet : Note → Type 0
IsQuiet (Uses e at) = Unit {0}
IsQuiet (Stores stored) = IsAt stored.entity
IsQuiet (Defines e type) = ⊥

-- the program has what is noted
abbrev pub IsKept : Setting → Note → Type 0
IsKept w (Uses e at) = w.present e
IsKept w (Stores x) = w.stored x.entity x.element x.count × (defines x.contents ≡ true → w.present x.entity)
IsKept w (Defines e type) = Unit {0}

-- a construct whose parts have types has one
pub fits_first : {A B C : Type 0} (c : Checked A) (d : Checked B) (f : A → B → Checked C) → has_type (both c d f) ≡ true
    → (has_type c ≡ true) × (has_type d ≡ true)
fits_first (Fits a ns) (Fits b ms) f h = (refl, refl)
fits_first (Fits a ns) (Fails g gs) f h = grind arith
fits_first (Fails x xs) d f h = grind arith

pub fits_part : {A B : Type 0} (c : Checked A) (f : A → Checked B) → has_type (if_fits c f) ≡ true → has_type c ≡ true
fits_part (Fits a ns) f h = refl
fits_part (Fails x xs) f h = grind arith

module _ (w : Setting) where
  abbrev pub Kept : List Note → Type 0
  Kept ns = AllByRecursion (IsKept w) ns

  -- Where X holds and the program keeps the notes, P holds of the tree.
  abbrev pub Sound : {A : Type 0} → Type 0 → (A → Type 0) → Checked A → Type 0
  Sound X P (Fits a ns) = AllByRecursion IsQuiet ns × (X → Kept ns → P a)
  Sound X P (Fails f fs) = Unit {0}

  pub sound_fits : {A : Type 0} (X : Type 0) (P : A → Type 0) (a : A) → (X → P a) → Sound X P (Fits a [])
  sound_fits X P a h = (tt, λ x k. h x)

  pub sound_noted : {A : Type 0} (X Y : Type 0) (P : A → Type 0) (ns : List Note) (c : Checked A)
      → AllByRecursion IsQuiet ns → (X → Kept ns → Y) → Sound Y P c → Sound X P (noted ns c)
  sound_noted X Y P ns (Fits a ms) q h k = (
    all-append IsQuiet ns ms q k.0,
    λ x kept. k.1 (h x (all-left (IsKept w) ns ms kept)) (all-right (IsKept w) ns ms
        kept),
  )
  sound_noted X Y P ns (Fails f fs) q h k = tt

  -- a construct of one part
  pub sound_if : {A B : Type 0} (X : Type 0) (P : A → Type 0) (Q : B → Type 0) (c : Checked A) (f : A → Checked B)
      → Sound X P c → ((a : A) → has_type c ≡ true → Sound (X × P a) Q (f a)) → Sound X Q (if_fits c f)
  sound_if X P Q (Fits a ns) f h k =
      sound_noted X (X × P a) Q ns (f a) h.0 (λ x kept. (x, h.1 x kept)) (k a refl)
  sound_if X P Q (Fails g gs) f h k = tt

  -- two parts, of which the first may say something of what is around the second
  pub sound_pair : {A B : Type 0} (X Y : Type 0) (P : A → Type 0) (Q : B → Type 0) (c : Checked A) (d : Checked B)
      → Sound X P c → Sound Y Q d → ((a : A) → X → P a → Y) → Sound X (λ (p : A × B). P p.0 × Q p.1) (pair c d)
  sound_pair X Y P Q (Fits a ns) (Fits b ms) h k on = (
    all-append IsQuiet ns ms h.0 k.0,
    λ x kept.
        let p = h.1 x (all-left (IsKept w) ns ms kept) in (p, k.1 (on a x p) (all-right (IsKept w) ns ms kept)),
  )
  sound_pair X Y P Q (Fits a ns) (Fails g gs) h k on = tt
  sound_pair X Y P Q (Fails f fs) d h k on = tt

  -- a construct of two parts
  pub sound_both : {A B C : Type 0} (X : Type 0) (P : A → Type 0) (Q : B → Type 0) (R : C → Type 0) (c : Checked A)
      (d : Checked B) (f : A → B → Checked C) → Sound X P c → Sound X Q d
      → ((a : A) (b : B) → Sound (X × (P a × Q b)) R (f a b)) → Sound X R (both c d f)
  sound_both X P Q R c d f h k on =
      sound_if X (λ p. P p.0 × Q p.1) R (pair c d) (λ p. f p.0 p.1) (sound_pair X X P Q c d h k (λ a x p. x))
      (λ p t. on p.0 p.1)

  -- one part behind another one
  pub sound_then : {A B C : Type 0} (X Y : Type 0) (P : A → Type 0) (Q : B → Type 0) (R : C → Type 0) (c : Checked A)
      (d : Checked B) (f : A → B → Checked C) → Sound X P c → Sound Y Q d → ((a : A) → X → P a → Y)
      → ((a : A) (b : B) → Sound (X × (P a × Q b)) R (f a b)) → Sound X R (both c d f)
  sound_then X Y P Q R c d f h k before on =
      sound_if X (λ p. P p.0 × Q p.1) R (pair c d) (λ p. f p.0 p.1) (sound_pair X Y P Q c d h k before)
      (λ p t. on p.0 p.1)

  pub sound_also : {A : Type 0} (X : Type 0) (P : A → Type 0) (fs : List Fault) (c : Checked A)
      → (fs ≡ [] → Sound X P c) → Sound X P (also fs c)
  sound_also X P [] c h = h refl
  sound_also X P (f ∷ fs) c h = tt

  -- what holds where something else does
  pub sound_weaker : {A : Type 0} (X Y : Type 0) (P Q : A → Type 0) (c : Checked A) → Sound X P c → (Y → X)
      → ((a : A) → Y → P a → Q a) → Sound Y Q c
  sound_weaker X Y P Q (Fits a ns) h f g = (h.0, λ y kept. g a y (h.1 (f y) kept))
  sound_weaker X Y P Q (Fails x xs) h f g = tt
