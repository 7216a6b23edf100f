-- The first ones of each thing, behind one more object.
use Rattle.std.proofs.Common.{◌≡◌, List, [], ◌∷◌, ◌++◌, map, Bool, true, false, ◌||◌, not}
use Rattle.std.proofs.Common.{refl, ap, sym, subst, ◌∙◌, if◌then◌else◌, true≢false}
use Rattle.std.specs.Prelude.{filter, filter_map}
use Rattle.std.specs.List.{list_any, AllByRecursion}
use Rattle.std.proofs.lemmas.List.{append-nil, map_push}
use Rattle.std.proofs.lemmas.List.Elements.{filter-append, filter_map-append}
use Rattle.std.proofs.lemmas.List.Folds.{list_any-append}
use Rattle.std.proofs.lemmas.Map.Views.{any-filter_same}
use Rattle.c_typing.specs.Library.{Entity, same_entity}
use Rattle.c_typing.specs.Checked.{Stored, Note, Uses, Stores, Defines}
use Rattle.c_typing.specs.Names.{Numbers}
use Rattle.c_tree.specs.Program as tree
use Rattle.c_typing.specs.Numbering.{first_ones, is_not, object_noted, objects_noted, function_noted, numbers_of}
use Rattle.c_typing.specs.Numbering.{static_objects}
use Rattle.c_check_names.specs.Views.{with_entity}
use Rattle.c_check_names.proofs.Sameness.{thing_is, thing_self}
use Rattle.c_check.proofs.Things.{or_last}
use Rattle.c_check.specs.Tables.{AreApart, with_number, Known, IsKnownOf, is_seen_with, described_as, described_by}

-- an object is of this thing
abbrev pub is_of : Entity → Stored → Bool
is_of e o = same_entity o.entity e

abbrev pub has : List Stored → Entity → Bool
has os e = list_any (is_of e) os

-- the other way round
other_way : (e f : Entity) → same_entity e f ≡ same_entity f e
other_way e f = by (same_entity e f) (same_entity f e) refl refl
  where
    by : (a b : Bool) → same_entity e f ≡ a → same_entity f e ≡ b → a ≡ b
    by true true h k = refl
    by false false h k = refl
    by true false h k = absurd (true≢false (sym (thing_self e) ∙ ap (λ d. same_entity d e) (thing_is e f h) ∙ k))
    by false true h k = absurd (true≢false (sym (thing_self f) ∙ ap (λ d. same_entity d f) (thing_is f e k) ∙ h))

-- what is of another thing stays where those of a thing are taken away
others_stay : (e d : Entity) → same_entity d e ≡ false → (os : List Stored)
    → list_any (is_of e) (filter (is_not d) os) ≡ list_any (is_of e) os
others_stay e d apart os = any-filter_same (is_of e) (is_not d) true
    (λ o h. ap (λ f. not (same_entity f d)) (thing_is o.entity e h) ∙ ap not (other_way e d ∙ apart)) os

-- a thing is among the first ones where it is there
pub has_first : (e : Entity) (os : List Stored) → list_any (is_of e) (first_ones os) ≡ has os e
has_first e [] = refl
has_first e (o ∷ os) = by (same_entity o.entity e) refl (has_first e os)
  where
    by : (b : Bool) → same_entity o.entity e ≡ b → list_any (is_of e) (first_ones os) ≡ has os e
        → (same_entity o.entity e || list_any (is_of e) (filter (is_not o.entity) (first_ones os)))
        ≡ (same_entity o.entity e || has os e)
    by true h ih = ap (λ b. b || list_any (is_of e) (filter (is_not o.entity) (first_ones os))) h
        ∙ ap (λ b. b || has os e) (sym h)
    by false h ih = ap (λ b. same_entity o.entity e || b) (others_stay e o.entity h (first_ones os) ∙ ih)

-- one more object is among the first ones where none is of its thing
pub first_with : (os : List Stored) (o : Stored)
    → first_ones (os ++ o ∷ []) ≡ (if has os o.entity then first_ones os else first_ones os ++ o ∷ [])
first_with [] o = refl
first_with (x ∷ xs) o = ap (λ ys. x ∷ filter (is_not x.entity) ys) (first_with xs o)
    ∙ by (same_entity x.entity o.entity) (has xs o.entity) refl
  where
    by : (b c : Bool) → same_entity x.entity o.entity ≡ b
        → (x ∷ filter (is_not x.entity) (if c then first_ones xs else first_ones xs ++ o ∷ []))
        ≡ (if b || c then first_ones (x ∷ xs) else first_ones (x ∷ xs) ++ o ∷ [])
    by true true h = refl
    by false true h = refl
    by true false h = ap (λ ys. x ∷ ys) (filter-append (is_not x.entity) (first_ones xs) (o ∷ [])
        ∙ ap (λ b. filter (is_not x.entity) (first_ones xs) ++ (if not b then o ∷ [] else []))
        (other_way o.entity x.entity ∙ h) ∙ append-nil (filter (is_not x.entity) (first_ones xs)))
    by false false h = ap (λ ys. x ∷ ys) (filter-append (is_not x.entity) (first_ones xs) (o ∷ [])
        ∙ ap (λ b. filter (is_not x.entity) (first_ones xs) ++ (if not b then o ∷ [] else []))
        (other_way o.entity x.entity ∙ h))

-- ---- the defined ones

module _ (defined : Entity → Bool) where
  abbrev pub kept : List Stored → List Stored
  kept os = filter (λ o. defined o.entity) (first_ones os)

  -- a defined thing is among those that are kept where it is there
  has_kept : (e : Entity) → defined e ≡ true → (os : List Stored) → list_any (is_of e) (kept os) ≡ has os e
  has_kept e there os = any-filter_same (is_of e) (λ o. defined o.entity) true
      (λ o h. ap defined (thing_is o.entity e h) ∙ there) (first_ones os) ∙ has_first e os

  -- one more object is kept where it is defined, and none is of its thing
  pub kept_with : (os : List Stored) (o : Stored) → kept (os ++ o ∷ [])
      ≡ (if has os o.entity then kept os else if defined o.entity then kept os ++ o ∷ [] else kept os)
  kept_with os o = ap (filter (λ x. defined x.entity)) (first_with os o) ∙ by (has os o.entity) (defined o.entity) refl
    where
      by : (b c : Bool) → defined o.entity ≡ c
          → filter (λ x. defined x.entity) (if b then first_ones os else first_ones os ++ o ∷ [])
          ≡ (if b then kept os else if c then kept os ++ o ∷ [] else kept os)
      by true c h = refl
      by false true h = filter-append (λ x. defined x.entity) (first_ones os) (o ∷ [])
          ∙ ap (λ b. kept os ++ (if b then o ∷ [] else [])) h
      by false false h = filter-append (λ x. defined x.entity) (first_ones os) (o ∷ [])
          ∙ ap (λ b. kept os ++ (if b then o ∷ [] else [])) h ∙ append-nil (kept os)

  entity_there : (e : Entity) (os : List Stored)
      → list_any (λ x. same_entity x e) (map (λ o. o.entity) os) ≡ list_any (is_of e) os
  entity_there e [] = refl
  entity_there e (o ∷ os) = ap (λ b. same_entity o.entity e || b) (entity_there e os)

  abbrev pub entities : List Stored → List Entity
  entities os = map (λ o. o.entity) (kept os)

  pub entities_with : (os : List Stored) (o : Stored) → entities (os ++ o ∷ [])
      ≡ (if defined o.entity then with_entity (entities os) o.entity else entities os)
  entities_with os o = ap (map (λ (x : Stored). x.entity)) (kept_with os o)
      ∙ by (defined o.entity) (has os o.entity) refl refl
    where
      by : (c b : Bool) → defined o.entity ≡ c → has os o.entity ≡ b
          → map (λ x. x.entity) (if b then kept os else if c then kept os ++ o ∷ [] else kept os)
          ≡ (if c then with_entity (entities os) o.entity else entities os)
      by false true h k = refl
      by false false h k = refl
      by true true h k = ap (λ b. if b then entities os else entities os ++ o.entity ∷ [])
          (sym (entity_there o.entity (kept os) ∙ has_kept o.entity h os ∙ k))
      by true false h k = map_push (λ (x : Stored). x.entity) (kept os) o
          ∙ ap (λ b. if b then entities os else entities os ++ o.entity ∷ [])
          (sym (entity_there o.entity (kept os) ∙ has_kept o.entity h os ∙ k))

  -- ---- numbers, of notes so far

  abbrev pub numbers_with : List Note → Numbers
  numbers_with notes = record {
    objects = entities (objects_noted notes);
    functions = filter_map function_noted notes;
  }

  -- no function so far is the one that a note defines
  abbrev pub IsFresh : List Note → Note → Type 0
  IsFresh notes (Uses e at) = Unit {0}
  IsFresh notes (Stores o) = Unit {0}
  IsFresh notes (Defines e type) = list_any (λ x. same_entity x e) (filter_map function_noted notes) ≡ false

  pub numbers_more : (notes : List Note) (n : Note) → IsFresh notes n
      → numbers_with (notes ++ n ∷ []) ≡ with_number defined n (numbers_with notes)
  numbers_more notes (Uses e at) fresh = λ i. record {
    objects = entities ((filter_map-append object_noted notes (Uses e at ∷ []) ∙ append-nil (objects_noted notes)) i);
    functions = (filter_map-append function_noted notes (Uses e at ∷ [])
        ∙ append-nil (filter_map function_noted notes)) i;
  }
  numbers_more notes (Stores o) fresh = (λ i. record {
    objects = (ap entities (filter_map-append object_noted notes (Stores o ∷ []))
        ∙ entities_with (objects_noted notes) o) i;
    functions = (filter_map-append function_noted notes (Stores o ∷ [])
        ∙ append-nil (filter_map function_noted notes)) i;
  }) ∙ by (defined o.entity)
    where
      by : (b : Bool) → record {
        objects = if b then with_entity (entities (objects_noted notes)) o.entity else entities (objects_noted notes);
        functions = filter_map function_noted notes;
      } ≡ (if b then record (numbers_with notes) {
        objects = with_entity (entities (objects_noted notes)) o.entity;
      } else numbers_with notes)
      by true = refl
      by false = refl
  numbers_more notes (Defines e type) fresh = λ i. record {
    objects = entities ((filter_map-append object_noted notes (Defines e type ∷ [])
        ∙ append-nil (objects_noted notes)) i);
    functions = (filter_map-append function_noted notes (Defines e type ∷ [])
        ∙ ap (λ b. if b then filter_map function_noted notes else filter_map function_noted notes ++ e ∷ [])
        (sym fresh)) i;
  }

-- those of all notes
pub numbers_all : (notes : List Note) (k : Known) → IsKnownOf notes k → numbers_with k.objects notes ≡ numbers_of notes
numbers_all notes k of = λ i. numbers_with (λ e. of.objects e i) notes

-- ---- each function is defined once

apart_at : (es : List Entity) (e : Entity) (more : List Entity) → AreApart (es ++ e ∷ more)
    → list_any (λ x. same_entity x e) es ≡ false
apart_at [] e more h = refl
apart_at (x ∷ xs) e more h = ap (λ b. b || list_any (λ y. same_entity y e) xs) (here xs h.0) ∙ apart_at xs e more h.1
  where
    here : (ys : List Entity) → AllByRecursion (λ f. same_entity x f ≡ false) (ys ++ e ∷ more) → same_entity x e ≡ false
    here [] k = k.0
    here (y ∷ ys) k = here ys k.1

pub fresh_at : (defined : Entity → Bool) (before : List Note) (n : Note) (after : List Note)
    → AreApart (filter_map function_noted (before ++ n ∷ after)) → IsFresh defined before n
fresh_at defined before (Uses e at) after h = tt
fresh_at defined before (Stores o) after h = tt
fresh_at defined before (Defines e type) after h =
    apart_at (filter_map function_noted before) e (filter_map function_noted after)
    (subst AreApart (filter_map-append function_noted before (Defines e type ∷ after)) h)

-- ---- what objects hold, of notes so far

module _ (k : Known) where
  abbrev pub held : Stored → tree.StaticObject
  held o = described_as o (k.values o.entity)

  abbrev pub objects_with : List Note → List tree.StaticObject
  objects_with notes = map held (kept k.objects (objects_noted notes))

  -- the things that are seen so far
  abbrev pub seen_in : List Note → Entity → Bool
  seen_in notes e = has (objects_noted notes) e

  seen_at : (notes : List Note) (n : Note) (e : Entity)
      → seen_in (notes ++ n ∷ []) e ≡ is_seen_with n (seen_in notes) e
  seen_at notes (Uses f at) e = ap (λ os. has os e) (filter_map-append object_noted notes (Uses f at ∷ [])
      ∙ append-nil (objects_noted notes))
  seen_at notes (Stores o) e = ap (λ os. has os e) (filter_map-append object_noted notes (Stores o ∷ []))
      ∙ list_any-append (is_of e) (objects_noted notes) (o ∷ [])
      ∙ or_last (has (objects_noted notes) e) (same_entity o.entity e)
  seen_at notes (Defines f type) e = ap (λ os. has os e) (filter_map-append object_noted notes (Defines f type ∷ [])
      ∙ append-nil (objects_noted notes))

  pub seen_more : (notes : List Note) (n : Note) → seen_in (notes ++ n ∷ []) ≡ is_seen_with n (seen_in notes)
  seen_more notes n = λ i. λ e. seen_at notes n e i

  pub objects_more : (notes : List Note) (n : Note)
      → objects_with (notes ++ n ∷ []) ≡ objects_with notes ++ described_by k (seen_in notes) n
  objects_more notes (Uses e at) = ap (λ os. map held (kept k.objects os))
      (filter_map-append object_noted notes (Uses e at ∷ []) ∙ append-nil (objects_noted notes))
      ∙ sym (append-nil (objects_with notes))
  objects_more notes (Defines e type) = ap (λ os. map held (kept k.objects os))
      (filter_map-append object_noted notes (Defines e type ∷ []) ∙ append-nil (objects_noted notes))
      ∙ sym (append-nil (objects_with notes))
  objects_more notes (Stores o) = ap (λ os. map held (kept k.objects os))
      (filter_map-append object_noted notes (Stores o ∷ []))
      ∙ ap (map held) (kept_with k.objects (objects_noted notes) o)
      ∙ by (seen_in notes o.entity) (k.objects o.entity)
    where
      by : (b c : Bool) → map held (if b then kept k.objects (objects_noted notes)
          else if c then kept k.objects (objects_noted notes) ++ o ∷ [] else kept k.objects (objects_noted notes))
          ≡ (objects_with notes ++ (if b then [] else if c then held o ∷ [] else []))
      by true c = sym (append-nil (objects_with notes))
      by false true = map_push held (kept k.objects (objects_noted notes)) o
      by false false = sym (append-nil (objects_with notes))

  pub objects_all : (notes : List Note) → IsKnownOf notes k → objects_with notes ≡ static_objects notes
  objects_all notes of = λ i. map (λ o. described_as o (of.values o.entity i))
      (kept (λ e. of.objects e i) (objects_noted notes))
