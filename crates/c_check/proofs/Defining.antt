-- What is known with one note before others.
use Rattle.std.proofs.Common.{◌≡◌, ℤ, List, [], ◌∷◌, Bool, true, false, ◌||◌, refl, ap, sym, ◌∙◌, if◌then◌else◌}
use Rattle.c_typing.specs.Checked.{Contents, Elsewhere, Zeros, Values, Stored, Note, Uses, Stores, Defines}
use Rattle.c_typing.specs.Library.{Entity, same_entity}
use Rattle.c_typing.specs.Numbering.{defines, is_defined, objects_noted, values_of, values_or}
use Rattle.c_typing.specs.Types.{Declared}
use Rattle.c_check.specs.Tables.{Known, IsKnownOf, with_thing, with_values}

either_way : {X : Type 0} (b : Bool) (x : X) → x ≡ (if b then x else x)
either_way true x = refl
either_way false x = refl

itself : (b : Bool) → b ≡ (if b then true else false)
itself true = refl
itself false = refl

module _ (notes : List Note) (k : Known) (of : IsKnownOf notes k) where
  pub used : (e : Entity) (at : _) → IsKnownOf (Uses e at ∷ notes) k
  used e at = record { objects = of.objects; values = of.values; functions = of.functions }

  module _ (s : Stored) where
    pub elsewhere : s.contents ≡ Elsewhere → IsKnownOf (Stores s ∷ notes) k
    elsewhere is = record {
      objects = λ e. of.objects e
          ∙ ap (λ b. b || is_defined (objects_noted notes) e) (either_way (same_entity s.entity e) false)
          ∙ ap (λ c. (if same_entity s.entity e then defines c else false) || is_defined (objects_noted notes) e)
          (sym is);
      values = λ e. of.values e ∙ either_way (same_entity s.entity e) (values_of (objects_noted notes) e)
          ∙ ap (λ c. if same_entity s.entity e then values_or (values_of (objects_noted notes) e) c
          else values_of (objects_noted notes) e) (sym is);
      functions = of.functions;
    }

    defining : (c : Contents) → defines c ≡ true → s.contents ≡ c → (e : Entity)
        → with_thing s.entity k.objects e ≡ is_defined (objects_noted (Stores s ∷ notes)) e
    defining c there is e = ap (λ b. same_entity s.entity e || b) (of.objects e)
        ∙ ap (λ b. b || is_defined (objects_noted notes) e) (itself (same_entity s.entity e)
        ∙ ap (λ b. if same_entity s.entity e then b else false) (sym there))
        ∙ ap (λ c. (if same_entity s.entity e then defines c else false) || is_defined (objects_noted notes) e)
        (sym is)

    pub zeros : s.contents ≡ Zeros
        → IsKnownOf (Stores s ∷ notes) (record k { objects = with_thing s.entity k.objects })
    zeros is = record {
      objects = defining Zeros refl is;
      values = λ e. of.values e ∙ either_way (same_entity s.entity e) (values_of (objects_noted notes) e)
          ∙ ap (λ c. if same_entity s.entity e then values_or (values_of (objects_noted notes) e) c
          else values_of (objects_noted notes) e) (sym is);
      functions = of.functions;
    }

    pub valued : (values : List ℤ) → s.contents ≡ Values values → IsKnownOf (Stores s ∷ notes) (record k {
      objects = with_thing s.entity k.objects;
      values = with_values s.entity values k.values;
    })
    valued values is = record {
      objects = defining (Values values) refl is;
      values = λ e. ap (λ vs. if same_entity s.entity e then values else vs) (of.values e)
          ∙ ap (λ c. if same_entity s.entity e then values_or (values_of (objects_noted notes) e) c
          else values_of (objects_noted notes) e) (sym is);
      functions = of.functions;
    }

  pub defined : (e : Entity) (type : Declared)
      → IsKnownOf (Defines e type ∷ notes) (record k { functions = with_thing e k.functions })
  defined e type = record {
    objects = of.objects;
    values = of.values;
    functions = λ f. ap (λ b. same_entity e f || b) (of.functions f);
  }

pub none : IsKnownOf [] (record { objects = λ e. false; values = λ e. []; functions = λ e. false })
none = record { objects = λ e. refl; values = λ e. refl; functions = λ e. refl }

-- what is known in other words
pub known_as : (notes : List Note) (k l : Known) → ((e : Entity) → l.objects e ≡ k.objects e)
    → ((e : Entity) → l.values e ≡ k.values e) → ((e : Entity) → l.functions e ≡ k.functions e)
    → IsKnownOf notes k → IsKnownOf notes l
known_as notes k l p q r of = record {
  objects = λ e. p e ∙ of.objects e;
  values = λ e. q e ∙ of.values e;
  functions = λ e. r e ∙ of.functions e;
}
