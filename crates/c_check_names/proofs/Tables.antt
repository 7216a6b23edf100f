-- Where the innermost binding of a name stands, behind a binding and where one is forgotten.
use Rattle.std.proofs.Common.{◌≡◌, ℕ, suc, ◌<◌, List, [], ◌∷◌, ◌++◌, map, length, reverse, Bool, true, false}
use Rattle.std.proofs.Common.{Option, Some, None, refl, ap, sym, subst, ◌∙◌, slice_get, get_or, drop, arith}
use Rattle.std.proofs.Common.{if◌then◌else◌}
use Rattle.std.proofs.Common.{true≢false, ◌-◌, ◌≤◌}
use Rattle.std.specs.Prelude.{nat_eq}
use Rattle.std.specs.Cmp.Lexicographic.{pointwise}
use Rattle.std.specs.Map.{lookup, KeepsOthers}
use Rattle.std.specs.Prelude.{option_map, IfSome, IsSome}
use Rattle.std.proofs.lemmas.List.{reverse-append, reverse-reverse, length-reverse}
use Rattle.std.proofs.lemmas.Option.{none-some, same_Some, get_or_from_slice_get, slice_get_within}
use Rattle.std.proofs.lemmas.Bool.{false_from_ne_true}
use Rattle.pcc_base.proofs.Lists.{get-last, get-append}
use Rattle.c_typing.specs.Library.{same_name}
use Rattle.c_typing.specs.Names.{binding_of}
use Rattle.c_check_names.proofs.MeaningNames.{same_is, same_self}
use Rattle.c_check_names.specs.declared.names.Entry.{Entry}
use Rattle.c_check_names.specs.Bindings.{binding_from, innermost_first, of_binding, of_entry, place_of, AreChained}

-- ---- a table of which one name was changed

module _ {K X : Type 0} (items : K → List ℕ) (old new : List (K × X)) (key : List ℕ) (w : Option X) where
  -- what is found of each name behind a change of one
  pub changed : lookup (λ k. pointwise nat_eq key (items k)) new ≡ w
      → KeepsOthers (λ x y. pointwise nat_eq (items x) (items y)) (λ k. pointwise nat_eq key (items k)) old new
      → (name : List ℕ) → lookup (λ k. pointwise nat_eq name (items k)) new
      ≡ (if same_name key name then w else lookup (λ k. pointwise nat_eq name (items k)) old)
  unfolding KeepsOthers
  changed at others name = by (same_name key name) refl
    where
      by : (b : Bool) → same_name key name ≡ b → lookup (λ k. pointwise nat_eq name (items k)) new
          ≡ (if b then w else lookup (λ k. pointwise nat_eq name (items k)) old)
      by true e = ap (λ (n : List ℕ). lookup (λ k. pointwise nat_eq n (items k)) new) (sym (same_is key name e)) ∙ at
      by false e = others (λ k. pointwise nat_eq name (items k))
          (λ x y h. ap (λ (n : List ℕ). pointwise nat_eq n (items y)) (same_is name (items x) h))
          (λ k h. false_from_ne_true (pointwise nat_eq name (items k))
          (λ g. true≢false (sym (subst (λ n. same_name key n ≡ true) (sym (same_is name (items k) g)) h) ∙ e)))

-- ---- one more binding, and one less

module _ {K : Type 0} (items : K → List ℕ) (old new : List (K × ℕ)) (e : Entry) (es : List Entry) where
  pub one_more : (place : ℕ) → AreChained es
      → ((name : List ℕ) → lookup (λ k. pointwise nat_eq name (items k)) old ≡ place_of es name)
      → e.hidden ≡ place_of es e.name.items → place ≡ length es
      → lookup (λ k. pointwise nat_eq e.name.items (items k)) new ≡ Some place
      → KeepsOthers (λ x y. pointwise nat_eq (items x) (items y)) (λ k. pointwise nat_eq e.name.items (items k)) old new
      → AreChained (e ∷ es)
      × ((name : List ℕ) → lookup (λ k. pointwise nat_eq name (items k)) new ≡ place_of (e ∷ es) name)
  one_more place chained found hides end at others = (
    (hides, chained),
    λ name. changed items old new e.name.items (Some place) at others name
        ∙ ap (λ r. if same_name e.name.items name then Some place else r) (found name)
        ∙ ap (λ p. if same_name e.name.items name then Some p else place_of es name) end,
  )

  pub one_less : AreChained (e ∷ es)
      → ((name : List ℕ) → lookup (λ k. pointwise nat_eq name (items k)) old ≡ place_of (e ∷ es) name)
      → lookup (λ k. pointwise nat_eq e.name.items (items k)) new ≡ e.hidden
      → KeepsOthers (λ x y. pointwise nat_eq (items x) (items y)) (λ k. pointwise nat_eq e.name.items (items k)) old new
      → AreChained es
      × ((name : List ℕ) → lookup (λ k. pointwise nat_eq name (items k)) new ≡ place_of es name)
  one_less chained found at others = (chained.1, λ name. by name (same_name e.name.items name) refl)
    where
      by : (name : List ℕ) (b : Bool) → same_name e.name.items name ≡ b
          → lookup (λ k. pointwise nat_eq name (items k)) new ≡ place_of es name
      by name true h = changed items old new e.name.items e.hidden at others name
          ∙ ap (λ b. if b then e.hidden else lookup (λ k. pointwise nat_eq name (items k)) old) h
          ∙ chained.0 ∙ ap (place_of es) (same_is e.name.items name h)
      by name false h = changed items old new e.name.items e.hidden at others name
          ∙ ap (λ b. if b then e.hidden else lookup (λ k. pointwise nat_eq name (items k)) old) h
          ∙ found name ∙ ap (λ b. if b then Some (length es) else place_of es name) h

-- ---- the innermost binding of a name

-- a name with a place is bound there
pub bound_at : (es : List Entry) (name : List ℕ) (p : ℕ) → place_of es name ≡ Some p
    → (e : Entry) × (slice_get (reverse es) p ≡ Some e)
    × (binding_of (map binding_from es) name ≡ Some (binding_from e))
bound_at [] name p h = absurd (none-some p h)
bound_at (e ∷ es) name p h = by (same_name e.name.items name) refl (λ g. bound_at es name p g)
  where
    by : (b : Bool) → same_name e.name.items name ≡ b
        → (place_of es name ≡ Some p → (d : Entry) × (slice_get (reverse es) p ≡ Some d)
        × (binding_of (map binding_from es) name ≡ Some (binding_from d)))
        → (d : Entry) × (slice_get (reverse (e ∷ es)) p ≡ Some d)
        × (binding_of (map binding_from (e ∷ es)) name ≡ Some (binding_from d))
    by true s below =
        let q : length es ≡ p = same_Some (length es) p
        (sym (ap (λ b. if b then Some (length es) else place_of es name) s) ∙ h) in
        let n : length (reverse es) ≡ p = length-reverse es ∙ q in (
          e,
          ap (λ xs. slice_get xs p) (reverse-append (e ∷ []) es)
              ∙ ap (λ i. slice_get (reverse es ++ e ∷ []) i) (sym n) ∙ get-last (reverse es) e,
          ap (λ b. if b then Some (binding_from e) else binding_of (map binding_from es) name) s,
        )
    by false s below =
        let r = below (sym (ap (λ b. if b then Some (length es) else place_of es name) s) ∙ h) in (
          r.0,
          ap (λ xs. slice_get xs p) (reverse-append (e ∷ []) es) ∙ get-append (reverse es) (e ∷ []) p r.0 r.1,
          ap (λ b. if b then Some (binding_from e) else binding_of (map binding_from es) name) s ∙ r.2,
        )

-- a name without a place isn't bound
pub unbound : (es : List Entry) (name : List ℕ) → place_of es name ≡ None → binding_of (map binding_from es) name ≡ None
unbound [] name h = refl
unbound (e ∷ es) name h = by (same_name e.name.items name) refl (λ g. unbound es name g)
  where
    by : (b : Bool) → same_name e.name.items name ≡ b
        → (place_of es name ≡ None → binding_of (map binding_from es) name ≡ None)
        → binding_of (map binding_from (e ∷ es)) name ≡ None
    by true s below = absurd (none-some (length es)
        (sym h ∙ ap (λ b. if b then Some (length es) else place_of es name) s))
    by false s below = ap (λ b. if b then Some (binding_from e) else binding_of (map binding_from es) name) s
        ∙ below (sym (ap (λ b. if b then Some (length es) else place_of es name) s) ∙ h)

-- ---- the bindings in the order of their declarations

reversed : (es new : List Entry) (e : Entry) → new ≡ es ++ e ∷ [] → reverse new ≡ e ∷ reverse es
reversed es new e is = ap reverse is ∙ reverse-append es (e ∷ [])

-- the binding that a place has
pub found_entry : (es : List Entry) (name : List ℕ) (p : ℕ) (e : Entry) → place_of (reverse es) name ≡ Some p
    → e ≡ get_or es p e → Some (of_entry e) ≡ option_map of_binding (binding_of (innermost_first es) name)
found_entry es name p e h at =
    let r = bound_at (reverse es) name p h in
    let s : slice_get es p ≡ Some r.0 = ap (λ xs. slice_get xs p) (sym (reverse-reverse es)) ∙ r.1 in
    let q : e ≡ r.0 = at ∙ get_or_from_slice_get es p r.0 e s in
    ap (λ d. Some (of_entry d)) q ∙ ap (option_map of_binding) (sym r.2)

pub found_within : (es : List Entry) (name : List ℕ) (p : ℕ) → place_of (reverse es) name ≡ Some p → p < length es
found_within es name p h =
    let r = bound_at (reverse es) name p h in
    slice_get_within es p r.0 (ap (λ xs. slice_get xs p) (sym (reverse-reverse es)) ∙ r.1)

pub found_none : (es : List Entry) (name : List ℕ) → place_of (reverse es) name ≡ None
    → None ≡ option_map of_binding (binding_of (innermost_first es) name)
found_none es name h = ap (option_map of_binding) (sym (unbound (reverse es) name h))

-- what a table of places keeps beside the bindings
abbrev pub Keeps : {K : Type 0} → (K → List ℕ) → List (K × ℕ) → List Entry → Type 0
Keeps items places es = AreChained es
    × ((name : List ℕ) → lookup (λ k. pointwise nat_eq name (items k)) places ≡ place_of es name)

is_there : {X : Type 0} (o : Option X) (x : X) → o ≡ Some x → IsSome o
is_there None x e = absurd (none-some x e)
is_there (Some y) x e = refl

if_there : {X Y : Type 0} (hidden : Option X) (o : Option Y) → IsSome o → IfSome hidden (λ x. IsSome o)
if_there None o h = tt
if_there (Some x) o h = h

module _ {K : Type 0} (items : K → List ℕ) (old new : List (K × ℕ)) (es after : List Entry) (e : Entry)
    (key : List ℕ) where
  -- a binding is put behind the others
  pub bind_keeps : (place : ℕ) → after ≡ es ++ e ∷ [] → e.name.items ≡ key → Keeps items old (reverse es)
      → e.hidden ≡ lookup (λ k. pointwise nat_eq key (items k)) old → place ≡ length es
      → lookup (λ k. pointwise nat_eq key (items k)) new ≡ Some place
      → KeepsOthers (λ x y. pointwise nat_eq (items x) (items y)) (λ k. pointwise nat_eq key (items k)) old new
      → Keeps items new (reverse after)
  bind_keeps place is named keeps hides end at others =
      subst (Keeps items new) (sym (reversed es after e is))
      (one_more items old new e (reverse es) place keeps.0 keeps.1
      (hides ∙ keeps.1 key ∙ ap (place_of (reverse es)) (sym named)) (end ∙ sym (length-reverse es))
      (ap (λ (n : List ℕ). lookup (λ k. pointwise nat_eq n (items k)) new) named ∙ at)
      (subst (λ (n : List ℕ). KeepsOthers (λ x y. pointwise nat_eq (items x) (items y))
      (λ k. pointwise nat_eq n (items k)) old new) (sym named) others))

  -- the last binding is taken away
  pub forget_keeps : es ≡ after ++ e ∷ [] → e.name.items ≡ key → Keeps items old (reverse es)
      → lookup (λ k. pointwise nat_eq key (items k)) new ≡ e.hidden
      → KeepsOthers (λ x y. pointwise nat_eq (items x) (items y)) (λ k. pointwise nat_eq key (items k)) old new
      → Keeps items new (reverse after)
  forget_keeps is named keeps at others =
      let k : Keeps items old (e ∷ reverse after) = subst (Keeps items old) (reversed after es e is) keeps in
      one_less items old new e (reverse after) k.0 k.1
      (ap (λ (n : List ℕ). lookup (λ k. pointwise nat_eq n (items k)) new) named ∙ at)
      (subst (λ (n : List ℕ). KeepsOthers (λ x y. pointwise nat_eq (items x) (items y))
      (λ k. pointwise nat_eq n (items k)) old new) (sym named) others)

  -- the name of the last binding has a place
  pub last_is_there : (hidden : Option ℕ) → es ≡ after ++ e ∷ [] → e.name.items ≡ key → Keeps items old (reverse es)
      → IfSome hidden (λ x. IsSome (lookup (λ k. pointwise nat_eq key (items k)) old))
  last_is_there hidden is named keeps =
      if_there hidden (lookup (λ k. pointwise nat_eq key (items k)) old)
      (is_there (lookup (λ k. pointwise nat_eq key (items k)) old) (length (reverse after))
      (keeps.1 key ∙ ap (λ xs. place_of xs key) (reversed after es e is)
      ∙ ap (λ b. if b then Some (length (reverse after)) else place_of (reverse after) key)
      (ap (λ n. same_name n key) named ∙ same_self key)))

-- ---- bindings are forgotten until so many are left

pub one_forgotten : {X : Type 0} (xs ys : List X) (count : ℕ) → ys ≡ drop 1 xs → count < length xs
    → drop (length ys - count) ys ≡ drop (length xs - count) xs
one_forgotten [] ys count e lt = absurd (omega (arith, lt))
one_forgotten (x ∷ xs) ys count e lt =
    let n : suc (length xs) - count ≡ suc (length xs - count) = omega (arith, lt) in
    ap (λ zs. drop (length zs - count) zs) e ∙ sym (ap (λ i. drop i (x ∷ xs)) n)

pub none_forgotten : {X : Type 0} (xs : List X) (count : ℕ) → length xs ≤ count → drop (length xs - count) xs ≡ xs
none_forgotten xs count le = let z : length xs - count ≡ 0 = omega (arith, le) in ap (λ i. drop i xs) z

pub fewer_left : {X : Type 0} (xs ys : List X) (count : ℕ) → ys ≡ drop 1 xs → count < length xs → length ys < length xs
fewer_left [] ys count e lt = absurd (omega (arith, lt))
fewer_left (x ∷ xs) ys count e lt = omega (arith, ap length e)
