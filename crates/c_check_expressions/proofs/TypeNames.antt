-- The types that casts name.
use Rattle.std.proofs.Common.{◌≡◌, refl, sym, ap, ◌∙◌, subst, true≢false, Bool, true, false, List, [], ◌∷◌, Option}
use Rattle.std.proofs.Common.{Some}
use Rattle.std.proofs.Common.{None, filter_map, option_map, if◌then◌else◌}
use Rattle.std.specs.List.{list_any}
use Rattle.pcc_base.specs.declared.span.Span.{Span}
use Rattle.pcc_base.specs.declared.fault.FaultKind.{FaultKind}
use Rattle.pcc_base.specs.declared.fault.FaultKind.TheVariants.{PointerUse, TypeRule}
use Rattle.c_syntax.specs.declared.operator.SpecifierWord.{SpecifierWord}
use Rattle.c_syntax.specs.declared.operator.SpecifierWord.TheVariants as words
use Rattle.c_syntax.specs.Expressions.{Star}
use Rattle.c_tree.specs.declared.types.ValueType.{ValueType}
use Rattle.c_typing.specs.Faults.{fault}
use Rattle.c_typing.specs.Checked.{noted, or_fails, if_fits}
use Rattle.c_typing.specs.Types.{Storage, Unsaid, Auto, Register, Static, Extern, Specified, InCast, storage_word}
use Rattle.c_typing.specs.Types.{the_storage, said, may_stand, pointed}
use Rattle.c_check_expressions.specs.declared.judged.Judged.TheVariants as answers
use Rattle.c_check_expressions.specs.Parts.{Stands}
use Rattle.c_check_expressions.specs.Said.{IsQuiet}
use Rattle.c_check_expressions.specs.TypeNames.{is_storage}

pub no_storage : (ws : List SpecifierWord) → list_any is_storage ws ≡ false → filter_map storage_word ws ≡ []
no_storage [] h = refl
no_storage (words.Auto ∷ ws) h = absurd (true≢false h)
no_storage (words.Register ∷ ws) h = absurd (true≢false h)
no_storage (words.Static ∷ ws) h = absurd (true≢false h)
no_storage (words.Extern ∷ ws) h = absurd (true≢false h)
no_storage (words.Const ∷ ws) h = no_storage ws h
no_storage (words.Void ∷ ws) h = no_storage ws h
no_storage (words.Char ∷ ws) h = no_storage ws h
no_storage (words.Short ∷ ws) h = no_storage ws h
no_storage (words.Int ∷ ws) h = no_storage ws h
no_storage (words.Signed ∷ ws) h = no_storage ws h

-- a storage word stands in no cast
stands_not : (s : Storage) → may_stand InCast s ≡ false → (others : List Storage) (t : Option ValueType)
    → said InCast t (the_storage (s ∷ others)) ≡ None
stands_not s h [] None = refl
stands_not s h [] (Some base) =
    ap (λ b. if b then Some (record { base = base; storage = s }) else None) h
stands_not s h (o ∷ os) None = refl
stands_not s h (o ∷ os) (Some base) = refl

pub some_storage : (ws : List SpecifierWord) → list_any is_storage ws ≡ true → (t : Option ValueType)
    → said InCast t (the_storage (filter_map storage_word ws)) ≡ None
some_storage [] h t = absurd (true≢false (sym h))
some_storage (words.Auto ∷ ws) h t = stands_not Auto refl (filter_map storage_word ws) t
some_storage (words.Register ∷ ws) h t = stands_not Register refl (filter_map storage_word ws) t
some_storage (words.Static ∷ ws) h t = stands_not Static refl (filter_map storage_word ws) t
some_storage (words.Extern ∷ ws) h t = stands_not Extern refl (filter_map storage_word ws) t
some_storage (words.Const ∷ ws) h t = some_storage ws h t
some_storage (words.Void ∷ ws) h t = some_storage ws h t
some_storage (words.Char ∷ ws) h t = some_storage ws h t
some_storage (words.Short ∷ ws) h t = some_storage ws h t
some_storage (words.Int ∷ ws) h t = some_storage ws h t
some_storage (words.Signed ∷ ws) h t = some_storage ws h t

pub unsaid : (t : Option ValueType) → t ≡ option_map (λ s. s.base) (said InCast t (Some Unsaid))
unsaid None = refl
unsaid (Some base) = refl

-- ---- with `*` or without

type_or : ValueType → Option ValueType → ValueType
type_or of None = of
type_or of (Some other) = other

is_some : Option ValueType → Bool
is_some None = false
is_some (Some of) = true

noted_none : (o : Span) (p : Option ValueType) → noted [] (or_fails p PointerUse o) ≡ or_fails p PointerUse o
noted_none o None = refl
noted_none o (Some of) = refl

named_by : (o first : Span) (star : Option Star) (s : Option Specified) (base : ValueType)
    → option_map (λ s. s.base) s ≡ Some base
    → if_fits (or_fails s TypeRule first) (λ said. or_fails (pointed said.base star) PointerUse o)
    ≡ or_fails (pointed base star) PointerUse o
unfolding is_some type_or
named_by o first star None base h = absurd (true≢false (sym (ap is_some h)))
named_by o first star (Some s) base h = noted_none o (pointed s.base star)
    ∙ ap (λ of. or_fails (pointed of star) PointerUse o) (ap (type_or base) h)

pub type_fits : (o first : Span) (star : Option Star) (s : Option Specified) (base of : ValueType)
    → option_map (λ s. s.base) s ≡ Some base → pointed base star ≡ Some of
    → Stands (λ t u. u ≡ t)
    (if_fits (or_fails s TypeRule first) (λ said. or_fails (pointed said.base star) PointerUse o)) (answers.Fits of)
type_fits o first star s base of h k =
    let fits : Stands (λ (t u : ValueType). u ≡ t) (or_fails (pointed base star) PointerUse o) (answers.Fits of)
    = subst (λ p. Stands (λ (t u : ValueType). u ≡ t) (or_fails p PointerUse o) (answers.Fits of)) (sym k) refl in
    subst (λ c. Stands (λ (t u : ValueType). u ≡ t) c (answers.Fits of)) (sym (named_by o first star s base h)) fits

pub type_fails : (o first : Span) (star : Option Star) (s : Option Specified) (base : ValueType)
    → option_map (λ s. s.base) s ≡ Some base → pointed base star ≡ None
    → Stands {A = ValueType} (λ t u. u ≡ t)
    (if_fits (or_fails s TypeRule first) (λ said. or_fails (pointed said.base star) PointerUse o))
    (answers.Fails (fault PointerUse o))
type_fails o first star s base h k =
    let fails : Stands (λ (t u : ValueType). u ≡ t) (or_fails (pointed base star) PointerUse o)
    (answers.Fails (fault PointerUse o))
    = subst (λ p. Stands (λ (t u : ValueType). u ≡ t) (or_fails p PointerUse o) (answers.Fails (fault PointerUse o)))
    (sym k) refl in
    subst (λ c. Stands (λ (t u : ValueType). u ≡ t) c (answers.Fails (fault PointerUse o)))
    (sym (named_by o first star s base h)) fails

-- ---- a type name says nothing beside

quiet_or : {A : Type 0} (o : Option A) (kind : FaultKind) (at : Span) → IsQuiet (or_fails o kind at)
quiet_or None kind at = tt
quiet_or (Some v) kind at = refl

pub quiet_type_name : (o first : Span) (star : Option Star) (s : Option Specified)
    → IsQuiet (if_fits (or_fails s TypeRule first) (λ said. or_fails (pointed said.base star) PointerUse o))
quiet_type_name o first star None = tt
quiet_type_name o first star (Some s) =
    subst IsQuiet (sym (noted_none o (pointed s.base star))) (quiet_or (pointed s.base star) PointerUse o)
