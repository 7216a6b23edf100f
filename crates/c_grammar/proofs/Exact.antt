-- The place of a fault is exact.
use Rattle.std.proofs.Common.{◌≡◌, ℕ, suc, ◌+◌, ◌<◌, Bool, true, false, List, [], ◌∷◌, ◌++◌, length, length-append}
use Rattle.std.proofs.Common.{if◌then◌else◌, refl, ap, sym, ◌∙◌, subst, arith, append_assoc}
use Rattle.std.proofs.lemmas.List.{append-nil}
use Rattle.pcc_base.specs.declared.fault.FaultKind.TheVariants.{Syntax, TooDeep}
use Rattle.c_lex.specs.declared.token.Token.{Token}
use Rattle.c_syntax.specs.Statements.{ExternalTree}
use Rattle.c_syntax.specs.DeclarationTokens.{greatest}
use Rattle.c_syntax.specs.Grammar.{Tree, unit_tokens, external_height}
use Rattle.c_grammar.specs.Faults.{Begins, FaultAt}
use Rattle.c_grammar.specs.Chains.{Reads, Found, Faults}
use Rattle.c_grammar.specs.Laws.{Same, Kept, Past, RisesTo}
use Rattle.c_grammar.specs.StatementReading.{below_of, read_unit}
use Rattle.c_grammar.proofs.Sound.{Holds}
use Rattle.c_grammar.proofs.SoundStatements.{SoundUnit, sound_unit}
use Rattle.c_grammar.proofs.AheadStatements.{unit_ahead}
use Rattle.c_grammar.proofs.RisingStatements.{unit_rises}
use Rattle.c_grammar.proofs.RightStatements.{begins_program}
use Rattle.c_grammar.proofs.StatementComplete.{tree_read}

abbrev head_or : Token → List Token → Token
head_or t [] = t
head_or t (x ∷ xs) = x

head_of : (x y : Token) (us vs : List Token) → (x ∷ us ≡ y ∷ vs) → x ≡ y
head_of x y us vs e = ap (head_or x) e

abbrev tail_of : List Token → List Token
tail_of [] = []
tail_of (t ∷ ts) = ts

-- one prefix reaches past another
further : (b c : List Token) (t : Token) (us vs : List Token) → (b ++ t ∷ us ≡ c ++ vs) → length vs < length (t ∷ us)
    → (mid : List Token) × (c ≡ b ++ t ∷ mid)
further [] [] t us vs e l = absurd (let s : length (t ∷ us) ≡ length vs = ap length e in omega arith)
further [] (y ∷ c) t us vs e l = (c, ap (λ x. x ∷ c) (sym (head_of t y us (c ++ vs) e)))
further (x ∷ b) [] t us vs e l =
    absurd (let s : length (x ∷ (b ++ t ∷ us)) ≡ length vs = ap length e in omega (arith, length-append b (t ∷ us)))
further (x ∷ b) (y ∷ c) t us vs e l =
    (let m = further b c t us vs (ap tail_of e) l in
    (m.0, (ap (λ z. z ∷ c) (sym (head_of x y (b ++ t ∷ us) (c ++ vs) e))) ∙ ap (λ z. x ∷ z) m.1))

-- two prefixes before the same rest are one
one_prefix : (b c us : List Token) → (b ++ us ≡ c ++ us) → b ≡ c
one_prefix [] [] us e = refl
one_prefix [] (y ∷ c) us e =
    absurd (let s : length us ≡ length (y ∷ (c ++ us)) = ap length e in omega (arith, length-append c us))
one_prefix (x ∷ b) [] us e =
    absurd (let s : length (x ∷ (b ++ us)) ≡ length us = ap length e in omega (arith, length-append b us))
one_prefix (x ∷ b) (y ∷ c) us e =
    ap (λ z. z ∷ b) (head_of x y (b ++ us) (c ++ us) e) ∙ ap (λ z. y ∷ z) (one_prefix b c us (ap tail_of e))

abbrev is_found : {A : Type 0} → Reads A → Bool
is_found (Found a us) = true
is_found (Faults deep us) = false

apart : {A : Type 0} (o : Reads A) (a : A) (us vs : List Token) (deep : Bool) → o ≡ Found a us → o ≡ Faults deep vs → ⊥
apart o a us vs deep f g = absurd (let wrong : true ≡ false = ap is_found (sym f ∙ g) in cc)

-- no tokens are a program where there is a fault that is not of height
none_at_all : (n : ℕ) (ts us : List Token) → read_unit (below_of n) ts ≡ Faults false us → (h : ℕ)
    (x : List ExternalTree) → Tree ts h x → ⊥
none_at_all n ts us reads h x tree =
    apart (read_unit (below_of (h + n + 3)) ts) x [] us false (tree_read (h + n + 3) ts h x tree (omega arith))
    (subst (λ o. RisesTo o (read_unit (below_of (h + n + 3)) ts)) reads (unit_rises n (h + n + 3) ts (omega arith)))

-- no program of any height begins with these tokens and the next
none_begins : (n : ℕ) (before : List Token) (t : Token)
    → ((w : List Token) → read_unit (below_of n) (before ++ t ∷ w) ≡ Faults false (t ∷ w)) → (most : ℕ)
    → Begins most (before ++ t ∷ []) → ⊥
none_begins n before t same most (after, h, x, low, tree) =
    none_at_all n (before ++ t ∷ after) (t ∷ after) (same after) h x
    (subst (λ y. Tree y h x) (append_assoc before (t ∷ []) after) tree)

-- none of this height does
none_low : (n : ℕ) (before : List Token) (t : Token)
    → ((w : List Token) → read_unit (below_of n) (before ++ t ∷ w) ≡ Faults true (t ∷ w))
    → Begins (suc n) (before ++ t ∷ []) → ⊥
none_low n before t same (after, h, x, low, tree) =
    apart (read_unit (below_of n) (before ++ t ∷ after)) x [] (t ∷ after) true
    (tree_read n (before ++ t ∷ after) h x (subst (λ y. Tree y h x) (append_assoc before (t ∷ []) after) tree) low)
    (same after)

-- one of a greater height does
higher_begins : (k : ℕ) (before : List Token) (t : Token) (us : List Token) (o : Reads (List ExternalTree))
    → read_unit (below_of k) (before ++ t ∷ us) ≡ o → Past (t ∷ us) o → Begins (suc k) (before ++ t ∷ [])
higher_begins k before t us (Found es vs) e past =
    (let s : SoundUnit (suc k) (before ++ t ∷ us) es vs =
    subst (λ r. Holds (SoundUnit (suc k) (before ++ t ∷ us)) r) e (sound_unit k (before ++ t ∷ us)) in
    let m = further before (unit_tokens es) t us vs s.tokens past in (
      m.0,
      greatest external_height es,
      es,
      s.low,
      record {
        is = s.all;
        tokens_are = append_assoc before (t ∷ []) m.0 ∙ sym m.1;
        height_is = refl;
      },
    ))
higher_begins k before t us (Faults deep vs) e past =
    (let r = begins_program k (before ++ t ∷ us) deep vs e in
    let m = further before r.0 t us vs r.1 past in
    let tree : Tree (r.0 ++ r.2.0) r.2.1 r.2.2 = r.2.4 in (
      m.0 ++ r.2.0,
      r.2.1,
      r.2.2,
      r.2.3,
      subst (λ y. Tree y r.2.1 r.2.2)
          (ap (λ y. y ++ r.2.0) m.1 ∙ (append_assoc before (t ∷ m.0) r.2.0
          ∙ sym (append_assoc before (t ∷ []) (m.0 ++ r.2.0)))) tree,
    ))

never_past : {A : Type 0} (o : Reads A) → Past [] o → ⊥
never_past (Found a vs) p = absurd (omega arith)
never_past (Faults d vs) p = absurd (omega arith)

place_of : (n : ℕ) (ts : List Token) (deep : Bool) (us before : List Token)
    → read_unit (below_of n) ts ≡ Faults deep us → (ts ≡ before ++ us)
    → ((w : List Token) → Same us w → read_unit (below_of n) (before ++ w) ≡ Faults deep w) → Begins (suc n) before
    → FaultAt (suc n) (if deep then TooDeep else Syntax) before us
place_of n ts true [] before r e same begins =
    absurd (never_past (read_unit (below_of (n + 3)) ts)
    (subst (λ o. RisesTo o (read_unit (below_of (n + 3)) ts)) r (unit_rises n (n + 3) ts (omega arith))))
place_of n ts false [] before r e same begins = (
  refl,
  begins,
  λ h x tree.
      none_at_all n ts [] r h x (subst (λ y. Tree y h x) (sym (e ∙ append-nil before)) tree),
)
place_of n ts false (t ∷ us) before r e same begins =
    (begins, none_begins n before t (λ w. same (t ∷ w) refl))
place_of n ts true (t ∷ us) before r e same begins = (
  begins,
  none_low n before t (λ w. same (t ∷ w) refl),
  (
    suc (n + 3),
    higher_begins (n + 3) before t us (read_unit (below_of (n + 3)) (before ++ t ∷ us)) refl
        (subst (λ y. Past (t ∷ us) (read_unit (below_of (n + 3)) y)) e
        (subst (λ o. RisesTo o (read_unit (below_of (n + 3)) ts)) r (unit_rises n (n + 3) ts (omega arith)))),
  ),
)

-- Where the reading of a unit faults, what is before that begins a program, and the fault stands there.
pub exact : (n : ℕ) (ts : List Token) (deep : Bool) (us : List Token)
    → read_unit (below_of n) ts ≡ Faults deep us
    → (before : List Token) × (ts ≡ before ++ us) × FaultAt (suc n) (if deep then TooDeep else Syntax) before us
exact n ts deep us reads =
    (let k : Kept (read_unit (below_of n)) ts (Faults deep us) =
    subst (λ o. Kept (read_unit (below_of n)) ts o) reads (unit_ahead n ts) in
    let r = begins_program n ts deep us reads in (
      k.0,
      k.1,
      place_of n ts deep us k.0 reads k.1 k.2
          (subst (λ b. Begins (suc n) b) (one_prefix r.0 k.0 us (sym r.1 ∙ k.1)) r.2),
    ))
