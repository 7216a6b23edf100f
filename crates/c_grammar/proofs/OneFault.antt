-- A list of tokens has one fault at most, and none where it is a program.
use Rattle.std.proofs.Common.{◌≡◌, ℕ, ◌≤◌, List, [], ◌∷◌, ◌++◌, refl, sym, ◌∙◌, ap, subst, append_assoc}
use Rattle.std.proofs.lemmas.List.{append-nil}
use Rattle.pcc_base.specs.declared.fault.FaultKind.{FaultKind}
use Rattle.pcc_base.specs.declared.fault.FaultKind.TheVariants as faults
use Rattle.c_lex.specs.declared.token.Token.{Token}
use Rattle.c_syntax.specs.Statements.{ExternalTree}
use Rattle.c_syntax.specs.Grammar.{Tree}
use Rattle.c_grammar.specs.Faults.{Begins, FaultAt}

-- what begins a program does so in each front of it
pub front_begins : (most : ℕ) (a b : List Token) → Begins most (a ++ b) → Begins most a
front_begins most a b (after, h, t, low, tree) =
    (b ++ after, h, t, low, subst (λ ts. Tree ts h t) (append_assoc a b after) tree)

-- the tokens behind the fault begin no program with those before it
no_further : (most : ℕ) (k : FaultKind) (a : List Token) (x : Token) (xs more : List Token) → FaultAt most k a (x ∷ xs)
    → Begins most (a ++ x ∷ more) → ⊥
no_further most faults.Syntax a x xs more f b = f.1 most
    (front_begins most (a ++ x ∷ []) more (subst (λ ts. Begins most ts) (sym (append_assoc a (x ∷ []) more)) b))
no_further most faults.TooDeep a x xs more f b = f.1
    (front_begins most (a ++ x ∷ []) more (subst (λ ts. Begins most ts) (sym (append_assoc a (x ∷ []) more)) b))
no_further most _ a x xs more f b = f

begins_before : (most : ℕ) (k : FaultKind) (a rest : List Token) → FaultAt most k a rest → Begins most a
begins_before most k a [] f = f.1
begins_before most faults.Syntax a (x ∷ xs) f = f.0
begins_before most faults.TooDeep a (x ∷ xs) f = f.0
begins_before most _ a (x ∷ xs) f = absurd f

-- no program has a fault
pub no_fault : (most : ℕ) (k : FaultKind) (a rest : List Token) (h : ℕ) (t : List ExternalTree) → FaultAt most k a rest
    → Tree (a ++ rest) h t → h ≤ most → ⊥
no_fault most k a [] h t f tree low = f.2 h t (subst (λ ts. Tree ts h t) (append-nil a) tree)
no_fault most k a (x ∷ xs) h t f tree low = no_further most k a x xs xs f
    ([], h, t, low, subst (λ ts. Tree ts h t) (sym (append-nil (a ++ x ∷ xs))) tree)

-- both at one place
one_kind : (most : ℕ) (j k : FaultKind) (a rest : List Token) → FaultAt most j a rest → FaultAt most k a rest → j ≡ k
one_kind most j k a [] f g = f.0 ∙ sym g.0
one_kind most faults.Syntax faults.Syntax a (x ∷ xs) f g = refl
one_kind most faults.TooDeep faults.TooDeep a (x ∷ xs) f g = refl
one_kind most faults.Syntax faults.TooDeep a (x ∷ xs) f g = absurd (f.1 g.2.0 g.2.1)
one_kind most faults.TooDeep faults.Syntax a (x ∷ xs) f g = absurd (g.1 f.2.0 f.2.1)
one_kind most faults.Syntax _ a (x ∷ xs) f g = absurd g
one_kind most faults.TooDeep _ a (x ∷ xs) f g = absurd g
one_kind most _ _ a (x ∷ xs) f g = absurd f

-- the one place is at the end of what both have in common
same_place : (most : ℕ) (j k : FaultKind) (common a b rest others : List Token) → FaultAt most j (common ++ a) rest
    → FaultAt most k (common ++ b) others → a ++ rest ≡ b ++ others → (a ≡ b) × (rest ≡ others)
same_place most j k common [] [] rest others f g e = (refl, e)
same_place most j k common (x ∷ a) (y ∷ b) rest others f g e =
    let heads : x ≡ y = cc in
    let tails : a ++ rest ≡ b ++ others = cc in
    let p = same_place most j k (common ++ x ∷ []) a b rest others
    (subst (λ ts. FaultAt most j ts rest) (sym (append_assoc common (x ∷ []) a)) f)
    (subst (λ z. FaultAt most k ((common ++ z ∷ []) ++ b) others) (sym heads)
    (subst (λ ts. FaultAt most k ts others) (sym (append_assoc common (y ∷ []) b)) g))
    tails in
    (ap (λ z. z ∷ a) heads ∙ ap (λ ts. y ∷ ts) p.0, p.1)
same_place most j k common [] (y ∷ b) [] others f g e = absurd cc
same_place most j k common [] (y ∷ b) (x ∷ rest) others f g e =
    let heads : x ≡ y = cc in
    absurd (no_further most j common x rest b
    (subst (λ ts. FaultAt most j ts (x ∷ rest)) (append-nil common) f)
    (subst (λ z. Begins most (common ++ z ∷ b)) (sym heads) (begins_before most k (common ++ y ∷ b) others g)))
same_place most j k common (x ∷ a) [] rest [] f g e = absurd cc
same_place most j k common (x ∷ a) [] rest (y ∷ others) f g e =
    let heads : x ≡ y = cc in
    absurd (no_further most k common y others a
    (subst (λ ts. FaultAt most k ts (y ∷ others)) (append-nil common) g)
    (subst (λ z. Begins most (common ++ z ∷ a)) heads (begins_before most j (common ++ x ∷ a) rest f)))

-- a list of tokens has one fault at most
pub one_fault : (most : ℕ) (j k : FaultKind) (a b rest others : List Token) → FaultAt most j a rest
    → FaultAt most k b others → a ++ rest ≡ b ++ others → (j ≡ k) × (a ≡ b) × (rest ≡ others)
one_fault most j k a b rest others f g e =
    let p = same_place most j k [] a b rest others f g e in
    let there : FaultAt most k a rest =
    subst (λ ts. FaultAt most k ts rest) (sym p.0) (subst (λ us. FaultAt most k b us) (sym p.1) g) in
    (one_kind most j k a rest f there, p.0, p.1)
