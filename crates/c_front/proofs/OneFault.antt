-- Texts have one fault.
use Rattle.std.proofs.Common.{◌≡◌, true, refl, sym, ap, subst, ◌∙◌, ℕ, suc, List, [], ◌∷◌, ◌++◌, inl, inr}
use Rattle.std.specs.Prelude.{◌⊎◌}
use Rattle.std.proofs.lemmas.Bool.{false≢true}
use Rattle.pcc_base.specs.declared.span.Span.{Span}
use Rattle.pcc_base.specs.declared.keyword.Keyword.{Keyword}
use Rattle.pcc_base.specs.declared.fault.Fault.{Fault}
use Rattle.pcc_base.specs.declared.fault.FaultKind.{FaultKind}
use Rattle.pcc_base.specs.declared.fault.FaultKind.TheVariants.{Unsupported}
use Rattle.c_lex.specs.declared.token.Token.{Token}
use Rattle.c_lex.specs.declared.token.TokenKind.{TokenKind}
use Rattle.c_lex.specs.declared.token.TokenKind.TheVariants as kinds
use Rattle.c_lex.proofs.OneReading.{one_fault as one_lexical, tokens_or_fault}
use Rattle.c_syntax.specs.Marks.{word}
use Rattle.c_grammar.proofs.OneFault.{one_fault as one_failure}
use Rattle.c_parse.specs.ParserRefusals.{is_outside, next_place, FailsAt, FirstUnsupported, IsFaulty, IsInside}
use Rattle.c_parse.specs.ParserRefusals.{NoneUnsupported}
use Rattle.c_front.specs.Refusals.{FaultBehind, FirstFaulty}
use Rattle.c_front.proofs.OneReading.{inside_or_first, tree_or_fault}

-- ---- tokens

-- a text has one first lexical fault
pub lexical_once : (file : ℕ) (texts : List (List ℕ)) (n m : ℕ) (e f : Fault) → FaultBehind file texts n e
    → FaultBehind file texts m f → e ≡ f
lexical_once file [] n m e f p q = absurd p
lexical_once file (text ∷ texts) n m e f (inl (a, has, is)) (inl (b, again, so)) =
    (one_lexical file text a b e f has again).1
lexical_once file (text ∷ texts) n m e f (inl (a, has, is)) (inr (own, all, k, so, behind)) =
    absurd (tokens_or_fault file text own a e all has)
lexical_once file (text ∷ texts) n m e f (inr (own, all, k, so, behind)) (inl (b, has, is)) =
    absurd (tokens_or_fault file text own b f all has)
lexical_once file (text ∷ texts) n m e f (inr (own, all, k, is, p)) (inr (same, again, l, so, q)) =
    lexical_once (suc file) texts k l e f p q

-- ---- trees

-- a keyword that the language leaves out is not one of the language
not_inside : (t : Token) (keyword : Keyword) (at : Span) → word keyword at ≡ t → IsInside t.kind
    → is_outside keyword ≡ true → ⊥
not_inside t keyword at same inside outside =
    false≢true (sym (subst (λ (x : Token). IsInside x.kind) (sym same) inside) ∙ outside)

-- a token of a keyword has one keyword and one place
abbrev keyword_of : TokenKind → Keyword → Keyword
keyword_of (kinds.Word j) k = j
keyword_of kind k = k

word_once : (j k : Keyword) (at here : Span) → word j at ≡ word k here → (j ≡ k) × (at ≡ here)
word_once j k at here same =
    (ap (λ (t : Token). keyword_of t.kind j) same, ap (λ (t : Token). t.at) same)

-- the first such keyword is one
first_once : (a b after others : List Token) (j k : Keyword) (at here : Span) → NoneUnsupported a → NoneUnsupported b
    → is_outside j ≡ true → is_outside k ≡ true → a ++ word j at ∷ after ≡ b ++ word k here ∷ others
    → (j ≡ k) × (at ≡ here)
first_once [] [] after others j k at here p q outside again e =
    let first : word j at ≡ word k here = cc in
    word_once j k at here first
first_once [] (t ∷ b) after others j k at here p q outside again e =
    let first : word j at ≡ t = cc in
    absurd (not_inside t j at first q.0 outside)
first_once (t ∷ a) [] after others j k at here p q outside again e =
    let first : word k here ≡ t = cc in
    absurd (not_inside t k here first p.0 again)
first_once (t ∷ a) (u ∷ b) after others j k at here p q outside again e =
    let rest : a ++ word j at ∷ after ≡ b ++ word k here ∷ others = cc in
    first_once a b after others j k at here p.1 q.1 outside again rest

-- tokens have one fault by the grammar
failure_once : (tokens : List Token) (end : Span) (j k : FaultKind) (at here : Span) → FailsAt tokens end j at
    → FailsAt tokens end k here → (j ≡ k) × (at ≡ here)
failure_once tokens end j k at here (a, rest, same, f, is) (b, others, again, g, so) =
    let once = one_failure 256 j k a b rest others f g (sym same ∙ again) in
    (once.0, is ∙ ap (λ (ts : List Token). next_place ts end) once.2 ∙ sym so)

-- a fault of tokens is one of these
abbrev Cause : List Token → Span → FaultKind → Span → Type 0
Cause tokens end kind at = ((keyword : Keyword) × (kind ≡ Unsupported keyword) × FirstUnsupported tokens keyword at)
    ⊎ (NoneUnsupported tokens × FailsAt tokens end kind at)

cause_of : (tokens : List Token) (end : Span) (kind : FaultKind) (at : Span) → IsFaulty tokens end kind at
    → Cause tokens end kind at
cause_of tokens end (Unsupported keyword) at h = inl (keyword, refl, h)
cause_of tokens end kind at h = inr h

cause_once : (tokens : List Token) (end : Span) (j k : FaultKind) (at here : Span) → Cause tokens end j at
    → Cause tokens end k here → (j ≡ k) × (at ≡ here)
cause_once tokens end j k at here (inl (v, of_v, (a, rest, none, outside, same)))
    (inl (w, of_w, (b, others, nor, again, so))) =
    let once = first_once a b rest others v w at here none nor outside again (sym same ∙ so) in
    (of_v ∙ ap Unsupported once.0 ∙ sym of_w, once.1)
cause_once tokens end j k at here (inl (v, of_v, f)) (inr (none, g)) = absurd (inside_or_first tokens v at none f)
cause_once tokens end j k at here (inr (none, f)) (inl (w, of_w, g)) = absurd (inside_or_first tokens w here none g)
cause_once tokens end j k at here (inr (none, f)) (inr (nor, g)) = failure_once tokens end j k at here f g

-- files have one first fault
pub syntax_once : (files : List (List Token)) (ends : List Span) (j k : FaultKind) (at here : Span)
    → FirstFaulty files ends j at → FirstFaulty files ends k here → (j ≡ k) × (at ≡ here)
syntax_once [] ends j k at here f g = absurd f
syntax_once (tokens ∷ files) [] j k at here f g = absurd f
syntax_once (tokens ∷ files) (end ∷ ends) j k at here (inl f) (inl g) =
    cause_once tokens end j k at here (cause_of tokens end j at f) (cause_of tokens end k here g)
syntax_once (tokens ∷ files) (end ∷ ends) j k at here (inl f) (inr (unit, has, g)) =
    absurd (tree_or_fault tokens end unit j at has f)
syntax_once (tokens ∷ files) (end ∷ ends) j k at here (inr (unit, has, f)) (inl g) =
    absurd (tree_or_fault tokens end unit k here has g)
syntax_once (tokens ∷ files) (end ∷ ends) j k at here (inr (unit, has, f)) (inr (same, again, g)) =
    syntax_once files ends j k at here f g
