-- Texts have one list of tokens and one raw tree each, or a fault, or too many tokens.
use Rattle.std.proofs.Common.{◌≡◌, ◌≤◌, ℕ, zero, suc, false, List, [], ◌∷◌, ◌++◌, length, length-append, ap, ap₂, sym}
use Rattle.std.proofs.Common.{◌∙◌, subst, refl, inl, inr, arith}
use Rattle.std.proofs.lemmas.Bool.{false≢true}
use Rattle.pcc_base.specs.declared.span.Span.{Span}
use Rattle.pcc_base.specs.declared.keyword.Keyword.{Keyword}
use Rattle.pcc_base.specs.declared.fault.Fault.{Fault}
use Rattle.pcc_base.specs.declared.fault.FaultKind.{FaultKind}
use Rattle.pcc_base.specs.declared.fault.FaultKind.TheVariants.{Unsupported}
use Rattle.c_lex.specs.declared.token.Token.{Token}
use Rattle.c_lex.specs.Pieces.{Piece, NoneBegins}
use Rattle.c_lex.specs.Tokens.{HasTokens, HasFault, BeginsWith, Reached, Leads, behind, tokens_of, start_of}
use Rattle.c_lex.proofs.OnePiece.{begins_once}
use Rattle.c_lex.proofs.OneReading.{none_at_end, one_list, tokens_or_fault}
use Rattle.c_syntax.specs.Marks.{word}
use Rattle.c_syntax.specs.Statements.{ExternalTree}
use Rattle.c_syntax.specs.Grammar.{Tree}
use Rattle.c_grammar.proofs.OneFault.{no_fault}
use Rattle.c_grammar.proofs.StatementComplete.{one_tree}
use Rattle.c_parse.specs.ParserRefusals.{is_outside, FailsAt, FirstUnsupported, IsFaulty, NoneUnsupported}
use Rattle.c_front.specs.Accepted.{HasTree, HaveTokens, HaveTrees, total}
use Rattle.c_front.specs.Refusals.{FaultBehind, FirstFaulty, HaveLexicalFault, HaveManyTokens, StandBefore}
use Rattle.c_parse.proofs.Inside.{unit_inside}

-- ---- what stands before any fault

-- fewer pieces have fewer tokens than those up to where none begins
leads_fewer : (k l : ℕ) (from to other : Reached) (a b : List Token) → Leads k from a to → Leads l from b other
    → NoneBegins other.fresh other.rest → length a ≤ length b
leads_fewer zero l from to other a b p q stuck = omega (arith, ap length p.1)
leads_fewer (suc k) zero from to other a b p q stuck =
    absurd (subst (λ (r : Reached). NoneBegins r.fresh r.rest) q.0 stuck p.0 p.1 p.2)
leads_fewer (suc k) (suc l) from to other a b p q stuck =
    let once = begins_once from.fresh from.rest p.0 q.0 p.1 q.1 p.2 q.2 in
    let place : behind from q.0 q.1 ≡ behind from p.0 p.1 =
    ap₂ (λ (n : ℕ) (x : Piece). behind from n x) (sym once.0) (sym once.1) in
    let again : Leads l (behind from p.0 p.1) q.3 other = subst (λ (r : Reached). Leads l r q.3 other) place q.5 in
    let rest : length p.3 ≤ length q.3 = leads_fewer k l (behind from p.0 p.1) to other p.3 q.3 p.5 again stuck in
    let same : length (tokens_of p.1 from.at) ≡ length (tokens_of q.1 from.at) =
    ap (λ (x : Piece). length (tokens_of x from.at)) once.1 in
    omega (
      arith,
      ap length p.4,
      ap length q.4,
      length-append (tokens_of p.1 from.at) p.3,
      length-append (tokens_of q.1 from.at) q.3,
      rest,
      same,
    )

-- what stands before any fault has no more tokens than the text has
begins_fewer : (file : ℕ) (text : List ℕ) (a b : List Token) → BeginsWith file text a → HasTokens file text b
    → length a ≤ length b
begins_fewer file text a b (k, to, p) (l, other, q, stop) =
    leads_fewer k l (start_of file text) to other a b p q (none_at_end other.fresh other.rest stop)

-- and no more than stand before the fault
begins_fewer_fault : (file : ℕ) (text : List ℕ) (a b : List Token) (fault : Fault) → BeginsWith file text a
    → HasFault file text b fault → length a ≤ length b
begins_fewer_fault file text a b fault (k, to, p) (l, other, q, some, none, kind, at) =
    leads_fewer k l (start_of file text) to other a b p q none

-- ---- tokens of files

-- files have one list of tokens each
pub tokens_once : (file : ℕ) (texts : List (List ℕ)) (a b : List (List Token)) → HaveTokens file texts a
    → HaveTokens file texts b → a ≡ b
tokens_once file [] [] [] p q = refl
tokens_once file [] [] (y ∷ b) p q = absurd q
tokens_once file [] (x ∷ a) b p q = absurd p
tokens_once file (text ∷ texts) [] b p q = absurd p
tokens_once file (text ∷ texts) (x ∷ a) [] p q = absurd q
tokens_once file (text ∷ texts) (x ∷ a) (y ∷ b) p q =
    ap₂ (λ (t : List Token) (ts : List (List Token)). t ∷ ts) (one_list file text x y p.0 q.0)
    (tokens_once (suc file) texts a b p.1 q.1)

-- no more tokens stand before any fault than there are
pub stand_fewer : (file : ℕ) (texts : List (List ℕ)) (n : ℕ) (files : List (List Token)) → StandBefore file texts n
    → HaveTokens file texts files → n ≤ total files
stand_fewer file [] n files stand have = absurd stand
stand_fewer file (text ∷ texts) n [] stand have = absurd have
stand_fewer file (text ∷ texts) n (tokens ∷ files) (inl (before, begins, is)) have =
    omega (arith, is, begins_fewer file text before tokens begins have.0)
stand_fewer file (text ∷ texts) n (tokens ∷ files) (inr (own, has, m, is, stand)) have = omega (
  arith,
  is,
  ap length (one_list file text own tokens has have.0),
  stand_fewer (suc file) texts m files stand have.1,
)

-- and no more than stand before the first fault
stand_fewer_fault : (file : ℕ) (texts : List (List ℕ)) (n m : ℕ) (fault : Fault) → StandBefore file texts n
    → FaultBehind file texts m fault → n ≤ m
stand_fewer_fault file [] n m fault stand behind = absurd stand
stand_fewer_fault file (text ∷ texts) n m fault (inl (before, begins, is)) (inl (own, has, at)) =
    omega (arith, is, at, begins_fewer_fault file text before own fault begins has)
stand_fewer_fault file (text ∷ texts) n m fault (inl (before, begins, is)) (inr (own, has, k, at, behind)) =
    omega (arith, is, at, begins_fewer file text before own begins has)
stand_fewer_fault file (text ∷ texts) n m fault (inr (own, has, k, is, stand)) (inl (before, other, at)) =
    absurd (tokens_or_fault file text own before fault has other)
stand_fewer_fault file (text ∷ texts) n m fault (inr (own, has, k, is, stand)) (inr (same, again, l, at, behind)) =
    omega (
      arith,
      is,
      at,
      ap length (one_list file text own same has again),
      stand_fewer_fault (suc file) texts k l fault stand behind,
    )

-- files with tokens have no lexical fault
pub no_lexical : (file : ℕ) (texts : List (List ℕ)) (n : ℕ) (fault : Fault) (files : List (List Token))
    → FaultBehind file texts n fault → HaveTokens file texts files → ⊥
no_lexical file [] n fault files behind have = behind
no_lexical file (text ∷ texts) n fault [] behind have = have
no_lexical file (text ∷ texts) n fault (tokens ∷ files) (inl (before, has, is)) have =
    tokens_or_fault file text tokens before fault have.0 has
no_lexical file (text ∷ texts) n fault (tokens ∷ files) (inr (own, has, m, is, behind)) have =
    no_lexical (suc file) texts m fault files behind have.1

-- ---- trees of files

-- the keyword stands inside the tokens, so it would have to be one of the language
first_outside : (before after : List Token) (keyword : Keyword) (at : Span)
    → NoneUnsupported (before ++ word keyword at ∷ after) → is_outside keyword ≡ false
first_outside [] after keyword at h = h.0
first_outside (t ∷ ts) after keyword at h = first_outside ts after keyword at h.1

-- tokens with a tree have no keyword that the language leaves out
tree_inside : (tokens : List Token) (height : ℕ) (unit : List ExternalTree) → Tree tokens height unit
    → NoneUnsupported tokens
tree_inside tokens height unit tree = subst NoneUnsupported (sym tree.tokens_are) (unit_inside unit)

-- tokens without such a keyword have no first one
pub inside_or_first : (tokens : List Token) (keyword : Keyword) (at : Span) → NoneUnsupported tokens
    → FirstUnsupported tokens keyword at → ⊥
inside_or_first tokens keyword at none (before, after, earlier, outside, same) =
    false≢true (sym (first_outside before after keyword at (subst NoneUnsupported same none)) ∙ outside)

-- nor have those of a tree a fault by the grammar
tree_or_failure : (tokens : List Token) (end : Span) (unit : List ExternalTree) (kind : FaultKind) (at : Span)
    → HasTree tokens unit → FailsAt tokens end kind at → ⊥
tree_or_failure tokens end unit kind at (h, low, tree) (before, rest, same, fault, is) =
    no_fault 256 kind before rest h unit fault (subst (λ ts. Tree ts h unit) same tree) low

-- tokens with a tree have no fault
pub tree_or_fault : (tokens : List Token) (end : Span) (unit : List ExternalTree) (kind : FaultKind) (at : Span)
    → HasTree tokens unit → IsFaulty tokens end kind at → ⊥
tree_or_fault tokens end unit (Unsupported keyword) at has fault =
    inside_or_first tokens keyword at (tree_inside tokens has.0 unit has.2) fault
tree_or_fault tokens end unit kind at has fault = tree_or_failure tokens end unit kind at has fault.1

-- files with trees have none
pub trees_or_fault : (files : List (List Token)) (ends : List Span) (units : List (List ExternalTree))
    (kind : FaultKind) (at : Span) → HaveTrees files units → FirstFaulty files ends kind at → ⊥
trees_or_fault [] ends units kind at have fault = fault
trees_or_fault (tokens ∷ files) [] units kind at have fault = fault
trees_or_fault (tokens ∷ files) (end ∷ ends) [] kind at have fault = have
trees_or_fault (tokens ∷ files) (end ∷ ends) (unit ∷ units) kind at have (inl fault) =
    tree_or_fault tokens end unit kind at have.0 fault
trees_or_fault (tokens ∷ files) (end ∷ ends) (unit ∷ units) kind at have (inr (own, has, fault)) =
    trees_or_fault files ends units kind at have.1 fault

-- tokens have one tree
tree_once : (tokens : List Token) (a b : List ExternalTree) → HasTree tokens a → HasTree tokens b → a ≡ b
tree_once tokens a b p q = (one_tree tokens p.0 q.0 a b p.2 q.2).1

-- files have one tree each
pub trees_once : (files : List (List Token)) (a b : List (List ExternalTree)) → HaveTrees files a → HaveTrees files b
    → a ≡ b
trees_once [] [] [] p q = refl
trees_once [] [] (y ∷ b) p q = absurd q
trees_once [] (x ∷ a) b p q = absurd p
trees_once (tokens ∷ files) [] b p q = absurd p
trees_once (tokens ∷ files) (x ∷ a) [] p q = absurd q
trees_once (tokens ∷ files) (x ∷ a) (y ∷ b) p q =
    ap₂ (λ (t : List ExternalTree) (ts : List (List ExternalTree)). t ∷ ts) (tree_once tokens x y p.0 q.0)
    (trees_once files a b p.1 q.1)

-- ---- texts

-- texts with a lexical fault have at most 65,536 tokens before it
pub lexical_or_limit : (texts : List (List ℕ)) (fault : Fault) → HaveLexicalFault texts fault → HaveManyTokens texts → ⊥
lexical_or_limit texts fault (n, behind, few) many =
    omega (arith, stand_fewer_fault 0 texts 0x10001 n fault many behind, few)
