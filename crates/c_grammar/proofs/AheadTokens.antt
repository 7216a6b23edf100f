-- What is taken of a kind, and a row of tokens: each rests on the next token alone.
use Rattle.std.proofs.Common.{◌≡◌, ℕ, Bool, true, false, List, [], ◌∷◌, Option, Some, None, if◌then◌else◌}
use Rattle.std.proofs.Common.{refl, ap, ◌∙◌, subst}
use Rattle.pcc_base.specs.declared.span.Span.{Span}
use Rattle.pcc_base.specs.declared.keyword.Keyword.{Keyword}
use Rattle.pcc_base.specs.declared.keyword.Keyword.TheVariants as words
use Rattle.c_lex.specs.declared.token.Token.{Token}
use Rattle.c_lex.specs.declared.token.TokenKind.{TokenKind}
use Rattle.c_lex.specs.declared.token.TokenKind.TheVariants as kinds
use Rattle.c_lex.specs.declared.token.Punct.{Punct}
use Rattle.c_lex.specs.declared.token.Punct.TheVariants as marks
use Rattle.c_syntax.specs.declared.operator.BinaryOp.{BinaryOp}
use Rattle.c_syntax.specs.declared.operator.UnaryOp.{UnaryOp}
use Rattle.c_syntax.specs.declared.operator.StepOp.{StepOp}
use Rattle.c_syntax.specs.declared.operator.AssignOp.{AssignOp}
use Rattle.c_syntax.specs.declared.operator.SpecifierWord.{SpecifierWord}
use Rattle.c_syntax.specs.declared.expression.Identifier.{Identifier as Ident}
use Rattle.c_syntax.specs.declared.expression.Specifier.{Specifier}
use Rattle.c_syntax.specs.declared.expression.TextPiece.{TextPiece}
use Rattle.c_syntax.specs.Marks.{mark, word, binary_mark, unary_mark, step_mark, assign_mark}
use Rattle.c_syntax.specs.ExpressionTokens.{binary_level}
use Rattle.c_grammar.specs.Taking.{is_mark, is_word, of_mark, binary_of_mark, unary_of_mark, step_of_mark}
use Rattle.c_grammar.specs.Taking.{assign_of_mark}
use Rattle.c_grammar.specs.Taking.{specifier_of, at_level, taken, take_unary, take_step, take_assign, take_binary}
use Rattle.c_grammar.specs.Taking.{take_mark, take_word, with_front, texts_from, take_texts, specifiers_from}
use Rattle.c_grammar.specs.Taking.{take_specifiers, take_consts, pointer_from, take_pointer}
use Rattle.c_grammar.specs.Chains.{Takes, Reads, Found, needed}
use Rattle.c_grammar.specs.Taking.{read_mark, read_word}
use Rattle.c_grammar.specs.DeclarationReading.{name_from, take_name}
use Rattle.c_grammar.specs.Laws.{Kept, Ahead}
use Rattle.c_grammar.proofs.Sound.{HoldsTaken, mark_taken, word_taken, unary_taken, step_taken, assign_taken}
use Rattle.c_grammar.proofs.Sound.{binary_taken}
use Rattle.c_grammar.proofs.Ahead.{Single, Fitting, Misses, Fits, Row, RowFit, Ends, More, row_of, Eats, Reading}
use Rattle.c_grammar.proofs.Ahead.{found_ahead, faults_ahead, ahead_then, ahead_choice, ahead_row}
use Rattle.c_grammar.proofs.Ahead.{eats_choice}
use Rattle.c_grammar.proofs.Ahead.{token_alike, nothing_alike, behind_kept, behind_same}

-- ---- one token

abbrev given : {K : Type 0} → Option K → List Token → Takes K
given None us = None
given (Some k) us = Some (k, us)

abbrev first : Token → List Token → Token
first d [] = d
first d (t ∷ ts) = t

single : {K : Type 0} (spell : K → Token) (take : List Token → Takes K) → take [] ≡ None
    → ((ts : List Token) → HoldsTaken (λ k us. ts ≡ spell k ∷ us) (take ts)) → (look : Token → Option K)
    → ((t : Token) (us : List Token) → take (t ∷ us) ≡ given (look t) us) → Single K spell take
single {K} spell take n h look e = record { nothing = n; token = λ t. under t (look t) refl }
  where
    is : (t : Token) (k : K) → look t ≡ Some k → t ∷ [] ≡ spell k ∷ []
    is t k l = subst (λ o. HoldsTaken (λ x us. t ∷ [] ≡ spell x ∷ us) o) (e t [] ∙ ap (λ o. given o []) l) (h (t ∷ []))

    under : (t : Token) (o : Option K) → look t ≡ o → Fitting K spell take t
    under t None l = Misses (λ us. e t us ∙ ap (λ o. given o us) l)
    under t (Some k) l = Fits k (ap (first t) (is t k l)) (λ us. e t us ∙ ap (λ o. given o us) l)

by_test : {K : Type 0} (b : Bool) (k : K) (us : List Token)
    → (let o : Takes K = if b then Some (k, us) else None in let p : Option K = if b then Some k else None in
    o ≡ given p us)
by_test true k us = refl
by_test false k us = refl

pub mark_single : (m : Punct) → Single Span (mark m) (take_mark m)
mark_single m = single (mark m) (take_mark m) refl (mark_taken m)
    (λ t. if is_mark m t.kind then Some t.at else None) (λ t us. by_test (is_mark m t.kind) t.at us)

pub word_single : (w : Keyword) → Single Span (word w) (take_word w)
word_single w = single (word w) (take_word w) refl (word_taken w)
    (λ t. if is_word w t.kind then Some t.at else None) (λ t us. by_test (is_word w t.kind) t.at us)

abbrev paired : {A : Type 0} → Option A → Span → Option (A × Span)
paired None at = None
paired (Some a) at = Some (a, at)

by_table : {A : Type 0} (o : Option A) (at : Span) (us : List Token) → taken o at us ≡ given (paired o at) us
by_table None at us = refl
by_table (Some a) at us = refl

abbrev pub spell_unary : UnaryOp × Span → Token
spell_unary a = mark (unary_mark a.0) a.1

abbrev pub spell_step : StepOp × Span → Token
spell_step a = mark (step_mark a.0) a.1

abbrev pub spell_assign : AssignOp × Span → Token
spell_assign a = mark (assign_mark a.0) a.1

abbrev pub spell_binary : BinaryOp × Span → Token
spell_binary a = mark (binary_mark a.0) a.1

pub unary_single : Single (UnaryOp × Span) spell_unary take_unary
unary_single = single spell_unary take_unary refl unary_taken
    (λ t. paired (of_mark unary_of_mark t.kind) t.at) (λ t us. by_table (of_mark unary_of_mark t.kind) t.at us)

pub step_single : Single (StepOp × Span) spell_step take_step
step_single = single spell_step take_step refl step_taken
    (λ t. paired (of_mark step_of_mark t.kind) t.at) (λ t us. by_table (of_mark step_of_mark t.kind) t.at us)

pub assign_single : Single (AssignOp × Span) spell_assign take_assign
assign_single = single spell_assign take_assign refl assign_taken
    (λ t. paired (of_mark assign_of_mark t.kind) t.at) (λ t us. by_table (of_mark assign_of_mark t.kind) t.at us)

level_token : (k : ℕ) (ts : List Token) (o : Takes (BinaryOp × Span))
    → HoldsTaken (λ a us. (ts ≡ spell_binary a ∷ us) × (binary_level a.0 ≡ k)) o
    → HoldsTaken (λ a us. ts ≡ spell_binary a ∷ us) o
level_token k ts None h = tt
level_token k ts (Some (a, us)) h = h.0

pub binary_single : (k : ℕ) → Single (BinaryOp × Span) spell_binary (take_binary k)
binary_single k = single spell_binary (take_binary k) refl
    (λ ts. level_token k ts (take_binary k ts) (binary_taken k ts))
    (λ t. paired (at_level k (of_mark binary_of_mark t.kind)) t.at)
    (λ t us. by_table (at_level k (of_mark binary_of_mark t.kind)) t.at us)

pub mark_ahead : (m : Punct) → Ahead (read_mark m)
mark_ahead m = ahead_choice (mark m) (take_mark m) (mark_single m) (λ o ts. needed ts o) (faults_ahead false)
    (λ k. Reading (found_ahead k))

pub mark_eats : (m : Punct) → Eats (read_mark m)
mark_eats m = eats_choice (mark m) (take_mark m) (mark_single m) (λ o ts. needed ts o) (λ ts. tt)
    (λ k. Reading (found_ahead k))

pub word_ahead : (w : Keyword) → Ahead (read_word w)
word_ahead w = ahead_choice (word w) (take_word w) (word_single w) (λ o ts. needed ts o) (faults_ahead false)
    (λ k. Reading (found_ahead k))

-- ---- rows

texts_fit : (t : Token) (kind : TokenKind) → t.kind ≡ kind → RowFit TextPiece take_texts t
texts_fit t (kinds.Text bytes) e =
    More (record { bytes = bytes; at = t.at }) (λ us. ap (λ k. texts_from k t us (take_texts us)) e)
texts_fit t (kinds.Word w) e = Ends (λ us. ap (λ k. texts_from k t us (take_texts us)) e)
texts_fit t (kinds.Ident name) e = Ends (λ us. ap (λ k. texts_from k t us (take_texts us)) e)
texts_fit t (kinds.Number z u) e = Ends (λ us. ap (λ k. texts_from k t us (take_texts us)) e)
texts_fit t (kinds.Mark m) e = Ends (λ us. ap (λ k. texts_from k t us (take_texts us)) e)

pub texts_row : Row TextPiece take_texts
texts_row = record { nothing = refl; token = λ t. texts_fit t t.kind refl }

specifiers_fit : (t : Token) (o : Option SpecifierWord) → specifier_of t.kind ≡ o → RowFit Specifier take_specifiers t
specifiers_fit t None e = Ends (λ us. ap (λ o. specifiers_from o t us (take_specifiers us)) e)
specifiers_fit t (Some w) e =
    More (record { word = w; at = t.at }) (λ us. ap (λ o. specifiers_from o t us (take_specifiers us)) e)

pub specifiers_row : Row Specifier take_specifiers
specifiers_row = record { nothing = refl; token = λ t. specifiers_fit t (specifier_of t.kind) refl }

abbrev consts_from : Bool → Token → List Token → List Span × List Token
consts_from b t ts = if b then with_front t.at (take_consts ts) else ([], t ∷ ts)

consts_fit : (t : Token) (b : Bool) → is_word words.Const t.kind ≡ b → RowFit Span take_consts t
consts_fit t false e = Ends (λ us. ap (λ b. consts_from b t us) e)
consts_fit t true e = More t.at (λ us. ap (λ b. consts_from b t us) e)

pub consts_row : Row Span take_consts
consts_row = record { nothing = refl; token = λ t. consts_fit t (is_word words.Const t.kind) refl }

pub texts_ahead : Ahead (row_of take_texts)
texts_ahead = ahead_row take_texts texts_row

pub specifiers_ahead : Ahead (row_of take_specifiers)
specifiers_ahead = ahead_row take_specifiers specifiers_row

pub consts_ahead : Ahead (row_of take_consts)
consts_ahead = ahead_row take_consts consts_row

pub pointer_ahead : Ahead (row_of take_pointer)
pointer_ahead = ahead_choice (mark marks.Star) (take_mark marks.Star) (mark_single marks.Star)
    (λ o ts. row_of (pointer_from o) ts) (found_ahead None)
    (λ star. Reading (ahead_then (row_of take_consts) (λ cs us. Found (Some (record { star = star; consts = cs })) us)
    consts_ahead (λ cs. found_ahead (Some (record { star = star; consts = cs })))))

abbrev named : TokenKind → Token → List Token → Reads (Option Ident)
named kind t ts = Found (name_from kind t ts).0 (name_from kind t ts).1

name_kept : (t : Token) (us : List Token) (kind : TokenKind) → t.kind ≡ kind
    → Kept (row_of take_name) (t ∷ us) (row_of take_name (t ∷ us))
name_kept t us (kinds.Ident name) e =
    (let n : Ident = record { name = name; at = t.at } in
    behind_kept (row_of take_name) t us (behind_same t (λ xs. Found (Some n) xs) (λ xs. row_of take_name (t ∷ xs))
    (λ xs. ap (λ k. named k t xs) e) (Reading (found_ahead (Some n)))))
name_kept t us (kinds.Word w) e =
    token_alike (row_of take_name) (λ xs. Found None xs) t us (λ xs. ap (λ k. named k t xs) e)
    (found_ahead None (t ∷ us))
name_kept t us (kinds.Text bytes) e =
    token_alike (row_of take_name) (λ xs. Found None xs) t us (λ xs. ap (λ k. named k t xs) e)
    (found_ahead None (t ∷ us))
name_kept t us (kinds.Number z u) e =
    token_alike (row_of take_name) (λ xs. Found None xs) t us (λ xs. ap (λ k. named k t xs) e)
    (found_ahead None (t ∷ us))
name_kept t us (kinds.Mark m) e =
    token_alike (row_of take_name) (λ xs. Found None xs) t us (λ xs. ap (λ k. named k t xs) e)
    (found_ahead None (t ∷ us))

pub name_ahead : Ahead (row_of take_name)
name_ahead [] = nothing_alike (row_of take_name) (λ xs. Found None xs) refl (found_ahead None [])
name_ahead (t ∷ us) = name_kept t us t.kind refl
