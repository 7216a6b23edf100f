-- What is read of a declaration is a tree of the rule, of exactly the tokens taken.
use Rattle.std.specs.List.{AllByRecursion}
use Rattle.std.proofs.Common.{◌≡◌, ℕ, suc, ◌≤◌, List, [], ◌∷◌, ◌++◌, length, length-append, Option, Some, None, refl}
use Rattle.std.proofs.Common.{ap, sym, ◌∙◌, arith, append_assoc}
use Rattle.std.proofs.lemmas.List.{append-nil}
use Rattle.pcc_base.specs.declared.span.Span.{Span}
use Rattle.pcc_base.proofs.Lists.{all-push}
use Rattle.c_lex.specs.declared.token.Token.{Token}
use Rattle.c_lex.specs.declared.token.TokenKind.{TokenKind}
use Rattle.c_lex.specs.declared.token.TokenKind.TheVariants as kinds
use Rattle.c_lex.specs.declared.token.Punct.{Punct}
use Rattle.c_lex.specs.declared.token.Punct.TheVariants as marks
use Rattle.c_syntax.specs.declared.expression.Identifier.{Identifier}
use Rattle.c_syntax.specs.declared.expression.Specifier.{Specifier}
use Rattle.c_syntax.specs.Marks.{mark, ident}
use Rattle.c_syntax.specs.Expressions.{Star, Expr, exprs_of}
use Rattle.c_syntax.specs.ExpressionTokens.{exprs_tokens, specifiers_tokens, pointer_tokens, exprs_height, looseness}
use Rattle.c_syntax.specs.ExpressionTokens.{IsExpr, AreValues, Separate, IsSpecifiers}
use Rattle.c_syntax.specs.Declarations.{ArrayTree, ParameterTree, PartTree, Function, DeclaratorTree, InitialiserTree}
use Rattle.c_syntax.specs.Declarations.{Braces, ValueTree, ItemTree, DeclarationTree}
use Rattle.c_syntax.specs.DeclarationTokens.{followed, separated, AreApart, greatest, maybe_expr_tokens, array_tokens}
use Rattle.c_syntax.specs.DeclarationTokens.{maybe_array_tokens, maybe_name_tokens, parameter_tokens}
use Rattle.c_syntax.specs.DeclarationTokens.{parameters_tokens, part_tokens, declarator_tokens, maybe_comma_tokens}
use Rattle.c_syntax.specs.DeclarationTokens.{initialiser_tokens, value_tokens, item_tokens, declaration_tokens}
use Rattle.c_syntax.specs.DeclarationTokens.{maybe_expr_height, maybe_array_height, parameter_height, part_height}
use Rattle.c_syntax.specs.DeclarationTokens.{initialiser_height, value_height, item_height, declaration_height}
use Rattle.c_syntax.specs.DeclarationTokens.{IsMaybeConditional, IsMaybeArray, IsParameter, IsPart, IsInitialiser}
use Rattle.c_syntax.specs.DeclarationTokens.{IsMaybeValue, IsItem, AreItems, IsDeclaration}
use Rattle.c_grammar.specs.Chains.{Takes, Reads, Found, Faults}
use Rattle.c_grammar.specs.Taking.{take_mark, take_specifiers, take_pointer}
use Rattle.c_grammar.specs.Taking.{read_mark}
use Rattle.c_grammar.specs.Reading.{Reader, Readers, Values}
use Rattle.c_grammar.proofs.Sound.{Holds, HoldsTaken, HoldsStep, holds_then, holds_above, step_then, holds_chain, mark_taken, mark_read}
use Rattle.c_grammar.proofs.Sound.{specifiers_taken}
use Rattle.c_grammar.proofs.Sound.{pointer_taken, Sound, SoundReader, SoundReaders, SoundValues, values_push}
use Rattle.c_grammar.proofs.Sound.{first_value}
use Rattle.c_grammar.specs.DeclarationReading.{Listed, list_at, list_step, read_more, name_from, take_name, maybe_from}
use Rattle.c_grammar.specs.DeclarationReading.{maybe_before, array_behind, maybe_array_from, read_maybe_array}
use Rattle.c_grammar.specs.DeclarationReading.{parameter_with, read_parameter, parameters_from, read_parameters}
use Rattle.c_grammar.specs.DeclarationReading.{parameters_behind, part_in_parens, part_from, read_part}
use Rattle.c_grammar.specs.DeclarationReading.{declarator_named, read_declarator, brace_close, brace_at, brace_step}
use Rattle.c_grammar.specs.DeclarationReading.{Braced, brace_behind, read_values, initialiser_from, read_initialiser, value_from}
use Rattle.c_grammar.specs.DeclarationReading.{item_behind, read_item, declaration_behind, declaration_with}
use Rattle.c_grammar.specs.DeclarationReading.{read_declaration}

-- ---- lists with commas

pub record SoundList {A : Type 0} (tokens : A → List Token) (P : A → Type 0) (ts : List Token) (l : Listed A)
    (us : List Token) : Type 0 where
  pub tokens_are : ts ≡ separated tokens l.0 l.1 ++ us
  pub all : AllByRecursion P l.0
  pub apart : AreApart l.0 l.1
  pub some : 1 ≤ length l.0

followed_push : {A : Type 0} (tokens : A → List Token) (xs : List A) (commas : List Span) (x : A) (at : Span)
    → length commas ≡ length xs → followed tokens (xs ++ x ∷ []) (commas ++ at ∷ [])
    ≡ followed tokens xs commas ++ mark marks.Comma at ∷ tokens x
followed_push tokens [] [] x at e = ap (λ ts. mark marks.Comma at ∷ ts) (append-nil (tokens x))
followed_push tokens [] (c ∷ cs) x at e = absurd (omega arith)
followed_push tokens (y ∷ ys) [] x at e = absurd (omega arith)
followed_push tokens (y ∷ ys) (c ∷ cs) x at e =
    ap (λ ts. mark marks.Comma c ∷ (tokens y ++ ts)) (followed_push tokens ys cs x at (omega arith))
    ∙ ap (λ ts. mark marks.Comma c ∷ ts) (sym
    (append_assoc (tokens y) (followed tokens ys cs) (mark marks.Comma at ∷ tokens x)))

pub list_push : {A : Type 0} (tokens : A → List Token) (P : A → Type 0) (ts : List Token) (xs : List A) (commas : List Span)
    (us vs ws : List Token) (at : Span) (x : A) →
    SoundList tokens P ts (xs, commas) us → us ≡ mark marks.Comma at ∷ vs → vs ≡ tokens x ++ ws → P x
    → SoundList tokens P ts (xs ++ x ∷ [], commas ++ at ∷ []) ws
list_push tokens P ts [] commas us vs ws at x s f g p = absurd (omega (arith, s.some))
list_push tokens P ts (y ∷ ys) commas us vs ws at x s f g p =
    record {
      tokens_are = s.tokens_are ∙ (ap (λ zs. (tokens y ++ followed tokens ys commas) ++ zs)
          (f ∙ ap (λ zs. mark marks.Comma at ∷ zs) g)
          ∙ (sym (append_assoc (tokens y ++ followed tokens ys commas) (mark marks.Comma at ∷ tokens x) ws)
          ∙ ap (λ zs. zs ++ ws) (append_assoc (tokens y) (followed tokens ys commas) (mark marks.Comma at ∷ tokens x)
          ∙ ap (λ zs. tokens y ++ zs) (sym (followed_push tokens ys commas x at s.apart)))));
      all = all-push P (y ∷ ys) x s.all p;
      apart = omega (arith, s.apart, length-append commas (at ∷ []), length-append ys (x ∷ []));
      some = omega arith;
    }

-- what is read of one element
abbrev pub One : {A : Type 0} → (A → List Token) → (A → Type 0) → List Token → A → List Token → Type 0
One tokens P ts x us = (ts ≡ tokens x ++ us) × P x

pub list_keeps : {A : Type 0} (tokens : A → List Token) (P : A → Type 0) (read : List Token → Reads A)
    → ((ts : List Token) → Holds (One tokens P ts) (read ts)) → (ts : List Token) (l : Listed A) (vs : List Token)
    → SoundList tokens P ts l vs → (o : Takes Span) → HoldsTaken (λ at ws. vs ≡ mark marks.Comma at ∷ ws) o
    → HoldsStep (SoundList tokens P ts) (list_at read l o)
list_keeps tokens P read sound ts l vs s None h = tt
list_keeps tokens P read sound ts l vs s (Some (at, ws)) h =
    step_then (One tokens P ws) (SoundList tokens P ts) (read ws) _ (sound ws)
    (λ y xs g. list_push tokens P ts l.0 l.1 vs ws xs at y s h g.0 g.1)

pub sound_more : {A : Type 0} (tokens : A → List Token) (P : A → Type 0) (read : List Token → Reads A)
    → ((ts : List Token) → Holds (One tokens P ts) (read ts)) → (ts : List Token) (x : A) (us : List Token)
    → One tokens P ts x us → Holds (SoundList tokens P ts) (read_more read x us)
sound_more tokens P read sound ts x us one =
    holds_chain (SoundList tokens P ts) (list_step read)
    (λ l vs s. list_keeps tokens P read sound ts l vs s (take_mark marks.Comma vs) (mark_taken marks.Comma vs))
    (length us) (x ∷ [], []) us
    (record {
      tokens_are = one.0 ∙ ap (λ zs. zs ++ us) (sym (append-nil (tokens x)));
      all = (one.1, tt);
      apart = refl;
      some = omega arith;
    })

-- ---- declarators

pub name_taken : (ts : List Token) → ts ≡ maybe_name_tokens (take_name ts).0 ++ (take_name ts).1
name_taken [] = refl
name_taken (t ∷ ts) = by_kind t.kind t.at
  where
    by_kind : (kind : TokenKind) (at : Span) → (let x : Token = record { kind = kind; at = at } in x ∷ ts
        ≡ maybe_name_tokens (name_from kind x ts).0 ++ (name_from kind x ts).1)
    by_kind (kinds.Ident name) at = refl
    by_kind (kinds.Word w) at = refl
    by_kind (kinds.Text bytes) at = refl
    by_kind (kinds.Number z u) at = refl
    by_kind (kinds.Mark n) at = refl

-- such an expression is so loose at most
abbrev pub MaybeIs : ℕ → Option Expr → Type 0
MaybeIs c None = Unit {0}
MaybeIs c (Some e) = IsExpr e × (looseness e ≤ c)

pub record SoundMaybe (c h : ℕ) (ts : List Token) (e : Option Expr) (us : List Token) : Type 0 where
  pub tokens : ts ≡ maybe_expr_tokens e ++ us
  pub fits : MaybeIs c e
  pub low : maybe_expr_height e ≤ h

pub sound_maybe : (c h : ℕ) (read : Reader) → SoundReader c h read → (m : Punct) (ts : List Token)
    → Holds (SoundMaybe c h ts) (maybe_before read m ts)
sound_maybe c h read sound m ts = under (take_mark m ts)
  where
    under : (o : Takes Span) → Holds (SoundMaybe c h ts) (maybe_from read o ts)
    under (Some close) = record { tokens = refl; fits = tt; low = omega arith }
    under None = holds_then (Sound c h ts) (SoundMaybe c h ts) (read ts) _ (sound ts)
        (λ e us s. record { tokens = s.tokens; fits = (s.is, s.loose); low = s.low })

pub conditional_is : (e : Option Expr) → MaybeIs 14 e → IsMaybeConditional e
conditional_is None is = tt
conditional_is (Some e) is = is

abbrev pub IsLowArray : ℕ → ArrayTree → Type 0
IsLowArray h a = IsMaybeConditional a.size × (maybe_expr_height a.size ≤ h)

pub sound_array : (n : ℕ) (b : Readers) → SoundReaders n b → (o : Span) (ts : List Token)
    → Holds (One array_tokens (IsLowArray n) (mark marks.LeftBracket o ∷ ts)) (array_behind b o ts)
sound_array n b sb o ts =
    holds_then (SoundMaybe 14 n ts) (One array_tokens (IsLowArray n) (mark marks.LeftBracket o ∷ ts))
    (maybe_before b.conditional marks.RightBracket ts) _
    (sound_maybe 14 n b.conditional sb.conditional marks.RightBracket ts) (λ size us s.
    holds_then (λ c vs. us ≡ mark marks.RightBracket c ∷ vs)
    (One array_tokens (IsLowArray n) (mark marks.LeftBracket o ∷ ts)) (read_mark marks.RightBracket us) _
    (mark_read marks.RightBracket us) (λ c vs g. (
      ap (λ zs. mark marks.LeftBracket o ∷ zs)
          (s.tokens ∙ (ap (λ zs. maybe_expr_tokens size ++ zs) g
          ∙ sym (append_assoc (maybe_expr_tokens size) (mark marks.RightBracket c ∷ []) vs))),
      (conditional_is size s.fits, s.low),
    )))

abbrev pub IsLowMaybeArray : ℕ → Option ArrayTree → Type 0
IsLowMaybeArray h a = IsMaybeArray a × (maybe_array_height a ≤ h)

pub sound_maybe_array : (n : ℕ) (b : Readers) → SoundReaders n b → (ts : List Token)
    → Holds (One maybe_array_tokens (IsLowMaybeArray n) ts) (read_maybe_array b ts)
sound_maybe_array n b sb ts = under (take_mark marks.LeftBracket ts) (mark_taken marks.LeftBracket ts)
  where
    under : (o : Takes Span) → HoldsTaken (λ at us. ts ≡ mark marks.LeftBracket at ∷ us) o
        → Holds (One maybe_array_tokens (IsLowMaybeArray n) ts) (maybe_array_from b o ts)
    under None h = (refl, (tt, omega arith))
    under (Some (o, us)) h =
        holds_then (One array_tokens (IsLowArray n) (mark marks.LeftBracket o ∷ us))
        (One maybe_array_tokens (IsLowMaybeArray n) ts) (array_behind b o us) _ (sound_array n b sb o us)
        (λ a vs g. (h ∙ g.0, g.1))

abbrev pub IsLowParameter : ℕ → ParameterTree → Type 0
IsLowParameter h p = IsParameter p × (parameter_height p ≤ h)

pub sound_parameter : (n : ℕ) (b : Readers) → SoundReaders n b → (ts : List Token)
    → Holds (One parameter_tokens (IsLowParameter n) ts) (read_parameter b ts)
sound_parameter n b sb ts = under (take_specifiers ts).0 (take_specifiers ts).1 (specifiers_taken ts)
  where
    under : (ss : List Specifier) (us : List Token) → ts ≡ specifiers_tokens ss ++ us
        → Holds (One parameter_tokens (IsLowParameter n) ts) (parameter_with b ss us)
    under [] us h = tt
    under (s ∷ ss) us h =
        (let pointer = take_pointer us in
        let name = take_name pointer.1 in
        holds_then (One maybe_array_tokens (IsLowMaybeArray n) name.1) (One parameter_tokens (IsLowParameter n) ts)
        (read_maybe_array b name.1) _ (sound_maybe_array n b sb name.1) (λ a vs g. (
          h ∙ (ap (λ zs. specifiers_tokens (s ∷ ss) ++ zs)
              (pointer_taken us ∙ (ap (λ zs. pointer_tokens pointer.0 ++ zs)
              (name_taken pointer.1 ∙ (ap (λ zs. maybe_name_tokens name.0 ++ zs) g.0
              ∙ sym (append_assoc (maybe_name_tokens name.0) (maybe_array_tokens a) vs)))
              ∙ sym (append_assoc (pointer_tokens pointer.0) (maybe_name_tokens name.0 ++ maybe_array_tokens a) vs)))
              ∙ sym (append_assoc (specifiers_tokens (s ∷ ss))
              (pointer_tokens pointer.0 ++ (maybe_name_tokens name.0 ++ maybe_array_tokens a)) vs)),
          ((tt, g.1.0), g.1.1),
        )))

-- elements that are so high at most
pub all_low : {A : Type 0} (P : A → Type 0) (height : A → ℕ) (h : ℕ) (xs : List A)
    → AllByRecursion (λ x. P x × (height x ≤ h)) xs → AllByRecursion P xs × (greatest height xs ≤ h)
all_low P height h [] all = (tt, omega arith)
all_low P height h (x ∷ xs) all = (let r = all_low P height h xs all.1 in ((all.0.0, r.0), omega (arith, all.0.1, r.1)))

abbrev pub IsLowPart : ℕ → PartTree → Type 0
IsLowPart h part = IsPart part × (part_height part ≤ h)

-- the parameters of a function
pub record SoundParameters (h : ℕ) (ts : List Token) (l : Listed ParameterTree) (us : List Token) : Type 0 where
  pub tokens_are : ts ≡ separated parameter_tokens l.0 l.1 ++ us
  pub all : AllByRecursion IsParameter l.0
  pub low : greatest parameter_height l.0 ≤ h
  pub apart : AreApart l.0 l.1

some_parameters : (h : ℕ) (ts : List Token) (r : Reads (Listed ParameterTree))
    → Holds (SoundList parameter_tokens (IsLowParameter h) ts) r → Holds (SoundParameters h ts) r
some_parameters h ts (Faults deep us) s = tt
some_parameters h ts (Found l us) s = (let r = all_low IsParameter parameter_height h l.0 s.all in
    record { tokens_are = s.tokens_are; all = r.0; low = r.1; apart = s.apart })

pub sound_parameters : (n : ℕ) (b : Readers) → SoundReaders n b → (ts : List Token)
    → Holds (SoundParameters n ts) (read_parameters b ts)
sound_parameters n b sb ts = under (take_mark marks.RightParen ts)
  where
    under : (o : Takes Span) → Holds (SoundParameters n ts) (parameters_from b o ts)
    under (Some close) = record { tokens_are = refl; all = tt; low = omega arith; apart = refl }
    under None =
        holds_then (One parameter_tokens (IsLowParameter n) ts) (SoundParameters n ts) (read_parameter b ts) _
        (sound_parameter n b sb ts) (λ p us g.
        some_parameters n ts (read_more (read_parameter b) p us)
        (sound_more parameter_tokens (IsLowParameter n) (read_parameter b) (sound_parameter n b sb) ts p us g))

pub sound_part : (n : ℕ) (b : Readers) → SoundReaders n b → (ts : List Token)
    → Holds (One part_tokens (IsLowPart n) ts) (read_part b ts)
sound_part n b sb ts = brackets (take_mark marks.LeftBracket ts) (mark_taken marks.LeftBracket ts)
  where
    parens : (o : Takes Span) → HoldsTaken (λ at us. ts ≡ mark marks.LeftParen at ∷ us) o
        → Holds (One part_tokens (IsLowPart n) ts) (part_in_parens b o ts)
    parens None h = (refl, (tt, omega arith))
    parens (Some (o, us)) h =
        holds_then (One parameters_tokens (λ p. IsLowPart n (Function p)) (mark marks.LeftParen o ∷ us))
        (One part_tokens (IsLowPart n) ts) (parameters_behind b o us) _
        (holds_then (SoundParameters n us) (One parameters_tokens (λ p. IsLowPart n (Function p))
        (mark marks.LeftParen o ∷ us)) (read_parameters b us) _ (sound_parameters n b sb us) (λ ps vs s.
        holds_then (λ c ws. vs ≡ mark marks.RightParen c ∷ ws)
        (One parameters_tokens (λ p. IsLowPart n (Function p)) (mark marks.LeftParen o ∷ us))
        (read_mark marks.RightParen vs) _ (mark_read marks.RightParen vs) (λ c ws g. (
          ap (λ zs. mark marks.LeftParen o ∷ zs) (s.tokens_are
              ∙ (ap (λ zs. separated parameter_tokens ps.0 ps.1 ++ zs) g
              ∙ sym (append_assoc (separated parameter_tokens ps.0 ps.1) (mark marks.RightParen c ∷ []) ws))),
          ((s.all, s.apart), s.low),
        ))))
        (λ p vs g. (h ∙ g.0, g.1))

    brackets : (o : Takes Span) → HoldsTaken (λ at us. ts ≡ mark marks.LeftBracket at ∷ us) o
        → Holds (One part_tokens (IsLowPart n) ts) (part_from b o ts)
    brackets None h = parens (take_mark marks.LeftParen ts) (mark_taken marks.LeftParen ts)
    brackets (Some (o, us)) h =
        holds_then (One array_tokens (IsLowArray n) (mark marks.LeftBracket o ∷ us)) (One part_tokens (IsLowPart n) ts)
        (array_behind b o us) _ (sound_array n b sb o us) (λ a vs g. (h ∙ g.0, g.1))

abbrev pub IsLowDeclarator : ℕ → DeclaratorTree → Type 0
IsLowDeclarator h d = IsLowPart h d.part

pub sound_declarator : (n : ℕ) (b : Readers) → SoundReaders n b → (ts : List Token)
    → Holds (One declarator_tokens (IsLowDeclarator n) ts) (read_declarator b ts)
sound_declarator n b sb ts = under (take_pointer ts).0 (take_pointer ts).1 (take_name (take_pointer ts).1).0
    (take_name (take_pointer ts).1).1 (pointer_taken ts) (name_taken (take_pointer ts).1)
  where
    under : (pointer : Option Star) (us : List Token) (name : Option Identifier) (vs : List Token) → ts
        ≡ pointer_tokens pointer ++ us → us ≡ maybe_name_tokens name ++ vs
        → Holds (One declarator_tokens (IsLowDeclarator n) ts) (declarator_named b pointer name vs)
    under pointer us None vs h k = tt
    under pointer us (Some name) vs h k =
        holds_then (One part_tokens (IsLowPart n) vs) (One declarator_tokens (IsLowDeclarator n) ts) (read_part b vs) _
        (sound_part n b sb vs) (λ part ws g. (
          h ∙ (ap (λ zs. pointer_tokens pointer ++ zs) (k ∙ ap (λ zs. ident name.name name.at ∷ zs) g.0)
              ∙ sym (append_assoc (pointer_tokens pointer) (ident name.name name.at ∷ part_tokens part) ws)),
          g.1,
        ))

-- ---- initialisers

-- values in braces, with the comma behind the last of them
pub record SoundBraced (h : ℕ) (ts : List Token) (braced : Braced) (us : List Token) : Type 0 where
  pub tokens : ts ≡ (exprs_tokens (exprs_of braced.0.0) braced.0.1 ++ maybe_comma_tokens braced.1) ++ us
  pub are : AreValues (exprs_of braced.0.0)
  pub apart : Separate (exprs_of braced.0.0) braced.0.1
  pub low : exprs_height (exprs_of braced.0.0) ≤ h
  pub some : 1 ≤ length braced.0.0

pub without_comma : (h : ℕ) (ts : List Token) (values : Values) (us : List Token) → SoundValues h ts values us
    → SoundBraced h ts (values, None) us
without_comma h ts values us s =
    record {
      tokens = s.tokens ∙ ap (λ zs. zs ++ us) (sym (append-nil (exprs_tokens (exprs_of values.0) values.1)));
      are = s.are;
      apart = s.apart;
      low = s.low;
      some = s.some;
    }

pub only_values : (h : ℕ) (ts : List Token) (values : Values) (us : List Token) → SoundBraced h ts (values, None) us
    → SoundValues h ts values us
only_values h ts values us s =
    record {
      tokens = s.tokens ∙ ap (λ zs. zs ++ us) (append-nil (exprs_tokens (exprs_of values.0) values.1));
      are = s.are;
      apart = s.apart;
      low = s.low;
      some = s.some;
    }

with_comma : (h : ℕ) (ts : List Token) (values : Values) (us vs : List Token) (at : Span) → SoundValues h ts values us
    → us ≡ mark marks.Comma at ∷ vs → SoundBraced h ts (values, Some at) vs
with_comma h ts values us vs at s e =
    (let before : List Token = exprs_tokens (exprs_of values.0) values.1 in
    record {
      tokens = s.tokens ∙ (ap (λ zs. before ++ zs) e ∙ sym (append_assoc before (mark marks.Comma at ∷ []) vs));
      are = s.are;
      apart = s.apart;
      low = s.low;
      some = s.some;
    })

pub sound_brace : (n : ℕ) (b : Readers) → SoundReaders n b → (ts : List Token) (values : Values) (trailing : Option Span)
    (us : List Token) → SoundBraced n ts (values, trailing) us
    → HoldsStep (SoundBraced n ts) (brace_behind b values trailing us)
sound_brace n b sb ts values (Some trailing) us s = tt
sound_brace n b sb ts values None us braced = under (take_mark marks.Comma us) (mark_taken marks.Comma us)
  where
    s : SoundValues n ts values us
    s = only_values n ts values us braced

    closes : (at : Span) (vs : List Token) → us ≡ mark marks.Comma at ∷ vs → (o : Takes Span)
        → HoldsStep (SoundBraced n ts) (brace_close b values at o vs)
    closes at vs h (Some close) = with_comma n ts values us vs at s h
    closes at vs h None = step_then (Sound 15 n vs) (SoundBraced n ts) (b.assignment vs) _ (sb.assignment vs)
        (λ e ws g. without_comma n ts (values.0 ++ e ∷ [], values.1 ++ at ∷ []) ws
        (values_push n ts values.0 values.1 us vs ws at e s h g))

    under : (o : Takes Span) → HoldsTaken (λ at vs. us ≡ mark marks.Comma at ∷ vs) o
        → HoldsStep (SoundBraced n ts) (brace_at b values o)
    under None h = tt
    under (Some (at, vs)) h = closes at vs h (take_mark marks.RightBrace vs)

pub sound_values : (n : ℕ) (b : Readers) → SoundReaders n b → (ts : List Token)
    → Holds (SoundBraced n ts) (read_values b ts)
sound_values n b sb ts = holds_then (Sound 15 n ts) (SoundBraced n ts) (b.assignment ts) _ (sb.assignment ts) (λ e us s.
    holds_chain (SoundBraced n ts) (brace_step b) (λ a ws g. sound_brace n b sb ts a.0 a.1 ws g) (length us)
    ((e ∷ [], []), None) us (without_comma n ts (e ∷ [], []) us (first_value n ts e us s)))

abbrev pub IsLowInitialiser : ℕ → InitialiserTree → Type 0
IsLowInitialiser h i = IsInitialiser i × (initialiser_height i ≤ h)

pub braces_are : (n : ℕ) (o : Span) (es : List Expr) (commas : List Span) (trailing : Option Span) (c : Span)
    → 1 ≤ length es → AreValues (exprs_of es) → Separate (exprs_of es) commas → exprs_height (exprs_of es) ≤ n
    → IsLowInitialiser n (Braces o (exprs_of es) commas trailing c)
braces_are n o [] commas trailing c some are apart low = absurd (omega arith)
braces_are n o (e ∷ es) commas trailing c some are apart low = ((are, apart), low)

pub sound_initialiser : (n : ℕ) (b : Readers) → SoundReaders n b → (ts : List Token)
    → Holds (One initialiser_tokens (IsLowInitialiser n) ts) (read_initialiser b ts)
sound_initialiser n b sb ts = under (take_mark marks.LeftBrace ts) (mark_taken marks.LeftBrace ts)
  where
    under : (o : Takes Span) → HoldsTaken (λ at us. ts ≡ mark marks.LeftBrace at ∷ us) o
        → Holds (One initialiser_tokens (IsLowInitialiser n) ts) (initialiser_from b o ts)
    under None h = holds_then (Sound 15 n ts) (One initialiser_tokens (IsLowInitialiser n) ts) (b.assignment ts) _
        (sb.assignment ts) (λ e us s. (s.tokens, ((s.is, s.loose), s.low)))
    under (Some (o, us)) h =
        holds_then (SoundBraced n us) (One initialiser_tokens (IsLowInitialiser n) ts) (read_values b us) _
        (sound_values n b sb us) (λ braced ws g.
        holds_then (λ c xs. ws ≡ mark marks.RightBrace c ∷ xs) (One initialiser_tokens (IsLowInitialiser n) ts)
        (read_mark marks.RightBrace ws) _ (mark_read marks.RightBrace ws) (λ c xs k.
        (let values : List Token = exprs_tokens (exprs_of braced.0.0) braced.0.1 in
        let comma : List Token = maybe_comma_tokens braced.1 in (
          h ∙ ap (λ zs. mark marks.LeftBrace o ∷ zs)
              (g.tokens ∙ (ap (λ zs. (values ++ comma) ++ zs) k
              ∙ (append_assoc values comma (mark marks.RightBrace c ∷ xs)
              ∙ (ap (λ zs. values ++ zs) (sym (append_assoc comma (mark marks.RightBrace c ∷ []) xs))
              ∙ sym (append_assoc values (comma ++ mark marks.RightBrace c ∷ []) xs))))),
          braces_are n o braced.0.0 braced.0.1 braced.1 c g.some g.are g.apart g.low,
        ))))

-- ---- items and declarations

abbrev pub IsLowValue : ℕ → Option ValueTree → Type 0
IsLowValue h v = IsMaybeValue v × (value_height v ≤ h)

pub sound_value_part : (n : ℕ) (b : Readers) → SoundReaders n b → (ts : List Token)
    → Holds (One value_tokens (IsLowValue n) ts) (value_from b (take_mark marks.Equal ts) ts)
sound_value_part n b sb ts = under (take_mark marks.Equal ts) (mark_taken marks.Equal ts)
  where
    under : (o : Takes Span) → HoldsTaken (λ at us. ts ≡ mark marks.Equal at ∷ us) o
        → Holds (One value_tokens (IsLowValue n) ts) (value_from b o ts)
    under None h = (refl, (tt, omega arith))
    under (Some (at, us)) h =
        holds_above (One initialiser_tokens (IsLowInitialiser n) us) (One value_tokens (IsLowValue n) ts) 0 b.height _ us
        (read_initialiser b us) _ (sound_initialiser n b sb us) (λ v vs some g. (h ∙ ap (λ zs. mark marks.Equal at ∷ zs) g.0, g.1))

abbrev pub IsLowItem : ℕ → ItemTree → Type 0
IsLowItem h i = IsItem i × (item_height i ≤ h)

pub sound_item_behind : (n : ℕ) (b : Readers) → SoundReaders n b → (ts : List Token) (d : DeclaratorTree) (us : List Token)
    → One declarator_tokens (IsLowDeclarator n) ts d us → Holds (One item_tokens (IsLowItem n) ts) (item_behind b d us)
sound_item_behind n b sb ts d us s =
    holds_then (One value_tokens (IsLowValue n) us) (One item_tokens (IsLowItem n) ts)
    (value_from b (take_mark marks.Equal us) us) _ (sound_value_part n b sb us) (λ v vs g. (
      s.0 ∙ (ap (λ zs. declarator_tokens d ++ zs) g.0 ∙ sym (append_assoc (declarator_tokens d) (value_tokens v) vs)),
      ((s.1.0, g.1.0), omega (arith, s.1.1, g.1.1)),
    ))

pub sound_item : (n : ℕ) (b : Readers) → SoundReaders n b → (ts : List Token)
    → Holds (One item_tokens (IsLowItem n) ts) (read_item b ts)
sound_item n b sb ts = holds_then (One declarator_tokens (IsLowDeclarator n) ts) (One item_tokens (IsLowItem n) ts)
    (read_declarator b ts) _ (sound_declarator n b sb ts) (λ d us s. sound_item_behind n b sb ts d us s)

abbrev pub IsLowDeclaration : ℕ → DeclarationTree → Type 0
IsLowDeclaration h d = IsDeclaration d × (declaration_height d ≤ h)

pub items_are : (is : List ItemTree) → 1 ≤ length is → AllByRecursion IsItem is → AreItems is
items_are [] some all = absurd (omega arith)
items_are (i ∷ is) some all = all

-- a declaration behind its specifiers and its first declarator
pub sound_declaration_behind : (n : ℕ) (b : Readers) → SoundReaders n b
    → (ts : List Token) (ss : List Specifier) (us : List Token) (d : DeclaratorTree) (vs : List Token) → IsSpecifiers ss
    → ts ≡ specifiers_tokens ss ++ us → One declarator_tokens (IsLowDeclarator n) us d vs →
    Holds (One declaration_tokens (IsLowDeclaration (suc n)) ts) (declaration_behind b ss d vs)
sound_declaration_behind n b sb ts ss us d vs is h s =
    holds_then (One item_tokens (IsLowItem n) us) (One declaration_tokens (IsLowDeclaration (suc n)) ts)
    (item_behind b d vs) _ (sound_item_behind n b sb us d vs s) (λ i ws g.
    holds_then (SoundList item_tokens (IsLowItem n) us) (One declaration_tokens (IsLowDeclaration (suc n)) ts)
    (read_more (read_item b) i ws) _ (sound_more item_tokens (IsLowItem n) (read_item b) (sound_item n b sb) us i ws
    g) (λ items xs k.
    holds_then (λ c ys. xs ≡ mark marks.Semicolon c ∷ ys) (One declaration_tokens (IsLowDeclaration (suc n)) ts)
    (read_mark marks.Semicolon xs) _ (mark_read marks.Semicolon xs) (λ c ys m.
    (let r = all_low IsItem item_height n items.0 k.all in (
      h ∙ (ap (λ zs. specifiers_tokens ss ++ zs)
          (k.tokens_are ∙ (ap (λ zs. separated item_tokens items.0 items.1 ++ zs) m
          ∙ sym (append_assoc (separated item_tokens items.0 items.1) (mark marks.Semicolon c ∷ []) ys)))
          ∙ sym (append_assoc (specifiers_tokens ss)
          (separated item_tokens items.0 items.1 ++ mark marks.Semicolon c ∷ []) ys)),
      ((is, items_are items.0 k.some r.0, k.apart), omega (arith, r.1)),
    )))))

pub sound_declaration : (n : ℕ) (b : Readers) → SoundReaders n b → (ts : List Token)
    → Holds (One declaration_tokens (IsLowDeclaration (suc n)) ts) (read_declaration b ts)
sound_declaration n b sb ts = under (take_specifiers ts).0 (take_specifiers ts).1 (specifiers_taken ts)
  where
    under : (ss : List Specifier) (us : List Token) → ts ≡ specifiers_tokens ss ++ us
        → Holds (One declaration_tokens (IsLowDeclaration (suc n)) ts) (declaration_with b ss us)
    under [] us h = tt
    under (s ∷ ss) us h = holds_then (One declarator_tokens (IsLowDeclarator n) us)
        (One declaration_tokens (IsLowDeclaration (suc n)) ts) (read_declarator b us) _ (sound_declarator n b sb us)
        (λ d vs g. sound_declaration_behind n b sb ts (s ∷ ss) us d vs tt h g)
