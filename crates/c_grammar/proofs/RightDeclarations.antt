-- What was taken of a declaration before a fault begins one, of at most that height.
use Rattle.std.specs.List.{AllByRecursion}
use Rattle.std.proofs.Common.{◌≡◌, ℕ, suc, ◌≤◌, inl, inr, List, [], ◌∷◌, ◌++◌, length, Option, Some, None, refl}
use Rattle.std.proofs.Common.{ap, sym, ◌∙◌, arith, append_assoc}
use Rattle.std.proofs.lemmas.List.{append-nil}
use Rattle.pcc_base.specs.declared.span.Span.{Span}
use Rattle.c_lex.specs.declared.token.Token.{Token}
use Rattle.c_lex.specs.declared.token.Punct.{Punct}
use Rattle.c_lex.specs.declared.token.Punct.TheVariants as marks
use Rattle.c_syntax.specs.declared.operator.SpecifierWord.TheVariants as specifier
use Rattle.c_syntax.specs.declared.expression.Identifier.{Identifier}
use Rattle.c_syntax.specs.declared.expression.Specifier.{Specifier}
use Rattle.c_syntax.specs.Marks.{mark}
use Rattle.c_syntax.specs.Expressions.{Star, Expr, exprs_of}
use Rattle.c_syntax.specs.ExpressionTokens.{exprs_tokens, specifiers_tokens, pointer_tokens, exprs_height}
use Rattle.c_syntax.specs.ExpressionTokens.{AreValues, Separate, IsSpecifiers}
use Rattle.c_syntax.specs.Declarations.{ParameterTree, Plain, Array, Function, DeclaratorTree}
use Rattle.c_syntax.specs.Declarations.{Single, Braces}
use Rattle.c_syntax.specs.DeclarationTokens.{separated, AreApart, greatest, maybe_expr_tokens, maybe_expr_height}
use Rattle.c_syntax.specs.DeclarationTokens.{array_tokens, maybe_array_tokens, maybe_name_tokens, parameter_tokens}
use Rattle.c_syntax.specs.DeclarationTokens.{part_tokens, declarator_tokens, maybe_comma_tokens, initialiser_tokens}
use Rattle.c_syntax.specs.DeclarationTokens.{value_tokens, item_tokens, declaration_tokens, parameter_height}
use Rattle.c_syntax.specs.DeclarationTokens.{item_height, IsParameter, IsItem}
use Rattle.c_grammar.specs.Chains.{Takes, Reads}
use Rattle.c_grammar.specs.Taking.{take_mark, take_specifiers, take_pointer}
use Rattle.c_grammar.specs.Reading.{Reader, Readers, Values}
use Rattle.c_grammar.specs.DeclarationReading.{Listed, list_at, list_step, read_more, take_name, maybe_from}
use Rattle.c_grammar.specs.DeclarationReading.{maybe_before, array_behind, maybe_array_from, read_maybe_array}
use Rattle.c_grammar.specs.DeclarationReading.{parameter_with, read_parameter, parameters_from, read_parameters}
use Rattle.c_grammar.specs.DeclarationReading.{parameters_behind, part_in_parens, part_from, read_part}
use Rattle.c_grammar.specs.DeclarationReading.{declarator_named, read_declarator, brace_close, brace_at}
use Rattle.c_grammar.specs.DeclarationReading.{brace_step}
use Rattle.c_grammar.specs.DeclarationReading.{Braced, brace_behind, read_values, initialiser_from}
use Rattle.c_grammar.specs.DeclarationReading.{read_initialiser, value_from, item_behind, read_item}
use Rattle.c_grammar.specs.DeclarationReading.{declaration_behind, declaration_with, read_declaration}
use Rattle.c_grammar.proofs.Sound.{Holds, HoldsTaken, mark_taken, specifiers_taken, pointer_taken}
use Rattle.c_grammar.proofs.Sound.{Sound, SoundReaders, SoundValues, first_value}
use Rattle.c_grammar.proofs.SoundDeclarations.{SoundList, list_push, list_keeps, One, name_taken, MaybeIs}
use Rattle.c_grammar.proofs.SoundDeclarations.{SoundMaybe}
use Rattle.c_grammar.proofs.SoundDeclarations.{sound_more, sound_maybe, conditional_is, IsLowArray}
use Rattle.c_grammar.proofs.SoundDeclarations.{IsLowMaybeArray}
use Rattle.c_grammar.proofs.SoundDeclarations.{IsLowParameter, all_low, IsLowPart, SoundParameters}
use Rattle.c_grammar.proofs.SoundDeclarations.{sound_parameter}
use Rattle.c_grammar.proofs.SoundDeclarations.{sound_parameters, IsLowDeclarator, sound_declarator}
use Rattle.c_grammar.proofs.SoundDeclarations.{SoundBraced, only_values, sound_brace, sound_values, without_comma}
use Rattle.c_grammar.proofs.SoundDeclarations.{IsLowInitialiser, braces_are, sound_initialiser, IsLowValue}
use Rattle.c_grammar.proofs.SoundDeclarations.{IsLowItem, sound_item_behind, sound_item}
use Rattle.c_grammar.proofs.SoundDeclarations.{IsLowDeclaration, items_are}
use Rattle.c_grammar.proofs.Right.{s_here, s_all, s_cons, s_left, s_app, s_eq, s_to, Begun, here, Falls}
use Rattle.c_grammar.proofs.Right.{FallsStep, falls_map, falls_then, step_falls_then, falls_mark, falls_chain}
use Rattle.c_grammar.proofs.Right.{falls_room, falls_last}
use Rattle.c_grammar.proofs.RightExpressions.{ExprBegun, ExprStarts, RightReader, RightReaders, begun, SomeBegun}
use Rattle.c_grammar.proofs.RightExpressions.{push_begun, values_some}

-- ---- an expression that may be left out

abbrev pub MaybeLow : ℕ → ℕ → Option Expr → Type 0
MaybeLow c h e = MaybeIs c e × (maybe_expr_height e ≤ h)

abbrev pub MaybeBegun : ℕ → ℕ → List Token → List Token → Type 0
MaybeBegun c h ts us = Begun maybe_expr_tokens (MaybeLow c h) ts us

pub right_maybe : (c h : ℕ) (read : Reader) → RightReader c h read → (m : Punct) (ts : List Token)
    → Falls (MaybeBegun c h ts) (maybe_before read m ts)
right_maybe c h read right m ts = under (take_mark m ts)
  where
    maybe : (us : List Token) → ExprStarts c h ts us → MaybeBegun c h ts us
    maybe us (inl e) = (None, s_here e, (tt, omega arith))
    maybe us (inr (e, swap, (is, loose, low))) = (Some e, swap, ((is, loose), low))

    under : (o : Takes Span) → Falls (MaybeBegun c h ts) (maybe_from read o ts)
    under (Some close) = tt
    under None = falls_last (ExprStarts c h ts) (MaybeBegun c h ts) (read ts) (λ e. Some e) (right ts) maybe

-- ---- lists with commas

abbrev AllApart : {A : Type 0} → (A → Type 0) → Listed A → Type 0
AllApart P l = AllByRecursion P l.0 × AreApart l.0 l.1 × (1 ≤ length l.0)

abbrev list_tokens : {A : Type 0} → (A → List Token) → Listed A → List Token
list_tokens tokens l = separated tokens l.0 l.1

abbrev ListBegun : {A : Type 0} → (A → List Token) → (A → Type 0) → List Token → List Token → Type 0
ListBegun tokens P ts us = Begun (list_tokens tokens) (AllApart P) ts us

list_begun : {A : Type 0} (tokens : A → List Token) (P : A → Type 0) (ts : List Token) (xs : List A)
    (commas : List Span) (us vs zs : List Token) (at : Span) → SoundList tokens P ts (xs, commas) us
    → us ≡ mark marks.Comma at ∷ vs → Begun tokens P vs zs → ListBegun tokens P ts zs
list_begun tokens P ts xs commas us vs zs at s f (y, swap, p) =
    (let full : List Token = separated tokens xs commas in
    let tail : List Token = tokens y ++ [] in
    let old : SoundList tokens P (full ++ mark marks.Comma at ∷ tail) (xs, commas) (mark marks.Comma at ∷ tail) =
    record { tokens_are = refl; all = s.all; apart = s.apart; some = s.some } in
    let g = list_push tokens P (full ++ mark marks.Comma at ∷ tail) xs commas (mark marks.Comma at ∷ tail) tail [] at y
    old refl refl p in (
      (xs ++ y ∷ [], commas ++ at ∷ []),
      s_to (g.tokens_are ∙ append-nil (separated tokens (xs ++ y ∷ []) (commas ++ at ∷ [])))
          (s_eq s.tokens_are (s_left full (s_eq f (s_cons (s_app [] swap))))),
      (g.all, g.apart, g.some),
    ))

right_more : {A : Type 0} (tokens : A → List Token) (P : A → Type 0) (read : List Token → Reads A)
    → ((ts : List Token) → Holds (One tokens P ts) (read ts))
    → ((ts : List Token) → Falls (Begun tokens P ts) (read ts)) → (ts : List Token) (x : A) (us : List Token)
    → One tokens P ts x us → Falls (ListBegun tokens P ts) (read_more read x us)
right_more {A} tokens P read sound right ts x us one =
    falls_chain (SoundList tokens P ts) (ListBegun tokens P ts) (list_step read)
    (λ l vs s. list_keeps tokens P read sound ts l vs s (take_mark marks.Comma vs) (mark_taken marks.Comma vs))
    (λ l vs s. turn l vs s (take_mark marks.Comma vs) (mark_taken marks.Comma vs))
    (λ l vs s. (l, s_all s.tokens_are, (s.all, s.apart, s.some))) (length us) (x ∷ [], []) us
    (record {
      tokens_are = one.0 ∙ ap (λ zs. zs ++ us) (sym (append-nil (tokens x)));
      all = (one.1, tt);
      apart = refl;
      some = omega arith;
    })
  where
    turn : (l : Listed A) (vs : List Token) → SoundList tokens P ts l vs → (o : Takes Span)
        → HoldsTaken (λ at ws. vs ≡ mark marks.Comma at ∷ ws) o → FallsStep (ListBegun tokens P ts) (list_at read l o)
    turn l vs s None h = tt
    turn l vs s (Some (at, ws)) h = step_falls_then (One tokens P ws) (Begun tokens P ws) (ListBegun tokens P ts)
        (read ws) _ (sound ws) (right ws) (λ zs g. list_begun tokens P ts l.0 l.1 vs ws zs at s h g) (λ y xs g. tt)

-- ---- declarators

abbrev ArrayBegun : ℕ → List Token → List Token → Type 0
ArrayBegun n ts us = Begun array_tokens (IsLowArray n) ts us

right_array : (n : ℕ) (b : Readers) → SoundReaders n b → RightReaders n b → (o : Span) (ts : List Token)
    → Falls (ArrayBegun n (mark marks.LeftBracket o ∷ ts)) (array_behind b o ts)
right_array n b sb r o ts =
    falls_then (SoundMaybe 14 n ts) (MaybeBegun 14 n ts) (ArrayBegun n (mark marks.LeftBracket o ∷ ts))
    (maybe_before b.conditional marks.RightBracket ts) _
    (sound_maybe 14 n b.conditional sb.conditional marks.RightBracket ts)
    (right_maybe 14 n b.conditional r.conditional marks.RightBracket ts) (λ us (size, swap, (fits, low)). (
      record { opening = o; size = size; close = here },
      s_cons (s_app (mark marks.RightBracket here ∷ []) swap),
      (conditional_is size fits, low),
    ))
    (λ size us s.
    falls_mark (ArrayBegun n (mark marks.LeftBracket o ∷ ts)) marks.RightBracket us _ (
      record { opening = o; size = size; close = here },
      s_cons (s_eq s.tokens (s_left (maybe_expr_tokens size) (s_here refl))),
      (conditional_is size s.fits, s.low),
    )
    (λ c vs g. tt))

abbrev MaybeArrayBegun : ℕ → List Token → List Token → Type 0
MaybeArrayBegun n ts us = Begun maybe_array_tokens (IsLowMaybeArray n) ts us

right_maybe_array : (n : ℕ) (b : Readers) → SoundReaders n b → RightReaders n b → (ts : List Token)
    → Falls (MaybeArrayBegun n ts) (read_maybe_array b ts)
right_maybe_array n b sb r ts = under (take_mark marks.LeftBracket ts) (mark_taken marks.LeftBracket ts)
  where
    under : (o : Takes Span) → HoldsTaken (λ at us. ts ≡ mark marks.LeftBracket at ∷ us) o
        → Falls (MaybeArrayBegun n ts) (maybe_array_from b o ts)
    under None h = tt
    under (Some (o, us)) h =
        falls_last (ArrayBegun n (mark marks.LeftBracket o ∷ us)) (MaybeArrayBegun n ts) (array_behind b o us)
        (λ a. Some a) (right_array n b sb r o us) (λ vs (a, swap, p). (Some a, s_eq h swap, p))

-- the least specifiers and the least name
abbrev pub an_int : List Specifier
an_int = record { word = specifier.Int; at = here } ∷ []

abbrev pub a_name : Identifier
a_name = record { name = 97 ∷ []; at = here }

abbrev ParameterBegun : ℕ → List Token → List Token → Type 0
ParameterBegun n ts us = Begun parameter_tokens (IsLowParameter n) ts us

right_parameter : (n : ℕ) (b : Readers) → SoundReaders n b → RightReaders n b → (ts : List Token)
    → Falls (ParameterBegun n ts) (read_parameter b ts)
right_parameter n b sb r ts = under (take_specifiers ts).0 (take_specifiers ts).1 (specifiers_taken ts)
  where
    under : (ss : List Specifier) (us : List Token) → ts ≡ specifiers_tokens ss ++ us
        → Falls (ParameterBegun n ts) (parameter_with b ss us)
    under [] us h = (
      record { specifiers = an_int; pointer = None; name = None; array = None },
      s_here h,
      ((tt, tt), omega arith),
    )
    under (s ∷ ss) us h =
        (let pointer = take_pointer us in
        let name = take_name pointer.1 in
        falls_last (MaybeArrayBegun n name.1) (ParameterBegun n ts) (read_maybe_array b name.1) _
        (right_maybe_array n b sb r name.1) (λ vs (a, swap, p). (
          record { specifiers = s ∷ ss; pointer = pointer.0; name = name.0; array = a },
          s_eq h (s_left (specifiers_tokens (s ∷ ss)) (s_eq (pointer_taken us) (s_left (pointer_tokens pointer.0)
              (s_eq (name_taken pointer.1) (s_left (maybe_name_tokens name.0) swap))))),
          ((tt, p.0), p.1),
        )))

abbrev AreLowParameters : ℕ → Listed ParameterTree → Type 0
AreLowParameters h l = AllByRecursion IsParameter l.0 × AreApart l.0 l.1 × (greatest parameter_height l.0 ≤ h)

abbrev ParametersBegun : ℕ → List Token → List Token → Type 0
ParametersBegun n ts us = Begun (list_tokens parameter_tokens) (AreLowParameters n) ts us

right_parameters : (n : ℕ) (b : Readers) → SoundReaders n b → RightReaders n b → (ts : List Token)
    → Falls (ParametersBegun n ts) (read_parameters b ts)
right_parameters n b sb r ts = under (take_mark marks.RightParen ts)
  where
    several : (us : List Token) → ListBegun parameter_tokens (IsLowParameter n) ts us → ParametersBegun n ts us
    several us (l, swap, (all, apart, some)) =
        (let q = all_low IsParameter parameter_height n l.0 all in (l, swap, (q.0, apart, q.1)))

    under : (o : Takes Span) → Falls (ParametersBegun n ts) (parameters_from b o ts)
    under (Some close) = tt
    under None =
        falls_then (One parameter_tokens (IsLowParameter n) ts) (ParameterBegun n ts) (ParametersBegun n ts)
        (read_parameter b ts) _ (sound_parameter n b sb ts) (right_parameter n b sb r ts)
        (λ us (p, swap, q). ((p ∷ [], []), s_app [] swap, ((q.0, tt), refl, omega (arith, q.1)))) (λ p us g.
        falls_map (ListBegun parameter_tokens (IsLowParameter n) ts) (ParametersBegun n ts)
        (read_more (read_parameter b) p us) several
        (right_more parameter_tokens (IsLowParameter n) (read_parameter b) (sound_parameter n b sb)
        (right_parameter n b sb r) ts p us g))

abbrev PartBegun : ℕ → List Token → List Token → Type 0
PartBegun n ts us = Begun part_tokens (IsLowPart n) ts us

right_part : (n : ℕ) (b : Readers) → SoundReaders n b → RightReaders n b → (ts : List Token)
    → Falls (PartBegun n ts) (read_part b ts)
right_part n b sb r ts = brackets (take_mark marks.LeftBracket ts) (mark_taken marks.LeftBracket ts)
  where
    parens : (o : Takes Span) → HoldsTaken (λ at us. ts ≡ mark marks.LeftParen at ∷ us) o
        → Falls (PartBegun n ts) (part_in_parens b o ts)
    parens None h = tt
    parens (Some (o, us)) h =
        falls_last (PartBegun n ts) (PartBegun n ts) (parameters_behind b o us) (λ p. Function p)
        (falls_then (SoundParameters n us) (ParametersBegun n us) (PartBegun n ts) (read_parameters b us) _
        (sound_parameters n b sb us) (right_parameters n b sb r us) (λ vs (l, swap, (all, apart, low)). (
          Function (record { opening = o; parameters = l.0; commas = l.1; close = here }),
          s_eq h (s_cons (s_app (mark marks.RightParen here ∷ []) swap)),
          ((all, apart), low),
        ))
        (λ l vs s.
        falls_mark (PartBegun n ts) marks.RightParen vs _ (
          Function (record { opening = o; parameters = l.0; commas = l.1; close = here }),
          s_eq h (s_cons (s_eq s.tokens_are (s_left (list_tokens parameter_tokens l) (s_here refl)))),
          ((s.all, s.apart), s.low),
        )
        (λ c ws g. tt)))
        (λ vs g. g)

    brackets : (o : Takes Span) → HoldsTaken (λ at us. ts ≡ mark marks.LeftBracket at ∷ us) o
        → Falls (PartBegun n ts) (part_from b o ts)
    brackets None h = parens (take_mark marks.LeftParen ts) (mark_taken marks.LeftParen ts)
    brackets (Some (o, us)) h =
        falls_last (ArrayBegun n (mark marks.LeftBracket o ∷ us)) (PartBegun n ts) (array_behind b o us)
        (λ a. Array a) (right_array n b sb r o us) (λ vs (a, swap, p). (Array a, s_eq h swap, p))

abbrev pub DeclaratorBegun : ℕ → List Token → List Token → Type 0
DeclaratorBegun n ts us = Begun declarator_tokens (IsLowDeclarator n) ts us

pub right_declarator : (n : ℕ) (b : Readers) → SoundReaders n b → RightReaders n b → (ts : List Token)
    → Falls (DeclaratorBegun n ts) (read_declarator b ts)
right_declarator n b sb r ts = under (take_pointer ts).0 (take_pointer ts).1 (take_name (take_pointer ts).1).0
    (take_name (take_pointer ts).1).1 (pointer_taken ts) (name_taken (take_pointer ts).1)
  where
    under : (pointer : Option Star) (us : List Token) (name : Option Identifier) (vs : List Token) → ts
        ≡ pointer_tokens pointer ++ us → us ≡ maybe_name_tokens name ++ vs
        → Falls (DeclaratorBegun n ts) (declarator_named b pointer name vs)
    under pointer us None vs h k = (
      record { pointer = pointer; name = a_name; part = Plain },
      s_eq h (s_left (pointer_tokens pointer) (s_here k)),
      (tt, omega arith),
    )
    under pointer us (Some name) vs h k =
        falls_last (PartBegun n vs) (DeclaratorBegun n ts) (read_part b vs) _ (right_part n b sb r vs)
        (λ ws (part, swap, p). (
          record { pointer = pointer; name = name; part = part },
          s_eq h (s_left (pointer_tokens pointer) (s_eq k (s_cons swap))),
          p,
        ))

-- ---- initialisers

abbrev braced_tokens : Braced → List Token
braced_tokens braced = exprs_tokens (exprs_of braced.0.0) braced.0.1 ++ maybe_comma_tokens braced.1

abbrev IsLowBraced : ℕ → Braced → Type 0
IsLowBraced h braced = AreValues (exprs_of braced.0.0) × Separate (exprs_of braced.0.0) braced.0.1
    × (exprs_height (exprs_of braced.0.0) ≤ h) × (1 ≤ length braced.0.0)

abbrev BracedBegun : ℕ → List Token → List Token → Type 0
BracedBegun h ts us = Begun braced_tokens (IsLowBraced h) ts us

no_comma : (h : ℕ) (ts us : List Token) → SomeBegun h ts us → BracedBegun h ts us
no_comma h ts us (values, swap, ((are, apart, low), some)) = ((values, None), s_app [] swap, (are, apart, low, some))

brace_falls : (n : ℕ) (b : Readers) → SoundReaders n b → RightReaders n b → (ts : List Token) (values : Values)
    (trailing : Option Span) (us : List Token) → SoundBraced n ts (values, trailing) us
    → FallsStep (BracedBegun n ts) (brace_behind b values trailing us)
brace_falls n b sb r ts values (Some trailing) us s = tt
brace_falls n b sb r ts values None us braced = under (take_mark marks.Comma us) (mark_taken marks.Comma us)
  where
    s : SoundValues n ts values us
    s = only_values n ts values us braced

    closes : (at : Span) (vs : List Token) → us ≡ mark marks.Comma at ∷ vs → (o : Takes Span)
        → FallsStep (BracedBegun n ts) (brace_close b values at o vs)
    closes at vs h (Some close) = tt
    closes at vs h None = step_falls_then (Sound 15 n vs) (ExprStarts 15 n vs) (BracedBegun n ts) (b.assignment vs) _
        (sb.assignment vs) (r.assignment vs)
        (λ zs g. no_comma n ts zs (push_begun n ts values.0 values.1 us vs zs at s h
        (begun 15 n vs zs (omega (arith, values_some values.0 braced.some, braced.low)) g))) (λ e ws g. tt)

    under : (o : Takes Span) → HoldsTaken (λ at vs. us ≡ mark marks.Comma at ∷ vs) o
        → FallsStep (BracedBegun n ts) (brace_at b values o)
    under None h = tt
    under (Some (at, vs)) h = closes at vs h (take_mark marks.RightBrace vs)

right_values : (n : ℕ) (b : Readers) → SoundReaders n b → RightReaders n b → 1 ≤ n → (ts : List Token)
    → Falls (BracedBegun n ts) (read_values b ts)
right_values n b sb r high ts =
    falls_then (Sound 15 n ts) (ExprStarts 15 n ts) (BracedBegun n ts) (b.assignment ts) _ (sb.assignment ts)
    (r.assignment ts) (λ us g. first us (begun 15 n ts us high g)) (λ e us s.
    falls_chain (SoundBraced n ts) (BracedBegun n ts) (brace_step b) (λ a ws g. sound_brace n b sb ts a.0 a.1 ws g)
    (λ a ws g. brace_falls n b sb r ts a.0 a.1 ws g)
    (λ a ws g. (a, s_all g.tokens, (g.are, g.apart, g.low, g.some))) (length us)
    ((e ∷ [], []), None) us (without_comma n ts (e ∷ [], []) us (first_value n ts e us s)))
  where
    first : (us : List Token) → ExprBegun 15 n ts us → BracedBegun n ts us
    first us (e, swap, (is, loose, low)) = no_comma n ts us
        ((e ∷ [], []), s_app [] swap, (((is, loose, tt), refl, omega (arith, low)), omega arith))

abbrev InitialiserBegun : ℕ → List Token → List Token → Type 0
InitialiserBegun n ts us = Begun initialiser_tokens (IsLowInitialiser n) ts us

right_initialiser : (n : ℕ) (b : Readers) → SoundReaders n b → RightReaders n b → 1 ≤ n → (ts : List Token)
    → Falls (InitialiserBegun n ts) (read_initialiser b ts)
right_initialiser n b sb r high ts = under (take_mark marks.LeftBrace ts) (mark_taken marks.LeftBrace ts)
  where
    single : (us : List Token) → ExprBegun 15 n ts us → InitialiserBegun n ts us
    single us (e, swap, (is, loose, low)) = (Single e, swap, ((is, loose), low))

    closed : (o : Span) (us zs : List Token) → ts ≡ mark marks.LeftBrace o ∷ us → BracedBegun n us zs
        → InitialiserBegun n ts zs
    closed o us zs h (braced, swap, (are, apart, low, some)) =
        (let values : List Token = exprs_tokens (exprs_of braced.0.0) braced.0.1 in (
          Braces o (exprs_of braced.0.0) braced.0.1 braced.1 here,
          s_eq h (s_cons (s_to (append_assoc values (maybe_comma_tokens braced.1) (mark marks.RightBrace here ∷ []))
              (s_app (mark marks.RightBrace here ∷ []) swap))),
          braces_are n o braced.0.0 braced.0.1 braced.1 here some are apart low,
        ))

    under : (o : Takes Span) → HoldsTaken (λ at us. ts ≡ mark marks.LeftBrace at ∷ us) o
        → Falls (InitialiserBegun n ts) (initialiser_from b o ts)
    under None h = falls_last (ExprStarts 15 n ts) (InitialiserBegun n ts) (b.assignment ts) (λ e. Single e)
        (r.assignment ts) (λ us g. single us (begun 15 n ts us high g))
    under (Some (o, us)) h =
        falls_then (SoundBraced n us) (BracedBegun n us) (InitialiserBegun n ts) (read_values b us) _
        (sound_values n b sb us) (right_values n b sb r high us) (λ zs g. closed o us zs h g) (λ braced ws g.
        falls_mark (InitialiserBegun n ts) marks.RightBrace ws _
        (closed o us ws h (braced, s_all g.tokens, (g.are, g.apart, g.low, g.some))) (λ c xs k. tt))

-- ---- items and declarations

abbrev ValueBegun : ℕ → List Token → List Token → Type 0
ValueBegun n ts us = Begun value_tokens (IsLowValue n) ts us

right_value_part : (n : ℕ) (b : Readers) → SoundReaders n b → RightReaders n b → (ts : List Token)
    → Falls (ValueBegun n ts) (value_from b (take_mark marks.Equal ts) ts)
right_value_part n b sb r ts = under (take_mark marks.Equal ts) (mark_taken marks.Equal ts)
  where
    under : (o : Takes Span) → HoldsTaken (λ at us. ts ≡ mark marks.Equal at ∷ us) o
        → Falls (ValueBegun n ts) (value_from b o ts)
    under None h = tt
    under (Some (at, us)) h =
        falls_room (One initialiser_tokens (IsLowInitialiser n) us) (InitialiserBegun n us) (ValueBegun n ts) 0 b.height
        (mark marks.Equal at) us (read_initialiser b us) _ (None, s_here h, (tt, omega arith))
        (sound_initialiser n b sb us) (λ some. right_initialiser n b sb r (omega (arith, some, r.height)) us)
        (λ vs some (v, swap, p). (Some (record { equal = at; value = v }), s_eq h (s_cons swap), p))
        (λ v vs some g. tt)

abbrev ItemBegun : ℕ → List Token → List Token → Type 0
ItemBegun n ts us = Begun item_tokens (IsLowItem n) ts us

right_item_behind : (n : ℕ) (b : Readers) → SoundReaders n b → RightReaders n b → (ts : List Token)
    (d : DeclaratorTree) (us : List Token) → One declarator_tokens (IsLowDeclarator n) ts d us
    → Falls (ItemBegun n ts) (item_behind b d us)
right_item_behind n b sb r ts d us s =
    falls_last (ValueBegun n us) (ItemBegun n ts) (value_from b (take_mark marks.Equal us) us) _
    (right_value_part n b sb r us) (λ vs (v, swap, p). (
      record { declarator = d; initialiser = v },
      s_eq s.0 (s_left (declarator_tokens d) swap),
      ((s.1.0, p.0), omega (arith, s.1.1, p.1)),
    ))

-- an item of a declarator alone
item_of : (n : ℕ) (ts us : List Token) → DeclaratorBegun n ts us → ItemBegun n ts us
item_of n ts us (d, swap, (is, low)) =
    (record { declarator = d; initialiser = None }, s_app [] swap, ((is, tt), omega (arith, low)))

right_item : (n : ℕ) (b : Readers) → SoundReaders n b → RightReaders n b → (ts : List Token)
    → Falls (ItemBegun n ts) (read_item b ts)
right_item n b sb r ts =
    falls_then (One declarator_tokens (IsLowDeclarator n) ts) (DeclaratorBegun n ts) (ItemBegun n ts)
    (read_declarator b ts) _ (sound_declarator n b sb ts) (right_declarator n b sb r ts) (λ us g. item_of n ts us g)
    (λ d us s. right_item_behind n b sb r ts d us s)

abbrev pub DeclarationBegun : ℕ → List Token → List Token → Type 0
DeclarationBegun h ts us = Begun declaration_tokens (IsLowDeclaration h) ts us

-- items end in a `;`
ended : (n : ℕ) (ts : List Token) (ss : List Specifier) (us vs : List Token) → IsSpecifiers ss
    → ts ≡ specifiers_tokens ss ++ us → ListBegun item_tokens (IsLowItem n) us vs → DeclarationBegun (suc n) ts vs
ended n ts ss us vs is h (l, swap, (all, apart, some)) =
    (let q = all_low IsItem item_height n l.0 all in (
      record { specifiers = ss; items = l.0; commas = l.1; semicolon = here },
      s_eq h (s_left (specifiers_tokens ss) (s_app (mark marks.Semicolon here ∷ []) swap)),
      ((is, items_are l.0 some q.0, apart), omega (arith, q.1)),
    ))

one_item : (n : ℕ) (us vs : List Token) → ItemBegun n us vs → ListBegun item_tokens (IsLowItem n) us vs
one_item n us vs (i, swap, p) = ((i ∷ [], []), s_app [] swap, ((p, tt), refl, omega arith))

-- specifiers and a declarator that begins are a declaration
pub declared_begun : (n : ℕ) (ts : List Token) (ss : List Specifier) (us vs : List Token) → IsSpecifiers ss
    → ts ≡ specifiers_tokens ss ++ us → DeclaratorBegun n us vs → DeclarationBegun (suc n) ts vs
declared_begun n ts ss us vs is h g = ended n ts ss us vs is h (one_item n us vs (item_of n us vs g))

-- nothing was taken
pub no_declaration : (n : ℕ) (ts us : List Token) → ts ≡ us → DeclarationBegun (suc n) ts us
no_declaration n ts us h = (
  record {
    specifiers = an_int;
    items = record { declarator = record { pointer = None; name = a_name; part = Plain }; initialiser = None } ∷ [];
    commas = [];
    semicolon = here;
  },
  s_here h,
  ((tt, ((tt, tt), tt), refl), omega arith),
)

-- a declaration behind its specifiers and its first declarator
pub right_declaration_behind : (n : ℕ) (b : Readers) → SoundReaders n b → RightReaders n b
    → (ts : List Token) (ss : List Specifier) (us : List Token) (d : DeclaratorTree) (vs : List Token) → IsSpecifiers ss
    → ts ≡ specifiers_tokens ss ++ us → One declarator_tokens (IsLowDeclarator n) us d vs
    → Falls (DeclarationBegun (suc n) ts) (declaration_behind b ss d vs)
right_declaration_behind n b sb r ts ss us d vs is h s =
    falls_then (One item_tokens (IsLowItem n) us) (ItemBegun n us) (DeclarationBegun (suc n) ts) (item_behind b d vs) _
    (sound_item_behind n b sb us d vs s) (right_item_behind n b sb r us d vs s)
    (λ ws g. ended n ts ss us ws is h (one_item n us ws g)) (λ i ws g.
    falls_then (SoundList item_tokens (IsLowItem n) us) (ListBegun item_tokens (IsLowItem n) us)
    (DeclarationBegun (suc n) ts) (read_more (read_item b) i ws) _
    (sound_more item_tokens (IsLowItem n) (read_item b) (sound_item n b sb) us i ws g)
    (right_more item_tokens (IsLowItem n) (read_item b) (sound_item n b sb) (right_item n b sb r) us i ws g)
    (λ xs k. ended n ts ss us xs is h k) (λ l xs k.
    falls_mark (DeclarationBegun (suc n) ts) marks.Semicolon xs _
    (ended n ts ss us xs is h (l, s_all k.tokens_are, (k.all, k.apart, k.some))) (λ c ys m. tt)))

pub right_declaration : (n : ℕ) (b : Readers) → SoundReaders n b → RightReaders n b → (ts : List Token)
    → Falls (DeclarationBegun (suc n) ts) (read_declaration b ts)
right_declaration n b sb r ts = under (take_specifiers ts).0 (take_specifiers ts).1 (specifiers_taken ts)
  where
    under : (ss : List Specifier) (us : List Token) → ts ≡ specifiers_tokens ss ++ us
        → Falls (DeclarationBegun (suc n) ts) (declaration_with b ss us)
    under [] us h = no_declaration n ts us h
    under (s ∷ ss) us h =
        falls_then (One declarator_tokens (IsLowDeclarator n) us) (DeclaratorBegun n us) (DeclarationBegun (suc n) ts)
        (read_declarator b us) _ (sound_declarator n b sb us) (right_declarator n b sb r us)
        (λ vs g. declared_begun n ts (s ∷ ss) us vs tt h g)
        (λ d vs g. right_declaration_behind n b sb r ts (s ∷ ss) us d vs tt h g)
