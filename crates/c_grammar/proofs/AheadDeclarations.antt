-- The readings of declarations look one token ahead.
use Rattle.std.proofs.Common.{◌≡◌, false, List, [], ◌∷◌, ◌++◌, Option, Some, None, refl}
use Rattle.pcc_base.specs.declared.span.Span.{Span}
use Rattle.c_lex.specs.declared.token.Token.{Token}
use Rattle.c_lex.specs.declared.token.Punct.{Punct}
use Rattle.c_lex.specs.declared.token.Punct.TheVariants as marks
use Rattle.c_syntax.specs.declared.expression.Identifier.{Identifier as Ident}
use Rattle.c_syntax.specs.declared.expression.Specifier.{Specifier}
use Rattle.c_syntax.specs.Marks.{mark}
use Rattle.c_syntax.specs.Expressions.{Star, exprs_of}
use Rattle.c_syntax.specs.Declarations.{ParameterTree, Plain, Array, Function}
use Rattle.c_syntax.specs.Declarations.{DeclaratorTree, Single as SingleValue, Braces, ItemTree}
use Rattle.c_syntax.specs.Declarations.{DeclarationTree}
use Rattle.c_grammar.specs.Taking.{take_mark, take_specifiers, take_pointer}
use Rattle.c_grammar.specs.Chains.{Takes, Reads, Found, then_read, chained}
use Rattle.c_grammar.specs.Taking.{read_mark}
use Rattle.c_grammar.specs.Reading.{Reader, Readers, Values}
use Rattle.c_grammar.specs.DeclarationReading.{Listed, list_at, list_step, read_more, take_name, maybe_from}
use Rattle.c_grammar.specs.DeclarationReading.{maybe_before}
use Rattle.c_grammar.specs.DeclarationReading.{array_behind, maybe_array_from, read_maybe_array, parameter_named}
use Rattle.c_grammar.specs.DeclarationReading.{parameter_behind, parameter_with, read_parameter, parameters_from}
use Rattle.c_grammar.specs.DeclarationReading.{read_parameters, parameters_behind, part_in_parens, part_from}
use Rattle.c_grammar.specs.DeclarationReading.{read_part}
use Rattle.c_grammar.specs.DeclarationReading.{declarator_named, declarator_behind, read_declarator, Braced}
use Rattle.c_grammar.specs.DeclarationReading.{brace_close}
use Rattle.c_grammar.specs.DeclarationReading.{brace_at, brace_behind, brace_step, braces_end, read_values}
use Rattle.c_grammar.specs.DeclarationReading.{braces_behind}
use Rattle.c_grammar.specs.DeclarationReading.{initialiser_from, read_initialiser, value_from, item_behind}
use Rattle.c_grammar.specs.DeclarationReading.{read_item}
use Rattle.c_grammar.specs.DeclarationReading.{declaration_behind, declaration_with, read_declaration}
use Rattle.c_grammar.specs.Laws.{Ahead}
use Rattle.c_grammar.proofs.Ahead.{found_ahead, faults_ahead, ahead_then, Reading, behind_above, ahead_choice}
use Rattle.c_grammar.proofs.Ahead.{ahead_unless, row_of, AheadStep, step_of, step_then, step_done, step_choice}
use Rattle.c_grammar.proofs.Ahead.{ahead_chained, Eats, eats_first, eats_last}
use Rattle.c_grammar.proofs.AheadTokens.{mark_single, mark_ahead, mark_eats, specifiers_ahead, pointer_ahead}
use Rattle.c_grammar.proofs.AheadTokens.{name_ahead}
use Rattle.c_grammar.proofs.AheadExpressions.{AreAhead}

-- ---- several, with commas between them

pub list_ahead : {A : Type 0} (read : List Token → Reads A) → Ahead read → (so_far : Listed A)
    → AheadStep (list_step read so_far)
list_ahead read p so_far = step_choice (mark marks.Comma) (take_mark marks.Comma) (mark_single marks.Comma)
    (λ o ts. list_at read so_far o)
    (λ comma us. then_read (read us) (λ a vs. Found (so_far.0 ++ a ∷ [], so_far.1 ++ comma ∷ []) vs))
    step_done (λ comma us ts. step_then (read us) _ _ (λ a vs. refl))
    (λ comma. Reading (ahead_then read _ p (λ a. found_ahead (so_far.0 ++ a ∷ [], so_far.1 ++ comma ∷ []))))

pub more_ahead : {A : Type 0} (read : List Token → Reads A) → Ahead read → (a : A) → Ahead (read_more read a)
more_ahead read p a = ahead_chained (list_step read) (list_ahead read p) (a ∷ [], [])

-- ---- declarators

pub maybe_ahead : (read : Reader) → Ahead read → (close : Punct) → Ahead (maybe_before read close)
maybe_ahead read p close = ahead_unless (mark close) (take_mark close) (mark_single close) (maybe_from read)
    (λ ts. Found None ts) (ahead_then read (λ e us. Found (Some e) us) p (λ e. found_ahead (Some e)))
    (found_ahead None) (λ k us ts. refl)

pub array_ahead : (b : Readers) → AreAhead b → (o : Span) → Ahead (array_behind b o)
array_ahead b p o = ahead_then (maybe_before b.conditional marks.RightBracket) _
    (maybe_ahead b.conditional p.conditional marks.RightBracket)
    (λ size. ahead_then (read_mark marks.RightBracket)
    (λ c vs. Found (record { opening = o; size = size; close = c }) vs)
    (mark_ahead marks.RightBracket) (λ c. found_ahead (record { opening = o; size = size; close = c })))

maybe_array_ahead : (b : Readers) → AreAhead b → Ahead (read_maybe_array b)
maybe_array_ahead b p = ahead_choice (mark marks.LeftBracket) (take_mark marks.LeftBracket)
    (mark_single marks.LeftBracket) (maybe_array_from b) (found_ahead None)
    (λ o. Reading (ahead_then (array_behind b o) (λ a vs. Found (Some a) vs) (array_ahead b p o)
    (λ a. found_ahead (Some a))))

parameter_with_ahead : (b : Readers) → AreAhead b → (ss : List Specifier) → Ahead (parameter_with b ss)
parameter_with_ahead b p [] = faults_ahead false
parameter_with_ahead b p (s ∷ ss) =
    ahead_then (row_of take_pointer) (λ star us. parameter_behind b (s ∷ ss) (star, us)) pointer_ahead
    (λ star. ahead_then (row_of take_name) (λ name us. parameter_named b (s ∷ ss) star (name, us)) name_ahead
    (λ name. ahead_then (read_maybe_array b)
    (λ a vs. Found (record { specifiers = s ∷ ss; pointer = star; name = name; array = a }) vs) (maybe_array_ahead b p)
    (λ a. found_ahead (record { specifiers = s ∷ ss; pointer = star; name = name; array = a }))))

pub parameter_ahead : (b : Readers) → AreAhead b → Ahead (read_parameter b)
parameter_ahead b p =
    ahead_then (row_of take_specifiers) (parameter_with b) specifiers_ahead (parameter_with_ahead b p)

pub parameters_ahead : (b : Readers) → AreAhead b → Ahead (read_parameters b)
parameters_ahead b p =
    (let none : Listed ParameterTree = ([], []) in
    ahead_unless (mark marks.RightParen) (take_mark marks.RightParen) (mark_single marks.RightParen)
    (parameters_from b) (λ ts. Found none ts)
    (ahead_then (read_parameter b) (λ a us. read_more (read_parameter b) a us) (parameter_ahead b p)
    (more_ahead (read_parameter b) (parameter_ahead b p)))
    (found_ahead none) (λ close us ts. refl))

pub parameters_behind_ahead : (b : Readers) → AreAhead b → (o : Span) → Ahead (parameters_behind b o)
parameters_behind_ahead b p o = ahead_then (read_parameters b) _ (parameters_ahead b p)
    (λ ps. ahead_then (read_mark marks.RightParen)
    (λ c vs. Found (record { opening = o; parameters = ps.0; commas = ps.1; close = c }) vs)
    (mark_ahead marks.RightParen)
    (λ c. found_ahead (record { opening = o; parameters = ps.0; commas = ps.1; close = c })))

pub part_ahead : (b : Readers) → AreAhead b → Ahead (read_part b)
part_ahead b p = ahead_choice (mark marks.LeftBracket) (take_mark marks.LeftBracket) (mark_single marks.LeftBracket)
    (part_from b)
    (ahead_choice (mark marks.LeftParen) (take_mark marks.LeftParen) (mark_single marks.LeftParen) (part_in_parens b)
    (found_ahead Plain)
    (λ o. Reading (ahead_then (parameters_behind b o) (λ a vs. Found (Function a) vs) (parameters_behind_ahead b p o)
    (λ a. found_ahead (Function a)))))
    (λ o. Reading (ahead_then (array_behind b o) (λ a vs. Found (Array a) vs) (array_ahead b p o)
    (λ a. found_ahead (Array a))))

declarator_named_ahead : (b : Readers) → AreAhead b → (star : Option Star) (name : Option Ident)
    → Ahead (declarator_named b star name)
declarator_named_ahead b p star None = faults_ahead false
declarator_named_ahead b p star (Some n) = ahead_then (read_part b)
    (λ part vs. Found (record { pointer = star; name = n; part = part }) vs) (part_ahead b p)
    (λ part. found_ahead (record { pointer = star; name = n; part = part }))

pub declarator_ahead : (b : Readers) → AreAhead b → Ahead (read_declarator b)
declarator_ahead b p =
    ahead_then (row_of take_pointer) (λ star us. declarator_behind b (star, us)) pointer_ahead
    (λ star. ahead_then (row_of take_name) (declarator_named b star) name_ahead (declarator_named_ahead b p star))

-- ---- initialisers

-- behind a comma: it is the last one, or a value comes
abbrev closes : Readers → Values → Span → Takes Span → List Token → Reads Braced
closes b so_far comma (Some close) ts = Found (so_far, Some comma) ts
closes b so_far comma None ts = then_read (b.assignment ts)
    (λ e us. Found ((so_far.0 ++ e ∷ [], so_far.1 ++ comma ∷ []), None) us)

close_is : (b : Readers) (so_far : Values) (comma : Span) (o : Takes Span) (ts : List Token)
    → brace_close b so_far comma o ts ≡ step_of (closes b so_far comma o ts)
close_is b so_far comma (Some close) ts = refl
close_is b so_far comma None ts = step_then (b.assignment ts) _ _ (λ e us. refl)

closes_ahead : (b : Readers) → AreAhead b → (so_far : Values) (comma : Span)
    → Ahead (λ ts. closes b so_far comma (take_mark marks.RightBrace ts) ts)
closes_ahead b p so_far comma =
    (let last : Braced = (so_far, Some comma) in
    ahead_unless (mark marks.RightBrace) (take_mark marks.RightBrace) (mark_single marks.RightBrace)
    (closes b so_far comma) (λ ts. Found last ts)
    (ahead_then b.assignment (λ e us. Found ((so_far.0 ++ e ∷ [], so_far.1 ++ comma ∷ []), None) us) p.assignment
    (λ e. found_ahead ((so_far.0 ++ e ∷ [], so_far.1 ++ comma ∷ []), None)))
    (found_ahead last) (λ k us ts. refl))

brace_behind_ahead : (b : Readers) → AreAhead b → (so_far : Values) (trailing : Option Span)
    → AheadStep (brace_behind b so_far trailing)
brace_behind_ahead b p so_far (Some trailing) = step_done
brace_behind_ahead b p so_far None =
    step_choice (mark marks.Comma) (take_mark marks.Comma) (mark_single marks.Comma)
    (λ o ts. brace_at b so_far o) (λ comma us. closes b so_far comma (take_mark marks.RightBrace us) us)
    step_done (λ comma us ts. close_is b so_far comma (take_mark marks.RightBrace us) us)
    (λ comma. Reading (closes_ahead b p so_far comma))

pub brace_ahead : (b : Readers) → AreAhead b → (so_far : Braced) → AheadStep (brace_step b so_far)
brace_ahead b p so_far = brace_behind_ahead b p so_far.0 so_far.1

pub values_ahead : (b : Readers) → AreAhead b → Ahead (read_values b)
values_ahead b p = ahead_then b.assignment (λ e us. chained (brace_step b) ((e ∷ [], []), None) us) p.assignment
    (λ e. ahead_chained (brace_step b) (brace_ahead b p) ((e ∷ [], []), None))

pub braces_ahead : (b : Readers) → AreAhead b → (o : Span) → Ahead (braces_behind b o)
braces_ahead b p o = ahead_then (read_values b) (λ braced us. braces_end o braced us) (values_ahead b p)
    (λ braced. ahead_then (read_mark marks.RightBrace)
    (λ c us. Found (Braces o (exprs_of braced.0.0) braced.0.1 braced.1 c) us) (mark_ahead marks.RightBrace)
    (λ c. found_ahead (Braces o (exprs_of braced.0.0) braced.0.1 braced.1 c)))

pub initialiser_ahead : (b : Readers) → AreAhead b → Ahead (read_initialiser b)
initialiser_ahead b p = ahead_choice (mark marks.LeftBrace) (take_mark marks.LeftBrace) (mark_single marks.LeftBrace)
    (initialiser_from b)
    (ahead_then b.assignment (λ e us. Found (SingleValue e) us) p.assignment (λ e. found_ahead (SingleValue e)))
    (λ o. Reading (braces_ahead b p o))

-- ---- items and declarations

pub value_from_ahead : (b : Readers) → AreAhead b → Ahead (λ ts. value_from b (take_mark marks.Equal ts) ts)
value_from_ahead b p = ahead_choice (mark marks.Equal) (take_mark marks.Equal) (mark_single marks.Equal)
    (value_from b) (found_ahead None)
    (λ equal. behind_above 0 b.height (mark marks.Equal equal) (read_initialiser b) _ (initialiser_ahead b p)
    (λ v. found_ahead (Some (record { equal = equal; value = v }))))

pub item_behind_ahead : (b : Readers) → AreAhead b → (d : DeclaratorTree) → Ahead (item_behind b d)
item_behind_ahead b p d = ahead_then (λ ts. value_from b (take_mark marks.Equal ts) ts)
    (λ v us. Found (record { declarator = d; initialiser = v }) us) (value_from_ahead b p)
    (λ v. found_ahead (record { declarator = d; initialiser = v }))

pub item_ahead : (b : Readers) → AreAhead b → Ahead (read_item b)
item_ahead b p =
    ahead_then (read_declarator b) (λ d us. item_behind b d us) (declarator_ahead b p) (item_behind_ahead b p)

abbrev semicolon_from : List Specifier → Listed ItemTree → List Token → Reads DeclarationTree
semicolon_from ss items ts = then_read (read_mark marks.Semicolon ts) (λ semicolon us. Found
    (record { specifiers = ss; items = items.0; commas = items.1; semicolon = semicolon }) us)

semicolon_ahead : (ss : List Specifier) (items : Listed ItemTree) → Ahead (semicolon_from ss items)
semicolon_ahead ss items = ahead_then (read_mark marks.Semicolon) _ (mark_ahead marks.Semicolon)
    (λ semicolon. found_ahead (record { specifiers = ss; items = items.0; commas = items.1; semicolon = semicolon }))

semicolon_eats : (ss : List Specifier) (items : Listed ItemTree) → Eats (semicolon_from ss items)
semicolon_eats ss items = eats_first (read_mark marks.Semicolon) _ (mark_eats marks.Semicolon)
    (λ semicolon. found_ahead (record { specifiers = ss; items = items.0; commas = items.1; semicolon = semicolon }))

pub declaration_behind_ahead : (b : Readers) → AreAhead b → (ss : List Specifier) (d : DeclaratorTree)
    → Ahead (declaration_behind b ss d)
declaration_behind_ahead b p ss d = ahead_then (item_behind b d) _ (item_behind_ahead b p d)
    (λ i. ahead_then (read_more (read_item b) i) (semicolon_from ss) (more_ahead (read_item b) (item_ahead b p) i)
    (semicolon_ahead ss))

pub declaration_behind_eats : (b : Readers) → AreAhead b → (ss : List Specifier) (d : DeclaratorTree)
    → Eats (declaration_behind b ss d)
declaration_behind_eats b p ss d = eats_last (item_behind b d) _ (item_behind_ahead b p d)
    (λ i. eats_last (read_more (read_item b) i) (semicolon_from ss) (more_ahead (read_item b) (item_ahead b p) i)
    (semicolon_eats ss))

declaration_with_ahead : (b : Readers) → AreAhead b → (ss : List Specifier) → Ahead (declaration_with b ss)
declaration_with_ahead b p [] = faults_ahead false
declaration_with_ahead b p (s ∷ ss) = ahead_then (read_declarator b) (λ d vs. declaration_behind b (s ∷ ss) d vs)
    (declarator_ahead b p) (declaration_behind_ahead b p (s ∷ ss))

declaration_with_eats : (b : Readers) → AreAhead b → (ss : List Specifier) → Eats (declaration_with b ss)
declaration_with_eats b p [] ts = tt
declaration_with_eats b p (s ∷ ss) ts = eats_last (read_declarator b) (λ d vs. declaration_behind b (s ∷ ss) d vs)
    (declarator_ahead b p) (declaration_behind_eats b p (s ∷ ss)) ts

pub declaration_ahead : (b : Readers) → AreAhead b → Ahead (read_declaration b)
declaration_ahead b p =
    ahead_then (row_of take_specifiers) (declaration_with b) specifiers_ahead (declaration_with_ahead b p)

pub declaration_eats : (b : Readers) → AreAhead b → Eats (read_declaration b)
declaration_eats b p =
    eats_last (row_of take_specifiers) (declaration_with b) specifiers_ahead (declaration_with_eats b p)
