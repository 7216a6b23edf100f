-- Reading declarations from the front of a list of tokens, by readers of expressions.
use Rattle.std.specs.Prelude.{false, List, [], ◌∷◌, ◌++◌, Option, Some, None}
use Rattle.pcc_base.specs.declared.span.Span.{Span}
use Rattle.c_lex.specs.declared.token.Token.{Token}
use Rattle.c_lex.specs.declared.token.TokenKind.{TokenKind}
use Rattle.c_lex.specs.declared.token.TokenKind.TheVariants as kinds
use Rattle.c_lex.specs.declared.token.Punct.{Punct}
use Rattle.c_lex.specs.declared.token.Punct.TheVariants as marks
use Rattle.c_syntax.specs.declared.expression.Identifier.{Identifier}
use Rattle.c_syntax.specs.declared.expression.Specifier.{Specifier}
use Rattle.c_syntax.specs.Expressions.{Star, Expr, exprs_of}
use Rattle.c_syntax.specs.Declarations.{ArrayTree, ParameterTree, ParametersTree, PartTree, Plain, Array, Function}
use Rattle.c_syntax.specs.Declarations.{DeclaratorTree, InitialiserTree, Single, Braces, ValueTree, ItemTree}
use Rattle.c_syntax.specs.Declarations.{DeclarationTree}
use Rattle.c_grammar.specs.Chains.{Step, Done, Goes, Takes, Reads, Found, Faults, then_read, then_step, room, chained}
use Rattle.c_syntax.specs.Marks.{mark}
use Rattle.c_grammar.specs.Taking.{take_mark, take_specifiers, take_pointer}
use Rattle.c_grammar.specs.Taking.{read_mark}
use Rattle.c_grammar.specs.Reading.{Reader, Readers, Values}

-- ---- several, with commas between them

abbrev pub Listed : Type 0 → Type 0
Listed A = List A × List Span

abbrev pub list_at : {A : Type 0} → (List Token → Reads A) → Listed A → Takes Span → Step (Listed A)
list_at read so_far None = Done
list_at read so_far (Some (comma, ts)) = then_step (read ts)
    (λ a us. Goes (so_far.0 ++ a ∷ [], so_far.1 ++ comma ∷ []) us)

abbrev pub list_step : {A : Type 0} → (List Token → Reads A) → Listed A → List Token → Step (Listed A)
list_step read so_far ts = list_at read so_far (take_mark marks.Comma ts)

-- behind the first one
abbrev pub read_more : {A : Type 0} → (List Token → Reads A) → A → List Token → Reads (Listed A)
read_more read a ts = chained (list_step read) (a ∷ [], []) ts

-- ---- declarators

abbrev pub name_from : TokenKind → Token → List Token → Option Identifier × List Token
name_from (kinds.Ident name) t ts = (Some (record { name = name; at = t.at }), ts)
name_from _ t ts = (None, t ∷ ts)

-- ident?
abbrev pub take_name : List Token → Option Identifier × List Token
take_name [] = (None, [])
take_name (t ∷ ts) = name_from t.kind t ts

abbrev pub maybe_from : Reader → Takes Span → List Token → Reads (Option Expr)
maybe_from read (Some close) ts = Found None ts
maybe_from read None ts = then_read (read ts) (λ e us. Found (Some e) us)

-- an expression, where a mark does not come at once
abbrev pub maybe_before : Reader → Punct → List Token → Reads (Option Expr)
maybe_before read close ts = maybe_from read (take_mark close ts) ts

abbrev pub array_behind : Readers → Span → List Token → Reads ArrayTree
array_behind below o ts =
    then_read (maybe_before below.conditional marks.RightBracket ts)
    (λ size us. then_read (read_mark marks.RightBracket us)
    (λ c vs. Found (record { opening = o; size = size; close = c }) vs))

abbrev pub maybe_array_from : Readers → Takes Span → List Token → Reads (Option ArrayTree)
maybe_array_from below None ts = Found None ts
maybe_array_from below (Some (o, us)) ts = then_read (array_behind below o us) (λ a vs. Found (Some a) vs)

abbrev pub read_maybe_array : Readers → List Token → Reads (Option ArrayTree)
read_maybe_array below ts = maybe_array_from below (take_mark marks.LeftBracket ts) ts

abbrev pub parameter_named : Readers → List Specifier → Option Star → Option Identifier × List Token
    → Reads ParameterTree
parameter_named below ss pointer name =
    then_read (read_maybe_array below name.1)
    (λ a vs. Found (record { specifiers = ss; pointer = pointer; name = name.0; array = a }) vs)

abbrev pub parameter_behind : Readers → List Specifier → Option Star × List Token → Reads ParameterTree
parameter_behind below ss pointer = parameter_named below ss pointer.0 (take_name pointer.1)

abbrev pub parameter_with : Readers → List Specifier → List Token → Reads ParameterTree
parameter_with below [] us = Faults false us
parameter_with below (s ∷ ss) us = parameter_behind below (s ∷ ss) (take_pointer us)

abbrev pub read_parameter : Readers → List Token → Reads ParameterTree
read_parameter below ts = parameter_with below (take_specifiers ts).0 (take_specifiers ts).1

abbrev pub parameters_from : Readers → Takes Span → List Token → Reads (Listed ParameterTree)
parameters_from below (Some close) ts = Found ([], []) ts
parameters_from below None ts = then_read (read_parameter below ts) (λ p us. read_more (read_parameter below) p us)

abbrev pub read_parameters : Readers → List Token → Reads (Listed ParameterTree)
read_parameters below ts = parameters_from below (take_mark marks.RightParen ts) ts

abbrev pub parameters_behind : Readers → Span → List Token → Reads ParametersTree
parameters_behind below o ts =
    then_read (read_parameters below ts) (λ ps us.
    then_read (read_mark marks.RightParen us)
    (λ c vs. Found (record { opening = o; parameters = ps.0; commas = ps.1; close = c }) vs))

abbrev pub part_in_parens : Readers → Takes Span → List Token → Reads PartTree
part_in_parens below None ts = Found Plain ts
part_in_parens below (Some (o, us)) ts = then_read (parameters_behind below o us) (λ p vs. Found (Function p) vs)

abbrev pub part_from : Readers → Takes Span → List Token → Reads PartTree
part_from below (Some (o, us)) ts = then_read (array_behind below o us) (λ a vs. Found (Array a) vs)
part_from below None ts = part_in_parens below (take_mark marks.LeftParen ts) ts

abbrev pub read_part : Readers → List Token → Reads PartTree
read_part below ts = part_from below (take_mark marks.LeftBracket ts) ts

abbrev pub declarator_named : Readers → Option Star → Option Identifier → List Token → Reads DeclaratorTree
declarator_named below pointer None us = Faults false us
declarator_named below pointer (Some n) us =
    then_read (read_part below us) (λ part vs. Found (record { pointer = pointer; name = n; part = part }) vs)

abbrev pub declarator_behind : Readers → Option Star × List Token → Reads DeclaratorTree
declarator_behind below pointer = declarator_named below pointer.0 (take_name pointer.1).0 (take_name pointer.1).1

abbrev pub read_declarator : Readers → List Token → Reads DeclaratorTree
read_declarator below ts = declarator_behind below (take_pointer ts)

-- ---- initialisers

-- the values so far, and the comma behind the last of them
abbrev pub Braced : Type 0
Braced = Values × Option Span

abbrev pub brace_close : Readers → Values → Span → Takes Span → List Token → Step Braced
brace_close below so_far comma (Some close) ts = Goes (so_far, Some comma) ts
brace_close below so_far comma None ts = then_step (below.assignment ts)
    (λ e us. Goes ((so_far.0 ++ e ∷ [], so_far.1 ++ comma ∷ []), None) us)

abbrev pub brace_at : Readers → Values → Takes Span → Step Braced
brace_at below so_far None = Done
brace_at below so_far (Some (comma, ts)) = brace_close below so_far comma (take_mark marks.RightBrace ts) ts

abbrev pub brace_behind : Readers → Values → Option Span → List Token → Step Braced
brace_behind below so_far (Some trailing) ts = Done
brace_behind below so_far None ts = brace_at below so_far (take_mark marks.Comma ts)

-- one more value, behind a comma, or the comma that is the last
abbrev pub brace_step : Readers → Braced → List Token → Step Braced
brace_step below so_far ts = brace_behind below so_far.0 so_far.1 ts

abbrev pub braces_end : Span → Braced → List Token → Reads InitialiserTree
braces_end o braced ts = then_read (read_mark marks.RightBrace ts)
    (λ c us. Found (Braces o (exprs_of braced.0.0) braced.0.1 braced.1 c) us)

-- assignment (',' assignment)* ','?
abbrev pub read_values : Readers → List Token → Reads Braced
read_values below ts = then_read (below.assignment ts) (λ e us. chained (brace_step below) ((e ∷ [], []), None) us)

abbrev pub braces_behind : Readers → Span → List Token → Reads InitialiserTree
braces_behind below o ts = then_read (read_values below ts) (λ braced us. braces_end o braced us)

abbrev pub initialiser_from : Readers → Takes Span → List Token → Reads InitialiserTree
initialiser_from below None ts = then_read (below.assignment ts) (λ e us. Found (Single e) us)
initialiser_from below (Some (o, us)) ts = braces_behind below o us

abbrev pub read_initialiser : Readers → List Token → Reads InitialiserTree
read_initialiser below ts = initialiser_from below (take_mark marks.LeftBrace ts) ts

-- ---- items and declarations

abbrev pub value_from : Readers → Takes Span → List Token → Reads (Option ValueTree)
value_from below None ts = Found None ts
value_from below (Some (equal, us)) ts =
    then_read (room below.height (mark marks.Equal equal) us (read_initialiser below us))
    (λ v vs. Found (Some (record { equal = equal; value = v })) vs)

abbrev pub item_behind : Readers → DeclaratorTree → List Token → Reads ItemTree
item_behind below d ts = then_read (value_from below (take_mark marks.Equal ts) ts)
    (λ v us. Found (record { declarator = d; initialiser = v }) us)

abbrev pub read_item : Readers → List Token → Reads ItemTree
read_item below ts = then_read (read_declarator below ts) (λ d us. item_behind below d us)

-- a declaration behind its first declarator
abbrev pub declaration_behind : Readers → List Specifier → DeclaratorTree → List Token → Reads DeclarationTree
declaration_behind below ss d ts =
    then_read (item_behind below d ts) (λ i us.
    then_read (read_more (read_item below) i us)
    (λ items vs. then_read (read_mark marks.Semicolon vs)
    (λ semicolon ws. Found
    (record { specifiers = ss; items = items.0; commas = items.1; semicolon = semicolon })
    ws)))

abbrev pub declaration_with : Readers → List Specifier → List Token → Reads DeclarationTree
declaration_with below [] us = Faults false us
declaration_with below (s ∷ ss) us = then_read (read_declarator below us)
    (λ d vs. declaration_behind below (s ∷ ss) d vs)

-- a declaration, by readers for one less than its height
abbrev pub read_declaration : Readers → List Token → Reads DeclarationTree
read_declaration below ts = declaration_with below (take_specifiers ts).0 (take_specifiers ts).1
