-- The grammar of declarations (C99 6.7): the tokens of a tree, its height, and which trees the rules make.
use Rattle.std.specs.Prelude.{◌≡◌, ℕ, suc, ◌≤◌, max, List, [], ◌∷◌, ◌++◌, length, Option, Some, None}
use Rattle.std.specs.List.{AllByRecursion}
use Rattle.pcc_base.specs.declared.span.Span.{Span}
use Rattle.c_lex.specs.declared.token.Token.{Token}
use Rattle.c_lex.specs.declared.token.Punct.TheVariants as marks
use Rattle.c_syntax.specs.declared.expression.Identifier.{Identifier}
use Rattle.c_syntax.specs.Marks.{ident, mark}
use Rattle.c_syntax.specs.Expressions.{Expr, NoExpr, OneExpr}
use Rattle.c_syntax.specs.ExpressionTokens.{specifiers_tokens, pointer_tokens, expr_tokens, exprs_tokens, expr_height}
use Rattle.c_syntax.specs.ExpressionTokens.{exprs_height, looseness, IsExpr, AreValues, Separate, IsSpecifiers}
use Rattle.c_syntax.specs.Declarations.{ArrayTree, ParameterTree, ParametersTree, PartTree, Plain, Array, Function}
use Rattle.c_syntax.specs.Declarations.{DeclaratorTree, InitialiserTree, Single, Braces, ValueTree, ItemTree}
use Rattle.c_syntax.specs.Declarations.{DeclarationTree}

-- ---- several, with commas between them

abbrev pub followed : {A : Type 0} → (A → List Token) → List A → List Span → List Token
followed tokens [] commas = []
followed tokens (x ∷ xs) [] = []
followed tokens (x ∷ xs) (at ∷ commas) = mark marks.Comma at ∷ (tokens x ++ followed tokens xs commas)

abbrev pub separated : {A : Type 0} → (A → List Token) → List A → List Span → List Token
separated tokens [] commas = []
separated tokens (x ∷ xs) commas = tokens x ++ followed tokens xs commas

abbrev pub AreApart : {A : Type 0} → List A → List Span → Type 0
AreApart [] commas = commas ≡ []
AreApart (x ∷ xs) commas = length commas ≡ length xs

abbrev pub greatest : {A : Type 0} → (A → ℕ) → List A → ℕ
greatest height [] = 0
greatest height (x ∷ xs) = max (height x) (greatest height xs)

-- ---- tokens

abbrev pub maybe_expr_tokens : Option Expr → List Token
maybe_expr_tokens None = []
maybe_expr_tokens (Some e) = expr_tokens e

abbrev pub array_tokens : ArrayTree → List Token
array_tokens a = mark marks.LeftBracket a.opening ∷ (maybe_expr_tokens a.size ++ mark marks.RightBracket a.close ∷ [])

abbrev pub maybe_array_tokens : Option ArrayTree → List Token
maybe_array_tokens None = []
maybe_array_tokens (Some a) = array_tokens a

abbrev pub maybe_name_tokens : Option Identifier → List Token
maybe_name_tokens None = []
maybe_name_tokens (Some n) = ident n.name n.at ∷ []

abbrev pub parameter_tokens : ParameterTree → List Token
parameter_tokens p = specifiers_tokens p.specifiers
    ++ (pointer_tokens p.pointer ++ (maybe_name_tokens p.name ++ maybe_array_tokens p.array))

abbrev pub parameters_tokens : ParametersTree → List Token
parameters_tokens p = mark marks.LeftParen p.opening
    ∷ (separated parameter_tokens p.parameters p.commas ++ mark marks.RightParen p.close ∷ [])

abbrev pub part_tokens : PartTree → List Token
part_tokens Plain = []
part_tokens (Array a) = array_tokens a
part_tokens (Function p) = parameters_tokens p

abbrev pub declarator_tokens : DeclaratorTree → List Token
declarator_tokens d = pointer_tokens d.pointer ++ ident d.name.name d.name.at ∷ part_tokens d.part

abbrev pub maybe_comma_tokens : Option Span → List Token
maybe_comma_tokens None = []
maybe_comma_tokens (Some at) = mark marks.Comma at ∷ []

abbrev pub initialiser_tokens : InitialiserTree → List Token
initialiser_tokens (Single e) = expr_tokens e
initialiser_tokens (Braces o values commas trailing c) =
    mark marks.LeftBrace o ∷ (exprs_tokens values commas
    ++ (maybe_comma_tokens trailing ++ mark marks.RightBrace c ∷ []))

abbrev pub value_tokens : Option ValueTree → List Token
value_tokens None = []
value_tokens (Some v) = mark marks.Equal v.equal ∷ initialiser_tokens v.value

abbrev pub item_tokens : ItemTree → List Token
item_tokens i = declarator_tokens i.declarator ++ value_tokens i.initialiser

abbrev pub declaration_tokens : DeclarationTree → List Token
declaration_tokens d = specifiers_tokens d.specifiers
    ++ (separated item_tokens d.items d.commas ++ mark marks.Semicolon d.semicolon ∷ [])

-- ---- heights: a declaration is a node, its parts are none

abbrev pub maybe_expr_height : Option Expr → ℕ
maybe_expr_height None = 0
maybe_expr_height (Some e) = expr_height e

abbrev pub maybe_array_height : Option ArrayTree → ℕ
maybe_array_height None = 0
maybe_array_height (Some a) = maybe_expr_height a.size

abbrev pub parameter_height : ParameterTree → ℕ
parameter_height p = maybe_array_height p.array

abbrev pub part_height : PartTree → ℕ
part_height Plain = 0
part_height (Array a) = maybe_expr_height a.size
part_height (Function p) = greatest parameter_height p.parameters

abbrev pub initialiser_height : InitialiserTree → ℕ
initialiser_height (Single e) = expr_height e
initialiser_height (Braces o values commas trailing c) = exprs_height values

abbrev pub value_height : Option ValueTree → ℕ
value_height None = 0
value_height (Some v) = initialiser_height v.value

abbrev pub item_height : ItemTree → ℕ
item_height i = max (part_height i.declarator.part) (value_height i.initialiser)

abbrev pub declaration_height : DeclarationTree → ℕ
declaration_height d = suc (greatest item_height d.items)

-- ---- rules

-- a conditional, where there is one
abbrev pub IsMaybeConditional : Option Expr → Type 0
IsMaybeConditional None = Unit {0}
IsMaybeConditional (Some e) = IsExpr e × (looseness e ≤ 14)

abbrev pub IsMaybeArray : Option ArrayTree → Type 0
IsMaybeArray None = Unit {0}
IsMaybeArray (Some a) = IsMaybeConditional a.size

-- parameter : specifiers pointer? ident? ('[' conditional? ']')?  (C99 6.7.5.3)
abbrev pub IsParameter : ParameterTree → Type 0
IsParameter p = IsSpecifiers p.specifiers × IsMaybeArray p.array

-- parameters : parameter (',' parameter)*
abbrev pub IsParameters : ParametersTree → Type 0
IsParameters p = AllByRecursion IsParameter p.parameters × AreApart p.parameters p.commas

-- declarator : pointer? ident ('[' conditional? ']' | '(' parameters? ')')?  (C99 6.7.5)
abbrev pub IsPart : PartTree → Type 0
IsPart Plain = Unit {0}
IsPart (Array a) = IsMaybeConditional a.size
IsPart (Function p) = IsParameters p

-- initialiser : assignment | '{' assignment (',' assignment)* ','? '}'  (C99 6.7.8)
abbrev pub IsInitialiser : InitialiserTree → Type 0
IsInitialiser (Single e) = IsExpr e × (looseness e ≤ 15)
IsInitialiser (Braces o NoExpr commas trailing c) = ⊥
IsInitialiser (Braces o (OneExpr e es) commas trailing c) = AreValues (OneExpr e es) × Separate (OneExpr e es) commas

abbrev pub IsMaybeValue : Option ValueTree → Type 0
IsMaybeValue None = Unit {0}
IsMaybeValue (Some v) = IsInitialiser v.value

-- item : declarator ('=' initialiser)?
abbrev pub IsItem : ItemTree → Type 0
IsItem i = IsPart i.declarator.part × IsMaybeValue i.initialiser

abbrev pub AreItems : List ItemTree → Type 0
AreItems [] = ⊥
AreItems (i ∷ is) = AllByRecursion IsItem (i ∷ is)

-- declaration : specifiers item (',' item)* ';'  (C99 6.7)
abbrev pub IsDeclaration : DeclarationTree → Type 0
IsDeclaration d = IsSpecifiers d.specifiers × AreItems d.items × AreApart d.items d.commas
