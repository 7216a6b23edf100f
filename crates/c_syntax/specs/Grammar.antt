-- The raw tree of a list of tokens (C99 6.5 to 6.9).
use Rattle.std.specs.Prelude.{◌≡◌, ℕ, suc, max, List, [], ◌∷◌, ◌++◌}
use Rattle.std.specs.List.{AllByRecursion}
use Rattle.c_lex.specs.declared.token.Token.{Token}
use Rattle.c_syntax.specs.ExpressionTokens.{specifiers_tokens, IsSpecifiers}
use Rattle.c_syntax.specs.Declarations.{PartTree, Function}
use Rattle.c_syntax.specs.DeclarationTokens.{declarator_tokens, declaration_tokens, part_height, declaration_height}
use Rattle.c_syntax.specs.DeclarationTokens.{IsPart, IsDeclaration, greatest}
use Rattle.c_syntax.specs.Statements.{Stmt, Block, ExternalTree, FunctionTree, DeclaredTree}
use Rattle.c_syntax.specs.StatementTokens.{stmt_tokens, stmt_height, IsStmt}

abbrev pub external_tokens : ExternalTree → List Token
external_tokens (FunctionTree specifiers declarator body) =
    specifiers_tokens specifiers ++ (declarator_tokens declarator ++ stmt_tokens body)
external_tokens (DeclaredTree d) = declaration_tokens d

abbrev pub unit_tokens : List ExternalTree → List Token
unit_tokens [] = []
unit_tokens (e ∷ es) = external_tokens e ++ unit_tokens es

abbrev pub external_height : ExternalTree → ℕ
external_height (FunctionTree specifiers declarator body) = suc (max (part_height declarator.part) (stmt_height body))
external_height (DeclaredTree d) = declaration_height d

abbrev pub HasParameters : PartTree → Type 0
HasParameters (Function p) = Unit {0}
HasParameters _ = ⊥

abbrev pub IsBlock : Stmt → Type 0
IsBlock (Block o items c) = Unit {0}
IsBlock _ = ⊥

-- external : specifiers pointer? ident '(' parameters? ')' block | declaration  (C99 6.9)
abbrev pub IsExternal : ExternalTree → Type 0
IsExternal (FunctionTree specifiers declarator body) =
    IsSpecifiers specifiers × IsPart declarator.part × HasParameters declarator.part × IsStmt body × IsBlock body
IsExternal (DeclaredTree d) = IsDeclaration d

-- t is a raw tree of height h whose tokens are exactly these
pub record Tree (tokens : List Token) (h : ℕ) (t : List ExternalTree) : Type 0 where
  -- unit : external*
  pub is : AllByRecursion IsExternal t
  pub tokens_are : tokens ≡ unit_tokens t
  -- the unit is no node: its height is that of its highest node, and 0 where there is none
  pub height_is : h ≡ greatest external_height t
