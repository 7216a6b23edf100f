-- The names of tokens, and of a function and its parts.
use Rattle.std.specs.Prelude.{List}
use Rattle.std.specs.List.{AllByRecursion}
use Rattle.pcc_base.specs.Names.{IsName}
use Rattle.c_lex.specs.declared.token.Token.{Token}
use Rattle.c_lex.specs.declared.token.TokenKind.{TokenKind}
use Rattle.c_lex.specs.declared.token.TokenKind.TheVariants as tokens
use Rattle.c_tree.specs.Program.{Local, LocalArray, Function}

-- an identifier has a name, and other tokens have none
abbrev pub HasNameIfAny : TokenKind → Type 0
HasNameIfAny (tokens.Word word) = Unit {0}
HasNameIfAny (tokens.Ident name) = IsName name
HasNameIfAny (tokens.Number n unsigned) = Unit {0}
HasNameIfAny (tokens.Text bytes) = Unit {0}
HasNameIfAny (tokens.Mark mark) = Unit {0}

abbrev pub AreSpelled : List Token → Type 0
AreSpelled ts = AllByRecursion (λ (t : Token). HasNameIfAny t.kind) ts

-- the names of a function, of its locals and of its arrays are identifiers (C99 6.4.2.1)
pub record IsNamed (f : Function) : Type 0 where
  pub name : IsName f.name
  pub locals : AllByRecursion (λ (l : Local). IsName l.name) f.locals
  pub arrays : AllByRecursion (λ (a : LocalArray). IsName a.name) f.arrays
