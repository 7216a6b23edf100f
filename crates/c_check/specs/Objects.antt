-- Names of objects outside functions (C99 6.9.2).
use Rattle.std.specs.Prelude.{Option, Some, None}
use Rattle.c_syntax.specs.declared.expression.Identifier.{Identifier}
use Rattle.c_typing.specs.Declarators.{ObjectType}
use Rattle.c_typing.specs.Library.{Entity}
use Rattle.c_typing.specs.Names.{Scope}
use Rattle.c_typing.specs.Statements.{bound_object}

-- the name of a thing is seen where it has a type that an object may have
abbrev pub bound_if_any : Identifier → Entity → Option ObjectType → Scope → Scope
bound_if_any name e None s = s
bound_if_any name e (Some type) s = bound_object name e type s
