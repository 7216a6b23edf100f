-- Declarations as definitions see them: without the boxes and vectors that hold their parts.
use Rattle.std.specs.Prelude.{List, map, Option, Some, None}
use Rattle.std.specs.Global.{Box}
use Rattle.pcc_base.specs.declared.span.Span.{Span}
use Rattle.c_syntax.specs.declared.expression.Identifier.{Identifier}
use Rattle.c_syntax.specs.declared.expression.Specifier.{Specifier}
use Rattle.c_syntax.specs.declared.expression.Expression.{Expression}
use Rattle.c_syntax.specs.declared.declaration.ArrayPart.{ArrayPart}
use Rattle.c_syntax.specs.declared.declaration.Parameter.{Parameter}
use Rattle.c_syntax.specs.declared.declaration.ParametersPart.{ParametersPart}
use Rattle.c_syntax.specs.declared.declaration.DeclaratorPart.{DeclaratorPart}
use Rattle.c_syntax.specs.declared.declaration.DeclaratorPart.TheVariants as parts
use Rattle.c_syntax.specs.declared.declaration.Declarator.{Declarator}
use Rattle.c_syntax.specs.declared.declaration.Initialiser.{Initialiser}
use Rattle.c_syntax.specs.declared.declaration.Initialiser.TheVariants as initialisers
use Rattle.c_syntax.specs.declared.declaration.InitialiserPart.{InitialiserPart}
use Rattle.c_syntax.specs.declared.declaration.Item.{Item}
use Rattle.c_syntax.specs.declared.declaration.Declaration.{Declaration}
use Rattle.c_syntax.specs.Expressions.{Star, star_of, Expr, Exprs, exprs_of, expr_of}

-- '[' conditional? ']'
pub record ArrayTree : Type 0 where
  pub opening : Span
  pub size : Option Expr
  pub close : Span

-- parameter : specifiers pointer? ident? ('[' conditional? ']')?
pub record ParameterTree : Type 0 where
  pub specifiers : List Specifier
  pub pointer : Option Star
  pub name : Option Identifier
  pub array : Option ArrayTree

-- '(' parameters? ')'
pub record ParametersTree : Type 0 where
  pub opening : Span
  pub parameters : List ParameterTree
  pub commas : List Span
  pub close : Span

-- what stands behind the name of a declarator
pub data PartTree : Type 0 where
  Plain : PartTree
  Array : (array : ArrayTree) → PartTree
  Function : (parameters : ParametersTree) → PartTree

-- declarator : pointer? ident ('[' conditional? ']' | '(' parameters? ')')?
pub record DeclaratorTree : Type 0 where
  pub pointer : Option Star
  pub name : Identifier
  pub part : PartTree

-- initialiser : assignment | '{' assignment (',' assignment)* ','? '}'
pub data InitialiserTree : Type 0 where
  Single : (value : Expr) → InitialiserTree
  Braces : (opening : Span) (values : Exprs) (commas : List Span) (trailing : Option Span) (close : Span)
      → InitialiserTree

-- '=' initialiser
pub record ValueTree : Type 0 where
  pub equal : Span
  pub value : InitialiserTree

-- item : declarator ('=' initialiser)?
pub record ItemTree : Type 0 where
  pub declarator : DeclaratorTree
  pub initialiser : Option ValueTree

-- declaration : specifiers item (',' item)* ';'
pub record DeclarationTree : Type 0 where
  pub specifiers : List Specifier
  pub items : List ItemTree
  pub commas : List Span
  pub semicolon : Span

-- ---- what the raw parts stand for

abbrev pub maybe_expr_of : Option (Box Expression) → Option Expr
maybe_expr_of None = None
maybe_expr_of (Some e) = Some (expr_of e.value)

abbrev pub array_of : ArrayPart → ArrayTree
array_of a = record { opening = a.opening; size = maybe_expr_of a.size; close = a.close }

abbrev pub maybe_array_of : Option ArrayPart → Option ArrayTree
maybe_array_of None = None
maybe_array_of (Some a) = Some (array_of a)

abbrev pub parameter_of : Parameter → ParameterTree
parameter_of p = record {
  specifiers = p.specifiers.items;
  pointer = star_of p.pointer;
  name = p.name;
  array =
      maybe_array_of p.array;
}

abbrev pub parameters_of : ParametersPart → ParametersTree
parameters_of p = record {
  opening = p.opening;
  parameters = map parameter_of p.parameters.items;
  commas =
      p.commas.items;
  close = p.close;
}

abbrev pub part_of : DeclaratorPart → PartTree
part_of parts.Plain = Plain
part_of (parts.Array a) = Array (array_of a)
part_of (parts.Function p) = Function (parameters_of p)

abbrev pub declarator_of : Declarator → DeclaratorTree
declarator_of d = record { pointer = star_of d.pointer; name = d.name; part = part_of d.part }

abbrev pub initialiser_of : Initialiser → InitialiserTree
initialiser_of (initialisers.Single e) = Single (expr_of e.value)
initialiser_of (initialisers.List o values commas trailing c) =
    Braces o (exprs_of (map expr_of values.items)) commas.items trailing c

abbrev pub value_of : Option InitialiserPart → Option ValueTree
value_of None = None
value_of (Some i) = Some (record { equal = i.equal; value = initialiser_of i.value })

abbrev pub item_of : Item → ItemTree
item_of i = record { declarator = declarator_of i.declarator; initialiser = value_of i.initialiser }

abbrev pub declaration_of : Declaration → DeclarationTree
declaration_of d = record {
  specifiers = d.specifiers.items;
  items = map item_of d.items.items;
  commas = d.commas.items;
  semicolon = d.semicolon;
}
