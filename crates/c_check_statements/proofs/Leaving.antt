-- A scope is closed: what was seen before it is seen again.
use Rattle.std.proofs.Common.{◌≡◌, ap, ◌∙◌, ℕ, List, ◌++◌, length}
use Rattle.c_syntax.specs.Declarations.{DeclarationTree}
use Rattle.c_syntax.specs.Statements.{Stmt, Stmts}
use Rattle.c_typing.specs.Names.{Binding, Scope, entered, left}
use Rattle.c_typing.specs.Statements.{after_declaration, after_statement, after_statements}
use Rattle.c_typing.specs.Types.{InFor}
use Rattle.c_check_statements.proofs.NamesGrow.{Grows, declaration_grows, grows_on, statement_grows, statements_grow}

-- what closing the scopes since a mark does, where names were only added since
abbrev pub Leaves : Scope → ℕ → ℕ → Scope → Type 0
Leaves inside names depth behind = (outside : Scope) (more : List Binding) → inside.names ≡ more ++ outside.names
    → names ≡ length outside.names → depth ≡ outside.depth → behind ≡ left outside inside

left_from : (s inside t behind : Scope) (names depth : ℕ) → t ≡ inside → Grows s inside
    → Leaves t names depth behind → names ≡ length s.names → depth ≡ s.depth → behind ≡ left s inside
left_from s inside t behind names depth is g leaves count deep =
    leaves s g.more (ap (λ (u : Scope). u.names) is ∙ g.names) count deep ∙ ap (left s) is

-- what is seen in a scope that was opened is what was seen before it, and more
from_entered : (s t : Scope) → Grows (entered s) t → Grows s t
from_entered s t g = record { more = g.more; names = g.names }

-- behind a block
pub left_block : (s inside t behind : Scope) (sts : Stmts) (names depth : ℕ) → inside ≡ entered s
    → t ≡ after_statements sts inside → Leaves t names depth behind → names ≡ length s.names → depth ≡ s.depth
    → behind ≡ left s (after_statements sts (entered s))
left_block s inside t behind sts names depth opened is leaves count deep =
    left_from s (after_statements sts (entered s)) t behind names depth (is ∙ ap (after_statements sts) opened)
    (from_entered s (after_statements sts (entered s)) (statements_grow sts (entered s))) leaves count deep

-- behind a `for` with a declaration
pub left_for : (s inside declared t behind : Scope) (d : DeclarationTree) (st : Stmt) (names depth : ℕ)
    → inside ≡ entered s → declared ≡ after_declaration InFor d inside → t ≡ after_statement st declared
    → Leaves t names depth behind → names ≡ length s.names → depth ≡ s.depth
    → behind ≡ left s (after_statement st (after_declaration InFor d (entered s)))
left_for s inside declared t behind d st names depth opened seen is leaves count deep =
    let u = after_declaration InFor d (entered s) in
    left_from s (after_statement st u) t behind names depth
    (is ∙ ap (after_statement st) (seen ∙ ap (after_declaration InFor d) opened))
    (grows_on s u (after_statement st u) (from_entered s u (declaration_grows InFor d (entered s)))
    (statement_grows st u))
    leaves count deep
