-- Rows of statements as lists.
use Rattle.std.proofs.Common.{◌≡◌, refl, ap}
use Rattle.c_tree.specs.declared.statement.Statement.{Row_of-Statement, end_of-Statement, more_of-Statement}
use Rattle.c_tree.specs.declared.statement.Statement.{items-the_row-Statement}
use Rattle.c_tree.specs.Erased.{statement_of, statements_of, row_of}
use Rattle.c_tree.specs.Program.{Next, Statements}

-- a row of statements is the list of its items
pub statements_are : {m : _} (row : Row_of-Statement m) → row_of row ≡ statements_of (items-the_row-Statement m row)
statements_are end_of-Statement = refl
statements_are (more_of-Statement x rest) = ap (λ (xs : Statements). Next (statement_of x) xs) (statements_are rest)
