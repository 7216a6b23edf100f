-- A raw tree that the grammar doesn't make, whose typed program names a local before it is declared.
use Rattle.std.proofs.Common.{refl, ℕ, pos, List, [], ◌∷◌}
use Rattle.std.specs.Prelude.{codes, Some, None, unwrap_or}
use Rattle.std.proofs.lemmas.List.Elements.{recursion_from_All}
use Rattle.pcc_base.specs.declared.span.Span.{Span}
use Rattle.c_syntax.specs.declared.operator.SpecifierWord.TheVariants as words
use Rattle.c_syntax.specs.Expressions.{Identifier, Number}
use Rattle.c_syntax.specs.Declarations.{Plain, Function}
use Rattle.c_syntax.specs.Statements.{Declared, Block, If, Return, NoStmt, OneStmt, ExternalTree, FunctionTree}
use Rattle.c_tree.specs.Program.{Program}
use Rattle.c_typing.specs.Typed.{Typed, elaborated}
use Rattle.lower_laws.specs.Declared.{IsDeclaredFirst}
use Rattle.pcc_program.specs.DeclaredFirstLaws.{GrammarIsNeeded}
use Rattle.pcc_program.proofs.DeclaredFirstFiles.{IsFirst}

-- a column of the line
abbrev at : ℕ → Span
at col = record { file = 0; line = 1; col = col }

-- `int main(void){if(1)int x;return x;}`
abbrev arm : List (List ExternalTree)
arm =
    (FunctionTree (record { word = words.Int; at = at 1 } ∷ []) (record {
      pointer = None;
      name = record { name = codes "main"; at = at 5 };
      part = Function (record {
        opening = at 9;
        parameters = record {
          specifiers = record { word = words.Void; at = at 10 } ∷ [];
          pointer = None;
          name = None;
          array = None;
        } ∷ [];
        commas = [];
        close = at 14;
      });
    }) (Block (at 15) (OneStmt (If (at 16) (at 18) (Number (pos 1) (at 19)) (at 20) (Declared (record {
      specifiers = record { word = words.Int; at = at 21 } ∷ [];
      items = record {
        declarator = record { pointer = None; name = record { name = codes "x"; at = at 25 }; part = Plain };
        initialiser = None;
      } ∷ [];
      commas = [];
      semicolon = at 26;
    }))) (OneStmt (Return (at 27) (Some (Identifier (record { name = codes "x"; at = at 34 }))) (at 35)) NoStmt))
    (at 36)) ∷ []) ∷ []

abbrev program : Program
program = unwrap_or (elaborated arm) (record { objects = []; functions = []; main = 0 })

typed : Typed arm program
typed = record { no_fault = refl; bodies = refl; main = refl; is = refl }

-- `return x;` stands where nothing is declared
not_first : IsDeclaredFirst program → ⊥
not_first h = let r = recursion_from_All IsFirst program.functions h in r.0.1.0

pub grammar_needed : GrammarIsNeeded
grammar_needed = (arm, program, typed, not_first)
