-- The ten tokens of a small program.
use Rattle.std.proofs.Common.{arith, ap, refl, ◌<◌, ◌≤◌, ℕ, List, [], ◌∷◌}
use Rattle.std.proofs.lemmas.Int.{ints}
use Rattle.std.proofs.lemmas.List.Elements.{All-from_recursion}
use Rattle.std.specs.List.{AllByRecursion}
use Rattle.std.specs.Prelude.{codes, flat_map, pos, Some, None, unwrap_or}
use Rattle.pcc_base.specs.declared.span.Span.{Span}
use Rattle.c_lex.specs.declared.token.Token.{Token}
use Rattle.c_syntax.specs.declared.operator.SpecifierWord.TheVariants as words
use Rattle.c_syntax.specs.Expressions.{Number}
use Rattle.c_syntax.specs.Declarations.{Function}
use Rattle.c_syntax.specs.Grammar.{unit_tokens}
use Rattle.c_syntax.specs.Statements.{Block, Return, NoStmt, OneStmt, ExternalTree, FunctionTree}
use Rattle.c_tree.specs.Program.{Program}
use Rattle.c_check_laws.proofs.Apart.{Apart, AreApart, pairs_apart}
use Rattle.c_typing.specs.Laws.{AreSources, HasIntIfAny}
use Rattle.c_typing.specs.Typed.{Typed, elaborated}
use Rattle.pcc_program.specs.TokensLaws.{TenTokens}

-- a column of the line
abbrev at : ℕ → Span
at col = record { file = 0; line = 1; col = col }

-- `int main(void){return 0;}`
abbrev tiny : List (List ExternalTree)
tiny =
    (FunctionTree (record { word = words.Int; at = at 1 } ∷ []) (record {
      pointer = None;
      name = record { name = codes "main"; at = at 5 };
      part = Function (record {
        opening = at 9;
        parameters = record {
          specifiers = record { word = words.Void; at = at 10 } ∷ [];
          pointer = None;
          name = None;
          array = None;
        } ∷ [];
        commas = [];
        close = at 14;
      });
    }) (Block (at 15) (OneStmt (Return (at 16) (Some (Number (pos 0) (at 23))) (at 24)) NoStmt) (at 25)) ∷ []) ∷ []

abbrev program : Program
program = unwrap_or (elaborated tiny) (record { objects = []; functions = []; main = 0 })

typed : Typed tiny program
typed = record { no_fault = refl; bodies = refl; main = refl; is = refl }

-- ---- its tokens stand at different places

-- the columns ascend
abbrev Ascend : ℕ → List Token → Type 0
Ascend col [] = Unit {0}
Ascend col (t ∷ ts) = (col < t.at.col) × Ascend t.at.col ts

before_all : (t : Token) (col : ℕ) (ts : List Token) → t.at.col ≤ col → Ascend col ts → AllByRecursion (Apart t) ts
before_all t col [] low h = tt
before_all t col (u ∷ ts) low h = (
  λ same. let next = h.0 in
      let column = ap (λ (s : Span). s.col) same in
      absurd (omega (arith, low, next, column)),
  before_all t u.at.col ts (let next = h.0 in omega (arith, low, next)) h.1,
)

ascending_apart : (col : ℕ) (ts : List Token) → Ascend col ts → AreApart ts
ascending_apart col [] h = tt
ascending_apart col (t ∷ ts) h = (before_all t t.at.col ts (omega arith) h.1, ascending_apart t.at.col ts h.1)

ascend : Ascend 0 (flat_map unit_tokens tiny)
ascend = (
  omega arith,
  (
    omega arith,
    (
      omega arith,
      (omega arith, (omega arith, (omega arith, (omega arith, (omega arith, (omega arith, (omega arith, tt))))))),
    ),
  ),
)

sources : AreSources tiny
sources =
    record {
      trees = (((tt, (((tt, tt), tt), refl), tt, (tt, tt, tt), tt), tt), tt);
      places = pairs_apart (flat_map unit_tokens tiny) (ascending_apart 0 (flat_map unit_tokens tiny) ascend);
      numbers = All-from_recursion (λ (t : Token). HasIntIfAny t.kind) (flat_map unit_tokens tiny)
          (tt, (tt, (tt, (tt, (tt, (tt, (tt, ((omega (arith, ints), omega (arith, ints)), (tt, (tt, tt))))))))));
    }

pub ten_tokens : TenTokens
ten_tokens = (tiny, program, sources, typed, refl, refl, refl)
