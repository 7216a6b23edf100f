-- The raw trees of texts are those of each text, and their tokens are those of the texts.
use Rattle.std.proofs.Common.{arith, ◌≡◌, refl, subst, ℕ, suc, List, [], ◌∷◌, length, length-append}
use Rattle.std.specs.Prelude.{flat_map}
use Rattle.c_lex.specs.declared.token.Token.{Token}
use Rattle.c_syntax.specs.Grammar.{unit_tokens}
use Rattle.c_syntax.specs.Statements.{ExternalTree}
use Rattle.c_front.specs.Accepted.{HaveTokens, HaveTrees, total}
use Rattle.c_check_laws.specs.Laws.{AreUnitsOf}
use Rattle.c_check_laws.proofs.Sources.{texts_are_sources}
use Rattle.c_check_laws.proofs.Words.{identifiers_have_names}
use Rattle.c_front.specs.UnitLaws.{UnitsAreFew, UnitsAreSources, UnitsHaveNames}

-- the raw trees are those of the texts
units_of : (file : ℕ) (texts : List (List ℕ)) (files : List (List Token)) (units : List (List ExternalTree))
    → HaveTokens file texts files → HaveTrees files units → AreUnitsOf file texts units
units_of file [] [] [] lexed trees = tt
units_of file [] [] (unit ∷ units) lexed trees = absurd trees
units_of file [] (tokens ∷ files) units lexed trees = absurd lexed
units_of file (text ∷ texts) [] units lexed trees = absurd lexed
units_of file (text ∷ texts) (tokens ∷ files) [] lexed trees = absurd trees
units_of file (text ∷ texts) (tokens ∷ files) (unit ∷ units) (lexed, others) ((height, low, tree), trees) =
    ((tokens, height, lexed, tree), units_of (suc file) texts files units others trees)

-- so many tokens they have
pub total_is : (files : List (List Token)) (units : List (List ExternalTree)) → HaveTrees files units
    → length (flat_map unit_tokens units) ≡ total files
total_is [] [] trees = refl
total_is [] (unit ∷ units) trees = absurd trees
total_is (tokens ∷ files) [] trees = absurd trees
total_is (tokens ∷ files) (unit ∷ units) ((height, low, tree), trees) =
    let h = total_is files units trees in
    let l = length-append (unit_tokens unit) (flat_map unit_tokens units) in
    let n = subst (λ ts. length ts ≡ length tokens) tree.tokens_are refl in
    omega (arith, h, l, n)

pub units_are_sources : UnitsAreSources
units_are_sources texts units have =
    texts_are_sources texts units (units_of 0 texts have.files units have.tokens have.trees)

pub units_are_few : UnitsAreFew
units_are_few texts units have =
    let few = have.few in
    let e = total_is have.files units have.trees in
    omega (arith, few, e)

pub units_have_names : UnitsHaveNames
units_have_names texts units have =
    identifiers_have_names texts units (units_of 0 texts have.files units have.tokens have.trees)
