-- The raw trees of texts are sources.
use Rattle.std.proofs.Common.{ℕ, suc, List, [], ◌∷◌, ◌++◌, subst}
use Rattle.std.specs.Prelude.{flat_map}
use Rattle.std.specs.List.{AllByRecursion}
use Rattle.std.proofs.lemmas.List.Elements.{All-from_recursion}
use Rattle.c_lex.specs.declared.token.Token.{Token}
use Rattle.c_syntax.specs.Grammar.{IsExternal, unit_tokens}
use Rattle.c_syntax.specs.Statements.{ExternalTree}
use Rattle.c_typing.specs.Laws.{HasIntIfAny}
use Rattle.c_check_laws.specs.Laws.{AreUnitsOf, TextsAreSources}
use Rattle.c_check_laws.proofs.Apart.{AreApart, AreOfFile, OfText, apart_both, files_both, pairs_apart, text_apart}
use Rattle.c_check_laws.proofs.Ints.{HaveInts, text_ints}

record Sources (file : ℕ) (units : List (List ExternalTree)) : Type 0 where
  pub trees : AllByRecursion (AllByRecursion IsExternal) units
  pub of : AreOfFile file (flat_map unit_tokens units)
  pub apart : AreApart (flat_map unit_tokens units)
  pub ints : HaveInts (flat_map unit_tokens units)

ints_both : (ts us : List Token) → HaveInts ts → HaveInts us → HaveInts (ts ++ us)
ints_both [] us h k = k
ints_both (t ∷ ts) us h k = (h.0, ints_both ts us h.1 k)

sources : (file : ℕ) (texts : List (List ℕ)) (units : List (List ExternalTree)) → AreUnitsOf file texts units
    → Sources file units
sources file [] [] h = record { trees = tt; of = tt; apart = tt; ints = tt }
sources file [] (unit ∷ units) h = absurd h
sources file (text ∷ texts) [] h = absurd h
sources file (text ∷ texts) (unit ∷ units) ((tokens, height, lexed, tree), h) =
    let others = sources (suc file) texts units h in
    let us = flat_map unit_tokens units in
    let of = subst (OfText file) tree.tokens_are (text_apart file text tokens lexed) in
    let ints = subst HaveInts tree.tokens_are (text_ints file text tokens lexed) in
    record {
      trees = (tree.is, others.trees);
      of = files_both file (unit_tokens unit) us of others.of;
      apart = apart_both file (unit_tokens unit) us of others.of others.apart;
      ints = ints_both (unit_tokens unit) us ints others.ints;
    }

pub texts_are_sources : TextsAreSources
texts_are_sources texts units h =
    let s = sources 0 texts units h in
    record {
      trees = s.trees;
      places = pairs_apart (flat_map unit_tokens units) s.apart;
      numbers = All-from_recursion (λ (t : Token). HasIntIfAny t.kind) (flat_map unit_tokens units) s.ints;
    }
