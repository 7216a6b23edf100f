use Rattle.std.proofs.Common.{◌≡◌, ◌∙◌, ℕ, not, take, subst, sym, rules, tests}
use Rattle.std.proofs.Math.Bool.{not-not}
use Rattle.std.proofs.lemmas.Iterator.{YieldsList-from_slice}
use Rattle.std.proofs.lemmas.Iterator.Search.{position_from_yields_List}
use Rattle.std.specs.List.{prefix_len}
use Rattle.c_lex.specs.Bytes.{is_word_byte}
use Rattle.c_lex.specs.Literals.{AllPass}
use Rattle.c_lex.proofs.FrontLengths.{front_length}
use Rattle.c_lex.proofs.SkipPieces.{front_passes}
use Rattle.c_lex.proofs.words.word_length.Goals as goal

pub returns-clause-word : goal.returns-clause-word
returns-clause-word c =
    let rest = c.args.rest.now in
    let count : c.unwrap_or.result ≡ prefix_len is_word_byte rest =
    c.unwrap_or.ensures
    ∙ front_length is_word_byte (λ b. not (is_word_byte b)) (λ b. not-not (is_word_byte b)) rest c.position.result
    (position_from_yields_List _ _ _ _ c.position.ensures.ran (YieldsList-from_slice rest cc)
    (λ x b q k. search (rules, tests))) in
    subst (λ (n : ℕ). AllPass is_word_byte (take n rest)) (sym count) (front_passes is_word_byte rest)
