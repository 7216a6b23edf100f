-- The pieces that aren't tokens, and `/` and `/=`.
use Rattle.std.proofs.Common.{◌≡◌, ◌≢◌, ◌<◌, ◌≤◌, ◌+◌, ◌-◌, ℕ, zero, suc, Bool, true, false, not, cond, List, [], ◌∷◌}
use Rattle.std.proofs.Common.{◌++◌, take, drop, get_or, length, IsTrue, refl, sym, ap, subst, inl, inr, ◌⊎◌, ◌∙◌, codes}
use Rattle.std.proofs.Common.{arith}
use Rattle.std.proofs.lemmas.List.{length-take, length-take-le, get_or-take, take-append-drop, get_or_at}
use Rattle.std.proofs.lemmas.List.{get_or-append-add, length-append, take_more, drop_more, append_assoc}
use Rattle.std.proofs.lemmas.List.{get_or_append_left}
use Rattle.std.proofs.lemmas.List.Folds.{length-prefix_len}
use Rattle.std.proofs.lemmas.List.Sums.{prefix_len-le-length}
use Rattle.std.proofs.Math.Numerals.{one-add}
use Rattle.std.proofs.lemmas.Bool.{false≢true}
use Rattle.std.proofs.lemmas.Bool.Decides.{nat_tests}
use Rattle.std.specs.Prelude.{◌==◌}
use Rattle.std.specs.List.{prefix_len}
use Rattle.pcc_base.specs.Ascii.{newline, hash, percent, star, slash, colon, equals_sign, capital_l, letter_p}
use Rattle.c_lex.specs.declared.token.TokenKind.TheVariants as kinds
use Rattle.c_lex.specs.declared.token.Punct.TheVariants as marks
use Rattle.c_lex.specs.Bytes.{is_space, is_blank}
use Rattle.c_lex.specs.Literals.{AllPass}
use Rattle.c_lex.specs.Pieces.{Piece, Space, Comment, Skipped, Spelled, IsPiece, IsLineComment, IsBlockComment}
use Rattle.c_lex.specs.Pieces.{IsBarred, IsMarker, Begins, NoneBegins, line_of}
use Rattle.c_lex.specs.Directives.{IsDirective}
use Rattle.c_lex.proofs.PieceStarts.{starts, piece_starts, is_empty, may_be_mark, IsMark-may, may_bar, barred_starts}
use Rattle.c_lex.proofs.PieceStarts.{same_first}

-- ---- white space

-- only white space begins with white space
only_space : (b : ℕ) (other : Piece) → IsTrue (is_space b) → IsTrue (starts other b) → other ≡ Space
only_space b Space h s = refl
only_space b Comment h s = absurd (grind (arith, nat_tests))
only_space b Skipped h s = absurd (grind (arith, nat_tests))
only_space b (Spelled (kinds.Word word)) h s = absurd (grind (arith, nat_tests))
only_space b (Spelled (kinds.Ident name)) h s = absurd (grind (arith, nat_tests))
only_space b (Spelled (kinds.Number z u)) h s = absurd (grind (arith, nat_tests))
only_space b (Spelled (kinds.Text bytes)) h s = absurd (grind (arith, nat_tests))
only_space b (Spelled (kinds.Mark mark)) h s = absurd (grind (arith, nat_tests))

-- nothing that bars a piece begins with white space
space_free : (b : ℕ) (others : List ℕ) → IsTrue (is_space b) → IsBarred (b ∷ others) → ⊥
space_free b others h bars = let t : IsTrue (may_bar b) = barred_starts b others bars in grind (arith, nat_tests)

space_is_one : (fresh : Bool) (b : ℕ) (others : List ℕ) (m : ℕ) → 1 < suc m → suc m ≤ length (b ∷ others)
    → IsPiece fresh (b ∷ others) (suc m) Space → ⊥
space_is_one fresh b others m less within (c, e, h) = omega (arith, simp length-take at (ap length e))

space_longest : (fresh : Bool) (b : ℕ) (others : List ℕ) → IsTrue (is_space b) → (m : ℕ) (other : Piece) → 1 < m
    → m ≤ length (b ∷ others) → IsPiece fresh (b ∷ others) m other → ⊥
space_longest fresh b others h zero other less within is = omega arith
space_longest fresh b others h (suc m) other less within is =
    space_is_one fresh b others m less within
    (subst (λ (o : Piece). IsPiece fresh (b ∷ others) (suc m) o)
    (only_space b other h (piece_starts fresh b others m other is)) is)

-- white space is a piece of one byte
pub space_begins : (fresh : Bool) (b : ℕ) (others : List ℕ) → IsTrue (is_space b) → Begins fresh (b ∷ others) 1 Space
space_begins fresh b others h = record {
  within = omega arith;
  nonempty = omega arith;
  is = (b, refl, h);
  longest = space_longest fresh b others h;
  free = space_free b others h;
}

-- ---- what begins with `/`

-- the byte is no newline
abbrev pub no_newline : ℕ → Bool
no_newline b = not (b == newline)

-- what a piece of two bytes or more that begins with `/` is, by the byte behind
abbrev IsSlashPiece : ℕ → List ℕ → Type 0
IsSlashPiece c bytes =
    ((c ≡ slash) × AllPass no_newline bytes) ⊎ ((c ≡ star) × IsBlockComment (slash ∷ c ∷ bytes))
    ⊎ ((c ≡ equals_sign) × (bytes ≡ []))

nil_from_test : (bytes : List ℕ) → IsTrue (is_empty bytes) → bytes ≡ []
nil_from_test [] h = refl
nil_from_test (b ∷ bs) h = absurd (false≢true h)

slash_mark : (c : ℕ) (bytes : List ℕ) → IsTrue (may_be_mark (slash ∷ c ∷ bytes)) → IsSlashPiece c bytes
slash_mark c bytes h =
    let second : c ≡ equals_sign = grind (arith, nat_tests) in
    let last : IsTrue (is_empty bytes) = grind (arith, nat_tests) in
    inr (inr (second, nil_from_test bytes last))

slash_piece : (fresh : Bool) (c : ℕ) (others : List ℕ) (m : ℕ) (other : Piece)
    → IsPiece fresh (slash ∷ c ∷ others) (suc (suc m)) other → IsSlashPiece c (take m others)
slash_piece fresh c others m Space is = absurd (false≢true (piece_starts fresh slash (c ∷ others) (suc m) Space is))
slash_piece fresh c others m Comment (inl (body, e, passes)) =
    let second : c ≡ slash = cc in
    let rest : body ≡ take m others = cc in
    inl (second, subst (λ (bs : List ℕ). AllPass no_newline bs) rest passes)
slash_piece fresh c others m Comment (inr (body, e, first)) = let second : c ≡ star =
    cc in inr (inl (second, (body, e, first)))
slash_piece fresh c others m Skipped is = absurd (false≢true (piece_starts fresh slash (c ∷ others) (suc m) Skipped is))
slash_piece fresh c others m (Spelled (kinds.Word word)) is =
    absurd (false≢true (piece_starts fresh slash (c ∷ others) (suc m) (Spelled (kinds.Word word)) is))
slash_piece fresh c others m (Spelled (kinds.Ident name)) is =
    absurd (false≢true (piece_starts fresh slash (c ∷ others) (suc m) (Spelled (kinds.Ident name)) is))
slash_piece fresh c others m (Spelled (kinds.Number z u)) is =
    absurd (false≢true (piece_starts fresh slash (c ∷ others) (suc m) (Spelled (kinds.Number z u)) is))
slash_piece fresh c others m (Spelled (kinds.Text bytes)) is =
    absurd (false≢true (piece_starts fresh slash (c ∷ others) (suc m) (Spelled (kinds.Text bytes)) is))
slash_piece fresh c others m (Spelled (kinds.Mark mark)) is =
    slash_mark c (take m others) (IsMark-may mark (slash ∷ c ∷ take m others) is)

-- only a comment that isn't closed bars a piece that begins with `/`
slash_free : (others : List ℕ)
    → ((body : List ℕ) → others ≡ star ∷ body → ((before after : List ℕ) → body ≢ before ++ star ∷ slash ∷ after) → ⊥)
    → IsBarred (slash ∷ others) → ⊥
slash_free others free (inl (body, e, open_)) = let rest : others ≡ star ∷ body = cc in free body rest open_
slash_free others free (inr (inl (rest, e))) =
    false≢true (same_first (λ x. x == percent) slash others (percent ∷ colon ∷ rest) e refl)
slash_free others free (inr (inr (inl (quote, rest, e, h)))) =
    false≢true (same_first (λ x. x == capital_l) slash others (capital_l ∷ quote ∷ rest) e refl)
slash_free [] free (inr (inr (inr (h, none)))) = false≢true h
slash_free (c ∷ others) free (inr (inr (inr (inl h, none)))) = false≢true h
slash_free (c ∷ others) free (inr (inr (inr (inr h, none)))) = omega (arith, h.0)

-- the second byte isn't what makes a longer piece
slash_longest : (fresh : Bool) (c : ℕ) (others : List ℕ) (n : ℕ)
    → ((m : ℕ) → n < m + 2 → m ≤ length others → IsSlashPiece c (take m others) → ⊥) → 0 < n → (m : ℕ) (other : Piece)
    → n < m → m ≤ length (slash ∷ c ∷ others) → IsPiece fresh (slash ∷ c ∷ others) m other → ⊥
slash_longest fresh c others n no_longer some zero other less within is = omega arith
slash_longest fresh c others n no_longer some (suc zero) other less within is = omega arith
slash_longest fresh c others n no_longer some (suc (suc m)) other less within is =
    no_longer m (omega arith) (omega arith) (slash_piece fresh c others m other is)

-- `/` alone at the end
pub slash_ends : (fresh : Bool) → Begins fresh (slash ∷ []) 1 (Spelled (kinds.Mark marks.Slash))
slash_ends fresh = record {
  within = omega arith;
  nonempty = omega arith;
  is = inl refl;
  longest = λ m other less within is. omega arith;
  free = slash_free [] (λ body e _. cc);
}

apart_from : (c : ℕ) (bytes : List ℕ) → c ≢ slash → c ≢ star → c ≢ equals_sign → IsSlashPiece c bytes → ⊥
apart_from c bytes x y z (inl h) = x h.0
apart_from c bytes x y z (inr (inl h)) = y h.0
apart_from c bytes x y z (inr (inr h)) = z h.0

-- `/` before another byte
pub slash_begins : (fresh : Bool) (c : ℕ) (others : List ℕ) → c ≢ slash → c ≢ star → c ≢ equals_sign
    → Begins fresh (slash ∷ c ∷ others) 1 (Spelled (kinds.Mark marks.Slash))
slash_begins fresh c others x y z = record {
  within = omega arith;
  nonempty = omega arith;
  is = inl refl;
  longest = slash_longest fresh c others 1 (λ m less within h. apart_from c (take m others) x y z h) (omega arith);
  free = slash_free (c ∷ others) (λ body e _. let second : c ≡ star = cc in y second);
}

equal_only : (others : List ℕ) (m : ℕ) → 2 < m + 2 → m ≤ length others → IsSlashPiece equals_sign (take m others) → ⊥
equal_only others m less within (inl h) = omega (arith, h.0)
equal_only others m less within (inr (inl h)) = omega (arith, h.0)
equal_only others m less within (inr (inr h)) = omega (arith, simp length-take at (ap length h.1))

-- `/=`
pub slash_equal_begins : (fresh : Bool) (others : List ℕ)
    → Begins fresh (slash ∷ equals_sign ∷ others) 2 (Spelled (kinds.Mark marks.SlashEqual))
slash_equal_begins fresh others = record {
  within = omega arith;
  nonempty = omega arith;
  is = inl refl;
  longest = slash_longest fresh equals_sign others 2 (equal_only others) (omega arith);
  free = slash_free (equals_sign ∷ others)
      (λ body e _. false≢true (same_first (λ x. x == star) equals_sign others (star ∷ body) e refl));
}

-- ---- the longest front that passes a test

front_passes_by : (test : ℕ → Bool) (b : ℕ) (bs : List ℕ) (r : Bool) → test b ≡ r
    → AllPass test (take (prefix_len test bs) bs) → AllPass test (take (cond r (1 + prefix_len test bs) 0) (b ∷ bs))
front_passes_by test b bs true e rest = rw one-add (e, rest)
front_passes_by test b bs false e rest = tt

-- it passes
pub front_passes : (test : ℕ → Bool) (bytes : List ℕ) → AllPass test (take (prefix_len test bytes) bytes)
front_passes test [] = tt
front_passes test (b ∷ bs) = front_passes_by test b bs (test b) refl (front_passes test bs)

-- no longer one does
pub front_longest : (test : ℕ → Bool) (m : ℕ) (bytes : List ℕ) → m ≤ length bytes → AllPass test (take m bytes)
    → m ≤ prefix_len test bytes
front_longest test zero bytes within passes = omega arith
front_longest test (suc m) [] within passes = omega arith
front_longest test (suc m) (b ∷ bs) within passes =
    rw passes.0 (omega (arith, front_longest test m bs (omega arith) passes.1))

-- behind bytes that pass and before one that doesn't it ends
drop_front : (test : ℕ → Bool) (front : List ℕ) (c : ℕ) (rest : List ℕ) → AllPass test front → test c ≡ false
    → drop (prefix_len test (front ++ c ∷ rest)) (front ++ c ∷ rest) ≡ c ∷ rest
drop_front test [] c rest passes stops = rw stops refl
drop_front test (b ∷ bs) c rest passes stops = rw (passes.0, one-add) (drop_front test bs c rest passes.1 stops)

-- ---- line comments

line_is : (others : List ℕ)
    → IsLineComment (take (prefix_len no_newline (slash ∷ slash ∷ others)) (slash ∷ slash ∷ others))
line_is others =
    let k : ℕ = prefix_len no_newline others in
    let count : 1 + (1 + k) ≡ suc (suc k) = omega arith in
    rw count (take k others, refl, front_passes no_newline others)

line_only : (others : List ℕ) (m : ℕ) → prefix_len no_newline (slash ∷ slash ∷ others) < m + 2 → m ≤ length others
    → IsSlashPiece slash (take m others) → ⊥
line_only others m less within (inl h) = omega (arith, front_longest no_newline m others within h.1)
line_only others m less within (inr (inl h)) = omega (arith, h.0)
line_only others m less within (inr (inr h)) = omega (arith, h.0)

-- `//`
pub line_comment_begins : (fresh : Bool) (others : List ℕ)
    → Begins fresh (slash ∷ slash ∷ others) (prefix_len no_newline (slash ∷ slash ∷ others)) Comment
line_comment_begins fresh others = record {
  within = prefix_len-le-length no_newline (slash ∷ slash ∷ others);
  nonempty = omega arith;
  is = inl (line_is others);
  longest = slash_longest fresh slash others (prefix_len no_newline (slash ∷ slash ∷ others)) (line_only others)
      (omega arith);
  free = slash_free (slash ∷ others)
      (λ body e _. false≢true (same_first (λ x. x == star) slash others (star ∷ body) e refl));
}

-- ---- block comments

-- where `*/` stands, by index
pair_reads : (xs before after : List ℕ) → xs ≡ before ++ star ∷ slash ∷ after → (length before + 1 < length xs)
    × (get_or xs (length before) 0 ≡ star) × (get_or xs (length before + 1) 0 ≡ slash)
pair_reads xs before after e =
    rw e (
      rw length-append (omega arith),
      get_or_at before star (slash ∷ after) 0 (length before) refl,
      get_or-append-add before (star ∷ slash ∷ after) 1 0,
    )

pair_split : (xs : List ℕ) (k : ℕ) → k + 1 < length xs → get_or xs k 0 ≡ star → get_or xs (k + 1) 0 ≡ slash
    → xs ≡ take k xs ++ star ∷ slash ∷ drop (k + 1 + 1) xs
pair_split xs k within starred slashed =
    let here = drop_more xs k 0 (omega arith) in
    let next = drop_more xs (k + 1) 0 within in
    let rest : drop k xs ≡ star ∷ slash ∷ drop (k + 1 + 1) xs = cc in
    sym (take-append-drop k xs) ∙ ap (λ (ys : List ℕ). take k xs ++ ys) rest

front_pair : (xs : List ℕ) (k : ℕ) → k + 1 < length xs → get_or xs k 0 ≡ star → get_or xs (k + 1) 0 ≡ slash
    → take (k + 1 + 1) xs ≡ take k xs ++ star ∷ slash ∷ []
front_pair xs k within starred slashed =
    let here = take_more xs k 0 (omega arith) in
    let next = take_more xs (k + 1) 0 within in
    let assoc = append_assoc (take k xs) (star ∷ []) (slash ∷ []) in
    cc

-- where the first `*/` stands
abbrev pub IsFirstPair : List ℕ → ℕ → Type 0
IsFirstPair body k =
    (k + 1 < length body) × (get_or body k 0 ≡ star) × (get_or body (k + 1) 0 ≡ slash)
    × ((j : ℕ) → j < k → get_or body j 0 ≡ star → get_or body (j + 1) 0 ≢ slash)

block_first : (body : List ℕ) (k : ℕ) → IsFirstPair body k → (before after : List ℕ) → take k body ++ star ∷ [] ≢ before
    ++ star ∷ slash ∷ after
block_first body k is before after e =
    let more = take_more body k 0 (omega (arith, is.0)) in
    let starred = is.1 in
    let front : take (k + 1) body ≡ before ++ star ∷ slash ∷ after = cc in
    let reads = pair_reads (take (k + 1) body) before after front in
    let len = length-take-le (k + 1) body (omega (arith, is.0)) in
    let less : length before < k = omega (arith, reads.0) in
    let first = get_or-take (k + 1) body (length before) 0 (omega arith) in
    let second = get_or-take (k + 1) body (length before + 1) 0 (omega arith) in
    is.3 (length before) less (sym first ∙ reads.1) (sym second ∙ reads.2)

block_is : (body : List ℕ) (k : ℕ) → IsFirstPair body k → IsBlockComment (take (k + 4) (slash ∷ star ∷ body))
block_is body k is =
    let count : k + 4 ≡ suc (suc (k + 1 + 1)) = omega arith in
    let pair = front_pair body k is.0 is.1 is.2 in
    rw count (take k body, ap (λ (ys : List ℕ). slash ∷ star ∷ ys) pair, block_first body k is)

block_only : (body : List ℕ) (k : ℕ) → IsFirstPair body k → (m : ℕ) → k + 4 < m + 2 → m ≤ length body
    → IsSlashPiece star (take m body) → ⊥
block_only body k is m less within (inl h) = omega (arith, h.0)
block_only body k is m less within (inr (inl (_, (inner, e, first)))) =
    let whole : take m body ≡ inner ++ star ∷ slash ∷ [] = cc in
    let assoc = append_assoc inner (star ∷ []) (slash ∷ []) in
    let shown : take m body ≡ (inner ++ star ∷ []) ++ slash ∷ [] = cc in
    let front : List ℕ = inner ++ star ∷ [] in
    let len = ap length shown in
    let fits : k + 1 < length front =
    omega (arith, len, length-take-le m body within, length-append front (slash ∷ [])) in
    let reads : (j : ℕ) → j ≤ k + 1 → get_or front j 0 ≡ get_or body j 0 = λ j low.
    sym (get_or_append_left front (slash ∷ []) 0 j (omega arith)) ∙ ap (λ (ys : List ℕ). get_or ys j 0) (sym shown) ∙
    get_or-take m body j 0 (omega arith) in
    first (take k front) (drop (k + 1 + 1) front)
    (pair_split front k fits (reads k (omega arith) ∙ is.1) (reads (k + 1) (omega arith) ∙ is.2))
block_only body k is m less within (inr (inr h)) = omega (arith, h.0)

-- `/*` and the first `*/`
pub block_comment_begins : (fresh : Bool) (body : List ℕ) (k : ℕ) → IsFirstPair body k
    → Begins fresh (slash ∷ star ∷ body) (k + 4) Comment
block_comment_begins fresh body k is = record {
  within = omega (arith, is.0);
  nonempty = omega arith;
  is = inr (block_is body k is);
  longest = slash_longest fresh star body (k + 4) (block_only body k is) (omega arith);
  free = slash_free (star ∷ body) (λ inside e none.
      let same : inside ≡ body = cc in
      none (take k body) (drop (k + 1 + 1) body) (same ∙ pair_split body k is.0 is.1 is.2));
}

-- `/*` and no `*/`
pub unclosed_begins_none : (fresh : Bool) (body : List ℕ)
    → ((j : ℕ) → j + 1 < length body → get_or body j 0 ≡ star → get_or body (j + 1) 0 ≢ slash)
    → NoneBegins fresh (slash ∷ star ∷ body)
unclosed_begins_none fresh body none n piece begins =
    begins.free (inl (
      body,
      refl,
      λ before after e. let reads = pair_reads body before after e in
          none (length before) reads.0 reads.1 reads.2,
    ))

-- ---- lines that the preprocessor left behind

-- only such a line begins with `#`
hash_piece : (fresh : Bool) (others : List ℕ) (m : ℕ) (other : Piece) → IsPiece fresh (hash ∷ others) (suc m) other
    → other ≡ Skipped
hash_piece fresh others m Space is = absurd (false≢true (piece_starts fresh hash others m Space is))
hash_piece fresh others m Comment is = absurd (false≢true (piece_starts fresh hash others m Comment is))
hash_piece fresh others m Skipped is = refl
hash_piece fresh others m (Spelled (kinds.Word word)) is =
    absurd (false≢true (piece_starts fresh hash others m (Spelled (kinds.Word word)) is))
hash_piece fresh others m (Spelled (kinds.Ident name)) is =
    absurd (false≢true (piece_starts fresh hash others m (Spelled (kinds.Ident name)) is))
hash_piece fresh others m (Spelled (kinds.Number z u)) is =
    absurd (false≢true (piece_starts fresh hash others m (Spelled (kinds.Number z u)) is))
hash_piece fresh others m (Spelled (kinds.Text bytes)) is =
    absurd (false≢true (piece_starts fresh hash others m (Spelled (kinds.Text bytes)) is))
hash_piece fresh others m (Spelled (kinds.Mark mark)) is =
    absurd (false≢true (piece_starts fresh hash others m (Spelled (kinds.Mark mark)) is))

skipped_only : (fresh : Bool) (others : List ℕ) (m : ℕ) (other : Piece) → prefix_len no_newline (hash ∷ others) < m
    → m ≤ length (hash ∷ others) → IsPiece fresh (hash ∷ others) m other → ⊥
skipped_only fresh others zero other less within is = omega arith
skipped_only fresh others (suc m) other less within is =
    let line : IsPiece fresh (hash ∷ others) (suc m) Skipped =
    subst (λ (o : Piece). IsPiece fresh (hash ∷ others) (suc m) o) (hash_piece fresh others m other is) is in
    omega (arith, line.2, length-prefix_len no_newline (hash ∷ others))

-- a line that is skipped
pub skipped_begins : (others : List ℕ) → IsMarker (line_of (hash ∷ others))
    → Begins true (hash ∷ others) (prefix_len no_newline (hash ∷ others)) Skipped
skipped_begins others marker = record {
  within = prefix_len-le-length no_newline (hash ∷ others);
  nonempty = omega arith;
  is = (refl, marker, sym (length-prefix_len no_newline (hash ∷ others)));
  longest = skipped_only true others;
  free = λ bars. false≢true (barred_starts hash others bars);
}

-- `#` where no line is skipped
pub hash_begins_none : (fresh : Bool) (others : List ℕ) → (fresh ≡ true → IsMarker (line_of (hash ∷ others)) → ⊥)
    → NoneBegins fresh (hash ∷ others)
hash_begins_none fresh others none zero piece begins = omega (arith, begins.nonempty)
hash_begins_none fresh others none (suc m) piece begins =
    let line : IsPiece fresh (hash ∷ others) (suc m) Skipped =
    subst (λ (o : Piece). IsPiece fresh (hash ∷ others) (suc m) o) (hash_piece fresh others m piece begins.is)
    begins.is in
    none line.0 line.1

-- what stands behind `#` on its line
pub behind_hash : (rest others : List ℕ) (end : ℕ) → rest ≡ hash ∷ others → end ≡ prefix_len no_newline rest
    → hash ∷ take (end - 1) (drop 1 rest) ≡ line_of rest
behind_hash rest others end is count =
    let k : ℕ = prefix_len no_newline others in
    rw (count, is) (let less : 1 + k - 1 ≡ k = omega arith in rw (less, one-add) refl)

-- behind the blanks stands what makes a line one to be skipped
pub marker_from : (behind : List ℕ) → IsDirective (drop (prefix_len is_blank behind) behind) → IsMarker (hash ∷ behind)
marker_from behind directive =
    let n : ℕ = prefix_len is_blank behind in (
      take n behind,
      drop n behind,
      ap (λ (ys : List ℕ). hash ∷ ys) (sym (take-append-drop n behind)),
      front_passes is_blank behind,
      directive,
    )

directive_first : (more : List ℕ) → IsDirective more → (c : ℕ) × (rest : List ℕ) × (more ≡ c ∷ rest)
    × (is_blank c ≡ false)
directive_first more (inl (d, rest, e, digit)) = let stops : is_blank d ≡ false = grind (arith, nat_tests) in
    (d, rest, e, stops)
directive_first more (inr (rest, e, word)) = (letter_p, codes "ragma" ++ rest, e, refl)

pub marker_to : (behind : List ℕ) → IsMarker (hash ∷ behind) → IsDirective (drop (prefix_len is_blank behind) behind)
marker_to behind (blanks, more, e, passes, directive) =
    let first = directive_first more directive in
    let is = first.2 in
    let parts : behind ≡ blanks ++ first.0 ∷ first.1 = cc in
    let left : drop (prefix_len is_blank behind) behind ≡ more =
    rw parts (drop_front is_blank blanks first.0 first.1 passes first.3 ∙ sym is) in
    subst IsDirective (sym left) directive

-- the first two bytes, where the second is read
pub two_first : (rest others : List ℕ) → rest ≡ slash ∷ others → 2 ≤ length rest → (c : ℕ) → get_or rest 1 0 ≡ c
    → rest ≡ slash ∷ c ∷ drop 2 rest
two_first [] others e within c is = absurd (omega arith)
two_first (a ∷ []) others e within c is = absurd (omega arith)
two_first (a ∷ b ∷ bs) others e within c is = cc

-- the only byte
pub one_only : (rest others : List ℕ) → rest ≡ slash ∷ others → length rest < 2 → rest ≡ slash ∷ []
one_only [] others e within = cc
one_only (a ∷ []) others e within = cc
one_only (a ∷ b ∷ bs) others e within = absurd (omega arith)
