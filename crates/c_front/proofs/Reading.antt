-- Files are read one after the other.
use Rattle.std.proofs.Common.{◌≡◌, ◌≤◌, ℕ, suc, ◌+◌, List, [], ◌∷◌, ◌++◌, ◌-◌, length, ap, subst, sym, ◌∙◌}
use Rattle.std.proofs.Common.{refl, inl, inr, arith, ◌<◌, drop, get_or, map}
use Rattle.std.proofs.lemmas.List.{append_assoc, append-nil, drop_all, drop_more, map-append}
use Rattle.pcc_base.specs.declared.span.Span.{Span}
use Rattle.pcc_base.specs.declared.refusal.Limit.TheVariants as limits
use Rattle.pcc_base.specs.declared.refusal.Refusal.{Refusal}
use Rattle.pcc_base.specs.declared.refusal.Refusal.TheVariants as refusals
use Rattle.c_lex.specs.declared.token.Token.{Token}
use Rattle.c_lex.specs.Tokens.{HasTokens}
use Rattle.c_syntax.specs.declared.unit.RawUnit.{RawUnit}
use Rattle.c_syntax.specs.Statements.{ExternalTree, unit_of}
use Rattle.c_front.specs.declared.lexed.Lexed.{Lexed}
use Rattle.c_front.specs.Accepted.{HaveTokens, HasTree, HaveTrees, total}
use Rattle.c_parse.specs.ParserRefusals.{IsRefused}
use Rattle.c_front.specs.Refusals.{AreUnread, FaultBehind, StandBefore, ends_of, text_end}
use Rattle.c_front.specs.SoFar.{LexedSoFar, ParsedSoFar, AreUnparsed, IsUnread}
use Rattle.c_front.proofs.Totals.{total_more}

-- ---- tokens

-- nothing is read at first
pub lexed_none : (texts : List (List ℕ)) → LexedSoFar texts [] [] 0 0x10000 texts
lexed_none texts = record {
  counted = omega arith;
  left_is = omega arith;
  ends_are = refl;
  tokens = λ others has. has;
  fault = λ n fault behind. subst (λ (m : ℕ). FaultBehind 0 texts m fault) (omega arith) behind;
  many = λ n stand. subst (λ (m : ℕ). StandBefore 0 texts m) (omega arith) stand;
}

-- one file more
pub lexed_more : (texts : List (List ℕ)) (files : List (List Token)) (ends : List Span) (file left left' : ℕ)
    (text : List ℕ) (rest : List (List ℕ)) (tokens : List Token) → LexedSoFar texts files ends file left (text ∷ rest)
    → HasTokens file text tokens → left' + length tokens ≡ left
    → LexedSoFar texts (files ++ tokens ∷ []) (ends ++ text_end file text ∷ []) (suc file) left' rest
lexed_more texts files ends file left left' text rest tokens so has less =
    let more : total (files ++ tokens ∷ []) ≡ total files + length tokens = total_more files tokens in
    let left_is = so.left_is in
    let counted = so.counted in
    record {
      counted = omega (arith, counted);
      left_is = omega (arith, left_is, more, less);
      ends_are = append_assoc ends (text_end file text ∷ []) (ends_of (suc file) rest) ∙ so.ends_are;
      tokens = λ others have. subst (λ (all : List (List Token)). HaveTokens 0 texts all)
          (sym (append_assoc files (tokens ∷ []) others)) (so.tokens (tokens ∷ others) (has, have));
      fault = λ n fault behind. subst (λ (m : ℕ). FaultBehind 0 texts m fault) (omega (arith, more))
          (so.fault (length tokens + n) fault (inr (tokens, has, n, refl, behind)));
      many = λ n stand. subst (λ (m : ℕ). StandBefore 0 texts m) (omega (arith, more))
          (so.many (length tokens + n) (inr (tokens, has, n, refl, stand)));
    }

-- the same, of lists that are equal to these
pub lexed_on : (texts : List (List ℕ)) (files files' : List (List Token)) (ends ends' : List Span)
    (file left taken : ℕ) (all : List (List ℕ)) (text text' : List ℕ) (rest : List (List ℕ)) (tokens : List Token)
    (end : Span) → LexedSoFar texts files ends file left all → all ≡ text ∷ rest → text' ≡ text
    → HasTokens file text' tokens → taken ≡ length tokens → length tokens ≤ left → end ≡ text_end file text'
    → files' ≡ files ++ tokens ∷ [] → ends' ≡ ends ++ end ∷ []
    → LexedSoFar texts files' ends' (file + 1) (left - taken) rest
lexed_on texts files files' ends ends' file left taken all text text' rest tokens end so all_are text_is has taken_is few
    end_is files_are ends_are =
    let one : suc file ≡ file + 1 = omega arith in
    let last : end ≡ text_end file text = end_is ∙ ap (text_end file) text_is in
    subst (λ (fs : List (List Token)). LexedSoFar texts fs ends' (file + 1) (left - taken) rest) (sym files_are)
    (subst (λ (es : List Span). LexedSoFar texts (files ++ tokens ∷ []) es (file + 1) (left - taken) rest)
    (sym (ends_are ∙ ap (λ (e : Span). ends ++ e ∷ []) last))
    (subst (λ (n : ℕ). LexedSoFar texts (files ++ tokens ∷ []) (ends ++ text_end file text ∷ []) n (left - taken) rest)
    one
    (lexed_more texts files ends file left (left - taken) text rest tokens
    (subst (λ (ts : List (List ℕ)). LexedSoFar texts files ends file left ts) all_are so)
    (subst (λ (t : List ℕ). HasTokens file t tokens) text_is has) (omega (arith, taken_is, few)))))

-- files are as many as their texts
pub tokens_same : (file : ℕ) (texts : List (List ℕ)) (files : List (List Token)) → HaveTokens file texts files
    → length texts ≡ length files
tokens_same file [] [] have = refl
tokens_same file [] (tokens ∷ files) have = absurd have
tokens_same file (text ∷ texts) [] have = absurd have
tokens_same file (text ∷ texts) (tokens ∷ files) have = omega (arith, tokens_same (suc file) texts files have.1)

-- all are read
pub lexed_all : (texts : List (List ℕ)) (files : List (List Token)) (ends : List Span) (file left : ℕ)
    (rest : List (List ℕ)) → LexedSoFar texts files ends file left rest → length rest ≡ 0 → HaveTokens 0 texts files
lexed_all texts files ends file left (text ∷ rest) so none = absurd (omega (arith, none))
lexed_all texts files ends file left [] so none =
    subst (λ (all : List (List Token)). HaveTokens 0 texts all) (append-nil files) (so.tokens [] tt)

pub all_ends : (texts : List (List ℕ)) (files : List (List Token)) (ends : List Span) (file left : ℕ)
    (rest : List (List ℕ)) → LexedSoFar texts files ends file left rest → length rest ≡ 0 → ends ≡ ends_of 0 texts
all_ends texts files ends file left (text ∷ rest) so none = absurd (omega (arith, none))
all_ends texts files ends file left [] so none = sym (append-nil ends) ∙ so.ends_are

pub lexed_few : (texts : List (List ℕ)) (files : List (List Token)) (ends : List Span) (file left : ℕ)
    (rest : List (List ℕ)) → LexedSoFar texts files ends file left rest → total files ≤ 0x10000
lexed_few texts files ends file left rest so = let left_is = so.left_is in omega (arith, left_is)

-- why this one has no tokens is why all have none
pub unread_here : (texts : List (List ℕ)) (files : List (List Token)) (ends : List Span) (file left : ℕ)
    (text : List ℕ) (rest : List (List ℕ)) (refusal : Refusal) → LexedSoFar texts files ends file left (text ∷ rest)
    → IsUnread file text left refusal → AreUnread texts refusal
unread_here texts files ends file left text rest (refusals.Fault fault) so (before, has, few) =
    let left_is = so.left_is in (
      total files + length before,
      so.fault (length before) fault (inl (before, has, refl)),
      omega (arith, left_is, few),
    )
unread_here texts files ends file left text rest (refusals.Limit (limits.Tokens n)) so (is, (before, begins, many)) =
    let left_is = so.left_is in (
      is,
      subst (λ (m : ℕ). StandBefore 0 texts m) (omega (arith, left_is, many))
          (so.many (length before) (inl (before, begins, refl))),
    )
unread_here texts files ends file left text rest refusals.NoMemory so h = tt
unread_here texts files ends file left text rest (refusals.Limit limit) so h = absurd h

-- the same, of lists that are equal to these
pub unread_on : (texts : List (List ℕ)) (files : List (List Token)) (ends : List Span) (file left : ℕ)
    (all : List (List ℕ)) (text text' : List ℕ) (rest : List (List ℕ)) (refusal : Refusal)
    → LexedSoFar texts files ends file left all
    → all ≡ text ∷ rest → text' ≡ text → IsUnread file text' left refusal → AreUnread texts refusal
unread_on texts files ends file left all text text' rest refusal so all_are text_is unread =
    unread_here texts files ends file left text rest refusal
    (subst (λ (ts : List (List ℕ)). LexedSoFar texts files ends file left ts) all_are so)
    (subst (λ (t : List ℕ). IsUnread file t left refusal) text_is unread)

-- ---- trees

-- files have as many trees
pub trees_same : (files : List (List Token)) (units : List (List ExternalTree)) → HaveTrees files units
    → length files ≡ length units
trees_same [] [] have = refl
trees_same [] (unit ∷ units) have = absurd have
trees_same (tokens ∷ files) [] have = absurd have
trees_same (tokens ∷ files) (unit ∷ units) have = omega (arith, trees_same files units have.1)

-- nothing is parsed at first
pub parsed_none : (files : List (List Token)) (ends : List Span) → ParsedSoFar files ends [] files ends
parsed_none files ends = record { trees = λ others have. have; fault = λ kind at faulty. faulty }

-- one file more
pub parsed_more : (files : List (List Token)) (ends : List Span) (units : List (List ExternalTree))
    (tokens : List Token) (end : Span) (rest : List (List Token)) (rest_ends : List Span) (unit : List ExternalTree)
    → ParsedSoFar files ends units (tokens ∷ rest) (end ∷ rest_ends) → HasTree tokens unit
    → ParsedSoFar files ends (units ++ unit ∷ []) rest rest_ends
parsed_more files ends units tokens end rest rest_ends unit so has = record {
  trees = λ others have. subst (λ (all : List (List ExternalTree)). HaveTrees files all)
      (sym (append_assoc units (unit ∷ []) others)) (so.trees (unit ∷ others) (has, have));
  fault = λ kind at faulty. so.fault kind at (inr (unit, has, faulty));
}

-- all are parsed
pub parsed_all : (files : List (List Token)) (ends : List Span) (units : List (List ExternalTree))
    → ParsedSoFar files ends units [] [] → HaveTrees files units
parsed_all files ends units so =
    subst (λ (all : List (List ExternalTree)). HaveTrees files all) (append-nil units) (so.trees [] tt)

-- why this one has no tree is why all have none
pub unparsed_here : (files : List (List Token)) (ends : List Span) (units : List (List ExternalTree))
    (tokens : List Token) (end : Span) (rest : List (List Token)) (rest_ends : List Span) (refusal : Refusal)
    → ParsedSoFar files ends units (tokens ∷ rest) (end ∷ rest_ends) → IsRefused tokens end refusal
    → AreUnparsed files ends refusal
unparsed_here files ends units tokens end rest rest_ends (refusals.Fault fault) so faulty =
    so.fault fault.kind fault.at (inl faulty)
unparsed_here files ends units tokens end rest rest_ends (refusals.Limit limit) so h = absurd h
unparsed_here files ends units tokens end rest rest_ends refusals.NoMemory so h = tt

-- the file at a place is the first of those that are left
pub parsed_at : (files : List Lexed) (at : ℕ) (file : Lexed) (units units' : List RawUnit) (unit : RawUnit)
    → at < length files → file ≡ get_or files at file
    → ParsedSoFar (map (λ f. f.tokens.items) files) (map (λ f. f.end) files) (map unit_of units)
    (map (λ f. f.tokens.items) (drop at files)) (map (λ f. f.end) (drop at files))
    → HasTree file.tokens.items (unit_of unit) → units' ≡ units ++ unit ∷ []
    → ParsedSoFar (map (λ f. f.tokens.items) files) (map (λ f. f.end) files) (map unit_of units')
    (map (λ f. f.tokens.items) (drop (at + 1) files)) (map (λ f. f.end) (drop (at + 1) files))
parsed_at files at file units units' unit less is so has units_are =
    let left : drop at files ≡ file ∷ drop (at + 1) files =
    drop_more files at file less ∙ ap (λ (f : Lexed). f ∷ drop (at + 1) files) (sym is) in
    let all = map (λ (f : Lexed). f.tokens.items) files in
    let ends = map (λ (f : Lexed). f.end) files in
    let rest = drop (at + 1) files in
    subst (λ (us : List (List ExternalTree)). ParsedSoFar all ends us (map (λ f. f.tokens.items) rest)
    (map (λ f. f.end) rest)) (sym (ap (map unit_of) units_are ∙ map-append unit_of units (unit ∷ [])))
    (parsed_more all ends (map unit_of units) file.tokens.items file.end (map (λ f. f.tokens.items) rest)
    (map (λ f. f.end) rest) (unit_of unit)
    (subst (λ (fs : List Lexed). ParsedSoFar all ends (map unit_of units) (map (λ f. f.tokens.items) fs)
    (map (λ f. f.end) fs)) left so) has)

-- all files are parsed where none is left
pub parsed_behind : (files : List Lexed) (at : ℕ) (units : List RawUnit) → length files ≤ at
    → ParsedSoFar (map (λ f. f.tokens.items) files) (map (λ f. f.end) files) (map unit_of units)
    (map (λ f. f.tokens.items) (drop at files)) (map (λ f. f.end) (drop at files))
    → HaveTrees (map (λ f. f.tokens.items) files) (map unit_of units)
parsed_behind files at units behind so =
    let all = map (λ (f : Lexed). f.tokens.items) files in
    let ends = map (λ (f : Lexed). f.end) files in
    parsed_all all ends (map unit_of units)
    (subst (λ (fs : List Lexed). ParsedSoFar all ends (map unit_of units) (map (λ f. f.tokens.items) fs)
    (map (λ f. f.end) fs)) (drop_all at files behind) so)
