-- What the turns of a loop over statements or labels read in all.
use Rattle.std.proofs.Common.{◌≡◌, ◌<◌, List, [], ◌∷◌, ◌++◌, map, length, true, false, is_some, Bool, Some, None, Ok}
use Rattle.std.proofs.Common.{refl, ◌∙◌, subst}
use Rattle.pcc_base.specs.declared.span.Span.{Span}
use Rattle.c_lex.specs.declared.token.Token.{Token}
use Rattle.c_lex.specs.declared.token.Punct.TheVariants as marks
use Rattle.c_syntax.specs.declared.statement.Label.{Label}
use Rattle.c_syntax.specs.declared.statement.Statement.{Statement}
use Rattle.c_syntax.specs.Statements.{LabelTree, label_of, Stmt, stmt_of}
use Rattle.c_grammar.specs.Chains.{Done, Fails, Goes, Takes, Reads, Found, Faults, then_read}
use Rattle.c_grammar.proofs.Chains.{Continues, continues_goes, continues_done, continues_fails}
use Rattle.c_grammar.specs.Taking.{take_mark, read_mark}
use Rattle.c_grammar.specs.Reading.{Reader}
use Rattle.c_grammar.specs.StatementReading.{StmtReader, until_at, until_step, label_step}
use Rattle.c_parse_expressions.specs.Readings.{Refused}
use Rattle.c_parse_expressions.specs.declared.parse_error.ParseError.{ParseError}
use Rattle.c_parse_expressions.specs.declared.parse_error.ParseError.TheVariants.{Fault, NoMemory}
use Rattle.c_parse.proofs.Listing.{map_push}
use Rattle.c_parse.specs.StatementParts.{ClosedTree, IsLabelTurn}

-- ---- statements up to a `}`

goes_at : (read : StmtReader) (a : List Stmt) (close : Takes Span) (ts : List Token) (s : Stmt) (us : List Token)
    → is_some close ≡ false → read ts ≡ Found s us → until_at read a close ts ≡ Goes (a ++ s ∷ []) us
goes_at read a (Some close) ts s us e r = absurd (let wrong : true ≡ false = e in cc)
goes_at read a None ts s us e r = rw r refl

fails_at : (read : StmtReader) (a : List Stmt) (close : Takes Span) (ts : List Token) (deep : Bool) (us : List Token)
    → is_some close ≡ false → read ts ≡ Faults deep us → until_at read a close ts ≡ Fails deep us
fails_at read a (Some close) ts deep us e r = absurd (let wrong : true ≡ false = e in cc)
fails_at read a None ts deep us e r = rw r refl

done_at : (read : StmtReader) (a : List Stmt) (close : Takes Span) (ts : List Token) → is_some close ≡ true
    → until_at read a close ts ≡ Done
done_at read a (Some (close, us)) ts e = refl
done_at read a None ts e = absurd (let wrong : false ≡ true = e in cc)

-- one statement more
pub until_more : (read : StmtReader) (out : Reads (List Stmt)) (xs ys : List Statement) (x : Statement)
    (ts us : List Token) →
    Continues (until_step read) (map stmt_of xs) ts out → is_some (take_mark marks.RightBrace ts) ≡ false → read ts
    ≡ Found (stmt_of x) us → ys ≡ xs ++ x ∷ [] → length us < length ts →
    Continues (until_step read) (map stmt_of ys) us out
until_more read out xs ys x ts us before e r g less =
    (let goes = goes_at read (map stmt_of xs) (take_mark marks.RightBrace ts) ts (stmt_of x) us e r in
    let k : map stmt_of xs ++ stmt_of x ∷ [] ≡ map stmt_of ys = rw (g, map_push stmt_of xs x) refl in
    subst (λ (a : List Stmt). Continues (until_step read) a us out) k
    (continues_goes (until_step read) _ _ ts us out before goes less))

-- a statement that is refused
pub until_refused : (read : StmtReader) (a : List Stmt) (ts : List Token) (out : Reads (List Stmt)) (e : ParseError) →
    Continues (until_step read) a ts out → is_some (take_mark marks.RightBrace ts) ≡ false → Refused (read ts) e
    → Refused out e
until_refused read a ts out (Fault deep at) before e r = (
  r.0,
  continues_fails (until_step read) a ts out deep r.0 before
      (fails_at read a (take_mark marks.RightBrace ts) ts deep r.0 e r.1),
  r.2,
)
until_refused read a ts out NoMemory before e r = tt

-- the `}`
pub until_last : (read : StmtReader) (a : List Stmt) (ts : List Token) (out : Reads (List Stmt))
    → Continues (until_step read) a ts out → is_some (take_mark marks.RightBrace ts) ≡ true → out ≡ Found a ts
until_last read a ts out before e = continues_done (until_step read) a ts out before
    (done_at read a (take_mark marks.RightBrace ts) ts e)

-- the `}` and what stands before it
pub closed_last : (read : StmtReader) (a : List Stmt) (ts us : List Token) (at : Span) (out : Reads (List Stmt))
    → Continues (until_step read) a ts out → is_some (take_mark marks.RightBrace ts) ≡ true
    → take_mark marks.RightBrace ts ≡ Some (at, us) →
    then_read {B = ClosedTree} out (λ ss vs. then_read {B = ClosedTree} (read_mark marks.RightBrace vs)
    (λ c ws. Found (ss, c) ws)) ≡ Found (a, at) us
closed_last read a ts us at out before e taken = rw (until_last read a ts out before e, taken) refl

-- ---- labels

-- one label more
pub label_more : (read : Reader) (out : Reads (List LabelTree)) (xs ys : List Label) (x : Label) (ts us : List Token) →
    Continues (label_step read) (map label_of xs) ts out → IsLabelTurn read ts us (Ok (Some x)) → ys ≡ xs ++ x ∷ [] →
    Continues (label_step read) (map label_of ys) us out
label_more read out xs ys x ts us before turn g =
    (let k : map label_of xs ++ label_of x ∷ [] ≡ map label_of ys = rw (g, map_push label_of xs x) refl in
    subst (λ (a : List LabelTree). Continues (label_step read) a us out) k
    (continues_goes (label_step read) _ _ ts us out before (turn.0 (map label_of xs)) turn.1))

-- the end of the labels
pub label_last : (read : Reader) (a : List LabelTree) (ts us : List Token) (out : Reads (List LabelTree)) →
    Continues (label_step read) a ts out → IsLabelTurn read ts us (Ok None) → out ≡ Found a us
label_last read a ts us out before turn = continues_done (label_step read) a ts out before (turn.0 a) ∙ (rw turn.1 refl)
