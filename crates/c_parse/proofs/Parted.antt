-- The readers of the grammar in parts: what stands before and behind a statement is read on its own.
use Rattle.std.proofs.Common.{◌≡◌, ℕ, ◌-◌, ◌<◌, List, [], ◌∷◌, refl, ap, ◌∙◌, arith}
use Rattle.pcc_base.specs.declared.keyword.Keyword.TheVariants as words
use Rattle.pcc_base.specs.declared.span.Span.{Span}
use Rattle.c_lex.specs.declared.token.Token.{Token}
use Rattle.c_lex.specs.declared.token.Punct.TheVariants as marks
use Rattle.c_syntax.specs.declared.expression.Specifier.{Specifier}
use Rattle.c_syntax.specs.Statements.{Block, Simple, While, Do, Switch, Return, stmts_of}
use Rattle.c_grammar.specs.Chains.{Reads, Found, Faults, room, then_read}
use Rattle.c_grammar.specs.Reading.{readers}
use Rattle.c_grammar.specs.Taking.{take_word, take_specifiers, read_mark, read_word}
use Rattle.c_grammar.specs.StatementReading.{Below, read_simple, return_behind, block_behind, do_behind, for_with}
use Rattle.c_grammar.specs.StatementReading.{for_behind, switch_behind, if_behind, while_behind, else_from}
use Rattle.c_grammar.specs.StatementReading.{read_condition, read_until}
use Rattle.c_parse.specs.StatementParts.{read_clause, read_do_tail, read_for_tests, start_with, read_for_head, for_of}
use Rattle.c_parse.specs.StatementParts.{read_switch_head, read_closed, below_node, fields_of}
use Rattle.c_parse.proofs.Below.{below_is, has_room}

-- what is read one behind the other groups either way
parted : {A B C : Type 0} (r : Reads A) (f : A → List Token → Reads B) (g : B → List Token → Reads C)
    → then_read (then_read r f) g ≡ then_read r (λ a ts. then_read (f a ts) g)
parted (Faults deep us) f g = refl
parted (Found a ts) f g = refl

pub simple_parted : (b : Below) (ts : List Token) → read_simple b ts
    ≡ then_read (read_clause b marks.Semicolon ts) (λ k us. Found (Simple k.0 k.1) us)
simple_parted b ts = simp parted

pub return_parted : (b : Below) (at : Span) (ts : List Token) → return_behind b at ts
    ≡ then_read (read_clause b marks.Semicolon ts) (λ k us. Found (Return at k.0 k.1) us)
return_parted b at ts = simp parted

pub block_parted : (b : Below) (o : Span) (ts : List Token) → block_behind b o ts
    ≡ then_read (read_closed b.item ts) (λ l us. Found (Block o (stmts_of l.0) l.1) us)
block_parted b o ts = simp parted

-- what is read behind a token that makes a node, where something may stand below it
behind : {A B : Type 0} (lower : ℕ) (t : Token) (ts : List Token) (r : Reads A) (f : A → List Token → Reads B)
    → 0 < lower → then_read (room (readers lower).height t ts r) f ≡ then_read r f
behind lower t ts r f h = rw (has_room lower t ts r h) refl

pub if_parted : (height lower : ℕ) (at : Span) (ts : List Token) → lower ≡ height - 1 → 0 < lower
    → if_behind (below_node height) at ts
    ≡ then_read (read_condition (fields_of lower) ts) (λ k us. then_read ((fields_of lower).statement us)
    (λ s vs. else_from (fields_of lower) at k s (take_word words.Else vs) vs))
if_parted height lower at ts e h = ap (λ (b : Below). if_behind b at ts) (below_is height lower e) ∙ behind lower _ ts _ _ h

pub while_parted : (height lower : ℕ) (at : Span) (ts : List Token) → lower ≡ height - 1 → 0 < lower
    → while_behind (below_node height) at ts
    ≡ then_read (read_condition (fields_of lower) ts) (λ k us. then_read ((fields_of lower).statement us)
    (λ s vs. Found (While at k.0 k.1 k.2 s) vs))
while_parted height lower at ts e h =
    ap (λ (b : Below). while_behind b at ts) (below_is height lower e) ∙ behind lower _ ts _ _ h

do_ends : (b : Below) (at : Span) (ts : List Token) →
    then_read (b.statement ts) (λ s us. then_read (read_word words.While us)
    (λ until vs. then_read (read_condition b vs) (λ k ws. then_read (read_mark marks.Semicolon ws)
    (λ semicolon xs. Found (Do at s until k.0 k.1 k.2 semicolon) xs))))
    ≡ then_read (b.statement ts) (λ s us. then_read (read_do_tail b us)
    (λ t vs. Found (Do at s t.0 t.1.0 t.1.1 t.1.2 t.2) vs))
do_ends b at ts = simp parted

pub do_parted : (height lower : ℕ) (at : Span) (ts : List Token) → lower ≡ height - 1 → 0 < lower
    → do_behind (below_node height) at ts
    ≡ then_read ((fields_of lower).statement ts) (λ s us. then_read (read_do_tail (fields_of lower) us)
    (λ t vs. Found (Do at s t.0 t.1.0 t.1.1 t.1.2 t.2) vs))
do_parted height lower at ts e h =
    ap (λ (b : Below). do_behind b at ts) (below_is height lower e)
    ∙ (behind lower _ ts _ _ h ∙ do_ends (fields_of lower) at ts)

for_started : (b : Below) (at o : Span) (ss : List Specifier) (ts : List Token) →
    for_with b at o ss ts ≡ then_read (start_with b ss ts)
    (λ start us. then_read (read_for_tests b us)
    (λ tests vs. then_read (b.statement vs) (λ s ws. Found (for_of at o start tests s) ws)))
for_started b at o [] ts = simp parted
for_started b at o (s ∷ ss) ts = simp parted

for_headed : (b : Below) (at : Span) (ts : List Token) →
    then_read (read_mark marks.LeftParen ts) (λ o us. for_with b at o (take_specifiers us).0 us)
    ≡ then_read (read_for_head b ts)
    (λ h us. then_read (b.statement us) (λ s vs. Found (for_of at h.0 h.1 h.2 s) vs))
for_headed b at ts = simp (parted, for_started)

pub for_parted : (height : ℕ) (at : Span) (ts : List Token) → 1 < height →
    for_behind (below_node height) at ts ≡ then_read (read_for_head (below_node height) ts)
    (λ h us. then_read ((below_node height).statement us) (λ s vs. Found (for_of at h.0 h.1 h.2 s) vs))
for_parted height at ts h = behind (height - 1) _ ts _ _ (omega arith) ∙ for_headed (below_node height) at ts

switch_headed : (b : Below) (at : Span) (ts : List Token) →
    then_read (read_condition b ts) (λ k us. then_read (read_mark marks.LeftBrace us)
    (λ begin vs. then_read (read_until b.labelled vs) (λ ss ws. then_read (read_mark marks.RightBrace ws)
    (λ end xs. Found (Switch at k.0 k.1 k.2 begin (stmts_of ss) end) xs))))
    ≡ then_read (read_switch_head b ts)
    (λ h us. then_read (read_closed b.labelled us)
    (λ l vs. Found (Switch at h.0.0 h.0.1 h.0.2 h.1 (stmts_of l.0) l.1) vs))
switch_headed b at ts = simp parted

pub switch_parted : (height lower : ℕ) (at : Span) (ts : List Token) → lower ≡ height - 1 → 0 < lower →
    switch_behind (below_node height) at ts ≡ then_read (read_switch_head (fields_of lower) ts)
    (λ h us. then_read (read_closed (fields_of lower).labelled us)
    (λ l vs. Found (Switch at h.0.0 h.0.1 h.0.2 h.1 (stmts_of l.0) l.1) vs))
switch_parted height lower at ts e h =
    ap (λ (b : Below). switch_behind b at ts) (below_is height lower e)
    ∙ (behind lower _ ts _ _ h ∙ switch_headed (fields_of lower) at ts)
