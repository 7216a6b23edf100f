-- The readers of what stands below a node, by its height.
use Rattle.std.proofs.Common.{◌≡◌, ℕ, zero, suc, ◌-◌, ◌<◌, true, List, [], ◌∷◌, length, Some, refl, ap, sym, ◌∙◌}
use Rattle.std.proofs.Common.{arith, subst, Result, Ok, Err}
use Rattle.c_lex.specs.declared.token.Token.{Token}
use Rattle.c_syntax.specs.Declarations.{DeclarationTree}
use Rattle.c_syntax.specs.Statements.{LabelTree, Declared, Labelled}
use Rattle.c_grammar.specs.Chains.{Reads, Found, Faults, room, then_read}
use Rattle.c_grammar.proofs.Chains.{above_low}
use Rattle.c_grammar.specs.Taking.{take_specifiers}
use Rattle.c_grammar.specs.Reading.{readers}
use Rattle.c_grammar.proofs.Reading.{readers-none}
use Rattle.c_grammar.specs.DeclarationReading.{read_declaration}
use Rattle.c_grammar.specs.StatementReading as reading
use Rattle.c_grammar.specs.StatementReading.{Below, below_of, read_statement, read_block_item, read_labels}
use Rattle.c_grammar.specs.StatementReading.{read_labelled, if_behind, while_behind, do_behind, for_behind}
use Rattle.c_grammar.specs.StatementReading.{switch_behind}
use Rattle.c_grammar.proofs.StatementReading.{below_of-none, below_of-suc, below_above}
use Rattle.c_parse_expressions.specs.Places.{front_place}
use Rattle.c_parse_expressions.specs.Readings.{IsRead, IsPartRead, Refused}
use Rattle.c_parse_expressions.specs.Fronts.{BeginsWithSpecifier}
use Rattle.c_parse_expressions.specs.declared.parse_error.ParseError.{ParseError}
use Rattle.c_parse_expressions.specs.declared.parse_error.ParseError.TheVariants.{Fault}
use Rattle.c_parse_expressions.proofs.Refused.{refused_before}
use Rattle.c_parse_expressions.proofs.Rooms.{readers_height}
use Rattle.c_parse.specs.StatementParts.{fields_of, below_node, front_begins_item}

-- one reader in place of another
pub same_read : {T A : Type 0} (tree : T → A) (r s : List Token → Reads A) (old new : List Token)
    (result : Result T ParseError) → r old ≡ s old → IsRead tree s old new result → IsRead tree r old new result
same_read tree r s old new (Ok x) e p = (e ∙ p.0, p.1)
same_read {T} {A} tree r s old new (Err x) e p = subst (λ (y : Reads A). Refused y x) (sym e) p

-- what is read behind a first part
pub read_behind : {T A : Type 0} (tree : T → A) (r s : List Token → Reads A) (old mid new : List Token)
    (result : Result T ParseError) → r old ≡ s mid → length mid < length old → IsPartRead tree s mid new result
    → IsRead tree r old new result
read_behind tree r s old mid new (Ok x) e l p = (e ∙ p.0, omega (arith, l, p.1))
read_behind {T} {A} tree r s old mid new (Err x) e l p = subst (λ (y : Reads A). Refused y x) (sym e) p

-- the readers are their fields
pub fields_are : (n : ℕ) → fields_of n ≡ below_of n
fields_are zero = rw (readers-none, below_of-none) refl
fields_are (suc n) = rw (below_of-suc n) refl

-- ---- where there is a height

statement_at : (n : ℕ) (ts : List Token) → 0 < n → (below_of n).statement ts ≡ read_statement (fields_of (n - 1)) ts
statement_at n ts h =
    ap (λ (b : Below). b.statement ts) (below_above n h)
    ∙ ap (λ (b : Below). read_statement b ts) (sym (fields_are (n - 1)))

declaration_at : (n : ℕ) (ts : List Token) → 0 < n → (below_of n).declaration ts ≡ read_declaration (readers (n - 1)) ts
declaration_at n ts h =
    ap (λ (b : Below). b.declaration ts) (below_above n h)
    ∙ ap (λ (b : Below). read_declaration b.exprs ts) (sym (fields_are (n - 1)))

item_at : (n : ℕ) (ts : List Token) → 0 < n → (below_of n).item ts
    ≡ read_block_item (below_of n).declaration (below_of n).statement ts
item_at n ts h = rw (below_above n h) refl

labelled_at : (n : ℕ) (ts : List Token) → 0 < n → (below_of n).labelled ts
    ≡ read_labelled (readers n).conditional (below_of n).statement ts
labelled_at n ts h = rw (below_above n h) refl

-- the readers of what stands below a node are those for the lower height
pub below_is : (height lower : ℕ) → lower ≡ height - 1 → below_node height ≡ fields_of lower
below_is height lower e = ap fields_of (sym e)

-- a statement of at most this height
pub statement_reads : (n : ℕ) (ts : List Token) → 0 < n → (fields_of n).statement ts ≡ read_statement (below_node n) ts
statement_reads n ts h = statement_at n ts h

-- a statement below a node
pub statement_is : (height lower : ℕ) (ts : List Token) → lower ≡ height - 1 → 0 < lower
    → (below_node height).statement ts ≡ read_statement (below_node lower) ts
statement_is height lower ts e h = ap (λ (n : ℕ). (below_of n).statement ts) (sym e) ∙ statement_at lower ts h

-- where no statement of the lower height is read, none is below the node
pub refused_below : (height lower : ℕ) (ts : List Token) (e : ParseError) → lower ≡ height - 1
    → Refused ((fields_of lower).statement ts) e → Refused ((below_node height).statement ts) e
refused_below height lower ts e is r = subst (λ (n : ℕ). Refused ((fields_of n).statement ts) e) is r

-- a declaration below a node
pub declaration_is : (height lower : ℕ) (ts : List Token) → lower ≡ height - 1 → 0 < lower
    → (below_node height).declaration ts ≡ read_declaration (readers (lower - 1)) ts
declaration_is height lower ts e h = ap (λ (n : ℕ). (below_of n).declaration ts) (sym e) ∙ declaration_at lower ts h

item_is : (height lower : ℕ) (ts : List Token) → lower ≡ height - 1 → 0 < lower → (below_node height).item ts
    ≡ read_block_item (below_of lower).declaration (below_of lower).statement ts
item_is height lower ts e h = ap (λ (n : ℕ). (below_of n).item ts) (sym e) ∙ item_at lower ts h

-- a declaration in a block
pub item_declared : (height lower : ℕ) (ts : List Token) → lower ≡ height - 1 → 0 < lower → BeginsWithSpecifier ts
    → (below_node height).item ts ≡ then_read (read_declaration (readers (lower - 1)) ts)
    (λ d us. Found (Declared d) us)
item_declared height lower ts e h b =
    item_is height lower ts e h
    ∙ ((let first : read_block_item (below_of lower).declaration (below_of lower).statement ts
    ≡ then_read ((below_of lower).declaration ts) (λ d us. Found (Declared d) us) = rw b.3 refl in first)
    ∙ ap (λ (r : Reads DeclarationTree). then_read r (λ d us. Found (Declared d) us)) (declaration_at lower ts h))

-- a statement in a block
pub item_stated : (height lower : ℕ) (ts : List Token) → lower ≡ height - 1 → 0 < lower → take_specifiers ts ≡ ([], ts)
    → (below_node height).item ts ≡ read_statement (below_node lower) ts
item_stated height lower ts e h none = item_is height lower ts e h ∙ (rw (none, statement_at lower ts h) refl)

-- a statement with its labels
pub labelled_is : (n : ℕ) (ts : List Token) → 0 < n → (fields_of n).labelled ts
    ≡ read_labelled (readers n).conditional (fields_of n).statement ts
labelled_is n ts h = labelled_at n ts h

-- a statement behind its labels
pub labelled_reads : (n : ℕ) (ts : List Token) (ls : List LabelTree) (us : List Token) → 0 < n
    → read_labels (readers n).conditional ts ≡ Found ls us → (fields_of n).labelled ts
    ≡ then_read ((fields_of n).statement us) (λ s vs. Found (Labelled ls s) vs)
labelled_reads n ts ls us h e = labelled_is n ts h ∙ (rw e refl)

-- ---- where no height is left

no_item_is : {A : Type 0} (us : List Token) → reading.no_item {A = A} us ≡ Faults (front_begins_item us) us
no_item_is [] = refl
no_item_is (t ∷ ts) = refl

-- nor a statement
pub no_statement : (height : ℕ) (us : List Token) → height ≡ 1 → (below_node height).statement us
    ≡ Faults (front_begins_item us) us
no_statement height us e = (let z : height - 1 ≡ 0 = omega arith in rw (z, below_of-none) (no_item_is us))

-- nor a declaration
pub no_declaration : (height : ℕ) (us : List Token) → height ≡ 1 → (below_node height).declaration us
    ≡ Faults (front_begins_item us) us
no_declaration height us e = (let z : height - 1 ≡ 0 = omega arith in rw (z, below_of-none) (no_item_is us))

-- nor an item of a block
pub no_item : (height : ℕ) (us : List Token) → height ≡ 1 → (below_node height).item us ≡ Faults (front_begins_item us) us
no_item height us e = (let z : height - 1 ≡ 0 = omega arith in rw (z, below_of-none) (no_item_is us))

-- the refusal there
pub refused_item : {A : Type 0} (reads : Reads A) (us : List Token) (e : ParseError) → reads
    ≡ Faults (front_begins_item us) us → e ≡ Fault (front_begins_item us) (front_place us) → Refused reads e
refused_item reads us e is f = refused_before reads (front_begins_item us) us (front_place us) e is refl f

-- ---- a node, and what stands below it

-- a node of height 1 has room for nothing
pub no_room : {A : Type 0} (height : ℕ) (t : Token) (ts : List Token) (r : Reads A) → height ≡ 1
    → room (readers (height - 1)).height t ts r ≡ Faults true (t ∷ ts)
no_room height t ts r e = (let z : height - 1 ≡ 0 = omega arith in rw (z, readers-none) refl)

-- one below which something may stand has room
pub has_room : {A : Type 0} (lower : ℕ) (t : Token) (ts : List Token) (r : Reads A) → 0 < lower
    → room (readers lower).height t ts r ≡ r
has_room lower t ts r h =
    (let low : 0 < (readers lower).height = rw (readers_height lower) h in above_low 0 (readers lower).height t ts r low)

-- a first part that is too deep
pub refused_deep : {A B : Type 0} (reads : Reads A) (f : A → List Token → Reads B) (t : Token) (ts : List Token)
    (e : ParseError) → reads ≡ Faults true (t ∷ ts) → e ≡ Fault true (Some t.at) → Refused (then_read reads f) e
refused_deep reads f t ts e is g =
    (let k : then_read reads f ≡ Faults true (t ∷ ts) = rw is refl in
    refused_before (then_read reads f) true (t ∷ ts) (Some t.at) e k refl g)
