-- With more height, declarations that were found are found, and faults of height move on.
use Rattle.std.proofs.Common.{◌≡◌, ℕ, suc, List, [], ◌∷◌, ◌++◌, length, Option, Some, None}
use Rattle.std.proofs.Common.{ap, arith}
use Rattle.pcc_base.specs.declared.span.Span.{Span}
use Rattle.c_lex.specs.declared.token.Token.{Token}
use Rattle.c_lex.specs.declared.token.Punct.{Punct}
use Rattle.c_lex.specs.declared.token.Punct.TheVariants as marks
use Rattle.c_syntax.specs.declared.expression.Identifier.{Identifier}
use Rattle.c_syntax.specs.declared.expression.Specifier.{Specifier}
use Rattle.c_syntax.specs.Marks.{mark}
use Rattle.c_syntax.specs.Expressions.{Star}
use Rattle.c_syntax.specs.ExpressionTokens.{specifiers_tokens, pointer_tokens}
use Rattle.c_syntax.specs.Declarations.{Plain, DeclaratorTree}
use Rattle.c_syntax.specs.DeclarationTokens.{maybe_name_tokens}
use Rattle.c_grammar.specs.Taking.{take_mark, take_specifiers, take_pointer}
use Rattle.c_grammar.specs.Chains.{Takes, Reads}
use Rattle.c_grammar.specs.Reading.{Reader, Readers, Values}
use Rattle.c_grammar.specs.DeclarationReading.{Listed, list_at, list_step, read_more, take_name, maybe_from, maybe_before}
use Rattle.c_grammar.specs.DeclarationReading.{array_behind, maybe_array_from, read_maybe_array}
use Rattle.c_grammar.specs.DeclarationReading.{parameter_behind, parameter_with, read_parameter, parameters_from}
use Rattle.c_grammar.specs.DeclarationReading.{read_parameters, part_in_parens, part_from, read_part}
use Rattle.c_grammar.specs.DeclarationReading.{declarator_named, read_declarator, Braced, brace_close}
use Rattle.c_grammar.specs.DeclarationReading.{brace_at, brace_behind, brace_step, read_values}
use Rattle.c_grammar.specs.DeclarationReading.{initialiser_from, read_initialiser, value_from, item_behind, read_item}
use Rattle.c_grammar.specs.DeclarationReading.{declaration_behind, declaration_with, read_declaration}
use Rattle.c_grammar.proofs.Sound.{HoldsTaken, mark_taken, specifiers_taken, pointer_taken}
use Rattle.c_grammar.proofs.SoundDeclarations.{name_taken}
use Rattle.c_grammar.proofs.Rising.{Rises, StepRises, TurnRises, then_rises, step_rises, found, faults, goes, turn_done}
use Rattle.c_grammar.proofs.Rising.{longer, behind, behind_row, turn_behind, mark_rises, chain_rises}
use Rattle.c_grammar.proofs.RisingExpressions.{Rise, room_rises}

-- ---- several, with commas between them

list_rises : {A W : Type 0} (read more : List Token → Reads A) → ((ts : List Token) → Rises W ts (read ts) (more ts))
    → (l : Listed A) (us : List Token) → TurnRises W us (list_step read l us) (list_step more l us)
list_rises {A} {W} read more r l us = under (take_mark marks.Comma us) (mark_taken marks.Comma us)
  where
    under : (o : Takes Span) → HoldsTaken (λ at vs. us ≡ mark marks.Comma at ∷ vs) o
        → TurnRises W us (list_at read l o) (list_at more l o)
    under None h = turn_done us
    under (Some (at, vs)) h = turn_behind us h (step_rises (r vs) (λ e ws. goes _ ws))

more_rises : {A W : Type 0} (read more : List Token → Reads A) → ((ts : List Token) → Rises W ts (read ts) (more ts))
    → (a : A) (ts : List Token) → Rises W ts (read_more read a ts) (read_more more a ts)
more_rises read more r a ts =
    chain_rises (list_step read) (list_step more) (list_rises read more r) (length ts) (a ∷ [], []) ts

-- ---- declarators

pub maybe_rises : {W : Type 0} (read more : Reader) → ((ts : List Token) → Rises W ts (read ts) (more ts)) → (m : Punct)
    (ts : List Token) → Rises W ts (maybe_before read m ts) (maybe_before more m ts)
maybe_rises {W} read more r m ts = under (take_mark m ts)
  where
    under : (o : Takes Span) → Rises W ts (maybe_from read o ts) (maybe_from more o ts)
    under (Some close) = found None ts
    under None = then_rises (r ts) (λ e us. found _ us)

array_rises : {W : Type 0} {n k : ℕ} {b c : Readers} → Rise W n k b c → (o : Span) (ts : List Token)
    → Rises W ts (array_behind b o ts) (array_behind c o ts)
array_rises {W} {n} {k} {b} {c} r o ts =
    then_rises (maybe_rises b.conditional c.conditional r.conditional marks.RightBracket ts) (λ size us.
    then_rises (mark_rises marks.RightBracket us) (λ x vs. found _ vs))

maybe_array_rises : {W : Type 0} {n k : ℕ} {b c : Readers} → Rise W n k b c → (ts : List Token)
    → Rises W ts (read_maybe_array b ts) (read_maybe_array c ts)
maybe_array_rises {W} {n} {k} {b} {c} r ts = under (take_mark marks.LeftBracket ts) (mark_taken marks.LeftBracket ts)
  where
    under : (o : Takes Span) → HoldsTaken (λ at us. ts ≡ mark marks.LeftBracket at ∷ us) o
        → Rises W ts (maybe_array_from b o ts) (maybe_array_from c o ts)
    under None h = found None ts
    under (Some (o, us)) h = behind ts h (then_rises (array_rises r o us) (λ a vs. found _ vs))

parameter_rises : {W : Type 0} {n k : ℕ} {b c : Readers} → Rise W n k b c → (ts : List Token)
    → Rises W ts (read_parameter b ts) (read_parameter c ts)
parameter_rises {W} {n} {k} {b} {c} r ts = under (take_specifiers ts).0 (take_specifiers ts).1 (specifiers_taken ts)
  where
    named : (ss : List Specifier) (us : List Token)
        → Rises W us (parameter_behind b ss (take_pointer us)) (parameter_behind c ss (take_pointer us))
    named ss us =
        (let vs : List Token = (take_pointer us).1 in
        behind_row us (pointer_tokens (take_pointer us).0) (pointer_taken us)
        (behind_row vs (maybe_name_tokens (take_name vs).0) (name_taken vs)
        (then_rises (maybe_array_rises r (take_name vs).1) (λ a ws. found _ ws))))

    under : (ss : List Specifier) (us : List Token) → ts ≡ specifiers_tokens ss ++ us
        → Rises W ts (parameter_with b ss us) (parameter_with c ss us)
    under [] us h = behind_row ts (specifiers_tokens []) h (faults us)
    under (s ∷ ss) us h = behind_row ts (specifiers_tokens (s ∷ ss)) h (named (s ∷ ss) us)

parameters_rises : {W : Type 0} {n k : ℕ} {b c : Readers} → Rise W n k b c → (ts : List Token)
    → Rises W ts (read_parameters b ts) (read_parameters c ts)
parameters_rises {W} {n} {k} {b} {c} r ts = under (take_mark marks.RightParen ts)
  where
    under : (o : Takes Span) → Rises W ts (parameters_from b o ts) (parameters_from c o ts)
    under (Some close) = found ([], []) ts
    under None = then_rises (parameter_rises r ts) (λ p us.
        more_rises (read_parameter b) (read_parameter c) (parameter_rises r) p us)

part_rises : {W : Type 0} {n k : ℕ} {b c : Readers} → Rise W n k b c → (ts : List Token)
    → Rises W ts (read_part b ts) (read_part c ts)
part_rises {W} {n} {k} {b} {c} r ts = under (take_mark marks.LeftBracket ts) (mark_taken marks.LeftBracket ts)
  where
    parens : (o : Takes Span) → HoldsTaken (λ at us. ts ≡ mark marks.LeftParen at ∷ us) o
        → Rises W ts (part_in_parens b o ts) (part_in_parens c o ts)
    parens None h = found Plain ts
    parens (Some (o, us)) h = behind ts h (then_rises (then_rises (parameters_rises r us) (λ ps vs.
        then_rises (mark_rises marks.RightParen vs) (λ x ws. found _ ws))) (λ p vs. found _ vs))

    under : (o : Takes Span) → HoldsTaken (λ at us. ts ≡ mark marks.LeftBracket at ∷ us) o
        → Rises W ts (part_from b o ts) (part_from c o ts)
    under None h = parens (take_mark marks.LeftParen ts) (mark_taken marks.LeftParen ts)
    under (Some (o, us)) h = behind ts h (then_rises (array_rises r o us) (λ a vs. found _ vs))

pub declarator_rises : {W : Type 0} {n k : ℕ} {b c : Readers} → Rise W n k b c → (ts : List Token)
    → Rises W ts (read_declarator b ts) (read_declarator c ts)
declarator_rises {W} {n} {k} {b} {c} r ts =
    behind_row ts (pointer_tokens (take_pointer ts).0) (pointer_taken ts)
    (under (take_pointer ts).0 (take_pointer ts).1 (take_name (take_pointer ts).1).0 (take_name (take_pointer ts).1).1
    (name_taken (take_pointer ts).1))
  where
    under : (pointer : Option Star) (us : List Token) (name : Option Identifier) (vs : List Token) → us
        ≡ maybe_name_tokens name ++ vs
        → Rises W us (declarator_named b pointer name vs) (declarator_named c pointer name vs)
    under pointer us None vs h = behind_row us (maybe_name_tokens None) h (faults vs)
    under pointer us (Some name) vs h =
        behind_row us (maybe_name_tokens (Some name)) h (then_rises (part_rises r vs) (λ part ws. found _ ws))

-- ---- initialisers

brace_rises : {W : Type 0} {n k : ℕ} {b c : Readers} → Rise W n k b c → (a : Braced) (us : List Token)
    → TurnRises W us (brace_step b a us) (brace_step c a us)
brace_rises {W} {n} {k} {b} {c} r a us = by a.0 a.1
  where
    close : (values : Values) (comma : Span) (vs : List Token) (o : Takes Span)
        → StepRises W vs (brace_close b values comma o vs) (brace_close c values comma o vs)
    close values comma vs (Some x) = goes _ vs
    close values comma vs None = step_rises (r.assignment vs) (λ e ws. goes _ ws)

    under : (values : Values) (o : Takes Span) → HoldsTaken (λ at vs. us ≡ mark marks.Comma at ∷ vs) o
        → TurnRises W us (brace_at b values o) (brace_at c values o)
    under values None h = turn_done us
    under values (Some (comma, vs)) h = turn_behind us h (close values comma vs (take_mark marks.RightBrace vs))

    by : (values : Values) (trailing : Option Span)
        → TurnRises W us (brace_behind b values trailing us) (brace_behind c values trailing us)
    by values (Some trailing) = turn_done us
    by values None = under values (take_mark marks.Comma us) (mark_taken marks.Comma us)

initialiser_rises : {W : Type 0} {n k : ℕ} {b c : Readers} → Rise W n k b c → (ts : List Token)
    → Rises W ts (read_initialiser b ts) (read_initialiser c ts)
initialiser_rises {W} {n} {k} {b} {c} r ts = under (take_mark marks.LeftBrace ts) (mark_taken marks.LeftBrace ts)
  where
    values : (us : List Token) → Rises W us (read_values b us) (read_values c us)
    values us = then_rises (r.assignment us) (λ e vs.
        chain_rises (brace_step b) (brace_step c) (brace_rises r) (length vs) ((e ∷ [], []), None) vs)

    under : (o : Takes Span) → HoldsTaken (λ at us. ts ≡ mark marks.LeftBrace at ∷ us) o
        → Rises W ts (initialiser_from b o ts) (initialiser_from c o ts)
    under None h = then_rises (r.assignment ts) (λ e us. found _ us)
    under (Some (o, us)) h = behind ts h (then_rises (values us) (λ braced vs.
        then_rises (mark_rises marks.RightBrace vs) (λ x ws. found _ ws)))

-- ---- items and declarations

item_behind_rises : {W : Type 0} {n k : ℕ} {b c : Readers} → Rise W n k b c → (d : DeclaratorTree) (ts : List Token)
    → Rises W ts (item_behind b d ts) (item_behind c d ts)
item_behind_rises {W} {n} {k} {b} {c} r d ts =
    then_rises (under (take_mark marks.Equal ts) (mark_taken marks.Equal ts)) (λ v us. found _ us)
  where
    under : (o : Takes Span) → HoldsTaken (λ at us. ts ≡ mark marks.Equal at ∷ us) o
        → Rises W ts (value_from b o ts) (value_from c o ts)
    under None h = found None ts
    under (Some (equal, us)) h =
        (let f : length ts ≡ suc (length us) = ap length h in
        longer ts (omega (arith, f))
        (then_rises (room_rises r (mark marks.Equal equal) us (initialiser_rises r us)) (λ v vs. found _ vs)))

item_rises : {W : Type 0} {n k : ℕ} {b c : Readers} → Rise W n k b c → (ts : List Token)
    → Rises W ts (read_item b ts) (read_item c ts)
item_rises r ts = then_rises (declarator_rises r ts) (λ d us. item_behind_rises r d us)

pub declaration_behind_rises : {W : Type 0} {n k : ℕ} {b c : Readers} → Rise W n k b c → (ss : List Specifier)
    (d : DeclaratorTree) (ts : List Token) → Rises W ts (declaration_behind b ss d ts) (declaration_behind c ss d ts)
declaration_behind_rises {W} {n} {k} {b} {c} r ss d ts =
    then_rises (item_behind_rises r d ts) (λ i us.
    then_rises (more_rises (read_item b) (read_item c) (item_rises r) i us) (λ items vs.
    then_rises (mark_rises marks.Semicolon vs) (λ x ws. found _ ws)))

-- behind its specifiers
pub declaration_with_rises : {W : Type 0} {n k : ℕ} {b c : Readers} → Rise W n k b c → (ss : List Specifier)
    (us : List Token) → Rises W us (declaration_with b ss us) (declaration_with c ss us)
declaration_with_rises r [] us = faults us
declaration_with_rises r (s ∷ ss) us =
    then_rises (declarator_rises r us) (λ d vs. declaration_behind_rises r (s ∷ ss) d vs)

pub declaration_rises : {W : Type 0} {n k : ℕ} {b c : Readers} → Rise W n k b c → (ts : List Token)
    → Rises W ts (read_declaration b ts) (read_declaration c ts)
declaration_rises r ts = behind_row ts (specifiers_tokens (take_specifiers ts).0) (specifiers_taken ts)
    (declaration_with_rises r (take_specifiers ts).0 (take_specifiers ts).1)
