-- Every declaration is read, and each of its parts, whatever follows that does not go on with it.
use Rattle.std.specs.List.{AllByRecursion}
use Rattle.std.proofs.Common.{◌≡◌, ℕ, suc, ◌≤◌, ◌<◌, false, List, [], ◌∷◌, ◌++◌, length, length-append, Option, Some}
use Rattle.std.proofs.Common.{None, refl, ap, sym, ◌∙◌, subst, arith, append_assoc}
use denote.Enum.Bare.{true_same}
use Rattle.std.proofs.lemmas.List.{append-nil}
use Rattle.pcc_base.specs.declared.span.Span.{Span}
use Rattle.c_lex.specs.declared.token.Token.{Token}
use Rattle.c_lex.specs.declared.token.Punct.{Punct}
use Rattle.c_lex.specs.declared.token.Punct.TheVariants as marks
use Rattle.c_lex.specs.contracts.token.Punct.{the_type as the_marks}
use Rattle.c_syntax.specs.declared.expression.Identifier.{Identifier}
use Rattle.c_syntax.specs.declared.expression.Specifier.{Specifier}
use Rattle.c_syntax.specs.Marks.{mark, ident}
use Rattle.c_syntax.specs.Expressions.{Star, Expr, Exprs, exprs_of, NoExpr, OneExpr}
use Rattle.c_syntax.specs.ExpressionTokens.{expr_tokens, more_tokens, specifiers_tokens, pointer_tokens, expr_height}
use Rattle.c_syntax.specs.ExpressionTokens.{exprs_height, looseness, IsExpr, AreValues, Follow, IsSpecifiers}
use Rattle.c_syntax.specs.Declarations.{ArrayTree, ParameterTree, PartTree, Plain, Array, Function, DeclaratorTree}
use Rattle.c_syntax.specs.Declarations.{InitialiserTree, Single, Braces, ValueTree, ItemTree, DeclarationTree}
use Rattle.c_syntax.specs.DeclarationTokens.{followed, separated, AreApart, greatest, maybe_expr_tokens}
use Rattle.c_syntax.specs.DeclarationTokens.{maybe_array_tokens, maybe_name_tokens, parameter_tokens, part_tokens}
use Rattle.c_syntax.specs.DeclarationTokens.{declarator_tokens, maybe_comma_tokens, initialiser_tokens, value_tokens}
use Rattle.c_syntax.specs.DeclarationTokens.{item_tokens, declaration_tokens, maybe_expr_height, maybe_array_height}
use Rattle.c_syntax.specs.DeclarationTokens.{parameter_height, part_height, initialiser_height, value_height}
use Rattle.c_syntax.specs.DeclarationTokens.{item_height, declaration_height, IsMaybeConditional, IsMaybeArray}
use Rattle.c_syntax.specs.DeclarationTokens.{IsParameter, IsPart, IsInitialiser, IsMaybeValue, IsItem, AreItems}
use Rattle.c_syntax.specs.DeclarationTokens.{IsDeclaration}
use Rattle.c_grammar.specs.Chains.{Goes, Reads, Found, chained}
use Rattle.c_grammar.proofs.Chains.{Continues, continues_start, continues_goes, continues_done}
use Rattle.c_grammar.specs.Taking.{take_mark, take_specifiers, take_pointer}
use Rattle.c_grammar.specs.Reading.{Reader, Readers, Values}
use Rattle.c_grammar.proofs.Stops.{Stops}
use Rattle.c_grammar.specs.Heads.{mark_begins}
use Rattle.c_grammar.proofs.Heads.{expression_no_mark}
use Rattle.c_grammar.proofs.Complete.{Finds, Complete, has_room, height_above, list_of, exprs_of_list, takes_specifiers}
use Rattle.c_grammar.proofs.Complete.{takes_pointer, pointer_no_specifier, NoSpecifier, NoConst}
use Rattle.c_grammar.specs.DeclarationReading.{Listed, list_step, read_more, take_name, maybe_before, array_behind}
use Rattle.c_grammar.specs.DeclarationReading.{read_maybe_array, read_parameter, read_parameters, read_part}
use Rattle.c_grammar.specs.DeclarationReading.{read_declarator, Braced, brace_step, braces_behind, read_initialiser}
use Rattle.c_grammar.specs.DeclarationReading.{value_from, read_item, declaration_behind, read_declaration}

-- a mark is taken
pub takes_mark : (m : Punct) (at : Span) (ts : List Token) → take_mark m (mark m at ∷ ts) ≡ Some (at, ts)
takes_mark m at ts = rw (true_same the_marks m m refl) refl

-- ---- several, with commas between them

-- it is read, whatever follows of which E holds
abbrev pub FoundBefore : {A : Type 0} → (A → List Token) → (List Token → Reads A) → (List Token → Type 0) → A → Type 0
FoundBefore tokens read E x = (ts : List Token) → E ts → read (tokens x ++ ts) ≡ Found x ts

more_ends : {A : Type 0} (tokens : A → List Token) (E : List Token → Type 0)
    → ((at : Span) (ts : List Token) → E (mark marks.Comma at ∷ ts))
    → (xs : List A) (commas : List Span) (rest : List Token) → E rest → E (followed tokens xs commas ++ rest)
more_ends tokens E comma [] commas rest end = end
more_ends tokens E comma (x ∷ xs) [] rest end = end
more_ends tokens E comma (x ∷ xs) (at ∷ commas) rest end = comma at ((tokens x ++ followed tokens xs commas) ++ rest)

pub list_continue : {A : Type 0} (tokens : A → List Token) (read : List Token → Reads A) (E : List Token → Type 0)
    → ((at : Span) (ts : List Token) → E (mark marks.Comma at ∷ ts)) →
    (xs : List A) (commas : List Span) (a : Listed A) (rest : List Token) (out : Reads (Listed A)) → length commas
    ≡ length xs → E rest → AllByRecursion (FoundBefore tokens read E) xs →
    Continues (list_step read) a (followed tokens xs commas ++ rest) out
    → Continues (list_step read) (a.0 ++ xs, a.1 ++ commas) rest out
list_continue tokens read E comma [] [] a rest out apart end found c =
    (let e : (a.0 ++ [], a.1 ++ []) ≡ a = ap (λ xs. (xs, a.1 ++ [])) (append-nil a.0)
    ∙ ap (λ cs. (a.0, cs)) (append-nil a.1) in
    subst (λ v. Continues (list_step read) v rest out) (sym e) c)
list_continue tokens read E comma [] (at ∷ commas) a rest out apart end found c = absurd (omega arith)
list_continue tokens read E comma (x ∷ xs) [] a rest out apart end found c = absurd (omega arith)
list_continue tokens read E comma (x ∷ xs) (at ∷ commas) a rest out apart end found c =
    (let more : List Token = followed tokens xs commas ++ rest in
    let group : (tokens x ++ followed tokens xs commas) ++ rest ≡ tokens x ++ more =
    append_assoc (tokens x) (followed tokens xs commas) rest in
    let one : read (tokens x ++ more) ≡ Found x more = found.0 more (more_ends tokens E comma xs commas rest end) in
    let goes : list_step read a (followed tokens (x ∷ xs) (at ∷ commas) ++ rest)
    ≡ Goes (a.0 ++ x ∷ [], a.1 ++ at ∷ []) more = rw (group, one) refl in
    let less : length more < length (followed tokens (x ∷ xs) (at ∷ commas) ++ rest) =
    rw group (omega (arith, length-append (tokens x) more)) in
    let next = continues_goes _ _ _ _ _ _ c goes less in
    let all = list_continue tokens read E comma xs commas (a.0 ++ x ∷ [], a.1 ++ at ∷ []) rest out (omega arith) end
    found.1 next in
    let same : ((a.0 ++ x ∷ []) ++ xs, (a.1 ++ at ∷ []) ++ commas) ≡ (a.0 ++ x ∷ xs, a.1 ++ at ∷ commas) =
    rw (append_assoc a.0 (x ∷ []) xs, append_assoc a.1 (at ∷ []) commas) refl in
    subst (λ v. Continues (list_step read) v rest out) same all)

-- a list, behind whose last element no comma comes
pub list_read : {A : Type 0} (tokens : A → List Token) (read : List Token → Reads A) (E : List Token → Type 0)
    → ((at : Span) (ts : List Token) → E (mark marks.Comma at ∷ ts)) →
    (x : A) (xs : List A) (commas : List Span) (rest : List Token) → length commas ≡ length xs → E rest
    → take_mark marks.Comma rest ≡ None → AllByRecursion (FoundBefore tokens read E) xs →
    read_more read x (followed tokens xs commas ++ rest) ≡ Found (x ∷ xs, commas) rest
list_read tokens read E comma x xs commas rest apart end none found =
    (let all = list_continue tokens read E comma xs commas (x ∷ [], []) rest _ apart end found
    (continues_start (list_step read) (x ∷ [], []) (followed tokens xs commas ++ rest)) in
    continues_done _ _ _ _ all (rw none refl))

-- the first element is read before the others
pub first_found : {A : Type 0} (tokens : A → List Token) (read : List Token → Reads A) (E : List Token → Type 0)
    → ((at : Span) (ts : List Token) → E (mark marks.Comma at ∷ ts)) →
    (x : A) (xs : List A) (commas : List Span) (rest : List Token) → E rest → FoundBefore tokens read E x →
    read ((tokens x ++ followed tokens xs commas) ++ rest) ≡ Found x (followed tokens xs commas ++ rest)
first_found tokens read E comma x xs commas rest end found =
    rw (append_assoc (tokens x) (followed tokens xs commas) rest)
    (found (followed tokens xs commas ++ rest) (more_ends tokens E comma xs commas rest end))

-- what holds of each element that is low enough
pub all_found : {A : Type 0} (P Q : A → Type 0) (height : A → ℕ) (n : ℕ) → ((x : A) → P x → height x ≤ n → Q x)
    → (xs : List A) → AllByRecursion P xs → greatest height xs ≤ n → AllByRecursion Q xs
all_found P Q height n one [] are low = tt
all_found P Q height n one (x ∷ xs) are low =
    (one x are.0 (omega arith), all_found P Q height n one xs are.1 (omega arith))

-- ---- declarators

-- such an expression is so loose and so high
abbrev pub MaybeFits : ℕ → ℕ → Option Expr → Type 0
MaybeFits c n None = Unit {0}
MaybeFits c n (Some e) = IsExpr e × (looseness e ≤ c) × (expr_height e ≤ n)

maybe_fits : (n : ℕ) (e : Option Expr) → IsMaybeConditional e → maybe_expr_height e ≤ n → MaybeFits 14 n e
maybe_fits n None is low = tt
maybe_fits n (Some e) is low = (is.0, is.1, low)

-- an expression, or none, before a mark that begins none
pub maybe_read : (m : Punct) (c n : ℕ) (read : Reader) → Finds c n read → mark_begins m ≡ false → c < 17
    → (e : Option Expr) (at : Span) (rest : List Token) →
    (is : MaybeFits c n e) → Stops c (mark m at ∷ rest) → maybe_before read m (maybe_expr_tokens e ++ mark m at ∷ rest)
    ≡ Found e (mark m at ∷ rest)
maybe_read m c n read finds begins top None at rest is stops = rw (takes_mark m at rest) refl
maybe_read m c n read finds begins top (Some e) at rest is stops =
    rw (expression_no_mark m e (mark m at ∷ rest) is.0 begins, finds e (mark m at ∷ rest) is.0 is.1 is.2 stops) refl

array_read : (n : ℕ) (b : Readers) → Complete n b → (a : ArrayTree) (rest : List Token) → IsMaybeConditional a.size
    → maybe_expr_height a.size ≤ n →
    array_behind b a.opening ((maybe_expr_tokens a.size ++ mark marks.RightBracket a.close ∷ []) ++ rest)
    ≡ Found a rest
array_read n b cb a rest is low =
    (let group : (maybe_expr_tokens a.size ++ mark marks.RightBracket a.close ∷ []) ++ rest
    ≡ maybe_expr_tokens a.size ++ mark marks.RightBracket a.close ∷ rest =
    append_assoc (maybe_expr_tokens a.size) (mark marks.RightBracket a.close ∷ []) rest in
    rw (
      group,
      maybe_read marks.RightBracket 14 n b.conditional cb.conditional refl (omega arith) a.size a.close rest
          (maybe_fits n a.size is low) (omega arith),
    ) refl)

maybe_array_read : (n : ℕ) (b : Readers) → Complete n b → (a : Option ArrayTree) (rest : List Token) → IsMaybeArray a
    → maybe_array_height a ≤ n → take_mark marks.LeftBracket rest ≡ None →
    read_maybe_array b (maybe_array_tokens a ++ rest) ≡ Found a rest
maybe_array_read n b cb None rest is low none = rw none refl
maybe_array_read n b cb (Some a) rest is low none = rw (array_read n b cb a rest is low) refl

-- what may stand behind a parameter: nothing that goes on with one
pub record Clear (ts : List Token) : Type 0 where
  pub no_specifier : NoSpecifier ts
  pub no_const : NoConst ts
  pub no_star : take_mark marks.Star ts ≡ None
  pub no_name : take_name ts ≡ (None, ts)
  pub no_bracket : take_mark marks.LeftBracket ts ≡ None

-- a parameter, whatever follows that is clear
parameter_reads : (b : Readers) (ts : List Token) (s : Specifier) (ss : List Specifier) (us : List Token)
    (pointer : Option Star) (vs : List Token) (name : Option Identifier) (ws : List Token) (a : Option ArrayTree)
    (rest : List Token) →
    take_specifiers ts ≡ (s ∷ ss, us) → take_pointer us ≡ (pointer, vs) → take_name vs ≡ (name, ws)
    → read_maybe_array b ws ≡ Found a rest →
    read_parameter b ts ≡ Found (record { specifiers = s ∷ ss; pointer = pointer; name = name; array = a }) rest
parameter_reads b ts s ss us pointer vs name ws a rest e f g h = rw (e, f, g, h) refl

parameter_read : (n : ℕ) (b : Readers) → Complete n b → (p : ParameterTree) → IsParameter p → parameter_height p ≤ n
    → FoundBefore parameter_tokens (read_parameter b) Clear p
parameter_read n b cb p is low rest clear = by_parts p.specifiers p.pointer p.name p.array is.0 is.1 low
  where
    by_array : (ss : List Specifier) (pointer : Option Star) (name : Option Identifier) (a : Option ArrayTree)
        → IsMaybeArray a → maybe_array_height a ≤ n → read_maybe_array b (maybe_array_tokens a ++ rest) ≡ Found a rest
    by_array ss pointer name a is low = maybe_array_read n b cb a rest is low clear.no_bracket

    array_specifier : (a : Option ArrayTree) → NoSpecifier (maybe_array_tokens a ++ rest)
    array_specifier None = clear.no_specifier
    array_specifier (Some a) = refl

    array_const : (a : Option ArrayTree) → NoConst (maybe_array_tokens a ++ rest)
    array_const None = clear.no_const
    array_const (Some a) = refl

    array_star : (a : Option ArrayTree) → take_mark marks.Star (maybe_array_tokens a ++ rest) ≡ None
    array_star None = clear.no_star
    array_star (Some a) = refl

    array_name : (a : Option ArrayTree) → take_name (maybe_array_tokens a ++ rest)
        ≡ (None, maybe_array_tokens a ++ rest)
    array_name None = clear.no_name
    array_name (Some a) = refl

    name_specifier : (name : Option Identifier) (a : Option ArrayTree)
        → NoSpecifier (maybe_name_tokens name ++ (maybe_array_tokens a ++ rest))
    name_specifier None a = array_specifier a
    name_specifier (Some name) a = refl

    name_const : (name : Option Identifier) (a : Option ArrayTree)
        → NoConst (maybe_name_tokens name ++ (maybe_array_tokens a ++ rest))
    name_const None a = array_const a
    name_const (Some name) a = refl

    name_star : (name : Option Identifier) (a : Option ArrayTree)
        → take_mark marks.Star (maybe_name_tokens name ++ (maybe_array_tokens a ++ rest)) ≡ None
    name_star None a = array_star a
    name_star (Some name) a = refl

    name_name : (name : Option Identifier) (a : Option ArrayTree)
        → take_name (maybe_name_tokens name ++ (maybe_array_tokens a ++ rest)) ≡ (name, maybe_array_tokens a ++ rest)
    name_name None a = array_name a
    name_name (Some name) a = refl

    by_parts : (ss : List Specifier) (pointer : Option Star) (name : Option Identifier) (a : Option ArrayTree)
        → IsSpecifiers ss → IsMaybeArray a → maybe_array_height a ≤ n →
        read_parameter b (parameter_tokens (record { specifiers = ss; pointer = pointer; name = name; array = a })
        ++ rest) ≡ Found (record { specifiers = ss; pointer = pointer; name = name; array = a }) rest
    by_parts [] pointer name a is is_array low = absurd is
    by_parts (s ∷ ss) pointer name a is is_array low =
        (let behind : List Token = maybe_name_tokens name ++ (maybe_array_tokens a ++ rest) in
        let group : parameter_tokens (record { specifiers = s ∷ ss; pointer = pointer; name = name; array = a }) ++ rest
        ≡ specifiers_tokens (s ∷ ss) ++ (pointer_tokens pointer ++ behind) =
        append_assoc (specifiers_tokens (s ∷ ss))
        (pointer_tokens pointer ++ (maybe_name_tokens name ++ maybe_array_tokens a)) rest
        ∙ ap (λ ts. specifiers_tokens (s ∷ ss) ++ ts)
        (append_assoc (pointer_tokens pointer) (maybe_name_tokens name ++ maybe_array_tokens a) rest
        ∙ ap (λ ts. pointer_tokens pointer ++ ts) (append_assoc (maybe_name_tokens name) (maybe_array_tokens a) rest))
        in
        let words_read : take_specifiers (specifiers_tokens (s ∷ ss) ++ (pointer_tokens pointer ++ behind))
        ≡ (s ∷ ss, pointer_tokens pointer ++ behind) =
        takes_specifiers (s ∷ ss) (pointer_tokens pointer ++ behind)
        (pointer_no_specifier pointer behind (name_specifier name a)) in
        let pointer_read : take_pointer (pointer_tokens pointer ++ behind) ≡ (pointer, behind) =
        takes_pointer pointer behind (name_const name a) (name_star name a) in
        parameter_reads b (parameter_tokens (record { specifiers = s ∷ ss; pointer = pointer; name = name; array = a })
        ++ rest) s ss (pointer_tokens pointer ++ behind) pointer behind name (maybe_array_tokens a ++ rest) a rest
        (ap take_specifiers group ∙ words_read) pointer_read (name_name name a)
        (by_array (s ∷ ss) pointer name a is_array low))

-- the next token is a comma, or this mark
pub data Ends (m : Punct) : List Token → Type 0 where
  AtComma : (at : Span) (ts : List Token) → Ends m (mark marks.Comma at ∷ ts)
  AtMark : (at : Span) (ts : List Token) → Ends m (mark m at ∷ ts)

clear_at : (ts : List Token) → Ends marks.RightParen ts → Clear ts
clear_at ts (AtComma at us) = record {
  no_specifier = refl;
  no_const = refl;
  no_star = refl;
  no_name = refl;
  no_bracket = refl;
}
clear_at ts (AtMark at us) = record {
  no_specifier = refl;
  no_const = refl;
  no_star = refl;
  no_name = refl;
  no_bracket =
      refl;
}

parameter_found : (n : ℕ) (b : Readers) → Complete n b → (p : ParameterTree) → IsParameter p → parameter_height p ≤ n
    → FoundBefore parameter_tokens (read_parameter b) (Ends marks.RightParen) p
parameter_found n b cb p is low ts ends = parameter_read n b cb p is low ts (clear_at ts ends)

-- specifiers are read, and no `)` stands at their front
parameter_no_close : (ss : List Specifier) (ts : List Token) → IsSpecifiers ss
    → take_mark marks.RightParen (specifiers_tokens ss ++ ts) ≡ None
parameter_no_close [] ts is = absurd is
parameter_no_close (s ∷ ss) ts is = refl

parameters_begin : (b : Readers) (ts : List Token) (p : ParameterTree) (us : List Token)
    (out : Reads (Listed ParameterTree)) → take_mark marks.RightParen ts ≡ None → read_parameter b ts ≡ Found p us
    → read_more (read_parameter b) p us ≡ out → read_parameters b ts ≡ out
parameters_begin b ts p us out none first others = rw (none, first) others

parameters_read : (n : ℕ) (b : Readers) → Complete n b
    → (ps : List ParameterTree) (commas : List Span) (c : Span) (rest : List Token) → AllByRecursion IsParameter ps
    → AreApart ps commas → greatest parameter_height ps ≤ n →
    read_parameters b (separated parameter_tokens ps commas ++ mark marks.RightParen c ∷ rest)
    ≡ Found (ps, commas) (mark marks.RightParen c ∷ rest)
parameters_read n b cb [] commas c rest are apart low = rw apart refl
parameters_read n b cb (p ∷ ps) commas c rest are apart low =
    (let close : List Token = mark marks.RightParen c ∷ rest in
    let E : List Token → Type 0 = Ends marks.RightParen in
    let comma : (at : Span) (ts : List Token) → E (mark marks.Comma at ∷ ts) = λ at ts. AtComma at ts in
    let found : FoundBefore parameter_tokens (read_parameter b) E p = parameter_found n b cb p are.0 (omega arith) in
    let first : read_parameter b ((parameter_tokens p ++ followed parameter_tokens ps commas) ++ close)
    ≡ Found p (followed parameter_tokens ps commas ++ close) =
    first_found parameter_tokens (read_parameter b) E comma p ps commas close (AtMark c rest) found in
    let others : read_more (read_parameter b) p (followed parameter_tokens ps commas ++ close)
    ≡ Found (p ∷ ps, commas) close =
    list_read parameter_tokens (read_parameter b) E comma p ps commas close apart (AtMark c rest) refl
    (all_found IsParameter (FoundBefore parameter_tokens (read_parameter b) E) parameter_height n (parameter_found n b cb)
    ps are.1 (omega arith)) in
    let group : (parameter_tokens p ++ followed parameter_tokens ps commas) ++ close
    ≡ specifiers_tokens p.specifiers ++ (((pointer_tokens p.pointer
    ++ (maybe_name_tokens p.name ++ maybe_array_tokens p.array)) ++ followed parameter_tokens ps commas) ++ close) =
    ap (λ ts. ts ++ close) (append_assoc (specifiers_tokens p.specifiers)
    (pointer_tokens p.pointer ++ (maybe_name_tokens p.name ++ maybe_array_tokens p.array))
    (followed parameter_tokens ps commas))
    ∙ append_assoc (specifiers_tokens p.specifiers)
    ((pointer_tokens p.pointer ++ (maybe_name_tokens p.name ++ maybe_array_tokens p.array))
    ++ followed parameter_tokens ps commas) close in
    let open_none : take_mark marks.RightParen ((parameter_tokens p ++ followed parameter_tokens ps commas) ++ close)
    ≡ None = ap (take_mark marks.RightParen) group ∙ parameter_no_close p.specifiers _ are.0.0 in
    parameters_begin b ((parameter_tokens p ++ followed parameter_tokens ps commas) ++ close) p
    (followed parameter_tokens ps commas ++ close) _ open_none first others)

part_read : (n : ℕ) (b : Readers) → Complete n b → (part : PartTree) (rest : List Token) → IsPart part
    → part_height part ≤ n → take_mark marks.LeftBracket rest ≡ None → take_mark marks.LeftParen rest ≡ None →
    read_part b (part_tokens part ++ rest) ≡ Found part rest
part_read n b cb Plain rest is low no_bracket no_paren = rw (no_bracket, no_paren) refl
part_read n b cb (Array a) rest is low no_bracket no_paren = rw (array_read n b cb a rest is low) refl
part_read n b cb (Function p) rest is low no_bracket no_paren =
    (let group : (separated parameter_tokens p.parameters p.commas ++ mark marks.RightParen p.close ∷ []) ++ rest
    ≡ separated parameter_tokens p.parameters p.commas ++ mark marks.RightParen p.close ∷ rest =
    append_assoc (separated parameter_tokens p.parameters p.commas) (mark marks.RightParen p.close ∷ []) rest in
    rw (group, parameters_read n b cb p.parameters p.commas p.close rest is.0 is.1 low) refl)

pub declarator_read : (n : ℕ) (b : Readers) → Complete n b → (d : DeclaratorTree) (rest : List Token) → IsPart d.part
    → part_height d.part ≤ n → take_mark marks.LeftBracket rest ≡ None → take_mark marks.LeftParen rest ≡ None →
    read_declarator b (declarator_tokens d ++ rest) ≡ Found d rest
declarator_read n b cb d rest is low no_bracket no_paren =
    (let behind : List Token = ident d.name.name d.name.at ∷ (part_tokens d.part ++ rest) in
    let group : declarator_tokens d ++ rest ≡ pointer_tokens d.pointer ++ behind =
    append_assoc (pointer_tokens d.pointer) (ident d.name.name d.name.at ∷ part_tokens d.part) rest in
    rw (group, takes_pointer d.pointer behind refl refl, part_read n b cb d.part rest is low no_bracket no_paren) refl)

-- ---- initialisers

-- what may stand behind values in braces
after_values : (trailing : Option Span) (c : Span) (rest : List Token)
    → Stops 15 ((maybe_comma_tokens trailing ++ mark marks.RightBrace c ∷ []) ++ rest)
after_values None c rest = omega arith
after_values (Some at) c rest = omega arith

-- what the values in braces come to: the comma behind the last of them is taken, where it is there
values_done : (b : Readers) (a : Values) (trailing : Option Span) (c : Span) (rest : List Token)
    (out : Reads Braced)
    → Continues (brace_step b) (a, None) ((maybe_comma_tokens trailing ++ mark marks.RightBrace c ∷ []) ++ rest) out
    → out ≡ Found (a, trailing) (mark marks.RightBrace c ∷ rest)
values_done b a None c rest out before = continues_done _ _ _ _ before refl
values_done b a (Some at) c rest out before =
    continues_done (brace_step b) (a, Some at) (mark marks.RightBrace c ∷ rest) out
    (continues_goes (brace_step b) (a, None) (a, Some at) (mark marks.Comma at ∷ mark marks.RightBrace c ∷ rest)
    (mark marks.RightBrace c ∷ rest) out before refl (omega arith)) refl

more_stops : (es : Exprs) (commas : List Span) (rest : List Token) → Stops 15 rest
    → Stops 15 (more_tokens es commas ++ rest)
more_stops NoExpr commas rest stops = stops
more_stops (OneExpr e es) [] rest stops = stops
more_stops (OneExpr e es) (at ∷ commas) rest stops = omega arith

braces_continue : (n : ℕ) (b : Readers) → Complete n b
    → (es : Exprs) (commas : List Span) (a : Values) (rest : List Token) (out : Reads Braced) →
    AreValues es → Follow es commas → exprs_height es ≤ n → Stops 15 rest
    → Continues (brace_step b) (a, None) (more_tokens es commas ++ rest) out →
    Continues (brace_step b) ((a.0 ++ list_of es, a.1 ++ commas), None) rest out
braces_continue n b cb NoExpr commas a rest out are follow low stops c =
    (let e : (a.0 ++ [], a.1 ++ commas) ≡ a = ap (λ cs. (a.0 ++ [], a.1 ++ cs)) follow
    ∙ (ap (λ xs. (xs, a.1 ++ [])) (append-nil a.0) ∙ ap (λ cs. (a.0, cs)) (append-nil a.1)) in
    let P : Values → Type 0 = λ v. Continues (brace_step b) (v, None) rest out in
    subst P (sym e) c)
braces_continue n b cb (OneExpr e es) [] a rest out are follow low stops c = absurd follow
braces_continue n b cb (OneExpr e es) (at ∷ commas) a rest out are follow low stops c =
    (let more : List Token = more_tokens es commas ++ rest in
    let group : (expr_tokens e ++ more_tokens es commas) ++ rest ≡ expr_tokens e ++ more =
    append_assoc (expr_tokens e) (more_tokens es commas) rest in
    let read : b.assignment (expr_tokens e ++ more) ≡ Found e more =
    cb.assignment e more are.0 are.1 (omega arith) (more_stops es commas rest stops) in
    let goes : brace_step b (a, None) (more_tokens (OneExpr e es) (at ∷ commas) ++ rest)
    ≡ Goes ((a.0 ++ e ∷ [], a.1 ++ at ∷ []), None) more =
    rw (group, expression_no_mark marks.RightBrace e more are.0 refl, read) refl in
    let less : length more < length (more_tokens (OneExpr e es) (at ∷ commas) ++ rest) =
    rw group (omega (arith, length-append (expr_tokens e) more)) in
    let next = continues_goes _ _ _ _ _ _ c goes less in
    let all = braces_continue n b cb es commas (a.0 ++ e ∷ [], a.1 ++ at ∷ []) rest out are.2 follow (omega arith) stops
    next in
    let same : ((a.0 ++ e ∷ []) ++ list_of es, (a.1 ++ at ∷ []) ++ commas)
    ≡ (a.0 ++ e ∷ list_of es, a.1 ++ at ∷ commas) =
    rw (append_assoc a.0 (e ∷ []) (list_of es), append_assoc a.1 (at ∷ []) commas) refl in
    let P : Values → Type 0 = λ v. Continues (brace_step b) (v, None) rest out in
    subst P same all)

initialiser_reads : (b : Readers) (o : Span) (ts : List Token) (e : Expr) (us : List Token) (es : List Expr)
    (commas : List Span) (trailing : Option Span) (ws : List Token) (c : Span) (rest : List Token) →
    b.assignment ts ≡ Found e us → chained (brace_step b) ((e ∷ [], []), None) us ≡ Found ((es, commas), trailing) ws
    → take_mark marks.RightBrace ws ≡ Some (c, rest) →
    braces_behind b o ts ≡ Found (Braces o (exprs_of es) commas trailing c) rest
initialiser_reads b o ts e us es commas trailing ws c rest f g k = rw (f, g, k) refl

initialiser_read : (n : ℕ) (b : Readers) → Complete n b → (i : InitialiserTree) (rest : List Token) → IsInitialiser i
    → initialiser_height i ≤ n → Stops 15 rest → read_initialiser b (initialiser_tokens i ++ rest) ≡ Found i rest
initialiser_read n b cb (Single e) rest is low stops =
    rw (expression_no_mark marks.LeftBrace e rest is.0 refl, cb.assignment e rest is.0 is.1 low stops) refl
initialiser_read n b cb (Braces o NoExpr commas trailing c) rest is low stops = absurd is
initialiser_read n b cb (Braces o (OneExpr e es) commas trailing c) rest is low stops =
    (let tail : List Token = (maybe_comma_tokens trailing ++ mark marks.RightBrace c ∷ []) ++ rest in
    let more : List Token = more_tokens es commas ++ tail in
    let group : ((expr_tokens e ++ more_tokens es commas)
    ++ (maybe_comma_tokens trailing ++ mark marks.RightBrace c ∷ [])) ++ rest ≡ expr_tokens e ++ more =
    append_assoc (expr_tokens e ++ more_tokens es commas) (maybe_comma_tokens trailing ++ mark marks.RightBrace c ∷ [])
    rest ∙ append_assoc (expr_tokens e) (more_tokens es commas) tail in
    let read : b.assignment (expr_tokens e ++ more) ≡ Found e more =
    cb.assignment e more is.0.0 is.0.1 (omega arith) (more_stops es commas tail (after_values trailing c rest)) in
    let all = braces_continue n b cb es commas (e ∷ [], []) tail _ is.0.2 is.1 (omega arith)
    (after_values trailing c rest) (continues_start (brace_step b) ((e ∷ [], []), None) more) in
    let end : chained (brace_step b) ((e ∷ [], []), None) more
    ≡ Found ((e ∷ list_of es, commas), trailing) (mark marks.RightBrace c ∷ rest) =
    values_done b (e ∷ list_of es, commas) trailing c rest _ all in
    initialiser_reads b o (((expr_tokens e ++ more_tokens es commas)
    ++ (maybe_comma_tokens trailing ++ mark marks.RightBrace c ∷ [])) ++ rest) e more (e ∷ list_of es) commas
    trailing (mark marks.RightBrace c ∷ rest) c rest (rw (group, read) refl) end refl
    ∙ rw (exprs_of_list es) refl)

-- ---- items and declarations

-- an initialiser has a node in it
initialiser_above : (i : InitialiserTree) → IsInitialiser i → 1 ≤ initialiser_height i
initialiser_above (Single e) is = height_above e
initialiser_above (Braces o NoExpr commas trailing c) is = absurd is
initialiser_above (Braces o (OneExpr e es) commas trailing c) is = omega (arith, height_above e)

value_read : (n : ℕ) (b : Readers) → Complete n b → (v : Option ValueTree) (rest : List Token) → IsMaybeValue v
    → value_height v ≤ n → Stops 15 rest → take_mark marks.Equal rest ≡ None →
    value_from b (take_mark marks.Equal (value_tokens v ++ rest)) (value_tokens v ++ rest) ≡ Found v rest
value_read n b cb None rest is low stops none = rw none refl
value_read n b cb (Some v) rest is low stops none =
    rw (has_room n b cb (omega (arith, initialiser_above v.value is, low)), initialiser_read n b cb v.value rest is low stops) refl

value_no_bracket : (v : Option ValueTree) (rest : List Token) → take_mark marks.LeftBracket rest ≡ None
    → take_mark marks.LeftBracket (value_tokens v ++ rest) ≡ None
value_no_bracket None rest none = none
value_no_bracket (Some v) rest none = refl

value_no_paren : (v : Option ValueTree) (rest : List Token) → take_mark marks.LeftParen rest ≡ None
    → take_mark marks.LeftParen (value_tokens v ++ rest) ≡ None
value_no_paren None rest none = none
value_no_paren (Some v) rest none = refl

item_reads : (b : Readers) (ts : List Token) (d : DeclaratorTree) (us : List Token) (v : Option ValueTree)
    (rest : List Token) → read_declarator b ts ≡ Found d us → value_from b (take_mark marks.Equal us) us
    ≡ Found v rest → read_item b ts ≡ Found (record { declarator = d; initialiser = v }) rest
item_reads b ts d us v rest e f = rw (e, f) refl

item_found : (n : ℕ) (b : Readers) → Complete n b → (i : ItemTree) → IsItem i → item_height i ≤ n
    → FoundBefore item_tokens (read_item b) (Ends marks.Semicolon) i
item_found n b cb i is low ts (AtComma at us) =
    (let rest : List Token = mark marks.Comma at ∷ us in
    let group : item_tokens i ++ rest ≡ declarator_tokens i.declarator ++ (value_tokens i.initialiser ++ rest) =
    append_assoc (declarator_tokens i.declarator) (value_tokens i.initialiser) rest in
    item_reads b (item_tokens i ++ rest) i.declarator (value_tokens i.initialiser ++ rest) i.initialiser rest
    (ap (read_declarator b) group ∙ declarator_read n b cb i.declarator (value_tokens i.initialiser ++ rest) is.0
    (omega arith) (value_no_bracket i.initialiser rest refl) (value_no_paren i.initialiser rest refl))
    (value_read n b cb i.initialiser rest is.1 (omega arith) (omega arith) refl))
item_found n b cb i is low ts (AtMark at us) =
    (let rest : List Token = mark marks.Semicolon at ∷ us in
    let group : item_tokens i ++ rest ≡ declarator_tokens i.declarator ++ (value_tokens i.initialiser ++ rest) =
    append_assoc (declarator_tokens i.declarator) (value_tokens i.initialiser) rest in
    item_reads b (item_tokens i ++ rest) i.declarator (value_tokens i.initialiser ++ rest) i.initialiser rest
    (ap (read_declarator b) group ∙ declarator_read n b cb i.declarator (value_tokens i.initialiser ++ rest) is.0
    (omega arith) (value_no_bracket i.initialiser rest refl) (value_no_paren i.initialiser rest refl))
    (value_read n b cb i.initialiser rest is.1 (omega arith) (omega arith) refl))

-- a declarator begins with no specifier
pub declarator_no_specifier : (d : DeclaratorTree) (ts : List Token) → NoSpecifier (declarator_tokens d ++ ts)
declarator_no_specifier d ts =
    (let behind : List Token = ident d.name.name d.name.at ∷ (part_tokens d.part ++ ts) in
    let group : declarator_tokens d ++ ts ≡ pointer_tokens d.pointer ++ behind =
    append_assoc (pointer_tokens d.pointer) (ident d.name.name d.name.at ∷ part_tokens d.part) ts in
    let P : List Token → Type 0 = λ us. NoSpecifier us in
    subst P (sym group) (pointer_no_specifier d.pointer behind refl))

pub declaration_reads : (b : Readers) (ts : List Token) (s : Specifier) (ss : List Specifier) (us : List Token)
    (d : DeclaratorTree) (vs : List Token) (v : Option ValueTree) (ws : List Token) (items : Listed ItemTree)
    (xs : List Token) (semicolon : Span) (rest : List Token) →
    take_specifiers ts ≡ (s ∷ ss, us) → read_declarator b us ≡ Found d vs → value_from b (take_mark marks.Equal vs) vs
    ≡ Found v ws → read_more (read_item b) (record { declarator = d; initialiser = v }) ws ≡ Found items xs
    → take_mark marks.Semicolon xs ≡ Some (semicolon, rest) →
    (read_declaration b ts ≡ Found (record {
      specifiers = s ∷ ss;
      items = items.0;
      commas = items.1;
      semicolon =
          semicolon;
    }) rest)
    × (declaration_behind b (s ∷ ss) d vs ≡ Found (record { specifiers = s ∷ ss; items = items.0; commas = items.1; semicolon = semicolon }) rest)
declaration_reads b ts s ss us d vs v ws items xs semicolon rest e f g h k =
    (rw (e, f, g, h, k) refl, rw (g, h, k) refl)

-- what is read of a declaration: its specifiers, its first declarator, and all
pub record DeclarationRead (b : Readers) (d : DeclarationTree) (rest : List Token) : Type 0 where
  pub first : DeclaratorTree
  pub behind_specifiers : List Token
  pub behind_first : List Token
  pub words_read : take_specifiers (declaration_tokens d ++ rest) ≡ (d.specifiers, behind_specifiers)
  pub declarator_is : read_declarator b behind_specifiers ≡ Found first behind_first
  pub behind_is : declaration_behind b d.specifiers first behind_first ≡ Found d rest
  pub all_read : read_declaration b (declaration_tokens d ++ rest) ≡ Found d rest
  pub no_body : take_mark marks.LeftBrace behind_first ≡ None

pub declaration_read : (n : ℕ) (b : Readers) → Complete n b → (d : DeclarationTree) (rest : List Token)
    → IsDeclaration d → declaration_height d ≤ suc n → DeclarationRead b d rest
declaration_read n b cb d rest is low = by_parts d.specifiers d.items d.commas d.semicolon is.0 is.1 is.2 low
  where
    no_body : (v : Option ValueTree) (is : List ItemTree) (commas : List Span) (at : Span) (rest : List Token)
        → take_mark marks.LeftBrace (value_tokens v
        ++ (followed item_tokens is commas ++ mark marks.Semicolon at ∷ rest)) ≡ None
    no_body (Some v) is commas at rest = refl
    no_body None [] commas at rest = refl
    no_body None (i ∷ is) [] at rest = refl
    no_body None (i ∷ is) (c ∷ commas) at rest = refl

    item_ends : (is : List ItemTree) (commas : List Span) (at : Span) (rest : List Token)
        → Ends marks.Semicolon (followed item_tokens is commas ++ mark marks.Semicolon at ∷ rest)
    item_ends [] commas at rest = AtMark at rest
    item_ends (i ∷ is) [] at rest = AtMark at rest
    item_ends (i ∷ is) (c ∷ commas) at rest =
        AtComma c ((item_tokens i ++ followed item_tokens is commas) ++ mark marks.Semicolon at ∷ rest)

    ends_bracket : (ts : List Token) → Ends marks.Semicolon ts → take_mark marks.LeftBracket ts ≡ None
    ends_bracket ts (AtComma at us) = refl
    ends_bracket ts (AtMark at us) = refl

    ends_paren : (ts : List Token) → Ends marks.Semicolon ts → take_mark marks.LeftParen ts ≡ None
    ends_paren ts (AtComma at us) = refl
    ends_paren ts (AtMark at us) = refl

    ends_equal : (ts : List Token) → Ends marks.Semicolon ts → take_mark marks.Equal ts ≡ None
    ends_equal ts (AtComma at us) = refl
    ends_equal ts (AtMark at us) = refl

    ends_stop : (ts : List Token) → Ends marks.Semicolon ts → Stops 15 ts
    ends_stop ts (AtComma at us) = omega arith
    ends_stop ts (AtMark at us) = omega arith

    by_parts : (ss : List Specifier) (is : List ItemTree) (commas : List Span) (semicolon : Span) → IsSpecifiers ss
        → AreItems is → AreApart is commas → declaration_height
        (record { specifiers = ss; items = is; commas = commas; semicolon = semicolon }) ≤ suc n →
        DeclarationRead b (record { specifiers = ss; items = is; commas = commas; semicolon = semicolon }) rest
    by_parts [] is commas semicolon is_ss are apart low = absurd is_ss
    by_parts (s ∷ ss) [] commas semicolon is_ss are apart low = absurd are
    by_parts (s ∷ ss) (i ∷ is) commas semicolon is_ss are apart low =
        (let close : List Token = mark marks.Semicolon semicolon ∷ rest in
        let more : List Token = followed item_tokens is commas ++ close in
        let d0 : DeclarationTree = record {
          specifiers = s ∷ ss;
          items = i ∷ is;
          commas = commas;
          semicolon =
              semicolon;
        } in
        let behind_first : List Token = value_tokens i.initialiser ++ more in
        let behind : List Token = declarator_tokens i.declarator ++ behind_first in
        let group : declaration_tokens d0 ++ rest ≡ specifiers_tokens (s ∷ ss) ++ behind =
        append_assoc (specifiers_tokens (s ∷ ss))
        ((item_tokens i ++ followed item_tokens is commas) ++ mark marks.Semicolon semicolon ∷ []) rest
        ∙ ap (λ ts. specifiers_tokens (s ∷ ss) ++ ts)
        (append_assoc (item_tokens i ++ followed item_tokens is commas) (mark marks.Semicolon semicolon ∷ []) rest
        ∙ (append_assoc (item_tokens i) (followed item_tokens is commas) close
        ∙ append_assoc (declarator_tokens i.declarator) (value_tokens i.initialiser) more)) in
        let ends : Ends marks.Semicolon more = item_ends is commas semicolon rest in
        let words_read : take_specifiers (declaration_tokens d0 ++ rest) ≡ (s ∷ ss, behind) = ap take_specifiers group
        ∙ takes_specifiers (s ∷ ss) behind (declarator_no_specifier i.declarator behind_first) in
        let declarator_is : read_declarator b behind ≡ Found i.declarator behind_first =
        declarator_read n b cb i.declarator behind_first are.0.0 (omega arith)
        (value_no_bracket i.initialiser more (ends_bracket more ends))
        (value_no_paren i.initialiser more (ends_paren more ends)) in
        let value_is : value_from b (take_mark marks.Equal behind_first) behind_first ≡ Found i.initialiser more =
        value_read n b cb i.initialiser more are.0.1 (omega arith) (ends_stop more ends) (ends_equal more ends) in
        let E : List Token → Type 0 = Ends marks.Semicolon in
        let comma : (at : Span) (ts : List Token) → E (mark marks.Comma at ∷ ts) = λ at ts. AtComma at ts in
        let others : read_more (read_item b) i more ≡ Found (i ∷ is, commas) close =
        list_read item_tokens (read_item b) E comma i is commas close apart (AtMark semicolon rest) refl
        (all_found IsItem (FoundBefore item_tokens (read_item b) E) item_height n (item_found n b cb) is are.1
        (omega arith)) in
        let all = declaration_reads b (declaration_tokens d0 ++ rest) s ss behind i.declarator behind_first
        i.initialiser more (i ∷ is, commas) close semicolon rest words_read declarator_is value_is others refl in
        record {
          first = i.declarator;
          behind_specifiers = behind;
          behind_first = behind_first;
          words_read = words_read;
          declarator_is = declarator_is;
          behind_is = all.1;
          all_read = all.0;
          no_body = no_body i.initialiser is commas semicolon rest;
        })
