-- The faults of small lists of tokens.
use Rattle.std.proofs.Common.{◌≡◌, ℕ, suc, ◌≤◌, pos, false, List, [], ◌∷◌, ◌++◌, length, Option, Some, None, refl}
use Rattle.std.proofs.Common.{ap, sym, ◌∙◌, codes, arith, append_assoc, length-append}
use Rattle.pcc_base.specs.declared.span.Span.{Span}
use Rattle.pcc_base.specs.declared.fault.FaultKind.TheVariants.{Syntax, TooDeep}
use Rattle.c_lex.specs.declared.token.Token.{Token}
use Rattle.c_lex.specs.declared.token.TokenKind.TheVariants as kinds
use Rattle.c_lex.specs.declared.token.Punct.TheVariants as marks
use Rattle.c_syntax.specs.declared.operator.SpecifierWord.TheVariants as specifier
use Rattle.c_syntax.specs.declared.expression.Identifier.{Identifier as Ident}
use Rattle.c_syntax.specs.declared.expression.Specifier.{Specifier}
use Rattle.c_syntax.specs.Marks.{ident, number, mark, word, specifier_word}
use Rattle.c_syntax.specs.Expressions.{Star, Expr, Identifier, Number, Text, Parenthesised, Call, Index, Postfix, Prefix}
use Rattle.c_syntax.specs.Expressions.{Unary, Cast, Binary, Conditional, Assignment}
use Rattle.c_syntax.specs.ExpressionTokens.{expr_tokens, expr_height, specifiers_tokens, pointer_tokens, IsExpr}
use Rattle.c_syntax.specs.Declarations.{PartTree, Plain, Array, Function, DeclaratorTree, ValueTree, ItemTree}
use Rattle.c_syntax.specs.Declarations.{DeclarationTree}
use Rattle.c_syntax.specs.DeclarationTokens.{declarator_tokens, part_tokens, maybe_expr_tokens, value_tokens, item_tokens}
use Rattle.c_syntax.specs.DeclarationTokens.{followed, declaration_tokens, part_height, maybe_expr_height}
use Rattle.c_syntax.specs.DeclarationTokens.{declaration_height, IsPart, IsMaybeConditional, IsDeclaration}
use Rattle.c_syntax.specs.Statements.{Stmt, ExternalTree, FunctionTree, DeclaredTree}
use Rattle.c_syntax.specs.StatementTokens.{stmt_tokens}
use Rattle.c_syntax.specs.Grammar.{external_tokens, external_height, unit_tokens, HasParameters, IsExternal, Tree}
use Rattle.c_grammar.specs.Taking.{take_mark}
use Rattle.c_grammar.proofs.Complete.{height_above}
use Rattle.c_grammar.specs.Faults.{FaultAt}
use Rattle.c_grammar.specs.Worked.{an_array, an_int, column, nested, one}

-- ---- how a program that has a token begins: with a specifier, more of them, and a declarator

record Front (ts : List Token) (h : ℕ) : Type 0 where
  s : Specifier
  ss : List Specifier
  d : DeclaratorTree
  more : List Token
  is : ts ≡ word (specifier_word s.word) s.at ∷ (specifiers_tokens ss ++ (declarator_tokens d ++ more))
  part : IsPart d.part
  low : suc (part_height d.part) ≤ h
  -- where nothing stands behind the name, no `[` does
  plain : d.part ≡ Plain → take_mark marks.LeftBracket more ≡ None

-- what stands behind a name that has no part is no `[`
no_bracket : (v : Option ValueTree) (items : List ItemTree) (commas : List Span) (at : Span) (rest : List Token)
    → take_mark marks.LeftBracket (value_tokens v ++ (followed item_tokens items commas ++ mark marks.Semicolon at ∷ rest))
    ≡ None
no_bracket (Some v) items commas at rest = refl
no_bracket None [] commas at rest = refl
no_bracket None (x ∷ xs) [] at rest = refl
no_bracket None (x ∷ xs) (comma ∷ commas) at rest = refl

in_two : (a b c d : List Token) → (a ++ (b ++ c)) ++ d ≡ a ++ (b ++ (c ++ d))
in_two a b c d = append_assoc a (b ++ c) d ∙ ap (λ ts. a ++ ts) (append_assoc b c d)

-- a program that is a function and more
of_function : (ts : List Token) (h : ℕ) (ss : List Specifier) (d : DeclaratorTree) (body : Stmt) (rest : List Token)
    → ts ≡ external_tokens (FunctionTree ss d body) ++ rest → IsExternal (FunctionTree ss d body)
    → external_height (FunctionTree ss d body) ≤ h → Front ts h
of_function ts h [] d body rest e is low = absurd is.0
of_function ts h (s ∷ ss) d body rest e is low = record {
  s = s;
  ss = ss;
  d = d;
  more = stmt_tokens body ++ rest;
  is = e ∙ ap (λ us. word (specifier_word s.word) s.at ∷ us) (in_two (specifiers_tokens ss) (declarator_tokens d)
      (stmt_tokens body) rest);
  part = is.1;
  low = omega (arith, low);
  plain = λ p. absurd (no_parameters d.part p is.2);
}
  where
    no_parameters : (p : PartTree) → p ≡ Plain → HasParameters p → ⊥
    no_parameters Plain e h = h
    no_parameters (Array a) e h = h
    no_parameters (Function f) e h = cc

in_four : (a b c d : List Token) (x : Token) (rest : List Token)
    → (a ++ (((b ++ c) ++ d) ++ x ∷ [])) ++ rest ≡ a ++ (b ++ (c ++ (d ++ x ∷ rest)))
in_four a b c d x rest = append_assoc a (((b ++ c) ++ d) ++ x ∷ []) rest
    ∙ ap (λ ts. a ++ ts) (append_assoc ((b ++ c) ++ d) (x ∷ []) rest ∙ append_assoc (b ++ c) d (x ∷ rest)
    ∙ append_assoc b c (d ++ x ∷ rest))

-- a program that is a declaration and more
of_declaration : (ts : List Token) (h : ℕ) (ss : List Specifier) (items : List ItemTree) (commas : List Span) (at : Span)
    (rest : List Token)
    → (let x : DeclarationTree = record { specifiers = ss; items = items; commas = commas; semicolon = at } in
    (ts ≡ declaration_tokens x ++ rest) → IsDeclaration x → declaration_height x ≤ h → Front ts h)
of_declaration ts h [] items commas at rest e is low = absurd is.0
of_declaration ts h (s ∷ ss) [] commas at rest e is low = absurd is.1
of_declaration ts h (s ∷ ss) (i ∷ items) commas at rest e is low = record {
  s = s;
  ss = ss;
  d = i.declarator;
  more = value_tokens i.initialiser ++ (followed item_tokens items commas ++ mark marks.Semicolon at ∷ rest);
  is = e ∙ ap (λ us. word (specifier_word s.word) s.at ∷ us) (in_four (specifiers_tokens ss)
      (declarator_tokens i.declarator) (value_tokens i.initialiser) (followed item_tokens items commas)
      (mark marks.Semicolon at) rest);
  part = is.1.0.0;
  low = omega (arith, low);
  plain = λ p. no_bracket i.initialiser items commas at rest;
}

front_of : (ts : List Token) (h : ℕ) (t : List ExternalTree) (x : Token) (xs : List Token) → ts ≡ x ∷ xs → Tree ts h t
    → Front ts h
front_of ts h [] x xs e tree = absurd (let wrong : [] ≡ x ∷ xs = sym tree.tokens_are ∙ e in cc)
front_of ts h (FunctionTree ss d body ∷ es) x xs e tree =
    of_function ts h ss d body (unit_tokens es) tree.tokens_are tree.is.0 (omega (arith, tree.height_is))
front_of ts h (DeclaredTree d ∷ es) x xs e tree =
    of_declaration ts h d.specifiers d.items d.commas d.semicolon (unit_tokens es) tree.tokens_are tree.is.0
    (omega (arith, tree.height_is))

-- ---- tokens apart

first_kind : (x y : Token) (xs ys : List Token) → x ∷ xs ≡ y ∷ ys → x.kind ≡ y.kind
first_kind x y xs ys e = (let same : x ≡ y = cc in ap (λ (t : Token). t.kind) same)

others_same : (x y : Token) (xs ys : List Token) → x ∷ xs ≡ y ∷ ys → xs ≡ ys
others_same x y xs ys e = cc

-- ---- a number begins no program

pub number_first : FaultAt 256 Syntax [] one
number_first = (
  ([], 0, [], omega arith, record { is = tt; tokens_are = refl; height_is = refl }),
  λ any b. no_number b.0 b.1 b.2 b.4,
)
  where
    no_number : (after : List Token) (h : ℕ) (t : List ExternalTree) → Tree (number (pos 1) (column 1) ∷ after) h t → ⊥
    no_number after h t tree =
        let f = front_of (number (pos 1) (column 1) ∷ after) h t (number (pos 1) (column 1)) after refl tree in
        let k : kinds.Number (pos 1) false ≡ kinds.Word (specifier_word f.s.word) =
        first_kind (number (pos 1) (column 1)) (word (specifier_word f.s.word) f.s.at) after
        (specifiers_tokens f.ss ++ (declarator_tokens f.d ++ f.more)) f.is in
        cc

-- ---- `int` and the end

abbrev a_name : Ident
a_name = record { name = codes "a"; at = column 5 }

abbrev int_first : Specifier
int_first = record { word = specifier.Int; at = column 1 }

-- `int a` and what stands behind the name, as a declaration
abbrev declares : PartTree → Span → ExternalTree
declares part at = DeclaredTree (record {
  specifiers = int_first ∷ [];
  items = record { declarator = record { pointer = None; name = a_name; part = part }; initialiser = None } ∷ [];
  commas = [];
  semicolon = at;
})

pub end_missing : FaultAt 256 Syntax an_int []
end_missing = (
  refl,
  (
    ident (codes "a") (column 5) ∷ mark marks.Semicolon (column 6) ∷ [],
    1,
    declares Plain (column 6) ∷ [],
    omega arith,
    record { is = ((tt, ((tt, tt), tt), refl), tt); tokens_are = refl; height_is = refl },
  ),
  λ h t tree. no_end h t tree,
)
  where
    no_end : (h : ℕ) (t : List ExternalTree) → Tree an_int h t → ⊥
    no_end h t tree =
        let f = front_of an_int h t _ [] refl tree in
        let e : length an_int ≡ suc (length (specifiers_tokens f.ss ++ (declarator_tokens f.d ++ f.more))) =
        ap length f.is in
        omega (
          arith,
          e,
          length-append (specifiers_tokens f.ss) (declarator_tokens f.d ++ f.more),
          length-append (declarator_tokens f.d) f.more,
          length-append (pointer_tokens f.d.pointer) (ident f.d.name.name f.d.name.at ∷ part_tokens f.d.part),
        )

-- ---- a parenthesis too deep

-- an expression that begins with `(` has a node below it
nests : (e : Expr) (o : Span) (after rest : List Token) → IsExpr e → mark marks.LeftParen o ∷ after ≡ expr_tokens e ++ rest
    → 2 ≤ expr_height e
nests (Identifier name) o after rest is e =
    absurd (let k : kinds.Mark marks.LeftParen ≡ kinds.Ident name.name = first_kind _ _ _ _ e in cc)
nests (Number value at) o after rest is e =
    absurd (let k : kinds.Mark marks.LeftParen ≡ kinds.Number value false = first_kind _ _ _ _ e in cc)
nests (Text []) o after rest is e = absurd is
nests (Text (p ∷ ps)) o after rest is e =
    absurd (let k : kinds.Mark marks.LeftParen ≡ kinds.Text p.bytes = first_kind _ _ _ _ e in cc)
nests (Parenthesised p e c) o after rest is f = omega (arith, height_above e)
nests (Call f p arguments commas c) o after rest is e =
    absurd (let k : kinds.Mark marks.LeftParen ≡ kinds.Ident f.name = first_kind _ _ _ _ e in cc)
nests (Index b p e c) o after rest is f = omega (arith, height_above b)
nests (Postfix b op at) o after rest is e = omega (arith, height_above b)
nests (Prefix op at e) o after rest is f = omega (arith, height_above e)
nests (Unary op at e) o after rest is f = omega (arith, height_above e)
nests (Cast p specifiers pointer c e) o after rest is f = omega (arith, height_above e)
nests (Binary op l at r) o after rest is e = omega (arith, height_above l)
nests (Conditional c q f k s) o after rest is e = omega (arith, height_above c)
nests (Assignment op l at r) o after rest is e = omega (arith, height_above l)

-- the size of an array that begins with `(`
size_nests : (size : Option Expr) (o close : Span) (after rest : List Token) → IsMaybeConditional size
    → mark marks.LeftParen o ∷ after ≡ (maybe_expr_tokens size ++ mark marks.RightBracket close ∷ []) ++ rest
    → 2 ≤ maybe_expr_height size
size_nests None o close after rest is e =
    absurd (let k : kinds.Mark marks.LeftParen ≡ kinds.Mark marks.RightBracket = first_kind _ _ _ _ e in cc)
size_nests (Some x) o close after rest is e = nests x o after (mark marks.RightBracket close ∷ rest) is.0
    (e ∙ append_assoc (expr_tokens x) (mark marks.RightBracket close ∷ []) rest)

part_nests : (part : PartTree) (o p : Span) (after more : List Token) → IsPart part
    → (part ≡ Plain → take_mark marks.LeftBracket more ≡ None)
    → mark marks.LeftBracket o ∷ mark marks.LeftParen p ∷ after ≡ part_tokens part ++ more → 2 ≤ part_height part
part_nests Plain o p after more is plain e = absurd
    (let none : take_mark marks.LeftBracket (mark marks.LeftBracket o ∷ mark marks.LeftParen p ∷ after) ≡ None =
    ap (take_mark marks.LeftBracket) e ∙ plain refl in cc)
part_nests (Array a) o p after more is plain e = size_nests a.size p a.close after more is (others_same _ _ _ _ e)
part_nests (Function f) o p after more is plain e =
    absurd (let k : kinds.Mark marks.LeftBracket ≡ kinds.Mark marks.LeftParen = first_kind _ _ _ _ e in cc)

named_nests : (pointer : Option Star) (name : Ident) (part : PartTree) (n : List ℕ) (at o p : Span)
    (after more : List Token) → IsPart part → (part ≡ Plain → take_mark marks.LeftBracket more ≡ None)
    → ident n at ∷ mark marks.LeftBracket o ∷ mark marks.LeftParen p ∷ after
    ≡ (pointer_tokens pointer ++ ident name.name name.at ∷ part_tokens part) ++ more → 2 ≤ part_height part
named_nests None name part n at o p after more is plain e =
    part_nests part o p after more is plain (others_same _ _ _ _ e)
named_nests (Some star) name part n at o p after more is plain e =
    absurd (let k : kinds.Ident n ≡ kinds.Mark marks.Star = first_kind _ _ _ _ e in cc)

words_nest : (ss : List Specifier) (d : DeclaratorTree) (n : List ℕ) (at o p : Span) (after more : List Token)
    → IsPart d.part → (d.part ≡ Plain → take_mark marks.LeftBracket more ≡ None)
    → ident n at ∷ mark marks.LeftBracket o ∷ mark marks.LeftParen p ∷ after
    ≡ specifiers_tokens ss ++ (declarator_tokens d ++ more) → 2 ≤ part_height d.part
words_nest [] d n at o p after more is plain e = named_nests d.pointer d.name d.part n at o p after more is plain e
words_nest (s ∷ ss) d n at o p after more is plain e =
    absurd (let k : kinds.Ident n ≡ kinds.Word (specifier_word s.word) = first_kind _ _ _ _ e in cc)

abbrev sized : Expr → Span → PartTree
sized e close = Array (record { opening = column 6; size = Some e; close = close })

pub too_deep : FaultAt 2 TooDeep an_array nested
too_deep = (
  (
    number (pos 1) (column 7) ∷ mark marks.RightBracket (column 8) ∷ mark marks.Semicolon (column 9) ∷ [],
    2,
    declares (sized (Number (pos 1) (column 7)) (column 8)) (column 9) ∷ [],
    omega arith,
    record { is = ((tt, (((tt, omega arith), tt), tt), refl), tt); tokens_are = refl; height_is = refl },
  ),
  λ b. no_nest b.0 b.1 b.2 b.3 b.4,
  (
    3,
    (
      number (pos 1) (column 8) ∷ mark marks.RightParen (column 9) ∷ mark marks.RightBracket (column 10)
          ∷ mark marks.Semicolon (column 11) ∷ [],
      3,
      declares (sized (Parenthesised (column 7) (Number (pos 1) (column 8)) (column 9)) (column 10)) (column 11) ∷ [],
      omega arith,
      record { is = ((tt, (((tt, omega arith), tt), tt), refl), tt); tokens_are = refl; height_is = refl },
    ),
  ),
)
  where
    no_nest : (after : List Token) (h : ℕ) (t : List ExternalTree) → h ≤ 2
        → Tree ((an_array ++ mark marks.LeftParen (column 7) ∷ []) ++ after) h t → ⊥
    no_nest after h t low tree =
        let f = front_of ((an_array ++ mark marks.LeftParen (column 7) ∷ []) ++ after) h t _ _ refl tree in
        omega (
          arith,
          low,
          f.low,
          words_nest f.ss f.d (codes "a") (column 5) (column 6) (column 7) after f.more f.part
              f.plain (others_same _ _ _ _ f.is),
        )
