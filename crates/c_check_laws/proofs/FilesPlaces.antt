-- What stands at places is noted in the order of the tokens, in statements and files.
use Rattle.std.proofs.Common.{arith, ◌≡◌, refl, sym, ap, subst, ◌∙◌, ℕ, zero, suc, Bool, true, false, List, [], ◌∷◌}
use Rattle.std.proofs.Common.{◌++◌}
use Rattle.std.proofs.Common.{map, length, inl}
use Rattle.std.specs.Prelude.{Option, Some, None, IfSome, nat_le, option_map, if◌then◌else◌}
use Rattle.std.specs.List.{AllByRecursion}
use Rattle.std.proofs.lemmas.List.{append-nil, append_assoc}
use Rattle.pcc_base.specs.declared.span.Span.{Span}
use Rattle.pcc_base.specs.declared.fault.FaultKind.TheVariants as kinds
use Rattle.pcc_base.specs.declared.fault.FaultKind.TheVariants.{TypeRule}
use Rattle.c_lex.specs.declared.token.Token.{Token}
use Rattle.c_lex.specs.declared.token.Punct.TheVariants as marks
use Rattle.c_syntax.specs.Marks.{mark}
use Rattle.c_syntax.specs.declared.expression.TextPiece.{TextPiece}
use Rattle.c_syntax.specs.Expressions as exprs
use Rattle.c_syntax.specs.Expressions.{Expr, Exprs, NoExpr, OneExpr}
use Rattle.c_syntax.specs.ExpressionTokens.{expr_tokens, exprs_tokens, IsExpr, specifiers_tokens}
use Rattle.c_syntax.specs.ExpressionTokens.{pointer_tokens}
use Rattle.c_syntax.specs.Declarations.{ItemTree, DeclarationTree, DeclaratorTree, InitialiserTree, Single, Braces}
use Rattle.c_syntax.specs.Declarations.{ValueTree}
use Rattle.c_syntax.specs.DeclarationTokens.{maybe_expr_tokens, part_tokens, declarator_tokens, maybe_comma_tokens}
use Rattle.c_syntax.specs.DeclarationTokens.{initialiser_tokens, value_tokens, item_tokens, declaration_tokens}
use Rattle.c_syntax.specs.DeclarationTokens.{followed}
use Rattle.c_syntax.specs.DeclarationTokens.{separated, IsInitialiser, IsMaybeValue, IsItem, IsDeclaration}
use Rattle.c_syntax.specs.DeclarationTokens.{AreApart}
use Rattle.c_syntax.specs.Statements as trees
use Rattle.c_syntax.specs.Statements.{Stmt, Stmts, NoStmt, OneStmt, ExternalTree, FunctionTree, DeclaredTree}
use Rattle.c_syntax.specs.StatementTokens.{labels_tokens, stmt_tokens, stmts_tokens, IsMaybeExpr, IsStmt}
use Rattle.c_tree.specs.declared.types.IntegerType.{IntegerType}
use Rattle.c_tree.specs.declared.types.IntegerType.TheVariants.{Char, Short, Int, UnsignedInt}
use Rattle.c_tree.specs.declared.types.ValueType.{ValueType}
use Rattle.c_tree.specs.declared.types.ValueType.TheVariants.{Void, Integer, Pointer}
use Rattle.c_tree.specs.Program as tree
use Rattle.c_tree.specs.Program.{value_type, Expression, Item, Initialiser, First, Statement, Statements, Elements}
use Rattle.c_tree.specs.Program.{Text}
use Rattle.c_tree.specs.Store.{converted}
use Rattle.c_typing.specs.Library.{At}
use Rattle.c_typing.specs.Types.{InBlock, InFor, Position, Specified, specified}
use Rattle.c_typing.specs.Types.{is_static}
use Rattle.c_typing.specs.Checked.{Contents, Zeros, Values, Checked, Fits, Fails, fits, also, if_fits}
use Rattle.c_typing.specs.Checked.{pair, both, three, or_fails}
use Rattle.c_typing.specs.Constants.{constant_value}
use Rattle.c_typing.specs.Declarators.{ArrayValues, Letters, Listed, NoValues, text_of, letters_or, char_values}
use Rattle.c_typing.specs.Declarators.{other_values, array_values, object_declared, ObjectType, IntegerObject}
use Rattle.c_typing.specs.Declarators.{PointerObject}
use Rattle.c_typing.specs.Declarators.{ArrayObject, object_allowed}
use Rattle.c_typing.specs.Declarators.{type_faults}
use Rattle.c_typing.specs.Expressions.{first_word, first_token, first_piece, text_bytes, text_values, text_note}
use Rattle.c_typing.specs.Expressions.{text_entity}
use Rattle.c_typing.specs.Expressions.{Given, given, typed_expression, typed_if_any}
use Rattle.c_typing.specs.Initialisers.{values_for, scalar_values, letters_for, first_of, scalar_initialiser}
use Rattle.c_typing.specs.Initialisers.{elements_for, array_initialiser, constant_for, constants_for, constants_in}
use Rattle.c_typing.specs.Initialisers.{contents_for}
use Rattle.c_typing.specs.Names.{Scope, entered, numbered, object_number}
use Rattle.c_typing.specs.Rows.{assigned, tested, selected}
use Rattle.c_typing.specs.Statements.{after_item, after_declaration, after_statement, stored, local_item, object_item}
use Rattle.c_typing.specs.Statements.{scope_faults, typed_item, typed_items, typed_declaration, given_labels}
use Rattle.c_typing.specs.Statements.{typed_labels}
use Rattle.c_typing.specs.Statements.{Around, in_loop, in_switch, jump, returned, condition, condition_if_any}
use Rattle.c_typing.specs.Statements.{first_part}
use Rattle.c_typing.specs.Statements.{row_before, as_one, alone, one, for_loop, typed_statement, typed_statements}
use Rattle.c_check_laws.proofs.Plain.{Plain, plain_if, assigned_plain, tested_plain, selected_plain, declared_plain}
use Rattle.c_check_laws.proofs.Plain.{allowed_plain}
use Rattle.c_check_laws.proofs.Plain.{labels_plain, specifiers_plain, plain_or}
use Rattle.c_check_laws.proofs.Places.{Sub, sub_skip, sub_behind, sub_before, sub_on, places, Placed, inside, behind}
use Rattle.c_check_laws.proofs.Places.{placed_if, placed_after, placed_pair, placed_both, plain_first}
use Rattle.c_check_laws.proofs.Places.{placed_also, never_fits, PlacedAll, text_first, typed_placed, given_placed}
use Rattle.c_check_laws.proofs.Growing.{are_items, Each, items_each, cases_each}
use Rattle.std.proofs.Common.{◌≤◌}
use Rattle.pcc_base.specs.Objects.{FitsBytes}
use Rattle.pcc_base.specs.declared.fault.Fault.{Fault}
use Rattle.c_tree.specs.Sizes.{bytes_of}
use Rattle.c_typing.specs.Types.{pointed}
use Rattle.c_typing.specs.Checked.{Contents}
use Rattle.c_typing.specs.Initialisers.{no_values}
use Rattle.c_typing.specs.Statements.{elements_of, size_of}
use Rattle.c_typing.specs.Statements.{sized_item}
use Rattle.c_typing.proofs.CountUp.{IfFits, holds_if, holds_both}
use Rattle.c_check_laws.proofs.Growing.{Counts, part_counts, ObjectCounts, allowed_counts}
use Rattle.c_check_laws.proofs.Places.{placed_knowing, one_more}
use Rattle.c_check_laws.proofs.Ranges.{InRange}
use Rattle.c_check_laws.proofs.Ranged.{HasInts, ints_left, ints_right, ranged, Fitting, text_fits, constant_fits}
pub use Rattle.c_check_laws.proofs.ExpressionsSound.{lengths_less as one_less}

-- ---- initialisers

values_placed : {A : Type 0} (row : Span → Expression → Checked A)
    → ((at : Span) (e : Expression) → Plain (row at e)) → (room : ℕ) (gs : List Given) (T : List Token) → PlacedAll gs T
    → Placed T (values_for row room gs)
values_placed row one room [] T h = (tt, λ z. tt)
values_placed {A} row one zero (g ∷ gs) T (U, V, e, h, r, k) =
    subst (λ W. Placed W (values_for row zero (g ∷ gs))) (sym e)
    (placed_both U V (if_fits g.value (λ x. Fails (record { kind = kinds.Initialiser; at = g.at }) []))
    (values_for row zero gs) (λ x xs. fits (x ∷ xs))
    (never_fits A U g.value (record { kind = kinds.Initialiser; at = g.at }) [])
    (values_placed row one zero gs V k) (λ a b. refl))
values_placed row one (suc room) (g ∷ gs) T (U, V, e, h, r, k) =
    subst (λ W. Placed W (values_for row (suc room) (g ∷ gs))) (sym e)
    (placed_both U V (if_fits g.value (row g.at)) (values_for row room gs) (λ x xs. fits (x ∷ xs))
    (placed_if U g.value (row g.at) h (λ x. one g.at x)) (values_placed row one room gs V k) (λ a b. refl))

-- the values of an initialiser, at its tokens
scalar_placed : (s : Scope) (v : InitialiserTree) → IsInitialiser v
    → PlacedAll (given s (scalar_values v)) (initialiser_tokens v)
scalar_placed s (Single e) h =
    (expr_tokens e, [], sym (append-nil (expr_tokens e)), typed_placed s e h.0, (λ z. ranged s e z), tt)
scalar_placed s (Braces o NoExpr commas trailing c) h = absurd h
scalar_placed s (Braces o (OneExpr e es) commas trailing c) h =
    inside_all (given s (OneExpr e es)) (exprs_tokens (OneExpr e es) commas)
    (given_placed s (OneExpr e es) commas h.0 h.1) _ _
  where
    append_all : (gs : List Given) (T U : List Token) → PlacedAll gs T → PlacedAll gs (T ++ U)
    append_all [] T U k = tt
    append_all (g ∷ gs) T U (V, W, q, k, r, l) =
        (V, W ++ U, ap (λ x. x ++ U) q ∙ append_assoc V W U, k, r, append_all gs W U l)

    inside_all : (gs : List Given) (T : List Token) → PlacedAll gs T → (t : Token) (U : List Token)
        → PlacedAll gs (t ∷ (T ++ U))
    inside_all [] T k t U = tt
    inside_all (g ∷ gs) T (V, W, q, k, r, l) t U = (
      t ∷ V,
      W ++ U,
      ap (λ x. t ∷ (x ++ U)) q ∙ ap (λ x. t ∷ x) (append_assoc V W U),
      behind (t ∷ []) V g.value k,
      (λ z. r z.1),
      append_all gs W U l,
    )

-- values of arrays, at these tokens
abbrev AtTokens : Scope → List Token → ArrayValues → Type 0
AtTokens s T (Letters pieces) = Sub (first_piece pieces ∷ []) T
AtTokens s T (Listed es) = PlacedAll (given s es) T
AtTokens s T (NoValues e) = Unit {0}

text_at : (e : Expr) → IsExpr e → IfSome (text_of e) (λ pieces. Sub (first_piece pieces ∷ []) (expr_tokens e))
text_at (exprs.Text pieces) h = text_first pieces h
text_at (exprs.Identifier x) h = tt
text_at (exprs.Number value at) h = tt
text_at (exprs.Parenthesised o e c) h = tt
text_at (exprs.Call x o arguments commas c) h = tt
text_at (exprs.Index b o i c) h = tt
text_at (exprs.Postfix b op at) h = tt
text_at (exprs.Prefix op at e) h = tt
text_at (exprs.Unary op at e) h = tt
text_at (exprs.Cast o specifiers pointer c e) h = tt
text_at (exprs.Binary op l at r) h = tt
text_at (exprs.Conditional t q a k b) h = tt
text_at (exprs.Assignment op l at r) h = tt

letters_at : (s : Scope) (T : List Token) (o : Option (List TextPiece)) (other : ArrayValues)
    → IfSome o (λ pieces. Sub (first_piece pieces ∷ []) T) → AtTokens s T other → AtTokens s T (letters_or o other)
letters_at s T None other h k = k
letters_at s T (Some pieces) other h k = h

other_at : (s : Scope) (v : InitialiserTree) → IsInitialiser v → AtTokens s (initialiser_tokens v) (other_values v)
other_at s (Single e) h = tt
other_at s (Braces o es commas trailing c) h = scalar_placed s (Braces o es commas trailing c) h

in_braces : (t : Token) (T V : List Token) (q : Option (List TextPiece))
    → IfSome q (λ pieces. Sub (first_piece pieces ∷ []) T)
    → IfSome q (λ pieces. Sub (first_piece pieces ∷ []) (t ∷ ((T ++ []) ++ V)))
in_braces t T V None k = tt
in_braces t T V (Some pieces) k =
    let ps = first_piece pieces ∷ [] in
    sub_skip ps t ((T ++ []) ++ V) (sub_before ps (T ++ []) V (sub_before ps T [] k))

char_at : (s : Scope) (v : InitialiserTree) → IsInitialiser v → AtTokens s (initialiser_tokens v) (char_values v)
char_at s (Single e) h = letters_at s (expr_tokens e) (text_of e) (NoValues e) (text_at e h.0) tt
char_at s (Braces o NoExpr commas trailing c) h = absurd h
char_at s (Braces o (OneExpr e NoExpr) commas trailing c) h =
    letters_at s (initialiser_tokens (Braces o (OneExpr e NoExpr) commas trailing c)) (text_of e)
    (Listed (OneExpr e NoExpr)) (in_braces (mark marks.LeftBrace o) (expr_tokens e)
    (maybe_comma_tokens trailing ++ mark marks.RightBrace c ∷ []) (text_of e) (text_at e h.0.0))
    (scalar_placed s (Braces o (OneExpr e NoExpr) commas trailing c) h)
char_at s (Braces o (OneExpr e (OneExpr g es)) commas trailing c) h =
    scalar_placed s (Braces o (OneExpr e (OneExpr g es)) commas trailing c) h

array_at : (s : Scope) (t : IntegerType) (v : InitialiserTree) → IsInitialiser v
    → AtTokens s (initialiser_tokens v) (array_values t v)
array_at s Char v h = char_at s v h
array_at s Short v h = other_at s v h
array_at s Int v h = other_at s v h
array_at s UnsignedInt v h = other_at s v h

letters_placed : {A : Type 0} (T : List Token) (n : ℕ) (pieces : List TextPiece) (value : A)
    → Sub (first_piece pieces ∷ []) T → Placed T (letters_for n pieces value)
letters_placed {A} T n pieces value h = by_test (nat_le (length (text_bytes pieces)) n)
  where
    by_test : (b : Bool) → Placed {A = A} T (if b then Fits value (text_note pieces ∷ [])
        else Fails (record { kind = kinds.Initialiser; at = first_piece pieces }) [])
    by_test true = (h, λ z. ((one_more (length (text_bytes pieces)), text_fits pieces), tt))
    by_test false = tt

elements_placed : (s : Scope) (t : IntegerType) (n : ℕ) (values : ArrayValues) (T : List Token) → AtTokens s T values
    → Placed T (elements_for s t n values)
elements_placed s t n (Letters pieces) T h =
    letters_placed T n pieces (Text (object_number s (text_entity pieces))) h
elements_placed s t n (Listed es) T h =
    placed_if T (values_for (assigned (Integer t)) n (given s es)) (λ xs. fits (Elements xs))
    (values_placed (assigned (Integer t)) (λ at e. assigned_plain (Integer t) at e) n (given s es) T h) (λ xs. refl)
elements_placed s t n (NoValues e) T h =
    never_fits Initialiser T (typed_expression s e) (record { kind = kinds.Initialiser; at = first_token e }) []

constant_plain : (t : IntegerType) (at : Span) (e : Expression) → Plain (constant_for t at e)
constant_plain t at e = plain_or (option_map (converted t) (constant_value e)) kinds.Initialiser at

constants_placed : (s : Scope) (t : IntegerType) (n : ℕ) (es : Exprs) (T : List Token) → PlacedAll (given s es) T
    → Placed T (constants_for s t n es)
constants_placed s t n es T h =
    placed_if T (values_for (constant_for t) n (given s es)) (λ ns. fits (Values ns))
    (values_placed (constant_for t) (λ at e. constant_plain t at e) n (given s es) T h) (λ xs. refl)

constants_in_placed : (s : Scope) (t : IntegerType) (n : ℕ) (values : ArrayValues) (T : List Token) → AtTokens s T
    values
    → Placed T (constants_in s t n values)
constants_in_placed s t n (Letters pieces) T h = letters_placed T n pieces (Values (text_values pieces)) h
constants_in_placed s t n (Listed es) T h = constants_placed s t n es T h
constants_in_placed s t n (NoValues e) T h =
    never_fits Contents T (typed_expression s e) (record { kind = kinds.Initialiser; at = first_token e }) []

pub contents_placed : (s : Scope) (type : ObjectType) (otherwise : Contents) (v : Option ValueTree) → IsMaybeValue v
    → Placed (value_tokens v) (contents_for s type otherwise v)
contents_placed s type otherwise None h = (tt, λ z. tt)
contents_placed s (IntegerObject of) otherwise (Some v) h =
    behind (_ ∷ []) (initialiser_tokens v.value) (constants_for s of 1 (scalar_values v.value))
    (constants_placed s of 1 (scalar_values v.value) (initialiser_tokens v.value) (scalar_placed s v.value h))
contents_placed s (PointerObject of) otherwise (Some v) h =
    behind (_ ∷ []) (initialiser_tokens v.value) (constants_for s of 1 (scalar_values v.value))
    (constants_placed s of 1 (scalar_values v.value) (initialiser_tokens v.value) (scalar_placed s v.value h))
contents_placed s (ArrayObject t n) otherwise (Some v) h =
    behind (_ ∷ []) (initialiser_tokens v.value) (constants_in s t n (array_values t v.value))
    (constants_in_placed s t n (array_values t v.value) (initialiser_tokens v.value) (array_at s t v.value h))

scalar_initialiser_placed : (s : Scope) (of : ValueType) (v : Option ValueTree) → IsMaybeValue v
    → Placed (value_tokens v) (scalar_initialiser s of v)
scalar_initialiser_placed s of None h = (tt, λ z. tt)
scalar_initialiser_placed s of (Some v) h =
    let T = initialiser_tokens v.value in
    let gs = given s (scalar_values v.value) in
    behind (_ ∷ []) T (scalar_initialiser s of (Some v))
    (placed_if T (values_for (assigned of) 1 gs) (λ es. fits (first_of es))
    (values_placed (assigned of) (λ at e. assigned_plain of at e) 1 gs T (scalar_placed s v.value h)) (λ es. refl))

array_initialiser_placed : (s : Scope) (t : IntegerType) (n : ℕ) (v : Option ValueTree) → IsMaybeValue v
    → Placed (value_tokens v) (array_initialiser s t n v)
array_initialiser_placed s t n None h = (tt, λ z. tt)
array_initialiser_placed s t n (Some v) h =
    behind (_ ∷ []) (initialiser_tokens v.value) (elements_for s t n (array_values t v.value))
    (elements_placed s t n (array_values t v.value) (initialiser_tokens v.value) (array_at s t v.value h))

-- ---- declared items

-- where all of a list's values are rightly made, so is the list
values_fit : {A : Type 0} (P : A → Type 0) (row : Span → Expression → Checked A)
    → ((at : Span) (e : Expression) → InRange e → IfFits P (row at e)) → (room : ℕ) (gs : List Given) (T : List Token)
    → PlacedAll gs T → HasInts T → IfFits (AllByRecursion P) (values_for row room gs)
values_fit P row one room [] T h z = tt
values_fit {A} P row one zero (g ∷ gs) T (U, V, e, h, r, k) z =
    let N : A → Type 0 = λ a. ⊥ in
    let f : Fault = record { kind = kinds.Initialiser; at = g.at } in
    holds_both N (AllByRecursion P) (AllByRecursion P) (if_fits g.value (λ x. Fails f [])) (values_for row zero gs)
    (λ x xs. fits (x ∷ xs)) (none_fits g.value f)
    (values_fit P row one zero gs V k (ints_right U V (subst HasInts e z))) (λ a b x y. absurd x)
  where
    none_fits : (c : Checked Expression) (f : Fault) → IfFits (λ (a : A). ⊥) (if_fits c (λ x. Fails f []))
    none_fits (Fits a ns) f = tt
    none_fits (Fails x xs) f = tt
values_fit P row one (suc room) (g ∷ gs) T (U, V, e, h, r, k) z =
    let y = subst HasInts e z in
    holds_both P (AllByRecursion P) (AllByRecursion P) (if_fits g.value (row g.at)) (values_for row room gs)
    (λ x xs. fits (x ∷ xs))
    (holds_if InRange P g.value (row g.at) (r (ints_left U V y)) (λ x q. one g.at x q))
    (values_fit P row one room gs V k (ints_right U V y)) (λ a b x y. (x, y))

constants_right : (s : Scope) (t : IntegerType) (n : ℕ) (es : Exprs) (T : List Token) → PlacedAll (given s es) T
    → HasInts T → IfFits (Fitting t) (constants_for s t n es)
constants_right s t n es T h z =
    holds_if (AllByRecursion (FitsBytes (bytes_of t))) (Fitting t) (values_for (constant_for t) n (given s es))
    (λ ns. fits (Values ns))
    (values_fit (FitsBytes (bytes_of t)) (constant_for t) (λ at e q. constant_fits t at e q) n (given s es) T h z)
    (λ ns k. k)

no_values_right : (t : IntegerType) (s : Scope) (e : Expr) → IfFits (Fitting t) (no_values s e)
no_values_right t s e = by_value (typed_expression s e)
  where
    by_value : (c : Checked Expression) → IfFits (Fitting t) (if_fits c (λ x.
        Fails (record { kind = kinds.Initialiser; at = first_token e }) []))
    by_value (Fits a ns) = tt
    by_value (Fails f fs) = tt

letters_right : (n : ℕ) (pieces : List TextPiece)
    → IfFits (Fitting Char) (letters_for n pieces (Values (text_values pieces)))
letters_right n pieces = by_test (nat_le (length (text_bytes pieces)) n)
  where
    by_test : (b : Bool) → IfFits (Fitting Char) (if b then Fits (Values (text_values pieces)) (text_note pieces ∷ [])
        else Fails (record { kind = kinds.Initialiser; at = first_piece pieces }) [])
    by_test true = text_fits pieces
    by_test false = tt

chars_right : (s : Scope) (n : ℕ) (values : ArrayValues) (T : List Token) → AtTokens s T values → HasInts T
    → IfFits (Fitting Char) (constants_in s Char n values)
chars_right s n (Letters pieces) T h z = letters_right n pieces
chars_right s n (Listed es) T h z = constants_right s Char n es T h z
chars_right s n (NoValues e) T h z = no_values_right Char s e

others_right : (s : Scope) (t : IntegerType) (n : ℕ) (v : InitialiserTree) → IsInitialiser v
    → HasInts (initialiser_tokens v) → IfFits (Fitting t) (constants_in s t n (other_values v))
others_right s t n (Single e) h z = no_values_right t s e
others_right s t n (Braces o es commas trailing c) h z =
    constants_right s t n es (initialiser_tokens (Braces o es commas trailing c))
    (scalar_placed s (Braces o es commas trailing c) h) z

array_right : (s : Scope) (t : IntegerType) (n : ℕ) (v : InitialiserTree) → IsInitialiser v
    → HasInts (initialiser_tokens v) → IfFits (Fitting t) (constants_in s t n (array_values t v))
array_right s Char n v h z = chars_right s n (array_values Char v) (initialiser_tokens v) (char_at s v h) z
array_right s Short n v h z = others_right s Short n v h z
array_right s Int n v h z = others_right s Int n v h z
array_right s UnsignedInt n v h z = others_right s UnsignedInt n v h z

-- the values of an object fit its elements
pub contents_right : (s : Scope) (type : ObjectType) (otherwise : Contents) (v : Option ValueTree) → IsMaybeValue v
    → Fitting (elements_of type) otherwise → HasInts (value_tokens v)
    → IfFits (Fitting (elements_of type)) (contents_for s type otherwise v)
contents_right s type otherwise None h k z = k
contents_right s (IntegerObject of) otherwise (Some v) h k z =
    constants_right s of 1 (scalar_values v.value) (initialiser_tokens v.value) (scalar_placed s v.value h) z.1
contents_right s (PointerObject of) otherwise (Some v) h k z =
    constants_right s of 1 (scalar_values v.value) (initialiser_tokens v.value) (scalar_placed s v.value h) z.1
contents_right s (ArrayObject t n) otherwise (Some v) h k z = array_right s t n v.value h z.1

pub some_size : (type : ObjectType) → ObjectCounts type → 1 ≤ size_of type
some_size (IntegerObject of) h = one_more 0
some_size (PointerObject of) h = one_more 0
some_size (ArrayObject t n) h = h

stored_placed : {A : Type 0} (d : DeclaratorTree) (type : ObjectType) (value : A) (c : Checked Contents)
    (T : List Token) → ObjectCounts type → Placed T c → (HasInts T → IfFits (Fitting (elements_of type)) c)
    → Placed (declarator_tokens d ++ T) (stored (At d.name.at) type value c)
stored_placed d type value (Fits contents ns) T n h r = (
  sub_on (d.name.at ∷ []) (places ns) (declarator_tokens d) T
      (sub_behind (d.name.at ∷ []) (pointer_tokens d.pointer) (_ ∷ part_tokens d.part) (inl (refl, tt))) h.0,
  λ z. let y = ints_right (declarator_tokens d) T z in ((some_size type n, r y), h.1 y),
)
stored_placed d type value (Fails f fs) T n h r = tt

local_placed : (s t : Scope) (type : ObjectType) (v : Option ValueTree) → IsMaybeValue v
    → Placed (value_tokens v) (local_item s t type v)
local_placed s t (IntegerObject of) v h =
    placed_if (value_tokens v) (scalar_initialiser t (Integer of) v) (λ e. fits (tree.Scalar s.next (length s.locals)
    e ∷ []))
    (scalar_initialiser_placed t (Integer of) v h) (λ e. refl)
local_placed s t (PointerObject of) v h =
    placed_if (value_tokens v) (scalar_initialiser t (Pointer of) v) (λ e. fits (tree.Scalar s.next (length s.locals)
    e ∷ []))
    (scalar_initialiser_placed t (Pointer of) v h) (λ e. refl)
local_placed s t (ArrayObject element n) v h =
    placed_if (value_tokens v) (array_initialiser t element n v)
    (λ i. fits (tree.Array s.next (length s.arrays) element i ∷ [])) (array_initialiser_placed t element n v h)
    (λ i. refl)

object_placed : (static : Bool) (s t : Scope) (d : DeclaratorTree) (v : Option ValueTree) → IsMaybeValue v
    → (type : ObjectType) → ObjectCounts type
    → Placed (declarator_tokens d ++ value_tokens v) (object_item static s t d.name v type)
object_placed true s t d v h type n =
    stored_placed d type [] (contents_for t type Zeros v) (value_tokens v) n (contents_placed t type Zeros v h)
    (contents_right t type Zeros v h tt)
object_placed false s t d v h type n =
    behind (declarator_tokens d) (value_tokens v) (local_item s t type v) (local_placed s t type v h)

item_placed : (said : Specified) (i : ItemTree) → IsItem i → (s : Scope) → Placed (item_tokens i) (typed_item said i s)
item_placed said i h s =
    let static = is_static said.storage in
    let d = i.declarator in
    let T = item_tokens i in
    let make = object_item static s (after_item said i s) d.name i.initialiser in
    placed_also T (type_faults static said d) (sized_item said i s)
    (placed_knowing Counts T (object_declared s said d i.initialiser) (λ declared.
    also (scope_faults s d.name) (if_fits (object_allowed static d.name.at declared) make))
    (declared_plain s said d i.initialiser)
    (part_counts s (pointed said.base d.pointer) i.initialiser d.part h.1) (λ declared n.
    placed_also T (scope_faults s d.name) (if_fits (object_allowed static d.name.at declared) make)
    (placed_knowing ObjectCounts T (object_allowed static d.name.at declared) make
    (allowed_plain static d.name.at declared) (allowed_counts static d.name.at declared n)
    (λ type k. object_placed static s (after_item said i s) d i.initialiser h.1 type k))))

pub few_commas : (n : ℕ) → 0 ≡ suc n → ⊥
few_commas n e = grind arith

followed_placed : (said : Specified) (is : List ItemTree) → AllByRecursion IsItem is → (commas : List Span)
    → length commas ≡ length is → (s : Scope) → Placed (followed item_tokens is commas) (typed_items said is s)
followed_placed said [] h commas e s = (tt, λ z. tt)
followed_placed said (i ∷ is) h [] e s = absurd (few_commas (length is) e)
followed_placed said (i ∷ is) h (at ∷ commas) e s =
    let t = after_item said i s in
    behind (_ ∷ []) (item_tokens i ++ followed item_tokens is commas) (typed_items said (i ∷ is) s)
    (placed_both (item_tokens i) (followed item_tokens is commas) (typed_item said i s) (typed_items said is t)
    (λ xs ys. fits (xs ++ ys)) (item_placed said i h.0 s)
    (followed_placed said is h.1 commas (one_less (length commas) (length is) e) t) (λ xs ys. refl))

items_placed : (said : Specified) (is : List ItemTree) → AllByRecursion IsItem is → (commas : List Span)
    → AreApart is commas → (s : Scope) → Placed (separated item_tokens is commas) (typed_items said is s)
items_placed said [] h commas e s = (tt, λ z. tt)
items_placed said (i ∷ is) h commas e s =
    let t = after_item said i s in
    placed_both (item_tokens i) (followed item_tokens is commas) (typed_item said i s) (typed_items said is t)
    (λ xs ys. fits (xs ++ ys)) (item_placed said i h.0 s) (followed_placed said is h.1 commas e t) (λ xs ys. refl)

declaration_placed : (position : Position) (d : DeclarationTree) → IsDeclaration d → (s : Scope)
    → Placed (declaration_tokens d) (typed_declaration position d s)
declaration_placed position d h s =
    let T = separated item_tokens d.items d.commas in
    inside (specifiers_tokens d.specifiers) T (_ ∷ []) (typed_declaration position d s)
    (placed_after T (or_fails (specified position d.specifiers) TypeRule (first_word d.specifiers))
    (λ said. typed_items said d.items s) (specifiers_plain position d.specifiers)
    (λ said. items_placed said d.items (are_items d.items h.1) d.commas h.2 s))

-- ---- statements

maybe_placed : (s : Scope) (o : Option Expr) → IsMaybeExpr o → Placed (maybe_expr_tokens o) (typed_if_any s o)
maybe_placed s None h = (tt, λ z. tt)
maybe_placed s (Some e) h =
    placed_if (expr_tokens e) (typed_expression s e) (λ x. fits (Some x)) (typed_placed s e h) (λ x. refl)

condition_placed : (s : Scope) (at : Span) (e : Expr) → IsExpr e → Placed (expr_tokens e) (condition s at e)
condition_placed s at e h =
    placed_if (expr_tokens e) (typed_expression s e) (tested at) (typed_placed s e h) (λ x. tested_plain at x)

condition_if_placed : (s : Scope) (at : Span) (o : Option Expr) → IsMaybeExpr o
    → Placed (maybe_expr_tokens o) (condition_if_any s at o)
condition_if_placed s at None h = (tt, λ z. tt)
condition_if_placed s at (Some e) h =
    placed_if (expr_tokens e) (condition s at e) (λ x. fits (Some x)) (condition_placed s at e h) (λ x. refl)

one_placed : (T : List Token) (c : Checked Statement) → Placed T c → Placed T (one c)
one_placed T c h = placed_if T c (λ st. fits (st ∷ [])) h (λ st. refl)

alone_placed : (T : List Token) (c : Checked (List Statement)) → Placed T c → Placed T (alone c)
alone_placed T c h = placed_if T c (λ sts. fits (as_one sts)) h (λ sts. refl)

returned_plain : (t : ValueType) (at : Span) (o : Option Expression) → Plain (returned t at o)
returned_plain Void at None = refl
returned_plain Void at (Some e) = tt
returned_plain (Integer t) at None = tt
returned_plain (Integer t) at (Some e) =
    plain_if (assigned (Integer t) at e) (λ x. fits (Some x)) (assigned_plain (Integer t) at e) (λ x. refl)
returned_plain (Pointer t) at None = tt
returned_plain (Pointer t) at (Some e) =
    plain_if (assigned (Pointer t) at e) (λ x. fits (Some x)) (assigned_plain (Pointer t) at e) (λ x. refl)

jump_placed : (T : List Token) (may : Bool) (at : Span) (st : Statement) → Placed T (one (jump may at st))
jump_placed T true at st = (tt, λ z. tt)
jump_placed T false at st = tt

four_placed : (n : ℕ) (A B C D : List Token) (a : Checked First) (b c : Checked (Option Expression))
    (d : Checked Statement) → Placed A a → Placed B b → Placed C c → Placed D d
    → Placed (A ++ (B ++ (C ++ D))) (for_loop n a b c d)
four_placed n A B C D a b c d h i j k =
    subst (λ T. Placed T (for_loop n a b c d)) (append_assoc A B (C ++ D))
    (placed_both (A ++ B) (C ++ D) (pair a b) (pair c d) (λ x y. fits (tree.For n x.0 x.1 y.0 y.1 ∷ []))
    (placed_pair A B a b h i) (placed_pair C D c d j k) (λ x y. refl))

mutual
  statement_placed : (w : Around) (st : Stmt) → IsStmt st → (s : Scope)
      → Placed (stmt_tokens st) (typed_statement w st s)
  statement_placed w (trees.Declared d) h s =
      placed_if (declaration_tokens d) (typed_declaration InBlock d s) (λ items. fits (map tree.Declare items))
      (declaration_placed InBlock d h s) (λ is. refl)
  statement_placed w (trees.Labelled labels st) h s =
      behind (labels_tokens labels) (stmt_tokens st) (typed_statement w st s) (statement_placed w st h.1 s)
  statement_placed w (trees.Block o items c) h s =
      let T = stmts_tokens items in
      let r = if_fits (typed_statements w items (entered s)) (λ body. fits (tree.Block body)) in
      inside (_ ∷ []) T (_ ∷ []) (one r)
      (one_placed T r (placed_if T (typed_statements w items (entered s)) (λ body. fits (tree.Block body))
      (statements_placed w items (items_each items h) (entered s)) (λ b. refl)))
  statement_placed w (trees.Simple None semicolon) h s = (tt, λ z. tt)
  statement_placed w (trees.Simple (Some e) semicolon) h s =
      let T = expr_tokens e in
      let r = if_fits (typed_expression s e) (λ x. fits (tree.Evaluate s.next x)) in
      inside [] T (_ ∷ []) (one r)
      (one_placed T r (placed_if T (typed_expression s e) (λ x. fits (tree.Evaluate s.next x)) (typed_placed s e h)
      (λ x. refl)))
  statement_placed w (trees.If at o e c st) h s =
      let n = numbered s in
      let r = both (condition s at e) (alone (typed_statement w st n)) (λ x a.
      fits (tree.If s.next x a (tree.Block tree.Done))) in
      behind (_ ∷ _ ∷ []) (expr_tokens e ++ _ ∷ stmt_tokens st) (one r)
      (one_placed (expr_tokens e ++ _ ∷ stmt_tokens st) r
      (placed_both (expr_tokens e) (_ ∷ stmt_tokens st) (condition s at e) (alone (typed_statement w st n)) (λ x a.
      fits (tree.If s.next x a (tree.Block tree.Done))) (condition_placed s at e h.0)
      (behind (_ ∷ []) (stmt_tokens st) (alone (typed_statement w st n))
      (alone_placed (stmt_tokens st) (typed_statement w st n) (statement_placed w st h.1 n))) (λ x a. refl)))
  statement_placed w (trees.IfElse at o e c st otherwise other) h s =
      let n = numbered s in
      let t = after_statement st n in
      let A = stmt_tokens st in
      let B = stmt_tokens other in
      let first = alone (typed_statement w st n) in
      let second = alone (typed_statement w other t) in
      let r = three (condition s at e) first second (λ x a b. fits (tree.If s.next x a b)) in
      behind (_ ∷ _ ∷ []) (expr_tokens e ++ _ ∷ (A ++ _ ∷ B)) (one r)
      (one_placed (expr_tokens e ++ _ ∷ (A ++ _ ∷ B)) r
      (placed_both (expr_tokens e) (_ ∷ (A ++ _ ∷ B)) (condition s at e) (pair first second) (λ x p.
      fits (tree.If s.next x p.0 p.1)) (condition_placed s at e h.0)
      (behind (_ ∷ []) (A ++ _ ∷ B) (pair first second)
      (placed_pair A (_ ∷ B) first second (alone_placed A (typed_statement w st n) (statement_placed w st h.1 n))
      (behind (_ ∷ []) B second (alone_placed B (typed_statement w other t) (statement_placed w other h.4 t)))))
      (λ x a. refl)))
  statement_placed w (trees.Switch at o e c begin items end) h s =
      let n = entered (numbered s) in
      let T = stmts_tokens items in
      let U = expr_tokens e in
      let value = if_fits (typed_expression s e) (λ x. selected (value_type x) at x) in
      let labels = typed_labels [] (given_labels s 0 items) in
      let body = typed_statements (in_switch w) items n in
      let r = three value labels body (λ x ls b. fits (tree.Switch s.next x ls b)) in
      let V = _ ∷ _ ∷ (T ++ _ ∷ []) in
      behind (_ ∷ _ ∷ []) (U ++ V) (one r)
      (one_placed (U ++ V) r
      (placed_both U V value (pair labels body) (λ x p. fits (tree.Switch s.next x p.0 p.1))
      (placed_if U (typed_expression s e) (λ x. selected (value_type x) at x) (typed_placed s e h.0)
      (λ x. selected_plain (value_type x) at x))
      (plain_first V labels body (labels_plain s items)
      (inside (_ ∷ _ ∷ []) T (_ ∷ []) body (statements_placed (in_switch w) items (cases_each items h.1) n)))
      (λ x p. refl)))
  statement_placed w (trees.While at o e c st) h s =
      let n = numbered s in
      let body = alone (typed_statement (in_loop w) st n) in
      let r = both (condition s at e) body (λ x a. fits (tree.While s.next x a)) in
      behind (_ ∷ _ ∷ []) (expr_tokens e ++ _ ∷ stmt_tokens st) (one r)
      (one_placed (expr_tokens e ++ _ ∷ stmt_tokens st) r
      (placed_both (expr_tokens e) (_ ∷ stmt_tokens st) (condition s at e) body (λ x a. fits (tree.While s.next x a))
      (condition_placed s at e h.0)
      (behind (_ ∷ []) (stmt_tokens st) body
      (alone_placed (stmt_tokens st) (typed_statement (in_loop w) st n) (statement_placed (in_loop w) st h.1 n)))
      (λ x a. refl)))
  statement_placed w (trees.Do at st until o e c semicolon) h s =
      let n = numbered s in
      let A = stmt_tokens st in
      let body = alone (typed_statement (in_loop w) st n) in
      let r = both body (condition s until e) (λ a x. fits (tree.Do s.next a x)) in
      let V = _ ∷ _ ∷ (expr_tokens e ++ _ ∷ _ ∷ []) in
      behind (_ ∷ []) (A ++ V) (one r)
      (one_placed (A ++ V) r
      (placed_both A V body (condition s until e) (λ a x. fits (tree.Do s.next a x))
      (alone_placed A (typed_statement (in_loop w) st n) (statement_placed (in_loop w) st h.0 n))
      (inside (_ ∷ _ ∷ []) (expr_tokens e) (_ ∷ _ ∷ []) (condition s until e) (condition_placed s until e h.2))
      (λ a x. refl)))
  statement_placed w (trees.For at o start first e second step c st) h s =
      let n = numbered s in
      let a = if_fits (typed_if_any s start) (λ x. fits (first_part x)) in
      let b = condition_if_any s at e in
      let d = typed_if_any s step in
      let body = alone (typed_statement (in_loop w) st n) in
      let A = maybe_expr_tokens start in
      let B = maybe_expr_tokens e in
      let C = maybe_expr_tokens step in
      let D = stmt_tokens st in
      behind (_ ∷ _ ∷ []) (A ++ (_ ∷ (B ++ (_ ∷ (C ++ (_ ∷ D)))))) (for_loop s.next a b d body)
      (four_placed s.next A (_ ∷ B) (_ ∷ C) (_ ∷ D) a b d body
      (placed_if A (typed_if_any s start) (λ x. fits (first_part x)) (maybe_placed s start h.0) (λ x. refl))
      (behind (_ ∷ []) B b (condition_if_placed s at e h.1)) (behind (_ ∷ []) C d (maybe_placed s step h.2))
      (behind (_ ∷ []) D body (alone_placed D (typed_statement (in_loop w) st n) (statement_placed (in_loop w) st h.3
      n))))
  statement_placed w (trees.ForDeclaration at o start e second step c st) h s =
      let outside = entered (numbered s) in
      let t = after_declaration InFor start outside in
      let a = if_fits (typed_declaration InFor start outside) (λ items. fits (tree.Declared items)) in
      let b = condition_if_any t at e in
      let d = typed_if_any t step in
      let body = alone (typed_statement (in_loop w) st t) in
      let A = declaration_tokens start in
      let B = maybe_expr_tokens e in
      let C = maybe_expr_tokens step in
      let D = stmt_tokens st in
      behind (_ ∷ _ ∷ []) (A ++ (B ++ (_ ∷ (C ++ (_ ∷ D))))) (for_loop s.next a b d body)
      (four_placed s.next A B (_ ∷ C) (_ ∷ D) a b d body
      (placed_if A (typed_declaration InFor start outside) (λ items. fits (tree.Declared items))
      (declaration_placed InFor start h.0 outside) (λ x. refl))
      (condition_if_placed t at e h.1) (behind (_ ∷ []) C d (maybe_placed t step h.2))
      (behind (_ ∷ []) D body (alone_placed D (typed_statement (in_loop w) st t) (statement_placed (in_loop w) st h.3
      t))))
  statement_placed w (trees.Break at semicolon) h s = jump_placed _ w.breaks at (tree.Break s.next)
  statement_placed w (trees.Continue at semicolon) h s = jump_placed _ w.continues at (tree.Continue s.next)
  statement_placed w (trees.Return at e semicolon) h s =
      let T = maybe_expr_tokens e in
      let row : Option Expression → Checked Statement =
      λ x. if_fits (returned w.result at x) (λ y. fits (tree.Return s.next y)) in
      inside (_ ∷ []) T (_ ∷ []) (one (if_fits (typed_if_any s e) row))
      (one_placed T (if_fits (typed_if_any s e) row)
      (placed_if T (typed_if_any s e) row (maybe_placed s e h)
      (λ x. plain_if (returned w.result at x) (λ y. fits (tree.Return s.next y)) (returned_plain w.result at x)
      (λ y. refl))))

  pub statements_placed : (w : Around) (sts : Stmts) → Each sts → (s : Scope)
      → Placed (stmts_tokens sts) (typed_statements w sts s)
  statements_placed w NoStmt h s = (tt, λ z. tt)
  statements_placed w (OneStmt st others) h s =
      placed_both (stmt_tokens st) (stmts_tokens others) (typed_statement w st s)
      (typed_statements w others (after_statement st s)) (λ sts rest. fits (row_before sts rest))
      (statement_placed w st h.0 s) (statements_placed w others h.1 (after_statement st s)) (λ sts rest. refl)
