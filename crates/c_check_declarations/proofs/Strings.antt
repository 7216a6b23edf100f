-- Strings that initialise arrays, and what else does.
use Rattle.std.proofs.Common.{◌≡◌, refl, sym, ap, ◌∙◌, ℕ, suc, List, [], ◌∷◌, length, map, ◌≤◌, arith}
use Rattle.std.proofs.Common.{Option, Some, None}
use Rattle.pcc_base.specs.declared.span.Span.{Span}
use Rattle.c_syntax.specs.declared.expression.TextPiece.{TextPiece}
use Rattle.c_syntax.specs.declared.expression.Expression.{Expression}
use Rattle.c_syntax.specs.Expressions.{Expr, Exprs, expr_of, exprs_of}
use Rattle.c_syntax.specs.Declarations.{InitialiserTree, Single, Braces, ValueTree}
use Rattle.c_tree.specs.declared.types.IntegerType.TheVariants.{Char, Short, Int, UnsignedInt}
use Rattle.c_tree.specs.declared.types.ValueType.{ValueType}
use Rattle.c_tree.specs.declared.types.ValueType.TheVariants.{Void, Integer, Pointer}
use Rattle.c_typing.specs.Declarators.{ArrayValues, Letters, Listed, NoValues, letters_or, only_text, text_of}
use Rattle.c_typing.specs.Declarators.{count_by_value, count_given, count_of}
use Rattle.c_check_declarations.specs.Forms.{letters_in, values_by}

pub are_letters : (a : ArrayValues) (pieces : List TextPiece) → letters_in a ≡ Some pieces → a ≡ Letters pieces
are_letters (Letters ps) pieces h = cc h
are_letters (Listed es) pieces h = absurd (cc h)
are_letters (NoValues e) pieces h = absurd (cc h)

other_single : (o : Option (List TextPiece)) (e : Expr) → letters_in (letters_or o (NoValues e)) ≡ None
    → letters_or o (NoValues e) ≡ NoValues e
other_single None e h = refl
other_single (Some pieces) e h = absurd (cc h)

other_list : (o : Option (List TextPiece)) (es : Exprs) → letters_in (letters_or o (Listed es)) ≡ None
    → letters_or o (Listed es) ≡ Listed es
other_list None es h = refl
other_list (Some pieces) es h = absurd (cc h)

-- what isn't a string
pub no_letters : (of : Option ValueType) (e : Expr) → letters_in (values_by of (Single e)) ≡ None
    → values_by of (Single e) ≡ NoValues e
no_letters None e h = refl
no_letters (Some Void) e h = refl
no_letters (Some (Integer Char)) e h = other_single (text_of e) e h
no_letters (Some (Integer Short)) e h = refl
no_letters (Some (Integer Int)) e h = refl
no_letters (Some (Integer UnsignedInt)) e h = refl
no_letters (Some (Pointer t)) e h = refl

pub no_letters_listed : (of : Option ValueType) (o : Span) (es : Exprs) (commas : List Span) (trailing : Option Span)
    (c : Span) → letters_in (values_by of (Braces o es commas trailing c)) ≡ None
    → values_by of (Braces o es commas trailing c) ≡ Listed es
no_letters_listed None o es commas trailing c h = refl
no_letters_listed (Some Void) o es commas trailing c h = refl
no_letters_listed (Some (Integer Char)) o es commas trailing c h = other_list (only_text es) es h
no_letters_listed (Some (Integer Short)) o es commas trailing c h = refl
no_letters_listed (Some (Integer Int)) o es commas trailing c h = refl
no_letters_listed (Some (Integer UnsignedInt)) o es commas trailing c h = refl
no_letters_listed (Some (Pointer t)) o es commas trailing c h = refl

-- the string of an array of `char`
pub single_letters : (o : Option (List TextPiece)) (e : Expr) → o ≡ letters_in (letters_or o (NoValues e))
single_letters None e = refl
single_letters (Some pieces) e = refl

pub listed_letters : (o : Option (List TextPiece)) (es : Exprs) → o ≡ letters_in (letters_or o (Listed es))
listed_letters None es = refl
listed_letters (Some pieces) es = refl

-- the size that an initialiser gives
pub counted : (of : Option ValueType) (v : ValueTree) → count_given (values_by of v.value) ≡ count_by_value of (Some v)
counted None v = refl
counted (Some Void) v = refl
counted (Some (Integer t)) v = refl
counted (Some (Pointer t)) v = refl

-- several values are no string
pub many_texts : (es : List Expression) → 2 ≤ length es → None ≡ only_text (exprs_of (map expr_of es))
many_texts [] h = absurd (omega (arith, h))
many_texts (e ∷ []) h = absurd (omega (arith, h))
many_texts (e ∷ (f ∷ es)) h = refl

counts : (es : List Expression) → count_of (exprs_of (map expr_of es)) ≡ length es
counts [] = refl
counts (e ∷ es) = ap suc (counts es)

-- the size that a list gives
pub counted_list : (of : Option ValueType) (v : InitialiserTree) (o : Span) (es : List Expression) (commas : List Span)
    (trailing : Option Span) (close : Span) (n : ℕ)
    → v ≡ Braces o (exprs_of (map expr_of es)) commas trailing close → letters_in (values_by of v) ≡ None
    → n ≡ length es → Some n ≡ count_given (values_by of v)
counted_list of v o es commas trailing close n is none h = ap Some (h ∙ sym (counts es))
    ∙ ap count_given (sym (no_letters_listed of o (exprs_of (map expr_of es)) commas trailing close
    (ap (λ w. letters_in (values_by of w)) (sym is) ∙ none)))
    ∙ ap (λ w. count_given (values_by of w)) (sym is)
