-- Types as specifiers and declarators name them (C99 6.7.1 to 6.7.3 and 6.7.5).
use Rattle.std.specs.Prelude.{ℕ, ◌==◌, List, [], ◌∷◌, map, count_by, find, filter_map, option_map, Bool, true, false}
use Rattle.std.specs.Prelude.{◌&&◌, Option, Some, None, if◌then◌else◌}
use Rattle.std.specs.List.{list_all}
use Rattle.c_syntax.specs.declared.operator.SpecifierWord.{SpecifierWord}
use Rattle.c_syntax.specs.declared.operator.SpecifierWord.TheVariants as words
use Rattle.c_syntax.specs.declared.expression.Specifier.{Specifier}
use Rattle.c_syntax.specs.Expressions.{Star}
use Rattle.c_tree.specs.declared.types.IntegerType.{IntegerType}
use Rattle.c_tree.specs.declared.types.IntegerType.TheVariants.{Char, Short, Int, UnsignedInt}
use Rattle.c_tree.specs.declared.types.ValueType.{ValueType}
use Rattle.c_tree.specs.declared.types.ValueType.TheVariants.{Void, Integer, Pointer}
use Rattle.c_tree.specs.Program.{int}

-- ---- types

abbrev pub same_integer : IntegerType → IntegerType → Bool
same_integer Char Char = true
same_integer Short Short = true
same_integer Int Int = true
same_integer UnsignedInt UnsignedInt = true
same_integer _ _ = false

abbrev pub same_value : ValueType → ValueType → Bool
same_value Void Void = true
same_value (Integer t) (Integer u) = same_integer t u
same_value (Pointer t) (Pointer u) = same_integer t u
same_value _ _ = false

abbrev pub same_values : List ValueType → List ValueType → Bool
same_values [] [] = true
same_values (t ∷ ts) (u ∷ us) = same_value t u && same_values ts us
same_values _ _ = false

abbrev pub is_pointer : ValueType → Bool
is_pointer Void = false
is_pointer (Integer t) = false
is_pointer (Pointer t) = true

-- ---- specifiers, in any order (C99 6.7p1); `const` has no effect

-- at most one storage word (C99 6.7.1p2)
pub data Storage : Type 0 where
  Unsaid : Storage
  Auto : Storage
  Register : Storage
  Static : Storage
  Extern : Storage

abbrev pub storage_word : SpecifierWord → Option Storage
storage_word words.Auto = Some Auto
storage_word words.Register = Some Register
storage_word words.Static = Some Static
storage_word words.Extern = Some Extern
storage_word words.Const = None
storage_word words.Void = None
storage_word words.Char = None
storage_word words.Short = None
storage_word words.Int = None
storage_word words.Signed = None

abbrev pub the_storage : List Storage → Option Storage
the_storage [] = Some Unsaid
the_storage (s ∷ []) = Some s
the_storage (s ∷ (t ∷ ts)) = None

abbrev pub word_number : SpecifierWord → ℕ
word_number words.Auto = 0
word_number words.Register = 1
word_number words.Static = 2
word_number words.Extern = 3
word_number words.Const = 4
word_number words.Void = 5
word_number words.Char = 6
word_number words.Short = 7
word_number words.Int = 8
word_number words.Signed = 9

abbrev pub times : SpecifierWord → List SpecifierWord → ℕ
times word all = count_by (λ other. word_number other == word_number word) all

-- the words that name a type are these, in some order
abbrev pub name_a_type : List SpecifierWord → List SpecifierWord → Bool
name_a_type these all = list_all (λ word. times word these == times word all)
    (words.Void ∷ words.Char ∷ words.Short ∷ words.Int ∷ words.Signed ∷ [])

-- C99 6.7.2p2, for the types of the language; `char` is signed
abbrev pub type_rows : List (List SpecifierWord × ValueType)
type_rows =
    (words.Void ∷ [], Void)
    ∷ (words.Char ∷ [], Integer Char)
    ∷ (words.Signed ∷ words.Char ∷ [], Integer Char)
    ∷ (words.Short ∷ [], Integer Short)
    ∷ (words.Signed ∷ words.Short ∷ [], Integer Short)
    ∷ (words.Short ∷ words.Int ∷ [], Integer Short)
    ∷ (words.Signed ∷ words.Short ∷ words.Int ∷ [], Integer Short)
    ∷ (words.Int ∷ [], int)
    ∷ (words.Signed ∷ [], int)
    ∷ (words.Signed ∷ words.Int ∷ [], int)
    ∷ []

abbrev pub the_type : List SpecifierWord → Option ValueType
the_type all = option_map (λ row. row.1) (find (λ row. name_a_type row.0 all) type_rows)

-- where specifiers stand: outside functions, in a block, in a `for`, in a list of parameters, in a cast
pub data Position : Type 0 where
  Outside : Position
  InBlock : Position
  InFor : Position
  InParameters : Position
  InCast : Position

-- the storage words that may stand there
abbrev pub may_stand : Position → Storage → Bool
may_stand position Unsaid = true
may_stand Outside Static = true
may_stand Outside Extern = true
may_stand InBlock Auto = true
may_stand InBlock Register = true
may_stand InBlock Static = true
may_stand InFor Auto = true
may_stand InFor Register = true
may_stand InParameters Register = true
may_stand _ _ = false

-- what specifiers say: void or an integer type, and the storage
pub record Specified : Type 0 where
  pub base : ValueType
  pub storage : Storage

abbrev pub said : Position → Option ValueType → Option Storage → Option Specified
said position (Some base) (Some storage) =
    if may_stand position storage then Some (record { base = base; storage = storage }) else None
said position _ _ = None

abbrev pub words_of : List Specifier → List SpecifierWord
words_of specifiers = map (λ s. s.word) specifiers

abbrev pub specified : Position → List Specifier → Option Specified
specified position specifiers = said position (the_type (words_of specifiers))
    (the_storage (filter_map storage_word (words_of specifiers)))

abbrev pub is_static : Storage → Bool
is_static Unsaid = false
is_static Auto = false
is_static Register = false
is_static Static = true
is_static Extern = false

abbrev pub is_extern : Storage → Bool
is_extern Unsaid = false
is_extern Auto = false
is_extern Register = false
is_extern Static = false
is_extern Extern = true

-- ---- declared types (C99 6.7.5)

-- A base with `*` or without. None is a pointer to void, which the language hasn't.
abbrev pub pointed : ValueType → Option Star → Option ValueType
pointed base None = Some base
pointed Void (Some star) = None
pointed (Integer t) (Some star) = Some (Pointer t)
pointed (Pointer t) (Some star) = None

-- What a declarator says of its name, whether it may be said or not.
pub data Declared : Type 0 where
  DeclaredValue : (of : Option ValueType) → Declared
  DeclaredArray : (element : Option ValueType) (count : ℕ) → Declared
  DeclaredFunction : (result : Option ValueType) (parameters : List ValueType) → Declared

abbrev pub same_pointed : Option ValueType → Option ValueType → Bool
same_pointed None None = true
same_pointed (Some t) (Some u) = same_value t u
same_pointed _ _ = false

-- compatible types (C99 6.2.7, 6.7.5.2p6 and 6.7.5.3p15)
abbrev pub same_type : Declared → Declared → Bool
same_type (DeclaredValue t) (DeclaredValue u) = same_pointed t u
same_type (DeclaredArray t m) (DeclaredArray u n) = same_pointed t u && m == n
same_type (DeclaredFunction t ts) (DeclaredFunction u us) = same_pointed t u && same_values ts us
same_type _ _ = false
