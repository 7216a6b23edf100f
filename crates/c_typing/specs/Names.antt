-- What names mean where they are seen (C99 6.2.1 to 6.2.4).
use Rattle.std.specs.Prelude.{ℕ, suc, ◌==◌, List, [], ◌∷◌, ◌++◌, length, codes, Bool, true, false, not, ◌&&◌, ◌||◌}
use Rattle.std.specs.Prelude.{Option, Some, None, if◌then◌else◌}
use Rattle.std.specs.List.{list_any}
use Rattle.c_tree.specs.declared.types.IntegerType.{IntegerType}
use Rattle.c_tree.specs.declared.types.ValueType.{ValueType}
use Rattle.c_tree.specs.declared.types.ValueType.TheVariants.{Void}
use Rattle.c_tree.specs.Program as tree
use Rattle.c_tree.specs.Program.{int}
use Rattle.c_typing.specs.Library.{LibraryFunction, Putchar, Getchar, Exit, Entity, Library, OfFile}
use Rattle.c_typing.specs.Library.{same_name, same_entity, external, number_among}
use Rattle.c_typing.specs.Types.{Storage, Unsaid, Auto, Register, Static, Extern, Declared, DeclaredValue}
use Rattle.c_typing.specs.Types.{DeclaredArray}
use Rattle.c_typing.specs.Types.{DeclaredFunction, same_type}

-- a function's result, and its parameters, of which arrays have become pointers (C99 6.7.5.3p7)
pub record Signature : Type 0 where
  pub result : ValueType
  pub parameters : List ValueType

pub data Meaning : Type 0 where
  -- a local that is no array, and an array of the function, by its number
  Local : (number : ℕ) (of : ValueType) → Meaning
  LocalArray : (number : ℕ) (element : IntegerType) → Meaning
  -- an object of static storage that is no array, and one that is
  Object : (entity : Entity) (of : IntegerType) → Meaning
  ObjectArray : (entity : Entity) (element : IntegerType) → Meaning
  Function : (entity : Entity) (signature : Signature) → Meaning

-- A name that is declared, and how many scopes are around its own.
pub record Binding : Type 0 where
  pub name : List ℕ
  pub depth : ℕ
  pub meaning : Meaning

-- the innermost of this name; the innermost bindings stand first
abbrev pub binding_of : List Binding → List ℕ → Option Binding
binding_of [] name = None
binding_of (b ∷ bs) name = if same_name b.name name then Some b else binding_of bs name

abbrev pub meaning_in : Option Binding → Option Meaning
meaning_in None = None
meaning_in (Some b) = Some b.meaning

abbrev pub meaning_of : List Binding → List ℕ → Option Meaning
meaning_of bs name = meaning_in (binding_of bs name)

-- A declaration outside functions: what it declares, of which type, and whether it has a body or an initialiser.
pub record Outer : Type 0 where
  pub entity : Entity
  pub type : Declared
  pub whole : Bool

-- the objects and functions that have numbers, in order
pub record Numbers : Type 0 where
  pub objects : List Entity
  pub functions : List Entity

-- What is known at a place of the text.
pub record Scope : Type 0 where
  pub numbers : Numbers
  -- the position of the file, and the declarations outside functions in it and in the files before it
  pub file : ℕ
  pub outer : List Outer
  -- the names that are seen, and how many scopes are around the place
  pub names : List Binding
  pub depth : ℕ
  -- the locals and arrays of the function so far
  pub locals : List tree.Local
  pub arrays : List tree.LocalArray
  -- the number of the next statement or declared item
  pub next : ℕ

abbrev pub object_number : Scope → Entity → ℕ
object_number s e = number_among s.numbers.objects e

abbrev pub function_number : Scope → Entity → ℕ
function_number s e = number_among s.numbers.functions e

-- ---- scopes (C99 6.2.1)

abbrev pub entered : Scope → Scope
entered s = record s { depth = suc s.depth }

-- behind a block, where its names are seen no more
abbrev pub left : Scope → Scope → Scope
left outside inside = record inside { names = outside.names; depth = outside.depth }

abbrev pub is_at_depth : ℕ → Option Binding → Bool
is_at_depth depth None = false
is_at_depth depth (Some b) = b.depth == depth

-- the name is declared in this very scope
abbrev pub is_declared_here : Scope → List ℕ → Bool
is_declared_here s name = is_at_depth s.depth (binding_of s.names name)

abbrev pub bound : List ℕ → Meaning → Scope → Scope
bound name meaning s = record s { names = record { name = name; depth = s.depth; meaning = meaning } ∷ s.names }

-- a local that is no array, also a parameter
abbrev pub with_local : List ℕ → ValueType → Scope → Scope
with_local name of s =
    bound name (Local (length s.locals) of) (record s { locals = s.locals ++ record { name = name; of = of } ∷ [] })

abbrev pub with_array : List ℕ → IntegerType → ℕ → Scope → Scope
with_array name element count s = bound name (LocalArray (length s.arrays) element)
    (record s { arrays = s.arrays ++ record { name = name; element = element; count = count } ∷ [] })

-- the number of a statement or declared item is taken
abbrev pub numbered : Scope → Scope
numbered s = record s { next = suc s.next }

-- ---- the library, whose functions are known without a declaration (C99 7.19.7 and 7.20.4)

abbrev pub library_signature : LibraryFunction → Signature
library_signature Putchar = record { result = int; parameters = int ∷ [] }
library_signature Getchar = record { result = int; parameters = [] }
library_signature Exit = record { result = Void; parameters = int ∷ [] }

abbrev pub library_binding : List ℕ → LibraryFunction → Binding
library_binding name f =
    record { name = name; depth = 0; meaning = Function (Library f) (library_signature f) }

abbrev pub library_names : List Binding
library_names = library_binding (codes "putchar") Putchar ∷ library_binding (codes "getchar") Getchar
    ∷ library_binding (codes "exit") Exit ∷ []

abbrev pub library_outer : LibraryFunction → Outer
library_outer f = record {
  entity = Library f;
  type = DeclaredFunction (Some (library_signature f).result) (library_signature f).parameters;
  whole = false;
}

-- before the first file
abbrev pub first_scope : Numbers → Scope
first_scope numbers = record {
  numbers = numbers;
  file = 0;
  outer = library_outer Putchar ∷ library_outer Getchar ∷ library_outer Exit ∷ [];
  names = library_names;
  depth = 0;
  locals = [];
  arrays = [];
  next = 0;
}

-- before the next file, which sees nothing of this one but what is shared
abbrev pub next_file : Scope → Scope
next_file s = record s { file = suc s.file; names = library_names }

-- ---- linkage of what is declared outside functions (C99 6.2.2)

abbrev pub entity_meant : Meaning → Option Entity
entity_meant (Local number of) = None
entity_meant (LocalArray number element) = None
entity_meant (Object e of) = Some e
entity_meant (ObjectArray e element) = Some e
entity_meant (Function e signature) = Some e

-- what the name names already in this file, and otherwise something of external linkage (p4)
abbrev pub as_before : List ℕ → Option Meaning → Entity
as_before name None = external name
as_before name (Some (Local number of)) = external name
as_before name (Some (LocalArray number element)) = external name
as_before name (Some (Object e of)) = e
as_before name (Some (ObjectArray e element)) = e
as_before name (Some (Function e signature)) = e

abbrev pub is_function : Declared → Bool
is_function (DeclaredValue of) = false
is_function (DeclaredArray element count) = false
is_function (DeclaredFunction result parameters) = true

-- `static` gives internal linkage (p3); `extern`, or a function without a storage word, that of an earlier declaration
-- (p4, p5); an object without a storage word has external linkage (p5).
abbrev pub linked : Scope → Storage → Declared → List ℕ → Entity
linked s Static type name = OfFile s.file name
linked s Extern type name = as_before name (meaning_of s.names name)
linked s Unsaid type name = if is_function type then as_before name (meaning_of s.names name) else external name
linked s Auto type name = external name
linked s Register type name = external name

abbrev pub is_other : Entity → Option Entity → Bool
is_other e None = false
is_other e (Some f) = not (same_entity e f)

abbrev pub entity_seen : Option Meaning → Option Entity
entity_seen None = None
entity_seen (Some meaning) = entity_meant meaning

-- two declarations of one thing that differ in type, or that both define it wholly (C99 6.2.7p2 and 6.9p5)
abbrev pub clashes : Outer → Outer → Bool
clashes a b = same_entity a.entity b.entity && (not (same_type a.type b.type) || (a.whole && b.whole))

-- The declaration goes against an earlier one of the name: in this file with another linkage (C99 6.2.2p7), or of the
-- same thing in any file.
abbrev pub is_redeclared : Scope → List ℕ → Outer → Bool
is_redeclared s name o =
    is_other o.entity (entity_seen (meaning_of s.names name)) || list_any (clashes o) s.outer
