-- What a program names: the three functions of the library, and what has linkage or static storage (C99 6.2.2 and
-- 6.2.4).
use Rattle.std.specs.Prelude.{ℕ, suc, ◌==◌, nat_eq, List, [], ◌∷◌, codes, Bool, true, false, ◌&&◌, if◌then◌else◌}
use Rattle.std.specs.Cmp.Lexicographic.{pointwise}
use Rattle.pcc_base.specs.declared.span.Span.{Span}

-- whether two names have the same bytes
abbrev pub same_name : List ℕ → List ℕ → Bool
same_name a b = pointwise nat_eq a b

-- C99 7.19.7.9, 7.19.7.6 and 7.20.4.3
pub data LibraryFunction : Type 0 where
  Putchar : LibraryFunction
  Getchar : LibraryFunction
  Exit : LibraryFunction

abbrev pub same_function : LibraryFunction → LibraryFunction → Bool
same_function Putchar Putchar = true
same_function Getchar Getchar = true
same_function Exit Exit = true
same_function _ _ = false

-- A function, or an object of static storage.
pub data Entity : Type 0 where
  Library : (function : LibraryFunction) → Entity
  -- external linkage: one in all files (C99 6.2.2p2)
  Shared : (name : List ℕ) → Entity
  -- internal linkage: one in its file
  OfFile : (file : ℕ) (name : List ℕ) → Entity
  -- no linkage: a static object of a block, by the place of its name, or a string literal, by that of its first byte
  At : (place : Span) → Entity

abbrev pub same_place : Span → Span → Bool
same_place a b = a.file == b.file && (a.line == b.line && a.col == b.col)

abbrev pub same_entity : Entity → Entity → Bool
same_entity (Library f) (Library g) = same_function f g
same_entity (Shared a) (Shared b) = same_name a b
same_entity (OfFile k a) (OfFile l b) = k == l && same_name a b
same_entity (At a) (At b) = same_place a b
same_entity _ _ = false

-- what a name of external linkage names: the three names are the library's in every file
abbrev pub external : List ℕ → Entity
external name =
    if same_name name (codes "putchar") then Library Putchar
    else if same_name name (codes "getchar") then Library Getchar
    else if same_name name (codes "exit") then Library Exit
    else Shared name

-- The number of an entity among others: its place in the list, and the length where it isn't there.
abbrev pub number_among : List Entity → Entity → ℕ
number_among [] e = 0
number_among (x ∷ xs) e = if same_entity x e then 0 else suc (number_among xs e)
