-- A table of names: the bindings in the order of their declarations, each with the place of the one that it hides, and
-- where the innermost one of each name stands.
use Rattle.std.specs.Prelude.{◌≡◌, ℕ, List, [], ◌∷◌, map, length, reverse, Option, Some, None, if◌then◌else◌}
use Rattle.c_typing.specs.Library.{same_name}
use Rattle.c_typing.specs.Names.{Binding, Meaning}
use Rattle.c_check_names.specs.declared.names.Entry.{Entry}
use Rattle.c_check_names.specs.Views.{meaning_of}

abbrev pub binding_from : Entry → Binding
binding_from e = record { name = e.name.items; depth = e.depth; meaning = meaning_of e.meaning }

-- the innermost bindings stand first
abbrev pub innermost_first : List Entry → List Binding
innermost_first es = map binding_from (reverse es)

-- how many scopes are around a name's own, and what it means
abbrev pub of_entry : Entry → ℕ × Meaning
of_entry e = (e.depth, meaning_of e.meaning)

abbrev pub of_binding : Binding → ℕ × Meaning
of_binding b = (b.depth, b.meaning)

-- the place of the innermost binding of a name, counted from the outermost binding of all
abbrev pub place_of : List Entry → List ℕ → Option ℕ
place_of [] name = None
place_of (e ∷ es) name = if same_name e.name.items name then Some (length es) else place_of es name

-- each binding knows the place of the one that it hides
abbrev pub AreChained : List Entry → Type 0
AreChained [] = Unit {0}
AreChained (e ∷ es) = (e.hidden ≡ place_of es e.name.items) × AreChained es
