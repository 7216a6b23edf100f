-- Faults of a program, and which of them is answered: the one at the least place, and there the one with the least
-- number.
use Rattle.std.specs.Prelude.{ℕ, ◌==◌, nat_lt, List, [], ◌∷◌, Bool, true, false, Option, Some, None, if◌then◌else◌}
use Rattle.pcc_base.specs.declared.span.Span.{Span}
use Rattle.pcc_base.specs.declared.fault.Fault.{Fault}
use Rattle.pcc_base.specs.declared.fault.FaultKind.{FaultKind}
use Rattle.pcc_base.specs.Faults.{number_of}

abbrev pub fault : FaultKind → Span → Fault
fault kind at = record { kind = kind; at = at }

-- what a fault is ordered by: its place, then its number
abbrev pub keys : Fault → List ℕ
keys f = f.at.file ∷ f.at.line ∷ f.at.col ∷ number_of f.kind ∷ []

-- the first numbers that differ decide
abbrev pub is_below : List ℕ → List ℕ → Bool
is_below [] [] = false
is_below [] (y ∷ ys) = true
is_below (x ∷ xs) [] = false
is_below (x ∷ xs) (y ∷ ys) = if x == y then is_below xs ys else nat_lt x y

abbrev pub precedes : Fault → Fault → Bool
precedes f g = is_below (keys f) (keys g)

-- the earlier one of two; the first where neither precedes
abbrev pub earlier : Option Fault → Option Fault → Option Fault
earlier None g = g
earlier (Some f) None = Some f
earlier (Some f) (Some g) = Some (if precedes g f then g else f)

-- the least of all
abbrev pub least : List Fault → Option Fault
least [] = None
least (f ∷ fs) = earlier (Some f) (least fs)
