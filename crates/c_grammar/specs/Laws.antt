-- What is said of each reading: what its answer rests on, and what more height changes.
use Rattle.std.specs.Prelude.{◌≡◌, ◌<◌, true, false, List, [], ◌∷◌, ◌++◌, length}
use Rattle.c_lex.specs.declared.token.Token.{Token}
use Rattle.c_grammar.specs.Chains.{Reads, Found, Faults}

-- both are at their end, or begin with one token
abbrev pub Same : List Token → List Token → Type 0
Same [] [] = Unit {0}
Same [] (t ∷ ts) = ⊥
Same (t ∷ ts) [] = ⊥
Same (t ∷ ts) (u ∷ us) = t ≡ u

-- The answer over these tokens rests on those that are taken and on the next one alone: whatever else is behind, it is
-- the same.
abbrev pub Kept : {A : Type 0} → (List Token → Reads A) → List Token → Reads A → Type 0
Kept {A} r ts (Found a us) = (took : List Token) × (ts ≡ took ++ us)
    × ((w : List Token) → Same us w → r (took ++ w) ≡ Found a w)
Kept {A} r ts (Faults deep us) = (took : List Token) × (ts ≡ took ++ us)
    × ((w : List Token) → Same us w → r (took ++ w) ≡ Faults deep w)

abbrev pub Ahead : {A : Type 0} → (List Token → Reads A) → Type 0
Ahead r = (ts : List Token) → Kept r ts (r ts)

-- it leaves fewer tokens than these
abbrev pub Past : {A : Type 0} → List Token → Reads A → Type 0
Past us (Found a vs) = length vs < length us
Past us (Faults deep vs) = length vs < length us

-- With more height what was found is found, a fault that is not of height stays, and one of height moves on.
abbrev pub RisesTo : {A : Type 0} → Reads A → Reads A → Type 0
RisesTo (Found a us) o = o ≡ Found a us
RisesTo (Faults false us) o = o ≡ Faults false us
RisesTo (Faults true us) o = Past us o
