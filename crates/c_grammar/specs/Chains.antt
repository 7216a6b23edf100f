-- Reading from the front of a list of tokens, or where that fails; and reading in a loop.
use Rattle.std.specs.Prelude.{ℕ, zero, suc, Bool, true, false, List, ◌∷◌, length, Option, Some, None, nat_lt}
use Rattle.std.specs.Prelude.{if◌then◌else◌}
use Rattle.c_lex.specs.declared.token.Token.{Token}

-- what is taken of a kind, and the tokens behind it; or nothing of this kind is at the front
abbrev pub Takes : Type 0 → Type 0
Takes A = Option (A × List Token)

-- What a reader finds, and the tokens behind it; or the tokens before which it fails, and whether it does since no tree
-- may be so high.
pub data Reads (A : Type 0) : Type 0 where
  Found : (a : A) (rest : List Token) → Reads A
  Faults : (deep : Bool) (rest : List Token) → Reads A

-- one more part, the end, or where it fails
pub data Step (A : Type 0) : Type 0 where
  Done : Step A
  Fails : (deep : Bool) (rest : List Token) → Step A
  Goes : (so_far : A) (rest : List Token) → Step A

abbrev pub then_read : {A B : Type 0} → Reads A → (A → List Token → Reads B) → Reads B
then_read (Faults deep us) f = Faults deep us
then_read (Found a us) f = f a us

abbrev pub then_step : {A B : Type 0} → Reads A → (A → List Token → Step B) → Step B
then_step (Faults deep us) f = Fails deep us
then_step (Found a us) f = f a us

-- what has to be at the front of these tokens
abbrev pub needed : {A : Type 0} → List Token → Takes A → Reads A
needed ts None = Faults false ts
needed ts (Some (a, us)) = Found a us

-- Behind this token, which makes a node of at most this height above a part that is so high. Where the node would be
-- higher, the token is too deep.
abbrev pub above : {A : Type 0} → ℕ → ℕ → Token → List Token → Reads A → Reads A
above part height t ts r = if nat_lt part height then r else Faults true (t ∷ ts)

-- behind this token, which makes a node, where what stands below it may be so high; else the token is too deep
abbrev pub room : {A : Type 0} → ℕ → Token → List Token → Reads A → Reads A
room height t ts r = above 0 height t ts r

abbrev pub chain_on : {A : Type 0} → Step A → (A → List Token → Reads A) → A → List Token → Reads A
chain_on Done next a ts = Found a ts
chain_on (Fails deep us) next a ts = Faults deep us
chain_on (Goes b rest) next a ts = next b rest

abbrev nothing : {A : Type 0} → A → List Token → Reads A
nothing a ts = Faults false ts

-- at most n steps and one more
unfoldable pub chain : {A : Type 0} → (A → List Token → Step A) → ℕ → A → List Token → Reads A
chain step zero a ts = chain_on (step a ts) nothing a ts
chain step (suc n) a ts = chain_on (step a ts) (chain step n) a ts

-- as many steps as there are tokens
abbrev pub chained : {A : Type 0} → (A → List Token → Step A) → A → List Token → Reads A
chained step a ts = chain step (length ts) a ts
