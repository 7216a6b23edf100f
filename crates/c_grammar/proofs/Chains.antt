-- Reading in a loop: from what was read so far, one step reads one part more, finds the end, or fails.
use Rattle.std.proofs.Common.{◌≡◌, ℕ, zero, suc, ◌≤◌, ◌<◌, Bool, true, List, length, ltb, refl, ◌∙◌, arith}
use Rattle.std.proofs.lemmas.Bool.{lt-ltb}
use Rattle.c_lex.specs.declared.token.Token.{Token}
use Rattle.c_grammar.specs.Chains.{Done, Fails, Goes, Reads, Found, Faults, Step, chain, chained, then_read, above}

-- what is read in all is what the steps from here read
pub record Continues {A : Type 0} (step : A → List Token → Step A) (a : A) (ts : List Token) (out : Reads A) : Type 0
  where
    pub fuel : ℕ
    pub enough : length ts ≤ fuel
    pub is : out ≡ chain step fuel a ts

pub continues_start : {A : Type 0} (step : A → List Token → Step A) (a : A) (ts : List Token)
    → Continues step a ts (chain step (length ts) a ts)
continues_start step a ts = record { fuel = length ts; enough = omega arith; is = refl }

chain-done : {A : Type 0} (step : A → List Token → Step A) (n : ℕ) (a : A) (ts : List Token) → step a ts ≡ Done
    → chain step n a ts ≡ Found a ts
unfolding chain
chain-done step zero a ts e = rw e refl
chain-done step (suc n) a ts e = rw e refl

chain-fails : {A : Type 0} (step : A → List Token → Step A) (n : ℕ) (a : A) (ts : List Token) (deep : Bool)
    (us : List Token) → step a ts ≡ Fails deep us → chain step n a ts ≡ Faults deep us
unfolding chain
chain-fails step zero a ts deep us e = rw e refl
chain-fails step (suc n) a ts deep us e = rw e refl

chain-goes : {A : Type 0} (step : A → List Token → Step A) (n : ℕ) (a b : A) (ts rest : List Token) → step a ts
    ≡ Goes b rest → chain step (suc n) a ts ≡ chain step n b rest
unfolding chain
chain-goes step n a b ts rest e = rw e refl

pub continues_done : {A : Type 0} (step : A → List Token → Step A) (a : A) (ts : List Token) (out : Reads A)
    → Continues step a ts out → step a ts ≡ Done → out ≡ Found a ts
continues_done step a ts out c e = c.is ∙ chain-done step c.fuel a ts e

pub continues_fails : {A : Type 0} (step : A → List Token → Step A) (a : A) (ts : List Token) (out : Reads A)
    (deep : Bool) (us : List Token) → Continues step a ts out → step a ts ≡ Fails deep us → out ≡ Faults deep us
continues_fails step a ts out deep us c e = c.is ∙ chain-fails step c.fuel a ts deep us e

goes_on : {A : Type 0} (step : A → List Token → Step A) (n : ℕ) (a b : A) (ts rest : List Token) (out : Reads A)
    → length ts ≤ n → out ≡ chain step n a ts → step a ts ≡ Goes b rest → length rest < length ts
    → Continues step b rest out
goes_on step zero a b ts rest out enough is e less = absurd (omega arith)
goes_on step (suc n) a b ts rest out enough is e less =
    record { fuel = n; enough = omega arith; is = is ∙ chain-goes step n a b ts rest e }

pub continues_goes : {A : Type 0} (step : A → List Token → Step A) (a b : A) (ts rest : List Token) (out : Reads A)
    → Continues step a ts out → step a ts ≡ Goes b rest → length rest < length ts → Continues step b rest out
continues_goes step a b ts rest out c e less = goes_on step c.fuel a b ts rest out c.enough c.is e less

-- a first part, and a chain behind it
pub continues_from : {A : Type 0} (step : A → List Token → Step A) (reads : Reads A) (a : A) (ts : List Token) → reads
    ≡ Found a ts → Continues step a ts (then_read reads (chained step))
continues_from step reads a ts e = (let f : then_read reads (chained step) ≡ chain step (length ts) a ts = rw e refl in
    record { fuel = length ts; enough = omega arith; is = f })

-- a token that is not too deep
pub above_low : {A : Type 0} (part height : ℕ) (t : Token) (ts : List Token) (r : Reads A) → part < height
    → above part height t ts r ≡ r
above_low part height t ts r h = (let e : ltb part height ≡ true = lt-ltb part height h in rw e refl)
