-- What more height changes: what was found is found, a fault that is not of height stays, and one of height moves on.
-- With it, that no more tokens are left than there were.
use Rattle.std.proofs.Common.{◌≡◌, ℕ, zero, suc, ◌≤◌, ◌<◌, Bool, true, false, List, ◌∷◌, ◌++◌, length}
use Rattle.std.proofs.Common.{Some, None, ltb, if◌then◌else◌, refl, ap, sym, subst, arith}
use Rattle.std.proofs.lemmas.List.{length-append}
use Rattle.pcc_base.specs.declared.span.Span.{Span}
use Rattle.pcc_base.specs.declared.keyword.Keyword.{Keyword}
use Rattle.c_lex.specs.declared.token.Token.{Token}
use Rattle.c_lex.specs.declared.token.Punct.{Punct}
use Rattle.c_syntax.specs.Marks.{mark, word}
use Rattle.c_grammar.specs.Taking.{take_mark, take_word}
use Rattle.c_grammar.specs.Chains.{Step, Done, Fails, Goes, Takes, Reads, Found, Faults, needed, above, then_read}
use Rattle.c_grammar.specs.Chains.{then_step, chain, chain_on}
use Rattle.c_grammar.specs.Taking.{read_mark, read_word}
use Rattle.c_grammar.specs.Laws.{Past, RisesTo}
use Rattle.c_grammar.proofs.Chains.{above_low}
use Rattle.c_grammar.proofs.Sound.{Holds, HoldsTaken, HoldsStep, mark_taken, word_taken}

-- Where W holds, the one reading rises to the other; and the other leaves no more than these tokens.
pub record Rises {A : Type 0} (W : Type 0) (ts : List Token) (o q : Reads A) : Type 0 where
  pub rises : W → RisesTo o q
  pub onward : (xs : List Token) → length ts < length xs → Past xs q

-- a step leaves fewer tokens than these
abbrev pub PastStep : {A : Type 0} → List Token → Step A → Type 0
PastStep xs Done = ⊥
PastStep xs (Fails deep us) = length us < length xs
PastStep xs (Goes a us) = length us < length xs

-- or it is the end
abbrev pub Moves : {A : Type 0} → List Token → Step A → Type 0
Moves xs Done = Unit {0}
Moves xs (Fails deep us) = length us < length xs
Moves xs (Goes a us) = length us < length xs

abbrev pub StepRisesTo : {A : Type 0} → Step A → Step A → Type 0
StepRisesTo Done z = z ≡ Done
StepRisesTo (Fails false us) z = z ≡ Fails false us
StepRisesTo (Fails true us) z = PastStep us z
StepRisesTo (Goes a us) z = z ≡ Goes a us

-- a step that is not the end
pub record StepRises {A : Type 0} (W : Type 0) (ts : List Token) (s z : Step A) : Type 0 where
  pub rises : W → StepRisesTo s z
  pub onward : (xs : List Token) → length ts < length xs → PastStep xs z

pub record TurnRises {A : Type 0} (W : Type 0) (ts : List Token) (s z : Step A) : Type 0 where
  pub rises : W → StepRisesTo s z
  pub onward : (xs : List Token) → length ts < length xs → Moves xs z

-- ---- one reading behind another

pub past_then : {A B : Type 0} (xs : List Token) (q : Reads A) (g : A → List Token → Reads B) → Past xs q
    → ((a : A) (us : List Token) → length us < length xs → Past xs (g a us)) → Past xs (then_read q g)
past_then xs (Found a us) g p h = h a us p
past_then xs (Faults deep us) g p h = p

past_step : {A B : Type 0} (xs : List Token) (q : Reads A) (g : A → List Token → Step B) → Past xs q
    → ((a : A) (us : List Token) → length us < length xs → PastStep xs (g a us)) → PastStep xs (then_step q g)
past_step xs (Found a us) g p h = h a us p
past_step xs (Faults deep us) g p h = p

-- where something is known of what was found
pub then_low : {A B W : Type 0} {ts : List Token} {o q : Reads A} {f g : A → List Token → Reads B}
    (P : A → List Token → Type 0) → (W → Holds P o) → Rises W ts o q
    → ((a : A) (us : List Token) → Rises (W × P a us) us (f a us) (g a us))
    → Rises W ts (then_read o f) (then_read q g)
then_low {A} {B} {W} {ts} {o} {q} {f} {g} P h r next =
    record {
      rises = λ w. by o q w (h w) (r.rises w);
      onward = λ xs l. past_then xs q g (r.onward xs l) (λ a us m. (next a us).onward xs m);
    }
  where
    by : (o q : Reads A) → W → Holds P o → RisesTo o q → RisesTo (then_read o f) (then_read q g)
    by (Found a us) q w h e = subst (λ x. RisesTo (f a us) (then_read x g)) (sym e) ((next a us).rises (w, h))
    by (Faults false us) q w h e = ap (λ x. then_read x g) e
    by (Faults true us) q w h e = past_then us q g e (λ a vs m. (next a vs).onward us m)

pub then_rises : {A B W : Type 0} {ts : List Token} {o q : Reads A} {f g : A → List Token → Reads B} → Rises W ts o q
    → ((a : A) (us : List Token) → Rises W us (f a us) (g a us)) → Rises W ts (then_read o f) (then_read q g)
then_rises {A} {B} {W} {ts} {o} {q} {f} {g} r next =
    record {
      rises = λ w. by o q w (r.rises w);
      onward = λ xs l. past_then xs q g (r.onward xs l) (λ a us m. (next a us).onward xs m);
    }
  where
    by : (o q : Reads A) → W → RisesTo o q → RisesTo (then_read o f) (then_read q g)
    by (Found a us) q w e = subst (λ x. RisesTo (f a us) (then_read x g)) (sym e) ((next a us).rises w)
    by (Faults false us) q w e = ap (λ x. then_read x g) e
    by (Faults true us) q w e = past_then us q g e (λ a vs m. (next a vs).onward us m)

pub step_rises : {A B W : Type 0} {ts : List Token} {o q : Reads A} {f g : A → List Token → Step B} → Rises W ts o q
    → ((a : A) (us : List Token) → StepRises W us (f a us) (g a us)) → StepRises W ts (then_step o f) (then_step q g)
step_rises {A} {B} {W} {ts} {o} {q} {f} {g} r next =
    record {
      rises = λ w. by o q w (r.rises w);
      onward = λ xs l. past_step xs q g (r.onward xs l) (λ a us m. (next a us).onward xs m);
    }
  where
    by : (o q : Reads A) → W → RisesTo o q → StepRisesTo (then_step o f) (then_step q g)
    by (Found a us) q w e = subst (λ x. StepRisesTo (f a us) (then_step x g)) (sym e) ((next a us).rises w)
    by (Faults false us) q w e = ap (λ x. then_step x g) e
    by (Faults true us) q w e = past_step us q g e (λ a vs m. (next a vs).onward us m)

-- ---- what rests on no height

pub found : {A W : Type 0} (a : A) (us : List Token) → Rises W us (Found a us) (Found a us)
found a us = record { rises = λ w. refl; onward = λ xs l. l }

pub faults : {A W : Type 0} (us : List Token) → Rises {A = A} W us (Faults false us) (Faults false us)
faults us = record { rises = λ w. refl; onward = λ xs l. l }

pub goes : {A W : Type 0} (a : A) (us : List Token) → StepRises W us (Goes a us) (Goes a us)
goes a us = record { rises = λ w. refl; onward = λ xs l. l }

pub turn_done : {A W : Type 0} (us : List Token) → TurnRises {A = A} W us Done Done
turn_done us = record { rises = λ w. refl; onward = λ xs l. tt }

-- behind some tokens
pub longer : {A W : Type 0} {us : List Token} {o q : Reads A} (ts : List Token) → length us ≤ length ts
    → Rises W us o q → Rises W ts o q
longer ts le r = record { rises = r.rises; onward = λ xs l. r.onward xs (omega (arith, le, l)) }

pub behind : {A W : Type 0} {t : Token} {us : List Token} {o q : Reads A} (ts : List Token) → ts ≡ t ∷ us
    → Rises W us o q → Rises W ts o q
behind {us = us} ts e r = (let f : length ts ≡ suc (length us) = ap length e in longer ts (omega (arith, f)) r)

pub behind_row : {A W : Type 0} {us : List Token} {o q : Reads A} (ts row : List Token) → ts ≡ row ++ us
    → Rises W us o q → Rises W ts o q
behind_row {us = us} ts row e r =
    (let f : length ts ≡ length (row ++ us) = ap length e in
    longer ts (omega (arith, f, length-append row us)) r)

moves_past : {A : Type 0} (xs : List Token) (z : Step A) → PastStep xs z → Moves xs z
moves_past xs Done p = absurd p
moves_past xs (Fails deep us) p = p
moves_past xs (Goes a us) p = p

pub turn : {A W : Type 0} {us : List Token} {s z : Step A} (ts : List Token) → length us ≤ length ts
    → StepRises W us s z → TurnRises W ts s z
turn {z = z} ts le r =
    record { rises = r.rises; onward = λ xs l. moves_past xs z (r.onward xs (omega (arith, le, l))) }

pub turn_behind : {A W : Type 0} {t : Token} {us : List Token} {s z : Step A} (ts : List Token) → ts ≡ t ∷ us
    → StepRises W us s z → TurnRises W ts s z
turn_behind {us = us} ts e r = (let f : length ts ≡ suc (length us) = ap length e in turn ts (omega (arith, f)) r)

pub mark_rises : {W : Type 0} (m : Punct) (ts : List Token) → Rises W ts (read_mark m ts) (read_mark m ts)
mark_rises {W} m ts = under (take_mark m ts) (mark_taken m ts)
  where
    under : (o : Takes Span) → HoldsTaken (λ at us. ts ≡ mark m at ∷ us) o → Rises W ts (needed ts o) (needed ts o)
    under None h = faults ts
    under (Some (at, us)) h = behind ts h (found at us)

pub word_rises : {W : Type 0} (m : Keyword) (ts : List Token) → Rises W ts (read_word m ts) (read_word m ts)
word_rises {W} m ts = under (take_word m ts) (word_taken m ts)
  where
    under : (o : Takes Span) → HoldsTaken (λ at us. ts ≡ word m at ∷ us) o → Rises W ts (needed ts o) (needed ts o)
    under None h = faults ts
    under (Some (at, us)) h = behind ts h (found at us)

-- ---- heights

pub past_above : {A : Type 0} (xs : List Token) (part height : ℕ) (t : Token) (ts : List Token) (q : Reads A)
    → part < height → Past xs q → Past xs (above part height t ts q)
past_above xs part height t ts q l p = subst (λ x. Past xs x) (sym (above_low part height t ts q l)) p

-- behind a token that makes a node above a part no higher than the level
pub above_rises : {A W : Type 0} {r q : Reads A} (part h g : ℕ) (t : Token) (ts : List Token) → (W → part ≤ h)
    → (W → h < g) → Rises W ts r q → Rises W (t ∷ ts) (above part h t ts r) (above part g t ts q)
above_rises {A} {W} {r} {q} part h g t ts low less all =
    record {
      rises = λ w.
          (let l : part < g = omega (arith, low w, less w) in
          subst (λ x. RisesTo (above part h t ts r) x) (sym (above_low part g t ts q l)) (by w (ltb part h)));
      onward = λ xs l. on xs l (ltb part g);
    }
  where
    by : W → (x : Bool) → RisesTo (if x then r else Faults true (t ∷ ts)) q
    by w true = all.rises w
    by w false = all.onward (t ∷ ts) (omega arith)

    on : (xs : List Token) → length (t ∷ ts) < length xs → (x : Bool) → Past xs (if x then q else Faults true (t ∷ ts))
    on xs l true = all.onward xs (omega (arith, l))
    on xs l false = l

-- ---- loops

past_on : {A : Type 0} (xs : List Token) (z : Step A) (next : A → List Token → Reads A) (a : A) (ts : List Token)
    → PastStep xs z → ((b : A) (us : List Token) → length us < length xs → Past xs (next b us))
    → Past xs (chain_on z next a ts)
past_on xs Done next a ts p h = absurd p
past_on xs (Fails deep us) next a ts p h = p
past_on xs (Goes b us) next a ts p h = h b us p

moves_on : {A : Type 0} (xs : List Token) (z : Step A) (next : A → List Token → Reads A) (a : A) (ts : List Token)
    → length ts < length xs → Moves xs z → ((b : A) (us : List Token) → length us < length xs → Past xs (next b us))
    → Past xs (chain_on z next a ts)
moves_on xs Done next a ts l p h = l
moves_on xs (Fails deep us) next a ts l p h = p
moves_on xs (Goes b us) next a ts l p h = h b us p

rises_on : {A : Type 0} (I : A → List Token → Type 0) (s z : Step A) (next more : A → List Token → Reads A) (a : A)
    (ts : List Token) → HoldsStep I s → StepRisesTo s z
    → ((b : A) (us : List Token) → I b us → RisesTo (next b us) (more b us))
    → ((b : A) (us xs : List Token) → length us < length xs → Past xs (more b us))
    → RisesTo (chain_on s next a ts) (chain_on z more a ts)
rises_on I Done z next more a ts k e g p = ap (λ x. chain_on x more a ts) e
rises_on I (Fails false us) z next more a ts k e g p = ap (λ x. chain_on x more a ts) e
rises_on I (Fails true us) z next more a ts k e g p = past_on us z more a ts e (λ b vs l. p b vs us l)
rises_on I (Goes b us) z next more a ts k e g p =
    subst (λ x. RisesTo (next b us) (chain_on x more a ts)) (sym e) (g b us k)

chain_onward : {A : Type 0} (more : A → List Token → Step A)
    → ((a : A) (ts xs : List Token) → length ts < length xs → Moves xs (more a ts)) → (n : ℕ) (a : A)
    (ts xs : List Token) → length ts < length xs → Past xs (chain more n a ts)
unfolding chain
chain_onward more p zero a ts xs l =
    moves_on xs (more a ts) (λ b us. Faults false us) a ts l (p a ts xs l) (λ b us m. m)
chain_onward more p (suc n) a ts xs l =
    moves_on xs (more a ts) (chain more n) a ts l (p a ts xs l) (λ b us m. chain_onward more p n b us xs m)

chain_rises_to : {A : Type 0} (I : A → List Token → Type 0) (step more : A → List Token → Step A)
    → ((a : A) (ts : List Token) → I a ts → HoldsStep I (step a ts))
    → ((a : A) (ts : List Token) → I a ts → StepRisesTo (step a ts) (more a ts))
    → ((a : A) (ts xs : List Token) → length ts < length xs → Moves xs (more a ts)) → (n : ℕ) (a : A)
    (ts : List Token) → I a ts → RisesTo (chain step n a ts) (chain more n a ts)
unfolding chain
chain_rises_to I step more keeps r p zero a ts i =
    rises_on I (step a ts) (more a ts) (λ b us. Faults false us) (λ b us. Faults false us) a ts (keeps a ts i)
    (r a ts i) (λ b us j. refl) (λ b us xs l. l)
chain_rises_to I step more keeps r p (suc n) a ts i =
    rises_on I (step a ts) (more a ts) (chain step n) (chain more n) a ts (keeps a ts i) (r a ts i)
    (λ b us j. chain_rises_to I step more keeps r p n b us j) (λ b us xs l. chain_onward more p n b us xs l)

-- a loop, where something is known of what was read so far
pub chain_low : {A W : Type 0} (I : A → List Token → Type 0) (step more : A → List Token → Step A)
    → (W → (a : A) (ts : List Token) → I a ts → HoldsStep I (step a ts))
    → ((a : A) (ts : List Token) → TurnRises (W × I a ts) ts (step a ts) (more a ts)) → (n : ℕ) (a : A)
    (ts : List Token) → (W → I a ts) → Rises W ts (chain step n a ts) (chain more n a ts)
chain_low I step more keeps r n a ts i =
    record {
      rises = λ w. chain_rises_to I step more (keeps w) (λ b us j. (r b us).rises (w, j))
          (λ b us xs l. (r b us).onward xs l) n a ts (i w);
      onward = λ xs l. chain_onward more (λ b us ys m. (r b us).onward ys m) n a ts xs l;
    }

any_step : {A : Type 0} (s : Step A) → HoldsStep (λ a us. Unit {0}) s
any_step Done = tt
any_step (Fails deep us) = tt
any_step (Goes a us) = tt

pub chain_rises : {A W : Type 0} (step more : A → List Token → Step A)
    → ((a : A) (ts : List Token) → TurnRises W ts (step a ts) (more a ts)) → (n : ℕ) (a : A) (ts : List Token)
    → Rises W ts (chain step n a ts) (chain more n a ts)
chain_rises step more r n a ts =
    record {
      rises = λ w. chain_rises_to (λ b us. Unit {0}) step more (λ b us j. any_step (step b us))
          (λ b us j. (r b us).rises w) (λ b us xs l. (r b us).onward xs l) n a ts tt;
      onward = λ xs l. chain_onward more (λ b us ys m. (r b us).onward ys m) n a ts xs l;
    }
