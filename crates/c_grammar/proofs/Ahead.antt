-- What a reading answers rests on the tokens that it took and on the next one alone.
use Rattle.std.proofs.Common.{◌≡◌, ℕ, zero, suc, ◌≤◌, ◌<◌, Bool, true, false, List, [], ◌∷◌, ◌++◌, length}
use Rattle.std.proofs.Common.{Some, None, ltb, if◌then◌else◌, refl, ap, sym, ◌∙◌, subst, arith, append_assoc}
use Rattle.std.proofs.Common.{length-append}
use Rattle.c_lex.specs.declared.token.Token.{Token}
use Rattle.c_grammar.specs.Taking.{with_front}
use Rattle.c_grammar.specs.Chains.{Step, Done, Fails, Goes, Takes, Reads, Found, Faults, then_read, then_step}
use Rattle.c_grammar.specs.Chains.{above}
use Rattle.c_grammar.specs.Chains.{chain, chain_on, chained}
use Rattle.c_grammar.specs.Laws.{Same, Kept, Ahead}

-- behind tokens that are the same, the next ones are the same
pub same_behind : (took us w : List Token) → Same us w → Same (took ++ us) (took ++ w)
same_behind [] us w s = s
same_behind (t ∷ ts) us w s = refl

pub same_refl : (ts : List Token) → Same ts ts
same_refl [] = tt
same_refl (t ∷ ts) = refl

pub found_ahead : {A : Type 0} (a : A) → Ahead (λ xs. Found a xs)
found_ahead a ts = ([], refl, λ w s. refl)

pub faults_ahead : {A : Type 0} (deep : Bool) → Ahead {A = A} (λ xs. Faults deep xs)
faults_ahead deep ts = ([], refl, λ w s. refl)

-- ---- one behind the other

behind : {A B : Type 0} (r : List Token → Reads A) (f : A → List Token → Reads B) (ts us : List Token) (a : A)
    (took : List Token) → (ts ≡ took ++ us) → ((w : List Token) → Same us w → r (took ++ w) ≡ Found a w)
    → (out : Reads B) → Kept (f a) us out → Kept (λ xs. then_read (r xs) f) ts out
behind r f ts us a took e same (Found b vs) k = (
  took ++ k.0,
  e ∙ (ap (λ x. took ++ x) k.1 ∙ sym (append_assoc took k.0 vs)),
  λ w s. ap (λ x. then_read (r x) f) (append_assoc took k.0 w)
      ∙ (ap (λ o. then_read o f) (same (k.0 ++ w) (subst (λ x. Same x (k.0 ++ w)) (sym k.1) (same_behind k.0 vs w s)))
      ∙ k.2 w s),
)
behind r f ts us a took e same (Faults d vs) k = (
  took ++ k.0,
  e ∙ (ap (λ x. took ++ x) k.1 ∙ sym (append_assoc took k.0 vs)),
  λ w s. ap (λ x. then_read (r x) f) (append_assoc took k.0 w)
      ∙ (ap (λ o. then_read o f) (same (k.0 ++ w) (subst (λ x. Same x (k.0 ++ w)) (sym k.1) (same_behind k.0 vs w s)))
      ∙ k.2 w s),
)

then_kept : {A B : Type 0} (r : List Token → Reads A) (f : A → List Token → Reads B) (ts : List Token) (out : Reads A)
    → Kept r ts out → ((a : A) → Ahead (f a)) → Kept (λ xs. then_read (r xs) f) ts (then_read out f)
then_kept r f ts (Found a us) k p = behind r f ts us a k.0 k.1 k.2 (f a us) (p a us)
then_kept r f ts (Faults d us) k p = (k.0, k.1, λ w s. ap (λ o. then_read o f) (k.2 w s))

pub ahead_then : {A B : Type 0} (r : List Token → Reads A) (f : A → List Token → Reads B) → Ahead r
    → ((a : A) → Ahead (f a)) → Ahead (λ ts. then_read (r ts) f)
ahead_then r f pr pf ts = then_kept r f ts (r ts) (pr ts) pf

-- ---- alike readings

alike_out : {A : Type 0} (r q : List Token → Reads A) (ts : List Token)
    → ((xs : List Token) → Same ts xs → r xs ≡ q xs) → (out : Reads A) → Kept q ts out → Kept r ts out
alike_out r q ts e (Found a us) k = (
  k.0,
  k.1,
  λ w s.
      e (k.0 ++ w) (subst (λ x. Same x (k.0 ++ w)) (sym k.1) (same_behind k.0 us w s)) ∙ k.2 w s,
)
alike_out r q ts e (Faults d us) k = (
  k.0,
  k.1,
  λ w s.
      e (k.0 ++ w) (subst (λ x. Same x (k.0 ++ w)) (sym k.1) (same_behind k.0 us w s)) ∙ k.2 w s,
)

-- what another reading reads, wherever the next token is the same
pub kept_alike : {A : Type 0} (r q : List Token → Reads A) (ts : List Token)
    → ((xs : List Token) → Same ts xs → r xs ≡ q xs) → Kept q ts (q ts) → Kept r ts (r ts)
kept_alike r q ts e p = subst (λ o. Kept r ts o) (sym (e ts (same_refl ts))) (alike_out r q ts e (q ts) p)

pub ahead_same : {A : Type 0} (r q : List Token → Reads A) → ((xs : List Token) → r xs ≡ q xs) → Ahead q → Ahead r
ahead_same r q e p ts = kept_alike r q ts (λ xs s. e xs) (p ts)

-- what another reading reads from this token on
pub token_alike : {A : Type 0} (r q : List Token → Reads A) (t : Token) (us : List Token)
    → ((xs : List Token) → r (t ∷ xs) ≡ q (t ∷ xs)) → Kept q (t ∷ us) (q (t ∷ us)) → Kept r (t ∷ us) (r (t ∷ us))
token_alike r q t us e p = kept_alike r q (t ∷ us) all p
  where
    all : (xs : List Token) → Same (t ∷ us) xs → r xs ≡ q xs
    all [] s = absurd s
    all (v ∷ w) s = subst (λ x. r (x ∷ w) ≡ q (x ∷ w)) s (e w)

pub nothing_alike : {A : Type 0} (r q : List Token → Reads A) → r [] ≡ q [] → Kept q [] (q []) → Kept r [] (r [])
nothing_alike r q e p = kept_alike r q [] all p
  where
    all : (xs : List Token) → Same [] xs → r xs ≡ q xs
    all [] s = e
    all (v ∷ w) s = absurd s

-- ---- behind a first token

token_more : {A : Type 0} (r : List Token → Reads A) (t : Token) (us : List Token) (out : Reads A)
    → Kept (λ xs. r (t ∷ xs)) us out → Kept r (t ∷ us) out
token_more r t us (Found a vs) k = (t ∷ k.0, ap (λ x. t ∷ x) k.1, k.2)
token_more r t us (Faults d vs) k = (t ∷ k.0, ap (λ x. t ∷ x) k.1, k.2)

-- what is read behind this token, or else it fails at the token
pub data Behind (A : Type 0) (t : Token) (g : List Token → Reads A) : Type 0 where
  Reading : (ahead : Ahead g) → Behind A t g
  Stuck : (deep : Bool) (is : (xs : List Token) → g xs ≡ Faults deep (t ∷ xs)) → Behind A t g

pub behind_same : {A : Type 0} (t : Token) (g h : List Token → Reads A) → ((xs : List Token) → h xs ≡ g xs)
    → Behind A t g → Behind A t h
behind_same t g h e (Reading p) = Reading (ahead_same h g e p)
behind_same t g h e (Stuck deep is) = Stuck deep (λ xs. e xs ∙ is xs)

pub behind_kept : {A : Type 0} (r : List Token → Reads A) (t : Token) (us : List Token)
    → Behind A t (λ xs. r (t ∷ xs)) → Kept r (t ∷ us) (r (t ∷ us))
behind_kept r t us (Reading p) = token_more r t us (r (t ∷ us)) (p us)
behind_kept r t us (Stuck deep is) = token_alike r (λ xs. Faults deep xs) t us is (faults_ahead deep (t ∷ us))

-- behind a token that makes a node above a part that is so high
pub behind_above : {A B : Type 0} (part height : ℕ) (t : Token) (r : List Token → Reads A)
    (f : A → List Token → Reads B) → Ahead r → ((a : A) → Ahead (f a))
    → Behind B t (λ us. then_read (above part height t us (r us)) f)
behind_above {A} {B} part height t r f p q = by (ltb part height)
  where
    by : (b : Bool) → Behind B t (λ us. then_read (if b then r us else Faults true (t ∷ us)) f)
    by true = Reading (ahead_then r f p q)
    by false = Stuck true (λ xs. refl)

-- ---- a choice by the next token

-- what is taken of a kind is one token, or none
pub data Fitting (K : Type 0) (spell : K → Token) (take : List Token → Takes K) (t : Token) : Type 0 where
  Misses : (misses : (us : List Token) → take (t ∷ us) ≡ None) → Fitting K spell take t
  Fits : (k : K) (is : t ≡ spell k) (takes : (us : List Token) → take (t ∷ us) ≡ Some (k, us)) → Fitting K spell take t

pub record Single (K : Type 0) (spell : K → Token) (take : List Token → Takes K) : Type 0 where
  pub nothing : take [] ≡ None
  pub token : (t : Token) → Fitting K spell take t

fits_behind : {K A : Type 0} (spell : K → Token) (take : List Token → Takes K) (f : Takes K → List Token → Reads A)
    (t : Token) (k : K) → t ≡ spell k → ((us : List Token) → take (t ∷ us) ≡ Some (k, us))
    → Behind A (spell k) (λ us. f (Some (k, us)) (spell k ∷ us)) → Behind A t (λ us. f (take (t ∷ us)) (t ∷ us))
fits_behind {K} {A} spell take f t k is e q =
    behind_same t (λ us. f (Some (k, us)) (t ∷ us)) (λ us. f (take (t ∷ us)) (t ∷ us))
    (λ xs. ap (λ o. f o (t ∷ xs)) (e xs)) (subst (λ x. Behind A x (λ us. f (Some (k, us)) (x ∷ us))) (sym is) q)

pub ahead_choice : {K A : Type 0} (spell : K → Token) (take : List Token → Takes K) → Single K spell take
    → (f : Takes K → List Token → Reads A) → Ahead (λ ts. f None ts)
    → ((k : K) → Behind A (spell k) (λ us. f (Some (k, us)) (spell k ∷ us))) → Ahead (λ ts. f (take ts) ts)
ahead_choice spell take s f p q [] =
    nothing_alike (λ xs. f (take xs) xs) (λ xs. f None xs) (ap (λ o. f o []) s.nothing) (p [])
ahead_choice {K} {A} spell take s f p q (t ∷ us) = under (s.token t)
  where
    under : Fitting K spell take t → Kept (λ xs. f (take xs) xs) (t ∷ us) (f (take (t ∷ us)) (t ∷ us))
    under (Misses e) = token_alike (λ xs. f (take xs) xs) (λ xs. f None xs) t us (λ xs. ap (λ o. f o (t ∷ xs)) (e xs))
        (p (t ∷ us))
    under (Fits k is e) = behind_kept (λ xs. f (take xs) xs) t us (fits_behind spell take f t k is e (q k))

-- where such a token leaves all as it is
pub ahead_unless : {K A : Type 0} (spell : K → Token) (take : List Token → Takes K) → Single K spell take
    → (f : Takes K → List Token → Reads A) (q : List Token → Reads A) → Ahead (λ ts. f None ts) → Ahead q
    → ((k : K) (us ts : List Token) → f (Some (k, us)) ts ≡ q ts) → Ahead (λ ts. f (take ts) ts)
ahead_unless spell take s f q p pq e [] =
    nothing_alike (λ xs. f (take xs) xs) (λ xs. f None xs) (ap (λ o. f o []) s.nothing) (p [])
ahead_unless {K} {A} spell take s f q p pq e (t ∷ us) = under (s.token t)
  where
    under : Fitting K spell take t → Kept (λ xs. f (take xs) xs) (t ∷ us) (f (take (t ∷ us)) (t ∷ us))
    under (Misses h) = token_alike (λ xs. f (take xs) xs) (λ xs. f None xs) t us (λ xs. ap (λ o. f o (t ∷ xs)) (h xs))
        (p (t ∷ us))
    under (Fits k is h) = token_alike (λ xs. f (take xs) xs) q t us
        (λ xs. ap (λ o. f o (t ∷ xs)) (h xs) ∙ e k xs (t ∷ xs)) (pq (t ∷ us))

-- ---- rows of tokens

pub data RowFit (K : Type 0) (take : List Token → List K × List Token) (t : Token) : Type 0 where
  Ends : (ends : (us : List Token) → take (t ∷ us) ≡ ([], t ∷ us)) → RowFit K take t
  More : (k : K) (more : (us : List Token) → take (t ∷ us) ≡ with_front k (take us)) → RowFit K take t

-- a row that ends at the first token of another kind
pub record Row (K : Type 0) (take : List Token → List K × List Token) : Type 0 where
  pub nothing : take [] ≡ ([], [])
  pub token : (t : Token) → RowFit K take t

abbrev pub row_of : {R : Type 0} → (List Token → R × List Token) → List Token → Reads R
row_of take ts = Found (take ts).0 (take ts).1

pub ahead_row : {K : Type 0} (take : List Token → List K × List Token) → Row K take → Ahead (row_of take)
ahead_row take s [] =
    nothing_alike (row_of take) (λ xs. Found [] xs) (ap (λ r. Found r.0 r.1) s.nothing) (found_ahead [] [])
ahead_row {K} take s (t ∷ ts) = under (s.token t) (ahead_row take s ts)
  where
    under : RowFit K take t → Kept (row_of take) ts (row_of take ts)
        → Kept (row_of take) (t ∷ ts) (row_of take (t ∷ ts))
    under (Ends e) k = token_alike (row_of take) (λ xs. Found [] xs) t ts (λ xs. ap (λ r. Found r.0 r.1) (e xs))
        (found_ahead [] (t ∷ ts))
    under (More x e) k = token_more (row_of take) t ts (row_of take (t ∷ ts))
        (kept_alike (λ xs. row_of take (t ∷ xs)) (λ xs. then_read (row_of take xs) (λ a us. Found (x ∷ a) us)) ts
        (λ xs s. ap (λ r. Found r.0 r.1) (e xs))
        (then_kept (row_of take) (λ a us. Found (x ∷ a) us) ts (row_of take ts) k (λ a. found_ahead (x ∷ a))))

-- a choice by whether there is such a row
pub ahead_by_row : {K A : Type 0} (take : List Token → List K × List Token) → Row K take
    → (f : List K → List Token → Reads A) (q : List Token → Reads A) → Ahead (λ ts. f [] ts) → Ahead q
    → ((k : K) (ks : List K) (ts : List Token) → f (k ∷ ks) ts ≡ q ts) → Ahead (λ ts. f (take ts).0 ts)
ahead_by_row take s f q p pq e [] =
    nothing_alike (λ xs. f (take xs).0 xs) (λ xs. f [] xs) (ap (λ r. f r.0 []) s.nothing) (p [])
ahead_by_row {K} {A} take s f q p pq e (t ∷ us) = under (s.token t)
  where
    under : RowFit K take t → Kept (λ xs. f (take xs).0 xs) (t ∷ us) (f (take (t ∷ us)).0 (t ∷ us))
    under (Ends h) = token_alike (λ xs. f (take xs).0 xs) (λ xs. f [] xs) t us
        (λ xs. ap (λ r. f r.0 (t ∷ xs)) (h xs)) (p (t ∷ us))
    under (More k h) = token_alike (λ xs. f (take xs).0 xs) q t us
        (λ xs. ap (λ r. f r.0 (t ∷ xs)) (h xs) ∙ e k (take xs).0 (t ∷ xs)) (pq (t ∷ us))

-- ---- how many tokens are left

-- what is read leaves no more tokens than there were
abbrev pub Onward : {A : Type 0} → List Token → Reads A → Type 0
Onward ts (Found a us) = length us ≤ length ts
Onward ts (Faults deep us) = length us ≤ length ts

onward : {A : Type 0} (r : List Token → Reads A) (ts : List Token) (out : Reads A) → Kept r ts out → Onward ts out
onward r ts (Found a us) k =
    (let e : length ts ≡ length (k.0 ++ us) = ap length k.1 in omega (arith, length-append k.0 us))
onward r ts (Faults d us) k =
    (let e : length ts ≡ length (k.0 ++ us) = ap length k.1 in omega (arith, length-append k.0 us))

pub goes_onward : {A : Type 0} (r : List Token → Reads A) → Ahead r → (ts : List Token) → Onward ts (r ts)
goes_onward r p ts = onward r ts (r ts) (p ts)

-- what is found leaves fewer
abbrev pub Eaten : {A : Type 0} → List Token → Reads A → Type 0
Eaten ts (Found a us) = length us < length ts
Eaten ts (Faults deep us) = Unit {0}

abbrev pub Eats : {A : Type 0} → (List Token → Reads A) → Type 0
Eats r = (ts : List Token) → Eaten ts (r ts)

eaten_first : {A : Type 0} (ts us : List Token) (out : Reads A) → length us < length ts → Onward us out → Eaten ts out
eaten_first ts us (Found a vs) l o = omega arith
eaten_first ts us (Faults d vs) l o = tt

eaten_last : {A : Type 0} (ts us : List Token) (out : Reads A) → length us ≤ length ts → Eaten us out → Eaten ts out
eaten_last ts us (Found a vs) l o = omega arith
eaten_last ts us (Faults d vs) l o = tt

-- the first of two takes a token
pub eats_first : {A B : Type 0} (r : List Token → Reads A) (f : A → List Token → Reads B) → Eats r
    → ((a : A) → Ahead (f a)) → Eats (λ ts. then_read (r ts) f)
eats_first {A} {B} r f h p ts = by (r ts) (h ts)
  where
    by : (out : Reads A) → Eaten ts out → Eaten ts (then_read out f)
    by (Found a us) l = eaten_first ts us (f a us) l (goes_onward (f a) (p a) us)
    by (Faults d us) l = tt

-- the second one does
pub eats_last : {A B : Type 0} (r : List Token → Reads A) (f : A → List Token → Reads B) → Ahead r
    → ((a : A) → Eats (f a)) → Eats (λ ts. then_read (r ts) f)
eats_last {A} {B} r f p h ts = by (r ts) (goes_onward r p ts)
  where
    by : (out : Reads A) → Onward ts out → Eaten ts (then_read out f)
    by (Found a us) l = eaten_last ts us (f a us) l (h a us)
    by (Faults d us) l = tt

eats_token : {A : Type 0} (t : Token) (g : List Token → Reads A) (us : List Token) → Behind A t g
    → Eaten (t ∷ us) (g us)
eats_token t g us (Reading p) = eaten_first (t ∷ us) us (g us) (omega arith) (goes_onward g p us)
eats_token t g us (Stuck deep is) = subst (λ o. Eaten (t ∷ us) o) (sym (is us)) tt

pub eats_choice : {K A : Type 0} (spell : K → Token) (take : List Token → Takes K) → Single K spell take
    → (f : Takes K → List Token → Reads A) → Eats (λ ts. f None ts)
    → ((k : K) → Behind A (spell k) (λ us. f (Some (k, us)) (spell k ∷ us))) → Eats (λ ts. f (take ts) ts)
eats_choice spell take s f h q [] = subst (λ o. Eaten [] (f o [])) (sym s.nothing) (h [])
eats_choice {K} {A} spell take s f h q (t ∷ us) = under (s.token t)
  where
    under : Fitting K spell take t → Eaten (t ∷ us) (f (take (t ∷ us)) (t ∷ us))
    under (Misses e) = subst (λ o. Eaten (t ∷ us) (f o (t ∷ us))) (sym (e us)) (h (t ∷ us))
    under (Fits k is e) = eats_token t (λ xs. f (take (t ∷ xs)) (t ∷ xs)) us (fits_behind spell take f t k is e (q k))

-- ---- steps of a loop

abbrev pub step_of : {A : Type 0} → Reads A → Step A
step_of (Found a us) = Goes a us
step_of (Faults deep us) = Fails deep us

-- a step that goes on takes a token
abbrev pub KeptStep : {A : Type 0} → (List Token → Step A) → List Token → Step A → Type 0
KeptStep r ts Done = (w : List Token) → Same ts w → r w ≡ Done
KeptStep r ts (Fails deep us) = (took : List Token) × (ts ≡ took ++ us)
    × ((w : List Token) → Same us w → r (took ++ w) ≡ Fails deep w)
KeptStep r ts (Goes a us) = (took : List Token) × (ts ≡ took ++ us) × (0 < length took)
    × ((w : List Token) → Same us w → r (took ++ w) ≡ Goes a w)

abbrev pub AheadStep : {A : Type 0} → (List Token → Step A) → Type 0
AheadStep r = (ts : List Token) → KeptStep r ts (r ts)

pub step_then : {A B : Type 0} (r : Reads A) (f : A → List Token → Step B) (h : A → List Token → Reads B)
    → ((a : A) (us : List Token) → f a us ≡ step_of (h a us)) → then_step r f ≡ step_of (then_read r h)
step_then (Found a us) f h e = e a us
step_then (Faults d us) f h e = refl

pub step_done : {A : Type 0} → AheadStep {A = A} (λ ts. Done)
step_done ts w s = refl

step_fails : {A : Type 0} (deep : Bool) → AheadStep {A = A} (λ ts. Fails deep ts)
step_fails deep ts = ([], refl, λ w s. refl)

alike_step : {A : Type 0} (r q : List Token → Step A) (ts : List Token)
    → ((xs : List Token) → Same ts xs → r xs ≡ q xs) → (out : Step A) → KeptStep q ts out → KeptStep r ts out
alike_step r q ts e Done k = (λ w s. e w s ∙ k w s)
alike_step r q ts e (Fails d us) k = (
  k.0,
  k.1,
  λ w s.
      e (k.0 ++ w) (subst (λ x. Same x (k.0 ++ w)) (sym k.1) (same_behind k.0 us w s)) ∙ k.2 w s,
)
alike_step r q ts e (Goes a us) k = (
  k.0,
  k.1,
  k.2,
  λ w s.
      e (k.0 ++ w) (subst (λ x. Same x (k.0 ++ w)) (sym k.1) (same_behind k.0 us w s)) ∙ k.3 w s,
)

step_alike : {A : Type 0} (r q : List Token → Step A) (ts : List Token)
    → ((xs : List Token) → Same ts xs → r xs ≡ q xs) → KeptStep q ts (q ts) → KeptStep r ts (r ts)
step_alike r q ts e p = subst (λ o. KeptStep r ts o) (sym (e ts (same_refl ts))) (alike_step r q ts e (q ts) p)

pub step_same : {A : Type 0} (r q : List Token → Step A) → ((xs : List Token) → r xs ≡ q xs) → AheadStep q
    → AheadStep r
step_same r q e p ts = step_alike r q ts (λ xs s. e xs) (p ts)

pub step_token : {A : Type 0} (r q : List Token → Step A) (t : Token) (us : List Token)
    → ((xs : List Token) → r (t ∷ xs) ≡ q (t ∷ xs)) → KeptStep q (t ∷ us) (q (t ∷ us))
    → KeptStep r (t ∷ us) (r (t ∷ us))
step_token r q t us e p = step_alike r q (t ∷ us) all p
  where
    all : (xs : List Token) → Same (t ∷ us) xs → r xs ≡ q xs
    all [] s = absurd s
    all (v ∷ w) s = subst (λ x. r (x ∷ w) ≡ q (x ∷ w)) s (e w)

pub step_nothing : {A : Type 0} (r q : List Token → Step A) → r [] ≡ q [] → KeptStep q [] (q []) → KeptStep r [] (r [])
step_nothing r q e p = step_alike r q [] all p
  where
    all : (xs : List Token) → Same [] xs → r xs ≡ q xs
    all [] s = e
    all (v ∷ w) s = absurd s

step_more : {A : Type 0} (r : List Token → Step A) (t : Token) (g : List Token → Reads A) (us : List Token)
    → ((xs : List Token) → r (t ∷ xs) ≡ step_of (g xs)) → (out : Reads A) → Kept g us out
    → KeptStep r (t ∷ us) (step_of out)
step_more r t g us e (Found a vs) k =
    (t ∷ k.0, ap (λ x. t ∷ x) k.1, omega arith, λ w s. e (k.0 ++ w) ∙ ap step_of (k.2 w s))
step_more r t g us e (Faults d vs) k = (t ∷ k.0, ap (λ x. t ∷ x) k.1, λ w s. e (k.0 ++ w) ∙ ap step_of (k.2 w s))

step_behind : {A : Type 0} (r : List Token → Step A) (t : Token) (g : List Token → Reads A) (us : List Token)
    → ((xs : List Token) → r (t ∷ xs) ≡ step_of (g xs)) → Behind A t g → KeptStep r (t ∷ us) (r (t ∷ us))
step_behind r t g us e (Reading p) =
    subst (λ o. KeptStep r (t ∷ us) o) (sym (e us)) (step_more r t g us e (g us) (p us))
step_behind r t g us e (Stuck deep is) =
    step_token r (λ xs. Fails deep xs) t us (λ xs. e xs ∙ ap step_of (is xs)) (step_fails deep (t ∷ us))

pub step_choice : {K A : Type 0} (spell : K → Token) (take : List Token → Takes K) → Single K spell take
    → (f : Takes K → List Token → Step A) (g : K → List Token → Reads A) → AheadStep (λ ts. f None ts)
    → ((k : K) (us ts : List Token) → f (Some (k, us)) ts ≡ step_of (g k us)) → ((k : K) → Behind A (spell k) (g k))
    → AheadStep (λ ts. f (take ts) ts)
step_choice spell take s f g p e q [] =
    step_nothing (λ xs. f (take xs) xs) (λ xs. f None xs) (ap (λ o. f o []) s.nothing) (p [])
step_choice {K} {A} spell take s f g p e q (t ∷ us) = under (s.token t)
  where
    under : Fitting K spell take t → KeptStep (λ xs. f (take xs) xs) (t ∷ us) (f (take (t ∷ us)) (t ∷ us))
    under (Misses h) = step_token (λ xs. f (take xs) xs) (λ xs. f None xs) t us (λ xs. ap (λ o. f o (t ∷ xs)) (h xs))
        (p (t ∷ us))
    under (Fits k is h) = step_behind (λ xs. f (take xs) xs) t (g k) us
        (λ xs. ap (λ o. f o (t ∷ xs)) (h xs) ∙ e k xs (t ∷ xs))
        (subst (λ x. Behind A x (g k)) (sym is) (q k))

-- where such a token ends the loop
pub step_until : {K A : Type 0} (spell : K → Token) (take : List Token → Takes K) → Single K spell take
    → (f : Takes K → List Token → Step A) → AheadStep (λ ts. f None ts)
    → ((k : K) (us ts : List Token) → f (Some (k, us)) ts ≡ Done) → AheadStep (λ ts. f (take ts) ts)
step_until spell take s f p e [] =
    step_nothing (λ xs. f (take xs) xs) (λ xs. f None xs) (ap (λ o. f o []) s.nothing) (p [])
step_until {K} {A} spell take s f p e (t ∷ us) = under (s.token t)
  where
    under : Fitting K spell take t → KeptStep (λ xs. f (take xs) xs) (t ∷ us) (f (take (t ∷ us)) (t ∷ us))
    under (Misses h) = step_token (λ xs. f (take xs) xs) (λ xs. f None xs) t us (λ xs. ap (λ o. f o (t ∷ xs)) (h xs))
        (p (t ∷ us))
    under (Fits k is h) = step_token (λ xs. f (take xs) xs) (λ xs. Done) t us
        (λ xs. ap (λ o. f o (t ∷ xs)) (h xs) ∙ e k xs (t ∷ xs)) (step_done (t ∷ us))

-- a step that reads a part, which takes a token
pub step_reads : {A : Type 0} (r : List Token → Reads A) → Ahead r → Eats r → AheadStep (λ ts. step_of (r ts))
step_reads {A} r p h ts = by (r ts) (p ts) (h ts)
  where
    by : (out : Reads A) → Kept r ts out → Eaten ts out → KeptStep (λ xs. step_of (r xs)) ts (step_of out)
    by (Found a us) k l =
        (let e : length ts ≡ length (k.0 ++ us) = ap length k.1 in
        let some : 0 < length k.0 = omega (arith, length-append k.0 us) in
        (k.0, k.1, some, λ w s. ap step_of (k.2 w s)))
    by (Faults d us) k l = (k.0, k.1, λ w s. ap step_of (k.2 w s))

-- ---- loops

abbrev KeptChain : {A : Type 0} → (A → List Token → Step A) → A → List Token → Reads A → Type 0
KeptChain step a ts (Found b us) = (took : List Token) × (ts ≡ took ++ us)
    × ((w : List Token) → Same us w → (m : ℕ) → length (took ++ w) ≤ m → chain step m a (took ++ w) ≡ Found b w)
KeptChain step a ts (Faults d us) = (took : List Token) × (ts ≡ took ++ us)
    × ((w : List Token) → Same us w → (m : ℕ) → length (took ++ w) ≤ m → chain step m a (took ++ w) ≡ Faults d w)

module _ {A : Type 0} (step : A → List Token → Step A) (ahead : (a : A) → AheadStep (step a)) where
  ends : (a : A) (w : List Token) (out : Reads A) (o : Step A) → step a w ≡ o
      → ((next : A → List Token → Reads A) → chain_on o next a w ≡ out) → (m : ℕ) → chain step m a w ≡ out
  unfolding chain
  ends a w out o e c zero =
      ap (λ x. chain_on x (λ b us. Faults false us) a w) e ∙ c (λ b us. Faults false us)
  ends a w out o e c (suc m) = ap (λ x. chain_on x (chain step m) a w) e ∙ c (chain step m)

  goes : (a b : A) (w v : List Token) (out : Reads A) → step a w ≡ Goes b v → length v < length w
      → ((m : ℕ) → length v ≤ m → chain step m b v ≡ out) → (m : ℕ) → length w ≤ m → chain step m a w ≡ out
  unfolding chain
  goes a b w v out e s c zero l = absurd (omega arith)
  goes a b w v out e s c (suc m) l = ap (λ x. chain_on x (chain step m) a w) e ∙ c m (omega arith)

  chain_more : (a b : A) (ts us took : List Token) → (ts ≡ took ++ us) → 0 < length took
      → ((w : List Token) → Same us w → step a (took ++ w) ≡ Goes b w)
      → (out : Reads A) → KeptChain step b us out → KeptChain step a ts out
  chain_more a b ts us took e some same (Found c vs) k = (
    took ++ k.0,
    e ∙ (ap (λ x. took ++ x) k.1 ∙ sym (append_assoc took k.0 vs)),
    λ w s. subst (λ x. (m : ℕ) → length x ≤ m → chain step m a x ≡ Found c w) (sym (append_assoc took k.0 w))
        (goes a b (took ++ (k.0 ++ w)) (k.0 ++ w) (Found c w)
        (same (k.0 ++ w) (subst (λ x. Same x (k.0 ++ w)) (sym k.1) (same_behind k.0 vs w s)))
        (omega (arith, length-append took (k.0 ++ w))) (k.2 w s)),
  )
  chain_more a b ts us took e some same (Faults c vs) k = (
    took ++ k.0,
    e ∙ (ap (λ x. took ++ x) k.1 ∙ sym (append_assoc took k.0 vs)),
    λ w s. subst (λ x. (m : ℕ) → length x ≤ m → chain step m a x ≡ Faults c w) (sym (append_assoc took k.0 w))
        (goes a b (took ++ (k.0 ++ w)) (k.0 ++ w) (Faults c w)
        (same (k.0 ++ w) (subst (λ x. Same x (k.0 ++ w)) (sym k.1) (same_behind k.0 vs w s)))
        (omega (arith, length-append took (k.0 ++ w))) (k.2 w s)),
  )

  from : (a : A) (ts : List Token) (next : A → List Token → Reads A)
      → ((b : A) (us : List Token) → length us < length ts → KeptChain step b us (next b us))
      → (o : Step A) → KeptStep (step a) ts o → KeptChain step a ts (chain_on o next a ts)
  from a ts next h Done k = ([], refl, λ w s m l. ends a w (Found a w) Done (k w s) (λ next. refl) m)
  from a ts next h (Fails d us) k =
      (k.0, k.1, λ w s m l. ends a (k.0 ++ w) (Faults d w) (Fails d w) (k.2 w s) (λ next. refl) m)
  from a ts next h (Goes b us) k =
      (let e : length ts ≡ length (k.0 ++ us) = ap length k.1 in
      let less : length us < length ts = omega (arith, length-append k.0 us, k.2) in
      chain_more a b ts us k.0 k.1 k.2 k.3 (next b us) (h b us less))

  walk : (n : ℕ) (a : A) (ts : List Token) → length ts ≤ n → KeptChain step a ts (chain step n a ts)
  unfolding chain
  walk zero a ts l = from a ts (λ b us. Faults false us) (λ b us less. absurd (omega arith)) (step a ts) (ahead a ts)
  walk (suc n) a ts l = from a ts (chain step n) (λ b us less. walk n b us (omega arith)) (step a ts) (ahead a ts)

  chain_kept : (a : A) (ts : List Token) (out : Reads A) → KeptChain step a ts out → Kept (chained step a) ts out
  chain_kept a ts (Found b us) k = (k.0, k.1, λ w s. k.2 w s (length (k.0 ++ w)) (omega arith))
  chain_kept a ts (Faults d us) k = (k.0, k.1, λ w s. k.2 w s (length (k.0 ++ w)) (omega arith))

  pub ahead_chained : (a : A) → Ahead (chained step a)
  ahead_chained a ts = chain_kept a ts (chained step a ts) (walk (length ts) a ts (omega arith))
