-- What was taken before a fault begins a tree: how that is carried from part to part.
use Rattle.std.proofs.Common.{◌≡◌, ℕ, zero, suc, ◌<◌, ◌⊎◌, Bool, true, false, List, [], ◌∷◌, ◌++◌}
use Rattle.std.proofs.Common.{Some, None, ltb, if◌then◌else◌, refl, ap, sym, ◌∙◌, append_assoc}
use Rattle.std.proofs.lemmas.Bool.{ltb-true}
use Rattle.std.proofs.lemmas.List.{append-nil}
use Rattle.pcc_base.specs.declared.span.Span.{Span}
use Rattle.pcc_base.specs.declared.keyword.Keyword.{Keyword}
use Rattle.c_lex.specs.declared.token.Token.{Token}
use Rattle.c_lex.specs.declared.token.Punct.{Punct}
use Rattle.c_syntax.specs.Marks.{mark, word}
use Rattle.c_grammar.specs.Taking.{take_mark, take_word}
use Rattle.c_grammar.specs.Chains.{Step, Done, Fails, Goes, Takes, Reads, Found, Faults, needed, above, then_read}
use Rattle.c_grammar.specs.Chains.{then_step, chain}
use Rattle.c_grammar.specs.Chains.{chain_on}
use Rattle.c_grammar.specs.Taking.{read_mark, read_word}
use Rattle.c_grammar.proofs.Sound.{Holds, HoldsTaken, HoldsStep, mark_taken, word_taken}

-- ---- completions

-- w is ts with other tokens in place of us, which are at its end
pub record Swap (ts us w : List Token) : Type 0 where
  pub before : List Token
  pub same : ts ≡ before ++ us
  pub after : List Token
  pub is : w ≡ before ++ after

pub s_here : {ts us w : List Token} → ts ≡ us → Swap ts us w
s_here {ts} {us} {w} e = record { before = []; same = e; after = w; is = refl }

pub s_all : {ts us w : List Token} → ts ≡ w ++ us → Swap ts us w
s_all {ts} {us} {w} e = record { before = w; same = e; after = []; is = sym (append-nil w) }

pub s_cons : {t : Token} {ts us w : List Token} → Swap ts us w → Swap (t ∷ ts) us (t ∷ w)
s_cons {t} {ts} {us} {w} s = record {
  before = t ∷ s.before;
  same = ap (λ zs. t ∷ zs) s.same;
  after = s.after;
  is = ap (λ zs. t ∷ zs) s.is;
}

pub s_left : (xs : List Token) {ts us w : List Token} → Swap ts us w → Swap (xs ++ ts) us (xs ++ w)
s_left xs {ts} {us} {w} s = record {
  before = xs ++ s.before;
  same = ap (λ zs. xs ++ zs) s.same ∙ sym (append_assoc xs s.before us);
  after = s.after;
  is = ap (λ zs. xs ++ zs) s.is ∙ sym (append_assoc xs s.before s.after);
}

pub s_app : (ys : List Token) {ts us w : List Token} → Swap ts us w → Swap ts us (w ++ ys)
s_app ys {ts} {us} {w} s = record {
  before = s.before;
  same = s.same;
  after = s.after ++ ys;
  is = ap (λ zs. zs ++ ys) s.is ∙ append_assoc s.before s.after ys;
}

pub s_eq : {ts xs us w : List Token} → ts ≡ xs → Swap xs us w → Swap ts us w
s_eq {ts} {xs} {us} {w} e s = record { before = s.before; same = e ∙ s.same; after = s.after; is = s.is }

pub s_to : {ts us w x : List Token} → w ≡ x → Swap ts us w → Swap ts us x
s_to {ts} {us} {w} {x} e s = record { before = s.before; same = s.same; after = s.after; is = sym e ∙ s.is }

-- the tokens of ts before us begin a tree
abbrev pub Begun : {A : Type 0} → (A → List Token) → (A → Type 0) → List Token → List Token → Type 0
Begun {A} tokens P ts us = (t : A) × Swap ts us (tokens t) × P t

-- or there are none
abbrev pub Starts : {A : Type 0} → (A → List Token) → (A → Type 0) → List Token → List Token → Type 0
Starts tokens P ts us = (ts ≡ us) ⊎ Begun tokens P ts us

-- any place does for a mark that is missing
abbrev pub here : Span
here = record { file = 0; line = 1; col = 1 }

-- ---- where reading faults

abbrev pub Falls : {A : Type 0} → (List Token → Type 0) → Reads A → Type 0
Falls F (Faults deep us) = F us
Falls F (Found a us) = Unit {0}

abbrev pub FallsStep : {A : Type 0} → (List Token → Type 0) → Step A → Type 0
FallsStep F Done = Unit {0}
FallsStep F (Fails deep us) = F us
FallsStep F (Goes a us) = Unit {0}

pub falls_map : {A : Type 0} (F D : List Token → Type 0) (r : Reads A) → ((us : List Token) → F us → D us) → Falls F r
    → Falls D r
falls_map F D (Faults deep us) d f = d us f
falls_map F D (Found a us) d f = tt

pub falls_then : {A B : Type 0} (P : A → List Token → Type 0) (F D : List Token → Type 0) (r : Reads A)
    (f : A → List Token → Reads B) → Holds P r → Falls F r → ((us : List Token) → F us → D us)
    → ((a : A) (us : List Token) → P a us → Falls D (f a us)) → Falls D (then_read r f)
falls_then P F D (Faults deep us) f h k d g = d us k
falls_then P F D (Found a us) f h k d g = g a us h

pub step_falls_then : {A B : Type 0} (P : A → List Token → Type 0) (F D : List Token → Type 0) (r : Reads A)
    (f : A → List Token → Step B) → Holds P r → Falls F r → ((us : List Token) → F us → D us)
    → ((a : A) (us : List Token) → P a us → FallsStep D (f a us)) → FallsStep D (then_step r f)
step_falls_then P F D (Faults deep us) f h k d g = d us k
step_falls_then P F D (Found a us) f h k d g = g a us h

-- behind a token that makes a node above a part that is so high
pub falls_above : {A B : Type 0} (P : A → List Token → Type 0) (F D : List Token → Type 0) (part height : ℕ)
    (t : Token) (ts : List Token) (r : Reads A) (f : A → List Token → Reads B) → D (t ∷ ts) → Holds P r → Falls F r
    → ((us : List Token) → part < height → F us → D us)
    → ((a : A) (us : List Token) → part < height → P a us → Falls D (f a us))
    → Falls D (then_read (above part height t ts r) f)
falls_above P F D part height t ts r f now h k d g = by (ltb part height) refl
  where
    by : (b : Bool) → ltb part height ≡ b → Falls D (then_read (if b then r else Faults true (t ∷ ts)) f)
    by true e = (let l : part < height = ltb-true part height e in
        falls_then P F D r f h k (λ us x. d us l x) (λ a us x. g a us l x))
    by false e = now

pub step_falls_above : {A B : Type 0} (P : A → List Token → Type 0) (F D : List Token → Type 0) (part height : ℕ)
    (t : Token) (ts : List Token) (r : Reads A) (f : A → List Token → Step B) → D (t ∷ ts) → Holds P r → Falls F r
    → ((us : List Token) → part < height → F us → D us)
    → ((a : A) (us : List Token) → part < height → P a us → FallsStep D (f a us))
    → FallsStep D (then_step (above part height t ts r) f)
step_falls_above P F D part height t ts r f now h k d g = by (ltb part height) refl
  where
    by : (b : Bool) → ltb part height ≡ b → FallsStep D (then_step (if b then r else Faults true (t ∷ ts)) f)
    by true e = (let l : part < height = ltb-true part height e in
        step_falls_then P F D r f h k (λ us x. d us l x) (λ a us x. g a us l x))
    by false e = now

-- a test before what is read, and what fails where it doesn't hold
pub falls_if : {A : Type 0} (D : List Token → Type 0) (b deep : Bool) (us : List Token) (r : Reads A)
    → (b ≡ true → Falls D r) → D us → Falls D (if b then r else Faults deep us)
falls_if D true deep us r h k = h refl
falls_if D false deep us r h k = k

falls_needed : {A B : Type 0} (P : A → List Token → Type 0) (D : List Token → Type 0) (ts : List Token) (o : Takes A)
    (f : A → List Token → Reads B) → HoldsTaken P o → D ts
    → ((a : A) (us : List Token) → P a us → Falls D (f a us)) → Falls D (then_read (needed ts o) f)
falls_needed P D ts None f h k g = k
falls_needed P D ts (Some (a, us)) f h k g = g a us h

step_falls_needed : {A B : Type 0} (P : A → List Token → Type 0) (D : List Token → Type 0) (ts : List Token)
    (o : Takes A) (f : A → List Token → Step B) → HoldsTaken P o → D ts
    → ((a : A) (us : List Token) → P a us → FallsStep D (f a us)) → FallsStep D (then_step (needed ts o) f)
step_falls_needed P D ts None f h k g = k
step_falls_needed P D ts (Some (a, us)) f h k g = g a us h

-- a mark that has to come
pub falls_mark : {B : Type 0} (D : List Token → Type 0) (m : Punct) (ts : List Token) (f : Span → List Token → Reads B)
    → D ts → ((at : Span) (us : List Token) → ts ≡ mark m at ∷ us → Falls D (f at us))
    → Falls D (then_read (read_mark m ts) f)
falls_mark D m ts f k g = falls_needed (λ at us. ts ≡ mark m at ∷ us) D ts (take_mark m ts) f (mark_taken m ts) k g

pub falls_word : {B : Type 0} (D : List Token → Type 0) (w : Keyword) (ts : List Token)
    (f : Span → List Token → Reads B) → D ts → ((at : Span) (us : List Token) → ts ≡ word w at ∷ us → Falls D (f at us))
    → Falls D (then_read (read_word w ts) f)
falls_word D w ts f k g = falls_needed (λ at us. ts ≡ word w at ∷ us) D ts (take_word w ts) f (word_taken w ts) k g

pub step_falls_mark : {B : Type 0} (D : List Token → Type 0) (m : Punct) (ts : List Token)
    (f : Span → List Token → Step B) → D ts
    → ((at : Span) (us : List Token) → ts ≡ mark m at ∷ us → FallsStep D (f at us))
    → FallsStep D (then_step (read_mark m ts) f)
step_falls_mark D m ts f k g =
    step_falls_needed (λ at us. ts ≡ mark m at ∷ us) D ts (take_mark m ts) f (mark_taken m ts) k g

falls_on : {A : Type 0} (I : A → List Token → Type 0) (D : List Token → Type 0) (s : Step A)
    (next : A → List Token → Reads A) (a : A) (ts : List Token) → HoldsStep I s → FallsStep D s
    → ((b : A) (us : List Token) → I b us → Falls D (next b us)) → Falls D (chain_on s next a ts)
falls_on I D Done next a ts i k g = tt
falls_on I D (Fails deep us) next a ts i k g = k
falls_on I D (Goes b us) next a ts i k g = g b us i

-- in a loop
pub falls_chain : {A : Type 0} (I : A → List Token → Type 0) (D : List Token → Type 0)
    (step : A → List Token → Step A) → ((a : A) (ts : List Token) → I a ts → HoldsStep I (step a ts))
    → ((a : A) (ts : List Token) → I a ts → FallsStep D (step a ts))
    → ((a : A) (ts : List Token) → I a ts → D ts) → (n : ℕ) (a : A) (ts : List Token) → I a ts
    → Falls D (chain step n a ts)
unfolding chain
falls_chain I D step keeps falls stays zero a ts i = falls_on I D (step a ts) (λ b us. Faults false us) a ts
    (keeps a ts i) (falls a ts i) (λ b us k. stays b us k)
falls_chain I D step keeps falls stays (suc n) a ts i = falls_on I D (step a ts) (chain step n) a ts
    (keeps a ts i) (falls a ts i) (λ b us k. falls_chain I D step keeps falls stays n b us k)

-- the same, where what is read rests on the room that there is
pub falls_room : {A B : Type 0} (P : A → List Token → Type 0) (F D : List Token → Type 0) (part height : ℕ)
    (t : Token) (ts : List Token) (r : Reads A) (f : A → List Token → Reads B) → D (t ∷ ts) → Holds P r
    → (part < height → Falls F r) → ((us : List Token) → part < height → F us → D us)
    → ((a : A) (us : List Token) → part < height → P a us → Falls D (f a us))
    → Falls D (then_read (above part height t ts r) f)
falls_room P F D part height t ts r f now h k d g = by (ltb part height) refl
  where
    by : (b : Bool) → ltb part height ≡ b → Falls D (then_read (if b then r else Faults true (t ∷ ts)) f)
    by true e = (let l : part < height = ltb-true part height e in
        falls_then P F D r f h (k l) (λ us x. d us l x) (λ a us x. g a us l x))
    by false e = now

-- where no more is read
pub falls_last : {A B : Type 0} (F D : List Token → Type 0) (r : Reads A) (make : A → B)
    → Falls F r → ((us : List Token) → F us → D us) → Falls D (then_read r (λ a us. Found (make a) us))
falls_last F D (Faults deep us) make f d = d us f
falls_last F D (Found a us) make f d = tt

pub mark_falls : (m : Punct) (ts : List Token) → Falls (λ us. ts ≡ us) (read_mark m ts)
mark_falls m ts = by (take_mark m ts)
  where
    by : (o : Takes Span) → Falls (λ us. ts ≡ us) (needed ts o)
    by None = refl
    by (Some (at, us)) = tt
