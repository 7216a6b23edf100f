-- A text is read in one way, up to where no piece begins, and one fault stands there.
use Rattle.std.proofs.Common.{◌≡◌, ◌≢◌, ℕ, zero, suc, Bool, true, false, List, [], ◌∷◌, ◌++◌, length, ◌||◌, ◌&&◌, ◌==◌}
use Rattle.std.proofs.Common.{cond, inl, inr, refl, sym, ap, ap₂, subst, ◌∙◌, arith, eq-eqb, ne_eqb}
use Rattle.std.proofs.lemmas.Bool.Decides.{nat_tests}
use Rattle.std.proofs.lemmas.Bool.{false_from_ne_true}
use Rattle.pcc_base.specs.Ascii.{double_quote, apostrophe, star, dot, slash}
use Rattle.pcc_base.specs.declared.fault.Fault.{Fault}
use Rattle.pcc_base.specs.declared.span.Span.{Span}
use Rattle.pcc_base.specs.declared.fault.FaultKind.{FaultKind}
use Rattle.pcc_base.specs.declared.fault.FaultKind.TheVariants.{BadByte, BadNumber, Unclosed, BadEscape}
use Rattle.c_lex.specs.declared.token.Token.{Token}
use Rattle.c_lex.specs.Bytes.{is_digit}
use Rattle.c_lex.specs.Literals.{StartsNumber, is_closed}
use Rattle.c_lex.specs.Pieces.{Piece, NoneBegins, StartsWithStar, IsFaultOf}
use Rattle.c_lex.specs.Tokens.{HasTokens, HasFault, start_of, Reached, Leads, behind, tokens_of}
use Rattle.c_lex.proofs.OnePiece.{begins_once}

-- ---- pieces

-- no piece begins where nothing is left
pub none_at_end : (fresh : Bool) (rest : List ℕ) → rest ≡ [] → NoneBegins fresh rest
none_at_end fresh rest e n piece b =
    let within = b.within in
    let nonempty = b.nonempty in
    omega (arith, ap length e)

-- pieces lead from a place to one where none begins in one way
pub leads_once : (k l : ℕ) (from to other : Reached) (a b : List Token) → Leads k from a to → Leads l from b other
    → NoneBegins to.fresh to.rest → NoneBegins other.fresh other.rest → (a ≡ b) × (to ≡ other)
leads_once zero zero from to other a b p q s t = (p.1 ∙ sym q.1, p.0 ∙ sym q.0)
leads_once zero (suc l) from to other a b p q s t =
    absurd (subst (λ (r : Reached). NoneBegins r.fresh r.rest) p.0 s q.0 q.1 q.2)
leads_once (suc k) zero from to other a b p q s t =
    absurd (subst (λ (r : Reached). NoneBegins r.fresh r.rest) q.0 t p.0 p.1 p.2)
leads_once (suc k) (suc l) from to other a b p q s t =
    let once = begins_once from.fresh from.rest p.0 q.0 p.1 q.1 p.2 q.2 in
    let place : behind from q.0 q.1 ≡ behind from p.0 p.1 =
    ap₂ (λ (n : ℕ) (x : Piece). behind from n x) (sym once.0) (sym once.1) in
    let again : Leads l (behind from p.0 p.1) q.3 other = subst (λ (r : Reached). Leads l r q.3 other) place q.5 in
    let more = leads_once k l (behind from p.0 p.1) to other p.3 q.3 p.5 again s t in
    (p.4 ∙ ap₂ (λ (x : Piece) (ts : List Token). tokens_of x from.at ++ ts) once.1 more.0 ∙ sym q.4, more.1)

-- ---- faults

-- whether a preprocessing number begins the bytes
abbrev starts_number : List ℕ → Bool
starts_number [] = false
starts_number (b ∷ []) = is_digit b
starts_number (b ∷ c ∷ rest) = is_digit b || (b == dot && is_digit c)

-- it says so where one does
starts : (bytes : List ℕ) → StartsNumber bytes → starts_number bytes ≡ true
starts [] h = absurd h
starts (b ∷ []) h = h
starts (b ∷ c ∷ rest) (inl digit) = rw digit refl
starts (b ∷ c ∷ rest) (inr (first, digit)) = grind (arith, nat_tests)

-- and only there
starts_back : (bytes : List ℕ) → starts_number bytes ≡ true → StartsNumber bytes
starts_back [] h = absurd (cc)
starts_back (b ∷ []) h = h
starts_back (b ∷ c ∷ rest) h = grind (arith, nat_tests)

-- whether `*` begins the bytes
abbrev starts_with_star : List ℕ → Bool
starts_with_star [] = false
starts_with_star (b ∷ rest) = b == star

-- it says so where it does
star_first : (bytes : List ℕ) → StartsWithStar bytes → starts_with_star bytes ≡ true
star_first [] h = absurd h
star_first (b ∷ rest) h = eq-eqb b star h

-- the fault at a byte where no piece begins
abbrev fault_at : ℕ → List ℕ → FaultKind
fault_at b rest =
    cond (b == slash && starts_with_star rest) Unclosed
    (cond (b == apostrophe || b == double_quote) (cond (is_closed b rest) BadEscape Unclosed)
    (cond (starts_number (b ∷ rest)) BadNumber BadByte))

-- a number begins with no `/` and no quote
number_first : (b : ℕ) (rest : List ℕ) → StartsNumber (b ∷ rest) → (b ≢ slash) × (b ≢ apostrophe) × (b ≢ double_quote)
number_first b [] h = grind (arith, nat_tests)
number_first b (c ∷ rest) (inl digit) = grind (arith, nat_tests)
number_first b (c ∷ rest) (inr (first, digit)) = grind (arith, nat_tests)

-- `/*` doesn't begin the bytes
no_comment : (b : ℕ) (rest : List ℕ) → (b ≡ slash → StartsWithStar rest → ⊥)
    → (b == slash && starts_with_star rest) ≡ false
no_comment b [] h = grind (arith, nat_tests)
no_comment b (c ∷ rest) h = grind (arith, nat_tests)

-- no quote begins the bytes
no_quote : (b : ℕ) → b ≢ apostrophe → b ≢ double_quote → (b == apostrophe || b == double_quote) ≡ false
no_quote b h i = rw (ne_eqb b apostrophe h, ne_eqb b double_quote i) refl

-- the fault where no piece begins is this one
fault_is : (b : ℕ) (rest : List ℕ) (kind : FaultKind) → IsFaultOf (b ∷ rest) kind → kind ≡ fault_at b rest
fault_is b rest kind (inl (slashed, is, starred)) =
    let comment : fault_at slash rest ≡ Unclosed = rw (star_first rest starred) refl in
    is ∙ sym comment ∙ sym (ap (λ (x : ℕ). fault_at x rest) slashed)
fault_is b rest kind (inr (inl (inl quote, is))) =
    is ∙ ap (λ (x : ℕ). cond (is_closed x rest) BadEscape Unclosed) quote ∙ sym (ap (λ (x : ℕ). fault_at x rest) quote)
fault_is b rest kind (inr (inl (inr quote, is))) =
    is ∙ ap (λ (x : ℕ). cond (is_closed x rest) BadEscape Unclosed) quote ∙ sym (ap (λ (x : ℕ). fault_at x rest) quote)
fault_is b rest kind (inr (inr (inl (number, is)))) =
    let first = number_first b rest number in
    let no_slash : (b == slash && starts_with_star rest) ≡ false = no_comment b rest (λ e h. first.0 e) in
    let other : (b == apostrophe || b == double_quote) ≡ false = no_quote b first.1 first.2 in
    is ∙ sym (rw (no_slash, other, starts (b ∷ rest) number) refl)
fault_is b rest kind (inr (inr (inr (single, double, number, slashed, is)))) =
    let no_slash : (b == slash && starts_with_star rest) ≡ false = no_comment b rest slashed in
    let other : (b == apostrophe || b == double_quote) ≡ false = no_quote b single double in
    let none : starts_number (b ∷ rest) ≡ false =
    false_from_ne_true (starts_number (b ∷ rest)) (λ h. number (starts_back (b ∷ rest) h)) in
    is ∙ sym (rw (no_slash, other, none) refl)

-- one fault stands there
pub one_fault_kind : (rest : List ℕ) (k l : FaultKind) → IsFaultOf rest k → IsFaultOf rest l → k ≡ l
one_fault_kind [] k l p q = absurd p
one_fault_kind (b ∷ rest) k l p q = fault_is b rest k p ∙ sym (fault_is b rest l q)

-- ---- texts

-- a text has one token list
pub one_list : (file : ℕ) (text : List ℕ) (a b : List Token) → HasTokens file text a → HasTokens file text b → a ≡ b
one_list file text a b (k, to, p, end) (l, other, q, stop) =
    (leads_once k l (start_of file text) to other a b p q (none_at_end to.fresh to.rest end)
    (none_at_end other.fresh other.rest stop)).0

-- a text with a token list has no fault
pub tokens_or_fault : (file : ℕ) (text : List ℕ) (a b : List Token) (fault : Fault) → HasTokens file text a
    → HasFault file text b fault → ⊥
tokens_or_fault file text a b fault (k, to, p, end) (l, other, q, some, none, kind, at) =
    let once = leads_once k l (start_of file text) to other a b p q (none_at_end to.fresh to.rest end) none in
    some (ap (λ (r : Reached). r.rest) (sym once.1) ∙ end)

-- a text has one fault
pub one_fault : (file : ℕ) (text : List ℕ) (a b : List Token) (e f : Fault) → HasFault file text a e
    → HasFault file text b f → (a ≡ b) × (e ≡ f)
one_fault file text a b e f (k, to, p, some, none, kind, at) (l, other, q, more, stuck, sort, place) =
    let once = leads_once k l (start_of file text) to other a b p q none stuck in
    let same : IsFaultOf to.rest f.kind = subst (λ (r : Reached). IsFaultOf r.rest f.kind) (sym once.1) sort in
    let kinds : e.kind ≡ f.kind = one_fault_kind to.rest e.kind f.kind kind same in
    let places : e.at ≡ f.at = at ∙ ap (λ (r : Reached). r.at) once.1 ∙ sym place in
    let fault_of : FaultKind → Span → Fault = λ x y. record { kind = x; at = y } in
    (once.0, ap₂ fault_of kinds places)
