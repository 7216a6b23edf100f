-- Repeated parts of a program: one more stands behind the last.
use Rattle.std.proofs.Common.{◌≡◌, ℕ, suc, zero, ◌+◌, List, ◌++◌, refl, sym, ap, ◌∙◌, add-one, append_assoc}
use Rattle.std.proofs.Common.{append-nil, arith}
use Rattle.pcc_gen.specs.Generated.{statement, statements, after_statement, after_statements}
use Rattle.pcc_gen.specs.Generated.{function, functions, after_function, after_functions, call, calls}

-- where what was put is one part longer
longer : (front so_far part more old new : List ℕ) → old ≡ front ++ so_far → new ≡ old ++ part → more ≡ so_far ++ part
    → new ≡ front ++ more
longer front so_far part more old new before put is =
    put ∙ ap (λ o. o ++ part) before ∙ append_assoc front so_far part ∙ ap (λ m. front ++ m) (sym is)

-- ---- drawn lines

pub no_statements : (front : List ℕ) (x : ℕ) → front ≡ front ++ statements 0 x
unfolding statements
no_statements front x = sym (append-nil front)

pub at_first_statement : (x : ℕ) → x ≡ after_statements 0 x
unfolding after_statements
at_first_statement x = refl

statements_more : (n x : ℕ) → statements (suc n) x ≡ statements n x ++ statement (after_statements n x)
unfolding statements after_statements
statements_more zero x = append-nil (statement x)
statements_more (suc n) x =
    ap (λ s. statement x ++ s) (statements_more n (after_statement x))
    ∙ sym (append_assoc (statement x) (statements n (after_statement x)) _)

after_statements_more : (n x : ℕ) → after_statements (suc n) x ≡ after_statement (after_statements n x)
unfolding after_statements
after_statements_more zero x = refl
after_statements_more (suc n) x = after_statements_more n (after_statement x)

pub statement_put : (n x y : ℕ) (front old new : List ℕ) → old ≡ front ++ statements n x → y ≡ after_statements n x
    → new ≡ old ++ statement y → new ≡ front ++ statements (n + 1) x
statement_put n x y front old new before at put =
    longer front (statements n x) (statement y) (statements (n + 1) x) old new before put
    (ap (λ m. statements m x) (add-one n) ∙ statements_more n x ∙ ap (λ z. statements n x ++ statement z) (sym at))

pub statement_next : (n x y z : ℕ) → y ≡ after_statements n x → z ≡ after_statement y → z ≡ after_statements (n + 1) x
statement_next n x y z at is =
    is ∙ ap after_statement at ∙ sym (after_statements_more n x) ∙ ap (λ m. after_statements m x) (sym (add-one n))

-- ---- functions

pub no_functions : (front : List ℕ) (x : ℕ) → front ≡ front ++ functions 0 0 x
unfolding functions
no_functions front x = sym (append-nil front)

pub at_first_function : (x : ℕ) → x ≡ after_functions 0 x
unfolding after_functions
at_first_function x = refl

functions_more : (n i x : ℕ) → functions (suc n) i x ≡ functions n i x ++ function (n + i) (after_functions n x)
unfolding functions after_functions
functions_more zero i x =
    let number : i ≡ 0 + i = omega arith in append-nil (function i x) ∙ ap (λ k. function k x) number
functions_more (suc n) i x =
    let later : n + suc i ≡ suc n + i = omega arith in
    ap (λ s. function i x ++ s) (functions_more n (suc i) (after_function x))
    ∙ ap (λ k. function i x ++ (functions n (suc i) (after_function x) ++ function k (after_functions n (after_function x))))
    later
    ∙ sym (append_assoc (function i x) (functions n (suc i) (after_function x)) _)

after_functions_more : (n x : ℕ) → after_functions (suc n) x ≡ after_function (after_functions n x)
unfolding after_functions
after_functions_more zero x = refl
after_functions_more (suc n) x = after_functions_more n (after_function x)

pub function_put : (n x y : ℕ) (front old new : List ℕ) → old ≡ front ++ functions n 0 x → y ≡ after_functions n x
    → new ≡ old ++ function n y → new ≡ front ++ functions (n + 1) 0 x
function_put n x y front old new before at put =
    let number : n + 0 ≡ n = omega arith in
    longer front (functions n 0 x) (function n y) (functions (n + 1) 0 x) old new before put
    (ap (λ m. functions m 0 x) (add-one n) ∙ functions_more n 0 x
    ∙ ap (λ k. functions n 0 x ++ function k (after_functions n x)) number
    ∙ ap (λ z. functions n 0 x ++ function n z) (sym at))

pub function_next : (n x y z : ℕ) → y ≡ after_functions n x → z ≡ after_function y → z ≡ after_functions (n + 1) x
function_next n x y z at is =
    is ∙ ap after_function at ∙ sym (after_functions_more n x) ∙ ap (λ m. after_functions m x) (sym (add-one n))

-- ---- calls

pub no_calls : (front : List ℕ) → front ≡ front ++ calls 0 0
unfolding calls
no_calls front = sym (append-nil front)

calls_more : (n i : ℕ) → calls (suc n) i ≡ calls n i ++ call (n + i)
unfolding calls
calls_more zero i = let number : i ≡ 0 + i = omega arith in append-nil (call i) ∙ ap call number
calls_more (suc n) i =
    let later : n + suc i ≡ suc n + i = omega arith in
    ap (λ s. call i ++ s) (calls_more n (suc i))
    ∙ ap (λ k. call i ++ (calls n (suc i) ++ call k)) later
    ∙ sym (append_assoc (call i) (calls n (suc i)) _)

pub call_put : (n : ℕ) (front old new : List ℕ) → old ≡ front ++ calls n 0 → new ≡ old ++ call n
    → new ≡ front ++ calls (n + 1) 0
call_put n front old new before put =
    let number : n + 0 ≡ n = omega arith in
    longer front (calls n 0) (call n) (calls (n + 1) 0) old new before put
    (ap (λ m. calls m 0) (add-one n) ∙ calls_more n 0 ∙ ap (λ k. calls n 0 ++ call k) number)
