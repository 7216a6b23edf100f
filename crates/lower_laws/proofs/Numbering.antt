-- The statements of a function's body are its own: they are numbered over all functions, in order.
use Rattle.std.proofs.Common.{◌≡◌, ℕ, zero, suc, ◌+◌, ◌-◌, ◌<◌, ◌≤◌, Bool, true, false, List, [], ◌∷◌, ◌++◌, length}
use Rattle.std.proofs.Common.{Some, refl, sym, ap, ◌∙◌, subst, arith, length-append}
use Rattle.std.specs.Prelude.{if◌then◌else◌, nat_lt, slice_get}
use Rattle.std.specs.List.{AllByRecursion, range_with_len}
use Rattle.std.proofs.lemmas.List.Elements.{All-from_recursion}
use Rattle.c_tree.specs.Program.{Function}
use Rattle.c_tree.specs.Program.{Declare, Empty, Evaluate, Block, If, While, Do, For, Switch, Break, Continue, Return}
use Rattle.c_tree.specs.Program.{Statement, Statements, Done, Next}
use Rattle.c_tree.specs.WellTyped.{first_numbers, functions_numbers, statement_numbers, statements_numbers}
use Rattle.lower_lines.specs.Shown.{locals_at, numbers_in, numbers_in_first, numbers_of}
use Rattle.lower_laws.specs.CallsLaws.{StatementsAreOwn}
use Rattle.lower_lines.proofs.Marks.{numbers-first as first-many}

-- ---- how many numbers a body has

both-many : (xs ys : List ℕ) (m n : ℕ) → length xs ≡ m → length ys ≡ n → length (xs ++ ys) ≡ m + n
both-many xs ys m n e f = length-append xs ys ∙ ap (λ (k : ℕ). k + length ys) e ∙ ap (λ (k : ℕ). m + k) f

mutual
  statement-many : (x : Statement) → length (statement_numbers x) ≡ numbers_in x
  statement-many (Declare item) = refl
  statement-many (Empty n) = refl
  statement-many (Evaluate n e) = refl
  statement-many (Block body) = statements-many body
  statement-many (If n e a b) = ap suc (both-many (statement_numbers a) (statement_numbers b) (numbers_in a)
      (numbers_in b) (statement-many a) (statement-many b))
  statement-many (While n e s) = ap suc (statement-many s)
  statement-many (Do n s e) = ap suc (statement-many s)
  statement-many (For n first test after s) =
      ap suc (both-many (first_numbers first) (statement_numbers s) (numbers_in_first first)
      (numbers_in s) (first-many first) (statement-many s))
  statement-many (Switch n e labels body) = ap suc (statements-many body)
  statement-many (Break n) = refl
  statement-many (Continue n) = refl
  statement-many (Return n value) = refl

  statements-many : (xs : Statements) → length (statements_numbers xs) ≡ numbers_of xs
  statements-many Done = refl
  statements-many (Next s others) =
      both-many (statement_numbers s) (statements_numbers others) (numbers_in s) (numbers_of others)
      (statement-many s) (statements-many others)

-- ---- lists that count up

head-same : {X : Type 0} (x y : X) (xs ys : List X) → x ∷ xs ≡ y ∷ ys → x ≡ y
head-same x y xs ys e = cc

tail-same : {X : Type 0} (x y : X) (xs ys : List X) → x ∷ xs ≡ y ∷ ys → xs ≡ ys
tail-same x y xs ys e = cc

-- the numbers in front are from one on, and so many
front-within : (xs ys : List ℕ) (a n : ℕ) → xs ++ ys ≡ range_with_len a n
    → AllByRecursion (λ m. (a ≤ m) × (m < a + length xs)) xs
front-within [] ys a n e = tt
front-within (x ∷ xs) ys a zero e = absurd (cc)
front-within (x ∷ xs) ys a (suc n) e =
    let here = head-same x a (xs ++ ys) (range_with_len (a + 1) n) e in (
      (omega (arith, here), omega (arith, here)),
      widened xs a (length xs) (front-within xs ys (a + 1) n
          (tail-same x a (xs ++ ys) (range_with_len (a + 1) n) e)),
    )
  where
    widened : (zs : List ℕ) (a k : ℕ) → AllByRecursion (λ m. (a + 1 ≤ m) × (m < a + 1 + k)) zs
        → AllByRecursion (λ m. (a ≤ m) × (m < a + suc k)) zs
    widened [] a k h = tt
    widened (z ∷ zs) a k h = ((omega (arith, h.0.0), omega (arith, h.0.1)), widened zs a k h.1)

-- those behind count up from there
behind-counts : (xs ys : List ℕ) (a n : ℕ) → xs ++ ys ≡ range_with_len a n
    → ys ≡ range_with_len (a + length xs) (n - length xs)
behind-counts [] ys a n e =
    let p : a + 0 ≡ a = omega arith in let q : n - 0 ≡ n = omega arith in rw (p, q) e
behind-counts (x ∷ xs) ys a zero e = absurd (cc)
behind-counts (x ∷ xs) ys a (suc n) e =
    let p : a + suc (length xs) ≡ a + 1 + length xs = omega arith in
    let q : suc n - suc (length xs) ≡ n - length xs = omega arith in
    rw (p, q) (behind-counts xs ys (a + 1) n (tail-same x a (xs ++ ys) (range_with_len (a + 1) n) e))

-- ---- whose number it is

lower-test : (m n : ℕ) → m < n → nat_lt m n ≡ true
lower-test m n h = grind arith

not-lower : (m n : ℕ) → n ≤ m → nat_lt m n ≡ false
not-lower m n h = grind arith

-- a number among the first function's
locals-first : (f : Function) (fs : List Function) (m : ℕ) → m < numbers_of f.body
    → locals_at (f ∷ fs) m ≡ f.locals
locals-first f [] m h = refl
locals-first f (g ∷ fs) m h =
    ap (λ (b : Bool). if b then f.locals else locals_at (g ∷ fs) (m - numbers_of f.body))
    (lower-test m (numbers_of f.body) h)

-- a number behind them
locals-later : (f g : Function) (fs : List Function) (m : ℕ) → numbers_of f.body ≤ m
    → locals_at (f ∷ g ∷ fs) m ≡ locals_at (g ∷ fs) (m - numbers_of f.body)
locals-later f g fs m h =
    ap (λ (b : Bool). if b then f.locals else locals_at (g ∷ fs) (m - numbers_of f.body))
    (not-lower m (numbers_of f.body) h)

-- the numbers of a function, where those of these functions count up from one on
owned : (fs : List Function) (a n k : ℕ) (f : Function) → functions_numbers fs ≡ range_with_len a n
    → slice_get fs k ≡ Some f
    → AllByRecursion (λ m. (a ≤ m) × (locals_at fs (m - a) ≡ f.locals)) (statements_numbers f.body)
owned [] a n k f e at = absurd (cc)
owned (g ∷ fs) a n zero f e at = firsts (statements_numbers f.body) (front-within (statements_numbers f.body)
    (functions_numbers fs) a n (subst (λ (h : Function). statements_numbers h.body ++ functions_numbers fs
    ≡ range_with_len a n) same e))
  where
    same : g ≡ f
    same = head-some g f at
      where
        head-some : {X : Type 0} (x y : X) → Some x ≡ Some y → x ≡ y
        head-some x y e = cc

    firsts : (xs : List ℕ)
        → AllByRecursion (λ m. (a ≤ m) × (m < a + length (statements_numbers f.body))) xs
        → AllByRecursion (λ m. (a ≤ m) × (locals_at (g ∷ fs) (m - a) ≡ f.locals)) xs
    firsts [] h = tt
    firsts (x ∷ xs) h = (
      (
        h.0.0,
        subst (λ (q : Function). locals_at (q ∷ fs) (x - a) ≡ f.locals) (sym same)
            (locals-first f fs (x - a) (within x a (length (statements_numbers f.body)) (numbers_of f.body)
            (statements-many f.body) h.0.0 h.0.1)),
      ),
      firsts xs h.1,
    )
      where
        within : (x a l m : ℕ) → l ≡ m → a ≤ x → x < a + l → x - a < m
        within x a l m e lo hi = omega (arith, e, lo, hi)
owned (g ∷ []) a n (suc k) f e at = absurd (cc)
owned (g ∷ h ∷ fs) a n (suc k) f e at =
    let l = length (statements_numbers g.body) in
    later (statements_numbers f.body) (owned (h ∷ fs) (a + l) (n - l) k f
    (behind-counts (statements_numbers g.body) (functions_numbers (h ∷ fs)) a n e) at)
  where
    later : (xs : List ℕ) → AllByRecursion (λ m. (a + length (statements_numbers g.body) ≤ m)
        × (locals_at (h ∷ fs) (m - (a + length (statements_numbers g.body))) ≡ f.locals)) xs
        → AllByRecursion (λ m. (a ≤ m) × (locals_at (g ∷ h ∷ fs) (m - a) ≡ f.locals)) xs
    later [] is = tt
    later (x ∷ xs) is =
        let many = statements-many g.body in (
          (
            lower a (length (statements_numbers g.body)) x is.0.0,
            locals-later g h fs (x - a) (above a (length (statements_numbers g.body)) (numbers_of g.body) x many
                is.0.0)
                ∙ ap (locals_at (h ∷ fs)) (apart a (length (statements_numbers g.body)) (numbers_of g.body) x many)
                ∙ is.0.1,
          ),
          later xs is.1,
        )
      where
        lower : (a l x : ℕ) → a + l ≤ x → a ≤ x
        lower a l x le = omega (arith, le)

        above : (a l m x : ℕ) → l ≡ m → a + l ≤ x → m ≤ x - a
        above a l m x e le = omega (arith, e, le)

        apart : (a l m x : ℕ) → l ≡ m → x - a - m ≡ x - (a + l)
        apart a l m x e = omega (arith, e)

pub statements-own : StatementsAreOwn
statements-own p counts k f at = All-from_recursion (λ n. locals_at p.functions n ≡ f.locals)
    (statements_numbers f.body) (plain (statements_numbers f.body) (owned p.functions 0
    (length (functions_numbers p.functions)) k f counts at))
  where
    plain : (xs : List ℕ) → AllByRecursion (λ m. (0 ≤ m) × (locals_at p.functions (m - 0) ≡ f.locals)) xs
        → AllByRecursion (λ n. locals_at p.functions n ≡ f.locals) xs
    plain [] is = tt
    plain (x ∷ xs) is =
        let e : x - 0 ≡ x = omega arith in
        (subst (λ (m : ℕ). locals_at p.functions m ≡ f.locals) e is.0.1, plain xs is.1)
