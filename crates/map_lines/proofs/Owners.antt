-- Which function a statement is of.
use Rattle.std.proofs.Common.{◌≡◌, ◌<◌, ◌≤◌, ℕ, zero, suc, ◌+◌, ◌-◌, Bool, true, false, List, [], ◌∷◌, take, Some, refl}
use Rattle.std.proofs.Common.{sym, ap, ◌∙◌, subst, arith, inl, inr}
use Rattle.std.specs.Prelude.{◌⊎◌, if◌then◌else◌, nat_lt, slice_get, sum_by}
use Rattle.std.proofs.lemmas.Bool.{cases_lt}
use Rattle.std.proofs.lemmas.Bool.Decides.{nat_tests}
use Rattle.std.proofs.lemmas.List.Sums.{sum_by-cons}
use Rattle.std.proofs.lemmas.Option.{none-some, same_Some}
use Rattle.c_tree.specs.Program.{Function, Local}
use Rattle.lower_lines.specs.Lowering.{first_statement}
use Rattle.lower_lines.specs.Shown.{locals_at, numbers_of}

abbrev pub numbers : Function → ℕ
numbers f = numbers_of f.body

first-more : (f : Function) (fs : List Function) (k : ℕ) → first_statement (f ∷ fs) (suc k)
    ≡ numbers f + first_statement fs k
first-more f fs k = sum_by-cons numbers f (take k fs)

-- function k has the statement
pub record Owns (fs : List Function) (n k : ℕ) (f : Function) : Type 0 where
  pub is : slice_get fs k ≡ Some f
  pub low : first_statement fs k ≤ n
  pub high : n < first_statement fs k + numbers f

-- each statement is of a function
pub owner : (fs : List Function) (n : ℕ) → n < sum_by (λ (f : Function). numbers_of f.body) fs
    → (k : ℕ) × (f : Function) × Owns fs n k f
owner [] n below = absurd (omega (arith, below))
owner (f ∷ fs) n below = elim (cases_lt n (numbers f)) [
  | inl here ↦ (
    0,
    f,
    record { is = refl; low = omega arith; high = omega (arith, here) },
  )
  | inr later ↦ (
      let whole = sum_by-cons numbers f fs in
      let (k, g, owns) = owner fs (n - numbers f) (omega (arith, below, later, whole)) in
      let first = first-more f fs k in (
        suc k,
        g,
        record {
          is = owns.is;
          low = omega (arith, owns.low, first, later);
          high = omega (arith, owns.high, first, later);
        },
      )
      )
]

chosen-first : (b : Bool) (xs ys : List Local) → b ≡ true → (if b then xs else ys) ≡ xs
chosen-first true xs ys e = refl
chosen-first false xs ys e = absurd (cc)

chosen-other : (b : Bool) (xs ys : List Local) → b ≡ false → (if b then xs else ys) ≡ ys
chosen-other false xs ys e = refl
chosen-other true xs ys e = absurd (cc)

-- its locals are those at the statement
pub owner-locals : (fs : List Function) (n k : ℕ) (f : Function) → slice_get fs k ≡ Some f → first_statement fs k ≤ n
    → n < first_statement fs k + numbers f → locals_at fs n ≡ f.locals
owner-locals [] n k f at low high = absurd (none-some f at)
owner-locals (g ∷ []) n zero f at low high = ap (λ (x : Function). x.locals) (same_Some g f at)
owner-locals (g ∷ []) n (suc k) f at low high = absurd (none-some f at)
owner-locals (g ∷ h ∷ hs) n zero f at low high =
    let same = ap numbers (same_Some g f at) in
    let less : n < numbers g = omega (arith, high, same) in
    chosen-first (nat_lt n (numbers g)) g.locals (locals_at (h ∷ hs) (n - numbers g)) (grind (arith, nat_tests, less))
    ∙ ap (λ (x : Function). x.locals) (same_Some g f at)
owner-locals (g ∷ h ∷ hs) n (suc k) f at low high =
    let first = first-more g (h ∷ hs) k in
    let enough : numbers g ≤ n = omega (arith, low, first) in
    chosen-other (nat_lt n (numbers g)) g.locals (locals_at (h ∷ hs) (n - numbers g)) (grind (arith, nat_tests, enough))
    ∙ owner-locals (h ∷ hs) (n - numbers g) k f at (omega (arith, low, first)) (omega (arith, high, low, first))
