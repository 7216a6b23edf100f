-- Places in a file, one behind the other.
use Rattle.std.proofs.Common.{◌≡◌, ℕ, ◌+◌, ◌<◌, ◌≤◌, arith, Bool, true, false, List, [], ◌∷◌, refl, ap, ◌∙◌}
use Rattle.std.specs.Prelude.{◌==◌, if◌then◌else◌}
use Rattle.pcc_base.specs.Ascii.{newline}
use Rattle.pcc_base.specs.declared.span.Span.{Span}
use Rattle.c_lex.specs.Tokens.{place_after}

-- a place that isn't before another one of the same file, and one behind it
pub record AtLeast (p q : Span) : Type 0 where
  pub file : p.file ≡ q.file
  pub line : p.line ≤ q.line
  pub col : p.line ≡ q.line → p.col ≤ q.col

pub record Past (p q : Span) : Type 0 where
  pub file : p.file ≡ q.file
  pub line : p.line ≤ q.line
  pub col : p.line ≡ q.line → p.col < q.col

pub same_place : (p : Span) → AtLeast p p
same_place p = record { file = refl; line = omega arith; col = λ e. omega arith }

columns : (k l m a b c : ℕ) → k ≤ l → l ≤ m → (k ≡ l → a ≤ b) → (l ≡ m → b ≤ c) → k ≡ m → a ≤ c
columns k l m a b c x y f g e =
    let h = f (omega (arith, x, y, e)) in
    let i = g (omega (arith, x, y, e)) in
    omega (arith, h, i)

pub later : (p q r : Span) → AtLeast p q → AtLeast q r → AtLeast p r
later p q r h k = record {
  file = h.file ∙ k.file;
  line = let a = h.line in let b = k.line in omega (arith, a, b);
  col = columns p.line q.line r.line p.col q.col r.col h.line k.line h.col k.col;
}

pub past_least : (p q : Span) → Past p q → AtLeast p q
past_least p q h = record {
  file = h.file;
  line = h.line;
  col = λ e. let f = h.col e in omega (arith, f);
}

columns_past : (k l m a b c : ℕ) → k ≤ l → l ≤ m → (k ≡ l → a < b) → (l ≡ m → b ≤ c) → k ≡ m → a < c
columns_past k l m a b c x y f g e =
    let h = f (omega (arith, x, y, e)) in
    let i = g (omega (arith, x, y, e)) in
    omega (arith, h, i)

pub past_later : (p q r : Span) → Past p q → AtLeast q r → Past p r
past_later p q r h k = record {
  file = h.file ∙ k.file;
  line = let a = h.line in let b = k.line in omega (arith, a, b);
  col = columns_past p.line q.line r.line p.col q.col r.col h.line k.line h.col k.col;
}

-- places behind one another differ
pub past_differs : (p q : Span) → Past p q → p ≡ q → ⊥
past_differs p q h e =
    let c = h.col (ap (λ (s : Span). s.line) e) in
    let d = ap (λ (s : Span). s.col) e in
    absurd (omega (arith, c, d))

-- ---- the place behind bytes

step_past : (at : Span) (t : Bool)
    → Past at (if t then record at { line = at.line + 1; col = 1 } else record at { col = at.col + 1 })
step_past at true = record { file = refl; line = omega arith; col = λ e. absurd (omega (arith, e)) }
step_past at false = record { file = refl; line = omega arith; col = λ e. omega arith }

pub after_least : (at : Span) (bs : List ℕ) → AtLeast at (place_after at bs)
after_least at [] = same_place at
after_least at (b ∷ bs) =
    let next : Span =
    if b == newline then record at { line = at.line + 1; col = 1 } else record at { col = at.col + 1 } in
    later at next (place_after next bs) (past_least at next (step_past at (b == newline))) (after_least next bs)

pub after_past : (at : Span) (b : ℕ) (bs : List ℕ) → Past at (place_after at (b ∷ bs))
after_past at b bs =
    let next : Span =
    if b == newline then record at { line = at.line + 1; col = 1 } else record at { col = at.col + 1 } in
    past_later at next (place_after next bs) (step_past at (b == newline)) (after_least next bs)
