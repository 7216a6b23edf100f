-- How often lines start a block; lines that start each block of a range once, and close what they open.
use Rattle.std.proofs.Common.{◌≡◌, ℕ, suc, ◌+◌, Bool, true, false, List, [], ◌∷◌, ◌++◌, ◌≤◌}
use Rattle.std.proofs.Common.{refl, sym, subst, arith}
use Rattle.std.specs.Prelude.{if◌then◌else◌, ◌==◌, nat_lt}
use Rattle.std.proofs.lemmas.Bool.Decides.{nat_tests}
use Rattle.flow_graph.specs.declared.op.Op.{Op}
use Rattle.flow_graph.specs.Graphs.{is_end}
use Rattle.lower_lines.specs.Following.{Closes}
use Rattle.lower_lines.specs.Lines.{Line, Start, Emit}
use Rattle.lower_lines.proofs.Standing.{closes-append}

-- 1 where the numbers are the same
abbrev pub same : ℕ → ℕ → ℕ
same b x = if b == x then 1 else 0

-- 1 where the first number is less than the second
abbrev pub under : ℕ → ℕ → ℕ
under b n = if nat_lt b n then 1 else 0

-- which is 1 at most
pub under-one : (b n : ℕ) → under b n ≤ 1
under-one b n = grind (arith, nat_tests)

-- how often lines start a block
abbrev pub starting : ℕ → List Line → ℕ
starting b [] = 0
starting b (Start x ∷ lines) = same b x + starting b lines
starting b (Emit op ∷ lines) = starting b lines

pub starting-append : (b : ℕ) (xs ys : List Line) → starting b (xs ++ ys) ≡ starting b xs + starting b ys
starting-append b [] ys = omega arith
starting-append b (Start x ∷ xs) ys = let e = starting-append b xs ys in omega (arith, e)
starting-append b (Emit op ∷ xs) ys = starting-append b xs ys

pub one : (b x y : ℕ) → suc x ≡ y → same b x + under b x ≡ under b y
one b x y e = grind (arith, nat_tests)

-- Lines that start the blocks of a range, each once; whether a block is open before them, and behind them.
pub record Lays (lo hi : ℕ) (o q : Bool) (lines : List Line) : Type 0 where
  pub fills : (b : ℕ) → starting b lines + under b lo ≡ under b hi
  pub closes : Closes o lines q

pub lays-to : {o q : Bool} {lines : List Line} (lo hi lo' hi' : ℕ) → lo ≡ lo' → hi ≡ hi' → Lays lo hi o q lines
    → Lays lo' hi' o q lines
lays-to lo hi lo' hi' e e' h = rw (← e) (rw (← e') h)

-- lines one after another, whose blocks are in the order of the lines
pub lays-then : (lo mid hi : ℕ) (o p q : Bool) (xs ys : List Line) → Lays lo mid o p xs → Lays mid hi p q ys
    → Lays lo hi o q (xs ++ ys)
lays-then lo mid hi o p q xs ys h k = record {
  fills = λ b. let e = starting-append b xs ys in let eh = h.fills b in let ek = k.fills b in omega (arith, e, eh, ek);
  closes = closes-append o p q xs ys h.closes k.closes;
}

-- ---- ops alone, of which none is an end

abbrev pub IsPlain : List Line → Type 0
IsPlain [] = Unit {0}
IsPlain (Start b ∷ lines) = ⊥
IsPlain (Emit i ∷ lines) = (is_end i ≡ false) × IsPlain lines

pub plain-append : (xs ys : List Line) → IsPlain xs → IsPlain ys → IsPlain (xs ++ ys)
plain-append [] ys h k = k
plain-append (Start b ∷ xs) ys h k = absurd h
plain-append (Emit i ∷ xs) ys h k = (h.0, plain-append xs ys h.1 k)

pub plain-starts : (b : ℕ) (xs : List Line) → IsPlain xs → starting b xs ≡ 0
plain-starts b [] h = refl
plain-starts b (Start x ∷ xs) h = absurd h
plain-starts b (Emit i ∷ xs) h = plain-starts b xs h.1

pub plain-closes : (xs : List Line) → IsPlain xs → Closes true xs true
plain-closes [] h = refl
plain-closes (Start x ∷ xs) h = absurd h
plain-closes (Emit i ∷ xs) h =
    (refl, subst (λ (e : Bool). Closes (if e then false else true) xs true) (sym h.0) (plain-closes xs h.1))

pub plain-lays : (lo : ℕ) (xs : List Line) → IsPlain xs → Lays lo lo true true xs
plain-lays lo xs h = record {
  fills = λ b. let e = plain-starts b xs h in omega (arith, e);
  closes = plain-closes xs h;
}

pub plain-then : (lo hi : ℕ) (q : Bool) (xs ys : List Line) → IsPlain xs → Lays lo hi true q ys
    → Lays lo hi true q (xs ++ ys)
plain-then lo hi q xs ys h k = lays-then lo lo hi true true q xs ys (plain-lays lo xs h) k

pub then-plain : (lo hi : ℕ) (o : Bool) (xs ys : List Line) → Lays lo hi o true xs → IsPlain ys
    → Lays lo hi o true (xs ++ ys)
then-plain lo hi o xs ys h k = lays-then lo hi hi o true true xs ys h (plain-lays hi ys k)

-- no lines
pub none-lays : (lo : ℕ) (o : Bool) → Lays lo lo o o []
none-lays lo o = record { fills = λ b. omega arith; closes = refl }

-- an op that is no end, and one that is
pub emit-lays : (lo hi : ℕ) (q : Bool) (i : Op) (xs : List Line) → is_end i ≡ false → Lays lo hi true q xs
    → Lays lo hi true q (Emit i ∷ xs)
emit-lays lo hi q i xs e h = record {
  fills = h.fills;
  closes = (refl, subst (λ (e : Bool). Closes (if e then false else true) xs q) (sym e) h.closes);
}

pub end-lays : (lo hi : ℕ) (q : Bool) (i : Op) (xs : List Line) → is_end i ≡ true → Lays lo hi false q xs
    → Lays lo hi true q (Emit i ∷ xs)
end-lays lo hi q i xs e h = record {
  fills = h.fills;
  closes = (refl, subst (λ (e : Bool). Closes (if e then false else true) xs q) (sym e) h.closes);
}

-- a block is started that is the first of the range
pub start-lays : (lo hi : ℕ) (q : Bool) (xs : List Line) → Lays (suc lo) hi true q xs
    → Lays lo hi false q (Start lo ∷ xs)
start-lays lo hi q xs h = record {
  fills = λ b. let e = h.fills b in let o = one b lo (suc lo) refl in omega (arith, e, o);
  closes = (refl, h.closes);
}

-- lines whose first blocks come last
pub lays-swap : (lo mid hi : ℕ) (o p q : Bool) (xs ys : List Line) → Lays mid hi o p xs → Lays lo mid p q ys
    → Lays lo hi o q (xs ++ ys)
lays-swap lo mid hi o p q xs ys h k = record {
  fills = λ b. let e = starting-append b xs ys in let eh = h.fills b in let ek = k.fills b in omega (arith, e, eh, ek);
  closes = closes-append o p q xs ys h.closes k.closes;
}
