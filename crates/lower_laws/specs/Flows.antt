-- Lines with sets of variables: what may be used before it is written, from each op on and from each block on.
use Rattle.std.specs.Prelude.{◌≡◌, ◌≢◌, ◌<◌, ◌⊎◌, ℕ, false, List, [], ◌∷◌, Option, Some, None}
use Rattle.flow_graph.specs.declared.op.Op.{Op}
use Rattle.flow_graph.specs.Graphs.{IsIn, is_end}
use Rattle.flow_graph.specs.Kinds.{marked}
use Rattle.flow_graph.specs.Liveness.{defined, uses}
use Rattle.flow_graph.specs.Shapes.{Leads, Onward, IntoCall, ToBlock, ToEither, OutOfCall, OutOfProgram, shape}
use Rattle.flow_graph.specs.Shapes.{Takes, NoRegister, Count, Division, AcrossCall}
use Rattle.lower_lines.specs.Lines.{Line, Start, Emit}

-- each variable of the first list is in the second
abbrev pub Within : List ℕ → List ℕ → Type 0
Within xs ys = (v : ℕ) → IsIn v xs → IsIn v ys

abbrev pub blocks_led : Leads → List ℕ
blocks_led Onward = []
blocks_led (IntoCall result words) = []
blocks_led (ToBlock x) = x ∷ []
blocks_led (ToEither x y) = x ∷ y ∷ []
blocks_led OutOfCall = []
blocks_led OutOfProgram = []

-- the blocks that an op goes to
abbrev pub targets : Op → List ℕ
targets op = blocks_led (shape op).leads

abbrev pub fixed_by : Takes → Option (ℕ × ℕ)
fixed_by NoRegister = None
fixed_by (Count count shifted) = Some (count, shifted)
fixed_by (Division dividend divisor gives) = Some (dividend, divisor)
fixed_by AcrossCall = None

-- the fixed operand of an op, with its other operand: the count of a shift, and the dividend of a division
abbrev pub fixed : Op → Option (ℕ × ℕ)
fixed op = fixed_by (shape op).takes

-- An op that has the first set before it and the second behind it, where each block has a set and the variables below
-- the first temporary are those of locals: the op's uses, and the sets of the blocks that it goes to, are in the first
-- set; the second has nothing but the first and what the op writes; a fixed operand is no other one, and not in the
-- second set; and at a mark there are locals alone.
pub record Passes (locals : ℕ) (at_block : ℕ → List ℕ) (before behind : List ℕ) (i : Op) : Type 0 where
  pub uses : Within (uses i) before
  pub goes : (x : ℕ) → IsIn x (targets i) → Within (at_block x) before
  pub onward : is_end i ≡ false → (v : ℕ) → IsIn v behind → (defined i ≡ Some v) ⊎ IsIn v before
  pub dies : (c a : ℕ) → fixed i ≡ Some (c, a) → (c ≢ a) × (IsIn c behind → ⊥)
  pub mark : (n : ℕ) → marked i ≡ Some n → (v : ℕ) → IsIn v before → v < locals

-- Lines that come with a set of variables and go on with another, where each block has a set: each op has sets, and
-- none has more than there is where it stands.
abbrev pub Flows : ℕ → (ℕ → List ℕ) → List ℕ → List Line → List ℕ → Type 0
Flows locals at_block set [] last = Within last set
Flows locals at_block set (Start block ∷ lines) last = Flows locals at_block (at_block block) lines last
Flows locals at_block set (Emit i ∷ lines) last =
    (before behind : List ℕ) × Within before set × Passes locals at_block before behind i
    × Flows locals at_block behind lines last
