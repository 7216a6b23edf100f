-- How many blocks a statement takes doesn't depend on the block to which control goes behind it.
use Rattle.std.proofs.Common.{◌≡◌, ℕ, suc, ◌+◌, refl, ap}
use Rattle.c_tree.specs.Program.{Statement, Declare, Empty, Evaluate, Block, If, While, Do, For, Switch, Break}
use Rattle.c_tree.specs.Program.{Continue}
use Rattle.c_tree.specs.Program.{Return, Statements, Done, Next}
use Rattle.lower_lines.specs.Statements.{Here, To, none_labelled, run_of, runs_of, sequence_blocks}
use Rattle.lower_lines.specs.Variables.{Context}

mutual
  pub alike : (c : Context) (s : Statement) (k : ℕ) → (run_of c s).blocks (To k) ≡ (run_of c s).blocks (To 0)
  alike c (Declare item) k = refl
  alike c (Empty n) k = refl
  alike c (Evaluate n e) k = refl
  alike c (Block body) k = alike-row c body 0 k
  alike c (If n e a b) k = refl
  alike c (While n e body) k = refl
  alike c (Do n body e) k = refl
  alike c (For n first test after body) k = refl
  alike c (Switch n e labels body) k = refl
  alike c (Break n) k = refl
  alike c (Continue n) k = refl
  alike c (Return n value) k = refl

  alike-row : (c : Context) (ss : Statements) (place k : ℕ)
      → sequence_blocks none_labelled place (runs_of c ss) (To k)
      ≡ sequence_blocks none_labelled place (runs_of c ss) (To 0)
  alike-row c Done place k = refl
  alike-row c (Next s Done) place k = alike c s k
  alike-row c (Next s (Next t others)) place k =
      ap (λ (n : ℕ). (run_of c s).blocks Here + n) (alike-row c (Next t others) (suc place) k)
