-- `putchar`, the end of a program, and the comma.
use Rattle.std.proofs.Common.{◌≡◌, ℕ, suc, ◌+◌, ◌≤◌, pos, List, [], ◌∷◌, ◌++◌, max}
use Rattle.std.proofs.Common.{true, refl, sym, arith, append-nil}
use Rattle.std.proofs.Math.Nat.{le-max_left, le-max_right}
use Rattle.pcc_base.specs.Outcome.{Ended}
use Rattle.c_tree.specs.declared.types.IntegerType.{IntegerType}
use Rattle.c_tree.specs.declared.types.IntegerType.TheVariants.{Int}
use Rattle.c_tree.specs.declared.types.ValueType.TheVariants.{Void, Integer}
use Rattle.c_tree.specs.Evaluation.{evaluate, low_byte, put}
use Rattle.c_tree.specs.Program.{int}
use Rattle.c_tree.specs.Store as source
use Rattle.c_tree.specs.Store.{Evaluated, Gives, Ends, Held, HoldsNumber, HoldsPointer, and_then}
use Rattle.flow_graph.specs.declared.op.Op.TheVariants as op
use Rattle.flow_graph.specs.States as graph
use Rattle.flow_graph.specs.States.{number_at, with_value}
use Rattle.lower_lines.specs.Expressions.{comma_part, exit_part, number_part, part_of}
use Rattle.lower_lines.specs.Following.{IsSite, Lowers, Site}
use Rattle.lower_lines.specs.Following.{context_of}
use Rattle.lower_lines.specs.Lines.{Start, Emit}
use Rattle.lower_lines.specs.Parts.{Dropped, Part, made, operand}
use Rattle.lower_lines.specs.Relation.{Keeps}
use Rattle.lower_lines.specs.Variables.{levels_of, local_variables}
use Rattle.lower_lines.proofs.Changes.{bytes-written, kept-none}
use Rattle.lower_lines.proofs.Steps.{exit-step, putchar-step}
use Rattle.lower_laws.proofs.Binary.{compound-lowers, trap-ends, turns-fall}
use Rattle.lower_laws.proofs.Converting.{behind-number, behind-part, lowers-fit}
use Rattle.lower_laws.proofs.Going.{stand-back, stand-front}
use Rattle.lower_laws.proofs.Levels.{levels-one, levels-below}
use Rattle.lower_laws.proofs.Made.{number-made}
use Rattle.lower_laws.proofs.Operands.{number-operand}
use Rattle.lower_laws.proofs.Pairs.{Falls}
use Rattle.lower_laws.specs.ExpressionsLaws.{CommasLower, ExitsLower, PutcharsLower}

-- ---- `putchar`

written-kept : (first level : ℕ) (g : graph.State) (bytes : List ℕ)
    → Keeps first level g (record g { written = bytes })
written-kept first level g bytes = let k = kept-none first level g in record {
  function = refl;
  arguments = refl;
  temporaries = λ v low below. refl;
  waiting = k.waiting;
}

pub putchar-lowers : (S : Site) (site : IsSite S) (a : Part) (run : source.State → Evaluated Held) (u : IntegerType)
    → Lowers S a run → a.of ≡ Integer u → 1 ≤ a.levels → Falls run
    → Lowers S (number_part (context_of S) op.Putchar a) (λ s. and_then (run s) put)
putchar-lowers S site a run u la of one falls =
    compound-lowers S (number_part (context_of S) op.Putchar a) _ refl refl
    (λ older block level wanted before s g stands room may b.
    let x = operand (context_of S) true a in
    let ys = made (context_of S) (block + x.blocks) level wanted int
    (λ to. Emit (op.Putchar to.number (x.spot level).number) ∷ []) in
    behind-number S older level before (x.lines block level) ys wanted int (x.spot level) s g (run s) put b (falls s)
    (number-operand S older a run u la of block level before s g (stand-front S before (x.lines block level) ys stands)
    room b)
    (λ n t h at begins. (
      number-made S site older level (before ++ x.lines block level) t
          (record t { written = t.written ++ low_byte (HoldsNumber n) ∷ [] }) h
          (record h { written = h.written ++ low_byte (HoldsNumber n) ∷ [] }) (pos (low_byte (HoldsNumber n))) []
          (λ to. Emit (op.Putchar to.number (x.spot level).number) ∷ [])
          (levels-below level a.levels (levels_of S.function) room one)
          (bytes-written S.program (S.function ∷ older) t h (low_byte (HoldsNumber n)) begins.shows) begins.function
          (written-kept (local_variables S.function) level h (h.written ++ low_byte (HoldsNumber n) ∷ []))
          (sym (append-nil t.visits))
          (λ to takes here o r. putchar-step S site (before ++ x.lines block level) h begins.function to.number
          (x.spot level).number t.turns n o here at r)
          (block + x.blocks) wanted Int (stand-back S before (x.lines block level) ys stands) may,
      tt,
    )))

pub putchars-lower : PutcharsLower
putchars-lower S site e u lowers of =
    putchar-lowers S site (part_of (context_of S) e) (evaluate S.calls e) u lowers of (levels-one (context_of S) e)
    (turns-fall S site e)

-- ---- `exit`

pub exit-lowers : (S : Site) (site : IsSite S) (a : Part) (run : source.State → Evaluated Held) (u : IntegerType)
    → Lowers S a run → a.of ≡ Integer u → Falls run
    → Lowers S (exit_part (context_of S) a) (λ s. and_then (run s) (λ v t. Ends (Ended (low_byte v)) t))
exit-lowers S site a run u la of falls =
    compound-lowers S (exit_part (context_of S) a) _ refl refl
    (λ older block level wanted before s g stands room may b.
    let x = operand (context_of S) true a in
    let ys = Emit (op.Exit (x.spot level).number) ∷ Start block ∷ [] in
    behind-number S older level before (x.lines (suc block) level) ys wanted Void (x.spot level) s g (run s)
    (λ v t. Ends (Ended (low_byte v)) t) b (falls s)
    (number-operand S older a run u la of (suc block) level before s g
    (stand-front S before (x.lines (suc block) level) ys stands) room b)
    (λ n t h at begins. (
      trap-ends S (S.function ∷ older) (before ++ x.lines (suc block) level) t h (Ended (low_byte (HoldsNumber n)))
          begins.shows
          (exit-step S site (before ++ x.lines (suc block) level) h begins.function (x.spot level).number t.turns n
          (stand-front S (before ++ x.lines (suc block) level) (Emit (op.Exit (x.spot level).number) ∷ [])
          (Start block ∷ []) (stand-back S before (x.lines (suc block) level) ys stands)) at),
      tt,
    )))

pub exits-lower : ExitsLower
exits-lower S site e u lowers of =
    exit-lowers S site (part_of (context_of S) e) (evaluate S.calls e) u lowers of (turns-fall S site e)

-- ---- the comma

pub comma-lowers : (S : Site) (site : IsSite S) (a b : Part) (run run' : source.State → Evaluated Held)
    → Lowers S a run → Lowers S b run' → Falls run
    → Lowers S (comma_part a b) (λ s. and_then (run s) (λ v t. run' t))
comma-lowers S site a b run run' la lb falls =
    compound-lowers S (comma_part a b) _ refl refl
    (λ older block level wanted before s g stands room may begins.
    let xs = a.lines block level Dropped in
    let ys = b.lines (block + a.blocks Dropped) level wanted in
    behind-part S older level before xs ys Dropped a.of wanted b.of s g (run s) (λ v t. run' t) tt begins (falls s)
    (lowers-fit S a run la (S.function ∷ older) block level Dropped before s g (stand-front S before xs ys stands)
    (lower-first level a.levels b.levels (levels_of S.function) room) tt begins)
    (λ v t h typed holds again keeps. lowers-fit S b run' lb (S.function ∷ older)
    (block + a.blocks Dropped) level wanted
    (before ++ xs) t h (stand-back S before xs ys stands)
    (lower-second level a.levels b.levels (levels_of S.function) room) may again))
  where
    lower-first : (level i j top : ℕ) → level + max i j ≤ top → level + i ≤ top
    lower-first level i j top h = let m = le-max_left i j in omega (arith, h, m)

    lower-second : (level i j top : ℕ) → level + max i j ≤ top → level + j ≤ top
    lower-second level i j top h = let m = le-max_right i j in omega (arith, h, m)

pub commas-lower : CommasLower
commas-lower S site a b la lb =
    comma-lowers S site (part_of (context_of S) a) (part_of (context_of S) b) (evaluate S.calls a) (evaluate S.calls b)
    la lb (turns-fall S site a)
