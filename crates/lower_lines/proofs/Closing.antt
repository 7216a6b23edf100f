-- The lines of a function start its blocks once each, and close them; their levels are there.
use Rattle.std.proofs.Common.{◌≡◌, ◌≢◌, ◌≤◌, ◌<◌, ℕ, suc, ◌+◌, false, List, [], ◌∷◌, Option}
use Rattle.std.proofs.Common.{Some, None, refl, arith, take}
use Rattle.std.specs.List.{All, AllByRecursion}
use Rattle.std.proofs.lemmas.Bool.Decides.{nat_tests}
use Rattle.std.proofs.lemmas.List.Elements.{All-from_recursion, recursion_from_All}
use Rattle.pcc_base.proofs.Lists.{all-at}
use Rattle.c_tree.specs.declared.types.IntegerType.TheVariants.{Char, Short, Int, UnsignedInt}
use Rattle.c_tree.specs.declared.types.ValueType.{ValueType}
use Rattle.c_tree.specs.declared.types.ValueType.TheVariants.{Void, Integer, Pointer}
use Rattle.c_tree.specs.Program.{Expression, Elements, Text, Item, Scalar, Array, First, Nothing, Evaluated}
use Rattle.c_tree.specs.Program.{Declared, Statement, Declare, Empty, Evaluate, Block, If, While, Do, For}
use Rattle.c_tree.specs.Program.{Switch, Break}
use Rattle.c_tree.specs.Program.{Continue, Return, Statements, Done, Next, Function, Program, Local}
use Rattle.c_tree.specs.Sizes.{first_height, highest, item_height, items_height, option_height, statement_height}
use Rattle.c_tree.specs.Sizes.{statements_height}
use Rattle.c_tree.specs.WellTyped.{IsTypedFunction}
use Rattle.flow_graph.specs.Graphs.{IsDistinct}
use Rattle.lower_lines.specs.Following.{AreLines}
use Rattle.lower_lines.specs.Laws.{AllLinesClose}
use Rattle.lower_lines.specs.Lines.{Line, Start, Emit, starts_in}
use Rattle.lower_lines.specs.Programs.{blocks_of_function, body_run, lines_of_function, no_exits, parameter_of}
use Rattle.lower_lines.specs.Programs.{parameters_lines, words_in}
use Rattle.lower_lines.specs.Statements.{Leaves, elements_levels, first_levels, item_levels, items_levels}
use Rattle.lower_lines.specs.Statements.{levels_if_any}
use Rattle.lower_lines.specs.Statements.{run_of, runs_levels, runs_of}
use Rattle.lower_lines.specs.Variables.{Context, Spot, local_spot}
use Rattle.lower_lines.proofs.Bodies.{runs-laid}
use Rattle.lower_lines.proofs.Filling.{Lays, IsPlain, emit-lays, lays-to, plain-append, plain-then, same, under-one}
use Rattle.lower_lines.proofs.Filling.{start-lays, starting, under}
use Rattle.lower_lines.proofs.Levels.{within}
use Rattle.lower_lines.proofs.Statements.{block-laid}

-- ---- each once

same-one : (x : ℕ) → same x x ≡ 1
same-one x = grind (arith, nat_tests)

same-other : (x y : ℕ) → same x y ≡ 0 → y ≢ x
same-other x y e = λ eq. absurd (grind (arith, nat_tests))

none-same : (x : ℕ) (lines : List Line) → starting x lines ≡ 0 → AllByRecursion (λ q. q ≢ x) (starts_in lines)
none-same x [] e = tt
none-same x (Start y ∷ lines) e = (same-other x y (omega (arith, e)), none-same x lines (omega (arith, e)))
none-same x (Emit i ∷ lines) e = none-same x lines e

pub distinct : (lines : List Line) → ((b : ℕ) → starting b lines ≤ 1) → IsDistinct (starts_in lines)
distinct [] h = tt
distinct (Start x ∷ lines) h =
    let k = h x in
    let o = same-one x in (
      none-same x lines (omega (arith, k, o)),
      distinct lines (λ b. let k' = h b in omega (arith, k')),
    )
distinct (Emit i ∷ lines) h = distinct lines h

pub inside : (n : ℕ) (lines : List Line) → ((b : ℕ) → n ≤ b → starting b lines ≡ 0)
    → AllByRecursion (λ b. b < n) (starts_in lines)
inside n [] h = tt
inside n (Start x ∷ lines) h =
    let o = same-one x in (
      less x n (λ le. let k = h x le in absurd (omega (arith, k, o))),
      inside n lines (λ b le. let k = h b le in omega (arith, k)),
    )
  where
    less : (x n : ℕ) → (n ≤ x → ⊥) → x < n
    less x n h = grind arith
inside n (Emit i ∷ lines) h = inside n lines h

under-none : (b n : ℕ) → n ≤ b → under b n ≡ 0
under-none b n h = grind (arith, nat_tests)

-- ---- parameters

parameter-plain : (c : Context) (of : ValueType) (spot : Spot) (word : ℕ) → IsPlain (parameter_of c of spot word)
parameter-plain c Void spot word = tt
parameter-plain c (Integer Char) spot word = (refl, (refl, tt))
parameter-plain c (Integer Short) spot word = (refl, (refl, tt))
parameter-plain c (Integer Int) spot word = (refl, tt)
parameter-plain c (Integer UnsignedInt) spot word = (refl, tt)
parameter-plain c (Pointer t) spot word = (refl, (refl, tt))

pub parameters-plain : (c : Context) (ls : List Local) (local word : ℕ) → IsPlain (parameters_lines c ls local word)
parameters-plain c [] local word = tt
parameters-plain c (l ∷ ls) local word = plain-append (parameter_of c l.of (local_spot c local) word)
    (parameters_lines c ls (suc local) (word + words_in l.of)) (parameter-plain c l.of (local_spot c local) word)
    (parameters-plain c ls (suc local) (word + words_in l.of))

-- ---- a function

pub function-lays : (p : Program) (f : Function) → All (IsTypedFunction p) p.functions → IsTypedFunction p f
    → Lays 0 (blocks_of_function (record { program = p; function = f })) false false
    (lines_of_function (record { program = p; function = f }))
function-lays p f all typed =
    let c : Context = record { program = p; function = f } in
    let body = block-laid c (runs_of c f.body) (runs-laid p f all typed false false f.body typed.body) in
    let n = (body_run c).blocks Leaves in
    start-lays 0 (suc n) false _ (emit-lays (suc 0) (suc n) false _ _ refl
    (plain-then (suc 0) (suc n) false (parameters_lines c (take f.parameters f.locals) 0 0)
    ((body_run c).lines no_exits 1 Leaves) (parameters-plain c (take f.parameters f.locals) 0 0)
    (lays-to 1 (1 + n) 1 (suc n) refl (omega arith) (body.lays no_exits 1 Leaves))))

pub lines-close : (c : Context) → Lays 0 (blocks_of_function c) false false (lines_of_function c) → AreLines c
lines-close c h = record {
  once = distinct (lines_of_function c)
      (λ b. let f = h.fills b in let u = under-one b (blocks_of_function c) in omega (arith, f, u));
  inside = All-from_recursion (λ b. b < blocks_of_function c) (starts_in (lines_of_function c))
      (inside (blocks_of_function c) (lines_of_function c)
      (λ b le. let f = h.fills b in let u = under-none b (blocks_of_function c) le in omega (arith, f, u)));
  closed = h.closes;
}

-- ---- levels

any-within : (c : Context) (value : Option Expression) → levels_if_any c value ≤ option_height value + 1
any-within c None = omega arith
any-within c (Some e) = within c e

elements-within : (c : Context) (es : List Expression) → elements_levels c es ≤ highest 2 es + 2
elements-within c [] = omega arith
elements-within c (e ∷ es) = let h = within c e in let k = elements-within c es in omega (arith, h, k)

item-within : (c : Context) (item : Item) → item_levels c item ≤ item_height item + 2
item-within c (Scalar n local None) = omega arith
item-within c (Scalar n local (Some e)) = let h = within c e in omega (arith, h)
item-within c (Array n k t (Elements es)) = elements-within c es
item-within c (Array n k t (Text object)) = omega arith

items-within : (c : Context) (items : List Item) → items_levels c items ≤ items_height items + 2
items-within c [] = omega arith
items-within c (item ∷ items) = let h = item-within c item in let k = items-within c items in omega (arith, h, k)

first-within : (c : Context) (first : First) → first_levels c first ≤ first_height first + 2
first-within c Nothing = omega arith
first-within c (Evaluated e) = let h = within c e in omega (arith, h)
first-within c (Declared items) = items-within c items

module _ (c : Context) where
  mutual
    pub statement-within : (x : Statement) → (run_of c x).levels ≤ statement_height x + 2
    statement-within (Declare item) = item-within c item
    statement-within (Empty n) = omega arith
    statement-within (Evaluate n e) = let h = within c e in omega (arith, h)
    statement-within (Block body) = statements-within body
    statement-within (If n e a b) =
        let h = within c e in
        let k = statement-within a in
        let m = statement-within b in
        omega (arith, h, k, m)
    statement-within (While n e s) = let h = within c e in let k = statement-within s in omega (arith, h, k)
    statement-within (Do n s e) = let h = within c e in let k = statement-within s in omega (arith, h, k)
    statement-within (For n first test after s) =
        let h = first-within c first in
        let k = any-within c test in
        let m = any-within c after in
        let l = statement-within s in
        omega (arith, h, k, m, l)
    statement-within (Switch n e labels body) =
        let h = within c e in let k = statements-within body in omega (arith, h, k)
    statement-within (Break n) = omega arith
    statement-within (Continue n) = omega arith
    statement-within (Return n value) = let h = any-within c value in omega (arith, h)

    pub statements-within : (xs : Statements) → runs_levels (runs_of c xs) ≤ statements_height xs + 2
    statements-within Done = omega arith
    statements-within (Next s others) =
        let h = statement-within s in let k = statements-within others in omega (arith, h, k)

pub all-lines-close : AllLinesClose
all-lines-close p well k f at =
    let c : Context = record { program = p; function = f } in
    let typed = all-at (IsTypedFunction p) p.functions k f
    (recursion_from_All (IsTypedFunction p) p.functions well.functions) at in
    (lines-close c (function-lays p f well.functions typed), statements-within c f.body)
