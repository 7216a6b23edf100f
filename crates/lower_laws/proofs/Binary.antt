-- Operators on two numbers, whatever is wanted of them.
use Rattle.std.proofs.Common.{◌≡◌, ℕ, suc, ◌+◌, ◌<◌, ◌≤◌, Bool, true, false, ℤ, pos, List, [], ◌∷◌, ◌++◌, max}
use Rattle.std.proofs.Common.{Option, Some, None, refl, sym, ap, ◌∙◌, subst, arith, append_assoc, append-nil}
use Rattle.std.proofs.Math.Nat.{le-max_right}
use Rattle.std.specs.Prelude.{if◌then◌else◌}
use Rattle.pcc_base.specs.Outcome.{End, Trapped}
use Rattle.c_eval_laws.proofs.Agreeing.{trees_keep}
use Rattle.c_tree.specs.declared.expression.BinaryOp.{BinaryOp}
use Rattle.c_tree.specs.declared.expression.BinaryOp.TheVariants.{Multiply, Divide, Remainder, Add, Subtract, ShiftLeft}
use Rattle.c_tree.specs.declared.expression.BinaryOp.TheVariants.{ShiftRight, Less, Greater, LessOrEqual}
use Rattle.c_tree.specs.declared.expression.BinaryOp.TheVariants.{GreaterOrEqual, Equal, NotEqual, BitAnd, BitXor}
use Rattle.c_tree.specs.declared.expression.BinaryOp.TheVariants.{BitOr}
use Rattle.c_tree.specs.declared.types.IntegerType.{IntegerType}
use Rattle.c_tree.specs.declared.types.IntegerType.TheVariants.{Int}
use Rattle.c_tree.specs.declared.types.ValueType.{ValueType}
use Rattle.c_tree.specs.declared.types.ValueType.TheVariants.{Integer}
use Rattle.c_tree.specs.Evaluation.{computed, evaluate}
use Rattle.c_tree.specs.Operators.{Computed, Computes, Traps, binary_value, is_signed, number, numbers_type}
use Rattle.c_tree.specs.Operators.{numbers_value, working_type}
use Rattle.c_tree.specs.Program.{Expression, Function, int, value_type}
use Rattle.c_tree.specs.Store as source
use Rattle.c_tree.specs.Store.{Evaluated, Gives, Ends, Held, HoldsNumber, HoldsPointer, and_then}
use Rattle.flow_graph.specs.Running.{outcome_at}
use Rattle.flow_graph.specs.States as graph
use Rattle.flow_graph.specs.States.{number_at}
use Rattle.lower_lines.specs.Expressions.{binary_part, part_of}
use Rattle.lower_lines.specs.Following.{Begins, Comes, EndsSo, Follows, GivesOf, IsSite, Lowers, MayWant, Site, Stand}
use Rattle.lower_lines.specs.Following.{behind, context_of}
use Rattle.lower_lines.specs.Lines.{Line, Emit}
use Rattle.lower_lines.specs.Operators.{NumberTest, applied, branching, computing, on_numbers, test_branch, test_of}
use Rattle.lower_lines.specs.Parts.{Wanted, Dropped, Own, ToLocal, Tests, Part, made, operand, target, tested}
use Rattle.lower_lines.specs.Relation.{Shows}
use Rattle.lower_lines.specs.Variables.{Spot, levels_of, local_variables}
use Rattle.lower_lines.proofs.Changes.{kept-none}
use Rattle.lower_lines.proofs.Steps.{answer_at, test-step}
use Rattle.lower_laws.proofs.Atoms.{with-older}
use Rattle.lower_laws.proofs.Going.{stand-back, stand-front}
use Rattle.lower_laws.proofs.Made.{number-made, start-stands}
use Rattle.lower_laws.proofs.Pairs.{BothStand, Falls, IsPlaced, SecondStands, both-operands, first_lines}
use Rattle.lower_laws.proofs.Pairs.{operand-placed, second_lines}
use Rattle.lower_laws.proofs.Retyped.{retyped-lowers}
use Rattle.lower_laws.proofs.Unary.{follows-behind}
use Rattle.lower_laws.proofs.Working.{Works, answer, answer-is, answer-value, computing-works}
use Rattle.lower_laws.specs.ExpressionsLaws.{BinariesLower}

-- ---- what works follows

-- a trap behind lines
pub trap-ends : (S : Site) (active : List Function) (before : List Line) (t : source.State) (g : graph.State)
    (end : End)
    → Shows S.program active t g → Comes S t.turns (behind before g) (outcome_at g end)
    → EndsSo S end t t (behind before g)
trap-ends S active before t g end shows comes = (
  [],
  sym (append-nil t.visits),
  subst (λ (k : ℕ). Comes S t.turns (behind before g) (record {
    visits = [];
    taken = k;
    written = t.written;
    end = end;
  })) shows.taken
      (subst (λ (bytes : List ℕ). Comes S t.turns (behind before g) (record {
        visits = [];
        taken = g.taken;
        written = bytes;
        end = end;
      })) shows.written comes),
)

pub works-follow : (S : Site) (site : IsSite S) (older : List Function) (level : ℕ) (ops : ℕ → List Line)
    (before : List Line) (t : source.State) (g : graph.State) (c : Computed) (block : ℕ) (wanted : Wanted)
    (u : IntegerType) → level < levels_of S.function → Shows S.program (S.function ∷ older) t g
    → g.current.function ≡ S.number
    → Works S (S.function ∷ older) level ops before t g c
    → Stand S before (made (context_of S) block level wanted (Integer u) (λ to. ops to.number)) → MayWant S wanted
    (Integer u)
    → Follows S (S.function ∷ older) before (made (context_of S) block level wanted (Integer u)
    (λ to. ops to.number)) level
    wanted (Integer u) t g (computed c t)
works-follow S site older level ops before t g (Computes (HoldsNumber r)) block wanted u room shows fits
    (h, shown, keeps, goes) stands may =
    number-made S site older level before t t g h r [] (λ to. ops to.number) room shown (keeps.function ∙ fits) keeps
    (sym (append-nil t.visits)) goes block wanted u stands may
works-follow S site older level ops before t g (Computes (HoldsPointer array index)) block wanted u room shows fits
    works
    stands may = absurd works
works-follow S site older level ops before t g (Traps trap) block wanted u room shows fits works stands may =
    trap-ends S (S.function ∷ older) before t g (Trapped trap) shows
    (works (target (context_of S) level wanted)
    (stand-front S before (ops (target (context_of S) level wanted).number) (tested (context_of S) block level wanted
    (Integer u))
    stands))

-- ---- a comparison that is tested

-- a branch goes where the answer of its test does
test-follows : (S : Site) (site : IsSite S) (active : List Function) (level : ℕ) (before : List Line)
    (t : source.State) (g : graph.State) (test : NumberTest) (x y yes' no' : ℕ) (holds : Bool)
    → Shows S.program active t g → g.current.function ≡ S.number → answer_at test g x y ≡ Some holds
    → Stand S before (Emit (test_branch test x y yes' no') ∷ []) → MayWant S (Tests yes' no') int
    → Follows S active before (Emit (test_branch test x y yes' no') ∷ []) level (Tests yes' no') int t g
    (Gives (HoldsNumber (if holds then pos 1 else pos 0)) t)
test-follows S site active level before t g test x y yes' no' true shows fits answers stands may =
    let (other, starts) = start-stands S yes' may.1 in (
      g,
      [],
      shows,
      kept-none (local_variables S.function) level g,
      tt,
      sym (append-nil t.visits),
      λ o r. test-step S site before g fits test x y yes' no' true t.turns o other stands answers starts r,
    )
test-follows S site active level before t g test x y yes' no' false shows fits answers stands may =
    let (other, starts) = start-stands S no' may.2 in (
      g,
      [],
      shows,
      kept-none (local_variables S.function) level g,
      tt,
      sym (append-nil t.visits),
      λ o r. test-step S site before g fits test x y yes' no' false t.turns o other stands answers starts r,
    )

module _ (S : Site) (site : IsSite S) (older : List Function) (level x y : ℕ) (m n : ℤ) (before : List Line)
    (t : source.State) (g : graph.State) (fits : g.current.function ≡ S.number)
    (shows : Shows S.program (S.function ∷ older) t g) (room : level < levels_of S.function)
    (at_x : number_at g x ≡ Some m) (at_y : number_at g y ≡ Some n) (px : IsPlaced S level x)
    (py : IsPlaced S (suc level) y) (within : IntegerType) (operator : BinaryOp) where
  otherwise-follows : (block : ℕ) (wanted : Wanted)
      → Stand S before (made (context_of S) block level wanted int
      (λ to. computing (context_of S) level within operator to.number x y)) → MayWant S wanted int
      → Follows S (S.function ∷ older) before (made (context_of S) block level wanted int
      (λ to. computing (context_of S) level within operator to.number x y)) level wanted int t g
      (computed (numbers_value within operator m n) t)
  otherwise-follows block wanted stands may =
      works-follow S site older level (λ to. computing (context_of S) level within operator to x y) before t g
      (numbers_value within operator m n) block wanted Int room shows fits
      (computing-works S site older level x y m n before t g fits shows room at_x at_y px py within operator)
      stands may

  by-test : (test : Option NumberTest) → test_of within operator ≡ test → (block : ℕ) (wanted : Wanted)
      → Stand S before (branching test wanted (made (context_of S) block level wanted int
      (λ to. computing (context_of S) level within operator to.number x y)) x y) → MayWant S wanted int
      → Follows S (S.function ∷ older) before (branching test wanted (made (context_of S) block level wanted int
      (λ to. computing (context_of S) level within operator to.number x y)) x y) level wanted int t g
      (computed (numbers_value within operator m n) t)
  by-test None e block wanted stands may = otherwise-follows block wanted stands may
  by-test (Some test) e block Dropped stands may = otherwise-follows block Dropped stands may
  by-test (Some test) e block Own stands may = otherwise-follows block Own stands may
  by-test (Some test) e block (ToLocal k) stands may = otherwise-follows block (ToLocal k) stands may
  by-test (Some test) e block (Tests yes' no') stands may =
      subst (λ (c : Computed). Follows S (S.function ∷ older) before (Emit (test_branch test x y yes' no') ∷ []) level
      (Tests yes' no') int t g (computed c t)) (answer-value within operator test m n e)
      (test-follows S site (S.function ∷ older) level before t g test x y yes' no' (answer test m n) shows fits
      (answer-is test g x y m n at_x at_y) stands may)

  pub numbers-follow : (block : ℕ) (wanted : Wanted)
      → Stand S before (on_numbers (context_of S) block level wanted within operator x y) → MayWant S wanted int
      → Follows S (S.function ∷ older) before (on_numbers (context_of S) block level wanted within operator x y) level
      wanted int t g (computed (numbers_value within operator m n) t)
  numbers-follow block wanted stands may = by-test (test_of within operator) refl block wanted stands may

-- ---- behind two operands

number-typed : (S : Site) (active : List Function) (within : IntegerType) (operator : BinaryOp) (m n : ℤ)
    (t : source.State) (c : Computed) → numbers_value within operator m n ≡ c
    → GivesOf S.program active int (computed c t)
number-typed S active within operator m n t (Computes (HoldsNumber r)) e = tt
number-typed S active within operator m n t (Traps trap) e = tt
number-typed S active within operator m n t (Computes (HoldsPointer array index)) e =
    absurd (never operator array index e)
  where
    either : (b : Bool) (trap : _) (r : ℤ) (array : _) (index : ℤ)
        → (if b then Traps trap else number r) ≡ Computes (HoldsPointer array index) → ⊥
    either true trap r array index e = cc
    either false trap r array index e = cc

    -- with signs or without
    in_both : (signed b b' : Bool) (trap : _) (r r' : ℤ) (array : _) (index : ℤ)
        → (if signed then (if b then Traps trap else number r) else (if b' then Traps trap else number r'))
        ≡ Computes (HoldsPointer array index) → ⊥
    in_both true b b' trap r r' array index e = either b trap r array index e
    in_both false b b' trap r r' array index e = either b' trap r' array index e

    never : (operator : BinaryOp) (array : _) (index : ℤ)
        → numbers_value within operator m n ≡ Computes (HoldsPointer array index) → ⊥
    never Multiply array index e = cc
    never Divide array index e = in_both (is_signed within) _ _ _ _ _ array index e
    never Remainder array index e = in_both (is_signed within) _ _ _ _ _ array index e
    never Add array index e = cc
    never Subtract array index e = cc
    never ShiftLeft array index e = cc
    never ShiftRight array index e = cc
    never Less array index e = cc
    never Greater array index e = cc
    never LessOrEqual array index e = cc
    never GreaterOrEqual array index e = cc
    never Equal array index e = cc
    never NotEqual array index e = cc
    never BitAnd array index e = cc
    never BitXor array index e = cc
    never BitOr array index e = cc

-- lines that follow, and give what is of their type
abbrev pub Fits : Site → List Function → List Line → List Line → ℕ → Wanted → ValueType → source.State → graph.State
    → Evaluated Held → Type 0
Fits S active before lines level wanted of s g r =
    Follows S active before lines level wanted of s g r × GivesOf S.program active of r

module _ (S : Site) (site : IsSite S) (older : List Function) (level x y : ℕ) (before xs : List Line)
    (block : ℕ) (wanted : Wanted) (within : IntegerType) (operator : BinaryOp) (s : source.State) (g : graph.State)
    (room : level < levels_of S.function) (px : IsPlaced S level x) (py : IsPlaced S (suc level) y)
    (stands : Stand S before (xs ++ on_numbers (context_of S) block level wanted within operator x y))
    (may : MayWant S wanted int) (own : g.current.function ≡ S.number) where
  second-fits : (first : Held) (r : Evaluated Held)
      → SecondStands S (S.function ∷ older) before xs level x y first s g r
      → Fits S (S.function ∷ older) before (xs ++ on_numbers (context_of S) block level wanted within operator x y) level
      wanted int s g (and_then r (λ second u. computed (binary_value within operator first second) u))
  second-fits first (Ends end u) ends = (ends, tt)
  second-fits first (Gives second u) (h, us, m, n, is, is', shows, keeps, seen, at_x, at_y, goes) =
      subst (λ (v : Held). Fits S (S.function ∷ older) before
      (xs ++ on_numbers (context_of S) block level wanted within operator x y) level wanted int s g
      (computed (binary_value within operator v second) u)) (sym is)
      (subst (λ (v : Held). Fits S (S.function ∷ older) before
      (xs ++ on_numbers (context_of S) block level wanted within operator x y) level wanted int s g
      (computed (binary_value within operator (HoldsNumber m) v) u)) (sym is') (
        follows-behind S (S.function ∷ older) before xs
            (on_numbers (context_of S) block level wanted within operator x y) level wanted int s u g h us
            (computed (numbers_value within operator m n) u) keeps seen goes
            (numbers-follow S site older level x y m n (before ++ xs) u h (keeps.function ∙ own) shows room at_x at_y px
            py within operator block wanted
            (stand-back S before xs (on_numbers (context_of S) block level wanted within operator x y) stands) may),
        number-typed S (S.function ∷ older) within operator m n u (numbers_value within operator m n) refl,
      ))

  both-fit : (run : source.State → Evaluated Held) (r : Evaluated Held)
      → BothStand S (S.function ∷ older) before xs level x y s g r run
      → Fits S (S.function ∷ older) before (xs ++ on_numbers (context_of S) block level wanted within operator x y) level
      wanted int s g
      (and_then r (λ first t. and_then (run t) (λ second u. computed (binary_value within operator first second) u)))
  both-fit run (Ends end t) ends = (ends, tt)
  both-fit run (Gives first t) both = second-fits first (run t) both

-- ---- parts

-- a part that is no name, number or string, by what its lines do in the youngest call
pub compound-lowers : (S : Site) (part : Part) (run : source.State → Evaluated Held) → part.simple ≡ false
    → part.stands ≡ None
    → ((older : List Function) (block level : ℕ) (wanted : Wanted) (before : List Line) (s : source.State)
    (g : graph.State) → Stand S before (part.lines block level wanted) → level + part.levels ≤ levels_of S.function
    → MayWant S wanted part.of → Begins S (S.function ∷ older) s g
    → Fits S (S.function ∷ older) before (part.lines block level wanted) level wanted part.of s g (run s))
    → Lowers S part run
compound-lowers S part run no_name nowhere fits = record {
  follows = λ active block level wanted before s g stands room may begins.
      with-older S.function active (λ calls. Begins S calls s g
      → Follows S calls before (part.lines block level wanted) level wanted part.of s g (run s)) begins.youngest
      (λ older b. (fits older block level wanted before s g stands room may b).0) begins;
  typed = λ active block level wanted before s g stands room may begins.
      with-older S.function active (λ calls. Begins S calls s g → GivesOf S.program calls part.of (run s))
      begins.youngest (λ older b. (fits older block level wanted before s g stands room may b).1) begins;
  simple = λ same active s g begins. absurd (both-ways part.simple no_name same);
  stands = λ spot same. absurd (both-spots part.stands spot nowhere same);
}
  where
    both-ways : (b : Bool) → b ≡ false → b ≡ true → ⊥
    both-ways b e f = cc

    both-spots : (o : Option Spot) (spot : Spot) → o ≡ None → o ≡ Some spot → ⊥
    both-spots o spot e f = cc

-- both of two operands, by operator and the type that it works in
abbrev pub after_both : IntegerType → BinaryOp → (source.State → Evaluated Held) → (source.State → Evaluated Held)
    → source.State → Evaluated Held
after_both within operator run run' s =
    and_then (run s) (λ first t. and_then (run' t) (λ second u. computed (binary_value within operator first second) u))

-- the lines of an operator whose operands are of these types
abbrev binary_lines : Site → BinaryOp → Part → Part → ValueType → ValueType → ℕ → ℕ → Wanted → List Line
binary_lines S operator a b p q block level wanted =
    first_lines S a b block level ++ (second_lines S a b block level
    ++ applied (context_of S) (block + (operand (context_of S) b.simple a).blocks
    + (operand (context_of S) true b).blocks) level wanted operator p q
    ((operand (context_of S) b.simple a).spot level) ((operand (context_of S) true b).spot (suc level)))

pub binary-fits : (S : Site) (site : IsSite S) (older : List Function) (operator : BinaryOp) (a b : Part)
    (run run' : source.State → Evaluated Held) (t u : IntegerType) → Lowers S a run → a.of ≡ Integer t
    → Lowers S b run' → b.of ≡ Integer u → Falls run → (block level : ℕ) (wanted : Wanted)
    (before : List Line) (s : source.State) (g : graph.State)
    → Stand S before (binary_lines S operator a b a.of b.of block level wanted)
    → level + max a.levels (suc b.levels) ≤ levels_of S.function → MayWant S wanted int
    → Begins S (S.function ∷ older) s g
    → Fits S (S.function ∷ older) before (binary_lines S operator a b a.of b.of block level wanted) level wanted int s g
    (after_both (numbers_type operator t u) operator run run' s)
binary-fits S site older operator a b run run' t u la of lb of' falls block level wanted before s g stands room
    may begins =
    subst (λ (p : ValueType). Fits S (S.function ∷ older) before (binary_lines S operator a b p b.of block level wanted)
    level wanted int s g (after_both (numbers_type operator t u) operator run run' s)) (sym of)
    (subst (λ (q : ValueType). Fits S (S.function ∷ older) before
    (binary_lines S operator a b (Integer t) q block level wanted) level wanted int s g
    (after_both (numbers_type operator t u) operator run run' s)) (sym of')
    (subst (λ (ls : List Line). Fits S (S.function ∷ older) before ls level wanted int s g
    (after_both (numbers_type operator t u) operator run run' s))
    (append_assoc (first_lines S a b block level) (second_lines S a b block level) last)
    (both-fit S site older level ((operand (context_of S) b.simple a).spot level).number
    ((operand (context_of S) true b).spot (suc level)).number before
    (first_lines S a b block level ++ second_lines S a b block level) behind_both wanted
    (numbers_type operator t u) operator s g deeper
    (operand-placed S a run t b.simple la of level) (operand-placed S b run' u true lb of' (suc level)) both may
    begins.function run' (run s)
    (both-operands S older a b run run' t u la of lb of' falls block level before s g
    (stand-front S before (first_lines S a b block level ++ second_lines S a b block level) last both) room begins))))
  where
    behind_both : ℕ
    behind_both = block + (operand (context_of S) b.simple a).blocks + (operand (context_of S) true b).blocks

    last : List Line
    last = on_numbers (context_of S) behind_both level wanted (numbers_type operator t u) operator
        ((operand (context_of S) b.simple a).spot level).number ((operand (context_of S) true b).spot
        (suc level)).number

    deeper : level < levels_of S.function
    deeper = let m = le-max_right a.levels (suc b.levels) in omega (arith, room, m)

    both : Stand S before ((first_lines S a b block level ++ second_lines S a b block level) ++ last)
    both =
        subst (λ (ls : List Line). Stand S before ls)
        (sym (append_assoc (first_lines S a b block level) (second_lines S a b block level) last))
        (subst (λ (q : ValueType). Stand S before (binary_lines S operator a b (Integer t) q block level wanted)) of'
        (subst (λ (p : ValueType). Stand S before (binary_lines S operator a b p b.of block level wanted)) of stands))

-- an evaluation leaves no more turns than there were
pub turns-fall : (S : Site) → IsSite S → (e : Expression) → Falls (evaluate S.calls e)
turns-fall S site e s = ((trees_keep S.bound S.calls site.keeps).expressions e s).after.turns

pub binary-lowers : (S : Site) (site : IsSite S) (operator : BinaryOp) (a b : Part)
    (run run' : source.State → Evaluated Held) (t u : IntegerType) → Lowers S a run → a.of ≡ Integer t
    → Lowers S b run' → b.of ≡ Integer u → Falls run
    → Lowers S (binary_part (context_of S) int operator a b) (after_both (numbers_type operator t u) operator run run')
binary-lowers S site operator a b run run' t u la of lb of' falls =
    compound-lowers S (binary_part (context_of S) int operator a b) _ refl refl
    (λ older block level wanted before s g stands room may begins.
    binary-fits S site older operator a b run run' t u la of lb of' falls block level wanted before s g stands
    room may begins)

-- the type that an operator works in whose operands are of these integer types
pub works-in : (operator : BinaryOp) (p q : ValueType) (t u : IntegerType) → p ≡ Integer t → q ≡ Integer u
    → numbers_type operator t u ≡ working_type operator p q
works-in operator p q t u is is' =
    sym (ap (λ (o : ValueType). working_type operator o q) is
    ∙ ap (λ (o : ValueType). working_type operator (Integer t) o) is')

pub binaries-lower : BinariesLower
binaries-lower S site of operator a b t u ta tb la at lb bt =
    retyped-lowers S (binary_part (context_of S) int operator (part_of (context_of S) a) (part_of (context_of S) b)) _ Int
    of refl refl
    (subst (λ (w : IntegerType). Lowers S
    (binary_part (context_of S) int operator (part_of (context_of S) a) (part_of (context_of S) b))
    (after_both w operator (evaluate S.calls a) (evaluate S.calls b)))
    (works-in operator (value_type a) (value_type b) t u ta tb)
    (binary-lowers S site operator (part_of (context_of S) a) (part_of (context_of S) b) (evaluate S.calls a)
    (evaluate S.calls b) t u la at lb bt (turns-fall S site a)))
