-- Sets of the lines of every typed function, and what is live in its graph.
use Rattle.std.proofs.Common.{◌≡◌, false, ℕ, zero, suc, ◌+◌, List, [], ◌∷◌, ◌++◌, inl, inr, refl, sym, subst, arith}
use Rattle.std.proofs.Common.{take}
use Rattle.std.specs.List.{range_with_len}
use Rattle.std.proofs.lemmas.List.Elements.{recursion_from_All}
use Rattle.pcc_base.proofs.Lists.{all-at}
use Rattle.c_tree.specs.declared.types.IntegerType.TheVariants.{Char, Short, Int, UnsignedInt}
use Rattle.c_tree.specs.declared.types.ValueType.{ValueType}
use Rattle.c_tree.specs.declared.types.ValueType.TheVariants.{Void, Integer, Pointer}
use Rattle.c_tree.specs.Program.{Block, Local}
use Rattle.c_tree.specs.WellTyped.{IsTypedFunction}
use Rattle.flow_graph.specs.declared.op.Op.TheVariants as op
use Rattle.flow_graph.specs.Graphs.{Flow}
use Rattle.lower_lines.specs.Expressions.{words_of}
use Rattle.lower_lines.specs.Lines.{Emit}
use Rattle.lower_lines.specs.Programs.{body_run, graph_of_function, no_exits, parameter_of, parameters_lines, words_in}
use Rattle.lower_lines.specs.Statements.{Leaves}
use Rattle.lower_lines.specs.Variables.{Context, Spot, local_spot, local_variables, own}
use Rattle.lower_lines.proofs.Closing.{all-lines-close}
use Rattle.lower_lines.proofs.Shapes.{get-map}
use Rattle.lower_laws.specs.Flows.{Within}
use Rattle.lower_laws.specs.LiveLaws.{AllFixedDie, NoneAtMarks}
use Rattle.lower_laws.specs.Settled.{Agrees, context_in}
use Rattle.lower_laws.proofs.Paths.{flows-suffice}
use Rattle.lower_laws.proofs.Sets.{F, flows-then, keeps, last-less, more-in, one-in, swapped, wider, writes}
use Rattle.lower_laws.specs.SettledLaws.{FunctionsSettle, LivenessHolds}
use Rattle.lower_laws.proofs.SettledStatements.{run-live}

-- ---- parameters

past : (x y : ℕ) (S : List ℕ) → Within (x ∷ S) (x ∷ y ∷ S)
past x y S v (inl e) = inl e
past x y S v (inr is) = inr (inr is)

pub parameter-flows : (c : Context) (B : ℕ → List ℕ) (of : ValueType) (spot : Spot) (word : ℕ) (S : List ℕ)
    → F c B S (parameter_of c of spot word) (words_of of spot ++ S)
parameter-flows c B Void spot word S = λ v is. is
parameter-flows c B (Integer Char) spot word S =
    let y = (own c 0).number in
    writes c B (op.Param y word) y S (spot.number ∷ S) (Emit (op.Low spot.number y) ∷ []) (refl, refl, refl) refl
    (λ v is. absurd is)
    (writes c B (op.Low spot.number y) spot.number (y ∷ S) (spot.number ∷ S) [] (refl, refl, refl) refl
    (one-in (y ∷ S) y (inl refl)) (past spot.number y S))
parameter-flows c B (Integer Short) spot word S =
    let y = (own c 0).number in
    writes c B (op.Param y word) y S (spot.number ∷ S) (Emit (op.Low16 spot.number y) ∷ []) (refl, refl, refl) refl
    (λ v is. absurd is)
    (writes c B (op.Low16 spot.number y) spot.number (y ∷ S) (spot.number ∷ S) [] (refl, refl, refl) refl
    (one-in (y ∷ S) y (inl refl)) (past spot.number y S))
parameter-flows c B (Integer Int) spot word S =
    writes c B (op.Param spot.number word) spot.number S (spot.number ∷ S) [] (refl, refl, refl) refl
    (λ v is. absurd is) (λ v is. is)
parameter-flows c B (Integer UnsignedInt) spot word S =
    writes c B (op.Param spot.number word) spot.number S (spot.number ∷ S) [] (refl, refl, refl) refl
    (λ v is. absurd is) (λ v is. is)
parameter-flows c B (Pointer t) spot word S =
    writes c B (op.Param spot.array word) spot.array S (spot.array ∷ spot.number ∷ S)
    (Emit (op.Param spot.number (suc word)) ∷ []) (refl, refl, refl) refl (λ v is. absurd is)
    (writes c B (op.Param spot.number (suc word)) spot.number (spot.array ∷ S) (spot.array ∷ spot.number ∷ S) []
    (refl, refl, refl) refl (λ v is. absurd is) (swapped c B spot.array spot.number S))

parameters-flow : (c : Context) (B : ℕ → List ℕ) (D : List ℕ) (ls : List Local) (local word : ℕ)
    → F c B D (parameters_lines c ls local word) D
parameters-flow c B D [] local word = λ v is. is
parameters-flow c B D (l ∷ ls) local word =
    let words = words_of l.of (local_spot c local) in
    let rest = parameters_lines c ls (suc local) (word + words_in l.of) in
    flows-then c B D (parameter_of c l.of (local_spot c local) word) rest (words ++ D) D
    (parameter-flows c B l.of (local_spot c local) word D)
    (wider c B D (words ++ D) rest D (more-in words D)
    (parameters-flow c B D ls (suc local) (word + words_in l.of)))

-- ---- sets by the numbers of blocks

abbrev pub set_of : List (List ℕ) → ℕ → List ℕ
set_of [] block = []
set_of (set ∷ sets) zero = set
set_of (set ∷ sets) (suc block) = set_of sets block

agrees-from : (B : ℕ → List ℕ) (block : ℕ) (sets : List (List ℕ)) → ((i : ℕ) → B (block + i) ≡ set_of sets i)
    → Agrees B block sets
agrees-from B block [] h = tt
agrees-from B block (set ∷ sets) h =
    let here : block + 0 ≡ block = omega arith in (
      subst (λ (k : ℕ). B k ≡ set) here (h 0),
      agrees-from B (suc block) sets
          (λ i. let e : block + suc i ≡ suc block + i = omega arith in
          subst (λ (k : ℕ). B k ≡ set_of sets i) e (h (suc i))),
    )

pub own-agrees : (set : List ℕ) (sets : List (List ℕ)) → Agrees (λ block. set_of (set ∷ sets) block) 1 sets
own-agrees set sets = agrees-from (λ block. set_of (set ∷ sets) block) 1 sets
    (λ i. let e : suc i ≡ 1 + i = omega arith in
    subst (λ (k : ℕ). set_of (set ∷ sets) k ≡ set_of sets i) e refl)

-- ---- functions

pub functions-settle : FunctionsSettle
functions-settle p well k f at =
    let functions = recursion_from_All (IsTypedFunction p) p.functions well.functions in
    let typed = all-at (IsTypedFunction p) p.functions k f functions at in
    let c = context_in p f in
    let D = range_with_len 0 (local_variables f) in
    let r = run-live p f functions typed false false (Block f.body) typed.body in
    let s = r.settles no_exits 1 Leaves in
    let B : ℕ → List ℕ = λ block. set_of (D ∷ s.sets) block in
    let parameters = parameters_lines c (take f.parameters f.locals) 0 0 in
    let body = (body_run c).lines no_exits 1 Leaves in (
      B,
      keeps c B op.Turn D [] (parameters ++ body) (refl, refl, refl) (λ v is. absurd is)
          (flows-then c B D parameters body D [] (parameters-flow c B D (take f.parameters f.locals) 0 0)
          (last-less c B D body D [] (λ v is. absurd is)
          (s.flows B (own-agrees D s.sets) ((λ v is. is), (λ v is. is)) tt))),
    )

pub liveness-holds : LivenessHolds
liveness-holds p well k f flow at at' =
    let c = context_in p f in
    let (B, flows) = functions-settle p well k f at in
    let closed = (all-lines-close p well k f at).0.closed in
    let all = flows-suffice p f B closed flows in
    subst (λ (g : Flow). NoneAtMarks (local_variables f) g × AllFixedDie g)
    (sym (get-map (graph_of_function p) p.functions k f flow at at')) (all.1, all.2)
