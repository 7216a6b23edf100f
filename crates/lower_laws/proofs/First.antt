-- No variable is live at a function's first point, where each local is declared before it is named.
use Rattle.std.proofs.Common.{◌≡◌, false, ℕ, suc, ◌+◌, List, [], ◌∷◌, ◌++◌, Some, inl, inr, refl, sym, ap, subst}
use Rattle.std.proofs.Common.{arith, length}
use Rattle.std.specs.Prelude.{slice_get}
use Rattle.std.specs.List.{range_with_len}
use Rattle.std.proofs.lemmas.List.Elements.{recursion_from_All}
use Rattle.pcc_base.proofs.Lists.{all-at}
use Rattle.c_tree.specs.declared.types.ValueType.{ValueType}
use Rattle.c_tree.specs.Evaluation.{type_at, type_of}
use Rattle.c_tree.specs.Program.{Block, Function, Local, Program}
use Rattle.c_tree.specs.WellTyped.{IsTypedFunction, parameters_of}
use Rattle.flow_graph.specs.declared.op.Op.TheVariants as op
use Rattle.flow_graph.specs.Graphs.{Flow, IsIn}
use Rattle.flow_graph.specs.Liveness.{BeginsWith, IsLiveBefore}
use Rattle.lower_lines.specs.Expressions.{words_of}
use Rattle.lower_lines.specs.Programs.{body_run, graph_of_function, no_exits, parameter_of, parameters_lines, words_in}
use Rattle.lower_lines.specs.Statements.{Leaves}
use Rattle.lower_lines.specs.Variables.{Context, local_spot}
use Rattle.lower_lines.proofs.Closing.{all-lines-close}
use Rattle.lower_lines.proofs.Shapes.{get-map}
use Rattle.lower_laws.specs.Flows.{Within}
use Rattle.lower_laws.specs.Settled.{context_in}
use Rattle.lower_laws.proofs.Paths.{flows-suffice}
use Rattle.lower_laws.proofs.Sets.{F, both-in, flows-then, front-in, keeps, last-less, more-in, wider}
use Rattle.lower_laws.specs.Declared.{DeclareFirst}
use Rattle.lower_laws.specs.SettledLaws.{FirstPointsHold}
use Rattle.lower_laws.proofs.LiveDeclared.{run-known}
use Rattle.lower_laws.proofs.SettledFunctions.{own-agrees, parameter-flows, set_of}
use Rattle.lower_laws.proofs.Known.{AreLocals, variables, words_at}
use Rattle.lower_laws.proofs.Passing.{get-take}

module _ (p : Program) (f : Function) where
  abbrev c : Context
  c = context_in p f

  -- locals that stand in the function from a place on
  abbrev StandAt : List Local → ℕ → Type 0
  StandAt ls k = (j : ℕ) (l : Local) → slice_get ls j ≡ Some l → slice_get f.locals (k + j) ≡ Some l

  first-at : (l : Local) (ls : List Local) (k : ℕ) → StandAt (l ∷ ls) k → slice_get f.locals k ≡ Some l
  first-at l ls k at =
      let plain : k + 0 ≡ k = omega arith in subst (λ (n : ℕ). slice_get f.locals n ≡ Some l) plain (at 0 l refl)

  others-at : (l : Local) (ls : List Local) (k : ℕ) → StandAt (l ∷ ls) k → StandAt ls (k + 1)
  others-at l ls k at j m e =
      let next : k + suc j ≡ k + 1 + j = omega arith in
      subst (λ (n : ℕ). slice_get f.locals n ≡ Some m) next (at (suc j) m e)

  are-there : (ls : List Local) (k : ℕ) → StandAt ls k → (v : ℕ) → IsIn v (range_with_len k (length ls))
      → (l : Local) × (slice_get f.locals v ≡ Some l)
  are-there [] k at v is = absurd is
  are-there (l ∷ ls) k at v (inl e) =
      (l, subst (λ (n : ℕ). slice_get f.locals n ≡ Some l) e (first-at l ls k at))
  are-there (l ∷ ls) k at v (inr is) = are-there ls (k + 1) (others-at l ls k at) v is

  -- the parameters' variables are there behind their lines
  parameters-known : (B : ℕ → List ℕ) (ls : List Local) (k word : ℕ) (S : List ℕ) → StandAt ls k
      → F c B S (parameters_lines c ls k word) (variables c (range_with_len k (length ls)) ++ S)
  parameters-known B [] k word S at = λ v is. is
  parameters-known B (l ∷ ls) k word S at =
      let words = words_of l.of (local_spot c k) in
      let rest = parameters_lines c ls (suc k) (word + words_in l.of) in
      let others = variables c (range_with_len (k + 1) (length ls)) in
      let T = (words_at c k ++ others) ++ S in
      let typed : type_at f k ≡ l.of = ap type_of (first-at l ls k at) in
      let same : Within (words_at c k) words =
      subst (λ (s : ValueType). Within (words_of s (local_spot c k)) words) (sym typed) (λ v is. is) in
      let next : k + 1 ≡ suc k = omega arith in
      flows-then c B S (parameter_of c l.of (local_spot c k) word) rest (words ++ S) T
      (parameter-flows c B l.of (local_spot c k) word S)
      (last-less c B (words ++ S) rest (others ++ (words ++ S)) T
      (both-in (words_at c k ++ others) S (others ++ (words ++ S))
      (both-in (words_at c k) others (others ++ (words ++ S))
      (λ v is. more-in others (words ++ S) v (front-in words S v (same v is))) (front-in others (words ++ S)))
      (λ v is. more-in others (words ++ S) v (more-in words S v is)))
      (subst (λ (n : ℕ). F c B (words ++ S) (parameters_lines c ls n (word + words_in l.of))
      (others ++ (words ++ S))) next
      (parameters-known B ls (k + 1) (word + words_in l.of) (words ++ S) (others-at l ls k at))))

pub first-points-hold : FirstPointsHold
first-points-hold p well declared k f flow at at' point v begins live =
    let functions = recursion_from_All (IsTypedFunction p) p.functions well.functions in
    let typed = all-at (IsTypedFunction p) p.functions k f functions at in
    let first = all-at (λ (g : Function). DeclareFirst (range_with_len 0 (length (parameters_of g))) g.body) p.functions
    k
    f (recursion_from_All (λ (g : Function). DeclareFirst (range_with_len 0 (length (parameters_of g))) g.body)
    p.functions declared) at in
    let c = context_in p f in
    let ls = parameters_of f in
    let stand : StandAt p f ls 0 =
    λ j l e. let plain : j ≡ 0 + j = omega arith in
    subst (λ (n : ℕ). slice_get f.locals n ≡ Some l) plain (get-take f.parameters f.locals j l e) in
    let known = range_with_len 0 (length ls) in
    let are : AreLocals p f functions typed known = are-there p f ls 0 stand in
    let D = variables c known in
    let r = run-known p f functions typed false false known are (Block f.body) typed.body first in
    let s = r.settles no_exits 1 Leaves in
    let B : ℕ → List ℕ = λ block. set_of ([] ∷ s.sets) block in
    let parameters = parameters_lines c ls 0 0 in
    let body = (body_run c).lines no_exits 1 Leaves in
    let lines : F c B [] (parameters ++ body) [] =
    flows-then c B [] parameters body (D ++ []) [] (parameters-known p f B ls 0 0 [] stand)
    (last-less c B (D ++ []) body D [] (λ u is. absurd is)
    (wider c B D (D ++ []) body D (front-in D []) (s.flows B (own-agrees [] s.sets)
    ((λ u is. absurd is), (λ u is. absurd is)) tt))) in
    let all = flows-suffice p f B (all-lines-close p well k f at).0.closed
    (keeps c B op.Turn [] [] (parameters ++ body) (refl, refl, refl) (λ u is. absurd is) lines) in
    let same = get-map (graph_of_function p) p.functions k f flow at at' in
    all.0 point v (subst (λ (g : Flow). BeginsWith g 0 point) same begins)
    (subst (λ (g : Flow). IsLiveBefore g v point) same live)
