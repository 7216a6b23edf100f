-- The comparisons of a `switch`, and the block that they lead to.
use Rattle.std.proofs.Common.{◌≡◌, ◌≢◌, ℕ, suc, ◌≤◌, ◌<◌, ◌+◌, ◌*◌, Bool, true, false, List, [], ◌∷◌, ◌++◌, length}
use Rattle.std.proofs.Common.{refl, sym, ap, ◌∙◌, subst, arith, append-nil, Option, Some, None, ℤ}
use Rattle.std.specs.Prelude.{if◌then◌else◌, slice_get}
use Rattle.std.specs.List.{AllByRecursion, Contains}
use Rattle.std.specs.Ordering.{int_eq}
use Rattle.pcc_base.specs.Outcome.{Number, Outcome}
use Rattle.pcc_base.specs.declared.run.Width.TheVariants.{Two}
use Rattle.c_tree.specs.declared.statement.Label.{Label}
use Rattle.c_tree.specs.declared.types.IntegerType.{IntegerType}
use Rattle.c_tree.specs.declared.types.IntegerType.TheVariants.{Char, Short, Int, UnsignedInt}
use Rattle.c_tree.specs.declared.types.ValueType.{ValueType}
use Rattle.c_tree.specs.declared.types.ValueType.TheVariants.{Integer}
use Rattle.c_tree.specs.Evaluation.{first_label, is_case, is_default, or_else, switched, type_of}
use Rattle.c_tree.specs.Program.{Function, Local}
use Rattle.c_tree.specs.Store as source
use Rattle.c_tree.specs.Store.{Evaluated, Gives, Ends, Held, HoldsNumber, and_then}
use Rattle.flow_graph.specs.declared.op.Comparison.TheVariants.{Eq}
use Rattle.flow_graph.specs.declared.op.Op.TheVariants as op
use Rattle.flow_graph.specs.Meaning.{arrays_compared, both, comparison, compared, first_of}
use Rattle.flow_graph.specs.States as graph
use Rattle.flow_graph.specs.States.{array_at, number_at, number_of, with_value}
use Rattle.lower_lines.specs.Following.{Begins, Comes, GoesInto, IsSite, Lowers, Site, Stand, at_start, behind}
use Rattle.lower_lines.specs.Following.{context_of}
use Rattle.lower_lines.specs.Following.{site_lines}
use Rattle.lower_lines.specs.Lines.{Line, Emit, Start, starts_in}
use Rattle.lower_lines.specs.Parts.{Part, operand, standing}
use Rattle.lower_lines.specs.Relation.{Keeps, Shows}
use Rattle.lower_lines.specs.Shown.{first_variable, type_widths}
use Rattle.lower_lines.specs.Statements.{Case, block_or, case_of, cases_of, comparing, default_block}
use Rattle.lower_lines.specs.Statements.{labelled_before}
use Rattle.lower_lines.specs.Variables.{ForScratch, Spot, local_variables, temporary, typed_spot}
use Rattle.lower_lines.proofs.Changes.{kept-by-change, kept-none, temporaries-free}
use Rattle.lower_lines.proofs.Locals.{get-set_other, get-set_same, local-within}
use Rattle.lower_lines.proofs.Steps.{branch-step, const-step}
use Rattle.lower_laws.proofs.Atoms.{with-older}
use Rattle.lower_laws.proofs.Going.{stand-back, stand-front}
use Rattle.lower_laws.proofs.Made.{some-and, start-stands, variable-there}
use Rattle.lower_laws.proofs.Widths.{temporary-width}
use Rattle.lower_laws.proofs.Onward.{jump-goes, line-there, some-level, start-goes}
use Rattle.lower_laws.proofs.Ways.{from-here, from-then}
use Rattle.lower_laws.specs.Ways.{From}

-- ---- the block of a value

-- the block of the first case that has the value
abbrev pub case_block : ℤ → ℕ → List Case → ℕ
case_block n otherwise [] = otherwise
case_block n otherwise (one ∷ cases) = if int_eq n one.0 then one.1 else case_block n otherwise cases

-- which is that of the first label with the value
abbrev IsFound : ℤ → ℕ → ℕ → List Label → List Label → Type 0
IsFound n otherwise block all ls = case_block n otherwise (cases_of block all ls)
    ≡ block_or otherwise block all (first_label (is_case n) ls)

case-found : (n : ℤ) (otherwise block : ℕ) (all ls : List Label) → IsFound n otherwise block all ls
case-found n otherwise block all [] = refl
case-found n otherwise block all (label ∷ ls) = by label.value (case-found n otherwise block all ls)
  where
    test : (b : Bool) → IsFound n otherwise block all ls → (if b then block + labelled_before all label.before
        else case_block n otherwise (cases_of block all ls))
        ≡ block_or otherwise block all (if b then Some label.before else first_label (is_case n) ls)
    test true rest = refl
    test false rest = rest

    by : (value : Option ℤ) → IsFound n otherwise block all ls → case_block n otherwise
        (case_of value (block + labelled_before all label.before) ++ cases_of block all ls)
        ≡ block_or otherwise block all (if is_case n value then Some label.before else first_label (is_case n) ls)
    by None rest = rest
    by (Some value) rest = test (int_eq n value) rest

pub switched-block : (n : ℤ) (exit block : ℕ) (labels : List Label)
    → case_block n (default_block exit block labels) (cases_of block labels labels)
    ≡ block_or exit block labels (switched labels (HoldsNumber n))
switched-block n exit block labels =
    case-found n (default_block exit block labels) block labels labels ∙ by (first_label (is_case n) labels)
  where
    by : (m : Option ℕ) → block_or (block_or exit block labels (first_label is_default labels)) block labels m
        ≡ block_or exit block labels (or_else m (first_label is_default labels))
    by None = refl
    by (Some place) = refl

-- ---- comparisons

module _ (S : Site) (site : IsSite S) (active : List Function) (x : ℕ) (n : ℤ)
    (apart : x ≢ temporary (context_of S) 0 ForScratch) (otherwise : ℕ)
    (there : Contains (starts_in (site_lines S)) otherwise) where
  abbrev z : ℕ
  z = temporary (context_of S) 0 ForScratch

  scratch-shows : (s : source.State) (g : graph.State) (k : ℤ) → Begins S active s g
      → Shows S.program active s (with_value z (Number k) g)
  scratch-shows s g k b =
      with-older S.function active (λ calls. Shows S.program calls s g
      → Shows S.program calls s (with_value z (Number k) g)) b.youngest
      (λ older shows. temporaries-free S.program S.function older s g z (Number k) shows
      (low (local_variables S.function) (0 * 5))) b.shows
    where
      low : (a b : ℕ) → a ≤ a + b + 3
      low a b = omega arith

  scratch-there : (s : source.State) (g : graph.State) → Begins S active s g → z < length g.current.variables
  scratch-there s g b =
      with-older S.function active (λ calls. Shows S.program calls s g → z < length g.current.variables) b.youngest
      (λ older shows. variable-there S.program S.function older s g z Two shows
      (temporary-width (context_of S) 0 ForScratch (some-level S.function))) b.shows

  scratch-keeps : (g : graph.State) (k : ℤ) → Keeps (local_variables S.function) 0 g (with_value z (Number k) g)
  scratch-keeps g k = (kept-by-change (local_variables S.function) 0 z (Number k) g).1
      (high (local_variables S.function) (0 * 5))
    where
      high : (a b : ℕ) → a + b ≤ a + b + 3
      high a b = omega arith

  -- one comparison leads to a block or another
  compares : (s : source.State) (g : graph.State) (k : ℤ) → Begins S active s g → number_at g x ≡ Some n
      → comparison Eq (with_value z (Number k) g) x z ≡ Some (int_eq n k)
  compares s g k b at =
      let last = with_value z (Number k) g in
      let at_x : number_at last x ≡ Some n =
      ap number_of (get-set_other g.current.variables z x (Number k) apart) ∙ at in
      let at_z : number_at last z ≡ Some k =
      ap number_of (get-set_same g.current.variables z (Number k) (scratch-there s g b)) in
      ap (λ (a : Option ℤ). first_of (both a (number_at last z) (compared Eq))
      (arrays_compared Eq (array_at last x) (array_at last z))) at_x
      ∙ ap (λ (a : Option ℤ). first_of (both (Some n) a (compared Eq))
      (arrays_compared Eq (array_at last x) (array_at last z))) at_z

  chosen-there : (holds : Bool) (one two : ℕ) → Contains (starts_in (site_lines S)) one
      → Contains (starts_in (site_lines S)) two
      → (other : List Line) × Stand S other (Start (if holds then one else two) ∷ [])
  chosen-there true one two a b = start-stands S one a
  chosen-there false one two a b = start-stands S two b

  one-comparison : (before rest : List Line) (one two : ℕ) (k : ℤ) (s : source.State) (g : graph.State)
      → Stand S before (Emit (op.Const z k) ∷ (Emit (op.Branch Eq x z one two) ∷ rest))
      → Contains (starts_in (site_lines S)) one → Contains (starts_in (site_lines S)) two → Begins S active s g
      → number_at g x ≡ Some n → (o : Outcome)
      → Comes S s.turns (at_start S (if int_eq n k then one else two) (with_value z (Number k) g)) o
      → Comes S s.turns (behind before g) o
  one-comparison before rest one two k s g stands a b begins at o r =
      let set = Emit (op.Const z k) in
      let branch = Emit (op.Branch Eq x z one two) in
      let (other, starts) = chosen-there (int_eq n k) one two a b in
      const-step S site before g begins.function z k s.turns o (stand-front S before (set ∷ []) (branch ∷ rest) stands)
      (temporary-width (context_of S) 0 ForScratch (some-level S.function))
      (branch-step S site (before ++ set ∷ []) (with_value z (Number k) g) begins.function Eq x z one two (int_eq n k)
      s.turns o other
      (stand-front S (before ++ set ∷ []) (branch ∷ []) rest (stand-back S before (set ∷ []) (branch ∷ rest) stands))
      (compares s g k begins at) starts r)

  -- where they lead
  abbrev pub Leads : ℕ → Unit {0} → source.State → graph.State → Outcome → Type 0
  Leads block done t h o = Comes S t.turns (at_start S block h) o

  scratch-begins : (s : source.State) (g : graph.State) (k : ℤ) → Begins S active s g
      → Begins S active s (with_value z (Number k) g)
  scratch-begins s g k b = record {
    shows = scratch-shows s g k b;
    function = b.function;
    youngest = b.youngest;
    turns = b.turns;
  }

  pub comparing-goes : (cases : List Case) → AllByRecursion (λ one. Contains (starts_in (site_lines S)) one.1) cases
      → (block : ℕ) (before rest : List Line) (s : source.State) (g : graph.State)
      → Stand S before (comparing (context_of S) x otherwise cases block ++ rest) → Begins S active s g
      → number_at g x ≡ Some n
      → From S active 0 (behind before g) s g (Leads (case_block n otherwise cases)) (Gives (tt {0}) s)
  comparing-goes [] all block before rest s g stands b at =
      from-here S active 0 (behind before g) s g (Leads otherwise) (tt {0}) b.shows
      (λ o r. jump-goes S site before rest otherwise g s.turns o b.function stands there r)
  comparing-goes (one ∷ []) all block before rest s g stands b at =
      from-then S active 0 (behind before g) (at_start S (if int_eq n one.0 then one.1 else otherwise)
      (with_value z (Number one.0) g)) s s g (with_value z (Number one.0) g) []
      (Leads (if int_eq n one.0 then one.1 else otherwise)) (Gives (tt {0}) s) (scratch-keeps g one.0)
      (sym (append-nil s.visits)) (one-comparison before rest one.1 otherwise one.0 s g stands all.0 there b at)
      (from-here S active 0 (at_start S (if int_eq n one.0 then one.1 else otherwise) (with_value z (Number one.0) g)) s
      (with_value z (Number one.0) g) (Leads (if int_eq n one.0 then one.1 else otherwise)) (tt {0})
      (scratch-shows s g one.0 b) (λ o r. r))
  comparing-goes (one ∷ other ∷ cases) all block before rest s g stands b at =
      let set = Emit (op.Const z one.0) in
      let branch = Emit (op.Branch Eq x z one.1 block) in
      let tail = comparing (context_of S) x otherwise (other ∷ cases) (suc block) ++ rest in
      let h = with_value z (Number one.0) g in
      let front = (before ++ set ∷ []) ++ branch ∷ [] in
      let s1 = stand-back S before (set ∷ []) (branch ∷ (Start block ∷ tail)) stands in
      let s2 = stand-back S (before ++ set ∷ []) (branch ∷ []) (Start block ∷ tail) s1 in
      let bh = scratch-begins s g one.0 b in
      from-then S active 0 (behind before g) (at_start S (if int_eq n one.0 then one.1 else block) h) s s g h []
      (Leads (case_block n otherwise (one ∷ other ∷ cases))) (Gives (tt {0}) s) (scratch-keeps g one.0)
      (sym (append-nil s.visits))
      (one-comparison before (Start block ∷ tail) one.1 block one.0 s g stands all.0
      (line-there S front tail block s2) b at)
      (by (int_eq n one.0) h bh
      (from-then S active 0 (at_start S block h) (behind (front ++ Start block ∷ []) h) s s h h []
      (Leads (case_block n otherwise (other ∷ cases))) (Gives (tt {0}) s)
      (kept-none (local_variables S.function) 0 h) (sym (append-nil s.visits))
      (λ o r. start-goes S site front tail block h s.turns o bh.function s2 r)
      (comparing-goes (other ∷ cases) all.1 (suc block) (front ++ Start block ∷ []) rest s h
      (stand-back S front (Start block ∷ []) tail s2) bh
      (ap number_of (get-set_other g.current.variables z x (Number one.0) apart) ∙ at))))
    where
      by : (holds : Bool) (h : graph.State) → Begins S active s h
          → From S active 0 (at_start S block h) s h (Leads (case_block n otherwise (other ∷ cases))) (Gives (tt {0}) s)
          → From S active 0 (at_start S (if holds then one.1 else block) h) s h
          (Leads (if holds then one.1 else case_block n otherwise (other ∷ cases))) (Gives (tt {0}) s)
      by true h bh next = from-here S active 0 (at_start S one.1 h) s h (Leads one.1) (tt {0}) bh.shows (λ o r. r)
      by false h bh next = next

-- ---- the variable that is compared is none of those that comparisons set

pub operand-apart : (S : Site) (a : Part) (run : source.State → Evaluated Held) (u : IntegerType) → Lowers S a run
    → a.of ≡ Integer u
    → ((operand (context_of S) true a).spot 0).number ≢ temporary (context_of S) 0 ForScratch
operand-apart S a run u lowers of = by a.stands (λ p e. e)
  where
    by : (stands : Option _) → ((p : _) → stands ≡ Some p → a.stands ≡ Some p)
        → ((standing (context_of S) a stands).spot 0).number ≢ temporary (context_of S) 0 ForScratch
    by None from e = omega (arith, e)
    by (Some p) from e =
        let (k, is, there, gives) = lowers.stands p (from p refl) in
        let (l, l_is, same) = some-and (slice_get S.function.locals k) (λ m. (m.of ≡ a.of) × GoesInto a.of m.of) there
        in
        let v = first_variable S.function.locals k in
        let number : p.number ≡ v =
        ap (λ (q : Spot). q.number) is ∙ ap (λ (o : Option Local). (typed_spot (type_of o) v).number) l_is
        ∙ ap (λ (m : ValueType). (typed_spot m v).number) (same.0 ∙ of) in
        let within = local-within S.function.locals k l l_is in
        let wide : 1 ≤ length (type_widths l.of) = subst (λ (m : ValueType). 1 ≤ length (type_widths m))
        (sym (same.0 ∙ of)) (one-wide u) in
        omega (arith, within, wide, number, e)
      where
        one-wide : (t : IntegerType) → 1 ≤ length (type_widths (Integer t))
        one-wide Char = omega arith
        one-wide Short = omega arith
        one-wide Int = omega arith
        one-wide UnsignedInt = omega arith
