-- Where control goes behind a statement, and blocks of the function that it goes to.
use Rattle.std.proofs.Common.{◌≡◌, ℕ, suc, ◌+◌, ◌*◌, ◌<◌, ◌≤◌, ℤ, pos, List, [], ◌∷◌, ◌++◌, length}
use Rattle.std.proofs.Common.{Option, Some, None, refl, sym, ap, subst, arith, append-nil}
use Rattle.std.specs.List.{Contains}
use Rattle.pcc_base.specs.Outcome.{Number, Outcome}
use Rattle.pcc_base.specs.declared.run.Width.TheVariants.{Two}
use Rattle.c_tree.specs.declared.types.ValueType.{ValueType}
use Rattle.c_tree.specs.declared.types.ValueType.TheVariants.{Void, Integer, Pointer}
use Rattle.c_tree.specs.Evaluation.{Left, Falls, Breaks, Continues, Returns}
use Rattle.c_eval_laws.specs.Bounds.{state_of}
use Rattle.c_tree.specs.Program.{Function}
use Rattle.c_tree.specs.Store as source
use Rattle.c_tree.specs.Store.{Evaluated, Gives, Ends, number_held}
use Rattle.flow_graph.specs.declared.op.Op.TheVariants as op
use Rattle.flow_graph.specs.Meaning.{returns_to}
use Rattle.flow_graph.specs.States as graph
use Rattle.flow_graph.specs.States.{number_of, with_value}
use Rattle.lower_lines.specs.Following.{Begins, Comes, ComesOf, IsSite, MayGo, Site, Stand, at_start, behind}
use Rattle.lower_lines.specs.Following.{context_of, graphs_of, number_returned, site_lines}
use Rattle.lower_lines.specs.Lines.{Line, Start, Emit, starts_in}
use Rattle.lower_lines.specs.Relation.{Shows}
use Rattle.lower_lines.specs.Statements.{After, Here, To, Leaves, Exits, exit_lines, exit_of, left_by, onward}
use Rattle.lower_lines.specs.Variables.{ForNumber, levels_of, local_variables, own}
use Rattle.lower_lines.proofs.Changes.{kept-by-change, temporaries-free}
use Rattle.lower_lines.proofs.Locals.{get-set_same}
use Rattle.lower_lines.proofs.Points.{starts-stand}
use Rattle.lower_lines.proofs.Steps.{const-step, jump-step, return-none, return-step}
use Rattle.lower_laws.proofs.Atoms.{with-older}
use Rattle.lower_laws.proofs.Going.{stand-back, stand-front}
use Rattle.lower_laws.proofs.Made.{start-stands, variable-there}
use Rattle.lower_laws.proofs.Widths.{temporary-width}
use Rattle.lower_laws.specs.Ways.{From, LeftBy}
use Rattle.lower_laws.proofs.Ways.{from-goes, from-here, from-then, next-begins}

-- ---- blocks

contains-line : (before rest : List Line) (block : ℕ) → Contains (starts_in (before ++ (Start block ∷ rest))) block
contains-line [] rest block = (0, omega arith, refl)
contains-line (Start other ∷ before) rest block =
    let (k, h, e) = contains-line before rest block in (suc k, omega (arith, h), e)
contains-line (Emit i ∷ before) rest block = contains-line before rest block

-- a block whose line stands is one of the function
pub line-there : (S : Site) (before rest : List Line) (block : ℕ) → Stand S before (Start block ∷ rest)
    → Contains (starts_in (site_lines S)) block
line-there S before rest block (more, e) =
    subst (λ (ls : List Line). Contains (starts_in ls) block) (sym e) (contains-line before (rest ++ more) block)

-- where it starts is behind the line that starts it
pub start-goes : (S : Site) → IsSite S → (before rest : List Line) (block : ℕ) (g : graph.State) (turns : ℕ) (o :
    Outcome)
    → g.current.function ≡ S.number → Stand S before (Start block ∷ rest)
    → Comes S turns (behind (before ++ Start block ∷ []) g) o → Comes S turns (at_start S block g) o
start-goes S site before rest block g turns o own stands r =
    subst (λ (h : graph.State). Comes S turns h o)
    (sym (starts-stand S site before block g (stand-front S before (Start block ∷ []) rest stands) own).1) r

-- a jump leads to the start of its block
pub jump-goes : (S : Site) → IsSite S → (before rest : List Line) (block : ℕ) (g : graph.State) (turns : ℕ) (o :
    Outcome)
    → g.current.function ≡ S.number → Stand S before (Emit (op.Jump block) ∷ rest)
    → Contains (starts_in (site_lines S)) block → Comes S turns (at_start S block g) o
    → Comes S turns (behind before g) o
jump-goes S site before rest block g turns o own stands there r =
    let (other, starts) = start-stands S block there in
    jump-step S site before g own block turns o other (stand-front S before (Emit (op.Jump block) ∷ []) rest stands)
    starts r

-- ---- a function that is left

pub some-level : (f : Function) → 0 < levels_of f
some-level f = omega arith

-- a number in the temporaries of level 0 is none of what the source shows
pub own-zero-shows : (S : Site) (active : List Function) (s : source.State) (g : graph.State) (n : ℤ)
    → Begins S active s g → Shows S.program active s (with_value (own (context_of S) 0).number (Number n) g)
own-zero-shows S active s g n b =
    with-older S.function active (λ calls. Shows S.program calls s g
    → Shows S.program calls s (with_value (own (context_of S) 0).number (Number n) g)) b.youngest
    (λ older shows. temporaries-free S.program S.function older s g (own (context_of S) 0).number (Number n) shows
    (low (local_variables S.function) (0 * 5))) b.shows
  where
    low : (a b : ℕ) → a ≤ a + b + 1
    low a b = omega arith

pub own-zero-there : (S : Site) (active : List Function) (s : source.State) (g : graph.State) → Begins S active s g
    → (own (context_of S) 0).number < length g.current.variables
own-zero-there S active s g b =
    with-older S.function active (λ calls. Shows S.program calls s g
    → (own (context_of S) 0).number < length g.current.variables) b.youngest
    (λ older shows. variable-there S.program S.function older s g (own (context_of S) 0).number Two shows
    (temporary-width (context_of S) 0 ForNumber (some-level S.function))) b.shows

zero-left : (S : Site) → IsSite S → (active : List Function)
    (before lines : List Line) (exits : Exits) (s : source.State) (g : graph.State) → Begins S active s g
    → number_returned S.function.result None ≡ Some (pos 0)
    → Stand S before (Emit (op.Const (own (context_of S) 0).number (pos 0))
    ∷ Emit (op.Return (Some (own (context_of S) 0).number)) ∷ [])
    → From S active 0 (behind before g) s g (LeftBy S lines exits Leaves) (Gives Falls s)
zero-left S site active before lines exits s g b e stands =
    let x = (own (context_of S) 0).number in
    let h = with_value x (Number (pos 0)) g in
    let set = Emit (op.Const x (pos 0)) in
    let leave = Emit (op.Return (Some x)) in (
      h,
      [],
      own-zero-shows S active s g (pos 0) b,
      (kept-by-change (local_variables S.function) 0 x (Number (pos 0)) g).1 (high (local_variables S.function) (0 *
          5)),
      sym (append-nil s.visits),
      λ o r. const-step S site before g b.function x (pos 0) s.turns o
          (stand-front S before (set ∷ []) (leave ∷ []) stands)
          (temporary-width (context_of S) 0 ForNumber (some-level S.function))
          (return-step S site (before ++ set ∷ []) h b.function x s.turns (pos 0) o
          (stand-back S before (set ∷ []) (leave ∷ []) stands)
          (ap number_of (get-set_same g.current.variables x (Number (pos 0)) (own-zero-there S active s g b)))
          (subst (λ (m : Option ℤ). ComesOf S s.turns h (returns_to (graphs_of S) h h.waiting m) o) e r)),
    )
  where
    high : (a b : ℕ) → a + b ≤ a + b + 1
    high a b = omega arith

-- the lines of a function that returns 0, or nothing
left-goes : (S : Site) → IsSite S → (result : ValueType) → S.function.result ≡ result → (active : List Function)
    (before lines : List Line) (exits : Exits) (s : source.State) (g : graph.State) → Begins S active s g
    → Stand S before (left_by result (context_of S))
    → From S active 0 (behind before g) s g (LeftBy S lines exits Leaves) (Gives Falls s)
left-goes S site Void is active before lines exits s g b stands =
    from-here S active 0 (behind before g) s g (LeftBy S lines exits Leaves) Falls b.shows
    (λ o r. return-none S site before g b.function s.turns o stands
    (subst (λ (m : ValueType). ComesOf S s.turns g (returns_to (graphs_of S) g g.waiting (number_returned m None)) o) is
    r))
left-goes S site (Integer t) is active before lines exits s g b stands =
    zero-left S site active before lines exits s g b (ap (λ (m : ValueType). number_returned m None) is) stands
left-goes S site (Pointer t) is active before lines exits s g b stands =
    zero-left S site active before lines exits s g b (ap (λ (m : ValueType). number_returned m None) is) stands

-- ---- behind a statement

pub onward-goes : (S : Site) → IsSite S → (after : After) (active : List Function) (before : List Line) (exits : Exits)
    (s : source.State) (g : graph.State) → Begins S active s g → Stand S before (onward (context_of S) after)
    → MayGo S after
    → From S active 0 (behind before g) s g (LeftBy S (before ++ onward (context_of S) after) exits after)
    (Gives Falls s)
onward-goes S site Here active before exits s g b stands may =
    from-here S active 0 (behind before g) s g (LeftBy S (before ++ []) exits Here) Falls b.shows
    (λ o r. subst (λ (ls : List Line). Comes S s.turns (behind ls g) o) (append-nil before) r)
onward-goes S site (To block) active before exits s g b stands may =
    from-here S active 0 (behind before g) s g
    (LeftBy S (before ++ onward (context_of S) (To block)) exits (To block)) Falls b.shows
    (λ o r. jump-goes S site before [] block g s.turns o b.function stands may r)
onward-goes S site Leaves active before exits s g b stands may =
    left-goes S site S.function.result refl active before (before ++ onward (context_of S) Leaves) exits s g b stands

-- the block behind a statement to which several ways lead
pub exit-there : (S : Site) (block : ℕ) (after : After) (before : List Line)
    → Stand S before (exit_lines (context_of S) block after) → MayGo S after
    → Contains (starts_in (site_lines S)) (exit_of block after)
exit-there S block Here before stands may = line-there S before [] block stands
exit-there S block (To other) before stands may = may
exit-there S block Leaves before stands may = line-there S before _ block stands

pub exit-goes : (S : Site) → IsSite S → (block : ℕ) (after : After) (active : List Function) (before : List Line)
    (exits : Exits) (s : source.State) (g : graph.State) → Begins S active s g
    → Stand S before (exit_lines (context_of S) block after) → MayGo S after
    → From S active 0 (at_start S (exit_of block after) g) s g
    (LeftBy S (before ++ exit_lines (context_of S) block after) exits after) (Gives Falls s)
exit-goes S site block Here active before exits s g b stands may =
    from-here S active 0 (at_start S block g) s g (LeftBy S (before ++ Start block ∷ []) exits Here) Falls b.shows
    (λ o r. start-goes S site before [] block g s.turns o b.function stands r)
exit-goes S site block (To other) active before exits s g b stands may =
    from-here S active 0 (at_start S other g) s g (LeftBy S (before ++ []) exits (To other)) Falls b.shows (λ o r. r)
exit-goes S site block Leaves active before exits s g b stands may =
    let leave = left_by S.function.result (context_of S) in
    from-goes S active 0 (at_start S block g) (behind (before ++ Start block ∷ []) g) s g
    (LeftBy S (before ++ Start block ∷ leave) exits Leaves) (Gives Falls s)
    (λ o r. start-goes S site before leave block g s.turns o b.function stands r)
    (left-goes S site S.function.result refl active (before ++ Start block ∷ []) (before ++ Start block ∷ leave) exits s
    g b (stand-back S before (Start block ∷ []) leave stands))

-- what goes to the block behind a statement is behind it
pub exits-from : (S : Site) → IsSite S → (block : ℕ) (after : After) (active : List Function)
    (before lines : List Line) (exits : Exits) (from : graph.State) (s : source.State) (g : graph.State)
    (r : Evaluated Left) → Begins S active s g → (state_of r).turns ≤ s.turns
    → Stand S before (exit_lines (context_of S) block after) → MayGo S after
    → From S active 0 from s g (LeftBy S lines exits (To (exit_of block after))) r
    → From S active 0 from s g (LeftBy S (before ++ exit_lines (context_of S) block after) exits after) r
exits-from S site block after active before lines exits from s g (Ends end t) b le stands may ends = ends
exits-from S site block after active before lines exits from s g (Gives Breaks t) b le stands may gives = gives
exits-from S site block after active before lines exits from s g (Gives Continues t) b le stands may gives = gives
exits-from S site block after active before lines exits from s g (Gives (Returns value) t) b le stands may gives = gives
exits-from S site block after active before lines exits from s g (Gives Falls t) b le stands may
    (h, us, shows, keeps, seen, on) =
    from-then S active 0 from (at_start S (exit_of block after) h) s t g h us
    (LeftBy S (before ++ exit_lines (context_of S) block after) exits after) (Gives Falls t) keeps seen on
    (exit-goes S site block after active before exits t h (next-begins S active 0 s t g h b le shows keeps) stands may)
