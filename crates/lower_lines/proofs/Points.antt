-- The laws of lines and their graph: the op behind lines, the next point, and the start of a block.
use Rattle.std.proofs.Common.{◌≡◌, ◌≢◌, ℕ, zero, suc, ◌+◌, ◌<◌, Bool, true, false, List, [], ◌∷◌, ◌++◌, length}
use Rattle.std.proofs.Common.{Some, refl, sym, ap, ◌∙◌, subst, arith, length-append, eq-eqb}
use Rattle.std.specs.Prelude.{slice_get, slice_index_or, if◌then◌else◌, ◌==◌}
use Rattle.std.specs.List.{AllByRecursion, range_with_len}
use Rattle.std.proofs.lemmas.List.Elements.{recursion_from_All}
use Rattle.std.proofs.lemmas.Bool.{false≢true}
use Rattle.pcc_base.proofs.Lists.{all-left, all-right, get-seam}
use Rattle.c_tree.specs.Program.{Function, Program}
use Rattle.flow_graph.specs.declared.op.Op.{Op}
use Rattle.flow_graph.specs.Graphs.{Flow, IsDistinct, empty_flow, following, points_of}
use Rattle.flow_graph.specs.Meaning.{Moves, at_point, into_block, onward}
use Rattle.flow_graph.specs.States as graph
use Rattle.flow_graph.specs.States.{entry_of, flow_at, op_at, point_after}
use Rattle.lower_lines.specs.Following.{Closes, IsSite, Site, at_start, behind, context_of, graphs_of, site_lines}
use Rattle.lower_lines.specs.Laws.{NextStands, OpsStand, StartsStand}
use Rattle.lower_lines.specs.Lines.{Line, Start, Emit, ops_in, starts_in, open_after, points_from, points_in}
use Rattle.lower_lines.specs.Programs.{blocks_of_function, graph_of_function, lowered}
use Rattle.lower_lines.proofs.Standing.{closes-parts, following-next, here-open, here_after, not-started, open-append}
use Rattle.lower_lines.proofs.Standing.{open-started, ops-append, points-append, points-below, starts-append}
use Rattle.lower_lines.proofs.Arrays.{index-of-map as index-map}

-- ---- the graph of a function

pub get-range : (a n j : ℕ) → j < n → slice_get (range_with_len a n) j ≡ Some (a + j)
get-range a zero j h = absurd (omega (arith, h))
get-range a (suc n) zero h = let e : a ≡ a + 0 = omega arith in ap Some e
get-range a (suc n) (suc j) h =
    let e : a + 1 + j ≡ a + suc j = omega arith in
    get-range (a + 1) n j (omega (arith, h)) ∙ ap Some e

pub flow-there : (p : Program) (k : ℕ) (f : Function) → slice_get p.functions k ≡ Some f
    → flow_at (lowered p) k ≡ graph_of_function p f
flow-there p k f e = index-map (graph_of_function p) p.functions k f empty_flow e

-- the points of a block that the function has
pub points-there : (S : Site) → IsSite S → (block : ℕ) → block < blocks_of_function (context_of S)
    → points_of (flow_at (graphs_of S) S.number) block ≡ points_in block (site_lines S)
points-there S site block h =
    ap (λ (flow : Flow). points_of flow block) (flow-there S.program S.number S.function site.there)
    ∙ index-map (λ b. points_in b (site_lines S)) (range_with_len 0 (blocks_of_function (context_of S))) block block []
    (get-range 0 (blocks_of_function (context_of S)) block h ∙ ap Some (plain block))
  where
    plain : (n : ℕ) → 0 + n ≡ n
    plain n = omega arith

-- ---- lists

pub distinct-front : (b : ℕ) (xs ys : List ℕ) → IsDistinct (xs ++ b ∷ ys) → AllByRecursion (λ c. c ≢ b) xs
distinct-front b [] ys h = tt
distinct-front b (x ∷ xs) ys h =
    ((λ e. (all-right (λ q. q ≢ x) xs (b ∷ ys) h.0).0 (sym e)), distinct-front b xs ys h.1)

-- ---- what stands behind lines

-- the op of the next line
pub ops-stand : OpsStand
ops-stand S site before i g (rest, e) same =
    ap (λ (k : ℕ). slice_get (flow_at (graphs_of S) k).ops (length (ops_in before))) same
    ∙ ap (λ (flow : Flow). slice_get flow.ops (length (ops_in before)))
    (flow-there S.program S.number S.function site.there)
    ∙ ap (λ (lines : List Line). slice_get (ops_in lines) (length (ops_in before))) e
    ∙ ap (λ (is : List Op). slice_get is (length (ops_in before))) (ops-append before (Emit i ∷ rest))
    ∙ get-seam (ops_in before) i (ops_in rest)

-- the block that is open behind lines is one of the function
pub open-inside : (S : Site) → IsSite S → (before rest : List Line) → site_lines S ≡ before ++ rest
    → Closes false before true → open_after 0 before < blocks_of_function (context_of S)
open-inside S site before rest e c =
    let inside = recursion_from_All (λ b. b < blocks_of_function (context_of S)) (starts_in (site_lines S))
    site.lines.inside in
    let front = all-left (λ b. b < blocks_of_function (context_of S)) (starts_in before) (starts_in rest)
    (subst (λ (bs : List ℕ). AllByRecursion (λ b. b < blocks_of_function (context_of S)) bs)
    (ap starts_in e ∙ starts-append before rest) inside) in
    open-started (λ b. b < blocks_of_function (context_of S)) 0 false before c (λ f. absurd (false≢true f)) front

-- the open block has the point of the next op, and then that of one behind it
points-behind : (before rest : List Line) (i j : Op) → Closes false before true
    → following (length (ops_in before)) (points_in (open_after 0 before) (before ++ (Emit i ∷ Emit j ∷ rest)))
    ≡ Some (suc (length (ops_in before)))
points-behind before rest i j c =
    let n = length (ops_in before) in
    let o = open_after 0 before in
    let front = points_from o 0 false before in
    let plain : 0 + n ≡ n = omega arith in
    let here : here_after o false before ≡ true =
    here-open o 0 false false before c (λ f. absurd (false≢true f)) ∙ eq-eqb o o refl in
    ap (following n) (points-append o 0 false before (Emit i ∷ Emit j ∷ rest)
    ∙ ap (λ (k : ℕ). front ++ points_from o k (here_after o false before) (Emit i ∷ Emit j ∷ rest)) plain
    ∙ ap (λ (b : Bool). front ++ points_from o n b (Emit i ∷ Emit j ∷ rest)) here)
    ∙ following-next n (suc n) front (points_from o (suc (suc n)) true rest)
    (subst (λ (k : ℕ). AllByRecursion (λ q. q < k) front) plain (points-below o 0 false before))

-- a state at a point of a block
abbrev at_place : graph.State → ℕ → ℕ → graph.State
at_place g block point = record g { block = block; point = point }

-- behind one line more
behind-op : (before : List Line) (i : Op) (g : graph.State)
    → at_place g (open_after 0 before) (suc (length (ops_in before))) ≡ behind (before ++ Emit i ∷ []) g
behind-op before i g =
    let more : suc (length (ops_in before)) ≡ length (ops_in (before ++ Emit i ∷ [])) =
    one (ops_in before) i ∙ ap (λ (is : List Op). length is) (sym (ops-append before (Emit i ∷ []))) in
    ap (λ (b : ℕ). at_place g b (suc (length (ops_in before)))) (sym (open-append 0 before (Emit i ∷ [])))
    ∙ ap (at_place g (open_after 0 (before ++ Emit i ∷ []))) more
  where
    one : (is : List Op) (i : Op) → suc (length is) ≡ length (is ++ i ∷ [])
    one is i = omega (arith, length-append is (i ∷ []))

-- the next point, where a block stays open
next-of : (S : Site) → IsSite S → (before rest : List Line) (i : Op) (g : graph.State)
    → site_lines S ≡ before ++ (Emit i ∷ rest) → Closes false before true → Closes true rest false
    → g.current.function ≡ S.number → onward (graphs_of S) (behind before g) ≡ Moves (behind (before ++ Emit i ∷ []) g)
next-of S site before [] i g e c d same = absurd (false≢true (sym d))
next-of S site before (Start b ∷ rest) i g e c d same = absurd (false≢true (sym d.0))
next-of S site before (Emit j ∷ rest) i g e c d same =
    let n = length (ops_in before) in
    let o = open_after 0 before in
    let next : point_after (graphs_of S) g.current.function o n ≡ Some (suc n) =
    ap (λ (k : ℕ). point_after (graphs_of S) k o n) same
    ∙ ap (following n) (points-there S site o (open-inside S site before (Emit i ∷ Emit j ∷ rest) e c))
    ∙ ap (λ (lines : List Line). following n (points_in o lines)) e
    ∙ points-behind before rest i j c in
    ap (at_point o (behind before g)) next ∙ ap Moves (behind-op before i g)

pub next-stands : NextStands
next-stands S site before i g (rest, e) plain same =
    let parts = closes-parts false false before (Emit i ∷ rest)
    (subst (λ (lines : List Line). Closes false lines false) e site.lines.closed) in
    next-of S site before rest i g e (subst (λ (b : Bool). Closes false before b) parts.2.0 parts.1)
    (subst (λ (b : Bool). Closes (if b then false else true) rest false) plain parts.2.1) same

-- ---- blocks

-- a block that starts has its first point there
points-start : (before rest : List Line) (block : ℕ) (j : Op) → AllByRecursion (λ b. b ≢ block) (starts_in before)
    → points_in block (before ++ (Start block ∷ Emit j ∷ rest))
    ≡ length (ops_in before) ∷ points_from block (suc (length (ops_in before))) true rest
points-start before rest block j other =
    let n = length (ops_in before) in
    let plain : 0 + n ≡ n = omega arith in
    points-append block 0 false before (Start block ∷ Emit j ∷ rest)
    ∙ ap (λ (ps : List ℕ). ps ++ points_from block (0 + n) (block == block) (Emit j ∷ rest))
    (not-started block 0 before other)
    ∙ ap (λ (k : ℕ). points_from block k (block == block) (Emit j ∷ rest)) plain
    ∙ ap (λ (b : Bool). points_from block n b (Emit j ∷ rest)) (eq-eqb block block refl)

behind-start : (before : List Line) (block : ℕ) (g : graph.State)
    → at_place g block (length (ops_in before)) ≡ behind (before ++ Start block ∷ []) g
behind-start before block g =
    ap (λ (b : ℕ). at_place g b (length (ops_in before))) (sym (open-append 0 before (Start block ∷ [])))
    ∙ ap (λ (is : List Op). at_place g (open_after 0 (before ++ Start block ∷ [])) (length is))
    (sym (ops-append before (Start block ∷ []) ∙ nothing (ops_in before)))
  where
    nothing : (is : List Op) → is ++ [] ≡ is
    nothing [] = refl
    nothing (i ∷ is) = ap (λ (js : List Op). i ∷ js) (nothing is)

start-of : (S : Site) → IsSite S → (before rest : List Line) (block : ℕ) (g : graph.State)
    → site_lines S ≡ before ++ (Start block ∷ rest) → Closes true rest false
    → g.current.function ≡ S.number → (into_block (graphs_of S) block g ≡ Moves (at_start S block g))
    × (at_start S block g ≡ behind (before ++ Start block ∷ []) g)
start-of S site before [] block g e d same = absurd (false≢true (sym d))
start-of S site before (Start b ∷ rest) block g e d same = absurd (false≢true (sym d.0))
start-of S site before (Emit j ∷ rest) block g e d same =
    let n = length (ops_in before) in
    let starts : starts_in (site_lines S) ≡ starts_in before ++ block ∷ starts_in rest =
    ap starts_in e ∙ starts-append before (Start block ∷ Emit j ∷ rest) in
    let other = distinct-front block (starts_in before) (starts_in rest)
    (subst (λ (bs : List ℕ). IsDistinct bs) starts site.lines.once) in
    let inside = (all-right (λ b. b < blocks_of_function (context_of S)) (starts_in before) (block ∷ starts_in rest)
    (subst (λ (bs : List ℕ). AllByRecursion (λ b. b < blocks_of_function (context_of S)) bs) starts
    (recursion_from_All (λ b. b < blocks_of_function (context_of S)) (starts_in (site_lines S))
    site.lines.inside))).0 in
    let points : points_in block (site_lines S) ≡ n ∷ points_from block (suc n) true rest =
    ap (points_in block) e ∙ points-start before rest block j other in
    let first : slice_index_or (points_in block (site_lines S)) 0 0 ≡ n =
    ap (λ (ps : List ℕ). slice_index_or ps 0 0) points in
    let entry : entry_of (graphs_of S) g.current.function block ≡ Some n =
    ap (λ (k : ℕ). entry_of (graphs_of S) k block) same
    ∙ ap (λ (ps : List ℕ). slice_get ps 0) (points-there S site block inside ∙ points) in (
      ap (at_point block g) entry ∙ ap (λ (k : ℕ). Moves (at_place g block k)) (sym first),
      ap (at_place g block) first ∙ behind-start before block g,
    )

pub starts-stand : StartsStand
starts-stand S site before block g (rest, e) same =
    let parts = closes-parts false false before (Start block ∷ rest)
    (subst (λ (lines : List Line). Closes false lines false) e site.lines.closed) in
    start-of S site before rest block g e parts.2.1 same
