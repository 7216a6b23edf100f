-- The lines of a `switch`: from its comparisons to a statement of its body, or out.
use Rattle.std.proofs.Common.{◌≡◌, ◌≢◌, ℕ, zero, suc, ◌≤◌, ◌<◌, ◌+◌, Bool, true, false, List, [], ◌∷◌, ◌++◌, length}
use Rattle.std.proofs.Common.{refl, sym, ap, ◌∙◌, subst, arith, append_assoc, Option, Some, None, ℤ, eq-eqb}
use Rattle.std.specs.Prelude.{max, drop, if◌then◌else◌, ◌||◌, ◌==◌, IfSome}
use Rattle.std.specs.List.{AllByRecursion, Contains}
use Rattle.std.proofs.lemmas.List.Elements.{recursion_from_All}
use Rattle.pcc_base.specs.Outcome.{Outcome}
use Rattle.c_eval_laws.specs.Bounds.{state_of}
use Rattle.c_tree.specs.declared.statement.Label.{Label}
use Rattle.c_tree.specs.Evaluation.{Left, Falls, Breaks, Continues, Returns, Runs, after_switch, first_label, is_case}
use Rattle.c_tree.specs.Evaluation.{is_default, none_or_from, or_else, switched}
use Rattle.c_tree.specs.Program.{Function}
use Rattle.c_tree.specs.Store as source
use Rattle.c_tree.specs.Store.{Evaluated, Gives, Ends, Held, HoldsNumber, and_then, visited}
use Rattle.flow_graph.specs.declared.op.Op.TheVariants as op
use Rattle.flow_graph.specs.States as graph
use Rattle.lower_lines.specs.Following.{Begins, Comes, IsSite, MayExit, Site, Stand, at_start}
use Rattle.lower_lines.specs.Following.{behind, context_of, site_lines}
use Rattle.lower_lines.specs.Lines.{Line, Emit, Start, starts_in}
use Rattle.lower_lines.specs.Parts.{operand}
use Rattle.lower_lines.specs.Statements.{After, To, Exits, Labelled, Run, block_or, body_lines, case_of, cases_of}
use Rattle.lower_lines.specs.Statements.{comparing, comparing_blocks, default_block, exit_blocks, exit_lines, exit_of}
use Rattle.lower_lines.specs.Statements.{has_label, labelled_before, labelled_from, opening, opening_blocks}
use Rattle.lower_lines.specs.Statements.{runs_levels, sequence_lines, started, towards}
use Rattle.lower_lines.specs.Variables.{ForScratch, Spot, levels_of, temporary}
use Rattle.lower_laws.proofs.Atoms.{with-older}
use Rattle.lower_laws.proofs.Going.{stand-back, stand-front}
use Rattle.lower_laws.proofs.Operands.{NumberStands, number-operand}
use Rattle.lower_laws.proofs.Comparing.{case_block, comparing-goes, operand-apart, switched-block}
use Rattle.lower_laws.proofs.Onward.{exit-there, exits-from, line-there, start-goes}
use Rattle.lower_laws.proofs.Straight.{behind-mark, left-same}
use Rattle.lower_laws.proofs.Visits.{visited-begins}
use Rattle.lower_laws.proofs.Ways.{from-both, from-goes, from-here, from-then, next-begins, to-run}
use Rattle.lower_laws.specs.Laws.{SwitchesLower}
use Rattle.lower_laws.specs.Ways.{From, Keeping, LeftBy, LowersFrom}
use Rattle.lower_laws.proofs.Switches.{or-true as either-true}

-- ---- labels

-- a label's place is one of a statement, and has a label
abbrev pub IsLabelled : List Label → ℕ → ℕ → Type 0
IsLabelled labels count place = (place < count) × (has_label labels place ≡ true)

places-labelled : (labels ls : List Label) (count : ℕ)
    → ((place : ℕ) → has_label ls place ≡ true → has_label labels place ≡ true)
    → AllByRecursion (λ label. label.before < count) ls
    → AllByRecursion (λ label. IsLabelled labels count label.before) ls
places-labelled labels [] count more inside = tt
places-labelled labels (label ∷ ls) count more inside = (
  (
    inside.0,
    more label.before
        (ap (λ (b : Bool). b || has_label ls label.before) (eq-eqb label.before label.before refl)),
  ),
  places-labelled labels ls count
      (λ place e. more place (either-true (label.before == place) (has_label ls place) e)) inside.1,
)

-- what is found among them
label-found : (labels ls : List Label) (count : ℕ) (chosen : Option ℤ → Bool)
    → AllByRecursion (λ label. IsLabelled labels count label.before) ls
    → IfSome (first_label chosen ls) (IsLabelled labels count)
label-found labels [] count chosen all = tt
label-found labels (label ∷ ls) count chosen all =
    by (chosen label.value) all.0 (label-found labels ls count chosen all.1)
  where
    by : (b : Bool) → IsLabelled labels count label.before
        → IfSome (first_label chosen ls) (IsLabelled labels count)
        → IfSome (if b then Some label.before else first_label chosen ls) (IsLabelled labels count)
    by true here rest = here
    by false here rest = rest

one-or-other : (labels : List Label) (count : ℕ) (one other : Option ℕ) → IfSome one (IsLabelled labels count)
    → IfSome other (IsLabelled labels count) → IfSome (or_else one other) (IsLabelled labels count)
one-or-other labels count None other a b = b
one-or-other labels count (Some place) other a b = a

-- ---- statements of the body by their places

-- the lines of the statements from a place on
suffix-stands : (S : Site) (labelled : Labelled) (rs : List Run) (base k : ℕ) → k < length rs → (exits : Exits)
    (block : ℕ) (after : After) (before : List Line)
    → Stand S before (sequence_lines (context_of S) labelled base rs exits block after)
    → (q : Run) × (qs : List Run) × (drop k rs ≡ q ∷ qs) × (front : List Line) × (inside : ℕ)
    × Stand S front (sequence_lines (context_of S) labelled (base + k) (q ∷ qs) exits inside after)
suffix-stands S labelled [] base k h exits block after before stands = absurd (omega (arith, h))
suffix-stands S labelled (r ∷ rs) base zero h exits block after before stands =
    let plain : base ≡ base + 0 = omega arith in (
      r,
      rs,
      refl,
      before,
      block,
      subst (λ (i : ℕ). Stand S before (sequence_lines (context_of S) labelled i (r ∷ rs) exits block after)) plain
          stands,
    )
suffix-stands S labelled (r ∷ []) base (suc k) h exits block after before stands = absurd (omega (arith, h))
suffix-stands S labelled (r ∷ q ∷ rs) base (suc k) h exits block after before stands =
    let next = towards (labelled (suc base)) in
    let lines = r.lines exits block next in
    let tail = sequence_lines (context_of S) labelled (suc base) (q ∷ rs) exits (block + r.blocks next) after in
    let (p, ps, is, front, inside, there) = suffix-stands S labelled (q ∷ rs) (suc base) k (omega (arith, h)) exits
    (block + r.blocks next) after ((before ++ started (labelled base)) ++ lines)
    (stand-back S (before ++ started (labelled base)) lines tail
    (stand-back S before (started (labelled base)) (lines ++ tail) stands)) in
    let sum : suc base + k ≡ base + suc k = omega arith in (
      p,
      ps,
      is,
      front,
      inside,
      subst (λ (i : ℕ). Stand S front (sequence_lines (context_of S) labelled i (p ∷ ps) exits inside after)) sum there,
    )

body-stands : (S : Site) (labelled : Labelled) (starts : Bool) (rs : List Run) (k : ℕ) → k < length rs
    → (exits : Exits) (block : ℕ) (after : After) (before : List Line)
    → Stand S before (body_lines (context_of S) labelled starts rs exits block after)
    → (q : Run) × (qs : List Run) × (drop k rs ≡ q ∷ qs) × (front : List Line) × (inside : ℕ)
    × Stand S front (sequence_lines (context_of S) labelled k (q ∷ qs) exits inside after)
body-stands S labelled starts [] k h exits block after before stands = absurd (omega (arith, h))
body-stands S labelled starts (r ∷ rs) k h exits block after before stands =
    let plain : 0 + k ≡ k = omega arith in
    subst (λ (i : ℕ). (q : Run) × (qs : List Run) × (drop k (r ∷ rs) ≡ q ∷ qs) × (front : List Line) × (inside : ℕ)
    × Stand S front (sequence_lines (context_of S) labelled i (q ∷ qs) exits inside after)) plain
    (suffix-stands S labelled (r ∷ rs) 0 k h exits (block + opening_blocks starts) after
    (before ++ opening starts block)
    (stand-back S before (opening starts block)
    (sequence_lines (context_of S) labelled 0 (r ∷ rs) exits (block + opening_blocks starts) after) stands))

-- they begin with the start of the block of the first one's label
suffix-starts : (S : Site) (labelled : Labelled) (place : ℕ) (q : Run) (qs : List Run) (exits : Exits) (block : ℕ)
    (after : After) → (rest : List Line)
    × (sequence_lines (context_of S) labelled place (q ∷ qs) exits block after ≡ started (labelled place) ++ rest)
suffix-starts S labelled place q [] exits block after = (q.lines exits block after, refl)
suffix-starts S labelled place q (p ∷ qs) exits block after = (_, refl)

-- the levels of some of the statements
drop-levels : (rs : List Run) (k n : ℕ) → runs_levels rs ≤ n → runs_levels (drop k rs) ≤ n
drop-levels rs zero n h = h
drop-levels [] (suc k) n h = h
drop-levels (r ∷ rs) (suc k) n h = drop-levels rs k n (omega (arith, h))

block-of-label : (block : ℕ) (labels : List Label) (place : ℕ) → has_label labels place ≡ true
    → labelled_from block labels place ≡ Some (block + labelled_before labels place)
block-of-label block labels place e =
    ap (λ (b : Bool). if b then Some (block + labelled_before labels place) else None) e

-- what the body's statements come to, after which control goes to the block behind the switch
switch-left : (S : Site) (active : List Function) (lines whole : List Line) (exit : ℕ) (exits : Exits)
    (from : graph.State) (s : source.State) (g : graph.State) (r : Evaluated Left)
    → From S active 0 from s g (LeftBy S lines (record { breaks = exit; continues = exits.continues }) (To exit)) r
    → From S active 0 from s g (LeftBy S whole exits (To exit)) (and_then r after_switch)
switch-left S active lines whole exit exits from s g (Ends end t) h = h
switch-left S active lines whole exit exits from s g (Gives Falls t) h = h
switch-left S active lines whole exit exits from s g (Gives Breaks t) h = h
switch-left S active lines whole exit exits from s g (Gives Continues t) h = h
switch-left S active lines whole exit exits from s g (Gives (Returns value) t) h = h

switch-turns : (r : Evaluated Left) (n : ℕ) → (state_of r).turns ≤ n → (state_of (and_then r after_switch)).turns ≤ n
switch-turns (Ends end t) n h = h
switch-turns (Gives Falls t) n h = h
switch-turns (Gives Breaks t) n h = h
switch-turns (Gives Continues t) n h = h
switch-turns (Gives (Returns value) t) n h = h

-- ---- from a label on

module _ (S : Site) (site : IsSite S) (continues : Bool) (labels : List Label) (rs : List Run) (from : ℕ → Runs)
    (lowers : (labelled : Labelled) (place : ℕ) → place < length rs
    → LowersFrom S true continues labelled place (drop place rs) (from place))
    (keeping : (place : ℕ) → Keeping S (from place)) (active : List Function) (exits : Exits) (exit first inside : ℕ)
    (before : List Line)
    (stands : Stand S before (body_lines (context_of S) (labelled_from first labels) (has_label labels 0) rs
    (record { breaks = exit; continues = exits.continues }) inside (To exit)))
    (room : runs_levels rs ≤ levels_of S.function) (may : MayExit S true continues (record {
      breaks = exit;
      continues
          = exits.continues;
    }))
    (there : Contains (starts_in (site_lines S)) exit) where
  abbrev inner : Exits
  inner = record { breaks = exit; continues = exits.continues }

  -- the block of a label is one of the function
  pub label-there : (place : ℕ) → IsLabelled labels (length rs) place
      → Contains (starts_in (site_lines S)) (first + labelled_before labels place)
  label-there place (within, has) =
      let (q, qs, is, front, at, there') = body-stands S (labelled_from first labels) (has_label labels 0) rs place
      within
      inner inside (To exit) before stands in
      let (rest, split) = suffix-starts S (labelled_from first labels) place q qs inner at (To exit) in
      line-there S front rest (first + labelled_before labels place)
      (subst (λ (b : Option ℕ). Stand S front (started b ++ rest)) (block-of-label first labels place has)
      (subst (λ (ls : List Line). Stand S front ls) split there'))

  pub label-goes : (whole : List Line) (place : ℕ) → IsLabelled labels (length rs) place → (s : source.State)
      (g : graph.State) → Begins S active s g
      → From S active 0 (at_start S (first + labelled_before labels place) g) s g (LeftBy S whole exits (To exit))
      (and_then (from place s) after_switch)
  label-goes whole place (within, has) s g b =
      let labelled = labelled_from first labels in
      let (q, qs, is, front, at, there') = body-stands S labelled (has_label labels 0) rs place within inner inside
      (To exit) before stands in
      let (rest, split) = suffix-starts S labelled place q qs inner at (To exit) in
      let block = first + labelled_before labels place in
      let start : started (labelled place) ≡ Start block ∷ [] = ap started (block-of-label first labels place has) in
      let stands_start : Stand S front (Start block ∷ rest) =
      subst (λ (ls : List Line). Stand S front (ls ++ rest)) start
      (subst (λ (ls : List Line). Stand S front ls) split there') in
      let follows = subst (λ (ps : List Run). LowersFrom S true continues labelled place ps (from place)) is
      (lowers labelled place within) in
      switch-left S active (front ++ sequence_lines (context_of S) labelled place (q ∷ qs) inner at (To exit)) whole
      exit
      exits (at_start S block g) s g (from place s)
      (from-goes S active 0 (at_start S block g) (behind (front ++ started (labelled place)) g) s g
      (LeftBy S (front ++ sequence_lines (context_of S) labelled place (q ∷ qs) inner at (To exit)) inner (To exit))
      (from place s)
      (λ o k. start-goes S site front rest block g s.turns o b.function stands_start
      (subst (λ (ls : List Line). Comes S s.turns (behind (front ++ ls) g) o) start k))
      (follows.follows active inner at (To exit) front s g there'
      (subst (λ (ps : List Run). runs_levels ps ≤ levels_of S.function) is
      (drop-levels rs place (levels_of S.function) room)) may there b))

  -- the label that the value goes to, or out
  pub switched-goes : (whole : List Line) (m : Option ℕ) → IfSome m (IsLabelled labels (length rs)) → (s : source.State)
      (g : graph.State) → Begins S active s g
      → From S active 0 (at_start S (block_or exit first labels m) g) s g (LeftBy S whole exits (To exit))
      (and_then (none_or_from m from s) after_switch)
  switched-goes whole None labelled s g b =
      from-here S active 0 (at_start S exit g) s g (LeftBy S whole exits (To exit)) Falls b.shows (λ o r. r)
  switched-goes whole (Some place) labelled s g b = label-goes whole place labelled s g b

  -- all blocks that the comparisons may lead to
  pub cases-there : (ls : List Label) → AllByRecursion (λ label. IsLabelled labels (length rs) label.before) ls
      → AllByRecursion (λ one. Contains (starts_in (site_lines S)) one.1) (cases_of first labels ls)
  cases-there [] all = tt
  cases-there (label ∷ ls) all = one-case label.value (label-there label.before all.0) (cases-there ls all.1)
    where
      one-case : (value : Option ℤ)
          → Contains (starts_in (site_lines S)) (first + labelled_before labels label.before)
          → AllByRecursion (λ one. Contains (starts_in (site_lines S)) one.1) (cases_of first labels ls)
          → AllByRecursion (λ one. Contains (starts_in (site_lines S)) one.1)
          (case_of value (first + labelled_before labels label.before) ++ cases_of first labels ls)
      one-case None here rest = rest
      one-case (Some value) here rest = (here, rest)

  pub default-there : (m : Option ℕ) → IfSome m (IsLabelled labels (length rs))
      → Contains (starts_in (site_lines S)) (block_or exit first labels m)
  default-there None all = there
  default-there (Some place) all = label-there place all

-- ---- the whole

then-turns : {A B : Type 0} (r : Evaluated A) (go : A → source.State → Evaluated B) (n : ℕ) → (state_of r).turns ≤ n
    → ((v : A) (t : source.State) → (state_of (go v t)).turns ≤ t.turns) → (state_of (and_then r go)).turns ≤ n
then-turns (Ends end t) go n h next = h
then-turns (Gives v t) go n h next = twice n t.turns (state_of (go v t)).turns h (next v t)
  where
    twice : (a b c : ℕ) → b ≤ a → c ≤ b → c ≤ a
    twice a b c x y = omega (arith, x, y)

from-turns-of : (S : Site) (from : ℕ → Runs) → ((place : ℕ) → Keeping S (from place)) → (m : Option ℕ)
    (s : source.State) → (state_of (none_or_from m from s)).turns ≤ s.turns
from-turns-of S from keeping None s = omega arith
from-turns-of S from keeping (Some place) s = (keeping place s).after.turns

-- a number stands in a variable: it is compared, and what it goes to runs
value-goes : (S : Site) → IsSite S → (continues : Bool) (labels : List Label) (rs : List Run) (from : ℕ → Runs)
    → ((labelled : Labelled) (place : ℕ) → place < length rs
    → LowersFrom S true continues labelled place (drop place rs) (from place))
    → ((place : ℕ) → Keeping S (from place)) → (active : List Function) (exits : Exits) (exit first tests inside : ℕ)
    (before lines rest whole : List Line) (spot : Spot) → spot.number ≢ temporary (context_of S) 0 ForScratch
    → Stand S (before ++ lines)
    (comparing (context_of S) spot.number (default_block exit first labels) (cases_of first labels labels) tests
    ++ (body_lines (context_of S) (labelled_from first labels) (has_label labels 0) rs
    (record { breaks = exit; continues = exits.continues }) inside (To exit) ++ rest))
    → runs_levels rs ≤ levels_of S.function
    → MayExit S true continues (record { breaks = exit; continues = exits.continues })
    → Contains (starts_in (site_lines S)) exit
    → AllByRecursion (λ label. IsLabelled labels (length rs) label.before) labels → (s : source.State)
    (g : graph.State) (r : Evaluated Held) → Begins S active s g → (state_of r).turns ≤ s.turns
    → NumberStands S active before lines 0 spot s g r
    → From S active 0 (behind before g) s g (LeftBy S whole exits (To exit))
    (and_then r (λ v t. and_then (none_or_from (switched labels v) from t) after_switch))
value-goes S site continues labels rs from lowers keeping active exits exit first tests inside before lines rest whole
    spot apart stands room may there labelled s g (Ends end t) b le ends = ends
value-goes S site continues labels rs from lowers keeping active exits exit first tests inside before lines rest whole
    spot apart stands room may there labelled s g (Gives v t) b le (h, us, n, is, shows, keeps, seen, at, goes) =
    let c = context_of S in
    let compared = comparing c spot.number (default_block exit first labels) (cases_of first labels labels) tests in
    let body = body_lines c (labelled_from first labels) (has_label labels 0) rs
    (record { breaks = exit; continues = exits.continues }) inside (To exit) in
    let front = before ++ lines in
    let stands_body = stand-front S (front ++ compared) body rest (stand-back S front compared (body ++ rest) stands) in
    let bt = next-begins S active 0 s t g h b le shows keeps in
    let last = first_label is_default labels in
    let found = label-found labels labels (length rs) (is_case n) labelled in
    let default' = label-found labels labels (length rs) is_default labelled in
    let go : Unit {0} → Runs = λ done u. and_then (none_or_from (switched labels (HoldsNumber n)) from u) after_switch
    in
    subst (λ (w : Held). From S active 0 (behind before g) s g (LeftBy S whole exits (To exit))
    (and_then (none_or_from (switched labels w) from t) after_switch)) (sym is)
    (from-then S active 0 (behind before g) (behind front h) s t g h us (LeftBy S whole exits (To exit)) (go (tt {0}) t)
    keeps seen goes
    (from-both S active 0 (behind front h) t h
    (λ (done : Unit {0}) (u : source.State) (i : graph.State) (o : Outcome). Comes S u.turns
    (at_start S (case_block n (default_block exit first labels) (cases_of first labels labels)) i) o)
    (LeftBy S whole exits (To exit)) (Gives (tt {0}) t) go bt (same t.turns)
    (comparing-goes S site active spot.number n apart (default_block exit first labels)
    (default-there S site continues labels rs from lowers keeping active exits exit first inside (front ++ compared)
    stands_body room may there last default') (cases_of first labels labels)
    (cases-there S site continues labels rs from lowers keeping active exits exit first inside (front ++ compared)
    stands_body room may there labels labelled) tests front (body ++ rest) t h stands bt at)
    (λ done u i bu kept. (
      at_start S (block_or exit first labels (switched labels (HoldsNumber n))) i,
      λ o k. subst (λ (block : ℕ). Comes S u.turns (at_start S block i) o)
          (sym (switched-block n exit first labels)) k,
      switched-goes S site continues labels rs from lowers keeping active exits exit first inside (front ++ compared)
          stands_body room may there whole (switched labels (HoldsNumber n))
          (one-or-other labels (length rs) (first_label (is_case n) labels) last found default') u i bu,
    ))))
  where
    same : (n : ℕ) → n ≤ n
    same n = omega arith

pub switches-lower : SwitchesLower
switches-lower S site breaks continues n u e labels rs run from own of lowers keeping are lowers_from keeping_from =
    record {
      follows = λ active exits block after before s g stands room exit_may may b.
          let c = context_of S in
          let out = exit_of block after in
          let first = block + exit_blocks after in
          let cases = cases_of first labels labels in
          let tests = first + labelled_before labels (length rs) in
          let value = tests + comparing_blocks cases in
          let x = operand c true e in
          let mark = Emit (op.Mark n) ∷ [] in
          let lines = x.lines value 0 in
          let compared = comparing c (x.spot 0).number (default_block out first labels) cases tests in
          let inner : Exits = record { breaks = out; continues = exits.continues } in
          let body = body_lines c (labelled_from first labels) (has_label labels 0) rs inner (value + x.blocks)
          (To out) in
          let last = exit_lines c block after in
          let r2 = body ++ last in
          let r1 = compared ++ r2 in
          let pM = before ++ mark in
          let pV = pM ++ lines in
          let pC = pV ++ compared in
          let pB = pC ++ body in
          let sM = stand-back S before mark (lines ++ r1) stands in
          let sV = stand-back S pM lines r1 sM in
          let sC = stand-back S pV compared r2 sV in
          let sB = stand-back S pC body last sC in
          let whole : pB ++ last ≡ before ++ (mark ++ (lines ++ r1)) =
          append_assoc pC body last ∙ append_assoc pV compared r2 ∙ append_assoc pM lines r1
          ∙ append_assoc before mark (lines ++ r1) in
          let there = exit-there S block after pB sB may in
          let may' : MayExit S true continues inner =
          record { break_goes = λ q. there; continue_goes = exit_may.continue_goes } in
          let v = visited S.listing n s in
          let bv = visited-begins S n active s g b in
          let go : Held → Runs = λ w t. and_then (none_or_from (switched labels w) from t) after_switch in
          let labelled = places-labelled labels labels (length rs) (λ place q. q)
          (recursion_from_All (λ label. label.before < length rs) labels are.inside) in
          to-run S active before (mark ++ (lines ++ r1)) exits after s g (and_then (run v) go)
          (behind-mark S site n own active before (lines ++ r1) s g
          (LeftBy S (before ++ (mark ++ (lines ++ r1))) exits after) (and_then (run v) go) b stands
          (left-same S active (pB ++ last) (before ++ (mark ++ (lines ++ r1))) exits after (behind pM g) v g
          (and_then (run v) go) whole
          (exits-from S site block after active pB pB exits (behind pM g) v g (and_then (run v) go) bv
          (then-turns (run v) go v.turns (keeping v).after.turns
          (λ w t. switch-turns (none_or_from (switched labels w) from t) t.turns
          (from-turns-of S from keeping_from (switched labels w) t))) sB may
          (value-goes S site continues labels rs from lowers_from keeping_from active exits out first tests
          (value + x.blocks) pM lines last pB (x.spot 0) (operand-apart S e run u lowers of) sV
          (most_body e.levels (runs_levels rs) (levels_of S.function) room) may' there labelled v g (run v) bv
          (keeping v).after.turns
          (with-older S.function active (λ calls. Begins S calls v g → NumberStands S calls pM lines 0 (x.spot 0) v g
          (run v)) b.youngest
          (λ older bo. number-operand S older e run u lowers of value 0 pM v g (stand-front S pM lines r1 sM)
          (most_value e.levels (runs_levels rs) (levels_of S.function) room) bo) bv)))));
    }
  where
    most_value : (a b n : ℕ) → max a b ≤ n → 0 + a ≤ n
    most_value a b n h = omega (arith, h)

    most_body : (a b n : ℕ) → max a b ≤ n → b ≤ n
    most_body a b n h = omega (arith, h)
