-- Statements in order, and blocks.
use Rattle.std.proofs.Common.{◌≡◌, ℕ, suc, ◌≤◌, ◌+◌, List, [], ◌∷◌, ◌++◌, refl, ◌∙◌, subst, arith}
use Rattle.std.proofs.Common.{append_assoc, append-nil, Option, Some, None}
use Rattle.std.specs.Prelude.{max}
use Rattle.pcc_base.specs.Outcome.{Outcome}
use Rattle.c_eval_laws.specs.Bounds.{state_of}
use Rattle.c_tree.specs.Evaluation.{Left, Falls, Breaks, Continues, Returns, Runs, after_statement}
use Rattle.c_tree.specs.Program.{Function}
use Rattle.c_tree.specs.Store as source
use Rattle.c_tree.specs.Store.{Evaluated, Gives, Ends, and_then}
use Rattle.flow_graph.specs.States as graph
use Rattle.lower_lines.specs.Following.{Begins, Comes, IsSite, MayGo, Site, Stand, behind, context_of}
use Rattle.lower_lines.specs.Lines.{Line}
use Rattle.lower_lines.specs.Statements.{After, Exits, Labelled, Run, none_labelled, onward}
use Rattle.lower_lines.specs.Statements.{runs_levels, sequence_lines, started, towards}
use Rattle.lower_lines.specs.Variables.{levels_of}
use Rattle.lower_laws.proofs.Going.{stand-back, stand-front}
use Rattle.lower_laws.proofs.Onward.{line-there, onward-goes, start-goes}
use Rattle.lower_laws.proofs.Straight.{left-same}
use Rattle.lower_laws.proofs.Ways.{from-then, next-begins, of-run, to-run}
use Rattle.lower_laws.specs.Laws.{BlocksLower, EmptyBlocksLower, LastsLower, SequencesLower}
use Rattle.lower_laws.specs.Ways.{From, LeftBy}

pub empty-blocks-lower : EmptyBlocksLower
empty-blocks-lower S site breaks continues = record {
  follows = λ active exits block after before s g stands room exit may b.
      to-run S active before (onward (context_of S) after) exits after s g (Gives Falls s)
      (onward-goes S site after active before exits s g b stands may);
}

pub blocks-lower : BlocksLower
blocks-lower S breaks continues r rs run lowers = record {
  follows = λ active exits block after before s g stands room exit may b.
      let lines = sequence_lines (context_of S) none_labelled 0 (r ∷ rs) exits block after in
      to-run S active before lines exits after s g (run s)
      (subst (λ (ls : List Line). From S active 0 (behind ls g) s g (LeftBy S (before ++ lines) exits after) (run s))
      (append-nil before) (lowers.follows active exits block after before s g stands room exit may b));
}

-- behind the last statement nothing is left to do
last-same : (r : Evaluated Left) → r ≡ and_then r (after_statement (λ t. Gives Falls t))
last-same (Ends end t) = refl
last-same (Gives Falls t) = refl
last-same (Gives Breaks t) = refl
last-same (Gives Continues t) = refl
last-same (Gives (Returns value) t) = refl

pub lasts-lower : LastsLower
lasts-lower S site breaks continues labelled place r run lowers = record {
  follows = λ active exits block after before s g stands room exit may b.
      let start = started (labelled place) in
      let lines = r.lines exits block after in
      subst (λ (q : Evaluated Left). From S active 0 (behind (before ++ start) g) s g
      (LeftBy S (before ++ (start ++ lines)) exits after) q) (last-same (run s))
      (left-same S active ((before ++ start) ++ lines) (before ++ (start ++ lines)) exits after
      (behind (before ++ start) g) s g (run s) (append_assoc before start lines)
      (of-run S active (before ++ start) lines exits after s g (run s)
      (lowers.follows active exits block after (before ++ start) s g (stand-back S before start lines stands)
      (most r.levels (levels_of S.function) room) exit may b)));
}
  where
    most : (a n : ℕ) → max a 0 ≤ n → a ≤ n
    most a n h = omega (arith, h)

-- where control goes from one statement to the next is behind the start of its block
next-may : (S : Site) (block : Option ℕ) (before rest : List Line) → Stand S before (started block ++ rest)
    → MayGo S (towards block)
next-may S None before rest stands = tt
next-may S (Some block) before rest stands = line-there S before rest block stands

next-goes : (S : Site) → IsSite S → (block : Option ℕ) (before rest : List Line) (exits : Exits) (t : source.State)
    (h : graph.State) (o : Outcome) → h.current.function ≡ S.number → Stand S before (started block ++ rest)
    → Comes S t.turns (behind (before ++ started block) h) o → LeftBy S before exits (towards block) Falls t h o
next-goes S site None before rest exits t h o own stands r =
    subst (λ (ls : List Line). Comes S t.turns (behind ls h) o) (append-nil before) r
next-goes S site (Some block) before rest exits t h o own stands r =
    start-goes S site before rest block h t.turns o own stands r

-- one statement, and then the others where it goes on to them
pub statement-then : (S : Site) (active : List Function) (front whole : List Line) (next after : After) (exits : Exits)
    (from : graph.State) (s : source.State) (g : graph.State) (r : Evaluated Left) (others : Runs) → Begins S active s g
    → (state_of r).turns ≤ s.turns → From S active 0 from s g (LeftBy S front exits next) r
    → ((t : source.State) (h : graph.State) → Begins S active t h → (m : graph.State)
    × ((o : Outcome) → Comes S t.turns m o → LeftBy S front exits next Falls t h o)
    × From S active 0 m t h (LeftBy S whole exits after) (others t))
    → From S active 0 from s g (LeftBy S whole exits after) (and_then r (after_statement others))
statement-then S active front whole next after exits from s g (Ends end t) others b le ends go = ends
statement-then S active front whole next after exits from s g (Gives Breaks t) others b le gives go = gives
statement-then S active front whole next after exits from s g (Gives Continues t) others b le gives go = gives
statement-then S active front whole next after exits from s g (Gives (Returns value) t) others b le gives go = gives
statement-then S active front whole next after exits from s g (Gives Falls t) others b le
    (h, us, shows, keeps, seen, on) go =
    let (m, leads, then') = go t h (next-begins S active 0 s t g h b le shows keeps) in
    from-then S active 0 from m s t g h us (LeftBy S whole exits after) (others t) keeps seen
    (λ o k. on o (leads o k)) then'

pub sequences-lower : SequencesLower
sequences-lower S site breaks continues labelled place r q rs run others lowers keeping rest = record {
  follows = λ active exits block after before s g stands room exit may b.
      let c = context_of S in
      let start = started (labelled place) in
      let next = labelled (suc place) in
      let lines = r.lines exits block (towards next) in
      let tail = sequence_lines c labelled (suc place) (q ∷ rs) exits (block + r.blocks (towards next)) after in
      let front = (before ++ start) ++ lines in
      let stands_lines = stand-back S before start (lines ++ tail) stands in
      let stands_tail = stand-back S (before ++ start) lines tail stands_lines in
      let whole : front ++ tail ≡ before ++ (start ++ (lines ++ tail)) =
      append_assoc (before ++ start) lines tail ∙ append_assoc before start (lines ++ tail) in
      let (behind_start, split) = tail-starts S labelled (suc place) q rs exits (block + r.blocks (towards next))
      after in
      let stands_next = subst (λ (ls : List Line). Stand S front ls) split stands_tail in
      left-same S active (front ++ tail) (before ++ (start ++ (lines ++ tail))) exits after
      (behind (before ++ start) g) s g (and_then (run s) (after_statement others)) whole
      (statement-then S active front (front ++ tail) (towards next) after exits (behind (before ++ start) g) s g (run s)
      others b (keeping s).after.turns
      (of-run S active (before ++ start) lines exits (towards next) s g (run s)
      (lowers.follows active exits block (towards next) (before ++ start) s g
      (stand-front S (before ++ start) lines tail stands_lines)
      (most r.levels (runs_levels (q ∷ rs)) (levels_of S.function) room) exit
      (next-may S next front behind_start stands_next) b))
      (λ t h bt. (
        behind (front ++ started next) h,
        λ o k. next-goes S site next front behind_start exits t h o bt.function stands_next k,
        rest.follows active exits (block + r.blocks (towards next)) after front t h stands_tail
            (others_most r.levels (runs_levels (q ∷ rs)) (levels_of S.function) room) exit may bt,
      )));
}
  where
    most : (a b n : ℕ) → max a b ≤ n → a ≤ n
    most a b n h = omega (arith, h)

    others_most : (a b n : ℕ) → max a b ≤ n → b ≤ n
    others_most a b n h = omega (arith, h)

    tail-starts : (S : Site) (labelled : Labelled) (place : ℕ) (q : Run) (rs : List Run) (exits : Exits) (block : ℕ)
        (after : After) → (rest : List Line)
        × (sequence_lines (context_of S) labelled place (q ∷ rs) exits block after
        ≡ started (labelled place) ++ rest)
    tail-starts S labelled place q [] exits block after = (q.lines exits block after, refl)
    tail-starts S labelled place q (p ∷ rs) exits block after = (_, refl)
