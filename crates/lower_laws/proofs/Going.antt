-- Lines one after another: how what comes behind them is carried to what comes before.
use Rattle.std.proofs.Common.{◌≡◌, ℕ, List, ◌++◌, sym, ap, ◌∙◌, subst, append_assoc}
use Rattle.pcc_base.specs.Outcome.{Outcome, Visit, after_visits}
use Rattle.c_tree.specs.Store as source
use Rattle.flow_graph.specs.States as graph
use Rattle.lower_lines.specs.Following.{Comes, EndsSo, Site, Stand}
use Rattle.lower_lines.specs.Lines.{Line}

-- from one state of the graphs to another, with the turns that the source has left at each, and these visits between
abbrev pub Goes : Site → ℕ → graph.State → ℕ → graph.State → List Visit → Type 0
Goes S turns g left h visits = (outcome : Outcome) → Comes S left h outcome
    → Comes S turns g (after_visits visits outcome)

pub visits-append : (us vs : List Visit) (o : Outcome) → after_visits us (after_visits vs o) ≡ after_visits (us ++ vs) o
visits-append us vs o = ap (λ (ws : List Visit). record {
  visits = ws;
  taken = o.taken;
  written = o.written;
  end = o.end;
}) (sym (append_assoc us vs o.visits))

pub goes-then : (S : Site) (turns left last : ℕ) (g h i : graph.State) (us vs : List Visit)
    → Goes S turns g left h us → Goes S left h last i vs → Goes S turns g last i (us ++ vs)
goes-then S turns left last g h i us vs first second o r =
    subst (λ (p : Outcome). Comes S turns g p) (visits-append us vs o) (first (after_visits vs o) (second o r))

-- an end behind lines is one before them
pub goes-end : (S : Site) (end : _) (s t u : source.State) (g h : graph.State) (us : List Visit)
    → t.visits ≡ s.visits ++ us → Goes S s.turns g t.turns h us → EndsSo S end t u h → EndsSo S end s u g
goes-end S end s t u g h us visits first (vs, more, comes) = (
  us ++ vs,
  more ∙ ap (λ (ws : List Visit). ws ++ vs) visits ∙ append_assoc s.visits us vs,
  first (record { visits = vs; taken = u.taken; written = u.written; end = end }) comes,
)

-- ---- where lines stand

pub stand-front : (S : Site) (before xs ys : List Line) → Stand S before (xs ++ ys) → Stand S before xs
stand-front S before xs ys (rest, e) = (ys ++ rest, e ∙ ap (λ (ls : List Line). before ++ ls) (append_assoc xs ys rest))

pub stand-back : (S : Site) (before xs ys : List Line) → Stand S before (xs ++ ys) → Stand S (before ++ xs) ys
stand-back S before xs ys (rest, e) = (
  rest,
  e ∙ ap (λ (ls : List Line). before ++ ls) (append_assoc xs ys rest) ∙ sym (append_assoc before xs (ys ++ rest)),
)
