-- Steps without a turn, one after another.
use Rattle.std.proofs.Common.{ℕ, subst, ◌∙◌}
use Rattle.pcc_outside.specs.Streams.{SinkCounts}
use Rattle.c_tree.specs.Program.{Program}
use Rattle.c_eval_state.specs.declared.end.EvalEnd.{EvalEnd}
use Rattle.c_eval.specs.Performs.{Fits}
use Rattle.c_eval.specs.Runs.{EvalCounts}
use Rattle.c_eval.specs.Standing.{BothTell, LeadsOn, Meets, SameCounts, Standing, Steps, Stops, Streams, Tells}
use Rattle.c_eval.specs.declared.next.Turn.{Turn}
use Rattle.c_eval.proofs.Stepping.{same_counts, same_tells}

-- what is known of the way so far, in steps without a turn
pub record Walks (p : Program) (old new : Standing) : Type 0 where
  pub tells : Tells old.streams new.streams
  pub counted : SameCounts old.streams new.streams
  pub fits : Fits new.config
  pub on : BothTell old.streams → (rest : ℕ) → LeadsOn p rest rest old new

-- ---- one thing after another

pub tells_then : (a b d : Streams) → Tells a b → Tells b d → Tells a d
tells_then a b d f g = record { input = λ h. g.input (f.input h); out = λ h. g.out (f.out h) }

pub counts_then : (a b d : Streams) → SameCounts a b → SameCounts b d → SameCounts a d
counts_then a b d f g = record { faults = g.faults ∙ f.faults; counts = g.counts ∙ f.counts }

pub both_then : (a b : Streams) → Tells a b → BothTell a → BothTell b
both_then a b f h = (f.input h.0, f.out h.1)

pub ends_then : (a b : Streams) (faults : ℕ) (counts : SinkCounts) (end : EvalEnd) → SameCounts a b
    → EvalCounts b.faults faults b.counts counts end → EvalCounts a.faults faults a.counts counts end
ends_then a b faults counts end f h =
    subst (λ (c : SinkCounts). EvalCounts a.faults faults c counts end) f.counts
    (subst (λ (n : ℕ). EvalCounts n faults b.counts counts end) f.faults h)

-- ---- steps up to a turn

pub walks_none : (p : Program) (now : Standing) → Fits now.config → Walks p now now
walks_none p now fits = record {
  tells = same_tells now.streams;
  counted = same_counts now.streams;
  fits = fits;
  on = λ both rest turns left taken r. r;
}

pub walks_more : (p : Program) (a b d : Standing) → Walks p a b → Steps p b d → Walks p a d
walks_more p a b d w s = record {
  tells = tells_then a.streams b.streams d.streams w.tells s.tells;
  counted = counts_then a.streams b.streams d.streams w.counted s.counted;
  fits = s.fits;
  on = λ both rest turns left taken r. s.on (both_then a.streams b.streams w.tells both) rest turns left taken
      (w.on both rest turns left taken r);
}

pub walks_meets : (p : Program) (turn : Turn) (a b d : Standing) → Walks p a b → Meets p turn b d → Meets p turn a d
walks_meets p turn a b d w m = record {
  tells = tells_then a.streams b.streams d.streams w.tells m.tells;
  counted = counts_then a.streams b.streams d.streams w.counted m.counted;
  task = m.task;
  is_turn = m.is_turn;
  ahead = m.ahead;
  fits = m.fits;
  on = λ both rest turns left taken r. m.on (both_then a.streams b.streams w.tells both) rest turns left taken
      (w.on both rest turns left taken r);
}

pub walks_stops : (p : Program) (end : EvalEnd) (a b d : Standing) → Walks p a b → Stops p end b d → Stops p end a d
walks_stops p end a b d w s = record {
  tells = tells_then a.streams b.streams d.streams w.tells s.tells;
  counted = ends_then a.streams b.streams d.streams.faults d.streams.counts end w.counted s.counted;
  ends = λ both rest turns left taken r. s.ends (both_then a.streams b.streams w.tells both) rest turns left taken
      (w.on both rest turns left taken r);
}
