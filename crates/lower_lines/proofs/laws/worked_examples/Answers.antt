-- Both outcomes are computed, with the wrapping.
use Rattle.std.proofs.Common.{refl}
use Rattle.std.specs.Int.{int_wrap}
use Rattle.lower_lines.proofs.laws.worked_examples.Goals as goal

pub returns-clause-sum_wraps_short : goal.returns-clause-sum_wraps_short
unfolding int_wrap
returns-clause-sum_wraps_short c = refl

pub returns-clause-sum_wraps : goal.returns-clause-sum_wraps
unfolding int_wrap
returns-clause-sum_wraps c = refl

pub returns-clause-branches : goal.returns-clause-branches
unfolding int_wrap
returns-clause-branches c = refl

pub returns-clause-skips_and_stops_short : goal.returns-clause-skips_and_stops_short
unfolding int_wrap
returns-clause-skips_and_stops_short c = refl

pub returns-clause-skips_and_stops : goal.returns-clause-skips_and_stops
unfolding int_wrap
returns-clause-skips_and_stops c = refl

pub returns-clause-counts_up : goal.returns-clause-counts_up
unfolding int_wrap
returns-clause-counts_up c = refl

pub returns-clause-falls_through : goal.returns-clause-falls_through
unfolding int_wrap
returns-clause-falls_through c = refl

pub returns-clause-nests_calls : goal.returns-clause-nests_calls
unfolding int_wrap
returns-clause-nests_calls c = refl

pub returns-clause-fibonacci_short : goal.returns-clause-fibonacci_short
unfolding int_wrap
returns-clause-fibonacci_short c = refl

pub returns-clause-fibonacci : goal.returns-clause-fibonacci
unfolding int_wrap
returns-clause-fibonacci c = refl

pub returns-clause-walks : goal.returns-clause-walks
unfolding int_wrap
returns-clause-walks c = refl

pub returns-clause-narrows : goal.returns-clause-narrows
unfolding int_wrap
returns-clause-narrows c = refl

pub returns-clause-steps : goal.returns-clause-steps
unfolding int_wrap
returns-clause-steps c = refl

pub returns-clause-statics : goal.returns-clause-statics
unfolding int_wrap
returns-clause-statics c = refl

pub returns-clause-traps : goal.returns-clause-traps
unfolding int_wrap
returns-clause-traps c = refl
