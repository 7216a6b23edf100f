use Rattle.std.proofs.Common.{◌≡◌, ◌-◌, drop, length}
use Rattle.c_check_names.proofs.names.Names.forget_until.Given as goal

abbrev pub invariant-names : goal.invariant-names
invariant-names l = drop (length l.self - l.count) l.self ≡ drop (length l.initial.self - l.count) l.initial.self

abbrev pub decreases-names : goal.decreases-names
decreases-names l = length l.self
