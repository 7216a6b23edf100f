use Rattle.std.proofs.Common.{◌≡◌, ◌-◌, ◌*◌, ◌/◌, ◌^◌, ◌++◌}
use Rattle.map_text.specs.Words.{hexadecimal}
use Rattle.map_text.proofs.digits.push_address.Given as goal

-- the digits so far are those of the number without the digits that are left
abbrev pub invariant-loop-place : goal.invariant-loop-place
invariant-loop-place l = l.out.items ≡ l.initial.out.items ++ hexadecimal l.place (l.address / 2 ^ (4 * (8 - l.place)))
