-- Counts of faults and refusals, which never fall.
use Rattle.std.specs.Prelude.{ℕ, ◌<◌, ◌≤◌, ◌⊎◌, ◌≡◌}

-- where a count of 64 bits stands still
abbrev pub last_count : ℕ
last_count = 0xffff_ffff_ffff_ffff

-- A count rose: it is greater, or it stands at its last value. That no count rose is the denial of this.
abbrev pub Rose : ℕ → ℕ → Type 0
Rose old new = (old ≤ new) × ((old < new) ⊎ (new ≡ last_count))
