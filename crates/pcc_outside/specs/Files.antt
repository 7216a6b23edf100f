-- What a call of a file store counts and tells, by cases over its answer.
use Rattle.std.specs.Prelude.{◌≡◌, ◌<◌, ℕ, List, length, Option, Some, None, Result, Ok, Err, Vec, ⊤}
use Rattle.std.specs.declared.alloc.Global.{Global}
use Rattle.pcc_base.specs.Counts.{Rose}
use Rattle.pcc_outside.specs.declared.file_store.ReadRefusal.{ReadRefusal}
use Rattle.pcc_outside.specs.declared.file_store.ReadRefusal.TheVariants.{Missing, TooLong, Failed as ReadFailed}
use Rattle.pcc_outside.specs.declared.file_store.ReadRefusal.TheVariants.{NoMemory as NoReadMemory}
use Rattle.pcc_outside.specs.declared.sink.WriteRefusal.{WriteRefusal}
use Rattle.pcc_outside.specs.declared.sink.WriteRefusal.TheVariants.{Failed as WriteFailed, NoMemory as NoWriteMemory}

pub record StoreCounts : Type 0 where
  pub read_faults : ℕ
  pub write_faults : ℕ
  pub missing : ℕ
  pub too_long : ℕ

-- the counts of a store in which one, and no other, may have risen
abbrev pub OnlyMissing : StoreCounts → StoreCounts → Type 0
OnlyMissing old new = (new.read_faults ≡ old.read_faults) × (new.write_faults ≡ old.write_faults)
    × (new.too_long ≡ old.too_long)

abbrev pub OnlyTooLong : StoreCounts → StoreCounts → Type 0
OnlyTooLong old new = (new.read_faults ≡ old.read_faults) × (new.write_faults ≡ old.write_faults)
    × (new.missing ≡ old.missing)

abbrev pub OnlyReadFaults : StoreCounts → StoreCounts → Type 0
OnlyReadFaults old new = (new.write_faults ≡ old.write_faults) × (new.missing ≡ old.missing)
    × (new.too_long ≡ old.too_long)

abbrev pub OnlyWriteFaults : StoreCounts → StoreCounts → Type 0
OnlyWriteFaults old new = (new.read_faults ≡ old.read_faults) × (new.missing ≡ old.missing)
    × (new.too_long ≡ old.too_long)

-- a store's counts over a read
abbrev pub CountsRead : StoreCounts → StoreCounts → Result (Vec ℕ Global) ReadRefusal → Type 0
CountsRead old new (Ok bytes) = new ≡ old
CountsRead old new (Err Missing) = Rose old.missing new.missing × OnlyMissing old new
CountsRead old new (Err TooLong) = Rose old.too_long new.too_long × OnlyTooLong old new
CountsRead old new (Err ReadFailed) = Rose old.read_faults new.read_faults × OnlyReadFaults old new
CountsRead old new (Err NoReadMemory) = new ≡ old

-- a store's counts over a write
abbrev pub CountsWrite : StoreCounts → StoreCounts → Result Unit WriteRefusal → Type 0
CountsWrite old new (Ok done) = new ≡ old
CountsWrite old new (Err WriteFailed) = Rose old.write_faults new.write_faults × OnlyWriteFaults old new
CountsWrite old new (Err NoWriteMemory) = new ≡ old

-- what a read answers where this content stands under the name
abbrev pub ReadTold : Option (List ℕ) → ℕ → Result (Vec ℕ Global) ReadRefusal → Type 0
ReadTold content most (Ok bytes) = content ≡ Some bytes.items
ReadTold content most (Err Missing) = content ≡ None
ReadTold content most (Err TooLong) = (bytes : List ℕ) × (content ≡ Some bytes) × (most < length bytes)
ReadTold content most (Err ReadFailed) = ⊤
ReadTold content most (Err NoReadMemory) = ⊤

-- what stands under the name before and after a write of these bytes
abbrev pub WriteTold : Option (List ℕ) → Option (List ℕ) → List ℕ → Result Unit WriteRefusal → Type 0
WriteTold old new bytes (Ok done) = new ≡ Some bytes
WriteTold old new bytes (Err WriteFailed) = ⊤
WriteTold old new bytes (Err NoWriteMemory) = new ≡ old
