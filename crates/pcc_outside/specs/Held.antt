-- What contracts see of the files in memory.
use Rattle.std.specs.Prelude.{ℕ, List, Option, option_map}
use Rattle.std.specs.BTreeMap.{get_by_text}
use Rattle.pcc_outside.specs.declared.mem_files.MemFiles.{MemFiles}
use Rattle.pcc_outside.specs.Calls.{Calls}
use Rattle.pcc_outside.specs.Files.{StoreCounts}

-- the bytes under a name
abbrev pub held : MemFiles → List ℕ → Option (List ℕ)
held store name = option_map (λ v. v.items) (get_by_text store.files name)

-- how many calls there were, and which fail
abbrev pub store_calls : MemFiles → Calls
store_calls store = store.log

-- how often each answer that has a count was given
abbrev pub store_counts : MemFiles → StoreCounts
store_counts store = record {
  read_faults = store.read_faults;
  write_faults = store.write_faults;
  missing =
      store.missing;
  too_long = store.too_long;
}
