-- What the top call is lent, as contracts see it: a store of files, an input, an output, and standard error.
use Rattle.std.specs.Prelude.{◌≡◌, ◌≢◌, ◌++◌, ℕ, List, Option}
use Rattle.pcc_outside.specs.Files.{StoreCounts}
use Rattle.pcc_outside.specs.Streams.{SinkCounts}
use Rattle.pcc_outside.specs.declared.file_store.FileStore as file_store
use Rattle.pcc_outside.specs.declared.sink.Sink as sink
use Rattle.pcc_outside.specs.declared.source.Source as source

-- what is held under each name
abbrev pub Files : Type 0
Files = List ℕ → Option (List ℕ)

-- a store of files: how often each answer that has a count was given, that it tells what it holds, and that
pub record Store : Type 1 where
  pub counts : StoreCounts
  pub tells : Type 0
  pub content : Files

-- an input: how often it failed, that it tells what it has left, and that
pub record Input : Type 1 where
  pub faults : ℕ
  pub tells : Type 0
  pub left : List ℕ

-- an output: how often it refused, that it tells what it took, and that
pub record Output : Type 1 where
  pub counts : SinkCounts
  pub tells : Type 0
  pub taken : List ℕ

-- what a command works on
pub record Work : Type 1 where
  pub files : Store
  pub input : Input
  pub out : Output

-- all that the top call is lent: a line is put on standard error
pub record Outside : Type 1 where
  pub work : Work
  pub err : Output

-- ---- the lent objects, by what their traits say of them

abbrev pub store_of : {F : Type 0} → file_store.Ghosts F → F → Store
store_of store files = record { counts = store.counts files; tells = store.tells files; content = store.content files }

abbrev pub input_of : {I : Type 0} → source.Ghosts I → I → Input
input_of source input = record { faults = source.faults input; tells = source.tells input; left = source.left input }

abbrev pub output_of : {O : Type 0} → sink.Ghosts O → O → Output
output_of sink out = record { counts = sink.counts out; tells = sink.tells out; taken = sink.taken out }

abbrev pub work_of : {F I O : Type 0} → file_store.Ghosts F → source.Ghosts I → sink.Ghosts O → F → I → O → Work
work_of store source sink files input out =
    record { files = store_of store files; input = input_of source input; out = output_of sink out }

abbrev pub outside_of : {F I O E : Type 0} → file_store.Ghosts F → source.Ghosts I → sink.Ghosts O → sink.Ghosts E
    → F → I → O → E → Outside
outside_of store source sink errors files input out err =
    record { work = work_of store source sink files input out; err = output_of errors err }

-- ---- what stays

-- no file has changed
abbrev pub SameFiles : Files → Files → Type 0
SameFiles old new = (other : List ℕ) → new other ≡ old other

-- no file has changed but this one
abbrev pub OnlyFile : List ℕ → Files → Files → Type 0
OnlyFile name old new = (other : List ℕ) → other ≢ name → new other ≡ old other

-- where the output tells what it took, these bytes were put on it
abbrev pub IsPut : Output → Output → List ℕ → Type 0
IsPut old new bytes = old.tells → new.taken ≡ old.taken ++ bytes

-- nothing was taken of the input or put on the output
abbrev pub SameStreams : Work → Work → Type 0
SameStreams old new = (new.input.left ≡ old.input.left) × (new.out.taken ≡ old.out.taken)
