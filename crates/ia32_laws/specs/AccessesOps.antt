-- That the machine follows these ops through their rows, over any placement that supports the graph.
use Rattle.std.specs.Prelude.{ℕ}
use Rattle.flow_graph.specs.declared.op.Bits.{Bits}
use Rattle.flow_graph.specs.declared.op.Op.TheVariants as op
use Rattle.ia32_laws.specs.KeepsOps.{RowFollows}

-- the address of a frame array of the current call
abbrev pub FrameFollows : Type 0
FrameFollows = (d k : ℕ) → RowFollows (op.Frame d k)

-- the address of a static object
abbrev pub StaticFollows : Type 0
StaticFollows = (d k : ℕ) → RowFollows (op.Static d k)

-- the number in a static object of one element
abbrev pub GetFollows : Type 0
GetFollows = (bits : Bits) (d k : ℕ) → RowFollows (op.Get bits d k)

-- a number, cut to the object's bits, to one
abbrev pub PutFollows : Type 0
PutFollows = (bits : Bits) (k a : ℕ) → RowFollows (op.Put bits k a)

-- an element of the array in a variable, by an index; the trap where there is no such element
abbrev pub LoadFollows : Type 0
LoadFollows = (bits : Bits) (d p i : ℕ) → RowFollows (op.Load bits d p i)

-- a number, cut to the element's bits, to one; the same trap
abbrev pub StoreFollows : Type 0
StoreFollows = (bits : Bits) (p i a : ℕ) → RowFollows (op.Store bits p i a)
