-- A step is a fetch and a performance.
use Rattle.std.specs.Prelude.{◌≡◌, ◌≢◌, ℕ, ◌+◌, ◌-◌, ◌%◌, Bool, true, false, List, [], ◌++◌, length, take}
use Rattle.std.specs.Prelude.{Option, Result, Ok, Err}
use Rattle.std.specs.Prelude.{if◌then◌else◌, refl}
use Rattle.std.proofs.Common.{sym, ◌∙◌, ap, subst, arith, inl, inr, append-nil, length-append}
use Rattle.std.proofs.lemmas.List.{length-take, take_min}
use Rattle.std.specs.Int.{w32, cast_unsigned}
use Rattle.pcc_base.specs.Outcome as outcome
use Rattle.pcc_base.specs.Outcome.{End}
use Rattle.pcc_base.specs.declared.run.Stop.{Stop}
use Rattle.pcc_base.specs.declared.run.Stop.TheVariants.{Instruction, Access}
use Rattle.pcc_outside.specs.Streams.{SinkCounts}
use Rattle.pcc_outside.specs.declared.sink.Sink as sink
use Rattle.ia32_insn.specs.declared.insn.Insn.{Insn}
use Rattle.ia32_insn.specs.declared.insn.Insn.TheVariants as insn
use Rattle.ia32_insn.specs.State.{State, at_address}
use Rattle.ia32_insn.specs.Meaning.{Moved, Moves, Halts, moved_of, and_then, decided, push, system_call, effect, target}
use Rattle.ia32_insn.specs.Meaning.{perform}
use Rattle.ia32_insn.specs.Runs.{StepsAt, Steps}
use Rattle.ia32_insn.proofs.Streams.{UsesNoStreams, perform-streamed}
use Rattle.ia32_machine.specs.declared.halt.Halt.{Halt}
use Rattle.ia32_machine.specs.declared.halt.Halt.TheVariants as halt
use Rattle.ia32_machine.specs.Answers.{end_of}
use Rattle.ia32_machine.specs.First.{lent}
use Rattle.ia32_machine.specs.Lending.{IsPutOn, PutsNothing}
use Rattle.ia32_machine.specs.Runs.{LeadsTold, StepTold, alone}
use Rattle.ia32_machine.specs.Performs.{FetchTold, end_at, step_of, call_moved, insn_moved, PartTold, PartCounts}
use Rattle.ia32_machine.specs.Performs.{AdvanceTold}
use Rattle.ia32_machine.specs.declared.ends.MachineEnd.{MachineEnd}
use Rattle.ia32_machine.specs.declared.ends.MachineEnd.TheVariants.{Ended, Trapped, Stopped, BudgetSpent, ReadFault}
use Rattle.ia32_machine.specs.declared.ends.MachineEnd.TheVariants.{WriteFault, NoMemory}
use Rattle.ia32_machine.specs.declared.ends.StepEnd.{StepEnd}
use Rattle.ia32_machine.specs.declared.ends.StepEnd.TheVariants as step

-- ---- the bytes put

-- what is known of the bytes put, weakened
pub puts : (given : Moved) (s machine : State) (left : List ℕ) (IsPut IsPut' : List ℕ → Type 0)
    (result : Result Unit MachineEnd)
    → ((bytes : List ℕ) → IsPut bytes → IsPut' bytes) → PartTold given s machine left IsPut result
    → PartTold given s machine left IsPut' result
unfolding PartTold
puts given s machine left IsPut IsPut' (Ok done) f h = (h.0, h.1, h.2, h.3, f h.0.written h.4)
puts given s machine left IsPut IsPut' (Err (Ended status)) f h = (h.0, h.1, h.2, f [] h.3)
puts given s machine left IsPut IsPut' (Err (Trapped trap)) f h = (h.0, h.1, h.2, f [] h.3)
puts given s machine left IsPut IsPut' (Err (Stopped cause address)) f h = (h.0, h.1, h.2, f [] h.3)
puts given s machine left IsPut IsPut' (Err BudgetSpent) f h = elim h [ ]
puts given s machine left IsPut IsPut' (Err ReadFault) f h = (h.0, h.1, f [] h.2)
puts given s machine left IsPut IsPut' (Err WriteFault) f h =
    (h.0, h.1, h.2, h.3, h.4, h.5, f (take h.5 h.0.written) h.6)
puts given s machine left IsPut IsPut' (Err NoMemory) f h = (h.0, h.1, h.2, h.3, h.4, f [] h.5)

-- nothing was put on an output that stays
pub none_put : {O : Type 0} → (output : sink.Ghosts O) (out : O) → IsPutOn output out out []
none_put output out = λ t. sym (append-nil (output.taken out))

-- and neither was it where a call puts nothing
pub nothing_put : {O : Type 0} → (output : sink.Ghosts O) (out : O) (bytes : List ℕ) → PutsNothing bytes
    → IsPutOn output out out bytes
nothing_put output out bytes none = subst (λ (b : List ℕ). IsPutOn output out out b) (sym none) (none_put output out)

pub unchanged_put : {O : Type 0} → (output : sink.Ghosts O) (old new : O)
    → (output.tells old → output.taken new ≡ output.taken old) → IsPutOn output old new []
unchanged_put output old new same = λ t. same t ∙ sym (append-nil (output.taken old))

-- as many bytes as some front has are that front
take-again : (n : ℕ) (xs : List ℕ) → take (length (take n xs)) xs ≡ take n xs
take-again n xs = ap (λ (k : ℕ). take k xs) (length-take n xs) ∙ take_min n xs

-- a part that was put is as long as what was taken besides
part-taken : (old new bytes : List ℕ) (n : ℕ) → new ≡ old ++ take n bytes
    → new ≡ old ++ take (length new - length old) bytes
part-taken old new bytes n e =
    let long : length new ≡ length old + length (take n bytes) = ap length e ∙ length-append old (take n bytes) in
    let count : length new - length old ≡ length (take n bytes) = omega (arith, long) in
    e ∙ ap (λ (l : List ℕ). old ++ l) (sym (take-again n bytes))
    ∙ ap (λ (k : ℕ). old ++ take k bytes) (sym count)

-- so it is known how many bytes were put, where an output that tells took a part of some
pub part_put : {O : Type 0} → (output : sink.Ghosts O) (old new : O) (bytes : List ℕ)
    → (output.tells old → (n : ℕ) × (output.taken new ≡ output.taken old ++ take n bytes))
    → (n : ℕ) × IsPutOn output old new (take n bytes)
part_put output old new bytes told = (
  length (output.taken new) - length (output.taken old),
  λ t. let part = told t in part-taken (output.taken old) (output.taken new) bytes part.0 part.1,
)

-- ---- int 0x80

-- what a part leads to, and then the next instruction
goes_on : (after : ℕ) (x : Result State End) (next : State) → Moves next ≡ moved_of x → Moves (at_address after next)
    ≡ moved_of (and_then x (λ t. Ok (at_address after t)))
goes_on after (Ok t) next e = let same : next ≡ t = cc in ap (λ (u : State). Moves (at_address after u)) same
goes_on after (Err end) next e = absurd (let no : Moves next ≡ Halts end = e in cc)

ends_on : (after : ℕ) (x : Result State End) (end : End) → Halts end ≡ moved_of x → Halts end
    ≡ moved_of (and_then x (λ t. Ok (at_address after t)))
ends_on after (Ok t) end e = absurd (let no : Halts end ≡ Moves t = e in cc)
ends_on after (Err other) end e = e

-- a system call that goes on is the whole instruction once EIP is the next one's address
pub call_goes : (i : Insn) (after : ℕ) (s mid : State) (left : List ℕ) (IsPut : List ℕ → Type 0) → i ≡ insn.Int 0x80
    → PartTold (call_moved s) s mid left IsPut (Ok tt)
    → PartTold (insn_moved i after s) s (at_address after mid) left IsPut (Ok tt)
unfolding call_moved insn_moved PartTold
call_goes i after s mid left IsPut e h =
    let moves : Moves (at_address after h.0) ≡ perform (insn.Int 0x80) after s =
    goes_on after (system_call s) h.0 h.1 in
    (at_address after h.0, moves ∙ ap (λ (j : Insn). perform j after s) (sym e), ap (at_address after) h.2, h.3, h.4)

-- so is one that ends
pub call_ends : (i : Insn) (after : ℕ) (s mid : State) (left : List ℕ) (IsPut : List ℕ → Type 0) (end : MachineEnd)
    → i ≡ insn.Int 0x80 → PartTold (call_moved s) s mid left IsPut (Err end)
    → PartTold (insn_moved i after s) s mid left IsPut (Err end)
unfolding call_moved insn_moved PartTold
call_ends i after s mid left IsPut (Ended status) e h = (
  ends_on after (system_call s) (outcome.Ended status) h.0 ∙ ap (λ (j : Insn). perform j after s) (sym e),
  h.1,
  h.2,
  h.3,
)
call_ends i after s mid left IsPut (Trapped trap) e h = (
  ends_on after (system_call s) (outcome.Trapped trap) h.0 ∙ ap (λ (j : Insn). perform j after s) (sym e),
  h.1,
  h.2,
  h.3,
)
call_ends i after s mid left IsPut (Stopped cause address) e h = (
  ends_on after (system_call s) (outcome.Stopped cause address) h.0 ∙ ap (λ (j : Insn). perform j after s) (sym e),
  h.1,
  h.2,
  h.3,
)
call_ends i after s mid left IsPut BudgetSpent e h = elim h [ ]
call_ends i after s mid left IsPut ReadFault e h = h
call_ends i after s mid left IsPut WriteFault e h = (
  at_address after h.0,
  goes_on after (system_call s) h.0 h.1 ∙ ap (λ (j : Insn). perform j after s) (sym e),
  h.2,
  h.3,
  h.4,
  h.5,
  h.6,
)
call_ends i after s mid left IsPut NoMemory e h = (
  at_address after h.0,
  goes_on after (system_call s) h.0 h.1 ∙ ap (λ (j : Insn). perform j after s) (sym e),
  h.2,
  h.3,
  h.4,
  h.5,
)

-- ---- the other instructions

-- an instruction that isn't `int 0x80` uses no streams
uses_none : (i : Insn) → i ≢ insn.Int 0x80 → UsesNoStreams i
uses_none (insn.Int n) other = λ e. other (ap (λ (m : ℕ). insn.Int m) e)
uses_none _ other = tt

-- it does the same to a machine that is lent an input
lent_performs : (i : Insn) (after : ℕ) (old new : State) (left : List ℕ) → i ≢ insn.Int 0x80 → perform i after old
    ≡ Moves new → perform i after (lent old left) ≡ Moves (lent new left)
lent_performs i after old new left other e =
    perform-streamed (λ l. left) (λ n. 0) (λ l. []) i after old (uses_none i other)
    ∙ ap (λ (m : Moved). elim m as (λ v. Moved) [ Moves t ↦ Moves (lent t left) | Halts end ↦ Halts end ]) e

lent_halts : (i : Insn) (after : ℕ) (old : State) (left : List ℕ) (end : End) → i ≢ insn.Int 0x80 → perform i after old
    ≡ Halts end → perform i after (lent old left) ≡ Halts end
lent_halts i after old left end other e = perform-streamed (λ l. left) (λ n. 0) (λ l. []) i after old
    (uses_none i other) ∙ ap (λ (m : Moved). elim m as (λ v. Moved)
    [ Moves t ↦ Moves (lent t left) | Halts end ↦ Halts end ]) e

-- it leaves a machine without input and output
stays_alone : (i : Insn) (after : ℕ) (old new : State) → old ≡ alone old → i ≢ insn.Int 0x80 → perform i after old
    ≡ Moves new → new ≡ alone new
stays_alone i after old new bare other e =
    let there : perform i after (alone old) ≡ Moves (alone new) = lent_performs i after old new [] other e in
    let same : Moves new ≡ Moves (alone new) = sym e ∙ ap (λ (s : State). perform i after s) bare ∙ there in
    cc

-- and nothing is put
pub insn_goes : (i : Insn) (after : ℕ) (old new : State) (left : List ℕ) (IsPut : List ℕ → Type 0) → old ≡ alone old
    → i ≢ insn.Int 0x80 → perform i after old ≡ Moves new → IsPut []
    → PartTold (insn_moved i after (lent old left)) (lent old left) new left IsPut (Ok tt)
unfolding insn_moved PartTold
insn_goes i after old new left IsPut bare other e none = (
  lent new left,
  sym (lent_performs i after old new left other e),
  stays_alone i after old new bare other e,
  refl,
  none,
)

pub insn_ends : (i : Insn) (after : ℕ) (old : State) (left : List ℕ) (IsPut : List ℕ → Type 0) (why : Halt)
    → old ≡ alone old → i ≢ insn.Int 0x80 → perform i after old ≡ Halts (end_of why old) → IsPut []
    → PartTold (insn_moved i after (lent old left)) (lent old left) old left IsPut (Err (end_at old.eip why))
unfolding insn_moved PartTold
insn_ends i after old left IsPut (halt.Trapped trap) bare other e none =
    (sym (lent_halts i after old left (outcome.Trapped trap) other e), bare, refl, none)
insn_ends i after old left IsPut (halt.Stopped cause) bare other e none =
    (sym (lent_halts i after old left (outcome.Stopped cause old.eip) other e), bare, refl, none)

-- a halt raises no count
pub halt_counts : (address faults : ℕ) (counts : SinkCounts) (why : Halt)
    → PartCounts faults faults counts counts (Err (end_at address why))
halt_counts address faults counts (halt.Trapped trap) = (refl, refl)
halt_counts address faults counts (halt.Stopped cause) = (refl, refl)

-- ---- the address of the next instruction

-- two addresses that are the same once they are wrapped
next_same : (x : Result State End) (y z : Result ℕ End) → and_then y (λ n. Ok (n % 0x1_0000_0000))
    ≡ and_then z (λ n. Ok (n % 0x1_0000_0000)) → moved_of (and_then x (λ t. and_then y (λ n. Ok (at_address n t))))
    ≡ moved_of (and_then x (λ t. and_then z (λ n. Ok (at_address n t))))
next_same (Err end) y z e = refl
next_same (Ok t) (Ok m) (Ok n) e =
    let same : m % 0x1_0000_0000 ≡ n % 0x1_0000_0000 =
    (let got : Ok (m % 0x1_0000_0000) ≡ Ok (n % 0x1_0000_0000) = e in cc) in
    ap (λ (k : ℕ). Moves (record t { eip = k })) same
next_same (Ok t) (Ok m) (Err end) e = absurd (let no : Ok (m % 0x1_0000_0000) ≡ Err end = e in cc)
next_same (Ok t) (Err end) (Ok n) e = absurd (let no : Err end ≡ Ok (n % 0x1_0000_0000) = e in cc)
next_same (Ok t) (Err a) (Err b) e = let same : a ≡ b = (let got : Err a ≡ Err b = e in cc) in ap Halts same

-- a branch from a wrapped address
branch_same : (a d : ℕ) (x : Result Bool End)
    → and_then (and_then x (λ known. Ok (if known then a % 0x1_0000_0000 + d else a % 0x1_0000_0000)))
    (λ n. Ok (n % 0x1_0000_0000)) ≡ and_then (and_then x (λ known. Ok (if known then a + d else a)))
    (λ n. Ok (n % 0x1_0000_0000))
branch_same a d (Ok true) = let e : (a % 0x1_0000_0000 + d) % 0x1_0000_0000 ≡ (a + d) % 0x1_0000_0000 = omega arith in
    ap (λ (n : ℕ). Ok n) e
branch_same a d (Ok false) = let e : a % 0x1_0000_0000 % 0x1_0000_0000 ≡ a % 0x1_0000_0000 = omega arith in
    ap (λ (n : ℕ). Ok n) e
branch_same a d (Err end) = refl

target_same : (i : Insn) (a : ℕ) (s : State) → and_then (target i (a % 0x1_0000_0000) s) (λ n. Ok (n % 0x1_0000_0000))
    ≡ and_then (target i a s) (λ n. Ok (n % 0x1_0000_0000))
target_same (insn.Call distance) a s =
    let d : ℕ = cast_unsigned w32 distance in
    let e : (a % 0x1_0000_0000 + d) % 0x1_0000_0000 ≡ (a + d) % 0x1_0000_0000 = omega arith in ap (λ (n : ℕ). Ok n) e
target_same insn.Ret a s = refl
target_same (insn.Jmp distance) a s =
    let d : ℕ = cast_unsigned w32 distance in
    let e : (a % 0x1_0000_0000 + d) % 0x1_0000_0000 ≡ (a + d) % 0x1_0000_0000 = omega arith in ap (λ (n : ℕ). Ok n) e
target_same (insn.Jcc c distance) a s = branch_same a (cast_unsigned w32 distance) (decided c s)
target_same _ a s = let e : a % 0x1_0000_0000 % 0x1_0000_0000 ≡ a % 0x1_0000_0000 = omega arith in
    ap (λ (n : ℕ). Ok n) e

effect_same : (i : Insn) (a : ℕ) (s : State) → effect i (a % 0x1_0000_0000) s ≡ effect i a s
effect_same (insn.Call distance) a s = let e : a % 0x1_0000_0000 % 0x1_0000_0000 ≡ a % 0x1_0000_0000 = omega arith in
    ap (λ (n : ℕ). push n s) e
effect_same _ a s = refl

-- the address of the next instruction wraps
perform_wrapped : (i : Insn) (a : ℕ) (s : State) → perform i (a % 0x1_0000_0000) s ≡ perform i a s
perform_wrapped i a s =
    ap (λ (r : Result State End). moved_of (and_then r
    (λ t. and_then (target i (a % 0x1_0000_0000) s) (λ n. Ok (at_address n t))))) (effect_same i a s)
    ∙ next_same (effect i a s) (target i (a % 0x1_0000_0000) s) (target i a s) (target_same i a s)

-- ---- a step

-- what is known of where a part leads, weakened
leads : (P Q : Moved → Type 0) (s machine : State) (left : List ℕ) (IsPut : List ℕ → Type 0) (answer : StepEnd)
    → ((m : Moved) → P m → Q m) → LeadsTold P s machine left IsPut answer → LeadsTold Q s machine left IsPut answer
leads P Q s machine left IsPut step.Going f h = (h.0, f (Moves h.0) h.1, h.2, h.3, h.4)
leads P Q s machine left IsPut (step.End (Ended status)) f h =
    (f (Halts (outcome.Ended status)) h.0, h.1, h.2, h.3)
leads P Q s machine left IsPut (step.End (Trapped trap)) f h =
    (f (Halts (outcome.Trapped trap)) h.0, h.1, h.2, h.3)
leads P Q s machine left IsPut (step.End (Stopped cause address)) f h =
    (f (Halts (outcome.Stopped cause address)) h.0, h.1, h.2, h.3)
leads P Q s machine left IsPut (step.End BudgetSpent) f h = h
leads P Q s machine left IsPut (step.End ReadFault) f h = h
leads P Q s machine left IsPut (step.End WriteFault) f h = (h.0, f (Moves h.0) h.1, h.2, h.3, h.4, h.5, h.6)
leads P Q s machine left IsPut (step.End NoMemory) f h = (h.0, f (Moves h.0) h.1, h.2, h.3, h.4, h.5)

-- the step that performs the instruction that was fetched
fetched-steps : (s : State) (left : List ℕ) (i : Insn) (n : ℕ) → FetchTold s (Ok (i, n))
    → Steps (lent s left) (perform i (s.eip + n) (lent s left))
fetched-steps s left i n h =
    subst (λ (code : Option (List ℕ)). StepsAt code (lent s left) (perform i (s.eip + n) (lent s left))) (sym h.1)
    (inl (i, n, h.2, refl))

-- the step that stops where nothing was fetched
unfetched-steps : (s : State) (left : List ℕ) (cause : Stop) → FetchTold s (Err cause)
    → Steps (lent s left) (Halts (outcome.Stopped cause s.eip))
unfetched-steps s left Instruction h =
    subst (λ (code : Option (List ℕ)). StepsAt code (lent s left) (Halts (outcome.Stopped Instruction s.eip))) (sym h.1)
    (inr (h.2, refl))
unfetched-steps s left (Access address) h =
    subst (λ (code : Option (List ℕ)). StepsAt code (lent s left) (Halts (outcome.Stopped (Access address) s.eip)))
    (sym h.0)
    (ap (λ (a : ℕ). Halts (outcome.Stopped (Access a) s.eip)) h.1)
unfetched-steps s left _ h = elim h [ ]

-- a step whose instruction was fetched
pub fetched : (s machine : State) (left left' : List ℕ) (IsPut : List ℕ → Type 0) (i : Insn) (n after : ℕ)
    (result : Result Unit MachineEnd) → FetchTold s (Ok (i, n)) → after ≡ (s.eip + n) % 0x1_0000_0000
    → PartTold (insn_moved i after (lent s left)) (lent s left) machine left' IsPut result
    → AdvanceTold (lent s left) machine left' IsPut result
unfolding insn_moved PartTold AdvanceTold StepTold
fetched s machine left left' IsPut i n after result h e told =
    let u : State = lent s left in
    let given : perform i after u ≡ perform i (s.eip + n) u = ap (λ (a : ℕ). perform i a u) e
    ∙ perform_wrapped i (s.eip + n) u in
    leads (λ m. m ≡ perform i after u) (Steps u) u machine left' IsPut (step_of result)
    (λ m same. subst (λ (v : Moved). Steps u v) (sym (same ∙ given)) (fetched-steps s left i n h)) told

-- a step that stops where nothing was fetched
pub unfetched : (s : State) (left : List ℕ) (IsPut : List ℕ → Type 0) (cause : Stop) → s ≡ alone s
    → FetchTold s (Err cause) → IsPut [] → AdvanceTold (lent s left) s left IsPut (Err (Stopped cause s.eip))
unfolding AdvanceTold StepTold
unfetched s left IsPut cause bare h none = (unfetched-steps s left cause h, bare, refl, none)

-- what is told of the parts of a step is told of the step
pub advanced : (s machine : State) (left : List ℕ) (IsPut : List ℕ → Type 0) (result : Result Unit MachineEnd)
    → AdvanceTold s machine left IsPut result → StepTold s machine left IsPut (step_of result)
unfolding AdvanceTold StepTold
advanced s machine left IsPut result h = h
