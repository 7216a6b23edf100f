-- What the system calls lead to, case by case.
use Rattle.std.specs.Prelude.{◌≡◌, ◌≢◌, ℕ, ◌+◌, ◌%◌, ◌&&◌, ◌==◌, Bool, true, false, List, [], ◌∷◌, length, take}
use Rattle.std.specs.Prelude.{Option, Some, None, Result, Ok, Err, if◌then◌else◌, refl}
use Rattle.std.proofs.Common.{sym, ◌∙◌, ap, subst, arith}
use Rattle.std.proofs.lemmas.Bool.Decides.{nat_tests}
use Rattle.pcc_base.specs.Outcome as outcome
use Rattle.pcc_base.specs.declared.run.Stop.TheVariants.{Access, Call}
use Rattle.ia32_insn.specs.declared.register_names.Reg32.TheVariants.{Eax, Ecx, Edx, Ebx}
use Rattle.ia32_insn.specs.State.{State, Area, bytes_at, may_store, stored}
use Rattle.ia32_insn.specs.Meaning.{Moved, Moves, moved_of, and_then, or_end, word_of, with_word, denied, store_bytes}
use Rattle.ia32_insn.specs.Meaning.{take_byte, read_call, write_call, SystemCall, Exit, Read, Write, Other, call_of}
use Rattle.ia32_insn.specs.Meaning.{make_call}
use Rattle.ia32_machine.specs.First.{lent}
use Rattle.ia32_machine.specs.Lending.{PutsNothing}
use Rattle.ia32_machine.specs.Runs.{alone}
use Rattle.ia32_machine.specs.Performs.{PartTold, read_moved, write_moved, call_moved}
use Rattle.ia32_machine.specs.declared.ends.MachineEnd.TheVariants.{Ended, Stopped, ReadFault, WriteFault, NoMemory}

-- a choice by a test that fails, and by one that holds
if_not : {X : Type 0} → (b : Bool) (x y : X) → b ≡ false → (if b then x else y) ≡ y
if_not b x y e = ap (λ (t : Bool). if t then x else y) e

if_so : {X : Type 0} → (b : Bool) (x y : X) → b ≡ true → (if b then x else y) ≡ x
if_so b x y e = ap (λ (t : Bool). if t then x else y) e

-- ---- tests

-- a test of two numbers that are so, or of which one isn't
both_are : (a b m n : ℕ) → a ≡ m → b ≡ n → (a == m && b == n) ≡ true
both_are a b m n p q = grind (arith, nat_tests)

not_both : (a b m n : ℕ) → (a ≡ m → b ≡ n → ⊥) → (a == m && b == n) ≡ false
not_both a b m n h = grind (arith, nat_tests)

pub not_is : (a m : ℕ) → a ≢ m → (a == m) ≡ false
not_is a m h = grind (arith, nat_tests)

-- whether bytes may be stored, by numbers that are the registers'
pub may_so : (old : State) (count address : ℕ) (b d : Bool) → count ≡ word_of Edx old → address ≡ word_of Ecx old → b
    ≡ may_store count address old.memory → b ≡ d → may_store (word_of Edx old) (word_of Ecx old) old.memory ≡ d
may_so old count address b d p q e f =
    ap (λ (n : ℕ). may_store n (word_of Ecx old) old.memory) (sym p)
    ∙ ap (λ (n : ℕ). may_store count n old.memory) (sym q) ∙ sym e ∙ f

-- the bytes that there are, by such numbers
pub bytes_so : (old : State) (count address : ℕ) (x : Option (List ℕ)) → count ≡ word_of Edx old → address
    ≡ word_of Ecx old → bytes_at count address old.memory ≡ x → bytes_at (word_of Edx old) (word_of Ecx old) old.memory
    ≡ x
bytes_so old count address x p q e =
    ap (λ (n : ℕ). bytes_at n (word_of Ecx old) old.memory) (sym p)
    ∙ ap (λ (n : ℕ). bytes_at count n old.memory) (sym q) ∙ e

-- ---- read

-- none of the input's bytes are asked for
pub read_none : (old : State) (left : List ℕ) → old ≡ alone old → word_of Edx old ≡ 0
    → PartTold (read_moved (lent old left)) (lent old left) (with_word Eax 0 old) left PutsNothing (Ok tt)
unfolding read_moved PartTold
read_none old left bare none =
    let s : State = lent old left in (
      with_word Eax 0 s,
      ap (λ (n : ℕ). moved_of (read_call n (word_of Ecx s) s)) (sym none),
      ap (with_word Eax 0) bare,
      refl,
      refl,
    )

-- the bytes may not be stored there
pub read_denied : (old : State) (left : List ℕ) → old ≡ alone old → (word_of Edx old == 0) ≡ false
    → may_store (word_of Edx old) (word_of Ecx old) old.memory ≡ false
    → PartTold (read_moved (lent old left)) (lent old left) old left PutsNothing
    (Err (Stopped (Access (word_of Ecx old)) old.eip))
unfolding read_moved PartTold
read_denied old left bare some denies =
    let s : State = lent old left in
    let count : ℕ = word_of Edx s in
    let address : ℕ = word_of Ecx s in
    let inner : (if may_store count address s.memory then take_byte address left s else Err (denied address s))
    ≡ Err (denied address s) =
    if_not (may_store count address s.memory) (take_byte address left s) (Err (denied address s)) denies in
    let path : read_call count address s ≡ Err (denied address s) = if_not (count == 0) (Ok (with_word Eax 0 s)) _ some
    ∙ inner in
    (sym (ap moved_of path), bare, refl, refl)

-- bytes may be stored there, and what is done then
read_path : (old : State) (left : List ℕ) → (word_of Edx old == 0) ≡ false
    → may_store (word_of Edx old) (word_of Ecx old) old.memory ≡ true → read_moved (lent old left)
    ≡ moved_of (take_byte (word_of Ecx old) left (lent old left))
unfolding read_moved
read_path old left some allows =
    let s : State = lent old left in
    let count : ℕ = word_of Edx s in
    let address : ℕ = word_of Ecx s in
    let inner : (if may_store count address s.memory then take_byte address left s else Err (denied address s))
    ≡ take_byte address left s =
    if_so (may_store count address s.memory) (take_byte address left s) (Err (denied address s)) allows in
    ap moved_of (if_not (count == 0) (Ok (with_word Eax 0 s)) _ some ∙ inner)

-- the input is at its end
pub read_end : (old : State) (left left' : List ℕ) → old ≡ alone old → (word_of Edx old == 0) ≡ false
    → may_store (word_of Edx old) (word_of Ecx old) old.memory ≡ true → left ≡ [] → left' ≡ []
    → PartTold (read_moved (lent old left)) (lent old left) (with_word Eax 0 old) left' PutsNothing (Ok tt)
unfolding PartTold
read_end old left left' bare some allows end end' =
    let s : State = lent old left in
    let ended : moved_of (take_byte (word_of Ecx old) left s) ≡ Moves (with_word Eax 0 s) =
    ap (λ (l : List ℕ). moved_of (take_byte (word_of Ecx old) l s)) end in (
      with_word Eax 0 s,
      sym (read_path old left some allows ∙ ended),
      ap (with_word Eax 0) bare,
      end' ∙ sym end,
      refl,
    )

-- the state that a byte leads to, where it is stored in this memory
taken_byte : (old new : State) (address byte : ℕ) (left : List ℕ) (x : Option (List Area)) → old ≡ alone old
    → and_then (and_then (or_end x (denied address old)) (λ m. Ok (record old { memory = m })))
    (λ t. Ok (with_word Eax 1 t)) ≡ Ok new → PartTold
    (moved_of (and_then (and_then (or_end x (denied address old))
    (λ m. Ok (record (lent old (byte ∷ left)) { memory = m })))
    (λ t. Ok (with_word Eax 1 (record t { left = left; taken = t.taken + 1 }))))) (lent old (byte ∷ left)) new left
    PutsNothing (Ok tt)
unfolding PartTold
taken_byte old new address byte left None bare e = absurd (let no : Err (denied address old) ≡ Ok new = e in cc)
taken_byte old new address byte left (Some m) bare e =
    let got : Ok (with_word Eax 1 (record old { memory = m })) ≡ Ok new = e in
    let same : with_word Eax 1 (record old { memory = m }) ≡ new = cc in (
      with_word Eax 1 (record (lent old (byte ∷ left)) { memory = m; left = left; taken = 0 + 1 }),
      refl,
      sym same
          ∙ ap (λ (t : State). with_word Eax 1 (record t { memory = m })) bare,
      refl,
      refl,
    )

-- a byte of the input is taken
pub read_byte : (old new : State) (address byte : ℕ) (left left' : List ℕ) → old ≡ alone old
    → (word_of Edx old == 0) ≡ false → may_store (word_of Edx old) (word_of Ecx old) old.memory ≡ true → left
    ≡ byte ∷ left' → address ≡ word_of Ecx old
    → and_then (store_bytes address (byte ∷ []) old) (λ t. Ok (with_word Eax 1 t)) ≡ Ok new
    → PartTold (read_moved (lent old left)) (lent old left) new left' PutsNothing (Ok tt)
read_byte old new address byte left left' bare some allows e same stores =
    let told : PartTold (moved_of (take_byte address (byte ∷ left') (lent old (byte ∷ left'))))
    (lent old (byte ∷ left')) new left' PutsNothing (Ok tt) =
    taken_byte old new address byte left' (stored address (byte ∷ []) old.memory) bare stores in
    let there : PartTold (moved_of (take_byte (word_of Ecx old) left (lent old left))) (lent old left) new left'
    PutsNothing (Ok tt) =
    subst (λ (n : ℕ). PartTold (moved_of (take_byte n left (lent old left))) (lent old left) new left' PutsNothing
    (Ok tt)) same
    (subst (λ (l : List ℕ). PartTold (moved_of (take_byte address l (lent old l))) (lent old l) new left' PutsNothing
    (Ok tt)) (sym e) told) in
    subst (λ (m : Moved). PartTold m (lent old left) new left' PutsNothing (Ok tt))
    (sym (read_path old left some allows)) there

-- the input failed
pub read_fault : (old : State) (left left' : List ℕ) → old ≡ alone old → left' ≡ left
    → PartTold (read_moved (lent old left)) (lent old left) old left' PutsNothing (Err ReadFault)
unfolding PartTold
read_fault old left left' bare same = (bare, same, refl)

-- ---- write

-- nothing is written
pub write_none : (old : State) (left : List ℕ) (IsPut : List ℕ → Type 0) → old ≡ alone old → word_of Edx old ≡ 0
    → IsPut [] → PartTold (write_moved (lent old left)) (lent old left) (with_word Eax 0 old) left IsPut (Ok tt)
unfolding write_moved PartTold
write_none old left IsPut bare none put =
    let s : State = lent old left in (
      with_word Eax 0 s,
      ap (λ (n : ℕ). moved_of (write_call n (word_of Ecx s) s)) (sym none),
      ap (with_word Eax 0) bare,
      refl,
      put,
    )

-- what is done with the bytes that there are
write_path : (old : State) (left : List ℕ) (x : Option (List ℕ)) → (word_of Edx old == 0) ≡ false
    → bytes_at (word_of Edx old) (word_of Ecx old) old.memory ≡ x → write_moved (lent old left)
    ≡ moved_of (and_then (or_end x (denied (word_of Ecx old) old))
    (λ bytes. Ok (with_word Eax (word_of Edx old) (record (lent old left) { written = bytes }))))
unfolding write_moved
write_path old left x some e =
    let s : State = lent old left in
    let done : List ℕ → Result State outcome.End =
    λ bytes. Ok (with_word Eax (word_of Edx old) (record s { written = bytes })) in
    ap moved_of (if_not (word_of Edx s == 0) (Ok (with_word Eax 0 s)) _ some
    ∙ ap (λ (o : Option (List ℕ)). and_then (or_end o (denied (word_of Ecx old) old)) done) e)

-- the bytes may not be read there
pub write_denied : (old : State) (left : List ℕ) (IsPut : List ℕ → Type 0) → old ≡ alone old
    → (word_of Edx old == 0) ≡ false → bytes_at (word_of Edx old) (word_of Ecx old) old.memory ≡ None → IsPut []
    → PartTold (write_moved (lent old left)) (lent old left) old left IsPut
    (Err (Stopped (Access (word_of Ecx old)) old.eip))
unfolding PartTold
write_denied old left IsPut bare some none put = (sym (write_path old left None some none), bare, refl, put)

-- the bytes are written
pub write_done : (old : State) (bytes left : List ℕ) (IsPut : List ℕ → Type 0) → old ≡ alone old
    → (word_of Edx old == 0) ≡ false → bytes_at (word_of Edx old) (word_of Ecx old) old.memory ≡ Some bytes
    → IsPut bytes
    → PartTold (write_moved (lent old left)) (lent old left) (with_word Eax (word_of Edx old) old) left IsPut (Ok tt)
unfolding PartTold
write_done old bytes left IsPut bare some there put = (
  with_word Eax (word_of Edx old) (record (lent old left) { written = bytes }),
  sym (write_path old left (Some bytes) some there),
  ap (with_word Eax (word_of Edx old)) bare,
  refl,
  put,
)

-- the output failed, and took a part of the bytes
pub write_failed : (old : State) (bytes left : List ℕ) (IsPut : List ℕ → Type 0) → old ≡ alone old
    → (word_of Edx old == 0) ≡ false → bytes_at (word_of Edx old) (word_of Ecx old) old.memory ≡ Some bytes
    → bytes ≢ [] → (n : ℕ) × IsPut (take n bytes)
    → PartTold (write_moved (lent old left)) (lent old left) old left IsPut (Err WriteFault)
unfolding PartTold
write_failed old bytes left IsPut bare some there filled put = (
  with_word Eax (word_of Edx old) (record (lent old left) { written = bytes }),
  sym (write_path old left (Some bytes) some there),
  filled,
  bare,
  refl,
  put.0,
  put.1,
)

-- the output found no memory
pub write_wanted : (old : State) (bytes left : List ℕ) (IsPut : List ℕ → Type 0) → old ≡ alone old
    → (word_of Edx old == 0) ≡ false → bytes_at (word_of Edx old) (word_of Ecx old) old.memory ≡ Some bytes
    → bytes ≢ [] → IsPut [] → PartTold (write_moved (lent old left)) (lent old left) old left IsPut (Err NoMemory)
unfolding PartTold
write_wanted old bytes left IsPut bare some there filled put = (
  with_word Eax (word_of Edx old) (record (lent old left) { written = bytes }),
  sym (write_path old left (Some bytes) some there),
  filled,
  bare,
  refl,
  put,
)

-- as many bytes as a number that isn't 0 are some
pub some_bytes : (n : ℕ) (bytes : List ℕ) → length bytes ≡ n → n ≢ 0 → bytes ≢ []
some_bytes n bytes long some none = some (sym long ∙ ap length none)

-- ---- int 0x80

-- `exit`
pub call_exit : (old : State) (left : List ℕ) (IsPut : List ℕ → Type 0) → old ≡ alone old → word_of Eax old ≡ 1
    → IsPut []
    → PartTold (call_moved (lent old left)) (lent old left) old left IsPut (Err (Ended (word_of Ebx old % 256)))
unfolding call_moved PartTold
call_exit old left IsPut bare exit put =
    let s : State = lent old left in
    (sym (ap (λ (n : ℕ). moved_of (make_call (call_of n (word_of Ebx s)) s)) exit), bare, refl, put)

-- `read`
pub call_read : (old : State) (left : List ℕ) → word_of Eax old ≡ 3 → word_of Ebx old ≡ 0 → read_moved (lent old left)
    ≡ call_moved (lent old left)
unfolding call_moved read_moved
call_read old left call file =
    let s : State = lent old left in
    sym (ap (λ (n : ℕ). moved_of (make_call (call_of n (word_of Ebx s)) s)) call
    ∙ ap (λ (n : ℕ). moved_of (make_call (call_of 3 n) s)) file)

-- `write`
pub call_write : (old : State) (left : List ℕ) → word_of Eax old ≡ 4 → word_of Ebx old ≡ 1 → write_moved (lent old left)
    ≡ call_moved (lent old left)
unfolding call_moved write_moved
call_write old left call file =
    let s : State = lent old left in
    sym (ap (λ (n : ℕ). moved_of (make_call (call_of n (word_of Ebx s)) s)) call
    ∙ ap (λ (n : ℕ). moved_of (make_call (call_of 4 n) s)) file)

-- no call of the machine
pub call_none : (old : State) (left : List ℕ) (IsPut : List ℕ → Type 0) → old ≡ alone old → word_of Eax old ≢ 1
    → (word_of Eax old ≡ 3 → word_of Ebx old ≡ 0 → ⊥) → (word_of Eax old ≡ 4 → word_of Ebx old ≡ 1 → ⊥) → IsPut []
    → PartTold (call_moved (lent old left)) (lent old left) old left IsPut (Err (Stopped Call old.eip))
unfolding call_moved PartTold
call_none old left IsPut bare exit read write put =
    let s : State = lent old left in (
      sym (ap (λ (call : SystemCall). moved_of (make_call call s))
          (if_not (word_of Eax s == 1) (Exit (word_of Ebx s)) _ (not_is (word_of Eax s) 1 exit)
          ∙ if_not (word_of Eax s == 3 && word_of Ebx s == 0) Read _
          (not_both (word_of Eax s) (word_of Ebx s) 3 0 read)
          ∙ if_not (word_of Eax s == 4 && word_of Ebx s == 1) Write Other
          (not_both (word_of Eax s) (word_of Ebx s) 4 1 write))),
      bare,
      refl,
      put,
    )
