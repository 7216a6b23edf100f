-- Operations on the words of two places, and what they leave of other places.
use Rattle.std.proofs.Common.{◌≡◌, ◌≢◌, ℕ, ◌+◌, ◌-◌, ◌*◌, ◌%◌, ◌^◌, ◌<◌, ◌≤◌, Bool, true, false, List, [], ◌∷◌, ◌++◌}
use Rattle.std.proofs.Common.{Some, Ok, refl, sym, ap, subst, ◌∙◌, inl, inr, arith, eq-eqb}
use Rattle.std.specs.Prelude.{◌⊎◌, ◌&&◌, ◌||◌, not, ⊤, Result, if◌then◌else◌}
use Rattle.pcc_base.specs.Outcome.{End}
use Rattle.pcc_base.specs.declared.run.Width.TheVariants.{Two}
use Rattle.ia32_insn.specs.declared.register_names.Reg32.{Reg32}
use Rattle.ia32_insn.specs.declared.register_names.Reg32.TheVariants.{Esp, Ebp, Esi}
use Rattle.ia32_insn.specs.Registers.{number32}
use Rattle.ia32_insn.specs.Places.{Place, InWord, InByte, InSlot}
use Rattle.ia32_insn.specs.declared.operand.Mem.{Mem}
use Rattle.ia32_insn.specs.declared.operand.Rm32.TheVariants as rm
use Rattle.ia32_insn.specs.declared.insn.AluOp.{AluOp}
use Rattle.ia32_insn.specs.declared.insn.AluOp.TheVariants as alu
use Rattle.ia32_insn.specs.declared.insn.Insn.{Insn}
use Rattle.ia32_insn.specs.declared.insn.Insn.TheVariants as insn
use Rattle.ia32_insn.specs.declared.item.Item.{Item}
use Rattle.ia32_insn.specs.State.{State, at_address}
use Rattle.ia32_insn.specs.Arithmetic.{alu_value, alu_flags, sum}
use Rattle.ia32_insn.specs.Meaning.{address_of, and_then, load, store, with_flags, with_word, word_of, write_result}
use Rattle.ia32_insn.specs.Meaning.{operate as operates_on}
use Rattle.ia32_insn.specs.Items.{plain}
use Rattle.ia32_rows.specs.Placements.{below}
use Rattle.ia32_rows.specs.Sites.{Site, Framed, Anywhere}
use Rattle.ia32_rows.proofs.Sound.{load-same, sound-with_flags, sound-with_word, word-same}
use Rattle.ia32_rows.proofs.Frames.{with_result}
use Rattle.ia32_rows.specs.Rows.{is_in, is_at, read, operate, write, working, has_operand, target_of, by_register}
use Rattle.ia32_rows.specs.Rows.{in_slot, operation, commuting, sum_of}
use Rattle.ia32_rows.specs.Effects.{Makes, Leads, Keeps, OutsideWord}
use Rattle.ia32_rows.specs.Contains.{Contains, IsPlaceIn, HoldsWord, Untouched, ApartFromPlace}
use Rattle.ia32_rows.specs.Laws.{IsWorking, IsWriting, Gives, OperateGives, Puts, OperationPuts, CommutingPuts}
use Rattle.ia32_rows.specs.Laws.{SumPuts, ArePlacesApart, OthersKept}
use Rattle.ia32_rows.proofs.Kept.{HasCells, PlaceHasCells, PlaceHasMemory, flags-keep, keeps-then, keeps-stricter}
use Rattle.ia32_rows.proofs.Kept.{result-keeps, stored-keeps, word-kept, other-cells, framed-kept, contains-kept}
use Rattle.ia32_rows.proofs.Straight.{leads-join}
use Rattle.ia32_rows.proofs.Instructions.{below-loaded, operation-makes, operation_load-makes, stored-below}
use Rattle.ia32_rows.proofs.Moves.{alike, unlike, general-below, general-works, byte-below, gives-word, read-gives}
use Rattle.ia32_rows.proofs.Moves.{puts-memory, write-puts}

-- ---- on a register

-- an operation that writes its result, wherever EIP is
writes-result : (how : AluOp) (t : Reg32) (y : ℕ) (s : State) (address : ℕ) → IsWriting how
    → operates_on how (rm.Reg t) y (at_address address s)
    ≡ Ok (at_address address (with_result t (alu_value how (word_of t s) y)
    (Some (alu_flags how (word_of t s) y)) s))
writes-result alu.Add t y s address h = refl
writes-result alu.Or t y s address h = refl
writes-result alu.And t y s address h = refl
writes-result alu.Sub t y s address h = refl
writes-result alu.Xor t y s address h = refl
writes-result alu.Cmp t y s address h = absurd h

-- an instruction that leaves the result in the register
gives-result : (site : Site) (frame : ℕ) (i : Insn) (how : AluOp) (t : Reg32) (x y : ℕ) (s : State)
    → Framed site frame s → IsWorking t → word_of t s ≡ x → alu_value how x y < 2 ^ 32
    → Makes site i s (with_result t (alu_value how (word_of t s) y) (Some (alu_flags how (word_of t s) y)) s)
    → (u : State) × Gives site frame (plain i ∷ []) t (alu_value how x y) s u
gives-result site frame i how t x y s framed works is fits makes =
    let v : ℕ = alu_value how (word_of t s) y in
    let flags = Some (alu_flags how (word_of t s) y) in
    let u : State = with_result t v flags s in
    let same : v ≡ alu_value how x y = ap (λ (z : ℕ). alu_value how z y) is in
    let keeps : Keeps (OutsideWord t) Anywhere s u = result-keeps site t v flags s framed.sound in (
      u,
      record {
        leads = (u, makes, refl);
        value = word-same site.text site.low site.high t v s framed.sound
            (subst (λ (k : ℕ). k < 2 ^ 32) (sym same) fits) ∙ same;
        framed = framed-kept (OutsideWord t) Anywhere site frame s u framed keeps makes.sound
            (other-cells Esp t works.0) (other-cells Ebp t works.1);
        keeps = keeps;
      },
    )

pub operate-gives : OperateGives
operate-gives site frame how t (InWord r) x y s framed works writes holds placed is contains fits =
    let q : ℕ = word_of r s in
    let fits_here : alu_value how x q < 2 ^ 32 =
    subst (λ (k : ℕ). alu_value how x k < 2 ^ 32) (sym contains) fits in
    let made = gives-result site frame (insn.Alu how (rm.Reg t) r) how t x q s framed works is fits_here
    (operation-makes site how t r s framed.sound (λ address. writes-result how t q s address writes)) in
    subst (λ (k : ℕ). (u : State) × Gives site frame (plain (insn.Alu how (rm.Reg t) r) ∷ []) t (alu_value how x k) s u)
    contains made
operate-gives site frame how t (InByte r) x y s framed works writes holds placed is contains fits = absurd holds
operate-gives site frame how t (InSlot k) x y s framed works writes holds placed is contains fits =
    let low = placed.low in
    gives-result site frame (insn.AluLoad how t (below k)) how t x y s framed works is fits
    (operation_load-makes site frame how t k y s framed (omega arith) placed.high contains
    (λ address. writes-result how t y s address writes))

-- ---- on two places

-- the place is not the register
abbrev pub IsOutside : Reg32 → Place → Type 0
IsOutside t (InWord r) = number32 r ≢ number32 t
IsOutside t (InByte r) = ⊥
IsOutside t (InSlot k) = ⊤

-- a word in such a place is still there once the register has changed
still-there : (t : Reg32) (r : Place) (y : ℕ) (s m : State) → IsWorking t → IsOutside t r
    → Keeps (OutsideWord t) Anywhere s m → Contains s Two r y → Contains m Two r y
still-there t (InWord r) y s m works outside keeps contains =
    contains-kept (OutsideWord t) Anywhere s m Two (InWord r) y keeps (other-cells Ebp t works.1)
    (other-cells r t outside) tt contains
still-there t (InByte r) y s m works outside keeps contains = absurd outside
still-there t (InSlot k) y s m works outside keeps contains =
    contains-kept (OutsideWord t) Anywhere s m Two (InSlot k) y keeps (other-cells Ebp t works.1) tt (tt, tt) contains

-- the second operand stands outside the register, or the first is in it already
abbrev pub IsSafe : Reg32 → Place → Place → Type 0
IsSafe t first second = IsOutside t second ⊎ (read t first ≡ [])

-- the second operand is there after the first was read
pub second-there : (site : Site) (frame : ℕ) (t : Reg32) (q r : Place) (x y : ℕ) (s m : State) → IsWorking t
    → IsSafe t q r → Gives site frame (read t q) t x s m → Contains s Two r y → Contains m Two r y
second-there site frame t q r x y s m works (inl outside) gives contains =
    still-there t r y s m works outside gives.keeps contains
second-there site frame t q r x y s m works (inr nothing) gives contains =
    let same : s ≡ m = subst (λ (items : List Item). Leads site items s m) nothing gives.leads in
    subst (λ (u : State). Contains u Two r y) same contains

-- what gives a register a word, and then puts what comes of it into a place
pub puts-behind : (site : Site) (frame : ℕ) (xs ys : List Item) (t : Reg32) (w : ℕ) (p : Place) (v : ℕ) (s m u : State)
    → IsWorking t → ((k : ℕ) → Untouched p k → OutsideWord t k) → Gives site frame xs t w s m
    → Puts site frame ys p v m u → Puts site frame (xs ++ ys) p v s u
puts-behind site frame xs ys t w p v s m u works within gives puts =
    let K : ℕ → ℕ → Type 0 = ApartFromPlace (word_of Ebp s) p in
    let ebp : word_of Ebp m ≡ word_of Ebp s = word-kept (OutsideWord t) Anywhere Ebp s m gives.keeps
    (other-cells Ebp t works.1) in
    record {
      leads = leads-join site xs ys s m u gives.leads puts.leads;
      holds = puts.holds;
      framed = puts.framed;
      keeps = keeps-then (Untouched p) K s m u
          (keeps-stricter (OutsideWord t) (Untouched p) Anywhere K s m within (λ a n l. tt) gives.keeps)
          (subst (λ (e : ℕ). Keeps (Untouched p) (ApartFromPlace e p) m u) ebp puts.keeps);
    }

-- and what gives it another word after that
pub gives-behind : (site : Site) (frame : ℕ) (xs ys : List Item) (t : Reg32) (w v : ℕ) (s m u : State)
    → Gives site frame xs t w s m → Gives site frame ys t v m u → Gives site frame (xs ++ ys) t v s u
gives-behind site frame xs ys t w v s m u first second =
    record {
      leads = leads-join site xs ys s m u first.leads second.leads;
      value = second.value;
      framed = second.framed;
      keeps = keeps-then (OutsideWord t) Anywhere s m u first.keeps second.keeps;
    }

-- the work of a row on a register that has the first word, with the second where it stands
abbrev pub Works : Site → ℕ → (Reg32 → Place → List Item) → Place → ℕ → ℕ → ℕ → Type 0
Works site frame work r x y v =
    (t : Reg32) (m : State) → Framed site frame m → IsWorking t → word_of t m ≡ x → Contains m Two r y
    → (n : State) × Gives site frame (work t r) t v m n

-- in a register that may be changed, and the result to its place
in-register : (site : Site) (frame : ℕ) (work : Reg32 → Place → List Item) (t : Reg32) (p q r : Place) (x y v : ℕ)
    (s : State) → Framed site frame s → 16 ≤ frame → Works site frame work r x y v → IsWorking t
    → ((k : ℕ) → Untouched p k → OutsideWord t k) → IsSafe t q r → IsPlaceIn frame p → HoldsWord q → IsPlaceIn frame q
    → Contains s Two q x → Contains s Two r y → x < 2 ^ 32
    → (u : State) × Puts site frame (read t q ++ work t r ++ write p t) p v s u
in-register site frame work t p q r x y v s framed room done works within safe to a a_placed one two fits =
    let first = read-gives site frame t q x s framed works a a_placed one fits in
    let m : State = first.0 in
    let there : Contains m Two r y = second-there site frame t q r x y s m works safe first.1 two in
    let second = done t m first.1.framed works first.1.value there in
    let n : State = second.0 in
    let third = write-puts site frame p t v n second.1.framed room to second.1.value in (
      third.0,
      puts-behind site frame (read t q ++ work t r) (write p t) t v p v s n third.0 works within
          (gives-behind site frame (read t q) (work t r) t x v s m n first.1 second.1) third.1,
    )

-- ESI may be changed, and no operand is in it
pub esi-works : IsWorking Esi
esi-works = ((λ e. omega arith), (λ e. omega arith))

pub esi-outside : (frame : ℕ) (r : Place) → HoldsWord r → IsPlaceIn frame r → IsOutside Esi r
esi-outside frame (InWord r) holds placed = let b = general-below r placed in λ e. omega (arith, e)
esi-outside frame (InByte r) holds placed = absurd holds
esi-outside frame (InSlot k) holds placed = tt

-- a place that is the register has nothing to be read
pub nothing-read : (t : Reg32) (q : Place) → HoldsWord q → is_in t q ≡ true → read t q ≡ []
nothing-read t (InWord r) holds e =
    ap (λ (b : Bool). if b then [] else plain (insn.Mov (rm.Reg t) r) ∷ []) e
nothing-read t (InByte r) holds e = absurd holds
nothing-read t (InSlot k) holds e = absurd (let no : false ≡ true = e in cc)

-- and one that isn't is outside
pub not-in : (t : Reg32) (r : Place) → HoldsWord r → is_in t r ≡ false → IsOutside t r
not-in t (InWord r) holds e = unlike (number32 r) (number32 t) e
not-in t (InByte r) holds e = absurd holds
not-in t (InSlot k) holds e = tt

-- the row that works in this register puts the result in its place
abbrev IsDone : Site → ℕ → (Reg32 → Place → List Item) → Place → Place → Place → ℕ → State → Reg32 → Type 0
IsDone site frame work p q r v s t =
    (u : State) × Puts site frame (read t q ++ work t r ++ write p t) p v s u

pub working-puts : (site : Site) (frame : ℕ) (work : Reg32 → Place → List Item) (p q r : Place) (x y v : ℕ) (s : State)
    → Framed site frame s → 16 ≤ frame → Works site frame work r x y v → IsPlaceIn frame p → HoldsWord q
    → IsPlaceIn frame q → HoldsWord r → IsPlaceIn frame r → Contains s Two q x → Contains s Two r y → x < 2 ^ 32
    → IsDone site frame work p q r v s (working p q r)
working-puts site frame work (InWord d) q r x y v s framed room done to a a_placed b b_placed one two fits =
    chosen (is_in d r) (is_in d q) refl refl
  where
    in-esi : IsDone site frame work (InWord d) q r v s Esi
    in-esi = in-register site frame work Esi (InWord d) q r x y v s framed room done esi-works (λ k h. h.1)
        (inl (esi-outside frame r b b_placed)) to a a_placed one two fits

    in-own : IsSafe d q r → IsDone site frame work (InWord d) q r v s d
    in-own safe = in-register site frame work d (InWord d) q r x y v s framed room done (general-works d to) (λ k h. h.0)
        safe to a a_placed one two fits

    chosen : (has other : Bool) → is_in d r ≡ has → is_in d q ≡ other
        → IsDone site frame work (InWord d) q r v s (if has && not other then Esi else d)
    chosen true true e f = in-own (inr (nothing-read d q a f))
    chosen true false e f = in-esi
    chosen false true e f = in-own (inl (not-in d r b e))
    chosen false false e f = in-own (inl (not-in d r b e))
working-puts site frame work (InByte d) q r x y v s framed room done to a a_placed b b_placed one two fits =
    in-register site frame work Esi (InByte d) q r x y v s framed room done esi-works (λ k h. h.1)
    (inl (esi-outside frame r b b_placed)) to a a_placed one two fits
working-puts site frame work (InSlot d) q r x y v s framed room done to a a_placed b b_placed one two fits =
    in-register site frame work Esi (InSlot d) q r x y v s framed room done esi-works (λ k h. h.1)
    (inl (esi-outside frame r b b_placed)) to a a_placed one two fits

by_register-puts : (site : Site) (frame : ℕ) (how : AluOp) (p q r : Place) (x y : ℕ) (s : State) → Framed site frame s
    → 16 ≤ frame → IsWriting how → IsPlaceIn frame p → HoldsWord q → IsPlaceIn frame q → HoldsWord r
    → IsPlaceIn frame r → Contains s Two q x → Contains s Two r y → x < 2 ^ 32 → alu_value how x y < 2 ^ 32
    → (u : State) × Puts site frame (by_register how p q r) p (alu_value how x y) s u
by_register-puts site frame how p q r x y s framed room writes to a a_placed b b_placed one two fits all =
    working-puts site frame (operate how) p q r x y (alu_value how x y) s framed room
    (λ t m framed_m works is there. operate-gives site frame how t r x y m framed_m works writes b b_placed is there all)
    to a a_placed b b_placed one two fits

-- ---- on a slot

-- a result that isn't that of CMP goes to memory
writes-memory : (how : AluOp) (m : Mem) (v : ℕ) (s : State) → IsWriting how
    → write_result how (rm.Mem m) v s ≡ store 4 (address_of m s) v s
writes-memory alu.Add m v s h = refl
writes-memory alu.Or m v s h = refl
writes-memory alu.And m v s h = refl
writes-memory alu.Sub m v s h = refl
writes-memory alu.Xor m v s h = refl
writes-memory alu.Cmp m v s h = absurd h

-- one instruction, with the second word in a register
slot-changed : (site : Site) (frame : ℕ) (how : AluOp) (k : ℕ) (t : Reg32) (x y : ℕ) (s : State) → Framed site frame s
    → IsWriting how → IsPlaceIn frame (InSlot k) → Contains s Two (InSlot k) x → word_of t s ≡ y
    → alu_value how x y < 2 ^ 32
    → (u : State) × Puts site frame (plain (insn.Alu how (rm.Mem (below k)) t) ∷ []) (InSlot k) (alu_value how x y) s u
slot-changed site frame how k t x y s framed writes placed held is all =
    let low = placed.low in
    let flags = Some (alu_flags how x (word_of t s)) in
    let v : ℕ = alu_value how x (word_of t s) in
    let same : v ≡ alu_value how x y = ap (λ (b : ℕ). alu_value how x b) is in
    let stored = stored-below site frame k v s framed (omega arith) placed.high
    (subst (λ (b : ℕ). b < 2 ^ 32) (sym same) all) in
    let m : State = stored.0 in
    let u : State = with_flags flags m in
    let loaded = below-loaded site frame k 4 x s framed (omega arith) placed.high held in
    let K : ℕ → ℕ → Type 0 = ApartFromPlace (word_of Ebp s) (InSlot k) in
    let makes : Makes site (insn.Alu how (rm.Mem (below k)) t) s u = record {
      straight = tt;
      does = λ address. ap (λ (z : Result ℕ End). and_then z
          (λ a. and_then (write_result how (rm.Mem (below k)) (alu_value how a (word_of t s)) (at_address address s))
          (λ n. let q : Result State End = Ok (with_flags (Some (alu_flags how a (word_of t s))) n) in q)))
          (load-same 4 (address_of (below k) s) x s (at_address address s) refl loaded)
          ∙ ap (λ (z : Result State End). and_then z
          (λ n. let q : Result State End = Ok (with_flags flags n) in q))
          (writes-memory how (below k) v (at_address address s) writes ∙ stored.2 address);
      sound = sound-with_flags site.text site.low site.high flags m stored.1.sound;
    } in
    let put = puts-memory site frame (insn.Alu how (rm.Mem (below k)) t) k v s u framed
    (load-same 4 (word_of Ebp s - k) v m u refl stored.1.same)
    (load-same 1 (word_of Ebp s - k) (v % 256) m u refl stored.1.byte)
    (keeps-then (λ c. ⊤) K s m u (stored-keeps (λ c. ⊤) site (word_of Ebp s - k) v s m stored.1)
    (flags-keep (λ c. ⊤) K flags m)) makes in
    (u, subst (λ (w : ℕ). Puts site frame (plain (insn.Alu how (rm.Mem (below k)) t) ∷ []) (InSlot k) w s u) same put)

-- the second word from its place
in_slot-puts : (site : Site) (frame : ℕ) (how : AluOp) (k : ℕ) (r : Place) (x y : ℕ) (s : State) → Framed site frame s
    → IsWriting how → IsPlaceIn frame (InSlot k) → HoldsWord r → IsPlaceIn frame r → Contains s Two (InSlot k) x
    → Contains s Two r y → y < 2 ^ 32 → alu_value how x y < 2 ^ 32
    → (u : State) × Puts site frame (in_slot how k r) (InSlot k) (alu_value how x y) s u
in_slot-puts site frame how k (InWord q) x y s framed writes placed b b_placed held two fits all =
    subst (λ (items : List Item). (u : State) × Puts site frame
    (items ++ plain (insn.Alu how (rm.Mem (below k)) q) ∷ []) (InSlot k) (alu_value how x y) s u)
    (sym (nothing-read q (InWord q) tt (eq-eqb (number32 q) (number32 q) refl)))
    (slot-changed site frame how k q x y s framed writes placed held two all)
in_slot-puts site frame how k (InByte q) x y s framed writes placed b b_placed held two fits all = absurd b
in_slot-puts site frame how k (InSlot j) x y s framed writes placed b b_placed held two fits all =
    let first = read-gives site frame Esi (InSlot j) y s framed esi-works b b_placed two fits in
    let m : State = first.0 in
    let there : Contains m Two (InSlot k) x = still-there Esi (InSlot k) x s m esi-works tt first.1.keeps held in
    let second = slot-changed site frame how k Esi x y m first.1.framed writes placed there first.1.value all in (
      second.0,
      puts-behind site frame (read Esi (InSlot j)) (plain (insn.Alu how (rm.Mem (below k)) Esi) ∷ []) Esi y (InSlot k)
          (alu_value how x y) s m second.0 esi-works (λ c h. h.1) first.1 second.1,
    )

-- ---- of two places to a third

-- a place that is the slot contains what that does
at-slot : (k : ℕ) (q : Place) (x : ℕ) (s : State) → is_at k q ≡ true → Contains s Two q x → Contains s Two (InSlot k) x
at-slot k (InWord r) x s e contains = absurd (let no : false ≡ true = e in cc)
at-slot k (InByte r) x s e contains = absurd contains
at-slot k (InSlot b) x s e contains =
    subst (λ (j : ℕ). load 4 (word_of Ebp s - j) s ≡ Ok x) (alike b k e) contains

pub operation-puts : OperationPuts
operation-puts site frame how (InWord d) q r x y s framed room writes to a a_placed b b_placed one two fits also all =
    by_register-puts site frame how (InWord d) q r x y s framed room writes to a a_placed b b_placed one two fits all
operation-puts site frame how (InByte d) q r x y s framed room writes to a a_placed b b_placed one two fits also all =
    by_register-puts site frame how (InByte d) q r x y s framed room writes to a a_placed b b_placed one two fits all
operation-puts site frame how (InSlot k) q r x y s framed room writes to a a_placed b b_placed one two fits also all =
    chosen (is_at k q) refl
  where
    chosen : (c : Bool) → is_at k q ≡ c → (u : State) × Puts site frame
        (if c then in_slot how k r else by_register how (InSlot k) q r) (InSlot k) (alu_value how x y) s u
    chosen true e = in_slot-puts site frame how k r x y s framed writes to b b_placed (at-slot k q x s e one) two also
        all
    chosen false e = by_register-puts site frame how (InSlot k) q r x y s framed room writes to a a_placed b b_placed
        one two fits all

-- of one of two rows that put the same word into a place
pub either-puts : (site : Site) (frame : ℕ) (xs ys : List Item) (p : Place) (w : ℕ) (s : State) (c : Bool)
    → (c ≡ true → (u : State) × Puts site frame xs p w s u) → (c ≡ false → (u : State) × Puts site frame ys p w s u)
    → (u : State) × Puts site frame (if c then xs else ys) p w s u
either-puts site frame xs ys p w s true first second = first refl
either-puts site frame xs ys p w s false first second = second refl

pub commuting-puts : CommutingPuts
commuting-puts site frame how p q r x y s framed room writes same to a a_placed b b_placed one two fits also all =
    either-puts site frame (operation how p r q) (operation how p q r) p (alu_value how x y) s (has_operand p r)
    (λ e. subst (λ (v : ℕ). (u : State) × Puts site frame (operation how p r q) p v s u) same
    (operation-puts site frame how p r q y x s framed room writes to b b_placed a a_placed two one also fits
    (subst (λ (v : ℕ). v < 2 ^ 32) (sym same) all)))
    (λ e. operation-puts site frame how p q r x y s framed room writes to a a_placed b b_placed one two fits also all)

-- ---- sums

-- the register of a row with one operand may be changed, and is in the place, or scratch
pub target-works : (frame : ℕ) (p : Place) → IsPlaceIn frame p → IsWorking (target_of p)
target-works frame (InWord r) placed = general-works r placed
target-works frame (InByte r) placed = esi-works
target-works frame (InSlot k) placed = esi-works

pub target-within : (p : Place) (k : ℕ) → Untouched p k → OutsideWord (target_of p) k
target-within (InWord r) k h = h.0
target-within (InByte r) k h = h.1
target-within (InSlot b) k h = h.1

-- what gives that register a word, and then it to its place
pub target-puts : (site : Site) (frame : ℕ) (items : List Item) (p : Place) (w : ℕ) (s : State) → 16 ≤ frame
    → IsPlaceIn frame p → ((m : State) × Gives site frame items (target_of p) w s m)
    → (u : State) × Puts site frame (items ++ write p (target_of p)) p w s u
target-puts site frame items p w s room to (m, gives) =
    let last = write-puts site frame p (target_of p) w m gives.framed room to gives.value in (
      last.0,
      puts-behind site frame items (write p (target_of p)) (target_of p) w p w s m last.0 (target-works frame p to)
          (target-within p) gives last.1,
    )

-- the address of two registers is their sum
sum-address : (x y : ℕ) → (x + y * 1 + 0) % 0x1_0000_0000 ≡ (x + y) % 0x1_0000_0000
sum-address x y = omega arith

lea-gives : (site : Site) (frame : ℕ) (t a b : Reg32) (x y : ℕ) (s : State) → Framed site frame s → IsWorking t
    → word_of a s ≡ x → word_of b s ≡ y
    → (u : State) × Gives site frame (plain (insn.Lea t (sum_of a b)) ∷ []) t (sum x y) s u
lea-gives site frame t a b x y s framed works one two =
    let made : Makes site (insn.Lea t (sum_of a b)) s (with_word t (address_of (sum_of a b) s) s) = record {
      straight = tt;
      does = λ address. refl;
      sound = sound-with_word site.text site.low site.high t (address_of (sum_of a b) s) s framed.sound;
    } in
    let same : address_of (sum_of a b) s ≡ sum x y =
    sum-address (word_of a s) (word_of b s) ∙ ap (λ (i : ℕ). (i + word_of b s) % 0x1_0000_0000) one
    ∙ ap (λ (j : ℕ). (x + j) % 0x1_0000_0000) two in
    gives-word site frame (insn.Lea t (sum_of a b)) t (sum x y) s framed works (omega arith)
    (subst (λ (v : ℕ). Makes site (insn.Lea t (sum_of a b)) s (with_word t v s)) same made)

-- as operands that commute
sums-commute : (site : Site) (frame : ℕ) (p q r : Place) (x y : ℕ) (s : State) → Framed site frame s → 16 ≤ frame
    → IsPlaceIn frame p → HoldsWord q → IsPlaceIn frame q → HoldsWord r → IsPlaceIn frame r → Contains s Two q x
    → Contains s Two r y → x < 2 ^ 32 → y < 2 ^ 32
    → (u : State) × Puts site frame (commuting alu.Add p q r) p (sum x y) s u
sums-commute site frame p q r x y s framed room to a a_placed b b_placed one two fits also =
    commuting-puts site frame alu.Add p q r x y s framed room tt (omega arith) to a a_placed b b_placed one two fits
    also (omega arith)

pub sum-puts : SumPuts
sum-puts site frame p (InWord c) (InWord d) x y s framed room to a a_placed b b_placed one two fits also =
    let t : Reg32 = target_of p in
    either-puts site frame (commuting alu.Add p (InWord c) (InWord d))
    (plain (insn.Lea t (sum_of c d)) ∷ write p t) p (sum x y) s
    (has_operand p (InWord c) || has_operand p (InWord d))
    (λ e. sums-commute site frame p (InWord c) (InWord d) x y s framed room to a a_placed b b_placed one two fits also)
    (λ e. target-puts site frame (plain (insn.Lea t (sum_of c d)) ∷ []) p (sum x y) s room to
    (lea-gives site frame t c d x y s framed (target-works frame p to) one two))
sum-puts site frame p (InWord c) (InByte d) x y s framed room to a a_placed b b_placed one two fits also = absurd b
sum-puts site frame p (InWord c) (InSlot k) x y s framed room to a a_placed b b_placed one two fits also =
    sums-commute site frame p (InWord c) (InSlot k) x y s framed room to a a_placed b b_placed one two fits also
sum-puts site frame p (InByte c) r x y s framed room to a a_placed b b_placed one two fits also = absurd a
sum-puts site frame p (InSlot k) r x y s framed room to a a_placed b b_placed one two fits also =
    sums-commute site frame p (InSlot k) r x y s framed room to a a_placed b b_placed one two fits also

-- ---- other places

-- EBP is no place's
ebp-untouched : (frame : ℕ) (p : Place) → IsPlaceIn frame p → HasCells (Untouched p) Ebp
ebp-untouched frame (InWord r) placed m below =
    let b = general-below r placed in (inr (omega arith), inl (omega arith), inl (omega arith))
ebp-untouched frame (InByte r) placed m below =
    let b = byte-below r in ((λ e. omega (arith, e)), inl (omega arith), inl (omega arith))
ebp-untouched frame (InSlot k) placed m below = (tt, inl (omega arith), inl (omega arith))

-- places apart have cells apart
pub cells-apart : (frame : ℕ) (p q : Place) → IsPlaceIn frame q → ArePlacesApart p q → PlaceHasCells (Untouched p) q
cells-apart frame (InWord r) (InWord t) placed apart =
    let b = general-below t placed in
    λ m below. (other-cells t r (λ e. apart (sym e)) m below, inl (omega arith), inl (omega arith))
cells-apart frame (InWord r) (InByte t) placed apart =
    let b = byte-below t in (apart, inl (omega arith), inl (omega arith))
cells-apart frame (InWord r) (InSlot k) placed apart = tt
cells-apart frame (InByte r) (InWord t) placed (inl apart) =
    let b = general-below t placed in λ m below. ((λ e. omega (arith, e)), inl (omega arith), inl (omega arith))
cells-apart frame (InByte r) (InWord t) placed (inr apart) =
    let b = general-below t placed in λ m below. ((λ e. omega (arith, e)), inl (omega arith), inl (omega arith))
cells-apart frame (InByte r) (InByte t) placed apart =
    let b = byte-below t in ((λ e. apart (sym e)), inl (omega arith), inl (omega arith))
cells-apart frame (InByte r) (InSlot k) placed apart = tt
cells-apart frame (InSlot k) (InWord t) placed apart =
    let b = general-below t placed in λ m below. (tt, inl (omega arith), inl (omega arith))
cells-apart frame (InSlot k) (InByte t) placed apart =
    let b = byte-below t in (tt, inl (omega arith), inl (omega arith))
cells-apart frame (InSlot k) (InSlot b) placed apart = tt

-- and memory apart
pub memory-apart : (frame base : ℕ) (p q : Place) → frame ≤ base → IsPlaceIn frame p → IsPlaceIn frame q
    → ArePlacesApart p q → PlaceHasMemory (ApartFromPlace base p) base q
memory-apart frame base p (InWord t) h one two apart = tt
memory-apart frame base p (InByte t) h one two apart = tt
memory-apart frame base (InWord r) (InSlot k) h one two apart = (tt, tt)
memory-apart frame base (InByte r) (InSlot k) h one two apart =
    let low = two.low in let high = two.high in (inr (omega arith), inr (omega arith))
memory-apart frame base (InSlot k) (InSlot b) h one two (inl first) =
    let high = two.high in let low = one.low in (inr (omega arith), inr (omega arith))
memory-apart frame base (InSlot k) (InSlot b) h one two (inr second) =
    let high = one.high in let low = two.low in (inl (omega arith), inl (omega arith))

pub others-kept : OthersKept
others-kept site frame items p q width v w s u framed puts one two apart contains =
    let esp = framed.esp in
    contains-kept (Untouched p) (ApartFromPlace (word_of Ebp s) p) s u width q w puts.keeps
    (ebp-untouched frame p one) (cells-apart frame p q two apart)
    (memory-apart frame (word_of Ebp s) p q (omega arith) one two apart) contains
