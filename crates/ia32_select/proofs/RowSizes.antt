-- The row of each op, over places that can be named: its items can be assembled and linked, and there are few of them.
use Rattle.std.specs.List.{AllByRecursion}
use Rattle.std.proofs.Common.{◌≡◌, ℕ, zero, suc, ◌+◌, ◌*◌, ◌<◌, ◌≤◌, List, [], ◌∷◌, ◌++◌, length, Option, Some, None}
use Rattle.std.proofs.Common.{refl, sym, arith, inl, inr, map, subst}
use Rattle.std.specs.Prelude.{◌⊎◌, ◌-◌, ⊤, Bool, true, false, if◌then◌else◌, nat_lt, option_map, pos, slice_index_or}
use Rattle.std.proofs.lemmas.Bool.Decides.{nat_tests}
use Rattle.std.specs.Int.{w32}
use Rattle.std.specs.Int.RustNames.{FitsSigned}
use Rattle.std.proofs.lemmas.Option.{same_Some}
use Rattle.std.proofs.lemmas.List.{length-map}
use Rattle.ia32_insn.specs.declared.register_names.Reg32.{Reg32}
use Rattle.ia32_insn.specs.declared.register_names.Reg32.TheVariants.{Eax, Edx, Ebx, Esp, Ebp, Esi, Edi}
use Rattle.ia32_insn.specs.Places.{Place}
use Rattle.ia32_insn.specs.declared.operand.Mem.{Mem}
use Rattle.ia32_insn.specs.declared.operand.Rm32.TheVariants as rm
use Rattle.ia32_insn.specs.declared.insn.AluOp.TheVariants as alu
use Rattle.ia32_insn.specs.declared.insn.Cond.{Cond}
use Rattle.ia32_insn.specs.declared.insn.Cond.TheVariants as cond
use Rattle.ia32_insn.specs.declared.insn.Insn.TheVariants as insn
use Rattle.ia32_insn.specs.declared.insn.ShiftOp.TheVariants as shift
use Rattle.ia32_insn.specs.declared.item.Item.{Item}
use Rattle.ia32_insn.specs.declared.item.Item.TheVariants as item
use Rattle.ia32_insn.specs.declared.item.Stub.TheVariants as stub
use Rattle.ia32_insn.specs.Items.{near, plain}
use Rattle.ia32_insn.specs.Spelling.{HasSpelling}
use Rattle.flow_graph.specs.declared.op.Bits.{Bits}
use Rattle.flow_graph.specs.declared.op.Op.{Op}
use Rattle.flow_graph.specs.declared.op.Op.TheVariants as op
use Rattle.flow_graph.specs.Graphs.{NumbersFit}
use Rattle.flow_graph.specs.Meaning.{bytes_of}
use Rattle.flow_graph.specs.Sizes.{words_of}
use Rattle.flow_graph.specs.WellFormed.{NamesWithin}
use Rattle.ia32_asm.specs.Parts.{IsInRange, IsIndex, IsIndexed}
use Rattle.ia32_asm.specs.Sections.{Stands, items_size}
use Rattle.ia32_asm.proofs.Laying.{items_size-append}
use Rattle.ia32_asm.proofs.SpelledOperands.{spelling-indexed}
use Rattle.ia32_rows.specs.Filling.{fill}
use Rattle.ia32_rows.specs.Placements.{below}
use Rattle.ia32_rows.specs.Rows.{items_between, read, target_of, write, number_row, copy_row, operation, commuting, adding}
use Rattle.ia32_rows.specs.Rows.{multiplying, changing, widening, lowering, halving, shifting, dividing, comparing}
use Rattle.ia32_rows.specs.Rows.{branching, choosing, cond_of, cond_of_order, jumping, zeroing}
use Rattle.ia32_rows.specs.Rows.{setting, zero_edx, pass, pass_all, argument_word, deepen, undeepen, drop_words, write_any}
use Rattle.ia32_rows.specs.Rows.{before_call, behind_call, call_row, leave, return_row, prologue, size_of}
use Rattle.ia32_rows.specs.Rows.{clear_row, loading, load_from, store_to, index_register, count_before, element}
use Rattle.ia32_rows.specs.Rows.{check_array, check_index, checking, load_row, store_at, store_row}
use Rattle.ia32_rows.proofs.ItemKinds.{all-append, all-weaker}
use Rattle.ia32_select.proofs.Fine.{AreFine, IsFine, IsNear, Within, adding-fine, argument-fits, changing-fine}
use Rattle.ia32_select.proofs.Fine.{commuting-fine}
use Rattle.ia32_select.proofs.Fine.{comparing-fine, copy-fine, dividing-fine, element-index, fits-below, fits-near}
use Rattle.ia32_select.proofs.Fine.{halving-fine, join, leaves, loading-fine, lowering-fine, multiplying-fine}
use Rattle.ia32_select.proofs.Fine.{number-fine}
use Rattle.ia32_select.proofs.Fine.{operation-fine, pass-fine, read-fine, return-fine, setting-fine, shifting-fine}
use Rattle.ia32_select.proofs.Fine.{store_at-fine, store_to-fine, widening-fine, write-fine}
use Rattle.ia32_select.proofs.Short.{items-short, pass_all-short}

-- ---- what items jump to, call and name

-- The item can be assembled and linked: its instruction has a spelling, the label that it jumps to stands among these
-- items, and the function or object that it names is among so many.
abbrev pub IsGood : List Item → ℕ → ℕ → Item → Type 0
IsGood whole functions objects (item.Plain i) = HasSpelling i
IsGood whole functions objects (item.Label l) = ⊤
IsGood whole functions objects (item.Point p) = ⊤
IsGood whole functions objects (item.JumpTo l) = Stands (item.Label l) whole
IsGood whole functions objects (item.JumpIf c l) = Stands (item.Label l) whole
IsGood whole functions objects (item.CallFunction f) = f < functions
IsGood whole functions objects (item.CallStub s) = ⊤
IsGood whole functions objects (item.JumpTrap c) = ⊤
IsGood whole functions objects (item.AddressOf r k) = (k < objects) ⊎ (k ≡ 0xffffffff)

-- the same, where an instruction is fine
abbrev pub IsExact : List Item → ℕ → ℕ → Item → Type 0
IsExact whole functions objects (item.Plain i) = IsInRange i × IsIndexed i
IsExact whole functions objects (item.Label l) = ⊤
IsExact whole functions objects (item.Point p) = ⊤
IsExact whole functions objects (item.JumpTo l) = Stands (item.Label l) whole
IsExact whole functions objects (item.JumpIf c l) = Stands (item.Label l) whole
IsExact whole functions objects (item.CallFunction f) = f < functions
IsExact whole functions objects (item.CallStub s) = ⊤
IsExact whole functions objects (item.JumpTrap c) = ⊤
IsExact whole functions objects (item.AddressOf r k) = (k < objects) ⊎ (k ≡ 0xffffffff)

exact-good : (whole : List Item) (functions objects : ℕ) (i : Item) → IsExact whole functions objects i
    → IsGood whole functions objects i
exact-good whole functions objects (item.Plain i) h = spelling-indexed i h.0 h.1
exact-good whole functions objects (item.Label l) h = tt
exact-good whole functions objects (item.Point p) h = tt
exact-good whole functions objects (item.JumpTo l) h = h
exact-good whole functions objects (item.JumpIf c l) h = h
exact-good whole functions objects (item.CallFunction f) h = h
exact-good whole functions objects (item.CallStub s) h = tt
exact-good whole functions objects (item.JumpTrap c) h = tt
exact-good whole functions objects (item.AddressOf r k) h = h

pub all-good : (whole : List Item) (functions objects : ℕ) (items : List Item)
    → AllByRecursion (IsExact whole functions objects) items → AllByRecursion (IsGood whole functions objects) items
all-good whole functions objects items h =
    all-weaker (IsExact whole functions objects) (IsGood whole functions objects) items
    (exact-good whole functions objects) h

-- all of them are, and have at most so many bytes and 8 for each of so many argument words
pub record IsFitRow (whole : List Item) (functions objects most words : ℕ) (items : List Item) : Type 0 where
  pub good : AllByRecursion (IsGood whole functions objects) items
  pub small : items_size items ≤ most + 8 * words

-- the bytes that the row of an op has at most, beside those for argument words: more where it has moves
abbrev pub most_row : Op → ℕ
most_row (op.Jump x) = 640
most_row (op.Branch how a b x y) = 640
most_row (op.Branchu how a b x y) = 640
most_row o = 200

-- the labels of a branch's two ways stand there, and that of a detour, where the first has moves
abbrev pub WaysStand : List Item → ℕ → (ℕ → List Item) → ℕ → ℕ → Type 0
WaysStand whole label moves x y =
    Stands (item.Label x) whole × Stands (item.Label y) whole
    × ((move : Item) (rest : List Item) → moves x ≡ move ∷ rest → Stands (item.Label label) whole)

-- the labels that an op's row jumps to stand there
abbrev pub LabelsStand : List Item → ℕ → (ℕ → List Item) → Op → Type 0
LabelsStand whole label moves (op.Jump x) = Stands (item.Label x) whole
LabelsStand whole label moves (op.Branch how a b x y) = WaysStand whole label moves x y
LabelsStand whole label moves (op.Branchu how a b x y) = WaysStand whole label moves x y
LabelsStand whole label moves (op.Clear k) = Stands (item.Label label) whole
LabelsStand whole label moves o = ⊤

-- the moves on the ways of an op can be assembled, and are few
abbrev pub MovesFit : List Item → ℕ → ℕ → (ℕ → List Item) → Op → Type 0
MovesFit whole functions objects moves (op.Jump x) = Within (IsGood whole functions objects) 24 (moves x)
MovesFit whole functions objects moves (op.Branch how a b x y) =
    Within (IsGood whole functions objects) 24 (moves x) × Within (IsGood whole functions objects) 24 (moves y)
MovesFit whole functions objects moves (op.Branchu how a b x y) =
    Within (IsGood whole functions objects) 24 (moves x) × Within (IsGood whole functions objects) 24 (moves y)
MovesFit whole functions objects moves o = ⊤

module _ (whole : List Item) (functions objects : ℕ) where
  abbrev Good : ℕ → List Item → Type 0
  Good n items = Within (IsExact whole functions objects) n items

  fine-good : (i : Item) → IsFine i → IsExact whole functions objects i
  fine-good (item.Plain i) h = h
  fine-good (item.Label l) h = absurd h
  fine-good (item.Point p) h = absurd h
  fine-good (item.JumpTo l) h = absurd h
  fine-good (item.JumpIf c l) h = absurd h
  fine-good (item.CallFunction f) h = absurd h
  fine-good (item.CallStub s) h = absurd h
  fine-good (item.JumpTrap c) h = absurd h
  fine-good (item.AddressOf r k) h = absurd h

  good : (n : ℕ) (items : List Item) → AreFine n items → Good n items
  good n items h = (all-weaker IsFine (IsExact whole functions objects) items fine-good h.0, h.1)

  both : (m n : ℕ) (xs ys : List Item) → Good m xs → Good n ys → Good (m + n) (xs ++ ys)
  both m n xs ys a b = join (IsExact whole functions objects) m n xs ys a b

  -- an item before others
  first : (n : ℕ) (i : Item) (items : List Item) → IsExact whole functions objects i → Good n items
      → Good (suc n) (i ∷ items)
  first n i items h k = ((h, k.0), more (length items) n k.1)
    where
      more : (x n : ℕ) → x ≤ n → suc x ≤ suc n
      more x n l = omega arith

  -- a dozen items have few bytes
  fits : (words n : ℕ) (items : List Item) → n ≤ 12 → Good n items → IsFitRow whole functions objects 200 words items
  fits words n items few h =
      record {
        good = all-good whole functions objects items h.0;
        small = counted (items_size items) (length items) n words (items-short items) h.1 few;
      }
    where
      counted : (x y n w : ℕ) → x ≤ 12 * y → y ≤ n → n ≤ 12 → x ≤ 200 + 8 * w
      counted x y n w a b c = omega arith

  fits-fine : (words n : ℕ) (items : List Item) → n ≤ 12 → AreFine n items
      → IsFitRow whole functions objects 200 words items
  fits-fine words n items few h = fits words n items few (good n items h)

  -- ---- calls

  deepen-good : Good 4 deepen
  deepen-good = (
    (
      inr refl,
      (
        (((fits-near 0 (omega arith), fits-near 4096 (omega arith)), (tt, tt))),
        (tt, (((fits-near 0 (omega arith), fits-near 1 (omega arith)), (tt, tt)), tt)),
      ),
    ),
    omega arith,
  )

  undeepen-good : Good 2 undeepen
  undeepen-good =
      ((inr refl, (((fits-near 0 (omega arith), fits-near 1 (omega arith)), (tt, tt)), tt)), omega arith)

  drop-good : (words : ℕ) → words ≤ 4096 → Good 1 (drop_words words)
  drop-good zero h = (tt, omega arith)
  drop-good (suc n) h = (((fits-near (4 * suc n) (omega arith), tt), tt), omega arith)

  any-good : (p : Option Place) → ((q : Place) → p ≡ Some q → IsNear q) → Good 2 (write_any p)
  any-good None h = (tt, omega arith)
  any-good (Some p) h = good 2 (write p Eax) (write-fine p Eax (h p refl))

  pass_all-good : (places : List Place) → AllByRecursion IsNear places
      → AllByRecursion (IsExact whole functions objects) (pass_all places)
  pass_all-good [] h = tt
  pass_all-good (p ∷ places) h =
      all-append (IsExact whole functions objects) (pass_all places) (pass p) (pass_all-good places h.1)
      (good 2 (pass p) (pass-fine p h.0)).0

  call-fits : (result : Option Place) (f : ℕ) (arguments : List Place) → ((q : Place) → result ≡ Some q → IsNear q)
      → f < functions → AllByRecursion IsNear arguments → length arguments ≤ 4096
      → IsFitRow whole functions objects 200 (length arguments) (call_row result f arguments)
  call-fits result f arguments to names passed few =
      let P : Item → Type 0 = IsExact whole functions objects in
      let words : ℕ = length arguments in
      let back : Good 5 (behind_call result words) =
      both 3 2 (drop_words words ++ undeepen) (write_any result)
      (both 1 2 (drop_words words) undeepen (drop-good words few) undeepen-good) (any-good result to) in
      let calls : Good 6 (item.CallFunction f ∷ behind_call result words) =
      first 5 (item.CallFunction f) (behind_call result words) names back in
      record {
        good = all-good whole functions objects (call_row result f arguments)
            (all-append P (before_call arguments) (item.CallFunction f ∷ behind_call result words)
            (all-append P deepen (pass_all arguments) deepen-good.0 (pass_all-good arguments passed)) calls.0);
        small = counted (items_size (call_row result f arguments)) (items_size (before_call arguments))
            (items_size deepen)
            (items_size (pass_all arguments)) (items_size (item.CallFunction f ∷ behind_call result words))
            (length (item.CallFunction f ∷ behind_call result words)) words
            (items_size-append (before_call arguments) (item.CallFunction f ∷ behind_call result words))
            (items_size-append deepen (pass_all arguments)) (items-short deepen) (pass_all-short arguments)
            (items-short (item.CallFunction f ∷ behind_call result words)) calls.1;
      }
    where
      counted : (w b d p c k n : ℕ) → w ≡ b + c → b ≡ d + p → d ≤ 48 → p ≤ 8 * n → c ≤ 12 * k → k ≤ 6
          → w ≤ 200 + 8 * n
      counted w b d p c k n e f x y z l = omega arith

  -- ---- accesses

  check_array-good : (p : Place) → IsNear p → Good 3 (check_array p)
  check_array-good p h =
      let test : List Item = plain (insn.Test (rm.Reg (target_of p)) (target_of p)) ∷ item.JumpTrap (Some cond.E) ∷ []
      in
      both 1 2 (read (target_of p) p) test (good 1 (read (target_of p) p) (read-fine (target_of p) p h))
      (((tt, tt), (tt, tt)), omega arith)

  check_index-good : (p q : Place) → IsNear q → Good 3 (check_index p q)
  check_index-good p q h =
      let compare : List Item = plain (insn.AluLoad alu.Cmp (index_register q) (count_before (target_of p)))
      ∷ item.JumpTrap (Some cond.Ae) ∷ [] in
      both 1 2 (read (index_register q) q) compare
      (good 1 (read (index_register q) q) (read-fine (index_register q) q h))
      (((fits-below 4 (omega arith), tt), (tt, tt)), omega arith)

  checking-good : (p q : Place) → IsNear p → IsNear q → Good 6 (checking p q)
  checking-good p q h k = both 3 3 (check_array p) (check_index p q) (check_array-good p h) (check_index-good p q k)

  load_from-good : (bits : Bits) (p : Place) (m : Mem) → IsNear p → FitsSigned w32 m.disp → IsIndex m.index
      → Good 3 (load_from bits p m)
  load_from-good bits p m h fit index =
      first 2 (plain (loading bits (target_of p) m)) (write p (target_of p))
      (fine-good (plain (loading bits (target_of p) m)) (loading-fine bits (target_of p) m fit index))
      (good 2 (write p (target_of p)) (write-fine p (target_of p) h))

  load-good : (bits : Bits) (p q r : Place) → IsNear p → IsNear q → IsNear r → Good 9 (load_row bits p q r)
  load-good bits p q r h k l =
      let m : Mem = element (bytes_of bits) (target_of q) (index_register r) in
      both 6 3 (checking q r) (load_from bits p m) (checking-good q r k l)
      (load_from-good bits p m h (fits-near 0 (omega arith)) (element-index bits (target_of q) r l))

  store-good : (bits : Bits) (p q r : Place) → IsNear p → IsNear q → IsNear r → Good 11 (store_row bits p q r)
  store-good bits p q r h k l =
      let m : Mem = element (bytes_of bits) (target_of p) (index_register q) in
      both 6 5 (checking p q) (store_at bits m r) (checking-good p q h k)
      (good 5 (store_at bits m r)
      (store_at-fine bits m r l (fits-near 0 (omega arith)) (element-index bits (target_of p) q k)))

  -- ---- loops

  fill-good : (label : ℕ) → Stands (item.Label label) whole → Good 5 (fill Edi Esi Esp label)
  fill-good label stands = (
    (
      tt,
      (((tt, fits-near 4 (omega arith)), (tt, tt)), ((fits-near 0 (omega arith), tt), ((tt, tt), (stands, tt)))),
    ),
    omega arith,
  )

  clear-good : (label distance bytes : ℕ) → Stands (item.Label label) whole → distance ≤ 0x4000
      → Good 7 (clear_row label distance bytes)
  clear-good label distance bytes stands h =
      let less : distance - bytes ≤ 0x4000 = omega arith in (
        (
          (fits-below distance h, tt),
          (
            (fits-below (distance - bytes) less, tt),
            (
              tt,
              (
                ((tt, fits-near 4 (omega arith)), (tt, tt)),
                (((fits-near 0 (omega arith), fits-near 0 (omega arith)), (tt, tt)), ((tt, tt), (stands, tt))),
              ),
            ),
          ),
        ),
        omega arith,
      )

  -- a function's first items, of which there are thirteen at most
  pub prologue-good : (frame zeroed label : ℕ) → frame ≤ 0x4000
      → (nat_lt zeroed frame ≡ true → Stands (item.Label label) whole) → Good 13 (prologue frame zeroed label)
  prologue-good frame zeroed label h stands =
      both 6 7 saves (zeroing frame zeroed label)
      (((tt, tt), ((tt, tt), ((tt, tt), ((tt, tt), ((tt, tt), ((fits-below frame h, tt), tt)))))), omega arith)
      (chosen (nat_lt zeroed frame) refl)
    where
      saves : List Item
      saves =
          plain (insn.Push (rm.Reg Ebp)) ∷ plain (insn.Mov (rm.Reg Ebp) Esp) ∷ plain (insn.Push (rm.Reg Ebx))
          ∷ plain (insn.Push (rm.Reg Esi)) ∷ plain (insn.Push (rm.Reg Edi)) ∷ plain (insn.Lea Esp (below frame)) ∷ []

      loops : List Item
      loops =
          plain (insn.MovImm (rm.Reg Esi) (pos 0)) ∷ plain (insn.Lea Edi (below zeroed)) ∷ fill Edi Esi Esp label

      near : nat_lt zeroed frame ≡ true → zeroed ≤ 0x4000
      near e = grind (arith, nat_tests, e, h)

      chosen : (b : Bool) → nat_lt zeroed frame ≡ b → Good 7 (if b then loops else [])
      chosen false e = (tt, omega arith)
      chosen true e =
          first 6 (plain (insn.MovImm (rm.Reg Esi) (pos 0))) (plain (insn.Lea Edi (below zeroed)) ∷ fill Edi Esi Esp label)
          ((tt, fits-near 0 (omega arith)), (tt, tt))
          (first 5 (plain (insn.Lea Edi (below zeroed))) (fill Edi Esi Esp label) (fits-below zeroed (near e), tt)
          (fill-good label (stands e)))

  -- ---- moves

  moves-small : (moves : List Item) → length moves ≤ 24 → items_size moves ≤ 288
  moves-small moves few =
      let short = items-short moves in omega (arith, short, few)

  jumping-good : (moves : List Item) (l : ℕ) → AllByRecursion (IsGood whole functions objects) moves
      → Stands (item.Label l) whole → AllByRecursion (IsGood whole functions objects) (jumping moves l)
  jumping-good moves l h stands =
      all-append (IsGood whole functions objects) moves (item.JumpTo l ∷ []) h (stands, tt)

  jumping-size : (moves : List Item) (l : ℕ) → length moves ≤ 24 → items_size (jumping moves l) ≤ 293
  jumping-size moves l few =
      let whole_size = items_size-append moves (item.JumpTo l ∷ []) in
      let small = moves-small moves few in
      omega (arith, whole_size, small)

  choosing-good : (c : Cond) (label x y : ℕ) (to_x to_y : List Item)
      → AllByRecursion (IsGood whole functions objects) to_x → AllByRecursion (IsGood whole functions objects) to_y
      → Stands (item.Label x) whole → Stands (item.Label y) whole
      → ((move : Item) (rest : List Item) → to_x ≡ move ∷ rest → Stands (item.Label label) whole)
      → AllByRecursion (IsGood whole functions objects) (choosing c label to_x to_y x y)
  choosing-good c label x y [] to_y a b sx sy detour = (sx, jumping-good to_y y b sy)
  choosing-good c label x y (move ∷ rest) to_y a b sx sy detour = (
    detour move rest refl,
    all-append (IsGood whole functions objects) (jumping to_y y)
        (item.Label label ∷ jumping (move ∷ rest) x) (jumping-good to_y y b sy)
        (tt, jumping-good (move ∷ rest) x a sx),
  )

  choosing-size : (c : Cond) (label x y : ℕ) (to_x to_y : List Item) → length to_x ≤ 24 → length to_y ≤ 24
      → items_size (choosing c label to_x to_y x y) ≤ 592
  choosing-size c label x y [] to_y a b =
      let size = jumping-size to_y y b in omega (arith, size)
  choosing-size c label x y (move ∷ rest) to_y a b =
      let one = jumping-size to_y y b in
      let two = jumping-size (move ∷ rest) x a in
      let whole_size = items_size-append (jumping to_y y) (item.Label label ∷ jumping (move ∷ rest) x) in
      counted (items_size (jumping to_y y ++ item.Label label ∷ jumping (move ∷ rest) x)) (items_size (jumping to_y y))
      (items_size (jumping (move ∷ rest) x)) whole_size one two
    where
      counted : (w a b : ℕ) → w ≡ a + (0 + b) → a ≤ 293 → b ≤ 293 → 6 + w ≤ 592
      counted w a b e h k = omega arith

  -- a comparison, and both ways behind it
  branching-fits : (c : Cond) (label x y : ℕ) (moves : ℕ → List Item) (p q : Place) → IsNear p → IsNear q
      → WaysStand whole label moves x y → Within (IsGood whole functions objects) 24 (moves x)
      → Within (IsGood whole functions objects) 24 (moves y)
      → IsFitRow whole functions objects 640 0 (branching c label p q (moves x) (moves y) x y)
  branching-fits c label x y moves p q h k labels to_x to_y =
      let compare : List Item = comparing p q in
      let ends : List Item = choosing c label (moves x) (moves y) x y in
      let exact = good 3 compare (comparing-fine p q h k) in
      let both_size = items_size-append compare ends in
      let short = items-short compare in
      record {
        good = all-append (IsGood whole functions objects) compare ends
            (all-good whole functions objects compare exact.0)
            (choosing-good c label x y (moves x) (moves y) to_x.0 to_y.0 labels.0 labels.1 labels.2);
        small = counted (items_size (compare ++ ends)) (items_size compare) (items_size ends) (length compare) both_size
            short exact.1 (choosing-size c label x y (moves x) (moves y) to_x.1 to_y.1);
      }
    where
      counted : (w c e n : ℕ) → w ≡ c + e → c ≤ 12 * n → n ≤ 3 → e ≤ 592 → w ≤ 640
      counted w c e n h i j k = omega arith

  -- ---- ops

  pub row-fits : (label : ℕ) (moves : ℕ → List Item) (arrays : List (ℕ × ℕ)) (distances : List ℕ)
      (before after : ℕ → Place) (o : Op)
      → ((v : ℕ) → IsNear (before v)) → ((v : ℕ) → IsNear (after v))
      → ((k : ℕ) → slice_index_or distances k 0 ≤ 0x4000)
      → NumbersFit o → NamesWithin functions objects o → LabelsStand whole label moves o
      → MovesFit whole functions objects moves o → words_of o ≤ 4096
      → IsFitRow whole functions objects (most_row o) (words_of o)
      (items_between label moves arrays distances before after o)
  row-fits label moves arrays distances before after (op.Const d n) b a k numbers names labels going few =
      fits-fine 0 1 (number_row (after d) n) (omega arith) (number-fine (after d) n (a d) numbers)
  row-fits label moves arrays distances before after (op.Copy d s) b a k numbers names labels going few =
      fits-fine 0 2 (copy_row (before s) (after d)) (omega arith) (copy-fine (before s) (after d) (b s) (a d))
  row-fits label moves arrays distances before after (op.Wide d s) b a k numbers names labels going few =
      fits-fine 0 3 (widening insn.MovSx8 (after d) (before s)) (omega arith)
      (widening-fine insn.MovSx8 (after d) (before s) (λ t o h. h) (a d) (b s))
  row-fits label moves arrays distances before after (op.Zero d s) b a k numbers names labels going few =
      fits-fine 0 3 (widening insn.MovZx8 (after d) (before s)) (omega arith)
      (widening-fine insn.MovZx8 (after d) (before s) (λ t o h. h) (a d) (b s))
  row-fits label moves arrays distances before after (op.Low d s) b a k numbers names labels going few =
      fits-fine 0 2 (lowering (after d) (before s)) (omega arith) (lowering-fine (after d) (before s) (a d) (b s))
  row-fits label moves arrays distances before after (op.Low16 d s) b a k numbers names labels going few =
      fits-fine 0 4 (halving (after d) (before s)) (omega arith) (halving-fine (after d) (before s) (a d) (b s))
  row-fits label moves arrays distances before after (op.Neg d s) b a k numbers names labels going few =
      fits-fine 0 4 (changing insn.Neg (after d) (before s)) (omega arith)
      (changing-fine insn.Neg (after d) (before s) (λ r. (tt, tt)) (a d) (b s))
  row-fits label moves arrays distances before after (op.Not d s) b a k numbers names labels going few =
      fits-fine 0 4 (changing insn.Not (after d) (before s)) (omega arith)
      (changing-fine insn.Not (after d) (before s) (λ r. (tt, tt)) (a d) (b s))
  row-fits label moves arrays distances before after (op.Add d x y) b a k numbers names labels going few =
      fits-fine 0 5 (adding (after d) (before x) (before y)) (omega arith)
      (adding-fine (after d) (before x) (before y) (a d) (b x) (b y))
  row-fits label moves arrays distances before after (op.Sub d x y) b a k numbers names labels going few =
      fits-fine 0 5 (operation alu.Sub (after d) (before x) (before y)) (omega arith)
      (operation-fine alu.Sub (after d) (before x) (before y) (a d) (b x) (b y))
  row-fits label moves arrays distances before after (op.Mul d x y) b a k numbers names labels going few =
      fits-fine 0 5 (multiplying (after d) (before x) (before y)) (omega arith)
      (multiplying-fine (after d) (before x) (before y) (a d) (b x) (b y))
  row-fits label moves arrays distances before after (op.And d x y) b a k numbers names labels going few =
      fits-fine 0 5 (commuting alu.And (after d) (before x) (before y)) (omega arith)
      (commuting-fine alu.And (after d) (before x) (before y) (a d) (b x) (b y))
  row-fits label moves arrays distances before after (op.Or d x y) b a k numbers names labels going few =
      fits-fine 0 5 (commuting alu.Or (after d) (before x) (before y)) (omega arith)
      (commuting-fine alu.Or (after d) (before x) (before y) (a d) (b x) (b y))
  row-fits label moves arrays distances before after (op.Xor d x y) b a k numbers names labels going few =
      fits-fine 0 5 (commuting alu.Xor (after d) (before x) (before y)) (omega arith)
      (commuting-fine alu.Xor (after d) (before x) (before y) (a d) (b x) (b y))
  row-fits label moves arrays distances before after (op.Shl d x y) b a k numbers names labels going few =
      fits-fine 0 5 (shifting shift.Shl (after d) (before x) (before y)) (omega arith)
      (shifting-fine shift.Shl (after d) (before x) (before y) (a d) (b x) (b y))
  row-fits label moves arrays distances before after (op.Sar d x y) b a k numbers names labels going few =
      fits-fine 0 5 (shifting shift.Sar (after d) (before x) (before y)) (omega arith)
      (shifting-fine shift.Sar (after d) (before x) (before y) (a d) (b x) (b y))
  row-fits label moves arrays distances before after (op.Shr d x y) b a k numbers names labels going few =
      fits-fine 0 5 (shifting shift.Shr (after d) (before x) (before y)) (omega arith)
      (shifting-fine shift.Shr (after d) (before x) (before y) (a d) (b x) (b y))
  row-fits label moves arrays distances before after (op.Div d x y) b a k numbers names labels going few =
      fits-fine 0 6 (dividing insn.Cdq insn.IDiv Eax (after d) (before x) (before y)) (omega arith)
      (dividing-fine insn.Cdq insn.IDiv Eax (after d) (before x) (before y) (tt, tt) (λ o h. h) (a d) (b x) (b y))
  row-fits label moves arrays distances before after (op.Rem d x y) b a k numbers names labels going few =
      fits-fine 0 6 (dividing insn.Cdq insn.IDiv Edx (after d) (before x) (before y)) (omega arith)
      (dividing-fine insn.Cdq insn.IDiv Edx (after d) (before x) (before y) (tt, tt) (λ o h. h) (a d) (b x) (b y))
  row-fits label moves arrays distances before after (op.Udiv d x y) b a k numbers names labels going few =
      fits-fine 0 6 (dividing zero_edx insn.Div Eax (after d) (before x) (before y)) (omega arith)
      (dividing-fine zero_edx insn.Div Eax (after d) (before x) (before y) (tt, tt) (λ o h. h) (a d) (b x) (b y))
  row-fits label moves arrays distances before after (op.Urem d x y) b a k numbers names labels going few =
      fits-fine 0 6 (dividing zero_edx insn.Div Edx (after d) (before x) (before y)) (omega arith)
      (dividing-fine zero_edx insn.Div Edx (after d) (before x) (before y) (tt, tt) (λ o h. h) (a d) (b x) (b y))
  row-fits label moves arrays distances before after (op.Set how d x y) b a k numbers names labels going few =
      fits-fine 0 6 (setting (cond_of how) (after d) (before x) (before y)) (omega arith)
      (setting-fine (cond_of how) (after d) (before x) (before y) (a d) (b x) (b y))
  row-fits label moves arrays distances before after (op.Setu how d x y) b a k numbers names labels going few =
      fits-fine 0 6 (setting (cond_of_order how) (after d) (before x) (before y)) (omega arith)
      (setting-fine (cond_of_order how) (after d) (before x) (before y) (a d) (b x) (b y))
  row-fits label moves arrays distances before after (op.Param d n) b a k numbers names labels going few =
      let t : Reg32 = target_of (after d) in
      fits 0 3 (plain (insn.MovLoad t (argument_word n)) ∷ write (after d) t) (omega arith)
      (first 2 (plain (insn.MovLoad t (argument_word n))) (write (after d) t) (argument-fits n, tt)
      (good 2 (write (after d) t) (write-fine (after d) t (a d))))
  row-fits label moves arrays distances before after (op.Call d f arguments) b a k numbers names labels going few =
      let many : length (map before arguments) ≡ length arguments = length-map arguments before in
      subst (λ (n : ℕ). IsFitRow whole functions objects 200 n (call_row (option_map after d) f (map before arguments)))
      many
      (call-fits (option_map after d) f (map before arguments) (any d) names (each arguments)
      (subst (λ (n : ℕ). n ≤ 4096) (sym many) few))
    where
      any : (d : Option ℕ) (q : Place) → option_map after d ≡ Some q → IsNear q
      any None q e = absurd (cc)
      any (Some v) q e = subst IsNear (same_Some (after v) q e) (a v)

      each : (vs : List ℕ) → AllByRecursion IsNear (map before vs)
      each [] = tt
      each (v ∷ vs) = (b v, each vs)
  row-fits label moves arrays distances before after (op.Putchar d s) b a k numbers names labels going few =
      let back : List Item = item.CallStub stub.Putchar ∷ plain (insn.Pop Edi) ∷ write (after d) Eax in
      fits 0 6 (pass (before s) ++ back) (omega arith)
      (both 2 4 (pass (before s)) back (good 2 (pass (before s)) (pass-fine (before s) (b s)))
      (first 3 (item.CallStub stub.Putchar) (plain (insn.Pop Edi) ∷ write (after d) Eax) tt
      (first 2 (plain (insn.Pop Edi)) (write (after d) Eax) (tt, tt)
      (good 2 (write (after d) Eax) (write-fine (after d) Eax (a d))))))
  row-fits label moves arrays distances before after (op.Getchar d) b a k numbers names labels going few =
      fits 0 3 (item.CallStub stub.Getchar ∷ write (after d) Eax) (omega arith)
      (first 2 (item.CallStub stub.Getchar) (write (after d) Eax) tt
      (good 2 (write (after d) Eax) (write-fine (after d) Eax (a d))))
  row-fits label moves arrays distances before after (op.Exit s) b a k numbers names labels going few =
      fits 0 3 (pass (before s) ++ item.CallStub stub.Exit ∷ []) (omega arith)
      (both 2 1 (pass (before s)) (item.CallStub stub.Exit ∷ []) (good 2 (pass (before s)) (pass-fine (before s) (b s)))
      ((tt, tt), omega arith))
  row-fits label moves arrays distances before after (op.Same x y) b a k numbers names labels going few =
      let compare : List Item = comparing (before x) (before y) in
      fits 0 4 (compare ++ item.JumpTrap (Some cond.Ne) ∷ []) (omega arith)
      (both 3 1 compare (item.JumpTrap (Some cond.Ne) ∷ [])
      (good 3 compare (comparing-fine (before x) (before y) (b x) (b y))) ((tt, tt), omega arith))
  row-fits label moves arrays distances before after (op.Mark s) b a k numbers names labels going few =
      fits 0 1 (plain insn.Nop ∷ []) (omega arith) (((tt, tt), tt), omega arith)
  row-fits label moves arrays distances before after op.Turn b a k numbers names labels going few =
      fits 0 1 (plain insn.Nop ∷ []) (omega arith) (((tt, tt), tt), omega arith)
  row-fits label moves arrays distances before after (op.Jump x) b a k numbers names labels going few =
      let size = jumping-size (moves x) x going.1 in
      record { good = jumping-good (moves x) x going.0 labels; small = omega (arith, size) }
  row-fits label moves arrays distances before after (op.Branch how p q x y) b a k numbers names labels going few =
      branching-fits (cond_of how) label x y moves (before p) (before q) (b p) (b q) labels going.0 going.1
  row-fits label moves arrays distances before after (op.Branchu how p q x y) b a k numbers names labels going few =
      branching-fits (cond_of_order how) label x y moves (before p) (before q) (b p) (b q) labels going.0 going.1
  row-fits label moves arrays distances before after (op.Return (Some v)) b a k numbers names labels going few =
      fits-fine 0 6 (return_row (before v)) (omega arith) (return-fine (before v) (b v))
  row-fits label moves arrays distances before after (op.Return None) b a k numbers names labels going few =
      fits-fine 0 6 leave (omega arith) leaves
  row-fits label moves arrays distances before after (op.Frame d n) b a k numbers names labels going few =
      let t : Reg32 = target_of (after d) in
      let lea : Item = plain (insn.Lea t (below (slice_index_or distances n 0))) in
      fits 0 3 (lea ∷ write (after d) t) (omega arith)
      (first 2 lea (write (after d) t) (fits-below (slice_index_or distances n 0) (k n), tt)
      (good 2 (write (after d) t) (write-fine (after d) t (a d))))
  row-fits label moves arrays distances before after (op.Static d n) b a k numbers names labels going few =
      let t : Reg32 = target_of (after d) in
      fits 0 3 (item.AddressOf t n ∷ write (after d) t) (omega arith)
      (first 2 (item.AddressOf t n) (write (after d) t) (inl names)
      (good 2 (write (after d) t) (write-fine (after d) t (a d))))
  row-fits label moves arrays distances before after (op.Load bits d p i) b a k numbers names labels going few =
      fits 0 9 (load_row bits (after d) (before p) (before i)) (omega arith)
      (load-good bits (after d) (before p) (before i) (a d) (b p) (b i))
  row-fits label moves arrays distances before after (op.Store bits p i s) b a k numbers names labels going few =
      fits 0 11 (store_row bits (before p) (before i) (before s)) (omega arith)
      (store-good bits (before p) (before i) (before s) (b p) (b i) (b s))
  row-fits label moves arrays distances before after (op.Get bits d n) b a k numbers names labels going few =
      fits 0 4 (item.AddressOf Esi n ∷ load_from bits (after d) (near Esi 0)) (omega arith)
      (first 3 (item.AddressOf Esi n) (load_from bits (after d) (near Esi 0)) (inl names)
      (load_from-good bits (after d) (near Esi 0) (a d) (fits-near 0 (omega arith)) tt))
  row-fits label moves arrays distances before after (op.Put bits n s) b a k numbers names labels going few =
      fits 0 5 (item.AddressOf Edi n ∷ store_to bits (before s)) (omega arith)
      (first 4 (item.AddressOf Edi n) (store_to bits (before s)) (inl names)
      (good 4 (store_to bits (before s)) (store_to-fine bits (before s) (b s))))
  row-fits label moves arrays distances before after (op.Clear n) b a k numbers names labels going few =
      fits 0 7 (clear_row label (slice_index_or distances n 0) (size_of (slice_index_or arrays n (0, 0)))) (omega arith)
      (clear-good label (slice_index_or distances n 0) (size_of (slice_index_or arrays n (0, 0))) labels (k n))
