-- What was assembled is a section of the items.
use Rattle.std.specs.Prelude.{◌≡◌, ℕ, zero, suc, ◌+◌, ◌-◌, ◌<◌, ◌≤◌, ◌^◌, List, [], ◌∷◌, ◌++◌, length, take, drop, map}
use Rattle.std.specs.Prelude.{slice_get, slice_index, Option, Some, None, IfSome}
use Rattle.std.specs.List.{filter_map, cons_option}
use Rattle.std.proofs.Common.{refl, sym, ap, ◌∙◌, subst, arith, get_or}
use Rattle.std.proofs.lemmas.List.{append_assoc, length-append, drop_at, take_all, take_more}
use Rattle.std.proofs.lemmas.Option.{same_Some, slice_get-get_or}
use Rattle.ia32_insn.specs.declared.item.Item.{Item}
use Rattle.ia32_insn.specs.declared.item.Item.TheVariants as item
use Rattle.ia32_insn.specs.Spelling.{cond_number}
use Rattle.ia32_insn.specs.Registers.{number32}
use Rattle.ia32_insn.specs.Items.{ItemsAt}
use Rattle.ia32_asm.specs.declared.section.Section.{Section}
use Rattle.ia32_asm.specs.declared.section.Relocation.{Relocation}
use Rattle.ia32_asm.specs.declared.section.Target.{Target}
use Rattle.ia32_asm.specs.Sections.{target_of, is_relative, resolved, HaveAddresses, FollowFrom, IsSection, item_size}
use Rattle.ia32_asm.specs.Sections.{items_size, IsSpelled, HasLabel, CanAssemble}
use Rattle.ia32_asm.specs.Pieces.{piece, distance_in, relocation_for, HasEntry, AreOffsets}
use Rattle.ia32_asm.proofs.Spelled.{length-piece}
use Rattle.ia32_asm.proofs.Laying.{items_size-take, items_size-push}
use Rattle.ia32_asm.proofs.ItemCode.{code_of, relocations_of, IsCode, length-code}
use Rattle.ia32_asm.proofs.Relocating.{last_four, four_zeros}
use Rattle.ia32_asm.proofs.Resolving.{places_at, AreRight, items_at}

-- ---- relocations

-- what holds of the first relocation and of the others holds of each
every : (P : Relocation → Type 0) (end : ℕ) (t : Option Target) (rs : List Relocation)
    → IfSome t (λ t. P (last_four end t))
    → ((j : ℕ) (r : Relocation) → slice_get rs j ≡ Some r → P r) → (j : ℕ) (r : Relocation)
    → slice_get (relocation_for end t ++ rs) j ≡ Some r → P r
every P end None rs one others j r e = others j r e
every P end (Some t) rs one others zero r e = subst P (same_Some (last_four end t) r e) one
every P end (Some t) rs one others (suc j) r e = others j r e

one_target : (end : ℕ) (t : Option Target) (rs : List Relocation) → map (λ r. r.target) (relocation_for end t ++ rs)
    ≡ cons_option t (map (λ r. r.target) rs)
one_target end None rs = refl
one_target end (Some t) rs = refl

targets_are : (o : ℕ) (items : List Item) → map (λ r. r.target) (relocations_of o items) ≡ filter_map target_of items
targets_are o [] = refl
targets_are o (x ∷ xs) =
    one_target (o + item_size x) (target_of x) (relocations_of (o + item_size x) xs) ∙ ap (cons_option (target_of x))
    (targets_are (o + item_size x) xs)

one_relative : (t : Option Target) → IfSome t (λ t. is_relative t ≡ is_relative t)
one_relative None = tt
one_relative (Some t) = refl

relative_are : (o : ℕ) (items : List Item) (j : ℕ) (r : Relocation) → slice_get (relocations_of o items) j ≡ Some r
    → r.relative ≡ is_relative r.target
relative_are o [] j r e = absurd (cc)
relative_are o (x ∷ xs) j r e =
    every (λ r. r.relative ≡ is_relative r.target) (o + item_size x) (target_of x) (relocations_of (o + item_size x) xs)
    (one_relative (target_of x))
    (relative_are (o + item_size x) xs) j r e

-- an item with a target has four bytes for it
has_four : (o : ℕ) (x : Item) → IfSome (target_of x) (λ t. o + 4 ≤ o + item_size x)
has_four o (item.Plain i) = tt
has_four o (item.Label l) = tt
has_four o (item.Point p) = tt
has_four o (item.JumpTo l) = tt
has_four o (item.JumpIf c l) = tt
has_four o (item.CallFunction f) = omega arith
has_four o (item.CallStub s) = omega arith
has_four o (item.JumpTrap None) = omega arith
has_four o (item.JumpTrap (Some c)) = omega arith
has_four o (item.AddressOf r k) = omega arith

follow_one : (first o end n : ℕ) (t : Option Target) (rs : List Relocation) → first ≤ o → o ≤ end
    → IfSome t (λ t. o + 4 ≤ end)
    → ((m : ℕ) → m ≤ end → FollowFrom m rs n) → FollowFrom first (relocation_for end t ++ rs) n
follow_one first o end n None rs p q four others = others first (omega (arith, p, q))
follow_one first o end n (Some t) rs p q four others =
    (omega (arith, p, four), others (end - 4 + 4) (omega (arith, four)))

follow : (first o n : ℕ) (items : List Item) → first ≤ o → o + items_size items ≤ n
    → FollowFrom first (relocations_of o items) n
follow first o n [] p q = omega (arith, p, q)
follow first o n (x ∷ xs) p q =
    follow_one first o (o + item_size x) n (target_of x) (relocations_of (o + item_size x) xs) p (omega arith)
    (has_four o x)
    (λ m h. follow m (o + item_size x) n xs h (omega (arith, q)))

zeros_last : (front op tail : List ℕ) (offset : ℕ) → offset ≡ length front + length op
    → take 4 (drop offset (front ++ ((op ++ four_zeros) ++ tail))) ≡ four_zeros
zeros_last front op tail offset e =
    let shape : front ++ ((op ++ four_zeros) ++ tail) ≡ (front ++ op) ++ (four_zeros ++ tail) = simp append_assoc in
    ap (λ (xs : List ℕ). take 4 (drop offset xs)) shape ∙ ap (take 4) (drop_at (front ++ op) (four_zeros
    ++ tail) offset (omega (arith, e, length-append front op)))

zeros_one : (labels : List ℕ) (o : ℕ) (front tail : List ℕ) (x : Item) → length front ≡ o
    → IfSome (target_of x)
    (λ t. take 4 (drop (o + item_size x - 4) (front ++ (piece (distance_in labels o x) x ++ tail))) ≡ four_zeros)
zeros_one labels o front tail (item.Plain i) e = tt
zeros_one labels o front tail (item.Label l) e = tt
zeros_one labels o front tail (item.Point p) e = tt
zeros_one labels o front tail (item.JumpTo l) e = tt
zeros_one labels o front tail (item.JumpIf c l) e = tt
zeros_one labels o front tail (item.CallFunction f) e = zeros_last front (0xe8 ∷ []) tail (o + 5 - 4) (omega (arith, e))
zeros_one labels o front tail (item.CallStub s) e = zeros_last front (0xe8 ∷ []) tail (o + 5 - 4) (omega (arith, e))
zeros_one labels o front tail (item.JumpTrap None) e = zeros_last front (0xe9 ∷ []) tail (o + 5 - 4) (omega (arith, e))
zeros_one labels o front tail (item.JumpTrap (Some c)) e =
    zeros_last front (0x0f ∷ (0x80 + cond_number c) ∷ []) tail (o + 6 - 4) (omega (arith, e))
zeros_one labels o front tail (item.AddressOf r k) e =
    zeros_last front ((0xb8 + number32 r) ∷ []) tail (o + 5 - 4) (omega (arith, e))

zeros_are : (labels : List ℕ) (o : ℕ) (front : List ℕ) (items : List Item) → length front ≡ o
    → (j : ℕ) (r : Relocation) → slice_get (relocations_of o items) j ≡ Some r
    → take 4 (drop r.at (front ++ code_of labels o items)) ≡ four_zeros
zeros_are labels o front [] e j r s = absurd (cc)
zeros_are labels o front (x ∷ xs) e j r s =
    let end : ℕ = o + item_size x in
    let code : List ℕ = piece (distance_in labels o x) x in
    let tail : List ℕ = code_of labels end xs in
    let long : length (front ++ code) ≡ end =
    length-append front code ∙ omega (arith, e, length-piece (distance_in labels o x) x) in
    every (λ r. take 4 (drop r.at (front ++ (code ++ tail))) ≡ four_zeros) end (target_of x) (relocations_of end xs)
    (zeros_one labels o front tail x e)
    (λ i q h. subst (λ (bytes : List ℕ). take 4 (drop q.at bytes)
    ≡ four_zeros) (append_assoc front code tail) (zeros_are labels end (front ++ code) xs long i q h)) j r s

-- ---- the section

right_all : (labels points : List ℕ) (items : List Item) (bytes : List ℕ) (relocations : List Relocation)
    → AreOffsets item.Label items labels → AreOffsets item.Point items points
    → IsCode labels items bytes relocations → AreRight labels points (items_size items) 0 items
right_all labels points items bytes relocations l p code =
    record {
      label = λ j n e. omega (arith, l.offset j n e);
      point = λ j n e. omega (arith, p.offset j n e);
      preferred = code.preferred;
      within = l.bound;
      room = omega arith;
    }

pub section_is : (function : ℕ) (items : List Item) (section : Section) (labels : List ℕ)
    → AreOffsets item.Label items labels → AreOffsets item.Point items section.points.items
    → IsCode labels items section.bytes.items section.relocations.items → section.symbols.items
    ≡ record { function = function; offset = 0 } ∷ []
    → IsSection function items section
section_is function items section labels l p code symbol =
    let size = length-code labels items section.bytes.items section.relocations.items code in
    let points : List ℕ = section.points.items in
    record {
      labels = λ n. slice_index labels n;
      stands = λ symbols base room a.
          let a' : HaveAddresses symbols (relocations_of 0 items) =
          subst (λ (rs : List Relocation). HaveAddresses symbols rs) code.relocations_are a in
          let at = items_at symbols base (items_size items) 0 labels points [] items refl (omega (arith, room, size))
          (right_all labels points items section.bytes.items section.relocations.items l p code) a' in
          let here : ItemsAt symbols (places_at base labels points) base items at.0 =
          subst (λ (n : ℕ). ItemsAt symbols (places_at base labels points) n items at.0) (omega arith) at.2
          in
          let is : resolved symbols base section.relocations.items section.bytes.items ≡ at.0 =
          ap (λ (rs : List Relocation). resolved symbols base rs section.bytes.items) code.relocations_are
          ∙ ap (resolved symbols base (relocations_of 0 items)) code.bytes_are ∙ at.1
          in
          subst (λ (xs : List ℕ). ItemsAt symbols (places_at base labels points) base items xs) (sym is) here;
      one_symbol = symbol;
      targets = ap (map (λ r. r.target)) code.relocations_are ∙ targets_are 0 items;
      relative =
          λ j r e. relative_are 0 items j r
          (sym (ap (λ (rs : List Relocation). slice_get rs j) code.relocations_are) ∙ e);
      apart = subst (λ (rs : List Relocation). FollowFrom 0 rs (length section.bytes.items)) (sym code.relocations_are)
          (follow 0 0 (length section.bytes.items) items (omega arith) (omega (arith, size)));
      empty = λ j r e. subst (λ (bytes : List ℕ). take 4 (drop r.at bytes) ≡ four_zeros) (sym code.bytes_are)
          (zeros_are labels 0 [] items refl j r
          (sym (ap (λ (rs : List Relocation). slice_get rs j) code.relocations_are) ∙ e));
      numbered = p.numbered;
      points_within = λ n. omega (arith, p.bound n, size);
    }

-- the same when all items were gone through
pub section_done : (function : ℕ) (items : List Item) (k : ℕ) (section : Section) (labels : List ℕ) → length items ≤ k
    → AreOffsets item.Label items labels
    → AreOffsets item.Point items section.points.items
    → IsCode labels (take k items) section.bytes.items section.relocations.items
    → section.symbols.items ≡ record { function = function; offset = 0 } ∷ [] → IsSection function items section
section_done function items k section labels h l p code symbol =
    section_is function items section labels l p
    (subst (λ (xs : List Item). IsCode labels xs section.bytes.items section.relocations.items) (take_all k items h)
    code) symbol

-- ---- the next item

-- the label of a jump has an entry, and a plain instruction a spelling
entry_of : (items : List Item) (labels : List ℕ) → AreOffsets item.Label items labels → (x : Item) → HasLabel items x
    → HasEntry labels x
entry_of items labels l (item.Plain i) h = tt
entry_of items labels l (item.Label n) h = tt
entry_of items labels l (item.Point n) h = tt
entry_of items labels l (item.JumpTo n) h = l.numbered.within n h
entry_of items labels l (item.JumpIf c n) h = l.numbered.within n h
entry_of items labels l (item.CallFunction f) h = tt
entry_of items labels l (item.CallStub s) h = tt
entry_of items labels l (item.JumpTrap c) h = tt
entry_of items labels l (item.AddressOf r k) h = tt

pub entry_step : (items same : List Item) (k : ℕ) (d : Item) (labels : List ℕ) → same ≡ items → k < length items
    → CanAssemble items → AreOffsets item.Label items labels
    → HasEntry labels (get_or same k d)
entry_step items same k d labels s h can l =
    subst (λ (ys : List Item). HasEntry labels (get_or ys k d)) (sym s)
    (entry_of items labels l (get_or items k d) (can.labelled k (get_or items k d) (slice_get-get_or items k d h)))

pub spelled_step : (items same : List Item) (k : ℕ) (d : Item) → same ≡ items → k < length items → CanAssemble items
    → IsSpelled (get_or same k d)
spelled_step items same k d s h can =
    subst (λ (ys : List Item). IsSpelled (get_or ys k d)) (sym s)
    (can.spelled k (get_or items k d) (slice_get-get_or items k d h))

-- the bytes so far, and with those of the next item, are fewer than 2^30
pub length_here : (items : List Item) (k : ℕ) (labels bytes : List ℕ) (relocations : List Relocation)
    → CanAssemble items
    → IsCode labels (take k items) bytes relocations → length bytes < 2 ^ 30
length_here items k labels bytes relocations can code =
    omega (arith, length-code labels (take k items) bytes relocations code, items_size-take k items, can.size)

pub length_next : (items same : List Item) (k offset : ℕ) (d : Item) (labels bytes bytes' : List ℕ)
    (relocations : List Relocation) → same ≡ items → k < length items
    → CanAssemble items → bytes' ≡ bytes ++ piece (distance_in labels offset (get_or same k d)) (get_or same k d)
    → IsCode labels (take k items) bytes relocations → length bytes' < 2 ^ 30
length_next items same k offset d labels bytes bytes' relocations s h can b code =
    let x : Item = get_or items k d in
    let is : bytes' ≡ bytes ++ piece (distance_in labels offset x) x =
    b ∙ ap (λ (ys : List Item). bytes ++ piece (distance_in labels offset (get_or ys k d)) (get_or ys k d)) s in
    let more : items_size (take (k + 1) items) ≡ items_size (take k items) + item_size x =
    ap items_size (take_more items k d h) ∙ items_size-push (take k items) x in
    omega (
      arith,
      ap length is,
      length-append bytes (piece (distance_in labels offset x) x),
      length-piece (distance_in labels offset x) x,
      length-code labels (take k items) bytes relocations code,
      more,
      items_size-take (k + 1) items,
      can.size,
    )
