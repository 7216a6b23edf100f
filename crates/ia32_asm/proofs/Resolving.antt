-- The bytes of items with the words of their relocations are a text of the items.
use Rattle.std.specs.Prelude.{◌≡◌, ℕ, suc, ◌+◌, ◌<◌, ◌≤◌, ◌^◌, false, List, [], ◌∷◌, ◌++◌, length, take, slice_get}
use Rattle.std.specs.Prelude.{slice_index, Option, Some, None, IfSome}
use Rattle.std.specs.Int.{w32, cast_signed}
use Rattle.std.proofs.Common.{refl, sym, ap, ◌∙◌, subst, arith, inl, inr}
use Rattle.std.proofs.lemmas.List.{append_assoc, length-append}
use Rattle.std.proofs.lemmas.Bool.{cases_eq, eq-eqb, ne_eqb}
use Rattle.std.proofs.lemmas.Int.{of_z-to_z}
use Rattle.byteorder.specs.Endian.{little_bytes}
use Rattle.ia32_insn.specs.Registers.{number32}
use Rattle.ia32_insn.specs.declared.insn.Insn.TheVariants as insn
use Rattle.ia32_insn.specs.declared.item.Item.{Item}
use Rattle.ia32_insn.specs.declared.item.Item.TheVariants as item
use Rattle.ia32_insn.specs.Spelling.{ReadsSigned, cond_number}
use Rattle.ia32_insn.specs.Preferred.{preferred}
use Rattle.ia32_insn.specs.Items.{Symbols, Places, stub_address, IsObject, jump_if, ItemAt, ItemsAt}
use Rattle.ia32_asm.specs.declared.section.Relocation.{Relocation}
use Rattle.ia32_asm.specs.declared.section.Target.{Target}
use Rattle.ia32_asm.specs.declared.section.Target.TheVariants as target
use Rattle.ia32_asm.specs.Sections.{object_target, target_of, target_address, resolved, word_for, is_relative}
use Rattle.ia32_asm.specs.Sections.{HasAddress, HaveAddresses, item_size, items_size}
use Rattle.ia32_asm.specs.Pieces.{piece, distance_in, relocation_for, relocations_in, IsPreferred}
use Rattle.ia32_asm.proofs.Words.{reads_word}
use Rattle.ia32_asm.proofs.ItemCode.{code_of, relocations_of}
use Rattle.ia32_asm.proofs.Resolved.{resolved-append}
use Rattle.ia32_asm.proofs.Relocating.{word-placed, last_four, label_leads, target_leads, target_word}

-- the places of a section's labels and points, where it stands at an address
abbrev pub places_at : ℕ → List ℕ → List ℕ → Places
places_at base labels points =
    record { labels = λ l. base + slice_index labels l; points = λ p. base + slice_index points p }

-- what is known of items from an offset on
pub record AreRight (labels points : List ℕ) (bound o : ℕ) (items : List Item) : Type 0 where
  pub label : (j l : ℕ) → slice_get items j ≡ Some (item.Label l) → slice_index labels l ≡ o + items_size (take j items)
  pub point : (j p : ℕ) → slice_get items j ≡ Some (item.Point p) → slice_index points p ≡ o + items_size (take j items)
  pub preferred : (j : ℕ) (i : Item) → slice_get items j ≡ Some i → IsPreferred i
  pub within : (l : ℕ) → slice_index labels l ≤ bound
  pub room : o + items_size items ≤ bound

right_rest : (labels points : List ℕ) (bound o : ℕ) (x : Item) (xs : List Item)
    → AreRight labels points bound o (x ∷ xs)
    → AreRight labels points bound (o + item_size x) xs
right_rest labels points bound o x xs h =
    record {
      label = λ j l e. omega (arith, h.label (suc j) l e);
      point = λ j p e. omega (arith, h.point (suc j) p e);
      preferred = λ j i e. h.preferred (suc j) i e;
      within = h.within;
      room = omega (arith, h.room);
    }

-- the object of a number is at its address
object_found : (symbols : Symbols) (k address : ℕ) → target_address symbols (object_target k) ≡ Some address
    → IsObject symbols k address
object_found symbols k address e =
    elim (cases_eq k 0xffffffff) [
      | inl p ↦ let found : Some symbols.depth ≡ Some address = rw (eq-eqb k 0xffffffff p) at e in inl (p, (cc found))
      | inr p ↦ let found : slice_get symbols.objects k ≡ Some address = rw (ne_eqb k 0xffffffff p) at e in inr found
    ]

object_not_relative : (k : ℕ) → is_relative (object_target k) ≡ false
object_not_relative k =
    elim (cases_eq k 0xffffffff) [ inl p ↦ rw (eq-eqb k 0xffffffff p) refl | inr p ↦ rw (ne_eqb k 0xffffffff p) refl ]

-- what stands at an item's place once its word is there
abbrev OneAt : Symbols → ℕ → ℕ → List ℕ → List ℕ → Item → List ℕ → List ℕ → List ℕ → Type 0
OneAt symbols base o labels points x front code tail =
    (bytes : List ℕ)
    × (resolved symbols base (relocations_in (o + item_size x) x) (front ++ (code ++ tail)) ≡ front
    ++ (bytes ++ tail))
    × (length bytes ≡ item_size x) × ItemAt symbols (places_at base labels points) (base + o) x bytes

one_at : (symbols : Symbols) (base bound o : ℕ) (labels points front tail : List ℕ) (x : Item) (xs : List Item)
    → length front ≡ o → base + bound < 2 ^ 32
    → AreRight labels points bound o (x ∷ xs) → IfSome (target_of x) (HasAddress symbols)
    → OneAt symbols base o labels points x front (piece (distance_in labels o x) x) tail
one_at symbols base bound o labels points front tail (item.Plain i) xs e room h a =
    (preferred i, refl, refl, h.preferred 0 (item.Plain i) refl)
one_at symbols base bound o labels points front tail (item.Label l) xs e room h a =
    ([], refl, refl, (refl, omega (arith, h.label 0 l refl)))
one_at symbols base bound o labels points front tail (item.Point p) xs e room h a =
    ([], refl, refl, (refl, omega (arith, h.point 0 p refl)))
one_at symbols base bound o labels points front tail (item.JumpTo l) xs e room h a = (
  piece (distance_in labels o (item.JumpTo l)) (item.JumpTo l),
  refl,
  refl,
  label_leads insn.Jmp (0xe9 ∷ []) (λ z four r. inl (four, refl, r)) base o (slice_index labels l)
      (omega (arith, h.within l)) (omega (arith, h.room)),
)
one_at symbols base bound o labels points front tail (item.JumpIf c l) xs e room h a = (
  piece (distance_in labels o (item.JumpIf c l)) (item.JumpIf c l),
  refl,
  refl,
  label_leads (insn.Jcc c) (0x0f ∷ (0x80 + cond_number c)
      ∷ []) (λ z four r. inl (four, refl, r)) base o (slice_index labels l) (omega (arith, h.within l))
      (omega (arith, h.room)),
)
one_at symbols base bound o labels points front tail (item.CallFunction f) xs e room h a =
    let t : Target = target.Function f in (
      0xe8 ∷ little_bytes 4 (word_for symbols base (last_four (o + 5) t)),
      word-placed symbols base o front (0xe8 ∷ []) tail t e,
      refl,
      (
        a.0,
        a.1,
        target_leads insn.Call (0xe8 ∷ []) (λ z four r. (four, refl, r)) symbols base o a.0 t refl a.1 a.2
            (omega (arith, h.room)),
      ),
    )
one_at symbols base bound o labels points front tail (item.CallStub s) xs e room h a =
    let t : Target = target.Stub s in
    let same : stub_address symbols s ≡ a.0 = (cc a.1) in (
      0xe8 ∷ little_bytes 4 (word_for symbols base (last_four (o + 5) t)),
      word-placed symbols base o front (0xe8 ∷ []) tail t e,
      refl,
      target_leads insn.Call (0xe8 ∷ []) (λ z four r. (four, refl, r)) symbols base o (stub_address symbols s) t refl
          refl (omega (arith, same, a.2)) (omega (arith, h.room)),
    )
one_at symbols base bound o labels points front tail (item.JumpTrap None) xs e room h a =
    let same : symbols.check ≡ a.0 = (cc a.1) in (
      0xe9 ∷ little_bytes 4 (word_for symbols base (last_four (o + 5) target.Check)),
      word-placed symbols base o front (0xe9 ∷ []) tail target.Check e,
      refl,
      target_leads (jump_if None) (0xe9 ∷ []) (λ z four r. inl (four, refl, r)) symbols base o symbols.check
          target.Check refl refl (omega (arith, same, a.2)) (omega (arith, h.room)),
    )
one_at symbols base bound o labels points front tail (item.JumpTrap (Some c)) xs e room h a =
    let same : symbols.check ≡ a.0 = (cc a.1) in (
      0x0f ∷ (0x80 + cond_number c) ∷ little_bytes 4 (word_for symbols base (last_four (o + 6) target.Check)),
      word-placed symbols base o front (0x0f ∷ (0x80 + cond_number c) ∷ []) tail target.Check e,
      refl,
      target_leads (jump_if (Some c)) (0x0f ∷ (0x80 + cond_number c) ∷ []) (λ z four r. inl (four, refl, r)) symbols
          base o symbols.check target.Check refl refl (omega (arith, same, a.2)) (omega (arith, h.room)),
    )
one_at symbols base bound o labels points front tail (item.AddressOf r k) xs e room h a =
    let t : Target = object_target k in
    let word : word_for symbols base (last_four (o + 5) t) ≡ a.0 =
    target_word symbols base (o + 5) a.0 t (object_not_relative k) a.1 in (
      (0xb8 + number32 r) ∷ little_bytes 4 (word_for symbols base (last_four (o + 5) t)),
      word-placed symbols base o front ((0xb8 + number32 r) ∷ []) tail t e,
      refl,
      (
        a.0,
        cast_signed w32 a.0,
        object_found symbols k a.0 a.1,
        of_z-to_z w32 a.0 a.2,
        inl (
          little_bytes 4 (word_for symbols base (last_four (o + 5) t)),
          refl,
          subst (λ (n : ℕ). ReadsSigned 4 (little_bytes 4 n) (cast_signed w32 a.0)) (sym word) (reads_word a.0 a.2),
        ),
      ),
    )

-- the targets of the first relocation, and of the others
first_address : (symbols : Symbols) (end : ℕ) (o : Option Target) (rs : List Relocation)
    → HaveAddresses symbols (relocation_for end o ++ rs) → IfSome o (HasAddress symbols)
first_address symbols end None rs h = tt
first_address symbols end (Some t) rs h = h 0 (last_four end t) refl

other_addresses : (symbols : Symbols) (end : ℕ) (o : Option Target) (rs : List Relocation)
    → HaveAddresses symbols (relocation_for end o ++ rs) → HaveAddresses symbols rs
other_addresses symbols end None rs h = h
other_addresses symbols end (Some t) rs h = λ j r e. h (suc j) r e

-- items from an offset on, behind the bytes of others
pub items_at : (symbols : Symbols) (base bound o : ℕ) (labels points front : List ℕ) (items : List Item)
    → length front ≡ o → base + bound < 2 ^ 32
    → AreRight labels points bound o items → HaveAddresses symbols (relocations_of o items)
    → (rest : List ℕ)
    × (resolved symbols base (relocations_of o items) (front ++ code_of labels o items) ≡ front ++ rest)
    × ItemsAt symbols (places_at base labels points) (base + o) items rest
items_at symbols base bound o labels points front [] e room h a = ([], refl, refl)
items_at symbols base bound o labels points front (x ∷ xs) e room h a =
    let end : ℕ = o + item_size x in
    let tail : List ℕ = code_of labels end xs in
    let rs : List Relocation = relocations_of end xs in
    let code : List ℕ = piece (distance_in labels o x) x in
    let one =
    one_at symbols base bound o labels points front tail x xs e room h
    (first_address symbols end (target_of x) rs a) in
    let long : length (front ++ one.0) ≡ end = length-append front one.0 ∙ omega (arith, one.2) in
    let others =
    items_at symbols base bound end labels points (front
    ++ one.0) xs long room (right_rest labels points bound o x xs h)
    (other_addresses symbols end (target_of x) rs a) in
    let after : base + end ≡ base + o + length one.0 = omega (arith, one.2) in (
      one.0 ++ others.0,
      resolved-append symbols base (relocations_in end x) rs (front ++ (code ++ tail))
          ∙ ap (resolved symbols base rs) (one.1 ∙ sym (append_assoc front one.0 tail))
          ∙ others.1 ∙ append_assoc front one.0 others.0,
      (
        one.0,
        others.0,
        refl,
        one.3,
        subst (λ (n : ℕ). ItemsAt symbols (places_at base labels points) n xs others.0) after others.2,
      ),
    )
