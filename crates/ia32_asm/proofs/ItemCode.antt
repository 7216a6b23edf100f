-- The bytes and the relocations of items, one behind the other.
use Rattle.std.specs.Prelude.{◌≡◌, ℕ, ◌+◌, ◌<◌, ℤ, List, [], ◌∷◌, ◌++◌, length, take, slice_get, Some, FitsSigned}
use Rattle.std.specs.Int.{w32, cast_unsigned, cast_signed}
use Rattle.std.proofs.lemmas.Int.{to_z-of_z}
use Rattle.std.proofs.Common.{refl, sym, ap, ◌∙◌, subst, arith, get_or, inl, inr}
use Rattle.std.proofs.lemmas.List.{append-nil, append_assoc, length-append, take_more}
use Rattle.ia32_insn.specs.declared.item.Item.{Item}
use Rattle.ia32_asm.specs.declared.section.Relocation.{Relocation}
use Rattle.ia32_asm.specs.Sections.{item_size, items_size}
use Rattle.ia32_asm.specs.Pieces.{piece, distance_in, relocations_in, IsPreferred}
use Rattle.ia32_asm.proofs.Spelled.{length-piece}
use Rattle.ia32_asm.proofs.Lists.{slice_get-push}

-- from an offset on
abbrev pub code_of : List ℕ → ℕ → List Item → List ℕ
code_of labels o [] = []
code_of labels o (x ∷ xs) = piece (distance_in labels o x) x ++ code_of labels (o + item_size x) xs

abbrev pub relocations_of : ℕ → List Item → List Relocation
relocations_of o [] = []
relocations_of o (x ∷ xs) = relocations_in (o + item_size x) x ++ relocations_of (o + item_size x) xs

pub length-code_of : (labels : List ℕ) (o : ℕ) (xs : List Item) → length (code_of labels o xs) ≡ items_size xs
length-code_of labels o [] = refl
length-code_of labels o (x ∷ xs) =
    length-append (piece (distance_in labels o x) x) (code_of labels (o + item_size x) xs)
    ∙ omega (arith, length-piece (distance_in labels o x) x, length-code_of labels (o + item_size x) xs)

-- one more item has its bytes at the end
pub code_of-push : (labels : List ℕ) (o : ℕ) (xs : List Item) (x : Item)
    → code_of labels o (xs ++ x ∷ []) ≡ code_of labels o xs ++ piece (distance_in labels (o + items_size xs) x) x
code_of-push labels o [] x =
    append-nil (piece (distance_in labels o x) x) ∙ ap (λ (n : ℕ). piece (distance_in labels n x) x) (omega arith)
code_of-push labels o (y ∷ xs) x =
    ap (λ (ys : List ℕ). piece (distance_in labels o y) y ++ ys) (code_of-push labels (o + item_size y) xs x)
    ∙ sym (append_assoc (piece (distance_in labels o y) y) (code_of labels (o + item_size y) xs)
    (piece (distance_in labels (o + item_size y + items_size xs) x) x))
    ∙ ap (λ (n : ℕ). (piece (distance_in labels o y) y ++ code_of labels (o + item_size y) xs)
    ++ piece (distance_in labels n x) x) (omega arith)

-- and its relocation
pub relocations_of-push : (o : ℕ) (xs : List Item) (x : Item)
    → relocations_of o (xs ++ x ∷ []) ≡ relocations_of o xs ++ relocations_in (o + items_size (xs ++ x ∷ [])) x
relocations_of-push o [] x =
    append-nil (relocations_in (o + item_size x) x) ∙ ap (λ (n : ℕ). relocations_in n x) (omega arith)
relocations_of-push o (y ∷ xs) x =
    ap (λ (ys : List Relocation). relocations_in (o + item_size y) y ++ ys) (relocations_of-push (o + item_size y) xs x)
    ∙ sym (append_assoc (relocations_in (o + item_size y) y) (relocations_of (o + item_size y) xs)
    (relocations_in (o + item_size y + items_size (xs ++ x ∷ [])) x))
    ∙ ap (λ (n : ℕ). (relocations_in (o + item_size y) y ++ relocations_of (o + item_size y) xs)
    ++ relocations_in n x) (omega arith)

-- the bytes and the relocations of the items so far, and that plain instructions among them have the preferred spelling
pub record IsCode (labels : List ℕ) (xs : List Item) (bytes : List ℕ) (relocations : List Relocation) : Type 0 where
  pub bytes_are : bytes ≡ code_of labels 0 xs
  pub relocations_are : relocations ≡ relocations_of 0 xs
  pub preferred : (j : ℕ) (x : Item) → slice_get xs j ≡ Some x → IsPreferred x

pub length-code : (labels : List ℕ) (xs : List Item) (bytes : List ℕ) (relocations : List Relocation)
    → IsCode labels xs bytes relocations → length bytes ≡ items_size xs
length-code labels xs bytes relocations h = ap length h.bytes_are ∙ length-code_of labels 0 xs

-- one more item
code_more : (labels : List ℕ) (xs : List Item) (x : Item) (bytes bytes' : List ℕ)
    (relocations relocations' : List Relocation) (offset end : ℕ)
    → offset ≡ length bytes → end ≡ length bytes' → bytes' ≡ bytes ++ piece (distance_in labels offset x) x
    → relocations' ≡ relocations ++ relocations_in end x
    → IsPreferred x → IsCode labels xs bytes relocations → IsCode labels (xs ++ x ∷ []) bytes' relocations'
code_more labels xs x bytes bytes' relocations relocations' offset end o e b r p h =
    let start : offset ≡ 0 + items_size xs = omega (arith, length-code labels xs bytes relocations h) in
    let is : bytes' ≡ code_of labels 0 (xs ++ x ∷ []) =
    b ∙ ap (λ (ys : List ℕ). ys ++ piece (distance_in labels offset x) x) h.bytes_are
    ∙ ap (λ (n : ℕ). code_of labels 0 xs ++ piece (distance_in labels n x) x) start ∙ sym (code_of-push labels 0 xs x)
    in
    let finish : end ≡ 0 + items_size (xs ++ x ∷ []) =
    e ∙ ap length is ∙ omega (arith, length-code_of labels 0 (xs ++ x ∷ [])) in
    record {
      bytes_are = is;
      relocations_are =
          r ∙ ap (λ (ys : List Relocation). ys ++ relocations_in end x) h.relocations_are
          ∙ ap (λ (n : ℕ). relocations_of 0 xs ++ relocations_in n x) finish ∙ sym (relocations_of-push 0 xs x);
      preferred =
          λ j y s. elim (slice_get-push xs x y j s) [ inl q ↦ h.preferred j y q | inr q ↦ subst IsPreferred q.1 p ];
    }

-- the next of the items
pub code_step : (labels : List ℕ) (items same : List Item) (k : ℕ) (d : Item) (bytes bytes' : List ℕ)
    (relocations relocations' : List Relocation) (offset end : ℕ)
    → same ≡ items → k < length items → offset ≡ length bytes → end ≡ length bytes'
    → bytes' ≡ bytes ++ piece (distance_in labels offset (get_or same k d)) (get_or same k d)
    → relocations' ≡ relocations ++ relocations_in end (get_or same k d)
    → IsPreferred (get_or same k d) → IsCode labels (take k items) bytes relocations
    → IsCode labels (take (k + 1) items) bytes' relocations'
code_step labels items same k d bytes bytes' relocations relocations' offset end s h o e b r p code =
    let is : get_or same k d ≡ get_or items k d = ap (λ (ys : List Item). get_or ys k d) s in
    subst (λ (ys : List Item). IsCode labels ys bytes' relocations') (ap (λ (x : Item). take k items ++ x
    ∷ []) is ∙ sym (take_more items k d h))
    (code_more labels (take k items) (get_or same k d) bytes bytes' relocations relocations' offset end o e b r p code)

-- the bytes of an item at a distance that was passed as 32 bits
pub bytes_passed : (labels bytes bytes' : List ℕ) (offset : ℕ) (x : Item) (distance : ℤ) → FitsSigned w32 distance
    → distance ≡ distance_in labels offset x
    → bytes' ≡ bytes ++ piece (cast_signed w32 (cast_unsigned w32 distance)) x → bytes' ≡ bytes
    ++ piece (distance_in labels offset x) x
bytes_passed labels bytes bytes' offset x distance fits e b =
    b ∙ ap (λ (z : ℤ). bytes ++ piece z x) (to_z-of_z w32 distance fits ∙ e)
