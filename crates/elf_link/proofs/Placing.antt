-- Sections behind one another, with their words in place.
use Rattle.std.specs.Prelude.{◌≡◌, ◌<◌, ◌≤◌, ℕ, zero, suc, ◌+◌, ◌*◌, ◌^◌, ◌-◌, ℤ, pos, List, [], ◌∷◌, ◌++◌, length}
use Rattle.std.specs.Prelude.{take, drop, slice_get, slice_index, Some, option_map, replicate, FitsSigned}
use Rattle.std.specs.List.{filter_map}
use Rattle.std.specs.Int.{w32, cast_unsigned, cast_signed}
use Rattle.std.proofs.Common.{refl, sym, ap, ◌∙◌, subst, arith, get_or}
use Rattle.std.proofs.lemmas.List.{append_assoc, length-append, length-map, take_more, take_all, drop_more}
use Rattle.std.proofs.lemmas.Int.{to_z-of_z}
use Rattle.std.proofs.lemmas.Option.{same_Some, slice_get-map, slice_get-get_or, slice_get_within}
use Rattle.byteorder.specs.Endian.{little_bytes}
use Rattle.byteorder.proofs.Bytes.{take-bytes_low_first}
use Rattle.ia32_insn.specs.declared.item.Item.{Item}
use Rattle.pcc_base.specs.Bytes.{zeros}
use Rattle.ia32_insn.specs.Items.{Symbols, Object, IsOrder, element_bytes, elements_size, object_bytes, text_start}
use Rattle.ia32_insn.specs.Items.{start_items}
use Rattle.ia32_asm.specs.declared.section.Section.{Section}
use Rattle.ia32_asm.specs.declared.section.Relocation.{Relocation}
use Rattle.ia32_asm.specs.declared.section.Target.{Target}
use Rattle.ia32_asm.specs.declared.section.Target.TheVariants as target
use Rattle.ia32_asm.specs.Sections.{target_of, word_for, with_word, resolved, HasAddress, FollowFrom, IsSection}
use Rattle.ia32_asm.specs.Sections.{CanAssemble, items_size}
use Rattle.ia32_asm.proofs.Resolved.{length-resolved, with_word-behind, resolved-push}
use Rattle.elf_link.specs.declared.addresses.Addresses.{Addresses}
use Rattle.elf_link.specs.Parts.{IsThere, function_of, order_of, sections_size}
use Rattle.elf_link.specs.Linking.{FitsIn}
use Rattle.elf_link.specs.Symbols.{symbols_of}
use Rattle.elf_link.specs.Placed.{addresses_from, AreInText, start_size}
use Rattle.elf_link.specs.Laid.{AreNamed, HasItems}
use Rattle.elf_link.proofs.Lists.{moved_parts}
use Rattle.elf_link.proofs.RoutineItems.{plainly_can, start_plainly}

-- ---- words of one section

-- the relocations so far lie inside
taken_inside : (n k : ℕ) (rs : List Relocation) → ((j : ℕ) (r : Relocation) → slice_get rs j ≡ Some r → r.at + 4 ≤ n)
    → (j : ℕ) (r : Relocation) → slice_get (take k rs) j ≡ Some r → r.at + 4 ≤ n
taken_inside n zero rs inside j r e = absurd (cc)
taken_inside n (suc k) [] inside j r e = absurd (cc)
taken_inside n (suc k) (q ∷ qs) inside zero r e = inside 0 r e
taken_inside n (suc k) (q ∷ qs) inside (suc j) r e = taken_inside n k qs (λ i s. inside (suc i) s) j r e

pub length-so_far : (symbols : Symbols) (base k : ℕ) (rs : List Relocation) (bytes : List ℕ)
    → ((j : ℕ) (r : Relocation) → slice_get rs j ≡ Some r → r.at + 4 ≤ length bytes)
    → length (resolved symbols base (take k rs) bytes) ≡ length bytes
length-so_far symbols base k rs bytes inside =
    length-resolved symbols base (take k rs) bytes (taken_inside (length bytes) k rs inside)

-- one more word is written
pub word_more : (symbols : Symbols) (base k start word : ℕ) (rs same : List Relocation) (d : Relocation)
    (bytes old text text' : List ℕ) → same ≡ rs → k < length rs
    → ((j : ℕ) (r : Relocation) → slice_get rs j ≡ Some r → r.at + 4 ≤ length bytes) → start ≡ length old → word
    ≡ word_for symbols base (get_or same k d)
    → text' ≡ with_word (start + (get_or same k d).at) word text → text ≡ old ++ resolved symbols base (take k rs) bytes
    → text' ≡ old ++ resolved symbols base (take (k + 1) rs) bytes
word_more symbols base k start word rs same d bytes old text text' s h inside o w t made =
    let r : Relocation = get_or rs k d in
    let is : get_or same k d ≡ r = ap (λ ys. get_or ys k d) s in
    let room : r.at + 4 ≤ length (resolved symbols base (take k rs) bytes) =
    omega (arith, inside k r (slice_get-get_or rs k d h), length-so_far symbols base k rs bytes inside)
    in
    let there : text' ≡ with_word (length old + r.at) (word_for symbols base r)
    (old ++ resolved symbols base (take k rs) bytes) =
    t ∙ ap (λ (n : ℕ). with_word (n + (get_or same k d).at) word text) o
    ∙ ap (λ (q : Relocation). with_word (length old + q.at) word text) is
    ∙ ap (λ (n : ℕ). with_word (length old + r.at) n text) (w ∙ ap (word_for symbols base) is)
    ∙ ap (with_word (length old + r.at) (word_for symbols base r)) made
    in
    there ∙ with_word-behind old (resolved symbols base (take k rs) bytes) r.at (word_for symbols base r) room
    ∙ ap (λ (xs : List ℕ). old ++ xs) (sym (resolved-push symbols base (take k rs) r bytes)
    ∙ ap (λ ys. resolved symbols base ys bytes) (sym (take_more rs k d h)))

pub word_room : (symbols : Symbols) (base k start : ℕ) (rs same : List Relocation) (d : Relocation)
    (bytes old text : List ℕ) → same ≡ rs → k < length rs
    → ((j : ℕ) (r : Relocation) → slice_get rs j ≡ Some r → r.at + 4 ≤ length bytes) → start ≡ length old → text
    ≡ old ++ resolved symbols base (take k rs) bytes
    → start + (get_or same k d).at + 4 ≤ length text
word_room symbols base k start rs same d bytes old text s h inside o made =
    let is : (get_or same k d).at ≡ (get_or rs k d).at = ap (λ ys. (get_or ys k d).at) s in
    omega (
      arith,
      o,
      is,
      inside k (get_or rs k d) (slice_get-get_or rs k d h),
      length-so_far symbols base k rs bytes inside,
      ap length made,
      length-append old (resolved symbols base (take k rs) bytes),
    )

-- ---- routines

-- relocations that follow one another end within the length
follow_below : (o n : ℕ) (rs : List Relocation) → FollowFrom o rs n → o ≤ n
follow_below o n [] h = h
follow_below o n (r ∷ rs) h = omega (arith, h.0, follow_below (r.at + 4) n rs h.1)

pub follow_inside : (o n : ℕ) (rs : List Relocation) → FollowFrom o rs n → (j : ℕ) (r : Relocation) → slice_get rs j
    ≡ Some r → r.at + 4 ≤ n
follow_inside o n [] h j r e = absurd (cc)
follow_inside o n (q ∷ rs) h zero r e = subst (λ (x : Relocation). x.at + 4 ≤ n) (same_Some q r e)
    (follow_below (q.at + 4) n rs h.1)
follow_inside o n (q ∷ rs) h (suc j) r e = follow_inside (q.at + 4) n rs h.1 j r e

pub named_target : (f : ℕ) (items : List Item) (s : Section) → IsSection f items s → (j : ℕ) (r : Relocation)
    → slice_get s.relocations.items j ≡ Some r
    → slice_get (filter_map target_of items) j ≡ Some r.target
named_target f items s is j r e =
    ap (λ (ts : List Target). slice_get ts j) (sym is.targets)
    ∙ slice_get-map (λ (q : Relocation). q.target) s.relocations.items j
    ∙ ap (option_map (λ (q : Relocation). q.target)) e

pub fits_routine : (a : Addresses) (f : ℕ) (items : List Item) (s : Section) → IsSection f items s → AreNamed a items
    → FitsIn (length a.functions.items) (length a.objects.items) s
fits_routine a f items s is named =
    record {
      named = omega (arith, ap length is.one_symbol);
      targets = λ j r e. (named j r.target (named_target f items s is j r e)).0;
      inside = follow_inside 0 (length s.bytes.items) s.relocations.items is.apart;
      points = is.points_within;
    }

-- the section of a routine is put at the end
pub routine_put : (a : Addresses) (f address : ℕ) (items : List Item) (s : Section) (old new : List ℕ)
    → IsSection f items s → AreNamed a items
    → length s.bytes.items ≡ items_size items → address + items_size items < 2 ^ 32
    → new ≡ old ++ resolved (symbols_of a) address s.relocations.items s.bytes.items → HasItems a address items old new
routine_put a f address items s old new is named size room e =
    let inside = follow_inside 0 (length s.bytes.items) s.relocations.items is.apart in
    record {
      places = record { labels = λ l. address + is.labels l; points = λ p. address + slice_index s.points.items p };
      bytes = resolved (symbols_of a) address s.relocations.items s.bytes.items;
      text = e;
      size = length-resolved (symbols_of a) address s.relocations.items s.bytes.items inside ∙ size;
      items_at = is.stands (symbols_of a) address (omega (arith, size, room))
          (λ j r h. (named j r.target (named_target f items s is j r h)).1);
    }

-- ---- addresses

-- there are as many addresses as sections, and none beyond their end
pub length-addresses : (a : ℕ) (sections : List Section) → length (addresses_from a sections) ≡ length sections
length-addresses a [] = refl
length-addresses a (s ∷ sections) = omega (arith, length-addresses (a + length s.bytes.items) sections)

pub addresses_bound : (a : ℕ) (sections : List Section) (k x : ℕ) → slice_get (addresses_from a sections) k ≡ Some x
    → x ≤ a + sections_size sections
addresses_bound a [] k x e = absurd (cc)
addresses_bound a (s ∷ sections) zero x e = omega (arith, same_Some a x e)
addresses_bound a (s ∷ sections) (suc k) x e = omega (arith, addresses_bound (a + length s.bytes.items) sections k x e)

-- and each section ends within the end of all
pub address_room : (a : ℕ) (sections : List Section) (k x : ℕ) (s : Section) → slice_get (addresses_from a sections) k
    ≡ Some x → slice_get sections k ≡ Some s
    → x + length s.bytes.items ≤ a + sections_size sections
address_room a [] k x s e f = absurd (cc)
address_room a (t ∷ sections) zero x s e f = let same = same_Some t s f in
    omega (arith, same_Some a x e, ap (λ (u : Section). length u.bytes.items) same)
address_room a (t ∷ sections) (suc k) x s e f =
    omega (arith, address_room (a + length t.bytes.items) sections k x s e f)

-- each function has an address
pub function_found : (sections : List Section) (a : Addresses) (k : ℕ) → IsOrder (length sections) (order_of sections)
    → AreInText sections a → k < length sections
    → (x : ℕ) × (slice_get a.functions.items k ≡ Some x) × (x ≤ text_start + start_size + sections_size sections)
function_found sections a k order laid h =
    let i = order.each k h in
    let inside : i.0 < length (addresses_from (text_start + start_size) sections) =
    omega (
      arith,
      slice_get_within (order_of sections) i.0 k i.1,
      length-map sections function_of,
      length-addresses (text_start + start_size) sections,
    )
    in
    let x : ℕ = get_or (addresses_from (text_start + start_size) sections) i.0 0 in
    let found : slice_get (addresses_from (text_start + start_size) sections) i.0 ≡ Some x =
    slice_get-get_or (addresses_from (text_start + start_size) sections) i.0 0 inside in
    (x, laid.functions i.0 k i.1 ∙ found, addresses_bound (text_start + start_size) sections i.0 x found)

-- ---- numbers

-- the lowest bytes of a number are those of the shorter number
pub lowest_bytes : (width n : ℕ) → width ≤ 4 → take width (little_bytes 4 n) ≡ little_bytes width n
lowest_bytes width n h = take-bytes_low_first 0 4 width n h

-- one more element's bytes
pub element_more : (width k : ℕ) (elements same : List ℤ) (bytes bytes' four whole : List ℕ) → same ≡ elements
    → k < length elements → width ≤ 4
    → FitsSigned w32 (get_or same k (pos 0))
    → four ≡ little_bytes 4 (cast_unsigned w32 (cast_signed w32 (cast_unsigned w32 (get_or same k (pos 0))))) → bytes'
    ≡ bytes ++ take width four
    → bytes ++ element_bytes (record { width = width; elements = drop k elements }) ≡ whole
    → bytes' ++ element_bytes (record { width = width; elements = drop (k + 1) elements }) ≡ whole
element_more width k elements same bytes bytes' four whole s h w fits f b made =
    let x : ℤ = get_or elements k (pos 0) in
    let value : cast_unsigned w32 (cast_signed w32 (cast_unsigned w32 (get_or same k (pos 0)))) ≡ cast_unsigned w32 x =
    ap (cast_unsigned w32) (to_z-of_z w32 (get_or same k (pos 0)) fits)
    ∙ ap (λ (zs : List ℤ). cast_unsigned w32 (get_or zs k (pos 0))) s
    in
    let part : take width four ≡ little_bytes width (cast_unsigned w32 x) =
    ap (take width) (f ∙ ap (little_bytes 4) value) ∙ lowest_bytes width (cast_unsigned w32 x) w
    in
    moved_parts bytes bytes' (little_bytes width (cast_unsigned w32 x))
    (element_bytes (record { width = width; elements = drop (k + 1) elements })) whole
    (element_bytes (record { width = width; elements = drop k elements }))
    (ap (λ (zs : List ℤ). element_bytes (record { width = width; elements = zs })) (drop_more elements k (pos 0) h))
    (b ∙ ap (λ (ys : List ℕ). bytes ++ ys) part) made

-- an object with its header and its padding
pub object_put : (object : Object) (count padding n long : ℕ) (old b1 b2 b3 four : List ℕ) → count
    ≡ length object.elements → four ≡ little_bytes 4 count → b1 ≡ old ++ four
    → b2 ≡ b1 ++ element_bytes object → n ≡ length b2 + padding → padding ≡ elements_size object - object.width * count
    → long ≡ length b2 → b3 ≡ take n b2 ++ replicate (n - long) 0 → b3 ≡ old ++ object_bytes object
unfolding zeros
object_put object count padding n long old b1 b2 b3 four c f one two m p l three =
    let gap : n - long ≡ elements_size object - object.width * length object.elements =
    omega (arith, m, l) ∙ p ∙ ap (λ (i : ℕ). elements_size object - object.width * i) c
    in
    let pad : List ℕ = replicate (elements_size object - object.width * length object.elements) 0 in
    three ∙ ap (λ (xs : List ℕ). xs ++ replicate (n - long) 0) (take_all n b2 (omega (arith, m)))
    ∙ ap (λ (i : ℕ). b2 ++ replicate i 0) gap
    ∙ ap (λ (xs : List ℕ). xs ++ pad) (two ∙ ap (λ (xs : List ℕ). xs ++ element_bytes object)
    (one ∙ ap (λ (xs : List ℕ). old ++ xs) (f ∙ ap (little_bytes 4) c)))
    ∙ regroup old (little_bytes 4 (length object.elements)) (element_bytes object) pad
  where
    regroup : (a b c d : List ℕ) → ((a ++ b) ++ c) ++ d ≡ a ++ (b ++ c ++ d)
    regroup a b c d = simp append_assoc

-- the depth word alone
pub depth_put : (old new : List ℕ) (n : ℕ) → old ≡ [] → n ≡ 0 → new ≡ take 4 old ++ replicate (4 - n) 0 → new ≡ zeros 4
unfolding zeros
depth_put old new n o z e =
    e ∙ ap (λ (xs : List ℕ). take 4 xs ++ replicate (4 - n) 0) o ∙ ap (λ (m : ℕ). replicate (4 - m) 0) z

-- ---- the start

-- the start names a function that has an address
pub start_named : (a : Addresses) (sections : List Section) (stack depth main : ℕ) (items : List Item) → items
    ≡ start_items stack depth main → IsOrder (length sections) (order_of sections) → AreInText sections a
    → main < length sections → text_start + start_size + sections_size sections < 2 ^ 32 → AreNamed a items
start_named a sections stack depth main items e order laid there room =
    let main_in : main < length a.functions.items = omega (arith, laid.many, there) in
    let (x, found, bound) = function_found sections a main order laid there in
    subst (λ (ys : List Item). AreNamed a ys) (sym e)
    (only_main a main x main_in found (omega (arith, bound, room)) stack depth)
  where
    only_main : (a : Addresses) (main x : ℕ) → main < length a.functions.items → slice_get a.functions.items main
        ≡ Some x → x < 2 ^ 32 → (stack depth : ℕ) → AreNamed a (start_items stack depth main)
    only_main a main x h e f stack depth zero t s =
        subst (λ (t : Target). IsThere (length a.functions.items) (length a.objects.items) t
        × HasAddress (symbols_of a) t) (same_Some (target.Function main) t s) (h, (x, e, f))
    only_main a main x h e f stack depth (suc j) t s = absurd (cc)

pub start_can : (stack depth main : ℕ) (items : List Item) → items ≡ start_items stack depth main → stack < 2 ^ 32
    → depth < 2 ^ 32 → CanAssemble items
start_can stack depth main items e s d = subst CanAssemble (sym e)
    (plainly_can (start_items stack depth main) (start_plainly stack depth main s d) (omega arith))

-- the same items from the same text on
pub same_items : (a : Addresses) (address : ℕ) (items items' : List Item) (old old' new : List ℕ) → items ≡ items' → old
    ≡ old' → HasItems a address items old new
    → HasItems a address items' old' new
same_items a address items items' old old' new e o h =
    subst (λ (xs : List ℕ). HasItems a address items' xs new) o
    (subst (λ (is : List Item). HasItems a address is old new) e h)
