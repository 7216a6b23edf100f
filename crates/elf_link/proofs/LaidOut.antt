-- What was linked is laid out as its sections ask, whatever their bytes are.
use Rattle.std.specs.Prelude.{◌≡◌, ◌⊎◌, ◌<◌, ◌≤◌, ℕ, zero, suc, ◌+◌, ◌-◌, ◌^◌, List, [], ◌∷◌, ◌++◌, length, take, drop}
use Rattle.std.specs.Prelude.{map, slice_get, Some}
use Rattle.std.proofs.Common.{refl, sym, ap, ◌∙◌, subst, arith, inl, inr}
use Rattle.std.proofs.lemmas.List.{append_assoc, append-nil, length-append, length-take-le, take_at, drop_at}
use Rattle.std.proofs.lemmas.Option.{same_Some}
use Rattle.byteorder.specs.Endian.{little_bytes}
use Rattle.ia32_insn.specs.declared.item.Item.{Item}
use Rattle.ia32_insn.specs.Items.{Symbols, Places, Object, ItemsAt, round_up, text_start, data_start, stack_end}
use Rattle.ia32_insn.specs.Items.{data_bytes, object_addresses, start_items, putchar_items, getchar_items, exit_items}
use Rattle.ia32_insn.specs.Items.{check_items}
use Rattle.ia32_asm.specs.declared.section.Section.{Section}
use Rattle.ia32_asm.specs.declared.section.Relocation.{Relocation}
use Rattle.ia32_asm.specs.Sections.{word_for, with_word, resolved}
use Rattle.ia32_asm.proofs.Resolved.{length-with_word, length-resolved}
use Rattle.elf_link.specs.declared.addresses.Addresses.{Addresses}
use Rattle.elf_link.specs.Parts.{function_of, order_of, sections_size, objects_size}
use Rattle.elf_link.specs.Symbols.{symbols_of}
use Rattle.elf_link.specs.declared.linked.Linked.{Linked}
use Rattle.elf_link.specs.Linking.{FitsIn, CanLink}
use Rattle.elf_link.specs.Placed.{addresses_from, AreAddresses, AreNumbered, start_size, putchar_size, getchar_size}
use Rattle.elf_link.specs.Placed.{exit_size, check_size, routines_size}
use Rattle.elf_link.specs.Laid.{code_from, points_from, HasCode, HasItems}
use Rattle.elf_link.specs.Layout.{byte_at, bytes_at, IsOutside, AreApart, HasSection, section_address, IsLaidOut}
use Rattle.elf_link.proofs.Lists.{get_front, get_behind, get_taken, get_left}
use Rattle.elf_link.proofs.Numbered.{number-at}
use Rattle.elf_link.proofs.RoutineItems.{IsPlainly, ArePlainly, any_places, start_plainly, putchar_plainly}
use Rattle.elf_link.proofs.RoutineItems.{getchar_plainly, exit_plainly, check_plainly}
use Rattle.elf_link.proofs.Finishing.{points_at, length-code, length-put, length-linked, Ends, ends}

-- ---- one section

-- a byte outside of a word
word_outside : (offset word n : ℕ) (bytes : List ℕ) → offset + 4 ≤ length bytes → (n < offset) ⊎ (offset + 4 ≤ n)
    → slice_get (with_word offset word bytes) n ≡ slice_get bytes n
word_outside offset word n bytes h outside =
    let long : length (take offset bytes) ≡ offset = length-take-le offset bytes (omega arith) in
    let tail : List ℕ = drop (offset + 4) bytes in
    ap (λ (xs : List ℕ). slice_get xs n) (append_assoc (take offset bytes) (little_bytes 4 word) tail)
    ∙ elim outside [
      | inl low ↦
          get_front (take offset bytes) (little_bytes 4 word ++ tail) n (omega (arith, low, long))
          ∙ get_taken offset bytes n low
      | inr high ↦
          get_behind (take offset bytes) (little_bytes 4 word ++ tail) (n - offset) n (omega (arith, high, long))
          ∙ get_behind (little_bytes 4 word) tail (n - (offset + 4)) (n - offset) (omega (arith, high))
          ∙ get_left (offset + 4) bytes (n - (offset + 4)) n (omega (arith, high))
    ]

-- and one of its four
word_inside : (offset word n : ℕ) (bytes : List ℕ) → offset + 4 ≤ length bytes → n < 4
    → slice_get (with_word offset word bytes) (offset + n) ≡ slice_get (little_bytes 4 word) n
word_inside offset word n bytes h few =
    let long : length (take offset bytes) ≡ offset = length-take-le offset bytes (omega arith) in
    let tail : List ℕ = drop (offset + 4) bytes in
    ap (λ (xs : List ℕ). slice_get xs (offset + n)) (append_assoc (take offset bytes) (little_bytes 4 word) tail)
    ∙ get_behind (take offset bytes) (little_bytes 4 word ++ drop (offset + 4) bytes) n (offset + n) (omega (arith, long))
    ∙ get_front (little_bytes 4 word) (drop (offset + 4) bytes) n few

-- bytes outside of all relocations are kept
resolved_kept : (symbols : Symbols) (base : ℕ) (rs : List Relocation) (bytes : List ℕ) (n : ℕ)
    → ((j : ℕ) (r : Relocation) → slice_get rs j ≡ Some r → r.at + 4 ≤ length bytes)
    → ((j : ℕ) (r : Relocation) → slice_get rs j ≡ Some r → IsOutside n r)
    → slice_get (resolved symbols base rs bytes) n ≡ slice_get bytes n
resolved_kept symbols base [] bytes n inside outside = refl
resolved_kept symbols base (r ∷ rs) bytes n inside outside =
    let word : ℕ = word_for symbols base r in
    let same = length-with_word r.at word bytes (inside 0 r refl) in
    resolved_kept symbols base rs (with_word r.at word bytes) n (λ j q e. omega (arith, inside (suc j) q e, same))
    (λ j q e. outside (suc j) q e)
    ∙ word_outside r.at word n bytes (inside 0 r refl) (outside 0 r refl)

-- the word of the first relocation stays where the others are apart from it
first_word : (symbols : Symbols) (base : ℕ) (r : Relocation) (rs : List Relocation) (bytes : List ℕ) (n : ℕ)
    → ((j : ℕ) (q : Relocation) → slice_get (r ∷ rs) j ≡ Some q → q.at + 4 ≤ length bytes)
    → ((j : ℕ) (q : Relocation) → slice_get rs j ≡ Some q → AreApart r q) → n < 4
    → slice_get (resolved symbols base (r ∷ rs) bytes) (r.at + n)
    ≡ slice_get (little_bytes 4 (word_for symbols base r)) n
first_word symbols base r rs bytes n inside apart few =
    let word : ℕ = word_for symbols base r in
    let same = length-with_word r.at word bytes (inside 0 r refl) in
    resolved_kept symbols base rs (with_word r.at word bytes) (r.at + n)
    (λ j q e. omega (arith, inside (suc j) q e, same)) (λ j q e. beyond r q n few (apart j q e))
    ∙ word_inside r.at word n bytes (inside 0 r refl) few
  where
    beyond : (r q : Relocation) (n : ℕ) → n < 4 → AreApart r q → IsOutside (r.at + n) q
    beyond r q n few (inl below) = inl (omega (arith, few, below))
    beyond r q n few (inr above) = inr (omega (arith, above))

-- so does that of each one
resolved_word : (symbols : Symbols) (base : ℕ) (rs : List Relocation) (bytes : List ℕ) (j : ℕ) (r : Relocation) (n : ℕ)
    → ((k : ℕ) (q : Relocation) → slice_get rs k ≡ Some q → q.at + 4 ≤ length bytes) → slice_get rs j ≡ Some r
    → ((k : ℕ) (q : Relocation) → slice_get rs k ≡ Some q → (k ≡ j → ⊥) → AreApart r q) → n < 4
    → slice_get (resolved symbols base rs bytes) (r.at + n) ≡ slice_get (little_bytes 4 (word_for symbols base r)) n
resolved_word symbols base [] bytes j r n inside e apart few = absurd (cc)
resolved_word symbols base (q ∷ rs) bytes zero r n inside e apart few =
    let same : r ≡ q = sym (same_Some q r e) in
    let first = first_word symbols base q rs bytes n inside
    (λ k p f. subst (λ (x : Relocation). AreApart x p) same (apart (suc k) p f (λ z. absurd (omega (arith, z))))) few in
    subst (λ (x : Relocation). slice_get (resolved symbols base (q ∷ rs) bytes) (x.at + n)
    ≡ slice_get (little_bytes 4 (word_for symbols base x)) n) (sym same) first
resolved_word symbols base (q ∷ rs) bytes (suc j) r n inside e apart few =
    let word : ℕ = word_for symbols base q in
    let same = length-with_word q.at word bytes (inside 0 q refl) in
    resolved_word symbols base rs (with_word q.at word bytes) j r n
    (λ k p f. omega (arith, inside (suc k) p f, same)) e
    (λ k p f other. apart (suc k) p f (λ z. other (omega (arith, z)))) few

-- ---- sections behind one another

-- a section ends within all of them
section_room : (sections : List Section) (i : ℕ) (s : Section) → slice_get sections i ≡ Some s
    → sections_size (take i sections) + length s.bytes.items ≤ sections_size sections
section_room [] i s e = absurd (cc)
section_room (t ∷ sections) zero s e =
    omega (arith, ap (λ (u : Section). length u.bytes.items) (same_Some t s e))
section_room (t ∷ sections) (suc i) s e = omega (arith, section_room sections i s e)

-- it stands behind those before it
address_at : (address : ℕ) (sections : List Section) (i x : ℕ) (s : Section) → slice_get sections i ≡ Some s
    → x ≡ address + sections_size (take i sections) → slice_get (addresses_from address sections) i ≡ Some x
address_at address [] i x s e h = absurd (cc)
address_at address (t ∷ sections) zero x s e h = ap Some (omega (arith, h))
address_at address (t ∷ sections) (suc i) x s e h =
    address_at (address + length t.bytes.items) sections i x s e (omega (arith, h))

-- and its bytes are there
code_at : (symbols : Symbols) (address nf mo : ℕ) (sections : List Section) (i x k n : ℕ) (s : Section)
    → ((j : ℕ) (t : Section) → slice_get sections j ≡ Some t → FitsIn nf mo t) → slice_get sections i ≡ Some s
    → x ≡ address + sections_size (take i sections) → k ≡ sections_size (take i sections) + n
    → n < length s.bytes.items
    → slice_get (code_from symbols address sections) k
    ≡ slice_get (resolved symbols x s.relocations.items s.bytes.items) n
code_at symbols address nf mo [] i x k n s fits e h p few = absurd (cc)
code_at symbols address nf mo (t ∷ sections) zero x k n s fits e h p few =
    let next : List ℕ = code_from symbols (address + length t.bytes.items) sections in
    let first : List ℕ = resolved symbols address t.relocations.items t.bytes.items in
    let long : length first ≡ length t.bytes.items =
    length-resolved symbols address t.relocations.items t.bytes.items (fits 0 t refl).inside in
    let same : t ≡ s = same_Some t s e in
    let here : address ≡ x = omega (arith, h) in
    let place : k ≡ n = omega (arith, p) in
    get_front first next k (omega (arith, p, few, long, ap (λ (u : Section). length u.bytes.items) same))
    ∙ ap (slice_get first) place
    ∙ ap (λ (u : Section). slice_get (resolved symbols address u.relocations.items u.bytes.items) n) same
    ∙ ap (λ (a : ℕ). slice_get (resolved symbols a s.relocations.items s.bytes.items) n) here
code_at symbols address nf mo (t ∷ sections) (suc i) x k n s fits e h p few =
    let next : List ℕ = code_from symbols (address + length t.bytes.items) sections in
    let first : List ℕ = resolved symbols address t.relocations.items t.bytes.items in
    let long : length first ≡ length t.bytes.items =
    length-resolved symbols address t.relocations.items t.bytes.items (fits 0 t refl).inside in
    get_behind first next (sections_size (take i sections) + n) k (omega (arith, p, long))
    ∙ code_at symbols (address + length t.bytes.items) nf mo sections i x (sections_size (take i sections) + n) n s
    (λ j u f. fits (suc j) u f) e (omega (arith, h)) refl few

-- ---- the text

-- what stands between others
between : (front part rest text : List ℕ) (at size : ℕ) → text ≡ front ++ (part ++ rest) → length front ≡ at
    → length part ≡ size → take size (drop at text) ≡ part
between front part rest text at size e f p =
    ap (λ (xs : List ℕ). take size (drop at xs)) e
    ∙ ap (take size) (drop_at front (part ++ rest) at f)
    ∙ take_at part rest size p

-- the items of a routine, which stand at an address of the text
routine_at : (a : Addresses) (address size : ℕ) (items : List Item) (old new text rest : List ℕ) → ArePlainly items
    → (h : HasItems a address items old new) → length h.bytes ≡ size → text_start + length old ≡ address
    → text ≡ old ++ (h.bytes ++ rest)
    → (none : Places) → ItemsAt (symbols_of a) none address items (bytes_at text address size)
routine_at a address size items old new text rest plainly h long at whole none =
    subst (ItemsAt (symbols_of a) none address items)
    (sym (between old h.bytes rest text (address - text_start) size whole (omega (arith, at)) long))
    (any_places (symbols_of a) h.places none address items h.bytes plainly h.items_at)

-- each section stands in the text
section_stands : (sections : List Section) (main nf mo : ℕ) (a : Addresses) (text rest : List ℕ)
    → ((j : ℕ) (t : Section) → slice_get sections j ≡ Some t → FitsIn nf mo t) → (code : HasCode sections main a text)
    → text ≡ code.start ++ (code_from (symbols_of a) (text_start + start_size) sections ++ rest)
    → length code.start ≡ start_size
    → (i : ℕ) (s : Section) → slice_get sections i ≡ Some s
    → HasSection (symbols_of a) text (section_address sections i) s
section_stands sections main nf mo a text rest fits code whole long i s e =
    record {
      kept = λ n few outside. there n few
          ∙ resolved_kept symbols address s.relocations.items s.bytes.items n fit.inside outside;
      words = λ j r f apart n few.
          let inside : r.at + 4 ≤ length s.bytes.items = fit.inside j r f in
          let place : address + r.at + n ≡ address + (r.at + n) = omega arith in
          ap (byte_at text) place ∙ there (r.at + n) (omega (arith, inside, few))
          ∙ resolved_word symbols address s.relocations.items s.bytes.items j r n fit.inside f apart few;
    }
  where
    symbols : Symbols
    symbols = symbols_of a

    address : ℕ
    address = section_address sections i

    fit : FitsIn nf mo s
    fit = fits i s e

    body : List ℕ
    body = code_from symbols (text_start + start_size) sections

    there : (n : ℕ) → n < length s.bytes.items
        → byte_at text (address + n) ≡ slice_get (resolved symbols address s.relocations.items s.bytes.items) n
    there n few =
        let before : ℕ = sections_size (take i sections) in
        let size : length body ≡ sections_size sections =
        length-code symbols (text_start + start_size) nf mo sections fits in
        let room = section_room sections i s e in
        ap (λ (xs : List ℕ). byte_at xs (address + n)) whole
        ∙ get_behind code.start (body ++ rest) (before + n) (address + n - text_start) (omega (arith, long))
        ∙ get_front body rest (before + n) (omega (arith, few, size, room))
        ∙ code_at symbols (text_start + start_size) nf mo sections i address (before + n) n s fits e refl refl few

-- ---- the whole

-- a text that begins with another one, which ends with a part
before_part : (text whole old part rest : List ℕ) → text ≡ whole ++ rest → whole ≡ old ++ part → text ≡ old ++ (part ++ rest)
before_part text whole old part rest e f = e ∙ ap (λ (xs : List ℕ). xs ++ rest) f ∙ append_assoc old part rest

pub laid_out : (sections : List Section) (objects : List Object) (main : ℕ) (a : Addresses) (linked : Linked)
    → CanLink sections objects main → AreAddresses sections objects a
    → HasCode sections main a linked.image.text.items → linked.image.data_bytes.items ≡ data_bytes objects
    → linked.image.entry ≡ text_start
    → length linked.points.items ≡ length sections
    → AreNumbered (order_of sections) (points_from (text_start + start_size) sections)
    (map (λ v. v.items) linked.points.items) → linked.objects.items ≡ a.objects.items
    → IsLaidOut sections objects main linked
laid_out sections objects main a linked can laid code data_same entry points_many points_same objects_same =
    let symbols : Symbols = symbols_of a in
    let text : List ℕ = linked.image.text.items in
    let end = ends sections objects main a text can laid code in
    let front : ℕ = text_start + start_size in
    let body : List ℕ = code_from symbols front sections in
    let start : length code.start ≡ start_size =
    length-put [] code.start code.starts.bytes start_size code.starts.text code.starts.size in
    let calls : length code.functions ≡ length code.start + sections_size sections =
    length-put code.start code.functions body (sections_size sections) code.calls
    (length-code symbols front (length sections) (length objects) sections can.each)
    in
    let puts : length code.putchar ≡ length code.functions + putchar_size =
    length-put code.functions code.putchar code.puts.bytes putchar_size code.puts.text code.puts.size in
    let gets : length code.getchar ≡ length code.putchar + getchar_size =
    length-put code.putchar code.getchar code.gets.bytes getchar_size code.gets.text code.gets.size in
    let exits : length code.exit ≡ length code.getchar + exit_size =
    length-put code.getchar code.exit code.exits.bytes exit_size code.exits.text code.exits.size in
    let checks_in = code.checks.text ∙ ap (λ (xs : List ℕ). code.exit ++ xs) (sym (append-nil code.checks.bytes)) in
    let exits_in = before_part text code.exit code.getchar code.exits.bytes (code.checks.bytes ++ []) checks_in
    code.exits.text in
    let gets_in = before_part text code.getchar code.putchar code.gets.bytes _ exits_in code.gets.text in
    let puts_in = before_part text code.putchar code.functions code.puts.bytes _ gets_in code.puts.text in
    let calls_in = before_part text code.functions code.start body _ puts_in code.calls in
    let starts_in = before_part text code.start [] code.starts.bytes _ calls_in code.starts.text in
    let named = laid.in_text in
    record {
      symbols = symbols;
      size = end.long;
      start_at = λ none. subst (λ (n : ℕ). ItemsAt symbols none text_start (start_items n a.depth main)
          (bytes_at text text_start start_size)) end.stack
          (routine_at a text_start start_size (start_items a.stack a.depth main) [] code.start text _
          (start_plainly a.stack a.depth main end.high (omega (arith, end.low))) code.starts code.starts.size refl
          starts_in none);
      sections_at = section_stands sections main (length sections) (length objects) a text _ can.each code calls_in
          start;
      functions_many = named.many;
      functions_are = λ i s e. named.functions i (function_of s) (number-at sections i s e)
          ∙ address_at front sections i (section_address sections i) s e refl;
      putchar_is = named.putchar;
      putchar_at = routine_at a a.putchar putchar_size putchar_items code.functions code.putchar text _ putchar_plainly
          code.puts code.puts.size (omega (arith, named.putchar, calls, start)) puts_in;
      getchar_is = named.getchar;
      getchar_at = routine_at a a.getchar getchar_size getchar_items code.putchar code.getchar text _ getchar_plainly
          code.gets code.gets.size (omega (arith, named.getchar, named.putchar, puts, calls, start)) gets_in;
      exit_is = named.exit;
      exit_at = routine_at a a.exit exit_size exit_items code.getchar code.exit text _ exit_plainly code.exits
          code.exits.size (omega (arith, named.exit, named.getchar, named.putchar, gets, puts, calls, start)) exits_in;
      check_is = named.check;
      check_at = routine_at a a.check check_size check_items code.exit text text [] check_plainly code.checks
          code.checks.size
          (omega (arith, named.check, named.exit, named.getchar, named.putchar, exits, gets, puts, calls, start))
          checks_in;
      depth_is = end.depth;
      objects_at = laid.objects_are;
      data_is = data_same;
      entry = entry;
      points_many = points_many;
      points_are = λ i s e. points_same i (function_of s) (number-at sections i s e)
          ∙ points_at front sections i (section_address sections i) s
          (address_at front sections i (section_address sections i) s e refl) e;
      objects_are = objects_same;
    }
