-- What was linked is the program of the functions.
use Rattle.std.specs.Prelude.{◌≡◌, ◌<◌, ◌≤◌, ℕ, zero, suc, ◌+◌, ◌^◌, List, [], ◌∷◌, ◌++◌, length}
use Rattle.std.specs.Prelude.{map, slice_get, slice_index, Some, option_map}
use Rattle.std.proofs.Common.{refl, sym, ap, ◌∙◌, subst, arith, get_or}
use Rattle.std.proofs.lemmas.List.{length-append, length-map}
use Rattle.std.proofs.lemmas.Option.{same_Some, slice_get-map, slice_get-get_or, slice_get_within}
use Rattle.ia32_insn.specs.declared.item.Item.{Item}
use Rattle.ia32_insn.specs.declared.item.Stub.TheVariants as stub
use Rattle.ia32_insn.specs.Items.{Symbols, Places, Object, ItemsAt, FunctionAt, FunctionsAt, IsOrder, round_up}
use Rattle.ia32_insn.specs.Items.{text_start, elements_size, data_bytes, object_addresses}
use Rattle.ia32_insn.specs.Items.{data_start, stack_end, start_items, putchar_items, getchar_items, exit_items}
use Rattle.ia32_insn.specs.Items.{check_items}
use Rattle.ia32_insn.proofs.Objects.{length-object_addresses}
use Rattle.ia32_asm.specs.declared.section.Section.{Section}
use Rattle.ia32_asm.specs.declared.section.Relocation.{Relocation}
use Rattle.ia32_asm.specs.declared.section.Target.{Target}
use Rattle.ia32_asm.specs.declared.section.Target.TheVariants as target
use Rattle.ia32_asm.specs.Sections.{resolved, HasAddress, HaveAddresses, IsSection}
use Rattle.ia32_asm.proofs.Resolved.{length-resolved}
use Rattle.elf_link.specs.declared.addresses.Addresses.{Addresses}
use Rattle.elf_link.specs.declared.linked.Linked.{Linked}
use Rattle.elf_link.specs.Parts.{IsThere, function_of, order_of}
use Rattle.elf_link.specs.Linking.{FitsIn, CanLink, AreSections, HasPoints, IsLinked}
use Rattle.elf_link.specs.Parts.{sections_size, objects_size}
use Rattle.elf_link.specs.Symbols.{symbols_of}
use Rattle.elf_link.proofs.DataSize.{length-data}
use Rattle.elf_link.specs.Placed.{addresses_from, AreAddresses, AreNumbered, exit_size, getchar_size, putchar_size}
use Rattle.elf_link.specs.Placed.{routines_size, start_size}
use Rattle.elf_link.specs.Laid.{code_from, points_from, HasCode}
use Rattle.elf_link.proofs.RoutineItems.{any_places, start_plainly, putchar_plainly, getchar_plainly, exit_plainly}
use Rattle.elf_link.proofs.RoutineItems.{check_plainly}
use Rattle.elf_link.proofs.Placing.{length-addresses, address_room, function_found}
use Rattle.elf_link.proofs.Numbered.{number-at}

-- ---- addresses

objects_bound : (address : ℕ) (objects : List Object) (k x : ℕ) → slice_get (object_addresses address objects) k
    ≡ Some x → x ≤ address + objects_size objects
objects_bound address [] k x e = absurd (cc)
objects_bound address (o ∷ objects) zero x e = omega (arith, same_Some (address + 4) x e)
objects_bound address (o ∷ objects) (suc k) x e =
    omega (arith, objects_bound (address + 4 + elements_size o) objects k x e)

-- the depth word is behind the text, below this bound
depth_bound : (n : ℕ) → n < 0x40000000 → text_start + round_up 0x1000 (n + routines_size) < 1300000000
depth_bound n h = omega arith

-- each target that is there has an address
there_has : (sections : List Section) (objects : List Object) (a : Addresses)
    → IsOrder (length sections) (order_of sections) → AreAddresses sections objects a → sections_size sections < 2 ^ 30
    → objects_size objects ≤ 0x01000000
    → (t : Target) → IsThere (length sections) (length objects) t → HasAddress (symbols_of a) t
there_has sections objects a order laid code held (target.Function f) h =
    let (x, found, bound) = function_found sections a f order laid.in_text h in
    (x, found, omega (arith, bound, code))
there_has sections objects a order laid code held (target.Object k) h =
    let inside : k < length a.objects.items =
    omega (arith, h, ap length laid.objects_are, length-object_addresses (a.depth + 4) objects) in
    let found : slice_get a.objects.items k ≡ Some (get_or a.objects.items k 0) =
    slice_get-get_or a.objects.items k 0 inside in
    let bound = objects_bound (a.depth + 4) objects k (get_or a.objects.items k 0)
    (sym (ap (λ (xs : List ℕ). slice_get xs k) laid.objects_are) ∙ found) in (
      get_or a.objects.items k 0,
      found,
      omega
          (arith, bound, held, laid.depth, depth_bound (sections_size sections) code),
    )
there_has sections objects a order laid code held (target.Stub stub.Putchar) h =
    (a.putchar, refl, omega (arith, laid.in_text.putchar, code))
there_has sections objects a order laid code held (target.Stub stub.Getchar) h =
    (a.getchar, refl, omega (arith, laid.in_text.putchar, laid.in_text.getchar, code))
there_has sections objects a order laid code held (target.Stub stub.Exit) h =
    (a.exit, refl, omega (arith, laid.in_text.putchar, laid.in_text.getchar, laid.in_text.exit, code))
there_has sections objects a order laid code held target.Check h = (
  a.check,
  refl,
  omega (
    arith,
    laid.in_text.putchar,
    laid.in_text.getchar,
    laid.in_text.exit,
    laid.in_text.check,
    code,
  ),
)
there_has sections objects a order laid code held target.Depth h =
    (a.depth, refl, omega (arith, laid.depth, depth_bound (sections_size sections) code))

-- ---- the functions

-- the points of a section that stands at an address
has_points : (k address : ℕ) (items : List Item) (s : Section) (is : IsSection k items s)
    → HasPoints items (record {
      labels = λ l. address + is.labels l;
      points =
          λ p. address + slice_index s.points.items p;
    }) (map (λ p. address + p) s.points.items)
has_points k address items s is =
    record {
      addresses = λ p stands.
          slice_get-map (λ (n : ℕ). address + n) s.points.items p
          ∙ ap (option_map (λ (n : ℕ). address + n))
          (slice_get-get_or s.points.items p 0 (is.numbered.within p stands));
      greatest = λ p e. is.numbered.greatest p (sym (length-map s.points.items (λ (n : ℕ). address + n)) ∙ e);
    }

-- a list of what there is for each number
of_each : (P : ℕ → Places → Type 0) (n : ℕ) → ((k : ℕ) → k < n → (place : Places) × P k place)
    → (places : List Places) × (length places ≡ n)
    × ((k : ℕ) (place : Places) → slice_get places k ≡ Some place → P k place)
of_each P zero each = ([], refl, λ k place e. absurd (cc))
of_each P (suc n) each =
    let first = each 0 (omega arith) in
    let (places, many, all) = of_each (λ k. P (suc k)) n (λ k h. each (suc k) (omega (arith, h))) in
    (first.0 ∷ places, ap suc many, λ k place e. either P first.0 places first.1 all k place e)
  where
    either : (P : ℕ → Places → Type 0) (first : Places) (places : List Places) → P 0 first
        → ((k : ℕ) (place : Places) → slice_get places k ≡ Some place → P (suc k) place)
        → (k : ℕ) (place : Places) → slice_get (first ∷ places) k ≡ Some place → P k place
    either P first places one all zero place e = subst (P 0) (same_Some first place e) one
    either P first places one all (suc k) place e = all k place e

-- where the section of a function stands, and that the function's items and points are there
record StandsAt (symbols : Symbols) (start : ℕ) (functions : List (List Item)) (sections : List Section) (k : ℕ)
    (place : Places) : Type 0 where
  i : ℕ
  s : Section
  address : ℕ
  items : List Item
  numbered : slice_get (order_of sections) i ≡ Some k
  section : slice_get sections i ≡ Some s
  at : slice_get (addresses_from start sections) i ≡ Some address
  function : slice_get functions k ≡ Some items
  stands : ItemsAt symbols place address items (resolved symbols address s.relocations.items s.bytes.items)
  points : HasPoints items place (map (λ p. address + p) s.points.items)

-- each function stands where its section does
stands_at : (symbols : Symbols) (nf mo start : ℕ) (functions : List (List Item)) (sections : List Section)
    → ((t : Target) → IsThere nf mo t → HasAddress symbols t)
    → ((i : ℕ) (s : Section) → slice_get sections i ≡ Some s → FitsIn nf mo s) → start + sections_size sections < 2 ^ 32
    → IsOrder (length sections) (order_of sections) → AreSections functions sections
    → (k : ℕ) → k < length functions → (place : Places) × StandsAt symbols start functions sections k place
stands_at symbols nf mo start functions sections has fits room order are k h =
    let (i, numbered) = order.each k (omega (arith, h, are.many)) in
    let inside : i < length sections = omega (
      arith,
      slice_get_within (order_of sections) i k numbered,
      length-map sections function_of,
    ) in
    let (s, section) = there sections i inside in
    let same : function_of s ≡ k = same_Some (function_of s) k (sym (number-at sections i s section) ∙ numbered) in
    let address : ℕ = get_or (addresses_from start sections) i 0 in
    let at : slice_get (addresses_from start sections) i ≡ Some address =
    slice_get-get_or (addresses_from start sections) i 0 (omega (arith, inside, length-addresses start sections)) in
    let (items, function, is) = are.each i s section in
    let fit = fits i s section in
    let addresses : HaveAddresses symbols s.relocations.items = λ j r e. has r.target (fit.targets j r e) in (
      record { labels = λ l. address + is.labels l; points = λ p. address + slice_index s.points.items p },
      record {
        i = i;
        s = s;
        address = address;
        items = items;
        numbered = numbered;
        section = section;
        at = at;
        function = ap (slice_get functions) (sym same) ∙ function;
        stands = is.stands symbols address (omega (arith, room, address_room start sections i address s at section))
            addresses;
        points = has_points (function_of s) address items s is;
      },
    )
  where
    there : (sections : List Section) (i : ℕ) → i < length sections → (s : Section) × (slice_get sections i ≡ Some s)
    there [] i h = absurd (omega (arith, h))
    there (s ∷ sections) zero h = (s, refl)
    there (s ∷ sections) (suc i) h = there sections i (omega (arith, h))

-- the functions of sections stand one behind the other
functions_at : (symbols : Symbols) (functions : List (List Item)) (places : List Places) (address : ℕ)
    (sections : List Section)
    → ((i : ℕ) (s : Section) → slice_get sections i ≡ Some s → (j : ℕ) (r : Relocation)
    → slice_get s.relocations.items j ≡ Some r → r.at + 4 ≤ length s.bytes.items)
    → ((i : ℕ) (s : Section) (x : ℕ) → slice_get sections i ≡ Some s → slice_get (addresses_from address sections) i
    ≡ Some x
    → FunctionAt symbols functions places (function_of s) x (resolved symbols x s.relocations.items s.bytes.items))
    → FunctionsAt symbols functions places (order_of sections) address (code_from symbols address sections)
functions_at symbols functions places address [] inside each = refl
functions_at symbols functions places address (s ∷ sections) inside each =
    let next : ℕ = address + length s.bytes.items in
    let first : List ℕ = resolved symbols address s.relocations.items s.bytes.items in
    let same : length first ≡ length s.bytes.items =
    length-resolved symbols address s.relocations.items s.bytes.items (inside 0 s refl) in (
      first,
      code_from symbols next sections,
      refl,
      each 0 s address refl refl,
      subst (λ (n : ℕ). FunctionsAt symbols functions places (order_of sections) (address + n)
          (code_from symbols next sections)) (sym same)
          (functions_at symbols functions places next sections (λ i t e. inside (suc i) t e)
          (λ i t x e f. each (suc i) t x e f)),
    )

-- the points of the section at a place
pub points_at : (address : ℕ) (sections : List Section) (i x : ℕ) (s : Section)
    → slice_get (addresses_from address sections) i ≡ Some x → slice_get sections i ≡ Some s
    → slice_get (points_from address sections) i ≡ Some (map (λ p. x + p) s.points.items)
points_at address [] i x s e f = absurd (cc)
points_at address (t ∷ sections) zero x s e f =
    ap (λ (n : ℕ). Some (map (λ p. n + p) t.points.items)) (same_Some address x e)
    ∙ ap (λ (u : Section). Some (map (λ p. x + p) u.points.items)) (same_Some t s f)
points_at address (t ∷ sections) (suc i) x s e f = points_at (address + length t.bytes.items) sections i x s e f

-- where the sections of functions stand, their code and points are those of the functions
record Placed (symbols : Symbols) (address : ℕ) (functions : List (List Item)) (sections : List Section)
    (listed : List (List ℕ)) : Type 0 where
  pub places : List Places
  pub many : length places ≡ length functions
  pub at : FunctionsAt symbols functions places (order_of sections) address (code_from symbols address sections)
  pub points : (f : ℕ) (items : List Item) (place : Places) (entries : List ℕ) → slice_get functions f ≡ Some items
      → slice_get places f ≡ Some place
      → slice_get listed f ≡ Some entries → HasPoints items place entries

placed : (symbols : Symbols) (nf mo address : ℕ) (functions : List (List Item)) (sections : List Section)
    (listed : List (List ℕ)) → ((t : Target) → IsThere nf mo t → HasAddress symbols t)
    → ((i : ℕ) (s : Section) → slice_get sections i ≡ Some s → FitsIn nf mo s)
    → address + sections_size sections < 2 ^ 32 → IsOrder (length sections) (order_of sections)
    → AreSections functions sections
    → AreNumbered (order_of sections) (addresses_from address sections) symbols.functions
    → AreNumbered (order_of sections) (points_from address sections) listed
    → Placed symbols address functions sections listed
placed symbols nf mo address functions sections listed has fits room order are named points =
    let (places, many, all) = of_each (StandsAt symbols address functions sections) (length functions)
    (stands_at symbols nf mo address functions sections has fits room order are) in
    record {
      places = places;
      many = many;
      at = functions_at symbols functions places address sections (λ i s e. (fits i s e).inside)
          (λ i s x e f. function_at places many all i s x e f);
      points = λ f items place entries e p l.
          let h = all f place p in
          let list : map (λ n. h.address + n) h.s.points.items ≡ entries =
          same_Some (map (λ n. h.address + n) h.s.points.items) entries
          (sym (points_at address sections h.i h.address h.s h.at h.section) ∙ sym (points h.i f h.numbered) ∙ l)
          in
          subst (HasPoints items place) list
          (subst (λ (xs : List Item). HasPoints xs place (map (λ n. h.address + n) h.s.points.items))
          (same_Some h.items items (sym h.function ∙ e)) h.points);
    }
  where
    function_at : (places : List Places) → length places ≡ length functions
        → ((k : ℕ) (place : Places) → slice_get places k ≡ Some place
        → StandsAt symbols address functions sections k place)
        → (i : ℕ) (s : Section) (x : ℕ) → slice_get sections i ≡ Some s → slice_get (addresses_from address sections) i
        ≡ Some x
        → FunctionAt symbols functions places (function_of s) x (resolved symbols x s.relocations.items s.bytes.items)
    function_at places many all i s x e f =
        let k : ℕ = function_of s in
        let number = number-at sections i s e in
        let inside : k < length places = omega (arith, order.below i k number, are.many, many) in
        let place : Places = get_or places k (record { labels = λ l. 0; points = λ p. 0 }) in
        let found : slice_get places k ≡ Some place =
        slice_get-get_or places k (record { labels = λ l. 0; points = λ p. 0 }) inside in
        let h = all k place found in
        let same : h.i ≡ i = order.once h.i i k h.numbered number in
        let section : h.s ≡ s = same_Some h.s s (sym h.section ∙ ap (slice_get sections) same ∙ e) in
        let there : h.address ≡ x = same_Some h.address x
        (sym h.at ∙ ap (slice_get (addresses_from address sections)) same ∙ f) in
        record {
          items = h.items;
          place = place;
          is = h.function;
          placed = found;
          named = named i k number ∙ f;
          stands = subst (λ (n : ℕ). ItemsAt symbols place n h.items
              (resolved symbols n s.relocations.items s.bytes.items)) there
              (subst (λ (u : Section). ItemsAt symbols place h.address h.items
              (resolved symbols h.address u.relocations.items u.bytes.items)) section h.stands);
        }

-- ---- the whole

-- the code of sections has their bytes
pub length-code : (symbols : Symbols) (address nf mo : ℕ) (sections : List Section)
    → ((i : ℕ) (s : Section) → slice_get sections i ≡ Some s → FitsIn nf mo s)
    → length (code_from symbols address sections) ≡ sections_size sections
length-code symbols address nf mo [] fits = refl
length-code symbols address nf mo (s ∷ sections) fits =
    let next : ℕ = address + length s.bytes.items in
    length-append (resolved symbols address s.relocations.items s.bytes.items) (code_from symbols next sections)
    ∙ omega (
      arith,
      length-resolved symbols address s.relocations.items s.bytes.items (fits 0 s refl).inside,
      length-code symbols next nf mo sections (λ i t e. fits (suc i) t e),
    )

-- bytes that were put behind a text make it so much longer
pub length-put : (old new bytes : List ℕ) (n : ℕ) → new ≡ old ++ bytes → length bytes ≡ n → length new ≡ length old + n
length-put old new bytes n e size = ap length e ∙ length-append old bytes ∙ ap (λ (k : ℕ). length old + k) size

-- the text has the bytes of the sections, of the start and of the routines
pub length-linked : {nf mo : ℕ} (sections : List Section) (main : ℕ) (a : Addresses) (text : List ℕ)
    → ((i : ℕ) (s : Section) → slice_get sections i ≡ Some s → FitsIn nf mo s) → HasCode sections main a text
    → length text ≡ sections_size sections + routines_size
length-linked {nf = nf} {mo = mo} sections main a text fits code =
    let start : length code.start ≡ 0 + start_size =
    length-put [] code.start code.starts.bytes start_size code.starts.text code.starts.size in
    let calls : length code.functions ≡ length code.start + sections_size sections =
    length-put code.start code.functions _ (sections_size sections) code.calls
    (length-code (symbols_of a) (text_start + start_size) nf mo sections fits)
    in
    let puts : length code.putchar ≡ length code.functions + putchar_size =
    length-put code.functions code.putchar code.puts.bytes putchar_size code.puts.text code.puts.size in
    let gets : length code.getchar ≡ length code.putchar + getchar_size =
    length-put code.putchar code.getchar code.gets.bytes getchar_size code.gets.text code.gets.size in
    let exits : length code.exit ≡ length code.getchar + exit_size =
    length-put code.getchar code.exit code.exits.bytes exit_size code.exits.text code.exits.size in
    let checks : length text ≡ length code.exit + 2 =
    length-put code.exit text code.checks.bytes 2 code.checks.text code.checks.size in
    omega (arith, start, calls, puts, gets, exits, checks)

-- where the text, its data and the stack end
pub record Ends (sections : List Section) (objects : List Object) (a : Addresses) (text : List ℕ) : Type 0 where
  pub long : length text ≡ sections_size sections + routines_size
  pub depth : a.depth ≡ data_start text
  pub stack : a.stack ≡ stack_end text objects
  pub low : a.depth < 1300000000
  pub high : a.stack < 2 ^ 32

pub ends : (sections : List Section) (objects : List Object) (main : ℕ) (a : Addresses) (text : List ℕ)
    → CanLink sections objects main → AreAddresses sections objects a → HasCode sections main a text
    → Ends sections objects a text
ends sections objects main a text can laid code =
    let held = can.held.size in
    let long : length text ≡ sections_size sections + routines_size =
    length-linked sections main a text can.each code in
    let depth : a.depth ≡ data_start text = laid.depth ∙ ap (λ (n : ℕ). text_start + round_up 0x1000 n) (sym long) in
    let low : a.depth < 1300000000 = omega (arith, laid.depth, depth_bound (sections_size sections) can.code) in
    record {
      long = long;
      depth = depth;
      stack = laid.stack ∙ ap (λ (n : ℕ). n + (round_up 4 (4 + objects_size objects) + 0x04001000)) depth
          ∙ ap (λ (n : ℕ). data_start text + (round_up 4 n + 0x04001000)) (sym (length-data objects));
      low = low;
      high = omega (arith, laid.stack, low, held, round_bound (objects_size objects) held);
    }
  where
    round_bound : (n : ℕ) → n ≤ 0x01000000 → round_up 4 (4 + n) ≤ 0x01000054
    round_bound n h = omega arith

pub linked_is : (sections : List Section) (objects : List Object) (main : ℕ) (a : Addresses) (linked : Linked)
    → CanLink sections objects main → AreAddresses sections objects a
    → HasCode sections main a linked.image.text.items → linked.image.data_bytes.items ≡ data_bytes objects
    → linked.image.entry ≡ text_start
    → length linked.points.items ≡ length sections
    → AreNumbered (order_of sections) (points_from (text_start + start_size) sections)
    (map (λ v. v.items) linked.points.items) → linked.objects.items ≡ a.objects.items
    → (functions : List (List Item)) → AreSections functions sections
    → IsLinked functions (order_of sections) objects main linked
linked_is sections objects main a linked can laid code data_same entry points_many points_same objects_same functions
    are =
    let symbols : Symbols = symbols_of a in
    let text : List ℕ = linked.image.text.items in
    let held = can.held.size in
    let p = placed symbols (length sections) (length objects) (text_start + start_size) functions sections
    (map (λ v. v.items) linked.points.items) (there_has sections objects a can.order laid can.code held) can.each
    (omega (arith, can.code)) can.order are laid.in_text.functions points_same
    in
    let body : List ℕ = code_from symbols (text_start + start_size) sections in
    let start : List ℕ = code.starts.bytes in
    let front : code.functions ≡ start ++ body = code.calls ∙ ap (λ (xs : List ℕ). xs ++ body) code.starts.text in
    let whole : text ≡ start ++ body ++ code.puts.bytes ++ code.gets.bytes ++ code.exits.bytes ++ code.checks.bytes =
    code.checks.text
    ∙ ap (λ (xs : List ℕ). xs ++ code.checks.bytes)
    (code.exits.text ∙ ap (λ (xs : List ℕ). xs ++ code.exits.bytes)
    (code.gets.text ∙ ap (λ (xs : List ℕ). xs ++ code.gets.bytes)
    (code.puts.text ∙ ap (λ (xs : List ℕ). xs ++ code.puts.bytes) front)))
    in
    let start_long : length start ≡ start_size = code.starts.size in
    let size_1 = length-append start body in
    let body_long : length body ≡ sections_size sections =
    length-code symbols (text_start + start_size) (length sections) (length objects) sections can.each in
    let puts_long : length code.puts.bytes ≡ putchar_size = code.puts.size in
    let gets_long : length code.gets.bytes ≡ getchar_size = code.gets.size in
    let exits_long : length code.exits.bytes ≡ exit_size = code.exits.size in
    let end = ends sections objects main a text can laid code in
    record {
      places = p.places;
      symbols = symbols;
      text = record {
        start = start;
        code = body;
        putchar = code.puts.bytes;
        getchar = code.gets.bytes;
        exit = code.exits.bytes;
        check = code.checks.bytes;
        whole = whole;
        start_at = λ none. subst (λ (n : ℕ). ItemsAt symbols none text_start (start_items n a.depth main) start) end.stack
            (any_places symbols code.starts.places none text_start (start_items a.stack a.depth main) start
            (start_plainly a.stack a.depth main end.high (omega (arith, end.low))) code.starts.items_at);
        order_is = subst (λ (n : ℕ). IsOrder n (order_of sections)) (sym are.many) can.order;
        places_are = p.many;
        addresses_are = laid.in_text.many ∙ sym are.many;
        code_at = subst (λ (n : ℕ). FunctionsAt symbols functions p.places (order_of sections) (text_start + n) body)
            (sym start_long) p.at;
        putchar_is = omega (arith, laid.in_text.putchar, size_1, start_long, body_long);
        putchar_at = λ none. any_places symbols code.puts.places none a.putchar putchar_items code.puts.bytes
            putchar_plainly code.puts.items_at;
        getchar_is = omega (arith, laid.in_text.getchar, puts_long);
        getchar_at = λ none. any_places symbols code.gets.places none a.getchar getchar_items code.gets.bytes
            getchar_plainly code.gets.items_at;
        exit_is = omega (arith, laid.in_text.exit, gets_long);
        exit_at = λ none. any_places symbols code.exits.places none a.exit exit_items code.exits.bytes exit_plainly
            code.exits.items_at;
        check_is = omega (arith, laid.in_text.check, exits_long);
        check_at = λ none. any_places symbols code.checks.places none a.check check_items code.checks.bytes
            check_plainly code.checks.items_at;
        depth_is = end.depth;
        objects_are = laid.objects_are ∙ ap (λ (n : ℕ). object_addresses (n + 4) objects) end.depth;
      };
      data_is = data_same;
      entry = entry;
      points_are = points_many ∙ sym are.many;
      points = p.points;
      objects_are = objects_same;
    }

-- there are as many addresses as sections and objects
pub each_fits : (sections : List Section) (objects : List Object) (main : ℕ) (a : Addresses)
    → CanLink sections objects main → AreAddresses sections objects a
    → (k : ℕ) (s : Section) → slice_get sections k ≡ Some s
    → FitsIn (length a.functions.items) (length a.objects.items) s
each_fits sections objects main a can laid k s e =
    let nf : length a.functions.items ≡ length sections = laid.in_text.many in
    let mo : length a.objects.items ≡ length objects = ap length laid.objects_are
    ∙ length-object_addresses (a.depth + 4) objects in
    subst (λ (n : ℕ). FitsIn n (length a.objects.items) s) (sym nf)
    (subst (λ (n : ℕ). FitsIn (length sections) n s) (sym mo) (can.each k s e))
