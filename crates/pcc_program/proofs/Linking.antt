-- The sections of a program's functions can be linked.
use Rattle.std.proofs.Common.{◌≡◌, ◌<◌, ◌≤◌, ◌+◌, ◌^◌, ℕ, zero, suc, List, [], ◌∷◌, length, map, Option, Some, None}
use Rattle.std.proofs.Common.{option_map, refl, sym, ap, ◌∙◌, subst, arith}
use Rattle.std.specs.Prelude.{slice_get, slice_index_or, sum_by}
use Rattle.std.specs.List.{cons_option, filter_map, range_with_len}
use Rattle.std.proofs.lemmas.List.Sums.{sum_by-cons}
use Rattle.std.proofs.lemmas.Option.{none-some, same_Some, slice_get-map, slice_get_within}
use Rattle.pcc_base.proofs.Lists.{element-at}
use Rattle.flow_graph.specs.WellFormed.{IsGraph}
use Rattle.ia32_insn.specs.declared.item.Item.{Item}
use Rattle.ia32_insn.specs.Items.{IsOrder, Object}
use Rattle.ia32_asm.specs.declared.section.Relocation.{Relocation}
use Rattle.ia32_asm.specs.declared.section.Section.{Section}
use Rattle.ia32_asm.specs.declared.section.Symbol.{Symbol}
use Rattle.ia32_asm.specs.declared.section.Target.{Target}
use Rattle.ia32_asm.specs.Sections.{IsSection, target_of}
use Rattle.elf_link.specs.Parts.{CanHold, IsThere, function_of, order_of, sections_size}
use Rattle.elf_link.specs.Linking.{AreSections, CanLink, FitsIn}
use Rattle.elf_link.proofs.Placing.{follow_inside}
use Rattle.ia32_placements.specs.Placed.{placement_in}
use Rattle.ia32_rows.specs.Placements.{Placement}
use Rattle.ia32_select.specs.Selections.{IsSelection}
use Rattle.ia32_select.specs.Sizes.{NamesThere, most_bytes}
use Rattle.map_lines.specs.declared.home.Home.{Home}
use Rattle.map_lines.specs.Printing.{graph_of}
use Rattle.pcc_program.specs.Passes.{AreSectionsFrom, items_of, placements_of}

-- ---- what a section names

first-target : (P : Target → Type 0) (o : Option Target) (ts : List Target) → ((u : Target) → o ≡ Some u → P u)
    → ((k : ℕ) (u : Target) → slice_get ts k ≡ Some u → P u) → (j : ℕ) (t : Target)
    → slice_get (cons_option o ts) j ≡ Some t → P t
first-target P None ts here others j t e = others j t e
first-target P (Some x) ts here others zero t e = subst P (same_Some x t e) (here x refl)
first-target P (Some x) ts here others (suc j) t e = others j t e

-- what holds of the target of each item holds of each target
all-targets : (P : Target → Type 0) (items : List Item)
    → ((j : ℕ) (i : Item) (t : Target) → slice_get items j ≡ Some i → target_of i ≡ Some t → P t)
    → (j : ℕ) (t : Target) → slice_get (filter_map target_of items) j ≡ Some t → P t
all-targets P [] names j t e = absurd (none-some t e)
all-targets P (i ∷ items) names j t e =
    first-target P (target_of i) (filter_map target_of items) (λ u h. names 0 i u refl h)
    (λ k u h. all-targets P items (λ m x v q r. names (suc m) x v q r) k u h) j t e

fits-in : (functions objects k : ℕ) (items : List Item) (section : Section) → IsSection k items section
    → NamesThere functions objects items → FitsIn functions objects section
fits-in functions objects k items section is names =
    record {
      named = omega (arith, ap length is.one_symbol);
      targets = λ j r e.
          let found : slice_get (filter_map target_of items) j ≡ Some r.target =
          ap (λ (ts : List Target). slice_get ts j) (sym is.targets)
          ∙ slice_get-map (λ (x : Relocation). x.target) section.relocations.items j
          ∙ ap (option_map (λ (x : Relocation). x.target)) e
          in
          all-targets (IsThere functions objects) items names j r.target found;
      inside = follow_inside 0 (length section.bytes.items) section.relocations.items is.apart;
      points = is.points_within;
    }

-- the number of a section's function
number-of : (k : ℕ) (items : List Item) (section : Section) → IsSection k items section → function_of section ≡ k
number-of k items section is =
    ap (λ (ss : List Symbol). (slice_index_or ss 0 (record { function = 0; offset = 0 })).function) is.one_symbol

-- ---- numbers in order

range-get : (a n i k : ℕ) → slice_get (range_with_len a n) i ≡ Some k → (k ≡ a + i) × (i < n)
range-get a zero i k e = absurd (none-some k e)
range-get a (suc n) zero k e = let same = same_Some a k e in (omega (arith, same), omega arith)
range-get a (suc n) (suc i) k e =
    let further = range-get (a + 1) n i k e in (omega (arith, further.0), omega (arith, further.1))

range-at : (a n i : ℕ) → i < n → slice_get (range_with_len a n) i ≡ Some (a + i)
range-at a zero i h = absurd (omega (arith, h))
range-at a (suc n) zero h = let e : a ≡ a + 0 = omega arith in ap Some e
range-at a (suc n) (suc i) h =
    let e : a + 1 + i ≡ a + suc i = omega arith in range-at (a + 1) n i (omega (arith, h)) ∙ ap Some e

pub range-is-order : (n : ℕ) → IsOrder n (range_with_len 0 n)
range-is-order n =
    record {
      below = λ i k e. let at = range-get 0 n i k e in omega (arith, at.0, at.1);
      each = λ k h. (k, range-at 0 n k h ∙ (let e : 0 + k ≡ k = omega arith in ap Some e));
      once = λ i j k e f.
          let one = range-get 0 n i k e in let two = range-get 0 n j k f in omega (arith, one.0, two.0);
    }

-- ---- the sections

order-is : (k : ℕ) (homes : List Home) (sections : List Section) → AreSectionsFrom k homes sections
    → order_of sections ≡ range_with_len k (length homes)
order-is k [] [] h = refl
order-is k [] (s ∷ sections) h = absurd h
order-is k (home ∷ homes) [] h = absurd h
order-is k (home ∷ homes) (s ∷ sections) h =
    ap (λ (n : ℕ). n ∷ order_of sections) (number-of k h.0.items s h.0.stands)
    ∙ ap (λ (ns : List ℕ). k ∷ ns) (order-is (k + 1) homes sections h.1)

pub order-of : (homes : List Home) (sections : List Section) → AreSectionsFrom 0 homes sections
    → order_of sections ≡ range_with_len 0 (length homes)
order-of homes sections h = order-is 0 homes sections h

as-many : (k : ℕ) (homes : List Home) (sections : List Section) → AreSectionsFrom k homes sections
    → length sections ≡ length homes
as-many k [] [] h = refl
as-many k [] (s ∷ sections) h = absurd h
as-many k (home ∷ homes) [] h = absurd h
as-many k (home ∷ homes) (s ∷ sections) h = ap suc (as-many (k + 1) homes sections h.1)

pub as-many-items : (k : ℕ) (homes : List Home) (sections : List Section) (h : AreSectionsFrom k homes sections)
    → length (items_of k homes sections h) ≡ length homes
as-many-items k [] [] h = refl
as-many-items k [] (s ∷ sections) h = absurd h
as-many-items k (home ∷ homes) [] h = absurd h
as-many-items k (home ∷ homes) (s ∷ sections) h = ap suc (as-many-items (k + 1) homes sections h.1)

pub as-many-placements : (k : ℕ) (homes : List Home) (sections : List Section)
    (h : AreSectionsFrom k homes sections) → length (placements_of k homes sections h) ≡ length homes
as-many-placements k [] [] h = refl
as-many-placements k [] (s ∷ sections) h = absurd h
as-many-placements k (home ∷ homes) [] h = absurd h
as-many-placements k (home ∷ homes) (s ∷ sections) h = ap suc (as-many-placements (k + 1) homes sections h.1)

pub sections-small : (k : ℕ) (homes : List Home) (sections : List Section) → AreSectionsFrom k homes sections
    → sections_size sections ≤ sum_by most_bytes (map graph_of homes)
sections-small k [] [] h = omega arith
sections-small k [] (s ∷ sections) h = absurd h
sections-small k (home ∷ homes) [] h = absurd h
sections-small k (home ∷ homes) (s ∷ sections) h =
    omega (
      arith,
      h.0.size,
      sections-small (k + 1) homes sections h.1,
      sum_by-cons most_bytes (graph_of home) (map graph_of homes),
    )

-- what was made of the function with this home: its section, its items, and the placement that they are over
pub record MadeAt (k i : ℕ) (home : Home) (sections : List Section) (items : List (List Item))
    (placements : List Placement) : Type 0 where
  pub section : Section
  pub section_there : slice_get sections i ≡ Some section
  pub own : List Item
  pub selection : IsSelection (graph_of home) home.places own
  pub stands : IsSection (k + i) own section
  pub items_there : slice_get items i ≡ Some own
  pub placement_there : slice_get placements i
      ≡ Some (placement_in (graph_of home) home.places selection.between)

pub made-at : (k : ℕ) (homes : List Home) (sections : List Section) (h : AreSectionsFrom k homes sections) (i : ℕ)
    (home : Home) → slice_get homes i ≡ Some home
    → MadeAt k i home sections (items_of k homes sections h) (placements_of k homes sections h)
made-at k [] [] h i home e = absurd (none-some home e)
made-at k [] (s ∷ sections) h i home e = absurd h
made-at k (x ∷ homes) [] h i home e = absurd h
made-at k (x ∷ homes) (s ∷ sections) h zero home e =
    let plain : k ≡ k + 0 = omega arith in
    let items = items_of k (x ∷ homes) (s ∷ sections) h in
    let placements = placements_of k (x ∷ homes) (s ∷ sections) h in
    subst (λ (y : Home). MadeAt k 0 y (s ∷ sections) items placements) (same_Some x home e)
    (record {
      section = s;
      section_there = refl;
      own = h.0.items;
      selection = h.0.selection;
      stands = subst (λ (n : ℕ). IsSection n h.0.items s) plain h.0.stands;
      items_there = refl;
      placement_there = refl;
    })
made-at k (x ∷ homes) (s ∷ sections) h (suc i) home e =
    let further = made-at (k + 1) homes sections h.1 i home e in
    let sum : k + 1 + i ≡ k + suc i = omega arith in
    record {
      section = further.section;
      section_there = further.section_there;
      own = further.own;
      selection = further.selection;
      stands = subst (λ (n : ℕ). IsSection n further.own further.section) sum further.stands;
      items_there = further.items_there;
      placement_there = further.placement_there;
    }

-- the same by the number of a section
record SectionAt (i : ℕ) (homes : List Home) (items : List (List Item)) (s : Section) : Type 0 where
  home : Home
  there : slice_get homes i ≡ Some home
  own : List Item
  selection : IsSelection (graph_of home) home.places own
  stands : IsSection i own s
  items_there : slice_get items i ≡ Some own

section-at : (homes : List Home) (sections : List Section) (h : AreSectionsFrom 0 homes sections) (i : ℕ)
    (s : Section) → slice_get sections i ≡ Some s → SectionAt i homes (items_of 0 homes sections h) s
section-at homes sections h i s e =
    let below = slice_get_within sections i s e in
    let many = as-many 0 homes sections h in
    let (home, there) = element-at homes i (omega (arith, below, many)) in
    let made = made-at 0 homes sections h i home there in
    let same : made.section ≡ s = same_Some made.section s (sym made.section_there ∙ e) in
    let plain : 0 + i ≡ i = omega arith in
    record {
      home = home;
      there = there;
      own = made.own;
      selection = made.selection;
      stands = subst (λ (n : ℕ). IsSection n made.own s) plain
          (subst (λ (x : Section). IsSection (0 + i) made.own x) same made.stands);
      items_there = made.items_there;
    }

pub are-sections : (homes : List Home) (sections : List Section) (h : AreSectionsFrom 0 homes sections)
    → AreSections (items_of 0 homes sections h) sections
are-sections homes sections h =
    record {
      many = as-many-items 0 homes sections h ∙ sym (as-many 0 homes sections h);
      each = λ i s e.
          let at = section-at homes sections h i s e in
          let number = number-of i at.own s at.stands in (
            at.own,
            ap (slice_get (items_of 0 homes sections h)) number ∙ at.items_there,
            subst (λ (n : ℕ). IsSection n at.own s) (sym number) at.stands,
          );
    }

pub can-link : (homes : List Home) (sections : List Section) (objects : List Object) (main : ℕ)
    → AreSectionsFrom 0 homes sections
    → ((i : ℕ) (home : Home) → slice_get homes i ≡ Some home
    → IsGraph (length homes) (length objects) (graph_of home))
    → main < length homes → sum_by most_bytes (map graph_of homes) < 2 ^ 30 → CanHold objects
    → CanLink sections objects main
can-link homes sections objects main h graphs inside small held =
    let many = as-many 0 homes sections h in
    record {
      main_there = omega (arith, inside, many);
      order = subst (λ (n : ℕ). IsOrder n (order_of sections)) (sym many)
          (subst (IsOrder (length homes)) (sym (order-of homes sections h)) (range-is-order (length homes)));
      each = λ i s e.
          let at = section-at homes sections h i s e in
          let graph = graphs i at.home at.there in
          subst (λ (n : ℕ). FitsIn n (length objects) s) (sym many)
          (fits-in (length homes) (length objects) i at.own s at.stands
          (at.selection.code (length homes) (length objects) graph).names);
      code = omega (arith, small, sections-small 0 homes sections h);
      held = held;
    }
