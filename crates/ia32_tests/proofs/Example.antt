-- The sections and objects of the examples of the tests can be linked.
use Rattle.std.specs.Prelude.{◌≡◌, ◌⊎◌, ◌<◌, ◌+◌, ℕ, zero, suc, ◌*◌, pos, negsuc, List, [], ◌∷◌, length, map, slice_get}
use Rattle.std.specs.Prelude.{◌≤◌, slice_index, slice_index_or, Some}
use Rattle.std.specs.List.{filter_map}
use Rattle.std.proofs.Common.{refl, sym, ap, ◌∙◌, subst, arith, inl}
use Rattle.std.proofs.lemmas.Option.{same_Some}
use Rattle.pcc_base.specs.declared.object.DataObject.{DataObject}
use Rattle.ia32_insn.specs.declared.register_names.Reg32.TheVariants.{Eax}
use Rattle.ia32_insn.specs.declared.operand.Rm32.TheVariants as rm
use Rattle.ia32_insn.specs.declared.insn.Insn.TheVariants as insn
use Rattle.ia32_insn.specs.declared.item.Item.{Item}
use Rattle.ia32_insn.specs.declared.item.Item.TheVariants as item
use Rattle.ia32_insn.specs.Items.{IsOrder, Object, round_up, elements_size}
use Rattle.ia32_asm.specs.declared.section.Section.{Section}
use Rattle.ia32_asm.specs.declared.section.Symbol.{Symbol}
use Rattle.ia32_asm.specs.declared.section.Relocation.{Relocation}
use Rattle.ia32_asm.specs.declared.section.Target.TheVariants as target
use Rattle.ia32_asm.specs.Sections.{CanAssemble, IsSection, items_size, target_of}
use Rattle.elf_link.specs.Parts.{CanHold, IsThere, function_of, object_of, order_of}
use Rattle.elf_link.specs.Linking.{FitsIn, CanLink}
use Rattle.elf_link.proofs.RoutineItems.{plainly_can, word_to, returned}
use Rattle.elf_link.proofs.Alone.{number-alone, order-alone}
use Rattle.elf_link.proofs.Placing.{named_target, follow_inside}

abbrev pub example_items : List Item
example_items = item.Plain (insn.MovImm (rm.Reg Eax) (pos 3)) ∷ item.Plain insn.Ret ∷ []

-- and a second function, of 5
abbrev pub other_items : List Item
other_items = item.Plain (insn.MovImm (rm.Reg Eax) (pos 5)) ∷ item.Plain insn.Ret ∷ []

pub other_can : (items : List Item) → items ≡ other_items → CanAssemble items
other_can items e = subst CanAssemble (sym e)
    (plainly_can other_items (word_to Eax 5 (omega arith), (returned, tt)) (omega arith))

pub example_can : (items : List Item) → items ≡ example_items → CanAssemble items
example_can items e = subst CanAssemble (sym e)
    (plainly_can example_items (word_to Eax 3 (omega arith), (returned, tt)) (omega arith))

-- a section that names nothing
fits_alone : (functions objects f : ℕ) (items : List Item) (s : Section) → IsSection f items s
    → filter_map target_of items ≡ [] → FitsIn functions objects s
fits_alone functions objects f items s is e =
    record {
      named = omega (arith, ap length is.one_symbol);
      targets = λ j r h. let named = named_target f items s is j r h in let none = ap (λ ts. slice_get ts j) e in
          absurd (cc);
      inside = follow_inside 0 (length s.bytes.items) s.relocations.items is.apart;
      points = is.points_within;
    }

held_alone : (object : DataObject) → object.width ≡ 1 → object.elements.items ≡ pos 65 ∷ negsuc 0 ∷ []
    → CanHold (object_of object ∷ [])
held_alone object w e =
    let size : elements_size (object_of object) ≡ 4 =
    ap (λ (n : ℕ). round_up 4 (n * length object.elements.items)) w ∙ ap (λ zs. round_up 4 (1 * length zs)) e
    in
    record { widths = narrow object w; size = omega (arith, size) }
  where
    narrow : (object : DataObject) → object.width ≡ 1 → (k : ℕ) (o : Object) → slice_get (object_of object ∷ []) k
        ≡ Some o → (o.width ≡ 1) ⊎ ((o.width ≡ 2) ⊎ (o.width ≡ 4))
    narrow object w zero o e = inl (ap (λ (x : Object). x.width) (sym (same_Some (object_of object) o e)) ∙ w)
    narrow object w (suc k) o e = absurd (cc)

pub example_link : (items : List Item) (section : Section) (sections : List Section) (object : DataObject)
    (objects : List DataObject) → items ≡ example_items
    → IsSection 0 items section → length section.bytes.items ≡ items_size items → sections ≡ section ∷ [] → objects
    ≡ object ∷ []
    → object.width ≡ 1 → object.elements.items ≡ pos 65 ∷ negsuc 0 ∷ [] → CanLink sections (map object_of objects) 0
example_link items section sections object objects e is size s o w z =
    let few : length section.bytes.items ≡ 6 = size ∙ ap items_size e in
    subst (λ (ss : List Section). CanLink ss (map object_of objects) 0) (sym s)
    (subst (λ (os : List DataObject). CanLink (section ∷ []) (map object_of os) 0) (sym o)
    (record {
      main_there = omega arith;
      order = subst (IsOrder 1) (sym (number-alone items section is)) order-alone;
      each = alone section (fits_alone 1 1 0 items section is (ap (filter_map target_of) e));
      code = omega (arith, few);
      held = held_alone object w z;
    }))
  where
    alone : (section : Section) → FitsIn 1 1 section → (k : ℕ) (s : Section) → slice_get (section ∷ []) k ≡ Some s
        → FitsIn 1 1 s
    alone section fits zero s e = subst (λ (x : Section). FitsIn 1 1 x) (same_Some section s e) fits
    alone section fits (suc k) s e = absurd (cc)

-- the sections of two functions, the second one's first
pub two_link : (items others : List Item) (section other : Section) (sections : List Section)
    (objects : List DataObject) → items ≡ example_items → others ≡ other_items
    → IsSection 0 items section → IsSection 1 others other → length section.bytes.items ≡ items_size items
    → length other.bytes.items ≡ items_size others
    → sections ≡ other ∷ section ∷ [] → objects ≡ [] → CanLink sections (map object_of objects) 0
two_link items others section other sections objects e f is are size long s o =
    let few : length section.bytes.items ≡ 6 = size ∙ ap items_size e in
    let short : length other.bytes.items ≡ 6 = long ∙ ap items_size f in
    let number : function_of section ≡ 0 = ap
    (λ (symbols : List Symbol). (slice_index_or symbols 0 (record { function = 0; offset = 0 })).function)
    is.one_symbol in
    let higher : function_of other ≡ 1 = ap (λ (symbols : List Symbol).
    (slice_index_or symbols 0 (record { function = 0; offset = 0 })).function) are.one_symbol in
    let order : order_of (other ∷ section ∷ []) ≡ 1 ∷ 0 ∷ [] = ap (λ (n : ℕ). n ∷ function_of section ∷ []) higher
    ∙ ap (λ (n : ℕ). 1 ∷ n ∷ []) number in
    subst (λ (ss : List Section). CanLink ss (map object_of objects) 0) (sym s)
    (subst (λ (os : List DataObject). CanLink (other ∷ section ∷ []) (map object_of os) 0) (sym o)
    (record {
      main_there = omega arith;
      order = subst (IsOrder 2) (sym order) two_order;
      each = both (fits_alone 2 0 0 items section is (ap (filter_map target_of) e))
          (fits_alone 2 0 1 others other are (ap (filter_map target_of) f));
      code = omega (arith, few, short);
      held = record { widths = λ k o e. absurd (cc); size = omega arith };
    }))
  where
    both : FitsIn 2 0 section → FitsIn 2 0 other → (k : ℕ) (s : Section) → slice_get (other ∷ section ∷ []) k ≡ Some s
        → FitsIn 2 0 s
    both one two zero s e = subst (FitsIn 2 0) (same_Some other s e) two
    both one two (suc zero) s e = subst (FitsIn 2 0) (same_Some section s e) one
    both one two (suc (suc k)) s e = absurd (cc)

    below : (i k : ℕ) → slice_get (1 ∷ 0 ∷ []) i ≡ Some k → k < 2
    below zero k e = omega (arith, same_Some 1 k e)
    below (suc zero) k e = omega (arith, same_Some 0 k e)
    below (suc (suc i)) k e = absurd (cc)

    each : (k : ℕ) → k < 2 → (i : ℕ) × (slice_get (1 ∷ 0 ∷ []) i ≡ Some k)
    each zero h = (1, refl)
    each (suc k) h = (0, ap Some (omega (arith, h)))

    place : (i k : ℕ) → slice_get (1 ∷ 0 ∷ []) i ≡ Some k → i + k ≡ 1
    place zero k e = omega (arith, same_Some 1 k e)
    place (suc zero) k e = omega (arith, same_Some 0 k e)
    place (suc (suc i)) k e = absurd (cc)

    two_order : IsOrder 2 (1 ∷ 0 ∷ [])
    two_order = record { below = below; each = each; once = λ i j k e f. omega (arith, place i k e, place j k f) }

-- ---- sections that no items make

-- a section of six bytes whose one relocation names function 0 by the four behind the first
one_fits : (s : Section) (relocation : Relocation) (symbol : Symbol) → s.symbols.items ≡ symbol ∷ []
    → s.relocations.items ≡ relocation ∷ [] → relocation.target ≡ target.Function 0 → relocation.at ≡ 1
    → length s.bytes.items ≡ 6 → ((p : ℕ) → slice_index s.points.items p ≤ 6) → FitsIn 2 0 s
one_fits s relocation symbol named relocations to from long points =
    record {
      named = omega (arith, ap length named);
      targets = λ j r e. subst (IsThere 2 0) (sym to ∙ ap (λ (x : Relocation). x.target) (same j r e)) zero_there;
      inside = λ j r e. omega (arith, long, from, ap (λ (x : Relocation). x.at) (same j r e));
      points = λ p. omega (arith, long, points p);
    }
  where
    zero_there : IsThere 2 0 (target.Function 0)
    zero_there = omega arith

    only : (j : ℕ) (r : Relocation) → slice_get (relocation ∷ []) j ≡ Some r → relocation ≡ r
    only zero r e = same_Some relocation r e
    only (suc j) r e = absurd (cc)

    same : (j : ℕ) (r : Relocation) → slice_get s.relocations.items j ≡ Some r → relocation ≡ r
    same j r e = only j r (sym (ap (λ rs. slice_get rs j) relocations) ∙ e)

-- the points of the first of two such sections lie within it
pub points_low : (points : List ℕ) → points ≡ 0 ∷ 5 ∷ [] → (p : ℕ) → slice_index points p ≤ 6
points_low points e p = subst (λ (xs : List ℕ). slice_index xs p ≤ 6) (sym e) (low p)
  where
    low : (p : ℕ) → slice_index (0 ∷ 5 ∷ []) p ≤ 6
    low zero = omega arith
    low (suc zero) = omega arith
    low (suc (suc p)) = omega arith

pub no_points_low : (points : List ℕ) → points ≡ [] → (p : ℕ) → slice_index points p ≤ 6
no_points_low points e p = subst (λ (xs : List ℕ). slice_index xs p ≤ 6) (sym e) (low p)
  where
    low : (p : ℕ) → slice_index [] p ≤ 6
    low p = omega arith

-- two such sections, by the numbers of their functions
pub any_link : (loads calls : Section) (first second : Relocation) (sections : List Section) (objects : List DataObject)
    → loads.symbols.items ≡ record { function = 0; offset = 0 } ∷ []
    → calls.symbols.items ≡ record { function = 1; offset = 0 } ∷ [] → loads.relocations.items ≡ first ∷ []
    → calls.relocations.items ≡ second ∷ [] → first.target ≡ target.Function 0 → second.target ≡ target.Function 0
    → first.at ≡ 1 → second.at ≡ 1 → length loads.bytes.items ≡ 6 → length calls.bytes.items ≡ 6
    → ((p : ℕ) → slice_index loads.points.items p ≤ 6) → ((p : ℕ) → slice_index calls.points.items p ≤ 6)
    → sections ≡ loads ∷ calls ∷ [] → objects ≡ [] → CanLink sections (map object_of objects) 0
any_link loads calls first second sections objects n m r q to also from too long wide low also_low s o =
    let number : function_of loads ≡ 0 = ap
    (λ (symbols : List Symbol). (slice_index_or symbols 0 (record { function = 0; offset = 0 })).function) n in
    let higher : function_of calls ≡ 1 = ap
    (λ (symbols : List Symbol). (slice_index_or symbols 0 (record { function = 0; offset = 0 })).function) m in
    let order : order_of (loads ∷ calls ∷ []) ≡ 0 ∷ 1 ∷ [] =
    ap (λ (k : ℕ). k ∷ function_of calls ∷ []) number ∙ ap (λ (k : ℕ). 0 ∷ k ∷ []) higher in
    subst (λ (ss : List Section). CanLink ss (map object_of objects) 0) (sym s)
    (subst (λ (os : List DataObject). CanLink (loads ∷ calls ∷ []) (map object_of os) 0) (sym o)
    (record {
      main_there = omega arith;
      order = subst (IsOrder 2) (sym order) in_order;
      each = both (one_fits loads first _ n r to from long low) (one_fits calls second _ m q also too wide also_low);
      code = omega (arith, long, wide);
      held = record { widths = λ k o e. absurd (cc); size = omega arith };
    }))
  where
    both : FitsIn 2 0 loads → FitsIn 2 0 calls → (k : ℕ) (s : Section) → slice_get (loads ∷ calls ∷ []) k ≡ Some s
        → FitsIn 2 0 s
    both one two zero s e = subst (FitsIn 2 0) (same_Some loads s e) one
    both one two (suc zero) s e = subst (FitsIn 2 0) (same_Some calls s e) two
    both one two (suc (suc k)) s e = absurd (cc)

    place : (i k : ℕ) → slice_get (0 ∷ 1 ∷ []) i ≡ Some k → (i ≡ k) × (k < 2)
    place zero k e = let same : 0 ≡ k = same_Some 0 k e in (same, omega (arith, same))
    place (suc zero) k e = let same : 1 ≡ k = same_Some 1 k e in (same, omega (arith, same))
    place (suc (suc i)) k e = absurd (cc)

    each : (k : ℕ) → k < 2 → (i : ℕ) × (slice_get (0 ∷ 1 ∷ []) i ≡ Some k)
    each zero h = (0, refl)
    each (suc k) h = (1, ap Some (omega (arith, h)))

    in_order : IsOrder 2 (0 ∷ 1 ∷ [])
    in_order =
        record {
          below = λ i k e. (place i k e).1;
          each = each;
          once = λ i j k e f. omega (arith, (place i k e).0, (place j k f).0);
        }
