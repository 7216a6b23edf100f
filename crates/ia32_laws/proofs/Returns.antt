-- Where the items of a call stand, and where it returns to.
use Rattle.std.specs.List.{AllByRecursion}
use Rattle.std.proofs.Common.{◌≡◌, ℕ, ◌+◌, List, [], ◌∷◌, ◌++◌, length, Some, refl, sym}
use Rattle.std.proofs.Common.{ap, subst, ◌∙◌, arith, append_assoc, length-append}
use Rattle.std.specs.Prelude.{drop, slice_get}
use Rattle.std.proofs.lemmas.List.{length-map}
use Rattle.std.proofs.lemmas.Option.{get_or_from_slice_get, same_Some}
use Rattle.pcc_base.proofs.Lists.{all-append, get-seam}
use Rattle.ia32_insn.specs.Places.{Place, InWord, InByte, InSlot}
use Rattle.ia32_insn.specs.declared.item.Item.{Item}
use Rattle.ia32_insn.specs.declared.item.Item.TheVariants as item
use Rattle.ia32_insn.specs.Items.{ItemAt, ItemsAt, Places, Symbols}
use Rattle.flow_graph.specs.declared.op.Op.TheVariants as op
use Rattle.flow_graph.specs.States.{flow_at}
use Rattle.ia32_rows.specs.Paths.{IsAt}
use Rattle.ia32_rows.specs.Placements.{Placement, placement_of}
use Rattle.ia32_rows.specs.Shows.{IsInside, up_to_call}
use Rattle.ia32_rows.specs.Sites.{Site, StandsFrom}
use Rattle.ia32_rows.proofs.Steps.{at-back, at-front, items-split}
use Rattle.ia32_rows.specs.Rows.{before_call, behind_call, deepen, pass, pass_all, place_before, selected}
use Rattle.ia32_rows.proofs.ItemKinds.{PointsTakeRoom, behind-point, point-address, strictly-later}
use Rattle.ia32_laws.specs.Supports.{no_places, site_of}
use Rattle.ia32_laws.proofs.Memory.{address-at}
use Rattle.ia32_laws.specs.StandingLaws.{CallsReturn, CallsStand, MarkedStand, MarksSayWhere, place_behind}
use Rattle.ia32_laws.specs.StandingLaws.{places_before}
use Rattle.ia32_laws.proofs.Apart.{all-room}
use Rattle.ia32_laws.proofs.Points.{laid, point-is-there}

-- ---- a point stands once among the items

-- what follows the first item
rest-alike : (x y : Item) (xs ys : List Item) → x ∷ xs ≡ y ∷ ys → xs ≡ ys
rest-alike x y xs ys e = ap (λ (l : List Item). drop 1 l) e

first-alike : (x y : Item) (xs ys : List Item) → x ∷ xs ≡ y ∷ ys → Some x ≡ Some y
first-alike x y xs ys e = ap (λ (l : List Item). slice_get l 0) e

-- items that begin with a point have it nowhere else
nowhere-else : (symbols : Symbols) (places : Places) (address : ℕ) (x : Item) (xs front back : List Item) (p : ℕ)
    (bytes : List ℕ) → PointsTakeRoom (x ∷ xs) → ItemsAt symbols places address (x ∷ xs) bytes
    → Some x ≡ Some (item.Point p) → xs ≡ front ++ (item.Point p ∷ back) → ⊥
nowhere-else symbols places address x xs front back p bytes room (first, rest, whole, at, more) is e =
    let here = point-address symbols places address x p first is at in
    let none = here.0 in
    let own = here.1 in
    let after = strictly-later symbols places (address + length first) xs rest (length front) p
    (behind-point x p xs is room.0) more
    (ap (λ (l : List Item). slice_get l (length front)) e ∙ get-seam front (item.Point p) back) in
    absurd (omega (arith, none, own, after))

-- what stands behind a point is the same, however the items are parted
parted-once : (symbols : Symbols) (places : Places) (address : ℕ) (items one two back last : List Item) (p : ℕ)
    (bytes : List ℕ) → PointsTakeRoom items → ItemsAt symbols places address items bytes
    → items ≡ one ++ (item.Point p ∷ back) → items ≡ two ++ (item.Point p ∷ last) → back ≡ last
parted-once symbols places address [] [] two back last p bytes room h e k = absurd (cc)
parted-once symbols places address [] (y ∷ one) two back last p bytes room h e k = absurd (cc)
parted-once symbols places address (x ∷ xs) [] [] back last p bytes room h e k =
    rest-alike (item.Point p) (item.Point p) back last (sym e ∙ k)
parted-once symbols places address (x ∷ xs) [] (z ∷ two) back last p bytes room h e k =
    absurd (nowhere-else symbols places address x xs two last p bytes room h
    (first-alike x (item.Point p) xs back e) (rest-alike x z xs (two ++ (item.Point p ∷ last)) k))
parted-once symbols places address (x ∷ xs) (y ∷ one) [] back last p bytes room h e k =
    absurd (nowhere-else symbols places address x xs one back p bytes room h
    (first-alike x (item.Point p) xs last k) (rest-alike x y xs (one ++ (item.Point p ∷ back)) e))
parted-once symbols places address (x ∷ xs) (y ∷ one) (z ∷ two) back last p bytes room (first, rest, whole, at, more)
    e k =
    parted-once symbols places (address + length first) xs one two back last p rest room.1 more
    (rest-alike x y xs (one ++ (item.Point p ∷ back)) e) (rest-alike x z xs (two ++ (item.Point p ∷ last)) k)

-- ---- the first call behind a point

inside-not : (x : Item) (f : ℕ) → IsInside x → Some x ≡ Some (item.CallFunction f) → ⊥
inside-not x f h e = subst IsInside (same_Some x (item.CallFunction f) e) h

-- what stands behind the first call is the same, however the items up to it are parted
called-once : (one two back last : List Item) (f h : ℕ) → AllByRecursion IsInside one → AllByRecursion IsInside two
    → one ++ (item.CallFunction f ∷ back) ≡ two ++ (item.CallFunction h ∷ last) → back ≡ last
called-once [] [] back last f h a b e = rest-alike (item.CallFunction f) (item.CallFunction h) back last e
called-once [] (y ∷ two) back last f h a b e =
    absurd (inside-not y f b.0
    (sym (first-alike (item.CallFunction f) y back (two ++ (item.CallFunction h ∷ last)) e)))
called-once (x ∷ one) [] back last f h a b e =
    absurd (inside-not x h a.0 (first-alike x (item.CallFunction h) (one ++ (item.CallFunction f ∷ back)) last e))
called-once (x ∷ one) (y ∷ two) back last f h a b e =
    called-once one two back last f h a.1 b.1
    (rest-alike x y (one ++ (item.CallFunction f ∷ back)) (two ++ (item.CallFunction h ∷ last)) e)

pass-inside : (p : Place) → AllByRecursion IsInside (pass p)
pass-inside (InWord r) = (tt, tt)
pass-inside (InByte r) = (tt, (tt, tt))
pass-inside (InSlot k) = (tt, tt)

pass_all-inside : (places : List Place) → AllByRecursion IsInside (pass_all places)
pass_all-inside [] = tt
pass_all-inside (p ∷ places) =
    all-append IsInside (pass_all places) (pass p) (pass_all-inside places) (pass-inside p)

before-inside : (places : List Place) → AllByRecursion IsInside (before_call places)
before-inside places =
    all-append IsInside deepen (pass_all places) (tt, (tt, (tt, (tt, tt)))) (pass_all-inside places)

-- ---- where a call returns to

pub calls-return : CallsReturn
calls-return code w result callee words r h below stands has (
  items,
  places,
  address,
  of-f,
  placed,
  named,
  (front, middle, back, before, after, is, inside, upto, at, text, r-is),
) =
    let f : ℕ = w.activation.function in
    let placement : Placement = placement_of code f in
    let site : Site = site_of code f in
    let mine : List Item = selected (flow_at code.program f) placement in
    let own = point-is-there code f w.block w.point (op.Call result callee words) h below stands has in
    let l = laid code f h below in
    let arguments : List Place = places_before code f w.point words in
    let tail : List Item = behind_call (place_behind code f w.point result) (length arguments) in
    let second : List Item = middle ++ (item.CallFunction callee ∷ back) in
    let parts : mine ≡ front ++ (item.Point w.point ∷ second) =
    same_Some mine items (sym (h.items f below) ∙ of-f) ∙ is
    ∙ grouped front middle back (item.Point w.point) (item.CallFunction callee) in
    let behind : (before_call arguments ++ (item.CallFunction callee ∷ tail)) ++ own.rest ≡ second =
    parted-once site.symbols site.places l.address mine own.front front
    ((before_call arguments ++ (item.CallFunction callee ∷ tail)) ++ own.rest) second w.point l.stands.bytes
    (all-room code f) l.stands.stand own.is parts in
    let tails : back ≡ tail ++ own.rest =
    sym (called-once (before_call arguments) middle (tail ++ own.rest) back callee callee (before-inside arguments)
    inside (sym (append_assoc (before_call arguments) (item.CallFunction callee ∷ tail) own.rest) ∙ behind)) in
    let same : places ≡ site.places = sym (get_or_from_slice_get code.places f places no_places placed) in
    let there : IsAt code.text address (before ++ after) =
    record { done = text.0; rest = text.1; whole = text.2; place = text.3 } in
    let returned : StandsFrom site (tail ++ own.rest) r =
    record {
      bytes = after;
      here = subst (λ (a : ℕ). IsAt code.text a after) (sym r-is) (at-back code.text address before after there);
      stand = subst (λ (a : ℕ). ItemsAt site.symbols site.places a (tail ++ own.rest) after) (sym r-is)
          (subst (λ (items : List Item). ItemsAt site.symbols site.places (address + length before) items after) tails
          (subst (λ (p : Places). ItemsAt site.symbols p (address + length before) back after) same at));
    } in
    record {
      rest = own.rest;
      stands = subst (λ (n : ℕ). StandsFrom site (behind_call (place_behind code f w.point result) n ++ own.rest) r)
          (length-map words (place_before placement w.point)) returned;
      follows = own.follows;
    }
  where
    grouped : (a b c : List Item) (p f : Item) → (a ++ p ∷ b ++ f ∷ []) ++ c ≡ a ++ (p ∷ (b ++ (f ∷ c)))
    grouped a b c p f = simp append_assoc refl

-- ---- the call's own items

-- a point stands where what follows it does
point-at : (symbols : Symbols) (places : Places) (address p : ℕ) (items : List Item) (bytes : List ℕ)
    → ItemsAt symbols places address (item.Point p ∷ items) bytes
    → (places.points p ≡ address) × ItemsAt symbols places address items bytes
point-at symbols places address p items bytes (first, rest, whole, (none, own), more) =
    let same : rest ≡ bytes = sym (whole ∙ ap (λ (l : List ℕ). l ++ rest) none) in
    let at : address + length first ≡ address = let l = ap length none in omega (arith, l) in (
      own,
      subst (λ (b : List ℕ). ItemsAt symbols places address items b) same
          (subst (λ (a : ℕ). ItemsAt symbols places a items rest) at more),
    )

-- the places of a function, but that all points stand at one address
abbrev pointed : Places → ℕ → Places
pointed places address = record { labels = places.labels; points = λ point. address }

pointed-item : (symbols : Symbols) (places : Places) (r address : ℕ) (x : Item) (bytes : List ℕ) → IsInside x
    → ItemAt symbols places address x bytes → ItemAt symbols (pointed places r) address x bytes
pointed-item symbols places r address (item.Plain i) bytes inside at = at
pointed-item symbols places r address (item.Label l) bytes inside at = at
pointed-item symbols places r address (item.Point p) bytes inside at = absurd inside
pointed-item symbols places r address (item.JumpTo l) bytes inside at = at
pointed-item symbols places r address (item.JumpIf c l) bytes inside at = at
pointed-item symbols places r address (item.CallFunction f) bytes inside at = absurd inside
pointed-item symbols places r address (item.CallStub s) bytes inside at = at
pointed-item symbols places r address (item.JumpTrap c) bytes inside at = at
pointed-item symbols places r address (item.AddressOf q k) bytes inside at = at

all-pointed : (symbols : Symbols) (places : Places) (r address : ℕ) (items : List Item) (bytes : List ℕ)
    → AllByRecursion IsInside items → ItemsAt symbols places address items bytes
    → ItemsAt symbols (pointed places r) address items bytes
all-pointed symbols places r address [] bytes inside h = h
all-pointed symbols places r address (x ∷ items) bytes inside (first, rest, whole, at, more) = (
  first,
  rest,
  whole,
  pointed-item symbols places r address x first inside.0 at,
  all-pointed symbols places r (address + length first) items rest inside.1 more,
)

pub marked-stand : MarkedStand
marked-stand site r address items inside h =
    record {
      bytes = h.bytes;
      here = h.here;
      stand = all-pointed site.symbols site.places r address items h.bytes inside h.stand;
    }

pub marks-say-where : MarksSayWhere
marks-say-where site r address h = h.stand.3.1

-- a point at the end of the items up to a call
pointed-items : (symbols : Symbols) (places : Places) (r f address : ℕ) (items : List Item) (bytes : List ℕ)
    → AllByRecursion IsInside items → ItemsAt symbols places address (items ++ (item.CallFunction f ∷ [])) bytes
    → address + length bytes ≡ r
    → ItemsAt symbols (pointed places r) address (items ++ (item.CallFunction f ∷ item.Point 0 ∷ [])) bytes
pointed-items symbols places r f address [] bytes inside (first, rest, whole, at, none) e =
    let long = ap length whole ∙ length-append first rest in
    let last = ap length none in
    let own : r ≡ address + length first = omega (arith, e, long, last) in
    (first, rest, whole, at, ([], rest, refl, (refl, own), none))
pointed-items symbols places r f address (x ∷ items) bytes inside (first, rest, whole, at, more) e =
    let long = ap length whole ∙ length-append first rest in (
      first,
      rest,
      whole,
      pointed-item symbols places r address x first inside.0 at,
      pointed-items symbols places r f (address + length first) items rest inside.1 more (omega (arith, e, long)),
    )

pub calls-stand : CallsStand
calls-stand code w result callee words s h below stands has e =
    let f : ℕ = w.activation.function in
    let p : ℕ = w.point in
    let site : Site = site_of code f in
    let mine : List Item = selected (flow_at code.program f) (placement_of code f) in
    let own = point-is-there code f w.block p (op.Call result callee words) h below stands has in
    let l = laid code f h below in
    let arguments : List Place = places_before code f p words in
    let back : List Item = behind_call (place_behind code f p result) (length arguments) ++ own.rest in
    let middle : List Item = before_call arguments ++ (item.CallFunction callee ∷ []) in
    let upto : List Item = up_to_call own.front p (before_call arguments) callee in
    let whole : mine ≡ upto ++ back =
    own.is ∙ grouped own.front (before_call arguments)
    (behind_call (place_behind code f p result) (length arguments)) own.rest (item.Point p) (item.CallFunction callee)
    in
    let split = items-split site.symbols site.places l.address upto back l.stands.bytes
    (subst (λ (items : List Item). ItemsAt site.symbols site.places l.address items l.stands.bytes) whole
    l.stands.stand) in
    let before : List ℕ = split.0 in
    let r : ℕ = l.address + length before in
    let there : IsAt code.text l.address (before ++ split.1) =
    subst (IsAt code.text l.address) split.2 l.stands.here in
    let upto-at : ItemsAt site.symbols site.places l.address (own.front ++ (item.Point p ∷ middle)) before =
    subst (λ (items : List Item). ItemsAt site.symbols site.places l.address items before)
    (regrouped own.front (before_call arguments) (item.Point p) (item.CallFunction callee)) split.3 in
    let parts = items-split site.symbols site.places l.address own.front (item.Point p ∷ middle) before upto-at in
    let here : IsAt code.text (l.address + length parts.0) parts.1 =
    at-back code.text l.address parts.0 parts.1
    (subst (IsAt code.text l.address) parts.2 (at-front code.text l.address before split.1 there)) in
    let at = point-at site.symbols site.places (l.address + length parts.0) p middle parts.1 parts.4 in
    let end : l.address + length parts.0 + length parts.1 ≡ r =
    further l.address (length parts.0) (length parts.1) (length before)
    (ap length parts.2 ∙ length-append parts.0 parts.1) in
    let eip : l.address + length parts.0 ≡ s.eip = sym (e ∙ address-at code.places f p ∙ at.0) in
    let items : List Item = before_call arguments ++ (item.CallFunction callee ∷ item.Point 0 ∷ []) in
    record {
      return_address = r;
      ready = record {
        bytes = parts.1;
        here = subst (λ (a : ℕ). IsAt code.text a parts.1) eip here;
        stand = subst (λ (a : ℕ). ItemsAt site.symbols (pointed site.places r) a items parts.1) eip
            (pointed-items site.symbols site.places r callee (l.address + length parts.0) (before_call arguments)
            parts.1 (before-inside arguments) at.1 end);
      };
      returns_to = (
        mine,
        site.places,
        l.address,
        h.items f below,
        l.placed,
        l.named,
        (
          own.front,
          before_call arguments,
          back,
          before,
          split.1,
          whole,
          before-inside arguments,
          split.3,
          split.4,
          (there.done, there.rest, there.whole, there.place),
          refl,
        ),
      );
    }
  where
    grouped : (a b c d : List Item) (p f : Item)
        → a ++ (p ∷ (b ++ (f ∷ c)) ++ d) ≡ (a ++ p ∷ b ++ f ∷ []) ++ (c ++ d)
    grouped a b c d p f = simp append_assoc refl

    regrouped : (a b : List Item) (p f : Item) → a ++ p ∷ b ++ f ∷ [] ≡ a ++ (p ∷ (b ++ (f ∷ [])))
    regrouped a b p f = simp append_assoc refl

    further : (a b c n : ℕ) → n ≡ b + c → a + b + c ≡ a + n
    further a b c n e = omega (arith, e)
