-- The items of each function stand in the text from its address on.
use Rattle.std.proofs.Common.{◌≡◌, ℕ, zero, suc, ◌+◌, ◌<◌, ◌≤◌, List, [], ◌∷◌, ◌++◌, length, Some, refl, sym, ap}
use Rattle.std.proofs.Common.{subst, ◌∙◌, arith, append_assoc, length-append}
use Rattle.std.specs.Prelude.{slice_get}
use Rattle.std.proofs.lemmas.Option.{get_or_from_slice_get, none-some, same_Some, slice_get_within}
use Rattle.ia32_insn.specs.declared.item.Item.{Item}
use Rattle.ia32_insn.specs.Items.{FunctionAt, FunctionsAt, IsText, ItemsAt, Places, Symbols, text_start}
use Rattle.ia32_rows.specs.Paths.{IsAt}
use Rattle.ia32_rows.specs.Placements.{Code, objects_of}
use Rattle.ia32_rows.specs.Shows.{ending, startup}
use Rattle.ia32_rows.proofs.Steps.{items-split}
use Rattle.ia32_laws.specs.Supports.{no_places, site_of}
use Rattle.ia32_laws.specs.StandingLaws.{FunctionsStand, StartsStand}

-- the text of a program
abbrev pub TextOf : Code → Type 0
TextOf code =
    IsText code.items code.order (objects_of code.program) code.program.main code.places code.symbols code.text

-- ---- among the functions

-- The function stands among these bytes, which begin at the address.
pub record Among (symbols : Symbols) (functions : List (List Item)) (places : List Places) (f address : ℕ)
    (bytes : List ℕ) : Type 0 where
  pub before : List ℕ
  pub mine : List ℕ
  pub after : List ℕ
  pub whole : bytes ≡ before ++ (mine ++ after)
  pub stands : FunctionAt symbols functions places f (address + length before) mine

pub among : (symbols : Symbols) (functions : List (List Item)) (places : List Places) (order : List ℕ)
    (i f address : ℕ) (bytes : List ℕ) → slice_get order i ≡ Some f
    → FunctionsAt symbols functions places order address bytes → Among symbols functions places f address bytes
among symbols functions places [] i f address bytes e h = absurd (none-some f e)
among symbols functions places (k ∷ order) zero f address bytes e (first, rest, whole, at, more) =
    let here : FunctionAt symbols functions places f address first =
    subst (λ (n : ℕ). FunctionAt symbols functions places n address first) (same_Some k f e) at in
    record {
      before = [];
      mine = first;
      after = rest;
      whole = whole;
      stands = subst (λ (a : ℕ). FunctionAt symbols functions places f a first)
          (let none : address ≡ address + length {A = ℕ} [] = omega arith in none) here;
    }
among symbols functions places (k ∷ order) (suc i) f address bytes e (first, rest, whole, at, more) =
    let later = among symbols functions places order i f (address + length first) rest e more in
    let long = length-append first later.before in
    record {
      before = first ++ later.before;
      mine = later.mine;
      after = later.after;
      whole = whole ∙ ap (λ (l : List ℕ). first ++ l) later.whole
          ∙ sym (append_assoc first later.before (later.mine ++ later.after));
      stands = subst (λ (a : ℕ). FunctionAt symbols functions places f a later.mine)
          (further address (length first) (length later.before) (length (first ++ later.before)) long) later.stands;
    }
  where
    further : (a b c n : ℕ) → n ≡ b + c → a + b + c ≡ a + n
    further a b c n e = omega (arith, e)

-- Two functions of which one stands before the other in the order: it ends where the other begins, or before that.
pub record AreApart (symbols : Symbols) (functions : List (List Item)) (places : List Places) (f h : ℕ) : Type 0 where
  pub first : ℕ
  pub first_bytes : List ℕ
  pub first_at : FunctionAt symbols functions places f first first_bytes
  pub second : ℕ
  pub second_bytes : List ℕ
  pub second_at : FunctionAt symbols functions places h second second_bytes
  pub apart : first + length first_bytes ≤ second

pub both-apart : (symbols : Symbols) (functions : List (List Item)) (places : List Places) (order : List ℕ)
    (i j f h address : ℕ) (bytes : List ℕ) → i < j → slice_get order i ≡ Some f → slice_get order j ≡ Some h
    → FunctionsAt symbols functions places order address bytes → AreApart symbols functions places f h
both-apart symbols functions places [] i j f h address bytes lt one two at = absurd (none-some f one)
both-apart symbols functions places (k ∷ order) i zero f h address bytes lt one two at = absurd (omega (arith, lt))
both-apart symbols functions places (k ∷ order) zero (suc j) f h address bytes lt one two
    (first, rest, whole, at, more) =
    let later = among symbols functions places order j h (address + length first) rest two more in
    record {
      first = address;
      first_bytes = first;
      first_at = subst (λ (n : ℕ). FunctionAt symbols functions places n address first) (same_Some k f one) at;
      second = address + length first + length later.before;
      second_bytes = later.mine;
      second_at = later.stands;
      apart = omega arith;
    }
both-apart symbols functions places (k ∷ order) (suc i) (suc j) f h address bytes lt one two
    (first, rest, whole, at, more) =
    both-apart symbols functions places order i j f h (address + length first) rest (omega (arith, lt)) one two more

-- ---- in the text

pub function-stands : FunctionsStand
function-stands code f items is_code has =
    let t : TextOf code = is_code.text in
    let placed = t.order_is.each f (slice_get_within code.items f items has) in
    let start : ℕ = text_start + length t.start in
    let m = among code.symbols code.items code.places code.order placed.0 f start t.code placed.1 t.code_at in
    let behind : List ℕ = t.putchar ++ t.getchar ++ t.exit ++ t.check in
    let same : m.stands.place ≡ (site_of code f).places =
    sym (get_or_from_slice_get code.places f m.stands.place no_places m.stands.placed) in
    let are : m.stands.items ≡ items = same_Some m.stands.items items (sym m.stands.is ∙ has) in
    record {
      address = start + length m.before;
      named = m.stands.named;
      placed = m.stands.placed ∙ ap Some same;
      stands = record {
        bytes = m.mine;
        here = record {
          done = t.start ++ m.before;
          rest = m.after ++ behind;
          whole = t.whole
              ∙ ap (λ (l : List ℕ). t.start ++ l ++ t.putchar ++ t.getchar ++ t.exit ++ t.check) m.whole
              ∙ grouped t.start m.before m.mine m.after t.putchar t.getchar t.exit t.check;
          place = further text_start (length t.start) (length m.before) (length (t.start ++ m.before))
              (length-append t.start m.before);
        };
        stand = subst (λ (p : Places). ItemsAt code.symbols p (start + length m.before) items m.mine) same
            (subst (λ (is : List Item). ItemsAt code.symbols m.stands.place (start + length m.before) is m.mine) are
            m.stands.stands);
      };
    }
  where
    grouped : (a b c d e f g h : List ℕ)
        → a ++ (b ++ (c ++ d)) ++ e ++ f ++ g ++ h ≡ (a ++ b) ++ (c ++ (d ++ (e ++ f ++ g ++ h)))
    grouped a b c d e f g h = simp append_assoc refl

    further : (a b c n : ℕ) → n ≡ b + c → a + b + c ≡ a + n
    further a b c n e = omega (arith, e)

-- ---- the start

pub starts-stand : StartsStand
starts-stand code f is_code =
    let t : TextOf code = is_code.text in
    let here : IsAt code.text text_start t.start =
    record {
      done = [];
      rest = t.code ++ (t.putchar ++ t.getchar ++ t.exit ++ t.check);
      whole = t.whole ∙ grouped t.start t.code t.putchar t.getchar t.exit t.check;
      place = omega arith;
    } in
    let places : Places = (site_of code f).places in
    let m = items-split code.symbols places text_start (startup code) (ending code) t.start (t.start_at places) in
    let split : IsAt code.text text_start (m.0 ++ m.1) = subst (IsAt code.text text_start) m.2 here in
    record {
      stands = record { bytes = t.start; here = here; stand = t.start_at places };
      return_address = text_start + length m.0;
      returns = (m.0, m.1, places, m.3, m.4, (split.done, split.rest, split.whole, split.place), refl);
    }
  where
    grouped : (a b c d e f : List ℕ) → a ++ b ++ c ++ d ++ e ++ f ≡ a ++ (b ++ (c ++ d ++ e ++ f))
    grouped a b c d e f = simp append_assoc refl
