-- Numbers filed by class: what is listed, and what a number leaves that comes in or goes out.
use Rattle.std.proofs.Common.{ℕ, zero, suc, ◌≡◌, ◌≢◌, ◌⊎◌, ◌<◌, ◌≤◌, ◌+◌, List, [], ◌∷◌, ◌++◌, length, set}
use Rattle.std.proofs.Common.{Option, Some, None, inl, inr, true, false, cond, refl, sym, ap, subst, arith, ◌∙◌}
use Rattle.std.proofs.Common.{Bool, length-set}
use Rattle.std.proofs.lemmas.List.{length_push}
use Rattle.std.specs.List.{slice_get}
use Rattle.std.proofs.lemmas.Option.{slice_get_within, slice_get-get_or, same_Some, none-some}
use Rattle.std.proofs.lemmas.Bool.Decides.{nat_tests, eqb_tells}
use Rattle.index_lists.specs.Lists.{Lists, IsAbsent, IsOnce, IsListed, StandsIn, nodes_of, with_list}
use Rattle.index_lists.proofs.Links.{get-other, get-same}
use Rattle.puzzle_board.specs.Classes.{class_at, class_count, is_class, IsAmong, IsFiled, IsRefiled}

-- ---- numbers of a list

-- a number that is one of these, with what is before it and after it
pub among-parted :
    (xs : List ℕ) (number : ℕ) → IsAmong xs number
    → (before : List ℕ) × (after : List ℕ) × (xs ≡ before ++ number ∷ after)
among-parted [] number h = absurd h
among-parted (x ∷ xs) number (inl e) = ([], xs, ap (λ (y : ℕ). y ∷ xs) (sym e))
among-parted (x ∷ xs) number (inr h) =
    let r = among-parted xs number h in
    (x ∷ r.0, r.1, ap (λ (ys : List ℕ). x ∷ ys) r.2)

among-middle : (before : List ℕ) (number : ℕ) (after : List ℕ) → IsAmong (before ++ number ∷ after) number
among-middle [] number after = inl refl
among-middle (x ∷ before) number after = inr (among-middle before number after)

-- another number stays where one goes out
among-without :
    (before : List ℕ) (number other : ℕ) (after : List ℕ) → other ≢ number
    → IsAmong (before ++ number ∷ after) other → IsAmong (before ++ after) other
among-without [] number other after n (inl e) = absurd (n e)
among-without [] number other after n (inr h) = h
among-without (x ∷ before) number other after n (inl e) = inl e
among-without (x ∷ before) number other after n (inr h) = inr (among-without before number other after n h)

-- what is there without a number is there with it
among-with :
    (before : List ℕ) (number other : ℕ) (after : List ℕ) → IsAmong (before ++ after) other
    → IsAmong (before ++ number ∷ after) other
among-with [] number other after h = inr h
among-with (x ∷ before) number other after (inl e) = inl e
among-with (x ∷ before) number other after (inr h) = inr (among-with before number other after h)

absent-among : (xs : List ℕ) (number other : ℕ) → IsAbsent number xs → IsAmong xs other → other ≢ number
absent-among [] number other n h e = absurd h
absent-among (x ∷ xs) number other n (inl h) e = n.0 (sym h ∙ e)
absent-among (x ∷ xs) number other n (inr h) e = absent-among xs number other n.1 h e

-- a number that stood once is gone
among-once :
    (before : List ℕ) (number other : ℕ) (after : List ℕ) → IsOnce (before ++ number ∷ after)
    → IsAmong (before ++ after) other → other ≢ number
among-once [] number other after o h = absent-among after number other o.0 h
among-once (x ∷ before) number other after o (inl h) = λ e.
    absent-among (before ++ number ∷ after) x number o.0 (among-middle before number after) (sym e ∙ h)
among-once (x ∷ before) number other after o (inr h) = among-once before number other after o.1 h

among-last : (xs : List ℕ) (number : ℕ) → IsAmong (xs ++ number ∷ []) number
among-last xs number = among-middle xs number []

among-longer : (xs : List ℕ) (number other : ℕ) → IsAmong xs other → IsAmong (xs ++ number ∷ []) other
among-longer (x ∷ xs) number other (inl e) = inl e
among-longer (x ∷ xs) number other (inr h) = inr (among-longer xs number other h)
among-longer [] number other h = absurd h

among-shorter :
    (xs : List ℕ) (number other : ℕ) → IsAmong (xs ++ number ∷ []) other → (other ≡ number) ⊎ IsAmong xs other
among-shorter [] number other (inl e) = inl e
among-shorter [] number other (inr h) = absurd h
among-shorter (x ∷ xs) number other (inl e) = inr (inl e)
among-shorter (x ∷ xs) number other (inr h) =
    elim (among-shorter xs number other h) [ inl e ↦ inl e | inr r ↦ inr (inr r) ]

-- ---- tests

pub same-class : (class : ℕ) → is_class (Some class) class ≡ true
same-class class = grind (arith, nat_tests)

other-class : (class other : ℕ) → class ≢ other → is_class (Some class) other ≡ false
other-class class other n = grind (arith, nat_tests, n)

-- ---- classes

set-others :
    (classes : List (Option ℕ)) (number other : ℕ) (class : Option ℕ) → other ≢ number
    → class_at (set classes number class) other ≡ class_at classes other
set-others [] number other class n = refl
set-others (c ∷ classes) zero zero class n = absurd (n refl)
set-others (c ∷ classes) zero (suc other) class n = refl
set-others (c ∷ classes) (suc number) zero class n = refl
set-others (c ∷ classes) (suc number) (suc other) class n =
    set-others classes number other class (λ e. n (ap suc e))

more-others :
    (classes : List (Option ℕ)) (class : Option ℕ) (other : ℕ) → other ≢ length classes
    → class_at (classes ++ class ∷ []) other ≡ class_at classes other
more-others [] class zero n = absurd (n refl)
more-others [] class (suc other) n = refl
more-others (c ∷ classes) class zero n = refl
more-others (c ∷ classes) class (suc other) n = more-others classes class other (λ e. n (ap suc e))

-- ---- what is listed

-- a number with a class is listed
pub filed-listed :
    (s : Lists) (many : ℕ) (classes : List (Option ℕ)) (number class : ℕ) → IsFiled s many classes
    → class_at classes number ≡ Some class → IsListed s number
filed-listed s many classes number class f e =
    let l = f.listed number class e in
    let r = among-parted l.0 number l.2 in
    (class, r.0, r.1, l.1 ∙ ap Some r.2)

-- a number without a class is not
pub filed-unlisted :
    (s : Lists) (many : ℕ) (classes : List (Option ℕ)) (number : ℕ) → IsFiled s many classes
    → class_at classes number ≡ None → IsListed s number → ⊥
filed-unlisted s many classes number f e (class, before, after, stands) =
    let there = f.only number class (before ++ number ∷ after) stands (among-middle before number after) in
    absurd (cc)

-- a number that isn't listed has no class
pub unlisted-none :
    (s : Lists) (many : ℕ) (classes : List (Option ℕ)) (number : ℕ) → IsFiled s many classes
    → (IsListed s number → ⊥) → class_at classes number ≡ None
unlisted-none s many classes number f out =
    let chosen : (c : Option ℕ) → class_at classes number ≡ c → class_at classes number ≡ None = λ c.
    elim c as (λ c. class_at classes number ≡ c → class_at classes number ≡ None) [
      | None ↦ λ e. e
      | Some class ↦ λ e. absurd (out (filed-listed s many classes number class f e))
    ] in
    chosen (class_at classes number) refl

-- ---- a number that goes out

-- the list is shorter by one
shorter :
    (before : List ℕ) (number : ℕ) (after : List ℕ)
    → length (before ++ after) + 1 ≡ length (before ++ number ∷ after)
shorter [] number after = omega arith
shorter (x ∷ before) number after = omega (arith, shorter before number after)

one-or-none : (b : Bool) → b ≡ false → ◌≡◌ {A = ℕ} (cond b 1 0) 0
one-or-none b e = ap {B = ℕ} (λ c. cond c 1 0) e

one-or-one : (b : Bool) → b ≡ true → ◌≡◌ {A = ℕ} (cond b 1 0) 1
one-or-one b e = ap {B = ℕ} (λ c. cond c 1 0) e

-- the counts where the class of a number changes, by whether the class is the one counted
count-gone :
    (old new : List (Option ℕ)) (number class : ℕ) → IsRefiled old new number None
    → class_at old number ≡ Some class → class_count new class + 1 ≡ class_count old class
count-gone old new number class r e =
    let here = one-or-one _ (ap (λ (c : Option ℕ). is_class c class) e ∙ same-class class) in
    let counts = r.counts class in
    omega (arith, here, counts)

count-stays :
    (old new : List (Option ℕ)) (number class other : ℕ) → IsRefiled old new number None
    → class_at old number ≡ Some class → class ≢ other → class_count new other ≡ class_count old other
count-stays old new number class other r e n =
    let here = one-or-none _ (ap (λ (c : Option ℕ). is_class c other) e ∙ other-class class other n) in
    let counts = r.counts other in
    omega (arith, here, counts)

count-come :
    (old new : List (Option ℕ)) (number class : ℕ) → IsRefiled old new number (Some class)
    → class_at old number ≡ None → class_count new class ≡ class_count old class + 1
count-come old new number class r e =
    let none = one-or-none _ (ap (λ (c : Option ℕ). is_class c class) e) in
    let here = one-or-one _ (same-class class) in
    let counts = r.counts class in
    omega (arith, none, here, counts)

count-same :
    (old new : List (Option ℕ)) (number class other : ℕ) → IsRefiled old new number (Some class)
    → class_at old number ≡ None → class ≢ other → class_count new other ≡ class_count old other
count-same old new number class other r e n =
    let none = one-or-none _ (ap (λ (c : Option ℕ). is_class c other) e) in
    let here = one-or-none _ (other-class class other n) in
    let counts = r.counts other in
    omega (arith, none, here, counts)

-- the lists once a number went out of its own
pub filed-out :
    (s : Lists) (many : ℕ) (old new : List (Option ℕ)) (number l : ℕ) (before after : List ℕ)
    → IsFiled s many old → IsOnce (before ++ number ∷ after) → StandsIn s l before number after
    → IsRefiled old new number None → length new ≤ s.nodes → IsFiled (with_list s l (before ++ after)) many new
filed-out s many old new number l before after f once stands r room =
    let whole : List ℕ = before ++ number ∷ after in
    let within = slice_get_within s.lists l whole stands in
    let was : class_at old number ≡ Some l = f.only number l whole stands (among-middle before number after) in
    record {
      as_many = length-set s.lists l (before ++ after) ∙ f.as_many;
      room = room;
      listed = λ i k e.
          let n : i ≢ number = λ q. none-some k (sym r.here ∙ (ap (class_at new) (sym q) ∙ e)) in
          let there = f.listed i k (sym (r.others i n) ∙ e) in
          elim (eqb_tells l k) [
            | inl p ↦
                let same : there.0 ≡ whole =
                same_Some there.0 whole (sym there.1 ∙ (ap (slice_get s.lists) (sym p.1) ∙ stands)) in
                let among : IsAmong whole i = subst (λ (xs : List ℕ). IsAmong xs i) same there.2 in (
                  before ++ after,
                  ap (slice_get (set s.lists l (before ++ after))) (sym p.1)
                      ∙ get-same s.lists l (before ++ after) within,
                  among-without before number i after n among,
                )
            | inr p ↦
                (there.0, get-other s.lists l k (before ++ after) (λ q. p.1 (sym q)) ∙ there.1, there.2)
          ];
      only = λ i k xs e h.
          elim (eqb_tells l k) [
            | inl p ↦
                let same : xs ≡ before ++ after =
                same_Some xs (before ++ after) (sym e ∙ (ap (slice_get (set s.lists l (before ++ after))) (sym p.1)
                ∙ get-same s.lists l (before ++ after) within)) in
                let among : IsAmong (before ++ after) i = subst (λ (ys : List ℕ). IsAmong ys i) same h in
                let n : i ≢ number = among-once before number i after once among in
                r.others i n ∙ (f.only i l whole stands (among-with before number i after among) ∙ ap Some p.1)
            | inr p ↦
                let there = sym (get-other s.lists l k (before ++ after) (λ q. p.1 (sym q))) ∙ e in
                let is = f.only i k xs there h in
                let n : i ≢ number = λ q.
                p.1 (same_Some l k (sym was ∙ (ap (class_at old) (sym q) ∙ is))) in
                r.others i n ∙ is
          ];
      counted = λ k xs e.
          elim (eqb_tells l k) [
            | inl p ↦
                let same : xs ≡ before ++ after =
                same_Some xs (before ++ after) (sym e ∙ (ap (slice_get (set s.lists l (before ++ after))) (sym p.1)
                ∙ get-same s.lists l (before ++ after) within)) in
                let long = ap length same in
                let one = shorter before number after in
                let all = f.counted l whole stands in
                let gone = count-gone old new number l r was in
                subst (λ (m : ℕ). length xs ≡ class_count new m) p.1 (omega (arith, long, one, all, gone))
            | inr p ↦
                let there = sym (get-other s.lists l k (before ++ after) (λ q. p.1 (sym q))) ∙ e in
                f.counted k xs there ∙ sym (count-stays old new number l k r was p.1)
          ];
    }

-- ---- a number that comes in

-- the lists once a number came last into one
pub filed-in :
    (s : Lists) (many : ℕ) (old new : List (Option ℕ)) (number l : ℕ)
    → IsFiled s many old → l < length s.lists → (IsListed s number → ⊥) → IsRefiled old new number (Some l)
    → length new ≤ s.nodes → IsFiled (with_list s l (nodes_of s l ++ number ∷ [])) many new
filed-in s many old new number l f within out r room =
    let here : List ℕ = nodes_of s l in
    let more : List ℕ = here ++ number ∷ [] in
    let got : slice_get s.lists l ≡ Some here = slice_get-get_or s.lists l [] within in
    let was : class_at old number ≡ None = unlisted-none s many old number f out in
    record {
      as_many = length-set s.lists l more ∙ f.as_many;
      room = room;
      listed = λ i k e.
          elim (eqb_tells i number) [
            | inl q ↦
                let same : l ≡ k = same_Some l k (sym r.here ∙ (ap (class_at new) (sym q.1) ∙ e)) in (
                  more,
                  ap (slice_get (set s.lists l more)) (sym same) ∙ get-same s.lists l more within,
                  subst (IsAmong more) (sym q.1) (among-last here number),
                )
            | inr q ↦
                let there = f.listed i k (sym (r.others i q.1) ∙ e) in
                elim (eqb_tells l k) [
                  | inl p ↦
                      let same : there.0 ≡ here =
                      same_Some there.0 here (sym there.1 ∙ (ap (slice_get s.lists) (sym p.1) ∙ got)) in
                      let among : IsAmong here i = subst (λ (xs : List ℕ). IsAmong xs i) same there.2 in (
                        more,
                        ap (slice_get (set s.lists l more)) (sym p.1) ∙ get-same s.lists l more within,
                        among-longer here number i among,
                      )
                  | inr p ↦ (there.0, get-other s.lists l k more (λ q. p.1 (sym q)) ∙ there.1, there.2)
                ]
          ];
      only = λ i k xs e h.
          elim (eqb_tells l k) [
            | inl p ↦
                let same : xs ≡ more =
                same_Some xs more (sym e ∙ (ap (slice_get (set s.lists l more)) (sym p.1)
                ∙ get-same s.lists l more within)) in
                let among : IsAmong more i = subst (λ (ys : List ℕ). IsAmong ys i) same h in
                elim (among-shorter here number i among) [
                  | inl q ↦ ap (class_at new) q ∙ (r.here ∙ ap Some p.1)
                  | inr q ↦
                      let is = f.only i l here got q in
                      let n : i ≢ number = λ z. none-some l (sym was ∙ (ap (class_at old) (sym z) ∙ is)) in
                      r.others i n ∙ (is ∙ ap Some p.1)
                ]
            | inr p ↦
                let there = sym (get-other s.lists l k more (λ q. p.1 (sym q))) ∙ e in
                let is = f.only i k xs there h in
                let n : i ≢ number = λ z. none-some k (sym was ∙ (ap (class_at old) (sym z) ∙ is)) in
                r.others i n ∙ is
          ];
      counted = λ k xs e.
          elim (eqb_tells l k) [
            | inl p ↦
                let same : xs ≡ more =
                same_Some xs more (sym e ∙ (ap (slice_get (set s.lists l more)) (sym p.1)
                ∙ get-same s.lists l more within)) in
                let long = ap length same in
                let one = length_push here number in
                let all = f.counted l here got in
                let come = count-come old new number l r was in
                subst (λ (m : ℕ). length xs ≡ class_count new m) p.1 (omega (arith, long, one, all, come))
            | inr p ↦
                let there = sym (get-other s.lists l k more (λ q. p.1 (sym q))) ∙ e in
                f.counted k xs there ∙ sym (count-same old new number l k r was p.1)
          ];
    }

-- ---- classes of which one is set

-- a class of these is set
pub refiled-set :
    (classes : List (Option ℕ)) (number : ℕ) (class : Option ℕ) → number < length classes
    → IsRefiled classes (set classes number class) number class
refiled-set [] number class within = absurd (omega arith)
refiled-set (c ∷ classes) zero class within = record {
  here = refl;
  others = λ other n. set-others (c ∷ classes) zero other class n;
  counts = λ k. omega arith;
}
refiled-set (c ∷ classes) (suc number) class within =
    let r = refiled-set classes number class (omega arith) in
    record {
      here = r.here;
      others = λ other n. set-others (c ∷ classes) (suc number) other class n;
      counts = λ k. let step = r.counts k in omega (arith, step);
    }

-- one more number has a class
pub refiled-more :
    (classes : List (Option ℕ)) (class : Option ℕ) → IsRefiled classes (classes ++ class ∷ []) (length classes) class
refiled-more [] class = record {
  here = refl;
  others = λ other n. more-others [] class other n;
  counts = λ k. omega arith;
}
refiled-more (c ∷ classes) class =
    let r = refiled-more classes class in
    record {
      here = r.here;
      others = λ other n. more-others (c ∷ classes) class other n;
      counts = λ k. let step = r.counts k in omega (arith, step);
    }
