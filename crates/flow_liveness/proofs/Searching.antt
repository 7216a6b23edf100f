-- How a search goes on: from the uses, by one point passed, and by one point done with.
use Rattle.std.proofs.Common.{ℕ, zero, suc, ◌≡◌, ◌≢◌, ◌<◌, ◌≤◌, ◌+◌, ◌⊎◌, inl, inr, ◌↔◌, List, [], ◌∷◌, ◌++◌, length}
use Rattle.std.proofs.Common.{Option, Some, refl, sym, ap, subst, arith, length-append, get_or, ◌∙◌}
use Rattle.std.proofs.Math.ListN.{length-set}
use Rattle.std.specs.List.{slice_get, slice_set}
use Rattle.std.proofs.lemmas.Bool.{cases_eq}
use Rattle.std.proofs.lemmas.Option.{same_Some, slice_get_within}
use Rattle.pcc_base.proofs.Lists.{get-last, get-append}
use Rattle.flow_graph.specs.Graphs.{Flow, IsPlaced}
use Rattle.flow_graph.specs.Liveness.{IsLiveAfter, IsSuccessor, IsUsedAt, ReachesUse}
use Rattle.flow_liveness.specs.Index.{ArePredecessors}
use Rattle.flow_liveness.specs.Search.{AllEarlier, IsDone, IsPassed, IsSearch, IsStart, unmarked}
use Rattle.flow_liveness.specs.Lists.{Has, list_at}
use Rattle.flow_liveness.specs.SearchBack.{IsMarked, IsNext, Passes}
use Rattle.flow_liveness.proofs.Adding.{has-item, has-push, last-or-before}
use Rattle.flow_liveness.proofs.Marking.{all-unmarked, mark-decides, mark-here, mark-later, mark-stays, mark-there}
use Rattle.flow_liveness.proofs.Marking.{none-marked, unmarked-set}

-- a use is found at distance 0
zero-next : (flow : Flow) (v point n : ℕ) → n ≡ 0 → IsUsedAt flow v point → IsNext flow v point n
zero-next flow v point zero e used = used
zero-next flow v point (suc n) e used = absurd (cc)

-- a point that is found is in a block
pub next-placed : (flow : Flow) (v point n : ℕ) → IsNext flow v point n → IsPlaced flow point
next-placed flow v point zero used = used.0
next-placed flow v point (suc n) (free, (next, leads, reaches)) = leads.0

-- at first only the uses are found
pub search-start : (flow : Flow) (v : ℕ) (nexts : List (ℕ × ℕ)) (after : List ℕ) (used passed : List (Option ℕ))
    → IsStart v (λ p. IsUsedAt flow v p) nexts used → after ≡ [] → AllEarlier passed v
    → length used ≡ length flow.ops → length passed ≡ length flow.ops → IsSearch flow v 0 nexts after used passed
search-start flow v nexts after used passed s none all us ps =
    rw none (record {
      used_points = us;
      passed_points = ps;
      is_used = s.marked;
      is_passed = λ p. ((λ m. absurd (none-marked passed v all p m)), (λ (i, e). absurd (nothing i p e)));
      used_later = s.none_later;
      passed_later = λ p w m. let l = all p w m in omega arith;
      uses = s.found;
      sound = λ i p n e. let (z, u) = s.zero_each i p n e in zero-next flow v p n z u;
      further = λ i p n e. let (z, u) = s.zero_each i p (suc n) e in absurd (omega arith);
      live = λ p (i, e). absurd (nothing i p e);
      reached = λ p (i, e). absurd (nothing i p e);
      done = λ i p n l e. absurd (omega arith);
      in_order = λ i j e f l a b.
          let z = (s.zero_each i e.0 e.1 a).0 in let y = (s.zero_each j f.0 f.1 b).0 in omega arith;
      near = λ i e f a b. let y = (s.zero_each i f.0 f.1 b).0 in omega arith;
      nexts_once = s.once;
      after_once = λ i j p e f. absurd (nothing i p e);
      few_steps = λ i p n e. let z = (s.zero_each i p n e).0 in omega arith;
      counted = omega (arith, all-unmarked v passed (none-marked passed v all), ps);
    })
  where
    nothing : (i p : ℕ) → slice_get {X = ℕ} [] i ≡ Some p → ⊥
    nothing i p e = absurd (cc)

-- what is found and passed only grows
pub record Grows (nexts nexts' : List (ℕ × ℕ)) (after after' : List ℕ) : Type 0 where
  pub nexts_stay : (i : ℕ) (e : ℕ × ℕ) → slice_get nexts i ≡ Some e → slice_get nexts' i ≡ Some e
  pub after_stay : (p : ℕ) → Has after p → Has after' p

-- a point that was passed stays so
pub passed-stays : (nexts nexts' : List (ℕ × ℕ)) (after after' : List ℕ) → Grows nexts nexts' after after'
    → (level p : ℕ) → IsPassed nexts after level p → IsPassed nexts' after' level p
passed-stays nexts nexts' after after' g level p (has, n, l, (i, e)) =
    (g.after_stay p has, n, l, (i, g.nexts_stay i (p, n) e))

-- and one that was done with
done-stays : (flow : Flow) (v : ℕ) (nexts nexts' : List (ℕ × ℕ)) (after after' : List ℕ)
    → Grows nexts nexts' after after' → (p n : ℕ) → IsDone flow v nexts after p n → IsDone flow v nexts' after' p n
done-stays flow v nexts nexts' after after' g p n (inl d) = inl d
done-stays flow v nexts nexts' after after' g p n (inr f) =
    inr (λ q s. passed-stays nexts nexts' after after' g (suc n) q (f q s))

-- The search after a point was passed: it goes on, keeps what it has, and the point is passed.
pub record Onward (flow : Flow) (v head level point : ℕ) (nexts : List (ℕ × ℕ)) (after : List ℕ)
    (used passed : List (Option ℕ)) (nexts' : List (ℕ × ℕ)) (after' : List ℕ) (used' passed' : List (Option ℕ)) :
    Type 0 where
  pub search : IsSearch flow v head nexts' after' used' passed'
  pub grows : Grows nexts nexts' after after'
  pub here : IsPassed nexts' after' (suc level) point
  pub fewer : length nexts' + unmarked v passed' ≤ length nexts + unmarked v passed

-- passing a point that leads to the one at the head
module _ (flow : Flow) (v head level point at : ℕ) (nexts : List (ℕ × ℕ)) (after : List ℕ)
    (used passed : List (Option ℕ))
    (s : IsSearch flow v head nexts after used passed) (at_head : slice_get nexts head ≡ Some (at, level))
    (reaches : ReachesUse flow v level at) (leads : IsSuccessor flow point at) (within : point < length flow.ops) where
  marks : point < length passed
  marks = rw s.passed_points within

  -- what is found is no further than one step more
  near : (i p n : ℕ) → slice_get nexts i ≡ Some (p, n) → n ≤ suc level
  near i p n e = s.near i (at, level) (p, n) at_head e

  -- a point that was passed already
  again : IsMarked passed v point → Onward flow v head level point nexts after used passed nexts after used passed
  again m =
      let has = (s.is_passed point).0 m in
      let (n, (i, e)) = s.reached point has in
      record {
        search = s;
        grows = record { nexts_stay = λ i e h. h; after_stay = λ p h. h };
        here = (has, n, near i point n e, (i, e));
        fewer = omega arith;
      }

  module _ (not : IsMarked passed v point → ⊥) where
    -- the points passed, with this one
    now_passed : (p : ℕ) → IsMarked (slice_set passed point (Some v)) v p ↔ Has (after ++ point ∷ []) p
    now_passed p = (there, here)
      where
        there : IsMarked (slice_set passed point (Some v)) v p → Has (after ++ point ∷ []) p
        there m =
            elim (cases_eq p point) [
              | inl e ↦ (has-push after point p).1 (inr e)
              | inr d ↦ (has-push after point p).1 (inl ((s.is_passed p).0 (mark-there passed v point marks v p d m)))
            ]

        here : Has (after ++ point ∷ []) p → IsMarked (slice_set passed point (Some v)) v p
        here h =
            elim (cases_eq p point) [
              | inl e ↦ subst (λ (q : ℕ). IsMarked (slice_set passed point (Some v)) v q) (sym e)
                  (mark-here passed v point marks)
              | inr d ↦ mark-stays passed v point marks v p d ((s.is_passed p).1 (old d ((has-push after point p).0 h)))
            ]
          where
            old : p ≢ point → Has after p ⊎ (p ≡ point) → Has after p
            old d (inl h) = h
            old d (inr e) = absurd (d e)

    now_live : (p : ℕ) → Has (after ++ point ∷ []) p → IsLiveAfter flow v p
    now_live p h =
        elim ((has-push after point p).0 h) [
          | inl old ↦ s.live p old
          | inr e ↦ subst (IsLiveAfter flow v) (sym e) (at, leads, (level, reaches))
        ]

    now_once : (i j p : ℕ) → slice_get (after ++ point ∷ []) i ≡ Some p → slice_get (after ++ point ∷ []) j ≡ Some p
        → i ≡ j
    now_once i j p e f =
        elim (last-or-before after point i p e) [
          | inl old ↦ elim (last-or-before after point j p f) [
            | inl old' ↦ s.after_once i j p old old'
            | inr new' ↦ absurd (not ((s.is_passed point).1 (i, old ∙ ap Some (sym new'.1))))
          ]
          | inr new ↦ elim (last-or-before after point j p f) [
            | inl old' ↦ absurd (not ((s.is_passed point).1 (j, old' ∙ ap Some (sym new.1))))
            | inr new' ↦ new.0 ∙ sym new'.0
          ]
        ]

    one_more : length (after ++ point ∷ []) ≡ suc (length after)
    one_more = omega (arith, length-append after (point ∷ []))

    one_fewer : unmarked v passed ≡ suc (unmarked v (slice_set passed point (Some v)))
    one_fewer = unmarked-set v passed point marks not

    -- a use is found already
    at_use : IsMarked used v point
        → Onward flow v head level point nexts after used passed
        nexts (after ++ point ∷ []) used (slice_set passed point (Some v))
    at_use m =
        let grown : Grows nexts nexts after (after ++ point ∷ []) =
        record { nexts_stay = λ i e h. h; after_stay = λ p h. (has-push after point p).1 (inl h) } in
        record {
          search = record {
            used_points = s.used_points;
            passed_points = length-set passed point (Some v) ∙ s.passed_points;
            is_used = s.is_used;
            is_passed = now_passed;
            used_later = s.used_later;
            passed_later = mark-later passed v point marks s.passed_later;
            uses = s.uses;
            sound = s.sound;
            further = λ i p n e. grown.after_stay p (s.further i p n e);
            live = now_live;
            reached = λ p h. elim ((has-push after point p).0 h) [
              | inl old ↦ s.reached p old
              | inr e ↦ (0, s.uses p (subst (IsUsedAt flow v) (sym e) ((s.is_used point).0 m)))
            ];
            done = λ i p n l e. done-stays flow v nexts nexts after (after ++ point ∷ []) grown p n (s.done i p n l e);
            in_order = s.in_order;
            near = s.near;
            nexts_once = s.nexts_once;
            after_once = now_once;
            few_steps = λ i p n e. let few = s.few_steps i p n e in omega (arith, one_more);
            counted = let c = s.counted in omega (arith, one_more, one_fewer);
          };
          grows = grown;
          here = ((has-push after point point).1 (inr refl), 0, omega arith, s.uses point ((s.is_used point).0 m));
          fewer = omega (arith, one_fewer);
        }

    -- another point is found now
    at_other : (IsMarked used v point → ⊥)
        → Onward flow v head level point nexts after used passed
        (nexts ++ (point, suc level) ∷ []) (after ++ point ∷ []) used (slice_set passed point (Some v))
    at_other none =
        record {
          search = record {
            used_points = s.used_points;
            passed_points = length-set passed point (Some v) ∙ s.passed_points;
            is_used = s.is_used;
            is_passed = now_passed;
            used_later = s.used_later;
            passed_later = mark-later passed v point marks s.passed_later;
            uses = λ p u. let (i, e) = s.uses p u in (i, grown.nexts_stay i (p, 0) e);
            sound = sound;
            further = further;
            live = now_live;
            reached = reached;
            done = done;
            in_order = in_order;
            near = near_new;
            nexts_once = once;
            after_once = now_once;
            few_steps = few;
            counted = let c = s.counted in omega (arith, one_more, one_fewer);
          };
          grows = grown;
          here = (
            (has-push after point point).1 (inr refl),
            suc level,
            omega arith,
            (length nexts, get-last nexts (point, suc level)),
          );
          fewer = omega (arith, one_fewer, length-append nexts ((point, suc level) ∷ []));
        }
      where
        grown : Grows nexts (nexts ++ (point, suc level) ∷ []) after (after ++ point ∷ [])
        grown = record {
          nexts_stay = λ i e h. get-append nexts ((point, suc level) ∷ []) i e h;
          after_stay = λ p h. (has-push after point p).1 (inl h);
        }

        unused : IsUsedAt flow v point → ⊥
        unused u = none ((s.is_used point).1 u)

        the_point : (p n : ℕ) → ◌≡◌ {A = ℕ × ℕ} (point, suc level) (p, n) → p ≡ point
        the_point p n e = sym (ap (λ (x : ℕ × ℕ). x.0) e)

        the_steps : (p n : ℕ) → ◌≡◌ {A = ℕ × ℕ} (point, suc level) (p, n) → n ≡ suc level
        the_steps p n e = sym (ap (λ (x : ℕ × ℕ). x.1) e)

        sound : (i p n : ℕ) → slice_get (nexts ++ (point, suc level) ∷ []) i ≡ Some (p, n) → IsNext flow v p n
        sound i p n e =
            elim (last-or-before nexts (point, suc level) i (p, n) e) [
              | inl old ↦ s.sound i p n old
              | inr new ↦ subst (λ (x : ℕ × ℕ). IsNext flow v x.0 x.1) new.1 (unused, (at, leads, reaches))
            ]

        further : (i p n : ℕ) → slice_get (nexts ++ (point, suc level) ∷ []) i ≡ Some (p, suc n)
            → Has (after ++ point ∷ []) p
        further i p n e =
            elim (last-or-before nexts (point, suc level) i (p, suc n) e) [
              | inl old ↦ grown.after_stay p (s.further i p n old)
              | inr new ↦ (has-push after point p).1 (inr (the_point p (suc n) new.1))
            ]

        reached : (p : ℕ) → Has (after ++ point ∷ []) p → (n : ℕ) × Has (nexts ++ (point, suc level) ∷ []) (p, n)
        reached p h =
            elim ((has-push after point p).0 h) [
              | inl old ↦ let (n, (i, e)) = s.reached p old in (n, (i, grown.nexts_stay i (p, n) e))
              | inr e ↦ (
                suc level,
                (
                  length nexts,
                  get-last nexts (point, suc level) ∙ ap (λ (q : ℕ). Some (q, suc level)) (sym e),
                ),
              )
            ]

        behind : head < length nexts
        behind = slice_get_within nexts head (at, level) at_head

        early : (i : ℕ) (e : ℕ × ℕ) → i ≤ head → slice_get (nexts ++ (point, suc level) ∷ []) i ≡ Some e
            → slice_get nexts i ≡ Some e
        early i e l h =
            elim (last-or-before nexts (point, suc level) i e h) [
              | inl old ↦ old
              | inr new ↦ let same : i ≡ length nexts = new.0 in absurd (omega (arith, behind))
            ]

        done : (i p n : ℕ) → i < head → slice_get (nexts ++ (point, suc level) ∷ []) i ≡ Some (p, n)
            → IsDone flow v (nexts ++ (point, suc level) ∷ []) (after ++ point ∷ []) p n
        done i p n l e =
            done-stays flow v nexts (nexts ++ (point, suc level) ∷ []) after (after ++ point ∷ []) grown p n
            (s.done i p n l (early i (p, n) (omega arith) e))

        steps_of : (i : ℕ) (e : ℕ × ℕ) → slice_get (nexts ++ (point, suc level) ∷ []) i ≡ Some e → e.1 ≤ suc level
        steps_of i e h =
            elim (last-or-before nexts (point, suc level) i e h) [
              | inl old ↦ s.near i (at, level) e at_head old
              | inr new ↦ let same : suc level ≡ e.1 = ap (λ (x : ℕ × ℕ). x.1) new.1 in omega arith
            ]

        in_order : (i j : ℕ) (e f : ℕ × ℕ) → i ≤ j → slice_get (nexts ++ (point, suc level) ∷ []) i ≡ Some e
            → slice_get (nexts ++ (point, suc level) ∷ []) j ≡ Some f → e.1 ≤ f.1
        in_order i j e f l a b =
            elim (last-or-before nexts (point, suc level) j f b) [
              | inr new' ↦
                  let same : suc level ≡ f.1 = ap (λ (x : ℕ × ℕ). x.1) new'.1 in omega (arith, steps_of i e a)
              | inl old' ↦ elim (last-or-before nexts (point, suc level) i e a) [
                | inl old ↦ s.in_order i j e f l old old'
                | inr new ↦
                    let same : i ≡ length nexts = new.0 in absurd (omega (arith, slice_get_within nexts j f old'))
              ]
            ]

        near_new : (i : ℕ) (e f : ℕ × ℕ) → slice_get (nexts ++ (point, suc level) ∷ []) head ≡ Some e
            → slice_get (nexts ++ (point, suc level) ∷ []) i ≡ Some f → f.1 ≤ suc e.1
        near_new i e f a b =
            let same : ◌≡◌ {A = ℕ × ℕ} (at, level) e =
            same_Some (at, level) e (sym at_head ∙ early head e (omega arith) a) in
            let level_is : level ≡ e.1 = ap (λ (x : ℕ × ℕ). x.1) same in
            omega (arith, steps_of i f b)

        apart : (i n : ℕ) → slice_get nexts i ≡ Some (point, n) → ⊥
        apart i zero e = unused (s.sound i point zero e)
        apart i (suc n) e = not ((s.is_passed point).1 (s.further i point n e))

        once : (i j p n m : ℕ) → slice_get (nexts ++ (point, suc level) ∷ []) i ≡ Some (p, n)
            → slice_get (nexts ++ (point, suc level) ∷ []) j ≡ Some (p, m) → i ≡ j
        once i j p n m e f =
            elim (last-or-before nexts (point, suc level) i (p, n) e) [
              | inl old ↦ elim (last-or-before nexts (point, suc level) j (p, m) f) [
                | inl old' ↦ s.nexts_once i j p n m old old'
                | inr new' ↦ absurd (apart i n (old ∙ ap (λ (q : ℕ). Some (q, n)) (the_point p m new'.1)))
              ]
              | inr new ↦ elim (last-or-before nexts (point, suc level) j (p, m) f) [
                | inl old' ↦ absurd (apart j m (old' ∙ ap (λ (q : ℕ). Some (q, m)) (the_point p n new.1)))
                | inr new' ↦ new.0 ∙ sym new'.0
              ]
            ]

        few : (i p n : ℕ) → slice_get (nexts ++ (point, suc level) ∷ []) i ≡ Some (p, n)
            → n ≤ length (after ++ point ∷ [])
        few i p n e =
            elim (last-or-before nexts (point, suc level) i (p, n) e) [
              | inl old ↦ omega (arith, s.few_steps i p n old, one_more)
              | inr new ↦
                  let same : n ≡ suc level = the_steps p n new.1 in
                  omega (arith, s.few_steps head at level at_head, one_more)
            ]

  -- so the search goes on
  pub passes-on : (nexts' : List (ℕ × ℕ)) (after' : List ℕ) (used' passed' : List (Option ℕ))
      → Passes v point level nexts after used passed nexts' after' used' passed'
      → Onward flow v head level point nexts after used passed nexts' after' used' passed'
  passes-on nexts' after' used' passed' p =
      elim (mark-decides passed v point) [
        | inl m ↦ let (a, b, c) = p.before m in rw (p.same_uses, a, b, c) (again m)
        | inr n ↦ let (b, c) = p.now n in elim (mark-decides used v point) [
          | inl u ↦ rw (p.same_uses, p.at_use n u, b, c) (at_use n u)
          | inr none ↦ rw (p.same_uses, p.further n none, b, c) (at_other n none)
        ]
      ]

  -- a point not passed yet leaves room for one step more
  pub room : length flow.ops ≤ 0xffffffff → IsMarked passed v point ⊎ (level < 0xffffffff)
  room few =
      elim (mark-decides passed v point) [
        | inl m ↦ inl m
        | inr n ↦ inr (let c = s.counted in
            omega (arith, unmarked-set v passed point marks n, s.few_steps head at level at_head))
      ]

-- the point at the head is done with
pub search-done : (flow : Flow) (v head at level : ℕ) (nexts : List (ℕ × ℕ)) (after : List ℕ)
    (used passed : List (Option ℕ)) → IsSearch flow v head nexts after used passed
    → slice_get nexts head ≡ Some (at, level) → IsDone flow v nexts after at level
    → IsSearch flow v (head + 1) nexts after used passed
search-done flow v head at level nexts after used passed s at_head done = record {
  used_points = s.used_points;
  passed_points = s.passed_points;
  is_used = s.is_used;
  is_passed = s.is_passed;
  used_later = s.used_later;
  passed_later = s.passed_later;
  uses = s.uses;
  sound = s.sound;
  further = s.further;
  live = s.live;
  reached = s.reached;
  done = λ i p n l e. elim (cases_eq i head) [
    | inl same ↦
        let entry : ◌≡◌ {A = ℕ × ℕ} (at, level) (p, n) = same_Some (at, level) (p, n)
        (sym at_head ∙ subst (λ (j : ℕ). slice_get nexts j ≡ Some (p, n)) same e) in
        subst (λ (x : ℕ × ℕ). IsDone flow v nexts after x.0 x.1) entry done
    | inr d ↦ s.done i p n (omega arith) e
  ];
  in_order = s.in_order;
  near = λ i e f a b.
      let order = s.in_order head (head + 1) (at, level) e (omega arith) at_head a in
      let close = s.near i (at, level) f at_head b in omega arith;
  nexts_once = s.nexts_once;
  after_once = s.after_once;
  few_steps = s.few_steps;
  counted = s.counted;
}

-- a point among those noted of another leads to it
pub noted-leads : (flow : Flow) (predecessors : List (List ℕ)) (items : List ℕ) (to i : ℕ)
    → ArePredecessors flow predecessors → items ≡ list_at predecessors to → i < length items
    → IsSuccessor flow (get_or items i 0) to
noted-leads flow predecessors items to i are same h =
    (are.leads (get_or items i 0) to).0
    (i, subst (λ (xs : List ℕ). slice_get xs i ≡ Some (get_or items i 0)) same (has-item items i 0 h))
