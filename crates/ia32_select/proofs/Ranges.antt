-- Stretches of all instructions of a table.
use Rattle.std.proofs.Common.{◌≡◌, ◌≤◌, ◌-◌, ℕ, zero, suc, List, [], ◌∷◌, ◌++◌, Option, Some, None, length, map}
use Rattle.std.proofs.Common.{refl, sym, ap, subst, ◌∙◌, arith, length-append, replicate, take, drop, append-nil}
use Rattle.std.specs.Prelude.{option_map, slice_get, slice_range, slice_set}
use Rattle.std.specs.List.{AllByRecursion}
use Rattle.std.proofs.Math.Seq.{drop-append_seam, take-append_seam}
use Rattle.std.proofs.lemmas.List.{drop-append-le, length-drop, map-set, take-append-le}
use Rattle.std.proofs.lemmas.Option.{slice_get-map}
use Rattle.pcc_base.proofs.Lists.{all-weaker}
use Rattle.ia32_insn.specs.declared.insn.Insn.{Insn}
use Rattle.ia32_select.specs.declared.stretch.Stretch.{Stretch}
use Rattle.ia32_select.specs.MoveTables.{AreWithin, IsWithin, Way, Ways, between_in, on_way, way_in, ways_in}

-- what holds of one holds of as many
pub all-replicate : {X : Type 0} (P : X → Type 0) (n : ℕ) (x : X) → P x → AllByRecursion P (replicate n x)
all-replicate P zero x p = tt
all-replicate P (suc n) x p = (p, all-replicate P n x p)

-- what holds of each holds where one is set for which it holds
all-set : {X : Type 0} (P : X → Type 0) (xs : List X) (i : ℕ) (x : X) → AllByRecursion P xs → P x
    → AllByRecursion P (slice_set xs i x)
all-set P [] i x h p = tt
all-set P (y ∷ ys) zero x h p = (p, h.1)
all-set P (y ∷ ys) (suc i) x h p = (h.0, all-set P ys i x h.1 p)

within-more : (a m : List Insn) (s : Stretch) → IsWithin a s → IsWithin (a ++ m) s
within-more a m s h = let long = length-append a m in (h.0, omega (arith, h.1, long))

-- stretches stay within more instructions
pub are-within : (a b m : List Insn) (ways : List (Stretch × Stretch)) → b ≡ a ++ m
    → AllByRecursion (AreWithin a) ways → AllByRecursion (AreWithin b) ways
are-within a b m ways e h =
    subst (λ (l : List Insn). AllByRecursion (AreWithin l) ways) (sym e)
    (all-weaker (AreWithin a) (AreWithin (a ++ m)) ways
    (λ w k. (within-more a m w.0 k.0, within-more a m w.1 k.1)) h)

-- and they have the same instructions there
range-more : (a m : List Insn) (start end : ℕ) → start ≤ end → end ≤ length a
    → slice_range (a ++ m) start end ≡ slice_range a start end
range-more a m start end low high =
    let long = length-drop start a in
    ap (take (end - start)) (drop-append-le start a m (omega (arith, low, high)))
    ∙ take-append-le (end - start) (drop start a) m (omega (arith, low, high, long))

-- the last instructions are a stretch
range-last : (a m : List Insn) (start end : ℕ) → start ≡ length a → end ≡ length (a ++ m)
    → slice_range (a ++ m) start end ≡ m
range-last a m start end e f =
    let count : end - start ≡ length m = omega (arith, e, f, length-append a m) in
    ap (λ (n : ℕ). take (end - n) (drop n (a ++ m))) e
    ∙ (ap (take (end - length a)) (drop-append_seam a m)
    ∙ (ap (λ (n : ℕ). take n m) (ap (λ (n : ℕ). end - n) (sym e) ∙ count)
    ∙ (ap (take (length m)) (sym (append-nil m)) ∙ take-append_seam m [])))

way-more : (a m : List Insn) (s : Stretch) → IsWithin a s → way_in (a ++ m) s ≡ way_in a s
way-more a m s h = ap (λ (l : List Insn). (s.to, l)) (range-more a m s.start s.end h.0 h.1)

ways-more : (a m : List Insn) (ways : List (Stretch × Stretch)) → AllByRecursion (AreWithin a) ways
    → map (ways_in (a ++ m)) ways ≡ map (ways_in a) ways
ways-more a m [] h = refl
ways-more a m (w ∷ ways) h =
    let first = way-more a m w.0 h.0.0 in
    let second = way-more a m w.1 h.0.1 in
    let here : ways_in (a ++ m) w ≡ ways_in a w =
    ap (λ (x : Way). (x, way_in (a ++ m) w.1)) first ∙ ap (λ (x : Way). (way_in a w.0, x)) second in
    ap (λ (x : Ways). x ∷ map (ways_in (a ++ m)) ways) here
    ∙ ap (λ (l : List Ways). ways_in a w ∷ l) (ways-more a m ways h.1)

-- the last instructions are on the way of their stretch
pub is-last : (a b m : List Insn) (s : Stretch) (to : Option ℕ) → b ≡ a ++ m → s.to ≡ to → s.start ≡ length a
    → s.end ≡ length b → (way_in b s ≡ (to, m)) × IsWithin b s
is-last a b m s to e f g h =
    let more : length b ≡ length (a ++ m) = ap (λ (l : List Insn). length l) e in
    let long = length-append a m in
    let there : slice_range b s.start s.end ≡ m =
    ap (λ (l : List Insn). slice_range l s.start s.end) e ∙ range-last a m s.start s.end g (h ∙ more) in (
      ap (λ (t : Option ℕ). (t, slice_range b s.start s.end)) f ∙ ap (λ (l : List Insn). (to, l)) there,
      (omega (arith, g, h, more, long), omega (arith, h)),
    )

-- two stretches more, and the ways of a point
pub record IsSetWay (a b c : List Insn) (ways : List (Stretch × Stretch)) (point : ℕ) (one two : Stretch) (first : Way)
    (second : Way) : Type 0 where
  pub table : map (ways_in c) (slice_set ways point (one, two)) ≡ slice_set (map (ways_in a) ways) point (first, second)
  pub within : AllByRecursion (AreWithin c) (slice_set ways point (one, two))

pub set-way : (a b c m n : List Insn) (ways : List (Stretch × Stretch)) (point : ℕ) (one two : Stretch)
    (first second : Option ℕ) → AllByRecursion (AreWithin a) ways → b ≡ a ++ m → one.to ≡ first → one.start ≡ length a
    → one.end ≡ length b → c ≡ b ++ n → two.to ≡ second → two.start ≡ length b → two.end ≡ length c
    → IsSetWay a b c ways point one two (first, m) (second, n)
set-way a b c m n ways point one two first second h e f g i j k l o =
    let here = is-last a b m one first e f g i in
    let there = is-last b c n two second j k l o in
    let mid : AllByRecursion (AreWithin b) ways = are-within a b m ways e h in
    let all : AllByRecursion (AreWithin c) ways = are-within b c n ways j mid in
    let one-more : way_in c one ≡ way_in b one =
    ap (λ (x : List Insn). way_in x one) j ∙ way-more b n one here.1 in
    let pair : ways_in c (one, two) ≡ ((first, m), (second, n)) =
    ap (λ (x : Way). (x, way_in c two)) (one-more ∙ here.0) ∙ ap (λ (x : Way). ((first, m), x)) there.0 in
    let same : map (ways_in c) ways ≡ map (ways_in a) ways =
    ap (λ (x : List Insn). map (ways_in x) ways) j ∙ (ways-more b n ways mid
    ∙ (ap (λ (x : List Insn). map (ways_in x) ways) e ∙ ways-more a m ways h)) in
    let long = length-append b n in
    let more : length c ≡ length (b ++ n) = ap (λ (x : List Insn). length x) j in
    record {
      table = map-set (ways_in c) ways point (one, two)
          ∙ (ap (λ (x : Ways). slice_set (map (ways_in c) ways) point x) pair
          ∙ ap (λ (x : List Ways). slice_set x point ((first, m), (second, n))) same);
      within = all-set (AreWithin c) ways point (one, two) all
          ((here.1.0, omega (arith, here.1.1, long, more)), there.1);
    }

-- ---- what a table has

-- between two points it has what the ways of the first have
pub between-there : (insns : List Insn) (ways : List (Stretch × Stretch)) (point next : ℕ) (w : Stretch × Stretch)
    (o : Option (Stretch × Stretch)) → o ≡ slice_get ways point → o ≡ Some w
    → on_way (Some (ways_in insns w)) next ≡ between_in (map (ways_in insns) ways) point next
between-there insns ways point next w o e f =
    ap (λ (x : Option Ways). on_way x next)
    (sym (slice_get-map (ways_in insns) ways point ∙ ap (option_map (ways_in insns)) (sym e ∙ f)))

-- and nothing from a point that isn't there
pub between-nowhere : (insns : List Insn) (ways : List (Stretch × Stretch)) (point next : ℕ)
    (o : Option (Stretch × Stretch)) → o ≡ slice_get ways point → o ≡ None
    → on_way None next ≡ between_in (map (ways_in insns) ways) point next
between-nowhere insns ways point next o e f =
    ap (λ (x : Option Ways). on_way x next)
    (sym (slice_get-map (ways_in insns) ways point ∙ ap (option_map (ways_in insns)) (sym e ∙ f)))
