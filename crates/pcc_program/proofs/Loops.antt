-- What one turn of each loop adds.
use Rattle.std.proofs.Common.{◌≡◌, ◌<◌, ◌≤◌, ◌+◌, ◌^◌, ℕ, zero, suc, List, [], ◌∷◌, ◌++◌, map, take, Some, sym, ap}
use Rattle.std.proofs.Common.{arith, ◌∙◌, subst}
use Rattle.std.specs.Prelude.{slice_get, sum_by}
use Rattle.std.proofs.lemmas.List.Sums.{get_or-le-sum_by}
use Rattle.std.proofs.lemmas.Option.{get_or_from_slice_get, none-some, same_Some, slice_get_within}
use Rattle.flow_graph.specs.Graphs.{Flow}
use Rattle.ia32_asm.specs.declared.section.Section.{Section}
use Rattle.ia32_select.specs.Sizes.{most_bytes}
use Rattle.map_lines.specs.declared.home.Home.{Home}
use Rattle.map_lines.specs.Printing.{graph_of}
use Rattle.pcc_program.specs.Passes.{AreSectionsFrom, IsSectionOf}

homes-suc : (flows : List Flow) (homes : List Home) (k : ℕ) (flow : Flow) (home : Home)
    → map graph_of homes ≡ take k flows → slice_get flows k ≡ Some flow → graph_of home ≡ flow
    → map graph_of (homes ++ home ∷ []) ≡ take (suc k) flows
homes-suc [] homes k flow home h e is = absurd (none-some flow e)
homes-suc (x ∷ flows) [] zero flow home h e is =
    ap (λ (g : Flow). g ∷ []) (is ∙ sym (same_Some x flow e))
homes-suc (x ∷ flows) (y ∷ homes) zero flow home h e is = absurd (cc)
homes-suc (x ∷ flows) [] (suc k) flow home h e is = absurd (cc)
homes-suc (x ∷ flows) (y ∷ homes) (suc k) flow home h e is =
    ap (λ (g : Flow). g ∷ map graph_of (homes ++ home ∷ [])) (heads (graph_of y) x (map graph_of homes) (take k flows) h)
    ∙ ap (λ (gs : List Flow). x ∷ gs)
    (homes-suc flows homes k flow home (tails (graph_of y) x (map graph_of homes) (take k flows) h) e is)
  where
    heads : (a b : Flow) (xs ys : List Flow) → a ∷ xs ≡ b ∷ ys → a ≡ b
    heads a b xs ys same = cc

    tails : (a b : Flow) (xs ys : List Flow) → a ∷ xs ≡ b ∷ ys → xs ≡ ys
    tails a b xs ys same = cc

-- one more graph has its home
pub homes-more : (flows : List Flow) (homes : List Home) (k : ℕ) (flow : Flow) (home : Home)
    → map graph_of homes ≡ take k flows → slice_get flows k ≡ Some flow → graph_of home ≡ flow
    → map graph_of (homes ++ home ∷ []) ≡ take (k + 1) flows
homes-more flows homes k flow home h e is =
    let one : suc k ≡ k + 1 = omega arith in
    homes-suc flows homes k flow home h e is ∙ ap (λ (n : ℕ). take n flows) one

sections-suc : (a : ℕ) (homes : List Home) (sections : List Section) (k : ℕ) (home : Home) (s : Section)
    → AreSectionsFrom a (take k homes) sections → slice_get homes k ≡ Some home → IsSectionOf home (a + k) s
    → AreSectionsFrom a (take (suc k) homes) (sections ++ s ∷ [])
sections-suc a [] sections k home s h e is = absurd (none-some home e)
sections-suc a (x ∷ homes) [] zero home s h e is =
    let plain : a + 0 ≡ a = omega arith in (
      subst (λ (y : Home). IsSectionOf y a s) (sym (same_Some x home e))
          (subst (λ (n : ℕ). IsSectionOf home n s) plain is),
      tt,
    )
sections-suc a (x ∷ homes) (y ∷ sections) zero home s h e is = absurd h
sections-suc a (x ∷ homes) [] (suc k) home s h e is = absurd h
sections-suc a (x ∷ homes) (y ∷ sections) (suc k) home s h e is =
    let sum : a + suc k ≡ a + 1 + k = omega arith in
    (h.0, sections-suc (a + 1) homes sections k home s h.1 e (subst (λ (n : ℕ). IsSectionOf home n s) sum is))

-- one more function has its section
pub sections-more : (homes : List Home) (sections : List Section) (k : ℕ) (home : Home) (s : Section)
    → AreSectionsFrom 0 (take k homes) sections → slice_get homes k ≡ Some home → IsSectionOf home k s
    → AreSectionsFrom 0 (take (k + 1) homes) (sections ++ s ∷ [])
sections-more homes sections k home s h e is =
    let one : suc k ≡ k + 1 = omega arith in
    let plain : k ≡ 0 + k = omega arith in
    subst (λ (n : ℕ). AreSectionsFrom 0 (take n homes) (sections ++ s ∷ [])) one
    (sections-suc 0 homes sections k home s h e (subst (λ (n : ℕ). IsSectionOf home n s) plain is))

-- one of them has no more bytes than all
pub one-small : (flows : List Flow) (k : ℕ) (flow : Flow) → slice_get flows k ≡ Some flow
    → sum_by most_bytes flows < 2 ^ 30 → most_bytes flow < 2 ^ 30
one-small flows k flow e small =
    let one : most_bytes flow ≤ sum_by most_bytes flows =
    subst (λ (g : Flow). most_bytes g ≤ sum_by most_bytes flows) (get_or_from_slice_get flows k flow flow e)
    (get_or-le-sum_by most_bytes flows k flow (slice_get_within flows k flow e)) in
    below (most_bytes flow) (sum_by most_bytes flows) one small
  where
    below : (m n : ℕ) → m ≤ n → n < 2 ^ 30 → m < 2 ^ 30
    below m n h less = omega arith
