-- A graph that is built line by line is that of the lines so far, and each line can follow.
use Rattle.std.proofs.Common.{◌≡◌, ◌≢◌, ℕ, zero, suc, ◌+◌, ◌<◌, Bool, true, false, List, [], ◌∷◌, ◌++◌, length, map}
use Rattle.std.proofs.Common.{Some, refl, sym, ap, ◌∙◌, subst, arith, length-append, eq-eqb, get_or, take, drop}
use Rattle.std.proofs.Common.{append_assoc, inl, inr, ◌⊎◌}
use Rattle.std.specs.Prelude.{slice_set, slice_index_or, if◌then◌else◌, ◌==◌}
use Rattle.std.specs.List.{AllByRecursion, range_with_len}
use Rattle.std.proofs.lemmas.Bool.Decides.{eqb_tells}
use Rattle.std.proofs.lemmas.List.FromFn.{length-map-range_with_len}
use Rattle.std.proofs.lemmas.List.{append-nil}
use Rattle.std.proofs.lemmas.Bool.{false≢true}
use Rattle.pcc_base.specs.declared.run.Width.{Width}
use Rattle.pcc_base.proofs.Lists.{all-left, all-right, get-seam}
use Rattle.flow_graph.specs.declared.op.Op.{Op}
use Rattle.flow_graph.specs.Graphs.{Flow, FitsOp, IsDistinct, LastIsEnd, is_end, points_of}
use Rattle.flow_graph.proofs.Growth.{Grows, fits_op-grows, keeps-same}
use Rattle.lower_lines.specs.Following.{Closes}
use Rattle.lower_lines.specs.Lines.{Line, Start, Emit, emitted, graph_of_lines, open_after, ops_in, points_from}
use Rattle.lower_lines.specs.Lines.{points_in, starts_in}
use Rattle.lower_lines.proofs.Standing.{closes-parts, here-open, here_after, not-started, open-append}
use Rattle.lower_lines.proofs.Standing.{open-started, ops-append, points-append, starts-append}
use Rattle.lower_builder.specs.Graphs.{AllFit, AreClosed, CanFollow, graph_behind, last_behind}
use Rattle.lower_lines.proofs.Points.{distinct-front}

-- ---- lists

map-same : {X Y : Type 0} (f g : X → Y) (xs : List X) → ((x : X) → f x ≡ g x) → map f xs ≡ map g xs
map-same f g [] h = refl
map-same f g (x ∷ xs) h = ap (λ (y : _). y ∷ map f xs) (h x) ∙ ap (λ (ys : _). g x ∷ ys) (map-same f g xs h)

-- an element of a list over a range, and what is left where it changes
index-range : {X : Type 0} (f : ℕ → X) (a n j : ℕ) (d : X) → j < n
    → slice_index_or (map f (range_with_len a n)) j d ≡ f (a + j)
index-range f a zero j d h = absurd (omega (arith, h))
index-range f a (suc n) zero d h = let e : a ≡ a + 0 = omega arith in ap f e
index-range f a (suc n) (suc j) d h =
    let e : a + 1 + j ≡ a + suc j = omega arith in index-range f (a + 1) n j d (omega (arith, h)) ∙ ap f e

others-range : {X : Type 0} (f g : ℕ → X) (a n : ℕ) → ((k : ℕ) → a < k → g k ≡ f k)
    → map f (range_with_len (a + 1) n) ≡ map g (range_with_len (a + 1) n)
others-range f g a zero h = refl
others-range f g a (suc n) h =
    ap (λ (y : _). y ∷ map f (range_with_len (a + 1 + 1) n)) (sym (h (a + 1) (omega arith)))
    ∙ ap (λ (ys : _). g (a + 1) ∷ ys) (others-range f g (a + 1) n (λ k above. h k (omega (arith, above))))

set-range : {X : Type 0} (f g : ℕ → X) (a n j : ℕ) → j < n → ((k : ℕ) → k ≢ a + j → g k ≡ f k)
    → slice_set (map f (range_with_len a n)) j (g (a + j)) ≡ map g (range_with_len a n)
set-range f g a zero j h same = absurd (omega (arith, h))
set-range f g a (suc n) zero h same =
    let e : a + 0 ≡ a = omega arith in
    ap (λ (k : ℕ). g k ∷ map f (range_with_len (a + 1) n)) e
    ∙ ap (λ (ys : _). g a ∷ ys) (others-range f g a n (λ k above. same k (λ is. omega (arith, above, is))))
set-range f g a (suc n) (suc j) h same =
    let e : a + suc j ≡ a + 1 + j = omega arith in
    ap (λ (y : _). y ∷ slice_set (map f (range_with_len (a + 1) n)) j (g (a + suc j)))
    (sym (same a (λ is. omega (arith, is))))
    ∙ ap (λ (ys : _). g a ∷ ys) (ap (λ (k : ℕ). slice_set (map f (range_with_len (a + 1) n)) j (g k)) e
    ∙ set-range f g (a + 1) n j (omega (arith, h)) (λ k other. same k (λ is. other (is ∙ e))))

-- ---- the last op of the open block

abbrev AllPlain : List Op → Type 0
AllPlain ops = AllByRecursion (λ i. is_end i ≡ false) ops

-- lines behind which a block is open are ops of a block that was open, or end with a block's start and its ops
split : (opened : Bool) (xs : List Line) → Closes opened xs true
    → ((opened ≡ true) × (ops : List Op) × (xs ≡ emitted ops) × AllPlain ops)
    ⊎ ((before : List Line) × (block : ℕ) × (ops : List Op) × (xs ≡ before ++ Start block ∷ emitted ops) × AllPlain ops)
split opened [] c = inl (c, [], refl, tt)
split opened (Start block ∷ xs) c =
    elim (split true xs c.1) [
      | inl found ↦ inr ([], block, found.1, ap (λ (ls : List Line). Start block ∷ ls) found.2, found.3)
      | inr found ↦ inr (
        Start block ∷ found.0,
        found.1,
        found.2,
        ap (λ (ls : List Line). Start block ∷ ls) found.3,
        found.4,
      )
    ]
split opened (Emit i ∷ xs) c =
    elim (split (if is_end i then false else true) xs c.1) [
      | inl found ↦ inl (
        c.0,
        i ∷ found.1,
        ap (λ (ls : List Line). Emit i ∷ ls) found.2,
        (plain (is_end i) found.0, found.3),
      )
      | inr found ↦ inr (Emit i ∷ found.0, found.1, found.2, ap (λ (ls : List Line). Emit i ∷ ls) found.3, found.4)
    ]
  where
    plain : (b : Bool) → (if b then false else true) ≡ true → b ≡ false
    plain true e = absurd (cc)
    plain false e = refl

no-end : (block : ℕ) (front ops : List Op) → AllPlain ops
    → LastIsEnd (front ++ ops) (points_from block (length front) true (emitted ops)) → ⊥
no-end block front [] plain last = last
no-end block front (i ∷ []) plain last =
    false≢true (sym plain.0 ∙ ap is_end (same i last.0 (sym (get-seam front i []) ∙ last.1)) ∙ last.2)
  where
    same : (x y : Op) → Some x ≡ Some y → x ≡ y
    same x y e = cc
no-end block front (i ∷ j ∷ ops) plain last =
    let more : length (front ++ i ∷ []) ≡ suc (length front) = length-append front (i ∷ []) ∙ omega arith in
    no-end block (front ++ i ∷ []) (j ∷ ops) plain.1
    (subst (λ (k : ℕ). LastIsEnd ((front ++ i ∷ []) ++ j ∷ ops) (points_from block k true (emitted (j ∷ ops))))
    (sym more)
    (subst (λ (is : List Op). LastIsEnd is (points_from block (suc (length front)) true (emitted (j ∷ ops))))
    (sym (append_assoc front (i ∷ []) (j ∷ ops))) last))

ops-emitted : (ops : List Op) → ops_in (emitted ops) ≡ ops
ops-emitted [] = refl
ops-emitted (i ∷ ops) = ap (λ (is : List Op). i ∷ is) (ops-emitted ops)

open-emitted : (block : ℕ) (ops : List Op) → open_after block (emitted ops) ≡ block
open-emitted block [] = refl
open-emitted block (i ∷ ops) = open-emitted block ops

-- behind lines that leave a block open, its last op is no end
not-ended : (lines : List Line) → Closes false lines true → IsDistinct (starts_in lines)
    → LastIsEnd (ops_in lines) (points_in (open_after 0 lines) lines) → ⊥
not-ended lines c once last =
    elim (split false lines c) [
      | inl found ↦ false≢true found.0
      | inr found ↦
          let before = found.0 in
          let block = found.1 in
          let ops = found.2 in
          let rest = Start block ∷ emitted ops in
          let e = found.3 in
          let is-open : open_after 0 lines ≡ block =
          ap (open_after 0) e ∙ open-append 0 before rest ∙ open-emitted block ops in
          let are-ops : ops_in lines ≡ ops_in before ++ ops =
          ap ops_in e ∙ ops-append before rest ∙ ap (λ (is : List Op). ops_in before ++ is) (ops-emitted ops) in
          let apart : AllByRecursion (λ b. b ≢ block) (starts_in before) =
          distinct-front block (starts_in before) (starts_in (emitted ops))
          (subst IsDistinct (ap starts_in e ∙ starts-append before rest) once) in
          let n = length (ops_in before) in
          let plain : 0 + n ≡ n = omega arith in
          let points : points_in (open_after 0 lines) lines ≡ points_from block n true (emitted ops) =
          ap (λ (b : ℕ). points_in b lines) is-open
          ∙ ap (points_in block) e
          ∙ points-append block 0 false before rest
          ∙ ap (λ (ps : List ℕ). ps ++ points_from block (0 + n) (here_after block false before) rest)
          (not-started block 0 before apart)
          ∙ ap (λ (b : Bool). points_from block (0 + n) b (emitted ops)) (eq-eqb block block refl)
          ∙ ap (λ (k : ℕ). points_from block k true (emitted ops)) plain in
          no-end block (ops_in before) ops found.4
          (subst (λ (is : List Op). LastIsEnd is (points_from block n true (emitted ops))) are-ops
          (subst (LastIsEnd (ops_in lines)) points last))
    ]

-- ---- one more line

module _ (widths : List Width) (arrays : List (ℕ × ℕ)) (blocks : ℕ) where
  abbrev graph : List Line → Flow
  graph lines = graph_of_lines widths arrays blocks lines

  grown : (lines : List Line) → Grows (graph []) (graph lines)
  grown lines =
      let e = length-map-range_with_len (λ b. points_in b []) 0 blocks in
      let f = length-map-range_with_len (λ b. points_in b lines) 0 blocks in
      record {
        widths = keeps-same widths;
        arrays = omega arith;
        blocks = omega (arith, e, f);
        ops = record { kept = λ k x e. absurd (cc) };
      }

  open-there : (before rest : List Line) → AreClosed blocks (before ++ rest) → Closes false before true
      → open_after 0 before < blocks
  open-there before rest are c =
      open-started (λ b. b < blocks) 0 false before c (λ f. absurd (false≢true f))
      (all-left (λ b. b < blocks) (starts_in before) (starts_in rest)
      (subst (λ (bs : List ℕ). AllByRecursion (λ b. b < blocks) bs) (starts-append before rest) are.inside))

  distinct-part : (xs ys : List ℕ) → IsDistinct (xs ++ ys) → IsDistinct xs
  distinct-part [] ys h = tt
  distinct-part (x ∷ xs) ys h = (all-left (λ q. q ≢ x) xs ys h.0, distinct-part xs ys h.1)

  pub can-follow : (before : List Line) (line : Line) (rest : List Line) → AreClosed blocks (before ++ line ∷ rest)
      → AllFit (graph []) (before ++ line ∷ rest) → CanFollow (graph before) (open_after 0 before) line
  can-follow before (Start block) rest are fit = tt
  can-follow before (Emit i) rest are fit =
      let parts = closes-parts false false before (Emit i ∷ rest) are.closed in
      let c : Closes false before true = subst (Closes false before) parts.2.0 parts.1 in
      let inside = open-there before (Emit i ∷ rest) are c in
      let many = length-map-range_with_len (λ b. points_in b before) 0 blocks in
      let once = distinct-part (starts_in before) (starts_in (Emit i ∷ rest))
      (subst IsDistinct (starts-append before (Emit i ∷ rest)) are.once) in
      let o = open_after 0 before in
      let plain : 0 + o ≡ o = omega arith in
      let points : points_of (graph before) o ≡ points_in o before =
      index-range (λ b. points_in b before) 0 blocks o [] inside ∙ ap (λ b. points_in b before) plain in (
        omega (arith, inside, many),
        (λ ended. not-ended before c once (subst (LastIsEnd (ops_in before)) points ended)),
        fits_op-grows (graph []) (graph before) (grown before) i
            (all-right (FitsOp (graph [])) (ops_in before) (i ∷ ops_in rest)
            (subst (λ (is : List Op). AllByRecursion (FitsOp (graph [])) is)
            (ops-append before (Emit i ∷ rest)) fit)).0,
      )

  pub last-behind : (before : List Line) (line : Line)
      → last_behind (open_after 0 before) line ≡ open_after 0 (before ++ line ∷ [])
  last-behind before (Start block) = sym (open-append 0 before (Start block ∷ []))
  last-behind before (Emit i) = sym (open-append 0 before (Emit i ∷ []))

  -- a point more in the open block
  point-more : (before : List Line) (i : Op) → Closes false before true → (b : ℕ)
      → points_in b (before ++ Emit i ∷ [])
      ≡ points_in b before ++ (if open_after 0 before == b then length (ops_in before) ∷ [] else [])
  point-more before i c b =
      let n = length (ops_in before) in
      let plain : 0 + n ≡ n = omega arith in
      points-append b 0 false before (Emit i ∷ [])
      ∙ ap (λ (k : ℕ). points_in b before ++ points_from b k (here_after b false before) (Emit i ∷ [])) plain
      ∙ ap (λ (t : Bool). points_in b before ++ points_from b n t (Emit i ∷ []))
      (here-open b 0 false false before c (λ f. absurd (false≢true f)))

  pub graph-behind : (before : List Line) (line : Line) (rest : List Line) → AreClosed blocks (before ++ line ∷ rest)
      → graph_behind (graph before) (open_after 0 before) line ≡ graph (before ++ line ∷ [])
  graph-behind before (Start block) rest are =
      let same : (b : ℕ) → points_in b before ≡ points_in b (before ++ Start block ∷ []) =
      λ b. sym (points-append b 0 false before (Start block ∷ []) ∙ append-nil (points_in b before)) in
      let blocks-same : map (λ b. points_in b before) (range_with_len 0 blocks)
      ≡ map (λ b. points_in b (before ++ Start block ∷ [])) (range_with_len 0 blocks) =
      map-same (λ b. points_in b before) (λ b. points_in b (before ++ Start block ∷ []))
      (range_with_len 0 blocks) same in
      let ops-same : ops_in before ≡ ops_in (before ++ Start block ∷ []) =
      sym (ops-append before (Start block ∷ []) ∙ append-nil (ops_in before)) in
      ap (λ (bs : List (List ℕ)). record { widths = widths; arrays = arrays; blocks = bs; ops = ops_in before })
      blocks-same
      ∙ ap (λ (is : List Op). record {
        widths = widths;
        arrays = arrays;
        blocks = map (λ b. points_in b (before ++ Start block ∷ [])) (range_with_len 0 blocks);
        ops = is;
      }) ops-same
  graph-behind before (Emit i) rest are =
      let parts = closes-parts false false before (Emit i ∷ rest) are.closed in
      let c : Closes false before true = subst (Closes false before) parts.2.0 parts.1 in
      let inside = open-there before (Emit i ∷ rest) are c in
      let o = open_after 0 before in
      let n = length (ops_in before) in
      let f : ℕ → List ℕ = λ b. points_in b before in
      let g : ℕ → List ℕ = λ b. points_in b (before ++ Emit i ∷ []) in
      let plain : 0 + o ≡ o = omega arith in
      let points : points_of (graph before) o ≡ f o = index-range f 0 blocks o [] inside ∙ ap f plain in
      let here : f o ++ n ∷ [] ≡ g (0 + o) =
      ap (λ (t : Bool). f o ++ (if t then n ∷ [] else [])) (sym (eq-eqb o o refl))
      ∙ sym (point-more before i c o) ∙ ap g (sym plain) in
      let others : (k : ℕ) → k ≢ 0 + o → g k ≡ f k =
      λ k other. point-more before i c k
      ∙ ap (λ (t : Bool). f k ++ (if t then n ∷ [] else [])) (unlike o k (λ e. other (sym e ∙ sym plain)))
      ∙ append-nil (f k) in
      let changed : slice_set (map f (range_with_len 0 blocks)) o (points_of (graph before) o ++ n ∷ [])
      ≡ map g (range_with_len 0 blocks) =
      ap (λ (ps : List ℕ). slice_set (map f (range_with_len 0 blocks)) o (ps ++ n ∷ [])) points
      ∙ ap (slice_set (map f (range_with_len 0 blocks)) o) here
      ∙ set-range f g 0 blocks o inside others in
      ap (λ (bs : List (List ℕ)). record {
        widths = widths;
        arrays = arrays;
        blocks = bs;
        ops = ops_in before ++ i ∷ [];
      }) changed
      ∙ ap (λ (is : List Op). record {
        widths = widths;
        arrays = arrays;
        blocks = map g (range_with_len 0 blocks);
        ops = is;
      }) (sym (ops-append before (Emit i ∷ [])))
    where
      unlike : (m k : ℕ) → (m ≡ k → ⊥) → (m == k) ≡ false
      unlike m k ne =
          elim (eqb_tells m k) [
            | inl same ↦ absurd (ne same.1)
            | inr other ↦ other.0
          ]

-- ---- the lines of a list in memory

pub parted : {X Y : Type 0} (f : X → Y) (xs : List X) (k : ℕ) (x : X) → k < length xs → x ≡ get_or xs k x
    → map f xs ≡ map f (take k xs) ++ f x ∷ map f (drop (suc k) xs)
parted f [] k x h e = absurd (omega (arith, h))
parted f (y ∷ xs) zero x h e = ap (λ (z : _). f z ∷ map f xs) (sym e)
parted f (y ∷ xs) (suc k) x h e = ap (λ (ys : _). f y ∷ ys) (parted f xs k x (omega (arith, h)) e)

pub front-more : {X Y : Type 0} (f : X → Y) (xs : List X) (k : ℕ) (x : X) → k < length xs → x ≡ get_or xs k x
    → map f (take (suc k) xs) ≡ map f (take k xs) ++ f x ∷ []
front-more f [] k x h e = absurd (omega (arith, h))
front-more f (y ∷ xs) zero x h e = ap (λ (z : _). f z ∷ []) (sym e)
front-more f (y ∷ xs) (suc k) x h e = ap (λ (ys : _). f y ∷ ys) (front-more f xs k x (omega (arith, h)) e)
