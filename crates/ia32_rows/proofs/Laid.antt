-- Where the items of a point stand among those of its graph, and in a text, over any placement.
use Rattle.std.proofs.Common.{◌≡◌, ℕ, zero, suc, ◌+◌, Bool, cond, List, [], ◌∷◌, ◌++◌, length, Some, Option, refl}
use Rattle.std.proofs.Common.{sym, ap, subst, ◌∙◌, inl, inr, arith, append_assoc}
use Rattle.std.specs.Prelude.{slice_get, slice_index_or}
use Rattle.std.proofs.lemmas.Option.{same_Some}
use Rattle.std.proofs.lemmas.Bool.{eq-eqb}
use Rattle.std.proofs.lemmas.List.{append-nil}
use Rattle.pcc_base.proofs.Lists.{get-seam}
use Rattle.ia32_insn.specs.declared.insn.Insn.TheVariants as insn
use Rattle.ia32_insn.specs.declared.item.Item.{Item}
use Rattle.ia32_insn.specs.declared.item.Item.TheVariants as item
use Rattle.ia32_insn.specs.Items.{Symbols, Places, ItemsAt}
use Rattle.ia32_insn.specs.Items.{plain}
use Rattle.flow_graph.specs.declared.op.Op.TheVariants as op
use Rattle.flow_graph.specs.Graphs.{Flow, IsIn, Stands, points_of, following}
use Rattle.flow_graph.proofs.Points.{choose}
use Rattle.ia32_rows.specs.Placements.{Placement}
use Rattle.ia32_rows.proofs.Steps.{IsAt, at-front, at-back, items-split}
use Rattle.ia32_rows.specs.Rows.{entry_label, row, prologue, headers, moves_to, point_row, point_rows}
use Rattle.ia32_rows.specs.Rows.{block_rows, selected}

-- ---- items that stand at an address

-- the items stand in the text at the address
pub record StandsThere (symbols : Symbols) (places : Places) (text : List ℕ) (items : List Item) (address : ℕ) : Type 0
  where
    pub bytes : List ℕ
    pub here : IsAt text address bytes
    pub stand : ItemsAt symbols places address items bytes

-- what comes last of the items stands so far behind
pub back-there : (symbols : Symbols) (places : Places) (text : List ℕ) (front back : List Item) (address : ℕ)
    → StandsThere symbols places text (front ++ back) address
    → (distance : ℕ) × StandsThere symbols places text back (address + distance)
back-there symbols places text front back address h =
    let m = items-split symbols places address front back h.bytes h.stand in (
      length m.0,
      record {
        bytes = m.1;
        here = at-back text address m.0 m.1 (subst (IsAt text address) m.2 h.here);
        stand = m.4;
      },
    )

-- a point stands where what follows it stands
pub point-there : (symbols : Symbols) (places : Places) (text : List ℕ) (p : ℕ) (items : List Item) (address : ℕ)
    → StandsThere symbols places text (item.Point p ∷ items) address → places.points p ≡ address
point-there symbols places text p items address h = h.stand.3.1

pub behind-there : (symbols : Symbols) (places : Places) (text : List ℕ) (p : ℕ) (items : List Item) (address : ℕ)
    → StandsThere symbols places text (item.Point p ∷ items) address → StandsThere symbols places text items address
behind-there symbols places text p items address h =
    let none = h.stand.3.0 in
    let rest : List ℕ = h.stand.1 in
    let whole : h.bytes ≡ rest = h.stand.2 ∙ ap (λ (l : List ℕ). l ++ rest) none in
    let at : address + length h.stand.0 ≡ address = let l = ap length none in omega (arith, l) in
    record {
      bytes = rest;
      here = subst (IsAt text address) whole h.here;
      stand =
          subst (λ (a : ℕ). ItemsAt symbols places a items rest) at h.stand.4;
    }

-- where a NOP comes first, its byte stands
pub nop-there : (symbols : Symbols) (places : Places) (text : List ℕ) (items : List Item) (address : ℕ)
    → StandsThere symbols places text (plain insn.Nop ∷ items) address → IsAt text address (0x90 ∷ [])
nop-there symbols places text items address h =
    let rest : List ℕ = h.stand.1 in
    let is : h.stand.0 ≡ 0x90 ∷ [] = h.stand.3 in
    at-front text address (0x90 ∷ []) rest (subst (IsAt text address) (h.stand.2 ∙ ap (λ (l : List ℕ). l ++ rest) is)
    h.here)

-- ---- points among the items

-- The items of a point stand among these, and right behind them the moves to the next point of its block, and that
-- point, if it has one.
pub record HasRow (flow : Flow) (placement : Placement) (p : ℕ) (next : Option ℕ) (items : List Item) : Type 0 where
  pub front : List Item
  pub rest : List Item
  pub is : items ≡ front ++ (point_row flow placement p ++ rest)
  pub follows : (q : ℕ) → next ≡ Some q
      → (more : List Item) × (rest ≡ moves_to placement p (Some q) ++ item.Point q ∷ more)

-- the row of the first point of a list
first-row : (flow : Flow) (placement : Placement) (p : ℕ) (ps : List ℕ)
    → HasRow flow placement p (slice_get ps 0) (point_rows flow placement (p ∷ ps))
first-row flow placement p [] = record { front = []; rest = []; is = refl; follows = λ q e. absurd (cc) }
first-row flow placement p (x ∷ ps) =
    let back : List Item =
    row flow placement x (slice_index_or flow.ops x op.Turn)
    ++ (moves_to placement x (slice_get ps 0) ++ point_rows flow placement ps) in
    record {
      front = [];
      rest = moves_to placement p (Some x) ++ point_rows flow placement (x ∷ ps);
      is = refl;
      follows = λ q e.
          (back, ap (λ (n : ℕ). moves_to placement p (Some n) ++ item.Point n ∷ back) (same_Some x q e));
    }

-- items before and behind
row-between : (flow : Flow) (placement : Placement) (p : ℕ) (next : Option ℕ) (before items behind : List Item)
    → HasRow flow placement p next items → HasRow flow placement p next (before ++ (items ++ behind))
row-between flow placement p next before items behind h =
    let mine : List Item = point_row flow placement p in
    record {
      front = before ++ h.front;
      rest = h.rest ++ behind;
      is = ap (λ (l : List Item). before ++ (l ++ behind)) h.is ∙ between before h.front mine h.rest behind;
      follows = λ q e.
          let more = h.follows q e in (
            more.0 ++ behind,
            ap (λ (l : List Item). l ++ behind) more.1
                ∙ append_assoc (moves_to placement p (Some q)) (item.Point q ∷ more.0) behind,
          );
    }
  where
    between : (a b c d e : List Item) → a ++ ((b ++ (c ++ d)) ++ e) ≡ (a ++ b) ++ (c ++ (d ++ e))
    between a b c d e = simp append_assoc refl

-- the row of a point of a list
row-in-points : (flow : Flow) (placement : Placement) (points : List ℕ) (p : ℕ) → IsIn p points
    → HasRow flow placement p (following p points) (point_rows flow placement points)
row-in-points flow placement [] p h = absurd h
row-in-points flow placement (x ∷ ps) p (inl e) =
    let P : Bool → Type 0 = λ b. HasRow flow placement p (cond b (slice_get ps 0) (following p ps))
    (point_rows flow placement (x ∷ ps)) in
    subst P (sym (eq-eqb x p e)) (subst (λ (n : ℕ).
    HasRow flow placement n (slice_get ps 0) (point_rows flow placement (x ∷ ps)))
    e (first-row flow placement x ps))
row-in-points flow placement (x ∷ ps) p (inr i) =
    let items : List Item = point_rows flow placement (x ∷ ps) in
    let later : HasRow flow placement p (following p ps) (point_rows flow placement ps) =
    row-in-points flow placement ps p i in
    let moves : List Item = moves_to placement x (slice_get ps 0) in
    let none : (point_row flow placement x ++ moves) ++ (point_rows flow placement ps ++ []) ≡ items =
    ap (λ (l : List Item). (point_row flow placement x ++ moves) ++ l) (append-nil (point_rows flow placement ps))
    ∙ append_assoc (point_row flow placement x) moves (point_rows flow placement ps) in
    choose x p (λ (n : Option ℕ). HasRow flow placement p n items) (slice_get ps 0) (following p ps)
    (λ e. subst (λ (n : ℕ). HasRow flow placement n (slice_get ps 0) items) e (first-row flow placement x ps))
    (subst (HasRow flow placement p (following p ps)) none
    (row-between flow placement p (following p ps) (point_row flow placement x ++ moves) (point_rows flow placement ps)
    [] later))

-- the row of a point of a block
pub row-in-blocks : (flow : Flow) (placement : Placement) (k : ℕ) (blocks : List (List ℕ)) (p b : ℕ)
    → IsIn p (slice_index_or blocks b []) → HasRow flow placement p (following p (slice_index_or blocks b []))
    (block_rows flow placement k blocks)
row-in-blocks flow placement k [] p zero h = absurd h
row-in-blocks flow placement k [] p (suc b) h = absurd h
row-in-blocks flow placement k (points ∷ blocks) p zero h =
    row-between flow placement p (following p points) (item.Label k ∷ []) (point_rows flow placement points)
    (block_rows flow placement (suc k) blocks) (row-in-points flow placement points p h)
row-in-blocks flow placement k (points ∷ blocks) p (suc b) h =
    let next : Option ℕ = following p (slice_index_or blocks b []) in
    let back : List Item = block_rows flow placement (suc k) blocks in
    let front : List Item = item.Label k ∷ point_rows flow placement points in
    let none : front ++ (back ++ []) ≡ front ++ back = ap (λ (l : List Item). front ++ l) (append-nil back) in
    subst (HasRow flow placement p next) none (row-between flow placement p next front back []
    (row-in-blocks flow placement (suc k) blocks p b h))

-- the row of a point of the graph, over any placement
pub row-in-graph : (flow : Flow) (placement : Placement) (p b : ℕ) → Stands flow p b
    → HasRow flow placement p (following p (points_of flow b)) (selected flow placement)
row-in-graph flow placement p b h =
    let next : Option ℕ = following p (points_of flow b) in
    let front : List Item = prologue placement.frame placement.zeroed (entry_label flow) in
    let numbers : List Item = headers flow.arrays placement.arrays in
    let back : List Item = block_rows flow placement 0 flow.blocks in
    subst (HasRow flow placement p next) (behind-two front numbers back)
    (row-between flow placement p next (front ++ numbers) back [] (row-in-blocks flow placement 0 flow.blocks p b h))
  where
    behind-two : (a b c : List Item) → (a ++ b) ++ (c ++ []) ≡ a ++ (b ++ c)
    behind-two a b c = simp append_assoc (ap (λ (l : List Item). a ++ (b ++ l)) (append-nil c))

-- a point of the graph stands among the items, over any placement
pub point-among : (flow : Flow) (placement : Placement) (p b : ℕ) → Stands flow p b → (j : ℕ)
    × (slice_get (selected flow placement) j ≡ Some (item.Point p))
point-among flow placement p b h =
    let r = row-in-graph flow placement p b h in
    let back : List Item = row flow placement p (slice_index_or flow.ops p op.Turn) ++ r.rest in
    (length r.front, ap (λ (l : List Item). slice_get l (length r.front)) r.is ∙ get-seam r.front (item.Point p) back)
