-- What every graph keeps stays after each change, and where a point is at home.
use Rattle.std.proofs.Common.{ℕ, zero, suc, ◌≡◌, ◌≢◌, ◌<◌, ◌≤◌, ◌+◌, inl, inr, false, List, [], ◌∷◌, ◌++◌, length}
use Rattle.std.proofs.Common.{get_or}
use Rattle.std.proofs.Common.{Some, refl, sym, subst, arith, length-append, get_or-set_same, get_or-set_other}
use Rattle.std.proofs.Math.ListN.{set, length-set}
use Rattle.std.specs.List.{AllByRecursion, slice_get}
use Rattle.std.proofs.lemmas.Bool.{cases_eq}
use Rattle.std.proofs.lemmas.Option.{slice_get_within}
use Rattle.pcc_base.specs.declared.run.Width.{Width}
use Rattle.pcc_base.proofs.Lists.{get-last, all-push, all-weaker}
use Rattle.flow_graph.specs.declared.op.Op.{Op}
use Rattle.flow_graph.specs.Graphs.{Flow, IsIn, FitsOp, HasFittingOp, NumbersFit, IsPlainAt, IsEnded, IsArray, IsBlock}
use Rattle.flow_graph.specs.Graphs.{IsFlow, IsPlaced, Stands, points_of, insert_after, is_end, with_variable}
use Rattle.flow_graph.specs.Graphs.{with_array, with_block, with_points, with_op, with_op_after, without}
use Rattle.flow_graph.specs.Graphs.{empty_flow, without_point_of}
use Rattle.flow_graph.proofs.Points.{every-insert, every-without, every-in, distinct-push}
use Rattle.flow_graph.proofs.Points.{distinct-insert, distinct-without, all_plain, ends-push, ends-insert, ends-without}
use Rattle.flow_graph.proofs.Growth.{Grows, keeps-append, keeps-same, fits_op-grows, plain-grows}
use Rattle.flow_graph.proofs.Growth.{block-grows}

-- what holds of each block's points, after one block's points are set
set_cases : (P : ℕ → List ℕ → Type 0) (blocks : List (List ℕ)) (k : ℕ) (new : List ℕ) → k < length blocks → P k new
    → ((b : ℕ) → P b (get_or blocks b [])) → (b : ℕ) → P b (get_or (set blocks k new) b [])
set_cases P blocks k new h w f b =
    elim (cases_eq b k) [
      | inl e ↦ subst (λ (j : ℕ). P j (get_or (set blocks k new) j [])) (sym e)
          (subst (λ (ps : List ℕ). P k ps) (sym (get_or-set_same blocks k new [] h)) w)
      | inr n ↦ subst (λ (ps : List ℕ). P b ps) (sym (get_or-set_other blocks k b new [] n)) (f b)
    ]

-- a block with no points more reads as no points
get_or-empty : (xs : List (List ℕ)) (b : ℕ) → get_or xs b [] ≡ get_or (xs ++ [] ∷ []) b []
get_or-empty [] zero = refl
get_or-empty [] (suc b) = refl
get_or-empty (x ∷ xs) zero = refl
get_or-empty (x ∷ xs) (suc b) = get_or-empty xs b

-- the graph that nothing was added to
pub flow-empty : IsFlow empty_flow []
flow-empty = record {
  one_home = refl;
  each_block = λ b. subst (λ (ps : List ℕ). IsBlock empty_flow [] b ps) (get_or-empty [] b)
      (record { at_home = tt; fits = tt; once = tt; ends = tt });
  arrays_fit = tt;
  few_elements = tt;
  numbers = tt;
  few_variables = omega arith;
  few_arrays = omega arith;
  few_blocks = omega arith;
  few_points = omega arith;
}

-- one element more
pub length-push : {X : Type 0} (xs : List X) (x : X) → length (xs ++ x ∷ []) ≡ length xs + 1
length-push xs x = omega (arith, length-append xs (x ∷ []))

-- a block that has a point is there
pub has_block : (blocks : List (List ℕ)) (b p : ℕ) → IsIn p (get_or blocks b []) → b < length blocks
has_block [] b p h = absurd h
has_block (x ∷ xs) zero p h = omega arith
has_block (x ∷ xs) (suc b) p h = omega (arith, has_block xs b p h)

-- with one more variable
pub flow-variable : (f : Flow) (homes : List ℕ) (w : Width) → IsFlow f homes → length f.widths < 0xffffffff
    → IsFlow (with_variable f w) homes
flow-variable f homes w i h =
    let grows : Grows f (with_variable f w) =
    record {
      widths = keeps-append f.widths (w ∷ []);
      arrays = omega arith;
      blocks = omega arith;
      ops =
          keeps-same f.ops;
    } in
    record {
      one_home = i.one_home;
      each_block = λ b. block-grows f (with_variable f w) homes homes grows (keeps-same homes) b
          (points_of f b) (i.each_block b);
      arrays_fit = i.arrays_fit;
      few_elements = i.few_elements;
      numbers = i.numbers;
      few_variables = omega (arith, length-push f.widths w);
      few_arrays = i.few_arrays;
      few_blocks = i.few_blocks;
      few_points = i.few_points;
    }

-- with one more frame array
pub flow-array : (f : Flow) (homes : List ℕ) (w n : ℕ) → IsFlow f homes → IsArray (w, n) → n ≤ 0xffffffff
    → length f.arrays < 0xffffffff
    → IsFlow (with_array f w n) homes
flow-array f homes w n i fit few h =
    let more = length-push f.arrays (w, n) in
    let grows : Grows f (with_array f w n) = record
    { widths = keeps-same f.widths; arrays = omega (arith, more); blocks = omega arith; ops = keeps-same f.ops } in
    record {
      one_home = i.one_home;
      each_block = λ b. block-grows f (with_array f w n) homes homes grows (keeps-same homes) b
          (points_of f b) (i.each_block b);
      arrays_fit = all-push IsArray f.arrays (w, n) i.arrays_fit fit;
      few_elements = all-push (λ (array : ℕ × ℕ). array.1 ≤ 0xffffffff) f.arrays (w, n) i.few_elements few;
      numbers = i.numbers;
      few_variables = i.few_variables;
      few_arrays = omega (arith, more);
      few_blocks = i.few_blocks;
      few_points = i.few_points;
    }

-- with one more block
pub flow-block : (f : Flow) (homes : List ℕ) → IsFlow f homes → length f.blocks < 0xffffffff
    → IsFlow (with_block f) homes
flow-block f homes i h =
    let more : length (f.blocks ++ [] ∷ []) ≡ length f.blocks + 1 = length-push f.blocks [] in
    let grows : Grows f (with_block f) = record
    { widths = keeps-same f.widths; arrays = omega arith; blocks = omega (arith, more); ops = keeps-same f.ops } in
    record {
      one_home = i.one_home;
      each_block = λ b. subst (λ (ps : List ℕ). IsBlock (with_block f) homes b ps) (get_or-empty f.blocks b)
          (block-grows f (with_block f) homes homes grows (keeps-same homes) b (points_of f b) (i.each_block b));
      arrays_fit = i.arrays_fit;
      few_elements = i.few_elements;
      numbers = i.numbers;
      few_variables = i.few_variables;
      few_arrays = i.few_arrays;
      few_blocks = omega (arith, more);
      few_points = i.few_points;
    }

-- a graph grows by a point
points-grow : (f : Flow) (b : ℕ) (ps : List ℕ) (op : Op) → Grows f (with_points f b ps op)
points-grow f b ps op = record {
  widths = keeps-same f.widths;
  arrays = omega arith;
  blocks = omega (arith, length-set f.blocks b ps);
  ops = keeps-append f.ops (op ∷ []);
}

-- with one more point, where the block that it comes into keeps what it has to
flow-points : (f : Flow) (homes : List ℕ) (b : ℕ) (ps : List ℕ) (op : Op) → IsFlow f homes → b < length f.blocks
    → length f.ops < 0xffffffff → NumbersFit op → IsBlock (with_points f b ps op) (homes ++ b ∷ []) b ps
    → IsFlow (with_points f b ps op) (homes ++ b ∷ [])
flow-points f homes b ps op i h room word w =
    let all_homes = length-push homes b in
    let all_ops = length-push f.ops op in
    let all_blocks = length-set f.blocks b ps in
    record {
      one_home = omega (arith, all_homes, all_ops, i.one_home);
      each_block = set_cases (λ k qs. IsBlock (with_points f b ps op) (homes ++ b ∷ []) k qs) f.blocks b ps h w
          (λ k. block-grows f (with_points f b ps op) homes (homes ++ b ∷ []) (points-grow f b ps op)
          (keeps-append homes (b ∷ [])) k (points_of f k) (i.each_block k));
      arrays_fit = i.arrays_fit;
      few_elements = i.few_elements;
      numbers = all-push NumbersFit f.ops op i.numbers word;
      few_variables = i.few_variables;
      few_arrays = i.few_arrays;
      few_blocks = omega (arith, all_blocks, i.few_blocks);
      few_points = omega (arith, all_ops, room);
    }

-- the number of the new point stands nowhere yet
fresh : (f : Flow) (ps : List ℕ) → AllByRecursion (HasFittingOp f) ps → AllByRecursion (λ q. q ≢ length f.ops) ps
fresh f ps h =
    all-weaker (HasFittingOp f) (λ q. q ≢ length f.ops) ps
    (λ q m e. let below = slice_get_within f.ops q m.0 m.1 in absurd (omega (arith, below, e))) h

-- the new point is at home
new_home : (f : Flow) (homes : List ℕ) (b : ℕ) → IsFlow f homes → slice_get (homes ++ b ∷ []) (length f.ops) ≡ Some b
new_home f homes b i = subst (λ (n : ℕ). slice_get (homes ++ b ∷ []) n ≡ Some b) i.one_home (get-last homes b)

-- with a new point at the end of a block
pub flow-append : (f : Flow) (homes : List ℕ) (b : ℕ) (op : Op) → IsFlow f homes → b < length f.blocks
    → length f.ops < 0xffffffff → (IsEnded f b → ⊥) → FitsOp f op → NumbersFit op
    → IsFlow (with_op f b op) (homes ++ b ∷ [])
flow-append f homes b op i h room open_block fit word =
    let ps : List ℕ = points_of f b in
    let x : ℕ = length f.ops in
    let qs : List ℕ = ps ++ x ∷ [] in
    let g : Flow = with_points f b qs op in
    let grows : Grows f g = points-grow f b qs op in
    let old : IsBlock f homes b ps = i.each_block b in
    let grown : IsBlock g (homes ++ b ∷ []) b ps =
    block-grows f g homes (homes ++ b ∷ []) grows (keeps-append homes (b ∷ [])) b ps old in
    flow-points f homes b qs op i h room word (record {
      at_home = all-push (λ p. slice_get (homes ++ b ∷ []) p ≡ Some b) ps x grown.at_home (new_home f homes b i);
      fits = all-push (HasFittingOp g) ps x grown.fits (op, get-last f.ops op, fits_op-grows f g grows op fit);
      once = distinct-push ps x old.once (fresh f ps old.fits);
      ends = ends-push g.ops ps x
          (all-weaker (IsPlainAt f.ops) (IsPlainAt g.ops) ps (plain-grows f.ops g.ops grows.ops)
          (all_plain f.ops ps (all-weaker (HasFittingOp f) (λ p. (o : Op) × (slice_get f.ops p ≡ Some o)) ps
          (λ p m. (m.0, m.1)) old.fits) old.ends open_block));
    })

-- with a new point right after a point
pub flow-insert : (f : Flow) (homes : List ℕ) (b point : ℕ) (op : Op) → IsFlow f homes → b < length f.blocks
    → length f.ops < 0xffffffff → IsPlainAt f.ops point → is_end op ≡ false → FitsOp f op → NumbersFit op
    → IsFlow (with_op_after f b point op) (homes ++ b ∷ [])
flow-insert f homes b point op i h room plain no_end fit word =
    let ps : List ℕ = points_of f b in
    let x : ℕ = length f.ops in
    let qs : List ℕ = insert_after point x ps in
    let g : Flow = with_points f b qs op in
    let grows : Grows f g = points-grow f b qs op in
    let old : IsBlock f homes b ps = i.each_block b in
    let grown : IsBlock g (homes ++ b ∷ []) b ps =
    block-grows f g homes (homes ++ b ∷ []) grows (keeps-append homes (b ∷ [])) b ps old in
    flow-points f homes b qs op i h room word (record {
      at_home = every-insert (λ p. slice_get (homes ++ b ∷ []) p ≡ Some b) point x ps grown.at_home
          (new_home f homes b i);
      fits = every-insert (HasFittingOp g) point x ps grown.fits (
        op,
        get-last f.ops op,
        fits_op-grows f g grows op fit,
      );
      once = distinct-insert point x ps old.once (fresh f ps old.fits);
      ends = ends-insert g.ops point x ps (plain-grows f.ops g.ops grows.ops point plain) (
        op,
        get-last f.ops op,
        no_end,
      ) grown.ends;
    })

-- without a point
pub flow-remove : (f : Flow) (homes : List ℕ) (b point : ℕ) → IsFlow f homes → b < length f.blocks
    → IsFlow (without_point_of f b point) homes
flow-remove f homes b point i h =
    let ps : List ℕ = points_of f b in
    let qs : List ℕ = without point ps in
    let g : Flow = without_point_of f b point in
    let grows : Grows f g = record {
      widths = keeps-same f.widths;
      arrays = omega arith;
      blocks =
          omega (arith, length-set f.blocks b qs);
      ops = keeps-same f.ops;
    } in
    let grown : IsBlock g homes b ps = block-grows f g homes homes grows (keeps-same homes) b ps (i.each_block b) in
    let left : IsBlock g homes b qs = record {
      at_home = every-without (λ p. slice_get homes p ≡ Some b) point ps grown.at_home;
      fits = every-without (HasFittingOp g) point ps grown.fits;
      once = distinct-without point ps grown.once;
      ends = ends-without f.ops point ps grown.ends;
    } in
    record {
      one_home = i.one_home;
      each_block = set_cases (λ k rs. IsBlock g homes k rs) f.blocks b qs h left
          (λ k. block-grows f g homes homes grows (keeps-same homes) k (points_of f k) (i.each_block k));
      arrays_fit = i.arrays_fit;
      few_elements = i.few_elements;
      numbers = i.numbers;
      few_variables = i.few_variables;
      few_arrays = i.few_arrays;
      few_blocks = omega (arith, length-set f.blocks b qs, i.few_blocks);
      few_points = i.few_points;
    }

-- the home of a point of a block is that block
pub home : (f : Flow) (homes : List ℕ) (p b : ℕ) → IsFlow f homes → Stands f p b → slice_get homes p ≡ Some b
home f homes p b i s = every-in (λ q. slice_get homes q ≡ Some b) p (points_of f b) (i.each_block b).at_home s

-- a point of a block has an op
pub has_op : (v f : Flow) (homes : List ℕ) (p : ℕ) → v ≡ f → IsFlow v homes → IsPlaced f p → p < length v.ops
has_op v f homes p e i s =
    let t : IsPlaced v p = subst (λ (g : Flow). IsPlaced g p) (sym e) s in
    let m : HasFittingOp v p = every-in (HasFittingOp v) p (points_of v t.0) (i.each_block t.0).fits t.1 in
    slice_get_within v.ops p m.0 m.1
