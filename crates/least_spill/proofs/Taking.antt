-- Pieces of a kind and width are removed, one after another.
use Rattle.std.proofs.Common.{ℕ, ◌≡◌, ◌≤◌, ◌<◌, ◌+◌, ◌-◌, refl, sym, ◌∙◌, ap, subst, Bool, true, false, ◌&&◌}
use Rattle.std.proofs.Common.{◌==◌, cond, List, [], ◌∷◌, ◌++◌, Some, arith}
use Rattle.std.specs.Prelude.{slice_get, count_by}
use Rattle.std.proofs.lemmas.List.Sums.{sum_by_push}
use Rattle.std.proofs.lemmas.Option.{same_Some}
use Rattle.pcc_base.specs.declared.run.Width.{Width}
use Rattle.pcc_base.specs.declared.run.Width.TheVariants.{One, Two}
use Rattle.puzzle_board.specs.declared.piece.Kind.{Kind}
use Rattle.puzzle_board.specs.declared.piece.Kind.TheVariants.{X, Y, Z}
use Rattle.puzzle_board.specs.declared.piece.Piece.{Piece}
use Rattle.puzzle_board.specs.Boards.{IsUnplacedOf, Puzzle, is_piece, piece_count, pieces_of, remaining, same_letter}
use Rattle.puzzle_board.specs.Boards.{same_width, standing, without_variable}
use Rattle.puzzle_solver.specs.declared.board_counts.PieceCounts.{PieceCounts}
use Rattle.puzzle_solver.specs.Counting.{PiecesAre}
use Rattle.puzzle_solver.specs.Prefixes.{without_variables}
use Rattle.puzzle_solver.proofs.Ends.{unplaced-remaining}
use Rattle.least_spill.specs.Most.{IsPart}
use Rattle.least_spill.specs.Removing.{AreApart, IsTaken, IsWithout, holders, occurrences}
use Rattle.least_spill.proofs.Removals.{in-remaining, one-out, remaining-without, rest, without-push}
use Rattle.puzzle_solver.proofs.Fillings.{cond-next as taken-n, cond-zero as taken-0}

-- where nothing stands, the pieces that remain are counted
pub counted-remaining :
    (board : Puzzle) (k : Kind) (w : Width) → standing board ≡ [] → piece_count board k w ≡ pieces_of (remaining board) k w
counted-remaining board k w none =
    ap (λ (ps : List Piece). pieces_of ps k w) (sym (unplaced-remaining board.pieces board.states none))

-- one piece and its variable
taken-counts :
    (kind k : Kind) (width w : Width) (now new : Puzzle) (p : Piece) → standing now ≡ [] → standing new ≡ []
    → p.kind ≡ kind → p.width ≡ width
    → pieces_of (remaining now) k w ≡ pieces_of (remaining new) k w + cond (is_piece k w p) 1 0
    → piece_count new k w + cond (same_letter kind k && same_width width w) 1 0 ≡ piece_count now k w
taken-counts kind k width w now new p stands still kind-is width-is out =
    let test : cond (is_piece k w p) 1 0 ≡ cond {A = ℕ} (same_letter kind k && same_width width w) 1 0 =
    ap {B = ℕ} (λ (j : Kind). cond (same_letter j k && same_width p.width w) 1 0) kind-is
    ∙ ap {B = ℕ} (λ (v : Width). cond (same_letter kind k && same_width v w) 1 0) width-is in
    omega (arith, out, test, counted-remaining now k w stands, counted-remaining new k w still)

pub taken-one :
    (kind : Kind) (width : Width) (number : ℕ) (now new : Puzzle) (p : Piece) (before : List ℕ) → standing now ≡ []
    → AreApart now → IsUnplacedOf now kind width number → slice_get now.pieces number ≡ Some p
    → new ≡ without_variable now p.var → standing new ≡ []
    → IsTaken kind width 1 now new before (before ++ p.var ∷ [])
taken-one kind width number now new p before stands apart (q, at, waits, kind-is, width-is) here is still = record {
  stands = still;
  apart = λ v. omega (arith, apart v, out (λ r. r.var == v));
  counts = λ k w.
      taken-counts kind k width w now new p stands still (ap (λ (r : Piece). r.kind) same ∙ kind-is)
      (ap (λ (r : Piece). r.width) same ∙ width-is) (out (is_piece k w));
  without = λ base so_far. record {
    board =
        is
        ∙ (ap (λ (b : Puzzle). without_variable b p.var) so_far.board
        ∙ sym (without-push base before p.var));
    once = λ v.
        omega (
          arith,
          so_far.once v,
          out (λ r. r.var == v),
          sum_by_push (λ u. cond (u == v) 1 0) before p.var,
        );
  };
} where
  same : p ≡ q
  same = same_Some p q (sym here ∙ at)

  left : remaining new ≡ rest p.var (remaining now)
  left = ap (λ (b : Puzzle). remaining b) is ∙ remaining-without now p.var

  out : (f : Piece → Bool)
      → count_by f (remaining now) ≡ count_by f (remaining new) + cond (f p) 1 0
  out f =
      one-out f p (remaining now)
      (in-remaining now.pieces now.states number p here waits)
      (apart p.var)
      ∙ ap (λ (ps : List Piece). count_by f ps + cond (f p) 1 0) (sym left)

-- ---- several

pub taken-none :
    (kind : Kind) (width : Width) (now : Puzzle) (before : List ℕ) → standing now ≡ [] → AreApart now
    → IsTaken kind width 0 now now before before
taken-none kind width now before stands apart = record {
  stands = stands;
  apart = apart;
  counts = λ k w. omega (arith, taken-0 (same_letter kind k && same_width width w));
  without = λ base so_far. so_far;
}

pub taken-more :
    (kind : Kind) (width : Width) (n : ℕ) (old now new : Puzzle) (before so_far after : List ℕ)
    → IsTaken kind width n old now before so_far → IsTaken kind width 1 now new so_far after
    → IsTaken kind width (n + 1) old new before after
taken-more kind width n old now new before so_far after first last = record {
  stands = last.stands;
  apart = last.apart;
  counts = λ k w.
      omega (arith, first.counts k w, last.counts k w, taken-n (same_letter kind k && same_width width w) n);
  without = λ base start. last.without base (first.without base start);
}

self-taken : (k : Kind) (w : Width) (n : ℕ) → cond (same_letter k k && same_width w w) n 0 ≡ n
self-taken X One n = refl
self-taken X Two n = refl
self-taken Y One n = refl
self-taken Y Two n = refl
self-taken Z One n = refl
self-taken Z Two n = refl

-- there are pieces left to take
pub still-some :
    (kind : Kind) (width : Width) (n many : ℕ) (old now : Puzzle) (before after : List ℕ)
    → IsTaken kind width n old now before after → many ≤ piece_count old kind width → n < many
    → 1 ≤ piece_count now kind width
still-some kind width n many old now before after taken enough more =
    omega (arith, enough, more, taken.counts kind width, self-taken kind width n)

-- ---- all kinds and widths

-- what is beyond was taken of each, one after another
pub all-taken :
    (b0 b1 b2 b3 b4 b5 b6 : Puzzle) (r0 r1 r2 r3 r4 r5 r6 : List ℕ) (p k : PieceCounts) → PiecesAre b0 p → IsPart k p
    → IsTaken X One (p.x1 - k.x1) b0 b1 r0 r1 → IsTaken X Two (p.x2 - k.x2) b1 b2 r1 r2
    → IsTaken Y One (p.y1 - k.y1) b2 b3 r2 r3 → IsTaken Y Two (p.y2 - k.y2) b3 b4 r3 r4
    → IsTaken Z One (p.z1 - k.z1) b4 b5 r4 r5 → IsTaken Z Two (p.z2 - k.z2) b5 b6 r5 r6 → PiecesAre b6 k
all-taken b0 b1 b2 b3 b4 b5 b6 r0 r1 r2 r3 r4 r5 r6 p k are part t1 t2 t3 t4 t5 t6 = record {
  x1 = left p.x1 k.x1 _ _ _ _ _ _ _ part.x1 are.x1 (t1.counts X One) (t2.counts X One) (t3.counts X One)
      (t4.counts X One) (t5.counts X One) (t6.counts X One);
  x2 = second p.x2 k.x2 _ _ _ _ _ _ _ part.x2 are.x2 (t1.counts X Two) (t2.counts X Two) (t3.counts X Two)
      (t4.counts X Two) (t5.counts X Two) (t6.counts X Two);
  y1 = third p.y1 k.y1 _ _ _ _ _ _ _ part.y1 are.y1 (t1.counts Y One) (t2.counts Y One) (t3.counts Y One)
      (t4.counts Y One) (t5.counts Y One) (t6.counts Y One);
  y2 = fourth p.y2 k.y2 _ _ _ _ _ _ _ part.y2 are.y2 (t1.counts Y Two) (t2.counts Y Two) (t3.counts Y Two)
      (t4.counts Y Two) (t5.counts Y Two) (t6.counts Y Two);
  z1 = fifth p.z1 k.z1 _ _ _ _ _ _ _ part.z1 are.z1 (t1.counts Z One) (t2.counts Z One) (t3.counts Z One)
      (t4.counts Z One) (t5.counts Z One) (t6.counts Z One);
  z2 = sixth p.z2 k.z2 _ _ _ _ _ _ _ part.z2 are.z2 (t1.counts Z Two) (t2.counts Z Two) (t3.counts Z Two)
      (t4.counts Z Two) (t5.counts Z Two) (t6.counts Z Two);
} where
  left : (p k n0 n1 n2 n3 n4 n5 n6 : ℕ) → k ≤ p → p ≡ n0 → n1 + (p - k) ≡ n0 → n2 + 0 ≡ n1 → n3 + 0 ≡ n2
      → n4 + 0 ≡ n3 → n5 + 0 ≡ n4 → n6 + 0 ≡ n5 → k ≡ n6
  left p k n0 n1 n2 n3 n4 n5 n6 le are a b c d e f = omega arith

  second : (p k n0 n1 n2 n3 n4 n5 n6 : ℕ) → k ≤ p → p ≡ n0 → n1 + 0 ≡ n0 → n2 + (p - k) ≡ n1 → n3 + 0 ≡ n2
      → n4 + 0 ≡ n3 → n5 + 0 ≡ n4 → n6 + 0 ≡ n5 → k ≡ n6
  second p k n0 n1 n2 n3 n4 n5 n6 le are a b c d e f = omega arith

  third : (p k n0 n1 n2 n3 n4 n5 n6 : ℕ) → k ≤ p → p ≡ n0 → n1 + 0 ≡ n0 → n2 + 0 ≡ n1 → n3 + (p - k) ≡ n2
      → n4 + 0 ≡ n3 → n5 + 0 ≡ n4 → n6 + 0 ≡ n5 → k ≡ n6
  third p k n0 n1 n2 n3 n4 n5 n6 le are a b c d e f = omega arith

  fourth : (p k n0 n1 n2 n3 n4 n5 n6 : ℕ) → k ≤ p → p ≡ n0 → n1 + 0 ≡ n0 → n2 + 0 ≡ n1 → n3 + 0 ≡ n2
      → n4 + (p - k) ≡ n3 → n5 + 0 ≡ n4 → n6 + 0 ≡ n5 → k ≡ n6
  fourth p k n0 n1 n2 n3 n4 n5 n6 le are a b c d e f = omega arith

  fifth : (p k n0 n1 n2 n3 n4 n5 n6 : ℕ) → k ≤ p → p ≡ n0 → n1 + 0 ≡ n0 → n2 + 0 ≡ n1 → n3 + 0 ≡ n2
      → n4 + 0 ≡ n3 → n5 + (p - k) ≡ n4 → n6 + 0 ≡ n5 → k ≡ n6
  fifth p k n0 n1 n2 n3 n4 n5 n6 le are a b c d e f = omega arith

  sixth : (p k n0 n1 n2 n3 n4 n5 n6 : ℕ) → k ≤ p → p ≡ n0 → n1 + 0 ≡ n0 → n2 + 0 ≡ n1 → n3 + 0 ≡ n2
      → n4 + 0 ≡ n3 → n5 + 0 ≡ n4 → n6 + (p - k) ≡ n5 → k ≡ n6
  sixth p k n0 n1 n2 n3 n4 n5 n6 le are a b c d e f = omega arith

-- what is beyond is there still, once pieces of other kinds and widths were taken
pub enough-2 : (p k n0 n1 n2 : ℕ) → p ≡ n0 → n1 + 0 ≡ n0 → n2 + 0 ≡ n1 → p - k ≤ n2
enough-2 p k n0 n1 n2 are a b = omega arith

pub enough-3 : (p k n0 n1 n2 n3 : ℕ) → p ≡ n0 → n1 + 0 ≡ n0 → n2 + 0 ≡ n1 → n3 + 0 ≡ n2 → p - k ≤ n3
enough-3 p k n0 n1 n2 n3 are a b c = omega arith

pub enough-4 :
    (p k n0 n1 n2 n3 n4 : ℕ) → p ≡ n0 → n1 + 0 ≡ n0 → n2 + 0 ≡ n1 → n3 + 0 ≡ n2 → n4 + 0 ≡ n3 → p - k ≤ n4
enough-4 p k n0 n1 n2 n3 n4 are a b c d = omega arith

pub enough-5 :
    (p k n0 n1 n2 n3 n4 n5 : ℕ) → p ≡ n0 → n1 + 0 ≡ n0 → n2 + 0 ≡ n1 → n3 + 0 ≡ n2 → n4 + 0 ≡ n3 → n5 + 0 ≡ n4
    → p - k ≤ n5
enough-5 p k n0 n1 n2 n3 n4 n5 are a b c d e = omega arith

-- where no variable was removed yet
pub without-none : (board : Puzzle) (none : List ℕ) → none ≡ [] → AreApart board → IsWithout board none board
without-none board none is apart = record {
  board = ap (λ (vs : List ℕ). without_variables board vs) (sym is);
  once = λ v.
      subst (λ (vs : List ℕ). occurrences v vs + holders v (remaining board) ≤ 1) (sym is)
      (omega (arith, apart v));
}
