-- Lines of several pieces, and the blocks that they start.
use Rattle.std.proofs.Common.{◌≡◌, ℕ, suc, ◌+◌, Bool, true, false, List, [], ◌∷◌, ◌++◌}
use Rattle.std.proofs.Common.{refl, arith}
use Rattle.flow_graph.specs.declared.op.Op.TheVariants as op
use Rattle.lower_lines.specs.Lines.{Line, Start, Emit}
use Rattle.lower_lines.proofs.Filling.{Lays, lays-then, lays-to, one, starting-append}
use Rattle.lower_lines.proofs.Standing.{closes-append}

-- two and three pieces, whose blocks come one after another
pub two-lays : (block l m : ℕ) (o p q : Bool) (X Y : List Line) → Lays block (block + l) o p X
    → Lays (block + l) (block + l + m) p q Y → Lays block (block + (l + m)) o q (X ++ Y)
two-lays block l m o p q X Y x y = lays-to block (block + l + m) block (block + (l + m)) refl (omega arith)
    (lays-then block (block + l) (block + l + m) o p q X Y x y)

pub three-lays : (block l m n : ℕ) (q : Bool) (X Y Z : List Line) → Lays block (block + l) true true X
    → Lays (block + l) (block + l + m) true true Y → Lays (block + l + m) (block + l + m + n) true q Z
    → Lays block (block + (l + m + n)) true q (X ++ (Y ++ Z))
three-lays block l m n q X Y Z x y z = lays-to block (block + l + m + n) block (block + (l + m + n)) refl (omega arith)
    (lays-then block (block + l) (block + l + m + n) true true q X (Y ++ Z) x
    (lays-then (block + l) (block + l + m) (block + l + m + n) true true q Y Z y z))

-- a test, and a block behind it that is the first of all
pub chain-lays : (block m n : ℕ) (q : Bool) (X Y : List Line) → Lays (suc block) (suc block + m) true false X
    → Lays (suc block + m) (suc block + m + n) true q Y
    → Lays block (block + (1 + m + n)) true q (X ++ (Start block ∷ Y))
chain-lays block m n q X Y x y = record {
  fills = λ b.
      let e = starting-append b X (Start block ∷ Y) in
      let ex = x.fills b in
      let ey = y.fills b in
      let a = one b block (suc block) refl in
      let g : suc block + m + n ≡ block + (1 + m + n) = omega arith in
      rw (← g) (omega (arith, e, ex, ey, a));
  closes = closes-append true false q X (Start block ∷ Y) x.closes (refl, y.closes);
}

-- the same where nothing is wanted: there is a block behind both
pub dropped-lays : (block m n : ℕ) (X Y : List Line) → Lays (block + 2) (block + 2 + m) true false X
    → Lays (block + 2 + m) (block + 2 + m + n) true true Y
    → Lays block (block + (2 + m + n)) true true
    (X ++ (Start block ∷ (Y ++ (Emit (op.Jump (suc block)) ∷ Start (suc block) ∷ []))))
dropped-lays block m n X Y x y =
    let end : List Line = Emit (op.Jump (suc block)) ∷ Start (suc block) ∷ [] in
    record {
      fills = λ b.
          let e = starting-append b X (Start block ∷ (Y ++ end)) in
          let e' = starting-append b Y end in
          let ex = x.fills b in
          let ey = y.fills b in
          let a = one b block (suc block) refl in
          let a' = one b (suc block) (block + 2) (omega arith) in
          let g : block + 2 + m + n ≡ block + (2 + m + n) = omega arith in
          rw (← g) (omega (arith, e, e', ex, ey, a, a'));
      closes = closes-append true false true X (Start block ∷ (Y ++ end)) x.closes
          (refl, closes-append true true true Y end y.closes (refl, (refl, refl)));
    }

-- two ways behind a test, which both end
pub ways-lays : (block l m n : ℕ) (X Y Z : List Line) → Lays (block + 2) (block + 2 + l) true false X
    → Lays (block + 2 + l) (block + 2 + l + m) true false Y
    → Lays (block + 2 + l + m) (block + 2 + l + m + n) true false Z
    → Lays block (block + (2 + l + m + n)) true false (X ++ (Start block ∷ (Y ++ (Start (suc block) ∷ Z))))
ways-lays block l m n X Y Z x y z = record {
  fills = λ b.
      let e = starting-append b X (Start block ∷ (Y ++ (Start (suc block) ∷ Z))) in
      let e' = starting-append b Y (Start (suc block) ∷ Z) in
      let ex = x.fills b in
      let ey = y.fills b in
      let ez = z.fills b in
      let a = one b block (suc block) refl in
      let a' = one b (suc block) (block + 2) (omega arith) in
      let g : block + 2 + l + m + n ≡ block + (2 + l + m + n) = omega arith in
      rw (← g) (omega (arith, e, e', ex, ey, ez, a, a'));
  closes = closes-append true false false X (Start block ∷ (Y ++ (Start (suc block) ∷ Z))) x.closes
      (refl, closes-append true false false Y (Start (suc block) ∷ Z) y.closes (refl, z.closes));
}

-- two ways that meet again
pub meeting-lays : (block l m n : ℕ) (X Y Z : List Line) → Lays (block + 3) (block + 3 + l) true false X
    → Lays (block + 3 + l) (block + 3 + l + m) true true Y
    → Lays (block + 3 + l + m) (block + 3 + l + m + n) true true Z
    → Lays block (block + (3 + l + m + n)) true true
    (X ++ (Start block ∷ (Y ++ (Emit (op.Jump (block + 2)) ∷ (Start (suc block) ∷ (Z
    ++ (Emit (op.Jump (block + 2)) ∷ Start (block + 2) ∷ [])))))))
meeting-lays block l m n X Y Z x y z =
    let end : List Line = Emit (op.Jump (block + 2)) ∷ Start (block + 2) ∷ [] in
    let behind : List Line = Emit (op.Jump (block + 2)) ∷ (Start (suc block) ∷ (Z ++ end)) in
    record {
      fills = λ b.
          let e = starting-append b X (Start block ∷ (Y ++ behind)) in
          let e' = starting-append b Y behind in
          let e'' = starting-append b Z end in
          let ex = x.fills b in
          let ey = y.fills b in
          let ez = z.fills b in
          let a = one b block (suc block) refl in
          let a' = one b (suc block) (block + 2) (omega arith) in
          let a'' = one b (block + 2) (block + 3) (omega arith) in
          let g : block + 3 + l + m + n ≡ block + (3 + l + m + n) = omega arith in
          rw (← g) (omega (arith, e, e', e'', ex, ey, ez, a, a', a''));
      closes = closes-append true false true X (Start block ∷ (Y ++ behind)) x.closes (
        refl,
        closes-append true true true Y behind y.closes
            (refl, (refl, closes-append true true true Z end z.closes (refl, (refl, refl)))),
      );
    }
