-- The blocks of a `switch`: those of its labelled statements lie before those of its comparisons.
use Rattle.std.proofs.Common.{◌≡◌, ℕ, suc, ◌+◌, Bool, true, false, ℤ, List, [], ◌∷◌, ◌++◌, Option, Some, None}
use Rattle.std.proofs.Common.{refl, sym, ap, ◌∙◌, subst, arith, length, length-append}
use Rattle.std.specs.Prelude.{if◌then◌else◌}
use Rattle.std.specs.List.{AllByRecursion}
use Rattle.c_tree.specs.declared.statement.Label.{Label}
use Rattle.flow_graph.specs.declared.op.Op.TheVariants as op
use Rattle.lower_lines.specs.Following.{Closes}
use Rattle.lower_lines.specs.Lines.{Line}
use Rattle.lower_lines.specs.Parts.{Part, operand}
use Rattle.lower_lines.specs.Statements.{To, Exits, Run, Case, body_blocks, body_lines, case_of, cases_of}
use Rattle.lower_lines.specs.Statements.{comparing, comparing_blocks, default_block, exit_blocks, exit_lines, exit_of}
use Rattle.lower_lines.specs.Statements.{has_label, labelled_before, labelled_from, opening, opening_blocks}
use Rattle.lower_lines.specs.Statements.{sequence_blocks, sequence_lines, switch_run, towards}
use Rattle.lower_lines.specs.Variables.{Context}
use Rattle.lower_lines.proofs.Constructs.{IsLaid, operand-laid}
use Rattle.lower_lines.proofs.Filling.{Lays, end-lays, emit-lays, lays-to, none-lays, one, start-lays}
use Rattle.lower_lines.proofs.Filling.{starting, starting-append, under}
use Rattle.lower_lines.proofs.Statements.{IsLaidRun, NumberedAt, Numbers, exit-lays, is_unlabelled, sequences}
use Rattle.lower_lines.proofs.Statements.{stays}
use Rattle.lower_lines.proofs.Standing.{closes-append}

-- ---- labels

numbered : (t : Bool) (base m : ℕ)
    → NumberedAt (if t then Some (base + m) else None) (base + m) (base + (m + (if t then 1 else 0)))
numbered true base m = (refl, omega arith)
numbered false base m = omega arith

label-numbers : (base : ℕ) (labels : List Label)
    → Numbers (labelled_from base labels) (λ place. base + labelled_before labels place)
label-numbers base labels place = numbered (has_label labels place) base (labelled_before labels place)

towards-alike : (r : Run) → IsLaidRun r → (t : Bool) (x y : ℕ)
    → r.blocks (towards (if t then Some x else None)) ≡ r.blocks (towards (if t then Some y else None))
towards-alike r h true x y = h.alike x ∙ sym (h.alike y)
towards-alike r h false x y = refl

-- the blocks of the body don't depend on where those of the labels begin
sequence-alike : (labels : List Label) (first other place : ℕ) (rs : List Run) → AllByRecursion IsLaidRun rs
    → sequence_blocks (labelled_from first labels) place rs (To other)
    ≡ sequence_blocks (labelled_from 0 labels) place rs (To 0)
sequence-alike labels first other place [] h = refl
sequence-alike labels first other place (r ∷ []) h = h.0.alike other
sequence-alike labels first other place (r ∷ q ∷ rs) h =
    let e = towards-alike r h.0 (has_label labels (suc place)) (first + labelled_before labels (suc place))
    (0 + labelled_before labels (suc place)) in
    let k = sequence-alike labels first other (suc place) (q ∷ rs) h.1 in
    omega (arith, e, k)

body-alike : (labels : List Label) (first other : ℕ) (rs : List Run) → AllByRecursion IsLaidRun rs
    → body_blocks (labelled_from first labels) (has_label labels 0) rs (To other)
    ≡ body_blocks (labelled_from 0 labels) (has_label labels 0) rs (To 0)
body-alike labels first other [] h = refl
body-alike labels first other (r ∷ rs) h =
    ap (λ (n : ℕ). opening_blocks (has_label labels 0) + n) (sequence-alike labels first other 0 (r ∷ rs) h)

-- ---- the body

opening-fills : (b : ℕ) (t : Bool) (block : ℕ)
    → starting b (opening t block) + under b block ≡ under b (block + opening_blocks t)
opening-fills b true block = let e : block ≡ block + 0 = omega arith in rw (← e) (omega arith)
opening-fills b false block =
    let o = one b block (suc block) refl in
    let e : suc block ≡ block + 1 = omega arith in
    rw (← e) (omega (arith, o))

opening-closes : (t : Bool) (block x : ℕ)
    → Closes false (opening t block) (is_unlabelled (if t then Some x else None))
opening-closes true block x = refl
opening-closes false block x = (refl, refl)

record Bodied (c : Context) (labels : List Label) (first : ℕ) (rs : List Run) (exits : Exits) (block other : ℕ)
    : Type 0 where
  pub fills : (b : ℕ) → starting b (body_lines c (labelled_from first labels) (has_label labels 0) rs exits block
      (To other)) + under b block + under b first
      ≡ under b (block + body_blocks (labelled_from 0 labels) (has_label labels 0) rs (To 0))
      + under b (first + labelled_before labels (length rs))
  pub closes : Closes false (body_lines c (labelled_from first labels) (has_label labels 0) rs exits block (To other))
      false

bodied : (c : Context) (labels : List Label) (first : ℕ) (rs : List Run) → AllByRecursion IsLaidRun rs
    → (exits : Exits) (block other : ℕ) → Bodied c labels first rs exits block other
bodied c labels first [] h exits block other = record {
  fills = λ b.
      let e : block ≡ block + 0 = omega arith in
      let e' : first ≡ first + 0 = omega arith in
      rw (← e) (rw (← e') (omega arith));
  closes = refl;
}
bodied c labels first (r ∷ rs) h exits block other =
    let t = has_label labels 0 in
    let start = block + opening_blocks t in
    let s = sequences (labelled_from first labels) (λ place. first + labelled_before labels place)
    (label-numbers first labels) c 0 r rs h.0 h.1 exits start (To other) in
    let lines = sequence_lines c (labelled_from first labels) 0 (r ∷ rs) exits start (To other) in
    record {
      fills = λ b.
          let e = starting-append b (opening t block) lines in
          let o = opening-fills b t block in
          let f = s.fills b in
          let g : first + 0 ≡ first = omega arith in
          let f' : starting b lines + under b start + under b first
          ≡ under b (start + sequence_blocks (labelled_from first labels) 0 (r ∷ rs) (To other))
          + under b (first + labelled_before labels (0 + length (r ∷ rs)))
          = subst (λ (n : ℕ). starting b lines + under b start + under b n
          ≡ under b (start + sequence_blocks (labelled_from first labels) 0 (r ∷ rs) (To other))
          + under b (first + labelled_before labels (0 + length (r ∷ rs)))) g f in
          let alike = sequence-alike labels first other 0 (r ∷ rs) h in
          let last : start + sequence_blocks (labelled_from first labels) 0 (r ∷ rs) (To other)
          ≡ block + (opening_blocks t + sequence_blocks (labelled_from 0 labels) 0 (r ∷ rs) (To 0))
          = omega (arith, alike) in
          let k : first + labelled_before labels (0 + length (r ∷ rs))
          ≡ first + labelled_before labels (length (r ∷ rs))
          = ap (λ (n : ℕ). first + labelled_before labels n) (plain (length (r ∷ rs))) in
          rw (← last) (rw (← k) (omega (arith, e, o, f')));
      closes = closes-append false (is_unlabelled (labelled_from first labels 0)) false (opening t block) lines
          (opening-closes t block (first + labelled_before labels 0)) s.closes;
    }
  where
    plain : (n : ℕ) → 0 + n ≡ n
    plain n = omega arith

-- ---- comparisons

pub comparing-lays : (c : Context) (x otherwise : ℕ) (cases : List Case) (block : ℕ)
    → Lays block (block + comparing_blocks cases) true false (comparing c x otherwise cases block)
comparing-lays c x otherwise [] block = lays-to block block block (block + 0) refl (omega arith)
    (end-lays block block false (op.Jump otherwise) [] refl (none-lays block false))
comparing-lays c x otherwise (one ∷ []) block = lays-to block block block (block + 0) refl (omega arith)
    (emit-lays block block false _ _ refl (end-lays block block false _ [] refl (none-lays block false)))
comparing-lays c x otherwise (one ∷ other ∷ cases) block =
    let n = comparing_blocks (other ∷ cases) in
    lays-to block (suc block + n) block (block + suc n) refl (omega arith)
    (emit-lays block (suc block + n) false _ _ refl (end-lays block (suc block + n) false _ _ refl
    (start-lays block (suc block + n) false _ (comparing-lays c x otherwise (other ∷ cases) (suc block)))))

case-length : (value : Option ℤ) (x y : ℕ) → length (case_of value x) ≡ length (case_of value y)
case-length None x y = refl
case-length (Some v) x y = refl

cases-length : (x y : ℕ) (all labels : List Label) → length (cases_of x all labels) ≡ length (cases_of y all labels)
cases-length x y all [] = refl
cases-length x y all (label ∷ labels) =
    let m = labelled_before all label.before in
    let e = case-length label.value (x + m) (y + m) in
    let h = cases-length x y all labels in
    let l = length-append (case_of label.value (x + m)) (cases_of x all labels) in
    let l' = length-append (case_of label.value (y + m)) (cases_of y all labels) in
    omega (arith, e, h, l, l')

pub comparing-same : (xs ys : List Case) → length xs ≡ length ys → comparing_blocks xs ≡ comparing_blocks ys
comparing-same [] [] e = refl
comparing-same [] (y ∷ ys) e = absurd (omega (arith, e))
comparing-same (x ∷ xs) [] e = absurd (omega (arith, e))
comparing-same (x ∷ []) (y ∷ []) e = refl
comparing-same (x ∷ []) (y ∷ z ∷ ys) e = absurd (omega (arith, e))
comparing-same (x ∷ z ∷ xs) (y ∷ []) e = absurd (omega (arith, e))
comparing-same (x ∷ v ∷ xs) (y ∷ w ∷ ys) e =
    let h = comparing-same (v ∷ xs) (w ∷ ys) (omega (arith, e)) in omega (arith, h)

-- ---- the whole

switch-shape : (block first x l m n k : ℕ) (q : Bool) (X C B E : List Line) → first ≡ block + x
    → Lays (first + l + m) (first + l + m + n) true true X → Lays (first + l) (first + l + m) true false C
    → ((b : ℕ) → starting b B + under b (first + l + m + n) + under b first
    ≡ under b (first + l + m + n + k) + under b (first + l)) → Closes false B false → Lays block (block + x) false q E
    → Lays block (block + (x + (l + m + n + k))) true q (X ++ (C ++ (B ++ E)))
switch-shape block first x l m n k q X C B E is hx hc hb close he = record {
  fills = λ b.
      let p = starting-append b X (C ++ (B ++ E)) in
      let p' = starting-append b C (B ++ E) in
      let p'' = starting-append b B E in
      let fx = hx.fills b in
      let fc = hc.fills b in
      let fb = hb b in
      let fe : starting b E + under b block ≡ under b first = rw is (he.fills b) in
      let g : first + l + m + n + k ≡ block + (x + (l + m + n + k)) = omega (arith, is) in
      rw (← g) (omega (arith, p, p', p'', fx, fc, fb, fe));
  closes = closes-append true true q X (C ++ (B ++ E)) hx.closes
      (closes-append true false q C (B ++ E) hc.closes (closes-append false false q B E close he.closes));
}

pub switch-laid : (c : Context) (n : ℕ) (e : Part) (labels : List Label) (rs : List Run) → IsLaid e
    → AllByRecursion IsLaidRun rs → IsLaidRun (switch_run c n e labels rs)
switch-laid c n e labels rs h hs = record {
  lays = λ exits block after.
      let exit = exit_of block after in
      let first = block + exit_blocks after in
      let cases = cases_of first labels labels in
      let l = labelled_before labels (length rs) in
      let m = comparing_blocks cases in
      let x = operand c true e in
      let inner : Exits = record { breaks = exit; continues = exits.continues } in
      let k = body_blocks (labelled_from 0 labels) (has_label labels 0) rs (To 0) in
      let body = bodied c labels first rs hs inner (first + l + m + x.blocks) exit in
      let same : m ≡ comparing_blocks (cases_of 0 labels labels) =
      comparing-same cases (cases_of 0 labels labels) (cases-length first 0 labels labels) in
      let sum : exit_blocks after + (l + m + x.blocks + k)
      ≡ exit_blocks after + (l + comparing_blocks (cases_of 0 labels labels) + x.blocks + k) = omega (arith, same) in
      emit-lays block (block + (exit_blocks after + (l + comparing_blocks (cases_of 0 labels labels) + x.blocks + k)))
      (stays after) (op.Mark n) _ refl
      (lays-to block (block + (exit_blocks after + (l + m + x.blocks + k))) block
      (block + (exit_blocks after + (l + comparing_blocks (cases_of 0 labels labels) + x.blocks + k))) refl
      (ap (λ (n : ℕ). block + n) sum)
      (switch-shape block first (exit_blocks after) l m x.blocks k (stays after)
      (x.lines (first + l + m) 0)
      (comparing c (x.spot 0).number (default_block exit first labels) cases (first + l))
      (body_lines c (labelled_from first labels) (has_label labels 0) rs inner (first + l + m + x.blocks) (To exit))
      (exit_lines c block after) refl
      ((operand-laid c true e h).lays (first + l + m) 0)
      (comparing-lays c (x.spot 0).number (default_block exit first labels) cases (first + l))
      body.fills body.closes (exit-lays c block after)));
  alike = λ other. refl;
}
