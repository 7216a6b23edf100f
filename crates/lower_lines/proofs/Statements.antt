-- The blocks of each construct of statements: its lines start each of them once, and close what they open.
use Rattle.std.proofs.Common.{◌≡◌, ℕ, suc, ◌+◌, Bool, true, false, List, [], ◌∷◌, ◌++◌, Option, Some, None}
use Rattle.std.proofs.Common.{refl, sym, ap, subst, arith, length}
use Rattle.std.specs.Prelude.{if◌then◌else◌}
use Rattle.std.specs.List.{AllByRecursion}
use Rattle.c_tree.specs.declared.types.ValueType.{ValueType}
use Rattle.c_tree.specs.declared.types.ValueType.TheVariants.{Void, Integer, Pointer}
use Rattle.c_tree.specs.Program.{Expression}
use Rattle.c_tree.specs.WellTyped.{IsScalar}
use Rattle.flow_graph.specs.declared.op.Op.TheVariants as op
use Rattle.lower_lines.specs.Expressions.{part_of, test_blocks_of}
use Rattle.lower_lines.specs.Following.{Closes}
use Rattle.lower_lines.specs.Lines.{Line, Start, Emit}
use Rattle.lower_lines.specs.Parts.{Dropped, Tests, Part}
use Rattle.lower_lines.specs.Statements.{After, Here, To, Leaves, Exits, Run, Labelled, after_blocks}
use Rattle.lower_lines.specs.Statements.{after_lines, block_run}
use Rattle.lower_lines.specs.Statements.{continue_block, dead, dead_blocks, do_run, ending}
use Rattle.lower_lines.specs.Statements.{exit_blocks, exit_lines, exit_of, if_run}
use Rattle.lower_lines.specs.Statements.{leaving, left_by, loop_blocks, loop_lines, none_labelled, onward}
use Rattle.lower_lines.specs.Statements.{second_block, second_blocks, second_lines}
use Rattle.lower_lines.specs.Statements.{sequence_blocks, sequence_lines, started, straight, test_blocks_if_any}
use Rattle.lower_lines.specs.Statements.{test_if_any, towards}
use Rattle.lower_lines.specs.Variables.{Context, own}
use Rattle.lower_lines.proofs.Constructs.{IsLaid, test-laid}
use Rattle.lower_lines.proofs.Filling.{Lays, end-lays, emit-lays, lays-then, lays-to, none-lays, one}
use Rattle.lower_lines.proofs.Filling.{lays-swap, start-lays, starting, starting-append}
use Rattle.lower_lines.proofs.Filling.{under}
use Rattle.lower_lines.proofs.Standing.{closes-append}

-- whether a block is open behind a statement
abbrev pub stays : After → Bool
stays Here = true
stays (To block) = false
stays Leaves = false

-- the lines of a statement start the blocks from one on, as many as it says
pub record IsLaidRun (r : Run) : Type 0 where
  pub lays : (exits : Exits) (block : ℕ) (after : After)
      → Lays block (block + r.blocks after) true (stays after) (r.lines exits block after)
  pub alike : (other : ℕ) → r.blocks (To other) ≡ r.blocks (To 0)

-- ---- where control goes

left-lays : (c : Context) (lo : ℕ) (of : ValueType) → Lays lo lo true false (left_by of c)
left-lays c lo Void = end-lays lo lo false (op.Return None) [] refl (none-lays lo false)
left-lays c lo (Integer t) = emit-lays lo lo false _ _ refl
    (end-lays lo lo false (op.Return (Some (own c 0).number)) [] refl (none-lays lo false))
left-lays c lo (Pointer t) = emit-lays lo lo false _ _ refl
    (end-lays lo lo false (op.Return (Some (own c 0).number)) [] refl (none-lays lo false))

pub onward-lays : (c : Context) (lo : ℕ) (after : After) → Lays lo lo true (stays after) (onward c after)
onward-lays c lo Here = none-lays lo true
onward-lays c lo (To block) = end-lays lo lo false (op.Jump block) [] refl (none-lays lo false)
onward-lays c lo Leaves = left-lays c lo c.function.result

-- a block that is started alone
alone-lays : (block : ℕ) (q : Bool) (lines : List Line) → Lays (suc block) (suc block) true q lines
    → Lays block (block + 1) false q (Start block ∷ lines)
alone-lays block q lines h = lays-to block (suc block) block (block + 1) refl (omega arith)
    (start-lays block (suc block) q lines h)

nothing-lays : (block : ℕ) → Lays block (block + 0) false false []
nothing-lays block = lays-to block block block (block + 0) refl (omega arith) (none-lays block false)

dead-lays : (block : ℕ) (after : After) → Lays block (block + dead_blocks after) false (stays after) (dead block after)
dead-lays block Here = alone-lays block true [] (none-lays (suc block) true)
dead-lays block (To other) = nothing-lays block
dead-lays block Leaves = nothing-lays block

pub exit-lays : (c : Context) (block : ℕ) (after : After)
    → Lays block (block + exit_blocks after) false (stays after) (exit_lines c block after)
exit-lays c block Here = alone-lays block true [] (none-lays (suc block) true)
exit-lays c block (To other) = nothing-lays block
exit-lays c block Leaves = alone-lays block false (leaving c) (left-lays c (suc block) c.function.result)

pub straight-laid : (c : Context) (levels n : ℕ) (lines : ℕ → List Line)
    → ((block : ℕ) → Lays block (block + n) true true (lines block)) → IsLaidRun (straight c levels n lines)
straight-laid c levels n lines h = record {
  lays = λ exits block after. lays-then block (block + n) (block + n) true true (stays after) (lines block)
      (onward c after) (h block) (onward-lays c (block + n) after);
  alike = λ other. refl;
}

pub ending-laid : (levels n : ℕ) (lines : Exits → ℕ → List Line)
    → ((exits : Exits) (block : ℕ) → Lays block (block + n) true false (lines exits block))
    → IsLaidRun (ending levels n lines)
ending-laid levels n lines h = record {
  lays = λ exits block after.
      let d = dead_blocks after in
      lays-to block (block + d + n) block (block + (n + d)) refl (omega arith)
      (lays-swap block (block + d) (block + d + n) true false (stays after) (lines exits (block + d)) (dead block after)
      (h exits (block + d)) (dead-lays block after));
  alike = λ other. refl;
}

-- ---- `if`

second-lays : (t : Bool) (second n : ℕ) (lines : List Line) → Lays (suc second) (suc second + n) true false lines
    → Lays second (second + (if t then 0 else suc n)) false false (second_lines t second lines)
second-lays true second n lines h = nothing-lays second
second-lays false second n lines h = lays-to second (suc second + n) second (second + suc n) refl (omega arith)
    (start-lays second (suc second + n) false lines h)

ways-run : (block first x l m n : ℕ) (q : Bool) (T A S E : List Line) → first ≡ block + x
    → Lays (suc first) (suc first + l) true false T → Lays (suc first + l) (suc first + l + m) true false A
    → Lays (suc first + l + m) (suc first + l + m + n) false false S → Lays block (block + x) false q E
    → Lays block (block + (x + suc (l + m + n))) true q (T ++ (Start first ∷ (A ++ (S ++ E))))
ways-run block first x l m n q T A S E is t a s e = record {
  fills = λ b.
      let p = starting-append b T (Start first ∷ (A ++ (S ++ E))) in
      let p' = starting-append b A (S ++ E) in
      let p'' = starting-append b S E in
      let ft = t.fills b in
      let fa = a.fills b in
      let fs = s.fills b in
      let fe : starting b E + under b block ≡ under b first = rw is (e.fills b) in
      let o = one b first (suc first) refl in
      let g : suc first + l + m + n ≡ block + (x + suc (l + m + n)) = omega (arith, is) in
      rw (← g) (omega (arith, p, p', p'', ft, fa, fs, fe, o));
  closes = closes-append true false q T (Start first ∷ (A ++ (S ++ E))) t.closes
      (refl, closes-append true false q A (S ++ E) a.closes (closes-append false false q S E s.closes e.closes));
}

-- lines of a statement that goes to a block
to-lays : (r : Run) → IsLaidRun r → (exits : Exits) (block other : ℕ)
    → Lays block (block + r.blocks (To 0)) true false (r.lines exits block (To other))
to-lays r h exits block other = lays-to block (block + r.blocks (To other)) block (block + r.blocks (To 0)) refl
    (ap (λ (n : ℕ). block + n) (h.alike other)) (h.lays exits block (To other))

pub if-laid : (c : Context) (n : ℕ) (e : Part) (a b : Run) → IsLaid e → IsScalar e.of → IsLaidRun a → IsLaidRun b
    → IsLaidRun (if_run c n e a b)
if-laid c n e a b h s k m = record {
  lays = λ exits block after.
      let exit = exit_of block after in
      let first = block + exit_blocks after in
      let second = suc first + test_blocks_of e + a.blocks (To 0) in
      emit-lays block (block + (exit_blocks after + suc (test_blocks_of e + a.blocks (To 0) + second_blocks b)))
      (stays after) (op.Mark n) _ refl
      (ways-run block first (exit_blocks after) (test_blocks_of e) (a.blocks (To 0)) (second_blocks b) (stays after)
      (e.lines (suc first) 0 (Tests first (second_block b.nothing exit second)))
      (a.lines exits (suc first + test_blocks_of e) (To exit))
      (second_lines b.nothing second (b.lines exits (suc second) (To exit))) (exit_lines c block after) refl
      (test-laid e h s (suc first) 0 first (second_block b.nothing exit second))
      (to-lays a k exits (suc first + test_blocks_of e) exit)
      (second-lays b.nothing second (b.blocks (To 0)) (b.lines exits (suc second) (To exit))
      (to-lays b m exits (suc second) exit))
      (exit-lays c block after));
  alike = λ other. refl;
}

-- ---- loops

-- what a loop has in its turn
loop-run : (block start x l m n : ℕ) (q : Bool) (T B A E : List Line) → start ≡ block + x
    → Lays (suc start) (suc start + l) true true T → Lays (suc start + l) (suc start + l + m) true false B
    → Lays (suc start + l + m) (suc start + l + m + n) false false A → Lays block (block + x) false q E
    → Lays block (block + (x + suc (l + m + n))) true q
    (Emit (op.Jump start) ∷ Start start ∷ Emit op.Turn ∷ (T ++ (B ++ (A ++ E))))
loop-run block start x l m n q T B A E is t d a e = record {
  fills = λ b.
      let p = starting-append b T (B ++ (A ++ E)) in
      let p' = starting-append b B (A ++ E) in
      let p'' = starting-append b A E in
      let ft = t.fills b in
      let fd = d.fills b in
      let fa = a.fills b in
      let fe : starting b E + under b block ≡ under b start = rw is (e.fills b) in
      let o = one b start (suc start) refl in
      let g : suc start + l + m + n ≡ block + (x + suc (l + m + n)) = omega (arith, is) in
      rw (← g) (omega (arith, p, p', p'', ft, fd, fa, fe, o));
  closes = (
    refl,
    (
      refl,
      (
        refl,
        closes-append true true q T (B ++ (A ++ E)) t.closes
            (closes-append true false q B (A ++ E) d.closes (closes-append false false q A E a.closes e.closes)),
      ),
    ),
  );
}

-- the parts of a loop, where its expressions are laid
abbrev pub IsLaidTest : Context → Option Expression → Type 0
IsLaidTest c None = Unit {0}
IsLaidTest c (Some e) = IsLaid (part_of c e) × IsScalar (part_of c e).of

abbrev pub IsLaidAny : Context → Option Expression → Type 0
IsLaidAny c None = Unit {0}
IsLaidAny c (Some e) = IsLaid (part_of c e)

test-any-lays : (c : Context) (test : Option Expression) → IsLaidTest c test → (start exit : ℕ)
    → Lays (suc start) (suc start + test_blocks_if_any c test) true true
    (test_if_any c test (start + 2) (suc start) exit)
test-any-lays c None h start exit = lays-to (suc start) (suc start) (suc start) (suc start + 0) refl (omega arith)
    (none-lays (suc start) true)
test-any-lays c (Some e) h start exit =
    let n = test_blocks_of (part_of c e) in
    lays-to (suc start) (start + 2 + n) (suc start) (suc start + suc n) refl (omega arith)
    (lays-swap (suc start) (start + 2) (start + 2 + n) true false true
    ((part_of c e).lines (start + 2) 0 (Tests (suc start) exit)) (Start (suc start) ∷ [])
    (test-laid (part_of c e) h.0 h.1 (start + 2) 0 (suc start) exit)
    (lays-to (suc start) (suc (suc start)) (suc start) (start + 2) refl (omega arith)
    (start-lays (suc start) (suc (suc start)) true [] (none-lays (suc (suc start)) true))))

after-any-lays : (c : Context) (after : Option Expression) → IsLaidAny c after → (start behind : ℕ)
    → Lays behind (behind + after_blocks c after) false false (after_lines c after start behind)
after-any-lays c None h start behind = nothing-lays behind
after-any-lays c (Some e) h start behind =
    let n = (part_of c e).blocks Dropped in
    lays-to behind (suc behind + n) behind (behind + suc n) refl (omega arith)
    (start-lays behind (suc behind + n) false _
    (lays-then (suc behind) (suc behind + n) (suc behind + n) true true false
    ((part_of c e).lines (suc behind) 0 Dropped) (Emit (op.Jump start) ∷ []) (h.lays (suc behind) 0 Dropped tt)
    (end-lays (suc behind + n) (suc behind + n) false (op.Jump start) [] refl (none-lays (suc behind + n) false))))

pub loop-lays : (c : Context) (test after : Option Expression) (body : Run) → IsLaidTest c test → IsLaidAny c after
    → IsLaidRun body → (block : ℕ) (leave : After)
    → Lays block (block + loop_blocks c test after body leave) true (stays leave)
    (loop_lines c test after body block leave)
loop-lays c test after body ht ha hb block leave =
    let exit = exit_of block leave in
    let start = block + exit_blocks leave in
    let inside = suc start + test_blocks_if_any c test in
    let behind = inside + body.blocks (To 0) in
    let again = continue_block after start behind in
    loop-run block start (exit_blocks leave) (test_blocks_if_any c test) (body.blocks (To 0)) (after_blocks c after)
    (stays leave) (test_if_any c test (start + 2) (suc start) exit)
    (body.lines (record { breaks = exit; continues = again }) inside (To again)) (after_lines c after start behind)
    (exit_lines c block leave) refl (test-any-lays c test ht start exit)
    (to-lays body hb (record { breaks = exit; continues = again }) inside again)
    (after-any-lays c after ha start behind) (exit-lays c block leave)

do-shape : (block start x m n : ℕ) (q : Bool) (B T E : List Line) → start ≡ block + x
    → Lays (start + 2) (start + 2 + m) true false B → Lays (start + 2 + m) (start + 2 + m + n) true false T
    → Lays block (block + x) false q E
    → Lays block (block + (x + (2 + m + n))) true q
    (Emit (op.Jump start) ∷ Start start ∷ Emit op.Turn ∷ (B ++ (Start (suc start) ∷ (T ++ E))))
do-shape block start x m n q B T E is d t e = record {
  fills = λ b.
      let p = starting-append b B (Start (suc start) ∷ (T ++ E)) in
      let p' = starting-append b T E in
      let ft = t.fills b in
      let fd = d.fills b in
      let fe : starting b E + under b block ≡ under b start = rw is (e.fills b) in
      let o = one b start (suc start) refl in
      let o' = one b (suc start) (start + 2) (omega arith) in
      let g : start + 2 + m + n ≡ block + (x + (2 + m + n)) = omega (arith, is) in
      rw (← g) (omega (arith, p, p', ft, fd, fe, o, o'));
  closes = (
    refl,
    (
      refl,
      (
        refl,
        closes-append true false q B (Start (suc start) ∷ (T ++ E)) d.closes
            (refl, closes-append true false q T E t.closes e.closes),
      ),
    ),
  );
}

pub do-laid : (c : Context) (n : ℕ) (body : Run) (e : Part) → IsLaidRun body → IsLaid e → IsScalar e.of
    → IsLaidRun (do_run c n body e)
do-laid c n body e hb h s = record {
  lays = λ exits block after.
      let exit = exit_of block after in
      let start = block + exit_blocks after in
      let inside = start + 2 in
      emit-lays block (block + (exit_blocks after + (2 + body.blocks (To 0) + test_blocks_of e))) (stays after)
      (op.Mark n) _ refl
      (do-shape block start (exit_blocks after) (body.blocks (To 0)) (test_blocks_of e) (stays after)
      (body.lines (record { breaks = exit; continues = suc start }) inside (To (suc start)))
      (e.lines (inside + body.blocks (To 0)) 0 (Tests start exit)) (exit_lines c block after) refl
      (to-lays body hb (record { breaks = exit; continues = suc start }) inside (suc start))
      (test-laid e h s (inside + body.blocks (To 0)) 0 start exit) (exit-lays c block after));
  alike = λ other. refl;
}

-- ---- statements in order

-- A place that has a label takes the next block of those that labels have.
abbrev pub NumberedAt : Option ℕ → ℕ → ℕ → Type 0
NumberedAt None m n = m ≡ n
NumberedAt (Some block) m n = (block ≡ m) × (suc m ≡ n)

abbrev pub is_unlabelled : Option ℕ → Bool
is_unlabelled None = true
is_unlabelled (Some block) = false

started-fills : (b : ℕ) (o : Option ℕ) (m n : ℕ) → NumberedAt o m n
    → starting b (started o) + under b m ≡ under b n
started-fills b None m n h = rw (← h) (omega arith)
started-fills b (Some x) m n h = let o = one b m n h.1 in rw h.0 (omega (arith, o))

started-closes : (o : Option ℕ) → Closes (is_unlabelled o) (started o) true
started-closes None = refl
started-closes (Some x) = (refl, refl)

towards-stays : (o : Option ℕ) → stays (towards o) ≡ is_unlabelled o
towards-stays None = refl
towards-stays (Some x) = refl

-- the labels of places take the blocks from one on, as `before` counts them
abbrev pub Numbers : Labelled → (ℕ → ℕ) → Type 0
Numbers labelled before = (place : ℕ) → NumberedAt (labelled place) (before place) (before (suc place))

pub record Sequences (labelled : Labelled) (before : ℕ → ℕ) (c : Context) (place : ℕ) (rs : List Run) (exits : Exits)
    (block : ℕ) (after : After) : Type 0 where
  pub fills : (b : ℕ) → starting b (sequence_lines c labelled place rs exits block after) + under b block
      + under b (before place) ≡ under b (block + sequence_blocks labelled place rs after)
      + under b (before (place + length rs))
  pub closes : Closes (is_unlabelled (labelled place)) (sequence_lines c labelled place rs exits block after)
      (stays after)

pub sequences : (labelled : Labelled) (before : ℕ → ℕ) → Numbers labelled before → (c : Context) (place : ℕ) (r : Run)
    (rs : List Run) → IsLaidRun r → AllByRecursion IsLaidRun rs → (exits : Exits) (block : ℕ) (after : After)
    → Sequences labelled before c place (r ∷ rs) exits block after
sequences labelled before numbers c place r [] h hs exits block after = record {
  fills = λ b.
      let e = starting-append b (started (labelled place)) (r.lines exits block after) in
      let s = started-fills b (labelled place) (before place) (before (suc place)) (numbers place) in
      let f = (h.lays exits block after).fills b in
      let g : suc place ≡ place + 1 = omega arith in
      let k : before (suc place) ≡ before (place + 1) = ap before g in
      rw (← k) (omega (arith, e, s, f));
  closes = closes-append (is_unlabelled (labelled place)) true (stays after) (started (labelled place))
      (r.lines exits block after) (started-closes (labelled place)) (h.lays exits block after).closes;
}
sequences labelled before numbers c place r (q ∷ rs) h hs exits block after =
    let next = towards (labelled (suc place)) in
    let rest = sequences labelled before numbers c (suc place) q rs hs.0 hs.1 exits (block + r.blocks next) after in
    let lines = sequence_lines c labelled (suc place) (q ∷ rs) exits (block + r.blocks next) after in
    record {
      fills = λ b.
          let e = starting-append b (started (labelled place)) (r.lines exits block next ++ lines) in
          let e' = starting-append b (r.lines exits block next) lines in
          let s = started-fills b (labelled place) (before place) (before (suc place)) (numbers place) in
          let f = (h.lays exits block next).fills b in
          let f' = rest.fills b in
          let g : suc place + length (q ∷ rs) ≡ place + length (r ∷ q ∷ rs) = omega arith in
          let k : before (suc place + length (q ∷ rs)) ≡ before (place + length (r ∷ q ∷ rs)) = ap before g in
          let sum : block + r.blocks next + sequence_blocks labelled (suc place) (q ∷ rs) after
          ≡ block + (r.blocks next + sequence_blocks labelled (suc place) (q ∷ rs) after) = omega arith in
          rw (← k) (rw (← sum) (omega (arith, e, e', s, f, f')));
      closes = closes-append (is_unlabelled (labelled place)) true (stays after) (started (labelled place))
          (r.lines exits block next ++ lines) (started-closes (labelled place))
          (closes-append true (stays next) (stays after) (r.lines exits block next) lines
          (h.lays exits block next).closes
          (subst (λ (o : Bool). Closes o lines (stays after)) (sym (towards-stays (labelled (suc place))))
          rest.closes));
    }

none-numbers : Numbers none_labelled (λ place. 0)
none-numbers place = refl

none-alike : (place other : ℕ) (rs : List Run) → AllByRecursion IsLaidRun rs
    → sequence_blocks none_labelled place rs (To other) ≡ sequence_blocks none_labelled place rs (To 0)
none-alike place other [] h = refl
none-alike place other (r ∷ []) h = h.0.alike other
none-alike place other (r ∷ q ∷ rs) h = ap (λ (n : ℕ). r.blocks Here + n) (none-alike (suc place) other (q ∷ rs) h.1)

pub block-laid : (c : Context) (rs : List Run) → AllByRecursion IsLaidRun rs → IsLaidRun (block_run c rs)
block-laid c [] h = record {
  lays = λ exits block after. lays-to block block block (block + 0) refl (omega arith) (onward-lays c block after);
  alike = λ other. refl;
}
block-laid c (r ∷ rs) h = record {
  lays = λ exits block after.
      let s = sequences none_labelled (λ place. 0) none-numbers c 0 r rs h.0 h.1 exits block after in
      record {
        fills = λ b. let f = s.fills b in omega (arith, f);
        closes = s.closes;
      };
  alike = λ other. none-alike 0 other (r ∷ rs) h;
}
