-- The lines of a switch.
use Rattle.std.proofs.Common.{◌≡◌, ℕ, suc, ◌+◌, ◌<◌, List, [], ◌∷◌, ◌++◌, refl, sym, ap, ◌∙◌, arith, subst}
use Rattle.std.proofs.Common.{append_assoc, length, Option, Some, None, Bool, true, false}
use Rattle.std.specs.Prelude.{if◌then◌else◌}
use Rattle.c_tree.specs.declared.statement.Label.{Label}
use Rattle.c_tree.specs.declared.statement.Statement.{Statement}
use Rattle.c_tree.specs.Erased.{statements_of}
use Rattle.c_tree.specs.Program as typed
use Rattle.flow_graph.specs.declared.op.Op.TheVariants as op
use Rattle.lower_builder.specs.Built.{Built, Adds}
use Rattle.lower.specs.Walks.{AddsIf, has_start, switch_blocks, switch_front}
use Rattle.lower.specs.StartedBlocks.{starts_at}
use Rattle.lower.proofs.Alike.{alike}
use Rattle.lower.proofs.Comparisons.{blocks-same}
use Rattle.lower.proofs.Ordered.{runs}
use Rattle.lower.proofs.Whole.{exit-same}
use Rattle.lower_lines.specs.Expressions.{part_of}
use Rattle.lower_lines.specs.Lines.{Line, Emit}
use Rattle.lower_lines.specs.Parts.{Part, operand}
use Rattle.lower_lines.specs.Statements.{After, To, Case, Exits, Labelled, Run, cases_of, comparing, comparing_blocks}
use Rattle.lower_lines.specs.Statements.{default_block, exit_blocks, exit_lines, exit_of, has_label, labelled_before}
use Rattle.lower_lines.specs.Statements.{labelled_from, opening, opening_blocks, run_of, runs_of, sequence_blocks}
use Rattle.lower_lines.specs.Statements.{sequence_lines, started, towards}
use Rattle.lower_lines.specs.Variables.{Context}
use Rattle.lower_builder.proofs.Joined.{counted, lined, taken, two}
use Rattle.lower_expressions.proofs.Chained.{behind, next-to, same-next}

-- ---- up to the body

places-sum : (a b d g F count L blocks C : ℕ) → b ≡ a + F → count ≡ L → d ≡ b + count → blocks ≡ C → g ≡ d + blocks
    → g ≡ a + (F + (L + C))
places-sum a b d g F count L blocks C e1 e2 e3 e4 e5 = omega (arith, e1, e2, e3, e4, e5)

pub front-whole : (c : Context) (n : ℕ) (e : Part) (labels : List Label) (statements : ℕ) (after : After)
    (exit first count otherwise blocks tests number : ℕ) (cases : List Case) {s a b d g h k : Built}
    → Adds s a 0 (Emit (op.Mark n) ∷ []) → exit ≡ exit_of a.next after → b.lines ≡ a.lines
    → b.next ≡ a.next + exit_blocks after → first ≡ b.next → count ≡ labelled_before labels statements
    → d.lines ≡ b.lines → d.next ≡ b.next + count → otherwise ≡ default_block exit first labels
    → cases ≡ cases_of first labels labels → blocks ≡ comparing_blocks cases → tests ≡ d.next → g.lines ≡ d.lines
    → g.next ≡ d.next + blocks → number ≡ ((operand c true e).spot 0).number
    → Adds g h (operand c true e).blocks ((operand c true e).lines g.next 0)
    → Adds h k 0 (comparing c number otherwise cases tests)
    → Adds s k (switch_blocks c e labels statements after) (switch_front c n e labels statements s.next after)
front-whole c n e labels statements after exit first count otherwise blocks tests number cases {s} {a} {b} {d} {g} {h}
    {k} mark out lb nb begins counts ld nd other are takes at lg ng is stood compared =
    let F = exit_blocks after in
    let L = labelled_before labels statements in
    let C = comparing_blocks (cases_of 0 labels labels) in
    let x = operand c true e in
    let out' = exit_of s.next after in
    let first' = s.next + F in
    let K = cases_of first' labels labels in
    let same : a.next ≡ s.next = same-next mark in
    let first-is : first ≡ first' = begins ∙ nb ∙ ap (λ (i : ℕ). i + F) same in
    let exit-is : exit ≡ out' = out ∙ ap (λ (i : ℕ). exit_of i after) same in
    let cases-are : cases ≡ K = are ∙ ap (λ (i : ℕ). cases_of i labels labels) first-is in
    let K-blocks : comparing_blocks K ≡ C = blocks-same first' 0 labels labels in
    let blocks-are : blocks ≡ C = takes ∙ ap comparing_blocks cases-are ∙ K-blocks in
    let tests-is : tests ≡ first' + L =
    at ∙ nd ∙ ap (λ (i : ℕ). i + count) (sym begins ∙ first-is) ∙ ap (λ (i : ℕ). first' + i) counts in
    let otherwise-is : otherwise ≡ default_block out' first' labels =
    other ∙ ap (λ (i : ℕ). default_block i first labels) exit-is
    ∙ ap (λ (i : ℕ). default_block out' i labels) first-is in
    let N = F + (L + C) in
    let blank : Adds a g N [] = taken a g N (lg ∙ ld ∙ lb)
    (places-sum a.next b.next d.next g.next F count L blocks C nb counts nd blocks-are ng) in
    let Y = comparing c (x.spot 0).number (default_block out' first' labels) K (first' + L) in
    let compared' : Adds h k 0 Y =
    lined (ap (λ (i : ℕ). comparing c i otherwise cases tests) is
    ∙ ap (λ (i : ℕ). comparing c (x.spot 0).number i cases tests) otherwise-is
    ∙ ap (λ (cs : List Case). comparing c (x.spot 0).number (default_block out' first' labels) cs tests) cases-are
    ∙ ap (λ (i : ℕ). comparing c (x.spot 0).number (default_block out' first' labels) K i) tests-is) compared in
    let Z : ℕ → List Line = λ i. x.lines i 0 ++ Y in
    let inner : Adds g k x.blocks (Z g.next) = behind Y stood compared' in
    let placed : Adds a k (N + x.blocks) (Z (a.next + N)) = two {xs = []} Z blank inner in
    let whole : Adds s k (N + x.blocks) (Emit (op.Mark n) ∷ Z (s.next + N)) =
    next-to (λ (i : ℕ). Z (i + N)) mark placed in
    let to-value : s.next + N ≡ first' + L + C = omega arith in
    let value : s.next + N ≡ first' + L + comparing_blocks K =
    to-value ∙ ap (λ (i : ℕ). first' + L + i) (sym K-blocks) in
    let sum : N + x.blocks ≡ F + (L + C + x.blocks) = omega arith in
    counted sum (lined (ap (λ (i : ℕ). Emit (op.Mark n) ∷ Z i) value) whole)

-- ---- statements with blocks that are the same, place by place

alike-lines : (c : Context) (f g : Labelled) (place : ℕ) (rs : List Run) (exits : Exits) (block : ℕ) (after : After)
    → ((p : ℕ) → p < place + length rs → f p ≡ g p)
    → sequence_lines c f place rs exits block after ≡ sequence_lines c g place rs exits block after
alike-lines c f g place [] exits block after h = refl
alike-lines c f g place (r ∷ []) exits block after h =
    ap (λ (o : Option ℕ). started o ++ r.lines exits block after) (h place (omega arith))
alike-lines c f g place (r ∷ q ∷ rs) exits block after h =
    let here : f place ≡ g place = h place (omega arith) in
    let next : f (suc place) ≡ g (suc place) = h (suc place) (omega arith) in
    let rest : ℕ → List Line = λ k. sequence_lines c f (suc place) (q ∷ rs) exits k after in
    let k = block + r.blocks (towards (g (suc place))) in
    ap (λ (o : Option ℕ). started o ++ (r.lines exits block (towards (f (suc place)))
    ++ rest (block + r.blocks (towards (f (suc place)))))) here
    ∙ ap (λ (o : Option ℕ). started (g place) ++ (r.lines exits block (towards o)
    ++ rest (block + r.blocks (towards o)))) next
    ∙ ap (λ (ls : List Line). started (g place) ++ (r.lines exits block (towards (g (suc place))) ++ ls))
    (alike-lines c f g (suc place) (q ∷ rs) exits k after (λ p there. h p (omega (arith, there))))

alike-blocks : (f g : Labelled) (place : ℕ) (rs : List Run) (after : After)
    → ((p : ℕ) → p < place + length rs → f p ≡ g p)
    → sequence_blocks f place rs after ≡ sequence_blocks g place rs after
alike-blocks f g place [] after h = refl
alike-blocks f g place (r ∷ []) after h = refl
alike-blocks f g place (r ∷ q ∷ rs) after h =
    let next : f (suc place) ≡ g (suc place) = h (suc place) (omega arith) in
    ap (λ (o : Option ℕ). r.blocks (towards o) + sequence_blocks f (suc place) (q ∷ rs) after) next
    ∙ ap (λ (k : ℕ). r.blocks (towards (g (suc place))) + k)
    (alike-blocks f g (suc place) (q ∷ rs) after (λ p there. h p (omega (arith, there))))

-- how many blocks statements take doesn't depend on the numbers of those that they start
towards-alike : (c : Context) (s : typed.Statement) (q : Bool) (x y : ℕ)
    → (run_of c s).blocks (towards (if q then Some x else None)) ≡ (run_of c s).blocks (towards (if q then Some y else
    None))
towards-alike c s true x y = alike c s x ∙ sym (alike c s y)
towards-alike c s false x y = refl

numbered : (c : Context) (a b : ℕ) (labels : List Label) (place : ℕ) (ss : typed.Statements) (k : ℕ)
    → sequence_blocks (labelled_from a labels) place (runs_of c ss) (To k)
    ≡ sequence_blocks (labelled_from b labels) place (runs_of c ss) (To 0)
numbered c a b labels place typed.Done k = refl
numbered c a b labels place (typed.Next s typed.Done) k = alike c s k
numbered c a b labels place (typed.Next s (typed.Next t others)) k =
    let q = has_label labels (suc place) in
    let L = labelled_before labels (suc place) in
    let rest : ℕ = sequence_blocks (labelled_from a labels) (suc place) (runs_of c (typed.Next t others)) (To k) in
    ap (λ (n : ℕ). n + rest) (towards-alike c s q (a + L) (b + L))
    ∙ ap (λ (n : ℕ). (run_of c s).blocks (towards (labelled_from b labels (suc place))) + n)
    (numbered c a b labels (suc place) (typed.Next t others) k)

has-chosen : (q : Bool) (x : ℕ) → has_start (if q then Some x else None) ≡ q
has-chosen true x = refl
has-chosen false x = refl

-- ---- the whole

in-length : (c : Context) (xs : List Statement) → length (runs c xs) ≡ length xs
in-length c [] = refl
in-length c (x ∷ xs) = ap suc (in-length c xs)

pub switch-none : (c : Context) (n : ℕ) (e : typed.Expression) (labels : List Label) (body : List Statement)
    (exits : Exits) (after : After) (exit count : ℕ) {st : typed.Statement} {old : Bool} {s t w : Built}
    → st ≡ typed.Switch n e labels (statements_of body) → length body ≡ 0 → count ≡ length body
    → exit ≡ exit_of s.next after
    → Adds s t (switch_blocks c (part_of c e) labels count after)
    (switch_front c n (part_of c e) labels count s.next after)
    → Adds t w 0 (exit_lines c exit after)
    → AddsIf old old s w ((run_of c st).blocks after) ((run_of c st).lines exits s.next after)
switch-none c n e labels (x ∷ xs) exits after exit count is empty same out front end = absurd (omega (arith, empty))
switch-none c n e labels [] exits after exit count {st} {old} {s} {t} {w} is empty same out front end = λ right.
    let F = exit_blocks after in
    let E = exit_lines c s.next after in
    let x = operand c true (part_of c e) in
    let C = comparing_blocks (cases_of 0 labels labels) in
    let end' : Adds t w 0 E = lined (ap (λ k. exit_lines c k after) out ∙ exit-same c s.next after) end in
    let front' : Adds s t (switch_blocks c (part_of c e) labels 0 after)
    (switch_front c n (part_of c e) labels 0 s.next after) =
    subst (λ (k : ℕ). Adds s t (switch_blocks c (part_of c e) labels k after)
    (switch_front c n (part_of c e) labels k s.next after)) same front in
    let first = s.next + F in
    let K = cases_of first labels labels in
    let X = x.lines (first + 0 + comparing_blocks K) 0 in
    let Y = comparing c (x.spot 0).number (default_block (exit_of s.next after) first labels) K (first + 0) in
    let count : F + (0 + C + x.blocks) ≡ F + (0 + C + x.blocks + 0) = omega arith in
    let whole : Adds s w (F + (0 + C + x.blocks + 0)) (Emit (op.Mark n) ∷ (X ++ (Y ++ E))) =
    counted count (lined (ap (λ ls. Emit (op.Mark n) ∷ ls) (append_assoc X Y E)) (behind E front' end')) in (
      right,
      subst (λ (y : typed.Statement). Adds s w ((run_of c y).blocks after) ((run_of c y).lines exits s.next after))
          (sym is) whole,
    )

pub switch-some : (c : Context) (n : ℕ) (e : typed.Expression) (labels : List Label) (body : List Statement)
    (starts first-starts row-starts : List (Option ℕ)) (exits : Exits) (after : After) (exit count : ℕ) {st :
    typed.Statement} {old new : Bool}
    {s t u v w : Built} → st ≡ typed.Switch n e labels (statements_of body) → 0 < length body → count ≡ length body
    → exit ≡ exit_of s.next after
    → ((p : ℕ) → p < count → starts_at starts p ≡ labelled_from (s.next + exit_blocks after) labels p)
    → Adds s t (switch_blocks c (part_of c e) labels count after)
    (switch_front c n (part_of c e) labels count s.next after)
    → first-starts ≡ starts → row-starts ≡ starts
    → Adds t u (opening_blocks (has_start (starts_at first-starts 0)))
    (opening (has_start (starts_at first-starts 0)) t.next)
    → AddsIf old new u v (sequence_blocks (starts_at row-starts) 0 (runs c body) (To exit))
    (sequence_lines c (starts_at row-starts) 0 (runs c body) (record { breaks = exit; continues = exits.continues })
    u.next
    (To exit)) → Adds v w 0 (exit_lines c exit after)
    → AddsIf old new s w ((run_of c st).blocks after) ((run_of c st).lines exits s.next after)
switch-some c n e labels [] starts first-starts row-starts exits after exit count is there same out labelled front
    first-same row-same
    opens rows end =
    absurd (omega (arith, there))
switch-some c n e labels (y ∷ ys) starts first-starts row-starts exits after exit count {st} {old} {new} {s} {t} {u} {v}
    {w} is there same out labelled front first-same row-same opens-first rows-first end = λ right.
    let opens : Adds t u (opening_blocks (has_start (starts_at starts 0)))
    (opening (has_start (starts_at starts 0)) t.next) =
    subst (λ (xs : List (Option ℕ)). Adds t u (opening_blocks (has_start (starts_at xs 0)))
    (opening (has_start (starts_at xs 0)) t.next)) first-same opens-first in
    let rows : AddsIf old new u v (sequence_blocks (starts_at starts) 0 (runs c (y ∷ ys)) (To exit))
    (sequence_lines c (starts_at starts) 0 (runs c (y ∷ ys))
    (record { breaks = exit; continues = exits.continues }) u.next (To exit)) =
    subst (λ (xs : List (Option ℕ)). AddsIf old new u v (sequence_blocks (starts_at xs) 0 (runs c (y ∷ ys)) (To exit))
    (sequence_lines c (starts_at xs) 0 (runs c (y ∷ ys))
    (record { breaks = exit; continues = exits.continues }) u.next (To exit))) row-same rows-first in
    let said = rows right in
    let F = exit_blocks after in
    let E = exit_lines c s.next after in
    let x = operand c true (part_of c e) in
    let rs = runs c (y ∷ ys) in
    let size : count ≡ length rs = same ∙ sym (in-length c (y ∷ ys)) in
    let L = labelled_before labels (length rs) in
    let C = comparing_blocks (cases_of 0 labels labels) in
    let to = exit_of s.next after in
    let first = s.next + F in
    let K = cases_of first labels labels in
    let G = labelled_from first labels in
    let q = has_label labels 0 in
    let O = opening_blocks q in
    let at : (p : ℕ) → p < 0 + length rs → starts_at starts p ≡ G p = λ p within. labelled p (omega (
      arith,
      within,
      size,
    )) in
    let inside : ℕ → Exits = λ k. record { breaks = k; continues = exits.continues } in
    let N = sequence_blocks (labelled_from 0 labels) 0 rs (To 0) in
    let S : ℕ → List Line = λ k. sequence_lines c G 0 rs (inside to) k (To to) in
    let rows' : Adds u v N (S u.next) =
    counted (alike-blocks (starts_at starts) G 0 rs (To exit) at
    ∙ numbered c first 0 labels 0 (statements_of (y ∷ ys)) exit)
    (lined (alike-lines c (starts_at starts) G 0 rs (inside exit) u.next (To exit) at
    ∙ ap (λ (k : ℕ). sequence_lines c G 0 rs (inside k) u.next (To k)) out) said.1) in
    let has : has_start (starts_at starts 0) ≡ q =
    ap has_start (labelled 0 (omega (arith, same, there))) ∙ has-chosen q (first + labelled_before labels 0) in
    let opens' : Adds t u O (opening q t.next) =
    subst (λ (b : Bool). Adds t u (opening_blocks b) (opening b t.next)) has opens in
    let front' : Adds s t (switch_blocks c (part_of c e) labels (length rs) after)
    (switch_front c n (part_of c e) labels (length rs) s.next after) =
    subst (λ (k : ℕ). Adds s t (switch_blocks c (part_of c e) labels k after)
    (switch_front c n (part_of c e) labels k s.next after)) size front in
    let end' : Adds v w 0 E = lined (ap (λ k. exit_lines c k after) out ∙ exit-same c s.next after) end in
    let B : ℕ → List Line = λ k. S k ++ E in
    let inner : Adds u w N (B u.next) = behind E rows' end' in
    let P : ℕ → List Line = λ k. opening q k ++ B (k + O) in
    let opened : Adds t w (O + N) (P t.next) = two B opens' inner in
    let V = F + (L + C + x.blocks) in
    let value = first + L + comparing_blocks K in
    let X = x.lines value 0 in
    let Y = comparing c (x.spot 0).number (default_block to first labels) K (first + L) in
    let to-value : s.next + V ≡ first + L + C + x.blocks = omega arith in
    let behind-value : s.next + V ≡ value + x.blocks =
    to-value ∙ ap (λ (k : ℕ). first + L + k + x.blocks) (blocks-same 0 first labels labels) in
    let whole : Adds s w (V + (O + N)) (Emit (op.Mark n) ∷ ((X ++ Y) ++ P (s.next + V))) = two P front' opened in
    let R : ℕ → List Line = λ k. opening q k ++ S (k + O) in
    let count : V + (O + N) ≡ F + (L + C + x.blocks + (O + N)) = omega arith in
    let lines : (X ++ Y) ++ P (s.next + V) ≡ X ++ (Y ++ (R (value + x.blocks) ++ E)) =
    append_assoc X Y (P (s.next + V)) ∙ ap (λ (k : ℕ). X ++ (Y ++ P k)) behind-value
    ∙ ap (λ (ls : List Line). X ++ (Y ++ ls))
    (sym (append_assoc (opening q (value + x.blocks)) (S (value + x.blocks + O)) E)) in (
      said.0,
      subst (λ (z : typed.Statement). Adds s w ((run_of c z).blocks after) ((run_of c z).lines exits s.next after))
          (sym is) (counted count (lined (ap (λ ls. Emit (op.Mark n) ∷ ls) lines) whole)),
    )
