-- Sets of the lines of a `switch`: its comparisons, the blocks of its labels, and its statements.
use Rattle.std.proofs.Common.{◌≡◌, ◌<◌, ℕ, zero, suc, ◌+◌, Bool, true, false, ℤ, List, [], ◌∷◌, ◌++◌, Option, Some}
use Rattle.std.proofs.Common.{None, inl, inr, refl, sym, ap, ◌∙◌, subst, arith, length, length-append, eq-eqb}
use Rattle.std.specs.Prelude.{if◌then◌else◌, ◌==◌, ◌||◌}
use Rattle.std.specs.List.{AllByRecursion}
use Rattle.std.proofs.lemmas.Bool.{cases_lt}
use Rattle.c_tree.specs.declared.statement.Label.{Label}
use Rattle.c_tree.specs.declared.types.IntegerType.{IntegerType}
use Rattle.c_tree.specs.declared.types.ValueType.TheVariants.{Integer}
use Rattle.c_tree.specs.Evaluation.{first_label, is_default}
use Rattle.flow_graph.specs.declared.op.Comparison.TheVariants.{Eq}
use Rattle.flow_graph.specs.declared.op.Op.TheVariants as op
use Rattle.flow_graph.specs.Graphs.{IsIn}
use Rattle.lower_lines.specs.Lines.{Start, Emit}
use Rattle.lower_lines.specs.Parts.{Part, operand}
use Rattle.lower_lines.specs.Statements.{After, To, Case, Exits, Labelled, Run, block_or, body_blocks, body_lines}
use Rattle.lower_lines.specs.Statements.{case_of, cases_of, comparing, comparing_blocks, default_block, exit_blocks}
use Rattle.lower_lines.specs.Statements.{exit_lines, exit_of, has_label, labelled_before, labelled_from, opening_blocks}
use Rattle.lower_lines.specs.Statements.{sequence_blocks, sequence_lines, switch_run, towards}
use Rattle.lower_lines.specs.Variables.{Context, ForScratch, local_variables, temporary}
use Rattle.lower_laws.specs.Flows.{Within}
use Rattle.lower_laws.specs.Settled.{Agrees}
use Rattle.lower_laws.proofs.Parts.{LivePart, number-in, operand-held}
use Rattle.lower_laws.proofs.Sets.{F, block-is, ends, flows-then, marks, starts, two-in, way, ways, writes}
use Rattle.lower_laws.proofs.LiveConditions.{ready}
use Rattle.lower_laws.proofs.Runs.{Chain, ExitsTo, LabelsAt, LiveRun, Onward, agrees-split, exit-flows, exit-size}
use Rattle.lower_laws.proofs.Runs.{exit-within, exit_sets, sequence-live}
use Rattle.lower_lines.proofs.Switches.{comparing-same}

-- ---- places of labels

-- a statement's place among those that have labels is below their number
pub labels-below : (labels : List Label) (place n : ℕ) → has_label labels place ≡ true → place < n
    → labelled_before labels place < labelled_before labels n
labels-below labels place zero h low = absurd (omega (arith, low))
labels-below labels place (suc n) h low =
    elim (cases_lt place n) [
      | inl less ↦ (let k = labels-below labels place n h less in omega (arith, k))
      | inr more ↦ (
          let same : place ≡ n = omega (arith, low, more) in
          let here : labelled_before labels (suc place) ≡ labelled_before labels place + 1 =
          ap (λ (t : Bool). labelled_before labels place + (if t then 1 else 0)) h in
          let there : labelled_before labels place < labelled_before labels (suc place) = omega (arith, here) in
          subst (λ (m : ℕ). labelled_before labels place < labelled_before labels (suc m)) same there
          )
    ]

-- cases are as many, wherever their blocks begin
pub cases-length : (first : ℕ) (all labels : List Label) → length (cases_of first all labels)
    ≡ length (cases_of 0 all labels)
cases-length first all [] = refl
cases-length first all (label ∷ labels) = by label.value (cases-length first all labels)
  where
    by : (v : Option ℤ) → length (cases_of first all labels) ≡ length (cases_of 0 all labels)
        → length (case_of v (first + labelled_before all label.before) ++ cases_of first all labels)
        ≡ length (case_of v (0 + labelled_before all label.before) ++ cases_of 0 all labels)
    by None e = e
    by (Some n) e = ap suc e

-- a label's statement has one
pub has-own : (labels : List Label) (label : Label) → has_label (label ∷ labels) label.before ≡ true
has-own labels label = ap (λ (t : Bool). t || has_label labels label.before)
    (eq-eqb label.before label.before refl)

pub or-true : (a b : Bool) → b ≡ true → (a || b) ≡ true
or-true true b e = refl
or-true false b e = e

-- labels whose statements are there, among all
abbrev LabelIn : List Label → ℕ → Label → Type 0
LabelIn all n label = (has_label all label.before ≡ true) × (label.before < n)

labels-are-in : (n : ℕ) (all labels : List Label) → ((label : Label) → has_label labels label.before ≡ true
    → has_label all label.before ≡ true) → AllByRecursion (λ label. label.before < n) labels
    → AllByRecursion (LabelIn all n) labels
labels-are-in n all [] within h = tt
labels-are-in n all (label ∷ labels) within h = (
  (within label (has-own labels label), h.0),
  labels-are-in n all labels
      (λ other e. within other (or-true (label.before == other.before) (has_label labels other.before) e)) h.1,
)

-- the label that is first of some has a place among them
first-in : (test : Option ℤ → Bool) (all labels : List Label) (n place : ℕ) → AllByRecursion (LabelIn all n) labels
    → first_label test labels ≡ Some place → (has_label all place ≡ true) × (place < n)
first-in test all [] n place h e = absurd (cc)
first-in test all (label ∷ labels) n place h e =
    by (test label.value) e (λ k. first-in test all labels n place h.1 k)
  where
    same : (a b : ℕ) → Some a ≡ Some b → a ≡ b
    same a b e = cc

    by : (t : Bool) → (if t then Some label.before else first_label test labels) ≡ Some place
        → (first_label test labels ≡ Some place → (has_label all place ≡ true) × (place < n))
        → (has_label all place ≡ true) × (place < n)
    by true e others = subst (λ (k : ℕ). (has_label all k ≡ true) × (k < n)) (same label.before place e) h.0
    by false e others = others e

-- ---- blocks with one set

abbrev copies : ℕ → List ℕ → List (List ℕ)
copies zero S = []
copies (suc n) S = S ∷ copies n S

copies-size : (n : ℕ) (S : List ℕ) → length (copies n S) ≡ n
copies-size zero S = refl
copies-size (suc n) S = ap suc (copies-size n S)

copies-at : (B : ℕ → List ℕ) (block n i : ℕ) (S : List ℕ) → Agrees B block (copies n S) → i < n → B (block + i) ≡ S
copies-at B block zero i S a low = absurd (omega (arith, low))
copies-at B block (suc n) zero S a low =
    let e : block ≡ block + 0 = omega arith in subst (λ (k : ℕ). B k ≡ S) e a.0
copies-at B block (suc n) (suc i) S a low =
    let e : suc block + i ≡ block + suc i = omega arith in
    subst (λ (k : ℕ). B k ≡ S) e (copies-at B (suc block) n i S a.1 (omega (arith, low)))

module _ (c : Context) (D : List ℕ) (low-known : (v : ℕ) → IsIn v D → v < local_variables c.function) where
  -- ---- comparisons

  abbrev CaseAt : (ℕ → List ℕ) → Case → Type 0
  CaseAt B one = Within (B one.1) D

  all-then : (B : ℕ → List ℕ) (xs ys : List Case) → AllByRecursion (CaseAt B) xs → AllByRecursion (CaseAt B) ys
      → AllByRecursion (CaseAt B) (xs ++ ys)
  all-then B [] ys h k = k
  all-then B (x ∷ xs) ys h k = (h.0, all-then B xs ys h.1 k)

  -- the value stays until it is compared
  comparing-flows : (B : ℕ → List ℕ) (x otherwise : ℕ) (cases : List Case) (block : ℕ) (S : List ℕ) → IsIn x S
      → Within D S → Agrees B block (copies (comparing_blocks cases) S) → AllByRecursion (CaseAt B) cases
      → Within (B otherwise) D → F c B S (comparing c x otherwise cases block) D
  comparing-flows B x otherwise [] block S is w a h go =
      ends c B (op.Jump otherwise) S D D [] refl refl refl (λ v none. absurd none)
      (way c B otherwise S (λ v here. w v (go v here))) (λ v here. here)
  comparing-flows B x otherwise (one ∷ []) block S is w a h go =
      let z = temporary c 0 ForScratch in
      writes c B (op.Const z one.0) z S D (Emit (op.Branch Eq x z one.1 otherwise) ∷ []) (refl, refl, refl) refl
      (λ v none. absurd none)
      (ends c B (op.Branch Eq x z one.1 otherwise) (z ∷ S) D D [] refl refl refl
      (two-in (z ∷ S) x z (inr is) (inl refl))
      (ways c B one.1 otherwise (z ∷ S) (λ v here. inr (w v (h.0 v here))) (λ v here. inr (w v (go v here))))
      (λ v here. here))
  comparing-flows B x otherwise (one ∷ other ∷ cases) block S is w a h go =
      let z = temporary c 0 ForScratch in
      let rest = comparing c x otherwise (other ∷ cases) (suc block) in
      writes c B (op.Const z one.0) z S D (Emit (op.Branch Eq x z one.1 block) ∷ Start block ∷ rest)
      (refl, refl, refl) refl (λ v none. absurd none)
      (ends c B (op.Branch Eq x z one.1 block) (z ∷ S) S D (Start block ∷ rest) refl refl refl
      (two-in (z ∷ S) x z (inr is) (inl refl))
      (ways c B one.1 block (z ∷ S) (λ v here. inr (w v (h.0 v here)))
      (λ v here. inr (block-is c B block S a.0 v here)))
      (starts c B block S S D rest a.0
      (comparing-flows B x otherwise (other ∷ cases) (suc block) S is w a.1 h.1 go)))

  -- ---- the blocks of labels

  module _ (labels : List Label) (n first : ℕ) (B : ℕ → List ℕ)
      (a : Agrees B first (copies (labelled_before labels n) D)) where
    label-at : (place : ℕ) → has_label labels place ≡ true → place < n → B (first + labelled_before labels place) ≡ D
    label-at place h low = copies-at B first (labelled_before labels n) (labelled_before labels place) D a
        (labels-below labels place n h low)

    labels-at : LabelsAt c B (labelled_from first labels) n D
    labels-at j b low e = by (has_label labels j) refl e
      where
        same : (a b : ℕ) → Some a ≡ Some b → a ≡ b
        same a b e = cc

        by : (t : Bool) → has_label labels j ≡ t
            → (if t then Some (first + labelled_before labels j) else None) ≡ Some b → B b ≡ D
        by true t e = subst (λ (k : ℕ). B k ≡ D) (same (first + labelled_before labels j) b e) (label-at j t low)
        by false t e = absurd (cc)

    cases-at : (some : List Label) → AllByRecursion (LabelIn labels n) some
        → AllByRecursion (CaseAt B) (cases_of first labels some)
    cases-at [] h = tt
    cases-at (label ∷ some) h =
        all-then B (case_of label.value (first + labelled_before labels label.before)) (cases_of first labels some)
        (by label.value) (cases-at some h.1)
      where
        by : (v : Option ℤ) → AllByRecursion (CaseAt B) (case_of v (first + labelled_before labels label.before))
        by None = tt
        by (Some n') = (
          block-is c B (first + labelled_before labels label.before) D (label-at label.before h.0.0 h.0.1),
          tt,
        )

    default-at : (exit : ℕ) → AllByRecursion (LabelIn labels n) labels → Within (B exit) D
        → Within (B (default_block exit first labels)) D
    default-at exit h out = by (first_label is_default labels)
        (λ place e. first-in is_default labels labels n place h e)
      where
        by : (o : Option ℕ) → ((place : ℕ) → o ≡ Some place → (has_label labels place ≡ true) × (place < n))
            → Within (B (block_or exit first labels o)) D
        by None k = out
        by (Some place) k =
            let (e, low) = k place refl in
            block-is c B (first + labelled_before labels place) D (label-at place e low)

  -- ---- the statements

  pub constant-chain : (labelled : Labelled) (place : ℕ) (rs : List Run) → AllByRecursion (LiveRun c D D) rs
      → Chain c labelled D place D rs D
  constant-chain labelled place [] h = λ v is. is
  constant-chain labelled place (r ∷ rs) h = (λ b e. refl, (D, h.0, constant-chain labelled (suc place) rs h.1))

  record Body (labelled : Labelled) (starts' : Bool) (rs : List Run) (exits : Exits) (block : ℕ) (after : After) :
      Type 0 where
    pub sets : List (List ℕ)
    pub size : length sets ≡ body_blocks labelled starts' rs after
    pub flows : (B : ℕ → List ℕ) → LabelsAt c B labelled (length rs) D → Agrees B block sets → ExitsTo c B exits D
        → Onward c B after D → F c B D (body_lines c labelled starts' rs exits block after) D

  body-live : (labelled : Labelled) (starts' : Bool) (rs : List Run) → AllByRecursion (LiveRun c D D) rs
      → (exits : Exits) (block : ℕ) (after : After) → Body labelled starts' rs exits block after
  body-live labelled starts' [] h exits block after = record {
    sets = [];
    size = refl;
    flows = λ B labels a into go v is. is;
  }
  body-live labelled true (r ∷ rs) h exits block after =
      let s = sequence-live c labelled (length (r ∷ rs)) D 0 (r ∷ rs) D D (omega arith)
      (constant-chain labelled 0 (r ∷ rs) h) exits (block + 0) after in
      record {
        sets = s.sets;
        size = let e = s.size in omega (arith, e);
        flows = λ B labels a into go.
            let (none, back) = agrees-split B block 0 [] s.sets refl a in s.flows B labels back into go;
      }
  body-live labelled false (r ∷ rs) h exits block after =
      let s = sequence-live c labelled (length (r ∷ rs)) D 0 (r ∷ rs) D D (omega arith)
      (constant-chain labelled 0 (r ∷ rs) h) exits (block + 1) after in
      record {
        sets = D ∷ s.sets;
        size = let e = s.size in omega (arith, e);
        flows = λ B labels a into go.
            let (front, back) = agrees-split B block 1 (D ∷ []) s.sets refl a in
            starts c B block D D D (sequence_lines c labelled 0 (r ∷ rs) exits (block + 1) after) front.0
            (s.flows B labels back into go);
      }

  towards-alike : (r : Run) → LiveRun c D D r → (t : Bool) (x y : ℕ)
      → r.blocks (towards (if t then Some x else None)) ≡ r.blocks (towards (if t then Some y else None))
  towards-alike r h true x y = h.alike x ∙ sym (h.alike y)
  towards-alike r h false x y = refl

  sequence-same : (labels : List Label) (first other place : ℕ) (rs : List Run) → AllByRecursion (LiveRun c D D) rs
      → sequence_blocks (labelled_from first labels) place rs (To other)
      ≡ sequence_blocks (labelled_from 0 labels) place rs (To 0)
  sequence-same labels first other place [] h = refl
  sequence-same labels first other place (r ∷ []) h = h.0.alike other
  sequence-same labels first other place (r ∷ q ∷ rs) h =
      let e = towards-alike r h.0 (has_label labels (suc place)) (first + labelled_before labels (suc place))
      (0 + labelled_before labels (suc place)) in
      let k = sequence-same labels first other (suc place) (q ∷ rs) h.1 in
      omega (arith, e, k)

  body-same : (labels : List Label) (first other : ℕ) (rs : List Run) → AllByRecursion (LiveRun c D D) rs
      → body_blocks (labelled_from first labels) (has_label labels 0) rs (To other)
      ≡ body_blocks (labelled_from 0 labels) (has_label labels 0) rs (To 0)
  body-same labels first other [] h = refl
  body-same labels first other (r ∷ rs) h =
      ap (λ (n : ℕ). opening_blocks (has_label labels 0) + n) (sequence-same labels first other 0 (r ∷ rs) h)

  pub switch-live : (n : ℕ) (e : Part) (u : IntegerType) (labels : List Label) (rs : List Run) → e.of ≡ Integer u
      → LivePart c D low-known e → AllByRecursion (LiveRun c D D) rs
      → AllByRecursion (λ label. label.before < length rs) labels → LiveRun c D D (switch_run c n e labels rs)
  switch-live n e u labels rs of h hs inside = record {
    settles = λ exits block after.
        let exit = exit_of block after in
        let m = exit_blocks after in
        let first = block + m in
        let k = labelled_before labels (length rs) in
        let cases = cases_of first labels labels in
        let tests = first + k in
        let j = comparing_blocks cases in
        let value = tests + j in
        let x = operand c true e in
        let inner : Exits = record { breaks = exit; continues = exits.continues } in
        let held = operand-held c D low-known true e h value 0 D (ready c D low-known) in
        let s = held.settled in
        let S = held.T in
        let t = body-live (labelled_from first labels) (has_label labels 0) rs hs inner (value + x.blocks) (To exit) in
        let xs = exit_sets c after D in
        let ys = copies k D in
        let zs = copies j S in
        let y = (x.spot 0).number in
        let otherwise = default_block exit first labels in
        let compare = comparing c y otherwise cases tests in
        let body = body_lines c (labelled_from first labels) (has_label labels 0) rs inner (value + x.blocks)
        (To exit) in
        let last = exit_lines c block after in
        record {
          sets = xs ++ (ys ++ (zs ++ (s.sets ++ t.sets)));
          size =
              let i0 = length-append xs (ys ++ (zs ++ (s.sets ++ t.sets))) in
              let i1 = length-append ys (zs ++ (s.sets ++ t.sets)) in
              let i2 = length-append zs (s.sets ++ t.sets) in
              let i3 = length-append s.sets t.sets in
              let e0 = exit-size c after D in
              let e1 = copies-size k D in
              let e2 = copies-size j S in
              let e3 = s.size in
              let e4 = t.size in
              let f0 = comparing-same cases (cases_of 0 labels labels) (cases-length first labels labels) in
              let f1 = body-same labels first exit rs hs in
              omega (arith, i0, i1, i2, i3, e0, e1, e2, e3, e4, f0, f1);
          flows = λ B all into go.
              let (f0, g0) = agrees-split B block m xs (ys ++ (zs ++ (s.sets ++ t.sets))) (exit-size c after D) all in
              let (f1, g1) = agrees-split B first k ys (zs ++ (s.sets ++ t.sets)) (copies-size k D) g0 in
              let (f2, g2) = agrees-split B tests j zs (s.sets ++ t.sets) (copies-size j S) g1 in
              let (f3, g3) = agrees-split B value x.blocks s.sets t.sets s.size g2 in
              let out = exit-within c B block after D f0 go in
              let are = labels-are-in (length rs) labels labels (λ label h. h) inside in
              marks c B n D D D (x.lines value 0 ++ (compare ++ (body ++ last))) (λ v is. is) low-known
              (flows-then c B D (x.lines value 0) (compare ++ (body ++ last)) S D (s.flows B f3 tt)
              (flows-then c B S compare (body ++ last) D D
              (comparing-flows B y otherwise cases tests S (number-in c D low-known e x u value 0 D of held) held.more
              f2 (cases-at labels (length rs) first B f1 labels are)
              (default-at labels (length rs) first B f1 exit are out))
              (flows-then c B D body last D D
              (t.flows B (labels-at labels (length rs) first B f1) g3 (out, into.1) out)
              (exit-flows c B block after D f0))));
        };
    alike = λ other. refl;
    within = λ v is. is;
  }
