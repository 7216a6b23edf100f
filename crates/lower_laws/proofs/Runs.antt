-- Sets of the lines of statements: where control goes behind them, and statements in order.
use Rattle.std.proofs.Common.{◌≡◌, ◌<◌, ◌≤◌, ℕ, suc, ◌+◌, pos, List, [], ◌∷◌, ◌++◌, Option, Some, None, inl, refl, sym}
use Rattle.std.proofs.Common.{ap, ◌∙◌, arith, length, length-append}
use Rattle.c_tree.specs.declared.types.ValueType.{ValueType}
use Rattle.c_tree.specs.declared.types.ValueType.TheVariants.{Void, Integer, Pointer}
use Rattle.flow_graph.specs.declared.op.Op.TheVariants as op
use Rattle.lower_lines.specs.Lines.{Line, Emit}
use Rattle.lower_lines.specs.Parts.{Dropped}
use Rattle.lower_lines.specs.Statements.{After, Here, To, Leaves, Exits, Labelled, Run, block_run, dead, dead_blocks}
use Rattle.lower_lines.specs.Statements.{ending, exit_blocks, exit_lines, exit_of, leaving, left_by, none_labelled}
use Rattle.lower_lines.specs.Statements.{onward, sequence_blocks, sequence_lines, started, straight, towards}
use Rattle.lower_lines.specs.Variables.{Context, own}
use Rattle.lower_laws.specs.Flows.{Within}
use Rattle.lower_laws.specs.Settled.{Agrees, Settled}
use Rattle.lower_laws.proofs.Sets.{F, agrees-at, agrees-back, agrees-front, block-is, ends, flows-then, last-less}
use Rattle.lower_laws.proofs.Sets.{one-in, starts, way, wider, writes}

-- sets of blocks, and of those behind them
pub agrees-split : (B : ℕ → List ℕ) (block n : ℕ) (xs ys : List (List ℕ)) → length xs ≡ n
    → Agrees B block (xs ++ ys) → Agrees B block xs × Agrees B (block + n) ys
agrees-split B block n xs ys e h = (
  agrees-front B block xs ys h,
  agrees-at B ys (block + length xs) (block + n) (omega (arith, e)) (agrees-back B block xs ys h),
)

module _ (c : Context) where
  -- ---- where control goes behind lines

  -- where control goes on, no more may be used than what is there
  abbrev pub Onward : (ℕ → List ℕ) → After → List ℕ → Type 0
  Onward B Here E = Unit {0}
  Onward B (To block) E = Within (B block) E
  Onward B Leaves E = Unit {0}

  abbrev pub ExitsTo : (ℕ → List ℕ) → Exits → List ℕ → Type 0
  ExitsTo B exits D = Within (B exits.breaks) D × Within (B exits.continues) D

  pub exits-more : (B : ℕ → List ℕ) (exits : Exits) (D E : List ℕ) → Within D E → ExitsTo B exits D → ExitsTo B exits E
  exits-more B exits D E w h = (λ v is. w v (h.0 v is), λ v is. w v (h.1 v is))

  pub onward-more : (B : ℕ → List ℕ) (after : After) (D E : List ℕ) → Within D E → Onward B after D → Onward B after E
  onward-more B Here D E w h = tt
  onward-more B (To block) D E w h = λ v is. w v (h v is)
  onward-more B Leaves D E w h = tt

  -- Lines of statements of which so many blocks have sets: they come with one set, and go on with another.
  pub record LinesLive (exits : Exits) (block n : ℕ) (after : After) (D : List ℕ) (lines : List Line) (E : List ℕ) :
      Type 0 where
    pub sets : List (List ℕ)
    pub size : length sets ≡ n
    pub flows : (B : ℕ → List ℕ) → Agrees B block sets → ExitsTo B exits D → Onward B after E → F c B D lines E

  pub record LiveRun (D E : List ℕ) (r : Run) : Type 0 where
    pub settles : (exits : Exits) (block : ℕ) (after : After)
        → LinesLive exits block (r.blocks after) after D (r.lines exits block after) E
    pub alike : (other : ℕ) → r.blocks (To other) ≡ r.blocks (To 0)
    pub within : Within D E

  pub lines-less : (exits : Exits) (block n : ℕ) (after : After) (D : List ℕ) (lines : List Line) (E E' : List ℕ)
      → Within E' E → LinesLive exits block n after D lines E → LinesLive exits block n after D lines E'
  lines-less exits block n after D lines E E' w s = record {
    sets = s.sets;
    size = s.size;
    flows = λ B a into go. last-less c B D lines E E' w (s.flows B a into (onward-more B after E' E w go));
  }

  pub run-less : (D E E' : List ℕ) (r : Run) → Within E' E → Within D E' → LiveRun D E r → LiveRun D E' r
  run-less D E E' r w within h = record {
    settles = λ exits block after. lines-less exits block (r.blocks after) after D (r.lines exits block after) E E' w
        (h.settles exits block after);
    alike = h.alike;
    within = within;
  }

  -- ---- ends

  number-left : (B : ℕ → List ℕ) (S T : List ℕ)
      → F c B S (Emit (op.Const (own c 0).number (pos 0)) ∷ Emit (op.Return (Some (own c 0).number)) ∷ []) T
  number-left B S T =
      let y = (own c 0).number in
      writes c B (op.Const y (pos 0)) y S T (Emit (op.Return (Some y)) ∷ []) (refl, refl, refl) refl
      (λ v is. absurd is)
      (ends c B (op.Return (Some y)) (y ∷ S) T T [] refl refl refl (one-in (y ∷ S) y (inl refl)) (λ x is. absurd is)
      (λ v is. is))

  left-flows : (B : ℕ → List ℕ) (of : ValueType) (S T : List ℕ) → F c B S (left_by of c) T
  left-flows B Void S T =
      ends c B (op.Return None) S T T [] refl refl refl (λ v is. absurd is) (λ x is. absurd is) (λ v is. is)
  left-flows B (Integer t) S T = number-left B S T
  left-flows B (Pointer t) S T = number-left B S T

  pub onward-flows : (B : ℕ → List ℕ) (after : After) (E : List ℕ) → Onward B after E → F c B E (onward c after) E
  onward-flows B Here E go = λ v is. is
  onward-flows B (To block) E go =
      ends c B (op.Jump block) E E E [] refl refl refl (λ v is. absurd is) (way c B block E go) (λ v is. is)
  onward-flows B Leaves E go = left-flows B c.function.result E E

  -- the block behind a statement, where it has one of its own
  abbrev pub exit_sets : After → List ℕ → List (List ℕ)
  exit_sets Here E = E ∷ []
  exit_sets (To other) E = []
  exit_sets Leaves E = E ∷ []

  pub exit-size : (after : After) (E : List ℕ) → length (exit_sets after E) ≡ exit_blocks after
  exit-size Here E = refl
  exit-size (To other) E = refl
  exit-size Leaves E = refl

  pub exit-within : (B : ℕ → List ℕ) (block : ℕ) (after : After) (E : List ℕ) → Agrees B block (exit_sets after E)
      → Onward B after E → Within (B (exit_of block after)) E
  exit-within B block Here E a go = block-is c B block E a.0
  exit-within B block (To other) E a go = go
  exit-within B block Leaves E a go = block-is c B block E a.0

  pub exit-flows : (B : ℕ → List ℕ) (block : ℕ) (after : After) (E : List ℕ) → Agrees B block (exit_sets after E)
      → F c B E (exit_lines c block after) E
  exit-flows B block Here E a = starts c B block E E E [] a.0 (λ v is. is)
  exit-flows B block (To other) E a = λ v is. is
  exit-flows B block Leaves E a = starts c B block E E E (leaving c) a.0 (left-flows B c.function.result E E)

  -- ---- statements without other statements

  pub straight-live : (levels n : ℕ) (lines : ℕ → List Line) (D E : List ℕ) → Within D E
      → ((block : ℕ) → Settled c block n Dropped D (lines block) E) → LiveRun D E (straight c levels n lines)
  straight-live levels n lines D E w h = record {
    settles = λ exits block after.
        let s = h block in
        record {
          sets = s.sets;
          size = s.size;
          flows = λ B a into go. flows-then c B D (lines block) (onward c after) E E (s.flows B a tt)
              (onward-flows B after E go);
        };
    alike = λ other. refl;
    within = w;
  }

  -- lines behind which control never comes
  pub record Ends (exits : Exits) (block n : ℕ) (D : List ℕ) (lines : List Line) : Type 0 where
    pub sets : List (List ℕ)
    pub size : length sets ≡ n
    pub flows : (B : ℕ → List ℕ) → Agrees B block sets → ExitsTo B exits D → F c B D lines D

  abbrev dead_sets : After → List ℕ → List (List ℕ)
  dead_sets Here D = D ∷ []
  dead_sets (To other) D = []
  dead_sets Leaves D = []

  dead-size : (after : After) (D : List ℕ) → length (dead_sets after D) ≡ dead_blocks after
  dead-size Here D = refl
  dead-size (To other) D = refl
  dead-size Leaves D = refl

  dead-flows : (B : ℕ → List ℕ) (block : ℕ) (after : After) (D : List ℕ) → Agrees B block (dead_sets after D)
      → F c B D (dead block after) D
  dead-flows B block Here D a = starts c B block D D D [] a.0 (λ v is. is)
  dead-flows B block (To other) D a = λ v is. is
  dead-flows B block Leaves D a = λ v is. is

  pub ending-live : (levels n : ℕ) (lines : Exits → ℕ → List Line) (D : List ℕ)
      → ((exits : Exits) (block : ℕ) → Ends exits block n D (lines exits block))
      → LiveRun D D (ending levels n lines)
  ending-live levels n lines D h = record {
    settles = λ exits block after.
        let m = dead_blocks after in
        let xs = dead_sets after D in
        let s = h exits (block + m) in
        record {
          sets = xs ++ s.sets;
          size =
              let e = length-append xs s.sets in let e' = dead-size after D in let f = s.size in
              omega (arith, e, e', f);
          flows = λ B a into go.
              let (front, back) = agrees-split B block m xs s.sets (dead-size after D) a in
              flows-then c B D (lines exits (block + m)) (dead block after) D D (s.flows B back into)
              (dead-flows B block after D front);
        };
    alike = λ other. refl;
    within = λ v is. is;
  }

  -- ---- statements in order

  -- Each statement's set is behind the one before it; where one has a label, it is the set of all labels.
  abbrev pub Chain : Labelled → List ℕ → ℕ → List ℕ → List Run → List ℕ → Type 0
  Chain labelled all place D [] E = Within E D
  Chain labelled all place D (r ∷ rs) E = ((b : ℕ) → labelled place ≡ Some b → D ≡ all)
      × ((M : List ℕ) × LiveRun D M r × Chain labelled all (suc place) M rs E)

  -- the blocks of labels have the set of all
  abbrev pub LabelsAt : (ℕ → List ℕ) → Labelled → ℕ → List ℕ → Type 0
  LabelsAt B labelled n all = (j b : ℕ) → j < n → labelled j ≡ Some b → B b ≡ all

  pub record Sequence (labelled : Labelled) (count : ℕ) (all : List ℕ) (exits : Exits) (block n : ℕ) (after : After)
      (D : List ℕ) (lines : List Line) (E : List ℕ) : Type 0 where
    pub sets : List (List ℕ)
    pub size : length sets ≡ n
    pub flows : (B : ℕ → List ℕ) → LabelsAt B labelled count all → Agrees B block sets → ExitsTo B exits D
        → Onward B after E → F c B D lines E

  started-flows : (B : ℕ → List ℕ) (o : Option ℕ) (D T : List ℕ) (lines : List Line)
      → ((b : ℕ) → o ≡ Some b → B b ≡ D) → F c B D lines T → F c B D (started o ++ lines) T
  started-flows B None D T lines e h = h
  started-flows B (Some b) D T lines e h = starts c B b D D T lines (e b refl) h

  towards-on : (B : ℕ → List ℕ) (o : Option ℕ) (M : List ℕ) → ((b : ℕ) → o ≡ Some b → B b ≡ M)
      → Onward B (towards o) M
  towards-on B None M e = tt
  towards-on B (Some b) M e = block-is c B b M (e b refl)

  pub sequence-live : (labelled : Labelled) (count : ℕ) (all : List ℕ) (place : ℕ) (rs : List Run) (D E : List ℕ)
      → place + length rs ≤ count → Chain labelled all place D rs E → (exits : Exits) (block : ℕ) (after : After)
      → Sequence labelled count all exits block (sequence_blocks labelled place rs after) after D
      (sequence_lines c labelled place rs exits block after) E
  sequence-live labelled count all place [] D E many k exits block after = record {
    sets = [];
    size = refl;
    flows = λ B labels a into go. wider c B E D (onward c after) E k (onward-flows B after E go);
  }
  sequence-live labelled count all place (r ∷ []) D E many k exits block after =
      let (M, h, w) = k.1 in
      let s = h.settles exits block after in
      record {
        sets = s.sets;
        size = s.size;
        flows = λ B labels a into go.
            started-flows B (labelled place) D E (r.lines exits block after)
            (λ b e. labels place b (omega (arith, many)) e ∙ sym (k.0 b e))
            (last-less c B D (r.lines exits block after) M E w (s.flows B a into (onward-more B after E M w go)));
      }
  sequence-live labelled count all place (r ∷ q ∷ rs) D E many k exits block after =
      let (M, h, others) = k.1 in
      let next = towards (labelled (suc place)) in
      let n = r.blocks next in
      let s = h.settles exits block next in
      let t = sequence-live labelled count all (suc place) (q ∷ rs) M E (omega (arith, many)) others exits (block + n)
      after in
      let rest = sequence_lines c labelled (suc place) (q ∷ rs) exits (block + n) after in
      record {
        sets = s.sets ++ t.sets;
        size = let e = length-append s.sets t.sets in let e' = s.size in let f = t.size in omega (arith, e, e', f);
        flows = λ B labels a into go.
            let (front, back) = agrees-split B block n s.sets t.sets s.size a in
            started-flows B (labelled place) D E (r.lines exits block next ++ rest)
            (λ b e. labels place b (omega (arith, many)) e ∙ sym (k.0 b e))
            (flows-then c B D (r.lines exits block next) rest M E
            (s.flows B front into
            (towards-on B (labelled (suc place)) M
            (λ b e. labels (suc place) b (omega (arith, many)) e ∙ sym (others.0 b e))))
            (t.flows B labels back (exits-more B exits D M h.within into) go));
      }

  -- ---- blocks

  no-labels : (B : ℕ → List ℕ) (count : ℕ) (all : List ℕ) → LabelsAt B none_labelled count all
  no-labels B count all j b low e = absurd (cc)

  pub sequence-alike : (all : List ℕ) (place : ℕ) (rs : List Run) (D E : List ℕ)
      → Chain none_labelled all place D rs E → (other : ℕ)
      → sequence_blocks none_labelled place rs (To other) ≡ sequence_blocks none_labelled place rs (To 0)
  sequence-alike all place [] D E k other = refl
  sequence-alike all place (r ∷ []) D E k other = let (M, h, w) = k.1 in h.alike other
  sequence-alike all place (r ∷ q ∷ rs) D E k other =
      let (M, h, others) = k.1 in
      ap (λ (m : ℕ). r.blocks Here + m) (sequence-alike all (suc place) (q ∷ rs) M E others other)

  -- what a block declares is gone behind it
  pub block-live : (rs : List Run) (D E : List ℕ) → Within D E → Chain none_labelled D 0 D rs E
      → LiveRun D D (block_run c rs)
  block-live rs D E w k = record {
    settles = λ exits block after.
        let s = sequence-live none_labelled (length rs) D 0 rs D E (omega arith) k exits block after in
        lines-less exits block (sequence_blocks none_labelled 0 rs after) after D
        (sequence_lines c none_labelled 0 rs exits block after) E D w
        (record {
          sets = s.sets;
          size = s.size;
          flows = λ B a into go. s.flows B (no-labels B (length rs) D) a into go;
        });
    alike = λ other. sequence-alike D 0 rs D E k other;
    within = λ v is. is;
  }
