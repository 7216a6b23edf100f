-- The marks of a map, by their points, and what is visited where.
use Rattle.std.proofs.Common.{◌≡◌, ℕ, zero, suc, ◌+◌, ◌<◌, Bool, List, [], ◌∷◌, length, Some}
use Rattle.std.proofs.Common.{inl, inr, refl, sym, ap, subst, ◌∙◌, arith}
use Rattle.std.specs.Prelude.{filter_map, if◌then◌else◌, option_map, slice_get, slice_index_or}
use Rattle.std.proofs.lemmas.Bool.Decides.{eqb_tells}
use Rattle.std.proofs.lemmas.Option.{none-some, same_Some}
use Rattle.pcc_base.specs.Outcome.{Part}
use Rattle.c_tree.specs.Program.{Program}
use Rattle.ia32_insn.specs.State as machine
use Rattle.flow_graph.specs.declared.op.Op.{Op}
use Rattle.flow_graph.specs.declared.op.Op.TheVariants as op
use Rattle.flow_graph.specs.Graphs.{Flow, Stands, empty_flow}
use Rattle.flow_graph.specs.States as graph
use Rattle.flow_graph.specs.States.{flow_at, op_at, op_of}
use Rattle.lower_lines.specs.Lowering.{first_statement}
use Rattle.ia32_rows.specs.Placements.{Code, placement_of, point_address}
use Rattle.ia32_rows.specs.Shows.{Shows}
use Rattle.ia32_laws.proofs.Apart.{points-apart}
use Rattle.map_text.specs.Maps.{Map, MapFunction, MapPoint}
use Rattle.flow_graph.specs.Kinds.{marked}
use Rattle.map_text.specs.Marks.{MarkAt, listed_by, mark_at, marks_of, part_of, variables_in, visit_at}
use Rattle.map_text.specs.Marks.{visits_by}
use Rattle.map_lines.proofs.Among.{IsAmong, mark-from, mark-to}
use Rattle.map_lines.proofs.Found.{IsListedAt, IsNumbered, has-function, numbered, point-listed}
use Rattle.map_lines.proofs.Tells.{Tells, TellsMark, TellsPoint}

-- ---- lists of marks

-- at the address of a mark it is visited, where each mark with that address is this one
pub visited : (m : Map) (s : machine.State) (mark : MarkAt) (marks : List MarkAt) → IsAmong mark marks
    → mark.address ≡ s.eip → ((other : MarkAt) → IsAmong other marks → other.address ≡ s.eip → other ≡ mark)
    → visits_by m s marks ≡ visit_at m s mark ∷ []
visited m s mark [] among at only = absurd among
visited m s mark (first ∷ marks) among at only =
    elim (eqb_tells first.address s.eip) [
      | inl here ↦
          ap (λ (b : Bool). if b then visit_at m s first ∷ [] else visits_by m s marks) here.0
          ∙ ap (λ (x : MarkAt). visit_at m s x ∷ []) (only first (inl refl) here.1)
      | inr other ↦
          ap (λ (b : Bool). if b then visit_at m s first ∷ [] else visits_by m s marks) other.0
          ∙ visited m s mark marks (behind among other.1) at (λ x more. only x (inr more))
    ]
  where
    behind : IsAmong mark (first ∷ marks) → (first.address ≡ s.eip → ⊥) → IsAmong mark marks
    behind (inl same) away = absurd (away (ap (λ (x : MarkAt). x.address) same ∙ at))
    behind (inr more) away = more

-- where no mark is, nothing is visited
pub not-visited : (m : Map) (s : machine.State) (marks : List MarkAt)
    → ((mark : MarkAt) → IsAmong mark marks → mark.address ≡ s.eip → ⊥) → visits_by m s marks ≡ []
not-visited m s [] away = refl
not-visited m s (first ∷ marks) away =
    elim (eqb_tells first.address s.eip) [
      | inl here ↦ absurd (away first (inl refl) here.1)
      | inr other ↦
          ap (λ (b : Bool). if b then visit_at m s first ∷ [] else visits_by m s marks) other.0
          ∙ not-visited m s marks (λ mark more. away mark (inr more))
    ]

-- a statement lists the parts of its mark, where each mark of the statement is this one
pub lists-parts : (m : Map) (mark : MarkAt) (marks : List MarkAt) → IsAmong mark marks
    → ((other : MarkAt) → IsAmong other marks → other.statement ≡ mark.statement → other ≡ mark)
    → listed_by m marks mark.statement ≡ filter_map (part_of (variables_in m mark.function)) mark.standings
lists-parts m mark [] among only = absurd among
lists-parts m mark (first ∷ marks) among only =
    elim (eqb_tells first.statement mark.statement) [
      | inl here ↦
          ap (λ (b : Bool). if b then parts first else listed_by m marks mark.statement) here.0
          ∙ ap parts (only first (inl refl) here.1)
      | inr other ↦
          ap (λ (b : Bool). if b then parts first else listed_by m marks mark.statement) other.0
          ∙ lists-parts m mark marks (behind among other.1) (λ x more. only x (inr more))
    ]
  where
    parts : MarkAt → List Part
    parts x = filter_map (part_of (variables_in m x.function)) x.standings

    behind : IsAmong mark (first ∷ marks) → (first.statement ≡ mark.statement → ⊥) → IsAmong mark marks
    behind (inl same) away = absurd (away (ap (λ (x : MarkAt). x.statement) same))
    behind (inr more) away = more

-- ---- the point of a mark

-- what a mark says of its point
pub record SaysOf (k : ℕ) (p : MapPoint) (mark : MarkAt) : Type 0 where
  pub function_is : mark.function ≡ k
  pub statement_is : p.op ≡ op.Mark mark.statement
  pub address_is : mark.address ≡ p.address
  pub standings_are : mark.standings ≡ p.before

pub says-of : (k : ℕ) (p : MapPoint) (mark : MarkAt) → mark_at k p ≡ Some mark → SaysOf k p mark
says-of k p mark is = by p.op refl is
  where
    made : ℕ → MarkAt
    made statement =
        record { address = p.address; statement = statement; function = k; standings = p.before }

    says : (n : ℕ) → p.op ≡ op.Mark n → made n ≡ mark → SaysOf k p mark
    says n e same = record {
      function_is = sym (ap (λ (x : MarkAt). x.function) same);
      statement_is = e ∙ ap op.Mark (ap (λ (x : MarkAt). x.statement) same);
      address_is = sym (ap (λ (x : MarkAt). x.address) same);
      standings_are = sym (ap (λ (x : MarkAt). x.standings) same);
    }

    by : (o : Op) → p.op ≡ o → option_map made (marked o) ≡ Some mark → SaysOf k p mark
    by (op.Mark n) e some = says n e (same_Some (made n) mark some)
    by o e some = absurd (none-some mark some)

-- a mark of function k of a map, and its point
pub record IsMarkIn (program : Program) (code : Code) (m : Map) (k : ℕ) (mark : MarkAt) : Type 0 where
  pub function_is : mark.function ≡ k
  pub listed_function : MapFunction
  pub has : slice_get m.functions k ≡ Some listed_function
  pub own : IsNumbered program code m k listed_function
  pub point : MapPoint
  pub is : TellsPoint (first_statement program.functions k) own.function (flow_at code.program k) (placement_of code k)
      (point_address code k) point
  pub marks : point.op ≡ op.Mark mark.statement
  pub says : TellsMark (first_statement program.functions k) own.function (placement_of code k) point mark.statement
  pub address_is : mark.address ≡ point_address code k point.number
  pub standings_are : mark.standings ≡ point.before

-- the statement of a mark
pub marks-one : (o : Op) (n l : ℕ) → o ≡ op.Mark n → o ≡ op.Mark l → n ≡ l
marks-one o n l e f = same_Some n l (ap marked (sym e ∙ f))

pub mark-in : (program : Program) (code : Code) (m : Map) (mark : MarkAt) → Tells program code m
    → IsAmong mark (marks_of m) → (k : ℕ) × IsMarkIn program code m k mark
mark-in program code m mark h among =
    let r = mark-from 0 m.functions mark among in
    (r.0, of-point r.0 r.1 (point-listed program code m r.0 r.1 h r.2) (says-of r.0 r.1 mark r.3))
  where
    of-point : (k : ℕ) (p : MapPoint) → IsListedAt program code m k p → SaysOf k p mark
        → IsMarkIn program code m k mark
    of-point k p listed says =
        record {
          function_is = says.function_is;
          listed_function = listed.function;
          has = listed.has;
          own = listed.own;
          point = p;
          is = listed.is;
          marks = says.statement_is;
          says = listed.is.marks mark.statement says.statement_is;
          address_is = says.address_is ∙ listed.is.address;
          standings_are = says.standings_are;
        }

-- ---- where a state is

-- a function that has an op is there
pub has-op : (functions : List Flow) (f point : ℕ) (o : Op)
    → slice_get (slice_index_or functions f empty_flow).ops point ≡ Some o → f < length functions
has-op [] f point o e = absurd (none-some o e)
has-op (flow ∷ functions) zero point o e = omega arith
has-op (flow ∷ functions) (suc f) point o e = let less = has-op functions f point o e in omega (arith, less)

-- a mark at EIP is that of the state's point
pub at-point : (program : Program) (code : Code) (m : Map) (mark : MarkAt) (input : List ℕ) (g : graph.State)
    (s : machine.State) (k : ℕ) (o : Op) → Tells program code m → Shows code input g s
    → op_at code.program g ≡ Some o → (r : IsMarkIn program code m k mark) → mark.address ≡ s.eip
    → (k ≡ g.current.function) × (r.point.number ≡ g.point) × (o ≡ op.Mark mark.statement)
at-point program code m mark input g s k o h shown has r at =
    let f : ℕ = g.current.function in
    let below = has-op code.program.functions f g.point o has in
    let same = points-apart code k f r.is.placed.0 g.block r.point.number g.point h.is_selected r.own.below below
    r.is.placed.1 shown.placed (sym r.address_is ∙ at ∙ shown.eip) in
    let mine : slice_get (flow_at code.program f).ops g.point ≡ Some r.point.op =
    subst (λ (n : ℕ). slice_get (flow_at code.program n).ops g.point ≡ Some r.point.op) same.0
    (subst (λ (q : ℕ). slice_get (flow_at code.program k).ops q ≡ Some r.point.op) same.1 r.is.same_op) in
    (same.0, same.1, same_Some o r.point.op (sym has ∙ mine) ∙ r.marks)

-- each mark of the graph has one in the map
pub marked-at : (program : Program) (code : Code) (m : Map) (f block point statement : ℕ) → Tells program code m
    → f < length code.program.functions → Stands (flow_at code.program f) point block
    → op_of code.program f point ≡ Some (op.Mark statement)
    → (mark : MarkAt) × IsAmong mark (marks_of m) × (mark.address ≡ point_address code f point)
marked-at program code m f block point statement h below stands has =
    let x = has-function program code m f h below in
    let n = numbered program code m f x.0 h x.1 in
    let p = n.is.all_marks point statement (block, stands) has in
    let k : ℕ = 0 + f in
    let mark : MarkAt =
    record { address = p.0.address; statement = statement; function = k; standings = p.0.before } in
    let listed = n.is.points p.0 p.1 in
    let mine : p.0.op ≡ op.Mark statement =
    same_Some p.0.op (op.Mark statement)
    (sym listed.same_op ∙ ap (λ (q : ℕ). slice_get (flow_at code.program f).ops q) p.2 ∙ has) in
    let is : mark_at k p.0 ≡ Some mark =
    ap (λ (o : Op). option_map (λ (st : ℕ).
    let y : MarkAt = record { address = p.0.address; statement = st; function = k; standings = p.0.before } in y)
    (marked o)) mine in
    (mark, mark-to 0 f m.functions x.0 p.0 mark x.1 p.1 is, listed.address ∙ ap (point_address code f) p.2)
