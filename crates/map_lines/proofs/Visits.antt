-- A map shows at its marks what its graphs show there, and nothing elsewhere.
use Rattle.std.specs.List.{All, cons_option}
use Rattle.std.proofs.Common.{◌≡◌, ◌⊎◌, ℕ, ◌+◌, ◌<◌, ◌≤◌, ◌^◌, List, [], ◌∷◌, map}
use Rattle.std.proofs.Common.{Option, Some, None, inl, inr, refl, sym, ap, subst, ◌∙◌, arith}
use Rattle.std.specs.Prelude.{filter_map, option_map, slice_get}
use Rattle.std.proofs.lemmas.List.Elements.{All-head, recursion_from_All}
use Rattle.std.proofs.lemmas.Option.{none-some, same_Some, slice_get-map}
use Rattle.std.proofs.lemmas.Simd.{map-map}
use Rattle.pcc_base.specs.declared.run.Width.{Width}
use Rattle.pcc_base.specs.Outcome.{AreKnown, IsKnown, Part, Value, Visit}
use Rattle.c_tree.specs.Program.{Local, Program}
use Rattle.c_tree.specs.WellTyped.{IsScalar, IsTypedFunction}
use Rattle.ia32_insn.specs.declared.register_names.Reg32.TheVariants.{Esp, Ebp}
use Rattle.ia32_insn.specs.Places.{Place}
use Rattle.ia32_insn.specs.State as machine
use Rattle.ia32_insn.specs.Items.{data_start, stack_end}
use Rattle.ia32_insn.specs.Meaning.{word_of}
use Rattle.flow_graph.specs.declared.op.Op.TheVariants as op
use Rattle.flow_graph.specs.Running.{part_value, visits_at}
use Rattle.flow_graph.specs.States as graph
use Rattle.flow_graph.specs.States.{active_of, flow_at, op_at}
use Rattle.flow_graph.specs.WellFormed.{IsState}
use Rattle.flow_graph.proofs.Keeping.{states_are_states}
use Rattle.flow_graph.proofs.Lists.{All-at}
use Rattle.lower_lines.specs.Shown.{locals_at, variable_part, variables_shown}
use Rattle.ia32_rows.specs.Follows.{ShowsVisits}
use Rattle.ia32_rows.specs.Paths.{IsAt, IsClear}
use Rattle.ia32_rows.specs.Placements.{Code, objects_of, placement_of}
use Rattle.ia32_rows.specs.Shows.{Shows, StandsIn}
use Rattle.ia32_laws.specs.Supports.{HoldsWidth}
use Rattle.ia32_laws.proofs.Zones.{bounds}
use Rattle.map_text.specs.Maps.{Map, MapVariable, Standing, Temporary}
use Rattle.map_text.specs.Marks.{Frame, MarkAt, frames_of, listed, marks_of, part_of, value_named, value_of}
use Rattle.map_text.specs.Marks.{values_of, variables_in, variables_of, visits_of}
use Rattle.map_lines.proofs.Owners.{owner-locals}
use Rattle.map_lines.specs.VisitsLaws.{frames_at}
use Rattle.map_lines.proofs.Among.{IsAmong, all-among, among-map, to-filter}
use Rattle.map_lines.proofs.Arrays.{arrays-told}
use Rattle.map_lines.proofs.Frames.{frames-told}
use Rattle.map_lines.proofs.Marks.{IsMarkIn, at-point, lists-parts, mark-in, marked-at, marks-one}
use Rattle.map_lines.proofs.Marks.{not-visited, visited}
use Rattle.map_lines.proofs.Memory.{sound-readable}
use Rattle.map_lines.proofs.Tells.{Tells}
use Rattle.map_lines.proofs.Values.{IsReadAt, role-shown}
use Rattle.map_lines.proofs.VisitsVariables.{IsKnownVariable, part-is, part-none}
use Rattle.map_lines.proofs.VisitsVariables.{part-shown, role_name, role_part, variable-known}

-- ---- the function of a mark

-- its locals are those at the statement
mark-locals : (program : Program) (code : Code) (m : Map) (k : ℕ) (mark : MarkAt)
    → (r : IsMarkIn program code m k mark) → locals_at program.functions mark.statement ≡ r.own.function.locals
mark-locals program code m k mark r =
    let own = r.says.own in
    owner-locals program.functions mark.statement k r.own.function r.own.declared own.0 own.1

-- its variables
mark-variables : (program : Program) (code : Code) (m : Map) (k : ℕ) (mark : MarkAt)
    → (r : IsMarkIn program code m k mark) → variables_in m mark.function ≡ r.listed_function.variables
mark-variables program code m k mark r =
    ap (variables_in m) r.function_is ∙ ap variables_of r.has

-- each is one of a local, or of none
known-in : (program : Program) (code : Code) (m : Map) (k : ℕ) (mark : MarkAt) → Tells program code m
    → (r : IsMarkIn program code m k mark) → (v : ℕ)
    → IsKnownVariable r.own.function.locals (variables_in m mark.function) v
known-in program code m k mark h r v =
    let typed : IsTypedFunction program r.own.function =
    All-at (IsTypedFunction program) program.functions k r.own.function h.well_typed.functions r.own.declared in
    subst (λ (variables : List MapVariable). IsKnownVariable r.own.function.locals variables v)
    (sym (mark-variables program code m k mark r ∙ r.own.is.variables))
    (variable-known r.own.function.locals r.own.is.temporaries v
    (recursion_from_All (λ (l : Local). IsScalar l.of) r.own.function.locals typed.locals))

-- ---- values

-- what is made of each element, in two ways
filter-agrees : {X Y Z : Type 0} (F : X → Option Z) (G : X → Option Y) (t : Y → Z) (xs : List X)
    → ((x : X) → IsAmong x xs → F x ≡ option_map t (G x)) → filter_map F xs ≡ map t (filter_map G xs)
filter-agrees F G t [] each = refl
filter-agrees F G t (x ∷ xs) each =
    ap (λ (o : Option _). cons_option o (filter_map F xs)) (each x (inl refl))
    ∙ ap (cons_option (option_map t (G x))) (filter-agrees F G t xs (λ y among. each y (inr among)))
    ∙ both (G x) (filter_map G xs)
  where
    both : (o : Option _) (ys : List _) → cons_option (option_map t o) (map t ys) ≡ map t (cons_option o ys)
    both None ys = refl
    both (Some y) ys = refl

-- a temporary shows nothing
shows-none : (m : Map) (frames : List Frame) (s : machine.State) (place : Place) (o : Option MapVariable)
    → (option_map (λ x. x.named) o ≡ None) ⊎ (option_map (λ x. x.named) o ≡ Some Temporary)
    → value_of m frames s place o ≡ None
shows-none m frames s place None is = refl
shows-none m frames s place (Some x) (inl e) = absurd (none-some x.named (sym e))
shows-none m frames s place (Some x) (inr e) =
    ap (value_named m frames s place x.width) (same_Some x.named Temporary e)

-- where a variable of the current function stands before a mark
read-at : (program : Program) (code : Code) (m : Map) (mark : MarkAt) (input : List ℕ) (g : graph.State)
    (s : machine.State) (standing : Standing) (variable : MapVariable) → Tells program code m
    → IsState code.program g → (shown : Shows code input g s)
    → (r : IsMarkIn program code m g.current.function mark) → r.point.number ≡ g.point
    → op_at code.program g ≡ Some (op.Mark mark.statement) → IsAmong standing mark.standings
    → slice_get (variables_in m mark.function) standing.variable ≡ Some variable
    → IsReadAt code g shown.frames s (placement_of code g.current.function).frame standing.variable variable.width
    standing.place
read-at program code m mark input g s standing variable h state shown r here has among at =
    let f : ℕ = g.current.function in
    let v : ℕ = standing.variable in
    let supported = h.is_selected.supported in
    let b = bounds code input g s supported state shown in
    let variables : List MapVariable = r.listed_function.variables in
    let there : slice_get variables v ≡ Some variable =
    ap (λ (l : List MapVariable). slice_get l v) (sym (mark-variables program code m f mark r)) ∙ at in
    let width : slice_get (flow_at code.program f).widths v ≡ Some variable.width =
    ap (λ (l : List Width). slice_get l v) (sym r.own.is.widths)
    ∙ slice_get-map (λ (x : MapVariable). x.width) variables v ∙ ap (option_map (λ (x : MapVariable). x.width)) there in
    let mine : IsAmong standing r.point.before =
    subst (λ (l : List Standing). IsAmong standing l) r.standings_are among in
    let placed : (placement_of code f).before g.point v ≡ Some standing.place =
    subst (λ (q : ℕ). (placement_of code f).before q v ≡ Some standing.place) here
    (r.says.places standing mine) in
    let point = (supported.supports f state.active.0.function).points g.point (op.Mark mark.statement)
    (g.block, shown.placed) has in
    let for_place = point.before v standing.place placed in
    let esp = shown.esp in
    let top = b.top in
    let fits = supported.fits in
    record {
      readable = sound-readable code.text (data_start code.text) (stack_end code.text (objects_of code.program)) s
          b.sound;
      small = lower (word_of Ebp s) (stack_end code.text (objects_of code.program)) top fits;
      room = below (word_of Esp s) (placement_of code f).frame (word_of Ebp s) esp;
      inside = for_place.inside;
      holds = subst (λ (w : Option Width). HoldsWidth w standing.place) width for_place.holds;
      stands = λ value e.
          subst (λ (w : Option Width).
          StandsIn code (active_of g) shown.frames s (word_of Ebp s) w value standing.place) width
          (shown.variables v value standing.place e placed);
    }
  where
    lower : (e t : ℕ) → e + 8 ≤ t → t < 0x1_0000_0000 → e < 2 ^ 32
    lower e t h k = omega arith

    below : (x z e : ℕ) → x + z ≡ e → z ≤ e
    below x z e h = omega arith

-- the known parts that a mark lists
abbrev AreKnownParts : Map → MarkAt → List Local → graph.State → Type 0
AreKnownParts m mark locals g =
    (part : Part) → IsAmong part (filter_map (part_of (variables_in m mark.function)) mark.standings)
    → IsKnown (part_value g (variable_part locals part))

-- a standing shows the part that it lists
standing-shown : (program : Program) (code : Code) (m : Map) (mark : MarkAt) (input : List ℕ) (g : graph.State)
    (s : machine.State) (standing : Standing) → Tells program code m → IsState code.program g
    → (shown : Shows code input g s) → (r : IsMarkIn program code m g.current.function mark)
    → r.point.number ≡ g.point → op_at code.program g ≡ Some (op.Mark mark.statement)
    → AreKnownParts m mark r.own.function.locals g → IsAmong standing mark.standings
    → value_of m (frames_of m mark s) s standing.place
    (slice_get (variables_in m mark.function) standing.variable)
    ≡ option_map (λ part. part_value g (variable_part r.own.function.locals part))
    (part_of (variables_in m mark.function) standing)
standing-shown program code m mark input g s standing h state shown r here has known among =
    by (known-in program code m g.current.function mark h r standing.variable)
  where
    by : IsKnownVariable r.own.function.locals (variables_in m mark.function) standing.variable
        → value_of m (frames_of m mark s) s standing.place
        (slice_get (variables_in m mark.function) standing.variable)
        ≡ option_map (λ part. part_value g (variable_part r.own.function.locals part))
        (part_of (variables_in m mark.function) standing)
    by (inr none) =
        let variables : List MapVariable = variables_in m mark.function in
        shows-none m (frames_of m mark s) s standing.place (slice_get variables standing.variable) none
        ∙ sym (ap (option_map (λ part. part_value g (variable_part r.own.function.locals part)))
        (part-none variables standing none))
    by (inl v) =
        let locals : List Local = r.own.function.locals in
        let variables : List MapVariable = variables_in m mark.function in
        let found : List Frame = frames_at (active_of g) shown.frames in
        let part : Part = role_part v.role v.number in
        let in-graph = part-shown locals variables standing.variable v in
        let lists = part-is locals variables standing v in
        let is-known : IsKnown (part_value g (role_part v.role standing.variable)) =
        subst (λ (p : Part). IsKnown (part_value g p)) in-graph
        (known part (to-filter (part_of variables) standing part mark.standings among lists)) in
        ap (value_of m (frames_of m mark s) s standing.place) v.at
        ∙ ap (value_named m (frames_of m mark s) s standing.place v.variable.width) v.is_named
        ∙ ap (λ (fs : List Frame). value_named m fs s standing.place v.variable.width
        (role_name v.role v.local.name))
        (frames-told program code m mark input g s h state shown r.function_is)
        ∙ role-shown v.role v.local.name m found code g shown.frames s (placement_of code g.current.function).frame
        standing.variable v.variable.width standing.place v.is_wide
        (read-at program code m mark input g s standing v.variable h state shown r here has among v.at)
        (λ array word at. arrays-told program code m input g s array word h state shown at) is-known
        ∙ ap (λ (p : Part). Some (part_value g p)) (sym in-graph)
        ∙ sym (ap (option_map (λ p. part_value g (variable_part locals p))) lists)

-- so a visit shows the values of the parts
values-shown : (program : Program) (code : Code) (m : Map) (mark : MarkAt) (input : List ℕ) (g : graph.State)
    (s : machine.State) → Tells program code m → IsState code.program g → (shown : Shows code input g s)
    → (r : IsMarkIn program code m g.current.function mark) → r.point.number ≡ g.point
    → op_at code.program g ≡ Some (op.Mark mark.statement) → AreKnownParts m mark r.own.function.locals g
    → values_of m mark s
    ≡ map (part_value g) (map (variable_part r.own.function.locals)
    (filter_map (part_of (variables_in m mark.function)) mark.standings))
values-shown program code m mark input g s h state shown r here has known =
    filter-agrees
    (λ (x : Standing). value_of m (frames_of m mark s) s x.place (slice_get (variables_in m mark.function) x.variable))
    (part_of (variables_in m mark.function)) (λ (p : Part). part_value g (variable_part r.own.function.locals p))
    mark.standings
    (λ x among. standing-shown program code m mark input g s x h state shown r here has known among)
    ∙ sym (map-map (part_value g) (variable_part r.own.function.locals)
    (filter_map (part_of (variables_in m mark.function)) mark.standings))

-- ---- visits

-- at the state's point there is one mark
mark-is : (program : Program) (code : Code) (m : Map) (input : List ℕ) (g : graph.State) (s : machine.State)
    (statement : ℕ) → Tells program code m → Shows code input g s
    → op_at code.program g ≡ Some (op.Mark statement) → (one two : MarkAt) → IsAmong one (marks_of m)
    → IsAmong two (marks_of m) → one.address ≡ s.eip → two.address ≡ s.eip → one ≡ two
mark-is program code m input g s statement h shown has one two a b e f =
    let r = mark-in program code m one h a in
    let q = mark-in program code m two h b in
    let first = (at-point program code m one input g s r.0 (op.Mark statement) h shown has r.1 e).2 in
    let second = (at-point program code m two input g s q.0 (op.Mark statement) h shown has q.1 f).2 in
    h.one_mark one two a b (marks-one (op.Mark statement) one.statement two.statement first second)

-- its visit is that of the graph
mark-shown : (program : Program) (code : Code) (m : Map) (mark : MarkAt) (input : List ℕ) (g : graph.State)
    (s : machine.State) → Tells program code m → IsState code.program g → (shown : Shows code input g s)
    → op_at code.program g ≡ Some (op.Mark mark.statement) → IsAmong mark (marks_of m) → mark.address ≡ s.eip
    → ((r : IsMarkIn program code m g.current.function mark) × (r.point.number ≡ g.point))
    → AreKnown (visits_at (variables_shown program (listed m)) g (Some (op.Mark mark.statement)))
    → visits_of m s ≡ visits_at (variables_shown program (listed m)) g (Some (op.Mark mark.statement))
mark-shown program code m mark input g s h state shown has among at (r, here) known =
    let parts : List Part = filter_map (part_of (variables_in m mark.function)) mark.standings in
    let lists : listed m mark.statement ≡ parts =
    lists-parts m mark (marks_of m) among
    (λ other more e. h.one_mark other mark more among e) in
    let shows : variables_shown program (listed m) mark.statement ≡ map (variable_part r.own.function.locals) parts =
    ap (λ (locals : List Local). map (variable_part locals) (listed m mark.statement))
    (mark-locals program code m g.current.function mark r)
    ∙ ap (map (variable_part r.own.function.locals)) lists in
    let first : Visit = record {
      statement = mark.statement;
      values = map (part_value g) (variables_shown program (listed m) mark.statement);
    } in
    let are-known : All IsKnown (map (part_value g) (map (variable_part r.own.function.locals) parts)) =
    subst (λ (ps : List Part). All IsKnown (map (part_value g) ps)) shows
    (All-head (λ (visit : Visit). All IsKnown visit.values) first [] known) in
    let values = values-shown program code m mark input g s h state shown r here has
    (λ part inside. all-among IsKnown (part_value g (variable_part r.own.function.locals part))
    (map (part_value g) (map (variable_part r.own.function.locals) parts)) are-known
    (among-map (part_value g) (variable_part r.own.function.locals part)
    (map (variable_part r.own.function.locals) parts)
    (among-map (variable_part r.own.function.locals) part parts inside))) in
    visited m s mark (marks_of m) among at
    (λ other more e. mark-is program code m input g s mark.statement h shown has other mark more among e at)
    ∙ ap (λ (vs : List Value).
    let visit : Visit = record { statement = mark.statement; values = vs } in visit ∷ [])
    (values ∙ ap (map (part_value g)) (sym shows))

marks-shown : (program : Program) (code : Code) (m : Map) (input : List ℕ) (k : ℕ) (g : graph.State)
    (s : machine.State) (statement : ℕ) → Tells program code m → IsState code.program g
    → (shown : Shows code input g s) → op_at code.program g ≡ Some (op.Mark statement)
    → AreKnown (visits_at (variables_shown program (listed m)) g (Some (op.Mark statement)))
    → visits_of m s ≡ visits_at (variables_shown program (listed m)) g (Some (op.Mark statement))
marks-shown program code m input k g s statement h state shown has known =
    let f : ℕ = g.current.function in
    let there = marked-at program code m f g.block g.point statement h state.active.0.function shown.placed has in
    let mark : MarkAt = there.0 in
    let at : mark.address ≡ s.eip = there.2 ∙ sym shown.eip in
    let r = mark-in program code m mark h there.1 in
    let is = at-point program code m mark input g s r.0 (op.Mark statement) h shown has r.1 at in
    let mine : (q : IsMarkIn program code m f mark) × (q.point.number ≡ g.point) =
    subst (λ (n : ℕ). (q : IsMarkIn program code m n mark) × (q.point.number ≡ g.point)) is.0 (r.1, is.1) in
    let same : statement ≡ mark.statement = marks-one (op.Mark statement) statement mark.statement refl is.2 in
    subst (λ (n : ℕ). op_at code.program g ≡ Some (op.Mark n)
    → AreKnown (visits_at (variables_shown program (listed m)) g (Some (op.Mark n)))
    → visits_of m s ≡ visits_at (variables_shown program (listed m)) g (Some (op.Mark n))) (sym same)
    (λ at-mark are-known.
    mark-shown program code m mark input g s h state shown at-mark there.1 at mine are-known) has known

turns-shown : (program : Program) (code : Code) (m : Map) (input : List ℕ) (g : graph.State) (s : machine.State)
    → Tells program code m → Shows code input g s → op_at code.program g ≡ Some op.Turn → visits_of m s ≡ []
turns-shown program code m input g s h shown has =
    not-visited m s (marks_of m)
    (λ mark among at.
    let r = mark-in program code m mark h among in
    let is = (at-point program code m mark input g s r.0 op.Turn h shown has r.1 at).2 in
    no-turn mark.statement is)
  where
    no-turn : (n : ℕ) → op.Turn ≡ op.Mark n → ⊥
    no-turn n e = cc

elsewhere-shown : (program : Program) (code : Code) (m : Map) (s : machine.State) → Tells program code m
    → IsClear code.text s.eip → visits_of m s ≡ []
elsewhere-shown program code m s h clear =
    not-visited m s (marks_of m)
    (λ mark among at.
    clear (subst (λ (a : ℕ). IsAt code.text a (0x90 ∷ [])) at
    (all-among (λ (x : MarkAt). IsAt code.text x.address (0x90 ∷ [])) mark (marks_of m) h.nops among)))

pub visits-told : (program : Program) (code : Code) (m : Map) → Tells program code m
    → ShowsVisits code (variables_shown program (listed m)) (visits_of m)
visits-told program code m h = record {
  marks = λ input k g s statement bytes reached shown has known.
      marks-shown program code m input k g s statement h
      (states_are_states code.program input k g h.is_selected.supported.program bytes reached) shown has known;
  turns = λ input g s shown has. turns-shown program code m input g s h shown has;
  elsewhere = λ s clear. elsewhere-shown program code m s h clear;
}
