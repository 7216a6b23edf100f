-- The machine follows the ops that take the address of a frame array and of a static object.
use Rattle.std.proofs.Common.{false, ◌≡◌, ℕ, zero, suc, ◌+◌, ◌-◌, ◌*◌, ◌^◌, ◌<◌, ◌≤◌, ℤ, List, [], ◌∷◌}
use Rattle.std.proofs.Common.{length, Option, Some, inl, inr, refl, sym, ap, subst, ◌∙◌, arith}
use Rattle.std.specs.Prelude.{slice_get, slice_index_or}
use Rattle.std.specs.Int.{w32, cast_unsigned}
use Rattle.std.proofs.lemmas.Option.{get_or_from_slice_get, none-some, same_Some}
use Rattle.pcc_base.specs.Objects.{Object}
use Rattle.pcc_base.specs.Outcome.{InFrame, Static, Array, Value}
use Rattle.pcc_base.specs.declared.run.Width.{Width}
use Rattle.pcc_base.specs.declared.run.Width.TheVariants.{Two}
use Rattle.pcc_base.proofs.Lists.{element-at}
use Rattle.ia32_insn.specs.declared.register_names.Reg32.{Reg32}
use Rattle.ia32_insn.specs.declared.register_names.Reg32.TheVariants.{Ebp}
use Rattle.ia32_insn.specs.declared.operand.Rm32.TheVariants as rm
use Rattle.ia32_insn.specs.declared.insn.Insn.TheVariants as insn
use Rattle.ia32_insn.specs.declared.item.Item.{Item}
use Rattle.ia32_insn.specs.declared.item.Item.TheVariants as item
use Rattle.ia32_insn.specs.State as machine
use Rattle.ia32_insn.specs.State.{State}
use Rattle.ia32_insn.specs.Meaning.{address_of, with_word, word_of}
use Rattle.ia32_insn.specs.Items.{IsObject, ItemAt, data_start, elements_size, object_addresses, plain}
use Rattle.flow_graph.specs.declared.op.Op.{Op}
use Rattle.flow_graph.specs.declared.op.Op.TheVariants as op
use Rattle.flow_graph.specs.States as graph
use Rattle.flow_graph.specs.States.{active_of, depth_of, flow_at, op_at}
use Rattle.flow_graph.specs.WellFormed.{AreElementsIn, AreElementsOf, IsState, NamesWithin}
use Rattle.flow_graph.proofs.Active.{length-active}
use Rattle.flow_graph.proofs.Lists.{zip-second}
use Rattle.flow_graph.proofs.Values.{op-at}
use Rattle.ia32_rows.specs.Placements.{Code, below, placement_of}
use Rattle.ia32_rows.specs.Shows.{ElementsStand, IsFrameArrayAt, Shows}
use Rattle.ia32_rows.specs.Sites.{Framed, Site}
use Rattle.ia32_rows.proofs.Frames.{below-address}
use Rattle.ia32_rows.proofs.Sound.{sound-with_word, word-below}
use Rattle.ia32_rows.specs.Rows.{frame_row, place_after, static_row, target_of, write}
use Rattle.ia32_rows.specs.Effects.{Makes}
use Rattle.ia32_rows.proofs.Instructions.{number-makes}
use Rattle.ia32_rows.proofs.Moves.{gives-word}
use Rattle.ia32_laws.proofs.Landing.{followed}
use Rattle.ia32_laws.specs.Supports.{IsSupported, site_of}
use Rattle.ia32_laws.specs.KeepsOps.{RowAt}
use Rattle.ia32_laws.proofs.Small.{word-small}
use Rattle.ia32_laws.proofs.Ops.{at-after, op-is}
use Rattle.ia32_laws.proofs.Puts.{IsLow, puts-follow}
use Rattle.ia32_laws.proofs.Shown.{point-supported}
use Rattle.ia32_laws.proofs.Zones.{shown-in-frame}
use Rattle.ia32_rows.proofs.Sums.{target-puts, target-works}
use Rattle.ia32_laws.specs.AccessesLaws.{FramePuts}
use Rattle.ia32_laws.specs.AccessesOps.{FrameFollows, StaticFollows}

-- ---- rows that give a register a word

-- LEA of a place below EBP
address-makes : (site : Site) (frame : ℕ) (r : Reg32) (k : ℕ) (s : State) → Framed site frame s → 0 < k → k ≤ frame
    → Makes site (insn.Lea r (below k)) s (with_word r (word_of Ebp s - k) s)
address-makes site frame r k s framed some within =
    let esp = framed.esp in
    let at = below-address k s some (omega arith) (word-below site.text site.low site.high Ebp s framed.sound) in
    subst (λ (a : ℕ). Makes site (insn.Lea r (below k)) s (with_word r a s)) at
    (record {
      straight = tt;
      does = λ address. refl;
      sound = sound-with_word site.text site.low site.high r (address_of (below k) s) s framed.sound;
    })

pub frame-puts : FramePuts
frame-puts site frame p k s framed room to some within =
    let t : Reg32 = target_of p in
    let base = word-below site.text site.low site.high Ebp s framed.sound in
    target-puts site frame (plain (insn.Lea t (below k)) ∷ []) p (word_of Ebp s - k) s room to
    (gives-word site frame (insn.Lea t (below k)) t (word_of Ebp s - k) s framed (target-works frame p to)
    (omega (arith, base)) (address-makes site frame t k s framed some within))

-- ---- a frame array

-- where a frame array of the current call stands
own-address : (code : Code) (input : List ℕ) (g : graph.State) (s : machine.State) (k below : ℕ) (elements : List ℤ)
    → (shown : Shows code input g s) → slice_get g.current.arrays k ≡ Some elements
    → slice_get (placement_of code g.current.function).arrays k ≡ Some below → below ≤ word_of Ebp s
    → IsFrameArrayAt code (active_of g) shown.frames k (depth_of g) (word_of Ebp s - below)
own-address code input g s k below elements shown has placed within =
    let count = length-active g in
    let first : 0 ≡ length (active_of g) - depth_of g = omega (arith, count) in
    record {
      oldest = omega arith;
      youngest = omega (arith, count);
      activation = g.current;
      of_depth = subst (λ (i : ℕ). slice_get (active_of g) i ≡ Some g.current) first refl;
      elements = elements;
      has = has;
      frame = word_of Ebp s;
      at_frame = subst (λ (i : ℕ). slice_get shown.frames i ≡ Some (word_of Ebp s)) first
          (ap (λ (fs : List ℕ). slice_get fs 0) shown.youngest);
      below = below;
      placed = placed;
      address = omega (arith, within);
    }

pub frame-follows : FrameFollows
frame-follows d k code input g s supported state shown has r =
    followed code input g s (op.Frame d k) false supported state has (
    let o : Op = op.Frame d k in
    let frame : ℕ = (placement_of code g.current.function).frame in
    let here = point-supported code g o supported state has in
    let (place, at) = here.written d refl in
    let for = here.after d place at in
    let fits = (op-is code g o supported state has).fits in
    let framed = (shown-in-frame code input g s supported state shown).framed in
    let esp = framed.esp in
    let supports = supported.supports g.current.function state.active.0.function in
    let (array, declared) = element-at (flow_at code.program g.current.function).arrays k fits.1.0 in
    let many = supports.arrays.as_many in
    let lt = fits.1.0 in
    let (below, placed) = element-at (placement_of code g.current.function).arrays k (omega (arith, many, lt)) in
    let inside = supports.arrays.inside k below array declared placed in
    let low = inside.low in
    let high = inside.high in
    let (elements, there, are) = zip-second AreElementsOf (flow_at code.program g.current.function).arrays
    g.current.arrays k array state.active.0.arrays declared in
    let w : ℕ = word_of Ebp s - below in
    let value : Value = Array (InFrame k (depth_of g)) in
    let is : IsLow code (active_of g) shown.frames (Some Two) value w =
    own-address code input g s k below elements shown there placed (omega (arith, esp, high)) in
    let same : slice_index_or (placement_of code g.current.function).arrays k 0 ≡ below =
    get_or_from_slice_get (placement_of code g.current.function).arrays k below 0 placed in
    puts-follow code input g s o d w value place (frame_row place below) supported state shown has refl (λ next h. h)
    (at-after code g s d place (λ p. frame_row p below) at
    (subst (λ (b : ℕ). RowAt code g (frame_row (place_after (placement_of code g.current.function) g.point d) b) s) same
    r)) at
    (frame-puts (site_of code g.current.function) frame place below s framed supports.four_words for.inside
    (omega (arith, low)) (omega (arith, high)))
    (subst (λ (v : Option Width). IsLow code (active_of g) shown.frames v value w) (sym fits.0) is)
    (omega arith, omega arith))

-- ---- static objects

-- each object has four bytes before it at least, so its number is small
addresses-high : (start : ℕ) (objects : List Object) (k address : ℕ)
    → slice_get (object_addresses start objects) k ≡ Some address → start + 4 * k < address
addresses-high start [] k address e = absurd (none-some address e)
addresses-high start (o ∷ objects) zero address e = let at = same_Some (start + 4) address e in omega (arith, at)
addresses-high start (o ∷ objects) (suc k) address e =
    let rest = addresses-high (start + 4 + elements_size o) objects k address e in omega (arith, rest)

-- the object that an op names is there
pub object-within : (code : Code) (g : graph.State) (o : Op) (k : ℕ) → IsSupported code → IsState code.program g
    → op_at code.program g ≡ Some o
    → (NamesWithin (length code.program.functions) (length code.program.objects) o → k < length code.program.objects)
    → k < length code.program.objects
object-within code g o k supported state has f =
    let known = op-at code.program g.current.function g.point g.block supported.program state.active.0.function
    state.placed in
    f (subst (NamesWithin (length code.program.functions) (length code.program.objects))
    (same_Some known.op o (sym known.there ∙ has)) known.names)

-- where a static object stands, with its elements
pub record HasObject (code : Code) (g : graph.State) (s : machine.State) (k : ℕ) : Type 0 where
  pub elements : List ℤ
  pub has : slice_get g.objects k ≡ Some elements
  pub object : graph.Object
  pub declared : slice_get code.program.objects k ≡ Some object
  pub fit : AreElementsIn object elements
  pub address : ℕ
  pub placed : slice_get code.symbols.objects k ≡ Some address
  pub stand : ElementsStand s address object.width elements
  pub small : address < 2 ^ 32

pub has-object : (code : Code) (input : List ℕ) (g : graph.State) (s : machine.State) (k : ℕ) → IsSupported code
    → IsState code.program g → Shows code input g s → k < length code.program.objects → HasObject code g s k
has-object code input g s k supported state shown below =
    let (object, declared) = element-at code.program.objects k below in
    let (elements, has, fit) = zip-second AreElementsIn code.program.objects g.objects k object state.objects declared
    in
    let (there, address, also, placed, stand) = shown.objects k elements has in
    let same : there ≡ object = same_Some there object (sym also ∙ declared) in
    record {
      elements = elements;
      has = has;
      object = object;
      declared = declared;
      fit = fit;
      address = address;
      placed = placed;
      stand = subst (λ (o : graph.Object). ElementsStand s address o.width elements) same stand;
      small = word-small code input g s (Array (Static k)) address supported state shown (below, placed);
    }

-- the number of a static object names its address
pub object-named : (code : Code) (g : graph.State) (s : machine.State) (k target : ℕ) → IsSupported code
    → (h : HasObject code g s k) → IsObject code.symbols k target → h.address ≡ target
object-named code g s k target supported h (inr e) = same_Some h.address target (sym h.placed ∙ e)
object-named code g s k target supported h (inl e) =
    let at = subst (λ (l : List ℕ). slice_get l k ≡ Some h.address) supported.is_code.text.objects_are h.placed in
    let high = addresses-high (data_start code.text + 4) _ k h.address at in
    let small = h.small in
    let number = e.0 in
    absurd (omega (arith, high, small, number))

-- the address of an object stands as a number
pub record NamedRow (code : Code) (g : graph.State) (r : Reg32) (k : ℕ) (items : List Item) (s : machine.State) : Type 0
  where
    pub number : ℤ
    pub names : IsObject code.symbols k (cast_unsigned w32 number)
    pub row : RowAt code g (plain (insn.MovImm (rm.Reg r) number) ∷ items) s

pub named-row : (code : Code) (g : graph.State) (r : Reg32) (k : ℕ) (items : List Item) (s : machine.State)
    → RowAt code g (item.AddressOf r k ∷ items) s → NamedRow code g r k items s
named-row code g r k items s row =
    let site : Site = site_of code g.current.function in
    let stand = row.ready.stand in
    let at : ItemAt site.symbols site.places s.eip (item.AddressOf r k) stand.0 = stand.3 in
    record {
      number = at.1;
      names = subst (IsObject code.symbols k) (sym at.3) at.2;
      row = record {
        rest = row.rest;
        ready = record {
          bytes = row.ready.bytes;
          here = row.ready.here;
          stand = (stand.0, stand.1, stand.2, at.4, stand.4);
        };
        follows = row.follows;
      };
    }

pub static-follows : StaticFollows
static-follows d k code input g s supported state shown has r =
    followed code input g s (op.Static d k) false supported state has (
    let o : Op = op.Static d k in
    let frame : ℕ = (placement_of code g.current.function).frame in
    let site : Site = site_of code g.current.function in
    let here = point-supported code g o supported state has in
    let (place, at) = here.written d refl in
    let for = here.after d place at in
    let fits = (op-is code g o supported state has).fits in
    let framed = (shown-in-frame code input g s supported state shown).framed in
    let four = (supported.supports g.current.function state.active.0.function).four_words in
    let lt = object-within code g o k supported state has (λ h. h) in
    let there = has-object code input g s k supported state shown lt in
    let t : Reg32 = target_of place in
    let named = named-row code g t k (write place t) s (at-after code g s d place (λ p. static_row p k) at r) in
    let z : ℤ = named.number in
    let w : ℕ = cast_unsigned w32 z in
    let same : there.address ≡ w = object-named code g s k w supported there named.names in
    let small : w < 2 ^ 32 = subst (λ (a : ℕ). a < 2 ^ 32) same there.small in
    let value : Value = Array (Static k) in
    let is : IsLow code (active_of g) shown.frames (Some Two) value w =
    (lt, subst (λ (a : ℕ). slice_get code.symbols.objects k ≡ Some a) same there.placed) in
    puts-follow code input g s o d w value place (plain (insn.MovImm (rm.Reg t) z) ∷ write place t) supported state
    shown has refl (λ next h. h) named.row at
    (target-puts site frame (plain (insn.MovImm (rm.Reg t) z) ∷ []) place w s four for.inside
    (gives-word site frame (insn.MovImm (rm.Reg t) z) t w s framed (target-works frame place for.inside) small
    (number-makes site t z s framed.sound)))
    (subst (λ (v : Option Width). IsLow code (active_of g) shown.frames v value w) (sym fits.0) is) tt)
