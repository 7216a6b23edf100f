-- The words of a call's arguments are in their places.
use Rattle.std.proofs.Common.{◌≡◌, ℕ, zero, suc, ◌^◌, ◌<◌, List, [], ◌∷◌, length, Option, Some, None, inl, inr, refl}
use Rattle.std.proofs.Common.{sym, ap, subst, ◌∙◌}
use Rattle.std.specs.Prelude.{map, slice_get, unwrap_or}
use Rattle.std.specs.List.{AllByRecursion}
use Rattle.std.proofs.lemmas.Option.{none-some, same_Some}
use Rattle.pcc_base.specs.Outcome.{Value}
use Rattle.pcc_base.specs.declared.run.Width.{Width}
use Rattle.pcc_base.specs.declared.run.Width.TheVariants.{Two}
use Rattle.ia32_insn.specs.declared.register_names.Reg32.TheVariants.{Ebp}
use Rattle.ia32_insn.specs.Places.{Place, InWord, InByte, InSlot}
use Rattle.ia32_insn.specs.State as machine
use Rattle.ia32_insn.specs.Meaning.{word_of}
use Rattle.flow_graph.specs.declared.op.Op.{Op}
use Rattle.flow_graph.specs.Graphs.{IsIn, IsMet}
use Rattle.flow_graph.specs.Shapes.{two}
use Rattle.flow_graph.specs.Liveness.{uses}
use Rattle.flow_graph.specs.Meaning.{one_more, values_at}
use Rattle.flow_graph.specs.States as graph
use Rattle.flow_graph.specs.States.{Activation, active_of, flow_at, op_at, value_at}
use Rattle.flow_graph.specs.WellFormed.{IsState}
use Rattle.ia32_rows.specs.Placements.{Code, placement_of}
use Rattle.ia32_rows.specs.Shows.{IsWord, Shows, StandsIn}
use Rattle.ia32_rows.specs.Contains.{Contains, HoldsWord, IsPlaceIn}
use Rattle.ia32_laws.specs.KeepsOps.{before_at}
use Rattle.ia32_laws.specs.Supports.{HoldsWidth, IsSupported}
use Rattle.ia32_laws.proofs.Small.{word-small}
use Rattle.ia32_laws.proofs.Shown.{point-supported}
use Rattle.ia32_laws.specs.ActivationsLaws.{AreHeld}
use Rattle.ia32_laws.proofs.Compared.{word-in}

-- the words in the places are those of the values, each of which a variable holds
pub record AreWords (code : Code) (g : graph.State) (frames : List ℕ) (s : machine.State) (arguments : List ℕ)
    (values : List Value) (words : List ℕ) : Type 0 where
  pub held : AreHeld (placement_of code g.current.function).frame s (map (before_at code g) arguments) words
  pub many : length words ≡ length values
  pub long : length values ≡ length arguments
  pub are : (k : ℕ) (value : Value) → slice_get values k ≡ Some value
      → (w : ℕ) × (slice_get words k ≡ Some w) × IsWord code (active_of g) frames value w
  pub variables : (k : ℕ) (value : Value) → slice_get values k ≡ Some value
      → (v : ℕ) × (slice_get g.current.variables v ≡ Some value)

-- what one more value is
more-is : (o : Option Value) (p : Option (List Value)) (values : List Value) → one_more o p ≡ Some values
    → (first : Value) × (rest : List Value) × (o ≡ Some first) × (p ≡ Some rest) × (first ∷ rest ≡ values)
more-is None p values e = absurd (none-some values e)
more-is (Some x) None values e = absurd (none-some values e)
more-is (Some x) (Some xs) values e = (x, xs, refl, refl, same_Some (x ∷ xs) values e)

pub arguments-held : (code : Code) (input : List ℕ) (g : graph.State) (s : machine.State) (o : Op)
    (arguments : List ℕ) (values : List Value) → IsSupported code → IsState code.program g
    → (shown : Shows code input g s) → op_at code.program g ≡ Some o
    → ((v : ℕ) → IsIn v arguments → IsIn v (uses o))
    → AllByRecursion (IsMet (flow_at code.program g.current.function)) (map two arguments)
    → values_at g arguments ≡ Some values
    → (words : List ℕ) × AreWords code g shown.frames s arguments values words
arguments-held code input g s o [] values h state shown has used met e =
    subst (λ (xs : List Value). (words : List ℕ) × AreWords code g shown.frames s [] xs words) (same_Some [] values e) (
      [],
      record {
        held = tt;
        many = refl;
        long = refl;
        are = λ k value none. absurd (none-some value none);
        variables = λ k value none. absurd (none-some value none);
      },
    )
arguments-held code input g s o (v ∷ vs) values h state shown has used met e =
    let (first, rest, is_first, is_rest, whole) = more-is (value_at g v) (values_at g vs) values e in
    let behind = arguments-held code input g s o vs rest h state shown has (λ u i. used u (inr i)) met.1 is_rest in
    let here = point-supported code g o h state has in
    let (place, at) = here.read v (used v (inl refl)) in
    let for = here.before v place at in
    let stands = subst (λ (w : Option Width). StandsIn code (active_of g) shown.frames s (word_of Ebp s) w first place)
    met.0 (shown.variables v first place is_first at) in
    let word = word-in code (active_of g) shown.frames s first place
    (subst (λ (w : Option Width). HoldsWidth w place) met.0 for.holds) stands in
    let same : before_at code g v ≡ place = ap (λ (p : Option Place). unwrap_or p (InSlot 0)) at in
    let small = word-small code input g s first word.0 h state shown word.3 in
    subst (λ (xs : List Value). (words : List ℕ) × AreWords code g shown.frames s (v ∷ vs) xs words) whole (
      word.0 ∷ behind.0,
      record {
        held = (
          subst (λ (p : Place). HoldsWord p × IsPlaceIn (placement_of code g.current.function).frame p
              × Contains s Two p word.0 × (word.0 < 2 ^ 32)) (sym same) (word.1, for.inside, word.2, small),
          (behind.1).held,
        );
        many = ap suc (behind.1).many;
        long = ap suc (behind.1).long;
        are = each first rest word.0 behind.0 word.3 (behind.1).are;
        variables = all first rest v is_first (behind.1).variables;
      },
    )
  where
    each : (first : Value) (rest : List Value) (w : ℕ) (words : List ℕ)
        → IsWord code (active_of g) shown.frames first w
        → ((k : ℕ) (value : Value) → slice_get rest k ≡ Some value
        → (x : ℕ) × (slice_get words k ≡ Some x) × IsWord code (active_of g) shown.frames value x)
        → (k : ℕ) (value : Value) → slice_get (first ∷ rest) k ≡ Some value
        → (x : ℕ) × (slice_get (w ∷ words) k ≡ Some x) × IsWord code (active_of g) shown.frames value x
    each first rest w words is others zero value f =
        (w, refl, subst (λ (z : Value). IsWord code (active_of g) shown.frames z w) (same_Some first value f) is)
    each first rest w words is others (suc k) value f = others k value f

    all : (first : Value) (rest : List Value) (u : ℕ) → slice_get g.current.variables u ≡ Some first
        → ((k : ℕ) (value : Value) → slice_get rest k ≡ Some value
        → (x : ℕ) × (slice_get g.current.variables x ≡ Some value))
        → (k : ℕ) (value : Value) → slice_get (first ∷ rest) k ≡ Some value
        → (x : ℕ) × (slice_get g.current.variables x ≡ Some value)
    all first rest u is others zero value f = (u, is ∙ f)
    all first rest u is others (suc k) value f = others k value f
