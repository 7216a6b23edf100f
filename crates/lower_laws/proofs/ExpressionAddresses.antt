-- `&*p` is the pointer's value, and `*p` is a place that does what the source does.
use Rattle.std.proofs.Common.{◌≡◌, List, refl, sym, subst}
use Rattle.c_tree.specs.declared.types.IntegerType.{IntegerType}
use Rattle.c_tree.specs.declared.types.ValueType.{ValueType}
use Rattle.c_tree.specs.declared.types.ValueType.TheVariants.{Pointer}
use Rattle.c_tree.specs.Evaluation as evaluation
use Rattle.c_tree.specs.Evaluation.{evaluate}
use Rattle.c_tree.specs.Program.{Function}
use Rattle.c_tree.specs.Store.{Evaluated, Gives, Ends, Held, HoldsNumber, HoldsPointer, and_then}
use Rattle.lower_lines.specs.Expressions.{part_of}
use Rattle.lower_lines.specs.Following.{Follows, GivesOf, MayWant, Site, context_of}
use Rattle.lower_laws.proofs.PlacesAssigning.{target-settled}
use Rattle.lower_laws.proofs.PlacesReading.{targets-follow}
use Rattle.lower_laws.specs.PlacesLaws.{TargetsAreAddressed, TargetsLower}

-- the address of what a pointer goes to
abbrev again : Evaluated Held → Evaluated Held
again r = and_then (and_then r (λ v u. Gives (evaluation.target_of v) u))
    (λ found u. Gives (evaluation.address_of found) u)

again-same : (S : Site) (active : List Function) (t : IntegerType) (r : Evaluated Held)
    → GivesOf S.program active (Pointer t) r → again r ≡ r
again-same S active t (Gives (HoldsNumber n) u) typed = absurd typed
again-same S active t (Gives (HoldsPointer array index) u) typed = refl
again-same S active t (Ends end u) typed = refl

pub targets-addressed : TargetsAreAddressed
targets-addressed S site e t lowers of = record {
  follows = λ active block level wanted before s g stands room may begins.
      let wants = subst (λ (m : ValueType). MayWant S wanted m) (sym of) may in
      let typed = subst (λ (m : ValueType). GivesOf S.program active m (evaluate S.calls e s)) of
      (lowers.typed active block level wanted before s g stands room wants begins) in
      subst (λ (r : Evaluated Held). Follows S active before ((part_of (context_of S) e).lines block level wanted) level
      wanted (Pointer t) s g r) (sym (again-same S active t (evaluate S.calls e s) typed))
      (subst (λ (m : ValueType). Follows S active before ((part_of (context_of S) e).lines block level wanted) level
      wanted
      m s g (evaluate S.calls e s)) of
      (lowers.follows active block level wanted before s g stands room wants begins));
  typed = λ active block level wanted before s g stands room may begins.
      let wants = subst (λ (m : ValueType). MayWant S wanted m) (sym of) may in
      let typed = subst (λ (m : ValueType). GivesOf S.program active m (evaluate S.calls e s)) of
      (lowers.typed active block level wanted before s g stands room wants begins) in
      subst (λ (r : Evaluated Held). GivesOf S.program active (Pointer t) r)
      (sym (again-same S active t (evaluate S.calls e s) typed)) typed;
  simple = λ same active s g begins. absurd (cc);
  stands = λ spot same. absurd (cc);
}

pub targets-lower : TargetsLower
targets-lower S site e t lowers of =
    let settled = target-settled S (part_of (context_of S) e) (evaluate S.calls e) t lowers of in (
      record {
        follows = targets-follow S site e t lowers of;
        kept = settled.kept;
        steady = settled.steady;
        value = targets-addressed S site e t lowers of;
      },
      refl,
    )
