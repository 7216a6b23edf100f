-- `a[i]` and `i[a]` as places that do what the source does.
use Rattle.std.proofs.Common.{refl, subst, sym}
use Rattle.c_tree.specs.declared.types.ValueType.{ValueType}
use Rattle.c_tree.specs.declared.types.ValueType.TheVariants.{Integer, Pointer}
use Rattle.c_tree.specs.Evaluation.{evaluate, locate}
use Rattle.c_tree.specs.Program.{Address, Element}
use Rattle.lower_lines.specs.Expressions.{AtAddress, address_part, element_of, part_of}
use Rattle.lower_lines.specs.Following.{Lowers, LowersPlace, context_of}
use Rattle.lower_laws.proofs.Indexing.{indexes-follow}
use Rattle.lower_laws.proofs.Turned.{turned-follow}
use Rattle.lower_laws.proofs.Addressing.{indexes-addressed, turned-addressed}
use Rattle.lower_laws.proofs.ElementsNaming.{index-clear, turned-clear}
use Rattle.lower_laws.proofs.ElementsUpdating.{clear-settled}
use Rattle.lower_laws.specs.ElementsLaws.{IndexesLower, TurnedLower}

pub indexes-lower : IndexesLower
indexes-lower S site a b t la of u lb of' =
    let c = context_of S in
    let to = element_of c t (Pointer t) (part_of c a) (part_of c b) in
    let settled = clear-settled S to (index-clear S (part_of c a) (part_of c b) (evaluate S.calls a) t la of) in
    let value : Lowers S (address_part c t (AtAddress t to)) (evaluate S.calls (Address t (Element t a b))) =
    subst (λ (p : ValueType). Lowers S (address_part c t (AtAddress t (element_of c t p (part_of c a) (part_of c b))))
    (evaluate S.calls (Address t (Element t a b)))) of (indexes-addressed S site a b t la of u lb of') in
    subst (λ (p : ValueType). LowersPlace S (Integer t) (AtAddress t (element_of c t p (part_of c a) (part_of c b)))
    (locate S.calls (Element t a b))) (sym of) (
      record {
        follows = indexes-follow S site a b t la of u lb of';
        kept = settled.kept;
        steady = settled.steady;
        value = value;
      },
      refl,
    )

pub turned-lower : TurnedLower
turned-lower S site a b t u la of lb of' =
    let c = context_of S in
    let to = element_of c t (Integer u) (part_of c a) (part_of c b) in
    let settled = clear-settled S to (turned-clear S (part_of c a) (part_of c b) t u) in
    let value : Lowers S (address_part c t (AtAddress t to)) (evaluate S.calls (Address t (Element t a b))) =
    subst (λ (p : ValueType). Lowers S (address_part c t (AtAddress t (element_of c t p (part_of c a) (part_of c b))))
    (evaluate S.calls (Address t (Element t a b)))) of (turned-addressed S site a b t u la of lb of') in
    subst (λ (p : ValueType). LowersPlace S (Integer t) (AtAddress t (element_of c t p (part_of c a) (part_of c b)))
    (locate S.calls (Element t a b))) (sym of) (
      record {
        follows = turned-follow S site a b t u la of lb of';
        kept = settled.kept;
        steady = settled.steady;
        value = value;
      },
      refl,
    )
