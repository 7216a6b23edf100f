-- What is judged behind a part, and again behind that.
use Rattle.std.proofs.Common.{◌≡◌, refl, ap, List, ◌++◌}
use Rattle.std.proofs.lemmas.List.{append_assoc}
use Rattle.c_typing.specs.Checked.{Checked, Fits, Fails, Note, if_fits, noted}

noted_noted : {A : Type 0} (ns ms : List Note) (c : Checked A) → noted (ns ++ ms) c ≡ noted ns (noted ms c)
noted_noted ns ms (Fits x ks) = ap (λ (xs : List Note). Fits x xs) (append_assoc ns ms ks)
noted_noted ns ms (Fails f fs) = refl

noted_then : {A B : Type 0} (ns : List Note) (c : Checked A) (row : A → Checked B)
    → if_fits (noted ns c) row ≡ noted ns (if_fits c row)
noted_then ns (Fits x ms) row = noted_noted ns ms (row x)
noted_then ns (Fails f fs) row = refl

pub then_then : {A B C : Type 0} (c : Checked A) (row : A → Checked B) (next : B → Checked C)
    → if_fits (if_fits c row) next ≡ if_fits c (λ x. if_fits (row x) next)
then_then (Fits x ns) row next = noted_then ns (row x) next
then_then (Fails f fs) row next = refl
