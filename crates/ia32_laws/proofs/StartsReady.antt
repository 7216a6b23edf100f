-- The first items of `main`.
use Rattle.std.proofs.Common.{◌≡◌, ℕ, ◌<◌, length, sym, ap, subst, ◌∙◌}
use Rattle.std.specs.Prelude.{option_map}
use Rattle.std.proofs.lemmas.Option.{same_Some}
use Rattle.flow_graph.specs.States as graph
use Rattle.flow_graph.specs.States.{first_state_at}
use Rattle.flow_graph.proofs.Keeping.{functions_begin}
use Rattle.ia32_laws.proofs.Ready.{entries-are-ready}
use Rattle.ia32_laws.specs.StartsLaws.{MainsAreReady, ObjectsStart}
use Rattle.ia32_laws.proofs.Called.{main-is-shown}

pub mains-are-ready : MainsAreReady
mains-are-ready code h input g s e c =
    let program = (h.supported).program in
    let main : ℕ = code.program.main in
    let (point, first) = functions_begin code.program main program program.main in
    let same : first_state_at code.program input point ≡ g =
    same_Some (first_state_at code.program input point) g
    (sym (ap (option_map (first_state_at code.program input)) first) ∙ e) in
    let is : main ≡ g.current.function = ap (λ (x : graph.State). x.current.function) same in
    entries-are-ready code input g s h (subst (λ (f : ℕ). f < length code.program.functions) is program.main) c

pub objects-start : ObjectsStart
objects-start code h = main-is-shown code h.supported (mains-are-ready code h)
