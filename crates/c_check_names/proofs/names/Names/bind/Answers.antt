use Rattle.std.proofs.Common.{rules, ◌≡◌, List, ℕ, length, ap, sym, ◌∙◌, arith}
use Rattle.std.specs.Prelude.{nat_eq}
use Rattle.std.specs.Cmp.Lexicographic.{pointwise}
use Rattle.std.specs.Map.{lookup}
use Rattle.c_check_names.proofs.Tables.{bind_keeps}
use Rattle.c_check_names.proofs.names.Names.bind.Goals as goal

pub invariant_of-self-in-Ok : goal.invariant_of-self-in-Ok
invariant_of-self-in-Ok c =
    let a : c.in_ok-own.own.items ≡ c.args.name.now = search rules in
    let b : c.in_ok-own.key.items ≡ c.args.name.now = search rules in
    let n : c.len-place.result ≡ length c.self.inside.entries.items =
    omega (arith, c.len-place.ensures, c.self.inside.entries.ok) in
    bind_keeps (λ k. k.items) c.self.inside.places.entries c.insert.new.self.entries
    c.self.inside.entries.items c.push.new.self.items _ c.in_ok-own.key.items c.len-place.result
    c.in_ok-push.ensures.items (a ∙ sym b) c.self.invariant
    (c.copied-hidden.ensures ∙ c.get.ensures.value
    ∙ ap (λ (n : List ℕ). lookup (λ k. pointwise nat_eq n k.items) c.self.inside.places.entries) (sym b))
    n c.in-Ok.ensures.updates.1 c.in-Ok.ensures.updates.3
