use Rattle.std.proofs.Common.{ap, sym, ◌∙◌}
use Rattle.c_check_names.proofs.Tables.{forget_keeps, last_is_there}
use Rattle.c_check_names.proofs.names.Names.forget_one.Goals as goal

pub put_back-requires : goal.put_back-requires
put_back-requires c = let q = c.in-Some.ensures.some in
    last_is_there (λ k. k.items) c.self.inside.places.entries c.self.inside.places.entries c.self.inside.entries.items
    c.take_last.new.entries.items q.0 c.in-Some.name.items c.in-Some.hidden q.1 (ap (λ v. v.items) q.2) c.self.invariant

pub invariant_of-self : goal.invariant_of-self
invariant_of-self c = let q = c.in-Some.ensures.some in
    forget_keeps (λ k. k.items) c.self.inside.places.entries c.put_back.new.places.entries c.self.inside.entries.items
    c.take_last.new.entries.items q.0 c.in-Some.name.items q.1 (ap (λ v. v.items) q.2) c.self.invariant
    (c.put_back.ensures.at ∙ sym q.3) c.put_back.ensures.others
