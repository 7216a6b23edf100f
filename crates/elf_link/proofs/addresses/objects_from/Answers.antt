-- Each object is small, and its address comes behind those of the ones before it.
use Rattle.std.proofs.Common.{◌≡◌, ◌+◌, ◌++◌, ℕ, List, [], ◌∷◌, map, drop, arith, ap, sym, ◌∙◌, append_assoc}
use Rattle.ia32_insn.specs.Items.{Object, elements_size, object_addresses}
use Rattle.elf_link.specs.Parts.{object_of, objects_size}
use Rattle.elf_link.proofs.Holding.{held_at, left_at}
use Rattle.elf_link.proofs.addresses.objects_from.Goals as goal

pub elements_size-requires-clause-size : goal.elements_size-requires-clause-size
elements_size-requires-clause-size c =
    (held_at c.args.objects.now.items c.deref-object-items.result.now c.loop-object.object-index c.object-item.result
    c.requires.held c.deref-object-items.ensures.value (omega arith) c.object-item.is).size

pub elements_size-requires-clause-width : goal.elements_size-requires-clause-width
elements_size-requires-clause-width c =
    (held_at c.args.objects.now.items c.deref-object-items.result.now c.loop-object.object-index c.object-item.result
    c.requires.held c.deref-object-items.ensures.value (omega arith) c.object-item.is).narrow

-- the address of one more object
pushed : (objects more : List Object) (o : Object) (made new : List ℕ) (address size : ℕ)
    → new ≡ made ++ (address + 4) ∷ [] → size ≡ elements_size o → objects ≡ o ∷ more
    → new ++ object_addresses (address + (4 + size)) more ≡ made ++ object_addresses address objects
pushed objects more o made new address size push is begin =
    let next : address + (4 + size) ≡ address + 4 + elements_size o = omega (arith, is) in
    let joined : (made ++ (address + 4) ∷ []) ++ object_addresses (address + 4 + elements_size o) more
    ≡ made ++ object_addresses address (o ∷ more) = simp append_assoc in
    ap (λ (xs : List ℕ). xs ++ object_addresses (address + (4 + size)) more) push
    ∙ ap (λ (n : ℕ). (made ++ (address + 4) ∷ []) ++ object_addresses n more) next
    ∙ joined
    ∙ ap (λ (os : List Object). made ++ object_addresses address os) (sym begin)

pub loop-object-preserved : goal.loop-object-preserved
loop-object-preserved c =
    let objects = c.args.objects.now.items in
    let k : ℕ = c.loop-object.object-index in
    let left = left_at objects c.deref-object-items.result.now k c.object-item.result
    c.deref-object-items.ensures.value (omega arith) c.object-item.is in
    record {
      made = pushed (map object_of (drop k objects)) (map object_of (drop (k + 1) objects))
          (object_of c.object-item.result) c.loop-object.addresses.items c.push.new.self.items c.loop-object.address
          c.elements_size.result c.in_ok-push.ensures.items c.elements_size.ensures (ap (map object_of) left)
          ∙ c.loop-object.invariant.made;
      left = omega (
        arith,
        ap (λ os. objects_size (map object_of os)) left,
        c.elements_size.ensures,
        c.loop-object.invariant.left,
      );
    }
