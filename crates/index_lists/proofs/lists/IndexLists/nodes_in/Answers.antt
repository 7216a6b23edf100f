use Rattle.std.proofs.Common.{◌≡◌, ◌++◌, ◌∷◌, [], length, drop, Some, sym, ap, arith, ◌∙◌, append_assoc}
use Rattle.std.proofs.lemmas.List.{length_push}
use Rattle.std.specs.List.{slice_get}
use Rattle.index_lists.specs.Lists.{nodes_of}
use Rattle.index_lists.proofs.Indexed.{begins-with, all-read, stands-next}
use Rattle.index_lists.proofs.lists.IndexLists.nodes_in.Goals as goal

pub next-at-requires : goal.next-at-requires
next-at-requires g c =
    let i = c.nodes.invariant in
    let front = c.nodes.nodes.items in
    let is : Some c.in-Some.node ≡ slice_get i.0 0 = sym c.in-Some.is ∙ i.2 in
    (c.args.list, front, drop 1 i.0, stands-next c.args.self.now c.args.list front i.0 c.in-Some.node c.requires i.1 is)

pub nodes-preserved : goal.nodes-preserved
nodes-preserved g c =
    let i = c.nodes.invariant in
    let front = c.nodes.nodes.items in
    let node = c.in-Some.node in
    let is : Some node ≡ slice_get i.0 0 = sym c.in-Some.is ∙ i.2 in
    let stands = stands-next c.args.self.now c.args.list front i.0 node c.requires i.1 is in
    let rest = drop 1 i.0 in
    let pushed : c.push.new.self.items ≡ front ++ node ∷ [] = c.in_ok-push.ensures.items in
    let whole : (front ++ node ∷ []) ++ rest ≡ nodes_of c.args.self.now c.args.list =
    append_assoc front (node ∷ []) rest ∙ (ap (λ zs. front ++ zs) (sym (begins-with i.0 node is)) ∙ i.1) in (
      rest,
      ap (λ zs. zs ++ rest) pushed ∙ whole,
      c.next-at.ensures.next c.args.list front rest stands,
      omega (arith, c.next-at.ensures.steps, i.3, ap length pushed, length_push front node),
    )

pub returns-clause-nodes : goal.returns-clause-nodes
returns-clause-nodes g c =
    let i = c.nodes.invariant in
    all-read c.nodes.nodes.items i.0 _ i.1 (sym c.in_default.is ∙ i.2)

pub returns-clause-steps : goal.returns-clause-steps
returns-clause-steps g c =
    let i = c.nodes.invariant in
    let all : c.nodes.nodes.items ≡ nodes_of c.args.self.now c.args.list =
    all-read c.nodes.nodes.items i.0 _ i.1 (sym c.in_default.is ∙ i.2) in
    omega (arith, i.3, ap length all)
