use Rattle.std.proofs.Common.{◌≡◌, length, map, refl, arith}
use Rattle.c_eval_state.specs.Values.{held_of}
use Rattle.std.proofs.lemmas.List.{length-map}
use Rattle.c_tree.specs.Erased.{local_of, array_of}
use Rattle.c_tree.specs.Store.{first_array, first_values}
use Rattle.c_eval_state.specs.declared.calls.Call.{Call}
use Rattle.c_eval_state.proofs.Active.{active-length}
use Rattle.c_eval_state.proofs.Seen.{active-changed, entered-kept, entered-active}
use Rattle.c_eval_state.proofs.store.Store.enter.Goals as goal

pub invariant_of-self-2 : goal.invariant_of-self-2
invariant_of-self-2 c =
    let i = c.self.inside in
    let e = c.in_ok-push_call.ensures in
    let f = c.args.function.now in
    let call : Call = record {
      locals = length i.locals.items;
      arrays = length i.arrays;
      count = length f.arrays.items;
    } in
    let depth : length c.args.self.now.active ≡ length i.calls.items =
    rw (← c.self.view_is) (active-length i.calls.items (length i.calls.items) _ _) in
    let count : length f.arrays.items ≡ length (map first_array (map array_of f.arrays.items)) =
    omega (arith, length-map f.arrays.items array_of, length-map (map array_of f.arrays.items) first_array) in
    rw (e.0, e.2) (entered-kept i.calls.items call i.locals.items c.push_call.new.locals.items
    (first_values (map local_of f.locals.items) (map held_of c.args.arguments.now)) i.arrays
    (map first_array (map array_of f.arrays.items)) c.self.invariant (omega
    (arith, depth, c.requires)) refl refl count e.1)

pub returns : goal.returns
returns c =
    let i = c.self.inside in
    let e = c.in_ok-push_call.ensures in
    let f = c.args.function.now in
    let call : Call = record {
      locals = length i.locals.items;
      arrays = length i.arrays;
      count = length f.arrays.items;
    } in
    λ s. rw (← c.self.view_is) (active-changed s i.objects _ _
    (rw (e.0, e.2) (entered-active i.calls.items call i.locals.items c.push_call.new.locals.items
    (first_values (map local_of f.locals.items) (map held_of c.args.arguments.now)) i.arrays
    (map first_array (map array_of f.arrays.items)) refl refl e.1)))
