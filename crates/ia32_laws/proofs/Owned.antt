-- The next state is shown where an array of the current call has other elements, up to the end of their last word.
use Rattle.std.proofs.Common.{◌≡◌, ℕ, ◌+◌, ◌-◌, ◌≤◌, Bool, true, refl, sym, subst, arith}
use Rattle.std.specs.Prelude.{◌==◌, slice_get, if◌then◌else◌}
use Rattle.std.proofs.lemmas.Bool.Decides.{nat_tests}
use Rattle.ia32_insn.specs.declared.register_names.Reg32.TheVariants.{Ebp}
use Rattle.ia32_insn.specs.Meaning.{word_of}
use Rattle.flow_graph.specs.States as graph
use Rattle.flow_graph.specs.States.{depth_of, flow_at, waiting_place, waiting_with, with_elements}
use Rattle.ia32_rows.specs.Placements.{placement_of}
use Rattle.ia32_laws.specs.Supports.{IsArrayIn, size_of}
use Rattle.ia32_laws.specs.KeepsLaws.{OwnArrayShows, moved_to}
use Rattle.ia32_laws.proofs.KeepsApart.{frame-room}
use Rattle.ia32_laws.proofs.Changed.{current-at, current-shows}
use Rattle.ia32_laws.specs.MovesLaws.{ShowsBehind}
use Rattle.ia32_laws.proofs.Regions.{IsArrayOf}

pub own-array-shows : OwnArrayShows
own-array-shows code input g s t o k distance array elements new block point left taken written supported state shown
    has
    none there declared placed keeps stand arrives =
    subst (λ (test : Bool). ShowsBehind code input g.point
    (if test then record m { current = with_elements k new m.current }
    else record m {
      waiting = waiting_with k new (waiting_place m (depth_of g)) (slice_get m.waiting (waiting_place m (depth_of g)))
          m.waiting;
    }) t)
    (sym (alike (depth_of g)))
    (current-shows code input g s t o k (word_of Ebp s - distance) array.0 elements new (size_of array) block point left
    taken written supported state shown has none mine (same (size_of array)) keeps stand arrives)
  where
    m : graph.State
    m = moved_to block point left taken written g

    alike : (a : ℕ) → (a == a) ≡ true
    alike a = grind (arith, nat_tests)

    same : (n : ℕ) → n ≤ n
    same n = omega arith

    inside : IsArrayIn (placement_of code g.current.function).frame array distance
    inside = (supported.supports g.current.function state.active.0.function).arrays.inside k distance array declared
        placed

    back : (size e d : ℕ) → size ≤ e → d + 4 ≤ size → e - d + d ≡ e
    back size e d h l = omega arith

    mine : IsArrayOf code g shown.frames 0 k (word_of Ebp s - distance) array.0 elements
    mine = record {
      activation = g.current;
      frame = word_of Ebp s;
      is = current-at code input g s shown;
      has = there;
      array = array;
      declared = declared;
      below = distance;
      placed = placed;
      at_address = back (placement_of code g.current.function).frame (word_of Ebp s) distance
          (frame-room code input g s 0 g.current (word_of Ebp s) supported state shown
          (current-at code input g s shown)) inside.high;
      width_is = refl;
    }
