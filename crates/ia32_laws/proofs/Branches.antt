-- Branches on a comparison.
use Rattle.std.proofs.Common.{◌≡◌, ℕ, Bool, true, false, List, [], ◌∷◌, ◌++◌, Some, inl, inr, refl, ap, subst, ◌∙◌}
use Rattle.std.proofs.Common.{append_assoc}
use Rattle.std.specs.Prelude.{if◌then◌else◌}
use Rattle.ia32_insn.specs.declared.insn.Cond.{Cond}
use Rattle.ia32_insn.specs.declared.item.Item.{Item}
use Rattle.ia32_insn.specs.declared.item.Item.TheVariants as item
use Rattle.ia32_insn.specs.State.{State, at_address}
use Rattle.ia32_insn.specs.Arithmetic.{holds}
use Rattle.ia32_rows.specs.Paths.{Comes}
use Rattle.ia32_rows.specs.Sites.{ReadyAt, Site, SoundAt, StandsFrom}
use Rattle.ia32_rows.proofs.Jumps.{branch-leads, branch-passes}
use Rattle.ia32_rows.proofs.Sound.{sound-at}
use Rattle.ia32_rows.proofs.Steps.{comes-then}
use Rattle.ia32_rows.proofs.Straight.{straight-goes}
use Rattle.ia32_rows.specs.Rows.{choosing, comparing, jumping}
use Rattle.ia32_laws.specs.CoresLaws.{BranchGoes, IsOnTheWay}
use Rattle.ia32_laws.proofs.Flags.{places-compare}

-- items that are ready stand there
ready-stands : (site : Site) (items : List Item) (s : State) → ReadyAt site items s → StandsFrom site items s.eip
ready-stands site items s ready = record { bytes = ready.bytes; here = ready.here; stand = ready.stand }

-- the two ways, by whether the condition holds
ways-lead : (site : Site) (c : Cond) (b : Bool) (detour : ℕ) (to_taken to_other : List Item) (taken other : ℕ)
    (u : State) (address : ℕ) (front back rest : List Item) (start : ℕ) → SoundAt site u → holds c u.flags ≡ Some b
    → ReadyAt site (choosing c detour to_taken to_other taken other ++ rest) (at_address address u)
    → StandsFrom site (front ++ (item.Label (if b then taken else other) ∷ back)) start
    → (after : ℕ) × Comes site.text (at_address address u) (at_address after u)
    × IsOnTheWay site (if b then to_taken else to_other) (if b then taken else other) back (at_address after u)
ways-lead site c true detour [] to_other taken other u address front back rest start sound e ready stands =
    let (after, comes, there) = branch-leads site c front back (jumping to_other other ++ rest) start taken
    (at_address address u) (sound-at site.text site.low site.high address u sound) stands ready e in
    (after, comes, inr (refl, there))
ways-lead site c false detour [] to_other taken other u address front back rest start sound e ready stands =
    let (after, comes, there) = branch-passes site c (jumping to_other other ++ rest) taken (at_address address u)
    (sound-at site.text site.low site.high address u sound) ready e in
    (after, comes, inl (rest, there))
ways-lead site c true detour (move ∷ moves) to_other taken other u address front back rest start sound e ready stands =
    let here : State = at_address address u in
    let first : List Item = jumping to_other other in
    let second : List Item = jumping (move ∷ moves) taken in
    let all : List Item = item.JumpIf c detour ∷ ((first ++ (item.Label detour ∷ second)) ++ rest) in
    let own : StandsFrom site ((item.JumpIf c detour ∷ first) ++ (item.Label detour ∷ (second ++ rest))) here.eip =
    subst (λ (items : List Item). StandsFrom site (item.JumpIf c detour ∷ items) here.eip)
    (append_assoc first (item.Label detour ∷ second) rest) (ready-stands site all here ready) in
    let (after, comes, there) = branch-leads site c (item.JumpIf c detour ∷ first) (second ++ rest)
    ((first ++ (item.Label detour ∷ second)) ++ rest) here.eip detour here
    (sound-at site.text site.low site.high address u sound) own ready e in
    (after, comes, inl (rest, there))
ways-lead site c false detour (move ∷ moves) to_other taken other u address front back rest start sound e ready stands =
    let first : List Item = jumping to_other other in
    let second : List Item = item.Label detour ∷ jumping (move ∷ moves) taken in
    let (after, comes, there) = branch-passes site c ((first ++ second) ++ rest) detour (at_address address u)
    (sound-at site.text site.low site.high address u sound) ready e in (
      after,
      comes,
      inl (
        second ++ rest,
        subst (λ (items : List Item). ReadyAt site items (at_address after u))
            (append_assoc first second rest) there,
      ),
    )

pub branch-goes : BranchGoes
branch-goes site frame c t detour q r to_taken to_other taken other x y s address front back rest start framed a
    a_placed b b_placed one two fits decided ready stands =
    let ends : List Item = choosing c detour to_taken to_other taken other in
    let known = places-compare site frame q r x y s framed a a_placed b b_placed one two fits in
    let u : State = known.0 in
    let here : ReadyAt site (comparing q r ++ (ends ++ rest)) (at_address address s) =
    subst (λ (items : List Item). ReadyAt site items (at_address address s))
    (append_assoc (comparing q r) ends rest) ready in
    let went = straight-goes site (comparing q r) (ends ++ rest) s u address framed.sound here known.1.leads in
    let last = ways-lead site c t detour to_taken to_other taken other u went.0 front back rest start
    known.1.framed.sound (ap (holds c) known.1.flags ∙ decided) went.2 stands in (
      u,
      known.1.framed,
      known.1.keeps,
      last.0,
      comes-then site.text (at_address address s) (at_address went.0 u) (at_address last.0 u) went.1 last.1,
      last.2,
    )
