-- The depth word is counted up and down, and checked.
use Rattle.std.proofs.Common.{◌≡◌, ℕ, ◌+◌, ◌-◌, ◌%◌, ◌^◌, ◌<◌, ◌≤◌, Bool, true, false, List, ◌∷◌, pos}
use Rattle.std.proofs.Common.{Some, Ok, inl, inr, refl, ap, ◌∙◌, arith}
use Rattle.std.specs.Prelude.{Result, not}
use Rattle.std.proofs.lemmas.Bool.Decides.{nat_tests}
use Rattle.std.proofs.lemmas.Option.{slice_get_within}
use Rattle.pcc_base.specs.Outcome.{End}
use Rattle.ia32_insn.specs.declared.register_names.Reg32.TheVariants.{Esi}
use Rattle.ia32_insn.specs.declared.operand.Rm32.TheVariants as rm
use Rattle.ia32_insn.specs.declared.insn.AluOp.{AluOp}
use Rattle.ia32_insn.specs.declared.insn.AluOp.TheVariants as alu
use Rattle.ia32_insn.specs.declared.insn.Cond.TheVariants as cond
use Rattle.ia32_insn.specs.declared.insn.Insn.TheVariants as insn
use Rattle.ia32_insn.specs.declared.item.Item.{Item}
use Rattle.ia32_insn.specs.declared.item.Item.TheVariants as item
use Rattle.ia32_insn.specs.State.{State, at_address}
use Rattle.ia32_insn.specs.Keeps.{AreDisjoint}
use Rattle.ia32_insn.specs.Arithmetic.{alu_carry, alu_flags, difference, holds, sum}
use Rattle.ia32_insn.specs.Meaning.{address_of, and_then, load, operate, store, with_flags, with_word, word_of}
use Rattle.ia32_insn.specs.Items.{IsObject, ItemAt, near, plain}
use Rattle.ia32_rows.specs.Paths.{Comes}
use Rattle.ia32_rows.specs.Sites.{Anywhere, ReadyAt, Site, SoundAt}
use Rattle.ia32_rows.proofs.Sound.{load-same, sound-at, sound-with_flags, sound-with_word, store-in, word-same}
use Rattle.ia32_rows.proofs.Steps.{comes-then, plain-goes}
use Rattle.ia32_rows.specs.Rows.{depth_number}
use Rattle.ia32_rows.specs.Effects.{Keeps, OutsideWord}
use Rattle.ia32_rows.proofs.Kept.{keeps-stricter, keeps-then, result-keeps, stored-keeps}
use Rattle.ia32_laws.proofs.Traps.{check-passes, check-traps}
use Rattle.ia32_laws.specs.ActivationsLaws.{Counts, DepthCounts, DepthFails, DepthUncounts, HasDepth}
use Rattle.ia32_laws.proofs.Loading.{near-address as pointed-address}

-- the places apart from the depth word
abbrev Beside : Site → ℕ → ℕ → Type 0
Beside site a n = AreDisjoint site.symbols.depth 4 a n

-- what is kept is kept with another EIP
moved-keeps : (R : ℕ → Type 0) (K : ℕ → ℕ → Type 0) (address : ℕ) (s t : State) → Keeps R K s t
    → Keeps R K s (at_address address t)
moved-keeps R K address s t h =
    record {
      cells = h.cells;
      loads = λ n a w k e. load-same n a w t (at_address address t) refl (h.loads n a w k e);
      left = h.left;
      taken = h.taken;
      written = h.written;
    }

-- ---- its address

-- The address of the depth word is in ESI, and all else is as before.
record Pointed (site : Site) (items : List Item) (s u : State) : Type 0 where
  pub comes : Comes site.text s u
  pub ready : ReadyAt site items u
  pub sound : SoundAt site u
  pub esi : word_of Esi u ≡ site.symbols.depth
  pub memory : u.memory ≡ s.memory
  pub keeps : Keeps (OutsideWord Esi) Anywhere s u

-- what its number names
named : (site : Site) (target : ℕ) → HasDepth site → IsObject site.symbols depth_number target
    → target ≡ site.symbols.depth
named site target has (inl h) = h.1
named site target has (inr h) =
    let within = slice_get_within site.symbols.objects depth_number target h in
    let few = has.few in
    absurd (omega (arith, within, few))

points : (site : Site) (items : List Item) (s : State) → SoundAt site s → HasDepth site
    → ReadyAt site (item.AddressOf Esi depth_number ∷ items) s → (u : State) × Pointed site items s u
points site items s sound has ready =
    let stand = ready.stand in
    let at : ItemAt site.symbols site.places s.eip (item.AddressOf Esi depth_number) stand.0 = stand.3 in
    let target : ℕ = at.0 in
    let is : target ≡ site.symbols.depth = named site target has at.2 in
    let high = has.high in
    let below = sound.below in
    let there : ReadyAt site (item.Plain (insn.MovImm (rm.Reg Esi) at.1) ∷ items) s =
    record {
      bytes = ready.bytes;
      here = ready.here;
      stand = (stand.0, stand.1, stand.2, at.4, stand.4);
    }
    in
    let t : State = with_word Esi target s in
    let went = plain-goes site.symbols site.places site.text site.low site.high (insn.MovImm (rm.Reg Esi) at.1) items s
    t sound there tt
    (λ after. ap (λ (v : ℕ). let r : Result State End = Ok (with_word Esi v s) in r) at.3) (λ after. refl) in
    let sound_t : SoundAt site t = sound-with_word site.text site.low site.high Esi target s sound in
    let u : State = at_address went.0 t in (
      u,
      record {
        comes = went.1;
        ready = went.2;
        sound = sound-at site.text site.low site.high went.0 t sound_t;
        esi = word-same site.text site.low site.high Esi target s sound (omega (arith, is, high, below)) ∙ is;
        memory = refl;
        keeps = moved-keeps (OutsideWord Esi) Anywhere went.0 s t (result-keeps site Esi target s.flags s sound);
      },
    )

pointed-loaded : (site : Site) (d : ℕ) (s : State) → SoundAt site s → HasDepth site
    → word_of Esi s ≡ site.symbols.depth → load 4 site.symbols.depth s ≡ Ok d
    → (address_of (near Esi 0) s ≡ site.symbols.depth) × (load 4 (address_of (near Esi 0) s) s ≡ Ok d)
pointed-loaded site d s sound has esi held =
    let high = has.high in
    let below = sound.below in
    let at : address_of (near Esi 0) s ≡ site.symbols.depth =
    pointed-address (word_of Esi s) (omega (arith, esi, high, below)) ∙ esi in
    (at, ap (λ (a : ℕ). load 4 a s) at ∙ held)

-- ---- the check

-- the flags of CMP of the depth word with 4,096
record Checked (site : Site) (items : List Item) (d : ℕ) (s u : State) : Type 0 where
  pub comes : Comes site.text s u
  pub ready : ReadyAt site items u
  pub sound : SoundAt site u
  pub esi : word_of Esi u ≡ site.symbols.depth
  pub flags : u.flags ≡ Some (alu_flags alu.Cmp d 4096)
  pub memory : u.memory ≡ s.memory
  pub keeps : Keeps (OutsideWord Esi) Anywhere s u

checks : (site : Site) (items : List Item) (d : ℕ) (s : State) → SoundAt site s → HasDepth site
    → load 4 site.symbols.depth s ≡ Ok d
    → ReadyAt site (item.AddressOf Esi depth_number ∷ plain (insn.AluImm alu.Cmp (rm.Mem (near Esi 0)) (pos 4096))
    ∷ items) s
    → (u : State) × Checked site items d s u
checks site items d s sound has held ready =
    let p = points site (plain (insn.AluImm alu.Cmp (rm.Mem (near Esi 0)) (pos 4096)) ∷ items) s sound has ready in
    let m : State = p.0 in
    let loaded = pointed-loaded site d m p.1.sound has p.1.esi
    (load-same 4 site.symbols.depth d s m p.1.memory held) in
    let t : State = with_flags (Some (alu_flags alu.Cmp d 4096)) m in
    let went = plain-goes site.symbols site.places site.text site.low site.high
    (insn.AluImm alu.Cmp (rm.Mem (near Esi 0)) (pos 4096)) items m t p.1.sound p.1.ready tt
    (λ after. ap (λ (x : Result ℕ End). and_then x
    (λ a. let r : Result State End = Ok (with_flags (Some (alu_flags alu.Cmp a 4096)) m) in r)) loaded.1)
    (λ after. refl) in
    let u : State = at_address went.0 t in (
      u,
      record {
        comes = comes-then site.text s m u p.1.comes went.1;
        ready = went.2;
        sound = sound-at site.text site.low site.high went.0 t
            (sound-with_flags site.text site.low site.high (Some (alu_flags alu.Cmp d 4096)) m p.1.sound);
        esi = p.1.esi;
        flags = refl;
        memory = p.1.memory;
        keeps = record {
          cells = p.1.keeps.cells;
          loads = λ n a w k e. load-same n a w m u refl (p.1.keeps.loads n a w k e);
          left = p.1.keeps.left;
          taken = p.1.keeps.taken;
          written = p.1.keeps.written;
        };
      },
    )

few-carry : (d : ℕ) → d < 4096 → not (alu_carry alu.Cmp d 4096) ≡ false
few-carry d h = grind (arith, nat_tests)

many-carry : (d : ℕ) → 4096 ≤ d → not (alu_carry alu.Cmp d 4096) ≡ true
many-carry d h = grind (arith, nat_tests)

pub depth-fails : DepthFails
depth-fails site items d s sound has held many fits ready =
    let back : List Item = plain (insn.AluImm alu.Add (rm.Mem (near Esi 0)) (pos 1)) ∷ items in
    let c = checks site (item.JumpTrap (Some cond.Ae) ∷ back) d s sound has held ready in
    let m : State = c.0 in
    let ends = check-traps site cond.Ae back m c.1.sound has.check c.1.ready
    (ap (holds cond.Ae) c.1.flags ∙ ap (λ (b : Bool). Some b) (many-carry d many)) in
    let u : State = at_address ends.0 m in (
      u,
      record {
        comes = comes-then site.text s m u c.1.comes ends.1;
        clear = ends.2;
        halts = ends.3;
        taken = c.1.keeps.taken;
        written = c.1.keeps.written;
      },
    )

-- ---- counting

-- the depth word gets another number
counts-to : (site : Site) (op : AluOp) (items : List Item) (d e : ℕ) (s : State) → SoundAt site s → HasDepth site
    → word_of Esi s ≡ site.symbols.depth → load 4 site.symbols.depth s ≡ Ok d → e < 2 ^ 32
    → ((t : State) → store 4 site.symbols.depth e s ≡ Ok t
    → operate op (rm.Mem (near Esi 0)) 1 s ≡ Ok (with_flags (Some (alu_flags op d 1)) t))
    → ReadyAt site (plain (insn.AluImm op (rm.Mem (near Esi 0)) (pos 1)) ∷ items) s
    → (u : State) × Counts site items e s u
counts-to site op items d e s sound has esi held fits does ready =
    let stored = store-in site.text site.low site.high site.symbols.depth e s sound has.low has.high fits in
    let m : State = stored.0 in
    let flags = Some (alu_flags op d 1) in
    let t : State = with_flags flags m in
    let went = plain-goes site.symbols site.places site.text site.low site.high
    (insn.AluImm op (rm.Mem (near Esi 0)) (pos 1)) items s t sound ready tt (λ after. does m stored.1.is)
    (λ after. refl) in
    let u : State = at_address went.0 t in
    let keeps = stored-keeps (OutsideWord Esi) site site.symbols.depth e s m stored.1 in (
      u,
      record {
        comes = went.1;
        ready = went.2;
        sound = sound-at site.text site.low site.high went.0 t
            (sound-with_flags site.text site.low site.high flags m stored.1.sound);
        depth = load-same 4 site.symbols.depth e m u refl stored.1.same;
        keeps = record {
          cells = keeps.cells;
          loads = λ n a w k h. load-same n a w m u refl (keeps.loads n a w k h);
          left = keeps.left;
          taken = keeps.taken;
          written = keeps.written;
        };
      },
    )

add-does : (site : Site) (d : ℕ) (s t : State) → SoundAt site s → HasDepth site
    → word_of Esi s ≡ site.symbols.depth → load 4 site.symbols.depth s ≡ Ok d
    → store 4 site.symbols.depth (sum d 1) s ≡ Ok t
    → operate alu.Add (rm.Mem (near Esi 0)) 1 s ≡ Ok (with_flags (Some (alu_flags alu.Add d 1)) t)
add-does site d s t sound has esi held done =
    let loaded = pointed-loaded site d s sound has esi held in
    let after : ℕ → ℕ → Result State End = λ (a v : ℕ). and_then (store 4 a (sum v 1) s)
    (λ m. Ok (with_flags (Some (alu_flags alu.Add v 1)) m)) in
    ap (λ (x : Result ℕ End). and_then x (after (address_of (near Esi 0) s))) loaded.1
    ∙ ap (λ (a : ℕ). after a d) loaded.0
    ∙ ap (λ (x : Result State End). and_then x
    (λ m. let r : Result State End = Ok (with_flags (Some (alu_flags alu.Add d 1)) m) in r)) done

sub-does : (site : Site) (d : ℕ) (s t : State) → SoundAt site s → HasDepth site
    → word_of Esi s ≡ site.symbols.depth → load 4 site.symbols.depth s ≡ Ok d
    → store 4 site.symbols.depth (difference d 1) s ≡ Ok t
    → operate alu.Sub (rm.Mem (near Esi 0)) 1 s ≡ Ok (with_flags (Some (alu_flags alu.Sub d 1)) t)
sub-does site d s t sound has esi held done =
    let loaded = pointed-loaded site d s sound has esi held in
    let after : ℕ → ℕ → Result State End = λ (a v : ℕ). and_then (store 4 a (difference v 1) s)
    (λ m. Ok (with_flags (Some (alu_flags alu.Sub v 1)) m)) in
    ap (λ (x : Result ℕ End). and_then x (after (address_of (near Esi 0) s))) loaded.1
    ∙ ap (λ (a : ℕ). after a d) loaded.0
    ∙ ap (λ (x : Result State End). and_then x
    (λ m. let r : Result State End = Ok (with_flags (Some (alu_flags alu.Sub d 1)) m) in r)) done

-- what is counted behind other steps
counted-behind : (site : Site) (items : List Item) (d : ℕ) (s m u : State) → Comes site.text s m
    → Keeps (OutsideWord Esi) Anywhere s m → Counts site items d m u → Counts site items d s u
counted-behind site items d s m u comes keeps c =
    record {
      comes = comes-then site.text s m u comes c.comes;
      ready = c.ready;
      sound = c.sound;
      depth = c.depth;
      keeps = keeps-then (OutsideWord Esi) (Beside site) s m u
          (keeps-stricter (OutsideWord Esi) (OutsideWord Esi) Anywhere (Beside site) s m (λ k h. h) (λ a n h. tt) keeps)
          c.keeps;
    }

pub depth-counts : DepthCounts
depth-counts site items d s sound has held few ready =
    let back : List Item = plain (insn.AluImm alu.Add (rm.Mem (near Esi 0)) (pos 1)) ∷ items in
    let c = checks site (item.JumpTrap (Some cond.Ae) ∷ back) d s sound has held ready in
    let m : State = c.0 in
    let passes = check-passes site cond.Ae back m c.1.sound c.1.ready
    (ap (holds cond.Ae) c.1.flags ∙ ap (λ (b : Bool). Some b) (few-carry d few)) in
    let n : State = at_address passes.0 m in
    let sound_n : SoundAt site n = sound-at site.text site.low site.high passes.0 m c.1.sound in
    let held_n : load 4 site.symbols.depth n ≡ Ok d = load-same 4 site.symbols.depth d s n c.1.memory held in
    let next : sum d 1 ≡ d + 1 = omega (arith, few) in
    let last = counts-to site alu.Add items d (d + 1) n sound_n has c.1.esi held_n (omega (arith, few))
    (λ t e. add-does site d n t sound_n has c.1.esi held_n
    (ap (λ (v : ℕ). store 4 site.symbols.depth v n) next ∙ e)) passes.2 in (
      last.0,
      counted-behind site items (d + 1) s n last.0 (comes-then site.text s m n c.1.comes passes.1)
          (moved-keeps (OutsideWord Esi) Anywhere passes.0 s m c.1.keeps) last.1,
    )

pub depth-uncounts : DepthUncounts
depth-uncounts site items d s sound has held some few ready =
    let p = points site (plain (insn.AluImm alu.Sub (rm.Mem (near Esi 0)) (pos 1)) ∷ items) s sound has ready in
    let m : State = p.0 in
    let held_m : load 4 site.symbols.depth m ≡ Ok d = load-same 4 site.symbols.depth d s m p.1.memory held in
    let next : difference d 1 ≡ d - 1 = omega (arith, some, few) in
    let last = counts-to site alu.Sub items d (d - 1) m p.1.sound has p.1.esi held_m (omega (arith, few))
    (λ t e. sub-does site d m t p.1.sound has p.1.esi held_m
    (ap (λ (v : ℕ). store 4 site.symbols.depth v m) next ∙ e)) p.1.ready in
    (last.0, counted-behind site items (d - 1) s m last.0 p.1.comes p.1.keeps last.1)
