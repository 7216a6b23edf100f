-- The start of a text with any static objects: ESP to the stack's end, 1 to the depth word, and the call of `main`.
use Rattle.std.proofs.Common.{◌≡◌, ℕ, ◌+◌, ◌%◌, ◌^◌, ◌<◌, ◌≤◌, List, [], ◌∷◌, ◌++◌, length, drop, pos, Ok, Some, refl}
use Rattle.std.proofs.Common.{sym, ap, subst, ◌∙◌, inr, arith, length-append}
use Rattle.std.specs.Prelude.{Result, slice_get}
use Rattle.std.specs.Int.{w32, cast_signed}
use Rattle.std.proofs.lemmas.Int.{of_z-to_z}
use Rattle.std.proofs.lemmas.Option.{same_Some}
use Rattle.pcc_base.specs.Outcome.{End}
use Rattle.ia32_insn.specs.declared.register_names.Reg32.TheVariants.{Esp}
use Rattle.ia32_insn.specs.declared.operand.Rm32.TheVariants as rm
use Rattle.ia32_insn.specs.declared.insn.Insn.{Insn}
use Rattle.ia32_insn.specs.declared.insn.Insn.TheVariants as insn
use Rattle.ia32_insn.specs.declared.item.Item.{Item}
use Rattle.ia32_insn.specs.declared.item.Item.TheVariants as item
use Rattle.ia32_insn.specs.State.{State, at_address}
use Rattle.ia32_insn.specs.Meaning.{address_of, effect, store, target, with_word, word_of}
use Rattle.ia32_insn.specs.Keeps.{AreDisjoint}
use Rattle.ia32_insn.specs.Items.{LeadsTo, Object, Places, Symbols, absolute, data_start, plain, round_up}
use Rattle.ia32_insn.specs.Items.{data_bytes, stack_end, start_items, text_start, text_state}
use Rattle.ia32_rows.specs.Sites.{ReadyAt, Site, SoundAt}
use Rattle.ia32_rows.proofs.Frames.{with_result}
use Rattle.ia32_rows.proofs.Sets.{Sets, set-word}
use Rattle.ia32_rows.proofs.Sound.{load-same, store-in}
use Rattle.ia32_rows.proofs.Spelled.{IsCommon}
use Rattle.ia32_rows.proofs.Steps.{Comes, IsAt, at-front, comes-then, items-split, plain-measured}
use Rattle.ia32_rows.proofs.Stores.{Stores, stored-at}
use Rattle.ia32_rows.specs.CallsLaws.{ReturnsToStart}
use Rattle.ia32_rows.proofs.First.{start-here}
use Rattle.ia32_rows.proofs.Pushes.{Pushed, call-goes, one_fits}
use Rattle.ia32_laws.specs.StartsLaws.{StartGoesOver, StartedOver}
use Rattle.ia32_laws.proofs.Data.{begins-sound}

record Until (site : Site) (items : List Item) (last : ℕ) (s : State) : Type 0 where
  pub ready : ReadyAt site items s
  pub end : s.eip + length ready.bytes ≡ last

moved-end : (a b c m n last : ℕ) → b ≡ a + m → n ≡ m + c → a + n ≡ last → b + c ≡ last
moved-end a b c m n last p q r = omega arith

plain-until : (site : Site) (items : List Item) (i : Insn) (last : ℕ) (s t : State) → SoundAt site s
    → Until site (item.Plain i ∷ items) last s → IsCommon i → ((after : ℕ) → effect i after s ≡ Ok t)
    → ((after : ℕ) → target i after s ≡ Ok after)
    → (address : ℕ) × Comes site.text s (at_address address t) × Until site items last (at_address address t)
plain-until site items i last s t sound h common e k =
    let m = plain-measured site.symbols site.places site.text site.low site.high i items s t sound h.ready common e k in
    let long : length h.ready.bytes ≡ length m.3 + length m.2.bytes = ap length m.6 ∙ length-append m.3 m.2.bytes in (
      m.0,
      m.1,
      record {
        ready = m.2;
        end = moved-end s.eip (at_address m.0 t).eip (length m.2.bytes) (length m.3)
            (length h.ready.bytes) last m.5 long h.end;
      },
    )

-- ---- the three items

no-base : (d : ℕ) → d < 0x1_0000_0000 → (0 + 0 + d) % 0x1_0000_0000 ≡ d
no-base d h = omega arith

absolute-address : (d : ℕ) (s : State) → d < 0x1_0000_0000 → address_of (absolute d) s ≡ d
absolute-address d s h = ap (λ (k : ℕ). (0 + 0 + k) % 0x1_0000_0000) (of_z-to_z w32 d h) ∙ no-base d h

-- a number's low bits to ESP
sets-esp : (site : Site) (items : List Item) (last n : ℕ) (s : State) → SoundAt site s
    → Until site (plain (insn.MovImm (rm.Reg Esp) (cast_signed w32 n)) ∷ items) last s → n < 2 ^ 32
    → (u : State) × Comes site.text s u × Until site items last u × Sets site Esp n s.written s u
sets-esp site items last n s sound h fits =
    let t : State = with_result Esp n s.flags s in
    let m = plain-until site items (insn.MovImm (rm.Reg Esp) (cast_signed w32 n)) last s t sound h tt
    (λ after. ap (λ (k : ℕ). let o : Result State End = Ok (with_word Esp k s) in o) (of_z-to_z w32 n fits))
    (λ after. refl) in
    (at_address m.0 t, m.1, m.2, set-word site m.0 Esp n s.flags s sound fits)

-- 1 to a word of the data
stores-one : (site : Site) (items : List Item) (last d : ℕ) (s : State) → SoundAt site s
    → Until site (plain (insn.MovImm (rm.Mem (absolute d)) (pos 1)) ∷ items) last s → site.low ≤ d → d + 4 ≤ site.high
    → d < 0x1_0000_0000
    → (u : State) × Comes site.text s u × Until site items last u × Stores site d 1 s u
stores-one site items last d s sound h from to fits =
    let stored = store-in site.text site.low site.high d 1 s sound from to one_fits in
    let t : State = stored.0 in
    let does : (after : ℕ) → effect (insn.MovImm (rm.Mem (absolute d)) (pos 1)) after s ≡ Ok t =
    λ after. ap (λ (a : ℕ). store 4 a 1 s) (absolute-address d s fits) ∙ stored.1.is in
    let m = plain-until site items (insn.MovImm (rm.Mem (absolute d)) (pos 1)) last s t sound h tt does
    (λ after. refl) in
    (at_address m.0 t, m.1, m.2, stored-at site m.0 d 1 s t stored.1)

none-behind : (a m n k last : ℕ) → n ≡ m + k → k ≡ 0 → a + n ≡ last → a + m ≡ last
none-behind a m n k last p q r = omega arith

-- the call of a function, as the last item
calls-function : (site : Site) (f address last : ℕ) (s : State) → SoundAt site s
    → Until site (item.CallFunction f ∷ []) last s → slice_get site.symbols.functions f ≡ Some address
    → site.low + 4 ≤ word_of Esp s → word_of Esp s ≤ site.high
    → (u : State) × Comes site.text s u × (u.eip ≡ address) × Pushed site last s u
calls-function site f address last s sound h named room top =
    let first : List ℕ = h.ready.stand.0 in
    let rest : List ℕ = h.ready.stand.1 in
    let whole : IsAt site.text s.eip (first ++ rest) = subst (IsAt site.text s.eip) h.ready.stand.2 h.ready.here in
    let found = h.ready.stand.3 in
    let same : found.0 ≡ address = same_Some found.0 address (sym found.1 ∙ named) in
    let leads : LeadsTo insn.Call s.eip address first =
    subst (λ (k : ℕ). LeadsTo insn.Call s.eip k first) same found.2 in
    let p = call-goes site [] address first rest s sound whole leads h.ready.stand.4 room top in
    let long : length h.ready.bytes ≡ length first + length rest = ap length h.ready.stand.2
    ∙ length-append first rest in
    let end : s.eip + length first ≡ last = none-behind s.eip (length first) (length h.ready.bytes) (length rest) last
    long (ap length h.ready.stand.4) h.end in
    (p.0, p.1, p.2, subst (λ (k : ℕ). Pushed site k s p.0) end p.3)

-- ---- the whole

-- ---- the whole

-- where the stack ends, and the depth word below it
pub enough : (text : List ℕ) (objects : List Object) → data_start text + 0x04001000 ≤ stack_end text objects
enough text objects = counted (data_start text) (round_up 4 (length (data_bytes objects)))
  where
    counted : (low n : ℕ) → low + 0x04001000 ≤ low + (n + 0x04001000)
    counted low n = omega arith

depth-apart : (low e h : ℕ) → low + 0x04001000 ≤ h → e + 4 ≡ h → AreDisjoint e 4 low 4
depth-apart low e h p r = inr (omega arith)

-- the start has no labels and no points
abbrev no_places : Places
no_places = record { labels = λ l. 0; points = λ p. 0 }

abbrev start_site : Symbols → List ℕ → List Object → Site
start_site symbols text objects = record {
  symbols = symbols;
  places = no_places;
  text = text;
  low = data_start text;
  high = stack_end text objects;
}

-- the start behind its first instruction, up to the call of `main`
abbrev storing : ℕ → ℕ → List Item
storing depth main = plain (insn.MovImm (rm.Mem (absolute depth)) (pos 1)) ∷ item.CallFunction main ∷ []

-- the state behind the call
started : (symbols : Symbols) (text : List ℕ) (objects : List Object) (main address last : ℕ) (input : List ℕ)
    (a b t : State) → symbols.depth ≡ data_start text → ReturnsToStart symbols text objects main last
    → Comes text (text_state text objects input) a
    → Sets (start_site symbols text objects) Esp (stack_end text objects) [] (text_state text objects input) a
    → Comes text a b → Stores (start_site symbols text objects) symbols.depth 1 a b
    → Comes text b t → t.eip ≡ address → Pushed (start_site symbols text objects) last b t
    → StartedOver symbols text objects main address input t
started symbols text objects main address last input a b t depth returns pa qa pb qb pt at qt =
    let first : State = text_state text objects input in
    let high : ℕ = stack_end text objects in
    let esp : word_of Esp t + 4 ≡ high = qt.esp ∙ qb.words Esp ∙ qa.value in
    let apart : AreDisjoint (word_of Esp t) 4 symbols.depth 4 =
    subst (λ (k : ℕ). AreDisjoint (word_of Esp t) 4 k 4) (sym depth)
    (depth-apart (data_start text) (word_of Esp t) high (enough text objects) esp) in
    record {
      comes = comes-then text first a t pa (comes-then text a b t pb pt);
      eip = at;
      sound = qt.sound;
      esp = esp;
      return_address = last;
      returns = qt.word;
      returns_to = returns;
      depth = qt.apart 4 symbols.depth 1 apart qb.same;
      kept = λ n k w above below e. qt.apart n k w above (qb.apart n k w below (load-same n k w first a qa.memory e));
      left = qt.left ∙ qb.left ∙ qa.left;
      taken = qt.taken ∙ qb.taken ∙ qa.taken;
      written = qt.written ∙ qb.written ∙ qa.written;
    }

-- from the state in which ESP is the stack's end
starts-behind : (symbols : Symbols) (text : List ℕ) (objects : List Object) (main address last : ℕ) (input : List ℕ)
    → symbols.depth ≡ data_start text → stack_end text objects < 0x1_0000_0000
    → ReturnsToStart symbols text objects main last → slice_get symbols.functions main ≡ Some address
    → ((a : State) × Comes text (text_state text objects input) a
    × Until (start_site symbols text objects) (storing symbols.depth main) last a
    × Sets (start_site symbols text objects) Esp (stack_end text objects) [] (text_state text objects input) a)
    → (t : State) × StartedOver symbols text objects main address input t
starts-behind symbols text objects main address last input depth fits returns named (a, pa, ready, qa) =
    let site : Site = start_site symbols text objects in
    let low : ℕ = data_start text in
    let high : ℕ = stack_end text objects in
    let far : low + 0x04001000 ≤ high = enough text objects in
    let p = stores-one site (item.CallFunction main ∷ []) last symbols.depth a qa.sound ready
    (omega (arith, depth)) (omega (arith, depth, far)) (omega (arith, depth, far, fits)) in
    let b : State = p.0 in
    let esp : word_of Esp b ≡ high = p.3.words Esp ∙ qa.value in
    let q = calls-function site main address last b p.3.sound p.2 named (room low high (word_of Esp b) far esp)
    (top high (word_of Esp b) esp) in
    (q.0, started symbols text objects main address last input a b q.0 depth returns pa qa p.1 p.3 q.1 q.2 q.3)
  where
    room : (low h e : ℕ) → low + 0x04001000 ≤ h → e ≡ h → low + 4 ≤ e
    room low h e far esp = omega arith

    top : (h e : ℕ) → e ≡ h → e ≤ h
    top h e esp = omega arith

-- the start comes to the first function's address, with one call active
pub start-goes-over : StartGoesOver
start-goes-over functions order objects main places symbols text address input h fits named =
    let s : State = text_state text objects input in
    let site : Site = start_site symbols text objects in
    let sound = begins-sound text objects input fits in
    let first : Item = plain (insn.MovImm (rm.Reg Esp) (cast_signed w32 (stack_end text objects))) in
    let xs : List Item = first ∷ storing symbols.depth main in
    let parts = items-split symbols no_places text_start xs
    (drop 3 (start_items (stack_end text objects) symbols.depth main)) h.start (h.start_at no_places) in
    let before : List ℕ = parts.0 in
    let after : List ℕ = parts.1 in
    let last : ℕ = text_start + length before in
    let both : IsAt text text_start (before ++ after) =
    subst (IsAt text text_start) parts.2 (start-here functions order objects main places symbols text h) in
    let returns : ReturnsToStart symbols text objects main last =
    (before, after, no_places, parts.3, parts.4, (both.done, both.rest, both.whole, both.place), refl) in
    let ready : ReadyAt site xs s =
    record { bytes = before; here = at-front text text_start before after both; stand = parts.3 } in
    starts-behind symbols text objects main address last input h.depth_is sound.below returns named
    (sets-esp site (storing symbols.depth main) last (stack_end text objects) s sound
    (record { ready = ready; end = refl }) sound.below)
