-- One source after the other.
use Rattle.std.specs.List.{AllByRecursion}
use Rattle.std.proofs.Common.{rules, ◌≡◌, ◌<◌, ◌+◌, ◌^◌, ◌++◌, ℕ, List, [], ◌∷◌, Vec, Global, length, length-append}
use Rattle.std.proofs.Common.{map, ap}
use Rattle.std.proofs.Common.{sym, subst, ◌∙◌, arith}
use Rattle.std.specs.Borrow.{Bor}
use Rattle.std.proofs.lemmas.List.{map-append}
use Rattle.pcc_base.proofs.Lists.{all-push}
use Rattle.pcc_driver.specs.Sources.{StopsAt}
use Rattle.pcc_driver.proofs.SoFar.{read_done, read_on, unread_on, wanting_on}
use Rattle.pcc_driver.proofs.reading.read_sources.Goals as goal

abbrev bytes : List (Vec ℕ Global) → List (List ℕ)
bytes texts = map (λ t. t.items) texts

abbrev names : List (Bor (List ℕ)) → List (List ℕ)
names sources = map (λ s. s.now) sources

abbrev IsSmall : Vec ℕ Global → Type 0
IsSmall t = length t.items + 1 < 2 ^ 32

pub loop-source-preserved : goal.loop-source-preserved
loop-source-preserved g c =
    let inv = c.loop-source.invariant in
    let place = inv.place in
    let many = inv.many in
    let pushed = c.in-Ok.ensures in
    record {
      counts = c.in_ok-text.ensures.counts ∙ inv.counts;
      telling = λ f. c.read_source.ensures.telling (inv.telling f);
      kept = λ f other. c.read_source.ensures.kept (inv.telling f) other ∙ inv.kept f other;
      so = λ f. read_on (g.F.FileStore.content c.args.files.now) (names c.args.sources.now)
          (bytes c.loop-source.texts.items)
          (bytes c.push_text.new.texts.items) c.args.sources.now c.loop-source.source-index _ c.loop-source.position
          c.in_ok-text.text.items (inv.so f) c.loop-source-test.true
          (sym (inv.kept f _) ∙ c.in_ok-text.ensures.told (inv.telling f)) c.in_ok-text.ensures.size
          (ap bytes pushed ∙ map-append (λ (t : Vec ℕ Global). t.items) c.loop-source.texts.items _);
      place = omega (arith, place);
      many = omega (arith, many, simp length-append at (ap length pushed));
      small = subst (AllByRecursion IsSmall) (sym pushed) (all-push IsSmall c.loop-source.texts.items _ inv.small
          (omega (arith, c.in_ok-text.ensures.size)));
    }

pub returns-in_err-text-clause-told : goal.returns-in_err-text-clause-told
returns-in_err-text-clause-told g c = λ f.
    let inv = c.loop-source.invariant in
    let told = c.in_err-text.ensures.told (inv.telling f) in
    let stops : StopsAt (g.F.FileStore.content c.args.files.now) c.in_err-text.field-0.0.why (names c.args.sources.now)
    c.in_err-text.field-0.0.position =
    rw told.0 (unread_on (g.F.FileStore.content c.args.files.now) (names c.args.sources.now)
    (bytes c.loop-source.texts.items) c.args.sources.now c.loop-source.source-index _ c.loop-source.position _
    c.in_err-text.field-0.0.why (inv.so f) c.loop-source-test.true (inv.kept f _) told.1) in
    search rules

pub returns-in-Err-clause-told : goal.returns-in-Err-clause-told
returns-in-Err-clause-told g c = λ f.
    wanting_on (g.F.FileStore.content c.args.files.now) (names c.args.sources.now) (bytes c.loop-source.texts.items)
    c.args.sources.now c.loop-source.source-index c.loop-source.position (c.loop-source.invariant.so f)
    c.loop-source-test.true

pub returns-clause-told : goal.returns-clause-told
returns-clause-told g c = λ f.
    read_done (g.F.FileStore.content c.args.files.now) (names c.args.sources.now) (bytes c.loop-source.texts.items)
    c.args.sources.now c.loop-source.source-index c.loop-source.position (c.loop-source.invariant.so f)
    c.loop-source-test.false
