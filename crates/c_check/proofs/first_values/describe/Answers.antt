use Rattle.std.proofs.Common.{◌≡◌, sym, ap, ◌∙◌, ◌++◌, map, take}
use Rattle.c_check_expressions.specs.Notes.{note_of}
use Rattle.c_check.specs.Tables.{described_by, is_seen_with, known_of, test_of}
use Rattle.c_check.proofs.Order.{objects_all, objects_more, objects_with, seen_in, seen_more}
use Rattle.c_check.proofs.Walks.{taken, taken_all}
use Rattle.c_check.proofs.first_values.describe.Goals as goal

pub notes-preserved : goal.notes-preserved
notes-preserved c =
    let all = c.args.notes.now in
    let i = c.notes.note-index in
    let k = known_of c.args.known.now in
    let ns = map note_of (take i all) in
    let n = note_of c.note-item.result in
    let seen : test_of c.notes.seen ≡ seen_in k ns = λ j. λ e. c.notes.invariant.seen e j in
    let more = taken note_of all i c.note-item.result c.notes-test.true c.note-item.is in
    record {
      seen = λ e. c.in_ok-gather.ensures.seen e ∙ ap (λ f. is_seen_with n f e) seen
          ∙ sym (ap (λ f. f e) (seen_more k ns n)) ∙ sym (ap (λ ms. seen_in k ms e) more);
      objects = c.in_ok-gather.ensures.objects
          ∙ ap (λ os. os ++ described_by k (test_of c.notes.seen) n) c.notes.invariant.objects
          ∙ ap (λ f. objects_with k ns ++ described_by k f n) seen ∙ sym (objects_more k ns n)
          ∙ sym (ap (objects_with k) more);
    }

pub returns : goal.returns
returns c =
    let k = known_of c.args.known.now in
    c.notes.invariant.objects
    ∙ ap (λ xs. objects_with k (map note_of xs)) (taken_all c.args.notes.now c.notes.note-index c.notes-test.false)
    ∙ objects_all k (map note_of c.args.notes.now) c.requires
