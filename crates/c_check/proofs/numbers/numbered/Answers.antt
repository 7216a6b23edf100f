use Rattle.std.proofs.Common.{sym, ap, subst, ◌∙◌, map, take, drop, suc}
use Rattle.c_check_expressions.specs.Notes.{note_of}
use Rattle.c_check.specs.Tables.{known_of, test_of, with_number, AreDefinedOnce}
use Rattle.c_check.proofs.Order.{fresh_at, numbers_all, numbers_more, numbers_with}
use Rattle.c_check.proofs.Walks.{parted, taken, taken_all}
use Rattle.c_check.proofs.numbers.numbered.Goals as goal

pub notes-preserved : goal.notes-preserved
notes-preserved c =
    let all = c.args.notes.now in
    let i = c.notes.note-index in
    let d = test_of c.args.known.now.objects in
    let ns = map note_of (take i all) in
    let n = note_of c.note-item.result in
    c.in_ok-add.ensures ∙ ap (with_number d n) c.notes.invariant
    ∙ sym (numbers_more d ns n (fresh_at d ns n (map note_of (drop (suc i) all)) (subst AreDefinedOnce
    (parted note_of all i c.note-item.result c.notes-test.true c.note-item.is) c.requires.once)))
    ∙ sym (ap (numbers_with d) (taken note_of all i c.note-item.result c.notes-test.true c.note-item.is))

pub returns : goal.returns
returns c =
    c.notes.invariant
    ∙ ap (λ xs. numbers_with (test_of c.args.known.now.objects) (map note_of xs))
    (taken_all c.args.notes.now c.notes.note-index c.notes-test.false)
    ∙ numbers_all (map note_of c.args.notes.now) (known_of c.args.known.now) c.requires.known
