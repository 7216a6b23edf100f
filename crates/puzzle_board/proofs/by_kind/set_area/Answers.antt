use Rattle.std.proofs.Common.{ℕ, List, ◌≡◌, ◌∙◌, ap, arith, length-set, set}
use Rattle.std.proofs.Common.{Option, Some, None}
use Rattle.puzzle_board.specs.Areas.{place_of_kind, kind_of}
use Rattle.puzzle_board.specs.Classes.{IsRefiled}
use Rattle.puzzle_board.specs.Stored.{area_classes}
use Rattle.puzzle_board.proofs.Classes.{filed-unlisted}
use Rattle.puzzle_board.proofs.Stored.{area-listed, area-out, area-in, length-area_classes}
use Rattle.puzzle_board.proofs.by_kind.set_area.Goals as goal

pub unfile-requires : goal.unfile-requires
unfile-requires g c =
    area-listed c.args.by_kind.now c.args.free.now c.args.number c.requires.filed c.requires.within

pub file-requires-clause-class : goal.file-requires-clause-class
file-requires-clause-class g c =
    let free = c.args.free.now in
    let old : List (Option ℕ) = area_classes free in
    let n = c.args.number in
    let out = area-out free n c.requires.within in
    let long = length-set old n None in
    let mid = c.unfile.ensures.filed 10 old (set old n None) c.requires.filed out
    (omega (arith, long, c.requires.filed.room)) in
    omega (arith, mid.as_many, c.list.ensures.few)

pub file-requires-clause-number : goal.file-requires-clause-number
file-requires-clause-number g c =
    omega (
      arith,
      c.requires.filed.room,
      length-area_classes c.args.free.now,
      c.requires.within,
      c.unfile.ensures.nodes,
    )

pub file-requires-clause-in_none : goal.file-requires-clause-in_none
file-requires-clause-in_none g c =
    let free = c.args.free.now in
    let old : List (Option ℕ) = area_classes free in
    let n = c.args.number in
    let out = area-out free n c.requires.within in
    let long = length-set old n None in
    let mid = c.unfile.ensures.filed 10 old (set old n None) c.requires.filed out
    (omega (arith, long, c.requires.filed.room)) in
    filed-unlisted c.unfile.new.lists 10 (set old n None) n mid out.here

pub returns-clause-filed : goal.returns-clause-filed
returns-clause-filed g c =
    let free = c.args.free.now in
    let old : List (Option ℕ) = area_classes free in
    let n = c.args.number in
    let out = area-out free n c.requires.within in
    let long = length-set old n None in
    let mid = c.unfile.ensures.filed 10 old (set old n None) c.requires.filed out
    (omega (arith, long, c.requires.filed.room)) in
    let kind : c.list.result ≡ place_of_kind (kind_of c.args.area) =
    c.list.ensures.value ∙ ap place_of_kind c.kind.ensures in
    let come : IsRefiled (set old n None) (area_classes (set free n c.args.area)) n (Some c.list.result) =
    rw kind (area-in free n c.args.area c.requires.within) in
    let new = length-area_classes (set free n c.args.area) in
    let same = length-set free n c.args.area in
    let was = length-area_classes free in
    c.file.ensures.filed 10 (set old n None) (area_classes (set free n c.args.area)) mid come
    (omega (arith, new, same, was, c.requires.filed.room, c.unfile.ensures.nodes))
