use Rattle.std.proofs.Common.{◌≡◌, sym, ◌∙◌, false, true}
use Rattle.std.proofs.lemmas.Slice.Eq.{bytes_eq-Decides}
use Rattle.map_file.specs.Views.{map_of}
use Rattle.map_reader.proofs.Compared.{same_printed}
use Rattle.map_reader.proofs.whole.read_map.Goals as goal

pub returns-else-eq-clause-not_map : goal.returns-else-eq-clause-not_map
returns-else-eq-clause-not_map c = λ e m is same.
    let read = rw c.in-Some.is at c.in_ok-map.ensures in
    let printed = same_printed c.map_is_read.ensures m (map_of c.in-Some.map) c.args.text.now
    c.as_slice.result.now is same read (c.as_slice.ensures.value ∙ c.in_ok-printed.ensures) in
    let no : false ≡ true = sym c.if-eq.false ∙ c.eq.ensures
    ∙ (bytes_eq-Decides c.as_slice.result.now c.args.text.now).1 printed in
    cc
