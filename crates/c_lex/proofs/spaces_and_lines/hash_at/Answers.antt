use Rattle.std.proofs.Common.{◌≡◌, ◌∷◌, ◌∙◌, Bool, true, ap, sym, subst, List, ℕ}
use Rattle.std.proofs.lemmas.Bool.{false≢true}
use Rattle.std.specs.List.{prefix_len}
use Rattle.pcc_base.specs.Ascii.{hash}
use Rattle.c_lex.specs.Pieces.{Begins, NoneBegins, IsMarker, Skipped, line_of}
use Rattle.c_lex.proofs.SkipPieces.{no_newline, skipped_begins, hash_begins_none, behind_hash}
use Rattle.c_lex.proofs.spaces_and_lines.hash_at.Goals as goal

pub returns-then-not-fresh : goal.returns-then-not-fresh
returns-then-not-fresh c =
    let starts = c.requires in
    subst (λ (bs : List ℕ). NoneBegins c.args.fresh bs) (sym starts.1)
    (hash_begins_none c.args.fresh starts.0 (λ is _. false≢true (sym c.if-not-fresh.true ∙ is)))

pub returns-then-is_marker : goal.returns-then-is_marker
returns-then-is_marker c =
    let starts = c.requires in
    let rest = c.args.rest.now in
    let end = c.line_length-end.result in
    let count = c.line_length-end.ensures.count in
    let line = behind_hash rest starts.0 end starts.1 count in
    let marker = subst IsMarker (line ∙ ap line_of starts.1) (c.is_marker.ensures.0 c.if-is_marker.true) in
    let begins = skipped_begins starts.0 marker in
    let counted : end ≡ prefix_len no_newline (hash ∷ starts.0) =
    count ∙ ap (λ (bs : List ℕ). prefix_len no_newline bs) starts.1 in
    subst (λ (f : Bool). Begins f rest end Skipped) (sym c.if-not-fresh.false)
    (subst (λ (bs : List ℕ). Begins true bs end Skipped) (sym starts.1)
    (subst (λ (n : ℕ). Begins true (hash ∷ starts.0) n Skipped) (sym counted) begins))

pub returns-else-is_marker : goal.returns-else-is_marker
returns-else-is_marker c =
    let starts = c.requires in
    let rest = c.args.rest.now in
    let line = behind_hash rest starts.0 c.line_length-end.result starts.1 c.line_length-end.ensures.count in
    subst (λ (bs : List ℕ). NoneBegins c.args.fresh bs) (sym starts.1)
    (hash_begins_none c.args.fresh starts.0 (λ _ marker.
    false≢true
    (sym c.if-is_marker.false ∙ c.is_marker.ensures.1 (subst IsMarker (sym (line ∙ ap line_of starts.1)) marker))))
