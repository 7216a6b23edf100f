use Rattle.std.proofs.Common.{◌≡◌, ◌-◌, ◌∙◌, ap, sym, subst, ℕ, take, drop, length}
use Rattle.std.proofs.lemmas.List.{take_rest}
use Rattle.std.specs.List.{prefix_len}
use Rattle.c_lex.specs.Bytes.{is_blank}
use Rattle.c_lex.specs.Directives.{IsDirective}
use Rattle.c_lex.proofs.SkipPieces.{marker_from, marker_to}
use Rattle.c_lex.proofs.spaces_and_lines.is_marker.Goals as goal

pub returns : goal.returns
returns c =
    let behind = c.args.behind.now in
    let n = c.blank_count-blanks.result in
    let e : take (length behind - n) (drop n behind) ≡ drop (prefix_len is_blank behind) behind =
    take_rest behind n ∙ ap (λ (k : ℕ). drop k behind) c.blank_count-blanks.ensures.count in (
      λ holds. marker_from behind (subst IsDirective e (c.is_directive.ensures.0 holds)),
      λ marker. c.is_directive.ensures.1 (subst IsDirective (sym e) (marker_to behind marker)),
    )
