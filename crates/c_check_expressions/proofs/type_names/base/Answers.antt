use Rattle.std.proofs.Common.{◌∙◌, ap, sym, option_map}
use Rattle.c_typing.specs.Types.{InCast, said, the_storage, the_type, words_of}
use Rattle.c_check_expressions.proofs.TypeNames.{no_storage, some_storage, unsaid}
use Rattle.c_check_expressions.proofs.type_names.base.Goals as goal

pub returns-then-has_storage : goal.returns-then-has_storage
returns-then-has_storage c = let ws = words_of c.args.specifiers.now in
    sym (ap (option_map (λ s. s.base)) (some_storage ws (sym c.has_storage.ensures ∙ c.if-has_storage.true)
    (the_type ws)))

pub returns : goal.returns
returns c = let ws = words_of c.args.specifiers.now in
    c.the_type.ensures ∙ unsaid (the_type ws)
    ∙ ap (λ xs. option_map (λ s. s.base) (said InCast (the_type ws) (the_storage xs)))
    (sym (no_storage ws (sym c.has_storage.ensures ∙ c.if-has_storage.false)))
