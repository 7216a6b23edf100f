use Rattle.c_check_declarations.proofs.Strings.{many_texts}
use Rattle.c_check_declarations.proofs.forms.only_text.Goals as goal

pub returns-in-len2-up : goal.returns-in-len2-up
returns-in-len2-up c = many_texts c.args.values.now c.in-len2-up.len_at_least
