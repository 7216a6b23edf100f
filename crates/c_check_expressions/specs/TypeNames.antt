-- Storage words among specifiers (C99 6.7.1).
use Rattle.std.specs.Prelude.{Bool, true, false}
use Rattle.c_syntax.specs.declared.operator.SpecifierWord.{SpecifierWord}
use Rattle.c_syntax.specs.declared.operator.SpecifierWord.TheVariants as words

abbrev pub is_storage : SpecifierWord → Bool
is_storage words.Auto = true
is_storage words.Register = true
is_storage words.Static = true
is_storage words.Extern = true
is_storage words.Const = false
is_storage words.Void = false
is_storage words.Char = false
is_storage words.Short = false
is_storage words.Int = false
is_storage words.Signed = false
