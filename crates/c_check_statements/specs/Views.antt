-- What the code's surroundings of statements are to the definitions of typing.
use Rattle.c_typing.specs.Statements as typing
use Rattle.c_check_statements.specs.declared.around.Around.{Around}

abbrev pub around_of : Around → typing.Around
around_of a = record { result = a.result; breaks = a.breaks; continues = a.continues }
