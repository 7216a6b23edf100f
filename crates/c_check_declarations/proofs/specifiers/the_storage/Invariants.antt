-- The storage word so far, and the specifiers behind, say what all specifiers do.
use Rattle.std.proofs.Common.{◌≡◌, Some, drop, filter_map}
use Rattle.c_typing.specs.Types.{storage_word, the_storage, words_of}
use Rattle.c_check_declarations.specs.Views.{storage_behind}
use Rattle.c_check_declarations.proofs.specifiers.the_storage.Given as goal

abbrev pub invariant-loop-specifier : goal.invariant-loop-specifier
invariant-loop-specifier l = storage_behind (Some l.found) (words_of (drop l.specifier-index l.specifiers))
    ≡ the_storage (filter_map storage_word (words_of l.specifiers))
