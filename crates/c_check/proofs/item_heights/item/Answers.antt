use Rattle.std.proofs.Common.{rules}
use Rattle.c_check.proofs.item_heights.item.Goals as goal

pub returns-in-Array-default-default-default-List : goal.returns-in-Array-default-default-default-List
returns-in-Array-default-default-default-List c = search rules
