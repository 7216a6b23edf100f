use Rattle.ia32_rows.proofs.Bytes.{copy_to_slot-puts}
use Rattle.ia32_rows.proofs.Moves.{read-gives, extend-gives, write-puts, number-puts, copy-puts, copy_byte-puts}
use Rattle.ia32_rows.proofs.effects.rows_move_words.Goals as goal

pub returns-clause-read : goal.returns-clause-read
returns-clause-read c = read-gives

pub returns-clause-extend : goal.returns-clause-extend
returns-clause-extend c = extend-gives

pub returns-clause-write : goal.returns-clause-write
returns-clause-write c = write-puts

pub returns-clause-number : goal.returns-clause-number
returns-clause-number c = number-puts

pub returns-clause-copy : goal.returns-clause-copy
returns-clause-copy c = copy-puts

pub returns-clause-copy_byte : goal.returns-clause-copy_byte
returns-clause-copy_byte c = copy_byte-puts

pub returns-clause-copy_to_slot : goal.returns-clause-copy_to_slot
returns-clause-copy_to_slot c = copy_to_slot-puts
