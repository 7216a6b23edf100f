use Rattle.std.proofs.Common.{arith}
use Rattle.elf_image.proofs.writing.write_image.Goals as goal

pub overflow_add-data_header : goal.overflow_add-data_header
overflow_add-data_header c = omega arith

pub overflow_cast-data_header : goal.overflow_cast-data_header
overflow_cast-data_header c = omega arith

pub overflow_cast-data_header-2 : goal.overflow_cast-data_header-2
overflow_cast-data_header-2 c = omega arith

pub overflow_add-data_header-2 : goal.overflow_add-data_header-2
overflow_add-data_header-2 c = omega arith

pub overflow_cast-data_header-3 : goal.overflow_cast-data_header-3
overflow_cast-data_header-3 c = omega arith

pub overflow_add-text_span : goal.overflow_add-text_span
overflow_add-text_span c = omega arith

pub overflow_add-text_span-2 : goal.overflow_add-text_span-2
overflow_add-text_span-2 c = omega arith

pub overflow_sub-text_span : goal.overflow_sub-text_span
overflow_sub-text_span c = omega arith
