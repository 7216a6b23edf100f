use Rattle.std.proofs.Common.{Err, ap}
use Rattle.pcc_driver.proofs.run.loaded_of.Goals as goal

pub returns-in-Err-NotImage : goal.returns-in-Err-NotImage
returns-in-Err-NotImage c = c.in-Err-NotImage.ensures.not_image (ap Err c.in-Err-NotImage.field-0-is)
