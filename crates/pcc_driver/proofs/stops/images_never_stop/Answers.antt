use Rattle.pcc_driver.proofs.Stopping.{images-never-stop}
use Rattle.pcc_driver.proofs.stops.images_never_stop.Goals as goal

pub returns : goal.returns
returns c = images-never-stop c.map_lists_locals.ensures
