use Rattle.stage.proofs.Stops.{scan_stops}
use Rattle.stage.proofs.scan_stops.Goals as goal

pub returns : goal.returns
returns c = scan_stops
