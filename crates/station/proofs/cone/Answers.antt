use Rattle.station.specs.Readings.{frames_readable}
use Rattle.station.proofs.cone.Goals as goal

pub closed-requires : goal.closed-requires
closed-requires c = (_, frames_readable _, _, _, c.read-read.ensures)

pub returns : goal.returns
returns c = c.closed.ensures _ _ _ (frames_readable _) c.read-read.ensures
