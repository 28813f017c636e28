use Rattle.judging.proofs.Steps.{plain_boolean}
use Rattle.judging.proofs.layer.Layer.fits_boolean.Goals as goal

pub fits-requires-clause-plain : goal.fits-requires-clause-plain
fits-requires-clause-plain g c = plain_boolean
