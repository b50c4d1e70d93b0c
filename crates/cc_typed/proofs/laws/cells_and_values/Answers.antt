use Rattle.cc_typed.proofs.Flat.{length-flat, flat-unflat, unflat-flat, unflat-has, zero-unflat}
use Rattle.cc_typed.proofs.laws.cells_and_values.Goals as goal

pub returns : goal.returns
returns c = record { length = length-flat; cells_back = flat-unflat; value_back = unflat-flat; layout = unflat-has; zero = zero-unflat }
