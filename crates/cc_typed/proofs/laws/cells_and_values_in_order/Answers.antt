use Rattle.cc_typed.proofs.Flat.{length-flats, flats-unflats, unflats-flats, unflats-are}
use Rattle.cc_typed.proofs.laws.cells_and_values_in_order.Goals as goal

pub returns : goal.returns
returns c = record { length = length-flats; cells_back = flats-unflats; values_back = unflats-flats; layouts = unflats-are }
