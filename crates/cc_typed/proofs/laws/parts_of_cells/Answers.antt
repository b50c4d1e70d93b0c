use Rattle.cc_typed.proofs.Flat.{inside, read-unflat, store-unflat}
use Rattle.cc_typed.proofs.laws.parts_of_cells.Goals as goal

pub returns : goal.returns
returns c = record { inside = inside; read = read-unflat; store = store-unflat }
