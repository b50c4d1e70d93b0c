use Rattle.cc_typed.proofs.Flat.{read-store, store-others, read-has, store-has}
use Rattle.cc_typed.proofs.laws.stored_values.Goals as goal

pub returns : goal.returns
returns c = record { read = read-store; others = store-others; read_layout = read-has; store_layout = store-has }
