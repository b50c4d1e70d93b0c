use Rattle.cc_typed.proofs.Tables.{type-cells, types-cells, layout-Struct}
use Rattle.cc_typed.proofs.laws.tables_keep_layouts.Goals as goal

pub returns : goal.returns
returns c = record { cells = type-cells; types = types-cells; structure = layout-Struct }
