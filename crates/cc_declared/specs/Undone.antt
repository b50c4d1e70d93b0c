-- Names that mean again what they meant before a scope.
use Rattle.std.specs.Prelude.{List, [], ◌∷◌, Option, slice_set}
use Rattle.cc_faults.specs.declared.scope.Named.{Named}
use Rattle.cc_declared.specs.declared.names.Hidden.{Hidden}

-- what was hidden last is put back first
unfoldable pub undone : List Hidden → List (Option Named) → List (Option Named)
undone [] names = names
undone (h ∷ hs) names = slice_set (undone hs names) h.name h.meant
