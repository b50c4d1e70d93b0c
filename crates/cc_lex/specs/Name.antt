-- The bytes of a name, however they are kept.
use Rattle.std.specs.Prelude.{ℕ, ◌≤◌, List, take}
use Rattle.cc_lex.specs.declared.name.TheConstants.{SHORT}
use Rattle.cc_lex.specs.declared.name.Kept.{Kept}
use Rattle.cc_lex.specs.declared.name.Kept.TheVariants.{Short, Long}

abbrev pub bytes_of : Kept → List ℕ
bytes_of (Short len bytes) = take len bytes
bytes_of (Long bytes) = bytes.value

-- no more bytes are in place than there is room for
abbrev pub IsSound : Kept → Type 0
IsSound (Short len bytes) = len ≤ SHORT
IsSound (Long bytes) = Unit {0}
