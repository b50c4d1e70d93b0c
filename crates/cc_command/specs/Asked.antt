-- What the words of the command line ask for.
use Rattle.std.specs.Prelude.{ℕ, List, [], ◌∷◌, Option, Some, None, Result, codes, drop, if◌then◌else◌, map, string_bytes}
use Rattle.std.specs.Vec.Iter.{into_iter_items}
use Rattle.std.specs.declared.io.Error.{Error}
use Rattle.std.specs.declared.string.String.{String}
use Rattle.std.specs.declared.vec.IntoIter.{IntoIter}
use Rattle.std.specs.Str.{bytes_eq}

-- the FILE of the two words `run FILE`
abbrev pub file_asked : List (List ℕ) → Option (List ℕ)
file_asked (action ∷ file ∷ []) = if bytes_eq action (codes "run") then Some file else None
file_asked _ = None

-- the words among the arguments that the system gave: those behind the program's name; none where it gave none
abbrev pub words_in : {Y Z : Type 0} → Result (IntoIter (String Y) Z) Error → List (List ℕ)
words_in (Result.Ok args) = drop 1 (map string_bytes (into_iter_items args))
words_in (Result.Err error) = []
