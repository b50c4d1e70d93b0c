-- A loop that reads one after another, with what was read before.
use Rattle.std.specs.Prelude.{ℕ, zero, suc, if◌then◌else◌, List, [], ◌∷◌, ◌++◌}
use Rattle.cc_grammar.specs.Kinds.{Kind}
use Rattle.cc_grammar.specs.Reading.{Got, Reader, and_then, at}

unfoldable pub from : {A : Type 0} → Reader A → List Kind → ℕ → List A → Reader (List A)
from p kinds zero found ts = (Got found, ts)
from p kinds (suc n) found ts =
    if at kinds ts then and_then (p ts) (λ x rest. from p kinds n (found ++ x ∷ []) rest) else (Got found, ts)
