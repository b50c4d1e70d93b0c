-- The program so far, as the items of a text are read one after the other.
use Rattle.std.specs.Prelude.{◌≡◌, ℕ, Bool, true, false, not, ◌++◌, if◌then◌else◌, List, [], ◌∷◌, Option, Some, None, Result, Ok, Err, replicate, slice_get, slice_set}
use Rattle.cc_typed.specs.declared.tree.Kind.{Kind}
use Rattle.cc_typed.specs.declared.tree.Statement.{Statement}
use Rattle.cc_typed.specs.declared.types.DataType.{DataType}
use Rattle.cc_typed.specs.declared.types.DataType.TheVariants.{Void}
use Rattle.cc_faults.specs.Judged.{Judged, Good}
use Rattle.cc_faults.specs.Programs as program
use Rattle.cc_faults.specs.Programs.{Piece, NoPiece, OneFunction, OneKind, Transactions}
use Rattle.cc_faults.specs.declared.answer.Answer.{Answer}
use Rattle.cc_faults.specs.declared.answer.Answer.TheVariants as an
use Rattle.cc_faults.specs.declared.fault.FaultAt.{FaultAt}
use Rattle.cc_faults.specs.declared.scope.Signature.{Signature}
use Rattle.cc_types.specs.declared.made.Block.{Block}
use Rattle.cc_types.specs.declared.made.Made.{Made}

abbrev pub no_kind : Kind
no_kind = program.no_kind

abbrev pub nothing_made : ℕ → Made
nothing_made n = record { functions = []; transactions = []; kinds = replicate n no_kind; there = replicate n false }

-- it is there, and was not found
abbrev pub is_false : Option Bool → Bool
is_false None = false
is_false (Some b) = not b

abbrev pub is_free : Made → ℕ → Bool
is_free m k = is_false (slice_get m.there k)

-- the first of a number counts
abbrev pub with_kind : Made → ℕ → Kind → Made
with_kind m k c =
    if is_free m k then record m { kinds = slice_set m.kinds k c; there = slice_set m.there k true } else m

-- with what an item adds
unfoldable pub with_piece : Made → Piece → Made
with_piece m NoPiece = m
with_piece m (OneFunction f) = record m { functions = m.functions ++ f ∷ [] }
with_piece m (OneKind k c) = with_kind m k c
with_piece m (Transactions ds) = record m { transactions = m.transactions ++ ds }

-- ---- what code adds of parts that may have a fault

-- a function, or `main`, of which there is a head
abbrev pub with_block : Made → Bool → ℕ → DataType → List DataType → Answer (List Statement) → Made
with_block m true n t ts (an.Good xs) = with_kind m 0 (record { parameters = n; variables = ts; result = t; body = xs })
with_block m false n t ts (an.Good xs) =
    record m { functions = m.functions ++ record { parameters = n; variables = ts; result = t; body = xs } ∷ [] }
with_block m is_main n t ts an.Typeless = m
with_block m is_main n t ts an.Faulty = m

abbrev pub with_function : Made → Bool → ℕ → Result Signature FaultAt → Block → Made
with_function m is_main n (Ok g) b = with_block m is_main n g.result b.variables b.body
with_function m is_main n (Err f) b = m

abbrev pub with_kind_block : Made → ℕ → ℕ → List DataType → Answer (List Statement) → Made
with_kind_block m k n ts (an.Good xs) = with_kind m k (record { parameters = n; variables = ts; result = Void; body = xs })
with_kind_block m k n ts an.Typeless = m
with_kind_block m k n ts an.Faulty = m

abbrev pub with_body : Made → Option ℕ → ℕ → Block → Made
with_body m (Some k) n b = with_kind_block m k n b.variables b.body
with_body m None n b = m

abbrev pub with_transaction : Made → ℕ → Bool → Result Signature FaultAt → Made
with_transaction m k is_async (Ok g) =
    record m { transactions = m.transactions ++ record { kind = k; is_async = is_async; parameters = g.parameters; value = g.result } ∷ [] }
with_transaction m k is_async (Err f) = m

-- an item without a fault adds this
abbrev pub Makes : Made → Judged Piece → Made → Type 0
Makes a j b = (v : Piece) → j ≡ Good v → b ≡ with_piece a v
