-- Faults, and their order: by place, and then by number.
use Rattle.std.specs.Prelude.{ℕ, Bool, if◌then◌else◌, nat_eq, nat_lt, not, List, [], ◌∷◌, Option, Some, None}
use Rattle.cc_faults.specs.declared.fault.FaultAt.{FaultAt}
use Rattle.cc_faults.specs.declared.fault.TypeKind.{TypeKind}
use Rattle.cc_faults.specs.declared.fault.TypeKind.TheVariants as kind

-- the number of a kind in the table of faults
abbrev pub number_of : TypeKind → ℕ
number_of kind.NoMain = 1
number_of kind.Duplicate = 2
number_of kind.UnknownName = 3
number_of kind.UnknownType = 4
number_of kind.VoidHere = 5
number_of kind.BadLength = 6
number_of kind.EnumRange = 7
number_of kind.LargeType = 8
number_of kind.ManyCells = 9
number_of kind.NoBody = 10
number_of kind.NoSpec = 11
number_of kind.BodyNames = 12
number_of kind.Arity = 13
number_of kind.Mismatch = 14
number_of kind.NotAPlace = 15
number_of kind.NotAFunction = 16
number_of kind.NotAValue = 17
number_of kind.UnknownField = 18
number_of kind.UnknownTransaction = 19
number_of kind.AcceptPlace = 20
number_of kind.TreturnPlace = 21
number_of kind.LoopPlace = 22
number_of kind.LeavesAccept = 23
number_of kind.ValueHere = 24
number_of kind.NotPure = 25
number_of kind.PureTooDeep = 26
number_of kind.NotTimed = 27
number_of kind.BadFormat = 28

-- a fault stands before another
abbrev pub before : FaultAt → FaultAt → Bool
before a b =
    if not (nat_eq a.place.line b.place.line)
    then nat_lt a.place.line b.place.line
    else (if not (nat_eq a.place.column b.place.column)
    then nat_lt a.place.column b.place.column
    else nat_lt (number_of a.kind) (number_of b.kind))

-- the earlier of two faults, of which the first may be missing
abbrev pub earlier : Option FaultAt → FaultAt → FaultAt
earlier None f = f
earlier (Some g) f = if before f g then f else g

-- the first of the faults seen so far and of these
unfoldable pub noted : Option FaultAt → List FaultAt → Option FaultAt
noted least [] = least
noted least (f ∷ fs) = noted (Some (earlier least f)) fs
