-- Which grants a process may get.
use Rattle.std.specs.Prelude.{◌≡◌, ◌≢◌, ℕ, ℤ, List, [], ◌∷◌, ◌++◌, length, slice_get, Option, Some}
use Rattle.std.specs.Option.{option_map, option_map_or, MatchOption}
use Rattle.cc_base.specs.Alternatives.{numbered}
use Rattle.cc_base.specs.Meaning.{Meaning}
use Rattle.cc_base.specs.declared.alternatives.Alt.{Alt}
use Rattle.cc_base.specs.declared.alternatives.Alt.TheVariants.{Accept, After, Now, Terminate}
use Rattle.cc_base.specs.declared.names.Shape.{Shape}
use Rattle.cc_base.specs.declared.request.Grant.{Grant}
use Rattle.cc_base.specs.declared.request.Grant.TheVariants.{Go, Made, Value, Late, Gone, Took, Chose, Byte}
use Rattle.cc_base.specs.declared.request.Request.{Request}
use Rattle.cc_base.specs.declared.request.Request.TheVariants.{Pause, Create, Call, TimedCall, Send, Select, Delay, Reply, Print, Get}

-- the kind exists and has this many argument cells
abbrev pub HasKind : Meaning → ℕ → ℕ → Type 0
HasKind m kind cells = slice_get m.kinds kind ≡ Some cells

-- the argument cells of a transaction, where there is one of this number
abbrev pub argument_cells : Meaning → ℕ → Option ℕ
argument_cells m trans = option_map (λ (shape : Shape). shape.args) (slice_get m.shapes trans)

-- the value cells of a transaction, 0 where there is none of this number
abbrev pub value_cells : Meaning → ℕ → ℕ
value_cells m trans = option_map_or (λ (shape : Shape). shape.value) (slice_get m.shapes trans) 0

-- the alternative is an accept whose transaction has this many argument cells
abbrev pub TakesArgs : Meaning → Alt → List ℤ → Type 0
TakesArgs m (Accept trans site env) args = argument_cells m trans ≡ Some (length args)
TakesArgs m (After wait) args = ⊥
TakesArgs m Now args = ⊥
TakesArgs m Terminate args = ⊥

-- the alternative is no accept, so that it may be chosen without a call
abbrev pub NeedsNoCall : Alt → Type 0
NeedsNoCall (Accept trans site env) = ⊥
NeedsNoCall (After wait) = Unit {0}
NeedsNoCall Now = Unit {0}
NeedsNoCall Terminate = ⊥

-- the grant answers the request
abbrev pub Answers : Meaning → Request → Grant → Type 0
Answers m Pause Go = Unit {0}
Answers m (Create kind args) (Made p) = Unit {0}
Answers m (Call target trans args) (Value value) = length value ≡ value_cells m trans
Answers m (Call target trans args) Gone = Unit {0}
Answers m (TimedCall target trans args wait) (Value value) = length value ≡ value_cells m trans
Answers m (TimedCall target trans args wait) Gone = Unit {0}
Answers m (TimedCall target trans args wait) Late = Unit {0}
Answers m (Send target trans args) Go = Unit {0}
Answers m (Select alts) (Took i args) = MatchOption (numbered alts i) ⊥ (λ alt. TakesArgs m alt args)
Answers m (Select alts) (Chose i) = MatchOption (numbered alts i) ⊥ NeedsNoCall
Answers m (Delay wait) Go = Unit {0}
Answers m (Reply value) Go = Unit {0}
Answers m (Print bytes) Go = Unit {0}
Answers m Get (Byte byte) = Unit {0}
Answers m _ _ = ⊥

-- after these grants the grant is next: at first it is Go, and then it answers the request
abbrev pub IsNext : Meaning → ℕ → List ℤ → List Grant → Grant → Type 0
IsNext m kind args [] grant = grant ≡ Go
IsNext m kind args (g ∷ gs) grant = Answers m (m.act kind args (g ∷ gs)) grant

-- each of the grants is next after those before it
abbrev pub IsProperAfter : Meaning → ℕ → List ℤ → List Grant → List Grant → Type 0
IsProperAfter m kind args before [] = Unit {0}
IsProperAfter m kind args before (grant ∷ grants) =
    IsNext m kind args before grant × IsProperAfter m kind args (before ++ grant ∷ []) grants

-- the list of grants is proper: it begins with Go, and each later grant answers the request before it
abbrev pub IsProper : Meaning → ℕ → List ℤ → List Grant → Type 0
IsProper m kind args grants = (grants ≢ []) × IsProperAfter m kind args [] grants
