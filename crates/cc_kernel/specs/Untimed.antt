-- Requests without a deadline.
use Rattle.std.specs.Prelude.{ℕ, ℤ, List, [], ◌∷◌, length}
use Rattle.cc_base.specs.Grants.{HasKind, IsProper}
use Rattle.cc_base.specs.Meaning.{Meaning}
use Rattle.cc_base.specs.declared.alternatives.Alt.{Alt}
use Rattle.cc_base.specs.declared.alternatives.Alt.TheVariants.{Accept, After, Now, Terminate}
use Rattle.cc_base.specs.declared.request.Grant.{Grant}
use Rattle.cc_base.specs.declared.request.Request.{Request}
use Rattle.cc_base.specs.declared.request.Request.TheVariants.{Pause, Create, Call, TimedCall, Send, Select, Delay, Reply, Print, Get, Done, Fault}

-- the alternative is no delay
abbrev pub IsNoDelay : Alt → Type 0
IsNoDelay (Accept trans site env) = Unit {0}
IsNoDelay (After wait) = ⊥
IsNoDelay Now = Unit {0}
IsNoDelay Terminate = Unit {0}

-- none of the alternatives is a delay
abbrev pub NoDelays : List (ℕ × Alt) → Type 0
NoDelays [] = Unit {0}
NoDelays (a ∷ alts) = IsNoDelay a.1 × NoDelays alts

-- the request has no deadline
abbrev pub HasNoDeadline : Request → Type 0
HasNoDeadline Pause = Unit {0}
HasNoDeadline (Create kind args) = Unit {0}
HasNoDeadline (Call target trans args) = Unit {0}
HasNoDeadline (TimedCall target trans args wait) = ⊥
HasNoDeadline (Send target trans args) = Unit {0}
HasNoDeadline (Select alts) = NoDelays alts
HasNoDeadline (Delay wait) = ⊥
HasNoDeadline (Reply value) = Unit {0}
HasNoDeadline (Print bytes) = Unit {0}
HasNoDeadline Get = Unit {0}
HasNoDeadline Done = Unit {0}
HasNoDeadline (Fault kind) = Unit {0}

-- what a process of a kind that exists asks after proper grants has no deadline
abbrev pub AsksNoDeadline : Meaning → Type 0
AsksNoDeadline m =
    (kind : ℕ) (args : List ℤ) (grants : List Grant)
    → HasKind m kind (length args)
    → IsProper m kind args grants
    → HasNoDeadline (m.act kind args grants)
