-- Which requests a program may make.
use Rattle.std.specs.Prelude.{◌≡◌, ◌≢◌, ℕ, ◌<◌, ◌≤◌, ℤ, true, List, [], length, All, slice_get, Some, None, is_some}
use Rattle.cc_base.specs.Alternatives.{NumbersRise}
use Rattle.cc_base.specs.Grants.{HasKind, argument_cells, IsProper}
use Rattle.cc_base.specs.Meaning.{Meaning}
use Rattle.cc_base.specs.declared.alternatives.Alt.{Alt}
use Rattle.cc_base.specs.declared.alternatives.Alt.TheVariants.{Accept, After, Now, Terminate}
use Rattle.cc_base.specs.declared.request.Grant.{Grant}
use Rattle.cc_base.specs.declared.request.Request.{Request}
use Rattle.cc_base.specs.declared.request.Request.TheVariants.{Pause, Create, Call, TimedCall, Send, Select, Delay, Reply, Print, Get, Done, Fault}

-- the transaction of an accept alternative exists
abbrev pub IsAlternativeOf : Meaning → Alt → Type 0
IsAlternativeOf m (Accept trans site env) = is_some (slice_get m.shapes trans) ≡ true
IsAlternativeOf m (After wait) = Unit {0}
IsAlternativeOf m Now = Unit {0}
IsAlternativeOf m Terminate = Unit {0}

-- the kinds and transactions that the request names exist, with as many argument cells, and a select has an alternative
-- and numbers that rise
abbrev pub IsRequestOf : Meaning → Request → Type 0
IsRequestOf m Pause = Unit {0}
IsRequestOf m (Create kind args) = HasKind m kind (length args)
IsRequestOf m (Call target trans args) = argument_cells m trans ≡ Some (length args)
IsRequestOf m (TimedCall target trans args wait) = argument_cells m trans ≡ Some (length args)
IsRequestOf m (Send target trans args) = argument_cells m trans ≡ Some (length args)
IsRequestOf m (Select alts) = (alts ≢ []) × NumbersRise alts × All (λ a. IsAlternativeOf m a.1) alts
IsRequestOf m (Delay wait) = Unit {0}
IsRequestOf m (Reply value) = Unit {0}
IsRequestOf m (Print bytes) = Unit {0}
IsRequestOf m Get = Unit {0}
IsRequestOf m Done = Unit {0}
IsRequestOf m (Fault kind) = Unit {0}

-- what every program's meaning keeps: `main` takes no arguments, and what a process of a kind that exists asks after
-- proper grants is well formed
pub record WellFormed (m : Meaning) : Type 0 where
  pub main : HasKind m 0 0
  pub requests :
      (kind : ℕ) (args : List ℤ) (grants : List Grant)
      → HasKind m kind (length args)
      → IsProper m kind args grants
      → IsRequestOf m (m.act kind args grants)

-- the accept site of an alternative is one of the first so many
abbrev pub IsAtSite : ℕ → Alt → Type 0
IsAtSite sites (Accept trans site env) = site < sites
IsAtSite sites (After wait) = Unit {0}
IsAtSite sites Now = Unit {0}
IsAtSite sites Terminate = Unit {0}

-- so is each accept site that the request names
abbrev pub NamesSites : ℕ → Request → Type 0
NamesSites sites Pause = Unit {0}
NamesSites sites (Create kind args) = Unit {0}
NamesSites sites (Call target trans args) = Unit {0}
NamesSites sites (TimedCall target trans args wait) = Unit {0}
NamesSites sites (Send target trans args) = Unit {0}
NamesSites sites (Select alts) = All (λ a. IsAtSite sites a.1) alts
NamesSites sites (Delay wait) = Unit {0}
NamesSites sites (Reply value) = Unit {0}
NamesSites sites (Print bytes) = Unit {0}
NamesSites sites Get = Unit {0}
NamesSites sites Done = Unit {0}
NamesSites sites (Fault kind) = Unit {0}

-- what a process of a kind that exists asks after proper grants names no accept site beyond this many, and no call fits
-- one beyond them
pub record HasSites (m : Meaning) (sites : ℕ) : Type 0 where
  pub names :
      (kind : ℕ) (args : List ℤ) (grants : List Grant)
      → HasKind m kind (length args)
      → IsProper m kind args grants
      → NamesSites sites (m.act kind args grants)
  pub fits : (site : ℕ) (env args : List ℤ) → sites ≤ site → m.fit site env args ≡ None
