use Rattle.std.proofs.Common.{◌≡◌, ℕ, ◌<◌, Some, slice_get}
use Rattle.cc_code.specs.Checked.{IsSet}
use Rattle.cc_code.specs.Rules.{HasEntries}
use Rattle.cc_code.specs.declared.code.Site.{Site}
use Rattle.cc_code.proofs.unnamed.sites_lead.Given as goal

abbrev pub invariant-loop-at : goal.invariant-loop-at
invariant-loop-at l = (n : ℕ) (s : Site) → n < l.at → slice_get l.sites n ≡ Some s → (IsSet l.named.items n → ⊥) → HasEntries l.raw s
