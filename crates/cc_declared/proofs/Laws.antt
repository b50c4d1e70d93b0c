-- What is answered and what is noted, where a rule applies; and names that are put back.
use Rattle.std.proofs.Common.{◌≡◌, ℕ, Bool, true, false, zero, suc, List, [], ◌∷◌, ◌++◌, Option, Result, Ok, Err, refl, ap, ◌∙◌}
use Rattle.std.proofs.lemmas.List.{set_past}
use Rattle.std.specs.Prelude.{if◌then◌else◌, slice_get, slice_set}
use Rattle.cc_faults.proofs.Judged.{laws}
use Rattle.cc_faults.specs.Scopes.{Scope, declared, is_here, meaning_at, or_none, with_variable}
use Rattle.cc_faults.specs.declared.fault.FaultAt.{FaultAt}
use Rattle.cc_faults.specs.declared.plain.Identifier.{Identifier}
use Rattle.cc_faults.specs.declared.scope.Named.{Named}
use Rattle.cc_typed.specs.declared.types.DataType.{DataType}
use Rattle.cc_declared.specs.Undone.{undone}
use Rattle.cc_declared.specs.declared.names.Hidden.{Hidden}

-- a rule, and rules that are put together
pub ruleset rules = laws

-- ---- names that are put back
pub undone-end : (hs : List Hidden) (h : Hidden) (names : List (Option Named)) → undone (hs ++ h ∷ []) names ≡ undone hs (slice_set names h.name h.meant)
unfolding undone
undone-end [] h names = refl
undone-end (g ∷ hs) h names = ap (λ ns. slice_set ns g.name g.meant) (undone-end hs h names)

pub undone-nil : (names : List (Option Named)) → undone [] names ≡ names
unfolding undone
undone-nil names = refl

pub ruleset past = (set_past, undone-end, undone-nil)

set-back : (names : List (Option Named)) (x : ℕ) (v : Option Named) → slice_set (slice_set names x v) x (or_none (slice_get names x)) ≡ names
set-back [] x v = refl
set-back (n ∷ ns) zero v = refl
set-back (n ∷ ns) (suc x) v = ap (λ ms. n ∷ ms) (set-back ns x v)

set-same : (names : List (Option Named)) (x : ℕ) → slice_set names x (or_none (slice_get names x)) ≡ names
set-same [] x = refl
set-same (n ∷ ns) zero = refl
set-same (n ∷ ns) (suc x) = ap (λ ms. n ∷ ms) (set-same ns x)

put-back : (scope : ℕ) (s : Scope) (x : Identifier) (t : Result DataType FaultAt) (b : Bool) → slice_set (if b then s else with_variable scope s x t).names x.name (meaning_at s x) ≡ s.names
put-back scope s x t true = set-same s.names x.name
put-back scope s x (Ok t) false = set-back s.names x.name _
put-back scope s x (Err f) false = set-back s.names x.name _

-- a declaration is undone by what the name meant before it
pub undone-declared : (hs : List Hidden) (scope : ℕ) (s : Scope) (x : Identifier) (t : Result DataType FaultAt) → undone (hs ++ record { name = x.name; meant = meaning_at s x } ∷ []) (declared scope s x t).names ≡ undone hs s.names
undone-declared hs scope s x t =
    undone-end hs (record { name = x.name; meant = meaning_at s x }) (declared scope s x t).names
    ∙ ap (undone hs) (put-back scope s x t (is_here scope (meaning_at s x)))

module _ (old new : List Hidden) (s : Scope) (x : Identifier) (m : Option Named) (pushed : new ≡ old ++ record { name = x.name; meant = m } ∷ []) (meant : m ≡ meaning_at s x) where
  put-last : new ≡ old ++ record { name = x.name; meant = meaning_at s x } ∷ []
  put-last = pushed ∙ ap (λ v. old ++ record { name = x.name; meant = v } ∷ []) meant

  pub undone-here : undone new s.names ≡ undone old s.names
  undone-here =
      ap (λ hs. undone hs s.names) put-last
      ∙ undone-end old (record { name = x.name; meant = meaning_at s x }) s.names
      ∙ ap (undone old) (set-same s.names x.name)

  pub undone-after : (scope : ℕ) (t : Result DataType FaultAt) (after : Scope) → after ≡ with_variable scope s x t → undone new after.names ≡ undone old s.names
  undone-after scope t after e =
      (λ i. undone (put-last i) (e i).names)
      ∙ undone-end old (record { name = x.name; meant = meaning_at s x }) (with_variable scope s x t).names
      ∙ ap (undone old) (put-back scope s x t false)
