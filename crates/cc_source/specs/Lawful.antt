-- A straight program is fit for the machine.
use Rattle.std.proofs.Common.{◌≡◌, Bool, true, false, ◌&&◌, length, refl, ap, ◌∙◌}
use Rattle.std.specs.Prelude.{if◌then◌else◌}
use Rattle.cc_base.specs.Requests.{HasSites, WellFormed}
use Rattle.cc_base.specs.Supported.{AsksSupported}
use Rattle.cc_source.specs.Asks.{keeps-form, keeps-supported, keeps-sites}
use Rattle.cc_source.specs.Known.{and-left, and-right}
use Rattle.cc_source.specs.Early.{early_meaning, early_sites, is_early, no_meaning}
use Rattle.cc_typed.specs.Parts.{Parts}
use Rattle.cc_source.specs.Programs.{meaning}
use Rattle.cc_source.specs.Straight.{is_straight_program}
use Rattle.cc_typed.specs.Typed.{is_typed_program}

pub early-typed : (p : Parts) → is_early p ≡ true → is_typed_program p ≡ true
unfolding is_early
early-typed p e = and-left _ _ e

pub early-straight : (p : Parts) → is_early p ≡ true → is_straight_program p ≡ true
unfolding is_early
early-straight p e = and-right (is_typed_program p) _ e

pub early-is : (p : Parts) → is_typed_program p ≡ true → is_straight_program p ≡ true → is_early p ≡ true
unfolding is_early
early-is p typed straight = ap (λ b. b && is_straight_program p) typed ∙ straight

pub early-means : (p : Parts) → is_early p ≡ true → early_meaning p ≡ meaning p
early-means p e = ap (λ b. if b then meaning p else no_meaning) e

nothing-formed : WellFormed no_meaning
nothing-formed = record { main = refl; requests = λ kind args grants exists proper. tt }

nothing-sites : HasSites no_meaning 0
nothing-sites = record { names = λ kind args grants exists proper. tt; fits = λ site env args past. refl }

pub early_form : (p : Parts) → WellFormed (early_meaning p)
early_form p = go (is_early p) refl
  where
    go : (b : Bool) → is_early p ≡ b → WellFormed (if b then meaning p else no_meaning)
    go true e = keeps-form p (early-typed p e) (early-straight p e)
    go false e = nothing-formed

nothing-supported : AsksSupported no_meaning
nothing-supported kind args grants exists proper = tt

-- a straight program asks only what is supported so far
pub early_supported : (p : Parts) → AsksSupported (early_meaning p)
early_supported p = go (is_early p) refl
  where
    go : (b : Bool) → is_early p ≡ b → AsksSupported (if b then meaning p else no_meaning)
    go true e = keeps-supported p (early-typed p e) (early-straight p e)
    go false e = nothing-supported

pub early_has_sites : (p : Parts) → HasSites (early_meaning p) (early_sites p)
early_has_sites p = go (is_early p) refl
  where
    go : (b : Bool) → is_early p ≡ b → HasSites (if b then meaning p else no_meaning) (if b then length p.sites else 0)
    go true e = keeps-sites p (early-typed p e) (early-straight p e)
    go false e = nothing-sites

pub ruleset early = (early-is, early-typed, early-straight, early-means)
