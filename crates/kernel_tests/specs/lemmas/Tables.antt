-- Programs that follow a table are well formed, and ask nothing with a deadline.
use Rattle.std.proofs.Common.{◌≡◌, ◌≢◌, ℕ, zero, suc, ◌≤◌, ◌<◌, ◌-◌, ℤ, Bool, true, false, List, [], ◌∷◌, length, refl, subst, Option, Some, None}
use Rattle.std.proofs.Math.Nat.{not-suc-le-zero, not-suc-le_self, zero-lt-suc}
use Rattle.std.proofs.lemmas.Bool.{leb-true}
use Rattle.std.specs.Prelude.{All, slice_get}
use Rattle.std.proofs.lemmas.List.Elements.{All-cons, All-nil}
use Rattle.std.proofs.lemmas.List.Kept.{AllPairs-cons}
use Rattle.cc_base.specs.Alternatives.{NumbersRise}
use Rattle.cc_base.specs.Requests.{HasSites, IsAlternativeOf, IsAtSite, IsRequestOf, NamesSites, WellFormed}
use Rattle.cc_base.specs.declared.alternatives.Alt.{Alt}
use Rattle.cc_base.specs.declared.alternatives.Alt.TheVariants.{Now, Terminate}
use Rattle.cc_base.specs.declared.request.Request.TheVariants.{Select}
use Rattle.cc_kernel.specs.Untimed.{AsksNoDeadline, HasNoDeadline, NoDelays}
use Rattle.kernel_tests.specs.Tables.{Step, accept_of, alternatives_of, asked, rank_at, request_of, scripted, steps_of, trans_of}
use Rattle.cc_rules.specs.declared.event.Word.{Word}
use Rattle.cc_rules.specs.declared.event.Word.TheVariants as word

module _ (main first second : List Step) where
  pub one-rises : (a : ℕ × Alt) → NumbersRise (a ∷ [])
  one-rises a =
      AllPairs-cons (λ (b c : ℕ × Alt). b.0 < c.0) a [] (All-nil (λ (b : ℕ × Alt). a.0 < b.0)) (λ i j d lt within. absurd (not-suc-le-zero within))

  pub two-rise : (a b : ℕ × Alt) → a.0 < b.0 → NumbersRise (a ∷ b ∷ [])
  two-rise a b lt =
      AllPairs-cons (λ (c d : ℕ × Alt). c.0 < d.0) a (b ∷ [])
      (All-cons (λ (c : ℕ × Alt). a.0 < c.0) b [] lt (All-nil (λ (c : ℕ × Alt). a.0 < c.0)))
      (one-rises b)

  pub some-there : (a : ℕ × Alt) (alts : List (ℕ × Alt)) → a ∷ alts ≢ []
  some-there a alts e = subst some e tt
    where
      some : List (ℕ × Alt) → Type 0
      some [] = ⊥
      some (b ∷ more) = Unit {0}

  pub one-of : (F : ℕ × Alt → Type 0) (a : ℕ × Alt) → F a → All F (a ∷ [])
  one-of F a h = All-cons F a [] h (All-nil F)

  pub two-of : (F : ℕ × Alt → Type 0) (a b : ℕ × Alt) → F a → F b → All F (a ∷ b ∷ [])
  two-of F a b h k = All-cons F a (b ∷ []) h (one-of F b k)

  abbrev IsAlternative : ℕ × Alt → Type 0
  IsAlternative a = IsAlternativeOf (scripted main first second) a.1

  pub accept-there : (b : Bool) → IsAlternativeOf (scripted main first second) (accept_of (trans_of b))
  accept-there true = refl
  accept-there false = refl

  pub is-select : (number : ℕ) (b : Bool) → IsRequestOf (scripted main first second) (Select (alternatives_of number b))
  is-select zero b = (some-there _ [], one-rises _, one-of IsAlternative (0, accept_of (trans_of b)) (accept-there b))
  is-select (suc zero) b =
      (some-there _ _, two-rise _ (1, Now) (zero-lt-suc 0), two-of IsAlternative (0, accept_of (trans_of b)) (1, Now) (accept-there b) tt)
  is-select (suc (suc zero)) b =
      (some-there _ _, two-rise _ (1, Terminate) (zero-lt-suc 0), two-of IsAlternative (0, accept_of (trans_of b)) (1, Terminate) (accept-there b) tt)
  is-select (suc (suc (suc number))) b =
      (some-there _ _, two-rise _ (1, accept_of 1) (zero-lt-suc 0), two-of IsAlternative (0, accept_of 0) (1, accept_of 1) refl refl)

  abbrev AtSite : ℕ × Alt → Type 0
  AtSite a = IsAtSite 2 a.1

  pub accept-at : (b : Bool) → IsAtSite 2 (accept_of (trans_of b))
  accept-at true = leb-true 2 2 refl
  accept-at false = zero-lt-suc 1

  pub at-sites : (number : ℕ) (b : Bool) → All (λ (a : ℕ × Alt). IsAtSite 2 a.1) (alternatives_of number b)
  at-sites zero b = one-of AtSite (0, accept_of (trans_of b)) (accept-at b)
  at-sites (suc zero) b = two-of AtSite (0, accept_of (trans_of b)) (1, Now) (accept-at b) tt
  at-sites (suc (suc zero)) b = two-of AtSite (0, accept_of (trans_of b)) (1, Terminate) (accept-at b) tt
  at-sites (suc (suc (suc number))) b = two-of AtSite (0, accept_of 0) (1, accept_of 1) (accept-at false) (accept-at true)

  pub is-request : (w : Word) (number : ℕ) (b : Bool) (cell : ℤ) → IsRequestOf (scripted main first second) (request_of w number b cell)
  is-request word.Pause number b cell = tt
  is-request word.Create number true cell = refl
  is-request word.Create number false cell = refl
  is-request word.Call number true cell = refl
  is-request word.Call number false cell = refl
  is-request word.TimedCall number b cell = tt
  is-request word.Send number true cell = refl
  is-request word.Send number false cell = refl
  is-request word.Select number b cell = is-select number b
  is-request word.Delay number b cell = tt
  is-request word.Reply number b cell = tt
  is-request word.Print number b cell = tt
  is-request word.Get number b cell = tt
  is-request word.Done number b cell = tt
  is-request word.Fault number b cell = tt

  pub scripted_well_formed : WellFormed (scripted main first second)
  scripted_well_formed =
      record { main = refl; requests = λ kind args grants exists proper. each (slice_get (steps_of main first second kind) (length grants - 1)) }
    where
      each : (step : Option Step) → IsRequestOf (scripted main first second) (asked step)
      each None = tt
      each (Some step) = is-request step.0 step.1 step.2 step.3

  pub names-sites : (w : Word) (number : ℕ) (b : Bool) (cell : ℤ) → NamesSites 2 (request_of w number b cell)
  names-sites word.Pause number b cell = tt
  names-sites word.Create number b cell = tt
  names-sites word.Call number b cell = tt
  names-sites word.TimedCall number b cell = tt
  names-sites word.Send number b cell = tt
  names-sites word.Select number b cell = at-sites number b
  names-sites word.Delay number b cell = tt
  names-sites word.Reply number b cell = tt
  names-sites word.Print number b cell = tt
  names-sites word.Get number b cell = tt
  names-sites word.Done number b cell = tt
  names-sites word.Fault number b cell = tt

  pub scripted_has_sites : HasSites (scripted main first second) 2
  scripted_has_sites =
      record {
        names = λ kind args grants exists proper. each (slice_get (steps_of main first second kind) (length grants - 1));
        fits = λ site env args past. none site args past;
      }
    where
      each : (step : Option Step) → NamesSites 2 (asked step)
      each None = tt
      each (Some step) = names-sites step.0 step.1 step.2 step.3

      none : (site : ℕ) (args : List ℤ) → 2 ≤ site → rank_at site args ≡ None
      none zero args past = absurd (not-suc-le-zero past)
      none (suc zero) args past = absurd (not-suc-le_self 1 past)
      none (suc (suc site)) args past = refl

  no-delays : (number : ℕ) (b : Bool) → NoDelays (alternatives_of number b)
  no-delays zero b = (tt, tt)
  no-delays (suc zero) b = (tt, (tt, tt))
  no-delays (suc (suc zero)) b = (tt, (tt, tt))
  no-delays (suc (suc (suc number))) b = (tt, (tt, tt))

  no-deadline : (w : Word) (number : ℕ) (b : Bool) (cell : ℤ) → HasNoDeadline (request_of w number b cell)
  no-deadline word.Pause number b cell = tt
  no-deadline word.Create number b cell = tt
  no-deadline word.Call number b cell = tt
  no-deadline word.TimedCall number b cell = tt
  no-deadline word.Send number b cell = tt
  no-deadline word.Select number b cell = no-delays number b
  no-deadline word.Delay number b cell = tt
  no-deadline word.Reply number b cell = tt
  no-deadline word.Print number b cell = tt
  no-deadline word.Get number b cell = tt
  no-deadline word.Done number b cell = tt
  no-deadline word.Fault number b cell = tt

  -- it asks nothing with a deadline
  pub scripted_no_deadline : AsksNoDeadline (scripted main first second)
  scripted_no_deadline kind args grants exists proper = each (slice_get (steps_of main first second kind) (length grants - 1))
    where
      each : (step : Option Step) → HasNoDeadline (asked step)
      each None = tt
      each (Some step) = no-deadline step.0 step.1 step.2 step.3
