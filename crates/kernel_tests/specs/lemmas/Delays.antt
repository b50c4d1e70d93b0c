-- Programs that follow a table and may wait are well formed.
use Rattle.std.proofs.Common.{◌≡◌, ℕ, zero, suc, ◌-◌, ◌<◌, ◌≤◌, ℤ, Bool, true, false, List, [], ◌∷◌, length, refl, Option, Some, None, arith}
use Rattle.std.specs.Prelude.{All, pos, slice_get}
use Rattle.std.proofs.lemmas.List.Elements.{All-cons}
use Rattle.std.proofs.lemmas.List.Kept.{AllPairs-cons}
use Rattle.cc_base.specs.Alternatives.{NumbersRise}
use Rattle.cc_base.specs.Requests.{HasSites, IsAlternativeOf, IsAtSite, IsRequestOf, NamesSites, WellFormed}
use Rattle.cc_base.specs.declared.alternatives.Alt.{Alt}
use Rattle.cc_base.specs.declared.alternatives.Alt.TheVariants.{After, Terminate}
use Rattle.cc_base.specs.declared.request.Request.TheVariants.{Select}
use Rattle.cc_rules.specs.declared.event.Word.{Word}
use Rattle.cc_rules.specs.declared.event.Word.TheVariants as word
use Rattle.kernel_tests.specs.Delays.{asked_or_waited, timed_alternatives_of, waiting, waiting_request_of}
use Rattle.kernel_tests.specs.Tables.{Step, accept_of, scripted, steps_of, trans_of}
use Rattle.kernel_tests.specs.lemmas.Tables.{accept-at, accept-there, at-sites, is-request, is-select, scripted_has_sites, some-there, two-of, two-rise}

module _ (main first second : List Step) where
  three-rise : (a b c : ℕ × Alt) → a.0 < b.0 → b.0 < c.0 → NumbersRise (a ∷ b ∷ c ∷ [])
  three-rise a b c lt lt' =
      AllPairs-cons (λ (d e : ℕ × Alt). d.0 < e.0) a (b ∷ c ∷ [])
      (two-of main first second (λ (d : ℕ × Alt). a.0 < d.0) b c lt (omega (arith, lt, lt')))
      (two-rise main first second b c lt')

  three-of : (F : ℕ × Alt → Type 0) (a b c : ℕ × Alt) → F a → F b → F c → All F (a ∷ b ∷ c ∷ [])
  three-of F a b c h k l = All-cons F a (b ∷ c ∷ []) h (two-of main first second F b c k l)

  abbrev Exists : ℕ × Alt → Type 0
  Exists a = IsAlternativeOf (scripted main first second) a.1

  is-timed_select : (number : ℕ) (b : Bool) (cell : ℤ) → IsRequestOf (waiting main first second) (Select (timed_alternatives_of number b cell))
  is-timed_select zero b cell = is-select main first second 0 b
  is-timed_select (suc zero) b cell =
      (some-there main first second _ _, two-rise main first second _ (1, After cell) (omega arith), two-of main first second Exists (0, accept_of (trans_of b)) (1, After cell) (accept-there main first second b) tt)
  is-timed_select (suc (suc zero)) b cell =
      (some-there main first second _ _, three-rise _ (1, After cell) (2, Terminate) (omega arith) (omega arith), three-of Exists (0, accept_of (trans_of b)) (1, After cell) (2, Terminate) (accept-there main first second b) tt tt)
  is-timed_select (suc (suc (suc number))) b cell =
      (some-there main first second _ _, three-rise (0, After (pos 7)) (1, After cell) (2, After cell) (omega arith) (omega arith), three-of Exists (0, After (pos 7)) (1, After cell) (2, After cell) tt tt tt)

  abbrev Named : ℕ × Alt → Type 0
  Named a = IsAtSite 2 a.1

  timed-sites : (number : ℕ) (b : Bool) (cell : ℤ) → All (λ (a : ℕ × Alt). IsAtSite 2 a.1) (timed_alternatives_of number b cell)
  timed-sites zero b cell = at-sites main first second 0 b
  timed-sites (suc zero) b cell = two-of main first second Named (0, accept_of (trans_of b)) (1, After cell) (accept-at main first second b) tt
  timed-sites (suc (suc zero)) b cell = three-of Named (0, accept_of (trans_of b)) (1, After cell) (2, Terminate) (accept-at main first second b) tt tt
  timed-sites (suc (suc (suc number))) b cell = three-of Named (0, After (pos 7)) (1, After cell) (2, After cell) tt tt tt

  is-waiting_request : (w : Word) (number : ℕ) (b : Bool) (cell : ℤ) → IsRequestOf (waiting main first second) (waiting_request_of w number b cell)
  is-waiting_request word.Pause number b cell = is-request main first second word.Pause number b cell
  is-waiting_request word.Create number b cell = is-request main first second word.Create number b cell
  is-waiting_request word.Call number b cell = is-request main first second word.Call number b cell
  is-waiting_request word.TimedCall number true cell = refl
  is-waiting_request word.TimedCall number false cell = refl
  is-waiting_request word.Send number b cell = is-request main first second word.Send number b cell
  is-waiting_request word.Select number b cell = is-timed_select number b cell
  is-waiting_request word.Delay number b cell = tt
  is-waiting_request word.Reply number b cell = is-request main first second word.Reply number b cell
  is-waiting_request word.Print number b cell = is-request main first second word.Print number b cell
  is-waiting_request word.Get number b cell = is-request main first second word.Get number b cell
  is-waiting_request word.Done number b cell = is-request main first second word.Done number b cell
  is-waiting_request word.Fault number b cell = is-request main first second word.Fault number b cell

  pub waiting_well_formed : WellFormed (waiting main first second)
  waiting_well_formed =
      record { main = refl; requests = λ kind args grants exists proper. each (slice_get (steps_of main first second kind) (length grants - 1)) }
    where
      each : (step : Option Step) → IsRequestOf (waiting main first second) (asked_or_waited step)
      each None = tt
      each (Some step) = is-waiting_request step.0 step.1 step.2 step.3

  names-waiting : (w : Word) (number : ℕ) (b : Bool) (cell : ℤ) → NamesSites 2 (waiting_request_of w number b cell)
  names-waiting word.Pause number b cell = tt
  names-waiting word.Create number b cell = tt
  names-waiting word.Call number b cell = tt
  names-waiting word.TimedCall number b cell = tt
  names-waiting word.Send number b cell = tt
  names-waiting word.Select number b cell = timed-sites number b cell
  names-waiting word.Delay number b cell = tt
  names-waiting word.Reply number b cell = tt
  names-waiting word.Print number b cell = tt
  names-waiting word.Get number b cell = tt
  names-waiting word.Done number b cell = tt
  names-waiting word.Fault number b cell = tt

  pub waiting_has_sites : HasSites (waiting main first second) 2
  waiting_has_sites =
      record {
        names = λ kind args grants exists proper. each (slice_get (steps_of main first second kind) (length grants - 1));
        fits = (scripted_has_sites main first second).fits;
      }
    where
      each : (step : Option Step) → NamesSites 2 (asked_or_waited step)
      each None = tt
      each (Some step) = names-waiting step.0 step.1 step.2 step.3
