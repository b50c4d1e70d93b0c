-- What is known of a process that takes a call, or an alternative without one.
use Rattle.std.proofs.Common.{◌≡◌, ℕ, ℤ, Bool, true, false, ◌&&◌, List, length, refl, sym, ap, ◌∙◌, subst, Option, Some, None}
use Rattle.std.specs.Prelude.{if◌then◌else◌, nat_eq, nat_le}
use Rattle.std.specs.List.{list_all}
use Rattle.std.specs.Option.{option_map_or, MatchOption}
use Rattle.std.proofs.lemmas.Bool.{and_parts}
use Rattle.std.proofs.lemmas.Bool.Decides.{Decides-eqb}
use Rattle.cc_base.specs.Meaning.{Meaning}
use Rattle.cc_base.specs.declared.alternatives.Alt.{Alt}
use Rattle.cc_base.specs.declared.alternatives.Alt.TheVariants.{Accept, After, Now, Terminate}
use Rattle.cc_base.specs.declared.request.Grant.TheVariants.{Took, Chose}
use Rattle.cc_base.specs.declared.request.Request.{Request}
use Rattle.cc_base.specs.declared.request.Request.TheVariants.{Select}
use Rattle.cc_base.specs.Alternatives.{numbered}
use Rattle.cc_rules.specs.Choice.{alternative_deadline, expires_before, goes_before, is_chosen, is_first_due, is_immediate, rank}
use Rattle.cc_base.specs.Grants.{argument_cells, Answers, NeedsNoCall, TakesArgs}
use Rattle.cc_rules.specs.Sound.{BelongsTo}
use Rattle.cc_rules.specs.State.{open_alternatives}
use Rattle.cc_rules.specs.declared.process.ProcessStanding.{ProcessStanding}
use Rattle.cc_rules.specs.declared.process.ProcessStanding.TheVariants.{Running, AtSelect, AtDelay, AtCall, Ended, Faulted}
use Rattle.cc_rules.specs.declared.process.TransactionCall.{TransactionCall}

-- an open alternative of this number that passes the test
pub record IsOpen (x : ProcessStanding) (i : ℕ) (test : Alt → Bool) : Type 0 where
  pub alts : List (ℕ × Alt)
  pub asked : ℕ
  pub alt : Alt
  pub standing : x ≡ AtSelect alts asked
  pub here : numbered alts i ≡ Some alt
  pub passes : test alt ≡ true

open-if : (alts : List (ℕ × Alt)) (asked i : ℕ) (test : Alt → Bool) (o : Option Alt) → numbered alts i ≡ o → option_map_or test o false ≡ true → IsOpen (AtSelect alts asked) i test
open-if alts asked i test None e h = absurd cc
open-if alts asked i test (Some alt) e h = record { alts = alts; asked = asked; alt = alt; standing = refl; here = e; passes = h }

pub is-open : (x : ProcessStanding) (i : ℕ) (test : Alt → Bool) → option_map_or test (numbered (open_alternatives x) i) false ≡ true → IsOpen x i test
is-open Running i test h = absurd cc
is-open (AtSelect alts asked) i test h = open-if alts asked i test (numbered alts i) refl h
is-open (AtDelay deadline) i test h = absurd cc
is-open (AtCall c) i test h = absurd cc
is-open Ended i test h = absurd cc
is-open (Faulted kind) i test h = absurd cc

-- a process at a select asked for it
pub asked-select : (x : ProcessStanding) (r : Request) (alts : List (ℕ × Alt)) (asked : ℕ) → x ≡ AtSelect alts asked → BelongsTo x r → r ≡ Select alts
asked-select x r alts asked e h = subst (λ y. BelongsTo y r) e h

pub some-rank : (f : ℤ → Bool) (o : Option ℤ) (b : Bool) → option_map_or f (if b then o else None) false ≡ true → b ≡ true
some-rank f o true h = refl
some-rank f o false h = absurd cc

-- an alternative for which a call is chosen takes its arguments
pub chosen-takes :
    (m : Meaning) (p : ℕ) (alt : Alt) (pending : List TransactionCall) (c : TransactionCall)
    → is_chosen m p alt pending c ≡ true
    → argument_cells m c.trans ≡ Some (length c.args)
    → TakesArgs m alt c.args
chosen-takes m p (Accept trans site env) pending c h e =
    let both =
    some-rank
    (λ k. list_all (λ other. goes_before k c.number.0 (rank m p (Accept trans site env) other) other.number.0) pending)
    (m.fit site env c.args)
    (nat_eq c.target.0 p && nat_eq c.trans trans)
    h in
    let same = (Decides-eqb c.trans trans).0 (and_parts (nat_eq c.target.0 p) (nat_eq c.trans trans) both).1 in
    ap (argument_cells m) (sym same) ∙ e
chosen-takes m p (After wait) pending c h e = cc
chosen-takes m p Now pending c h e = cc
chosen-takes m p Terminate pending c h e = cc

pub took-answers : (m : Meaning) (r : Request) (alts : List (ℕ × Alt)) (i : ℕ) (alt : Alt) (args : List ℤ)
    → r ≡ Select alts
    → numbered alts i ≡ Some alt
    → TakesArgs m alt args
    → Answers m r (Took i args)
took-answers m r alts i alt args e here takes =
    subst (λ x. Answers m x (Took i args)) (sym e) (subst (λ o. MatchOption o ⊥ (λ a. TakesArgs m a args)) (sym here) takes)

pub chose-answers : (m : Meaning) (r : Request) (alts : List (ℕ × Alt)) (i : ℕ) (alt : Alt)
    → r ≡ Select alts
    → numbered alts i ≡ Some alt
    → NeedsNoCall alt
    → Answers m r (Chose i)
chose-answers m r alts i alt e here alone =
    subst (λ x. Answers m x (Chose i)) (sym e) (subst (λ o. MatchOption o ⊥ NeedsNoCall) (sym here) alone)

pub immediate-alone : (alt : Alt) → is_immediate alt ≡ true → NeedsNoCall alt
immediate-alone (Accept trans site env) h = cc
immediate-alone (After wait) h = cc
immediate-alone Now h = tt
immediate-alone Terminate h = cc

due-alone_by : (asked : ℕ) (f : ℕ → Bool) (alt : Alt) → option_map_or f (alternative_deadline asked alt) false ≡ true → NeedsNoCall alt
due-alone_by asked f (Accept trans site env) h = cc
due-alone_by asked f (After wait) h = tt
due-alone_by asked f Now h = cc
due-alone_by asked f Terminate h = cc

due-open_if :
    (asked : ℕ) (f : ℕ → Bool) (alts : List (ℕ × Alt)) (i : ℕ) (o : Option Alt)
    → numbered alts i ≡ o
    → option_map_or (λ alt. option_map_or f (alternative_deadline asked alt) false) o false ≡ true
    → (alt : Alt) × (numbered alts i ≡ Some alt) × NeedsNoCall alt
due-open_if asked f alts i None e h = absurd cc
due-open_if asked f alts i (Some alt) e h = (alt, e, due-alone_by asked f alt h)

-- the delay alternative that comes first
pub due-open : (moment asked : ℕ) (alts : List (ℕ × Alt)) (i : ℕ) → is_first_due moment asked alts i ≡ true → (alt : Alt) × (numbered alts i ≡ Some alt) × NeedsNoCall alt
due-open moment asked alts i h =
    due-open_if asked
    (λ deadline. nat_le deadline moment && list_all (λ b. expires_before deadline i (alternative_deadline asked b.1) b.0) alts)
    alts i (numbered alts i) refl h
