-- What is visible after statements.
use Rattle.std.proofs.Common.{◌≡◌, ℕ, suc, ◌+◌, ◌≤◌, true, List, [], ◌∷◌, length, Option, Some, None, Ok, refl, subst, arith}
use Rattle.std.specs.List.{list_all}
use Rattle.cc_typed.specs.KnownTypes.{is_known, is_whole}
use Rattle.cc_typed.specs.Parts.{Parts}
use Rattle.cc_typed.specs.declared.tree.Site.{Site}
use Rattle.cc_typed.specs.declared.types.DataType.{DataType}
use Rattle.cc_faults.proofs.Holds.{Holds, holds-map, holds-weaker}
use Rattle.cc_faults.specs.Judged.{Judged, Good, Bad, found, map, mapped, outcome}
use Rattle.cc_faults.specs.Phrases.{branch, branches, do_loop, for_loop, while_loop}
use Rattle.cc_faults.specs.Scopes.{Scope, Text, declared, deeper, inside_loop, left as left_scope}
use Rattle.cc_faults.specs.Statements.{accept_head, after, after_all, after_alternatives, after_choice, after_names, around_block, before_block, head_of, in_names, kth, local_type, parameter_types, site_of, with_site}
use Rattle.cc_faults.specs.declared.plain.AcceptHead.{AcceptHead}
use Rattle.cc_faults.specs.declared.plain.Choice.{Choice, Accept' as AcceptChoice', Delay as DelayChoice, Immediate, Terminate}
use Rattle.cc_faults.specs.declared.plain.Identifier.{Identifier}
use Rattle.cc_faults.specs.declared.plain.Statement.{Statement, Empty, Declare, Evaluate, Block', Break, Continue, Return, TransactionReturn, Delay, Accept', Select', Row_of-Statement, end_of-Statement, more_of-Statement, Row_of-Alternative, end_of-Alternative, more_of-Alternative}
use Rattle.cc_faults.specs.declared.scope.Around.{Around}
use Rattle.cc_sound.proofs.Accepts.{IsAcceptHead, accept_head-typed, holds-at, known-kth}
use Rattle.cc_sound.proofs.Growth.{Grows, front-more, front-same, grows-declared, grows-left, grows-on, grows-same, inside-declared, inside-left}
use Rattle.cc_sound.proofs.Types.{local-known, outcome-holds}
use Rattle.cc_sound.specs.Fits.{Inside, TextFits}

module _ (t : Text) (p : Parts) (whole : TextFits t p) where
  -- it grows, and what is visible stays right
  abbrev pub Goes : Scope → Scope → Type 0
  Goes s r = Grows s r × (Inside t p s → Inside t p r)

  pub goes-same : (s : Scope) → Goes s s
  goes-same s = (grows-same s, λ h. h)

  pub goes-on : (s r q : Scope) → Goes s r → Goes r q → Goes s q
  goes-on s r q g h = (grows-on s r q g.0 h.0, λ i. h.1 (g.1 i))

  pub goes-left : (s r : Scope) → Goes s r → Goes s (left_scope s r)
  goes-left s r g = (grows-left s r g.0, λ i. inside-left t p s r g.0 i (g.1 i))

  pub goes-site : (o : Option Site) (s : Scope) → Goes s (with_site o s)
  goes-site None s = goes-same s
  goes-site (Some site) s = (
    record { variables = front-same s.variables; sites = front-more s.sites site; structures = refl; members = refl; structures_named = refl; enumerations_named = refl; processes_named = refl },
    λ h. (record { names = h.0.names; structures_named = h.0.structures_named; processes_named = h.0.processes_named; enumerations_named = h.0.enumerations_named; members = h.0.members; structures = h.0.structures }, h.1),
  )

  -- names whose types are known, where the transaction is
  abbrev pub AreKnown : Judged (List DataType) → ℕ → ℕ → Type 0
  AreKnown ts k n = (us : List DataType) → ts ≡ Good us → (list_all (is_whole p) us ≡ true) × (k + n ≤ length us)

  name-known : (ts : Judged (List DataType)) (k n : ℕ) → AreKnown ts k (suc n) → (u : DataType) → outcome (map (kth k) ts) ≡ Ok u → is_known p u ≡ true
  unfolding map
  name-known (Good us) k n go u e =
      let same : kth k us ≡ u = cc in
      let many = (go us refl).1 in
      subst (λ v. is_known p v ≡ true) same (known-kth p us (go us refl).0 k (omega (arith, many)))
  name-known (Bad own f fs) k n go u e = absurd (cc)

  pub names-go : (n : ℕ) (ts : Judged (List DataType)) (k : ℕ) (s : Scope) (xs : List Identifier) → AreKnown ts k (length xs) → Goes s (after_names n ts k s xs)
  names-go n ts k s [] go = goes-same s
  names-go n ts k s (x ∷ xs) go =
      goes-on s (declared n s x (outcome (map (kth k) ts))) _
      (grows-declared n s x (outcome (map (kth k) ts)), λ h. inside-declared t p n s x (outcome (map (kth k) ts)) (name-known ts k (length xs) go) h)
      (names-go n ts (suc k) (declared n s x (outcome (map (kth k) ts))) xs (λ us e. let many = (go us e).1 in ((go us e).0, omega (arith, many))))

  pub accept-known : (w : Around) (a : AcceptHead) → Holds (λ us. (list_all (is_whole p) us ≡ true) × (length a.names ≡ length us)) (map parameter_types (accept_head t w a))
  accept-known w a =
      holds-map _ parameter_types (accept_head t w a)
      (holds-weaker (IsAcceptHead t w a) _ (λ h i. (whole.parameters i.0.0.0 a.name.name h.0 h.1 i.0.0.2 i.0.1, i.1)) (accept_head t w a) (accept_head-typed t w a))

  pub in_names-go : (w : Around) (s : Scope) (a : AcceptHead) → Goes s (in_names t w s a)
  in_names-go w s a =
      names-go (suc w.scope) (map parameter_types (accept_head t w a)) 0 s a.names
      (λ us e. let same = (holds-at _ (map parameter_types (accept_head t w a)) us (accept-known w a) e) in let many = same.1 in (same.0, omega (arith, many)))

  pub before-go : (w : Around) (s : Scope) (a : AcceptHead) → Goes s (before_block t w s a)
  before-go w s a =
      goes-on s (in_names t w s a) _ (in_names-go w s a) (goes-site (mapped (site_of w s) (found (head_of t w s a))) (in_names t w s a))

  mutual
    unfolding after

    pub after-goes : (w : Around) (s : Scope) (e : Statement) → Goes s (after t w s e)
    after-goes w s Empty = goes-same s
    after-goes w s (Declare l) = (
      grows-declared w.scope s l.name (outcome (local_type s l)),
      λ h. inside-declared t p w.scope s l.name (outcome (local_type s l)) (λ u e. (outcome-holds _ (local_type s l) u (local-known t s p h.0 l) e).0) h,
    )
    after-goes w s (Block' _ all) = goes-left s _ (all-goes (deeper w) s all)
    after-goes w s (Evaluate e) = goes-same s
    after-goes w s (branch c x) = after-goes w s x
    after-goes w s (branches c x y) = goes-on s (after t w s x) _ (after-goes w s x) (after-goes w (after t w s x) y)
    after-goes w s (while_loop c x) = after-goes (inside_loop w) s x
    after-goes w s (do_loop x c) = after-goes (inside_loop w) s x
    after-goes w s (for_loop e c next x) = after-goes (inside_loop w) s x
    after-goes w s (Break q) = goes-same s
    after-goes w s (Continue q) = goes-same s
    after-goes w s (Return q e) = goes-same s
    after-goes w s (TransactionReturn q e) = goes-same s
    after-goes w s (Delay e) = goes-same s
    after-goes w s (Accept' h _ block) =
        goes-left s _ (goes-on s (before_block t w s h) _ (before-go w s h) (all-goes (around_block t w h) (before_block t w s h) block))
    after-goes w s (Select' q _ all) = alternatives-go w s all

    pub all-goes : {n : _} (w : Around) (s : Scope) (row : Row_of-Statement n) → Goes s (after_all t w s row)
    all-goes w s end_of-Statement = goes-same s
    all-goes w s (more_of-Statement x rest) = goes-on s (after t w s x) _ (after-goes w s x) (all-goes w (after t w s x) rest)

    pub alternatives-go : {n : _} (w : Around) (s : Scope) (row : Row_of-Alternative n) → Goes s (after_alternatives t w s row)
    alternatives-go w s end_of-Alternative = goes-same s
    alternatives-go w s (more_of-Alternative guard c _ entries rest) =
        goes-on s (left_scope s (after_all t (deeper w) (after_choice t w s c) entries)) _
        (goes-left s _ (goes-on s (after_choice t w s c) _ (choice-goes w s c) (all-goes (deeper w) (after_choice t w s c) entries)))
        (alternatives-go w (left_scope s (after_all t (deeper w) (after_choice t w s c) entries)) rest)

    pub choice-goes : (w : Around) (s : Scope) (c : Choice) → Goes s (after_choice t w s c)
    choice-goes w s (AcceptChoice' h _ block) =
        goes-left s _ (goes-on s (before_block t w s h) _ (before-go w s h) (all-goes (around_block t w h) (before_block t w s h) block))
    choice-goes w s (DelayChoice e) = goes-same s
    choice-goes w s Immediate = goes-same s
    choice-goes w s Terminate = goes-same s
