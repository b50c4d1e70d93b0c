-- What is left of a statement for those behind it: variables and accepts grow by no more than it declares, and accepts only in the body of
-- a process type.
use Rattle.std.proofs.Common.{◌≡◌, ℕ, suc, ◌+◌, ◌≤◌, Bool, true, false, List, [], ◌∷◌, length, Option, Some, None, Result, Ok, Err, refl, ap, sym, ◌∙◌, length-append, arith}
use Rattle.std.specs.Prelude.{if◌then◌else◌}
use Rattle.cc_typed.specs.declared.tree.Site.{Site}
use Rattle.cc_typed.specs.declared.types.DataType.{DataType}
use Rattle.cc_faults.specs.Judged.{Judged, Good, both, each, found, map, mapped, outcome}
use Rattle.cc_faults.specs.Phrases.{branch, branches, do_loop, for_loop, while_loop}
use Rattle.cc_faults.specs.Scopes.{Scope, Text, declared, deeper, inside_loop, is_here, left as left_scope, meaning_at, with_variable}
use Rattle.cc_faults.specs.Statements.{Head, accept_head, after, after_all, after_alternatives, after_choice, after_in, after_names, around_block, before_block, clause, head_of, in_names, kth, local_type, names_of_accept, parameter_types, site_of, with_site}
use Rattle.cc_faults.specs.declared.fault.FaultAt.{FaultAt}
use Rattle.cc_faults.specs.declared.plain.AcceptHead.{AcceptHead}
use Rattle.cc_faults.specs.declared.plain.Choice.{Choice, Accept' as AcceptChoice', Delay as DelayChoice, Immediate, Terminate}
use Rattle.cc_faults.specs.declared.plain.Identifier.{Identifier}
use Rattle.cc_faults.specs.declared.plain.Statement.{Statement, Empty, Declare, Evaluate, Block', Break, Continue, Return, TransactionReturn, Delay, Accept', Select', Row_of-Statement, end_of-Statement, more_of-Statement, Row_of-Alternative, end_of-Alternative, more_of-Alternative}
use Rattle.cc_faults.specs.declared.scope.Around.{Around}
use Rattle.cc_faults.specs.declared.scope.Role.{Role}
use Rattle.cc_faults.specs.declared.scope.Role.TheVariants as role
use Rattle.cc_sound.proofs.Accepts.{accept_head-typed, declared-sites, holds-at}
use Rattle.cc_sound.proofs.Goods.{good-both, none-found}
use Rattle.cc_sound.proofs.Growth.{Grows, front-more, front-same, grows-declared, grows-left, grows-on, grows-same}
use Rattle.cc_sound.specs.Sizes.{things_in, things_in_all, things_in_alternatives, things_in_block, things_in_choice}

abbrev pub is_body_role : Role → Bool
is_body_role (role.Function o) = false
is_body_role (role.Main o) = false
is_body_role (role.Body k) = true

pub record Passes (r : Role) (s q : Scope) (n : ℕ) : Type 0 where
  pub grows : Grows s q
  pub still : is_body_role r ≡ false → q.sites ≡ s.sites
  pub variables : length q.variables ≤ length s.variables + n
  pub sites : length q.sites ≤ length s.sites + n

pub passes-same : (r : Role) (s : Scope) → Passes r s s 0
passes-same r s =
    record { grows = grows-same s; still = λ e. refl; variables = omega arith; sites = omega arith }

pub passes-on : (r : Role) (s q u : Scope) (n m : ℕ) → Passes r s q n → Passes r q u m → Passes r s u (n + m)
passes-on r s q u n m h i =
    record {
      grows = grows-on s q u h.grows i.grows;
      still = λ e. i.still e ∙ h.still e;
      variables = let a = h.variables in let b = i.variables in omega (arith, a, b);
      sites = let a = h.sites in let b = i.sites in omega (arith, a, b);
    }

passes-left : (r : Role) (s q : Scope) (n : ℕ) → Passes r s q n → Passes r s (left_scope s q) n
passes-left r s q n h =
    record { grows = grows-left s q h.grows; still = h.still; variables = h.variables; sites = h.sites }

-- no more than this
pub passes-most : (r : Role) (s q : Scope) (n m : ℕ) → n ≤ m → Passes r s q n → Passes r s q m
passes-most r s q n m le i =
    record { grows = i.grows; still = i.still; variables = let a = i.variables in omega (arith, a, le); sites = let a = i.sites in omega (arith, a, le) }

pub declared-longer : (n : ℕ) (s : Scope) (x : Identifier) (o : Result DataType FaultAt) → length (declared n s x o).variables ≤ length s.variables + 1
declared-longer n s x o = cases (is_here n (meaning_at s x)) o
  where
    cases : (b : Bool) (r : Result DataType FaultAt) → length (if b then s else with_variable n s x r).variables ≤ length s.variables + 1
    cases true r = omega arith
    cases false (Ok u) = let e = length-append s.variables (u ∷ []) in omega (arith, e)
    cases false (Err f) = omega arith

pub passes-declared : (r : Role) (n : ℕ) (s : Scope) (x : Identifier) (o : Result DataType FaultAt) → Passes r s (declared n s x o) 1
passes-declared r n s x o =
    record {
      grows = grows-declared n s x o;
      still = λ e. declared-sites n s x o;
      variables = declared-longer n s x o;
      sites = let e = ap length (declared-sites n s x o) in omega (arith, e);
    }

pub passes-names : (r : Role) (n : ℕ) (ts : Judged (List DataType)) (k : ℕ) (s : Scope) (xs : List Identifier) → Passes r s (after_names n ts k s xs) (length xs)
passes-names r n ts k s [] = passes-same r s
passes-names r n ts k s (x ∷ xs) =
    passes-most r s (after_names n ts k s (x ∷ xs)) (1 + length xs) (suc (length xs)) (omega arith)
    (passes-on r s (declared n s x (outcome (map (kth k) ts))) (after_names n ts k s (x ∷ xs)) 1 (length xs)
    (passes-declared r n s x (outcome (map (kth k) ts)))
    (passes-names r n ts (suc k) (declared n s x (outcome (map (kth k) ts))) xs))

-- an accept has a head only in the body of a process type
site-still : (r : Role) (s : Scope) (o : Option Site) → (is_body_role r ≡ false → o ≡ None) → Passes r s (with_site o s) 1
site-still r s None go =
    record { grows = grows-same s; still = λ e. refl; variables = omega arith; sites = omega arith }
site-still r s (Some site) go =
    record {
      grows = record { variables = front-same s.variables; sites = front-more s.sites site; structures = refl; members = refl; structures_named = refl; enumerations_named = refl; processes_named = refl };
      still = λ e. absurd (some-none (go e));
      variables = omega arith;
      sites = let e = length-append s.sites (site ∷ []) in omega (arith, e);
    }
  where
    some-none : Some site ≡ None → ⊥
    some-none e = cc

module _ (t : Text) where
  no-head : (w : Around) (s : Scope) (h : AcceptHead) → is_body_role w.role ≡ false → (v : Head) → head_of t w s h ≡ Good v → ⊥
  no-head w s h no_body v e =
      let a = good-both (both (accept_head t w h) (names_of_accept (suc w.scope) (map parameter_types (accept_head t w h)) 0 s h.names)) (each (clause t w (in_names t w s h)) h.clauses) v e in
      let b = good-both (accept_head t w h) (names_of_accept (suc w.scope) (map parameter_types (accept_head t w h)) 0 s h.names) v.0 a.0 in
      let i = holds-at _ (accept_head t w h) v.0.0 (accept_head-typed t w h) b.0 in
      true-false (sym (ap is_body_role i.0.0.1) ∙ no_body)
    where
      true-false : true ≡ false → ⊥
      true-false f = cc

  before-passes : (w : Around) (s : Scope) (h : AcceptHead) → Passes w.role s (before_block t w s h) (suc (length h.names))
  before-passes w s h =
      passes-most w.role s (before_block t w s h) (length h.names + 1) (suc (length h.names)) (omega arith)
      (passes-on w.role s (in_names t w s h) (before_block t w s h) (length h.names) 1
      (passes-names w.role (suc w.scope) (map parameter_types (accept_head t w h)) 0 s h.names)
      (site-still w.role (in_names t w s h) (mapped (site_of w s) (found (head_of t w s h))) (λ e. ap (mapped (site_of w s)) (none-found (head_of t w s h) (no-head w s h e)))))

  mutual
    unfolding after things_in

    pub after-passes : (w : Around) (s : Scope) (e : Statement) → Passes w.role s (after t w s e) (things_in e)
    after-passes w s Empty = passes-same w.role s
    after-passes w s (Declare l) = passes-declared w.role w.scope s l.name (outcome (local_type s l))
    after-passes w s (Block' _ all) =
        passes-left w.role s (after_all t (deeper w) s all) (things_in_all all) (all-passes (deeper w) s all)
    after-passes w s (Evaluate e) = passes-same w.role s
    after-passes w s (branch c x) = after-passes w s x
    after-passes w s (branches c x y) =
        passes-on w.role s (after t w s x) (after t w (after t w s x) y) (things_in x) (things_in y) (after-passes w s x) (after-passes w (after t w s x) y)
    after-passes w s (while_loop c x) = after-passes (inside_loop w) s x
    after-passes w s (do_loop x c) = after-passes (inside_loop w) s x
    after-passes w s (for_loop e c next x) = after-passes (inside_loop w) s x
    after-passes w s (Break q) = passes-same w.role s
    after-passes w s (Continue q) = passes-same w.role s
    after-passes w s (Return q e) = passes-same w.role s
    after-passes w s (TransactionReturn q e) = passes-same w.role s
    after-passes w s (Delay e) = passes-same w.role s
    after-passes w s (Accept' h _ block) =
        passes-left w.role s (after_all t (around_block t w h) (before_block t w s h) block) (suc (length h.names) + things_in_all block)
        (passes-on w.role s (before_block t w s h) (after_all t (around_block t w h) (before_block t w s h) block) (suc (length h.names)) (things_in_all block) (before-passes w s h) (all-passes (around_block t w h) (before_block t w s h) block))
    after-passes w s (Select' q _ all) = alternatives-pass w s all

    pub all-passes : {n : _} (w : Around) (s : Scope) (row : Row_of-Statement n) → Passes w.role s (after_all t w s row) (things_in_all row)
    all-passes w s end_of-Statement = passes-same w.role s
    all-passes w s (more_of-Statement x rest) =
        passes-on w.role s (after t w s x) (after_all t w (after t w s x) rest) (things_in x) (things_in_all rest) (after-passes w s x) (all-passes w (after t w s x) rest)

    alternatives-pass : {n : _} (w : Around) (s : Scope) (row : Row_of-Alternative n) → Passes w.role s (after_alternatives t w s row) (things_in_alternatives row)
    alternatives-pass w s end_of-Alternative = passes-same w.role s
    alternatives-pass w s (more_of-Alternative guard c _ entries rest) =
        passes-on w.role s (left_scope s (after_all t (deeper w) (after_choice t w s c) entries)) (after_alternatives t w (left_scope s (after_all t (deeper w) (after_choice t w s c) entries)) rest) (things_in_choice c + things_in_all entries) (things_in_alternatives rest)
        (passes-left w.role s (after_all t (deeper w) (after_choice t w s c) entries) (things_in_choice c + things_in_all entries)
        (passes-on w.role s (after_choice t w s c) (after_all t (deeper w) (after_choice t w s c) entries) (things_in_choice c) (things_in_all entries) (choice-passes w s c) (all-passes (deeper w) (after_choice t w s c) entries)))
        (alternatives-pass w (left_scope s (after_all t (deeper w) (after_choice t w s c) entries)) rest)

    choice-passes : (w : Around) (s : Scope) (c : Choice) → Passes w.role s (after_choice t w s c) (things_in_choice c)
    choice-passes w s (AcceptChoice' h _ block) =
        passes-left w.role s (after_all t (around_block t w h) (before_block t w s h) block) (suc (length h.names) + things_in_all block)
        (passes-on w.role s (before_block t w s h) (after_all t (around_block t w h) (before_block t w s h) block) (suc (length h.names)) (things_in_all block) (before-passes w s h) (all-passes (around_block t w h) (before_block t w s h) block))
    choice-passes w s (DelayChoice e) = passes-same w.role s
    choice-passes w s Immediate = passes-same w.role s
    choice-passes w s Terminate = passes-same w.role s

  pub in-passes : (w : Around) (s : Scope) (block : List Statement) → Passes w.role s (after_in t w s block) (things_in_block block)
  in-passes w s [] = passes-same w.role s
  in-passes w s (x ∷ rest) =
      passes-on w.role s (after t w s x) (after_in t w (after t w s x) rest) (things_in x) (things_in_block rest) (after-passes w s x) (in-passes w (after t w s x) rest)
