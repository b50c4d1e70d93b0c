-- What statements leave as it was: the types of a text; and, apart from those of a process body, its accepts.
use Rattle.std.proofs.Common.{◌≡◌, ℕ, suc, Bool, true, false, List, [], ◌∷◌, Option, Some, None, Result, Ok, Err, refl, ap, sym, ◌∙◌}
use Rattle.std.specs.Prelude.{if◌then◌else◌}
use Rattle.cc_base.specs.declared.names.Place.{Place}
use Rattle.cc_typed.specs.declared.tree.Site.{Site}
use Rattle.cc_typed.specs.declared.types.DataType.{DataType}
use Rattle.cc_faults.specs.Judged.{Judged, Good, Bad, after_each, answer, both, checked, found, map, mapped, outcome}
use Rattle.cc_faults.specs.Phrases.{branch, branches, do_loop, for_loop, while_loop}
use Rattle.cc_faults.specs.Programs.{after_names as after_body_names, after_parameters, in_body, in_function, with_sites}
use Rattle.cc_faults.specs.Rows.{in_body as stands_in_body, value_type}
use Rattle.cc_faults.specs.Scopes.{Scope, Text, declared, deeper, inside_loop, is_here, left, meaning_at, outermost, with_variable}
use Rattle.cc_faults.specs.Statements.{accept_head, after, after_all, after_alternatives, after_choice, after_names, around_block, before_block, head_of, in_names, kth, local_type, parameter_types, site_of, with_site}
use Rattle.cc_faults.specs.declared.fault.FaultAt.{FaultAt}
use Rattle.cc_faults.specs.declared.plain.AcceptHead.{AcceptHead}
use Rattle.cc_faults.specs.declared.plain.Choice.{Choice, Accept' as AcceptChoice', Delay as DelayChoice, Immediate, Terminate}
use Rattle.cc_faults.specs.declared.plain.Identifier.{Identifier}
use Rattle.cc_faults.specs.declared.plain.Parameter.{Parameter}
use Rattle.cc_faults.specs.declared.plain.Statement.{Statement, Empty, Declare, Evaluate, Block', Break, Continue, Return, TransactionReturn, Delay, Accept', Select', Row_of-Statement, end_of-Statement, more_of-Statement, Row_of-Alternative, end_of-Alternative, more_of-Alternative}
use Rattle.cc_faults.specs.declared.scope.Around.{Around}
use Rattle.cc_faults.specs.declared.scope.Role.{Role}
use Rattle.cc_faults.specs.declared.scope.Role.TheVariants as role
use Rattle.cc_types.specs.Judging.{after_entries}
use Rattle.cc_types.specs.Passing.{after_block}

pub record Stays (s r : Scope) : Type 0 where
  pub structures : r.structures ≡ s.structures
  pub members : r.members ≡ s.members
  pub structures_named : r.structures_named ≡ s.structures_named
  pub enumerations_named : r.enumerations_named ≡ s.enumerations_named
  pub processes_named : r.processes_named ≡ s.processes_named

pub stays-same : (s : Scope) → Stays s s
stays-same s =
    record { structures = refl; members = refl; structures_named = refl; enumerations_named = refl; processes_named = refl }

pub stays-on : (s r q : Scope) → Stays s r → Stays r q → Stays s q
stays-on s r q g h =
    record {
      structures = h.structures ∙ g.structures;
      members = h.members ∙ g.members;
      structures_named = h.structures_named ∙ g.structures_named;
      enumerations_named = h.enumerations_named ∙ g.enumerations_named;
      processes_named = h.processes_named ∙ g.processes_named;
    }

stays-left : (s r : Scope) → Stays s r → Stays s (left s r)
stays-left s r g =
    record { structures = g.structures; members = g.members; structures_named = g.structures_named; enumerations_named = g.enumerations_named; processes_named = g.processes_named }

-- a variable changes names and variables alone
abbrev pub Adds : Scope → Scope → Type 0
Adds s r = Stays s r × (r.sites ≡ s.sites)

adds-same : (s : Scope) → Adds s s
adds-same s = (stays-same s, refl)

adds-on : (s r q : Scope) → Adds s r → Adds r q → Adds s q
adds-on s r q g h = (stays-on s r q g.0 h.0, h.1 ∙ g.1)

adds-variable : (b : Bool) (n : ℕ) (s : Scope) (x : Identifier) (o : Result DataType FaultAt) → Adds s (if b then s else with_variable n s x o)
adds-variable true n s x o = adds-same s
adds-variable false n s x (Ok u) = (
  record { structures = refl; members = refl; structures_named = refl; enumerations_named = refl; processes_named = refl },
  refl,
)
adds-variable false n s x (Err f) = (
  record { structures = refl; members = refl; structures_named = refl; enumerations_named = refl; processes_named = refl },
  refl,
)

adds-declared : (n : ℕ) (s : Scope) (x : Identifier) (o : Result DataType FaultAt) → Adds s (declared n s x o)
adds-declared n s x o = adds-variable (is_here n (meaning_at s x)) n s x o

adds-names : (n : ℕ) (ts : Judged (List DataType)) (k : ℕ) (s : Scope) (xs : List Identifier) → Adds s (after_names n ts k s xs)
adds-names n ts k s [] = adds-same s
adds-names n ts k s (x ∷ xs) =
    let r = declared n s x (outcome (map (kth k) ts)) in
    adds-on s r (after_names n ts (suc k) r xs) (adds-declared n s x (outcome (map (kth k) ts))) (adds-names n ts (suc k) r xs)

adds-body_names : (ts : Judged (List DataType)) (k : ℕ) (s : Scope) (xs : List Identifier) → Adds s (after_body_names ts k s xs)
adds-body_names ts k s [] = adds-same s
adds-body_names ts k s (x ∷ xs) =
    let r = declared 2 s x (outcome (map (kth k) ts)) in
    adds-on s r (after_body_names ts (suc k) r xs) (adds-declared 2 s x (outcome (map (kth k) ts))) (adds-body_names ts (suc k) r xs)

adds-parameters : (outer s : Scope) (ps : List Parameter) → Adds s (after_parameters outer s ps)
adds-parameters outer s [] = adds-same s
adds-parameters outer s (p ∷ ps) =
    let r = declared 2 s p.name (outcome (value_type outer p.of)) in
    adds-on s r (after_parameters outer r ps) (adds-declared 2 s p.name (outcome (value_type outer p.of))) (adds-parameters outer r ps)

adds-none : (s : Scope) → Adds s (record s { variables = [] })
adds-none s = (
  record { structures = refl; members = refl; structures_named = refl; enumerations_named = refl; processes_named = refl },
  refl,
)

pub entered-body : (s : Scope) (ts : Judged (List DataType)) (xs : List Identifier) → Adds s (in_body s ts xs)
entered-body s ts xs = adds-on s (record s { variables = [] }) (in_body s ts xs) (adds-none s) (adds-body_names ts 0 (record s { variables = [] }) xs)

pub entered-function : (s : Scope) (ps : List Parameter) → Adds s (in_function s ps)
entered-function s ps = adds-on s (record s { variables = [] }) (in_function s ps) (adds-none s) (adds-parameters s (record s { variables = [] }) ps)

-- ---- in a function and in `main` no accept is found

abbrev pub IsNoBody : Role → Type 0
IsNoBody (role.Function u) = Unit {0}
IsNoBody (role.Main u) = Unit {0}
IsNoBody (role.Body k) = ⊥

none-checked : {A B : Type 0} (j : Judged A) (r : A → Judged B) → found j ≡ None → found (checked j r) ≡ None
unfolding checked answer
none-checked (Good v) r e = absurd (cc)
none-checked (Bad true f fs) r e = refl
none-checked (Bad false f fs) r e = refl

none-both : {A B : Type 0} (j : Judged A) (k : Judged B) → found j ≡ None → found (both j k) ≡ None
unfolding both answer
none-both (Good v) k e = absurd (cc)
none-both (Bad true f fs) (Good w) e = refl
none-both (Bad false f fs) (Good w) e = refl
none-both (Bad true f fs) (Bad also g gs) e = refl
none-both (Bad false f fs) (Bad true g gs) e = refl
none-both (Bad false f fs) (Bad false g gs) e = refl

no-body : (r : Role) (p : Place) → IsNoBody r → found (stands_in_body r p) ≡ None
unfolding answer
no-body (role.Function u) p h = refl
no-body (role.Main u) p h = refl
no-body (role.Body k) p h = absurd h

module _ (t : Text) where
  no-head : (w : Around) (s : Scope) (h : AcceptHead) → IsNoBody w.role → found (head_of t w s h) ≡ None
  no-head w s h n =
      none-both _ _ (none-both _ _ (none-checked _ _ (none-checked _ _ (none-checked _ _ (none-checked _ _ (no-body w.role h.place n))))))

  -- what a statement leaves as it was
  abbrev pub Leaves : Around → Scope → Scope → Type 0
  Leaves w s r = Stays s r × (IsNoBody w.role → r.sites ≡ s.sites)

  leaves-same : (w : Around) (s : Scope) → Leaves w s s
  leaves-same w s = (stays-same s, λ n. refl)

  leaves-on : (w : Around) (s r q : Scope) → Leaves w s r → Leaves w r q → Leaves w s q
  leaves-on w s r q g h = (stays-on s r q g.0 h.0, λ n. h.1 n ∙ g.1 n)

  leaves-left : (w : Around) (s r : Scope) → Leaves w s r → Leaves w s (left s r)
  leaves-left w s r g = (stays-left s r g.0, g.1)

  leaves-site : (w : Around) (o : Option Site) (s : Scope) → (IsNoBody w.role → o ≡ None) → Leaves w s (with_site o s)
  leaves-site w None s none = leaves-same w s
  leaves-site w (Some site) s none = (
    record { structures = refl; members = refl; structures_named = refl; enumerations_named = refl; processes_named = refl },
    λ n. absurd (let e = none n in cc),
  )

  leaves-before : (w : Around) (s : Scope) (h : AcceptHead) → Leaves w s (before_block t w s h)
  leaves-before w s h =
      let names = adds-names (suc w.scope) (map parameter_types (accept_head t w h)) 0 s h.names in
      leaves-on w s (in_names t w s h) _ (names.0, λ n. names.1)
      (leaves-site w (mapped (site_of w s) (found (head_of t w s h))) (in_names t w s h) (λ n. ap (mapped (site_of w s)) (no-head w s h n)))

  mutual
    unfolding after

    pub after-leaves : (w : Around) (s : Scope) (e : Statement) → Leaves w s (after t w s e)
    after-leaves w s Empty = leaves-same w s
    after-leaves w s (Declare l) =
        let d = adds-declared w.scope s l.name (outcome (local_type s l)) in (d.0, λ n. d.1)
    after-leaves w s (Block' _ all) = leaves-left w s _ (all-leave (deeper w) s all)
    after-leaves w s (Evaluate e) = leaves-same w s
    after-leaves w s (branch c x) = after-leaves w s x
    after-leaves w s (branches c x y) = leaves-on w s (after t w s x) _ (after-leaves w s x) (after-leaves w (after t w s x) y)
    after-leaves w s (while_loop c x) = after-leaves (inside_loop w) s x
    after-leaves w s (do_loop x c) = after-leaves (inside_loop w) s x
    after-leaves w s (for_loop e c next x) = after-leaves (inside_loop w) s x
    after-leaves w s (Break q) = leaves-same w s
    after-leaves w s (Continue q) = leaves-same w s
    after-leaves w s (Return q e) = leaves-same w s
    after-leaves w s (TransactionReturn q e) = leaves-same w s
    after-leaves w s (Delay e) = leaves-same w s
    after-leaves w s (Accept' h _ block) =
        leaves-left w s _ (leaves-on w s (before_block t w s h) _ (leaves-before w s h) (all-leave (around_block t w h) (before_block t w s h) block))
    after-leaves w s (Select' q _ all) = alternatives-leave w s all

    pub all-leave : {n : _} (w : Around) (s : Scope) (row : Row_of-Statement n) → Leaves w s (after_all t w s row)
    all-leave w s end_of-Statement = leaves-same w s
    all-leave w s (more_of-Statement x rest) = leaves-on w s (after t w s x) _ (after-leaves w s x) (all-leave w (after t w s x) rest)

    pub alternatives-leave : {n : _} (w : Around) (s : Scope) (row : Row_of-Alternative n) → Leaves w s (after_alternatives t w s row)
    alternatives-leave w s end_of-Alternative = leaves-same w s
    alternatives-leave w s (more_of-Alternative guard c _ entries rest) =
        leaves-on w s (left s (after_all t (deeper w) (after_choice t w s c) entries)) _
        (leaves-left w s _ (leaves-on w s (after_choice t w s c) _ (choice-leaves w s c) (all-leave (deeper w) (after_choice t w s c) entries)))
        (alternatives-leave w (left s (after_all t (deeper w) (after_choice t w s c) entries)) rest)

    pub choice-leaves : (w : Around) (s : Scope) (c : Choice) → Leaves w s (after_choice t w s c)
    choice-leaves w s (AcceptChoice' h _ block) =
        leaves-left w s _ (leaves-on w s (before_block t w s h) _ (leaves-before w s h) (all-leave (around_block t w h) (before_block t w s h) block))
    choice-leaves w s (DelayChoice e) = leaves-same w s
    choice-leaves w s Immediate = leaves-same w s
    choice-leaves w s Terminate = leaves-same w s

module _ (t : Text) (w : Around) where
  pub entries-leave : (s : Scope) (xs : List Statement) → Leaves t w s (after_entries t w s xs)
  unfolding after_each
  entries-leave s [] = leaves-same t w s
  entries-leave s (x ∷ rest) = leaves-on t w s (after t w s x) _ (after-leaves t w s x) (entries-leave (after t w s x) rest)

-- outside of functions and bodies there are no variables
same-outside : (s r : Scope) → Stays s r → s.variables ≡ [] → record r { names = s.names; variables = [] } ≡ record s { sites = r.sites }
same-outside s r g e =
    λ i. record {
      names = s.names;
      structures_named = g.structures_named i;
      enumerations_named = g.enumerations_named i;
      processes_named = g.processes_named i;
      structures = g.structures i;
      members = g.members i;
      variables = sym e i;
      sites = r.sites;
    }

module _ (t : Text) (r : Role) (s entered : Scope) (xs : List Statement) where
  -- behind a block that was entered from outside
  pub behind-block : Adds s entered → s.variables ≡ [] → record (after_block t r entered xs) { names = s.names; variables = [] } ≡ with_sites s (after_block t r entered xs)
  behind-block a e =
      same-outside s (after_block t r entered xs) (stays-on s entered (after_block t r entered xs) a.0 (entries-leave t (outermost r) entered xs).0) e

  pub behind-function : Adds s entered → s.variables ≡ [] → IsNoBody r → record (after_block t r entered xs) { names = s.names; variables = [] } ≡ s
  behind-function a e n =
      behind-block a e ∙ ap (λ ys. record s { sites = ys }) ((entries-leave t (outermost r) entered xs).1 n ∙ a.1)
