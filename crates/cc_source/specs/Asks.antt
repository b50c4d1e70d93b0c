-- The statements of a straight typed program, and the program whole, ask only what is known.
use Rattle.std.proofs.Common.{◌≡◌, ℕ, ◌<◌, ◌≤◌, ℤ, zero, suc, Bool, true, false, ◌&&◌, ◌||◌, List, [], ◌∷◌, length, map, take, drop, Option, Some, None, refl, ap, ◌∙◌, subst, arith}
use Rattle.std.specs.List.{list_all}
use Rattle.std.specs.Prelude.{slice_get, nat_lt, if◌then◌else◌, is_some, nat_eq}
use Rattle.std.proofs.lemmas.Bool.{eqb-true}
use Rattle.std.proofs.lemmas.List.Elements.{All-cons, All-nil}
use Rattle.cc_base.specs.Outcome.{Left, Outcome, Through, Asked, Eval, ask, asked_by}
use Rattle.cc_base.specs.Limits.{most_calls, most_cells}
use Rattle.cc_base.specs.Supported.{AsksSupported}
use Rattle.cc_base.specs.Requests.{HasSites, IsAlternativeOf, IsAtSite, WellFormed}
use Rattle.cc_base.specs.Alternatives.{NumbersRise}
use Rattle.cc_base.specs.declared.alternatives.Alt.{Alt}
use Rattle.cc_base.specs.declared.names.FaultKind.TheVariants.{Cells}
use Rattle.cc_base.specs.declared.request.Grant.{Grant}
use Rattle.cc_base.specs.declared.request.Request.TheVariants as request
use Rattle.cc_source.specs.Known.{IsOf, IsPerformable, Ones, Safe, and-left, and-right, ask-safe, ones-append, ones-set, ones-set_from, safe, straight-one, unflats-ones, zero-has, zeros-ones}
use Rattle.cc_source.specs.Projections.{kind-body, kind-variables, passes-get, transaction-parameters}
use Rattle.cc_source.specs.Safe.{converted-any, eval-safe}
use Rattle.cc_source.specs.Lists.{exec_all}
use Rattle.cc_base.specs.Granted.{args_taken, reply, select}
use Rattle.cc_source.specs.Meaning.{Caller, Flow, Ended, Broke, Continued, Returned, Replied, Finished, Scope, accepted, alternative_at, converted_value, eval, exec, exec_row, given, reply_cells, scope_taken, transaction_of, unless_left, zero_in}
use Rattle.cc_typed.specs.Missing.{first_at, parameters_at, transaction_at}
use Rattle.cc_typed.specs.Parts.{Parts}
use Rattle.cc_typed.specs.Phrases.{branch, branches, while_loop, do_loop, for_loop}
use Rattle.cc_source.specs.Programs.{act, body, call, cells_all, fit, left_at_start, meaning, parameter_cells, shape_of, site_rank, variables_at_start}
use Rattle.cc_source.specs.Straight.{are_straight_statements, is_straight_option, is_straight_program, is_straight_statement, is_straight_type, is_straight_value}
use Rattle.cc_typed.specs.KnownTypes.{is_process_type, is_whole}
use Rattle.cc_typed.specs.Typed.{Surroundings, are_typed_kinds, is_typed_but_for_sites, are_typed_statements, are_typed_structures, are_variables, has_few_parts, has_main, is_accepted, is_given, is_of_kind, is_typed_kind, is_typed_program, is_typed_site, is_typed_statement}
use Rattle.cc_typed.specs.Parting.{is_of_type}
use Rattle.cc_typed.specs.Table.{layout_of, layouts_of}
use Rattle.cc_typed.specs.Types.{is_void, type_of}
use Rattle.cc_typed.specs.Values.{HasLayout, unflats}
use Rattle.cc_typed.specs.declared.types.DataType.{DataType}
use Rattle.cc_typed.specs.declared.tree.Expression.{Expression}
use Rattle.cc_typed.specs.declared.tree.Kind.{Kind}
use Rattle.cc_typed.specs.declared.tree.Site.{Site}
use Rattle.cc_typed.specs.declared.tree.Statement.{Statement, Empty, Evaluate, Declare, Initialize, Block', Break, Continue, Return, Finish, TransactionReturn, Delay, Accept', Select', Row_of-Statement, end_of-Statement, more_of-Statement}
use Rattle.cc_typed.specs.declared.tree.Transaction.{Transaction}

below : {X : Type 0} (xs : List X) (k : ℕ) (x : X) → slice_get xs k ≡ Some x → k < length xs
below [] zero x e = cc
below [] (suc k) x e = cc
below (y ∷ ys) zero x e = omega arith
below (y ∷ ys) (suc k) x e = omega (arith, below ys k x e)

of_kind-there : (p : Parts) (ts : List Transaction) (k n : ℕ) → is_of_kind (slice_get ts k) n ≡ true → is_some (slice_get (map (shape_of p) ts) k) ≡ true
of_kind-there p [] zero n e = cc
of_kind-there p [] (suc k) n e = cc
of_kind-there p (t ∷ ts) zero n e = refl
of_kind-there p (t ∷ ts) (suc k) n e = of_kind-there p ts k n e

one-rises : (a : ℕ × Alt) → NumbersRise (a ∷ [])
one-rises a i j d lt last = absurd (omega arith)

main-of : (p : Parts) (kinds : List Kind) → has_main kinds ≡ true → slice_get (map (parameter_cells p) kinds) 0 ≡ Some 0
main-of p [] h = cc
main-of p (k ∷ rest) h =
    let none : k.parameters ≡ 0 = eqb-true k.parameters 0 h in
    ap (λ n. Some (cells_all p (take n k.variables))) none

types-take : (ts : List DataType) (k : ℕ) → list_all is_straight_type ts ≡ true → list_all is_straight_type (take k ts) ≡ true
types-take [] zero h = refl
types-take [] (suc k) h = refl
types-take (t ∷ ts) zero h = refl
types-take (t ∷ ts) (suc k) h = ap (λ b. b && list_all is_straight_type (take k ts)) (and-left _ _ h) ∙ types-take ts k (and-right (is_straight_type t) _ h)

types-drop : (ts : List DataType) (k : ℕ) → list_all is_straight_type ts ≡ true → list_all is_straight_type (drop k ts) ≡ true
types-drop [] zero h = refl
types-drop [] (suc k) h = refl
types-drop (t ∷ ts) zero h = h
types-drop (t ∷ ts) (suc k) h = types-drop ts k (and-right (is_straight_type t) _ h)

module _ (p : Parts) (typed : is_typed_program p ≡ true) (straight : is_straight_program p ≡ true) where
  parts : is_typed_but_for_sites p ≡ true
  parts = and-left _ _ (and-left _ _ typed)

  -- the transaction and the site of an accept are there
  accept-known : (s : Surroundings) (site : ℕ) → is_accepted s (slice_get p.sites site) ≡ true
      → (is_some (slice_get (map (shape_of p) p.transactions) (transaction_at (slice_get p.sites site))) ≡ true) × (site < length p.sites)
  accept-known s site h = go (slice_get p.sites site) refl h
    where
      go : (o : Option Site) → slice_get p.sites site ≡ o → is_accepted s o ≡ true
          → (is_some (slice_get (map (shape_of p) p.transactions) (transaction_at o)) ≡ true) × (site < length p.sites)
      go None e h = cc
      go (Some found) e h =
          let sites = and-right (is_typed_but_for_sites p) _ (and-left _ _ typed) in
          let fine : is_typed_site p found ≡ true = passes-get (is_typed_site p) p.sites site found sites e in
          (of_kind-there p p.transactions found.transaction found.kind (and-right (is_process_type p found.kind) _ (and-left _ _ (and-left _ _ (and-left _ _ (and-left _ _ fine))))), below p.sites site found e)

  parameters-straight : (site : ℕ) → list_all is_straight_type (parameters_at (transaction_of p site)) ≡ true
  parameters-straight site = go (transaction_of p site) refl
    where
      go : (o : Option Transaction) → transaction_of p site ≡ o → list_all is_straight_type (parameters_at o) ≡ true
      go None e = refl
      go (Some t) e = transaction-parameters p (transaction_at (slice_get p.sites site)) t straight e

  module _ (call : Caller) where
    abbrev Ended_so : Flow → Type 0
    Ended_so flow = Unit {0}

    unless_left-safe : (flow : Flow) (q : Eval Scope Flow) (sc : Scope) (l : Left) → Ones sc → Safe p Ended_so (q sc l)
        → Safe p Ended_so (unless_left flow q sc l)
    unless_left-safe Ended q sc l s h = h
    unless_left-safe Broke q sc l s h = (s, tt)
    unless_left-safe Continued q sc l s h = (s, tt)
    unless_left-safe (Returned v) q sc l s h = (s, tt)
    unless_left-safe (Replied v) q sc l s h = (s, tt)
    unless_left-safe Finished q sc l s h = (s, tt)

    taken-ones : (site : ℕ) (g : Grant) (sc : Scope) → Ones sc → Ones (scope_taken p site g sc)
    taken-ones site g sc s =
        ones-set_from (first_at (slice_get p.sites site)) (unflats (layouts_of p.structures (parameters_at (transaction_of p site))) (args_taken g)) sc (unflats-ones p.structures (parameters_at (transaction_of p site)) (args_taken g) (parameters-straight site)) s

    select-servable : (site : ℕ) (sc : Scope)
        → (is_some (slice_get (map (shape_of p) p.transactions) (transaction_at (slice_get p.sites site))) ≡ true) × (site < length p.sites)
        → IsPerformable p (request.Select ((0, alternative_at p site sc) ∷ []))
    select-servable site sc known =
        (((λ e. cc), one-rises (0, alternative_at p site sc), All-cons (λ a. IsAlternativeOf (meaning p) a.1) (0, alternative_at p site sc) [] known.0 (All-nil (λ a. IsAlternativeOf (meaning p) a.1))), All-cons (λ a. IsAtSite (length p.sites) a.1) (0, alternative_at p site sc) [] known.1 (All-nil (λ a. IsAtSite (length p.sites) a.1)), tt)

    reply-safe : (cs : List ℤ) (sc : Scope) (l : Left) → Ones sc → Safe p (λ u. Unit {0}) (reply cs sc l)
    reply-safe cs sc l s =
        safe p (λ g. Unit {0}) (λ u. Unit {0}) (ask (request.Reply cs) sc l) _ (ask-safe p (request.Reply cs) sc l s (tt, tt, tt)) (λ g sc1 l1 s1 _. (s1, tt))

    accept-safe : (s : Surroundings) (site : ℕ) (block : Eval Scope Flow) (sc : Scope) (l : Left) → is_accepted s (slice_get p.sites site) ≡ true → Ones sc
        → ((sc : Scope) (l : Left) → Ones sc → Safe p Ended_so (block sc l)) → Safe p Ended_so (accepted p call site block sc l)
    accept-safe s site block sc l h single inner =
        let alts : List (ℕ × Alt) = (0, alternative_at p site sc) ∷ [] in
        safe p (λ g. Unit {0}) Ended_so (select alts sc l) _ (ask-safe p (request.Select alts) sc l single (select-servable site sc (accept-known s site h)))
        (λ g sc1 l1 s1 _. safe p Ended_so Ended_so (block (scope_taken p site g sc1) l1) _ (inner (scope_taken p site g sc1) l1 (taken-ones site g sc1 s1))
        (λ flow sc2 l2 s2 _. safe p (λ u. Unit {0}) Ended_so (reply (reply_cells p site flow) sc2 l2) _ (reply-safe (reply_cells p site flow) sc2 l2 s2) (λ u sc3 l3 s3 _. (s3, tt))))

    module _ (ts : List DataType) (kind : Option ℕ) (result : Option DataType) where
      abbrev around : Option DataType → Surroundings
      around replies = record { parts = p; variables = ts; kind = kind; result = result; replies = replies; may_break = false; may_continue = false }

      given-safe : (replies : Option DataType) (e : Option Expression) (t : DataType) (sc : Scope) (l : Left) → is_straight_option e ≡ true
          → is_straight_value t ≡ true → is_given (around replies) e t ≡ true → Ones sc → Safe p (λ v. Unit {0}) (given p call e t sc l)
      given-safe replies None t sc l se st h single = (single, tt)
      given-safe replies (Some e) t sc l se st h single =
          safe p (IsOf p (type_of e)) (λ v. Unit {0}) (eval p call e sc l) (λ v. converted_value (type_of e) t v)
          (eval-safe p call ts kind result replies e sc l se (and-left _ _ h) single)
          (λ v sc1 l1 s1 _. converted-any p (type_of e) t v sc1 l1 s1)

      mutual
        unfolding exec is_straight_statement is_typed_statement

        exec-safe : (replies : Option DataType) (a : Statement) (sc : Scope) (l : Left) → is_straight_statement a ≡ true
            → is_typed_statement (around replies) a ≡ true → Ones sc → Safe p Ended_so (exec p call a sc l)
        exec-safe replies Empty sc l s h single = (single, tt)
        exec-safe replies (Evaluate e) sc l s h single =
            safe p (IsOf p (type_of e)) Ended_so (eval p call e sc l) _ (eval-safe p call ts kind result replies e sc l s h single) (λ v sc1 l1 s1 _. (s1, tt))
        exec-safe replies (Declare x t) sc l s h single =
            (ones-set sc x (zero_in p t) single (subst (λ m. HasLayout m (zero_in p t)) (straight-one p.structures t s) (zero-has (layout_of p.structures t))), tt)
        exec-safe replies (Initialize x t e) sc l s h single = cc
        exec-safe replies (Block' _ all) sc l s h single = row-safe replies all sc l s h single
        exec-safe replies (branch c a) sc l s h single = cc
        exec-safe replies (branches c a b) sc l s h single = cc
        exec-safe replies (while_loop c a) sc l s h single = cc
        exec-safe replies (do_loop a c) sc l s h single = cc
        exec-safe replies (for_loop f c e a) sc l s h single = cc
        exec-safe replies Break sc l s h single = cc
        exec-safe replies Continue sc l s h single = cc
        exec-safe replies (Return e t) sc l s h single = cc
        exec-safe replies (Finish e) sc l s h single = cc
        exec-safe replies (TransactionReturn e t) sc l s h single =
            safe p (λ v. Unit {0}) Ended_so (given p call e t sc l) _ (given-safe replies e t sc l (and-left _ _ s) (and-right (is_straight_option e) _ s) (and-right (is_of_type replies t) _ h) single) (λ v sc1 l1 s1 _. (s1, tt))
        exec-safe replies (Delay e) sc l s h single = cc
        exec-safe replies (Accept' site _ block) sc l s h single =
            accept-safe (around replies) site (exec_row p call block) sc l (and-left _ _ h) single
            (λ sc1 l1 s1. row-safe _ block sc1 l1 s (and-right (is_accepted (around replies) (slice_get p.sites site)) _ h) s1)
        exec-safe replies (Select' _ all) sc l s h single = cc

        row-safe : {n : _} (replies : Option DataType) (row : Row_of-Statement n) (sc : Scope) (l : Left) → are_straight_statements row ≡ true
            → are_typed_statements (around replies) row ≡ true → Ones sc → Safe p Ended_so (exec_row p call row sc l)
        row-safe replies end_of-Statement sc l s h single = (single, tt)
        row-safe replies (more_of-Statement a rest) sc l s h single =
            safe p Ended_so Ended_so (exec p call a sc l) _ (exec-safe replies a sc l (and-left _ _ s) (and-left _ _ h) single)
            (λ flow sc1 l1 s1 _. unless_left-safe flow (exec_row p call rest) sc1 l1 s1 (row-safe replies rest sc1 l1 (and-right (is_straight_statement a) _ s) (and-right (is_typed_statement (around replies) a) _ h) s1))

      all-safe : (all : List Statement) (sc : Scope) (l : Left) → list_all is_straight_statement all ≡ true
          → list_all (is_typed_statement (around None)) all ≡ true → Ones sc → Safe p Ended_so (exec_all p call all sc l)
      all-safe [] sc l s h single = (single, tt)
      all-safe (a ∷ rest) sc l s h single =
          safe p Ended_so Ended_so (exec p call a sc l) _ (exec-safe None a sc l (and-left _ _ s) (and-left _ _ h) single)
          (λ flow sc1 l1 s1 _. unless_left-safe flow (exec_all p call rest) sc1 l1 s1 (all-safe rest sc1 l1 (and-right (is_straight_statement a) _ s) (and-right (is_typed_statement (around None) a) _ h) s1))

  kind-typed : (number : ℕ) (kinds : List Kind) (k : ℕ) (kind : Kind) → are_typed_kinds p number kinds ≡ true → slice_get kinds k ≡ Some kind
      → (j : ℕ) × (is_typed_kind p j kind ≡ true)
  kind-typed number [] zero kind h e = cc
  kind-typed number [] (suc k) kind h e = cc
  kind-typed number (x ∷ xs) zero kind h e = let same : x ≡ kind = cc in (number, subst (λ y. is_typed_kind p number y ≡ true) same (and-left _ _ h))
  kind-typed number (x ∷ xs) (suc k) kind h e = kind-typed (suc number) xs k kind (and-right (is_typed_kind p number x) _ h) e

  asked-known : {A : Type 0} (o : Outcome Scope A) (good : A → Type 0) → Safe p good o → IsPerformable p (asked_by request.Done o)
  asked-known (Through v sc l) good s = (tt, tt, tt)
  asked-known (Asked q) good s = s

  body-known : (o : Option Kind) (k : ℕ) → slice_get p.kinds k ≡ o → (args : List ℤ) (grants : List Grant)
      → IsPerformable p (asked_by request.Done (body p o args grants))
  body-known None k e args grants = (tt, tt, tt)
  body-known (Some kind) k e args grants = go (nat_lt most_cells (cells_all p kind.variables))
    where
      kinds : are_typed_kinds p 0 p.kinds ≡ true
      kinds = and-right (has_main p.kinds && has_few_parts p && are_typed_structures p) _ (and-left _ _ (and-left _ _ parts))

      go : (b : Bool)
          → IsPerformable p (asked_by request.Done (if b then Asked (request.Fault Cells) else exec_all p (call p most_calls (cells_all p kind.variables)) kind.body (variables_at_start p kind args) (left_at_start grants)))
      go true = (tt, tt, tt)
      go false =
          let j = kind-typed 0 p.kinds k kind kinds e in
          let vs = kind-variables p k kind straight e in
          asked-known (exec_all p (call p most_calls (cells_all p kind.variables)) kind.body (variables_at_start p kind args) (left_at_start grants)) (λ flow. Unit {0}) (all-safe (call p most_calls (cells_all p kind.variables)) kind.variables (Some j.0) (Some kind.result) kind.body (variables_at_start p kind args) (left_at_start grants) (kind-body p k kind straight e) (and-right (are_variables p kind.parameters kind.variables && (is_void kind.result || nat_eq j.0 0 && is_whole p kind.result)) _ j.1)
          (ones-append (unflats (layouts_of p.structures (take kind.parameters kind.variables)) args) _ (unflats-ones p.structures (take kind.parameters kind.variables) args (types-take kind.variables kind.parameters vs)) (zeros-ones p (drop kind.parameters kind.variables) (types-drop kind.variables kind.parameters vs))))

  asks-known : (kind : ℕ) (args : List ℤ) (grants : List Grant) → IsPerformable p (act p kind args grants)
  unfolding act
  asks-known kind args grants = body-known (slice_get p.kinds kind) kind refl args grants

  fits-sites : (site : ℕ) (env args : List ℤ) → length p.sites ≤ site → fit p site env args ≡ None
  unfolding fit
  fits-sites site env args past = ap (λ o. site_rank p o env args) (past-end p.sites site past)
    where
      past-end : (xs : List Site) (k : ℕ) → length xs ≤ k → slice_get xs k ≡ None
      past-end [] zero h = refl
      past-end [] (suc k) h = refl
      past-end (x ∷ xs) zero h = absurd (omega arith)
      past-end (x ∷ xs) (suc k) h = past-end xs k (omega arith)

  pub keeps-form : WellFormed (meaning p)
  keeps-form =
      record { main = main-of p p.kinds (and-left _ _ (and-left _ _ (and-left _ _ (and-left _ _ (and-left _ _ parts))))); requests = λ kind args grants exists proper. (asks-known kind args grants).0 }

  pub keeps-supported : AsksSupported (meaning p)
  keeps-supported kind args grants exists proper = (asks-known kind args grants).2

  pub keeps-sites : HasSites (meaning p) (length p.sites)
  keeps-sites = record { names = λ kind args grants exists proper. (asks-known kind args grants).1; fits = fits-sites }
