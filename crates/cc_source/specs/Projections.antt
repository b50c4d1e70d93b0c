-- What a straight program has for its parts.
use Rattle.std.proofs.Common.{◌≡◌, ℕ, arith, ◌<◌, zero, suc, Bool, true, ◌&&◌, List, [], ◌∷◌, length, map, get_or, Some, None, ap, sym, ◌∙◌}
use Rattle.std.specs.List.{list_all}
use Rattle.std.specs.Prelude.{slice_get}
use Rattle.cc_source.specs.Known.{and-left, and-right}
use Rattle.cc_source.specs.Safe.{type-straight}
use Rattle.cc_base.specs.Grants.{HasKind}
use Rattle.cc_typed.specs.Parts.{Parts}
use Rattle.cc_source.specs.Programs.{meaning, parameter_cells}
use Rattle.cc_source.specs.Straight.{is_straight, is_straight_argument, is_straight_kind, is_straight_program, is_straight_site, is_straight_statement, is_straight_transaction, is_straight_type, is_straight_value}
use Rattle.cc_typed.specs.declared.tree.Argument.{Argument}
use Rattle.cc_typed.specs.declared.tree.Kind.{Kind}
use Rattle.cc_typed.specs.declared.tree.Site.{Site}
use Rattle.cc_typed.specs.declared.tree.Statement.{Statement}
use Rattle.cc_typed.specs.declared.tree.Transaction.{Transaction}

pub passes-at : {X : Type 0} (test : X → Bool) (xs : List X) (k : ℕ) (d : X) → list_all test xs ≡ true → k < length xs → test (get_or xs k d) ≡ true
passes-at test [] k d h lt = absurd (omega arith)
passes-at test (x ∷ xs) zero d h lt = and-left _ _ h
passes-at test (x ∷ xs) (suc k) d h lt = passes-at test xs k d (and-right (test x) _ h) (omega arith)

pub passes-get : {X : Type 0} (test : X → Bool) (xs : List X) (k : ℕ) (x : X) → list_all test xs ≡ true → slice_get xs k ≡ Some x → test x ≡ true
passes-get test [] k x h e = cc
passes-get test (y ∷ ys) zero x h e = let same : y ≡ x = cc in ap test (sym same) ∙ and-left _ _ h
passes-get test (y ∷ ys) (suc k) x h e = passes-get test ys k x (and-right _ _ h) e

kinds-straight : (p : Parts) → is_straight_program p ≡ true → list_all is_straight_kind p.kinds ≡ true
kinds-straight p h = and-left _ _ (and-left _ _ (and-left _ _ h))

transactions-straight : (p : Parts) → is_straight_program p ≡ true → list_all is_straight_transaction p.transactions ≡ true
transactions-straight p h = and-right (list_all is_straight_kind p.kinds) _ (and-left _ _ (and-left _ _ h))

sites-straight : (p : Parts) → is_straight_program p ≡ true → list_all is_straight_site p.sites ≡ true
sites-straight p h = and-right (list_all is_straight_kind p.kinds && list_all is_straight_transaction p.transactions) _ (and-left _ _ h)

pub transaction-parameters : (p : Parts) (k : ℕ) (t : Transaction) → is_straight_program p ≡ true → slice_get p.transactions k ≡ Some t
    → list_all is_straight_type t.parameters ≡ true
transaction-parameters p k t h e = and-left _ _ (passes-get is_straight_transaction p.transactions k t (transactions-straight p h) e)

pub transaction-value : (p : Parts) (k : ℕ) (t : Transaction) → is_straight_program p ≡ true → slice_get p.transactions k ≡ Some t
    → is_straight_value t.value ≡ true
transaction-value p k t h e =
    and-right (list_all is_straight_type t.parameters) _ (passes-get is_straight_transaction p.transactions k t (transactions-straight p h) e)

pub kind-variables : (p : Parts) (k : ℕ) (kind : Kind) → is_straight_program p ≡ true → slice_get p.kinds k ≡ Some kind
    → list_all is_straight_type kind.variables ≡ true
kind-variables p k kind h e = and-left _ _ (and-left _ _ (passes-get is_straight_kind p.kinds k kind (kinds-straight p h) e))

pub kind-body : (p : Parts) (k : ℕ) (kind : Kind) → is_straight_program p ≡ true → slice_get p.kinds k ≡ Some kind
    → list_all is_straight_statement kind.body ≡ true
kind-body p k kind h e =
    and-right (list_all is_straight_type kind.variables && is_straight_value kind.result) _ (passes-get is_straight_kind p.kinds k kind (kinds-straight p h) e)

pub site-straight : (p : Parts) (k : ℕ) (s : Site) → is_straight_program p ≡ true → slice_get p.sites k ≡ Some s → is_straight_site s ≡ true
site-straight p k s h e = passes-get is_straight_site p.sites k s (sites-straight p h) e

kind-there : (p : Parts) (kinds : List Kind) (k n : ℕ) → slice_get (map (parameter_cells p) kinds) k ≡ Some n → slice_get kinds k ≡ None → ⊥
kind-there p [] k n e none = cc
kind-there p (x ∷ xs) zero n e none = cc
kind-there p (x ∷ xs) (suc k) n e none = kind-there p xs k n e none

pub kind-exists : (p : Parts) (k n : ℕ) → HasKind (meaning p) k n → slice_get p.kinds k ≡ None → ⊥
kind-exists p k n e none = kind-there p p.kinds k n e none

pub arguments-value : (args : List Argument) (k : ℕ) (d : Argument) → list_all is_straight_argument args ≡ true → k < length args
    → is_straight (get_or args k d).value ≡ true
arguments-value args k d h lt = and-left _ _ (passes-at is_straight_argument args k d h lt)

pub arguments-type : (args : List Argument) (k : ℕ) (d : Argument) → list_all is_straight_argument args ≡ true → k < length args
    → is_straight_value (get_or args k d).data_type ≡ true
arguments-type args k d h lt = type-straight _ (and-right (is_straight (get_or args k d).value) _ (passes-at is_straight_argument args k d h lt))

pub statements-at : (all : List Statement) (k : ℕ) (d : Statement) → list_all is_straight_statement all ≡ true → k < length all
    → is_straight_statement (get_or all k d) ≡ true
statements-at all k d h lt = passes-at is_straight_statement all k d h lt

pub ruleset straight_parts = (site-straight, kind-exists, transaction-parameters, transaction-value, kind-variables, kind-body)

pub ruleset straight_members = (arguments-value, arguments-type, statements-at)
