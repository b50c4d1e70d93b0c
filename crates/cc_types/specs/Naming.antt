-- Accepts, by the names that the code has: their transactions, their names, their clauses and their sites.
use Rattle.std.specs.Prelude.{ℕ, suc, List, [], ◌∷◌, length, Option, Some, None, Result, Ok, Err, slice_get}
use Rattle.std.specs.Result.{result_map_both}
use Rattle.cc_typed.specs.Clauses.{all_noted}
use Rattle.cc_typed.specs.declared.clauses.Own.{Own}
use Rattle.cc_typed.specs.declared.tree.Expression.{Expression}
use Rattle.cc_typed.specs.declared.tree.Site.{Site}
use Rattle.cc_typed.specs.declared.types.DataType.{DataType}
use Rattle.cc_faults.specs.Depths.{depth_of}
use Rattle.cc_faults.specs.Expressions.{expression, place_of}
use Rattle.cc_faults.specs.Faults.{noted}
use Rattle.cc_faults.specs.Judged.{Judged, Good, after_each, answer, answer_map, answer_pair, asked, both, each, faults, first, in_front, map, second}
use Rattle.cc_faults.specs.Rows.{fresh, not_deep, number, transaction_named, transactions_of}
use Rattle.cc_faults.specs.Scopes.{Scope, Text, declared, is_here, meaning_at}
use Rattle.cc_faults.specs.Statements.{accept_head, in_names, kind_of, kth, names_of_accept, parameter_types}
use Rattle.cc_faults.specs.declared.answer.Answer.{Answer}
use Rattle.cc_faults.specs.declared.fault.FaultAt.{FaultAt}
use Rattle.cc_faults.specs.declared.plain.AcceptHead.{AcceptHead}
use Rattle.cc_faults.specs.declared.plain.Clause.{Clause}
use Rattle.cc_faults.specs.declared.plain.ClauseWord.{ClauseWord}
use Rattle.cc_faults.specs.declared.plain.ClauseWord.TheVariants as word
use Rattle.cc_faults.specs.declared.plain.Identifier.{Identifier}
use Rattle.cc_faults.specs.declared.scope.Around.{Around}
use Rattle.cc_faults.specs.declared.scope.Found.{Found}
use Rattle.cc_faults.specs.declared.scope.Role.{Role}
use Rattle.cc_faults.specs.declared.scope.Role.TheVariants as role
use Rattle.cc_faults.specs.declared.scope.Signature.{Signature}
use Rattle.cc_faults.specs.declared.scope.TransactionHead.{TransactionHead}
use Rattle.cc_types.specs.declared.sites.Parted.{Parted}

-- ---- the transaction: it is looked for where the kind of the process body is known
unfoldable pub transaction_in_body : Text → Role → Identifier → Option TransactionHead
transaction_in_body t (role.Body (Ok k)) x = transaction_named (transactions_of (slice_get t.kinds k)) x.name
transaction_in_body t (role.Body (Err f)) x = None
transaction_in_body t (role.Function u) x = None
transaction_in_body t (role.Main u) x = None

-- what a site needs to know of it
abbrev pub Accepted : Type 0
Accepted = (TransactionHead × Signature) × List (Unit {0})

abbrev pub number_and_count : TransactionHead × Signature → ℕ × ℕ
number_and_count h = (h.0.number, length h.1.parameters)

abbrev pub in_site : Accepted → ℕ × ℕ
in_site v = number_and_count v.0

unfoldable pub accepted_judged : Text → Around → Scope → AcceptHead → Judged Accepted
accepted_judged t w s a =
    both (accept_head t w a) (names_of_accept (suc w.scope) (map parameter_types (accept_head t w a)) 0 s a.names)

unfoldable pub behind_names : Text → Around → Scope → AcceptHead → Scope
behind_names t w s a = in_names t w s a

-- ---- its names, from the k-th on, by what is known of the types
abbrev pub type_of_name : Result (List DataType) FaultAt → ℕ → Result DataType FaultAt
type_of_name ts k = result_map_both (kth k) (λ (f : FaultAt). f) ts

unfoldable pub after_naming : ℕ → Result (List DataType) FaultAt → ℕ → Scope → List Identifier → Scope
after_naming scope ts k s [] = s
after_naming scope ts k s (x ∷ xs) = after_naming scope ts (suc k) (declared scope s x (type_of_name ts k)) xs

unfoldable pub naming : ℕ → Result (List DataType) FaultAt → ℕ → Scope → List Identifier → Judged (List (Unit {0}))
naming scope ts k s [] = Good []
naming scope ts k s (x ∷ xs) =
    map in_front (both (fresh (is_here scope (meaning_at s x)) x) (naming scope ts (suc k) (declared scope s x (type_of_name ts k)) xs))

-- one name more: how many there were, what is visible, whether all were fresh, and the first fault
abbrev pub Naming : Type 0
Naming = ℕ × Scope × Answer (Unit {0}) × Option FaultAt

abbrev pub one_named : ℕ → Result (List DataType) FaultAt → Naming → Identifier → Naming
one_named scope ts v x =
    (suc v.0, declared scope v.1 x (type_of_name ts v.0), answer_map second (answer_pair v.2 (answer (fresh (is_here scope (meaning_at v.1 x)) x))), noted v.3 (faults (fresh (is_here scope (meaning_at v.1 x)) x)))

-- ---- its clauses, where these stand
abbrev pub too_deep : Clause → Judged (Unit {0})
too_deep c = not_deep (place_of c.expression) (depth_of c.expression)

unfoldable pub clause_within : Text → Around → Scope → Clause → Judged (ClauseWord × Expression)
clause_within t w s c =
    map (λ (e : Expression). (c.word, e))
    (asked (expression t s w c.expression) (λ (v : Found). map first (both (number (place_of c.expression) v) (too_deep c))) (too_deep c))

abbrev pub clauses_within : Text → Around → Scope → List Clause → Judged (List (ClauseWord × Expression))
clauses_within t w s cs = each (clause_within t w s) cs

-- ---- its site
abbrev pub clause_noted : Own → List ℕ → ClauseWord × Expression → List ℕ
clause_noted own seen c = all_noted own seen c.1

abbrev pub with_clause : Parted → ClauseWord → Expression → Parted
with_clause p word.SuchThat e = record p { such_that = Some e }
with_clause p word.By e = record p { least_by = Some e }

-- clauses behind which these stand
unfoldable pub parted_before : List (ClauseWord × Expression) → Parted → Parted
parted_before [] p = p
parted_before (c ∷ rest) p = with_clause (parted_before rest p) c.0 c.1

abbrev pub parted : List (ClauseWord × Expression) → Parted
parted cs = parted_before cs (record { such_that = None; least_by = None })

abbrev pub site_with : Role → ℕ → (ℕ × ℕ) × List (ClauseWord × Expression) → Site
site_with r first v =
    record {
      kind = kind_of r;
      transaction = v.0.0;
      first = first;
      environment = after_each (clause_noted (record { first = first; count = v.0.1 })) [] v.1;
      such_that = (parted v.1).such_that;
      least_by = (parted v.1).least_by;
    }
