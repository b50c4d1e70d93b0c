-- Accepts: their heads, and what is visible after their names.
use Rattle.std.proofs.Common.{◌≡◌, ℕ, zero, suc, ◌+◌, ◌<◌, Bool, true, false, not, List, [], ◌∷◌, ◌++◌, length, drop, Option, Some, None, Result, Ok, Err, refl, ap, sym, subst, ◌∙◌, append_assoc, append-nil, arith}
use Rattle.std.proofs.lemmas.Bool.{eqb-true}
use Rattle.std.proofs.lemmas.List.{drop_all}
use Rattle.std.proofs.lemmas.Option.{slice_get-get_or}
use Rattle.std.specs.List.{list_all}
use Rattle.std.specs.Prelude.{if◌then◌else◌, nat_eq, slice_get}
use Rattle.cc_base.specs.declared.names.Place.{Place}
use Rattle.cc_typed.proofs.Tables.{left, right}
use Rattle.cc_typed.specs.KnownTypes.{is_known, is_whole}
use Rattle.cc_typed.specs.Parts.{Parts}
use Rattle.cc_typed.specs.Sequences.{drop-at}
use Rattle.cc_typed.specs.Types.{Int}
use Rattle.cc_typed.specs.declared.types.DataType.{DataType}
use Rattle.cc_faults.proofs.Holds.{Holds, holds-both, holds-checked, holds-map, holds-weaker}
use Rattle.cc_faults.specs.Expressions.{transaction_at, with_signature}
use Rattle.cc_faults.specs.Judged.{Judged, Good, checked, in_front, known, map, outcome}
use Rattle.cc_faults.specs.Rows.{as_many, has_transaction, in_body, transaction_named, transactions_of, type_or_void}
use Rattle.cc_faults.specs.Scopes.{Scope, Text, declared, is_here, meaning_at, with_variable}
use Rattle.cc_faults.specs.Statements.{accept_head, accepted, after_names, kth, names_of_accept, transaction_accepted}
use Rattle.cc_faults.specs.declared.fault.FaultAt.{FaultAt}
use Rattle.cc_faults.specs.declared.fault.TypeKind.TheVariants as kind
use Rattle.cc_faults.specs.declared.plain.AcceptHead.{AcceptHead}
use Rattle.cc_faults.specs.declared.plain.Identifier.{Identifier}
use Rattle.cc_faults.specs.declared.scope.Around.{Around}
use Rattle.cc_faults.specs.declared.scope.Role.{Role}
use Rattle.cc_faults.specs.declared.scope.Role.TheVariants as role
use Rattle.cc_faults.specs.declared.scope.Signature.{Signature}
use Rattle.cc_faults.specs.declared.scope.TransactionHead.{TransactionHead}
use Rattle.cc_sound.proofs.Rows.{holds-found, holds-unless}

pub holds-at : {A : Type 0} (P : A → Type 0) (j : Judged A) (v : A) → Holds P j → j ≡ Good v → P v
holds-at P j v h e = subst (Holds P) e h

-- ---- the transaction that is accepted

role-kind : (r : Role) (p : Place) → Holds (λ k. r ≡ role.Body (Ok k)) (checked (in_body r p) known)
unfolding checked
role-kind (role.Function u) p = tt
role-kind (role.Main u) p = tt
role-kind (role.Body (Ok k)) p = refl
role-kind (role.Body (Err f)) p = tt

module _ (t : Text) where
  abbrev pub IsTransaction : Role → Identifier → TransactionHead → Type 0
  IsTransaction r x h =
      (k : ℕ) × (r ≡ role.Body (Ok k)) × (transaction_named (transactions_of (slice_get t.kinds k)) x.name ≡ Some h)

  transaction-there : (k : ℕ) (x : Identifier) (o : Option TransactionHead) → Holds (λ h. o ≡ Some h) (has_transaction x o)
  transaction-there k x None = tt
  transaction-there k x (Some h) = refl

  pub transaction-accepted : (w : Around) (a : AcceptHead) → Holds (IsTransaction w.role a.name) (transaction_accepted t w a)
  transaction-accepted w a =
      holds-checked (λ k. w.role ≡ role.Body (Ok k)) (IsTransaction w.role a.name) (checked (in_body w.role a.place) known) (λ (k : ℕ). transaction_at t k a.name) (role-kind w.role a.place)
      (λ k e. holds-weaker _ (IsTransaction w.role a.name) (λ h f. (k, e, f)) (transaction_at t k a.name) (transaction-there k a.name (transaction_named (transactions_of (slice_get t.kinds k)) a.name.name)))

  -- a transaction of the body's kind, with its types
  abbrev pub IsAccepted : Around → AcceptHead → TransactionHead × Signature → Type 0
  IsAccepted w a h =
      IsTransaction w.role a.name h.0 × (h.0.signature ≡ Ok h.1) × (transaction_accepted t w a ≡ Good h.0)

  signed : (P : TransactionHead → Type 0) (h : TransactionHead) (r : Result Signature FaultAt) → h.signature ≡ r → P h → Holds (λ g. P g.0 × (g.0.signature ≡ Ok g.1)) (with_signature h (Some r))
  unfolding map
  signed P h (Ok g) e i = (i, e)
  signed P h (Err f) e i = tt

  accepted-typed : (w : Around) (a : AcceptHead) → Holds (IsAccepted w a) (accepted t w a)
  accepted-typed w a =
      holds-weaker (λ g. (IsTransaction w.role a.name g.0 × (transaction_accepted t w a ≡ Good g.0)) × (g.0.signature ≡ Ok g.1)) (IsAccepted w a) (λ g i. (i.0.0, i.1, i.0.1)) (accepted t w a)
      (holds-checked (λ h. IsTransaction w.role a.name h × (transaction_accepted t w a ≡ Good h)) _ (transaction_accepted t w a) (λ (h : TransactionHead). with_signature h (Some h.signature))
      (holds-found (IsTransaction w.role a.name) (transaction_accepted t w a) (transaction-accepted w a))
      (λ h i. signed (λ g. IsTransaction w.role a.name g × (transaction_accepted t w a ≡ Good g)) h h.signature refl i))

  -- as many names as parameters
  abbrev pub IsAcceptHead : Around → AcceptHead → TransactionHead × Signature → Type 0
  IsAcceptHead w a h = IsAccepted w a h × (length a.names ≡ length h.1.parameters)

  pub accept_head-typed : (w : Around) (a : AcceptHead) → Holds (IsAcceptHead w a) (accept_head t w a)
  accept_head-typed w a =
      holds-checked (IsAccepted w a) (IsAcceptHead w a) (accepted t w a) (λ (h : TransactionHead × Signature). as_many a.name.place (length a.names) (length h.1.parameters) h) (accepted-typed w a)
      (λ h i. holds-unless (IsAcceptHead w a) (nat_eq (length a.names) (length h.1.parameters)) a.name.place kind.Arity h (λ e. (i, eqb-true (length a.names) (length h.1.parameters) e)))

-- ---- names

pub known-kth : (p : Parts) (us : List DataType) → list_all (is_whole p) us ≡ true → (k : ℕ) → k < length us → is_known p (kth k us) ≡ true
known-kth p [] h k lt = absurd (omega (arith, lt))
known-kth p (u ∷ us) h zero lt = left (is_known p u) _ (left (is_whole p u) _ h)
known-kth p (u ∷ us) h (suc k) lt = known-kth p us (right (is_whole p u) _ h) k (omega (arith, lt))

pub declared-sites : (n : ℕ) (s : Scope) (x : Identifier) (o : Result DataType FaultAt) → (declared n s x o).sites ≡ s.sites
declared-sites n s x o = cases (is_here n (meaning_at s x)) o
  where
    cases : (b : Bool) (r : Result DataType FaultAt) → (if b then s else with_variable n s x r).sites ≡ s.sites
    cases true r = refl
    cases false (Ok u) = refl
    cases false (Err f) = refl

pub declared-variables : (n : ℕ) (s : Scope) (x : Identifier) (o : Result DataType FaultAt) (u : DataType) → is_here n (meaning_at s x) ≡ false → o ≡ Ok u → (declared n s x o).variables ≡ s.variables ++ u ∷ []
declared-variables n s x o u e f =
    ap (λ b. (if b then s else with_variable n s x o).variables) e ∙ ap (λ r. (with_variable n s x r).variables) f

pub names-sites : (n : ℕ) (ts : Judged (List DataType)) (k : ℕ) (s : Scope) (xs : List Identifier) → (after_names n ts k s xs).sites ≡ s.sites
names-sites n ts k s [] = refl
names-sites n ts k s (x ∷ xs) = names-sites n ts (suc k) (declared n s x (outcome (map (kth k) ts))) xs ∙ declared-sites n s x (outcome (map (kth k) ts))

pub kth-drop : (us : List DataType) (k : ℕ) → k < length us → drop k us ≡ kth k us ∷ drop (suc k) us
kth-drop us k lt =
    let next : k + 1 ≡ suc k = omega arith in
    drop-at us k Int lt ∙ ap (λ u. u ∷ drop (k + 1) us) (sym (ap type_or_void (slice_get-get_or us k Int lt))) ∙ ap (λ n. kth k us ∷ drop n us) next

pub kth-outcome : (us : List DataType) (k : ℕ) → outcome (map (kth k) (Good us)) ≡ Ok (kth k us)
unfolding map
kth-outcome us k = refl

-- where names are declared once, each is a variable of its parameter's type
pub names-add : (n : ℕ) (ts : Judged (List DataType)) (us : List DataType) → ts ≡ Good us → (k : ℕ) (s : Scope) (xs : List Identifier) → k + length xs ≡ length us
    → Holds (λ v. (after_names n ts k s xs).variables ≡ s.variables ++ drop k us) (names_of_accept n ts k s xs)
names-add n ts us same k s [] e =
    sym (append-nil s.variables) ∙ ap (λ l. s.variables ++ l) (sym (drop_all k us (omega (arith, e))))
names-add n ts us same k s (x ∷ xs) e =
    holds-map _ in_front _
    (holds-weaker (λ v. (is_here n (meaning_at s x) ≡ false) × ((after_names n ts (suc k) next xs).variables ≡ next.variables ++ drop (suc k) us)) _ together _
    (holds-both (λ v. is_here n (meaning_at s x) ≡ false) _ _ _ (holds-unless (λ v. is_here n (meaning_at s x) ≡ false) (not (is_here n (meaning_at s x))) x.place kind.Duplicate tt (not-true (is_here n (meaning_at s x)))) (names-add n ts us same (suc k) next xs (omega (arith, e)))))
  where
    next : Scope
    next = declared n s x (outcome (map (kth k) ts))

    not-true : (b : Bool) → not b ≡ true → b ≡ false
    not-true true f = cc
    not-true false f = refl

    together : (v : Unit {0} × List (Unit {0})) → (is_here n (meaning_at s x) ≡ false) × ((after_names n ts (suc k) next xs).variables ≡ next.variables ++ drop (suc k) us) → (after_names n ts k s (x ∷ xs)).variables ≡ s.variables ++ drop k us
    together v h =
        h.1 ∙ ap (λ l. l ++ drop (suc k) us) (declared-variables n s x (outcome (map (kth k) ts)) (kth k us) h.0 (ap (λ j. outcome (map (kth k) j)) same ∙ kth-outcome us k))
        ∙ append_assoc s.variables (kth k us ∷ []) (drop (suc k) us)
        ∙ ap (λ l. s.variables ++ l) (sym (kth-drop us k (omega (arith, e))))
