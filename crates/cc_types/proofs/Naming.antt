-- Accepts up to their blocks.
use Rattle.std.proofs.Common.{◌≡◌, ℕ, suc, List, [], ◌∷◌, length, Option, Some, None, Result, Ok, Err, refl, ap, sym, ◌∙◌}
use Rattle.std.specs.Prelude.{slice_get}
use Rattle.cc_base.specs.declared.names.Place.{Place}
use Rattle.cc_typed.specs.declared.tree.Expression.{Expression}
use Rattle.cc_typed.specs.declared.types.DataType.{DataType}
use Rattle.cc_faults.proofs.Judged.{answer-both, answer-map, faults-map, laws, lists, noted-both}
use Rattle.cc_faults.specs.Expressions.{expression, place_of, with_signature}
use Rattle.cc_faults.specs.Faults.{noted}
use Rattle.cc_faults.specs.Judged.{Judged, Good, Bad, after_each, answer, answer_map, answer_pair, asked, both, checked, faults, first, found, good_of, in_front, known, map, mapped, outcome, second}
use Rattle.cc_faults.specs.Rows.{as_many, fresh, in_body, number, transaction_named, transactions_of}
use Rattle.cc_faults.specs.Scopes.{Scope, Text, declared, in_accept, in_clause, is_here, meaning_at}
use Rattle.cc_faults.specs.Statements.{accept_head, accepted, after_names, kth, names_of_accept, parameter_types, site_of, transaction_accepted, value_back_of, with_site}
use Rattle.cc_faults.specs.declared.answer.Answer.{Answer}
use Rattle.cc_faults.specs.declared.answer.Answer.TheVariants as an
use Rattle.cc_faults.specs.declared.fault.FaultAt.{FaultAt}
use Rattle.cc_faults.specs.declared.plain.AcceptHead.{AcceptHead}
use Rattle.cc_faults.specs.declared.plain.Clause.{Clause}
use Rattle.cc_faults.specs.declared.plain.ClauseWord.{ClauseWord}
use Rattle.cc_faults.specs.declared.plain.Identifier.{Identifier}
use Rattle.cc_faults.specs.declared.scope.Around.{Around}
use Rattle.cc_faults.specs.declared.scope.Found.{Found}
use Rattle.cc_faults.specs.declared.scope.Reply.TheVariants as reply
use Rattle.cc_faults.specs.declared.scope.Role.{Role}
use Rattle.cc_faults.specs.declared.scope.Role.TheVariants as role
use Rattle.cc_faults.specs.declared.scope.Signature.{Signature}
use Rattle.cc_faults.specs.declared.scope.TransactionHead.{TransactionHead}
use Rattle.cc_rows.specs.Accepts as rows
use Rattle.cc_types.proofs.Clauses.{site-is}
use Rattle.cc_types.specs.Judging.{head_judged, nothing, round_block, within_block}
use Rattle.cc_types.specs.Naming.{Accepted, Naming, accepted_judged, after_naming, behind_names, clause_within, clauses_within, in_site, naming, number_and_count, one_named, site_with, too_deep, transaction_in_body, type_of_name}

-- ---- the transaction
module _ (t : Text) (x : Identifier) where
  pub body-Ok : (k : ℕ) → transaction_in_body t (role.Body (Ok k)) x ≡ transaction_named (transactions_of (slice_get t.kinds k)) x.name
  unfolding transaction_in_body
  body-Ok k = refl

  pub body-Err : (f : FaultAt) → transaction_in_body t (role.Body (Err f)) x ≡ None
  unfolding transaction_in_body
  body-Err f = refl

  pub body-Function : (u : Result DataType FaultAt) → transaction_in_body t (role.Function u) x ≡ None
  unfolding transaction_in_body
  body-Function u = refl

  pub body-Main : (u : Result DataType FaultAt) → transaction_in_body t (role.Main u) x ≡ None
  unfolding transaction_in_body
  body-Main u = refl

pub ruleset bodies = (body-Ok, body-Err, body-Function, body-Main)

accepted-is : (t : Text) (r : Role) (p : Place) (x : Identifier) → checked (checked (in_body r p) known) (λ (k : ℕ). rows.transaction_accepted (role.Body (Ok k)) p x (transaction_in_body t (role.Body (Ok k)) x)) ≡ rows.transaction_accepted r p x (transaction_in_body t r x)
unfolding checked transaction_in_body
accepted-is t (role.Body (Ok k)) p x = refl
accepted-is t (role.Body (Err f)) p x = refl
accepted-is t (role.Function u) p x = refl
accepted-is t (role.Main u) p x = refl

transaction-is : (t : Text) (w : Around) (a : AcceptHead) → transaction_accepted t w a ≡ rows.transaction_accepted w.role a.place a.name (transaction_in_body t w.role a.name)
unfolding checked transaction_in_body
transaction-is t w a = accepted-is t w.role a.place a.name

checked-checked : {A B C : Type 0} (j : Judged A) (f : A → Judged B) (g : B → Judged C) → checked (checked j f) g ≡ checked j (λ (v : A). checked (f v) g)
unfolding checked
checked-checked (Good v) f g = refl
checked-checked (Bad own e es) f g = refl

head-is : (t : Text) (w : Around) (a : AcceptHead) → accept_head t w a ≡ rows.accepted w.role a.place a.name (transaction_in_body t w.role a.name) (length a.names)
head-is t w a =
    checked-checked (transaction_accepted t w a) (λ (h : TransactionHead). with_signature h (Some h.signature)) (λ (h : TransactionHead × Signature). as_many a.name.place (length a.names) (length h.1.parameters) h)
    ∙ ap (λ j. checked j (rows.counted a.name.place (length a.names))) (transaction-is t w a)

-- ---- names
module _ (scope : ℕ) where
  type-is : (ts : Judged (List DataType)) (k : ℕ) → outcome (map (kth k) ts) ≡ type_of_name (outcome ts) k
  unfolding map
  type-is (Good us) k = refl
  type-is (Bad own f fs) k = refl

  after-is : (ts : Judged (List DataType)) (k : ℕ) (s : Scope) (xs : List Identifier) → after_names scope ts k s xs ≡ after_naming scope (outcome ts) k s xs
  unfolding after_naming
  after-is ts k s [] = refl
  after-is ts k s (x ∷ xs) =
      ap (λ u. after_names scope ts (suc k) (declared scope s x u) xs) (type-is ts k)
      ∙ after-is ts (suc k) (declared scope s x (type_of_name (outcome ts) k)) xs

  naming-is : (ts : Judged (List DataType)) (k : ℕ) (s : Scope) (xs : List Identifier) → names_of_accept scope ts k s xs ≡ naming scope (outcome ts) k s xs
  unfolding naming
  naming-is ts k s [] = refl
  naming-is ts k s (x ∷ xs) =
      ap (λ u. map in_front (both (fresh (is_here scope (meaning_at s x)) x) (names_of_accept scope ts (suc k) (declared scope s x u) xs))) (type-is ts k)
      ∙ ap (λ j. map in_front (both (fresh (is_here scope (meaning_at s x)) x) j)) (naming-is ts (suc k) (declared scope s x (type_of_name (outcome ts) k)) xs)

-- the loop: whether all are fresh
abbrev kept : Answer (Unit {0}) → Answer (Unit {0}) → Answer (Unit {0})
kept a b = answer_map second (answer_pair a b)

kept-kept : (a b c : Answer (Unit {0})) → kept (kept a b) c ≡ kept a (kept b c)
kept-kept an.Faulty b c = refl
kept-kept an.Typeless an.Faulty c = refl
kept-kept an.Typeless an.Typeless an.Faulty = refl
kept-kept an.Typeless an.Typeless an.Typeless = refl
kept-kept an.Typeless an.Typeless (an.Good v) = refl
kept-kept an.Typeless (an.Good v) an.Faulty = refl
kept-kept an.Typeless (an.Good v) an.Typeless = refl
kept-kept an.Typeless (an.Good v) (an.Good u) = refl
kept-kept (an.Good v) an.Faulty c = refl
kept-kept (an.Good v) an.Typeless an.Faulty = refl
kept-kept (an.Good v) an.Typeless an.Typeless = refl
kept-kept (an.Good v) an.Typeless (an.Good u) = refl
kept-kept (an.Good v) (an.Good u) an.Faulty = refl
kept-kept (an.Good v) (an.Good u) an.Typeless = refl
kept-kept (an.Good v) (an.Good u) (an.Good x) = refl

kept-nothing : (a : Answer (Unit {0})) → kept a (an.Good tt) ≡ a
kept-nothing an.Faulty = refl
kept-nothing an.Typeless = refl
kept-nothing (an.Good v) = refl

kept-first : (a : Answer (Unit {0})) → kept (an.Good tt) a ≡ a
kept-first an.Faulty = refl
kept-first an.Typeless = refl
kept-first (an.Good v) = refl

front-nothing : (a : Answer (Unit {0})) (b : Answer (List (Unit {0}))) → answer_map nothing (answer_map in_front (answer_pair a b)) ≡ kept a (answer_map nothing b)
front-nothing an.Faulty b = refl
front-nothing an.Typeless an.Faulty = refl
front-nothing an.Typeless an.Typeless = refl
front-nothing an.Typeless (an.Good v) = refl
front-nothing (an.Good u) an.Faulty = refl
front-nothing (an.Good u) an.Typeless = refl
front-nothing (an.Good u) (an.Good v) = refl

module _ (scope : ℕ) (ts : Result (List DataType) FaultAt) where
  -- what the loop knows behind names
  abbrev behind : ℕ → Scope → Answer (Unit {0}) → Option FaultAt → List Identifier → Naming
  behind k s a m xs =
      ((after_each (one_named scope ts) (k, s, a, m) xs).0, after_naming scope ts k s xs, kept a (answer_map nothing (answer (naming scope ts k s xs))), noted m (faults (naming scope ts k s xs)))

  abbrev here : Scope → Identifier → Judged (Unit {0})
  here s x = fresh (is_here scope (meaning_at s x)) x

  abbrev next : ℕ → Scope → Identifier → Scope
  next k s x = declared scope s x (type_of_name ts k)

  answer-more : (k : ℕ) (s : Scope) (a : Answer (Unit {0})) (x : Identifier) (xs : List Identifier) → kept (kept a (answer (here s x))) (answer_map nothing (answer (naming scope ts (suc k) (next k s x) xs))) ≡ kept a (answer_map nothing (answer (naming scope ts k s (x ∷ xs))))
  unfolding naming
  answer-more k s a x xs =
      kept-kept a (answer (here s x)) (answer_map nothing (answer (naming scope ts (suc k) (next k s x) xs)))
      ∙ ap (kept a)
      (sym (front-nothing (answer (here s x)) (answer (naming scope ts (suc k) (next k s x) xs)))
      ∙ ap (λ b. answer_map nothing (answer_map in_front b)) (sym (answer-both (here s x) (naming scope ts (suc k) (next k s x) xs)))
      ∙ ap (answer_map nothing) (sym (answer-map in_front (both (here s x) (naming scope ts (suc k) (next k s x) xs)))))

  noted-more : (k : ℕ) (s : Scope) (m : Option FaultAt) (x : Identifier) (xs : List Identifier) → noted m (faults (naming scope ts k s (x ∷ xs))) ≡ noted (noted m (faults (here s x))) (faults (naming scope ts (suc k) (next k s x) xs))
  unfolding naming
  noted-more k s m x xs =
      ap (noted m) (faults-map in_front (both (here s x) (naming scope ts (suc k) (next k s x) xs)))
      ∙ noted-both m (here s x) (naming scope ts (suc k) (next k s x) xs)

  pub loop-is : (k : ℕ) (s : Scope) (a : Answer (Unit {0})) (m : Option FaultAt) (xs : List Identifier) → after_each (one_named scope ts) (k, s, a, m) xs ≡ behind k s a m xs
  unfolding after_each after_naming naming answer faults noted
  loop-is k s a m [] = ap (λ b. (k, s, b, m)) (sym (kept-nothing a))
  loop-is k s a m (x ∷ xs) =
      loop-is (suc k) (next k s x) (kept a (answer (here s x))) (noted m (faults (here s x))) xs
      ∙ ap (λ b. ((after_each (one_named scope ts) (k, s, a, m) (x ∷ xs)).0, after_naming scope ts k s (x ∷ xs), b, noted (noted m (faults (here s x))) (faults (naming scope ts (suc k) (next k s x) xs)))) (answer-more k s a x xs)
      ∙ ap (λ q. ((after_each (one_named scope ts) (k, s, a, m) (x ∷ xs)).0, after_naming scope ts k s (x ∷ xs), kept a (answer_map nothing (answer (naming scope ts k s (x ∷ xs)))), q)) (sym (noted-more k s m x xs))

-- the loop by its ends
module _ (scope : ℕ) (ts : Result (List DataType) FaultAt) (k n : ℕ) (s now : Scope) (all : Answer (Unit {0})) (m least : Option FaultAt) (xs rest : List Identifier) where
  at-end : rest ≡ [] → after_each (one_named scope ts) (k, now, all, least) rest ≡ after_each (one_named scope ts) (0, s, an.Good tt, m) xs → (k, now, all, least) ≡ behind scope ts 0 s (an.Good tt) m xs
  unfolding after_each
  at-end none e =
      ap (after_each (one_named scope ts) (k, now, all, least)) (sym none) ∙ e ∙ loop-is scope ts 0 s (an.Good tt) m xs

  pub names-answer : rest ≡ [] → after_each (one_named scope ts) (k, now, all, least) rest ≡ after_each (one_named scope ts) (0, s, an.Good tt, m) xs → all ≡ answer_map nothing (answer (naming scope ts 0 s xs))
  names-answer none e = ap (λ v. v.2) (at-end none e) ∙ kept-first (answer_map nothing (answer (naming scope ts 0 s xs)))

  pub names-after : rest ≡ [] → after_each (one_named scope ts) (k, now, all, least) rest ≡ after_each (one_named scope ts) (0, s, an.Good tt, m) xs → now ≡ after_naming scope ts 0 s xs
  names-after none e = ap (λ v. v.1) (at-end none e)

  pub names-noted : rest ≡ [] → after_each (one_named scope ts) (k, now, all, least) rest ≡ after_each (one_named scope ts) (0, s, an.Good tt, m) xs → least ≡ noted m (faults (naming scope ts 0 s xs))
  names-noted none e = ap (λ v. v.3) (at-end none e)

  -- one name more: its type, whether it is fresh, and what is known behind it
  pub names-more : (x : Identifier) (t : Result DataType FaultAt) (one all1 : Answer (Unit {0})) (now1 : Scope) (least1 : Option FaultAt) (ys : List Identifier)
      → rest ≡ x ∷ ys → n ≡ suc k → t ≡ type_of_name ts k → one ≡ answer (here scope ts now x) → least1 ≡ noted least (faults (here scope ts now x)) → now1 ≡ declared scope now x t → all1 ≡ kept all one
      → after_each (one_named scope ts) (k, now, all, least) rest ≡ after_each (one_named scope ts) (0, s, an.Good tt, m) xs
      → after_each (one_named scope ts) (n, now1, all1, least1) ys ≡ after_each (one_named scope ts) (0, s, an.Good tt, m) xs
  unfolding after_each
  names-more x t one all1 now1 least1 ys is nk it io il ia ik e =
      ap (λ j. after_each (one_named scope ts) (j, now1, all1, least1) ys) nk
      ∙ ap (λ v. after_each (one_named scope ts) (suc k, v, all1, least1) ys) (ia ∙ ap (declared scope now x) it)
      ∙ ap (λ b. after_each (one_named scope ts) (suc k, declared scope now x (type_of_name ts k), b, least1) ys) (ik ∙ ap (kept all) io)
      ∙ ap (λ q. after_each (one_named scope ts) (suc k, declared scope now x (type_of_name ts k), kept all (answer (here scope ts now x)), q) ys) il
      ∙ sym (ap (after_each (one_named scope ts) (k, now, all, least)) is)
      ∙ e

-- what a site needs to know
kept-site : (a : Answer (TransactionHead × Signature)) (n : Answer (List (Unit {0}))) → answer_map second (answer_pair (answer_map nothing n) (answer_map number_and_count a)) ≡ answer_map in_site (answer_pair a n)
kept-site an.Faulty an.Faulty = refl
kept-site an.Faulty an.Typeless = refl
kept-site an.Faulty (an.Good us) = refl
kept-site an.Typeless an.Faulty = refl
kept-site an.Typeless an.Typeless = refl
kept-site an.Typeless (an.Good us) = refl
kept-site (an.Good h) an.Faulty = refl
kept-site (an.Good h) an.Typeless = refl
kept-site (an.Good h) (an.Good us) = refl

nothing-head : (a : Answer Accepted) (c : Answer (List (ClauseWord × Expression))) → answer_map nothing (answer_pair (answer_map in_site a) c) ≡ answer_map nothing (answer_pair a c)
nothing-head an.Faulty c = refl
nothing-head an.Typeless an.Faulty = refl
nothing-head an.Typeless an.Typeless = refl
nothing-head an.Typeless (an.Good cs) = refl
nothing-head (an.Good v) an.Faulty = refl
nothing-head (an.Good v) an.Typeless = refl
nothing-head (an.Good v) (an.Good cs) = refl

module _ (t : Text) (w : Around) (s : Scope) (a : AcceptHead) where
  -- the transaction, by the look-up of the code
  abbrev looked_up : Judged (TransactionHead × Signature)
  looked_up = rows.accepted w.role a.place a.name (transaction_in_body t w.role a.name) (length a.names)

  abbrev types : Result (List DataType) FaultAt
  types = outcome (map parameter_types looked_up)

  accepted_judged-is : accepted_judged t w s a ≡ both looked_up (naming (suc w.scope) types 0 s a.names)
  unfolding accepted_judged
  accepted_judged-is =
      ap (λ j. both j (names_of_accept (suc w.scope) (map parameter_types j) 0 s a.names)) (head-is t w a)
      ∙ ap (both looked_up) (naming-is (suc w.scope) (map parameter_types looked_up) 0 s a.names)

  behind_names-is : behind_names t w s a ≡ after_naming (suc w.scope) types 0 s a.names
  unfolding behind_names
  behind_names-is =
      ap (λ j. after_names (suc w.scope) (map parameter_types j) 0 s a.names) (head-is t w a)
      ∙ after-is (suc w.scope) (map parameter_types looked_up) 0 s a.names

  -- what code answers and notes of the transaction and the names
  pub accepted-answer : answer_map second (answer_pair (answer_map nothing (answer (naming (suc w.scope) types 0 s a.names))) (answer_map number_and_count (answer looked_up))) ≡ answer_map in_site (answer (accepted_judged t w s a))
  accepted-answer =
      kept-site (answer looked_up) (answer (naming (suc w.scope) types 0 s a.names))
      ∙ ap (answer_map in_site) (sym (answer-both looked_up (naming (suc w.scope) types 0 s a.names)))
      ∙ ap (λ j. answer_map in_site (answer j)) (sym accepted_judged-is)

  pub accepted-noted : (m : Option FaultAt) → noted (noted m (faults looked_up)) (faults (naming (suc w.scope) types 0 s a.names)) ≡ noted m (faults (accepted_judged t w s a))
  accepted-noted m =
      sym (noted-both m looked_up (naming (suc w.scope) types 0 s a.names)) ∙ ap (λ j. noted m (faults j)) (sym accepted_judged-is)

  pub accepted-after : after_naming (suc w.scope) types 0 s a.names ≡ behind_names t w s a
  accepted-after = sym behind_names-is

  head_judged-is : head_judged t w s a ≡ both (accepted_judged t w s a) (clauses_within t (in_clause w) (behind_names t w s a) a.clauses)
  unfolding head_judged accepted_judged behind_names clause_within
  head_judged-is = refl

  pub head-answer : answer_map nothing (answer_pair (answer_map in_site (answer (accepted_judged t w s a))) (answer (clauses_within t (in_clause w) (behind_names t w s a) a.clauses))) ≡ answer_map nothing (answer (head_judged t w s a))
  head-answer =
      nothing-head (answer (accepted_judged t w s a)) (answer (clauses_within t (in_clause w) (behind_names t w s a) a.clauses))
      ∙ ap (answer_map nothing) (sym (answer-both (accepted_judged t w s a) (clauses_within t (in_clause w) (behind_names t w s a) a.clauses)))
      ∙ ap (λ j. answer_map nothing (answer j)) (sym head_judged-is)

  pub head-noted : (m : Option FaultAt) → noted (noted m (faults (accepted_judged t w s a))) (faults (clauses_within t (in_clause w) (behind_names t w s a) a.clauses)) ≡ noted m (faults (head_judged t w s a))
  head-noted m =
      sym (noted-both m (accepted_judged t w s a) (clauses_within t (in_clause w) (behind_names t w s a) a.clauses)) ∙ ap (λ j. noted m (faults j)) (sym head_judged-is)

  within_block-is : within_block t w s a ≡ with_site (mapped (site_of w s) (found (head_judged t w s a))) (behind_names t w s a)
  unfolding within_block head_judged behind_names
  within_block-is = refl

  pub head-after : with_site (mapped (site_with w.role (length s.variables)) (good_of (answer_pair (answer_map in_site (answer (accepted_judged t w s a))) (answer (clauses_within t (in_clause w) (behind_names t w s a) a.clauses))))) (behind_names t w s a) ≡ within_block t w s a
  head-after =
      ap (λ o. with_site o (behind_names t w s a))
      (site-is w s (answer (accepted_judged t w s a)) (answer (clauses_within t (in_clause w) (behind_names t w s a) a.clauses))
      ∙ ap (λ b. mapped (site_of w s) (good_of b)) (sym (answer-both (accepted_judged t w s a) (clauses_within t (in_clause w) (behind_names t w s a) a.clauses)))
      ∙ ap (λ j. mapped (site_of w s) (found j)) (sym head_judged-is))
      ∙ sym within_block-is

-- the same, of what code has
module _ (t : Text) (w : Around) (s : Scope) (a : AcceptHead) (o : Option TransactionHead) (n scope : ℕ) (ts : Result (List DataType) FaultAt) where
  same-head : o ≡ transaction_in_body t w.role a.name → n ≡ length a.names → rows.accepted w.role a.place a.name o n ≡ looked_up t w s a
  same-head os ns =
      ap (λ h. rows.accepted w.role a.place a.name h n) os
      ∙ ap (rows.accepted w.role a.place a.name (transaction_in_body t w.role a.name)) ns

  same-types : o ≡ transaction_in_body t w.role a.name → n ≡ length a.names → ts ≡ outcome (map parameter_types (rows.accepted w.role a.place a.name o n)) → ts ≡ types t w s a
  same-types os ns e = e ∙ ap (λ j. outcome (map parameter_types j)) (same-head os ns)

  pub accepted-value : (h : Answer (TransactionHead × Signature)) (names : Answer (Unit {0})) → o ≡ transaction_in_body t w.role a.name → n ≡ length a.names → scope ≡ suc w.scope
      → ts ≡ outcome (map parameter_types (rows.accepted w.role a.place a.name o n)) → h ≡ answer (rows.accepted w.role a.place a.name o n) → names ≡ answer_map nothing (answer (naming scope ts 0 s a.names))
      → answer_map second (answer_pair names (answer_map number_and_count h)) ≡ answer_map in_site (answer (accepted_judged t w s a))
  accepted-value h names os ns ss e hs es =
      ap (λ b. answer_map second (answer_pair b (answer_map number_and_count h)))
      (es
      ∙ ap (λ k. answer_map nothing (answer (naming k ts 0 s a.names))) ss
      ∙ ap (λ us. answer_map nothing (answer (naming (suc w.scope) us 0 s a.names))) (same-types os ns e))
      ∙ ap (λ g. answer_map second (answer_pair (answer_map nothing (answer (naming (suc w.scope) (types t w s a) 0 s a.names))) (answer_map number_and_count g))) (hs ∙ ap answer (same-head os ns))
      ∙ accepted-answer t w s a

  pub accepted-fault : (m m1 m2 : Option FaultAt) → o ≡ transaction_in_body t w.role a.name → n ≡ length a.names → scope ≡ suc w.scope
      → ts ≡ outcome (map parameter_types (rows.accepted w.role a.place a.name o n)) → m1 ≡ noted m (faults (rows.accepted w.role a.place a.name o n)) → m2 ≡ noted m1 (faults (naming scope ts 0 s a.names))
      → m2 ≡ noted m (faults (accepted_judged t w s a))
  accepted-fault m m1 m2 os ns ss e m1s m2s =
      m2s
      ∙ ap (λ k. noted m1 (faults (naming k ts 0 s a.names))) ss
      ∙ ap (λ us. noted m1 (faults (naming (suc w.scope) us 0 s a.names))) (same-types os ns e)
      ∙ ap (λ l. noted l (faults (naming (suc w.scope) (types t w s a) 0 s a.names))) (m1s ∙ ap (λ j. noted m (faults j)) (same-head os ns))
      ∙ accepted-noted t w s a m

  pub accepted-scope : (s1 : Scope) → o ≡ transaction_in_body t w.role a.name → n ≡ length a.names → scope ≡ suc w.scope
      → ts ≡ outcome (map parameter_types (rows.accepted w.role a.place a.name o n)) → s1 ≡ after_naming scope ts 0 s a.names
      → s1 ≡ behind_names t w s a
  accepted-scope s1 os ns ss e es =
      es
      ∙ ap (λ k. after_naming k ts 0 s a.names) ss
      ∙ ap (λ us. after_naming (suc w.scope) us 0 s a.names) (same-types os ns e)
      ∙ accepted-after t w s a

-- the head, by what code has of its parts
module _ (t t1 : Text) (w w1 : Around) (s s1 : Scope) (a : AcceptHead) (cs : List Clause) where
  same-clauses : t1 ≡ t → w1 ≡ in_clause w → s1 ≡ behind_names t w s a → cs ≡ a.clauses → clauses_within t1 w1 s1 cs ≡ clauses_within t (in_clause w) (behind_names t w s a) a.clauses
  same-clauses ts ws ss css =
      ap (λ u. clauses_within u w1 s1 cs) ts
      ∙ ap (λ v. clauses_within t v s1 cs) ws
      ∙ ap (λ x. clauses_within t (in_clause w) x cs) ss
      ∙ ap (clauses_within t (in_clause w) (behind_names t w s a)) css

  same-pair : (accepted : Answer (ℕ × ℕ)) (clauses : Answer (List (ClauseWord × Expression))) (all : Answer ((ℕ × ℕ) × List (ClauseWord × Expression)))
      → t1 ≡ t → w1 ≡ in_clause w → s1 ≡ behind_names t w s a → cs ≡ a.clauses
      → accepted ≡ answer_map in_site (answer (accepted_judged t w s a)) → clauses ≡ answer (clauses_within t1 w1 s1 cs) → all ≡ answer_pair accepted clauses
      → all ≡ answer_pair (answer_map in_site (answer (accepted_judged t w s a))) (answer (clauses_within t (in_clause w) (behind_names t w s a) a.clauses))
  same-pair accepted clauses all ts ws ss css hs is ps =
      ps
      ∙ ap (λ h. answer_pair h clauses) hs
      ∙ ap (answer_pair (answer_map in_site (answer (accepted_judged t w s a)))) (is ∙ ap answer (same-clauses ts ws ss css))

  pub head-value : (accepted : Answer (ℕ × ℕ)) (clauses : Answer (List (ClauseWord × Expression))) (all : Answer ((ℕ × ℕ) × List (ClauseWord × Expression))) (done : Answer (Unit {0}))
      → t1 ≡ t → w1 ≡ in_clause w → s1 ≡ behind_names t w s a → cs ≡ a.clauses
      → accepted ≡ answer_map in_site (answer (accepted_judged t w s a)) → clauses ≡ answer (clauses_within t1 w1 s1 cs) → all ≡ answer_pair accepted clauses → done ≡ answer_map nothing all
      → done ≡ answer_map nothing (answer (head_judged t w s a))
  head-value accepted clauses all done ts ws ss css hs is ps ds =
      ds ∙ ap (answer_map nothing) (same-pair accepted clauses all ts ws ss css hs is ps) ∙ head-answer t w s a

  pub head-scope : (accepted : Answer (ℕ × ℕ)) (clauses : Answer (List (ClauseWord × Expression))) (all : Answer ((ℕ × ℕ) × List (ClauseWord × Expression))) (first : ℕ) (now : Scope)
      → t1 ≡ t → w1 ≡ in_clause w → s1 ≡ behind_names t w s a → cs ≡ a.clauses
      → accepted ≡ answer_map in_site (answer (accepted_judged t w s a)) → clauses ≡ answer (clauses_within t1 w1 s1 cs) → all ≡ answer_pair accepted clauses
      → first ≡ length s.variables → now ≡ with_site (mapped (site_with w.role first) (good_of all)) s1
      → now ≡ within_block t w s a
  head-scope accepted clauses all first now ts ws ss css hs is ps fs ns =
      ns
      ∙ ap (with_site (mapped (site_with w.role first) (good_of all))) ss
      ∙ ap (λ n. with_site (mapped (site_with w.role n) (good_of all)) (behind_names t w s a)) fs
      ∙ ap (λ v. with_site (mapped (site_with w.role (length s.variables)) (good_of v)) (behind_names t w s a)) (same-pair accepted clauses all ts ws ss css hs is ps)
      ∙ head-after t w s a

pub round_block-is : (t : Text) (w : Around) (a : AcceptHead) → round_block t w a ≡ in_accept (reply.With (outcome (checked (rows.transaction_accepted w.role a.place a.name (transaction_in_body t w.role a.name)) value_back_of))) w
unfolding round_block
round_block-is t w a = ap (λ j. in_accept (reply.With (outcome (checked j value_back_of))) w) (transaction-is t w a)

pub ruleset blocks = (bodies, round_block-is)

pub ruleset heads = (head-answer, head-noted, head-after)

-- ---- clauses
pub clause-is : (t : Text) (w : Around) (s : Scope) (c : Clause) → clause_within t w s c ≡ map (λ (e : Expression). (c.word, e)) (asked (expression t s w c.expression) (λ (v : Found). map first (both (number (place_of c.expression) v) (too_deep c))) (too_deep c))
unfolding clause_within
clause-is t w s c = refl

pub ruleset clauses = (laws, lists, clause-is)
