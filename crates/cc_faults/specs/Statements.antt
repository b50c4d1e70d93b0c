-- What is found of statements, and what is visible after them.
use Rattle.std.specs.Prelude.{ℕ, suc, Bool, true, false, if◌then◌else◌, List, [], ◌∷◌, ◌++◌, length, Option, Some, None, Result, Ok, slice_get}
use Rattle.cc_base.specs.declared.names.Place.{Place}
use Rattle.cc_typed.specs.Clauses.{all_noted}
use Rattle.cc_typed.specs.declared.tree.AcceptPart.{AcceptPart as TypedAccept}
use Rattle.cc_typed.specs.declared.tree.Alternative.{Alternative as TypedAlternative}
use Rattle.cc_typed.specs.declared.tree.Choice.{Choice as TypedChoice}
use Rattle.cc_typed.specs.declared.tree.Choice.TheVariants as choice
use Rattle.cc_typed.specs.declared.tree.Expression.{Expression}
use Rattle.cc_typed.specs.declared.tree.Site.{Site}
use Rattle.cc_typed.specs.declared.tree.Statement.{Statement as TypedStatement}
use Rattle.cc_typed.specs.declared.tree.Statement.TheVariants as statement
use Rattle.cc_typed.specs.declared.types.DataType.{DataType}
use Rattle.cc_typed.specs.declared.types.DataType.TheVariants.{Void}
use Rattle.cc_faults.specs.Depths.{depth_of}
use Rattle.cc_faults.specs.Expressions.{expression, place_of, transaction_at, with_signature}
use Rattle.cc_faults.specs.Judged.{Judged, Good, found, map, mapped, checked, both, asked, first, second, known, outcome, in_front, each}
use Rattle.cc_faults.specs.Made.{array_of, value_of}
use Rattle.cc_faults.specs.Phrases.{branch, branches, do_loop, for_loop, while_loop}
use Rattle.cc_faults.specs.Rows.{array_length, as_many, assigned, fresh, has_value, in_body, leaving, not_deep, not_large, number, outside_accept, replying, type_or_void, value_type}
use Rattle.cc_faults.specs.Scopes.{Scope, Text, declared, deeper, in_accept, in_clause, inside_loop, is_here, left, meaning_at}
use Rattle.cc_faults.specs.declared.fault.FaultAt.{FaultAt}
use Rattle.cc_faults.specs.declared.plain.AcceptHead.{AcceptHead}
use Rattle.cc_faults.specs.declared.plain.Choice.{Choice, Accept' as AcceptChoice', Delay as DelayChoice, Immediate, Terminate}
use Rattle.cc_faults.specs.declared.plain.Clause.{Clause}
use Rattle.cc_faults.specs.declared.plain.ClauseWord.{ClauseWord}
use Rattle.cc_faults.specs.declared.plain.ClauseWord.TheVariants as word
use Rattle.cc_faults.specs.declared.plain.Identifier.{Identifier}
use Rattle.cc_faults.specs.declared.plain.Local.{Local}
use Rattle.cc_faults.specs.declared.plain.LocalForm.{LocalForm}
use Rattle.cc_faults.specs.declared.plain.LocalForm.TheVariants as form
use Rattle.cc_faults.specs.declared.plain.Phrase.{Phrase}
use Rattle.cc_faults.specs.declared.plain.Statement.{Statement, Empty, Declare, Evaluate, Block', Break, Continue, Return, TransactionReturn, Delay, Accept', Select', Row_of-Statement, end_of-Statement, more_of-Statement, Row_of-Alternative, end_of-Alternative, more_of-Alternative}
use Rattle.cc_faults.specs.declared.scope.Around.{Around}
use Rattle.cc_faults.specs.declared.scope.Found.{Found}
use Rattle.cc_faults.specs.declared.scope.Reply.TheVariants as reply
use Rattle.cc_faults.specs.declared.scope.Role.{Role}
use Rattle.cc_faults.specs.declared.scope.Role.TheVariants as role
use Rattle.cc_faults.specs.declared.scope.Signature.{Signature}
use Rattle.cc_faults.specs.declared.scope.TransactionHead.{TransactionHead}

abbrev pub some : {A : Type 0} → A → Option A
some v = Some v

-- ---- the type of a local variable: 3, 4, 5, 6, 8

abbrev pub array_type : Scope → Local → Judged (DataType × ℕ) → Judged DataType
array_type s l j = checked j (λ (v : DataType × ℕ). not_large s.structures l.name (array_of v.0 v.1))

abbrev pub type_in_form : Scope → Local → LocalForm → Judged DataType
type_in_form s l form.Plain = value_type s l.of
type_in_form s l (form.Array n) = array_type s l (both (value_type s l.of) (array_length s n))
type_in_form s l (form.Value e) = value_type s l.of

abbrev pub local_type : Scope → Local → Judged DataType
local_type s l = type_in_form s l l.form

abbrev pub variable_of : ℕ → DataType → Option Expression → TypedStatement
variable_of n u None = statement.Declare n u
variable_of n u (Some e) = statement.Initialize n u e

abbrev pub variable_made : ℕ → (Unit {0} × DataType) × Option Expression → TypedStatement
variable_made n v = variable_of n v.0.1 v.1

-- ---- what is given back

abbrev pub return_in : Role → DataType × Option Expression → TypedStatement
return_in (role.Function u) v = statement.Return v.1 v.0
return_in (role.Main u) v = statement.Finish v.1
return_in (role.Body k) v = statement.Finish v.1

-- a process body has the type `void`
abbrev pub type_of_role : Role → Judged DataType
type_of_role (role.Function u) = known u
type_of_role (role.Main u) = known u
type_of_role (role.Body k) = Good Void

-- ---- accepts

abbrev pub parameter_types : TransactionHead × Signature → List DataType
parameter_types h = h.1.parameters

abbrev pub kth : ℕ → List DataType → DataType
kth k ts = type_or_void (slice_get ts k)

-- the names of an accept, from the k-th parameter on, in the scope of this number: 2; they have no types where those of the
-- transaction aren't known
abbrev pub after_names : ℕ → Judged (List DataType) → ℕ → Scope → List Identifier → Scope
after_names scope ts k s [] = s
after_names scope ts k s (x ∷ xs) = after_names scope ts (suc k) (declared scope s x (outcome (map (kth k) ts))) xs

abbrev pub names_of_accept : ℕ → Judged (List DataType) → ℕ → Scope → List Identifier → Judged (List (Unit {0}))
names_of_accept scope ts k s [] = Good []
names_of_accept scope ts k s (x ∷ xs) =
    map in_front
    (both (fresh (is_here scope (meaning_at s x)) x)
    (names_of_accept scope ts (suc k) (declared scope s x (outcome (map (kth k) ts))) xs))

abbrev pub is_such_that : ClauseWord → Bool
is_such_that word.SuchThat = true
is_such_that word.By = false

abbrev pub is_by : ClauseWord → Bool
is_by word.SuchThat = false
is_by word.By = true

-- the expression of the clause with this word, of which there is at most one
abbrev pub clause_of : (ClauseWord → Bool) → List (ClauseWord × Expression) → Option Expression
clause_of is [] = None
clause_of is (c ∷ rest) = if is c.0 then Some c.1 else clause_of is rest

-- the variables that the clauses name, other than the accept's own, in the order of first mention; so many are its own from the first on
abbrev pub named_outside : ℕ → ℕ → List ℕ → List (ClauseWord × Expression) → List ℕ
named_outside first count seen [] = seen
named_outside first count seen (c ∷ rest) =
    named_outside first count (all_noted (record { first = first; count = count }) seen c.1) rest

-- the head of an accept: its kind, its transaction, its names, its clauses
abbrev pub Head : Type 0
Head = ((TransactionHead × Signature) × List (Unit {0})) × List (ClauseWord × Expression)

abbrev pub kind_of : Role → ℕ
kind_of (role.Body (Ok k)) = k
kind_of _ = 0

abbrev pub site_of : Around → Scope → Head → Site
site_of w s h =
    record {
      kind = kind_of w.role;
      transaction = h.0.0.0.number;
      first = length s.variables;
      environment = named_outside (length s.variables) (length h.0.0.1.parameters) [] h.1;
      such_that = clause_of is_such_that h.1;
      least_by = clause_of is_by h.1;
    }

-- a site has its number before its block has any
abbrev pub with_site : Option Site → Scope → Scope
with_site None s = s
with_site (Some site) s = record s { sites = s.sites ++ site ∷ [] }

-- what an accept replies with: an asynchronous transaction has no value, whatever its line holds
abbrev pub value_back_of : TransactionHead → Judged DataType
value_back_of h = if h.is_async then Good Void else map (λ (g : Signature). g.result) (known h.signature)

-- ---- what is made of good parts

abbrev pub evaluated : Expression → TypedStatement
evaluated e = statement.Evaluate e

abbrev pub blocked : List TypedStatement → TypedStatement
blocked all = statement.Block all

abbrev pub branched : Expression × TypedStatement → TypedStatement
branched v = statement.If v.0 v.1

abbrev pub branched_both : (Expression × TypedStatement) × TypedStatement → TypedStatement
branched_both v = statement.IfElse v.0.0 v.0.1 v.1

abbrev pub looped : Expression × TypedStatement → TypedStatement
looped v = statement.While v.0 v.1

abbrev pub looped_after : TypedStatement × Expression → TypedStatement
looped_after v = statement.DoWhile v.0 v.1

abbrev pub looped_for : (Option Expression × (Option Expression × Option Expression)) × TypedStatement → TypedStatement
looped_for v = statement.For v.0.0 v.0.1.0 v.0.1.1 v.1

abbrev pub broken : Unit {0} → TypedStatement
broken v = statement.Break

abbrev pub continued : Unit {0} → TypedStatement
continued v = statement.Continue

abbrev pub replied : DataType × Option Expression → TypedStatement
replied v = statement.TransactionReturn v.1 v.0

abbrev pub delayed : Expression → TypedStatement
delayed e = statement.Delay e

abbrev pub part_made : ℕ → Head × List TypedStatement → TypedAccept
part_made site v = record { site = site; block = v.1 }

abbrev pub accepting : TypedAccept → TypedStatement
accepting a = statement.Accept a

abbrev pub selected : Result ℕ FaultAt × List TypedAlternative → TypedStatement
selected v = statement.Select v.1

abbrev pub alternative_made : (Option Expression × TypedChoice) × List TypedStatement → TypedAlternative
alternative_made v = record { guard = v.0.0; choice = v.0.1; entries = v.1 }

abbrev pub choice_accepting : TypedAccept → TypedChoice
choice_accepting a = choice.Accept a

abbrev pub choice_delaying : Expression → TypedChoice
choice_delaying e = choice.Delay e

module _ (t : Text) where
  -- ---- expressions in statements

  -- a condition, a guard or a duration: 14
  abbrev pub condition : Around → Scope → Phrase → Judged Expression
  condition w s e = checked (expression t s w e) (number (place_of e))

  abbrev pub optional_condition : Around → Scope → Option Phrase → Judged (Option Expression)
  optional_condition w s None = Good None
  optional_condition w s (Some e) = map some (condition w s e)

  -- an expression of any type
  abbrev pub any_value : Around → Scope → Phrase → Judged Expression
  any_value w s e = map value_of (expression t s w e)

  abbrev pub optional_value : Around → Scope → Option Phrase → Judged (Option Expression)
  optional_value w s None = Good None
  optional_value w s (Some e) = map some (any_value w s e)

  -- a value that is given for a type, which may not be known: 14
  abbrev pub given : Around → Scope → Judged DataType → Phrase → Judged Expression
  given w s u e = checked (expression t s w e) (assigned (place_of e) (found u))

  -- ---- local variables: 2, and 14 for an initialiser. The type is known whatever the initialiser is.

  abbrev pub initial : Around → Scope → Judged DataType → LocalForm → Judged (Option Expression)
  initial w s u form.Plain = Good None
  initial w s u (form.Array n) = Good None
  initial w s u (form.Value e) = map some (given w s u e)

  abbrev pub local : Around → Scope → Local → Judged TypedStatement
  local w s l =
      map (variable_made (length s.variables))
      (both (both (fresh (is_here w.scope (meaning_at s l.name)) l.name) (local_type s l)) (initial w s (local_type s l) l.form))

  -- ---- what is given back

  -- a value for a type: 24, 14
  abbrev pub value_back : Around → Scope → Place → Judged DataType → Option Phrase → Judged (DataType × Option Expression)
  value_back w s p u None = map (λ (v : DataType). (v, None)) u
  value_back w s p u (Some e) =
      both (checked u (has_value p)) (map some (given w s (checked u (has_value p)) e))

  -- ---- accepts

  -- the transaction that is accepted: 20, 19; its types aren't known where its line has a fault
  abbrev pub transaction_accepted : Around → AcceptHead → Judged TransactionHead
  transaction_accepted w a = checked (checked (in_body w.role a.place) known) (λ (k : ℕ). transaction_at t k a.name)

  abbrev pub accepted : Around → AcceptHead → Judged (TransactionHead × Signature)
  accepted w a = checked (transaction_accepted w a) (λ (h : TransactionHead). with_signature h (Some h.signature))

  -- with as many names as it has parameters: 13
  abbrev pub accept_head : Around → AcceptHead → Judged (TransactionHead × Signature)
  accept_head w a =
      checked (accepted w a) (λ (h : TransactionHead × Signature). as_many a.name.place (length a.names) (length h.1.parameters) h)

  abbrev pub in_names : Around → Scope → AcceptHead → Scope
  in_names w s a = after_names (suc w.scope) (map parameter_types (accept_head w a)) 0 s a.names

  -- a clause counts as a condition: 14; whether it is too deep is asked where it holds no fault, also without a type: 26
  abbrev pub too_deep : Phrase → Judged (Unit {0})
  too_deep e = not_deep (place_of e) (depth_of e)

  abbrev pub clause : Around → Scope → Clause → Judged (ClauseWord × Expression)
  clause w s c =
      map (λ (e : Expression). (c.word, e))
      (asked (expression t s (in_clause w) c.expression)
      (λ (v : Found). map first (both (number (place_of c.expression) v) (too_deep c.expression)))
      (too_deep c.expression))

  abbrev pub head_of : Around → Scope → AcceptHead → Judged Head
  head_of w s a =
      both
      (both (accept_head w a) (names_of_accept (suc w.scope) (map parameter_types (accept_head w a)) 0 s a.names))
      (each (clause w (in_names w s a)) a.clauses)

  abbrev pub before_block : Around → Scope → AcceptHead → Scope
  before_block w s a = with_site (mapped (site_of w s) (found (head_of w s a))) (in_names w s a)

  abbrev pub around_block : Around → AcceptHead → Around
  around_block w a = in_accept (reply.With (outcome (checked (transaction_accepted w a) value_back_of))) w

  -- ---- what is visible after a statement. A variable keeps its number once its scope is left, and an accept its site.
  unfoldable mutual
    pub after : Around → Scope → Statement → Scope
    after w s Empty = s
    after w s (Declare l) = declared w.scope s l.name (outcome (local_type s l))
    after w s (Block' _ all) = left s (after_all (deeper w) s all)
    after w s (Evaluate e) = s
    after w s (branch c a) = after w s a
    after w s (branches c a b) = after w (after w s a) b
    after w s (while_loop c a) = after (inside_loop w) s a
    after w s (do_loop a c) = after (inside_loop w) s a
    after w s (for_loop e c next a) = after (inside_loop w) s a
    after w s (Break p) = s
    after w s (Continue p) = s
    after w s (Return p e) = s
    after w s (TransactionReturn p e) = s
    after w s (Delay e) = s
    after w s (Accept' h _ block) =
        left s (after_all (around_block w h) (before_block w s h) block)
    after w s (Select' p _ all) = after_alternatives w s all

    pub after_all : {n : _} → Around → Scope → Row_of-Statement n → Scope
    after_all w s end_of-Statement = s
    after_all w s (more_of-Statement a rest) = after_all w (after w s a) rest

    pub after_alternatives : {n : _} → Around → Scope → Row_of-Alternative n → Scope
    after_alternatives w s end_of-Alternative = s
    after_alternatives w s (more_of-Alternative guard c _ entries rest) =
        after_alternatives w (left s (after_all (deeper w) (after_choice w s c) entries)) rest

    pub after_choice : Around → Scope → Choice → Scope
    after_choice w s (AcceptChoice' h _ block) =
        left s (after_all (around_block w h) (before_block w s h) block)
    after_choice w s (DelayChoice e) = s
    after_choice w s (Immediate) = s
    after_choice w s (Terminate) = s

  -- ---- statements
  unfoldable mutual
    pub judged : Around → Scope → Statement → Judged TypedStatement
    judged w s Empty = Good statement.Empty
    judged w s (Declare l) = local w s l
    judged w s (Block' _ all) = map blocked (all_judged (deeper w) s all)
    judged w s (Evaluate e) = map evaluated (any_value w s e)
    judged w s (branch c a) = map branched (both (condition w s c) (judged w s a))
    judged w s (branches c a b) =
        map branched_both (both (both (condition w s c) (judged w s a)) (judged w (after w s a) b))
    judged w s (while_loop c a) = map looped (both (condition w s c) (judged (inside_loop w) s a))
    judged w s (do_loop a c) = map looped_after (both (judged (inside_loop w) s a) (condition w (after (inside_loop w) s a) c))
    judged w s (for_loop e c next a) =
        map looped_for
        (both (both (optional_value w s e) (both (optional_condition w s c) (optional_value w s next))) (judged (inside_loop w) s a))
    judged w s (Break p) = map broken (leaving w.breaks p)
    judged w s (Continue p) = map continued (leaving w.continues p)
    judged w s (Return p e) =
        map (return_in w.role) (map second (both (outside_accept w.reply p) (value_back w s p (type_of_role w.role) e)))
    judged w s (TransactionReturn p e) = map replied (value_back w s p (replying w.reply p) e)
    judged w s (Delay e) = map delayed (condition w s e)
    judged w s (Accept' h _ block) =
        map accepting
        (map (part_made (length s.sites))
        (both (head_of w s h)
        (all_judged (around_block w h) (before_block w s h) block)))
    judged w s (Select' p _ all) = map selected (both (in_body w.role p) (alternatives_judged w s all))

    pub all_judged : {n : _} → Around → Scope → Row_of-Statement n → Judged (List TypedStatement)
    all_judged w s end_of-Statement = Good []
    all_judged w s (more_of-Statement a rest) = map in_front (both (judged w s a) (all_judged w (after w s a) rest))

    -- the entries of an alternative are a scope
    pub alternatives_judged : {n : _} → Around → Scope → Row_of-Alternative n → Judged (List TypedAlternative)
    alternatives_judged w s end_of-Alternative = Good []
    alternatives_judged w s (more_of-Alternative guard c _ entries rest) =
        map in_front
        (both
        (map alternative_made
        (both (both (optional_condition w s guard) (choice_judged w s c)) (all_judged (deeper w) (after_choice w s c) entries)))
        (alternatives_judged w (left s (after_all (deeper w) (after_choice w s c) entries)) rest))

    pub choice_judged : Around → Scope → Choice → Judged TypedChoice
    choice_judged w s (AcceptChoice' h _ block) =
        map choice_accepting
        (map (part_made (length s.sites))
        (both (head_of w s h)
        (all_judged (around_block w h) (before_block w s h) block)))
    choice_judged w s (DelayChoice e) = map choice_delaying (condition w s e)
    choice_judged w s Immediate = Good choice.Immediate
    choice_judged w s Terminate = Good choice.Terminate

  -- ---- statements in a list

  abbrev pub after_in : Around → Scope → List Statement → Scope
  after_in w s [] = s
  after_in w s (a ∷ rest) = after_in w (after w s a) rest

  abbrev pub judged_in : Around → Scope → List Statement → Judged (List TypedStatement)
  judged_in w s [] = Good []
  judged_in w s (a ∷ rest) = map in_front (both (judged w s a) (judged_in w (after w s a) rest))
