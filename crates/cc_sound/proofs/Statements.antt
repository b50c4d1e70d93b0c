-- What is found of a statement is typed.
use Rattle.std.proofs.Common.{◌≡◌, ℕ, zero, suc, ◌+◌, Bool, true, false, not, ◌&&◌, ◌||◌, List, [], ◌∷◌, ◌++◌, length, Option, Some, None, Result, Ok, Err, refl, ap, sym, subst, ◌∙◌, arith}
use Rattle.std.proofs.lemmas.Bool.{and_from, or_left, or_right}
use Rattle.std.specs.List.{list_all}
use Rattle.std.specs.Prelude.{nat_le, slice_get}
use Rattle.cc_base.specs.declared.names.Place.{Place}
use Rattle.cc_typed.proofs.Partings.{type-same}
use Rattle.cc_typed.proofs.Sites.{sites-Accept, sites-Block, sites-Break, sites-Continue, sites-Declare, sites-Delay, sites-DoWhile, sites-Empty, sites-Evaluate, sites-Finish, sites-For, sites-If, sites-IfElse, sites-Initialize, sites-Return, sites-Select, sites-TransactionReturn, sites-While}
use Rattle.cc_typed.proofs.Sites as of_choice
use Rattle.cc_typed.proofs.Tables.{left, right}
use Rattle.cc_typed.proofs.TypedStatements as typed_choice
use Rattle.cc_typed.proofs.TypedStatements.{typed-Accept, typed-Block, typed-Break, typed-Continue, typed-Declare, typed-Delay, typed-DoWhile, typed-Empty, typed-Evaluate, typed-Finish, typed-For, typed-If, typed-IfElse, typed-Initialize, typed-Return, typed-Select, typed-TransactionReturn, typed-While}
use Rattle.cc_typed.specs.Accepts.{sites_in, sites_of_body, sites_of_choice, sites_of_list}
use Rattle.cc_typed.specs.Parting.{is_of_type}
use Rattle.cc_typed.specs.Parts.{Parts}
use Rattle.cc_typed.specs.Sequences.{is_empty}
use Rattle.cc_typed.specs.Typed.{Surroundings, in_accept, inside_loop, is_accepted, is_body, is_finish, is_for, is_given, is_number_option, is_outside, is_process_body, is_terminate, is_typed, is_typed_choice, is_typed_option, is_typed_site, is_typed_statement, most_things}
use Rattle.cc_typed.specs.TypedLists.{is_typed_alternative}
use Rattle.cc_typed.specs.Types.{is_void, type_of}
use Rattle.cc_typed.specs.declared.tree.AcceptPart.{AcceptPart as TypedAccept}
use Rattle.cc_typed.specs.declared.tree.Alternative.{Alternative as TypedAlternative}
use Rattle.cc_typed.specs.declared.tree.Choice.{Choice as TypedChoice}
use Rattle.cc_typed.specs.declared.tree.Choice.TheVariants as choice
use Rattle.cc_typed.specs.declared.tree.Expression.{Expression}
use Rattle.cc_typed.specs.declared.tree.Statement.{Statement as TypedStatement}
use Rattle.cc_typed.specs.declared.tree.Statement.TheVariants as statement
use Rattle.cc_typed.specs.declared.types.DataType.{DataType}
use Rattle.cc_typed.specs.declared.types.DataType.TheVariants.{Void}
use Rattle.cc_faults.proofs.Holds.{Holds, holds-both, holds-map, holds-weaker}
use Rattle.cc_faults.specs.Expressions.{expression, place_of}
use Rattle.cc_faults.specs.Judged.{Judged, Good, Bad, both, checked, found, in_front, known, map, mapped, outcome, second}
use Rattle.cc_faults.specs.Made.{value_of}
use Rattle.cc_faults.specs.Phrases.{branch, branches, do_loop, for_loop, while_loop}
use Rattle.cc_faults.specs.Rows.{has_value, in_body, leaving, may_be_assigned, outside_accept, replying, unless}
use Rattle.cc_faults.specs.Scopes.{Scope, Text, declared, deeper, is_here, left as left_scope, meaning_at}
use Rattle.cc_faults.specs.Scopes as scopes
use Rattle.cc_faults.specs.Statements.{accepting, after, after_all, after_alternatives, after_choice, all_judged, alternative_made, alternatives_judged, any_value, around_block, before_block, blocked, branched, branched_both, broken, choice_accepting, choice_delaying, choice_judged, condition, continued, delayed, evaluated, given, head_of, in_names, initial, judged, local, local_type, looped, looped_after, looped_for, optional_condition, optional_value, part_made, replied, return_in, selected, site_of, some, type_of_role, value_back, variable_made, variable_of}
use Rattle.cc_faults.specs.declared.fault.FaultAt.{FaultAt}
use Rattle.cc_faults.specs.declared.fault.TypeKind.TheVariants as kind
use Rattle.cc_faults.specs.declared.plain.AcceptHead.{AcceptHead}
use Rattle.cc_faults.specs.declared.plain.Choice.{Choice, Accept' as AcceptChoice', Delay as DelayChoice, Immediate, Terminate}
use Rattle.cc_faults.specs.declared.plain.Local.{Local}
use Rattle.cc_faults.specs.declared.plain.LocalForm.{LocalForm}
use Rattle.cc_faults.specs.declared.plain.LocalForm.TheVariants as form
use Rattle.cc_faults.specs.declared.plain.Phrase.{Phrase}
use Rattle.cc_faults.specs.declared.plain.Statement.{Statement, Empty, Declare, Evaluate, Block', Break, Continue, Return, TransactionReturn, Delay, Accept', Select', Row_of-Statement, end_of-Statement, more_of-Statement, Row_of-Alternative, end_of-Alternative, more_of-Alternative}
use Rattle.cc_faults.specs.declared.scope.Around.{Around}
use Rattle.cc_faults.specs.declared.scope.Leaves.{Leaves}
use Rattle.cc_faults.specs.declared.scope.Leaves.TheVariants as leaves
use Rattle.cc_faults.specs.declared.scope.Reply.{Reply}
use Rattle.cc_faults.specs.declared.scope.Reply.TheVariants as reply
use Rattle.cc_faults.specs.declared.scope.Role.{Role}
use Rattle.cc_faults.specs.declared.scope.Role.TheVariants as role
use Rattle.cc_sound.proofs.Accepts.{declared-sites, declared-variables}
use Rattle.cc_sound.proofs.After.{Goes, after-goes, all-goes, alternatives-go, before-go, choice-goes, goes-left, goes-on, goes-site}
use Rattle.cc_sound.proofs.Clauses.{holds-and}
use Rattle.cc_sound.proofs.Expressions.{expression-typed}
use Rattle.cc_sound.proofs.Found.{value-typed}
use Rattle.cc_sound.proofs.Growth.{Grows, front-on, get-more}
use Rattle.cc_sound.proofs.Heads.{false-true, front-get}
use Rattle.cc_sound.proofs.Rows.{IsGiven, IsNumber, found-Good, holds-assigned, holds-number, holds-unless}
use Rattle.cc_sound.proofs.Sites.{accept-sound, stands-block}
use Rattle.cc_sound.proofs.Types.{holds-all}
use Rattle.cc_sound.specs.Fits.{Ends, Inside, IsFront, LeavesStand, ReplyStands, RoleStands, Stands, TextFits}
use Rattle.cc_sound.specs.Formed.{are_formed_alternatives, are_formed_clauses, are_formed_statements, are_once, count_alternatives, is_empty_row, is_formed, is_formed_choice, is_formed_form, is_formed_option, is_formed_statement}
use Rattle.cc_sound.specs.Formed as formed
use Rattle.cc_sound.specs.Typing.{AreNumbered, IsFound, IsSound, counted}

-- ---- numbers in a row

counted-on : (n i j : ℕ) → counted n i ++ counted (n + i) j ≡ counted n (i + j)
counted-on n zero j =
    let e : n + zero ≡ n = omega arith in let f : j ≡ zero + j = omega arith in ap (λ m. counted m j) e ∙ ap (counted n) f
counted-on n (suc i) j =
    let e : n + suc i ≡ suc n + i = omega arith in
    let f : suc (i + j) ≡ suc i + j = omega arith in
    ap (λ m. n ∷ (counted (suc n) i ++ counted m j)) e ∙ ap (λ l. n ∷ l) (counted-on (suc n) i j) ∙ ap (counted n) f

pub numbered-on : (n m k : ℕ) (xs ys : List ℕ) → AreNumbered n m xs → AreNumbered m k ys → AreNumbered n k (xs ++ ys)
numbered-on n m k xs ys h i =
    (h.0 + i.0, ap (λ l. l ++ ys) h.1 ∙ ap (λ l. counted n h.0 ++ l) (i.1 ∙ ap (λ x. counted x i.0) (sym h.2)) ∙ counted-on n h.0 i.0, long)
  where
    long : n + (h.0 + i.0) ≡ k
    long = let e = h.2 in let f = i.2 in omega (arith, e, f)

renamed : (n m : ℕ) (xs ys : List ℕ) → ys ≡ xs → AreNumbered n m xs → AreNumbered n m ys
renamed n m xs ys e h = (h.0, e ∙ h.1, h.2)

pub still : (p : Parts) (s : Scope) (b : Bool) (xs : List ℕ) → b ≡ true → xs ≡ [] → IsSound p s s b xs
still p s b xs h e = (h, λ i. i, (0, e, omega arith))

-- ---- surroundings

stands-deeper : (t : Text) (w : Around) (a : Surroundings) → Stands t w a → Stands t (deeper w) a
stands-deeper t w a h =
    record { whole = h.whole; role = h.role; reply = h.reply; breaks = h.breaks; continues = h.continues }

stands-loop : (t : Text) (w : Around) (a : Surroundings) → Stands t w a → Stands t (scopes.inside_loop w) (inside_loop a)
stands-loop t w a h = record { whole = h.whole; role = h.role; reply = h.reply; breaks = refl; continues = refl }

leaving-typed : (b : Bool) (l : Leaves) (p : Place) → LeavesStand b l → Holds (λ (u : Unit {0}). b ≡ true) (leaving l p)
leaving-typed b leaves.Nothing p h = tt
leaving-typed b leaves.Inside p h = h
leaving-typed b leaves.Outside p h = tt

known-same : (o : Result DataType FaultAt) (u : DataType) → known o ≡ Good u → o ≡ Ok u
known-same (Ok v) u e = cc
known-same (Err f) u e = absurd (cc)

role-result : (p : Parts) (kind : Option ℕ) (result : Option DataType) (variables : List DataType) (r : Role) (u : DataType) → RoleStands p kind result variables r → type_of_role r ≡ Good u → result ≡ Some u
role-result p kind result variables (role.Function o) u h e = h.1 u (known-same o u e)
role-result p kind result variables (role.Main o) u h e = h.1 u (known-same o u e)
role-result p kind result variables (role.Body (Ok k)) u h e = let same : Void ≡ u = cc in h.1 ∙ ap (λ v. Some v) same
role-result p kind result variables (role.Body (Err f)) u h e = absurd h

outside-typed : (replies : Option DataType) (r : Reply) (p : Place) → ReplyStands replies r → Holds (λ (u : Unit {0}). replies ≡ None) (outside_accept r p)
outside-typed replies reply.Nowhere p h = h
outside-typed replies (reply.With o) p h = tt

reply-result : (replies : Option DataType) (r : Reply) (p : Place) (u : DataType) → ReplyStands replies r → replying r p ≡ Good u → replies ≡ Some u
reply-result replies reply.Nowhere p u h e = absurd (cc)
reply-result replies (reply.With o) p u h e = h u (known-same o u e)

process-body : (p : Parts) (kind : Option ℕ) (result : Option DataType) (variables : List DataType) (r : Role) (q : Place) → RoleStands p kind result variables r → Holds (λ (o : Result ℕ FaultAt). is_process_body kind ≡ true) (in_body r q)
process-body p kind result variables (role.Function o) q h = tt
process-body p kind result variables (role.Main o) q h = tt
process-body p kind result variables (role.Body (Ok k)) q h = ap is_process_body h.0 ∙ left _ _ h.2
process-body p kind result variables (role.Body (Err f)) q h = absurd h

pub holds-itself : {A : Type 0} (j : Judged A) → Holds (λ v. j ≡ Good v) j
holds-itself (Good v) = refl
holds-itself (Bad own f fs) = tt

-- a value for this type, or none
abbrev IsGivenOption : Surroundings → Judged DataType → Option Expression → Type 0
IsGivenOption a u None = Unit {0}
IsGivenOption a u (Some e) = IsGiven a (found u) e

-- what is given back for this type
abbrev IsBack : Surroundings → Judged DataType → DataType × Option Expression → Type 0
IsBack a u v = (u ≡ Good v.0) × (is_given a v.1 v.0 ≡ true)

-- ---- expressions in statements

module _ (t : Text) (w : Around) (s : Scope) (a : Surroundings) (stands : Stands t w a) (inside : Inside t a.parts s) (front : IsFront s.variables a.variables) where
  abbrev formats : ℕ
  formats = length t.formats

  found-typed : (e : Phrase) → is_formed formats e ≡ true → Holds (IsFound a) (expression t s w e)
  found-typed e form = expression-typed t s w a stands.whole inside.0 front e form

  condition-typed : (e : Phrase) → is_formed formats e ≡ true → Holds (IsNumber a) (condition t w s e)
  condition-typed e form = holds-number a (place_of e) (expression t s w e) (found-typed e form)

  optional_condition-typed : (o : Option Phrase) → is_formed_option formats o ≡ true → Holds (λ x. is_number_option a x ≡ true) (optional_condition t w s o)
  optional_condition-typed None form = refl
  optional_condition-typed (Some e) form =
      holds-map (λ x. is_number_option a x ≡ true) some (condition t w s e)
      (holds-weaker (IsNumber a) _ (λ x h. and_from _ _ h.0 h.1) (condition t w s e) (condition-typed e form))

  any_value-typed : (e : Phrase) → is_formed formats e ≡ true → Holds (λ x. is_typed a x ≡ true) (any_value t w s e)
  any_value-typed e form =
      holds-map (λ x. is_typed a x ≡ true) value_of (expression t s w e)
      (holds-weaker (IsFound a) _ (λ v h. (value-typed a v h).0) (expression t s w e) (found-typed e form))

  optional_value-typed : (o : Option Phrase) → is_formed_option formats o ≡ true → Holds (λ x. is_typed_option a x ≡ true) (optional_value t w s o)
  optional_value-typed None form = refl
  optional_value-typed (Some e) form =
      holds-map (λ x. is_typed_option a x ≡ true) some (any_value t w s e) (any_value-typed e form)

  given-typed : (u : Judged DataType) (e : Phrase) → is_formed formats e ≡ true → Holds (IsGiven a (found u)) (given t w s u e)
  given-typed u e form = holds-assigned a (place_of e) (found u) (expression t s w e) (found-typed e form)

  given-option : (u : Judged DataType) (v : DataType) (o : Option Expression) → u ≡ Good v → IsGivenOption a u o → is_given a o v ≡ true
  given-option u v None e h = refl
  given-option u v (Some x) e h = and_from _ _ h.0 (ap (λ q. may_be_assigned q (type_of x)) (sym (found-Good u v e)) ∙ h.1)

  -- ---- local variables

  initial-typed : (u : Judged DataType) (f : LocalForm) → is_formed_form formats f ≡ true → Holds (IsGivenOption a u) (initial t w s u f)
  initial-typed u form.Plain form = tt
  initial-typed u (form.Array n) form = tt
  initial-typed u (form.Value e) form = holds-map (IsGivenOption a u) some (given t w s u e) (given-typed u e form)

  variable-typed : (u : DataType) (o : Option Expression) → slice_get a.variables (length s.variables) ≡ Some u → is_given a o u ≡ true → is_typed_statement a (variable_of (length s.variables) u o) ≡ true
  variable-typed u None at h =
      typed-Declare a (length s.variables) u ∙ ap (λ q. is_of_type q u) at ∙ type-same u
  variable-typed u (Some e) at h =
      typed-Initialize a (length s.variables) u e
      ∙ and_from _ _ (and_from _ _ (ap (λ q. is_of_type q u) at ∙ type-same u) (left _ _ h)) (right _ _ h)

  variable-sites : (u : DataType) (o : Option Expression) → sites_in (variable_of (length s.variables) u o) ≡ []
  variable-sites u None = sites-Declare (length s.variables) u
  variable-sites u (Some e) = sites-Initialize (length s.variables) u e

  local-typed : (l : Local) → is_formed_form formats l.form ≡ true → IsFront (declared w.scope s l.name (outcome (local_type s l))).variables a.variables
      → Holds (λ x. IsSound a.parts s (declared w.scope s l.name (outcome (local_type s l))) (is_typed_statement a x) (sites_in x)) (local t w s l)
  local-typed l form ends =
      holds-map _ (variable_made (length s.variables)) _
      (holds-weaker (λ v. ((is_here w.scope (meaning_at s l.name) ≡ false) × (local_type s l ≡ Good v.0.1)) × IsGivenOption a (local_type s l) v.1) _ together _
      (holds-both (λ v. (is_here w.scope (meaning_at s l.name) ≡ false) × (local_type s l ≡ Good v.1)) (IsGivenOption a (local_type s l)) _ _
      (holds-both (λ u. is_here w.scope (meaning_at s l.name) ≡ false) (λ u. local_type s l ≡ Good u) _ _
      (holds-unless (λ u. is_here w.scope (meaning_at s l.name) ≡ false) (not (is_here w.scope (meaning_at s l.name))) l.name.place kind.Duplicate tt (not-true (is_here w.scope (meaning_at s l.name))))
      (holds-itself (local_type s l)))
      (initial-typed (local_type s l) l.form form)))
    where
      next : Scope
      next = declared w.scope s l.name (outcome (local_type s l))

      not-true : (b : Bool) → not b ≡ true → b ≡ false
      not-true true f = cc
      not-true false f = refl

      same-sites : next.sites ≡ s.sites
      same-sites = declared-sites w.scope s l.name (outcome (local_type s l))

      together : (v : (Unit {0} × DataType) × Option Expression) → ((is_here w.scope (meaning_at s l.name) ≡ false) × (local_type s l ≡ Good v.0.1)) × IsGivenOption a (local_type s l) v.1
          → IsSound a.parts s next (is_typed_statement a (variable_made (length s.variables) v)) (sites_in (variable_made (length s.variables) v))
      together v h =
          let variables = declared-variables w.scope s l.name (outcome (local_type s l)) v.0.1 h.0.0 (ap outcome h.0.1) in (
            variable-typed v.0.1 v.1 (front-get (s.variables ++ v.0.1 ∷ []) a.variables (subst (λ q. IsFront q a.variables) variables ends) (length s.variables) v.0.1 (get-more s.variables v.0.1)) (given-option (local_type s l) v.0.1 v.1 h.0.1 h.1),
            λ i. ap (list_all (is_typed_site a.parts)) same-sites ∙ i,
            (0, variable-sites v.0.1 v.1, let e = ap length same-sites in omega (arith, e)),
          )

  -- ---- what is given back

  with-value : (p : Place) (u : Judged DataType) → Holds (λ v. (u ≡ Good v) × (checked u (has_value p) ≡ Good v)) (checked u (has_value p))
  unfolding checked
  with-value p (Good v) = holds-weaker (λ x. (v ≡ x) × (has_value p v ≡ Good x)) _ (λ x h. (ap (λ y. Good y) h.0, h.1)) (has_value p v) (here (not (is_void v)))
    where
      here : (b : Bool) → Holds (λ x. (v ≡ x) × (unless b p kind.ValueHere v ≡ Good x)) (unless b p kind.ValueHere v)
      here true = (refl, refl)
      here false = tt
  with-value p (Bad own f fs) = tt

  back-typed : (p : Place) (u : Judged DataType) (o : Option Phrase) → is_formed_option formats o ≡ true → Holds (IsBack a u) (value_back t w s p u o)
  back-typed p u None form =
      holds-map (IsBack a u) (λ (v : DataType). (v, None)) u (holds-weaker (λ v. u ≡ Good v) _ (λ v h. (h, refl)) u (holds-itself u))
  back-typed p u (Some e) form =
      holds-weaker (λ v. ((u ≡ Good v.0) × (checked u (has_value p) ≡ Good v.0)) × IsGivenOption a (checked u (has_value p)) v.1) (IsBack a u)
      (λ v h. (h.0.0, given-option (checked u (has_value p)) v.0 v.1 h.0.1 h.1)) _
      (holds-both (λ v. (u ≡ Good v) × (checked u (has_value p) ≡ Good v)) (IsGivenOption a (checked u (has_value p))) _ _ (with-value p u)
      (holds-map (IsGivenOption a (checked u (has_value p))) some (given t w s (checked u (has_value p)) e) (given-typed (checked u (has_value p)) e form)))

  finish-typed : (v : DataType × Option Expression) → is_body a.kind ≡ true → a.replies ≡ None → a.result ≡ Some v.0 → is_given a v.1 v.0 ≡ true → is_typed_statement a (statement.Finish v.1) ≡ true
  finish-typed v b outside result h = typed-Finish a v.1 ∙ and_from _ _ (and_from _ _ b (ap is_outside outside)) (value v.1 h)
    where
      value : (o : Option Expression) → is_given a o v.0 ≡ true → is_finish a o ≡ true
      value None i = refl
      value (Some e) i = ap (λ r. is_for a r e) result ∙ i

  return-typed : (r : Role) (v : DataType × Option Expression) → RoleStands a.parts a.kind a.result a.variables r → a.replies ≡ None → IsBack a (type_of_role r) v → IsSound a.parts s s (is_typed_statement a (return_in r v)) (sites_in (return_in r v))
  return-typed (role.Function o) v h outside i =
      still a.parts s _ _ (typed-Return a v.1 v.0 ∙ and_from _ _ (and_from _ _ (ap (λ q. not (is_body q)) h.0) (ap (λ q. is_of_type q v.0) (role-result a.parts a.kind a.result a.variables (role.Function o) v.0 h i.0) ∙ type-same v.0)) i.1) (sites-Return v.1 v.0)
  return-typed (role.Main o) v h outside i =
      still a.parts s _ _ (finish-typed v (ap is_body h.0) outside (role-result a.parts a.kind a.result a.variables (role.Main o) v.0 h i.0) i.1) (sites-Finish v.1)
  return-typed (role.Body (Ok k)) v h outside i =
      still a.parts s _ _ (finish-typed v (ap is_body h.0) outside (role-result a.parts a.kind a.result a.variables (role.Body (Ok k)) v.0 h i.0) i.1) (sites-Finish v.1)
  return-typed (role.Body (Err f)) v h outside i = absurd h

  replied-typed : (p : Place) (v : DataType × Option Expression) → IsBack a (replying w.reply p) v → IsSound a.parts s s (is_typed_statement a (replied v)) (sites_in (replied v))
  replied-typed p v i =
      still a.parts s _ _ (typed-TransactionReturn a v.1 v.0 ∙ and_from _ _ (ap (λ q. is_of_type q v.0) (reply-result a.replies w.reply p v.0 stands.reply i.0) ∙ type-same v.0) i.1) (sites-TransactionReturn v.1 v.0)

-- ---- the induction

abbrev pub IsStatement : Surroundings → Scope → Scope → TypedStatement → Type 0
IsStatement a s r x = IsSound a.parts s r (is_typed_statement a x) (sites_in x)

abbrev pub AreStatements : Surroundings → Scope → Scope → List TypedStatement → Type 0
AreStatements a s r xs = IsSound a.parts s r (list_all (is_typed_statement a) xs) (sites_of_body xs)

abbrev AreAlternatives : Surroundings → Scope → Scope → List TypedAlternative → Type 0
AreAlternatives a s r xs = IsSound a.parts s r (list_all (is_typed_alternative a) xs) (sites_of_list xs)

abbrev IsChoice : Surroundings → Scope → Scope → Choice → TypedChoice → Type 0
IsChoice a s r c x =
    IsSound a.parts s r (is_typed_choice a x) (sites_of_choice x) × (is_terminate x ≡ formed.is_terminate c)

-- one after the other
sound-on : (p : Parts) (s r q : Scope) (b c d : Bool) (xs ys zs : List ℕ) → IsSound p s r b xs → IsSound p r q c ys → (b ≡ true → c ≡ true → d ≡ true) → zs ≡ xs ++ ys → IsSound p s q d zs
sound-on p s r q b c d xs ys zs h i go e =
    (go h.0 i.0, λ all. i.1 (h.1 all), renamed (length s.sites) (length q.sites) (xs ++ ys) zs e (numbered-on (length s.sites) (length r.sites) (length q.sites) xs ys h.2 i.2))

sound-as : (p : Parts) (s r : Scope) (b d : Bool) (xs zs : List ℕ) → IsSound p s r b xs → (b ≡ true → d ≡ true) → zs ≡ xs → IsSound p s r d zs
sound-as p s r b d xs zs h go e = (go h.0, h.1, renamed (length s.sites) (length r.sites) xs zs e h.2)

-- what ends further on is a front here, too
pub ends-before : (a : Surroundings) (s r : Scope) → Grows s r → Ends a r → Ends a s
ends-before a s r g h =
    (front-on s.variables r.variables a.variables g.variables h.0, front-on s.sites r.sites a.parts.sites g.sites h.1)

entries-empty : {n : _} (t : Text) (w : Around) (s : Scope) (row : Row_of-Statement n) → Holds (λ xs. is_empty_row row ≡ true → is_empty xs ≡ true) (all_judged t w s row)
unfolding judged
entries-empty t w s end_of-Statement = λ e. refl
entries-empty t w s (more_of-Statement x rest) = holds-all (λ xs. false ≡ true → is_empty xs ≡ true) _ (λ xs e. false-true e)

terminated : (b c d e : Bool) → b ≡ c → (not c || d) ≡ true → (d ≡ true → e ≡ true) → (not b || e) ≡ true
terminated b true d e h i go = or_right _ _ (go i)
terminated b false d e h i go = or_left _ _ (ap not h)

abbrev IsPartAt : Surroundings → Scope → Scope → TypedAccept → Type 0
IsPartAt a s r x =
    IsSound a.parts s r (is_accepted a (slice_get a.parts.sites x.site) && list_all (is_typed_statement (in_accept a x.site)) x.block) (x.site ∷ sites_of_body x.block)

-- an alternative
abbrev IsAlternative : Surroundings → Scope → Scope → TypedAlternative → Type 0
IsAlternative a s r x =
    IsSound a.parts s r (is_typed_alternative a x) (sites_of_choice x.choice ++ sites_of_body x.entries)

module _ (a : Surroundings) (s : Scope) where
  block-sound : (r : Scope) (j : Judged (List TypedStatement)) → Holds (AreStatements a s r) j → Holds (IsStatement a s r) (map blocked j)
  block-sound r j h =
      holds-map (IsStatement a s r) blocked j
      (holds-weaker (AreStatements a s r) (λ xs. IsStatement a s r (blocked xs)) (λ xs i. sound-as a.parts s r (list_all (is_typed_statement a) xs) (is_typed_statement a (blocked xs)) (sites_of_body xs) (sites_in (blocked xs)) i (λ b. typed-Block a xs ∙ b) (sites-Block xs)) j h)

  evaluate-sound : (j : Judged Expression) → Holds (λ x. is_typed a x ≡ true) j → Holds (IsStatement a s s) (map evaluated j)
  evaluate-sound j h =
      holds-map (IsStatement a s s) evaluated j
      (holds-weaker (λ x. is_typed a x ≡ true) (λ x. IsStatement a s s (evaluated x)) (λ x i. still a.parts s (is_typed_statement a (evaluated x)) (sites_in (evaluated x)) (typed-Evaluate a x ∙ i) (sites-Evaluate x)) j h)

  if-sound : (r : Scope) (j : Judged Expression) (k : Judged TypedStatement) → Holds (IsNumber a) j → Holds (IsStatement a s r) k → Holds (IsStatement a s r) (map branched (both j k))
  if-sound r j k h i =
      holds-map (IsStatement a s r) branched (both j k)
      (holds-weaker (λ v. IsNumber a v.0 × IsStatement a s r v.1) (λ v. IsStatement a s r (branched v)) (λ v g. sound-as a.parts s r (is_typed_statement a v.1) (is_typed_statement a (branched v)) (sites_in v.1) (sites_in (branched v)) g.1 (λ b. typed-If a v.0 v.1 ∙ and_from _ _ (and_from _ _ g.0.0 g.0.1) b) (sites-If v.0 v.1)) (both j k)
      (holds-both (IsNumber a) (IsStatement a s r) j k h i))

  if_else-sound : (r q : Scope) (j : Judged Expression) (k l : Judged TypedStatement) → Holds (IsNumber a) j → Holds (IsStatement a s r) k → Holds (IsStatement a r q) l → Holds (IsStatement a s q) (map branched_both (both (both j k) l))
  if_else-sound r q j k l h i g =
      holds-map (IsStatement a s q) branched_both (both (both j k) l)
      (holds-weaker (λ v. (IsNumber a v.0.0 × IsStatement a s r v.0.1) × IsStatement a r q v.1) (λ v. IsStatement a s q (branched_both v))
      (λ v f. sound-on a.parts s r q (is_typed_statement a v.0.1) (is_typed_statement a v.1) (is_typed_statement a (branched_both v)) (sites_in v.0.1) (sites_in v.1) (sites_in (branched_both v)) f.0.1 f.1 (λ b d. typed-IfElse a v.0.0 v.0.1 v.1 ∙ and_from _ _ (and_from _ _ (and_from _ _ f.0.0.0 f.0.0.1) b) d) (sites-IfElse v.0.0 v.0.1 v.1)) (both (both j k) l)
      (holds-both (λ v. IsNumber a v.0 × IsStatement a s r v.1) (IsStatement a r q) (both j k) l (holds-both (IsNumber a) (IsStatement a s r) j k h i) g))

  while-sound : (r : Scope) (j : Judged Expression) (k : Judged TypedStatement) → Holds (IsNumber a) j → Holds (IsStatement (inside_loop a) s r) k → Holds (IsStatement a s r) (map looped (both j k))
  while-sound r j k h i =
      holds-map (IsStatement a s r) looped (both j k)
      (holds-weaker (λ v. IsNumber a v.0 × IsStatement (inside_loop a) s r v.1) (λ v. IsStatement a s r (looped v)) (λ v g. sound-as a.parts s r (is_typed_statement (inside_loop a) v.1) (is_typed_statement a (looped v)) (sites_in v.1) (sites_in (looped v)) g.1 (λ b. typed-While a v.0 v.1 ∙ and_from _ _ (and_from _ _ g.0.0 g.0.1) b) (sites-While v.0 v.1)) (both j k)
      (holds-both (IsNumber a) (IsStatement (inside_loop a) s r) j k h i))

  do-sound : (r : Scope) (k : Judged TypedStatement) (j : Judged Expression) → Holds (IsStatement (inside_loop a) s r) k → Holds (IsNumber a) j → Holds (IsStatement a s r) (map looped_after (both k j))
  do-sound r k j i h =
      holds-map (IsStatement a s r) looped_after (both k j)
      (holds-weaker (λ v. IsStatement (inside_loop a) s r v.0 × IsNumber a v.1) (λ v. IsStatement a s r (looped_after v)) (λ v g. sound-as a.parts s r (is_typed_statement (inside_loop a) v.0) (is_typed_statement a (looped_after v)) (sites_in v.0) (sites_in (looped_after v)) g.0 (λ b. typed-DoWhile a v.0 v.1 ∙ and_from _ _ b (and_from _ _ g.1.0 g.1.1)) (sites-DoWhile v.0 v.1)) (both k j)
      (holds-both (IsStatement (inside_loop a) s r) (IsNumber a) k j i h))

  abbrev IsLoop : Option Expression × (Option Expression × Option Expression) → Type 0
  IsLoop v =
      (is_typed_option a v.0 ≡ true) × ((is_number_option a v.1.0 ≡ true) × (is_typed_option a v.1.1 ≡ true))

  for-sound : (r : Scope) (e c n : Judged (Option Expression)) (k : Judged TypedStatement) → Holds (λ o. is_typed_option a o ≡ true) e → Holds (λ o. is_number_option a o ≡ true) c → Holds (λ o. is_typed_option a o ≡ true) n → Holds (IsStatement (inside_loop a) s r) k
      → Holds (IsStatement a s r) (map looped_for (both (both e (both c n)) k))
  for-sound r e c n k h i g f =
      holds-map (IsStatement a s r) looped_for (both (both e (both c n)) k)
      (holds-weaker (λ v. IsLoop v.0 × IsStatement (inside_loop a) s r v.1) (λ v. IsStatement a s r (looped_for v))
      (λ v x. sound-as a.parts s r (is_typed_statement (inside_loop a) v.1) (is_typed_statement a (looped_for v)) (sites_in v.1) (sites_in (looped_for v)) x.1 (λ b. typed-For a v.0.0 v.0.1.0 v.0.1.1 v.1 ∙ and_from _ _ (and_from _ _ (and_from _ _ x.0.0 x.0.1.0) x.0.1.1) b) (sites-For v.0.0 v.0.1.0 v.0.1.1 v.1)) (both (both e (both c n)) k)
      (holds-both IsLoop (IsStatement (inside_loop a) s r) (both e (both c n)) k
      (holds-both (λ o. is_typed_option a o ≡ true) (λ v. (is_number_option a v.0 ≡ true) × (is_typed_option a v.1 ≡ true)) e (both c n) h (holds-both (λ o. is_number_option a o ≡ true) (λ o. is_typed_option a o ≡ true) c n i g)) f))

  break-sound : (j : Judged (Unit {0})) → Holds (λ u. a.may_break ≡ true) j → Holds (IsStatement a s s) (map broken j)
  break-sound j h =
      holds-map (IsStatement a s s) broken j
      (holds-weaker (λ u. a.may_break ≡ true) (λ u. IsStatement a s s (broken u)) (λ u i. still a.parts s (is_typed_statement a statement.Break) (sites_in statement.Break) (typed-Break a ∙ i) sites-Break) j h)

  continue-sound : (j : Judged (Unit {0})) → Holds (λ u. a.may_continue ≡ true) j → Holds (IsStatement a s s) (map continued j)
  continue-sound j h =
      holds-map (IsStatement a s s) continued j
      (holds-weaker (λ u. a.may_continue ≡ true) (λ u. IsStatement a s s (continued u)) (λ u i. still a.parts s (is_typed_statement a statement.Continue) (sites_in statement.Continue) (typed-Continue a ∙ i) sites-Continue) j h)

  delay-sound : (j : Judged Expression) → Holds (IsNumber a) j → Holds (IsStatement a s s) (map delayed j)
  delay-sound j h =
      holds-map (IsStatement a s s) delayed j
      (holds-weaker (IsNumber a) (λ x. IsStatement a s s (delayed x)) (λ x i. still a.parts s (is_typed_statement a (delayed x)) (sites_in (delayed x)) (typed-Delay a x ∙ and_from _ _ i.0 i.1) (sites-Delay x)) j h)

  accepting-sound : (r : Scope) (j : Judged TypedAccept) → Holds (IsPartAt a s r) j → Holds (IsStatement a s r) (map accepting j)
  accepting-sound r j h =
      holds-map (IsStatement a s r) accepting j
      (holds-weaker (IsPartAt a s r) (λ x. IsStatement a s r (accepting x)) (λ x i. sound-as a.parts s r _ (is_typed_statement a (accepting x)) (x.site ∷ sites_of_body x.block) (sites_in (accepting x)) i (λ b. typed-Accept a x ∙ b) (sites-Accept x)) j h)

  offered-sound : (r : Scope) (h : AcceptHead) (j : Judged TypedAccept) (c : Choice) → formed.is_terminate c ≡ false → Holds (IsPartAt a s r) j → Holds (IsChoice a s r c) (map choice_accepting j)
  offered-sound r h j c e i =
      holds-map (IsChoice a s r c) choice_accepting j
      (holds-weaker (IsPartAt a s r) (λ x. IsChoice a s r c (choice_accepting x)) (λ x g. (sound-as a.parts s r _ (is_typed_choice a (choice_accepting x)) (x.site ∷ sites_of_body x.block) (sites_of_choice (choice_accepting x)) g (λ b. typed_choice.choice-Accept a x ∙ b) (of_choice.choice-Accept x), typed_choice.terminate-Accept x ∙ sym e)) j i)

  waiting-sound : (j : Judged Expression) (c : Choice) → formed.is_terminate c ≡ false → Holds (IsNumber a) j → Holds (IsChoice a s s c) (map choice_delaying j)
  waiting-sound j c e h =
      holds-map (IsChoice a s s c) choice_delaying j
      (holds-weaker (IsNumber a) (λ x. IsChoice a s s c (choice_delaying x)) (λ x i. (still a.parts s (is_typed_choice a (choice_delaying x)) (sites_of_choice (choice_delaying x)) (typed_choice.choice-Delay a x ∙ and_from _ _ i.0 i.1) (of_choice.choice-Delay x), typed_choice.terminate-Delay x ∙ sym e)) j h)

  select-sound : (r : Scope) (n : ℕ) (j : Judged (Result ℕ FaultAt)) (k : Judged (List TypedAlternative)) → nat_le n most_things ≡ true → Holds (λ o. is_process_body a.kind ≡ true) j → Holds (λ xs. AreAlternatives a s r xs × (length xs ≡ n)) k → Holds (IsStatement a s r) (map selected (both j k))
  select-sound r n j k few h i =
      holds-map (IsStatement a s r) selected (both j k)
      (holds-weaker (λ v. (is_process_body a.kind ≡ true) × (AreAlternatives a s r v.1 × (length v.1 ≡ n))) (λ v. IsStatement a s r (selected v))
      (λ v g. sound-as a.parts s r (list_all (is_typed_alternative a) v.1) (is_typed_statement a (selected v)) (sites_of_list v.1) (sites_in (selected v)) g.1.0 (λ b. typed-Select a v.1 ∙ and_from _ _ (and_from _ _ g.0 (ap (λ m. nat_le m most_things) g.1.1 ∙ few)) b) (sites-Select v.1)) (both j k)
      (holds-both (λ o. is_process_body a.kind ≡ true) (λ xs. AreAlternatives a s r xs × (length xs ≡ n)) j k h i))

  pub one-more : (r q : Scope) (j : Judged TypedStatement) (k : Judged (List TypedStatement)) → Holds (IsStatement a s r) j → Holds (AreStatements a r q) k → Holds (AreStatements a s q) (map in_front (both j k))
  one-more r q j k h i =
      holds-map (AreStatements a s q) in_front (both j k)
      (holds-weaker (λ v. IsStatement a s r v.0 × AreStatements a r q v.1) (λ v. AreStatements a s q (in_front v))
      (λ v g. sound-on a.parts s r q (is_typed_statement a v.0) (list_all (is_typed_statement a) v.1) (list_all (is_typed_statement a) (in_front v)) (sites_in v.0) (sites_of_body v.1) (sites_of_body (in_front v)) g.0 g.1 (λ b d. and_from _ _ b d) refl) (both j k)
      (holds-both (IsStatement a s r) (AreStatements a r q) j k h i))

  alternative-sound : (chosen last : Scope) (c : Choice) (b : Bool) (g : Judged (Option Expression)) (j : Judged TypedChoice) (k : Judged (List TypedStatement)) → Holds (λ o. is_number_option a o ≡ true) g → Holds (IsChoice a s chosen c) j → Holds (AreStatements a chosen last) k → Holds (λ xs. b ≡ true → is_empty xs ≡ true) k
      → (not (formed.is_terminate c) || b) ≡ true → Holds (IsAlternative a s last) (map alternative_made (both (both g j) k))
  alternative-sound chosen last c b g j k h i f e form =
      holds-map (IsAlternative a s last) alternative_made (both (both g j) k)
      (holds-weaker (λ v. ((is_number_option a v.0.0 ≡ true) × IsChoice a s chosen c v.0.1) × (AreStatements a chosen last v.1 × (b ≡ true → is_empty v.1 ≡ true))) (λ v. IsAlternative a s last (alternative_made v))
      (λ v x. sound-on a.parts s chosen last (is_typed_choice a v.0.1) (list_all (is_typed_statement a) v.1) (is_typed_alternative a (alternative_made v)) (sites_of_choice v.0.1) (sites_of_body v.1) (sites_of_choice v.0.1 ++ sites_of_body v.1) x.0.1.0 x.1.0
      (λ y z. and_from _ _ (and_from _ _ (and_from _ _ x.0.0 y) (terminated (is_terminate v.0.1) (formed.is_terminate c) b (is_empty v.1) x.0.1.1 form x.1.1)) z) refl) (both (both g j) k)
      (holds-both (λ v. (is_number_option a v.0 ≡ true) × IsChoice a s chosen c v.1) (λ xs. AreStatements a chosen last xs × (b ≡ true → is_empty xs ≡ true)) (both g j) k
      (holds-both (λ o. is_number_option a o ≡ true) (IsChoice a s chosen c) g j h i)
      (holds-and (AreStatements a chosen last) (λ xs. b ≡ true → is_empty xs ≡ true) k f e)))

  one-more_alternative : (r q : Scope) (n : ℕ) (j : Judged TypedAlternative) (k : Judged (List TypedAlternative)) → Holds (IsAlternative a s r) j → Holds (λ xs. AreAlternatives a r q xs × (length xs ≡ n)) k → Holds (λ xs. AreAlternatives a s q xs × (length xs ≡ suc n)) (map in_front (both j k))
  one-more_alternative r q n j k h i =
      holds-map (λ xs. AreAlternatives a s q xs × (length xs ≡ suc n)) in_front (both j k)
      (holds-weaker (λ v. IsAlternative a s r v.0 × (AreAlternatives a r q v.1 × (length v.1 ≡ n))) (λ v. AreAlternatives a s q (in_front v) × (length (in_front v) ≡ suc n))
      (λ v g. (sound-on a.parts s r q (is_typed_alternative a v.0) (list_all (is_typed_alternative a) v.1) (list_all (is_typed_alternative a) (in_front v)) (sites_of_choice v.0.choice ++ sites_of_body v.0.entries) (sites_of_list v.1) (sites_of_list (in_front v)) g.0 g.1.0 (λ b d. and_from _ _ b d) refl, ap suc g.1.1)) (both j k)
      (holds-both (IsAlternative a s r) (λ xs. AreAlternatives a r q xs × (length xs ≡ n)) j k h i))

module _ (t : Text) where
  return-sound : (w : Around) (s : Scope) (a : Surroundings) (stands : Stands t w a) (inside : Inside t a.parts s) (front : IsFront s.variables a.variables) (j : Judged (Unit {0})) (k : Judged (DataType × Option Expression)) → Holds (λ u. a.replies ≡ None) j → Holds (IsBack a (type_of_role w.role)) k
      → Holds (IsStatement a s s) (map (return_in w.role) (map second (both j k)))
  return-sound w s a stands inside front j k h i =
      holds-map (IsStatement a s s) (return_in w.role) (map second (both j k))
      (holds-map (λ v. IsStatement a s s (return_in w.role v)) second (both j k)
      (holds-weaker (λ v. (a.replies ≡ None) × IsBack a (type_of_role w.role) v.1) (λ v. IsStatement a s s (return_in w.role v.1)) (λ v g. return-typed t w s a stands inside front w.role v.1 stands.role g.0 g.1) (both j k)
      (holds-both (λ u. a.replies ≡ None) (IsBack a (type_of_role w.role)) j k h i)))

  -- an accept whose block is sound where it stands
  accept-typed : (w : Around) (s : Scope) (a : Surroundings) (h : AcceptHead) (r : Scope) (block : Judged (List TypedStatement)) → (are_once h.clauses && are_formed_clauses (length t.formats) h.clauses) ≡ true → (stands : Stands t w a) → Inside t a.parts s → Grows (before_block t w s h) r → Ends a r
      → (Stands t (around_block t w h) (in_accept a (length s.sites)) → Holds (AreStatements (in_accept a (length s.sites)) (before_block t w s h) r) block) → Holds (IsPartAt a s r) (map (part_made (length s.sites)) (both (head_of t w s h) block))
  accept-typed w s a h r block form stands inside g ends go =
      accept-sound t w s a stands inside h r block (left _ _ form) (right _ _ form)
      (front-on (in_names t w s h).variables (before_block t w s h).variables a.variables (goes-site t a.parts stands.whole (mapped (site_of w s) (found (head_of t w s h))) (in_names t w s h)).0.variables before.0) before.1
      (λ v e i. go (stands-block t w s a stands inside h v e i before.1))
    where
      before : Ends a (before_block t w s h)
      before = ends-before a (before_block t w s h) r g ends

  -- what is visible after the choice and after the entries of an alternative
  abbrev last_of : {n : _} → Around → Scope → Choice → Row_of-Statement n → Scope
  last_of w s c entries = after_all t (deeper w) (after_choice t w s c) entries

  alternative-goes : {n : _} (p : Parts) (whole : TextFits t p) (w : Around) (s : Scope) (c : Choice) (entries : Row_of-Statement n) → Goes t p whole s (left_scope s (last_of w s c entries))
  alternative-goes p whole w s c entries =
      goes-left t p whole s (last_of w s c entries) (goes-on t p whole s (after_choice t w s c) (last_of w s c entries) (choice-goes t p whole w s c) (all-goes t p whole (deeper w) (after_choice t w s c) entries))

  ends-last : {n m : _} (w : Around) (s : Scope) (a : Surroundings) (whole : TextFits t a.parts) (c : Choice) (entries : Row_of-Statement n) (rest : Row_of-Alternative m) → Ends a (after_alternatives t w (left_scope s (last_of w s c entries)) rest) → Ends a (last_of w s c entries)
  ends-last w s a whole c entries rest ends =
      ends-before a (left_scope s (last_of w s c entries)) (after_alternatives t w (left_scope s (last_of w s c entries)) rest) (alternatives-go t a.parts whole w (left_scope s (last_of w s c entries)) rest).0 ends

  ends-chosen : {n : _} (w : Around) (s : Scope) (a : Surroundings) (whole : TextFits t a.parts) (c : Choice) (entries : Row_of-Statement n) → Ends a (last_of w s c entries) → Ends a (after_choice t w s c)
  ends-chosen w s a whole c entries ends =
      ends-before a (after_choice t w s c) (last_of w s c entries) (all-goes t a.parts whole (deeper w) (after_choice t w s c) entries).0 ends

  front-chosen : (w : Around) (s : Scope) (a : Surroundings) (whole : TextFits t a.parts) (c : Choice) → Ends a (after_choice t w s c) → IsFront s.variables a.variables
  front-chosen w s a whole c ends = front-on s.variables (after_choice t w s c).variables a.variables (choice-goes t a.parts whole w s c).0.variables ends.0

  front-after : (w : Around) (s : Scope) (a : Surroundings) (whole : TextFits t a.parts) (x : Statement) → Ends a (after t w s x) → IsFront s.variables a.variables
  front-after w s a whole x ends = front-on s.variables (after t w s x).variables a.variables (after-goes t a.parts whole w s x).0.variables ends.0

  ends-first : (w : Around) (s : Scope) (a : Surroundings) (whole : TextFits t a.parts) (x y : Statement) → Ends a (after t w (after t w s x) y) → Ends a (after t w s x)
  ends-first w s a whole x y ends =
      ends-before a (after t w s x) (after t w (after t w s x) y) (after-goes t a.parts whole w (after t w s x) y).0 ends

  ends-row : {n : _} (w : Around) (s : Scope) (a : Surroundings) (whole : TextFits t a.parts) (x : Statement) (rest : Row_of-Statement n) → Ends a (after_all t w (after t w s x) rest) → Ends a (after t w s x)
  ends-row w s a whole x rest ends =
      ends-before a (after t w s x) (after_all t w (after t w s x) rest) (all-goes t a.parts whole w (after t w s x) rest).0 ends

  mutual
    unfolding judged after is_formed_statement count_alternatives

    pub judged-sound : (w : Around) (s : Scope) (a : Surroundings) (e : Statement) → is_formed_statement (length t.formats) e ≡ true → Stands t w a → Inside t a.parts s → Ends a (after t w s e) → Holds (IsStatement a s (after t w s e)) (judged t w s e)
    judged-sound w s a Empty form stands inside ends =
        still a.parts s (is_typed_statement a statement.Empty) (sites_in statement.Empty) (typed-Empty a) sites-Empty
    judged-sound w s a (Declare l) form stands inside ends =
        local-typed t w s a stands inside (front-after w s a stands.whole (Declare l) ends) l form ends.0
    judged-sound w s a (Block' _ all) form stands inside ends =
        block-sound a s (left_scope s (after_all t (deeper w) s all)) (all_judged t (deeper w) s all) (all-sound (deeper w) s a all form (stands-deeper t w a stands) inside ends)
    judged-sound w s a (Evaluate e) form stands inside ends =
        evaluate-sound a s (any_value t w s e) (any_value-typed t w s a stands inside ends.0 e form)
    judged-sound w s a (branch c x) form stands inside ends =
        if-sound a s (after t w s x) (condition t w s c) (judged t w s x) (condition-typed t w s a stands inside (front-after w s a stands.whole x ends) c (left _ _ form)) (judged-sound w s a x (right _ _ form) stands inside ends)
    judged-sound w s a (branches c x y) form stands inside ends =
        if_else-sound a s (after t w s x) (after t w (after t w s x) y) (condition t w s c) (judged t w s x) (judged t w (after t w s x) y)
        (condition-typed t w s a stands inside (front-after w s a stands.whole x (ends-first w s a stands.whole x y ends)) c (left _ _ (left _ _ form)))
        (judged-sound w s a x (right _ _ (left _ _ form)) stands inside (ends-first w s a stands.whole x y ends))
        (judged-sound w (after t w s x) a y (right _ _ form) stands ((after-goes t a.parts stands.whole w s x).1 inside) ends)
    judged-sound w s a (while_loop c x) form stands inside ends =
        while-sound a s (after t (scopes.inside_loop w) s x) (condition t w s c) (judged t (scopes.inside_loop w) s x)
        (condition-typed t w s a stands inside (front-after (scopes.inside_loop w) s a stands.whole x ends) c (left _ _ form))
        (judged-sound (scopes.inside_loop w) s (inside_loop a) x (right _ _ form) (stands-loop t w a stands) inside ends)
    judged-sound w s a (do_loop x c) form stands inside ends =
        do-sound a s (after t (scopes.inside_loop w) s x) (judged t (scopes.inside_loop w) s x) (condition t w (after t (scopes.inside_loop w) s x) c)
        (judged-sound (scopes.inside_loop w) s (inside_loop a) x (left _ _ form) (stands-loop t w a stands) inside ends)
        (condition-typed t w (after t (scopes.inside_loop w) s x) a stands ((after-goes t a.parts stands.whole (scopes.inside_loop w) s x).1 inside) ends.0 c (right _ _ form))
    judged-sound w s a (for_loop e c next x) form stands inside ends =
        for-sound a s (after t (scopes.inside_loop w) s x) (optional_value t w s e) (optional_condition t w s c) (optional_value t w s next) (judged t (scopes.inside_loop w) s x)
        (optional_value-typed t w s a stands inside (front-after (scopes.inside_loop w) s a stands.whole x ends) e (left _ _ (left _ _ (left _ _ form))))
        (optional_condition-typed t w s a stands inside (front-after (scopes.inside_loop w) s a stands.whole x ends) c (right _ _ (left _ _ (left _ _ form))))
        (optional_value-typed t w s a stands inside (front-after (scopes.inside_loop w) s a stands.whole x ends) next (right _ _ (left _ _ form)))
        (judged-sound (scopes.inside_loop w) s (inside_loop a) x (right _ _ form) (stands-loop t w a stands) inside ends)
    judged-sound w s a (Break p) form stands inside ends =
        break-sound a s (leaving w.breaks p) (leaving-typed a.may_break w.breaks p stands.breaks)
    judged-sound w s a (Continue p) form stands inside ends =
        continue-sound a s (leaving w.continues p) (leaving-typed a.may_continue w.continues p stands.continues)
    judged-sound w s a (Return p e) form stands inside ends =
        return-sound w s a stands inside ends.0 (outside_accept w.reply p) (value_back t w s p (type_of_role w.role) e) (outside-typed a.replies w.reply p stands.reply) (back-typed t w s a stands inside ends.0 p (type_of_role w.role) e form)
    judged-sound w s a (TransactionReturn p e) form stands inside ends =
        holds-map (IsStatement a s s) replied (value_back t w s p (replying w.reply p) e)
        (holds-weaker (IsBack a (replying w.reply p)) (λ v. IsStatement a s s (replied v)) (λ v h. replied-typed t w s a stands inside ends.0 p v h) (value_back t w s p (replying w.reply p) e) (back-typed t w s a stands inside ends.0 p (replying w.reply p) e form))
    judged-sound w s a (Delay e) form stands inside ends =
        delay-sound a s (condition t w s e) (condition-typed t w s a stands inside ends.0 e form)
    judged-sound w s a (Accept' h _ block) form stands inside ends =
        accepting-sound a s (left_scope s (after_all t (around_block t w h) (before_block t w s h) block)) (map (part_made (length s.sites)) (both (head_of t w s h) (all_judged t (around_block t w h) (before_block t w s h) block)))
        (accept-typed w s a h (after_all t (around_block t w h) (before_block t w s h) block) (all_judged t (around_block t w h) (before_block t w s h) block) (left _ _ form) stands inside
        (all-goes t a.parts stands.whole (around_block t w h) (before_block t w s h) block).0 ends
        (λ i. all-sound (around_block t w h) (before_block t w s h) (in_accept a (length s.sites)) block (right _ _ form) i ((before-go t a.parts stands.whole w s h).1 inside) ends))
    judged-sound w s a (Select' p _ all) form stands inside ends =
        select-sound a s (after_alternatives t w s all) (count_alternatives all) (in_body w.role p) (alternatives_judged t w s all) (left _ _ form)
        (process-body a.parts a.kind a.result a.variables w.role p stands.role)
        (alternatives-sound w s a all (right _ _ form) stands inside ends)

    pub all-sound : {n : _} (w : Around) (s : Scope) (a : Surroundings) (row : Row_of-Statement n) → are_formed_statements (length t.formats) row ≡ true → Stands t w a → Inside t a.parts s → Ends a (after_all t w s row) → Holds (AreStatements a s (after_all t w s row)) (all_judged t w s row)
    all-sound w s a end_of-Statement form stands inside ends = still a.parts s true [] refl refl
    all-sound w s a (more_of-Statement x rest) form stands inside ends =
        one-more a s (after t w s x) (after_all t w (after t w s x) rest) (judged t w s x) (all_judged t w (after t w s x) rest)
        (judged-sound w s a x (left _ _ form) stands inside (ends-row w s a stands.whole x rest ends))
        (all-sound w (after t w s x) a rest (right _ _ form) stands ((after-goes t a.parts stands.whole w s x).1 inside) ends)

    alternatives-sound : {n : _} (w : Around) (s : Scope) (a : Surroundings) (row : Row_of-Alternative n) → are_formed_alternatives (length t.formats) row ≡ true → Stands t w a → Inside t a.parts s → Ends a (after_alternatives t w s row)
        → Holds (λ xs. AreAlternatives a s (after_alternatives t w s row) xs × (length xs ≡ count_alternatives row)) (alternatives_judged t w s row)
    alternatives-sound w s a end_of-Alternative form stands inside ends = (still a.parts s true [] refl refl, refl)
    alternatives-sound w s a (more_of-Alternative guard c _ entries rest) form stands inside ends =
        one-more_alternative a s (left_scope s (last_of w s c entries)) (after_alternatives t w (left_scope s (last_of w s c entries)) rest) (count_alternatives rest)
        (map alternative_made (both (both (optional_condition t w s guard) (choice_judged t w s c)) (all_judged t (deeper w) (after_choice t w s c) entries)))
        (alternatives_judged t w (left_scope s (last_of w s c entries)) rest)
        (alternative-sound a s (after_choice t w s c) (last_of w s c entries) c (is_empty_row entries) (optional_condition t w s guard) (choice_judged t w s c) (all_judged t (deeper w) (after_choice t w s c) entries)
        (optional_condition-typed t w s a stands inside (front-chosen w s a stands.whole c (ends-chosen w s a stands.whole c entries (ends-last w s a stands.whole c entries rest ends))) guard (left _ _ (left _ _ (left _ _ (left _ _ form)))))
        (choice-sound w s a c (right _ _ (left _ _ (left _ _ (left _ _ form)))) stands inside (ends-chosen w s a stands.whole c entries (ends-last w s a stands.whole c entries rest ends)))
        (all-sound (deeper w) (after_choice t w s c) a entries (right _ _ (left _ _ form)) (stands-deeper t w a stands) ((choice-goes t a.parts stands.whole w s c).1 inside) (ends-last w s a stands.whole c entries rest ends))
        (entries-empty t (deeper w) (after_choice t w s c) entries) (right _ _ (left _ _ (left _ _ form))))
        (alternatives-sound w (left_scope s (last_of w s c entries)) a rest (right _ _ form) stands ((alternative-goes a.parts stands.whole w s c entries).1 inside) ends)

    choice-sound : (w : Around) (s : Scope) (a : Surroundings) (c : Choice) → is_formed_choice (length t.formats) c ≡ true → Stands t w a → Inside t a.parts s → Ends a (after_choice t w s c) → Holds (IsChoice a s (after_choice t w s c) c) (choice_judged t w s c)
    choice-sound w s a (AcceptChoice' h _ block) form stands inside ends =
        offered-sound a s (left_scope s (after_all t (around_block t w h) (before_block t w s h) block)) h (map (part_made (length s.sites)) (both (head_of t w s h) (all_judged t (around_block t w h) (before_block t w s h) block))) (AcceptChoice' h _ block) refl
        (accept-typed w s a h (after_all t (around_block t w h) (before_block t w s h) block) (all_judged t (around_block t w h) (before_block t w s h) block) (left _ _ form) stands inside
        (all-goes t a.parts stands.whole (around_block t w h) (before_block t w s h) block).0 ends
        (λ i. all-sound (around_block t w h) (before_block t w s h) (in_accept a (length s.sites)) block (right _ _ form) i ((before-go t a.parts stands.whole w s h).1 inside) ends))
    choice-sound w s a (DelayChoice e) form stands inside ends =
        waiting-sound a s (condition t w s e) (DelayChoice e) refl (condition-typed t w s a stands inside ends.0 e form)
    choice-sound w s a Immediate form stands inside ends =
        (still a.parts s (is_typed_choice a choice.Immediate) (sites_of_choice choice.Immediate) (typed_choice.choice-Immediate a) of_choice.choice-Immediate, refl)
    choice-sound w s a Terminate form stands inside ends =
        (still a.parts s (is_typed_choice a choice.Terminate) (sites_of_choice choice.Terminate) (typed_choice.choice-Terminate a) of_choice.choice-Terminate, refl)
