-- The clauses of an accept are typed and pure, and its environment is what they name.
use Rattle.std.proofs.Common.{◌≡◌, ℕ, Bool, true, false, ◌&&◌, ◌||◌, List, [], ◌∷◌, ◌++◌, length, take, drop, Some, refl, ap, ◌∙◌}
use Rattle.std.proofs.lemmas.Bool.{and_from, eq-eqb, leb-true, or_left, or_right}
use Rattle.std.specs.Prelude.{if◌then◌else◌, nat_le}
use Rattle.cc_base.specs.Limits.{most_pure_depth}
use Rattle.cc_base.specs.declared.names.Place.{Place}
use Rattle.cc_typed.proofs.Partings.{type-same}
use Rattle.cc_typed.proofs.Tables.{left, right}
use Rattle.cc_typed.specs.Clauses.{all_noted, are_numbers, clause_noted, is_pure}
use Rattle.cc_typed.specs.Typed.{Surroundings, is_clause, is_typed}
use Rattle.cc_typed.specs.Types.{is_arithmetic, is_same_all, type_of}
use Rattle.cc_typed.specs.declared.clauses.Own.{Own}
use Rattle.cc_typed.specs.declared.tree.Expression.{Expression}
use Rattle.cc_typed.specs.declared.types.DataType.{DataType}
use Rattle.cc_faults.proofs.Holds.{Holds, holds-asked, holds-both, holds-map, holds-weaker}
use Rattle.cc_faults.specs.Depths.{depth_of}
use Rattle.cc_faults.specs.Expressions.{expression, is_place, place_of}
use Rattle.cc_faults.specs.Judged.{Judged, Good, Bad, both, each, first, in_front, map}
use Rattle.cc_faults.specs.Made.{type_in, value_of}
use Rattle.cc_faults.specs.Rows.{number}
use Rattle.cc_faults.specs.Scopes.{Scope, Text, in_clause}
use Rattle.cc_faults.specs.Statements.{clause, clause_of, is_by, is_such_that, named_outside, too_deep}
use Rattle.cc_faults.specs.declared.fault.TypeKind.TheVariants as kind
use Rattle.cc_faults.specs.declared.plain.Clause.{Clause}
use Rattle.cc_faults.specs.declared.plain.ClauseWord.{ClauseWord}
use Rattle.cc_faults.specs.declared.plain.ClauseWord.TheVariants as word
use Rattle.cc_faults.specs.declared.scope.Around.{Around}
use Rattle.cc_faults.specs.declared.scope.Found.{Found}
use Rattle.cc_sound.proofs.Expressions.{expression-typed}
use Rattle.cc_sound.proofs.Found.{value-typed}
use Rattle.cc_sound.proofs.Heads.{false-true}
use Rattle.cc_sound.proofs.Pure.{IsPureAt, expression-pure, value-pure}
use Rattle.cc_sound.proofs.Rows.{holds-unless}
use Rattle.cc_sound.specs.Fits.{IsFront, ScopeFits, TextFits}
use Rattle.cc_sound.specs.Formed.{are_formed_clauses, are_once, differ, is_formed}
use Rattle.cc_sound.specs.Typing.{IsFound}

pub holds-and : {A : Type 0} (P Q : A → Type 0) (j : Judged A) → Holds P j → Holds Q j → Holds (λ v. P v × Q v) j
holds-and P Q (Good v) h i = (h, i)
holds-and P Q (Bad own f fs) h i = tt

holds-if : {A : Type 0} (P : A → Type 0) (b : Bool) (j : Judged A) → (b ≡ true → Holds P j) → Holds (λ v. b ≡ true → P v) j
holds-if P b (Good v) go = go
holds-if P b (Bad own f fs) go = tt

module _ (b : Surroundings) where
  -- a clause as the program has it
  abbrev pub IsClause : ClauseWord × Expression → Type 0
  IsClause v = (is_pure most_pure_depth v.1 && (is_typed b v.1 && is_arithmetic (type_of v.1))) ≡ true

  abbrev pub AreClauses : List Clause → List (ClauseWord × Expression) → Type 0
  AreClauses [] [] = Unit {0}
  AreClauses [] (v ∷ vs) = ⊥
  AreClauses (c ∷ cs) [] = ⊥
  AreClauses (c ∷ cs) (v ∷ vs) = ((v.0 ≡ c.word) × IsClause v) × AreClauses cs vs

  pub clause-of : (is : ClauseWord → Bool) (cs : List Clause) (vs : List (ClauseWord × Expression)) → AreClauses cs vs → is_clause b (clause_of is vs) ≡ true
  clause-of is [] [] h = refl
  clause-of is [] (v ∷ vs) h = absurd h
  clause-of is (c ∷ cs) [] h = absurd h
  clause-of is (c ∷ cs) (v ∷ vs) h = cases (is v.0) (clause-of is cs vs h.1)
    where
      cases : (x : Bool) → is_clause b (clause_of is vs) ≡ true → is_clause b (if x then Some v.1 else clause_of is vs) ≡ true
      cases true go = h.0.1
      cases false go = go

module _ (t : Text) (s : Scope) (w : Around) (b : Surroundings) (whole : TextFits t b.parts) (here : ScopeFits t s b.parts) (front : IsFront s.variables b.variables) where
  -- what is found of the expression, where it isn't too deep
  abbrev IsShallow : Clause → Found → Type 0
  IsShallow c v =
      IsFound b v × (nat_le (depth_of c.expression) most_pure_depth ≡ true → IsPureAt most_pure_depth (is_place s c.expression) v)

  shallow : (c : Clause) → is_formed (length t.formats) c.expression ≡ true → Holds (IsShallow c) (expression t s (in_clause w) c.expression)
  shallow c form =
      holds-and (IsFound b) (λ v. nat_le (depth_of c.expression) most_pure_depth ≡ true → IsPureAt most_pure_depth (is_place s c.expression) v) (expression t s (in_clause w) c.expression)
      (expression-typed t s (in_clause w) b whole here front c.expression form)
      (holds-if (IsPureAt most_pure_depth (is_place s c.expression)) (nat_le (depth_of c.expression) most_pure_depth) (expression t s (in_clause w) c.expression)
      (λ e. expression-pure t s (in_clause w) refl most_pure_depth c.expression (leb-true (depth_of c.expression) most_pure_depth e)))

  abbrev IsValue : Found → Expression → Type 0
  IsValue v e = (is_typed b e ≡ true) × (is_arithmetic (type_of e) ≡ true) × (e ≡ value_of v)

  number-of : (p : Place) (v : Found) → IsFound b v → Holds (IsValue v) (number p v)
  number-of p v h =
      holds-unless (IsValue v) (is_arithmetic (type_in v)) p kind.Mismatch (value_of v) (λ e. ((value-typed b v h).0, ap is_arithmetic (value-typed b v h).1 ∙ e, refl))

  clause-rule : (c : Clause) (v : Found) → IsShallow c v → Holds (λ e. IsClause b (c.word, e)) (map first (both (number (place_of c.expression) v) (too_deep t c.expression)))
  clause-rule c v h =
      holds-map (λ e. IsClause b (c.word, e)) first _
      (holds-weaker (λ x. IsValue v x.0 × (nat_le (depth_of c.expression) most_pure_depth ≡ true)) _
      (λ x i. and_from _ _ (ap (is_pure most_pure_depth) i.0.2 ∙ value-pure most_pure_depth v (h.1 i.1).0) (and_from _ _ i.0.0 i.0.1)) _
      (holds-both (IsValue v) (λ u. nat_le (depth_of c.expression) most_pure_depth ≡ true) _ _ (number-of (place_of c.expression) v h.0)
      (holds-unless (λ u. nat_le (depth_of c.expression) most_pure_depth ≡ true) (nat_le (depth_of c.expression) most_pure_depth) (place_of c.expression) kind.PureTooDeep tt (λ e. e))))

  clause-typed : (c : Clause) → is_formed (length t.formats) c.expression ≡ true → Holds (λ v. (v.0 ≡ c.word) × IsClause b v) (clause t w s c)
  clause-typed c form =
      holds-map _ (λ (e : Expression). (c.word, e)) _
      (holds-weaker (λ e. IsClause b (c.word, e)) _ (λ e h. (refl, h)) _
      (holds-asked (IsShallow c) (λ e. IsClause b (c.word, e)) (expression t s (in_clause w) c.expression) (λ (v : Found). map first (both (number (place_of c.expression) v) (too_deep t c.expression))) (too_deep t c.expression) (shallow c form) (clause-rule c)))

  pub clauses-typed : (cs : List Clause) → are_formed_clauses (length t.formats) cs ≡ true → Holds (AreClauses b cs) (each (clause t w s) cs)
  unfolding each
  clauses-typed [] form = tt
  clauses-typed (c ∷ cs) form =
      holds-map (AreClauses b (c ∷ cs)) in_front _
      (holds-weaker (λ v. ((v.0.0 ≡ c.word) × IsClause b v.0) × AreClauses b cs v.1) _ (λ v h. h) _
      (holds-both (λ v. (v.0 ≡ c.word) × IsClause b v) (AreClauses b cs) _ _ (clause-typed c (left _ _ form)) (clauses-typed cs (right _ _ form))))

-- ---- the environment

same-numbers : (xs : List ℕ) → are_numbers xs xs ≡ true
same-numbers [] = refl
same-numbers (x ∷ xs) = and_from _ _ (eq-eqb x x refl) (same-numbers xs)

abbrev are_few : List (ClauseWord × Expression) → Bool
are_few [] = true
are_few (v ∷ []) = true
are_few (v ∷ u ∷ []) = differ v.0 u.0
are_few (v ∷ u ∷ x ∷ rest) = false

few-clauses : (b : Surroundings) (cs : List Clause) (vs : List (ClauseWord × Expression)) → AreClauses b cs vs → are_once cs ≡ true → are_few vs ≡ true
few-clauses b [] [] h e = refl
few-clauses b [] (v ∷ vs) h e = absurd h
few-clauses b (c ∷ cs) [] h e = absurd h
few-clauses b (c ∷ []) (v ∷ []) h e = refl
few-clauses b (c ∷ []) (v ∷ u ∷ vs) h e = absurd h.1
few-clauses b (c ∷ d ∷ cs) (v ∷ []) h e = absurd h.1
few-clauses b (c ∷ d ∷ []) (v ∷ u ∷ []) h e = ap (λ x. differ x u.0) h.0.0 ∙ ap (differ c.word) h.1.0.0 ∙ e
few-clauses b (c ∷ d ∷ []) (v ∷ u ∷ x ∷ vs) h e = absurd h.1.1
few-clauses b (c ∷ d ∷ f ∷ cs) (v ∷ u ∷ vs) h e = false-true e

abbrev IsEnvironment : Own → List (ClauseWord × Expression) → Type 0
IsEnvironment own vs =
    (are_numbers (named_outside own.first own.count [] vs) (clause_noted own (clause_noted own [] (clause_of is_such_that vs)) (clause_of is_by vs))
    || are_numbers (named_outside own.first own.count [] vs) (clause_noted own (clause_noted own [] (clause_of is_by vs)) (clause_of is_such_that vs)))
    ≡ true

environment-one : (own : Own) (x : ClauseWord) (e : Expression) → IsEnvironment own ((x, e) ∷ [])
environment-one own word.SuchThat e = or_left _ _ (same-numbers (all_noted own [] e))
environment-one own word.By e = or_left _ _ (same-numbers (all_noted own [] e))

environment-two : (own : Own) (x y : ClauseWord) (e f : Expression) → differ x y ≡ true → IsEnvironment own ((x, e) ∷ (y, f) ∷ [])
environment-two own word.SuchThat word.SuchThat e f h = false-true h
environment-two own word.SuchThat word.By e f h = or_left _ _ (same-numbers (all_noted own (all_noted own [] e) f))
environment-two own word.By word.SuchThat e f h = or_right _ _ (same-numbers (all_noted own (all_noted own [] e) f))
environment-two own word.By word.By e f h = false-true h

environment-few : (own : Own) (vs : List (ClauseWord × Expression)) → are_few vs ≡ true → IsEnvironment own vs
environment-few own [] h = refl
environment-few own (v ∷ []) h = environment-one own v.0 v.1
environment-few own (v ∷ u ∷ []) h = environment-two own v.0 u.0 v.1 u.1 h
environment-few own (v ∷ u ∷ x ∷ rest) h = false-true h

pub environment-typed : (b : Surroundings) (own : Own) (cs : List Clause) (vs : List (ClauseWord × Expression)) → AreClauses b cs vs → are_once cs ≡ true → IsEnvironment own vs
environment-typed b own cs vs h e = environment-few own vs (few-clauses b cs vs h e)

-- ---- the parameters of an accept among the variables

same-all : (us : List DataType) → is_same_all us us ≡ true
same-all [] = refl
same-all (u ∷ us) = and_from _ _ (type-same u) (same-all us)

take-front : (us rest : List DataType) → take (length us) (us ++ rest) ≡ us
take-front [] rest = refl
take-front (u ∷ us) rest = ap (λ l. u ∷ l) (take-front us rest)

drop-middle : (xs us rest : List DataType) → drop (length xs) ((xs ++ us) ++ rest) ≡ us ++ rest
drop-middle [] us rest = refl
drop-middle (x ∷ xs) us rest = drop-middle xs us rest

pub parameters-there : (xs us variables : List DataType) → IsFront (xs ++ us) variables → is_same_all us (take (length us) (drop (length xs) variables)) ≡ true
parameters-there xs us variables f =
    ap (λ l. is_same_all us (take (length us) (drop (length xs) l))) f.1
    ∙ ap (λ l. is_same_all us (take (length us) l)) (drop-middle xs us f.0)
    ∙ ap (is_same_all us) (take-front us f.0)
    ∙ same-all us
