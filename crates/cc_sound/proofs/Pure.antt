-- What is found of an expression in a clause is pure, and no deeper than the expression.
use Rattle.std.proofs.Common.{◌≡◌, ℕ, suc, ◌-◌, ◌≤◌, Bool, true, false, not, ◌&&◌, List, [], ◌∷◌, ◌++◌, Option, Some, None, refl, ◌∙◌, arith}
use Rattle.std.proofs.lemmas.Bool.{and_from, lt-ltb}
use Rattle.std.specs.List.{list_all}
use Rattle.std.specs.Prelude.{nat_lt}
use Rattle.cc_base.specs.declared.names.Place.{Place}
use Rattle.cc_typed.proofs.Pure.{pure-Arithmetic, pure-Both, pure-Choose, pure-Compare, pure-Constant, pure-Either, pure-Element, pure-Field, pure-Negate, pure-Not, pure-Parenthesized, pure-Plus, pure-Read}
use Rattle.cc_typed.proofs.Tables.{left, right}
use Rattle.cc_typed.specs.Clauses.{is_pure, is_pure_part}
use Rattle.cc_typed.specs.Types.{type_of}
use Rattle.cc_typed.specs.declared.tree.Compared.{Compared}
use Rattle.cc_typed.specs.declared.tree.Operation.{Operation}
use Rattle.cc_typed.specs.declared.tree.PartStep.{PartStep}
use Rattle.cc_faults.proofs.Holds.{Holds, holds-both, holds-checked, holds-map, holds-weaker}
use Rattle.cc_faults.specs.Depths.{depth_of, depth_of_comparisons, depth_of_operations, depth_of_row, depth_of_step, depth_of_steps}
use Rattle.cc_faults.specs.Expressions.{along, are_part_steps, both_of, chosen, comparisons, complemented, either_of, expression, field_in, indexed, is_part_step, is_place, is_variable, means_variable, negated, not_pure, numbers, place_of, plussed, pure_of_place, stepped, sum}
use Rattle.cc_faults.specs.Judged.{Judged, Good, Bad, both, checked, in_front, map, second}
use Rattle.cc_faults.specs.Made.{Row, Sum, added, compared_in, part_of, row_from, sum_from, summed, type_in, value_of, with_comparison, within_parentheses}
use Rattle.cc_faults.specs.Phrases.{assign, choose, negate, not_of, parenthesized, plus, put_char, step_after, step_before, update, within}
use Rattle.cc_faults.specs.Rows.{array_in, fields_named, fitting, has_field, no_array, number, structure_in, unless, value_named_by, visible}
use Rattle.cc_faults.specs.Scopes.{Scope, Text, meaning_at, position}
use Rattle.cc_faults.specs.declared.fault.TypeKind.TheVariants as kind
use Rattle.cc_faults.specs.declared.plain.Identifier.{Identifier}
use Rattle.cc_faults.specs.declared.plain.Phrase.{Phrase, Number, Name, Call', Create', GetChar, PrintFormat', Chain', Arithmetic', Compare', Both', Either', Row_of-Phrase, end_of-Phrase, more_of-Phrase, Row_of-Step, end_of-Step, more_of-Step, Row_of-Operation, end_of-Operation, more_of-Operation, Row_of-Compared, end_of-Compared, more_of-Compared}
use Rattle.cc_faults.specs.declared.plain.Step.{Step, Field, Index', Call' as CallStep'}
use Rattle.cc_faults.specs.declared.scope.Around.{Around}
use Rattle.cc_faults.specs.declared.scope.Found.{Found}
use Rattle.cc_faults.specs.declared.scope.Found.TheVariants as found_as
use Rattle.cc_faults.specs.declared.scope.Meaning.{Meaning}
use Rattle.cc_faults.specs.declared.scope.Meaning.TheVariants as meaning
use Rattle.cc_faults.specs.declared.scope.Named.{Named}
use Rattle.cc_sound.proofs.Heads.{false-true}
use Rattle.cc_sound.proofs.Rows.{holds-unless}

all-more : {A : Type 0} (test : A → Bool) (xs : List A) (x : A) → list_all test xs ≡ true → test x ≡ true → list_all test (xs ++ x ∷ []) ≡ true
all-more test [] x h i = and_from _ _ i refl
all-more test (y ∷ xs) x h i = and_from _ _ (left _ _ h) (all-more test xs x (right _ _ h) i)

abbrev pub IsPure : ℕ → Found → Type 0
IsPure d (found_as.Place l) = (nat_lt 0 d && list_all (is_pure_part (d - 1)) l.steps) ≡ true
IsPure d (found_as.Value e) = is_pure d e ≡ true
IsPure d (found_as.Chain e steps t) = ⊥
IsPure d (found_as.Call e steps process trans args t) = ⊥

abbrev pub IsPlace : Found → Type 0
IsPlace (found_as.Place l) = Unit {0}
IsPlace (found_as.Value e) = ⊥
IsPlace (found_as.Chain e steps t) = ⊥
IsPlace (found_as.Call e steps process trans args t) = ⊥

-- pure, and a place where the phrase is one
abbrev pub IsPureAt : ℕ → Bool → Found → Type 0
IsPureAt d b v = IsPure d v × (b ≡ true → IsPlace v)

pub value-pure : (d : ℕ) (v : Found) → IsPure d v → is_pure d (value_of v) ≡ true
value-pure d (found_as.Place l) h = pure-Read d l ∙ h
value-pure d (found_as.Value e) h = h
value-pure d (found_as.Chain e steps t) h = absurd h
value-pure d (found_as.Call e steps process trans args t) h = absurd h

enclosed-pure : (d : ℕ) (b : Bool) (v : Found) → IsPureAt d b v → IsPureAt d b (within_parentheses v)
enclosed-pure d b (found_as.Place l) h = h
enclosed-pure d b (found_as.Value e) h = (pure-Parenthesized d e (type_of e) ∙ h.0, λ e. absurd (h.1 e))
enclosed-pure d b (found_as.Chain e steps t) h = absurd h.0
enclosed-pure d b (found_as.Call e steps process trans args t) h = absurd h.0

part-pure : (d : ℕ) (v : Found) (s : PartStep) → IsPure d v → IsPlace v → is_pure_part (d - 1) s ≡ true → IsPure d (part_of v s) × IsPlace (part_of v s)
part-pure d (found_as.Place l) s h p i = (and_from _ _ (left _ _ h) (all-more (is_pure_part (d - 1)) l.steps s (right _ _ h) i), tt)
part-pure d (found_as.Value e) s h p i = absurd p
part-pure d (found_as.Chain e steps t) s h p i = absurd p
part-pure d (found_as.Call e steps process trans args t) s h p i = absurd p

number-pure : (d : ℕ) (b : Bool) (p : Place) (j : Judged Found) → Holds (IsPureAt d b) j → Holds (λ e. is_pure d e ≡ true) (checked j (number p))
number-pure d b p j h =
    holds-checked (IsPureAt d b) (λ e. is_pure d e ≡ true) j (number p) h
    (λ v i. holds-unless (λ e. is_pure d e ≡ true) _ p kind.Mismatch (value_of v) (λ e. value-pure d v i.0))

-- what may not stand in a clause is a fault
impure-fault : (P : Found → Type 0) (b : Bool) (p : Place) (j : Judged Found) → b ≡ true → Holds P (map second (both (unless {A = Unit {0}} (not b) p kind.NotPure tt) j))
unfolding map both
impure-fault P true p (Good v) e = tt
impure-fault P true p (Bad own f fs) e = tt
impure-fault P false p j e = false-true e

not_pure-fault : (P : Found → Type 0) (w : Around) (p : Place) (j : Judged Found) → w.pure ≡ true → Holds P (not_pure w p j)
not_pure-fault P w p j e = impure-fault P w.pure p j e

-- a step from a place, or a fault
placed : (v : Found) (d : ℕ) (b : Bool) → IsPure d v × IsPlace v → IsPureAt d b v
placed v d b h = (h.0, λ e. h.1)

step-pure : (P : Found → Type 0) (w : Around) (b : Bool) (p : Place) (j : Judged Found) → w.pure ≡ true → (b ≡ true → Holds P j) → Holds P (pure_of_place b w p j)
step-pure P w true p j e go = go refl
step-pure P w false p j e go = not_pure-fault P w p j e

abbrev IsPureSum : ℕ → Sum → Type 0
IsPureSum d v = (is_pure d v.0 ≡ true) × (list_all (λ o. is_pure (d - 1) o.operand) v.1 ≡ true)

abbrev IsPureRow : ℕ → Row → Type 0
IsPureRow d v = (is_pure d v.0 ≡ true) × (list_all (λ c. is_pure (d - 1) c.operand) v.1 ≡ true)

below : (n d : ℕ) → suc n ≤ d → n ≤ d - 1
below n d le = omega (arith, le)

made-pure : {A : Type 0} (d : ℕ) (P : A → Type 0) (f : A → Found) (j : Judged A) → Holds P j → ((v : A) → P v → IsPure d (f v)) → Holds (IsPureAt d false) (map f j)
made-pure d P f j h go = holds-map (IsPureAt d false) f j (holds-weaker P (λ v. IsPureAt d false (f v)) (λ v i. (go v i, λ e. false-true e)) j h)

holds-all : {A : Type 0} (P : A → Type 0) (j : Judged A) → ((v : A) → P v) → Holds P j
holds-all P (Good v) go = go v
holds-all P (Bad own f fs) go = tt

-- a part that is only tested
tested : {A : Type 0} (P : A → Type 0) (b : Bool) (p : Place) (v : A) → P v → Holds P (unless b p kind.Mismatch v)
tested P b p v h = holds-unless P b p kind.Mismatch v (λ e. h)

reassociated : (x y z : Bool) → (x && (y && z)) ≡ true → ((x && y) && z) ≡ true
reassociated true y z e = e
reassociated false y z e = e

module _ (t : Text) (s : Scope) (w : Around) (pure : w.pure ≡ true) where
  variable-pure : (d : ℕ) (x : Identifier) (m : Meaning) (b : Bool) → 1 ≤ d → (b ≡ true → means_variable m ≡ true) → Holds (IsPureAt d b) (value_named_by s.variables x.place m)
  variable-pure d x (meaning.Variable n) b le go = (and_from _ _ (lt-ltb 0 d le) refl, λ e. tt)
  variable-pure d x (meaning.Constant n) b le go = (pure-Constant d n _ ∙ lt-ltb 0 d le, λ e. false-true (go e))
  variable-pure d x (meaning.Function f) b le go = tt
  variable-pure d x meaning.Main b le go = tt
  variable-pure d x (meaning.Typeless f) b le go = tt
  variable-pure d x (meaning.Valueless f) b le go = tt

  name-pure : (d : ℕ) (x : Identifier) (o : Option Named) → 1 ≤ d → Holds (IsPureAt d (is_variable o)) (checked (visible x o) (value_named_by s.variables x.place))
  unfolding checked
  name-pure d x None le = tt
  name-pure d x (Some n) le = variable-pure d x n.meaning (means_variable n.meaning) le (λ e. e)

  mutual
    unfolding expression depth_of is_place

    pub expression-pure : (d : ℕ) (e : Phrase) → depth_of e ≤ d → Holds (IsPureAt d (is_place s e)) (expression t s w e)
    expression-pure d (Number p v n) le = (pure-Constant d _ _ ∙ lt-ltb 0 d le, λ e. false-true e)
    expression-pure d (Name x) le = name-pure d x (meaning_at s x) le
    expression-pure d (parenthesized p e) le =
        holds-map (IsPureAt d (is_place s e)) within_parentheses (expression t s w e)
        (holds-weaker (IsPureAt d (is_place s e)) _ (enclosed-pure d (is_place s e)) (expression t s w e) (expression-pure d e le))
    expression-pure d (Chain' _ (more_of-Phrase e end_of-Phrase) _ steps) le =
        along-pure d (place_of e) (is_place s e) (expression t s w e) steps (omega (arith, le)) (expression-pure d e (omega (arith, le)))
    expression-pure d (negate p e) le =
        made-pure d (λ x. is_pure d x ≡ true) negated _ (number-pure d (is_place s e) (place_of e) _ (expression-pure d e le)) (λ x h. pure-Negate d x _ ∙ h)
    expression-pure d (plus p e) le =
        made-pure d (λ x. is_pure d x ≡ true) plussed _ (number-pure d (is_place s e) (place_of e) _ (expression-pure d e le)) (λ x h. pure-Plus d x _ ∙ h)
    expression-pure d (not_of p e) le =
        made-pure d (λ x. is_pure d x ≡ true) complemented _ (number-pure d (is_place s e) (place_of e) _ (expression-pure d e le)) (λ x h. pure-Not d x ∙ h)
    expression-pure d (Arithmetic' _ (more_of-Phrase x end_of-Phrase) _ rest) le =
        made-pure d (IsPureSum d) summed _
        (sum-pure d (map sum_from (checked (expression t s w x) (number (place_of x)))) rest (omega (arith, le))
        (holds-map (IsPureSum d) sum_from _ (holds-weaker (λ e. is_pure d e ≡ true) _ (λ e h. (h, refl)) _ (number-pure d (is_place s x) (place_of x) _ (expression-pure d x (omega (arith, le)))))))
        (λ v h. pure-Arithmetic d v.0 v.1 v.2 ∙ and_from _ _ h.0 h.1)
    expression-pure d (Compare' _ (more_of-Phrase x end_of-Phrase) _ rest) le =
        made-pure d (IsPureRow d) compared_in _
        (comparisons-pure d (place_of x) (map row_from (expression t s w x)) rest (omega (arith, le))
        (holds-map (IsPureRow d) row_from _ (holds-weaker (IsPureAt d (is_place s x)) _ (λ v h. (value-pure d v h.0, refl)) _ (expression-pure d x (omega (arith, le))))))
        (λ v h. pure-Compare d v.0 v.1 ∙ and_from _ _ h.0 h.1)
    expression-pure d (Both' _ (more_of-Phrase x end_of-Phrase) _ rest) le =
        made-pure d (λ v. (is_pure d v.0 ≡ true) × (list_all (is_pure d) v.1 ≡ true)) both_of _
        (holds-both (λ e. is_pure d e ≡ true) (λ es. list_all (is_pure d) es ≡ true) _ _
        (number-pure d (is_place s x) (place_of x) _ (expression-pure d x (omega (arith, le)))) (numbers-pure d rest (omega (arith, le))))
        (λ v h. pure-Both d v.0 v.1 ∙ and_from _ _ h.0 h.1)
    expression-pure d (Either' _ (more_of-Phrase x end_of-Phrase) _ rest) le =
        made-pure d (λ v. (is_pure d v.0 ≡ true) × (list_all (is_pure d) v.1 ≡ true)) either_of _
        (holds-both (λ e. is_pure d e ≡ true) (λ es. list_all (is_pure d) es ≡ true) _ _
        (number-pure d (is_place s x) (place_of x) _ (expression-pure d x (omega (arith, le)))) (numbers-pure d rest (omega (arith, le))))
        (λ v h. pure-Either d v.0 v.1 ∙ and_from _ _ h.0 h.1)
    expression-pure d (choose c x y) le =
        made-pure d (λ v. (is_pure d v.0 ≡ true) × (IsPure d v.1.0 × IsPure d v.1.1)) chosen _
        (holds-both (λ e. is_pure d e ≡ true) (λ v. IsPure d v.0 × IsPure d v.1) _ _ (number-pure d (is_place s c) (place_of c) _ (expression-pure d c (omega (arith, le))))
        (holds-checked (λ v. IsPure d v.0 × IsPure d v.1) (λ v. IsPure d v.0 × IsPure d v.1) _ (fitting (place_of y))
        (holds-both (IsPure d) (IsPure d) _ _
        (holds-checked (IsPureAt d (is_place s x)) (IsPure d) _ (no_array (place_of x)) (expression-pure d x (omega (arith, le))) (λ v i. tested (IsPure d) _ (place_of x) v i.0))
        (holds-checked (IsPureAt d (is_place s y)) (IsPure d) _ (no_array (place_of y)) (expression-pure d y (omega (arith, le))) (λ v i. tested (IsPure d) _ (place_of y) v i.0)))
        (λ v i. tested (λ u. IsPure d u.0 × IsPure d u.1) _ (place_of y) v i)))
        (λ v h. pure-Choose d v.0 (value_of v.1.0) (value_of v.1.1) _ ∙ and_from _ _ (and_from _ _ h.0 (value-pure d v.1.0 h.1.0)) (value-pure d v.1.1 h.1.1))
    expression-pure d (assign x y) le = not_pure-fault _ w (place_of x) _ pure
    expression-pure d (update x o y) le = not_pure-fault _ w (place_of x) _ pure
    expression-pure d (step_before p o x) le = not_pure-fault _ w p _ pure
    expression-pure d (step_after x o) le = not_pure-fault _ w (place_of x) _ pure
    expression-pure d (Call' x _ args) le = not_pure-fault _ w x.place _ pure
    expression-pure d (Create' p x _ args) le = not_pure-fault _ w p _ pure
    expression-pure d (put_char p e) le = not_pure-fault _ w p _ pure
    expression-pure d (GetChar p) le = not_pure-fault _ w p _ pure
    expression-pure d (PrintFormat' p f _ args) le = not_pure-fault _ w p _ pure
    expression-pure d (within p c m e) le = not_pure-fault _ w p _ pure

    along-pure : {n : _} (d : ℕ) (p : Place) (b : Bool) (j : Judged Found) (row : Row_of-Step n) → depth_of_steps row ≤ d → Holds (IsPureAt d b) j → Holds (IsPureAt d (b && are_part_steps row)) (along t s w p b j row)
    along-pure d p b j end_of-Step le h = holds-weaker (IsPureAt d b) _ (λ v i. (i.0, λ e. i.1 (left _ _ e))) j h
    along-pure d p b j (more_of-Step c rest) le h =
        holds-weaker (IsPureAt d ((b && is_part_step c) && are_part_steps rest)) (IsPureAt d (b && (is_part_step c && are_part_steps rest))) (λ v i. (i.0, λ e. i.1 (reassociated b (is_part_step c) (are_part_steps rest) e))) _
        (along-pure d p (b && is_part_step c) (stepped t s w p b j c) rest (omega (arith, le)) (stepped-pure d p b j c (omega (arith, le)) h))

    stepped-pure : (d : ℕ) (p : Place) (b : Bool) (j : Judged Found) (c : Step) → depth_of_step c ≤ d → Holds (IsPureAt d b) j → Holds (IsPureAt d (b && is_part_step c)) (stepped t s w p b j c)
    stepped-pure d p b j (Field x) le h =
        step-pure _ w b p _ pure
        (λ on. holds-checked (IsPureAt d b) (IsPureAt d (b && true)) (checked j (structure_in p)) _
        (holds-checked (IsPureAt d b) (IsPureAt d b) j (structure_in p) h (λ v i. tested (IsPureAt d b) _ p v i))
        (λ v i. holds-map (IsPureAt d (b && true)) (field_in s v) _
        (holds-all _ (has_field x (position (fields_named s (type_in v)) x.name)) (λ k. placed _ d (b && true) (part-pure d v _ i.0 (i.1 on) (pure-Field (d - 1) k _))))))
    stepped-pure d p b j (Index' _ (more_of-Phrase e end_of-Phrase)) le h =
        step-pure _ w b p _ pure
        (λ on. holds-map (IsPureAt d (b && true)) indexed _
        (holds-weaker (λ v. IsPureAt d b v.0 × (is_pure (d - 1) v.1 ≡ true)) _ (λ v i. placed _ d (b && true) (part-pure d v.0 _ i.0.0 (i.0.1 on) (pure-Element (d - 1) v.1 _ ∙ i.1))) _
        (holds-both (IsPureAt d b) (λ x. is_pure (d - 1) x ≡ true) _ _ (holds-checked (IsPureAt d b) (IsPureAt d b) j (array_in p) h (λ v i. tested (IsPureAt d b) _ p v i))
        (number-pure (d - 1) (is_place s e) (place_of e) _ (expression-pure (d - 1) e (below (depth_of e) d le))))))
    stepped-pure d p b j (CallStep' x _ args) le h = not_pure-fault _ w p _ pure

    numbers-pure : {n : _} (d : ℕ) (row : Row_of-Phrase n) → depth_of_row row ≤ d → Holds (λ es. list_all (is_pure d) es ≡ true) (numbers t s w row)
    numbers-pure d end_of-Phrase le = refl
    numbers-pure d (more_of-Phrase e rest) le =
        holds-map (λ es. list_all (is_pure d) es ≡ true) in_front _
        (holds-weaker (λ v. (is_pure d v.0 ≡ true) × (list_all (is_pure d) v.1 ≡ true)) _ (λ v i. and_from _ _ i.0 i.1) _
        (holds-both (λ x. is_pure d x ≡ true) (λ es. list_all (is_pure d) es ≡ true) _ _ (number-pure d (is_place s e) (place_of e) _ (expression-pure d e (omega (arith, le)))) (numbers-pure d rest (omega (arith, le)))))

    sum-pure : {n : _} (d : ℕ) (j : Judged Sum) (row : Row_of-Operation n) → depth_of_operations row ≤ d → Holds (IsPureSum d) j → Holds (IsPureSum d) (sum t s w j row)
    sum-pure d j end_of-Operation le h = h
    sum-pure d j (more_of-Operation o b rest) le h =
        sum-pure d (map (added o) (both j (checked (expression t s w b) (number (place_of b))))) rest (omega (arith, le))
        (holds-map (IsPureSum d) (added o) _
        (holds-weaker (λ v. IsPureSum d v.0 × (is_pure (d - 1) v.1 ≡ true)) _ (λ v i. (i.0.0, all-more (λ (x : Operation). is_pure (d - 1) x.operand) v.0.1 _ i.0.1 i.1)) _
        (holds-both (IsPureSum d) (λ e. is_pure (d - 1) e ≡ true) _ _ h (number-pure (d - 1) (is_place s b) (place_of b) _ (expression-pure (d - 1) b (below (depth_of b) d (omega (arith, le))))))))

    comparisons-pure : {n : _} (d : ℕ) (p : Place) (j : Judged Row) (row : Row_of-Compared n) → depth_of_comparisons row ≤ d → Holds (IsPureRow d) j → Holds (IsPureRow d) (comparisons t s w p j row)
    comparisons-pure d p j end_of-Compared le h = h
    comparisons-pure d p j (more_of-Compared c b rest) le h =
        comparisons-pure d p _ rest (omega (arith, le))
        (holds-map (IsPureRow d) (with_comparison c) _
        (holds-weaker (λ v. IsPureRow d v.0 × (is_pure (d - 1) v.1 ≡ true)) _ (λ v i. (i.0.0, all-more (λ (x : Compared). is_pure (d - 1) x.operand) v.0.1 _ i.0.1 i.1)) _
        (holds-both (IsPureRow d) (λ e. is_pure (d - 1) e ≡ true) _ _
        (holds-checked (IsPureRow d) (IsPureRow d) j _ h (λ v i. tested (IsPureRow d) _ p v i))
        (holds-checked (IsPureAt (d - 1) (is_place s b)) (λ e. is_pure (d - 1) e ≡ true) (expression t s w b) _ (expression-pure (d - 1) b (below (depth_of b) d (omega (arith, le)))) (λ v i. tested (λ e. is_pure (d - 1) e ≡ true) _ (place_of b) (value_of v) (value-pure (d - 1) v i.0))))))
