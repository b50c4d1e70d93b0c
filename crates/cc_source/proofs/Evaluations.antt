-- What evaluating phrases on cells gives.
use Rattle.std.proofs.Common.{◌≡◌, ℕ, ℤ, pos, ◌+◌, ◌<◌, Bool, true, false, ◌&&◌, List, [], ◌∷◌, ◌++◌, length, drop, get_or, replicate, Option, Some, None, refl, sym, ap, ◌∙◌, subst, arith, append_assoc, append-nil}
use Rattle.std.specs.List.{list_all}
use Rattle.std.specs.Prelude.{Result, slice_get}
use Rattle.std.proofs.lemmas.List.{drop_all, length-replicate}
use Rattle.cc_base.specs.Outcome.{Left, Outcome, Through, Asked, and_then}
use Rattle.cc_base.specs.declared.request.Request.{Request}
use Rattle.cc_source.proofs.Cuts.{length-fitted, unflat-fitted}
use Rattle.cc_source.specs.Gives.{GivesBy, fitted, is_typed_argument, value}
use Rattle.cc_source.specs.Known.{and-left, and-right}
use Rattle.cc_source.specs.Lists.{cells_given}
use Rattle.cc_source.specs.Meaning.{Caller, Scope, converted_value, eval}
use Rattle.cc_source.specs.Projections.{passes-at}
use Rattle.cc_source.specs.Straight.{is_straight, is_straight_argument, is_straight_location, is_straight_step}
use Rattle.cc_source.specs.declared.evaluator.Evaluator.{Evaluator}
use Rattle.cc_source.specs.declared.run.Run.{Run}
use Rattle.cc_source.specs.declared.run.Unfinished.{Unfinished}
use Rattle.cc_typed.proofs.Flat.{zero-unflat}
use Rattle.cc_typed.proofs.Partings.{same-type}
use Rattle.cc_typed.proofs.Tables.{type-cells}
use Rattle.cc_typed.specs.Layout.{cells}
use Rattle.cc_typed.specs.Parting.{is_of_type}
use Rattle.cc_typed.specs.Parts.{Parts}
use Rattle.cc_typed.specs.Sequences.{drop-at, is_empty}
use Rattle.cc_typed.specs.Table.{layout_of}
use Rattle.cc_typed.specs.Typed.{Surroundings, is_typed, is_typed_step}
use Rattle.cc_typed.specs.TypedLists.{arguments_typed, is_typed_location, parts_typed, steps_typed}
use Rattle.cc_typed.specs.Types.{is_assignable, is_same, type_after_step, type_of}
use Rattle.cc_typed.specs.Values.{Value, flat, unflat, zero_of}
use Rattle.cc_typed.specs.declared.tree.Argument.{Argument}
use Rattle.cc_typed.specs.declared.tree.ChainStep.{ChainStep}
use Rattle.cc_typed.specs.declared.tree.Location.{Location}
use Rattle.cc_typed.specs.declared.tree.PartStep.{PartStep}
use Rattle.cc_typed.specs.declared.types.DataType.{DataType}
use Rattle.cc_typed.specs.declared.types.Structure.{Structure}

pub zero-value : (structures : List Structure) (t : DataType) (cs : List ℤ) → cs ≡ replicate (cells (layout_of structures t)) (pos 0)
    → unflat (layout_of structures t) cs ≡ zero_of (layout_of structures t)
zero-value structures t cs e = ap (unflat (layout_of structures t)) e ∙ zero-unflat (layout_of structures t)

pub ruleset zeros = (type-cells, zero-value, length-replicate)

pub fit-value : (structures : List Structure) (t : DataType) (cs ds : List ℤ) → ds ≡ fitted (cells (layout_of structures t)) cs
    → unflat (layout_of structures t) ds ≡ unflat (layout_of structures t) cs
fit-value structures t cs ds e = ap (unflat (layout_of structures t)) e ∙ unflat-fitted (layout_of structures t) cs

pub ruleset fits = (type-cells, fit-value, length-fitted)

-- a variable as a whole has the type that it is given in the phrase
pub straight-variable : (s : Surroundings) (l : Location) → is_straight_location l ≡ true → is_typed_location s l ≡ true
    → is_of_type (slice_get s.variables l.variable) l.data_type ≡ true
straight-variable s l straight typed =
    let same : l.of ≡ l.data_type =
    same-type l.of l.data_type (whole l.steps (and-left _ _ straight) (and-right (is_of_type (slice_get s.variables l.variable) l.of) _ typed)) in
    ap (is_of_type (slice_get s.variables l.variable)) (sym same) ∙ and-left _ _ typed
  where
    whole : (steps : List PartStep) → is_empty steps ≡ true → parts_typed s l.of steps l.data_type ≡ true → is_same l.of l.data_type ≡ true
    whole [] e h = h
    whole (x ∷ xs) e h = cc

-- arguments that are typed for their parameters can be converted, one by one
pub arguments-fine : (s : Surroundings) (args : List Argument) (us : List DataType) → arguments_typed s args us ≡ true
    → list_all (is_typed_argument s) args ≡ true
arguments-fine s [] us h = refl
arguments-fine s (a ∷ rest) [] h = cc
arguments-fine s (a ∷ rest) (u ∷ us) h =
    ap (λ b. b && list_all (is_typed_argument s) rest) (and-left _ _ (and-left _ _ h))
    ∙ arguments-fine s rest us (and-right (is_typed s a.value && is_assignable (type_of a.value) a.data_type && is_same u a.data_type) _ h)

pub ruleset evaluating = (straight-variable, arguments-fine)

-- the steps of a chain in order
pub steps-here : (s : Surroundings) (steps : List ChainStep) (t u : DataType) (k : ℕ) (d : ChainStep) → k < length steps
    → steps_typed s t (drop k steps) u ≡ true → is_typed_step s t (get_or steps k d) ≡ true
steps-here s steps t u k d lt b = and-left _ _ (ap (λ xs. steps_typed s t xs u) (sym (drop-at steps k d lt)) ∙ b)

pub steps-rest : (s : Surroundings) (steps : List ChainStep) (t u : DataType) (k : ℕ) (d : ChainStep) → k < length steps
    → steps_typed s t (drop k steps) u ≡ true → steps_typed s (type_after_step (get_or steps k d)) (drop (k + 1) steps) u ≡ true
steps-rest s steps t u k d lt b = and-right (is_typed_step s t (get_or steps k d)) _ (ap (λ xs. steps_typed s t xs u) (sym (drop-at steps k d lt)) ∙ b)

pub steps-straight : (steps : List ChainStep) (k : ℕ) (d : ChainStep) → list_all is_straight_step steps ≡ true → k < length steps
    → is_straight_step (get_or steps k d) ≡ true
steps-straight steps k d h lt = passes-at is_straight_step steps k d h lt

pub ruleset in_order = (steps-here, steps-rest, steps-straight, same-type)

-- an argument of several
pub argument-straight : (args : List Argument) (k : ℕ) (d : Argument) → list_all is_straight_argument args ≡ true → k < length args
    → is_straight (get_or args k d).value ≡ true
argument-straight args k d h lt = and-left _ _ (passes-at is_straight_argument args k d h lt)

pub argument-typed : (s : Surroundings) (args : List Argument) (k : ℕ) (d : Argument) → list_all (is_typed_argument s) args ≡ true → k < length args
    → is_typed s (get_or args k d).value ≡ true
argument-typed s args k d h lt = and-left _ _ (passes-at (is_typed_argument s) args k d h lt)

pub argument-assignable : (s : Surroundings) (args : List Argument) (k : ℕ) (d : Argument) → list_all (is_typed_argument s) args ≡ true → k < length args
    → is_assignable (type_of (get_or args k d).value) (get_or args k d).data_type ≡ true
argument-assignable s args k d h lt = and-right (is_typed s (get_or args k d).value) _ (passes-at (is_typed_argument s) args k d h lt)

module _ (p : Parts) (call : Caller) where
  abbrev after : List ℤ → Outcome Scope (List ℤ) → Outcome Scope (List ℤ)
  after all o = and_then o (λ cs sc l. Through (all ++ cs) sc l)

  abbrev given_after : List Argument → Value → Scope → Left → Outcome Scope (List ℤ)
  given_after rest x sc l = after (flat x) (cells_given p call rest sc l)

  after-after : (all more : List ℤ) (o : Outcome Scope (List ℤ)) → after all (after more o) ≡ after (all ++ more) o
  after-after all more (Through cs sc l) = ap (λ xs. Through xs sc l) (sym (append_assoc all more cs))
  after-after all more (Asked q) = refl

  -- the cells of arguments, one argument more
  pub given-step : (args : List Argument) (k : ℕ) (a : Argument) (all more next : List ℤ) (t : DataType) (v w : Value) (sc sc1 sc2 : Scope) (l l1 l2 : Left)
      → k < length args → a ≡ get_or args k a
      → eval p call a.value sc l ≡ Through v sc1 l1 → t ≡ type_of a.value → converted_value t a.data_type v sc1 l1 ≡ Through w sc2 l2 → flat w ≡ more → next ≡ all ++ more
      → after all (cells_given p call (drop k args) sc l) ≡ after next (cells_given p call (drop (k + 1) args) sc2 l2)
  given-step args k a all more next t v w sc sc1 sc2 l l1 l2 lt here e type c cells longer =
      let rest = drop (k + 1) args in
      ap (λ xs. after all (cells_given p call xs sc l)) (drop-at args k a lt ∙ ap (λ b. b ∷ rest) (sym here))
      ∙ ap (λ o. after all (and_then o (λ x sc3 l3. and_then (converted_value (type_of a.value) a.data_type x sc3 l3) (given_after rest)))) e
      ∙ ap (λ u. after all (and_then (converted_value u a.data_type v sc1 l1) (given_after rest))) (sym type)
      ∙ ap (λ o. after all (and_then o (given_after rest))) c
      ∙ after-after all (flat w) (cells_given p call rest sc2 l2)
      ∙ ap (λ xs. after xs (cells_given p call rest sc2 l2)) (ap (λ xs. all ++ xs) cells ∙ sym longer)

  pub given-asked : (args : List Argument) (k : ℕ) (d : Argument) (q : Request) (sc : Scope) (l : Left) → k < length args
      → eval p call (get_or args k d).value sc l ≡ Asked q → cells_given p call (drop k args) sc l ≡ Asked q
  given-asked args k d q sc l lt e =
      let a = get_or args k d in
      let rest = drop (k + 1) args in
      ap (λ xs. cells_given p call xs sc l) (drop-at args k d lt)
      ∙ ap (λ o. and_then o (λ v sc3 l3. and_then (converted_value (type_of a.value) a.data_type v sc3 l3) (λ w sc4 l4. and_then (cells_given p call rest sc4 l4) (λ cs sc5 l5. Through (flat w ++ cs) sc5 l5)))) e

  pub given-unconverted : (args : List Argument) (k : ℕ) (d : Argument) (v : Value) (q : Request) (sc sc1 : Scope) (l l1 : Left) → k < length args
      → eval p call (get_or args k d).value sc l ≡ Through v sc1 l1 → converted_value (type_of (get_or args k d).value) (get_or args k d).data_type v sc1 l1 ≡ Asked q → cells_given p call (drop k args) sc l ≡ Asked q
  given-unconverted args k d v q sc sc1 l l1 lt e c =
      let a = get_or args k d in
      let rest = drop (k + 1) args in
      ap (λ xs. cells_given p call xs sc l) (drop-at args k d lt)
      ∙ ap (λ o. and_then o (λ v sc3 l3. and_then (converted_value (type_of a.value) a.data_type v sc3 l3) (λ w sc4 l4. and_then (cells_given p call rest sc4 l4) (λ cs sc5 l5. Through (flat w ++ cs) sc5 l5)))) e
      ∙ ap (λ o. and_then o (λ w sc4 l4. and_then (cells_given p call rest sc4 l4) (λ cs sc5 l5. Through (flat w ++ cs) sc5 l5))) c

pub ruleset arguing = (argument-straight, argument-typed, argument-assignable, given-asked, given-unconverted, append_assoc, append-nil)

pub ruleset calling = (zero-unflat, length-replicate)

pub ruleset assigning = (straight-variable)

-- what gives a value of one type to one meaning gives it of the same type to the same meaning
pub regive : (v : Evaluator) (t u : DataType) (r : Result (List ℤ) Unfinished) (run : Run) (o p : Outcome Scope Value) → t ≡ u → o ≡ p
    → GivesBy (value v t) v r run o → GivesBy (value v u) v r run p
regive v t u r run o p e f g = subst (λ w. GivesBy (value v w) v r run p) e (subst (λ q. GivesBy (value v t) v r run q) f g)
