-- What executing statements on cells gives.
use Rattle.std.proofs.Common.{◌≡◌, ℕ, pos, ◌+◌, ◌<◌, true, false, List, length, drop, get_or, replicate, Option, Some, None, refl, sym, ap, ◌∙◌, arith}
use Rattle.std.specs.List.{list_all}
use Rattle.std.specs.Prelude.{slice_get}
use Rattle.std.proofs.lemmas.List.{drop_all, length-replicate}
use Rattle.cc_base.specs.Outcome.{Eval, Left, Through, Asked, and_then}
use Rattle.cc_base.specs.declared.request.Request.{Request}
use Rattle.cc_source.proofs.Scopes.{accept-types}
use Rattle.cc_source.proofs.Shapes.{table-of}
use Rattle.cc_source.specs.Gives.{around, body_variables, flow_in, is_ended, reply_type}
use Rattle.cc_source.specs.Lists.{exec_all}
use Rattle.cc_source.specs.Meaning.{Caller, Ended, Flow, Scope, exec, transaction_of, unless_left}
use Rattle.cc_source.specs.Projections.{passes-at}
use Rattle.cc_source.specs.Straight.{is_straight_statement}
use Rattle.cc_source.specs.declared.ending.Ending.{Ending}
use Rattle.cc_source.specs.declared.ending.Ending.TheVariants as ending
use Rattle.cc_source.specs.declared.evaluator.Evaluator.{Evaluator}
use Rattle.cc_typed.proofs.Flat.{flat-unflat, zero-unflat}
use Rattle.cc_typed.proofs.Partings.{same-type}
use Rattle.cc_typed.specs.Layout.{Layout, cells}
use Rattle.cc_typed.specs.Missing.{first_at, parameters_at}
use Rattle.cc_typed.specs.Parting.{is_of_type}
use Rattle.cc_typed.specs.Parts.{Parts}
use Rattle.cc_typed.specs.Sequences.{drop-at}
use Rattle.cc_typed.specs.Typed.{Surroundings, have_types_from, is_accepted, is_typed_program, is_typed_statement}
use Rattle.cc_typed.specs.Values.{flat, zero_of}
use Rattle.cc_typed.specs.declared.tree.Statement.{Statement}
use Rattle.cc_typed.specs.declared.types.DataType.{DataType}

-- the type of the reply that `treturn` gives
pub reply-is : (o : Option DataType) (t : DataType) → is_of_type o t ≡ true → reply_type o ≡ t
reply-is None t e = cc
reply-is (Some u) t e = same-type u t e

pub ruleset executing = (table-of, reply-is)

pub statement-straight : (all : List Statement) (k : ℕ) (d : Statement) → list_all is_straight_statement all ≡ true → k < length all
    → is_straight_statement (get_or all k d) ≡ true
statement-straight all k d h lt = passes-at is_straight_statement all k d h lt

pub statement-typed : (s : Surroundings) (all : List Statement) (k : ℕ) (d : Statement) → list_all (is_typed_statement s) all ≡ true → k < length all
    → is_typed_statement s (get_or all k d) ≡ true
statement-typed s all k d h lt = passes-at (is_typed_statement s) all k d h lt

left-so : (v : Evaluator) (e : Ending) (q : Eval Scope Flow) (sc : Scope) (l : Left) → is_ended e ≡ false
    → unless_left (flow_in v e) q sc l ≡ Through (flow_in v e) sc l
left-so v ending.Ended q sc l h = cc
left-so v ending.Broke q sc l h = refl
left-so v ending.Continued q sc l h = refl
left-so v (ending.Returned cs) q sc l h = refl
left-so v (ending.Replied cs) q sc l h = refl
left-so v ending.Finished q sc l h = refl

goes-on : (v : Evaluator) (e : Ending) (q : Eval Scope Flow) (sc : Scope) (l : Left) → is_ended e ≡ true → unless_left (flow_in v e) q sc l ≡ q sc l
goes-on v ending.Ended q sc l h = refl
goes-on v ending.Broke q sc l h = cc
goes-on v ending.Continued q sc l h = cc
goes-on v (ending.Returned cs) q sc l h = cc
goes-on v (ending.Replied cs) q sc l h = cc
goes-on v ending.Finished q sc l h = cc

module _ (p : Parts) (call : Caller) where
  row-step : (all : List Statement) (k : ℕ) (d : Statement) (sc : Scope) (l : Left) → k < length all
      → exec_all p call (drop k all) sc l ≡ and_then (exec p call (get_or all k d) sc l) (λ flow. unless_left flow (exec_all p call (drop (k + 1) all)))
  row-step all k d sc l lt = ap (λ xs. exec_all p call xs sc l) (drop-at all k d lt)

  -- a statement that leaves
  pub row-left : (all : List Statement) (k : ℕ) (d : Statement) (v : Evaluator) (e : Ending) (sc sc1 : Scope) (l l1 : Left) → k < length all
      → exec p call (get_or all k d) sc l ≡ Through (flow_in v e) sc1 l1 → is_ended e ≡ false
      → exec_all p call (drop k all) sc l ≡ Through (flow_in v e) sc1 l1
  row-left all k d v e sc sc1 l l1 lt is h =
      row-step all k d sc l lt ∙ ap (λ o. and_then o (λ flow. unless_left flow (exec_all p call (drop (k + 1) all)))) is
      ∙ left-so v e (exec_all p call (drop (k + 1) all)) sc1 l1 h

  -- one that ends by itself
  pub row-on : (all : List Statement) (k : ℕ) (d : Statement) (v : Evaluator) (e : Ending) (sc sc1 : Scope) (l l1 : Left) → k < length all
      → exec p call (get_or all k d) sc l ≡ Through (flow_in v e) sc1 l1 → is_ended e ≡ true
      → exec_all p call (drop k all) sc l ≡ exec_all p call (drop (k + 1) all) sc1 l1
  row-on all k d v e sc sc1 l l1 lt is h =
      row-step all k d sc l lt ∙ ap (λ o. and_then o (λ flow. unless_left flow (exec_all p call (drop (k + 1) all)))) is
      ∙ goes-on v e (exec_all p call (drop (k + 1) all)) sc1 l1 h

  pub row-asked : (all : List Statement) (k : ℕ) (d : Statement) (q : Request) (sc : Scope) (l : Left) → k < length all
      → exec p call (get_or all k d) sc l ≡ Asked q → exec_all p call (drop k all) sc l ≡ Asked q
  row-asked all k d q sc l lt is = row-step all k d sc l lt ∙ ap (λ o. and_then o (λ flow. unless_left flow (exec_all p call (drop (k + 1) all)))) is

  pub row-end : (all : List Statement) (k : ℕ) (sc : Scope) (l : Left) → k ≡ length all → exec_all p call (drop k all) sc l ≡ Through Ended sc l
  row-end all k sc l e = ap (λ xs. exec_all p call xs sc l) (drop_all k all (omega (arith, e)))

pub ruleset in_a_row = (statement-straight, statement-typed, row-left, row-on, row-asked, row-end)

-- the variables of an accept's parameters have their types
pub parameters-fit : (v : Evaluator) (site : ℕ) → is_typed_program v.program.now ≡ true → body_variables v.program.now v.kind ≡ v.variables.now
    → is_accepted (around v) (slice_get v.program.now.sites site) ≡ true
    → have_types_from (parameters_at (transaction_of v.program.now site)) v.variables.now (first_at (slice_get v.program.now.sites site)) ≡ true
parameters-fit v site typed body accepted = accept-types v.program.now (around v) site typed refl body accepted

pub ruleset accepting = (table-of, parameters-fit)

pub flat-zero : (l : Layout) → flat (zero_of l) ≡ replicate (cells l) (pos 0)
flat-zero l = ap flat (sym (zero-unflat l)) ∙ flat-unflat l (replicate (cells l) (pos 0)) (length-replicate (cells l) (pos 0))

pub ruleset replying = (flat-zero, flat-unflat)
