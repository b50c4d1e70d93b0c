-- What is found of statements and of their parts, by the names that the code has.
use Rattle.std.specs.Prelude.{List, length, Option, Some, None}
use Rattle.cc_base.specs.declared.names.Place.{Place}
use Rattle.cc_typed.specs.declared.tree.AcceptPart.{AcceptPart as TypedAccept}
use Rattle.cc_typed.specs.declared.tree.Alternative.{Alternative as TypedAlternative}
use Rattle.cc_typed.specs.declared.tree.Expression.{Expression}
use Rattle.cc_typed.specs.declared.tree.Statement.{Statement as TypedStatement}
use Rattle.cc_typed.specs.declared.types.DataType.{DataType}
use Rattle.cc_faults.specs.Expressions.{expression, place_of}
use Rattle.cc_faults.specs.Faults.{noted}
use Rattle.cc_faults.specs.Judged.{Judged, Good, after_each, answer, answer_map, answer_pair, answer_then, both, checked, each_after, faults, faults_then, found, good_of, map}
use Rattle.cc_faults.specs.Rows.{assigned, fresh, has_value}
use Rattle.cc_faults.specs.Scopes.{Scope, Text, deeper, is_here, left, meaning_at}
use Rattle.cc_faults.specs.Statements.{Head, after, after_choice, alternative_made, around_block, before_block, choice_judged, head_of, judged, local_type, optional_condition, optional_value, part_made, some, value_back, variable_made}
use Rattle.cc_faults.specs.declared.answer.Answer.{Answer}
use Rattle.cc_faults.specs.declared.fault.FaultAt.{FaultAt}
use Rattle.cc_faults.specs.declared.plain.AcceptHead.{AcceptHead}
use Rattle.cc_faults.specs.declared.plain.AcceptPart.{AcceptPart}
use Rattle.cc_faults.specs.declared.plain.Alternative.{Alternative}
use Rattle.cc_faults.specs.declared.plain.Local.{Local}
use Rattle.cc_faults.specs.declared.plain.LocalForm.{LocalForm}
use Rattle.cc_faults.specs.declared.plain.LocalForm.TheVariants as form
use Rattle.cc_faults.specs.declared.plain.Phrase.{Phrase}
use Rattle.cc_faults.specs.declared.plain.Statement.{Statement}
use Rattle.cc_faults.specs.declared.scope.Around.{Around}

-- only whether it is good
abbrev pub nothing : {A : Type 0} → A → Unit {0}
nothing v = tt

module _ (t : Text) (w : Around) (s : Scope) where
  unfoldable pub condition_or_none : Option Phrase → Judged (Option Expression)
  condition_or_none e = optional_condition t w s e

  unfoldable pub value_or_none : Option Phrase → Judged (Option Expression)
  value_or_none e = optional_value t w s e

  -- what stands in the head of a `for`
  unfoldable pub for_head_judged : Option Phrase → Option Phrase → Option Phrase → Judged (Option Expression × (Option Expression × Option Expression))
  for_head_judged e c next = both (value_or_none e) (both (condition_or_none c) (value_or_none next))

  -- a value for a type, where that is known
  abbrev pub given_for : Option DataType → Phrase → Judged Expression
  given_for u e = checked (expression t s w e) (assigned (place_of e) u)

  unfoldable pub initial_for : Option DataType → LocalForm → Judged (Option Expression)
  initial_for u form.Plain = Good None
  initial_for u (form.Array n) = Good None
  initial_for u (form.Value e) = map some (given_for u e)

  unfoldable pub local_judged : Local → Judged TypedStatement
  local_judged l =
      map (variable_made (length s.variables))
      (both (both (fresh (is_here w.scope (meaning_at s l.name)) l.name) (local_type s l)) (initial_for (found (local_type s l)) l.form))

  unfoldable pub gives_back : Place → Judged DataType → Option Phrase → Judged (DataType × Option Expression)
  gives_back p u e = value_back t w s p u e

  -- what is answered of a value that is given back, and what is noted of it, from what is answered of its type
  unfoldable pub back_answered : Place → Answer DataType → Option Phrase → Answer (DataType × Option Expression)
  back_answered p a None = answer_map (λ (v : DataType). (v, None)) a
  back_answered p a (Some e) =
      answer_pair (answer_then a (has_value p)) (answer_map some (answer (given_for (good_of (answer_then a (has_value p))) e)))

  unfoldable pub back_noted : Place → Option FaultAt → Answer DataType → Option Phrase → Option FaultAt
  back_noted p m a None = m
  back_noted p m a (Some e) =
      noted (noted m (faults_then a (has_value p))) (faults (given_for (good_of (answer_then a (has_value p))) e))

module _ (t : Text) (w : Around) where
  -- ---- statements in a list

  abbrev pub after_entries : Scope → List Statement → Scope
  after_entries s xs = after_each (after t w) s xs

  abbrev pub entries_judged : Scope → List Statement → Judged (List TypedStatement)
  entries_judged s xs = each_after (judged t w) (after t w) s xs

module _ (t : Text) (w : Around) where
  -- ---- accepts

  unfoldable pub head_judged : Scope → AcceptHead → Judged Head
  head_judged s a = head_of t w s a

  unfoldable pub within_block : Scope → AcceptHead → Scope
  within_block s a = before_block t w s a

  unfoldable pub round_block : AcceptHead → Around
  round_block a = around_block t w a

  unfoldable pub accept_judged : Scope → AcceptPart → Judged TypedAccept
  accept_judged s part =
      map (part_made (length s.sites))
      (both (head_judged s part.head) (entries_judged t (round_block part.head) (within_block s part.head) part.block))

  unfoldable pub after_accept : Scope → AcceptPart → Scope
  after_accept s part = left s (after_entries t (round_block part.head) (within_block s part.head) part.block)

  -- ---- alternatives

  unfoldable pub alternative_judged : Scope → Alternative → Judged TypedAlternative
  alternative_judged s a =
      map alternative_made
      (both (both (condition_or_none t w s a.guard) (choice_judged t w s a.choice)) (entries_judged t (deeper w) (after_choice t w s a.choice) a.entries))

  unfoldable pub after_alternative : Scope → Alternative → Scope
  after_alternative s a = left s (after_entries t (deeper w) (after_choice t w s a.choice) a.entries)

  abbrev pub after_alternatives_in : Scope → List Alternative → Scope
  after_alternatives_in s xs = after_each after_alternative s xs

  abbrev pub alternatives_judged_in : Scope → List Alternative → Judged (List TypedAlternative)
  alternatives_judged_in s xs = each_after alternative_judged after_alternative s xs
