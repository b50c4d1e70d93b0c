-- What is found of parts of statements.
use Rattle.std.proofs.Common.{◌≡◌, length, Option, Some, None, refl, ap, sym, ◌∙◌}
use Rattle.cc_base.specs.declared.names.Place.{Place}
use Rattle.cc_typed.specs.declared.tree.Expression.{Expression}
use Rattle.cc_typed.specs.declared.types.DataType.{DataType}
use Rattle.cc_faults.proofs.Judged.{answer-both, answer-checked, answer-map, faults-map, laws, noted-both, noted-checked}
use Rattle.cc_faults.specs.Faults.{noted}
use Rattle.cc_faults.specs.Judged.{Judged, Good, answer, answer_map, answer_pair, answer_then, both, checked, faults, faults_then, found, good_of, map}
use Rattle.cc_faults.specs.Rows.{fresh, has_value}
use Rattle.cc_faults.specs.Scopes.{Scope, Text, is_here, meaning_at}
use Rattle.cc_faults.specs.Statements.{any_value, condition, given, initial, local, local_type, some, variable_made}
use Rattle.cc_faults.specs.declared.answer.Answer.{Answer}
use Rattle.cc_faults.specs.declared.fault.FaultAt.{FaultAt}
use Rattle.cc_faults.specs.declared.plain.Length.{Length}
use Rattle.cc_faults.specs.declared.plain.Local.{Local}
use Rattle.cc_faults.specs.declared.plain.LocalForm.{LocalForm}
use Rattle.cc_faults.specs.declared.plain.LocalForm.TheVariants as form
use Rattle.cc_faults.specs.declared.plain.Phrase.{Phrase}
use Rattle.cc_faults.specs.declared.scope.Around.{Around}
use Rattle.cc_types.specs.Judging.{back_answered, back_noted, condition_or_none, for_head_judged, given_for, gives_back, initial_for, local_judged, value_or_none}

module _ (t : Text) (w : Around) (s : Scope) where
  pub condition-None : condition_or_none t w s None ≡ Good None
  unfolding condition_or_none
  condition-None = refl

  pub condition-Some : (e : Phrase) → condition_or_none t w s (Some e) ≡ map some (condition t w s e)
  unfolding condition_or_none
  condition-Some e = refl

  pub value-None : value_or_none t w s None ≡ Good None
  unfolding value_or_none
  value-None = refl

  pub value-Some : (e : Phrase) → value_or_none t w s (Some e) ≡ map some (any_value t w s e)
  unfolding value_or_none
  value-Some e = refl

  pub head-is : (e c next : Option Phrase) → for_head_judged t w s e c next ≡ both (value_or_none t w s e) (both (condition_or_none t w s c) (value_or_none t w s next))
  unfolding for_head_judged
  head-is e c next = refl

  pub for_head-answer : (e c next : Option Phrase) (first middle last : Answer (Option Expression)) (rest : Answer (Option Expression × Option Expression)) (all : Answer (Option Expression × (Option Expression × Option Expression)))
      → first ≡ answer (value_or_none t w s e) → middle ≡ answer (condition_or_none t w s c) → last ≡ answer (value_or_none t w s next) → rest ≡ answer_pair middle last → all ≡ answer_pair first rest
      → all ≡ answer (for_head_judged t w s e c next)
  unfolding for_head_judged
  for_head-answer e c next first middle last rest all firsts middles lasts rests alls =
      alls
      ∙ ap (answer_pair first)
      (rests
      ∙ ap (λ m. answer_pair m last) middles
      ∙ ap (answer_pair (answer (condition_or_none t w s c))) lasts
      ∙ sym (answer-both (condition_or_none t w s c) (value_or_none t w s next)))
      ∙ ap (λ f. answer_pair f (answer (both (condition_or_none t w s c) (value_or_none t w s next)))) firsts
      ∙ sym (answer-both (value_or_none t w s e) (both (condition_or_none t w s c) (value_or_none t w s next)))

  pub initial-Plain : (u : Option DataType) → initial_for t w s u form.Plain ≡ Good None
  unfolding initial_for
  initial-Plain u = refl

  pub initial-Array : (u : Option DataType) (n : Length) → initial_for t w s u (form.Array n) ≡ Good None
  unfolding initial_for
  initial-Array u n = refl

  pub initial-Value : (u : Option DataType) (e : Phrase) → initial_for t w s u (form.Value e) ≡ map some (given_for t w s u e)
  unfolding initial_for
  initial-Value u e = refl

  initial-is : (j : Judged DataType) (f : LocalForm) → initial t w s j f ≡ initial_for t w s (found j) f
  unfolding initial_for
  initial-is j form.Plain = refl
  initial-is j (form.Array n) = refl
  initial-is j (form.Value e) = refl

  pub local-is : (l : Local) → local_judged t w s l ≡ map (variable_made (length s.variables)) (both (both (fresh (is_here w.scope (meaning_at s l.name)) l.name) (local_type s l)) (initial_for t w s (found (local_type s l)) l.form))
  unfolding local_judged
  local-is l = refl

  pub local-judged : (l : Local) → local t w s l ≡ local_judged t w s l
  unfolding local_judged
  local-judged l =
      ap (λ j. map (variable_made (length s.variables)) (both (both (fresh (is_here w.scope (meaning_at s l.name)) l.name) (local_type s l)) j)) (initial-is (local_type s l) l.form)

  -- what is given back
  pub back-None : (p : Place) (a : Answer DataType) → back_answered t w s p a None ≡ answer_map (λ (v : DataType). (v, None)) a
  unfolding back_answered
  back-None p a = refl

  pub back-Some : (p : Place) (a : Answer DataType) (e : Phrase) → back_answered t w s p a (Some e) ≡ answer_pair (answer_then a (has_value p)) (answer_map some (answer (given_for t w s (good_of (answer_then a (has_value p))) e)))
  unfolding back_answered
  back-Some p a e = refl

  pub back_noted-None : (p : Place) (m : Option FaultAt) (a : Answer DataType) → back_noted t w s p m a None ≡ m
  unfolding back_noted
  back_noted-None p m a = refl

  pub back_noted-Some : (p : Place) (m : Option FaultAt) (a : Answer DataType) (e : Phrase) → back_noted t w s p m a (Some e) ≡ noted (noted m (faults_then a (has_value p))) (faults (given_for t w s (good_of (answer_then a (has_value p))) e))
  unfolding back_noted
  back_noted-Some p m a e = refl

  pub answer-gives_back : (p : Place) (u : Judged DataType) (e : Option Phrase) → answer (gives_back t w s p u e) ≡ back_answered t w s p (answer u) e
  unfolding gives_back back_answered
  answer-gives_back p u None = answer-map (λ (v : DataType). (v, None)) u
  answer-gives_back p u (Some e) =
      answer-both (checked u (has_value p)) (map some (given t w s (checked u (has_value p)) e))
      ∙ ap (λ a. answer_pair a (answer (map some (given t w s (checked u (has_value p)) e)))) (answer-checked u (has_value p))
      ∙ ap (answer_pair (answer_then (answer u) (has_value p)))
      (answer-map some (given t w s (checked u (has_value p)) e)
      ∙ ap (λ a. answer_map some (answer (given_for t w s (good_of a) e))) (answer-checked u (has_value p)))

  pub noted-gives_back : (p : Place) (m : Option FaultAt) (u : Judged DataType) (e : Option Phrase) → noted m (faults (gives_back t w s p u e)) ≡ back_noted t w s p (noted m (faults u)) (answer u) e
  unfolding gives_back back_noted
  noted-gives_back p m u None = ap (noted m) (faults-map (λ (v : DataType). (v, None)) u)
  noted-gives_back p m u (Some e) =
      noted-both m (checked u (has_value p)) (map some (given t w s (checked u (has_value p)) e))
      ∙ ap (λ n. noted n (faults (map some (given t w s (checked u (has_value p)) e)))) (noted-checked m u (has_value p))
      ∙ ap (noted (noted (noted m (faults u)) (faults_then (answer u) (has_value p))))
      (faults-map some (given t w s (checked u (has_value p)) e)
      ∙ ap (λ a. faults (given_for t w s (good_of a) e)) (answer-checked u (has_value p)))

pub ruleset parts = (laws, condition-None, condition-Some, value-None, value-Some, head-is, initial-Plain, initial-Array, initial-Value, local-is, back-None, back-Some, back_noted-None, back_noted-Some, answer-gives_back, noted-gives_back)
