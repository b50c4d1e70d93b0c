-- What is answered and what is noted, where a rule applies.
use Rattle.std.proofs.Common.{◌≡◌, Bool, true, false, List, [], ◌∷◌, refl, ap}
use Rattle.cc_faults.proofs.Judged.{noted-end, noted-more, answer-Good, answer-own, answer-other, faults-Good, faults-Bad, answer-map, faults-map, answer-checked, noted-checked, answer-both, noted-both}
use Rattle.cc_faults.specs.Judged.{Judged, Good, Bad, answer_map, answer_pair, checked, map, second}
use Rattle.cc_faults.specs.declared.fault.FaultAt.{FaultAt}
use Rattle.cc_faults.specs.declared.answer.Answer.{Answer}
use Rattle.cc_faults.specs.declared.answer.Answer.TheVariants as an
use Rattle.cc_faults.specs.Made.{behind}
use Rattle.cc_typed.specs.declared.tree.ChainStep.{ChainStep}
use Rattle.cc_typed.specs.declared.tree.Expression.{Expression}
use Rattle.cc_typed.specs.declared.tree.Expression.TheVariants as expression
use Rattle.cc_typed.specs.declared.types.DataType.{DataType}

-- with no step behind it an expression is itself, and with one it is a chain
pub behind-none : (e : Expression) (steps : List ChainStep) (t : DataType) → steps ≡ [] → e ≡ behind e steps t
behind-none e [] t none = refl
behind-none e (s ∷ steps) t none = absurd (cc)

pub behind-more : (e first : Expression) (steps : List ChainStep) (t : DataType) (empty : Bool) → first ≡ e → empty ≡ false → (steps ≡ [] → empty ≡ true) → expression.Chain first steps t ≡ behind e steps t
behind-more e first [] t empty same isnt all = absurd (let is = all refl in cc)
behind-more e first (s ∷ steps) t empty same isnt all = ap (λ x. expression.Chain x (s ∷ steps) t) same

-- where the first of two is good, the second of both is the second
pub second-good : {A B : Type 0} (v : A) (b : Answer B) → answer_map second (answer_pair (an.Good v) b) ≡ b
second-good v (an.Good w) = refl
second-good v an.Typeless = refl
second-good v an.Faulty = refl

-- a rule that gives a value or a fault
pub ruleset rows = (noted-end, noted-more, answer-Good, answer-own, answer-other, faults-Good, faults-Bad)

-- rules that are put together
pub ruleset joined = (rows, answer-map, faults-map, answer-checked, noted-checked, answer-both, noted-both, second-good)

module _ {A B : Type 0} where
  pub checked-Good : (v : A) (r : A → Judged B) → checked (Good v) r ≡ r v
  unfolding checked
  checked-Good v r = refl

  pub checked-Bad : (own : Bool) (f : FaultAt) (fs : List FaultAt) (r : A → Judged B) → checked (Bad own f fs) r ≡ Bad own f fs
  unfolding checked
  checked-Bad own f fs r = refl

  pub map-Good : (g : A → B) (v : A) → map g (Good v) ≡ Good (g v)
  unfolding map
  map-Good g v = refl

  pub map-Bad : (g : A → B) (own : Bool) (f : FaultAt) (fs : List FaultAt) → map g (Bad own f fs) ≡ Bad own f fs
  unfolding map
  map-Bad g own f fs = refl

-- outcomes
pub ruleset outcomes = (checked-Good, checked-Bad, map-Good, map-Bad)
