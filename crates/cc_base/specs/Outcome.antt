-- What evaluating a part of a program comes to, over any variables S: those of a text, or the cells of its code.
use Rattle.std.specs.Prelude.{ℕ, zero, suc, ◌+◌, ◌-◌, ◌*◌, List, [], ◌∷◌, length}
use Rattle.cc_base.specs.Limits.{ticks_granted}
use Rattle.cc_base.specs.declared.request.Grant.{Grant}
use Rattle.cc_base.specs.declared.request.Request.{Request}
use Rattle.cc_base.specs.declared.request.Request.TheVariants.{Pause}

-- the grants and the ticks that are left
pub record Left : Type 0 where
  pub grants : List Grant
  pub ticks : ℕ

-- it is through, with a value, the variables and what is left; or it has asked what no grant answers: none was left, or it
-- is a fault
pub data Outcome (S A : Type 0) : Type 0 where
  Through : A → S → Left → Outcome S A
  Asked : Request → Outcome S A

-- an evaluation, from the variables and what is left
abbrev pub Eval : Type 0 → Type 0 → Type 0
Eval S A = S → Left → Outcome S A

abbrev pub and_then : {S A B : Type 0} → Outcome S A → (A → Eval S B) → Outcome S B
and_then (Through value vars left) go = go value vars left
and_then (Asked request) go = Asked request

-- one after the other, of which the second may use the first's value
infixl 10 ◌>>=◌
abbrev pub ◌>>=◌ : {S A B : Type 0} → Eval S A → (A → Eval S B) → Eval S B
p >>= f = λ vars left. and_then (p vars left) f

infixl 10 ◌>>◌
abbrev pub ◌>>◌ : {S A B : Type 0} → Eval S A → Eval S B → Eval S B
p >> q = p >>= (λ _. q)

abbrev pub pure : {S A : Type 0} → A → Eval S A
pure value = Through value

-- nothing follows this request
abbrev pub stop : {S A : Type 0} → Request → Eval S A
stop request = λ vars left. Asked request

abbrev pub variables : {S : Type 0} → Eval S S
variables = λ vars left. Through vars vars left

abbrev pub set_variables : {S : Type 0} → S → Eval S (Unit {0})
set_variables new = λ vars left. Through tt new left

-- with variables of its own, after which those from before stand again
abbrev pub restored : {S T A : Type 0} → S → Outcome T A → Outcome S A
restored vars (Through value inner left) = Through value vars left
restored vars (Asked request) = Asked request

abbrev pub inside : {S T A : Type 0} → T → Eval T A → Eval S A
inside inner p = λ vars left. restored vars (p inner left)

-- the next grant answers the request, and gives ticks anew; where none is left, the request is asked
abbrev pub answered : {S : Type 0} → List Grant → Request → S → Outcome S Grant
answered [] request vars = Asked request
answered (grant ∷ grants) request vars = Through grant vars (record { grants = grants; ticks = ticks_granted })

abbrev pub ask : {S : Type 0} → Request → Eval S Grant
ask request = λ vars left. answered left.grants request vars

-- one tick is spent, after a pause where none is left
abbrev pub spent : {S : Type 0} → ℕ → Eval S (Unit {0})
spent (suc n) = λ vars left. Through tt vars (record { grants = left.grants; ticks = n })
spent zero = ask Pause >>= (λ grant vars left. Through tt vars (record { grants = left.grants; ticks = ticks_granted - 1 }))

abbrev pub tick : {S : Type 0} → Eval S (Unit {0})
tick = λ vars left. spent left.ticks vars left

-- how many ticks can be spent before a pause finds no grant left
abbrev pub spendable : Left → ℕ
spendable left = left.ticks + ticks_granted * length left.grants

-- what a process asks, where this comes of its body
abbrev pub asked_by : {S A : Type 0} → Request → Outcome S A → Request
asked_by at_end (Through value vars left) = at_end
asked_by at_end (Asked request) = request
