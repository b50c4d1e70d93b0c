-- Loops, over any variables.
use Rattle.std.specs.Prelude.{ℕ, zero, suc}
use Rattle.cc_base.specs.Outcome.{Eval, ◌>>=◌, stop, tick, spendable}
use Rattle.cc_base.specs.declared.request.Request.TheVariants.{Pause}

-- one turn: a tick, and the body, which may go on to what is next
abbrev pub turn : {S A : Type 0} → (Eval S A → Eval S A) → Eval S A → Eval S A
turn body next = tick >>= (λ _. body next)

-- the turns of a loop, at most n of them; where n is all that can be spent, the tick after those asks Pause and finds no grant
unfoldable pub turns : {S A : Type 0} → ℕ → (Eval S A → Eval S A) → Eval S A
turns zero body = stop Pause
turns (suc n) body = turn body (turns n body)

-- a loop, as its body with what is next left open
abbrev pub loops : {S A : Type 0} → (Eval S A → Eval S A) → Eval S A
loops body = λ vars left. turns (spendable left) body vars left
