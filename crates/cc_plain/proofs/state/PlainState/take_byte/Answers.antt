use Rattle.std.proofs.Common.{ap, ◌∙◌, refl}
use Rattle.std.specs.Prelude.{slice_get}
use Rattle.cc_plain.proofs.Input.{first-drop, rest-more}
use Rattle.cc_plain.proofs.state.PlainState.take_byte.Goals as goal

pub returns-then-self-len-clause-byte : goal.returns-then-self-len-clause-byte
returns-then-self-len-clause-byte c =
    rw (← c.self.view_is) (c.get-byte.ensures ∙ ap (λ xs. slice_get xs c.self.inside.taken) c.deref.ensures ∙ first-drop c.self.inside.input.value c.self.inside.taken)

pub returns-then-self-len-clause-rest : goal.returns-then-self-len-clause-rest
returns-then-self-len-clause-rest c = rw (← c.self.view_is, rest-more c.self.inside.input.value c.self.inside.taken) refl

pub returns-else-self-len-clause-byte : goal.returns-else-self-len-clause-byte
returns-else-self-len-clause-byte c =
    rw (← c.self.view_is) (c.get-byte.ensures ∙ ap (λ xs. slice_get xs c.self.inside.taken) c.deref.ensures ∙ first-drop c.self.inside.input.value c.self.inside.taken)
