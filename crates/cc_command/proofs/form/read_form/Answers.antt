use Rattle.std.proofs.Common.{◌≡◌, ◌++◌, ◌∷◌, [], rules}
use Rattle.cc_command.proofs.Forms.{opened, read_one, stuck}
use Rattle.cc_command.specs.Form.{closing, whats}
use Rattle.cc_command.proofs.form.read_form.Goals as goal

pub loop-byte-init : goal.loop-byte-init
loop-byte-init c = rw c.new-bytes.ensures (opened _ _ (search rules))

pub loop-byte-preserved : goal.loop-byte-preserved
loop-byte-preserved c =
    let pushed : c.push.new.self ≡ c.loop-byte.bytes ++ c.in-Some-statement.byte ∷ [] = c.in_ok-push.ensures.ok in
    rw pushed (read_one _ _ _ _ _ c.in-Some-statement.ensures.in_range c.loop-byte.invariant c.in-Some-statement.ensures.cases)

pub returns-else-is_closing : goal.returns-else-is_closing
returns-else-is_closing c =
    let more : ¬ (whats c.loop-byte.rest.now ≡ closing) = λ closed. search rules in
    stuck _ _ _ c.loop-byte.invariant c.in_default-statement.ensures.cases more
