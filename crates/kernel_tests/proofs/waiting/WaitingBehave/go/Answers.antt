use Rattle.std.proofs.Common.{◌≡◌, ℕ, ◌+◌, ◌-◌, ◌<◌, List, [], ◌∷◌, ◌++◌, length, min, sym, ◌∙◌, arith, Some}
use Rattle.std.specs.Prelude.{slice_get}
use Rattle.std.proofs.lemmas.List.{length-append}
use Rattle.std.proofs.lemmas.Option.{slice_get_within}
use Rattle.cc_base.specs.declared.request.Grant.{Grant}
use Rattle.kernel_tests.specs.Tables.{steps_of}
use Rattle.kernel_tests.proofs.waiting.WaitingBehave.go.Goals as goal

one-more :
    (grants : List Grant) (grant : Grant) (n asked : ℕ)
    → asked ≡ min (length grants) n
    → asked < n
    → (length (grants ++ grant ∷ []) - 1 ≡ asked) × (asked + 1 ≡ min (length (grants ++ grant ∷ [])) n)
one-more grants grant n asked e lt = (omega (arith, length-append grants (grant ∷ [])), omega (arith, length-append grants (grant ∷ [])))

pub returns : goal.returns
returns c code kind args grants at is_next =
    let xs = steps_of code.script.main.items code.script.first.items code.script.second.items kind in
    let found : Some c.in-Some.step ≡ slice_get xs c.args.this.now.asked = rw (c.deref.ensures ∙ at.0, at.1) at c.in-Some.ensures in
    let more = one-more grants c.args._grant (length xs) c.args.this.now.asked at.2 (slice_get_within xs c.args.this.now.asked c.in-Some.step (sym found)) in
    (rw (more.0, ← found) c.in_ok-request.ensures, (at.0, at.1, more.1))
