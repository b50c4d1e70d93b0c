use Rattle.std.proofs.Common.{ap, ◌∙◌, ◌++◌, ◌∷◌, [], List, ℤ, subst}
use Rattle.cc_base.specs.declared.request.Grant.TheVariants.{Go}
use Rattle.cc_kernel.proofs.Keeping.{kept-first}
use Rattle.cc_kernel.specs.Seats.{with_ready}
use Rattle.cc_kernel.proofs.kernel.Kernel.open.Goals as goal

pub invariant_of-result : goal.invariant_of-result
invariant_of-result g c =
    let process = c.in_ok-process.process in
    let located = g.B.Behave.at c.args.code.value in
    let F : List ℤ → Type 0 = λ args. located process 0 args [] in
    kept-first (g.B.Behave.means c.args.code.value) located c.args.turns c.new-2.result.spare c.args.input c.add.new.self c.new-3.result c.new-4.result c.new-5.result c.new-2.result.items
    c.reserve.new.self process
    (c.add.ensures ∙ ap (λ xs. xs ++ with_ready process Go ∷ []) (c.reserve_one.ensures.items ∙ c.new-seats.ensures))
    c.new-3.ensures
    c.new-4.ensures
    c.new-5.ensures
    c.new-2.ensures.items
    (c.reserve.ensures.items ∙ c.new-faults.ensures.items)
    c.in_ok-reserve.ensures.ok
    (subst F c.new.ensures c.in_ok-process.ensures)
