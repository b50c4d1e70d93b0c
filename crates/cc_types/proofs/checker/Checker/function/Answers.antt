use Rattle.std.proofs.Common.{rules, ◌≡◌, ◌∙◌, ap, [], length}
use Rattle.cc_declared.specs.Undone.{undone}
use Rattle.cc_faults.specs.Declarations.{after_function, items_scope, signature}
use Rattle.cc_faults.specs.Faults.{noted}
use Rattle.cc_faults.specs.Judged.{answer, both, faults, outcome}
use Rattle.cc_faults.specs.Programs.{few_for_main, in_function, names_in, names_once}
use Rattle.cc_faults.specs.Rows.{fresh}
use Rattle.cc_faults.specs.Scopes.{Scope, is_here, meaning_at}
use Rattle.cc_types.proofs.Entered.{function-adds, function-behind, function-notes}
use Rattle.cc_types.specs.Checkers.{Checker}
use Rattle.cc_types.specs.Making.{with_function}
use Rattle.cc_types.specs.Passing.{after_block, block_judged, is_main}
use Rattle.cc_types.proofs.checker.Checker.function.Goals as goal

pub returns-clause-made : goal.returns-clause-made
returns-clause-made c = λ v good.
    let t = c.args.self.now.text in
    let s = c.args.self.now.scope in
    let x = c.args.x in
    let block = c.in_ok-block.block in
    let same : c.self.inside.visible ≡ s = ap (λ (z : Checker). z.scope) c.self.view_is in
    let count : c.in_ok-count.count ≡ length c.args.parameters.now = search rules in
    let head = c.in_ok-head.ensures.outcome ∙ ap (λ z. outcome (signature z x c.args.of c.args.parameters.now)) same in
    let entered : c.enter_function.new.self ≡ in_function s c.args.parameters.now = search rules in
    let body : block.body ≡ answer (block_judged t c.role_of-role.result c.enter_function.new.self c.args.block.now) = search rules in
    let variables : block.variables ≡ (after_block t c.role_of-role.result c.enter_function.new.self c.args.block.now).variables = search rules in
    let added : c.add_function.new.self ≡ with_function c.args.made.now (is_main x) c.in_ok-count.count c.in_ok-head.head block = search rules in
    added
    ∙ function-adds t s x c.args.block.now c.args.of c.args.parameters.now c.in_ok-head.head c.role_of-role.result c.enter_function.new.self c.args.made.now c.in_ok-count.count block count head c.role_of-role.ensures entered body variables v good

pub returns-clause-noted : goal.returns-clause-noted
returns-clause-noted c =
    let t = c.args.self.now.text in
    let s = c.args.self.now.scope in
    let x = c.args.x in
    let ps = c.args.parameters.now in
    let same : c.self.inside.visible ≡ s = ap (λ (z : Checker). z.scope) c.self.view_is in
    let head = c.in_ok-head.ensures.outcome ∙ ap (λ z. outcome (signature z x c.args.of ps)) same in
    let entered : c.enter_function.new.self ≡ in_function s ps = search rules in
    let noted_head = c.in_ok-head.ensures.noted ∙ ap (λ z. noted c.args.least.now (faults (both (fresh (is_here items_scope (meaning_at z x)) x) (both (signature z x c.args.of ps) (both (few_for_main x (length ps)) (names_once (names_in ps))))))) same in
    let noted_block : c.block_entered.new.least ≡ noted c.function_head.new.least (faults (block_judged t c.role_of-role.result c.enter_function.new.self c.args.block.now)) = search rules in
    function-notes t s x c.args.block.now c.args.of ps c.in_ok-head.head c.role_of-role.result c.enter_function.new.self c.args.least.now c.function_head.new.least c.block_entered.new.least head c.role_of-role.ensures entered noted_head noted_block

pub returns-clause-after : goal.returns-clause-after
returns-clause-after c =
    let t = c.args.self.now.text in
    let s = c.args.self.now.scope in
    let x = c.args.x in
    let entered : c.enter_function.new.self ≡ in_function s c.args.parameters.now = search rules in
    let names : undone c.enter_function.new.hidden c.enter_function.new.self.names ≡ undone c.new-hidden.result s.names = search rules in
    let after : c.block_entered.new.self.scope ≡ record (after_block t c.role_of-role.result c.enter_function.new.self c.args.block.now) { names = undone c.enter_function.new.hidden c.enter_function.new.self.names; variables = [] } = search rules in
    let same = function-behind t s x c.args.block.now c.args.of c.args.parameters.now c.in_ok-head.head c.role_of-role.result c.enter_function.new.self c.enter_function.new.hidden c.new-hidden.result c.block_entered.new.self.scope c.requires.outside c.role_of-role.ensures entered c.new-hidden.ensures names after in
    let behind : c.after_function.new.self ≡ after_function c.block_entered.new.self.scope x (meaning_at c.block_entered.new.self.scope x) = search rules in
    behind ∙ ap (λ (z : Scope). after_function z x (meaning_at z x)) same
