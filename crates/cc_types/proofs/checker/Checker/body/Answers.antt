use Rattle.std.proofs.Common.{rules, ◌≡◌, ◌∙◌, ap, sym, [], length}
use Rattle.cc_declared.specs.Undone.{undone}
use Rattle.cc_faults.specs.Faults.{noted}
use Rattle.cc_faults.specs.Judged.{answer, both, faults, outcome}
use Rattle.cc_faults.specs.Programs.{body_types, in_body, kind_of_body, names_once}
use Rattle.cc_faults.specs.Rows.{fresh}
use Rattle.cc_faults.specs.Scopes.{entry_at}
use Rattle.cc_faults.specs.declared.scope.Role.TheVariants as role
use Rattle.cc_types.proofs.Entered.{body-adds, body-behind, body-notes}
use Rattle.cc_types.specs.Checkers.{Checker}
use Rattle.cc_types.specs.Making.{with_body}
use Rattle.cc_types.specs.Passing.{after_block, block_judged}
use Rattle.cc_types.proofs.checker.Checker.body.Goals as goal

pub returns-clause-made : goal.returns-clause-made
returns-clause-made c = λ v good.
    let t = c.args.self.now.text in
    let s = c.args.self.now.scope in
    let x = c.args.x in
    let names = c.args.names.now in
    let r = role.Body c.kind_known.result in
    let block = c.in_ok-block.block in
    let seen : c.self.inside.visible ≡ s = ap (λ (z : Checker). z.scope) c.self.view_is in
    let known : c.self.inside.text.now ≡ t = ap (λ (z : Checker). z.text) c.self.view_is in
    let count : c.in_ok-count.count ≡ length names = search rules in
    let number : c.process-kind.result ≡ entry_at s.processes_named x = c.process-kind.ensures.process ∙ ap (λ z. entry_at z.processes_named x) seen in
    let types = c.in_ok-types.ensures.outcome ∙ ap (λ z. outcome (body_types z c.self.inside.visible x (length names))) known in
    let entered = c.in_ok-enter_body.ensures.after (body_types t c.self.inside.visible x (length names)) (sym types) ∙ ap (λ z. in_body z (body_types t z x (length names)) names) seen in
    let body : block.body ≡ answer (block_judged t r c.enter_body.new.self c.args.block.now) = search rules in
    let variables : block.variables ≡ (after_block t r c.enter_body.new.self c.args.block.now).variables = search rules in
    let added : c.add_body.new.self ≡ with_body c.args.made.now c.process-kind.result c.in_ok-count.count block = search rules in
    added
    ∙ body-adds t s x c.args.block.now names c.in_ok-types.types c.process-kind.result r c.enter_body.new.self c.args.taken c.args.made.now c.in_ok-count.count block count number (ap role.Body c.kind_known.ensures) entered body variables v good

pub returns-clause-noted : goal.returns-clause-noted
returns-clause-noted c =
    let t = c.args.self.now.text in
    let s = c.args.self.now.scope in
    let x = c.args.x in
    let names = c.args.names.now in
    let r = role.Body c.kind_known.result in
    let seen : c.self.inside.visible ≡ s = ap (λ (z : Checker). z.scope) c.self.view_is in
    let known : c.self.inside.text.now ≡ t = ap (λ (z : Checker). z.text) c.self.view_is in
    let number : c.process-kind.result ≡ entry_at s.processes_named x = c.process-kind.ensures.process ∙ ap (λ z. entry_at z.processes_named x) seen in
    let types = c.in_ok-types.ensures.outcome ∙ ap (λ z. outcome (body_types z c.self.inside.visible x (length names))) known in
    let entered = c.in_ok-enter_body.ensures.after (body_types t c.self.inside.visible x (length names)) (sym types) ∙ ap (λ z. in_body z (body_types t z x (length names)) names) seen in
    let noted_head =
    c.in_ok-types.ensures.noted
    ∙ ap (λ z. noted c.args.least.now (faults (both (fresh c.args.taken x) (both (both (kind_of_body z c.self.inside.visible x) (body_types z c.self.inside.visible x (length names))) (names_once names))))) known
    ∙ ap (λ z. noted c.args.least.now (faults (both (fresh c.args.taken x) (both (both (kind_of_body t z x) (body_types t z x (length names))) (names_once names))))) seen
    in
    let noted_block : c.block_entered.new.least ≡ noted c.body_head.new.least (faults (block_judged t r c.enter_body.new.self c.args.block.now)) = search rules in
    body-notes t s x c.args.block.now names c.in_ok-types.types c.process-kind.result r c.enter_body.new.self c.args.taken c.args.least.now c.body_head.new.least c.block_entered.new.least number (ap role.Body c.kind_known.ensures) entered noted_head noted_block

pub returns-clause-after : goal.returns-clause-after
returns-clause-after c =
    let t = c.args.self.now.text in
    let s = c.args.self.now.scope in
    let x = c.args.x in
    let names = c.args.names.now in
    let r = role.Body c.kind_known.result in
    let seen : c.self.inside.visible ≡ s = ap (λ (z : Checker). z.scope) c.self.view_is in
    let known : c.self.inside.text.now ≡ t = ap (λ (z : Checker). z.text) c.self.view_is in
    let number : c.process-kind.result ≡ entry_at s.processes_named x = c.process-kind.ensures.process ∙ ap (λ z. entry_at z.processes_named x) seen in
    let types = c.in_ok-types.ensures.outcome ∙ ap (λ z. outcome (body_types z c.self.inside.visible x (length names))) known in
    let entered = c.in_ok-enter_body.ensures.after (body_types t c.self.inside.visible x (length names)) (sym types) ∙ ap (λ z. in_body z (body_types t z x (length names)) names) seen in
    let again : undone c.enter_body.new.hidden c.enter_body.new.self.names ≡ undone c.new-hidden.result s.names = c.in_ok-enter_body.ensures.names ∙ ap (λ z. undone c.new-hidden.result z.names) seen in
    let after : c.block_entered.new.self.scope ≡ record (after_block t r c.enter_body.new.self c.args.block.now) { names = undone c.enter_body.new.hidden c.enter_body.new.self.names; variables = [] } = search rules in
    body-behind t s x c.args.block.now names c.in_ok-types.types c.process-kind.result r c.enter_body.new.self c.enter_body.new.hidden c.new-hidden.result c.block_entered.new.self.scope c.requires.outside number (ap role.Body c.kind_known.ensures) entered c.new-hidden.ensures again after
