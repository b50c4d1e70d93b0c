use Rattle.std.proofs.Common.{◌≡◌, ap, subst, sym, ◌∙◌}
use Rattle.cc_code.specs.declared.code.RawCode.{RawCode}
use Rattle.cc_vm.proofs.Programs.{code-at, code-goes, code-next}
use Rattle.cc_vm.specs.Processes.{IsAt}
use Rattle.cc_vm.specs.declared.vm.State.{State}
use Rattle.cc_vm.proofs.vm.ImageBehave.go.Goals as goal

pub go_from-requires-clause-room : goal.go_from-requires-clause-room
go_from-requires-clause-room c =
    let s : State = c.args.this.now.state.value in
    let k : RawCode = c.raw-raw.result.now in
    let kept : c.deref_mut-state.result.now ≡ s = c.deref_mut-state.ensures.value in
    let w = c.requires in
    let same : k ≡ w.0 = c.raw-raw.ensures.value ∙ c.behind-state.view_is ∙ c.deref.ensures ∙ ap (λ (x : State). x.image.value) kept ∙ w.4.0 in
    (subst (λ (x : State). IsAt k x.room x.lists x.alts x.phase w.1 w.2 w.3) (sym kept) (code-at k w.0 same s.room s.lists s.alts s.phase c.args.grant w.1 w.2 w.3 w.4.1)).0

pub go_from-requires-clause-at : goal.go_from-requires-clause-at
go_from-requires-clause-at c =
    let s : State = c.args.this.now.state.value in
    let k : RawCode = c.raw-raw.result.now in
    let kept : c.deref_mut-state.result.now ≡ s = c.deref_mut-state.ensures.value in
    let w = c.requires in
    let same : k ≡ w.0 = c.raw-raw.ensures.value ∙ c.behind-state.view_is ∙ c.deref.ensures ∙ ap (λ (x : State). x.image.value) kept ∙ w.4.0 in
    let stands = subst (λ (x : State). IsAt k x.room x.lists x.alts x.phase w.1 w.2 w.3) (sym kept) (code-at k w.0 same s.room s.lists s.alts s.phase c.args.grant w.1 w.2 w.3 w.4.1) in
    (w.1, w.2, w.3, stands.1, code-next k w.0 same s.room s.lists s.alts s.phase c.args.grant w.1 w.2 w.3 c.raw-raw.ensures.verified w.5)

pub returns : goal.returns
returns c = λ code kind args grants at next.
    let s : State = c.args.this.now.state.value in
    let k : RawCode = c.raw-raw.result.now in
    let kept : c.deref_mut-state.result.now ≡ s = c.deref_mut-state.ensures.value in
    let image : c.deref_mut-state.result.now.image.value ≡ code = ap (λ (x : State). x.image.value) kept ∙ at.0 in
    let same : k ≡ code = c.raw-raw.ensures.value ∙ c.behind-state.view_is ∙ c.deref.ensures ∙ image in
    let stands : IsAt k c.deref_mut-state.result.now.room c.deref_mut-state.result.now.lists c.deref_mut-state.result.now.alts c.deref_mut-state.result.now.phase kind args grants =
    subst (λ (x : State). IsAt k x.room x.lists x.alts x.phase kind args grants) (sym kept) (code-at k code same s.room s.lists s.alts s.phase c.args.grant kind args grants at.1) in
    let went = c.in_ok-request.ensures kind args grants stands.1 (code-next k code same s.room s.lists s.alts s.phase c.args.grant kind args grants c.raw-raw.ensures.verified next) in
    let r = code-goes k code same c.deref_mut-state.result.now.room s.lists s.alts s.phase c.args.grant kind args grants c.raw-raw.ensures.verified c.go_from.new.lists c.go_from.new.alts c.in_ok-request.request went stands.0 in
    (r.0, (image, r.1))
