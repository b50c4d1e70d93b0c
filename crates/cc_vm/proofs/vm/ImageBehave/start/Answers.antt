use Rattle.std.proofs.Common.{◌≡◌, [], length, rules, subst, sym, ◌∙◌}
use Rattle.cc_base.specs.Grants.{HasKind}
use Rattle.cc_base.specs.Meaning.{Meaning}
use Rattle.cc_code.specs.declared.code.RawCode.{RawCode}
use Rattle.cc_vm.proofs.Programs.{code-begins}
use Rattle.cc_vm.specs.Images.{image_meaning}
use Rattle.cc_vm.specs.Lawful.{image-means}
use Rattle.cc_vm.specs.Processes.{IsAt}
use Rattle.cc_vm.specs.declared.vm.State.{State}
use Rattle.cc_vm.proofs.vm.ImageBehave.start.Goals as goal

pub begin-requires-clause-kind : goal.begin-requires-clause-kind
begin-requires-clause-kind c =
    let k : RawCode = c.raw-raw.result.now in
    let same : k ≡ c.args.this.now.value = c.raw-raw.ensures.value ∙ c.behind-this.view_is ∙ c.deref.ensures in
    subst (λ (m : Meaning). HasKind m c.args.kind (length c.args.args)) (image-means k c.raw-raw.ensures.verified)
    (subst (λ (x : RawCode). HasKind (image_meaning x) c.args.kind (length c.args.args)) (sym same) c.requires)

pub returns : goal.returns
returns c =
    let k : RawCode = c.raw-raw.result.now in
    let code : RawCode = c.args.this.now.value in
    let same : k ≡ code = c.raw-raw.ensures.value ∙ c.behind-this.view_is ∙ c.deref.ensures in
    let image : c.in_ok-image.image.value ≡ code = search rules in
    let state : State = record { image = c.in_ok-image.image; room = c.room_for-room.result; phase = c.in_ok-phase.phase; lists = c.in_ok-phase.lists; alts = [] } in
    let made : c.in_ok-new.field-0.value ≡ state = search rules in
    let begun : IsAt code state.room state.lists state.alts state.phase c.args.kind c.args.args [] =
    code-begins k code same c.room_for-room.result c.in_ok-phase.lists c.in_ok-phase.phase c.args.kind c.args.args c.room_for-room.ensures c.in_ok-phase.ensures in
    subst (λ (x : State). (x.image.value ≡ code) × IsAt code x.room x.lists x.alts x.phase c.args.kind c.args.args []) (sym made) (image, begun)
