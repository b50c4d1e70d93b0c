use Rattle.std.proofs.Common.{◌≡◌, ◌∙◌, arith, refl, subst, take}
use Rattle.std.proofs.lemmas.List.{take_all}
use Rattle.cc_faults.specs.Judged.{after_each}
use Rattle.cc_faults.specs.Programs.{and_item, item_in}
use Rattle.cc_faults.specs.Scopes.{Text}
use Rattle.cc_types.proofs.Passings.{FoundSoFar, found-more, found-start, passed-more, passed-start}
use Rattle.cc_types.specs.Passing.{HasPassed, IsFound}
use Rattle.cc_types.proofs.progress.Progress.items.Goals as goal

pub loop-item-init : goal.loop-item-init
loop-item-init c =
    let all = c.args.all.now in
    let t = c.args.self.now.text in
    record {
      found = λ b h. found-start all t c.args.least.now c.args.self.now.made b;
      passed = λ b h. passed-start all t c.args.least.now c.args.self.now.made b c.args.self.now h;
      text = refl;
    }

pub item-requires : goal.item-requires
item-requires c = record { outside = (c.loop-item.invariant.passed c.requires.passed.0 c.requires.passed.1).outside }

pub loop-item-preserved : goal.loop-item-preserved
loop-item-preserved c =
    let all = c.args.all.now in
    let t = c.args.self.now.text in
    let i = c.loop-item.item-index in
    let x = c.item-item.result in
    let lt = c.loop-item-test.true in
    let is = c.item-item.is in
    let before = c.loop-item.invariant in
    record {
      found = λ b h.
          found-more all t c.args.least.now c.args.self.now.made b i x c.loop-item.least c.item.new.least c.loop-item.self.made c.item.new.self.made lt is (before.found b h)
          (subst (λ (u : Text). IsFound c.loop-item.least c.loop-item.self.made (item_in u all (after_each (and_item t) b (take i all)) x) c.item.new.least c.item.new.self.made) before.text (c.in_ok-item.ensures.goes all (after_each (and_item t) b (take i all)) (before.passed b h)).0);
      passed = λ b h.
          passed-more all t c.args.least.now c.args.self.now.made b i x c.item.new.self lt is
          (subst (λ (u : Text). HasPassed all (and_item u (after_each (and_item t) b (take i all)) x) c.item.new.self) before.text (c.in_ok-item.ensures.goes all (after_each (and_item t) b (take i all)) (before.passed b h)).1);
      text = c.item.ensures.text ∙ before.text;
    }

pub returns-clause-found : goal.returns-clause-found
returns-clause-found c = λ b h.
    let all = c.args.all.now in
    let whole : take c.loop-item.item-index all ≡ all = take_all c.loop-item.item-index all (omega (arith, c.loop-item-test.false)) in
    subst (λ items. FoundSoFar all c.args.self.now.text c.args.least.now c.args.self.now.made b items c.loop-item.least c.loop-item.self.made) whole (c.loop-item.invariant.found b h)

pub returns-clause-passed : goal.returns-clause-passed
returns-clause-passed c = λ b h.
    let all = c.args.all.now in
    let whole : take c.loop-item.item-index all ≡ all = take_all c.loop-item.item-index all (omega (arith, c.loop-item-test.false)) in
    subst (λ items. HasPassed all (after_each (and_item c.args.self.now.text) b items) c.loop-item.self) whole (c.loop-item.invariant.passed b h)
