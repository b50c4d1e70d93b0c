use Rattle.std.proofs.Common.{rules, ◌≡◌, subst}
use Rattle.std.specs.Prelude.{OnOk}
use Rattle.cc_faults.specs.declared.plain.Item.{Item}
use Rattle.cc_faults.specs.declared.plain.Item.TheVariants as plain
use Rattle.cc_types.specs.Passing.{Goes}
use Rattle.cc_types.proofs.progress.Progress.item.Goals as goal

pub returns-in-Structure-clause-goes : goal.returns-in-Structure-clause-goes
returns-in-Structure-clause-goes c =
    let same : plain.Structure c.in-Structure.name c.as_slice.result.now ≡ c.args.item.now = search rules in
    subst (λ (i : Item). OnOk c.structure.result (Goes c.args.self.now c.args.least.now i c.structure.new.self c.structure.new.least)) same c.structure.ensures.goes

pub returns-in-Enumeration-clause-goes : goal.returns-in-Enumeration-clause-goes
returns-in-Enumeration-clause-goes c =
    let same : plain.Enumeration c.in-Enumeration.name c.as_slice-in-Enumeration.result.now ≡ c.args.item.now = search rules in
    subst (λ (i : Item). Goes c.args.self.now c.args.least.now i c.enumeration.new.self c.enumeration.new.least) same c.enumeration.ensures.goes

pub returns-in-Specification-clause-goes : goal.returns-in-Specification-clause-goes
returns-in-Specification-clause-goes c =
    let same : plain.Specification c.in-Specification.name c.as_slice-in-Specification.result.now c.as_slice-in-Specification-2.result.now ≡ c.args.item.now = search rules in
    subst (λ (i : Item). OnOk c.specification.result (Goes c.args.self.now c.args.least.now i c.specification.new.self c.specification.new.least)) same c.specification.ensures.goes

pub returns-in-Body-clause-goes : goal.returns-in-Body-clause-goes
returns-in-Body-clause-goes c =
    let same : plain.Body c.in-Body.name c.as_slice-in-Body.result.now c.as_slice-in-Body-2.result.now ≡ c.args.item.now = search rules in
    subst (λ (i : Item). OnOk c.body.result (Goes c.args.self.now c.args.least.now i c.body.new.self c.body.new.least)) same c.body.ensures.goes

pub returns-in-Function-clause-goes : goal.returns-in-Function-clause-goes
returns-in-Function-clause-goes c =
    let same : plain.Function c.in-Function.result c.in-Function.name c.as_slice-in-Function.result.now c.as_slice-in-Function-2.result.now ≡ c.args.item.now = search rules in
    subst (λ (i : Item). OnOk c.function.result (Goes c.args.self.now c.args.least.now i c.function.new.self c.function.new.least)) same c.function.ensures.goes
