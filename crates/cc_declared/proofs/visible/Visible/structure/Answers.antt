use Rattle.std.proofs.Common.{rules, ◌≡◌, [], Ok, sym, ap, ◌∙◌}
use Rattle.std.specs.Prelude.{if◌then◌else◌}
use Rattle.cc_faults.specs.Declarations.{structure}
use Rattle.cc_faults.specs.Faults.{noted}
use Rattle.cc_faults.specs.Judged.{after_each, faults}
use Rattle.cc_faults.specs.Rows.{fresh}
use Rattle.cc_faults.specs.Scopes.{entry_at, is_there}
use Rattle.cc_faults.proofs.Judged.{noted-both}
use Rattle.cc_declared.specs.Walks.{and_field_found, with_structure_found}
use Rattle.cc_declared.proofs.FieldWalks.{structure-after, structure-found, structure-noted}
use Rattle.cc_declared.proofs.visible.Visible.structure.Goals as goal

pub returns-clause-after : goal.returns-clause-after
returns-clause-after c =
    let s = c.args.self.now in
    let x = c.args.x in
    let fs = c.args.fields.now in
    let m = c.fresh.new.least in
    let there : c.is_there-there.result ≡ is_there (entry_at s.structures_named x) = search rules in
    let types = c.in_ok-types.ensures.types ∙ ap (λ ns. (after_each (and_field_found s) (Ok [], m, ns) fs).0) c.new-names.ensures.empty in
    let names = c.in_ok-types.ensures.names ∙ ap (λ ns. (after_each (and_field_found s) (Ok [], m, ns) fs).2) c.new-names.ensures.empty in
    let is = structure-found s x fs m c.in_ok-types.types c.in_ok-found.found types c.in_ok-found.ensures.outcome in
    c.in_ok-and_structure.ensures
    ∙ ap (λ b. if b then s else with_structure_found s x c.in_ok-found.found c.fields.new.names) there
    ∙ structure-after s x fs m c.in_ok-found.found c.fields.new.names is names

pub returns-clause-noted : goal.returns-clause-noted
returns-clause-noted c =
    let s = c.args.self.now in
    let x = c.args.x in
    let fs = c.args.fields.now in
    let m = c.fresh.new.least in
    let there : c.is_there-there.result ≡ is_there (entry_at s.structures_named x) = search rules in
    let types = c.in_ok-types.ensures.types ∙ ap (λ ns. (after_each (and_field_found s) (Ok [], m, ns) fs).0) c.new-names.ensures.empty in
    let least = c.in_ok-types.ensures.noted ∙ ap (λ ns. (after_each (and_field_found s) (Ok [], m, ns) fs).1) c.new-names.ensures.empty in
    structure-noted s x fs m c.fields.new.least c.structure_of.new.least c.in_ok-types.types types least c.in_ok-found.ensures.noted
    ∙ ap (λ n. noted n (faults (structure s x fs))) (c.fresh.ensures.noted ∙ ap (λ b. noted c.args.least.now (faults (fresh b x))) there)
    ∙ sym (noted-both c.args.least.now (fresh (is_there (entry_at s.structures_named x)) x) (structure s x fs))
