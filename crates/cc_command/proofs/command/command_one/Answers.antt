use Rattle.std.proofs.Common.{ap, inl, inr}
use Rattle.cc_command.proofs.Decides.{absent, refuses, reports, runs}
use Rattle.cc_command.proofs.Ends.{goes, is_refused, known-status, one_line, tells}
use Rattle.cc_command.specs.Statuses.{status_of}
use Rattle.cc_command.proofs.command.command_one.Goals as goal

pub returns-clause-first_fault : goal.returns-clause-first_fault
returns-clause-first_fault g c =
    rw c.status_number.ensures (tells _ _ _ _ _ _ _ _ c.run_file-ran.result.answer c.run_file-ran.ensures.text c.report.ensures.told)

pub returns-clause-headline : goal.returns-clause-headline
returns-clause-headline g c =
    rw c.status_number.ensures (goes _ _ _ _ _ _ _ _ c.run_file-ran.result.answer _ _ _ c.run_file-ran.ensures.done c.report.ensures.told)

pub returns-clause-spared : goal.returns-clause-spared
returns-clause-spared g c =
    rw c.status_number.ensures (elim c.run_file-ran.ensures.spared [
      | inl failed ↦ inl (ap status_of failed)
      | inr same ↦ inr same
    ])

pub returns-clause-unbegun : goal.returns-clause-unbegun
returns-clause-unbegun g c = rw c.status_number.ensures (λ among. c.run_file-ran.ensures.unbegun (is_refused c.run_file-ran.result.answer among))

pub returns-clause-untouched : goal.returns-clause-untouched
returns-clause-untouched g c = rw c.status_number.ensures (λ among. c.run_file-ran.ensures.untouched (is_refused c.run_file-ran.result.answer among))

pub returns-clause-known : goal.returns-clause-known
returns-clause-known g c = rw c.status_number.ensures (known-status c.run_file-ran.result.answer c.run_file-ran.ensures.well)

pub returns-clause-runs : goal.returns-clause-runs
returns-clause-runs g c = rw c.status_number.ensures (λ file text program is tells means kept still.
    let r = c.run_file-ran.ensures in
    runs c.run_file-ran.result.answer _ _ _ _ _ _ r.usage r.done r.well r.text r.shelf r.write r.sink file is text program tells means kept still)

pub returns-clause-refuses : goal.returns-clause-refuses
returns-clause-refuses g c = rw c.status_number.ensures (λ file text is tells none kept.
    let r = c.run_file-ran.ensures in
    refuses c.run_file-ran.result.answer _ _ _ _ _ _ r.usage r.done r.well r.text r.shelf r.write r.sink file is text tells none kept)

pub returns-clause-reports : goal.returns-clause-reports
returns-clause-reports g c = rw c.status_number.ensures (λ file text place kind is tells has kept.
    let r = c.run_file-ran.ensures in
    reports c.run_file-ran.result.answer _ _ _ _ _ _ r.usage r.done r.well r.text r.shelf r.write r.sink file is _ _ _ _ _ _ c.report.ensures.told text place kind tells has kept)

pub returns-clause-absent : goal.returns-clause-absent
returns-clause-absent g c = rw c.status_number.ensures (λ file is none.
    let r = c.run_file-ran.ensures in
    absent c.run_file-ran.result.answer _ _ _ _ _ _ r.usage r.done r.well r.text r.shelf r.write r.sink file is none)

pub returns-clause-report : goal.returns-clause-report
returns-clause-report g c = rw c.status_number.ensures (one_line _ _ _ _ _ _ c.run_file-ran.result.answer c.report.ensures.told)
