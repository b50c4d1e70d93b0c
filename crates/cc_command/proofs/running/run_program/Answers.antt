use Rattle.std.proofs.Common.{None, inl, inr}
use Rattle.cc_command.proofs.Ends.{if_both}
use Rattle.cc_command.proofs.Finishes.{finishes, if_cut, out_of_memory, same-meaning, stops, well}
use Rattle.cc_kernel.proofs.Untimed.{asks-no-deadline}
use Rattle.cc_source.specs.Early.{early_meaning}
use Rattle.cc_source.specs.Lawful.{early_supported}
use Rattle.cc_command.proofs.running.run_program.Goals as goal

pub drive-ran-requires : goal.drive-ran-requires
drive-ran-requires g c = record { no_deadline = asks-no-deadline (early_meaning c.args.program.now.value) (early_supported c.args.program.now.value) }

pub returns-clause-done : goal.returns-clause-done
returns-clause-done g c =
    if_both _ _ _ c.answer.result
    (λ ending over so text means.
    let same = same-meaning text c.args.program.now.value means in
    let run = rw (same, c.new.ensures) at c.drive-ran.ensures.run in
    let end = rw (same, c.new.ensures) at (c.drive-ran.ensures.over over) in
    finishes text c.args.program.now.value means _ _ _ _ _ run ending so end)
    c.answer.ensures.over c.answer.ensures.ending

pub returns-clause-well : goal.returns-clause-well
returns-clause-well g c =
    if_both _ _ _ c.answer.result
    (λ ending over so text means.
    let same = same-meaning text c.args.program.now.value means in
    let run = rw (same, c.new.ensures) at c.drive-ran.ensures.run in
    let end = rw (same, c.new.ensures) at (c.drive-ran.ensures.over over) in
    well text c.args.program.now.value means _ _ _ None None run c.drive-ran.ensures.untimed ending so end.over)
    c.answer.ensures.over c.answer.ensures.ending

pub returns-clause-write : goal.returns-clause-write
returns-clause-write g c = λ is text means.
    let same = same-meaning text c.args.program.now.value means in
    let cut = c.answer.ensures.write is in
    let run = rw (same, c.new.ensures) at c.drive-ran.ensures.run in
    let part = rw (same, c.new.ensures) at (c.drive-ran.ensures.write cut) in
    let incomplete = rw (same, c.new.ensures) at (if_cut _ _ cut (λ e. cc) c.drive-ran.ensures.incomplete) in
    stops text c.args.program.now.value means _ _ _ _ _ run incomplete part

pub returns-clause-memory : goal.returns-clause-memory
returns-clause-memory g c = λ is text means.
    let same = same-meaning text c.args.program.now.value means in
    let run = rw (same, c.new.ensures) at c.drive-ran.ensures.run in
    let cut = c.answer.ensures.memory is in
    let part = rw (same, c.new.ensures) at (c.drive-ran.ensures.memory cut) in
    let incomplete = rw (same, c.new.ensures) at (if_cut _ _ cut (λ e. cc) c.drive-ran.ensures.incomplete) in
    out_of_memory text c.args.program.now.value means _ _ _ _ _ run incomplete part

pub returns-clause-spared : goal.returns-clause-spared
returns-clause-spared g c =
    elim c.drive-ran.ensures.spared [
      | inl failed ↦ inl (c.answer.ensures.written failed)
      | inr same ↦ inr same
    ]
