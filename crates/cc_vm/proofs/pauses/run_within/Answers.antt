use Rattle.std.proofs.Common.{◌≡◌, ℤ, List, rules, sym, subst}
use Rattle.std.proofs.lemmas.List.{with_items_is}
use Rattle.std.specs.Vec.{with_items}
use Rattle.cc_vm.specs.Running.{RunsTo}
use Rattle.cc_vm.specs.declared.lists.Lists.{Lists}
use Rattle.cc_vm.specs.declared.registers.Frame.{Frame}
use Rattle.cc_vm.proofs.pauses.run_within.Goals as goal

pub returns-clause-runs : goal.returns-clause-runs
returns-clause-runs c =
    let a : Lists = c.args.lists.now in
    let stack : (with_items a.stack c.run.new.stack).items ≡ c.run.new.stack = with_items_is a.stack c.run.new.stack (search rules) in
    let cells : (with_items a.cells c.run.new.cells).items ≡ c.run.new.cells = with_items_is a.cells c.run.new.cells (search rules) in
    let frames : (with_items a.frames c.run.new.frames).items ≡ c.run.new.frames = with_items_is a.frames c.run.new.frames (search rules) in
    let old_stack : c.as_mut_slice.result.now ≡ a.stack.items = search rules in
    let old_cells : c.as_mut_slice-2.result.now ≡ a.cells.items = search rules in
    let old_frames : c.as_mut_slice-3.result.now ≡ a.frames.items = search rules in
    subst (λ (S : List ℤ). RunsTo c.args.raw.now c.args.room a.stack.items a.cells.items a.frames.items a.registers S (with_items a.cells c.run.new.cells).items (with_items a.frames c.run.new.frames).items c.run.new.registers c.run.result) (sym stack)
    (subst (λ (C : List ℤ). RunsTo c.args.raw.now c.args.room a.stack.items a.cells.items a.frames.items a.registers c.run.new.stack C (with_items a.frames c.run.new.frames).items c.run.new.registers c.run.result) (sym cells)
    (subst (λ (F : List Frame). RunsTo c.args.raw.now c.args.room a.stack.items a.cells.items a.frames.items a.registers c.run.new.stack c.run.new.cells F c.run.new.registers c.run.result) (sym frames)
    (subst (λ (S : List ℤ). RunsTo c.args.raw.now c.args.room S a.cells.items a.frames.items a.registers c.run.new.stack c.run.new.cells c.run.new.frames c.run.new.registers c.run.result) old_stack
    (subst (λ (C : List ℤ). RunsTo c.args.raw.now c.args.room c.as_mut_slice.result.now C a.frames.items a.registers c.run.new.stack c.run.new.cells c.run.new.frames c.run.new.registers c.run.result) old_cells
    (subst (λ (F : List Frame). RunsTo c.args.raw.now c.args.room c.as_mut_slice.result.now c.as_mut_slice-2.result.now F a.registers c.run.new.stack c.run.new.cells c.run.new.frames c.run.new.registers c.run.result) old_frames
    c.run.ensures.runs)))))
