use Rattle.std.proofs.Common.{List, slice_get, ap, subst, sym, length, ◌<◌, ◌∙◌}
use Rattle.cc_code.specs.declared.instr.Instr.{Instr}
use Rattle.cc_vm.proofs.Running.{found, found-place, found-within}
use Rattle.cc_vm.proofs.machine.next_instr.Goals as goal

pub instr_of-requires : goal.instr_of-requires
instr_of-requires c = subst (λ (xs : List Instr). c.args.r.now.at < length xs) (sym c.requires.code) c.requires.ready.stands.address

pub returns-clause-there : goal.returns-clause-there
returns-clause-there c = ap (λ (xs : List Instr). slice_get xs c.args.r.now.at) (sym c.requires.code) ∙ c.instr_of.ensures

pub returns-clause-place : goal.returns-clause-place
returns-clause-place c =
    found-place c.args.raw.now c.requires.verified c.args.room c.requires.room c.args.stack.now c.args.cells.now c.args.frames.now c.args.r.now c.requires.ready c.instr_of.result (ap (λ (xs : List Instr). slice_get xs c.args.r.now.at) (sym c.requires.code) ∙ c.instr_of.ensures)

pub returns-clause-within : goal.returns-clause-within
returns-clause-within c =
    found-within c.args.raw.now c.requires.verified c.args.room c.requires.room c.args.stack.now c.args.cells.now c.args.frames.now c.args.r.now c.requires.ready c.instr_of.result (ap (λ (xs : List Instr). slice_get xs c.args.r.now.at) (sym c.requires.code) ∙ c.instr_of.ensures)

pub returns-clause-finds : goal.returns-clause-finds
returns-clause-finds c =
    found c.args.raw.now c.requires.verified c.args.room c.requires.room c.args.stack.now c.args.cells.now c.args.frames.now c.args.r.now c.requires.ready c.instr_of.result (ap (λ (xs : List Instr). slice_get xs c.args.r.now.at) (sym c.requires.code) ∙ c.instr_of.ensures)
