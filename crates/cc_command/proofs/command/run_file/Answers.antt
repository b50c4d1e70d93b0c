use Rattle.std.proofs.Common.{inr}
use Rattle.cc_command.proofs.Ends.{if_ok}
use Rattle.cc_command.proofs.Files.{of_program}
use Rattle.cc_command.proofs.command.run_file.Goals as goal

pub returns-in-Ok-clause-done : goal.returns-in-Ok-clause-done
returns-in-Ok-clause-done g c =
    if_ok _ _ c.run_program.result.answer
    (λ ending follows. rw (← c.in-Some.ensures) (of_program _ _ _ _ c.in-Ok.ensures.program follows))
    c.run_program.ensures.done

pub returns-in-Ok-clause-well : goal.returns-in-Ok-clause-well
returns-in-Ok-clause-well g c =
    if_ok _ _ c.run_program.result.answer
    (λ ending follows. follows c.in-Ok.ensures.program.text c.in-Ok.ensures.program.means)
    c.run_program.ensures.well

pub returns-in-Ok-clause-write : goal.returns-in-Ok-clause-write
returns-in-Ok-clause-write g c =
    λ is. rw (← c.in-Some.ensures) (of_program _ _ _ _ c.in-Ok.ensures.program (c.run_program.ensures.write is))

pub returns-in-Ok-clause-memory : goal.returns-in-Ok-clause-memory
returns-in-Ok-clause-memory g c =
    λ is. inr (rw (← c.in-Some.ensures) (of_program _ _ _ _ c.in-Ok.ensures.program (c.run_program.ensures.memory is)))
