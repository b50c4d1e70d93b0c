use Rattle.cc_rules.proofs.SoundRun.{Sound-first, Sound-next, Sound-run}
use Rattle.cc_rules.proofs.laws.sound_runs.Goals as goal

pub returns : goal.returns
returns c =
    record {
      first = Sound-first;
      event = λ m s e wf h l. Sound-next m s wf h e l;
      run = Sound-run;
    }
