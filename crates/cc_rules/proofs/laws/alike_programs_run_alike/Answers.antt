use Rattle.cc_rules.proofs.AlikeRuns.{SameRun-alike}
use Rattle.cc_rules.proofs.laws.alike_programs_run_alike.Goals as goal

pub returns : goal.returns
returns c =
    record {
      legal = λ m n input events wf h run. (SameRun-alike m n input events wf h run).run;
      state = λ m n input events wf h run. (SameRun-alike m n input events wf h run).state;
      bytes = λ m n input events wf h run. (SameRun-alike m n input events wf h run).bytes;
      settled = λ m n input events wf h run. (SameRun-alike m n input events wf h run).settled;
    }
