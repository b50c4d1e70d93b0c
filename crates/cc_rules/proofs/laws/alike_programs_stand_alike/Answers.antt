use Rattle.cc_rules.proofs.BothWays.{complete-same, due-same, request-same, standing-same, stuck-same, unsettled-same}
use Rattle.cc_rules.proofs.laws.alike_programs_stand_alike.Goals as goal

pub returns : goal.returns
returns c =
    record {
      complete = λ m n input events wf h run. complete-same m n input events wf h run;
      due = due-same;
      stuck = stuck-same;
      unsettled = unsettled-same;
      standing = λ m n input events allowed wf h run. standing-same m n input events wf h run allowed;
      request = λ m n input events p wf h run lt. request-same m n input events wf h run p lt;
    }
