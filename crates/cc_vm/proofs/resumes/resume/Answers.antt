use Rattle.cc_vm.proofs.Resuming.{some-same}
use Rattle.cc_vm.proofs.resumes.resume.Goals as goal
