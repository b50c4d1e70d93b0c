use Rattle.std.proofs.Common.{sym}
use Rattle.std.proofs.lemmas.List.{drop-drop}
use Rattle.cc_vm.proofs.prints.used_one.Goals as goal

pub returns-then-used-len : goal.returns-then-used-len
returns-then-used-len c = sym (drop-drop 1 c.args.used c.args.numbers.now)
