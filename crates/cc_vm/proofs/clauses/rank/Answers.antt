use Rattle.cc_vm.proofs.Sites.{by-there, such-there}
use Rattle.cc_vm.proofs.clauses.rank.Goals as goal

pub clause-requires-clause-fragment : goal.clause-requires-clause-fragment
clause-requires-clause-fragment c = such-there c.args.raw.now.sites c.args.site.now c.requires.site

pub clause-requires-2-clause-fragment : goal.clause-requires-2-clause-fragment
clause-requires-2-clause-fragment c = by-there c.args.raw.now.sites c.args.site.now c.requires.site
