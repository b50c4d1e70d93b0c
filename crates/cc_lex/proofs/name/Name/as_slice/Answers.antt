use Rattle.cc_lex.proofs.name.Name.as_slice.Goals as goal

pub shared_ref_as_front-result : goal.shared_ref_as_front-result
shared_ref_as_front-result c = rw c.in-Short.is at c.self.invariant
