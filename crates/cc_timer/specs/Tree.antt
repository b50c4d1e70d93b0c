-- What a tree of deadlines is seen as.
use Rattle.std.specs.Prelude.{ℕ, List, [], ◌∷◌, ◌++◌}
use Rattle.cc_timer.specs.declared.tree.Fork.{Fork}
use Rattle.cc_timer.specs.declared.tree.Root.{Root}
use Rattle.cc_timer.specs.declared.tree.Root.TheVariants.{Empty, Node}
use Rattle.cc_timer.specs.declared.who.Who.{Who}

-- the deadlines of a node, from left to right
abbrev pub listed : Fork → List (ℕ × Who)
listed fork = fork.left ++ fork.deadline ∷ fork.right

abbrev pub listed_root : Root → List (ℕ × Who)
listed_root Empty = []
listed_root (Node fork) = listed fork.value
