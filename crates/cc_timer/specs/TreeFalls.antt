-- Each side of a node has fewer deadlines than the node.
use Rattle.std.specs.Prelude.{◌≤◌, max, ◌∷◌, length}
use Rattle.std.proofs.Common.{arith, length-append}
use Rattle.cc_timer.specs.Tree.{listed_root}
use Rattle.cc_timer.specs.declared.tree.Root.{Root}
use Rattle.cc_timer.specs.declared.tree.Root.TheVariants.{Empty, Node}
use Rattle.cc_timer.specs.declared.tree.Tree.TheDeep.{deep-Root}

pub depth_le-length-listed : (r : Root) → max (deep-Root r) 0 ≤ length (listed_root r)
depth_le-length-listed Empty = omega arith
depth_le-length-listed (Node fork) = omega (arith, length-append fork.value.left (fork.value.deadline ∷ fork.value.right))
