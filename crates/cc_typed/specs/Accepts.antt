-- The accepts of the bodies: each site stands in one.
use Rattle.std.specs.Prelude.{ℕ, zero, suc, ◌+◌, Bool, true, ◌&&◌, if◌then◌else◌, nat_eq, List, [], ◌∷◌, ◌++◌}
use Rattle.cc_typed.specs.Phrases.{branch, branches, while_loop, do_loop, for_loop}
use Rattle.cc_typed.specs.declared.tree.Alternative.{Alternative}
use Rattle.cc_typed.specs.declared.tree.Choice.{Choice, Accept' as AcceptChoice', Delay as DelayChoice, Immediate, Terminate}
use Rattle.cc_typed.specs.declared.tree.Kind.{Kind}
use Rattle.cc_typed.specs.declared.tree.Statement.{Statement, Empty, Evaluate, Declare, Initialize, Block', Break, Continue, Return, Finish, TransactionReturn, Delay, Accept', Select', Row_of-Statement, end_of-Statement, more_of-Statement, Row_of-Alternative, end_of-Alternative, more_of-Alternative}

-- the sites of the accepts in a statement, in the order of the text
unfoldable mutual
  pub sites_in : Statement → List ℕ
  sites_in (Block' _ all) = sites_of_all all
  sites_in (branch c a) = sites_in a
  sites_in (branches c a b) = sites_in a ++ sites_in b
  sites_in (while_loop c a) = sites_in a
  sites_in (do_loop a c) = sites_in a
  sites_in (for_loop first c next a) = sites_in a
  sites_in (Accept' site _ block) = site ∷ sites_of_all block
  sites_in (Select' _ all) = sites_of_alternatives all
  sites_in Empty = []
  sites_in (Evaluate e) = []
  sites_in (Declare x t) = []
  sites_in (Initialize x t e) = []
  sites_in Break = []
  sites_in Continue = []
  sites_in (Return e t) = []
  sites_in (Finish e) = []
  sites_in (TransactionReturn e t) = []
  sites_in (Delay e) = []

  pub sites_of_all : {n : _} → Row_of-Statement n → List ℕ
  sites_of_all end_of-Statement = []
  sites_of_all (more_of-Statement a rest) = sites_in a ++ sites_of_all rest

  pub sites_of_alternatives : {n : _} → Row_of-Alternative n → List ℕ
  sites_of_alternatives end_of-Alternative = []
  sites_of_alternatives (more_of-Alternative guard choice _ entries rest) =
      (sites_of_choice choice ++ sites_of_all entries) ++ sites_of_alternatives rest

  pub sites_of_choice : Choice → List ℕ
  sites_of_choice (AcceptChoice' site _ block) = site ∷ sites_of_all block
  sites_of_choice (DelayChoice e) = []
  sites_of_choice Immediate = []
  sites_of_choice Terminate = []

abbrev pub sites_of_body : List Statement → List ℕ
sites_of_body [] = []
sites_of_body (a ∷ rest) = sites_in a ++ sites_of_body rest

abbrev pub sites_of_list : List Alternative → List ℕ
sites_of_list [] = []
sites_of_list (a ∷ rest) = (sites_of_choice a.choice ++ sites_of_body a.entries) ++ sites_of_list rest

abbrev pub sites_of_kinds : List Kind → List ℕ
sites_of_kinds [] = []
sites_of_kinds (k ∷ rest) = sites_of_body k.body ++ sites_of_kinds rest

-- how often a number stands among numbers
abbrev pub times : ℕ → List ℕ → ℕ
times k [] = 0
times k (x ∷ xs) = (if nat_eq k x then 1 else 0) + times k xs

-- so many numbers, from this one on, each stand among them once
abbrev pub are_once_from : ℕ → ℕ → List ℕ → Bool
are_once_from k zero xs = true
are_once_from k (suc n) xs = nat_eq (times k xs) 1 && are_once_from (suc k) n xs

-- each number below this one stands among them once
abbrev pub are_each_once : ℕ → List ℕ → Bool
are_each_once n xs = are_once_from 0 n xs
