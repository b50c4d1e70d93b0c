-- How many things a text declares.
use Rattle.std.specs.Prelude.{ℕ, suc, ◌+◌, List, [], ◌∷◌, length}
use Rattle.cc_faults.specs.Phrases.{branch, branches, do_loop, for_loop, while_loop}
use Rattle.cc_faults.specs.declared.plain.Choice.{Choice, Accept' as AcceptChoice', Delay as DelayChoice, Immediate, Terminate}
use Rattle.cc_faults.specs.declared.plain.Item.{Item}
use Rattle.cc_faults.specs.declared.plain.Item.TheVariants as item
use Rattle.cc_faults.specs.declared.plain.Plain.{Plain}
use Rattle.cc_faults.specs.declared.plain.Statement.{Statement, Empty, Declare, Evaluate, Block', Break, Continue, Return, TransactionReturn, Delay, Accept', Select', Row_of-Statement, end_of-Statement, more_of-Statement, Row_of-Alternative, end_of-Alternative, more_of-Alternative}

-- local variables, accepts and their names
unfoldable mutual
  pub things_in : Statement → ℕ
  things_in Empty = 0
  things_in (Declare l) = 1
  things_in (Block' _ all) = things_in_all all
  things_in (Evaluate e) = 0
  things_in (branch c a) = things_in a
  things_in (branches c a b) = things_in a + things_in b
  things_in (while_loop c a) = things_in a
  things_in (do_loop a c) = things_in a
  things_in (for_loop e c next a) = things_in a
  things_in (Break p) = 0
  things_in (Continue p) = 0
  things_in (Return p e) = 0
  things_in (TransactionReturn p e) = 0
  things_in (Delay e) = 0
  things_in (Accept' h _ block) = suc (length h.names) + things_in_all block
  things_in (Select' p _ all) = things_in_alternatives all

  pub things_in_all : {n : _} → Row_of-Statement n → ℕ
  things_in_all end_of-Statement = 0
  things_in_all (more_of-Statement a rest) = things_in a + things_in_all rest

  pub things_in_alternatives : {n : _} → Row_of-Alternative n → ℕ
  things_in_alternatives end_of-Alternative = 0
  things_in_alternatives (more_of-Alternative guard c _ entries rest) =
      (things_in_choice c + things_in_all entries) + things_in_alternatives rest

  pub things_in_choice : Choice → ℕ
  things_in_choice (AcceptChoice' h _ block) = suc (length h.names) + things_in_all block
  things_in_choice (DelayChoice e) = 0
  things_in_choice Immediate = 0
  things_in_choice Terminate = 0

abbrev pub things_in_block : List Statement → ℕ
things_in_block [] = 0
things_in_block (a ∷ rest) = things_in a + things_in_block rest

-- the item itself, transactions, parameters and names, and what its block declares
abbrev pub things_of_item : Item → ℕ
things_of_item (item.Structure x fields) = 1
things_of_item (item.Enumeration x cs) = 1
things_of_item (item.Specification x ts ds) = suc (length ds)
things_of_item (item.Body x names block) = suc (length names + things_in_block block)
things_of_item (item.Function result x ps block) = suc (length ps + things_in_block block)

abbrev pub things_of_items : List Item → ℕ
things_of_items [] = 0
things_of_items (i ∷ rest) = things_of_item i + things_of_items rest

-- each of them has a token of its own, and so has each format
abbrev pub things_of : Plain → ℕ
things_of p = length p.formats + things_of_items p.items
