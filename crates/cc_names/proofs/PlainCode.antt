-- The plain form of each statement, by the names that the code has.
use Rattle.std.proofs.Common.{◌≡◌, ℕ, List, [], ◌∷◌, ◌++◌, Option, None, Some, map, refl, sym, ap, ◌∙◌, append_assoc, append-nil}
use Rattle.cc_base.specs.declared.names.Place.{Place}
use Rattle.cc_grammar.specs.declared.tree.Accept.{Accept}
use Rattle.cc_grammar.specs.declared.tree.Alternative.{Alternative}
use Rattle.cc_grammar.specs.declared.tree.Choice.{Accept as AcceptChoice, Delay as DelayChoice, Immediate, Terminate}
use Rattle.cc_grammar.specs.declared.tree.Choice.TheBlock as S
use Rattle.cc_grammar.specs.declared.tree.Clauses.{Clauses}
use Rattle.cc_grammar.specs.declared.tree.Entry.{Entry, Local as LocalEntry, Statement as StatementEntry}
use Rattle.cc_grammar.specs.declared.tree.Expression.{Expression}
use Rattle.cc_grammar.specs.declared.tree.ForHeader.{ForHeader}
use Rattle.cc_grammar.specs.declared.tree.Identifier.{Identifier}
use Rattle.cc_grammar.specs.declared.tree.Local.{Local}
use Rattle.cc_grammar.specs.declared.tree.Statement.{Statement, Empty, Block, Expression as ExpressionStatement, If, IfElse, While, Do, For, Break, Continue, Return, Treturn, Delay, Accept as AcceptStatement, Select, Row_of-Entry, end_of-Entry, more_of-Entry, items-the_row-Entry, items_hidden-the_row-Entry-0}
use Rattle.cc_faults.specs.declared.plain.Choice.TheVariants as choice
use Rattle.cc_faults.specs.declared.plain.Statement.TheVariants as statement
use Rattle.cc_names.specs.PlainLists.{accept_of, alternative, for_header, optional_block_of}
use Rattle.cc_names.specs.Plains.{accept_head, accept_part, alternative_of, alternatives, block_of_list, choice_of, entries, entry, local_of, optional_expression, plain_expression, plain_statement}
use denote.Hole.Carrier.{hidden}

module _ (names : List (List ℕ)) (formats : List (List ℕ)) where
  entries-row : {n : _} (row : Row_of-Entry n) → entries names formats row ≡ block_of_list names formats (items-the_row-Entry n row)
  unfolding entry
  entries-row end_of-Entry = refl
  entries-row (more_of-Entry a rest) = ap (λ xs. entry names formats a ++ xs) (entries-row rest)

  entries-hidden : (all : List Entry) → entries names formats (S.hidden-the_row-Entry-0 all) ≡ block_of_list names formats all
  entries-hidden all = entries-row (S.hidden-the_row-Entry-0 all) ∙ ap (block_of_list names formats) (items_hidden-the_row-Entry-0 all)

  alternatives-hidden : (all : List Alternative) → alternatives names formats (S.hidden-the_row-Alternative-3 all) ≡ map (alternative names formats) all
  unfolding entry S.hidden-the_row-Alternative-3 hidden
  alternatives-hidden [] = refl
  alternatives-hidden (a ∷ rest) = ap (λ xs. alternative names formats a ∷ xs) (alternatives-hidden rest)

  pub entry-Local : (l : Local) → entry names formats (LocalEntry l) ≡ map (local_of names formats l.of) l.declarators
  unfolding entry
  entry-Local l = refl

  pub entry-Statement : (a : Statement) → entry names formats (StatementEntry a) ≡ plain_statement names formats a ∷ []
  unfolding entry
  entry-Statement a = refl

  pub plain-Empty : (p : Place) → plain_statement names formats (Empty p) ≡ statement.Empty
  unfolding entry
  plain-Empty p = refl

  pub plain-Block : (all : List Entry) → plain_statement names formats (Block all) ≡ statement.Block (block_of_list names formats all)
  unfolding entry
  plain-Block all = ap statement.Block (entries-hidden all)

  pub plain-Expression : (e : Expression) → plain_statement names formats (ExpressionStatement e) ≡ statement.Evaluate (plain_expression names formats e)
  unfolding entry
  plain-Expression e = refl

  pub plain-If : (p : Place) (c : Expression) (a : Statement) → plain_statement names formats (If p c a) ≡ statement.If (plain_expression names formats c) (plain_statement names formats a)
  unfolding entry S.shape-the_row-Statement-1 S.hidden-the_row-Statement-1 hidden
  plain-If p c a = refl

  pub plain-IfElse : (p : Place) (c : Expression) (a b : Statement) → plain_statement names formats (IfElse p c a b) ≡ statement.IfElse (plain_expression names formats c) (plain_statement names formats a) (plain_statement names formats b)
  unfolding entry S.shape-the_row-Statement-1 S.hidden-the_row-Statement-1 hidden
  plain-IfElse p c a b = refl

  pub plain-While : (p : Place) (c : Expression) (a : Statement) → plain_statement names formats (While p c a) ≡ statement.While (plain_expression names formats c) (plain_statement names formats a)
  unfolding entry S.shape-the_row-Statement-1 S.hidden-the_row-Statement-1 hidden
  plain-While p c a = refl

  pub plain-Do : (p : Place) (a : Statement) (c : Expression) → plain_statement names formats (Do p a c) ≡ statement.DoWhile (plain_statement names formats a) (plain_expression names formats c)
  unfolding entry S.shape-the_row-Statement-1 S.hidden-the_row-Statement-1 hidden
  plain-Do p a c = refl

  pub plain-For : (p : Place) (h : ForHeader) (a : Statement) → plain_statement names formats (For p h a) ≡ for_header names formats h (plain_statement names formats a)
  unfolding entry S.shape-the_row-Statement-1 S.hidden-the_row-Statement-1 hidden
  plain-For p h a = refl

  pub plain-Break : (p : Place) → plain_statement names formats (Break p) ≡ statement.Break p
  unfolding entry
  plain-Break p = refl

  pub plain-Continue : (p : Place) → plain_statement names formats (Continue p) ≡ statement.Continue p
  unfolding entry
  plain-Continue p = refl

  pub plain-Return : (p : Place) (e : Option Expression) → plain_statement names formats (Return p e) ≡ statement.Return p (optional_expression names formats e)
  unfolding entry
  plain-Return p e = refl

  pub plain-Treturn : (p : Place) (e : Option Expression) → plain_statement names formats (Treturn p e) ≡ statement.TransactionReturn p (optional_expression names formats e)
  unfolding entry
  plain-Treturn p e = refl

  pub plain-Delay : (p : Place) (e : Expression) → plain_statement names formats (Delay p e) ≡ statement.Delay (plain_expression names formats e)
  unfolding entry
  plain-Delay p e = refl

  accept-parts : (p : Place) (x : Identifier) (xs : List Identifier) (c : Clauses) (b : Option (List Entry))
      → plain_statement names formats (AcceptStatement (record { place = p; name = x; names = xs; clauses = c; block = b })) ≡ statement.Accept (accept_part names formats (accept_head names formats p x xs c) (optional_block_of names formats b))
  unfolding entry S.hidden-the_row-Accept-2 hidden
  accept-parts p x xs c None = refl
  accept-parts p x xs c (Some all) = ap (λ ys. statement.Accept (accept_part names formats (accept_head names formats p x xs c) ys)) (entries-hidden all)

  offered-parts : (p : Place) (x : Identifier) (xs : List Identifier) (c : Clauses) (b : Option (List Entry)) (all : List Entry)
      → (choice_of names formats (AcceptChoice (record { place = p; name = x; names = xs; clauses = c; block = b }) all)).0 ≡ choice.Accept (accept_part names formats (accept_head names formats p x xs c) (optional_block_of names formats b))
  unfolding entry
  offered-parts p x xs c None all = refl
  offered-parts p x xs c (Some block) all = ap (λ ys. choice.Accept (accept_part names formats (accept_head names formats p x xs c) ys)) (entries-hidden block)

  behind-parts : (p : Place) (x : Identifier) (xs : List Identifier) (c : Clauses) (b : Option (List Entry)) (all : List Entry)
      → (choice_of names formats (AcceptChoice (record { place = p; name = x; names = xs; clauses = c; block = b }) all)).1 ≡ block_of_list names formats all
  unfolding entry
  behind-parts p x xs c None all = entries-hidden all
  behind-parts p x xs c (Some block) all = entries-hidden all

  pub plain-Accept : (a : Accept) → plain_statement names formats (AcceptStatement a) ≡ statement.Accept (accept_of names formats a)
  plain-Accept a = accept-parts a.place a.name a.names a.clauses a.block

  pub plain-Select : (p : Place) (all : List Alternative) → plain_statement names formats (Select p all) ≡ statement.Select p (map (alternative names formats) all)
  unfolding entry
  plain-Select p all = ap (statement.Select p) (alternatives-hidden all)

  pub offered-Accept : (a : Accept) (all : List Entry) → (choice_of names formats (AcceptChoice a all)).0 ≡ choice.Accept (accept_of names formats a)
  offered-Accept a all = offered-parts a.place a.name a.names a.clauses a.block all

  pub behind-Accept : (a : Accept) (all : List Entry) → (choice_of names formats (AcceptChoice a all)).1 ≡ block_of_list names formats all
  behind-Accept a all = behind-parts a.place a.name a.names a.clauses a.block all

  pub offered-Delay : (p : Place) (e : Expression) (all : List Entry) → (choice_of names formats (DelayChoice p e all)).0 ≡ choice.Delay (plain_expression names formats e)
  unfolding entry
  offered-Delay p e all = refl

  pub behind-Delay : (p : Place) (e : Expression) (all : List Entry) → (choice_of names formats (DelayChoice p e all)).1 ≡ block_of_list names formats all
  unfolding entry
  behind-Delay p e all = entries-hidden all

  pub offered-Immediate : (p : Place) (all : List Entry) → (choice_of names formats (Immediate p all)).0 ≡ choice.Immediate
  unfolding entry
  offered-Immediate p all = refl

  pub behind-Immediate : (p : Place) (all : List Entry) → (choice_of names formats (Immediate p all)).1 ≡ block_of_list names formats all
  unfolding entry
  behind-Immediate p all = entries-hidden all

  pub offered-Terminate : (p : Place) → (choice_of names formats (Terminate p)).0 ≡ choice.Terminate
  unfolding entry
  offered-Terminate p = refl

  pub behind-Terminate : (p : Place) → (choice_of names formats (Terminate p)).1 ≡ []
  unfolding entry
  behind-Terminate p = refl

pub ruleset plain_statements = (append_assoc, append-nil, entry-Local, entry-Statement, plain-Empty, plain-Block, plain-Expression, plain-If, plain-IfElse, plain-While, plain-Do, plain-For, plain-Break, plain-Continue, plain-Return, plain-Treturn, plain-Delay, plain-Accept, plain-Select, offered-Accept, behind-Accept, offered-Delay, behind-Delay, offered-Immediate, behind-Immediate, offered-Terminate, behind-Terminate)
