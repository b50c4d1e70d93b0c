-- What each statement mentions, by the names that the code has.
use Rattle.std.proofs.Common.{◌≡◌, ℕ, List, [], ◌∷◌, ◌++◌, Option, None, Some, refl, sym, ap, ◌∙◌, append_assoc, append-nil}
use Rattle.cc_base.specs.declared.names.Place.{Place}
use Rattle.cc_grammar.specs.declared.tree.Accept.{Accept}
use Rattle.cc_grammar.specs.declared.tree.Alternative.{Alternative}
use Rattle.cc_grammar.specs.declared.tree.Clauses.{Clauses}
use Rattle.cc_grammar.specs.declared.tree.Choice.{Accept as AcceptChoice, Delay as DelayChoice, Immediate, Terminate}
use Rattle.cc_grammar.specs.declared.tree.Choice.TheBlock as S
use Rattle.cc_grammar.specs.declared.tree.Entry.{Entry, Local as LocalEntry, Statement as StatementEntry}
use Rattle.cc_grammar.specs.declared.tree.Expression.{Expression}
use Rattle.cc_grammar.specs.declared.tree.ForHeader.{ForHeader}
use Rattle.cc_grammar.specs.declared.tree.Identifier.{Identifier}
use Rattle.cc_grammar.specs.declared.tree.Local.{Local}
use Rattle.cc_grammar.specs.declared.tree.LocalDeclarator.{LocalDeclarator}
use Rattle.cc_grammar.specs.declared.tree.LocalDeclarator.TheVariants as local_declarator
use Rattle.cc_grammar.specs.declared.tree.Transaction.{Transaction}
use Rattle.cc_grammar.specs.declared.tree.Statement.{Statement, Empty, Block, Expression as ExpressionStatement, If, IfElse, While, Do, For, Break, Continue, Return, Treturn, Delay, Accept as AcceptStatement, Select, Row_of-Entry, end_of-Entry, more_of-Entry, items-the_row-Entry, items_hidden-the_row-Entry-0, Row_of-Alternative, end_of-Alternative, more_of-Alternative, items-the_row-Alternative, items_hidden-the_row-Alternative-3}
use Rattle.cc_names.specs.declared.mentions.Numbers.{Numbers}
use Rattle.cc_names.specs.Mentions.{Mention, in_alternatives, in_choice, in_clauses, in_declarators, in_entries, in_entry, in_expression, in_length, in_list, in_name, in_names, in_optional_expression, in_optional_type, in_parameter_types, in_statement, in_transactions, in_type}
use Rattle.cc_names.specs.Seen.{after, in_accept, in_all_alternatives, in_declarator, in_header, in_optional_list, in_transaction}
use Rattle.cc_names.proofs.Walks.{after-after, after-nothing}
use denote.Hole.Carrier.{hidden}

entries-row : {n : _} (row : Row_of-Entry n) → in_entries row ≡ in_list (items-the_row-Entry n row)
unfolding in_entry
entries-row end_of-Entry = refl
entries-row (more_of-Entry a rest) = ap (λ xs. in_entry a ++ xs) (entries-row rest)

entries-hidden : (all : List Entry) → in_entries (S.hidden-the_row-Entry-0 all) ≡ in_list all
entries-hidden all = entries-row (S.hidden-the_row-Entry-0 all) ∙ ap in_list (items_hidden-the_row-Entry-0 all)

alternatives-hidden : (all : List Alternative) → in_alternatives (S.hidden-the_row-Alternative-3 all) ≡ in_all_alternatives all
unfolding in_entry S.hidden-the_row-Alternative-3 hidden
alternatives-hidden [] = refl
alternatives-hidden (a ∷ rest) = ap (λ xs. in_optional_expression a.guard ++ (in_choice a.choice ++ xs)) (alternatives-hidden rest)

pub entry-Local : (l : Local) → in_entry (LocalEntry l) ≡ in_type l.of ++ in_declarators l.declarators
unfolding in_entry
entry-Local l = refl

pub entry-Statement : (a : Statement) → in_entry (StatementEntry a) ≡ in_statement a
unfolding in_entry
entry-Statement a = refl

pub mentions-Empty : (p : Place) → in_statement (Empty p) ≡ []
unfolding in_entry
mentions-Empty p = refl

pub mentions-Block : (all : List Entry) → in_statement (Block all) ≡ in_list all
unfolding in_entry
mentions-Block all = entries-hidden all

pub mentions-Expression : (e : Expression) → in_statement (ExpressionStatement e) ≡ in_expression e
unfolding in_entry
mentions-Expression e = refl

pub mentions-If : (p : Place) (c : Expression) (a : Statement) → in_statement (If p c a) ≡ in_expression c ++ in_statement a
unfolding in_entry S.shape-the_row-Statement-1 S.hidden-the_row-Statement-1 hidden
mentions-If p c a = refl

pub mentions-IfElse : (p : Place) (c : Expression) (a b : Statement) → in_statement (IfElse p c a b) ≡ in_expression c ++ (in_statement a ++ in_statement b)
unfolding in_entry S.shape-the_row-Statement-1 S.hidden-the_row-Statement-1 hidden
mentions-IfElse p c a b = refl

pub mentions-While : (p : Place) (c : Expression) (a : Statement) → in_statement (While p c a) ≡ in_expression c ++ in_statement a
unfolding in_entry S.shape-the_row-Statement-1 S.hidden-the_row-Statement-1 hidden
mentions-While p c a = refl

pub mentions-Do : (p : Place) (a : Statement) (c : Expression) → in_statement (Do p a c) ≡ in_statement a ++ in_expression c
unfolding in_entry S.shape-the_row-Statement-1 S.hidden-the_row-Statement-1 hidden
mentions-Do p a c = refl

pub mentions-For : (p : Place) (h : ForHeader) (a : Statement) → in_statement (For p h a) ≡ in_header h ++ in_statement a
unfolding in_entry S.shape-the_row-Statement-1 S.hidden-the_row-Statement-1 hidden
mentions-For p h a = sym (append_assoc (in_optional_expression h.first) _ (in_statement a) ∙ ap (λ xs. in_optional_expression h.first ++ xs) (append_assoc (in_optional_expression h.condition) (in_optional_expression h.step) (in_statement a)))

pub mentions-Break : (p : Place) → in_statement (Break p) ≡ []
unfolding in_entry
mentions-Break p = refl

pub mentions-Continue : (p : Place) → in_statement (Continue p) ≡ []
unfolding in_entry
mentions-Continue p = refl

pub mentions-Return : (p : Place) (e : Option Expression) → in_statement (Return p e) ≡ in_optional_expression e
unfolding in_entry
mentions-Return p e = refl

pub mentions-Treturn : (p : Place) (e : Option Expression) → in_statement (Treturn p e) ≡ in_optional_expression e
unfolding in_entry
mentions-Treturn p e = refl

pub mentions-Delay : (p : Place) (e : Expression) → in_statement (Delay p e) ≡ in_expression e
unfolding in_entry
mentions-Delay p e = refl

accept-parts : (p : Place) (x : Identifier) (xs : List Identifier) (c : Clauses) (b : Option (List Entry))
    → in_statement (AcceptStatement (record { place = p; name = x; names = xs; clauses = c; block = b })) ≡ in_name x ++ (in_names xs ++ (in_clauses c ++ in_optional_list b))
unfolding in_entry S.hidden-the_row-Accept-2 hidden
accept-parts p x xs c None = refl
accept-parts p x xs c (Some all) = ap (λ ys. in_name x ++ (in_names xs ++ (in_clauses c ++ ys))) (entries-hidden all)

choice-parts : (p : Place) (x : Identifier) (xs : List Identifier) (c : Clauses) (b : Option (List Entry)) (all : List Entry)
    → in_choice (AcceptChoice (record { place = p; name = x; names = xs; clauses = c; block = b }) all) ≡ in_name x ++ (in_names xs ++ (in_clauses c ++ (in_optional_list b ++ in_list all)))
unfolding in_entry
choice-parts p x xs c None all = ap (λ ys. in_name x ++ (in_names xs ++ (in_clauses c ++ ys))) (entries-hidden all)
choice-parts p x xs c (Some block) all =
    ap (λ ys. in_name x ++ (in_names xs ++ (in_clauses c ++ (ys ++ in_entries (S.hidden-the_row-Entry-0 all))))) (entries-hidden block)
    ∙ ap (λ ys. in_name x ++ (in_names xs ++ (in_clauses c ++ (in_list block ++ ys)))) (entries-hidden all)

pub mentions-Accept : (a : Accept) → in_statement (AcceptStatement a) ≡ in_accept a
mentions-Accept a = accept-parts a.place a.name a.names a.clauses a.block

pub mentions-Select : (p : Place) (all : List Alternative) → in_statement (Select p all) ≡ in_all_alternatives all
unfolding in_entry
mentions-Select p all = alternatives-hidden all

pub choice-Accept : (a : Accept) (all : List Entry) → in_choice (AcceptChoice a all) ≡ in_accept a ++ in_list all
choice-Accept a all =
    choice-parts a.place a.name a.names a.clauses a.block all
    ∙ sym (append_assoc (in_name a.name) (in_names a.names ++ (in_clauses a.clauses ++ in_optional_list a.block)) (in_list all)
    ∙ ap (λ ys. in_name a.name ++ ys) (append_assoc (in_names a.names) (in_clauses a.clauses ++ in_optional_list a.block) (in_list all)
    ∙ ap (λ ys. in_names a.names ++ ys) (append_assoc (in_clauses a.clauses) (in_optional_list a.block) (in_list all))))

pub choice-Delay : (p : Place) (e : Expression) (all : List Entry) → in_choice (DelayChoice p e all) ≡ in_expression e ++ in_list all
unfolding in_entry
choice-Delay p e all = ap (λ xs. in_expression e ++ xs) (entries-hidden all)

pub choice-Immediate : (p : Place) (all : List Entry) → in_choice (Immediate p all) ≡ in_list all
unfolding in_entry
choice-Immediate p all = entries-hidden all

pub choice-Terminate : (p : Place) → in_choice (Terminate p) ≡ []
unfolding in_entry
choice-Terminate p = refl

pub ruleset seen_statements = (after-after, after-nothing, append_assoc, append-nil, entry-Local, entry-Statement, mentions-Empty, mentions-Block, mentions-Expression, mentions-If, mentions-IfElse, mentions-While, mentions-Do, mentions-For, mentions-Break, mentions-Continue, mentions-Return, mentions-Treturn, mentions-Delay, mentions-Accept, mentions-Select, choice-Accept, choice-Delay, choice-Immediate, choice-Terminate)

pub declarators-more : (d : LocalDeclarator) (ds : List LocalDeclarator) → in_declarators (d ∷ ds) ≡ in_declarator d ++ in_declarators ds
declarators-more (local_declarator.Plain x) ds = refl
declarators-more (local_declarator.Array x n) ds = sym (append_assoc (in_name x) (in_length n) (in_declarators ds))
declarators-more (local_declarator.Value x e) ds = sym (append_assoc (in_name x) (in_expression e) (in_declarators ds))

pub transactions-more : (d : Transaction) (ds : List Transaction) → in_transactions (d ∷ ds) ≡ in_transaction d ++ in_transactions ds
transactions-more d ds =
    sym (append_assoc (in_optional_type d.result) (in_name d.name ++ in_parameter_types d.parameters) (in_transactions ds)
    ∙ ap (λ xs. in_optional_type d.result ++ xs) (append_assoc (in_name d.name) (in_parameter_types d.parameters) (in_transactions ds)))
