-- Plain trees of the form that a text gives them: a row of operators has an operator, a format is one of those that are listed, an accept
-- has at most one clause of each word, `terminate` has no entries, and a structure has a field. A text declares fewer than 2^32 things.
use Rattle.std.specs.List.{list_all}
use Rattle.std.specs.Prelude.{ℕ, suc, Bool, true, false, not, ◌&&◌, ◌||◌, nat_le, nat_lt, List, [], ◌∷◌, length, Option, Some, None}
use Rattle.cc_typed.specs.Sequences.{is_empty}
use Rattle.cc_typed.specs.Typed.{most_things}
use Rattle.cc_faults.specs.Phrases.{assign, choose, negate, not_of, parenthesized, plus, put_char, step_after, step_before, update, within}
use Rattle.cc_faults.specs.Phrases.{branch, branches, do_loop, for_loop, while_loop}
use Rattle.cc_faults.specs.declared.plain.Choice.{Choice, Accept' as AcceptChoice', Delay as DelayChoice, Immediate, Terminate}
use Rattle.cc_faults.specs.declared.plain.Clause.{Clause}
use Rattle.cc_faults.specs.declared.plain.ClauseWord.{ClauseWord}
use Rattle.cc_faults.specs.declared.plain.ClauseWord.TheVariants as word
use Rattle.cc_faults.specs.declared.plain.Item.{Item}
use Rattle.cc_faults.specs.declared.plain.Item.TheVariants as item
use Rattle.cc_faults.specs.declared.plain.LocalForm.{LocalForm}
use Rattle.cc_faults.specs.declared.plain.LocalForm.TheVariants as form
use Rattle.cc_faults.specs.declared.plain.Plain.{Plain}
use Rattle.cc_faults.specs.declared.plain.Statement.{Statement, Empty, Declare, Evaluate, Block', Break, Continue, Return, TransactionReturn, Delay, Accept', Select', Row_of-Statement, end_of-Statement, more_of-Statement, Row_of-Alternative, end_of-Alternative, more_of-Alternative}
use Rattle.cc_faults.specs.declared.plain.Phrase.{Phrase, Number, Name, Call', Create', GetChar, PrintFormat', Chain', Arithmetic', Compare', Both', Either', Row_of-Phrase, end_of-Phrase, more_of-Phrase, Row_of-Step, end_of-Step, more_of-Step, Row_of-Operation, end_of-Operation, more_of-Operation, Row_of-Compared, end_of-Compared, more_of-Compared}
use Rattle.cc_faults.specs.declared.plain.Step.{Step, Field, Index', Call' as CallStep'}
use Rattle.cc_sound.specs.Sizes.{things_of}

abbrev pub has_phrase : {n : _} → Row_of-Phrase n → Bool
has_phrase end_of-Phrase = false
has_phrase (more_of-Phrase e rest) = true

abbrev pub has_operation : {n : _} → Row_of-Operation n → Bool
has_operation end_of-Operation = false
has_operation (more_of-Operation o b rest) = true

abbrev pub has_comparison : {n : _} → Row_of-Compared n → Bool
has_comparison end_of-Compared = false
has_comparison (more_of-Compared c b rest) = true

-- two words that are not the same
abbrev pub differ : ClauseWord → ClauseWord → Bool
differ word.SuchThat word.SuchThat = false
differ word.SuchThat word.By = true
differ word.By word.SuchThat = true
differ word.By word.By = false

abbrev pub are_once : List Clause → Bool
are_once [] = true
are_once (c ∷ []) = true
are_once (c ∷ d ∷ []) = differ c.word d.word
are_once (c ∷ d ∷ e ∷ rest) = false

abbrev pub is_terminate : Choice → Bool
is_terminate (AcceptChoice' h _ block) = false
is_terminate (DelayChoice e) = false
is_terminate Immediate = false
is_terminate Terminate = true

abbrev pub is_empty_row : {n : _} → Row_of-Statement n → Bool
is_empty_row end_of-Statement = true
is_empty_row (more_of-Statement a rest) = false

unfoldable pub count_alternatives : {n : _} → Row_of-Alternative n → ℕ
count_alternatives end_of-Alternative = 0
count_alternatives (more_of-Alternative guard c _ entries rest) = suc (count_alternatives rest)

module _ (formats : ℕ) where
  unfoldable mutual
    pub is_formed : Phrase → Bool
    is_formed (Number p v n) = true
    is_formed (Name x) = true
    is_formed (parenthesized p e) = is_formed e
    is_formed (Chain' _ (more_of-Phrase e end_of-Phrase) _ steps) = is_formed e && are_formed_steps steps
    is_formed (negate p e) = is_formed e
    is_formed (plus p e) = is_formed e
    is_formed (not_of p e) = is_formed e
    is_formed (Arithmetic' _ (more_of-Phrase a end_of-Phrase) _ rest) = is_formed a && has_operation rest && are_formed_operations rest
    is_formed (Compare' _ (more_of-Phrase a end_of-Phrase) _ rest) = is_formed a && has_comparison rest && are_formed_comparisons rest
    is_formed (Both' _ (more_of-Phrase a end_of-Phrase) _ rest) = is_formed a && has_phrase rest && are_formed rest
    is_formed (Either' _ (more_of-Phrase a end_of-Phrase) _ rest) = is_formed a && has_phrase rest && are_formed rest
    is_formed (choose c a b) = is_formed c && is_formed a && is_formed b
    is_formed (assign a b) = is_formed a && is_formed b
    is_formed (update a o b) = is_formed a && is_formed b
    is_formed (step_before p d e) = is_formed e
    is_formed (step_after e d) = is_formed e
    is_formed (Call' x _ args) = are_formed args
    is_formed (Create' p x _ args) = are_formed args
    is_formed (put_char p e) = is_formed e
    is_formed (GetChar p) = true
    is_formed (PrintFormat' p f _ args) = nat_lt f.number formats && are_formed args
    is_formed (within p d m e) = is_formed d && is_formed m && is_formed e

    pub is_formed_step : Step → Bool
    is_formed_step (Field x) = true
    is_formed_step (Index' _ (more_of-Phrase e end_of-Phrase)) = is_formed e
    is_formed_step (CallStep' x _ args) = are_formed args

    pub are_formed : {n : _} → Row_of-Phrase n → Bool
    are_formed end_of-Phrase = true
    are_formed (more_of-Phrase e rest) = is_formed e && are_formed rest

    pub are_formed_steps : {n : _} → Row_of-Step n → Bool
    are_formed_steps end_of-Step = true
    are_formed_steps (more_of-Step c rest) = is_formed_step c && are_formed_steps rest

    pub are_formed_operations : {n : _} → Row_of-Operation n → Bool
    are_formed_operations end_of-Operation = true
    are_formed_operations (more_of-Operation o b rest) = is_formed b && are_formed_operations rest

    pub are_formed_comparisons : {n : _} → Row_of-Compared n → Bool
    are_formed_comparisons end_of-Compared = true
    are_formed_comparisons (more_of-Compared c b rest) = is_formed b && are_formed_comparisons rest

  abbrev pub is_formed_option : Option Phrase → Bool
  is_formed_option None = true
  is_formed_option (Some e) = is_formed e

  abbrev pub is_formed_form : LocalForm → Bool
  is_formed_form form.Plain = true
  is_formed_form (form.Array n) = true
  is_formed_form (form.Value e) = is_formed e

  abbrev pub are_formed_clauses : List Clause → Bool
  are_formed_clauses [] = true
  are_formed_clauses (c ∷ rest) = is_formed c.expression && are_formed_clauses rest

  unfoldable mutual
    pub is_formed_statement : Statement → Bool
    is_formed_statement Empty = true
    is_formed_statement (Declare l) = is_formed_form l.form
    is_formed_statement (Block' _ all) = are_formed_statements all
    is_formed_statement (Evaluate e) = is_formed e
    is_formed_statement (branch c a) = is_formed c && is_formed_statement a
    is_formed_statement (branches c a b) = is_formed c && is_formed_statement a && is_formed_statement b
    is_formed_statement (while_loop c a) = is_formed c && is_formed_statement a
    is_formed_statement (do_loop a c) = is_formed_statement a && is_formed c
    is_formed_statement (for_loop e c next a) =
        is_formed_option e && is_formed_option c && is_formed_option next && is_formed_statement a
    is_formed_statement (Break p) = true
    is_formed_statement (Continue p) = true
    is_formed_statement (Return p e) = is_formed_option e
    is_formed_statement (TransactionReturn p e) = is_formed_option e
    is_formed_statement (Delay e) = is_formed e
    is_formed_statement (Accept' h _ block) =
        are_once h.clauses && are_formed_clauses h.clauses && are_formed_statements block
    is_formed_statement (Select' p _ all) = nat_le (count_alternatives all) most_things && are_formed_alternatives all

    pub are_formed_statements : {n : _} → Row_of-Statement n → Bool
    are_formed_statements end_of-Statement = true
    are_formed_statements (more_of-Statement a rest) = is_formed_statement a && are_formed_statements rest

    pub are_formed_alternatives : {n : _} → Row_of-Alternative n → Bool
    are_formed_alternatives end_of-Alternative = true
    are_formed_alternatives (more_of-Alternative guard c _ entries rest) =
        (is_formed_option guard && is_formed_choice c && (not (is_terminate c) || is_empty_row entries) && are_formed_statements entries)
        && are_formed_alternatives rest

    pub is_formed_choice : Choice → Bool
    is_formed_choice (AcceptChoice' h _ block) =
        are_once h.clauses && are_formed_clauses h.clauses && are_formed_statements block
    is_formed_choice (DelayChoice e) = is_formed e
    is_formed_choice Immediate = true
    is_formed_choice Terminate = true

  abbrev pub is_formed_item : Item → Bool
  is_formed_item (item.Structure x fields) = not (is_empty fields)
  is_formed_item (item.Enumeration x cs) = true
  is_formed_item (item.Specification x ts ds) = true
  is_formed_item (item.Body x names block) = list_all is_formed_statement block
  is_formed_item (item.Function result x ps block) = list_all is_formed_statement block

abbrev pub is_formed_text : Plain → Bool
is_formed_text p = nat_lt (things_of p) most_things && list_all (is_formed_item (length p.formats)) p.items
