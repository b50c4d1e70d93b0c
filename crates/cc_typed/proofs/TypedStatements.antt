-- Which statements are typed, by the names that the code has.
use Rattle.std.proofs.Common.{◌≡◌, ℕ, suc, length, true, false, not, ◌&&◌, ◌||◌, List, [], ◌∷◌, Option, refl, ap, ◌∙◌}
use Rattle.std.specs.List.{list_all}
use Rattle.std.specs.Prelude.{nat_le, slice_get}
use Rattle.cc_typed.specs.Parting.{is_of_type}
use Rattle.cc_typed.specs.Sequences.{is_empty}
use Rattle.cc_typed.specs.Typed.{Surroundings, are_typed_alternatives, are_typed_statements, count_alternatives, in_accept, inside_loop, is_accepted, is_body, is_empty_row, is_finish, is_given, is_number, is_number_option, is_outside, is_process_body, is_terminate, is_typed, is_typed_choice, is_typed_option, is_typed_statement, most_things}
use Rattle.cc_typed.specs.TypedLists.{is_typed_alternative}
use Rattle.cc_typed.specs.Types.{is_assignable, type_of}
use Rattle.cc_typed.specs.declared.tree.AcceptPart.{AcceptPart}
use Rattle.cc_typed.specs.declared.tree.Alternative.{Alternative}
use Rattle.cc_typed.specs.declared.tree.Choice.{Accept as AcceptChoice, Delay as DelayChoice, Immediate, Terminate}
use Rattle.cc_typed.specs.declared.types.DataType.{DataType}
use Rattle.cc_typed.specs.declared.tree.Expression.{Expression}
use Rattle.cc_typed.specs.declared.tree.Statement.{Statement, Empty, Evaluate, Declare, Initialize, Block, If, IfElse, While, DoWhile, For, Break, Continue, Return, Finish, TransactionReturn, Delay, Accept, Select, Row_of-Statement, end_of-Statement, more_of-Statement, items-the_row-Statement, items_hidden-the_row-Statement-0}
use Rattle.cc_typed.specs.declared.tree.Choice.TheBlock as S
use denote.Hole.Carrier.{hidden}

statements-row : (s : Surroundings) {n : _} (row : Row_of-Statement n) → are_typed_statements s row ≡ list_all (is_typed_statement s) (items-the_row-Statement n row)
unfolding is_typed_statement
statements-row s end_of-Statement = refl
statements-row s (more_of-Statement a rest) = ap (λ b. is_typed_statement s a && b) (statements-row s rest)

statements-hidden : (s : Surroundings) (all : List Statement) → are_typed_statements s (S.hidden-the_row-Statement-0 all) ≡ list_all (is_typed_statement s) all
statements-hidden s all = statements-row s (S.hidden-the_row-Statement-0 all) ∙ ap (list_all (is_typed_statement s)) (items_hidden-the_row-Statement-0 all)

empty-row : {n : _} (row : Row_of-Statement n) → is_empty_row row ≡ is_empty (items-the_row-Statement n row)
empty-row end_of-Statement = refl
empty-row (more_of-Statement a rest) = refl

empty-hidden : (all : List Statement) → is_empty_row (S.hidden-the_row-Statement-0 all) ≡ is_empty all
empty-hidden all = empty-row (S.hidden-the_row-Statement-0 all) ∙ ap is_empty (items_hidden-the_row-Statement-0 all)

alternatives-hidden : (s : Surroundings) (all : List Alternative) → are_typed_alternatives s (S.hidden-the_row-Alternative-2 all) ≡ list_all (is_typed_alternative s) all
unfolding is_typed_statement S.hidden-the_row-Alternative-2 hidden
alternatives-hidden s [] = refl
alternatives-hidden s (a ∷ rest) =
    ap (λ x. (is_number_option s a.guard && is_typed_choice s a.choice && (not (is_terminate a.choice) || x) && are_typed_statements s (S.hidden-the_row-Statement-0 a.entries)) && are_typed_alternatives s (S.hidden-the_row-Alternative-2 rest)) (empty-hidden a.entries)
    ∙ ap (λ x. (is_number_option s a.guard && is_typed_choice s a.choice && (not (is_terminate a.choice) || is_empty a.entries) && x) && are_typed_alternatives s (S.hidden-the_row-Alternative-2 rest)) (statements-hidden s a.entries)
    ∙ ap (λ x. is_typed_alternative s a && x) (alternatives-hidden s rest)

count-hidden : (all : List Alternative) → count_alternatives (S.hidden-the_row-Alternative-2 all) ≡ length all
unfolding S.hidden-the_row-Alternative-2 hidden
count-hidden [] = refl
count-hidden (a ∷ rest) = ap suc (count-hidden rest)

pub typed-Empty : (s : Surroundings) → is_typed_statement s Empty ≡ true
unfolding is_typed_statement
typed-Empty s = refl

pub typed-Evaluate : (s : Surroundings) (e : Expression) → is_typed_statement s (Evaluate e) ≡ is_typed s e
unfolding is_typed_statement
typed-Evaluate s e = refl

pub typed-Declare : (s : Surroundings) (x : ℕ) (t : DataType) → is_typed_statement s (Declare x t) ≡ is_of_type (slice_get s.variables x) t
unfolding is_typed_statement
typed-Declare s x t = refl

pub typed-Initialize : (s : Surroundings) (x : ℕ) (t : DataType) (e : Expression) → is_typed_statement s (Initialize x t e) ≡ (is_of_type (slice_get s.variables x) t && is_typed s e && is_assignable (type_of e) t)
unfolding is_typed_statement
typed-Initialize s x t e = refl

pub typed-Block : (s : Surroundings) (all : List Statement) → is_typed_statement s (Block all) ≡ list_all (is_typed_statement s) all
unfolding is_typed_statement
typed-Block s all = statements-hidden s all

pub typed-If : (s : Surroundings) (c : Expression) (a : Statement) → is_typed_statement s (If c a) ≡ (is_number s c && is_typed_statement s a)
unfolding is_typed_statement S.shape-the_row-Statement-1 S.hidden-the_row-Statement-1 hidden
typed-If s c a = refl

pub typed-IfElse : (s : Surroundings) (c : Expression) (a : Statement) (b : Statement) → is_typed_statement s (IfElse c a b) ≡ (is_number s c && is_typed_statement s a && is_typed_statement s b)
unfolding is_typed_statement S.shape-the_row-Statement-1 S.hidden-the_row-Statement-1 hidden
typed-IfElse s c a b = refl

pub typed-While : (s : Surroundings) (c : Expression) (a : Statement) → is_typed_statement s (While c a) ≡ (is_number s c && is_typed_statement (inside_loop s) a)
unfolding is_typed_statement S.shape-the_row-Statement-1 S.hidden-the_row-Statement-1 hidden
typed-While s c a = refl

pub typed-DoWhile : (s : Surroundings) (a : Statement) (c : Expression) → is_typed_statement s (DoWhile a c) ≡ (is_typed_statement (inside_loop s) a && is_number s c)
unfolding is_typed_statement S.shape-the_row-Statement-1 S.hidden-the_row-Statement-1 hidden
typed-DoWhile s a c = refl

pub typed-For : (s : Surroundings) (first : Option Expression) (c : Option Expression) (next : Option Expression) (a : Statement) → is_typed_statement s (For first c next a) ≡ (is_typed_option s first && is_number_option s c && is_typed_option s next && is_typed_statement (inside_loop s) a)
unfolding is_typed_statement S.shape-the_row-Statement-1 S.hidden-the_row-Statement-1 hidden
typed-For s first c next a = refl

pub typed-Break : (s : Surroundings) → is_typed_statement s Break ≡ s.may_break
unfolding is_typed_statement
typed-Break s = refl

pub typed-Continue : (s : Surroundings) → is_typed_statement s Continue ≡ s.may_continue
unfolding is_typed_statement
typed-Continue s = refl

pub typed-Return : (s : Surroundings) (e : Option Expression) (t : DataType) → is_typed_statement s (Return e t) ≡ (not (is_body s.kind) && is_of_type s.result t && is_given s e t)
unfolding is_typed_statement
typed-Return s e t = refl

pub typed-Finish : (s : Surroundings) (e : Option Expression) → is_typed_statement s (Finish e) ≡ (is_body s.kind && is_outside s.replies && is_finish s e)
unfolding is_typed_statement
typed-Finish s e = refl

pub typed-TransactionReturn : (s : Surroundings) (e : Option Expression) (t : DataType) → is_typed_statement s (TransactionReturn e t) ≡ (is_of_type s.replies t && is_given s e t)
unfolding is_typed_statement
typed-TransactionReturn s e t = refl

pub typed-Delay : (s : Surroundings) (e : Expression) → is_typed_statement s (Delay e) ≡ is_number s e
unfolding is_typed_statement
typed-Delay s e = refl

pub typed-Accept : (s : Surroundings) (part : AcceptPart) → is_typed_statement s (Accept part) ≡ (is_accepted s (slice_get s.parts.sites part.site) && list_all (is_typed_statement (in_accept s part.site)) part.block)
unfolding is_typed_statement
typed-Accept s part = ap (λ b. is_accepted s (slice_get s.parts.sites part.site) && b) (statements-hidden (in_accept s part.site) part.block)

pub typed-Select : (s : Surroundings) (all : List Alternative) → is_typed_statement s (Select all) ≡ (is_process_body s.kind && nat_le (length all) most_things && list_all (is_typed_alternative s) all)
unfolding is_typed_statement
typed-Select s all =
    ap (λ n. is_process_body s.kind && nat_le n most_things && are_typed_alternatives s (S.hidden-the_row-Alternative-2 all)) (count-hidden all)
    ∙ ap (λ b. is_process_body s.kind && nat_le (length all) most_things && b) (alternatives-hidden s all)

pub choice-Accept : (s : Surroundings) (part : AcceptPart) → is_typed_choice s (AcceptChoice part) ≡ (is_accepted s (slice_get s.parts.sites part.site) && list_all (is_typed_statement (in_accept s part.site)) part.block)
unfolding is_typed_statement
choice-Accept s part = ap (λ b. is_accepted s (slice_get s.parts.sites part.site) && b) (statements-hidden (in_accept s part.site) part.block)

pub terminate-Accept : (part : AcceptPart) → is_terminate (AcceptChoice part) ≡ false
terminate-Accept part = refl

pub choice-Delay : (s : Surroundings) (e : Expression) → is_typed_choice s (DelayChoice e) ≡ is_number s e
unfolding is_typed_statement
choice-Delay s e = refl

pub terminate-Delay : (e : Expression) → is_terminate (DelayChoice e) ≡ false
terminate-Delay e = refl

pub choice-Immediate : (s : Surroundings) → is_typed_choice s Immediate ≡ true
unfolding is_typed_statement
choice-Immediate s = refl

pub terminate-Immediate : is_terminate Immediate ≡ false
terminate-Immediate = refl

pub choice-Terminate : (s : Surroundings) → is_typed_choice s Terminate ≡ true
unfolding is_typed_statement
choice-Terminate s = refl

pub terminate-Terminate : is_terminate Terminate ≡ true
terminate-Terminate = refl

pub ruleset typed_statements = (typed-Empty, typed-Evaluate, typed-Declare, typed-Initialize, typed-Block, typed-If, typed-IfElse, typed-While, typed-DoWhile, typed-For, typed-Break, typed-Continue, typed-Return, typed-Finish, typed-TransactionReturn, typed-Delay, typed-Accept, typed-Select, choice-Accept, terminate-Accept, choice-Delay, terminate-Delay, choice-Immediate, terminate-Immediate, choice-Terminate, terminate-Terminate)
