-- What is found of statements and what is visible after them, by the names that the code has.
use Rattle.std.proofs.Common.{◌≡◌, ℕ, List, [], ◌∷◌, length, Option, refl, ap, sym, ◌∙◌}
use Rattle.cc_base.specs.declared.names.Place.{Place}
use Rattle.cc_typed.specs.declared.tree.AcceptPart.{AcceptPart as TypedAccept}
use Rattle.cc_typed.specs.declared.tree.Alternative.{Alternative as TypedAlternative}
use Rattle.cc_typed.specs.declared.tree.Choice.{Choice as TypedChoice}
use Rattle.cc_typed.specs.declared.tree.Choice.TheVariants as typed_choice
use Rattle.cc_typed.specs.declared.tree.Expression.{Expression}
use Rattle.cc_typed.specs.declared.tree.Statement.{Statement as TypedStatement}
use Rattle.cc_typed.specs.declared.tree.Statement.TheVariants as typed
use Rattle.cc_faults.proofs.Judged.{answer-both, answer-map, faults-map, laws, lists, noted-both}
use Rattle.cc_faults.specs.Faults.{noted}
use Rattle.cc_faults.specs.Judged.{Judged, Good, after_each, answer, answer_map, answer_pair, both, each_after, faults, in_front, map, outcome, second}
use Rattle.cc_faults.specs.Rows.{in_body, leaving, outside_accept, replying}
use Rattle.cc_faults.specs.Scopes.{Scope, Text, declared, deeper, inside_loop, left}
use Rattle.cc_faults.specs.Statements.{Head, accepting, after, after_all, after_alternatives, after_choice, after_in, all_judged, alternative_made, alternatives_judged, any_value, blocked, branched, branched_both, broken, choice_accepting, choice_delaying, choice_judged, condition, continued, delayed, evaluated, judged, judged_in, local_type, looped, looped_after, looped_for, optional_condition, part_made, replied, return_in, selected, type_of_role}
use Rattle.cc_faults.specs.declared.answer.Answer.{Answer}
use Rattle.cc_faults.specs.declared.answer.Answer.TheVariants as an
use Rattle.cc_faults.specs.declared.fault.FaultAt.{FaultAt}
use Rattle.cc_faults.specs.declared.plain.AcceptPart.{AcceptPart}
use Rattle.cc_faults.specs.declared.plain.Alternative.{Alternative}
use Rattle.cc_faults.specs.declared.plain.Choice.{Accept as AcceptChoice, Delay as DelayChoice, Immediate, Terminate}
use Rattle.cc_faults.specs.declared.plain.Choice.TheBlock as S
use Rattle.cc_faults.specs.declared.plain.Local.{Local}
use Rattle.cc_faults.specs.declared.plain.Phrase.{Phrase}
use Rattle.cc_faults.specs.declared.plain.Statement.{Statement, Empty, Declare, Block, Evaluate, If, IfElse, While, DoWhile, For, Break, Continue, Return, TransactionReturn, Delay, Accept, Select, Row_of-Statement, end_of-Statement, more_of-Statement, items-the_row-Statement, items_hidden-the_row-Statement-0}
use Rattle.cc_faults.specs.declared.scope.Around.{Around}
use Rattle.cc_declared.proofs.Laws.{undone-nil}
use Rattle.cc_declared.specs.Undone.{undone}
use Rattle.cc_declared.specs.declared.names.Hidden.{Hidden}
use Rattle.cc_types.proofs.Parting.{local-judged}
use Rattle.cc_types.specs.Judging.{accept_judged, after_accept, after_alternative, after_alternatives_in, after_entries, alternative_judged, alternatives_judged_in, condition_or_none, entries_judged, for_head_judged, gives_back, head_judged, local_judged, nothing, round_block, value_or_none, within_block}
use denote.Hole.Carrier.{hidden}

abbrev the_part : ℕ → List TypedStatement → TypedAccept
the_part n all = record { site = n; block = all }

module _ (t : Text) where
  -- ---- rows as lists
  after-row : {n : _} (w : Around) (s : Scope) (row : Row_of-Statement n) → after_all t w s row ≡ after_entries t w s (items-the_row-Statement n row)
  unfolding after after_each
  after-row w s end_of-Statement = refl
  after-row w s (more_of-Statement a rest) = after-row w (after t w s a) rest

  after-hidden : (w : Around) (s : Scope) (xs : List Statement) → after_all t w s (S.hidden-the_row-Statement-0 xs) ≡ after_entries t w s xs
  after-hidden w s xs = after-row w s (S.hidden-the_row-Statement-0 xs) ∙ ap (after_entries t w s) (items_hidden-the_row-Statement-0 xs)

  judged-row : {n : _} (w : Around) (s : Scope) (row : Row_of-Statement n) → all_judged t w s row ≡ entries_judged t w s (items-the_row-Statement n row)
  unfolding judged each_after
  judged-row w s end_of-Statement = refl
  judged-row w s (more_of-Statement a rest) = ap (λ j. map in_front (both (judged t w s a) j)) (judged-row w (after t w s a) rest)

  judged-hidden : (w : Around) (s : Scope) (xs : List Statement) → all_judged t w s (S.hidden-the_row-Statement-0 xs) ≡ entries_judged t w s xs
  judged-hidden w s xs = judged-row w s (S.hidden-the_row-Statement-0 xs) ∙ ap (entries_judged t w s) (items_hidden-the_row-Statement-0 xs)

  alternative-after : (w : Around) (s : Scope) (a : Alternative) → left s (after_all t (deeper w) (after_choice t w s a.choice) (S.hidden-the_row-Statement-0 a.entries)) ≡ after_alternative t w s a
  unfolding after_alternative
  alternative-after w s a = ap (left s) (after-hidden (deeper w) (after_choice t w s a.choice) a.entries)

  alternatives-after : (w : Around) (s : Scope) (xs : List Alternative) → after_alternatives t w s (S.hidden-the_row-Alternative-2 xs) ≡ after_alternatives_in t w s xs
  unfolding after after_each S.hidden-the_row-Alternative-2 hidden
  alternatives-after w s [] = refl
  alternatives-after w s (a ∷ rest) =
      ap (λ x. after_alternatives t w x (S.hidden-the_row-Alternative-2 rest)) (alternative-after w s a)
      ∙ alternatives-after w (after_alternative t w s a) rest

  alternatives-judged : (w : Around) (s : Scope) (xs : List Alternative) → alternatives_judged t w s (S.hidden-the_row-Alternative-2 xs) ≡ alternatives_judged_in t w s xs
  unfolding judged each_after alternative_judged condition_or_none S.hidden-the_row-Alternative-2 hidden
  alternatives-judged w s [] = refl
  alternatives-judged w s (a ∷ rest) =
      ap (λ j. map in_front (both (map alternative_made (both (both (optional_condition t w s a.guard) (choice_judged t w s a.choice)) j)) (alternatives_judged t w (left s (after_all t (deeper w) (after_choice t w s a.choice) (S.hidden-the_row-Statement-0 a.entries))) (S.hidden-the_row-Alternative-2 rest)))) (judged-hidden (deeper w) (after_choice t w s a.choice) a.entries)
      ∙ ap (λ x. map in_front (both (alternative_judged t w s a) (alternatives_judged t w x (S.hidden-the_row-Alternative-2 rest)))) (alternative-after w s a)
      ∙ ap (λ j. map in_front (both (alternative_judged t w s a) j)) (alternatives-judged w (after_alternative t w s a) rest)

  -- the same lists, as a text's blocks have them
  pub after_in-is : (w : Around) (s : Scope) (xs : List Statement) → after_in t w s xs ≡ after_entries t w s xs
  unfolding after_each
  after_in-is w s [] = refl
  after_in-is w s (a ∷ rest) = after_in-is w (after t w s a) rest

  pub judged_in-is : (w : Around) (s : Scope) (xs : List Statement) → judged_in t w s xs ≡ entries_judged t w s xs
  unfolding each_after
  judged_in-is w s [] = refl
  judged_in-is w s (a ∷ rest) = ap (λ j. map in_front (both (judged t w s a) j)) (judged_in-is w (after t w s a) rest)

  -- ---- what is visible after a statement
  module _ (w : Around) (s : Scope) where
    pub after-Empty : after t w s Empty ≡ s
    unfolding after
    after-Empty = refl

    pub after-Declare : (l : Local) → after t w s (Declare l) ≡ declared w.scope s l.name (outcome (local_type s l))
    unfolding after
    after-Declare l = refl

    pub after-Block : (all : List Statement) → after t w s (Block all) ≡ left s (after_entries t (deeper w) s all)
    unfolding after
    after-Block all = ap (left s) (after-hidden (deeper w) s all)

    pub after-Evaluate : (e : Phrase) → after t w s (Evaluate e) ≡ s
    unfolding after
    after-Evaluate e = refl

    pub after-If : (c : Phrase) (a : Statement) → after t w s (If c a) ≡ after t w s a
    unfolding after S.shape-the_row-Statement-1 S.hidden-the_row-Statement-1 hidden
    after-If c a = refl

    pub after-IfElse : (c : Phrase) (a b : Statement) → after t w s (IfElse c a b) ≡ after t w (after t w s a) b
    unfolding after S.shape-the_row-Statement-1 S.hidden-the_row-Statement-1 hidden
    after-IfElse c a b = refl

    pub after-While : (c : Phrase) (a : Statement) → after t w s (While c a) ≡ after t (inside_loop w) s a
    unfolding after S.shape-the_row-Statement-1 S.hidden-the_row-Statement-1 hidden
    after-While c a = refl

    pub after-DoWhile : (a : Statement) (c : Phrase) → after t w s (DoWhile a c) ≡ after t (inside_loop w) s a
    unfolding after S.shape-the_row-Statement-1 S.hidden-the_row-Statement-1 hidden
    after-DoWhile a c = refl

    pub after-For : (e c next : Option Phrase) (a : Statement) → after t w s (For e c next a) ≡ after t (inside_loop w) s a
    unfolding after S.shape-the_row-Statement-1 S.hidden-the_row-Statement-1 hidden
    after-For e c next a = refl

    pub after-Break : (p : Place) → after t w s (Break p) ≡ s
    unfolding after
    after-Break p = refl

    pub after-Continue : (p : Place) → after t w s (Continue p) ≡ s
    unfolding after
    after-Continue p = refl

    pub after-Return : (p : Place) (e : Option Phrase) → after t w s (Return p e) ≡ s
    unfolding after
    after-Return p e = refl

    pub after-TransactionReturn : (p : Place) (e : Option Phrase) → after t w s (TransactionReturn p e) ≡ s
    unfolding after
    after-TransactionReturn p e = refl

    pub after-Delay : (e : Phrase) → after t w s (Delay e) ≡ s
    unfolding after
    after-Delay e = refl

    pub after-Accept : (part : AcceptPart) → after t w s (Accept part) ≡ after_accept t w s part
    unfolding after after_accept within_block round_block
    after-Accept part = ap (left s) (after-hidden (round_block t w part.head) (within_block t w s part.head) part.block)

    pub after-Select : (p : Place) (all : List Alternative) → after t w s (Select p all) ≡ after_alternatives_in t w s all
    unfolding after
    after-Select p all = alternatives-after w s all

    pub after_choice-Accept : (part : AcceptPart) → after_choice t w s (AcceptChoice part) ≡ after_accept t w s part
    unfolding after after_accept within_block round_block
    after_choice-Accept part = ap (left s) (after-hidden (round_block t w part.head) (within_block t w s part.head) part.block)

    pub after_choice-Delay : (e : Phrase) → after_choice t w s (DelayChoice e) ≡ s
    unfolding after
    after_choice-Delay e = refl

    pub after_choice-Immediate : after_choice t w s Immediate ≡ s
    unfolding after
    after_choice-Immediate = refl

    pub after_choice-Terminate : after_choice t w s Terminate ≡ s
    unfolding after
    after_choice-Terminate = refl

    -- ---- what is found of a statement
    pub judged-Empty : judged t w s Empty ≡ Good typed.Empty
    unfolding judged
    judged-Empty = refl

    pub judged-Declare : (l : Local) → judged t w s (Declare l) ≡ local_judged t w s l
    unfolding judged
    judged-Declare l = local-judged t w s l

    pub judged-Block : (all : List Statement) → judged t w s (Block all) ≡ map blocked (entries_judged t (deeper w) s all)
    unfolding judged
    judged-Block all = ap (map blocked) (judged-hidden (deeper w) s all)

    pub judged-Evaluate : (e : Phrase) → judged t w s (Evaluate e) ≡ map evaluated (any_value t w s e)
    unfolding judged
    judged-Evaluate e = refl

    pub judged-If : (c : Phrase) (a : Statement) → judged t w s (If c a) ≡ map branched (both (condition t w s c) (judged t w s a))
    unfolding judged S.shape-the_row-Statement-1 S.hidden-the_row-Statement-1 hidden
    judged-If c a = refl

    pub judged-IfElse : (c : Phrase) (a b : Statement) → judged t w s (IfElse c a b) ≡ map branched_both (both (both (condition t w s c) (judged t w s a)) (judged t w (after t w s a) b))
    unfolding judged S.shape-the_row-Statement-1 S.hidden-the_row-Statement-1 hidden
    judged-IfElse c a b = refl

    pub judged-While : (c : Phrase) (a : Statement) → judged t w s (While c a) ≡ map looped (both (condition t w s c) (judged t (inside_loop w) s a))
    unfolding judged S.shape-the_row-Statement-1 S.hidden-the_row-Statement-1 hidden
    judged-While c a = refl

    pub judged-DoWhile : (a : Statement) (c : Phrase) → judged t w s (DoWhile a c) ≡ map looped_after (both (judged t (inside_loop w) s a) (condition t w (after t (inside_loop w) s a) c))
    unfolding judged S.shape-the_row-Statement-1 S.hidden-the_row-Statement-1 hidden
    judged-DoWhile a c = refl

    pub judged-For : (e c next : Option Phrase) (a : Statement) → judged t w s (For e c next a) ≡ map looped_for (both (for_head_judged t w s e c next) (judged t (inside_loop w) s a))
    unfolding judged for_head_judged value_or_none condition_or_none S.shape-the_row-Statement-1 S.hidden-the_row-Statement-1 hidden
    judged-For e c next a = refl

    pub judged-Break : (p : Place) → judged t w s (Break p) ≡ map broken (leaving w.breaks p)
    unfolding judged
    judged-Break p = refl

    pub judged-Continue : (p : Place) → judged t w s (Continue p) ≡ map continued (leaving w.continues p)
    unfolding judged
    judged-Continue p = refl

    pub judged-Return : (p : Place) (e : Option Phrase) → judged t w s (Return p e) ≡ map (return_in w.role) (map second (both (outside_accept w.reply p) (gives_back t w s p (type_of_role w.role) e)))
    unfolding judged gives_back
    judged-Return p e = refl

    pub judged-TransactionReturn : (p : Place) (e : Option Phrase) → judged t w s (TransactionReturn p e) ≡ map replied (gives_back t w s p (replying w.reply p) e)
    unfolding judged gives_back
    judged-TransactionReturn p e = refl

    pub judged-Delay : (e : Phrase) → judged t w s (Delay e) ≡ map delayed (condition t w s e)
    unfolding judged
    judged-Delay e = refl

    pub judged-Accept : (part : AcceptPart) → judged t w s (Accept part) ≡ map accepting (accept_judged t w s part)
    unfolding judged accept_judged head_judged within_block round_block
    judged-Accept part =
        ap (λ j. map accepting (map (part_made (length s.sites)) (both (head_judged t w s part.head) j))) (judged-hidden (round_block t w part.head) (within_block t w s part.head) part.block)

    pub judged-Select : (p : Place) (all : List Alternative) → judged t w s (Select p all) ≡ map selected (both (in_body w.role p) (alternatives_judged_in t w s all))
    unfolding judged
    judged-Select p all = ap (λ j. map selected (both (in_body w.role p) j)) (alternatives-judged w s all)

    pub choice-Accept : (part : AcceptPart) → choice_judged t w s (AcceptChoice part) ≡ map choice_accepting (accept_judged t w s part)
    unfolding judged accept_judged head_judged within_block round_block
    choice-Accept part =
        ap (λ j. map choice_accepting (map (part_made (length s.sites)) (both (head_judged t w s part.head) j))) (judged-hidden (round_block t w part.head) (within_block t w s part.head) part.block)

    pub choice-Delay : (e : Phrase) → choice_judged t w s (DelayChoice e) ≡ map choice_delaying (condition t w s e)
    unfolding judged
    choice-Delay e = refl

    pub choice-Immediate : choice_judged t w s Immediate ≡ Good typed_choice.Immediate
    unfolding judged
    choice-Immediate = refl

    pub choice-Terminate : choice_judged t w s Terminate ≡ Good typed_choice.Terminate
    unfolding judged
    choice-Terminate = refl

-- ---- accepts and alternatives
module _ (t : Text) (w : Around) (s : Scope) where
  pub accept-is : (part : AcceptPart) → accept_judged t w s part ≡ map (part_made (length s.sites)) (both (head_judged t w s part.head) (entries_judged t (round_block t w part.head) (within_block t w s part.head) part.block))
  unfolding accept_judged
  accept-is part = refl

  pub after_accept-is : (part : AcceptPart) → after_accept t w s part ≡ left s (after_entries t (round_block t w part.head) (within_block t w s part.head) part.block)
  unfolding after_accept
  after_accept-is part = refl

  pub alternative-is : (a : Alternative) → alternative_judged t w s a ≡ map alternative_made (both (both (condition_or_none t w s a.guard) (choice_judged t w s a.choice)) (entries_judged t (deeper w) (after_choice t w s a.choice) a.entries))
  unfolding alternative_judged
  alternative-is a = refl

  pub after_alternative-is : (a : Alternative) → after_alternative t w s a ≡ left s (after_entries t (deeper w) (after_choice t w s a.choice) a.entries)
  unfolding after_alternative
  after_alternative-is a = refl

pub part-made : (n : ℕ) (h : Answer Head) (b : Answer (List TypedStatement)) → answer_map (λ (v : Unit {0} × List TypedStatement). the_part n v.1) (answer_pair (answer_map nothing h) b) ≡ answer_map (part_made n) (answer_pair h b)
part-made n an.Faulty b = refl
part-made n an.Typeless an.Faulty = refl
part-made n an.Typeless an.Typeless = refl
part-made n an.Typeless (an.Good all) = refl
part-made n (an.Good v) an.Faulty = refl
part-made n (an.Good v) an.Typeless = refl
part-made n (an.Good v) (an.Good all) = refl

-- a scope that is left: each name means what it did before
pub left-behind : (s m now : Scope) (hs : List Hidden) → undone hs m.names ≡ undone [] s.names → now ≡ record m { names = undone hs m.names } → now ≡ left s m
left-behind s m now hs same is = is ∙ ap (λ names. record m { names = names }) (same ∙ undone-nil s.names)

-- a scope that is left within one of which names were declared
pub left-twice : (s s1 s2 m now : Scope) (hs : List Hidden) → undone hs s1.names ≡ undone [] s.names → s2 ≡ left s1 m → now ≡ record s2 { names = undone hs s2.names } → now ≡ left s m
left-twice s s1 s2 m now hs same inner is =
    is
    ∙ ap (λ (x : Scope). record x { names = undone hs x.names }) inner
    ∙ ap (λ names. record m { names = names }) (same ∙ undone-nil s.names)

-- a scope that is left for one whose names mean the same
pub left-same : (s s1 m now : Scope) → s1.names ≡ s.names → now ≡ left s1 m → now ≡ left s m
left-same s s1 m now same is = is ∙ ap (λ names. record m { names = names }) same

-- statements one after the other, by what code has
module _ (t t1 : Text) (w w1 : Around) (s s1 : Scope) (xs ys : List Statement) where
  same-entries : t1 ≡ t → w1 ≡ w → s1 ≡ s → xs ≡ ys → entries_judged t1 w1 s1 xs ≡ entries_judged t w s ys
  same-entries ts ws ss es =
      ap (λ u. entries_judged u w1 s1 xs) ts
      ∙ ap (λ v. entries_judged t v s1 xs) ws
      ∙ ap (λ x. entries_judged t w x xs) ss
      ∙ ap (entries_judged t w s) es

  same-after : t1 ≡ t → w1 ≡ w → s1 ≡ s → xs ≡ ys → after_entries t1 w1 s1 xs ≡ after_entries t w s ys
  same-after ts ws ss es =
      ap (λ u. after_entries u w1 s1 xs) ts
      ∙ ap (λ v. after_entries t v s1 xs) ws
      ∙ ap (λ x. after_entries t w x xs) ss
      ∙ ap (after_entries t w s) es

-- an accept, by what code has of its parts
module _ (t t1 : Text) (w w1 : Around) (s s1 : Scope) (part : AcceptPart) (xs : List Statement) where
  abbrev head : Judged Head
  head = head_judged t w s part.head

  abbrev entries : Judged (List TypedStatement)
  entries = entries_judged t (round_block t w part.head) (within_block t w s part.head) part.block

  pub accept-value : (site : ℕ) (a : Answer (Unit {0})) (b : Answer (List TypedStatement)) (all : Answer TypedAccept)
      → t1 ≡ t → w1 ≡ round_block t w part.head → s1 ≡ within_block t w s part.head → xs ≡ part.block
      → site ≡ length s.sites → a ≡ answer_map nothing (answer head) → b ≡ answer (entries_judged t1 w1 s1 xs) → all ≡ answer_map (λ (v : Unit {0} × List TypedStatement). the_part site v.1) (answer_pair a b)
      → all ≡ answer (accept_judged t w s part)
  accept-value site a b all ts ws ss es ns hs bs is =
      is
      ∙ ap (λ n. answer_map (λ (v : Unit {0} × List TypedStatement). the_part n v.1) (answer_pair a b)) ns
      ∙ ap (λ h. answer_map (λ (v : Unit {0} × List TypedStatement). the_part (length s.sites) v.1) (answer_pair h b)) hs
      ∙ part-made (length s.sites) (answer head) b
      ∙ ap (λ c. answer_map (part_made (length s.sites)) (answer_pair (answer head) c)) (bs ∙ ap answer (same-entries t t1 (round_block t w part.head) w1 (within_block t w s part.head) s1 xs part.block ts ws ss es))
      ∙ ap (answer_map (part_made (length s.sites))) (sym (answer-both head entries))
      ∙ sym (answer-map (part_made (length s.sites)) (both head entries))
      ∙ ap answer (sym (accept-is t w s part))

  pub accept-noted : (m m1 m2 : Option FaultAt)
      → t1 ≡ t → w1 ≡ round_block t w part.head → s1 ≡ within_block t w s part.head → xs ≡ part.block
      → m1 ≡ noted m (faults head) → m2 ≡ noted m1 (faults (entries_judged t1 w1 s1 xs))
      → m2 ≡ noted m (faults (accept_judged t w s part))
  accept-noted m m1 m2 ts ws ss es m1s m2s =
      m2s
      ∙ ap (λ n. noted n (faults (entries_judged t1 w1 s1 xs))) m1s
      ∙ ap (λ j. noted (noted m (faults head)) (faults j)) (same-entries t t1 (round_block t w part.head) w1 (within_block t w s part.head) s1 xs part.block ts ws ss es)
      ∙ sym (noted-both m head entries)
      ∙ ap (noted m) (sym (faults-map (part_made (length s.sites)) (both head entries)))
      ∙ ap (λ j. noted m (faults j)) (sym (accept-is t w s part))

  pub accept-scope : (s2 now : Scope) (hs : List Hidden)
      → t1 ≡ t → w1 ≡ round_block t w part.head → s1 ≡ within_block t w s part.head → xs ≡ part.block
      → undone hs s1.names ≡ undone [] s.names → s2 ≡ left s1 (after_entries t1 w1 s1 xs) → now ≡ record s2 { names = undone hs s2.names }
      → now ≡ after_accept t w s part
  accept-scope s2 now hs ts ws ss es names inner is =
      left-twice s s1 s2 (after_entries t1 w1 s1 xs) now hs names inner is
      ∙ ap (left s) (same-after t t1 (round_block t w part.head) w1 (within_block t w s part.head) s1 xs part.block ts ws ss es)
      ∙ sym (after_accept-is t w s part)

-- an alternative, by what code has of its parts
module _ (t t1 : Text) (w w1 : Around) (s s1 : Scope) (a : Alternative) (xs : List Statement) where
  abbrev offer : Judged (Option Expression × TypedChoice)
  offer = both (condition_or_none t w s a.guard) (choice_judged t w s a.choice)

  abbrev behind : Judged (List TypedStatement)
  behind = entries_judged t (deeper w) (after_choice t w s a.choice) a.entries

  pub alternative-value : (o : Answer (Option Expression × TypedChoice)) (b : Answer (List TypedStatement)) (all : Answer TypedAlternative)
      → t1 ≡ t → w1 ≡ deeper w → s1 ≡ after_choice t w s a.choice → xs ≡ a.entries
      → o ≡ answer offer → b ≡ answer (entries_judged t1 w1 s1 xs) → all ≡ answer_map alternative_made (answer_pair o b)
      → all ≡ answer (alternative_judged t w s a)
  alternative-value o b all ts ws ss es os bs is =
      is
      ∙ ap (λ v. answer_map alternative_made (answer_pair v b)) os
      ∙ ap (λ v. answer_map alternative_made (answer_pair (answer offer) v)) (bs ∙ ap answer (same-entries t t1 (deeper w) w1 (after_choice t w s a.choice) s1 xs a.entries ts ws ss es))
      ∙ ap (answer_map alternative_made) (sym (answer-both offer behind))
      ∙ sym (answer-map alternative_made (both offer behind))
      ∙ ap answer (sym (alternative-is t w s a))

  pub alternative-noted : (m m1 m2 : Option FaultAt)
      → t1 ≡ t → w1 ≡ deeper w → s1 ≡ after_choice t w s a.choice → xs ≡ a.entries
      → m1 ≡ noted m (faults offer) → m2 ≡ noted m1 (faults (entries_judged t1 w1 s1 xs))
      → m2 ≡ noted m (faults (alternative_judged t w s a))
  alternative-noted m m1 m2 ts ws ss es m1s m2s =
      m2s
      ∙ ap (λ n. noted n (faults (entries_judged t1 w1 s1 xs))) m1s
      ∙ ap (λ j. noted (noted m (faults offer)) (faults j)) (same-entries t t1 (deeper w) w1 (after_choice t w s a.choice) s1 xs a.entries ts ws ss es)
      ∙ sym (noted-both m offer behind)
      ∙ ap (noted m) (sym (faults-map alternative_made (both offer behind)))
      ∙ ap (λ j. noted m (faults j)) (sym (alternative-is t w s a))

  pub alternative-scope : (now : Scope)
      → t1 ≡ t → w1 ≡ deeper w → s1 ≡ after_choice t w s a.choice → xs ≡ a.entries
      → s1.names ≡ s.names → now ≡ left s1 (after_entries t1 w1 s1 xs)
      → now ≡ after_alternative t w s a
  alternative-scope now ts ws ss es names is =
      left-same s s1 (after_entries t1 w1 s1 xs) now names is
      ∙ ap (left s) (same-after t t1 (deeper w) w1 (after_choice t w s a.choice) s1 xs a.entries ts ws ss es)
      ∙ sym (after_alternative-is t w s a)

pub ruleset scopes = (accept-is, after_accept-is, alternative-is, after_alternative-is, part-made, undone-nil)

pub ruleset after_statements = (after-Empty, after-Declare, after-Block, after-Evaluate, after-If, after-IfElse, after-While, after-DoWhile, after-For, after-Break, after-Continue, after-Return, after-TransactionReturn, after-Delay, after-Accept, after-Select, after_choice-Accept, after_choice-Delay, after_choice-Immediate, after_choice-Terminate)

pub ruleset judged_statements = (judged-Empty, judged-Declare, judged-Block, judged-Evaluate, judged-If, judged-IfElse, judged-While, judged-DoWhile, judged-For, judged-Break, judged-Continue, judged-Return, judged-TransactionReturn, judged-Delay, judged-Accept, judged-Select, choice-Accept, choice-Delay, choice-Immediate, choice-Terminate)

pub ruleset statements = (laws, lists, scopes, after_statements, judged_statements)
