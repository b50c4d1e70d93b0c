-- The sites of accepts, by the names that the code has, and how each stands once.
use Rattle.std.proofs.Common.{◌≡◌, ℕ, zero, suc, ◌+◌, ◌<◌, Bool, true, false, ◌&&◌, List, [], ◌∷◌, ◌++◌, ◌≤◌, length, get_or, set, drop, replicate, Option, refl, sym, ap, ◌∙◌, arith, append_assoc, append-nil}
use Rattle.std.proofs.Math.Bool.{and-false}
use Rattle.std.proofs.Math.Dec.{eqb-suc-zero}
use Rattle.std.proofs.lemmas.Bool.{ne_eqb, eq-eqb}
use Rattle.std.proofs.lemmas.List.{drop_all}
use Rattle.std.specs.List.{list_all}
use Rattle.std.specs.Prelude.{if◌then◌else◌, nat_eq}
use Rattle.cc_typed.specs.Sequences.{drop-at}
use Rattle.cc_typed.specs.Accepts.{are_each_once, are_once_from, sites_in, sites_of_all, sites_of_alternatives, sites_of_body, sites_of_choice, sites_of_list, times}
use Rattle.cc_typed.specs.declared.tree.AcceptPart.{AcceptPart}
use Rattle.cc_typed.specs.declared.tree.Alternative.{Alternative}
use Rattle.cc_typed.specs.declared.tree.Choice.{Accept as AcceptChoice, Delay as DelayChoice, Immediate, Terminate}
use Rattle.cc_typed.specs.declared.tree.Choice.TheBlock as S
use Rattle.cc_typed.specs.declared.tree.Expression.{Expression}
use Rattle.cc_typed.specs.declared.tree.Statement.{Statement, Empty, Evaluate, Declare, Initialize, Block, If, IfElse, While, DoWhile, For, Break, Continue, Return, Finish, TransactionReturn, Delay, Accept, Select, Row_of-Statement, end_of-Statement, more_of-Statement, items-the_row-Statement, items_hidden-the_row-Statement-0}
use Rattle.cc_typed.specs.declared.types.DataType.{DataType}
use denote.Hole.Carrier.{hidden}

all-row : {n : _} (row : Row_of-Statement n) → sites_of_all row ≡ sites_of_body (items-the_row-Statement n row)
unfolding sites_in
all-row end_of-Statement = refl
all-row (more_of-Statement a rest) = ap (λ xs. sites_in a ++ xs) (all-row rest)

all-hidden : (all : List Statement) → sites_of_all (S.hidden-the_row-Statement-0 all) ≡ sites_of_body all
all-hidden all = all-row (S.hidden-the_row-Statement-0 all) ∙ ap sites_of_body (items_hidden-the_row-Statement-0 all)

alternatives-hidden : (all : List Alternative) → sites_of_alternatives (S.hidden-the_row-Alternative-2 all) ≡ sites_of_list all
unfolding sites_in S.hidden-the_row-Alternative-2 hidden
alternatives-hidden [] = refl
alternatives-hidden (a ∷ rest) =
    ap (λ xs. (sites_of_choice a.choice ++ xs) ++ sites_of_alternatives (S.hidden-the_row-Alternative-2 rest)) (all-hidden a.entries)
    ∙ ap (λ xs. (sites_of_choice a.choice ++ sites_of_body a.entries) ++ xs) (alternatives-hidden rest)

pub sites-Block : (all : List Statement) → sites_in (Block all) ≡ sites_of_body all
unfolding sites_in
sites-Block all = all-hidden all

pub sites-If : (c : Expression) (a : Statement) → sites_in (If c a) ≡ sites_in a
unfolding sites_in S.shape-the_row-Statement-1 S.hidden-the_row-Statement-1 hidden
sites-If c a = refl

pub sites-IfElse : (c : Expression) (a b : Statement) → sites_in (IfElse c a b) ≡ sites_in a ++ sites_in b
unfolding sites_in S.shape-the_row-Statement-1 S.hidden-the_row-Statement-1 hidden
sites-IfElse c a b = refl

pub sites-While : (c : Expression) (a : Statement) → sites_in (While c a) ≡ sites_in a
unfolding sites_in S.shape-the_row-Statement-1 S.hidden-the_row-Statement-1 hidden
sites-While c a = refl

pub sites-DoWhile : (a : Statement) (c : Expression) → sites_in (DoWhile a c) ≡ sites_in a
unfolding sites_in S.shape-the_row-Statement-1 S.hidden-the_row-Statement-1 hidden
sites-DoWhile a c = refl

pub sites-For : (first c next : Option Expression) (a : Statement) → sites_in (For first c next a) ≡ sites_in a
unfolding sites_in S.shape-the_row-Statement-1 S.hidden-the_row-Statement-1 hidden
sites-For first c next a = refl

pub sites-Accept : (part : AcceptPart) → sites_in (Accept part) ≡ part.site ∷ sites_of_body part.block
unfolding sites_in
sites-Accept part = ap (λ xs. part.site ∷ xs) (all-hidden part.block)

pub sites-Select : (all : List Alternative) → sites_in (Select all) ≡ sites_of_list all
unfolding sites_in
sites-Select all = alternatives-hidden all

pub sites-Empty : sites_in Empty ≡ []
unfolding sites_in
sites-Empty = refl

pub sites-Evaluate : (e : Expression) → sites_in (Evaluate e) ≡ []
unfolding sites_in
sites-Evaluate e = refl

pub sites-Declare : (x : ℕ) (t : DataType) → sites_in (Declare x t) ≡ []
unfolding sites_in
sites-Declare x t = refl

pub sites-Initialize : (x : ℕ) (t : DataType) (e : Expression) → sites_in (Initialize x t e) ≡ []
unfolding sites_in
sites-Initialize x t e = refl

pub sites-Break : sites_in Break ≡ []
unfolding sites_in
sites-Break = refl

pub sites-Continue : sites_in Continue ≡ []
unfolding sites_in
sites-Continue = refl

pub sites-Return : (e : Option Expression) (t : DataType) → sites_in (Return e t) ≡ []
unfolding sites_in
sites-Return e t = refl

pub sites-Finish : (e : Option Expression) → sites_in (Finish e) ≡ []
unfolding sites_in
sites-Finish e = refl

pub sites-TransactionReturn : (e : Option Expression) (t : DataType) → sites_in (TransactionReturn e t) ≡ []
unfolding sites_in
sites-TransactionReturn e t = refl

pub sites-Delay : (e : Expression) → sites_in (Delay e) ≡ []
unfolding sites_in
sites-Delay e = refl

pub choice-Accept : (part : AcceptPart) → sites_of_choice (AcceptChoice part) ≡ part.site ∷ sites_of_body part.block
unfolding sites_in
choice-Accept part = ap (λ xs. part.site ∷ xs) (all-hidden part.block)

pub choice-Delay : (e : Expression) → sites_of_choice (DelayChoice e) ≡ []
unfolding sites_in
choice-Delay e = refl

pub choice-Immediate : sites_of_choice Immediate ≡ []
unfolding sites_in
choice-Immediate = refl

pub choice-Terminate : sites_of_choice Terminate ≡ []
unfolding sites_in
choice-Terminate = refl

pub after-one : (xs ys : List ℕ) (x : ℕ) → (xs ++ x ∷ []) ++ ys ≡ xs ++ x ∷ ys
after-one xs ys x = append_assoc xs (x ∷ []) ys

pub ruleset noted_sites = (append_assoc, append-nil, sites-Block, sites-If, sites-IfElse, sites-While, sites-DoWhile, sites-For, sites-Accept, sites-Select, sites-Empty, sites-Evaluate, sites-Declare, sites-Initialize, sites-Break, sites-Continue, sites-Return, sites-Finish, sites-TransactionReturn, sites-Delay, choice-Accept, choice-Delay, choice-Immediate, choice-Terminate)

-- each number, from k on, stands once among what was seen and these
unfoldable pub once_with : ℕ → List Bool → List ℕ → Bool
once_with k [] xs = true
once_with k (b ∷ bs) xs = nat_eq (times k xs) (if b then 0 else 1) && once_with (suc k) bs xs

once-unseen : (k n : ℕ) (xs : List ℕ) → once_with k (replicate n false) xs ≡ are_once_from k n xs
unfolding once_with
once-unseen k zero xs = refl
once-unseen k (suc n) xs = ap (λ b. nat_eq (times k xs) 1 && b) (once-unseen (suc k) n xs)

pub nothing-seen : (n : ℕ) (xs : List ℕ) → once_with 0 (replicate n false) xs ≡ are_each_once n xs
nothing-seen n xs = once-unseen 0 n xs

once-ends : (k : ℕ) (bs : List Bool) → once_with k bs [] ≡ list_all (λ b. b) bs
unfolding once_with
once-ends k [] = refl
once-ends k (true ∷ bs) = once-ends (suc k) bs
once-ends k (false ∷ bs) = refl

pub all-seen : (bs : List Bool) → once_with 0 bs [] ≡ list_all (λ b. b) bs
all-seen bs = once-ends 0 bs

times-other : (k x : ℕ) (xs : List ℕ) → (k ≡ x → ⊥) → times k (x ∷ xs) ≡ times k xs
times-other k x xs ne = ap (λ b. (if b then 1 else 0) + times k xs) (ne_eqb k x ne) ∙ zero-plus (times k xs)
  where
    zero-plus : (n : ℕ) → 0 + n ≡ n
    zero-plus n = omega arith

times-same : (k : ℕ) (xs : List ℕ) → times k (k ∷ xs) ≡ suc (times k xs)
times-same k xs = ap (λ b. (if b then 1 else 0) + times k xs) (eq-eqb k k refl) ∙ one-plus (times k xs)
  where
    one-plus : (n : ℕ) → 1 + n ≡ suc n
    one-plus n = omega arith

one-left : (n : ℕ) → nat_eq (suc n) 1 ≡ nat_eq n 0
one-left zero = refl
one-left (suc n) = ne_eqb (suc (suc n)) 1 (λ e. omega (arith, e)) ∙ sym (eqb-suc-zero n)

-- a number before all of these changes nothing
once-before : (k x : ℕ) (bs : List Bool) (xs : List ℕ) → x < k → once_with k bs (x ∷ xs) ≡ once_with k bs xs
unfolding once_with
once-before k x [] xs lt = refl
once-before k x (b ∷ bs) xs lt =
    ap (λ n. nat_eq n (if b then 0 else 1) && once_with (suc k) bs (x ∷ xs)) (times-other k x xs (λ e. omega (arith, e, lt)))
    ∙ ap (λ c. nat_eq (times k xs) (if b then 0 else 1) && c) (once-before (suc k) x bs xs (omega (arith, lt)))

once-new : (k j x : ℕ) (bs : List Bool) (xs : List ℕ) (d : Bool) → k + j ≡ x → j < length bs → get_or bs j d ≡ false → once_with k bs (x ∷ xs) ≡ once_with k (set bs j true) xs
unfolding once_with
once-new k j x [] xs d e lt s = absurd (omega (arith, lt))
once-new k zero x (true ∷ bs) xs d e lt s = cc
once-new k zero x (false ∷ bs) xs d e lt s =
    let same : k ≡ x = omega (arith, e) in
    let below : x < suc k = omega (arith, e) in
    ap (λ n. nat_eq n 1 && once_with (suc k) bs (x ∷ xs)) (ap (λ y. times k (y ∷ xs)) (sym same) ∙ times-same k xs)
    ∙ ap (λ c. c && once_with (suc k) bs (x ∷ xs)) (one-left (times k xs))
    ∙ ap (λ c. nat_eq (times k xs) 0 && c) (once-before (suc k) x bs xs below)
once-new k (suc j) x (b ∷ bs) xs d e lt s =
    let next : suc k + j ≡ x = omega (arith, e) in
    ap (λ n. nat_eq n (if b then 0 else 1) && once_with (suc k) bs (x ∷ xs)) (times-other k x xs (λ f. omega (arith, e, f)))
    ∙ ap (λ c. nat_eq (times k xs) (if b then 0 else 1) && c) (once-new (suc k) j x bs xs d next (omega (arith, lt)) s)

once-again : (k j x : ℕ) (bs : List Bool) (xs : List ℕ) (d : Bool) → k + j ≡ x → j < length bs → get_or bs j d ≡ true → once_with k bs (x ∷ xs) ≡ false
unfolding once_with
once-again k j x [] xs d e lt s = absurd (omega (arith, lt))
once-again k zero x (false ∷ bs) xs d e lt s = cc
once-again k zero x (true ∷ bs) xs d e lt s =
    let same : k ≡ x = omega (arith, e) in
    ap (λ n. nat_eq n 0 && once_with (suc k) bs (x ∷ xs)) (ap (λ y. times k (y ∷ xs)) (sym same) ∙ times-same k xs)
    ∙ ap (λ c. c && once_with (suc k) bs (x ∷ xs)) (eqb-suc-zero (times k xs))
once-again k (suc j) x (b ∷ bs) xs d e lt s =
    let next : suc k + j ≡ x = omega (arith, e) in
    ap (λ c. nat_eq (times k (x ∷ xs)) (if b then 0 else 1) && c) (once-again (suc k) j x bs xs d next (omega (arith, lt)) s)
    ∙ and-false (nat_eq (times k (x ∷ xs)) (if b then 0 else 1))

once-beyond : (k x : ℕ) (bs : List Bool) (xs : List ℕ) → k + length bs ≤ x → once_with k bs (x ∷ xs) ≡ once_with k bs xs
unfolding once_with
once-beyond k x [] xs le = refl
once-beyond k x (b ∷ bs) xs le =
    let next : suc k + length bs ≤ x = omega (arith, le) in
    ap (λ n. nat_eq n (if b then 0 else 1) && once_with (suc k) bs (x ∷ xs)) (times-other k x xs (λ f. omega (arith, le, f)))
    ∙ ap (λ c. nat_eq (times k xs) (if b then 0 else 1) && c) (once-beyond (suc k) x bs xs next)

pub new-seen : (x : ℕ) (bs : List Bool) (xs : List ℕ) (d : Bool) → x < length bs → get_or bs x d ≡ false → once_with 0 bs (x ∷ xs) ≡ once_with 0 (set bs x true) xs
new-seen x bs xs d lt s = once-new 0 x x bs xs d (omega arith) lt s

pub seen-again : (x : ℕ) (bs : List Bool) (xs : List ℕ) (d : Bool) → x < length bs → get_or bs x d ≡ true → once_with 0 bs (x ∷ xs) ≡ false
seen-again x bs xs d lt s = once-again 0 x x bs xs d (omega arith) lt s

pub seen-beyond : (x : ℕ) (bs : List Bool) (xs : List ℕ) → length bs ≤ x → once_with 0 bs (x ∷ xs) ≡ once_with 0 bs xs
seen-beyond x bs xs le = once-beyond 0 x bs xs (omega (arith, le))

pub one-more-unseen : (n : ℕ) → replicate n false ++ false ∷ [] ≡ replicate (n + 1) false
one-more-unseen zero = refl
one-more-unseen (suc n) =
    let e : suc (n + 1) ≡ suc n + 1 = omega arith in
    ap (λ bs. false ∷ bs) (one-more-unseen n) ∙ ap (λ m. replicate m false) e

pub ruleset unseen = (one-more-unseen)

-- the same of the numbers of a list from its k-th on
pub new-seen-at : (ns : List ℕ) (k e : ℕ) (bs : List Bool) (d : Bool) → k < length ns → get_or ns k e < length bs → get_or bs (get_or ns k e) d ≡ false
    → once_with 0 bs (drop k ns) ≡ once_with 0 (set bs (get_or ns k e) true) (drop (k + 1) ns)
new-seen-at ns k e bs d lt within s = ap (once_with 0 bs) (drop-at ns k e lt) ∙ new-seen (get_or ns k e) bs (drop (k + 1) ns) d within s

pub seen-again-at : (ns : List ℕ) (k e : ℕ) (bs : List Bool) (d : Bool) → k < length ns → get_or ns k e < length bs → get_or bs (get_or ns k e) d ≡ true → once_with 0 bs (drop k ns) ≡ false
seen-again-at ns k e bs d lt within s = ap (once_with 0 bs) (drop-at ns k e lt) ∙ seen-again (get_or ns k e) bs (drop (k + 1) ns) d within s

pub seen-beyond-at : (ns : List ℕ) (k e : ℕ) (bs : List Bool) → k < length ns → length bs ≤ get_or ns k e → once_with 0 bs (drop k ns) ≡ once_with 0 bs (drop (k + 1) ns)
seen-beyond-at ns k e bs lt beyond = ap (once_with 0 bs) (drop-at ns k e lt) ∙ seen-beyond (get_or ns k e) bs (drop (k + 1) ns) beyond

pub seen-end : (ns : List ℕ) (k : ℕ) (bs : List Bool) → k ≡ length ns → once_with 0 bs (drop k ns) ≡ list_all (λ b. b) bs
seen-end ns k bs e = ap (once_with 0 bs) (drop_all k ns (omega (arith, e))) ∙ all-seen bs

pub ruleset once = (nothing-seen, new-seen-at, seen-again-at, seen-beyond-at, seen-end)
