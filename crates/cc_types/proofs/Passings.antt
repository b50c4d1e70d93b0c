-- How the checker goes from one item to the next.
use Rattle.std.proofs.Common.{◌≡◌, ℕ, suc, ◌+◌, ◌<◌, Bool, true, false, ◌||◌, List, [], ◌∷◌, ◌++◌, length, take, get_or, Option, Some, None, Result, refl, ap, sym, subst, ◌∙◌, arith}
use Rattle.std.proofs.lemmas.Bool.{eqb-true}
use Rattle.std.specs.Prelude.{if◌then◌else◌, nat_eq}
use Rattle.cc_typed.specs.declared.tree.Transaction.{Transaction as TypedTransaction}
use Rattle.cc_typed.specs.declared.types.DataType.{DataType}
use Rattle.cc_typed.specs.declared.types.Structure.{Structure}
use Rattle.cc_declared.specs.Lists.{and_once}
use Rattle.cc_faults.proofs.Judged.{after-nil, faults-map, loop-after, loop-noted_after, noted-both}
use Rattle.cc_faults.specs.Declarations.{Before, after_constants, after_enumeration, after_function, after_structure, and_constant, and_name, before_constants, constant_meaning, constant_value, constants, int_type, items_scope, named_enumeration, next_structure, parameters, signature, structure, with_enumeration_name, with_structure, with_structure_name}
use Rattle.cc_faults.specs.Faults.{noted}
use Rattle.cc_faults.specs.Judged.{Judged, Good, after_each, both, each_after, faults, found, map, outcome, second}
use Rattle.cc_faults.specs.Programs.{Passed, Piece, after_body as scope_after_body, and_item, and_transaction, body, body_made, body_role, body_types, few_for_main, fresh_enumeration, function, function_made, has_body, in_body, in_function, item_in, kind_of_body, names_in, names_once, no_piece, role_of, specification, specification_made, transaction, with_sites}
use Rattle.cc_faults.specs.Rows.{fresh, with_body as there_is_body}
use Rattle.cc_faults.specs.Scopes.{Scope, Text, entry_at, is_among, is_here, is_there, meaning_at, outermost, with_name}
use Rattle.cc_faults.specs.Statements.{after_in}
use Rattle.cc_faults.specs.declared.fault.FaultAt.{FaultAt}
use Rattle.cc_faults.specs.declared.plain.Constant.{Constant}
use Rattle.cc_faults.specs.declared.plain.Field.{Field}
use Rattle.cc_faults.specs.declared.plain.Identifier.{Identifier}
use Rattle.cc_faults.specs.declared.plain.Item.{Item}
use Rattle.cc_faults.specs.declared.plain.Item.TheVariants as item
use Rattle.cc_faults.specs.declared.plain.Parameter.{Parameter}
use Rattle.cc_faults.specs.declared.plain.Statement.{Statement}
use Rattle.cc_faults.specs.declared.plain.Transaction.{Transaction}
use Rattle.cc_faults.specs.declared.plain.TypeName.{TypeName}
use Rattle.cc_faults.specs.declared.scope.Meaning.{Meaning}
use Rattle.cc_faults.specs.declared.scope.Named.{Named}
use Rattle.cc_types.proofs.Judging.{after_in-is, judged_in-is}
use Rattle.cc_types.proofs.Makings.{good-map, loop-makes, specification-makes, start-makes, start-noted}
use Rattle.cc_types.specs.Making.{Makes, with_piece}
use Rattle.cc_types.specs.Passing.{AreAlike, Goes, HasPassed, IsFound, Progress, and_made, block_judged, body_judged, function_judged, specification_judged, transaction_judged, transactions_judged}
use Rattle.cc_types.specs.declared.made.Made.{Made}
use Rattle.cc_types.specs.declared.specifications.Specified.{Specified}

-- ---- names that were seen

among-end : (xs : List ℕ) (x y : ℕ) → is_among (xs ++ x ∷ []) y ≡ (nat_eq x y || is_among xs y)
among-end [] x y = refl
among-end (z ∷ xs) x y = ap (λ b. nat_eq z y || b) (among-end xs x y) ∙ swap (nat_eq z y) (nat_eq x y) (is_among xs y)
  where
    swap : (a b c : Bool) → (a || (b || c)) ≡ (b || (a || c))
    swap true true c = refl
    swap true false c = refl
    swap false b c = refl

among-once : (xs : List ℕ) (x y : ℕ) → is_among (and_once xs x) y ≡ (nat_eq x y || is_among xs y)
unfolding and_once
among-once xs x y = by (is_among xs x) refl (nat_eq x y) refl
  where
    by : (b : Bool) → is_among xs x ≡ b → (c : Bool) → nat_eq x y ≡ c → is_among (if is_among xs x then xs else xs ++ x ∷ []) y ≡ (nat_eq x y || is_among xs y)
    by true e true f =
        ap (λ b. is_among (if b then xs else xs ++ x ∷ []) y) e ∙ ap (is_among xs) (sym (eqb-true x y f)) ∙ e ∙ sym (ap (λ c. c || is_among xs y) f)
    by true e false f = ap (λ b. is_among (if b then xs else xs ++ x ∷ []) y) e ∙ sym (ap (λ c. c || is_among xs y) f)
    by false e c f = ap (λ b. is_among (if b then xs else xs ++ x ∷ []) y) e ∙ among-end xs x y

pub alike-more : (xs ys zs : List ℕ) (x : Identifier) → AreAlike xs ys → zs ≡ and_once xs x.name → AreAlike zs (and_name ys x)
alike-more xs ys zs x h e = λ y. ap (λ us. is_among us y) e ∙ among-once xs x.name y ∙ ap (λ b. nat_eq x.name y || b) (h y)

-- ---- transactions

-- what is noted of a name, and of what it names
pub noted-named : {A B C : Type 0} (f : B → C) (j : Judged A) (k : Judged B) (m n o : Option FaultAt) → n ≡ noted m (faults j) → o ≡ noted n (faults k) → o ≡ noted m (faults (map f (map second (both j k))))
noted-named f j k m n o h i =
    i ∙ ap (λ z. noted z (faults k)) h ∙ sym (ap (noted m) (faults-map f (map second (both j k)) ∙ faults-map second (both j k)) ∙ noted-both m j k)

module _ (k : ℕ) (s : Scope) (all : List Transaction) (i : ℕ) (d : Transaction) (names after : List ℕ) where
  -- a transaction more
  abbrev SoFar : List ℕ
  SoFar = after_each and_transaction [] (take i all)

  taken-same : AreAlike names SoFar → transaction_judged k s (is_among names d.name.name) d ≡ transaction k s SoFar d
  taken-same h = ap (λ b. transaction_judged k s b d) (h d.name.name)

  pub names-more : i < length all → d ≡ get_or all i d → AreAlike names SoFar → after ≡ and_once names d.name.name → AreAlike after (after_each and_transaction [] (take (i + 1) all))
  names-more lt is h e = λ y.
      alike-more names SoFar after d.name h e y ∙ ap (λ us. is_among us y) (sym (loop-after and_transaction [] SoFar all i d lt is refl))

  pub transactions-more : (m so_far more : Made) → i < length all → d ≡ get_or all i d → AreAlike names SoFar
      → ((ds : List TypedTransaction) → each_after (transaction k s) and_transaction [] (take i all) ≡ Good ds → so_far ≡ after_each and_made m ds)
      → ((v : TypedTransaction) → transaction_judged k s (is_among names d.name.name) d ≡ Good v → more ≡ and_made so_far v)
      → (ds : List TypedTransaction) → each_after (transaction k s) and_transaction [] (take (i + 1) all) ≡ Good ds → more ≡ after_each and_made m ds
  transactions-more m so_far more lt is h before one =
      loop-makes (transaction k s) and_transaction and_made m [] SoFar all i d so_far more lt is refl before (λ v e. one v (taken-same h ∙ e))

  pub transactions-noted : (start m more : Option FaultAt) → i < length all → d ≡ get_or all i d → AreAlike names SoFar
      → m ≡ noted start (faults (each_after (transaction k s) and_transaction [] (take i all)))
      → more ≡ noted m (faults (transaction_judged k s (is_among names d.name.name) d))
      → more ≡ noted start (faults (each_after (transaction k s) and_transaction [] (take (i + 1) all)))
  transactions-noted start m more lt is h before one =
      loop-noted_after (transaction k s) and_transaction [] SoFar all i d start m more lt is refl before (one ∙ ap (λ j. noted m (faults j)) (taken-same h))

-- a process type: its name, its body, its parameters and its transactions, one after the other
pub specification-notes : (v : Specified) (s : Scope) (ts : List TypeName) (ds : List Transaction) (m n o q r : Option FaultAt)
    → n ≡ noted m (faults (fresh v.taken v.name)) → o ≡ noted n (faults (there_is_body v.there v.name)) → q ≡ noted o (faults (parameters s v.name ts)) → r ≡ noted q (faults (transactions_judged v.number s ds))
    → r ≡ noted m (faults (specification_judged v s ts ds))
unfolding specification_judged
specification-notes v s ts ds m n o q r h i j k =
    let names = both (fresh v.taken v.name) (there_is_body v.there v.name) in
    let heads = both names (parameters s v.name ts) in
    k ∙ ap (λ z. noted z (faults (transactions_judged v.number s ds)))
    (j
    ∙ ap (λ z. noted z (faults (parameters s v.name ts))) (i ∙ ap (λ z. noted z (faults (there_is_body v.there v.name))) h ∙ sym (noted-both m (fresh v.taken v.name) (there_is_body v.there v.name)))
    ∙ sym (noted-both m names (parameters s v.name ts)))
    ∙ sym (ap (noted m) (faults-map specification_made (both heads (transactions_judged v.number s ds))) ∙ noted-both m heads (transactions_judged v.number s ds))

pub specification-adds : (v : Specified) (s : Scope) (ts : List TypeName) (ds : List Transaction) (a b : Made)
    → ((us : List TypedTransaction) → transactions_judged v.number s ds ≡ Good us → b ≡ record a { transactions = a.transactions ++ us })
    → Makes a (specification_judged v s ts ds) b
unfolding specification_judged
specification-adds v s ts ds a b go =
    specification-makes a b (both (both (fresh v.taken v.name) (there_is_body v.there v.name)) (parameters s v.name ts)) (transactions_judged v.number s ds) go

-- ---- what stands before an item

module _ (all : List Item) (b : Passed) (w : Progress) (h : HasPassed all b w) where
  pub specification-is : (v : Specified) (x : Identifier) (ts : List TypeName) (ds : List Transaction) (taken there : Bool) (number : ℕ)
      → v ≡ record { number = number; name = x; taken = taken; there = there } → taken ≡ is_among w.specifications x.name → there ≡ is_among w.all_bodies x.name → number ≡ w.kinds + 1
      → specification_judged v w.scope ts ds ≡ specification all b x ts ds
  unfolding specification_judged
  specification-is v x ts ds taken there number e f g i =
      let suc-kinds : number ≡ suc b.kinds = let same = h.kinds in omega (arith, i, same) in
      ap (λ z. specification_judged z w.scope ts ds) e
      ∙ ap (λ z. specification_judged (record { number = number; name = x; taken = z; there = there }) w.scope ts ds) (f ∙ h.specifications x.name)
      ∙ ap (λ z. specification_judged (record { number = number; name = x; taken = is_among b.specifications x.name; there = z }) w.scope ts ds) (g ∙ h.all_bodies x.name)
      ∙ ap (λ z. specification_judged (record { number = z; name = x; taken = is_among b.specifications x.name; there = has_body x.name all }) w.scope ts ds) suc-kinds
      ∙ ap (λ z. specification_judged (record { number = suc b.kinds; name = x; taken = is_among b.specifications x.name; there = has_body x.name all }) z ts ds) h.scope

  module _ (t : Text) where
    pub body-is : (x : Identifier) (xs : List Identifier) (block : List Statement) (taken : Bool) → taken ≡ is_among w.bodies x.name → body_judged t taken w.scope x xs block ≡ body t b x xs block
    unfolding body_judged
    body-is x xs block taken e =
        let inside = in_body b.scope (body_types t b.scope x (length xs)) xs in
        let place = outermost (body_role t b.scope x) in
        ap (λ z. body_judged t z w.scope x xs block) (e ∙ h.bodies x.name) ∙ ap (λ z. body_judged t (is_among b.bodies x.name) z x xs block) h.scope
        ∙ ap (λ z. map (body_made (length xs) z.variables) (both (both (fresh (is_among b.bodies x.name) x) (both (both (kind_of_body t b.scope x) (body_types t b.scope x (length xs))) (names_once xs))) (block_judged t (body_role t b.scope x) inside block))) (sym (after_in-is t place inside block))
        ∙ ap (λ z. map (body_made (length xs) (after_in t place inside block).variables) (both (both (fresh (is_among b.bodies x.name) x) (both (both (kind_of_body t b.scope x) (body_types t b.scope x (length xs))) (names_once xs))) z)) (sym (judged_in-is t place inside block))

    pub function-is : (of : TypeName) (x : Identifier) (ps : List Parameter) (block : List Statement) → function_judged t w.scope of x ps block ≡ function t b.scope of x ps block
    unfolding function_judged
    function-is of x ps block =
        let inside = in_function b.scope ps in
        let place = outermost (role_of b.scope of x ps) in
        ap (λ z. function_judged t z of x ps block) h.scope
        ∙ ap (λ z. map (function_made (length ps) x z.variables) (both (both (fresh (is_here items_scope (meaning_at b.scope x)) x) (both (signature b.scope x of ps) (both (few_for_main x (length ps)) (names_once (names_in ps))))) (block_judged t (role_of b.scope of x ps) inside block))) (sym (after_in-is t place inside block))
        ∙ ap (λ z. map (function_made (length ps) x (after_in t place inside block).variables) (both (both (fresh (is_here items_scope (meaning_at b.scope x)) x) (both (signature b.scope x of ps) (both (few_for_main x (length ps)) (names_once (names_in ps))))) z)) (sym (judged_in-is t place inside block))

-- an item that is found as another judgement says it
found-as : (j k : Judged Piece) (m n : Option FaultAt) (a c : Made) → j ≡ k → n ≡ noted m (faults k) → Makes a k c → IsFound m a j n c
found-as j k m n a c e h go = (h ∙ ap (λ z. noted m (faults z)) (sym e), λ v good. go v (sym e ∙ good))

-- an item that adds nothing
found-nothing : {A : Type 0} (j : Judged A) (m n : Option FaultAt) (a c : Made) → n ≡ noted m (faults j) → c ≡ a → IsFound m a (map no_piece j) n c
unfolding with_piece
found-nothing j m n a c h same = (
  h ∙ sym (ap (noted m) (faults-map no_piece j)),
  λ v good. let u = good-map no_piece j v good in same ∙ ap (with_piece a) u.2,
)

-- ---- declarations add no variables

structure-outside : (s : Scope) (b : Bool) (x : Identifier) (fs : List Field) (n : Result ℕ FaultAt) (o : Option Structure) → (if b then s else with_structure (with_structure_name s x n) fs o).variables ≡ s.variables
structure-outside s true x fs n o = refl
structure-outside s false x fs n None = refl
structure-outside s false x fs n (Some c) = refl

constant-outside : (s : Scope) (b : Bool) (x : Identifier) (m : Meaning) → (if b then s else with_name items_scope s x m).variables ≡ s.variables
constant-outside s true x m = refl
constant-outside s false x m = refl

constants-outside : (b : Before) (cs : List Constant) → (after_each and_constant b cs).0.variables ≡ b.0.variables
unfolding after_each
constants-outside b [] = refl
constants-outside b (c ∷ cs) =
    constants-outside (and_constant b c) cs
    ∙ constant-outside b.0 (is_here items_scope (meaning_at b.0 c.name)) c.name (constant_meaning (outcome (constant_value b.0 b.1 c)))

enumeration-outside : (x : Option Identifier) (o : Result DataType FaultAt) (s : Scope) → (named_enumeration x o s).variables ≡ s.variables
enumeration-outside None o s = refl
enumeration-outside (Some x) o s = by (is_there (entry_at s.enumerations_named x))
  where
    by : (b : Bool) → (if b then s else with_enumeration_name s x o).variables ≡ s.variables
    by true = refl
    by false = refl

function-outside : (s : Scope) (x : Identifier) (o : Option Named) → (after_function s x o).variables ≡ s.variables
function-outside s x None = refl
function-outside s x (Some n) = by (nat_eq n.scope items_scope)
  where
    by : (b : Bool) → (if b then s else with_name items_scope s x n.meaning).variables ≡ s.variables
    by true = refl
    by false = refl

-- ---- what stands behind an item

-- the same names of specifications and of bodies, and as many kinds
abbrev pub Keeps : Progress → Progress → Type 0
Keeps w v = (v.all_bodies ≡ w.all_bodies) × (v.specifications ≡ w.specifications) × (v.bodies ≡ w.bodies) × (v.kinds ≡ w.kinds)

still-alike : (xs ys zs : List ℕ) → ys ≡ xs → AreAlike xs zs → AreAlike ys zs
still-alike xs ys zs e h = λ y. ap (λ us. is_among us y) e ∙ h y

module _ (all : List Item) (t : Text) (b : Passed) (w v : Progress) (h : HasPassed all b w) where
  pub passed-structure : (x : Identifier) (fs : List Field) → v.scope ≡ after_structure w.scope x fs → Keeps w v → HasPassed all (and_item t b (item.Structure x fs)) v
  passed-structure x fs here k =
      record {
        scope = here ∙ ap (λ s. after_structure s x fs) h.scope;
        outside = ap (λ (s : Scope). s.variables) here ∙ structure-outside w.scope (is_there (entry_at w.scope.structures_named x)) x fs (outcome (map (next_structure w.scope) (structure w.scope x fs))) (found (structure w.scope x fs)) ∙ h.outside;
        all_bodies = λ y. ap (λ us. is_among us y) k.0 ∙ h.all_bodies y;
        specifications = still-alike w.specifications v.specifications b.specifications k.1 h.specifications;
        bodies = still-alike w.bodies v.bodies b.bodies k.2 h.bodies;
        kinds = let kinds = k.3 in let same = h.kinds in omega (arith, kinds, same);
      }

  pub passed-enumeration : (x : Option Identifier) (cs : List Constant) → v.scope ≡ after_enumeration w.scope x cs → Keeps w v → HasPassed all (and_item t b (item.Enumeration x cs)) v
  passed-enumeration x cs here k =
      record {
        scope = here ∙ ap (λ s. after_enumeration s x cs) h.scope;
        outside = ap (λ (s : Scope). s.variables) here ∙ enumeration-outside x (outcome (map int_type (constants w.scope cs))) (after_constants w.scope cs) ∙ constants-outside (before_constants w.scope) cs ∙ h.outside;
        all_bodies = λ y. ap (λ us. is_among us y) k.0 ∙ h.all_bodies y;
        specifications = still-alike w.specifications v.specifications b.specifications k.1 h.specifications;
        bodies = still-alike w.bodies v.bodies b.bodies k.2 h.bodies;
        kinds = let kinds = k.3 in let same = h.kinds in omega (arith, kinds, same);
      }

  pub passed-function : (of : TypeName) (x : Identifier) (ps : List Parameter) (block : List Statement) → v.scope ≡ after_function w.scope x (meaning_at w.scope x) → Keeps w v → HasPassed all (and_item t b (item.Function of x ps block)) v
  passed-function of x ps block here k =
      record {
        scope = here ∙ ap (λ s. after_function s x (meaning_at s x)) h.scope;
        outside = ap (λ (s : Scope). s.variables) here ∙ function-outside w.scope x (meaning_at w.scope x) ∙ h.outside;
        all_bodies = λ y. ap (λ us. is_among us y) k.0 ∙ h.all_bodies y;
        specifications = still-alike w.specifications v.specifications b.specifications k.1 h.specifications;
        bodies = still-alike w.bodies v.bodies b.bodies k.2 h.bodies;
        kinds = let kinds = k.3 in let same = h.kinds in omega (arith, kinds, same);
      }

  pub passed-specification : (x : Identifier) (ts : List TypeName) (ds : List Transaction) → v.scope ≡ w.scope → v.all_bodies ≡ w.all_bodies → v.specifications ≡ and_once w.specifications x.name → v.bodies ≡ w.bodies → v.kinds ≡ w.kinds + 1
      → HasPassed all (and_item t b (item.Specification x ts ds)) v
  passed-specification x ts ds here others names bodies kinds =
      record {
        scope = here ∙ h.scope;
        outside = ap (λ (s : Scope). s.variables) here ∙ h.outside;
        all_bodies = λ y. ap (λ us. is_among us y) others ∙ h.all_bodies y;
        specifications = alike-more w.specifications b.specifications v.specifications x h.specifications names;
        bodies = still-alike w.bodies v.bodies b.bodies bodies h.bodies;
        kinds = let same = h.kinds in omega (arith, kinds, same);
      }

  pub passed-body : (x : Identifier) (xs : List Identifier) (block : List Statement) → v.scope ≡ with_sites w.scope (scope_after_body t w.scope x xs block) → v.all_bodies ≡ w.all_bodies → v.specifications ≡ w.specifications
      → v.bodies ≡ and_once w.bodies x.name → v.kinds ≡ w.kinds → HasPassed all (and_item t b (item.Body x xs block)) v
  passed-body x xs block here others specifications names kinds =
      record {
        scope = here ∙ ap (λ s. with_sites s (scope_after_body t s x xs block)) h.scope;
        outside = ap (λ (s : Scope). s.variables) here ∙ h.outside;
        all_bodies = λ y. ap (λ us. is_among us y) others ∙ h.all_bodies y;
        specifications = still-alike w.specifications v.specifications b.specifications specifications h.specifications;
        bodies = alike-more w.bodies b.bodies v.bodies x h.bodies names;
        kinds = let same = h.kinds in omega (arith, kinds, same);
      }

-- ---- each kind of item

module _ (w v : Progress) (m n : Option FaultAt) where
  pub goes-structure : (x : Identifier) (fs : List Field) → n ≡ noted m (faults (both (fresh (is_there (entry_at w.scope.structures_named x)) x) (structure w.scope x fs))) → v.scope ≡ after_structure w.scope x fs → Keeps w v → v.made ≡ w.made
      → Goes w m (item.Structure x fs) v n
  goes-structure x fs h here k made = λ all b passed. (
    found-nothing (both (fresh (is_there (entry_at b.scope.structures_named x)) x) (structure b.scope x fs)) m n w.made v.made
        (h ∙ ap (λ s. noted m (faults (both (fresh (is_there (entry_at s.structures_named x)) x) (structure s x fs)))) passed.scope) made,
    passed-structure all w.text b w v passed x fs here k,
  )

  pub goes-enumeration : (x : Option Identifier) (cs : List Constant) → n ≡ noted m (faults (both (fresh_enumeration w.scope x) (constants w.scope cs))) → v.scope ≡ after_enumeration w.scope x cs → Keeps w v → v.made ≡ w.made
      → Goes w m (item.Enumeration x cs) v n
  goes-enumeration x cs h here k made = λ all b passed. (
    found-nothing (both (fresh_enumeration b.scope x) (constants b.scope cs)) m n w.made v.made
        (h ∙ ap (λ s. noted m (faults (both (fresh_enumeration s x) (constants s cs)))) passed.scope) made,
    passed-enumeration all w.text b w v passed x cs here k,
  )

  pub goes-function : (of : TypeName) (x : Identifier) (ps : List Parameter) (block : List Statement) → n ≡ noted m (faults (function_judged w.text w.scope of x ps block)) → Makes w.made (function_judged w.text w.scope of x ps block) v.made
      → v.scope ≡ after_function w.scope x (meaning_at w.scope x) → Keeps w v → Goes w m (item.Function of x ps block) v n
  goes-function of x ps block h made here k = λ all b passed. (
    found-as (function w.text b.scope of x ps block) (function_judged w.text w.scope of x ps block) m n w.made v.made (sym (function-is all b w passed w.text of x ps block)) h made,
    passed-function all w.text b w v passed of x ps block here k,
  )

  pub goes-body : (x : Identifier) (xs : List Identifier) (block : List Statement) (taken : Bool) → taken ≡ is_among w.bodies x.name → n ≡ noted m (faults (body_judged w.text taken w.scope x xs block)) → Makes w.made (body_judged w.text taken w.scope x xs block) v.made
      → v.scope ≡ with_sites w.scope (scope_after_body w.text w.scope x xs block) → v.all_bodies ≡ w.all_bodies → v.specifications ≡ w.specifications → v.bodies ≡ and_once w.bodies x.name → v.kinds ≡ w.kinds
      → Goes w m (item.Body x xs block) v n
  goes-body x xs block taken e h made here others specifications names kinds = λ all b passed. (
    found-as (body w.text b x xs block) (body_judged w.text taken w.scope x xs block) m n w.made v.made (sym (body-is all b w passed w.text x xs block taken e)) h made,
    passed-body all w.text b w v passed x xs block here others specifications names kinds,
  )

  pub goes-specification : (x : Identifier) (ts : List TypeName) (ds : List Transaction) (u : Specified) (taken there : Bool) (number : ℕ)
      → u ≡ record { number = number; name = x; taken = taken; there = there } → taken ≡ is_among w.specifications x.name → there ≡ is_among w.all_bodies x.name → number ≡ w.kinds + 1
      → n ≡ noted m (faults (specification_judged u w.scope ts ds)) → Makes w.made (specification_judged u w.scope ts ds) v.made
      → v.scope ≡ w.scope → v.all_bodies ≡ w.all_bodies → v.specifications ≡ and_once w.specifications x.name → v.bodies ≡ w.bodies → v.kinds ≡ number
      → Goes w m (item.Specification x ts ds) v n
  goes-specification x ts ds u taken there number e f g i h made here others names bodies kinds = λ all b passed. (
    found-as (specification all b x ts ds) (specification_judged u w.scope ts ds) m n w.made v.made (sym (specification-is all b w passed u x ts ds taken there number e f g i)) h made,
    passed-specification all w.text b w v passed x ts ds here others names bodies (kinds ∙ i),
  )

-- ---- items, one after the other

module _ (all : List Item) (t : Text) (m : Option FaultAt) (a : Made) where
  -- what is found of the items up to here
  abbrev pub FoundSoFar : Passed → List Item → Option FaultAt → Made → Type 0
  FoundSoFar b items n c =
      (n ≡ noted m (faults (each_after (item_in t all) (and_item t) b items)))
      × ((vs : List Piece) → each_after (item_in t all) (and_item t) b items ≡ Good vs → c ≡ after_each with_piece a vs)

  pub found-start : (b : Passed) → FoundSoFar b [] m a
  found-start b = (start-noted (item_in t all) (and_item t) b m, start-makes (item_in t all) (and_item t) b with_piece a)

  pub found-more : (b : Passed) (i : ℕ) (x : Item) (n o : Option FaultAt) (c d : Made) → i < length all → x ≡ get_or all i x → FoundSoFar b (take i all) n c
      → IsFound n c (item_in t all (after_each (and_item t) b (take i all)) x) o d
      → FoundSoFar b (take (i + 1) all) o d
  found-more b i x n o c d lt is before one = (
    loop-noted_after (item_in t all) (and_item t) b (after_each (and_item t) b (take i all)) all i x m n o lt is refl before.0 one.0,
    loop-makes (item_in t all) (and_item t) with_piece a b (after_each (and_item t) b (take i all)) all i x c d lt is refl before.1 one.1,
  )

  pub passed-more : (b : Passed) (i : ℕ) (x : Item) (v : Progress) → i < length all → x ≡ get_or all i x → HasPassed all (and_item t (after_each (and_item t) b (take i all)) x) v → HasPassed all (after_each (and_item t) b (take (i + 1) all)) v
  passed-more b i x v lt is h =
      subst (λ z. HasPassed all z v) (sym (loop-after (and_item t) b (after_each (and_item t) b (take i all)) all i x lt is refl)) h

  pub passed-start : (b : Passed) (w : Progress) → HasPassed all b w → HasPassed all (after_each (and_item t) b []) w
  passed-start b w h = subst (λ z. HasPassed all z w) (sym (after-nil (and_item t) b)) h
