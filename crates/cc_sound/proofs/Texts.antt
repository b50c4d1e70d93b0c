-- A text without a fault means a typed program.
use Rattle.std.proofs.Common.{◌≡◌, ℕ, zero, suc, ◌+◌, ◌≤◌, ◌<◌, Bool, true, false, ◌||◌, List, [], ◌∷◌, length, take, Some, None, Ok, refl, ap, sym, subst, ◌∙◌, length-append, arith}
use Rattle.std.proofs.lemmas.Bool.{and_from, eq-eqb, eqb-true, le-leb, ltb-true}
use Rattle.std.proofs.lemmas.Option.{slice_get_within}
use Rattle.std.specs.Prelude.{if◌then◌else◌, nat_eq, nat_lt, slice_get}
use Rattle.cc_typed.proofs.Tables.{left, right}
use Rattle.cc_typed.specs.Accepts.{are_each_once, sites_of_kinds}
use Rattle.cc_typed.specs.KnownTypes.{are_parameters, is_process_type}
use Rattle.cc_typed.specs.Parts.{Parts}
use Rattle.cc_typed.specs.Typed.{are_few, are_typed_kinds, are_typed_structures, has_few_parts, is_typed_but_for_sites, is_typed_program, is_typed_transaction, kind_parameters, most_things}
use Rattle.cc_typed.specs.Typed as typed
use Rattle.cc_typed.specs.declared.tree.Function.{Function}
use Rattle.cc_typed.specs.declared.tree.Kind.{Kind}
use Rattle.cc_typed.specs.declared.types.DataType.{DataType}
use Rattle.cc_faults.proofs.Holds.{Holds, holds-both, holds-map, holds-weaker}
use Rattle.cc_faults.specs.Declarations.{at_start, function_heads, functions_in, main_head, text_of}
use Rattle.cc_faults.specs.Judged.{Judged, Good, Bad, answer, both, faults, map}
use Rattle.cc_faults.specs.Programs.{FunctionParts, Passed, Piece, OneFunction, OneKind, and_item, and_transaction, assembled, before_items, function_made, functions_among, kind_among, kinds_among, passed_all, pieces_of, pieces_with, program, transaction, transactions_among}
use Rattle.cc_faults.specs.Rows.{main_there, transaction_named, transactions_of}
use Rattle.cc_faults.specs.Scopes.{Text, entry_at}
use Rattle.cc_faults.specs.declared.plain.Identifier.{Identifier}
use Rattle.cc_faults.specs.declared.plain.Item.{Item}
use Rattle.cc_faults.specs.declared.plain.Item.TheVariants as item
use Rattle.cc_faults.specs.declared.plain.Plain.{Plain}
use Rattle.cc_faults.specs.declared.scope.KindHead.{KindHead}
use Rattle.cc_faults.specs.declared.scope.TransactionHead.{TransactionHead}
use Rattle.cc_sound.proofs.Entered.{AreCounted, AreKinds, kind-at, kinds-found}
use Rattle.cc_sound.proofs.Functions.{IsHeadOf, head-at, heads-found, ok-equal, some-equal}
use Rattle.cc_sound.proofs.Goods.{AreEach, each-length, good-walk, walk-length}
use Rattle.cc_sound.proofs.Growth.{front-same}
use Rattle.cc_sound.proofs.Heads.{some-there}
use Rattle.cc_sound.proofs.Items.{ArePieces, function_variables, pieces-found}
use Rattle.cc_sound.proofs.Levels.{Level}
use Rattle.cc_sound.proofs.Moves.{item-moves, items-move}
use Rattle.cc_sound.proofs.Once.{AreApart, each-once}
use Rattle.cc_sound.proofs.Specified.{IsCounted, body-named, body-there, counted-at, has_kind, kinds-count, kinds-get, kinds-length, no-kind, some-same, spec-body, spec-once}
use Rattle.cc_sound.proofs.Starts.{functions_of, heads-count, kinds-passed, level-start, process-named, specified_in, specified_names}
use Rattle.cc_sound.proofs.Statements.{holds-itself}
use Rattle.cc_sound.proofs.Structures.{tabled-items}
use Rattle.cc_sound.proofs.Transactions.{GoesTo, IsTransactionOf, kinds-typed, transactions-known, transactions-typed}
use Rattle.cc_sound.proofs.Types.{holds-all}
use Rattle.cc_sound.proofs.Wholes.{ArePlaced, IsAt, IsSoundText, items-sound, sound-at}
use Rattle.cc_sound.specs.Fits.{TextFits}
use Rattle.cc_sound.specs.Formed.{is_formed_text}
use Rattle.cc_sound.specs.Sizes.{things_of, things_of_item, things_of_items}
use Rattle.cc_sound.specs.Typing.{MeansTyped, counted}

-- ---- how many things there are

one-function : (b : Bool) (n : ℕ) → (if b then 0 else 1) ≤ suc n
one-function true n = omega arith
one-function false n = omega arith

function-few : (i : Item) → functions_in i ≤ things_of_item i
function-few (item.Structure x fields) = omega arith
function-few (item.Enumeration x cs) = omega arith
function-few (item.Specification x ts ds) = omega arith
function-few (item.Body x names block) = omega arith
function-few (item.Function result x ps block) = one-function (nat_eq x.name 0) _

functions-few : (items : List Item) → functions_of items ≤ things_of_items items
functions-few [] = omega arith
functions-few (i ∷ rest) = let a = function-few i in let b = functions-few rest in omega (arith, a, b)

name-few : (i : Item) → length (specified_in i) ≤ things_of_item i
name-few (item.Structure x fields) = omega arith
name-few (item.Enumeration x cs) = omega arith
name-few (item.Specification x ts ds) = omega arith
name-few (item.Body x names block) = omega arith
name-few (item.Function result x ps block) = omega arith

names-few : (items : List Item) → length (specified_names items) ≤ things_of_items items
names-few [] = omega arith
names-few (i ∷ rest) =
    let a = name-few i in
    let b = names-few rest in let c = length-append (specified_in i) (specified_names rest) in omega (arith, a, b, c)

made-lines : (n : ℕ) (x : Identifier) (us : List DataType) (v : FunctionParts) (ys : List Piece) → transactions_among (function_made n x us v ∷ ys) ≡ transactions_among ys
made-lines n x us v ys = cases (nat_eq x.name 0)
  where
    cases : (b : Bool) → transactions_among ((if b then OneKind 0 (record { parameters = n; variables = us; result = v.0.1.0.result; body = v.1 }) else OneFunction (record { parameters = n; variables = us; result = v.0.1.0.result; body = v.1 })) ∷ ys) ≡ transactions_among ys
    cases true = refl
    cases false = refl

lines-few : (t : Text) (all : List Item) (b : Passed) (items : List Item) (ys : List Piece) → ArePieces t all b items ys → length (transactions_among ys) ≤ things_of_items items
lines-few t all b [] [] w = omega arith
lines-few t all b [] (z ∷ ys) w = absurd w
lines-few t all b (i ∷ rest) [] w = absurd w
lines-few t all b (item.Structure x fields ∷ rest) (z ∷ ys) w =
    let a = lines-few t all (and_item t b (item.Structure x fields)) rest ys w.1 in
    let e = ap (λ q. length (transactions_among (q ∷ ys))) w.0 in omega (arith, a, e)
lines-few t all b (item.Enumeration x cs ∷ rest) (z ∷ ys) w =
    let a = lines-few t all (and_item t b (item.Enumeration x cs)) rest ys w.1 in
    let e = ap (λ q. length (transactions_among (q ∷ ys))) w.0 in omega (arith, a, e)
lines-few t all b (item.Specification x ts ds ∷ rest) (z ∷ ys) w =
    let a = lines-few t all (and_item t b (item.Specification x ts ds)) rest ys w.1 in
    let e = ap (λ q. length (transactions_among (q ∷ ys))) w.0.1 in
    let c = length-append w.0.0.1 (transactions_among ys) in
    let d = walk-length (λ r d v. transaction (suc b.kinds) b.scope r d ≡ Good v) and_transaction [] ds w.0.0.1 (good-walk (transaction (suc b.kinds) b.scope) and_transaction [] ds w.0.0.1 w.0.2.lines) in omega (arith, a, e, c, d)
lines-few t all b (item.Body x names block ∷ rest) (z ∷ ys) w =
    let a = lines-few t all (and_item t b (item.Body x names block)) rest ys w.1 in
    let e = ap (λ q. length (transactions_among (q ∷ ys))) w.0.1 in omega (arith, a, e)
lines-few t all b (item.Function result x ps block ∷ rest) (z ∷ ys) w =
    let a = lines-few t all (and_item t b (item.Function result x ps block)) rest ys w.1 in
    let e = ap (λ q. length (transactions_among (q ∷ ys))) w.0.1 in
    let c = ap length (made-lines (length ps) x (function_variables t b result x ps block).variables w.0.0 ys) in omega (arith, a, e, c)

-- ---- the whole

module _ (tree : Plain) (pieces : List Piece) (good : pieces_of tree ≡ Good pieces) (form : is_formed_text tree ≡ true) where
  abbrev parts : Parts
  parts = assembled tree pieces

  abbrev text : Text
  text = text_of tree

  abbrev start : Passed
  start = before_items tree

  walked : ArePieces text tree.items start tree.items pieces
  walked = pieces-found text tree.items start tree.items pieces good

  many : length parts.kinds ≡ suc (length (specified_names tree.items))
  many =
      let a = kinds-length (suc (passed_all tree).kinds) 0 pieces in
      let b = kinds-passed text start tree.items in omega (arith, a, b)

  level : Level text parts (at_start tree)
  level = level-start tree parts many

  goes : GoesTo text parts tree.items start tree.items
  goes = front-same parts.structures

  -- ---- heads

  main-counted : IsCounted main_head
  main-counted us e = let same : [] ≡ us = ok-equal refl e in sym (ap length same)

  counted-heads : AreCounted text parts
  counted-heads zero h e = subst IsCounted (some-same e) main-counted
  counted-heads (suc k) h e = counted-at (at_start tree) 0 tree.items k h e

  whole-heads : (k : ℕ) (h : KindHead) (us : List DataType) → slice_get text.kinds k ≡ Some h → h.parameters ≡ Ok us → are_parameters parts us ≡ true
  whole-heads zero h us e f =
      let same : [] ≡ us = ok-equal refl (ap (λ (g : KindHead). g.parameters) (some-same e) ∙ f) in
      subst (λ l. are_parameters parts l ≡ true) same refl
  whole-heads (suc k) h us e f =
      kinds-typed text parts tree.items 0 start tree.items pieces level goes walked k h us e f

  heads : AreEach (IsHeadOf text parts) (function_heads (at_start tree) tree.items) (functions_among pieces)
  heads = heads-found text parts tree.items start tree.items pieces level walked

  kinds : AreKinds text parts pieces
  kinds = kinds-found text parts counted-heads refl tree.items start tree.items pieces level walked

  kind-placed : (k : ℕ) → k < length parts.kinds → slice_get parts.kinds k ≡ Some (kind_among k pieces)
  kind-placed k lt =
      let a = kinds-length (suc (passed_all tree).kinds) 0 pieces in
      let plain : 0 + k ≡ k = omega arith in
      kinds-get (suc (passed_all tree).kinds) 0 k pieces (omega (arith, lt, a)) ∙ ap (λ m. Some (kind_among m pieces)) plain

  each-kind : length text.kinds ≡ length parts.kinds
  each-kind = let a = kinds-count (at_start tree) 0 tree.items in let b = many in omega (arith, a, b)

  kind-known : (k : ℕ) (h : KindHead) (us : List DataType) → slice_get text.kinds k ≡ Some h → h.parameters ≡ Ok us → has_kind k pieces ≡ true → kind_parameters (slice_get parts.kinds k) ≡ us
  kind-known k h us e f there =
      let lt = slice_get_within text.kinds k h e in
      let same = each-kind in
      ap kind_parameters (kind-placed k (omega (arith, lt, same))) ∙ kind-at text parts k pieces kinds there h us e f

  -- a specification has a body among the pieces
  body-of : (j : ℕ) (h : KindHead) → slice_get text.kinds (suc j) ≡ Some h → has_kind (suc j) pieces ≡ true
  body-of j h e =
      let spec = spec-body text tree.items (at_start tree) 0 start tree.items pieces walked j h e in
      let there = body-there text tree.items (at_start tree).processes_named spec.0 start tree.items pieces refl walked spec.2 in
      let named = process-named tree there.1 there.0 there.3 in
      let same = spec-once text tree.items start tree.items pieces walked named.0 j spec.0 (named.2 ∙ ap (λ n. Some n) there.2) spec.1 in
      let at = named.1 in
      subst (λ m. has_kind m pieces ≡ true) (omega (arith, same, at)) there.4

  kinds-fit : (k : ℕ) (h : KindHead) (us : List DataType) → slice_get text.kinds k ≡ Some h → h.parameters ≡ Ok us → kind_parameters (slice_get parts.kinds k) ≡ us
  kinds-fit zero h us e f = cases (has_kind 0 pieces) refl
    where
      cases : (b : Bool) → has_kind 0 pieces ≡ b → kind_parameters (slice_get parts.kinds 0) ≡ us
      cases true i = kind-known 0 h us e f i
      cases false i =
          let same : [] ≡ us = ok-equal refl (ap (λ (g : KindHead). g.parameters) (some-same e) ∙ f) in
          let some = many in
          ap kind_parameters (kind-placed 0 (omega (arith, some))) ∙ ap (λ (c : Kind). take c.parameters c.variables) (no-kind 0 pieces i) ∙ same
  kinds-fit (suc j) h us e f = kind-known (suc j) h us e f (body-of j h e)

  transactions-fit : (k x : ℕ) (h : TransactionHead) → transaction_named (transactions_of (slice_get text.kinds k)) x ≡ Some h → IsTransactionOf parts parts.transactions k h
  transactions-fit zero x h e = absurd (none-some e)
    where
      none-some : None ≡ Some h → ⊥
      none-some f = cc
  transactions-fit (suc j) x h e =
      transactions-known text parts tree.items 0 [] refl start tree.items pieces level goes walked j (suc j) x h (omega arith) e

  fits : TextFits text parts
  fits =
      record {
        functions = λ f g e. head-at text parts text.functions parts.functions heads f g e;
        kinds = kinds-fit;
        each_kind = each-kind;
        transactions = λ k x h g e f. (transactions-fit k x h e g f).0;
        asynchronous = λ k x h g e f. (transactions-fit k x h e g f).1;
        parameters = λ k x h g e f. (transactions-fit k x h e g f).2;
        formats = refl;
      }

  -- ---- items

  alone : (x y : Identifier) (k : ℕ) → entry_at (at_start tree).processes_named x ≡ Some k → entry_at (at_start tree).processes_named y ≡ Some k → y.name ≡ x.name
  alone x y k e f =
      let a = process-named tree x k e in
      let b = process-named tree y k f in
      let i = a.1 in
      let j = b.1 in
      let same : b.0 ≡ a.0 = omega (arith, i, j) in
      some-equal b.2 (ap (slice_get (specified_names tree.items)) same ∙ a.2)

  some-kind : 0 < length parts.kinds
  some-kind = let e = many in omega (arith, e)

  kind-below : (k : ℕ) → is_process_type parts k ≡ true → k < length parts.kinds
  kind-below k e = ltb-true k (length parts.kinds) (right (nat_lt 0 k) (nat_lt k (length parts.kinds)) e)

  head : (k : ℕ) → is_process_type parts k ≡ true → (h : KindHead) × (slice_get text.kinds k ≡ Some h)
  head k e =
      let lt = kind-below k e in let same = each-kind in some-there text.kinds k (omega (arith, lt, same))

  one-below : (b : Bool) (c : Kind) (f : Function) (k : ℕ) (ys : List Piece) → (has_kind k ys ≡ true → k < length parts.kinds) → has_kind k ((if b then OneKind 0 c else OneFunction f) ∷ ys) ≡ true → k < length parts.kinds
  one-below false c f k ys go e = go e
  one-below true c f k ys go e = cases (nat_eq 0 k) refl e
    where
      cases : (d : Bool) → nat_eq 0 k ≡ d → (d || has_kind k ys) ≡ true → k < length parts.kinds
      cases true g h = let same = eqb-true 0 k g in let some = some-kind in omega (arith, same, some)
      cases false g h = go h

  kinds-below : (b : Passed) (items : List Item) (ys : List Piece) → b.scope.processes_named ≡ (at_start tree).processes_named → ArePieces text tree.items b items ys → (k : ℕ) → has_kind k ys ≡ true → k < length parts.kinds
  kinds-below b [] [] same w k e = absurd (false-true e)
    where
      false-true : false ≡ true → ⊥
      false-true f = cc
  kinds-below b [] (z ∷ ys) same w k e = absurd w
  kinds-below b (i ∷ rest) [] same w k e = absurd w
  kinds-below b (item.Structure x fields ∷ rest) (z ∷ ys) same w k e =
      kinds-below (and_item text b (item.Structure x fields)) rest ys ((item-moves text b.scope (item.Structure x fields)).processes ∙ same) w.1 k (ap (λ q. has_kind k (q ∷ ys)) (sym w.0) ∙ e)
  kinds-below b (item.Enumeration x cs ∷ rest) (z ∷ ys) same w k e =
      kinds-below (and_item text b (item.Enumeration x cs)) rest ys ((item-moves text b.scope (item.Enumeration x cs)).processes ∙ same) w.1 k (ap (λ q. has_kind k (q ∷ ys)) (sym w.0) ∙ e)
  kinds-below b (item.Specification x ts ds ∷ rest) (z ∷ ys) same w k e =
      kinds-below (and_item text b (item.Specification x ts ds)) rest ys same w.1 k (ap (λ q. has_kind k (q ∷ ys)) (sym w.0.1) ∙ e)
  kinds-below b (item.Function result x ps block ∷ rest) (z ∷ ys) same w k e =
      one-below (nat_eq x.name 0) _ _ k ys (kinds-below (and_item text b (item.Function result x ps block)) rest ys ((item-moves text b.scope (item.Function result x ps block)).processes ∙ same) w.1 k) (ap (λ q. has_kind k (q ∷ ys)) (sym w.0.1) ∙ e)
  kinds-below b (item.Body x xs block ∷ rest) (z ∷ ys) same w k e =
      cases (nat_eq w.0.0.0.1.0.0 k) refl (ap (λ q. has_kind k (q ∷ ys)) (sym w.0.1) ∙ e) (kinds-below (and_item text b (item.Body x xs block)) rest ys same w.1 k)
    where
      cases : (d : Bool) → nat_eq w.0.0.0.1.0.0 k ≡ d → (d || has_kind k ys) ≡ true → (has_kind k ys ≡ true → k < length parts.kinds) → k < length parts.kinds
      cases false g h go = go h
      cases true g h go =
          let equal = eqb-true w.0.0.0.1.0.0 k g in
          let named = body-named text tree.items (at_start tree).processes_named b x xs block w.0.0 same w.0.2 in
          let lt = kind-below w.0.0.0.1.0.0 (level.processes_named x w.0.0.0.1.0.0 named) in omega (arith, equal, lt)

  placed : ArePlaced text parts tree.items fits counted-heads whole-heads (at_start tree).processes_named alone some-kind head pieces
  placed k e above = kind-placed k (kinds-below start tree.items pieces refl walked k e)

  few-things : things_of tree < most_things
  few-things = ltb-true (things_of tree) most_things (left _ _ form)

  few-items : suc (things_of_items tree.items) ≤ most_things
  few-items = let lt = few-things in omega (arith, lt)

  at : IsAt text parts tree.items fits counted-heads whole-heads (at_start tree).processes_named alone some-kind head start tree.items
  at =
      record {
        level = level;
        structures = goes;
        sites = front-same parts.sites;
        processes = refl;
        form = right _ _ form;
        few = let lt = few-items in omega (arith, lt);
      }

  sound : IsSoundText parts [] parts.sites pieces
  sound =
      items-sound text parts tree.items fits counted-heads whole-heads (at_start tree).processes_named alone some-kind head start tree.items pieces walked at placed

  -- ---- all of it

  kinds-typed-from : (n k : ℕ) → are_typed_kinds parts k (kinds_among k n pieces) ≡ true
  kinds-typed-from zero k = refl
  kinds-typed-from (suc n) k = and_from _ _ (sound-at parts k pieces sound.kinds).0 (kinds-typed-from n (suc k))

  few : {A : Type 0} (xs : List A) → length xs ≤ most_things → are_few xs ≡ true
  few xs le = le-leb (length xs) most_things le

  few-parts : has_few_parts parts ≡ true
  few-parts =
      let most = few-items in
      let moves = items-move text start tree.items in
      let structures = moves.few_structures in
      let sites = moves.few_sites in
      let names = names-few tree.items in
      let kinds = many in
      let heads_many = each-length (IsHeadOf text parts) (function_heads (at_start tree) tree.items) (functions_among pieces) heads in
      let heads_here = heads-count (at_start tree) tree.items in
      let functions = functions-few tree.items in
      let lines = lines-few text tree.items start tree.items pieces walked in
      let things = few-things in
      and_from _ _
      (and_from _ _
      (and_from _ _
      (and_from _ _
      (and_from _ _ (few parts.structures (omega (arith, structures, most))) (few parts.kinds (omega (arith, kinds, names, most))))
      (few parts.functions (omega (arith, heads_many, heads_here, functions, most))))
      (few parts.transactions (omega (arith, lines, most))))
      (few parts.sites (omega (arith, sites, most))))
      (few parts.formats (omega (arith, things)))

  main-there : typed.has_main parts.kinds ≡ true
  main-there = eq-eqb (kind_among 0 pieces).parameters 0 ((sound-at parts 0 pieces sound.kinds).1 refl).0

  structures-typed : are_typed_structures parts ≡ true
  structures-typed =
      let tabled = tabled-items text parts (length tree.formats) start tree.items (right _ _ form) level goes (refl, refl) in
      and_from _ _ tabled.0 tabled.1

  typed-but : is_typed_but_for_sites parts ≡ true
  typed-but =
      let below = many in
      and_from _ _
      (and_from _ _
      (and_from _ _ (and_from _ _ (and_from _ _ main-there few-parts) structures-typed) (kinds-typed-from (suc (passed_all tree).kinds) 0))
      sound.functions)
      (transactions-typed text parts tree.items start tree.items pieces level goes walked (omega (arith, below)))

  once : are_each_once (length parts.sites) (sites_of_kinds parts.kinds) ≡ true
  once =
      let long = sound.numbers.2 in
      each-once (suc (passed_all tree).kinds) (length parts.sites) pieces
      (subst (λ n. AreApart n pieces) (kinds-length (suc (passed_all tree).kinds) 0 pieces) sound.apart)
      (sound.numbers.1 ∙ ap (counted 0) (omega (arith, long)))

  pub parts-typed : is_typed_program parts ≡ true
  parts-typed = and_from _ _ (and_from _ _ typed-but (sound.typed refl)) once

pub program-typed : (tree : Plain) → is_formed_text tree ≡ true → Holds (λ p. is_typed_program p ≡ true) (program tree)
unfolding program
program-typed tree form =
    holds-map (λ p. is_typed_program p ≡ true) (assembled tree) (map pieces_with (both (main_there tree.items) (pieces_of tree)))
    (holds-map (λ ys. is_typed_program (assembled tree ys) ≡ true) pieces_with (both (main_there tree.items) (pieces_of tree))
    (holds-weaker (λ v. Unit {0} × (pieces_of tree ≡ Good v.1)) _ (λ v h. parts-typed tree v.1 h.1 form) (both (main_there tree.items) (pieces_of tree))
    (holds-both (λ u. Unit {0}) (λ ys. pieces_of tree ≡ Good ys) (main_there tree.items) (pieces_of tree) (holds-all (λ u. Unit {0}) (main_there tree.items) (λ u. tt)) (holds-itself (pieces_of tree)))))

means-typed : (j : Judged Parts) → Holds (λ p. is_typed_program p ≡ true) j → MeansTyped j
unfolding answer faults
means-typed (Good p) h e = (p, refl, h)
means-typed (Bad own f fs) h e = absurd (cc)

pub program-means : (tree : Plain) → is_formed_text tree ≡ true → MeansTyped (program tree)
program-means tree form = means-typed (program tree) (program-typed tree form)
