-- What code adds of items is what the definition finds, where it finds no fault.
use Rattle.std.proofs.Common.{◌≡◌, ℕ, ◌+◌, ◌<◌, Bool, true, false, List, [], ◌∷◌, ◌++◌, length, take, get_or, Option, Some, None, Result, refl, ap, sym, ◌∙◌, append-nil, append_assoc}
use Rattle.std.proofs.lemmas.List.{take_more}
use Rattle.std.specs.Prelude.{if◌then◌else◌}
use Rattle.cc_typed.specs.declared.tree.Statement.{Statement as TypedStatement}
use Rattle.cc_typed.specs.declared.tree.Transaction.{Transaction as TypedTransaction}
use Rattle.cc_typed.specs.declared.types.DataType.{DataType}
use Rattle.cc_faults.specs.Declarations.{is_async}
use Rattle.cc_faults.specs.Faults.{noted}
use Rattle.cc_faults.specs.Judged.{Judged, Good, Bad, after_each, answer, both, each_after, faults, in_front, map, outcome, second}
use Rattle.cc_faults.proofs.Judged.{after-more, answer-Good}
use Rattle.cc_faults.specs.Programs.{OneFunction, OneKind, body_made, function_made, specification_made, transaction_made}
use Rattle.cc_faults.specs.Rows.{with_specification}
use Rattle.cc_faults.specs.declared.answer.Answer.TheVariants as an
use Rattle.cc_faults.specs.declared.fault.FaultAt.{FaultAt}
use Rattle.cc_faults.specs.declared.plain.Identifier.{Identifier}
use Rattle.cc_faults.specs.declared.plain.Transaction.{Transaction}
use Rattle.cc_faults.specs.declared.scope.Signature.{Signature}
use Rattle.cc_types.specs.Making.{Makes, with_block, with_body, with_function, with_kind_block, with_piece, with_transaction}
use Rattle.cc_types.specs.Passing.{and_made, is_main}
use Rattle.cc_types.specs.declared.made.Block.{Block}
use Rattle.cc_types.specs.declared.made.Made.{Made}

-- ---- what is good is made of what is good

some-good : {A : Type 0} {v w : A} → Good v ≡ Good w → v ≡ w
some-good e = cc

pub good-map : {A B : Type 0} (f : A → B) (j : Judged A) (v : B) → map f j ≡ Good v → (u : A) × (j ≡ Good u) × (f u ≡ v)
unfolding map
good-map f (Good u) v e = (u, refl, cc)
good-map f (Bad own g gs) v e = absurd (cc)

pub good-both : {A B : Type 0} (j : Judged A) (k : Judged B) (v : A × B) → both j k ≡ Good v → (j ≡ Good v.0) × (k ≡ Good v.1)
unfolding both
good-both (Good u) (Good w) v e = let same : (u, w) ≡ v = cc in (ap (λ z. Good z.0) same, ap (λ z. Good z.1) same)
good-both (Good u) (Bad own g gs) v e = absurd (cc)
good-both (Bad own f fs) (Good w) v e = absurd (cc)
good-both (Bad own f fs) (Bad also g gs) v e = absurd (cc)

-- ---- functions

block-piece : (m : Made) (n : ℕ) (t : DataType) (ts : List DataType) (xs : List TypedStatement) (b : Bool)
    → with_block m b n t ts (an.Good xs) ≡ with_piece m (if b then OneKind 0 (record { parameters = n; variables = ts; result = t; body = xs }) else OneFunction (record { parameters = n; variables = ts; result = t; body = xs }))
unfolding with_piece
block-piece m n t ts xs true = refl
block-piece m n t ts xs false = refl

module _ (m : Made) (n : ℕ) (x : Identifier) (b : Block) (ts : List DataType) (xs : Judged (List TypedStatement)) where
  pub function-makes : (head : Result Signature FaultAt) (j : Judged (Unit {0})) (k : Judged Signature) (l : Judged (Unit {0} × List (Unit {0})))
      → outcome k ≡ head → b.body ≡ answer xs → b.variables ≡ ts
      → Makes m (map (function_made n x ts) (both (both j (both k l)) xs)) (with_function m (is_main x) n head b)
  function-makes head j k l h e f = λ v good.
      let u = good-map (function_made n x ts) (both (both j (both k l)) xs) v good in
      let outer = good-both (both j (both k l)) xs u.0 u.1 in
      let inner = good-both k l u.0.0.1 (good-both j (both k l) u.0.0 outer.0).1 in
      ap (λ r. with_function m (is_main x) n r b) (sym h ∙ ap outcome inner.0)
      ∙ ap (λ ys. with_block m (is_main x) n u.0.0.1.0.result ys b.body) f
      ∙ ap (with_block m (is_main x) n u.0.0.1.0.result ts) (e ∙ ap answer outer.1 ∙ answer-Good u.0.1)
      ∙ block-piece m n u.0.0.1.0.result ts u.0.1 (is_main x)
      ∙ ap (with_piece m) u.2

  pub body-makes : (number : Option ℕ) (j : Judged (Unit {0})) (l : Judged (List DataType)) (names : Judged (List (Unit {0})))
      → b.body ≡ answer xs → b.variables ≡ ts
      → Makes m (map (body_made n ts) (both (both j (both (both (with_specification x number) l) names)) xs)) (with_body m number n b)
  unfolding with_piece
  body-makes number j l names e f = λ v good.
      let head = both (both (with_specification x number) l) names in
      let u = good-map (body_made n ts) (both (both j head) xs) v good in
      let outer = good-both (both j head) xs u.0 u.1 in
      let inner = good-both (both (with_specification x number) l) names u.0.0.1 (good-both j head u.0.0 outer.0).1 in
      let known = good-both (with_specification x number) l u.0.0.1.0 inner.0 in
      ap (λ o. with_body m o n b) (there number u.0.0.1.0.0 known.0)
      ∙ ap (λ ys. with_kind_block m u.0.0.1.0.0 n ys b.body) f
      ∙ ap (with_kind_block m u.0.0.1.0.0 n ts) (e ∙ ap answer outer.1 ∙ answer-Good u.0.1)
      ∙ ap (with_piece m) u.2
    where
      there : (o : Option ℕ) (k : ℕ) → with_specification x o ≡ Good k → o ≡ Some k
      there None k e = absurd (cc)
      there (Some j) k e = cc

-- ---- specifications

pub transaction-makes : (m : Made) (k : ℕ) (d : Transaction) (head : Result Signature FaultAt) (j : Judged (Unit {0})) (l : Judged Signature) → outcome l ≡ head
    → (v : TypedTransaction) → map (transaction_made k d) (map second (both j l)) ≡ Good v → with_transaction m k (is_async d.result) head ≡ and_made m v
transaction-makes m k d head j l h v good =
    let u = good-map (transaction_made k d) (map second (both j l)) v good in
    let w = good-map second (both j l) u.0 u.1 in
    let inner = good-both j l w.0 w.1 in
    ap (with_transaction m k (is_async d.result)) (sym h ∙ ap outcome inner.1) ∙ ap (λ g. and_made m (transaction_made k d g)) w.2 ∙ ap (and_made m) u.2

pub specification-makes : (a b : Made) (j : Judged ((Unit {0} × Unit {0}) × List DataType)) (k : Judged (List TypedTransaction))
    → ((ds : List TypedTransaction) → k ≡ Good ds → b ≡ record a { transactions = a.transactions ++ ds }) → Makes a (map specification_made (both j k)) b
unfolding with_piece
specification-makes a b j k go = λ v good.
    let u = good-map specification_made (both j k) v good in
    go u.0.1 (good-both j k u.0 u.1).1 ∙ ap (with_piece a) u.2

-- ---- lists, one by one

module _ {S A B : Type 0} (f : S → A → Judged B) (step : S → A → S) where
  good-more : (s : S) (xs : List A) (x : A) (vs : List B) → each_after f step s (xs ++ x ∷ []) ≡ Good vs
      → (ws : List B) × (v : B) × (each_after f step s xs ≡ Good ws) × (f (after_each step s xs) x ≡ Good v) × (ws ++ v ∷ [] ≡ vs)
  unfolding each_after after_each map both
  good-more s [] x vs e =
      let u = good-map in_front (both (f s x) (Good [])) vs e in
      let parts = good-both (f s x) (Good []) u.0 u.1 in
      let nil : [] ≡ u.0.1 = cc in
      ([], u.0.0, refl, parts.0, ap (λ zs. u.0.0 ∷ zs) nil ∙ u.2)
  good-more s (y ∷ ys) x vs e =
      let u = good-map in_front (both (f s y) (each_after f step (step s y) (ys ++ x ∷ []))) vs e in
      let parts = good-both (f s y) (each_after f step (step s y) (ys ++ x ∷ [])) u.0 u.1 in
      let rest = good-more (step s y) ys x u.0.1 parts.1 in
      (u.0.0 ∷ rest.0, rest.1, front (f s y) (each_after f step (step s y) ys) u.0.0 rest.0 parts.0 rest.2, rest.3, ap (λ zs. u.0.0 ∷ zs) rest.4 ∙ u.2)
    where
      front : (j : Judged B) (k : Judged (List B)) (u : B) (us : List B) → j ≡ Good u → k ≡ Good us → map in_front (both j k) ≡ Good (u ∷ us)
      front j k u us h i = ap (λ z. map in_front (both z k)) h ∙ ap (λ z. map in_front (both (Good u) z)) i

  -- a loop that adds what each gives, where all are good
  module _ {M : Type 0} (put : M → B → M) (m : M) (s now : S) (xs : List A) (k : ℕ) (x : A) (so_far more : M) where
    pub loop-makes : k < length xs → x ≡ get_or xs k x → after_each step s (take k xs) ≡ now
        → ((vs : List B) → each_after f step s (take k xs) ≡ Good vs → so_far ≡ after_each put m vs)
        → ((v : B) → f now x ≡ Good v → more ≡ put so_far v)
        → (vs : List B) → each_after f step s (take (k + 1) xs) ≡ Good vs → more ≡ after_each put m vs
    loop-makes lt is a before one = λ vs e.
        let parts = good-more s (take k xs) (get_or xs k x) vs (sym (ap (each_after f step s) (take_more xs k x lt)) ∙ e) in
        let here : f now x ≡ Good parts.1 = ap (f now) is ∙ ap (λ t. f t (get_or xs k x)) (sym a) ∙ parts.3 in
        one parts.1 here ∙ ap (λ z. put z parts.1) (before parts.0 parts.2)
        ∙ sym (after-more put m parts.0 parts.1) ∙ ap (after_each put m) parts.4

-- where such a loop begins
module _ {S A B : Type 0} (f : S → A → Judged B) (step : S → A → S) (s : S) where
  pub start-makes : {M : Type 0} (put : M → B → M) (m : M) (vs : List B) → each_after f step s [] ≡ Good vs → m ≡ after_each put m vs
  unfolding each_after after_each
  start-makes put m vs e = ap (after_each put m) (some-good e)

  pub start-noted : (m : Option FaultAt) → m ≡ noted m (faults (each_after f step s []))
  unfolding each_after faults noted
  start-noted m = refl

pub transactions-made : (m : Made) (ds : List TypedTransaction) → after_each and_made m ds ≡ record m { transactions = m.transactions ++ ds }
unfolding after_each
transactions-made m [] = ap (λ ys. record m { transactions = ys }) (sym (append-nil m.transactions))
transactions-made m (d ∷ ds) =
    transactions-made (and_made m d) ds ∙ ap (λ ys. record m { transactions = ys }) (append_assoc m.transactions (d ∷ []) ds)
