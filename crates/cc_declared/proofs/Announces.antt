-- The loops that announce what is visible in a whole text, and over the items of a text.
use Rattle.std.proofs.Common.{◌≡◌, ℕ, ◌+◌, ◌<◌, ◌≤◌, List, [], ◌∷◌, ◌++◌, length, drop, get_or, Option, sym, ap, ◌∙◌, suc, arith, append_assoc, append-nil}
use Rattle.std.proofs.lemmas.List.{drop_all}
use Rattle.cc_typed.specs.Sequences.{drop-at}
use Rattle.cc_faults.specs.Declarations.{after_item, at_start, announced, announced_by, function_heads, functions_in, head_of, kind_heads, kind_of, kinds_in, main_head, specified, specified_by, text_of, transaction_heads, transactions_in}
use Rattle.cc_faults.specs.Judged.{after_each}
use Rattle.cc_faults.specs.Scopes.{Scope}
use Rattle.cc_faults.specs.declared.plain.Item.{Item}
use Rattle.cc_faults.specs.declared.plain.Plain.{Plain}
use Rattle.cc_faults.specs.declared.plain.Transaction.{Transaction}
use Rattle.cc_faults.specs.declared.scope.Named.{Named}
use Rattle.cc_faults.specs.declared.scope.TransactionHead.{TransactionHead}
use Rattle.cc_declared.specs.Announcing.{and_item, transaction_head}
use Rattle.cc_declared.specs.declared.heads_so_far.Heads.{Heads}

module _ (items : List Item) (k : ℕ) where
  pub announced-more : (n n1 : ℕ) (names names1 o : List (Option Named)) (i : Item) → k < length items → i ≡ get_or items k i → n1 ≡ n + functions_in i → names1 ≡ announced_by n names i
      → announced n names (drop k items) ≡ o → announced n1 names1 (drop (k + 1) items) ≡ o
  announced-more n n1 names names1 o i lt is e f invariant =
      (λ j. announced (e j) (f j) (drop (k + 1) items))
      ∙ ap (λ x. announced (n + functions_in x) (announced_by n names x) (drop (k + 1) items)) is
      ∙ sym (ap (announced n names) (drop-at items k i lt))
      ∙ invariant

  pub announced-end : (n : ℕ) (names o : List (Option Named)) → length items ≤ k → announced n names (drop k items) ≡ o → names ≡ o
  announced-end n names o le invariant = sym (ap (announced n names) (drop_all k items le)) ∙ invariant

  pub specified-more : (n n1 : ℕ) (names names1 o : List (Option ℕ)) (i : Item) → k < length items → i ≡ get_or items k i → n1 ≡ n + kinds_in i → names1 ≡ specified_by n names i
      → specified n names (drop k items) ≡ o → specified n1 names1 (drop (k + 1) items) ≡ o
  specified-more n n1 names names1 o i lt is e f invariant =
      (λ j. specified (e j) (f j) (drop (k + 1) items))
      ∙ ap (λ x. specified (n + kinds_in x) (specified_by n names x) (drop (k + 1) items)) is
      ∙ sym (ap (specified n names) (drop-at items k i lt))
      ∙ invariant

  pub specified-end : (n : ℕ) (names o : List (Option ℕ)) → length items ≤ k → specified n names (drop k items) ≡ o → names ≡ o
  specified-end n names o le invariant = sym (ap (specified n names) (drop_all k items le)) ∙ invariant

module _ (s : Scope) (ds : List Transaction) (k : ℕ) where
  pub heads-step : (n : ℕ) (d : Transaction) → k < length ds → transaction_heads s n (drop k ds) ≡ transaction_head s n (get_or ds k d) ∷ transaction_heads s (n + 1) (drop (k + 1) ds)
  heads-step n d lt =
      let e : suc n ≡ n + 1 = omega arith in
      ap (transaction_heads s n) (drop-at ds k d lt) ∙ ap (λ m. transaction_head s n (get_or ds k d) ∷ transaction_heads s m (drop (k + 1) ds)) e

  pub heads-end : (n : ℕ) → length ds ≤ k → transaction_heads s n (drop k ds) ≡ []
  heads-end n le = ap (transaction_heads s n) (drop_all k ds le)

  pub heads-more : (n n1 : ℕ) (d : Transaction) (have more o : List TransactionHead) (h : TransactionHead) → k < length ds → d ≡ get_or ds k d → h ≡ transaction_head s n d → more ≡ have ++ h ∷ [] → n1 ≡ n + 1
      → have ++ transaction_heads s n (drop k ds) ≡ o → more ++ transaction_heads s n1 (drop (k + 1) ds) ≡ o
  heads-more n n1 d have more o h lt is e i j invariant =
      let rest = drop (k + 1) ds in
      (λ t. i t ++ transaction_heads s (j t) rest)
      ∙ append_assoc have (h ∷ []) (transaction_heads s (n + 1) rest)
      ∙ ap (λ g. have ++ g ∷ transaction_heads s (n + 1) rest) (e ∙ ap (transaction_head s n) is)
      ∙ ap (λ hs. have ++ hs) (sym (heads-step n d lt))
      ∙ invariant

pub ruleset heads = (heads-step, heads-end)

-- what all the items of a text come to
pub all-functions : (w : Heads) (items : List Item) → (after_each and_item w items).functions ≡ w.functions ++ function_heads w.visible items
unfolding after_each
all-functions w [] = sym (append-nil w.functions)
all-functions w (i ∷ rest) = all-functions (and_item w i) rest ∙ append_assoc w.functions (head_of w.visible i) (function_heads (after_item w.visible i) rest)

pub all-kinds : (w : Heads) (items : List Item) → (after_each and_item w items).kinds ≡ w.kinds ++ kind_heads w.visible w.transactions items
unfolding after_each
all-kinds w [] = sym (append-nil w.kinds)
all-kinds w (i ∷ rest) =
    all-kinds (and_item w i) rest ∙ append_assoc w.kinds (kind_of w.visible w.transactions i) (kind_heads (after_item w.visible i) (w.transactions + transactions_in i) rest)

-- what is known of the whole text
pub text-known : (t : Plain) (v : Scope) (w now : Heads) (formats : List (List ℕ)) → v ≡ at_start t → w ≡ record { visible = v; transactions = 0; functions = []; kinds = main_head ∷ [] }
    → now ≡ after_each and_item w t.items → formats ≡ t.formats → record { functions = now.functions; kinds = now.kinds; formats = formats } ≡ text_of t
text-known t v w now formats start begin all e =
    let functions =
    ap (λ (h : Heads). h.functions) all
    ∙ all-functions w t.items
    ∙ ap (λ (h : Heads). h.functions ++ function_heads h.visible t.items) begin
    ∙ ap (λ u. function_heads u t.items) start in
    let kinds =
    ap (λ (h : Heads). h.kinds) all
    ∙ all-kinds w t.items
    ∙ ap (λ (h : Heads). h.kinds ++ kind_heads h.visible h.transactions t.items) begin
    ∙ ap (λ u. main_head ∷ kind_heads u 0 t.items) start in
    (λ i. record { functions = functions i; kinds = kinds i; formats = e i })
