-- What a table's row says of the front of a text.
use Rattle.std.proofs.Common.{◌≡◌, ◌≢◌, ◌⊎◌, ℕ, ◌+◌, ◌<◌, true, false, eqb, List, [], ◌∷◌, ◌++◌, length, get_or, take, drop, Option, Some, None, MatchOption, refl, sym, ◌∙◌, ap, inl, inr}
use Rattle.std.specs.Prelude.{codes}
use Rattle.std.specs.List.{AllByRecursion}
use Rattle.std.specs.Cmp.Lexicographic.{pointwise}
use Rattle.std.proofs.lemmas.Bool.{eqb-true, eq-eqb}
use Rattle.std.proofs.lemmas.Bool.Decides.{Decides-eqb}
use Rattle.std.proofs.lemmas.List.{at_drop_more}
use Rattle.std.proofs.lemmas.Option.{MatchOption-at_none, MatchOption-at_some, none-some, same_Some, some_pair_parts}
use Rattle.std.proofs.lemmas.Slice.Eq.{strip_prefix_is}
use denote.Ref.{Bor}
use Rattle.cc_rules.specs.declared.event.Word.{Word}
use Rattle.cc_rules.specs.declared.event.Word.TheVariants as word
use Rattle.cc_trace.specs.Reading.{Read, after_name, names, or_else, row_at, rows, words}
use Rattle.cc_trace.specs.Text.{word_name}
use Rattle.cc_trace.specs.declared.names.Name.{Name}
use Rattle.cc_trace.specs.declared.names.Name.TheVariants as name
use Rattle.cc_trace.proofs.Decimals.{chosen}

-- what follows a name is what the text has after it
pub after_name-sound : (name text rest : List ℕ) → after_name name text ≡ Some rest → text ≡ name ++ rest
after_name-sound [] text rest e = same_Some text rest e
after_name-sound (c ∷ name) [] rest e = absurd (none-some rest e)
after_name-sound (c ∷ name) (b ∷ text) rest e =
    elim (chosen (eqb c b) (after_name name text) None (Some rest) e) [
      | inl p ↦ rw (eqb-true c b p.0, after_name-sound name text rest p.1) refl
      | inr p ↦ absurd (none-some rest p.1)
    ]

pub after_name-complete : (name rest : List ℕ) → after_name name (name ++ rest) ≡ Some rest
after_name-complete [] rest = refl
after_name-complete (c ∷ name) rest = rw (eq-eqb c c refl) (after_name-complete name rest)

none_after : (name text : List ℕ) (found : Option (List ℕ)) → after_name name text ≡ found → ((rest : List ℕ) → text ≢ name ++ rest) → after_name name text ≡ None
none_after name text None e h = e
none_after name text (Some rest) e h = absurd (h rest (after_name-sound name text rest e))

-- a text that does not begin with the name has nothing after it
pub after_name-none : (name text : List ℕ) → ((rest : List ℕ) → text ≢ name ++ rest) → after_name name text ≡ None
after_name-none name text h = none_after name text (after_name name text) refl h

or_else-cases : {A : Type 0} (item : A) (found : Option (List ℕ)) (next : Read A) (rest : List ℕ) (x : A) → or_else item found next ≡ Some (x, rest)
    → ((found ≡ Some rest) × (item ≡ x)) ⊎ (next ≡ Some (x, rest))
or_else-cases item None next rest x e = inr e
or_else-cases item (Some r) next rest x e = let parts = some_pair_parts item x r rest e in inl (ap (λ r. Some r) parts.1, parts.0)

-- what a row is found for is spelled as its item is
pub row_at-sound : {A : Type 0} (spelling : A → List ℕ) (rows : List (List ℕ × A)) → AllByRecursion (λ row. row.0 ≡ spelling row.1) rows
    → (text rest : List ℕ) (x : A) → row_at rows text ≡ Some (x, rest) → text ≡ spelling x ++ rest
row_at-sound spelling [] all text rest x e = absurd (none-some (x, rest) e)
row_at-sound spelling (row ∷ rows) all text rest x e =
    elim (or_else-cases row.1 (after_name row.0 text) (row_at rows text) rest x e) [
      | inl p ↦ after_name-sound row.0 text rest p.0 ∙ ap (λ name. name ++ rest) (all.0 ∙ ap spelling p.1)
      | inr p ↦ row_at-sound spelling rows all.1 text rest x p
    ]

-- the name at the front of a line, with the byte after it
abbrev pub name_text : Name → List ℕ
name_text name.Ask = codes "ask "
name_text name.Accept = codes "accept "
name_text name.Instant = codes "instant "
name_text name.Expire = codes "expire "
name_text name.Withdraw = codes "withdraw "
name_text name.Time = codes "time "
name_text name.End = codes "end\n"

pub names-sound : (text rest : List ℕ) (x : Name) → row_at names text ≡ Some (x, rest) → text ≡ name_text x ++ rest
names-sound = row_at-sound name_text names (refl, (refl, (refl, (refl, (refl, (refl, (refl, tt)))))))

pub words-sound : (text rest : List ℕ) (x : Word) → row_at words text ≡ Some (x, rest) → text ≡ (word_name x ++ (10 ∷ [])) ++ rest
words-sound = row_at-sound (λ w. word_name w ++ (10 ∷ [])) words (refl, (refl, (refl, (refl, (refl, (refl, (refl, (refl, (refl, (refl, (refl, (refl, tt))))))))))))

pub words-complete : (w : Word) (rest : List ℕ) → row_at words (word_name w ++ (10 ∷ rest)) ≡ Some (w, rest)
words-complete word.Pause rest = refl
words-complete word.Create rest = refl
words-complete word.Call rest = refl
words-complete word.TimedCall rest = refl
words-complete word.Send rest = refl
words-complete word.Select rest = refl
words-complete word.Delay rest = refl
words-complete word.Reply rest = refl
words-complete word.Print rest = refl
words-complete word.Get rest = refl
words-complete word.Done rest = refl
words-complete word.Fault rest = refl

-- ---- how the code looks for a row

-- what the code's look for a name says
abbrev Strips : List ℕ → List ℕ → Option (Bor (List ℕ)) → Type 0
Strips text name found =
    MatchOption found (pointwise eqb (take (length name) text) name ≡ false)
    (λ x. (pointwise eqb (take (length name) text) name ≡ true) × (x.now ≡ drop (length name) text) × (length x.now + length name ≡ length text))

pub stripped : (text name : List ℕ) (found : Option (Bor (List ℕ))) (x : Bor (List ℕ)) → Strips text name found → found ≡ Some x → text ≡ name ++ x.now
stripped text name found x h e = MatchOption-at_some ((rest : List ℕ) → text ≢ name ++ rest) (λ x. text ≡ name ++ x.now) x e (strip_prefix_is Decides-eqb text name found h)

pub not_stripped : (text name : List ℕ) (found : Option (Bor (List ℕ))) → Strips text name found → found ≡ None → (rest : List ℕ) → text ≢ name ++ rest
not_stripped text name found h e = MatchOption-at_none ((rest : List ℕ) → text ≢ name ++ rest) (λ x. text ≡ name ++ x.now) e (strip_prefix_is Decides-eqb text name found h)

next_row : {A : Type 0} (table : List (Bor (List ℕ) × A)) (i : ℕ) (item : Bor (List ℕ) × A) (text : List ℕ) → i < length table → item ≡ get_or table i item
    → row_at (rows (drop i table)) text ≡ or_else item.1 (after_name item.0.now text) (row_at (rows (drop (i + 1) table)) text)
next_row table i item text h is =
    at_drop_more (λ t. row_at (rows t) text) table i item h ∙ ap (λ x. or_else x.1 (after_name x.0.now text) (row_at (rows (drop (i + 1) table)) text)) (sym is)

pub row_found : {A : Type 0} (table : List (Bor (List ℕ) × A)) (i : ℕ) (item : Bor (List ℕ) × A) (text rest : List ℕ) → i < length table → item ≡ get_or table i item
    → text ≡ item.0.now ++ rest → row_at (rows (drop i table)) text ≡ Some (item.1, rest)
row_found table i item text rest h is e =
    next_row table i item text h is ∙ ap (λ found. or_else item.1 found (row_at (rows (drop (i + 1) table)) text)) (ap (after_name item.0.now) e ∙ after_name-complete item.0.now rest)

pub row_passed : {A : Type 0} (table : List (Bor (List ℕ) × A)) (i : ℕ) (item : Bor (List ℕ) × A) (text : List ℕ) → i < length table → item ≡ get_or table i item
    → ((rest : List ℕ) → text ≢ item.0.now ++ rest) → row_at (rows (drop i table)) text ≡ row_at (rows (drop (i + 1) table)) text
row_passed table i item text h is none =
    next_row table i item text h is ∙ ap (λ found. or_else item.1 found (row_at (rows (drop (i + 1) table)) text)) (after_name-none item.0.now text none)
