-- An `else` part that stands behind a phrase which may still have one: it goes to the nearest `if`.
use Rattle.std.proofs.Common.{◌≡◌, ℕ, suc, Bool, true, false, not, List, [], ◌∷◌, ◌++◌, ◌⊎◌, Some, inl, inr, refl, sym, ◌∙◌, ap, append_assoc, arith}
use Rattle.std.specs.Prelude.{◌==◌}
use Rattle.cc_lex.specs.declared.token.Token.{Token}
use Rattle.cc_lex.specs.declared.token.Word.TheVariants as word
use Rattle.cc_grammar.specs.Begins.{has, begins}
use Rattle.cc_grammar.specs.Ebnf.{Ebnf, tok, seq, alt, many, opt, ref, nest}
use Rattle.cc_grammar.specs.Grammar.{rule}
use Rattle.cc_grammar.specs.Kinds.{Kind, kind, word_kind}
use Rattle.cc_grammar.specs.Phrases.{Marked, words, Stops, joined, Phrase, p_tok, p_seq, p_left, p_right, p_end, p_more, p_none, p_some, p_ref, p_nest}
use Rattle.cc_grammar.specs.Symbols.{Symbol}
use Rattle.cc_grammar.specs.Symbols as the
use Rattle.cc_grammar.specs.Trees.{Value, made}
use Rattle.cc_grammar.proofs.Basics.{and_first, and_second, not_false, or_split, both_ways, words-append, nil_right, has_split, has_same}
use Rattle.cc_grammar.proofs.Facts.{else_taken}
use Rattle.cc_grammar.proofs.Tables.{is_otherwise, takes_else}

-- these tokens are a phrase
pub record Found {A : Type 0} (P : A → List Marked → List Kind → Type 0) (ts : List Token) : Type 0 where
  pub value : A
  pub marks : List Marked
  pub goes : List Kind
  pub phrase : P value marks goes
  pub spelled : words marks ≡ ts

pub found_along : {A : Type 0} (P : A → List Marked → List Kind → Type 0) (ts us : List Token) → ts ≡ us → Found P ts → Found P us
found_along P ts us e x = record { value = x.value; marks = x.marks; goes = x.goes; phrase = x.phrase; spelled = x.spelled ∙ e }

pub found_as : {A C : Type 0} (P : A → List Marked → List Kind → Type 0) (R : C → List Marked → List Kind → Type 0) (h : A → C)
    → ((x : A) (ms : List Marked) (f : List Kind) → P x ms f → R (h x) ms f) → (ts : List Token) → Found P ts → Found R ts
found_as P R h mk ts x =
    record { value = h x.value; marks = x.marks; goes = x.goes; phrase = mk x.value x.marks x.goes x.phrase; spelled = x.spelled }

abbrev pub else_kind : Kind
else_kind = word_kind word.Else

-- an `else` part, at any depth
pub record ElsePart (ts : List Token) : Type 0 where
  pub token : Token
  pub more : List Token
  pub begins_so : ts ≡ token ∷ more
  pub is_else : (else_kind == kind token) ≡ true
  pub part : (d : ℕ) → Found (Phrase d (ref the.otherwise)) ts

-- What does not go on with an `else` stops before the part.
pub stops_else : (f : List Kind) (ts us : List Token) → ElsePart ts → us ≡ ts → has f else_kind ≡ false → Stops f us
stops_else f ts us e same h = rw (same, e.begins_so) (lacks (has f (kind e.token)) refl)
  where
    flipped : (kind e.token == else_kind) ≡ true
    flipped = let is = e.is_else in grind (arith, is)

    lacks : (b : Bool) → has f (kind e.token) ≡ b → has f (kind e.token) ≡ false
    lacks false i = i
    lacks true i = let both = has_same f (kind e.token) else_kind flipped i in absurd cc

stops_line : (f : List Kind) (t : Token) (xs us ws : List Token) → Stops f (t ∷ xs) → us ≡ t ∷ ws → Stops f us
stops_line f t xs us ws s e = rw e s

-- the parts of a row
module _ {A B C : Type 0} (P : A → List Marked → List Kind → Type 0) (Q : B → List Marked → List Kind → Type 0) (R : C → List Marked → List Kind → Type 0)
    (h : A → B → C)
    (mk : (x : A) (y : B) (xs ys : List Marked) (f g : List Kind) → P x xs f → Q y ys g → Stops f (words ys) → R (h x y) (xs ++ ys) (joined f g ys)) where
  pub found_row : (xs ys : List Token) (x : Found P xs) (y : Found Q ys) → Stops x.goes (words y.marks) → Found R (xs ++ ys)
  found_row xs ys x y s = record {
    value = h x.value y.value;
    marks = x.marks ++ y.marks;
    goes = joined x.goes y.goes y.marks;
    phrase = mk x.value y.value x.marks y.marks x.goes y.goes x.phrase y.phrase s;
    spelled = words-append x.marks y.marks ∙ ap (λ (l : List Token). l ++ words y.marks) x.spelled ∙ ap (λ (l : List Token). xs ++ l) y.spelled;
  }

  attach_row : (x : A) (y : B) (xs ys : List Marked) (f g : List Kind) → P x xs f → Q y ys g → Stops f (words ys) → (ts : List Token) → ElsePart ts
      → (has f else_kind ≡ true → Found P (words xs ++ ts)) → (has g else_kind ≡ true → Found Q (words ys ++ ts))
      → has (joined f g ys) else_kind ≡ true → Found R (words (xs ++ ys) ++ ts)
  attach_row x y xs (m ∷ ys) f g p q s ts e hp hq t =
      let n = hq t in
      let one : Found P (words xs) = record { value = x; marks = xs; goes = f; phrase = p; spelled = refl } in
      found_along R (words xs ++ (words (m ∷ ys) ++ ts)) (words (xs ++ m ∷ ys) ++ ts)
      (sym (append_assoc (words xs) (words (m ∷ ys)) ts) ∙ ap (λ (l : List Token). l ++ ts) (sym (words-append xs (m ∷ ys))))
      (found_row (words xs) (words (m ∷ ys) ++ ts) one n (stops_line f m.1 (words ys) (words n.marks) (words ys ++ ts) s n.spelled))
  attach_row x y xs [] f g p q s ts e hp hq t = go (both_ways (has f else_kind))
    where
      go : (has f else_kind ≡ true) ⊎ (has f else_kind ≡ false) → Found R (words (xs ++ []) ++ ts)
      go (inl i) =
          let n = hp i in
          let two : Found Q [] = record { value = y; marks = []; goes = g; phrase = q; spelled = refl } in
          found_along R ((words xs ++ ts) ++ []) (words (xs ++ []) ++ ts)
          (nil_right (words xs ++ ts) ∙ ap (λ (l : List Marked). words l ++ ts) (sym (nil_right xs)))
          (found_row (words xs ++ ts) [] n two tt)
      go (inr i) =
          let n = hq (elim (has_split g f else_kind t) [ inl j ↦ j | inr j ↦ (let k = j.1 in absurd cc) ]) in
          let one : Found P (words xs) = record { value = x; marks = xs; goes = f; phrase = p; spelled = refl } in
          found_along R (words xs ++ ts) (words (xs ++ []) ++ ts) (ap (λ (l : List Marked). words l ++ ts) (sym (nil_right xs)))
          (found_row (words xs) ts one n (stops_else f ts (words n.marks) e n.spelled i))

pub otherwise_is : (a : Ebnf) → is_otherwise (opt a) ≡ true → a ≡ ref the.otherwise
otherwise_is (ref the.otherwise) e = refl
otherwise_is (ref other) e = absurd cc
otherwise_is (tok k) e = absurd cc
otherwise_is (seq a b) e = absurd cc
otherwise_is (alt a b) e = absurd cc
otherwise_is (many a) e = absurd cc
otherwise_is (opt a) e = absurd cc
otherwise_is (nest s) e = absurd cc

-- where the `else` part itself is missing
attach_none : (d : ℕ) (a : Ebnf) → takes_else (opt a) ≡ true → has (begins a) else_kind ≡ true → (ts : List Token) → ElsePart ts → Found (Phrase d (opt a)) ts
attach_none d a t h ts e = go (or_split (not (has (begins a) else_kind)) (is_otherwise (opt a)) (and_second (takes_else a) _ t))
  where
    at_otherwise : (c : Ebnf) → c ≡ ref the.otherwise → Found (Phrase d (opt c)) ts
    at_otherwise c same = rw same (found_as (Phrase d (ref the.otherwise)) (Phrase d (opt (ref the.otherwise))) (λ x. Some x) (λ x ms f p. p_some p) ts (e.part d))

    go : (not (has (begins a) else_kind) ≡ true) ⊎ ((not (has (begins a) else_kind) ≡ false) × (is_otherwise (opt a) ≡ true)) → Found (Phrase d (opt a)) ts
    go (inl i) = let none = not_false (has (begins a) else_kind) i in absurd cc
    go (inr i) = at_otherwise a (otherwise_is a i.1)

pub attach : {d : ℕ} {g : Ebnf} {v : Value g} {ms : List Marked} {f : List Kind} → Phrase d g v ms f → takes_else g ≡ true → has f else_kind ≡ true
    → (ts : List Token) → ElsePart ts → Found (Phrase d g) (words ms ++ ts)
attach (p_tok h) t i ts e = absurd cc
attach (p_seq {d = d} {a = a} {b = b} {x = x} {y = y} {xs = xs} {ys = ys} {f = f} {g = g} p q s) t i ts e =
    attach_row (Phrase d a) (Phrase d b) (Phrase d (seq a b)) (λ x y. (x, y)) (λ x y xs ys f g p q s. p_seq p q s) x y xs ys f g p q s ts e
    (λ j. attach p (and_first (takes_else a) (takes_else b) t) j ts e) (λ j. attach q (and_second (takes_else a) (takes_else b) t) j ts e) i
attach (p_left {d = d} {a = a} {b = b} {xs = xs} p) t i ts e =
    found_as (Phrase d a) (Phrase d (alt a b)) inl (λ x ms f p. p_left p) (words xs ++ ts) (attach p (and_first (takes_else a) (takes_else b) t) i ts e)
attach (p_right {d = d} {a = a} {b = b} {xs = xs} p) t i ts e =
    found_as (Phrase d b) (Phrase d (alt a b)) inr (λ x ms f p. p_right p) (words xs ++ ts) (attach p (and_second (takes_else a) (takes_else b) t) i ts e)
attach (p_end {a = a}) t i ts e = let none = not_false (has (begins a) else_kind) (and_second (takes_else a) _ t) in absurd cc
attach (p_more {d = d} {a = a} {x = x} {vs = vs} {xs = xs} {ys = ys} {f = f} {g = g} p q s) t i ts e =
    attach_row (Phrase d a) (Phrase d (many a)) (Phrase d (many a)) (λ x xs. x ∷ xs) (λ x y xs ys f g p q s. p_more p q s) x vs xs ys f g p q s ts e
    (λ j. attach p (and_first (takes_else a) _ t) j ts e) (λ j. attach q t j ts e) i
attach (p_none {d = d} {a = a}) t i ts e = attach_none d a t i ts e
attach (p_some {d = d} {a = a} {xs = xs} p) t i ts e =
    found_as (Phrase d a) (Phrase d (opt a)) (λ x. Some x) (λ x ms f p. p_some p) (words xs ++ ts) (attach p (and_first (takes_else a) _ t) i ts e)
attach (p_ref {d = d} {s = s} {xs = xs} p) t i ts e =
    found_as (Phrase d (rule s)) (Phrase d (ref s)) (made s) (λ x ms f p. p_ref p) (words xs ++ ts) (attach p (else_taken s) i ts e)
attach (p_nest {d = d} {s = s} {xs = xs} p) t i ts e =
    found_as (Phrase (suc d) (rule s)) (Phrase d (nest s)) (made s) (λ x ms f p. p_nest p) (words xs ++ ts) (attach p (else_taken s) i ts e)
