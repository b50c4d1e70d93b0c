-- Each form has a phrase, and one that begins with each token that may begin one.
use Rattle.std.proofs.Common.{◌≡◌, ℕ, zero, suc, ◌<◌, Bool, true, false, ◌||◌, not, ◌⊎◌, List, [], ◌∷◌, ◌++◌, Some, None, inl, inr, refl, ◌∙◌, arith}
use Rattle.std.specs.Prelude.{if◌then◌else◌, ◌==◌}
use Rattle.std.proofs.lemmas.Bool.{ltb-true}
use Rattle.cc_lex.specs.declared.token.Token.{Token}
use Rattle.cc_grammar.specs.Begins.{has, starts, nullable, empty, begins}
use Rattle.cc_grammar.specs.Ebnf.{Ebnf, tok, seq, alt, many, opt, ref, nest}
use Rattle.cc_grammar.specs.Grammar.{rule}
use Rattle.cc_grammar.specs.Kinds.{Kind, kind}
use Rattle.cc_grammar.specs.Phrases.{Marked, words, Stops, joined, Phrase, p_tok, p_seq, p_left, p_right, p_end, p_more, p_none, p_some, p_ref, p_nest}
use Rattle.cc_grammar.specs.Symbols.{Symbol}
use Rattle.cc_grammar.specs.Trees.{Value, made}
use Rattle.cc_grammar.proofs.Basics.{and_first, and_second, or_split, or_right, lacks_left, lacks_right, lacks_both, has_split, apart, apart_lacks}
use Rattle.cc_grammar.proofs.Exists.{token_of}
use Rattle.cc_grammar.proofs.Facts.{Plain, plain, sampled, opened, empty_is, begins_is, begun_not, sample_low, open_low}
use Rattle.cc_grammar.proofs.First.{Starts, first}
use Rattle.cc_grammar.proofs.Parts.{Begun, Next, begun_as, filled}
use Rattle.cc_grammar.proofs.Tables.{tails, rank, open_rank, sample_rank, is_otherwise, is_sampled, is_opened}
use Rattle.cc_grammar.proofs.Tails.{goes_on}

-- a phrase
pub record Sample (d : ℕ) (g : Ebnf) : Type 0 where
  pub value : Value g
  pub marks : List Marked
  pub goes : List Kind
  pub phrase : Phrase d g value marks goes

-- ---- the next part of a row

-- What begins the next part does not go on with the part before.
pub clears : (f : List Kind) (b : Ebnf) (ys : List Marked) → ((k : Kind) → has (begins b) k ≡ true → has f k ≡ false) → Starts b ys → Stops f (words ys)
clears f b [] h s = tt
clears f b (y ∷ ys) h s = h (kind y.1) s

pub apart_tails : {d : ℕ} {a : Ebnf} {x : Value a} {xs : List Marked} {f : List Kind} (b : Ebnf) → Phrase d a x xs f → apart (tails a) (begins b) ≡ true
    → (k : Kind) → has (begins b) k ≡ true → has f k ≡ false
apart_tails {a = a} b p e k h = goes_on p k (apart_lacks (tails a) (begins b) e k h)

no_otherwise : (d : ℕ) (f : List Kind) (b : Ebnf) → is_otherwise b ≡ true → Next (Phrase d b) f
no_otherwise d f (opt a) e = record { value = None; marks = []; goes = begins a; phrase = p_none; clear = tt }
no_otherwise d f (tok k) e = absurd cc
no_otherwise d f (seq a b) e = absurd cc
no_otherwise d f (alt a b) e = absurd cc
no_otherwise d f (many a) e = absurd cc
no_otherwise d f (ref s) e = absurd cc
no_otherwise d f (nest s) e = absurd cc

next_sample : {d : ℕ} {a b : Ebnf} {x : Value a} {xs : List Marked} {f : List Kind} → Phrase d a x xs f → (apart (tails a) (begins b) || is_otherwise b) ≡ true
    → Sample d b → Next (Phrase d b) f
next_sample {d = d} {a = a} {b = b} {f = f} p e y =
    elim (or_split (apart (tails a) (begins b)) (is_otherwise b) e) [
      | inl h ↦ record { value = y.value; marks = y.marks; goes = y.goes; phrase = y.phrase; clear = clears f b y.marks (apart_tails b p h) (first y.phrase) }
      | inr h ↦ no_otherwise d f b h.1
    ]

-- ---- samples

sample_alt : (d : ℕ) (a b : Ebnf) → (Sample d a) ⊎ (Sample d b) → Sample d (alt a b)
sample_alt d a b (inl x) = record { value = inl x.value; marks = x.marks; goes = x.goes; phrase = p_left x.phrase }
sample_alt d a b (inr x) = record { value = inr x.value; marks = x.marks; goes = x.goes; phrase = p_right x.phrase }

as_ref : {d : ℕ} {s : Symbol} → Sample d (rule s) → Sample d (ref s)
as_ref {s = s} x = record { value = made s x.value; marks = x.marks; goes = x.goes; phrase = p_ref x.phrase }

as_nest : {d : ℕ} {s : Symbol} → Sample (suc d) (rule s) → Sample d (nest s)
as_nest {s = s} x = record { value = made s x.value; marks = x.marks; goes = x.goes; phrase = p_nest x.phrase }

module _ (r k : ℕ) (below : (s : Symbol) → sample_rank s < r → (d : ℕ) → Sample d (rule s)) where
  sample_by : (g : Ebnf) → Plain k g → is_sampled r g ≡ true → (d : ℕ) → Sample d g
  sample_by (tok j) pl e d = let t = token_of j pl in record { value = t.token; marks = (d, t.token) ∷ []; goes = []; phrase = p_tok t.same }
  sample_by (seq a b) pl e d =
      let x = sample_by a pl.0 (and_first (is_sampled r a) (is_sampled r b) e) d in
      let y = next_sample x.phrase pl.2 (sample_by b pl.1 (and_second (is_sampled r a) (is_sampled r b) e) d) in
      record {
        value = (x.value, y.value);
        marks = x.marks ++ y.marks;
        goes = joined x.goes y.goes y.marks;
        phrase = p_seq x.phrase y.phrase y.clear;
      }
  sample_by (alt a b) pl e d =
      sample_alt d a b (elim (or_split (is_sampled r a) (is_sampled r b) e) [ inl h ↦ inl (sample_by a pl.0 h d) | inr h ↦ inr (sample_by b pl.1 h.1 d) ])
  sample_by (many a) pl e d = record { value = []; marks = []; goes = begins a; phrase = p_end }
  sample_by (opt a) pl e d = record { value = None; marks = []; goes = begins a; phrase = p_none }
  sample_by (ref s) pl e d = as_ref (below s (ltb-true (sample_rank s) r e) d)
  sample_by (nest s) pl e d = as_nest (below s (ltb-true (sample_rank s) r e) (suc d))

roots : (r : ℕ) (s : Symbol) → sample_rank s < r → (d : ℕ) → Sample d (rule s)
roots zero s lt d = absurd (omega arith)
roots (suc r) s lt d = sample_by (sample_rank s) (rank s) (λ u below. roots r u (omega (arith, lt, below))) (rule s) (plain s) (sampled s) d

all_sampled : (g : Ebnf) → is_sampled 17 g ≡ true
all_sampled (tok k) = refl
all_sampled (seq a b) = rw (all_sampled a) (all_sampled b)
all_sampled (alt a b) = or_right (is_sampled 17 a) (is_sampled 17 b) (all_sampled b)
all_sampled (many a) = refl
all_sampled (opt a) = refl
all_sampled (ref s) = sample_low s
all_sampled (nest s) = sample_low s

pub sample : (r d : ℕ) (g : Ebnf) → Plain r g → Sample d g
sample r d g pl = sample_by 17 r (λ s low. roots 17 s low) g pl (all_sampled g) d

pub ref_sample : (d : ℕ) (s : Symbol) → Sample d (ref s)
ref_sample d s = as_ref (roots 17 s (ltb-true (sample_rank s) 17 (sample_low s)) d)

pub nest_sample : (d : ℕ) (s : Symbol) → Sample d (nest s)
nest_sample d s = as_nest (roots 17 s (ltb-true (sample_rank s) 17 (sample_low s)) (suc d))

-- what may stand behind the first part of a row
pub next_part : (r d : ℕ) (a b : Ebnf) → Plain r b → (apart (tails a) (begins b) || is_otherwise b) ≡ true
    → (x : Value a) (xs : List Marked) (f : List Kind) → Phrase d a x xs f → Next (Phrase d b) f
next_part r d a b pl e x xs f p = next_sample p e (sample r d b pl)

pub next_none : (d : ℕ) (a : Ebnf) (f : List Kind) → Next (Phrase d (many a)) f
next_none d a f = record { value = []; marks = []; goes = begins a; phrase = p_end; clear = tt }

-- ---- phrases of no token

pub record Void (d : ℕ) (g : Ebnf) : Type 0 where
  pub value : Value g
  pub goes : List Kind
  pub phrase : Phrase d g value [] goes
  pub stops : (k : Kind) → has (begins g) k ≡ false → has goes k ≡ false

seq_none : (e : Bool) (f g : List Kind) (k : Kind) → e ≡ true → has (if e then f ++ g else f) k ≡ false → (has f k ≡ false) × (has g k ≡ false)
seq_none true f g k e h = (lacks_left f g k h, lacks_right f g k h)
seq_none false f g k e h = absurd cc

module _ (r : ℕ) (below : (s : Symbol) → rank s < r → (d : ℕ) → nullable s ≡ true → Void d (rule s)) where
  void_by : (g : Ebnf) → Plain r g → (d : ℕ) → empty g ≡ true → Void d g
  void_by (tok k) pl d e = absurd cc
  void_by (seq a b) pl d e =
      let x = void_by a pl.0 d (and_first (empty a) (empty b) e) in
      let y = void_by b pl.1 d (and_second (empty a) (empty b) e) in
      record {
        value = (x.value, y.value);
        goes = joined x.goes y.goes [];
        phrase = p_seq x.phrase y.phrase tt;
        stops = λ k h. (let none = seq_none (empty a) (begins a) (begins b) k (and_first (empty a) (empty b) e) h in
            lacks_both y.goes x.goes k (y.stops k none.1) (x.stops k none.0));
      }
  void_by (alt a b) pl d e = absurd (not_empty (empty a) (empty b) pl.2 pl.3 e)
    where
      not_empty : (x y : Bool) → x ≡ false → y ≡ false → (x || y) ≡ true → ⊥
      not_empty true y h i e = cc
      not_empty false y h i e = cc
  void_by (many a) pl d e = record { value = []; goes = begins a; phrase = p_end; stops = λ k h. h }
  void_by (opt a) pl d e = record { value = None; goes = begins a; phrase = p_none; stops = λ k h. h }
  void_by (ref s) pl d e =
      let x = below s pl d e in
      record { value = made s x.value; goes = x.goes; phrase = p_ref x.phrase; stops = λ k h. x.stops k (begun_not s k h) }
  void_by (nest s) pl d e = absurd cc

void_roots : (r : ℕ) (s : Symbol) → rank s < r → (d : ℕ) → nullable s ≡ true → Void d (rule s)
void_roots zero s lt d e = absurd (omega arith)
void_roots (suc r) s lt d e = void_by (rank s) (λ u below. void_roots r u (omega (arith, lt, below))) (rule s) (plain s) d (empty_is s ∙ e)

pub void : (r d : ℕ) (g : Ebnf) → Plain r g → empty g ≡ true → Void d g
void r d g pl e = void_by r (λ s low. void_roots r s low) g pl d e

-- ---- each token of `begins` begins a phrase

seq_split : (e : Bool) (f g : List Kind) (k : Kind) → has (if e then f ++ g else f) k ≡ true → (has f k ≡ true) ⊎ ((e ≡ true) × (has f k ≡ false) × (has g k ≡ true))
seq_split false f g k h = inl h
seq_split true f g k h = elim (has_split f g k h) [ inl i ↦ inl i | inr i ↦ inr (refl, i.0, i.1) ]

stops_line : (f : List Kind) (ws : List Token) (t : Token) (more : List Token) → ws ≡ t ∷ more → has f (kind t) ≡ false → Stops f ws
stops_line f ws t more e h = rw e h

when_empty : (e b : Bool) → (not e || b) ≡ true → e ≡ true → b ≡ true
when_empty true b h e = h
when_empty false b h e = absurd cc

one_of : (k : Kind) (j : Kind) → has (k ∷ []) j ≡ true → (k == j) ≡ true
one_of k j e = elim (or_split (k == j) false e) [ inl h ↦ h | inr h ↦ absurd (no h.1) ]
  where
    no : false ≡ true → ⊥
    no e = cc

module _ (r : ℕ) (below : (s : Symbol) → open_rank s < r → (d : ℕ) (t : Token) → has (starts s) (kind t) ≡ true → Begun (Phrase d (rule s)) (t ∷ [])) where
  opening : (k : ℕ) (g : Ebnf) → Plain k g → is_opened r g ≡ true → (d : ℕ) (t : Token) → has (begins g) (kind t) ≡ true → Begun (Phrase d g) (t ∷ [])
  opening k (tok c) pl l d t e =
      record { value = t; marks = (d, t) ∷ []; goes = []; phrase = p_tok (one_of c (kind t) e); more = []; spelled = refl }
  opening k (seq a b) pl l d t e =
      elim (seq_split (empty a) (begins a) (begins b) (kind t) e) [
        | inl h ↦
            filled (Phrase d a) (Phrase d b) (Phrase d (seq a b)) (λ x y. (x, y)) (λ x y xs ys f g p q s. p_seq p q s)
            (next_part k d a b pl.1 pl.2) (t ∷ []) (opening k a pl.0 (and_first (is_opened r a) _ l) d t h)
        | inr h ↦
            let v = void k d a pl.0 h.0 in
            let y = opening k b pl.1 (when_empty (empty a) (is_opened r b) (and_second (is_opened r a) _ l) h.0) d t h.2 in
            record {
              value = (v.value, y.value);
              marks = y.marks;
              goes = joined v.goes y.goes y.marks;
              phrase = p_seq v.phrase y.phrase (stops_line v.goes (words y.marks) t y.more y.spelled (v.stops (kind t) h.1));
              more = y.more;
              spelled = y.spelled;
            }
      ]
  opening k (alt a b) pl l d t e =
      elim (has_split (begins a) (begins b) (kind t) e) [
        | inl h ↦
            begun_as (Phrase d a) (Phrase d (alt a b)) inl (λ x ms f p. p_left p) (t ∷ [])
            (opening k a pl.0 (and_first (is_opened r a) (is_opened r b) l) d t h)
        | inr h ↦
            begun_as (Phrase d b) (Phrase d (alt a b)) inr (λ x ms f p. p_right p) (t ∷ [])
            (opening k b pl.1 (and_second (is_opened r a) (is_opened r b) l) d t h.1)
      ]
  opening k (many a) pl l d t e =
      filled (Phrase d a) (Phrase d (many a)) (Phrase d (many a)) (λ x xs. x ∷ xs) (λ x y xs ys f g p q s. p_more p q s)
      (λ x xs f p. next_none d a f) (t ∷ []) (opening k a pl.0 l d t e)
  opening k (opt a) pl l d t e = begun_as (Phrase d a) (Phrase d (opt a)) (λ x. Some x) (λ x ms f p. p_some p) (t ∷ []) (opening k a pl.0 l d t e)
  opening k (ref s) pl l d t e =
      begun_as (Phrase d (rule s)) (Phrase d (ref s)) (made s) (λ x ms f p. p_ref p) (t ∷ []) (below s (ltb-true (open_rank s) r l) d t e)
  opening k (nest s) pl l d t e =
      begun_as (Phrase (suc d) (rule s)) (Phrase d (nest s)) (made s) (λ x ms f p. p_nest p) (t ∷ []) (below s (ltb-true (open_rank s) r l) (suc d) t e)

opens_by : (r : ℕ) (s : Symbol) → open_rank s < r → (d : ℕ) (t : Token) → has (starts s) (kind t) ≡ true → Begun (Phrase d (rule s)) (t ∷ [])
opens_by zero s lt d t e = absurd (omega arith)
opens_by (suc r) s lt d t e =
    opening (open_rank s) (λ u below. opens_by r u (omega (arith, lt, below))) (rank s) (rule s) (plain s) (opened s) d t (begins_is s (kind t) e)

pub ref_opens : (d : ℕ) (s : Symbol) (t : Token) → has (starts s) (kind t) ≡ true → Begun (Phrase d (ref s)) (t ∷ [])
ref_opens d s t e = begun_as (Phrase d (rule s)) (Phrase d (ref s)) (made s) (λ x ms f p. p_ref p) (t ∷ []) (opens_by 20 s (open_low s) d t e)

pub nest_opens : (d : ℕ) (s : Symbol) (t : Token) → has (starts s) (kind t) ≡ true → Begun (Phrase d (nest s)) (t ∷ [])
nest_opens d s t e =
    begun_as (Phrase (suc d) (rule s)) (Phrase d (nest s)) (made s) (λ x ms f p. p_nest p) (t ∷ []) (opens_by 20 s (open_low s) (suc d) t e)
