-- What a reader took is a whole phrase, or the front of one.
use Rattle.std.proofs.Common.{◌≡◌, ℕ, zero, suc, ◌<◌, ◌≤◌, Bool, true, false, List, [], ◌∷◌, ◌++◌, length, Some, inl, inr, refl, sym, ◌∙◌, ap, subst, append_assoc, arith, length-append}
use Rattle.std.specs.Prelude.{if◌then◌else◌, ◌==◌}
use Rattle.cc_lex.specs.declared.token.Token.{Token}
use Rattle.cc_grammar.specs.Begins.{empty, begins}
use Rattle.cc_grammar.specs.Ebnf.{Ebnf, tok, seq, alt, many, opt, ref, nest}
use Rattle.cc_grammar.specs.Kinds.{Kind, kind}
use Rattle.cc_grammar.specs.Phrases.{Marked, words, Stops, joined, Phrase, p_tok, p_seq, p_left, p_right, p_end, p_more, p_none, p_some}
use Rattle.cc_grammar.specs.Reading.{Got, Bad, Deep, Answer, Reader, and_then, answered, at, loop, read}
use Rattle.cc_grammar.specs.Symbols.{Symbol}
use Rattle.cc_grammar.specs.Trees.{TreeOf, Value}
use Rattle.cc_grammar.proofs.Basics.{words-append, stops_front, stops_joined, stops_at, stops_none}
use Rattle.cc_grammar.proofs.Facts.{Plain}
use Rattle.cc_grammar.proofs.First.{Starts, first}
use Rattle.cc_grammar.proofs.Parts.{Begun, Next, begun_as, filled, begun_second, none_begun}
use Rattle.cc_grammar.proofs.Samples.{Sample, sample, next_part, next_none}
use Rattle.cc_grammar.proofs.Tables.{rank}

-- Found: a whole phrase was taken, and the next token does not go on with it. Bad: what was taken begins a phrase. Deep: also
-- with the next token.
abbrev pub Follows : {A : Type 0} → (A → List Marked → List Kind → Type 0) → List Token → Answer A → Type 0
Follows P ws (Got x, rest) = (ms : List Marked) × (f : List Kind) × P x ms f × (ws ≡ words ms ++ rest) × Stops f rest
Follows P ws (Bad, rest) = (took : List Token) × Begun P took × (ws ≡ took ++ rest)
Follows P ws (Deep, rest) = (took : List Token) × (a : Token) × (over : List Token) × Begun P (took ++ a ∷ []) × (ws ≡ took ++ rest) × (rest ≡ a ∷ over)

pub by_test : {A : Type 0} (P : A → Type 0) (b : Bool) (x y : A) → (b ≡ true → P x) → (b ≡ false → P y) → P (if b then x else y)
by_test P true x y h k = h refl
by_test P false x y h k = k refl

module _ {A C : Type 0} (P : A → List Marked → List Kind → Type 0) (R : C → List Marked → List Kind → Type 0) (h : A → C)
    (mk : (x : A) (ms : List Marked) (f : List Kind) → P x ms f → R (h x) ms f) where
  pub follows_as : (ws : List Token) (a : Answer A) → Follows P ws a → Follows R ws (answered h a)
  follows_as ws (Got x, rest) (ms, f, p, e, s) = (ms, f, mk x ms f p, e, s)
  follows_as ws (Bad, rest) (took, b, e) = (took, begun_as P R h mk took b, e)
  follows_as ws (Deep, rest) (took, a, over, b, e, e') = (took, a, over, begun_as P R h mk _ b, e, e')

stops_head : (f : List Kind) (a : Token) (xs ys over : List Token) → Stops f (a ∷ ys) → over ≡ (a ∷ xs) → Stops f over
stops_head f a xs ys over s e = rw e s

module _ {A B C : Type 0} (P : A → List Marked → List Kind → Type 0) (Q : B → List Marked → List Kind → Type 0) (R : C → List Marked → List Kind → Type 0)
    (h : A → B → C)
    (mk : (x : A) (y : B) (xs ys : List Marked) (f g : List Kind) → P x xs f → Q y ys g → Stops f (words ys) → R (h x y) (xs ++ ys) (joined f g ys))
    (next : (x : A) (xs : List Marked) (f : List Kind) → P x xs f → Next Q f) where
  none : (x : A) (xs : List Marked) (f : List Kind) → P x xs f → Begun R (words xs ++ [])
  none x xs f p = none_begun P Q R h mk x xs f p (next x xs f p)

  second_part : (x : A) (xs : List Marked) (f : List Kind) → P x xs f → (took : List Token) (b : Begun Q took) → Stops f (words b.marks) → Begun R (words xs ++ took)
  second_part x xs f p took b s = begun_second P Q R h mk x xs f p took b s

  longer : (x : A) (xs : List Marked) (f : List Kind) → P x xs f → (took : List Token) (a : Token) (b : Begun Q (took ++ a ∷ [])) → Stops f (words b.marks)
      → Begun R ((words xs ++ took) ++ a ∷ [])
  longer x xs f p took a b s =
      let G : List Token → Type 0 = λ l. Begun R l in
      subst G (sym (append_assoc (words xs) took (a ∷ []))) (second_part x xs f p (took ++ a ∷ []) b s)

  second : (ws : List Token) (x : A) (xs : List Marked) (f : List Kind) (over : List Token) → P x xs f → ws ≡ words xs ++ over → Stops f over
      → (a : Answer B) → Follows Q over a → Follows R ws (answered (h x) a)
  second ws x xs f over p e s (Got y, rest) (ys, g, q, e', t) =
      let whole : ws ≡ words (xs ++ ys) ++ rest = e ∙ ap (λ (l : List Token). words xs ++ l) e' ∙ sym (append_assoc (words xs) (words ys) rest) ∙ ap (λ (l : List Token). l ++ rest) (sym (words-append xs ys)) in
      let clear : Stops f (words ys ++ rest) = rw e' at s in
      (xs ++ ys, joined f g ys, mk x y xs ys f g p q (stops_front f (words ys) rest clear), whole, stops_joined f g ys rest clear t)
  second ws x xs f over p e s (Bad, rest) ([], b, e') =
      (words xs ++ [], none x xs f p, e ∙ ap (λ (l : List Token). words xs ++ l) e' ∙ sym (append_assoc (words xs) [] rest))
  second ws x xs f over p e s (Bad, rest) (a ∷ took, b, e') =
      let clear : Stops f (words b.marks) = stops_head f a (took ++ b.more) (took ++ rest) (words b.marks) (rw e' at s) b.spelled in
      (words xs ++ a ∷ took, second_part x xs f p (a ∷ took) b clear, e ∙ ap (λ (l : List Token). words xs ++ l) e' ∙ sym (append_assoc (words xs) (a ∷ took) rest))
  second ws x xs f over p e s (Deep, rest) ([], a, last, b, e', e2) =
      let clear : Stops f (words b.marks) = stops_head f a b.more last (words b.marks) (rw (e', e2) at s) b.spelled in
      (words xs ++ [], a, last, longer x xs f p [] a b clear, e ∙ ap (λ (l : List Token). words xs ++ l) e' ∙ sym (append_assoc (words xs) [] rest), e2)
  second ws x xs f over p e s (Deep, rest) (c ∷ took, a, last, b, e', e2) =
      let clear : Stops f (words b.marks) = stops_head f c ((took ++ a ∷ []) ++ b.more) (took ++ rest) (words b.marks) (rw e' at s) b.spelled in
      (words xs ++ c ∷ took, a, last, longer x xs f p (c ∷ took) a b clear, e ∙ ap (λ (l : List Token). words xs ++ l) e' ∙ sym (append_assoc (words xs) (c ∷ took) rest), e2)

  pub chain : (ws : List Token) (a : Answer A) → Follows P ws a → (q : Reader B)
      → ((x : A) (xs : List Marked) (f : List Kind) (over : List Token) → P x xs f → ws ≡ words xs ++ over → Follows Q over (q over))
      → Follows R ws (and_then a (λ x over. answered (h x) (q over)))
  chain ws (Got x, over) (xs, f, p, e, s) q k = second ws x xs f over p e s (q over) (k x xs f over p e)
  chain ws (Bad, rest) (took, b, e) q k = (took, filled P Q R h mk next took b, e)
  chain ws (Deep, rest) (took, a, last, b, e, e') q k = (took, a, last, filled P Q R h mk next _ b, e, e')

pub shorter_by : (g : Ebnf) (xs : List Marked) (ws over : List Token) → empty g ≡ false → Starts g xs → ws ≡ words xs ++ over → length over < length ws
shorter_by g [] ws over e s h = absurd cc
shorter_by g (m ∷ xs) ws over e s h = omega (arith, ap length h, length-append (words xs) over)

abbrev pub Sound : {A : Type 0} → Reader A → (A → List Marked → List Kind → Type 0) → Type 0
Sound r P = (ws : List Token) → Follows P ws (r ws)

module _ (d : ℕ) where
  pub begun_sample : {g : Ebnf} → Sample d g → Begun (Phrase d g) []
  begun_sample x = record { value = x.value; marks = x.marks; goes = x.goes; phrase = x.phrase; more = words x.marks; spelled = refl }

  pub sound_loop : (a : Ebnf) (r : Reader (Value a)) → empty a ≡ false → Sound r (Phrase d a) → (n : ℕ) (ws : List Token) → length ws ≤ n
      → Follows (Phrase d (many a)) ws (loop r (begins a) n ws)
  sound_loop a r e h zero [] len = ([], begins a, p_end, refl, tt)
  sound_loop a r e h zero (t ∷ ws) len = absurd (omega arith)
  sound_loop a r e h (suc n) ws len =
      by_test (Follows (Phrase d (many a)) ws) (at (begins a) ws) _ _
      (λ yes. chain (Phrase d a) (Phrase d (many a)) (Phrase d (many a)) (λ x xs. x ∷ xs) (λ x y xs ys f g p q s. p_more p q s) (λ x xs f p. next_none d a f)
      ws (r ws) (h ws) (loop r (begins a) n)
      (λ x xs f over p eq. let less = shorter_by a xs ws over e (first p) eq in sound_loop a r e h n over (omega (arith, less, len))))
      (λ no. ([], begins a, p_end, refl, stops_at (begins a) ws no))

  module _ (r : ℕ) (refs nests : (s : Symbol) → Reader (TreeOf s))
      (hr : (s : Symbol) → rank s < r → Sound (refs s) (Phrase d (ref s)))
      (hn : (s : Symbol) → Sound (nests s) (Phrase d (nest s))) where
    pub sound : (g : Ebnf) → Plain r g → Sound (read refs nests g) (Phrase d g)
    sound (tok k) pl [] = ([], begun_sample (sample r d (tok k) pl), refl)
    sound (tok k) pl (a ∷ ws) =
        by_test (Follows (Phrase d (tok k)) (a ∷ ws)) (k == kind a) _ _
        (λ e. ((d, a) ∷ [], [], p_tok e, refl, stops_none ws))
        (λ e. ([], begun_sample (sample r d (tok k) pl), refl))
    sound (seq a b) pl ws =
        chain (Phrase d a) (Phrase d b) (Phrase d (seq a b)) (λ x y. (x, y)) (λ x y xs ys f g p q s. p_seq p q s) (next_part r d a b pl.1 pl.2)
        ws (read refs nests a ws) (sound a pl.0 ws) (read refs nests b) (λ x xs f over p e. sound b pl.1 over)
    sound (alt a b) pl ws =
        by_test (Follows (Phrase d (alt a b)) ws) (at (begins a) ws) _ _
        (λ e. follows_as (Phrase d a) (Phrase d (alt a b)) inl (λ x ms f p. p_left p) ws (read refs nests a ws) (sound a pl.0 ws))
        (λ e. follows_as (Phrase d b) (Phrase d (alt a b)) inr (λ x ms f p. p_right p) ws (read refs nests b ws) (sound b pl.1 ws))
    sound (many a) pl ws = sound_loop a (read refs nests a) pl.1 (sound a pl.0) (length ws) ws (omega arith)
    sound (opt a) pl ws =
        by_test (Follows (Phrase d (opt a)) ws) (at (begins a) ws) _ _
        (λ e. follows_as (Phrase d a) (Phrase d (opt a)) (λ x. Some x) (λ x ms f p. p_some p) ws (read refs nests a ws) (sound a pl.0 ws))
        (λ e. ([], begins a, p_none, refl, stops_at (begins a) ws e))
    sound (ref s) pl ws = hr s pl ws
    sound (nest s) pl ws = hn s ws
