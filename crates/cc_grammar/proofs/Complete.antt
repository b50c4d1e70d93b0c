-- A reader takes each phrase whole, up to the first token that is held too often.
use Rattle.std.proofs.Common.{◌≡◌, ℕ, zero, suc, ◌<◌, ◌≤◌, true, false, List, [], ◌∷◌, ◌++◌, length, Some, inl, inr, refl, sym, ◌∙◌, ap, arith, length-append}
use Rattle.std.specs.Prelude.{nat_lt}
use Rattle.std.proofs.lemmas.Bool.{le-ltb}
use Rattle.cc_lex.specs.declared.token.Token.{Token}
use Rattle.cc_grammar.specs.Begins.{nullable, empty, begins}
use Rattle.cc_grammar.specs.Ebnf.{Ebnf, tok, seq, alt, many, opt, ref, nest}
use Rattle.cc_grammar.specs.Kinds.{Kind, kind}
use Rattle.cc_grammar.specs.Phrases.{Marked, words, Stops, Phrase, p_tok, p_seq, p_left, p_right, p_end, p_more, p_none, p_some}
use Rattle.cc_grammar.specs.Reading.{Got, Answer, Reader, and_then, answered, at, loop, read, expected}
use Rattle.cc_grammar.specs.Symbols.{Symbol}
use Rattle.cc_grammar.specs.Trees.{TreeOf, Value}
use Rattle.cc_grammar.proofs.Basics.{words-rest, expected-append, and_then-expected, answered-expected, cond_true, cond_false, stops_first, stops_second, at_stops, apart, apart_lacks}
use Rattle.cc_grammar.proofs.Facts.{Plain}
use Rattle.cc_grammar.proofs.First.{Starts, first}
use Rattle.cc_grammar.proofs.Parts.{Relation}
use Rattle.cc_grammar.proofs.Tables.{rank}

abbrev pub Completes : ℕ → {A : Type 0} → Reader A → Relation A → Type 0
Completes most {A} r P = (x : A) (ms : List Marked) (f : List Kind) (rest : List Token) → P x ms f → Stops f rest
    → r (words ms ++ rest) ≡ expected most ms (Got x, rest) rest

two_parts : (most : ℕ) {A B C : Type 0} (h : A → B → C) (p : Reader A) (q : Reader B) (x : A) (y : B) (xs ys : List Marked) (rest : List Token)
    → p (words xs ++ (words ys ++ rest)) ≡ expected most xs (Got x, words ys ++ rest) (words ys ++ rest)
    → q (words ys ++ rest) ≡ expected most ys (Got y, rest) rest
    → and_then (p (words (xs ++ ys) ++ rest)) (λ v over. answered (h v) (q over)) ≡ expected most (xs ++ ys) (Got (h x y), rest) rest
two_parts most {A = A} {B = B} {C = C} h p q x y xs ys rest first_read second_read =
    let k : A → Reader C = λ v over. answered (h v) (q over) in
    let over : List Token = words ys ++ rest in
    ap (λ (l : List Token). and_then (p l) k) (words-rest xs ys rest)
    ∙ ap (λ (a : Answer A). and_then a k) first_read
    ∙ and_then-expected most xs (Got x, over) over k
    ∙ ap (λ (a : Answer C). expected most xs a over)
    (ap (λ (a : Answer B). answered (h x) a) second_read ∙ answered-expected most ys (h x) (Got y, rest) rest)
    ∙ sym (expected-append most xs ys (Got (h x y), rest) rest)

at_first : (a : Ebnf) (xs ys : List Marked) (rest : List Token) → empty a ≡ false → Starts a xs → at (begins a) (words (xs ++ ys) ++ rest) ≡ true
at_first a [] ys rest e s = absurd cc
at_first a (m ∷ xs) ys rest e s = s

at_front : (a : Ebnf) (xs : List Marked) (rest : List Token) → empty a ≡ false → Starts a xs → at (begins a) (words xs ++ rest) ≡ true
at_front a [] rest e s = absurd cc
at_front a (m ∷ xs) rest e s = s

at_other : (a b : Ebnf) (xs : List Marked) (rest : List Token) → apart (begins a) (begins b) ≡ true → empty b ≡ false → Starts b xs
    → at (begins a) (words xs ++ rest) ≡ false
at_other a b [] rest h e s = absurd cc
at_other a b (m ∷ xs) rest h e s = apart_lacks (begins a) (begins b) h (kind m.1) s

pub shorter : (g : Ebnf) (xs ys : List Marked) (rest : List Token) → empty g ≡ false → Starts g xs → length (words ys ++ rest) < length (words (xs ++ ys) ++ rest)
shorter g [] ys rest e s = absurd cc
shorter g (m ∷ xs) ys rest e s = omega (arith, ap length (words-rest xs ys rest), length-append (words xs) (words ys ++ rest))

module _ (most d : ℕ) where
  complete_loop : {a : Ebnf} (r : Reader (Value a)) → empty a ≡ false → Completes most r (Phrase d a) → (n : ℕ)
      → (x : List (Value a)) (ms : List Marked) (f : List Kind) (rest : List Token) → Phrase d (many a) x ms f → Stops f rest
      → length (words ms ++ rest) ≤ n → loop r (begins a) n (words ms ++ rest) ≡ expected most ms (Got x, rest) rest
  complete_loop r e h zero x ms f rest p_end st len = refl
  complete_loop {a = a} r e h (suc n) x ms f rest p_end st len = cond_false (at (begins a) rest) _ _ (at_stops (begins a) rest st)
  complete_loop {a = a} r e h zero x ms f rest (p_more {xs = xs} {ys = ys} p q s) st len =
      let less = shorter a xs ys rest e (first p) in absurd (omega (arith, less))
  complete_loop {a = a} r e h (suc n) vs ms k rest (p_more {x = x} {vs = ws} {xs = xs} {ys = ys} {f = f} {g = g} p q s) st len =
      let less = shorter a xs ys rest e (first p) in
      cond_true (at (begins a) (words (xs ++ ys) ++ rest)) _ _ (at_first a xs ys rest e (first p))
      ∙ two_parts most (λ v us. v ∷ us) r (loop r (begins a) n) x ws xs ys rest
      (h x xs f (words ys ++ rest) p (stops_first f g ys rest s st))
      (complete_loop r e h n ws ys g rest q (stops_second f g ys rest st) (omega (arith, less, len)))

  module _ (fits : d ≤ most) (r : ℕ) (refs nests : (s : Symbol) → Reader (TreeOf s))
      (hr : (s : Symbol) → rank s < r → Completes most (refs s) (Phrase d (ref s)))
      (hn : (s : Symbol) → nullable s ≡ false → Completes most (nests s) (Phrase d (nest s))) where
    pub complete : (g : Ebnf) → Plain r g → Completes most (read refs nests g) (Phrase d g)
    complete (tok k) pl x ms f rest (p_tok e) st =
        cond_true _ _ _ e ∙ sym (cond_false (nat_lt most d) _ _ (le-ltb most d fits))
    complete (seq a b) pl x ms k rest (p_seq {x = v} {y = w} {xs = xs} {ys = ys} {f = f} {g = g} p q s) st =
        two_parts most (λ v w. (v, w)) (read refs nests a) (read refs nests b) v w xs ys rest
        (complete a pl.0 v xs f (words ys ++ rest) p (stops_first f g ys rest s st))
        (complete b pl.1 w ys g rest q (stops_second f g ys rest st))
    complete (alt a b) pl x ms f rest (p_left {x = v} p) st =
        cond_true _ _ _ (at_front a ms rest pl.2 (first p))
        ∙ ap (λ (t : Answer (Value a)). answered inl t) (complete a pl.0 v ms f rest p st) ∙ answered-expected most ms inl (Got v, rest) rest
    complete (alt a b) pl x ms f rest (p_right {y = v} p) st =
        cond_false _ _ _ (at_other a b ms rest pl.4 pl.3 (first p))
        ∙ ap (λ (t : Answer (Value b)). answered inr t) (complete b pl.1 v ms f rest p st) ∙ answered-expected most ms inr (Got v, rest) rest
    complete (many a) pl x ms f rest p st =
        complete_loop (read refs nests a) pl.1 (complete a pl.0) (length (words ms ++ rest)) x ms f rest p st (omega arith)
    complete (opt a) pl x ms f rest p_none st = cond_false _ _ _ (at_stops (begins a) rest st)
    complete (opt a) pl x ms f rest (p_some {x = v} p) st =
        cond_true _ _ _ (at_front a ms rest pl.1 (first p))
        ∙ ap (λ (t : Answer (Value a)). answered (λ u. Some u) t) (complete a pl.0 v ms f rest p st)
        ∙ answered-expected most ms (λ u. Some u) (Got v, rest) rest
    complete (ref s) pl x ms f rest p st = hr s pl x ms f rest p st
    complete (nest s) pl x ms f rest p st = hn s pl x ms f rest p st
