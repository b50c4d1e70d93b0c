-- What is computed is what a parser is to answer.
use Rattle.std.proofs.Common.{◌≡◌, ℕ, ◌+◌, ◌-◌, ◌<◌, ◌≤◌, Bool, true, false, List, [], ◌∷◌, ◌++◌, length, refl, sym, ◌∙◌, ap, subst, append_assoc, zero-add, arith, length-append}
use Rattle.std.specs.Prelude.{nat_lt}
use Rattle.std.proofs.lemmas.Bool.{ltb-true, ltb-false, lt-ltb, le-ltb}
use Rattle.cc_lex.specs.TokenList.{TokenList}
use Rattle.cc_lex.specs.declared.token.Token.{Token}
use Rattle.cc_grammar.specs.Ebnf.{ref}
use Rattle.cc_grammar.specs.Phrases.{Marked, words, Phrase}
use Rattle.cc_grammar.specs.Reading.{Outcome, Got, Bad, Deep, Answer, Reader, symbol, expected, finished, text_answer, result_of, parsed}
use Rattle.cc_grammar.specs.Sentences.{Sentence, Viable, Begins, limit, Shallow, ShallowFront, FirstTooDeep, Refused, place_of, IsSyntax, Parses}
use Rattle.cc_grammar.specs.Symbols as the
use Rattle.cc_grammar.specs.declared.tree.Tree.{Tree}
use Rattle.cc_grammar.proofs.Basics.{words-append, nil_right, cond_true, cond_false}
use Rattle.cc_grammar.proofs.Parts.{Begun}
use Rattle.cc_grammar.proofs.Readers.{symbol_sound, symbol_complete, symbol_local}
use Rattle.cc_grammar.proofs.Sound.{Follows, Sound}
use Rattle.cc_grammar.proofs.Viability.{begins_of, viable_of}

-- ---- the reader of texts

abbrev top : Reader Tree
top = symbol limit the.text

top_sound : Sound top (Phrase 0 (ref the.text))
top_sound = symbol_sound limit 0 the.text

top_complete : (most : ℕ) (x : Tree) (ms : List Marked) → Sentence x ms → symbol most the.text (words ms) ≡ expected most ms (Got x, []) []
top_complete most x ms p =
    ap (λ (l : List Token). symbol most the.text l) (sym (nil_right (words ms)))
    ∙ symbol_complete most most 0 the.text (zero-add most) x ms p.0 [] p.1 tt

-- The answer to a list that goes on in another way behind the token at which it stopped.
goes_as : (took : List Token) (t : Token) (over more : List Token) (o : Outcome Tree) → top (took ++ t ∷ over) ≡ (o, t ∷ over) → top (took ++ t ∷ more) ≡ (o, t ∷ more)
goes_as took t over more o e = symbol_local t over more limit the.text took [] o e

-- ---- what is expected

-- no token stands too deep, or some token is the first that does
data Cut (ms : List Marked) : Type 0 where
  shallow : Shallow ms → Cut ms
  deep : (front back : List Marked) (m : Marked) → ms ≡ front ++ m ∷ back → limit < m.0 → Shallow front → Cut ms

cut_step : (m : Marked) (ms : List Marked) (b : Bool) → nat_lt limit m.0 ≡ b → Cut ms → Cut (m ∷ ms)
cut_step m ms true e c = deep [] ms m refl (ltb-true limit m.0 e) tt
cut_step m ms false e (shallow s) = shallow (ltb-false limit m.0 e, s)
cut_step m ms false e (deep front back n eq lt s) = deep (m ∷ front) back n (ap (λ (l : List Marked). m ∷ l) eq) lt (ltb-false limit m.0 e, s)

cut : (ms : List Marked) → Cut ms
cut [] = shallow tt
cut (m ∷ ms) = cut_step m ms (nat_lt limit m.0) refl (cut ms)

none_deep : {A : Type 0} (ms : List Marked) (a : Answer A) (rest : List Token) → Shallow ms → expected limit ms a rest ≡ a
none_deep [] a rest s = refl
none_deep (m ∷ ms) a rest s = cond_false (nat_lt limit m.0) _ _ (le-ltb limit m.0 s.0) ∙ none_deep ms a rest s.1

deep_first : (x : Tree) (front back : List Marked) (m : Marked) → Shallow front → limit < m.0
    → expected limit (front ++ m ∷ back) (Got x, []) [] ≡ (Deep, m.1 ∷ words back)
deep_first x [] back m s d = cond_true (nat_lt limit m.0) _ _ (lt-ltb limit m.0 d) ∙ ap (λ (l : List Token). (Deep, m.1 ∷ l)) (nil_right (words back))
deep_first x (n ∷ front) back m s d = cond_false (nat_lt limit n.0) _ _ (le-ltb limit n.0 s.0) ∙ deep_first x front back m s.1 d

-- A sentence without a token that stands too deep is read whole.
shallow_read : (x : Tree) (ms : List Marked) → Sentence x ms → Shallow ms → top (words ms) ≡ (Got x, [])
shallow_read x ms p s = top_complete limit x ms p ∙ none_deep ms (Got x, []) [] s

-- Reading stops at the first token of a sentence that stands too deep, however the list goes on.
deep_read : (x : Tree) (front back : List Marked) (m : Marked) → Sentence x (front ++ m ∷ back) → Shallow front → limit < m.0 → (more : List Token)
    → top (words front ++ m.1 ∷ more) ≡ (Deep, m.1 ∷ more)
deep_read x front back m p s d more =
    goes_as (words front) m.1 (words back) more Deep
    (ap top (sym (words-append front (m ∷ back))) ∙ top_complete limit x (front ++ m ∷ back) p ∙ deep_first x front back m s d)

-- ---- what an answer says of each sentence

not_deep : (a : Answer Tree) (o : Outcome Tree) (rest over : List Token) → a ≡ (o, rest) → a ≡ (Deep, over) → o ≡ Deep
not_deep a o rest over e h = ap (λ (z : Answer Tree). z.0) (sym e ∙ h)

same_rest : (a : Answer Tree) (o : Outcome Tree) (rest over : List Token) → a ≡ (o, rest) → a ≡ (Deep, over) → rest ≡ over
same_rest a o rest over e h = ap (λ (z : Answer Tree). z.1) (sym e ∙ h)

is_deep : Outcome Tree → Type 0
is_deep Deep = Unit {0}
is_deep _ = ⊥

-- Where the answer is no Deep, no sentence is too deep in what was taken.
shallow_front : (took rest : List Token) (o : Outcome Tree) → (o ≡ Deep → ⊥) → top (took ++ rest) ≡ (o, rest) → ShallowFront took
shallow_front took rest o not e x front back p w = go (cut front)
  where
    go : Cut front → Shallow front
    go (shallow s) = s
    go (deep f b m eq d s) =
        let q : Sentence x (f ++ m ∷ (b ++ back)) =
        (let F : List Marked → Type 0 = λ l. Sentence x l in subst F (ap (λ (l : List Marked). l ++ back) eq ∙ append_assoc f (m ∷ b) back) p) in
        let line : words f ++ m.1 ∷ (words b ++ rest) ≡ took ++ rest =
        sym (append_assoc (words f) (m.1 ∷ words b) rest)
        ∙ ap (λ (l : List Token). l ++ rest) (sym (words-append f (m ∷ b)) ∙ sym (ap words eq) ∙ w) in
        absurd (not (not_deep (top (took ++ rest)) o rest (m.1 ∷ (words b ++ rest)) e (ap top (sym line) ∙ deep_read x f (b ++ back) m q s d (words b ++ rest))))

-- two ways to cut one list
same_cut : {A : Type 0} (f g : List A) (b c : List A) → f ++ b ≡ g ++ c → length b ≡ length c → (f ≡ g) × (b ≡ c)
same_cut [] [] b c e h = (refl, e)
same_cut [] (y ∷ g) b c e h = absurd (omega (arith, h, ap length e, length-append g c))
same_cut (x ∷ f) [] b c e h = absurd (omega (arith, h, ap length e, length-append f b))
same_cut {A = A} (x ∷ f) (y ∷ g) b c e h =
    let same_head : x ≡ y = cc in
    let same_tail : f ++ b ≡ g ++ c = cc in
    let more = same_cut f g b c same_tail h in
    (ap (λ (l : List A). x ∷ l) more.0 ∙ ap (λ z. z ∷ g) same_head, more.1)

words_length : (ms : List Marked) → length (words ms) ≡ length ms
words_length [] = refl
words_length (m ∷ ms) = let h = words_length ms in omega (arith, h)

-- Where the answer is Deep, the token is the first that is too deep in each sentence that begins so.
first_too_deep : (took : List Token) (t : Token) (over : List Token) → top (took ++ t ∷ over) ≡ (Deep, t ∷ over) → FirstTooDeep took t
first_too_deep took t over e x front back m p w same = go (cut (front ++ m ∷ back))
  where
    line : words (front ++ m ∷ back) ≡ took ++ t ∷ words back
    line = words-append front (m ∷ back) ∙ ap (λ (l : List Token). l ++ m.1 ∷ words back) w ∙ ap (λ c. took ++ c ∷ words back) same

    reads : top (words (front ++ m ∷ back)) ≡ (Deep, t ∷ words back)
    reads = ap top line ∙ goes_as took t over (words back) Deep e

    go : Cut (front ++ m ∷ back) → Shallow front × (limit < m.0)
    go (shallow s) = (let h : Got x ≡ Deep = not_deep (top (words (front ++ m ∷ back))) (Got x) [] (t ∷ words back) (shallow_read x (front ++ m ∷ back) p s) reads in absurd cc)
    go (deep f b n eq d s) =
        let q : Sentence x (f ++ n ∷ b) = (let F : List Marked → Type 0 = λ l. Sentence x l in subst F eq p) in
        let rests : n.1 ∷ words b ≡ t ∷ words back =
        same_rest (top (words (front ++ m ∷ back))) Deep (n.1 ∷ words b) (t ∷ words back)
        (ap top (ap words eq ∙ words-append f (n ∷ b)) ∙ deep_read x f b n q s d (words b)) reads in
        let as_long : length (n ∷ b) ≡ length (m ∷ back) = omega (arith, ap length rests, words_length b, words_length back) in
        let both = same_cut f front (n ∷ b) (m ∷ back) (sym eq) as_long in
        let F : List Marked → Type 0 = λ l. Shallow l in
        let head : n ≡ m = cc in
        let G : Marked → Type 0 = λ c. limit < c.0 in
        (subst F both.0 s, subst G head d)

not_bad : (x : Tree) (ms : List Marked) (rest : List Token) → Sentence x ms → top (words ms) ≡ (Bad, rest) → ⊥
not_bad x ms rest p e = go (cut ms)
  where
    go : Cut ms → ⊥
    go (shallow s) = let h : Got x ≡ Bad = ap (λ (z : Answer Tree). z.0) (sym (shallow_read x ms p s) ∙ e) in cc
    go (deep f b m eq d s) =
        let q : Sentence x (f ++ m ∷ b) = (let F : List Marked → Type 0 = λ l. Sentence x l in subst F eq p) in
        let h : ◌≡◌ {A = Outcome Tree} Bad Deep =
        not_deep (top (words ms)) Bad rest (m.1 ∷ words b) e (ap top (ap words eq ∙ words-append f (m ∷ b)) ∙ deep_read x f b m q s d (words b)) in
        cc

not_early : (x y : Tree) (ms : List Marked) (t : Token) (rest : List Token) → Sentence x ms → top (words ms) ≡ (Got y, t ∷ rest) → ⊥
not_early x y ms t rest p e = go (cut ms)
  where
    go : Cut ms → ⊥
    go (shallow s) = let h : [] ≡ t ∷ rest = ap (λ (z : Answer Tree). z.1) (sym (shallow_read x ms p s) ∙ e) in cc
    go (deep f b m eq d s) =
        let q : Sentence x (f ++ m ∷ b) = (let F : List Marked → Type 0 = λ l. Sentence x l in subst F eq p) in
        let h : ◌≡◌ {A = Outcome Tree} (Got y) Deep =
        not_deep (top (words ms)) (Got y) (t ∷ rest) (m.1 ∷ words b) e (ap top (ap words eq ∙ words-append f (m ∷ b)) ∙ deep_read x f b m q s d (words b)) in
        cc

whole_shallow : (x y : Tree) (ms : List Marked) → Sentence x ms → top (words ms) ≡ (Got y, []) → Shallow ms
whole_shallow x y ms p e = go (cut ms)
  where
    go : Cut ms → Shallow ms
    go (shallow s) = s
    go (deep f b m eq d s) =
        let q : Sentence x (f ++ m ∷ b) = (let F : List Marked → Type 0 = λ l. Sentence x l in subst F eq p) in
        let h : ◌≡◌ {A = Outcome Tree} (Got y) Deep =
        not_deep (top (words ms)) (Got y) [] (m.1 ∷ words b) e (ap top (ap words eq ∙ words-append f (m ∷ b)) ∙ deep_read x f b m q s d (words b)) in
        absurd cc

-- ---- the answer

viable : (took : List Token) → Begun (Phrase 0 (ref the.text)) took → Viable took
viable took b = viable_of took (record { tree = b.value; marks = b.marks; sentence = (b.goes, b.phrase); more = b.more; spelled = b.spelled })

-- A sentence that begins with these tokens and this one spells them before more.
begins_line : (took : List Token) (t : Token) (b : Begins (took ++ t ∷ [])) → words b.marks ≡ took ++ t ∷ b.more
begins_line took t b = b.spelled ∙ append_assoc took (t ∷ []) b.more

module _ (list : TokenList) where
  syntax : (took rest : List Token) (o : Outcome Tree) → (o ≡ Deep → ⊥) → list.tokens ≡ took ++ rest → top list.tokens ≡ (o, rest) → Viable took
      → Refused took rest → IsSyntax list (length list.tokens - length rest) (place_of rest list.end)
  syntax took rest o not h e v out = record {
    took = took;
    rest = rest;
    split = h;
    counted = omega (arith, ap length h, length-append took rest);
    placed = refl;
    viable = v;
    refused = out;
    shallow = shallow_front took rest o not (ap top (sym h) ∙ e);
  }

  refused_bad : (took rest : List Token) → list.tokens ≡ took ++ rest → top list.tokens ≡ (Bad, rest) → Refused took rest
  refused_bad took [] h e = λ x ms p w. not_bad x ms [] p (ap top (w ∙ sym (nil_right took) ∙ sym h) ∙ e)
  refused_bad took (t ∷ over) h e = λ v.
      let b = begins_of (took ++ t ∷ []) v in
      not_bad b.tree b.marks (t ∷ b.more) b.sentence (ap top (begins_line took t b) ∙ goes_as took t over b.more Bad (ap top (sym h) ∙ e))

  answer : (a : Answer Tree) → top list.tokens ≡ a → Follows (Phrase 0 (ref the.text)) list.tokens a → Parses list (result_of list (finished a))
  answer (Got x, []) e (ms, f, p, h, s) =
      let line : words ms ≡ list.tokens = sym (nil_right (words ms)) ∙ sym h in
      record { marks = ms; sentence = (f, p); spelled = line; shallow = whole_shallow x x ms (f, p) (ap top line ∙ e) }
  answer (Got x, t ∷ over) e (ms, f, p, h, s) =
      syntax (words ms) (t ∷ over) (Got x) (λ k. cc) h e
      (viable (words ms) (record { value = x; marks = ms; goes = f; phrase = p; more = []; spelled = sym (nil_right (words ms)) }))
      (λ v. let b = begins_of (words ms ++ t ∷ []) v in
      not_early b.tree x b.marks t b.more b.sentence (ap top (begins_line (words ms) t b) ∙ goes_as (words ms) t over b.more (Got x) (ap top (sym h) ∙ e)))
  answer (Bad, rest) e (took, b, h) = syntax took rest Bad (λ k. cc) h e (viable took b) (refused_bad took rest h e)
  answer (Deep, []) e (took, a, over, b, h, h') = absurd cc
  answer (Deep, t ∷ over) e (took, a, over', b, h, h') =
      let same_token : a ≡ t = cc in
      let F : Token → Type 0 = λ c. Viable (took ++ c ∷ []) in
      record {
        took = took;
        token = t;
        rest = over;
        split = h;
        placed = refl;
        viable = subst F same_token (viable (took ++ a ∷ []) b);
        deep = first_too_deep took t over (ap top (sym h) ∙ e);
      }

pub parses : (list : TokenList) → Parses list (parsed list)
unfolding parsed text_answer
parses list = answer list (top list.tokens) refl (top_sound list.tokens)

-- ---- one tree

abbrev bound : List Marked → ℕ
bound [] = 0
bound (m ∷ ms) = m.0 + bound ms

not_bounded : {A : Type 0} (most : ℕ) (ms : List Marked) (a : Answer A) (rest : List Token) → bound ms ≤ most → expected most ms a rest ≡ a
not_bounded most [] a rest h = refl
not_bounded most (m ∷ ms) a rest h =
    cond_false (nat_lt most m.0) _ _ (le-ltb most m.0 (omega (arith, h))) ∙ not_bounded most ms a rest (omega (arith, h))

pub one_tree : (x y : Tree) (ms ns : List Marked) → Sentence x ms → Sentence y ns → words ms ≡ words ns → x ≡ y
one_tree x y ms ns p q e =
    let most : ℕ = bound ms + bound ns in
    let one = top_complete most x ms p ∙ not_bounded most ms (Got x, []) [] (omega arith) in
    let two = top_complete most y ns q ∙ not_bounded most ns (Got y, []) [] (omega arith) in
    let same : Got x ≡ Got y = ap (λ (z : Answer Tree). z.0) (sym one ∙ ap (λ (l : List Token). symbol most the.text l) e ∙ two) in
    cc
