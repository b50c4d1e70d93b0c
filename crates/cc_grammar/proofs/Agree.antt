-- Phrases that begin with the same tokens have the same nesting there.
use Rattle.std.proofs.Common.{◌≡◌, ℕ, true, false, List, [], ◌∷◌, ◌++◌, length, refl, sym, ◌∙◌, ap, append_assoc, arith, length-append}
use Rattle.std.proofs.lemmas.List.{append_cancel_left}
use Rattle.cc_lex.specs.declared.token.Token.{Token}
use Rattle.cc_grammar.specs.Begins.{has, empty, begins}
use Rattle.cc_grammar.specs.Ebnf.{Ebnf}
use Rattle.cc_grammar.specs.Kinds.{Kind, kind}
use Rattle.cc_grammar.specs.Phrases.{Marked, words, Stops, Phrase, p_tok, p_seq, p_left, p_right, p_end, p_more, p_none, p_some, p_ref, p_nest}
use Rattle.cc_grammar.specs.Sentences.{Sentence, SameNesting}
use Rattle.cc_grammar.specs.Symbols.{Symbol}
use Rattle.cc_grammar.specs.Symbols as the
use Rattle.cc_grammar.specs.Trees.{Value}
use Rattle.cc_grammar.specs.declared.tree.Tree.{Tree}
use Rattle.cc_grammar.proofs.Basics.{words-rest, nil_right, stops_first, stops_second, apart, apart_lacks}
use Rattle.cc_grammar.proofs.Facts.{Plain, plain, rank_low}
use Rattle.cc_grammar.proofs.First.{Starts, first}
use Rattle.cc_grammar.proofs.Tables.{rank}

-- Two phrases are one, and the tokens that both have in front go on behind them, or they agree on these tokens.
data Agree (ms ns : List Marked) (took : List Token) : Type 0 where
  same : (next : List Token) → ms ≡ ns → took ≡ words ms ++ next → Agree ms ns took
  inside : SameNesting took ms ns → Agree ms ns took

-- no token is in front
none : (ms ns : List Marked) → Agree ms ns []
none ms ns = inside (record { front = []; left = ms; right = ns; first = refl; second = refl; spelled = refl })

longer : (took : List Token) (ms ns xs ys : List Marked) → SameNesting took ms ns → SameNesting took (ms ++ xs) (ns ++ ys)
longer took ms ns xs ys a =
    record {
      front = a.front;
      left = a.left ++ xs;
      right = a.right ++ ys;
      first = ap (λ (l : List Marked). l ++ xs) a.first ∙ append_assoc a.front a.left xs;
      second = ap (λ (l : List Marked). l ++ ys) a.second ∙ append_assoc a.front a.right ys;
      spelled = a.spelled;
    }

behind : (took next : List Token) (ms ns xs ys : List Marked) → ms ≡ ns → took ≡ words ms ++ next → SameNesting next xs ys → SameNesting took (ms ++ xs) (ns ++ ys)
behind took next ms ns xs ys e h a =
    record {
      front = ms ++ a.front;
      left = a.left;
      right = a.right;
      first = ap (λ (l : List Marked). ms ++ l) a.first ∙ sym (append_assoc ms a.front a.left);
      second = ap (λ (l : List Marked). l ++ ys) (sym e) ∙ ap (λ (l : List Marked). ms ++ l) a.second ∙ sym (append_assoc ms a.front a.right);
      spelled = words_both ∙ ap (λ (l : List Token). words ms ++ l) a.spelled ∙ sym h;
    }
  where
    words_both : words (ms ++ a.front) ≡ words ms ++ words a.front
    words_both = sym (nil_right (words (ms ++ a.front))) ∙ words-rest ms a.front [] ∙ ap (λ (l : List Token). words ms ++ l) (nil_right (words a.front))

-- Rows agree where their parts do.
row : (took over over' : List Token) (ms ns xs ys : List Marked) (r s : List Token) → words (ms ++ xs) ++ r ≡ took ++ over → words (ns ++ ys) ++ s ≡ took ++ over'
    → Agree ms ns took → ((next : List Token) → words xs ++ r ≡ next ++ over → words ys ++ s ≡ next ++ over' → Agree xs ys next) → Agree (ms ++ xs) (ns ++ ys) took
row took over over' ms ns xs ys r s e h (inside a) k = inside (longer took ms ns xs ys a)
row took over over' ms ns xs ys r s e h (same next one line) k = go (k next first_rest second_rest)
  where
    first_rest : words xs ++ r ≡ next ++ over
    first_rest =
        append_cancel_left (words ms) (words xs ++ r) (next ++ over)
        (sym (words-rest ms xs r) ∙ e ∙ ap (λ (l : List Token). l ++ over) line ∙ append_assoc (words ms) next over)

    second_rest : words ys ++ s ≡ next ++ over'
    second_rest =
        append_cancel_left (words ms) (words ys ++ s) (next ++ over')
        (ap (λ (l : List Marked). words l ++ (words ys ++ s)) one ∙ sym (words-rest ns ys s) ∙ h ∙ ap (λ (l : List Token). l ++ over') line ∙ append_assoc (words ms) next over')

    go : Agree xs ys next → Agree (ms ++ xs) (ns ++ ys) took
    go (inside a) = inside (behind took next ms ns xs ys one line a)
    go (same more two rest) =
        same more (ap (λ (l : List Marked). l ++ xs) one ∙ ap (λ (l : List Marked). ns ++ l) two)
        (line ∙ ap (λ (l : List Token). words ms ++ l) rest ∙ sym (words-rest ms xs more))

-- the kind of the first of some tokens
first_kind : (g : Ebnf) (ms : List Marked) (r over : List Token) (t : Token) → empty g ≡ false → Starts g ms → words ms ++ r ≡ t ∷ over → has (begins g) (kind t) ≡ true
first_kind g [] r over t e s h = absurd cc
first_kind g (m ∷ ms) r over t e s h = let same_token : m.1 ≡ t = cc in rw same_token at s

-- A phrase that is there does not agree with one that is not, but for no token.
one_missing : (g : Ebnf) (ms : List Marked) (r s over over' : List Token) (took : List Token) → empty g ≡ false → Starts g ms → Stops (begins g) s
    → words ms ++ r ≡ took ++ over → s ≡ took ++ over' → (took ≡ [] → ⊥) → ⊥
one_missing g ms r s over over' [] e st stop h i some = some refl
one_missing g ms r [] over over' (t ∷ took) e st stop h i some = absurd cc
one_missing g ms r (c ∷ s) over over' (t ∷ took) e st stop h i some =
    let begun = first_kind g ms r (took ++ over) t e st h in
    let same_token : c ≡ t = cc in
    let not_begun : has (begins g) (kind t) ≡ false = rw same_token at stop in
    absurd cc

apart_ways : (a b : Ebnf) (ms ns : List Marked) (r s over over' : List Token) (t : Token) → empty a ≡ false → empty b ≡ false → apart (begins a) (begins b) ≡ true
    → Starts a ms → Starts b ns → words ms ++ r ≡ t ∷ over → words ns ++ s ≡ t ∷ over' → ⊥
apart_ways a b ms ns r s over over' t e f h st st' i j =
    let one = first_kind a ms r over t e st i in
    let other = apart_lacks (begins a) (begins b) h (kind t) (first_kind b ns s over' t f st' j) in
    cc

agree : {d : ℕ} {g : Ebnf} {x : Value g} {y : Value g} {ms ns : List Marked} {f h : List Kind} → Phrase d g x ms f → Phrase d g y ns h → (k : ℕ) → Plain k g
    → (r s took over over' : List Token) → Stops f r → Stops h s → words ms ++ r ≡ took ++ over → words ns ++ s ≡ took ++ over' → Agree ms ns took
agree {ms = ms} {ns = ns} p q k pl r s [] over over' st st' e h = none ms ns
agree (p_tok {d = d} {t = a} i) (p_tok {t = b} j) k pl r s (t ∷ took) over over' st st' e h =
    let one : a ≡ t = cc in let two : b ≡ t = cc in
    same took (ap (λ (c : Token). (d, c) ∷ []) (one ∙ sym two)) (ap (λ (c : Token). c ∷ took) (sym one))
agree (p_seq {xs = xs} {ys = ys} {f = f} {g = g} p q c) (p_seq {xs = us} {ys = vs} {f = f'} {g = g'} p' q' c') k pl r s (t ∷ took) over over' st st' e h =
    row (t ∷ took) over over' xs us ys vs r s e h
    (agree p p' k pl.0 (words ys ++ r) (words vs ++ s) (t ∷ took) over over' (stops_first f g ys r c st) (stops_first f' g' vs s c' st')
    (sym (words-rest xs ys r) ∙ e) (sym (words-rest us vs s) ∙ h))
    (λ next i j. agree q q' k pl.1 r s next over over' (stops_second f g ys r st) (stops_second f' g' vs s st') i j)
agree (p_left p) (p_left p') k pl r s (t ∷ took) over over' st st' e h = agree p p' k pl.0 r s (t ∷ took) over over' st st' e h
agree (p_right p) (p_right p') k pl r s (t ∷ took) over over' st st' e h = agree p p' k pl.1 r s (t ∷ took) over over' st st' e h
agree (p_left {a = a} {b = b} {xs = xs} p) (p_right {xs = ys} q) k pl r s (t ∷ took) over over' st st' e h =
    absurd (apart_ways a b xs ys r s (took ++ over) (took ++ over') t pl.2 pl.3 pl.4 (first p) (first q) e h)
agree (p_right {a = a} {b = b} {xs = ys} q) (p_left {xs = xs} p) k pl r s (t ∷ took) over over' st st' e h =
    absurd (apart_ways a b xs ys s r (took ++ over') (took ++ over) t pl.2 pl.3 pl.4 (first p) (first q) h e)
agree p_end p_end k pl r s (t ∷ took) over over' st st' e h = same (t ∷ took) refl refl
agree (p_end {a = a}) (p_more {xs = xs} {ys = ys} p q c) k pl r s (t ∷ took) over over' st st' e h =
    absurd (one_missing a xs (words ys ++ s) r over' over (t ∷ took) pl.1 (first p) st (sym (words-rest xs ys s) ∙ h) e (λ n. cc))
agree (p_more {a = a} {xs = xs} {ys = ys} p q c) p_end k pl r s (t ∷ took) over over' st st' e h =
    absurd (one_missing a xs (words ys ++ r) s over over' (t ∷ took) pl.1 (first p) st' (sym (words-rest xs ys r) ∙ e) h (λ n. cc))
agree (p_more {xs = xs} {ys = ys} {f = f} {g = g} p q c) (p_more {xs = us} {ys = vs} {f = f'} {g = g'} p' q' c') k pl r s (t ∷ took) over over' st st' e h =
    row (t ∷ took) over over' xs us ys vs r s e h
    (agree p p' k pl.0 (words ys ++ r) (words vs ++ s) (t ∷ took) over over' (stops_first f g ys r c st) (stops_first f' g' vs s c' st')
    (sym (words-rest xs ys r) ∙ e) (sym (words-rest us vs s) ∙ h))
    (λ next i j. agree q q' k pl r s next over over' (stops_second f g ys r st) (stops_second f' g' vs s st') i j)
agree p_none p_none k pl r s (t ∷ took) over over' st st' e h = same (t ∷ took) refl refl
agree (p_none {a = a}) (p_some {xs = xs} p) k pl r s (t ∷ took) over over' st st' e h =
    absurd (one_missing a xs s r over' over (t ∷ took) pl.1 (first p) st h e (λ n. cc))
agree (p_some {a = a} {xs = xs} p) p_none k pl r s (t ∷ took) over over' st st' e h =
    absurd (one_missing a xs r s over over' (t ∷ took) pl.1 (first p) st' e h (λ n. cc))
agree (p_some p) (p_some p') k pl r s (t ∷ took) over over' st st' e h = agree p p' k pl.0 r s (t ∷ took) over over' st st' e h
agree (p_ref {s = u} p) (p_ref p') k pl r s (t ∷ took) over over' st st' e h = agree p p' (rank u) (plain u) r s (t ∷ took) over over' st st' e h
agree (p_nest {s = u} p) (p_nest p') k pl r s (t ∷ took) over over' st st' e h = agree p p' (rank u) (plain u) r s (t ∷ took) over over' st st' e h

nothing_behind : {A : Type 0} (xs next more : List A) → xs ≡ (xs ++ next) ++ more → next ≡ []
nothing_behind {A = A} xs next more e = go next (omega (arith, ap length e, length-append (xs ++ next) more, length-append xs next))
  where
    go : (l : List A) → length l ≡ 0 → l ≡ []
    go [] h = refl
    go (x ∷ l) h = absurd (omega (arith, h))

pub same_nesting : (took more more' : List Token) (x y : Tree) (ms ns : List Marked) → Sentence x ms → Sentence y ns → words ms ≡ took ++ more → words ns ≡ took ++ more'
    → SameNesting took ms ns
same_nesting took more more' x y ms ns p q e h = go (agree p.1 q.1 23 (rank_low the.text) [] [] took more more' tt tt (nil_right (words ms) ∙ e) (nil_right (words ns) ∙ h))
  where
    go : Agree ms ns took → SameNesting took ms ns
    go (inside a) = a
    go (same next one line) =
        let none_next : next ≡ [] = nothing_behind (words ms) next more (e ∙ ap (λ (l : List Token). l ++ more) line) in
        record {
          front = ms;
          left = [];
          right = [];
          first = sym (nil_right ms);
          second = sym one ∙ sym (nil_right ms);
          spelled = sym (nil_right (words ms)) ∙ ap (λ (l : List Token). words ms ++ l) (sym none_next) ∙ sym line;
        }
