-- A phrase begins with a token that may begin one.
use Rattle.std.proofs.Common.{◌≡◌, ℕ, Bool, true, false, List, [], ◌∷◌, ◌++◌, refl, sym, ◌∙◌}
use Rattle.std.specs.Prelude.{if◌then◌else◌, ◌==◌}
use Rattle.cc_lex.specs.declared.token.Token.{Token}
use Rattle.cc_grammar.specs.Begins.{has, empty, begins}
use Rattle.cc_grammar.specs.Ebnf.{Ebnf, seq, alt, many, opt, ref}
use Rattle.cc_grammar.specs.Grammar.{rule}
use Rattle.cc_grammar.specs.Kinds.{Kind, kind}
use Rattle.cc_grammar.specs.Phrases.{Marked, Phrase, p_tok, p_seq, p_left, p_right, p_end, p_more, p_none, p_some, p_ref, p_nest}
use Rattle.cc_grammar.specs.Symbols.{Symbol}
use Rattle.cc_grammar.specs.Trees.{Value}
use Rattle.cc_grammar.proofs.Basics.{or_left, or_right, and_both, has_left, has_right}
use Rattle.cc_grammar.proofs.Facts.{empty_is, begun_is}

-- what is known of the front of the phrases of a form
abbrev pub Starts : Ebnf → List Marked → Type 0
Starts g [] = empty g ≡ true
Starts g (m ∷ _) = has (begins g) (kind m.1) ≡ true

seq_first : (e : Bool) (f g : List Kind) (k : Kind) → has f k ≡ true → has (if e then f ++ g else f) k ≡ true
seq_first true f g k h = has_left f g k h
seq_first false f g k h = h

seq_second : (e : Bool) (f g : List Kind) (k : Kind) → e ≡ true → has g k ≡ true → has (if e then f ++ g else f) k ≡ true
seq_second true f g k h i = has_right f g k i
seq_second false f g k h i = cc

seq_starts : (a b : Ebnf) (xs ys : List Marked) → Starts a xs → Starts b ys → Starts (seq a b) (xs ++ ys)
seq_starts a b [] [] s t = and_both _ _ s t
seq_starts a b [] (y ∷ ys) s t = seq_second (empty a) (begins a) (begins b) (kind y.1) s t
seq_starts a b (x ∷ xs) ys s t = seq_first (empty a) (begins a) (begins b) (kind x.1) s

left_starts : (a b : Ebnf) (xs : List Marked) → Starts a xs → Starts (alt a b) xs
left_starts a b [] s = or_left _ _ s
left_starts a b (x ∷ xs) s = has_left (begins a) (begins b) (kind x.1) s

right_starts : (a b : Ebnf) (xs : List Marked) → Starts b xs → Starts (alt a b) xs
right_starts a b [] s = or_right _ _ s
right_starts a b (x ∷ xs) s = has_right (begins a) (begins b) (kind x.1) s

more_starts : (a : Ebnf) (xs ys : List Marked) → Starts a xs → Starts (many a) ys → Starts (many a) (xs ++ ys)
more_starts a [] ys s t = t
more_starts a (x ∷ xs) ys s t = s

some_starts : (a : Ebnf) (xs : List Marked) → Starts a xs → Starts (opt a) xs
some_starts a [] s = refl
some_starts a (x ∷ xs) s = s

ref_starts : (s : Symbol) (xs : List Marked) → Starts (rule s) xs → Starts (ref s) xs
ref_starts s [] e = sym (empty_is s) ∙ e
ref_starts s (x ∷ xs) e = begun_is s (kind x.1) e

one_starts : (k : Kind) (t : Token) → (k == kind t) ≡ true → has (k ∷ []) (kind t) ≡ true
one_starts k t e = or_left (k == kind t) false e

pub first : {d : ℕ} {g : Ebnf} {v : Value g} {ms : List Marked} {f : List Kind} → Phrase d g v ms f → Starts g ms
first (p_tok {k = k} {t = t} e) = one_starts k t e
first (p_seq {a = a} {b = b} {xs = xs} {ys = ys} p q s) = seq_starts a b xs ys (first p) (first q)
first (p_left {a = a} {b = b} {xs = xs} p) = left_starts a b xs (first p)
first (p_right {a = a} {b = b} {xs = xs} p) = right_starts a b xs (first p)
first p_end = refl
first (p_more {a = a} {xs = xs} {ys = ys} p q s) = more_starts a xs ys (first p) (first q)
first p_none = refl
first (p_some {a = a} {xs = xs} p) = some_starts a xs (first p)
first (p_ref {s = s} {xs = xs} p) = ref_starts s xs (first p)
first (p_nest {s = s} {xs = xs} p) = ref_starts s xs (first p)
