-- What may go on with a phrase.
use Rattle.std.proofs.Common.{◌≡◌, ℕ, Bool, true, false, List, [], ◌∷◌, ◌++◌, refl}
use Rattle.std.specs.Prelude.{if◌then◌else◌}
use Rattle.cc_grammar.specs.Begins.{has, empty, begins}
use Rattle.cc_grammar.specs.Ebnf.{Ebnf, seq, many}
use Rattle.cc_grammar.specs.Kinds.{Kind}
use Rattle.cc_grammar.specs.Phrases.{Marked, joined, Phrase, p_tok, p_seq, p_left, p_right, p_end, p_more, p_none, p_some, p_ref, p_nest}
use Rattle.cc_grammar.specs.Trees.{Value}
use Rattle.cc_grammar.proofs.Basics.{lacks_left, lacks_right, lacks_both}
use Rattle.cc_grammar.proofs.Facts.{ends_not}
use Rattle.cc_grammar.proofs.First.{Starts, first}
use Rattle.cc_grammar.proofs.Tables.{tails}

empty_tails : (e : Bool) (f g : List Kind) (k : Kind) → e ≡ true → has (if e then f ++ g else f) k ≡ false → has (f ++ g) k ≡ false
empty_tails true f g k e h = h
empty_tails false f g k e h = absurd cc

some_tails : (e : Bool) (f g : List Kind) (k : Kind) → has (if e then f ++ g else f) k ≡ false → has f k ≡ false
some_tails true f g k h = lacks_left f g k h
some_tails false f g k h = h

seq_tails : (a b : Ebnf) (ys : List Marked) (f g : List Kind) (k : Kind) → Starts b ys
    → (has (tails a) k ≡ false → has f k ≡ false) → (has (tails b) k ≡ false → has g k ≡ false)
    → has (tails (seq a b)) k ≡ false → has (joined f g ys) k ≡ false
seq_tails a b [] f g k s p q e =
    let all = empty_tails (empty b) (tails b) (tails a) k s e in
    lacks_both g f k (q (lacks_left (tails b) (tails a) k all)) (p (lacks_right (tails b) (tails a) k all))
seq_tails a b (m ∷ ys) f g k s p q e = q (some_tails (empty b) (tails b) (tails a) k e)

more_tails : (a : Ebnf) (ys : List Marked) (f g : List Kind) (k : Kind)
    → (has (tails a) k ≡ false → has f k ≡ false) → (has (tails (many a)) k ≡ false → has g k ≡ false)
    → has (tails (many a)) k ≡ false → has (joined f g ys) k ≡ false
more_tails a [] f g k p q e = lacks_both g f k (q e) (p (lacks_right (begins a) (tails a) k e))
more_tails a (m ∷ ys) f g k p q e = q e

-- Only these kinds of token go on with a phrase of the form.
pub goes_on : {d : ℕ} {g : Ebnf} {v : Value g} {ms : List Marked} {f : List Kind} → Phrase d g v ms f
    → (k : Kind) → has (tails g) k ≡ false → has f k ≡ false
goes_on (p_tok h) k e = refl
goes_on (p_seq {a = a} {b = b} {ys = ys} {f = f} {g = g} p q s) k e = seq_tails a b ys f g k (first q) (goes_on p k) (goes_on q k) e
goes_on (p_left {a = a} {b = b} p) k e = goes_on p k (lacks_left (tails a) (tails b) k e)
goes_on (p_right {a = a} {b = b} p) k e = goes_on p k (lacks_right (tails a) (tails b) k e)
goes_on (p_end {a = a}) k e = lacks_left (begins a) (tails a) k e
goes_on (p_more {a = a} {ys = ys} {f = f} {g = g} p q s) k e = more_tails a ys f g k (goes_on p k) (goes_on q k) e
goes_on (p_none {a = a}) k e = lacks_left (begins a) (tails a) k e
goes_on (p_some {a = a} p) k e = goes_on p k (lacks_right (begins a) (tails a) k e)
goes_on (p_ref {s = s} p) k e = goes_on p k (ends_not s k e)
goes_on (p_nest {s = s} p) k e = goes_on p k (ends_not s k e)
