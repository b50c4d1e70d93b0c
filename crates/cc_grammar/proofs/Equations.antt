-- The reader of each symbol follows its rule.
use Rattle.std.proofs.Common.{◌≡◌, ℕ, zero, suc, ◌-◌, ◌<◌, List, [], ◌∷◌, length, refl, ◌∙◌, ap, arith}
use Rattle.std.specs.Prelude.{if◌then◌else◌}
use Rattle.cc_lex.specs.declared.token.Token.{Token}
use Rattle.cc_grammar.specs.Ebnf.{Ebnf, tok, seq, alt, many, opt, ref, nest}
use Rattle.cc_grammar.specs.Begins.{begins}
use Rattle.cc_grammar.specs.Grammar.{rule}
use Rattle.cc_grammar.specs.Kinds.{Kind}
use Rattle.cc_grammar.specs.Reading.{Got, Bad, Deep, Answer, Reader, and_then, answered, at, loop, read, ranked, level, symbol}
use Rattle.cc_grammar.specs.Symbols.{Symbol}
use Rattle.cc_grammar.specs.Trees.{TreeOf, made}
use Rattle.cc_grammar.proofs.Facts.{Plain, plain, rank_low}
use Rattle.cc_grammar.proofs.Tables.{rank}

and_then_same : {A B : Type 0} (x : Answer A) (f g : A → Reader B) → ((v : A) (over : List Token) → f v over ≡ g v over) → and_then x f ≡ and_then x g
and_then_same (Got v, over) f g h = h v over
and_then_same (Bad, over) f g h = refl
and_then_same (Deep, over) f g h = refl

chain_same : {A B C : Type 0} (k : A → B → C) (x y : Answer A) (p q : Reader B) → x ≡ y → ((over : List Token) → p over ≡ q over)
    → and_then x (λ v over. answered (k v) (p over)) ≡ and_then y (λ v over. answered (k v) (q over))
chain_same {A = A} {C = C} k x y p q e h =
    and_then_same x (λ v over. answered (k v) (p over)) (λ v over. answered (k v) (q over)) (λ v over. ap (answered (k v)) (h over))
    ∙ ap (λ (z : Answer A). and_then z (λ v over. answered (k v) (q over))) e

loop_same : {A : Type 0} (p q : Reader A) (f : List Kind) → ((ws : List Token) → p ws ≡ q ws) → (n : ℕ) (ws : List Token) → loop p f n ws ≡ loop q f n ws
loop_same p q f h zero ws = refl
loop_same {A = A} p q f h (suc n) ws =
    ap (λ (z : Answer (List A)). if at f ws then z else (Got [], ws)) (chain_same (λ x xs. x ∷ xs) (p ws) (q ws) (loop p f n) (loop q f n) (h ws) (loop_same p q f h n))

module _ (nests : (s : Symbol) → Reader (TreeOf s)) where
  module _ (r : ℕ) (p q : (s : Symbol) → Reader (TreeOf s)) (h : (s : Symbol) → rank s < r → (ws : List Token) → p s ws ≡ q s ws) where
    read_same : (g : Ebnf) → Plain r g → (ws : List Token) → read p nests g ws ≡ read q nests g ws
    read_same (tok k) pl ws = refl
    read_same (seq a b) pl ws = chain_same (λ x y. (x, y)) (read p nests a ws) (read q nests a ws) (read p nests b) (read q nests b) (read_same a pl.0 ws) (read_same b pl.1)
    read_same (alt a b) pl ws = rw (read_same a pl.0 ws, read_same b pl.1 ws) refl
    read_same (many a) pl ws = loop_same (read p nests a) (read q nests a) (begins a) (read_same a pl.0) (length ws) ws
    read_same (opt a) pl ws = rw (read_same a pl.0 ws) refl
    read_same (ref s) pl ws = h s pl ws
    read_same (nest s) pl ws = refl

  ranked_same : (r k : ℕ) (s : Symbol) → rank s < r → rank s < k → (ws : List Token) → ranked nests r s ws ≡ ranked nests k s ws
  ranked_same zero k s lr lk ws = absurd (omega arith)
  ranked_same (suc r) zero s lr lk ws = absurd (omega arith)
  ranked_same (suc r) (suc k) s lr lk ws =
      ap (answered (made s)) (read_same (rank s) (ranked nests r) (ranked nests k) (λ u lt. ranked_same r k u (omega (arith, lt, lr)) (omega (arith, lt, lk))) (rule s) (plain s) ws)

pub symbol_is : (n : ℕ) (s : Symbol) (ws : List Token) → symbol n s ws ≡ answered (made s) (read (symbol n) (level n) (rule s) ws)
unfolding symbol
symbol_is n s ws =
    ap (answered (made s))
    (read_same (level n) (rank s) (ranked (level n) 22) (ranked (level n) 23)
    (λ u lt. let top = rank_low s in let low = rank_low u in ranked_same (level n) 22 23 u (omega (arith, lt, top)) (omega (arith, low))) (rule s) (plain s) ws)

pub level_suc : (n : ℕ) (s : Symbol) (ws : List Token) → level (suc n) s ws ≡ symbol n s ws
unfolding symbol
level_suc n s ws = refl

pub level_step : (n : ℕ) (s : Symbol) (ws : List Token) → 0 < n → level n s ws ≡ symbol (n - 1) s ws
level_step n s ws some = let e : n ≡ suc (n - 1) = omega arith in ap (λ k. level k s ws) e ∙ level_suc (n - 1) s ws
