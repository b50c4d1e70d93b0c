-- What the phrases of the grammar are: which tokens are one, what it reads, and how deep each token stands.
use Rattle.std.specs.Prelude.{◌≡◌, ◌==◌, ℕ, suc, true, false, List, [], ◌∷◌, ◌++◌, Some, None}
use Rattle.std.proofs.Common.{inl, inr}
use Rattle.cc_lex.specs.declared.token.Token.{Token}
use Rattle.cc_grammar.specs.Begins.{has, begins}
use Rattle.cc_grammar.specs.Ebnf.{Ebnf, tok, seq, alt, many, opt, ref, nest}
use Rattle.cc_grammar.specs.Grammar.{rule}
use Rattle.cc_grammar.specs.Kinds.{Kind, kind}
use Rattle.cc_grammar.specs.Symbols.{Symbol}
use Rattle.cc_grammar.specs.Trees.{Value, made}

-- A token, and how many phrases that add to the nesting hold it. Where such a phrase begins with the token, this is the nesting
-- of the innermost one.
abbrev pub Marked : Type 0
Marked = ℕ × Token

abbrev pub words : List Marked → List Token
words [] = []
words (m ∷ ms) = m.1 ∷ words ms

-- the tokens do not begin with one of these kinds
abbrev pub Stops : List Kind → List Token → Type 0
Stops kinds [] = Unit {0}
Stops kinds (t ∷ _) = has kinds (kind t) ≡ false

-- What goes on with a row of two parts: what goes on with the second, and where that has no token, what goes on with the first.
abbrev pub joined : List Kind → List Kind → List Marked → List Kind
joined first second [] = second ++ first
joined first second (_ ∷ _) = second

-- `Phrase depth form value tokens goes_on`: these tokens are a phrase of the form that stands within `depth` phrases that add
-- to the nesting, and this is what it reads. `goes_on` are the kinds of token with which it could have been longer. Each part of
-- a row is as long as it can be: the next part does not begin with a token that goes on with it. So an `else` belongs to the
-- nearest `if` that may have it.
pub data Phrase : ℕ → (g : Ebnf) → Value g → List Marked → List Kind → Type 0 where
  p_tok : {d : ℕ} {k : Kind} {t : Token} → (k == kind t) ≡ true → Phrase d (tok k) t ((d, t) ∷ []) []
  p_seq : {d : ℕ} {a b : Ebnf} {x : Value a} {y : Value b} {xs ys : List Marked} {f g : List Kind} →
      Phrase d a x xs f → Phrase d b y ys g → Stops f (words ys) → Phrase d (seq a b) (x, y) (xs ++ ys) (joined f g ys)
  p_left : {d : ℕ} {a b : Ebnf} {x : Value a} {xs : List Marked} {f : List Kind} →
      Phrase d a x xs f → Phrase d (alt a b) (inl x) xs f
  p_right : {d : ℕ} {a b : Ebnf} {y : Value b} {xs : List Marked} {f : List Kind} →
      Phrase d b y xs f → Phrase d (alt a b) (inr y) xs f
  p_end : {d : ℕ} {a : Ebnf} → Phrase d (many a) [] [] (begins a)
  p_more : {d : ℕ} {a : Ebnf} {x : Value a} {vs : List (Value a)} {xs ys : List Marked} {f g : List Kind} →
      Phrase d a x xs f → Phrase d (many a) vs ys g → Stops f (words ys)
      → Phrase d (many a) (x ∷ vs) (xs ++ ys) (joined f g ys)
  p_none : {d : ℕ} {a : Ebnf} → Phrase d (opt a) None [] (begins a)
  p_some : {d : ℕ} {a : Ebnf} {x : Value a} {xs : List Marked} {f : List Kind} →
      Phrase d a x xs f → Phrase d (opt a) (Some x) xs f
  p_ref : {d : ℕ} {s : Symbol} {v : Value (rule s)} {xs : List Marked} {f : List Kind} →
      Phrase d (rule s) v xs f → Phrase d (ref s) (made s v) xs f
  p_nest : {d : ℕ} {s : Symbol} {v : Value (rule s)} {xs : List Marked} {f : List Kind} →
      Phrase (suc d) (rule s) v xs f → Phrase d (nest s) (made s v) xs f
