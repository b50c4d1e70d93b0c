-- A reader of each form, on lists: it takes a phrase from the front of the tokens, with one token ahead.
use Rattle.std.specs.Prelude.{◌==◌, ℕ, zero, suc, ◌-◌, Bool, false, if◌then◌else◌, nat_lt, List, [], ◌∷◌, ◌++◌, length, Some, None, Result, Ok, Err}
use Rattle.std.proofs.Common.{inl, inr}
use Rattle.cc_lex.specs.TokenList.{TokenList}
use Rattle.cc_lex.specs.declared.token.Token.{Token}
use Rattle.cc_grammar.specs.Begins.{has, starts, begins}
use Rattle.cc_grammar.specs.Ebnf.{Ebnf, tok, seq, alt, many, opt, ref, nest}
use Rattle.cc_grammar.specs.Grammar.{rule}
use Rattle.cc_grammar.specs.Kinds.{Kind, kind}
use Rattle.cc_grammar.specs.Phrases.{Marked, words}
use Rattle.cc_grammar.specs.Sentences.{limit, place_of}
use Rattle.cc_grammar.specs.Symbols.{Symbol}
use Rattle.cc_grammar.specs.Symbols as the
use Rattle.cc_grammar.specs.Trees.{TreeOf, Value, made}
use Rattle.cc_grammar.specs.declared.fault.ParseError.{ParseError}
use Rattle.cc_grammar.specs.declared.fault.ParseError.TheVariants as error
use Rattle.cc_grammar.specs.declared.tree.Tree.{Tree}

-- What a reader found: a phrase, a token that does not go on with one, or the first token of a phrase that is too deep.
pub data Outcome (A : Type 0) : Type 0 where
  Got : A → Outcome A
  Bad : Outcome A
  Deep : Outcome A

-- what was found, and the tokens that are left
abbrev pub Answer : Type 0 → Type 0
Answer A = Outcome A × List Token

abbrev pub Reader : Type 0 → Type 0
Reader A = List Token → Answer A

abbrev pub and_then : {A B : Type 0} → Answer A → (A → Reader B) → Answer B
and_then (Got x, rest) f = f x rest
and_then (Bad, rest) f = (Bad, rest)
and_then (Deep, rest) f = (Deep, rest)

abbrev pub answered : {A B : Type 0} → (A → B) → Answer A → Answer B
answered h (Got x, rest) = (Got (h x), rest)
answered h (Bad, rest) = (Bad, rest)
answered h (Deep, rest) = (Deep, rest)

-- the next token is of one of these kinds
abbrev pub at : List Kind → List Token → Bool
at kinds [] = false
at kinds (t ∷ _) = has kinds (kind t)

abbrev pub expect : Kind → Reader Token
expect k [] = (Bad, [])
expect k (t ∷ ts) = if k == kind t then (Got t, ts) else (Bad, t ∷ ts)

abbrev pub both : {A B : Type 0} → Reader A → Reader B → Reader (A × B)
both p q ts = and_then (p ts) (λ x rest. answered (λ y. (x, y)) (q rest))

-- as many as there are, `n` at most
abbrev pub loop : {A : Type 0} → Reader A → List Kind → ℕ → Reader (List A)
loop p kinds zero ts = (Got [], ts)
loop p kinds (suc n) ts =
    if at kinds ts then and_then (p ts) (λ x rest. answered (λ xs. x ∷ xs) (loop p kinds n rest)) else (Got [], ts)

-- a reader of each form, from readers of the symbols
module _ (refs nests : (s : Symbol) → Reader (TreeOf s)) where
  abbrev pub read : (g : Ebnf) → Reader (Value g)
  read (tok k) = expect k
  read (seq a b) = both (read a) (read b)
  read (alt a b) = λ ts. if at (begins a) ts then answered inl (read a ts) else answered inr (read b ts)
  read (many a) = λ ts. loop (read a) (begins a) (length ts) ts
  read (opt a) = λ ts. if at (begins a) ts then answered (λ x. Some x) (read a ts) else (Got None, ts)
  read (ref s) = refs s
  read (nest s) = nests s

-- the symbols, each from those of which its rule is made, `r` deep
abbrev pub ranked : ((s : Symbol) → Reader (TreeOf s)) → ℕ → (s : Symbol) → Reader (TreeOf s)
ranked nests zero s ts = (Bad, ts)
ranked nests (suc r) s ts = answered (made s) (read (ranked nests r) nests (rule s) ts)

-- phrases that add to the nesting, where so many more may hold each other
abbrev pub level : ℕ → (s : Symbol) → Reader (TreeOf s)
level zero s ts = if at (starts s) ts then (Deep, ts) else (Bad, ts)
level (suc n) s ts = ranked (level n) 23 s ts

-- the reader of a symbol, where so many more phrases that add to the nesting may be open
unfoldable pub symbol : ℕ → (s : Symbol) → Reader (TreeOf s)
symbol n s ts = ranked (level n) 23 s ts

-- What a reader answers to the tokens of a phrase: it ends at the first one that is held too often.
abbrev pub expected : ℕ → {A : Type 0} → List Marked → Answer A → List Token → Answer A
expected most [] answer rest = answer
expected most (m ∷ ms) answer rest = if nat_lt most m.0 then (Deep, m.1 ∷ (words ms ++ rest)) else expected most ms answer rest

-- A reader of texts takes all tokens.
abbrev pub finished : {A : Type 0} → Answer A → Answer A
finished (Got x, []) = (Got x, [])
finished (Got x, t ∷ rest) = (Bad, t ∷ rest)
finished (Bad, rest) = (Bad, rest)
finished (Deep, rest) = (Deep, rest)

unfoldable pub text_answer : List Token → Answer Tree
text_answer ts = finished (symbol limit the.text ts)

abbrev pub result_of : TokenList → Answer Tree → Result Tree ParseError
result_of list (Got tree, rest) = Ok tree
result_of list (Bad, rest) = Err (error.Syntax (length list.tokens - length rest) (place_of rest list.end))
result_of list (Deep, rest) = Err (error.TooDeep (place_of rest list.end))

-- what a parser computes
unfoldable pub parsed : TokenList → Result Tree ParseError
parsed list = result_of list (text_answer list.tokens)
