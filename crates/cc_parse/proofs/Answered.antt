-- What a reader of texts found is what a parser is to answer.
use Rattle.std.proofs.Common.{◌≡◌, ℕ, ◌-◌, ◌≤◌, List, [], ◌∷◌, ◌++◌, length, refl, sym, subst, ap, arith, length-append}
use Rattle.std.specs.Prelude.{Ok}
use Rattle.cc_lex.specs.TokenList.{TokenList}
use Rattle.cc_lex.specs.declared.token.Token.{Token}
use Rattle.cc_grammar.specs.Ebnf.{ref}
use Rattle.cc_grammar.specs.Phrases.{Phrase, words}
use Rattle.cc_grammar.specs.Reading.{Answer, Outcome, Got, Bad, Deep, symbol, finished, text_answer, result_of, parsed}
use Rattle.cc_grammar.specs.Sentences.{IsSyntax, IsTooDeep, Parses, limit, place_of}
use Rattle.cc_grammar.specs.Symbols as the
use Rattle.cc_grammar.specs.declared.tree.Tree.{Tree}
use Rattle.cc_grammar.proofs.Parsed.{parses}
use Rattle.cc_grammar.proofs.Readers.{symbol_sound}
use Rattle.cc_grammar.proofs.Sound.{Follows}

-- What the reader of texts found is what a parser is to answer.
pub parses_so : (list : TokenList) (a : Answer Tree) → finished (symbol limit the.text list.tokens) ≡ a → Parses list (result_of list a)
unfolding parsed text_answer
parses_so list a e =
    let F : Answer Tree → Type 0 = λ a. Parses list (result_of list a) in
    subst F e (parses list)

-- a tree, where no token is left
pub tree_of : (list : TokenList) (tree : Tree) (rest : List Token) → symbol limit the.text list.tokens ≡ (Got tree, rest) → length rest ≡ 0
    → Parses list (Ok tree)
tree_of list tree [] e n = parses_so list (Got tree, []) (ap (λ (a : Answer Tree). finished a) e)
tree_of list tree (t ∷ rest) e n = absurd (omega (arith, n))

-- a fault of syntax, where some is left
pub more_left : (ts : List Token) (tree : Tree) (rest : List Token) → symbol limit the.text ts ≡ (Got tree, rest) → ¬ (length rest ≡ 0)
    → finished (symbol limit the.text ts) ≡ (Bad, rest)
more_left ts tree [] e n = absurd (n refl)
more_left ts tree (t ∷ rest) e n = ap (λ (a : Answer Tree). finished a) e

shorter : (ts took rest : List Token) → ts ≡ took ++ rest → length rest ≤ length ts
shorter ts took rest e = rw (e, length-append took rest) (omega arith)

-- no more tokens are left than there were
left_of : (ts : List Token) (a : Answer Tree) → Follows (Phrase 0 (ref the.text)) ts a → length (finished a).1 ≤ length ts
left_of ts (Got x, []) (ms, f, p, e, s) = shorter ts (words ms) [] e
left_of ts (Got x, t ∷ rest) (ms, f, p, e, s) = shorter ts (words ms) (t ∷ rest) e
left_of ts (Bad, rest) (took, b, e) = shorter ts took rest e
left_of ts (Deep, rest) (took, a, over, b, e, e') = shorter ts took rest e

pub no_more : (ts : List Token) (o : Outcome Tree) (rest : List Token) → finished (symbol limit the.text ts) ≡ (o, rest) → length rest ≤ length ts
no_more ts o rest e =
    let F : Answer Tree → Type 0 = λ a. length a.1 ≤ length ts in
    subst F e (left_of ts (symbol limit the.text ts) (symbol_sound limit 0 the.text ts))

-- the faults, where so much is left
pub syntax_of : (list : TokenList) (rest : List Token) → finished (symbol limit the.text list.tokens) ≡ (Bad, rest)
    → IsSyntax list (length list.tokens - length rest) (place_of rest list.end)
syntax_of list rest e = parses_so list (Bad, rest) e

pub deep_of : (list : TokenList) (rest : List Token) → finished (symbol limit the.text list.tokens) ≡ (Deep, rest)
    → IsTooDeep list (place_of rest list.end)
deep_of list rest e = parses_so list (Deep, rest) e
