-- Sentences, the lists of tokens that begin one, and what a parser answers.
use Rattle.std.specs.Prelude.{◌≡◌, ℕ, ◌<◌, ◌≤◌, List, [], ◌∷◌, ◌++◌, length, Result, Ok, Err}
use Rattle.cc_base.specs.declared.names.Place.{Place}
use Rattle.cc_lex.specs.TokenList.{TokenList}
use Rattle.cc_lex.specs.declared.token.Token.{Token}
use Rattle.cc_grammar.specs.Ebnf.{ref}
use Rattle.cc_grammar.specs.Fronts.{Front}
use Rattle.cc_grammar.specs.Kinds.{Kind}
use Rattle.cc_grammar.specs.Phrases.{Marked, words, Phrase}
use Rattle.cc_grammar.specs.Productions.{production}
use Rattle.cc_grammar.specs.Symbols as the
use Rattle.cc_grammar.specs.declared.fault.ParseError.{ParseError}
use Rattle.cc_grammar.specs.declared.fault.ParseError.TheVariants as error
use Rattle.cc_grammar.specs.declared.tree.Tree.{Tree}

-- These tokens are the text of the tree, each with the number of phrases that hold it among those that add to the nesting.
abbrev pub Sentence : Tree → List Marked → Type 0
Sentence tree ms = (goes_on : List Kind) × Phrase 0 (ref the.text) tree ms goes_on

-- these tokens are a front of a text
abbrev pub Viable : List Token → Type 0
Viable ts = Front production (ref the.text) ts

-- some sentence has these tokens in front
pub record Begins (ts : List Token) : Type 0 where
  pub tree : Tree
  pub marks : List Marked
  pub sentence : Sentence tree marks
  pub more : List Token
  pub spelled : words marks ≡ ts ++ more

-- Two lists with the same tokens in front have the same nesting there.
pub record SameNesting (took : List Token) (ms ns : List Marked) : Type 0 where
  pub front : List Marked
  pub left : List Marked
  pub right : List Marked
  pub first : ms ≡ front ++ left
  pub second : ns ≡ front ++ right
  pub spelled : words front ≡ took

-- how many phrases that add to the nesting may hold a token
unfoldable pub limit : ℕ
limit = 200

-- no token is held by more
abbrev pub Shallow : List Marked → Type 0
Shallow [] = Unit {0}
Shallow (m ∷ ms) = (m.0 ≤ limit) × Shallow ms

-- In each sentence that begins with these tokens none of them is too deep.
abbrev pub ShallowFront : List Token → Type 0
ShallowFront took = (tree : Tree) (front back : List Marked) → Sentence tree (front ++ back) → words front ≡ took → Shallow front

-- In each sentence that begins with these tokens and this one, it is the first that is too deep.
abbrev pub FirstTooDeep : List Token → Token → Type 0
FirstTooDeep took t = (tree : Tree) (front back : List Marked) (m : Marked) →
    Sentence tree (front ++ m ∷ back) → words front ≡ took → m.1 ≡ t → Shallow front × (limit < m.0)

-- The next token goes on with no text; where none is left, these are no text.
abbrev pub Refused : List Token → List Token → Type 0
Refused took [] = (tree : Tree) (ms : List Marked) → Sentence tree ms → words ms ≡ took → ⊥
Refused took (t ∷ _) = Viable (took ++ t ∷ []) → ⊥

-- the place of the first token, or of the text's end
abbrev pub place_of : List Token → Place → Place
place_of [] end = end
place_of (t ∷ _) end = t.place

-- the tokens are those of the tree, and none is too deep
pub record IsTree (list : TokenList) (tree : Tree) : Type 0 where
  pub marks : List Marked
  pub sentence : Sentence tree marks
  pub spelled : words marks ≡ list.tokens
  pub shallow : Shallow marks

-- The first `at` tokens begin a text, and are refused before the rest. None of them is too deep.
pub record IsSyntax (list : TokenList) (at : ℕ) (place : Place) : Type 0 where
  pub took : List Token
  pub rest : List Token
  pub split : list.tokens ≡ took ++ rest
  pub counted : length took ≡ at
  pub placed : place ≡ place_of rest list.end
  pub viable : Viable took
  pub refused : Refused took rest
  pub shallow : ShallowFront took

-- The tokens up to one of this place begin a text, and it is the first that is too deep.
pub record IsTooDeep (list : TokenList) (place : Place) : Type 0 where
  pub took : List Token
  pub token : Token
  pub rest : List Token
  pub split : list.tokens ≡ took ++ token ∷ rest
  pub placed : place ≡ token.place
  pub viable : Viable (took ++ token ∷ [])
  pub deep : FirstTooDeep took token

-- what a parser answers, unless memory is wanting
abbrev pub Parses : TokenList → Result Tree ParseError → Type 0
Parses list (Ok tree) = IsTree list tree
Parses list (Err (error.Syntax at place)) = IsSyntax list at place
Parses list (Err (error.TooDeep place)) = IsTooDeep list place
Parses list (Err error.Memory) = Unit {0}
