-- What is claimed of the grammar, for every text.
use Rattle.std.specs.Prelude.{◌≡◌, ◌⊎◌, ℕ, true, List, [], ◌∷◌, ◌++◌, Result, Err}
use Rattle.cc_lex.specs.TokenList.{TokenList}
use Rattle.cc_lex.specs.declared.token.Token.{Token}
use Rattle.cc_grammar.specs.Begins.{has, starts, nullable}
use Rattle.cc_grammar.specs.Ebnf.{Ebnf, ref}
use Rattle.cc_grammar.specs.Fronts.{Whole, Front}
use Rattle.cc_grammar.specs.Grammar.{rule}
use Rattle.cc_grammar.specs.Kinds.{Kind, kind}
use Rattle.cc_grammar.specs.Phrases.{Marked, words, Phrase}
use Rattle.cc_grammar.specs.Productions.{production}
use Rattle.cc_grammar.specs.Reading.{parsed}
use Rattle.cc_grammar.specs.Sentences.{Sentence, Viable, Begins, SameNesting, Parses}
use Rattle.cc_grammar.specs.Symbols.{Symbol}
use Rattle.cc_grammar.specs.Trees.{Value}
use Rattle.cc_grammar.specs.declared.fault.ParseError.{ParseError}
use Rattle.cc_grammar.specs.declared.fault.ParseError.TheVariants as error
use Rattle.cc_grammar.specs.declared.tree.Tree.{Tree}

-- These tokens are a phrase of the form, which reads some value.
pub record IsPhrase (depth : ℕ) (g : Ebnf) (ts : List Token) : Type 0 where
  pub value : Value g
  pub marks : List Marked
  pub goes_on : List Kind
  pub phrase : Phrase depth g value marks goes_on
  pub spelled : words marks ≡ ts

-- The tokens of a sentence are those of one tree.
abbrev pub OneTree : Type 0
OneTree = (x y : Tree) (ms ns : List Marked) → Sentence x ms → Sentence y ns → words ms ≡ words ns → x ≡ y

-- Each symbol has a phrase.
abbrev pub EachHasAPhrase : Type 0
EachHasAPhrase = (s : Symbol) → (ts : List Token) × Whole production (ref s) ts

-- Each token of the table begins a phrase of its symbol.
abbrev pub StartsBegin : Type 0
StartsBegin = (s : Symbol) (t : Token) → has (starts s) (kind t) ≡ true → Front production (ref s) (t ∷ [])

-- No other does.
abbrev pub OnlyStartsBegin : Type 0
OnlyStartsBegin = (s : Symbol) (t : Token) (more : List Token) → Whole production (ref s) (t ∷ more) → has (starts s) (kind t) ≡ true

-- The symbols that may be left out are those of the table.
abbrev pub NullableAreEmpty : Type 0
NullableAreEmpty = (s : Symbol) → nullable s ≡ true → Whole production (ref s) []

abbrev pub OnlyNullableAreEmpty : Type 0
OnlyNullableAreEmpty = (s : Symbol) → Whole production (ref s) [] → nullable s ≡ true

-- The form that is read has the whole phrases and the fronts of the productions.
abbrev pub WholeAsWritten : Type 0
WholeAsWritten = (g : Ebnf) (ts : List Token) → Whole rule g ts → Whole production g ts

abbrev pub WholeAsRead : Type 0
WholeAsRead = (g : Ebnf) (ts : List Token) → Whole production g ts → Whole rule g ts

abbrev pub FrontAsWritten : Type 0
FrontAsWritten = (g : Ebnf) (ts : List Token) → Front rule g ts → Front production g ts

abbrev pub FrontAsRead : Type 0
FrontAsRead = (g : Ebnf) (ts : List Token) → Front production g ts → Front rule g ts

-- A whole phrase of a symbol has a tree, whatever `else` it has: that each part is as long as it can be refuses nothing.
abbrev pub WholesAreRead : Type 0
WholesAreRead = (depth : ℕ) (s : Symbol) (ts : List Token) → Whole production (ref s) ts → IsPhrase depth (ref s) ts

-- What is read is a whole phrase.
abbrev pub ReadAreWhole : Type 0
ReadAreWhole = (depth : ℕ) (s : Symbol) (ts : List Token) → IsPhrase depth (ref s) ts → Whole production (ref s) ts

-- Tokens are a front of a text exactly where some continuation of them is a sentence.
abbrev pub ViableGoOn : Type 0
ViableGoOn = (ts : List Token) → Viable ts → Begins ts

abbrev pub OnlyViableGoOn : Type 0
OnlyViableGoOn = (ts : List Token) → Begins ts → Viable ts

-- All sentences with the same tokens in front agree on their nesting there.
abbrev pub NestingAgrees : Type 0
NestingAgrees = (took more more' : List Token) (x y : Tree) (ms ns : List Marked) → Sentence x ms → Sentence y ns
    → words ms ≡ took ++ more → words ns ≡ took ++ more' → SameNesting took ms ns

-- What is computed is what a parser is to answer.
abbrev pub ComputedIsRight : Type 0
ComputedIsRight = (list : TokenList) → Parses list (parsed list)

-- A parser is to answer one thing, unless memory is wanting.
abbrev pub OneAnswer : Type 0
OneAnswer = (list : TokenList) (a b : Result Tree ParseError) → Parses list a → Parses list b
    → (a ≡ b) ⊎ ((a ≡ Err error.Memory) ⊎ (b ≡ Err error.Memory))
