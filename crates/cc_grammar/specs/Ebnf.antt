-- Grammars as data: the extended Backus-Naur form over the symbols and the kinds of tokens.
use Rattle.cc_lex.specs.declared.token.Mark.{Mark}
use Rattle.cc_lex.specs.declared.token.Word.{Word}
use Rattle.cc_grammar.specs.Kinds.{Kind, a_name, a_number, a_character, a_string, word_kind, mark_kind}
use Rattle.cc_grammar.specs.Symbols.{Symbol}

infixr 60 ◌⨾◌
infixr 50 ◌∣◌
pub data Ebnf : Type 0 where
  -- a token of this kind
  tok : Kind → Ebnf
  -- the one and then the other
  seq : Ebnf → Ebnf → Ebnf
  -- the one or the other
  alt : Ebnf → Ebnf → Ebnf
  -- any number of them in a row
  many : Ebnf → Ebnf
  -- at most one
  opt : Ebnf → Ebnf
  -- a phrase of the symbol
  ref : Symbol → Ebnf
  -- a phrase of the symbol that adds one to the nesting of itself and of all its parts
  nest : Symbol → Ebnf

abbrev pub ◌⨾◌ : Ebnf → Ebnf → Ebnf
a ⨾ b = seq a b

abbrev pub ◌∣◌ : Ebnf → Ebnf → Ebnf
a ∣ b = alt a b

abbrev pub name : Ebnf
name = tok a_name

abbrev pub number : Ebnf
number = tok a_number

abbrev pub character : Ebnf
character = tok a_character

abbrev pub string : Ebnf
string = tok a_string

-- a reserved word
abbrev pub key : Word → Ebnf
key w = tok (word_kind w)

-- a mark
abbrev pub sign : Mark → Ebnf
sign m = tok (mark_kind m)
