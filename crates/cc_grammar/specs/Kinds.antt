-- The kinds of tokens. Two tokens are of one kind where the grammar makes no difference between them: all names are of one
-- kind, all numbers, all characters, all strings, and each reserved word and each mark is a kind of its own.
use Rattle.std.specs.Prelude.{ℕ}
use Rattle.cc_lex.specs.declared.token.Mark.{Mark}
use Rattle.cc_lex.specs.declared.token.Mark.TheVariants as mark
use Rattle.cc_lex.specs.declared.token.Token.{Token}
use Rattle.cc_lex.specs.declared.token.What.{What}
use Rattle.cc_lex.specs.declared.token.What.TheVariants as what
use Rattle.cc_lex.specs.declared.token.Word.{Word}
use Rattle.cc_lex.specs.declared.token.Word.TheVariants as word

-- a kind, by its number
abbrev pub Kind : Type 0
Kind = ℕ

abbrev pub a_name : Kind
a_name = 0

abbrev pub a_number : Kind
a_number = 1

abbrev pub a_character : Kind
a_character = 2

abbrev pub a_string : Kind
a_string = 3

abbrev pub word_kind : Word → Kind
word_kind word.Abort = 10
word_kind word.Accept = 11
word_kind word.Async = 12
word_kind word.Auto = 13
word_kind word.Body = 14
word_kind word.Break = 15
word_kind word.By = 16
word_kind word.Case = 17
word_kind word.Char = 18
word_kind word.Const = 19
word_kind word.Continue = 20
word_kind word.Create = 21
word_kind word.Default = 22
word_kind word.Delay = 23
word_kind word.Do = 24
word_kind word.Double = 25
word_kind word.Else = 26
word_kind word.Enum = 27
word_kind word.Extern = 28
word_kind word.Float = 29
word_kind word.For = 30
word_kind word.Getchar = 31
word_kind word.Goto = 32
word_kind word.If = 33
word_kind word.Immediate = 34
word_kind word.Int = 35
word_kind word.Long = 36
word_kind word.Or = 37
word_kind word.Printf = 38
word_kind word.Process = 39
word_kind word.Putchar = 40
word_kind word.Register = 41
word_kind word.Return = 42
word_kind word.Select = 43
word_kind word.Short = 44
word_kind word.Signed = 45
word_kind word.Sizeof = 46
word_kind word.Spec = 47
word_kind word.Static = 48
word_kind word.Struct = 49
word_kind word.Suchthat = 50
word_kind word.Switch = 51
word_kind word.Terminate = 52
word_kind word.Trans = 53
word_kind word.Treturn = 54
word_kind word.Typedef = 55
word_kind word.Union = 56
word_kind word.Unsigned = 57
word_kind word.Void = 58
word_kind word.Volatile = 59
word_kind word.While = 60
word_kind word.Within = 61

abbrev pub mark_kind : Mark → Kind
mark_kind mark.OpenParenthesis = 100
mark_kind mark.CloseParenthesis = 101
mark_kind mark.OpenBrace = 102
mark_kind mark.CloseBrace = 103
mark_kind mark.OpenBracket = 104
mark_kind mark.CloseBracket = 105
mark_kind mark.Semicolon = 106
mark_kind mark.Comma = 107
mark_kind mark.Dot = 108
mark_kind mark.Colon = 109
mark_kind mark.Question = 110
mark_kind mark.Assign = 111
mark_kind mark.Plus = 112
mark_kind mark.Minus = 113
mark_kind mark.Star = 114
mark_kind mark.Slash = 115
mark_kind mark.Percent = 116
mark_kind mark.Less = 117
mark_kind mark.Greater = 118
mark_kind mark.Not = 119
mark_kind mark.LessEqual = 120
mark_kind mark.GreaterEqual = 121
mark_kind mark.Equal = 122
mark_kind mark.NotEqual = 123
mark_kind mark.And = 124
mark_kind mark.Or = 125
mark_kind mark.Increment = 126
mark_kind mark.Decrement = 127
mark_kind mark.PlusAssign = 128
mark_kind mark.MinusAssign = 129
mark_kind mark.StarAssign = 130
mark_kind mark.SlashAssign = 131
mark_kind mark.PercentAssign = 132

abbrev pub kind_of : What → Kind
kind_of (what.Name bytes) = a_name
kind_of (what.Number value size) = a_number
kind_of (what.Character byte) = a_character
kind_of (what.String bytes) = a_string
kind_of (what.Word w) = word_kind w
kind_of (what.Mark m) = mark_kind m

unfoldable pub kind : Token → Kind
kind token = kind_of token.what
