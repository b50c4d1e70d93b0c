-- The reserved words.
use Rattle.std.specs.Prelude.{ℕ, List, [], ◌∷◌, Option, Some, None, if◌then◌else◌, map, codes}
use Rattle.std.specs.Str.{bytes_eq}
use denote.Ref.{Bor}
use Rattle.cc_lex.specs.declared.token.Word.{Word}
use Rattle.cc_lex.specs.declared.token.Word.TheVariants as word

-- the reserved words of the language
abbrev pub language_words : List (List ℕ × Word)
language_words =
    (codes "accept", word.Accept) ∷
    (codes "async", word.Async) ∷
    (codes "body", word.Body) ∷
    (codes "break", word.Break) ∷
    (codes "by", word.By) ∷
    (codes "char", word.Char) ∷
    (codes "continue", word.Continue) ∷
    (codes "create", word.Create) ∷
    (codes "delay", word.Delay) ∷
    (codes "do", word.Do) ∷
    (codes "else", word.Else) ∷
    (codes "enum", word.Enum) ∷
    (codes "for", word.For) ∷
    (codes "getchar", word.Getchar) ∷
    (codes "if", word.If) ∷
    (codes "immediate", word.Immediate) ∷
    (codes "int", word.Int) ∷
    (codes "long", word.Long) ∷
    (codes "or", word.Or) ∷
    (codes "printf", word.Printf) ∷
    (codes "process", word.Process) ∷
    (codes "putchar", word.Putchar) ∷
    (codes "return", word.Return) ∷
    (codes "select", word.Select) ∷
    (codes "spec", word.Spec) ∷
    (codes "struct", word.Struct) ∷
    (codes "suchthat", word.Suchthat) ∷
    (codes "terminate", word.Terminate) ∷
    (codes "trans", word.Trans) ∷
    (codes "treturn", word.Treturn) ∷
    (codes "void", word.Void) ∷
    (codes "while", word.While) ∷
    (codes "within", word.Within) ∷
    []

-- the reserved words that no sentence has
abbrev pub unused_words : List (List ℕ × Word)
unused_words =
    (codes "abort", word.Abort) ∷
    (codes "auto", word.Auto) ∷
    (codes "case", word.Case) ∷
    (codes "const", word.Const) ∷
    (codes "default", word.Default) ∷
    (codes "double", word.Double) ∷
    (codes "extern", word.Extern) ∷
    (codes "float", word.Float) ∷
    (codes "goto", word.Goto) ∷
    (codes "register", word.Register) ∷
    (codes "short", word.Short) ∷
    (codes "signed", word.Signed) ∷
    (codes "sizeof", word.Sizeof) ∷
    (codes "static", word.Static) ∷
    (codes "switch", word.Switch) ∷
    (codes "typedef", word.Typedef) ∷
    (codes "union", word.Union) ∷
    (codes "unsigned", word.Unsigned) ∷
    (codes "volatile", word.Volatile) ∷
    []

-- the rows of a table of the code
abbrev pub rows : List (Bor (List ℕ) × Word) → List (List ℕ × Word)
rows table = map (λ row. (row.0.now, row.1)) table

-- the word of these bytes in a table
abbrev pub word_in : List ℕ → List (List ℕ × Word) → Option Word
word_in bytes [] = None
word_in bytes (row ∷ rows) = if bytes_eq row.0 bytes then Some row.1 else word_in bytes rows

-- the word of the first table that has one
abbrev pub first_word : Option Word → Option Word → Option Word
first_word None other = other
first_word (Some word) other = Some word

-- the reserved word of these bytes
unfoldable pub reserved_word : List ℕ → Option Word
reserved_word bytes = first_word (word_in bytes language_words) (word_in bytes unused_words)
