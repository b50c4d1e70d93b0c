-- Lists of tokens, and what a parser is to answer to them. Above each stands its text, with `@` in front of the token at which
-- the fault is, or at the end where the fault is behind the last token.
use Rattle.std.specs.Prelude.{ℕ, zero, suc, pos, List, [], ◌∷◌, ◌++◌, Result, Ok, Err}
use Rattle.cc_lex.specs.TokenList.{TokenList}
use Rattle.cc_lex.specs.declared.token.Mark.{Mark}
use Rattle.cc_lex.specs.declared.token.Mark.TheVariants as mark
use Rattle.cc_lex.specs.declared.token.Size.TheVariants as size
use Rattle.cc_lex.specs.declared.token.Token.{Token}
use Rattle.cc_lex.specs.declared.token.What.{What}
use Rattle.cc_lex.specs.declared.token.What.TheVariants as what
use Rattle.cc_lex.specs.declared.token.Word.{Word}
use Rattle.cc_lex.specs.declared.token.Word.TheVariants as word
use Rattle.cc_grammar.specs.declared.fault.ParseError.{ParseError}
use Rattle.cc_grammar.specs.declared.fault.ParseError.TheVariants as error
use Rattle.cc_grammar.specs.declared.tree.Tree.{Tree}

-- What is seen of an answer: a tree, or the number of the token at which the fault is.
pub data Seen : Type 0 where
  Fine : Seen
  SyntaxAt : ℕ → Seen
  TooDeepAt : ℕ → Seen
  NoMemory : Seen

abbrev pub seen : Result Tree ParseError → Seen
seen (Ok tree) = Fine
seen (Err (error.Syntax at place)) = SyntaxAt at
seen (Err (error.TooDeep place)) = TooDeepAt place.column
seen (Err error.Memory) = NoMemory

-- the tokens in one line, each with its number as its column
abbrev pub placed : ℕ → List What → List Token
placed n [] = []
placed n (x ∷ xs) = record { place = record { line = 1; column = n }; what = x } ∷ placed (suc n) xs

abbrev pub listed : List What → TokenList
listed xs = record { tokens = placed 0 xs; end = record { line = 2; column = 0 } }

abbrev pub Row : Type 0
Row = List What × Seen

abbrev pub name : What
name = what.Name []

abbrev pub number : What
number = what.Number (pos 0) size.Int

abbrev pub character : What
character = what.Character 0

abbrev pub string : What
string = what.String []

abbrev pub w : Word → What
w x = what.Word x

abbrev pub m : Mark → What
m x = what.Mark x

-- tokens a number of times before others
abbrev pub times : ℕ → List What → List What → List What
times zero xs ys = ys
times (suc n) xs ys = xs ++ times n xs ys

-- texts and items
abbrev pub items : List Row
items =
    -- f() { } g() { }
    (
      name ∷ m mark.OpenParenthesis ∷ m mark.CloseParenthesis ∷ m mark.OpenBrace ∷ m mark.CloseBrace ∷ name ∷
          m mark.OpenParenthesis ∷ m mark.CloseParenthesis ∷ m mark.OpenBrace ∷ m mark.CloseBrace ∷ [],
      Fine,
    ) ∷
    -- f() { } @}
    (
      name ∷ m mark.OpenParenthesis ∷ m mark.CloseParenthesis ∷ m mark.OpenBrace ∷ m mark.CloseBrace ∷
          m mark.CloseBrace ∷ [],
      SyntaxAt 5,
    ) ∷
    -- struct s { int a; };
    (
      w word.Struct ∷ name ∷ m mark.OpenBrace ∷ w word.Int ∷ name ∷ m mark.Semicolon ∷ m mark.CloseBrace ∷
          m mark.Semicolon ∷ [],
      Fine,
    ) ∷
    -- struct s { int a; } @
    (
      w word.Struct ∷ name ∷ m mark.OpenBrace ∷ w word.Int ∷ name ∷ m mark.Semicolon ∷ m mark.CloseBrace ∷
          [],
      SyntaxAt 7,
    ) ∷
    -- struct s @;
    (w word.Struct ∷ name ∷ m mark.Semicolon ∷ [], SyntaxAt 2) ∷
    -- struct s { @};
    (w word.Struct ∷ name ∷ m mark.OpenBrace ∷ m mark.CloseBrace ∷ m mark.Semicolon ∷ [], SyntaxAt 3) ∷
    -- struct @{ int a; };
    (
      w word.Struct ∷ m mark.OpenBrace ∷ w word.Int ∷ name ∷ m mark.Semicolon ∷ m mark.CloseBrace ∷ m mark.Semicolon ∷
          [],
      SyntaxAt 1,
    ) ∷
    -- struct s f() { }
    (
      w word.Struct ∷ name ∷ name ∷ m mark.OpenParenthesis ∷ m mark.CloseParenthesis ∷ m mark.OpenBrace ∷
          m mark.CloseBrace ∷ [],
      Fine,
    ) ∷
    -- struct s f( @
    (w word.Struct ∷ name ∷ name ∷ m mark.OpenParenthesis ∷ [], SyntaxAt 4) ∷
    -- struct s f @;
    (w word.Struct ∷ name ∷ name ∷ m mark.Semicolon ∷ [], SyntaxAt 3) ∷
    -- enum { A };
    (w word.Enum ∷ m mark.OpenBrace ∷ name ∷ m mark.CloseBrace ∷ m mark.Semicolon ∷ [], Fine) ∷
    -- enum e { A, B = 2, C = -1 };
    (
      w word.Enum ∷ name ∷ m mark.OpenBrace ∷ name ∷ m mark.Comma ∷ name ∷ m mark.Assign ∷ number ∷ m mark.Comma ∷
          name ∷ m mark.Assign ∷ m mark.Minus ∷ number ∷ m mark.CloseBrace ∷ m mark.Semicolon ∷ [],
      Fine,
    ) ∷
    -- enum e f() { }
    (
      w word.Enum ∷ name ∷ name ∷ m mark.OpenParenthesis ∷ m mark.CloseParenthesis ∷ m mark.OpenBrace ∷
          m mark.CloseBrace ∷ [],
      Fine,
    ) ∷
    -- enum e f @{ A };
    (w word.Enum ∷ name ∷ name ∷ m mark.OpenBrace ∷ name ∷ m mark.CloseBrace ∷ m mark.Semicolon ∷ [], SyntaxAt 3) ∷
    -- enum e @;
    (w word.Enum ∷ name ∷ m mark.Semicolon ∷ [], SyntaxAt 2) ∷
    -- enum { @};
    (w word.Enum ∷ m mark.OpenBrace ∷ m mark.CloseBrace ∷ m mark.Semicolon ∷ [], SyntaxAt 2) ∷
    -- enum { A, @};
    (w word.Enum ∷ m mark.OpenBrace ∷ name ∷ m mark.Comma ∷ m mark.CloseBrace ∷ m mark.Semicolon ∷ [], SyntaxAt 4) ∷
    -- enum { A } @
    (w word.Enum ∷ m mark.OpenBrace ∷ name ∷ m mark.CloseBrace ∷ [], SyntaxAt 4) ∷
    -- process spec s();
    (
      w word.Process ∷ w word.Spec ∷ name ∷ m mark.OpenParenthesis ∷ m mark.CloseParenthesis ∷ m mark.Semicolon ∷
          [],
      Fine,
    ) ∷
    -- process spec s() { };
    (
      w word.Process ∷ w word.Spec ∷ name ∷ m mark.OpenParenthesis ∷ m mark.CloseParenthesis ∷ m mark.OpenBrace ∷
          m mark.CloseBrace ∷ m mark.Semicolon ∷ [],
      Fine,
    ) ∷
    -- process spec s() { } @
    (
      w word.Process ∷ w word.Spec ∷ name ∷ m mark.OpenParenthesis ∷ m mark.CloseParenthesis ∷ m mark.OpenBrace ∷
          m mark.CloseBrace ∷ [],
      SyntaxAt 7,
    ) ∷
    -- process spec s() @process
    (
      w word.Process ∷ w word.Spec ∷ name ∷ m mark.OpenParenthesis ∷ m mark.CloseParenthesis ∷ w word.Process ∷
          [],
      SyntaxAt 5,
    ) ∷
    -- process @struct
    (w word.Process ∷ w word.Struct ∷ [], SyntaxAt 1) ∷
    -- process body s() { }
    (
      w word.Process ∷ w word.Body ∷ name ∷ m mark.OpenParenthesis ∷ m mark.CloseParenthesis ∷ m mark.OpenBrace ∷
          m mark.CloseBrace ∷ [],
      Fine,
    ) ∷
    -- process body s(a, b) { }
    (
      w word.Process ∷ w word.Body ∷ name ∷ m mark.OpenParenthesis ∷ name ∷ m mark.Comma ∷ name ∷
          m mark.CloseParenthesis ∷ m mark.OpenBrace ∷ m mark.CloseBrace ∷ [],
      Fine,
    ) ∷
    -- process body s(a @
    (w word.Process ∷ w word.Body ∷ name ∷ m mark.OpenParenthesis ∷ name ∷ [], SyntaxAt 5) ∷
    -- process body s(@void) { }
    (
      w word.Process ∷ w word.Body ∷ name ∷ m mark.OpenParenthesis ∷ w word.Void ∷ m mark.CloseParenthesis ∷
          m mark.OpenBrace ∷ m mark.CloseBrace ∷ [],
      SyntaxAt 4,
    ) ∷
    -- process body s(a, @) { }
    (
      w word.Process ∷ w word.Body ∷ name ∷ m mark.OpenParenthesis ∷ name ∷ m mark.Comma ∷ m mark.CloseParenthesis ∷
          m mark.OpenBrace ∷ m mark.CloseBrace ∷ [],
      SyntaxAt 6,
    ) ∷
    -- process s f() { }
    (
      w word.Process ∷ name ∷ name ∷ m mark.OpenParenthesis ∷ m mark.CloseParenthesis ∷ m mark.OpenBrace ∷
          m mark.CloseBrace ∷ [],
      Fine,
    ) ∷
    -- process s @;
    (w word.Process ∷ name ∷ m mark.Semicolon ∷ [], SyntaxAt 2) ∷
    -- int f() { }
    (
      w word.Int ∷ name ∷ m mark.OpenParenthesis ∷ m mark.CloseParenthesis ∷ m mark.OpenBrace ∷ m mark.CloseBrace ∷
          [],
      Fine,
    ) ∷
    -- long f() { }
    (
      w word.Long ∷ name ∷ m mark.OpenParenthesis ∷ m mark.CloseParenthesis ∷ m mark.OpenBrace ∷ m mark.CloseBrace ∷
          [],
      Fine,
    ) ∷
    -- int @{
    (w word.Int ∷ m mark.OpenBrace ∷ [], SyntaxAt 1) ∷
    -- void f(void) { }
    (
      w word.Void ∷ name ∷ m mark.OpenParenthesis ∷ w word.Void ∷ m mark.CloseParenthesis ∷ m mark.OpenBrace ∷
          m mark.CloseBrace ∷ [],
      Fine,
    ) ∷
    -- f() @;
    (name ∷ m mark.OpenParenthesis ∷ m mark.CloseParenthesis ∷ m mark.Semicolon ∷ [], SyntaxAt 3) ∷
    -- f(@x) { }
    (
      name ∷ m mark.OpenParenthesis ∷ name ∷ m mark.CloseParenthesis ∷ m mark.OpenBrace ∷ m mark.CloseBrace ∷
          [],
      SyntaxAt 2,
    ) ∷
    -- @static f() { }
    (
      w word.Static ∷ name ∷ m mark.OpenParenthesis ∷ m mark.CloseParenthesis ∷ m mark.OpenBrace ∷ m mark.CloseBrace ∷
          [],
      SyntaxAt 0,
    ) ∷
    -- @1
    (number ∷ [], SyntaxAt 0) ∷
    []

-- types, fields, constants, transactions and parameters
abbrev pub declarations : List Row
declarations =
    -- struct s { void a; char b; int c; long d; struct t e; enum u g; process p h; };
    (
      w word.Struct ∷ name ∷ m mark.OpenBrace ∷ w word.Void ∷ name ∷ m mark.Semicolon ∷ w word.Char ∷ name ∷
          m mark.Semicolon ∷ w word.Int ∷ name ∷ m mark.Semicolon ∷ w word.Long ∷ name ∷ m mark.Semicolon ∷ w word.Struct ∷
          name ∷ name ∷ m mark.Semicolon ∷ w word.Enum ∷ name ∷ name ∷ m mark.Semicolon ∷ w word.Process ∷ name ∷ name ∷
          m mark.Semicolon ∷ m mark.CloseBrace ∷ m mark.Semicolon ∷ [],
      Fine,
    ) ∷
    -- struct s { struct @{
    (w word.Struct ∷ name ∷ m mark.OpenBrace ∷ w word.Struct ∷ m mark.OpenBrace ∷ [], SyntaxAt 4) ∷
    -- struct s { int a, b; };
    (
      w word.Struct ∷ name ∷ m mark.OpenBrace ∷ w word.Int ∷ name ∷ m mark.Comma ∷ name ∷ m mark.Semicolon ∷
          m mark.CloseBrace ∷ m mark.Semicolon ∷ [],
      Fine,
    ) ∷
    -- struct s { int a, b @
    (w word.Struct ∷ name ∷ m mark.OpenBrace ∷ w word.Int ∷ name ∷ m mark.Comma ∷ name ∷ [], SyntaxAt 7) ∷
    -- struct s { int a @}
    (w word.Struct ∷ name ∷ m mark.OpenBrace ∷ w word.Int ∷ name ∷ m mark.CloseBrace ∷ [], SyntaxAt 5) ∷
    -- struct s { int @; };
    (
      w word.Struct ∷ name ∷ m mark.OpenBrace ∷ w word.Int ∷ m mark.Semicolon ∷ m mark.CloseBrace ∷ m mark.Semicolon ∷
          [],
      SyntaxAt 4,
    ) ∷
    -- struct s { int a[3], b; };
    (
      w word.Struct ∷ name ∷ m mark.OpenBrace ∷ w word.Int ∷ name ∷ m mark.OpenBracket ∷ number ∷ m mark.CloseBracket ∷
          m mark.Comma ∷ name ∷ m mark.Semicolon ∷ m mark.CloseBrace ∷ m mark.Semicolon ∷ [],
      Fine,
    ) ∷
    -- struct s { int a[3 @
    (w word.Struct ∷ name ∷ m mark.OpenBrace ∷ w word.Int ∷ name ∷ m mark.OpenBracket ∷ number ∷ [], SyntaxAt 7) ∷
    -- struct s { int a[@]; };
    (
      w word.Struct ∷ name ∷ m mark.OpenBrace ∷ w word.Int ∷ name ∷ m mark.OpenBracket ∷ m mark.CloseBracket ∷
          m mark.Semicolon ∷ m mark.CloseBrace ∷ m mark.Semicolon ∷ [],
      SyntaxAt 6,
    ) ∷
    -- struct s { int a[3] @[4]; };
    (
      w word.Struct ∷ name ∷ m mark.OpenBrace ∷ w word.Int ∷ name ∷ m mark.OpenBracket ∷ number ∷ m mark.CloseBracket ∷
          m mark.OpenBracket ∷ number ∷ m mark.CloseBracket ∷ m mark.Semicolon ∷ m mark.CloseBrace ∷ m mark.Semicolon ∷
          [],
      SyntaxAt 8,
    ) ∷
    -- struct s { int a['x'], b[N], c[7]; };
    (
      w word.Struct ∷ name ∷ m mark.OpenBrace ∷ w word.Int ∷ name ∷ m mark.OpenBracket ∷ character ∷
          m mark.CloseBracket ∷ m mark.Comma ∷ name ∷ m mark.OpenBracket ∷ name ∷ m mark.CloseBracket ∷ m mark.Comma ∷
          name ∷ m mark.OpenBracket ∷ number ∷ m mark.CloseBracket ∷ m mark.Semicolon ∷ m mark.CloseBrace ∷
          m mark.Semicolon ∷ [],
      Fine,
    ) ∷
    -- struct s { int a[@- 1]; };
    (
      w word.Struct ∷ name ∷ m mark.OpenBrace ∷ w word.Int ∷ name ∷ m mark.OpenBracket ∷ m mark.Minus ∷ number ∷
          m mark.CloseBracket ∷ m mark.Semicolon ∷ m mark.CloseBrace ∷ m mark.Semicolon ∷ [],
      SyntaxAt 6,
    ) ∷
    -- enum { A = 1 @
    (w word.Enum ∷ m mark.OpenBrace ∷ name ∷ m mark.Assign ∷ number ∷ [], SyntaxAt 5) ∷
    -- enum { A = @};
    (w word.Enum ∷ m mark.OpenBrace ∷ name ∷ m mark.Assign ∷ m mark.CloseBrace ∷ m mark.Semicolon ∷ [], SyntaxAt 4) ∷
    -- enum { A = - @- 1 };
    (
      w word.Enum ∷ m mark.OpenBrace ∷ name ∷ m mark.Assign ∷ m mark.Minus ∷ m mark.Minus ∷ number ∷
          m mark.CloseBrace ∷ m mark.Semicolon ∷ [],
      SyntaxAt 5,
    ) ∷
    -- enum { A = 'x', B = A };
    (
      w word.Enum ∷ m mark.OpenBrace ∷ name ∷ m mark.Assign ∷ character ∷ m mark.Comma ∷ name ∷ m mark.Assign ∷ name ∷
          m mark.CloseBrace ∷ m mark.Semicolon ∷ [],
      Fine,
    ) ∷
    -- enum { A = @(1) };
    (
      w word.Enum ∷ m mark.OpenBrace ∷ name ∷ m mark.Assign ∷ m mark.OpenParenthesis ∷ number ∷
          m mark.CloseParenthesis ∷ m mark.CloseBrace ∷ m mark.Semicolon ∷ [],
      SyntaxAt 4,
    ) ∷
    -- process spec s() { trans int t(int a, char); trans async u(); };
    (
      w word.Process ∷ w word.Spec ∷ name ∷ m mark.OpenParenthesis ∷ m mark.CloseParenthesis ∷ m mark.OpenBrace ∷
          w word.Trans ∷ w word.Int ∷ name ∷ m mark.OpenParenthesis ∷ w word.Int ∷ name ∷ m mark.Comma ∷ w word.Char ∷
          m mark.CloseParenthesis ∷ m mark.Semicolon ∷ w word.Trans ∷ w word.Async ∷ name ∷ m mark.OpenParenthesis ∷
          m mark.CloseParenthesis ∷ m mark.Semicolon ∷ m mark.CloseBrace ∷ m mark.Semicolon ∷ [],
      Fine,
    ) ∷
    -- process spec s() { trans int t() @
    (
      w word.Process ∷ w word.Spec ∷ name ∷ m mark.OpenParenthesis ∷ m mark.CloseParenthesis ∷ m mark.OpenBrace ∷
          w word.Trans ∷ w word.Int ∷ name ∷ m mark.OpenParenthesis ∷ m mark.CloseParenthesis ∷ [],
      SyntaxAt 11,
    ) ∷
    -- process spec s() { trans @t(); };
    (
      w word.Process ∷ w word.Spec ∷ name ∷ m mark.OpenParenthesis ∷ m mark.CloseParenthesis ∷ m mark.OpenBrace ∷
          w word.Trans ∷ name ∷ m mark.OpenParenthesis ∷ m mark.CloseParenthesis ∷ m mark.Semicolon ∷ m mark.CloseBrace ∷
          m mark.Semicolon ∷ [],
      SyntaxAt 7,
    ) ∷
    -- process spec s() { @int t(); };
    (
      w word.Process ∷ w word.Spec ∷ name ∷ m mark.OpenParenthesis ∷ m mark.CloseParenthesis ∷ m mark.OpenBrace ∷
          w word.Int ∷ name ∷ m mark.OpenParenthesis ∷ m mark.CloseParenthesis ∷ m mark.Semicolon ∷ m mark.CloseBrace ∷
          m mark.Semicolon ∷ [],
      SyntaxAt 6,
    ) ∷
    -- process spec s() { trans async @int t(); };
    (
      w word.Process ∷ w word.Spec ∷ name ∷ m mark.OpenParenthesis ∷ m mark.CloseParenthesis ∷ m mark.OpenBrace ∷
          w word.Trans ∷ w word.Async ∷ w word.Int ∷ name ∷ m mark.OpenParenthesis ∷ m mark.CloseParenthesis ∷
          m mark.Semicolon ∷ m mark.CloseBrace ∷ m mark.Semicolon ∷ [],
      SyntaxAt 8,
    ) ∷
    -- process spec s(void);
    (
      w word.Process ∷ w word.Spec ∷ name ∷ m mark.OpenParenthesis ∷ w word.Void ∷ m mark.CloseParenthesis ∷
          m mark.Semicolon ∷ [],
      Fine,
    ) ∷
    -- process spec s(void, int);
    (
      w word.Process ∷ w word.Spec ∷ name ∷ m mark.OpenParenthesis ∷ w word.Void ∷ m mark.Comma ∷ w word.Int ∷
          m mark.CloseParenthesis ∷ m mark.Semicolon ∷ [],
      Fine,
    ) ∷
    -- process spec s(void x);
    (
      w word.Process ∷ w word.Spec ∷ name ∷ m mark.OpenParenthesis ∷ w word.Void ∷ name ∷ m mark.CloseParenthesis ∷
          m mark.Semicolon ∷ [],
      Fine,
    ) ∷
    -- process spec s(int, @);
    (
      w word.Process ∷ w word.Spec ∷ name ∷ m mark.OpenParenthesis ∷ w word.Int ∷ m mark.Comma ∷
          m mark.CloseParenthesis ∷ m mark.Semicolon ∷ [],
      SyntaxAt 6,
    ) ∷
    -- process spec s(@x);
    (
      w word.Process ∷ w word.Spec ∷ name ∷ m mark.OpenParenthesis ∷ name ∷ m mark.CloseParenthesis ∷
          m mark.Semicolon ∷ [],
      SyntaxAt 4,
    ) ∷
    -- process spec s(int a @b);
    (
      w word.Process ∷ w word.Spec ∷ name ∷ m mark.OpenParenthesis ∷ w word.Int ∷ name ∷ name ∷
          m mark.CloseParenthesis ∷ m mark.Semicolon ∷ [],
      SyntaxAt 6,
    ) ∷
    -- process spec s(int a, long @
    (
      w word.Process ∷ w word.Spec ∷ name ∷ m mark.OpenParenthesis ∷ w word.Int ∷ name ∷ m mark.Comma ∷ w word.Long ∷
          [],
      SyntaxAt 8,
    ) ∷
    -- f(void x, int y) { }
    (
      name ∷ m mark.OpenParenthesis ∷ w word.Void ∷ name ∷ m mark.Comma ∷ w word.Int ∷ name ∷ m mark.CloseParenthesis ∷
          m mark.OpenBrace ∷ m mark.CloseBrace ∷ [],
      Fine,
    ) ∷
    -- f(void @, int x) { }
    (
      name ∷ m mark.OpenParenthesis ∷ w word.Void ∷ m mark.Comma ∷ w word.Int ∷ name ∷ m mark.CloseParenthesis ∷
          m mark.OpenBrace ∷ m mark.CloseBrace ∷ [],
      SyntaxAt 3,
    ) ∷
    -- f(void @
    (name ∷ m mark.OpenParenthesis ∷ w word.Void ∷ [], SyntaxAt 3) ∷
    -- f(int x, char y) { }
    (
      name ∷ m mark.OpenParenthesis ∷ w word.Int ∷ name ∷ m mark.Comma ∷ w word.Char ∷ name ∷ m mark.CloseParenthesis ∷
          m mark.OpenBrace ∷ m mark.CloseBrace ∷ [],
      Fine,
    ) ∷
    -- f(struct s x) { }
    (
      name ∷ m mark.OpenParenthesis ∷ w word.Struct ∷ name ∷ name ∷ m mark.CloseParenthesis ∷ m mark.OpenBrace ∷
          m mark.CloseBrace ∷ [],
      Fine,
    ) ∷
    -- f(int @) { }
    (
      name ∷ m mark.OpenParenthesis ∷ w word.Int ∷ m mark.CloseParenthesis ∷ m mark.OpenBrace ∷ m mark.CloseBrace ∷
          [],
      SyntaxAt 3,
    ) ∷
    -- f(int x, @) { }
    (
      name ∷ m mark.OpenParenthesis ∷ w word.Int ∷ name ∷ m mark.Comma ∷ m mark.CloseParenthesis ∷ m mark.OpenBrace ∷
          m mark.CloseBrace ∷ [],
      SyntaxAt 5,
    ) ∷
    -- f(int x, void y) { }
    (
      name ∷ m mark.OpenParenthesis ∷ w word.Int ∷ name ∷ m mark.Comma ∷ w word.Void ∷ name ∷ m mark.CloseParenthesis ∷
          m mark.OpenBrace ∷ m mark.CloseBrace ∷ [],
      Fine,
    ) ∷
    []

-- blocks, entries and statements
abbrev pub statements : List Row
statements =
    -- f() { { } ; }
    (
      name ∷ m mark.OpenParenthesis ∷ m mark.CloseParenthesis ∷ m mark.OpenBrace ∷ m mark.OpenBrace ∷
          m mark.CloseBrace ∷ m mark.Semicolon ∷ m mark.CloseBrace ∷ [],
      Fine,
    ) ∷
    -- f() { { } @
    (
      name ∷ m mark.OpenParenthesis ∷ m mark.CloseParenthesis ∷ m mark.OpenBrace ∷ m mark.OpenBrace ∷
          m mark.CloseBrace ∷ [],
      SyntaxAt 6,
    ) ∷
    -- f() { int a; a = 1; char b; }
    (
      name ∷ m mark.OpenParenthesis ∷ m mark.CloseParenthesis ∷ m mark.OpenBrace ∷ w word.Int ∷ name ∷
          m mark.Semicolon ∷ name ∷ m mark.Assign ∷ number ∷ m mark.Semicolon ∷ w word.Char ∷ name ∷ m mark.Semicolon ∷
          m mark.CloseBrace ∷ [],
      Fine,
    ) ∷
    -- f() { struct s a; s @a ; }
    (
      name ∷ m mark.OpenParenthesis ∷ m mark.CloseParenthesis ∷ m mark.OpenBrace ∷ w word.Struct ∷ name ∷ name ∷
          m mark.Semicolon ∷ name ∷ name ∷ m mark.Semicolon ∷ m mark.CloseBrace ∷ [],
      SyntaxAt 9,
    ) ∷
    -- f() { @else ; }
    (
      name ∷ m mark.OpenParenthesis ∷ m mark.CloseParenthesis ∷ m mark.OpenBrace ∷ w word.Else ∷ m mark.Semicolon ∷
          m mark.CloseBrace ∷ [],
      SyntaxAt 4,
    ) ∷
    -- f() { int a, b = 2, c[3]; }
    (
      name ∷ m mark.OpenParenthesis ∷ m mark.CloseParenthesis ∷ m mark.OpenBrace ∷ w word.Int ∷ name ∷ m mark.Comma ∷
          name ∷ m mark.Assign ∷ number ∷ m mark.Comma ∷ name ∷ m mark.OpenBracket ∷ number ∷ m mark.CloseBracket ∷
          m mark.Semicolon ∷ m mark.CloseBrace ∷ [],
      Fine,
    ) ∷
    -- f() { int a @
    (
      name ∷ m mark.OpenParenthesis ∷ m mark.CloseParenthesis ∷ m mark.OpenBrace ∷ w word.Int ∷ name ∷
          [],
      SyntaxAt 6,
    ) ∷
    -- f() { int @; }
    (
      name ∷ m mark.OpenParenthesis ∷ m mark.CloseParenthesis ∷ m mark.OpenBrace ∷ w word.Int ∷ m mark.Semicolon ∷
          m mark.CloseBrace ∷ [],
      SyntaxAt 5,
    ) ∷
    -- f() { int a[2] @= 1; }
    (
      name ∷ m mark.OpenParenthesis ∷ m mark.CloseParenthesis ∷ m mark.OpenBrace ∷ w word.Int ∷ name ∷
          m mark.OpenBracket ∷ number ∷ m mark.CloseBracket ∷ m mark.Assign ∷ number ∷ m mark.Semicolon ∷
          m mark.CloseBrace ∷ [],
      SyntaxAt 9,
    ) ∷
    -- f() { int a = @; }
    (
      name ∷ m mark.OpenParenthesis ∷ m mark.CloseParenthesis ∷ m mark.OpenBrace ∷ w word.Int ∷ name ∷ m mark.Assign ∷
          m mark.Semicolon ∷ m mark.CloseBrace ∷ [],
      SyntaxAt 7,
    ) ∷
    -- f() { int a = 1 @b; }
    (
      name ∷ m mark.OpenParenthesis ∷ m mark.CloseParenthesis ∷ m mark.OpenBrace ∷ w word.Int ∷ name ∷ m mark.Assign ∷
          number ∷ name ∷ m mark.Semicolon ∷ m mark.CloseBrace ∷ [],
      SyntaxAt 8,
    ) ∷
    -- f() { 1; }
    (
      name ∷ m mark.OpenParenthesis ∷ m mark.CloseParenthesis ∷ m mark.OpenBrace ∷ number ∷ m mark.Semicolon ∷
          m mark.CloseBrace ∷ [],
      Fine,
    ) ∷
    -- f() { 1 @}
    (
      name ∷ m mark.OpenParenthesis ∷ m mark.CloseParenthesis ∷ m mark.OpenBrace ∷ number ∷ m mark.CloseBrace ∷
          [],
      SyntaxAt 5,
    ) ∷
    -- f() { if (a) ; }
    (
      name ∷ m mark.OpenParenthesis ∷ m mark.CloseParenthesis ∷ m mark.OpenBrace ∷ w word.If ∷ m mark.OpenParenthesis ∷
          name ∷ m mark.CloseParenthesis ∷ m mark.Semicolon ∷ m mark.CloseBrace ∷ [],
      Fine,
    ) ∷
    -- f() { if (a) ; else ; }
    (
      name ∷ m mark.OpenParenthesis ∷ m mark.CloseParenthesis ∷ m mark.OpenBrace ∷ w word.If ∷ m mark.OpenParenthesis ∷
          name ∷ m mark.CloseParenthesis ∷ m mark.Semicolon ∷ w word.Else ∷ m mark.Semicolon ∷ m mark.CloseBrace ∷
          [],
      Fine,
    ) ∷
    -- f() { if (a) @
    (
      name ∷ m mark.OpenParenthesis ∷ m mark.CloseParenthesis ∷ m mark.OpenBrace ∷ w word.If ∷ m mark.OpenParenthesis ∷
          name ∷ m mark.CloseParenthesis ∷ [],
      SyntaxAt 8,
    ) ∷
    -- f() { if @a ; }
    (
      name ∷ m mark.OpenParenthesis ∷ m mark.CloseParenthesis ∷ m mark.OpenBrace ∷ w word.If ∷ name ∷
          m mark.Semicolon ∷ m mark.CloseBrace ∷ [],
      SyntaxAt 5,
    ) ∷
    -- f() { if (a) ; else @}
    (
      name ∷ m mark.OpenParenthesis ∷ m mark.CloseParenthesis ∷ m mark.OpenBrace ∷ w word.If ∷ m mark.OpenParenthesis ∷
          name ∷ m mark.CloseParenthesis ∷ m mark.Semicolon ∷ w word.Else ∷ m mark.CloseBrace ∷ [],
      SyntaxAt 10,
    ) ∷
    -- f() { if (a) if (b) ; else ; else ; }
    (
      name ∷ m mark.OpenParenthesis ∷ m mark.CloseParenthesis ∷ m mark.OpenBrace ∷ w word.If ∷ m mark.OpenParenthesis ∷
          name ∷ m mark.CloseParenthesis ∷ w word.If ∷ m mark.OpenParenthesis ∷ name ∷ m mark.CloseParenthesis ∷
          m mark.Semicolon ∷ w word.Else ∷ m mark.Semicolon ∷ w word.Else ∷ m mark.Semicolon ∷ m mark.CloseBrace ∷
          [],
      Fine,
    ) ∷
    -- f() { if (a) if (b) ; else ; else ; @else ; }
    (
      name ∷ m mark.OpenParenthesis ∷ m mark.CloseParenthesis ∷ m mark.OpenBrace ∷ w word.If ∷ m mark.OpenParenthesis ∷
          name ∷ m mark.CloseParenthesis ∷ w word.If ∷ m mark.OpenParenthesis ∷ name ∷ m mark.CloseParenthesis ∷
          m mark.Semicolon ∷ w word.Else ∷ m mark.Semicolon ∷ w word.Else ∷ m mark.Semicolon ∷ w word.Else ∷
          m mark.Semicolon ∷ m mark.CloseBrace ∷ [],
      SyntaxAt 17,
    ) ∷
    -- f() { if (a) while (b) if (c) ; else ; else ; }
    (
      name ∷ m mark.OpenParenthesis ∷ m mark.CloseParenthesis ∷ m mark.OpenBrace ∷ w word.If ∷ m mark.OpenParenthesis ∷
          name ∷ m mark.CloseParenthesis ∷ w word.While ∷ m mark.OpenParenthesis ∷ name ∷ m mark.CloseParenthesis ∷
          w word.If ∷ m mark.OpenParenthesis ∷ name ∷ m mark.CloseParenthesis ∷ m mark.Semicolon ∷ w word.Else ∷
          m mark.Semicolon ∷ w word.Else ∷ m mark.Semicolon ∷ m mark.CloseBrace ∷ [],
      Fine,
    ) ∷
    -- f() { while (a) ; }
    (
      name ∷ m mark.OpenParenthesis ∷ m mark.CloseParenthesis ∷ m mark.OpenBrace ∷ w word.While ∷
          m mark.OpenParenthesis ∷ name ∷ m mark.CloseParenthesis ∷ m mark.Semicolon ∷ m mark.CloseBrace ∷ [],
      Fine,
    ) ∷
    -- f() { while (a) @
    (
      name ∷ m mark.OpenParenthesis ∷ m mark.CloseParenthesis ∷ m mark.OpenBrace ∷ w word.While ∷
          m mark.OpenParenthesis ∷ name ∷ m mark.CloseParenthesis ∷ [],
      SyntaxAt 8,
    ) ∷
    -- f() { while (a @; }
    (
      name ∷ m mark.OpenParenthesis ∷ m mark.CloseParenthesis ∷ m mark.OpenBrace ∷ w word.While ∷
          m mark.OpenParenthesis ∷ name ∷ m mark.Semicolon ∷ m mark.CloseBrace ∷ [],
      SyntaxAt 7,
    ) ∷
    -- f() { do ; while (a); }
    (
      name ∷ m mark.OpenParenthesis ∷ m mark.CloseParenthesis ∷ m mark.OpenBrace ∷ w word.Do ∷ m mark.Semicolon ∷
          w word.While ∷ m mark.OpenParenthesis ∷ name ∷ m mark.CloseParenthesis ∷ m mark.Semicolon ∷ m mark.CloseBrace ∷
          [],
      Fine,
    ) ∷
    -- f() { do ; while (a) @}
    (
      name ∷ m mark.OpenParenthesis ∷ m mark.CloseParenthesis ∷ m mark.OpenBrace ∷ w word.Do ∷ m mark.Semicolon ∷
          w word.While ∷ m mark.OpenParenthesis ∷ name ∷ m mark.CloseParenthesis ∷ m mark.CloseBrace ∷ [],
      SyntaxAt 10,
    ) ∷
    -- f() { do ; @; }
    (
      name ∷ m mark.OpenParenthesis ∷ m mark.CloseParenthesis ∷ m mark.OpenBrace ∷ w word.Do ∷ m mark.Semicolon ∷
          m mark.Semicolon ∷ m mark.CloseBrace ∷ [],
      SyntaxAt 6,
    ) ∷
    -- f() { do if (a) ; else ; while (b); }
    (
      name ∷ m mark.OpenParenthesis ∷ m mark.CloseParenthesis ∷ m mark.OpenBrace ∷ w word.Do ∷ w word.If ∷
          m mark.OpenParenthesis ∷ name ∷ m mark.CloseParenthesis ∷ m mark.Semicolon ∷ w word.Else ∷ m mark.Semicolon ∷
          w word.While ∷ m mark.OpenParenthesis ∷ name ∷ m mark.CloseParenthesis ∷ m mark.Semicolon ∷ m mark.CloseBrace ∷
          [],
      Fine,
    ) ∷
    -- f() { for (;;) ; }
    (
      name ∷ m mark.OpenParenthesis ∷ m mark.CloseParenthesis ∷ m mark.OpenBrace ∷ w word.For ∷
          m mark.OpenParenthesis ∷ m mark.Semicolon ∷ m mark.Semicolon ∷ m mark.CloseParenthesis ∷ m mark.Semicolon ∷
          m mark.CloseBrace ∷ [],
      Fine,
    ) ∷
    -- f() { for (a; b; c) ; }
    (
      name ∷ m mark.OpenParenthesis ∷ m mark.CloseParenthesis ∷ m mark.OpenBrace ∷ w word.For ∷
          m mark.OpenParenthesis ∷ name ∷ m mark.Semicolon ∷ name ∷ m mark.Semicolon ∷ name ∷ m mark.CloseParenthesis ∷
          m mark.Semicolon ∷ m mark.CloseBrace ∷ [],
      Fine,
    ) ∷
    -- f() { for (a; b @) ; }
    (
      name ∷ m mark.OpenParenthesis ∷ m mark.CloseParenthesis ∷ m mark.OpenBrace ∷ w word.For ∷
          m mark.OpenParenthesis ∷ name ∷ m mark.Semicolon ∷ name ∷ m mark.CloseParenthesis ∷ m mark.Semicolon ∷
          m mark.CloseBrace ∷ [],
      SyntaxAt 9,
    ) ∷
    -- f() { for (a @, b; ;) ; }
    (
      name ∷ m mark.OpenParenthesis ∷ m mark.CloseParenthesis ∷ m mark.OpenBrace ∷ w word.For ∷
          m mark.OpenParenthesis ∷ name ∷ m mark.Comma ∷ name ∷ m mark.Semicolon ∷ m mark.Semicolon ∷
          m mark.CloseParenthesis ∷ m mark.Semicolon ∷ m mark.CloseBrace ∷ [],
      SyntaxAt 7,
    ) ∷
    -- f() { for (;; @;) ; }
    (
      name ∷ m mark.OpenParenthesis ∷ m mark.CloseParenthesis ∷ m mark.OpenBrace ∷ w word.For ∷
          m mark.OpenParenthesis ∷ m mark.Semicolon ∷ m mark.Semicolon ∷ m mark.Semicolon ∷ m mark.CloseParenthesis ∷
          m mark.Semicolon ∷ m mark.CloseBrace ∷ [],
      SyntaxAt 8,
    ) ∷
    -- f() { break; continue; }
    (
      name ∷ m mark.OpenParenthesis ∷ m mark.CloseParenthesis ∷ m mark.OpenBrace ∷ w word.Break ∷ m mark.Semicolon ∷
          w word.Continue ∷ m mark.Semicolon ∷ m mark.CloseBrace ∷ [],
      Fine,
    ) ∷
    -- f() { break @}
    (
      name ∷ m mark.OpenParenthesis ∷ m mark.CloseParenthesis ∷ m mark.OpenBrace ∷ w word.Break ∷ m mark.CloseBrace ∷
          [],
      SyntaxAt 5,
    ) ∷
    -- f() { continue @1; }
    (
      name ∷ m mark.OpenParenthesis ∷ m mark.CloseParenthesis ∷ m mark.OpenBrace ∷ w word.Continue ∷ number ∷
          m mark.Semicolon ∷ m mark.CloseBrace ∷ [],
      SyntaxAt 5,
    ) ∷
    -- f() { return; return 1; treturn; treturn 2; }
    (
      name ∷ m mark.OpenParenthesis ∷ m mark.CloseParenthesis ∷ m mark.OpenBrace ∷ w word.Return ∷ m mark.Semicolon ∷
          w word.Return ∷ number ∷ m mark.Semicolon ∷ w word.Treturn ∷ m mark.Semicolon ∷ w word.Treturn ∷ number ∷
          m mark.Semicolon ∷ m mark.CloseBrace ∷ [],
      Fine,
    ) ∷
    -- f() { return 1 @}
    (
      name ∷ m mark.OpenParenthesis ∷ m mark.CloseParenthesis ∷ m mark.OpenBrace ∷ w word.Return ∷ number ∷
          m mark.CloseBrace ∷ [],
      SyntaxAt 6,
    ) ∷
    -- f() { treturn @) ; }
    (
      name ∷ m mark.OpenParenthesis ∷ m mark.CloseParenthesis ∷ m mark.OpenBrace ∷ w word.Treturn ∷
          m mark.CloseParenthesis ∷ m mark.Semicolon ∷ m mark.CloseBrace ∷ [],
      SyntaxAt 5,
    ) ∷
    -- f() { delay 1; }
    (
      name ∷ m mark.OpenParenthesis ∷ m mark.CloseParenthesis ∷ m mark.OpenBrace ∷ w word.Delay ∷ number ∷
          m mark.Semicolon ∷ m mark.CloseBrace ∷ [],
      Fine,
    ) ∷
    -- f() { delay @; }
    (
      name ∷ m mark.OpenParenthesis ∷ m mark.CloseParenthesis ∷ m mark.OpenBrace ∷ w word.Delay ∷ m mark.Semicolon ∷
          m mark.CloseBrace ∷ [],
      SyntaxAt 5,
    ) ∷
    -- f() { accept t() { } accept t(a) ; }
    (
      name ∷ m mark.OpenParenthesis ∷ m mark.CloseParenthesis ∷ m mark.OpenBrace ∷ w word.Accept ∷ name ∷
          m mark.OpenParenthesis ∷ m mark.CloseParenthesis ∷ m mark.OpenBrace ∷ m mark.CloseBrace ∷ w word.Accept ∷ name ∷
          m mark.OpenParenthesis ∷ name ∷ m mark.CloseParenthesis ∷ m mark.Semicolon ∷ m mark.CloseBrace ∷ [],
      Fine,
    ) ∷
    -- f() { accept t(x, y) suchthat (x) by (y) { } }
    (
      name ∷ m mark.OpenParenthesis ∷ m mark.CloseParenthesis ∷ m mark.OpenBrace ∷ w word.Accept ∷ name ∷
          m mark.OpenParenthesis ∷ name ∷ m mark.Comma ∷ name ∷ m mark.CloseParenthesis ∷ w word.Suchthat ∷
          m mark.OpenParenthesis ∷ name ∷ m mark.CloseParenthesis ∷ w word.By ∷ m mark.OpenParenthesis ∷ name ∷
          m mark.CloseParenthesis ∷ m mark.OpenBrace ∷ m mark.CloseBrace ∷ m mark.CloseBrace ∷ [],
      Fine,
    ) ∷
    -- f() { accept t(x) by (x) suchthat (x) ; }
    (
      name ∷ m mark.OpenParenthesis ∷ m mark.CloseParenthesis ∷ m mark.OpenBrace ∷ w word.Accept ∷ name ∷
          m mark.OpenParenthesis ∷ name ∷ m mark.CloseParenthesis ∷ w word.By ∷ m mark.OpenParenthesis ∷ name ∷
          m mark.CloseParenthesis ∷ w word.Suchthat ∷ m mark.OpenParenthesis ∷ name ∷ m mark.CloseParenthesis ∷
          m mark.Semicolon ∷ m mark.CloseBrace ∷ [],
      Fine,
    ) ∷
    -- f() { accept t(x) by (x) @by (x) ; }
    (
      name ∷ m mark.OpenParenthesis ∷ m mark.CloseParenthesis ∷ m mark.OpenBrace ∷ w word.Accept ∷ name ∷
          m mark.OpenParenthesis ∷ name ∷ m mark.CloseParenthesis ∷ w word.By ∷ m mark.OpenParenthesis ∷ name ∷
          m mark.CloseParenthesis ∷ w word.By ∷ m mark.OpenParenthesis ∷ name ∷ m mark.CloseParenthesis ∷ m mark.Semicolon ∷
          m mark.CloseBrace ∷ [],
      SyntaxAt 13,
    ) ∷
    -- f() { accept t(x) suchthat (x) @suchthat (x) ; }
    (
      name ∷ m mark.OpenParenthesis ∷ m mark.CloseParenthesis ∷ m mark.OpenBrace ∷ w word.Accept ∷ name ∷
          m mark.OpenParenthesis ∷ name ∷ m mark.CloseParenthesis ∷ w word.Suchthat ∷ m mark.OpenParenthesis ∷ name ∷
          m mark.CloseParenthesis ∷ w word.Suchthat ∷ m mark.OpenParenthesis ∷ name ∷ m mark.CloseParenthesis ∷
          m mark.Semicolon ∷ m mark.CloseBrace ∷ [],
      SyntaxAt 13,
    ) ∷
    -- f() { accept t(@1) ; }
    (
      name ∷ m mark.OpenParenthesis ∷ m mark.CloseParenthesis ∷ m mark.OpenBrace ∷ w word.Accept ∷ name ∷
          m mark.OpenParenthesis ∷ number ∷ m mark.CloseParenthesis ∷ m mark.Semicolon ∷ m mark.CloseBrace ∷
          [],
      SyntaxAt 7,
    ) ∷
    -- f() { accept @( ) ; }
    (
      name ∷ m mark.OpenParenthesis ∷ m mark.CloseParenthesis ∷ m mark.OpenBrace ∷ w word.Accept ∷
          m mark.OpenParenthesis ∷ m mark.CloseParenthesis ∷ m mark.Semicolon ∷ m mark.CloseBrace ∷ [],
      SyntaxAt 5,
    ) ∷
    -- f() { accept t() suchthat @x ; }
    (
      name ∷ m mark.OpenParenthesis ∷ m mark.CloseParenthesis ∷ m mark.OpenBrace ∷ w word.Accept ∷ name ∷
          m mark.OpenParenthesis ∷ m mark.CloseParenthesis ∷ w word.Suchthat ∷ name ∷ m mark.Semicolon ∷ m mark.CloseBrace ∷
          [],
      SyntaxAt 9,
    ) ∷
    -- f() { accept t() suchthat (x) @
    (
      name ∷ m mark.OpenParenthesis ∷ m mark.CloseParenthesis ∷ m mark.OpenBrace ∷ w word.Accept ∷ name ∷
          m mark.OpenParenthesis ∷ m mark.CloseParenthesis ∷ w word.Suchthat ∷ m mark.OpenParenthesis ∷ name ∷
          m mark.CloseParenthesis ∷ [],
      SyntaxAt 12,
    ) ∷
    -- f() { accept t() by (x @; }
    (
      name ∷ m mark.OpenParenthesis ∷ m mark.CloseParenthesis ∷ m mark.OpenBrace ∷ w word.Accept ∷ name ∷
          m mark.OpenParenthesis ∷ m mark.CloseParenthesis ∷ w word.By ∷ m mark.OpenParenthesis ∷ name ∷ m mark.Semicolon ∷
          m mark.CloseBrace ∷ [],
      SyntaxAt 11,
    ) ∷
    -- f() { accept t() @1; }
    (
      name ∷ m mark.OpenParenthesis ∷ m mark.CloseParenthesis ∷ m mark.OpenBrace ∷ w word.Accept ∷ name ∷
          m mark.OpenParenthesis ∷ m mark.CloseParenthesis ∷ number ∷ m mark.Semicolon ∷ m mark.CloseBrace ∷
          [],
      SyntaxAt 8,
    ) ∷
    -- f() { select { accept t() ; } }
    (
      name ∷ m mark.OpenParenthesis ∷ m mark.CloseParenthesis ∷ m mark.OpenBrace ∷ w word.Select ∷ m mark.OpenBrace ∷
          w word.Accept ∷ name ∷ m mark.OpenParenthesis ∷ m mark.CloseParenthesis ∷ m mark.Semicolon ∷ m mark.CloseBrace ∷
          m mark.CloseBrace ∷ [],
      Fine,
    ) ∷
    -- f() { select { (a): accept t() { } b = 1; or delay 5; c; or immediate; or terminate; } }
    (
      name ∷ m mark.OpenParenthesis ∷ m mark.CloseParenthesis ∷ m mark.OpenBrace ∷ w word.Select ∷ m mark.OpenBrace ∷
          m mark.OpenParenthesis ∷ name ∷ m mark.CloseParenthesis ∷ m mark.Colon ∷ w word.Accept ∷ name ∷
          m mark.OpenParenthesis ∷ m mark.CloseParenthesis ∷ m mark.OpenBrace ∷ m mark.CloseBrace ∷ name ∷ m mark.Assign ∷
          number ∷ m mark.Semicolon ∷ w word.Or ∷ w word.Delay ∷ number ∷ m mark.Semicolon ∷ name ∷ m mark.Semicolon ∷
          w word.Or ∷ w word.Immediate ∷ m mark.Semicolon ∷ w word.Or ∷ w word.Terminate ∷ m mark.Semicolon ∷
          m mark.CloseBrace ∷ m mark.CloseBrace ∷ [],
      Fine,
    ) ∷
    -- f() { select { @} }
    (
      name ∷ m mark.OpenParenthesis ∷ m mark.CloseParenthesis ∷ m mark.OpenBrace ∷ w word.Select ∷ m mark.OpenBrace ∷
          m mark.CloseBrace ∷ m mark.CloseBrace ∷ [],
      SyntaxAt 6,
    ) ∷
    -- f() { select { terminate; or @} }
    (
      name ∷ m mark.OpenParenthesis ∷ m mark.CloseParenthesis ∷ m mark.OpenBrace ∷ w word.Select ∷ m mark.OpenBrace ∷
          w word.Terminate ∷ m mark.Semicolon ∷ w word.Or ∷ m mark.CloseBrace ∷ m mark.CloseBrace ∷ [],
      SyntaxAt 9,
    ) ∷
    -- f() { select { terminate; @a; } }
    (
      name ∷ m mark.OpenParenthesis ∷ m mark.CloseParenthesis ∷ m mark.OpenBrace ∷ w word.Select ∷ m mark.OpenBrace ∷
          w word.Terminate ∷ m mark.Semicolon ∷ name ∷ m mark.Semicolon ∷ m mark.CloseBrace ∷ m mark.CloseBrace ∷
          [],
      SyntaxAt 8,
    ) ∷
    -- f() { select { (a) @accept t() ; } }
    (
      name ∷ m mark.OpenParenthesis ∷ m mark.CloseParenthesis ∷ m mark.OpenBrace ∷ w word.Select ∷ m mark.OpenBrace ∷
          m mark.OpenParenthesis ∷ name ∷ m mark.CloseParenthesis ∷ w word.Accept ∷ name ∷ m mark.OpenParenthesis ∷
          m mark.CloseParenthesis ∷ m mark.Semicolon ∷ m mark.CloseBrace ∷ m mark.CloseBrace ∷ [],
      SyntaxAt 9,
    ) ∷
    -- f() { select { @a : terminate; } }
    (
      name ∷ m mark.OpenParenthesis ∷ m mark.CloseParenthesis ∷ m mark.OpenBrace ∷ w word.Select ∷ m mark.OpenBrace ∷
          name ∷ m mark.Colon ∷ w word.Terminate ∷ m mark.Semicolon ∷ m mark.CloseBrace ∷ m mark.CloseBrace ∷
          [],
      SyntaxAt 6,
    ) ∷
    -- f() { select { delay 1; int a; a = 1; } }
    (
      name ∷ m mark.OpenParenthesis ∷ m mark.CloseParenthesis ∷ m mark.OpenBrace ∷ w word.Select ∷ m mark.OpenBrace ∷
          w word.Delay ∷ number ∷ m mark.Semicolon ∷ w word.Int ∷ name ∷ m mark.Semicolon ∷ name ∷ m mark.Assign ∷ number ∷
          m mark.Semicolon ∷ m mark.CloseBrace ∷ m mark.CloseBrace ∷ [],
      Fine,
    ) ∷
    -- f() { select { (a): @(b): terminate; } }
    (
      name ∷ m mark.OpenParenthesis ∷ m mark.CloseParenthesis ∷ m mark.OpenBrace ∷ w word.Select ∷ m mark.OpenBrace ∷
          m mark.OpenParenthesis ∷ name ∷ m mark.CloseParenthesis ∷ m mark.Colon ∷ m mark.OpenParenthesis ∷ name ∷
          m mark.CloseParenthesis ∷ m mark.Colon ∷ w word.Terminate ∷ m mark.Semicolon ∷ m mark.CloseBrace ∷
          m mark.CloseBrace ∷ [],
      SyntaxAt 10,
    ) ∷
    -- f() { select { immediate; int a; @
    (
      name ∷ m mark.OpenParenthesis ∷ m mark.CloseParenthesis ∷ m mark.OpenBrace ∷ w word.Select ∷ m mark.OpenBrace ∷
          w word.Immediate ∷ m mark.Semicolon ∷ w word.Int ∷ name ∷ m mark.Semicolon ∷ [],
      SyntaxAt 11,
    ) ∷
    -- f() { select { immediate @
    (
      name ∷ m mark.OpenParenthesis ∷ m mark.CloseParenthesis ∷ m mark.OpenBrace ∷ w word.Select ∷ m mark.OpenBrace ∷
          w word.Immediate ∷ [],
      SyntaxAt 7,
    ) ∷
    -- f() { @switch (1) { } }
    (
      name ∷ m mark.OpenParenthesis ∷ m mark.CloseParenthesis ∷ m mark.OpenBrace ∷ w word.Switch ∷
          m mark.OpenParenthesis ∷ number ∷ m mark.CloseParenthesis ∷ m mark.OpenBrace ∷ m mark.CloseBrace ∷
          m mark.CloseBrace ∷ [],
      SyntaxAt 4,
    ) ∷
    -- f() { @goto a; }
    (
      name ∷ m mark.OpenParenthesis ∷ m mark.CloseParenthesis ∷ m mark.OpenBrace ∷ w word.Goto ∷ name ∷
          m mark.Semicolon ∷ m mark.CloseBrace ∷ [],
      SyntaxAt 4,
    ) ∷
    []

-- expressions
abbrev pub expressions : List Row
expressions =
    -- f() { a = b = c; }
    (
      name ∷ m mark.OpenParenthesis ∷ m mark.CloseParenthesis ∷ m mark.OpenBrace ∷ name ∷ m mark.Assign ∷ name ∷
          m mark.Assign ∷ name ∷ m mark.Semicolon ∷ m mark.CloseBrace ∷ [],
      Fine,
    ) ∷
    -- f() { a += 1; a -= 1; a *= 1; a /= 1; a %= 1; }
    (
      name ∷ m mark.OpenParenthesis ∷ m mark.CloseParenthesis ∷ m mark.OpenBrace ∷ name ∷ m mark.PlusAssign ∷ number ∷
          m mark.Semicolon ∷ name ∷ m mark.MinusAssign ∷ number ∷ m mark.Semicolon ∷ name ∷ m mark.StarAssign ∷ number ∷
          m mark.Semicolon ∷ name ∷ m mark.SlashAssign ∷ number ∷ m mark.Semicolon ∷ name ∷ m mark.PercentAssign ∷ number ∷
          m mark.Semicolon ∷ m mark.CloseBrace ∷ [],
      Fine,
    ) ∷
    -- f() { a = @; }
    (
      name ∷ m mark.OpenParenthesis ∷ m mark.CloseParenthesis ∷ m mark.OpenBrace ∷ name ∷ m mark.Assign ∷
          m mark.Semicolon ∷ m mark.CloseBrace ∷ [],
      SyntaxAt 6,
    ) ∷
    -- f() { a = @= b; }
    (
      name ∷ m mark.OpenParenthesis ∷ m mark.CloseParenthesis ∷ m mark.OpenBrace ∷ name ∷ m mark.Assign ∷
          m mark.Assign ∷ name ∷ m mark.Semicolon ∷ m mark.CloseBrace ∷ [],
      SyntaxAt 6,
    ) ∷
    -- f() { within 5 ? p.t(1) : 0; }
    (
      name ∷ m mark.OpenParenthesis ∷ m mark.CloseParenthesis ∷ m mark.OpenBrace ∷ w word.Within ∷ number ∷
          m mark.Question ∷ name ∷ m mark.Dot ∷ name ∷ m mark.OpenParenthesis ∷ number ∷ m mark.CloseParenthesis ∷
          m mark.Colon ∷ number ∷ m mark.Semicolon ∷ m mark.CloseBrace ∷ [],
      Fine,
    ) ∷
    -- f() { x = within 5 ? p.t() : within 6 ? q.u() : 1; }
    (
      name ∷ m mark.OpenParenthesis ∷ m mark.CloseParenthesis ∷ m mark.OpenBrace ∷ name ∷ m mark.Assign ∷
          w word.Within ∷ number ∷ m mark.Question ∷ name ∷ m mark.Dot ∷ name ∷ m mark.OpenParenthesis ∷
          m mark.CloseParenthesis ∷ m mark.Colon ∷ w word.Within ∷ number ∷ m mark.Question ∷ name ∷ m mark.Dot ∷ name ∷
          m mark.OpenParenthesis ∷ m mark.CloseParenthesis ∷ m mark.Colon ∷ number ∷ m mark.Semicolon ∷ m mark.CloseBrace ∷
          [],
      Fine,
    ) ∷
    -- f() { within 5 ? p.t() @; }
    (
      name ∷ m mark.OpenParenthesis ∷ m mark.CloseParenthesis ∷ m mark.OpenBrace ∷ w word.Within ∷ number ∷
          m mark.Question ∷ name ∷ m mark.Dot ∷ name ∷ m mark.OpenParenthesis ∷ m mark.CloseParenthesis ∷ m mark.Semicolon ∷
          m mark.CloseBrace ∷ [],
      SyntaxAt 12,
    ) ∷
    -- f() { within 5 ? @-p : 0; }
    (
      name ∷ m mark.OpenParenthesis ∷ m mark.CloseParenthesis ∷ m mark.OpenBrace ∷ w word.Within ∷ number ∷
          m mark.Question ∷ m mark.Minus ∷ name ∷ m mark.Colon ∷ number ∷ m mark.Semicolon ∷ m mark.CloseBrace ∷
          [],
      SyntaxAt 7,
    ) ∷
    -- f() { within a @= 1 ? p : 0; }
    (
      name ∷ m mark.OpenParenthesis ∷ m mark.CloseParenthesis ∷ m mark.OpenBrace ∷ w word.Within ∷ name ∷
          m mark.Assign ∷ number ∷ m mark.Question ∷ name ∷ m mark.Colon ∷ number ∷ m mark.Semicolon ∷ m mark.CloseBrace ∷
          [],
      SyntaxAt 6,
    ) ∷
    -- f() { 1 + @within 5 ? p.t() : 0; }
    (
      name ∷ m mark.OpenParenthesis ∷ m mark.CloseParenthesis ∷ m mark.OpenBrace ∷ number ∷ m mark.Plus ∷
          w word.Within ∷ number ∷ m mark.Question ∷ name ∷ m mark.Dot ∷ name ∷ m mark.OpenParenthesis ∷
          m mark.CloseParenthesis ∷ m mark.Colon ∷ number ∷ m mark.Semicolon ∷ m mark.CloseBrace ∷ [],
      SyntaxAt 6,
    ) ∷
    -- f() { a ? within 5 @; }
    (
      name ∷ m mark.OpenParenthesis ∷ m mark.CloseParenthesis ∷ m mark.OpenBrace ∷ name ∷ m mark.Question ∷
          w word.Within ∷ number ∷ m mark.Semicolon ∷ m mark.CloseBrace ∷ [],
      SyntaxAt 8,
    ) ∷
    -- f() { a ? b : c; }
    (
      name ∷ m mark.OpenParenthesis ∷ m mark.CloseParenthesis ∷ m mark.OpenBrace ∷ name ∷ m mark.Question ∷ name ∷
          m mark.Colon ∷ name ∷ m mark.Semicolon ∷ m mark.CloseBrace ∷ [],
      Fine,
    ) ∷
    -- f() { a ? b = c : d ? e : f; }
    (
      name ∷ m mark.OpenParenthesis ∷ m mark.CloseParenthesis ∷ m mark.OpenBrace ∷ name ∷ m mark.Question ∷ name ∷
          m mark.Assign ∷ name ∷ m mark.Colon ∷ name ∷ m mark.Question ∷ name ∷ m mark.Colon ∷ name ∷ m mark.Semicolon ∷
          m mark.CloseBrace ∷ [],
      Fine,
    ) ∷
    -- f() { a ? b @; }
    (
      name ∷ m mark.OpenParenthesis ∷ m mark.CloseParenthesis ∷ m mark.OpenBrace ∷ name ∷ m mark.Question ∷ name ∷
          m mark.Semicolon ∷ m mark.CloseBrace ∷ [],
      SyntaxAt 7,
    ) ∷
    -- f() { a ? b : @; }
    (
      name ∷ m mark.OpenParenthesis ∷ m mark.CloseParenthesis ∷ m mark.OpenBrace ∷ name ∷ m mark.Question ∷ name ∷
          m mark.Colon ∷ m mark.Semicolon ∷ m mark.CloseBrace ∷ [],
      SyntaxAt 8,
    ) ∷
    -- f() { a ? b : c = d; }
    (
      name ∷ m mark.OpenParenthesis ∷ m mark.CloseParenthesis ∷ m mark.OpenBrace ∷ name ∷ m mark.Question ∷ name ∷
          m mark.Colon ∷ name ∷ m mark.Assign ∷ name ∷ m mark.Semicolon ∷ m mark.CloseBrace ∷ [],
      Fine,
    ) ∷
    -- f() { a || b && c == d != e < f <= g > h >= i + j - k * l / m % n; }
    (
      name ∷ m mark.OpenParenthesis ∷ m mark.CloseParenthesis ∷ m mark.OpenBrace ∷ name ∷ m mark.Or ∷ name ∷
          m mark.And ∷ name ∷ m mark.Equal ∷ name ∷ m mark.NotEqual ∷ name ∷ m mark.Less ∷ name ∷ m mark.LessEqual ∷ name ∷
          m mark.Greater ∷ name ∷ m mark.GreaterEqual ∷ name ∷ m mark.Plus ∷ name ∷ m mark.Minus ∷ name ∷ m mark.Star ∷
          name ∷ m mark.Slash ∷ name ∷ m mark.Percent ∷ name ∷ m mark.Semicolon ∷ m mark.CloseBrace ∷ [],
      Fine,
    ) ∷
    -- f() { a || @; }
    (
      name ∷ m mark.OpenParenthesis ∷ m mark.CloseParenthesis ∷ m mark.OpenBrace ∷ name ∷ m mark.Or ∷
          m mark.Semicolon ∷ m mark.CloseBrace ∷ [],
      SyntaxAt 6,
    ) ∷
    -- f() { a && @|| b; }
    (
      name ∷ m mark.OpenParenthesis ∷ m mark.CloseParenthesis ∷ m mark.OpenBrace ∷ name ∷ m mark.And ∷ m mark.Or ∷
          name ∷ m mark.Semicolon ∷ m mark.CloseBrace ∷ [],
      SyntaxAt 6,
    ) ∷
    -- f() { a == @== b; }
    (
      name ∷ m mark.OpenParenthesis ∷ m mark.CloseParenthesis ∷ m mark.OpenBrace ∷ name ∷ m mark.Equal ∷ m mark.Equal ∷
          name ∷ m mark.Semicolon ∷ m mark.CloseBrace ∷ [],
      SyntaxAt 6,
    ) ∷
    -- f() { a < @; }
    (
      name ∷ m mark.OpenParenthesis ∷ m mark.CloseParenthesis ∷ m mark.OpenBrace ∷ name ∷ m mark.Less ∷
          m mark.Semicolon ∷ m mark.CloseBrace ∷ [],
      SyntaxAt 6,
    ) ∷
    -- f() { a + @; }
    (
      name ∷ m mark.OpenParenthesis ∷ m mark.CloseParenthesis ∷ m mark.OpenBrace ∷ name ∷ m mark.Plus ∷
          m mark.Semicolon ∷ m mark.CloseBrace ∷ [],
      SyntaxAt 6,
    ) ∷
    -- f() { a * @/ b; }
    (
      name ∷ m mark.OpenParenthesis ∷ m mark.CloseParenthesis ∷ m mark.OpenBrace ∷ name ∷ m mark.Star ∷ m mark.Slash ∷
          name ∷ m mark.Semicolon ∷ m mark.CloseBrace ∷ [],
      SyntaxAt 6,
    ) ∷
    -- f() { a @! b; }
    (
      name ∷ m mark.OpenParenthesis ∷ m mark.CloseParenthesis ∷ m mark.OpenBrace ∷ name ∷ m mark.Not ∷ name ∷
          m mark.Semicolon ∷ m mark.CloseBrace ∷ [],
      SyntaxAt 5,
    ) ∷
    -- f() { - + ! ++ -- a; }
    (
      name ∷ m mark.OpenParenthesis ∷ m mark.CloseParenthesis ∷ m mark.OpenBrace ∷ m mark.Minus ∷ m mark.Plus ∷
          m mark.Not ∷ m mark.Increment ∷ m mark.Decrement ∷ name ∷ m mark.Semicolon ∷ m mark.CloseBrace ∷ [],
      Fine,
    ) ∷
    -- f() { - @; }
    (
      name ∷ m mark.OpenParenthesis ∷ m mark.CloseParenthesis ∷ m mark.OpenBrace ∷ m mark.Minus ∷ m mark.Semicolon ∷
          m mark.CloseBrace ∷ [],
      SyntaxAt 5,
    ) ∷
    -- f() { ! @) ; }
    (
      name ∷ m mark.OpenParenthesis ∷ m mark.CloseParenthesis ∷ m mark.OpenBrace ∷ m mark.Not ∷
          m mark.CloseParenthesis ∷ m mark.Semicolon ∷ m mark.CloseBrace ∷ [],
      SyntaxAt 5,
    ) ∷
    -- f() { a.b.c(1)[2].d ++; }
    (
      name ∷ m mark.OpenParenthesis ∷ m mark.CloseParenthesis ∷ m mark.OpenBrace ∷ name ∷ m mark.Dot ∷ name ∷
          m mark.Dot ∷ name ∷ m mark.OpenParenthesis ∷ number ∷ m mark.CloseParenthesis ∷ m mark.OpenBracket ∷ number ∷
          m mark.CloseBracket ∷ m mark.Dot ∷ name ∷ m mark.Increment ∷ m mark.Semicolon ∷ m mark.CloseBrace ∷ [],
      Fine,
    ) ∷
    -- f() { p.t; p.t(); p.t(1, a = 2); }
    (
      name ∷ m mark.OpenParenthesis ∷ m mark.CloseParenthesis ∷ m mark.OpenBrace ∷ name ∷ m mark.Dot ∷ name ∷
          m mark.Semicolon ∷ name ∷ m mark.Dot ∷ name ∷ m mark.OpenParenthesis ∷ m mark.CloseParenthesis ∷
          m mark.Semicolon ∷ name ∷ m mark.Dot ∷ name ∷ m mark.OpenParenthesis ∷ number ∷ m mark.Comma ∷ name ∷
          m mark.Assign ∷ number ∷ m mark.CloseParenthesis ∷ m mark.Semicolon ∷ m mark.CloseBrace ∷ [],
      Fine,
    ) ∷
    -- f() { a.@1; }
    (
      name ∷ m mark.OpenParenthesis ∷ m mark.CloseParenthesis ∷ m mark.OpenBrace ∷ name ∷ m mark.Dot ∷ number ∷
          m mark.Semicolon ∷ m mark.CloseBrace ∷ [],
      SyntaxAt 6,
    ) ∷
    -- f() { a.b @1; }
    (
      name ∷ m mark.OpenParenthesis ∷ m mark.CloseParenthesis ∷ m mark.OpenBrace ∷ name ∷ m mark.Dot ∷ name ∷ number ∷
          m mark.Semicolon ∷ m mark.CloseBrace ∷ [],
      SyntaxAt 7,
    ) ∷
    -- f() { a ++ @++; }
    (
      name ∷ m mark.OpenParenthesis ∷ m mark.CloseParenthesis ∷ m mark.OpenBrace ∷ name ∷ m mark.Increment ∷
          m mark.Increment ∷ m mark.Semicolon ∷ m mark.CloseBrace ∷ [],
      SyntaxAt 6,
    ) ∷
    -- f() { a[@]; }
    (
      name ∷ m mark.OpenParenthesis ∷ m mark.CloseParenthesis ∷ m mark.OpenBrace ∷ name ∷ m mark.OpenBracket ∷
          m mark.CloseBracket ∷ m mark.Semicolon ∷ m mark.CloseBrace ∷ [],
      SyntaxAt 6,
    ) ∷
    -- f() { a[1 @; }
    (
      name ∷ m mark.OpenParenthesis ∷ m mark.CloseParenthesis ∷ m mark.OpenBrace ∷ name ∷ m mark.OpenBracket ∷ number ∷
          m mark.Semicolon ∷ m mark.CloseBrace ∷ [],
      SyntaxAt 7,
    ) ∷
    -- f() { x ++ @.m; }
    (
      name ∷ m mark.OpenParenthesis ∷ m mark.CloseParenthesis ∷ m mark.OpenBrace ∷ name ∷ m mark.Increment ∷
          m mark.Dot ∷ name ∷ m mark.Semicolon ∷ m mark.CloseBrace ∷ [],
      SyntaxAt 6,
    ) ∷
    -- f() { f() @(); }
    (
      name ∷ m mark.OpenParenthesis ∷ m mark.CloseParenthesis ∷ m mark.OpenBrace ∷ name ∷ m mark.OpenParenthesis ∷
          m mark.CloseParenthesis ∷ m mark.OpenParenthesis ∷ m mark.CloseParenthesis ∷ m mark.Semicolon ∷
          m mark.CloseBrace ∷ [],
      SyntaxAt 7,
    ) ∷
    -- f() { 1; 'a'; a; a(); a(1, 2); create p(); create p(1); putchar(1); getchar(); printf("x"); printf("x", 1, 2); (1); }
    (
      name ∷ m mark.OpenParenthesis ∷ m mark.CloseParenthesis ∷ m mark.OpenBrace ∷ number ∷ m mark.Semicolon ∷
          character ∷ m mark.Semicolon ∷ name ∷ m mark.Semicolon ∷ name ∷ m mark.OpenParenthesis ∷ m mark.CloseParenthesis ∷
          m mark.Semicolon ∷ name ∷ m mark.OpenParenthesis ∷ number ∷ m mark.Comma ∷ number ∷ m mark.CloseParenthesis ∷
          m mark.Semicolon ∷ w word.Create ∷ name ∷ m mark.OpenParenthesis ∷ m mark.CloseParenthesis ∷ m mark.Semicolon ∷
          w word.Create ∷ name ∷ m mark.OpenParenthesis ∷ number ∷ m mark.CloseParenthesis ∷ m mark.Semicolon ∷
          w word.Putchar ∷ m mark.OpenParenthesis ∷ number ∷ m mark.CloseParenthesis ∷ m mark.Semicolon ∷ w word.Getchar ∷
          m mark.OpenParenthesis ∷ m mark.CloseParenthesis ∷ m mark.Semicolon ∷ w word.Printf ∷ m mark.OpenParenthesis ∷
          string ∷ m mark.CloseParenthesis ∷ m mark.Semicolon ∷ w word.Printf ∷ m mark.OpenParenthesis ∷ string ∷
          m mark.Comma ∷ number ∷ m mark.Comma ∷ number ∷ m mark.CloseParenthesis ∷ m mark.Semicolon ∷
          m mark.OpenParenthesis ∷ number ∷ m mark.CloseParenthesis ∷ m mark.Semicolon ∷ m mark.CloseBrace ∷ [],
      Fine,
    ) ∷
    -- f() { create @1; }
    (
      name ∷ m mark.OpenParenthesis ∷ m mark.CloseParenthesis ∷ m mark.OpenBrace ∷ w word.Create ∷ number ∷
          m mark.Semicolon ∷ m mark.CloseBrace ∷ [],
      SyntaxAt 5,
    ) ∷
    -- f() { create p @; }
    (
      name ∷ m mark.OpenParenthesis ∷ m mark.CloseParenthesis ∷ m mark.OpenBrace ∷ w word.Create ∷ name ∷
          m mark.Semicolon ∷ m mark.CloseBrace ∷ [],
      SyntaxAt 6,
    ) ∷
    -- f() { putchar(@); }
    (
      name ∷ m mark.OpenParenthesis ∷ m mark.CloseParenthesis ∷ m mark.OpenBrace ∷ w word.Putchar ∷
          m mark.OpenParenthesis ∷ m mark.CloseParenthesis ∷ m mark.Semicolon ∷ m mark.CloseBrace ∷ [],
      SyntaxAt 6,
    ) ∷
    -- f() { getchar(@1); }
    (
      name ∷ m mark.OpenParenthesis ∷ m mark.CloseParenthesis ∷ m mark.OpenBrace ∷ w word.Getchar ∷
          m mark.OpenParenthesis ∷ number ∷ m mark.CloseParenthesis ∷ m mark.Semicolon ∷ m mark.CloseBrace ∷
          [],
      SyntaxAt 6,
    ) ∷
    -- f() { printf(@1); }
    (
      name ∷ m mark.OpenParenthesis ∷ m mark.CloseParenthesis ∷ m mark.OpenBrace ∷ w word.Printf ∷
          m mark.OpenParenthesis ∷ number ∷ m mark.CloseParenthesis ∷ m mark.Semicolon ∷ m mark.CloseBrace ∷
          [],
      SyntaxAt 6,
    ) ∷
    -- f() { printf("x" @1); }
    (
      name ∷ m mark.OpenParenthesis ∷ m mark.CloseParenthesis ∷ m mark.OpenBrace ∷ w word.Printf ∷
          m mark.OpenParenthesis ∷ string ∷ number ∷ m mark.CloseParenthesis ∷ m mark.Semicolon ∷ m mark.CloseBrace ∷
          [],
      SyntaxAt 7,
    ) ∷
    -- f() { printf("x", @); }
    (
      name ∷ m mark.OpenParenthesis ∷ m mark.CloseParenthesis ∷ m mark.OpenBrace ∷ w word.Printf ∷
          m mark.OpenParenthesis ∷ string ∷ m mark.Comma ∷ m mark.CloseParenthesis ∷ m mark.Semicolon ∷ m mark.CloseBrace ∷
          [],
      SyntaxAt 8,
    ) ∷
    -- f() { (1 @; }
    (
      name ∷ m mark.OpenParenthesis ∷ m mark.CloseParenthesis ∷ m mark.OpenBrace ∷ m mark.OpenParenthesis ∷ number ∷
          m mark.Semicolon ∷ m mark.CloseBrace ∷ [],
      SyntaxAt 6,
    ) ∷
    -- f() { (@) ; }
    (
      name ∷ m mark.OpenParenthesis ∷ m mark.CloseParenthesis ∷ m mark.OpenBrace ∷ m mark.OpenParenthesis ∷
          m mark.CloseParenthesis ∷ m mark.Semicolon ∷ m mark.CloseBrace ∷ [],
      SyntaxAt 5,
    ) ∷
    -- f() { @"x"; }
    (
      name ∷ m mark.OpenParenthesis ∷ m mark.CloseParenthesis ∷ m mark.OpenBrace ∷ string ∷ m mark.Semicolon ∷
          m mark.CloseBrace ∷ [],
      SyntaxAt 4,
    ) ∷
    -- f() { g(1, @); }
    (
      name ∷ m mark.OpenParenthesis ∷ m mark.CloseParenthesis ∷ m mark.OpenBrace ∷ name ∷ m mark.OpenParenthesis ∷
          number ∷ m mark.Comma ∷ m mark.CloseParenthesis ∷ m mark.Semicolon ∷ m mark.CloseBrace ∷ [],
      SyntaxAt 8,
    ) ∷
    -- f() { g(1 @2); }
    (
      name ∷ m mark.OpenParenthesis ∷ m mark.CloseParenthesis ∷ m mark.OpenBrace ∷ name ∷ m mark.OpenParenthesis ∷
          number ∷ number ∷ m mark.CloseParenthesis ∷ m mark.Semicolon ∷ m mark.CloseBrace ∷ [],
      SyntaxAt 7,
    ) ∷
    -- f() { g(@, 1); }
    (
      name ∷ m mark.OpenParenthesis ∷ m mark.CloseParenthesis ∷ m mark.OpenBrace ∷ name ∷ m mark.OpenParenthesis ∷
          m mark.Comma ∷ number ∷ m mark.CloseParenthesis ∷ m mark.Semicolon ∷ m mark.CloseBrace ∷ [],
      SyntaxAt 6,
    ) ∷
    -- f() { g( @
    (
      name ∷ m mark.OpenParenthesis ∷ m mark.CloseParenthesis ∷ m mark.OpenBrace ∷ name ∷ m mark.OpenParenthesis ∷
          [],
      SyntaxAt 6,
    ) ∷
    -- f() { @sizeof(a); }
    (
      name ∷ m mark.OpenParenthesis ∷ m mark.CloseParenthesis ∷ m mark.OpenBrace ∷ w word.Sizeof ∷
          m mark.OpenParenthesis ∷ name ∷ m mark.CloseParenthesis ∷ m mark.Semicolon ∷ m mark.CloseBrace ∷ [],
      SyntaxAt 4,
    ) ∷
    []

-- Nesting: a statement counts, its expression, each expression in parentheses, what follows a `:`, and the operand of a prefix
-- operator. The four tokens `f() {` stand before the statement.
abbrev opening : List What
opening = name ∷ m mark.OpenParenthesis ∷ m mark.CloseParenthesis ∷ m mark.OpenBrace ∷ []

abbrev closing : List What
closing = m mark.Semicolon ∷ m mark.CloseBrace ∷ []

abbrev parenthesised : ℕ → List What → List What
parenthesised n xs = opening ++ times n (m mark.OpenParenthesis ∷ []) (xs ++ times n (m mark.CloseParenthesis ∷ []) closing)

abbrev pub nesting : List Row
nesting =
    -- 198 parentheses round a number, which then has the nesting 200, and 199
    (parenthesised 198 (number ∷ []), Fine) ∷
    (parenthesised 199 (number ∷ []), TooDeepAt 203) ∷
    -- what cannot begin an expression is a fault of syntax there
    (parenthesised 199 (m mark.CloseParenthesis ∷ []), SyntaxAt 203) ∷
    -- the earlier fault is answered
    (opening ++ times 199 (m mark.OpenParenthesis ∷ []) (number ∷ number ∷ []), TooDeepAt 203) ∷
    (opening ++ number ∷ number ∷ times 199 (m mark.OpenParenthesis ∷ []) (number ∷ []), SyntaxAt 5) ∷
    -- prefix operators: the first is at the nesting 2
    (opening ++ times 198 (m mark.Minus ∷ []) (number ∷ closing), Fine) ∷
    (opening ++ times 199 (m mark.Minus ∷ []) (number ∷ closing), TooDeepAt 203) ∷
    -- blocks: each is a statement
    (opening ++ times 200 (m mark.OpenBrace ∷ []) (times 201 (m mark.CloseBrace ∷ []) []), Fine) ∷
    (opening ++ times 201 (m mark.OpenBrace ∷ []) (times 202 (m mark.CloseBrace ∷ []) []), TooDeepAt 204) ∷
    -- what follows a `:`; in the last one the expression behind the `?` comes first
    (opening ++ times 198 (name ∷ m mark.Question ∷ name ∷ m mark.Colon ∷ []) (name ∷ closing), Fine) ∷
    (opening ++ times 199 (name ∷ m mark.Question ∷ name ∷ m mark.Colon ∷ []) (name ∷ closing), TooDeepAt 798) ∷
    -- what follows a `?` where that is within one more
    (opening ++ times 197 (m mark.OpenParenthesis ∷ []) (name ∷ m mark.Question ∷ name ∷ m mark.Colon ∷ name ∷ times 197 (m mark.CloseParenthesis ∷ []) closing), Fine) ∷
    (opening ++ times 198 (m mark.OpenParenthesis ∷ []) (name ∷ m mark.Question ∷ name ∷ m mark.Colon ∷ name ∷ times 198 (m mark.CloseParenthesis ∷ []) closing), TooDeepAt 204) ∷
    -- an `else` stands in the `if` that it belongs to: `if (a)` 100 times, and then `else ;` 100 times
    (opening ++ times 100 (w word.If ∷ m mark.OpenParenthesis ∷ name ∷ m mark.CloseParenthesis ∷ []) (m mark.Semicolon ∷ times 100 (w word.Else ∷ m mark.Semicolon ∷ []) (m mark.CloseBrace ∷ [])), Fine) ∷
    (opening ++ times 100 (w word.If ∷ m mark.OpenParenthesis ∷ name ∷ m mark.CloseParenthesis ∷ []) (m mark.Semicolon ∷ times 101 (w word.Else ∷ m mark.Semicolon ∷ []) (m mark.CloseBrace ∷ [])), SyntaxAt 605) ∷
    -- long rows and what is taken of an expression add nothing
    (opening ++ name ∷ times 300 (m mark.Plus ∷ name ∷ []) closing, Fine) ∷
    (opening ++ name ∷ times 300 (m mark.Dot ∷ name ∷ []) closing, Fine) ∷
    []
