-- The form of program that is built so far: `main` that puts bytes, one after the other.
use Rattle.std.specs.Prelude.{ℕ, pos, ◌≡◌, ◌≤◌, List, [], ◌∷◌, ◌++◌, map, codes, All}
use Rattle.std.specs.List.{flat_map}
use Rattle.cc_lex.specs.declared.token.Mark.TheVariants as mark
use Rattle.cc_lex.specs.declared.token.Size.TheVariants as size
use Rattle.cc_lex.specs.declared.token.Token.{Token}
use Rattle.cc_lex.specs.declared.token.What.{What}
use Rattle.cc_lex.specs.declared.token.What.TheVariants as what
use Rattle.cc_lex.specs.declared.token.Word.TheVariants as word

-- what these tokens are, wherever they stand
abbrev pub whats : List Token → List What
whats tokens = map (λ token. token.what) tokens

-- `main() {`
abbrev pub opening : List What
opening = what.Name (codes "main") ∷ what.Mark mark.OpenParenthesis ∷ what.Mark mark.CloseParenthesis ∷ what.Mark mark.OpenBrace ∷ []

-- `putchar(byte);`
abbrev pub statement_of : ℕ → List What
statement_of byte =
    what.Word word.Putchar ∷
    what.Mark mark.OpenParenthesis ∷
    what.Number (pos byte) size.Int ∷
    what.Mark mark.CloseParenthesis ∷
    what.Mark mark.Semicolon ∷
    []

-- `}`
abbrev pub closing : List What
closing = what.Mark mark.CloseBrace ∷ []

-- the tokens are those of the program that puts these bytes
pub record IsForm (tokens : List Token) (bytes : List ℕ) : Type 0 where
  pub in_range : All (λ byte. byte ≤ 255) bytes
  pub spelled : whats tokens ≡ opening ++ flat_map statement_of bytes ++ closing
