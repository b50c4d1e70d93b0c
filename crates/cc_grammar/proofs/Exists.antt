-- There is a token of each kind.
use Rattle.std.proofs.Common.{◌≡◌, pos, true, List, [], ◌∷◌, inl, inr, refl, arith}
use Rattle.std.specs.Prelude.{◌==◌}
use Rattle.cc_lex.specs.declared.token.Mark.TheVariants as mark
use Rattle.cc_lex.specs.declared.token.Size.TheVariants as size
use Rattle.cc_lex.specs.declared.token.Token.{Token}
use Rattle.cc_lex.specs.declared.token.What.{What}
use Rattle.cc_lex.specs.declared.token.What.TheVariants as what
use Rattle.cc_lex.specs.declared.token.Word.TheVariants as word
use Rattle.cc_grammar.specs.Begins.{has}
use Rattle.cc_grammar.specs.Kinds.{Kind, kind_of, kind}
use Rattle.cc_grammar.proofs.Basics.{or_split}

-- one of each kind
abbrev samples : List What
samples =
    what.Name [] ∷ what.Number (pos 0) size.Int ∷ what.Character 0 ∷ what.String [] ∷ what.Word word.Abort ∷
    what.Word word.Accept ∷ what.Word word.Async ∷ what.Word word.Auto ∷ what.Word word.Body ∷
    what.Word word.Break ∷ what.Word word.By ∷ what.Word word.Case ∷ what.Word word.Char ∷ what.Word word.Const ∷
    what.Word word.Continue ∷ what.Word word.Create ∷ what.Word word.Default ∷ what.Word word.Delay ∷
    what.Word word.Do ∷ what.Word word.Double ∷ what.Word word.Else ∷ what.Word word.Enum ∷ what.Word word.Extern ∷
    what.Word word.Float ∷ what.Word word.For ∷ what.Word word.Getchar ∷ what.Word word.Goto ∷ what.Word word.If ∷
    what.Word word.Immediate ∷ what.Word word.Int ∷ what.Word word.Long ∷ what.Word word.Or ∷
    what.Word word.Printf ∷ what.Word word.Process ∷ what.Word word.Putchar ∷ what.Word word.Register ∷
    what.Word word.Return ∷ what.Word word.Select ∷ what.Word word.Short ∷ what.Word word.Signed ∷
    what.Word word.Sizeof ∷ what.Word word.Spec ∷ what.Word word.Static ∷ what.Word word.Struct ∷
    what.Word word.Suchthat ∷ what.Word word.Switch ∷ what.Word word.Terminate ∷ what.Word word.Trans ∷
    what.Word word.Treturn ∷ what.Word word.Typedef ∷ what.Word word.Union ∷ what.Word word.Unsigned ∷
    what.Word word.Void ∷ what.Word word.Volatile ∷ what.Word word.While ∷ what.Word word.Within ∷
    what.Mark mark.OpenParenthesis ∷ what.Mark mark.CloseParenthesis ∷ what.Mark mark.OpenBrace ∷
    what.Mark mark.CloseBrace ∷ what.Mark mark.OpenBracket ∷ what.Mark mark.CloseBracket ∷
    what.Mark mark.Semicolon ∷ what.Mark mark.Comma ∷ what.Mark mark.Dot ∷ what.Mark mark.Colon ∷
    what.Mark mark.Question ∷ what.Mark mark.Assign ∷ what.Mark mark.Plus ∷ what.Mark mark.Minus ∷
    what.Mark mark.Star ∷ what.Mark mark.Slash ∷ what.Mark mark.Percent ∷ what.Mark mark.Less ∷
    what.Mark mark.Greater ∷ what.Mark mark.Not ∷ what.Mark mark.LessEqual ∷ what.Mark mark.GreaterEqual ∷
    what.Mark mark.Equal ∷ what.Mark mark.NotEqual ∷ what.Mark mark.And ∷ what.Mark mark.Or ∷
    what.Mark mark.Increment ∷ what.Mark mark.Decrement ∷ what.Mark mark.PlusAssign ∷ what.Mark mark.MinusAssign ∷
    what.Mark mark.StarAssign ∷ what.Mark mark.SlashAssign ∷ what.Mark mark.PercentAssign ∷ []

abbrev pub kinds_of : List What → List Kind
kinds_of [] = []
kinds_of (w ∷ ws) = kind_of w ∷ kinds_of ws

abbrev pub all_kinds : List Kind
all_kinds = kinds_of samples

-- a token of a kind
pub record OfKind (k : Kind) : Type 0 where
  pub token : Token
  pub same : (k == kind token) ≡ true

flipped : (j k : Kind) → (j == k) ≡ true → (k == j) ≡ true
flipped j k h = grind arith

token_at : What → Token
token_at w = record { place = record { line = 1; column = 1 }; what = w }

is_at : (w : What) → kind (token_at w) ≡ kind_of w
unfolding token_at kind
is_at w = refl

found : (ws : List What) (k : Kind) → has (kinds_of ws) k ≡ true → OfKind k
found [] k e = absurd cc
found (w ∷ ws) k e =
    elim (or_split (kind_of w == k) (has (kinds_of ws) k) e) [
      | inl h ↦ (let same : (k == kind_of w) ≡ true = flipped (kind_of w) k h in record { token = token_at w; same = rw (is_at w) same })
      | inr h ↦ found ws k h.1
    ]

pub token_of : (k : Kind) → has all_kinds k ≡ true → OfKind k
token_of k e = found samples k e
