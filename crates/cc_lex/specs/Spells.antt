-- Which tokens spell a text, and what its first fault is.
use Rattle.std.specs.Prelude.{◌≡◌, ◌⊎◌, ℕ, ◌+◌, ◌<◌, ◌≤◌, ◌==◌, if◌then◌else◌, List, [], ◌∷◌, ◌++◌, length, Result, Ok, Err}
use Rattle.cc_base.specs.declared.names.Place.{Place}
use Rattle.cc_lex.specs.Pieces.{Stands}
use Rattle.cc_lex.specs.TokenList.{TokenList}
use Rattle.cc_lex.specs.declared.fault.LexError.{LexError}
use Rattle.cc_lex.specs.declared.fault.LexError.TheVariants as error
use Rattle.cc_lex.specs.declared.fault.LexKind.{LexKind}
use Rattle.cc_lex.specs.declared.fault.LexKind.TheVariants as fault
use Rattle.cc_lex.specs.declared.piece.Piece.TheVariants as piece
use Rattle.cc_lex.specs.declared.token.Token.{Token}
use Rattle.cc_lex.specs.declared.token.What.{What}

-- the place of the first byte
abbrev pub start : Place
start = record { line = 1; column = 1 }

-- the place after a byte: byte 10 ends a line
abbrev pub after_byte : Place → ℕ → Place
after_byte place b = if b == 10 then record { line = place.line + 1; column = 1 } else record { line = place.line; column = place.column + 1 }

-- the place after bytes
abbrev pub after : Place → List ℕ → Place
after place [] = place
after place (b ∷ bytes) = after (after_byte place b) bytes

-- Where reading ends: at the end of the text, or at a fault.
pub data Ending : Type 0 where
  Whole : Ending
  Faulty : LexKind → Ending

-- From a place on, a text is read as these tokens up to the place where reading ends: the piece that stands at the front,
-- and then the rest. White space and comments give no token, and a fault ends it.
pub data Reads : Place → List ℕ → List Token → Place → Ending → Type 0 where
  whole : {at : Place} → Reads at [] [] at Whole
  faulty : {at : Place} (kind : LexKind) (bytes rest : List ℕ) → Stands (piece.Fault kind) bytes rest → Reads at (bytes ++ rest) [] at (Faulty kind)
  space : {at end : Place} {tokens : List Token} {ending : Ending} (bytes rest : List ℕ) →
      Stands piece.Space bytes rest → Reads (after at bytes) rest tokens end ending → Reads at (bytes ++ rest) tokens end ending
  comment : {at end : Place} {tokens : List Token} {ending : Ending} (bytes rest : List ℕ) →
      Stands piece.Comment bytes rest → Reads (after at bytes) rest tokens end ending → Reads at (bytes ++ rest) tokens end ending
  token : {at end : Place} {tokens : List Token} {ending : Ending} (what : What) (bytes rest : List ℕ) →
      Stands (piece.Token what) bytes rest → Reads (after at bytes) rest tokens end ending
      → Reads at (bytes ++ rest) (record { place = at; what = what } ∷ tokens) end ending

-- these tokens spell the text
abbrev pub Spells : List ℕ → TokenList → Type 0
Spells text list = Reads start text list.tokens list.end Whole

-- how many bytes a text may have
abbrev pub longest_text : ℕ
longest_text = 1048576

-- The first fault of a text, and its place. That a text is too long comes before every other fault.
pub data FirstFault : List ℕ → Place → LexKind → Type 0 where
  too_long : {text : List ℕ} → longest_text < length text → FirstFault text start fault.TextTooLong
  at_piece : {text : List ℕ} {place : Place} {kind : LexKind} (tokens : List Token) →
      length text ≤ longest_text → Reads start text tokens place (Faulty kind) → FirstFault text place kind

-- what is read of a text: the tokens that spell it, or its first fault
abbrev pub Lexes : List ℕ → Result TokenList LexError → Type 0
Lexes text (Ok list) = (length text ≤ longest_text) × Spells text list
Lexes text (Err (error.Fault place kind)) = FirstFault text place kind
Lexes text (Err error.Memory) = Unit {0}

-- the fault that was answered, if one was
abbrev pub IfFault : Result TokenList LexError → (Place → LexKind → Type 0) → Type 0
IfFault (Ok list) Is = Unit {0}
IfFault (Err (error.Fault place kind)) Is = Is place kind
IfFault (Err error.Memory) Is = Unit {0}

-- this is answered, unless memory was wanting
abbrev pub Gives : Result TokenList LexError → Result TokenList LexError → Type 0
Gives result wanted = (result ≡ wanted) ⊎ (result ≡ Err error.Memory)
