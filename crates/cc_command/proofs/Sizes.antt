-- How many statements a text has at most.
use Rattle.std.proofs.Common.{◌≡◌, ℕ, ◌+◌, ◌*◌, ◌≤◌, ◌<◌, List, [], ◌∷◌, ◌++◌, length, refl, ap, arith, length-append}
use Rattle.std.proofs.lemmas.List.{length-map}
use Rattle.std.specs.List.{flat_map}
use Rattle.cc_base.specs.declared.names.Place.{Place}
use Rattle.cc_lex.proofs.Fits.{is-some}
use Rattle.cc_lex.specs.Spells.{Ending, Reads, whole, faulty, space, comment, token}
use Rattle.cc_lex.specs.declared.piece.Piece.TheVariants as piece
use Rattle.cc_lex.specs.declared.token.Token.{Token}
use Rattle.cc_command.specs.Form.{IsForm, closing, opening, statement_of}
use Rattle.cc_command.specs.Texts.{MeansProgram}
use Rattle.cc_typed.specs.Parts.{Parts}

-- a token has a byte at least
tokens-length : {at : Place} {text : List ℕ} {tokens : List Token} {end : Place} {ending : Ending} → Reads at text tokens end ending → length tokens ≤ length text
tokens-length whole = omega arith
tokens-length (faulty kind bytes rest s) = omega arith
tokens-length (space bytes rest s r) =
    let others = tokens-length r in
    omega (arith, others, length-append bytes rest)
tokens-length (comment bytes rest s r) =
    let others = tokens-length r in
    omega (arith, others, length-append bytes rest)
tokens-length (token what bytes rest s r) =
    let others = tokens-length r in
    let some = is-some (piece.Token what) bytes s.0 in
    omega (arith, others, some, length-append bytes rest)

-- a statement has five tokens
statements-length : (bytes : List ℕ) → length (flat_map statement_of bytes) ≡ 5 * length bytes
statements-length [] = refl
statements-length (byte ∷ bytes) =
    let others = statements-length bytes in
    let five : length (statement_of byte) ≡ 5 = refl in
    let both : length (flat_map statement_of (byte ∷ bytes)) ≡ length (statement_of byte) + length (flat_map statement_of bytes) =
    length-append (statement_of byte) (flat_map statement_of bytes) in
    omega (arith, others, five, both)

form-length : (tokens : List Token) (bytes : List ℕ) → IsForm tokens bytes → 5 * length bytes ≤ length tokens
form-length tokens bytes form =
    let whole = ap length form.spelled in
    let named = length-map tokens (λ t. t.what) in
    let split = length-append (opening ++ flat_map statement_of bytes) closing in
    let front = length-append opening (flat_map statement_of bytes) in
    omega (arith, whole, named, split, front, statements-length bytes)

-- so the run of its program has fewer turns than are allowed
pub few-statements : (text : List ℕ) (program : Parts) → (means : MeansProgram text program) → length means.built.bytes + 1 < 1000000
few-statements text program means =
    let tokens = form-length means.list.tokens means.built.bytes means.built.form in
    let short = tokens-length means.read.tokens.1 in
    omega (arith, means.read.tokens.0, tokens, short)
