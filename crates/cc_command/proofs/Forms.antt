-- The tokens of a program are read statement by statement.
use Rattle.std.proofs.Common.{◌≡◌, ℕ, ℤ, pos, ◌≤◌, List, [], ◌∷◌, ◌++◌, drop, All, refl, sym, ◌∙◌, ap, ap₂, append-nil}
use Rattle.std.proofs.lemmas.List.{append_assoc, append_cancel_left, flat_map_more}
use Rattle.std.proofs.lemmas.List.Elements.{All-head, All-nil, All-push, All-tail}
use Rattle.std.specs.List.{flat_map}
use Rattle.cc_command.specs.Form.{closing, IsForm, opening, statement_of, whats}
use Rattle.cc_lex.specs.declared.token.Mark.TheVariants as mark
use Rattle.cc_lex.specs.declared.token.Size.TheVariants as size
use Rattle.cc_lex.specs.declared.token.Token.{Token}
use Rattle.cc_lex.specs.declared.token.What.TheVariants as what
use Rattle.cc_lex.specs.declared.token.Word.TheVariants as word
use Rattle.cc_lex.specs.declared.token.What.{What}

-- the bytes that were read, and the tokens that are left
pub record HasRead (tokens : List Token) (bytes : List ℕ) (rest : List Token) : Type 0 where
  pub in_range : All (λ byte. byte ≤ 255) bytes
  pub begun : whats tokens ≡ opening ++ flat_map statement_of bytes ++ whats rest

-- the statements behind those that were read
record Left (bytes all : List ℕ) (rest : List What) : Type 0 where
  more : List ℕ
  joined : all ≡ bytes ++ more
  in_range : All (λ byte. byte ≤ 255) more
  left : rest ≡ flat_map statement_of more ++ closing

-- a statement, written out
abbrev put : ℕ → List What → List What
put byte rest =
    what.Word word.Putchar ∷
    what.Mark mark.OpenParenthesis ∷
    what.Number (pos byte) size.Int ∷
    what.Mark mark.CloseParenthesis ∷
    what.Mark mark.Semicolon ∷
    rest

value_of : What → ℤ
value_of (what.Number value of) = value
value_of _ = pos 0

third : List What → ℤ
third (a ∷ b ∷ c ∷ rest) = value_of c
third _ = pos 0

same_byte : (m n : ℕ) (r s : List What) → put m r ≡ put n s → m ≡ n
unfolding third value_of
same_byte m n r s e =
    let same : pos m ≡ pos n = ap third e in
    cc

same_rest : (m n : ℕ) (r s : List What) → put m r ≡ put n s → r ≡ s
same_rest m n r s e = ap (drop 5) e

front : List What → What
front [] = what.Word word.Putchar
front (w ∷ ws) = w

no_put : (m : ℕ) (r : List What) → put m r ≡ closing → ⊥
unfolding front
no_put m r e =
    let same : what.Word word.Putchar ≡ what.Mark mark.CloseBrace = ap front e in
    cc

goes_on :
    (bytes all : List ℕ) (rest : List What)
    → All (λ byte. byte ≤ 255) all
    → flat_map statement_of bytes ++ rest ≡ flat_map statement_of all ++ closing
    → Left bytes all rest
goes_on [] all rest small e = record { more = all; joined = refl; in_range = small; left = e }
goes_on (byte ∷ bytes) [] rest small e = absurd (no_put byte (flat_map statement_of bytes ++ rest) e)
goes_on (byte ∷ bytes) (other ∷ all) rest small e =
    let ours : List What = flat_map statement_of bytes ++ rest in
    let theirs : List What = flat_map statement_of all ++ closing in
    let further = goes_on bytes all rest (All-tail (λ b. b ≤ 255) other all small) (same_rest byte other ours theirs e) in
    record {
      more = further.more;
      joined = ap₂ (λ (b : ℕ) (bs : List ℕ). b ∷ bs) (sym (same_byte byte other ours theirs e)) further.joined;
      in_range = further.in_range;
      left = further.left;
    }

behind_opening : (statements rest : List What) → (opening ++ statements) ++ rest ≡ opening ++ (statements ++ rest)
behind_opening statements rest = append_assoc opening statements rest

left_of : (tokens : List Token) (bytes all : List ℕ) (rest : List Token) → HasRead tokens bytes rest → IsForm tokens all → Left bytes all (whats rest)
left_of tokens bytes all rest read form =
    let both = sym (behind_opening (flat_map statement_of bytes) (whats rest)) ∙ sym read.begun ∙ form.spelled ∙ behind_opening (flat_map statement_of all) closing in
    goes_on bytes all (whats rest) form.in_range (append_cancel_left opening _ _ both)

-- ---- the reader's steps

pub not_opened : (tokens : List Token) → ((rest : List What) → ¬ (whats tokens ≡ opening ++ rest)) → (bytes : List ℕ) → ¬ IsForm tokens bytes
not_opened tokens none bytes form =
    none (flat_map statement_of bytes ++ closing) (form.spelled ∙ behind_opening (flat_map statement_of bytes) closing)

pub opened : (tokens rest : List Token) → whats tokens ≡ opening ++ whats rest → HasRead tokens [] rest
opened tokens rest e = record { in_range = All-nil (λ b. b ≤ 255); begun = e }

pub read_one :
    (tokens : List Token) (bytes : List ℕ) (rest after : List Token) (byte : ℕ)
    → byte ≤ 255
    → HasRead tokens bytes rest
    → whats rest ≡ statement_of byte ++ whats after
    → HasRead tokens (bytes ++ byte ∷ []) after
read_one tokens bytes rest after byte small read next =
    record {
      in_range = All-push (λ b. b ≤ 255) bytes byte read.in_range small;
      begun =
          read.begun
          ∙ ap (λ ws. opening ++ flat_map statement_of bytes ++ ws) next
          ∙ sym (append_assoc (opening ++ flat_map statement_of bytes) (statement_of byte) (whats after))
          ∙ ap (λ ws. ws ++ whats after) (flat_map_more statement_of opening bytes byte);
    }

pub finished : (tokens : List Token) (bytes : List ℕ) (rest : List Token) → HasRead tokens bytes rest → whats rest ≡ closing → IsForm tokens bytes
finished tokens bytes rest read closed =
    record { in_range = read.in_range; spelled = read.begun ∙ ap (λ ws. opening ++ flat_map statement_of bytes ++ ws) closed }

stuck_at :
    (more : List ℕ) (rest : List What)
    → All (λ byte. byte ≤ 255) more
    → ((byte : ℕ) (after : List What) → byte ≤ 255 → ¬ (rest ≡ statement_of byte ++ after))
    → ¬ (rest ≡ closing)
    → ¬ (rest ≡ flat_map statement_of more ++ closing)
stuck_at [] rest small none other left = other left
stuck_at (byte ∷ more) rest small none other left = none byte (flat_map statement_of more ++ closing) (All-head (λ b. b ≤ 255) byte more small) left

pub stuck :
    (tokens : List Token) (bytes : List ℕ) (rest : List Token)
    → HasRead tokens bytes rest
    → ((byte : ℕ) (after : List What) → byte ≤ 255 → ¬ (whats rest ≡ statement_of byte ++ after))
    → ¬ (whats rest ≡ closing)
    → (all : List ℕ)
    → ¬ IsForm tokens all
stuck tokens bytes rest read none other all form =
    let left = left_of tokens bytes all rest read form in
    stuck_at left.more (whats rest) left.in_range none other left.left

-- ---- the law

nothing_more : (more : List ℕ) → closing ≡ flat_map statement_of more ++ closing → more ≡ []
nothing_more [] e = refl
nothing_more (byte ∷ more) e = absurd (no_put byte (flat_map statement_of more ++ closing) (sym e))

pub same_bytes : (tokens : List Token) (first second : List ℕ) → IsForm tokens first → IsForm tokens second → first ≡ second
same_bytes tokens first second one other =
    let both = sym (behind_opening (flat_map statement_of first) closing) ∙ sym one.spelled ∙ other.spelled ∙ behind_opening (flat_map statement_of second) closing in
    let left = goes_on first second closing other.in_range (append_cancel_left opening _ _ both) in
    sym (left.joined ∙ ap (λ more. first ++ more) (nothing_more left.more left.left) ∙ append-nil first)
