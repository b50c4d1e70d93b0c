-- Characters and strings: what is found is what stands there.
use Rattle.std.proofs.Common.{◌≡◌, ℕ, suc, ◌+◌, ◌<◌, ◌≤◌, Bool, true, false, ◌&&◌, cond, eqb, List, [], ◌∷◌, ◌++◌, length, take, drop, Option, Some, None, refl, sym, ◌∙◌, ap, inl, inr, arith}
use Rattle.std.proofs.lemmas.Bool.{and_parts, eqb-true}
use Rattle.std.proofs.Math.Seq.{take-append-add}
use Rattle.std.proofs.lemmas.List.{drop_at, length-append, length-drop, length-take-le, take-append-drop}
use Rattle.cc_lex.specs.Bytes.{is_plain_character, is_plain_in_string, escape}
use Rattle.cc_lex.specs.Pieces.{StandsFor, plain, escaped, StandFor, none, more}
use Rattle.cc_lex.specs.Reading.{character_at, escaped_character, inside, in_front, string_at, closed_string}
use Rattle.cc_lex.specs.declared.fault.LexKind.TheVariants as fault
use Rattle.cc_lex.specs.declared.piece.Piece.{Piece}
use Rattle.cc_lex.specs.declared.piece.Piece.TheVariants as piece
use Rattle.cc_lex.specs.declared.token.What.TheVariants as what
use Rattle.cc_lex.proofs.Numerals.{eqb_not}
use Rattle.cc_lex.proofs.Runs.{Fits, Reaches}

-- ---- characters

abbrev bad_character : Piece × ℕ
bad_character = (piece.Fault fault.BadCharacter, 1)

escaped-closed : (a e b c : ℕ) (rest : List ℕ) → eqb a 92 ≡ true → escape e ≡ Some b → (t : Bool) → eqb c 39 ≡ t
    → Fits (cond t (piece.Token (what.Character b), 4) (piece.Fault fault.BadCharacter, 1)) (39 ∷ a ∷ e ∷ c ∷ rest)
escaped-closed a e b c rest h k true q =
    let backslash : a ≡ 92 = eqb-true a 92 h in
    let quote : c ≡ 39 = eqb-true c 39 q in
    ((a ∷ e ∷ [], rw quote refl, rw backslash (escaped e b k)), omega arith)
escaped-closed a e b c rest h k false q = (refl, omega arith)

escaped-fits : (a e : ℕ) (rest : List ℕ) (found : Option ℕ) → eqb a 92 ≡ true → escape e ≡ found → Fits (escaped_character found rest) (39 ∷ a ∷ e ∷ rest)
escaped-fits a e rest None h k = (refl, omega arith)
escaped-fits a e [] (Some b) h k = (refl, omega arith)
escaped-fits a e (c ∷ rest) (Some b) h k = escaped-closed a e b c rest h k (eqb c 39) refl

plain-fits : (a b : ℕ) (rest : List ℕ) (t : Bool) → (is_plain_character a && eqb b 39) ≡ t
    → Fits (cond t (piece.Token (what.Character a), 3) (piece.Fault fault.BadCharacter, 1)) (39 ∷ a ∷ b ∷ rest)
plain-fits a b rest true e =
    let parts : (is_plain_character a ≡ true) × (eqb b 39 ≡ true) = and_parts (is_plain_character a) (eqb b 39) e in
    let quote : b ≡ 39 = eqb-true b 39 parts.1 in
    ((a ∷ [], rw quote refl, plain a parts.0), omega arith)
plain-fits a b rest false e = (refl, omega arith)

character-test : (a b : ℕ) (rest : List ℕ) (t : Bool) → eqb a 92 ≡ t
    → Fits (cond t (escaped_character (escape b) rest) (cond (is_plain_character a && eqb b 39) (piece.Token (what.Character a), 3) (piece.Fault fault.BadCharacter, 1))) (39 ∷ a ∷ b ∷ rest)
character-test a b rest true e = escaped-fits a b rest (escape b) e refl
character-test a b rest false e = plain-fits a b rest (is_plain_character a && eqb b 39) refl

pub character_at-fits : (text : List ℕ) → Fits (character_at text) (39 ∷ text)
unfolding character_at
character_at-fits [] = (refl, omega arith)
character_at-fits (a ∷ []) = (refl, omega arith)
character_at-fits (a ∷ b ∷ rest) = character-test a b rest (eqb a 92) refl

-- each character is found
pub character_at-is : (inside : List ℕ) (b : ℕ) (rest : List ℕ) → StandsFor is_plain_character inside b → ◌≡◌ {A = Piece × ℕ} (character_at (inside ++ 39 ∷ rest)) (piece.Token (what.Character b), length inside + 2)
unfolding character_at
character_at-is _ _ rest (plain b h) = rw (h, eqb_not is_plain_character b 92 h refl) refl
character_at-is _ _ rest (escaped e b h) = rw h refl

escaped-or : (found : Option ℕ) (rest : List ℕ) → Reaches (piece.Fault fault.BadCharacter) 1 (escaped_character found rest)
escaped-or None rest = inl refl
escaped-or (Some b) [] = inl refl
escaped-or (Some b) (c ∷ rest) = elim (eqb c 39) as (λ t. Reaches (piece.Fault fault.BadCharacter) 1 (cond t (piece.Token (what.Character b), 4) (piece.Fault fault.BadCharacter, 1))) [ true ↦ inr (omega arith) | false ↦ inl refl ]

pub bad_character-reaches : (rest : List ℕ) → Reaches (piece.Fault fault.BadCharacter) 1 (character_at rest)
unfolding character_at
bad_character-reaches [] = inl refl
bad_character-reaches (a ∷ []) = inl refl
bad_character-reaches (a ∷ b ∷ rest) =
    elim (eqb a 92) as (λ t. Reaches (piece.Fault fault.BadCharacter) 1 (cond t (escaped_character (escape b) rest) (cond (is_plain_character a && eqb b 39) (piece.Token (what.Character a), 3) (piece.Fault fault.BadCharacter, 1)))) [
      | true ↦ escaped-or (escape b) rest
      | false ↦ elim (is_plain_character a && eqb b 39) as (λ t. Reaches (piece.Fault fault.BadCharacter) 1 (cond t (piece.Token (what.Character a), 3) (piece.Fault fault.BadCharacter, 1))) [ true ↦ inr (omega arith) | false ↦ inl refl ]
    ]

-- ---- strings

-- the bytes at the front that are parts of a string
abbrev Parts : List ℕ × ℕ → List ℕ → Type 0
Parts found text = StandFor is_plain_in_string (take found.1 text) found.0 × (found.1 ≤ length text)

parts-one : (a : ℕ) (t : Bool) → is_plain_in_string a ≡ t → Parts (cond t (a ∷ [], 1) ([], 0)) (a ∷ [])
parts-one a true e = (more (plain a e) none, omega arith)
parts-one a false e = (none, omega arith)

take-suc : (n : ℕ) (b : ℕ) (text : List ℕ) → take (1 + n) (b ∷ text) ≡ b ∷ take n text
take-suc n b text = let e : 1 + n ≡ suc n = omega arith in rw e refl

take-suc-suc : (n : ℕ) (a b : ℕ) (text : List ℕ) → take (2 + n) (a ∷ b ∷ text) ≡ a ∷ b ∷ take n text
take-suc-suc n a b text = let e : 2 + n ≡ suc (suc n) = omega arith in rw e refl

parts-escape : (a e : ℕ) (rest : List ℕ) (found : Option ℕ) → eqb a 92 ≡ true → escape e ≡ found → Parts (inside rest) rest → Parts (in_front found 2 (inside rest)) (a ∷ e ∷ rest)
parts-escape a e rest None h k p = (none, omega arith)
parts-escape a e rest (Some b) h k p =
    let backslash : a ≡ 92 = eqb-true a 92 h in
    (rw (take-suc-suc (inside rest).1 a e rest, backslash) (more (escaped e b k) p.0), omega (arith, p.1))

parts-plain : (a : ℕ) (rest : List ℕ) (t : Bool) → is_plain_in_string a ≡ t → Parts (inside rest) rest → Parts (cond t (in_front (Some a) 1 (inside rest)) ([], 0)) (a ∷ rest)
parts-plain a rest true e p = (rw (take-suc (inside rest).1 a rest) (more (plain a e) p.0), omega (arith, p.1))
parts-plain a rest false e p = (none, omega arith)

parts-test : (a b : ℕ) (rest : List ℕ) (t : Bool) → eqb a 92 ≡ t → Parts (inside rest) rest → Parts (inside (b ∷ rest)) (b ∷ rest)
    → Parts (cond t (in_front (escape b) 2 (inside rest)) (cond (is_plain_in_string a) (in_front (Some a) 1 (inside (b ∷ rest))) ([], 0))) (a ∷ b ∷ rest)
parts-test a b rest true e p q = parts-escape a b rest (escape b) e refl p
parts-test a b rest false e p q = parts-plain a (b ∷ rest) (is_plain_in_string a) refl q

inside-parts : (text : List ℕ) → Parts (inside text) text
inside-parts [] = (none, omega arith)
inside-parts (a ∷ []) = parts-one a (is_plain_in_string a) refl
inside-parts (a ∷ b ∷ rest) = parts-test a b rest (eqb a 92) refl (inside-parts rest) (inside-parts (b ∷ rest))

-- a plain byte before others
plain_part : (b : ℕ) (tail : List ℕ) → 0 < length tail → is_plain_in_string b ≡ true → inside (b ∷ tail) ≡ in_front (Some b) 1 (inside tail)
plain_part b [] some h = absurd (omega arith)
plain_part b (c ∷ tail) some h = rw (h, eqb_not is_plain_in_string b 92 h refl) refl

with_quote : (bytes rest : List ℕ) → 0 < length (bytes ++ 34 ∷ rest)
with_quote bytes rest = omega (arith, length-append bytes (34 ∷ rest))

-- parts up to a quote are all found
inside-is : {bytes string : List ℕ} → StandFor is_plain_in_string bytes string → (rest : List ℕ) → ◌≡◌ {A = List ℕ × ℕ} (inside (bytes ++ 34 ∷ rest)) (string, length bytes)
inside-is none [] = refl
inside-is none (c ∷ rest) = refl
inside-is (more {inside = tail} {bytes = string} (plain b h) r) rest =
    let len : 1 + length tail ≡ suc (length tail) = omega arith in
    plain_part b (tail ++ 34 ∷ rest) (with_quote tail rest) h ∙ ap (in_front (Some b) 1) (inside-is r rest) ∙ ap (λ (n : ℕ). let found : List ℕ × ℕ = (b ∷ string, n) in found) len
inside-is (more {inside = tail} {bytes = string} (escaped e b h) r) rest =
    let len : 2 + length tail ≡ suc (suc (length tail)) = omega arith in
    rw h (ap (in_front (Some b) 2) (inside-is r rest) ∙ ap (λ (n : ℕ). let found : List ℕ × ℕ = (b ∷ string, n) in found) len)

take_quote : (n b : ℕ) (text left : List ℕ) → n ≤ length text → drop n text ≡ b ∷ left → take (n + 1) text ≡ take n text ++ b ∷ []
take_quote n b text left h d =
    let whole : take n text ++ (b ∷ left) ≡ text = ap (λ (xs : List ℕ). take n text ++ xs) (sym d) ∙ take-append-drop n text in
    let len : length (take n text) ≡ n = length-take-le n text h in
    ap (take (n + 1)) (sym whole) ∙ ap (λ (k : ℕ). take (k + 1) (take n text ++ (b ∷ left))) (sym len) ∙ take-append-add (take n text) (b ∷ left) 1

closed-test : (text : List ℕ) (found : List ℕ × ℕ) (b : ℕ) (left : List ℕ) → Parts found text → drop found.1 text ≡ b ∷ left → (t : Bool) → eqb b 34 ≡ t
    → Fits (cond t (piece.Token (what.String found.0), found.1 + 2) (piece.Fault fault.BadString, 1)) (34 ∷ text)
closed-test text found b left p d true e =
    let quote : b ≡ 34 = eqb-true b 34 e in
    let n = found.1 in
    let len : n + 2 ≡ suc (n + 1) = omega arith in
    let bytes : take (n + 2) (34 ∷ text) ≡ 34 ∷ (take n text ++ 34 ∷ []) =
    ap (λ (k : ℕ). take k (34 ∷ text)) len ∙ ap (λ (xs : List ℕ). 34 ∷ xs) (take_quote n b text left p.1 d ∙ ap (λ (c : ℕ). take n text ++ c ∷ []) quote) in
    ((take n text, bytes, p.0), omega (arith, ap length d, length-drop n text, p.1))
closed-test text found b left p d false e = (refl, omega arith)

closed-fits : (text : List ℕ) (found : List ℕ × ℕ) (left : List ℕ) → Parts found text → drop found.1 text ≡ left → Fits (closed_string found left) (34 ∷ text)
closed-fits text found [] p d = (refl, omega arith)
closed-fits text found (b ∷ left) p d = closed-test text found b left p d (eqb b 34) refl

pub string_at-fits : (text : List ℕ) → Fits (string_at text) (34 ∷ text)
unfolding string_at
string_at-fits text = closed-fits text (inside text) (drop (inside text).1 text) (inside-parts text) refl

pub string_at-is : (bytes string rest : List ℕ) → StandFor is_plain_in_string bytes string → ◌≡◌ {A = Piece × ℕ} (string_at (bytes ++ 34 ∷ rest)) (piece.Token (what.String string), length bytes + 2)
unfolding string_at
string_at-is bytes string rest s = rw (inside-is s rest, drop_at bytes (34 ∷ rest) (length bytes) refl) refl

closed-reaches : (found : List ℕ × ℕ) (left : List ℕ) → Reaches (piece.Fault fault.BadString) 1 (closed_string found left)
closed-reaches found [] = inl refl
closed-reaches found (b ∷ left) = elim (eqb b 34) as (λ t. Reaches (piece.Fault fault.BadString) 1 (cond t (piece.Token (what.String found.0), found.1 + 2) (piece.Fault fault.BadString, 1))) [ true ↦ inr (omega arith) | false ↦ inl refl ]

pub bad_string-reaches : (rest : List ℕ) → Reaches (piece.Fault fault.BadString) 1 (string_at rest)
unfolding string_at
bad_string-reaches rest = closed-reaches (inside rest) (drop (inside rest).1 rest)
