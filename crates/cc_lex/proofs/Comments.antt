-- Comments: what is found is what stands there.
use Rattle.std.proofs.Common.{◌≡◌, ℕ, zero, suc, ◌+◌, ◌<◌, ◌≤◌, Bool, true, false, ◌&&◌, cond, eqb, List, [], ◌∷◌, ◌++◌, length, take, Option, Some, None, refl, ◌∙◌, ap, inl, inr, arith}
use Rattle.std.proofs.lemmas.Bool.{eqb-true, eqb-false}
use Rattle.std.proofs.lemmas.List.{length-append}
use Rattle.cc_lex.specs.Bytes.{is_in_line, all}
use Rattle.cc_lex.specs.Pieces.{IsOpen}
use Rattle.cc_lex.specs.Reading.{run, comment_len, comment, further}
use Rattle.cc_lex.specs.declared.fault.LexKind.TheVariants as fault
use Rattle.cc_lex.specs.declared.piece.Piece.TheVariants as piece
use Rattle.cc_lex.proofs.Runs.{Fits, Reaches, run_all, run_over, run_within}

-- ---- the end of a comment

-- these bytes and */ are the front of a text that was found
pub record Closes (text : List ℕ) (n : ℕ) : Type 0 where
  pub inside : List ℕ
  pub bytes : take n text ≡ inside ++ 42 ∷ 47 ∷ []
  pub is_open : IsOpen inside
  pub within : n ≤ length text
  pub long : 2 ≤ n

open_nil : IsOpen []
open_nil [] after e = cc
open_nil (b ∷ before) after e = cc

-- one byte more in a comment that has not ended
open_more : (a : ℕ) (inside : List ℕ) → IsOpen inside → ((tail : List ℕ) → a ≡ 42 → inside ≡ 47 ∷ tail → ⊥) → IsOpen (a ∷ inside)
open_more a inside h k [] after e =
    let p : a ≡ 42 = cc in
    let q : inside ≡ 47 ∷ after = cc in
    k after p q
open_more a inside h k (b ∷ before) after e =
    let q : inside ≡ before ++ 42 ∷ 47 ∷ after = cc in
    h before after q

first_is : (b : ℕ) (rest : List ℕ) (m : ℕ) (tail : List ℕ) → 2 ≤ m → take m (b ∷ rest) ≡ (47 ∷ tail) ++ 42 ∷ 47 ∷ [] → b ≡ 47
first_is b rest zero tail h e = absurd (omega arith)
first_is b rest (suc m) tail h e = cc

closes_more : (a b : ℕ) (rest : List ℕ) (m : ℕ) → (a ≡ 42 → b ≡ 47 → ⊥) → Closes (b ∷ rest) m → Closes (a ∷ b ∷ rest) (1 + m)
closes_more a b rest m ne c =
    let len : 1 + m ≡ suc m = omega arith in
    record {
      inside = a ∷ c.inside;
      bytes = rw len (ap (λ (xs : List ℕ). a ∷ xs) c.bytes);
      is_open = open_more a c.inside c.is_open (λ tail p q. ne p (first_is b rest m tail c.long (c.bytes ∙ ap (λ (xs : List ℕ). xs ++ 42 ∷ 47 ∷ []) q)));
      within = omega (arith, c.within);
      long = omega (arith, c.long);
    }

further-some : (o : Option ℕ) (n : ℕ) → further 1 o ≡ Some n → (m : ℕ) × (o ≡ Some m) × (n ≡ 1 + m)
further-some None n e = absurd cc
further-some (Some m) n e = (m, refl, cc)

comment_step : (a b : ℕ) (rest : List ℕ) (n : ℕ) → ((m : ℕ) → comment_len (b ∷ rest) ≡ Some m → Closes (b ∷ rest) m)
    → (s t : Bool) → eqb a 42 ≡ s → eqb b 47 ≡ t → cond (s && t) (Some 2) (further 1 (comment_len (b ∷ rest))) ≡ Some n → Closes (a ∷ b ∷ rest) n
comment_step a b rest n ih true true p q e =
    let two : n ≡ 2 = cc in
    let star : a ≡ 42 = eqb-true a 42 p in
    let slash : b ≡ 47 = eqb-true b 47 q in
    rw two (record { inside = []; bytes = rw (star, slash) refl; is_open = open_nil; within = omega arith; long = omega arith })
comment_step a b rest n ih true false p q e =
    let m = further-some (comment_len (b ∷ rest)) n e in
    rw m.2 (closes_more a b rest m.0 (λ star slash. eqb-false b 47 q slash) (ih m.0 m.1))
comment_step a b rest n ih false t p q e =
    let m = further-some (comment_len (b ∷ rest)) n e in
    rw m.2 (closes_more a b rest m.0 (λ star slash. eqb-false a 42 p star) (ih m.0 m.1))

pub comment_len-closes : (text : List ℕ) (n : ℕ) → comment_len text ≡ Some n → Closes text n
comment_len-closes [] n e = absurd cc
comment_len-closes (a ∷ []) n e = absurd cc
comment_len-closes (a ∷ b ∷ rest) n e = comment_step a b rest n (λ m h. comment_len-closes (b ∷ rest) m h) (eqb a 42) (eqb b 47) refl refl e

-- ---- from a comment to what is found

open_tail : (a : ℕ) (inside : List ℕ) → IsOpen (a ∷ inside) → IsOpen inside
open_tail a inside h before after e = h (a ∷ before) after (ap (λ (xs : List ℕ). a ∷ xs) e)

not_end : (a b : ℕ) → (a ≡ 42 → b ≡ 47 → ⊥) → (s t : Bool) → eqb a 42 ≡ s → eqb b 47 ≡ t → (eqb a 42 && eqb b 47) ≡ false
not_end a b h true true p q = absurd (h (eqb-true a 42 p) (eqb-true b 47 q))
not_end a b h true false p q = rw (p, q) refl
not_end a b h false t p q = rw p refl

-- a byte in front of a comment's end
len_more : (a : ℕ) (tail : List ℕ) (n : ℕ) → 0 < length tail → ((t : List ℕ) → a ≡ 42 → tail ≡ 47 ∷ t → ⊥) → comment_len tail ≡ Some n → comment_len (a ∷ tail) ≡ Some (1 + n)
len_more a [] n some ne e = absurd (omega arith)
len_more a (b ∷ tail) n some ne e =
    rw (not_end a b (λ p q. ne tail p (ap (λ (x : ℕ). x ∷ tail) q)) (eqb a 42) (eqb b 47) refl refl) (ap (further 1) e)

head_is : (b c : ℕ) (xs ys : List ℕ) → b ∷ xs ≡ c ∷ ys → b ≡ c
head_is b c xs ys e = cc

star_slash : (xs ys : List ℕ) → 42 ∷ xs ≡ 47 ∷ ys → ⊥
star_slash xs ys e = let same : ◌≡◌ {A = ℕ} 42 47 = head_is 42 47 xs ys e in omega arith

open_front : (a b : ℕ) (inside : List ℕ) → IsOpen (a ∷ b ∷ inside) → a ≡ 42 → b ≡ 47 → ⊥
open_front a b inside h p q = h [] inside (rw (p, q) refl)

stays_open : (a : ℕ) (inside rest t : List ℕ) → IsOpen (a ∷ inside) → a ≡ 42 → inside ++ 42 ∷ 47 ∷ rest ≡ 47 ∷ t → ⊥
stays_open a [] rest t h p q = star_slash (47 ∷ rest) t q
stays_open a (b ∷ inside) rest t h p q = open_front a b inside h p (head_is b 47 (inside ++ 42 ∷ 47 ∷ rest) t q)

-- the first */ ends a comment
pub comment_len-is : (inside rest : List ℕ) → IsOpen inside → comment_len (inside ++ 42 ∷ 47 ∷ rest) ≡ Some (length inside + 2)
comment_len-is [] rest h = refl
comment_len-is (a ∷ inside) rest h =
    let len : 1 + (length inside + 2) ≡ suc (length inside) + 2 = omega arith in
    len_more a (inside ++ 42 ∷ 47 ∷ rest) (length inside + 2) (omega (arith, length-append inside (42 ∷ 47 ∷ rest))) (λ t p q. stays_open a inside rest t h p q) (comment_len-is inside rest (open_tail a inside h))
    ∙ ap (λ (n : ℕ). Some n) len

-- ---- pieces

pub line-fits : (rest : List ℕ) → Fits (piece.Comment, run is_in_line rest + 2) (47 ∷ 47 ∷ rest)
line-fits rest =
    let n = run is_in_line rest in
    let len : n + 2 ≡ suc (suc n) = omega arith in
    (inl (take n rest, rw len refl, run_all is_in_line rest), omega (arith, run_within is_in_line rest))

pub block-fits : (rest : List ℕ) (found : Option ℕ) → comment_len rest ≡ found → Fits (comment found) (47 ∷ 42 ∷ rest)
block-fits rest None e = (refl, omega arith)
block-fits rest (Some n) e =
    let c : Closes rest n = comment_len-closes rest n e in
    let len : n + 2 ≡ suc (suc n) = omega arith in
    (inr (c.inside, rw len (ap (λ (xs : List ℕ). 47 ∷ 42 ∷ xs) c.bytes), c.is_open), omega (arith, c.within))

pub open-reaches : (rest : List ℕ) (found : Option ℕ) → comment_len rest ≡ found → Reaches (piece.Fault fault.OpenComment) 2 (comment found)
open-reaches rest None e = inl refl
open-reaches rest (Some n) e = inr (omega (arith, (comment_len-closes rest n e).long))

line-more : (inside rest : List ℕ) (more : ℕ) → run is_in_line (inside ++ rest) ≡ length inside + more → Reaches piece.Comment (length inside + 2) (piece.Comment, run is_in_line (inside ++ rest) + 2)
line-more inside rest zero e = let same : run is_in_line (inside ++ rest) ≡ length inside = omega arith in inl (rw same refl)
line-more inside rest (suc more) e = inr (omega arith)

pub line-reaches : (inside rest : List ℕ) → all is_in_line inside ≡ true → Reaches piece.Comment (length inside + 2) (piece.Comment, run is_in_line (inside ++ rest) + 2)
line-reaches inside rest h = line-more inside rest (run is_in_line rest) (run_over is_in_line inside rest h)
