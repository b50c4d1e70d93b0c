-- A loop that reads one after another.
use Rattle.std.proofs.Common.{◌≡◌, ℕ, zero, suc, ◌+◌, ◌-◌, ◌<◌, Bool, true, false, List, [], ◌∷◌, ◌++◌, refl, ap, sym, ◌∙◌, append_assoc, arith}
use Rattle.std.specs.Prelude.{if◌then◌else◌}
use Rattle.cc_lex.specs.declared.token.Token.{Token}
use Rattle.cc_grammar.specs.Kinds.{Kind}
use Rattle.cc_grammar.specs.Reading.{Got, Bad, Deep, Answer, Reader, and_then, answered, at, loop}
use Rattle.cc_expressions.specs.Turns.{from}

from_suc : {A : Type 0} (p : Reader A) (f : List Kind) (n : ℕ) (found : List A) (ws over : List Token) (x : A)
    → at f ws ≡ true → p ws ≡ (Got x, over) → from p f (suc n) found ws ≡ from p f n (found ++ x ∷ []) over
unfolding from
from_suc {A = A} p f n found ws over x e h = rw (e, h) refl

pub turned : {A : Type 0} (start : Answer (List A)) (p : Reader A) (f : List Kind) (total turn : ℕ) (found : List A) (ws over : List Token) (x : A)
    → start ≡ from p f (total - turn) found ws → turn < total → at f ws ≡ true → p ws ≡ (Got x, over)
    → start ≡ from p f (total - (turn + 1)) (found ++ x ∷ []) over
turned start p f total turn found ws over x i lt e h =
    let one : total - turn ≡ suc (total - (turn + 1)) = omega arith in
    i ∙ ap (λ n. from p f n found ws) one ∙ from_suc p f (total - (turn + 1)) found ws over x e h

nil_right : {A : Type 0} (xs : List A) → xs ++ [] ≡ xs
nil_right [] = refl
nil_right {A = A} (x ∷ xs) = ap (λ (l : List A). x ∷ l) (nil_right xs)

step_is : {A : Type 0} (b : Bool) (ws : List Token) (found : List A) (a : Answer A) (q : Reader (List A)) (k : A → Reader (List A))
    → ((x : A) (o : List Token) → k x o ≡ answered (λ xs. (found ++ x ∷ []) ++ xs) (q o))
    → (if b then and_then a k else (Got found, ws)) ≡ answered (λ xs. found ++ xs) (if b then and_then a (λ x o. answered (λ xs. x ∷ xs) (q o)) else (Got [], ws))
step_is {A = A} false ws found a q k e = ap (λ (l : List A). (Got l, ws)) (sym (nil_right found))
step_is true ws found (Bad, o) q k e = refl
step_is true ws found (Deep, o) q k e = refl
step_is {A = A} true ws found (Got x, o) q k e = e x o ∙ go (q o)
  where
    go : (z : Answer (List A)) → answered (λ xs. (found ++ x ∷ []) ++ xs) z ≡ answered (λ xs. found ++ xs) (answered (λ xs. x ∷ xs) z)
    go (Got xs, o) = ap (λ (l : List A). (Got l, o)) (append_assoc found (x ∷ []) xs)
    go (Bad, o) = refl
    go (Deep, o) = refl

from_loop : {A : Type 0} (p : Reader A) (f : List Kind) (n : ℕ) (found : List A) (ws : List Token) → from p f n found ws ≡ answered (λ xs. found ++ xs) (loop p f n ws)
unfolding from
from_loop {A = A} p f zero found ws = ap (λ (l : List A). (Got l, ws)) (sym (nil_right found))
from_loop p f (suc n) found ws =
    step_is (at f ws) ws found (p ws) (loop p f n) (λ x o. from p f n (found ++ x ∷ []) o) (λ x o. from_loop p f n (found ++ x ∷ []) o)

answered_id : {A : Type 0} (a : Answer (List A)) → answered (λ xs. [] ++ xs) a ≡ a
answered_id (Got x, o) = refl
answered_id (Bad, o) = refl
answered_id (Deep, o) = refl

pub begun : {A : Type 0} (p : Reader A) (f : List Kind) (n m : ℕ) (ws : List Token) → n ≡ m → loop p f n ws ≡ from p f (m - 0) [] ws
begun p f n m ws e = let same : n ≡ m - 0 = omega arith in sym (from_loop p f n [] ws ∙ answered_id (loop p f n ws)) ∙ ap (λ k. from p f k [] ws) same
