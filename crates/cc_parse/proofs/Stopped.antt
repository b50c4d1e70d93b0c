-- A loop ends where one of its phrases can't be read.
use Rattle.std.proofs.Common.{◌≡◌, ℕ, suc, ◌+◌, ◌-◌, ◌<◌, true, List, [], ◌∷◌, ◌++◌, refl, ap, ◌∙◌, arith}
use Rattle.std.specs.Prelude.{Err}
use Rattle.cc_lex.specs.declared.token.Token.{Token}
use Rattle.cc_grammar.specs.Kinds.{Kind}
use Rattle.cc_grammar.specs.Reading.{Bad, Deep, Answer, Outcome, Reader, and_then, at}
use Rattle.cc_expressions.specs.Steps.{Reads}
use Rattle.cc_expressions.specs.Turns.{from}
use Rattle.cc_expressions.specs.declared.cursor.Stop.{Stop}
use Rattle.cc_expressions.specs.declared.cursor.Stop.TheVariants as stop

from_bad : {A : Type 0} (p : Reader A) (f : List Kind) (n : ℕ) (found : List A) (ws over : List Token)
    → at f ws ≡ true → p ws ≡ (Bad, over) → from p f (suc n) found ws ≡ (Bad, over)
unfolding from
from_bad {A = A} p f n found ws over e h = rw (e, h) refl

from_deep : {A : Type 0} (p : Reader A) (f : List Kind) (n : ℕ) (found : List A) (ws over : List Token)
    → at f ws ≡ true → p ws ≡ (Deep, over) → from p f (suc n) found ws ≡ (Deep, over)
unfolding from
from_deep {A = A} p f n found ws over e h = rw (e, h) refl

pub stopped : {A : Type 0} (start : Answer (List A)) (p : Reader A) (f : List Kind) (total turn : ℕ) (found : List A) (ws over : List Token) (e : Stop)
    → start ≡ from p f (total - turn) found ws → turn < total → at f ws ≡ true → Reads (p ws) (Err e) over → Reads start (Err e) over
stopped start p f total turn found ws over stop.Bad i lt b h =
    let one : total - turn ≡ suc (total - (turn + 1)) = omega arith in
    i ∙ ap (λ n. from p f n found ws) one ∙ from_bad p f (total - (turn + 1)) found ws over b h
stopped start p f total turn found ws over stop.Deep i lt b h =
    let one : total - turn ≡ suc (total - (turn + 1)) = omega arith in
    i ∙ ap (λ n. from p f n found ws) one ∙ from_deep p f (total - (turn + 1)) found ws over b h
stopped start p f total turn found ws over stop.Memory i lt b h = tt
