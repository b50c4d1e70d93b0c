-- A format is printed byte by byte.
use Rattle.std.proofs.Common.{◌≡◌, ◌≢◌, ℕ, ℤ, pos, negsuc, zero, suc, ◌+◌, ◌≤◌, Bool, true, false, List, [], ◌∷◌, ◌++◌, append_assoc, drop, get_or, refl, sym, ◌∙◌, ap, arith}
use Rattle.std.specs.Fmt as fmt
use Rattle.std.specs.Prelude.{if◌then◌else◌, cond, nat_eq}
use Rattle.std.proofs.lemmas.Bool.Decides.{nat_tests}
use Rattle.std.proofs.lemmas.Grind.{common_steps}
use Rattle.cc_base.specs.Formats.{after_percent, after_percent_l, conversions, conversions_after_percent, conversions_after_percent_l, formatted, signed_decimal}
use Rattle.cc_vm.specs.Printing.{IsMark, left_over, numbered, numbers_from, printed_from, reading_after, written}
use Rattle.cc_vm.specs.declared.marks.Mark.{Mark}
use Rattle.cc_vm.specs.declared.marks.Mark.TheVariants as mark
use Rattle.cc_vm.specs.declared.marks.Reading.{Reading}
use Rattle.cc_vm.specs.declared.marks.Reading.TheVariants as reading

pub same-decimal : (z : ℤ) → fmt.signed_decimal z ≡ signed_decimal z
same-decimal (pos n) = refl
same-decimal (negsuc n) = refl

differ : (a b : ℕ) → a ≢ b → nat_eq a b ≡ false
differ a b h = grind (arith, nat_tests)

-- one more byte
pub reads : (r : Reading) (m : Mark) (b : ℕ) (rest : List ℕ) (ns : List ℤ) → IsMark b m
    → printed_from r (b ∷ rest) ns ≡ written r m b (get_or ns 0 (pos 0)) ++ printed_from (reading_after r m) rest (if numbered r m then drop 1 ns else ns)
unfolding formatted after_percent after_percent_l
reads reading.Plain mark.Percent b rest ns h = rw h refl
reads reading.Plain mark.Decimal b rest ns h = rw h refl
reads reading.Plain mark.Character b rest ns h = rw h refl
reads reading.Plain mark.Long b rest ns h = rw h refl
reads reading.Plain mark.Other b rest ns h = rw (differ b 37 h.0) refl
reads reading.Percent mark.Percent b rest ns h = rw h refl
reads reading.Percent mark.Decimal b rest ns h = rw h refl
reads reading.Percent mark.Character b rest ns h = rw h refl
reads reading.Percent mark.Long b rest ns h = rw h refl
reads reading.Percent mark.Other b rest ns h = rw (differ b 37 h.0, differ b 100 h.1, differ b 99 h.2, differ b 108 h.3) refl
reads reading.Long mark.Percent b rest ns h = rw h refl
reads reading.Long mark.Decimal b rest ns h = rw h refl
reads reading.Long mark.Character b rest ns h = rw h refl
reads reading.Long mark.Long b rest ns h = rw h refl
reads reading.Long mark.Other b rest ns h = rw (differ b 100 h.1, differ b 37 h.0) refl

pub ends : (r : Reading) (ns : List ℤ) → printed_from r [] ns ≡ left_over r
unfolding formatted after_percent after_percent_l
ends reading.Plain ns = refl
ends reading.Percent ns = refl
ends reading.Long ns = refl

-- a loop over the format that has come so far
pub prints-on : (format : List ℕ) (i : ℕ) (r : Reading) (m : Mark) (b : ℕ) (ns ns' : List ℤ) (text whole : List ℕ)
    → drop i format ≡ b ∷ drop (i + 1) format → IsMark b m → ns' ≡ (if numbered r m then drop 1 ns else ns)
    → text ++ printed_from r (drop i format) ns ≡ whole
    → (text ++ written r m b (get_or ns 0 (pos 0))) ++ printed_from (reading_after r m) (drop (i + 1) format) ns' ≡ whole
prints-on format i r m b ns ns' text whole next is left h =
    append_assoc text (written r m b (get_or ns 0 (pos 0))) (printed_from (reading_after r m) (drop (i + 1) format) ns')
    ∙ ap (λ (xs : List ℕ). text ++ xs)
    (ap (λ (xs : List ℤ). written r m b (get_or ns 0 (pos 0)) ++ printed_from (reading_after r m) (drop (i + 1) format) xs) left
    ∙ sym (reads r m b (drop (i + 1) format) ns is)
    ∙ ap (λ (xs : List ℕ). printed_from r xs ns) (sym next))
    ∙ h

pub number-at : (ns : List ℤ) (used : ℕ) → pos 0 ≡ get_or ns used (pos 0) → pos 0 ≡ get_or (drop used ns) 0 (pos 0)
number-at [] used h = grind (arith, common_steps)
number-at (n ∷ ns) zero h = h
number-at (n ∷ ns) (suc used) h = number-at ns used h

-- how many numbers one more byte takes
pub counts : (r : Reading) (m : Mark) (b : ℕ) (rest : List ℕ) → IsMark b m → numbers_from r (b ∷ rest) ≡ cond (numbered r m) 1 0 + numbers_from (reading_after r m) rest
unfolding conversions conversions_after_percent conversions_after_percent_l
counts reading.Plain mark.Percent b rest h = rw h (omega arith)
counts reading.Plain mark.Decimal b rest h = rw h (omega arith)
counts reading.Plain mark.Character b rest h = rw h (omega arith)
counts reading.Plain mark.Long b rest h = rw h (omega arith)
counts reading.Plain mark.Other b rest h = rw (differ b 37 h.0) (omega arith)
counts reading.Percent mark.Percent b rest h = rw h (omega arith)
counts reading.Percent mark.Decimal b rest h = rw h (omega arith)
counts reading.Percent mark.Character b rest h = rw h (omega arith)
counts reading.Percent mark.Long b rest h = rw h (omega arith)
counts reading.Percent mark.Other b rest h = rw (differ b 37 h.0, differ b 100 h.1, differ b 99 h.2, differ b 108 h.3) (omega arith)
counts reading.Long mark.Percent b rest h = rw h (omega arith)
counts reading.Long mark.Decimal b rest h = rw h (omega arith)
counts reading.Long mark.Character b rest h = rw h (omega arith)
counts reading.Long mark.Long b rest h = rw h (omega arith)
counts reading.Long mark.Other b rest h = rw (differ b 100 h.1, differ b 37 h.0) (omega arith)

pub none-counts : (r : Reading) → numbers_from r [] ≡ 0
unfolding conversions conversions_after_percent conversions_after_percent_l
none-counts reading.Plain = refl
none-counts reading.Percent = refl
none-counts reading.Long = refl

pub count-step : (b : Bool) → cond b 1 0 ≤ 1
count-step true = omega arith
count-step false = omega arith
