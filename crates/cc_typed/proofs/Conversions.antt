-- The reading of a format, a byte at a time.
use Rattle.std.proofs.Common.{◌≡◌, ℕ, ◌+◌, Bool, true, false, ◌&&◌, ◌||◌, ◌∷◌, List, [], refl, ap, arith}
use Rattle.std.specs.Prelude.{if◌then◌else◌, nat_eq}
use Rattle.cc_base.specs.Formats.{conversions, conversions_after_percent, conversions_after_percent_l, is_format, is_format_after_percent, is_format_after_percent_l}

pub format-plain : (b : ℕ) (rest : List ℕ) → is_format (b ∷ rest) ≡ (if nat_eq b 37 then is_format_after_percent rest else is_format rest)
unfolding is_format
format-plain b rest = refl

pub format-signed : (b : ℕ) (rest : List ℕ) → is_format_after_percent (b ∷ rest) ≡ (if nat_eq b 37 || nat_eq b 100 || nat_eq b 99 then is_format rest else nat_eq b 108 && is_format_after_percent_l rest)
unfolding is_format
format-signed b rest = refl

pub format-long : (b : ℕ) (rest : List ℕ) → is_format_after_percent_l (b ∷ rest) ≡ (nat_eq b 100 && is_format rest)
unfolding is_format
format-long b rest = refl

pub count-plain : (b : ℕ) (rest : List ℕ) → conversions (b ∷ rest) ≡ (if nat_eq b 37 then conversions_after_percent rest else conversions rest)
unfolding conversions
count-plain b rest = refl

pub count-signed : (b : ℕ) (rest : List ℕ) → conversions_after_percent (b ∷ rest) ≡ (if nat_eq b 37 then conversions rest else (if nat_eq b 100 then conversions rest + 1 else (if nat_eq b 99 then conversions rest + 1 else (if nat_eq b 108 then conversions_after_percent_l rest else conversions rest))))
unfolding conversions
count-signed b rest = refl

pub count-long : (b : ℕ) (rest : List ℕ) → conversions_after_percent_l (b ∷ rest) ≡ (if nat_eq b 100 then conversions rest + 1 else (if nat_eq b 37 then conversions_after_percent rest else conversions rest))
unfolding conversions
count-long b rest = refl

pub one-more : (n c : ℕ) → n + 1 + c ≡ n + (c + 1)
one-more n c = omega arith

pub ruleset readings = (format-plain, format-signed, format-long, count-plain, count-signed, count-long, one-more)

pub format-end : is_format [] ≡ true
unfolding is_format
format-end = refl

pub format-end-signed : is_format_after_percent [] ≡ false
unfolding is_format
format-end-signed = refl

pub format-end-long : is_format_after_percent_l [] ≡ false
unfolding is_format
format-end-long = refl

pub count-end : conversions [] ≡ 0
unfolding conversions
count-end = refl

pub ruleset ends = (format-end, format-end-signed, format-end-long, count-end)
