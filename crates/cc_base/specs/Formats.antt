-- What `printf` prints.
use Rattle.std.specs.Fmt.{decimal}
use Rattle.std.specs.Prelude.{ℕ, suc, ◌+◌, ℤ, pos, negsuc, List, [], ◌∷◌, ◌++◌, drop, get_or, nat_eq, if◌then◌else◌, Bool, true, false, ◌&&◌, ◌||◌}
use Rattle.cc_base.specs.Numbers.{byte_of}

-- the decimal digits of a number, after a `-` where it is negative
abbrev pub signed_decimal : ℤ → List ℕ
signed_decimal (pos n) = decimal n
signed_decimal (negsuc n) = 45 ∷ decimal (suc n)

-- the format with these numbers: `%d`, `%ld` and `%c` each take one, `%%` is a `%`, and a `%` that begins none of these
-- is a byte like any other
unfoldable mutual
  pub formatted : List ℕ → List ℤ → List ℕ
  formatted [] ns = []
  formatted (b ∷ rest) ns = if nat_eq b 37 then after_percent rest ns else b ∷ formatted rest ns

  -- after a `%`
  pub after_percent : List ℕ → List ℤ → List ℕ
  after_percent [] ns = 37 ∷ []
  after_percent (b ∷ rest) ns =
      if nat_eq b 37
      then 37 ∷ formatted rest ns
      else (if nat_eq b 100
      then signed_decimal (get_or ns 0 (pos 0)) ++ formatted rest (drop 1 ns)
      else (if nat_eq b 99
      then byte_of (get_or ns 0 (pos 0)) ∷ formatted rest (drop 1 ns)
      else (if nat_eq b 108 then after_percent_l rest ns else 37 ∷ b ∷ formatted rest ns)))

  -- after `%l`
  pub after_percent_l : List ℕ → List ℤ → List ℕ
  after_percent_l [] ns = 37 ∷ 108 ∷ []
  after_percent_l (b ∷ rest) ns =
      if nat_eq b 100
      then signed_decimal (get_or ns 0 (pos 0)) ++ formatted rest (drop 1 ns)
      else 37 ∷ 108 ∷ (if nat_eq b 37 then after_percent rest ns else b ∷ formatted rest ns)

-- how many numbers a format takes
unfoldable mutual
  pub conversions : List ℕ → ℕ
  conversions [] = 0
  conversions (b ∷ rest) = if nat_eq b 37 then conversions_after_percent rest else conversions rest

  pub conversions_after_percent : List ℕ → ℕ
  conversions_after_percent [] = 0
  conversions_after_percent (b ∷ rest) =
      if nat_eq b 37
      then conversions rest
      else (if nat_eq b 100
      then conversions rest + 1
      else (if nat_eq b 99
      then conversions rest + 1
      else (if nat_eq b 108 then conversions_after_percent_l rest else conversions rest)))

  pub conversions_after_percent_l : List ℕ → ℕ
  conversions_after_percent_l [] = 0
  conversions_after_percent_l (b ∷ rest) =
      if nat_eq b 100
      then conversions rest + 1
      else (if nat_eq b 37 then conversions_after_percent rest else conversions rest)

-- each `%` of a format begins `%d`, `%ld`, `%c` or `%%`
unfoldable mutual
  pub is_format : List ℕ → Bool
  is_format [] = true
  is_format (b ∷ rest) = if nat_eq b 37 then is_format_after_percent rest else is_format rest

  pub is_format_after_percent : List ℕ → Bool
  is_format_after_percent [] = false
  is_format_after_percent (b ∷ rest) =
      if nat_eq b 37 || nat_eq b 100 || nat_eq b 99
      then is_format rest
      else nat_eq b 108 && is_format_after_percent_l rest

  pub is_format_after_percent_l : List ℕ → Bool
  is_format_after_percent_l [] = false
  is_format_after_percent_l (b ∷ rest) = nat_eq b 100 && is_format rest
