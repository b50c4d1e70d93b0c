-- What the numbers of names are for.
use Rattle.std.specs.Prelude.{◌≡◌, ◌↔◌, ℕ, true, List}
use Rattle.cc_names.specs.Names.{is_mentioned, main_bytes, number_in, numbered}

-- names that are mentioned have one number exactly where their bytes are the same
abbrev pub NumbersTellNames : Type 0
NumbersTellNames =
    (mentions : List (List ℕ)) (x y : List ℕ) → is_mentioned mentions x ≡ true → is_mentioned mentions y ≡ true
    → (number_in mentions x ≡ number_in mentions y) ↔ (x ≡ y)

-- `main` has the number 0 in each text
abbrev pub MainIsFirst : Type 0
MainIsFirst = (mentions : List (List ℕ)) → number_in (numbered mentions) main_bytes ≡ 0
