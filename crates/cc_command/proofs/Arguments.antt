-- The words among the arguments of a program.
use Rattle.std.proofs.Common.{◌≡◌, ℕ, List, [], ◌∷◌, ◌++◌, Option, Some, None, drop, length, map, refl, sym, ap, ◌∙◌, arith}
use Rattle.std.proofs.lemmas.List.{append-nil}
use Rattle.std.specs.Option.{option_to_list}

-- words that are all behind the first argument
pub behind_first :
    {S : Type 0} (f : S → List ℕ) (first : Option S) (args rest left : List S) (words : List (List ℕ))
    → args ≡ option_to_list first ++ rest
    → (first ≡ None → length rest ≡ 0)
    → words ++ map f left ≡ map f rest
    → length left ≡ 0
    → words ≡ drop 1 (map f args)
behind_first f first args rest (x ∷ left) words split none all over = absurd (omega (arith, over))
behind_first f (Some x) args rest [] words split none all over = sym (append-nil words) ∙ all ∙ ap (λ xs. drop 1 (map f xs)) (sym split)
behind_first f None args [] [] words split none all over = sym (append-nil words) ∙ all ∙ ap (λ xs. drop 1 (map f xs)) (sym split)
behind_first f None args (y ∷ rest) [] words split none all over = absurd (omega (arith, none refl))
