-- Of faults that are noted in another order the same one is the first.
use Rattle.std.proofs.Common.{◌≡◌, ◌⊎◌, inl, inr, Bool, true, false, if◌then◌else◌, List, [], ◌∷◌, Option, Some, None, refl, ap, sym, ◌∙◌}
use Rattle.cc_faults.proofs.Sorted.{one-way, through, tie}
use Rattle.cc_faults.specs.Faults.{before, earlier, noted}
use Rattle.cc_faults.specs.declared.fault.FaultAt.{FaultAt}

-- the earlier of two faults, by a test whether the second stands before the first
abbrev of_two : Bool → FaultAt → FaultAt → FaultAt
of_two b f g = if b then g else f

two-swap : (f g : FaultAt) (a b : Bool) → before g f ≡ a → before f g ≡ b → of_two a f g ≡ of_two b g f
two-swap f g true true e i = absurd (let none : true ≡ false = sym i ∙ one-way g f e in cc)
two-swap f g true false e i = refl
two-swap f g false true e i = refl
two-swap f g false false e i = tie f g i e

not-before : (f g h : FaultAt) → before f h ≡ true → before g h ≡ false → before g f ≡ false
not-before f g h e i = no (before g f) refl
  where
    no : (b : Bool) → before g f ≡ b → before g f ≡ false
    no true t = absurd (let both : true ≡ false = sym (through g f h t e) ∙ i in cc)
    no false t = t

three-swap : (f g h : FaultAt) (a b : Bool) → before f h ≡ a → before g h ≡ b → of_two (before g (of_two a h f)) (of_two a h f) g ≡ of_two (before f (of_two b h g)) (of_two b h g) f
three-swap f g h true true e i = two-swap f g (before g f) (before f g) refl refl
three-swap f g h true false e i =
    ap (λ (b : Bool). of_two b f g) (not-before f g h e i) ∙ sym (ap (λ (b : Bool). of_two b h f) e)
three-swap f g h false true e i =
    ap (λ (b : Bool). of_two b h g) i ∙ sym (ap (λ (b : Bool). of_two b g f) (not-before g f h i e))
three-swap f g h false false e i =
    ap (λ (b : Bool). of_two b h g) i ∙ sym (ap (λ (b : Bool). of_two b h f) e)

earlier-swap : (m : Option FaultAt) (f g : FaultAt) → earlier (Some (earlier m f)) g ≡ earlier (Some (earlier m g)) f
earlier-swap None f g = two-swap f g (before g f) (before f g) refl refl
earlier-swap (Some h) f g = three-swap f g h (before f h) (before g h) refl refl

noted-one : (m : Option FaultAt) (f : FaultAt) (xs : List FaultAt) → noted (Some (earlier m f)) xs ≡ Some (earlier (noted m xs) f)
unfolding noted
noted-one m f [] = refl
noted-one m f (x ∷ xs) =
    ap (λ (g : FaultAt). noted (Some g) xs) (earlier-swap m f x)
    ∙ noted-one (Some (earlier m x)) f xs

pub noted-swap : (m : Option FaultAt) (xs ys : List FaultAt) → noted (noted m xs) ys ≡ noted (noted m ys) xs
unfolding noted
noted-swap m [] ys = refl
noted-swap m (x ∷ xs) ys =
    noted-swap (Some (earlier m x)) xs ys ∙ ap (λ (n : Option FaultAt). noted n xs) (noted-one m x ys)

pub ruleset swaps = (noted-swap)
