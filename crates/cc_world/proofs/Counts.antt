-- A shelf's call that failed raises its own count.
use Rattle.std.proofs.Common.{◌≡◌, ℕ, ◌<◌, Bool, true, cond, List, [], ◌∷◌, ◌++◌, refl, sym, ◌∙◌, ap, subst, arith}
use Rattle.std.specs.Prelude.{count_by, Result, IsErrOf}
use Rattle.std.proofs.lemmas.Slice.Eq.{bytes_eq-Decides}
use Rattle.std.proofs.lemmas.List.Sums.{sum_by-append}
use Rattle.cc_world.specs.Shelf.{Missed, FailedMore, is_of, missed_after}
use Rattle.cc_world.specs.declared.fault.IoFault.{IoFault}
use Rattle.cc_world.specs.declared.fault.IoFault.TheVariants.{Failed}
use Rattle.cc_world.specs.declared.fault.ShelfCall.{ShelfCall}
use Rattle.cc_world.specs.declared.fault.ShelfCall.TheVariants.{Read, Write}

own_name : (call : ShelfCall) (name : List ℕ) → is_of call name (name, call) ≡ true
own_name Read name = (bytes_eq-Decides name name).1 refl
own_name Write name = (bytes_eq-Decides name name).1 refl

one_more : (p : Missed → Bool) (xs : List Missed) (x : Missed) → p x ≡ true → count_by p xs < count_by p (xs ++ x ∷ [])
one_more p xs x e = omega (arith, sum_by-append (λ y. cond (p y) 1 0) xs (x ∷ []), ap {B = ℕ} (λ (b : Bool). cond b 1 0) e)

-- the failed calls with this one at their end have more of it
pub failed_here : (call : ShelfCall) (name : List ℕ) (before now : List Missed) → now ≡ before ++ (name, call) ∷ [] → FailedMore call name before now
failed_here call name before now e = subst (λ (l : List Missed). FailedMore call name before l) (sym e) (one_more (is_of call name) before (name, call) (own_name call name))

-- a call that answered Failed
pub failed_if : {T : Type 0} (call : ShelfCall) (name : List ℕ) (before now : List Missed) (result : Result T IoFault) → now ≡ missed_after result before name call → IsErrOf result Failed → FailedMore call name before now
failed_if call name before now result e is = failed_here call name before now (e ∙ ap (λ r. missed_after r before name call) is)
