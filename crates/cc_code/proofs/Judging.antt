-- What holds of the entries of a table holds of its addresses.
use Rattle.std.specs.List.{All, AllByRecursion}
use Rattle.std.specs.Prelude.{◌↔◌}
use Rattle.std.proofs.Common.{◌≡◌, ℕ, List, [], ◌∷◌, Bool, true, sym, ◌∙◌, subst}
use Rattle.std.proofs.lemmas.List.Elements.{All-from_recursion, recursion_from_All, All-map}
use Rattle.cc_code.specs.Control.{addresses}
use Rattle.cc_code.specs.declared.code.TableEntry.{TableEntry}

back : (P : ℕ → Type 0) (t : List TableEntry) → AllByRecursion P (addresses t) → AllByRecursion (λ (e : TableEntry). P e.address) t
back P [] h = h
back P (e ∷ es) h = (h.0, back P es h.1)

pub judged : (P : ℕ → Type 0) (t : List TableEntry) → All (λ (e : TableEntry). P e.address) t ↔ AllByRecursion P (addresses t)
judged P t = (
  λ h. recursion_from_All P (addresses t) (All-map P (λ (e : TableEntry). e.address) t h),
  λ h. All-from_recursion (λ (e : TableEntry). P e.address) t (back P t h),
)

pub judged-at : (P : ℕ → Type 0) (t u v : List TableEntry) (b : Bool) → t ≡ u → v ≡ u → (b ≡ true) ↔ All (λ (e : TableEntry). P e.address) t → (b ≡ true) ↔ AllByRecursion P (addresses v)
judged-at P t u v b e f h = (
  λ k. subst (λ (l : List TableEntry). AllByRecursion P (addresses l)) (e ∙ sym f) ((judged P t).0 (h.0 k)),
  λ k. h.1 ((judged P t).1 (subst (λ (l : List TableEntry). AllByRecursion P (addresses l)) (f ∙ sym e) k)),
)
