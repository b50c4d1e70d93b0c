-- Code as a program, whose meaning is that of its code.
use Rattle.std.proofs.Common.{◌≡◌, ℕ, ℤ, List, [], ◌∷◌, ◌++◌, slice_get, sym, ◌∙◌, ap, subst}
use Rattle.cc_base.specs.Grants.{IsNext}
use Rattle.cc_base.specs.Meaning.{Meaning}
use Rattle.cc_base.specs.declared.alternatives.Alt.{Alt}
use Rattle.cc_base.specs.declared.request.Grant.{Grant}
use Rattle.cc_base.specs.declared.request.Request.{Request}
use Rattle.cc_code.specs.Meaning.{act, meaning, process}
use Rattle.cc_code.specs.Rules.{IsVerified}
use Rattle.cc_code.specs.declared.code.RawCode.{RawCode}
use Rattle.cc_vm.specs.Images.{image_meaning}
use Rattle.cc_vm.specs.Lawful.{image-means}
use Rattle.cc_vm.specs.Processes.{Begins, IsAt, StandsAt}
use Rattle.cc_vm.specs.Running.{IsRoom}
use Rattle.cc_vm.specs.declared.lists.Lists.{Lists}
use Rattle.cc_vm.specs.declared.phase.Phase.{Phase}
use Rattle.cc_vm.specs.declared.phase.Phase.TheVariants as phase

module _ (k code : RawCode) (same : k ≡ code) (room : ℕ) where
  -- it was granted nothing
  pub code-begins : (l : Lists) (p : Phase) (kind : ℕ) (args : List ℤ) → IsRoom k room → Begins k room l [] p (process k (slice_get k.kinds kind) args)
      → IsAt code room l [] p kind args []
  code-begins l p kind args r b = subst (λ (c : RawCode). IsAt c room l [] p kind args []) same (r, b)

  module _ (a : Lists) (xs : List (ℕ × Alt)) (p : Phase) (g : Grant) (kind : ℕ) (args : List ℤ) (grants : List Grant) where
    pub code-at : IsAt code room a xs p kind args grants → IsAt k room a xs p kind args grants
    code-at h = subst (λ (c : RawCode). IsAt c room a xs p kind args grants) (sym same) h

    pub code-next : IsVerified k → IsNext (image_meaning code) kind args grants g → IsNext (meaning k) kind args grants g
    code-next verified h =
        subst (λ (m : Meaning). IsNext m kind args grants g) (image-means k verified) (subst (λ (c : RawCode). IsNext (image_meaning c) kind args grants g) (sym same) h)

    -- one more grant
    pub code-goes : IsVerified k → (b : Lists) (ys : List (ℕ × Alt)) (q : Request)
        → (q ≡ act k kind args (grants ++ g ∷ [])) × StandsAt k room b ys phase.Waits (process k (slice_get k.kinds kind) args) (grants ++ g ∷ [])
        → IsRoom k room
        → (q ≡ (image_meaning code).act kind args (grants ++ g ∷ [])) × IsAt code room b ys phase.Waits kind args (grants ++ g ∷ [])
    code-goes verified b ys q h r =
        subst (λ (c : RawCode). (q ≡ (image_meaning c).act kind args (grants ++ g ∷ [])) × IsAt c room b ys phase.Waits kind args (grants ++ g ∷ [])) same
        (h.0 ∙ sym (ap (λ (m : Meaning). m.act kind args (grants ++ g ∷ [])) (image-means k verified)), (r, h.1))
