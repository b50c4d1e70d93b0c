use Rattle.std.proofs.Common.{◌≡◌, ℕ, Option, Some, None, refl, sym, ◌∙◌}
use Rattle.cc_code.proofs.facts.is_marked.Goals as goal

no_label : (o : Option ℕ) (l : ℕ) → None ≡ o → o ≡ Some l → ⊥
no_label o l e f = let g : None ≡ Some l = e ∙ f in cc

pub returns-in-Some : goal.returns-in-Some
returns-in-Some c = (λ t. (c.in-Some.field-0, sym c.label_of.ensures ∙ c.in-Some.is), λ h. refl)

pub returns-in-None : goal.returns-in-None
returns-in-None c = (λ t. absurd (cc), λ h. absurd (no_label _ h.0 (sym c.in-None.is ∙ c.label_of.ensures) h.1))
