use Rattle.std.proofs.Common.{rules, ◌≡◌, ℕ, zero, suc, List, get_or, Option, Some, None, replicate, refl, sym, ◌∙◌, subst}
use Rattle.cc_code.proofs.Marked.{begun}
use Rattle.cc_code.specs.Reach.{Grown, HasLabel, ways}
use Rattle.cc_code.specs.declared.reach.Start.{Start}
use Rattle.cc_code.proofs.reach.reach.Goals as goal

no_label : (n x : ℕ) → get_or (replicate {A = Option ℕ} n None) x None ≡ None
no_label zero x = refl
no_label (suc n) zero = refl
no_label (suc n) (suc x) = no_label n x

no_labels : (n : ℕ) (m : List (Option ℕ)) → m ≡ replicate n None → (x l : ℕ) → HasLabel m x l → ⊥
no_labels n m e x l h = let f : None ≡ Some l = sym (no_label n x) ∙ subst (λ (v : List (Option ℕ)). get_or v x None ≡ Some l) e h in cc

pub follow-requires-clause-marking : goal.follow-requires-clause-marking
follow-requires-clause-marking c = begun (ways c.args.raw.now c.args.extent) c.args.starts.now c.in_ok-labels.labels.items _ _
    (no_labels _ c.in_ok-labels.labels.items (c.in_ok-labels.ensures.items_if_clones_equal (λ y h. search rules)))
    (subst (λ (w : List Start). Grown c.args.starts.now c.in_ok-labels.labels.items w c.seed.new.labels.items c.seed.new.work.items) c.new-work.ensures.items c.in_ok-seed.ensures)
