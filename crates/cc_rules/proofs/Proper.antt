-- Proper lists of grants grow by what answers the request.
use Rattle.std.proofs.Common.{◌≢◌, ℕ, ℤ, List, [], ◌∷◌, ◌++◌, refl, append_assoc}
use Rattle.std.proofs.lemmas.List.{append-nil}
use Rattle.cc_base.specs.Meaning.{Meaning}
use Rattle.cc_base.specs.declared.request.Grant.{Grant}
use Rattle.cc_base.specs.Grants.{Answers, IsNext, IsProper, IsProperAfter}

pub push-not-nil : (gs : List Grant) (g : Grant) → gs ++ g ∷ [] ≢ []
push-not-nil [] g e = cc
push-not-nil (x ∷ gs) g e = cc

module _ (m : Meaning) (kind : ℕ) (args : List ℤ) where
  pub IsProperAfter-push :
      (before gs : List Grant) (g : Grant)
      → IsProperAfter m kind args before gs
      → IsNext m kind args (before ++ gs) g
      → IsProperAfter m kind args before (gs ++ g ∷ [])
  IsProperAfter-push before [] g h k = (rw append-nil at k, tt)
  IsProperAfter-push before (x ∷ gs) g h k =
      (h.0, IsProperAfter-push (before ++ x ∷ []) gs g h.1 (rw (append_assoc before (x ∷ []) gs) k))

  next-answers : (gs : List Grant) (g : Grant) → gs ≢ [] → Answers m (m.act kind args gs) g → IsNext m kind args gs g
  next-answers [] g ne a = absurd (ne refl)
  next-answers (x ∷ gs) g ne a = a

  pub IsProper-push :
      (gs : List Grant) (g : Grant)
      → IsProper m kind args gs
      → Answers m (m.act kind args gs) g
      → IsProper m kind args (gs ++ g ∷ [])
  IsProper-push gs g h a = (push-not-nil gs g, IsProperAfter-push [] gs g h.1 (next-answers gs g h.0 a))

  last-next :
      (before gs : List Grant) (g : Grant)
      → IsProperAfter m kind args before (gs ++ g ∷ [])
      → IsNext m kind args (before ++ gs) g
  last-next before [] g h = rw append-nil h.0
  last-next before (x ∷ gs) g h = rw (append_assoc before (x ∷ []) gs) at (last-next (before ++ x ∷ []) gs g h.1)

  -- the last grant was next after those before it
  pub IsNext-last : (gs : List Grant) (g : Grant) → IsProper m kind args (gs ++ g ∷ []) → IsNext m kind args gs g
  IsNext-last gs g h = last-next [] gs g h.1
