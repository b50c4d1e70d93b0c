-- A process that asked what `Go` answers may go on.
use Rattle.std.proofs.Common.{◌≡◌, ℕ, ℤ, List, [], ◌∷◌, ◌++◌, subst}
use Rattle.cc_base.specs.Grants.{Answers, IsNext}
use Rattle.cc_base.specs.Meaning.{Meaning}
use Rattle.cc_base.specs.declared.request.Grant.{Grant}
use Rattle.cc_base.specs.declared.request.Grant.TheVariants.{Go}
use Rattle.cc_base.specs.declared.request.Request.{Request}
use Rattle.vm_tests.specs.Again.{MayGo}

next-after : (m : Meaning) (kind : ℕ) (args : List ℤ) (grants : List Grant) (g h : Grant) → Answers m (m.act kind args (grants ++ g ∷ [])) h → IsNext m kind args (grants ++ g ∷ []) h
next-after m kind args [] g h answers = answers
next-after m kind args (x ∷ xs) g h answers = answers

-- what is known once it went on
abbrev pub Went : {C P : Type 0} → (C → Meaning) → (C → P → ℕ → List ℤ → List Grant → Type 0) → P → P → Request → Type 0
Went {C} means at before after r =
    (code : C) (kind : ℕ) (args : List ℤ) (grants : List Grant)
    → at code before kind args grants
    → IsNext (means code) kind args grants Go
    → (r ≡ (means code).act kind args (grants ++ Go ∷ [])) × at code after kind args (grants ++ Go ∷ [])

pub may-go-on :
    {C P : Type 0} (means : C → Meaning) (at : C → P → ℕ → List ℤ → List Grant → Type 0) (before after : P) (r : Request)
    → MayGo means at before
    → Went means at before after r
    → ((m : Meaning) → Answers m r Go)
    → MayGo means at after
may-go-on means at before after r may went answered =
    let code = may.0 in
    let kind = may.1 in
    let args = may.2 in
    let grants = may.3 in
    let now = went code kind args grants may.4 may.5 in (
      code,
      kind,
      args,
      grants ++ Go ∷ [],
      now.1,
      next-after (means code) kind args grants Go Go (subst (λ q. Answers (means code) q Go) now.0 (answered (means code))),
    )
