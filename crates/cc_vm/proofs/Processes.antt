-- A process of code, from grant to grant.
use Rattle.std.proofs.Common.{◌≡◌, ℕ, ℤ, zero, suc, ◌+◌, ◌<◌, ◌≤◌, inl, inr, List, [], ◌∷◌, ◌++◌, length, slice_get, Option, Some, None, refl, sym, ◌∙◌, ap, subst, arith}
use Rattle.std.specs.Prelude.{map}
use Rattle.cc_base.specs.Grants.{Answers, HasKind, IsNext}
use Rattle.cc_base.specs.Limits.{most_cells}
use Rattle.cc_base.specs.Meaning.{Meaning}
use Rattle.cc_base.specs.declared.alternatives.Alt.{Alt}
use Rattle.cc_base.specs.declared.names.FaultKind.{FaultKind}
use Rattle.cc_base.specs.declared.names.FaultKind.TheVariants.{Cells, Index}
use Rattle.cc_base.specs.declared.request.Grant.{Grant}
use Rattle.cc_base.specs.declared.request.Grant.TheVariants.{Go}
use Rattle.cc_base.specs.declared.request.Request.{Request}
use Rattle.cc_base.specs.declared.request.Request.TheVariants as request
use Rattle.cc_code.specs.Meaning.{act, meaning, process, request_of}
use Rattle.cc_code.specs.Rules.{IsVerified}
use Rattle.cc_code.specs.Standing.{IsFault}
use Rattle.cc_code.specs.Steps.{Asks, Ran}
use Rattle.cc_code.specs.declared.code.Part.{Part}
use Rattle.cc_code.specs.declared.code.RawCode.{RawCode}
use Rattle.cc_code.specs.declared.instr.Instr.{Instr}
use Rattle.cc_vm.proofs.Pausing.{lacks-cells, started-follows, started-ready, too-many}
use Rattle.cc_vm.specs.Going.{Comes, GoesOn, IsAfter, Pends}
use Rattle.cc_vm.specs.Lists.{IsReady, StartsWith, kept_state}
use Rattle.cc_vm.specs.Processes.{Begins, StandsAt, Waits}
use Rattle.cc_vm.specs.Running.{Follows, IsRoom}
use Rattle.cc_vm.specs.declared.lists.Lists.{Lists}
use Rattle.cc_vm.specs.declared.phase.Phase.{Phase}
use Rattle.cc_vm.specs.declared.phase.Phase.TheVariants as phase

-- the kind of a number, with its arguments
kind-of : (kinds : List Part) (kind n : ℕ) → slice_get (map (λ (p : Part). p.args) kinds) kind ≡ Some n → (kind < length kinds) × ((p : Part) → slice_get kinds kind ≡ Some p → n ≡ p.args)
kind-of [] kind n e = absurd (let f : None ≡ Some n = e in cc)
kind-of (q ∷ kinds) zero n e = (omega arith, λ p h. (let f : Some q.args ≡ Some n = e in let g : q ≡ p = cc in let x : q.args ≡ n = cc in sym x ∙ ap (λ (y : Part). y.args) g))
kind-of (q ∷ kinds) (suc kind) n e = (let r = kind-of kinds kind n e in (omega (arith, r.0), λ p h. r.1 p h))

pub kind-below : (k : RawCode) (kind n : ℕ) → HasKind (meaning k) kind n → kind < length k.kinds
kind-below k kind n h = (kind-of k.kinds kind n h).0

pub kind-args : (k : RawCode) (kind n : ℕ) (p : Part) → HasKind (meaning k) kind n → slice_get k.kinds kind ≡ Some p → n ≡ p.args
kind-args k kind n p h e = (kind-of k.kinds kind n h).1 p e

-- how it begins
module _ (k : RawCode) (verified : IsVerified k) (kind : ℕ) (p : Part) (there : slice_get k.kinds kind ≡ Some p) (args : List ℤ) (room : ℕ) (l : Lists) (alts : List (ℕ × Alt)) where
  pub begins-many : most_cells < p.cells → Begins k room l alts (phase.Faulty Cells) (process k (slice_get k.kinds kind) args)
  begins-many h = ap (λ (o : Option Part). process k o args (Go ∷ [])) there ∙ too-many k p args h (Go ∷ [])

  pub begins-lacking : p.cells ≤ most_cells → p.cells < p.args → Begins k room l alts (phase.Faulty Index) (process k (slice_get k.kinds kind) args)
  begins-lacking m h = ap (λ (o : Option Part). process k o args (Go ∷ [])) there ∙ lacks-cells k p args m h (Go ∷ [])

  pub begins-so : length args ≡ p.args → p.cells ≤ most_cells → p.args ≤ p.cells → StartsWith p args room l → Begins k room l [] phase.Begins (process k (slice_get k.kinds kind) args)
  begins-so long most among starts = (
    started-ready k verified kind p there args long most among room l starts,
    started-follows k verified kind p there args long most among room l starts,
  )

-- nothing answers a fault
no-answer : (m : Meaning) (q : Request) (g : Grant) → IsFault q → Answers m q g → ⊥
no-answer m (request.Fault kind) g h a = a
no-answer m q g h a = h

module _ (k : RawCode) (room : ℕ) (a : Lists) (xs : List (ℕ × Alt)) (kind : ℕ) (args : List ℤ) (g : Grant) where
  abbrev ran : List Grant → Ran
  ran grants = process k (slice_get k.kinds kind) args grants

  act-is : (grants : List Grant) (q : Request) → ran grants ≡ Asks q → act k kind args grants ≡ q
  unfolding act
  act-is grants q e = ap request_of e

  -- it begins where no grant came so far
  pub begins-ready : (grants : List Grant) → StandsAt k room a xs phase.Begins ran grants → IsReady k room a
  begins-ready [] h = h.0
  begins-ready (x ∷ grants) h = absurd h

  -- it stands where the grant answers
  pub waits-pends : (grants : List Grant) → StandsAt k room a xs phase.Waits ran grants → IsNext (meaning k) kind args grants g
      → (offers : List (ℕ × Alt)) × (i : Instr) × (q : Request) × Pends k room a xs offers i q × Answers (meaning k) q g × Follows k ran grants (kept_state a offers)
  waits-pends [] h next = absurd h
  waits-pends (x ∷ grants) h next =
      let answers : Answers (meaning k) h.0 g = subst (λ (q : Request). Answers (meaning k) q g) (act-is (x ∷ grants) h.0 h.1) next in
      elim h.2 [
        | inl f ↦ absurd (no-answer (meaning k) h.0 g f answers)
        | inr d ↦ (d.0, d.1, h.0, d.2, answers, d.3)
      ]

  -- what it asks, and where it stands
  abbrev pub Asked : Lists → List (ℕ × Alt) → List Grant → Request → Type 0
  Asked b ys grants q = (q ≡ act k kind args grants) × StandsAt k room b ys phase.Waits ran grants

  asked-so : (So : (List Grant → Ran) → List Grant → Type 0) (b : Lists) (ys : List (ℕ × Alt)) (q : Request) (x : Grant) (grants : List Grant) → Comes k room So b ys q → So ran (x ∷ grants) → Asked b ys (x ∷ grants) q
  asked-so So b ys q x grants comes so =
      let e : ran (x ∷ grants) ≡ Asks q = comes.0 ran (x ∷ grants) so in (
        sym (act-is (x ∷ grants) q e),
        (q, e, elim comes.1 [ inl f ↦ inl f | inr d ↦ inr (d.0, d.1, d.2, d.3 ran (x ∷ grants) so) ]),
      )

  pub begun-asks : (b : Lists) (ys : List (ℕ × Alt)) (q : Request) (grants : List Grant) → Comes k room (λ process fed. Follows k process fed (kept_state a xs)) b ys q
      → StandsAt k room a xs phase.Begins ran grants → IsNext (meaning k) kind args grants g → Asked b ys (grants ++ g ∷ []) q
  begun-asks b ys q [] comes h next =
      subst (λ (y : Grant). Asked b ys (y ∷ []) q) (sym next) (asked-so (λ process fed. Follows k process fed (kept_state a xs)) b ys q Go [] comes h.1)
  begun-asks b ys q (x ∷ grants) comes h next = absurd h

  pub faulty-asks : (b : Lists) (ys : List (ℕ × Alt)) (fault : FaultKind) (grants : List Grant) → StandsAt k room a xs (phase.Faulty fault) ran grants → IsNext (meaning k) kind args grants g
      → Asked b ys (grants ++ g ∷ []) (request.Fault fault)
  faulty-asks b ys fault [] h next =
      subst (λ (y : Grant). Asked b ys (y ∷ []) (request.Fault fault)) (sym next) (sym (act-is (Go ∷ []) (request.Fault fault) h), (request.Fault fault, h, inl tt))
  faulty-asks b ys fault (x ∷ grants) h next = absurd h

  pub waited-asks : (b : Lists) (ys : List (ℕ × Alt)) (q : Request) (grants : List Grant)
      → ((offers : List (ℕ × Alt)) (i : Instr) (p : Request) → Pends k room a xs offers i p → Answers (meaning k) p g → GoesOn k room a offers g b ys q)
      → StandsAt k room a xs phase.Waits ran grants → IsNext (meaning k) kind args grants g → Asked b ys (grants ++ g ∷ []) q
  waited-asks b ys q [] goes h next = absurd h
  waited-asks b ys q (x ∷ grants) goes h next =
      let d = waits-pends (x ∷ grants) h next in
      asked-so (IsAfter k a d.0 g) b ys q x (grants ++ g ∷ []) (goes d.0 d.1 d.2 d.3 d.4) (x ∷ grants, refl, d.5)
