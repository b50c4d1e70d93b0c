-- A process at its place by number.
use Rattle.std.proofs.Common.{◌≡◌, ◌≢◌, ℕ, suc, ◌+◌, ◌<◌, true, false, cond, nat_lt, List, [], ◌∷◌, refl, ap, ◌∙◌, arith, add_comm, add-one}
use Rattle.std.specs.Prelude.{All, AllPairs, insert, if◌then◌else◌}
use Rattle.std.specs.List.{prefix_len}
use Rattle.std.proofs.lemmas.Bool.Decides.{nat_tests}
use Rattle.std.proofs.lemmas.List.Elements.{All-nil, All-cons, All-head, All-tail, All-weaker}
use Rattle.std.proofs.lemmas.List.Kept.{AllPairs-cons}
use Rattle.cc_base.specs.declared.names.FaultKind.{FaultKind}
use Rattle.cc_base.specs.declared.names.Pid.{Pid}
use Rattle.cc_rules.specs.Lists.{PidsRise, with_fault}

-- an element stands in R to all after it
AllPairs-head : {X : Type 0} (R : X → X → Type 0) (x : X) (xs : List X) → AllPairs R (x ∷ xs) → All (R x) xs
AllPairs-head R x xs h = λ k d lt. h 0 (suc k) d (omega arith) (omega arith)

AllPairs-tail : {X : Type 0} (R : X → X → Type 0) (x : X) (xs : List X) → AllPairs R (x ∷ xs) → AllPairs R xs
AllPairs-tail R x xs h = λ i j d lt lj. h (suc i) (suc j) d (omega arith) (omega arith)

AllPairs-one : {X : Type 0} (R : X → X → Type 0) (x : X) → AllPairs R (x ∷ [])
AllPairs-one R x = AllPairs-cons R x [] (All-nil (R x)) (λ i j d lt lj. absurd (omega arith))

All-with_fault :
    (P : Pid × FaultKind → Type 0) (faults : List (Pid × FaultKind)) (item : Pid × FaultKind)
    → P item
    → All P faults
    → All P (with_fault faults item)
All-with_fault P [] item p all = All-cons P item [] p all
All-with_fault P (f ∷ faults) item p all =
    elim (nat_lt f.0.0 item.0.0) as (λ b. All P (if b then f ∷ with_fault faults item else item ∷ f ∷ faults)) [
      | true ↦ All-cons P f (with_fault faults item) (All-head P f faults all) (All-with_fault P faults item p (All-tail P f faults all))
      | false ↦ All-cons P item (f ∷ faults) p all
    ]

pub PidsRise-with_fault :
    (faults : List (Pid × FaultKind)) (item : Pid × FaultKind)
    → PidsRise faults
    → All (λ f. f.0.0 ≢ item.0.0) faults
    → PidsRise (with_fault faults item)
PidsRise-with_fault [] item rise absent = AllPairs-one (λ a b. a.0.0 < b.0.0) item
PidsRise-with_fault (f ∷ faults) item rise absent =
    let before : Pid × FaultKind → Pid × FaultKind → Type 0 = λ a b. a.0.0 < b.0.0 in
    let after = AllPairs-head before f faults rise in
    let here = All-head (λ g. g.0.0 ≢ item.0.0) f faults absent in
    elim (nat_lt f.0.0 item.0.0) as (λ b. nat_lt f.0.0 item.0.0 ≡ b → PidsRise (if b then f ∷ with_fault faults item else item ∷ f ∷ faults)) [
      | true ↦ λ is.
          AllPairs-cons before f (with_fault faults item)
          (All-with_fault (before f) faults item (grind (arith, nat_tests)) after)
          (PidsRise-with_fault faults item (AllPairs-tail before f faults rise) (All-tail (λ g. g.0.0 ≢ item.0.0) f faults absent))
      | false ↦ λ is.
          let below : item.0.0 < f.0.0 = grind (arith, nat_tests) in
          AllPairs-cons before item (f ∷ faults)
          (All-cons (before item) f faults below (All-weaker (before f) (before item) (λ g lt. omega arith) faults after))
          rise
    ] refl

insert-with_fault :
    (faults : List (Pid × FaultKind)) (item : Pid × FaultKind)
    → insert faults (prefix_len (λ f. nat_lt f.0.0 item.0.0) faults) item ≡ with_fault faults item
insert-with_fault [] item = refl
insert-with_fault (f ∷ faults) item =
    elim (nat_lt f.0.0 item.0.0) as (λ b. insert (f ∷ faults) (cond b (1 + prefix_len (λ g. nat_lt g.0.0 item.0.0) faults) 0) item ≡ (if b then f ∷ with_fault faults item else item ∷ f ∷ faults)) [
      | true ↦
          ap (λ i. insert (f ∷ faults) i item) (add_comm 1 (prefix_len (λ g. nat_lt g.0.0 item.0.0) faults) ∙ add-one (prefix_len (λ g. nat_lt g.0.0 item.0.0) faults))
          ∙ ap (λ rest. f ∷ rest) (insert-with_fault faults item)
      | false ↦ refl
    ]

-- what stands after the item was put behind all of smaller number
pub placed :
    (old new : List (Pid × FaultKind)) (at : ℕ) (item : Pid × FaultKind)
    → new ≡ insert old at item
    → at ≡ prefix_len (λ f. nat_lt f.0.0 item.0.0) old
    → new ≡ with_fault old item
placed old new at item e is = e ∙ ap (λ i. insert old i item) is ∙ insert-with_fault old item
