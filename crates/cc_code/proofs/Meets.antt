-- Where starts with different labels come together.
use Rattle.std.proofs.Common.{◌≡◌, ℕ, ◌<◌, ◌≢◌, ◌⊎◌, inl, inr, List, [], length, Option, sym, ◌∙◌, subst, Contains}
use Rattle.cc_code.proofs.Marked.{nothing, only}
use Rattle.cc_code.specs.Control.{Reaches, onward}
use Rattle.cc_code.specs.Reach.{From, HasLabel, IsMarked, Leads, Marking}
use Rattle.cc_code.specs.declared.reach.Start.{Start}

abbrev pub Later : (ℕ → List ℕ) → ℕ → ℕ → ℕ → Type 0
Later ways x y z = From ways x y → Leads ways y z → From ways x z

-- a path goes on behind another
pub From-after : (ways : ℕ → List ℕ) (x y z : ℕ) → From ways x y → From ways y z → From ways x z
From-after ways x y z r (Reaches.start c) = subst (λ (n : ℕ). From ways x n) (only y z c) r
From-after ways x y z r (Reaches.onward {x = v} s d) = onward (From-after ways x y v r s) d

module _ (ways : ℕ → List ℕ) (starts : List Start) where
  -- a start of this label reaches the place
  abbrev pub ReachedBy : ℕ → ℕ → Type 0
  ReachedBy l x = (s : Start) × Contains starts s × (s.label ≡ l) × From ways s.place x

  -- starts of two labels reach the place
  abbrev pub IsMeeting : ℕ → Type 0
  IsMeeting x = (l : ℕ) × (r : ℕ) × (l ≢ r) × ReachedBy l x × ReachedBy r x

  by-later : (l x y : ℕ) → ReachedBy l x → From ways x y → ReachedBy l y
  by-later l x y b r = (b.0, b.1, b.2, From-after ways b.0.place x y b.3 r)

  meeting-later : (x y : ℕ) → IsMeeting x → From ways x y → IsMeeting y
  meeting-later x y t r = (t.0, t.1, t.2, by-later t.0 x y t.3 r, by-later t.1 x y t.4 r)

  -- the places from which meetings are followed
  pub record AreMeetings (m : List (Option ℕ)) (seeds : List Start) : Type 0 where
    pub sound : (s : Start) → Contains seeds s → IsMeeting s.place
    pub at_starts : (s : Start) → Contains starts s → s.place < length m → HasLabel m s.place s.label ⊎ ((t : Start) × Contains seeds t × (t.place ≡ s.place))
    pub at_steps : (x y l : ℕ) → HasLabel m x l → Leads ways x y → y < length m → HasLabel m y l ⊎ ((t : Start) × Contains seeds t × (t.place ≡ y))

  module _ (m m2 : List (Option ℕ)) (seeds : List Start) (long : length m2 ≡ length m) (are : AreMeetings m seeds) (k2 : Marking ways seeds m2 [])
      (within : (x y : ℕ) → Leads ways x y → y < length m → x < length m) where
    seed-marked : (x : ℕ) → x < length m → ((t : Start) × Contains seeds t × (t.place ≡ x)) → IsMarked m2 x
    seed-marked x b t = subst (λ (n : ℕ). IsMarked m2 n) t.2 (k2.begun t.0 t.1 (subst (λ (n : ℕ). n < length m2) (sym t.2) (subst (λ (n : ℕ). x < n) (sym long) b)))

    step-marked : (x y : ℕ) → Leads ways x y → y < length m → IsMarked m2 x → IsMarked m2 y
    step-marked x y d b h = elim (k2.closed x h.0 h.1) [ inl w ↦ absurd (nothing (record { place = x; label = h.0 }) w) | inr done ↦ done y d (subst (λ (n : ℕ). y < n) (sym long) b) ]

    -- what a start reaches has its label, or is one where two meet
    pub labelled-or-met : (s : Start) → Contains starts s → (x : ℕ) → From ways s.place x → x < length m → HasLabel m x s.label ⊎ IsMarked m2 x
    labelled-or-met s c x (Reaches.start e) b =
        let f : s.place ≡ x = only s.place x e in
        elim (are.at_starts s c (subst (λ (n : ℕ). n < length m) (sym f) b)) [
          | inl h ↦ inl (subst (λ (n : ℕ). HasLabel m n s.label) f h)
          | inr t ↦ inr (seed-marked x b (t.0, t.1, t.2 ∙ f))
        ]
    labelled-or-met s c y (Reaches.onward {x} r d) b = elim (labelled-or-met s c x r (within x y d b)) [
      | inl h ↦ elim (are.at_steps x y s.label h d b) [ inl g ↦ inl g | inr t ↦ inr (seed-marked y b t) ]
      | inr h ↦ inr (step-marked x y d b h)
    ]

    pub met-sound : (x : ℕ) → IsMarked m2 x → IsMeeting x
    met-sound x h =
        let s : (t : Start) × Contains seeds t × (t.label ≡ h.0) × From ways t.place x = k2.sound x h.0 h.1 in
        meeting-later s.0.place x (are.sound s.0 s.1) s.3
