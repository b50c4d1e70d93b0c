-- What labels say of parts and fragments.
use Rattle.std.proofs.Common.{◌≡◌, ℕ, zero, suc, ◌+◌, ◌<◌, inl, inr, List, [], ◌∷◌, ◌++◌, length, get_or, map, slice_get, Option, Some, None, Bool, Contains, refl, sym, ◌∙◌, ap, subst, arith}
use Rattle.std.specs.Prelude.{◌↔◌}
use native.Mathlib.Decide.{ℕ_discrete}
use Rattle.std.proofs.lemmas.List.Elements.{Contains-append_left, Contains-append_right, Contains-append_cases}
use Rattle.cc_code.proofs.Lists.{from-map, in-map, member, place-of}
use Rattle.cc_code.proofs.Marked.{complete, itself, label_within, nothing, only}
use Rattle.cc_code.proofs.Meets.{AreMeetings, IsMeeting, ReachedBy, labelled-or-met, met-sound}
use Rattle.cc_code.proofs.Paths.{code-places, places-code, within}
use Rattle.std.proofs.lemmas.List.{map-append}
use Rattle.cc_code.proofs.Noting.{Noted-after}
use Rattle.cc_code.specs.Checked.{AllGive, AreMarks, GivesOnly, IsSet, Noted, Seeded, address_starts, part_starts, steps, steps_of}
use Rattle.cc_code.specs.Control.{Reaches, start, onward, GoesTo, InPart, entries}
use Rattle.cc_code.specs.Reach.{From, HasLabel, IsMarked, Leads, Marking, begin, labelled, place_of, places_of, ways}
use Rattle.cc_code.specs.declared.code.Part.{Part}
use Rattle.cc_code.specs.declared.code.RawCode.{RawCode}
use Rattle.cc_code.specs.declared.reach.Extent.TheVariants.{All}
use Rattle.cc_code.specs.declared.reach.Start.{Start}

-- what one of a list reaches the list does, and what a list reaches one of it does
pub from-one : (L : ℕ → ℕ → Type 0) (list : List ℕ) (a x : ℕ) → Contains list a → Reaches L (a ∷ []) x → Reaches L list x
from-one L list a x c (Reaches.start d) = start (subst (λ (z : ℕ). Contains list z) (only a x d) c)
from-one L list a y c (Reaches.onward {x = z} r d) = onward (from-one L list a z c r) d

pub one-of : (L : ℕ → ℕ → Type 0) (list : List ℕ) (x : ℕ) → Reaches L list x → (a : ℕ) × Contains list a × Reaches L (a ∷ []) x
one-of L list x (Reaches.start d) = (x, d, start (itself x))
one-of L list y (Reaches.onward {x = z} r d) =
    let h : (a : ℕ) × Contains list a × Reaches L (a ∷ []) z = one-of L list z r in
    (h.0, h.1, onward h.2 d)

-- the starts stand at these addresses
abbrev pub StandAt : RawCode → List ℕ → List Start → Type 0
StandAt k list starts = map (λ (s : Start). s.place) starts ≡ places_of k list

pub parts-stand : (k : RawCode) (parts : List Part) → StandAt k (entries parts) (part_starts k parts)
parts-stand k [] = refl
parts-stand k (p ∷ ps) = ap (λ (l : List ℕ). place_of k p.entry ∷ l) (parts-stand k ps)

pub addresses-stand : (k : RawCode) (list : List ℕ) → StandAt k list (address_starts k list)
addresses-stand k [] = refl
addresses-stand k (a ∷ list) = ap (λ (l : List ℕ). place_of k a ∷ l) (addresses-stand k list)

module _ (k : RawCode) (starts : List Start) (m : List (Option ℕ)) (long : length m ≡ length k.tables + length k.instrs) (marking : Marking (ways k All) starts m []) where
  led-within : (x y : ℕ) → Leads (ways k All) x y → y < length m → x < length m
  led-within x y d b = let h : x < length k.tables + length k.instrs = within k All x y d in omega (arith, long)

  place-within : (at : ℕ) → at < length k.instrs → place_of k at < length m
  place-within at b = omega (arith, long)

  -- what is labelled is what the starts' addresses reach
  pub marks : (list : List ℕ) → StandAt k list starts → AreMarks k (λ (at : ℕ). Reaches (GoesTo k) list at) m
  marks list stand at b = (
    λ h. (let s : (s : Start) × Contains starts s × (s.label ≡ h.0) × From (ways k All) s.place (place_of k at) = marking.sound (place_of k at) h.0 h.1 in
        let c : Contains (places_of k list) s.0.place = subst (λ (l : List ℕ). Contains l s.0.place) stand (in-map (λ (s : Start). s.place) starts s.0 s.1) in
        let a : (a : ℕ) × Contains list a × (s.0.place ≡ place_of k a) = from-map (place_of k) list s.0.place c in
        from-one (GoesTo k) list a.0 at a.1 (places-code k a.0 at (subst (λ (p : ℕ). From (ways k All) p (place_of k at)) a.2 s.3))),
    λ r. (let a : (a : ℕ) × Contains list a × Reaches (GoesTo k) (a ∷ []) at = one-of (GoesTo k) list at r in
        let c : Contains (map (λ (s : Start). s.place) starts) (place_of k a.0) = subst (λ (l : List ℕ). Contains l (place_of k a.0)) (sym stand) (in-map (place_of k) list a.0 a.1) in
        let s : (s : Start) × Contains starts s × (place_of k a.0 ≡ s.place) = from-map (λ (s : Start). s.place) starts (place_of k a.0) c in
        complete (ways k All) starts m marking led-within s.0 s.1 (place_of k at) (subst (λ (p : ℕ). From (ways k All) p (place_of k at)) s.2 (code-places k a.0 at a.2)) (place-within at b)),
  )

  -- the places that are led to with another label are among the seeds
  step-in : (n x l : ℕ) (s : Start) → x < n → HasLabel m x l → Contains (labelled l (ways k All x)) s → Contains (steps k m n) s
  step-in zero x l s b h c = absurd (omega arith)
  step-in (suc n) x l s b h c = elim (ℕ_discrete x n) [
    | yes e ↦ Contains-append_right (steps k m n) (steps_of k n (get_or m n None)) s
        (subst (λ (z : ℕ). Contains (steps_of k z (get_or m z None)) s) e (subst (λ (o : Option ℕ). Contains (steps_of k x o) s) (sym h) c))
    | no ne ↦ Contains-append_left (steps k m n) (steps_of k n (get_or m n None)) s (step-in n x l s (omega arith) h c)
  ]

  step-out : (n : ℕ) (s : Start) → Contains (steps k m n) s → (x : ℕ) × (l : ℕ) × HasLabel m x l × Contains (labelled l (ways k All x)) s
  step-out zero s c = absurd (nothing s c)
  step-out (suc n) s c = elim (Contains-append_cases (steps k m n) (steps_of k n (get_or m n None)) s c) [
    | inl h ↦ step-out n s h
    | inr h ↦ go (get_or m n None) refl h
  ]
    where
      go : (o : Option ℕ) → get_or m n None ≡ o → Contains (steps_of k n o) s → (x : ℕ) × (l : ℕ) × HasLabel m x l × Contains (labelled l (ways k All x)) s
      go None e h = absurd (nothing s h)
      go (Some l) e h = (n, l, e, h)

  by-label : (l : ℕ) (list : List ℕ) (s : Start) → Contains (labelled l list) s → Contains list s.place × (s.label ≡ l)
  by-label l list s c =
      let h : (x : ℕ) × Contains list x × (s ≡ begin x l) = from-map (λ (x : ℕ). begin x l) list s c in
      (subst (λ (z : ℕ). Contains list z) (sym (ap (λ (s : Start). s.place) h.2)) h.1, ap (λ (s : Start). s.label) h.2)

  reached-by-seed : (n : ℕ) (s : Start) → Contains (starts ++ steps k m n) s → ReachedBy (ways k All) starts s.label s.place
  reached-by-seed n s c = elim (Contains-append_cases starts (steps k m n) s c) [
    | inl h ↦ (s, h, refl, start (itself s.place))
    | inr h ↦ (let f : (x : ℕ) × (l : ℕ) × HasLabel m x l × Contains (labelled l (ways k All x)) s = step-out n s h in
        let g : Contains (ways k All f.0) s.place × (s.label ≡ f.1) = by-label f.1 (ways k All f.0) s f.3 in
        let r : (t : Start) × Contains starts t × (t.label ≡ f.1) × From (ways k All) t.place f.0 = marking.sound f.0 f.1 f.2 in
        (r.0, r.1, r.2 ∙ sym g.1, onward r.3 g.0))
  ]

  pub seeds-meet : (seeds : List Start) → Seeded m (starts ++ steps k m (length m)) [] seeds → AreMeetings (ways k All) starts m seeds
  seeds-meet seeds g = record {
    sound = λ s c. elim (g.fresh s c) [
      | inl h ↦ absurd (nothing s h)
      | inr h ↦ (h.1, s.label, h.3, marking.sound s.place h.1 h.2, reached-by-seed (length m) s h.0)
    ];
    at_starts = λ s c b. (let h : IsMarked m s.place = marking.begun s c b in
        elim (g.all s h.0 (Contains-append_left starts (steps k m (length m)) s c) h.1) [
          | inl e ↦ inl (subst (λ (l : ℕ). HasLabel m s.place l) e h.1)
          | inr d ↦ inr (s, d, refl)
        ]);
    at_steps = λ x y l h d b. (let within-x : x < length m = label_within m x l h in
        elim (marking.closed x l h) [
          | inl w ↦ absurd (nothing (begin x l) w)
          | inr done ↦ (let t : IsMarked m y = done y d b in
              let c : Contains (labelled l (ways k All x)) (begin y l) = in-map (λ (z : ℕ). begin z l) (ways k All x) y d in
              elim (g.all (begin y l) t.0 (Contains-append_right starts (steps k m (length m)) (begin y l) (step-in (length m) x l (begin y l) within-x h c)) t.1) [
                | inl e ↦ inl (subst (λ (v : ℕ). HasLabel m y v) e t.1)
                | inr q ↦ inr (begin y l, q, refl)
              ])
        ]);
  }

  module _ (seeds : List Start) (m2 : List (Option ℕ)) (long2 : length m2 ≡ length m) (are : AreMeetings (ways k All) starts m seeds) (k2 : Marking (ways k All) seeds m2 []) (is : starts ≡ part_starts k k.functions) where
    part-of : (s : Start) → Contains starts s → (f : ℕ) × (p : Part) × (slice_get k.functions f ≡ Some p) × (s ≡ begin (place_of k p.entry) p.value)
    part-of s c =
        let h : (p : Part) × Contains k.functions p × (s ≡ begin (place_of k p.entry) p.value) = from-map (λ (p : Part). begin (place_of k p.entry) p.value) k.functions s (subst (λ (l : List Start). Contains l s) is c) in
        let f : (f : ℕ) × (slice_get k.functions f ≡ Some h.0) = place-of k.functions h.0 h.1 in
        (f.0, h.0, f.1, h.2)

    start-of : (f : ℕ) (p : Part) → slice_get k.functions f ≡ Some p → Contains starts (begin (place_of k p.entry) p.value)
    start-of f p e = subst (λ (l : List Start). Contains l (begin (place_of k p.entry) p.value)) (sym is) (in-map (λ (p : Part). begin (place_of k p.entry) p.value) k.functions p (member k.functions f p e))

    -- a start that reaches an address is a function that does, and gives its label there
    gives-label : (at n l : ℕ) → AllGive k at n → ReachedBy (ways k All) starts l (place_of k at) → l ≡ n
    gives-label at n l all r =
        let p : (f : ℕ) × (p : Part) × (slice_get k.functions f ≡ Some p) × (r.0 ≡ begin (place_of k p.entry) p.value) = part-of r.0 r.1 in
        let in-part : InPart k p.1.entry at = places-code k p.1.entry at (subst (λ (s : Start). From (ways k All) s.place (place_of k at)) p.3 r.3) in
        sym r.2 ∙ ap (λ (s : Start). s.label) p.3 ∙ all p.0 p.1 p.2 in-part

    pub met : (at n : ℕ) → at < length k.instrs → IsMarked m2 (place_of k at) → AllGive k at n → ⊥
    met at n b h all =
        let t : IsMeeting (ways k All) starts (place_of k at) = met-sound (ways k All) starts m m2 seeds long2 are k2 led-within (place_of k at) h in
        t.2 (gives-label at n t.0 all t.3 ∙ sym (gives-label at n t.1 all t.4))

    label-given : (at n : ℕ) (o : Option ℕ) → get_or m (place_of k at) None ≡ o → AllGive k at n → GivesOnly o n
    label-given at n None e all = tt
    label-given at n (Some l) e all = gives-label at n l all (marking.sound (place_of k at) l e)

    pub unmet : (at n : ℕ) → at < length k.instrs → (IsMarked m2 (place_of k at) → ⊥) → AllGive k at n ↔ GivesOnly (get_or m (place_of k at) None) n
    unmet at n b not = (
      λ all. label-given at n (get_or m (place_of k at) None) refl all,
      λ given f p e r. elim (labelled-or-met (ways k All) starts m m2 seeds long2 are k2 led-within (begin (place_of k p.entry) p.value) (start-of f p e) (place_of k at) (code-places k p.entry at r) (place-within at b)) [
        | inl h ↦ subst (λ (o : Option ℕ). GivesOnly o n) h given
        | inr h ↦ absurd (not h)
      ],
    )

-- the bits that were set at the places of starts
pub entries-noted : (k : RawCode) (l1 l2 l3 : List ℕ) (s1 s2 s3 : List Start) (b0 b1 b2 b3 : List Bool) → StandAt k l1 s1 → StandAt k l2 s2 → StandAt k l3 s3
    → ((x : ℕ) → IsSet b0 x → ⊥) → length b0 ≡ length k.tables + length k.instrs
    → Noted (map (λ (s : Start). s.place) s1) b0 b1 → Noted (map (λ (s : Start). s.place) s2) b1 b2 → Noted (map (λ (s : Start). s.place) s3) b2 b3
    → (at : ℕ) → at < length k.instrs → IsSet b3 (place_of k at) ↔ Contains (l1 ++ l2 ++ l3) at
entries-noted k l1 l2 l3 s1 s2 s3 b0 b1 b2 b3 e1 e2 e3 none long n1 n2 n3 at b =
    let all : List ℕ = l1 ++ l2 ++ l3 in
    let m1 : Noted (places_of k l1) b0 b1 = subst (λ (l : List ℕ). Noted l b0 b1) e1 n1 in
    let m2 : Noted (places_of k l2) b1 b2 = subst (λ (l : List ℕ). Noted l b1 b2) e2 n2 in
    let m3 : Noted (places_of k l3) b2 b3 = subst (λ (l : List ℕ). Noted l b2 b3) e3 n3 in
    let joined : (places_of k l1 ++ places_of k l2) ++ places_of k l3 ≡ places_of k all =
    ap (λ (l : List ℕ). l ++ places_of k l3) (sym (map-append (place_of k) l1 l2)) ∙ sym (map-append (place_of k) (l1 ++ l2) l3) in
    let n : Noted (places_of k all) b0 b3 = subst (λ (l : List ℕ). Noted l b0 b3) joined (Noted-after (places_of k l1 ++ places_of k l2) (places_of k l3) b0 b2 b3 (Noted-after (places_of k l1) (places_of k l2) b0 b1 b2 m1 m2) m3) in
    let within-bits : place_of k at < length b0 = omega (arith, long) in (
      λ h. elim ((n.exact (place_of k at) within-bits).0 h) [
        | inl g ↦ absurd (none (place_of k at) g)
        | inr c ↦ (let a : (a : ℕ) × Contains all a × (place_of k at ≡ place_of k a) = from-map (place_of k) all (place_of k at) c in
            let same : a.0 ≡ at = omega (arith, a.2) in
            subst (λ (z : ℕ). Contains all z) same a.1)
      ],
      λ c. (n.exact (place_of k at) within-bits).1 (inr (in-map (place_of k) all at c)),
    )
