-- How places are visited, and that all that is reached has a label in the end.
use Rattle.std.proofs.Common.{◌≡◌, ℕ, ◌<◌, ◌⊎◌, inl, inr, List, [], ◌∷◌, ◌++◌, length, get_or, set, slice_get, Option, Some, None, refl, sym, ◌∙◌, ap, subst, arith, Contains, unwrap_or}
use Rattle.std.proofs.lemmas.List.{get_or-set_same, get_or-set_other}
use Rattle.std.proofs.lemmas.List.Elements.{Contains-append_left, Contains-append_right, Contains-push, Contains-push_cases, Contains-append_cases}
use native.Mathlib.Decide.{ℕ_discrete}
use Rattle.std.proofs.lemmas.Option.{slice_get_cases, unwrap_or-slice_get}
use Rattle.std.proofs.Math.ListN.{length-set}
use Rattle.cc_code.specs.Control.{Reaches, start, onward}
use Rattle.cc_code.specs.Reach.{From, Grown, HasLabel, IsMarked, Leads, Marking, begin, labelled}
use Rattle.cc_code.specs.declared.reach.Start.{Start}

pub nothing : {X : Type 0} (z : X) → Contains {X = X} [] z → ⊥
nothing z c = absurd (omega (arith, c.1))

pub only : {X : Type 0} (y z : X) → Contains (y ∷ []) z → y ≡ z
only y z c = elim (Contains-push_cases [] y z c) [ inl k ↦ absurd (nothing z k) | inr e ↦ e ]

pub itself : {X : Type 0} (y : X) → Contains (y ∷ []) y
itself y = Contains-push [] y

no_label : {l : ℕ} → None ≡ Some l → ⊥
no_label e = cc

-- a label is only on a place
pub label_within : (m : List (Option ℕ)) (x l : ℕ) → HasLabel m x l → x < length m
label_within m x l h = elim ((slice_get_cases m x).1) [
  | inl k ↦ k.1
  | inr k ↦ absurd (
      let e : unwrap_or (slice_get m x) None ≡ get_or m x None = unwrap_or-slice_get m x None in
      let f : unwrap_or (slice_get m x) None ≡ None = ap (λ (o : Option (Option ℕ)). unwrap_or o None) k.1 in
      no_label (sym f ∙ e ∙ h))
]

-- a place has a label or none
pub marked-or : (m : List (Option ℕ)) (x : ℕ) → (get_or m x None ≡ None) ⊎ IsMarked m x
marked-or m x = go (get_or m x None) refl
  where
    go : (o : Option ℕ) → get_or m x None ≡ o → (get_or m x None ≡ None) ⊎ IsMarked m x
    go None e = inl e
    go (Some l) e = inr (l, e)

-- nothing changes where the place is no place, or has a label
pub visited-old : (m : List (Option ℕ)) (w : List Start) (s : Start) → (s.place < length m → IsMarked m s.place) → Grown (s ∷ []) m w m w
visited-old m w s h = record {
  long = refl;
  keeps = λ x l k. k;
  work = λ z k. k;
  fresh = λ x l k. inl k;
  queued = λ z k. inl k;
  all = λ z k b. let e : s ≡ z = only s z k in subst (λ (t : Start). IsMarked m t.place) e (h (subst (λ (t : Start). t.place < length m) (sym e) b));
}

label-set : (m : List (Option ℕ)) (y k x l : ℕ) → get_or m y None ≡ None → HasLabel m x l → HasLabel (set m y (Some k)) x l
label-set m y k x l none h = elim (ℕ_discrete x y) [
  | yes e ↦ absurd (no_label (sym none ∙ subst (λ (n : ℕ). get_or m n None ≡ Some l) e h))
  | no n ↦ get_or-set_other m y x (Some k) None n ∙ h
]

label-from : (m : List (Option ℕ)) (y k x l : ℕ) → y < length m → HasLabel (set m y (Some k)) x l → HasLabel m x l ⊎ ((x ≡ y) × (k ≡ l))
label-from m y k x l b h = elim (ℕ_discrete x y) [
  | yes e ↦ inr (e, (let f : Some k ≡ Some l = sym (get_or-set_same m y (Some k) None b) ∙ subst (λ (n : ℕ). get_or (set m y (Some k)) n None ≡ Some l) e h in cc))
  | no n ↦ inl (sym (get_or-set_other m y x (Some k) None n) ∙ h)
]

same_start : (s : Start) (x l : ℕ) → x ≡ s.place → s.label ≡ l → s ≡ begin x l
same_start s x l e f = subst (λ (p : ℕ). s ≡ begin p l) (sym e) (subst (λ (k : ℕ). s ≡ begin s.place k) f refl)

-- a place gets its label, and is put at the end of the work
pub visited-new : (m : List (Option ℕ)) (w : List Start) (s : Start) → s.place < length m → get_or m s.place None ≡ None → Grown (s ∷ []) m w (set m s.place (Some s.label)) (w ++ s ∷ [])
visited-new m w s b none = record {
  long = length-set m s.place (Some s.label);
  keeps = λ x l k. label-set m s.place s.label x l none k;
  work = λ z k. Contains-append_left w (s ∷ []) z k;
  fresh = λ x l k. elim (label-from m s.place s.label x l b k) [
    | inl old ↦ inl old
    | inr e ↦ inr (let f : s ≡ begin x l = same_start s x l e.0 e.1 in
        (Contains-append_right w (s ∷ []) (begin x l) (subst (λ (t : Start). Contains (s ∷ []) t) f (itself s)), subst (λ (t : Start). Contains (s ∷ []) t) f (itself s)))
  ];
  queued = λ z k. elim (Contains-push_cases w s z k) [
    | inl old ↦ inl old
    | inr e ↦ inr (subst (λ (t : Start). HasLabel (set m s.place (Some s.label)) t.place t.label) e (get_or-set_same m s.place (Some s.label) None b))
  ];
  all = λ z k c. let e : s ≡ z = only s z k in
      subst (λ (t : Start). IsMarked (set m s.place (Some s.label)) t.place) e (s.label, get_or-set_same m s.place (Some s.label) None b);
}

-- places visited after places
pub Grown-after : (ys zs : List Start) (m : List (Option ℕ)) (w : List Start) (m' : List (Option ℕ)) (w' : List Start) (m'' : List (Option ℕ)) (w'' : List Start)
    → Grown ys m w m' w' → Grown zs m' w' m'' w'' → Grown (ys ++ zs) m w m'' w''
Grown-after ys zs m w m' w' m'' w'' a b = record {
  long = b.long ∙ a.long;
  keeps = λ x l k. b.keeps x l (a.keeps x l k);
  work = λ z k. b.work z (a.work z k);
  fresh = λ x l k. elim (b.fresh x l k) [
    | inl old ↦ elim (a.fresh x l old) [ inl older ↦ inl older | inr f ↦ inr (b.work (begin x l) f.0, Contains-append_left ys zs (begin x l) f.1) ]
    | inr f ↦ inr (f.0, Contains-append_right ys zs (begin x l) f.1)
  ];
  queued = λ z k. elim (b.queued z k) [ inl old ↦ elim (a.queued z old) [ inl older ↦ inl older | inr f ↦ inr (b.keeps z.place z.label f) ] | inr f ↦ inr f ];
  all = λ z k c. elim (Contains-append_cases ys zs z k) [
    | inl y ↦ (let h : IsMarked m' z.place = a.all z y c in (h.0, b.keeps z.place h.0 h.1))
    | inr y ↦ b.all z y (subst (λ (n : ℕ). z.place < n) (sym a.long) c)
  ];
}

pub Grown-none : (m : List (Option ℕ)) (w : List Start) → Grown [] m w m w
Grown-none m w = record {
  long = refl;
  keeps = λ x l k. k;
  work = λ z k. k;
  fresh = λ x l k. inl k;
  queued = λ z k. inl k;
  all = λ z k c. absurd (nothing z k);
}

labelled-in : (l : ℕ) (xs : List ℕ) (x k : ℕ) → Contains (labelled l xs) (begin x k) → Contains xs x × (k ≡ l)
labelled-in l [] x k c = absurd (nothing (begin x k) c)
labelled-in l (y ∷ ys) x k c = elim (Contains-append_cases (begin y l ∷ []) (labelled l ys) (begin x k) c) [
  | inl h ↦ (let e : begin y l ≡ begin x k = only (begin y l) (begin x k) h in
      (subst (λ (z : ℕ). Contains (y ∷ ys) z) (ap (λ (s : Start). s.place) e) (Contains-append_left (y ∷ []) ys y (itself y)), sym (ap (λ (s : Start). s.label) e)))
  | inr h ↦ (let r : Contains ys x × (k ≡ l) = labelled-in l ys x k h in (Contains-append_right (y ∷ []) ys x r.0, r.1))
]

in-labelled : (l : ℕ) (xs : List ℕ) (x : ℕ) → Contains xs x → Contains (labelled l xs) (begin x l)
in-labelled l [] x c = absurd (nothing x c)
in-labelled l (y ∷ ys) x c = elim (Contains-append_cases (y ∷ []) ys x c) [
  | inl h ↦ subst (λ (z : ℕ). Contains (labelled l (y ∷ ys)) (begin z l)) (only y x h) (Contains-append_left (begin y l ∷ []) (labelled l ys) (begin y l) (itself (begin y l)))
  | inr h ↦ Contains-append_right (begin y l ∷ []) (labelled l ys) (begin x l) (in-labelled l ys x h)
]

module _ (ways : ℕ → List ℕ) (starts : List Start) where
  -- a place was taken from the work, and all to which it leads were visited
  pub followed : (s : Start) (m : List (Option ℕ)) (w : List Start) (m' : List (Option ℕ)) (w' : List Start)
      → Marking ways starts m (w ++ s ∷ []) → Grown (labelled s.label (ways s.place)) m w m' w' → Marking ways starts m' w'
  followed s m w m' w' k g =
      let here : HasLabel m s.place s.label = k.queued s (Contains-push w s) in
      record {
        sound = λ x l c. elim (g.fresh x l c) [
          | inl old ↦ k.sound x l old
          | inr f ↦ (let r : Contains (ways s.place) x × (l ≡ s.label) = labelled-in s.label (ways s.place) x l f.1 in
              let b : (t : Start) × Contains starts t × (t.label ≡ s.label) × From ways t.place s.place = k.sound s.place s.label here in
              (b.0, b.1, b.2 ∙ sym r.1, onward b.3 r.0))
        ];
        queued = λ z c. elim (g.queued z c) [ inl old ↦ g.keeps z.place z.label (k.queued z (Contains-append_left w (s ∷ []) z old)) | inr f ↦ f ];
        begun = λ z c b. let h : IsMarked m z.place = k.begun z c (subst (λ (n : ℕ). z.place < n) g.long b) in (h.0, g.keeps z.place h.0 h.1);
        closed = λ x l c. elim (g.fresh x l c) [
          | inl old ↦ elim (k.closed x l old) [
            | inl queued ↦ elim (Contains-push_cases w s (begin x l) queued) [
              | inl still ↦ inl (g.work (begin x l) still)
              | inr e ↦ inr (λ y d b. g.all (begin y s.label) (in-labelled s.label (ways s.place) y (subst (λ (t : Start). Contains (ways t.place) y) (sym e) d)) (subst (λ (n : ℕ). y < n) g.long b))
            ]
            | inr done ↦ inr (λ y d b. let h : IsMarked m y = done y d (subst (λ (n : ℕ). y < n) g.long b) in (h.0, g.keeps y h.0 h.1))
          ]
          | inr f ↦ inl f.0
        ];
      }

  -- the starts were visited, and nothing else
  pub begun : (m : List (Option ℕ)) (m' : List (Option ℕ)) (w' : List Start)
      → ((x l : ℕ) → HasLabel m x l → ⊥) → Grown starts m [] m' w' → Marking ways starts m' w'
  begun m m' w' none g = record {
    sound = λ x l c. elim (g.fresh x l c) [ inl old ↦ absurd (none x l old) | inr f ↦ (begin x l, f.1, refl, start (itself x)) ];
    queued = λ z c. elim (g.queued z c) [ inl old ↦ absurd (nothing z old) | inr f ↦ f ];
    begun = λ z c b. g.all z c (subst (λ (n : ℕ). z.place < n) g.long b);
    closed = λ x l c. elim (g.fresh x l c) [ inl old ↦ absurd (none x l old) | inr f ↦ inl f.0 ];
  }

  -- with no work left, what a start reaches has a label, where all places are labelled that are led to
  pub complete : (m : List (Option ℕ)) → Marking ways starts m [] → ((x y : ℕ) → Leads ways x y → y < length m → x < length m)
      → (s : Start) → Contains starts s → (x : ℕ) → From ways s.place x → x < length m → IsMarked m x
  complete m k within s c x (Reaches.start e) b = subst (λ (n : ℕ). IsMarked m n) (only s.place x e) (k.begun s c (subst (λ (n : ℕ). n < length m) (sym (only s.place x e)) b))
  complete m k within s c y (Reaches.onward {x} r d) b =
      let h : IsMarked m x = complete m k within s c x r (within x y d b) in
      elim (k.closed x h.0 h.1) [ inl w ↦ absurd (nothing (begin x h.0) w) | inr done ↦ done y d b ]
