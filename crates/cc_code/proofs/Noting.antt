-- Bits that are set, and starts that are put, one after another.
use Rattle.std.proofs.Common.{◌≡◌, ◌≢◌, ℕ, ◌<◌, ◌≤◌, inl, inr, List, [], ◌∷◌, ◌++◌, length, get_or, set, Option, Some, None, Bool, true, false, Contains, refl, sym, ◌∙◌, subst, arith}
use native.Mathlib.Decide.{ℕ_discrete}
use Rattle.std.proofs.lemmas.List.{get_or-set_same, get_or-set_other}
use Rattle.std.proofs.lemmas.List.Elements.{Contains-append_left, Contains-append_right, Contains-append_cases, Contains-push, Contains-push_cases}
use Rattle.std.proofs.Math.ListN.{length-set}
use Rattle.cc_code.proofs.Marked.{itself, nothing, only}
use Rattle.cc_code.specs.Checked.{IsSet, Noted, Seeded}
use Rattle.cc_code.specs.Reach.{HasLabel}
use Rattle.cc_code.specs.declared.reach.Start.{Start}

pub Noted-none : (bits : List Bool) → Noted [] bits bits
Noted-none bits = record {
  long = refl;
  exact = λ x b. (λ h. inl h, λ h. elim h [ inl g ↦ g | inr g ↦ absurd (nothing x g) ]);
}

pub Noted-after : (xs ys : List ℕ) (a b c : List Bool) → Noted xs a b → Noted ys b c → Noted (xs ++ ys) a c
Noted-after xs ys a b c f g = record {
  long = g.long ∙ f.long;
  exact = λ x l. (let l' : x < length b = subst (λ (n : ℕ). x < n) (sym f.long) l in (
    λ h. elim ((g.exact x l').0 h) [
      | inl h ↦ elim ((f.exact x l).0 h) [ inl i ↦ inl i | inr i ↦ inr (Contains-append_left xs ys x i) ]
      | inr h ↦ inr (Contains-append_right xs ys x h)
    ],
    λ h. elim h [
      | inl i ↦ (g.exact x l').1 (inl ((f.exact x l).1 (inl i)))
      | inr i ↦ elim (Contains-append_cases xs ys x i) [ inl j ↦ (g.exact x l').1 (inl ((f.exact x l).1 (inr j))) | inr j ↦ (g.exact x l').1 (inr j) ]
    ],
  ));
}

-- a bit is set, or there is none of this number
pub noted-set : (bits : List Bool) (y : ℕ) → y < length bits → Noted (y ∷ []) bits (set bits y true)
noted-set bits y w = record {
  long = length-set bits y true;
  exact = λ x b. elim (ℕ_discrete x y) [
    | yes e ↦ (λ h. inr (subst (λ (z : ℕ). Contains (y ∷ []) z) (sym e) (itself y)), λ h. subst (λ (z : ℕ). IsSet (set bits y true) z) (sym e) (get_or-set_same bits y true false w))
    | no n ↦ (λ h. inl (sym (get_or-set_other bits y x true false n) ∙ h), λ h. elim h [ inl g ↦ get_or-set_other bits y x true false n ∙ g | inr g ↦ absurd (n (sym (only y x g))) ])
  ];
}

pub noted-past : (bits : List Bool) (y : ℕ) → length bits ≤ y → Noted (y ∷ []) bits bits
noted-past bits y w = record {
  long = refl;
  exact = λ x b. (λ h. inl h, λ h. elim h [ inl g ↦ g | inr g ↦ absurd (let e : y ≡ x = only y x g in omega arith) ]);
}

pub Seeded-none : (m : List (Option ℕ)) (old : List Start) → Seeded m [] old old
Seeded-none m old = record {
  keeps = λ s c. c;
  fresh = λ s c. inl c;
  all = λ s l c h. absurd (nothing s c);
}

pub Seeded-after : (m : List (Option ℕ)) (xs ys a b c : List Start) → Seeded m xs a b → Seeded m ys b c → Seeded m (xs ++ ys) a c
Seeded-after m xs ys a b c f g = record {
  keeps = λ s h. g.keeps s (f.keeps s h);
  fresh = λ s h. elim (g.fresh s h) [
    | inl i ↦ elim (f.fresh s i) [ inl j ↦ inl j | inr j ↦ inr (Contains-append_left xs ys s j.0, j.1, j.2, j.3) ]
    | inr i ↦ inr (Contains-append_right xs ys s i.0, i.1, i.2, i.3)
  ];
  all = λ s l h k. elim (Contains-append_cases xs ys s h) [
    | inl i ↦ elim (f.all s l i k) [ inl e ↦ inl e | inr j ↦ inr (g.keeps s j) ]
    | inr i ↦ g.all s l i k
  ];
}

same-label : (m : List (Option ℕ)) (x k l : ℕ) → HasLabel m x k → HasLabel m x l → k ≡ l
same-label m x k l h i = let e : Some k ≡ Some l = sym h ∙ i in cc

-- a start is put, and where its place has its label or none it is not
pub seeded-new : (m : List (Option ℕ)) (old : List Start) (s : Start) (l : ℕ) → HasLabel m s.place l → (l ≢ s.label) → Seeded m (s ∷ []) old (old ++ s ∷ [])
seeded-new m old s l h n = record {
  keeps = λ t c. Contains-append_left old (s ∷ []) t c;
  fresh = λ t c. elim (Contains-push_cases old s t c) [
    | inl i ↦ inl i
    | inr e ↦ inr (subst (λ (u : Start). Contains (s ∷ []) u) e (itself s), l, subst (λ (u : Start). HasLabel m u.place l) e h, subst (λ (u : Start). l ≢ u.label) e n)
  ];
  all = λ t k c i. inr (subst (λ (u : Start). Contains (old ++ s ∷ []) u) (only s t c) (Contains-push old s));
}

pub seeded-same : (m : List (Option ℕ)) (old : List Start) (s : Start) → HasLabel m s.place s.label → Seeded m (s ∷ []) old old
seeded-same m old s h = record {
  keeps = λ t c. c;
  fresh = λ t c. inl c;
  all = λ t k c i. (let e : s ≡ t = only s t c in inl (same-label m t.place k t.label i (subst (λ (u : Start). HasLabel m u.place u.label) e h)));
}

pub seeded-unlabelled : (m : List (Option ℕ)) (old : List Start) (s : Start) → get_or m s.place None ≡ None → Seeded m (s ∷ []) old old
seeded-unlabelled m old s h = record {
  keeps = λ t c. c;
  fresh = λ t c. inl c;
  all = λ t k c i. (let e : s ≡ t = only s t c in absurd (let f : None ≡ Some k = sym (subst (λ (u : Start). get_or m u.place None ≡ None) e h) ∙ i in cc));
}
