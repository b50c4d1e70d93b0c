-- Laws of what is found and of the faults.
use Rattle.std.proofs.Common.{◌≡◌, Bool, true, false, List, [], ◌∷◌, ◌++◌, Option, Some, refl, ap, sym, ◌∙◌}
use Rattle.std.proofs.Common.{ℕ, ◌+◌, ◌<◌, length, take, get_or}
use Rattle.std.proofs.lemmas.List.{take_more}
use Rattle.cc_faults.specs.Faults.{noted, earlier}
use Rattle.cc_faults.specs.Judged.{Judged, Good, Bad, answer, faults, map, checked, both, asked, first, answer_map, answer_then, answer_pair, answer_asked, answer_put, faults_then, faults_asked, in_front, each, each_after, after_each}
use Rattle.cc_faults.specs.declared.answer.Answer.{Answer}
use Rattle.cc_faults.specs.declared.answer.Answer.TheVariants as an
use Rattle.cc_faults.specs.declared.fault.FaultAt.{FaultAt}

pub noted-end : (m : Option FaultAt) → noted m [] ≡ m
unfolding noted
noted-end m = refl

pub noted-more : (m : Option FaultAt) (f : FaultAt) (fs : List FaultAt) → noted m (f ∷ fs) ≡ noted (Some (earlier m f)) fs
unfolding noted
noted-more m f fs = refl

pub noted-append : (m : Option FaultAt) (xs ys : List FaultAt) → noted m (xs ++ ys) ≡ noted (noted m xs) ys
unfolding noted
noted-append m [] ys = refl
noted-append m (x ∷ xs) ys = noted-append (Some (earlier m x)) xs ys

module _ {A : Type 0} where
  pub answer-Good : (v : A) → answer (Good v) ≡ an.Good v
  unfolding answer
  answer-Good v = refl

  pub answer-own : (f : FaultAt) (fs : List FaultAt) → answer {A = A} (Bad true f fs) ≡ an.Faulty
  unfolding answer
  answer-own f fs = refl

  pub answer-other : (f : FaultAt) (fs : List FaultAt) → answer {A = A} (Bad false f fs) ≡ an.Typeless
  unfolding answer
  answer-other f fs = refl

  pub faults-Good : (v : A) → faults (Good v) ≡ []
  unfolding faults
  faults-Good v = refl

pub faults-Bad : (A : Type 0) (own : Bool) (f : FaultAt) (fs : List FaultAt) → faults {A = A} (Bad own f fs) ≡ f ∷ fs
unfolding faults
faults-Bad A own f fs = refl

module _ {A B : Type 0} where
  pub answer-map : (f : A → B) (j : Judged A) → answer (map f j) ≡ answer_map f (answer j)
  unfolding answer map
  answer-map f (Good v) = refl
  answer-map f (Bad true g gs) = refl
  answer-map f (Bad false g gs) = refl

  pub faults-map : (f : A → B) (j : Judged A) → faults (map f j) ≡ faults j
  unfolding faults map
  faults-map f (Good v) = refl
  faults-map f (Bad own g gs) = refl

  pub answer-checked : (j : Judged A) (r : A → Judged B) → answer (checked j r) ≡ answer_then (answer j) r
  unfolding answer checked
  answer-checked (Good v) r = refl
  answer-checked (Bad true g gs) r = refl
  answer-checked (Bad false g gs) r = refl

  pub noted-checked : (m : Option FaultAt) (j : Judged A) (r : A → Judged B) → noted m (faults (checked j r)) ≡ noted (noted m (faults j)) (faults_then (answer j) r)
  unfolding answer faults checked noted
  noted-checked m (Good v) r = refl
  noted-checked m (Bad true g gs) r = refl
  noted-checked m (Bad false g gs) r = refl

  pub answer-both : (j : Judged A) (k : Judged B) → answer (both j k) ≡ answer_pair (answer j) (answer k)
  unfolding answer both
  answer-both (Good v) (Good w) = refl
  answer-both (Good v) (Bad true g gs) = refl
  answer-both (Good v) (Bad false g gs) = refl
  answer-both (Bad true f fs) (Good w) = refl
  answer-both (Bad true f fs) (Bad also g gs) = refl
  answer-both (Bad false f fs) (Good w) = refl
  answer-both (Bad false f fs) (Bad true g gs) = refl
  answer-both (Bad false f fs) (Bad false g gs) = refl

  faults-both : (j : Judged A) (k : Judged B) → faults (both j k) ≡ faults j ++ faults k
  unfolding faults both
  faults-both (Good v) (Good w) = refl
  faults-both (Good v) (Bad own g gs) = refl
  faults-both (Bad own f []) (Good w) = refl
  faults-both (Bad own f (g ∷ gs)) (Good w) = ap (λ xs. f ∷ xs) (faults-both (Bad own g gs) (Good w))
  faults-both (Bad own f fs) (Bad also g gs) = refl

  pub noted-both : (m : Option FaultAt) (j : Judged A) (k : Judged B) → noted m (faults (both j k)) ≡ noted (noted m (faults j)) (faults k)
  noted-both m j k = ap (noted m) (faults-both j k) ∙ noted-append m (faults j) (faults k)

module _ {A B : Type 0} where
  pub answer-asked : (j : Judged A) (r : A → Judged B) (p : Judged (Unit {0})) → answer (asked j r p) ≡ answer_asked (answer j) r p
  unfolding answer asked
  answer-asked (Good v) r p = refl
  answer-asked (Bad true f fs) r p = refl
  answer-asked (Bad false f fs) r p =
      answer-map first (both (Bad false f fs) p) ∙ ap (answer_map first) (answer-both (Bad false f fs) p)

  pub noted-asked : (m : Option FaultAt) (j : Judged A) (r : A → Judged B) (p : Judged (Unit {0})) → noted m (faults (asked j r p)) ≡ noted (noted m (faults j)) (faults_asked (answer j) r p)
  unfolding answer faults asked noted
  noted-asked m (Good v) r p = refl
  noted-asked m (Bad true f fs) r p = refl
  noted-asked m (Bad false f fs) r p =
      ap (noted m) (faults-map first (both (Bad false f fs) p)) ∙ noted-both m (Bad false f fs) p

pub ruleset laws = (noted-end, noted-more, answer-Good, answer-own, answer-other, faults-Good, faults-Bad, answer-map, faults-map, answer-checked, noted-checked, answer-both, noted-both, answer-asked, noted-asked)

-- lists: what a loop adds at their end
noted-in_front : {A : Type 0} (m : Option FaultAt) (j : Judged A) (k : Judged (List A)) → noted m (faults (map in_front (both j k))) ≡ noted (noted m (faults j)) (faults k)
noted-in_front m j k = ap (noted m) (faults-map in_front (both j k)) ∙ noted-both m j k

answer-in_front : {A : Type 0} (j : Judged A) (k : Judged (List A)) → answer (map in_front (both j k)) ≡ answer_map in_front (answer_pair (answer j) (answer k))
answer-in_front j k = answer-map in_front (both j k) ∙ ap (answer_map in_front) (answer-both j k)

put-in_front : {A : Type 0} (y : Answer A) (r : Answer (List A)) (x : Answer A) → answer_map in_front (answer_pair y (answer_put r x)) ≡ answer_put (answer_map in_front (answer_pair y r)) x
put-in_front an.Faulty r x = refl
put-in_front an.Typeless an.Faulty x = refl
put-in_front an.Typeless an.Typeless an.Faulty = refl
put-in_front an.Typeless an.Typeless an.Typeless = refl
put-in_front an.Typeless an.Typeless (an.Good x) = refl
put-in_front an.Typeless (an.Good rs) an.Faulty = refl
put-in_front an.Typeless (an.Good rs) an.Typeless = refl
put-in_front an.Typeless (an.Good rs) (an.Good x) = refl
put-in_front (an.Good y) an.Faulty x = refl
put-in_front (an.Good y) an.Typeless an.Faulty = refl
put-in_front (an.Good y) an.Typeless an.Typeless = refl
put-in_front (an.Good y) an.Typeless (an.Good x) = refl
put-in_front (an.Good y) (an.Good rs) an.Faulty = refl
put-in_front (an.Good y) (an.Good rs) an.Typeless = refl
put-in_front (an.Good y) (an.Good rs) (an.Good x) = refl

put-start : {A : Type 0} (x : Answer A) → answer_map in_front (answer_pair x (an.Good [])) ≡ answer_put (an.Good []) x
put-start an.Faulty = refl
put-start an.Typeless = refl
put-start (an.Good x) = refl

module _ {A B : Type 0} where
  pub each-nil : (f : A → Judged B) → each f [] ≡ Good []
  unfolding each
  each-nil f = refl

  pub answer-each : (f : A → Judged B) (xs : List A) (x : A) → answer (each f (xs ++ x ∷ [])) ≡ answer_put (answer (each f xs)) (answer (f x))
  unfolding each answer
  answer-each f [] x = answer-in_front (f x) (Good []) ∙ put-start (answer (f x))
  answer-each f (y ∷ ys) x =
      answer-in_front (f y) (each f (ys ++ x ∷ []))
      ∙ ap (λ r. answer_map in_front (answer_pair (answer (f y)) r)) (answer-each f ys x)
      ∙ put-in_front (answer (f y)) (answer (each f ys)) (answer (f x))
      ∙ ap (λ r. answer_put r (answer (f x))) (sym (answer-in_front (f y) (each f ys)))

  pub noted-each : (m : Option FaultAt) (f : A → Judged B) (xs : List A) (x : A) → noted m (faults (each f (xs ++ x ∷ []))) ≡ noted (noted m (faults (each f xs))) (faults (f x))
  unfolding each faults noted
  noted-each m f [] x = noted-in_front m (f x) (Good [])
  noted-each m f (y ∷ ys) x =
      noted-in_front m (f y) (each f (ys ++ x ∷ []))
      ∙ noted-each (noted m (faults (f y))) f ys x
      ∙ ap (λ n. noted n (faults (f x))) (sym (noted-in_front m (f y) (each f ys)))

module _ {S A : Type 0} where
  pub after-nil : (step : S → A → S) (s : S) → after_each step s [] ≡ s
  unfolding after_each
  after-nil step s = refl

  pub after-more : (step : S → A → S) (s : S) (xs : List A) (x : A) → after_each step s (xs ++ x ∷ []) ≡ step (after_each step s xs) x
  unfolding after_each
  after-more step s [] x = refl
  after-more step s (y ∷ ys) x = after-more step (step s y) ys x

module _ {S A B : Type 0} where
  pub each_after-nil : (f : S → A → Judged B) (step : S → A → S) (s : S) → each_after f step s [] ≡ Good []
  unfolding each_after
  each_after-nil f step s = refl

  pub answer-each_after : (f : S → A → Judged B) (step : S → A → S) (s : S) (xs : List A) (x : A) → answer (each_after f step s (xs ++ x ∷ [])) ≡ answer_put (answer (each_after f step s xs)) (answer (f (after_each step s xs) x))
  unfolding each_after after_each answer
  answer-each_after f step s [] x = answer-in_front (f s x) (Good []) ∙ put-start (answer (f s x))
  answer-each_after f step s (y ∷ ys) x =
      answer-in_front (f s y) (each_after f step (step s y) (ys ++ x ∷ []))
      ∙ ap (λ r. answer_map in_front (answer_pair (answer (f s y)) r)) (answer-each_after f step (step s y) ys x)
      ∙ put-in_front (answer (f s y)) (answer (each_after f step (step s y) ys)) (answer (f (after_each step (step s y) ys) x))
      ∙ ap (λ r. answer_put r (answer (f (after_each step (step s y) ys) x))) (sym (answer-in_front (f s y) (each_after f step (step s y) ys)))

  pub noted-each_after : (m : Option FaultAt) (f : S → A → Judged B) (step : S → A → S) (s : S) (xs : List A) (x : A) → noted m (faults (each_after f step s (xs ++ x ∷ []))) ≡ noted (noted m (faults (each_after f step s xs))) (faults (f (after_each step s xs) x))
  unfolding each_after after_each faults noted
  noted-each_after m f step s [] x = noted-in_front m (f s x) (Good [])
  noted-each_after m f step s (y ∷ ys) x =
      noted-in_front m (f s y) (each_after f step (step s y) (ys ++ x ∷ []))
      ∙ noted-each_after (noted m (faults (f s y))) f step (step s y) ys x
      ∙ ap (λ n. noted n (faults (f (after_each step (step s y) ys) x))) (sym (noted-in_front m (f s y) (each_after f step (step s y) ys)))

pub ruleset lists = (each-nil, answer-each, noted-each, after-nil, after-more, each_after-nil, answer-each_after, noted-each_after)

-- a step of a loop over a list
module _ {A B : Type 0} (f : A → Judged B) (xs : List A) (k : ℕ) (x : A) where
  pub loop-answer : (so_far more : Answer (List B)) (y : Answer B) → k < length xs → x ≡ get_or xs k x → so_far ≡ answer (each f (take k xs)) → y ≡ answer (f x) → more ≡ answer_put so_far y
      → more ≡ answer (each f (take (k + 1) xs))
  loop-answer so_far more y lt is e i j =
      j ∙ ap (λ d. answer_put d y) e ∙ ap (answer_put (answer (each f (take k xs)))) (i ∙ ap (λ z. answer (f z)) is)
      ∙ sym (ap (λ ys. answer (each f ys)) (take_more xs k x lt) ∙ answer-each f (take k xs) (get_or xs k x))

  pub loop-noted : (start m more : Option FaultAt) → k < length xs → x ≡ get_or xs k x → m ≡ noted start (faults (each f (take k xs))) → more ≡ noted m (faults (f x))
      → more ≡ noted start (faults (each f (take (k + 1) xs)))
  loop-noted start m more lt is e i =
      i ∙ ap (λ n. noted n (faults (f x))) e ∙ ap (λ z. noted (noted start (faults (each f (take k xs)))) (faults (f z))) is
      ∙ sym (ap (λ ys. noted start (faults (each f ys))) (take_more xs k x lt) ∙ noted-each start f (take k xs) (get_or xs k x))

module _ {S A : Type 0} (step : S → A → S) (s now : S) (xs : List A) (k : ℕ) (x : A) where
  pub loop-after : k < length xs → x ≡ get_or xs k x → after_each step s (take k xs) ≡ now → after_each step s (take (k + 1) xs) ≡ step now x
  loop-after lt is e =
      ap (after_each step s) (take_more xs k x lt) ∙ after-more step s (take k xs) (get_or xs k x) ∙ ap (λ t. step t (get_or xs k x)) e ∙ ap (step now) (sym is)

module _ {S A B : Type 0} (f : S → A → Judged B) (step : S → A → S) (s now : S) (xs : List A) (k : ℕ) (x : A) where
  pub loop-answer_after : (so_far more : Answer (List B)) (y : Answer B) → k < length xs → x ≡ get_or xs k x → after_each step s (take k xs) ≡ now → so_far ≡ answer (each_after f step s (take k xs)) → y ≡ answer (f now x) → more ≡ answer_put so_far y
      → more ≡ answer (each_after f step s (take (k + 1) xs))
  loop-answer_after so_far more y lt is a e i j =
      j ∙ ap (λ d. answer_put d y) e ∙ ap (answer_put (answer (each_after f step s (take k xs)))) (i ∙ ap (λ z. answer (f now z)) is ∙ ap (λ t. answer (f t (get_or xs k x))) (sym a))
      ∙ sym (ap (λ ys. answer (each_after f step s ys)) (take_more xs k x lt) ∙ answer-each_after f step s (take k xs) (get_or xs k x))

  pub loop-noted_after : (start m more : Option FaultAt) → k < length xs → x ≡ get_or xs k x → after_each step s (take k xs) ≡ now → m ≡ noted start (faults (each_after f step s (take k xs))) → more ≡ noted m (faults (f now x))
      → more ≡ noted start (faults (each_after f step s (take (k + 1) xs)))
  loop-noted_after start m more lt is a e i =
      i ∙ ap (λ n. noted n (faults (f now x))) e
      ∙ ap (λ z. noted (noted start (faults (each_after f step s (take k xs)))) (faults (f now z))) is
      ∙ ap (λ t. noted (noted start (faults (each_after f step s (take k xs)))) (faults (f t (get_or xs k x)))) (sym a)
      ∙ sym (ap (λ ys. noted start (faults (each_after f step s ys))) (take_more xs k x lt) ∙ noted-each_after start f step s (take k xs) (get_or xs k x))

-- a rule that gives a value or a fault
pub ruleset rows = (noted-end, noted-more, answer-Good, answer-own, answer-other, faults-Good, faults-Bad)
