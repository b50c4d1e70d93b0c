-- What holds of whatever is good.
use Rattle.std.specs.Prelude.{true, false}
use Rattle.cc_faults.specs.Judged.{Judged, Good, Bad, map, checked, both, asked}

abbrev pub Holds : {A : Type 0} → (A → Type 0) → Judged A → Type 0
Holds P (Good v) = P v
Holds P (Bad own f fs) = Unit {0}

pub holds-map : {A B : Type 0} (P : B → Type 0) (f : A → B) (j : Judged A) → Holds (λ v. P (f v)) j → Holds P (map f j)
unfolding map
holds-map P f (Good v) h = h
holds-map P f (Bad also g gs) h = tt

pub holds-both : {A B : Type 0} (P : A → Type 0) (Q : B → Type 0) (j : Judged A) (k : Judged B) → Holds P j → Holds Q k → Holds (λ v. P v.0 × Q v.1) (both j k)
unfolding both
holds-both P Q (Good v) (Good w) h i = (h, i)
holds-both P Q (Good v) (Bad also g gs) h i = tt
holds-both P Q (Bad own f fs) (Good w) h i = tt
holds-both P Q (Bad own f fs) (Bad also g gs) h i = tt

pub holds-checked : {A B : Type 0} (P : A → Type 0) (Q : B → Type 0) (j : Judged A) (r : A → Judged B) → Holds P j → ((v : A) → P v → Holds Q (r v)) → Holds Q (checked j r)
unfolding checked
holds-checked P Q (Good v) r h go = go v h
holds-checked P Q (Bad own f fs) r h go = tt

pub holds-weaker : {A : Type 0} (P Q : A → Type 0) → ((v : A) → P v → Q v) → (j : Judged A) → Holds P j → Holds Q j
holds-weaker P Q go (Good v) h = go v h
holds-weaker P Q go (Bad own f fs) h = tt

pub holds-asked : {A B : Type 0} (P : A → Type 0) (Q : B → Type 0) (j : Judged A) (r : A → Judged B) (p : Judged (Unit {0})) → Holds P j → ((v : A) → P v → Holds Q (r v)) → Holds Q (asked j r p)
unfolding asked both map
holds-asked P Q (Good v) r p h go = go v h
holds-asked P Q (Bad true f fs) r p h go = tt
holds-asked P Q (Bad false f fs) r (Good v) h go = tt
holds-asked P Q (Bad false f fs) r (Bad also g gs) h go = tt
