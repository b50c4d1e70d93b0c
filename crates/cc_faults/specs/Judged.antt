-- What is found of a phrase: what it means, or faults, of which there is at least one. A phrase without a meaning has no type. It
-- holds a fault of its own, or else it uses a name that was declared with a fault: the faults listed are then those of such
-- declarations, so that a phrase means something exactly where its list is empty.
use Rattle.std.specs.Prelude.{Bool, true, false, ◌||◌, List, [], ◌∷◌, ◌++◌, Option, Some, None, Result, Ok, Err}
use Rattle.cc_base.specs.declared.names.Place.{Place}
use Rattle.cc_faults.specs.declared.answer.Answer.{Answer}
use Rattle.cc_faults.specs.declared.answer.Answer.TheVariants as an
use Rattle.cc_faults.specs.declared.fault.FaultAt.{FaultAt}
use Rattle.cc_faults.specs.declared.fault.TypeKind.{TypeKind}

pub data Judged (A : Type 0) : Type 0 where
  Good : A → Judged A
  -- whether it holds a fault of its own; the first fault as found, and the others
  Bad : Bool → FaultAt → List FaultAt → Judged A

unfoldable pub faults : {A : Type 0} → Judged A → List FaultAt
faults (Good v) = []
faults (Bad own f fs) = f ∷ fs

-- what code is to know
unfoldable pub answer : {A : Type 0} → Judged A → Answer A
answer (Good v) = an.Good v
answer (Bad true f fs) = an.Faulty
answer (Bad false f fs) = an.Typeless

abbrev pub good_of : {A : Type 0} → Answer A → Option A
good_of (an.Good v) = Some v
good_of an.Typeless = None
good_of an.Faulty = None

-- what it means
abbrev pub found : {A : Type 0} → Judged A → Option A
found j = good_of (answer j)

abbrev pub fault : {A : Type 0} → Place → TypeKind → Judged A
fault p k = Bad true (record { place = p; kind = k }) []

unfoldable pub map : {A B : Type 0} → (A → B) → Judged A → Judged B
map f (Good v) = Good (f v)
map f (Bad own g gs) = Bad own g gs

-- a rule that needs the meaning or the type
unfoldable pub checked : {A B : Type 0} → Judged A → (A → Judged B) → Judged B
checked (Good v) rule = rule v
checked (Bad own f fs) rule = Bad own f fs

-- two phrases, with the faults of both
unfoldable pub both : {A B : Type 0} → Judged A → Judged B → Judged (A × B)
both (Good v) (Good w) = Good (v, w)
both (Good v) (Bad own g gs) = Bad own g gs
both (Bad own f fs) (Good w) = Bad own f fs
both (Bad own f fs) (Bad also g gs) = Bad (own || also) f (fs ++ g ∷ gs)

abbrev pub first : {A B : Type 0} → A × B → A
first v = v.0

abbrev pub second : {A B : Type 0} → A × B → B
second v = v.1

-- a rule that needs no type: as `rule` says it of what has a type, and as `plain` says it of what has none. It is not asked of a
-- phrase that holds a fault of its own.
unfoldable pub asked : {A B : Type 0} → Judged A → (A → Judged B) → Judged (Unit {0}) → Judged B
asked (Good v) rule plain = rule v
asked (Bad true f fs) rule plain = Bad true f fs
asked (Bad false f fs) rule plain = map first (both (Bad false f fs) plain)

-- what it means, or the first of its faults as they are found
abbrev pub outcome : {A : Type 0} → Judged A → Result A FaultAt
outcome (Good v) = Ok v
outcome (Bad own f fs) = Err f

-- what is known of a name; where it was declared with a fault, the phrase that names it holds none of its own
abbrev pub known : {A : Type 0} → Result A FaultAt → Judged A
known (Ok v) = Good v
known (Err f) = Bad false f []

abbrev pub mapped : {A B : Type 0} → (A → B) → Option A → Option B
mapped f None = None
mapped f (Some v) = Some (f v)

-- ---- what code knows, and the faults, of these
abbrev pub answer_map : {A B : Type 0} → (A → B) → Answer A → Answer B
answer_map f (an.Good v) = an.Good (f v)
answer_map f an.Typeless = an.Typeless
answer_map f an.Faulty = an.Faulty

abbrev pub answer_then : {A B : Type 0} → Answer A → (A → Judged B) → Answer B
answer_then (an.Good v) rule = answer (rule v)
answer_then an.Typeless rule = an.Typeless
answer_then an.Faulty rule = an.Faulty

abbrev pub faults_then : {A B : Type 0} → Answer A → (A → Judged B) → List FaultAt
faults_then (an.Good v) rule = faults (rule v)
faults_then an.Typeless rule = []
faults_then an.Faulty rule = []

abbrev pub answer_pair : {A B : Type 0} → Answer A → Answer B → Answer (A × B)
answer_pair (an.Good v) (an.Good w) = an.Good (v, w)
answer_pair (an.Good v) an.Typeless = an.Typeless
answer_pair (an.Good v) an.Faulty = an.Faulty
answer_pair an.Typeless (an.Good w) = an.Typeless
answer_pair an.Typeless an.Typeless = an.Typeless
answer_pair an.Typeless an.Faulty = an.Faulty
answer_pair an.Faulty b = an.Faulty

abbrev pub answer_asked : {A B : Type 0} → Answer A → (A → Judged B) → Judged (Unit {0}) → Answer B
answer_asked (an.Good v) rule plain = answer (rule v)
answer_asked an.Typeless rule plain = answer_map first (answer_pair an.Typeless (answer plain))
answer_asked an.Faulty rule plain = an.Faulty

abbrev pub faults_asked : {A B : Type 0} → Answer A → (A → Judged B) → Judged (Unit {0}) → List FaultAt
faults_asked (an.Good v) rule plain = faults (rule v)
faults_asked an.Typeless rule plain = faults plain
faults_asked an.Faulty rule plain = []

-- a list with one more
abbrev pub one_more : {A : Type 0} → List A × A → List A
one_more v = v.0 ++ v.1 ∷ []

abbrev pub answer_put : {A : Type 0} → Answer (List A) → Answer A → Answer (List A)
answer_put xs y = answer_map one_more (answer_pair xs y)

-- one before others
abbrev pub in_front : {A : Type 0} → A × List A → List A
in_front v = v.0 ∷ v.1

-- each of a list
unfoldable pub each : {A B : Type 0} → (A → Judged B) → List A → Judged (List B)
each f [] = Good []
each f (x ∷ xs) = map in_front (both (f x) (each f xs))

-- each of a list, where a state is handed on from one to the next
unfoldable pub each_after : {S A B : Type 0} → (S → A → Judged B) → (S → A → S) → S → List A → Judged (List B)
each_after f step s [] = Good []
each_after f step s (x ∷ xs) = map in_front (both (f s x) (each_after f step (step s x) xs))

-- the state after a list
unfoldable pub after_each : {S A : Type 0} → (S → A → S) → S → List A → S
after_each step s [] = s
after_each step s (x ∷ xs) = after_each step (step s x) xs
