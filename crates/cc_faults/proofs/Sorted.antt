-- The first of the faults that were noted is the first of the sorted list.
use Rattle.std.proofs.Common.{◌≡◌, ◌⊎◌, inl, inr, ℕ, Bool, true, false, not, nat_eq, nat_lt, if◌then◌else◌, List, [], ◌∷◌, Option, Some, None, refl, ap, sym, ◌∙◌, arith}
use Rattle.std.proofs.lemmas.Bool.Decides.{nat_tests}
use Rattle.cc_faults.specs.Faults.{before, earlier, noted, number_of}
use Rattle.cc_faults.specs.Judged.{Judged, Good, Bad, answer, faults, found}
use Rattle.cc_faults.specs.Sorted.{first, insert, sorted, IsAmong, IsInOrder, MeansOrFails, Rises, RisesFrom}
use Rattle.cc_faults.specs.declared.fault.FaultAt.{FaultAt}
use Rattle.cc_faults.specs.declared.fault.TypeKind.{TypeKind}
use Rattle.cc_faults.specs.declared.fault.TypeKind.TheVariants as kind

abbrev lex : ℕ → ℕ → ℕ → ℕ → ℕ → ℕ → Bool
lex a b c x y z = if not (nat_eq a x) then nat_lt a x else if not (nat_eq b y) then nat_lt b y else nat_lt c z

lex-one : (a b c x y z : ℕ) → lex a b c x y z ≡ true → lex x y z a b c ≡ false
lex-one a b c x y z e = grind (arith, nat_tests)

lex-three : (a b c x y z p q r : ℕ) → lex a b c x y z ≡ true → lex x y z p q r ≡ true → lex a b c p q r ≡ true
lex-three a b c x y z p q r e f = grind (arith, nat_tests)

lex-tie : (a b c x y z : ℕ) → lex a b c x y z ≡ false → lex x y z a b c ≡ false → (a ≡ x) × (b ≡ y) × (c ≡ z)
lex-tie a b c x y z e f = (grind (arith, nat_tests), grind (arith, nat_tests), grind (arith, nat_tests))

kind_of : ℕ → TypeKind
kind_of n =
    if nat_eq n 1 then kind.NoMain
    else if nat_eq n 2 then kind.Duplicate
    else if nat_eq n 3 then kind.UnknownName
    else if nat_eq n 4 then kind.UnknownType
    else if nat_eq n 5 then kind.VoidHere
    else if nat_eq n 6 then kind.BadLength
    else if nat_eq n 7 then kind.EnumRange
    else if nat_eq n 8 then kind.LargeType
    else if nat_eq n 9 then kind.ManyCells
    else if nat_eq n 10 then kind.NoBody
    else if nat_eq n 11 then kind.NoSpec
    else if nat_eq n 12 then kind.BodyNames
    else if nat_eq n 13 then kind.Arity
    else if nat_eq n 14 then kind.Mismatch
    else if nat_eq n 15 then kind.NotAPlace
    else if nat_eq n 16 then kind.NotAFunction
    else if nat_eq n 17 then kind.NotAValue
    else if nat_eq n 18 then kind.UnknownField
    else if nat_eq n 19 then kind.UnknownTransaction
    else if nat_eq n 20 then kind.AcceptPlace
    else if nat_eq n 21 then kind.TreturnPlace
    else if nat_eq n 22 then kind.LoopPlace
    else if nat_eq n 23 then kind.LeavesAccept
    else if nat_eq n 24 then kind.ValueHere
    else if nat_eq n 25 then kind.NotPure
    else if nat_eq n 26 then kind.PureTooDeep
    else if nat_eq n 27 then kind.NotTimed
    else kind.BadFormat

of-number : (k : TypeKind) → kind_of (number_of k) ≡ k
unfolding kind_of
of-number kind.NoMain = refl
of-number kind.Duplicate = refl
of-number kind.UnknownName = refl
of-number kind.UnknownType = refl
of-number kind.VoidHere = refl
of-number kind.BadLength = refl
of-number kind.EnumRange = refl
of-number kind.LargeType = refl
of-number kind.ManyCells = refl
of-number kind.NoBody = refl
of-number kind.NoSpec = refl
of-number kind.BodyNames = refl
of-number kind.Arity = refl
of-number kind.Mismatch = refl
of-number kind.NotAPlace = refl
of-number kind.NotAFunction = refl
of-number kind.NotAValue = refl
of-number kind.UnknownField = refl
of-number kind.UnknownTransaction = refl
of-number kind.AcceptPlace = refl
of-number kind.TreturnPlace = refl
of-number kind.LoopPlace = refl
of-number kind.LeavesAccept = refl
of-number kind.ValueHere = refl
of-number kind.NotPure = refl
of-number kind.PureTooDeep = refl
of-number kind.NotTimed = refl
of-number kind.BadFormat = refl

same-kind : (j k : TypeKind) → number_of j ≡ number_of k → j ≡ k
same-kind j k e = sym (of-number j) ∙ ap kind_of e ∙ of-number k

pub one-way : (f g : FaultAt) → before f g ≡ true → before g f ≡ false
one-way f g e = lex-one f.place.line f.place.column (number_of f.kind) g.place.line g.place.column (number_of g.kind) e

pub through : (f g h : FaultAt) → before f g ≡ true → before g h ≡ true → before f h ≡ true
through f g h e i = lex-three f.place.line f.place.column (number_of f.kind) g.place.line g.place.column (number_of g.kind) h.place.line h.place.column (number_of h.kind) e i

abbrev made : ℕ → ℕ → TypeKind → FaultAt
made l c k = record { place = record { line = l; column = c }; kind = k }

pub tie : (f g : FaultAt) → before f g ≡ false → before g f ≡ false → f ≡ g
tie f g e i =
    let same = lex-tie f.place.line f.place.column (number_of f.kind) g.place.line g.place.column (number_of g.kind) e i in
    ap (λ (n : ℕ). made n f.place.column f.kind) same.0
    ∙ ap (λ (n : ℕ). made g.place.line n f.kind) same.1
    ∙ ap (λ (k : TypeKind). made g.place.line g.place.column k) (same-kind f.kind g.kind same.2)

-- the earlier of a fault and of one that may be missing
least_of : FaultAt → Option FaultAt → FaultAt
least_of g None = g
least_of g (Some h) = if before h g then h else g

with_first : FaultAt → Option FaultAt → FaultAt
with_first f None = f
with_first f (Some h) = if before f h then f else h

insert-cases : (f g : FaultAt) (gs rest : List FaultAt) (a b : Bool) → first (if a then f ∷ g ∷ gs else if b then g ∷ rest else g ∷ gs) ≡ Some (if a then f else g)
unfolding first
insert-cases f g gs rest true b = refl
insert-cases f g gs rest false true = refl
insert-cases f g gs rest false false = refl

first-insert : (f : FaultAt) (xs : List FaultAt) → first (insert f xs) ≡ Some (with_first f (first xs))
unfolding with_first first
first-insert f [] = refl
first-insert f (g ∷ gs) = insert-cases f g gs (insert f gs) (before f g) (before g f)

push : (h f g : FaultAt) (b : Bool) → before h (if b then f else g) ≡ (if b then before h f else before h g)
push h f g true = refl
push h f g false = refl

pull : (h f g : FaultAt) (b : Bool) → before (if b then f else h) g ≡ (if b then before f g else before h g)
pull h f g true = refl
pull h f g false = refl

step-cases : (f g h : FaultAt) (fg fh hf hg : Bool) → before f g ≡ fg → before f h ≡ fh → before h f ≡ hf → before h g ≡ hg
    → (if (if fg then hf else hg) then h else (if fg then f else g)) ≡ (if (if fh then fg else hg) then (if fh then f else h) else g)
step-cases f g h true true true hg a b c d = absurd (cc (one-way f h b))
step-cases f g h true true false hg a b c d = refl
step-cases f g h true false true true a b c d = refl
step-cases f g h true false true false a b c d = absurd (cc (through h f g c a))
step-cases f g h true false false true a b c d = tie f h b c
step-cases f g h true false false false a b c d = absurd (cc (tie f h b c))
step-cases f g h false true hf true a b c d = absurd (cc (through f h g b d))
step-cases f g h false true hf false a b c d = refl
step-cases f g h false false hf true a b c d = refl
step-cases f g h false false hf false a b c d = refl

step : (g f : FaultAt) (x : Option FaultAt) → least_of (earlier (Some g) f) x ≡ least_of g (Some (with_first f x))
unfolding least_of with_first
step g f None = refl
step g f (Some h) =
    ap (λ (b : Bool). if b then h else (if before f g then f else g)) (push h f g (before f g))
    ∙ step-cases f g h (before f g) (before f h) (before h f) (before h g) refl refl refl refl
    ∙ sym (ap (λ (b : Bool). if b then (if before f h then f else h) else g) (pull h f g (before f h)))

noted-least : (g : FaultAt) (fs : List FaultAt) → noted (Some g) fs ≡ Some (least_of g (first (sorted fs)))
unfolding noted sorted least_of first
noted-least g [] = refl
noted-least g (f ∷ fs) =
    noted-least (earlier (Some g) f) fs
    ∙ ap (λ x. Some x) (step g f (first (sorted fs)))
    ∙ sym (ap (λ x. Some (least_of g x)) (first-insert f (sorted fs)))

least-cases : (f h : FaultAt) (hf fh : Bool) → before h f ≡ hf → before f h ≡ fh → (if hf then h else f) ≡ (if fh then f else h)
least-cases f h true true a b = absurd (cc (one-way f h b))
least-cases f h true false a b = refl
least-cases f h false true a b = refl
least-cases f h false false a b = tie f h b a

same-least : (f : FaultAt) (x : Option FaultAt) → least_of f x ≡ with_first f x
unfolding least_of with_first
same-least f None = refl
same-least f (Some h) = least-cases f h (before h f) (before f h) refl refl

noted-first : (fs : List FaultAt) → noted None fs ≡ first (sorted fs)
unfolding noted sorted first
noted-first [] = refl
noted-first (f ∷ fs) =
    noted-least f fs
    ∙ ap (λ x. Some x) (same-least f (first (sorted fs)))
    ∙ sym (first-insert f (sorted fs))

pub first-sorted : (fs : List FaultAt) → first (sorted fs) ≡ noted None fs
first-sorted fs = sym (noted-first fs)

pub good-sorted : {A : Type 0} (j : Judged A) (v : A) → found j ≡ Some v → sorted (faults j) ≡ []
unfolding answer faults sorted
good-sorted (Good w) v e = refl
good-sorted (Bad true f fs) v e = absurd (cc)
good-sorted (Bad false f fs) v e = absurd (cc)

pub ruleset verdicts = (first-sorted, good-sorted)

-- ---- the list in order rises
rises-from-cases : (g f h : FaultAt) (hs rest : List FaultAt) (a b : Bool) → before f h ≡ a → before h f ≡ b → before g f ≡ true → before g h ≡ true → RisesFrom h hs
    → (before h f ≡ true → RisesFrom h rest) → RisesFrom g (if a then f ∷ h ∷ hs else if b then h ∷ rest else h ∷ hs)
rises-from-cases g f h hs rest true b i j e k r go = (e, (i, r))
rises-from-cases g f h hs rest false true i j e k r go = (k, go j)
rises-from-cases g f h hs rest false false i j e k r go = (k, r)

insert-rises-from : (g f : FaultAt) (gs : List FaultAt) → before g f ≡ true → RisesFrom g gs → RisesFrom g (insert f gs)
insert-rises-from g f [] e r = (e, tt)
insert-rises-from g f (h ∷ hs) e r =
    rises-from-cases g f h hs (insert f hs) (before f h) (before h f) refl refl e r.0 r.1 (λ i. insert-rises-from h f hs i r.1)

rises-cases : (f h : FaultAt) (hs rest : List FaultAt) (a b : Bool) → before f h ≡ a → before h f ≡ b → RisesFrom h hs
    → (before h f ≡ true → RisesFrom h rest) → Rises (if a then f ∷ h ∷ hs else if b then h ∷ rest else h ∷ hs)
rises-cases f h hs rest true b i j r go = (i, r)
rises-cases f h hs rest false true i j r go = go j
rises-cases f h hs rest false false i j r go = r

insert-rises : (f : FaultAt) (gs : List FaultAt) → Rises gs → Rises (insert f gs)
insert-rises f [] r = tt
insert-rises f (h ∷ hs) r =
    rises-cases f h hs (insert f hs) (before f h) (before h f) refl refl r (λ i. insert-rises-from h f hs i r)

sorted-rises : (fs : List FaultAt) → Rises (sorted fs)
unfolding sorted
sorted-rises [] = tt
sorted-rises (f ∷ fs) = insert-rises f (sorted fs) (sorted-rises fs)

-- ---- and has the faults that were found
behind-other : (x f h : FaultAt) (hs : List FaultAt) → (f ≡ x) ⊎ IsAmong x hs → (f ≡ x) ⊎ IsAmong x (h ∷ hs)
behind-other x f h hs (inl e) = inl e
behind-other x f h hs (inr m) = inr (inr m)

past : (x f h : FaultAt) (hs rest : List FaultAt) → (IsAmong x rest → (f ≡ x) ⊎ IsAmong x hs) → IsAmong x (h ∷ rest) → (f ≡ x) ⊎ IsAmong x (h ∷ hs)
past x f h hs rest go (inl e) = inr (inl e)
past x f h hs rest go (inr m) = behind-other x f h hs (go m)

into : (x f h : FaultAt) (hs rest : List FaultAt) → ((f ≡ x) ⊎ IsAmong x hs → IsAmong x rest) → (f ≡ x) ⊎ IsAmong x (h ∷ hs) → IsAmong x (h ∷ rest)
into x f h hs rest go (inl e) = inr (go (inl e))
into x f h hs rest go (inr (inl e)) = inl e
into x f h hs rest go (inr (inr m)) = inr (go (inr m))

same-one : (x f h : FaultAt) (hs : List FaultAt) → f ≡ h → (f ≡ x) ⊎ IsAmong x (h ∷ hs) → IsAmong x (h ∷ hs)
same-one x f h hs same (inl e) = inl (sym same ∙ e)
same-one x f h hs same (inr m) = m

out-cases : (x f h : FaultAt) (hs rest : List FaultAt) (a b : Bool) → (IsAmong x rest → (f ≡ x) ⊎ IsAmong x hs)
    → IsAmong x (if a then f ∷ h ∷ hs else if b then h ∷ rest else h ∷ hs) → (f ≡ x) ⊎ IsAmong x (h ∷ hs)
out-cases x f h hs rest true b go m = m
out-cases x f h hs rest false true go m = past x f h hs rest go m
out-cases x f h hs rest false false go m = inr m

in-cases : (x f h : FaultAt) (hs rest : List FaultAt) (a b : Bool) → before f h ≡ a → before h f ≡ b → ((f ≡ x) ⊎ IsAmong x hs → IsAmong x rest)
    → (f ≡ x) ⊎ IsAmong x (h ∷ hs) → IsAmong x (if a then f ∷ h ∷ hs else if b then h ∷ rest else h ∷ hs)
in-cases x f h hs rest true b i j go m = m
in-cases x f h hs rest false true i j go m = into x f h hs rest go m
in-cases x f h hs rest false false i j go m = same-one x f h hs (tie f h i j) m

out-of-insert : (x f : FaultAt) (gs : List FaultAt) → IsAmong x (insert f gs) → (f ≡ x) ⊎ IsAmong x gs
out-of-insert x f [] m = m
out-of-insert x f (h ∷ hs) m = out-cases x f h hs (insert f hs) (before f h) (before h f) (out-of-insert x f hs) m

in-insert : (x f : FaultAt) (gs : List FaultAt) → (f ≡ x) ⊎ IsAmong x gs → IsAmong x (insert f gs)
in-insert x f [] m = m
in-insert x f (h ∷ hs) m = in-cases x f h hs (insert f hs) (before f h) (before h f) refl refl (in-insert x f hs) m

either-out : (x f : FaultAt) (gs fs : List FaultAt) → (IsAmong x gs → IsAmong x fs) → (f ≡ x) ⊎ IsAmong x gs → IsAmong x (f ∷ fs)
either-out x f gs fs go (inl e) = inl e
either-out x f gs fs go (inr m) = inr (go m)

out-of-sorted : (x : FaultAt) (fs : List FaultAt) → IsAmong x (sorted fs) → IsAmong x fs
unfolding sorted
out-of-sorted x [] m = m
out-of-sorted x (f ∷ fs) m = either-out x f (sorted fs) fs (out-of-sorted x fs) (out-of-insert x f (sorted fs) m)

in-sorted : (x : FaultAt) (fs : List FaultAt) → IsAmong x fs → IsAmong x (sorted fs)
unfolding sorted
in-sorted x [] m = m
in-sorted x (f ∷ fs) m = in-insert x f (sorted fs) (either-out x f fs (sorted fs) (in-sorted x fs) m)

pub in-order : (fs : List FaultAt) → IsInOrder fs
in-order fs = (sorted-rises fs, λ x. (out-of-sorted x fs, in-sorted x fs))

pub means-or-fails : {A : Type 0} (j : Judged A) → MeansOrFails j
unfolding answer faults sorted
means-or-fails (Good v) = inl (v, refl, refl)
means-or-fails (Bad true f fs) = inr (with_first f (first (sorted fs)), refl, first-insert f (sorted fs))
means-or-fails (Bad false f fs) = inr (with_first f (first (sorted fs)), refl, first-insert f (sorted fs))
