-- The loop over the constants of an enumeration.
use Rattle.std.proofs.Common.{◌≡◌, ℤ, List, [], ◌∷◌, Option, Result, Ok, Err, refl, sym, ap, ◌∙◌}
use Rattle.cc_typed.specs.Types.{Int}
use Rattle.cc_typed.specs.declared.types.DataType.{DataType}
use Rattle.cc_faults.specs.Declarations.{after_constant, and_constant, constant, constant_in, constant_value, int_type}
use Rattle.cc_faults.specs.Faults.{noted}
use Rattle.cc_faults.specs.Judged.{Judged, Good, Bad, faults, outcome, map, both, in_front, each_after, after_each}
use Rattle.cc_faults.specs.Scopes.{Scope}
use Rattle.cc_faults.specs.declared.fault.FaultAt.{FaultAt}
use Rattle.cc_faults.specs.declared.plain.Constant.{Constant}
use Rattle.cc_declared.specs.Lists.{and_keep}
use Rattle.cc_declared.specs.Walks.{and_constant_found}
use Rattle.cc_declared.proofs.Firsts.{noted-front}

pub constants-after : (s : Scope) (b : Result ℤ FaultAt) (r : Result DataType FaultAt) (m : Option FaultAt) (cs : List Constant)
    → (after_each and_constant_found (s, b, r, m) cs).0 ≡ (after_each and_constant (s, b) cs).0
unfolding after_each
constants-after s b r m [] = refl
constants-after s b r m (c ∷ cs) =
    constants-after (after_constant s b c) (outcome (constant_value s b c)) (and_keep r (outcome (constant s b c))) (noted m (faults (constant s b c))) cs

pub constants-noted : (s : Scope) (b : Result ℤ FaultAt) (r : Result DataType FaultAt) (m : Option FaultAt) (cs : List Constant)
    → (after_each and_constant_found (s, b, r, m) cs).3 ≡ noted m (faults (each_after constant_in and_constant (s, b) cs))
unfolding after_each each_after faults noted
constants-noted s b r m [] = refl
constants-noted s b r m (c ∷ cs) =
    constants-noted (after_constant s b c) (outcome (constant_value s b c)) (and_keep r (outcome (constant s b c))) (noted m (faults (constant s b c))) cs
    ∙ sym (noted-front m (constant s b c) (each_after constant_in and_constant (and_constant (s, b) c) cs))

faulty-constants : (s : Scope) (b : Result ℤ FaultAt) (g : FaultAt) (m : Option FaultAt) (cs : List Constant) → (after_each and_constant_found (s, b, Err g, m) cs).2 ≡ Err g
unfolding after_each and_keep
faulty-constants s b g m [] = refl
faulty-constants s b g m (c ∷ cs) = faulty-constants (after_constant s b c) (outcome (constant_value s b c)) g (noted m (faults (constant s b c))) cs

keep-front : (j : Judged ℤ) (k : Judged (List ℤ)) (now : Result DataType FaultAt)
    → ((g : FaultAt) → and_keep (Ok Int) (outcome j) ≡ Err g → now ≡ Err g)
    → (and_keep (Ok Int) (outcome j) ≡ Ok Int → now ≡ outcome (map int_type k))
    → now ≡ outcome (map int_type (map in_front (both j k)))
unfolding and_keep map both
keep-front (Bad own g gs) (Good ws) now bad good = bad g refl
keep-front (Bad own g gs) (Bad also h hs) now bad good = bad g refl
keep-front (Good v) (Bad also h hs) now bad good = good refl
keep-front (Good v) (Good ws) now bad good = good refl

pub constants-found : (s : Scope) (b : Result ℤ FaultAt) (m : Option FaultAt) (cs : List Constant)
    → (after_each and_constant_found (s, b, Ok Int, m) cs).2 ≡ outcome (map int_type (each_after constant_in and_constant (s, b) cs))
unfolding after_each each_after map
constants-found s b m [] = refl
constants-found s b m (c ∷ cs) =
    let s1 = after_constant s b c in
    let b1 = outcome (constant_value s b c) in
    let m1 = noted m (faults (constant s b c)) in
    keep-front (constant s b c) (each_after constant_in and_constant (s1, b1) cs) (after_each and_constant_found (s1, b1, and_keep (Ok Int) (outcome (constant s b c)), m1) cs).2
    (λ g e. ap (λ r. (after_each and_constant_found (s1, b1, r, m1) cs).2) e ∙ faulty-constants s1 b1 g m1 cs)
    (λ e. ap (λ r. (after_each and_constant_found (s1, b1, r, m1) cs).2) e ∙ constants-found s1 b1 m1 cs)
