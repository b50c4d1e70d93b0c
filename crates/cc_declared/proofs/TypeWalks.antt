-- The loops over the types of parameters.
use Rattle.std.proofs.Common.{◌≡◌, List, [], ◌∷◌, ◌++◌, Option, Result, Ok, Err, refl, sym, ap, ◌∙◌, append-nil}
use Rattle.cc_typed.specs.declared.types.DataType.{DataType}
use Rattle.cc_faults.specs.Declarations.{parameters, types_of}
use Rattle.cc_faults.specs.Faults.{noted}
use Rattle.cc_faults.specs.Judged.{faults, outcome, each, after_each}
use Rattle.cc_faults.specs.Rows.{few_cells, value_type}
use Rattle.cc_faults.specs.Scopes.{Scope}
use Rattle.cc_faults.specs.declared.fault.FaultAt.{FaultAt}
use Rattle.cc_faults.specs.declared.plain.Identifier.{Identifier}
use Rattle.cc_faults.specs.declared.plain.Parameter.{Parameter}
use Rattle.cc_faults.specs.declared.plain.TypeName.{TypeName}
use Rattle.cc_declared.specs.Lists.{and_put, faults_ruled, made_of, ruled}
use Rattle.cc_declared.specs.Walks.{Types, and_parameter_found, and_type_found}
use Rattle.cc_declared.proofs.Firsts.{noted-front, noted-ruled, nothing-before, outcome-checked, put-front}

module _ (s : Scope) where
  types-noted : (r : Result (List DataType) FaultAt) (m : Option FaultAt) (ts : List TypeName) → (after_each (and_type_found s) (r, m) ts).1 ≡ noted m (faults (each (value_type s) ts))
  unfolding after_each each faults noted
  types-noted r m [] = refl
  types-noted r m (t ∷ ts) =
      types-noted (and_put r (outcome (value_type s t))) (noted m (faults (value_type s t))) ts ∙ sym (noted-front m (value_type s t) (each (value_type s) ts))

  faulty-types : (g : FaultAt) (m : Option FaultAt) (ts : List TypeName) → (after_each (and_type_found s) (Err g, m) ts).0 ≡ Err g
  unfolding after_each and_put
  faulty-types g m [] = refl
  faulty-types g m (t ∷ ts) = faulty-types g (noted m (faults (value_type s t))) ts

  types-types : (all : List DataType) (m : Option FaultAt) (ts : List TypeName) → (after_each (and_type_found s) (Ok all, m) ts).0 ≡ made_of (λ (us : List DataType). all ++ us) (outcome (each (value_type s) ts))
  unfolding after_each each made_of
  types-types all m [] = ap Ok (sym (append-nil all))
  types-types all m (t ∷ ts) =
      let m1 = noted m (faults (value_type s t)) in
      put-front all (value_type s t) (each (value_type s) ts) (after_each (and_type_found s) (and_put (Ok all) (outcome (value_type s t)), m1) ts).0
      (λ g e. ap (λ r. (after_each (and_type_found s) (r, m1) ts).0) e ∙ faulty-types g m1 ts)
      (λ v e. ap (λ r. (after_each (and_type_found s) (r, m1) ts).0) e ∙ types-types (all ++ v ∷ []) m1 ts)

  pub same-walk : (w : Types) (ps : List Parameter) → after_each (and_parameter_found s) w ps ≡ after_each (and_type_found s) w (types_of ps)
  unfolding after_each
  same-walk w [] = refl
  same-walk w (p ∷ ps) = same-walk (and_type_found s w p.of) ps

  module _ (x : Identifier) (m : Option FaultAt) (ts : List TypeName) (types : Result (List DataType) FaultAt) (found : types ≡ (after_each (and_type_found s) (Ok [], m) ts).0) where
    types-found : types ≡ outcome (each (value_type s) ts)
    types-found = found ∙ types-types [] m ts ∙ nothing-before (outcome (each (value_type s) ts))

    pub parameters-found : (r : Result (List DataType) FaultAt) → r ≡ ruled types (λ (us : List DataType). outcome (few_cells s.structures x us)) → r ≡ outcome (parameters s x ts)
    parameters-found r e =
        e ∙ ap (λ u. ruled u (λ (us : List DataType). outcome (few_cells s.structures x us))) types-found ∙ sym (outcome-checked (each (value_type s) ts) (few_cells s.structures x))

    pub parameters-noted : (m1 m2 : Option FaultAt) → m1 ≡ (after_each (and_type_found s) (Ok [], m) ts).1 → m2 ≡ noted m1 (faults_ruled types (few_cells s.structures x)) → m2 ≡ noted m (faults (parameters s x ts))
    parameters-noted m1 m2 i j =
        j ∙ ap (λ n. noted n (faults_ruled types (few_cells s.structures x))) (i ∙ types-noted (Ok []) m ts)
        ∙ ap (λ u. noted (noted m (faults (each (value_type s) ts))) (faults_ruled u (few_cells s.structures x))) types-found
        ∙ sym (noted-ruled m (each (value_type s) ts) (few_cells s.structures x))
