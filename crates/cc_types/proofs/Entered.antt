-- Functions and bodies, as the code goes through them.
use Rattle.std.proofs.Common.{◌≡◌, ℕ, Bool, true, false, List, [], length, Option, Result, ap, sym, subst, ◌∙◌}
use Rattle.std.specs.Prelude.{if◌then◌else◌}
use Rattle.cc_typed.specs.declared.types.DataType.{DataType}
use Rattle.cc_declared.proofs.Firsts.{outcome-map}
use Rattle.cc_declared.proofs.Laws.{undone-nil}
use Rattle.cc_declared.specs.Lists.{made_of}
use Rattle.cc_declared.specs.Undone.{undone}
use Rattle.cc_declared.specs.declared.names.Hidden.{Hidden}
use Rattle.cc_faults.proofs.Judged.{faults-map, noted-both}
use Rattle.cc_faults.specs.Declarations.{items_scope, signature}
use Rattle.cc_faults.specs.Faults.{noted}
use Rattle.cc_faults.specs.Judged.{Judged, answer, both, faults, map, outcome}
use Rattle.cc_faults.specs.Programs.{after_body as scope_after_body, body_made, body_role, body_types, few_for_main, function_made, in_body, in_function, kind_of_body, names_in, names_once, result_of, role_of, with_sites}
use Rattle.cc_faults.specs.Rows.{fresh, with_specification}
use Rattle.cc_faults.specs.Scopes.{Scope, Text, entry_at, is_here, meaning_at, outermost}
use Rattle.cc_faults.specs.declared.fault.FaultAt.{FaultAt}
use Rattle.cc_faults.specs.declared.plain.Identifier.{Identifier}
use Rattle.cc_faults.specs.declared.plain.Parameter.{Parameter}
use Rattle.cc_faults.specs.declared.plain.Statement.{Statement}
use Rattle.cc_faults.specs.declared.plain.TypeName.{TypeName}
use Rattle.cc_faults.specs.declared.scope.Role.{Role}
use Rattle.cc_faults.specs.declared.scope.Role.TheVariants as role
use Rattle.cc_faults.specs.declared.scope.Signature.{Signature}
use Rattle.cc_types.proofs.Judging.{after_in-is}
use Rattle.cc_types.proofs.Makings.{body-makes, function-makes}
use Rattle.cc_types.proofs.Stays.{Adds, IsNoBody, behind-block, behind-function, entered-body, entered-function}
use Rattle.cc_types.specs.Making.{Makes, with_body, with_function}
use Rattle.cc_types.specs.Passing.{after_block, block_judged, body_judged, function_judged, is_main, role_with}
use Rattle.cc_types.specs.declared.made.Block.{Block}
use Rattle.cc_types.specs.declared.made.Made.{Made}

-- what is noted of two parts, one after the other
noted-parts : {A B C : Type 0} (f : A × B → C) (j : Judged A) (k : Judged B) (m n o : Option FaultAt) → n ≡ noted m (faults j) → o ≡ noted n (faults k) → o ≡ noted m (faults (map f (both j k)))
noted-parts f j k m n o h i =
    i ∙ ap (λ z. noted z (faults k)) h ∙ sym (ap (noted m) (faults-map f (both j k)) ∙ noted-both m j k)

-- names that mean again what they did
names-again : (hidden none : List Hidden) (entered s : Scope) → none ≡ [] → undone hidden entered.names ≡ undone none s.names → undone hidden entered.names ≡ s.names
names-again hidden none entered s e h = h ∙ ap (λ hs. undone hs s.names) e ∙ undone-nil s.names

no-body : (b : Bool) (u : Result DataType FaultAt) → IsNoBody (if b then role.Main u else role.Function u)
no-body true u = tt
no-body false u = tt

module _ (t : Text) (s : Scope) (x : Identifier) (xs : List Statement) where
  module _ (of : TypeName) (ps : List Parameter) (head : Result Signature FaultAt) (r : Role) (entered : Scope) where
    role-is : head ≡ outcome (signature s x of ps) → r ≡ role_with x (made_of result_of head) → r ≡ role_of s of x ps
    role-is h e =
        e ∙ ap (λ o. role_with x (made_of result_of o)) h ∙ ap (role_with x) (sym (outcome-map result_of (signature s x of ps)))

    pub function-adds : (m : Made) (n : ℕ) (b : Block) → n ≡ length ps → head ≡ outcome (signature s x of ps) → r ≡ role_with x (made_of result_of head) → entered ≡ in_function s ps
        → b.body ≡ answer (block_judged t r entered xs) → b.variables ≡ (after_block t r entered xs).variables
        → Makes m (function_judged t s of x ps xs) (with_function m (is_main x) n head b)
    unfolding function_judged
    function-adds m n b hn h e i f g = λ v good.
        let q = role-is h e in
        ap (λ k. with_function m (is_main x) k head b) hn
        ∙ function-makes m (length ps) x b (after_block t (role_of s of x ps) (in_function s ps) xs).variables (block_judged t (role_of s of x ps) (in_function s ps) xs)
        head (fresh (is_here items_scope (meaning_at s x)) x) (signature s x of ps) (both (few_for_main x (length ps)) (names_once (names_in ps)))
        (sym h)
        (f ∙ ap (λ z. answer (block_judged t z entered xs)) q ∙ ap (λ z. answer (block_judged t (role_of s of x ps) z xs)) i)
        (g ∙ ap (λ z. (after_block t z entered xs).variables) q ∙ ap (λ z. (after_block t (role_of s of x ps) z xs).variables) i)
        v good

    pub function-notes : (m n o : Option FaultAt) → head ≡ outcome (signature s x of ps) → r ≡ role_with x (made_of result_of head) → entered ≡ in_function s ps
        → n ≡ noted m (faults (both (fresh (is_here items_scope (meaning_at s x)) x) (both (signature s x of ps) (both (few_for_main x (length ps)) (names_once (names_in ps))))))
        → o ≡ noted n (faults (block_judged t r entered xs))
        → o ≡ noted m (faults (function_judged t s of x ps xs))
    unfolding function_judged
    function-notes m n o h e i f g =
        let q = role-is h e in
        noted-parts (function_made (length ps) x (after_block t (role_of s of x ps) (in_function s ps) xs).variables)
        (both (fresh (is_here items_scope (meaning_at s x)) x) (both (signature s x of ps) (both (few_for_main x (length ps)) (names_once (names_in ps)))))
        (block_judged t (role_of s of x ps) (in_function s ps) xs) m n o f
        (g ∙ ap (λ z. noted n (faults (block_judged t z entered xs))) q ∙ ap (λ z. noted n (faults (block_judged t (role_of s of x ps) z xs))) i)

    pub function-behind : (hidden none : List Hidden) (after : Scope) → s.variables ≡ [] → r ≡ role_with x (made_of result_of head) → entered ≡ in_function s ps
        → none ≡ [] → undone hidden entered.names ≡ undone none s.names
        → after ≡ record (after_block t r entered xs) { names = undone hidden entered.names; variables = [] } → after ≡ s
    function-behind hidden none after out e i hn names f =
        f ∙ ap (λ ns. record (after_block t r entered xs) { names = ns; variables = [] }) (names-again hidden none entered s hn names)
        ∙ behind-function t r s entered xs (subst (Adds s) (sym i) (entered-function s ps)) out (subst IsNoBody (sym e) (no-body (is_main x) (made_of result_of head)))

  module _ (names : List Identifier) (types : Result (List DataType) FaultAt) (number : Option ℕ) (r : Role) (entered : Scope) where
    body-role-is : number ≡ entry_at s.processes_named x → r ≡ role.Body (outcome (with_specification x number)) → r ≡ body_role t s x
    body-role-is h e = e ∙ ap (λ o. role.Body (outcome (with_specification x o))) h

    pub body-adds : (taken : Bool) (m : Made) (n : ℕ) (b : Block) → n ≡ length names → number ≡ entry_at s.processes_named x → r ≡ role.Body (outcome (with_specification x number))
        → entered ≡ in_body s (body_types t s x (length names)) names
        → b.body ≡ answer (block_judged t r entered xs) → b.variables ≡ (after_block t r entered xs).variables
        → Makes m (body_judged t taken s x names xs) (with_body m number n b)
    unfolding body_judged
    body-adds taken m n b hn h e i f g = λ v good.
        let q = body-role-is h e in
        let inside = in_body s (body_types t s x (length names)) names in
        ap (λ k. with_body m number k b) hn ∙ ap (λ o. with_body m o (length names) b) h
        ∙ body-makes m (length names) x b (after_block t (body_role t s x) inside xs).variables (block_judged t (body_role t s x) inside xs)
        (entry_at s.processes_named x) (fresh taken x) (body_types t s x (length names)) (names_once names)
        (f ∙ ap (λ z. answer (block_judged t z entered xs)) q ∙ ap (λ z. answer (block_judged t (body_role t s x) z xs)) i)
        (g ∙ ap (λ z. (after_block t z entered xs).variables) q ∙ ap (λ z. (after_block t (body_role t s x) z xs).variables) i)
        v good

    pub body-notes : (taken : Bool) (m n o : Option FaultAt) → number ≡ entry_at s.processes_named x → r ≡ role.Body (outcome (with_specification x number))
        → entered ≡ in_body s (body_types t s x (length names)) names
        → n ≡ noted m (faults (both (fresh taken x) (both (both (kind_of_body t s x) (body_types t s x (length names))) (names_once names))))
        → o ≡ noted n (faults (block_judged t r entered xs))
        → o ≡ noted m (faults (body_judged t taken s x names xs))
    unfolding body_judged
    body-notes taken m n o h e i f g =
        let q = body-role-is h e in
        let inside = in_body s (body_types t s x (length names)) names in
        noted-parts (body_made (length names) (after_block t (body_role t s x) inside xs).variables)
        (both (fresh taken x) (both (both (kind_of_body t s x) (body_types t s x (length names))) (names_once names)))
        (block_judged t (body_role t s x) inside xs) m n o f
        (g ∙ ap (λ z. noted n (faults (block_judged t z entered xs))) q ∙ ap (λ z. noted n (faults (block_judged t (body_role t s x) z xs))) i)

    pub body-behind : (hidden none : List Hidden) (after : Scope) → s.variables ≡ [] → number ≡ entry_at s.processes_named x → r ≡ role.Body (outcome (with_specification x number))
        → entered ≡ in_body s (body_types t s x (length names)) names
        → none ≡ [] → undone hidden entered.names ≡ undone none s.names
        → after ≡ record (after_block t r entered xs) { names = undone hidden entered.names; variables = [] }
        → after ≡ with_sites s (scope_after_body t s x names xs)
    body-behind hidden none after out h e i hn again f =
        let q = body-role-is h e in
        let inside = in_body s (body_types t s x (length names)) names in
        f ∙ ap (λ ns. record (after_block t r entered xs) { names = ns; variables = [] }) (names-again hidden none entered s hn again)
        ∙ behind-block t r s entered xs (subst (Adds s) (sym i) (entered-body s (body_types t s x (length names)) names)) out
        ∙ ap (λ z. with_sites s (after_block t z entered xs)) q ∙ ap (λ z. with_sites s (after_block t (body_role t s x) z xs)) i
        ∙ ap (with_sites s) (sym (after_in-is t (outermost (body_role t s x)) inside xs))
