-- An accept without a fault: its site is typed, and its block stands in it.
use Rattle.std.proofs.Common.{◌≡◌, ℕ, suc, ◌+◌, ◌≤◌, Bool, true, false, ◌&&◌, List, [], ◌∷◌, ◌++◌, length, Option, Some, None, Ok, refl, ap, sym, subst, ◌∙◌, length-append, arith}
use Rattle.std.proofs.lemmas.Bool.{and_from, eq-eqb, le-leb}
use Rattle.std.specs.List.{list_all}
use Rattle.std.specs.Prelude.{if◌then◌else◌, slice_get}
use Rattle.cc_typed.specs.Accepts.{sites_of_body}
use Rattle.cc_typed.specs.KnownTypes.{is_process_type}
use Rattle.cc_typed.specs.Missing.{parameters_at, transaction_at, value_type_at, variables_of}
use Rattle.cc_typed.specs.Parts.{Parts}
use Rattle.cc_typed.specs.Typed.{Surroundings, have_types_from, in_accept, is_accepted, is_environment, is_kind, is_of_kind, is_typed_site, is_typed_statement}
use Rattle.cc_typed.specs.declared.tree.AcceptPart.{AcceptPart}
use Rattle.cc_typed.specs.declared.tree.Statement.{Statement as TypedStatement}
use Rattle.cc_typed.specs.declared.types.DataType.{DataType}
use Rattle.cc_typed.specs.declared.types.DataType.TheVariants.{Void}
use Rattle.cc_faults.proofs.Holds.{Holds, holds-map, holds-weaker}
use Rattle.cc_faults.specs.Judged.{Judged, Good, Bad, both, checked, known, map, mapped, outcome}
use Rattle.cc_faults.specs.Scopes.{Scope, Text, from_accept}
use Rattle.cc_faults.specs.Statements.{Head, accept_head, around_block, before_block, head_of, in_names, is_by, is_such_that, kind_of, names_of_accept, parameter_types, part_made, site_of, transaction_accepted, value_back_of, with_site}
use Rattle.cc_faults.specs.declared.plain.AcceptHead.{AcceptHead}
use Rattle.cc_faults.specs.declared.scope.Around.{Around}
use Rattle.cc_faults.specs.declared.scope.Leaves.{Leaves}
use Rattle.cc_faults.specs.declared.scope.Leaves.TheVariants as leaves
use Rattle.cc_faults.specs.declared.scope.Role.{Role}
use Rattle.cc_faults.specs.declared.scope.Role.TheVariants as role
use Rattle.cc_faults.specs.declared.scope.Signature.{Signature}
use Rattle.cc_faults.specs.declared.scope.TransactionHead.{TransactionHead}
use Rattle.cc_sound.proofs.Accepts.{IsAcceptHead, accept_head-typed, names-add, names-sites}
use Rattle.cc_sound.proofs.After.{in_names-go}
use Rattle.cc_sound.proofs.Clauses.{AreClauses, clause-of, clauses-typed, environment-typed, parameters-there}
use Rattle.cc_sound.proofs.Growth.{all-append, front-length, get-more}
use Rattle.cc_sound.proofs.Heads.{front-get}
use Rattle.cc_sound.proofs.Rows.{found-Good, holds-found}
use Rattle.cc_sound.specs.Fits.{Inside, IsFront, LeavesStand, RoleStands, Stands, transaction_with}
use Rattle.cc_sound.specs.Formed.{are_formed_clauses, are_once}
use Rattle.cc_sound.specs.Typing.{IsSound, counted}

-- both, where the second is looked at only where the first is good
pub holds-after : {A B : Type 0} (P : A → Type 0) (Q : A → B → Type 0) (j : Judged A) (k : Judged B) → Holds P j → ((v : A) → j ≡ Good v → P v → Holds (Q v) k) → Holds (λ v. P v.0 × Q v.0 v.1) (both j k)
unfolding both
holds-after P Q (Good v) (Good w) h go = (h, go v refl h)
holds-after P Q (Good v) (Bad also g gs) h go = tt
holds-after P Q (Bad own f fs) (Good w) h go = tt
holds-after P Q (Bad own f fs) (Bad also g gs) h go = tt

-- ---- the body's kind

abbrev IsBody : Parts → Option ℕ → List DataType → ℕ → Type 0
IsBody p kind variables k =
    (kind ≡ Some k) × (is_process_type p k ≡ true) × (variables_of (slice_get p.kinds k) ≡ variables)

body-of : (p : Parts) (kind : Option ℕ) (result : Option DataType) (variables : List DataType) (r : Role) → RoleStands p kind result variables r → (k : ℕ) → r ≡ role.Body (Ok k) → IsBody p kind variables (kind_of r)
body-of p kind result variables r h k e =
    let i = subst (RoleStands p kind result variables) e h in
    subst (λ (q : Role). IsBody p kind variables (kind_of q)) (sym e) (i.0, i.2, i.3)

value-back : (h : TransactionHead) (g : Signature) → h.signature ≡ Ok g → (h.is_async ≡ true → g.result ≡ Void) → outcome (value_back_of h) ≡ Ok g.result
unfolding map
value-back h g e go = cases h.is_async refl
  where
    cases : (b : Bool) → h.is_async ≡ b → outcome (if b then Good Void else map (λ (x : Signature). x.result) (known h.signature)) ≡ Ok g.result
    cases true f = ap (λ u. Ok u) (sym (go f))
    cases false f = ap (λ o. outcome (map (λ (x : Signature). x.result) (known o))) e

leaves-stand : (l : Leaves) → LeavesStand false (from_accept l)
leaves-stand leaves.Nothing = tt
leaves-stand leaves.Inside = tt
leaves-stand leaves.Outside = tt

module _ (t : Text) (w : Around) (s : Scope) (a : Surroundings) (stands : Stands t w a) (inside : Inside t a.parts s) (h : AcceptHead) where
  -- the surroundings of the clauses of an accept in this body
  abbrev around_clauses : Surroundings
  around_clauses =
      record { parts = a.parts; variables = variables_of (slice_get a.parts.kinds (kind_of w.role)); kind = Some (kind_of w.role); result = None; replies = None; may_break = false; may_continue = false }

  -- a head: its transaction, as many names, each once, and its clauses
  abbrev pub IsNamed : (TransactionHead × Signature) × List (Unit {0}) → Type 0
  IsNamed v = IsAcceptHead t w h v.0 × ((in_names t w s h).variables ≡ s.variables ++ v.0.1.parameters)

  abbrev pub IsHead : Head → Type 0
  IsHead v = IsNamed v.0 × AreClauses around_clauses h.clauses v.1

  names-known : (v : TransactionHead × Signature) → accept_head t w h ≡ Good v → IsAcceptHead t w h v → Holds (λ u. (in_names t w s h).variables ≡ s.variables ++ v.1.parameters) (names_of_accept (suc w.scope) (map parameter_types (accept_head t w h)) 0 s h.names)
  unfolding map
  names-known v e i =
      let many = i.1 in
      names-add (suc w.scope) (map parameter_types (accept_head t w h)) v.1.parameters (ap (map parameter_types) e) 0 s h.names (omega (arith, many))

  body-here : (v : TransactionHead × Signature) → IsAcceptHead t w h v → IsBody a.parts a.kind a.variables (kind_of w.role)
  body-here v i = body-of a.parts a.kind a.result a.variables w.role stands.role i.0.0.0 i.0.0.1

  transaction-here : (v : TransactionHead × Signature) → IsAcceptHead t w h v → slice_get a.parts.transactions v.0.number ≡ Some (transaction_with (kind_of w.role) v.0 v.1)
  transaction-here v i =
      stands.whole.transactions i.0.0.0 h.name.name v.0 v.1 i.0.0.2 i.0.1
      ∙ ap (λ k. Some (transaction_with k v.0 v.1)) (sym (ap kind_of i.0.0.1))

  head-typed : are_formed_clauses (length t.formats) h.clauses ≡ true → IsFront (in_names t w s h).variables a.variables → Holds IsHead (head_of t w s h)
  head-typed form front =
      holds-after IsNamed (λ v cs. AreClauses around_clauses h.clauses cs) _ _
      (holds-after (IsAcceptHead t w h) (λ v u. (in_names t w s h).variables ≡ s.variables ++ v.1.parameters) _ _ (accept_head-typed t w h) names-known)
      (λ v e i. clauses-typed t (in_names t w s h) w around_clauses stands.whole ((in_names-go t a.parts stands.whole w s h).1 inside).0 (subst (λ l. IsFront (in_names t w s h).variables l) (sym (body-here v.0 i.0).2) front) h.clauses form)

  site-typed : (v : Head) → IsHead v → are_once h.clauses ≡ true → IsFront (in_names t w s h).variables a.variables → is_typed_site a.parts (site_of w s v) ≡ true
  site-typed v i once front =
      and_from _ _
      (and_from _ _
      (and_from _ _
      (and_from _ _ (and_from _ _ body.1 (ap (λ o. is_of_kind o (kind_of w.role)) trans ∙ eq-eqb (kind_of w.role) (kind_of w.role) refl))
      (ap (λ o. have_types_from (parameters_at o) (variables_of (slice_get a.parts.kinds (kind_of w.role))) (length s.variables)) trans
      ∙ and_from _ _ (le-leb (length s.variables) (length (variables_of (slice_get a.parts.kinds (kind_of w.role)))) (short (front-length _ _ there))) (parameters-there s.variables v.0.0.1.parameters _ there)))
      (clause-of around_clauses is_such_that h.clauses v.1 i.1))
      (clause-of around_clauses is_by h.clauses v.1 i.1))
      (ap (λ o. is_environment (record { first = length s.variables; count = length (parameters_at o) }) (site_of w s v)) trans
      ∙ environment-typed around_clauses (record { first = length s.variables; count = length v.0.0.1.parameters }) h.clauses v.1 i.1 once)
    where
      body : IsBody a.parts a.kind a.variables (kind_of w.role)
      body = body-here v.0.0 i.0.0

      trans : slice_get a.parts.transactions v.0.0.0.number ≡ Some (transaction_with (kind_of w.role) v.0.0.0 v.0.0.1)
      trans = transaction-here v.0.0 i.0.0

      there : IsFront (s.variables ++ v.0.0.1.parameters) (variables_of (slice_get a.parts.kinds (kind_of w.role)))
      there = subst (λ l. IsFront (s.variables ++ v.0.0.1.parameters) l) (sym body.2) (subst (λ l. IsFront l a.variables) i.0.1 front)

      short : length (s.variables ++ v.0.0.1.parameters) ≤ length (variables_of (slice_get a.parts.kinds (kind_of w.role))) → length s.variables ≤ length (variables_of (slice_get a.parts.kinds (kind_of w.role)))
      short le = let e = length-append s.variables v.0.0.1.parameters in omega (arith, le, e)

  -- the sites before the block
  before-sites : (v : Head) → head_of t w s h ≡ Good v → (before_block t w s h).sites ≡ s.sites ++ site_of w s v ∷ []
  before-sites v e =
      ap (λ o. (with_site (mapped (site_of w s) o) (in_names t w s h)).sites) (found-Good (head_of t w s h) v e)
      ∙ ap (λ l. l ++ site_of w s v ∷ []) (names-sites (suc w.scope) (map parameter_types (accept_head t w h)) 0 s h.names)

  site-there : (v : Head) → head_of t w s h ≡ Good v → IsFront (before_block t w s h).sites a.parts.sites → slice_get a.parts.sites (length s.sites) ≡ Some (site_of w s v)
  site-there v e front =
      front-get (s.sites ++ site_of w s v ∷ []) a.parts.sites (subst (λ l. IsFront l a.parts.sites) (before-sites v e) front) (length s.sites) (site_of w s v) (get-more s.sites (site_of w s v))

  -- the block stands in the accept
  pub stands-block : (v : Head) → head_of t w s h ≡ Good v → IsHead v → IsFront (before_block t w s h).sites a.parts.sites → Stands t (around_block t w h) (in_accept a (length s.sites))
  unfolding checked
  stands-block v e i front =
      record {
        whole = stands.whole;
        role = stands.role;
        reply = λ u f. ap (λ x. Some x) (value ∙ back u f);
        breaks = leaves-stand w.breaks;
        continues = leaves-stand w.continues;
      }
    where
      value : value_type_at (slice_get a.parts.transactions (transaction_at (slice_get a.parts.sites (length s.sites)))) ≡ v.0.0.1.result
      value =
          ap (λ o. value_type_at (slice_get a.parts.transactions (transaction_at o))) (site-there v e front)
          ∙ ap value_type_at (transaction-here v.0.0 i.0.0)

      given : outcome (checked (transaction_accepted t w h) value_back_of) ≡ Ok v.0.0.1.result
      given =
          ap (λ j. outcome (checked j value_back_of)) i.0.0.0.2
          ∙ value-back v.0.0.0 v.0.0.1 i.0.0.0.1 (stands.whole.asynchronous i.0.0.0.0.0 h.name.name v.0.0.0 v.0.0.1 i.0.0.0.0.2 i.0.0.0.1)

      back : (u : DataType) → outcome (checked (transaction_accepted t w h) value_back_of) ≡ Ok u → v.0.0.1.result ≡ u
      back u f = let same : Ok v.0.0.1.result ≡ Ok u = sym given ∙ f in cc

  -- a part of an accept is sound
  abbrev pub IsPart : Scope → AcceptPart → Type 0
  IsPart r x =
      IsSound a.parts s r (is_accepted a (slice_get a.parts.sites x.site) && list_all (is_typed_statement (in_accept a x.site)) x.block) (x.site ∷ sites_of_body x.block)

  abbrev pub IsBlock : Scope → List TypedStatement → Type 0
  IsBlock r xs =
      IsSound a.parts (before_block t w s h) r (list_all (is_typed_statement (in_accept a (length s.sites))) xs) (sites_of_body xs)

  part-sound : (r : Scope) (v : Head) (xs : List TypedStatement) → head_of t w s h ≡ Good v → IsHead v → are_once h.clauses ≡ true → IsFront (in_names t w s h).variables a.variables → IsFront (before_block t w s h).sites a.parts.sites → IsBlock r xs → IsPart r (part_made (length s.sites) (v, xs))
  part-sound r v xs e i once front sites b = (
    and_from _ _ (ap (is_accepted a) (site-there v e sites) ∙ and_from _ _ (ap (λ o. is_kind o (kind_of w.role)) body.0 ∙ eq-eqb (kind_of w.role) (kind_of w.role) refl) (ap (λ o. is_of_kind o (kind_of w.role)) (transaction-here v.0.0 i.0.0) ∙ eq-eqb (kind_of w.role) (kind_of w.role) refl)) b.0,
    λ all. b.1 (ap (list_all (is_typed_site a.parts)) (before-sites v e) ∙ all-append (is_typed_site a.parts) s.sites (site_of w s v) all (site-typed v i once front)),
    (suc b.2.0, ap (λ l. length s.sites ∷ l) (b.2.1 ∙ ap (λ n. counted n b.2.0) longer), numbered),
  )
    where
      body : IsBody a.parts a.kind a.variables (kind_of w.role)
      body = body-here v.0.0 i.0.0

      longer : length (before_block t w s h).sites ≡ suc (length s.sites)
      longer = let e1 = ap length (before-sites v e) ∙ length-append s.sites (site_of w s v ∷ []) in omega (arith, e1)

      numbered : length s.sites + suc b.2.0 ≡ length r.sites
      numbered = let e2 = b.2.2 in let e3 = longer in omega (arith, e2, e3)

  pub accept-sound : (r : Scope) (block : Judged (List TypedStatement)) → are_once h.clauses ≡ true → are_formed_clauses (length t.formats) h.clauses ≡ true → IsFront (in_names t w s h).variables a.variables → IsFront (before_block t w s h).sites a.parts.sites
      → ((v : Head) → head_of t w s h ≡ Good v → IsHead v → Holds (IsBlock r) block) → Holds (IsPart r) (map (part_made (length s.sites)) (both (head_of t w s h) block))
  accept-sound r block once form front sites go =
      holds-map (IsPart r) (part_made (length s.sites)) _
      (holds-weaker (λ v. (IsHead v.0 × (head_of t w s h ≡ Good v.0)) × IsBlock r v.1) _ (λ v i. part-sound r v.0 v.1 i.0.1 i.0.0 once front sites i.1) _
      (holds-after (λ v. IsHead v × (head_of t w s h ≡ Good v)) (λ v xs. IsBlock r xs) (head_of t w s h) block (holds-found IsHead (head_of t w s h) (head-typed form front)) (λ v e i. go v e i.0)))
