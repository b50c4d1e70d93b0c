-- Functions and bodies without a fault are typed.
use Rattle.std.proofs.Common.{◌≡◌, ℕ, zero, suc, ◌+◌, ◌≤◌, Bool, true, false, ◌||◌, List, [], ◌∷◌, length, Option, Some, None, Result, Ok, refl, ap, sym, subst, ◌∙◌, arith}
use Rattle.std.proofs.lemmas.Bool.{and_from, le-leb}
use Rattle.std.specs.List.{list_all}
use Rattle.std.specs.Prelude.{if◌then◌else◌, nat_eq, slice_get}
use Rattle.cc_typed.proofs.Tables.{left, right}
use Rattle.cc_typed.specs.Accepts.{sites_of_body}
use Rattle.cc_typed.specs.KnownTypes.{are_parameters, is_known, is_process_type, is_whole}
use Rattle.cc_typed.specs.Missing.{variables_of}
use Rattle.cc_typed.specs.Parts.{Parts}
use Rattle.cc_typed.specs.Typed as typed
use Rattle.cc_typed.specs.Typed.{Surroundings, are_few, are_variables, in_kind, is_typed_function, is_typed_kind, is_typed_site, is_typed_statement, most_things}
use Rattle.cc_typed.specs.Types.{is_void}
use Rattle.cc_typed.specs.declared.types.DataType.{DataType}
use Rattle.cc_typed.specs.declared.types.DataType.TheVariants.{Void}
use Rattle.cc_faults.proofs.Holds.{Holds}
use Rattle.cc_faults.specs.Declarations.{signature, types_of}
use Rattle.cc_faults.specs.Judged.{Good, map, outcome}
use Rattle.cc_faults.specs.Programs.{BodyParts, FunctionParts, Passed, after_body, body_role, body_types, in_body, in_function, no_variables, result_of, role_of}
use Rattle.cc_faults.specs.Scopes.{Scope, Text, outermost}
use Rattle.cc_faults.specs.Statements.{after, after_in, judged, judged_in}
use Rattle.cc_faults.specs.declared.fault.FaultAt.{FaultAt}
use Rattle.cc_faults.specs.declared.plain.Identifier.{Identifier}
use Rattle.cc_faults.specs.declared.plain.Parameter.{Parameter}
use Rattle.cc_faults.specs.declared.plain.Statement.{Statement}
use Rattle.cc_faults.specs.declared.plain.TypeName.{TypeName}
use Rattle.cc_faults.specs.declared.scope.Around.{Around}
use Rattle.cc_faults.specs.declared.scope.KindHead.{KindHead}
use Rattle.cc_faults.specs.declared.scope.Role.TheVariants as role
use Rattle.cc_sound.proofs.Accepts.{holds-at}
use Rattle.cc_sound.proofs.After.{Goes, after-goes, goes-on, goes-same, names-go}
use Rattle.cc_sound.proofs.Entered.{AreCounted, body-front, body_of, main_of}
use Rattle.cc_sound.proofs.Functions.{function-front, function_of, good-equal, take-front}
use Rattle.cc_sound.proofs.Goods.{good-map, good-outcome}
use Rattle.cc_sound.proofs.Growth.{front-length, front-same}
use Rattle.cc_sound.proofs.Items.{BodyFound, FunctionFound, function_variables}
use Rattle.cc_sound.proofs.Levels.{Level}
use Rattle.cc_sound.proofs.Moves.{body-passes, names-alike}
use Rattle.cc_sound.proofs.Parameters.{parameters-inside, parameters-pass, parameters-typed, signature-made, written-typed}
use Rattle.cc_sound.proofs.Passing.{in-passes, is_body_role}
use Rattle.cc_sound.proofs.Statements.{AreStatements, ends-before, judged-sound, one-more, still}
use Rattle.cc_sound.specs.Fits.{Ends, Inside, IsFront, IsThere, RoleStands, ScopeFits, Stands, TextFits}
use Rattle.cc_sound.specs.Formed.{is_formed_statement}
use Rattle.cc_sound.specs.Sizes.{things_in_block}
use Rattle.cc_sound.specs.Typing.{AreNumbered, counted}

-- ---- statements in a list

module _ (t : Text) where
  pub in-goes : (p : Parts) (whole : TextFits t p) (w : Around) (s : Scope) (block : List Statement) → Goes t p whole s (after_in t w s block)
  in-goes p whole w s [] = goes-same t p whole s
  in-goes p whole w s (x ∷ rest) =
      goes-on t p whole s (after t w s x) (after_in t w (after t w s x) rest) (after-goes t p whole w s x) (in-goes p whole w (after t w s x) rest)

  pub in-sound : (w : Around) (s : Scope) (a : Surroundings) (block : List Statement) → list_all (is_formed_statement (length t.formats)) block ≡ true → Stands t w a → Inside t a.parts s → Ends a (after_in t w s block) → Holds (AreStatements a s (after_in t w s block)) (judged_in t w s block)
  in-sound w s a [] form stands inside ends = still a.parts s true [] refl refl
  in-sound w s a (x ∷ rest) form stands inside ends =
      one-more a s (after t w s x) (after_in t w (after t w s x) rest) (judged t w s x) (judged_in t w (after t w s x) rest)
      (judged-sound t w s a x (left _ _ form) stands inside (ends-before a (after t w s x) (after_in t w (after t w s x) rest) (in-goes a.parts stands.whole w (after t w s x) rest).0 ends))
      (in-sound w (after t w s x) a rest (right _ _ form) stands ((after-goes t a.parts stands.whole w s x).1 inside) ends)

-- ---- the variables of a function or body

variables-typed : (p : Parts) (n : ℕ) (us vs : List DataType) → n ≡ length us → IsFront us vs → are_parameters p us ≡ true → list_all (is_known p) vs ≡ true → length vs ≤ most_things → are_variables p n vs ≡ true
variables-typed p n us vs many front fit known few =
    and_from _ _
    (and_from _ _
    (and_from _ _ (le-leb (length vs) most_things few) (le-leb n (length vs) (let le = front-length us vs front in omega (arith, many, le))))
    (ap (are_parameters p) (take-front n us vs many front) ∙ fit)) known

numbered-none : (n m : ℕ) (xs : List ℕ) → n ≡ m → AreNumbered n m xs → xs ≡ []
numbered-none n m xs e h = let f = h.2 in h.1 ∙ none h.0 (omega (arith, e, f))
  where
    none : (k : ℕ) → k ≡ 0 → counted n k ≡ []
    none zero g = refl
    none (suc k) g = absurd (omega (arith, g))

module _ (t : Text) (p : Parts) (whole : TextFits t p) where
  level-inside : (s : Scope) → Level t p s → ScopeFits t s p → Inside t p (no_variables s)
  level-inside s level here = (
    record {
      names = λ x n e. subst (λ (vs : List DataType). IsThere (length t.functions) (length vs) n.meaning) level.no_variables (level.names x n e);
      structures_named = level.structures_named;
      processes_named = level.processes_named;
      enumerations_named = level.enumerations_named;
      members = level.members;
      structures = here.structures;
    },
    refl,
  )

  -- ---- functions

  module _ (b : Passed) (result : TypeName) (x : Identifier) (ps : List Parameter) (block : List Statement) (v : FunctionParts) (level : Level t p b.scope) (here : ScopeFits t b.scope p) (found : FunctionFound t b result x ps block v) where
    abbrev around_function : Around
    around_function = outermost (role_of b.scope result x ps)

    abbrev entered : Scope
    entered = in_function b.scope ps

    abbrev left_behind : Scope
    left_behind = function_variables t b result x ps block

    no-body : (d : Bool) (o : Result DataType FaultAt) → is_body_role (if d then role.Main o else role.Function o) ≡ false
    no-body true o = refl
    no-body false o = refl

    -- it leaves the accepts as they are
    function-still : left_behind.sites ≡ b.scope.sites
    function-still =
        (in-passes t around_function entered block).still (no-body (nat_eq x.name 0) (outcome (map result_of (signature b.scope x result ps))))
        ∙ (parameters-pass (role_of b.scope result x ps) b.scope (no_variables b.scope) ps).still (no-body (nat_eq x.name 0) (outcome (map result_of (signature b.scope x result ps))))

    entered-inside : Inside t p entered
    entered-inside = parameters-inside t p b.scope (no_variables b.scope) ps here (level-inside b.scope level here)

    result-known : (u : DataType) → outcome (map result_of (signature b.scope x result ps)) ≡ Ok u → Some v.0.1.0.result ≡ Some u
    result-known u e =
        let m = good-map result_of (signature b.scope x result ps) u (good-outcome (map result_of (signature b.scope x result ps)) u e) in
        ap (λ w. Some w) (ap result_of (good-equal found.signed m.1) ∙ sym m.2)

    result-typed : (is_void v.0.1.0.result || is_whole p v.0.1.0.result) ≡ true
    result-typed = written-typed t b.scope p here result v.0.1.0.result (signature-made b.scope x result ps v.0.1.0 found.signed).0

    block-sound : (a : Surroundings) → a.parts ≡ p → list_all (is_formed_statement (length t.formats)) block ≡ true → Stands t around_function a → a.variables ≡ left_behind.variables → IsFront b.scope.sites a.parts.sites → Inside t a.parts entered → AreStatements a entered left_behind v.1
    block-sound a same form stands variables sites inside =
        holds-at (AreStatements a entered left_behind) (judged_in t around_function entered block) v.1
        (in-sound t around_function entered a block form stands inside (subst (λ l. IsFront left_behind.variables l) (sym variables) (front-same left_behind.variables), subst (λ l. IsFront l a.parts.sites) (sym function-still) sites))
        found.statements

    few-variables : suc (length ps + things_in_block block) ≤ most_things → length left_behind.variables ≤ most_things
    few-variables few =
        let a = (in-passes t around_function entered block).variables in
        let front = function-front t p b result x ps block v level found in
        let c = ap length front.0 in
        let d = front.1 in omega (arith, a, c, d, few)

    function-variables : suc (length ps + things_in_block block) ≤ most_things → are_variables p (length ps) left_behind.variables ≡ true
    function-variables few =
        let front = function-front t p b result x ps block v level found in
        let made = signature-made b.scope x result ps v.0.1.0 found.signed in
        variables-typed p (length ps) v.0.1.0.parameters left_behind.variables front.1 front.2 (parameters-typed t b.scope p here x (types_of ps) v.0.1.0.parameters made.1).1 ((in-goes t p whole around_function entered block).1 entered-inside).1 (few-variables few)

    role-stands : (kind : Option ℕ) (variables : List DataType) (d : Bool) → nat_eq x.name 0 ≡ d → kind ≡ (if d then Some 0 else None) → RoleStands p kind (Some v.0.1.0.result) variables (role_of b.scope result x ps)
    role-stands kind variables d e same =
        subst (λ c. RoleStands p kind (Some v.0.1.0.result) variables (if c then role.Main (outcome (map result_of (signature b.scope x result ps))) else role.Function (outcome (map result_of (signature b.scope x result ps))))) (sym e) (cases d same)
      where
        cases : (c : Bool) → kind ≡ (if c then Some 0 else None) → RoleStands p kind (Some v.0.1.0.result) variables (if c then role.Main (outcome (map result_of (signature b.scope x result ps))) else role.Function (outcome (map result_of (signature b.scope x result ps))))
        cases true f = (f, result-known)
        cases false f = (f, result-known)

    pub function-typed : nat_eq x.name 0 ≡ false → list_all (is_formed_statement (length t.formats)) block ≡ true → suc (length ps + things_in_block block) ≤ most_things → IsFront b.scope.sites p.sites → is_typed_function p (function_of t p b result x ps block v) ≡ true
    function-typed e form few sites =
        and_from _ _ (and_from _ _ (function-variables few) result-typed)
        (block-sound (typed.in_function p (function_of t p b result x ps block v)) refl form (record { whole = whole; role = role-stands None left_behind.variables false e refl; reply = refl; breaks = tt; continues = tt }) refl sites entered-inside).0

    pub main-typed : nat_eq x.name 0 ≡ true → list_all (is_formed_statement (length t.formats)) block ≡ true → suc (length ps + things_in_block block) ≤ most_things → IsFront b.scope.sites p.sites → (is_typed_kind p 0 (main_of t p b result x ps block v) ≡ true) × (sites_of_body v.1 ≡ [])
    main-typed e form few sites =
        let sound = block-sound (in_kind p 0 (main_of t p b result x ps block v)) refl form (record { whole = whole; role = role-stands (Some 0) left_behind.variables true e refl; reply = refl; breaks = tt; continues = tt }) refl sites entered-inside in
        let same = ap length function-still in
        let first = ap length ((parameters-pass (role_of b.scope result x ps) b.scope (no_variables b.scope) ps).still (no-body (nat_eq x.name 0) (outcome (map result_of (signature b.scope x result ps))))) in
        (and_from _ _ (and_from _ _ (function-variables few) result-typed) sound.0, numbered-none (length entered.sites) (length left_behind.sites) (sites_of_body v.1) (omega (arith, same, first)) sound.2)

  -- ---- bodies

  module _ (counted_heads : AreCounted t p) (whole_heads : (k : ℕ) (h : KindHead) (us : List DataType) → slice_get t.kinds k ≡ Some h → h.parameters ≡ Ok us → are_parameters p us ≡ true)
      (b : Passed) (x : Identifier) (xs : List Identifier) (block : List Statement) (v : BodyParts) (level : Level t p b.scope) (here : ScopeFits t b.scope p) (found : BodyFound t b x xs block v) (h : KindHead) (at : slice_get t.kinds v.0.1.0.0 ≡ Some h) where
    abbrev around_body : Around
    around_body = outermost (body_role t b.scope x)

    abbrev body_entered : Scope
    body_entered = in_body b.scope (body_types t b.scope x (length xs)) xs

    abbrev body_left : Scope
    body_left = after_body t b.scope x xs block

    types-fit : are_parameters p v.0.1.0.1 ≡ true
    types-fit = whole_heads v.0.1.0.0 h v.0.1.0.1 at (body-front t p counted_heads b x xs block v level found h at).0

    body-inside : Inside t p body_entered
    body-inside =
        subst (Inside t p) (sym (names-alike (body_types t b.scope x (length xs)) 0 (no_variables b.scope) xs))
        ((names-go t p whole 2 (body_types t b.scope x (length xs)) 0 (no_variables b.scope) xs known).1 (level-inside b.scope level here))
      where
        known : (us : List DataType) → body_types t b.scope x (length xs) ≡ Good us → (list_all (is_whole p) us ≡ true) × (0 + length xs ≤ length us)
        known us e =
            let same = good-equal found.types e in
            let many = (body-front t p counted_heads b x xs block v level found h at).1 in
            let all = subst (λ l. list_all (is_whole p) l ≡ true) same (left _ _ types-fit) in
            let long = ap length same in (all, omega (arith, many, long))

    body-variables : suc (length xs + things_in_block block) ≤ most_things → are_variables p (length xs) body_left.variables ≡ true
    body-variables few =
        let front = body-front t p counted_heads b x xs block v level found h at in
        let a = (body-passes t b.scope x xs block).variables in
        variables-typed p (length xs) v.0.1.0.1 body_left.variables front.1 front.3 types-fit ((in-goes t p whole around_body body_entered block).1 body-inside).1 (omega (arith, a, few))

    body-stands : is_process_type p v.0.1.0.0 ≡ true → slice_get p.kinds v.0.1.0.0 ≡ Some (body_of t p b x xs block v) → Stands t around_body (in_kind p v.0.1.0.0 (body_of t p b x xs block v))
    body-stands there placed =
        record {
          whole = whole;
          role = subst (λ (r : Result ℕ FaultAt). RoleStands p (Some v.0.1.0.0) (Some Void) body_left.variables (role.Body r)) (sym (ap outcome found.kind)) (refl, refl, there, ap variables_of placed);
          reply = refl;
          breaks = tt;
          continues = tt;
        }

    pub body-typed : list_all (is_formed_statement (length t.formats)) block ≡ true → suc (length xs + things_in_block block) ≤ most_things → is_process_type p v.0.1.0.0 ≡ true → slice_get p.kinds v.0.1.0.0 ≡ Some (body_of t p b x xs block v) → IsFront body_left.sites p.sites
        → (is_typed_kind p v.0.1.0.0 (body_of t p b x xs block v) ≡ true) × (list_all (is_typed_site p) body_entered.sites ≡ true → list_all (is_typed_site p) body_left.sites ≡ true) × AreNumbered (length body_entered.sites) (length body_left.sites) (sites_of_body v.1)
    body-typed form few there placed sites =
        let sound = holds-at (AreStatements (in_kind p v.0.1.0.0 (body_of t p b x xs block v)) body_entered body_left) (judged_in t around_body body_entered block) v.1 (in-sound t around_body body_entered (in_kind p v.0.1.0.0 (body_of t p b x xs block v)) block form (body-stands there placed) body-inside (front-same body_left.variables, sites)) found.statements in
        (and_from _ _ (and_from _ _ (body-variables few) refl) sound.0, sound.1, sound.2)
