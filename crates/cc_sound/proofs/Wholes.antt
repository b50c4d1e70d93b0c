-- A text without a fault means a typed program: its functions and bodies, item by item.
use Rattle.std.proofs.Common.{◌≡◌, ◌⊎◌, inl, inr, ℕ, ◌≤◌, ◌<◌, Bool, true, false, List, [], ◌∷◌, ◌++◌, length, Option, Some, Ok, refl, ap, sym, subst, ◌∙◌, arith}
use Rattle.std.proofs.lemmas.Bool.{and_from, eq-eqb, eqb-true, ltb-true, or_left, or_right}
use Rattle.std.specs.List.{list_all}
use Rattle.std.specs.Prelude.{if◌then◌else◌, nat_eq, nat_lt, slice_get}
use Rattle.cc_typed.proofs.Tables.{left, right}
use Rattle.cc_typed.specs.Accepts.{sites_of_body}
use Rattle.cc_typed.specs.KnownTypes.{are_parameters, is_process_type}
use Rattle.cc_typed.specs.Parts.{Parts}
use Rattle.cc_typed.specs.Typed.{is_typed_function, is_typed_kind, is_typed_site, most_things}
use Rattle.cc_typed.specs.declared.tree.Function.{Function}
use Rattle.cc_typed.specs.declared.tree.Kind.{Kind}
use Rattle.cc_typed.specs.declared.tree.Site.{Site}
use Rattle.cc_typed.specs.declared.tree.Transaction.{Transaction as TypedTransaction}
use Rattle.cc_typed.specs.declared.types.DataType.{DataType}
use Rattle.cc_faults.specs.Declarations.{after_item}
use Rattle.cc_faults.specs.Judged.{after_each}
use Rattle.cc_faults.specs.Programs.{BodyParts, FunctionParts, Passed, Piece, NoPiece, OneFunction, OneKind, Transactions, after_body, and_item, body_types, functions_among, in_body, kind_among, no_variables}
use Rattle.cc_faults.specs.Scopes.{Scope, Text, entry_at}
use Rattle.cc_faults.specs.declared.plain.Identifier.{Identifier}
use Rattle.cc_faults.specs.declared.plain.Item.{Item}
use Rattle.cc_faults.specs.declared.plain.Item.TheVariants as item
use Rattle.cc_faults.specs.declared.plain.Parameter.{Parameter}
use Rattle.cc_faults.specs.declared.plain.Statement.{Statement}
use Rattle.cc_faults.specs.declared.plain.TypeName.{TypeName}
use Rattle.cc_faults.specs.declared.scope.KindHead.{KindHead}
use Rattle.cc_sound.proofs.Accepts.{names-sites}
use Rattle.cc_sound.proofs.Blocks.{body-typed, function-typed, main-typed}
use Rattle.cc_sound.proofs.Entered.{AreCounted, body_of, main-few, main_of}
use Rattle.cc_sound.proofs.Functions.{function_of}
use Rattle.cc_sound.proofs.Growth.{front-on}
use Rattle.cc_sound.proofs.Heads.{true-false}
use Rattle.cc_sound.proofs.Items.{ArePieces, BodyFound, FunctionFound}
use Rattle.cc_sound.proofs.Levels.{Level, level-after}
use Rattle.cc_sound.proofs.Moves.{item-like, item-moves, items-move, names-alike}
use Rattle.cc_sound.proofs.Once.{AreApart, sites_of_pieces}
use Rattle.cc_sound.proofs.Specified.{body-named, body-once, has_kind, no-kind}
use Rattle.cc_sound.proofs.Statements.{numbered-on}
use Rattle.cc_sound.proofs.Transactions.{GoesTo, fits-here, goes-more}
use Rattle.cc_sound.specs.Fits.{IsFront, ScopeFits, TextFits}
use Rattle.cc_sound.specs.Formed.{is_formed_item}
use Rattle.cc_sound.specs.Sizes.{things_of_items}
use Rattle.cc_sound.specs.Typing.{AreNumbered}

-- ---- what is made between two points of a text

module _ (p : Parts) where
  -- a typed kind; `main` has no parameters and no accepts
  abbrev pub IsSoundKind : ℕ → Kind → Type 0
  IsSoundKind k c =
      (is_typed_kind p k c ≡ true) × (k ≡ 0 → (c.parameters ≡ 0) × (sites_of_body c.body ≡ []))

  abbrev pub AreSoundKinds : List Piece → Type 0
  AreSoundKinds [] = Unit {0}
  AreSoundKinds (OneKind k c ∷ ys) = IsSoundKind k c × AreSoundKinds ys
  AreSoundKinds (NoPiece ∷ ys) = AreSoundKinds ys
  AreSoundKinds (OneFunction f ∷ ys) = AreSoundKinds ys
  AreSoundKinds (Transactions ds ∷ ys) = AreSoundKinds ys

  pub record IsSoundText (sites last : List Site) (ys : List Piece) : Type 0 where
    pub functions : list_all (is_typed_function p) (functions_among ys) ≡ true
    pub kinds : AreSoundKinds ys
    pub apart : AreApart (length p.kinds) ys
    pub typed : list_all (is_typed_site p) sites ≡ true → list_all (is_typed_site p) last ≡ true
    pub numbers : AreNumbered (length sites) (length last) (sites_of_pieces ys)

  -- the kind of a number, where there may be none
  pub sound-at : (k : ℕ) (ys : List Piece) → AreSoundKinds ys → IsSoundKind k (kind_among k ys)
  sound-at k [] h = (refl, λ e. (refl, refl))
  sound-at k (NoPiece ∷ ys) h = sound-at k ys h
  sound-at k (OneFunction f ∷ ys) h = sound-at k ys h
  sound-at k (Transactions ds ∷ ys) h = sound-at k ys h
  sound-at k (OneKind j c ∷ ys) h = cases (nat_eq j k) refl (sound-at k ys h.1)
    where
      cases : (b : Bool) → nat_eq j k ≡ b → IsSoundKind k (kind_among k ys) → IsSoundKind k (if b then c else kind_among k ys)
      cases true e i = subst (λ m. IsSoundKind m c) (eqb-true j k e) h.0
      cases false e i = i

  pub sound-end : (sites : List Site) → IsSoundText sites sites []
  sound-end sites =
      record { functions = refl; kinds = tt; apart = tt; typed = λ h. h; numbers = (0, refl, omega arith) }

  sound-nothing : (sites last : List Site) (ys : List Piece) → IsSoundText sites last ys → IsSoundText sites last (NoPiece ∷ ys)
  sound-nothing sites last ys h =
      record { functions = h.functions; kinds = h.kinds; apart = h.apart; typed = h.typed; numbers = h.numbers }

  sound-lines : (sites last : List Site) (ds : List TypedTransaction) (ys : List Piece) → IsSoundText sites last ys → IsSoundText sites last (Transactions ds ∷ ys)
  sound-lines sites last ds ys h =
      record { functions = h.functions; kinds = h.kinds; apart = h.apart; typed = h.typed; numbers = h.numbers }

  sound-function : (sites last : List Site) (f : Function) (ys : List Piece) → is_typed_function p f ≡ true → IsSoundText sites last ys → IsSoundText sites last (OneFunction f ∷ ys)
  sound-function sites last f ys i h =
      record { functions = and_from _ _ i h.functions; kinds = h.kinds; apart = h.apart; typed = h.typed; numbers = h.numbers }

  sound-main : (sites last : List Site) (c : Kind) (ys : List Piece) → IsSoundKind 0 c → 0 < length p.kinds → IsSoundText sites last ys → IsSoundText sites last (OneKind 0 c ∷ ys)
  sound-main sites last c ys i some h =
      record {
        functions = h.functions;
        kinds = (i, h.kinds);
        apart = (some, ((sound-at 0 ys h.kinds).1 refl).1, h.apart);
        typed = h.typed;
        numbers = subst (λ l. AreNumbered (length sites) (length last) (l ++ sites_of_pieces ys)) (sym (i.1 refl).1) h.numbers;
      }

  sound-body : (sites inner last : List Site) (k : ℕ) (c : Kind) (ys : List Piece) → IsSoundKind k c → k < length p.kinds → has_kind k ys ≡ false → (list_all (is_typed_site p) sites ≡ true → list_all (is_typed_site p) inner ≡ true) → AreNumbered (length sites) (length inner) (sites_of_body c.body)
      → IsSoundText inner last ys → IsSoundText sites last (OneKind k c ∷ ys)
  sound-body sites inner last k c ys i lt alone go numbers h =
      record {
        functions = h.functions;
        kinds = (i, h.kinds);
        apart = (lt, ap (λ (d : Kind). sites_of_body d.body) (no-kind k ys alone), h.apart);
        typed = λ all. h.typed (go all);
        numbers = numbered-on (length sites) (length inner) (length last) (sites_of_body c.body) (sites_of_pieces ys) numbers h.numbers;
      }

-- ---- items

item-sites : (s : Scope) (i : Item) → (after_item s i).sites ≡ s.sites
item-sites s i = ap (λ (q : Scope). q.sites) (item-like s s.sites i)

module _ (t : Text) (p : Parts) (all : List Item) (whole : TextFits t p) (counted_heads : AreCounted t p) (whole_heads : (k : ℕ) (h : KindHead) (us : List DataType) → slice_get t.kinds k ≡ Some h → h.parameters ≡ Ok us → are_parameters p us ≡ true)
    (names : List (Option ℕ)) (alone : (x y : Identifier) (k : ℕ) → entry_at names x ≡ Some k → entry_at names y ≡ Some k → y.name ≡ x.name) (some : 0 < length p.kinds) (head : (k : ℕ) → is_process_type p k ≡ true → (h : KindHead) × (slice_get t.kinds k ≡ Some h)) where
  -- each kind of these pieces stands in the program under its number
  abbrev pub ArePlaced : List Piece → Type 0
  ArePlaced ys =
      (k : ℕ) → has_kind k ys ≡ true → (k ≡ 0 → ⊥) → slice_get p.kinds k ≡ Some (kind_among k ys)

  abbrev last_sites : Passed → List Item → List Site
  last_sites b items = (after_each (and_item t) b items).scope.sites

  -- what is needed at a point
  pub record IsAt (b : Passed) (items : List Item) : Type 0 where
    pub level : Level t p b.scope
    pub structures : GoesTo t p all b items
    pub sites : IsFront (last_sites b items) p.sites
    pub processes : b.scope.processes_named ≡ names
    pub form : list_all (is_formed_item (length t.formats)) items ≡ true
    pub few : things_of_items items ≤ most_things

  at-more : (b : Passed) (i : Item) (rest : List Item) → IsAt b (i ∷ rest) → IsAt (and_item t b i) rest
  unfolding after_each
  at-more b i rest h =
      record {
        level = level-after t p b.scope i h.level;
        structures = goes-more t p all b i rest h.structures;
        sites = h.sites;
        processes = (item-moves t b.scope i).processes ∙ h.processes;
        form = right _ _ h.form;
        few = let e = h.few in omega (arith, e);
      }

  at-fits : (b : Passed) (items : List Item) → IsAt b items → ScopeFits t b.scope p
  at-fits b items h = fits-here t p all b items h.level h.structures

  at-sites : (b : Passed) (items : List Item) → IsAt b items → IsFront b.scope.sites p.sites
  at-sites b items h = front-on b.scope.sites (last_sites b items) p.sites (items-move t b items).sites h.sites

  placed-other : (y : Piece) (ys : List Piece) → ((k : ℕ) → has_kind k ys ≡ true → (k ≡ 0 → ⊥) → (has_kind k (y ∷ ys) ≡ true) × (kind_among k (y ∷ ys) ≡ kind_among k ys)) → ArePlaced (y ∷ ys) → ArePlaced ys
  placed-other y ys go h k e f = let i = go k e f in h k i.0 f ∙ ap (λ c. Some c) i.1

  -- a kind of another number stands before them
  other-kind : (j : ℕ) (c : Kind) (ys : List Piece) → (j ≡ 0) ⊎ (has_kind j ys ≡ false) → (k : ℕ) → has_kind k ys ≡ true → (k ≡ 0 → ⊥) → (has_kind k (OneKind j c ∷ ys) ≡ true) × (kind_among k (OneKind j c ∷ ys) ≡ kind_among k ys)
  other-kind j c ys apart k e f = (or_right _ _ e, cases (nat_eq j k) refl apart)
    where
      cases : (b : Bool) → nat_eq j k ≡ b → (j ≡ 0) ⊎ (has_kind j ys ≡ false) → (if b then c else kind_among k ys) ≡ kind_among k ys
      cases false g h = refl
      cases true g (inl h) = absurd (f (sym (eqb-true j k g) ∙ h))
      cases true g (inr h) = true-false (sym e ∙ ap (λ m. has_kind m ys) (sym (eqb-true j k g)) ∙ h)

  function-case : (b : Passed) (result : TypeName) (x : Identifier) (ps : List Parameter) (block : List Statement) (rest : List Item) (v : FunctionParts) (ys : List Piece) → FunctionFound t b result x ps block v → IsAt b (item.Function result x ps block ∷ rest) → (sites : List Site)
      → (d : Bool) → nat_eq x.name 0 ≡ d → IsSoundText p b.scope.sites sites ys → IsSoundText p b.scope.sites sites ((if d then OneKind 0 (main_of t p b result x ps block v) else OneFunction (function_of t p b result x ps block v)) ∷ ys)
  function-case b result x ps block rest v ys found h sites true e i =
      let made = main-typed t p whole b result x ps block v h.level (at-fits b (item.Function result x ps block ∷ rest) h) found e (left _ _ h.form) (let m = h.few in omega (arith, m)) (at-sites b (item.Function result x ps block ∷ rest) h) in
      sound-main p b.scope.sites sites (main_of t p b result x ps block v) ys (made.0, λ z. (main-few t p x (length ps) v.0.1.1.0 e found.few, made.1)) some i
  function-case b result x ps block rest v ys found h sites false e i =
      sound-function p b.scope.sites sites (function_of t p b result x ps block v) ys
      (function-typed t p whole b result x ps block v h.level (at-fits b (item.Function result x ps block ∷ rest) h) found e (left _ _ h.form) (let m = h.few in omega (arith, m)) (at-sites b (item.Function result x ps block ∷ rest) h)) i

  placed-function : (d : Bool) (c : Kind) (f : Function) (ys : List Piece) → ArePlaced ((if d then OneKind 0 c else OneFunction f) ∷ ys) → ArePlaced ys
  placed-function true c f ys h = placed-other (OneKind 0 c) ys (other-kind 0 c ys (inl refl)) h
  placed-function false c f ys h = placed-other (OneFunction f) ys (λ k e g. (e, refl)) h

  -- a body begins with the accepts that stand before it
  entered-sites : (b : Passed) (x : Identifier) (xs : List Identifier) → (in_body b.scope (body_types t b.scope x (length xs)) xs).sites ≡ b.scope.sites
  entered-sites b x xs =
      ap (λ (q : Scope). q.sites) (names-alike (body_types t b.scope x (length xs)) 0 (no_variables b.scope) xs)
      ∙ names-sites 2 (body_types t b.scope x (length xs)) 0 (no_variables b.scope) xs

  body-case : (b : Passed) (x : Identifier) (xs : List Identifier) (block : List Statement) (rest : List Item) (v : BodyParts) (ys : List Piece) → BodyFound t b x xs block v → IsAt b (item.Body x xs block ∷ rest) → has_kind v.0.1.0.0 ys ≡ false → slice_get p.kinds v.0.1.0.0 ≡ Some (body_of t p b x xs block v) → (sites : List Site)
      → IsSoundText p (after_body t b.scope x xs block).sites sites ys → IsSoundText p b.scope.sites sites (OneKind v.0.1.0.0 (body_of t p b x xs block v) ∷ ys)
  body-case b x xs block rest v ys found h once placed sites i =
      let there = h.level.processes_named x v.0.1.0.0 (ap (λ ns. entry_at ns x) h.processes ∙ body-named t all names b x xs block v h.processes found) in
      let lt = ltb-true v.0.1.0.0 (length p.kinds) (right (nat_lt 0 v.0.1.0.0) (nat_lt v.0.1.0.0 (length p.kinds)) there) in
      let above = ltb-true 0 v.0.1.0.0 (left (nat_lt 0 v.0.1.0.0) (nat_lt v.0.1.0.0 (length p.kinds)) there) in
      let g = head v.0.1.0.0 there in
      let made = body-typed t p whole counted_heads whole_heads b x xs block v h.level (at-fits b (item.Body x xs block ∷ rest) h) found g.0 g.1 (left _ _ h.form) (let m = h.few in omega (arith, m)) there placed (at-sites (and_item t b (item.Body x xs block)) rest (at-more b (item.Body x xs block) rest h)) in
      sound-body p b.scope.sites (after_body t b.scope x xs block).sites sites v.0.1.0.0 (body_of t p b x xs block v) ys
      (made.0, λ z. absurd (omega (arith, z, above))) lt once
      (subst (λ l. list_all (is_typed_site p) l ≡ true → list_all (is_typed_site p) (after_body t b.scope x xs block).sites ≡ true) (entered-sites b x xs) made.1)
      (subst (λ l. AreNumbered (length l) (length (after_body t b.scope x xs block).sites) (sites_of_body v.1)) (entered-sites b x xs) made.2) i

  body-alone : (b : Passed) (x : Identifier) (xs : List Identifier) (block : List Statement) (rest : List Item) (v : BodyParts) (ys : List Piece) → BodyFound t b x xs block v → IsAt b (item.Body x xs block ∷ rest) → ArePieces t all (and_item t b (item.Body x xs block)) rest ys → has_kind v.0.1.0.0 ys ≡ false
  body-alone b x xs block rest v ys found h w =
      let named = body-named t all names b x xs block v h.processes found in
      let there = h.level.processes_named x v.0.1.0.0 (ap (λ ns. entry_at ns x) h.processes ∙ named) in
      let above = ltb-true 0 v.0.1.0.0 (left (nat_lt 0 v.0.1.0.0) (nat_lt v.0.1.0.0 (length p.kinds)) there) in
      body-once t all names v.0.1.0.0 x named (λ y e. alone x y v.0.1.0.0 named e) (λ z. omega (arith, z, above)) (and_item t b (item.Body x xs block)) rest ys h.processes (or_left _ _ (eq-eqb x.name x.name refl)) w

  placed-here : (k : ℕ) (c : Kind) (ys : List Piece) → ArePlaced (OneKind k c ∷ ys) → (k ≡ 0 → ⊥) → slice_get p.kinds k ≡ Some c
  placed-here k c ys h above =
      h k (or_left _ _ (eq-eqb k k refl)) above ∙ ap (λ d. Some (if d then c else kind_among k ys)) (eq-eqb k k refl)

  body-above : (b : Passed) (x : Identifier) (xs : List Identifier) (block : List Statement) (rest : List Item) (v : BodyParts) → BodyFound t b x xs block v → IsAt b (item.Body x xs block ∷ rest) → v.0.1.0.0 ≡ 0 → ⊥
  body-above b x xs block rest v found h e =
      let there = h.level.processes_named x v.0.1.0.0 (ap (λ ns. entry_at ns x) h.processes ∙ body-named t all names b x xs block v h.processes found) in
      let gt = ltb-true 0 v.0.1.0.0 (left (nat_lt 0 v.0.1.0.0) (nat_lt v.0.1.0.0 (length p.kinds)) there) in omega (arith, e, gt)

  -- the whole of what stands behind a point
  pub items-sound : (b : Passed) (items : List Item) (ys : List Piece) → ArePieces t all b items ys → IsAt b items → ArePlaced ys → IsSoundText p b.scope.sites (last_sites b items) ys
  unfolding after_each
  items-sound b [] [] w h placed = sound-end p b.scope.sites
  items-sound b [] (z ∷ ys) w h placed = absurd w
  items-sound b (i ∷ rest) [] w h placed = absurd w
  items-sound b (item.Structure y fields ∷ rest) (z ∷ ys) w h placed =
      subst (λ q. IsSoundText p b.scope.sites (last_sites b (item.Structure y fields ∷ rest)) (q ∷ ys)) (sym w.0)
      (sound-nothing p b.scope.sites (last_sites b (item.Structure y fields ∷ rest)) ys
      (subst (λ l. IsSoundText p l (last_sites b (item.Structure y fields ∷ rest)) ys) (item-sites b.scope (item.Structure y fields))
      (items-sound (and_item t b (item.Structure y fields)) rest ys w.1 (at-more b (item.Structure y fields) rest h) (placed-other NoPiece ys (λ k e g. (e, refl)) (subst (λ q. ArePlaced (q ∷ ys)) w.0 placed)))))
  items-sound b (item.Enumeration y cs ∷ rest) (z ∷ ys) w h placed =
      subst (λ q. IsSoundText p b.scope.sites (last_sites b (item.Enumeration y cs ∷ rest)) (q ∷ ys)) (sym w.0)
      (sound-nothing p b.scope.sites (last_sites b (item.Enumeration y cs ∷ rest)) ys
      (subst (λ l. IsSoundText p l (last_sites b (item.Enumeration y cs ∷ rest)) ys) (item-sites b.scope (item.Enumeration y cs))
      (items-sound (and_item t b (item.Enumeration y cs)) rest ys w.1 (at-more b (item.Enumeration y cs) rest h) (placed-other NoPiece ys (λ k e g. (e, refl)) (subst (λ q. ArePlaced (q ∷ ys)) w.0 placed)))))
  items-sound b (item.Specification y ts ds ∷ rest) (z ∷ ys) w h placed =
      subst (λ q. IsSoundText p b.scope.sites (last_sites b (item.Specification y ts ds ∷ rest)) (q ∷ ys)) (sym w.0.1)
      (sound-lines p b.scope.sites (last_sites b (item.Specification y ts ds ∷ rest)) w.0.0.1 ys
      (items-sound (and_item t b (item.Specification y ts ds)) rest ys w.1 (at-more b (item.Specification y ts ds) rest h) (placed-other (Transactions w.0.0.1) ys (λ k e g. (e, refl)) (subst (λ q. ArePlaced (q ∷ ys)) w.0.1 placed))))
  items-sound b (item.Function result x ps block ∷ rest) (z ∷ ys) w h placed =
      subst (λ q. IsSoundText p b.scope.sites (last_sites b (item.Function result x ps block ∷ rest)) (q ∷ ys)) (sym w.0.1)
      (function-case b result x ps block rest w.0.0 ys w.0.2 h (last_sites b (item.Function result x ps block ∷ rest)) (nat_eq x.name 0) refl
      (subst (λ l. IsSoundText p l (last_sites b (item.Function result x ps block ∷ rest)) ys) (item-sites b.scope (item.Function result x ps block))
      (items-sound (and_item t b (item.Function result x ps block)) rest ys w.1 (at-more b (item.Function result x ps block) rest h)
      (placed-function (nat_eq x.name 0) (main_of t p b result x ps block w.0.0) (function_of t p b result x ps block w.0.0) ys (subst (λ q. ArePlaced (q ∷ ys)) w.0.1 placed)))))
  items-sound b (item.Body x xs block ∷ rest) (z ∷ ys) w h placed =
      let once = body-alone b x xs block rest w.0.0 ys w.0.2 h w.1 in
      let here = subst (λ q. ArePlaced (q ∷ ys)) w.0.1 placed in
      subst (λ q. IsSoundText p b.scope.sites (last_sites b (item.Body x xs block ∷ rest)) (q ∷ ys)) (sym w.0.1)
      (body-case b x xs block rest w.0.0 ys w.0.2 h once (placed-here w.0.0.0.1.0.0 (body_of t p b x xs block w.0.0) ys here (body-above b x xs block rest w.0.0 w.0.2 h)) (last_sites b (item.Body x xs block ∷ rest))
      (items-sound (and_item t b (item.Body x xs block)) rest ys w.1 (at-more b (item.Body x xs block) rest h)
      (placed-other (OneKind w.0.0.0.1.0.0 (body_of t p b x xs block w.0.0)) ys (other-kind w.0.0.0.1.0.0 (body_of t p b x xs block w.0.0) ys (inr once)) here)))
