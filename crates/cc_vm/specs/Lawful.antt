-- What a process of code asks is fit for the machine.
use Rattle.std.proofs.Common.{◌≡◌, ◌≢◌, ℕ, ℤ, pos, negsuc, zero, suc, ◌+◌, ◌-◌, ◌*◌, ◌<◌, ◌≤◌, Bool, true, false, ◌&&◌, List, [], ◌∷◌, ◌++◌, length, drop, take, replicate, get_or, Option, Some, None, Result, Ok, Err, All, refl, sym, ◌∙◌, ap, subst, arith}
use Rattle.std.specs.List.{list_all}
use Rattle.std.specs.Option.{option_map}
use Rattle.std.specs.Prelude.{AllPairs, is_some, map, nat_eq, nat_le, nat_lt, slice_get, if◌then◌else◌}
use Rattle.std.proofs.lemmas.Bool.Decides.{nat_tests}
use Rattle.std.proofs.lemmas.Grind.{common_steps}
use Rattle.std.proofs.lemmas.List.Elements.{All-append}
use Rattle.std.proofs.lemmas.List.Kept.{AllPairs-cons}
use Rattle.std.proofs.lemmas.List.Sums.{AllPass-from_list_all, list_all-from_AllPass}
use Rattle.std.proofs.lemmas.Option.{get_or_from_slice_get, slice_get-get_or}
use Rattle.cc_base.specs.Alternatives.{NumbersRise}
use Rattle.cc_base.specs.Granted.{or_fault, create, transact, transact_within, send, select, delay, reply, put_byte, get_byte, print_format, call_cells, timed_cells, args_taken, alternative_taken}
use Rattle.cc_base.specs.Grants.{HasKind, argument_cells}
use Rattle.cc_base.specs.Limits.{most_calls, most_cells, most_steps}
use Rattle.cc_base.specs.Meaning as base
use Rattle.cc_base.specs.Numbers.{callee, converted, indexed, operated, opposite, updated}
use Rattle.cc_base.specs.Outcome.{Left, Outcome, Through, Asked, Eval, ◌>>=◌, ◌>>◌, and_then, answered, ask, pure, set_variables, spent, tick}
use Rattle.cc_base.specs.Requests.{HasSites, IsAlternativeOf, IsAtSite, IsRequestOf, NamesSites, WellFormed}
use Rattle.cc_base.specs.declared.alternatives.Alt.{Alt}
use Rattle.cc_base.specs.declared.alternatives.Alt.TheVariants as alt
use Rattle.cc_base.specs.declared.names.FaultKind.{FaultKind}
use Rattle.cc_base.specs.declared.names.FaultKind.TheVariants.{Cells, Depth, Index}
use Rattle.cc_base.specs.declared.names.Pid.{Pid}
use Rattle.cc_base.specs.declared.names.Shape.{Shape}
use Rattle.cc_base.specs.declared.numbers.NumberType.{NumberType}
use Rattle.cc_base.specs.declared.numbers.NumberType.TheVariants.{Int, Long}
use Rattle.cc_base.specs.declared.numbers.Operator.TheVariants.{Add, Subtract, Multiply, Divide, Remainder}
use Rattle.cc_base.specs.declared.request.Grant.{Grant}
use Rattle.cc_base.specs.declared.request.Grant.TheVariants as grant
use Rattle.cc_base.specs.declared.request.Request.{Request}
use Rattle.cc_base.specs.declared.request.Request.TheVariants as request
use Rattle.cc_code.specs.Meaning.{act, begins, fit, left_at_start, meaning, process, rank_at, request_of}
use Rattle.cc_code.specs.Operands.{format_at, kind_at, no_part, no_shape, shape_at, takes}
use Rattle.cc_code.specs.Rules.{HasMain, HasShape, HasSite, IsVerified, NamesWhatIsThere}
use Rattle.cc_code.specs.Steps.{Frame, State, Ran, Stepped, Goes, Stops, Asks, Yields, Strays, after, and_on, called, called_if, called_with, cells_at_start, cells_below, enough, goes_on, performed, popped, popped_if, renews, returned_to, run, step, stepped, within_bound, worked, worked_on}
use Rattle.cc_code.specs.Works.{Next, Store, at_offset, bumped, bumped_in, bumped_to, element, element_cells, element_offset, entry_of, environment, fetched, fetched_in, first, further, go_to, if_within, in_time, is_above, is_within, no_offers, offered, offered_accept, offered_in, on_after, on_with, on_with_cells, op, index_fault, second, picked, selected, set_cells, stored, stored_at, stored_in, table_at, taken_at, taken_by, taken_in, with_cells, works}
use Rattle.cc_code.specs.declared.code.Part.{Part}
use Rattle.cc_code.specs.declared.code.RawCode.{RawCode}
use Rattle.cc_code.specs.declared.code.Site.{Site}
use Rattle.cc_code.specs.declared.code.TableEntry.{TableEntry}
use Rattle.cc_code.specs.declared.instr.Instr.{Instr}
use Rattle.cc_code.specs.declared.instr.Instr.TheVariants as instr
use Rattle.cc_code.specs.declared.rule.Rule.TheVariants as rule
use Rattle.cc_vm.specs.Images.{has_main, has_site, image_meaning, image_sites, is_whole, names_there, other_meaning}

-- numbers that are all below another
pub below-all : (i : ℕ) (xs : List (ℕ × Alt)) → is_above i xs ≡ true → All (λ a. a.0 < i) xs
below-all i [] e = λ j d w. absurd (omega (arith, w))
below-all i (x ∷ xs) e = by (nat_lt x.0 i) refl (λ f. below-all i xs f)
  where
    by : (b : Bool) → nat_lt x.0 i ≡ b → (is_above i xs ≡ true → All (λ a. a.0 < i) xs) → All (λ a. a.0 < i) (x ∷ xs)
    by true f rest = λ j d w. at j d w
      where
        tail : is_above i xs ≡ true
        tail = sym (ap (λ (b : Bool). b && is_above i xs) f) ∙ e

        at : (j : ℕ) (d : ℕ × Alt) → j < length (x ∷ xs) → (get_or (x ∷ xs) j d).0 < i
        at zero d w = grind (arith, nat_tests)
        at (suc j) d w = rest tail j d (omega (arith, w))
    by false f rest = absurd (let g : false ≡ true = sym (ap (λ (b : Bool). b && is_above i xs) f) ∙ e in cc)

all-one : {A : Type 0} (P : A → Type 0) (x : A) → P x → All P (x ∷ [])
all-one P x h zero d w = h
all-one P x h (suc j) d w = absurd (omega (arith, w))

rises-on : (i : ℕ) (x : Alt) (xs : List (ℕ × Alt)) → NumbersRise xs → All (λ a. a.0 < i) xs → NumbersRise (xs ++ (i, x) ∷ [])
rises-on i x [] h b = λ j k d lt w. absurd (omega (arith, lt, w))
rises-on i x (y ∷ ys) h b =
    AllPairs-cons (λ a c. a.0 < c.0) y (ys ++ (i, x) ∷ [])
    (All-append (λ c. y.0 < c.0) ys ((i, x) ∷ []) (λ j d w. h 0 (suc j) d (omega arith) (omega (arith, w))) (all-one (λ c. y.0 < c.0) (i, x) (b 0 y (omega arith))))
    (rises-on i x ys (λ j k d lt w. h (suc j) (suc k) d (omega (arith, lt)) (omega (arith, w))) (λ j d w. b (suc j) d (omega (arith, w))))

-- alternatives of code whose numbers rise, at sites that are there
pub record AreGood (k : RawCode) (xs : List (ℕ × Alt)) : Type 0 where
  pub rise : NumbersRise xs
  pub of_code : All (λ a. IsAlternativeOf (meaning k) a.1) xs
  pub at_sites : All (λ a. IsAtSite (length k.sites) a.1) xs

abbrev pub IsGood : RawCode → Request → Type 0
IsGood k q = IsRequestOf (meaning k) q × NamesSites (length k.sites) q

none-good : (k : RawCode) → AreGood k []
none-good k = record { rise = λ i j d lt w. absurd (omega (arith, w)); of_code = λ j d w. absurd (omega (arith, w)); at_sites = λ j d w. absurd (omega (arith, w)) }

one-more-good : (k : RawCode) (i : ℕ) (x : Alt) (xs : List (ℕ × Alt)) → is_above i xs ≡ true → IsAlternativeOf (meaning k) x → IsAtSite (length k.sites) x → AreGood k xs → AreGood k (xs ++ (i, x) ∷ [])
one-more-good k i x xs e h s g =
    record {
      rise = rises-on i x xs g.rise (below-all i xs e);
      of_code = All-append (λ a. IsAlternativeOf (meaning k) a.1) xs ((i, x) ∷ []) g.of_code (all-one (λ a. IsAlternativeOf (meaning k) a.1) (i, x) h);
      at_sites = All-append (λ a. IsAtSite (length k.sites) a.1) xs ((i, x) ∷ []) g.at_sites (all-one (λ a. IsAtSite (length k.sites) a.1) (i, x) s);
    }

-- it leaves such alternatives open, or asks such a request
abbrev GoodOutcome : {A : Type 0} → RawCode → Outcome Store A → Type 0
GoodOutcome k (Through v s l) = AreGood k s.offers
GoodOutcome k (Asked q) = IsGood k q

abbrev IsSound : {A : Type 0} → RawCode → Eval Store A → Store → Type 0
IsSound k p s = AreGood k s.offers → (l : Left) → GoodOutcome k (p s l)

module _ (k : RawCode) where
  index-sound : (A : Type 0) (s : Store) → IsSound {A = A} k index_fault s
  index-sound A s g l = (tt, tt)

  fault-sound : {A : Type 0} (r : Result A FaultKind) (s : Store) → IsSound k (or_fault r) s
  fault-sound (Ok a) s g l = g
  fault-sound (Err kind) s g l = (tt, tt)

  then-sound : {A B : Type 0} (p : Eval Store A) (f : A → Eval Store B) (s : Store) → IsSound k p s → ((v : A) (u : Store) → IsSound k (f v) u) → IsSound k (p >>= f) s
  then-sound {A} {B} p f s h go g l = by (p s l) (h g l)
    where
      by : (o : Outcome Store A) → GoodOutcome k o → GoodOutcome k (and_then o f)
      by (Through v u m) d = go v u d m
      by (Asked q) d = d

  test-sound : {A : Type 0} (b : Bool) (p q : Eval Store A) (s : Store) → IsSound k p s → IsSound k q s → IsSound k (if b then p else q) s
  test-sound true p q s h d = h
  test-sound false p q s h d = d

  within-sound : {A : Type 0} (o n : ℕ) (go : List ℤ → Eval Store A) (s : Store) → IsSound k (go s.cells) s → IsSound k (if_within o n go) s
  within-sound {A} o n go s h g l = test-sound (is_within o n s.cells) (go s.cells) index_fault s h (index-sound A s) g l

  offset-sound : {A : Type 0} (o : ℤ) (go : ℕ → Eval Store A) (s : Store) → ((o : ℕ) → IsSound k (go o) s) → IsSound k (at_offset o go) s
  offset-sound {A} (pos o) go s h = h o
  offset-sound {A} (negsuc o) go s h = index-sound A s

  stored-sound : (new : List ℤ) (o : ℕ) (s : Store) → IsSound k (stored new o) s
  stored-sound new o s = within-sound o (length new) (stored_in new o) s (λ g l. g)

  fetched-sound : (n o : ℕ) (s : Store) → IsSound k (fetched n o) s
  fetched-sound n o s = within-sound o n (fetched_in n o) s (λ g l. g)

  element-sound : (d n : ℕ) (vs : List ℤ) (s : Store) → IsSound k (element d n vs) s
  element-sound d n vs s = then-sound (or_fault (indexed d (second vs))) (element_offset n vs) s (fault-sound (indexed d (second vs)) s) (λ i u. fault-sound (further (first vs) (i * n)) u)

  picked-sound : (d n : ℕ) (vs : List ℤ) (s : Store) → IsSound k (picked d n vs) s
  picked-sound d n vs s = then-sound (or_fault (indexed d (get_or vs (d * n) (pos 0)))) (element_cells n vs) s (fault-sound (indexed d (get_or vs (d * n) (pos 0))) s) (λ i u g l. g)

  bumped-sound : (y : NumberType) (d : ℤ) (o : ℕ) (s : Store) → IsSound k (bumped y d o) s
  bumped-sound y d o s =
      within-sound o 1 (bumped_in y d o) s
      (then-sound (or_fault (updated Add y Int (get_or s.cells o (pos 0)) d)) (bumped_to o s.cells) s (fault-sound (updated Add y Int (get_or s.cells o (pos 0)) d) s) (λ v u g l. g))

  offered-sound : (i : ℕ) (x : Alt) (s : Store) → IsAlternativeOf (meaning k) x → IsAtSite (length k.sites) x → IsSound k (offered i x) s
  offered-sound i x s h d g l = by (is_above i s.offers) refl
    where
      by : (b : Bool) → is_above i s.offers ≡ b → GoodOutcome k ((if b then set_variables (record { cells = s.cells; offers = s.offers ++ (i, x) ∷ [] }) else index_fault) s l)
      by true e = one-more-good k i x s.offers e h d g
      by false e = (tt, tt)

  in-sound : (i n c : ℕ) (env : Option (List ℤ)) (s : Store) → is_some (slice_get k.transactions c) ≡ true → n < length k.sites → IsSound k (offered_in i n c env) s
  in-sound i n c None s h d = index-sound (Unit {0}) s
  in-sound i n c (Some env) s h d = offered-sound i (alt.Accept c n env) s h d

  is-there : {A : Type 0} (xs : List A) (n : ℕ) → n < length xs → is_some (slice_get xs n) ≡ true
  is-there [] n w = absurd (omega (arith, w))
  is-there (x ∷ xs) zero w = refl
  is-there (x ∷ xs) (suc n) w = is-there xs n (omega (arith, w))

  there-below : {A : Type 0} (xs : List A) (n : ℕ) (x : A) → slice_get xs n ≡ Some x → n < length xs
  there-below [] n x e = cc
  there-below (y ∷ xs) zero x e = omega arith
  there-below (y ∷ xs) (suc n) x e = (let w : n < length xs = there-below xs n x e in omega (arith, w))

  less-from : (a b : ℕ) → nat_lt a b ≡ true → a < b
  less-from a b e = grind (arith, nat_tests)

  accept-sound : (i n : ℕ) (o : Option Site) (s : Store) → slice_get k.sites n ≡ o → has_site k o ≡ true → IsSound k (offered_accept i n o) s
  accept-sound i n None s e h = index-sound (Unit {0}) s
  accept-sound i n (Some site) s e h = λ g l.
      in-sound i n site.trans (environment site.env s.cells) s (is-there k.transactions site.trans (less-from site.trans (length k.transactions) h)) (there-below k.sites n site e) g l

  stored-at-sound : (o : Option Site) (args : List ℤ) (s : Store) → IsSound k (stored_at o args) s
  stored-at-sound None args s = index-sound (Unit {0}) s
  stored-at-sound (Some site) args s = stored-sound args site.into s

  taken-at-sound : (o : Option ℕ) (args : List ℤ) (s : Store) → IsSound k (taken_at k o args) s
  taken-at-sound None args s = λ g l. g
  taken-at-sound (Some n) args s = stored-at-sound (slice_get k.sites n) args s

  taken-sound : (e : Option TableEntry) (h : Grant) (s : Store) → IsSound k (taken_by k e h) s
  taken-sound None h s = index-sound Next s
  taken-sound (Some e) h s = then-sound (taken_at k e.site (args_taken h)) (λ _. go_to e.address []) s (taken-at-sound e.site (args_taken h) s) (λ v u g l. g)

  in-time-sound : (n a : ℕ) (o : Option (List ℤ)) (s : Store) → IsSound k (in_time n a o) s
  in-time-sound n a None s g l = g
  in-time-sound n a (Some vs) s g l = g

  call-sound : (n : ℕ) (h : Grant) (s : Store) → IsSound k (call_cells n h) s
  call-sound n grant.Gone s g l = (tt, tt)
  call-sound n (grant.Value cs) s g l = g
  call-sound n h s g l = g

  timed-sound : (n : ℕ) (h : Grant) (s : Store) → IsSound k (timed_cells n h) s
  timed-sound n grant.Gone s g l = (tt, tt)
  timed-sound n (grant.Value cs) s g l = g
  timed-sound n grant.Late s g l = g
  timed-sound n h s g l = g

  ask-sound : (q : Request) (s : Store) → IsGood k q → IsSound k (ask q) s
  ask-sound q s h g l = by l.grants
    where
      by : (gs : List Grant) → GoodOutcome k (answered gs q s)
      by [] = h
      by (x ∷ gs) = g

  asked-sound : {A : Type 0} (q : Request) (f : Grant → Eval Store A) (s : Store) → IsGood k q → ((h : Grant) (u : Store) → IsSound k (f h) u) → IsSound k (ask q >>= f) s
  asked-sound q f s h go = then-sound (ask q) f s (ask-sound q s h) go

  selected-sound : (s : Store) → IsSound k selected s
  selected-sound s g l = by s.offers g
    where
      by : (xs : List (ℕ × Alt)) → AreGood k xs → GoodOutcome k (select xs (record { cells = s.cells; offers = [] }) l)
      by [] h = (tt, tt)
      by (x ∷ xs) h = ask-sound (request.Select (x ∷ xs)) (record { cells = s.cells; offers = [] }) (((λ e. cc), h.rise, h.of_code), h.at_sites) (none-good k) l

  tick-sound : (s : Store) → IsSound k tick s
  tick-sound s g l = by l.ticks
    where
      by : (n : ℕ) → GoodOutcome k (spent n s l)
      by zero = asked-sound request.Pause (λ h vars left. Through tt vars (record { grants = left.grants; ticks = 999 })) s (tt, tt) (λ h u d m. d) g l
      by (suc n) = g

  -- the cells of what an instruction names
  kind-cells : (parts : List Part) (kind : ℕ) → kind < length parts → slice_get (map (λ (p : Part). p.args) parts) kind ≡ Some ((get_or parts kind no_part).args)
  kind-cells [] kind w = absurd (omega (arith, w))
  kind-cells (p ∷ parts) zero w = refl
  kind-cells (p ∷ parts) (suc kind) w = kind-cells parts kind (omega (arith, w))

  shape-cells : (shapes : List Shape) (t : ℕ) → t < length shapes → option_map (λ (shape : Shape). shape.args) (slice_get shapes t) ≡ Some ((get_or shapes t no_shape).args)
  shape-cells [] t w = absurd (omega (arith, w))
  shape-cells (x ∷ shapes) zero w = refl
  shape-cells (x ∷ shapes) (suc t) w = shape-cells shapes t (omega (arith, w))

  dropped : (n : ℕ) (vs : List ℤ) (m : ℕ) → length vs ≡ n + m → length (drop n vs) ≡ m
  dropped n vs m e = grind (arith, common_steps)

  args-so : (n t : ℕ) (vs : List ℤ) → nat_lt t (length k.transactions) ≡ true → length vs ≡ n + (shape_at k t).args → argument_cells (meaning k) t ≡ Some (length (drop n vs))
  args-so n t vs h e = shape-cells k.transactions t (less-from t (length k.transactions) h) ∙ ap (λ (m : ℕ). Some m) (sym (dropped n vs (shape_at k t).args e))

  module _ (n : ℕ) (s : Store) where
    one-sound : (p : Eval Store ℤ) → IsSound k p s → IsSound k (on_with n p) s
    one-sound p h = then-sound p (λ v. go_to n (v ∷ [])) s h (λ v u g l. g)

    many-sound : (p : Eval Store (List ℤ)) → IsSound k p s → IsSound k (on_with_cells n p) s
    many-sound p h = then-sound p (λ vs. go_to n vs) s h (λ v u g l. g)

    none-sound : (p : Eval Store (Unit {0})) → IsSound k p s → IsSound k (on_after n p) s
    none-sound p h = then-sound p (λ _. go_to n []) s h (λ v u g l. g)

    works-sound : (i : Instr) → names_there k i ≡ true → (vs : List ℤ) → length vs ≡ takes k i → IsSound k (works k n i vs) s
    works-sound (instr.Field o) h vs e = one-sound (or_fault (further (first vs) o)) (fault-sound (further (first vs) o) s)
    works-sound (instr.Index d c) h vs e = one-sound (element d c vs) (element-sound d c vs s)
    works-sound (instr.Fetch m) h vs e = many-sound (at_offset (first vs) (fetched m)) (offset-sound (first vs) (fetched m) s (λ o. fetched-sound m o s))
    works-sound (instr.Put m) h vs e = then-sound (at_offset (first vs) (stored (drop 1 vs))) (λ _. go_to n (drop 1 vs)) s (offset-sound (first vs) (stored (drop 1 vs)) s (λ o. stored-sound (drop 1 vs) o s)) (λ v u g l. g)
    works-sound (instr.Bump y d) h vs e = many-sound (at_offset (first vs) (bumped y d)) (offset-sound (first vs) (bumped y d) s (λ o. bumped-sound y d o s))
    works-sound (instr.Zero o m) h vs e = none-sound (stored (replicate m (pos 0)) o) (stored-sound (replicate m (pos 0)) o s)
    works-sound (instr.Part p c m) h vs e = test-sound (nat_le (p + m) c) (go_to n (take m (drop p vs))) index_fault s (λ g l. g) (index-sound Next s)
    works-sound (instr.Pick d c) h vs e = many-sound (picked d c vs) (picked-sound d c vs s)
    works-sound (instr.Add y) h vs e = one-sound (op Add y vs) (fault-sound (operated Add y (first vs) (second vs)) s)
    works-sound (instr.Sub y) h vs e = one-sound (op Subtract y vs) (fault-sound (operated Subtract y (first vs) (second vs)) s)
    works-sound (instr.Mul y) h vs e = one-sound (op Multiply y vs) (fault-sound (operated Multiply y (first vs) (second vs)) s)
    works-sound (instr.Div y) h vs e = one-sound (op Divide y vs) (fault-sound (operated Divide y (first vs) (second vs)) s)
    works-sound (instr.Rem y) h vs e = one-sound (op Remainder y vs) (fault-sound (operated Remainder y (first vs) (second vs)) s)
    works-sound (instr.Neg y) h vs e = one-sound (or_fault (opposite y (first vs))) (fault-sound (opposite y (first vs)) s)
    works-sound (instr.Narrow y) h vs e = one-sound (or_fault (converted Long y (first vs))) (fault-sound (converted Long y (first vs)) s)
    works-sound instr.Tick h vs e = none-sound tick (tick-sound s)
    works-sound (instr.Create kind) h vs e =
        one-sound (create kind vs)
        (asked-sound (request.Create kind vs) _ s
        (kind-cells k.kinds kind (less-from kind (length k.kinds) h) ∙ ap (λ (m : ℕ). Some m) (sym e), tt) (λ x u g l. g))
    works-sound (instr.Ask t) h vs e =
        many-sound (transact t (shape_at k t).value (first vs) (drop 1 vs))
        (then-sound (or_fault (callee (first vs))) (λ (target : Pid). ask (request.Call target t (drop 1 vs)) >>= call_cells (shape_at k t).value) s (fault-sound (callee (first vs)) s)
        (λ target u. asked-sound (request.Call target t (drop 1 vs)) (call_cells (shape_at k t).value) u (args-so 1 t vs h e, tt) (λ x y. call-sound (shape_at k t).value x y)))
    works-sound (instr.AskWithin t a) h vs e =
        then-sound (transact_within t (shape_at k t).value (first vs) (second vs) (drop 2 vs)) (in_time n a) s
        (then-sound (or_fault (callee (second vs))) (λ (target : Pid). ask (request.TimedCall target t (drop 2 vs) (first vs)) >>= timed_cells (shape_at k t).value) s (fault-sound (callee (second vs)) s)
        (λ target u. asked-sound (request.TimedCall target t (drop 2 vs) (first vs)) (timed_cells (shape_at k t).value) u (args-so 2 t vs h e, tt) (λ x y. timed-sound (shape_at k t).value x y)))
        (λ o u. in-time-sound n a o u)
    works-sound (instr.Send t) h vs e =
        none-sound (send t (first vs) (drop 1 vs))
        (then-sound (or_fault (callee (first vs))) (λ (target : Pid). ask (request.Send target t (drop 1 vs)) >> pure tt) s (fault-sound (callee (first vs)) s)
        (λ target u. asked-sound (request.Send target t (drop 1 vs)) (λ _. pure tt) u (args-so 1 t vs h e, tt) (λ x y g l. g)))
    works-sound instr.SelBegin h vs e = none-sound no_offers (λ g l. none-good k)
    works-sound (instr.OfferAccept i j) h vs e = none-sound (offered_accept i j (slice_get k.sites j)) (accept-sound i j (slice_get k.sites j) s refl h)
    works-sound (instr.OfferAfter i) h vs e = none-sound (offered i (alt.After (first vs))) (offered-sound i (alt.After (first vs)) s tt tt)
    works-sound (instr.OfferNow i) h vs e = none-sound (offered i alt.Now) (offered-sound i alt.Now s tt tt)
    works-sound (instr.OfferEnd i) h vs e = none-sound (offered i alt.Terminate) (offered-sound i alt.Terminate s tt tt)
    works-sound (instr.SelWait j) h vs e = then-sound selected (taken_in k (table_at k j)) s (selected-sound s) (λ x u. taken-sound (entry_of (alternative_taken x) (table_at k j)) x u)
    works-sound instr.Wait h vs e = none-sound (delay (first vs)) (asked-sound (request.Delay (first vs)) (λ _. pure tt) s (tt, tt) (λ x u g l. g))
    works-sound (instr.Reply m) h vs e = none-sound (reply vs) (asked-sound (request.Reply vs) (λ _. pure tt) s (tt, tt) (λ x u g l. g))
    works-sound instr.PutByte h vs e = one-sound (put_byte (first vs)) (asked-sound (request.Print _) _ s (tt, tt) (λ x u g l. g))
    works-sound instr.GetByte h vs e = one-sound get_byte (asked-sound request.Get _ s (tt, tt) (λ x u g l. g))
    works-sound (instr.Format f) h vs e = one-sound (print_format (format_at k f) vs) (asked-sound (request.Print _) _ s (tt, tt) (λ x u g l. g))
    works-sound i h vs e = λ g l. g

  -- what comes of a step, and of a run
  abbrev GoodRan : Ran → Type 0
  GoodRan (Asks q) = IsGood k q
  GoodRan (Yields v) = Unit {0}
  GoodRan Strays = Unit {0}

  abbrev GoodStepped : Stepped → Type 0
  GoodStepped (Goes t) = AreGood k t.store.offers
  GoodStepped (Stops r) = GoodRan r

  popped-sound : (n : ℕ) (stack : List ℤ) (go : List ℤ → List ℤ → Stepped) → ((vs below : List ℤ) → length vs ≡ n → GoodStepped (go vs below)) → GoodStepped (popped n stack go)
  unfolding popped
  popped-sound n stack go h = by (nat_le n (length stack)) refl
    where
      by : (b : Bool) → nat_le n (length stack) ≡ b → GoodStepped (popped_if b n stack go)
      by true e = h (drop (length stack - n) stack) (take (length stack - n) stack) (let w : n ≤ length stack = grind (arith, nat_tests) in let d : length stack ≡ (length stack - n) + n = omega (arith, w) in dropped (length stack - n) stack n d)
      by false e = tt

  bounded-sound : (t : Stepped) → GoodStepped t → GoodStepped (within_bound t)
  bounded-sound (Goes t) h = by (nat_le t.count most_steps)
    where
      by : (b : Bool) → GoodStepped (if b then Goes t else Stops (Asks (request.Fault Depth)))
      by true = h
      by false = (tt, tt)
  bounded-sound (Stops r) h = h

  module _ (s : State) (good : AreGood k s.store.offers) where
    after-sound : (b : Bool) (below : List ℤ) (o : Outcome Store Next) → GoodOutcome k o → GoodStepped (after b s below o)
    after-sound b below (Through v u l) h = h
    after-sound b below (Asked q) h = h

    worked-sound : (i : Instr) → names_there k i ≡ true → GoodStepped (worked k i s)
    worked-sound i h =
        popped-sound (takes k i) s.stack (worked_on k i s)
        (λ vs below e. after-sound (renews i) below (works k (s.address + 1) i vs s.store s.left) (works-sound (s.address + 1) s.store i h vs e good s.left))

    called-sound : (p : Option Part) → GoodStepped (called p s)
    called-sound None = tt
    called-sound (Some p) = by (nat_le most_calls (length s.frames)) (nat_lt most_cells (length s.store.cells + cells_below s.frames + p.cells)) (nat_lt p.cells p.args)
      where
        by : (a b c : Bool) → GoodStepped (called_if a b c p s)
        by true b c = (tt, tt)
        by false true c = (tt, tt)
        by false false true = (tt, tt)
        by false false false = popped-sound p.args s.stack (called_with p s) (λ vs below e. good)

    returned-sound : (frames : List Frame) (vs : List ℤ) → GoodStepped (returned_to frames s vs)
    returned-sound [] vs = tt
    returned-sound (f ∷ frames) vs = good

    performed-sound : (i : Instr) → names_there k i ≡ true → GoodStepped (performed k i s)
    performed-sound (instr.Call f) h = called-sound (slice_get k.functions f)
    performed-sound (instr.Ret n) h = popped-sound n s.stack (λ vs below. returned_to s.frames s vs) (λ vs below e. returned-sound s.frames vs)
    performed-sound instr.Yield h = popped-sound 1 s.stack (λ vs below. Stops (Yields (first vs))) (λ vs below e. tt)
    performed-sound instr.End h = (tt, tt)
    performed-sound i h = worked-sound i h

  module _ (named : list_all (names_there k) k.instrs ≡ true) where
    instr-named : (at : ℕ) (i : Instr) → slice_get k.instrs at ≡ Some i → names_there k i ≡ true
    instr-named at i e =
        subst (λ (x : Instr). names_there k x ≡ true) (get_or_from_slice_get k.instrs at i i e)
        (AllPass-from_list_all (names_there k) k.instrs named at i (there-below k.instrs at i e))

    step-sound : (s : State) → AreGood k s.store.offers → GoodStepped (step k s)
    step-sound s good = by (slice_get k.instrs s.address) refl
      where
        by : (o : Option Instr) → slice_get k.instrs s.address ≡ o → GoodStepped (stepped k o s)
        by None e = tt
        by (Some i) e = bounded-sound (performed k i s) (performed-sound s good i (instr-named s.address i e))

    run-sound : (n : ℕ) (s : State) → AreGood k s.store.offers → GoodRan (run k n s)
    unfolding run
    run-sound zero s good = (tt, tt)
    run-sound (suc n) s good = by (step k s) (step-sound s good) (λ t h. run-sound n t h)
      where
        by : (t : Stepped) → GoodStepped t → ((u : State) → AreGood k u.store.offers → GoodRan (run k n u)) → GoodRan (and_on (run k n) t)
        by (Goes t) h go = go t h
        by (Stops r) h go = h

    process-sound : (o : Option Part) (args : List ℤ) (grants : List Grant) → GoodRan (process k o args grants)
    unfolding goes_on
    process-sound None args grants = (tt, tt)
    process-sound (Some p) args grants = by (nat_lt most_cells p.cells) (nat_lt p.cells p.args)
      where
        begun : State
        begun = begins p.entry (cells_at_start p args) (left_at_start grants)

        by : (a b : Bool) → GoodRan (if a then Asks (request.Fault Cells) else (if b then Asks (request.Fault Index) else goes_on k begun))
        by true b = (tt, tt)
        by false true = (tt, tt)
        by false false = run-sound (enough begun) begun (none-good k)

    requested-good : (r : Ran) → GoodRan r → IsGood k (request_of r)
    requested-good (Asks q) h = h
    requested-good (Yields v) h = (tt, tt)
    requested-good Strays h = (tt, tt)

    act-good : (kind : ℕ) (args : List ℤ) (grants : List Grant) → IsGood k (act k kind args grants)
    unfolding act
    act-good kind args grants = requested-good (process k (slice_get k.kinds kind) args grants) (process-sound (slice_get k.kinds kind) args grants)

-- beyond the last site no call fits
past-fits : (k : RawCode) (site : ℕ) (env args : List ℤ) → length k.sites ≤ site → fit k site env args ≡ None
unfolding fit
past-fits k site env args past = ap (λ (o : Option Site). rank_at k o env args) (past-none k.sites site past)
  where
    past-none : (xs : List Site) (n : ℕ) → length xs ≤ n → slice_get xs n ≡ None
    past-none [] n w = refl
    past-none (x ∷ xs) zero w = absurd (omega (arith, w))
    past-none (x ∷ xs) (suc n) w = past-none xs n (omega (arith, w))

main-args : (kinds : List Part) → has_main kinds ≡ true → slice_get (map (λ (p : Part). p.args) kinds) 0 ≡ Some 0
main-args [] e = absurd (let f : false ≡ true = e in cc)
main-args (p ∷ kinds) e = ap (λ (n : ℕ). Some n) (let z : p.args ≡ 0 = grind (arith, nat_tests) in z)

and-left : (a b : Bool) → (a && b) ≡ true → a ≡ true
and-left true b e = refl
and-left false b e = e

and-right : (a b : Bool) → (a && b) ≡ true → b ≡ true
and-right true b e = e
and-right false b e = absurd (let f : false ≡ true = e in cc)

whole-form : (k : RawCode) → is_whole k ≡ true → WellFormed (meaning k)
unfolding is_whole
whole-form k e =
    record {
      main = main-args k.kinds (and-left _ _ e);
      requests = λ kind args grants exists proper. (act-good k (and-right (has_main k.kinds) _ e) kind args grants).0;
    }

whole-sites : (k : RawCode) → is_whole k ≡ true → HasSites (meaning k) (length k.sites)
unfolding is_whole
whole-sites k e =
    record {
      names = λ kind args grants exists proper. (act-good k (and-right (has_main k.kinds) _ e) kind args grants).1;
      fits = λ site env args past. past-fits k site env args past;
    }

other-formed : (k : RawCode) → WellFormed (other_meaning k)
other-formed k = record { main = refl; requests = λ kind args grants exists proper. tt }

other-sites : (k : RawCode) → HasSites (other_meaning k) (length k.sites)
other-sites k = record { names = λ kind args grants exists proper. tt; fits = λ site env args past. past-fits k site env args past }

pub image_form : (k : RawCode) → WellFormed (image_meaning k)
image_form k = go (is_whole k) refl
  where
    go : (b : Bool) → is_whole k ≡ b → WellFormed (if b then meaning k else other_meaning k)
    go true e = whole-form k e
    go false e = other-formed k

pub image_has_sites : (k : RawCode) → HasSites (image_meaning k) (image_sites k)
image_has_sites k = go (is_whole k) refl
  where
    go : (b : Bool) → is_whole k ≡ b → HasSites (if b then meaning k else other_meaning k) (length k.sites)
    go true e = whole-sites k e
    go false e = other-sites k

-- verified code is whole
less-so : (a b : ℕ) → a < b → nat_lt a b ≡ true
less-so a b h = grind (arith, nat_tests)

site-so : (k : RawCode) (o : Option Site) → HasSite k o → has_site k o ≡ true
site-so k None h = absurd h
site-so k (Some s) h = less-so s.trans (length k.transactions) h

named-so : (k : RawCode) (i : Instr) → NamesWhatIsThere k i → names_there k i ≡ true
named-so k (instr.Create kind) h = less-so kind (length k.kinds) h
named-so k (instr.Ask t) h = less-so t (length k.transactions) h.0
named-so k (instr.AskWithin t a) h = less-so t (length k.transactions) h.0
named-so k (instr.Send t) h = less-so t (length k.transactions) h.0
named-so k (instr.OfferAccept i s) h = site-so k (slice_get k.sites s) h
named-so k i h = refl

main-so : (kinds : List Part) → HasMain kinds → has_main kinds ≡ true
main-so [] h = absurd h
main-so (p ∷ kinds) h = grind (arith, nat_tests)

pub verified-whole : (k : RawCode) → IsVerified k → is_whole k ≡ true
unfolding is_whole
verified-whole k verified =
    ap (λ (b : Bool). b && list_all (names_there k) k.instrs) (main-so k.kinds ((verified 0 rule.Table).whole refl))
    ∙ list_all-from_AllPass (names_there k) k.instrs (λ at d w. named-so k (get_or k.instrs at d) ((verified at rule.Table).each (get_or k.instrs at d) (slice_get-get_or k.instrs at d w)).0)

pub image-means : (k : RawCode) → IsVerified k → image_meaning k ≡ meaning k
image-means k verified = ap (λ (b : Bool). if b then meaning k else other_meaning k) (verified-whole k verified)

pub image-fits : (k : RawCode) (site : ℕ) (env args : List ℤ) → (image_meaning k).fit site env args ≡ fit k site env args
image-fits k site env args = by (is_whole k)
  where
    by : (b : Bool) → (if b then meaning k else other_meaning k).fit site env args ≡ fit k site env args
    by true = refl
    by false = refl
