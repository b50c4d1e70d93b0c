-- An instruction looks at no grant but the next, and at that only where it asks; and what it spends of the grants and ticks.
use Rattle.std.proofs.Common.{◌≡◌, ℕ, ℤ, pos, negsuc, zero, suc, ◌+◌, ◌-◌, ◌*◌, inl, inr, Bool, true, false, List, [], ◌∷◌, ◌++◌, length, drop, take, replicate, get_or, Option, Some, None, Result, Ok, Err, refl, sym, ◌∙◌, ap, subst, arith}
use Rattle.std.specs.Prelude.{slice_get, nat_le, if◌then◌else◌}
use Rattle.cc_base.specs.Granted.{or_fault, create, transact, transact_within, send, select, delay, reply, put_byte, get_byte, print_format, call_cells, timed_cells, args_taken, alternative_taken}
use Rattle.cc_base.specs.Limits.{ticks_granted}
use Rattle.cc_base.specs.Numbers.{callee, converted, indexed, operated, opposite, updated}
use Rattle.cc_base.specs.Outcome.{Left, Outcome, Through, Asked, Eval, ◌>>=◌, ◌>>◌, and_then, ask, pure, set_variables, tick}
use Rattle.cc_base.specs.declared.alternatives.Alt.{Alt}
use Rattle.cc_base.specs.declared.alternatives.Alt.TheVariants as alt
use Rattle.cc_base.specs.declared.names.FaultKind.{FaultKind}
use Rattle.cc_base.specs.declared.names.FaultKind.TheVariants.{CalleeGone, Index, NoAlternative}
use Rattle.cc_base.specs.declared.names.Pid.{Pid}
use Rattle.cc_base.specs.declared.numbers.NumberType.{NumberType}
use Rattle.cc_base.specs.declared.numbers.NumberType.TheVariants.{Int, Long}
use Rattle.cc_base.specs.declared.numbers.Operator.TheVariants.{Add, Subtract, Multiply, Divide, Remainder}
use Rattle.cc_base.specs.declared.request.Grant.{Grant}
use Rattle.cc_base.specs.declared.request.Grant.TheVariants as grant
use Rattle.cc_base.specs.declared.request.Request.{Request}
use Rattle.cc_base.specs.declared.request.Request.TheVariants as request
use Rattle.cc_code.specs.Operands.{format_at, shape_at}
use Rattle.cc_code.specs.Standing.{Leaves, LeavesIf, TakesGrant}
use Rattle.cc_code.specs.Steps.{renews}
use Rattle.cc_code.specs.Works.{Store, at_offset, bumped, bumped_in, bumped_to, element, element_cells, element_offset, entry_of, environment, fetched, fetched_in, first, further, go_to, if_within, in_time, is_above, is_within, no_offers, offered, offered_accept, offered_in, on_after, on_with, on_with_cells, op, index_fault, second, picked, selected, stored, stored_at, stored_in, table_at, taken_at, taken_by, taken_in, with_cells, works}
use Rattle.cc_code.specs.declared.code.RawCode.{RawCode}
use Rattle.cc_code.specs.declared.code.Site.{Site}
use Rattle.cc_code.specs.declared.code.TableEntry.{TableEntry}
use Rattle.cc_code.specs.declared.instr.Instr.{Instr}
use Rattle.cc_code.specs.declared.instr.Instr.TheVariants as instr

abbrev pub left_of : List Grant → ℕ → Left
left_of grants ticks = record { grants = grants; ticks = ticks }

-- whatever grants are left, it takes none: with t ticks it is a fault, or gives a value and leaves a ticks
pub data Quiet {A : Type 0} (t a : ℕ) (p : Eval Store A) (s : Store) : Type 0 where
  fails : (kind : FaultKind) → ((gs : List Grant) → p s (left_of gs t) ≡ Asked (request.Fault kind)) → Quiet t a p s
  passes : (v : A) (u : Store) → ((gs : List Grant) → p s (left_of gs t) ≡ Through v u (left_of gs a)) → Quiet t a p s

-- it takes the grant g, whatever comes after that
pub data Answered {A : Type 0} (t a : ℕ) (g : Grant) (p : Eval Store A) (s : Store) : Type 0 where
  breaks : (kind : FaultKind) → ((gs : List Grant) → p s (left_of (g ∷ gs) t) ≡ Asked (request.Fault kind)) → Answered t a g p s
  takes-one : (v : A) (u : Store) → ((gs : List Grant) → p s (left_of (g ∷ gs) t) ≡ Through v u (left_of gs a)) → Answered t a g p s

-- it is a fault before it asks, or asks for a grant and takes it
pub data Asking {A : Type 0} (t a : ℕ) (p : Eval Store A) (s : Store) : Type 0 where
  refuses : (kind : FaultKind) → ((gs : List Grant) → p s (left_of gs t) ≡ Asked (request.Fault kind)) → Asking t a p s
  asks : (q : Request) → p s (left_of [] t) ≡ Asked q → ((g : Grant) → Answered t a g p s) → Asking t a p s

module _ {A B : Type 0} (t a b : ℕ) (s : Store) (p : Eval Store A) (f : A → Eval Store B) where
  quiet-then : Quiet t a p s → ((v : A) (u : Store) → Quiet a b (f v) u) → Quiet t b (p >>= f) s
  quiet-then (fails kind e) h = fails kind (λ gs. ap (λ (o : Outcome Store A). and_then o f) (e gs))
  quiet-then (passes v u e) h = go (h v u)
    where
      go : Quiet a b (f v) u → Quiet t b (p >>= f) s
      go (fails kind d) = fails kind (λ gs. ap (λ (o : Outcome Store A). and_then o f) (e gs) ∙ d gs)
      go (passes w x d) = passes w x (λ gs. ap (λ (o : Outcome Store A). and_then o f) (e gs) ∙ d gs)

  quiet-asking : Quiet t a p s → ((v : A) (u : Store) → Asking a b (f v) u) → Asking t b (p >>= f) s
  quiet-asking (fails kind e) h = refuses kind (λ gs. ap (λ (o : Outcome Store A). and_then o f) (e gs))
  quiet-asking (passes v u e) h = go (h v u)
    where
      on : (g : Grant) → Answered a b g (f v) u → Answered t b g (p >>= f) s
      on g (breaks kind d) = breaks kind (λ gs. ap (λ (o : Outcome Store A). and_then o f) (e (g ∷ gs)) ∙ d gs)
      on g (takes-one w x d) = takes-one w x (λ gs. ap (λ (o : Outcome Store A). and_then o f) (e (g ∷ gs)) ∙ d gs)

      go : Asking a b (f v) u → Asking t b (p >>= f) s
      go (refuses kind d) = refuses kind (λ gs. ap (λ (o : Outcome Store A). and_then o f) (e gs) ∙ d gs)
      go (asks q d r) = asks q (ap (λ (o : Outcome Store A). and_then o f) (e []) ∙ d) (λ g. on g (r g))

  asking-then : Asking t a p s → ((v : A) (u : Store) → Quiet a b (f v) u) → Asking t b (p >>= f) s
  asking-then (refuses kind e) h = refuses kind (λ gs. ap (λ (o : Outcome Store A). and_then o f) (e gs))
  asking-then (asks q e r) h = asks q (ap (λ (o : Outcome Store A). and_then o f) e) (λ g. go g (r g))
    where
      on : (g : Grant) (v : A) (u : Store) → ((gs : List Grant) → p s (left_of (g ∷ gs) t) ≡ Through v u (left_of gs a)) → Quiet a b (f v) u → Answered t b g (p >>= f) s
      on g v u d (fails kind c) = breaks kind (λ gs. ap (λ (o : Outcome Store A). and_then o f) (d gs) ∙ c gs)
      on g v u d (passes w x c) = takes-one w x (λ gs. ap (λ (o : Outcome Store A). and_then o f) (d gs) ∙ c gs)

      go : (g : Grant) → Answered t a g p s → Answered t b g (p >>= f) s
      go g (breaks kind d) = breaks kind (λ gs. ap (λ (o : Outcome Store A). and_then o f) (d gs))
      go g (takes-one v u d) = on g v u d (h v u)

module _ (t : ℕ) where
  at-once : {A : Type 0} (v : A) (s : Store) → Quiet t t (pure v) s
  at-once v s = passes v s (λ gs. refl)

  stays-index : {A : Type 0} (s : Store) → Quiet {A = A} t t index_fault s
  stays-index s = fails Index (λ gs. refl)

  fault-quiet : {A : Type 0} (r : Result A FaultKind) (s : Store) → Quiet t t (or_fault r) s
  fault-quiet (Ok a) s = passes a s (λ gs. refl)
  fault-quiet (Err kind) s = fails kind (λ gs. refl)

  test-quiet : {A : Type 0} (b : Bool) (p q : Eval Store A) (s : Store) → Quiet t t p s → Quiet t t q s → Quiet t t (if b then p else q) s
  test-quiet true p q s h k = h
  test-quiet false p q s h k = k

  within-quiet : {A : Type 0} (o n : ℕ) (go : List ℤ → Eval Store A) (s : Store) → Quiet t t (go s.cells) s → Quiet t t (if_within o n go) s
  within-quiet o n go s h = by (test-quiet (is_within o n s.cells) (go s.cells) index_fault s h (stays-index s))
    where
      by : Quiet t t (if is_within o n s.cells then go s.cells else index_fault) s → Quiet t t (if_within o n go) s
      by (fails kind e) = fails kind e
      by (passes v u e) = passes v u e

  offset-quiet : {A : Type 0} (o : ℤ) (go : ℕ → Eval Store A) (s : Store) → ((o : ℕ) → Quiet t t (go o) s) → Quiet t t (at_offset o go) s
  offset-quiet (pos o) go s h = h o
  offset-quiet (negsuc o) go s h = fails Index (λ gs. refl)

  stored-quiet : (new : List ℤ) (o : ℕ) (s : Store) → Quiet t t (stored new o) s
  stored-quiet new o s = within-quiet o (length new) (stored_in new o) s (passes tt (record { cells = with_cells o new s.cells; offers = s.offers }) (λ gs. refl))

  fetched-quiet : (n o : ℕ) (s : Store) → Quiet t t (fetched n o) s
  fetched-quiet n o s = within-quiet o n (fetched_in n o) s (at-once _ s)

  element-quiet : (d n : ℕ) (vs : List ℤ) (s : Store) → Quiet t t (element d n vs) s
  element-quiet d n vs s = quiet-then t t t s (or_fault (indexed d (second vs))) (element_offset n vs) (fault-quiet (indexed d (second vs)) s) (λ i u. fault-quiet (further (first vs) (i * n)) u)

  picked-quiet : (d n : ℕ) (vs : List ℤ) (s : Store) → Quiet t t (picked d n vs) s
  picked-quiet d n vs s = quiet-then t t t s (or_fault (indexed d (get_or vs (d * n) (pos 0)))) (element_cells n vs) (fault-quiet (indexed d (get_or vs (d * n) (pos 0))) s) (λ i u. at-once _ u)

  bumped-quiet : (y : NumberType) (d : ℤ) (o : ℕ) (s : Store) → Quiet t t (bumped y d o) s
  bumped-quiet y d o s =
      within-quiet o 1 (bumped_in y d o) s (quiet-then t t t s (or_fault (updated Add y Int (get_or s.cells o (pos 0)) d)) (bumped_to o s.cells) (fault-quiet (updated Add y Int (get_or s.cells o (pos 0)) d) s)
      (λ v u. passes (get_or s.cells o (pos 0) ∷ []) (record { cells = with_cells o (v ∷ []) s.cells; offers = u.offers }) (λ gs. refl)))

  abbrev offered-if : (b : Bool) (i : ℕ) (x : Alt) (s : Store) → Eval Store (Unit {0})
  offered-if b i x s = if b then set_variables (record { cells = s.cells; offers = s.offers ++ (i, x) ∷ [] }) else index_fault

  offered-quiet : (i : ℕ) (x : Alt) (s : Store) → Quiet t t (offered i x) s
  offered-quiet i x s = by (is_above i s.offers) refl
    where
      by : (b : Bool) → is_above i s.offers ≡ b → Quiet t t (offered i x) s
      by true e = passes tt (record { cells = s.cells; offers = s.offers ++ (i, x) ∷ [] }) (λ gs. ap (λ (b : Bool). offered-if b i x s s (left_of gs t)) e)
      by false e = fails Index (λ gs. ap (λ (b : Bool). offered-if b i x s s (left_of gs t)) e)

  in-quiet : (i n c : ℕ) (env : Option (List ℤ)) (s : Store) → Quiet t t (offered_in i n c env) s
  in-quiet i n c None s = fails Index (λ gs. refl)
  in-quiet i n c (Some env) s = offered-quiet i (alt.Accept c n env) s

  accept-quiet : (i n : ℕ) (site : Option Site) (s : Store) → Quiet t t (offered_accept i n site) s
  accept-quiet i n None s = fails Index (λ gs. refl)
  accept-quiet i n (Some site) s = by (in-quiet i n site.trans (environment site.env s.cells) s)
    where
      by : Quiet t t (offered_in i n site.trans (environment site.env s.cells)) s → Quiet t t (offered_accept i n (Some site)) s
      by (fails kind e) = fails kind e
      by (passes v u e) = passes v u e

  stored_at-quiet : (site : Option Site) (args : List ℤ) (s : Store) → Quiet t t (stored_at site args) s
  stored_at-quiet None args s = fails Index (λ gs. refl)
  stored_at-quiet (Some site) args s = stored-quiet args site.into s

  taken_at-quiet : (k : RawCode) (site : Option ℕ) (args : List ℤ) (s : Store) → Quiet t t (taken_at k site args) s
  taken_at-quiet k None args s = passes tt s (λ gs. refl)
  taken_at-quiet k (Some n) args s = stored_at-quiet (slice_get k.sites n) args s

  taken-quiet : (k : RawCode) (e : Option TableEntry) (g : Grant) (s : Store) → Quiet t t (taken_by k e g) s
  taken-quiet k None g s = fails Index (λ gs. refl)
  taken-quiet k (Some e) g s = quiet-then t t t s (taken_at k e.site (args_taken g)) (λ _. go_to e.address []) (taken_at-quiet k e.site (args_taken g) s) (λ v u. at-once _ u)

  in_time-quiet : (n a : ℕ) (o : Option (List ℤ)) (s : Store) → Quiet t t (in_time n a o) s
  in_time-quiet n a None s = at-once _ s
  in_time-quiet n a (Some vs) s = at-once _ s

  call-quiet : (n : ℕ) (g : Grant) (s : Store) → Quiet t t (call_cells n g) s
  call-quiet n grant.Gone s = fails CalleeGone (λ gs. refl)
  call-quiet n (grant.Value cs) s = passes cs s (λ gs. refl)
  call-quiet n g s = passes (replicate n (pos 0)) s (λ gs. refl)

  timed-quiet : (n : ℕ) (g : Grant) (s : Store) → Quiet t t (timed_cells n g) s
  timed-quiet n grant.Gone s = fails CalleeGone (λ gs. refl)
  timed-quiet n (grant.Value cs) s = passes (Some cs) s (λ gs. refl)
  timed-quiet n grant.Late s = passes None s (λ gs. refl)
  timed-quiet n g s = passes (Some (replicate n (pos 0))) s (λ gs. refl)

  ask-asking : (q : Request) (s : Store) → Asking t ticks_granted (ask q) s
  ask-asking q s = asks q refl (λ g. takes-one g s (λ gs. refl))

  -- a request, and then what comes of its grant
  module _ {A : Type 0} (q : Request) (f : Grant → Eval Store A) (s : Store) where
    asked-then : ((g : Grant) (u : Store) → Quiet ticks_granted ticks_granted (f g) u) → Asking t ticks_granted (ask q >>= f) s
    asked-then h = asking-then t ticks_granted ticks_granted s (ask q) f (ask-asking q s) h

module _ (t : ℕ) (s : Store) where
  create-asking : (kind : ℕ) (args : List ℤ) → Asking t ticks_granted (create kind args) s
  create-asking kind args = asked-then t (request.Create kind args) _ s (λ g u. at-once ticks_granted _ u)

  transact-asking : (c n : ℕ) (p : ℤ) (args : List ℤ) → Asking t ticks_granted (transact c n p args) s
  transact-asking c n p args = quiet-asking t t ticks_granted s (or_fault (callee p)) (λ (target : Pid). ask (request.Call target c args) >>= call_cells n) (fault-quiet t (callee p) s)
      (λ target u. asked-then t (request.Call target c args) (call_cells n) u (λ g x. call-quiet ticks_granted n g x))

  transact_within-asking : (c n : ℕ) (w p : ℤ) (args : List ℤ) → Asking t ticks_granted (transact_within c n w p args) s
  transact_within-asking c n w p args = quiet-asking t t ticks_granted s (or_fault (callee p)) (λ (target : Pid). ask (request.TimedCall target c args w) >>= timed_cells n) (fault-quiet t (callee p) s)
      (λ target u. asked-then t (request.TimedCall target c args w) (timed_cells n) u (λ g x. timed-quiet ticks_granted n g x))

  send-asking : (c : ℕ) (p : ℤ) (args : List ℤ) → Asking t ticks_granted (send c p args) s
  send-asking c p args = quiet-asking t t ticks_granted s (or_fault (callee p)) (λ (target : Pid). ask (request.Send target c args) >> pure tt) (fault-quiet t (callee p) s)
      (λ target u. asked-then t (request.Send target c args) (λ _. pure tt) u (λ g x. at-once ticks_granted tt x))

  delay-asking : (w : ℤ) → Asking t ticks_granted (delay w) s
  delay-asking w = asked-then t (request.Delay w) (λ _. pure tt) s (λ g u. at-once ticks_granted tt u)

  reply-asking : (vs : List ℤ) → Asking t ticks_granted (reply vs) s
  reply-asking vs = asked-then t (request.Reply vs) (λ _. pure tt) s (λ g u. at-once ticks_granted tt u)

  put-asking : (n : ℤ) → Asking t ticks_granted (put_byte n) s
  put-asking n = asked-then t (request.Print _) _ s (λ g u. at-once ticks_granted _ u)

  get-asking : Asking t ticks_granted get_byte s
  get-asking = asked-then t request.Get _ s (λ g u. at-once ticks_granted _ u)

  print-asking : (f : List ℕ) (ns : List ℤ) → Asking t ticks_granted (print_format f ns) s
  print-asking f ns = asked-then t (request.Print _) _ s (λ g u. at-once ticks_granted _ u)

  -- the select of these alternatives, none of which is open then
  selected-asking : Asking t ticks_granted selected s
  selected-asking = by s.offers refl
    where
      by : (alts : List (ℕ × Alt)) → s.offers ≡ alts → Asking t ticks_granted selected s
      by [] e = refuses NoAlternative (λ gs. ap (λ (alts : List (ℕ × Alt)). select alts (record { cells = s.cells; offers = [] }) (left_of gs t)) e)
      by (x ∷ alts) e = asks (request.Select (x ∷ alts)) (ap (λ (alts : List (ℕ × Alt)). select alts (record { cells = s.cells; offers = [] }) (left_of [] t)) e)
          (λ g. takes-one g (record { cells = s.cells; offers = [] }) (λ gs. ap (λ (alts : List (ℕ × Alt)). select alts (record { cells = s.cells; offers = [] }) (left_of (g ∷ gs) t)) e))

-- a tick: where one is left it is spent, and else a pause is asked
abbrev pub Ticking : {A : Type 0} → ℕ → Eval Store A → Store → Type 0
Ticking (suc n) p s = Quiet (suc n) n p s
Ticking zero p s = Asking 0 (ticks_granted - 1) p s

abbrev pub LocalIf : {A : Type 0} → Bool → ℕ → Eval Store A → Store → Type 0
LocalIf true t p s = Asking t ticks_granted p s
LocalIf false t p s = Quiet t t p s

-- what an instruction looks at and leaves of the grants and ticks
abbrev pub Local : {A : Type 0} → Instr → ℕ → Eval Store A → Store → Type 0
Local instr.Tick t p s = Ticking t p s
Local i t p s = LocalIf (renews i) t p s

module _ (n t : ℕ) (s : Store) where
  one : (p : Eval Store ℤ) → Quiet t t p s → Quiet t t (on_with n p) s
  one p h = quiet-then t t t s p (λ v. go_to n (v ∷ [])) h (λ v u. at-once t _ u)

  many : (p : Eval Store (List ℤ)) → Quiet t t p s → Quiet t t (on_with_cells n p) s
  many p h = quiet-then t t t s p (λ vs. go_to n vs) h (λ v u. at-once t _ u)

  none : (p : Eval Store (Unit {0})) → Quiet t t p s → Quiet t t (on_after n p) s
  none p h = quiet-then t t t s p (λ _. go_to n []) h (λ v u. at-once t _ u)

  asked-one : (p : Eval Store ℤ) → Asking t ticks_granted p s → Asking t ticks_granted (on_with n p) s
  asked-one p h = asking-then t ticks_granted ticks_granted s p (λ v. go_to n (v ∷ [])) h (λ v u. at-once ticks_granted _ u)

  asked-many : (p : Eval Store (List ℤ)) → Asking t ticks_granted p s → Asking t ticks_granted (on_with_cells n p) s
  asked-many p h = asking-then t ticks_granted ticks_granted s p (λ vs. go_to n vs) h (λ v u. at-once ticks_granted _ u)

  asked-none : (p : Eval Store (Unit {0})) → Asking t ticks_granted p s → Asking t ticks_granted (on_after n p) s
  asked-none p h = asking-then t ticks_granted ticks_granted s p (λ _. go_to n []) h (λ v u. at-once ticks_granted _ u)

tick-local : (n t : ℕ) (s : Store) → Ticking t (on_after n tick) s
tick-local n zero s = asking-then 0 (ticks_granted - 1) (ticks_granted - 1) s tick (λ _. go_to n []) (asks request.Pause refl (λ g. takes-one tt s (λ gs. refl))) (λ v u. at-once (ticks_granted - 1) _ u)
tick-local n (suc m) s = passes (record { address = n; given = [] }) s (λ gs. refl)

pub works-local : (k : RawCode) (n : ℕ) (i : Instr) (vs : List ℤ) (t : ℕ) (s : Store) → Local i t (works k n i vs) s
works-local k n (instr.Const v) vs t s = passes _ s (λ gs. refl)
works-local k n (instr.Zeros m) vs t s = at-once t _ s
works-local k n (instr.Drop m) vs t s = at-once t _ s
works-local k n instr.Dup vs t s = at-once t _ s
works-local k n (instr.Field o) vs t s = one n t s (or_fault (further (first vs) o)) (fault-quiet t (further (first vs) o) s)
works-local k n (instr.Index d e) vs t s = one n t s (element d e vs) (element-quiet t d e vs s)
works-local k n (instr.Fetch m) vs t s = many n t s (at_offset (first vs) (fetched m)) (offset-quiet t (first vs) (fetched m) s (λ o. fetched-quiet t m o s))
works-local k n (instr.Put m) vs t s = quiet-then t t t s (at_offset (first vs) (stored (drop 1 vs))) (λ _. go_to n (drop 1 vs)) (offset-quiet t (first vs) (stored (drop 1 vs)) s (λ o. stored-quiet t (drop 1 vs) o s)) (λ v u. at-once t _ u)
works-local k n (instr.Bump y d) vs t s = many n t s (at_offset (first vs) (bumped y d)) (offset-quiet t (first vs) (bumped y d) s (λ o. bumped-quiet t y d o s))
works-local k n (instr.Zero o m) vs t s = none n t s (stored (replicate m (pos 0)) o) (stored-quiet t (replicate m (pos 0)) o s)
works-local k n (instr.Part p c m) vs t s = test-quiet t (nat_le (p + m) c) (go_to n (take m (drop p vs))) index_fault s (at-once t _ s) (stays-index t s)
works-local k n (instr.Pick d e) vs t s = many n t s (picked d e vs) (picked-quiet t d e vs s)
works-local k n (instr.Add y) vs t s = one n t s (op Add y vs) (fault-quiet t (operated Add y (first vs) (second vs)) s)
works-local k n (instr.Sub y) vs t s = one n t s (op Subtract y vs) (fault-quiet t (operated Subtract y (first vs) (second vs)) s)
works-local k n (instr.Mul y) vs t s = one n t s (op Multiply y vs) (fault-quiet t (operated Multiply y (first vs) (second vs)) s)
works-local k n (instr.Div y) vs t s = one n t s (op Divide y vs) (fault-quiet t (operated Divide y (first vs) (second vs)) s)
works-local k n (instr.Rem y) vs t s = one n t s (op Remainder y vs) (fault-quiet t (operated Remainder y (first vs) (second vs)) s)
works-local k n (instr.Neg y) vs t s = one n t s (or_fault (opposite y (first vs))) (fault-quiet t (opposite y (first vs)) s)
works-local k n instr.Lt vs t s = at-once t _ s
works-local k n instr.Le vs t s = at-once t _ s
works-local k n instr.Gt vs t s = at-once t _ s
works-local k n instr.Ge vs t s = at-once t _ s
works-local k n instr.Eq vs t s = at-once t _ s
works-local k n instr.Ne vs t s = at-once t _ s
works-local k n instr.Not vs t s = at-once t _ s
works-local k n (instr.Narrow y) vs t s = one n t s (or_fault (converted Long y (first vs))) (fault-quiet t (converted Long y (first vs)) s)
works-local k n (instr.Jump a) vs t s = at-once t _ s
works-local k n (instr.JumpZero a) vs t s = at-once t _ s
works-local k n instr.Tick vs t s = tick-local n t s
works-local k n (instr.Call f) vs t s = at-once t _ s
works-local k n (instr.Ret m) vs t s = at-once t _ s
works-local k n (instr.Create kind) vs t s = asked-one n t s (create kind vs) (create-asking t s kind vs)
works-local k n (instr.Ask c) vs t s = asked-many n t s (transact c (shape_at k c).value (first vs) (drop 1 vs)) (transact-asking t s c (shape_at k c).value (first vs) (drop 1 vs))
works-local k n (instr.AskWithin c a) vs t s =
    asking-then t ticks_granted ticks_granted s (transact_within c (shape_at k c).value (first vs) (second vs) (drop 2 vs)) (in_time n a) (transact_within-asking t s c (shape_at k c).value (first vs) (second vs) (drop 2 vs)) (λ o u. in_time-quiet ticks_granted n a o u)
works-local k n (instr.Send c) vs t s = asked-none n t s (send c (first vs) (drop 1 vs)) (send-asking t s c (first vs) (drop 1 vs))
works-local k n instr.SelBegin vs t s = none n t s no_offers (passes tt (record { cells = s.cells; offers = [] }) (λ gs. refl))
works-local k n (instr.OfferAccept i j) vs t s = none n t s (offered_accept i j (slice_get k.sites j)) (accept-quiet t i j (slice_get k.sites j) s)
works-local k n (instr.OfferAfter i) vs t s = none n t s (offered i (alt.After (first vs))) (offered-quiet t i (alt.After (first vs)) s)
works-local k n (instr.OfferNow i) vs t s = none n t s (offered i alt.Now) (offered-quiet t i alt.Now s)
works-local k n (instr.OfferEnd i) vs t s = none n t s (offered i alt.Terminate) (offered-quiet t i alt.Terminate s)
works-local k n (instr.SelWait j) vs t s = asking-then t ticks_granted ticks_granted s selected (taken_in k (table_at k j)) (selected-asking t s) (λ g u. taken-quiet ticks_granted k (entry_of (alternative_taken g) (table_at k j)) g u)
works-local k n instr.Wait vs t s = asked-none n t s (delay (first vs)) (delay-asking t s (first vs))
works-local k n (instr.Reply m) vs t s = asked-none n t s (reply vs) (reply-asking t s vs)
works-local k n instr.PutByte vs t s = asked-one n t s (put_byte (first vs)) (put-asking t s (first vs))
works-local k n instr.GetByte vs t s = asked-one n t s get_byte (get-asking t s)
works-local k n (instr.Format f) vs t s = asked-one n t s (print_format (format_at k f) vs) (print-asking t s (format_at k f) vs)
works-local k n instr.Yield vs t s = at-once t _ s
works-local k n instr.End vs t s = at-once t _ s

-- a fact of what is left, where it is through
abbrev pub Leaving : {A : Type 0} → (Left → Type 0) → Outcome Store A → Type 0
Leaving P (Through v s l) = P l
Leaving P (Asked q) = Unit {0}

module _ {A : Type 0} (p : Eval Store A) (s : Store) where
  quiet-leaves : (t a : ℕ) (gs : List Grant) → Quiet t a p s → Leaving (λ m. m ≡ left_of gs a) (p s (left_of gs t))
  quiet-leaves t a gs (fails kind e) = subst (Leaving (λ m. m ≡ left_of gs a)) (sym (e gs)) tt
  quiet-leaves t a gs (passes v u e) = subst (Leaving (λ m. m ≡ left_of gs a)) (sym (e gs)) refl

  asking-leaves : (t a : ℕ) (gs : List Grant) → Asking t a p s → Leaving (TakesGrant a (left_of gs t)) (p s (left_of gs t))
  asking-leaves t a gs (refuses kind e) = subst (Leaving (TakesGrant a (left_of gs t))) (sym (e gs)) tt
  asking-leaves t a [] (asks q e r) = subst (Leaving (TakesGrant a (left_of [] t))) (sym e) tt
  asking-leaves t a (g ∷ gs) (asks q e r) = by (r g)
    where
      by : Answered t a g p s → Leaving (TakesGrant a (left_of (g ∷ gs) t)) (p s (left_of (g ∷ gs) t))
      by (breaks kind d) = subst (Leaving (TakesGrant a (left_of (g ∷ gs) t))) (sym (d gs)) tt
      by (takes-one v u d) = subst (Leaving (TakesGrant a (left_of (g ∷ gs) t))) (sym (d gs)) (g, refl, refl)

  local-leaves : (b : Bool) (l : Left) → LocalIf b l.ticks p s → Leaving (LeavesIf b l) (p s l)
  local-leaves true l h = asking-leaves l.ticks ticks_granted l.grants h
  local-leaves false l h = quiet-leaves l.ticks l.ticks l.grants h

  leaving-map : (P Q : Left → Type 0) → ((m : Left) → P m → Q m) → (o : Outcome Store A) → Leaving P o → Leaving Q o
  leaving-map P Q h (Through v u m) x = h m x
  leaving-map P Q h (Asked q) x = tt

  ticking-leaves : (t : ℕ) (gs : List Grant) → Ticking t p s → Leaving (Leaves instr.Tick (left_of gs t)) (p s (left_of gs t))
  ticking-leaves zero gs h = leaving-map (TakesGrant (ticks_granted - 1) (left_of gs 0)) (Leaves instr.Tick (left_of gs 0)) (λ m x. inr (refl, x)) (p s (left_of gs 0)) (asking-leaves 0 (ticks_granted - 1) gs h)
  ticking-leaves (suc n) gs h = leaving-map (λ m. m ≡ left_of gs n) (Leaves instr.Tick (left_of gs (suc n))) (λ m x. inl (ap (λ (y : Left). y.grants) x, (let e : m.ticks ≡ n = ap (λ (y : Left). y.ticks) x in omega (arith, e)))) (p s (left_of gs (suc n))) (quiet-leaves (suc n) n gs h)

pub works-leave : (k : RawCode) (n : ℕ) (i : Instr) (vs : List ℤ) (s : Store) (l : Left) → Leaving (Leaves i l) (works k n i vs s l)
works-leave k n instr.Tick vs s l = ticking-leaves (works k n instr.Tick vs) s l.ticks l.grants (works-local k n instr.Tick vs l.ticks s)
works-leave k n i vs s l = local-leaves (works k n i vs) s (renews i) l (works-local k n i vs l.ticks s)
