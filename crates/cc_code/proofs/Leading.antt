-- Where each instruction goes on, and how many cells it gives.
use Rattle.std.proofs.Common.{◌≡◌, ℕ, ℤ, pos, negsuc, zero, suc, ◌+◌, ◌*◌, ◌<◌, ◌≤◌, ◌⊎◌, inl, inr, Bool, true, false, List, [], ◌∷◌, length, drop, take, replicate, get_or, slice_get, Option, Some, None, Result, Ok, Err, Contains, refl, ◌∙◌, ap, subst, arith}
use Rattle.std.specs.Prelude.{nat_le, nat_lt, nat_eq, if◌then◌else◌}
use Rattle.std.proofs.lemmas.Bool.Decides.{nat_tests}
use Rattle.std.proofs.lemmas.Grind.{common_steps}
use Rattle.std.proofs.lemmas.List.{length-replicate}
use Rattle.std.proofs.lemmas.List.Elements.{Contains-append_left, Contains-append_right}
use Rattle.cc_base.specs.Granted.{or_fault, create, transact, transact_within, send, delay, reply, put_byte, get_byte, print_format, call_cells, timed_cells, args_taken, alternative_taken}
use Rattle.cc_base.specs.Numbers.{at_zero, callee, converted, indexed, opposite, updated}
use Rattle.cc_base.specs.Outcome.{Left, Outcome, Through, Asked, Eval, ◌>>=◌, and_then, ask, tick}
use Rattle.cc_base.specs.declared.alternatives.Alt.TheVariants as alt
use Rattle.cc_base.specs.declared.names.FaultKind.{FaultKind}
use Rattle.cc_base.specs.declared.names.FaultKind.TheVariants.{Index}
use Rattle.cc_base.specs.declared.names.Pid.{Pid}
use Rattle.cc_base.specs.declared.request.Request.TheVariants as request
use Rattle.std.proofs.Math.Nat.{mul-le-mul_right}
use Rattle.cc_base.specs.declared.numbers.NumberType.{NumberType}
use Rattle.cc_base.specs.declared.numbers.NumberType.TheVariants.{Int, Long}
use Rattle.cc_base.specs.declared.numbers.Operator.TheVariants.{Add, Subtract, Multiply, Divide, Remainder}
use Rattle.cc_base.specs.declared.request.Grant.{Grant}
use Rattle.cc_base.specs.declared.request.Grant.TheVariants as grant
use Rattle.cc_base.specs.declared.request.Request.{Request}
use Rattle.cc_code.proofs.Lists.{in-map}
use Rattle.cc_code.proofs.Marked.{itself}
use Rattle.cc_code.specs.Control.{successors}
use Rattle.cc_code.specs.Operands.{format_at, gives, shape_at, takes}
use Rattle.cc_code.specs.Standing.{IsAnsweredInFull}
use Rattle.cc_code.specs.Works.{Store, Next, at_offset, bumped, bumped_in, bumped_to, element, element_cells, entry_of, fetched, fetched_in, first, further, go_to, in_time, index_fault, is_within, offered, offered_accept, op, picked, second, selected, stored, table_at, taken_at, taken_by, taken_in, works}
use Rattle.cc_code.specs.declared.code.RawCode.{RawCode}
use Rattle.cc_code.specs.declared.code.TableEntry.{TableEntry}
use Rattle.cc_code.specs.declared.instr.Instr.{Instr}
use Rattle.cc_code.specs.declared.instr.Instr.TheVariants as instr

-- where an instruction goes on, with how many cells; a timed call that is late gives none
abbrev pub Lands : RawCode → ℕ → Instr → Next → Type 0
Lands k at (instr.AskWithin t a) n = ((n.address ≡ a) × (length n.given ≡ 0)) ⊎ ((n.address ≡ at + 1) × (length n.given ≡ (shape_at k t).value))
Lands k at i n = Contains (successors k at i) n.address × (length n.given ≡ gives k i)

abbrev pub Led : RawCode → ℕ → Instr → Outcome Store Next → Type 0
Led k at i (Through n s l) = Lands k at i n
Led k at i (Asked q) = Unit {0}

-- a fact of the value, where it is through
abbrev pub Is : {A : Type 0} → (A → Type 0) → Outcome Store A → Type 0
Is P (Through v s l) = P v
Is P (Asked q) = Unit {0}

is-then : {A B : Type 0} (P : A → Type 0) (Q : B → Type 0) (o : Outcome Store A) (f : A → Eval Store B) → Is P o → ((v : A) (s : Store) (l : Left) → P v → Is Q (f v s l)) → Is Q (and_then o f)
is-then P Q (Through v s l) f h g = g v s l h
is-then P Q (Asked q) f h g = tt

anything : {A : Type 0} (o : Outcome Store A) → Is (λ _. Unit {0}) o
anything (Through v s l) = tt
anything (Asked q) = tt

led-is : (k : RawCode) (at : ℕ) (i : Instr) (o : Outcome Store Next) → Is (Lands k at i) o → Led k at i o
led-is k at i (Through n s l) h = h
led-is k at i (Asked q) h = tt

-- whatever the first gives, the second lands
always : {A : Type 0} (k : RawCode) (at : ℕ) (i : Instr) (o : Outcome Store A) (f : A → Eval Store Next) → ((v : A) (s : Store) (l : Left) → Led k at i (f v s l)) → Led k at i (and_then o f)
always k at i (Through v s l) f h = h v s l
always k at i (Asked q) f h = tt

given-that : {A : Type 0} (P : A → Type 0) (k : RawCode) (at : ℕ) (i : Instr) (o : Outcome Store A) (f : A → Eval Store Next) → Is P o → ((v : A) (s : Store) (l : Left) → P v → Led k at i (f v s l)) → Led k at i (and_then o f)
given-that P k at i (Through v s l) f h g = g v s l h
given-that P k at i (Asked q) f h g = tt

test-is : {A : Type 0} (P : A → Type 0) (b : Bool) (p q : Eval Store A) (s : Store) (l : Left) → (b ≡ true → Is P (p s l)) → Is P (q s l) → Is P ((if b then p else q) s l)
test-is P true p q s l h g = h refl
test-is P false p q s l h g = g

abbrev HasLength : ℕ → List ℤ → Type 0
HasLength n cs = length cs ≡ n

at-most : (a b : ℕ) → nat_le a b ≡ true → a ≤ b
at-most a b e = grind (arith, nat_tests)

less : (a b : ℕ) → nat_lt a b ≡ true → a < b
less a b e = grind (arith, nat_tests)

taken-length : (cells : List ℤ) (o n : ℕ) → o + n ≤ length cells → length (take n (drop o cells)) ≡ n
taken-length cells o n b = grind (arith, common_steps)

dropped-length : (vs : List ℤ) (m n : ℕ) → length vs ≡ m + n → length (drop m vs) ≡ n
dropped-length vs m n e = grind (arith, common_steps)

at-offset-is : (n : ℕ) (o : ℤ) (go : ℕ → Eval Store (List ℤ)) (s : Store) (l : Left) → ((o : ℕ) → Is (HasLength n) (go o s l)) → Is (HasLength n) (at_offset o go s l)
at-offset-is n (pos o) go s l h = h o
at-offset-is n (negsuc o) go s l h = tt

fetched-is : (n o : ℕ) (s : Store) (l : Left) → Is (HasLength n) (fetched n o s l)
fetched-is n o s l = test-is (HasLength n) (is_within o n s.cells) (fetched_in n o s.cells) index_fault s l (λ e. taken-length s.cells o n (at-most (o + n) (length s.cells) e)) tt

bumped-is : (t : NumberType) (d : ℤ) (o : ℕ) (s : Store) (l : Left) → Is (HasLength 1) (bumped t d o s l)
bumped-is t d o s l = test-is (HasLength 1) (is_within o 1 s.cells) (bumped_in t d o s.cells) index_fault s l
    (λ e. is-then (λ _. Unit {0}) (HasLength 1) (or_fault (updated Add t Int (get_or s.cells o (pos 0)) d) s l) (bumped_to o s.cells) (anything (or_fault (updated Add t Int (get_or s.cells o (pos 0)) d) s l)) (λ v s l h. refl)) tt

index-below : (d : ℕ) (z : ℤ) (s : Store) (l : Left) → Is (λ (i : ℕ). i < d) (or_fault (indexed d z) s l)
unfolding indexed
index-below d (pos n) s l = go (nat_lt n d) refl
  where
    go : (b : Bool) → nat_lt n d ≡ b → Is (λ (i : ℕ). i < d) (or_fault (if b then Ok n else Err Index) s l)
    go true e = less n d e
    go false e = tt
index-below d (negsuc n) s l = tt

within-element : (i d t : ℕ) → i < d → i * t + t ≤ d * t
within-element i d t b = (let h : suc i * t ≤ d * t = mul-le-mul_right t b in omega arith)

picked-is : (d t : ℕ) (vs : List ℤ) (s : Store) (l : Left) → length vs ≡ d * t + 1 → Is (HasLength t) (picked d t vs s l)
picked-is d t vs s l e = is-then (λ (i : ℕ). i < d) (HasLength t) (or_fault (indexed d (get_or vs (d * t) (pos 0))) s l) (element_cells t vs) (index-below d (get_or vs (d * t) (pos 0)) s l)
    (λ i s l b. taken-length vs (i * t) t (omega (arith, within-element i d t b)))

call-is : (n : ℕ) (g : Grant) (s : Store) (l : Left) → ((cs : List ℤ) → g ≡ grant.Value cs → length cs ≡ n) → Is (HasLength n) (call_cells n g s l)
call-is n grant.Go s l h = length-replicate n (pos 0)
call-is n (grant.Made p) s l h = length-replicate n (pos 0)
call-is n (grant.Value cs) s l h = h cs refl
call-is n grant.Late s l h = length-replicate n (pos 0)
call-is n grant.Gone s l h = tt
call-is n (grant.Took i args) s l h = length-replicate n (pos 0)
call-is n (grant.Chose i) s l h = length-replicate n (pos 0)
call-is n (grant.Byte b) s l h = length-replicate n (pos 0)

abbrev IfTime : ℕ → Option (List ℤ) → Type 0
IfTime n None = Unit {0}
IfTime n (Some cs) = length cs ≡ n

timed-is : (n : ℕ) (g : Grant) (s : Store) (l : Left) → ((cs : List ℤ) → g ≡ grant.Value cs → length cs ≡ n) → Is (IfTime n) (timed_cells n g s l)
timed-is n grant.Go s l h = length-replicate n (pos 0)
timed-is n (grant.Made p) s l h = length-replicate n (pos 0)
timed-is n (grant.Value cs) s l h = h cs refl
timed-is n grant.Late s l h = tt
timed-is n grant.Gone s l h = tt
timed-is n (grant.Took i args) s l h = length-replicate n (pos 0)
timed-is n (grant.Chose i) s l h = length-replicate n (pos 0)
timed-is n (grant.Byte b) s l h = length-replicate n (pos 0)

abbrev FitsIn : ℕ → Left → Type 0
FitsIn n l = (cs : List ℤ) (gs : List Grant) → l.grants ≡ grant.Value cs ∷ gs → length cs ≡ n

asked-is : {B : Type 0} (Q : B → Type 0) (n : ℕ) (q : Request) (s : Store) (l : Left) (f : Grant → Eval Store B) → FitsIn n l
    → ((g : Grant) (s : Store) (l : Left) → ((cs : List ℤ) → g ≡ grant.Value cs → length cs ≡ n) → Is Q (f g s l)) → Is Q (and_then (ask q s l) f)
asked-is Q n q s l f fit h = go l.grants refl
  where
    go : (gs : List Grant) → l.grants ≡ gs → Is Q (and_then (ask q s (record { grants = gs; ticks = l.ticks })) f)
    go [] e = tt
    go (g ∷ gs) e = h g s _ (λ cs i. fit cs gs (e ∙ ap (λ (x : Grant). x ∷ gs) i))

transact-is : (t n : ℕ) (p : ℤ) (args : List ℤ) (s : Store) (l : Left) → FitsIn n l → Is (HasLength n) (transact t n p args s l)
transact-is t n p args s l fit = go (callee p)
  where
    go : (r : Result Pid FaultKind) → Is (HasLength n) (and_then (or_fault r s l) (λ target. ask (request.Call target t args) >>= call_cells n))
    go (Ok target) = asked-is (HasLength n) n (request.Call target t args) s l (call_cells n) fit (λ g s l h. call-is n g s l h)
    go (Err kind) = tt

transact_within-is : (t n : ℕ) (w p : ℤ) (args : List ℤ) (s : Store) (l : Left) → FitsIn n l → Is (IfTime n) (transact_within t n w p args s l)
transact_within-is t n w p args s l fit = go (callee p)
  where
    go : (r : Result Pid FaultKind) → Is (IfTime n) (and_then (or_fault r s l) (λ target. ask (request.TimedCall target t args w) >>= timed_cells n))
    go (Ok target) = asked-is (IfTime n) n (request.TimedCall target t args w) s l (timed_cells n) fit (λ g s l h. timed-is n g s l h)
    go (Err kind) = tt

entry-at : (i : ℕ) (x : TableEntry) (xs : List TableEntry) (e : TableEntry) → (entry_of i xs ≡ Some e → Contains xs e) → (b : Bool) → (if b then Some x else entry_of i xs) ≡ Some e → Contains (x ∷ xs) e
entry-at i x xs e rest true f = (let g : x ≡ e = cc in subst (λ (z : TableEntry). Contains (x ∷ xs) z) g (Contains-append_left (x ∷ []) xs x (itself x)))
entry-at i x xs e rest false f = Contains-append_right (x ∷ []) xs e (rest f)

-- the first entry of an alternative is one of the table
entry-in : (i : ℕ) (t : List TableEntry) (e : TableEntry) → entry_of i t ≡ Some e → Contains t e
entry-in i [] e h = absurd (let f : None ≡ Some e = h in cc)
entry-in i (x ∷ xs) e h = entry-at i x xs e (λ f. entry-in i xs e f) (nat_eq x.alt i) h

taken-led : (k : RawCode) (at j : ℕ) (g : Grant) (s : Store) (l : Left) → Led k at (instr.SelWait j) (taken_in k (table_at k j) g s l)
taken-led k at j g s l = go (entry_of (alternative_taken g) (table_at k j)) refl
  where
    go : (o : Option TableEntry) → entry_of (alternative_taken g) (table_at k j) ≡ o → Led k at (instr.SelWait j) (taken_by k o g s l)
    go None e = tt
    go (Some x) e = always k at (instr.SelWait j) (taken_at k x.site (args_taken g) s l) _ (λ v s l. (in-map (λ (x : TableEntry). x.address) (table_at k j) x (entry-in (alternative_taken g) (table_at k j) x e), refl))

in_time-led : (k : RawCode) (at t a : ℕ) (o : Option (List ℤ)) (s : Store) (l : Left) → IfTime (shape_at k t).value o → Led k at (instr.AskWithin t a) (in_time (at + 1) a o s l)
in_time-led k at t a None s l h = inl (refl, refl)
in_time-led k at t a (Some cs) s l h = inr (refl, h)

zero-led : (k : RawCode) (at a : ℕ) (z : ℤ) → Contains (a ∷ (at + 1) ∷ []) (at_zero z a (at + 1))
zero-led k at a (pos zero) = Contains-append_left (a ∷ []) ((at + 1) ∷ []) a (itself a)
zero-led k at a (pos (suc n)) = Contains-append_right (a ∷ []) ((at + 1) ∷ []) (at + 1) (itself (at + 1))
zero-led k at a (negsuc n) = Contains-append_right (a ∷ []) ((at + 1) ∷ []) (at + 1) (itself (at + 1))

-- it is no call, nor an end of a part
abbrev pub IsWorked : Instr → Type 0
IsWorked (instr.Call f) = ⊥
IsWorked (instr.Ret n) = ⊥
IsWorked instr.Yield = ⊥
IsWorked instr.End = ⊥
IsWorked i = Unit {0}

module _ (k : RawCode) (at : ℕ) (s : Store) (l : Left) where
  next : Contains ((at + 1) ∷ []) (at + 1)
  next = itself (at + 1)

  part-led : (p n m : ℕ) (vs : List ℤ) → length vs ≡ n → Led k at (instr.Part p n m) ((if nat_le (p + m) n then go_to (at + 1) (take m (drop p vs)) else index_fault) s l)
  part-led p n m vs e = go (nat_le (p + m) n) refl
    where
      go : (b : Bool) → nat_le (p + m) n ≡ b → Led k at (instr.Part p n m) ((if b then go_to (at + 1) (take m (drop p vs)) else index_fault) s l)
      go true f = (next, taken-length vs p m (omega (arith, at-most (p + m) n f)))
      go false f = tt

  -- each instruction but a call and the ends of parts
  pub works-led : (i : Instr) (vs : List ℤ) → length vs ≡ takes k i → IsAnsweredInFull k i l.grants → IsWorked i → Led k at i (works k (at + 1) i vs s l)
  works-led (instr.Const v) vs e fit w = (next, refl)
  works-led (instr.Zeros m) vs e fit w = (next, length-replicate m (pos 0))
  works-led (instr.Drop m) vs e fit w = (next, refl)
  works-led instr.Dup vs e fit w = (next, refl)
  works-led (instr.Field o) vs e fit w = always k at (instr.Field o) (or_fault (further (first vs) o) s l) _ (λ v s l. (next, refl))
  works-led (instr.Index d t) vs e fit w = always k at (instr.Index d t) (element d t vs s l) _ (λ v s l. (next, refl))
  works-led (instr.Fetch m) vs e fit w = given-that (HasLength m) k at (instr.Fetch m) (at_offset (first vs) (fetched m) s l) _ (at-offset-is m (first vs) (fetched m) s l (λ o. fetched-is m o s l)) (λ v s l h. (next, h))
  works-led (instr.Put m) vs e fit w = always k at (instr.Put m) (at_offset (first vs) (stored (drop 1 vs)) s l) (λ _. go_to (at + 1) (drop 1 vs)) (λ v s l. (next, dropped-length vs 1 m e))
  works-led (instr.Bump t d) vs e fit w = given-that (HasLength 1) k at (instr.Bump t d) (at_offset (first vs) (bumped t d) s l) _ (at-offset-is 1 (first vs) (bumped t d) s l (λ o. bumped-is t d o s l)) (λ v s l h. (next, h))
  works-led (instr.Zero o m) vs e fit w = always k at (instr.Zero o m) (stored (replicate m (pos 0)) o s l) _ (λ v s l. (next, refl))
  works-led (instr.Part p n m) vs e fit w = part-led p n m vs e
  works-led (instr.Pick d t) vs e fit w = given-that (HasLength t) k at (instr.Pick d t) (picked d t vs s l) _ (picked-is d t vs s l e) (λ v s l h. (next, h))
  works-led (instr.Add t) vs e fit w = always k at (instr.Add t) (op Add t vs s l) _ (λ v s l. (next, refl))
  works-led (instr.Sub t) vs e fit w = always k at (instr.Sub t) (op Subtract t vs s l) _ (λ v s l. (next, refl))
  works-led (instr.Mul t) vs e fit w = always k at (instr.Mul t) (op Multiply t vs s l) _ (λ v s l. (next, refl))
  works-led (instr.Div t) vs e fit w = always k at (instr.Div t) (op Divide t vs s l) _ (λ v s l. (next, refl))
  works-led (instr.Rem t) vs e fit w = always k at (instr.Rem t) (op Remainder t vs s l) _ (λ v s l. (next, refl))
  works-led (instr.Neg t) vs e fit w = always k at (instr.Neg t) (or_fault (opposite t (first vs)) s l) _ (λ v s l. (next, refl))
  works-led instr.Lt vs e fit w = (next, refl)
  works-led instr.Le vs e fit w = (next, refl)
  works-led instr.Gt vs e fit w = (next, refl)
  works-led instr.Ge vs e fit w = (next, refl)
  works-led instr.Eq vs e fit w = (next, refl)
  works-led instr.Ne vs e fit w = (next, refl)
  works-led instr.Not vs e fit w = (next, refl)
  works-led (instr.Narrow t) vs e fit w = always k at (instr.Narrow t) (or_fault (converted Long t (first vs)) s l) _ (λ v s l. (next, refl))
  works-led (instr.Jump a) vs e fit w = (itself a, refl)
  works-led (instr.JumpZero a) vs e fit w = (zero-led k at a (first vs), refl)
  works-led instr.Tick vs e fit w = always k at instr.Tick (tick s l) _ (λ v s l. (next, refl))
  works-led (instr.Create kind) vs e fit w = always k at (instr.Create kind) (create kind vs s l) _ (λ v s l. (next, refl))
  works-led (instr.Ask t) vs e fit w = given-that (HasLength (shape_at k t).value) k at (instr.Ask t) (transact t (shape_at k t).value (first vs) (drop 1 vs) s l) _
      (transact-is t (shape_at k t).value (first vs) (drop 1 vs) s l (fit tt)) (λ v s l h. (next, h))
  works-led (instr.AskWithin t a) vs e fit w = given-that (IfTime (shape_at k t).value) k at (instr.AskWithin t a) (transact_within t (shape_at k t).value (first vs) (second vs) (drop 2 vs) s l) (in_time (at + 1) a)
      (transact_within-is t (shape_at k t).value (first vs) (second vs) (drop 2 vs) s l (fit tt)) (λ o s l h. in_time-led k at t a o s l h)
  works-led (instr.Send t) vs e fit w = always k at (instr.Send t) (send t (first vs) (drop 1 vs) s l) _ (λ v s l. (next, refl))
  works-led instr.SelBegin vs e fit w = (next, refl)
  works-led (instr.OfferAccept i j) vs e fit w = always k at (instr.OfferAccept i j) (offered_accept i j (slice_get k.sites j) s l) _ (λ v s l. (next, refl))
  works-led (instr.OfferAfter i) vs e fit w = always k at (instr.OfferAfter i) (offered i (alt.After (first vs)) s l) _ (λ v s l. (next, refl))
  works-led (instr.OfferNow i) vs e fit w = always k at (instr.OfferNow i) (offered i alt.Now s l) _ (λ v s l. (next, refl))
  works-led (instr.OfferEnd i) vs e fit w = always k at (instr.OfferEnd i) (offered i alt.Terminate s l) _ (λ v s l. (next, refl))
  works-led (instr.SelWait j) vs e fit w = always k at (instr.SelWait j) (selected s l) (taken_in k (table_at k j)) (λ g s l. taken-led k at j g s l)
  works-led instr.Wait vs e fit w = always k at instr.Wait (delay (first vs) s l) _ (λ v s l. (next, refl))
  works-led (instr.Reply m) vs e fit w = always k at (instr.Reply m) (reply vs s l) _ (λ v s l. (next, refl))
  works-led instr.PutByte vs e fit w = always k at instr.PutByte (put_byte (first vs) s l) _ (λ v s l. (next, refl))
  works-led instr.GetByte vs e fit w = always k at instr.GetByte (get_byte s l) _ (λ v s l. (next, refl))
  works-led (instr.Format f) vs e fit w = always k at (instr.Format f) (print_format (format_at k f) vs s l) _ (λ v s l. (next, refl))
  works-led (instr.Call f) vs e fit w = absurd w
  works-led (instr.Ret m) vs e fit w = absurd w
  works-led instr.Yield vs e fit w = absurd w
  works-led instr.End vs e fit w = absurd w
