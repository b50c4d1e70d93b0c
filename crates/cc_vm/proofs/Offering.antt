-- What an instruction that opens an alternative makes of the lists is what it makes of the code's state.
use Rattle.std.proofs.Common.{◌≡◌, ℕ, ℤ, pos, zero, suc, ◌+◌, ◌-◌, ◌*◌, ◌<◌, ◌≤◌, Bool, true, false, List, [], ◌∷◌, ◌++◌, append-nil, append_assoc, add-zero, add-one, length, drop, take, get_or, Option, Some, None, All, refl, sym, ◌∙◌, ap, subst, arith, slice_get}
use Rattle.std.specs.Prelude.{nat_le, nat_lt, ◌&&◌, if◌then◌else◌, AllPairs}
use Rattle.std.specs.List.{list_all}
use Rattle.std.proofs.lemmas.Bool.Decides.{nat_tests}
use Rattle.std.proofs.lemmas.Option.{get_or_from_slice_get}
use Rattle.cc_base.specs.Alternatives.{NumbersRise}
use Rattle.cc_base.specs.Limits.{most_steps}
use Rattle.cc_base.specs.Outcome.{Asked, Left, Outcome, Through, and_then, set_variables}
use Rattle.cc_base.specs.declared.alternatives.Alt.{Alt}
use Rattle.cc_base.specs.declared.alternatives.Alt.TheVariants as alt
use Rattle.cc_base.specs.declared.names.FaultKind.{FaultKind}
use Rattle.cc_base.specs.declared.names.FaultKind.TheVariants.{Depth, Index}
use Rattle.cc_base.specs.declared.request.Grant.{Grant}
use Rattle.cc_base.specs.declared.request.Request.TheVariants as request
use Rattle.cc_code.proofs.Proper.{follows-on, follows-stop}
use Rattle.cc_code.proofs.Standing.{step-stands}
use Rattle.cc_code.specs.Operands.{takes}
use Rattle.cc_code.specs.Rules.{IsVerified}
use Rattle.cc_code.specs.Standing.{AsksValue, Kind, NextIsAnsweredInFull, Stands, StandsAfter}
use Rattle.cc_code.specs.Steps.{Asks, Goes, Ran, State, Stops, after, performed, renews, step, stepped, with_grants, within_bound, worked}
use Rattle.cc_code.specs.Works.{Next, Store, after_cells, cells_from, environment, go_to, index_fault, is_above, is_within, offered, offered_accept, offered_in, on_after, works}
use Rattle.cc_code.specs.declared.code.EnvironmentPart.{EnvironmentPart}
use Rattle.cc_code.specs.declared.code.RawCode.{RawCode}
use Rattle.cc_code.specs.declared.code.Site.{Site}
use Rattle.cc_code.specs.declared.instr.Instr.{Instr}
use Rattle.cc_code.specs.declared.instr.Instr.TheVariants as instr
use Rattle.cc_vm.proofs.Acts.{Fits, Keeps, at-most, same-state, top-none, works-here}
use Rattle.cc_vm.proofs.Asking.{one-operand}
use Rattle.cc_vm.proofs.Between.{length-between, variables-at}
use Rattle.cc_vm.proofs.Copies.{cells-up-to, located-within}
use Rattle.cc_vm.proofs.Running.{below-bound, bound-stops, fits, lies-still}
use Rattle.cc_vm.specs.Lists.{IsReady, kept_state}
use Rattle.cc_vm.specs.Machine.{between, cell_of, located, located_if, moved, state_of}
use Rattle.cc_vm.specs.Offering.{AllAsk, AllFollow, IsOffer, Opened, Opens, OpensAlt, OpensAt, OpensIf, OpensIn, PartIf, Passes}
use Rattle.cc_vm.specs.Running.{Follows, IsRoom, Ready, work}
use Rattle.cc_vm.specs.declared.lists.Lists.{Lists}
use Rattle.cc_vm.specs.declared.registers.Frame.{Frame}
use Rattle.cc_vm.specs.declared.registers.Registers.{Registers}

-- a number above the last of numbers that rise is above all
less-on : (a b i : ℕ) → a < b → nat_lt b i ≡ true → nat_lt a i ≡ true
less-on a b i h e = grind (arith, nat_tests)

pub above-none : (i : ℕ) (xs : List (ℕ × Alt)) → length xs ≡ 0 → true ≡ is_above i xs
above-none i [] e = refl
above-none i (x ∷ xs) e = absurd (omega (arith, e))

above-one : (i : ℕ) (x a : ℕ × Alt) → x ≡ a → nat_lt a.0 i ≡ (nat_lt x.0 i && true)
above-one i x a same = ap (λ (y : ℕ × Alt). nat_lt y.0 i) (sym same) ∙ by (nat_lt x.0 i)
  where
    by : (b : Bool) → b ≡ (b && true)
    by true = refl
    by false = refl

above-more : (i : ℕ) (x y : ℕ × Alt) (ys : List (ℕ × Alt)) (a : ℕ × Alt) → NumbersRise (x ∷ y ∷ ys) → slice_get (x ∷ y ∷ ys) (suc (length ys)) ≡ Some a → nat_lt a.0 i ≡ is_above i (y ∷ ys)
    → nat_lt a.0 i ≡ is_above i (x ∷ y ∷ ys)
above-more i x y ys a h e tail = by (nat_lt a.0 i) refl
  where
    last : get_or (x ∷ y ∷ ys) (suc (length ys)) x ≡ a
    last = get_or_from_slice_get (x ∷ y ∷ ys) (suc (length ys)) a x e

    less : x.0 < a.0
    less = subst (λ (z : ℕ × Alt). x.0 < z.0) last (h 0 (suc (length ys)) x (omega arith) (omega arith))

    no : (b : Bool) → (b && false) ≡ false
    no true = refl
    no false = refl

    by : (b : Bool) → nat_lt a.0 i ≡ b → nat_lt a.0 i ≡ (nat_lt x.0 i && is_above i (y ∷ ys))
    by true f = f ∙ sym (ap (λ (b : Bool). b && is_above i (y ∷ ys)) (less-on x.0 a.0 i less f) ∙ sym tail ∙ f)
    by false f = f ∙ sym (ap (λ (b : Bool). nat_lt x.0 i && b) (sym tail ∙ f) ∙ no (nat_lt x.0 i))

above-from : (i : ℕ) (x : ℕ × Alt) (xs : List (ℕ × Alt)) (a : ℕ × Alt) → NumbersRise (x ∷ xs) → slice_get (x ∷ xs) (length xs) ≡ Some a → nat_lt a.0 i ≡ is_above i (x ∷ xs)
above-from i x [] a h e = above-one i x a (let f : x ≡ a = cc in f)
above-from i x (y ∷ ys) a h e = above-more i x y ys a h e (above-from i y ys a (λ j k d lt w. h (suc j) (suc k) d (omega (arith, lt)) (omega (arith, w))) e)

pub above-last : (i : ℕ) (xs : List (ℕ × Alt)) (a : ℕ × Alt) → NumbersRise xs → (length xs ≡ 0 → ⊥) → slice_get xs (length xs - 1) ≡ Some a → nat_lt a.0 i ≡ is_above i xs
above-last i [] a h n e = absurd (n refl)
above-last i (x ∷ xs) a h n e = above-from i x xs a h (subst (λ (j : ℕ). slice_get (x ∷ xs) j ≡ Some a) (let f : suc (length xs) - 1 ≡ length xs = omega arith in f) e)

pub not-empty : (xs : List (ℕ × Alt)) (j : ℕ) → j < length xs → slice_get xs j ≡ None → ⊥
not-empty [] j w e = omega (arith, w)
not-empty (x ∷ xs) zero w e = cc
not-empty (x ∷ xs) (suc j) w e = not-empty xs j (omega (arith, w)) e

-- cells of an environment
module _ (p : EnvironmentPart) (first end : ℕ) (C old : List ℤ) where
  abbrev V : List ℤ
  V = between first end C

  pub part-none : (new : List ℤ) → None ≡ located (pos p.offset) p.cells V → PartIf (is_within p.offset p.cells V) p V old new false
  part-none new e = by (is_within p.offset p.cells V) refl
    where
      by : (b : Bool) → is_within p.offset p.cells V ≡ b → PartIf (is_within p.offset p.cells V) p V old new false
      by true f = absurd (let g : None ≡ Some p.offset = e ∙ ap (λ (b : Bool). located_if b p.offset) f in cc)
      by false f = subst (λ (b : Bool). PartIf b p V old new false) (sym f) refl

  pub part-inside : (offset : ℕ) → Some offset ≡ located (pos p.offset) p.cells V → first ≤ end → end ≤ length C → first + offset + p.cells ≤ end
  part-inside offset e low within =
      let l : offset + p.cells ≤ length V = located-within (pos p.offset) p.cells V offset (sym e) in
      let v : length V ≡ end - first = length-between first end C within in
      omega (arith, l, v, low)

  pub part-some : (offset : ℕ) (new : List ℤ) → Some offset ≡ located (pos p.offset) p.cells V → first ≤ end → end ≤ length C
      → new ≡ old ++ between (first + offset) (first + offset + p.cells) C → PartIf (is_within p.offset p.cells V) p V old new true
  part-some offset new e low within n = by (is_within p.offset p.cells V) refl
    where
      inside : first + offset + p.cells ≤ end
      inside = part-inside offset e low within

      cells : between (first + offset) (first + offset + p.cells) C ≡ cells_from offset p.cells V
      cells = sym (cells-up-to (first + offset) p.cells (first + offset + p.cells) C refl) ∙ sym (variables-at first end offset p.cells C inside within)

      by : (b : Bool) → is_within p.offset p.cells V ≡ b → PartIf (is_within p.offset p.cells V) p V old new true
      by true f =
          let g : Some offset ≡ Some p.offset = e ∙ ap (λ (b : Bool). located_if b p.offset) f in
          let same : offset ≡ p.offset = cc in
          subst (λ (b : Bool). PartIf b p V old new true) (sym f) (refl, n ∙ ap (λ (xs : List ℤ). old ++ xs) (cells ∙ ap (λ (o : ℕ). cells_from o p.cells V) same))
      by false f = absurd (let g : Some offset ≡ None = e ∙ ap (λ (b : Bool). located_if b p.offset) f in cc)

after-nothing : (o : Option (List ℤ)) → after_cells [] o ≡ o
after-nothing None = refl
after-nothing (Some xs) = refl

after-both : (front more : List ℤ) (o : Option (List ℤ)) → after_cells front (after_cells more o) ≡ after_cells (front ++ more) o
after-both front more None = refl
after-both front more (Some xs) = ap (λ (ys : List ℤ). Some ys) (sym (append_assoc front more xs))

module _ (V : List ℤ) where
  pub environment-first : (ps : List EnvironmentPart) → after_cells [] (environment ps V) ≡ environment ps V
  environment-first ps = after-nothing (environment ps V)

  pub environment-on : (p : EnvironmentPart) (ps : List EnvironmentPart) (old new : List ℤ) (whole : Option (List ℤ)) → PartIf (is_within p.offset p.cells V) p V old new true
      → after_cells old (environment (p ∷ ps) V) ≡ whole → after_cells new (environment ps V) ≡ whole
  environment-on p ps old new whole h e = by (is_within p.offset p.cells V) refl h
    where
      by : (b : Bool) → is_within p.offset p.cells V ≡ b → PartIf b p V old new true → after_cells new (environment ps V) ≡ whole
      by true f g =
          ap (λ (xs : List ℤ). after_cells xs (environment ps V)) g.1
          ∙ sym (after-both old (cells_from p.offset p.cells V) (environment ps V))
          ∙ sym (ap (λ (b : Bool). after_cells old (if b then after_cells (cells_from p.offset p.cells V) (environment ps V) else None)) f)
          ∙ e
      by false f g = absurd (let d : true ≡ false = g in cc)

  pub environment-out : (p : EnvironmentPart) (ps : List EnvironmentPart) (old new : List ℤ) (whole : Option (List ℤ)) → PartIf (is_within p.offset p.cells V) p V old new false
      → after_cells old (environment (p ∷ ps) V) ≡ whole → None ≡ whole
  environment-out p ps old new whole h e = by (is_within p.offset p.cells V) refl h
    where
      by : (b : Bool) → is_within p.offset p.cells V ≡ b → PartIf b p V old new false → None ≡ whole
      by true f g = absurd (let d : false ≡ true = g.0 in cc)
      by false f g = sym (ap (λ (b : Bool). after_cells old (if b then after_cells (cells_from p.offset p.cells V) (environment ps V) else None)) f) ∙ e

  pub environment-last : (env : List ℤ) (whole : Option (List ℤ)) → after_cells env (environment [] V) ≡ whole → Some env ≡ whole
  environment-last env whole e = ap (λ (xs : List ℤ). Some xs) (sym (append-nil env)) ∙ e

-- an offer, in the lists and in the code's state
module _ (k : RawCode) (verified : IsVerified k) (room : ℕ) (enough : IsRoom k room) (a : Lists) (ready : IsReady k room a) (xs : List (ℕ × Alt)) where
  abbrev r : Registers
  r = a.registers

  abbrev S : List ℤ
  S = a.stack.items

  abbrev C : List ℤ
  C = a.cells.items

  abbrev F : List Frame
  F = a.frames.items

  abbrev left : List Grant → Left
  left rest = record { grants = rest; ticks = r.ticks }

  abbrev store : List (ℕ × Alt) → Store
  store offers = record { cells = between r.first r.end C; offers = offers }

  -- so many operands are gone, and these alternatives are open
  abbrev Goes-on : ℕ → Lists → List (ℕ × Alt) → Type 0
  Goes-on taken b ys =
      (taken ≤ r.top - r.bottom) × Passes taken a b
      × ((rest : List Grant) → step k (with_grants (kept_state a xs) rest) ≡ within_bound (Goes (with_grants (state_of (moved r (r.at + 1) (r.top - taken)) S C F ys) rest)))

  abbrev Stops-so : FaultKind → Type 0
  Stops-so kind = (rest : List Grant) → step k (with_grants (kept_state a xs) rest) ≡ Stops (Asks (request.Fault kind))

  recount : Stands k Kind (with_grants (kept_state a xs) [])
  recount = record { address = ready.stands.address; height = ready.stands.height; part = ready.stands.part }

  none-answered : NextIsAnsweredInFull k (with_grants (kept_state a xs) [])
  none-answered i here asks vs rest f = absurd (let e : [] ≡ _ ∷ rest = f in cc)

  module _ (taken : ℕ) (b : Lists) (ys : List (ℕ × Alt)) (goes : Goes-on taken b ys) where
    abbrev next : Registers
    next = moved r (r.at + 1) (r.top - taken)

    same : (P : List ℤ → List ℤ → List Frame → Registers → Type 0) → P S C F next → P b.stack.items b.cells.items b.frames.items b.registers
    same P h =
        subst (λ (X : List ℤ). P X b.cells.items b.frames.items b.registers) (sym goes.1.stack)
        (subst (λ (X : List ℤ). P S X b.frames.items b.registers) (sym goes.1.cells)
        (subst (λ (X : List Frame). P S C X b.registers) (sym goes.1.frames)
        (subst (λ (X : Registers). P S C F X) (sym goes.1.registers) h)))

    count-is : b.registers.count ≡ r.count + 1
    count-is = ap (λ (q : Registers). q.count) goes.1.registers

    keeps : Keeps S C r S C next
    keeps =
        record {
          stack = refl;
          cells = refl;
          below = refl;
          outside = refl;
          bottom = refl;
          first = refl;
          end = refl;
          calls = refl;
          top = omega (arith, goes.0, ready.lies.bottom);
          under = omega (arith, ready.lies.top);
        }

    module _ (few : r.count + 1 ≤ most_steps) where
      goes-to : (rest : List Grant) → step k (with_grants (kept_state a xs) rest) ≡ Goes (with_grants (state_of next S C F ys) rest)
      goes-to rest = goes.2 rest ∙ below-bound k verified room enough S C F r ready (with_grants (state_of next S C F ys) rest) few

      stands-next : Stands k Kind (with_grants (state_of next S C F ys) [])
      stands-next = subst (StandsAfter k Kind) (goes-to []) (step-stands k verified Kind (with_grants (kept_state a xs) []) recount none-answered)

      next-ready : Ready k room S C F next
      next-ready =
          record {
            stands = record { address = stands-next.address; height = stands-next.height; part = stands-next.part };
            lies = lies-still k verified room enough S C F r ready S C next keeps;
            few = few;
          }

      next-follows : AllFollow k a xs b ys
      next-follows process fed follows =
          same (λ X Y Z q. Follows k process fed (state_of q X Y Z ys))
          (follows-on k process fed (kept_state a xs) follows (state_of next S C F ys) goes-to)

    pub opened-on : b.registers.count ≤ most_steps → Opened k room a xs b ys None
    opened-on few =
        let f : r.count + 1 ≤ most_steps = omega (arith, few, count-is) in
        let t : b.registers.ticks ≡ r.ticks = ap (λ (q : Registers). q.ticks) goes.1.registers in
        (same (λ X Y Z q. Ready k room X Y Z q) (next-ready f), next-follows f, omega (arith, f, t, count-is))

    pub opened-depth : most_steps < b.registers.count → Opened k room a xs b ys (Some Depth)
    opened-depth many process fed follows =
        follows-stop k process fed (kept_state a xs) follows (Asks (request.Fault Depth))
        (goes.2 [] ∙ bound-stops k verified room enough S C F r ready (with_grants (state_of next S C F ys) []) (omega (arith, many, count-is)))

  pub opened-fault : (b : Lists) (ys : List (ℕ × Alt)) (kind : FaultKind) → Stops-so kind → Opened k room a xs b ys (Some kind)
  opened-fault b ys kind h process fed follows = follows-stop k process fed (kept_state a xs) follows (Asks (request.Fault kind)) (h [])

  -- what comes of an offer: it goes on, or is at fault
  abbrev pub Comes : Lists → List (ℕ × Alt) → Option FaultKind → Type 0
  Comes b ys None = (taken : ℕ) × Goes-on taken b ys
  Comes b ys (Some kind) = Stops-so kind

  module _ (i : Instr) (here : slice_get k.instrs r.at ≡ Some i) (is-worked : (s : State) → performed k i s ≡ worked k i s) (none : renews i ≡ false)
      (taken : ℕ) (vs : List ℤ) (takes-so : takes k i ≡ taken) (long : length vs ≡ taken) (these : between (r.top - taken) r.top S ≡ vs) where
    fit : Fits k i S C r
    fit = fits k verified room enough S C F r ready i here

    operands : taken ≤ r.top - r.bottom
    operands = (let o : takes k i ≤ r.top - r.bottom = fit.operands in omega (arith, o, takes-so))

    works-so : (rest : List Grant) → step k (with_grants (kept_state a xs) rest)
        ≡ within_bound (after false (with_grants (kept_state a xs) rest) (between r.bottom (r.top - taken) S) (works k (r.at + 1) i vs (store xs) (left rest)))
    works-so rest =
        ap (λ (o : Option Instr). stepped k o (with_grants (kept_state a xs) rest)) here
        ∙ ap within_bound (works-here k i F S C r is-worked none (r.top - taken) vs (omega (arith, operands, ready.lies.bottom)) (omega (arith, long, operands)) (long ∙ sym takes-so) fit.top these fit.first fit.end xs rest)

    -- these are open then
    goes-open : (b : Lists) (ys : List (ℕ × Alt)) → Passes taken a b
        → ((rest : List Grant) → works k (r.at + 1) i vs (store xs) (left rest) ≡ Through (record { address = r.at + 1; given = [] }) (store ys) (left rest)) → Goes-on taken b ys
    goes-open b ys passes w = (
      operands,
      passes,
      λ rest.
          works-so rest
          ∙ ap within_bound (
          ap (after false (with_grants (kept_state a xs) rest) (between r.bottom (r.top - taken) S)) (w rest)
          ∙ same-state k i F S C r (r.at + 1) (r.top - taken) S C (between r.bottom (r.top - taken) S ++ []) (between r.first r.end C) ys rest (append-nil (between r.bottom (r.top - taken) S)) refl refl refl),
    )

    stops-open : (kind : FaultKind) → ((rest : List Grant) → works k (r.at + 1) i vs (store xs) (left rest) ≡ Asked (request.Fault kind)) → Stops-so kind
    stops-open kind w rest = works-so rest ∙ ap (λ (o : Outcome Store Next). within_bound (after false (with_grants (kept_state a xs) rest) (between r.bottom (r.top - taken) S) o)) (w rest)

    abbrev offer-by : Bool → ℕ → Alt → List Grant → Outcome Store Next
    offer-by t n x rest =
        and_then ((if t then set_variables (record { cells = between r.first r.end C; offers = xs ++ (n, x) ∷ [] }) else index_fault) (store xs) (left rest)) (λ _. go_to (r.at + 1) [])

    offers-so : (n : ℕ) (x : Alt) (b : Lists) (ys : List (ℕ × Alt)) (o : Option FaultKind) → OpensAlt n x taken a xs b ys o
        → ((rest : List Grant) → works k (r.at + 1) i vs (store xs) (left rest) ≡ offer-by (is_above n xs) n x rest) → Comes b ys o
    offers-so n x b ys o h w = by (is_above n xs) refl h
      where
        by : (t : Bool) → is_above n xs ≡ t → OpensIf t n x taken a xs b ys o → Comes b ys o
        by true e g =
            subst (Comes b ys) (sym g.0)
            (taken, goes-open b ys g.2 (λ rest. w rest ∙ ap (λ (t : Bool). offer-by t n x rest) e ∙ ap (λ (zs : List (ℕ × Alt)). Through (record { address = r.at + 1; given = [] }) (store zs) (left rest)) (sym g.1)))
        by false e g = subst (Comes b ys) (sym g) (stops-open Index (λ rest. w rest ∙ ap (λ (t : Bool). offer-by t n x rest) e))

  none-taken : (top : ℕ) → top ≤ length S → between (top - 0) top S ≡ []
  none-taken top h = ap (λ (n : ℕ). between n top S) (let e : top - 0 ≡ top = omega arith in e) ∙ top-none S top h

  module _ (n number : ℕ) (here : slice_get k.instrs r.at ≡ Some (instr.OfferAccept n number)) where
    abbrev accept-at : Option Site → List Grant → Outcome Store Next
    accept-at o rest = on_after (r.at + 1) (offered_accept n number o) (store xs) (left rest)

    abbrev accept-in : ℕ → Option (List ℤ) → List Grant → Outcome Store Next
    accept-in trans o rest = on_after (r.at + 1) (offered_in n number trans o) (store xs) (left rest)

    accepts-in : (trans : ℕ) (env : Option (List ℤ)) (b : Lists) (ys : List (ℕ × Alt)) (o : Option FaultKind) → OpensIn n number trans env a xs b ys o
        → ((rest : List Grant) → works k (r.at + 1) (instr.OfferAccept n number) [] (store xs) (left rest) ≡ accept-in trans env rest) → Comes b ys o
    accepts-in trans None b ys o h w =
        subst (Comes b ys) (sym h) (stops-open (instr.OfferAccept n number) here (λ s. refl) refl 0 [] refl refl (none-taken r.top ready.lies.top) Index w)
    accepts-in trans (Some env) b ys o h w =
        offers-so (instr.OfferAccept n number) here (λ s. refl) refl 0 [] refl refl (none-taken r.top ready.lies.top) n (alt.Accept trans number env) b ys o h w

    accepts-at : (s : Option Site) (b : Lists) (ys : List (ℕ × Alt)) (o : Option FaultKind) → OpensAt n number s a xs b ys o
        → ((rest : List Grant) → works k (r.at + 1) (instr.OfferAccept n number) [] (store xs) (left rest) ≡ accept-at s rest) → Comes b ys o
    accepts-at None b ys o h w =
        subst (Comes b ys) (sym h) (stops-open (instr.OfferAccept n number) here (λ s. refl) refl 0 [] refl refl (none-taken r.top ready.lies.top) Index w)
    accepts-at (Some s) b ys o h w = accepts-in s.trans (environment s.env (between r.first r.end C)) b ys o h w

  pub opens-so : (i : Instr) → slice_get k.instrs r.at ≡ Some i → IsOffer i → (b : Lists) (ys : List (ℕ × Alt)) (o : Option FaultKind) → Opens k i a xs b ys o → Comes b ys o
  opens-so instr.SelBegin here offer b ys o h =
      subst (Comes b ys) (sym h.0) (
        0,
        goes-open instr.SelBegin here (λ s. refl) refl 0 [] refl refl (none-taken r.top ready.lies.top) b ys h.2
            (λ rest. ap (λ (zs : List (ℕ × Alt)). Through (record { address = r.at + 1; given = [] }) (store zs) (left rest)) (sym h.1)),
      )
  opens-so (instr.OfferAccept n number) here offer b ys o h = accepts-at n number here (slice_get k.sites number) b ys o h (λ rest. refl)
  opens-so (instr.OfferAfter n) here offer b ys o h =
      let f : Fits k (instr.OfferAfter n) S C r = fits k verified room enough S C F r ready (instr.OfferAfter n) here in
      let t : 1 ≤ r.top - r.bottom = f.operands in
      let x : ℤ = cell_of S (r.top - 1) in
      offers-so (instr.OfferAfter n) here (λ s. refl) refl 1 (x ∷ []) refl refl (one-operand S r.top (omega (arith, t)) f.top) n (alt.After x) b ys o h (λ rest. refl)
  opens-so (instr.OfferNow n) here offer b ys o h = offers-so (instr.OfferNow n) here (λ s. refl) refl 0 [] refl refl (none-taken r.top ready.lies.top) n alt.Now b ys o h (λ rest. refl)
  opens-so (instr.OfferEnd n) here offer b ys o h = offers-so (instr.OfferEnd n) here (λ s. refl) refl 0 [] refl refl (none-taken r.top ready.lies.top) n alt.Terminate b ys o h (λ rest. refl)
  opens-so i here offer b ys o h = absurd offer

  -- with the bound
  pub opened-none : (b : Lists) (ys : List (ℕ × Alt)) (o : Option FaultKind) → o ≡ None → Comes b ys o → b.registers.count ≤ most_steps → Opened k room a xs b ys None
  opened-none b ys o e h few = (let g : Comes b ys None = subst (Comes b ys) e h in opened-on g.0 b ys g.1 few)

  pub opened-many : (b : Lists) (ys : List (ℕ × Alt)) (o : Option FaultKind) → o ≡ None → Comes b ys o → most_steps < b.registers.count → Opened k room a xs b ys (Some Depth)
  opened-many b ys o e h many = (let g : Comes b ys None = subst (Comes b ys) e h in opened-depth g.0 b ys g.1 many)
