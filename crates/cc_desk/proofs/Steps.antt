-- Each step keeps the rule.
use Rattle.std.proofs.Common.{◌≡◌, ◌≢◌, ◌⊎◌, ℕ, zero, suc, eqb, List, [], ◌∷◌, ◌++◌, length, set, get_or, sym, refl, ap, subst, ◌∙◌, inl, inr, ⊎_elim, arith, Option, Some, None, IsSomeAnd}
use Rattle.std.proofs.lemmas.Option.{none-some, same_Some}
use mathlib.Core.Logic.{dite}
use mathlib.Core.Option.{none, some, some-ne-none}
use mathlib.Core.Option as maybe
use mathlib.Core.List.{IsPrefix}
use native.Mathlib.Decide.{ℕ_discrete}
use lib.ListN.{get_elem?}
use prog.Atomic.{either}
use Rattle.atomic_table.specs.Table.{State, Me, step, Act, keeps, takes, gives, Valid, homes_after, carried_after, Allows, Splits, Joins, opening, rest}
use Rattle.atomic_table.proofs.Lists.{at_set, set_else, set_again, at_snoc}
use Rattle.cc_desk.specs.declared.view.View.{View}
use Rattle.atomic_table.specs.Seated.{TableId}
use Rattle.cc_desk.specs.Seated.{Seated}
use Rattle.cc_desk.specs.Entry.{Entry, entry}
use Rattle.cc_desk.specs.Lists.{Has, HasOut, IsSwapped, Apart}
use Rattle.cc_desk.specs.Rule.{carried, Fits, IsKept, spent, new_view, second_view, joined_view, Enters, Leaves, TookTurn, GaveBack, ComparedSeen}
use Rattle.cc_desk.proofs.Entries.{both_begin, goes_on, longer_begins, swapped_once}
use Rattle.cc_desk.proofs.Views.{set_at, same_at, each, Begun, Rooted, fits_set, fits_new, fits_leave}

abbrev second : {T : Type 0} → Option T → List (ℕ × Option T) → Option T
second d [] = d
second d (y ∷ ys) = y.1

rest_of : {E G T : Type 0} (o : Option (Entry E G)) → rest {S = Option T} (carried o) ≡ []
rest_of None = refl
rest_of (Some e) = refl

some_none : {A : Type 0} (e : A) (o : Option A) → o ≡ Some e → o ≡ None → ⊥
some_none e o p q = none-some e (sym q ∙ p)

module _ {T R E G : Type 0} (events : T → List E) (outs : T → List (ℕ × G)) (since : T → R → Type 0) where
  -- what `leave` requires of the record
  abbrev pub Follows : View R E G → T → Entry E G → Type 0
  Follows v x e = IsPrefix e.events (events x) × (more : Option (ℕ × G)) × IsSwapped e.outs v.out (outs x) more

  pub entered : (m n k : Me (Option T) (View R E G)) (x y : T) (r : Option T) → n ≡ m → k.1 ≡ (0, Some x) ∷ [] → Enters events outs since n.0 x k.0 → k.1 ≡ (0, r) ∷ rest k.1 → r ≡ Some y → Enters events outs since m.0 y k.0
  entered m n k x y r same has e front is =
      let found : Some x ≡ r = ap (second (Some x)) (sym has ∙ front) in
      subst (λ (z : Me (Option T) (View R E G) × T). Enters events outs since z.0.0 z.1 k.0) (λ i. (same i, same_Some x y (found ∙ is) i)) e

  pub apart_of : ((x : T) (r : R) → since x r → Apart (outs x)) → (x : T) (o : Option R) → IsSomeAnd o (since x) → Apart (outs x)
  apart_of law x None h = absurd h
  apart_of law x (Some r) h = law x r h

  left_at : (v : View R E G) (x : T) (w : View R E G) (o : Option (Entry E G)) → v.entry ≡ o → IsSomeAnd o (Follows v x) → Apart (outs x) → Leaves events outs since v x w
      → IsSomeAnd o (λ e. (more : Option (ℕ × G)) → IsSwapped e.outs v.out (outs x) more → w.out ≡ more)
  left_at v x w None is h apart l = absurd h
  left_at v x w (Some e) is h apart l = λ more s. swapped_once e.outs (outs x) v.out w.out more (l.apart e is) apart (l.out e is) s

  -- what the seat has out after a `leave`
  pub has_left : (m n : Me (Option T) (View R E G)) (x : T) (w : View R E G) → n ≡ (m.0, (0, Some x) ∷ rest m.1) → m.1 ≡ carried m.0.entry → IsSomeAnd m.0.entry (Follows m.0 x) → Apart (outs x)
      → ((y : T) → n.1 ≡ (0, Some y) ∷ [] → Leaves events outs since n.0 y w) → IsSomeAnd m.0.entry (λ e. (more : Option (ℕ × G)) → IsSwapped e.outs m.0.out (outs x) more → w.out ≡ more)
  has_left m n x w is posed h apart known =
      let now : n ≡ (m.0, (0, Some x) ∷ []) = is ∙ ap (λ (c : List (ℕ × Option T)). (m.0, (0, Some x) ∷ c)) (ap (λ (c : List (ℕ × Option T)). rest c) posed ∙ rest_of m.0.entry) in
      let l : Leaves events outs since m.0 x w = subst (λ (v : View R E G). Leaves events outs since v x w) (ap (λ (k : Me (Option T) (View R E G)). k.0) now) (known x (ap (λ (k : Me (Option T) (View R E G)). k.1) now)) in
      left_at m.0 x w m.0.entry refl h apart l

module _ {T R E G : Type 0} (events : T → List E) (outs : T → List (ℕ × G)) (since : T → R → Type 0) (root : R) where
  abbrev V : Type 0
  V = View R E G

  abbrev S : Type 0
  S = State (Option T) V

  abbrev Rule : S → Type 0
  Rule = IsKept events outs since root

  abbrev Homes : Type 0
  Homes = List (maybe.Option (Option T))

  abbrev st : List ℕ → Homes → List V → S
  st ws hs vs = record { words = ws; homes = hs; views = vs }

  -- one view changes, and neither what it has out nor its record
  pub kept_set : (s : S) (id : ℕ) (v w : V) → Rule s → get_elem? s.views id ≡ some v → w.out ≡ v.out → w.entry ≡ v.entry → Rooted root w
      → ((all : List E) → ((j : ℕ) (u : V) → get_elem? s.views j ≡ some u → Begun all u) → Begun all w) → Rule (st s.words s.homes (set s.views id w))
  kept_set s id v w (inl h) at same has live begun = inl record {
    value = h.value;
    word = h.word;
    home = h.home;
    grown = h.grown;
    fits = fits_set root (events h.value) (outs h.value) s.views id v w h.fits at same live (begun (events h.value) h.fits.seen);
    idle = each (λ j u. u.entry ≡ None) s.views id w (has ∙ h.idle id v at) (λ j u _ a. h.idle j u a);
  }
  kept_set s id v w (inr t) at same has live begun = dite (ℕ_discrete t.holder id)
      (λ is. let one : t.view ≡ v = same_at s.views id t.view v (subst (λ (j : ℕ). get_elem? s.views j ≡ some t.view) is t.at) at in inr record {
        entry = t.entry;
        holder = id;
        view = w;
        word = t.word;
        home = t.home;
        fits = after;
        at = set_at s.views id w v at;
        has = has ∙ (ap (λ (u : V). u.entry) (sym one) ∙ t.has);
        alone = λ j u a not. ⊎_elim (λ (p : (j ≡ id) × (w ≡ u)). absurd (not p.0)) (λ (p : (j ≢ id) × (get_elem? s.views j ≡ some u)). t.alone j u p.1 (λ e. not (e ∙ is))) (at_set s.views id j w u a);
      })
      (λ not. inr record {
        entry = t.entry;
        holder = t.holder;
        view = t.view;
        word = t.word;
        home = t.home;
        fits = after;
        at = set_else s.views id t.holder w not ∙ t.at;
        has = t.has;
        alone = each (λ j u. j ≢ t.holder → u.entry ≡ None) s.views id w (λ n. has ∙ t.alone id v at n) (λ j u _ a n. t.alone j u a n);
      })
    where
      after : Fits root t.entry.events t.entry.outs (set s.views id w)
      after = fits_set root t.entry.events t.entry.outs s.views id v w t.fits at same live (begun t.entry.events t.fits.seen)

  kept_new : (ws : List ℕ) (hs : Homes) (vs : List V) (w : V) → Rule (st ws hs vs) → w.out ≡ None → w.entry ≡ None → Rooted root w
      → ((all : List E) → ((j : ℕ) (u : V) → get_elem? vs j ≡ some u → Begun all u) → Begun all w) → Rule (st ws hs (vs ++ w ∷ []))
  kept_new ws hs vs w (inl h) empty none_yet live begun = inl record {
    value = h.value;
    word = h.word;
    home = h.home;
    grown = h.grown;
    fits = fits_new root (events h.value) (outs h.value) vs w h.fits empty live (begun (events h.value) h.fits.seen);
    idle = λ j u a. ⊎_elim (h.idle j u) (λ p. subst (λ (x : V). x.entry ≡ None) p none_yet) (at_snoc vs w u j a);
  }
  kept_new ws hs vs w (inr t) empty none_yet live begun = inr record {
    entry = t.entry;
    holder = t.holder;
    view = t.view;
    word = t.word;
    home = t.home;
    fits = fits_new root t.entry.events t.entry.outs vs w t.fits empty live (begun t.entry.events t.fits.seen);
    at = Rattle.atomic_table.proofs.Lists.at_longer vs (w ∷ []) t.holder t.view t.at;
    has = t.has;
    alone = λ j u a n. ⊎_elim (λ b. t.alone j u b n) (λ p. subst (λ (x : V). x.entry ≡ None) p none_yet) (at_snoc vs w u j a);
  }

  rooted_of : (s : S) (id : ℕ) (v : V) → Rule s → get_elem? s.views id ≡ some v → Rooted root v
  rooted_of s id v (inl h) at = (h.fits.rooted id v at, h.fits.blank id v at)
  rooted_of s id v (inr t) at = (t.fits.rooted id v at, t.fits.blank id v at)

  -- a seat is not spent
  abbrev Live : V → Type 0
  Live v = v.root ≢ None

  pub splits : (id : ℕ) (v : V) → Splits Rule id v v (second_view v)
  splits id v s r at =
      let own = rooted_of s id v r at in
      let blank : v.root ≡ None → second_view v ≡ spent = λ e. ap second_view (own.1 e) in
      let grown : (all : List E) → ((j : ℕ) (u : V) → get_elem? s.views j ≡ some u → Begun all u) → Begun all (second_view v) = λ all f. ((f id v at).0, (all, refl)) in
      subst (λ vs. Rule (st s.words s.homes (vs ++ second_view v ∷ []))) (sym (set_again s.views id v at)) (kept_new s.words s.homes s.views (second_view v) r refl refl (own.0, blank) grown)

  pub joins : (id : ℕ) (v : V) (other : ℕ) (w : V) → Live v → w.out ≡ None → w.entry ≡ None → Joins Rule id v other w (joined_view v w) spent
  joins id v other w live nothing idle s r at not at' =
      let there : get_elem? s.views other ≡ some w = sym (set_else s.views id other (joined_view v w) not) ∙ at' in
      let own = rooted_of s id v r at in
      let first : Rule (st s.words s.homes (set s.views id (joined_view v w))) =
      kept_set s id v (joined_view v w) r at refl refl (own.0, λ e. absurd (live e)) (λ all f. both_begin v.seen w.seen all (f id v at).0 (f other w there).0) in
      kept_set (st s.words s.homes (set s.views id (joined_view v w))) other w spent first at' (sym nothing) (sym idle) (inl refl, λ _. refl) (λ all f. ((all, refl), (all, refl)))

  pub compares : (slots id : ℕ) (v : V) (c : List (ℕ × Option T)) → Allows Rule slots id (v, c) 0 (λ n. n) (ComparedSeen events outs since (step slots 0 0 0 none) (v, c))
  compares slots id v c s r deep at small =
      let own = rooted_of s id v r at in
      let now : Rule (st s.words s.homes (set s.views id v)) = kept_set s id v v r at refl refl own (λ all f. f id v at) in
      (v, keeps, tt, subst (λ ws. Rule (st ws s.homes (set s.views id v))) (same_words r) now, found r)
    where
      same_words : Rule s → s.words ≡ set s.words 0 (get_or s.words 0 0)
      same_words (inl h) = subst (λ ws. ws ≡ set ws 0 (get_or ws 0 0)) (sym h.word) refl
      same_words (inr t) = subst (λ ws. ws ≡ set ws 0 (get_or ws 0 0)) (sym t.word) refl

      found : Rule s → ComparedSeen events outs since (step slots 0 0 0 none) (v, c) (get_or s.words 0 0) (v, c)
      found (inl h) = (refl, events h.value, (h.fits.seen id v at).0, (h.fits.seen id v at).1)
      found (inr t) = (refl, t.entry.events, (t.fits.seen id v at).0, (t.fits.seen id v at).1)

  grown_at : (x : T) (o : Option R) → (o ≡ None) ⊎ (o ≡ Some root) → o ≢ None → since x root → IsSomeAnd o (since x)
  grown_at x o is live h = ⊎_elim (λ e. absurd (live e)) (λ e. subst (λ (z : Option R). IsSomeAnd z (since x)) (sym e) h) is

  root_of : (x : T) (o : Option R) → (o ≡ None) ⊎ (o ≡ Some root) → IsSomeAnd o (since x) → since x root
  root_of x o is h = ⊎_elim (λ e. absurd (subst (λ (z : Option R). IsSomeAnd z (since x)) e h)) (λ e. subst (λ (z : Option R). IsSomeAnd z (since x)) e h) is

  live_of : (x : T) (o : Option R) → IsSomeAnd o (since x) → o ≢ None
  live_of x o h e = subst (λ (z : Option R). IsSomeAnd z (since x)) e h

  has_out : (xs : List (ℕ × G)) (o : Option (ℕ × G)) → ((e : ℕ × G) → o ≡ Some e → Has xs e) → HasOut xs o
  has_out xs None f = tt
  has_out xs (Some e) f = f e refl

  abbrev Taking : ℕ → V → List ℕ → Homes → List V → Type 0
  Taking id v ws hs vs = (w : V) × (a : Act (Option T)) × Valid hs [] a × Rule (st (set ws 0 (either (eqb (get_or ws 0 0) 0) 1 (get_or ws 0 0))) (homes_after hs [] a) (set vs id w))
      × TookTurn events outs since (step 1 0 0 1 none) (v, []) (get_or ws 0 0) (w, carried_after [] a)

  taking : (slots id : ℕ) (v : V) → Live v → v.entry ≡ None → Allows Rule slots id (v, []) 0 (λ n. either (eqb n 0) 1 n) (TookTurn events outs since (step slots 0 0 1 none) (v, []))
  taking slots id v live free s r deep at small = go r
    where
      go : Rule s → Taking id v s.words s.homes s.views
      go (inl h) = let x = h.value in let w : V = record v { entry = Some (entry (events x) (outs x)) } in
          let own = h.fits.rooted id v at in
          let fits : Fits root (events x) (outs x) (set s.views id w) = fits_set root (events x) (outs x) s.views id v w h.fits at refl (own, λ e. absurd (live e)) (h.fits.seen id v at) in
          let taken : Rule (st (1 ∷ []) (none ∷ []) (set s.views id w)) = inr record {
            entry = entry (events x) (outs x);
            holder = id;
            view = w;
            word = refl;
            home = refl;
            fits = fits;
            at = set_at s.views id w v at;
            has = refl;
            alone = each (λ j u. j ≢ id → u.entry ≡ None) s.views id w (λ n. absurd (n refl)) (λ j u _ a _. h.idle j u a);
          } in
          let known : Enters events outs since v x w = record {
            view = refl;
            grown = grown_at x v.root own live h.grown;
            seen = (h.fits.seen id v at).0;
            out = has_out (outs x) v.out (λ e p. h.fits.out id v e at p);
          } in
          subst (λ (z : List ℕ × Homes). Taking id v z.0 z.1 s.views) (λ i. (sym h.word i, sym h.home i)) (w, takes 0 (Some x), refl, taken, ((λ _. (x, refl, known)), (λ n. absurd (n refl))))
      go (inr t) = subst (λ (z : List ℕ × Homes). Taking id v z.0 z.1 s.views) (λ i. (sym t.word i, sym t.home i))
          (v, keeps, tt, subst (λ vs. Rule (st (1 ∷ []) (none ∷ []) vs)) (sym (set_again s.views id v at)) (subst (λ (z : List ℕ × Homes). Rule (st z.0 z.1 s.views)) (λ i. (t.word i, t.home i)) (inr t)), ((λ e. absurd (omega arith)), (λ _. refl)))

  pub takes_turn : (slots id : ℕ) (m : Me (Option T) V) → Live m.0 → m.0.entry ≡ None → m.1 ≡ [] → Allows Rule slots id m 0 (λ n. either (eqb n 0) 1 n) (TookTurn events outs since (step slots 0 0 1 none) m)
  takes_turn slots id m live free empty =
      subst (λ (c : List (ℕ × Option T)). Allows Rule slots id (m.0, c) 0 (λ n. either (eqb n 0) 1 n) (TookTurn events outs since (step slots 0 0 1 none) (m.0, c))) (sym empty) (taking slots id m.0 live free)

  pub takes_again : (slots id : ℕ) (m m' : Me (Option T) V) → m' ≡ m → Live m.0 → m.0.entry ≡ None → m.1 ≡ carried m.0.entry → Allows Rule slots id m' 0 (λ n. either (eqb n 0) 1 n) (TookTurn events outs since (step slots 0 0 1 none) m')
  takes_again slots id m m' same live free posed =
      subst (λ (n : Me (Option T) V). Allows Rule slots id n 0 (λ k. either (eqb k 0) 1 k) (TookTurn events outs since (step slots 0 0 1 none) n)) (sym same) (takes_turn slots id m live free (posed ∙ ap carried free))

  abbrev Giving : ℕ → V → T → List ℕ → Homes → List V → Type 0
  Giving id v x ws hs vs = (w : V) × (a : Act (Option T)) × Valid hs ((0, Some x) ∷ []) a × Rule (st (set ws 0 0) (homes_after hs ((0, Some x) ∷ []) a) (set vs id w))
      × GaveBack events outs since (step 1 0 0 0 none) (v, (0, Some x) ∷ []) 0 (w, carried_after ((0, Some x) ∷ []) a)

  giving : (slots id : ℕ) (v : V) (x : T) (e : Entry E G) (more : Option (ℕ × G)) → v.entry ≡ Some e → IsSomeAnd v.root (since x) → Apart (outs x) → IsPrefix e.events (events x) → IsSwapped e.outs v.out (outs x) more
      → Allows Rule slots id (v, (0, Some x) ∷ []) 0 (λ _. 0) (λ _. GaveBack events outs since (step slots 0 0 0 none) (v, (0, Some x) ∷ []) 0)
  giving slots id v x e more has grown apart grows swap s r deep at small = go r
    where
      go : Rule s → Giving id v x s.words s.homes s.views
      go (inl h) = absurd (some_none e v.entry has (h.idle id v at))
      go (inr t) = dite (ℕ_discrete id t.holder)
          (λ is. let one : t.view ≡ v = same_at s.views id t.view v (subst (λ (j : ℕ). get_elem? s.views j ≡ some t.view) (sym is) t.at) at in
          let same : t.entry ≡ e = same_Some t.entry e (sym t.has ∙ (ap (λ (u : V). u.entry) one ∙ has)) in
          let w : V = record v { seen = events x; out = more; entry = None } in
          let own = t.fits.rooted id v at in
          let f : Fits root e.events e.outs s.views = subst (λ (z : Entry E G). Fits root z.events z.outs s.views) same t.fits in
          let fits : Fits root (events x) (outs x) (set s.views id w) = fits_leave root e.events (events x) e.outs (outs x) s.views id v w f at grows swap apart (own, λ n. absurd (live_of x v.root grown n))
          (([], Rattle.std.proofs.Common.append-nil (events x)), goes_on v.also_seen e.events (events x) (f.seen id v at).1 grows) in
          let home : Rule (st (0 ∷ []) (some (Some x) ∷ []) (set s.views id w)) = inl record {
            value = x;
            word = refl;
            home = refl;
            grown = root_of x v.root own grown;
            fits = fits;
            idle = each (λ j u. u.entry ≡ None) s.views id w refl (λ j u n a. t.alone j u a (λ q. n (q ∙ sym is)));
          } in
          let known : (y : T) → (0, Some x) ∷ [] ≡ (0, Some y) ∷ [] → Leaves events outs since v y w = λ y q.
          let z : x ≡ y = same_Some x y (ap {A = List (ℕ × Option T)} {B = Option T} (second (Some x)) q) in subst (λ (y : T). Leaves events outs since v y w) z record {
            view = refl;
            out = λ d p. subst (λ (d : Entry E G). IsSwapped d.outs v.out (outs x) more) (same_Some e d (sym has ∙ p)) swap;
            apart = λ d p. subst (λ (d : Entry E G). Apart d.outs) (same_Some e d (sym has ∙ p)) f.apart;
          } in
          subst (λ (z : List ℕ × Homes). Giving id v x z.0 z.1 s.views) (λ i. (sym t.word i, sym t.home i)) (w, gives, tt, home, (refl, known)))
          (λ not. absurd (some_none e v.entry has (t.alone id v at not)))

  gives_at : (slots id : ℕ) (v : V) (x : T) (o : Option (Entry E G)) → v.entry ≡ o → IsSomeAnd v.root (since x) → Apart (outs x) → IsSomeAnd o (Follows events outs since v x)
      → Allows Rule slots id (v, (0, Some x) ∷ []) 0 (λ _. 0) (λ _. GaveBack events outs since (step slots 0 0 0 none) (v, (0, Some x) ∷ []) 0)
  gives_at slots id v x None has grown apart h = absurd h
  gives_at slots id v x (Some e) has grown apart h = giving slots id v x e h.1 has grown apart h.0 h.2

  pub gives_turn : (slots id : ℕ) (m : Me (Option T) V) (x : T) → m.1 ≡ (0, Some x) ∷ [] → IsSomeAnd m.0.root (since x) → Apart (outs x) → IsSomeAnd m.0.entry (Follows events outs since m.0 x)
      → Allows Rule slots id m 0 (λ _. 0) (λ _. GaveBack events outs since (step slots 0 0 0 none) m 0)
  gives_turn slots id m x has grown apart h = subst (λ (c : List (ℕ × Option T)). Allows Rule slots id (m.0, c) 0 (λ _. 0) (λ _. GaveBack events outs since (step slots 0 0 0 none) (m.0, c) 0)) (sym has)
      (gives_at slots id m.0 x m.0.entry refl grown apart h)

  pub opens : (x : T) → outs x ≡ [] → since x root → Rule (opening (0 ∷ []) (Some x ∷ []) (new_view (Some root) (events x)))
  opens x empty grown = inl record {
    value = x;
    word = refl;
    home = refl;
    grown = grown;
    fits = record {
      rooted = λ j u a. subst (λ (z : V). (z.root ≡ None) ⊎ (z.root ≡ Some root)) (only j u a) (inr refl);
      blank = λ j u a. subst (λ (z : V). z.root ≡ None → z ≡ spent) (only j u a) (λ e. absurd (none-some root (sym e)));
      seen = λ j u a. subst (λ (z : V). Begun (events x) z) (only j u a) (([], Rattle.std.proofs.Common.append-nil (events x)), (events x, refl));
      out = λ j u e a p. absurd (none-some e (ap (λ (z : V). z.out) (only j u a) ∙ p));
      once = λ j k u y e g a b p q c. absurd (none-some e (ap (λ (z : V). z.out) (only j u a) ∙ p));
      covered = λ e h. absurd (subst (λ z. Has z e) empty h);
      apart = subst Apart (sym empty) tt;
    };
    idle = λ j u a. subst (λ (z : V). z.entry ≡ None) (only j u a) refl;
  }
    where
      only : (j : ℕ) (u : V) → get_elem? (new_view (Some root) (events x) ∷ []) j ≡ some u → new_view (Some root) (events x) ≡ u
      only zero u a = Rattle.std.proofs.Common.sym (Rattle.std.proofs.Common.sym (mathlib.Core.Option.some-injective _ _ a))
      only (suc j) u a = absurd (some-ne-none u (sym a))

  -- the same, where the value was just laid into the slot
  pub gives_back : (slots id : ℕ) (m m' : Me (Option T) V) (x : T) → m' ≡ (m.0, (0, Some x) ∷ rest m.1) → m.1 ≡ carried m.0.entry → IsSomeAnd m.0.root (since x) → Apart (outs x) → IsSomeAnd m.0.entry (Follows events outs since m.0 x)
      → Allows Rule slots id m' 0 (λ _. 0) (λ _. GaveBack events outs since (step slots 0 0 0 none) m' 0)
  gives_back slots id m m' x is posed grown apart h =
      let now : m' ≡ (m.0, (0, Some x) ∷ []) = is ∙ ap (λ (c : List (ℕ × Option T)). (m.0, (0, Some x) ∷ c)) (ap (λ (c : List (ℕ × Option T)). rest c) posed ∙ rest_of m.0.entry) in
      subst (λ (n : Me (Option T) V). Allows Rule slots id n 0 (λ _. 0) (λ _. GaveBack events outs since (step slots 0 0 0 none) n 0)) (sym now) (gives_turn slots id (m.0, (0, Some x) ∷ []) x refl grown apart h)

-- what a desk is opened with
pub opens_with : {T R E G : Type 0} (start : T → R) (events : T → List E) (outs : T → List (ℕ × G)) (since : T → R → Type 0) (x y : T) (items : List (Option T)) → y ≡ x → items ≡ Some x ∷ [] → outs x ≡ [] → since x (start x)
    → IsKept events outs since (start y) (opening (0 ∷ []) items (new_view (Some (start y)) (events y)))
opens_with {T} start events outs since x y items same are empty grown =
    subst (λ (z : T × List (Option T)). IsKept events outs since (start z.0) (opening (0 ∷ []) z.1 (new_view (Some (start z.0)) (events z.0)))) (λ i. (sym same i, sym are i)) (opens events outs since (start x) x empty grown)

-- the slot that was taken last, alone
pub front : {S : Type 0} (c : List (ℕ × S)) (x : ℕ × S) → c ≡ x ∷ [] → c ≡ x ∷ rest c
front c x p = p ∙ ap (λ d. x ∷ rest d) (sym p)

-- what a join shows
pub join_begins : {R E G : Type 0} (v w b u : View R E G) (all : List E) → b ≡ joined_view v w → u ≡ b → IsPrefix b.seen all → IsPrefix b.also_seen all → IsPrefix v.seen u.seen × IsPrefix w.seen u.seen
join_begins v w b u all is same p q =
    let r = longer_begins v.seen w.seen all (subst (λ z. IsPrefix z.seen all) is p) (subst (λ z. IsPrefix z.also_seen all) is q) in
    subst (λ z. IsPrefix v.seen z.seen × IsPrefix w.seen z.seen) (sym (same ∙ is)) r

-- what a clause sees of a seat
abbrev pub shown : {R E G : Type 0} → TableId → View R E G → Seated R E G
shown z v = record { desk = z; root = v.root; seen = v.seen; out = v.out; turn = v.entry }
