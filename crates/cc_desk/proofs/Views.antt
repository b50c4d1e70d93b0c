-- What the views say stays true where one of them changes.
use Rattle.std.proofs.Common.{◌≡◌, ◌≢◌, ◌⊎◌, ℕ, zero, suc, List, [], ◌∷◌, ◌++◌, set, sym, refl, ap, subst, ◌∙◌, ⊎_elim, Some, None}
use Rattle.std.proofs.lemmas.Option.{none-some}
use mathlib.Core.Logic.{dite}
use mathlib.Core.Option.{some, some-injective, some-ne-none}
use mathlib.Core.List.{IsPrefix}
use native.Mathlib.Decide.{ℕ_discrete}
use lib.ListN.{get_elem?}
use Rattle.atomic_table.proofs.Lists.{at_set, set_else, at_snoc, at_longer}
use Rattle.cc_desk.specs.declared.view.View.{View}
use Rattle.cc_desk.specs.Lists.{Has, IsSwapped, Apart}
use Rattle.cc_desk.specs.Rule.{Fits, spent}
use Rattle.cc_desk.proofs.Entries.{stays, comes, is_which, differs, goes_on}

module _ {A : Type 0} where
  abbrev At : List A → ℕ → A → Type 0
  At l j a = get_elem? l j ≡ some a

  pub set_at : (l : List A) (i : ℕ) (a b : A) → get_elem? l i ≡ some b → get_elem? (set l i a) i ≡ some a
  set_at [] i a b e = absurd (some-ne-none b (sym e))
  set_at (x ∷ xs) zero a b e = refl
  set_at (x ∷ xs) (suc i) a b e = set_at xs i a b e

  pub same_at : (l : List A) (i : ℕ) (a b : A) → get_elem? l i ≡ some a → get_elem? l i ≡ some b → a ≡ b
  same_at l i a b p q = some-injective a b (sym p ∙ q)

  pub each : (P : ℕ → A → Type 0) (l : List A) (i : ℕ) (w : A) → P i w → ((j : ℕ) (u : A) → j ≢ i → get_elem? l j ≡ some u → P j u) → (j : ℕ) (u : A) → get_elem? (set l i w) j ≡ some u → P j u
  each P l i w here others j u at = ⊎_elim (λ (t : (j ≡ i) × (w ≡ u)). subst (λ (z : ℕ × A). P z.0 z.1) (λ k. (sym t.0 k, t.1 k)) here) (λ (t : (j ≢ i) × (get_elem? l j ≡ some u)). others j u t.0 t.1) (at_set l i j w u at)

module _ {R E G : Type 0} where
  abbrev pub Begun : List E → View R E G → Type 0
  Begun events v = IsPrefix v.seen events × IsPrefix v.also_seen events

  abbrev pub Rooted : R → View R E G → Type 0
  Rooted root v = ((v.root ≡ None) ⊎ (v.root ≡ Some root)) × (v.root ≡ None → v ≡ spent)

  -- a view changes, and has out what it had
  pub fits_set : (root : R) (events : List E) (outs : List (ℕ × G)) (views : List (View R E G)) (id : ℕ) (v w : View R E G) → Fits root events outs views → At views id v → w.out ≡ v.out → Rooted root w → Begun events w
      → Fits root events outs (set views id w)
  fits_set root events outs views id v w f at same live begun = record {
    rooted = each (λ j u. (u.root ≡ None) ⊎ (u.root ≡ Some root)) views id w live.0 (λ j u _ a. f.rooted j u a);
    blank = each (λ j u. u.root ≡ None → u ≡ spent) views id w live.1 (λ j u _ a. f.blank j u a);
    seen = each (λ j u. Begun events u) views id w begun (λ j u _ a. f.seen j u a);
    out = λ j u e a p. let b = before j u a in f.out j b.0 e b.1 (b.2 ∙ p);
    once = λ j k u x e g p q a b c. let s = before j u p in let t = before k x q in f.once j k s.0 t.0 e g s.1 t.1 (s.2 ∙ a) (t.2 ∙ b) c;
    covered = λ e h. let c = f.covered e h in dite (ℕ_discrete c.0 id)
        (λ is. (id, w, set_at views id w v at, same ∙ (ap (λ (u : View R E G). u.out) (same_at views id v c.1 at (subst (λ (j : ℕ). At views j c.1) is c.2)) ∙ c.3)))
        (λ not. (c.0, c.1, set_else views id c.0 w not ∙ c.2, c.3));
    apart = f.apart;
  }
    where
      before : (j : ℕ) (u : View R E G) → At (set views id w) j u → (b : View R E G) × At views j b × (b.out ≡ u.out)
      before = each (λ j u. (b : View R E G) × At views j b × (b.out ≡ u.out)) views id w (v, at, sym same) (λ j u _ a. (u, a, refl))

  -- a new view, with nothing out
  pub fits_new : (root : R) (events : List E) (outs : List (ℕ × G)) (views : List (View R E G)) (w : View R E G) → Fits root events outs views → w.out ≡ None → Rooted root w → Begun events w → Fits root events outs (views ++ w ∷ [])
  fits_new root events outs views w f empty live begun = record {
    rooted = λ j u a. ⊎_elim (f.rooted j u) (λ p. subst (λ (x : View R E G). (x.root ≡ None) ⊎ (x.root ≡ Some root)) p live.0) (at_snoc views w u j a);
    blank = λ j u a. ⊎_elim (f.blank j u) (λ p. subst (λ (x : View R E G). x.root ≡ None → x ≡ spent) p live.1) (at_snoc views w u j a);
    seen = λ j u a. ⊎_elim (f.seen j u) (λ p. subst (λ (x : View R E G). Begun events x) p begun) (at_snoc views w u j a);
    out = λ j u e a p. f.out j u e (old j u e a p) p;
    once = λ j k u x e g p q a b c. f.once j k u x e g (old j u e p a) (old k x g q b) a b c;
    covered = λ e h. let c = f.covered e h in (c.0, c.1, at_longer views (w ∷ []) c.0 c.1 c.2, c.3);
    apart = f.apart;
  }
    where
      old : (j : ℕ) (u : View R E G) (e : ℕ × G) → At (views ++ w ∷ []) j u → u.out ≡ Some e → At views j u
      old j u e a p = ⊎_elim (λ q. q) (λ (q : w ≡ u). absurd (none-some e (sym empty ∙ (ap (λ (x : View R E G). x.out) q ∙ p)))) (at_snoc views w u j a)

  -- the events go on, and the entry of one view changes
  pub fits_leave : (root : R) (events events' : List E) (outs outs' : List (ℕ × G)) (views : List (View R E G)) (id : ℕ) (v w : View R E G) → Fits root events outs views → At views id v → IsPrefix events events'
      → IsSwapped outs v.out outs' w.out → Apart outs' → Rooted root w → Begun events' w → Fits root events' outs' (set views id w)
  fits_leave root events events' outs outs' views id v w f at grows swap apart' live begun = record {
    rooted = each (λ j u. (u.root ≡ None) ⊎ (u.root ≡ Some root)) views id w live.0 (λ j u _ a. f.rooted j u a);
    blank = each (λ j u. u.root ≡ None → u ≡ spent) views id w live.1 (λ j u _ a. f.blank j u a);
    seen = each (λ j u. Begun events' u) views id w begun (λ j u _ a. let b = f.seen j u a in (goes_on u.seen events events' b.0 grows, goes_on u.also_seen events events' b.1 grows));
    out = λ j u e. each (λ j u. u.out ≡ Some e → Has outs' e) views id w (comes swap.0 outs' w.out e swap.2) (λ j u not a p. stays swap.0 outs' w.out e swap.2 (elsewhere j u e not a p)) j u;
    once = λ j k u x e g p q. each (λ j u. (k : ℕ) (x : View R E G) → At (set views id w) k x → u.out ≡ Some e → x.out ≡ Some g → e.0 ≡ g.0 → j ≡ k) views id w
        (λ k x q. each (λ k x. w.out ≡ Some e → x.out ≡ Some g → e.0 ≡ g.0 → id ≡ k) views id w (λ _ _ _. refl)
        (λ k x not b mine his c. absurd (differs swap.0 outs' w.out e g swap.2 mine apart' (elsewhere k x g not b his) (sym c))) k x q)
        (λ j u not a k x q. each (λ k x. u.out ≡ Some e → x.out ≡ Some g → e.0 ≡ g.0 → j ≡ k) views id w
        (λ his mine c. absurd (differs swap.0 outs' w.out g e swap.2 mine apart' (elsewhere j u e not a his) c))
        (λ k x _ b. f.once j k u x e g a b) k x q) j u p k x q;
    covered = λ e h. ⊎_elim (λ (p : w.out ≡ Some e). (id, w, set_at views id w v at, p)) (λ (p : Has swap.0 e). found e p) (is_which swap.0 outs' w.out e swap.2 h);
    apart = apart';
  }
    where
      elsewhere : (j : ℕ) (u : View R E G) (e : ℕ × G) → j ≢ id → At views j u → u.out ≡ Some e → Has swap.0 e
      elsewhere j u e not a p = ⊎_elim (λ (q : v.out ≡ Some e). absurd (not (f.once j id u v e e a at p q refl))) (λ q. q) (is_which swap.0 outs v.out e swap.1 (f.out j u e a p))

      found : (e : ℕ × G) → Has swap.0 e → (j : ℕ) × (u : View R E G) × At (set views id w) j u × (u.out ≡ Some e)
      found e h = let c = f.covered e (stays swap.0 outs v.out e swap.1 h) in dite (ℕ_discrete c.0 id)
          (λ is. let mine : v.out ≡ Some e = ap (λ (u : View R E G). u.out) (same_at views id v c.1 at (subst (λ (j : ℕ). At views j c.1) is c.2)) ∙ c.3 in
          absurd (differs swap.0 outs v.out e e swap.1 mine f.apart h refl))
          (λ not. (c.0, c.1, set_else views id c.0 w not ∙ c.2, c.3))
