-- The rule of the table: one word, the turn, and one slot, the value.
use Rattle.std.specs.Prelude.{◌≡◌, ◌≢◌, ◌⊎◌, ℕ, List, [], ◌∷◌, Option, Some, None, IsSomeAnd}
use mathlib.Core.Option.{none, some}
use mathlib.Core.List.{IsPrefix}
use lib.ListN.{get_elem?}
use Rattle.atomic_table.specs.Table.{State, Me, Step}
use Rattle.cc_desk.specs.declared.view.View.{View}
use Rattle.cc_desk.specs.Entry.{Entry, entry}
use Rattle.cc_desk.specs.Lists.{Has, HasOut, IsSwapped, Apart, longer, shorter}

module _ {R E G : Type 0} where
  abbrev pub spent : View R E G
  spent = record { marker = record {}; root = None; seen = []; also_seen = []; out = None; entry = None }

  abbrev pub new_view : Option R → List E → View R E G
  new_view root seen = record { marker = record {}; root = root; seen = seen; also_seen = []; out = None; entry = None }

  -- the view of a second seat, made beside this one
  abbrev pub second_view : View R E G → View R E G
  second_view v = new_view v.root v.seen

  -- the view after a join. `also_seen` keeps the shorter list until the next step has compared the two
  abbrev pub joined_view : View R E G → View R E G → View R E G
  joined_view v w = record v { seen = longer v.seen w.seen; also_seen = shorter v.seen w.seen }

  -- what the views say, where these events took place and these entries are out
  pub record Fits (root : R) (events : List E) (outs : List (ℕ × G)) (views : List (View R E G)) : Type 0 where
    pub rooted : (j : ℕ) (v : View R E G) → get_elem? views j ≡ some v → (v.root ≡ None) ⊎ (v.root ≡ Some root)
    pub blank : (j : ℕ) (v : View R E G) → get_elem? views j ≡ some v → v.root ≡ None → v ≡ spent
    pub seen : (j : ℕ) (v : View R E G) → get_elem? views j ≡ some v → IsPrefix v.seen events × IsPrefix v.also_seen events
    pub out : (j : ℕ) (v : View R E G) (e : ℕ × G) → get_elem? views j ≡ some v → v.out ≡ Some e → Has outs e
    pub once : (j k : ℕ) (v w : View R E G) (e f : ℕ × G) → get_elem? views j ≡ some v → get_elem? views k ≡ some w → v.out ≡ Some e → w.out ≡ Some f → e.0 ≡ f.0 → j ≡ k
    pub covered : (e : ℕ × G) → Has outs e → (j : ℕ) × (v : View R E G) × (get_elem? views j ≡ some v) × (v.out ≡ Some e)
    pub apart : Apart outs

  module _ {T : Type 0} (events : T → List E) (outs : T → List (ℕ × G)) (since : T → R → Type 0) where
    pub record IsHome (root : R) (s : State (Option T) (View R E G)) : Type 0 where
      pub value : T
      pub word : s.words ≡ 0 ∷ []
      pub home : s.homes ≡ some (Some value) ∷ []
      pub grown : since value root
      pub fits : Fits root (events value) (outs value) s.views
      pub idle : (j : ℕ) (v : View R E G) → get_elem? s.views j ≡ some v → v.entry ≡ None

    pub record IsTaken (root : R) (s : State (Option T) (View R E G)) : Type 0 where
      pub entry : Entry E G
      pub holder : ℕ
      pub view : View R E G
      pub word : s.words ≡ 1 ∷ []
      pub home : s.homes ≡ none ∷ []
      pub fits : Fits root entry.events entry.outs s.views
      pub at : get_elem? s.views holder ≡ some view
      pub has : view.entry ≡ Some entry
      pub alone : (j : ℕ) (v : View R E G) → get_elem? s.views j ≡ some v → j ≢ holder → v.entry ≡ None

    abbrev pub IsKept : R → State (Option T) (View R E G) → Type 0
    IsKept root s = IsHome root s ⊎ IsTaken root s

    -- what the seat finds where it takes the turn
    pub record Enters (v : View R E G) (x : T) (w : View R E G) : Type 0 where
      pub view : w ≡ record v { entry = Some (entry (events x) (outs x)) }
      pub grown : IsSomeAnd v.root (since x)
      pub seen : IsPrefix v.seen (events x)
      pub out : HasOut (outs x) v.out

    pub record Leaves (v : View R E G) (x : T) (w : View R E G) : Type 0 where
      pub view : w ≡ record v { seen = events x; out = w.out; entry = None }
      pub out : (e : Entry E G) → v.entry ≡ Some e → IsSwapped e.outs v.out (outs x) w.out
      pub apart : (e : Entry E G) → v.entry ≡ Some e → Apart e.outs

    -- the word found was 0 and the value is the seat's, or nothing changed
    abbrev pub TookTurn : Step (Option T) → Me (Option T) (View R E G) → ℕ → Me (Option T) (View R E G) → Type 0
    TookTurn st m n m' = (n ≡ 0 → (x : T) × (m'.1 ≡ (0, Some x) ∷ []) × Enters m.0 x m'.0) × (n ≢ 0 → m' ≡ m)

    abbrev pub GaveBack : Step (Option T) → Me (Option T) (View R E G) → ℕ → Me (Option T) (View R E G) → Type 0
    GaveBack st m n m' = (m'.1 ≡ []) × ((x : T) → m.1 ≡ (0, Some x) ∷ [] → Leaves m.0 x m'.0)

    abbrev pub ComparedSeen : Step (Option T) → Me (Option T) (View R E G) → ℕ → Me (Option T) (View R E G) → Type 0
    ComparedSeen st m n m' = (m' ≡ m) × (all : List E) × IsPrefix m.0.seen all × IsPrefix m.0.also_seen all

-- a seat that has the turn holds the slot, which is empty meanwhile
abbrev pub carried : {E G T : Type 0} → Option (Entry E G) → List (ℕ × Option T)
carried None = []
carried (Some e) = (0, None) ∷ []
