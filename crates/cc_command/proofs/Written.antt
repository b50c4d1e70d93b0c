-- Pieces written to a sink, one after the other.
use Rattle.std.proofs.Common.{◌≡◌, ℕ, ◌+◌, ◌≤◌, ◌<◌, List, [], ◌++◌, length, take, drop, get_or, Option, Some, Result, Ok, Err, refl, sym, ◌∙◌, ap, subst, arith, length-append, inl, inr}
use Rattle.std.specs.Prelude.{slice_get}
use Rattle.std.proofs.lemmas.Option.{get_or_from_slice_get}
use Rattle.std.specs.List.{flat_map}
use Rattle.std.proofs.Math.Seq.{take-append-add}
use Rattle.std.proofs.lemmas.Grind.{flat_map-append}
use Rattle.std.proofs.lemmas.List.{flat_map_more, take-append-drop, take-append-le, take_more}
use Rattle.cc_world.proofs.Grown.{grown_twice, not_grown}
use Rattle.cc_world.specs.Causes.{HasCause, HasWant, Rose}
use Rattle.cc_world.specs.Told.{GrewBy, GrewByPart, Reported, with_bytes}
use Rattle.cc_world.specs.declared.fault.IoFault.{IoFault}
use Rattle.cc_world.specs.declared.fault.IoFault.TheVariants.{Failed, Memory}
use Rattle.cc_command.specs.Reports.{Wrote}

abbrev pub Written : Type 0
Written = Result (Unit {0}) IoFault

-- a count that rose later rose
rose_later : (before middle now : ℕ) → before ≤ middle → Rose middle now → Rose before now
rose_later before middle now le rose = omega (arith, le, rose)

cause_later : {T U : Type 0} (before middle now : ℕ) (first : Result T IoFault) (second : Result U IoFault) → HasCause before middle first → HasCause middle now second → HasCause before now second
cause_later before middle now first second a b =
    record { later = omega (arith, a.later, b.later); failed = λ is. rose_later before middle now a.later (b.failed is) }

want_later : {T U : Type 0} (before middle now : ℕ) (first : Result T IoFault) (second : Result U IoFault) → HasWant before middle first → HasWant middle now second → HasWant before now second
want_later before middle now first second a b =
    record { later = omega (arith, a.later, b.later); memory = λ is. rose_later before middle now a.later (b.memory is) }

-- a first part of the second piece is one of both
part_behind : (old middle new : Option (List ℕ)) (a b : List ℕ) → GrewBy old middle a → GrewByPart middle new b → GrewByPart old new (a ++ b)
part_behind old middle new a b front part =
    record {
      count = length a + part.count;
      short = omega (arith, length-append a b, part.short);
      held =
          part.held
          ∙ ap (λ m. with_bytes m (take part.count b)) front
          ∙ grown_twice old a (take part.count b)
          ∙ ap (with_bytes old) (sym (take-append-add a b part.count));
    }

-- a first part of the first piece is one of both
part_front : (old new : Option (List ℕ)) (a b : List ℕ) → GrewByPart old new a → GrewByPart old new (a ++ b)
part_front old new a b part =
    record {
      count = part.count;
      short = omega (arith, length-append a b, part.short);
      held = part.held ∙ ap (with_bytes old) (sym (take-append-le part.count a b (omega (arith, part.short))));
    }

module _ (h0 h1 h2 : Option (List ℕ)) (f0 f1 f2 w0 w1 w2 : ℕ) (a b : List ℕ) (front : Wrote h0 h1 a f0 f1 w0 w1 (let ok : Written = Ok tt in ok)) where
  -- the second piece was written, too, or a first part of it
  pub wrote_more : (result : Written) → Wrote h1 h2 b f1 f2 w1 w2 result → Wrote h0 h2 (a ++ b) f0 f2 w0 w2 result
  wrote_more (Ok x) more =
      record {
        done = more.done ∙ ap (λ m. with_bytes m b) front.done ∙ grown_twice h0 a b;
        part = tt;
        cause = cause_later f0 f1 f2 _ _ front.cause more.cause;
        want = want_later w0 w1 w2 _ _ front.want more.want;
      }
  wrote_more (Err e) more =
      record {
        done = tt;
        part = part_behind h0 h1 h2 a b front.done more.part;
        cause = cause_later f0 f1 f2 _ _ front.cause more.cause;
        want = want_later w0 w1 w2 _ _ front.want more.want;
      }

-- nothing was written yet
pub wrote_nothing : (h : Option (List ℕ)) (f w : ℕ) → Wrote h h [] f f w w (let ok : Written = Ok tt in ok)
wrote_nothing h f w =
    record {
      done = sym (not_grown h);
      part = tt;
      cause = record { later = omega arith; failed = λ is. absurd cc };
      want = record { later = omega arith; memory = λ is. absurd cc };
    }

-- where writing stopped, more was to come
pub stopped : (h0 h1 : Option (List ℕ)) (f0 f1 w0 w1 : ℕ) (a b : List ℕ) (e : IoFault) → Wrote h0 h1 a f0 f1 w0 w1 (let err : Written = Err e in err) → Wrote h0 h1 (a ++ b) f0 f1 w0 w1 (let err : Written = Err e in err)
stopped h0 h1 f0 f1 w0 w1 a b e front =
    record { done = tt; part = part_front h0 h1 a b front.part; cause = front.cause; want = front.want }

-- what one write gives that stopped
pub wrote_part :
    (h0 h1 : Option (List ℕ)) (f0 f1 w0 w1 : ℕ) (bytes : List ℕ) (e : IoFault)
    → GrewByPart h0 h1 bytes
    → HasCause f0 f1 (let err : Written = Err e in err)
    → HasWant w0 w1 (let err : Written = Err e in err)
    → Wrote h0 h1 bytes f0 f1 w0 w1 (let err : Written = Err e in err)
wrote_part h0 h1 f0 f1 w0 w1 bytes e part cause want = record { done = tt; part = part; cause = cause; want = want }

-- what is reported, however writing ended
pub reported : (h0 h1 : Option (List ℕ)) (f0 f1 w0 w1 : ℕ) (line : List ℕ) (result : Written) → Wrote h0 h1 line f0 f1 w0 w1 result → Reported h0 h1 line f0 f1 w0 w1
reported h0 h1 f0 f1 w0 w1 line (Ok x) wrote = inl wrote.done
reported h0 h1 f0 f1 w0 w1 line (Err Failed) wrote = inr (wrote.part, inl (wrote.cause.failed refl))
reported h0 h1 f0 f1 w0 w1 line (Err Memory) wrote = inr (wrote.part, inr (wrote.want.memory refl))

-- ---- a list of pieces

module _ {A : Type 0} (f : A → List ℕ) (xs : List A) (i : ℕ) (d : A) (lt : i < length xs) where
  pub one_more : flat_map f (take i xs) ++ f (get_or xs i d) ≡ flat_map f (take (i + 1) xs)
  one_more = flat_map_more f [] (take i xs) (get_or xs i d) ∙ ap (flat_map f) (sym (take_more xs i d lt))

module _ {A : Type 0} (f : A → List ℕ) (xs : List A) (i : ℕ) (d : A) (lt : i < length xs) where
  -- the pieces before this one, this one, and those behind it
  all_pieces : (flat_map f (take i xs) ++ f (get_or xs i d)) ++ flat_map f (drop (i + 1) xs) ≡ flat_map f xs
  all_pieces =
      ap (λ ys. ys ++ flat_map f (drop (i + 1) xs)) (one_more f xs i d lt)
      ∙ sym (flat_map-append f (take (i + 1) xs) (drop (i + 1) xs))
      ∙ ap (flat_map f) (take-append-drop (i + 1) xs)

  -- writing stopped within this piece
  pub stopped_at :
      (h0 h1 h2 : Option (List ℕ)) (f0 f1 f2 w0 w1 w2 : ℕ) (e : IoFault)
      → Wrote h0 h1 (flat_map f (take i xs)) f0 f1 w0 w1 (let ok : Written = Ok tt in ok)
      → Wrote h1 h2 (f (get_or xs i d)) f1 f2 w1 w2 (let err : Written = Err e in err)
      → Wrote h0 h2 (flat_map f xs) f0 f2 w0 w2 (let err : Written = Err e in err)
  stopped_at h0 h1 h2 f0 f1 f2 w0 w1 w2 e front more =
      subst (λ (bytes : List ℕ). Wrote h0 h2 bytes f0 f2 w0 w2 (let err : Written = Err e in err)) all_pieces
      (stopped h0 h2 f0 f2 w0 w2 (flat_map f (take i xs) ++ f (get_or xs i d)) (flat_map f (drop (i + 1) xs)) e
      (wrote_more h0 h1 h2 f0 f1 f2 w0 w1 w2 (flat_map f (take i xs)) (f (get_or xs i d)) front (let err : Written = Err e in err) more))

module _ {A : Type 0} (f : A → List ℕ) (xs : List A) (i : ℕ) (x : A) (lt : i < length xs) (there : slice_get xs i ≡ Some x) where
  same_piece : f (get_or xs i x) ≡ f x
  same_piece = ap f (get_or_from_slice_get xs i x x there)

  -- this piece was written, too
  pub more_written :
      (h0 h1 h2 : Option (List ℕ)) (f0 f1 f2 w0 w1 w2 : ℕ)
      → Wrote h0 h1 (flat_map f (take i xs)) f0 f1 w0 w1 (let ok : Written = Ok tt in ok)
      → Wrote h1 h2 (f x) f1 f2 w1 w2 (let ok : Written = Ok tt in ok)
      → Wrote h0 h2 (flat_map f (take (i + 1) xs)) f0 f2 w0 w2 (let ok : Written = Ok tt in ok)
  more_written h0 h1 h2 f0 f1 f2 w0 w1 w2 front more =
      subst (λ (bytes : List ℕ). Wrote h0 h2 bytes f0 f2 w0 w2 (let ok : Written = Ok tt in ok)) (ap (λ b. flat_map f (take i xs) ++ b) (sym same_piece) ∙ one_more f xs i x lt)
      (wrote_more h0 h1 h2 f0 f1 f2 w0 w1 w2 (flat_map f (take i xs)) (f x) front (let ok : Written = Ok tt in ok) more)

  -- writing stopped within this piece
  pub stopped_in :
      (h0 h1 h2 : Option (List ℕ)) (f0 f1 f2 w0 w1 w2 : ℕ) (e : IoFault)
      → Wrote h0 h1 (flat_map f (take i xs)) f0 f1 w0 w1 (let ok : Written = Ok tt in ok)
      → Wrote h1 h2 (f x) f1 f2 w1 w2 (let err : Written = Err e in err)
      → Wrote h0 h2 (flat_map f xs) f0 f2 w0 w2 (let err : Written = Err e in err)
  stopped_in h0 h1 h2 f0 f1 f2 w0 w1 w2 e front more =
      stopped_at f xs i x lt h0 h1 h2 f0 f1 f2 w0 w1 w2 e front
      (subst (λ (bytes : List ℕ). Wrote h1 h2 bytes f1 f2 w1 w2 (let err : Written = Err e in err)) (sym same_piece) more)
