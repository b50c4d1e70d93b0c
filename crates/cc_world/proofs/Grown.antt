-- Known bytes, appended at the end or taken from the front piece by piece.
use Rattle.std.proofs.Common.{◌≡◌, ℕ, ◌+◌, ◌-◌, List, [], ◌++◌, length, take, drop, Option, Some, None, refl, sym, ◌∙◌, ap, arith}
use Rattle.std.proofs.lemmas.List.{append_assoc, take_all, length-drop}
use Rattle.std.proofs.Math.Seq.{take-add}
use Rattle.std.proofs.lemmas.Grind.{common_steps}
use Rattle.cc_world.specs.Told.{with_bytes, behind}

-- two pieces appended are both appended at once
pub grown_twice : (known : Option (List ℕ)) (a b : List ℕ) → with_bytes (with_bytes known a) b ≡ with_bytes known (a ++ b)
grown_twice None a b = refl
grown_twice (Some xs) a b = ap (λ (ys : List ℕ). Some ys) (append_assoc xs a b)

-- two pieces taken are both taken at once
pub fallen_twice : (known : Option (List ℕ)) (a b : List ℕ) → behind a (behind b known) ≡ behind (a ++ b) known
fallen_twice None a b = refl
fallen_twice (Some xs) a b = ap (λ (ys : List ℕ). Some ys) (sym (append_assoc a b xs))

-- nothing appended
pub not_grown : (known : Option (List ℕ)) → with_bytes known [] ≡ known
not_grown None = refl
not_grown (Some xs) = grind (arith, common_steps)

-- nothing taken
pub not_fallen : (known : Option (List ℕ)) → behind [] known ≡ known
not_fallen None = refl
not_fallen (Some xs) = refl

-- the rest of the bytes, as code slices it
slice_rest : (bytes : List ℕ) (done : ℕ) → take (length bytes - done) (drop done bytes) ≡ drop done bytes
slice_rest bytes done = take_all (length bytes - done) (drop done bytes) (omega (arith, length-drop done bytes))

-- a put of the next piece
pub put_more : (old mid new : Option (List ℕ)) (bytes : List ℕ) (done n : ℕ) → mid ≡ with_bytes old (take done bytes) → new ≡ with_bytes mid (take n (take (length bytes - done) (drop done bytes))) → new ≡ with_bytes old (take (done + n) bytes)
put_more old mid new bytes done n e f =
    f ∙ ap (λ r. with_bytes mid (take n r)) (slice_rest bytes done) ∙ ap (λ k. with_bytes k (take n (drop done bytes))) e ∙ grown_twice old (take done bytes) (take n (drop done bytes)) ∙ ap (with_bytes old) (sym (take-add done n bytes))

-- a take of the next piece
pub take_more : (old mid new : Option (List ℕ)) (bytes piece : List ℕ) → old ≡ behind bytes mid → mid ≡ behind piece new → old ≡ behind (bytes ++ piece) new
take_more old mid new bytes piece e f = e ∙ ap (behind bytes) f ∙ fallen_twice new bytes piece
