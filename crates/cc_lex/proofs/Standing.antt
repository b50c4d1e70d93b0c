-- The piece that is computed stands at the front of a text, and no other does.
use Rattle.std.proofs.Common.{◌≡◌, ℕ, ◌+◌, ◌-◌, ◌<◌, ◌≤◌, List, ◌++◌, length, take, drop, sym, ◌∙◌, ap, subst, inl, inr, arith}
use Rattle.std.proofs.Math.Seq.{take-append-add}
use Rattle.std.proofs.lemmas.List.{append_assoc, take-append-drop, length-append, length-take-le}
use Rattle.cc_lex.specs.Pieces.{Is, Stands}
use Rattle.cc_lex.specs.Reading.{piece_at}
use Rattle.cc_lex.specs.declared.piece.Piece.{Piece}
use Rattle.cc_lex.proofs.Found.{found}
use Rattle.cc_lex.proofs.Fits.{piece_at-fits}
use Rattle.cc_lex.proofs.Runs.{Fits, Reaches}

-- what reaches further than what is found
no_longer : (x y : Piece) (n m : ℕ) → Reaches y m (x, n) → n < m → ⊥
no_longer x y n m (inl e) h = let same : n ≡ m = ap (λ (f : Piece × ℕ). f.1) e in omega arith
no_longer x y n m (inr e) h = omega arith

pub piece_at-stands : (text : List ℕ) → 0 < length text → Stands (piece_at text).0 (take (piece_at text).1 text) (drop (piece_at text).1 text)
piece_at-stands text h =
    let fits : Fits (piece_at text) text = piece_at-fits text h in
    let n = (piece_at text).1 in (
      fits.0,
      λ y more left e some is.
          let whole : (take n text ++ more) ++ left ≡ text = append_assoc (take n text) more left ∙ ap (λ (t : List ℕ). take n text ++ t) (sym e) ∙ take-append-drop n text in
          let reached : Reaches y (length (take n text ++ more)) (piece_at text) = subst (λ (t : List ℕ). Reaches y (length (take n text ++ more)) (piece_at t)) whole (found y (take n text ++ more) left is) in
          no_longer (piece_at text).0 y n (length (take n text ++ more)) reached (omega (arith, length-append (take n text) more, length-take-le n text fits.1)),
    )

-- a piece that is longer than one that stands
stands_longest : (x : Piece) (bytes rest : List ℕ) (m : ℕ) → Stands x bytes rest → (y : Piece) → m ≤ length rest → 0 < m → Is y (take (length bytes + m) (bytes ++ rest)) → ⊥
stands_longest x bytes rest m s y within some is =
    s.1 y (take m rest) (drop m rest) (sym (take-append-drop m rest)) (omega (arith, length-take-le m rest within)) (subst (λ (t : List ℕ). Is y t) (take-append-add bytes rest m) is)

stands_found : (x : Piece) (bytes rest : List ℕ) → Stands x bytes rest → Fits (piece_at (bytes ++ rest)) (bytes ++ rest) → Reaches x (length bytes) (piece_at (bytes ++ rest))
    → ◌≡◌ {A = Piece × ℕ} (piece_at (bytes ++ rest)) (x, length bytes)
stands_found x bytes rest s fits (inl e) = e
stands_found x bytes rest s fits (inr longer) =
    let n = (piece_at (bytes ++ rest)).1 in
    let sum : n ≡ length bytes + (n - length bytes) = omega arith in
    absurd (stands_longest x bytes rest (n - length bytes) s (piece_at (bytes ++ rest)).0 (omega (arith, fits.1, length-append bytes rest)) (omega arith)
    (subst (λ (k : ℕ). Is (piece_at (bytes ++ rest)).0 (take k (bytes ++ rest))) sum fits.0))

pub stands-piece_at : (x : Piece) (bytes rest : List ℕ) → Stands x bytes rest → 0 < length bytes → ◌≡◌ {A = Piece × ℕ} (piece_at (bytes ++ rest)) (x, length bytes)
stands-piece_at x bytes rest s some =
    stands_found x bytes rest s (piece_at-fits (bytes ++ rest) (omega (arith, length-append bytes rest))) (found x bytes rest s.0)
