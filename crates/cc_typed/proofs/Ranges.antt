-- Ranges of cells.
use Rattle.std.proofs.Common.{◌≡◌, ◌⊎◌, inl, inr, ℕ, ℤ, ◌+◌, ◌-◌, ◌<◌, ◌≤◌, List, ◌++◌, length, get_or, take, drop, refl, sym, ap, ◌∙◌, arith, append_assoc, length-append, length-drop}
use Rattle.std.proofs.lemmas.List.{take_at, drop_at, take-append-le, drop-append-le, drop-drop, take-take, drop-take, length-take-le, get_or-append_right, get_or_append_left, get_or-take, get_or-drop, take-append-drop}
use Rattle.std.proofs.Math.Seq.{take-add}
use Rattle.cc_typed.specs.Values.{fetch, put}

pub length-fetch : (n o : ℕ) (cs : List ℤ) → o + n ≤ length cs → length (fetch n o cs) ≡ n
length-fetch n o cs le = length-take-le n (drop o cs) (omega (arith, length-drop o cs))

pub length-put : (o : ℕ) (vs cs : List ℤ) → o + length vs ≤ length cs → length (put o vs cs) ≡ length cs
length-put o vs cs le = omega (arith, length-append (take o cs) (vs ++ drop (o + length vs) cs), length-append vs (drop (o + length vs) cs), length-drop (o + length vs) cs, length-take-le o cs (omega (arith, le)))

-- what lies before the range that is put
pub fetch-put-before : (n o p : ℕ) (vs cs : List ℤ) → o + n ≤ p → p ≤ length cs → fetch n o (put p vs cs) ≡ fetch n o cs
fetch-put-before n o p vs cs le lp =
    let lt = length-take-le p cs lp in
    let e : p ≡ o + (p - o) = omega arith in
    ap (take n) (drop-append-le o (take p cs) (vs ++ drop (p + length vs) cs) (omega arith))
    ∙ take-append-le n (drop o (take p cs)) (vs ++ drop (p + length vs) cs) (omega (arith, length-drop o (take p cs)))
    ∙ ap (λ q. take n (drop o (take q cs))) e
    ∙ ap (take n) (drop-take o (p - o) cs)
    ∙ take-take n (p - o) (drop o cs) (omega arith)

-- what lies after it
pub fetch-put-after : (n o p : ℕ) (vs cs : List ℤ) → p + length vs ≤ o → p + length vs ≤ length cs → fetch n o (put p vs cs) ≡ fetch n o cs
fetch-put-after n o p vs cs le lp =
    let lt = length-take-le p cs (omega arith) in
    let e : o ≡ p + (length vs + (o - (p + length vs))) = omega arith in
    let f : (p + length vs) + (o - (p + length vs)) ≡ o = omega arith in
    ap (take n) (ap (λ q. drop q (put p vs cs)) e
    ∙ sym (drop-drop (length vs + (o - (p + length vs))) p (put p vs cs))
    ∙ ap (drop (length vs + (o - (p + length vs)))) (drop_at (take p cs) (vs ++ drop (p + length vs) cs) p lt)
    ∙ sym (drop-drop (o - (p + length vs)) (length vs) (vs ++ drop (p + length vs) cs))
    ∙ ap (drop (o - (p + length vs))) (drop_at vs (drop (p + length vs) cs) (length vs) refl)
    ∙ drop-drop (o - (p + length vs)) (p + length vs) cs
    ∙ ap (λ q. drop q cs) f)

-- a range within a range
pub fetch-within : (m k n o : ℕ) (cs : List ℤ) → k + m ≤ n → fetch m (o + k) cs ≡ fetch m k (fetch n o cs)
fetch-within m k n o cs le =
    let e : n ≡ k + (n - k) = omega arith in
    ap (take m) (sym (drop-drop k o cs))
    ∙ sym (take-take m (n - k) (drop k (drop o cs)) (omega arith))
    ∙ ap (take m) (sym (drop-take k (n - k) (drop o cs)))
    ∙ ap (λ q. take m (drop k (take q (drop o cs)))) (sym e)

pub fetch-middle : (a b c : List ℤ) → fetch (length b) (length a) (a ++ (b ++ c)) ≡ b
fetch-middle a b c = ap (take (length b)) (drop_at a (b ++ c) (length a) refl) ∙ take_at b c (length b) refl

pub put-middle : (a b c new : List ℤ) → length new ≡ length b → put (length a) new (a ++ (b ++ c)) ≡ a ++ (new ++ c)
put-middle a b c new l =
    ap (λ xs. xs ++ (new ++ drop (length a + length new) (a ++ (b ++ c)))) (take_at a (b ++ c) (length a) refl)
    ∙ ap (λ xs. a ++ (new ++ xs)) (sym (drop-drop (length new) (length a) (a ++ (b ++ c))) ∙ ap (drop (length new)) (drop_at a (b ++ c) (length a) refl) ∙ drop_at b c (length new) (sym l))

shift : (p a b c q : List ℤ) → p ++ ((a ++ (b ++ c)) ++ q) ≡ (p ++ a) ++ (b ++ (c ++ q))
shift p a b c q = ap (λ x. p ++ x) (append_assoc a (b ++ c) q ∙ ap (λ x. a ++ x) (append_assoc b c q)) ∙ sym (append_assoc p a (b ++ (c ++ q)))

fetch-put-middle : (p a b c q new : List ℤ) → length new ≡ length b → fetch (length (a ++ (b ++ c))) (length p) (put (length p + length a) new (p ++ ((a ++ (b ++ c)) ++ q))) ≡ a ++ (new ++ c)
fetch-put-middle p a b c q new l =
    let at : length p + length a ≡ length (p ++ a) = sym (length-append p a) in
    let same : length (a ++ (b ++ c)) ≡ length (a ++ (new ++ c)) = omega (arith, l, length-append a (b ++ c), length-append b c, length-append a (new ++ c), length-append new c) in
    ap (λ xs. fetch (length (a ++ (b ++ c))) (length p) xs) (ap (λ n. put n new (p ++ ((a ++ (b ++ c)) ++ q))) at ∙ ap (put (length (p ++ a)) new) (shift p a b c q) ∙ put-middle (p ++ a) b (c ++ q) new l ∙ sym (shift p a new c q))
    ∙ ap (λ n. fetch n (length p) (p ++ ((a ++ (new ++ c)) ++ q))) same
    ∙ fetch-middle p (a ++ (new ++ c)) q

cut : (n o : ℕ) (cs : List ℤ) → cs ≡ take o cs ++ (fetch n o cs ++ drop n (drop o cs))
cut n o cs = sym (ap (λ xs. take o cs ++ xs) (take-append-drop n (drop o cs)) ∙ take-append-drop o cs)

-- to put within a range of which the parts are known
pub fetch-put-within : (n o : ℕ) (cs a b c new : List ℤ) → o + n ≤ length cs → fetch n o cs ≡ a ++ (b ++ c) → length new ≡ length b → fetch n o (put (o + length a) new cs) ≡ a ++ (new ++ c)
fetch-put-within n o cs a b c new le is l =
    let p = take o cs in let q = drop n (drop o cs) in
    let lo : o ≡ length p = sym (length-take-le o cs (omega arith)) in
    let ln : n ≡ length (a ++ (b ++ c)) = sym (length-fetch n o cs le) ∙ ap length is in
    ap (λ xs. fetch n o (put (o + length a) new xs)) (cut n o cs ∙ ap (λ xs. p ++ (xs ++ q)) is)
    ∙ ap (λ (x : ℕ). fetch n x (put (x + length a) new (p ++ ((a ++ (b ++ c)) ++ q)))) lo
    ∙ ap (λ x. fetch x (length p) (put (length p + length a) new (p ++ ((a ++ (b ++ c)) ++ q)))) ln
    ∙ fetch-put-middle p a b c q new l

-- to fetch within it
pub fetch-part : (n o : ℕ) (cs a b c : List ℤ) → fetch n o cs ≡ a ++ (b ++ c) → length (a ++ (b ++ c)) ≡ n → fetch (length b) (o + length a) cs ≡ b
fetch-part n o cs a b c is l =
    fetch-within (length b) (length a) n o cs (omega (arith, l, length-append a (b ++ c), length-append b c))
    ∙ ap (fetch (length b) (length a)) is ∙ fetch-middle a b c

pub get_or-put-other : (o i : ℕ) (vs cs : List ℤ) (d : ℤ) → (i < o) ⊎ (o + length vs ≤ i) → o + length vs ≤ length cs → get_or (put o vs cs) i d ≡ get_or cs i d
get_or-put-other o i vs cs d (inl lt) le = get_or_append_left (take o cs) (vs ++ drop (o + length vs) cs) d i (omega (arith, length-take-le o cs (omega arith))) ∙ get_or-take o cs i d lt
get_or-put-other o i vs cs d (inr ge) le =
    let e : o + length vs + (i - o - length vs) ≡ i = omega arith in
    get_or-append_right (take o cs) (vs ++ drop (o + length vs) cs) o i d (length-take-le o cs (omega arith)) (omega arith)
    ∙ get_or-append_right vs (drop (o + length vs) cs) (length vs) (i - o) d refl (omega arith)
    ∙ get_or-drop (o + length vs) cs (i - o - length vs) d
    ∙ ap (λ n. get_or cs n d) e

drop-front : (k n : ℕ) (cs : List ℤ) → k ≤ n → n ≤ length cs → drop k (take n cs) ++ drop n cs ≡ drop k cs
drop-front k n cs le lt =
    sym (drop-append-le k (take n cs) (drop n cs) (omega (arith, length-take-le n cs lt))) ∙ ap (drop k) (take-append-drop n cs)

-- to put back a range in which something was put
pub put-put : (b o : ℕ) (ws cs : List ℤ) (n : ℕ) → o + length ws ≤ n → b + n ≤ length cs → put b (put o ws (fetch n b cs)) cs ≡ put (b + o) ws cs
put-put b o ws cs n inner outer =
    let f = fetch n b cs in
    let lf = length-fetch n b cs outer in
    let lp = length-put o ws f (omega (arith, lf)) in
    let room : n ≤ length (drop b cs) = omega (arith, length-drop b cs) in
    let same : b + length (put o ws f) ≡ b + n = omega (arith, lp, lf) in
    let order : b + (o + length ws) ≡ b + o + length ws = omega arith in
    let front : take b cs ++ take o f ≡ take (b + o) cs = ap (λ xs. take b cs ++ xs) (take-take o n (drop b cs) (omega arith)) ∙ sym (take-add b o cs) in
    let back : drop (o + length ws) f ++ drop (b + length (put o ws f)) cs ≡ drop (b + o + length ws) cs =
    ap (λ k. drop (o + length ws) f ++ drop k cs) same
    ∙ ap (λ xs. drop (o + length ws) f ++ xs) (sym (drop-drop n b cs))
    ∙ drop-front (o + length ws) n (drop b cs) inner room
    ∙ drop-drop (o + length ws) b cs
    ∙ ap (λ k. drop k cs) order
    in
    ap (λ xs. take b cs ++ xs) (append_assoc (take o f) (ws ++ drop (o + length ws) f) (drop (b + length (put o ws f)) cs) ∙ ap (λ xs. take o f ++ xs) (append_assoc ws (drop (o + length ws) f) (drop (b + length (put o ws f)) cs) ∙ ap (λ xs. ws ++ xs) back))
    ∙ sym (append_assoc (take b cs) (take o f) (ws ++ drop (b + o + length ws) cs))
    ∙ ap (λ xs. xs ++ (ws ++ drop (b + o + length ws) cs)) front

-- what stands before and behind a range that is put
pub take-put : (a o : ℕ) (ws cs : List ℤ) → a + o ≤ length cs → take a (put (a + o) ws cs) ≡ take a cs
take-put a o ws cs le =
    take-append-le a (take (a + o) cs) (ws ++ drop (a + o + length ws) cs) (omega (arith, length-take-le (a + o) cs le))
    ∙ take-take a (a + o) cs (omega arith)

pub drop-put : (a o : ℕ) (ws cs : List ℤ) → a + o ≤ length cs → drop a (put (a + o) ws cs) ≡ put o ws (drop a cs)
drop-put a o ws cs le =
    let order : a + (o + length ws) ≡ a + o + length ws = omega arith in
    drop-append-le a (take (a + o) cs) (ws ++ drop (a + o + length ws) cs) (omega (arith, length-take-le (a + o) cs le))
    ∙ ap (λ xs. xs ++ (ws ++ drop (a + o + length ws) cs)) (drop-take a o cs)
    ∙ ap (λ xs. take o (drop a cs) ++ (ws ++ xs)) (ap (λ k. drop k cs) (sym order) ∙ sym (drop-drop (o + length ws) a cs))

pub fetch-put : (o : ℕ) (ws cs : List ℤ) → o + length ws ≤ length cs → fetch (length ws) o (put o ws cs) ≡ ws
fetch-put o ws cs le =
    ap (take (length ws)) (drop_at (take o cs) (ws ++ drop (o + length ws) cs) o (length-take-le o cs (omega arith))) ∙ take_at ws (drop (o + length ws) cs) (length ws) refl
