-- The two columns of a log, put together once its length is known.
use Prim.Native.Nat.{ℕ, suc, ◌+◌, ◌*◌, ◌≤◌}
use mathlib.Core.List.{List, [], ◌∷◌, ◌++◌}
use mathlib.Core.Path.{◌≡◌, sym, ap, ◌∙◌}
use native.Mathlib.Omega.{arith}
use lib.ListN.{length, take, drop, set, length-append}
use lib.Seq.{sets, sets-eq, paste, take_at, drop-drop, drop-append-add, length-take-le}
use Rattle.lists.specs.Lists.{over}

-- the count in front of heads that stand from place 1 on
counted : (x : ℕ) (xs hs : List ℕ) (k : ℕ) → length hs ≡ k → k ≤ length xs → set (sets (x ∷ xs) 1 hs) 0 k ≡ k ∷ (hs ++ drop k xs)
counted x xs hs k e l =
    let one : 1 + length hs ≡ suc k = omega arith in
    ap (λ (d : List ℕ). set d 0 k) (sets-eq hs (x ∷ xs) 1 (omega arith)) ∙ rw one

pub laid : (t hs ps : List ℕ) (k : ℕ) → length hs ≡ k → 4 * k ≤ length ps → 1 + 5 * k ≤ length t
    → paste (set (sets t 1 hs) 0 k) (1 + k) ps (4 * k) ≡ over (k ∷ hs ++ take (4 * k) ps) t
laid [] hs ps k e p l = absurd (omega arith)
laid (x ∷ xs) hs ps k e p l =
    let d = set (sets (x ∷ xs) 1 hs) 0 k in
    let n = 4 * k in
    let is : d ≡ k ∷ (hs ++ drop k xs) = counted x xs hs k e (omega arith) in
    let one : 1 + k ≡ suc k = omega arith in
    let two : 1 + k + n ≡ suc (length hs + n) = omega arith in
    let front : take (1 + k) d ≡ k ∷ hs = rw (is, one) (ap (λ (l : List ℕ). k ∷ l) (take_at hs (drop k xs) k e)) in
    let back : drop (1 + k + n) d ≡ drop (k + n) xs = rw (is, two) (drop-append-add hs (drop k xs) n ∙ drop-drop n k xs) in
    let size : length (k ∷ (hs ++ take n ps)) ≡ suc (k + n) = omega (arith, length-append hs (take n ps), length-take-le n ps p, e) in
    ap (λ (l : List ℕ). (l ++ take n ps) ++ drop (1 + k + n) d) front
    ∙ ap (λ (l : List ℕ). (k ∷ (hs ++ take n ps)) ++ l) back
    ∙ ap (λ (m : ℕ). (k ∷ (hs ++ take n ps)) ++ drop m (x ∷ xs)) (sym size)
