-- A loop over the first k elements of an array, or over those from a place on.
use Rattle.std.specs.Prelude.{ℕ, ◌+◌, ◌-◌, ◌≤◌, ◌<◌, ◌≡◌, List, length, get_or, take, drop}
use Rattle.std.proofs.Common.{arith, length-drop, drop_of_length-le, length-take-le, get_or-take, get_or-drop}
use Rattle.lists.specs.Walk.{drop-step}
use Rattle.lists.specs.Ahead.{Tails}

module _ {A : Type 0} where
  pub prefix-tails : (d : A) (xs : List A) (k : ℕ) → k ≤ length xs → Tails (λ i. get_or xs i d) (λ i. drop i (take k xs)) k
  prefix-tails d xs k h =
      let l : length (take k xs) ≡ k = length-take-le k xs h in
      record {
        more = λ i m. rw (drop-step (take k xs) i d (omega arith), get_or-take k xs i d m);
        none = λ i m. let q : length (take k xs) ≤ i = omega arith in drop_of_length-le (take k xs) q;
      }

  pub part-tails : (d : A) (xs : List A) (from to : ℕ) → to ≤ length xs → Tails (λ i. get_or xs (from + i) d) (λ i. drop i (drop from (take to xs))) (to - from)
  part-tails d xs from to h =
      let part = drop from (take to xs) in
      let l : length part ≡ to - from = omega (arith, length-drop from (take to xs), length-take-le to xs h) in
      record {
        more = λ i m.
            let low : i < length part = omega arith in
            let in-part : from + i < to = omega arith in
            rw (drop-step part i d low, get_or-drop from (take to xs) i d, get_or-take to xs (from + i) d in-part);
        none = λ i m. let q : length part ≤ i = omega arith in drop_of_length-le part q;
      }
