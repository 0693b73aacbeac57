-- What the index of a table's rules says.
use Rattle.std.specs.Prelude.{ℕ, ◌+◌, ◌-◌, ◌≤◌, ◌<◌, Bool, true, List, ◌≡◌, ltb, length, get_or, take, drop}
use Rattle.std.proofs.Common.{arith}
use Rattle.lists.specs.Lists.{count_if, rises_from}
use Rattle.lists.specs.Counting.{count-le}
use Rattle.lists.specs.Rising.{starts-rise, beside-part}
use Rattle.semantics.specs.Table.{rule_words}

-- Rule r begins after the atoms of smaller numbers; the place after the last rule is there too.
pub record Starts (numbers : List ℕ) (rules : ℕ) (starts : List ℕ) : Type 0 where
  pub room : length starts ≡ 65
  pub each : (r : ℕ) → r ≤ rules → get_or starts r 0 ≡ count_if (λ n. ltb n r) numbers

-- an answer that says whether the test holds, with an index that is right where it does and of no use where it does not
pub record IndexMade (test : Bool) (numbers : List ℕ) (rules : ℕ) (ok : Bool) (starts : List ℕ) : Type 0 where
  pub answer : ok ≡ test
  pub room : length starts ≡ 65
  pub right : test ≡ true → Starts numbers rules starts

-- the words of rule r
abbrev pub cut : List ℕ → ℕ → List ℕ → List ℕ
cut starts r words = take (get_or starts (r + 1) 0 - get_or starts r 0) (drop (get_or starts r 0) words)

-- the words of rule r lie within n words
pub record Cut (starts : List ℕ) (r n : ℕ) : Type 0 where
  pub room : length starts ≡ 65
  pub few : r < 64
  pub rise : get_or starts r 0 ≤ get_or starts (r + 1) 0
  pub within : get_or starts (r + 1) 0 ≤ n

module _ {numbers : List ℕ} {rules : ℕ} {starts : List ℕ} (s : Starts numbers rules starts) where
  pub starts-within : (n : ℕ) → rules ≤ 64 → length numbers ≡ n → (r : ℕ) → r < rules → Cut starts r n
  starts-within n few e r l =
      record {
        room = s.room;
        few = omega arith;
        rise = rw (s.each r (omega arith), s.each (r + 1) (omega arith)) (starts-rise (λ n. n) r (r + 1) (omega arith) numbers);
        within = rw (s.each (r + 1) (omega arith), ← e) (count-le (λ n. ltb n (r + 1)) numbers);
      }

  -- a rule's words are a part of the table's
  pub starts-cut :
      (r : ℕ) (words : List ℕ) → r < rules → rises_from 0 (λ n. n) numbers ≡ true → rule_words r numbers words ≡ cut starts r words
  starts-cut r words l h =
      rw (s.each r (omega arith), s.each (r + 1) (omega arith)) (beside-part (λ n. n) r 0 numbers words h)
