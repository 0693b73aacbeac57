-- The table of weights, filled by four additions.
use Prim.Native.Nat.{ℕ, ◌+◌, ◌*◌, ◌≤◌, ◌<◌}
use mathlib.Core.Bool.{Bool, true, false}
use mathlib.Core.Path.{◌≡◌, ◌∙◌}
use mathlib.Core.List.{List}
use native.Mathlib.Omega.{arith}
use borrow.Author.Tests.{eqb-true, eqb-false}
use lib.Dec.{eqb}
use lib.ListN.{length, get_or, set, length-set}
use lib.Seq.{get_or-set_same, get_or-set_other}
use Rattle.lists.specs.Lists.{one_if}
use Rattle.lists.specs.Choices.{by_bool}
use Rattle.groups.specs.Groups.{Weights}

-- w more at one place
pub weight-added : (xs : List ℕ) (t w p : ℕ) → t < length xs → get_or (set xs t (get_or xs t 0 + w)) p 0 ≡ get_or xs p 0 + w * one_if (eqb p t)
weight-added xs t w p l = by_bool (eqb p t)
    (λ q. let e = eqb-true p t q in rw (q, e, get_or-set_same xs t (get_or xs t 0 + w) 0 l) (omega arith))
    (λ q. let n = eqb-false p t q in rw (q, get_or-set_other xs t p (get_or xs t 0 + w) 0 n) (omega arith))

abbrev pub added_at : ℕ → ℕ → List ℕ → List ℕ
added_at t w xs = set xs t (get_or xs t 0 + w)

abbrev pub thrice : ℕ → ℕ → ℕ → List ℕ → List ℕ
thrice b c d xs = added_at d 1099511627776 (added_at c 1048576 (added_at b 1 xs))

pub thrice-length : (b c d : ℕ) (xs : List ℕ) → length (thrice b c d xs) ≡ length xs
thrice-length b c d xs = length-set (added_at c 1048576 (added_at b 1 xs)) d _ ∙ length-set (added_at b 1 xs) c _ ∙ length-set xs b _

pub weighed : (a b c d : ℕ) (xs : List ℕ) → a < 512 → b < 512 → c < 512 → d < 512 → length xs ≡ 512 → ((p : ℕ) → get_or xs p 0 ≡ 0)
    → (ys zs us : List ℕ) → ys ≡ set xs b (get_or xs b 0 + 1) → zs ≡ set ys c (get_or ys c 0 + 1048576) → us ≡ set zs d (get_or zs d 0 + 1099511627776)
    → Weights a b c d (set us a (get_or us a 0 + 4503599627370496))
weighed a b c d xs ka kb kc kd size zero ys zs us e f h =
    let ly : length ys ≡ 512 = rw e (length-set xs b _ ∙ size) in
    let lz : length zs ≡ 512 = rw f (length-set ys c _ ∙ ly) in
    let lu : length us ≡ 512 = rw h (length-set zs d _ ∙ lz) in
    record {
      size = length-set us a _ ∙ lu;
      each = λ p l.
          let one : get_or ys p 0 ≡ get_or xs p 0 + 1 * one_if (eqb p b) = rw e (weight-added xs b 1 p (omega arith)) in
          let two : get_or zs p 0 ≡ get_or ys p 0 + 1048576 * one_if (eqb p c) = rw f (weight-added ys c 1048576 p (omega arith)) in
          let three : get_or us p 0 ≡ get_or zs p 0 + 1099511627776 * one_if (eqb p d) = rw h (weight-added zs d 1099511627776 p (omega arith)) in
          omega (arith, one, two, three, weight-added us a 4503599627370496 p (omega arith), zero p);
    }

pub one-small : (b : Bool) → one_if b ≤ 1
one-small true = omega arith
one-small false = omega arith

pub weight-small : (a b c d : ℕ) {xs : List ℕ} → Weights a b c d xs → (p : ℕ) → p < 512 → get_or xs p 0 ≤ 4504699140046849
weight-small a b c d h p l = omega (arith, h.each p l, one-small (eqb p a), one-small (eqb p b), one-small (eqb p c), one-small (eqb p d))
