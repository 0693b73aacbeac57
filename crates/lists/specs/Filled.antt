-- A loop that writes f of each place into a list, from the front.
use Rattle.std.specs.Prelude.{ℕ, ◌+◌, ◌≤◌, ◌<◌, ◌≡◌, List, length, get_or, set}
use Rattle.std.proofs.Common.{◌∙◌, ⊎_elim, eq-or-lt_of_le, arith, length-set, get_or-set_same, get_or-set_other}

module _ {A : Type 0} (d : A) where
  -- m elements, of which the first n are f of the place
  pub record Filled (f : ℕ → A) (m n : ℕ) (xs : List A) : Type 0 where
    pub size : length xs ≡ m
    pub each : (k : ℕ) → k < n → get_or xs k d ≡ f k

  pub filled_none : (f : ℕ → A) {m : ℕ} {xs : List A} → length xs ≡ m → Filled f m 0 xs
  filled_none f e = record { size = e; each = λ k h. absurd (omega arith) }

  pub filled_more : {f : ℕ → A} {m i : ℕ} {xs : List A} → Filled f m i xs → i < m → Filled f m (i + 1) (set xs i (f i))
  filled_more {f} {m} {i} {xs} p h = record { size = length-set xs i (f i) ∙ p.size; each = each }
    where
      each : (k : ℕ) → k < i + 1 → get_or (set xs i (f i)) k d ≡ f k
      each k l =
          let low : k ≤ i = omega arith in
          ⊎_elim
          (λ q. rw q (get_or-set_same xs i (f i) d (omega (arith, p.size))))
          (λ less. get_or-set_other xs i k (f i) d (λ q. omega arith) ∙ p.each k less)
          (eq-or-lt_of_le low)

  pub filled-all : {f : ℕ → A} {m n i : ℕ} {xs : List A} → Filled f m i xs → n ≤ i → Filled f m n xs
  filled-all p h = record { size = p.size; each = λ k l. p.each k (omega arith) }
