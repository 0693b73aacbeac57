-- Laws of up_from and rises_from.
use Rattle.std.specs.Prelude.{ℕ, zero, suc, ◌+◌, ◌-◌, ◌≤◌, ◌<◌, List, [], ◌∷◌, map, Bool, true, false, ◌≡◌, refl, leb, eqb, length, get_or}
use Rattle.std.proofs.Common.{inl, inr, ⊎_elim, sym, ap, ◌∙◌, zero-add, add-zero, eq-or-lt_of_le, arith, leb-true, eqb-true, ne_eqb}
use Rattle.lists.specs.Lists.{any, keep_if, keep, up_from, one_if, count_if, rises_from}
use Rattle.lists.specs.Choices.{and_left, and_right}
use Rattle.lists.specs.Each.{All, All-map, count_none}
use Rattle.lists.specs.Members.{Among}
use Rattle.lists.specs.Counting.{count-or}
use Rattle.lists.specs.Totals.{count-never}

pub map-up : {A : Type 0} (f g : ℕ → A) (n i : ℕ) → ((x : ℕ) → x < i + n → f x ≡ g x) → map f (up_from i n) ≡ map g (up_from i n)
map-up f g zero i h = refl
map-up f g (suc n) i h = λ j. h i (omega arith) j ∷ map-up f g n (suc i) (λ x l. h x (omega arith)) j

pub map-shift : {A : Type 0} (f : ℕ → A) (n i : ℕ) → map f (up_from (suc i) n) ≡ map (λ x. f (suc x)) (up_from i n)
map-shift f zero i = refl
map-shift f (suc n) i = λ j. f (suc i) ∷ map-shift f n (suc i) j

-- no key is below the one that they rise from
pub rises-all : {A : Type 0} (key : A → ℕ) (m : ℕ) (xs : List A) → rises_from m key xs ≡ true → All (λ x. m ≤ key x) xs
rises-all key m [] h = tt
rises-all key m (x ∷ xs) h =
    let l = leb-true m (key x) (and_left (leb m (key x)) (rises_from (key x) key xs) h) in (
      l,
      All-map {P = λ y. key x ≤ key y} {Q = λ y. m ≤ key y} (λ y k. omega arith) xs
          (rises-all key (key x) xs (and_right (leb m (key x)) (rises_from (key x) key xs) h)),
    )

-- ---- numbers one after another

pub up-each : (P : ℕ → Type 0) (i n : ℕ) → ((x : ℕ) → i ≤ x → x < i + n → P x) → All P (up_from i n)
up-each P i zero h = tt
up-each P i (suc n) h = (h i (omega arith) (omega arith), up-each P (suc i) n (λ x l m. h x (omega arith) (omega arith)))

count-shift : (p : ℕ → Bool) (i n : ℕ) → count_if p (up_from (suc i) n) ≡ count_if (λ x. p (suc x)) (up_from i n)
count-shift p i zero = refl
count-shift p i (suc n) = ap (λ (k : ℕ). one_if (p (suc i)) + k) (count-shift p (suc i) n)

-- counted by place or by element
pub count-places : {A : Type 0} (d : A) (p : A → Bool) (xs : List A) → count_if (λ i. p (get_or xs i d)) (up_from 0 (length xs)) ≡ count_if p xs
count-places d p [] = refl
count-places d p (x ∷ xs) = ap (λ (m : ℕ). one_if (p x) + m) (count-shift (λ i. p (get_or (x ∷ xs) i d)) 0 (length xs) ∙ count-places d p xs)

pub up-among : (i n v : ℕ) → i ≤ v → v < i + n → Among v (up_from i n)
up-among i zero v l h = absurd (omega arith)
up-among i (suc n) v l h = ⊎_elim (λ e. inl (sym e)) (λ m. inr (up-among (suc i) n v m (omega arith))) (eq-or-lt_of_le l)

-- those of which p does not hold may be passed over ..
keep-past : (p : ℕ → Bool) (i a b : ℕ) → ((x : ℕ) → i ≤ x → x < i + a → p x ≡ false) → keep p (up_from i (a + b)) ≡ keep p (up_from (i + a) b)
keep-past p i zero b h = rw (zero-add, add-zero)
keep-past p i (suc a) b h =
    let e : suc a + b ≡ suc (a + b) = omega arith in
    let f : i + suc a ≡ suc i + a = omega arith in
    rw (e, f, h i (omega arith) (omega arith)) (keep-past p (suc i) a b (λ x l m. h x (omega arith) (omega arith)))

-- .. so a walk through those below n may go on from v to r
pub keep-onward : (p : ℕ → Bool) (v r n : ℕ) → v < r → r ≤ n → ((x : ℕ) → v < x → x < r → p x ≡ false)
    → keep p (up_from v (n - v)) ≡ keep_if (p v) v (keep p (up_from r (n - r)))
keep-onward p v r n l h none =
    let e : n - v ≡ suc (r - suc v + (n - r)) = omega arith in
    let f : suc v + (r - suc v) ≡ r = omega arith in
    rw e (ap (keep_if (p v) v) (keep-past p (suc v) (r - suc v) (n - r) (λ x k m. none x k (omega arith)) ∙ rw f))

-- the first of those below n of which p holds
pub keep-first : (p : ℕ → Bool) (i v n : ℕ) → i ≤ v → v < n → ((x : ℕ) → i ≤ x → x < v → p x ≡ false) → p v ≡ true
    → keep p (up_from i (n - i)) ≡ v ∷ keep p (up_from (suc v) (n - suc v))
keep-first p i v n l h none here =
    let e : n - i ≡ v - i + suc (n - suc v) = omega arith in
    let f : i + (v - i) ≡ v = omega arith in
    rw e (keep-past p i (v - i) (suc (n - suc v)) (λ x a b. none x a (omega arith)) ∙ rw (f, here))

-- a number is at most once among them
up-once : (m i n : ℕ) → count_if (eqb m) (up_from i n) ≤ 1
up-once m i zero = omega arith
up-once m i (suc n) = go (eqb m i) refl (up-once m (suc i) n)
  where
    go : (b : Bool) → eqb m i ≡ b → count_if (eqb m) (up_from (suc i) n) ≤ 1 → one_if b + count_if (eqb m) (up_from (suc i) n) ≤ 1
    go true e h =
        let q = eqb-true m i e in
        let z = count_none (eqb m) (up_from (suc i) n) (up-each (λ x. eqb m x ≡ false) (suc i) n (λ x l k. ne_eqb m x (λ r. omega arith))) in
        omega arith
    go false e h = omega arith

-- as many keys as elements at most are among them
pub keys-few : {A : Type 0} (key : A → ℕ) (xs : List A) (i n : ℕ) → count_if (λ v. any (λ x. eqb (key x) v) xs) (up_from i n) ≤ length xs
keys-few key [] i n = let z = count-never (λ (v : ℕ). false) (λ v. refl) (up_from i n) in omega arith
keys-few key (x ∷ xs) i n =
    omega (arith, count-or (eqb (key x)) (λ v. any (λ x. eqb (key x) v) xs) (up_from i n), up-once (key x) i n, keys-few key xs i n)
