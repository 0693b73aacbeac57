-- A list without some of its places, made in place: those between one removed place and the next move down together, by the number of places removed so far.
use Prim.Native.Nat.{ℕ, zero, suc, ◌+◌, ◌-◌, ◌≤◌, ◌<◌}
use Rattle.std.specs.Prelude.{◌≡◌, refl, true, false, List, ◌++◌, length, get_or, take, drop, set}
use Rattle.std.proofs.Common.{sym, ap, ◌∙◌, append_assoc, append-nil, zero-add, length-append, length-drop, length-take-le, get_or-append-add, get_or-take, get_or-drop}
use Rattle.std.proofs.Math.Nat.{add-zero, sub-zero}
use native.Mathlib.Omega.{arith}
use Rattle.std.proofs.Math.ListN.{get_or-append}
use Rattle.lists.specs.Lists.{is_in, distinct, without}
use Rattle.lists.specs.Members.{Among}
use Rattle.lists.specs.Removed.{length_without}
use Rattle.lists.specs.Rows.{rows, rows_none, length-rows, rows_ext, rows_append, rows-moved}
use Rattle.lists.specs.Written.{Writing, writing_start, writing-next}
use Rattle.lists.specs.InOrder.{NextIn}

-- ---- one list

module _ {A : Type 0} (z : A) (d : ℕ) where
  -- those from place d on have moved down by d
  pub record Lowered (before after : List A) : Type 0 where
    pub size : length after ≡ length before
    pub moved : (j : ℕ) → j + d < length before → get_or after j z ≡ get_or before (j + d) z

  -- a loop that moves them, which has come to place j
  pub record Lowering (j : ℕ) (before xs : List A) : Type 0 where
    pub within : j ≤ length before
    pub size : length xs ≡ length before
    pub written : Writing z (λ i. get_or before (i + d) z) j before xs

  pub lowering-start : (xs : List A) → Lowering 0 xs xs
  lowering-start xs = record { within = omega arith; size = refl; written = writing_start z _ 0 xs (λ i h. absurd (omega arith)) }

  module _ {j : ℕ} {before xs : List A} (w : Lowering j before xs) where
    pub lowering-next : j < length xs → Lowering (j + 1) before (set xs j (get_or xs (j + d) z))
    lowering-next h =
        let v = writing-next z w.written h _ (w.written.rest (j + d) (omega arith)) in
        record { within = omega (arith, w.size); size = v.size; written = v }

    pub lowering-done : length before ≤ j + d → Lowered before xs
    lowering-done h = record { size = w.size; moved = λ i l. w.written.done i (omega arith) }

-- of the places from w up to e those from the d-th on have moved down by d
pub record Shifted {A : Type 0} (w e d : ℕ) (before after : ℕ → A) : Type 0 where
  pub below : (j : ℕ) → j < w → after j ≡ before j
  pub moved : (j : ℕ) → w ≤ j → j + d < e → after j ≡ before (j + d)
  pub above : (j : ℕ) → e ≤ j → after j ≡ before j

module _ {A : Type 0} (z : A) where
  get_or-behind : (xs ys : List A) (n j : ℕ) → length xs ≡ n → n ≤ j → get_or (xs ++ ys) j z ≡ get_or ys (j - n) z
  get_or-behind xs ys n j l h =
      let e : length xs + (j - n) ≡ j = omega arith in
      ap (λ (i : ℕ). get_or (xs ++ ys) i z) (sym e) ∙ get_or-append-add xs ys (j - n) z

  -- a list of which a part was lent and lowered
  pub record PartLowered (w e d : ℕ) (before after : List A) : Type 0 where
    pub size : length after ≡ length before
    pub places : Shifted w e d (λ j. get_or before j z) (λ j. get_or after j z)

  pub part-lowered : (w e d : ℕ) (xs ys : List A) → w ≤ e → e ≤ length xs → Lowered z d (take (e - w) (drop w xs)) ys
      → PartLowered w e d xs (take w xs ++ (ys ++ drop (e - w) (drop w xs)))
  part-lowered w e d xs ys h l s =
      let behind = drop (e - w) (drop w xs) in
      let a : length (take w xs) ≡ w = length-take-le w xs (omega arith) in
      let b : length (take (e - w) (drop w xs)) ≡ e - w = length-take-le (e - w) (drop w xs) (omega (arith, length-drop w xs)) in
      let c : length ys ≡ e - w = s.size ∙ b in
      record {
        size = length-append (take w xs) (ys ++ behind) ∙ omega (arith, length-append ys behind, length-drop (e - w) (drop w xs), length-drop w xs);
        places = record {
          below = λ j u. get_or-append (take w xs) (ys ++ behind) z j (omega arith) ∙ get_or-take w xs j z u;
          moved = λ j u v.
              let q : w + (j - w + d) ≡ j + d = omega arith in
              get_or-behind (take w xs) (ys ++ behind) w j a u ∙ get_or-append ys behind z (j - w) (omega arith) ∙ s.moved (j - w) (omega arith)
              ∙ get_or-take (e - w) (drop w xs) (j - w + d) z (omega arith) ∙ get_or-drop w xs (j - w + d) z ∙ ap (λ (i : ℕ). get_or xs i z) q;
          above = λ j u.
              let q : w + (e - w + (j - w - (e - w))) ≡ j = omega arith in
              get_or-behind (take w xs) (ys ++ behind) w j a (omega arith) ∙ get_or-behind ys behind (e - w) (j - w) c (omega arith)
              ∙ get_or-drop (e - w) (drop w xs) (j - w - (e - w)) z ∙ get_or-drop w xs (e - w + (j - w - (e - w))) z ∙ ap (λ (i : ℕ). get_or xs i z) q;
        };
      }

-- ---- without the places, by rows

module _ {A : Type 0} (ps : List ℕ) where
  without-pass : (f : ℕ → A) (i a b : ℕ) → ((j : ℕ) → i ≤ j → j < i + a → is_in j ps ≡ false)
      → without ps i (rows f i (a + b)) ≡ rows f i a ++ without ps (i + a) (rows f (i + a) b)
  unfolding rows
  without-pass f i zero b h = rw (zero-add b, add-zero i)
  without-pass f i (suc a) b h =
      let e : suc a + b ≡ suc (a + b) = omega arith in
      let q : i + suc a ≡ suc i + a = omega arith in
      rw (e, q, h i (omega arith) (omega arith), without-pass f (suc i) a b (λ j l u. h j (omega arith) (omega arith)))

  -- a place that goes, and those up to the next
  without-next : (f : ℕ → A) (n i e : ℕ) → is_in i ps ≡ true → i < n → NextIn ps (i + 1) n e
      → without ps i (rows f i (n - i)) ≡ rows f (i + 1) (e - (i + 1)) ++ without ps e (rows f e (n - e))
  unfolding rows
  without-next f n i e g h x =
      let c : n - i ≡ suc (e - (i + 1) + (n - e)) = omega (arith, x.low, x.high) in
      let s : suc i ≡ i + 1 = omega arith in
      let q : i + 1 + (e - (i + 1)) ≡ e = omega (arith, x.low) in
      rw (c, g, s) (without-pass f (i + 1) (e - (i + 1)) (n - e) (λ j k u. x.none j k (omega arith)) ∙ rw q)

-- ---- all lists side by side

-- n rows, which were f, are to be without the places ps: d of them are passed, i is the next, and the rows are g
pub record Closing {A : Type 0} (f : ℕ → A) (ps : List ℕ) (n i d : ℕ) (g : ℕ → A) : Type 0 where
  pub low : d ≤ i
  pub high : i ≤ n
  pub here : i < n → is_in i ps ≡ true
  pub parts : rows g 0 (i - d) ++ without ps i (rows g i (n - i)) ≡ without ps 0 (rows f 0 n)

closing-start : {A : Type 0} (f : ℕ → A) {ps : List ℕ} {n i : ℕ} → NextIn ps 0 n i → Closing f ps n i 0 f
closing-start f {ps} {n} {i} x =
    let e : i + (n - i) ≡ n = omega (arith, x.high) in
    let p = without-pass ps f 0 i (n - i) (λ j l u. x.none j l (omega arith)) in
    record { low = omega arith; high = x.high; here = x.here; parts = rw sub-zero (sym (rw (zero-add i, e) at p)) }

module _ {A : Type 0} {f : ℕ → A} {ps : List ℕ} {n i d : ℕ} {g : ℕ → A} (c : Closing f ps n i d g) where
  -- those up to the next have moved
  pub closing-next : i < n → {e : ℕ} → NextIn ps (i + 1) n e → {h : ℕ → A} → Shifted (i - d) e (d + 1) g h → Closing f ps n e (d + 1) h
  closing-next u {e} x {h} s =
      let w = i - d in
      let m = e - (i + 1) in
      let t : e - (d + 1) ≡ w + m = omega (arith, x.low, c.low) in
      let q : w + (d + 1) ≡ i + 1 = omega (arith, c.low) in
      let a : rows h 0 w ≡ rows g 0 w = rows_ext h g 0 w (λ j k v. s.below j (omega arith)) in
      let b : rows h w m ≡ rows g (i + 1) m = rows-moved h g (d + 1) w m (λ j k v. s.moved j k (omega arith)) ∙ ap (λ (j : ℕ). rows g j m) q in
      let r : rows h e (n - e) ≡ rows g e (n - e) = rows_ext h g e (n - e) (λ j k v. s.above j k) in
      record {
        low = omega (arith, x.low, c.low);
        high = x.high;
        here = x.here;
        parts = rw (t, rows_append h 0 w m, zero-add w, a, b, r)
            (append_assoc (rows g 0 w) _ _ ∙ ap (λ (t : List A). rows g 0 w ++ t) (sym (without-next ps g n i e (c.here u) u x)) ∙ c.parts);
      }

  -- none is left: their count tells how many rows stay
  pub closing-done : {k : ℕ} → length ps ≡ k → distinct ps ≡ true → ((p : ℕ) → Among p ps → p < n) → n ≤ i → rows g 0 (n - k) ≡ without ps 0 (rows f 0 n)
  closing-done {k} count different within u =
      let e : n - i ≡ 0 = omega arith in
      let r : rows g 0 (i - d) ≡ without ps 0 (rows f 0 n) = sym (append-nil _) ∙ rw (e, rows_none g i) at c.parts in
      let l = length_without ps (rows f 0 n) different (λ p m. rw (length-rows f 0 n) (within p m)) in
      let q : i - d ≡ n - k = omega (arith, count, ap length r, length-rows g 0 (i - d), length-rows f 0 n) in
      rw (← q) r

-- those between the first and the next have moved
pub closing-first : {A : Type 0} {f : ℕ → A} {ps : List ℕ} {n i e : ℕ} → NextIn ps 0 n i → i < n → NextIn ps (i + 1) n e → {h : ℕ → A} → Shifted i e 1 f h
    → Closing f ps n e 1 h
closing-first {f = f} x u y s = closing-next (closing-start f x) u y (rw sub-zero s)
