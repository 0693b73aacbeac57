-- Code that writes a list over the beginning of another, part by part.
use Rattle.std.specs.Prelude.{ℕ, ◌+◌, ◌≤◌, ◌<◌, ◌≡◌, refl, List, [], ◌∷◌, ◌++◌, length, get_or, take, drop, set}
use Rattle.std.proofs.Common.{ap, ◌∙◌, add-one, arith, length-append, length-drop, length-set, take_all, drop-drop, length-take-le}
use Rattle.std.proofs.lemmas.List.Edits.{sets, sets-eq}
use Rattle.std.proofs.Math.Seq.{paste, paste-zero, paste-suc, take-append_seam, drop-append_seam, drop-append-add}
use Rattle.lists.specs.Lists.{over}

module _ {A : Type 0} where
  -- the first two elements
  pub over-two : (a b : A) (old : List A) → 2 ≤ length old → set (set old 0 a) 1 b ≡ over (a ∷ b ∷ []) old
  over-two a b [] h = absurd (omega arith)
  over-two a b (x ∷ []) h = absurd (omega arith)
  over-two a b (x ∷ y ∷ old) h = refl

  -- what is written, and what lies behind it
  pub take-over : (new old : List A) → take (length new) (over new old) ≡ new
  take-over new old = take-append_seam new (drop (length new) old)

  pub drop-over : (new old : List A) → drop (length new) (over new old) ≡ drop (length new) old
  drop-over new old = drop-append_seam new (drop (length new) old)

  -- n elements of a column after what is written
  pub over-column : (new old column : List A) (n : ℕ) → n ≤ length column → paste (over new old) (length new) column n ≡ over (new ++ take n column) old
  over-column new old column n h =
      rw (
        take-append_seam new (drop (length new) old),
        drop-append-add new (drop (length new) old) n,
        drop-drop n (length new) old,
        length-append new (take n column),
        length-take-le n column h,
      )

  -- some elements after what is written
  pub over-sets : (new old more : List A) → length new + length more ≤ length old → sets (over new old) (length new) more ≡ over (new ++ more) old
  over-sets new old more h =
      let room : length new + length more ≤ length (over new old) = omega (arith, length-append new (drop (length new) old), length-drop (length new) old) in
      sets-eq more (over new old) (length new) room
      ∙ (rw (take_all (length more) more (omega arith)) at (over-column new old more (length more) (omega arith)))

  -- `new` is `old` with n elements of a source from place `at` on.
  pub record Pasted (old : List A) (at : ℕ) (source : List A) (n : ℕ) (new : List A) : Type 0 where
    pub value : new ≡ paste old at source n
    pub size : length new ≡ length old

  -- A loop that copies n elements of a source into `old` from place `at` on, with i of them done.
  pub record Pasting (old : List A) (at : ℕ) (source : List A) (n i : ℕ) (new : List A) : Type 0 where
    pub within : i ≤ n
    pub enough : n ≤ length source
    pub room : at + n ≤ length old
    pub size : length new ≡ length old
    pub so_far : new ≡ paste old at source i

  pub pasting-start : (old : List A) (at : ℕ) (source : List A) (n : ℕ) → n ≤ length source → at + n ≤ length old → Pasting old at source n 0 old
  pasting-start old at source n h r = record { within = omega arith; enough = h; room = r; size = refl; so_far = paste-zero old at source }

  module _ {old source new : List A} {at n i : ℕ} (p : Pasting old at source n i new) where
    pub pasting-next : (d : A) → i < n → Pasting old at source n (i + 1) (set new (at + i) (get_or source i d))
    pasting-next d h = record {
      within = omega arith;
      enough = p.enough;
      room = p.room;
      size = length-set new (at + i) (get_or source i d) ∙ p.size;
      so_far = ap (λ (l : List A). set l (at + i) (get_or source i d)) p.so_far ∙ rw (add-one i) (paste-suc old at source i d (omega arith) (omega arith));
    }

    pub pasting-done : n ≤ i → Pasted old at source n new
    pasting-done h =
        let e : i ≡ n = omega arith in
        record { value = p.so_far ∙ rw e; size = p.size }
