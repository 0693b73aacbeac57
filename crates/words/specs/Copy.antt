-- Words copied to the beginning of a target, as its reader sees them.
use Rattle.std.specs.Prelude.{ℕ, ◌+◌, ◌-◌, ◌≤◌, ◌<◌, ◌≡◌, List, ◌++◌, length, get_or, take, drop}
use Rattle.std.proofs.Common.{sym, ap, ◌∙◌, append-nil, append_assoc, arith, length-append, length-drop, drop_of_length-le, get_or-take, take_at, take_all, length-take-le, drop-drop}
use Rattle.std.proofs.Math.Seq.{paste}
use Rattle.std.proofs.lemmas.List.Edits.{length-paste}
use Rattle.lists.specs.Lists.{over}
use Rattle.lists.specs.Over.{Pasted}

module _ (from old : List ℕ) (n : ℕ) (h : n ≤ length from) where
  pub copied-length : n ≤ length old → length (over (take n from) old) ≡ length old
  copied-length r =
      let few : length (take n from) ≡ n = length-take-le n from h in
      omega (arith, length-append (take n from) (drop (length (take n from)) old), length-drop (length (take n from)) old)

  pub copied-each : (k : ℕ) → k < n → get_or (over (take n from) old) k 0 ≡ get_or from k 0
  copied-each k l =
      sym (get_or-take n (over (take n from) old) k 0 l)
      ∙ ap (λ (xs : List ℕ). get_or xs k 0) (take_at (take n from) (drop (length (take n from)) old) n (length-take-le n from h))
      ∙ get_or-take n from k 0 l

  -- a part from place at on that was lent and copied into is put back
  pub copied_at : (at : ℕ) {part : List ℕ} → at + n ≤ length old → part ≡ over (take n from) (take (length old - at) (drop at old))
      → Pasted old at from n (take at old ++ (part ++ drop (length old - at) (drop at old)))
  copied_at at r e =
      let all : length (drop at old) ≤ length old - at = omega (arith, length-drop at old) in
      let value : take at old ++ (over (take n from) (take (length old - at) (drop at old)) ++ drop (length old - at) (drop at old)) ≡ paste old at from n =
      rw (
        take_all (length old - at) (drop at old) all,
        drop_of_length-le (drop at old) all,
        append-nil (over (take n from) (drop at old)),
        length-take-le n from h,
        drop-drop n at old,
      )
      (sym (append_assoc (take at old) (take n from) (drop (at + n) old))) in
      record {
        value = rw e value;
        size = rw e (ap length value ∙ length-paste old at from n r h);
      }
