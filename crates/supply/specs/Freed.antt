-- What the end of a transaction changes in the messages that rules may consume from a port.
use Rattle.std.specs.Prelude.{ℕ, ◌+◌, ◌≤◌, ◌<◌, true, false, ◌&&◌, ◌||◌, List, ◌≡◌, ltb, eqb, length, get_or}
use Rattle.std.proofs.Math.Bool.{Bool, not, or-false}
use Rattle.std.proofs.Common.{sym, ap, ◌∙◌, eqb-true, ltb-true, lt-ltb, ne_eqb}
use native.Mathlib.Omega.{arith}
use Rattle.std.proofs.lemmas.Bool.{not-true}
use Rattle.lists.specs.Lists.{given, any, keep, one_if, count_if}
use Rattle.lists.specs.Choices.{by_bool, clash, and_left, and_intro}
use Rattle.lists.specs.Counting.{count_map}
use Rattle.lists.specs.Each.{count_same}
use Rattle.lists.specs.Members.{Among, any-intro}
use Rattle.lists.specs.Splits.{All-every}
use Rattle.lists.specs.Tests.{and-right-false, or-right-true}
use Rattle.lists.specs.Totals.{count-keep, count-sum}
use Rattle.semantics.specs.Table.{Table}
use Rattle.semantics.specs.State.{Entry, State, is_message, is_abort_mark, owned}
use Rattle.semantics.specs.Move.{commit, abort, unless, first_fault, end_faults, is_open, may_commit, may_abort, takes_part, freed, ended, allowed, applied}
use Rattle.semantics.specs.declared.Refusal.TheVariants.{NoTransaction, EndNotAllowed}
use Rattle.semantics.specs.declared.Sizes.{Sizes}
use Rattle.semantics.specs.declared.Verdict.TheVariants.{Allowed}
use Rattle.wellformed.specs.Entries.{StateRight}
use Rattle.wellformed.specs.Verdicts.{unless_allowed, both-allowed}
use Rattle.enabled.specs.Keys.{takeable, takeable_on}
use Rattle.enabled.specs.Supply.{Supply}
use Rattle.transactions.specs.Sets.{blocks, commit-unblocked}
use Rattle.stopped.specs.Ended.{ended-part}

-- an entry of b, of kind k, on port q
abbrev pub freed_on : ℕ → ℕ → ℕ → Entry → Bool
freed_on b k q e = owned b e && eqb e.kind k && eqb e.port q

-- more by those entries
pub record Freed (b k : ℕ) (es : List Entry) (before after : List ℕ) : Type 0 where
  pub size : length after ≡ 512
  pub each : (q : ℕ) → get_or after q 0 ≡ get_or before q 0 + count_if (freed_on b k q) es

-- totals that n more do not overflow
pub record RoomFor (totals : List ℕ) (n : ℕ) : Type 0 where
  pub size : length totals ≡ 512
  pub low : (q : ℕ) → q < 256 → get_or totals q 0 + n ≤ 65535

-- totals of what the end of b leaves: a commit frees messages (kind 0), an abort compensations (1)
pub record EndSupply (z : Sizes) (t : Table) (i : ℕ) (s : State) (b k : ℕ) (totals : List ℕ) : Type 0 where
  pub committed : k ≡ 0 → allowed t s (commit b) ≡ Allowed → Supply z (applied t i s (commit b)) totals
  pub aborted : k ≡ 1 → allowed t s (abort b) ≡ Allowed → Supply z (applied t i s (abort b)) totals

-- ---- by entries

module _ (z : Sizes) (b k : ℕ) (s : State) where
  abbrev goes : Entry → Bool
  goes e = eqb e.kind k

  abbrev part : ℕ → Bool
  part = takes_part s

  abbrev part_after : ℕ → Bool
  part_after = takes_part (ended goes b s)

  module _ (public : (e : Entry) → Among e s.entries → owned b e ≡ true → goes e ≡ true → e.port < z.globals)
      (hidden : (e : Entry) → Among e s.entries → owned b e ≡ true → takeable z part e ≡ false) where
    -- what b owns could not be taken; what is freed can be
    end-takeable : (q : ℕ) (e : Entry) → Among e s.entries
        → (not (owned b e) || goes e) && takeable_on z part_after q (freed goes b e) ≡ not (owned b e) && takeable_on z part q e || freed_on b k q e
    end-takeable q e m = by_bool (owned b e)
        (λ o. by_bool (goes e) (λ g. rw (o, g, lt-ltb e.port z.globals (public e m o g))) (λ g. rw (o, g)))
        (λ o. rw (o, ended-part goes b s e.owner o) (sym (or-false (takeable_on z part q e))))

    others : (q : ℕ) (e : Entry) → Among e s.entries → not (owned b e) && takeable_on z part q e ≡ takeable_on z part q e
    others q e m = by_bool (owned b e) (λ o. rw (o, hidden e m o)) (λ o. rw o)

    apart : (q : ℕ) (e : Entry) → one_if (not (owned b e) && takeable_on z part q e || freed_on b k q e)
        ≡ one_if (not (owned b e) && takeable_on z part q e) + one_if (freed_on b k q e)
    apart q e = go (owned b e) (takeable_on z part q e) (goes e) (eqb e.port q)
      where
        go : (o x g y : Bool) → one_if (not o && x || o && g && y) ≡ one_if (not o && x) + one_if (o && g && y)
        go true x g y = omega arith
        go false x g y = rw (or-false x) (omega arith)

    end-count : (q : ℕ)
        → count_if (takeable_on z part_after q) (ended goes b s).entries ≡ count_if (takeable_on z part q) s.entries + count_if (freed_on b k q) s.entries
    unfolding ended
    end-count q =
        let stays : Entry → Bool = λ e. not (owned b e) || goes e in
        let after : Entry → Bool = λ e. takeable_on z part_after q (freed goes b e) in
        let other : Entry → Bool = λ e. not (owned b e) && takeable_on z part q e in
        let images = count_map (freed goes b) (takeable_on z part_after q) (keep stays s.entries) in
        let kept = count-keep after stays s.entries in
        let each = count_same (λ e. stays e && after e) (λ e. other e || freed_on b k q e) s.entries
        (All-every (λ e. stays e && after e ≡ (other e || freed_on b k q e)) s.entries (end-takeable q)) in
        let sum = count-sum (λ e. other e || freed_on b k q e) other (freed_on b k q) (apart q) s.entries in
        let same = count_same other (takeable_on z part q) s.entries (All-every (λ e. other e ≡ takeable_on z part q e) s.entries (others q)) in
        omega arith

    end-supply : {totals left : List ℕ} → Supply z s totals → Freed b k s.entries totals left → Supply z (ended goes b s) left
    end-supply supply more = record { size = more.size; each = λ q l. more.each q ∙ omega (arith, supply.each q l, end-count q) }

-- ---- by moves

end-passed : (may : Bool) (b : ℕ) (s : State) → first_fault (end_faults may b s) ≡ Allowed → (0 < b) × (may ≡ true)
end-passed may b s h =
    let (there, may-is) = both-allowed (unless (is_open b s) NoTransaction) (unless may EndNotAllowed) h in
    (ltb-true 0 b (and_left (ltb 0 b) (any (owned b) s.entries) (unless_allowed (is_open b s) NoTransaction there)), unless_allowed may EndNotAllowed may-is)

module _ {z : Sizes} (t : Table) (same : t.sizes ≡ z) {s : State} (right : StateRight z s) {totals left : List ℕ} (supply : Supply z s totals) (b i : ℕ) where
  commit-supply : allowed t s (commit b) ≡ Allowed → Freed b 0 s.entries totals left → Supply z (applied t i s (commit b)) left
  unfolding allowed applied
  commit-supply h = end-supply z b 0 s public hidden supply
    where
      passed : (0 < b) × (may_commit t b s ≡ true)
      passed = end-passed (may_commit t b s) b s h

      unblocked : any (λ e. owned b e && blocks z.globals e) s.entries ≡ false
      unblocked = not-true (any (λ e. owned b e && blocks z.globals e) s.entries)
          (sym (ap (λ (y : Sizes). not (any (λ e. owned b e && blocks y.globals e) s.entries)) same) ∙ sym (commit-unblocked t b s)
          ∙ passed.1)

      public : (e : Entry) → Among e s.entries → owned b e ≡ true → is_message e ≡ true → e.port < z.globals
      public e m o k = by_bool (ltb e.port z.globals) (λ l. ltb-true e.port z.globals l) (λ l. absurd (clash
          (any-intro (λ e. owned b e && blocks z.globals e) s.entries e m (and_intro o (or-right-true (is_abort_mark e) (rw (k, l)))))
          unblocked))

      hidden : (e : Entry) → Among e s.entries → owned b e ≡ true → takeable z (takes_part s) e ≡ false
      hidden e m o = by_bool (is_message e)
          (λ k. let q = eqb-true e.owner b o in let l = passed.0 in
          rw (k, lt-ltb e.port z.globals (public e m o k), ne_eqb e.owner 0 (λ n. omega arith)))
          (λ k. rw k)

  abort-supply : allowed t s (abort b) ≡ Allowed → Freed b 1 s.entries totals left → Supply z (applied t i s (abort b)) left
  unfolding allowed applied
  abort-supply h = end-supply z b 1 s (λ e m o k. (right.each e m).compensation (eqb-true e.kind 1 k)) hidden supply
    where
      passed : (0 < b) × (may_abort b s ≡ true)
      passed = end-passed (may_abort b s) b s h

      hidden : (e : Entry) → Among e s.entries → owned b e ≡ true → takeable z (takes_part s) e ≡ false
      hidden e m o =
          let l = passed.0 in
          let stopped : takes_part s b ≡ false = rw (ne_eqb b 0 (λ n. omega arith), passed.1) in
          and-right-false (is_message e && given (ltb e.port z.globals) (owned 0 e)) (ap (takes_part s) (eqb-true e.owner b o) ∙ stopped)

  pub freed-supply : (k : ℕ) → Freed b k s.entries totals left → EndSupply z t i s b k left
  freed-supply k more = record {
    committed = λ e h. commit-supply h (rw e at more);
    aborted = λ e h. abort-supply h (rw e at more);
  }
