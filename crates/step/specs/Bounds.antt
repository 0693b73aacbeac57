-- What an allowed move keeps of a working state's limits.
use Rattle.std.specs.Prelude.{ℕ, suc, ◌≤◌, Bool, true, false, ◌||◌, not, cond, ◌≡◌, leb, ltb, length}
use Rattle.std.proofs.Common.{arith, leb-true, le-leb, ltb-true}
use Rattle.semantics.specs.Table.{Table, rule_at, begins}
use Rattle.semantics.specs.Move.{unless, Move, react, commit, abort, reacted, ended, allowed, applied, move_verdict}
use Rattle.semantics.specs.declared.Refusal.TheVariants.{TooManyEntries}
use Rattle.semantics.specs.declared.Verdict.TheVariants.{Allowed}
use Rattle.wellformed.specs.Verdicts.{both-allowed, both-intro, unless_allowed, unless-intro}
use Rattle.wellformed.specs.Picks.{react-given}
use Rattle.wellformed.specs.Length.{length-maker}
use Rattle.state.specs.declared.State.{State}
use Rattle.state.specs.Working.{Holds}
use Rattle.state.specs.Arrays.{held_next, held-len}
use Rattle.semantics.specs.State as semantics

-- a working state within a ceiling, its next id within 01's limit
pub record Bounded (s : State) (ceiling : ℕ) : Type 0 where
  pub fits : s.len ≤ ceiling
  pub next : s.next ≤ 65536

next-bounded : (t : Table) (i : ℕ) (s : semantics.State) (m : Move) → allowed t s m ≡ Allowed → s.next ≤ 65536 → (applied t i s m).next ≤ 65536
unfolding allowed applied reacted ended
next-bounded t i s (commit b) h n = n
next-bounded t i s (abort b) h n = n
next-bounded t i s (react r ps) h n = go (begins (rule_at t r)) (react-given (rule_at t r) s ps h).ids
  where
    go : (b : Bool) → not b || ltb s.next 65536 ≡ true → cond b (suc s.next) s.next ≤ 65536
    go true k = let l = ltb-true s.next 65536 k in omega arith
    go false k = n

module _ (ceiling : ℕ) (t : Table) (s : semantics.State) (m : Move) (h : move_verdict ceiling t s m ≡ Allowed) where
  parts : (allowed t s m ≡ Allowed) × (unless (leb (length (applied t 0 s m).entries) ceiling) TooManyEntries ≡ Allowed)
  unfolding move_verdict
  parts = both-allowed (allowed t s m) (unless (leb (length (applied t 0 s m).entries) ceiling) TooManyEntries) h

  pub verdict-allows : allowed t s m ≡ Allowed
  verdict-allows = parts.0

  pub verdict-fits : (i : ℕ) → length (applied t i s m).entries ≤ ceiling
  verdict-fits i =
      let n = length (applied t 0 s m).entries in
      let l = leb-true n ceiling (unless_allowed (leb n ceiling) TooManyEntries parts.1) in
      omega (arith, length-maker t i 0 s m)

  -- what is allowed under a ceiling is allowed under a higher one
  pub verdict-higher : (high : ℕ) → ceiling ≤ high → move_verdict high t s m ≡ Allowed
  unfolding move_verdict
  verdict-higher high l = let n = verdict-fits 0 in both-intro verdict-allows
      (unless-intro TooManyEntries (le-leb (length (applied t 0 s m).entries) high (omega arith)))

  pub applied-bounded : s.next ≤ 65536 → (i : ℕ) {s' : State} → Holds s' (applied t i s m) → Bounded s' ceiling
  applied-bounded n i k = record {
    fits = let l = verdict-fits i in omega (arith, held-len k);
    next = let l = next-bounded t i s m verdict-allows n in omega (arith, held_next k);
  }
