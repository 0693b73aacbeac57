-- What the atoms of a rule change in the totals by port.
use Rattle.std.specs.Prelude.{ℕ, ◌+◌, ◌≤◌, ◌<◌, Bool, ◌&&◌, ◌||◌, not, List, ◌≡◌, ltb, eqb, length, get_or}
use Rattle.lists.specs.Lists.{count_if}
use Rattle.semantics.specs.Table.{has_role}
use Rattle.semantics.specs.declared.Atom.{Atom}

-- An atom makes a message that rules may consume. What a global rule emits is global, on a global port; any other message goes into a transaction, where
-- rules consume from inner ports only, and none from one that begins with an abort mark.
abbrev pub supplies : ℕ → Bool → Bool → Atom → Bool
supplies globals global aborts a =
    has_role 1 a && (global || not (ltb a.port globals)) || has_role 3 a && not (ltb a.port globals) && not aborts

abbrev pub supplies_on : ℕ → Bool → Bool → ℕ → Atom → Bool
supplies_on globals global aborts p a = supplies globals global aborts a && eqb a.port p

abbrev pub consumes_on : ℕ → Atom → Bool
consumes_on p a = has_role 0 a && eqb a.port p

-- less by what the atoms consume, more by what they supply
pub record AtomsCounted (globals : ℕ) (global aborts : Bool) (atoms : List Atom) (before after : List ℕ) : Type 0 where
  pub size : length after ≡ 512
  pub each : (p : ℕ) → get_or after p 0 + count_if (consumes_on p) atoms ≡ get_or before p 0 + count_if (supplies_on globals global aborts p) atoms

-- totals that the atoms neither empty nor overflow
pub record Enough (atoms : List Atom) (totals : List ℕ) : Type 0 where
  pub size : length totals ≡ 512
  pub few : length atoms ≤ 16
  pub low : (p : ℕ) → p < 256 → count_if (consumes_on p) atoms ≤ get_or totals p 0
  pub high : (p : ℕ) → p < 256 → get_or totals p 0 ≤ 1024
