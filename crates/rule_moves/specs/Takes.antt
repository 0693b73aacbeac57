-- The ports of a rule's consumes, four in an array.
use Rattle.std.specs.Prelude.{ℕ, ◌+◌, ◌*◌, ◌<◌, Bool, cond, not, ◌&&◌, ◌||◌, List, [], ◌∷◌, map, ◌≡◌, ltb, leb, length, get_or}
use Rattle.std.proofs.Common.{sym, subst, eq-eqb, ne_eqb}
use Rattle.lists.specs.Lists.{up_from, each}
use Rattle.lists.specs.Each.{All}
use Rattle.lists.specs.Choosing.{choices_from, choices_by_group}
use Rattle.semantics.specs.Table.{Rule, sizes_of, table_of, rule_at, consumed, begins}
use Rattle.semantics.specs.Move.{Move, react}
use Rattle.rules.specs.declared.decode.Rule as rules
use Rattle.rules.specs.Decode.{Decodes}
use Rattle.reaction.specs.Decoded.{rule_in, rule-in}
use Rattle.enabled.specs.Reactions.{choices_of}

abbrev pub SmallPorts : List ℕ → Type 0
SmallPorts takes = (j : ℕ) → get_or takes j 0 < 256

-- what is said of the ports of a rule is said of those of the rule decoded
pub small-ports : {x : rules.Rule} {R : Rule} → Decodes x R → All (λ p. p < 256) (consumed R) → All (λ p. p < 256) (consumed (rule_in x))
small-ports {x} {R} d h = subst (λ R. All (λ p. p < 256) (consumed R)) (sym (rule-in x R d)) h

-- the entries on each of the four
abbrev pub counts_at : List ℕ → List ℕ → List ℕ
counts_at counts ts = get_or counts (get_or ts 0 0) 0 ∷ get_or counts (get_or ts 1 0) 0 ∷ get_or counts (get_or ts 2 0) 0 ∷ get_or counts (get_or ts 3 0) 0 ∷ []

-- the first k of four, and 0 behind them
abbrev pub front_of : List ℕ → ℕ → List ℕ
front_of ports k =
    cond (ltb 0 k) (get_or ports 0 0) 0 ∷ cond (ltb 1 k) (get_or ports 1 0) 0 ∷ cond (ltb 2 k) (get_or ports 2 0) 0 ∷ cond (ltb 3 k) (get_or ports 3 0) 0 ∷ []

-- 11 and 12, of a state of n entries and the next id
abbrev pub has_room_for : ℕ → Rule → ℕ → ℕ → Bool
has_room_for ceiling R n next = (not (begins R) || ltb next 65536) && leb (n + length R.atoms) (ceiling + 2 * length (consumed R))

-- the reactions by rule r, by the keys of the entries
abbrev pub moves_by : ℕ → Rule → ℕ → ℕ → ℕ → List ℕ → List Move
moves_by ceiling R r n next ks = map (react r) (cond (has_room_for ceiling R n next) (choices_of R ks) [])

-- the reactions of all rules of the table t, on n entries with these keys
abbrev pub reactions_by : ℕ → List ℕ → ℕ → ℕ → List ℕ → List Move
reactions_by ceiling t n next ks = each (λ r. moves_by ceiling (rule_at (table_of t) r) r n next ks) (up_from 0 (sizes_of t).rules)

-- ---- the choices, by the rule's class

pub grouped-choices : (R : Rule) (ks : List ℕ) {ts : List ℕ} → R.class ≡ 1 → ts ≡ consumed R → choices_by_group ks ts ≡ choices_of R ks
grouped-choices R ks c e = rw (e, eq-eqb R.class 1 c)

pub plain-choices : (R : Rule) (ks : List ℕ) {ts : List ℕ} → (R.class ≡ 1 → ⊥) → ts ≡ consumed R → choices_from ks [] ts ≡ choices_of R ks
plain-choices R ks c e = rw (e, ne_eqb R.class 1 c)
