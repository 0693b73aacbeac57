-- What rules want on their ports, and that a rule has no choice where a port has less.
use Rattle.std.specs.Prelude.{ℕ, ◌/◌, ◌%◌, ◌≤◌, ◌<◌, Bool, true, false, ◌||◌, List, [], ◌≡◌, ltb, eqb, length, get_or}
use Rattle.std.proofs.Common.{arith, ltb-true}
use Rattle.lists.specs.Lists.{count_if}
use Rattle.lists.specs.Keys.{times_in}
use Rattle.lists.specs.Choices.{by_bool}
use Rattle.lists.specs.FirstChoice.{too_few}
use Rattle.semantics.specs.Table.{Rule, sizes_of, table_of, rule_at, consumed}
use Rattle.enabled.specs.Reactions.{choices_of}

-- need * 512 + port, where no more is needed than the consumes ts have of the port
abbrev pub WantedBy : List ℕ → ℕ → Type 0
WantedBy ts w = (w % 512 < 256) × (w / 512 ≤ times_in (w % 512) ts)

-- four such numbers in a word
pub record WantedWord (ts : List ℕ) (w : ℕ) : Type 0 where
  pub first : WantedBy ts (w % 65536)
  pub second : WantedBy ts (w / 65536 % 65536)
  pub third : WantedBy ts (w / 65536 / 65536 % 65536)
  pub fourth : WantedBy ts (w / 65536 / 65536 / 65536 % 65536)

-- a word for each rule
pub record Wants (t wants : List ℕ) : Type 0 where
  pub size : length wants ≡ 64
  pub each : (r : ℕ) → r < (sizes_of t).rules → WantedWord (consumed (rule_at (table_of t) r)) (get_or wants r 0)

-- the port of this number has too few messages
abbrev pub is_short : List ℕ → ℕ → Bool
is_short totals w = ltb (get_or totals (w % 512) 0) (w / 512)

abbrev pub lacking : List ℕ → ℕ → Bool
lacking totals w =
    is_short totals (w % 65536)
    || (is_short totals (w / 65536 % 65536) || (is_short totals (w / 65536 / 65536 % 65536) || is_short totals (w / 65536 / 65536 / 65536 % 65536)))

-- ---- for callers

either : (a : Bool) {b : Bool} {P : Type 0} → (a ≡ true → P) → (b ≡ true → P) → a || b ≡ true → P
either true f g h = f h
either false f g h = g h

-- a rule that lacks messages has no choice, where the totals count the keys by port
module _ (ks totals : List ℕ) (counts : (p : ℕ) → p < 256 → get_or totals p 0 ≡ count_if (λ key. eqb (key % 512) p) ks) (R : Rule) where
  short_none : (w : ℕ) → WantedBy (consumed R) w → is_short totals w ≡ true → choices_of R ks ≡ []
  short_none w h s =
      let l = ltb-true (get_or totals (w % 512) 0) (w / 512) s in
      let (low, need) = h in
      let (anywhere, grouped) = too_few ks (w % 512) (omega arith) (consumed R) (omega (arith, counts (w % 512) low)) in
      by_bool (eqb R.class 1) (λ e. rw (e, grouped)) (λ e. rw (e, anywhere))

  pub lacking-none : (w : ℕ) → WantedWord (consumed R) w → lacking totals w ≡ true → choices_of R ks ≡ []
  lacking-none w h =
      either _ (short_none _ h.first) (either _ (short_none _ h.second) (either _ (short_none _ h.third) (short_none _ h.fourth)))
