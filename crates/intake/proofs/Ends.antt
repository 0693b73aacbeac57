-- The places at which the parts of an input end, from the sizes that stand in it.
use Prim.Native.Nat.{ℕ, ◌+◌, ◌*◌, min}
use mathlib.Core.List.{List}
use mathlib.Core.Path.{◌≡◌, sym, ◌∙◌}
use native.Mathlib.Nat.{add-zero}
use native.Mathlib.Omega.{arith}
use lib.ListN.{length, get_or, drop, length-take}
use lib.Seq.{get_or-drop, drop-drop, length-take-le}
use Rattle.lists.specs.Beginning.{take-taken, part_end, part_cut}
use Rattle.semantics.specs.Program.{table_part, state_part, after_table, after_state, parts_of}
use Rattle.intake.specs.Split.{CutAt}

first-at : (ws : List ℕ) (at : ℕ) → get_or (drop at ws) 0 0 ≡ get_or ws at 0
first-at ws at = get_or-drop at ws 0 0 ∙ rw add-zero

module _ (ws : List ℕ) {a b e : ℕ}
    (at : a ≡ min (5 + 2 * get_or ws 4 0) (length ws))
    (bt : b ≡ min (a + (2 + 2 * get_or ws a 0)) (length ws))
    (et : e ≡ min (b + (1 + 5 * get_or ws b 0)) (length ws)) where
  table-end : a ≡ length (table_part ws)
  table-end = at ∙ sym (length-take (5 + 2 * get_or ws 4 0) ws)

  behind_table : after_table ws ≡ drop a ws
  behind_table = rw (← table-end)

  state-end : b ≡ a + length (state_part (drop a ws))
  state-end = bt ∙ rw (first-at ws a) (part_end ws a (2 + 2 * get_or ws a 0) (omega arith))

  after-state : after_state ws ≡ drop b ws
  after-state = rw (behind_table, drop-drop, ← state-end)

  pub cut_at : CutAt ws a b e
  unfolding parts_of
  cut_at = record {
    table = rw table-end (take-taken (5 + 2 * get_or ws 4 0) ws);
    state = rw (behind_table, first-at ws a, bt) (part_cut ws a (2 + 2 * get_or ws a 0) (omega arith));
    log = rw (after-state, first-at ws b, et) (part_cut ws b (1 + 5 * get_or ws b 0) (omega arith));
    state-after = omega arith;
    log-after = omega arith;
    within = omega arith;
    sliced = sym (length-take-le a ws (omega arith));
  }
