-- From the words of a state to its columns, and from the walk to the log.
use Prim.Native.Nat.{ℕ, ◌+◌, ◌*◌, ◌≤◌}
use mathlib.Core.List.{List, ◌∷◌, ◌++◌, map}
use mathlib.Core.Path.{◌≡◌, sym, ap, ◌∙◌, subst}
use native.Mathlib.Omega.{arith}
use lib.ListN.{length, take, drop, length-map, length-append, length-drop}
use lib.Seq.{sets, length-sets}
use Rattle.lists.specs.Lists.{over}
use Rattle.semantics.specs.Table.{sizes_of, table_of}
use Rattle.semantics.specs.State.{state_of}
use Rattle.semantics.specs.Move.{Move}
use Rattle.semantics.specs.Log.{head_of, log_words}
use Rattle.semantics.specs.Answers.{line_ceiling, alone_moves}
use Rattle.wellformed.specs.States.{state-given}
use Rattle.wellformed.specs.LogWords.{log-length}
use Rattle.wellformed.specs.Held.{Held, state_of-held}
use Rattle.enabled.specs.Alone.{moves-within}
use Rattle.state.specs.declared.State.{State}
use Rattle.state.specs.Working.{state_in}
use Rattle.state.specs.Arrays.{HoldsIn}
use Rattle.step.specs.Make.{Indexed}
use Rattle.ready.specs.Ready.{Ready}
use Rattle.unattended.specs.declared.Gone.{Gone}
use Rattle.unattended.specs.Walked.{WalkedAs, LeftAs}

pub ready-indexed : {t s index : List ℕ} → Ready t s index → Indexed t index
ready-indexed {t} {s} h = record { table = (state-given s t h.accepted).0; starts = h.starts }

pub loaded-held : {t s index : List ℕ} {x : State} → Ready t s index → HoldsIn x (state_of s) → Held (sizes_of t) (state_in x)
loaded-held {t} {s} h l = subst (Held (sizes_of t)) (sym l.holds.value) (state_of-held t s h.accepted)

module _ (t s : List ℕ) {r : Gone} {budget : ℕ} {x : State} {picks before middle : List ℕ} (loaded : HoldsIn x (state_of s))
    (w : WalkedAs r 1024 (table_of t) budget (state_in x) picks before middle) where
  same : WalkedAs r 1024 (table_of t) budget (state_of s) picks before middle
  same = subst (λ σ. WalkedAs r 1024 (table_of t) budget σ picks before middle) loaded.holds.value w

  pub made-few : r.made ≤ budget
  made-few = omega (arith, same.count, moves-within 1024 (table_of t) budget 0 (state_of s))

  pub middle-length : length middle ≡ length before
  middle-length = ap length same.heads ∙ length-sets before 1 (map head_of (alone_moves line_ceiling t s budget))

  pub left_as : {after : List ℕ}
      → ((d hs : List ℕ) → middle ≡ sets d 1 hs → length hs ≡ r.made → after ≡ over (r.made ∷ hs ++ take (4 * r.made) picks) d)
      → LeftAs r t s budget before after
  unfolding log_words
  left_as f =
      let ms = alone_moves line_ceiling t s budget in
      let size = same.count in
      let put = f before (map head_of ms) same.heads (length-map ms head_of ∙ sym size) in
      record {
        few = made-few;
        count = same.count;
        still = same.still;
        log = put
            ∙ ap (λ (n : ℕ). over (n ∷ map head_of ms ++ take (4 * n) picks) before) size
            ∙ ap (λ (l : List ℕ). over (length ms ∷ map head_of ms ++ l) before) same.picks-are;
      }

-- a log of at most the budget's moves fits
pub log-fits : (ms : List Move) (budget : ℕ) (t : List ℕ) → length ms ≤ budget → 1 + 5 * budget ≤ length t → length (over (log_words ms) t) ≡ length t
log-fits ms budget t l room =
    omega (arith, length-append (log_words ms) (drop (length (log_words ms)) t), length-drop (length (log_words ms)) t, log-length ms)
