-- The states of the replay have as many entries as those along the serial log.
use Rattle.std.specs.Prelude.{ℕ, suc, ◌&&◌, List, [], ◌∷◌, ◌≡◌, leb, length}
use Rattle.std.proofs.Math.Bool.{and-true}
use Rattle.std.proofs.Common.{sym, ap, ◌∙◌}
use Rattle.std.proofs.lemmas.List.{length-map}
use Rattle.lists.specs.Lists.{all}
use Rattle.semantics.specs.Table.{Table}
use Rattle.semantics.specs.State.{State}
use Rattle.semantics.specs.Serial.{Act, after, again, replayed, along, fits}
use Rattle.wellformed.specs.Bare.{bare, bare_state, allowed_same, applied-same}
use Rattle.cells.specs.Moves.{after-allowed}
use Rattle.cells.specs.Replay.{Goes}
use Rattle.serial_laws.specs.Acts.{replay_fits}

-- states that differ in origins alone have as many entries
fits-same : (n : ℕ) (s c : State) → bare_state s ≡ bare_state c → fits n c ≡ fits n s
fits-same n s c h = ap (λ (k : ℕ). leb k n) (sym (length-map c.entries bare) ∙ ap (λ (x : State). length x.entries) (sym h)
    ∙ length-map s.entries bare)

pub room-along : (n : ℕ) (t : Table) (xs : List Act) (i : ℕ) (s c e : State) → bare_state s ≡ bare_state c → Goes t c xs e
    → replay_fits n t c xs ≡ all (fits n) (along t i s (replayed t c xs))
unfolding replayed along
room-along n t [] i s c e b g = fits-same n s c b ∙ sym (and-true (fits n s))
room-along n t (a ∷ xs) i s c e b g =
    let m = again c a a.move in
    let same = ap bare_state (after-allowed t (suc i) s m (allowed_same s c b t m ∙ g.0)) ∙ applied-same s c b t (suc i) (suc a.place) m
    ∙ ap bare_state (sym (after-allowed t (suc a.place) c m g.0)) in
    λ j. fits-same n s c b j && room-along n t xs (suc i) (after t (suc i) s m) (after t (suc a.place) c m) e same g.1 j
