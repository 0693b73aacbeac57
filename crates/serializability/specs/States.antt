-- The states before the moves of the log and of the serial log: no two entries have the same origin, and the serial log's states are those along it but
-- for the origins.
use Rattle.std.specs.Prelude.{◌≡◌, refl, Bool, true, false, cond, List, [], ◌∷◌, ℕ, zero, suc, ◌+◌, ◌≤◌, length, get_or}
use Rattle.std.proofs.Common.{sym, ap, subst, ◌∙◌, arith}
use Rattle.std.proofs.Math.Option.{none, some}
use Rattle.lists.specs.Lists.{count_if, one_if, up_from}
use Rattle.semantics.specs.Table.{Table}
use Rattle.semantics.specs.State.{Origin, Entry, State}
use Rattle.semantics.specs.Move.{Move, allowed, applied, stepped_by, step}
use Rattle.semantics.specs.Serial.{same_origin, state_or, after, along}
use Rattle.semantics.specs.declared.Verdict.{Verdict}
use Rattle.semantics.specs.declared.Verdict.TheVariants.{Allowed, Denied}
use Rattle.serializability.specs.Statement.{Accepted, state_before}
use Rattle.cells.specs.Origins.{look, none-some, same-eq}
use Rattle.cells.specs.ByOrigin.{Uniq}
use Rattle.cells.specs.Rules.{Shaped}
use Rattle.cells.specs.Deeds.{deed_at}
use Rattle.cells.specs.Actions.{Seen}
use Rattle.cells.specs.Moves.{after-allowed}
use Rattle.cells.specs.Simulation.{view, Good, sim}
use Rattle.cells.specs.Steps.{good-next}
use Rattle.wellformed.specs.Bare.{bare_state, allowed_same, applied-same}

-- ---- origins

origin-none : (o : Origin) (l : List Entry) → look o l ≡ none → count_if (λ e. same_origin o e.origin) l ≡ 0
origin-none o [] h = refl
origin-none o (e ∷ l) h = go (same_origin o e.origin) (origin-none o l) h
  where
    go : (b : Bool) → (look o l ≡ none → count_if (λ e. same_origin o e.origin) l ≡ 0) → cond b (some e) (look o l) ≡ none
        → one_if b + count_if (λ e. same_origin o e.origin) l ≡ 0
    go true ih w = absurd (none-some (sym w))
    go false ih w = let k = ih w in omega arith

pub origin-once : (o : Origin) (l : List Entry) → Uniq l → count_if (λ e. same_origin o e.origin) l ≤ 1
origin-once o [] u = omega arith
origin-once o (e ∷ l) u = go (same_origin o e.origin) refl (origin-once o l u.1)
  where
    go : (b : Bool) → same_origin o e.origin ≡ b → count_if (λ e. same_origin o e.origin) l ≤ 1 → one_if b + count_if (λ e. same_origin o e.origin) l ≤ 1
    go true q ih = let k = origin-none o l (ap (λ (z : Origin). look z l) (same-eq o e.origin q) ∙ u.0) in omega arith
    go false q ih = omega arith

-- every state of the log
pub log-uniq : (t : Table) → Shaped t → (i : ℕ) (s : State) (ms : List Move) (e : State) → Uniq s.entries → Good i (view s) → Accepted t i s ms e → (j : ℕ)
    → Uniq (state_before t (up_from i (length ms)) s ms j).entries
unfolding state_before
log-uniq t sd i s ms e u g h zero = u
log-uniq t sd i s [] e u g h (suc j) = u
log-uniq t sd i s (m ∷ ms) e u g h (suc j) =
    let S = sim t sd i 0 s m u g h.0 in
    let a = deed_at t i 0 s m in
    let q : applied t (suc i) s m ≡ after t (suc i) s m = sym (after-allowed t (suc i) s m h.0) in
    log-uniq t sd (suc i) (after t (suc i) s m) ms e (subst (λ (x : State). Uniq x.entries) q S.uniq)
    (subst (λ (F : Seen). Good (suc i) F) (sym (ap view (sym q) ∙ S.same-cells)) (good-next t sd i (view s) a g S.step))
    (subst (λ (x : State). Accepted t (suc i) x ms e) q h.1) j

-- ---- the states along

after_same : (t : Table) (i j : ℕ) (s c : State) (m : Move) → bare_state s ≡ bare_state c → bare_state (after t i s m) ≡ bare_state (after t j c m)
unfolding after step
after_same t i j s c m h = go (allowed t s m) (allowed t c m) (allowed_same s c h t m)
  where
    go : (v w : Verdict) → v ≡ w → bare_state (state_or s (stepped_by v (applied t i s m))) ≡ bare_state (state_or c (stepped_by w (applied t j c m)))
    go Allowed Allowed q = applied-same s c h t i j m
    go (Denied r) (Denied r') q = h
    go Allowed (Denied r) q = absurd (let z : ◌≡◌ {A = ℕ} 0 1 = cc in omega arith)
    go (Denied r) Allowed q = absurd (let z : ◌≡◌ {A = ℕ} 0 1 = cc in omega arith)

pub along-same : (t : Table) (ps : List ℕ) (ms : List Move) (i : ℕ) (s c d : State) → length ps ≡ length ms → bare_state c ≡ bare_state s → (j : ℕ)
    → j ≤ length ms
    → bare_state (state_before t ps c ms j) ≡ bare_state (get_or (along t i s ms) j d)
unfolding state_before along
along-same t ps [] i s c d l h zero k = h
along-same t ps (m ∷ ms) i s c d l h zero k = h
along-same t ps [] i s c d l h (suc j) k = absurd (omega arith)
along-same t [] (m ∷ ms) i s c d l h (suc j) k = absurd (omega arith)
along-same t (p ∷ ps) (m ∷ ms) i s c d l h (suc j) k = along-same t ps ms (suc i) (after t (suc i) s m) (after t (suc p) c m) d (omega arith)
    (after_same t (suc p) (suc i) c s m h) j (omega arith)
