-- Each move of the serial log, where it is made: its words are in order, it is allowed, and an end has the id that owns its members' marks.
use Rattle.std.specs.Prelude.{ℕ, suc, ◌≤◌, true, false, ◌≡◌, refl, length}
use Rattle.std.proofs.lemmas.Bool.{false≢true}
use Rattle.std.proofs.Math.Option.{Option, some}
use mathlib.Core.List.{List, [], ◌∷◌, map, nil≢cons}
use Rattle.std.proofs.Common.{sym, ap, subst, ◌∙◌, eqb-true}
use Rattle.lists.specs.Lists.{is_empty, keep}
use Rattle.lists.specs.Choices.{and_right}
use Rattle.lists.specs.Each.{All}
use Rattle.semantics.specs.Table.{Table}
use Rattle.semantics.specs.State.{Origin, Entry, State, is_member_mark, owned}
use Rattle.semantics.specs.Move.{Move, entry_at, applied}
use Rattle.semantics.specs.Serial.{marks_in, after, is_end, place_of, again}
use Rattle.wellformed.specs.Rules.{TableRight}
use Rattle.wellformed.specs.Entries.{Sound}
use Rattle.wellformed.specs.MoveWords.{Holdable, words-ok, words_back}
use Rattle.wellformed.specs.Preservation.{RuleKnown, applied-keeps}
use Rattle.cells.specs.Origins.{is_in_o}
use Rattle.cells.specs.ByOrigin.{Uniq, place_found, kept-look, origin-look}
use Rattle.cells.specs.Deeds.{Deed, act_of}
use Rattle.cells.specs.Actions.{Seen, astep, end-ok}
use Rattle.cells.specs.Moves.{after-allowed}
use Rattle.cells.specs.Simulation.{marked, marked-mark}
use Rattle.serializability.specs.SameKey.{LogRuns}
use Rattle.cells.specs.Replay.{Again, reacts, commits, aborts, Goes, Agains, again-known}
use Rattle.serializability.specs.RunWords.{all-holdable}
use Rattle.serial_laws.specs.Acts.{id_of, Replays}

-- ---- the owner of a member's mark

marks-owner : (c : State) → Uniq c.entries → (b : ℕ) (o : Origin) → is_in_o o (marks_in (b ∷ []) c) ≡ true
    → (entry_at c.entries (place_of c.entries o)).owner ≡ b
marks-owner c u b o h =
    let (d, f) = origin-look o (keep (marked b) c.entries) h in
    let (k, m) = kept-look (marked b) o c.entries d u f in
    ap (λ (e : Entry). e.owner) (place_found o c.entries d k).1
    ∙ eqb-true d.owner b (and_right (is_member_mark d) (owned b d) (marked-mark b d m))

again-owner : (c : State) → Uniq c.entries → (os : List Origin) {m m' : Move} → Again c os m m' → is_end m ≡ true → (o : Origin) → is_in_o o os ≡ true
    → (entry_at c.entries (place_of c.entries o)).owner ≡ id_of m'
again-owner c u os (reacts r ps ps' h) en o i = absurd (false≢true en)
again-owner c u os (commits b b' h k) en o i = marks-owner c u b' o (h o ∙ i)
again-owner c u os (aborts b b' h k) en o i = marks-owner c u b' o (h o ∙ i)

-- ---- an end of a log has members, and handles their marks

abbrev pub EndsSome : Deed → Type 0
EndsSome a = is_end a.move ≡ true → (a.members ≡ a.picks) × (is_empty a.members ≡ false)

found_some : (f : Origin → Option Entry) (os : List Origin) (es : List Entry) → map f os ≡ map some es → is_empty es ≡ false → is_empty os ≡ false
found_some f [] [] h k = k
found_some f [] (e ∷ es) h k = absurd (nil≢cons h)
found_some f (o ∷ os) es h k = refl

pub ends_some : (t : Table) (i : ℕ) (F G : Seen) (xs : List Deed) → LogRuns t i F xs G → All EndsSome xs
ends_some t i F G [] r = tt
ends_some t i F G (a ∷ xs) r = (
  λ en. let E = end-ok t F a r.0.step.ok en in
      (E.members, subst (λ (l : List Origin). is_empty l ≡ false) (sym E.members) (found_some F.cell a.picks E.es E.found E.some-mark)),
  ends_some t (suc i) (astep t F a) G xs r.1,
)

-- ---- all moves

module _ (t : Table) (right : TableRight t) (few : length t.rules ≤ 64) where
  pub replays : (ds : List Deed) (c e : State) → Goes t c (map act_of ds) e → Agains t c ds → Sound t.sizes c → All (λ a. RuleKnown t a.move) ds
      → All EndsSome ds
      → Replays t c (map act_of ds)
  replays [] c e g A sound known sm = tt
  replays (a ∷ ds) c e g A sound known sm =
      let m = again c (act_of a) a.move in
      let rule : RuleKnown t m = again-known t c (act_of a) a.move known.0 in
      let held : Holdable t m = (all-holdable t right few 0 c (m ∷ []) (applied t 1 c m) (g.0, refl) sound (rule, tt)).0 in
      let still = subst (Sound t.sizes) (sym (after-allowed t (suc a.place) c m g.0)) (applied-keeps right sound (suc a.place) m rule g.0) in (
        record {
          form = words-ok t m held;
          words = words_back t m held;
          allows = g.0;
          owner = λ en o h. again-owner c A.0 a.picks A.1.same en o (subst (λ (l : List Origin). is_in_o o l ≡ true) (sm.0 en).0 h);
          present = λ en. (sm.0 en).1;
        },
        replays ds (after t (suc a.place) c m) e g.1 A.2 still known.1 sm.1,
      )
